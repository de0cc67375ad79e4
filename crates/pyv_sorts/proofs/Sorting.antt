-- The one sort that each variable gets.
use Rattle.std.proofs.Common.{◌≡◌, ℕ, suc, ◌+◌, ◌<◌, ◌≤◌, ◌==◌, ◌⊎◌, inl, inr, Bool, true, false, cond, nat_eq, List, [], ◌∷◌, length, get_or, drop, refl, sym, ap, ◌∙◌, subst, arith, Option, Some, None}
use Rattle.std.proofs.lemmas.Bool.{eqb-true, eqb-false, eq-eqb}
use Rattle.std.specs.List.{AllByRecursion}
use Rattle.indexmap.specs.IndexMap.{IndexMap, get}
use Rattle.pyv_meaning.specs.declared.fault.SortFault.{SortFault}
use Rattle.pyv_meaning.specs.declared.fault.SortFault.TheVariants.{NoSort, SortClash}
use Rattle.pyv_meaning.specs.declared.variable.Use.{Use}
use Rattle.pyv_meaning.specs.declared.variable.Use.TheVariants.{Binder, Is, Alike}
use Rattle.pyv_meaning.specs.Gets.{Among, here, there, Gets, GetsOnly, GetsNone, GetsTwo, IsFirstUnsorted, binders}
use Rattle.pyv_meaning.specs.Scope.{or_zero}
use Rattle.pyv_meaning.proofs.Basics.{first_or}
use Rattle.pyv_sorts.specs.declared.mark.Mark.{Mark}
use Rattle.pyv_sorts.specs.declared.mark.Mark.TheVariants.{Nothing, One, Two}
use Rattle.pyv_sorts.specs.Inferring.{named, place_in, mark, Classing, sort_in, AreSorted}
use Rattle.pyv_sorts.proofs.Marking.{Stands, stands_gets}
use Rattle.pyv_sorts.proofs.Naming.{front, drop_all, nothing}
use Rattle.pyv_sorts.proofs.Uniting.{either, same_or_not}

-- what the mark at a variable's place says
pub stands_at : (us : List Use) (vs : List ℕ) (f : ℕ → ℕ) (ms : List Mark) (n : ℕ) → Classing us [] vs (λ v. f (place_in vs v)) → ((v : ℕ) → Among v (named us) → Among v vs)
    → ((c : ℕ) → c < n → get_or ms c Nothing ≡ mark (λ v. f (place_in vs v)) c Nothing us) → (v k : ℕ) → Among v vs → k < n → k ≡ f (place_in vs v) → Stands (get_or ms k Nothing) (Gets us v)
stands_at us vs f ms n h known marks v k in_v lt root =
    subst (λ m. Stands m (Gets us v)) (sym (marks k lt ∙ ap (λ c. mark (λ v. f (place_in vs v)) c Nothing us) root)) (stands_gets us vs (λ v. f (place_in vs v)) h known v in_v)

pub none_at : (us : List Use) (v : ℕ) (m : Mark) → m ≡ Nothing → Stands m (Gets us v) → GetsNone us v
none_at us v m e h = subst (λ n. Stands n (Gets us v)) e h

pub only_at : (us : List Use) (v s : ℕ) (m : Mark) → m ≡ One s → Stands m (Gets us v) → GetsOnly us v s
only_at us v s m e h = let k = subst (λ n. Stands n (Gets us v)) e h in record { gets = k.0; only = k.1 }

pub two_at : (us : List Use) (v : ℕ) (m : Mark) → m ≡ Two → Stands m (Gets us v) → GetsTwo us v
two_at us v m e h = let k = subst (λ n. Stands n (Gets us v)) e h in record { one = k.0; other = k.1; gets_one = k.2; gets_other = k.3; differ = k.4 }

skips : (u : Use) (us : List Use) → ((v : ℕ) → u ≡ Binder v → ⊥) → binders (u ∷ us) ≡ binders us
skips (Binder v) us other = absurd (other v refl)
skips (Is v s) us other = refl
skips (Alike v w) us other = refl

module _ (us : List Use) (i : ℕ) (d : Use) (lt : i < length us) where
  at_binder : (v : ℕ) → get_or us i d ≡ Binder v → binders (drop i us) ≡ v ∷ binders (drop (i + 1) us)
  at_binder v e = ap binders (front us i (Binder v) d lt e)

  -- no variable is bound here
  pub past : ((v : ℕ) → get_or us i d ≡ Binder v → ⊥) → binders (drop (i + 1) us) ≡ binders (drop i us)
  past other = sym (ap binders (front us i (get_or us i d) d lt refl) ∙ skips (get_or us i d) (drop (i + 1) us) other)

  module _ (v : ℕ) (e : get_or us i d ≡ Binder v) where
    pub here_none : GetsNone us v → IsFirstUnsorted us (binders (drop i us)) (NoSort v)
    here_none g = rw (at_binder v e) (inl (refl, g))

    pub here_two : GetsTwo us v → IsFirstUnsorted us (binders (drop i us)) (SortClash v)
    here_two g = rw (at_binder v e) (inr (inl (refl, g)))

    pub here_one : (s : ℕ) (f : SortFault) → GetsOnly us v s → IsFirstUnsorted us (binders (drop (i + 1) us)) f → IsFirstUnsorted us (binders (drop i us)) f
    here_one s f g h = rw (at_binder v e) (inr (inr ((s, g), h)))

    -- the sorts with one more
    pub one_more : (old new : ℕ → ℕ) (s : ℕ) → GetsOnly us v s → new v ≡ s → ((x : ℕ) → (v ≡ x → ⊥) → new x ≡ old x)
        → ((x : ℕ) → Among x (binders us) → GetsOnly us x (old x) ⊎ Among x (binders (drop i us))) → (x : ℕ) → Among x (binders us) → GetsOnly us x (new x) ⊎ Among x (binders (drop (i + 1) us))
    one_more old new s g is same h x m =
        elim (same_or_not v x) [
          | inl eq ↦ inl (subst (λ z. GetsOnly us z (new z)) eq (subst (λ r. GetsOnly us v r) (sym is) g))
          | inr n ↦
              elim (h x m) [
                | inl k ↦ inl (subst (λ r. GetsOnly us x r) (sym (same x n)) k)
                | inr b ↦ elim (first_or x v (binders (drop (i + 1) us)) (subst (λ xs. Among x xs) (at_binder v e) b)) [ inl q ↦ absurd (n (sym q)) | inr r ↦ inr r ]
              ]
        ]

all_in : (P : ℕ → Type 0) (vs : List ℕ) → ((v : ℕ) → Among v vs → P v) → AllByRecursion P vs
all_in P [] h = tt
all_in P (v ∷ vs) h = (h v (here v vs), all_in P vs (λ w m. h w (there w v vs m)))

-- all variables are looked through
pub all_sorted : (us : List Use) (i : ℕ) (sort_of : ℕ → ℕ) → length us ≤ i → ((x : ℕ) → Among x (binders us) → GetsOnly us x (sort_of x) ⊎ Among x (binders (drop i us))) → AreSorted us sort_of
all_sorted us i sort_of le h = all_in (λ v. GetsOnly us v (sort_of v)) (binders us) (λ v m. elim (h v m) [
  | inl g ↦ g
  | inr b ↦ absurd (nothing v (subst (λ xs. Among v (binders xs)) (drop_all us i le) b))
])

-- the sorts behind an insertion
module _ {S : Type 0} (old new : IndexMap ℕ ℕ S) (v s : ℕ) (h : (x : ℕ) → get nat_eq new x ≡ cond (nat_eq v x) (Some s) (get nat_eq old x)) where
  hit : cond (nat_eq v v) (Some s) (get nat_eq old v) ≡ Some s
  hit = rw (eq-eqb v v refl) refl

  miss : (x : ℕ) → (v ≡ x → ⊥) → cond (nat_eq v x) (Some s) (get nat_eq old x) ≡ get nat_eq old x
  miss x n = elim (either (nat_eq v x)) [ inl t ↦ absurd (n (eqb-true v x t)) | inr f ↦ rw f refl ]

  pub found_new : sort_in new v ≡ s
  found_new = ap or_zero (h v ∙ hit)

  pub found_old : (x : ℕ) → (v ≡ x → ⊥) → sort_in new x ≡ sort_in old x
  found_old x n = ap or_zero (h x ∙ miss x n)

-- The variables that uses name, and their places.
use Rattle.std.proofs.Common.{◌≡◌, ℕ, suc, zero, ◌+◌, ◌<◌, ◌≤◌, ◌==◌, ◌⊎◌, ◌++◌, inl, inr, Bool, true, false, cond, List, [], ◌∷◌, length, get_or, drop, refl, sym, ap, ◌∙◌, subst, arith, drop-cons, add-one, Some, None, Option, option_map, nat_eq}
use Rattle.std.proofs.lemmas.Bool.{eqb-true, eqb-false, eq-eqb}
use Rattle.std.specs.List.{position, list_any}
use Rattle.indexmap.specs.IndexSet.{insert_key}
use Rattle.pyv_meaning.specs.declared.variable.Use.{Use}
use Rattle.pyv_meaning.specs.declared.variable.Use.TheVariants.{Binder, Is, Alike}
use Rattle.pyv_meaning.specs.Gets.{Among, here, there}
use Rattle.pyv_meaning.proofs.Basics.{among_left, among_right, among_either, first_or}
use Rattle.pyv_sorts.specs.Inferring.{named, place_in}
use Rattle.pyv_sorts.proofs.Uniting.{either}
use Rattle.pyv_sorts.proofs.Wording.{position-cons}

-- ---- what is left of a list

pub front : {A : Type 0} (xs : List A) (i : ℕ) (x d : A) → i < length xs → get_or xs i d ≡ x → drop i xs ≡ x ∷ drop (i + 1) xs
front {A = A} xs i x d h e = rw (add-one) (drop-cons xs i d h ∙ ap (λ (y : A). y ∷ drop (suc i) xs) e)

pub drop_all : {A : Type 0} (xs : List A) (i : ℕ) → length xs ≤ i → drop i xs ≡ []
drop_all {A = A} [] zero le = refl
drop_all {A = A} [] (suc i) le = refl
drop_all {A = A} (x ∷ xs) zero le = absurd (omega arith)
drop_all {A = A} (x ∷ xs) (suc i) le = drop_all xs i (omega arith)

pub at_index : {A : Type 0} (xs : List A) (i : ℕ) (x d : A) → i < length xs → get_or xs i d ≡ x → Among x xs
at_index {A = A} [] i x d h e = absurd (omega arith)
at_index {A = A} (y ∷ xs) zero x d h e = subst (λ z. Among x (z ∷ xs)) (sym e) (here x xs)
at_index {A = A} (y ∷ xs) (suc i) x d h e = there x y xs (at_index xs i x d (omega arith) e)

pub nothing : {A : Type 0} (x : A) → Among x [] → ⊥
nothing {A = A} x m = elim m [ ]

-- ---- named variables

pub split_named : (x : Use) (us : List Use) (v : ℕ) → Among v (named (x ∷ us)) → Among v (named (x ∷ [])) ⊎ Among v (named us)
split_named (Binder w) us v m = among_either v (w ∷ []) (named us) m
split_named (Is w s) us v m = among_either v (w ∷ []) (named us) m
split_named (Alike w z) us v m = among_either v (w ∷ z ∷ []) (named us) m

pub named_more : (x : Use) (us : List Use) (v : ℕ) → Among v (named us) → Among v (named (x ∷ us))
named_more (Binder w) us v m = there v w _ m
named_more (Is w s) us v m = there v w _ m
named_more (Alike w z) us v m = there v w _ (there v z _ m)

pub named_binder : (v : ℕ) (us : List Use) → Among (Binder v) us → Among v (named us)
named_binder v _ (here x us) = here _ _
named_binder v _ (there x y us m) = named_more y us v (named_binder v us m)

pub named_is : (v s : ℕ) (us : List Use) → Among (Is v s) us → Among v (named us)
named_is v s _ (here x us) = here _ _
named_is v s _ (there x y us m) = named_more y us v (named_is v s us m)

pub named_alike : (v w : ℕ) (us : List Use) → Among (Alike v w) us → Among v (named us) × Among w (named us)
named_alike v w _ (here x us) = (here _ _, there _ _ _ (here _ _))
named_alike v w _ (there x y us m) = let r = named_alike v w us m in (named_more y us v r.0, named_more y us w r.1)

-- one more use is looked through
pub named_step : (us : List Use) (i : ℕ) (d : Use) (ks ns : List ℕ) → i < length us → ((v : ℕ) → Among v (named us) → Among v ks ⊎ Among v (named (drop i us))) → ((v : ℕ) → Among v ks → Among v ns)
    → ((v : ℕ) → Among v (named (get_or us i d ∷ [])) → Among v ns) → (v : ℕ) → Among v (named us) → Among v ns ⊎ Among v (named (drop (i + 1) us))
named_step us i d ks ns lt h keep new v m =
    elim (h v m) [
      | inl a ↦ inl (keep v a)
      | inr b ↦
          elim (split_named (get_or us i d) (drop (i + 1) us) v (subst (λ xs. Among v (named xs)) (front us i (get_or us i d) d lt refl) b)) [
            | inl n ↦ inl (new v n)
            | inr r ↦ inr r
          ]
    ]

pub named_end : (us : List Use) (i : ℕ) (ks : List ℕ) → length us ≤ i → ((v : ℕ) → Among v (named us) → Among v ks ⊎ Among v (named (drop i us))) → (v : ℕ) → Among v (named us) → Among v ks
named_end us i ks le h v m = elim (h v m) [ inl a ↦ a | inr b ↦ absurd (nothing v (subst (λ xs. Among v (named xs)) (drop_all us i le) b)) ]

-- ---- the keys of a set

any_among : (v : ℕ) (ks : List ℕ) → list_any (nat_eq v) ks ≡ true → Among v ks
any_among v [] e = absurd (cc)
any_among v (k ∷ ks) e =
    elim (either (nat_eq v k)) [
      | inl t ↦ subst (λ z. Among v (z ∷ ks)) (eqb-true v k t) (here v ks)
      | inr f ↦ there v k ks (any_among v ks (sym (rw f refl) ∙ e))
    ]

pub key_kept : (ks : List ℕ) (k v : ℕ) → Among v ks → Among v (insert_key nat_eq ks k)
key_kept ks k v m = elim (either (list_any (nat_eq k) ks)) [ inl t ↦ rw t m | inr f ↦ rw f (among_left v ks (k ∷ []) m) ]

pub key_new : (ks : List ℕ) (k : ℕ) → Among k (insert_key nat_eq ks k)
key_new ks k = elim (either (list_any (nat_eq k) ks)) [ inl t ↦ rw t (any_among k ks t) | inr f ↦ rw f (among_right k ks (k ∷ []) (here k [])) ]

-- ---- places

pub found_place : (v : ℕ) (vs : List ℕ) → Among v vs → (k : ℕ) × (position (nat_eq v) vs ≡ Some k) × (get_or vs k 0 ≡ v)
found_place v _ (here _ vs) = (0, position-cons (nat_eq v) v vs ∙ rw (eq-eqb v v refl) refl, refl)
found_place v _ (there _ y vs m) =
    let r = found_place v vs m in
    elim (either (nat_eq v y)) [
      | inl t ↦ (0, position-cons (nat_eq v) y vs ∙ rw t refl, sym (eqb-true v y t))
      | inr f ↦ (suc r.0, position-cons (nat_eq v) y vs ∙ rw (f, r.1) refl, r.2)
    ]

pub at_place : (v : ℕ) (vs : List ℕ) → Among v vs → get_or vs (place_in vs v) 0 ≡ v
at_place v vs m = let r = found_place v vs m in rw r.1 r.2

pub same_place : (vs : List ℕ) (v w : ℕ) → Among v vs → Among w vs → place_in vs v ≡ place_in vs w → v ≡ w
same_place vs v w a b e = sym (at_place v vs a) ∙ ap (λ k. get_or vs k 0) e ∙ at_place w vs b

single : (v x : ℕ) → Among x (v ∷ []) → x ≡ v
single v x m = elim (first_or x v [] m) [ inl e ↦ e | inr n ↦ absurd (nothing x n) ]

new_one : (ks : List ℕ) (v x : ℕ) → Among x (v ∷ []) → Among x (insert_key nat_eq ks v)
new_one ks v x m = subst (λ z. Among z (insert_key nat_eq ks v)) (sym (single v x m)) (key_new ks v)

new_pair : (ks : List ℕ) (v w x : ℕ) → Among x (v ∷ w ∷ []) → Among x (insert_key nat_eq (insert_key nat_eq ks v) w)
new_pair ks v w x m =
    elim (first_or x v (w ∷ []) m) [
      | inl e ↦ subst (λ z. Among z (insert_key nat_eq (insert_key nat_eq ks v) w)) (sym e) (key_kept (insert_key nat_eq ks v) w v (key_new ks v))
      | inr n ↦ new_one (insert_key nat_eq ks v) w x n
    ]

-- the keys behind one more use
module _ (us : List Use) (i : ℕ) (d : Use) (ks : List ℕ) (lt : i < length us) (h : (v : ℕ) → Among v (named us) → Among v ks ⊎ Among v (named (drop i us))) where
  pub one_named : (v : ℕ) (ns : List ℕ) → ns ≡ insert_key nat_eq ks v → (get_or us i d ≡ Binder v) ⊎ ((s : ℕ) × (get_or us i d ≡ Is v s)) → (x : ℕ) → Among x (named us) → Among x ns ⊎ Among x (named (drop (i + 1) us))
  one_named v ns e u =
      rw e (named_step us i d ks (insert_key nat_eq ks v) lt h (λ x m. key_kept ks v x m) (λ x m. new_one ks v x (elim u [
        | inl b ↦ subst (λ y. Among x (named (y ∷ []))) b m
        | inr b ↦ subst (λ y. Among x (named (y ∷ []))) b.1 m
      ])))

  pub two_named : (v w : ℕ) (ns ms : List ℕ) → ms ≡ insert_key nat_eq ks v → ns ≡ insert_key nat_eq ms w → get_or us i d ≡ Alike v w → (x : ℕ) → Among x (named us) → Among x ns ⊎ Among x (named (drop (i + 1) us))
  two_named v w ns ms e f u =
      rw (f, e) (named_step us i d ks (insert_key nat_eq (insert_key nat_eq ks v) w) lt h (λ x m. key_kept (insert_key nat_eq ks v) w x (key_kept ks v x m)) (λ x m. new_pair ks v w x (subst (λ y. Among x (named (y ∷ []))) u m)))

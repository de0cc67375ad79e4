-- What the marks of classes stand for.
use Rattle.std.proofs.Common.{◌≡◌, ◌≢◌, ℕ, suc, ◌+◌, ◌<◌, ◌≤◌, ◌==◌, ◌⊎◌, ◌↔◌, inl, inr, Bool, true, false, cond, List, [], ◌∷◌, length, get_or, set, drop, refl, sym, ap, ◌∙◌, subst, arith}
use Rattle.std.proofs.lemmas.Bool.{eqb-true, eqb-false, eq-eqb}
use Rattle.std.proofs.lemmas.List.{get_or-set_same, get_or-set_other}
use Rattle.pyv_meaning.specs.declared.variable.Use.{Use}
use Rattle.pyv_meaning.specs.declared.variable.Use.TheVariants.{Binder, Is, Alike}
use Rattle.pyv_meaning.specs.Gets.{Among, here, there, Gets, itself, along, back}
use Rattle.pyv_meaning.proofs.Basics.{first_or}
use Rattle.pyv_sorts.specs.declared.mark.Mark.{Mark}
use Rattle.pyv_sorts.specs.declared.mark.Mark.TheVariants.{Nothing, One, Two}
use Rattle.pyv_sorts.specs.Inferring.{named, place_in, add, mark, Classing}
use Rattle.pyv_sorts.proofs.Naming.{front, drop_all, nothing, named_is}
use Rattle.pyv_sorts.proofs.Uniting.{either, same_or_not}

-- ---- marks, use by use

module _ (class : ℕ → ℕ) (c : ℕ) where
  mark_other : (m : Mark) (x : Use) (us : List Use) → ((v s : ℕ) → x ≡ Is v s → ⊥) → mark class c m (x ∷ us) ≡ mark class c m us
  unfolding mark
  mark_other m (Binder v) us not_it = refl
  mark_other m (Is v s) us not_it = absurd (not_it v s refl)
  mark_other m (Alike v w) us not_it = refl

  mark_in : (m : Mark) (v s : ℕ) (us : List Use) → class v ≡ c → mark class c m (Is v s ∷ us) ≡ mark class c (add m s) us
  unfolding mark
  mark_in m v s us e = rw (mark, eq-eqb (class v) c e) refl

  mark_out : (m : Mark) (v s : ℕ) (us : List Use) → class v ≢ c → mark class c m (Is v s ∷ us) ≡ mark class c m us
  unfolding mark
  mark_out m v s us n = elim (either (class v == c)) [ inl t ↦ absurd (n (eqb-true (class v) c t)) | inr f ↦ rw (mark, f) refl ]

  mark_none : (m : Mark) → mark class c m [] ≡ m
  unfolding mark
  mark_none m = refl

  pub mark_ended : (m : Mark) (us : List Use) (i : ℕ) → length us ≤ i → mark class c m (drop i us) ≡ m
  mark_ended m us i le = ap (mark class c m) (drop_all us i le) ∙ mark_none m

module _ (class : ℕ → ℕ) (us : List Use) (i : ℕ) (d : Use) (lt : i < length us) where
  pub mark_passes : (c : ℕ) (m : Mark) → ((v s : ℕ) → get_or us i d ≡ Is v s → ⊥) → mark class c m (drop (i + 1) us) ≡ mark class c m (drop i us)
  mark_passes c m not_it = sym (ap (mark class c m) (front us i (get_or us i d) d lt refl) ∙ mark_other class c m (get_or us i d) (drop (i + 1) us) not_it)

  -- the marks once the one of the variable's class has the sort
  pub mark_adds : (ms : List Mark) (v s k c : ℕ) → get_or us i d ≡ Is v s → k ≡ class v → k < length ms
      → mark class c (get_or (set ms k (add (get_or ms k Nothing) s)) c Nothing) (drop (i + 1) us) ≡ mark class c (get_or ms c Nothing) (drop i us)
  mark_adds ms v s k c is e wide =
      let rest = ap (mark class c (get_or ms c Nothing)) (front us i (Is v s) d lt is) in
      elim (same_or_not c k) [
        | inl same ↦
            let set_here : get_or (set ms k (add (get_or ms k Nothing) s)) c Nothing ≡ add (get_or ms c Nothing) s =
            ap (λ n. get_or (set ms k (add (get_or ms k Nothing) s)) n Nothing) same ∙ get_or-set_same ms k (add (get_or ms k Nothing) s) Nothing wide ∙ ap (λ n. add (get_or ms n Nothing) s) (sym same) in
            ap (λ m. mark class c m (drop (i + 1) us)) set_here ∙ sym (mark_in class c (get_or ms c Nothing) v s (drop (i + 1) us) (sym e ∙ sym same)) ∙ sym rest
        | inr other ↦
            ap (λ m. mark class c m (drop (i + 1) us)) (get_or-set_other ms k c (add (get_or ms k Nothing) s) Nothing other)
            ∙ sym (mark_out class c (get_or ms c Nothing) v s (drop (i + 1) us) (λ h. other (sym h ∙ sym e))) ∙ sym rest
      ]

-- ---- what they stand for

-- the sorts that the mark stands for are those of P
abbrev pub Stands : Mark → (ℕ → Type 0) → Type 0
Stands Nothing P = (s : ℕ) → P s → ⊥
Stands (One s) P = P s × ((r : ℕ) → P r → r ≡ s)
Stands Two P = (a b : ℕ) × P a × P b × (a ≡ b → ⊥)

stands_same : (m : Mark) (P Q : ℕ → Type 0) → ((r : ℕ) → P r ↔ Q r) → Stands m P → Stands m Q
stands_same Nothing P Q e h = λ s q. h s ((e s).1 q)
stands_same (One s) P Q e h = ((e s).0 h.0, λ r q. h.1 r ((e r).1 q))
stands_same Two P Q e h = (h.0, h.1, (e h.0).0 h.2, (e h.1).0 h.3, h.4)

stands_add : (m : Mark) (P : ℕ → Type 0) (s : ℕ) → Stands m P → Stands (add m s) (λ r. P r ⊎ (r ≡ s))
stands_add Nothing P s h = (inr refl, λ r p. elim p [ inl q ↦ absurd (h r q) | inr e ↦ e ])
stands_add (One a) P s h =
    let Q : ℕ → Type 0 = λ r. P r ⊎ (r ≡ s) in
    elim (either (a == s)) [
      | inl t ↦ rw t (inl h.0, λ r p. elim p [ inl q ↦ h.1 r q | inr e ↦ e ∙ sym (eqb-true a s t) ])
      | inr t ↦ rw t (a, s, inl h.0, inr refl, eqb-false a s t)
    ]
stands_add Two P s h = (h.0, h.1, inl h.2, inl h.3, h.4)

module _ (class : ℕ → ℕ) (c : ℕ) where
  -- the sorts that variables of the class get by themselves
  abbrev Given : List Use → ℕ → Type 0
  Given us r = (u : ℕ) × Among (Is u r) us × (class u ≡ c)

  behind : (x : Use) (us : List Use) (r : ℕ) → Given us r → Given (x ∷ us) r
  behind x us r g = (g.0, there _ _ _ g.1, g.2)

  unless_first : (x : Use) (us : List Use) (r : ℕ) → ((v s : ℕ) → x ≡ Is v s → ⊥) → Given (x ∷ us) r → Given us r
  unless_first x us r not_it g = (g.0, elim (first_or (Is g.0 r) x us g.1) [ inl e ↦ absurd (not_it g.0 r (sym e)) | inr m ↦ m ], g.2)

  is_variable : (a b r s : ℕ) → Is a r ≡ Is b s → a ≡ b
  is_variable a b r s e = cc

  is_sort : (a b r s : ℕ) → Is a r ≡ Is b s → r ≡ s
  is_sort a b r s e = cc

  counted : (v s : ℕ) (us : List Use) (P : ℕ → Type 0) (r : ℕ) → class v ≡ c → ((P r ⊎ (r ≡ s)) ⊎ Given us r) ↔ (P r ⊎ Given (Is v s ∷ us) r)
  counted v s us P r t = (
    λ q. elim q [ inl a ↦ elim a [ inl p ↦ inl p | inr e ↦ inr (v, subst (λ z. Among (Is v z) (Is v s ∷ us)) (sym e) (here _ _), t) ] | inr g ↦ inr (behind (Is v s) us r g) ],
    λ q. elim q [ inl p ↦ inl (inl p) | inr g ↦ elim (first_or (Is g.0 r) (Is v s) us g.1) [ inl e ↦ inl (inr (is_sort g.0 v r s e)) | inr m ↦ inr (g.0, m, g.2) ] ],
  )

  passed : (v s : ℕ) (us : List Use) (P : ℕ → Type 0) (r : ℕ) → class v ≢ c → (P r ⊎ Given us r) ↔ (P r ⊎ Given (Is v s ∷ us) r)
  passed v s us P r n = (
    λ q. elim q [ inl p ↦ inl p | inr g ↦ inr (behind (Is v s) us r g) ],
    λ q. elim q [ inl p ↦ inl p | inr g ↦ elim (first_or (Is g.0 r) (Is v s) us g.1) [ inl e ↦ absurd (n (ap class (sym (is_variable g.0 v r s e)) ∙ g.2)) | inr m ↦ inr (g.0, m, g.2) ] ],
  )

  skipped : (x : Use) (us : List Use) (P : ℕ → Type 0) (r : ℕ) → ((v s : ℕ) → x ≡ Is v s → ⊥) → (P r ⊎ Given us r) ↔ (P r ⊎ Given (x ∷ us) r)
  skipped x us P r not_it = (
    λ q. elim q [ inl p ↦ inl p | inr g ↦ inr (behind x us r g) ],
    λ q. elim q [ inl p ↦ inl p | inr g ↦ inr (unless_first x us r not_it g) ],
  )

  not_binder : (a v s : ℕ) → Binder a ≡ Is v s → ⊥
  not_binder a v s e = absurd (cc)

  not_alike : (a b v s : ℕ) → Alike a b ≡ Is v s → ⊥
  not_alike a b v s e = absurd (cc)

  stands_mark : (us : List Use) (m : Mark) (P : ℕ → Type 0) → Stands m P → Stands (mark class c m us) (λ r. P r ⊎ Given us r)
  stands_mark [] m P h = subst (λ n. Stands n (λ r. P r ⊎ Given [] r)) (sym (mark_none class c m)) (stands_same m P (λ r. P r ⊎ Given [] r) (λ r. (λ p. inl p, λ q. elim q [ inl p ↦ p | inr g ↦ absurd (nothing (Is g.0 r) g.1) ])) h)
  stands_mark (Is v s ∷ us) m P h =
      elim (same_or_not (class v) c) [
        | inl t ↦ subst (λ n. Stands n (λ r. P r ⊎ Given (Is v s ∷ us) r)) (sym (mark_in class c m v s us t))
            (stands_same (mark class c (add m s) us) (λ r. (P r ⊎ (r ≡ s)) ⊎ Given us r) (λ r. P r ⊎ Given (Is v s ∷ us) r) (λ r. counted v s us P r t) (stands_mark us (add m s) (λ r. P r ⊎ (r ≡ s)) (stands_add m P s h)))
        | inr n ↦ subst (λ k. Stands k (λ r. P r ⊎ Given (Is v s ∷ us) r)) (sym (mark_out class c m v s us n))
            (stands_same (mark class c m us) (λ r. P r ⊎ Given us r) (λ r. P r ⊎ Given (Is v s ∷ us) r) (λ r. passed v s us P r n) (stands_mark us m P h))
      ]
  stands_mark (Binder a ∷ us) m P h = subst (λ k. Stands k (λ r. P r ⊎ Given (Binder a ∷ us) r)) (sym (mark_other class c m (Binder a) us (not_binder a)))
      (stands_same (mark class c m us) (λ r. P r ⊎ Given us r) (λ r. P r ⊎ Given (Binder a ∷ us) r) (λ r. skipped (Binder a) us P r (not_binder a)) (stands_mark us m P h))
  stands_mark (Alike a b ∷ us) m P h = subst (λ k. Stands k (λ r. P r ⊎ Given (Alike a b ∷ us) r)) (sym (mark_other class c m (Alike a b) us (not_alike a b)))
      (stands_same (mark class c m us) (λ r. P r ⊎ Given us r) (λ r. P r ⊎ Given (Alike a b ∷ us) r) (λ r. skipped (Alike a b) us P r (not_alike a b)) (stands_mark us m P h))

-- what a variable gets, some variable of its class gets by itself
gets_given : (us : List Use) (vs : List ℕ) (class : ℕ → ℕ) → Classing us [] vs class → (v s : ℕ) → Gets us v s → Given class (class v) us s
gets_given us vs class h _ _ (itself v s m) = (v, m, refl)
gets_given us vs class h _ _ (along v w s m g) =
    let k = gets_given us vs class h w s g in
    (k.0, k.1, k.2 ∙ sym (elim (h.joins v w m) [ inl e ↦ e | inr r ↦ absurd (nothing (Alike v w) r) ]))
gets_given us vs class h _ _ (back v w s m g) =
    let k = gets_given us vs class h v s g in
    (k.0, k.1, k.2 ∙ elim (h.joins v w m) [ inl e ↦ e | inr r ↦ absurd (nothing (Alike v w) r) ])

-- The mark of a variable's class stands for the sorts that the variable gets.
pub stands_gets : (us : List Use) (vs : List ℕ) (class : ℕ → ℕ) → Classing us [] vs class → ((v : ℕ) → Among v (named us) → Among v vs) → (v : ℕ) → Among v vs → Stands (mark class (class v) Nothing us) (Gets us v)
stands_gets us vs class h known v in_v =
    stands_same (mark class (class v) Nothing us) (λ r. ⊥ ⊎ Given class (class v) us r) (Gets us v)
    (λ r. (
      λ q. elim q [ inl p ↦ absurd p | inr g ↦ h.keeps g.0 v (known g.0 (named_is g.0 r us g.1)) in_v g.2 r (itself g.0 r g.1) ],
      λ g. inr (gets_given us vs class h v r g),
    )) (stands_mark class (class v) us Nothing (λ r. ⊥) (λ r p. p))

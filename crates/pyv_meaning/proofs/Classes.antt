-- Each variable gets no sort, one, or two.
use Rattle.std.proofs.Common.{◌≡◌, ℕ, ◌==◌, ◌⊎◌, false, cond, List, [], ◌∷◌, refl, sym, ap, ◌∙◌, subst, inl, inr}
use Rattle.std.proofs.lemmas.Bool.{eqb-true, eqb-false, eq-eqb}
use Rattle.pyv_meaning.specs.declared.variable.Use.{Use}
use Rattle.pyv_meaning.specs.declared.variable.Use.TheVariants.{Binder, Is, Alike}
use Rattle.pyv_meaning.specs.Gets.{Among, here, there, Gets, itself, along, back, GetsOnly, GetsNone, GetsTwo}
use Rattle.pyv_meaning.proofs.Basics.{true_or_false, first_or}

-- the classes once those of v and w are one
abbrev joined : (ℕ → ℕ) → ℕ → ℕ → ℕ → ℕ
joined f v w x = cond (f x == f v) (f w) (f x)

-- Classes by which variables are together only where they get the same sorts, and which keep alike ones together, but for
-- those that are left.
record AreClasses (us rest : List Use) (f : ℕ → ℕ) : Type 0 where
  pub together : (v w : ℕ) → Among (Alike v w) us → (f v ≡ f w) ⊎ Among (Alike v w) rest
  pub same : (x y s : ℕ) → f x ≡ f y → Gets us x s → Gets us y s

module _ (us : List Use) where
  moved : (f : ℕ → ℕ) (v w x : ℕ) → f x ≡ f v → joined f v w x ≡ f w
  moved f v w x e = rw (eq-eqb (f x) (f v) e) refl

  stays : (f : ℕ → ℕ) (v w x : ℕ) → (f x == f v) ≡ false → joined f v w x ≡ f x
  stays f v w x e = rw e refl

  meets : (f : ℕ → ℕ) (v w : ℕ) → joined f v w v ≡ joined f v w w
  meets f v w = moved f v w v refl ∙ sym (elim (true_or_false (f w == f v)) [ inl e ↦ moved f v w w (eqb-true (f w) (f v) e) | inr e ↦ stays f v w w e ])

  joined_same : (f : ℕ → ℕ) (v w : ℕ) → Among (Alike v w) us → ((x y s : ℕ) → f x ≡ f y → Gets us x s → Gets us y s) → (x y s : ℕ) → joined f v w x ≡ joined f v w y → Gets us x s → Gets us y s
  joined_same f v w m k x y s e g =
      elim (true_or_false (f x == f v)) [
        | inl a ↦
            let at : f x ≡ f v = eqb-true (f x) (f v) a in
            elim (true_or_false (f y == f v)) [
              | inl b ↦ k x y s (at ∙ sym (eqb-true (f y) (f v) b)) g
              | inr b ↦ k w y s (sym (moved f v w x at) ∙ e ∙ stays f v w y b) (back v w s m (k x v s at g))
            ]
        | inr a ↦ elim (true_or_false (f y == f v)) [
          | inl b ↦ let at : f y ≡ f v = eqb-true (f y) (f v) b in k v y s (sym at) (along v w s m (k x w s (sym (stays f v w x a) ∙ e ∙ moved f v w y at) g))
          | inr b ↦ k x y s (sym (stays f v w x a) ∙ e ∙ stays f v w y b) g
        ]
      ]

  -- classes can be joined until no equality is left
  classes : (rest : List Use) (f : ℕ → ℕ) → ((v w : ℕ) → Among (Alike v w) rest → Among (Alike v w) us) → AreClasses us rest f → (g : ℕ → ℕ) × AreClasses us [] g
  classes [] f sub c = (f, c)
  classes (Binder v ∷ rest) f sub c = classes rest f (λ a b m. sub a b (there _ _ _ m))
      (record { together = λ a b m. elim (c.together a b m) [ inl e ↦ inl e | inr q ↦ inr (past (Binder v) a b rest (λ e. absurd (cc)) q) ]; same = c.same })
    where
      past : (u : Use) (a b : ℕ) (rest : List Use) → (Alike a b ≡ u → ⊥) → Among (Alike a b) (u ∷ rest) → Among (Alike a b) rest
      past u a b rest n q = elim (first_or (Alike a b) u rest q) [ inl e ↦ absurd (n e) | inr m ↦ m ]
  classes (Is v s ∷ rest) f sub c = classes rest f (λ a b m. sub a b (there _ _ _ m))
      (record { together = λ a b m. elim (c.together a b m) [ inl e ↦ inl e | inr q ↦ inr (past (Is v s) a b rest (λ e. absurd (cc)) q) ]; same = c.same })
    where
      past : (u : Use) (a b : ℕ) (rest : List Use) → (Alike a b ≡ u → ⊥) → Among (Alike a b) (u ∷ rest) → Among (Alike a b) rest
      past u a b rest n q = elim (first_or (Alike a b) u rest q) [ inl e ↦ absurd (n e) | inr m ↦ m ]
  classes (Alike v w ∷ rest) f sub c = classes rest (joined f v w) (λ a b m. sub a b (there _ _ _ m))
      (record {
        together = λ a b m. elim (c.together a b m) [
          | inl e ↦ inl (ap (λ (n : ℕ). cond (n == f v) (f w) n) e)
          | inr q ↦ elim (first_or (Alike a b) (Alike v w) rest q) [ inl e ↦ inl (both f v w a b e) | inr r ↦ inr r ]
        ];
        same = joined_same f v w (sub v w (here _ _)) c.same;
      })
    where
      both : (f : ℕ → ℕ) (v w a b : ℕ) → Alike a b ≡ Alike v w → joined f v w a ≡ joined f v w b
      both f v w a b e =
          let one : a ≡ v = cc in
          let two : b ≡ w = cc in
          ap (joined f v w) one ∙ meets f v w ∙ sym (ap (joined f v w) two)

  all_classes : (g : ℕ → ℕ) × AreClasses us [] g
  all_classes = classes us (λ x. x) (λ a b m. m) (record { together = λ a b m. inr m; same = λ x y s e g. subst (λ z. Gets us z s) e g })

  module _ (f : ℕ → ℕ) (c : AreClasses us [] f) where
    joins : (v w : ℕ) → Among (Alike v w) us → f v ≡ f w
    joins v w m = elim (c.together v w m) [ inl e ↦ e | inr q ↦ elim q [ ] ]

    -- a variable gets what a variable of its class is told to have
    told : (v s : ℕ) → Gets us v s → (u : ℕ) × Among (Is u s) us × (f u ≡ f v)
    told _ _ (itself v s m) = (v, m, refl)
    told _ _ (along v w s m g) = let k = told w s g in (k.0, k.1, k.2 ∙ sym (joins v w m))
    told _ _ (back v w s m g) = let k = told v s g in (k.0, k.1, k.2 ∙ joins v w m)

    -- what is told of the class of v in the front of the uses
    abbrev Here : List Use → ℕ → ℕ → Type 0
    Here front v s = (u : ℕ) × Among (Is u s) front × (f u ≡ f v)

    abbrev Several : List Use → ℕ → Type 0
    Several front v = ((s : ℕ) → Here front v s → ⊥) ⊎ ((s : ℕ) × Here front v s × ((r : ℕ) → Here front v r → r ≡ s)) ⊎ ((r s : ℕ) × Here front v r × Here front v s × (r ≡ s → ⊥))

    further : (u : Use) (front : List Use) (v s : ℕ) → Here front v s → Here (u ∷ front) v s
    further u front v s h = (h.0, there _ _ _ h.1, h.2)

    -- what is no news of the class changes nothing
    passed : (u : Use) (front : List Use) (v : ℕ) → ((s : ℕ) → Here (u ∷ front) v s → Here front v s) → Several front v → Several (u ∷ front) v
    passed u front v out h =
        elim h [
          | inl a ↦ inl (λ s k. a s (out s k))
          | inr r ↦ elim r [
            | inl a ↦ inr (inl (a.0, further u front v a.0 a.1, λ q k. a.2 q (out q k)))
            | inr a ↦ inr (inr (a.0, a.1, further u front v a.0 a.2, further u front v a.1 a.3, a.4))
          ]
        ]

    one_more : (w t : ℕ) (front : List Use) (v : ℕ) → f w ≡ f v → Several front v → Several (Is w t ∷ front) v
    one_more w t front v e h =
        elim h [
          | inl a ↦ inr (inl (t, new, λ r k. elim (either r k) [ inl q ↦ q | inr q ↦ absurd (a r q) ]))
          | inr d ↦ elim d [
            | inl a ↦ elim (true_or_false (a.0 == t)) [
              | inl q ↦ let same : a.0 ≡ t = eqb-true a.0 t q in inr (inl (t, new, λ r k. elim (either r k) [ inl i ↦ i | inr i ↦ a.2 r i ∙ same ]))
              | inr q ↦ inr (inr (a.0, t, further (Is w t) front v a.0 a.1, new, eqb-false a.0 t q))
            ]
            | inr a ↦ inr (inr (a.0, a.1, further (Is w t) front v a.0 a.2, further (Is w t) front v a.1 a.3, a.4))
          ]
        ]
      where
        new : Here (Is w t ∷ front) v t
        new = (w, here _ _, e)

        either : (r : ℕ) → Here (Is w t ∷ front) v r → (r ≡ t) ⊎ Here front v r
        either r k = elim (first_or (Is k.0 r) (Is w t) front k.1) [ inl q ↦ let same : r ≡ t = cc in inl same | inr m ↦ inr (k.0, m, k.2) ]

    several : (front : List Use) (v : ℕ) → Several front v
    several [] v = inl (λ s h. elim h.1 [ ])
    several (Binder w ∷ front) v = passed (Binder w) front v (λ s h. (h.0, elim (first_or (Is h.0 s) (Binder w) front h.1) [ inl e ↦ absurd (cc) | inr m ↦ m ], h.2)) (several front v)
    several (Alike w x ∷ front) v = passed (Alike w x) front v (λ s h. (h.0, elim (first_or (Is h.0 s) (Alike w x) front h.1) [ inl e ↦ absurd (cc) | inr m ↦ m ], h.2)) (several front v)
    several (Is w t ∷ front) v =
        elim (true_or_false (f w == f v)) [
          | inl e ↦ one_more w t front v (eqb-true (f w) (f v) e) (several front v)
          | inr e ↦ passed (Is w t) front v (λ s h. (h.0, elim (first_or (Is h.0 s) (Is w t) front h.1) [ inl q ↦ let same : h.0 ≡ w = cc in absurd (eqb-false (f w) (f v) e (ap f (sym same) ∙ h.2)) | inr m ↦ m ], h.2)) (several front v)
        ]

    gets_here : (v s : ℕ) → Here us v s → Gets us v s
    gets_here v s h = c.same h.0 v s h.2 (itself h.0 s h.1)

  -- A variable gets one sort, or none, or two.
  pub sorts_decided : (v : ℕ) → ((s : ℕ) × GetsOnly us v s) ⊎ GetsNone us v ⊎ GetsTwo us v
  sorts_decided v =
      let k = all_classes in
      elim (several k.0 k.1 us v) [
        | inl a ↦ inr (inl (λ s g. a s (told k.0 k.1 v s g)))
        | inr d ↦ elim d [
          | inl a ↦ inl (a.0, record { gets = gets_here k.0 k.1 v a.0 a.1; only = λ r g. a.2 r (told k.0 k.1 v r g) })
          | inr a ↦ inr (inr (record { one = a.0; other = a.1; gets_one = gets_here k.0 k.1 v a.0 a.2; gets_other = gets_here k.0 k.1 v a.1 a.3; differ = a.4 }))
        ]
      ]

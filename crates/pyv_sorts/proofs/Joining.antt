-- Variables that are alike come into one class.
use Rattle.std.proofs.Common.{◌≡◌, ◌≢◌, ℕ, suc, ◌+◌, ◌<◌, ◌≤◌, ◌⊎◌, inl, inr, Bool, true, false, min, max, List, [], ◌∷◌, length, get_or, drop, nat_lt, refl, sym, ap, ◌∙◌, subst, arith}
use Rattle.std.proofs.lemmas.Bool.{ltb-true, ltb-false}
use Rattle.pyv_meaning.specs.declared.variable.Use.{Use}
use Rattle.pyv_meaning.specs.declared.variable.Use.TheVariants.{Binder, Is, Alike}
use Rattle.pyv_meaning.specs.Gets.{Among, here, there, Gets, itself, along, back}
use Rattle.pyv_meaning.proofs.Basics.{first_or}
use Rattle.pyv_sorts.specs.Classes.{united}
use Rattle.pyv_sorts.specs.Inferring.{named, place_in, Classing}
use Rattle.pyv_sorts.proofs.Naming.{front, at_index, nothing, drop_all, same_place}
use Rattle.pyv_sorts.proofs.Uniting.{either, same_or_not, united_in, united_out, united_same, to_min}

-- each variable in a class of its own
pub starts : (us : List Use) (vs : List ℕ) → Classing us us vs (λ v. place_in vs v)
starts us vs = record {
  joins = λ v w m. inr m;
  keeps = λ v w a b e s g. subst (λ z. Gets us z s) (same_place vs v w a b e) g;
}

alike_left : (a b v w : ℕ) → Alike v w ≡ Alike a b → v ≡ a
alike_left a b v w e = cc

alike_right : (a b v w : ℕ) → Alike v w ≡ Alike a b → w ≡ b
alike_right a b v w e = cc

skip_alike : (v w : ℕ) (x : Use) (us : List Use) → ((a b : ℕ) → x ≡ Alike a b → ⊥) → Among (Alike v w) (x ∷ us) → Among (Alike v w) us
skip_alike v w x us not_it m = elim (first_or (Alike v w) x us m) [ inl e ↦ absurd (not_it v w (sym e)) | inr k ↦ k ]

module _ (us : List Use) (vs : List ℕ) (f : ℕ → ℕ) (i : ℕ) (d : Use) (lt : i < length us) where
  abbrev class : ℕ → ℕ
  class v = f (place_in vs v)

  -- another use changes nothing
  pub passes : ((a b : ℕ) → get_or us i d ≡ Alike a b → ⊥) → Classing us (drop i us) vs class → Classing us (drop (i + 1) us) vs class
  passes not_it h = record {
    joins = λ v w m. elim (h.joins v w m) [
      | inl e ↦ inl e
      | inr k ↦ inr (skip_alike v w (get_or us i d) (drop (i + 1) us) not_it (subst (λ xs. Among (Alike v w) xs) (front us i (get_or us i d) d lt refl) k))
    ];
    keeps = h.keeps;
  }

  module _ (a b : ℕ) (is : get_or us i d ≡ Alike a b) (in_a : Among a vs) (in_b : Among b vs) (h : Classing us (drop i us) vs class) where
    abbrev next : ℕ → ℕ
    next v = united f (place_in vs a) (place_in vs b) (place_in vs v)

    told : Among (Alike a b) us
    told = at_index us i (Alike a b) d lt is

    across : (s : ℕ) → Gets us a s → Gets us b s
    across s g = back a b s told g

    home : (s : ℕ) → Gets us b s → Gets us a s
    home s g = along a b s told g

    abbrev Gives : ℕ → ℕ → Type 0
    Gives v w = (s : ℕ) → Gets us v s → Gets us w s

    -- from the class of the greater representative to that of the lesser, and back
    module _ (v w : ℕ) (in_v : Among v vs) (in_w : Among w vs) where
      down : class v ≡ max (class a) (class b) → class w ≡ min (class a) (class b) → Gives v w
      down e k s g =
          elim (either (nat_lt (class a) (class b))) [
            | inl t ↦ let l = ltb-true (class a) (class b) t in h.keeps a w in_a in_w (omega (arith, l, k)) s (home s (h.keeps v b in_v in_b (omega (arith, l, e)) s g))
            | inr t ↦ let l = ltb-false (class a) (class b) t in h.keeps b w in_b in_w (omega (arith, l, k)) s (across s (h.keeps v a in_v in_a (omega (arith, l, e)) s g))
          ]

      up : class v ≡ min (class a) (class b) → class w ≡ max (class a) (class b) → Gives v w
      up e k s g =
          elim (either (nat_lt (class a) (class b))) [
            | inl t ↦ let l = ltb-true (class a) (class b) t in h.keeps b w in_b in_w (omega (arith, l, k)) s (across s (h.keeps v a in_v in_a (omega (arith, l, e)) s g))
            | inr t ↦ let l = ltb-false (class a) (class b) t in h.keeps a w in_a in_w (omega (arith, l, k)) s (home s (h.keeps v b in_v in_b (omega (arith, l, e)) s g))
          ]

      gives : next v ≡ next w → Gives v w
      gives e =
          elim (same_or_not (class v) (max (class a) (class b))) [
            | inl p ↦
                elim (same_or_not (class w) (max (class a) (class b))) [
                  | inl q ↦ h.keeps v w in_v in_w (p ∙ sym q)
                  | inr q ↦ down p (sym (united_out f (place_in vs a) (place_in vs b) (place_in vs w) q) ∙ sym e ∙ united_in f (place_in vs a) (place_in vs b) (place_in vs v) p)
                ]
            | inr p ↦
                elim (same_or_not (class w) (max (class a) (class b))) [
                  | inl q ↦ up (sym (united_out f (place_in vs a) (place_in vs b) (place_in vs v) p) ∙ e ∙ united_in f (place_in vs a) (place_in vs b) (place_in vs w) q) q
                  | inr q ↦ h.keeps v w in_v in_w (sym (united_out f (place_in vs a) (place_in vs b) (place_in vs v) p) ∙ e ∙ united_out f (place_in vs a) (place_in vs b) (place_in vs w) q)
                ]
          ]

    meets : next a ≡ next b
    meets = (to_min f (place_in vs a) (place_in vs b)).0 ∙ sym (to_min f (place_in vs a) (place_in vs b)).1

    together : (v w : ℕ) → Among (Alike v w) us → (next v ≡ next w) ⊎ Among (Alike v w) (drop (i + 1) us)
    together v w m =
        elim (h.joins v w m) [
          | inl e ↦ inl (united_same f (place_in vs a) (place_in vs b) (place_in vs v) (place_in vs w) e)
          | inr k ↦
              elim (first_or (Alike v w) (Alike a b) (drop (i + 1) us) (subst (λ xs. Among (Alike v w) xs) (front us i (Alike a b) d lt is) k)) [
                | inl e ↦ inl (ap next (alike_left a b v w e) ∙ meets ∙ ap next (sym (alike_right a b v w e)))
                | inr r ↦ inr r
              ]
        ]

    pub joins_two : Classing us (drop (i + 1) us) vs next
    joins_two = record { joins = together; keeps = λ v w p q e. gives v w p q e }

pub joined_all : (us : List Use) (vs : List ℕ) (class : ℕ → ℕ) (i : ℕ) → length us ≤ i → Classing us (drop i us) vs class → Classing us [] vs class
joined_all us vs class i le h = subst (λ xs. Classing us xs vs class) (drop_all us i le) h

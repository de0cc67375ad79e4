-- One class of two.
use Rattle.std.proofs.Common.{◌≡◌, ◌≢◌, ℕ, ◌<◌, ◌≤◌, ◌==◌, ◌⊎◌, inl, inr, Bool, true, false, cond, min, max, List, length, get_or, set, nat_lt, refl, sym, ap, ◌∙◌, subst, arith}
use Rattle.std.proofs.lemmas.Bool.{eqb-true, eqb-false, eq-eqb, ltb-true, ltb-false}
use Rattle.std.proofs.lemmas.List.{get_or-set_same, get_or-set_other, length-set}
use Rattle.pyv_sorts.specs.Classes.{Leads, united}

pub either : (b : Bool) → (b ≡ true) ⊎ (b ≡ false)
either true = inl refl
either false = inr refl

pub same_or_not : (i j : ℕ) → (i ≡ j) ⊎ (i ≢ j)
same_or_not i j = elim (either (i == j)) [ inl t ↦ inl (eqb-true i j t) | inr e ↦ inr (eqb-false i j e) ]

module _ (f : ℕ → ℕ) (v w : ℕ) where
  pub united_in : (x : ℕ) → f x ≡ max (f v) (f w) → united f v w x ≡ min (f v) (f w)
  united_in x e = rw (eq-eqb (f x) (max (f v) (f w)) e) refl

  pub united_out : (x : ℕ) → f x ≢ max (f v) (f w) → united f v w x ≡ f x
  united_out x n = elim (either (f x == max (f v) (f w))) [ inl t ↦ absurd (n (eqb-true (f x) (max (f v) (f w)) t)) | inr e ↦ rw e refl ]

  pub united_same : (x y : ℕ) → f x ≡ f y → united f v w x ≡ united f v w y
  united_same x y e = rw e refl

  pub to_min : (united f v w v ≡ min (f v) (f w)) × (united f v w w ≡ min (f v) (f w))
  to_min = (
    elim (same_or_not (f v) (max (f v) (f w))) [ inl e ↦ united_in v e | inr n ↦ united_out v n ∙ other (f v) (f w) n ],
    elim (same_or_not (f w) (max (f v) (f w))) [ inl e ↦ united_in w e | inr n ↦ united_out w n ∙ another (f v) (f w) n ],
  )
    where
      other : (a b : ℕ) → a ≢ max a b → a ≡ min a b
      other a b n = elim (either (nat_lt a b)) [ inl t ↦ let l = ltb-true a b t in omega (arith, l) | inr e ↦ let l = ltb-false a b e in absurd (n (omega (arith, l))) ]

      another : (a b : ℕ) → b ≢ max a b → b ≡ min a b
      another a b n = elim (either (nat_lt b a)) [ inl t ↦ let l = ltb-true b a t in omega (arith, l) | inr e ↦ let l = ltb-false b a e in absurd (n (omega (arith, l))) ]

-- The greater representative points to the lesser.
pub unites : (ps : List ℕ) (f : ℕ → ℕ) (lo hi v w : ℕ) → Leads ps f → hi < length ps → f lo ≡ lo → f hi ≡ hi → lo ≤ hi → lo ≡ min (f v) (f w) → hi ≡ max (f v) (f w) → Leads (set ps hi lo) (united f v w)
unites ps f lo hi v w h lt root top le least most = record {
  stays = λ i j. stays i (subst (λ n. i < n) (length-set ps hi lo) j);
  ends = λ i j e. ends i (subst (λ n. i < n) (length-set ps hi lo) j) e;
}
  where
    g : ℕ → ℕ
    g = united f v w

    low : g lo ≡ lo
    low = elim (same_or_not lo hi) [
      | inl e ↦ united_in f v w lo (root ∙ e ∙ most) ∙ sym least
      | inr n ↦ united_out f v w lo (λ k. n (sym root ∙ k ∙ sym most)) ∙ root
    ]

    high : g hi ≡ lo
    high = united_in f v w hi (top ∙ most) ∙ sym least

    stays : (i : ℕ) → i < length ps → g (get_or (set ps hi lo) i 0) ≡ g i
    stays i j = elim (same_or_not i hi) [
      | inl e ↦ ap g (ap (λ k. get_or (set ps hi lo) k 0) e ∙ get_or-set_same ps hi lo 0 lt) ∙ low ∙ sym high ∙ ap g (sym e)
      | inr n ↦ ap g (get_or-set_other ps hi i lo 0 n) ∙ united_same f v w (get_or ps i 0) i (h.stays i j)
    ]

    ends : (i : ℕ) → i < length ps → get_or (set ps hi lo) i 0 ≡ i → g i ≡ i
    ends i j e = elim (same_or_not i hi) [
      | inl s ↦
          let at : lo ≡ i = sym (ap (λ k. get_or (set ps hi lo) k 0) s ∙ get_or-set_same ps hi lo 0 lt) ∙ e in
          ap g (sym at) ∙ low ∙ at
      | inr n ↦
          let own : f i ≡ i = h.ends i j (sym (get_or-set_other ps hi i lo 0 n) ∙ e) in
          united_out f v w i (λ k. n (sym own ∙ k ∙ sym most)) ∙ own
    ]

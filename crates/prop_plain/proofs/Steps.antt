-- The steps of the search, as its goals write them.
use Rattle.std.proofs.Common.{◌≡◌, ℕ, ◌<◌, ◌≤◌, ◌≢◌, Bool, true, false, List, [], ◌∷◌, ◌++◌, length, sym, ◌∙◌, ap, subst, arith}
use Rattle.std.proofs.lemmas.List.{length_push}
use Rattle.prop_core.specs.declared.lit.Lit.{Lit}
use Rattle.prop_core.specs.Formula.{value_of, MeetsAll, AreWithin}
use Rattle.prop_check.specs.Kept.{Kept}
use Rattle.prop_plain.specs.Search.{against, IsOffered, turns_left}
use Rattle.prop_plain.proofs.UnderWay.{IsUnderWay, offered, pushed, both_refuted, second_value, refuted_all, all_met}
use Rattle.prop_core.specs.Propagation.{IsDerivation, IsRefutation}
use Rattle.prop_plain.proofs.Turns.{fewer_refuted, fewer_pushed, fewer_popped, fewer_second}

-- a list that was made longer by one fits, and so the list before was shorter
shorter : (n : ℕ) (path : List Bool) (b : Bool) → length (path ++ b ∷ []) ≤ n → length path < n
shorter n path b fits = let p = length_push path b in omega (arith, p)

module _ (vars : ℕ) (clauses : List (List Lit)) (k : Kept) (path : List Bool) (refuted : Bool) (so : IsUnderWay vars clauses k path refuted) where
  at : (b : Bool) → refuted ≡ b → IsUnderWay vars clauses k path b
  at b e = let P : Bool → Type 0 = λ r. IsUnderWay vars clauses k path r in subst P e so

  pub both_step : (k' : Kept) (path' seen : List Bool) (second taken : Bool) → refuted ≡ true → path ≡ path' ++ second ∷ [] → second ≡ true → seen ≡ path' → IsOffered k k' (against seen) taken → (taken ≡ true) × IsUnderWay vars clauses k' path' taken
  both_step k' path' seen second taken is last e f it =
      let P : List Bool → Type 0 = λ p. IsOffered k k' (against p) taken in
      both_refuted vars clauses k k' path path' taken (at true is) (last ∙ ap (λ b. path' ++ b ∷ []) e) (subst P f it)

  pub both_fewer : (k' : Kept) (path' seen : List Bool) (second taken : Bool) → refuted ≡ true → path ≡ path' ++ second ∷ [] → second ≡ true → seen ≡ path' → IsOffered k k' (against seen) taken → turns_left vars path' taken < turns_left vars path refuted
  both_fewer k' path' seen second taken is last e f it =
      let whole : path ≡ path' ++ true ∷ [] = last ∙ ap (λ b. path' ++ b ∷ []) e in
      let fits : length path' < vars = let P : List Bool → Type 0 = λ p. length p ≤ vars in shorter vars path' true (subst P whole so.depth) in
      let before : turns_left vars path refuted ≡ turns_left vars (path' ++ true ∷ []) true = ap (λ p. turns_left vars p refuted) whole ∙ ap (turns_left vars (path' ++ true ∷ [])) is in
      let after : turns_left vars path' taken ≡ turns_left vars path' true = ap (turns_left vars path') ((both_step k' path' seen second taken is last e f it).0) in
      let h = fewer_popped vars path' fits in
      omega (arith, before, after, h)

  pub second_step : (path' path'' : List Bool) (second : Bool) → refuted ≡ true → path ≡ path' ++ second ∷ [] → second ≡ false → path'' ≡ path' ++ true ∷ [] → IsUnderWay vars clauses k path'' false
  second_step path' path'' second is last e next =
      second_value vars clauses k path path' path'' (at true is) (last ∙ ap (λ b. path' ++ b ∷ []) e) next

  pub second_fewer : (path' path'' : List Bool) (second : Bool) → refuted ≡ true → path ≡ path' ++ second ∷ [] → second ≡ false → path'' ≡ path' ++ true ∷ [] → turns_left vars path'' false < turns_left vars path refuted
  second_fewer path' path'' second is last e next =
      let whole : path ≡ path' ++ false ∷ [] = last ∙ ap (λ b. path' ++ b ∷ []) e in
      let fits : length path' < vars = let P : List Bool → Type 0 = λ p. length p ≤ vars in shorter vars path' false (subst P whole so.depth) in
      let before : turns_left vars path refuted ≡ turns_left vars (path' ++ false ∷ []) true = ap (λ p. turns_left vars p refuted) whole ∙ ap (turns_left vars (path' ++ false ∷ [])) is in
      let after : turns_left vars path'' false ≡ turns_left vars (path' ++ true ∷ []) false = ap (λ p. turns_left vars p false) next in
      let h = fewer_second vars path' fits in
      omega (arith, before, after, h)

  pub offered_step : (k' : Kept) (path' : List Bool) (taken : Bool) → refuted ≡ false → path' ≡ path → IsOffered k k' (against path') taken → taken ≡ true → IsUnderWay vars clauses k' path true
  offered_step k' path' taken is e it f =
      let P : List Bool → Type 0 = λ p. IsOffered k k' (against p) taken in
      let R : Bool → Type 0 = λ b. IsUnderWay vars clauses k' path b in
      subst R f (offered vars clauses k k' path taken (at false is) (subst P e it))

  pub offered_fewer : refuted ≡ false → turns_left vars path true < turns_left vars path refuted
  offered_fewer is =
      let before : turns_left vars path refuted ≡ turns_left vars path false = ap (turns_left vars path) is in
      let h = fewer_refuted vars path in
      omega (arith, before, h)

  pub pushed_fewer : (path' : List Bool) → refuted ≡ false → length path < vars → path' ≡ path ++ false ∷ [] → turns_left vars path' refuted < turns_left vars path refuted
  pushed_fewer path' is room next =
      let before : turns_left vars path refuted ≡ turns_left vars path false = ap (turns_left vars path) is in
      let after : turns_left vars path' refuted ≡ turns_left vars (path ++ false ∷ []) false = ap (turns_left vars path') is ∙ ap (λ p. turns_left vars p false) next in
      let h = fewer_pushed vars path room in
      omega (arith, before, after, h)

  pub met_step : (k' : Kept) (path' : List Bool) (taken : Bool) → refuted ≡ false → path' ≡ path → IsOffered k k' (against path') taken → taken ≡ false → AreWithin vars clauses → length path ≡ vars → MeetsAll (value_of path) clauses
  met_step k' path' taken is e it none within full =
      let P : List Bool → Type 0 = λ p. IsOffered k k' (against p) taken in
      let Q : Bool → Type 0 = λ b. IsOffered k k' (against path) b in
      all_met vars clauses k k' path within (at false is) (subst Q none (subst P e it)) full

  -- the path is not full, and grows
  pub pushed_step : (k' : Kept) (path' seen : List Bool) (taken : Bool) → refuted ≡ false → seen ≡ path → IsOffered k k' (against seen) taken → taken ≡ false → length path < vars → path' ≡ path ++ false ∷ [] → IsUnderWay vars clauses k' path' refuted
  pushed_step k' path' seen taken is e it none room next =
      let P : List Bool → Type 0 = λ p. IsOffered k k' (against p) taken in
      let Q : Bool → Type 0 = λ b. IsOffered k k' (against path) b in
      let R : Bool → Type 0 = λ b. IsUnderWay vars clauses k' path' b in
      subst R (sym is) (pushed vars clauses k' path path' (offered vars clauses k k' path false (at false is) (subst Q none (subst P e it))) room next)

  pub room_left : length path ≢ vars → length path < vars
  room_left ne = let d = so.depth in omega (arith, d, ne)

-- no value of any variable is left to try
pub refuted_at_end : (vars : ℕ) (clauses : List (List Lit)) (k : Kept) (path : List Bool) (refuted : Bool) (steps : List (List Lit)) → IsUnderWay vars clauses k path refuted → refuted ≡ true → path ≡ [] → steps ≡ k.added → AreWithin k.vars steps → IsDerivation k.given steps → IsRefutation vars clauses steps
refuted_at_end vars clauses k path refuted steps so is none same within derived =
    let P : Bool → Type 0 = λ r. IsUnderWay vars clauses k path r in
    refuted_all vars clauses k path steps (subst P is so) none same within derived

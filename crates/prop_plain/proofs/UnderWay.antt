-- What the search keeps.
use Rattle.std.proofs.Common.{◌≡◌, ℕ, ◌<◌, ◌≤◌, Bool, true, false, List, [], ◌∷◌, ◌++◌, take, length, refl, sym, ◌∙◌, ap, subst, inl, inr, arith, append_assoc}
use Rattle.std.proofs.lemmas.Bool.{false≢true, cases_lt}
use Rattle.std.proofs.lemmas.List.{length_push, get_or_push, get_or_append_left, take-append-le, take_at}
use Rattle.std.specs.List.{Contains}
use Rattle.std.proofs.lemmas.List.Elements.{Contains-push, Contains-append_left, Contains-append_right}
use Rattle.prop_core.specs.declared.lit.Lit.{Lit}
use Rattle.prop_core.specs.Formula.{value_of, MeetsAll, AreWithin}
use Rattle.prop_core.specs.Propagation.{Follows, IsDerivation, IsRefutation}
use Rattle.prop_check.specs.Kept.{Kept, kept}
use Rattle.prop_plain.specs.Search.{against, IsOffered, FirstsDone}
use Rattle.prop_plain.proofs.Paths.{path_follows, all_values_meet}

pub record IsUnderWay (vars : ℕ) (clauses : List (List Lit)) (k : Kept) (path : List Bool) (refuted : Bool) : Type 0 where
  pub same_vars : k.vars ≡ vars
  pub same_given : k.given ≡ clauses
  pub depth : length path ≤ vars
  pub firsts : FirstsDone (kept k) path
  pub last : refuted ≡ true → (before : List (List Lit)) × (k.added ≡ before ++ against path ∷ [])

same_kept : (old new : Kept) → new.given ≡ old.given → new.added ≡ old.added → kept new ≡ kept old
same_kept old new e f = ap (λ g. g ++ new.added) e ∙ ap (λ a. old.given ++ a) f

more_kept : (old new : Kept) (c : List Lit) → new.given ≡ old.given → new.added ≡ old.added ++ c ∷ [] → kept new ≡ kept old ++ c ∷ []
more_kept old new c e f = ap (λ g. g ++ new.added) e ∙ ap (λ a. old.given ++ a) f ∙ sym (append_assoc old.given old.added (c ∷ []))

-- the clause that was taken last is kept
last_kept : (k : Kept) (c : List Lit) → (before : List (List Lit)) × (k.added ≡ before ++ c ∷ []) → Contains (kept k) c
last_kept k c l =
    let P : List (List Lit) → Type 0 = λ added. Contains (k.given ++ added) c in
    subst P (sym l.1) (Contains-append_right k.given (l.0 ++ c ∷ []) c (Contains-push l.0 c))

FirstsDone-more : (clauses clauses' : List (List Lit)) (path : List Bool) → ((c : List Lit) → Contains clauses c → Contains clauses' c) → FirstsDone clauses path → FirstsDone clauses' path
FirstsDone-more clauses clauses' path more firsts i within is = more (against (take i path ++ false ∷ [])) (firsts i within is)

FirstsDone-push_false : (clauses : List (List Lit)) (path : List Bool) → FirstsDone clauses path → FirstsDone clauses (path ++ false ∷ [])
FirstsDone-push_false clauses path firsts i within is =
    elim (cases_lt i (length path)) [
      | inl l ↦
          let P : List Bool → Type 0 = λ front. Contains clauses (against (front ++ false ∷ [])) in
          subst P (sym (take-append-le i path (false ∷ []) (omega arith))) (firsts i l (sym (get_or_append_left path (false ∷ []) false i l) ∙ is))
      | inr g ↦
          let e : i ≡ length path = let p = length_push path false in omega (arith, p) in
          absurd (false≢true (sym (get_or_push path false false i (sym e)) ∙ is))
    ]

FirstsDone-push_true : (clauses : List (List Lit)) (path : List Bool) → FirstsDone clauses path → Contains clauses (against (path ++ false ∷ [])) → FirstsDone clauses (path ++ true ∷ [])
FirstsDone-push_true clauses path firsts first i within is =
    let P : List Bool → Type 0 = λ front. Contains clauses (against (front ++ false ∷ [])) in
    elim (cases_lt i (length path)) [
      | inl l ↦ subst P (sym (take-append-le i path (true ∷ []) (omega arith))) (firsts i l (sym (get_or_append_left path (true ∷ []) false i l) ∙ is))
      | inr g ↦
          let e : length path ≡ i = let p = length_push path true in omega (arith, p) in
          subst P (sym (take_at path (true ∷ []) i e)) first
    ]

FirstsDone-pop : (clauses : List (List Lit)) (path : List Bool) (b : Bool) → FirstsDone clauses (path ++ b ∷ []) → FirstsDone clauses path
FirstsDone-pop clauses path b firsts i within is =
    let P : List Bool → Type 0 = λ front. Contains clauses (against (front ++ false ∷ [])) in
    let p = length_push path b in
    let at : Contains clauses (against (take i (path ++ b ∷ []) ++ false ∷ [])) = firsts i (omega (arith, p)) (get_or_append_left path (b ∷ []) false i within ∙ is) in
    subst P (take-append-le i path (b ∷ []) (omega arith)) at

FirstsDone-last : (clauses : List (List Lit)) (path : List Bool) → FirstsDone clauses (path ++ true ∷ []) → Contains clauses (against (path ++ false ∷ []))
FirstsDone-last clauses path firsts =
    let P : List Bool → Type 0 = λ front. Contains clauses (against (front ++ false ∷ [])) in
    let p = length_push path true in
    subst P (take_at path (true ∷ []) (length path) refl) (firsts (length path) (omega (arith, p)) (get_or_push path true false (length path) refl))

module _ (vars : ℕ) (clauses : List (List Lit)) where
  pub begins : (k : Kept) → k.vars ≡ vars → k.given ≡ clauses → IsUnderWay vars clauses k [] false
  begins k e f = record {
    same_vars = e;
    same_given = f;
    depth = omega arith;
    firsts = λ i within is. absurd (omega arith);
    last = λ h. absurd (false≢true h);
  }

  -- the clause against the path was offered
  pub offered : (k k' : Kept) (path : List Bool) (taken : Bool) → IsUnderWay vars clauses k path false → IsOffered k k' (against path) taken → IsUnderWay vars clauses k' path taken
  offered k k' path true so it = record {
    same_vars = it.vars ∙ so.same_vars;
    same_given = it.given ∙ so.same_given;
    depth = so.depth;
    firsts = FirstsDone-more (kept k) (kept k') path (λ c h.
        let P : List (List Lit) → Type 0 = λ cs. Contains cs c in
        subst P (sym (more_kept k k' (against path) it.given (it.kept_if refl))) (Contains-append_left (kept k) (against path ∷ []) c h)) so.firsts;
    last = λ _. (k.added, it.kept_if refl);
  }
  offered k k' path false so it = record {
    same_vars = it.vars ∙ so.same_vars;
    same_given = it.given ∙ so.same_given;
    depth = so.depth;
    firsts = FirstsDone-more (kept k) (kept k') path (λ c h.
        let P : List (List Lit) → Type 0 = λ cs. Contains cs c in
        subst P (sym (same_kept k k' it.given (it.same_if refl))) h) so.firsts;
    last = λ h. absurd (false≢true h);
  }

  pub pushed : (k : Kept) (path path' : List Bool) → IsUnderWay vars clauses k path false → length path < vars → path' ≡ path ++ false ∷ [] → IsUnderWay vars clauses k path' false
  pushed k path path' so room is =
      let P : List Bool → Type 0 = λ p. IsUnderWay vars clauses k p false in
      subst P (sym is) (record {
        same_vars = so.same_vars;
        same_given = so.same_given;
        depth = let p = length_push path false in omega (arith, p);
        firsts = FirstsDone-push_false (kept k) path so.firsts;
        last = λ h. absurd (false≢true h);
      })

  -- both values of the last variable are refuted
  pub both_refuted : (k k' : Kept) (path path' : List Bool) (taken : Bool) → IsUnderWay vars clauses k path true → path ≡ path' ++ true ∷ [] → IsOffered k k' (against path') taken → (taken ≡ true) × IsUnderWay vars clauses k' path' taken
  both_refuted k k' path path' taken so is it =
      let P : List Bool → Type 0 = λ p. IsUnderWay vars clauses k p true in
      let now = subst P is so in
      let yes_it_is : taken ≡ true = it.exact.1 (path_follows (kept k) path' (FirstsDone-last (kept k) path' now.firsts) (last_kept k (against (path' ++ true ∷ [])) (now.last refl))) in
      let open_so : IsUnderWay vars clauses k path' false = record {
        same_vars = now.same_vars;
        same_given = now.same_given;
        depth = let p = length_push path' true in let d = now.depth in omega (arith, p, d);
        firsts = FirstsDone-pop (kept k) path' true now.firsts;
        last = λ h. absurd (false≢true h);
      } in
      (yes_it_is, offered k k' path' taken open_so it)

  -- the last variable's first value is refuted, and it takes the second one
  pub second_value : (k : Kept) (path path' path'' : List Bool) → IsUnderWay vars clauses k path true → path ≡ path' ++ false ∷ [] → path'' ≡ path' ++ true ∷ [] → IsUnderWay vars clauses k path'' false
  second_value k path path' path'' so is is' =
      let P : List Bool → Type 0 = λ p. IsUnderWay vars clauses k p true in
      let Q : List Bool → Type 0 = λ p. IsUnderWay vars clauses k p false in
      let now = subst P is so in
      subst Q (sym is') (record {
        same_vars = now.same_vars;
        same_given = now.same_given;
        depth = let p = length_push path' true in let q = length_push path' false in let d = now.depth in omega (arith, p, q, d);
        firsts = FirstsDone-push_true (kept k) path' (FirstsDone-pop (kept k) path' false now.firsts) (last_kept k (against (path' ++ false ∷ [])) (now.last refl));
        last = λ h. absurd (false≢true h);
      })

  -- no path is left
  pub refuted_all : (k : Kept) (path : List Bool) (steps : List (List Lit)) → IsUnderWay vars clauses k path true → path ≡ [] → steps ≡ k.added → AreWithin k.vars steps → IsDerivation k.given steps → IsRefutation vars clauses steps
  refuted_all k path steps so none same within derived =
      let P : List (List Lit) → Type 0 = λ cs. IsDerivation cs steps in
      let Q : List Bool → Type 0 = λ p. (before : List (List Lit)) × (k.added ≡ before ++ against p ∷ []) in
      let R : ℕ → Type 0 = λ n. AreWithin n steps in
      let l = subst Q none (so.last refl) in
      record {
        within = subst R so.same_vars within;
        derived = subst P so.same_given derived;
        ends = (l.0, same ∙ l.1);
      }

  -- each variable has a value, and the clause against them doesn't follow
  pub all_met : (k k' : Kept) (path : List Bool) → AreWithin vars clauses → IsUnderWay vars clauses k path false → IsOffered k k' (against path) false → length path ≡ vars → MeetsAll (value_of path) clauses
  all_met k k' path within so it full =
      let P : ℕ → Type 0 = λ n. AreWithin n clauses in
      let Q : List (List Lit) → Type 0 = λ cs. Follows (cs ++ k.added) (against path) → ⊥ in
      all_values_meet clauses k.added path (subst P (sym full) within) (subst Q so.same_given (λ f. false≢true (it.exact.1 f)))

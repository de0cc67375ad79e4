-- What follows by unit propagation is true wherever the clauses are.
use Rattle.std.proofs.Common.{◌≡◌, ◌↔◌, ℕ, Bool, List, [], ◌∷◌, ◌++◌, map, sym, ◌∙◌, subst, inl, inr, arith, append-nil, append_assoc}
use Rattle.std.specs.List.{Contains}
use Rattle.std.proofs.lemmas.List.Elements.{All-contains, All-push, Contains-push, Contains-append_right}
use Rattle.prop_core.specs.declared.lit.Lit.{Lit}
use Rattle.prop_core.specs.declared.answer.Answer.{Answer}
use Rattle.prop_core.specs.declared.answer.Answer.TheVariants.{Sat, Unsat}
use Rattle.prop_core.specs.Answers.{IsAnswer, SaysUnsat, HaveNoValues}
use Rattle.prop_core.specs.Formula.{negated, value_of, MeetsClause, MeetsAll}
use Rattle.prop_core.specs.Propagation.{Forced, Follows, IsDerivation, IsRefutation}
use Rattle.prop_core.specs.Propagation.Forced.{given, by_clause}
use Rattle.prop_core.proofs.Clauses.{lit_cases_eq, not_itself, clause_cases, Contains-from_map, All-from_contains}

-- a clause that is met has a literal that is true
met_literal : (v : ℕ → Bool) (c : List Lit) → MeetsClause v c → (m : Lit) × Contains c m × (v m.var ≡ m.positive)
met_literal v c h = (h.1, (h.0, h.2, h.3), h.4)

pub forced_true : {clauses : List (List Lit)} {start : List Lit} {l : Lit} (v : ℕ → Bool) → MeetsAll v clauses → ((m : Lit) → Contains start m → v m.var ≡ m.positive) → Forced clauses start l → v l.var ≡ l.positive
forced_true {l = l} v meets begins (given h) = begins l h
forced_true {clauses} {l = l} v meets begins (by_clause c in_clauses in_c others) =
    let met = met_literal v c (All-contains (MeetsClause v) clauses c meets in_clauses) in
    elim (lit_cases_eq met.0 l) [
      | inl e ↦ let P : Lit → Type 0 = λ m. v m.var ≡ m.positive in subst P e met.2
      | inr n ↦ absurd (not_itself met.0.positive (sym met.2 ∙ forced_true v meets begins (others met.0 met.1 n)))
    ]

pub follows_sound : (clauses : List (List Lit)) (c : List Lit) (v : ℕ → Bool) → MeetsAll v clauses → Follows clauses c → MeetsClause v c
follows_sound clauses c v meets follows =
    elim (clause_cases v c) [
      | inl m ↦ m
      | inr none ↦
          let begins : (m : Lit) → Contains (map negated c) m → v m.var ≡ m.positive = λ m h.
          let s = Contains-from_map negated c m h in
          let P : Lit → Type 0 = λ m. v m.var ≡ m.positive in
          subst P s.2 (none s.0 s.1) in
          elim follows [
            | inl k ↦ let met = met_literal v k.0 (All-contains (MeetsClause v) clauses k.0 meets k.1) in
                absurd (not_itself met.0.positive (sym met.2 ∙ forced_true v meets begins (k.2 met.0 met.1)))
            | inr k ↦ absurd (not_itself k.0.positive (sym (forced_true v meets begins k.1) ∙ forced_true v meets begins k.2))
          ]
    ]

pub derivation_sound : (clauses steps : List (List Lit)) (v : ℕ → Bool) → MeetsAll v clauses → IsDerivation clauses steps → MeetsAll v (clauses ++ steps)
derivation_sound clauses [] v meets h = rw append-nil meets
derivation_sound clauses (c ∷ rest) v meets h =
    let meets_c : MeetsClause v c = follows_sound clauses c v meets h.0 in
    let all : MeetsAll v ((clauses ++ c ∷ []) ++ rest) =
    derivation_sound (clauses ++ c ∷ []) rest v (All-push (MeetsClause v) clauses c meets meets_c) h.1 in
    rw append_assoc at all

pub refutation_sound : (vars : ℕ) (clauses steps : List (List Lit)) → IsRefutation vars clauses steps → HaveNoValues clauses
refutation_sound vars clauses steps h v meets =
    let all : MeetsAll v (clauses ++ steps) = derivation_sound clauses steps v meets h.derived in
    let in_steps : Contains steps [] =
    let P : List (List Lit) → Type 0 = λ ss. Contains ss [] in subst P (sym h.ends.1) (Contains-push h.ends.0 []) in
    no_empty v (All-contains (MeetsClause v) (clauses ++ steps) [] all (Contains-append_right clauses steps [] in_steps))
  where
    no_empty : (v : ℕ → Bool) → MeetsClause v [] → ⊥
    no_empty v m = omega arith

pub steps_sound : (clauses steps : List (List Lit)) (v : ℕ → Bool) → MeetsAll v clauses → IsDerivation clauses steps → MeetsAll v steps
steps_sound clauses steps v meets h =
    All-from_contains (MeetsClause v) steps (λ c in_steps.
    All-contains (MeetsClause v) (clauses ++ steps) c (derivation_sound clauses steps v meets h) (Contains-append_right clauses steps c in_steps))

-- an answer says that there are no values exactly where there are none
pub answer_exact : (vars : ℕ) (clauses : List (List Lit)) (a : Answer) → IsAnswer vars clauses a → (SaysUnsat a ↔ HaveNoValues clauses)
answer_exact vars clauses (Sat values) h = (λ f. absurd f, λ none. none (value_of values) h.1)
answer_exact vars clauses (Unsat r) h = (λ _. refutation_sound vars clauses r.clauses h, λ _. tt)

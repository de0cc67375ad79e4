-- Clauses against paths.
use Rattle.std.proofs.Common.{◌≡◌, ℕ, ◌<◌, ◌≤◌, ◌+◌, Bool, true, false, not, zero, suc, List, [], ◌∷◌, ◌++◌, map, take, length, get_or, sym, ◌∙◌, ap, subst, inl, inr, arith}
use Rattle.std.specs.List.{Contains}
use Rattle.std.proofs.lemmas.List.{take_more, length-take-le}
use Rattle.std.proofs.lemmas.List.Elements.{All-contains, All-cons, All-nil, Contains-push, Contains-push_cases, Contains-append_left}
use Rattle.prop_core.specs.declared.lit.Lit.{Lit}
use Rattle.prop_core.specs.Formula.{negated, value_of, MeetsClause, MeetsAll, IsWithin, AreWithin}
use Rattle.prop_core.specs.Propagation.{Forced, Follows}
use Rattle.prop_core.specs.Propagation.Forced.{given, by_clause}
use Rattle.prop_core.proofs.Clauses.{lit_eq, negated-negated, not-not, clause_cases, Contains-map, Contains-head, Contains-cons, All-from_contains}
use Rattle.prop_plain.specs.Search.{against_from, against}

pub against_from-push : (n : ℕ) (path : List Bool) (b : Bool) → against_from n (path ++ b ∷ []) ≡ against_from n path ++ record { var = n + length path; positive = not b } ∷ []
against_from-push n [] b = ap (λ (m : ℕ). record { var = m; positive = not b } ∷ []) (let e : n ≡ n + 0 = omega arith in e)
against_from-push n (x ∷ path) b =
    let e : (n + 1) + length path ≡ n + length (x ∷ path) = omega arith in
    ap (λ rest. record { var = n; positive = not x } ∷ rest) (
    against_from-push (n + 1) path b ∙ ap (λ (m : ℕ). against_from (n + 1) path ++ record { var = m; positive = not b } ∷ []) e)

-- the literal against a value of the next variable
abbrev pub next_lit : List Bool → Bool → Lit
next_lit path b = record { var = length path; positive = not b }

pub against-push : (path : List Bool) (b : Bool) → against (path ++ b ∷ []) ≡ against path ++ next_lit path b ∷ []
against-push path b =
    let e : 0 + length path ≡ length path = omega arith in
    against_from-push 0 path b ∙ ap (λ (m : ℕ). against path ++ record { var = m; positive = not b } ∷ []) e

pub within_from : (n vars : ℕ) (path : List Bool) → n + length path ≤ vars → IsWithin vars (against_from n path)
within_from n vars [] fits = All-nil (λ (l : Lit). l.var < vars)
within_from n vars (b ∷ path) fits =
    All-cons (λ (l : Lit). l.var < vars) (record { var = n; positive = not b }) (against_from (n + 1) path) (omega arith) (within_from (n + 1) vars path (omega arith))

pub against_value : (n : ℕ) (path : List Bool) (i : ℕ) → i < length path → Contains (against_from n path) (record { var = n + i; positive = not (get_or path i false) })
against_value n [] i within = absurd (omega arith)
against_value n (b ∷ path) zero within =
    let e : n ≡ n + 0 = omega arith in
    let P : ℕ → Type 0 = λ m. Contains (against_from n (b ∷ path)) (record { var = m; positive = not b }) in
    subst P e (Contains-head (record { var = n; positive = not b }) (against_from (n + 1) path))
against_value n (b ∷ path) (suc i) within =
    let e : (n + 1) + i ≡ n + suc i = omega arith in
    let P : ℕ → Type 0 = λ m. Contains (against_from n (b ∷ path)) (record { var = m; positive = not (get_or path i false) }) in
    subst P e (Contains-cons (record { var = n; positive = not b }) (against_from (n + 1) path) (record { var = (n + 1) + i; positive = not (get_or path i false) }) (against_value (n + 1) path i (omega arith)))

-- a clause follows where it is kept with one literal more and with the negation of that
pub follows_from_both : (clauses : List (List Lit)) (front : List Lit) (l : Lit) → Contains clauses (front ++ l ∷ []) → Contains clauses (front ++ negated l ∷ []) → Follows clauses front
follows_from_both clauses front l first second =
    let start : List Lit = map negated front in
    let assumed : (m : Lit) → Contains front m → Forced clauses start (negated m) = λ m h. given (Contains-map negated front m h) in
    let forced : Forced clauses start l = by_clause (front ++ l ∷ []) first (Contains-push front l) (λ m h n.
    elim (Contains-push_cases front l m h) [ inl r ↦ assumed m r | inr e ↦ absurd (n (sym e)) ]) in
    inl (
      front ++ negated l ∷ [],
      second,
      λ m h. elim (Contains-push_cases front (negated l) m h) [
        | inl r ↦ assumed m r
        | inr e ↦ let P : Lit → Type 0 = λ y. Forced clauses start y in subst P (sym (negated-negated l) ∙ ap negated e) forced
      ],
    )

pub path_follows : (clauses : List (List Lit)) (path : List Bool) → Contains clauses (against (path ++ false ∷ [])) → Contains clauses (against (path ++ true ∷ [])) → Follows clauses (against path)
path_follows clauses path first second =
    let P : List Lit → Type 0 = λ c. Contains clauses c in
    follows_from_both clauses (against path) (next_lit path false) (subst P (against-push path false) first) (subst P (against-push path true) second)

-- where the clause against all values doesn't follow, they meet the clauses
pub all_values_meet : (clauses : List (List Lit)) (more : List (List Lit)) (path : List Bool) → AreWithin (length path) clauses → (Follows (clauses ++ more) (against path) → ⊥) → MeetsAll (value_of path) clauses
all_values_meet clauses more path within not_so =
    All-from_contains (MeetsClause (value_of path)) clauses (λ c place.
    elim (clause_cases (value_of path) c) [
      | inl m ↦ m
      | inr none ↦ absurd (not_so (inl (
        c,
        Contains-append_left clauses more c place,
        λ m h.
            let room : m.var < length path = All-contains (λ (l : Lit). l.var < length path) c m (All-contains (IsWithin (length path)) clauses c within place) h in
            let at : Contains (against path) (record { var = 0 + m.var; positive = not (get_or path m.var false) }) = against_value 0 path m.var room in
            let zero_plus : 0 + m.var ≡ m.var = omega arith in
            let same : record { var = 0 + m.var; positive = not (get_or path m.var false) } ≡ m =
            lit_eq (record { var = 0 + m.var; positive = not (get_or path m.var false) }) m zero_plus (ap not (none m h) ∙ not-not m.positive) in
            let P : Lit → Type 0 = λ y. Contains (against path) y in
            given (Contains-map negated (against path) m (subst P same at)),
      )))
    ])

pub against_more : (path : List Bool) (i : ℕ) (d : Bool) (clause clause' : List Lit) → i < length path → clause ≡ against (take i path) → clause' ≡ clause ++ record { var = i; positive = not (get_or path i d) } ∷ [] → clause' ≡ against (take (i + 1) path)
against_more path i d clause clause' within so next =
    let len : length (take i path) ≡ i = length-take-le i path (omega arith) in
    let lit : List Lit → ℕ → List Lit = λ c n. c ++ record { var = n; positive = not (get_or path i d) } ∷ [] in
    next ∙ ap (λ c. lit c i) so ∙ ap (lit (against (take i path))) (sym len) ∙ sym (against-push (take i path) (get_or path i d)) ∙ ap against (sym (take_more path i d within))

pub offer_within : (vars vars' : ℕ) (path : List Bool) (clause : List Lit) → length path ≤ vars → vars' ≡ vars → clause ≡ against path → IsWithin vars' clause
offer_within vars vars' path clause fits same is =
    let P : List Lit → Type 0 = λ c. IsWithin vars' c in
    let Q : ℕ → Type 0 = λ n. IsWithin n (against path) in
    subst P (sym is) (subst Q (sym same) (within_from 0 vars path (omega arith)))

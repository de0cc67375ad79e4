-- What a name resolves to stands in the scope.
use Rattle.std.proofs.Common.{◌≡◌, ℕ, ◌+◌, ◌<◌, ◌≤◌, true, cond, List, [], ◌∷◌, length, ap, ap₂, inl, inr, ◌⊎◌, arith}
use Rattle.std.specs.Prelude.{Option, Some, None}
use Rattle.std.specs.Str.{bytes_eq}
use Rattle.fo_core.specs.declared.names.Names.{Names}
use Rattle.pyv_meaning.specs.declared.variable.Meaning.TheVariants.{Variable}
use Rattle.pyv_meaning.specs.Gets.{Among, here, there}
use Rattle.pyv_meaning.specs.Scope.{number, lookup, resolve, variable_or, symbol_or_unknown}
use Rattle.pyv_meaning.specs.Tree.{Name}
use Rattle.pyv_meaning.proofs.Basics.{true_or_false}

-- a variable and its level, found
abbrev pub at_level : ℕ → ℕ → Option (ℕ × ℕ)
at_level v l = Some (v, l)

pub same_level : (v l w k : ℕ) → at_level v l ≡ at_level w k → (v ≡ w) × (l ≡ k)
same_level v l w k h =
    let one : Option (ℕ × ℕ) → ℕ = λ o. elim o [ Some z ↦ z.0 | None ↦ 0 ] in
    let two : Option (ℕ × ℕ) → ℕ = λ o. elim o [ Some z ↦ z.1 | None ↦ 0 ] in
    (ap one h, ap two h)

-- it stands in the scope with this word, so many behind a start
abbrev pub StandsAt : List Name → ℕ → List ℕ → ℕ → ℕ → Type 0
StandsAt scope k w v l = (n : Name) × Among n scope × (bytes_eq n.word w ≡ true) × (n.place ≡ v) × (k ≤ l) × (l < k + length scope)

-- what is looked up is in scope, or was found before
pub looked : (found : Option (ℕ × ℕ)) (k : ℕ) (scope : List Name) (w : List ℕ) (v l : ℕ) → lookup found k scope w ≡ at_level v l → (found ≡ at_level v l) ⊎ StandsAt scope k w v l
looked found k [] w v l h = inl h
looked found k (e ∷ es) w v l h =
    elim (looked (cond (bytes_eq e.word w) (Some (e.place, k)) found) (k + 1) es w v l h) [
      | inr m ↦ inr (m.0, there _ _ _ m.1, m.2, m.3, omega (arith, m.4), omega (arith, m.5))
      | inl g ↦ elim (true_or_false (bytes_eq e.word w)) [
        | inl t ↦ let s = same_level e.place k v l (rw t at g) in inr (e, here _ _, t, s.0, omega (arith, s.1), omega (arith, s.1))
        | inr t ↦ inl (rw t at g)
      ]
    ]

named_bound : (o : Option (ℕ × ℕ)) (m : Option ℕ) (v l : ℕ) → variable_or o (symbol_or_unknown m) ≡ Variable v l → o ≡ at_level v l
named_bound None None v l h = absurd (cc)
named_bound None (Some k) v l h = absurd (cc)
named_bound (Some p) m v l h =
    let one : p.0 ≡ v = cc in
    let two : p.1 ≡ l = cc in
    ap₂ (λ (a b : ℕ). at_level a b) one two

none_some : (v l : ℕ) → None ≡ at_level v l → ⊥
none_some v l h = absurd (cc)

-- a variable that a name means is one in scope, by its place there
pub resolved : (names : Names) (scope : List Name) (w : List ℕ) (v l : ℕ) → resolve names scope w ≡ Variable v l → StandsAt scope 0 w v l
unfolding resolve
resolved names scope w v l h = elim (looked None 0 scope w v l (named_bound (lookup None 0 scope w) (number names.symbols w) v l h)) [ inl e ↦ absurd (none_some v l e) | inr m ↦ m ]

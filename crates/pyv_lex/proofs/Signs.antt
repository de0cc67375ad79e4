-- Signs by their bytes.
use Rattle.std.proofs.Common.{◌≡◌, ℕ, suc, ◌<◌, ◌≤◌, List, [], ◌∷◌, ◌++◌, length, take, get_or, refl, sym, ap, ap₂, subst, arith}
use Rattle.pyv_lex.specs.declared.token.Kind.{Kind}
use Rattle.pyv_lex.specs.Spelling.{Sign}
use Rattle.pyv_lex.specs.Spelling as rule

-- a sign and what follows it, by the first three bytes, of which one past the end is 0
pub data Shape (k : Kind) (text : List ℕ) (s : List ℕ) : Type 0 where
  of_three : get_or s 0 0 ≡ 60 → get_or s 1 0 ≡ 45 → get_or s 2 0 ≡ 62 → length text ≡ 3 → Shape k text s
  of_two : get_or s 0 0 ≡ 45 → get_or s 1 0 ≡ 62 → length text ≡ 2 → Shape k text s
  of_unequal : get_or s 0 0 ≡ 33 → get_or s 1 0 ≡ 61 → length text ≡ 2 → Shape k text s
  of_one : Sign k (get_or s 0 0 ∷ []) → length text ≡ 1 → Shape k text s

shape_of : (k : Kind) (text after : List ℕ) → Sign k text → Shape k text (text ++ after)
shape_of k _ after rule.iff = of_three refl refl refl refl
shape_of k _ after rule.implies = of_two refl refl refl
shape_of k _ after rule.unequal = of_unequal refl refl refl
shape_of k _ after rule.equal = of_one rule.equal refl
shape_of k _ after rule.bang = of_one rule.bang refl
shape_of k _ after rule.amp = of_one rule.amp refl
shape_of k _ after rule.bar = of_one rule.bar refl
shape_of k _ after rule.round_left = of_one rule.round_left refl
shape_of k _ after rule.round_right = of_one rule.round_right refl
shape_of k _ after rule.square_left = of_one rule.square_left refl
shape_of k _ after rule.square_right = of_one rule.square_right refl
shape_of k _ after rule.curly_left = of_one rule.curly_left refl
shape_of k _ after rule.curly_right = of_one rule.curly_right refl
shape_of k _ after rule.comma = of_one rule.comma refl
shape_of k _ after rule.dot = of_one rule.dot refl
shape_of k _ after rule.colon = of_one rule.colon refl

pub shape : (k : Kind) (text after s : List ℕ) → Sign k text → s ≡ text ++ after → Shape k text s
shape k text after s h e = subst (Shape k text) (sym e) (shape_of k text after h)

-- the bytes at the front, where none of them is past the end
pub record Front (n : ℕ) (text s : List ℕ) : Type 0 where
  pub within : n ≤ length s
  pub is : take n s ≡ text

pub one : (s : List ℕ) (a : ℕ) → get_or s 0 0 ≡ suc a → Front 1 (suc a ∷ []) s
one [] a e = absurd (omega arith)
one (x ∷ s) a e = record { within = omega arith; is = ap (λ y. y ∷ []) e }

pub two : (s : List ℕ) (a b : ℕ) → get_or s 0 0 ≡ suc a → get_or s 1 0 ≡ suc b → Front 2 (suc a ∷ suc b ∷ []) s
two [] a b e f = absurd (omega arith)
two (x ∷ []) a b e f = absurd (omega arith)
two (x ∷ y ∷ s) a b e f = record { within = omega arith; is = ap₂ (λ u v. u ∷ v ∷ []) e f }

pub three : (s : List ℕ) (a b c : ℕ) → get_or s 0 0 ≡ suc a → get_or s 1 0 ≡ suc b → get_or s 2 0 ≡ suc c → Front 3 (suc a ∷ suc b ∷ suc c ∷ []) s
three [] a b c e f g = absurd (omega arith)
three (x ∷ []) a b c e f g = absurd (omega arith)
three (x ∷ y ∷ []) a b c e f g = absurd (omega arith)
three (x ∷ y ∷ z ∷ s) a b c e f g = record { within = omega arith; is = ap₂ (λ u (v : ℕ × ℕ). u ∷ v.0 ∷ v.1 ∷ []) e (ap₂ (λ u v. (u, v)) f g) }

positive : (k : Kind) (b : ℕ) → Sign k (b ∷ []) → 0 < b
positive k _ rule.equal = omega arith
positive k _ rule.bang = omega arith
positive k _ rule.amp = omega arith
positive k _ rule.bar = omega arith
positive k _ rule.round_left = omega arith
positive k _ rule.round_right = omega arith
positive k _ rule.square_left = omega arith
positive k _ rule.square_right = omega arith
positive k _ rule.curly_left = omega arith
positive k _ rule.curly_right = omega arith
positive k _ rule.comma = omega arith
positive k _ rule.dot = omega arith
positive k _ rule.colon = omega arith

pub single : (k : Kind) (s : List ℕ) (b : ℕ) → b ≡ get_or s 0 0 → Sign k (b ∷ []) → (1 ≤ length s) × Sign k (take 1 s)
single k [] b e h = absurd (let p = positive k b h in omega arith)
single k (x ∷ s) b e h = (omega arith, subst (λ y. Sign k (y ∷ [])) e h)

-- no sign is longer than the one byte, where the three longer ones don't begin here
pub at_most_one : (s : List ℕ) → (get_or s 0 0 ≡ 60 → get_or s 1 0 ≡ 45 → get_or s 2 0 ≡ 62 → ⊥) → (get_or s 0 0 ≡ 45 → get_or s 1 0 ≡ 62 → ⊥) → (get_or s 0 0 ≡ 33 → get_or s 1 0 ≡ 61 → ⊥)
    → (k : Kind) (text : List ℕ) → Shape k text s → length text ≤ 1
at_most_one s no_iff no_implies no_unequal k text (of_three a b c l) = absurd (no_iff a b c)
at_most_one s no_iff no_implies no_unequal k text (of_two a b l) = absurd (no_implies a b)
at_most_one s no_iff no_implies no_unequal k text (of_unequal a b l) = absurd (no_unequal a b)
at_most_one s no_iff no_implies no_unequal k text (of_one h l) = omega arith

pub at_most_two : (s : List ℕ) → (get_or s 0 0 ≡ 60 → ⊥) → (k : Kind) (text : List ℕ) → Shape k text s → length text ≤ 2
at_most_two s other k text (of_three a b c l) = absurd (other a)
at_most_two s other k text (of_two a b l) = omega arith
at_most_two s other k text (of_unequal a b l) = omega arith
at_most_two s other k text (of_one h l) = omega arith

pub at_most_three : (s : List ℕ) (k : Kind) (text : List ℕ) → Shape k text s → length text ≤ 3
at_most_three s k text (of_three a b c l) = omega arith
at_most_three s k text (of_two a b l) = omega arith
at_most_three s k text (of_unequal a b l) = omega arith
at_most_three s k text (of_one h l) = omega arith

-- Expressions with the bytes of their names in place of spans, and like forms as one.
use Rattle.std.specs.Prelude.{ℕ, ◌+◌, Bool, not, ◌&&◌, ◌==◌, List, [], ◌∷◌, map, Option}

-- a name where it stands: the byte place of its token, and its bytes
pub record Name : Type 0 where
  pub place : ℕ
  pub word : List ℕ

-- a variable where it is bound, and the name of its sort, where that is told
pub record Binder : Type 0 where
  pub name : Name
  pub sort : Option Name

pub data Junction : Type 0 where
  Conjunction : Junction
  Disjunction : Junction

pub data Connective : Type 0 where
  Implication : Connective
  Equivalence : Connective

pub data Quantifier : Type 0 where
  Universal : Quantifier
  Existential : Quantifier

mutual
  -- An expression. The number is the byte place of its token.
  pub data Tree : Type 0 where
    Truth : (place : ℕ) → (value : Bool) → Tree
    -- whether brackets stand behind the name, and what they hold
    Named : Name → (brackets : Bool) → Trees → Tree
    New : (place : ℕ) → Tree → Tree
    Distinct : (place : ℕ) → Trees → Tree
    Not : (place : ℕ) → Tree → Tree
    -- a list of `&` or `|`
    Joined : (place : ℕ) → Junction → Trees → Tree
    Connected : (place : ℕ) → Connective → Tree → Tree → Tree
    -- `=`, or `!=` where equal is false
    Compared : (place : ℕ) → (equal : Bool) → Tree → Tree → Tree
    Quantified : (place : ℕ) → Quantifier → List Binder → Tree → Tree
    If : (place : ℕ) → Tree → Tree → Tree → Tree

  pub data Trees : Type 0 where
    none : Trees
    more : Tree → Trees → Trees

abbrev pub count : Trees → ℕ
count none = 0
count (more x xs) = count xs + 1

abbrev pub list_of : Trees → List Tree
list_of none = []
list_of (more x xs) = x ∷ list_of xs

abbrev pub trees_of : List Tree → Trees
trees_of [] = none
trees_of (x ∷ xs) = more x (trees_of xs)

-- a name with nothing behind it
abbrev pub is_alone : Bool → ℕ → Bool
is_alone brackets n = not brackets && (n == 0)

-- the names of the variables that are bound, in order
abbrev pub bound_names : List Binder → List Name
bound_names bs = map (λ (b : Binder). b.name) bs

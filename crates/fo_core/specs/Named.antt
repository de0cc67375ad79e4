-- The names of sorts, symbols, transitions and definitions.
use Rattle.std.specs.Prelude.{◌≡◌, ℕ, ◌≤◌, ◌<◌, List, [], ◌∷◌, length, slice_index_or, ◌⊎◌, codes}
use Rattle.std.specs.List.{All, Contains}
use Rattle.fo_core.specs.declared.signature.Sig.{Sig}
use Rattle.fo_core.specs.declared.names.Names.{Names}

-- a letter from A to Z or a to z, or `_`
abbrev pub BeginsWord : ℕ → Type 0
BeginsWord b = ((65 ≤ b) × (b ≤ 90)) ⊎ ((97 ≤ b) × (b ≤ 122)) ⊎ (b ≡ 95)

-- one of these, or a digit
abbrev pub ContinuesWord : ℕ → Type 0
ContinuesWord b = BeginsWord b ⊎ ((48 ≤ b) × (b ≤ 57))

-- a word: it begins with a letter or `_`, and goes on with these and digits
abbrev pub IsWord : List ℕ → Type 0
IsWord [] = ⊥
IsWord (b ∷ bs) = BeginsWord b × All ContinuesWord bs

-- the words that the language keeps for itself: those that begin or shape a declaration, those of
-- formulas, those of traces, and those of the parts of mypyvy that aren't read
abbrev pub reserved_words : List (List ℕ)
reserved_words =
    codes "sort" ∷ codes "mutable" ∷ codes "immutable" ∷ codes "relation" ∷ codes "constant"
    ∷ codes "function" ∷ codes "axiom" ∷ codes "init" ∷ codes "transition" ∷ codes "modifies" ∷ codes "safety"
    ∷ codes "invariant" ∷ codes "forall" ∷ codes "exists" ∷ codes "new" ∷ codes "true" ∷ codes "false"
    ∷ codes "distinct" ∷ codes "if" ∷ codes "then" ∷ codes "else" ∷ codes "sat" ∷ codes "unsat" ∷ codes "trace"
    ∷ codes "theorem" ∷ codes "derived" ∷ codes "definition" ∷ codes "onestate" ∷ codes "twostate"
    ∷ codes "zerostate" ∷ codes "automaton" ∷ codes "sketch" ∷ codes "let" ∷ codes "bool" ∷ codes "int" ∷ []

-- a name: a word that isn't reserved
pub record IsName (text : List ℕ) : Type 0 where
  pub word : IsWord text
  pub free : ¬ Contains reserved_words text

-- no two of the names are alike
abbrev pub AreDistinct : List (List ℕ) → Type 0
AreDistinct names = (i j : ℕ) → i < j → j < length names
    → ¬ (slice_index_or names i [] ≡ slice_index_or names j [])

-- a space of names: this many distinct names
pub record AreNames (count : ℕ) (names : List (List ℕ)) : Type 0 where
  pub one_each : length names ≡ count
  pub named : All IsName names
  pub distinct : AreDistinct names

-- no name of the one list stands in the other
abbrev pub AreApart : List (List ℕ) → List (List ℕ) → Type 0
AreApart names others = (i j : ℕ) → i < length names → j < length others
    → ¬ (slice_index_or others j [] ≡ slice_index_or names i [])

-- a name for each sort and symbol of the signature and for each of this many transitions, and the
-- names of the definitions, none of which is a symbol's
pub record NamesFit (sig : Sig) (step_count : ℕ) (names : Names) : Type 0 where
  pub sorts : AreNames sig.sorts names.sorts
  pub symbols : AreNames (length sig.symbols) names.symbols
  pub steps : AreNames step_count names.steps
  pub definitions : AreNames (length names.definitions) names.definitions
  pub apart : AreApart names.definitions names.symbols

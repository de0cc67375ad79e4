-- The text of a clause with its level.
use Rattle.std.specs.Prelude.{ℕ, ◌+◌, ◌^◌, ◌<◌, Bool, cond, List, [], ◌∷◌, ◌++◌, length, map, codes, decimal, slice_index_or}
use Rattle.std.specs.List.{flat_map}
use Rattle.fo_core.specs.declared.signature.Sig.{Sig}
use Rattle.fo_core.specs.declared.names.Names.{Names}
use Rattle.fo_core.specs.Named.{AreNames}
use Rattle.fo_text.specs.Parts.{IsBetween}
use Rattle.up_diagram.specs.declared.cube.Flat.{Flat}
use Rattle.up_diagram.specs.declared.cube.Flat.TheVariants.{Differ, Fact, Value}
use Rattle.up_diagram.specs.Cubes.{IsCube}
use Rattle.up_claims.specs.declared.verdict.Kept.{Kept}

-- distinct names, one for each sort and one for each symbol of the signature
pub record CanName (sig : Sig) (names : Names) : Type 0 where
  pub sorts : AreNames sig.sorts names.sorts
  pub symbols : AreNames (length sig.symbols) names.symbols

-- the texts, with another text between each two
abbrev pub joined : List ℕ → List (List ℕ) → List ℕ
joined between [] = []
joined between (t ∷ ts) = t ++ flat_map (λ u. between ++ u) ts

-- a variable: `V` and its number
abbrev pub variable_text : ℕ → List ℕ
variable_text v = codes "V" ++ decimal v

-- a symbol's name
abbrev pub symbol_name : Names → ℕ → List ℕ
symbol_name names k = slice_index_or names.symbols k []

-- a name, and variables in brackets: `r(V0, V1)`; a name alone where there is no variable
abbrev pub applied_text : List ℕ → List ℕ → List ℕ
applied_text name [] = name
applied_text name (v ∷ vs) =
    name ++ codes "(" ++ joined (codes ", ") (map variable_text (v ∷ vs)) ++ codes ")"

-- `!` in front of what denies a fact
abbrev pub mark : Bool → List ℕ
mark sign = cond sign (codes "!") []

-- the negation of a literal: `V0 = V1`, `!r(V0)` where the fact holds, `r(V0)` where it doesn't, and
-- `f(V0) != V1`
abbrev pub denial_text : Names → Flat → List ℕ
denial_text names (Differ i j) = variable_text i ++ codes " = " ++ variable_text j
denial_text names (Fact sign r vs) = mark sign ++ applied_text (symbol_name names r) vs
denial_text names (Value f vs v) =
    applied_text (symbol_name names f) vs ++ codes " != " ++ variable_text v

-- the negations of these literals, one of which is to hold; `false` where there is none
abbrev pub denials_text : Names → List Flat → List ℕ
denials_text names [] = codes "false"
denials_text names (lit ∷ lits) = joined (codes " | ") (map (denial_text names) (lit ∷ lits))

-- the variables from number k on, each with the name of its sort: `V0:SORT`
abbrev pub binder_texts : Names → ℕ → List ℕ → List (List ℕ)
binder_texts names k [] = []
binder_texts names k (s ∷ ss) =
    (variable_text k ++ codes ":" ++ slice_index_or names.sorts s [])
    ∷ binder_texts names (k + 1) ss

-- the clause speaks of all values of its variables, if it has some: `forall V0:SORT, V1:SORT. `
abbrev pub binders_text : Names → List ℕ → List ℕ
binders_text names [] = []
binders_text names (s ∷ ss) =
    codes "forall " ++ joined (codes ", ") (binder_texts names 0 (s ∷ ss)) ++ codes ". "

-- a clause, up to the end of its line: its level, its variables, and the negations of the literals of
-- the cube that it denies
abbrev pub clause_text : Names → Kept → List ℕ
clause_text names kept =
    decimal kept.level ++ codes " " ++ binders_text names kept.cube.sorts
    ++ denials_text names kept.cube.lits ++ codes "\n"

-- a well-sorted clause of a level in this range, over fewer than 2^32 variables
pub record HasClause (sig : Sig) (least most : ℕ) (kept : Kept) : Type 0 where
  pub level : IsBetween least most kept.level
  pub cube : IsCube sig kept.cube
  pub few : length kept.cube.sorts < 2 ^ 32

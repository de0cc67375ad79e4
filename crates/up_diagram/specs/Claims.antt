-- The sentences of a cube.
use Rattle.std.specs.Prelude.{ℕ, Bool, true, false, cond, map}
use Rattle.fo_core.specs.declared.signature.Sig.{Sig}
use Rattle.fo_core.specs.declared.term.Term.TheVariants as T
use Rattle.fo_core.specs.declared.formula.Formula.{Formula}
use Rattle.fo_core.specs.declared.formula.Formula.TheVariants as F
use Rattle.fo_core.specs.Tables.{symbol_at}
use Rattle.fo_core.specs.Over.{all_over}
use Rattle.fo_core.specs.Literals.{cube_claim}
use Rattle.up_diagram.specs.declared.cube.Flat.{Flat}
use Rattle.up_diagram.specs.declared.cube.Flat.TheVariants.{Differ, Fact, Value}
use Rattle.up_diagram.specs.declared.cube.Cube.{Cube}

-- the copy with which a symbol is written in a sentence about copy d
abbrev pub copy_for : Sig → ℕ → ℕ → ℕ
copy_for sig d k = cond (symbol_at sig k).mutable d 0

-- the formula, or its negation
abbrev pub signed : Bool → Formula → Formula
signed true f = f
signed false f = F.Not f

-- the literal, said of copy d
abbrev pub flat_formula : Sig → ℕ → Flat → Formula
flat_formula sig d (Differ i j) = F.Not (F.Eq (T.Var i) (T.Var j))
flat_formula sig d (Fact sign r variables) = signed sign (F.Rel r (copy_for sig d r) (map T.Var variables))
flat_formula sig d (Value f variables v) = F.Eq (T.App f (copy_for sig d f) (map T.Var variables)) (T.Var v)

-- copy d meets the cube
abbrev pub claim : Sig → Cube → ℕ → Formula
claim sig cube d = cube_claim cube.sorts (map (flat_formula sig d) cube.lits)

-- copy d doesn't meet the cube
abbrev pub clause : Sig → Cube → ℕ → Formula
clause sig cube d = all_over cube.sorts (F.Or (map (λ lit. F.Not (flat_formula sig d lit)) cube.lits))

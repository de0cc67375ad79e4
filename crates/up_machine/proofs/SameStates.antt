-- Copies of two worlds that agree meet the same cubes, and are in the same frames.
use Rattle.std.proofs.Common.{◌≡◌, ℕ, Bool, true, false, List, Option, None, Some, sym, ap, subst, ◌∙◌}
use Rattle.std.specs.Prelude.{slice_index}
use Rattle.fo_core.specs.declared.signature.Sig.{Sig}
use Rattle.fo_core.specs.declared.system.System.{System}
use Rattle.fo_core.specs.declared.world.Table.{Table}
use Rattle.fo_core.specs.declared.world.World.{World}
use Rattle.fo_core.specs.Agreeing.{Agree}
use Rattle.fo_core.specs.Runs.{AreElements}
use Rattle.fo_core.specs.Sorted.{IsSystem}
use Rattle.fo_core.specs.Tables.{symbol_at, arg_sizes, place, table_of, entry}
use Rattle.fo_core.proofs.ListFacts.{all_as}
use Rattle.fo_core.proofs.RunLemmas.{turned, tables-same, same-state}
use Rattle.up_diagram.specs.declared.cube.Flat.{Flat}
use Rattle.up_diagram.specs.declared.cube.Flat.TheVariants.{Differ, Fact, Value}
use Rattle.up_diagram.specs.declared.cube.Cube.{Cube}
use Rattle.up_diagram.specs.Cubes.{chosen, HasSign, IsTrueFlat, Meets}
use Rattle.up_claims.specs.Frames.{IsInFrame}

has_sign : (sign : Bool) (m n : ℕ) → m ≡ n → HasSign sign (m ≡ 1) → HasSign sign (n ≡ 1)
has_sign true m n e h = sym e ∙ h
has_sign false m n e h = λ is. h (e ∙ is)

module _ (sig : Sig) (v : World) (c : ℕ) (w : World) (d : ℕ) (same : Agree 1 v c w d) where
  entry_same : (k : ℕ) (xs : List ℕ) → entry sig v c k xs ≡ entry sig w d k xs
  entry_same k xs =
      ap (λ (t : Table). slice_index t.values (place (arg_sizes v.sizes (symbol_at sig k)) xs)) (tables-same sig v c w d same k)
      ∙ ap (λ (sizes : List ℕ). slice_index (table_of sig w d k).values (place (arg_sizes sizes (symbol_at sig k)) xs)) same.sizes

  flat_same : (xs : List ℕ) (lit : Flat) → IsTrueFlat sig v c xs lit → IsTrueFlat sig w d xs lit
  flat_same xs (Differ i j) h = h
  flat_same xs (Fact sign r variables) h = has_sign sign _ _ (entry_same r (chosen xs variables)) h
  flat_same xs (Value f variables x) h = sym (entry_same f (chosen xs variables)) ∙ h

  pub meets_same : (cube : Cube) → Meets sig v c cube → Meets sig w d cube
  meets_same cube h = (
    h.0,
    subst (λ (sizes : List ℕ). AreElements sizes h.0 cube.sorts) same.sizes h.1,
    all_as (IsTrueFlat sig v c h.0) (IsTrueFlat sig w d h.0) cube.lits (flat_same h.0) h.2,
  )

pub frame_same : (sys : System) → IsSystem sys → (v : World) (c : ℕ) (w : World) (d : ℕ) → Agree 1 v c w d → (frame : Option (List Cube)) → IsInFrame sys frame v c → IsInFrame sys frame w d
frame_same sys good v c w d same None h = (same-state sys good v c w d same).initial.0 h
frame_same sys good v c w d same (Some cubes) h = (
  (same-state sys good v c w d same).state.0 h.0,
  all_as (λ cube. ¬ Meets sys.sig v c cube) (λ cube. ¬ Meets sys.sig w d cube) cubes (λ cube avoids meets. avoids (meets_same sys.sig w d v c (turned 1 v c w d same) cube meets)) h.1,
)

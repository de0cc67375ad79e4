-- What is learnt from a state has no more variables than the state has elements.
use Rattle.std.proofs.Common.{ℕ, suc, ◌≤◌, ◌++◌, Bool, length, map, filter, take, drop, sum, arith}
use Rattle.std.specs.Prelude.{slice_index}
use Rattle.std.specs.List.{range_with_len}
use Rattle.std.proofs.lemmas.List.{length-map}
use Rattle.std.proofs.lemmas.List.FromFn.{length-range_with_len}
use Rattle.std.proofs.lemmas.List.Sums.{length-filter, count_by-le-length}
use Rattle.fo_core.specs.declared.signature.Sig.{Sig}
use Rattle.fo_core.specs.declared.world.World.{World}
use Rattle.fo_core.proofs.ElementLemmas.{sorts-length}
use Rattle.up_diagram.specs.declared.cube.Cube.{Cube}
use Rattle.up_diagram.specs.Cubes.{without, is_used}
use Rattle.up_claims.specs.Blocked.{Passes, ends, drops, keeps}
use Rattle.up_machine.specs.Finding.{state_cube}

narrow : (test : ℕ → Bool) (f : ℕ → ℕ) (n : ℕ) → length (map f (filter test (range_with_len 0 n))) ≤ n
narrow test f n = simp length-map (omega (arith, length-filter test (range_with_len 0 n), count_by-le-length test (range_with_len 0 n), length-range_with_len 0 n))

without-narrow : (cube : Cube) (k : ℕ) → length (without cube k).sorts ≤ length cube.sorts
without-narrow cube k = narrow (is_used (take k cube.lits ++ drop (suc k) cube.lits)) (slice_index cube.sorts) (length cube.sorts)

pass-narrow : (Good : Cube → Type 0) (k : ℕ) (cube rest : Cube) → Passes Good k cube rest → length rest.sorts ≤ length cube.sorts
pass-narrow Good k cube rest (ends _ _ h) = omega arith
pass-narrow Good k cube rest (drops _ _ _ lt better p) = omega (arith, without-narrow cube k, pass-narrow Good k (without cube k) rest p)
pass-narrow Good k cube rest (keeps _ _ _ lt worse p) = pass-narrow Good (suc k) cube rest p

-- a cube that a pass leaves of a state's diagram
pub learnt-narrow : (Good : Cube → Type 0) (sig : Sig) (world : World) (cube : Cube) → Passes Good 0 (state_cube sig world) cube → length cube.sorts ≤ sum world.sizes
learnt-narrow Good sig world cube p = omega (arith, pass-narrow Good 0 (state_cube sig world) cube p, sorts-length world.sizes)

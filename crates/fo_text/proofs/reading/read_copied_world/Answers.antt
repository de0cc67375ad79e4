use Rattle.std.proofs.Common.{ℕ, List, length, ap, ◌∙◌}
use Rattle.fo_text.proofs.Whole.{sizes_read}
use Rattle.fo_text.proofs.reading.read_copied_world.Goals as goal

pub read_structure-requires-clause-each : goal.read_structure-requires-clause-each
read_structure-requires-clause-each c =
    (sizes_read c.as_slice.result.now c.in_ok-rest-3.rest.now c.in_ok-sizes.sizes c.in_ok-sizes.rest.now c.in_ok-sizes.ensures).count ∙ ap (λ (l : List (List ℕ)). length l) c.as_slice.ensures ∙ c.requires.named.sorts

pub read_structure-requires-clause-nonempty : goal.read_structure-requires-clause-nonempty
read_structure-requires-clause-nonempty c =
    (sizes_read c.as_slice.result.now c.in_ok-rest-3.rest.now c.in_ok-sizes.sizes c.in_ok-sizes.rest.now c.in_ok-sizes.ensures).are.nonempty

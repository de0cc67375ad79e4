use Rattle.std.proofs.Common.{ℕ, List, length, sym, ap, ◌∙◌, arith}
use Rattle.up_report.proofs.ReadLinks.{sizes_of_read}
use Rattle.up_report.proofs.link_reading.read_state.Goals as goal

pub read_maps-requires-clause-from_each : goal.read_maps-requires-clause-from_each
read_maps-requires-clause-from_each c =
    ap (λ (l : List ℕ). length l) c.as_slice-2.ensures
    ∙ sizes_of_read c.args.sig.now c.args.names.now c.requires.signature c.requires.named 1 c.args.bytes.now c.in_ok-state.state c.in_ok-state.rest.now (omega arith) (omega arith) c.in_ok-state.ensures
    ∙ sym (ap (λ (l : List (List ℕ)). length l) c.as_slice.ensures)

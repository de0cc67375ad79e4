-- One more write went out.
use Rattle.std.proofs.Common.{rules, ◌+◌, ◌-◌, ◌≤◌, drop, length, arith}
use Rattle.std.proofs.Math.Seq.{take-add}
use Rattle.std.proofs.lemmas.List.{take-take}
use Rattle.std.proofs.KnownBytes.{Appends-trans}
use Rattle.pv_base.proofs.real_sinks.write_on.Goals as goal

pub each-preserved : goal.each-preserved
each-preserved g c =
    let within : c.each.done + c.in-Ok.count ≤ length c.args.bytes.now = search rules in
    let rest = length c.args.bytes.now - c.each.done in
    let more = rw (take-take c.in-Ok.count rest (drop c.each.done c.args.bytes.now) (omega arith)) at c.in-Ok.ensures.bytes in
    record {
      within = within;
      bytes = rw take-add (Appends-trans _ _ _ _ _ c.each.invariant.bytes more);
    }

use Rattle.std.proofs.Common.{rules, arith, ◌≡◌, ◌≤◌, ◌∙◌, ap, length, take}
use Rattle.std.proofs.lemmas.List.{length-take-le}
use Rattle.pv_base.proofs.entries.read_out.Goals as goal

pub returns-then-content-gt-LIMIT-clause-read : goal.returns-then-content-gt-LIMIT-clause-read
returns-then-content-gt-LIMIT-clause-read c =
    let front : c.extend_from_slice.new.self.items ≡ take 1048577 c.args.content.now = search rules in
    let long : 1048577 ≤ length c.args.content.now = omega arith in
    record { past = ap length front ∙ length-take-le 1048577 c.args.content.now long; long = omega arith; front = front }

use Rattle.up_claims.proofs.JudgingLemmas.{known-from}
use Rattle.up_cert.proofs.clauses.try_frame.Goals as goal

pub try_seed-requires-clause-frame : goal.try_seed-requires-clause-frame
try_seed-requires-clause-frame g c =
    rw (c.as_slice.ensures, c.in_ok-frame.ensures) (known-from c.args.sys.now c.requires.infer.system c.args.clauses.now c.requires.clauses.sorted c.args.level)

pub returns-clause-tried : goal.returns-clause-tried
returns-clause-tried g c = rw (c.as_slice.ensures, c.in_ok-frame.ensures) at c.try_seed.ensures.tried

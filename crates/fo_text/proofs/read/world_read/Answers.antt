use Rattle.std.proofs.Common.{ℕ, List, ap, sym, ◌∙◌, arith}
use Rattle.fo_core.specs.declared.world.World.{World}
use Rattle.fo_text.proofs.Exact.{ok_is}
use Rattle.fo_text.proofs.Places.{is_taken, is_read, is_stopped}
use Rattle.fo_text.proofs.read.world_read.Goals as goal

pub overflow_sub-at : goal.overflow_sub-at
overflow_sub-at c =
    (is_taken c.args.sig.now c.args.names.now c.requires.signature c.requires.named c.args.bytes.now c.args.at.now c.requires.within c.requires.short c.in-Ok.world c.in-Ok.rest.now c.in-Ok.ensures).few

pub overflow_sub-result : goal.overflow_sub-result
overflow_sub-result c =
    (is_stopped c.args.sig.now c.args.names.now c.requires.signature c.requires.named c.args.bytes.now c.args.at.now c.requires.within c.requires.short c.in-Err-Fault.left (rw c.in-Err-Fault.field-0-is at c.in-Err-Fault.ensures)).few

pub returns-in-Ok-clause-fits : goal.returns-in-Ok-clause-fits
returns-in-Ok-clause-fits c =
    (is_taken c.args.sig.now c.args.names.now c.requires.signature c.requires.named c.args.bytes.now c.args.at.now c.requires.within c.requires.short c.in-Ok.world c.in-Ok.rest.now c.in-Ok.ensures).fits

pub returns-in-Ok-clause-taken : goal.returns-in-Ok-clause-taken
returns-in-Ok-clause-taken c =
    (is_taken c.args.sig.now c.args.names.now c.requires.signature c.requires.named c.args.bytes.now c.args.at.now c.requires.within c.requires.short c.in-Ok.world c.in-Ok.rest.now c.in-Ok.ensures).text

pub returns-in-Ok-clause-behind : goal.returns-in-Ok-clause-behind
returns-in-Ok-clause-behind c =
    let t = is_taken c.args.sig.now c.args.names.now c.requires.signature c.requires.named c.args.bytes.now c.args.at.now c.requires.within c.requires.short c.in-Ok.world c.in-Ok.rest.now c.in-Ok.ensures in
    (t.behind, omega arith)

pub returns-in-Ok-clause-only : goal.returns-in-Ok-clause-only
returns-in-Ok-clause-only c = λ w rest h e.
    let r = is_read c.args.sig.now c.args.names.now c.requires.signature c.requires.named c.args.bytes.now c.args.at.now c.requires.within c.requires.short w rest h e in
    ap (λ (p : World × List ℕ). p.0) (ok_is (c.in-Ok.world, c.in-Ok.rest.now) (w, rest) (sym c.in-Ok.ensures ∙ r))

pub returns-in-Err-Fault-clause-only : goal.returns-in-Err-Fault-clause-only
returns-in-Err-Fault-clause-only c = λ w rest h e.
    let r = is_read c.args.sig.now c.args.names.now c.requires.signature c.requires.named c.args.bytes.now c.args.at.now c.requires.within c.requires.short w rest h e in
    let f = rw c.in-Err-Fault.field-0-is at c.in-Err-Fault.ensures in
    absurd (cc (r, f))

pub returns-in-Err-Fault-clause-bad : goal.returns-in-Err-Fault-clause-bad
returns-in-Err-Fault-clause-bad c =
    (is_stopped c.args.sig.now c.args.names.now c.requires.signature c.requires.named c.args.bytes.now c.args.at.now c.requires.within c.requires.short c.in-Err-Fault.left (rw c.in-Err-Fault.field-0-is at c.in-Err-Fault.ensures)).stops

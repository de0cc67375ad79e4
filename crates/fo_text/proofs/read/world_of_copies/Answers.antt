use Rattle.std.proofs.Common.{◌<◌, ◌-◌, ◌^◌, length, sym, arith}
use Rattle.fo_text.proofs.Whole.{copied_cut}
use Rattle.fo_text.proofs.read.world_of_copies.Goals as goal

pub returns : goal.returns
returns c =
    let few : length c.args.bytes.now < 2 ^ 64 - 1 = omega arith in
    let e = copied_cut c.args.sig.now c.args.names.now c.requires.signature c.requires.named c.args.copies c.args.bytes.now few in
    rw (sym e) c.read_copied_world.ensures

use Rattle.std.proofs.Common.{◌≡◌, ◌+◌, ◌*◌, map, drop}
use Rattle.fo_core.specs.Tables.{symbol_at, tuples, place}
use Rattle.fo_ground.specs.Layout.{size_of, locals}
use Rattle.fo_ground.proofs.place.slot.Given as goal

-- the number of the copy and the arguments so far, and that of what is left
abbrev pub invariant-each : goal.invariant-each
invariant-each l =
    let ss = (symbol_at l.lay.sig l.symbol).args in
    let sizes = map (size_of l.u l.lay) ss in
    let ls = locals l.u l.lay ss l.places in
    l.tuple * tuples (drop l.i sizes) + place (drop l.i sizes) (drop l.i ls) ≡ l.fn.copy * tuples sizes + place sizes ls

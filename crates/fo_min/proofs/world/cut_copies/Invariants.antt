use Rattle.std.proofs.Common.{◌≡◌, ◌++◌, ◌-◌, sum}
use Rattle.fo_min.specs.Cut.{cut_copies as cut_copies_of}
use Rattle.fo_min.proofs.world.cut_copies.Given as goal

-- the copies before this one are cut off
abbrev pub invariant-each : goal.invariant-each
invariant-each l = record {
  each : l.each ≡ sum l.counts;
  told : l.all ++ cut_copies_of l.counts (l.copies - l._d) l.rest ≡ cut_copies_of l.counts l.copies l.values;
}

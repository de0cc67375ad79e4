use Rattle.std.proofs.Common.{◌≡◌, map}
use Rattle.std.specs.List.{range_with_len}
use Rattle.prop_core.specs.Formula.{value_of}
use Rattle.fo_ground.specs.Classes.{heads_of}
use Rattle.fo_ground.specs.Layout.{slot, same_by, fact_by}
use Rattle.fo_ground.proofs.classes.all_heads.Given as goal

-- the sorts before this one have their first terms
abbrev pub invariant-each : goal.invariant-each
invariant-each l = l.all.items ≡ map (heads_of l.u.terms (slot l.u l.lay) (same_by l.u l.lay (value_of l.values)) (fact_by l.u l.lay (value_of l.values))) (range_with_len 0 l.sort)

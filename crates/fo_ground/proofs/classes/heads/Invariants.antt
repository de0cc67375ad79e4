use Rattle.std.proofs.Common.{◌≡◌}
use Rattle.std.specs.List.{All}
use Rattle.prop_core.specs.Formula.{value_of}
use Rattle.fo_terms.specs.Universe.{IsOf}
use Rattle.fo_ground.specs.Classes.{heads as heads_before}
use Rattle.fo_ground.specs.Layout.{slot, same_by, fact_by}
use Rattle.fo_ground.proofs.classes.heads.Given as goal

-- the terms before this one have their first terms
abbrev pub invariant-each : goal.invariant-each
invariant-each l = record {
  built : l.heads.items ≡ heads_before l.u.terms (slot l.u l.lay) (same_by l.u l.lay (value_of l.values)) (fact_by l.u l.lay (value_of l.values)) l.sort l.p;
  sorted : All (IsOf l.u.terms l.sort) l.heads.items;
}

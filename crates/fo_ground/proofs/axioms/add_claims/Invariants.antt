use Rattle.std.proofs.Common.{◌≡◌, [], take}
use Rattle.std.specs.List.{All}
use Rattle.fo_ground.specs.Emits.{Adds}
use Rattle.fo_ground.specs.Layout.{IsMetBy}
use Rattle.fo_ground.proofs.axioms.add_claims.Given as goal

-- the instances of the claims so far were added
abbrev pub invariant-each : goal.invariant-each
invariant-each l = record {
  empty : l.env.items ≡ [];
  added : Adds l.lay.base [] (λ v. All (λ f. IsMetBy l.u l.lay f [] v) (take l.f-index l.claims)) l.fn.into.vars l.fn.into.clauses l.into.vars l.into.clauses;
}

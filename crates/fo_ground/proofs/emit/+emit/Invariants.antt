use Rattle.std.proofs.Common.{◌≡◌, ℕ, ◌<◌, ◌≤◌, ◌++◌, [], ◌∷◌, take}
use Rattle.std.specs.List.{All, Any}
use Rattle.fo_ground.specs.Emits.{Adds, Offers}
use Rattle.fo_ground.specs.Layout.{IsMetBy}
use Rattle.fo_ground.proofs.emit.+emit.Given as goal

-- the conjuncts so far were added
abbrev pub invariant-each : goal.invariant-each
invariant-each l = record {
  kept : l.env.items ≡ l.fn.env.items;
  added : Adds l.lay.base l.prefix (λ v. All (λ f. IsMetBy l.u l.lay f l.fn.env.items v) (take l.g-index l.g-items)) l.fn.into.vars l.fn.into.clauses l.into.vars l.into.clauses;
}

-- the clause in the making has the disjuncts so far
abbrev pub invariant-some : goal.invariant-some
invariant-some l = record {
  kept : l.env.items ≡ l.fn.env.items;
  offered : Offers l.lay.base l.prefix (λ v. Any (λ f. IsMetBy l.u l.lay f l.fn.env.items v) (take l.g-index l.g-items)) l.fn.into.vars l.fn.into.clauses l.into.vars l.into.clauses l.clause;
}

-- the instances under the ground terms so far were added
abbrev pub invariant-every : goal.invariant-every
invariant-every l = record {
  kept : l.env.items ≡ l.fn.env.items;
  added : Adds l.lay.base l.prefix (λ v. (p : ℕ) → l.first ≤ p → p < l.p → IsMetBy l.u l.lay l.g (l.fn.env.items ++ p ∷ []) v) l.fn.into.vars l.fn.into.clauses l.into.vars l.into.clauses;
}

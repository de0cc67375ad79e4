use Rattle.std.proofs.Common.{◌≡◌, Some, get_or, slice_get, subst}
use Rattle.std.proofs.lemmas.Option.{slice_get-get_or}
use Rattle.up_core.specs.Places.{is_live}
use Rattle.up_core.proofs.Placed.{placed-lt}
use Rattle.up_core.proofs.clauses.live_clause.Goals as goal

pub entry_at-requires : goal.entry_at-requires
entry_at-requires c =
    let k = get_or c.args.live.now c.args.at 0 in
    placed-lt is_live c.args.entries.now c.args.at k (subst (λ ks. slice_get ks c.args.at ≡ Some k) c.requires.live (slice_get-get_or c.args.live.now c.args.at 0 c.requires.within))

pub returns-clause-number : goal.returns-clause-number
returns-clause-number c = slice_get-get_or c.args.live.now c.args.at 0 c.requires.within

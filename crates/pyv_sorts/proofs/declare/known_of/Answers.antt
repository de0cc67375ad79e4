use Rattle.pyv_meaning.specs.Items.{items_of}
use Rattle.pyv_sorts.proofs.Noted.{knows_of, same_count, all_names, all_symbols}
use Rattle.pyv_sorts.proofs.declare.known_of.Goals as goal

pub noted-requires : goal.noted-requires
noted-requires c = knows_of c.in_ok-sorts.sorts (items_of c.args.bytes.now c.args.decls.now) c.in_ok-sorts.ensures

pub into_known-requires : goal.into_known-requires
into_known-requires c = same_count c.in_ok-sorts.sorts (items_of c.args.bytes.now c.args.decls.now) c.in_ok-noted.noted c.in_ok-noted.ensures.noted

pub returns-clause-names : goal.returns-clause-names
returns-clause-names c =
    all_names (items_of c.args.bytes.now c.args.decls.now) c.in_ok-noted.ensures.tells c.in_ok-sorts.sorts c.in_ok-sorts.ensures c.in_ok-noted.noted c.in_ok-noted.ensures.noted c.into_known.result.names c.into_known.ensures.names

pub returns-clause-sig : goal.returns-clause-sig
returns-clause-sig c =
    all_symbols (items_of c.args.bytes.now c.args.decls.now) c.in_ok-noted.ensures.tells c.in_ok-sorts.sorts c.in_ok-sorts.ensures c.in_ok-noted.noted c.in_ok-noted.ensures.noted c.into_known.result.sig c.into_known.ensures.sig

use Rattle.std.proofs.Common.{sym, subst}
use Rattle.fo_core.specs.Sorted.{IsSig}
use Rattle.fo_ground.proofs.GroundLemmas.{few_terms}
use Rattle.fo_ground.proofs.Models.{sig-whole}
use Rattle.fo_ground.proofs.laying.lay_out.Goals as goal

pub sizes-requires-clause-few : goal.sizes-requires-clause-few
sizes-requires-clause-few c = few_terms c.args.sig.now c.args.form.now c.args.u.now c.requires

pub term_starts-requires-clause-sig : goal.term_starts-requires-clause-sig
term_starts-requires-clause-sig c = subst IsSig (sym c.in_ok-whole.ensures) (sig-whole c.args.sig.now c.args.form.now c.requires.signature c.requires.skolem)

pub term_starts-requires-clause-few : goal.term_starts-requires-clause-few
term_starts-requires-clause-few c = few_terms c.args.sig.now c.args.form.now c.args.u.now c.requires

pub row_starts-requires-clause-few : goal.row_starts-requires-clause-few
row_starts-requires-clause-few c = few_terms c.args.sig.now c.args.form.now c.args.u.now c.requires

pub symbol_starts-requires-clause-signature : goal.symbol_starts-requires-clause-signature
symbol_starts-requires-clause-signature c = subst IsSig (sym c.in_ok-whole.ensures) (sig-whole c.args.sig.now c.args.form.now c.requires.signature c.requires.skolem)

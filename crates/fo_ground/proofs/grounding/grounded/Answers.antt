use Rattle.std.proofs.Common.{◌≡◌, ◌∙◌, List, [], ◌++◌, length, sym, ap, subst}
use Rattle.std.proofs.lemmas.List.{append-nil}
use Rattle.std.specs.Prelude.{replicate}
use Rattle.fo_ground.specs.declared.grounded.Atom.{Atom}
use Rattle.fo_ground.specs.declared.grounded.Atom.TheVariants.{Helper}
use Rattle.fo_ground.specs.Grounds.{IsListed, IsGrounded}
use Rattle.fo_ground.specs.Numbers.{atoms_of}
use Rattle.fo_ground.proofs.GroundLemmas.{laid-out, own-signature, own-claims, own-list, own-shapes, grounds}
use Rattle.fo_ground.proofs.grounding.grounded.Goals as goal

pub atoms-requires-clause-ready : goal.atoms-requires-clause-ready
atoms-requires-clause-ready c = laid-out c.args.sig.now c.args.form.now c.args.u.now c.requires c.in_ok-lay.lay c.in_ok-lay.ensures.layout c.in_ok-lay.ensures.small

pub add_axioms-requires-clause-ready : goal.add_axioms-requires-clause-ready
add_axioms-requires-clause-ready c = laid-out c.args.sig.now c.args.form.now c.args.u.now c.requires c.in_ok-lay.lay c.in_ok-lay.ensures.layout c.in_ok-lay.ensures.small

pub add_claims-requires-clause-ready : goal.add_claims-requires-clause-ready
add_claims-requires-clause-ready c = laid-out c.args.sig.now c.args.form.now c.args.u.now c.requires c.in_ok-lay.lay c.in_ok-lay.ensures.layout c.in_ok-lay.ensures.small

pub atoms-requires-clause-sig : goal.atoms-requires-clause-sig
atoms-requires-clause-sig c = own-signature c.args.sig.now c.args.form.now c.args.u.now c.requires c.in_ok-lay.lay c.in_ok-lay.ensures.layout

pub add_axioms-requires-clause-listed : goal.add_axioms-requires-clause-listed
add_axioms-requires-clause-listed c =
    let lay = c.in_ok-lay.lay in
    rw (c.as_slice.ensures.value, c.in_ok-atoms.ensures) (subst (IsListed c.args.u.now c.in_ok-lay.lay) (append-nil (atoms_of lay.sig lay.copies c.args.u.now)) (own-list c.args.sig.now c.args.form.now c.args.u.now c.requires c.in_ok-lay.lay c.in_ok-lay.ensures.layout []))

pub add_axioms-requires-clause-shaped : goal.add_axioms-requires-clause-shaped
add_axioms-requires-clause-shaped c = rw (c.as_slice.ensures.value, c.in_ok-atoms.ensures) (own-shapes c.args.sig.now c.args.form.now c.args.u.now c.requires c.in_ok-lay.lay c.in_ok-lay.ensures.layout)

pub add_claims-requires-clause-sorted : goal.add_claims-requires-clause-sorted
add_claims-requires-clause-sorted c = rw c.as_slice-2.ensures (own-claims c.args.sig.now c.args.form.now c.args.u.now c.requires c.in_ok-lay.lay c.in_ok-lay.ensures.layout)

pub returns : goal.returns
returns c =
    let helpers = c.in_ok-push_helpers.ensures.helpers in
    let n = helpers.0 in
    let lay = c.in_ok-lay.lay in
    let u = c.args.u.now in
    let filled : c.push_helpers.new.atoms.items ≡ atoms_of lay.sig lay.copies u ++ replicate n Helper = helpers.1 ∙ ap (λ xs. xs ++ replicate n Helper) c.in_ok-atoms.ensures in
    let len : length (atoms_of lay.sig lay.copies u ++ replicate n Helper) ≡ c.add_claims.new.into.vars = ap length (sym filled) ∙ c.in_ok-push_helpers.ensures.length in
    let axioms = rw c.new.ensures at c.in_ok-add_axioms.ensures in
    let claims = rw c.as_slice-2.ensures at c.in_ok-add_claims.ensures in
    let all = grounds c.args.sig.now c.args.form.now u c.requires lay c.in_ok-lay.ensures.layout c.in_ok-lay.ensures.small c.add_axioms.new.into.vars c.add_axioms.new.into.clauses c.add_claims.new.into.vars c.add_claims.new.into.clauses axioms claims n len in
    subst (λ (xs : List Atom). IsGrounded c.args.sig.now c.args.form.now u (record { cnf = record { vars = c.add_claims.new.into.vars; clauses = c.add_claims.new.into.clauses }; atoms = xs })) (sym (c.from_vec.ensures ∙ filled)) all

use Rattle.std.proofs.Common.{[], subst}
use Rattle.std.proofs.lemmas.List.{append-nil}
use Rattle.fo_ground.specs.Grounds.{IsListed}
use Rattle.fo_ground.specs.Numbers.{atoms_of}
use Rattle.fo_ground.proofs.GroundLemmas.{own-layout, own-signature, own-universe, own-list, own-shapes, own-length}
use Rattle.fo_ground.proofs.GroundworkLemmas.{laid}
use Rattle.fo_ground.proofs.groundwork.Groundwork.axioms.Goals as goal

pub atoms-requires-clause-ready : goal.atoms-requires-clause-ready
atoms-requires-clause-ready c = laid c.args.self.now c.requires

pub atoms-requires-clause-sig : goal.atoms-requires-clause-sig
atoms-requires-clause-sig c = let is = c.requires in own-signature is.sig is.form c.args.self.now.universe is.can c.args.self.now.layout is.layout

pub atoms-requires-clause-same : goal.atoms-requires-clause-same
atoms-requires-clause-same c = let is = c.requires in own-layout is.sig is.form c.args.self.now.universe is.can c.args.self.now.layout is.layout

pub add_axioms-requires-clause-ready : goal.add_axioms-requires-clause-ready
add_axioms-requires-clause-ready c = laid c.args.self.now c.requires

pub add_axioms-requires-clause-universe : goal.add_axioms-requires-clause-universe
add_axioms-requires-clause-universe c = let is = c.requires in own-universe is.sig is.form c.args.self.now.universe is.can c.args.self.now.layout is.layout

pub add_axioms-requires-clause-listed : goal.add_axioms-requires-clause-listed
add_axioms-requires-clause-listed c =
    let is = c.requires in
    let g = c.args.self.now in
    rw (c.as_slice.ensures.value, c.in_ok-atoms.ensures) (subst (IsListed g.universe g.layout) (append-nil (atoms_of g.layout.sig g.layout.copies g.universe)) (own-list is.sig is.form g.universe is.can g.layout is.layout []))

pub add_axioms-requires-clause-shaped : goal.add_axioms-requires-clause-shaped
add_axioms-requires-clause-shaped c =
    let is = c.requires in
    rw (c.as_slice.ensures.value, c.in_ok-atoms.ensures) (own-shapes is.sig is.form c.args.self.now.universe is.can c.args.self.now.layout is.layout)

pub add_axioms-requires-clause-long : goal.add_axioms-requires-clause-long
add_axioms-requires-clause-long c =
    let is = c.requires in
    rw (c.as_slice.ensures.value, c.in_ok-atoms.ensures) (own-length is.sig is.form c.args.self.now.universe is.can c.args.self.now.layout is.layout)

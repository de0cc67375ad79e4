use Rattle.std.proofs.Common.{List, sym, subst}
use Rattle.fo_core.specs.declared.term.Term.{Term}
use Rattle.fo_core.specs.Tables.{symbol_at}
use Rattle.fo_terms.specs.Universe.{IsOf}
use Rattle.fo_ground.specs.Layout.{HasInstance, HavePlaces}
use Rattle.fo_ground.proofs.AtomLemmas.{rel-places, rel-sorted, rel-variable, eq-sorted, eq-variable}
use Rattle.fo_ground.proofs.emit.atom.Goals as goal

pub places-requires-clause-named : goal.places-requires-clause-named
places-requires-clause-named c =
    let h = subst (HasInstance c.args.u.now c.args.lay.now c.args.env.now) c.in-Rel.is c.requires.instance in
    let named = rel-places c.args.u.now c.args.lay.now c.args.env.now c.requires.ready c.in-Rel.r c.in-Rel.d c.in-Rel.args h in
    let rs = (symbol_at c.args.lay.now.sig c.in-Rel.r).args in
    (rs, subst (λ (ts : List Term). HavePlaces c.args.u.now c.args.lay.now c.args.env.now ts rs) (sym c.as_slice.ensures) named)

pub slot-requires-clause-sorted : goal.slot-requires-clause-sorted
slot-requires-clause-sorted c =
    let h = subst (HasInstance c.args.u.now c.args.lay.now c.args.env.now) c.in-Rel.is c.requires.instance in
    rw (c.as_slice-in-Rel.ensures.value, c.in_ok-places-in-Rel.ensures, c.as_slice.ensures) (rel-sorted c.args.u.now c.args.lay.now c.args.env.now c.requires.ready c.in-Rel.r c.in-Rel.d c.in-Rel.args h)

pub same-requires-clause-sorted : goal.same-requires-clause-sorted
same-requires-clause-sorted c =
    let h = subst (HasInstance c.args.u.now c.args.lay.now c.args.env.now) c.in-Eq.is c.requires.instance in
    let e = eq-sorted c.args.u.now c.args.lay.now c.args.env.now c.requires.ready c.in-Eq.a c.in-Eq.b h in
    (e.0, subst (IsOf c.args.u.now.terms e.0) (sym c.in_ok-p-in-Eq.ensures) e.1, subst (IsOf c.args.u.now.terms e.0) (sym c.in_ok-q-in-Eq.ensures) e.2)

pub returns-in_ok-places-in-Rel : goal.returns-in_ok-places-in-Rel
returns-in_ok-places-in-Rel c =
    let h = subst (HasInstance c.args.u.now c.args.lay.now c.args.env.now) c.in-Rel.is c.requires.instance in
    rw (c.slot.ensures, c.as_slice-in-Rel.ensures.value, c.in_ok-places-in-Rel.ensures, c.as_slice.ensures, c.in-Rel.is) (rel-variable c.args.u.now c.args.lay.now c.args.env.now c.requires.ready c.in-Rel.r c.in-Rel.d c.in-Rel.args h)

pub returns-in_ok-q-in-Eq : goal.returns-in_ok-q-in-Eq
returns-in_ok-q-in-Eq c =
    let h = subst (HasInstance c.args.u.now c.args.lay.now c.args.env.now) c.in-Eq.is c.requires.instance in
    rw (c.same.ensures, c.in_ok-p-in-Eq.ensures, c.in_ok-q-in-Eq.ensures, c.in-Eq.is) (eq-variable c.args.u.now c.args.lay.now c.args.env.now c.requires.ready c.in-Eq.a c.in-Eq.b h)

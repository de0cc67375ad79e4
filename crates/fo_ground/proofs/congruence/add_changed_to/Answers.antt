use Rattle.std.proofs.Common.{◌≡◌, ◌∙◌, ◌<◌, true, [], sym, ap, subst, get_or}
use Rattle.std.proofs.Math.ListN.{set}
use Rattle.fo_core.specs.Tables.{symbol_at}
use Rattle.fo_ground.specs.Axioms.{IsFactChangedTo}
use Rattle.fo_ground.specs.Layout.{slot, same_var}
use Rattle.fo_ground.proofs.CongruenceLemmas.{arg-of, changed-of, set-itself}
use Rattle.fo_ground.proofs.Emitting.{adds_nothing}
use Rattle.fo_ground.proofs.congruence.add_changed_to.Goals as goal

pub returns-then-p-args : goal.returns-then-p-args
returns-then-p-args c =
    let e : set c.args.args.now c.args.i c.args.p ≡ c.args.args.now = ap (λ p. set c.args.args.now c.args.i p) c.if-p-args.true ∙ set-itself c.args.args.now c.args.i c.requires.index in
    adds_nothing c.args.lay.now.base [] (IsFactChangedTo c.args.u.now c.args.lay.now c.args.symbol c.args.copy c.args.args.now c.args.i c.args.p) c.args.into.now.vars c.args.into.now.clauses c.requires.over c.requires.within
    (λ v a b. subst (λ xs. v (slot c.args.u.now c.args.lay.now c.args.symbol c.args.copy xs) ≡ true) (sym e) b)

pub slot-before-requires-clause-symbol : goal.slot-before-requires-clause-symbol
slot-before-requires-clause-symbol c = (true, c.requires.symbol)

pub slot-after-requires-clause-sorted : goal.slot-after-requires-clause-sorted
slot-after-requires-clause-sorted c = rw (c.as_slice.ensures.value, c.in_ok-changed.ensures) (changed-of c.args.u.now c.args.lay.now c.requires.ready c.args.args.now (symbol_at c.args.lay.now.sig c.args.symbol).args c.requires.sorted c.args.i c.requires.index c.args.p c.requires.place)

pub same-alike-requires-clause-sorted : goal.same-alike-requires-clause-sorted
same-alike-requires-clause-sorted c = (get_or (symbol_at c.args.lay.now.sig c.args.symbol).args c.args.i 0, arg-of c.args.u.now c.args.lay.now c.requires.ready c.args.args.now (symbol_at c.args.lay.now.sig c.args.symbol).args c.requires.sorted c.args.i c.requires.index, c.requires.place)

pub returns : goal.returns
returns c =
    let s = get_or (symbol_at c.args.lay.now.sig c.args.symbol).args c.args.i 0 in
    let after = changed-of c.args.u.now c.args.lay.now c.requires.ready c.args.args.now (symbol_at c.args.lay.now.sig c.args.symbol).args c.requires.sorted c.args.i c.requires.index c.args.p c.requires.place in
    let is-alike : c.same-alike.result ≡ same_var c.args.u.now c.args.lay.now (get_or c.args.args.now c.args.i 0) c.args.p = c.same-alike.ensures in
    let is-after : c.slot-after.result ≡ slot c.args.u.now c.args.lay.now c.args.symbol c.args.copy (set c.args.args.now c.args.i c.args.p) = c.slot-after.ensures ∙ ap (slot c.args.u.now c.args.lay.now c.args.symbol c.args.copy) (c.as_slice.ensures.value ∙ c.in_ok-changed.ensures) in
    let lt1 = subst (λ x. x < c.args.lay.now.base) (sym is-alike) (c.requires.ready.same s (get_or c.args.args.now c.args.i 0) c.args.p (arg-of c.args.u.now c.args.lay.now c.requires.ready c.args.args.now (symbol_at c.args.lay.now.sig c.args.symbol).args c.requires.sorted c.args.i c.requires.index) c.requires.place) in
    let lt2 = subst (λ x. x < c.args.lay.now.base) (sym c.slot-before.ensures) (c.requires.ready.facts c.args.symbol c.args.copy c.args.args.now c.requires.symbol c.requires.sorted) in
    let lt3 = subst (λ x. x < c.args.lay.now.base) (sym is-after) (c.requires.ready.facts c.args.symbol c.args.copy (set c.args.args.now c.args.i c.args.p) c.requires.symbol after) in
    let add = c.in_ok-add_rule.ensures c.args.lay.now.base c.requires.over lt1 lt2 lt3 in
    rw (is-alike, c.slot-before.ensures, is-after) at add

use Rattle.std.proofs.Common.{◌≡◌, ◌∙◌, ◌+◌, ◌<◌, ℕ, List, false, sym, ap, subst, refl, arith, get_or}
use Rattle.fo_core.specs.Tables.{no_symbol, symbol_at}
use Rattle.fo_terms.specs.declared.terms.Ground.{Ground}
use Rattle.fo_ground.specs.Layout.{same_var}
use Rattle.fo_terms.specs.Universe.{no_ground, term_at, sort_at}
use Rattle.fo_ground.specs.Axioms.{IsChangedTo}
use Rattle.fo_ground.proofs.AxiomLemmas.{range-none, range-more, later-all}
use Rattle.fo_ground.proofs.CongruenceLemmas.{arg-of, arg-sort, later-of, changed-of, applied, other-of}
use Rattle.fo_ground.proofs.congruence.add_changed_term.Goals as goal

pub at-requires-2 : goal.at-requires-2
at-requires-2 c = rw (c.as_slice.ensures, c.at.ensures no_symbol, c.at-term.ensures no_ground) (omega (arith, arg-sort c.args.u.now c.args.lay.now c.requires.ready (term_at c.args.u.now.terms c.args.place).args (symbol_at c.args.lay.now.sig (term_at c.args.u.now.terms c.args.place).symbol).args (applied c.args.u.now c.args.lay.now c.requires.ready c.requires.universe c.args.place c.requires.place c.args.i c.requires.index).args c.args.i c.requires.index, c.requires.ready.firsts))

pub at-requires-3 : goal.at-requires-3
at-requires-3 c = rw (c.as_slice.ensures, c.at.ensures no_symbol, c.at-term.ensures no_ground) (omega (arith, arg-sort c.args.u.now c.args.lay.now c.requires.ready (term_at c.args.u.now.terms c.args.place).args (symbol_at c.args.lay.now.sig (term_at c.args.u.now.terms c.args.place).symbol).args (applied c.args.u.now c.args.lay.now c.requires.ready c.requires.universe c.args.place c.requires.place c.args.i c.requires.index).args c.args.i c.requires.index, c.requires.ready.sizes))

pub overflow_add-end : goal.overflow_add-end
overflow_add-end c =
    let s = get_or (symbol_at c.args.lay.now.sig (term_at c.args.u.now.terms c.args.place).symbol).args c.args.i 0 in
    rw (c.at-2.ensures 0, c.at-3.ensures 0, c.as_slice.ensures, c.at.ensures no_symbol, c.at-term.ensures no_ground) (omega (arith, c.requires.ready.ends s (arg-sort c.args.u.now c.args.lay.now c.requires.ready (term_at c.args.u.now.terms c.args.place).args (symbol_at c.args.lay.now.sig (term_at c.args.u.now.terms c.args.place).symbol).args (applied c.args.u.now c.args.lay.now c.requires.ready c.requires.universe c.args.place c.requires.place c.args.i c.requires.index).args c.args.i c.requires.index), c.requires.ready.few_terms))

pub each-init : goal.each-init
each-init c = range-none c.args.lay.now.base (IsChangedTo c.args.u.now c.args.lay.now c.args.place c.args.i) c.args.into.now.vars c.args.into.now.clauses (get_or c.as_slice-args.result.now c.args.i 0 + 1) c.requires.over c.requires.within

pub slot-other-requires-clause-symbol : goal.slot-other-requires-clause-symbol
slot-other-requires-clause-symbol c = rw (c.at-term.ensures no_ground) (false, (applied c.args.u.now c.args.lay.now c.requires.ready c.requires.universe c.args.place c.requires.place c.args.i c.requires.index).symbol)

pub slot-other-requires-clause-sorted : goal.slot-other-requires-clause-sorted
slot-other-requires-clause-sorted c =
    let eargs = c.as_slice-args.ensures ∙ ap (λ (g : Ground). g.args) (c.at-term.ensures no_ground) in
    let earg : get_or c.as_slice-args.result.now c.args.i 0 ≡ get_or (term_at c.args.u.now.terms c.args.place).args c.args.i 0 = ap (λ (xs : List ℕ). get_or xs c.args.i 0) eargs in
    let first = rw (c.as_slice.ensures, c.at.ensures no_symbol, c.at-term.ensures no_ground) at c.at-2.ensures 0 in
    let size = rw (c.as_slice.ensures, c.at.ensures no_symbol, c.at-term.ensures no_ground) at c.at-3.ensures 0 in
    let at = later-of c.args.u.now c.args.lay.now c.requires.ready (term_at c.args.u.now.terms c.args.place).args (symbol_at c.args.lay.now.sig (term_at c.args.u.now.terms c.args.place).symbol).args (applied c.args.u.now c.args.lay.now c.requires.ready c.requires.universe c.args.place c.requires.place c.args.i c.requires.index).args c.args.i c.requires.index c.each.p c.at-2.result.now c.at-3.result.now first size (omega (arith, earg, c.each.auto.p)) c.each-test.true in
    rw (c.as_slice-in-each.ensures.value, c.in_ok-changed.ensures, c.as_slice-args.ensures, c.at-term.ensures no_ground) (changed-of c.args.u.now c.args.lay.now c.requires.ready (term_at c.args.u.now.terms c.args.place).args (symbol_at c.args.lay.now.sig (term_at c.args.u.now.terms c.args.place).symbol).args (applied c.args.u.now c.args.lay.now c.requires.ready c.requires.universe c.args.place c.requires.place c.args.i c.requires.index).args c.args.i c.requires.index c.each.p at)

pub same-alike-requires-clause-sorted : goal.same-alike-requires-clause-sorted
same-alike-requires-clause-sorted c =
    let eargs = c.as_slice-args.ensures ∙ ap (λ (g : Ground). g.args) (c.at-term.ensures no_ground) in
    let earg : get_or c.as_slice-args.result.now c.args.i 0 ≡ get_or (term_at c.args.u.now.terms c.args.place).args c.args.i 0 = ap (λ (xs : List ℕ). get_or xs c.args.i 0) eargs in
    let first = rw (c.as_slice.ensures, c.at.ensures no_symbol, c.at-term.ensures no_ground) at c.at-2.ensures 0 in
    let size = rw (c.as_slice.ensures, c.at.ensures no_symbol, c.at-term.ensures no_ground) at c.at-3.ensures 0 in
    let at = later-of c.args.u.now c.args.lay.now c.requires.ready (term_at c.args.u.now.terms c.args.place).args (symbol_at c.args.lay.now.sig (term_at c.args.u.now.terms c.args.place).symbol).args (applied c.args.u.now c.args.lay.now c.requires.ready c.requires.universe c.args.place c.requires.place c.args.i c.requires.index).args c.args.i c.requires.index c.each.p c.at-2.result.now c.at-3.result.now first size (omega (arith, earg, c.each.auto.p)) c.each-test.true in
    rw (c.as_slice-args.ensures, c.at-term.ensures no_ground) (get_or (symbol_at c.args.lay.now.sig (term_at c.args.u.now.terms c.args.place).symbol).args c.args.i 0, arg-of c.args.u.now c.args.lay.now c.requires.ready (term_at c.args.u.now.terms c.args.place).args (symbol_at c.args.lay.now.sig (term_at c.args.u.now.terms c.args.place).symbol).args (applied c.args.u.now c.args.lay.now c.requires.ready c.requires.universe c.args.place c.requires.place c.args.i c.requires.index).args c.args.i c.requires.index, at)

pub same-then-requires-clause-sorted : goal.same-then-requires-clause-sorted
same-then-requires-clause-sorted c =
    let eargs = c.as_slice-args.ensures ∙ ap (λ (g : Ground). g.args) (c.at-term.ensures no_ground) in
    let earg : get_or c.as_slice-args.result.now c.args.i 0 ≡ get_or (term_at c.args.u.now.terms c.args.place).args c.args.i 0 = ap (λ (xs : List ℕ). get_or xs c.args.i 0) eargs in
    let first = rw (c.as_slice.ensures, c.at.ensures no_symbol, c.at-term.ensures no_ground) at c.at-2.ensures 0 in
    let size = rw (c.as_slice.ensures, c.at.ensures no_symbol, c.at-term.ensures no_ground) at c.at-3.ensures 0 in
    let at = later-of c.args.u.now c.args.lay.now c.requires.ready (term_at c.args.u.now.terms c.args.place).args (symbol_at c.args.lay.now.sig (term_at c.args.u.now.terms c.args.place).symbol).args (applied c.args.u.now c.args.lay.now c.requires.ready c.requires.universe c.args.place c.requires.place c.args.i c.requires.index).args c.args.i c.requires.index c.each.p c.at-2.result.now c.at-3.result.now first size (omega (arith, earg, c.each.auto.p)) c.each-test.true in
    rw (c.slot-other.ensures, c.as_slice-in-each.ensures.value, c.in_ok-changed.ensures, c.as_slice-args.ensures, c.at-term.ensures no_ground) (sort_at c.args.u.now.terms c.args.place, (c.requires.place, refl), other-of c.args.u.now c.args.lay.now c.requires.ready c.requires.universe c.args.place c.requires.place c.args.i c.requires.index c.each.p at)

pub each-preserved : goal.each-preserved
each-preserved c =
    let eargs = c.as_slice-args.ensures ∙ ap (λ (g : Ground). g.args) (c.at-term.ensures no_ground) in
    let earg : get_or c.as_slice-args.result.now c.args.i 0 ≡ get_or (term_at c.args.u.now.terms c.args.place).args c.args.i 0 = ap (λ (xs : List ℕ). get_or xs c.args.i 0) eargs in
    let first = rw (c.as_slice.ensures, c.at.ensures no_symbol, c.at-term.ensures no_ground) at c.at-2.ensures 0 in
    let size = rw (c.as_slice.ensures, c.at.ensures no_symbol, c.at-term.ensures no_ground) at c.at-3.ensures 0 in
    let at = later-of c.args.u.now c.args.lay.now c.requires.ready (term_at c.args.u.now.terms c.args.place).args (symbol_at c.args.lay.now.sig (term_at c.args.u.now.terms c.args.place).symbol).args (applied c.args.u.now c.args.lay.now c.requires.ready c.requires.universe c.args.place c.requires.place c.args.i c.requires.index).args c.args.i c.requires.index c.each.p c.at-2.result.now c.at-3.result.now first size (omega (arith, earg, c.each.auto.p)) c.each-test.true in
    let a = c.each.invariant in
    let is-alike : c.same-alike.result ≡ same_var c.args.u.now c.args.lay.now (get_or (term_at c.args.u.now.terms c.args.place).args c.args.i 0) c.each.p = c.same-alike.ensures ∙ ap (λ x. same_var c.args.u.now c.args.lay.now x c.each.p) earg in
    let is-other = rw (c.as_slice-in-each.ensures.value, c.in_ok-changed.ensures, c.as_slice-args.ensures, c.at-term.ensures no_ground) at c.slot-other.ensures in
    let is-then = rw is-other at c.same-then.ensures in
    let lt1 = subst (λ x. x < c.args.lay.now.base) (sym is-alike) (c.requires.ready.same (get_or (symbol_at c.args.lay.now.sig (term_at c.args.u.now.terms c.args.place).symbol).args c.args.i 0) (get_or (term_at c.args.u.now.terms c.args.place).args c.args.i 0) c.each.p (arg-of c.args.u.now c.args.lay.now c.requires.ready (term_at c.args.u.now.terms c.args.place).args (symbol_at c.args.lay.now.sig (term_at c.args.u.now.terms c.args.place).symbol).args (applied c.args.u.now c.args.lay.now c.requires.ready c.requires.universe c.args.place c.requires.place c.args.i c.requires.index).args c.args.i c.requires.index) at) in
    let other = other-of c.args.u.now c.args.lay.now c.requires.ready c.requires.universe c.args.place c.requires.place c.args.i c.requires.index c.each.p at in
    let lt2 = subst (λ x. x < c.args.lay.now.base) (sym is-then) (c.requires.ready.same (sort_at c.args.u.now.terms c.args.place) c.args.place _ (c.requires.place, refl) other) in
    let add = c.in_ok-add_implied.ensures c.args.lay.now.base (omega (arith, a.over, a.grows)) lt1 lt2 in
    let add' = rw (is-alike, is-then) at add in
    range-more c.args.lay.now.base (IsChangedTo c.args.u.now c.args.lay.now c.args.place c.args.i) c.args.into.now.vars c.args.into.now.clauses (get_or c.as_slice-args.result.now c.args.i 0 + 1) c.each.p c.each.into.vars c.each.into.clauses c.add_implied.new.into.vars c.add_implied.new.into.clauses c.each.auto.p c.each.invariant add'

pub returns : goal.returns
returns c =
    let s = get_or (symbol_at c.args.lay.now.sig (term_at c.args.u.now.terms c.args.place).symbol).args c.args.i 0 in
    let eargs = c.as_slice-args.ensures ∙ ap (λ (g : Ground). g.args) (c.at-term.ensures no_ground) in
    let earg : get_or c.as_slice-args.result.now c.args.i 0 ≡ get_or (term_at c.args.u.now.terms c.args.place).args c.args.i 0 = ap (λ (xs : List ℕ). get_or xs c.args.i 0) eargs in
    let first = rw (c.as_slice.ensures, c.at.ensures no_symbol, c.at-term.ensures no_ground) at c.at-2.ensures 0 in
    let size = rw (c.as_slice.ensures, c.at.ensures no_symbol, c.at-term.ensures no_ground) at c.at-3.ensures 0 in
    let block = (c.requires.ready.blocks s (get_or (term_at c.args.u.now.terms c.args.place).args c.args.i 0) (arg-sort c.args.u.now c.args.lay.now c.requires.ready (term_at c.args.u.now.terms c.args.place).args (symbol_at c.args.lay.now.sig (term_at c.args.u.now.terms c.args.place).symbol).args (applied c.args.u.now c.args.lay.now c.requires.ready c.requires.universe c.args.place c.requires.place c.args.i c.requires.index).args c.args.i c.requires.index)).0 (arg-of c.args.u.now c.args.lay.now c.requires.ready (term_at c.args.u.now.terms c.args.place).args (symbol_at c.args.lay.now.sig (term_at c.args.u.now.terms c.args.place).symbol).args (applied c.args.u.now c.args.lay.now c.requires.ready c.requires.universe c.args.place c.requires.place c.args.i c.requires.index).args c.args.i c.requires.index) in
    let end = c.each.auto.p-end (omega (arith, earg, first, size, block.1)) in
    let inv = rw earg at c.each.invariant in
    later-all c.args.u.now c.args.lay.now c.requires.ready s (arg-sort c.args.u.now c.args.lay.now c.requires.ready (term_at c.args.u.now.terms c.args.place).args (symbol_at c.args.lay.now.sig (term_at c.args.u.now.terms c.args.place).symbol).args (applied c.args.u.now c.args.lay.now c.requires.ready c.requires.universe c.args.place c.requires.place c.args.i c.requires.index).args c.args.i c.requires.index) (IsChangedTo c.args.u.now c.args.lay.now c.args.place c.args.i) c.args.into.now.vars c.args.into.now.clauses (get_or (term_at c.args.u.now.terms c.args.place).args c.args.i 0) c.each.p c.each.into.vars c.each.into.clauses (arg-of c.args.u.now c.args.lay.now c.requires.ready (term_at c.args.u.now.terms c.args.place).args (symbol_at c.args.lay.now.sig (term_at c.args.u.now.terms c.args.place).symbol).args (applied c.args.u.now c.args.lay.now c.requires.ready c.requires.universe c.args.place c.requires.place c.args.i c.requires.index).args c.args.i c.requires.index) (omega (arith, first, size, end)) inv

use Rattle.std.proofs.Common.{◌≡◌, ◌∙◌, ◌+◌, [], ◌∷◌, ◌++◌, false, length, length-append, refl, sym, ap, subst, arith, rules}
use Rattle.fo_core.specs.declared.formula.Formula.TheFolds.{the_lemmas}
use Rattle.fo_core.specs.declared.formula.Formula.TheVariants as F
use Rattle.fo_norm.specs.Forms.{IsNormal}
use Rattle.fo_ground.specs.Emits.{Adds}
use Rattle.fo_ground.specs.Layout.{IsLiteral, HasInstance, IsMetBy}
use Rattle.fo_ground.proofs.MetRows.{normal-Not, normal-Ex, normal-And, normal-Or, normal-All}
use Rattle.fo_ground.proofs.AtomLemmas.{is_literal-Not}
use Rattle.fo_ground.proofs.Emitting.{within_more, are_within_more}
use Rattle.fo_ground.proofs.EmitLemmas.{literal-added, True-added, False-added, each-none, each-more, each-all, some-none, some-literal, some-helper, some-all, every-none, every-more, every-all, instance-And, instance-Or, instance-All, sort-All, negative-within, popped}
use Rattle.fo_ground.proofs.emit.+emit.Goals as goal
use Rattle.fo_ground.proofs.emit.+emit.Goals.{in-Some-2+in_ok-push-in-Some-2, in-None+else-var+in_ok-emit-in-None+in_ok-push-in-None}

pub returns-in-Some-clause-added : goal.returns-in-Some-clause-added
returns-in-Some-clause-added t c =
    let h = rw (c.in-Some.is, c.as_slice.ensures.value) at c.in_ok-lit.ensures in
    rw (c.in_ok-push-2.ensures.ok, c.in_ok-push.ensures.ok, c.in_ok-clause.ensures.ok) (literal-added c.args.u.now c.args.lay.now c.args.env.now.items c.args.prefix.now c.args.into.now.vars c.args.into.now.clauses c.args.f.now c.in-Some.lit h c.requires.over c.requires.within c.requires.inside)

pub each-init : goal.each-init
each-init t c = record { kept = refl; added = each-none c.args.u.now c.args.lay.now c.args.env.now.items c.args.prefix.now c.args.into.now.vars c.args.into.now.clauses c.as_slice-g-items.result.now c.requires.over c.requires.within }

pub unreachable-requires-in-Not : goal.unreachable-requires-in-Not
unreachable-requires-in-Not t c =
    let none = rw c.in_default.is at c.in_ok-lit.ensures in
    let n = subst (λ (A : Type 0). A) (normal-Not c.in-Not._g) (subst IsNormal c.in-Not.is c.requires.normal) in
    none (subst IsLiteral (sym c.in-Not.is) (subst (λ (A : Type 0). A) (sym (is_literal-Not c.in-Not._g)) n))

pub unreachable-requires-in-Ex : goal.unreachable-requires-in-Ex
unreachable-requires-in-Ex t c = normal-Ex c.in-Ex._s c.in-Ex._g (subst IsNormal c.in-Ex.is c.requires.normal)

pub emit-requires : goal.emit-requires
emit-requires t c =
    let h = subst (HasInstance c.args.u.now c.args.lay.now c.args.env.now.items) (c.in-And.is ∙ ap F.And (sym c.as_slice-g-items.ensures)) c.requires.instance in
    let n = subst IsNormal (c.in-And.is ∙ ap F.And (sym c.as_slice-g-items.ensures)) c.requires.normal in
    let a = c.each.invariant.added in (
      search (rules, the_lemmas),
      (
        c.requires.ready,
        (
          rw (c.each.invariant.kept, c.g-item.is) (instance-And c.args.u.now c.args.lay.now c.args.env.now.items c.as_slice-g-items.result.now c.each.g-index c.g-item.result h c.each-test.true),
          (rw c.g-item.is (normal-And c.as_slice-g-items.result.now n c.each.g-index c.g-item.result c.each-test.true), (omega (arith, a.over, a.grows), (a.after, within_more c.args.into.now.vars c.each.into.vars c.args.prefix.now a.grows c.requires.inside))),
        ),
      ),
    )

pub each-preserved : goal.each-preserved
each-preserved t c =
    let b = subst (λ e. Adds c.args.lay.now.base c.args.prefix.now (IsMetBy c.args.u.now c.args.lay.now c.g-item.result e) c.each.into.vars c.each.into.clauses c.emit.new.into.vars c.emit.new.into.clauses) c.each.invariant.kept c.in_ok-emit-in-And.ensures.added in
    record {
      kept = c.in_ok-emit-in-And.ensures.kept ∙ c.each.invariant.kept;
      added = each-more c.args.u.now c.args.lay.now c.args.env.now.items c.args.prefix.now c.args.into.now.vars c.args.into.now.clauses c.as_slice-g-items.result.now c.each.g-index c.g-item.result c.each.into.vars c.each.into.clauses c.emit.new.into.vars c.emit.new.into.clauses c.requires.inside c.each-test.true c.g-item.is c.each.invariant.added b;
    }

pub some-init : goal.some-init
some-init t c = record { kept = refl; offered = rw c.in_ok-clause-in-Or.ensures.ok (some-none c.args.u.now c.args.lay.now c.args.env.now.items c.args.prefix.now c.args.into.now.vars c.args.into.now.clauses c.as_slice-g-items-in-Or.result.now c.requires.over c.requires.within c.requires.inside) }

pub literal-requires-in-some-clause-instance : goal.literal-requires-in-some-clause-instance
literal-requires-in-some-clause-instance t c =
    let h = subst (HasInstance c.args.u.now c.args.lay.now c.args.env.now.items) (c.in-Or.is ∙ ap F.Or (sym c.as_slice-g-items-in-Or.ensures)) c.requires.instance in
    rw (c.as_slice-in-some.ensures.value, c.some.invariant.kept, c.g-item-in-some.is) (instance-Or c.args.u.now c.args.lay.now c.args.env.now.items c.as_slice-g-items-in-Or.result.now c.some.g-index c.g-item-in-some.result h c.some-test.true)

pub emit-requires-in-None : goal.emit-requires-in-None
emit-requires-in-None t c =
    let h = subst (HasInstance c.args.u.now c.args.lay.now c.args.env.now.items) (c.in-Or.is ∙ ap F.Or (sym c.as_slice-g-items-in-Or.ensures)) c.requires.instance in
    let n = subst IsNormal (c.in-Or.is ∙ ap F.Or (sym c.as_slice-g-items-in-Or.ensures)) c.requires.normal in
    let o = c.some.invariant.offered in (
      search (rules, the_lemmas),
      (
        c.requires.ready,
        (
          rw (c.some.invariant.kept, c.g-item-in-some.is) (instance-Or c.args.u.now c.args.lay.now c.args.env.now.items c.as_slice-g-items-in-Or.result.now c.some.g-index c.g-item-in-some.result h c.some-test.true),
          (rw c.g-item-in-some.is (normal-Or c.as_slice-g-items-in-Or.result.now n c.some.g-index c.g-item-in-some.result c.some-test.true), (omega (arith, o.over, o.grows), (are_within_more c.some.into.vars (c.some.into.vars + 1) c.some.into.clauses (omega arith) o.after, negative-within c.some.into.vars))),
        ),
      ),
    )

pub some-preserved : goal.some-preserved
some-preserved t c =
    elim c.match-branch-11.branch [
      | in-Some-2+in_ok-push-in-Some-2 w ↦
          let h = rw (w.in-Some-2.is, c.as_slice-in-some.ensures.value, c.some.invariant.kept) at c.in_ok-lit-in-Or.ensures in
          let o = some-literal c.args.u.now c.args.lay.now c.args.env.now.items c.args.prefix.now c.args.into.now.vars c.args.into.now.clauses c.as_slice-g-items-in-Or.result.now c.some.g-index c.g-item-in-some.result c.some.into.vars c.some.into.clauses c.some.clause c.some-test.true c.g-item-in-some.is c.some.invariant.offered w.in-Some-2.lit h in
          record { kept = rw w.env-is c.some.invariant.kept; offered = rw (w.into-is, w.clause-is, w.in_ok-push-in-Some-2.ensures.ok) o }
      | in-None+else-var+in_ok-emit-in-None+in_ok-push-in-None w ↦
          let b = subst (λ e. Adds c.args.lay.now.base (record { var = c.some.into.vars; positive = false } ∷ []) (IsMetBy c.args.u.now c.args.lay.now c.g-item-in-some.result e) (c.some.into.vars + 1) c.some.into.clauses w.emit-in-None.new.into.vars w.emit-in-None.new.into.clauses) c.some.invariant.kept w.in_ok-emit-in-None.ensures.added in
          let o = some-helper c.args.u.now c.args.lay.now c.args.env.now.items c.args.prefix.now c.args.into.now.vars c.args.into.now.clauses c.as_slice-g-items-in-Or.result.now c.some.g-index c.g-item-in-some.result c.some.into.vars c.some.into.clauses c.some.clause c.some-test.true c.g-item-in-some.is c.some.invariant.offered w.emit-in-None.new.into.vars w.emit-in-None.new.into.clauses b in
          record { kept = rw w.env-is (w.in_ok-emit-in-None.ensures.kept ∙ c.some.invariant.kept); offered = rw (w.into-is, w.clause-is, w.in_ok-push-in-None.ensures.ok) o }
    ]

pub at-first-requires : goal.at-first-requires
at-first-requires t c =
    let h = subst (HasInstance c.args.u.now c.args.lay.now c.args.env.now.items) c.in-All.is c.requires.instance in
    let r = c.requires.ready in
    omega (arith, sort-All c.args.u.now c.args.lay.now c.args.env.now.items c.in-All.s c.in-All.g h)

pub at-requires : goal.at-requires
at-requires t c =
    let h = subst (HasInstance c.args.u.now c.args.lay.now c.args.env.now.items) c.in-All.is c.requires.instance in
    let r = c.requires.ready in
    omega (arith, sort-All c.args.u.now c.args.lay.now c.args.env.now.items c.in-All.s c.in-All.g h)

pub overflow_add-end : goal.overflow_add-end
overflow_add-end t c =
    let h = subst (HasInstance c.args.u.now c.args.lay.now c.args.env.now.items) c.in-All.is c.requires.instance in
    let lt = sort-All c.args.u.now c.args.lay.now c.args.env.now.items c.in-All.s c.in-All.g h in
    let ends = c.requires.ready.ends c.in-All.s lt in
    let few = c.requires.ready.few_terms in
    rw (c.at-first.ensures 0, c.at.ensures 0) (omega (arith, ends, few))

pub every-init : goal.every-init
every-init t c = record { kept = refl; added = every-none c.args.u.now c.args.lay.now c.args.env.now.items c.args.prefix.now c.args.into.now.vars c.args.into.now.clauses c.in-All.s c.in-All.g c.at-first.result.now c.requires.over c.requires.within }

pub emit-requires-in-every : goal.emit-requires-in-every
emit-requires-in-every t c =
    let h = subst (HasInstance c.args.u.now c.args.lay.now c.args.env.now.items) c.in-All.is c.requires.instance in
    let n = subst (λ (A : Type 0). A) (normal-All c.in-All.s c.in-All.g) (subst IsNormal c.in-All.is c.requires.normal) in
    let a = c.every.invariant.added in
    let first = c.at-first.ensures 0 in
    let end = c.at.ensures 0 in (
      search (rules, the_lemmas),
      (
        c.requires.ready,
        (
          rw (c.in_ok-push-in-All.ensures.items, c.every.invariant.kept, c.get.ensures) (instance-All c.args.u.now c.args.lay.now c.args.env.now.items c.in-All.s c.in-All.g c.every.p c.requires.ready h (omega arith) (omega arith)),
          (rw c.get.ensures n, (omega (arith, a.over, a.grows), (a.after, within_more c.args.into.now.vars c.every.into.vars c.args.prefix.now a.grows c.requires.inside))),
        ),
      ),
    )

pub every-preserved : goal.every-preserved
every-preserved t c =
    let first = c.at-first.ensures 0 in
    let now : c.push-in-every.new.self.items ≡ c.args.env.now.items ++ c.every.p ∷ [] = c.in_ok-push-in-All.ensures.items ∙ ap (λ xs. xs ++ c.every.p ∷ []) c.every.invariant.kept in
    let b = subst (λ e. Adds c.args.lay.now.base c.args.prefix.now (IsMetBy c.args.u.now c.args.lay.now c.get.result.now e) c.every.into.vars c.every.into.clauses c.emit-in-every.new.into.vars c.emit-in-every.new.into.clauses) now c.in_ok-emit-in-All.ensures.added in
    let b' = subst (λ g. Adds c.args.lay.now.base c.args.prefix.now (IsMetBy c.args.u.now c.args.lay.now g (c.args.env.now.items ++ c.every.p ∷ [])) c.every.into.vars c.every.into.clauses c.emit-in-every.new.into.vars c.emit-in-every.new.into.clauses) c.get.ensures b in
    record {
      kept = popped c.args.env.now.items c.every.p c.pop.new.self.items (c.pop.result) ((c.pop.ensures.variant).1 (let h = c.emit-in-every.new.env.ok in omega (arith, h.0, ap length (c.in_ok-emit-in-All.ensures.kept ∙ now), length-append c.args.env.now.items (c.every.p ∷ [])))) (sym (c.in_ok-emit-in-All.ensures.kept ∙ now) ∙ c.pop.ensures.items);
      added = every-more c.args.u.now c.args.lay.now c.args.env.now.items c.args.prefix.now c.args.into.now.vars c.args.into.now.clauses c.in-All.s c.in-All.g c.at-first.result.now c.every.p c.every.into.vars c.every.into.clauses c.emit-in-every.new.into.vars c.emit-in-every.new.into.clauses c.requires.inside c.every.auto.p c.every.invariant.added b';
    }

pub returns-in-True-clause-added : goal.returns-in-True-clause-added
returns-in-True-clause-added t c = rw c.in-True.is (True-added c.args.u.now c.args.lay.now c.args.env.now.items c.args.prefix.now c.args.into.now.vars c.args.into.now.clauses c.requires.over c.requires.within)

pub returns-in_ok-push-in-False-clause-added : goal.returns-in_ok-push-in-False-clause-added
returns-in_ok-push-in-False-clause-added t c =
    rw (c.in-False.is, c.in_ok-push-in-False.ensures.ok, c.in_ok-from_slice-in-False.ensures.ok) (False-added c.args.u.now c.args.lay.now c.args.env.now.items c.args.prefix.now c.args.into.now.vars c.args.into.now.clauses c.requires.over c.requires.within c.requires.inside)

pub returns-after-each-clause-added : goal.returns-after-each-clause-added
returns-after-each-clause-added t c =
    rw (c.in-And.is ∙ ap F.And (sym c.as_slice-g-items.ensures)) (each-all c.args.u.now c.args.lay.now c.args.env.now.items c.args.prefix.now c.args.into.now.vars c.args.into.now.clauses c.as_slice-g-items.result.now c.each.g-index c.each.into.vars c.each.into.clauses c.each-test.false c.each.invariant.added)

pub returns-in_ok-push-in-Or-clause-added : goal.returns-in_ok-push-in-Or-clause-added
returns-in_ok-push-in-Or-clause-added t c =
    rw (c.in-Or.is ∙ ap F.Or (sym c.as_slice-g-items-in-Or.ensures), c.in_ok-push-in-Or.ensures.ok) (some-all c.args.u.now c.args.lay.now c.args.env.now.items c.args.prefix.now c.args.into.now.vars c.args.into.now.clauses c.as_slice-g-items-in-Or.result.now c.some.g-index c.some.into.vars c.some.into.clauses c.some.clause c.some-test.false c.some.invariant.offered)

pub returns-after-every-clause-added : goal.returns-after-every-clause-added
returns-after-every-clause-added t c =
    let h = subst (HasInstance c.args.u.now c.args.lay.now c.args.env.now.items) c.in-All.is c.requires.instance in
    let first = c.at-first.ensures 0 in
    let end = c.at.ensures 0 in
    rw c.in-All.is (every-all c.args.u.now c.args.lay.now c.args.env.now.items c.args.prefix.now c.args.into.now.vars c.args.into.now.clauses c.in-All.s c.in-All.g c.at-first.result.now c.every.p c.every.into.vars c.every.into.clauses c.requires.ready (sort-All c.args.u.now c.args.lay.now c.args.env.now.items c.in-All.s c.in-All.g h) first (omega (arith, first, end)) (let top = c.every.auto.p-end (omega arith) in omega (arith, first, end, top)) c.every.invariant.added)

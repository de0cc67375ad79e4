use Rattle.std.proofs.Common.{sym}
use Rattle.std.proofs.lemmas.Result.{err_from_is_err_and}
use Rattle.pyv_meaning.specs.Items.{items_of}
use Rattle.pyv_meaning.proofs.ItemsFit.{within_depth, names_fit}
use Rattle.pyv_sorts.proofs.Elaborates.{known_is, declared_fails_at, only_memory, only_found, is_sorted, few_params, sort_texts, symbol_texts, step_texts, bodies_fail, means}
use Rattle.pyv_sorts.proofs.model.elaborate.Goals as goal

pub returns-in_err-known-clause-only : goal.returns-in_err-known-clause-only
returns-in_err-known-clause-only c = λ sys names h.
    let p = err_from_is_err_and c.from_residual.result c.from_residual.ensures.1 in
    let e = c.in_err-known.field-0.0 in
    rw (p.1, p.2) (only_memory c.args.bytes.now c.args.m.now sys names h e (declared_fails_at c.args.bytes.now c.args.m.now c.as_slice-decls.result.now c.as_slice-decls.ensures e c.in_err-known.ensures.tells))

pub bodies-requires : goal.bodies-requires
bodies-requires c =
    let k = known_is c.args.bytes.now c.args.m.now c.in_ok-known.known c.as_slice-decls.result.now c.as_slice-decls.ensures c.in_ok-known.ensures.bytes c.in_ok-known.ensures.tells c.in_ok-known.ensures.names c.in_ok-known.ensures.sig in
    record {
      few = few_params c.args.bytes.now c.args.m.now c.in_ok-known.known c.as_slice-decls.result.now k;
      sorts = sort_texts c.args.bytes.now c.args.m.now c.in_ok-known.known c.as_slice-decls.result.now k;
      symbols = symbol_texts c.args.bytes.now c.args.m.now c.in_ok-known.known c.as_slice-decls.result.now k;
      steps = step_texts c.args.bytes.now c.args.m.now c.in_ok-known.known c.as_slice-decls.result.now k;
    }

pub returns-in_err-parts-clause-only : goal.returns-in_err-parts-clause-only
returns-in_err-parts-clause-only c = λ sys names h.
    let p = err_from_is_err_and c.from_residual-in_err-parts.result c.from_residual-in_err-parts.ensures.1 in
    let e = c.in_err-parts.field-0.0 in
    rw (p.1, p.2) (only_memory c.args.bytes.now c.args.m.now sys names h e (bodies_fail c.args.bytes.now c.args.m.now c.in_ok-known.known c.as_slice-decls.result.now (known_is c.args.bytes.now c.args.m.now c.in_ok-known.known c.as_slice-decls.result.now c.as_slice-decls.ensures c.in_ok-known.ensures.bytes c.in_ok-known.ensures.tells c.in_ok-known.ensures.names c.in_ok-known.ensures.sig) e c.in_err-parts.ensures.fault))

pub returns-in_err-parts-clause-fault : goal.returns-in_err-parts-clause-fault
returns-in_err-parts-clause-fault c =
    let p = err_from_is_err_and c.from_residual-in_err-parts.result c.from_residual-in_err-parts.ensures.1 in
    let e = c.in_err-parts.field-0.0 in
    rw (p.1, p.2) (bodies_fail c.args.bytes.now c.args.m.now c.in_ok-known.known c.as_slice-decls.result.now (known_is c.args.bytes.now c.args.m.now c.in_ok-known.known c.as_slice-decls.result.now c.as_slice-decls.ensures c.in_ok-known.ensures.bytes c.in_ok-known.ensures.tells c.in_ok-known.ensures.names c.in_ok-known.ensures.sig) e c.in_err-parts.ensures.fault)

pub returns-clause-found : goal.returns-clause-found
returns-clause-found c =
    let p = c.in_ok-parts.parts in
    means c.args.bytes.now c.args.m.now c.in_ok-known.known c.as_slice-decls.result.now (known_is c.args.bytes.now c.args.m.now c.in_ok-known.known c.as_slice-decls.result.now c.as_slice-decls.ensures c.in_ok-known.ensures.bytes c.in_ok-known.ensures.tells c.in_ok-known.ensures.names c.in_ok-known.ensures.sig)
    (record { sig = c.into_sig.result; axioms = p.axioms; inits = p.inits; steps = p.steps; safeties = p.safeties; invariants = p.invariants }) c.in_ok-parts.names c.into_sig.ensures c.in_ok-parts.ensures.names c.in_ok-parts.ensures.done

pub returns-clause-only : goal.returns-clause-only
returns-clause-only c = λ sys names h. only_found c.args.bytes.now c.args.m.now _ (returns-clause-found c) sys names h

pub returns-clause-sorted : goal.returns-clause-sorted
returns-clause-sorted c = λ few. is_sorted c.args.bytes.now c.args.m.now _ _ (returns-clause-found c) few

pub returns-clause-depth : goal.returns-clause-depth
returns-clause-depth c = within_depth (items_of c.args.bytes.now c.args.m.now.decls) _ _ (returns-clause-found c)

pub returns-clause-names : goal.returns-clause-names
returns-clause-names c = names_fit (items_of c.args.bytes.now c.args.m.now.decls) _ _ (returns-clause-found c)

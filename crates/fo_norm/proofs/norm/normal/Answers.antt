use Rattle.std.proofs.Common.{◌∙◌, ◌+◌, ◌↔◌, [], List, sym, ap, subst, arith, true, refl}
use Rattle.fo_core.specs.declared.signature.Symbol.{Symbol}
use Rattle.fo_core.specs.Skolems.{skolem_symbols_list, extended}
use Rattle.fo_core.specs.SortGraph.{FunctionEdge, ClaimsEdge}
use Rattle.fo_core.specs.Weights.{claim_nodes, skolem_nodes}
use Rattle.fo_norm.proofs.Edges.{same_edges}
use Rattle.fo_norm.proofs.SyntaxRows.{CanForm-claims}
use Rattle.fo_norm.proofs.Weights.{claims-formed}
use Rattle.fo_norm.proofs.Whole.{is_form, same_worlds, first-formed, first-symbols}
use Rattle.fo_norm.proofs.norm.normal.Goals as goal

pub formed_each-requires-clause-ready : goal.formed_each-requires-clause-ready
formed_each-requires-clause-ready c = rw (c.new.ensures.items, c.as_slice.ensures) (CanForm-claims c.args.sig.now c.args.q.now c.requires.query)

pub returns-clause-skolems : goal.returns-clause-skolems
returns-clause-skolems c =
    first-symbols c.args.q.now.claims c.as_slice.result.now c.new-2.result.items c.new-3.result c.formed_each.new.scope.skolems c.as_slice.ensures c.new-2.ensures.items c.new-3.ensures c.in_ok-claims.ensures.skolems

pub returns-clause-form : goal.returns-clause-form
returns-clause-form c =
    let skolems = first-symbols c.args.q.now.claims c.as_slice.result.now c.new-2.result.items c.new-3.result c.formed_each.new.scope.skolems c.as_slice.ensures c.new-2.ensures.items c.new-3.ensures c.in_ok-claims.ensures.skolems in
    let claims = first-formed c.args.q.now.claims c.as_slice.result.now c.new.result.items c.new-2.result.items c.new-3.result c.len-symbols.result c.in_ok-claims.claims c.as_slice.ensures c.new.ensures.items c.new-2.ensures.items c.new-3.ensures c.in_ok-claims.ensures.formulas in
    is_form c.args.sig.now c.args.q.now (record { copies = c.args.q.now.copies; claims = c.in_ok-claims.claims; skolems = c.formed_each.new.scope.skolems }) c.len-symbols.result c.len-symbols.ensures refl claims skolems c.requires.query
    (omega (arith, c.in_ok-claims.ensures.few, c.len-symbols.ensures))

pub returns-clause-same_worlds : goal.returns-clause-same_worlds
returns-clause-same_worlds c =
    let skolems = first-symbols c.args.q.now.claims c.as_slice.result.now c.new-2.result.items c.new-3.result c.formed_each.new.scope.skolems c.as_slice.ensures c.new-2.ensures.items c.new-3.ensures c.in_ok-claims.ensures.skolems in
    let claims = first-formed c.args.q.now.claims c.as_slice.result.now c.new.result.items c.new-2.result.items c.new-3.result c.len-symbols.result c.in_ok-claims.claims c.as_slice.ensures c.new.ensures.items c.new-2.ensures.items c.new-3.ensures c.in_ok-claims.ensures.formulas in
    same_worlds c.args.sig.now c.args.q.now (record { copies = c.args.q.now.copies; claims = c.in_ok-claims.claims; skolems = c.formed_each.new.scope.skolems }) c.len-symbols.result c.len-symbols.ensures refl claims skolems c.requires.query

pub returns-clause-edges : goal.returns-clause-edges
returns-clause-edges c =
    let skolems = first-symbols c.args.q.now.claims c.as_slice.result.now c.new-2.result.items c.new-3.result c.formed_each.new.scope.skolems c.as_slice.ensures c.new-2.ensures.items c.new-3.ensures c.in_ok-claims.ensures.skolems in
    λ a b. subst (λ (ss : List Symbol). FunctionEdge (extended c.args.sig.now ss) a b ↔ ClaimsEdge c.args.sig.now c.args.q.now.claims a b) (sym skolems) (same_edges a b c.args.sig.now c.args.q.now.claims)

pub returns-clause-nodes : goal.returns-clause-nodes
returns-clause-nodes c =
    let skolems = first-symbols c.args.q.now.claims c.as_slice.result.now c.new-2.result.items c.new-3.result c.formed_each.new.scope.skolems c.as_slice.ensures c.new-2.ensures.items c.new-3.ensures c.in_ok-claims.ensures.skolems in
    let claims = first-formed c.args.q.now.claims c.as_slice.result.now c.new.result.items c.new-2.result.items c.new-3.result c.len-symbols.result c.in_ok-claims.claims c.as_slice.ensures c.new.ensures.items c.new-2.ensures.items c.new-3.ensures c.in_ok-claims.ensures.formulas in
    λ U. claims-formed U c.args.q.now.claims c.len-symbols.result
    ∙ ap (λ gs. claim_nodes U gs + skolem_nodes U (skolem_symbols_list true c.args.q.now.claims [])) (sym claims)
    ∙ ap (λ ss. claim_nodes U c.in_ok-claims.claims + skolem_nodes U ss) (sym skolems)

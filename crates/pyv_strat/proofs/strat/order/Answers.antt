use Rattle.std.proofs.Common.{ℕ, ◌<◌, ◌∙◌, sym, subst}
use Rattle.fo_core.specs.SortGraph.{SortEdge}
use Rattle.pyv_strat.specs.Edges.{Among}
use Rattle.pyv_strat.specs.Walks.{NoneReturns}
use Rattle.pyv_strat.proofs.GraphLemmas.{are-within, rises-as, first-as, no-numbers}
use Rattle.pyv_strat.proofs.strat.order.Goals as goal

pub first_start-requires : goal.first_start-requires
first_start-requires c = rw c.as_slice.ensures.value (are-within c.args.sys.now c.args.purpose c.in_ok-edges.edges.items c.requires c.in_ok-edges.ensures)

pub numbers-requires-clause-within : goal.numbers-requires-clause-within
numbers-requires-clause-within c = rw c.as_slice-in-None.ensures.value (are-within c.args.sys.now c.args.purpose c.in_ok-edges.edges.items c.requires c.in_ok-edges.ensures)

pub first_cycle-requires-clause-within : goal.first_cycle-requires-clause-within
first_cycle-requires-clause-within c = rw c.as_slice-in-Some.ensures.value (are-within c.args.sys.now c.args.purpose c.in_ok-edges.edges.items c.requires c.in_ok-edges.ensures)

pub numbers-requires-clause-acyclic : goal.numbers-requires-clause-acyclic
numbers-requires-clause-acyclic c =
    let sorts = c.args.sys.now.sig.sorts in
    let none = rw c.in-None.is at c.in_ok-first_start.ensures in
    subst (λ edges. (a : ℕ) → a < sorts → NoneReturns edges sorts a) (c.as_slice.ensures.value ∙ sym c.as_slice-in-None.ensures.value) none

pub returns-in-None-clause-rises : goal.returns-in-None-clause-rises
returns-in-None-clause-rises c =
    let rises = rw c.as_slice-in-None.ensures.value at c.in_ok-numbers-in-None.ensures in
    rw c.from_vec.ensures (rises-as (Among c.in_ok-edges.edges.items) (SortEdge c.args.sys.now c.args.purpose) c.in_ok-edges.ensures c.args.sys.now.sig.sorts _ rises)

pub returns-clause-refused : goal.returns-clause-refused
returns-clause-refused c =
    let graph = SortEdge c.args.sys.now c.args.purpose in
    let found = rw c.as_slice-in-Some.ensures.value at c.in_ok-cycle-in-Some.ensures in
    let first = first-as (Among c.in_ok-edges.edges.items) graph c.in_ok-edges.ensures c.in_ok-cycle-in-Some.cycle.items found in
    rw c.from_vec-in-Some.ensures record {
      unstratified = λ s. no-numbers graph c.in_ok-cycle-in-Some.cycle.items first.closed c.args.sys.now.sig.sorts s.0 s.1;
      cycle = first;
    }

use Rattle.std.proofs.Common.{Bool, not, nat_eq, length, List, sym, ◌∙◌, ap}
use Rattle.std.specs.List.{list_any}
use Rattle.up_core.specs.declared.state.JobEntry.{JobEntry}
use Rattle.up_core.specs.declared.state.ObligationEntry.{ObligationEntry}
use Rattle.up_core.specs.Choice.{is_done}
use Rattle.up_machine.proofs.Lists.{false_is_true}
use Rattle.up_core.proofs.Chosen.{quiet-open, quiet-by-jobs}
use Rattle.up_core.proofs.state.State.is_quiet.Goals as goal

abbrev is_open : ObligationEntry → Bool
is_open e = not (is_done e.progress)

pub returns-then-has_open : goal.returns-then-has_open
returns-then-has_open c sys history m mirror = (
  λ t. false_is_true t,
  λ quiet. absurd (quiet-open sys history m c.args.self.now mirror (sym c.has_open.ensures ∙ c.if-has_open.true) quiet),
)

pub returns : goal.returns
returns c sys history m mirror =
    quiet-by-jobs sys history m c.args.self.now mirror (c.if-self-frontier.false ∙ c.frontier.ensures)
    (sym c.has_open.ensures ∙ c.if-has_open.false)
    c.is_empty.result (c.is_empty.ensures ∙ ap (λ (js : List JobEntry). nat_eq (length js) 0) c.as_slice.ensures.value)

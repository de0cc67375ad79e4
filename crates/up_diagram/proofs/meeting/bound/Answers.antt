use Rattle.std.proofs.Common.{◌∙◌, ◌+◌, ℕ, sym, ap}
use Rattle.std.specs.Prelude.{max}
use Rattle.up_diagram.specs.Trying.{most}
use Rattle.up_diagram.proofs.Bounds.{most-push}
use Rattle.up_diagram.proofs.meeting.bound.Goals as goal

pub returns-in-Value : goal.returns-in-Value
returns-in-Value c =
    rw c.in-Value.is
    (c.max-in-Value.ensures
    ∙ ap (λ (n : ℕ). max n (c.in-Value.v + 1)) (c.most_of-in-Value.ensures ∙ ap most c.as_slice-in-Value.ensures)
    ∙ sym (most-push c.in-Value.variables c.in-Value.v))

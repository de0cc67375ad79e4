-- What the top call answers.
use Rattle.std.specs.Prelude.{ℕ, List}
use Rattle.up_core.specs.View.{CoreView}
use Rattle.updr_table.specs.Table.{Answers, Call}
use Rattle.updr_top.specs.Commands.{commands}
use Rattle.updr_top.specs.Complete.{IsComplete}

-- The call is what the commands answer to the words.
pub record IsServed (words : List (List ℕ)) (call : Call CoreView) : Type 0 where
  -- how the call may end, in the order of refusals; each command's table; what is told whatever
  -- the command
  pub answers : Answers commands words call
  -- the statuses of calls of which nothing is refused
  pub complete : IsComplete words call

-- The commands, each a value of a file of its own.
use Rattle.std.specs.Prelude.{List, [], ◌∷◌}
use Rattle.up_core.specs.View.{CoreView}
use Rattle.updr_table.specs.Commands.{Command}
use Rattle.updr_top.specs.Bmc.{bmc_command}
use Rattle.updr_top.specs.Check.{check_command}
use Rattle.updr_top.specs.Demo.{demo_command}
use Rattle.updr_top.specs.Infer.{infer_command}
use Rattle.updr_top.specs.Verify.{verify_command}

abbrev pub commands : List (Command CoreView)
commands = check_command ∷ verify_command ∷ bmc_command ∷ infer_command ∷ demo_command ∷ []

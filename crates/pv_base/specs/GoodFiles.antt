-- Files in memory without faults.
use Rattle.std.specs.Prelude.{List, Option}
use Rattle.pv_base.specs.Entries.{NamedContent}
use Rattle.pv_base.specs.Refusals.{Refusal}

-- the names with their contents, and what the last read was refused for
pub record FilesWithoutFaults : Type 0 where
  pub entries : List NamedContent
  pub refused : Option Refusal

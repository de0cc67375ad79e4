-- The answer of elaboration where a system is meant.
use Rattle.std.specs.Prelude.{◌≡◌, Result, Ok, Err}
use Rattle.fo_core.specs.declared.names.Names.{Names}
use Rattle.fo_core.specs.declared.system.System.{System}
use Rattle.pyv_meaning.specs.declared.fault.SortFault.{SortFault}
use Rattle.pyv_sorts.specs.declared.model.Elaborated.{Elaborated}
use Rattle.pyv_sorts.specs.Elaborating.{OrMemory}

-- it is this system with these names, unless memory ran out
abbrev pub IsUnlessMemory : Result Elaborated SortFault → System → Names → Type 0
IsUnlessMemory (Ok e) sys names = (e.sys ≡ sys) × (e.names ≡ names)
IsUnlessMemory (Err f) sys names = OrMemory (λ g. ⊥) f

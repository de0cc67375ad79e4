-- What a refusal says.
use Rattle.std.specs.Prelude.{ℕ, List, ⊤}
use Rattle.fo_core.specs.declared.system.System.{System}
use Rattle.fo_core.specs.declared.order.Purpose.{Purpose}
use Rattle.fo_core.specs.SortGraph.{SortEdge, IsStratified, IsFirstCycle}
use Rattle.pyv_strat.specs.declared.strat.StratFault.{StratFault}
use Rattle.pyv_strat.specs.declared.strat.StratFault.TheVariants.{Cycle, Memory}

-- the system isn't stratified for the purpose, and this is the first of its shortest cycles
pub record IsUnstratified (sys : System) (purpose : Purpose) (printed : List ℕ) : Type 0 where
  pub unstratified : ¬ IsStratified sys purpose
  pub cycle : IsFirstCycle (SortEdge sys purpose) printed

-- a cycle is reported only where there is no numbering, and want of memory at any time
abbrev pub IsRefusal : System → Purpose → StratFault → Type 0
IsRefusal sys purpose (Cycle cycle) = IsUnstratified sys purpose cycle
IsRefusal sys purpose Memory = ⊤

-- What inference asks of a system and of an order of its sorts.
use Rattle.fo_core.specs.declared.order.Order.{Order}
use Rattle.fo_core.specs.declared.order.Purpose.TheVariants.{Infer}
use Rattle.fo_core.specs.declared.system.System.{System}
use Rattle.fo_core.specs.SortGraph.{SortEdge, Rises}
use Rattle.fo_core.specs.Sorted.{IsSystem}

-- the system is well-sorted, and the order rises along each edge of its sort graph for inference
pub record CanInfer (sys : System) (order : Order) : Type 0 where
  pub system : IsSystem sys
  pub rises : Rises (SortEdge sys Infer) sys.sig.sorts order.numbers

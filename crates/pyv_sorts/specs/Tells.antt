-- What the result of a pass tells of the first fault.
use Rattle.std.specs.Prelude.{◌≡◌, Option, Some, None, Result, Ok, Err}
use Rattle.pyv_meaning.specs.declared.fault.SortFault.{SortFault}
use Rattle.pyv_meaning.specs.declared.fault.SortFault.TheVariants.{Memory}

-- this is the first fault; want of memory is free
abbrev pub Fails : SortFault → Option SortFault → Type 0
Fails Memory f = Unit {0}
Fails e f = f ≡ Some e

-- An answer comes exactly where there is no fault, unless memory runs out.
abbrev pub Tells : {X : Type 0} → Result X SortFault → Option SortFault → Type 0
Tells (Ok x) f = f ≡ None
Tells (Err e) f = Fails e f

-- The statuses of calls, and their numbers.
use Rattle.std.specs.Prelude.{ℕ, Bool, nat_lt}
use Rattle.updr_told.specs.declared.status.Status.{Status}
use Rattle.updr_told.specs.declared.status.Status.TheVariants.{Holds, Unsafe, NoUniversal, Bounded, Spent, Over, Wrong, NotInductive, NothingToCheck, Usage, ReadFault, NotRead, Sorts, NotStratified, WriteFault, OutOfMemory, Unsupported, ReportNotRead}

-- the number that a program ends with
abbrev pub number_of : Status → ℕ
number_of Holds = 0
number_of Unsafe = 1
number_of NoUniversal = 2
number_of Bounded = 3
number_of Spent = 4
number_of Over = 5
number_of Wrong = 6
number_of NotInductive = 7
number_of NothingToCheck = 8
number_of Usage = 10
number_of ReadFault = 11
number_of NotRead = 12
number_of Sorts = 13
number_of NotStratified = 14
number_of WriteFault = 15
number_of OutOfMemory = 16
number_of Unsupported = 17
number_of ReportNotRead = 18

-- a call that ends so has printed what it was asked for, and is no refusal
abbrev pub is_answer : Status → Bool
is_answer status = nat_lt (number_of status) 10

-- Files in memory, in which chosen reads fail.
use Rattle.std.specs.Prelude.{◌≡◌, ◌⊎◌, ℕ, List, Result, Ok, Err, Option, None, IsSome, ⊤}
use Rattle.pv_base.specs.Entries.{NamedContent}
use Rattle.pv_base.specs.Refusals.{Noted}
use Rattle.pv_base.specs.declared.files.ReadFault.{ReadFault}
use Rattle.pv_base.specs.declared.files.ReadFault.TheVariants.{Failed, TooLong, Memory}

-- the names with their contents, the numbers of the reads that are to fail, and how many reads there were
pub record FilesInMemory : Type 0 where
  pub entries : List NamedContent
  pub failing : List ℕ
  pub calls : ℕ
  pub noted : Noted

-- Why a read answers this, beside the content's length: whether its name is held, and whether this read is to fail.
abbrev pub HasCause : Option (List ℕ) → Type 0 → Result (Unit {0}) ReadFault → Type 0
HasCause held IsToFail (Ok _) = IsSome held × ¬ IsToFail
HasCause held IsToFail (Err Failed) = (held ≡ None) ⊎ IsToFail
HasCause held IsToFail (Err TooLong) = IsSome held
HasCause held IsToFail (Err Memory) = ⊤

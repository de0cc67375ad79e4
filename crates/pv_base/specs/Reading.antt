-- What a read answers of a content, and what it leaves.
use Rattle.std.specs.Prelude.{◌≡◌, ◌+◌, ◌<◌, ◌≤◌, ℕ, List, [], Result, Ok, Err, Option, length, take, IfSome}
use Rattle.pv_base.specs.declared.files.ReadFault.{ReadFault}
use Rattle.pv_base.specs.declared.files.ReadFault.TheVariants.{Failed, TooLong, Memory}

-- the most bytes that a file may have
abbrev pub limit : ℕ
limit = 1048576

-- these bytes are the content, where that is told, and are within the limit
pub record IsContent (told : Option (List ℕ)) (bytes : List ℕ) : Type 0 where
  pub within : length bytes ≤ limit
  pub same : IfSome told (λ content. content ≡ bytes)

-- these bytes are the first ones of the content, where that is told, one more than a file may have
pub record IsOverlong (told : Option (List ℕ)) (bytes : List ℕ) : Type 0 where
  pub past : length bytes ≡ limit + 1
  pub long : IfSome told (λ content. limit < length content)
  pub front : IfSome told (λ content. bytes ≡ take (limit + 1) content)

-- Each answer of a read, with what it says of the content, where that is told, and the bytes that it leaves.
-- A read that fails is of a content within the limit, so that a content past it is always answered as too long.
abbrev pub IsRead : Option (List ℕ) → Result (Unit {0}) ReadFault → List ℕ → Type 0
IsRead told (Ok _) bytes = IsContent told bytes
IsRead told (Err Failed) bytes = (bytes ≡ []) × IfSome told (λ content. length content ≤ limit)
IsRead told (Err TooLong) bytes = IsOverlong told bytes
IsRead told (Err Memory) bytes = bytes ≡ []

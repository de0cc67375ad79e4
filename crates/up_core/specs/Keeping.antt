-- What holds of the lists that are kept beside the clauses' entries.
use Rattle.std.specs.Prelude.{◌≡◌, ℕ, ◌+◌, ◌<◌, ◌≤◌, Bool, List, length, Some, slice_get}
use Rattle.std.specs.List.{count_by, list_any}
use Rattle.std.specs.Global.{Vec}
use Rattle.std.specs.Vec.{vec_len, vec_capacity}
use Rattle.up_core.specs.declared.state.ClauseEntry.{ClauseEntry}
use Rattle.up_core.specs.declared.state.ObligationEntry.{ObligationEntry}
use Rattle.up_core.specs.Places.{due_of, has_level, is_seed, live_of, open_of}

-- n further elements fit without memory
abbrev pub HasRoom : {X : Type 0} → ℕ → Vec X → Type 0
HasRoom n xs = vec_len xs + n ≤ vec_capacity xs

-- the numbers of the clauses that may rise, and for each level up to the last frame whether a live
-- clause has it
pub record AreGathered (entries : List ClauseEntry) (frontier : ℕ) (due : List ℕ) (levels : List Bool) : Type 0 where
  pub due_is : due ≡ due_of frontier entries
  pub levels_are : length levels ≡ frontier + 1
  pub level_is : (i : ℕ) → i < length levels →
      slice_get levels i ≡ Some (list_any (has_level i) entries)

-- n further clauses or frames fit without memory
pub record HasRoomFor (n : ℕ) (entries : Vec ClauseEntry) (live due : Vec ℕ) (levels : Vec Bool) : Type 0 where
  pub of_entries : HasRoom n entries
  pub of_live : HasRoom n live
  pub of_due : vec_len live + n ≤ vec_capacity due
  pub of_levels : HasRoom n levels

-- what is kept beside the entries is so, and there is room
pub record AreKept (entries : Vec ClauseEntry) (live due : Vec ℕ) (levels : Vec Bool) (frontier room : ℕ) : Type 0 where
  pub live_is : live.items ≡ live_of entries.items
  pub gathered : AreGathered entries.items frontier due.items levels.items
  pub room_for : HasRoomFor room entries live due levels

-- the numbers of the obligations that aren't done and the count of the seeds are kept, and there is
-- room for this many further obligations
pub record AreOpenKept (entries : Vec ObligationEntry) (opened : Vec ℕ) (seeds room : ℕ) : Type 0 where
  pub open_is : opened.items ≡ open_of entries.items
  pub seeds_are : seeds ≡ count_by is_seed entries.items
  pub room_entries : HasRoom room entries
  pub room_open : vec_len entries + room ≤ vec_capacity opened

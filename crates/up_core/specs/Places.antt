-- The places of a list whose elements pass a test, in order.
use Rattle.std.specs.Prelude.{ℕ, suc, Bool, true, false, not, cond, ◌&&◌, nat_eq, nat_le, is_none, List, [], ◌∷◌}
use Rattle.up_core.specs.declared.state.ClauseEntry.{ClauseEntry}
use Rattle.up_core.specs.declared.state.ObligationEntry.{ObligationEntry}
use Rattle.up_core.specs.declared.state.Progress.{Progress}
use Rattle.up_core.specs.declared.state.Progress.TheVariants as P

module _ {X : Type 0} (test : X → Bool) where
  -- where the first element has this place
  abbrev pub places_from : ℕ → List X → List ℕ
  places_from n [] = []
  places_from n (x ∷ xs) = cond (test x) (n ∷ places_from (suc n) xs) (places_from (suc n) xs)

  abbrev pub places_of : List X → List ℕ
  places_of xs = places_from 0 xs

abbrev pub is_live : ClauseEntry → Bool
is_live e = e.live

-- the numbers of the live clauses
abbrev pub live_of : List ClauseEntry → List ℕ
live_of entries = places_of is_live entries

-- a live clause of exactly this level
abbrev pub has_level : ℕ → ClauseEntry → Bool
has_level i e = e.live && nat_eq e.level i

-- a live clause of level 1 to the frontier without a valid failed push
abbrev pub may_rise : ℕ → ClauseEntry → Bool
may_rise frontier e =
    e.live && nat_le 1 e.level && nat_le e.level frontier && is_none e.failed

-- the numbers of such clauses
abbrev pub due_of : ℕ → List ClauseEntry → List ℕ
due_of frontier entries = places_of (may_rise frontier) entries

-- What contracts see of the clauses: their entries, the last frame, and for how many more clauses or
-- frames there is room.
pub record ClausesView : Type 0 where
  pub items : List ClauseEntry
  pub frontier : ℕ
  pub room : ℕ

abbrev pub is_done : Progress → Bool
is_done P.Done = true
is_done P.Ready = false
is_done P.Out = false
is_done P.Waiting = false
is_done (P.Rooted place) = false

abbrev pub is_unfinished : ObligationEntry → Bool
is_unfinished e = not (is_done e.progress)

abbrev pub is_seed : ObligationEntry → Bool
is_seed e = is_none e.parent

-- the numbers of the obligations that aren't done
abbrev pub open_of : List ObligationEntry → List ℕ
open_of entries = places_of is_unfinished entries

-- what contracts see of the obligations: their entries, and for how many more there is room
pub record ObligationsView : Type 0 where
  pub items : List ObligationEntry
  pub room : ℕ

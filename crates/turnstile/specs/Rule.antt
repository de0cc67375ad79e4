-- The rule of a turnstile's table, which every step keeps.
--
-- Word 0 is the turn: 0 while it is free, 1 while a pass is inside. Word 1 counts the history. The one slot has the value while the turn is free, and is out with the pass that is inside while it is not.
--
-- The kinds of step are these:
-- Winning the turn: a compare and exchange of word 0 that finds 0 and writes 1. The pass is inside, has seen the history of the stored value, and takes the slot.
-- Losing it: the same where it finds 1. Nothing changes.
-- Taking the value out: the pass that is inside reads the slot, which it alone can reach, and leaves it empty. No word and no view changes.
-- Putting back: the pass that is inside writes the value into the slot. No word and no view changes.
-- Counting: word 1 rises by the number of entries that the visit added, which is 0 or 1. The pass has seen the history of the value that it put back.
-- Giving the turn back: word 0 becomes 0. The slot is at home again, and the pass is outside.
-- Splitting: word 0 is loaded. The pass keeps the numbers below some place, and a new pass has the rest and has seen the same.
-- Joining: word 0 is loaded. The pass has the numbers of both and the longer of the two histories, and the other is spent. A second load, which changes nothing, tells the pass that this history goes on from what each of the two had seen.
use Rattle.std.specs.Prelude.{◌≡◌, ℕ, ◌<◌, ◌≤◌, true, false, List, [], ◌∷◌, length, Option, Some}
use Rattle.std.specs.List.{All}
use mathlib.Core.Option.{some, none}
use lib.ListN.{get_elem?}
use Rattle.atomic_table.specs.Table.{State}
use Rattle.turnstile.specs.declared.rule.View.{View}
use Rattle.turnstile.specs.History.{Continues}

-- a pass that is outside and has seen nothing
abbrev pub fresh : {B E : Type 0} → Option B → ℕ → ℕ → View B E
fresh base from to = record { base = base; seen = []; from = from; to = to; inside = false; parts = [] }

module _ {B E : Type 0} where
  -- what holds of the pass on the seat `seat`, whose view is w
  pub record Knows (callers : ℕ) (number : E → ℕ) (base : B) (log : List E) (owner : ℕ → ℕ) (holder seat : ℕ) (w : View B E) : Type 0 where
    -- a pass that is not spent names the base of the value
    pub same : w.from < w.to → w.base ≡ Some base
    pub within : w.to ≤ callers
    -- its numbers are its own, so the numbers of two passes are disjoint
    pub owns : (k : ℕ) → w.from ≤ k → k < w.to → owner k ≡ seat
    -- what it has seen begins the history, and has each entry that carries one of its numbers
    pub goes_on : Continues number w.from w.to w.seen log
    pub parts : All (λ p. Continues number p.from p.to p.seen w.seen) w.parts
    -- the pass that is inside has seen the whole history
    pub in_turn : w.inside ≡ true → (seat ≡ holder) × (w.from < w.to) × (w.seen ≡ log)

module _ {S B E : Type 0} (base : S → B) (history : S → List E) (number : E → ℕ) where
  -- the rule
  pub record Kept (callers : ℕ) (s : State (Option S) (View B E)) : Type 0 where
    pub turn : ℕ
    pub log : List E
    pub first : B
    -- the seat that each number belongs to
    pub owner : ℕ → ℕ
    -- the seat that is inside, where one is
    pub holder : ℕ
    pub words : s.words ≡ turn ∷ length log ∷ []
    pub bit : turn < 2
    -- the value at home has the base and the history that word 1 counts
    pub home : turn ≡ 0 → (v : S) × (s.homes ≡ some (Some v) ∷ []) × (history v ≡ log) × (base v ≡ first)
    pub out : turn ≡ 1 → s.homes ≡ none ∷ []
    pub free : turn ≡ 0 → (j : ℕ) (w : View B E) → get_elem? s.views j ≡ some w → w.inside ≡ false
    pub busy : turn ≡ 1 → (w : View B E) × (get_elem? s.views holder ≡ some w) × (w.inside ≡ true)
    -- each entry carries a caller's number
    pub carried : All (λ e. number e < callers) log
    pub each : (j : ℕ) (w : View B E) → get_elem? s.views j ≡ some w → Knows callers number first log owner holder j w

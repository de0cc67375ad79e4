-- What each step tells the pass that makes it.
use Rattle.std.specs.Prelude.{◌≡◌, ◌≢◌, ℕ, true, false, min, max, List, [], ◌∷◌, Option, Some, None}
use Rattle.std.specs.List.{All}
use Rattle.atomic_table.specs.Table.{Me, Step}
use Rattle.turnstile.specs.declared.rule.View.{View}
use Rattle.turnstile.specs.declared.rule.Part.{Part}
use Rattle.turnstile.specs.History.{Continues, longer}

module _ {B E : Type 0} where
  -- what joining leaves of the pass that is taken in
  abbrev pub spent : View B E
  spent = record { base = None; seen = []; from = 0; to = 0; inside = false; parts = [] }

  -- a pass that is joined, as it was
  abbrev pub part_of : View B E → Part E
  part_of v = record { from = v.from; to = v.to; seen = v.seen }

  -- the numbers of both, which touch, and the longer history
  abbrev pub joined : View B E → View B E → View B E
  joined v w = record { base = v.base; seen = longer v.seen w.seen; from = min v.from w.from; to = max v.to w.to; inside = false; parts = part_of v ∷ part_of w ∷ [] }

  -- the pass keeps the numbers below `at`
  abbrev pub below : ℕ → View B E → View B E
  below at v = record v { to = at }

  -- the new pass has the numbers from `at` on
  abbrev pub above : ℕ → View B E → View B E
  above at v = record v { from = at }

  -- the pass has the turn, and has seen this history
  abbrev pub entered : View B E → List E → View B E
  entered v log = record v { seen = log; inside = true; parts = [] }

  -- the pass has given the turn back
  abbrev pub left : View B E → View B E
  left v = record v { inside = false }

  -- a history goes on from what each of two passes has seen
  abbrev pub IsJoined : (E → ℕ) → View B E → View B E → List E → Type 0
  IsJoined number v w log = Continues number v.from v.to v.seen log × Continues number w.from w.to w.seen log

-- a pass's view, and the slots that it holds
abbrev Seated : Type 0 → Type 0 → Type 0 → Type 0
Seated S B E = Me (Option S) (View B E)

module _ {S B E : Type 0} where
  -- the kept value, as a pass finds it
  pub record Finds (base : S → B) (history : S → List E) (number : E → ℕ) (v : View B E) (x : S) : Type 0 where
    pub same : v.base ≡ Some (base x)
    pub goes_on : Continues number v.from v.to v.seen (history x)

  -- where the turn was free, the pass has it, and the slot with the kept value; else nothing changed
  abbrev pub won : (S → B) → (S → List E) → (E → ℕ) → Step (Option S) → Seated S B E → ℕ → Seated S B E → Type 0
  won base history number st m r m' =
      (r ≡ 0 → (x : S) × (m'.1 ≡ (0, Some x) ∷ m.1) × (m'.0 ≡ entered m.0 (history x)) × Finds base history number m.0 x)
      × (r ≢ 0 → m' ≡ m)

  -- the pass has seen the history of the value that it put back
  abbrev pub counted : (S → List E) → Step (Option S) → Seated S B E → ℕ → Seated S B E → Type 0
  counted history st m r m' = (x : S) → m.1 ≡ (0, Some x) ∷ [] → (m'.1 ≡ m.1) × (m'.0 ≡ entered m.0 (history x))

  -- the pass is outside, and the slot at home
  abbrev pub given : Step (Option S) → Seated S B E → ℕ → Seated S B E → Type 0
  given st m r m' = (m'.1 ≡ []) × (m'.0 ≡ left m.0)

  -- nothing changed, and what was seen goes on from what each joined pass had seen
  abbrev pub learned : (E → ℕ) → Step (Option S) → Seated S B E → ℕ → Seated S B E → Type 0
  learned number st m r m' = (m' ≡ m) × All (λ p. Continues number p.from p.to p.seen m.0.seen) m.0.parts

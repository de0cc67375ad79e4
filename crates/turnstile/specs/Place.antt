-- The seat of a pass: what it knows, what it holds, and how the pass is seen.
use Rattle.std.specs.Prelude.{◌≡◌, ℕ, ◌<◌, true, false, [], ◌∷◌, length, Option, None}
use Rattle.atomic_table.specs.declared.shared.Seat.{Seat}
use Rattle.turnstile.specs.declared.rule.View.{View}
use Rattle.turnstile.specs.Views.{PassView}

module _ {S B E : Type 0} where
  -- what the pass on this seat knows
  abbrev pub view_of : Seat (Option S) (View B E) → View B E
  view_of place = place.me.0

  -- what contracts see of the pass on this seat
  abbrev pub pass_view : Seat (Option S) (View B E) → PassView B E
  pass_view place = record { table = place.table_id; base = (view_of place).base; from = (view_of place).from; to = (view_of place).to; seen = (view_of place).seen; inside = (view_of place).inside }

  -- the pass holds no slot
  abbrev pub HoldsNothing : Seat (Option S) (View B E) → Type 0
  HoldsNothing place = place.me.1 ≡ []

  -- the pass holds the slot, whose value was taken out
  abbrev pub HoldsSlot : Seat (Option S) (View B E) → Type 0
  HoldsSlot place = place.me.1 ≡ (0, None) ∷ []

  abbrev pub IsOutside : Seat (Option S) (View B E) → Type 0
  IsOutside place = ((view_of place).inside ≡ false) × HoldsNothing place

  abbrev pub IsInside : Seat (Option S) (View B E) → Type 0
  IsInside place = ((view_of place).inside ≡ true) × HoldsSlot place

  -- the seat t is the seat s later on
  abbrev pub IsSameSeat : Seat (Option S) (View B E) → Seat (Option S) (View B E) → Type 0
  IsSameSeat s t = (t.table_id ≡ s.table_id) × (t.id ≡ s.id)

  -- what is kept at run time agrees with what the pass knows. A pass has a number. It holds the slot while it is inside, and then the count is that of the history
  pub record IsWhole (first end count : ℕ) (place : Seat (Option S) (View B E)) : Type 0 where
    pub low : first ≡ (view_of place).from
    pub high : end ≡ (view_of place).to
    pub some_number : first < end
    pub outside : (view_of place).inside ≡ false → HoldsNothing place
    pub inside : (view_of place).inside ≡ true → HoldsSlot place × (count ≡ length (view_of place).seen)

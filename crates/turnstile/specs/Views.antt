-- What contracts see of a turnstile and of a pass.
use Rattle.std.specs.Prelude.{◌≡◌, ◌⊎◌, ℕ, Bool, true, false, List, ◌++◌, Option, Some}
use Rattle.atomic_table.specs.Seated.{TableId}
use Rattle.turnstile.specs.History.{entries_of, Continues}

-- which table it stands on, which no other turnstile does, the base of its value, and how many callers it has: their numbers are those below `callers`
pub record TurnstileView (B : Type 0) : Type 0 where
  pub table : TableId
  pub base : B
  pub callers : ℕ

-- The table and the base are those of the pass's turnstile. The pass has the numbers from `from` to below `to`. It has seen the history `seen`, and is inside while it has the turn
pub record PassView (B E : Type 0) : Type 0 where
  pub table : TableId
  pub base : Option B
  pub from : ℕ
  pub to : ℕ
  pub seen : List E
  pub inside : Bool

module _ {B E : Type 0} where
  -- the pass belongs to this turnstile
  abbrev pub IsOf : TurnstileView B → PassView B E → Type 0
  IsOf t p = (p.table ≡ t.table) × (p.base ≡ Some t.base)

  -- the pass has the turn
  abbrev pub IsInside : PassView B E → Type 0
  IsInside p = p.inside ≡ true

  -- the pass doesn't have the turn
  abbrev pub IsOutside : PassView B E → Type 0
  IsOutside p = p.inside ≡ false

  -- the numbers of the pass are those from `from` to below `to`
  abbrev pub HasNumbers : PassView B E → ℕ → ℕ → Type 0
  HasNumbers p from to = (p.from ≡ from) × (p.to ≡ to)

  -- the numbers of one begin where those of the other end
  abbrev pub Touches : PassView B E → PassView B E → Type 0
  Touches p q = (p.to ≡ q.from) ⊎ (q.to ≡ p.from)

  -- what was left under this number, which the pass has, oldest first: each entry of its visits, and of those of the passes that it comes from
  abbrev pub left_under : (E → ℕ) → ℕ → PassView B E → List E
  left_under number k p = entries_of number k p.seen

  -- a visit adds `more` to what was seen: under each number those of `more` that carry it are left, behind what was left before
  abbrev pub LeavesBehind : (E → ℕ) → PassView B E → PassView B E → List E → Type 0
  LeavesBehind number p q more = (k : ℕ) → left_under number k q ≡ left_under number k p ++ entries_of number k more

  -- The history begins with what the pass has seen. For each number of the pass, the entries that carry it are those that were left under it, each once and in order
  abbrev pub GoesOnFrom : (E → ℕ) → PassView B E → List E → Type 0
  GoesOnFrom number p log = Continues number p.from p.to p.seen log

-- How many clauses are live.
use Rattle.std.proofs.Common.{◌≡◌, ℕ, zero, suc, ◌≤◌, Bool, true, false, cond, List, [], ◌∷◌, ◌++◌, length, Option, Some, slice_get, sym, ap, refl, ◌∙◌, true≢false, arith}
use Rattle.up_machine.specs.declared.event.Event.{Event}
use Rattle.up_machine.specs.declared.event.Event.TheVariants as E
use Rattle.up_machine.specs.Machine.{Clause, Given, Work, Push}
use Rattle.up_machine.specs.Replay.{change_at, raised, retired, clauses_after, is_productive}
use Rattle.up_machine.specs.Told.{live_of}
use Rattle.up_machine.proofs.Lists.{some_injective, none_is_some}

abbrev pub lives : List Clause → ℕ
lives cs = length (live_of cs)

abbrev is_live : Clause → Bool
is_live c = c.live

-- one more clause at the front counts or not
live_more : (b : Bool) (x y : Clause) (xs ys : List Clause) → lives xs ≡ lives ys → length (cond b (x ∷ live_of xs) (live_of xs)) ≡ length (cond b (y ∷ live_of ys) (live_of ys))
live_more true x y xs ys e = ap suc e
live_more false x y xs ys e = e

live_push : (cs : List Clause) (c : Clause) → c.live ≡ true → lives (cs ++ c ∷ []) ≡ suc (lives cs)
live_push [] c live = ap (λ b. length (cond b (c ∷ []) [])) live
live_push (x ∷ xs) c live = step (is_live x) (live_push xs c live)
  where
    step : (b : Bool) → lives (xs ++ c ∷ []) ≡ suc (lives xs) →
        length (cond b (x ∷ live_of (xs ++ c ∷ [])) (live_of (xs ++ c ∷ []))) ≡ suc (length (cond b (x ∷ live_of xs) (live_of xs)))
    step true e = ap suc e
    step false e = e

live_raise : (cs : List Clause) (k : ℕ) → lives (change_at k raised cs) ≡ lives cs
live_raise [] k = refl
live_raise (x ∷ xs) zero = live_more (is_live x) (raised x) x xs xs refl
live_raise (x ∷ xs) (suc k) = live_more (is_live x) x x (change_at k raised xs) xs (live_raise xs k)

-- a live clause that is retired is one live clause less
pub live_retire : (cs : List Clause) (k : ℕ) (c : Clause) → slice_get cs k ≡ Some c → c.live ≡ true → lives cs ≡ suc (lives (change_at k retired cs))
live_retire [] k c e live = none_is_some c e
live_retire (x ∷ xs) zero c e live = ap (λ b. length (cond b (x ∷ live_of xs) (live_of xs))) (ap (λ (y : Clause). y.live) (some_injective x c e) ∙ live)
live_retire (x ∷ xs) (suc k) c e live = step (is_live x) (live_retire xs k c e live)
  where
    step : (b : Bool) → lives xs ≡ suc (lives (change_at k retired xs)) →
        length (cond b (x ∷ live_of xs) (live_of xs)) ≡ suc (length (cond b (x ∷ live_of (change_at k retired xs)) (live_of (change_at k retired xs))))
    step true e = ap suc e
    step false e = e

-- a productive event makes at most one live clause
pub live_grow : (e : Event) (job : Option Given) (cs : List Clause) → is_productive e ≡ true → lives (clauses_after e job cs) ≤ suc (lives cs)
live_grow (E.Learn w cube) (Some (Work k level below world)) cs costs = let one = live_push cs (record { cube = cube; level = level; live = true }) refl in omega (arith, one)
live_grow (E.Raise w) (Some (Push k level cubes cube)) cs costs = let same = live_raise cs k in omega (arith, same)
live_grow (E.Retire w gone by) job cs costs = absurd (true≢false (sym costs))
live_grow e job cs costs = omega arith

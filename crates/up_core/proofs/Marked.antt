-- The marks of the first live entries of levels, and the leaves that they tell.
use Rattle.std.proofs.Common.{◌≡◌, ℕ, zero, suc, ◌+◌, ◌<◌, ◌≤◌, Bool, true, false, cond, List, [], ◌∷◌, ◌++◌, length, get_or, take, drop, filter, Option, None, Some, slice_get, refl, sym, ap, subst, ◌∙◌, arith, true≢false}
use Rattle.std.proofs.Math.Seq.{drop-cons}
use Rattle.std.proofs.lemmas.Option.{get_or_from_slice_get, slice_get-get_or}
use Rattle.std.specs.Option.{option_or}
use Rattle.up_claims.specs.declared.verdict.Leave.{Leave}
use Rattle.up_machine.specs.declared.event.Event.{Event}
use Rattle.up_machine.proofs.Lists.{none_is_some, some_injective, get-lt}
use Rattle.up_core.specs.declared.leaves.Mark.{Mark}
use Rattle.up_core.specs.declared.state.ClauseEntry.{ClauseEntry}
use Rattle.up_core.specs.declared.state.State.{State}
use Rattle.up_core.specs.Choice.{has_level}
use Rattle.up_core.specs.Mirror.{Pairs}
use Rattle.up_core.specs.Telling.{own_mark, next_place, mark_of, AreMarks, HasLeave, IsLeaveBy, CanTellLeaves, AreLeavesBy}
use Rattle.up_core.proofs.Pairing.{pairs-left, pairs-length}

pub mark-assoc : (a b c : Option Mark) → option_or (option_or a b) c ≡ option_or a (option_or b c)
mark-assoc None b c = refl
mark-assoc (Some x) b c = refl

-- the mark from an entry on
pub mark-next : (level place : ℕ) (es : List ClauseEntry) (i : ℕ) (e : ClauseEntry) → slice_get es i ≡ Some e →
    mark_of level place (drop i es) ≡ option_or (own_mark level place e) (mark_of level (next_place place e) (drop (i + 1) es))
mark-next level place es i e there =
    let is : drop i es ≡ e ∷ drop (suc i) es = drop-cons es i e (get-lt es i e there) ∙ ap (λ x. x ∷ drop (suc i) es) (get_or_from_slice_get es i e e there) in
    let one : suc i ≡ i + 1 = omega arith in
    ap (mark_of level place) is ∙ ap (λ j. option_or (own_mark level place e) (mark_of level (next_place place e) (drop j es))) one

next-place-low : (place i : ℕ) (e : ClauseEntry) → place ≤ i → next_place place e ≤ i + 1
next-place-low place i e low = by e.live
  where
    by : (b : Bool) → cond b (place + 1) place ≤ i + 1
    by true = omega (arith, low)
    by false = omega (arith, low)

pub place-low : (place next i : ℕ) (e : ClauseEntry) → next ≡ next_place place e → place ≤ i → next ≤ i + 1
place-low place next i e is low = let le = next-place-low place i e low in omega (arith, is, le)

-- what a mark says
pub record IsMarked (level place : ℕ) (es : List ClauseEntry) (mark : Mark) : Type 0 where
  pub number : ℕ
  pub entry : ClauseEntry
  pub there : slice_get es number ≡ Some entry
  pub has : has_level level entry ≡ true
  pub first : (j : ℕ) (x : ClauseEntry) → j < number → slice_get es j ≡ Some x → ¬ (has_level level x ≡ true)
  pub place_is : mark.place ≡ place + length (filter (λ (e : ClauseEntry). e.live) (take number es))
  pub failed : mark.failed ≡ entry.failed

abbrev with : ℕ → ClauseEntry → Mark
with place e = record { place = place; failed = e.failed }

counted : (place : ℕ) (x : ClauseEntry) (ys : List ClauseEntry) (b : Bool) → cond b (place + 1) place + length ys ≡ place + length (cond b (x ∷ ys) ys)
counted place x ys true = omega arith
counted place x ys false = refl

pub marked : (level place : ℕ) (es : List ClauseEntry) (mark : Mark) → mark_of level place es ≡ Some mark → IsMarked level place es mark
marked level place [] mark e = none_is_some mark e
marked level place (x ∷ es) mark e = by (has_level level x) refl (marked level (next_place place x) es mark) e
  where
    first-of : (r : IsMarked level (next_place place x) es mark) → has_level level x ≡ false →
        (j : ℕ) (y : ClauseEntry) → j < suc r.number → slice_get (x ∷ es) j ≡ Some y → ¬ (has_level level y ≡ true)
    first-of r off zero y lt at = λ t. true≢false (sym t ∙ ap (has_level level) (sym (some_injective x y at)) ∙ off)
    first-of r off (suc j) y lt at = r.first j y (omega (arith, lt)) at

    by : (b : Bool) → has_level level x ≡ b → (mark_of level (next_place place x) es ≡ Some mark → IsMarked level (next_place place x) es mark) →
        option_or (cond b (Some (with place x)) None) (mark_of level (next_place place x) es) ≡ Some mark → IsMarked level place (x ∷ es) mark
    by true on rest is =
        let same : with place x ≡ mark = some_injective (with place x) mark is in
        let here : place ≡ place + 0 = omega arith in
        record {
          number = 0;
          entry = x;
          there = refl;
          has = on;
          first = λ j y lt at. absurd (omega (arith, lt));
          place_is = ap (λ (m : Mark). m.place) (sym same) ∙ here;
          failed = ap (λ (m : Mark). m.failed) (sym same);
        }
    by false off rest is =
        let r = rest is in
        record {
          number = suc r.number;
          entry = r.entry;
          there = r.there;
          has = r.has;
          first = first-of r off;
          place_is = r.place_is ∙ counted place x (filter (λ (e : ClauseEntry). e.live) (take r.number es)) x.live;
          failed = r.failed;
        }

-- where no entry is marked, none has the level
pub unmarked : (level place : ℕ) (es : List ClauseEntry) → mark_of level place es ≡ None → (k : ℕ) (y : ClauseEntry) → slice_get es k ≡ Some y → ¬ (has_level level y ≡ true)
unmarked level place [] e k y at = none_is_some y at
unmarked level place (x ∷ es) e k y at = by (has_level level x) refl (unmarked level (next_place place x) es) e k at
  where
    by : (b : Bool) → has_level level x ≡ b →
        (mark_of level (next_place place x) es ≡ None → (k : ℕ) (y : ClauseEntry) → slice_get es k ≡ Some y → ¬ (has_level level y ≡ true)) →
        option_or (cond b (Some (with place x)) None) (mark_of level (next_place place x) es) ≡ None → (k : ℕ) → slice_get (x ∷ es) k ≡ Some y → ¬ (has_level level y ≡ true)
    by true on rest is k at = none_is_some (with place x) (sym is)
    by false off rest is zero at = λ t. true≢false (sym t ∙ ap (has_level level) (sym (some_injective x y at)) ∙ off)
    by false off rest is (suc k) at = rest is k y at

-- marks as one more entry is looked at
module _ (es : List ClauseEntry) (i : ℕ) (e : ClauseEntry) (there : slice_get es i ≡ Some e) (place next : ℕ) (next_is : next ≡ next_place place e) (old new : List (Option Mark)) (count : length new ≡ length old)
    (changed : (k : ℕ) (mark : Option Mark) → slice_get old k ≡ Some mark → slice_get new k ≡ Some (option_or mark (own_mark (k + 1) place e)))
    (kept : (k : ℕ) (mark : Option Mark) → slice_get old k ≡ Some mark → option_or mark (mark_of (k + 1) place (drop i es)) ≡ mark_of (k + 1) 0 es) where
  pub marks-more : (k : ℕ) (mark : Option Mark) → slice_get new k ≡ Some mark → option_or mark (mark_of (k + 1) next (drop (i + 1) es)) ≡ mark_of (k + 1) 0 es
  marks-more k mark at =
      let lt : k < length old = omega (arith, get-lt new k mark at, count) in
      let x = get_or old k None in
      let was : slice_get old k ≡ Some x = slice_get-get_or old k None lt in
      let own = own_mark (k + 1) place e in
      let is : option_or x own ≡ mark = some_injective (option_or x own) mark (sym (changed k x was) ∙ at) in
      ap (λ m. option_or m (mark_of (k + 1) next (drop (i + 1) es))) (sym is)
      ∙ mark-assoc x own (mark_of (k + 1) next (drop (i + 1) es))
      ∙ ap (λ n. option_or x (option_or own (mark_of (k + 1) n (drop (i + 1) es)))) next_is
      ∙ ap (option_or x) (sym (mark-next (k + 1) place es i e there))
      ∙ kept k x was

-- past all entries nothing is marked
past-none : (level place : ℕ) (es : List ClauseEntry) (i : ℕ) → length es ≤ i → mark_of level place (drop i es) ≡ None
past-none level place [] zero le = refl
past-none level place [] (suc i) le = refl
past-none level place (e ∷ es) zero le = absurd (omega (arith, le))
past-none level place (e ∷ es) (suc i) le = past-none level place es i (omega (arith, le))

or-none : (mark : Option Mark) → option_or mark None ≡ mark
or-none None = refl
or-none (Some m) = refl

pub marks-end : (es : List ClauseEntry) (i place : ℕ) (marks : List (Option Mark)) (n : ℕ) → length es ≤ i → length marks ≡ n →
    ((k : ℕ) (mark : Option Mark) → slice_get marks k ≡ Some mark → option_or mark (mark_of (k + 1) place (drop i es)) ≡ mark_of (k + 1) 0 es) → AreMarks n es marks
marks-end es i place marks n le count kept = record {
  one_each = count;
  each = λ k mark at. sym (ap (option_or mark) (past-none (k + 1) place es i le) ∙ or-none mark) ∙ kept k mark at;
}

-- one more leave
pub pairs-next : {X Y : Type 0} (xs : List X) (ys : List Y) (R : ℕ → X → Y → Type 0) (k : ℕ) (x : X) (y : Y) → Pairs (take k xs) ys R → slice_get xs k ≡ Some x → R k x y → Pairs (take (suc k) xs) (ys ++ y ∷ []) R
pairs-next [] ys R k x y h at r = none_is_some x at
pairs-next (a ∷ xs) [] R zero x y h at r = (subst (λ z. R 0 z y) (sym (some_injective a x at)) r, tt)
pairs-next (a ∷ xs) (b ∷ ys) R zero x y h at r = absurd h
pairs-next (a ∷ xs) [] R (suc k) x y h at r = absurd h
pairs-next (a ∷ xs) (b ∷ ys) R (suc k) x y h at r = (h.0, pairs-next xs ys (λ j. R (suc j)) k x y h.1 at r)

pub leaves-next : {X Y : Type 0} (xs : List X) (ys zs : List Y) (R : ℕ → X → Y → Type 0) (k : ℕ) (x : X) (y : Y) → Pairs (take k xs) ys R → slice_get xs k ≡ Some x → R k x y → zs ≡ ys ++ y ∷ [] → Pairs (take (k + 1) xs) zs R
leaves-next xs ys zs R k x y h at r is =
    let one : suc k ≡ k + 1 = omega arith in
    subst (λ n. Pairs (take n xs) zs R) one (subst (λ ws. Pairs (take (suc k) xs) ws R) (sym is) (pairs-next xs ys R k x y h at r))

-- the leaves of the marks
pub leaves-by : (history : List Event) (s : State) (marks : List (Option Mark)) (leaves : List Leave) → AreMarks s.clauses.frontier s.clauses.items marks →
    Pairs marks leaves (λ k mark leave. IsLeaveBy history (k + 1) mark leave) → AreLeavesBy history s leaves
leaves-by history s marks leaves are h = record {
  one_each = sym (pairs-length marks leaves (λ k mark leave. IsLeaveBy history (k + 1) mark leave) h) ∙ are.one_each;
  each = λ k leave at.
      let q = pairs-left marks leaves (λ k mark leave. IsLeaveBy history (k + 1) mark leave) h k leave at in
      subst (λ m. IsLeaveBy history (k + 1) m leave) (are.each k q.0 q.1) q.2;
}

pub marks-can : (history : List Event) (s : State) (marks : List (Option Mark)) → AreMarks s.clauses.frontier s.clauses.items marks → CanTellLeaves history s →
    (k : ℕ) (mark : Option Mark) → slice_get marks k ≡ Some mark → HasLeave history mark
marks-can history s marks are can k mark at = subst (HasLeave history) (sym (are.each k mark at)) (can k (omega (arith, get-lt marks k mark at, are.one_each)))

-- Clauses and obligations are no more than productive events, which are within the limit.
use Rattle.std.proofs.Common.{◌≡◌, ℕ, zero, suc, ◌<◌, ◌≤◌, Bool, true, false, List, [], ◌∷◌, ◌++◌, length, Option, None, Some, refl, sym, ap, subst, ◌∙◌, arith}
use Rattle.fo_core.specs.declared.system.System.{System}
use Rattle.up_machine.specs.declared.event.Event.{Event}
use Rattle.up_machine.specs.declared.event.Event.TheVariants as E
use Rattle.up_machine.specs.declared.event.Origin.TheVariants as O
use Rattle.up_machine.specs.declared.limits.Limits.{Limits}
use Rattle.up_machine.specs.Legal.{IsLegal, Legal}
use Rattle.up_machine.specs.Machine.{Clause, Ready, Done, Obligation, Given, Work, Push, Machine, start}
use Rattle.up_machine.specs.Replay.{change_at, raised, retired, with_status, set_status, wake, finish, parent_of, clauses_after, obligations_after, frontier_after, job_of_event, is_productive, count_if, happens, replay}
use Rattle.up_machine.proofs.Histories.{along}

pub length-push : {X : Type 0} (xs : List X) (x : X) → length (xs ++ x ∷ []) ≡ suc (length xs)
length-push [] x = refl
length-push (y ∷ ys) x = ap suc (length-push ys x)

pub length-change : {X : Type 0} (k : ℕ) (f : X → X) (xs : List X) → length (change_at k f xs) ≡ length xs
length-change k f [] = refl
length-change zero f (x ∷ xs) = refl
length-change (suc k) f (x ∷ xs) = ap suc (length-change k f xs)

length-wake : (p : Option ℕ) (os : List Obligation) → length (wake p os) ≡ length os
length-wake None os = refl
length-wake (Some p) os = length-change p (with_status Ready) os

length-finish : (k : ℕ) (os : List Obligation) → length (finish k os) ≡ length os
length-finish k os = length-wake (parent_of os k) (set_status Done k os) ∙ length-change k (with_status Done) os

no_more : (b : Bool) (n : ℕ) → n ≤ count_if b n
no_more true n = omega arith
no_more false n = omega arith

same_more : (b : Bool) (n p : ℕ) → p ≡ n → p ≤ count_if b n
same_more b n p e = subst (λ x. x ≤ count_if b n) (sym e) (no_more b n)

clauses_low : (e : Event) (job : Option Given) (cs : List Clause) → length (clauses_after e job cs) ≤ count_if (is_productive e) (length cs)
clauses_low (E.Learn w cube) (Some (Work k level below world)) cs = omega (arith, length-push cs (record { cube = cube; level = level; live = true }))
clauses_low (E.Raise w) (Some (Push k level cubes cube)) cs = same_more true _ _ (length-change k raised cs)
clauses_low (E.Retire w gone by) job cs = same_more false _ _ (length-change gone retired cs)
clauses_low e job cs = no_more (is_productive e) (length cs)

obligations_low : (e : Event) (job : Option Given) (n : ℕ) (os : List Obligation) → length (obligations_after e job n os) ≤ count_if (is_productive e) (length os)
obligations_low (E.Seed w s) job n os = omega (arith, length-push os (record { level = n; world = s; parent = None; status = Ready }))
obligations_low (E.Take w j) (Some (Work k level below world)) n os = same_more false _ _ (length-change k _ os)
obligations_low (E.Return w why) (Some (Work k level below world)) n os = same_more false _ _ (length-change k _ os)
obligations_low (E.Learn w cube) (Some (Work k level below world)) n os = same_more true _ _ (length-finish k os)
obligations_low (E.Drop w c) (Some (Work k level below world)) n os = same_more true _ _ (length-finish k os)
obligations_low (E.Before w (O.Initial u)) (Some (Work k level below world)) n os = same_more true _ _ (length-change k _ os)
obligations_low (E.Before w (O.Step p)) (Some (Work k level below world)) n os =
    subst (λ x. x ≤ suc (length os)) (sym (length-push (set_status _ k os) _ ∙ ap suc (length-change k _ os))) (omega arith)
obligations_low e job n os = no_more (is_productive e) (length os)

frontier_low : (e : Event) (n : ℕ) → frontier_after e n ≤ count_if (is_productive e) n
frontier_low (E.Advance w) n = omega arith
frontier_low e n = no_more (is_productive e) n

further : (b : Bool) (a n p : ℕ) → a ≤ count_if b n → n ≤ suc p → a ≤ suc (count_if b p)
further true a n p le low = omega (arith, le, low)
further false a n p le low = omega (arith, le, low)

-- what grows with productive events alone stays below their number
grown : (b : Bool) (a n p : ℕ) → a ≤ count_if b n → n ≤ p → a ≤ count_if b p
grown true a n p le low = omega (arith, le, low)
grown false a n p le low = omega (arith, le, low)

paid : (b : Bool) (p steps : ℕ) → (b ≡ true → p < steps) → p ≤ steps → count_if b p ≤ steps
paid true p steps can le = can refl
paid false p steps can le = le

pub record AreFew (limits : Limits) (m : Machine) : Type 0 where
  pub clauses : length m.clauses ≤ m.productive
  pub obligations : length m.obligations ≤ m.productive
  pub frontier : m.frontier ≤ suc m.productive
  pub steps : m.productive ≤ limits.steps

event_few : (sys : System) (limits : Limits) (m : Machine) (e : Event) → AreFew limits m → IsLegal sys limits m e → AreFew limits (happens m e)
event_few sys limits m e few legal = record {
  clauses = grown (is_productive e) _ (length m.clauses) m.productive (clauses_low e (job_of_event m e) m.clauses) few.clauses;
  obligations = grown (is_productive e) _ (length m.obligations) m.productive (obligations_low e (job_of_event m e) m.frontier m.obligations) few.obligations;
  frontier = further (is_productive e) (frontier_after e m.frontier) m.frontier m.productive (frontier_low e m.frontier) few.frontier;
  steps = paid (is_productive e) m.productive limits.steps legal.affordable few.steps;
}

pub history_few : (sys : System) (limits : Limits) (history : List Event) → Legal sys limits history → AreFew limits (replay history)
history_few sys limits history legal =
    along sys limits (AreFew limits) (λ m e few legal. event_few sys limits m e few legal) start history
    (record { clauses = omega arith; obligations = omega arith; frontier = omega arith; steps = omega arith }) legal

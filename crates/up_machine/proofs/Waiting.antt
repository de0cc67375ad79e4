-- Waiting obligations have unfinished children, and those that are out were so before.
use Rattle.std.proofs.Common.{◌≡◌, ℕ, zero, suc, ◌≤◌, ◌<◌, Bool, true, false, cond, not, ◌&&◌, nat_eq, inl, inr, List, [], ◌∷◌, ◌++◌, length, filter, map, Option, None, Some, slice_get, refl, sym, ap, subst, ◌∙◌, arith, true≢false}
use Rattle.std.specs.Prelude.{◌≢◌}
use Rattle.fo_core.specs.declared.world.World.{World}
use Rattle.up_machine.specs.Machine.{Status, Ready, Out, Waiting, Done, Rooted, Obligation, is_done, is_seed, is_done_seed, is_unfinished_seed}
use Rattle.up_machine.specs.Replay.{with_status, set_status, parent_of, wake, finish, first_status}
use Rattle.up_machine.specs.Sound.{Each, IsUnfinished}
use Rattle.up_machine.proofs.Levels.{parent_is}
use Rattle.up_machine.proofs.Lists.{some_injective, none_is_some, get-append, get-push, IsPushed, get-here, get-change, get-changed, IsChanged, two_places}

abbrev code : Status → ℕ
code Ready = 0
code Out = 1
code Waiting = 2
code Done = 3
code (Rooted u) = 4

pub differ : (a b : Status) → ¬ (code a ≡ code b) → ¬ (a ≡ b)
differ a b n e = n (ap code e)

pub get-last : {X : Type 0} (xs : List X) (y : X) → slice_get (xs ++ y ∷ []) (length xs) ≡ Some y
get-last [] y = refl
get-last (x ∷ xs) y = get-last xs y

pub record HasOpenChild (os : List Obligation) (k : ℕ) : Type 0 where
  pub place : ℕ
  pub child : Obligation
  pub there : slice_get os place ≡ Some child
  pub parent : child.parent ≡ Some k
  pub unfinished : IsUnfinished child

-- each waiting obligation has an unfinished child
abbrev pub WaitsFor : List Obligation → Type 0
WaitsFor os = Each os (λ k o. o.status ≡ Waiting → HasOpenChild os k)

-- one that is out was so before, and isn't the one at this place
pub record WasOut (os : List Obligation) (k q : ℕ) : Type 0 where
  pub old : Obligation
  pub there : slice_get os q ≡ Some old
  pub out : old.status ≡ Out
  pub other : ¬ (k ≡ q)

abbrev pub OutsWere : List Obligation → ℕ → List Obligation → Type 0
OutsWere os k ps = (q : ℕ) (o : Obligation) → slice_get ps q ≡ Some o → o.status ≡ Out → WasOut os k q

-- where a place got another status, what has this one is at another place
not_here : (s t : Status) (k q : ℕ) (os : List Obligation) (x o : Obligation) → ¬ (s ≡ t) → slice_get os q ≡ Some x → slice_get (set_status s k os) q ≡ Some o → o.status ≡ t → ¬ (k ≡ q)
not_here s t k q os x o n there now is same =
    let here = get-here k (with_status s) os x (subst (λ i. slice_get os i ≡ Some x) (sym same) there) in
    let one : with_status s x ≡ o = two_places (set_status s k os) q (with_status s x) o (subst (λ i. slice_get (set_status s k os) i ≡ Some (with_status s x)) same here) now in
    n (ap (λ (y : Obligation). y.status) one ∙ is)

pub out_before : (s : Status) (k : ℕ) (os : List Obligation) → ¬ (s ≡ Out) → OutsWere os k (set_status s k os)
out_before s k os n q o e out = let r = get-changed k (with_status s) os q o e in by r.0 r.1 r.2
  where
    by : (x : Obligation) → slice_get os q ≡ Some x → IsChanged k (with_status s) q x o → WasOut os k q
    by x there (inl h) = absurd (n (ap (λ (y : Obligation). y.status) h.1 ∙ out))
    by x there (inr h) = record { old = x; there = there; out = ap (λ (y : Obligation). y.status) h ∙ out; other = not_here s Out k q os x o n there e out }

pub out_finish : (k : ℕ) (os : List Obligation) → OutsWere os k (finish k os)
out_finish k os = by (parent_of os k)
  where
    done : ¬ (Done ≡ Out)
    done = differ Done Out (λ e. omega (arith, e))

    by : (p : Option ℕ) → OutsWere os k (wake p (set_status Done k os))
    by None q o e out = out_before Done k os done q o e out
    by (Some p) q o e out =
        let r = out_before Ready p (set_status Done k os) (differ Ready Out (λ h. omega (arith, h))) q o e out in
        out_before Done k os done q r.old r.there r.out

pub out_push : (os ps : List Obligation) (k : ℕ) (x : Obligation) → ¬ (x.status ≡ Out) → OutsWere os k ps → OutsWere os k (ps ++ x ∷ [])
out_push os ps k x n h q o e out = by (get-push ps x q o e)
  where
    by : IsPushed ps x q o → WasOut os k q
    by (inl there) = h q o there out
    by (inr new) = absurd (n (ap (λ (y : Obligation). y.status) new.1 ∙ out))

-- a child stays one, and unfinished, where a status changes to another than Done
child_stays : (s : Status) (k : ℕ) (os : List Obligation) (q : ℕ) → ¬ (s ≡ Done) → HasOpenChild os q → HasOpenChild (set_status s k os) q
child_stays s k os q n h = let r = get-change k (with_status s) os h.place h.child h.there in by r.0 r.1 r.2
  where
    by : (b : Obligation) → slice_get (set_status s k os) h.place ≡ Some b → IsChanged k (with_status s) h.place h.child b → HasOpenChild (set_status s k os) q
    by b there (inl g) = record { place = h.place; child = b; there = there; parent = sym (ap (λ (y : Obligation). y.parent) g.1) ∙ h.parent; unfinished = λ d. n (ap (λ (y : Obligation). y.status) g.1 ∙ d) }
    by b there (inr g) = record { place = h.place; child = b; there = there; parent = sym (ap (λ (y : Obligation). y.parent) g) ∙ h.parent; unfinished = subst IsUnfinished g h.unfinished }

pub waits_status : (s : Status) (k : ℕ) (os : List Obligation) → ¬ (s ≡ Waiting) → ¬ (s ≡ Done) → WaitsFor os → WaitsFor (set_status s k os)
waits_status s k os not_waiting not_done hs q o e waits = let r = get-changed k (with_status s) os q o e in by r.0 r.1 r.2
  where
    by : (x : Obligation) → slice_get os q ≡ Some x → IsChanged k (with_status s) q x o → HasOpenChild (set_status s k os) q
    by x there (inl h) = absurd (not_waiting (ap (λ (y : Obligation). y.status) h.1 ∙ waits))
    by x there (inr h) = child_stays s k os q not_done (hs q x there (ap (λ (y : Obligation). y.status) h ∙ waits))

child_push : (os : List Obligation) (x : Obligation) (q : ℕ) → HasOpenChild os q → HasOpenChild (os ++ x ∷ []) q
child_push os x q h = record { place = h.place; child = h.child; there = get-append os (x ∷ []) h.place h.child h.there; parent = h.parent; unfinished = h.unfinished }

pub waits_push : (os : List Obligation) (x : Obligation) → ¬ (x.status ≡ Waiting) → WaitsFor os → WaitsFor (os ++ x ∷ [])
waits_push os x n hs q o e waits = by (get-push os x q o e)
  where
    by : IsPushed os x q o → HasOpenChild (os ++ x ∷ []) q
    by (inl there) = child_push os x q (hs q o there waits)
    by (inr new) = absurd (n (ap (λ (y : Obligation). y.status) new.1 ∙ waits))

-- one that finishes is no more a child, but its parent waits no more either
pub waits_finish : (k : ℕ) (os : List Obligation) (old : Obligation) → slice_get os k ≡ Some old → WaitsFor os → WaitsFor (finish k os)
waits_finish k os old there hs = subst (λ p. WaitsFor (wake p (set_status Done k os))) (sym (parent_is os k old there)) (by old.parent refl)
  where
    -- the child of another parent isn't the one that finishes
    child_other : (q : ℕ) → ¬ (old.parent ≡ Some q) → HasOpenChild os q → HasOpenChild (set_status Done k os) q
    child_other q other h = let r = get-change k (with_status Done) os h.place h.child h.there in at r.0 r.1 r.2
      where
        at : (b : Obligation) → slice_get (set_status Done k os) h.place ≡ Some b → IsChanged k (with_status Done) h.place h.child b → HasOpenChild (set_status Done k os) q
        at b now (inl g) =
            let same : h.child ≡ old = two_places os h.place h.child old h.there (subst (λ i. slice_get os i ≡ Some old) g.0 there) in
            absurd (other (sym (ap (λ (y : Obligation). y.parent) same) ∙ h.parent))
        at b now (inr g) = record { place = h.place; child = b; there = now; parent = sym (ap (λ (y : Obligation). y.parent) g) ∙ h.parent; unfinished = subst IsUnfinished g h.unfinished }

    after_done : (q : ℕ) (o : Obligation) → slice_get (set_status Done k os) q ≡ Some o → o.status ≡ Waiting → ¬ (old.parent ≡ Some q) → HasOpenChild (set_status Done k os) q
    after_done q o e waits other = let r = get-changed k (with_status Done) os q o e in at r.0 r.1 r.2
      where
        at : (x : Obligation) → slice_get os q ≡ Some x → IsChanged k (with_status Done) q x o → HasOpenChild (set_status Done k os) q
        at x here (inl h) = absurd (differ Done Waiting (λ d. omega (arith, d)) (ap (λ (y : Obligation). y.status) h.1 ∙ waits))
        at x here (inr h) = child_other q other (hs q x here (ap (λ (y : Obligation). y.status) h ∙ waits))

    by : (p : Option ℕ) → old.parent ≡ p → WaitsFor (wake p (set_status Done k os))
    by None is q o e waits = after_done q o e waits (λ h. none_is_some q (sym is ∙ h))
    by (Some p) is q o e waits = let r = get-changed p (with_status Ready) (set_status Done k os) q o e in at r.0 r.1 r.2
      where
        woken : ¬ (Ready ≡ Waiting)
        woken = differ Ready Waiting (λ d. omega (arith, d))

        at : (x : Obligation) → slice_get (set_status Done k os) q ≡ Some x → IsChanged p (with_status Ready) q x o → HasOpenChild (set_status Ready p (set_status Done k os)) q
        at x here (inl h) = absurd (woken (ap (λ (y : Obligation). y.status) h.1 ∙ waits))
        at x here (inr h) =
            let apart = not_here Ready Waiting p q (set_status Done k os) x o woken here e waits in
            child_stays Ready p (set_status Done k os) q (differ Ready Done (λ d. omega (arith, d)))
            (after_done q x here (ap (λ (y : Obligation). y.status) h ∙ waits) (λ g. apart (some_injective p q (sym is ∙ g))))

-- what comes before an obligation is the child for which it waits
pub waits_precede : (k level : ℕ) (os : List Obligation) (w : World) (n : ℕ) → WaitsFor os → WaitsFor (set_status Waiting k os ++ record { level = n; world = w; parent = Some k; status = first_status level w } ∷ [])
waits_precede k level os w n hs q o e waits = by (get-push (set_status Waiting k os) _ q o e)
  where
    first_not : (i : ℕ) (t : Status) → ¬ (Ready ≡ t) → ¬ (Rooted w ≡ t) → ¬ (first_status i w ≡ t)
    first_not zero t a b = b
    first_not (suc zero) t a b = b
    first_not (suc (suc i)) t a b = a

    at : (x : Obligation) → slice_get os q ≡ Some x → IsChanged k (with_status Waiting) q x o → HasOpenChild (set_status Waiting k os ++ record { level = n; world = w; parent = Some k; status = first_status level w } ∷ []) q
    at x there (inl h) = record {
      place = length (set_status Waiting k os);
      child = record { level = n; world = w; parent = Some k; status = first_status level w };
      there = get-last (set_status Waiting k os) (record { level = n; world = w; parent = Some k; status = first_status level w });
      parent = ap Some h.0;
      unfinished = first_not level Done (differ Ready Done (λ d. omega (arith, d))) (differ (Rooted w) Done (λ d. omega (arith, d)));
    }
    at x there (inr h) =
        child_push (set_status Waiting k os) _ q
        (child_stays Waiting k os q (differ Waiting Done (λ d. omega (arith, d))) (hs q x there (ap (λ (y : Obligation). y.status) h ∙ waits)))

    by : IsPushed (set_status Waiting k os) (record { level = n; world = w; parent = Some k; status = first_status level w }) q o → HasOpenChild (set_status Waiting k os ++ record { level = n; world = w; parent = Some k; status = first_status level w } ∷ []) q
    by (inl there) = let r = get-changed k (with_status Waiting) os q o there in at r.0 r.1 r.2
    by (inr is) =
        absurd (first_not level Waiting (differ Ready Waiting (λ d. omega (arith, d))) (differ (Rooted w) Waiting (λ d. omega (arith, d))) (ap (λ (y : Obligation). y.status) is.1 ∙ waits))

pub first_not_out : (i : ℕ) (w : World) → ¬ (first_status i w ≡ Out)
first_not_out zero w = differ (Rooted w) Out (λ d. omega (arith, d))
first_not_out (suc zero) w = differ (Rooted w) Out (λ d. omega (arith, d))
first_not_out (suc (suc i)) w = differ Ready Out (λ d. omega (arith, d))

-- how many seeds there are, and how many are done
abbrev pub seeds : List Obligation → ℕ
seeds os = length (filter is_seed os)

seed_more : (b : Bool) (x y : Obligation) (xs ys : List Obligation) → seeds xs ≡ seeds ys → length (cond b (x ∷ filter is_seed xs) (filter is_seed xs)) ≡ length (cond b (y ∷ filter is_seed ys) (filter is_seed ys))
seed_more true x y xs ys e = ap suc e
seed_more false x y xs ys e = e

pub seeds_status : (s : Status) (k : ℕ) (os : List Obligation) → seeds (set_status s k os) ≡ seeds os
seeds_status s k [] = refl
seeds_status s zero (x ∷ xs) = seed_more (is_seed x) (with_status s x) x xs xs refl
seeds_status s (suc k) (x ∷ xs) = seed_more (is_seed x) x x (set_status s k xs) xs (seeds_status s k xs)

pub seeds_finish : (k : ℕ) (os : List Obligation) → seeds (finish k os) ≡ seeds os
seeds_finish k os = by (parent_of os k)
  where
    by : (p : Option ℕ) → seeds (wake p (set_status Done k os)) ≡ seeds os
    by None = seeds_status Done k os
    by (Some p) = seeds_status Ready p (set_status Done k os) ∙ seeds_status Done k os

pub seeds_push : (os : List Obligation) (x : Obligation) → seeds os ≤ seeds (os ++ x ∷ [])
seeds_push [] x = omega arith
seeds_push (y ∷ ys) x = step (is_seed y) (seeds_push ys x)
  where
    step : (b : Bool) → seeds ys ≤ seeds (ys ++ x ∷ []) → length (cond b (y ∷ filter is_seed ys) (filter is_seed ys)) ≤ length (cond b (y ∷ filter is_seed (ys ++ x ∷ [])) (filter is_seed (ys ++ x ∷ [])))
    step true le = omega (arith, le)
    step false le = le

abbrev dones : List Obligation → ℕ
dones os = length (filter is_done_seed os)

dones_low : (os : List Obligation) → dones os ≤ seeds os
dones_low [] = omega arith
dones_low (x ∷ xs) = step (is_seed x) (is_done x.status) (dones_low xs)
  where
    step : (a b : Bool) → dones xs ≤ seeds xs → length (cond (a && b) (x ∷ filter is_done_seed xs) (filter is_done_seed xs)) ≤ length (cond a (x ∷ filter is_seed xs) (filter is_seed xs))
    step true true le = omega (arith, le)
    step true false le = omega (arith, le)
    step false b le = le

-- where one is to be avoided, not all are done
pub avoided_not_done : (level : ℕ) (os : List Obligation) → map (λ (o : Obligation). o.world) (filter (λ o. is_unfinished_seed o && nat_eq o.level level) os) ≢ [] → dones os < seeds os
avoided_not_done level [] some = absurd (some refl)
avoided_not_done level (x ∷ xs) some = step (avoided_not_done level xs) (is_seed x) (is_done x.status) (nat_eq x.level level) some
  where
    step : (map (λ (o : Obligation). o.world) (filter (λ o. is_unfinished_seed o && nat_eq o.level level) xs) ≢ [] → dones xs < seeds xs) → (a b c : Bool) →
        map (λ (o : Obligation). o.world) (cond ((a && not b) && c) (x ∷ filter (λ o. is_unfinished_seed o && nat_eq o.level level) xs) (filter (λ o. is_unfinished_seed o && nat_eq o.level level) xs)) ≢ [] →
        length (cond (a && b) (x ∷ filter is_done_seed xs) (filter is_done_seed xs)) < length (cond a (x ∷ filter is_seed xs) (filter is_seed xs))
    step rest true true c some = let le = rest some in omega (arith, le)
    step rest true false c some = let le = dones_low xs in omega (arith, le)
    step rest false b c some = rest some

-- where all obligations are done, all seeds are
pub all_done : (os : List Obligation) → Each os (λ k o. o.status ≡ Done) → (dones os ≡ seeds os) × (length (filter is_unfinished_seed os) ≡ 0)
all_done [] h = (refl, refl)
all_done (x ∷ xs) h = step (is_seed x) (is_done x.status) (ap is_done (h 0 x refl)) (all_done xs (λ k o e. h (suc k) o e))
  where
    step : (a b : Bool) → b ≡ true → (dones xs ≡ seeds xs) × (length (filter is_unfinished_seed xs) ≡ 0) →
        (length (cond (a && b) (x ∷ filter is_done_seed xs) (filter is_done_seed xs)) ≡ length (cond a (x ∷ filter is_seed xs) (filter is_seed xs)))
        × (length (cond (a && not b) (x ∷ filter is_unfinished_seed xs) (filter is_unfinished_seed xs)) ≡ 0)
    step true true e r = (ap suc r.0, r.1)
    step true false e r = absurd (true≢false (sym e))
    step false b e r = r

-- The levels of obligations.
use Rattle.std.proofs.Common.{◌≡◌, ℕ, ◌≤◌, Bool, true, false, inl, inr, List, [], ◌∷◌, ◌++◌, Option, None, Some, slice_get, refl, sym, ap, subst, ◌∙◌, arith, true≢false}
use Rattle.std.specs.Option.{option_and_then}
use Rattle.fo_core.specs.declared.world.World.{World}
use Rattle.up_machine.specs.Machine.{Status, Ready, Out, Waiting, Done, Rooted, Obligation}
use Rattle.up_machine.specs.Replay.{with_status, set_status, parent_of, wake, finish}
use Rattle.up_machine.specs.Sound.{Each, IsBelow, IsSoundLevel}
use Rattle.up_machine.proofs.Lists.{some_injective, get-append, get-push, IsPushed, get-change, get-changed, IsChanged}

-- an obligation that stays, but for its status
pub record StaysAt (ps : List Obligation) (k : ℕ) (o : Obligation) : Type 0 where
  pub now : Obligation
  pub there : slice_get ps k ≡ Some now
  pub level : now.level ≡ o.level
  pub world : now.world ≡ o.world
  pub parent : now.parent ≡ o.parent

abbrev pub Stays : List Obligation → List Obligation → Type 0
Stays os ps = Each os (StaysAt ps)

pub same_stays : (os : List Obligation) → Stays os os
same_stays os k o e = record { now = o; there = e; level = refl; world = refl; parent = refl }

pub stays_more : (os ps qs : List Obligation) → Stays os ps → Stays ps qs → Stays os qs
stays_more os ps qs g h k o e =
    let a = g k o e in
    let b = h k a.now a.there in
    record { now = b.now; there = b.there; level = b.level ∙ a.level; world = b.world ∙ a.world; parent = b.parent ∙ a.parent }

pub pushed_stays : (os : List Obligation) (n : Obligation) → Stays os (os ++ n ∷ [])
pushed_stays os n k o e = record { now = o; there = get-append os (n ∷ []) k o e; level = refl; world = refl; parent = refl }

pub status_stays : (s : Status) (j : ℕ) (os : List Obligation) → Stays os (set_status s j os)
status_stays s j os k o e = let r = get-change j (with_status s) os k o e in by r.0 r.1 r.2
  where
    by : (p : Obligation) → slice_get (set_status s j os) k ≡ Some p → IsChanged j (with_status s) k o p → StaysAt (set_status s j os) k o
    by p there (inl h) = record {
      now = p;
      there = there;
      level = sym (ap (λ (x : Obligation). x.level) h.1);
      world = sym (ap (λ (x : Obligation). x.world) h.1);
      parent = sym (ap (λ (x : Obligation). x.parent) h.1);
    }
    by p there (inr h) = record {
      now = p;
      there = there;
      level = sym (ap (λ (x : Obligation). x.level) h);
      world = sym (ap (λ (x : Obligation). x.world) h);
      parent = sym (ap (λ (x : Obligation). x.parent) h);
    }

abbrev pub Levels : ℕ → List Obligation → Type 0
Levels n os = Each os (λ k o. IsSoundLevel n os o)

below_stays : (os ps : List Obligation) (o : Obligation) → Stays os ps → (p : Option ℕ) → IsBelow os o p → IsBelow ps o p
below_stays os ps o g None h = tt
below_stays os ps o g (Some p) h = let r = g p h.0 h.1 in (r.now, r.there, h.2 ∙ sym r.level)

level_stays : (n : ℕ) (os ps : List Obligation) (o : Obligation) → Stays os ps → IsSoundLevel n os o → IsSoundLevel n ps o
level_stays n os ps o g h = record { high = h.high; ready = h.ready; below = below_stays os ps o g o.parent h.below }

pub levels_push : (n : ℕ) (os : List Obligation) (x : Obligation) → Levels n os → IsSoundLevel n os x → Levels n (os ++ x ∷ [])
levels_push n os x hs h k o e = by_place (get-push os x k o e)
  where
    by_place : IsPushed os x k o → IsSoundLevel n (os ++ x ∷ []) o
    by_place (inl there) = level_stays n os (os ++ x ∷ []) o (pushed_stays os x) (hs k o there)
    by_place (inr new) = level_stays n os (os ++ x ∷ []) o (pushed_stays os x) (subst (IsSoundLevel n os) new.1 h)

pub levels_status : (n : ℕ) (s : Status) (j : ℕ) (os : List Obligation) → ((o : Obligation) → slice_get os j ≡ Some o → s ≡ Ready → 1 ≤ o.level) → Levels n os → Levels n (set_status s j os)
levels_status n s j os ok hs k o e = let r = get-changed j (with_status s) os k o e in by_place r.0 r.1 r.2
  where
    by_place : (x : Obligation) → slice_get os k ≡ Some x → IsChanged j (with_status s) k x o → IsSoundLevel n (set_status s j os) o
    by_place x there (inl h) =
        let old = hs k x there in
        let new : IsSoundLevel n (set_status s j os) (with_status s x) = record {
          high = old.high;
          ready = λ is. ok x (subst (λ i. slice_get os i ≡ Some x) (sym h.0) there) is;
          below = below_stays os (set_status s j os) x (status_stays s j os) x.parent old.below;
        } in
        subst (IsSoundLevel n (set_status s j os)) h.1 new
    by_place x there (inr h) = level_stays n os (set_status s j os) o (status_stays s j os) (subst (IsSoundLevel n os) h (hs k x there))

abbrev is_ready : Status → Bool
is_ready Ready = true
is_ready _ = false

pub out_not_ready : {A : Type 0} → Out ≡ Ready → A
out_not_ready e = absurd (true≢false (sym (ap is_ready e)))

pub waiting_not_ready : {A : Type 0} → Waiting ≡ Ready → A
waiting_not_ready e = absurd (true≢false (sym (ap is_ready e)))

done_not_ready : {A : Type 0} → Done ≡ Ready → A
done_not_ready e = absurd (true≢false (sym (ap is_ready e)))

pub rooted_not_ready : {A : Type 0} (u : World) → Rooted u ≡ Ready → A
rooted_not_ready u e = absurd (true≢false (sym (ap is_ready e)))

wake_levels : (n : ℕ) (os : List Obligation) (p : Option ℕ) → ((k : ℕ) (o : Obligation) → p ≡ Some k → slice_get os k ≡ Some o → 1 ≤ o.level) → Levels n os → Levels n (wake p os)
wake_levels n os None ok hs = hs
wake_levels n os (Some k) ok hs = levels_status n Ready k os (λ o e _. ok k o refl e) hs

wake_stays : (p : Option ℕ) (os : List Obligation) → Stays os (wake p os)
wake_stays None os = same_stays os
wake_stays (Some k) os = status_stays Ready k os

pub finish_stays : (k : ℕ) (os : List Obligation) → Stays os (finish k os)
finish_stays k os = stays_more os (set_status Done k os) (finish k os) (status_stays Done k os) (wake_stays (parent_of os k) (set_status Done k os))

pub parent_is : (os : List Obligation) (k : ℕ) (o : Obligation) → slice_get os k ≡ Some o → parent_of os k ≡ o.parent
parent_is os k o there = ap (λ x. option_and_then (λ (y : Obligation). y.parent) x) there

-- the parent that wakes is above the finished one
pub finish_levels : (n k : ℕ) (os : List Obligation) (o : Obligation) → slice_get os k ≡ Some o → Levels n os → Levels n (finish k os)
finish_levels n k os o there hs =
    wake_levels n (set_status Done k os) (parent_of os k) ok (levels_status n Done k os (λ _ _ e. done_not_ready e) hs)
  where
    ok : (p : ℕ) (q : Obligation) → parent_of os k ≡ Some p → slice_get (set_status Done k os) p ≡ Some q → 1 ≤ q.level
    ok p q is e =
        let below = subst (IsBelow os o) (sym (parent_is os k o there) ∙ is) (hs k o there).below in
        let stayed = status_stays Done k os p below.0 below.1 in
        let same : stayed.now ≡ q = some_injective stayed.now q (sym stayed.there ∙ e) in
        let level : q.level ≡ below.0.level = sym (ap (λ (x : Obligation). x.level) same) ∙ stayed.level in
        omega (arith, below.2, level)

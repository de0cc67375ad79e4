-- Unfinished obligations are trees, and stay so where a status changes.
use Rattle.std.proofs.Common.{◌≡◌, ℕ, Bool, true, inl, inr, List, [], ◌∷◌, ◌++◌, filter, Option, None, Some, slice_get, refl, sym, ap, subst, ◌∙◌, arith}
use Rattle.fo_core.specs.declared.world.World.{World}
use Rattle.up_machine.specs.declared.job.Job.TheVariants as J
use Rattle.up_machine.specs.Machine.{Status, Ready, Out, Waiting, Done, Rooted, Obligation, Given, Work, Look, Push, Trace, Held}
use Rattle.up_machine.specs.Replay.{with_status, set_status, wake, finish}
use Rattle.up_machine.specs.Due.{job_of}
use Rattle.up_machine.specs.Sound.{IsUnfinished, HasWaitingParent, HasParent, IsTree, IsOutAt, IsOutFor, AreWorked}
use Rattle.up_machine.proofs.Lists.{get-append, get-push, IsPushed, get-change, get-here, get-changed, IsChanged, get-filter, two_places}
use Rattle.up_machine.proofs.Levels.{parent_is}

abbrev number : Status → ℕ
number Ready = 0
number Out = 1
number Waiting = 2
number Done = 3
number (Rooted u) = 4

pub out_not_waiting : Out ≡ Waiting → ⊥
out_not_waiting e = let h : ◌≡◌ {A = ℕ} 1 2 = ap number e in omega arith

pub out_not_done : Out ≡ Done → ⊥
out_not_done e = let h : ◌≡◌ {A = ℕ} 1 3 = ap number e in omega arith

pub ready_not_out : Ready ≡ Out → ⊥
ready_not_out e = let h : ◌≡◌ {A = ℕ} 0 1 = ap number e in omega arith

pub ready_not_waiting : Ready ≡ Waiting → ⊥
ready_not_waiting e = let h : ◌≡◌ {A = ℕ} 0 2 = ap number e in omega arith

pub ready_not_done : Ready ≡ Done → ⊥
ready_not_done e = let h : ◌≡◌ {A = ℕ} 0 3 = ap number e in omega arith

pub rooted_not_done : (u : World) → Rooted u ≡ Done → ⊥
rooted_not_done u e = let h : ◌≡◌ {A = ℕ} 4 3 = ap number e in omega arith

pub waiting_not_done : Waiting ≡ Done → ⊥
waiting_not_done e = let h : ◌≡◌ {A = ℕ} 2 3 = ap number e in omega arith

pub waiting_not_out : Waiting ≡ Out → ⊥
waiting_not_out e = let h : ◌≡◌ {A = ℕ} 2 1 = ap number e in omega arith

-- an unfinished obligation as it was before a change of a status
pub record WasOpen (os : List Obligation) (i : ℕ) (a : Obligation) : Type 0 where
  pub old : Obligation
  pub there : slice_get os i ≡ Some old
  pub parent : old.parent ≡ a.parent
  pub level : old.level ≡ a.level
  pub unfinished : IsUnfinished old

module _ (n : ℕ) (os : List Obligation) where
  -- the status changes at a place that does not wait, and a finished one stays finished
  module _ (tree : IsTree n os) (k : ℕ) (old : Obligation) (there : slice_get os k ≡ Some old) (s : Status) (still : ¬ (old.status ≡ Waiting)) (done : ¬ (s ≡ Done) → IsUnfinished old) where
    waits : (p : ℕ) → HasWaitingParent os p → HasWaitingParent (set_status s k os) p
    waits p h = let x = get-change k (with_status s) os p h.parent h.there in record { parent = x.0; there = x.1; waits = at h.parent h.there h.waits x.0 x.2 }
      where
        at : (q : Obligation) → slice_get os p ≡ Some q → q.status ≡ Waiting → (r : Obligation) → IsChanged k (with_status s) p q r → r.status ≡ Waiting
        at q e w r (inl h) = absurd (still (subst (λ (x : Obligation). x.status ≡ Waiting) (two_places os p q old e (subst (λ i. slice_get os i ≡ Some old) h.0 there)) w))
        at q e w r (inr h) = subst (λ (x : Obligation). x.status ≡ Waiting) h w

    pub before : (i : ℕ) (a : Obligation) → slice_get (set_status s k os) i ≡ Some a → IsUnfinished a → WasOpen os i a
    before i a e u = let c = get-changed k (with_status s) os i a e in at c.0 c.1 c.2
      where
        at : (x : Obligation) → slice_get os i ≡ Some x → IsChanged k (with_status s) i x a → WasOpen os i a
        at x f (inl h) =
            let same : old ≡ x = two_places os i old x (subst (λ j. slice_get os j ≡ Some old) h.0 there) f in
            let open_s : ¬ (s ≡ Done) = λ d. u (sym (ap (λ (y : Obligation). y.status) h.1) ∙ d) in
            record { old = x; there = f; parent = ap (λ (y : Obligation). y.parent) h.1; level = ap (λ (y : Obligation). y.level) h.1; unfinished = subst IsUnfinished same (done open_s) }
        at x f (inr h) = record { old = x; there = f; parent = ap (λ (y : Obligation). y.parent) h; level = ap (λ (y : Obligation). y.level) h; unfinished = subst IsUnfinished (sym h) u }

    parent_waits : (x a : Obligation) → x.level ≡ a.level → (p : Option ℕ) → HasParent n os x p → HasParent n (set_status s k os) a p
    parent_waits x a e None h = sym e ∙ h
    parent_waits x a e (Some p) h = waits p h

    pub settled : IsTree n (set_status s k os)
    settled =
        record {
          parents = λ i a e u. let x = before i a e u in parent_waits x.old a x.level a.parent (subst (HasParent n os x.old) x.parent (tree.parents i x.old x.there x.unfinished));
          one_child = λ i j p a b e f ap bp ua ub.
              let x = before i a e ua in
              let y = before j b f ub in
              tree.one_child i j p x.old y.old x.there y.there (x.parent ∙ ap) (y.parent ∙ bp) x.unfinished y.unfinished;
        }

  -- a waiting one with no unfinished child is woken
  module _ (tree : IsTree n os) (k : ℕ) (childless : (i : ℕ) (a : Obligation) → slice_get os i ≡ Some a → a.parent ≡ Some k → ¬ IsUnfinished a) (open_one : (q : Obligation) → slice_get os k ≡ Some q → IsUnfinished q) where
    unwoken : (i : ℕ) (a : Obligation) → slice_get (set_status Ready k os) i ≡ Some a → IsUnfinished a → WasOpen os i a
    unwoken i a e u = let c = get-changed k (with_status Ready) os i a e in at c.0 c.1 c.2
      where
        at : (x : Obligation) → slice_get os i ≡ Some x → IsChanged k (with_status Ready) i x a → WasOpen os i a
        at x f (inl h) = record { old = x; there = f; parent = ap (λ (y : Obligation). y.parent) h.1; level = ap (λ (y : Obligation). y.level) h.1; unfinished = open_one x (subst (λ j. slice_get os j ≡ Some x) (sym h.0) f) }
        at x f (inr h) = record { old = x; there = f; parent = ap (λ (y : Obligation). y.parent) h; level = ap (λ (y : Obligation). y.level) h; unfinished = subst IsUnfinished (sym h) u }

    still_waits : (i : ℕ) (x a : Obligation) → slice_get os i ≡ Some x → IsUnfinished x → x.level ≡ a.level → (p : Option ℕ) → x.parent ≡ p → HasParent n os x p → HasParent n (set_status Ready k os) a p
    still_waits i x a f u e None is h = sym e ∙ h
    still_waits i x a f u e (Some p) is h = let c = get-change k (with_status Ready) os p h.parent h.there in record { parent = c.0; there = c.1; waits = at c.0 c.2 }
      where
        at : (r : Obligation) → IsChanged k (with_status Ready) p h.parent r → r.status ≡ Waiting
        at r (inl g) = absurd (childless i x f (is ∙ ap Some (sym g.0)) u)
        at r (inr g) = subst (λ (y : Obligation). y.status ≡ Waiting) g h.waits

    pub woken : IsTree n (set_status Ready k os)
    woken =
        record {
          parents = λ i a e u. let x = unwoken i a e u in still_waits i x.old a x.there x.unfinished x.level a.parent x.parent (subst (HasParent n os x.old) x.parent (tree.parents i x.old x.there x.unfinished));
          one_child = λ i j p a b e f ap bp ua ub.
              let x = unwoken i a e ua in
              let y = unwoken j b f ub in
              tree.one_child i j p x.old y.old x.there y.there (x.parent ∙ ap) (y.parent ∙ bp) x.unfinished y.unfinished;
        }

  -- a new one whose parent waits and has no unfinished child
  module _ (tree : IsTree n os) (new : Obligation) (parent : HasParent n os new new.parent) (only : (i k : ℕ) (a : Obligation) → slice_get os i ≡ Some a → a.parent ≡ Some k → new.parent ≡ Some k → ¬ IsUnfinished a) where
    parent_stays : (o : Obligation) (p : Option ℕ) → HasParent n os o p → HasParent n (os ++ new ∷ []) o p
    parent_stays o None h = h
    parent_stays o (Some p) h = record { parent = h.parent; there = get-append os (new ∷ []) p h.parent h.there; waits = h.waits }

    pub grown : IsTree n (os ++ new ∷ [])
    grown = record { parents = λ i o e u. parent_of_one o u (get-push os new i o e); one_child = λ i j p a b e f x y ua ub. same i j p a b x y ua ub (get-push os new i a e) (get-push os new j b f) }
      where
        parent_of_one : {i : ℕ} (o : Obligation) → IsUnfinished o → IsPushed os new i o → HasParent n (os ++ new ∷ []) o o.parent
        parent_of_one {i} o u (inl e) = parent_stays o o.parent (tree.parents i o e u)
        parent_of_one o u (inr e) = subst (λ (x : Obligation). HasParent n (os ++ new ∷ []) x x.parent) e.1 (parent_stays new new.parent parent)

        same : (i j p : ℕ) (a b : Obligation) → a.parent ≡ Some p → b.parent ≡ Some p → IsUnfinished a → IsUnfinished b → IsPushed os new i a → IsPushed os new j b → i ≡ j
        same i j p a b x y ua ub (inl e) (inl f) = tree.one_child i j p a b e f x y ua ub
        same i j p a b x y ua ub (inl e) (inr f) = absurd (only i p a e x (ap (λ (z : Obligation). z.parent) f.1 ∙ y) ua)
        same i j p a b x y ua ub (inr e) (inl f) = absurd (only j p b f y (ap (λ (z : Obligation). z.parent) e.1 ∙ x) ub)
        same i j p a b x y ua ub (inr e) (inr f) = e.0 ∙ sym f.0

  -- one that does not wait has no unfinished child
  pub no_child : IsTree n os → (k : ℕ) (old : Obligation) → slice_get os k ≡ Some old → ¬ (old.status ≡ Waiting) → (i : ℕ) (a : Obligation) → slice_get os i ≡ Some a → a.parent ≡ Some k → ¬ IsUnfinished a
  no_child tree k old there still i a e p u =
      let h = subst (HasParent n os a) p (tree.parents i a e u) in
      still (subst (λ (x : Obligation). x.status ≡ Waiting) (two_places os k h.parent old h.there there) h.waits)

-- one that is Out finishes, and its parent is woken
module _ (n : ℕ) (os : List Obligation) (tree : IsTree n os) (k : ℕ) (old : Obligation) (there : slice_get os k ≡ Some old) (out : old.status ≡ Out) where
  still : ¬ (old.status ≡ Waiting)
  still e = out_not_waiting (sym out ∙ e)

  open_old : IsUnfinished old
  open_old e = out_not_done (sym out ∙ e)

  after : IsTree n (set_status Done k os)
  after = settled n os tree k old there Done still (λ _. open_old)

  -- the parent has no other unfinished child
  childless : (p : ℕ) → old.parent ≡ Some p → (i : ℕ) (a : Obligation) → slice_get (set_status Done k os) i ≡ Some a → a.parent ≡ Some p → ¬ IsUnfinished a
  childless p is i a e q u =
      let x = before n os tree k old there Done still (λ _. open_old) i a e u in
      let same : i ≡ k = tree.one_child i k p x.old old x.there there (x.parent ∙ q) is x.unfinished open_old in
      let here = subst (λ j. slice_get (set_status Done k os) j ≡ Some a) same e in
      u (sym (ap (λ (y : Obligation). y.status) (two_places (set_status Done k os) k (with_status Done old) a (get-here k (with_status Done) os old there) here)))

  open_parent : (p : ℕ) → old.parent ≡ Some p → (q : Obligation) → slice_get (set_status Done k os) p ≡ Some q → IsUnfinished q
  open_parent p is q e d =
      let above = subst (HasParent n os old) is (tree.parents k old there open_old) in
      let now = waits n os tree k old there Done still (λ _. open_old) p above in
      waiting_not_done (sym now.waits ∙ ap (λ (y : Obligation). y.status) (two_places (set_status Done k os) p now.parent q now.there e) ∙ d)

  wake_by : (p : Option ℕ) → old.parent ≡ p → IsTree n (wake p (set_status Done k os))
  wake_by None is = after
  wake_by (Some p) is = woken n (set_status Done k os) after p (childless p is) (open_parent p is)

  pub finished : IsTree n (finish k os)
  finished = subst (λ x. IsTree n (wake x (set_status Done k os))) (sym (parent_is os k old there)) (wake_by old.parent refl)

-- the jobs that stay out, where a status changes that none of them works on
module _ (os : List Obligation) (js : List Held) (worked : AreWorked os js) (ps : List Obligation) (test : Held → Bool) where
  out_for : (g : Given) → ((k : ℕ) → job_of g ≡ J.Work k → IsOutAt os k → IsOutAt ps k) → IsOutFor os g → IsOutFor ps g
  out_for (Work k level below world) stays h = stays k refl h
  out_for (Look level cubes avoid done) stays h = tt
  out_for (Push k level cubes cube) stays h = tt
  out_for (Trace k steps) stays h = tt

  pub others_out : ((i k : ℕ) (h : Held) → slice_get js i ≡ Some h → test h ≡ true → job_of h.given ≡ J.Work k → IsOutAt os k → IsOutAt ps k) → AreWorked ps (filter test js)
  others_out stays =
      record {
        out = λ i h e. let x = get-filter test js i h e in out_for h.given (λ k is out. stays x.0 k h x.1 x.2 is out) (worked.out x.0 h x.1);
        one_work = λ i j k a b e f p q.
            let x = get-filter test js i a e in
            let y = get-filter test js j b f in
            worked.one_work x.0 y.0 k a b x.1 y.1 p q;
      }

-- one that is out stays so where the status changes at another place
pub out_stays : (os : List Obligation) (s : Status) (k j : ℕ) → IsOutAt os j → ¬ (k ≡ j) → IsOutAt (set_status s k os) j
out_stays os s k j h other = let c = get-change k (with_status s) os j h.obligation h.there in record { obligation = c.0; there = c.1; out = at c.0 c.2 }
  where
    at : (q : Obligation) → IsChanged k (with_status s) j h.obligation q → q.status ≡ Out
    at q (inl g) = absurd (other g.0)
    at q (inr g) = subst (λ (y : Obligation). y.status ≡ Out) g h.out

-- and where another obligation finishes, since a parent that wakes waits
pub out_finish : (n : ℕ) (os : List Obligation) → IsTree n os → (k : ℕ) (old : Obligation) → slice_get os k ≡ Some old → old.status ≡ Out → (j : ℕ) → IsOutAt os j → ¬ (k ≡ j) → IsOutAt (finish k os) j
out_finish n os tree k old there out j h other = subst (λ x. IsOutAt (wake x (set_status Done k os)) j) (sym (parent_is os k old there)) (by old.parent refl)
  where
    by : (p : Option ℕ) → old.parent ≡ p → IsOutAt (wake p (set_status Done k os)) j
    by None is = out_stays os Done k j h other
    by (Some p) is =
        let above = subst (HasParent n os old) is (tree.parents k old there (open_old n os tree k old there out)) in
        out_stays (set_status Done k os) Ready p j (out_stays os Done k j h other)
        (λ same. waiting_not_out (sym above.waits ∙ ap (λ (y : Obligation). y.status) (two_places os j above.parent h.obligation (subst (λ i. slice_get os i ≡ Some above.parent) same above.there) h.there) ∙ h.out))

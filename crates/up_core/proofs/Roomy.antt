-- Room for variables, kept by each event that brings no more than there is room for.
use Rattle.std.proofs.Common.{◌≡◌, ℕ, ◌≤◌, Bool, true, not, List, [], ◌∷◌, ◌++◌, length, filter, sum, nat_eq, Option, None, Some, refl, subst, inl, inr, arith}
use Rattle.fo_core.specs.declared.world.World.{World}
use Rattle.up_diagram.specs.declared.cube.Cube.{Cube}
use Rattle.up_machine.specs.declared.end.End.TheVariants as N
use Rattle.up_machine.specs.declared.event.Event.{Event}
use Rattle.up_machine.specs.declared.event.Event.TheVariants as E
use Rattle.up_machine.specs.declared.event.Origin.TheVariants as O
use Rattle.up_machine.specs.Machine.{Clause, Status, Ready, Out, Waiting, Done, Rooted, Obligation, Given, Work, Look, Push, Trace, Held, Machine, start}
use Rattle.up_machine.specs.Replay.{change_at, raised, retired, with_status, set_status, wake, finish, parent_of, clauses_after, obligations_after, jobs_after, released, worker_of, job_of_event, happens}
use Rattle.up_machine.specs.Sound.{Each}
use Rattle.up_machine.proofs.Lists.{Each-nil, get-push, IsPushed, get-changed, IsChanged, get-filter}
use Rattle.up_core.specs.Mirror.{cube_of}
use Rattle.up_core.specs.Room.{IsRoomyFor, IsRoomy, state_of}

each-push : {X : Type 0} (xs : List X) (x : X) (P : X → Type 0) → Each xs (λ k. P) → P x → Each (xs ++ x ∷ []) (λ k. P)
each-push xs x P h p k y e = by (get-push xs x k y e)
  where
    by : IsPushed xs x k y → P y
    by (inl old) = h k y old
    by (inr new) = subst P new.1 p

each-change : {X : Type 0} (j : ℕ) (f : X → X) (xs : List X) (P : X → Type 0) → ((x : X) → P x → P (f x)) → Each xs (λ k. P) → Each (change_at j f xs) (λ k. P)
each-change j f xs P keeps h k y e = let r = get-changed j f xs k y e in by r.0 (h k r.0 r.1) r.2
  where
    by : (x : _) → P x → IsChanged j f k x y → P y
    by x p (inl c) = subst P c.1 (keeps x p)
    by x p (inr same) = subst P same p

each-filter : {X : Type 0} (test : X → Bool) (xs : List X) (P : X → Type 0) → Each xs (λ k. P) → Each (filter test xs) (λ k. P)
each-filter test xs P h k y e = let r = get-filter test xs k y e in h r.0 y r.1

module _ (Q : Cube → Type 0) where
  abbrev HasCube : Clause → Type 0
  HasCube c = Q c.cube

  each-cube : (e : Event) (job : Option Given) (cs : List Clause) → ((cube : Cube) → cube_of e ≡ Some cube → Q cube) → Each cs (λ k. HasCube) → Each (clauses_after e job cs) (λ k. HasCube)
  each-cube (E.Learn w cube) (Some (Work k level below world)) cs new h = each-push cs (record { cube = cube; level = level; live = true }) HasCube h (new cube refl)
  each-cube (E.Raise w) (Some (Push k level cubes cube)) cs new h = each-change k raised cs HasCube (λ c q. q) h
  each-cube (E.Retire w gone by) job cs new h = each-change gone retired cs HasCube (λ c q. q) h
  each-cube e job cs new h = h

module _ (P : World → Type 0) where
  abbrev HasWorld : Obligation → Type 0
  HasWorld o = P o.world

  each-status : (s : Status) (k : ℕ) (os : List Obligation) → Each os (λ j. HasWorld) → Each (set_status s k os) (λ j. HasWorld)
  each-status s k os h = each-change k (with_status s) os HasWorld (λ o p. p) h

  each-wake : (p : Option ℕ) (os : List Obligation) → Each os (λ j. HasWorld) → Each (wake p os) (λ j. HasWorld)
  each-wake None os h = h
  each-wake (Some p) os h = each-status Ready p os h

  each-finish : (k : ℕ) (os : List Obligation) → Each os (λ j. HasWorld) → Each (finish k os) (λ j. HasWorld)
  each-finish k os h = each-wake (parent_of os k) (set_status Done k os) (each-status Done k os h)

  each-world : (e : Event) (job : Option Given) (n : ℕ) (os : List Obligation) → ((w : World) → state_of e ≡ Some w → P w) → Each os (λ k. HasWorld) → Each (obligations_after e job n os) (λ k. HasWorld)
  each-world (E.Seed w s) job n os new h = each-push os (record { level = n; world = s; parent = None; status = Ready }) HasWorld h (new s refl)
  each-world (E.Take w j) (Some (Work k level below world)) n os new h = each-status Out k os h
  each-world (E.Return w why) (Some (Work k level below world)) n os new h = each-status Ready k os h
  each-world (E.Learn w cube) (Some (Work k level below world)) n os new h = each-finish k os h
  each-world (E.Drop w c) (Some (Work k level below world)) n os new h = each-finish k os h
  each-world (E.Before w (O.Initial u)) (Some (Work k level below world)) n os new h = each-status (Rooted u) k os h
  each-world (E.Before w (O.Step p)) (Some (Work k level below world)) n os new h = each-push (set_status Waiting k os) _ HasWorld (each-status Waiting k os h) (new p refl)
  each-world e job n os new h = h

module _ (G : Given → Type 0) where
  abbrev HasGiven : Held → Type 0
  HasGiven h = G h.given

  each-left : (w : ℕ) (js : List Held) → Each js (λ k. HasGiven) → Each (released w js) (λ k. HasGiven)
  each-left w js h = each-filter (λ (x : Held). not (nat_eq x.worker w)) js HasGiven h

  -- what a take brings
  abbrev pub IsGoodTake : Event → Option Given → Type 0
  IsGoodTake (E.Take w j) (Some g) = G g
  IsGoodTake e job = Unit {0}

  pub each-job : (e : Event) (job : Option Given) (js : List Held) → IsGoodTake e job → Each js (λ k. HasGiven) → Each (jobs_after e job js) (λ k. HasGiven)
  each-job (E.Take w j) None js new h = h
  each-job (E.Take w j) (Some g) js new h = each-push js (record { worker = w; given = g }) HasGiven h new
  each-job (E.Advance w) job js new h = h
  each-job (E.Retire w gone by) job js new h = h
  each-job (E.Close w (N.Safe i)) job js new h = h
  each-job (E.Close w N.Bounded) job js new h = h
  each-job (E.Close w N.Spent) job js new h = h
  each-job e job js new h = each-left (worker_of e) js h

-- what an event brings fits
pub record BringsFit (variables widest : ℕ) (m : Machine) (e : Event) : Type 0 where
  pub cubes : (cube : Cube) → cube_of e ≡ Some cube → length cube.sorts ≤ variables
  pub states : (w : World) → state_of e ≡ Some w → sum w.sizes ≤ widest
  pub taken : IsGoodTake (IsRoomyFor variables) e (job_of_event m e)

pub roomy-next : (variables widest : ℕ) (m : Machine) (e : Event) → IsRoomy variables widest m → BringsFit variables widest m e → IsRoomy variables widest (happens m e)
roomy-next variables widest m e h b = record {
  cubes = each-cube (λ cube. length cube.sorts ≤ variables) e (job_of_event m e) m.clauses b.cubes h.cubes;
  states = each-world (λ w. sum w.sizes ≤ widest) e (job_of_event m e) m.frontier m.obligations b.states h.states;
  works = each-job (IsRoomyFor variables) e (job_of_event m e) m.jobs b.taken h.works;
}

pub start-roomy : (variables widest : ℕ) → IsRoomy variables widest start
start-roomy variables widest = record { cubes = Each-nil _; states = Each-nil _; works = Each-nil _ }

-- more room is room
pub roomy-more : (v w x y : ℕ) (m : Machine) → v ≤ x → w ≤ y → IsRoomy v w m → IsRoomy x y m
roomy-more v w x y m a b h = record {
  cubes = λ k c e. omega (arith, a, h.cubes k c e);
  states = λ k o e. omega (arith, b, h.states k o e);
  works = λ k j e. more j.given (h.works k j e);
}
  where
    more : (g : Given) → IsRoomyFor v g → IsRoomyFor x g
    more (Work k level below world) p = omega (arith, a, p)
    more (Look level cubes avoid done) p = p
    more (Push k level cubes cube) p = p
    more (Trace k steps) p = p

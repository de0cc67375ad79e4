-- What the numbers say after the end is so of the machine before it.
use Rattle.std.proofs.Common.{◌≡◌, ℕ, zero, suc, ◌+◌, ◌-◌, ◌^◌, ◌<◌, ◌≤◌, Bool, true, false, cond, ◌&&◌, nat_eq, nat_le, ◌⊎◌, inl, inr, List, [], ◌∷◌, ◌++◌, length, map, take, filter, Option, None, Some, slice_get, refl, sym, ap, subst, ◌∙◌, arith, true≢false, eqb-true, eq-eqb}
use Rattle.std.specs.Prelude.{MatchOption, option_map}
use Rattle.std.specs.Global.{Vec}
use Rattle.std.specs.Option.{option_and_then, option_to_list}
use Rattle.fo_core.specs.declared.order.Order.{Order}
use Rattle.fo_core.specs.declared.system.System.{System}
use Rattle.fo_core.specs.declared.world.World.{World}
use Rattle.fo_core.specs.Runs.{alone}
use Rattle.up_claims.specs.declared.verdict.Kept.{Kept}
use Rattle.up_claims.specs.declared.verdict.Leave.{Leave}
use Rattle.up_claims.specs.declared.verdict.Link.{Link}
use Rattle.up_claims.specs.declared.verdict.Verdict.{Verdict}
use Rattle.up_claims.specs.declared.verdict.Verdict.TheVariants as V
use Rattle.up_diagram.specs.declared.cube.Cube.{Cube}
use Rattle.up_machine.specs.declared.end.End.{End}
use Rattle.up_machine.specs.declared.end.End.TheVariants as N
use Rattle.up_machine.specs.declared.event.Event.{Event}
use Rattle.up_machine.specs.declared.event.Event.TheVariants as E
use Rattle.up_machine.specs.declared.job.Job.{Job}
use Rattle.up_machine.specs.declared.job.Job.TheVariants as J
use Rattle.up_machine.specs.declared.job.Short.TheVariants as S
use Rattle.up_machine.specs.declared.job.Task.TheVariants as T
use Rattle.up_machine.specs.declared.limits.Limits.{Limits}
use Rattle.up_machine.specs.Due.{IsFirst, HasNone, IsClosedLevel, IsOut, IsValid, IsToPush, IsQuiet, IsDue, job_of}
use Rattle.up_machine.specs.Finding.{HoldsTrace}
use Rattle.up_machine.specs.Legal.{IsLegal, Legal}
use Rattle.up_machine.specs.Machine.{Clause, FailedPush, Trace, Held, Machine, start, is_from}
use Rattle.up_machine.specs.Replay.{happens, replay}
use Rattle.up_machine.specs.Told.{kept_of, kept_from, live_of, AreLinks, AreTraced, IsLeaveOf, AreLeavesOf, IsToldBy, Told}
use Rattle.up_machine.specs.Sound.{Each, IsSoundLevel}
use Rattle.up_machine.proofs.Dues.{due_closed}
use Rattle.up_machine.proofs.FrameEvents.{history_sound}
use Rattle.up_machine.proofs.Histories.{legal-first, legal-rest, replay-push}
use Rattle.up_machine.proofs.Lists.{none_is_some, some_injective, all-of_each, any-of_place, both_true, first_true, second_true}
use Rattle.up_machine.proofs.Origins.{history_origins}
use Rattle.up_core.specs.declared.leaves.Mark.{Mark}
use Rattle.up_core.specs.declared.state.ClauseEntry.{ClauseEntry}
use Rattle.up_core.specs.declared.state.State.{State}
use Rattle.up_core.specs.Choice.{has_level}
use Rattle.up_core.specs.Holding.{IsCore}
use Rattle.up_core.specs.Mirror.{Pairs, IsCubeAt, IsObligationOf, IsValidPush, IsClauseOf, IsMirror, cube_of}
use Rattle.up_core.specs.Telling.{told_clauses, kept_with, mark_of, step_at, HasLeave, IsLeaveBy, CanTellLeaves, AreLeavesBy, traced_by, last_job, root_in, CanTellLinks, AreLinksOf, CanTell, IsVerdictBy, IsVerdictOf, last_of}
use Rattle.up_core.proofs.Chained.{first-link, root-some, go-on, root-is, links-to}
use Rattle.up_core.proofs.Counts.{AreFew, history_few}
use Rattle.up_core.proofs.LastTaken.{last-held, last-append}
use Rattle.up_core.proofs.Marked.{marked, unmarked}
use Rattle.up_core.proofs.Pairing.{pairs-map, pairs-left, pairs-right, pairs-filter, pairs-length, place-any}
use Rattle.up_core.proofs.Rooting.{traced-rooted}

-- 1. Clauses are told as they are.

module _ (history : List Event) (i : ℕ) where
  -- what of an entry matters here
  record IsSame (c : Clause) (e : ClauseEntry) : Type 0 where
    pub cube : IsCubeAt history e.learnt c.cube
    pub level : c.level ≡ e.level
    pub live : c.live ≡ e.live

  kept-step : (c : Clause) (cs : List Clause) (level : ℕ) (cube : Option Cube) (more : List Kept) → cube ≡ Some c.cube → c.level ≡ level → more ≡ map kept_of cs → (a b : Bool) → a ≡ b →
      cond b (option_to_list (option_map (kept_with level) cube)) [] ++ more ≡ map kept_of (cond a (c ∷ cs) cs)
  kept-step c cs level cube more is same rest true true e =
      ap (λ o. option_to_list (option_map (kept_with level) o) ++ more) is ∙ ap (λ n. kept_with n c.cube ∷ more) (sym same) ∙ ap (λ l. kept_of c ∷ l) rest
  kept-step c cs level cube more is same rest false false e = rest
  kept-step c cs level cube more is same rest true false e = absurd (true≢false e)
  kept-step c cs level cube more is same rest false true e = absurd (true≢false (sym e))

  kept-same : (cs : List Clause) (es : List ClauseEntry) → Pairs cs es (λ k. IsSame) → told_clauses history i es ≡ kept_from cs i
  kept-same [] [] h = refl
  kept-same [] (e ∷ es) h = absurd h
  kept-same (c ∷ cs) [] h = absurd h
  kept-same (c ∷ cs) (e ∷ es) h =
      kept-step c (filter (is_from i) cs) e.level (option_and_then cube_of (slice_get history e.learnt)) (told_clauses history i es) h.0.cube h.0.level (kept-same cs es h.1)
      (c.live && nat_le i c.level) (e.live && nat_le i e.level)
      (ap (λ x. x && nat_le i c.level) h.0.live ∙ ap (λ n. e.live && nat_le i n) h.0.level)

-- 2. What a quiet machine has, whose bounds are told.

pub record IsSettled (sys : System) (m : Machine) : Type 0 where
  pub quiet : IsQuiet m
  pub closed : (i : ℕ) → ¬ IsClosedLevel m i
  pub pushed : (k : ℕ) → ¬ IsFirst m.clauses (IsToPush sys m) k

settled : (sys : System) (limits : Limits) (m : Machine) → IsDue sys limits m (T.Finish S.Bounded) → IsSettled sys m
settled sys limits m (inl h) = absurd h
settled sys limits m (inr (_, inl h)) = absurd h
settled sys limits m (inr (_, inr (_, inl h))) = absurd h
settled sys limits m (inr (_, inr (_, inr (_, inl h)))) = absurd h
settled sys limits m (inr (_, inr (_, inr (_, inr (_, inl h))))) = absurd h
settled sys limits m (inr (_, inr (_, inr (_, inr (_, inr (_, inl h)))))) = absurd h
settled sys limits m (inr (_, inr (_, inr (_, inr (_, inr (_, inr (_, inl h))))))) = absurd h
settled sys limits m (inr (_, inr (closed, inr (_, inr (_, inr (_, inr (_, inr (pushed, inl quiet)))))))) =
    record { quiet = quiet.0; closed = λ i h. closed (T.Finish (S.Safe i)) h; pushed = λ k h. pushed (T.Job (J.Push k)) h }
settled sys limits m (inr (_, inr (_, inr (_, inr (_, inr (_, inr (_, inr (_, inr (_, h))))))))) = absurd h

module _ (sys : System) (m : Machine) (s : IsSettled sys m) where
  -- no level up to the frontier is without live clauses
  none-empty : (n i : ℕ) → i < n → 1 ≤ i → i ≤ m.secure → ¬ HasNone m i
  none-empty zero i lt low high none = absurd (omega (arith, lt))
  none-empty (suc n) i lt low high none =
      s.closed i (record { low = low; high = high; none = none; least = λ j at less. none-empty n j (omega (arith, lt, less)) at (omega (arith, less, high)) })

  -- and no clause is to be pushed
  none-to-push : (n k : ℕ) (c : Clause) → k < n → slice_get m.clauses k ≡ Some c → ¬ IsToPush sys m k c
  none-to-push zero k c lt there p = absurd (omega (arith, lt))
  none-to-push (suc n) k c lt there p =
      s.pushed k (record { found = c; there = there; has = p; first = λ j x less at. none-to-push n j x (omega (arith, lt, less)) at })

  nothing-out : (job : Job) → ¬ IsOut m job
  nothing-out job out = none_is_some _ (let p = place-any (λ (h : Held). job_of h.given ≡ job) m.jobs out in subst (λ js. slice_get js p.0 ≡ Some p.1) s.quiet.no_job p.2)

-- 3. The machine before the end.

-- a clause's valid failed push is one before the end
module _ (sys : System) (history : List Event) (m : Machine) (w : ℕ) (end : End) (k : ℕ) (c : Clause) where
  abbrev after : Machine
  after = happens m (E.Close w end)

  valid-then : (f : FailedPush) → IsValid sys after k c f → IsValid sys m k c f
  valid-then f h = record { live = h.live; clause = h.clause; level = h.level; inside = h.inside }

  valid-now : (f : FailedPush) → IsValid sys m k c f → IsValid sys after k c f
  valid-now f h = record { live = h.live; clause = h.clause; level = h.level; inside = h.inside }

  push-then : (o : Option ℕ) → IsValidPush history sys after k c o → IsValidPush history sys m k c o
  push-then None h = λ any. let p = place-any (IsValid sys m k c) m.failed any in h (any-of_place (IsValid sys after k c) m.failed p.0 p.1 p.2 (valid-now p.1 p.3))
  push-then (Some place) h = record { number = h.number; failed = h.failed; there = h.there; valid = valid-then h.failed h.valid; step = h.step }

  clause-then : (e : ClauseEntry) → IsClauseOf history sys after k c e → IsClauseOf history sys m k c e
  clause-then e h = record { cube = h.cube; level = h.level; live = h.live; failed = push-then e.failed h.failed }

-- the leave's step is that of a valid failed push of clause k
record IsLeaving (sys : System) (m : Machine) (k : ℕ) (c : Clause) (leave : Leave) : Type 0 where
  number : ℕ
  failed : FailedPush
  there : slice_get m.failed number ≡ Some failed
  valid : IsValid sys m k c failed
  step : leave.step ≡ failed.step

-- as many of each
pairs-take : {X Y : Type 0} (xs : List X) (ys : List Y) (R : ℕ → X → Y → Type 0) (n : ℕ) → Pairs xs ys R → Pairs (take n xs) (take n ys) R
pairs-take [] [] R zero h = h
pairs-take [] [] R (suc n) h = h
pairs-take [] (y ∷ ys) R n h = absurd h
pairs-take (x ∷ xs) [] R n h = absurd h
pairs-take (x ∷ xs) (y ∷ ys) R zero h = tt
pairs-take (x ∷ xs) (y ∷ ys) R (suc n) h = (h.0, pairs-take xs ys (λ k. R (suc k)) n h.1)

module _ (sys : System) (history : List Event) (m : Machine) (s : State) (clauses : Pairs m.clauses s.clauses.items (λ k c e. IsClauseOf history sys m k c e)) where
  abbrev es : List ClauseEntry
  es = s.clauses.items

  kept-are : (i : ℕ) → told_clauses history i es ≡ kept_from m.clauses i
  kept-are i =
      kept-same history i m.clauses es
      (pairs-map m.clauses es (λ k c e. IsClauseOf history sys m k c e) (λ k. IsSame history i) (λ k c e h. record { cube = h.cube; level = h.level; live = h.live }) clauses)

  lives : (n : ℕ) → length (live_of (take n m.clauses)) ≡ length (filter (λ (e : ClauseEntry). e.live) (take n es))
  lives n =
      let same = pairs-map m.clauses es (λ k c e. IsClauseOf history sys m k c e) (λ k c e. c.live ≡ e.live) (λ k c e h. h.live) clauses in
      let some = pairs-take m.clauses es (λ k c e. c.live ≡ e.live) n same in
      pairs-length (live_of (take n m.clauses)) (filter (λ (e : ClauseEntry). e.live) (take n es)) (λ _ c e. c.live ≡ e.live)
      (pairs-filter (take n m.clauses) (take n es) (λ c e. c.live ≡ e.live) (λ (c : Clause). c.live) (λ (e : ClauseEntry). e.live) (λ c e h. h) some)

  level-to : (i k : ℕ) (c : Clause) (e : ClauseEntry) → IsClauseOf history sys m k c e → c.live ≡ true → c.level ≡ i → has_level i e ≡ true
  level-to i k c e h live level = both_true e.live (nat_eq e.level i) (sym h.live ∙ live) (eq-eqb e.level i (sym h.level ∙ level))

  level-from : (i k : ℕ) (c : Clause) (e : ClauseEntry) → IsClauseOf history sys m k c e → has_level i e ≡ true → (c.live ≡ true) × (c.level ≡ i)
  level-from i k c e h t = (h.live ∙ first_true e.live (nat_eq e.level i) t, h.level ∙ eqb-true e.level i (second_true e.live (nat_eq e.level i) t))

  none-before : (n : ℕ) → 0 + n ≡ n
  none-before n = omega arith

  -- the leaves
  leave-is : (i : ℕ) (leave : Leave) → IsLeaveBy history i (mark_of i 0 es) leave → IsLeaveOf sys m i leave
  leave-is i leave l =
      let r = marked i 0 es l.found l.is in
      let pair = pairs-left m.clauses es (λ k c e. IsClauseOf history sys m k c e) clauses r.number r.entry r.there in
      let c = pair.0 in
      valid_of r.entry.failed pair.2.failed (sym (ap (step_at history) r.failed) ∙ l.step) (λ f. record {
        level = l.level_is;
        number = r.number;
        clause = record {
          found = c;
          there = pair.1;
          has = level-from i r.number c r.entry pair.2 r.has;
          first = λ j x lt at h.
              let q = pairs-right m.clauses es (λ k c e. IsClauseOf history sys m k c e) clauses j x at in
              r.first j q.0 lt q.1 (level-to i j x q.0 q.2 h.0 h.1);
        };
        named = l.place ∙ r.place_is ∙ none-before (length (filter (λ (e : ClauseEntry). e.live) (take r.number es))) ∙ sym (lives r.number);
        place = f.number;
        failed = f.failed;
        there = f.there;
        valid = f.valid;
        step = f.step;
      })
    where
      valid_of : {k : ℕ} {c : Clause} {A : Type 0} (o : Option ℕ) → IsValidPush history sys m k c o → step_at history o ≡ Some leave.step → (IsLeaving sys m k c leave → A) → A
      valid_of None h is f = none_is_some leave.step is
      valid_of (Some place) h is f =
          f (record { number = h.number; failed = h.failed; there = h.there; valid = h.valid; step = some_injective leave.step h.failed.step (sym is ∙ h.step) })

  leaves-are : m.frontier ≡ s.clauses.frontier → (leaves : List Leave) → AreLeavesBy history s leaves → AreLeavesOf sys m leaves
  leaves-are same leaves l = record { one_each = l.one_each ∙ sym same; each = λ k leave at. leave-is (k + 1) leave (l.each k leave at) }

  -- each level has one, where the machine is settled
  module _ (settle : IsSettled sys m) (same : m.frontier ≡ s.clauses.frontier) where
    has-leave : (i : ℕ) → 1 ≤ i → i ≤ m.frontier → HasLeave history (mark_of i 0 es)
    has-leave i low high = by (mark_of i 0 es) refl
      where
        step_of : (k : ℕ) (c : Clause) (o : Option ℕ) → IsValidPush history sys m k c o → ¬ (o ≡ None) → (step : World) × (step_at history o ≡ Some step)
        step_of k c None h some = absurd (some refl)
        step_of k c (Some place) h some = (h.failed.step, h.step)

        tried : (k : ℕ) (c : Clause) (e : ClauseEntry) → slice_get m.clauses k ≡ Some c → IsClauseOf history sys m k c e → c.live ≡ true → c.level ≡ i → ¬ (e.failed ≡ None)
        tried k c e there h live level none =
            none-to-push sys m settle (suc k) k c (omega arith) there
            (record {
              live = live;
              low = omega (arith, low, level);
              high = omega (arith, high, level);
              untried = subst (IsValidPush history sys m k c) none h.failed;
              free = nothing-out sys m settle (J.Push k);
            })

        by : (o : Option Mark) → mark_of i 0 es ≡ o → HasLeave history o
        by None is =
            absurd (none-empty sys m settle (suc i) i (omega arith) low (subst (λ n. i ≤ n) (sym settle.quiet.secure) high)
            (all-of_each m.clauses (λ (c : Clause). c.live ≡ true → ¬ (c.level ≡ i)) (λ k c at live level.
            let pair = pairs-right m.clauses es (λ k c e. IsClauseOf history sys m k c e) clauses k c at in
            unmarked i 0 es is k pair.0 pair.1 (level-to i k c pair.0 pair.2 live level))))
        by (Some mark) is =
            let r = marked i 0 es mark is in
            let pair = pairs-left m.clauses es (λ k c e. IsClauseOf history sys m k c e) clauses r.number r.entry r.there in
            let at = level-from i r.number pair.0 r.entry pair.2 r.has in
            let step = step_of r.number pair.0 r.entry.failed pair.2.failed (tried r.number pair.0 r.entry pair.1 pair.2 at.0 at.1) in
            record { found = mark; is = refl; step = step.0; step_is = ap (step_at history) r.failed ∙ step.1 }

    can-leave : CanTellLeaves history s
    can-leave k lt = has-leave (k + 1) (omega arith) (omega (arith, lt, same))

-- 4. The verdict.

-- a level up to the frontier has a next one
next-level : (sys : System) (limits : Limits) (history : List Event) (i : ℕ) → Legal sys limits history → limits.steps + 2 < 2 ^ 32 → i ≤ (replay history).secure → i + 1 < 2 ^ 32
next-level sys limits history i legal most high = near (history_sound sys limits history legal).secure_near
  where
    few : AreFew limits (replay history)
    few = history_few sys limits history legal

    near : ((replay history).secure ≡ (replay history).frontier) ⊎ (suc (replay history).secure ≡ (replay history).frontier) → i + 1 < 2 ^ 32
    near (inl e) = omega (arith, e, high, few.frontier, few.steps, most)
    near (inr e) = omega (arith, e, high, few.frontier, few.steps, most)

module _ (sys : System) (order : Order) (limits : Limits) (history : Vec Event) (s : State) (spare picks variables widest : ℕ) (core : IsCore sys order limits history s spare picks variables widest)
    (before : List Event) (w : ℕ) where
  abbrev m : Machine
  m = replay before

  most : limits.steps + 2 < 2 ^ 32
  most = let high = core.in_range.steps.high in omega arith

  abbrev Closed : End → Type 0
  Closed end = history.items ≡ before ++ E.Close w end ∷ []

  legal-all : (end : End) → Closed end → Legal sys limits (before ++ E.Close w end ∷ [])
  legal-all end is = subst (Legal sys limits) is core.legal

  legal-before : (end : End) → Closed end → Legal sys limits before
  legal-before end is = legal-first sys limits start before (E.Close w end ∷ []) (legal-all end is)

  legal-close : (end : End) → Closed end → IsLegal sys limits m (E.Close w end)
  legal-close end is = (legal-rest sys limits start before (E.Close w end ∷ []) (legal-all end is)).0

  mirror-now : (end : End) → Closed end → IsMirror sys history.items (happens m (E.Close w end)) s
  mirror-now end is = subst (λ n. IsMirror sys history.items n s) (ap replay is ∙ replay-push before (E.Close w end)) core.mirror

  clauses-are : (end : End) → Closed end → Pairs m.clauses s.clauses.items (λ k c e. IsClauseOf history.items sys m k c e)
  clauses-are end is =
      pairs-map m.clauses s.clauses.items (λ k c e. IsClauseOf history.items sys (happens m (E.Close w end)) k c e) (λ k c e. IsClauseOf history.items sys m k c e)
      (λ k c e h. clause-then sys history.items m w end k c e h) (mirror-now end is).clauses

  obligations-are : (end : End) → Closed end → Pairs m.obligations s.obligations.items (λ k o e. IsObligationOf history.items o e)
  obligations-are end is = (mirror-now end is).obligations

  frontier-is : (end : End) → Closed end → m.frontier ≡ s.clauses.frontier
  frontier-is end is = (mirror-now end is).frontier

  module _ (is : Closed N.NoUniversal) (trace : HoldsTrace m w) where
    taken : traced_by (last_job w None history.items) ≡ Some trace.obligation
    taken =
        ap (λ h. traced_by (last_job w None h)) is
        ∙ ap traced_by (last-append w before (E.Close w N.NoUniversal ∷ []) None)
        ∙ ap traced_by (last-held w sys limits before (Trace trace.obligation trace.steps) (legal-before N.NoUniversal is) trace.held)

    can-links : CanTellLinks sys.sig history.items s w
    can-links =
        let legal = legal-before N.NoUniversal is in
        let r = traced-rooted sys limits before w trace.obligation trace.steps legal trace.held in
        let pairs = obligations-are N.NoUniversal is in
        let origins = history_origins sys limits before core.infer.system legal in
        let few = history_few sys limits before legal in
        let frontier = frontier-is N.NoUniversal is in
        let levels = subst (λ n. Each m.obligations (λ k o. IsSoundLevel n m.obligations o)) frontier (history_sound sys limits before legal).levels in
        record {
          number = trace.obligation;
          taken = taken;
          root = r.root;
          root_is = root-is sys core.infer.system history.items s.clauses.frontier m.obligations s.obligations.items pairs trace.obligation r.obligation r.root r.there r.rooted;
          copies = root-some sys core.infer.system history.items s.clauses.frontier m.obligations s.obligations.items pairs origins levels trace.obligation r.obligation r.root r.there r.rooted;
          narrow = omega (arith, few.frontier, few.steps, most, frontier);
          first = first-link sys core.infer.system history.items s.clauses.frontier m.obligations s.obligations.items pairs origins levels trace.obligation r.obligation r.root r.there r.rooted;
          more = go-on sys core.infer.system history.items s.clauses.frontier m.obligations s.obligations.items pairs origins levels;
        }

    links-are : (links : List Link) → AreLinksOf sys.sig history.items s w links → AreTraced sys.sig m w links
    links-are links l =
        let legal = legal-before N.NoUniversal is in
        let r = traced-rooted sys limits before w trace.obligation trace.steps legal trace.held in
        let pairs = obligations-are N.NoUniversal is in
        let same : l.number ≡ trace.obligation = some_injective l.number trace.obligation (sym l.taken ∙ taken) in
        let root = root-is sys core.infer.system history.items s.clauses.frontier m.obligations s.obligations.items pairs trace.obligation r.obligation r.root r.there r.rooted in
        let one : l.root ≡ r.root = some_injective l.root r.root (sym l.root_is ∙ ap (root_in history.items s.obligations.items) same ∙ root) in
        let chain = links-to sys core.infer.system history.items s.clauses.frontier m.obligations s.obligations.items pairs (alone l.root 0) l.number links l.chain in
        let rooted_chain = subst (λ u. AreLinks sys.sig m.obligations (alone u 0) l.number links) one chain in
        record {
          trace = trace;
          obligation = r.obligation;
          there = r.there;
          root = r.root;
          rooted = r.rooted;
          chain = subst (λ k. AreLinks sys.sig m.obligations (alone r.root 0) k links) same rooted_chain;
        }

  pub can-tell : (end : End) → Closed end → CanTell sys.sig history.items s w end
  can-tell (N.Safe i) is =
      let closed = due_closed sys limits m i (legal-close (N.Safe i) is).allowed in
      next-level sys limits before i (legal-before (N.Safe i) is) most closed.high
  can-tell (N.Unsafe run) is = tt
  can-tell N.NoUniversal is = can-links is (legal-close N.NoUniversal is).allowed.trace
  can-tell N.Bounded is =
      can-leave sys history.items m s (clauses-are N.Bounded is) (settled sys limits m (legal-close N.Bounded is).allowed) (frontier-is N.Bounded is)
  can-tell N.Spent is = tt
  can-tell (N.Over kind excess) is = tt

  tells-safe : (i : ℕ) → Closed (N.Safe i) → (v : Verdict) → IsVerdictBy sys.sig history.items s w (N.Safe i) v → IsToldBy sys m w (N.Safe i) v
  tells-safe i is (V.Safe level clauses) h =
      let one : i + 1 ≡ suc i = omega arith in
      (h.0, h.1 ∙ kept-are sys history.items m s (clauses-are (N.Safe i) is) (i + 1) ∙ ap (kept_from m.clauses) one)
  tells-safe i is _ h = absurd h

  tells-unsafe : (run : World) (v : Verdict) → IsVerdictBy sys.sig history.items s w (N.Unsafe run) v → IsToldBy sys m w (N.Unsafe run) v
  tells-unsafe run (V.Unsafe told) h = h
  tells-unsafe run _ h = absurd h

  tells-links : Closed N.NoUniversal → (v : Verdict) → IsVerdictBy sys.sig history.items s w N.NoUniversal v → IsToldBy sys m w N.NoUniversal v
  tells-links is (V.NoUniversal links) h = links-are is (legal-close N.NoUniversal is).allowed.trace links h
  tells-links is _ h = absurd h

  tells-bounded : Closed N.Bounded → (v : Verdict) → IsVerdictBy sys.sig history.items s w N.Bounded v → IsToldBy sys m w N.Bounded v
  tells-bounded is (V.Bounded last clauses leaves) h = record {
    last_is = h.last_is ∙ sym (frontier-is N.Bounded is);
    clauses_are = h.clauses_are ∙ kept-are sys history.items m s (clauses-are N.Bounded is) 0;
    leaves_are = leaves-are sys history.items m s (clauses-are N.Bounded is) (frontier-is N.Bounded is) leaves h.leaves_are;
  }
  tells-bounded is _ h = absurd h

  tells-spent : Closed N.Spent → (v : Verdict) → IsVerdictBy sys.sig history.items s w N.Spent v → IsToldBy sys m w N.Spent v
  tells-spent is (V.Spent steps) h = h ∙ sym (mirror-now N.Spent is).productive
  tells-spent is _ h = absurd h

  tells-over : (kind : _) (excess : _) (v : Verdict) → IsVerdictBy sys.sig history.items s w (N.Over kind excess) v → IsToldBy sys m w (N.Over kind excess) v
  tells-over kind excess (V.Over what weight) h = h
  tells-over kind excess _ h = absurd h

  tells : (end : End) → Closed end → (v : Verdict) → IsVerdictBy sys.sig history.items s w end v → IsToldBy sys m w end v
  tells (N.Safe i) is v h = tells-safe i is v h
  tells (N.Unsafe run) is v h = tells-unsafe run v h
  tells N.NoUniversal is v h = tells-links is v h
  tells N.Bounded is v h = tells-bounded is v h
  tells N.Spent is v h = tells-spent is v h
  tells (N.Over kind excess) is v h = tells-over kind excess v h

  pub is-told : (end : End) → Closed end → (v : Verdict) → IsVerdictBy sys.sig history.items s w end v → Told sys history.items v
  is-told end is v h = record { before = before; worker = w; end = end; closes = is; tells = tells end is v h }

-- 5. The last event.

-- what stands before the last element
record IsSplit (es : List Event) : Type 0 where
  pub before : List Event
  pub last : Event
  pub is : es ≡ before ++ last ∷ []
  pub last_is : last_of es ≡ Some last

split : (e : Event) (es : List Event) → IsSplit (e ∷ es)
split e [] = record { before = []; last = e; is = refl; last_is = refl }
split e (x ∷ es) =
    let r = split x es in
    let one : length (e ∷ x ∷ es) - 1 ≡ suc (length (x ∷ es) - 1) = omega arith in
    record { before = e ∷ r.before; last = r.last; is = ap (λ xs. e ∷ xs) r.is; last_is = ap (slice_get (e ∷ x ∷ es)) one ∙ r.last_is }

-- where the last event is no end, there is none
open-after : (m : Machine) (e : Event) → m.ending ≡ None → ((w : ℕ) (end : End) → ¬ (e ≡ E.Close w end)) → (happens m e).ending ≡ None
open-after m (E.Close w end) none other = absurd (other w end refl)
open-after m e none other = none

module _ (sys : System) (order : Order) (limits : Limits) (history : Vec Event) (s : State) (spare picks variables widest : ℕ) (core : IsCore sys order limits history s spare picks variables widest) where
  still-open-at : (es : List Event) → Legal sys limits es → ((w : ℕ) (end : End) → ¬ (last_of es ≡ Some (E.Close w end))) → (replay es).ending ≡ None
  still-open-at [] legal none = refl
  still-open-at (x ∷ es) legal none =
      let r = split x es in
      let last = legal-rest sys limits start r.before (r.last ∷ []) (subst (Legal sys limits) r.is legal) in
      ap (λ h. (replay h).ending) r.is
      ∙ ap (λ (n : Machine). n.ending) (replay-push r.before r.last)
      ∙ open-after (replay r.before) r.last last.0.not_ended (λ w end e. none w end (r.last_is ∙ ap Some e))

  pub still-open : ((w : ℕ) (end : End) → ¬ (last_of history.items ≡ Some (E.Close w end))) → (replay history.items).ending ≡ None
  still-open none = still-open-at history.items core.legal none

  record IsClosing (es : List Event) (w : ℕ) (end : End) : Type 0 where
    pub before : List Event
    pub is : es ≡ before ++ E.Close w end ∷ []

  closing : (es : List Event) (w : ℕ) (end : End) → last_of es ≡ Some (E.Close w end) → IsClosing es w end
  closing [] w end last = none_is_some _ last
  closing (x ∷ es) w end last =
      let r = split x es in
      let same : r.last ≡ E.Close w end = some_injective r.last (E.Close w end) (sym r.last_is ∙ last) in
      record { before = r.before; is = r.is ∙ ap (λ e. r.before ++ e ∷ []) same }

  pub can-tell-last : (w : ℕ) (end : End) → last_of history.items ≡ Some (E.Close w end) → CanTell sys.sig history.items s w end
  can-tell-last w end last =
      let c = closing history.items w end last in
      can-tell sys order limits history s spare picks variables widest core c.before w end c.is

  told-by-last : (o : Option Event) → last_of history.items ≡ o → (v : Verdict) → IsVerdictOf sys.sig history.items s o v → Told sys history.items v
  told-by-last (Some (E.Close w end)) last v h =
      let c = closing history.items w end last in
      is-told sys order limits history s spare picks variables widest core c.before w end c.is v h
  told-by-last _ last v h = absurd h

  pub verdict-of : (found : Option Verdict) →
      MatchOption found ((w : ℕ) (end : End) → ¬ (last_of history.items ≡ Some (E.Close w end))) (IsVerdictOf sys.sig history.items s (last_of history.items)) →
      MatchOption found ((replay history.items).ending ≡ None) (Told sys history.items)
  verdict-of None h = still-open h
  verdict-of (Some v) h = told-by-last (last_of history.items) refl v h

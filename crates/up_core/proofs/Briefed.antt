-- The brief by the entries is that of what a worker who takes the job is given.
use Rattle.std.proofs.Common.{◌≡◌, ℕ, zero, suc, ◌-◌, ◌^◌, ◌<◌, Bool, true, false, cond, ◌&&◌, nat_eq, is_none, List, [], ◌∷◌, ◌++◌, map, filter, Option, None, Some, slice_get, refl, sym, ap, subst, ◌∙◌, arith, true≢false}
use Rattle.std.specs.Prelude.{option_map}
use Rattle.std.specs.Option.{option_and_then, option_to_list}
use Rattle.std.specs.Global.{Vec}
use Rattle.fo_core.specs.declared.order.Order.{Order}
use Rattle.fo_core.specs.declared.signature.Sig.{Sig}
use Rattle.fo_core.specs.declared.system.System.{System}
use Rattle.fo_core.specs.declared.world.World.{World}
use Rattle.up_claims.specs.Frames.{frame_at}
use Rattle.up_diagram.specs.declared.cube.Cube.{Cube}
use Rattle.up_diagram.specs.Diagrams.{CanDescribe}
use Rattle.up_machine.specs.declared.brief.Brief.{Brief}
use Rattle.up_machine.specs.declared.event.Event.{Event}
use Rattle.up_machine.specs.declared.job.Job.{Job}
use Rattle.up_machine.specs.declared.job.Job.TheVariants as J
use Rattle.up_machine.specs.declared.limits.Limits.{Limits}
use Rattle.up_machine.specs.Briefs.{brief_of, cubes_in}
use Rattle.up_machine.specs.Due.{job_of}
use Rattle.up_machine.specs.Finding.{HoldsJob, state_cube, state_cubes}
use Rattle.up_machine.specs.Machine.{Clause, Obligation, Given, Work, Look, Push, Trace, Machine, cubes_from, is_unfinished_seed, to_avoid, done_seeds}
use Rattle.up_machine.specs.Replay.{given_work, given_push, given_trace, given_for, replay}
use Rattle.up_machine.specs.Sound.{IsFit, IsSoundGiven}
use Rattle.up_machine.proofs.Fit.{history_fit}
use Rattle.up_machine.proofs.FrameEvents.{given_sound, history_sound}
use Rattle.up_machine.proofs.Lists.{some_injective, none_is_some}
use Rattle.up_core.specs.declared.state.ClauseEntry.{ClauseEntry}
use Rattle.up_core.specs.declared.state.JobEntry.{JobEntry}
use Rattle.up_core.specs.declared.state.ObligationEntry.{ObligationEntry}
use Rattle.up_core.specs.declared.state.State.{State}
use Rattle.up_core.specs.Briefing.{AreDescribable, avoided, state_from, work_brief, look_brief, push_brief, trace_brief, brief_at}
use Rattle.up_core.specs.Choice.{is_open_seed}
use Rattle.up_core.specs.Places.{is_unfinished}
use Rattle.up_core.specs.Holding.{IsCore}
use Rattle.up_core.specs.Listing.{listed}
use Rattle.up_core.specs.Mirror.{Pairs, IsClauseOf, IsObligationOf, IsMirror, world_of}
use Rattle.up_core.specs.Steps.{entry_of}
use Rattle.up_core.proofs.Chosen.{open_seed-same}
use Rattle.up_core.proofs.Listed.{listed-is}
use Rattle.up_core.proofs.Mirrors.{has-entry}
use Rattle.up_core.proofs.Pairing.{pairs-left}

-- what corresponds is read alike at each place
at-place : {X Y Z : Type 0} (xs : List X) (ys : List Y) (R : ℕ → X → Y → Type 0) (f : X → Z) (g : Y → Z) → ((k : ℕ) (x : X) (y : Y) → R k x y → g y ≡ f x) →
    Pairs xs ys R → (k : ℕ) → option_map g (slice_get ys k) ≡ option_map f (slice_get xs k)
at-place [] [] R f g same h k = refl
at-place [] (y ∷ ys) R f g same h k = absurd h
at-place (x ∷ xs) [] R f g same h k = absurd h
at-place (x ∷ xs) (y ∷ ys) R f g same h zero = ap Some (same 0 x y h.0)
at-place (x ∷ xs) (y ∷ ys) R f g same h (suc k) = at-place xs ys (λ j. R (suc j)) f g (λ j. same (suc j)) h.1 k

both-maps : {X Y Z : Type 0} (f : Y → Z) (g : X → Y) (o : Option X) → option_map (λ x. f (g x)) o ≡ option_map f (option_map g o)
both-maps f g None = refl
both-maps f g (Some x) = refl

module _ (sig : Sig) (history : List Event) (level : ℕ) where
  abbrev is_avoided : Obligation → Bool
  is_avoided o = is_unfinished_seed o && nat_eq o.level level

  abbrev states : List Obligation → List Cube
  states os = state_cubes sig (map (λ (o : Obligation). o.world) os)

  avoid-step : (o : Obligation) (os : List Obligation) (world : Option World) (more : List Cube) → world ≡ Some o.world → more ≡ states os → (a b : Bool) → a ≡ b →
      cond b (option_to_list (option_map (state_cube sig) world)) [] ++ more ≡ states (cond a (o ∷ os) os)
  avoid-step o os world more is rest true true e = ap (λ w. option_to_list (option_map (state_cube sig) w) ++ more) is ∙ ap (λ l. state_cube sig o.world ∷ l) rest
  avoid-step o os world more is rest false false e = rest
  avoid-step o os world more is rest true false e = absurd (true≢false e)
  avoid-step o os world more is rest false true e = absurd (true≢false (sym e))

  avoided-same : (os : List Obligation) (es : List ObligationEntry) → Pairs os es (λ k o e. IsObligationOf history o e) → avoided sig history level es ≡ states (filter is_avoided os)
  avoided-same [] [] h = refl
  avoided-same [] (e ∷ es) h = absurd h
  avoided-same (o ∷ os) [] h = absurd h
  avoided-same (o ∷ os) (e ∷ es) h =
      avoid-step o (filter is_avoided os) (option_and_then world_of (slice_get history e.found)) (avoided sig history level es) h.0.world (avoided-same os es h.1)
      (is_avoided o) (is_open_seed e && nat_eq e.level level)
      (ap (λ x. x && nat_eq o.level level) (open_seed-same history o e h.0) ∙ ap (λ n. is_open_seed e && nat_eq n level) h.0.level)

module _ (sys : System) (history : List Event) (m : Machine) (s : State) (mirror : IsMirror sys history m s) where
  lists : (i : ℕ) → listed history i s.clauses.items ≡ cubes_from m.clauses i
  lists i = listed-is sys history m s mirror i

  abbrev told : Given → Brief
  told g = brief_of sys.sig g

  work-same : (n k : ℕ) (o : Obligation) (e : ObligationEntry) → IsObligationOf history o e → work_brief history s.clauses.items n e ≡ told (given_work m.clauses n o)
  work-same n k o e h =
      let read : ℕ → List Cube → Option World → Brief = λ level cubes world. record { job = J.Work n; level = level; frame = cubes_in (frame_at (level - 1) cubes); avoid = []; world = world; cube = None } in
      ap (λ cubes. read e.level cubes (option_and_then world_of (slice_get history e.found))) (lists (e.level - 1))
      ∙ ap (λ w. read e.level (cubes_from m.clauses (e.level - 1)) w) h.world
      ∙ ap (λ i. read i (cubes_from m.clauses (i - 1)) (Some o.world)) (sym h.level)

  push-same : (n k : ℕ) (c : Clause) (e : ClauseEntry) → IsClauseOf history sys m k c e → push_brief history s.clauses.items n e ≡ told (given_push m.clauses n c)
  push-same n k c e h =
      let read : ℕ → List Cube → Option Cube → Brief = λ level cubes cube. record { job = J.Push n; level = level; frame = cubes; avoid = []; world = None; cube = cube } in
      ap (λ cubes. read e.level cubes (push_brief history s.clauses.items n e).cube) (lists e.level)
      ∙ ap (λ x. read e.level (cubes_from m.clauses e.level) x) h.cube
      ∙ ap (λ i. read i (cubes_from m.clauses i) (Some c.cube)) (sym h.level)

  trace-same : (n k : ℕ) (o : Obligation) (e : ObligationEntry) → IsObligationOf history o e → trace_brief s.clauses.frontier n e ≡ told (given_trace m.frontier n o)
  trace-same n k o e h =
      ap (λ i. trace_brief i n e) (sym mirror.frontier)
      ∙ ap (λ i. told (Trace n (m.frontier - i))) (sym h.level)

  look-same : (done : ℕ) → look_brief sys.sig history s ≡ told (Look m.frontier (cubes_from m.clauses m.frontier) (to_avoid m) done)
  look-same done =
      let read : ℕ → List Cube → List Cube → Brief = λ level cubes avoid. record { job = J.Look; level = level; frame = cubes; avoid = avoid; world = None; cube = None } in
      ap (λ cubes. read s.clauses.frontier cubes (avoided sys.sig history s.clauses.frontier s.obligations.items)) (lists s.clauses.frontier)
      ∙ ap (λ avoid. read s.clauses.frontier (cubes_from m.clauses s.clauses.frontier) avoid) (avoided-same sys.sig history s.clauses.frontier m.obligations s.obligations.items mirror.obligations)
      ∙ ap (λ i. read i (cubes_from m.clauses i) (states sys.sig history i (filter (is_avoided sys.sig history i) m.obligations))) (sym mirror.frontier)

  pub brief-is : (job : Job) → brief_at sys.sig history s job ≡ option_map told (given_for m job)
  brief-is (J.Work n) =
      at-place m.obligations s.obligations.items (λ k o e. IsObligationOf history o e) (λ o. told (given_work m.clauses n o)) (work_brief history s.clauses.items n) (work-same n) mirror.obligations n
      ∙ both-maps told (given_work m.clauses n) (slice_get m.obligations n)
  brief-is J.Look = ap Some (look-same (done_seeds m))
  brief-is (J.Push n) =
      at-place m.clauses s.clauses.items (λ k c e. IsClauseOf history sys m k c e) (λ c. told (given_push m.clauses n c)) (push_brief history s.clauses.items n) (push-same n) mirror.clauses n
      ∙ both-maps told (given_push m.clauses n) (slice_get m.clauses n)
  brief-is (J.Trace n) =
      at-place m.obligations s.obligations.items (λ k o e. IsObligationOf history o e) (λ o. told (given_trace m.frontier n o)) (trace_brief s.clauses.frontier n) (trace-same n) mirror.obligations n
      ∙ both-maps told (given_trace m.frontier n) (slice_get m.obligations n)

module _ (sys : System) (order : Order) (limits : Limits) (history : Vec Event) (s : State) (spare picks variables widest : ℕ) (core : IsCore sys order limits history s spare picks variables widest) where
  abbrev here : Machine
  here = replay history.items

  fit : IsFit sys here
  fit = history_fit sys limits history.items core.infer.system core.legal

  pub describable : widest < 2 ^ 32 → AreDescribable sys.sig history.items s.obligations.items
  describable narrow k e w there at =
      let r = pairs-left here.obligations s.obligations.items (λ k o x. IsObligationOf history.items o x) core.mirror.obligations k e there in
      let same = some_injective r.0.world w (sym r.2.world ∙ at) in
      let fits = fit.worlds k r.0 r.1 in
      let some = fits.some_copy in
      let low = core.picks_for.roomy.states k r.0 r.1 in
      subst (λ x. CanDescribe sys.sig x 0) same (record { signature = core.infer.system.signature; fits = fits; copy = omega (arith, some); few = omega (arith, low, narrow) })

  -- what a worker holds is there, so it may be given anew
  pub record IsThere (job : Job) : Type 0 where
    pub given : Given
    pub is : given_for here job ≡ Some given

  given-there : (g : Given) → IsSoundGiven sys here.frontier here.clauses here.obligations g → IsThere (job_of g)
  given-there (Work k level below world) h = record { given = _; is = ap (option_map (given_work here.clauses k)) h.there }
  given-there (Look level cubes avoid done) h = record { given = _; is = refl }
  given-there (Push k level cubes cube) h = record { given = _; is = ap (option_map (given_push here.clauses k)) h.there }
  given-there (Trace k steps) h = record { given = _; is = ap (option_map (given_trace here.frontier k)) h.there }

  pub there-now : (w : ℕ) (h : HoldsJob here w) → IsThere (job_of h.given)
  there-now w h = given-there h.given (given_sound sys here (history_sound sys limits history.items core.legal) w h.given h.held)

  -- the brief by the entries of the job that the worker holds
  pub held-brief : (w : ℕ) (h : HoldsJob here w) (e : JobEntry) → entry_of w s.jobs.items ≡ Some e → brief_at sys.sig history.items s e.job ≡ Some (brief_of sys.sig (there-now w h).given)
  held-brief w h e found =
      let entry = has-entry w h.given here.jobs s.jobs.items core.mirror.jobs h.held in
      let same = some_injective entry.entry e (sym entry.there ∙ found) in
      let job = ap (λ (x : JobEntry). x.job) (sym same) ∙ sym entry.job in
      ap (brief_at sys.sig history.items s) job
      ∙ brief-is sys history.items here s core.mirror (job_of h.given)
      ∙ ap (option_map (brief_of sys.sig)) (there-now w h).is

  -- and it holds an entry
  pub has-one : (w : ℕ) → HoldsJob here w → ¬ (entry_of w s.jobs.items ≡ None)
  has-one w h none =
      let entry = has-entry w h.given here.jobs s.jobs.items core.mirror.jobs h.held in
      none_is_some entry.entry (sym none ∙ entry.there)

-- an obligation that is done stands for no state to avoid
and-false : (a b : Bool) → b ≡ false → (a && b) ≡ false
and-false true b e = e
and-false false b e = refl

pub done-state : (sig : Sig) (history : List Event) (level : ℕ) (e : ObligationEntry) → is_unfinished e ≡ false → state_from sig history level e ≡ []
done-state sig history level e done =
    ap (λ b. cond (b && nat_eq e.level level) (option_to_list (option_map (state_cube sig) (option_and_then world_of (slice_get history e.found)))) [])
    (and-false (is_none e.parent) (is_unfinished e) done)

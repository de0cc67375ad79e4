-- What a run by the machine tells has a text, and where it says that a limit was met, it is so.
use Rattle.std.proofs.Common.{◌≡◌, ◌⊎◌, ◌∙◌, ℕ, suc, ◌+◌, ◌<◌, ◌≤◌, ◌^◌, nat_le, List, [], ◌∷◌, ◌++◌, length, Some, slice_get, sym, subst, inl, inr, refl, arith, leb-true, All}
use Rattle.std.specs.Prelude.{slice_index, slice_index_or}
use Rattle.std.proofs.lemmas.List.Elements.{All-nil, All-cons, All-head, All-tail}
use Rattle.fo_core.specs.declared.system.System.{System}
use Rattle.fo_core.specs.declared.world.World.{World}
use Rattle.fo_core.specs.Runs.{alone}
use Rattle.fo_core.specs.Sorted.{IsSystem}
use Rattle.fo_core.specs.Tables.{Fits}
use Rattle.fo_text.specs.Parts.{IsBetween}
use Rattle.up_claims.specs.declared.verdict.Kept.{Kept}
use Rattle.up_claims.specs.declared.verdict.Leave.{Leave}
use Rattle.up_claims.specs.declared.verdict.Link.{Link}
use Rattle.up_claims.specs.declared.verdict.Verdict.{Verdict}
use Rattle.up_claims.specs.declared.verdict.Verdict.TheVariants as V
use Rattle.up_claims.specs.Chains.{GoesOn, IsChain, IsEmbedded}
use Rattle.up_claims.specs.Verdicts.{IsLeave}
use Rattle.up_machine.specs.declared.end.End.{End}
use Rattle.up_machine.specs.declared.end.End.TheVariants as N
use Rattle.up_machine.specs.declared.event.Event.{Event}
use Rattle.up_machine.specs.declared.event.Event.TheVariants as E
use Rattle.up_machine.specs.declared.job.Short.TheVariants as S
use Rattle.up_machine.specs.declared.job.Task.TheVariants as T
use Rattle.up_machine.specs.declared.limits.Limits.{Limits}
use Rattle.up_machine.specs.Due.{IsClosedLevel, IsDue}
use Rattle.up_machine.specs.Legal.{IsLegal, Legal}
use Rattle.up_machine.specs.Machine.{Machine, Obligation, Trace, is_from, start}
use Rattle.up_machine.specs.Ranges.{AreInRange}
use Rattle.up_machine.specs.Replay.{happens, replay}
use Rattle.up_machine.specs.Sound.{IsBelow, IsFit, IsFrameSound}
use Rattle.up_machine.specs.Told.{AreLinks, HoldsShortest, IsToldBy, Told, ends, goes_on, kept_from, kept_of}
use Rattle.up_machine.proofs.Dues.{due_bounded, due_closed}
use Rattle.up_machine.proofs.Fit.{history_fit}
use Rattle.up_machine.proofs.FrameEvents.{given_sound, history_sound}
use Rattle.up_machine.proofs.Histories.{along, legal-first, legal-rest}
use Rattle.up_machine.proofs.Levels.{Levels}
use Rattle.up_machine.proofs.Lists.{all-kept, get-lt, kept-all, second_true, two_places}
use Rattle.up_machine.proofs.ToldHolds.{told_holds}
use Rattle.up_report.specs.ClauseTexts.{HasClause}
use Rattle.up_report.specs.Ranges.{AreMaps, HasCopies, HasLeaves, HasLink, HasLinks, HasVerdict}
use Rattle.updr_top.specs.Narrow.{HasFewVariables, IsNarrow, IsNarrowLeave, IsNarrowLink, IsNarrowWorld}
use Rattle.updr_top.specs.Searched.{IsSpent}

-- ---- limits

module _ (sys : System) (limits : Limits) where
  -- the frontier moves on only before the last frame that it may open
  before_last : (m : Machine) → IsDue sys limits m T.Advance → m.frontier < limits.frames
  before_last m (inl h) = absurd h
  before_last m (inr (_, inl h)) = absurd h
  before_last m (inr (_, inr (_, inl h))) = absurd h
  before_last m (inr (_, inr (_, inr (_, inl h)))) = absurd h
  before_last m (inr (_, inr (_, inr (_, inr (_, inl h))))) = absurd h
  before_last m (inr (_, inr (_, inr (_, inr (_, inr (_, inl h)))))) = absurd h
  before_last m (inr (_, inr (_, inr (_, inr (_, inr (_, inr (_, inl h))))))) = absurd h
  before_last m (inr (_, inr (_, inr (_, inr (_, inr (_, inr (_, inr (_, inl h)))))))) = h.1
  before_last m (inr (_, inr (_, inr (_, inr (_, inr (_, inr (_, inr (_, inr (_, h))))))))) = absurd h

  -- a run ends since its steps are spent only where they are
  steps_spent : (m : Machine) → IsDue sys limits m (T.Finish S.Spent) → limits.steps ≤ m.productive
  steps_spent m (inl h) = absurd h
  steps_spent m (inr (_, inl h)) = absurd h
  steps_spent m (inr (_, inr (_, inl h))) = absurd h
  steps_spent m (inr (_, inr (_, inr (_, inl h)))) = h
  steps_spent m (inr (_, inr (_, inr (_, inr (_, inl h))))) = absurd h
  steps_spent m (inr (_, inr (_, inr (_, inr (_, inr (_, inl h)))))) = absurd h
  steps_spent m (inr (_, inr (_, inr (_, inr (_, inr (_, inr (_, inl h))))))) = absurd h
  steps_spent m (inr (_, inr (_, inr (_, inr (_, inr (_, inr (_, inr (_, inl h)))))))) = absurd h
  steps_spent m (inr (_, inr (_, inr (_, inr (_, inr (_, inr (_, inr (_, inr (_, h))))))))) = absurd h

  frames_kept : (m : Machine) (e : Event) → m.frontier ≤ limits.frames → IsLegal sys limits m e → (happens m e).frontier ≤ limits.frames
  frames_kept m (E.Advance w) h legal = let next = before_last m legal.allowed in omega (arith, next)
  frames_kept m (E.Take w job) h legal = h
  frames_kept m (E.Seed w s) h legal = h
  frames_kept m (E.Secure w) h legal = h
  frames_kept m (E.Return w why) h legal = h
  frames_kept m (E.Learn w cube) h legal = h
  frames_kept m (E.Before w origin) h legal = h
  frames_kept m (E.Drop w c) h legal = h
  frames_kept m (E.Raise w) h legal = h
  frames_kept m (E.Fail w p) h legal = h
  frames_kept m (E.Close w end) h legal = h
  frames_kept m (E.Retire w gone by) h legal = h

  frames_within : (history : List Event) → 1 ≤ limits.frames → Legal sys limits history → (replay history).frontier ≤ limits.frames
  frames_within history some legal = along sys limits (λ m. m.frontier ≤ limits.frames) frames_kept start history some legal

  spent_by : (m : Machine) (w : ℕ) (end : End) (told : Verdict) → IsLegal sys limits m (E.Close w end) → IsToldBy sys m w end told → IsSpent limits told
  spent_by m w (N.Safe i) (V.Safe level clauses) legal tells = tt
  spent_by m w (N.Unsafe run) (V.Unsafe other) legal tells = tt
  spent_by m w N.NoUniversal (V.NoUniversal links) legal tells = tt
  spent_by m w N.Bounded (V.Bounded last clauses leaves) legal tells = subst (λ (n : ℕ). limits.frames ≤ n) (sym tells.last_is) (due_bounded sys limits m legal.allowed).1
  spent_by m w N.Spent (V.Spent steps) legal tells = subst (λ (n : ℕ). limits.steps ≤ n) (sym tells) (steps_spent m legal.allowed)
  spent_by m w (N.Over kind excess) (V.Over what weight) legal tells = subst (λ (n : ℕ). limits.weight < n) (sym tells.1) legal.allowed.above.above
  spent_by m w end told legal tells = absurd tells

-- ---- maps

module _ where
  all_images : (most : ℕ) (images : List ℕ) → ((x : ℕ) → x < length images → slice_index images x < most) → All (λ y. y < most) images
  all_images most [] h = All-nil (λ y. y < most)
  all_images most (y ∷ ys) h = All-cons (λ y. y < most) y ys (h 0 (omega arith)) (all_images most ys (λ x lt. h (suc x) (omega (arith, lt))))

  maps_of : (from to : List ℕ) (maps : List (List ℕ)) → length maps ≡ length from → length to ≡ length from → ((s : ℕ) → s < length from → length (slice_index_or maps s []) ≡ slice_index from s)
      → ((s x : ℕ) → s < length from → x < slice_index from s → slice_index (slice_index_or maps s []) x < slice_index to s) → AreMaps from to maps
  maps_of [] [] [] many same total within = tt
  maps_of [] [] (x ∷ xs) many same total within = absurd (omega (arith, many))
  maps_of [] (y ∷ ys) maps many same total within = absurd (omega (arith, same))
  maps_of (n ∷ from) [] maps many same total within = absurd (omega (arith, same))
  maps_of (n ∷ from) (m ∷ to) [] many same total within = absurd (omega (arith, many))
  maps_of (n ∷ from) (m ∷ to) (images ∷ maps) many same total within =
      let first : length images ≡ n = total 0 (omega arith) in (
        record { total = first; in_range = all_images m images (λ x lt. within 0 x (omega arith) (subst (λ (k : ℕ). x < k) first lt)) },
        maps_of from to maps (omega (arith, many)) (omega (arith, same)) (λ s lt. total (suc s) (omega (arith, lt))) (λ s x lt. within (suc s) x (omega (arith, lt))),
      )

module _ (sys : System) where
  -- ---- worlds and links

  has_copies : (copies : ℕ) (w : World) → Fits sys.sig w → length w.copies ≡ copies → copies < 2 ^ 32 → IsNarrowWorld w → HasCopies sys.sig copies w
  has_copies copies w fits many few narrow = (record { fits = fits; sizes = narrow; copies = omega (arith, many, few) }, many)

  link_ranged : (copies copy : ℕ) (link : Link) → Fits sys.sig link.origin → length link.origin.copies ≡ copies → copies < 2 ^ 32 → IsEmbedded sys link copy → IsNarrowLink link → HasLink sys.sig copies link
  link_ranged copies copy link fits many few is narrow =
      let maps = is.embeds.injections in record {
        origin = has_copies copies link.origin fits many few narrow.origin;
        state = has_copies 1 link.state is.state.fits is.state.one_copy (omega arith) narrow.state;
        map = maps_of link.state.sizes link.origin.sizes link.map.images maps.one_each (fits.sorts ∙ sym is.state.fits.sorts) maps.total maps.in_range;
      }

  next_ranged : (state : World) (links : List Link) → GoesOn sys state links → All IsNarrowLink links → All (HasLink sys.sig 2) links
  next_ranged state [] goes narrow = All-nil (HasLink sys.sig 2)
  next_ranged state (link ∷ links) goes narrow =
      let is = goes.0 in
      All-cons (HasLink sys.sig 2) link links
      (link_ranged 2 1 link is.origin.fits is.origin.two_copies (omega arith) is.embedded (All-head IsNarrowLink link links narrow))
      (next_ranged link.state links goes.1 (All-tail IsNarrowLink link links narrow))

  links_ranged : (links : List Link) → IsChain sys links → All IsNarrowLink links → HasLinks sys.sig links
  links_ranged [] chain narrow = chain
  links_ranged (link ∷ links) chain narrow =
      let is = chain.0 in (
        link_ranged 1 0 link is.origin.fits is.origin.one_copy (omega arith) is.embedded (All-head IsNarrowLink link links narrow),
        next_ranged link.state links chain.1 (All-tail IsNarrowLink link links narrow),
      )

  -- ---- leaves

  leaves_ranged : (clauses : List Kept) (from : ℕ) (leaves : List Leave) → ((k : ℕ) (leave : Leave) → slice_get leaves k ≡ Some leave → IsLeave sys clauses (from + k) leave) → All IsNarrowLeave leaves → HasLeaves sys.sig (length clauses) from leaves
  leaves_ranged clauses from [] each narrow = tt
  leaves_ranged clauses from (leave ∷ leaves) each narrow =
      let is = each 0 leave refl in
      let small = All-head IsNarrowLeave leave leaves narrow in
      let here : from + 0 ≡ from = omega arith in (
        record {
          level_is = is.level ∙ here;
          clause = get-lt clauses leave.clause is.kept is.clause;
          small = small.clause;
          step = has_copies 2 leave.step is.step.fits is.step.copies (omega arith) small.step;
        },
        leaves_ranged clauses (from + 1) leaves
            (λ k other there. let next : from + suc k ≡ from + 1 + k = omega arith in subst (λ (n : ℕ). IsLeave sys clauses n other) next (each (suc k) other there))
            (All-tail IsNarrowLeave leave leaves narrow),
      )

-- ---- verdicts

-- a chain has at most as many links as there are levels up to the frontier
few_links : (sys : System) (frontier : ℕ) (obligations : List Obligation) → Levels frontier obligations → (origin : World) (k : ℕ) (links : List Link) (o : Obligation) → slice_get obligations k ≡ Some o → AreLinks sys.sig obligations origin k links → o.level + length links ≤ suc frontier
few_links sys frontier obligations levels origin k links o there (ends _ _ x link x_there is seed) =
    let high = (levels k o there).high in
    omega (arith, high)
few_links sys frontier obligations levels origin k links o there (goes_on _ _ p x link rest x_there is x_parent more) =
    let same : x ≡ o = two_places obligations k x o x_there there in
    let parent = subst (λ (y : Obligation). y.parent ≡ Some p) same x_parent in
    let below = subst (IsBelow obligations o) parent (levels k o there).below in
    let rest_few = few_links sys frontier obligations levels x.world p rest below.0 below.1 more in
    let up = below.2 in
    omega (arith, up, rest_few)

-- what is so where a run ends
record IsEnd (sys : System) (limits : Limits) (m : Machine) : Type 0 where
  sound : IsFrameSound sys m
  fit : IsFit sys m
  frames : m.frontier ≤ 64

module _ (sys : System) (limits : Limits) (m : Machine) (is : IsEnd sys limits m) where
  clauses_ranged : (from least most : ℕ) → ((k : ℕ) → from ≤ k → 1 ≤ k → k ≤ suc m.frontier → IsBetween least most k) → All HasFewVariables (kept_from m.clauses from) → All (HasClause sys.sig least most) (kept_from m.clauses from)
  clauses_ranged from least most lies few =
      let narrow = all-kept kept_of HasFewVariables (is_from from) m.clauses few in
      kept-all kept_of (HasClause sys.sig least most) (is_from from) m.clauses
      (λ k c there test. record {
        level = lies c.level (leb-true from c.level (second_true c.live (nat_le from c.level) test)) (is.sound.each_clause k c there).low (is.sound.each_clause k c there).high;
        cube = is.fit.cubes k c there;
        few = narrow k c there test;
      })

  secure_within : (m.secure ≡ m.frontier) ⊎ (suc m.secure ≡ m.frontier) → m.secure ≤ m.frontier
  secure_within (inl same) = omega (arith, same)
  secure_within (inr next) = omega (arith, next)

  safe_ranged : (i : ℕ) → IsClosedLevel m i → All HasFewVariables (kept_from m.clauses (suc i)) → HasVerdict sys.sig (V.Safe i (kept_from m.clauses (suc i)))
  safe_ranged i closed few =
      let near = secure_within is.sound.secure_near in
      let low = closed.low in
      let high = closed.high in
      let most = is.frames in (
        (low, omega (arith, near, high, most)),
        clauses_ranged (suc i) (i + 1) 65 (λ k le some within. (omega (arith, le), omega (arith, within, most))) few,
      )

  bounded_ranged : (leaves : List Leave) → length leaves ≡ m.frontier → ((k : ℕ) (leave : Leave) → slice_get leaves k ≡ Some leave → IsLeave sys (kept_from m.clauses 0) (k + 1) leave)
      → All HasFewVariables (kept_from m.clauses 0) → All IsNarrowLeave leaves → HasVerdict sys.sig (V.Bounded m.frontier (kept_from m.clauses 0) leaves)
  bounded_ranged leaves many each few narrow = record {
    last_is = (is.sound.begun, is.frames);
    clauses_are = clauses_ranged 0 1 (m.frontier + 1) (λ k le some within. (some, omega (arith, within))) few;
    one_each = many;
    leaves_are =
        leaves_ranged sys (kept_from m.clauses 0) 1 leaves
        (λ k leave there. let turned : k + 1 ≡ 1 + k = omega arith in subst (λ (n : ℕ). IsLeave sys (kept_from m.clauses 0) n leave) turned (each k leave there)) narrow;
  }

  ranged_by : (w : ℕ) (end : End) (told : Verdict) → IsLegal sys limits m (E.Close w end) → IsToldBy sys m w end told → HoldsShortest sys told → IsNarrow told → HasVerdict sys.sig told
  ranged_by w (N.Safe i) (V.Safe level clauses) legal tells holds narrow =
      let here = safe_ranged i (due_closed sys limits m i legal.allowed) (subst (All HasFewVariables) tells.1 narrow) in
      subst (λ (ks : List Kept). HasVerdict sys.sig (V.Safe level ks)) (sym tells.1) (subst (λ (n : ℕ). HasVerdict sys.sig (V.Safe n (kept_from m.clauses (suc i)))) (sym tells.0) here)
  ranged_by w (N.Unsafe run) (V.Unsafe other) legal tells holds narrow =
      let may = legal.allowed in
      let trace = given_sound sys m is.sound w (Trace may.trace.obligation may.trace.steps) may.trace.held in
      let steps = trace.steps_are in
      let within = may.found.within in
      let most = is.frames in
      let long : length run.copies ≡ may.steps + 1 = may.found.run.copies in
      let few : length run.copies ≤ 65 = omega (arith, steps, within, most, long) in
      let fits : Fits sys.sig run = may.found.run.run.run.fits in
      let text : HasVerdict sys.sig (V.Unsafe run) = (record { fits = fits; sizes = subst IsNarrowWorld tells narrow; copies = omega (arith, few) }, few) in
      subst (λ (r : World). HasVerdict sys.sig (V.Unsafe r)) (sym tells) text
  ranged_by w N.NoUniversal (V.NoUniversal links) legal tells holds narrow =
      let many = few_links sys m.frontier m.obligations is.sound.levels (alone tells.root 0) tells.trace.obligation links tells.obligation tells.there tells.chain in
      let most = is.frames in
      (links_ranged sys links holds.0 narrow, omega (arith, many, most))
  ranged_by w N.Bounded (V.Bounded last clauses leaves) legal tells holds narrow =
      let each = subst (λ (ks : List Kept). (k : ℕ) (leave : Leave) → slice_get leaves k ≡ Some leave → IsLeave sys ks (k + 1) leave) tells.clauses_are holds.left.each in
      let here = bounded_ranged leaves tells.leaves_are.one_each each (subst (All HasFewVariables) tells.clauses_are narrow.0) narrow.1 in
      subst (λ (ks : List Kept). HasVerdict sys.sig (V.Bounded last ks leaves)) (sym tells.clauses_are) (subst (λ (n : ℕ). HasVerdict sys.sig (V.Bounded n (kept_from m.clauses 0) leaves)) (sym tells.last_is) here)
  ranged_by w N.Spent (V.Spent steps) legal tells holds narrow = narrow
  ranged_by w (N.Over kind excess) (V.Over what weight) legal tells holds narrow = narrow
  ranged_by w end told legal tells holds narrow = absurd tells

-- ---- histories

module _ (sys : System) (limits : Limits) (history : List Event) (legal : Legal sys limits history) (told : Verdict) (tells : Told sys history told) where
  abbrev whole : List Event
  whole = E.Close tells.worker tells.end ∷ []

  parted : Legal sys limits (tells.before ++ whole)
  parted = subst (Legal sys limits) tells.closes legal

  closes : IsLegal sys limits (replay tells.before) (E.Close tells.worker tells.end)
  closes = (legal-rest sys limits start tells.before whole parted).0

  -- a limit that is told to be met is met
  pub told_spent : IsSpent limits told
  told_spent = spent_by sys limits (replay tells.before) tells.worker tells.end told closes tells.tells

  -- what is told has a text, if its numbers are in range
  pub told_ranged : IsSystem sys → AreInRange limits → IsNarrow told → HasVerdict sys.sig told
  told_ranged good range narrow =
      let before = legal-first sys limits start tells.before whole parted in
      let frames = frames_within sys limits tells.before range.frames.low before in
      let most : limits.frames ≤ 64 = range.frames.high in
      let is : IsEnd sys limits (replay tells.before) = record {
        sound = history_sound sys limits tells.before before;
        fit = history_fit sys limits tells.before good before;
        frames = omega (arith, frames, most);
      } in
      ranged_by sys limits (replay tells.before) is tells.worker tells.end told closes tells.tells (told_holds sys limits history told good legal tells) narrow

-- What changes to clauses, obligations and jobs leave of the frames' soundness.
use Rattle.std.proofs.Common.{◌≡◌, ℕ, suc, ◌-◌, ◌≤◌, Bool, true, inl, inr, List, [], ◌∷◌, ◌++◌, filter, Option, Some, slice_get, refl, sym, ap, subst, ◌∙◌, arith}
use Rattle.fo_core.specs.declared.system.System.{System}
use Rattle.up_diagram.specs.declared.cube.Cube.{Cube}
use Rattle.up_claims.specs.Blocked.{NoStep, NoSeed}
use Rattle.up_machine.specs.declared.job.Job.TheVariants as J
use Rattle.up_machine.specs.Machine.{Clause, Obligation, Given, Work, Look, Push, Trace, Held, Machine, cubes_from, frame}
use Rattle.up_machine.specs.Replay.{change_at, raised, retired}
use Rattle.up_machine.specs.Due.{job_of}
use Rattle.up_machine.specs.Legal.{IsCover}
use Rattle.up_machine.specs.Sound.{IsOnePush, IsSoundClause, IsStillRefuted, IsPartOf, IsSoundGiven, FramesAreSound, IsFrameSound}
use Rattle.up_machine.proofs.Lists.{get-append, get-push, IsPushed, get-change, get-changed, IsChanged, get-filter, any-of_place}
use Rattle.up_machine.proofs.Frames.{pushed_grown, raised_grown, avoids-each, Stronger, same_stronger, grown_stronger, retire_stronger, frame_stronger}
use Rattle.up_machine.proofs.Levels.{Stays, same_stays, Levels}

module _ (sys : System) where
  pub no_step_kept : (cs ds : List Clause) (i : ℕ) (cube : Cube) → Stronger sys cs ds → NoStep sys (frame cs i) cube → NoStep sys (frame ds i) cube
  no_step_kept cs ds i cube g h w c fits lt here step = h w c fits lt (frame_stronger sys cs ds i w c g here) step

  no_seed_kept : (cs ds : List Clause) (i : ℕ) → Stronger sys cs ds → NoSeed sys (cubes_from cs i) [] → NoSeed sys (cubes_from ds i) []
  no_seed_kept cs ds i g h w c fits lt state here bad apart = h w c fits lt state (g i w c here) bad apart

  pub clause_kept : (n p : ℕ) (cs ds : List Clause) (c : Clause) → Stronger sys cs ds → n ≤ p → IsSoundClause sys n cs c → IsSoundClause sys p ds c
  clause_kept n p cs ds c g le h = record { low = h.low; high = omega (arith, h.high, le); no_initial = h.no_initial; no_step = no_step_kept cs ds (c.level - 1) c.cube g h.no_step }

  -- a clause that stays as it is is still refuted; so is one that stands and is live
  refuted_kept : (cs ds : List Clause) (c : Clause) → Stronger sys cs ds → IsStillRefuted sys cs c → IsStillRefuted sys ds c
  refuted_kept cs ds c g h w n apart = h w n (g c.level w n apart)

  live_refuted : (cs : List Clause) (k : ℕ) (c : Clause) → slice_get cs k ≡ Some c → c.live ≡ true → IsStillRefuted sys cs c
  live_refuted cs k c there live w n apart = avoids-each sys cs c.level w n apart k c there live (omega arith)

  part_kept : (n : ℕ) (cs ds : List Clause) (i : ℕ) (old : Option (List Cube)) → Stronger sys cs ds → IsPartOf sys n cs i old → IsPartOf sys n ds i old
  part_kept n cs ds i old g h w c here = h w c (frame_stronger sys cs ds i w c g here)

  -- a job that is out stays as it was given, where its clause stays
  pub given_kept : (n : ℕ) (cs ds : List Clause) (os ps : List Obligation) (g : Given) → Stronger sys cs ds → Stays os ps →
      ((k : ℕ) (c : Clause) → job_of g ≡ J.Push k → slice_get cs k ≡ Some c → slice_get ds k ≡ Some c) →
      IsSoundGiven sys n cs os g → IsSoundGiven sys n ds ps g
  given_kept n cs ds os ps (Work k level below world) stronger stays same h =
      let r = stays k h.obligation h.there in
      record {
        obligation = r.now;
        there = r.there;
        level_is = r.level ∙ h.level_is;
        world_is = r.world ∙ h.world_is;
        low = h.low;
        high = h.high;
        part = part_kept n cs ds (level - 1) below stronger h.part;
      }
  given_kept n cs ds os ps (Look level cubes avoid done) stronger stays same h =
      record { level_is = h.level_is; part = part_kept n cs ds level (Some cubes) stronger h.part }
  given_kept n cs ds os ps (Push k level cubes cube) stronger stays same h =
      record {
        clause = h.clause;
        there = same k h.clause refl h.there;
        level_is = h.level_is;
        cube_is = h.cube_is;
        live = h.live;
        high = h.high;
        part = part_kept n cs ds level (Some cubes) stronger h.part;
      }
  given_kept n cs ds os ps (Trace k steps) stronger stays same h =
      let r = stays k h.obligation h.there in
      record { obligation = r.now; there = r.there; steps_are = h.steps_are ∙ ap (λ x. n - x) (sym r.level) }

-- no clause is pushed by two of these that were among those
one_push_filter : (test : Held → Bool) (js : List Held) → IsOnePush js → IsOnePush (filter test js)
one_push_filter test js h i j k a b e f is js' =
    let x = get-filter test js i a e in
    let y = get-filter test js j b f in
    h x.0 y.0 k a b x.1 y.1 is js'

module _ (sys : System) (n s : ℕ) (cs : List Clause) (os : List Obligation) (js : List Held) (sound : FramesAreSound sys n s cs os js) where
  -- obligations change, and jobs end
  pub obligations_change : (ps : List Obligation) (test : Held → Bool) → Stays os ps → Levels n ps → FramesAreSound sys n s cs ps (filter test js)
  obligations_change ps test stays levels =
      record {
        begun = sound.begun;
        each_clause = sound.each_clause;
        live_or_gone = sound.live_or_gone;
        secure_near = sound.secure_near;
        secure_holds = sound.secure_holds;
        levels = levels;
        each_job = λ k h e. let x = get-filter test js k h e in given_kept sys n cs cs os ps h.given (same_stronger sys cs) stays (λ _ _ _ there. there) (sound.each_job x.0 h x.1);
        one_push = one_push_filter test js sound.one_push;
      }

  -- a live clause comes
  module _ (ps : List Obligation) (test : Held → Bool) (c : Clause) (stays : Stays os ps) (levels : Levels n ps) (live : c.live ≡ true) (good : IsSoundClause sys n cs c) where
    abbrev with_clause : List Clause
    with_clause = cs ++ c ∷ []

    comes_stronger : Stronger sys cs with_clause
    comes_stronger = grown_stronger sys cs with_clause (pushed_grown cs c)

    comes_sound : (k : ℕ) (d : Clause) → IsPushed cs c k d → IsSoundClause sys n with_clause d
    comes_sound k d (inl there) = clause_kept sys n n cs with_clause d comes_stronger (omega arith) (sound.each_clause k d there)
    comes_sound k d (inr new) = clause_kept sys n n cs with_clause d comes_stronger (omega arith) (subst (IsSoundClause sys n cs) new.1 good)

    comes_refuted : (k : ℕ) (d : Clause) → slice_get with_clause k ≡ Some d → IsPushed cs c k d → IsStillRefuted sys with_clause d
    comes_refuted k d e (inl there) = refuted_kept sys cs with_clause d comes_stronger (sound.live_or_gone k d there)
    comes_refuted k d e (inr new) = live_refuted sys with_clause k d e (subst (λ (x : Clause). x.live ≡ true) new.1 live)

    pub clause_comes : FramesAreSound sys n s with_clause ps (filter test js)
    clause_comes =
        record {
          begun = sound.begun;
          each_clause = λ k d e. comes_sound k d (get-push cs c k d e);
          live_or_gone = λ k d e. comes_refuted k d e (get-push cs c k d e);
          secure_near = sound.secure_near;
          secure_holds = λ low. no_seed_kept sys cs with_clause s comes_stronger (sound.secure_holds low);
          levels = levels;
          each_job = λ k h e. let x = get-filter test js k h e in given_kept sys n cs with_clause os ps h.given comes_stronger stays (λ i d _ there. get-append cs (c ∷ []) i d there) (sound.each_job x.0 h x.1);
          one_push = one_push_filter test js sound.one_push;
        }

  -- a live clause rises, and no job that stays out pushes it
  pub record MayRise (k : ℕ) (c : Clause) : Type 0 where
    pub high : suc c.level ≤ suc n
    pub no_step : NoStep sys (frame cs c.level) c.cube
    pub live : c.live ≡ true

  module _ (test : Held → Bool) (k : ℕ) (good : (c : Clause) → slice_get cs k ≡ Some c → MayRise k c) (free : (j : ℕ) (h : Held) → slice_get js j ≡ Some h → test h ≡ true → ¬ (job_of h.given ≡ J.Push k)) where
    abbrev with_raised : List Clause
    with_raised = change_at k raised cs

    rises_stronger : Stronger sys cs with_raised
    rises_stronger = grown_stronger sys cs with_raised (raised_grown cs k)

    rises_sound : (i : ℕ) (d x : Clause) → slice_get cs i ≡ Some x → IsChanged k raised i x d → IsSoundClause sys n with_raised d
    rises_sound i d x there (inl h) =
        let up = good x (subst (λ j. slice_get cs j ≡ Some x) (sym h.0) there) in
        let old = sound.each_clause i x there in
        let one_less : x.level ≡ suc x.level - 1 = omega arith in
        let new : IsSoundClause sys n with_raised (raised x) = record {
          low = omega arith;
          high = up.high;
          no_initial = old.no_initial;
          no_step = subst (λ j. NoStep sys (frame with_raised j) x.cube) one_less (no_step_kept sys cs with_raised x.level x.cube rises_stronger up.no_step);
        } in
        subst (IsSoundClause sys n with_raised) h.1 new
    rises_sound i d x there (inr h) = clause_kept sys n n cs with_raised d rises_stronger (omega arith) (subst (IsSoundClause sys n cs) h (sound.each_clause i x there))

    rises_refuted : (i : ℕ) (d : Clause) → slice_get with_raised i ≡ Some d → (x : Clause) → slice_get cs i ≡ Some x → IsChanged k raised i x d → IsStillRefuted sys with_raised d
    rises_refuted i d e x there (inl h) =
        let up = good x (subst (λ j. slice_get cs j ≡ Some x) (sym h.0) there) in
        live_refuted sys with_raised i d e (sym (ap (λ (y : Clause). y.live) h.1) ∙ up.live)
    rises_refuted i d e x there (inr h) = refuted_kept sys cs with_raised d rises_stronger (subst (IsStillRefuted sys cs) h (sound.live_or_gone i x there))

    rises_same : (h : Held) → ¬ (job_of h.given ≡ J.Push k) → (i : ℕ) (c : Clause) → job_of h.given ≡ J.Push i → slice_get cs i ≡ Some c → slice_get with_raised i ≡ Some c
    rises_same h not_k i c is there = let r = get-change k raised cs i c there in at r.0 r.1 r.2
      where
        at : (d : Clause) → slice_get with_raised i ≡ Some d → IsChanged k raised i c d → slice_get with_raised i ≡ Some c
        at d e (inl p) = absurd (not_k (is ∙ ap J.Push (sym p.0)))
        at d e (inr p) = e ∙ ap Some (sym p)

    pub clause_rises : FramesAreSound sys n s with_raised os (filter test js)
    clause_rises =
        record {
          begun = sound.begun;
          each_clause = λ i d e. let x = get-changed k raised cs i d e in rises_sound i d x.0 x.1 x.2;
          live_or_gone = λ i d e. let x = get-changed k raised cs i d e in rises_refuted i d e x.0 x.1 x.2;
          secure_near = sound.secure_near;
          secure_holds = λ low. no_seed_kept sys cs with_raised s rises_stronger (sound.secure_holds low);
          levels = sound.levels;
          each_job = λ i h e.
              let x = get-filter test js i h e in
              given_kept sys n cs with_raised os os h.given rises_stronger (same_stays os) (rises_same h (free x.0 h x.1 x.2)) (sound.each_job x.0 h x.1);
          one_push = one_push_filter test js sound.one_push;
        }

-- a clause goes: the jobs out stay, for none of them pushes it
module _ (sys : System) (m : Machine) (sound : IsFrameSound sys m) (gone by : ℕ) (cover : IsCover m gone by) where
  abbrev without_gone : List Clause
  without_gone = change_at gone retired m.clauses

  goes_stronger : Stronger sys m.clauses without_gone
  goes_stronger = retire_stronger sys m gone by cover

  goes_sound : (k : ℕ) (d x : Clause) → slice_get m.clauses k ≡ Some x → IsChanged gone retired k x d → IsSoundClause sys m.frontier without_gone d
  goes_sound k d x there (inl h) =
      let old = clause_kept sys m.frontier m.frontier m.clauses without_gone x goes_stronger (omega arith) (sound.each_clause k x there) in
      let new : IsSoundClause sys m.frontier without_gone (retired x) = record { low = old.low; high = old.high; no_initial = old.no_initial; no_step = old.no_step } in
      subst (IsSoundClause sys m.frontier without_gone) h.1 new
  goes_sound k d x there (inr h) =
      clause_kept sys m.frontier m.frontier m.clauses without_gone d goes_stronger (omega arith) (subst (IsSoundClause sys m.frontier m.clauses) h (sound.each_clause k x there))

  goes_refuted : (k : ℕ) (d x : Clause) → slice_get m.clauses k ≡ Some x → IsChanged gone retired k x d → IsStillRefuted sys without_gone d
  goes_refuted k d x there (inl h) =
      let old = refuted_kept sys m.clauses without_gone x goes_stronger (sound.live_or_gone k x there) in
      let new : IsStillRefuted sys without_gone (retired x) = λ w n apart. old w n apart in
      subst (IsStillRefuted sys without_gone) h.1 new
  goes_refuted k d x there (inr h) = refuted_kept sys m.clauses without_gone d goes_stronger (subst (IsStillRefuted sys m.clauses) h (sound.live_or_gone k x there))

  goes_same : (h : Held) → ¬ (job_of h.given ≡ J.Push gone) → (i : ℕ) (c : Clause) → job_of h.given ≡ J.Push i → slice_get m.clauses i ≡ Some c → slice_get without_gone i ≡ Some c
  goes_same h not_gone i c is there = let r = get-change gone retired m.clauses i c there in at r.0 r.1 r.2
    where
      at : (d : Clause) → slice_get without_gone i ≡ Some d → IsChanged gone retired i c d → slice_get without_gone i ≡ Some c
      at d e (inl p) = absurd (not_gone (is ∙ ap J.Push (sym p.0)))
      at d e (inr p) = e ∙ ap Some (sym p)

  pub clause_goes : FramesAreSound sys m.frontier m.secure without_gone m.obligations m.jobs
  clause_goes =
      record {
        begun = sound.begun;
        each_clause = λ k d e. let x = get-changed gone retired m.clauses k d e in goes_sound k d x.0 x.1 x.2;
        live_or_gone = λ k d e. let x = get-changed gone retired m.clauses k d e in goes_refuted k d x.0 x.1 x.2;
        secure_near = sound.secure_near;
        secure_holds = λ low. no_seed_kept sys m.clauses without_gone m.secure goes_stronger (sound.secure_holds low);
        levels = sound.levels;
        each_job = λ j h e.
            given_kept sys m.frontier m.clauses without_gone m.obligations m.obligations h.given goes_stronger (same_stays m.obligations)
            (goes_same h (λ is. cover.not_out (any-of_place (λ (x : Held). job_of x.given ≡ J.Push gone) m.jobs j h e is))) (sound.each_job j h e);
        one_push = sound.one_push;
      }

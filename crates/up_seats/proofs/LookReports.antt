-- What a seat reports of a look.
use Rattle.std.proofs.Common.{◌≡◌, ◌≢◌, ℕ, ◌<◌, Bool, true, false, List, [], ◌∷◌, length, sum, refl, sym, ap, subst, ◌∙◌, ◌==◌, eqb-true, eq-eqb, true≢false, arith}
use Rattle.std.specs.Prelude.{◌^◌, ⊤}
use Rattle.fo_core.specs.declared.system.System.{System}
use Rattle.fo_core.specs.declared.world.World.{World}
use Rattle.fo_core.specs.QueryWeight.{query_weight}
use Rattle.fo_min.specs.declared.found.Excess.{Excess}
use Rattle.fo_min.specs.declared.found.Least.{Least}
use Rattle.fo_min.specs.declared.found.Least.TheVariants as L
use Rattle.up_diagram.specs.declared.cube.Cube.{Cube}
use Rattle.up_claims.specs.declared.kind.Kind.TheVariants as K
use Rattle.up_claims.specs.InferAsked.{for_seed}
use Rattle.up_claims.specs.InferQueries.{seed_query}
use Rattle.up_claims.proofs.InferLemmas.{asks-seed}
use Rattle.up_machine.specs.declared.brief.Brief.{Brief}
use Rattle.up_machine.specs.declared.end.End.TheVariants as N
use Rattle.up_machine.specs.declared.event.Event.TheVariants as E
use Rattle.up_machine.specs.declared.event.Why.TheVariants as Y
use Rattle.up_machine.specs.declared.not_now.NotNow.TheVariants as W
use Rattle.up_machine.specs.Finding.{state_cubes, HoldsLook}
use Rattle.up_machine.specs.Legal.{HasNoSeed, MayFindNoMore, MaySecure}
use Rattle.up_machine.specs.Machine.{Given, Work, Look, Push, Trace}
use Rattle.up_machine.specs.Sound.{IsFitGiven}
use Rattle.up_jobs.specs.declared.solved.Solved.{Solved}
use Rattle.up_jobs.specs.declared.solved.Solved.TheVariants as S
use Rattle.up_jobs.specs.Reporting.{HasAnswer}
use Rattle.up_jobs.specs.Solving.{IsAnswer, NoneOver}
use Rattle.up_jobs.proofs.Events.{may-refute-seed, may-secure, may-find-no-more, look-over}
use Rattle.up_jobs.proofs.Givens.{states-sorted}
use Rattle.up_jobs.proofs.OneAnswer.{one-answer}
use Rattle.up_core.specs.Known.{IsNotNow}
use Rattle.up_core.specs.View.{CoreView, now}
use Rattle.up_seats.specs.Seats.{IsAnswered}
use Rattle.up_seats.specs.Telling.{CostsStep, HasAnswered, IsToTell}
use Rattle.up_seats.proofs.Costly.{same-held, costs-step, to-tell, to-tell-free, to-end-over}
use Rattle.up_seats.proofs.FewElements.{few-elements}
use Rattle.up_seats.proofs.SoundCore.{IsSoundCore, fit-held, low-weight, few-of}

-- what a look was to avoid, and that there is no seed in its frame
abbrev avoid_of : Given → List World
avoid_of (Look level frame avoid done) = avoid
avoid_of given = []

abbrev NoSeedOf : System → Given → Type 0
NoSeedOf sys (Look level frame avoid done) = HasNoSeed sys frame avoid
NoSeedOf sys given = ⊤

module _ (c : CoreView) (seat level : ℕ) (frame : List Cube) (avoid : List World) (done : ℕ) (brief : Brief) where
  abbrev look : Given
  look = Look level frame avoid done

  abbrev Found : Solved → Type 0
  Found solved = HasAnswer c.sys c.limits (now c) seat look brief solved

  abbrev looks : (solved : Solved) → Found solved → HoldsLook (now c) seat
  looks solved h = record { level = level; frame = frame; avoid = avoid; done = done; held = h.held }

  answer : (solved : Solved) → Found solved → IsAnswer c.sys c.limits.weight look solved
  answer solved h = h.answer look h.brief_is

  -- all looks that the seat holds are this one
  same-look : (solved : Solved) → Found solved → (other : HoldsLook (now c) seat) → Look other.level other.frame other.avoid other.done ≡ look
  same-look solved h other = same-held c.sys c.limits (now c) seat look h.held seat (Look other.level other.frame other.avoid other.done) refl other.held

  look-costs : (solved : Solved) → Found solved → NoneOver c.sys c.limits.weight look → ¬ MayFindNoMore c.sys (now c) seat → CostsStep c seat
  look-costs solved h none no_more = costs-step c seat look h.held none (λ trace. trace) no_more

  -- 1. a seed

  module _ (sound : IsSoundCore c) (s : World) (h : Found (S.Look (L.Model s))) where
    fit : IsFitGiven c.sys.sig look
    fit = fit-held c sound seat look h.held

    not-no_more : ¬ MayFindNoMore c.sys (now c) seat
    not-no_more may =
        let none : HasNoSeed c.sys frame avoid = subst (NoSeedOf c.sys) (same-look (S.Look (L.Model s)) h may.look) may.none in
        let found = answer (S.Look (L.Model s)) h in
        let same : S.Look (L.Model s) ≡ S.Look L.Nothing = one-answer c.sys sound.system c.limits.weight look fit (S.Look (L.Model s)) (S.Look L.Nothing) found (none, found.1) in
        cc

    seed-costs : CostsStep c seat
    seed-costs = look-costs (S.Look (L.Model s)) h (answer (S.Look (L.Model s)) h).1 not-no_more

    tells-seed : IsToTell c seat (E.Seed seat s)
    tells-seed = to-tell c seat (E.Seed seat s) seed-costs refl (record { look = looks (S.Look (L.Model s)) h; found = (answer (S.Look (L.Model s)) h).0 }) tt

    tells-refuted : (k : ℕ) → IsNotNow c (E.Seed seat s) (W.Refuted k) → IsToTell c seat (E.Return seat (Y.Refuted s k))
    tells-refuted k refused =
        to-tell c seat (E.Return seat (Y.Refuted s k)) seed-costs refl
        (may-refute-seed c.sys c.limits (now c) brief seat level frame avoid done s k h refused.1) (refused.0.affordable refl)

    few-in-seed : sum s.sizes < 2 ^ 32
    few-in-seed =
        let cubes = state_cubes c.sys.sig avoid in
        let q = seed_query c.sys frame cubes in
        let found = answer (S.Look (L.Model s)) h in
        let apart = states-sorted c.sys.sig sound.system.signature avoid fit.1 in
        let sorted = (asks-seed c.sys frame cubes sound.system fit.0 apart).sorted in
        few-of c sound (sum s.sizes)
        (few-elements c.sys.sig q c.limits.weight sound.system.signature sorted s found.0
        (λ before p asked light above. found.1 K.Seed (record { weight = query_weight c.sys.sig p; query = p })
        (record { before = before; asked = for_seed before p asked; light = light; weighs = refl; above = above }))
        (low-weight c sound))

  -- 2. nothing, or nothing further

  module _ (h : Found (S.Look L.Nothing)) where
    tells-secure : brief.avoid ≡ [] → IsToTell c seat (E.Secure seat)
    tells-secure nothing =
        let may : MaySecure c.sys (now c) seat = may-secure c.sys c.limits (now c) brief seat level frame avoid done h nothing in
        let costs = look-costs (S.Look L.Nothing) h (answer (S.Look L.Nothing) h).1
        (λ other. other.something_avoided (ap avoid_of (same-look (S.Look L.Nothing) h other.look ∙ sym (same-look (S.Look L.Nothing) h may.look)) ∙ may.nothing_avoided)) in
        to-tell c seat (E.Secure seat) costs refl may tt

    tells-no_more : brief.avoid ≢ [] → IsToTell c seat (E.Return seat Y.NoMore)
    tells-no_more something =
        to-tell-free c seat (E.Return seat Y.NoMore) look h.held (answer (S.Look L.Nothing) h).1 refl refl
        (may-find-no-more c.sys c.limits (now c) brief seat level frame avoid done h something) tt

  -- 3. a query that is too heavy

  tells-look-over : (x : Excess) → Found (S.Look (L.Over x)) → IsToTell c seat (E.Close seat (N.Over K.Seed x))
  tells-look-over x h = to-end-over c seat K.Seed x (look-over c.sys c.limits (now c) brief seat level frame avoid done x h)

-- the same of whatever the seat holds

module _ (c : CoreView) (seat : ℕ) (brief : Brief) (least : Least) where
  of-look : (P : Type 0) → IsAnswered c seat brief (S.Look least) →
      ((level : ℕ) (frame : List Cube) (avoid : List World) (done : ℕ) → HasAnswer c.sys c.limits (now c) seat (Look level frame avoid done) brief (S.Look least) → P) → P
  of-look P (Look level frame avoid done, h) f = f level frame avoid done h
  of-look P (Work k level below world, h) f = absurd (h.answer (Work k level below world) h.brief_is).0
  of-look P (Push k level frame cube, h) f = absurd (h.answer (Push k level frame cube) h.brief_is).0
  of-look P (Trace k steps, h) f = absurd (h.answer (Trace k steps) h.brief_is).0

module _ (c : CoreView) (seat : ℕ) where
  pub to-seed : (s : World) → IsSoundCore c → HasAnswered c seat (S.Look (L.Model s)) → IsToTell c seat (E.Seed seat s)
  to-seed s sound h = of-look c seat h.0 (L.Model s) (IsToTell c seat (E.Seed seat s)) h.1 (λ level frame avoid done found. tells-seed c seat level frame avoid done h.0 sound s found)

  pub to-refute-seed : (s : World) (k : ℕ) → IsSoundCore c → HasAnswered c seat (S.Look (L.Model s)) → IsNotNow c (E.Seed seat s) (W.Refuted k) → IsToTell c seat (E.Return seat (Y.Refuted s k))
  to-refute-seed s k sound h refused = of-look c seat h.0 (L.Model s) (IsToTell c seat (E.Return seat (Y.Refuted s k))) h.1 (λ level frame avoid done found. tells-refuted c seat level frame avoid done h.0 sound s found k refused)

  pub few-of-seed : (s : World) → IsSoundCore c → HasAnswered c seat (S.Look (L.Model s)) → sum s.sizes < 2 ^ 32
  few-of-seed s sound h = of-look c seat h.0 (L.Model s) (sum s.sizes < 2 ^ 32) h.1 (λ level frame avoid done found. few-in-seed c seat level frame avoid done h.0 sound s found)

  pub to-secure : (brief : Brief) → IsAnswered c seat brief (S.Look L.Nothing) → brief.avoid ≡ [] → IsToTell c seat (E.Secure seat)
  to-secure brief h nothing = of-look c seat brief L.Nothing (IsToTell c seat (E.Secure seat)) h (λ level frame avoid done found. tells-secure c seat level frame avoid done brief found nothing)

  pub to-find-no-more : (brief : Brief) → IsAnswered c seat brief (S.Look L.Nothing) → brief.avoid ≢ [] → IsToTell c seat (E.Return seat Y.NoMore)
  to-find-no-more brief h something = of-look c seat brief L.Nothing (IsToTell c seat (E.Return seat Y.NoMore)) h (λ level frame avoid done found. tells-no_more c seat level frame avoid done brief found something)

  pub to-end-look : (brief : Brief) (x : Excess) → IsAnswered c seat brief (S.Look (L.Over x)) → IsToTell c seat (E.Close seat (N.Over K.Seed x))
  to-end-look brief x h = of-look c seat brief (L.Over x) (IsToTell c seat (E.Close seat (N.Over K.Seed x))) h (λ level frame avoid done found. tells-look-over c seat level frame avoid done brief x found)

-- a slice is empty exactly where its length is 0
pub of-empty : (xs ys : List Cube) (b : Bool) → xs ≡ ys → b ≡ (length xs == 0) → b ≡ true → ys ≡ []
of-empty [] ys b same is empty = sym same
of-empty (x ∷ xs) ys b same is empty = let long = eqb-true (length (x ∷ xs)) 0 (sym is ∙ empty) in absurd (omega (arith, long))

pub of-some : (xs ys : List Cube) (b : Bool) → xs ≡ ys → b ≡ (length xs == 0) → b ≡ false → ys ≢ []
of-some xs ys b same is full none = let none_there : length xs ≡ 0 = ap length (same ∙ none) in true≢false (sym (eq-eqb (length xs) 0 none_there) ∙ sym is ∙ full)

-- What a seat reports of a work.
use Rattle.std.proofs.Common.{ℕ, ◌<◌, List, [], ◌∷◌, Option, sum, refl, sym, subst}
use Rattle.std.specs.Prelude.{◌^◌, ⊤}
use Rattle.fo_core.specs.declared.system.System.{System}
use Rattle.fo_core.specs.declared.world.World.{World}
use Rattle.fo_core.specs.Asked.{at_first}
use Rattle.fo_core.specs.Finds.{IsLight}
use Rattle.fo_core.specs.QueryWeight.{query_weight}
use Rattle.std.proofs.lemmas.List.Elements.{All-nil, All-cons}
use Rattle.fo_min.specs.declared.found.Excess.{Excess}
use Rattle.up_diagram.specs.declared.cube.Cube.{Cube}
use Rattle.up_claims.specs.declared.kind.Kind.{Kind}
use Rattle.up_claims.specs.declared.kind.Kind.TheVariants as K
use Rattle.up_claims.specs.InferAsked.{for_root, for_step}
use Rattle.up_claims.specs.InferQueries.{root_query, before_query}
use Rattle.up_claims.proofs.BlockedLemmas.{initial-by-query}
use Rattle.up_claims.proofs.InferLemmas.{asks-before}
use Rattle.up_block.specs.declared.blocking.Blocking.{Blocking}
use Rattle.up_block.specs.declared.blocking.Blocking.TheVariants as B
use Rattle.up_machine.specs.declared.brief.Brief.{Brief}
use Rattle.up_machine.specs.declared.end.End.TheVariants as N
use Rattle.up_machine.specs.declared.event.Event.TheVariants as E
use Rattle.up_machine.specs.declared.event.Origin.TheVariants as O
use Rattle.up_machine.specs.declared.event.Why.TheVariants as Y
use Rattle.up_machine.specs.declared.not_now.NotNow.TheVariants as W
use Rattle.up_machine.specs.Finding.{state_cube, HoldsWork}
use Rattle.up_machine.specs.Legal.{IsFoundStep, of_step}
use Rattle.up_machine.specs.Machine.{Given, Work, Look, Push, Trace}
use Rattle.up_machine.specs.Sound.{IsFitGiven}
use Rattle.up_machine.proofs.SortedDiagrams.{diagram_sorted}
use Rattle.up_jobs.specs.declared.solved.Solved.TheVariants as S
use Rattle.up_jobs.specs.Reporting.{HasAnswer}
use Rattle.up_jobs.specs.Solving.{IsAnswer, NoneOver}
use Rattle.up_jobs.proofs.Events.{work-over}
use Rattle.up_core.specs.Known.{IsNotNow, RefutesOwn}
use Rattle.up_core.specs.View.{CoreView, now}
use Rattle.up_seats.specs.Telling.{CostsStep, HasAnswered, IsToTell}
use Rattle.up_seats.proofs.Costly.{same-held, not-look, costs-step, to-tell, to-end-over}
use Rattle.up_seats.proofs.FewElements.{light-of, few-elements}
use Rattle.up_seats.proofs.SoundCore.{IsSoundCore, fit-held, low-weight, few-of}

-- that the step was found
abbrev FoundStepOf : System → World → Given → Type 0
FoundStepOf sys p (Work k level below world) = IsFoundStep sys below world p
FoundStepOf sys p given = ⊤

-- what a search may find that is too heavy in none of its queries
abbrev pub IsWithin : Blocking → Type 0
IsWithin (B.Over what x) = ⊥
IsWithin blocking = ⊤

module _ (c : CoreView) (seat k level : ℕ) (below : Option (List Cube)) (world : World) (brief : Brief) where
  abbrev work : Given
  work = Work k level below world

  abbrev Found : Blocking → Type 0
  Found b = HasAnswer c.sys c.limits (now c) seat work brief (S.Work b)

  abbrev works : (b : Blocking) → Found b → HoldsWork (now c) seat
  works b h = record { obligation = k; level = level; below = below; world = world; held = h.held }

  answer : (b : Blocking) → Found b → IsAnswer c.sys c.limits.weight work (S.Work b)
  answer b h = h.answer work h.brief_is

  none-over : (b : Blocking) → IsWithin b → Found b → NoneOver c.sys c.limits.weight work
  none-over (B.Blocked cube) within h = (answer (B.Blocked cube) h).1
  none-over (B.Initial u) within h = (answer (B.Initial u) h).1
  none-over (B.Step p) within h = (answer (B.Step p) h).1
  none-over (B.Over what x) within h = absurd within

  work-costs : (b : Blocking) → IsWithin b → Found b → CostsStep c seat
  work-costs b within h = costs-step c seat work h.held (none-over b within h) (λ trace. trace) (λ may. not-look c.sys c.limits (now c) seat work h.held (λ look. look) may.look)

  tells-learn : (cube : Cube) → Found (B.Blocked cube) → IsToTell c seat (E.Learn seat cube)
  tells-learn cube h = to-tell c seat (E.Learn seat cube) (work-costs (B.Blocked cube) tt h) refl (record { work = works (B.Blocked cube) h; found = (answer (B.Blocked cube) h).0 }) tt

  tells-root : (u : World) → Found (B.Initial u) → IsToTell c seat (E.Before seat (O.Initial u))
  tells-root u h = to-tell c seat (E.Before seat (O.Initial u)) (work-costs (B.Initial u) tt h) refl (record { work = works (B.Initial u) h; found = (answer (B.Initial u) h).0 }) tt

  tells-step : (p : World) → Found (B.Step p) → IsToTell c seat (E.Before seat (O.Step p))
  tells-step p h = to-tell c seat (E.Before seat (O.Step p)) (work-costs (B.Step p) tt h) refl (record { work = works (B.Step p) h; found = (answer (B.Step p) h).0 }) tt

  tells-drop : (b : Blocking) (n : ℕ) → IsWithin b → Found b → RefutesOwn c seat n → IsToTell c seat (E.Drop seat n)
  tells-drop b n within h own = to-tell c seat (E.Drop seat n) (work-costs b within h) refl (record { work = own.work; refuter = own.refuter }) tt

  module _ (p : World) (h : Found (B.Step p)) where
    tells-refuted : (n : ℕ) → IsNotNow c (E.Before seat (O.Step p)) (W.Refuted n) → IsToTell c seat (E.Return seat (Y.Refuted p n))
    tells-refuted n refuted =
        let r = refuted.1 in
        let same = same-held c.sys c.limits (now c) seat work h.held seat (Work r.work.obligation r.work.level r.work.below r.work.world) refl r.work.held in
        let found : IsFoundStep c.sys r.work.below r.work.world p = subst (FoundStepOf c.sys p) (sym same) (answer (B.Step p) h).0 in
        to-tell c seat (E.Return seat (Y.Refuted p n)) (work-costs (B.Step p) tt h) refl
        (of_step (record { work = r.work; found = found; inside = r.inside; refuter = r.refuter })) (refuted.0.affordable refl)

    few-in-step : IsSoundCore c → sum p.sizes < 2 ^ 32
    few-in-step sound =
        let cube = state_cube c.sys.sig world in
        let root = root_query c.sys cube in
        let limit = c.limits.weight in
        let found = answer (B.Step p) h in
        let fit : IsFitGiven c.sys.sig work = fit-held c sound seat work h.held in
        let known = diagram_sorted c.sys.sig world 0 sound.system.signature fit.1 fit.1.some_copy in
        let no_root = (initial-by-query c.sys sound.system cube known).0 found.0.no_root in
        let root_light : IsLight c.sys.sig limit root = light-of c.sys.sig root limit
        (λ before q asked light above. found.1 K.Root (record { weight = query_weight c.sys.sig q; query = q })
        (record { before = before; asked = for_root before q asked; light = light; weighs = refl; above = above }))
        [] root at_first (All-nil (IsLight c.sys.sig limit)) in
        few-of c sound (sum p.sizes)
        (few-elements c.sys.sig (before_query c.sys below cube) limit sound.system.signature (asks-before c.sys below cube sound.system fit.0 known).sorted p found.0.least
        (λ before q asked light above. found.1 K.Before (record { weight = query_weight c.sys.sig q; query = q })
        (record {
          before = root ∷ before;
          asked = for_step before q no_root asked;
          light = All-cons (IsLight c.sys.sig limit) root before root_light light;
          weighs = refl;
          above = above;
        }))
        (low-weight c sound))

  tells-over : (what : Kind) (x : Excess) → Found (B.Over what x) → IsToTell c seat (E.Close seat (N.Over what x))
  tells-over what x h = to-end-over c seat what x (work-over c.sys c.limits (now c) brief seat k level below world what x h)

-- the same of whatever the seat holds

module _ (c : CoreView) (seat : ℕ) where
  of-work : (b : Blocking) (P : Type 0) → HasAnswered c seat (S.Work b) →
      ((k level : ℕ) (below : Option (List Cube)) (world : World) (brief : Brief) → HasAnswer c.sys c.limits (now c) seat (Work k level below world) brief (S.Work b) → P) → P
  of-work b P (brief, (Work k level below world, h)) f = f k level below world brief h
  of-work b P (brief, (Look level frame avoid done, h)) f = absurd (h.answer (Look level frame avoid done) h.brief_is).0
  of-work b P (brief, (Push k level frame cube, h)) f = absurd (h.answer (Push k level frame cube) h.brief_is).0
  of-work b P (brief, (Trace k steps, h)) f = absurd (h.answer (Trace k steps) h.brief_is).0

  pub to-learn : (cube : Cube) → HasAnswered c seat (S.Work (B.Blocked cube)) → IsToTell c seat (E.Learn seat cube)
  to-learn cube h = of-work (B.Blocked cube) (IsToTell c seat (E.Learn seat cube)) h (λ k level below world brief found. tells-learn c seat k level below world brief cube found)

  pub to-root : (u : World) → HasAnswered c seat (S.Work (B.Initial u)) → IsToTell c seat (E.Before seat (O.Initial u))
  to-root u h = of-work (B.Initial u) (IsToTell c seat (E.Before seat (O.Initial u))) h (λ k level below world brief found. tells-root c seat k level below world brief u found)

  pub to-step : (p : World) → HasAnswered c seat (S.Work (B.Step p)) → IsToTell c seat (E.Before seat (O.Step p))
  to-step p h = of-work (B.Step p) (IsToTell c seat (E.Before seat (O.Step p))) h (λ k level below world brief found. tells-step c seat k level below world brief p found)

  pub to-drop : (b : Blocking) (n : ℕ) → IsWithin b → HasAnswered c seat (S.Work b) → RefutesOwn c seat n → IsToTell c seat (E.Drop seat n)
  to-drop b n within h own = of-work b (IsToTell c seat (E.Drop seat n)) h (λ k level below world brief found. tells-drop c seat k level below world brief b n within found own)

  pub to-refute-step : (p : World) (n : ℕ) → HasAnswered c seat (S.Work (B.Step p)) → IsNotNow c (E.Before seat (O.Step p)) (W.Refuted n) → IsToTell c seat (E.Return seat (Y.Refuted p n))
  to-refute-step p n h refuted = of-work (B.Step p) (IsToTell c seat (E.Return seat (Y.Refuted p n))) h (λ k level below world brief found. tells-refuted c seat k level below world brief p found n refuted)

  pub few-of-step : (p : World) → IsSoundCore c → HasAnswered c seat (S.Work (B.Step p)) → sum p.sizes < 2 ^ 32
  few-of-step p sound h = of-work (B.Step p) (sum p.sizes < 2 ^ 32) h (λ k level below world brief found. few-in-step c seat k level below world brief p found sound)

  pub to-end-work : (what : Kind) (x : Excess) → HasAnswered c seat (S.Work (B.Over what x)) → IsToTell c seat (E.Close seat (N.Over what x))
  to-end-work what x h = of-work (B.Over what x) (IsToTell c seat (E.Close seat (N.Over what x))) h (λ k level below world brief found. tells-over c seat k level below world brief what x found)

-- What is told by looking at the worlds of links and leaves.
use Rattle.std.proofs.Common.{◌≡◌, ◌↔◌, ℕ, zero, suc, Bool, true, false, true≢false, ◌-◌, ◌<◌, ◌≤◌, List, [], ◌∷◌, ◌==◌, Option, None, Some, Result, Ok, Err, IfOk, length, refl, sym, subst, ◌∙◌, arith}
use Rattle.std.specs.Prelude.{IsTrue, MatchOption, is_some, slice_get}
use Rattle.std.specs.List.{All}
use Rattle.std.specs.declared.alloc.AllocError.{AllocError}
use Rattle.std.proofs.lemmas.Option.{get_or_from_slice_get}
use Rattle.fo_core.specs.declared.system.System.{System}
use Rattle.fo_core.specs.declared.world.World.{World}
use Rattle.fo_core.specs.RunLaws.{IsLoneState, IsLoneInitial}
use Rattle.fo_core.specs.Runs.{IsState, IsInitial, IsStep, alone}
use Rattle.fo_core.specs.Tables.{IsReadable}
use Rattle.fo_core.specs.Truth.{Truth}
use Rattle.fo_core.proofs.Answered.{answered}
use Rattle.fo_eval.specs.Asked.{CanJudge, IsFirstFalse, IsFirstStep}
use Rattle.fo_eval.specs.Values.{Values}
use Rattle.up_diagram.specs.declared.cube.Cube.{Cube}
use Rattle.up_diagram.specs.Cubes.{Meets}
use Rattle.up_claims.specs.declared.verdict.Kept.{Kept}
use Rattle.up_claims.specs.declared.verdict.Leave.{Leave}
use Rattle.up_claims.specs.declared.verdict.Link.{Link}
use Rattle.up_claims.specs.Finding.{IsStepInto}
use Rattle.up_claims.specs.Frames.{Avoids}
use Rattle.up_claims.specs.Verdicts.{cubes_from, printed_frame, IsLeave}
use Rattle.up_cert.specs.Asked.{CanLook}
use Rattle.up_cert.specs.VerdictSpots.{last_copy, link_at, HasState, ComesFrom, EndsBadly}
use Rattle.up_cert.proofs.SpotLemmas.{unviolated, violated}

-- a world may be looked at in each of its copies
pub can-judge : (sys : System) (env : Values) (w : World) (c : ℕ) → CanLook sys env → IsReadable sys.sig w → c < length w.copies → CanJudge sys w c env
can-judge sys env w c look is lt = record { system = look.system; readable = is; within = lt; empty = look.empty; room = look.room }

-- it has a first copy and a last one
pub first-there : (sys : System) (w : World) → IsReadable sys.sig w → 0 < length w.copies
first-there sys w is = is.fits.some_copy

pub last-there : (sys : System) (w : World) → IsReadable sys.sig w → last_copy w < length w.copies
last-there sys w is = let some = is.fits.some_copy in omega (arith, some)

-- where a call's environment is the one before, it may go on to be looked with
pub look-on : (sys : System) (env new : Values) → new ≡ env → CanLook sys env → CanLook sys new
look-on sys env new is look = subst (CanLook sys) (sym is) look

module _ (sys : System) where
  -- ---- links

  pub lone-state : (w : World) (b : Bool) → IsReadable sys.sig w → length w.copies ≡ 1 → (IsTrue b ↔ IsState sys w 0) → IsTrue b ↔ IsLoneState sys w
  lone-state w b is one h = answered (λ s. record { fits = is.fits; one_copy = one; state = s }) (λ l. l.state) h

  pub lone-initial : (w : World) (b : Bool) → IsReadable sys.sig w → length w.copies ≡ 1 → (IsTrue b ↔ IsInitial sys w 0) → IsTrue b ↔ IsLoneInitial sys w
  lone-initial w b is one h = answered (λ s. record { fits = is.fits; one_copy = one; initial = s }) (λ l. l.initial) h

  pub has-state : (link : Link) (b : Bool) → IsLoneState sys link.state → (IsTrue b ↔ IsState sys link.origin (last_copy link.origin)) → IsTrue b ↔ HasState sys link
  has-state link b lone h = answered (λ s. record { state = lone; origin = s }) (λ l. l.origin) h

  pub unstepped : (w : World) (c : ℕ) (r : Option ℕ) → MatchOption r (¬ IsStep sys w c) (IsFirstStep sys w c) → is_some r ≡ false → ¬ IsStep sys w c
  unstepped w c None h e = h
  unstepped w c (Some k) h e = absurd (true≢false e)

  pub comes-from : (before : World) (link : Link) (b : Bool) → IsReadable sys.sig link.origin → length link.origin.copies ≡ 2 → IsStep sys link.origin 0 → (IsTrue b ↔ (alone link.origin 0 ≡ before)) → IsTrue b ↔ ComesFrom sys before link
  comes-from before link b is two step h =
      answered (λ s. record { step = record { fits = is.fits; two_copies = two; step = step }; same = s }) (λ l. l.same) h

  -- where some link is there, and its list isn't empty
  pub some-links : (links : List Link) → (length links == 0) ≡ false → 0 < length links
  some-links [] e = absurd (true≢false e)
  some-links (link ∷ links) e = omega arith

  pub ends-badly : (links : List Link) (r : Option ℕ) → 0 < length links →
      MatchOption r (All (λ f. Truth sys.sig (link_at links (length links - 1)).state 0 f []) sys.safeties) (IsFirstFalse sys.sig (link_at links (length links - 1)).state 0 sys.safeties) →
      IsTrue (is_some r) ↔ EndsBadly sys links
  ends-badly links r some h = (
    λ e. record { some = some; violates = violated sys (link_at links (length links - 1)).state 0 r h e },
    λ bad. by_answer r h bad,
  )
    where
      by_answer : (r : Option ℕ) →
          MatchOption r (All (λ f. Truth sys.sig (link_at links (length links - 1)).state 0 f []) sys.safeties) (IsFirstFalse sys.sig (link_at links (length links - 1)).state 0 sys.safeties) →
          EndsBadly sys links → is_some r ≡ true
      by_answer None h bad = absurd (unviolated sys (link_at links (length links - 1)).state 0 None h refl bad.violates)
      by_answer (Some k) h bad = refl

  -- ---- leaves

  pub step-into : (cubes : List Cube) (cube : Cube) (w : World) (b : Bool) → IsReadable sys.sig w → length w.copies ≡ 2 → IsStep sys w 0 → Avoids sys.sig w 0 cubes → (IsTrue b ↔ Meets sys.sig w 1 cube) → IsTrue b ↔ IsStepInto sys (Some cubes) cube w
  step-into cubes cube w b is two step outside h =
      answered (λ m. record { fits = is.fits; copies = two; in_frame = (step.state, outside); step = step; meets = m }) (λ s. s.meets) h

  pub step-into-ok : (cubes : List Cube) (cube : Cube) (w : World) (r : Result Bool AllocError) → IsReadable sys.sig w → length w.copies ≡ 2 → IsStep sys w 0 → Avoids sys.sig w 0 cubes → IfOk r (λ b. IsTrue b ↔ Meets sys.sig w 1 cube) → IfOk r (λ b. IsTrue b ↔ IsStepInto sys (Some cubes) cube w)
  step-into-ok cubes cube w (Ok b) is two step outside h = step-into cubes cube w b is two step outside h
  step-into-ok cubes cube w (Err e) is two step outside h = tt

  module _ (clauses : List Kept) (level : ℕ) (leave : Leave) where
    leave-told : (kept : Kept) (b : Bool) → 1 ≤ level → leave.level ≡ level → slice_get clauses leave.clause ≡ Some kept → kept.level ≡ level → (IsTrue b ↔ IsStepInto sys (Some (cubes_from clauses level)) kept.cube leave.step) → IsTrue b ↔ IsLeave sys clauses level leave
    leave-told kept b some is at exact h = answered there back h
      where
        framed : (i : ℕ) → 1 ≤ i → printed_frame clauses i ≡ Some (cubes_from clauses i)
        framed zero le = absurd (omega (arith, le))
        framed (suc i) le = refl

        there : IsStepInto sys (Some (cubes_from clauses level)) kept.cube leave.step → IsLeave sys clauses level leave
        there s = record {
          level = is;
          kept = kept;
          clause = at;
          exact = exact;
          step = subst (λ (frame : Option (List Cube)). IsStepInto sys frame kept.cube leave.step) (sym (framed level some)) s;
        }

        back : IsLeave sys clauses level leave → IsStepInto sys (Some (cubes_from clauses level)) kept.cube leave.step
        back l =
            let same : l.kept ≡ kept = sym (get_or_from_slice_get clauses leave.clause l.kept kept l.clause) ∙ get_or_from_slice_get clauses leave.clause kept kept at in
            subst (λ (k : Kept). IsStepInto sys (Some (cubes_from clauses level)) k.cube leave.step) same
            (subst (λ (frame : Option (List Cube)). IsStepInto sys frame l.kept.cube leave.step) (framed level some) l.step)

    pub leave-told-ok : (kept : Kept) (r : Result Bool AllocError) → 1 ≤ level → leave.level ≡ level → slice_get clauses leave.clause ≡ Some kept → kept.level ≡ level → IfOk r (λ b. IsTrue b ↔ IsStepInto sys (Some (cubes_from clauses level)) kept.cube leave.step) → IfOk r (λ b. IsTrue b ↔ IsLeave sys clauses level leave)
    leave-told-ok kept (Ok b) some is at exact h = leave-told kept b some is at exact h
    leave-told-ok kept (Err e) some is at exact h = tt

-- Elements for one sort after another.
use Rattle.std.proofs.Common.{◌≡◌, ℕ, true, false, Bool, ◌↔◌, ◌+◌, ◌-◌, ◌<◌, ◌≤◌, List, [], ◌∷◌, ◌++◌, length, get_or, take, drop, refl, sym, subst, ◌∙◌, arith, append_assoc, append-nil, length-append, inl, inr, ◌⊎◌}
use Rattle.std.specs.List.{All, AllZip}
use Rattle.std.specs.Prelude.{slice_index, IsTrue}
use Rattle.std.proofs.lemmas.Bool.{cases_lt}
use Rattle.std.proofs.lemmas.List.{take_all, get_or_default}
use Rattle.std.proofs.lemmas.List.Elements.{AllZip-push, All-head, All-tail}
use Rattle.fo_core.specs.declared.signature.Sig.{Sig}
use Rattle.fo_core.specs.declared.formula.Formula.{Formula}
use Rattle.fo_core.specs.declared.world.World.{World}
use Rattle.fo_core.specs.Truth.{Truth}
use Rattle.fo_core.specs.declared.system.Step.{Step}
use Rattle.fo_core.specs.declared.system.System.{System}
use Rattle.fo_core.specs.Runs.{KeepsOthers, LeadsOn, IsStep}
use Rattle.fo_core.proofs.MoreCopies.{formula-more}
use Rattle.fo_eval.specs.Values.{Values}
use Rattle.fo_eval.specs.Asked.{CanHold, CanJudge, CanFill, SomeFill}
use Rattle.fo_core.proofs.Answered.{never, always}
use Rattle.fo_eval.proofs.HoldLemmas.{pushed}

pub rest_of : (ps : List ℕ) → take (length ps - 1) (drop 1 ps) ≡ drop 1 ps
rest_of [] = refl
rest_of (p ∷ ps) = take_all (length (p ∷ ps) - 1) ps (omega arith)

module _ (sig : Sig) (w : World) (c : ℕ) (env : Values) (body : Formula) where
  -- with no sort left
  pub CanFill-none : (ps : List ℕ) → length ps ≡ 0 → CanFill sig w c env ps body → CanHold sig w c env body
  CanFill-none (p ∷ ps) e h = absurd (omega arith)
  CanFill-none [] e h = record {
    sorts = h.sorts;
    elements = h.elements;
    sorted = rw append-nil at h.sorted;
    room = omega (arith, h.room);
  }

  pub none-either : (ps : List ℕ) (b : Bool) → length ps ≡ 0 → (IsTrue b ↔ Truth sig w c body env.bound) → IsTrue b ↔ SomeFill sig w c env.bound ps body
  none-either (p ∷ ps) b e h = absurd (omega arith)
  none-either [] b e h = (λ t. ([], tt, rw append-nil (h.0 t)), λ f. h.1 (from f.0 f.1 f.2))
    where
      from : (xs : List ℕ) → AllZip (λ x s. x < slice_index w.sizes s) xs [] → Truth sig w c body (env.bound ++ xs) → Truth sig w c body env.bound
      from [] h t = rw append-nil at t
      from (x ∷ xs) h t = absurd h

  -- with a sort
  pub CanFill-more : (ps : List ℕ) (x : ℕ) → 0 < length ps → CanFill sig w c env ps body → x < slice_index w.sizes (get_or ps 0 0) → CanFill sig w c (pushed env x) (drop 1 ps) body
  CanFill-more [] x some h lt = absurd (omega arith)
  CanFill-more (p ∷ ps) x some h lt = record {
    sorts = h.sorts ++ p ∷ [];
    elements = AllZip-push (λ x s. x < slice_index w.sizes s) env.bound h.sorts x p h.elements lt;
    sorted = rw append_assoc h.sorted;
    known = All-tail (λ s. s < length w.sizes) p ps h.known;
    room = omega (arith, h.room, length-append env.bound (x ∷ []));
  }

  pub CanFill-sort : (ps : List ℕ) → 0 < length ps → CanFill sig w c env ps body → (get_or ps 0 0 < length w.sizes) × (length env.bound < env.room)
  CanFill-sort [] some h = absurd (omega arith)
  CanFill-sort (p ∷ ps) some h = (All-head (λ s. s < length w.sizes) p ps h.known, omega (arith, h.room))

  pub some-true : (ps : List ℕ) (x : ℕ) → 0 < length ps → x < slice_index w.sizes (get_or ps 0 0) → SomeFill sig w c (env.bound ++ x ∷ []) (drop 1 ps) body → IsTrue true ↔ SomeFill sig w c env.bound ps body
  some-true [] x some lt h = absurd (omega arith)
  some-true (p ∷ ps) x some lt h = always (SomeFill sig w c env.bound (p ∷ ps) body) (x ∷ h.0, (lt, h.1), rw append_assoc at h.2)

  pub some-false : (ps : List ℕ) (n : ℕ) → 0 < length ps → slice_index w.sizes (get_or ps 0 0) ≤ n → ((x : ℕ) → x < n → ¬ SomeFill sig w c (env.bound ++ x ∷ []) (drop 1 ps) body) → IsTrue false ↔ SomeFill sig w c env.bound ps body
  some-false [] n some le none = absurd (omega arith)
  some-false (p ∷ ps) n some le none = never (SomeFill sig w c env.bound (p ∷ ps) body) (λ h. fails h.0 h.1 h.2)
    where
      fails : (xs : List ℕ) → AllZip (λ x s. x < slice_index w.sizes s) xs (p ∷ ps) → Truth sig w c body (env.bound ++ xs) → ⊥
      fails [] h t = absurd h
      fails (x ∷ xs) h t = none x (omega (arith, h.0)) (xs, h.1, rw append_assoc t)

pub LeadsOn-either : (sys : System) (w : World) (c : ℕ) (step : Step) (vs : List ℕ) (b : Bool) → vs ≡ [] → SomeFill sys.sig w c vs step.params step.body → (IsTrue b ↔ KeepsOthers sys w c step.modifies) → IsTrue b ↔ LeadsOn sys w c step
LeadsOn-either sys w c step vs b e some keeps =
    let led : SomeFill sys.sig w c [] step.params step.body = subst (λ vs. SomeFill sys.sig w c vs step.params step.body) e some in
    (λ h. record { filled = led; keeps = keeps.0 h }, λ l. keeps.1 l.keeps)

-- a transition of a system may be asked about
pub CanJudge-at : (sys : System) (w : World) (c : ℕ) (env : Values) (k : ℕ) (d : Step) → CanJudge sys w c env → c + 1 < length w.copies → k < length sys.steps → let step = get_or sys.steps k d in CanFill sys.sig w c env step.params step.body
CanJudge-at sys w c env k d h next lt =
    let step = get_or sys.steps k d in
    let is = h.system.steps k d lt in
    record {
      sorts = [];
      elements = subst (λ vs. AllZip (λ x s. x < slice_index w.sizes s) vs []) (sym h.empty) tt;
      sorted = formula-more sys.sig 2 (length w.copies - c) (omega (arith, next)) step.body step.params is.body;
      known = subst (λ n. All (λ s. s < n) step.params) (sym h.readable.fits.sorts) is.params;
      room = rw h.empty (omega (arith, h.room.steps k d lt));
    }

-- so may the next copy be judged
pub CanJudge-next : (sys : System) (w : World) (c : ℕ) (env : Values) → CanJudge sys w c env → c + 1 < length w.copies → CanJudge sys w (c + 1) env
CanJudge-next sys w c env h next = record { system = h.system; readable = h.readable; within = next; empty = h.empty; room = h.room }

pub no_step : (sys : System) (w : World) (c n : ℕ) → length sys.steps ≤ n → ((k : ℕ) (d : Step) → k < n → ¬ LeadsOn sys w c (get_or sys.steps k d)) → ¬ IsStep sys w c
no_step sys w c n le none h = let a = h.leads in none a.0 a.1 (omega (arith, a.2)) (subst (LeadsOn sys w c) (sym a.3) a.4)

-- what holds of the elements before a place, and of the one there, holds before the next place
pub one_more : {X : Type 0} (P : X → Type 0) (xs : List X) (i : ℕ) (x : X) → i < length xs → x ≡ get_or xs i x → ((k : ℕ) (d : X) → k < i → P (get_or xs k d)) → P x → (k : ℕ) (d : X) → k < i + 1 → P (get_or xs k d)
one_more {X} P xs i x within is before here k d lt = by_place (cases_lt k i)
  where
    by_place : (k < i) ⊎ (i ≤ k) → P (get_or xs k d)
    by_place (inl below) = before k d below
    by_place (inr le) = let same : i ≡ k = omega arith in subst (λ k. P (get_or xs k d)) same (subst P (is ∙ get_or_default xs i x d within) here)

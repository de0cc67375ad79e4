-- A system's properties are inductive exactly where no case of its verification breaks.
use Rattle.std.proofs.Common.{◌≡◌, ℕ, zero, suc, ◌+◌, ◌<◌, ◌≤◌, ◌↔◌, inl, inr, [], ◌∷◌, ◌++◌, Option, Some, None, IfSome, length, sym, subst, arith, length-append}
use Rattle.std.specs.List.{All, Contains}
use Rattle.std.proofs.lemmas.List.Elements.{All-nil, All-append, All-push, All-contains, All-weaker, Contains-append_left, Contains-append_right, Contains-push}
use Rattle.std.proofs.lemmas.Bool.{cases_lt}
use Rattle.fo_core.specs.declared.system.System.{System}
use Rattle.fo_core.specs.declared.world.World.{World}
use Rattle.fo_core.specs.Sorted.{IsSystem}
use Rattle.up_claims.specs.Breaking.{Breaks}
use Rattle.up_claims.specs.Claims.{properties}
use Rattle.up_claims.specs.Inductive.{IsInductive, NothingBreaks}
use Rattle.up_claims.specs.VerifyQueries.{Case, cases_at, step_cases, verify_cases, NeverBreaks}
use Rattle.up_claims.proofs.InductiveLemmas.{inductive-there, inductive-back}

-- the transition and the property of the case have numbers below these
pub record IsBelow (count steps : ℕ) (c : Case) : Type 0 where
  pub property : c.property < count
  pub step : IfSome c.step (λ t. t < steps)

one_below : (count steps : ℕ) (step : Option ℕ) → IfSome step (λ t. t < steps) → (n : ℕ) → n ≤ count → All (IsBelow count steps) (cases_at step n)
one_below count steps step known zero le = All-nil (IsBelow count steps)
one_below count steps step known (suc n) le =
    All-push (IsBelow count steps) (cases_at step n) (record { step = step; property = n })
    (one_below count steps step known n (omega (arith, le))) (record { property = omega (arith, le); step = known })

steps_below : (count steps : ℕ) → (n : ℕ) → n ≤ steps → All (IsBelow count steps) (step_cases count n)
steps_below count steps zero le = All-nil (IsBelow count steps)
steps_below count steps (suc n) le =
    All-append (IsBelow count steps) (step_cases count n) (cases_at (Some n) count)
    (steps_below count steps n (omega (arith, le))) (one_below count steps (Some n) (omega (arith, le)) count (omega arith))

pub cases_below : (sys : System) → All (IsBelow (length (properties sys)) (length sys.steps)) (verify_cases sys)
cases_below sys =
    let count = length (properties sys) in
    let steps = length sys.steps in
    All-append (IsBelow count steps) (cases_at None count) (step_cases count steps)
    (one_below count steps None tt count (omega arith)) (steps_below count steps steps (omega arith))

-- ---- each is among them

last_there : (step : Option ℕ) (p n : ℕ) → p ≡ n → Contains (cases_at step n ++ record { step = step; property = n } ∷ []) (record { step = step; property = p })
last_there step p n is = subst (λ (q : ℕ). Contains (cases_at step n ++ record { step = step; property = n } ∷ []) (record { step = step; property = q })) (sym is) (Contains-push (cases_at step n) (record { step = step; property = n }))

one_there : (step : Option ℕ) (p n : ℕ) → p < n → Contains (cases_at step n) (record { step = step; property = p })
one_there step p zero lt = absurd (omega (arith, lt))
one_there step p (suc n) lt = elim (cases_lt p n) [
  | inl less ↦ Contains-append_left (cases_at step n) (record { step = step; property = n } ∷ []) (record { step = step; property = p }) (one_there step p n less)
  | inr more ↦ last_there step p n (omega (arith, lt, more))
]

steps_last : (count t p n : ℕ) → t ≡ n → p < count → Contains (step_cases count n ++ cases_at (Some n) count) (record { step = Some t; property = p })
steps_last count t p n is has =
    Contains-append_right (step_cases count n) (cases_at (Some n) count) (record { step = Some t; property = p })
    (subst (λ (s : ℕ). Contains (cases_at (Some s) count) (record { step = Some t; property = p })) is (one_there (Some t) p count has))

step_there : (count t p n : ℕ) → t < n → p < count → Contains (step_cases count n) (record { step = Some t; property = p })
step_there count t p zero lt has = absurd (omega (arith, lt))
step_there count t p (suc n) lt has = elim (cases_lt t n) [
  | inl less ↦ Contains-append_left (step_cases count n) (cases_at (Some n) count) (record { step = Some t; property = p }) (step_there count t p n less has)
  | inr more ↦ steps_last count t p n (omega (arith, lt, more)) has
]

module _ (sys : System) where
  abbrev count : ℕ
  count = length (properties sys)

  count_is : length (properties sys) ≡ length sys.safeties + length sys.invariants
  count_is = length-append sys.safeties sys.invariants

  pub none_breaks : All (NeverBreaks sys) (verify_cases sys) → NothingBreaks sys
  none_breaks all = record { at_init = at_init; by_step = by_step }
    where
      at_init : (p : ℕ) (w : World) → p < length sys.safeties + length sys.invariants → ¬ Breaks sys None p w
      at_init p w lt =
          All-contains (NeverBreaks sys) (verify_cases sys) (record { step = None; property = p }) all
          (Contains-append_left (cases_at None count) (step_cases count (length sys.steps)) (record { step = None; property = p }) (one_there None p count (omega (arith, lt, count_is)))) w

      by_step : (t p : ℕ) (w : World) → t < length sys.steps → p < length sys.safeties + length sys.invariants → ¬ Breaks sys (Some t) p w
      by_step t p w known lt =
          All-contains (NeverBreaks sys) (verify_cases sys) (record { step = Some t; property = p }) all
          (Contains-append_right (cases_at None count) (step_cases count (length sys.steps)) (record { step = Some t; property = p }) (step_there count t p (length sys.steps) known (omega (arith, lt, count_is)))) w

  pub each_never : NothingBreaks sys → All (NeverBreaks sys) (verify_cases sys)
  each_never h = All-weaker (IsBelow count (length sys.steps)) (NeverBreaks sys) one (verify_cases sys) (cases_below sys)
    where
      of : (step : Option ℕ) (p : ℕ) → IfSome step (λ t. t < length sys.steps) → p < count → (w : World) → ¬ Breaks sys step p w
      of None p known lt w = h.at_init p w (omega (arith, lt, count_is))
      of (Some t) p known lt w = h.by_step t p w known (omega (arith, lt, count_is))

      one : (c : Case) → IsBelow count (length sys.steps) c → NeverBreaks sys c
      one c below = of c.step c.property below.step below.property

  pub inductive_by_cases : IsSystem sys → IsInductive sys (properties sys) ↔ All (NeverBreaks sys) (verify_cases sys)
  inductive_by_cases is = (λ h. each_never (inductive-there sys is h), λ all. inductive-back sys is (none_breaks all))

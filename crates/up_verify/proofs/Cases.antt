-- The first case that doesn't pass is one.
use Rattle.std.proofs.Common.{◌≡◌, ◌↔◌, ◌<◌, ◌≤◌, ◌+◌, ◌∙◌, ◌++◌, ℕ, zero, suc, inl, inr, List, [], ◌∷◌, Option, Some, None, Result, Ok, Err, IfOk, sym, subst, ap, ap₂, refl, arith, length, length-append, append_assoc}
use Rattle.std.specs.List.{All}
use Rattle.std.specs.declared.alloc.AllocError.{AllocError}
use Rattle.std.proofs.lemmas.Bool.{cases_lt}
use Rattle.std.proofs.lemmas.List.Elements.{All-nil, All-head, All-tail, All-append, All-weaker, All-cons}
use Rattle.fo_core.specs.declared.finder.Found.TheVariants as found
use Rattle.fo_core.specs.declared.query.Query.{Query}
use Rattle.fo_core.specs.declared.formula.Formula.{Formula}
use Rattle.fo_core.specs.declared.system.System.{System}
use Rattle.fo_core.specs.declared.world.World.{World}
use Rattle.fo_core.specs.Finds.{IsAnswer}
use Rattle.fo_core.specs.Queries.{MeetsQuery}
use Rattle.fo_core.specs.QueryWeight.{query_weight}
use Rattle.fo_core.specs.Sorted.{IsSystem}
use Rattle.up_claims.specs.Breaking.{Breaks}
use Rattle.up_claims.specs.Claims.{properties, verify_copies, verify_claims}
use Rattle.up_claims.specs.Inductive.{IsInductive}
use Rattle.up_claims.specs.VerifyQueries.{Case, cases_at, step_cases, verify_cases, verify_query_of, verify_weight, NeverBreaks}
use Rattle.up_claims.proofs.CaseLemmas.{inductive_by_cases}
use Rattle.up_verify.specs.Verifying.{IsLightCase, Passes, IsReached, FailsFirst, IsOverFirst, IsShown, IsShownCase, IsVerified, IsVerification, case_of, AreAlike}
use Rattle.up_verify.specs.Halting.{Finds}
use Rattle.up_verify.specs.declared.verifying.Halt.{Halt}
use Rattle.up_verify.specs.declared.verifying.Halt.TheVariants as halt
use Rattle.up_verify.specs.declared.verified.Verified.{Verified}
use Rattle.up_verify.specs.declared.verified.Verified.TheVariants as verified

-- the head and the rest of equal lists
head_is : (x y : Case) (xs ys : List Case) → x ∷ xs ≡ y ∷ ys → (x ≡ y) × (xs ≡ ys)
head_is x y xs ys is = (cc, cc)

pub middle : {X : Type 0} (P : X → Type 0) (before : List X) (c : X) (after : List X) → All P (before ++ c ∷ after) → P c
middle P [] c after h = All-head P c after h
middle P (b ∷ before) c after h = middle P before c after (All-tail P b (before ++ c ∷ after) h)

-- two cuts at elements that don't pass, before which all pass, are one
one_cut : (P : Case → Type 0) (b a : List Case) (c : Case) (b' a' : List Case) (d : Case) → b ++ c ∷ a ≡ b' ++ d ∷ a' → All P b → All P b' → ¬ P c → ¬ P d → c ≡ d
one_cut P [] a c [] a' d is h k nc nd = (head_is c d a a' is).0
one_cut P [] a c (x ∷ b') a' d is h k nc nd = absurd (nc (subst P (sym (head_is c x a (b' ++ d ∷ a') is).0) (All-head P x b' k)))
one_cut P (x ∷ b) a c [] a' d is h k nc nd = absurd (nd (subst P (head_is x d (b ++ c ∷ a) a' is).0 (All-head P x b h)))
one_cut P (x ∷ b) a c (y ∷ b') a' d is h k nc nd = one_cut P b a c b' a' d (head_is x y (b ++ c ∷ a) (b' ++ d ∷ a') is).1 (All-tail P x b h) (All-tail P y b' k) nc nd

module _ (sys : System) (limit : ℕ) where
  pub one_first : (cases : List Case) (c d : Case) → IsReached sys limit cases c → IsReached sys limit cases d → ¬ Passes sys limit c → ¬ Passes sys limit d → c ≡ d
  one_first cases c d s t nc nd = one_cut (Passes sys limit) s.before s.after c t.before t.after d (sym s.parts ∙ t.parts) s.passed t.passed nc nd

  pub fails_stops : (cases : List Case) (c : Case) (w : World) → FailsFirst sys limit cases c w → ¬ Passes sys limit c
  fails_stops cases c w f p = p.never w f.breaks

  pub over_stops : (cases : List Case) (c : Case) → IsOverFirst sys limit cases c → ¬ Passes sys limit c
  over_stops cases c f p = let light = p.light in let heavy = f.heavy in omega (arith, light, heavy)

  -- none of the three beside another
  pub fails_or_over : (cases : List Case) (c d : Case) (w : World) → FailsFirst sys limit cases c w → IsOverFirst sys limit cases d → ⊥
  fails_or_over cases c d w f o =
      let same = one_first cases c d f.reached o.reached (fails_stops cases c w f) (over_stops cases d o) in
      let light = subst (IsLightCase sys limit) same f.light in
      let heavy = o.heavy in
      omega (arith, light, heavy)

  pub light_or_over : (cases : List Case) (c : Case) → All (IsLightCase sys limit) cases → IsOverFirst sys limit cases c → ⊥
  light_or_over cases c all o =
      let light = middle (IsLightCase sys limit) o.reached.before c o.reached.after (subst (All (IsLightCase sys limit)) o.reached.parts all) in
      let heavy = o.heavy in
      omega (arith, light, heavy)

  inductive_or_fails : IsSystem sys → (c : Case) (w : World) → IsInductive sys (properties sys) → FailsFirst sys limit (verify_cases sys) c w → ⊥
  inductive_or_fails is c w h f =
      middle (NeverBreaks sys) f.reached.before c f.reached.after (subst (All (NeverBreaks sys)) f.reached.parts ((inductive_by_cases sys is).0 h)) w f.breaks

  all_pass_inductive : IsSystem sys → All (Passes sys limit) (verify_cases sys) → IsInductive sys (properties sys)
  all_pass_inductive is all = (inductive_by_cases sys is).1 (All-weaker (Passes sys limit) (NeverBreaks sys) (λ c p. p.never) (verify_cases sys) all)

  all_pass_light : (cases : List Case) → All (Passes sys limit) cases → All (IsLightCase sys limit) cases
  all_pass_light cases all = All-weaker (Passes sys limit) (IsLightCase sys limit) (λ c p. p.light) cases all

  pub all_pass : IsSystem sys → All (Passes sys limit) (verify_cases sys) → IsVerified sys limit
  all_pass is all = record { inductive = all_pass_inductive is all; light = all_pass_light (verify_cases sys) all }

  pub verified_or_fails : IsSystem sys → (c : Case) (w : World) → IsVerified sys limit → FailsFirst sys limit (verify_cases sys) c w → ⊥
  verified_or_fails is c w v f = inductive_or_fails is c w v.inductive f

  pub verified_or_over : (c : Case) → IsVerified sys limit → IsOverFirst sys limit (verify_cases sys) c → ⊥
  verified_or_over c v o = light_or_over (verify_cases sys) c v.light o

  pub one_failing : (c d : Case) (v w : World) → FailsFirst sys limit (verify_cases sys) c v → FailsFirst sys limit (verify_cases sys) d w → c ≡ d
  one_failing c d v w f g = one_first (verify_cases sys) c d f.reached g.reached (fails_stops (verify_cases sys) c v f) (fails_stops (verify_cases sys) d w g)

  pub one_over : (c d : Case) → IsOverFirst sys limit (verify_cases sys) c → IsOverFirst sys limit (verify_cases sys) d → c ≡ d
  one_over c d o p = one_first (verify_cases sys) c d o.reached p.reached (over_stops (verify_cases sys) c o) (over_stops (verify_cases sys) d p)

  pub one_answer : IsSystem sys → (a b : Verified) → IsVerification sys limit a → IsVerification sys limit b → AreAlike a b
  one_answer is verified.Inductive verified.Inductive h g = tt
  one_answer is verified.Inductive (verified.Fails f) h g = verified_or_fails is (case_of f) f.world h g.0
  one_answer is verified.Inductive (verified.Over n) h g = verified_or_over g.0 h g.1
  one_answer is (verified.Fails f) verified.Inductive h g = verified_or_fails is (case_of f) f.world g h.0
  one_answer is (verified.Fails f) (verified.Fails x) h g = one_failing (case_of f) (case_of x) f.world x.world h.0 g.0
  one_answer is (verified.Fails f) (verified.Over n) h g = fails_or_over (verify_cases sys) (case_of f) g.0 f.world h.0 g.1
  one_answer is (verified.Over m) verified.Inductive h g = verified_or_over h.0 g h.1
  one_answer is (verified.Over m) (verified.Fails f) h g = fails_or_over (verify_cases sys) (case_of f) h.0 f.world g.0 h.1
  one_answer is (verified.Over m) (verified.Over n) h g = h.2 ∙ ap (verify_weight sys) (one_over h.0 g.0 h.1 g.1) ∙ sym g.2

  -- ---- what is found of two lists of cases, the one behind the other

  stops_left : (xs ys : List Case) (c : Case) → IsReached sys limit xs c → IsReached sys limit (xs ++ ys) c
  stops_left xs ys c s = record {
    before = s.before;
    after = s.after ++ ys;
    parts = ap (λ (l : List Case). l ++ ys) s.parts ∙ append_assoc s.before (c ∷ s.after) ys;
    passed = s.passed;
  }

  stops_right : (xs ys : List Case) (c : Case) → All (Passes sys limit) xs → IsReached sys limit ys c → IsReached sys limit (xs ++ ys) c
  stops_right xs ys c all s = record {
    before = xs ++ s.before;
    after = s.after;
    parts = ap (λ (l : List Case). xs ++ l) s.parts ∙ sym (append_assoc xs s.before (c ∷ s.after));
    passed = All-append (Passes sys limit) xs s.before all s.passed;
  }

  pub finds_left : (xs ys : List Case) (f : Halt) → Finds sys limit xs (Some f) → Finds sys limit (xs ++ ys) (Some f)
  finds_left xs ys (halt.Fails x) (h, shown) = (record { reached = stops_left xs ys _ h.reached; light = h.light; breaks = h.breaks }, shown)
  finds_left xs ys (halt.Over weight) (c, h, is) = (c, record { reached = stops_left xs ys c h.reached; heavy = h.heavy }, is)

  pub finds_right : (xs ys : List Case) (r : Option Halt) → All (Passes sys limit) xs → Finds sys limit ys r → Finds sys limit (xs ++ ys) r
  finds_right xs ys None all h = All-append (Passes sys limit) xs ys all h
  finds_right xs ys (Some (halt.Fails x)) all (h, shown) = (record { reached = stops_right xs ys _ all h.reached; light = h.light; breaks = h.breaks }, shown)
  finds_right xs ys (Some (halt.Over weight)) all (c, h, is) = (c, record { reached = stops_right xs ys c all h.reached; heavy = h.heavy }, is)

  -- where those before one pass, what is found of it is found of a list that goes on behind it
  pub in_cases : (step : Option ℕ) (f : Halt) (p n : ℕ) → p < n → All (Passes sys limit) (cases_at step p) → Finds sys limit (record { step = step; property = p } ∷ []) (Some f) → Finds sys limit (cases_at step n) (Some f)
  in_cases step f p zero lt all h = absurd (omega (arith, lt))
  in_cases step f p (suc n) lt all h = elim (cases_lt p n) [
    | inl less ↦ finds_left (cases_at step n) (record { step = step; property = n } ∷ []) f (in_cases step f p n less all h)
    | inr more ↦
        let is : p ≡ n = omega (arith, lt, more) in
        finds_right (cases_at step n) (record { step = step; property = n } ∷ []) (Some f)
        (subst (λ (m : ℕ). All (Passes sys limit) (cases_at step m)) is all)
        (subst (λ (m : ℕ). Finds sys limit (record { step = step; property = m } ∷ []) (Some f)) is h)
  ]

  pub in_steps : (count : ℕ) (f : Halt) (t n : ℕ) → t < n → All (Passes sys limit) (step_cases count t) → Finds sys limit (cases_at (Some t) count) (Some f) → Finds sys limit (step_cases count n) (Some f)
  in_steps count f t zero lt all h = absurd (omega (arith, lt))
  in_steps count f t (suc n) lt all h = elim (cases_lt t n) [
    | inl less ↦ finds_left (step_cases count n) (cases_at (Some n) count) f (in_steps count f t n less all h)
    | inr more ↦
        let is : t ≡ n = omega (arith, lt, more) in
        finds_right (step_cases count n) (cases_at (Some n) count) (Some f)
        (subst (λ (m : ℕ). All (Passes sys limit) (step_cases count m)) is all)
        (subst (λ (m : ℕ). Finds sys limit (cases_at (Some m) count) (Some f)) is h)
  ]

  pub finds_next : (xs ys : List Case) (first : Option Halt) → first ≡ None → Finds sys limit xs first → (r : Result (Option Halt) AllocError) → IfOk r (Finds sys limit ys) → IfOk r (Finds sys limit (xs ++ ys))
  finds_next xs ys first is h (Ok x) k = finds_right xs ys x (subst (Finds sys limit xs) is h) k
  finds_next xs ys first is h (Err e) k = tt

  pub cases_more : (step : Option ℕ) (p : ℕ) (r : Option Halt) → r ≡ None → All (Passes sys limit) (cases_at step p) → Finds sys limit (record { step = step; property = p } ∷ []) r → All (Passes sys limit) (cases_at step (p + 1))
  cases_more step p r is all h =
      let one : suc p ≡ p + 1 = omega arith in
      subst (λ (n : ℕ). All (Passes sys limit) (cases_at step n)) one
      (All-append (Passes sys limit) (cases_at step p) (record { step = step; property = p } ∷ []) all (subst (Finds sys limit (record { step = step; property = p } ∷ [])) is h))

  pub steps_more : (count t : ℕ) (r : Option Halt) → r ≡ None → All (Passes sys limit) (step_cases count t) → Finds sys limit (cases_at (Some t) count) r → All (Passes sys limit) (step_cases count (t + 1))
  steps_more count t r is all h =
      let one : suc t ≡ t + 1 = omega arith in
      subst (λ (n : ℕ). All (Passes sys limit) (step_cases count n)) one
      (All-append (Passes sys limit) (step_cases count t) (cases_at (Some t) count) all (subst (Finds sys limit (cases_at (Some t) count)) is h))

  stops_here : (c : Case) → IsReached sys limit (c ∷ []) c
  stops_here c = record { before = []; after = []; parts = refl; passed = All-nil (Passes sys limit) }

  -- what is found of one case, by what its query is answered
  module _ (step : Option ℕ) (p : ℕ) (q : Query) (copies : q.copies ≡ verify_copies step) (claims : q.claims ≡ verify_claims sys step p) (meaning : (w : World) → MeetsQuery sys.sig q w ↔ Breaks sys step p w) where
    query_is : q ≡ verify_query_of sys (record { step = step; property = p })
    query_is = ap₂ (λ (n : ℕ) (fs : List Formula). record { copies = n; claims = fs }) copies claims

    weight_is : query_weight sys.sig q ≡ verify_weight sys (record { step = step; property = p })
    weight_is = ap₂ (λ (n : ℕ) (fs : List Formula). query_weight sys.sig (record { copies = n; claims = fs })) copies claims

    pub finds_nothing : IsAnswer sys.sig q limit found.Nothing → All (Passes sys limit) (record { step = step; property = p } ∷ [])
    finds_nothing (light, none) =
        All-cons (Passes sys limit) (record { step = step; property = p }) []
        (record { light = subst (λ (n : ℕ). n ≤ limit) weight_is light; never = λ w b. none w ((meaning w).1 b) }) (All-nil (Passes sys limit))

    pub finds_world : (w : World) → IsAnswer sys.sig q limit (found.Model w) → FailsFirst sys limit (record { step = step; property = p } ∷ []) (record { step = step; property = p }) w
    finds_world w (light, meets) = record { reached = stops_here (record { step = step; property = p }); light = subst (λ (n : ℕ). n ≤ limit) weight_is light; breaks = (meaning w).0 meets }

    -- a world that meets the query shows the failure in the words of the case
    pub finds_shown : (v world : World) → IsAnswer sys.sig q limit (found.Model v) → MeetsQuery sys.sig q world → IsShown sys.sig q limit world → FailsFirst sys limit (record { step = step; property = p } ∷ []) (record { step = step; property = p }) world × IsShownCase sys limit (record { step = step; property = p }) world
    finds_shown v world (light, _) meets shown = (finds_world world (light, meets), subst (λ (r : Query). IsShown sys.sig r limit world) query_is shown)

    pub finds_weight : (n : ℕ) → IsAnswer sys.sig q limit (found.Over n) → Finds sys limit (record { step = step; property = p } ∷ []) (Some (halt.Over n))
    finds_weight n (is, heavy) =
        (record { step = step; property = p }, record { reached = stops_here (record { step = step; property = p }); heavy = subst (λ (n : ℕ). limit < n) (is ∙ weight_is) heavy }, is ∙ weight_is)

pub count_is : (sys : System) (a b : ℕ) → a ≡ length sys.safeties → b ≡ length sys.invariants → a + b ≡ length (properties sys)
count_is sys a b x y = let long = length-append sys.safeties sys.invariants in omega (arith, x, y, long)

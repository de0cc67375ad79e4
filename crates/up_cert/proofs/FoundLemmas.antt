-- What is found of spots: of one, of those of one kind, and of lists one after the other.
use Rattle.std.proofs.Common.{◌≡◌, ℕ, zero, suc, ◌<◌, inl, inr, List, [], ◌∷◌, ◌++◌, Some, refl, sym, ap, subst, ◌∙◌, append_assoc, arith}
use Rattle.std.specs.List.{All}
use Rattle.std.proofs.lemmas.Bool.{cases_lt}
use Rattle.std.proofs.lemmas.List.Elements.{All-nil, All-cons, All-append}
use Rattle.fo_core.specs.declared.query.Query.{Query}
use Rattle.fo_core.specs.declared.system.System.{System}
use Rattle.up_claims.specs.declared.verdict.Verdict.{Verdict}
use Rattle.up_cert.specs.declared.answer.Answer.{Answer}
use Rattle.up_cert.specs.declared.answer.Answer.TheVariants as answer
use Rattle.up_cert.specs.declared.answer.Halt.{Halt}
use Rattle.up_cert.specs.declared.answer.Halt.TheVariants as halt
use Rattle.up_cert.specs.declared.judged.Judged.{Judged}
use Rattle.up_cert.specs.declared.judged.Judged.TheVariants as judged
use Rattle.up_cert.specs.declared.spot.Spot.{Spot}
use Rattle.up_cert.specs.declared.spot.What.{What}
use Rattle.up_cert.specs.Judging.{Clears, IsSpotReached, FailsFirst, IsOverFirst, IsFound}
use Rattle.up_cert.specs.Trying.{IsTried, AreCleared, Halts, halt_told, answer_told}
use Rattle.up_cert.specs.VerdictSpots.{Passes, queries_at, spot, each_below, spots_below}

module _ (sys : System) (limit : ℕ) (told : Verdict) where
  abbrev C : Spot → Type 0
  C = Clears sys limit told

  -- ---- two lists, one after the other

  reached-left : (xs ys : List Spot) (s : Spot) → IsSpotReached sys limit told xs s → IsSpotReached sys limit told (xs ++ ys) s
  reached-left xs ys s r = record {
    before = r.before;
    after = r.after ++ ys;
    parts = ap (λ (l : List Spot). l ++ ys) r.parts ∙ append_assoc r.before (s ∷ r.after) ys;
    cleared = r.cleared;
  }

  reached-right : (xs ys : List Spot) (s : Spot) → All C xs → IsSpotReached sys limit told ys s → IsSpotReached sys limit told (xs ++ ys) s
  reached-right xs ys s all r = record {
    before = xs ++ r.before;
    after = r.after;
    parts = ap (λ (l : List Spot). xs ++ l) r.parts ∙ sym (append_assoc xs r.before (s ∷ r.after));
    cleared = All-append C xs r.before all r.cleared;
  }

  pub wrong-left : (xs ys : List Spot) (s : Spot) → FailsFirst sys limit told xs s → FailsFirst sys limit told (xs ++ ys) s
  wrong-left xs ys s h = record { reached = reached-left xs ys s h.reached; denied = h.denied }

  pub over-left : (xs ys : List Spot) (weight : ℕ) → IsOverFirst sys limit told xs weight → IsOverFirst sys limit told (xs ++ ys) weight
  over-left xs ys weight h = record { spot = h.spot; reached = reached-left xs ys h.spot h.reached; heavy = h.heavy }

  pub halt-left : (xs ys : List Spot) (what : What) (h : Halt) → IsFound sys limit told xs (halt_told what h) → IsFound sys limit told (xs ++ ys) (halt_told what h)
  halt-left xs ys what (halt.Fails k) h = wrong-left xs ys (spot what k) h
  halt-left xs ys what (halt.Over weight) h = over-left xs ys weight h

  pub found-right : (xs ys : List Spot) (j : Judged) → All C xs → IsFound sys limit told ys j → IsFound sys limit told (xs ++ ys) j
  found-right xs ys judged.Holds all h = All-append C xs ys all h
  found-right xs ys (judged.Wrong s) all h = record { reached = reached-right xs ys s all h.reached; denied = h.denied }
  found-right xs ys (judged.Over weight) all h = record { spot = h.spot; reached = reached-right xs ys h.spot all h.reached; heavy = h.heavy }
  found-right xs ys judged.Nothing all h = h

  -- ---- one spot

  pub here : (s : Spot) → IsSpotReached sys limit told (s ∷ []) s
  here s = record { before = []; after = []; parts = refl; cleared = All-nil C }

  pub found-one : (s : Spot) (a : Answer) → IsTried sys.sig limit (Passes sys told s) (queries_at sys told s) a → s.number ≡ 0 → IsFound sys limit told (s ∷ []) (answer_told s.what a)
  found-one s answer.Passes h z = All-cons C s [] h (All-nil C)
  found-one s answer.Fails h z =
      let zeroth : s ≡ spot s.what 0 = ap (spot s.what) z in
      subst (FailsFirst sys limit told (s ∷ [])) zeroth (record { reached = here s; denied = h })
  found-one s (answer.Over weight) h z = record { spot = s; reached = here s; heavy = h }

  -- ---- those of numbers

  pub reached-below : (spots : ℕ → List Spot) (n k : ℕ) (s : Spot) → k < n → All C (each_below spots k) → IsSpotReached sys limit told (spots k) s → IsSpotReached sys limit told (each_below spots n) s
  reached-below spots zero k s lt h r = absurd (omega (arith, lt))
  reached-below spots (suc n) k s lt h r = elim (cases_lt k n) [
    | inl less ↦ reached-left (each_below spots n) (spots n) s (reached-below spots n k s less h r)
    | inr more ↦
        let is : k ≡ n = omega (arith, lt, more) in
        subst (λ (m : ℕ). IsSpotReached sys limit told (each_below spots m ++ spots m) s) is (reached-right (each_below spots k) (spots k) s h r)
  ]

  pub wrong-below : (spots : ℕ → List Spot) (n k : ℕ) (s : Spot) → k < n → All C (each_below spots k) → FailsFirst sys limit told (spots k) s → FailsFirst sys limit told (each_below spots n) s
  wrong-below spots n k s lt h f = record { reached = reached-below spots n k s lt h f.reached; denied = f.denied }

  -- ---- those of one kind

  module _ (what : What) where
    abbrev A : ℕ → Type 0
    A k = Passes sys told (spot what k)

    abbrev Q : ℕ → List Query
    Q k = queries_at sys told (spot what k)

    pub all-below : (n : ℕ) → AreCleared sys.sig limit A Q n → All C (spots_below what n)
    all-below zero h = All-nil C
    all-below (suc n) h =
        All-append C (spots_below what n) (spot what n ∷ []) (all-below n (λ k lt. h k (omega (arith, lt))))
        (All-cons C (spot what n) [] (h n (omega arith)) (All-nil C))

    pub found-below : (n : ℕ) (h : Halt) → Halts sys.sig limit A Q n (Some h) → IsFound sys limit told (spots_below what n) (halt_told what h)
    found-below n (halt.Fails k) h = record {
      reached = reached-below (λ j. spot what j ∷ []) n k (spot what k) h.reached.within (all-below k h.reached.cleared) (here (spot what k));
      denied = h.denied;
    }
    found-below n (halt.Over weight) h = record {
      spot = spot what h.number;
      reached = reached-below (λ j. spot what j ∷ []) n h.number (spot what h.number) h.reached.within (all-below h.number h.reached.cleared) (here (spot what h.number));
      heavy = h.heavy;
    }

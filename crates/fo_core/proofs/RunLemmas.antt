-- Copies on which worlds agree are the same states and steps, and a copy or two alone are a world.
use Rattle.std.proofs.Common.{◌≡◌, ℕ, zero, suc, Bool, true, false, cond, ◌+◌, ◌<◌, List, [], ◌∷◌, length, get_or, refl, sym, ap, subst, ◌∙◌, arith, add-zero}
use Rattle.std.specs.List.{All, AllZip}
use Rattle.std.specs.Prelude.{slice_index}
use Rattle.std.proofs.lemmas.List.Elements.{All-nil, All-cons}
use Rattle.fo_core.specs.declared.formula.Formula.{Formula}
use Rattle.fo_core.specs.declared.signature.Sig.{Sig}
use Rattle.fo_core.specs.declared.system.Step.{Step}
use Rattle.fo_core.specs.declared.system.System.{System}
use Rattle.fo_core.specs.declared.world.Table.{Table}
use Rattle.fo_core.specs.declared.world.World.{World}
use Rattle.fo_core.specs.Agreeing.{Agree}
use Rattle.fo_core.specs.RunLaws.{SameState, SameStep, KeepsAlone, KeepsPair}
use Rattle.fo_core.specs.Runs.{IsInitial, Violates, LeadsOn, IsStep, alone, pair}
use Rattle.fo_core.specs.Sorted.{IsFormula, AreClosed, IsSystem, IsStepOf}
use Rattle.fo_core.specs.Tables.{no_table, symbol_at, rank, table_of, Fits, AreTables}
use Rattle.fo_core.specs.Truth.{Truth}
use Rattle.fo_core.proofs.AgreeLemmas.{truth-agrees, alone-agrees}

pub turned : (n : ℕ) (v : World) (c : ℕ) (w : World) (d : ℕ) → Agree n v c w d → Agree n w d v c
turned n v c w d same = record {
  sizes = sym same.sizes;
  fixed = sym same.fixed;
  copies = λ k lt. sym (same.copies k lt);
}

-- of two copies the first agrees, and the second
pub first-of : (v : World) (c : ℕ) (w : World) (d : ℕ) → Agree 2 v c w d → Agree 1 v c w d
first-of v c w d same = record {
  sizes = same.sizes;
  fixed = same.fixed;
  copies = λ k lt. same.copies k (omega (arith, lt));
}

pub second-of : (v : World) (c : ℕ) (w : World) (d : ℕ) → Agree 2 v c w d → Agree 1 v (c + 1) w (d + 1)
second-of v c w d same = record { sizes = same.sizes; fixed = same.fixed; copies = at }
  where
    at : (k : ℕ) → k < 1 → get_or v.copies ((c + 1) + k) [] ≡ get_or w.copies ((d + 1) + k) []
    at zero lt = rw (add-zero (c + 1), add-zero (d + 1)) (same.copies 1 (omega arith))
    at (suc k) lt = absurd (omega arith)

pub pair-agrees : (w : World) (c : ℕ) → Agree 2 w c (pair w c) 0
pair-agrees w c = record { sizes = refl; fixed = refl; copies = same }
  where
    same : (k : ℕ) → k < 2 → get_or w.copies (c + k) [] ≡ get_or (pair w c).copies (0 + k) []
    same zero lt = rw add-zero refl
    same (suc zero) lt = refl
    same (suc (suc k)) lt = absurd (omega arith)

pub first-agrees : (w : World) (c : ℕ) → Agree 1 w c (pair w c) 0
first-agrees w c = first-of w c (pair w c) 0 (pair-agrees w c)

pub second-agrees : (w : World) (c : ℕ) → Agree 1 w (c + 1) (pair w c) 1
second-agrees w c = second-of w c (pair w c) 0 (pair-agrees w c)

-- the tables of a copy on which worlds agree
pub tables-same : (sig : Sig) (v : World) (c : ℕ) (w : World) (d : ℕ) → Agree 1 v c w d → (k : ℕ) → table_of sig v c k ≡ table_of sig w d k
tables-same sig v c w d same k = by_kind (symbol_at sig k).mutable
  where
    copy : get_or v.copies c [] ≡ get_or w.copies d []
    copy = rw (add-zero c, add-zero d) at (same.copies 0 (omega arith))

    by_kind : (b : Bool) →
        cond b (get_or (get_or v.copies c []) (rank sig k) no_table) (get_or v.fixed (rank sig k) no_table)
        ≡ cond b (get_or (get_or w.copies d []) (rank sig k) no_table) (get_or w.fixed (rank sig k) no_table)
    by_kind true = ap (λ (ts : List Table). get_or ts (rank sig k) no_table) copy
    by_kind false = ap (λ (ts : List Table). get_or ts (rank sig k) no_table) same.fixed

module _ (sys : System) (is : IsSystem sys) where
  -- closed formulas are true in both of two copies that agree
  pub closed-agree : (v : World) (c : ℕ) (w : World) (d : ℕ) → Agree 1 v c w d → (fs : List Formula) → AreClosed sys.sig fs → All (λ f. Truth sys.sig v c f []) fs → All (λ f. Truth sys.sig w d f []) fs
  closed-agree v c w d same fs closed h k e lt = (truth-agrees sys.sig 1 v c w d same (get_or fs k e) [] [] (closed k e lt)).0 (h k e lt)

  initial-there : (v : World) (c : ℕ) (w : World) (d : ℕ) → Agree 1 v c w d → IsInitial sys v c → IsInitial sys w d
  initial-there v c w d same h = record {
    state = closed-agree v c w d same sys.axioms is.axioms h.state;
    inits = closed-agree v c w d same sys.inits is.inits h.inits;
  }

  violates-there : (v : World) (c : ℕ) (w : World) (d : ℕ) → Agree 1 v c w d → Violates sys v c → Violates sys w d
  violates-there v c w d same a = (a.0, a.1, a.2, a.3, λ t. a.4 ((truth-agrees sys.sig 1 v c w d same a.1 [] [] (subst (λ f. IsFormula sys.sig 1 f []) a.3 (is.safeties a.0 a.1 a.2))).1 t))

  pub same-state : (v : World) (c : ℕ) (w : World) (d : ℕ) → Agree 1 v c w d → SameState sys v c w d
  same-state v c w d same = record {
    truth = λ f sorts values known. truth-agrees sys.sig 1 v c w d same f sorts values known;
    state = (closed-agree v c w d same sys.axioms is.axioms, closed-agree w d v c back sys.axioms is.axioms);
    initial = (initial-there v c w d same, initial-there w d v c back);
    violates = (violates-there v c w d same, violates-there w d v c back);
  }
    where
      back : Agree 1 w d v c
      back = turned 1 v c w d same

  leads-there : (v : World) (c : ℕ) (w : World) (d : ℕ) → Agree 2 v c w d → (step : Step) → IsStepOf sys.sig step → LeadsOn sys v c step → LeadsOn sys w d step
  leads-there v c w d same step known h = record {
    filled = (
      h.filled.0,
      subst (λ (ns : List ℕ). AllZip (λ x s. x < slice_index ns s) h.filled.0 step.params) same.sizes h.filled.1,
      (truth-agrees sys.sig 2 v c w d same step.body step.params h.filled.0 known.body).0 h.filled.2,
    );
    keeps = λ k lt mutable kept.
        sym (tables-same sys.sig v c w d (first-of v c w d same) k)
        ∙ h.keeps k lt mutable kept
        ∙ tables-same sys.sig v (c + 1) w (d + 1) (second-of v c w d same) k;
  }

  step-there : (v : World) (c : ℕ) (w : World) (d : ℕ) → Agree 2 v c w d → IsStep sys v c → IsStep sys w d
  step-there v c w d same h = record {
    state = closed-agree v c w d (first-of v c w d same) sys.axioms is.axioms h.state;
    next_state = closed-agree v (c + 1) w (d + 1) (second-of v c w d same) sys.axioms is.axioms h.next_state;
    leads = (
      h.leads.0,
      h.leads.1,
      h.leads.2,
      h.leads.3,
      leads-there v c w d same h.leads.1 (subst (IsStepOf sys.sig) h.leads.3 (is.steps h.leads.0 h.leads.1 h.leads.2)) h.leads.4,
    );
  }

  pub same-step : (v : World) (c : ℕ) (w : World) (d : ℕ) → Agree 2 v c w d → SameStep sys v c w d
  same-step v c w d same = record {
    truth = λ f sorts values known. truth-agrees sys.sig 2 v c w d same f sorts values known;
    leads = λ step known. (leads-there v c w d same step known, leads-there w d v c back step known);
    step = (step-there v c w d same, step-there w d v c back);
  }
    where
      back : Agree 2 w d v c
      back = turned 2 v c w d same

module _ (sig : Sig) (w : World) (c : ℕ) (fits : Fits sig w) where
  pub alone-fits : c < length w.copies → Fits sig (alone w c)
  alone-fits lt = record {
    sorts = fits.sorts;
    nonempty = fits.nonempty;
    fixed = fits.fixed;
    some_copy = omega arith;
    copies = All-cons (AreTables w.sizes _) (get_or w.copies c []) [] (fits.copies c [] lt) (All-nil (AreTables w.sizes _));
  }

  pub pair-fits : c + 1 < length w.copies → Fits sig (pair w c)
  pair-fits lt = record {
    sorts = fits.sorts;
    nonempty = fits.nonempty;
    fixed = fits.fixed;
    some_copy = omega arith;
    copies = All-cons (AreTables w.sizes _) (get_or w.copies c []) (get_or w.copies (c + 1) [] ∷ []) (fits.copies c [] (omega (arith, lt)))
        (All-cons (AreTables w.sizes _) (get_or w.copies (c + 1) []) [] (fits.copies (c + 1) [] lt) (All-nil (AreTables w.sizes _)));
  }

-- worlds of one copy and of two are what is taken out of them
one-element : {X : Type 0} (xs : List X) (e : X) → length xs ≡ 1 → get_or xs 0 e ∷ [] ≡ xs
one-element [] e n = absurd (omega (arith, n))
one-element (x ∷ []) e n = refl
one-element (x ∷ y ∷ xs) e n = absurd (omega (arith, n))

two-elements : {X : Type 0} (xs : List X) (e : X) → length xs ≡ 2 → get_or xs 0 e ∷ get_or xs 1 e ∷ [] ≡ xs
two-elements [] e n = absurd (omega (arith, n))
two-elements (x ∷ []) e n = absurd (omega (arith, n))
two-elements (x ∷ y ∷ []) e n = refl
two-elements (x ∷ y ∷ z ∷ xs) e n = absurd (omega (arith, n))

-- the world with these copies instead
abbrev pub with_copies : World → List (List Table) → World
with_copies w copies = record { sizes = w.sizes; fixed = w.fixed; copies = copies }

pub alone-itself : (w : World) → length w.copies ≡ 1 → alone w 0 ≡ w
alone-itself w n = ap (with_copies w) (one-element w.copies [] n)

pub pair-itself : (w : World) → length w.copies ≡ 2 → pair w 0 ≡ w
pair-itself w n = ap (with_copies w) (two-elements w.copies [] n)

-- all that a copy alone keeps, and a pair of copies
module _ (sys : System) (is : IsSystem sys) (w : World) (c : ℕ) where
  pub keeps-alone : KeepsAlone sys w c
  keeps-alone = record {
    fits = λ fits lt. alone-fits sys.sig w c fits lt;
    one_copy = refl;
    same = same-state sys is w c (alone w c) 0 (alone-agrees w c);
  }

  pub keeps-pair : KeepsPair sys w c
  keeps-pair = record {
    fits = λ fits lt. pair-fits sys.sig w c fits lt;
    two_copies = refl;
    same = same-step sys is w c (pair w c) 0 (pair-agrees w c);
    same_first = same-state sys is w c (pair w c) 0 (first-agrees w c);
    same_second = same-state sys is w (c + 1) (pair w c) 1 (second-agrees w c);
    first = refl;
    second = refl;
  }

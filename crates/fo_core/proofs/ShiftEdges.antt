-- A moved formula has the edges of the formula in the sort graph.
use Rattle.std.proofs.Common.{◌≡◌, ℕ, true, false, Bool, ◌↔◌, ◌⊎◌, sym, subst, arith}
use Rattle.std.specs.Prelude.{not}
use Rattle.std.specs.List.{Any}
use Rattle.fo_core.specs.declared.signature.Sig.{Sig}
use Rattle.fo_core.specs.declared.formula.Formula.{Formula, True, False, Rel, Eq, Not', And', Or', All', Ex', Row_of-Formula, end_of-Formula, more_of-Formula}
use Rattle.fo_core.specs.Shift.{shift, shift_row}
use Rattle.fo_core.specs.SortGraph.{HasExistential, OneHasExistential, FormulaEdge, OneFormulaEdge}
use Rattle.fo_core.proofs.EdgeRows.{existential-Not, existential-And, existential-Or, existential-All, existential-Ex, edge-Not, edge-And, edge-Or, edge-All, edge-Ex}
use Rattle.fo_core.proofs.ShiftTruth.{either_way, any_cases, any_made}

-- an equivalence through an equation of facts
through : {P Q R : Type 0} → P ≡ Q → Q ↔ R → P ↔ R
through e r = (λ h. r.0 (subst (λ (A : Type 0). A) e h), λ h. subst (λ (A : Type 0). A) (sym e) (r.1 h))

after : {P Q R : Type 0} → P ↔ Q → Q ↔ R → P ↔ R
after p r = (λ h. r.0 (p.0 h), λ h. p.1 (r.1 h))

either_side : {P Q R S : Type 0} → P ↔ Q → R ↔ S → P ⊎ R ↔ Q ⊎ S
either_side p r = (either_way p.0 r.0, either_way p.1 r.1)

module _ (sig : Sig) (by b : ℕ) where
  mutual
    pub existential-moved : (f : Formula) (sign : Bool) → HasExistential b (shift sig by f) sign ↔ HasExistential b f sign
    existential-moved True sign = (λ h. h, λ h. h)
    existential-moved False sign = (λ h. h, λ h. h)
    existential-moved (Rel r d args) sign = (λ h. h, λ h. h)
    existential-moved (Eq x y) sign = (λ h. h, λ h. h)
    existential-moved (Not' _ (more_of-Formula f _)) sign = through (existential-Not b (shift sig by f) sign) (existential-moved f (not sign))
    existential-moved (And' _ fs) sign = after (existential-And b (shift_row sig by fs) sign) (existentials-moved fs sign)
    existential-moved (Or' _ fs) sign = after (existential-Or b (shift_row sig by fs) sign) (existentials-moved fs sign)
    existential-moved (All' s _ (more_of-Formula f _)) sign = through (existential-All b s (shift sig by f) sign) (either_side (λ h. h, λ h. h) (existential-moved f sign))
    existential-moved (Ex' s _ (more_of-Formula f _)) sign = through (existential-Ex b s (shift sig by f) sign) (either_side (λ h. h, λ h. h) (existential-moved f sign))

    existentials-moved : {n : _} (row : Row_of-Formula n) (sign : Bool) → Any (λ f. HasExistential b f sign) (shift_row sig by row) ↔ OneHasExistential b row sign
    existentials-moved end_of-Formula sign = (λ h. absurd (omega (arith, h.2)), λ h. absurd h)
    existentials-moved (more_of-Formula f rest) sign =
        after (any_cases (λ f. HasExistential b f sign) (shift sig by f) (shift_row sig by rest), any_made (λ f. HasExistential b f sign) (shift sig by f) (shift_row sig by rest))
        (either_side (existential-moved f sign) (existentials-moved rest sign))

module _ (sig : Sig) (by a b : ℕ) where
  -- a quantifier over sort s adds an edge where this sign makes it a universal over an existential
  binder : (f : Formula) (sign u : Bool) (s : ℕ) → ((sign ≡ u) × (s ≡ a) × HasExistential b (shift sig by f) sign) ↔ ((sign ≡ u) × (s ≡ a) × HasExistential b f sign)
  binder f sign u s = let r = existential-moved sig by b f sign in (λ h. (h.0, h.1, r.0 h.2), λ h. (h.0, h.1, r.1 h.2))

  mutual
    pub edge-moved : (f : Formula) (sign : Bool) → FormulaEdge a b (shift sig by f) sign ↔ FormulaEdge a b f sign
    edge-moved True sign = (λ h. h, λ h. h)
    edge-moved False sign = (λ h. h, λ h. h)
    edge-moved (Rel r d args) sign = (λ h. h, λ h. h)
    edge-moved (Eq x y) sign = (λ h. h, λ h. h)
    edge-moved (Not' _ (more_of-Formula f _)) sign = through (edge-Not a b (shift sig by f) sign) (edge-moved f (not sign))
    edge-moved (And' _ fs) sign = after (edge-And a b (shift_row sig by fs) sign) (edges-moved fs sign)
    edge-moved (Or' _ fs) sign = after (edge-Or a b (shift_row sig by fs) sign) (edges-moved fs sign)
    edge-moved (All' s _ (more_of-Formula f _)) sign = through (edge-All a b s (shift sig by f) sign) (either_side (binder f sign true s) (edge-moved f sign))
    edge-moved (Ex' s _ (more_of-Formula f _)) sign = through (edge-Ex a b s (shift sig by f) sign) (either_side (binder f sign false s) (edge-moved f sign))

    edges-moved : {n : _} (row : Row_of-Formula n) (sign : Bool) → Any (λ f. FormulaEdge a b f sign) (shift_row sig by row) ↔ OneFormulaEdge a b row sign
    edges-moved end_of-Formula sign = (λ h. absurd (omega (arith, h.2)), λ h. absurd h)
    edges-moved (more_of-Formula f rest) sign =
        after (any_cases (λ f. FormulaEdge a b f sign) (shift sig by f) (shift_row sig by rest), any_made (λ f. FormulaEdge a b f sign) (shift sig by f) (shift_row sig by rest))
        (either_side (edge-moved f sign) (edges-moved rest sign))

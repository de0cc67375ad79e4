-- What the tests of well-sortedness and depth know of a formula's parts.
use Rattle.std.proofs.Common.{◌≡◌, ℕ, true, false, Bool, ◌↔◌, ◌+◌, ◌<◌, ◌≤◌, List, [], ◌∷◌, ◌++◌, length, get_or, sym, subst, arith}
use Rattle.std.specs.Prelude.{IsTrue}
use Rattle.std.specs.List.{AllZip}
use Rattle.fo_core.specs.declared.signature.Sig.{Sig}
use Rattle.fo_core.specs.declared.term.Term.{Term}
use Rattle.fo_core.specs.declared.term.Term.TheVariants.{App}
use Rattle.fo_core.specs.declared.formula.Formula.{Formula}
use Rattle.fo_core.specs.declared.formula.Formula.TheVariants as F
use Rattle.fo_core.specs.Tables.{symbol_at}
use Rattle.fo_core.specs.Sorted.{IsSymbol, IsTerm, IsFormula, binders}
use Rattle.fo_core.proofs.Answered.{never, always, answered, fails_at, all_seen}
use Rattle.fo_core.proofs.Rows.{sorted-Not, sorted-And, sorted-Or, sorted-All, sorted-Ex, And-sorted, Or-sorted, sorted-App, App-sorted, binders-Not, binders-And, binders-Or, binders-All, binders-Ex, And-binders, Or-binders}
use Rattle.fo_core.proofs.Zips.{AllZip-length, AllZip-at, AllZip-each}

module _ (depth : ℕ) where
  pub depth-Not : (f : Formula) (b : Bool) → (IsTrue b ↔ (binders f ≤ depth)) → IsTrue b ↔ (binders (F.Not f) ≤ depth)
  depth-Not f b h = answered (λ le. omega (arith, binders-Not f)) (λ le. omega (arith, binders-Not f)) h

  pub depth-And-false : (fs : List Formula) (k : ℕ) (g : Formula) → k < length fs → g ≡ get_or fs k g → ¬ (binders g ≤ depth) → IsTrue false ↔ (binders (F.And fs) ≤ depth)
  depth-And-false fs k g lt is fails =
      never (binders (F.And fs) ≤ depth) (λ le. fails_at (λ f. binders f ≤ depth) fs k g lt is fails (λ j d at. omega (arith, binders-And fs j d at)))

  pub depth-And-true : (fs : List Formula) (n : ℕ) → length fs ≤ n → ((k : ℕ) (d : Formula) → k < n → binders (get_or fs k d) ≤ depth) → IsTrue true ↔ (binders (F.And fs) ≤ depth)
  depth-And-true fs n le each = always (binders (F.And fs) ≤ depth) (And-binders fs depth (all_seen (λ f. binders f ≤ depth) fs n le each))

  pub depth-Or-false : (fs : List Formula) (k : ℕ) (g : Formula) → k < length fs → g ≡ get_or fs k g → ¬ (binders g ≤ depth) → IsTrue false ↔ (binders (F.Or fs) ≤ depth)
  depth-Or-false fs k g lt is fails =
      never (binders (F.Or fs) ≤ depth) (λ le. fails_at (λ f. binders f ≤ depth) fs k g lt is fails (λ j d at. omega (arith, binders-Or fs j d at)))

  pub depth-Or-true : (fs : List Formula) (n : ℕ) → length fs ≤ n → ((k : ℕ) (d : Formula) → k < n → binders (get_or fs k d) ≤ depth) → IsTrue true ↔ (binders (F.Or fs) ≤ depth)
  depth-Or-true fs n le each = always (binders (F.Or fs) ≤ depth) (Or-binders fs depth (all_seen (λ f. binders f ≤ depth) fs n le each))

  pub depth-All : (s : ℕ) (f : Formula) (b : Bool) (less : ℕ) → less + 1 ≡ depth → (IsTrue b ↔ (binders f ≤ less)) → IsTrue b ↔ (binders (F.All s f) ≤ depth)
  depth-All s f b less e h = answered (λ le. omega (arith, binders-All s f)) (λ le. omega (arith, binders-All s f)) h

  pub depth-Ex : (s : ℕ) (f : Formula) (b : Bool) (less : ℕ) → less + 1 ≡ depth → (IsTrue b ↔ (binders f ≤ less)) → IsTrue b ↔ (binders (F.Ex s f) ≤ depth)
  depth-Ex s f b less e h = answered (λ le. omega (arith, binders-Ex s f)) (λ le. omega (arith, binders-Ex s f)) h

module _ (sig : Sig) (copies : ℕ) (ss : List ℕ) where
  pub terms-length : (ts : List Term) (rs : List ℕ) → ¬ (length ts ≡ length rs) → IsTrue false ↔ AllZip (λ t s. IsTerm sig copies t ss s) ts rs
  terms-length ts rs differ = never (AllZip (λ t s. IsTerm sig copies t ss s) ts rs) (λ all. differ (AllZip-length (λ t s. IsTerm sig copies t ss s) ts rs all))

  pub terms-false : (ts : List Term) (rs : List ℕ) (i : ℕ) (t : Term) → i < length ts → t ≡ get_or ts i t → ¬ IsTerm sig copies t ss (get_or rs i 0) → IsTrue false ↔ AllZip (λ t s. IsTerm sig copies t ss s) ts rs
  terms-false ts rs i t lt is fails =
      never (AllZip (λ t s. IsTerm sig copies t ss s) ts rs)
      (λ all. fails (subst (λ t. IsTerm sig copies t ss (get_or rs i 0)) (sym is) (AllZip-at (λ t s. IsTerm sig copies t ss s) ts rs i t 0 all lt)))

  pub terms-true : (ts : List Term) (rs : List ℕ) (n : ℕ) → length ts ≡ length rs → length ts ≤ n → (t : Term) → ((k : ℕ) (d : Term) (e : ℕ) → k < n → IsTerm sig copies (get_or ts k d) ss (get_or rs k e)) → IsTrue true ↔ AllZip (λ t s. IsTerm sig copies t ss s) ts rs
  terms-true ts rs n same le t each =
      always (AllZip (λ t s. IsTerm sig copies t ss s) ts rs) (AllZip-each (λ t s. IsTerm sig copies t ss s) ts rs t 0 same (λ i lt. each i t 0 (omega arith)))

  pub App-either : (f d : ℕ) (args : List Term) (s : ℕ) (b : Bool) → IsSymbol sig copies false f d → (symbol_at sig f).result ≡ s → (IsTrue b ↔ AllZip (λ t s. IsTerm sig copies t ss s) args (symbol_at sig f).args) → IsTrue b ↔ IsTerm sig copies (App f d args) ss s
  App-either f d args s b is result h = answered (App-sorted sig copies f d args ss s is result) (λ t. (sorted-App sig copies f d args ss s t).2) h

  pub Not-either : (f : Formula) (b : Bool) → (IsTrue b ↔ IsFormula sig copies f ss) → IsTrue b ↔ IsFormula sig copies (F.Not f) ss
  Not-either f b h = subst (λ (A : Type 0). IsTrue b ↔ A) (sym (sorted-Not sig copies f ss)) h

  pub And-false : (fs : List Formula) (k : ℕ) (g : Formula) → k < length fs → g ≡ get_or fs k g → ¬ IsFormula sig copies g ss → IsTrue false ↔ IsFormula sig copies (F.And fs) ss
  And-false fs k g lt is fails = never (IsFormula sig copies (F.And fs) ss) (λ h. fails_at (λ f. IsFormula sig copies f ss) fs k g lt is fails (sorted-And sig copies fs ss h))

  pub And-true : (fs : List Formula) (n : ℕ) → length fs ≤ n → ((k : ℕ) (d : Formula) → k < n → IsFormula sig copies (get_or fs k d) ss) → IsTrue true ↔ IsFormula sig copies (F.And fs) ss
  And-true fs n le each = always (IsFormula sig copies (F.And fs) ss) (And-sorted sig copies fs ss (all_seen (λ f. IsFormula sig copies f ss) fs n le each))

  pub Or-false : (fs : List Formula) (k : ℕ) (g : Formula) → k < length fs → g ≡ get_or fs k g → ¬ IsFormula sig copies g ss → IsTrue false ↔ IsFormula sig copies (F.Or fs) ss
  Or-false fs k g lt is fails = never (IsFormula sig copies (F.Or fs) ss) (λ h. fails_at (λ f. IsFormula sig copies f ss) fs k g lt is fails (sorted-Or sig copies fs ss h))

  pub Or-true : (fs : List Formula) (n : ℕ) → length fs ≤ n → ((k : ℕ) (d : Formula) → k < n → IsFormula sig copies (get_or fs k d) ss) → IsTrue true ↔ IsFormula sig copies (F.Or fs) ss
  Or-true fs n le each = always (IsFormula sig copies (F.Or fs) ss) (Or-sorted sig copies fs ss (all_seen (λ f. IsFormula sig copies f ss) fs n le each))

  pub All-unknown : (s : ℕ) (f : Formula) → sig.sorts ≤ s → IsTrue false ↔ IsFormula sig copies (F.All s f) ss
  All-unknown s f le = never (IsFormula sig copies (F.All s f) ss) (λ h. let known = (subst (λ (A : Type 0). A) (sorted-All sig copies s f ss) h).0 in absurd (omega arith))

  pub Ex-unknown : (s : ℕ) (f : Formula) → sig.sorts ≤ s → IsTrue false ↔ IsFormula sig copies (F.Ex s f) ss
  Ex-unknown s f le = never (IsFormula sig copies (F.Ex s f) ss) (λ h. let known = (subst (λ (A : Type 0). A) (sorted-Ex sig copies s f ss) h).0 in absurd (omega arith))

  pub All-either : (s : ℕ) (f : Formula) (b : Bool) → s < sig.sorts → (IsTrue b ↔ IsFormula sig copies f (ss ++ s ∷ [])) → IsTrue b ↔ IsFormula sig copies (F.All s f) ss
  All-either s f b lt h = subst (λ (A : Type 0). IsTrue b ↔ A) (sym (sorted-All sig copies s f ss)) (answered (λ is. (lt, is)) (λ is. is.1) h)

  pub Ex-either : (s : ℕ) (f : Formula) (b : Bool) → s < sig.sorts → (IsTrue b ↔ IsFormula sig copies f (ss ++ s ∷ [])) → IsTrue b ↔ IsFormula sig copies (F.Ex s f) ss
  Ex-either s f b lt h = subst (λ (A : Type 0). IsTrue b ↔ A) (sym (sorted-Ex sig copies s f ss)) (answered (λ is. (lt, is)) (λ is. is.1) h)

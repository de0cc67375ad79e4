-- What formulas that are said of a copy say, and their edges.
use Rattle.std.proofs.Common.{◌≡◌, ℕ, true, false, ◌+◌, ◌<◌, ◌≤◌, ◌^◌, List, [], get_or, subst, arith}
use Rattle.std.specs.List.{All}
use Rattle.fo_core.specs.declared.signature.Sig.{Sig}
use Rattle.fo_core.specs.declared.formula.Formula.{Formula}
use Rattle.fo_core.specs.declared.world.World.{World}
use Rattle.fo_core.specs.Shift.{shift, CanShift}
use Rattle.fo_core.specs.SortGraph.{FormulaEdge, FormulasEdge, Rises}
use Rattle.fo_core.specs.Sorted.{IsFormula, AreClosed}
use Rattle.fo_core.specs.Truth.{Truth}
use Rattle.fo_core.proofs.EdgeRows.{edge-Not}
use Rattle.fo_core.proofs.MoreCopies.{formula-more}
use Rattle.fo_core.proofs.Rows.{truth-Not, sorted-Not}
use Rattle.fo_core.proofs.ShiftEdges.{edge-moved}
use Rattle.fo_core.proofs.ShiftRows.{shift-sorted}
use Rattle.fo_core.proofs.ShiftTruth.{truth-moved}
use Rattle.up_claims.specs.Claims.{at_copy, denied}
use Rattle.fo_core.proofs.ListFacts.{cast, back, any_as, any_map, all_as, all_map, all_mapped}

-- what rises along some edges rises along fewer
pub rises-fewer : (E G : ℕ → ℕ → Type 0) (sorts : ℕ) (numbers : List ℕ) → ((a b : ℕ) → G a b → E a b) → Rises E sorts numbers → Rises G sorts numbers
rises-fewer E G sorts numbers less r = record { one_each = r.one_each; rising = λ a b e. r.rising a b (less a b e) }

module _ (sig : Sig) (c : ℕ) where
  pub can-shift : (f : Formula) (n : ℕ) → IsFormula sig n f [] → n + c ≤ 2 ^ 32 → CanShift sig c f
  can-shift f n is room = record { copies = n; sorts = []; sorted = is; room = room }

  pub can-closed : (fs : List Formula) → AreClosed sig fs → c < 2 ^ 32 → All (CanShift sig c) fs
  can-closed fs closed lt k d within = can-shift (get_or fs k d) 1 (closed k d within) (omega arith)

  pub moved-from : (w : World) (f : Formula) → Truth sig w 0 (shift sig c f) [] → Truth sig w c f []
  moved-from w f t = let same : 0 + c ≡ c = omega arith in subst (λ n. Truth sig w n f []) same ((truth-moved sig w 0 c f []).0 t)

  pub moved-to : (w : World) (f : Formula) → Truth sig w c f [] → Truth sig w 0 (shift sig c f) []
  moved-to w f t = let same : c ≡ 0 + c = omega arith in (truth-moved sig w 0 c f []).1 (subst (λ n. Truth sig w n f []) same t)

  pub at-from : (w : World) (fs : List Formula) → All (λ f. Truth sig w 0 f []) (at_copy sig c fs) → All (λ f. Truth sig w c f []) fs
  at-from w fs h = all_as (λ f. Truth sig w 0 (shift sig c f) []) (λ f. Truth sig w c f []) fs (λ f t. moved-from w f t) (all_map (λ f. Truth sig w 0 f []) (shift sig c) fs h)

  pub at-to : (w : World) (fs : List Formula) → All (λ f. Truth sig w c f []) fs → All (λ f. Truth sig w 0 f []) (at_copy sig c fs)
  at-to w fs h = all_mapped (λ f. Truth sig w 0 f []) (shift sig c) fs (all_as (λ f. Truth sig w c f []) (λ f. Truth sig w 0 (shift sig c f) []) fs (λ f t. moved-to w f t) h)

  pub moved-sorted : (n m : ℕ) (f : Formula) → IsFormula sig n f [] → n + c ≤ m → IsFormula sig m (shift sig c f) []
  moved-sorted n m f is le = formula-more sig (n + c) m le (shift sig c f) [] (shift-sorted sig c n f [] is)

  pub at-sorted : (m : ℕ) (fs : List Formula) → AreClosed sig fs → 1 + c ≤ m → All (λ f. IsFormula sig m f []) (at_copy sig c fs)
  at-sorted m fs closed le = all_mapped (λ f. IsFormula sig m f []) (shift sig c) fs (all_as (λ f. IsFormula sig 1 f []) (λ f. IsFormula sig m (shift sig c f) []) fs (λ f is. moved-sorted 1 m f is le) closed)

  pub at-edge : (fs : List Formula) (a b : ℕ) → FormulasEdge (at_copy sig c fs) true a b → FormulasEdge fs true a b
  at-edge fs a b h = any_as (λ f. FormulaEdge a b (shift sig c f) true) (λ f. FormulaEdge a b f true) fs (λ f e. (edge-moved sig c a b f true).0 e) (any_map (λ f. FormulaEdge a b f true) (shift sig c) fs h)

  module _ (f : Formula) where
    pub denied-from : (w : World) → Truth sig w 0 (denied sig c f) [] → ¬ Truth sig w c f []
    denied-from w h t = cast (truth-Not sig w 0 (shift sig c f) []) h (moved-to w f t)

    pub denied-to : (w : World) → ¬ Truth sig w c f [] → Truth sig w 0 (denied sig c f) []
    denied-to w fails = back (truth-Not sig w 0 (shift sig c f) []) (λ t. fails (moved-from w f t))

    pub denied-sorted : (n m : ℕ) → IsFormula sig n f [] → n + c ≤ m → IsFormula sig m (denied sig c f) []
    denied-sorted n m is le = back (sorted-Not sig m (shift sig c f) []) (moved-sorted n m f is le)

    pub denied-edge : (a b : ℕ) → FormulaEdge a b (denied sig c f) true → FormulaEdge a b f false
    denied-edge a b e = (edge-moved sig c a b f false).0 (cast (edge-Not a b (shift sig c f) true) e)

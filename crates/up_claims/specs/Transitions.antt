-- Formulas which say that a transition leads from copy 0 to copy 1.
use Rattle.std.specs.Prelude.{ℕ, zero, suc, Bool, cond, not, ◌&&◌, ◌==◌, List, [], ◌∷◌, ◌++◌, length, map}
use Rattle.std.specs.List.{list_any}
use Rattle.fo_core.specs.declared.signature.Sig.{Sig}
use Rattle.fo_core.specs.declared.system.Step.{Step}
use Rattle.fo_core.specs.declared.signature.Symbol.{Symbol}
use Rattle.fo_core.specs.declared.system.System.{System}
use Rattle.fo_core.specs.declared.term.Term.{Term}
use Rattle.fo_core.specs.declared.term.Term.TheVariants as T
use Rattle.fo_core.specs.declared.formula.Formula.{Formula, Rel, Eq}
use Rattle.fo_core.specs.declared.formula.Formula.TheVariants as F
use Rattle.fo_core.specs.Over.{all_over, some_over, variables}
use Rattle.fo_core.specs.Tables.{symbol_at}

-- for these arguments relation k is true in copy 1 exactly where it is in copy 0
abbrev pub same_truth : ℕ → List Term → Formula
same_truth k ts = F.And (F.Or (F.Not (Rel k 1 ts) ∷ Rel k 0 ts ∷ []) ∷ F.Or (Rel k 1 ts ∷ F.Not (Rel k 0 ts) ∷ []) ∷ [])

-- for these arguments function k has the value in copy 1 that it has in copy 0
abbrev pub same_value : ℕ → List Term → Formula
same_value k ts = Eq (T.App k 1 ts) (T.App k 0 ts)

-- one of the two, as k is a relation or a function
abbrev pub same : Bool → ℕ → List Term → Formula
same relation k ts = cond relation (same_truth k ts) (same_value k ts)

-- below n binders: symbol k, which is s, is the same in copies 0 and 1 for all arguments
abbrev pub keeps : ℕ → ℕ → Symbol → Formula
keeps n k s = all_over s.args (same s.relation k (variables n (length s.args)))

-- whether symbol k, which is s, keeps its table where only the listed symbols are modified
abbrev pub is_kept : List ℕ → ℕ → Symbol → Bool
is_kept modifies k s = s.mutable && not (list_any (λ m. m == k) modifies)

-- below n binders: of the symbols with numbers below the last argument, those that keep their
-- tables are the same in copies 0 and 1
abbrev pub kept_below : Sig → ℕ → List ℕ → ℕ → List Formula
kept_below sig n modifies zero = []
kept_below sig n modifies (suc k) =
    kept_below sig n modifies k ++ cond (is_kept modifies k (symbol_at sig k)) (keeps n k (symbol_at sig k) ∷ []) []

-- the transition leads from copy 0 to copy 1
abbrev pub transition_claim : Sig → Step → Formula
transition_claim sig step =
    some_over step.params (F.And (step.body ∷ kept_below sig (length step.params) step.modifies (length sig.symbols)))

-- some transition of the system does
abbrev pub any_transition : System → Formula
any_transition sys = F.Or (map (transition_claim sys.sig) sys.steps)

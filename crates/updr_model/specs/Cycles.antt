-- How a system that isn't stratified is refused.
use Rattle.std.specs.Prelude.{◌≡◌, ℕ, List, [], ◌∷◌, ◌++◌, slice_index_or, flat_map, codes}
use Rattle.fo_core.specs.declared.names.Names.{Names}
use Rattle.fo_core.specs.declared.order.Purpose.{Purpose}
use Rattle.fo_core.specs.declared.system.System.{System}
use Rattle.pyv_strat.specs.Refusal.{IsUnstratified}
use Rattle.updr_told.specs.Ends.{End, refusal}
use Rattle.updr_told.specs.declared.status.Status.TheVariants.{NotStratified}

abbrev pub sort_name : Names → ℕ → List ℕ
sort_name names s = slice_index_or names.sorts s []

-- the names of the sorts, with arrows between them
abbrev pub cycle_words : Names → List ℕ → List ℕ
cycle_words names [] = []
cycle_words names (s ∷ ss) = sort_name names s ++ flat_map (λ t. codes " -> " ++ sort_name names t) ss

-- the words that tell a cycle of the sort graph
abbrev pub unstratified_words : Names → List ℕ → List ℕ
unstratified_words names cycle = codes "not stratified: " ++ cycle_words names cycle

-- the system isn't stratified for the purpose, and the end tells the first of its shortest cycles
pub record RefusesSystem {L : Type 0} (purpose : Purpose) (sys : System) (names : Names) (end : End L) : Type 0 where
  pub cycle : List ℕ
  pub unstratified : IsUnstratified sys purpose cycle
  pub is : end ≡ refusal NotStratified (unstratified_words names cycle)

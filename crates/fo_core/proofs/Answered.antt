-- What an answer of true or false says of a fact.
use Rattle.std.proofs.Common.{◌≡◌, ℕ, true, false, Bool, true≢false, ◌↔◌, ◌<◌, ◌≤◌, List, length, get_or, refl, sym, subst, ◌∙◌, arith}
use Rattle.std.specs.Prelude.{IsTrue}
use Rattle.std.specs.List.{All}

pub false_from : {P : Type 0} (b : Bool) → b ≡ false → (IsTrue b ↔ P) → ¬ P
false_from b is h p = true≢false (sym (h.1 p) ∙ is)

pub never : (P : Type 0) → ¬ P → IsTrue false ↔ P
never P fails = (λ h. absurd (true≢false (sym h)), λ p. absurd (fails p))

pub always : (P : Type 0) → P → IsTrue true ↔ P
always P met = (λ _. met, λ _. refl)

-- the same answer for a fact that is the same
pub answered : {P Q : Type 0} {b : Bool} → (P → Q) → (Q → P) → (IsTrue b ↔ P) → IsTrue b ↔ Q
answered there back h = (λ t. there (h.0 t), λ q. h.1 (back q))

-- what a loop over a list has found when it stops at an element, and when it ends
module _ {X : Type 0} (P : X → Type 0) (xs : List X) where
  pub fails_at : (k : ℕ) (x : X) → k < length xs → x ≡ get_or xs k x → ¬ P x → ¬ All P xs
  fails_at k x lt is fails all = fails (subst P (sym is) (all k x lt))

  pub all_seen : (n : ℕ) → length xs ≤ n → ((k : ℕ) (d : X) → k < n → P (get_or xs k d)) → All P xs
  all_seen n le each k d lt = each k d (omega arith)

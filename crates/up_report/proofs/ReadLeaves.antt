-- Leaves are read exactly.
use Rattle.std.proofs.Common.{◌≡◌, ℕ, zero, suc, ◌+◌, ◌-◌, ◌^◌, ◌≤◌, min, List, [], ◌∷◌, ◌++◌, length, codes, decimal, refl, sym, ap, ◌∙◌, append_assoc, arith}
use Rattle.std.proofs.lemmas.Fmt.{decimal_digit}
use Rattle.fo_core.specs.declared.names.Names.{Names}
use Rattle.fo_core.specs.declared.signature.Sig.{Sig}
use Rattle.fo_core.specs.Sorted.{IsSig}
use Rattle.fo_text.specs.Parts.{IsBetween, number_text}
use Rattle.fo_text.specs.Reading.{◌>>=◌, literal_at, number_at}
use Rattle.fo_text.specs.Texts.{NamesEach, text_of}
use Rattle.fo_text.proofs.Exact.{Exact, exact_after, exact_words, exact_pair}
use Rattle.fo_text.proofs.Numbers.{exact_number}
use Rattle.up_claims.specs.declared.verdict.Leave.{Leave}
use Rattle.up_report.specs.Ranges.{HasCopies, HasLeave, HasLeaves}
use Rattle.up_report.specs.Reading.{leave_at, leave_line_at, leaves_at, all_leaves_at}
use Rattle.up_report.specs.Texts.{leave_text, leaves_text}
use Rattle.fo_text.specs.Reading.{world_of_copies_at}
use Rattle.up_report.proofs.ReadLinks.{nothing, exact_world_of_copies}

-- ---- what is read

-- what follows a leave's level
abbrev number_and_step : Sig → Names → Leave → List ℕ
number_and_step sig names leave = number_text 10 leave.clause ++ text_of sig names leave.step

-- this many leaves, from this level on
abbrev pub LeavesFit : Sig → ℕ → ℕ → ℕ → List Leave → Type 0
LeavesFit sig clauses n level leaves = (length leaves ≡ n) × HasLeaves sig clauses level leaves

-- the leaves without the word and the level of the first
abbrev pub from_number : Sig → Names → List Leave → List ℕ
from_number sig names [] = []
from_number sig names (leave ∷ leaves) = number_and_step sig names leave ++ leaves_text sig names leaves

module _ (sig : Sig) (names : Names) (is_sig : IsSig sig) (named : NamesEach sig names) (clauses : ℕ) (some : 1 ≤ clauses) where
  -- ---- what follows a leave's level

  abbrev most : ℕ
  most = min clauses (2 ^ 32) - 1

  exact_leave : (level : ℕ) → Exact (HasLeave sig clauses level) (number_and_step sig names) (leave_at sig names clauses level)
  unfolding leave_at
  exact_leave level =
      exact_pair (IsBetween 0 most) (number_text 10) (number_at 0 most 10) (λ clause. HasCopies sig 2) (λ clause. text_of sig names) (λ clause. world_of_copies_at sig names 2)
      (HasLeave sig clauses level) (number_and_step sig names) (leave_at sig names clauses level) (λ clause step. record { level = level; clause = clause; step = step })
      (λ bytes. refl)
      (λ clause step h k. (record { level_is = refl; clause = omega (arith, h.1, some); small = omega (arith, h.1); step = k }, refl))
      (λ leave s. (leave.clause, leave.step, (omega arith, omega (arith, s.clause, s.small)), s.step, ap (λ (n : ℕ). record { level = n; clause = leave.clause; step = leave.step }) (sym s.level_is)))
      (exact_number 0 most 10 (record { range = omega arith; small = omega arith; ends = omega arith })) (λ clause h. exact_world_of_copies sig names is_sig named 2 (omega arith) (omega arith))

  -- ---- a leave's line and its step

  line_words : (level : ℕ) (leave : Leave) → leave.level ≡ level → leave_text sig names leave ≡ codes "leave " ++ (decimal level ++ (codes " " ++ number_and_step sig names leave))
  line_words level leave e =
      ap (λ (l : List ℕ). codes "leave " ++ (decimal leave.level ++ (32 ∷ l))) (sym (append_assoc (decimal leave.clause) (10 ∷ []) (text_of sig names leave.step)))
      ∙ ap (λ (n : ℕ). codes "leave " ++ (decimal n ++ (codes " " ++ number_and_step sig names leave))) e

  exact_leave_line : (level : ℕ) → Exact (HasLeave sig clauses level) (leave_text sig names) (leave_line_at sig names clauses level)
  unfolding leave_line_at
  exact_leave_line level =
      let Fits : Leave → Type 0 = HasLeave sig clauses level in
      let read = leave_at sig names clauses level in
      let spaces = exact_after Fits (number_and_step sig names) read (codes " ") (exact_leave level) in
      let numbered = exact_after Fits (λ leave. codes " " ++ number_and_step sig names leave) (λ bytes. literal_at (codes " ") bytes >>= read) (decimal level) spaces in
      let whole = exact_after Fits (λ leave. decimal level ++ (codes " " ++ number_and_step sig names leave)) (λ bytes. literal_at (decimal level) bytes >>= λ r. literal_at (codes " ") r >>= read) (codes "leave ") numbered in
      exact_words Fits Fits (λ leave. codes "leave " ++ (decimal level ++ (codes " " ++ number_and_step sig names leave))) (leave_text sig names) (leave_line_at sig names clauses level) (leave_line_at sig names clauses level) (λ bytes. refl)
      (λ leave h. (h, line_words level leave h.level_is)) (λ leave h. h) whole

  -- ---- several leaves

  exact_leaves : (n level : ℕ) → Exact (LeavesFit sig clauses n level) (leaves_text sig names) (leaves_at sig names clauses n level)
  unfolding leaves_at
  exact_leaves zero level = nothing (LeavesFit sig clauses zero level) (leaves_text sig names) (leaves_at sig names clauses zero level) (λ bytes. refl) (refl, tt) refl only
    where
      only : (leaves : List Leave) → LeavesFit sig clauses zero level leaves → leaves ≡ []
      only [] h = refl
      only (leave ∷ leaves) h = absurd (omega (arith, h.0))
  exact_leaves (suc n) level =
      exact_pair (HasLeave sig clauses level) (leave_text sig names) (leave_line_at sig names clauses level) (λ leave. LeavesFit sig clauses n (level + 1)) (λ leave. leaves_text sig names) (λ leave. leaves_at sig names clauses n (level + 1))
      (LeavesFit sig clauses (suc n) level) (leaves_text sig names) (leaves_at sig names clauses (suc n) level) (λ leave leaves. leave ∷ leaves)
      (λ bytes. refl) (λ leave leaves h k. ((ap (λ (m : ℕ). suc m) k.0, (h, k.1)), refl)) back (exact_leave_line level) (λ leave h. exact_leaves n (level + 1))
    where
      back : (leaves : List Leave) → LeavesFit sig clauses (suc n) level leaves → (leave : Leave) × (rest : List Leave) × HasLeave sig clauses level leave × LeavesFit sig clauses n (level + 1) rest × (leave ∷ rest ≡ leaves)
      back [] h = absurd (omega (arith, h.0))
      back (leave ∷ leaves) h = (leave, leaves, h.1.0, (omega (arith, h.0), h.1.1), refl)

  pub exact_all_leaves : (last : ℕ) → 1 ≤ last → Exact (LeavesFit sig clauses last 1) (from_number sig names) (all_leaves_at sig names clauses last)
  unfolding all_leaves_at
  exact_all_leaves last levels =
      exact_pair (HasLeave sig clauses 1) (number_and_step sig names) (leave_at sig names clauses 1) (λ leave. LeavesFit sig clauses (last - 1) 2) (λ leave. leaves_text sig names) (λ leave. leaves_at sig names clauses (last - 1) 2)
      (LeavesFit sig clauses last 1) (from_number sig names) (all_leaves_at sig names clauses last) (λ leave leaves. leave ∷ leaves)
      (λ bytes. refl) (λ leave leaves h k. ((omega (arith, k.0, levels), (h, k.1)), refl)) back (exact_leave 1) (λ leave h. exact_leaves (last - 1) 2)
    where
      back : (leaves : List Leave) → LeavesFit sig clauses last 1 leaves → (leave : Leave) × (rest : List Leave) × HasLeave sig clauses 1 leave × LeavesFit sig clauses (last - 1) 2 rest × (leave ∷ rest ≡ leaves)
      back [] h = absurd (omega (arith, h.0, levels))
      back (leave ∷ leaves) h = (leave, leaves, h.1.0, (omega (arith, h.0), h.1.1), refl)

  pub all_leaves_words : (leaves : List Leave) → 1 ≤ length leaves → HasLeaves sig clauses 1 leaves → leaves_text sig names leaves ≡ codes "leave 1 " ++ from_number sig names leaves
  all_leaves_words [] h k = absurd (omega (arith, h))
  all_leaves_words (leave ∷ leaves) h k =
      ap (λ (l : List ℕ). l ++ leaves_text sig names leaves) (line_words 1 leave k.0.level_is ∙ ap (λ (l : List ℕ). codes "leave " ++ (l ++ (codes " " ++ number_and_step sig names leave))) (decimal_digit 1 (omega arith)))
      ∙ append_assoc (codes "leave 1 ") (number_and_step sig names leave) (leaves_text sig names leaves)

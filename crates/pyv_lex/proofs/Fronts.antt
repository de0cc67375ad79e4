-- Each piece as the code finds it.
use Rattle.std.proofs.Common.{◌≡◌, ℕ, zero, suc, ◌<◌, ◌≤◌, List, [], ◌∷◌, ◌++◌, length, take, drop, get_or, Option, Some, None, sym, ap, subst, ◌∙◌, ◌⊎◌, inl, inr, arith}
use Rattle.std.proofs.lemmas.List.{take-append-drop, length-take-le}
use Rattle.fo_core.specs.Named.{BeginsWord, ContinuesWord}
use Rattle.pyv_lex.specs.declared.token.Kind.{Kind}
use Rattle.pyv_lex.specs.declared.token.Kind.TheVariants.{Number, Other}
use Rattle.pyv_lex.specs.Spelling.{IsDigit, IsOther, word_kind, Sign, Spells}
use Rattle.pyv_lex.specs.Spelling as rule
use Rattle.pyv_lex.specs.Cutting.{IsBlank, EndsLine, IsGap, IsLongest, IsPiece, BeginsBad}
use Rattle.pyv_lex.specs.Cutting as cut
use Rattle.pyv_lex.proofs.Pieces.{sign_mark, sign_some, ends_at, all_taken, longest_word, longest_number, longest_mark}

-- so many bytes at the front are such a piece
abbrev pub Fronts : Option Kind → ℕ → List ℕ → Type 0
Fronts k n text = (n ≤ length text) × IsPiece k (take n text) (drop n text)

pub blank_front : (b : ℕ) (after text : List ℕ) → text ≡ b ∷ after → IsBlank b → Fronts None 1 text
blank_front b after text e h = subst (Fronts None 1) (sym e) (omega arith, cut.blank b after h)

ends_line : (s : List ℕ) (n : ℕ) → (n < length s → get_or s n 0 ≡ 10) → EndsLine (drop n s)
ends_line [] zero h = tt
ends_line [] (suc n) h = tt
ends_line (b ∷ s) zero h = h (omega arith)
ends_line (b ∷ s) (suc n) h = ends_line s n (λ l. h (omega arith))

pub comment_front : (b : ℕ) (after text : List ℕ) (m n : ℕ) → text ≡ b ∷ after → b ≡ 35 → n ≡ suc m → m ≤ length after → ((k : ℕ) → k < m → ¬ (get_or after k 0 ≡ 10)) → (m < length after → get_or after m 0 ≡ 10) → Fronts None n text
comment_front b after text m n e hash is within all ends =
    let p : Fronts None (suc m) (35 ∷ after) = (omega arith, cut.comment (take m after) (drop m after) (all_taken (λ b. ¬ (b ≡ 10)) after m within all) (ends_line after m ends)) in
    subst (Fronts None n) (sym (e ∙ ap (λ x. x ∷ after) hash)) (subst (λ n. Fronts None n (35 ∷ after)) (sym is) p)

pub word_front : (b : ℕ) (after text : List ℕ) (m n : ℕ) (k : Kind) → text ≡ b ∷ after → n ≡ suc m → k ≡ word_kind (take n text) → BeginsWord b → m ≤ length after → ((k : ℕ) → k < m → ContinuesWord (get_or after k 0)) → (m < length after → ¬ ContinuesWord (get_or after m 0))
    → Fronts (Some k) n text
word_front b after text m n k e is kind begins within all ends =
    let p : Fronts (Some (word_kind (b ∷ take m after))) (suc m) (b ∷ after) =
    (omega arith, (rule.word b (take m after) begins (all_taken ContinuesWord after m within all), longest_word b (take m after) (drop m after) begins (ends_at ContinuesWord after m ends))) in
    let q : Fronts (Some (word_kind (take n text))) n text = subst (λ t. Fronts (Some (word_kind (take n t))) n t) (sym e) (subst (λ n. Fronts (Some (word_kind (take n (b ∷ after)))) n (b ∷ after)) (sym is) p) in
    subst (λ (k : Kind). Fronts (Some k) n text) (sym kind) q

pub number_front : (b : ℕ) (after text : List ℕ) (m n : ℕ) → text ≡ b ∷ after → n ≡ suc m → IsDigit b → m ≤ length after → ((k : ℕ) → k < m → IsDigit (get_or after k 0)) → (m < length after → ¬ IsDigit (get_or after m 0))
    → Fronts (Some Number) n text
number_front b after text m n e is begins within all ends =
    let p : Fronts (Some Number) (suc m) (b ∷ after) =
    (omega arith, (rule.number b (take m after) begins (all_taken IsDigit after m within all), longest_number b (take m after) (drop m after) begins (ends_at IsDigit after m ends))) in
    subst (Fronts (Some Number) n) (sym e) (subst (λ n. Fronts (Some Number) n (b ∷ after)) (sym is) p)

pub sign_front : (text : List ℕ) (n : ℕ) (k : Kind) → n ≤ length text → Sign k (take n text) → ((j : Kind) (other after : List ℕ) → Sign j other → text ≡ other ++ after → length other ≤ n) → Fronts (Some k) n text
sign_front text n k within h longest =
    let len : length (take n text) ≡ n = length-take-le n text within in
    (within, (rule.sign k (take n text) h, longest_mark (take n text) (drop n text) (sign_some k (take n text) h) (sign_mark k (take n text) h).no_word (λ j other after s e. let l = longest j other after s (sym (take-append-drop n text) ∙ e) in omega arith)))

pub other_front : (b : ℕ) (after text : List ℕ) → text ≡ b ∷ after → 32 < b → b ≤ 126 → ¬ ContinuesWord b → ¬ (b ≡ 35) → ((j : Kind) (other after : List ℕ) → Sign j other → text ≡ other ++ after → ⊥) → Fronts (Some Other) 1 text
other_front b after text e low high no_word no_hash no_sign =
    subst (Fronts (Some Other) 1) (sym e) (
      omega arith,
      (
        rule.other b (record { printable = (omega arith, high); no_word = no_word; no_sign = λ k s. no_sign k (b ∷ []) after s e; no_comment = no_hash }),
        longest_mark (b ∷ []) after (omega arith) no_word (λ k other rest s q. absurd (no_sign k other rest s (e ∙ q))),
      ),
    )

pub bad_front : (b : ℕ) (after text : List ℕ) → text ≡ b ∷ after → ¬ IsBlank b → (b ≤ 32) ⊎ (126 < b) → BeginsBad text
bad_front b after text e no_blank (inl low) = subst BeginsBad (sym e) (inl (let n : (b ≡ 32) → ⊥ = λ q. no_blank (inl q) in omega arith, no_blank))
bad_front b after text e no_blank (inr high) = subst BeginsBad (sym e) (inr (omega arith))

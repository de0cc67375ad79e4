use Rattle.std.proofs.Common.{◌≡◌, ◌∙◌, ℕ, ◌<◌, ◌≤◌, List, [], length, get_or, map, sym, subst, arith, true≢false, below_more, Bor}
use Rattle.std.specs.Prelude.{Contains}
use Rattle.std.proofs.lemmas.List.{get_or-map, length-map, get_or_default}
use Rattle.std.proofs.lemmas.Slice.Eq.{bytes_eq-Decides}
use Rattle.fo_core.proofs.Answered.{always, never}
use Rattle.fo_core.proofs.names.is_among.Goals as goal

abbrev texts : List (Bor (List ℕ)) → List (List ℕ)
texts words = map (λ (w : Bor (List ℕ)). w.now) words

-- the text of a word
word_at : (words : List (Bor (List ℕ))) (k : ℕ) (d : Bor (List ℕ)) (e : List ℕ) → k < length words → get_or (texts words) k e ≡ (get_or words k d).now
word_at words k d e lt = get_or-map (λ (w : Bor (List ℕ)). w.now) words k d e lt

-- where no word is the text
nowhere : (words : List (Bor (List ℕ))) (k : ℕ) (text : List ℕ) → length words ≤ k → ((i : ℕ) → i < k → ¬ (get_or (texts words) i [] ≡ text)) → ¬ Contains (texts words) text
nowhere words k text le none found =
    let within : found.0 < length (texts words) = found.1 in
    let same : length (texts words) ≡ length words = length-map words (λ (w : Bor (List ℕ)). w.now) in
    none found.0 (omega arith) (get_or_default (texts words) found.0 [] text within ∙ found.2)

pub returns-then-eq : goal.returns-then-eq
returns-then-eq c =
    let lt : c.each.word-index < length (texts c.args.words.now) = subst (λ n. c.each.word-index < n) (sym (length-map c.args.words.now (λ (w : Bor (List ℕ)). w.now))) c.each-test.true in
    always (Contains (texts c.args.words.now) c.args.text.now)
    (c.each.word-index, lt, word_at c.args.words.now c.each.word-index _ c.args.text.now c.each-test.true ∙ sym c.as_bytes.ensures.value ∙ (bytes_eq-Decides c.as_bytes.result.now c.args.text.now).0 (sym c.eq.ensures ∙ c.if-eq.true))

pub each-preserved : goal.each-preserved
each-preserved c =
    below_more _ _ c.each.invariant
    (λ e. true≢false (sym ((bytes_eq-Decides c.as_bytes.result.now c.args.text.now).1 (c.as_bytes.ensures.value ∙ sym (word_at c.args.words.now c.each.word-index _ [] c.each-test.true) ∙ e)) ∙ sym c.eq.ensures ∙ c.if-eq.false))

pub returns : goal.returns
returns c = never (Contains (texts c.args.words.now) c.args.text.now) (nowhere c.args.words.now c.each.word-index c.args.text.now c.each-test.false c.each.invariant)

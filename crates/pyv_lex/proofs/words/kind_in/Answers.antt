use Rattle.std.proofs.Common.{◌≡◌, ◌∙◌, ℕ, ◌+◌, ◌<◌, ◌≤◌, List, length, get_or, drop, map, cond, true, false, refl, sym, ap, Bor, Bool, arith, add-one, drop-cons}
use Rattle.std.specs.Prelude.{zip}
use Rattle.std.specs.Str.{bytes_eq}
use Rattle.pyv_lex.specs.declared.token.Kind.{Kind}
use Rattle.pyv_lex.specs.declared.token.Kind.TheVariants as kind
use Rattle.pyv_lex.specs.Spelling.{kind_in}
use Rattle.pyv_lex.proofs.words.kind_in.Goals as goal

-- what the words from a place on give
abbrev given_from : List (Bor (List ℕ)) → List Kind → ℕ → List ℕ → Kind
given_from words kinds i text = kind_in (zip (map (λ (w : Bor (List ℕ)). w.now) (drop i words)) (drop i kinds)) text

step : (words : List (Bor (List ℕ))) (kinds : List Kind) (text : List ℕ) (i : ℕ) (d : Bor (List ℕ)) (k : Kind) → i < length words → i < length kinds
    → given_from words kinds i text ≡ cond (bytes_eq text (get_or words i d).now) (get_or kinds i k) (given_from words kinds (i + 1) text)
step words kinds text i d k lt le = rw (add-one, drop-cons words i d, drop-cons kinds i k) refl

-- the word at the place is the text, or isn't
found : (words : List (Bor (List ℕ))) (kinds : List Kind) (text word : List ℕ) (i : ℕ) (d : Bor (List ℕ)) (k : Kind) (same : Bool) (whole : Kind)
    → i < length words → length words ≤ length kinds → word ≡ (get_or words i d).now → same ≡ bytes_eq text word → same ≡ true → given_from words kinds i text ≡ whole → get_or kinds i k ≡ whole
found words kinds text word i d k same whole lt le is e t h =
    let s : cond (bytes_eq text (get_or words i d).now) (get_or kinds i k) (given_from words kinds (i + 1) text) ≡ whole = sym (step words kinds text i d k lt (omega arith)) ∙ h in
    let b : bytes_eq text (get_or words i d).now ≡ true = ap (bytes_eq text) (sym is) ∙ sym e ∙ t in
    rw b at s

passed : (words : List (Bor (List ℕ))) (kinds : List Kind) (text word : List ℕ) (i : ℕ) (d : Bor (List ℕ)) (k : Kind) (same : Bool) (whole : Kind)
    → i < length words → length words ≤ length kinds → word ≡ (get_or words i d).now → same ≡ bytes_eq text word → same ≡ false → given_from words kinds i text ≡ whole → given_from words kinds (i + 1) text ≡ whole
passed words kinds text word i d k same whole lt le is e t h =
    let s : cond (bytes_eq text (get_or words i d).now) (get_or kinds i k) (given_from words kinds (i + 1) text) ≡ whole = sym (step words kinds text i d k lt (omega arith)) ∙ h in
    let b : bytes_eq text (get_or words i d).now ≡ false = ap (bytes_eq text) (sym is) ∙ sym e ∙ t in
    rw b at s

pub returns-then-eq : goal.returns-then-eq
returns-then-eq c = found c.args.words.now c.args.kinds.now c.args.text.now c.as_bytes.result.now c.each.place _ _ c.eq.result _ c.each-test.true c.requires c.as_bytes.ensures.value c.eq.ensures c.if-eq.true c.each.invariant

pub each-preserved : goal.each-preserved
each-preserved c = passed c.args.words.now c.args.kinds.now c.args.text.now c.as_bytes.result.now c.each.place _ kind.Sort c.eq.result _ c.each-test.true c.requires c.as_bytes.ensures.value c.eq.ensures c.if-eq.false c.each.invariant

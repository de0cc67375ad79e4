use Rattle.std.proofs.Common.{◌≡◌, ◌∙◌, ℕ, ◌<◌, List, [], length, get_or, take, sym, arith}
use Rattle.std.proofs.lemmas.List.{get_or-take, length-take-le}
use Rattle.std.proofs.lemmas.List.{get_or_default}
use Rattle.fo_core.specs.Named.{AreDistinct}
use Rattle.fo_core.proofs.Answered.{never, false_from}
use Rattle.fo_core.proofs.names.are_distinct.Goals as goal

-- in distinct names, none before a place is the one there
fresh_before : (names : List (List ℕ)) (j : ℕ) (name : List ℕ) → j < length names → name ≡ get_or names j [] → AreDistinct names → (i : ℕ) → i < length (take j names) → ¬ (get_or (take j names) i [] ≡ name)
fresh_before names j name lt is distinct i below e =
    let before : i < j = omega (arith, length-take-le j names) in
    distinct i j before lt (sym (get_or-take j names i [] before) ∙ e ∙ is)

pub returns-then-not-is_fresh : goal.returns-then-not-is_fresh
returns-then-not-is_fresh c =
    never (AreDistinct c.args.names.now) (λ distinct.
    false_from c.is_fresh.result c.if-not-is_fresh.true c.is_fresh.ensures
    (fresh_before c.args.names.now c.each.j c.as_str.result.now c.each-test.true (c.as_str.ensures ∙ c.index-names-j.is ∙ get_or_default c.args.names.now c.each.j c.index-names-j.result [] c.each-test.true) distinct))

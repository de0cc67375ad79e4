use Rattle.std.proofs.Common.{◌≡◌, ◌<◌, ◌∙◌, ap, sym, subst, arith, List, ℕ, IsPermutation}
use Rattle.pyv_meaning.specs.Closing.{names_word}
use Rattle.pyv_meaning.specs.Tree.{Name}
use Rattle.pyv_sorts.specs.Closures.{Picks}
use Rattle.pyv_sorts.specs.Placing.{names_in}
use Rattle.pyv_sorts.proofs.Numbering.{picks, picks_sorted}
use Rattle.pyv_sorts.proofs.Picking.{names_length}
use Rattle.pyv_sorts.proofs.free.closure.Goals as goal

pub picked-requires-clause-within : goal.picked-requires-clause-within
picked-requires-clause-within c =
    let ns = names_in c.args.names.now in
    let vs = names_in c.args.variables.now in
    let P = λ (n : Name). names_word ns n.word in
    let h : Picks P vs c.in_ok-numbers.numbers.items = subst (Picks P vs) (sym c.in_ok-numbers.ensures) (picks vs ns c.args.words.now c.requires.words c.requires.distinct) in
    let s : Picks P vs c.as_slice.result.now = subst (Picks P vs) (sym c.as_slice.ensures.value) (picks_sorted P vs c.in_ok-numbers.numbers.items c.sort.new.self.items c.in_ok-sort.ensures.permutation h) in
    λ k e. let l = s.within k e in omega (arith, l, names_length c.args.variables.now)

pub returns : goal.returns
returns c =
    let ns = names_in c.args.names.now in
    let vs = names_in c.args.variables.now in
    let P = λ (n : Name). names_word ns n.word in
    let h : Picks P vs c.in_ok-numbers.numbers.items = subst (Picks P vs) (sym c.in_ok-numbers.ensures) (picks vs ns c.args.words.now c.requires.words c.requires.distinct) in
    let s : Picks P vs c.as_slice.result.now = subst (Picks P vs) (sym c.as_slice.ensures.value) (picks_sorted P vs c.in_ok-numbers.numbers.items c.sort.new.self.items c.in_ok-sort.ensures.permutation h) in
    c.in_ok-names.ensures P s

-- Trials, entry by entry.
use Rattle.std.proofs.Common.{◌≡◌, ℕ, ◌+◌, ◌<◌, ◌≤◌, List, [], ◌∷◌, ◌++◌, length, map, sum, take, drop, get_or, Result, Ok, Err, IfOk, refl, sym, ap, subst, ◌∙◌, add-one, append-nil, arith}
use Rattle.std.specs.List.{All, range_with_len}
use Rattle.std.proofs.Math.Seq.{drop-cons}
use Rattle.std.proofs.lemmas.List.{drop_all, take_all}
use Rattle.std.proofs.lemmas.List.Elements.{All-weaker}
use Rattle.fo_core.specs.declared.query.Query.{Query}
use Rattle.fo_core.specs.declared.signature.Sig.{Sig}
use Rattle.fo_core.specs.declared.formula.Formula.{Formula, Eq}
use Rattle.fo_core.specs.declared.formula.Formula.TheVariants as F
use Rattle.fo_core.specs.declared.term.Term.{Term, Var}
use Rattle.fo_core.specs.declared.cell.Cell.{Cell}
use Rattle.fo_core.specs.Cells.{cells}
use Rattle.fo_core.specs.Trials.{element_sorts, element, elements, covers, has_value, have_values, trial}
use Rattle.fo_least.proofs.CellLemmas.{IsCell, cells-all}
use Rattle.fo_min.proofs.ListLemmas.{map_more}
use Rattle.fo_min.specs.Search.{HasSymbol}
use Rattle.fo_core.specs.Over.{some_over}

elements-none : (sizes sorts : List ℕ) → elements sizes sorts [] ≡ []
elements-none sizes [] = refl
elements-none sizes (s ∷ ss) = refl

pub elements_end : (sizes sorts xs : List ℕ) (i : ℕ) → length xs ≤ i → elements sizes (drop i sorts) (drop i xs) ≡ []
elements_end sizes sorts xs i le = ap (elements sizes (drop i sorts)) (drop_all i xs le) ∙ elements-none sizes (drop i sorts)

pub elements_last : (sizes sorts xs : List ℕ) (i : ℕ) → length sorts ≤ i → elements sizes (drop i sorts) (drop i xs) ≡ []
elements_last sizes sorts xs i le = ap (λ ss. elements sizes ss (drop i xs)) (drop_all i sorts le)

pub elements_step : (sizes sorts xs : List ℕ) (i : ℕ) → i < length sorts → i < length xs →
    elements sizes (drop i sorts) (drop i xs) ≡ element sizes (get_or sorts i 0) (get_or xs i 0) ∷ elements sizes (drop (i + 1) sorts) (drop (i + 1) xs)
elements_step sizes sorts xs i in_ within = rw (add-one, drop-cons sorts i 0, drop-cons xs i 0) refl

have_values-none : (sizes : List ℕ) (sig : Sig) (cs : List Cell) → have_values sizes sig cs [] ≡ []
have_values-none sizes sig [] = refl
have_values-none sizes sig (c ∷ cs) = refl

pub have_values_end : (sizes : List ℕ) (sig : Sig) (cs : List Cell) (vs : List ℕ) (i : ℕ) → length vs ≤ i → have_values sizes sig (drop i cs) (drop i vs) ≡ []
have_values_end sizes sig cs vs i le = ap (have_values sizes sig (drop i cs)) (drop_all i vs le) ∙ have_values-none sizes sig (drop i cs)

pub have_values_step : (sizes : List ℕ) (sig : Sig) (cs : List Cell) (vs : List ℕ) (i : ℕ) (d : Cell) → i < length cs → i < length vs →
    have_values sizes sig (drop i cs) (drop i vs) ≡ has_value sizes sig (get_or cs i d) (get_or vs i 0) ∷ have_values sizes sig (drop (i + 1) cs) (drop (i + 1) vs)
have_values_step sizes sig cs vs i d in_ within = rw (add-one, drop-cons cs i d, drop-cons vs i 0) refl

-- the query with a claim after its own is the trial
pub is-trial : (sig : Sig) (q p : Query) (sizes values : List ℕ) (parts : List Formula) → parts ≡ covers sizes ++ have_values sizes sig (cells sig sizes q.copies) values →
    p.copies ≡ q.copies → p.claims ≡ q.claims ++ some_over (element_sorts sizes) (F.And parts) ∷ [] → p ≡ trial sig q sizes values
is-trial sig q p sizes values parts e c d =
    let of_copies : ℕ → Query = λ n. record { copies = n; claims = p.claims } in
    let of_claims : List Formula → Query = λ fs. record { copies = q.copies; claims = fs } in
    let of_parts : List Formula → Query = λ fs. record { copies = q.copies; claims = q.claims ++ some_over (element_sorts sizes) (F.And fs) ∷ [] } in
    ap of_copies c ∙ ap of_claims d ∙ ap of_parts e

pub no-values : (sig : Sig) (sizes : List ℕ) (cs : List Cell) → covers sizes ≡ covers sizes ++ have_values sizes sig cs []
no-values sig sizes cs = sym (ap (λ fs. covers sizes ++ fs) (have_values-none sizes sig cs) ∙ append-nil (covers sizes))

pub cells-symbols : (sig : Sig) (sizes : List ℕ) (copies : ℕ) (cs : List Cell) → cs ≡ cells sig sizes copies → All (HasSymbol sig) cs
cells-symbols sig sizes copies cs e =
    subst (All (HasSymbol sig)) (sym e)
    (All-weaker (IsCell sig sizes copies) (HasSymbol sig) (λ c is. is.within) (cells sig sizes copies) (cells-all sig sizes copies))

pub elements-done : (sizes sorts xs : List ℕ) (ts : List Term) (i : ℕ) → i ≡ length xs → ts ++ elements sizes (drop i sorts) (drop i xs) ≡ elements sizes sorts xs → ts ≡ elements sizes sorts xs
elements-done sizes sorts xs ts i e named = sym (append-nil ts) ∙ ap (λ us. ts ++ us) (sym (elements_end sizes sorts xs i (omega arith))) ∙ named

pub have_values-done : (sizes : List ℕ) (sig : Sig) (cs : List Cell) (vs : List ℕ) (i : ℕ) (fs all : List Formula) → length vs ≤ i →
    fs ++ have_values sizes sig (drop i cs) (drop i vs) ≡ all → fs ≡ all
have_values-done sizes sig cs vs i fs all le told = sym (append-nil fs) ∙ ap (λ gs. fs ++ gs) (sym (have_values_end sizes sig cs vs i le)) ∙ told

pub cover-more : (sizes : List ℕ) (sort x bound : ℕ) (t : Term) (parts now : List Formula) → bound ≡ sum (take (length sizes) sizes) → t ≡ element sizes sort x →
    parts ≡ map (λ x. Eq (Var (sum sizes)) (element sizes sort x)) (range_with_len 0 x) → now ≡ parts ++ Eq (Var bound) t ∷ [] →
    now ≡ map (λ x. Eq (Var (sum sizes)) (element sizes sort x)) (range_with_len 0 (x + 1))
cover-more sizes sort x bound t parts now b is told e =
    let bound_is = b ∙ ap sum (take_all (length sizes) sizes (omega arith)) in
    let part = ap (λ n. Eq (Var n) t) bound_is ∙ ap (Eq (Var (sum sizes))) is in
    e ∙ ap (λ fs. fs ++ Eq (Var bound) t ∷ []) told
    ∙ ap (λ f. map (λ x. Eq (Var (sum sizes)) (element sizes sort x)) (range_with_len 0 x) ++ f ∷ []) part
    ∙ sym (map_more (λ x. Eq (Var (sum sizes)) (element sizes sort x)) x)

pub size-trial : {E : Type 0} (q : Query) (sizes : List ℕ) (parts : List Formula) (r : Result Query E) → parts ≡ covers sizes →
    IfOk r (λ p. p.copies ≡ q.copies) → IfOk r (λ p. p.claims ≡ q.claims ++ some_over (element_sorts sizes) (F.And parts) ∷ []) → IfOk r (λ p. (sig : Sig) → p ≡ trial sig q sizes [])
size-trial q sizes parts (Ok p) e c d = λ sig. is-trial sig q p sizes [] parts (e ∙ no-values sig sizes (cells sig sizes q.copies)) c d
size-trial q sizes parts (Err x) e c d = tt

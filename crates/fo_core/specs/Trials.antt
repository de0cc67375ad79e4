-- Queries with a claim about sizes and table entries.
use Rattle.std.specs.Prelude.{ℕ, ◌+◌, ◌==◌, cond, List, [], ◌∷◌, ◌++◌, length, map, replicate, sum, take, slice_index}
use Rattle.std.specs.List.{flat_map, range_with_len}
use Rattle.fo_core.specs.declared.query.Query.{Query}
use Rattle.fo_core.specs.declared.signature.Sig.{Sig}
use Rattle.fo_core.specs.declared.term.Term.{Term, Var}
use Rattle.fo_core.specs.declared.term.Term.TheVariants as T
use Rattle.fo_core.specs.declared.formula.Formula.{Formula, Rel, Eq}
use Rattle.fo_core.specs.declared.formula.Formula.TheVariants as F
use Rattle.fo_core.specs.Over.{some_over}
use Rattle.fo_core.specs.Tables.{symbol_at}
use Rattle.fo_core.specs.declared.cell.Cell.{Cell}
use Rattle.fo_core.specs.Cells.{cells}

-- over the sizes of the first sorts: each of their elements is named by a variable, sort by sort
module _ (sizes : List ℕ) where
  -- the sorts of the variables
  abbrev pub element_sorts : List ℕ
  element_sorts = flat_map (λ s. replicate (slice_index sizes s) s) (range_with_len 0 (length sizes))

  -- the variable that names element x of sort s
  abbrev pub element : ℕ → ℕ → Term
  element s x = Var (sum (take s sizes) + x)

  -- the named elements of sort s are all that it has
  abbrev pub cover : ℕ → Formula
  cover s = F.All s (F.Or (map (λ x. Eq (Var (sum sizes)) (element s x)) (range_with_len 0 (slice_index sizes s))))

  abbrev pub covers : List Formula
  covers = map cover (range_with_len 0 (length sizes))

  -- the variables of these elements, of these sorts
  abbrev pub elements : List ℕ → List ℕ → List Term
  elements [] xs = []
  elements (s ∷ ss) [] = []
  elements (s ∷ ss) (x ∷ xs) = element s x ∷ elements ss xs

  -- the symbol's value at this place is this one
  abbrev pub has_value : Sig → Cell → ℕ → Formula
  has_value sig cell v =
      let s = symbol_at sig cell.symbol in
      let args = elements s.args cell.args in
      cond s.relation
      (cond (v == 0) (F.Not (Rel cell.symbol cell.copy args)) (Rel cell.symbol cell.copy args))
      (Eq (T.App cell.symbol cell.copy args) (element s.result v))

  -- the values at these places, from the first on, are these
  abbrev pub have_values : Sig → List Cell → List ℕ → List Formula
  have_values sig [] vs = []
  have_values sig (c ∷ cs) [] = []
  have_values sig (c ∷ cs) (v ∷ vs) = has_value sig c v ∷ have_values sig cs vs

-- There are so many elements as cover the first sorts, and the first table entries have these values.
abbrev pub claim_of : Sig → ℕ → List ℕ → List ℕ → Formula
claim_of sig copies sizes values = some_over (element_sorts sizes) (F.And (covers sizes ++ have_values sizes sig (cells sig sizes copies) values))

-- the query with this claim after its own
abbrev pub trial : Sig → Query → List ℕ → List ℕ → Query
trial sig q sizes values = record { copies = q.copies; claims = q.claims ++ claim_of sig q.copies sizes values ∷ [] }

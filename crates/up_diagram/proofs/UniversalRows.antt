-- What it is to be universal at each constructor, over lists.
use Rattle.std.proofs.Common.{◌≡◌, ℕ, true, not, Bool, List, [], ◌∷◌, refl, sym, subst}
use Rattle.std.specs.List.{All}
use Rattle.std.proofs.lemmas.List.Elements.{All-head, All-tail}
use denote.Hole.Carrier.{hidden}
use Rattle.fo_core.specs.declared.formula.Formula.{Formula, Row_of-Formula, end_of-Formula, more_of-Formula, items-the_row-Formula, items_hidden-the_row-Formula-1}
use Rattle.fo_core.specs.declared.formula.Formula.TheBlock.{shape-the_row-Formula-0, hidden-the_row-Formula-0}
use Rattle.fo_core.specs.declared.formula.Formula.TheVariants as F
use Rattle.fo_core.specs.Over.{all_over}
use Rattle.fo_core.specs.Universal.{IsUniversal, AreUniversal}
use Rattle.fo_core.proofs.Rows.{row_of}
use Rattle.fo_core.proofs.ListFacts.{back}

pub universal-Not : (b : Bool) (f : Formula) → IsUniversal b (F.Not f) ≡ IsUniversal (not b) f
unfolding shape-the_row-Formula-0 hidden-the_row-Formula-0 hidden
universal-Not b f = refl

pub universal-All : (b : Bool) (s : ℕ) (f : Formula) → IsUniversal b (F.All s f) ≡ ((b ≡ true) × IsUniversal b f)
unfolding shape-the_row-Formula-0 hidden-the_row-Formula-0 hidden
universal-All b s f = refl

to-row : (b : Bool) (n : _) (row : Row_of-Formula n) → All (IsUniversal b) (items-the_row-Formula n row) → AreUniversal b row
to-row b n end_of-Formula h = tt
to-row b n (more_of-Formula f rest) h = (All-head (IsUniversal b) f _ h, to-row b _ rest (All-tail (IsUniversal b) f _ h))

pub Or-universal : (b : Bool) (fs : List Formula) → All (IsUniversal b) fs → IsUniversal b (F.Or fs)
Or-universal b fs h =
    let row = row_of (F.Or fs) in
    to-row b row.0 row.1 (subst (All (IsUniversal b)) (sym (items_hidden-the_row-Formula-1 fs)) h)

pub all-universal : (ss : List ℕ) (f : Formula) → IsUniversal true f → IsUniversal true (all_over ss f)
all-universal [] f h = h
all-universal (s ∷ ss) f h = back (universal-All true s (all_over ss f)) (refl, all-universal ss f h)

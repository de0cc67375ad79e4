-- A term names an element of its sort, and a tuple of elements has a place in its table.
use Rattle.std.proofs.Common.{◌≡◌, ℕ, zero, suc, true, false, Bool, cond, ◌+◌, ◌-◌, ◌*◌, ◌<◌, ◌≤◌, List, [], ◌∷◌, length, get_or, map, drop, sym, ap, subst, ◌∙◌, arith, add-one, drop-cons}
use Rattle.std.specs.List.{AllZip}
use Rattle.std.specs.Prelude.{slice_index}
use Rattle.std.proofs.lemmas.List.Elements.{length_all_zip, AllZip-get_or}
use Rattle.fo_core.specs.declared.signature.Sig.{Sig}
use Rattle.fo_core.specs.declared.term.Term.{Term, Var, App', Row_of-Term, end_of-Term, more_of-Term}
use Rattle.fo_core.specs.declared.world.World.{World}
use Rattle.fo_core.specs.Tables.{symbol_at, tuples, place, arg_sizes, range_of, table_of, entry, Fits}
use Rattle.fo_core.specs.Truth.{value, values}
use Rattle.fo_core.specs.Sorted.{IsSymbol, IsTerm, AreTerms}
use Rattle.fo_core.specs.Runs.{AreElements}
use Rattle.fo_core.proofs.TableLemmas.{table_is, place-lt}

-- a symbol that may be read in copy d may be read c copies on
pub copy_within : (sig : Sig) (w : World) (c : ℕ) (relation : Bool) (k d : ℕ) → IsSymbol sig (length w.copies - c) relation k d → (symbol_at sig k).mutable ≡ true → c + d < length w.copies
copy_within sig w c relation k d s is =
    let below = subst (λ b. d < cond b (length w.copies - c) 1) is s.copy in omega arith

-- the entry for a tuple of elements is in the symbol's range
pub entry-lt : (sig : Sig) (w : World) (c : ℕ) (relation : Bool) (k d : ℕ) (xs : List ℕ) → Fits sig w → IsSymbol sig (length w.copies - c) relation k d → AllZip (λ x n. x < n) xs (arg_sizes w.sizes (symbol_at sig k)) →
    (place (arg_sizes w.sizes (symbol_at sig k)) xs < length (table_of sig w (c + d) k).values) × (entry sig w (c + d) k xs < range_of w.sizes (symbol_at sig k))
entry-lt sig w c relation k d xs fits s elements =
    let table = table_is sig w (c + d) k fits s.within (copy_within sig w c relation k d s) in
    let lt : place (arg_sizes w.sizes (symbol_at sig k)) xs < length (table_of sig w (c + d) k).values = subst (λ n. place (arg_sizes w.sizes (symbol_at sig k)) xs < n) (sym table.total) (place-lt _ xs elements) in
    (lt, table.in_range (place (arg_sizes w.sizes (symbol_at sig k)) xs) 0 lt)

module _ (sig : Sig) (w : World) (c : ℕ) (fits : Fits sig w) (vs ss : List ℕ) (elements : AreElements w.sizes vs ss) where
  mutual
    pub value-lt : (t : Term) (s : ℕ) → IsTerm sig (length w.copies - c) t ss s → value sig w c t vs < slice_index w.sizes s
    value-lt (Var i) s h =
        let lt : i < length vs = omega (arith, h.0, length_all_zip (λ x s. x < slice_index w.sizes s) vs ss elements) in
        subst (λ s. get_or vs i 0 < slice_index w.sizes s) h.1 (AllZip-get_or (λ x s. x < slice_index w.sizes s) vs ss i 0 0 elements lt)
    value-lt (App' f d _ args) s h =
        let e = entry-lt sig w c false f d (values sig w c args vs) fits h.0 (values-lt args (symbol_at sig f).args h.2) in
        let range : range_of w.sizes (symbol_at sig f) ≡ slice_index w.sizes s = ap (λ b. cond b 2 (slice_index w.sizes (symbol_at sig f).result)) h.0.kind ∙ ap (slice_index w.sizes) h.1 in
        subst (λ n. entry sig w (c + d) f (values sig w c args vs) < n) range e.1

    pub values-lt : {n : _} (row : Row_of-Term n) (rs : List ℕ) → AreTerms sig (length w.copies - c) row ss rs → AllZip (λ x n. x < n) (values sig w c row vs) (map (slice_index w.sizes) rs)
    values-lt end_of-Term [] h = tt
    values-lt end_of-Term (s ∷ rs) h = absurd h
    values-lt (more_of-Term t rest) [] h = absurd h
    values-lt (more_of-Term t rest) (s ∷ rs) h = (value-lt t s h.0, values-lt rest rs h.1)

  -- the same of a list of terms
  pub list-lt : (ts : List Term) (rs : List ℕ) → AllZip (λ t s. IsTerm sig (length w.copies - c) t ss s) ts rs → AllZip (λ x n. x < n) (map (λ t. value sig w c t vs) ts) (map (slice_index w.sizes) rs)
  list-lt [] [] h = tt
  list-lt [] (s ∷ rs) h = absurd h
  list-lt (t ∷ ts) [] h = absurd h
  list-lt (t ∷ ts) (s ∷ rs) h = (value-lt t s h.0, list-lt ts rs h.1)

-- one more element of a tuple, from the left
pub horner : (ns xs : List ℕ) (i acc : ℕ) → i < length ns → i < length xs →
    acc * tuples (drop i ns) + place (drop i ns) (drop i xs) ≡ (acc * get_or ns i 0 + get_or xs i 0) * tuples (drop (i + 1) ns) + place (drop (i + 1) ns) (drop (i + 1) xs)
horner ns xs i acc p q = rw (add-one, drop-cons ns i 0, drop-cons xs i 0) (algebra (get_or ns i 0) (get_or xs i 0) (tuples (drop (suc i) ns)) (place (drop (suc i) ns) (drop (suc i) xs)))
  where
    algebra : (n x T P : ℕ) → acc * (n * T) + (x * T + P) ≡ (acc * n + x) * T + P
    algebra n x T P = omega arith

-- and no such number passes the whole place
pub horner-le : (y T P q : ℕ) → y * T + P ≡ q → 1 ≤ T → y ≤ q
horner-le y zero P q e h = absurd (omega arith)
horner-le y (suc T) P q e h = omega arith

-- Two tables are equal where their entries are equal for all tuples of elements.
use Rattle.std.proofs.Common.{◌≡◌, ℕ, zero, suc, ◌+◌, ◌*◌, ◌-◌, ◌<◌, ◌≤◌, ◌⊎◌, inl, inr, List, [], ◌∷◌, length, get_or, map, sym, ap, subst, ◌∙◌, arith}
use Rattle.std.proofs.lemmas.Bool.{cases_lt}
use Rattle.std.proofs.lemmas.List.{ext_get_or}
use Rattle.std.specs.List.{AllZip}
use Rattle.std.specs.Prelude.{slice_index}
use Rattle.fo_core.specs.declared.signature.Symbol.{Symbol}
use Rattle.fo_core.specs.declared.world.Table.{Table}
use Rattle.fo_core.specs.Tables.{tuples, place, arg_sizes, IsTable}
use Rattle.fo_core.specs.Runs.{AreElements}

-- a number below a product is a multiple and a rest
divided : (n T p : ℕ) → p < n * T → (x : ℕ) × (r : ℕ) × (x < n) × (r < T) × (x * T + r ≡ p)
divided zero T p lt = absurd (omega arith)
divided (suc n) T p lt = by_case (λ below. divided n T p below) (cases_lt p (n * T))
  where
    by_case : (p < n * T → (x : ℕ) × (r : ℕ) × (x < n) × (r < T) × (x * T + r ≡ p)) → (p < n * T) ⊎ (n * T ≤ p) → (x : ℕ) × (r : ℕ) × (x < suc n) × (r < T) × (x * T + r ≡ p)
    by_case fewer (inl below) = let d = fewer below in (d.0, d.1, omega (arith, d.2), d.3, d.4)
    by_case fewer (inr le) = (n, p - n * T, omega arith, omega arith, omega arith)

-- each place is that of a tuple
pub tuple_at : (ns : List ℕ) (p : ℕ) → p < tuples ns → (xs : List ℕ) × AllZip (λ x n. x < n) xs ns × (place ns xs ≡ p)
tuple_at [] p lt = ([], tt, omega arith)
tuple_at (n ∷ ns) p lt =
    let d = divided n (tuples ns) p lt in
    let rest = tuple_at ns d.1 d.3 in
    (d.0 ∷ rest.0, (d.2, rest.1), ap (λ r. d.0 * tuples ns + r) rest.2 ∙ d.4)

elements-of : (sizes : List ℕ) (xs sorts : List ℕ) → AllZip (λ x n. x < n) xs (map (slice_index sizes) sorts) → AreElements sizes xs sorts
elements-of sizes [] [] h = tt
elements-of sizes [] (s ∷ sorts) h = absurd h
elements-of sizes (x ∷ xs) [] h = absurd h
elements-of sizes (x ∷ xs) (s ∷ sorts) h = (h.0, elements-of sizes xs sorts h.1)

pub same-tables : (sizes : List ℕ) (s : Symbol) (t u : Table) → IsTable sizes s t → IsTable sizes s u →
    ((xs : List ℕ) → AreElements sizes xs s.args → get_or t.values (place (arg_sizes sizes s) xs) 0 ≡ get_or u.values (place (arg_sizes sizes s) xs) 0) → t ≡ u
same-tables sizes s t u is_t is_u same = ap (λ (vs : List ℕ). record { values = vs }) (ext_get_or 0 t.values u.values (is_t.total ∙ sym is_u.total) each)
  where
    each : (p : ℕ) → p < length t.values → get_or t.values p 0 ≡ get_or u.values p 0
    each p lt =
        let found = tuple_at (arg_sizes sizes s) p (subst (λ n. p < n) is_t.total lt) in
        subst (λ q. get_or t.values q 0 ≡ get_or u.values q 0) found.2 (same found.0 (elements-of sizes found.0 s.args found.1))

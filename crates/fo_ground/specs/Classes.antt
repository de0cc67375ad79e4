-- Namings of elements by ground terms, and the quotient world of an equality on ground terms.
use Rattle.std.specs.Prelude.{◌≡◌, ◌↔◌, ℕ, zero, suc, ◌<◌, Bool, true, false, cond, ◌==◌, List, [], ◌∷◌, ◌++◌, map, length, slice_index}
use Rattle.std.specs.List.{range_with_len, list_any, position_or_len}
use Rattle.fo_core.specs.declared.signature.Sig.{Sig}
use Rattle.fo_core.specs.declared.signature.Symbol.{Symbol}
use Rattle.fo_core.specs.declared.world.Table.{Table}
use Rattle.fo_core.specs.declared.world.World.{World}
use Rattle.fo_core.specs.Tables.{symbol_at, tuples, is_like}
use Rattle.fo_core.specs.Sorted.{IsSymbol}
use Rattle.fo_terms.specs.declared.terms.Ground.{Ground}
use Rattle.fo_terms.specs.Universe.{IsOf, AreOf, sort_at}
use Rattle.fo_core.specs.Tuples.{tuple_at}

-- each ground term has an element as its value under a reading of the symbols, and the atoms say what is true of these
pub record IsNaming (ts : List Ground) (at : ℕ → ℕ → List ℕ → ℕ) (same : ℕ → ℕ → Bool) (fact : ℕ → ℕ → List ℕ → Bool) (sig : Sig) (copies : ℕ) (sizes : List ℕ) (reads : ℕ → ℕ → List ℕ → ℕ) (m : ℕ → ℕ) : Type 0 where
  pub within : (s p : ℕ) → IsOf ts s p → m p < slice_index sizes s
  pub applied : (f c : ℕ) (args : List ℕ) → IsSymbol sig copies false f c → AreOf ts args (symbol_at sig f).args → reads c f (map m args) ≡ m (at f c args)
  pub equal : (s p q : ℕ) → IsOf ts s p → IsOf ts s q → (same p q ≡ true) ↔ (m p ≡ m q)
  pub facts : (r c : ℕ) (args : List ℕ) → IsSymbol sig copies true r c → AreOf ts args (symbol_at sig r).args → (fact r c args ≡ true) ↔ (reads c r (map m args) ≡ 1)

-- applications to ground terms are ground terms of the function's sort
abbrev pub IsClosed : List Ground → (ℕ → ℕ → List ℕ → ℕ) → Sig → ℕ → Type 0
IsClosed ts at sig copies = (f c : ℕ) (args : List ℕ) → IsSymbol sig copies false f c → AreOf ts args (symbol_at sig f).args → IsOf ts (symbol_at sig f).result (at f c args)

-- every element has a name
abbrev pub IsNamed : List Ground → Sig → List ℕ → (ℕ → ℕ) → Type 0
IsNamed ts sig sizes m = (s x : ℕ) → s < sig.sorts → x < slice_index sizes s → (p : ℕ) × IsOf ts s p × (m p ≡ x)

abbrev pub bit : Bool → ℕ
bit b = cond b 1 0

module _ (ts : List Ground) (at : ℕ → ℕ → List ℕ → ℕ) (same : ℕ → ℕ → Bool) (fact : ℕ → ℕ → List ℕ → Bool) where
  -- of the first n terms those of sort s that begin a class: none of these before is the same
  abbrev pub heads : ℕ → ℕ → List ℕ
  heads s zero = []
  heads s (suc n) = cond (sort_at ts n == s) (cond (list_any (λ q. same q n) (heads s n)) (heads s n) (heads s n ++ n ∷ [])) (heads s n)

  abbrev pub heads_of : ℕ → List ℕ
  heads_of s = heads s (length ts)

  -- which class of its sort a term is in
  abbrev pub class_of : ℕ → ℕ
  class_of p = position_or_len (λ q. same q p) (heads_of (sort_at ts p))

  abbrev pub class_count : ℕ → ℕ
  class_count s = length (heads_of s)

  -- the first term of each of these classes
  abbrev pub heads_at : List ℕ → List ℕ → List ℕ
  heads_at [] xs = []
  heads_at (s ∷ ss) [] = []
  heads_at (s ∷ ss) (x ∷ xs) = slice_index (heads_of s) x ∷ heads_at ss xs

  abbrev pub class_entry : ℕ → ℕ → Symbol → List ℕ → ℕ
  class_entry c k s xs = cond s.relation (bit (fact k c (heads_at s.args xs))) (class_of (at k c (heads_at s.args xs)))

  abbrev pub class_table : ℕ → ℕ → Symbol → Table
  class_table c k s = record { values = map (λ i. class_entry c k s (tuple_at (map class_count s.args) i)) (range_with_len 0 (tuples (map class_count s.args))) }

  -- the tables of the mutable, or of the immutable, of these symbols, whose numbers begin at k
  abbrev pub class_tables : Bool → ℕ → ℕ → List Symbol → List Table
  class_tables mutable c k [] = []
  class_tables mutable c k (s ∷ ss) = cond (is_like mutable s) (class_table c k s ∷ class_tables mutable c (suc k) ss) (class_tables mutable c (suc k) ss)

  abbrev pub class_world : Sig → ℕ → World
  class_world sig copies = record {
    sizes = map class_count (range_with_len 0 sig.sorts);
    fixed = class_tables false 0 0 sig.symbols;
    copies = map (λ c. class_tables true c 0 sig.symbols) (range_with_len 0 copies);
  }

-- Where tables lie, and what their entries are.
use Rattle.std.proofs.Common.{◌≡◌, ℕ, zero, suc, true, false, Bool, cond, ◌<◌, ◌≤◌, List, [], ◌∷◌, length, get_or, take, drop, refl, sym, subst, ap, arith, ◌↔◌}
use Rattle.std.specs.Bool.{beq}
use Rattle.std.specs.Prelude.{IsTrue, ◌==◌}
use Rattle.std.proofs.lemmas.Bool.Decides.{Decides-eqb}
use Rattle.std.specs.List.{All, AllZip, filter}
use Rattle.std.proofs.lemmas.List.Elements.{All-head, All-tail}
use Rattle.std.proofs.lemmas.Nat.{mul-add-lt}
use Rattle.fo_core.specs.declared.signature.Sig.{Sig}
use Rattle.fo_core.specs.declared.signature.Symbol.{Symbol}
use Rattle.fo_core.specs.declared.world.Table.{Table}
use Rattle.fo_core.specs.declared.world.World.{World}
use Rattle.fo_core.specs.Tables.{no_symbol, no_table, symbol_at, tuples, place, is_like, rank, table_of, IsTable, AreTables, Fits}

-- what passes stands in the filtered list after those that pass before it
pub filtered_at : {X : Type 0} (p : X → Bool) (xs : List X) (k : ℕ) (d : X) → k < length xs → p (get_or xs k d) ≡ true →
    (length (filter p (take k xs)) < length (filter p xs)) × (get_or (filter p xs) (length (filter p (take k xs))) d ≡ get_or xs k d)
filtered_at p [] k d lt h = absurd (omega arith)
filtered_at {X} p (x ∷ xs) zero d lt h =
    let P : Bool → Type 0 = λ b. (0 < length (cond b (x ∷ filter p xs) (filter p xs))) × (get_or (cond b (x ∷ filter p xs) (filter p xs)) 0 d ≡ x) in
    subst P (sym h) (omega arith, refl)
filtered_at {X} p (x ∷ xs) (suc k) d lt h = step (p x) (filtered_at p xs k d (omega arith) h)
  where
    step : (b : Bool) → (length (filter p (take k xs)) < length (filter p xs)) × (get_or (filter p xs) (length (filter p (take k xs))) d ≡ get_or xs k d) →
        (length (cond b (x ∷ filter p (take k xs)) (filter p (take k xs))) < length (cond b (x ∷ filter p xs) (filter p xs)))
        × (get_or (cond b (x ∷ filter p xs) (filter p xs)) (length (cond b (x ∷ filter p (take k xs)) (filter p (take k xs)))) d ≡ get_or xs k d)
    step true r = (omega (arith, r.0), r.1)
    step false r = r

pub AreTables-at : (sizes : List ℕ) (ss : List Symbol) (ts : List Table) (k : ℕ) (s : Symbol) (t : Table) → AreTables sizes ss ts → k < length ss → (k < length ts) × IsTable sizes (get_or ss k s) (get_or ts k t)
AreTables-at sizes [] ts k s t h lt = absurd (omega arith)
AreTables-at sizes (a ∷ ss) [] k s t h lt = absurd h
AreTables-at sizes (a ∷ ss) (b ∷ ts) zero s t h lt = (omega arith, h.0)
AreTables-at sizes (a ∷ ss) (b ∷ ts) (suc k) s t h lt = let r = AreTables-at sizes ss ts k s t h.1 (omega arith) in (omega (arith, r.0), r.1)

is_like-itself : (s : Symbol) (b : Bool) → s.mutable ≡ b → is_like b s ≡ true
is_like-itself s b e = subst (λ b. is_like b s ≡ true) e (itself s.mutable)
  where
    itself : (b : Bool) → beq b b ≡ true
    itself true = refl
    itself false = refl

-- the table of a symbol is one for it, and lies where `table_of` looks
pub mutable_at : (sig : Sig) (w : World) (c k : ℕ) → Fits sig w → k < length sig.symbols → (symbol_at sig k).mutable ≡ true → c < length w.copies →
    (rank sig k < length (get_or w.copies c [])) × IsTable w.sizes (symbol_at sig k) (get_or (get_or w.copies c []) (rank sig k) no_table)
mutable_at sig w c k fits lt is within =
    let s = symbol_at sig k in
    let found = filtered_at (is_like s.mutable) sig.symbols k no_symbol lt (is_like-itself s s.mutable refl) in
    let tables = subst (λ b. AreTables w.sizes (filter (is_like b) sig.symbols) (get_or w.copies c [])) (sym is) (fits.copies c [] within) in
    let r = AreTables-at w.sizes _ _ (rank sig k) no_symbol no_table tables found.0 in
    (r.0, subst (λ s. IsTable w.sizes s (get_or (get_or w.copies c []) (rank sig k) no_table)) found.1 r.1)

pub fixed_at : (sig : Sig) (w : World) (k : ℕ) → Fits sig w → k < length sig.symbols → (symbol_at sig k).mutable ≡ false →
    (rank sig k < length w.fixed) × IsTable w.sizes (symbol_at sig k) (get_or w.fixed (rank sig k) no_table)
fixed_at sig w k fits lt is =
    let s = symbol_at sig k in
    let found = filtered_at (is_like s.mutable) sig.symbols k no_symbol lt (is_like-itself s s.mutable refl) in
    let tables = subst (λ b. AreTables w.sizes (filter (is_like b) sig.symbols) w.fixed) (sym is) fits.fixed in
    let r = AreTables-at w.sizes _ _ (rank sig k) no_symbol no_table tables found.0 in
    (r.0, subst (λ s. IsTable w.sizes s (get_or w.fixed (rank sig k) no_table)) found.1 r.1)

pub table_is : (sig : Sig) (w : World) (c k : ℕ) → Fits sig w → k < length sig.symbols → ((symbol_at sig k).mutable ≡ true → c < length w.copies) → IsTable w.sizes (symbol_at sig k) (table_of sig w c k)
table_is sig w c k fits lt within = by_kind (symbol_at sig k).mutable refl
  where
    by_kind : (b : Bool) → (symbol_at sig k).mutable ≡ b → IsTable w.sizes (symbol_at sig k) (cond b (get_or (get_or w.copies c []) (rank sig k) no_table) (get_or w.fixed (rank sig k) no_table))
    by_kind true is = (mutable_at sig w c k fits lt is (within is)).1
    by_kind false is = (fixed_at sig w k fits lt is).1

-- a tuple of elements has a place below the number of tuples
pub place-lt : (ns xs : List ℕ) → AllZip (λ x n. x < n) xs ns → place ns xs < tuples ns
place-lt [] [] h = omega arith
place-lt [] (x ∷ xs) h = omega arith
place-lt (n ∷ ns) [] h = absurd h
place-lt (n ∷ ns) (x ∷ xs) h = omega (arith, mul-add-lt x (tuples ns) (place ns xs) n h.0 (place-lt ns xs h.1))

pub tuples-positive : (ns : List ℕ) → All (λ n. 1 ≤ n) ns → 1 ≤ tuples ns
tuples-positive [] h = omega arith
tuples-positive (n ∷ ns) h =
    omega (arith, mul-add-lt 0 (tuples ns) 0 n (All-head (λ n. 1 ≤ n) n ns h) (tuples-positive ns (All-tail (λ n. 1 ≤ n) n ns h)))

-- with no symbol left there is to be no table left
none_left : (sizes : List ℕ) (ts : List Table) (at : ℕ) → at ≤ length ts → (at ≡ length ts) ↔ AreTables sizes [] (drop at ts)
none_left sizes [] zero le = (λ _. tt, λ _. refl)
none_left sizes [] (suc at) le = absurd (omega arith)
none_left sizes (t ∷ ts) zero le = (λ e. absurd (omega arith), λ h. absurd h)
none_left sizes (t ∷ ts) (suc at) le = let r = none_left sizes ts at (omega arith) in (λ e. r.0 (omega arith), λ h. ap suc (r.1 h))

pub all_left : (sizes : List ℕ) (ss rest : List Symbol) (ts : List Table) (p : Symbol → Bool) (at : ℕ) → at ≤ length ts → rest ≡ [] → AreTables sizes (filter p rest) (drop at ts) ↔ AreTables sizes (filter p ss) ts → IsTrue (at == length ts) ↔ AreTables sizes (filter p ss) ts
all_left sizes ss (s ∷ rest) ts p at le e h = absurd (omega (arith, ap length e))
all_left sizes ss [] ts p at le e h =
    let none = none_left sizes ts at le in
    let same = Decides-eqb at (length ts) in
    (λ t. h.0 (none.0 (same.0 t)), λ a. same.1 (none.1 (h.1 a)))

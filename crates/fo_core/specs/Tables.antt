-- Where a world keeps the value of a symbol, and when a world is one for a signature.
use Rattle.std.specs.Prelude.{◌≡◌, ℕ, ◌+◌, ◌*◌, ◌^◌, ◌<◌, ◌≤◌, Bool, true, false, cond, List, [], ◌∷◌, length, map, take, slice_index, slice_index_or, ⊤}
use Rattle.std.specs.Bool.{beq}
use Rattle.std.specs.List.{All, filter}
use Rattle.fo_core.specs.declared.signature.Symbol.{Symbol}
use Rattle.fo_core.specs.declared.signature.Sig.{Sig}
use Rattle.fo_core.specs.declared.world.Table.{Table}
use Rattle.fo_core.specs.declared.world.World.{World}

-- what stands where a list has nothing
abbrev pub no_symbol : Symbol
no_symbol = record { relation = true; mutable = false; args = []; result = 0 }

abbrev pub no_table : Table
no_table = record { values = [] }

-- the symbol of this number
abbrev pub symbol_at : Sig → ℕ → Symbol
symbol_at sig k = slice_index_or sig.symbols k no_symbol

-- how many tuples there are of elements below these sizes
abbrev pub tuples : List ℕ → ℕ
tuples [] = 1
tuples (n ∷ ns) = n * tuples ns

-- the place of a tuple among all of them in lexicographic order
abbrev pub place : List ℕ → List ℕ → ℕ
place [] xs = 0
place (n ∷ ns) [] = 0
place (n ∷ ns) (x ∷ xs) = x * tuples ns + place ns xs

-- the sizes of the sorts of a symbol's arguments, where the sorts have these sizes
abbrev pub arg_sizes : List ℕ → Symbol → List ℕ
arg_sizes sizes s = map (slice_index sizes) s.args

-- a symbol's values are below this: truth values below 2, elements below the size of their sort
abbrev pub range_of : List ℕ → Symbol → ℕ
range_of sizes s = cond s.relation 2 (slice_index sizes s.result)

-- whether the symbol is mutable, or immutable, as asked
abbrev pub is_like : Bool → Symbol → Bool
is_like mutable s = beq s.mutable mutable

-- how many symbols of the same kind come before the one of this number
abbrev pub rank : Sig → ℕ → ℕ
rank sig k = length (filter (is_like (symbol_at sig k).mutable) (take k sig.symbols))

-- the table of a symbol, in copy c where it is mutable
abbrev pub table_of : Sig → World → ℕ → ℕ → Table
table_of sig w c k =
    cond (symbol_at sig k).mutable
    (slice_index_or (slice_index_or w.copies c []) (rank sig k) no_table)
    (slice_index_or w.fixed (rank sig k) no_table)

-- the value of a symbol for these arguments, in copy c where it is mutable
abbrev pub entry : Sig → World → ℕ → ℕ → List ℕ → ℕ
entry sig w c k xs = slice_index (table_of sig w c k).values (place (arg_sizes w.sizes (symbol_at sig k)) xs)

-- a table for the symbol: a value for each tuple of arguments, each in range
pub record IsTable (sizes : List ℕ) (s : Symbol) (t : Table) : Type 0 where
  pub total : length t.values ≡ tuples (arg_sizes sizes s)
  pub in_range : All (λ v. v < range_of sizes s) t.values

-- one table for each of these symbols, in their order
abbrev pub AreTables : List ℕ → List Symbol → List Table → Type 0
AreTables sizes [] [] = ⊤
AreTables sizes [] (t ∷ ts) = ⊥
AreTables sizes (s ∷ ss) [] = ⊥
AreTables sizes (s ∷ ss) (t ∷ ts) = IsTable sizes s t × AreTables sizes ss ts

-- the world is one for the signature: an element of each sort, a table for each immutable symbol,
-- and one or more copies, each with a table for each mutable symbol
pub record Fits (sig : Sig) (w : World) : Type 0 where
  pub sorts : length w.sizes ≡ sig.sorts
  pub nonempty : All (λ n. 1 ≤ n) w.sizes
  pub fixed : AreTables w.sizes (filter (is_like false) sig.symbols) w.fixed
  pub some_copy : 1 ≤ length w.copies
  pub copies : All (AreTables w.sizes (filter (is_like true) sig.symbols)) w.copies

-- the world fits the signature, and its copies have numbers of 32 bits
pub record IsReadable (sig : Sig) (w : World) : Type 0 where
  pub fits : Fits sig w
  pub few : length w.copies < 2 ^ 32

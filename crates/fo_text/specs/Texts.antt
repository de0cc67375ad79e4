-- The text of a world, and where bytes stop being one.
use Rattle.std.specs.Prelude.{◌≡◌, ℕ, ◌+◌, ◌^◌, ◌<◌, ◌≤◌, Bool, true, false, cond, List, [], ◌∷◌, ◌++◌, length, codes, decimal, slice_range}
use Rattle.std.specs.List.{All, flat_map}
use Rattle.fo_core.specs.declared.signature.Symbol.{Symbol}
use Rattle.fo_core.specs.declared.signature.Sig.{Sig}
use Rattle.fo_core.specs.declared.names.Names.{Names}
use Rattle.fo_core.specs.declared.world.Table.{Table}
use Rattle.fo_core.specs.declared.world.World.{World}
use Rattle.fo_core.specs.Tables.{is_like, Fits}

-- a name for each sort and each symbol of the signature
pub record NamesEach (sig : Sig) (names : Names) : Type 0 where
  pub sorts : length names.sorts ≡ sig.sorts
  pub symbols : length names.symbols ≡ length sig.symbols

-- the names of the mutable symbols, or of the immutable ones, in the order of the symbols
abbrev pub names_like : Bool → List Symbol → List (List ℕ) → List (List ℕ)
names_like mutable [] names = []
names_like mutable (s ∷ ss) [] = []
names_like mutable (s ∷ ss) (name ∷ names) = cond (is_like mutable s) (name ∷ names_like mutable ss names) (names_like mutable ss names)

-- a space, and the number in decimal digits without leading zeros
abbrev pub after_space : ℕ → List ℕ
after_space n = 32 ∷ decimal n

-- a symbol's line: its name and all values of its table
abbrev pub table_line : List ℕ → Table → List ℕ
table_line name t = name ++ flat_map after_space t.values ++ 10 ∷ []

-- the lines of symbols of these names, each with its table
abbrev pub table_lines : List (List ℕ) → List Table → List ℕ
table_lines [] tables = []
table_lines (name ∷ names) [] = []
table_lines (name ∷ names) (t ∷ tables) = table_line name t ++ table_lines names tables

-- a sort's line: its name and its size
abbrev pub sort_line : List ℕ → ℕ → List ℕ
sort_line name size = codes "sort " ++ name ++ after_space size ++ 10 ∷ []

abbrev pub sort_lines : List (List ℕ) → List ℕ → List ℕ
sort_lines [] sizes = []
sort_lines (name ∷ names) [] = []
sort_lines (name ∷ names) (size ∷ sizes) = sort_line name size ++ sort_lines names sizes

-- copy k: its number, and the lines of the mutable symbols, which have these names
abbrev pub copy_text : List (List ℕ) → ℕ → List Table → List ℕ
copy_text names k tables = codes "copy" ++ after_space k ++ 10 ∷ [] ++ table_lines names tables

-- the copies from the one of number k on
abbrev pub copies_text : List (List ℕ) → ℕ → List (List Table) → List ℕ
copies_text names k [] = []
copies_text names k (copy ∷ copies) = copy_text names k copy ++ copies_text names (k + 1) copies

-- the text of a world: how many copies it has, the sizes of the sorts, the tables of the immutable
-- symbols, those of the mutable symbols for each copy, and the line `end`
abbrev pub text_of : Sig → Names → World → List ℕ
text_of sig names w =
    codes "world" ++ after_space (length w.copies) ++ 10 ∷ []
    ++ sort_lines names.sorts w.sizes
    ++ codes "fixed\n"
    ++ table_lines (names_like false sig.symbols names.symbols) w.fixed
    ++ copies_text (names_like true sig.symbols names.symbols) 0 w.copies
    ++ codes "end\n"

-- a world that fits the signature, with sizes and a number of copies of 32 bits
pub record HasText (sig : Sig) (w : World) : Type 0 where
  pub fits : Fits sig w
  pub sizes : All (λ n. n < 2 ^ 32) w.sizes
  pub copies : length w.copies < 2 ^ 32

-- some world's text begins with these bytes
abbrev pub BeginsText : Sig → Names → List ℕ → Type 0
BeginsText sig names front = (w : World) × HasText sig w × (rest : List ℕ) × (text_of sig names w ≡ front ++ rest)

-- From the place `from` on, no world's text goes on at the place p: the bytes before p begin one, and
-- with the byte at p, if there is one, they don't.
pub record StopsAt (sig : Sig) (names : Names) (bytes : List ℕ) (from p : ℕ) : Type 0 where
  pub behind : from ≤ p
  pub within : p ≤ length bytes
  pub begins : BeginsText sig names (slice_range bytes from p)
  pub stops : p < length bytes → ¬ BeginsText sig names (slice_range bytes from (p + 1))

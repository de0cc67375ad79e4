-- Reading the text of a world from left to right, with the first byte at which it can't go on.
use Rattle.std.specs.Prelude.{◌≡◌, ℕ, zero, suc, ◌+◌, ◌-◌, ◌*◌, ◌^◌, min, Bool, true, false, cond, not, ◌&&◌, ◌||◌, nat_le, ◌==◌, if◌then◌else◌, List, [], ◌∷◌, ◌++◌, length, map, codes, decimal, slice_index_or, Result, Ok, Err, ⊤}
use Rattle.std.specs.List.{range_with_len}
use Rattle.fo_core.specs.declared.signature.Symbol.{Symbol}
use Rattle.fo_core.specs.declared.signature.Sig.{Sig}
use Rattle.fo_core.specs.declared.names.Names.{Names}
use Rattle.fo_core.specs.declared.world.Table.{Table}
use Rattle.fo_core.specs.declared.world.World.{World}
use Rattle.fo_core.specs.Tables.{is_like, tuples, arg_sizes, range_of}
use Rattle.fo_text.specs.declared.halt.Halt.{Halt}
use Rattle.fo_text.specs.declared.halt.Halt.TheVariants.{Memory, Fault}
use Rattle.fo_text.specs.declared.lines.Line.{Line}

-- A reader gives a value and the bytes behind it, or how many bytes are left at the first fault.
abbrev pub Read : Type 0 → Type 0
Read A = Result (A × List ℕ) ℕ

infixl 10 ◌>>=◌
abbrev pub ◌>>=◌ : {A B : Type 0} → Result A ℕ → (A → Result B ℕ) → Result B ℕ
(Ok x) >>= f = f x
(Err left) >>= f = Err left

-- What a function returned, seen by view, is what reading gives, unless memory ran out.
abbrev pub Fails : {Y : Type 0} → Halt → Result Y ℕ → Type 0
Fails Memory read = ⊤
Fails (Fault left) read = read ≡ Err left

abbrev pub Gives : {X Y : Type 0} → (X → Y) → Result X Halt → Result Y ℕ → Type 0
Gives view (Ok x) read = read ≡ Ok (view x)
Gives view (Err e) read = Fails e read

-- this text, byte for byte: what stands behind it
unfoldable pub literal_at : List ℕ → List ℕ → Result (List ℕ) ℕ
literal_at [] bytes = Ok bytes
literal_at (t ∷ text) [] = Err 0
literal_at (t ∷ text) (b ∷ bytes) = if b == t then literal_at text bytes else Err (length bytes + 1)

abbrev pub is_digit : ℕ → Bool
is_digit b = nat_le 48 b && nat_le b 57

-- Of the numbers from `low` to `high`, or of those that have the same digits in front and up to k - 1
-- more behind them, one is from `least` to `most`.
unfoldable pub reaches : ℕ → ℕ → ℕ → ℕ → ℕ → Bool
reaches zero least most low high = false
reaches (suc k) least most low high = nat_le low most && (nat_le least high || reaches k least most (10 * low) (10 * high + 9))

-- the digits of n begin those of a number from `least` to `most`, which has 20 digits at most; 0 goes
-- on to no other number
abbrev pub begins_some : ℕ → ℕ → ℕ → Bool
begins_some least most n = reaches (if n == 0 then 1 else 20) least most n n

-- the byte is the first digit of a number from `least` to `most`
abbrev pub begins_number : ℕ → ℕ → ℕ → Bool
begins_number least most b = is_digit b && begins_some least most (b - 48)

-- the byte is a digit by which the number n goes on to one from `least` to `most`
abbrev pub goes_on : ℕ → ℕ → ℕ → ℕ → Bool
goes_on least most n b = not (n == 0) && is_digit b && begins_some least most (10 * n + (b - 48))

-- the number whose first digits are those of n, up to the byte that ends it
unfoldable pub digits_at : ℕ → ℕ → ℕ → ℕ → List ℕ → Read ℕ
digits_at least most ending n [] = Err 0
digits_at least most ending n (b ∷ bytes) =
    if b == ending && nat_le least n then Ok (n, bytes)
    else (if goes_on least most n b then digits_at least most ending (10 * n + (b - 48)) bytes else Err (length bytes + 1))

-- a number from `least` to `most`, and the byte that ends it
unfoldable pub number_at : ℕ → ℕ → ℕ → List ℕ → Read ℕ
number_at least most ending [] = Err 0
number_at least most ending (b ∷ bytes) = if begins_number least most b then digits_at least most ending (b - 48) bytes else Err (length bytes + 1)

-- so many values up to `most`, with spaces between them, and the end of the line
unfoldable pub values_at : ℕ → ℕ → List ℕ → Read (List ℕ)
values_at zero most bytes = Ok ([], bytes)
values_at (suc n) most bytes = do
  v ← number_at 0 most (if n == 0 then 10 else 32) bytes
  vs ← values_at n most v.1
  Ok (v.0 ∷ vs.0, vs.1)

-- a symbol's line
unfoldable pub table_at : Line → List ℕ → Read Table
table_at line bytes = do
  name ← literal_at line.name bytes
  space ← literal_at (codes " ") name
  vs ← values_at line.entries line.most space
  Ok (record { values = vs.0 }, vs.1)

unfoldable pub tables_at : List Line → List ℕ → Read (List Table)
tables_at [] bytes = Ok ([], bytes)
tables_at (line ∷ lines) bytes = do
  t ← table_at line bytes
  ts ← tables_at lines t.1
  Ok (t.0 ∷ ts.0, ts.1)

-- the copy of number k
unfoldable pub copy_at : List Line → ℕ → List ℕ → Read (List Table)
copy_at lines k bytes = do
  word ← literal_at (codes "copy ") bytes
  number ← literal_at (decimal k) word
  rest ← literal_at (codes "\n") number
  tables_at lines rest

-- so many copies, the first of number k
unfoldable pub copies_at : List Line → ℕ → ℕ → List ℕ → Read (List (List Table))
copies_at lines zero k bytes = Ok ([], bytes)
copies_at lines (suc n) k bytes = do
  c ← copy_at lines k bytes
  cs ← copies_at lines n (k + 1) c.1
  Ok (c.0 ∷ cs.0, cs.1)

-- the line of a sort of this name: its size
unfoldable pub size_at : List ℕ → List ℕ → Read ℕ
size_at name bytes = do
  word ← literal_at (codes "sort ") bytes
  named ← literal_at name word
  space ← literal_at (codes " ") named
  number_at 1 (2 ^ 32 - 1) 10 space

unfoldable pub sizes_at : List (List ℕ) → List ℕ → Read (List ℕ)
sizes_at [] bytes = Ok ([], bytes)
sizes_at (name ∷ names) bytes = do
  n ← size_at name bytes
  ns ← sizes_at names n.1
  Ok (n.0 ∷ ns.0, ns.1)

-- the first line: how many copies there are
unfoldable pub count_at : List ℕ → Read ℕ
count_at bytes = do
  word ← literal_at (codes "world ") bytes
  number_at 1 (2 ^ 32 - 1) 10 word

-- what the line of a symbol holds where the sorts have these sizes
abbrev pub line_of : List ℕ → Symbol → List ℕ → Line
line_of sizes s name = record { name = name; entries = tuples (arg_sizes sizes s); most = range_of sizes s - 1 }

-- the lines of the mutable symbols, or of the immutable ones
abbrev pub lines_of : List ℕ → Bool → List Symbol → List (List ℕ) → List Line
lines_of sizes mutable [] names = []
lines_of sizes mutable (s ∷ ss) [] = []
lines_of sizes mutable (s ∷ ss) (name ∷ names) = cond (is_like mutable s) (line_of sizes s name ∷ lines_of sizes mutable ss names) (lines_of sizes mutable ss names)

-- a line's number of entries as a machine word holds it
abbrev pub cut : Line → Line
cut line = record line { entries = min line.entries (2 ^ 64 - 1) }

-- the lines behind the sizes
unfoldable pub tables_of : List ℕ → ℕ → List Line → List Line → List ℕ → Read World
tables_of sizes copies fixed mutable bytes = do
  word ← literal_at (codes "fixed\n") bytes
  ts ← tables_at fixed word
  cs ← copies_at mutable copies 0 ts.1
  rest ← literal_at (codes "end\n") cs.1
  Ok (record { sizes = sizes; fixed = ts.0; copies = cs.0 }, rest)

-- the same for the symbols of a signature, whose lines are seen by `see`
abbrev pub structure_at : (Line → Line) → Sig → Names → List ℕ → ℕ → List ℕ → Read World
structure_at see sig names sizes copies =
    tables_of sizes copies (map see (lines_of sizes false sig.symbols names.symbols)) (map see (lines_of sizes true sig.symbols names.symbols))

unfoldable pub world_at : (Line → Line) → Sig → Names → List ℕ → Read World
world_at see sig names bytes = do
  n ← count_at bytes
  sizes ← sizes_at names.sorts n.1
  structure_at see sig names sizes.0 n.0 sizes.1

-- ---- one of several texts

-- what the first of these found, or what the other did, or the later of both faults
abbrev pub or_else : {A : Type 0} → Read A → Read A → Read A
or_else (Ok x) other = Ok x
or_else (Err left) (Ok y) = Ok y
or_else (Err left) (Err least) = Err (min left least)

-- the option, if its text stands here
abbrev pub option_at : {X : Type 0} → (X → List ℕ) → X → List ℕ → Read X
option_at text x bytes = literal_at (text x) bytes >>= λ rest. Ok (x, rest)

-- the option whose text stands here; else the first byte at which no option's text goes on
unfoldable pub choose : {X : Type 0} → (X → List ℕ) → List X → List ℕ → Read X
choose text [] bytes = Err (length bytes)
choose text (x ∷ options) bytes = or_else (option_at text x bytes) (choose text options bytes)

-- one of these texts after a mark and a word, told by its place
unfoldable pub choice_at : List ℕ → List ℕ → List (List ℕ) → List ℕ → Read ℕ
choice_at mark word texts bytes =
    choose (λ k. mark ++ (word ++ slice_index_or texts k [])) (range_with_len 0 (length texts)) bytes

-- ---- items, each after a keyword, and then another keyword

-- up to n - 1 items
unfoldable pub many_by : {A : Type 0} → List ℕ → List ℕ → (List ℕ → Read A) → ℕ → List ℕ → Read (List A)
many_by stop go item zero bytes = Err 0
many_by stop go item (suc n) bytes = do
  word ← choice_at [] [] (stop ∷ go ∷ []) bytes
  if word.0 == 0 then Ok ([], word.1)
      else (item word.1 >>= λ x. many_by stop go item n x.1 >>= λ xs. Ok (x.0 ∷ xs.0, xs.1))

-- items, each after the keyword `go`, and then the keyword `stop`; no list is longer than the bytes
abbrev pub many : {A : Type 0} → List ℕ → List ℕ → (List ℕ → Read A) → List ℕ → Read (List A)
many stop go item bytes = many_by stop go item (length bytes + 1) bytes

-- ---- a world of a known number of copies

unfoldable pub copied_world_at : (Line → Line) → Sig → Names → ℕ → List ℕ → Read World
copied_world_at see sig names copies bytes = do
  word ← literal_at (codes "world ") bytes
  number ← literal_at (decimal copies) word
  rest ← literal_at (codes "\n") number
  sizes ← sizes_at names.sorts rest
  structure_at see sig names sizes.0 copies sizes.1

-- the text of a world with this number of copies
abbrev pub world_of_copies_at : Sig → Names → ℕ → List ℕ → Read World
world_of_copies_at = copied_world_at (λ line. line)

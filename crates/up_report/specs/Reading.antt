-- Reading a report from left to right, with the first byte at which none goes on.
use Rattle.std.specs.Prelude.{◌==◌, if◌then◌else◌, ℕ, zero, suc, ◌+◌, ◌-◌, ◌^◌, min, List, [], ◌∷◌, ◌++◌, length, codes, decimal, Ok}
use Rattle.fo_core.specs.declared.names.Names.{Names}
use Rattle.fo_core.specs.declared.signature.Sig.{Sig}
use Rattle.fo_core.specs.declared.world.World.{World}
use Rattle.fo_text.specs.Reading.{Read, ◌>>=◌, literal_at, number_at, values_at}
use Rattle.up_claims.specs.declared.kind.Kind.{Kind}
use Rattle.up_claims.specs.declared.kind.Kind.TheVariants.{Seed, Root, Before, Block, Push, Unroll}
use Rattle.up_claims.specs.declared.report.Numbers.{Numbers}
use Rattle.up_claims.specs.declared.report.Report.{Report}
use Rattle.up_claims.specs.declared.verdict.Kept.{Kept}
use Rattle.up_claims.specs.declared.verdict.Leave.{Leave}
use Rattle.up_claims.specs.declared.verdict.Link.{Link}
use Rattle.up_claims.specs.declared.verdict.Verdict.{Verdict}
use Rattle.up_claims.specs.declared.verdict.Verdict.TheVariants as verdict
use Rattle.up_report.specs.ClauseReading.{clause_at}
use Rattle.fo_text.specs.Reading.{choice_at, many, world_of_copies_at}

-- ---- links

-- the line of a sort's map, from this many elements to a sort of size `to`
unfoldable pub map_at : List ℕ → ℕ → ℕ → List ℕ → Read (List ℕ)
map_at name from to bytes = do
  word ← literal_at (codes "map ") bytes
  named ← literal_at name word
  space ← literal_at (codes " ") named
  values_at from (to - 1) space

-- the lines of the maps of sorts of these names and sizes
unfoldable pub maps_at : List (List ℕ) → List ℕ → List ℕ → List ℕ → Read (List (List ℕ))
maps_at [] from to bytes = Ok ([], bytes)
maps_at (name ∷ names) [] to bytes = Ok ([], bytes)
maps_at (name ∷ names) (n ∷ from) [] bytes = Ok ([], bytes)
maps_at (name ∷ names) (n ∷ from) (m ∷ to) bytes = do
  images ← map_at name n m bytes
  maps ← maps_at names from to images.1
  Ok (images.0 ∷ maps.0, maps.1)

-- what follows a link's origin
unfoldable pub state_at : Sig → Names → World → List ℕ → Read Link
state_at sig names origin bytes = do
  state ← world_of_copies_at sig names 1 bytes
  maps ← maps_at names.sorts state.0.sizes origin.sizes state.1
  Ok (record { origin = origin; state = state.0; map = record { images = maps.0 } }, maps.1)

-- a link with an origin of this many copies
unfoldable pub link_at : Sig → Names → ℕ → List ℕ → Read Link
link_at sig names copies bytes = do
  origin ← world_of_copies_at sig names copies bytes
  state_at sig names origin.0 origin.1

-- this many links, the first with an origin of this many copies, and each other with one of two
unfoldable pub links_at : Sig → Names → ℕ → ℕ → List ℕ → Read (List Link)
links_at sig names zero copies bytes = Ok ([], bytes)
links_at sig names (suc n) copies bytes = do
  link ← link_at sig names copies bytes
  links ← links_at sig names n 2 link.1
  Ok (link.0 ∷ links.0, links.1)

-- ---- clauses

-- what was read before, and what is read now
abbrev pub gathered : {A : Type 0} → List A → Read (List A) → Read (List A)
gathered front read = read >>= λ xs. Ok (front ++ xs.0, xs.1)

-- the lines of clauses of these levels, up to another word
abbrev pub clauses_at : Sig → Names → ℕ → ℕ → List ℕ → List ℕ → Read (List Kept)
clauses_at sig names least most stop bytes =
    many stop (codes "clause ") (clause_at sig names least most) bytes

-- the line of a clause of these levels
unfoldable pub one_clause_at : Sig → Names → ℕ → ℕ → List ℕ → Read (List Kept)
one_clause_at sig names least most bytes = do
  word ← literal_at (codes "clause ") bytes
  clause ← clause_at sig names least most word
  Ok (clause.0 ∷ [], clause.1)

-- the lines of clauses of these levels, at least one, up to another word
unfoldable pub some_clauses_at : Sig → Names → ℕ → ℕ → List ℕ → List ℕ → Read (List Kept)
some_clauses_at sig names least most stop bytes = do
  first ← one_clause_at sig names least most bytes
  gathered first.0 (clauses_at sig names least most stop first.1)

-- ---- leaves

-- what follows a leave's level: the number of one of this many clauses, and the step
unfoldable pub leave_at : Sig → Names → ℕ → ℕ → List ℕ → Read Leave
leave_at sig names clauses level bytes = do
  clause ← number_at 0 (min clauses (2 ^ 32) - 1) 10 bytes
  step ← world_of_copies_at sig names 2 clause.1
  Ok (record { level = level; clause = clause.0; step = step.0 }, step.1)

-- a leave of this level
unfoldable pub leave_line_at : Sig → Names → ℕ → ℕ → List ℕ → Read Leave
leave_line_at sig names clauses level bytes = do
  word ← literal_at (codes "leave ") bytes
  number ← literal_at (decimal level) word
  space ← literal_at (codes " ") number
  leave_at sig names clauses level space

-- this many leaves, from this level on
unfoldable pub leaves_at : Sig → Names → ℕ → ℕ → ℕ → List ℕ → Read (List Leave)
leaves_at sig names clauses zero level bytes = Ok ([], bytes)
leaves_at sig names clauses (suc n) level bytes = do
  leave ← leave_line_at sig names clauses level bytes
  leaves ← leaves_at sig names clauses n (level + 1) leave.1
  Ok (leave.0 ∷ leaves.0, leaves.1)

-- the leaves up to this level, after the word and the level of the first
unfoldable pub all_leaves_at : Sig → Names → ℕ → ℕ → List ℕ → Read (List Leave)
all_leaves_at sig names clauses last bytes = do
  first ← leave_at sig names clauses 1 bytes
  gathered (first.0 ∷ []) (leaves_at sig names clauses (last - 1) 2 first.1)

-- ---- the verdicts, after their words

-- up to the word of the last lines
unfoldable pub safe_at : Sig → Names → List ℕ → Read Verdict
safe_at sig names bytes = do
  frame ← number_at 1 64 10 bytes
  clauses ← clauses_at sig names (frame.0 + 1) 65 (codes "numbers ") frame.1
  Ok (verdict.Safe frame.0 clauses.0, clauses.1)

unfoldable pub unsafe_at : Sig → Names → List ℕ → Read Verdict
unsafe_at sig names bytes = do
  steps ← number_at 0 64 10 bytes
  run ← world_of_copies_at sig names (steps.0 + 1) steps.1
  Ok (verdict.Unsafe run.0, run.1)

unfoldable pub chain_at : Sig → Names → List ℕ → Read Verdict
chain_at sig names bytes = do
  steps ← number_at 0 64 10 bytes
  links ← links_at sig names (steps.0 + 1) 1 steps.1
  Ok (verdict.NoUniversal links.0, links.1)

-- the lines of the frames up to this one
unfoldable pub frames_at : Sig → Names → ℕ → List ℕ → Read Verdict
frames_at sig names last bytes = do
  clauses ← some_clauses_at sig names 1 (last + 1) (codes "leave 1 ") bytes
  leaves ← all_leaves_at sig names (length clauses.0) last clauses.1
  Ok (verdict.Bounded last clauses.0 leaves.0, leaves.1)

unfoldable pub bounded_at : Sig → Names → List ℕ → Read Verdict
bounded_at sig names bytes = do
  last ← number_at 1 64 10 bytes
  frames_at sig names last.0 last.1

unfoldable pub spent_at : List ℕ → Read Verdict
spent_at bytes = do
  steps ← number_at 0 (2 ^ 32 - 1) 10 bytes
  Ok (verdict.Spent steps.0, steps.1)

-- the words for the kinds of queries, each with a space
abbrev pub kind_words : List (List ℕ)
kind_words =
    codes "seed " ∷ codes "root " ∷ codes "before " ∷ codes "block " ∷ codes "push "
    ∷ codes "unroll " ∷ []

-- the kind of this number
abbrev pub kind_of : ℕ → Kind
kind_of k =
    if k == 0 then Seed
    else (if k == 1 then Root
    else (if k == 2 then Before
    else (if k == 3 then Block
    else (if k == 4 then Push else Unroll))))

unfoldable pub over_at : List ℕ → Read Verdict
over_at bytes = do
  kind ← choice_at [] [] kind_words bytes
  weight ← number_at 0 (2 ^ 64 - 1) 10 kind.1
  Ok (verdict.Over (kind_of kind.0) weight.0, weight.1)

unfoldable pub no_run_at : List ℕ → Read Verdict
no_run_at bytes = do
  steps ← number_at 0 64 10 bytes
  Ok (verdict.NoRun steps.0, steps.1)

-- ---- a report

-- the words for the verdicts, each with a space
abbrev pub verdict_words : List (List ℕ)
verdict_words =
    codes "safe " ∷ codes "unsafe " ∷ codes "nouniversal " ∷ codes "bounded " ∷ codes "spent "
    ∷ codes "over " ∷ codes "norun " ∷ []

-- the number of the word that stands here
unfoldable pub word_at : List ℕ → Read ℕ
word_at bytes = choice_at [] [] verdict_words bytes

-- what follows the word of this number, which isn't the first
unfoldable pub other_at : Sig → Names → ℕ → List ℕ → Read Verdict
other_at sig names k bytes =
    if k == 1 then unsafe_at sig names bytes
    else (if k == 2 then chain_at sig names bytes
    else (if k == 3 then bounded_at sig names bytes
    else (if k == 4 then spent_at bytes
    else (if k == 5 then over_at bytes else no_run_at bytes))))

-- the same, up to the word of the last lines
unfoldable pub ended_at : Sig → Names → ℕ → List ℕ → Read Verdict
ended_at sig names k bytes = do
  told ← other_at sig names k bytes
  rest ← literal_at (codes "numbers ") told.1
  Ok (told.0, rest)

-- what follows the word of this number, up to the word of the last lines
unfoldable pub told_at : Sig → Names → ℕ → List ℕ → Read Verdict
told_at sig names k bytes =
    if k == 0 then safe_at sig names bytes else ended_at sig names k bytes

-- a verdict, up to the word of the last lines
unfoldable pub verdict_at : Sig → Names → List ℕ → Read Verdict
verdict_at sig names bytes = do
  word ← literal_at (codes "report 1\nverdict ") bytes
  kind ← word_at word
  told_at sig names kind.0 kind.1

-- what follows the word of the last lines
unfoldable pub numbers_at : List ℕ → Read Numbers
numbers_at bytes = do
  productive ← number_at 0 (2 ^ 64 - 1) 32 bytes
  frontier ← number_at 0 (2 ^ 64 - 1) 32 productive.1
  clauses ← number_at 0 (2 ^ 64 - 1) 10 frontier.1
  rest ← literal_at (codes "done\n") clauses.1
  Ok (record { productive = productive.0; frontier = frontier.0; clauses = clauses.0 }, rest)

unfoldable pub report_at : Sig → Names → List ℕ → Read Report
report_at sig names bytes = do
  told ← verdict_at sig names bytes
  numbers ← numbers_at told.1
  Ok (record { verdict = told.0; numbers = numbers.0 }, numbers.1)

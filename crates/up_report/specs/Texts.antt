-- The text of a report.
use Rattle.std.specs.Prelude.{ℕ, ◌-◌, List, [], ◌∷◌, ◌++◌, length, codes}
use Rattle.std.specs.List.{flat_map}
use Rattle.fo_core.specs.declared.names.Names.{Names}
use Rattle.fo_core.specs.declared.signature.Sig.{Sig}
use Rattle.fo_text.specs.Parts.{number_text}
use Rattle.fo_text.specs.Texts.{after_space, text_of}
use Rattle.up_claims.specs.declared.kind.Kind.{Kind}
use Rattle.up_claims.specs.declared.kind.Kind.TheVariants.{Seed, Root, Before, Block, Push, Unroll}
use Rattle.up_claims.specs.declared.report.Numbers.{Numbers}
use Rattle.up_claims.specs.declared.report.Report.{Report}
use Rattle.up_claims.specs.declared.verdict.Kept.{Kept}
use Rattle.up_claims.specs.declared.verdict.Leave.{Leave}
use Rattle.up_claims.specs.declared.verdict.Link.{Link}
use Rattle.up_claims.specs.declared.verdict.Verdict.{Verdict}
use Rattle.up_claims.specs.declared.verdict.Verdict.TheVariants as verdict
use Rattle.up_report.specs.ClauseTexts.{clause_text}

-- ---- the lines of the verdicts

-- the lines of the clauses
abbrev pub clauses_text : Names → List Kept → List ℕ
clauses_text names clauses = flat_map (λ kept. codes "clause " ++ clause_text names kept) clauses

-- the line of a sort's map: the images of the elements 0, 1 and so on
abbrev pub map_line : List ℕ → List ℕ → List ℕ
map_line name images = codes "map " ++ (name ++ (flat_map after_space images ++ 10 ∷ []))

-- the lines of the maps, sort by sort
abbrev pub map_lines : List (List ℕ) → List (List ℕ) → List ℕ
map_lines [] maps = []
map_lines (name ∷ names) [] = []
map_lines (name ∷ names) (images ∷ maps) = map_line name images ++ map_lines names maps

-- a link: its origin, its state, and the map that embeds the state
abbrev pub link_text : Sig → Names → Link → List ℕ
link_text sig names link =
    text_of sig names link.origin
    ++ (text_of sig names link.state ++ map_lines names.sorts link.map.images)

abbrev pub links_text : Sig → Names → List Link → List ℕ
links_text sig names links = flat_map (link_text sig names) links

-- a leave: the level and the number of the clause, and the step
abbrev pub leave_text : Sig → Names → Leave → List ℕ
leave_text sig names leave =
    codes "leave" ++ (after_space leave.level ++ (after_space leave.clause
    ++ (10 ∷ text_of sig names leave.step)))

abbrev pub leaves_text : Sig → Names → List Leave → List ℕ
leaves_text sig names leaves = flat_map (leave_text sig names) leaves

-- ---- a report

-- the word for a query's kind
abbrev pub kind_word : Kind → List ℕ
kind_word Seed = codes "seed"
kind_word Root = codes "root"
kind_word Before = codes "before"
kind_word Block = codes "block"
kind_word Push = codes "push"
kind_word Unroll = codes "unroll"

-- the word for a verdict, and a space
abbrev pub verdict_word : Verdict → List ℕ
verdict_word (verdict.Safe frame clauses) = codes "safe "
verdict_word (verdict.Unsafe run) = codes "unsafe "
verdict_word (verdict.NoUniversal links) = codes "nouniversal "
verdict_word (verdict.Bounded last clauses leaves) = codes "bounded "
verdict_word (verdict.Spent steps) = codes "spent "
verdict_word (verdict.Over kind weight) = codes "over "
verdict_word (verdict.NoRun steps) = codes "norun "

-- what the verdict's line holds after its word, and the lines that belong to it
abbrev pub told_text : Sig → Names → Verdict → List ℕ
told_text sig names (verdict.Safe frame clauses) =
    number_text 10 frame ++ clauses_text names clauses
told_text sig names (verdict.Unsafe run) =
    number_text 10 (length run.copies - 1) ++ text_of sig names run
told_text sig names (verdict.NoUniversal links) =
    number_text 10 (length links - 1) ++ links_text sig names links
told_text sig names (verdict.Bounded last clauses leaves) =
    number_text 10 last ++ (clauses_text names clauses ++ leaves_text sig names leaves)
told_text sig names (verdict.Spent steps) = number_text 10 steps
told_text sig names (verdict.Over kind weight) =
    kind_word kind ++ (32 ∷ number_text 10 weight)
told_text sig names (verdict.NoRun steps) = number_text 10 steps

-- the last lines: how far the search had come, and the end
abbrev pub numbers_text : Numbers → List ℕ
numbers_text n =
    codes "numbers "
    ++ (number_text 32 n.productive
    ++ (number_text 32 n.frontier ++ (number_text 10 n.clauses ++ codes "done\n")))

-- the text of a report: what it is, its verdict and its numbers
abbrev pub report_text : Sig → Names → Report → List ℕ
report_text sig names r =
    codes "report 1\nverdict "
    ++ (verdict_word r.verdict ++ (told_text sig names r.verdict ++ numbers_text r.numbers))

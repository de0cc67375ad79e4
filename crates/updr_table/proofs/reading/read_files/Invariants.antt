use Rattle.std.proofs.Common.{◌≡◌, ◌≤◌, ℕ, List, drop, map}
use Rattle.pv_base.specs.Reading.{IsContent}
use Rattle.updr_words.specs.Forms.{texts}
use Rattle.updr_words.proofs.Rest.{IsPaired}
use Rattle.updr_table.specs.Outside.{IsReached}
use Rattle.updr_table.proofs.reading.read_files.Given as goal

abbrev pub invariant-each : goal.invariant-each
invariant-each g l = record {
  paired : IsPaired (λ name bytes. IsContent (g.F.Files.contents l.initial.files name) bytes) (texts l.names) (map (λ b. b.items) l.contents.items) (texts (drop l.name-index l.names));
  reached : (this : List ℕ) → IsReached (g.F.Files.contents l.initial.files) (texts (drop l.name-index l.names)) this → IsReached (g.F.Files.contents l.initial.files) (texts l.names) this;
  later : g.F.Files.faults l.initial.files ≤ g.F.Files.faults l.files;
  unchanged : (n : List ℕ) → g.F.Files.contents l.files n ≡ g.F.Files.contents l.initial.files n;
}

-- What a Skolem form is searched with, and what the search finds.
use Rattle.std.specs.Prelude.{ℕ, List, Option, MatchOption}
use Rattle.fo_core.specs.declared.signature.Sig.{Sig}
use Rattle.fo_core.specs.declared.world.World.{World}
use Rattle.fo_core.specs.TermCounts.{term_counts}
use Rattle.fo_norm.specs.declared.form.SkolemForm.{SkolemForm}
use Rattle.fo_norm.specs.Forms.{whole, MeetsForm}

-- the numbers of ground terms of the sorts
abbrev pub form_counts : Sig → SkolemForm → List ℕ
form_counts sig form = term_counts (whole sig form) form.copies

-- a world that meets the form, or none where no world does
abbrev pub IsFound : Sig → SkolemForm → Option World → Type 0
IsFound sig form found = MatchOption found ((w : World) → ¬ MeetsForm sig form w) (MeetsForm sig form)

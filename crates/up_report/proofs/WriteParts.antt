-- What reports with texts hold, as writing them asks.
use Rattle.std.proofs.Common.{◌≡◌, ℕ, zero, suc, ◌+◌, ◌<◌, List, [], ◌∷◌, ◌++◌, length, get_or, refl, sym, ap, ◌∙◌, append_assoc, arith}
use Rattle.std.specs.List.{All}
use Rattle.fo_core.specs.declared.names.Names.{Names}
use Rattle.fo_core.specs.declared.signature.Sig.{Sig}
use Rattle.fo_text.specs.Texts.{NamesEach, HasText, text_of}
use Rattle.up_claims.specs.declared.verdict.Kept.{Kept}
use Rattle.up_claims.specs.declared.verdict.Leave.{Leave}
use Rattle.up_claims.specs.declared.verdict.Link.{Link}
use Rattle.up_diagram.specs.Cubes.{IsCube}
use Rattle.up_report.specs.ClauseTexts.{HasClause}
use Rattle.up_report.specs.Ranges.{AreMaps, HasLink, HasLinks, HasLeaves}
use Rattle.up_report.specs.Texts.{map_lines, link_text}
use Rattle.up_report.specs.Writing.{HasLinkTexts}

maps_each : (from to : List ℕ) (maps : List (List ℕ)) → AreMaps from to maps → length maps ≡ length from
maps_each [] [] [] h = refl
maps_each [] [] (images ∷ maps) h = absurd h
maps_each [] (m ∷ to) maps h = absurd h
maps_each (n ∷ from) [] maps h = absurd h
maps_each (n ∷ from) (m ∷ to) [] h = absurd h
maps_each (n ∷ from) (m ∷ to) (images ∷ maps) h = ap (λ (k : ℕ). suc k) (maps_each from to maps h.1)

link_texts : (sig : Sig) (names : Names) (copies : ℕ) (link : Link) → NamesEach sig names → HasLink sig copies link → HasLinkTexts sig names link
link_texts sig names copies link named h = record {
  origin = h.origin.0;
  state = h.state.0;
  maps = named.sorts ∙ sym (h.state.0.fits.sorts) ∙ sym (maps_each link.state.sizes link.origin.sizes link.map.images h.map);
}

pub all_link_texts : (sig : Sig) (names : Names) (links : List Link) → NamesEach sig names → HasLinks sig links → All (HasLinkTexts sig names) links
all_link_texts sig names [] named h = absurd h
all_link_texts sig names (link ∷ links) named h = λ k d lt. at k d lt
  where
    at : (k : ℕ) (d : Link) → k < length (link ∷ links) → HasLinkTexts sig names (get_or (link ∷ links) k d)
    at zero d lt = link_texts sig names 1 link named h.0
    at (suc k) d lt = link_texts sig names 2 (get_or links k d) named (h.1 k d (omega arith))

pub cubes_are : (sig : Sig) (least most : ℕ) (clauses : List Kept) → All (HasClause sig least most) clauses → All (λ (kept : Kept). IsCube sig kept.cube) clauses
cubes_are sig least most clauses h = λ k d lt. (h k d lt).cube

pub steps_are : (sig : Sig) (clauses level : ℕ) (leaves : List Leave) → HasLeaves sig clauses level leaves → All (λ (leave : Leave). HasText sig leave.step) leaves
steps_are sig clauses level [] h = λ k d lt. absurd (omega arith)
steps_are sig clauses level (leave ∷ leaves) h = λ k d lt. at (steps_are sig clauses (level + 1) leaves h.1) k d lt
  where
    at : All (λ (leave : Leave). HasText sig leave.step) leaves → (k : ℕ) (d : Leave) → k < length (leave ∷ leaves) → HasText sig (get_or (leave ∷ leaves) k d).step
    at rest zero d lt = h.0.step.0
    at rest (suc k) d lt = rest k d (omega arith)

-- ---- texts in a row

pub link_joined : (sig : Sig) (names : Names) (old : List ℕ) (link : Link) → old ++ text_of sig names link.origin ++ text_of sig names link.state ++ map_lines names.sorts link.map.images ≡ old ++ link_text sig names link
link_joined sig names old link =
    append_assoc (old ++ text_of sig names link.origin) (text_of sig names link.state) (map_lines names.sorts link.map.images)
    ∙ append_assoc old (text_of sig names link.origin) (text_of sig names link.state ++ map_lines names.sorts link.map.images)

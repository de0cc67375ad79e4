use Rattle.std.proofs.Common.{rules, refl, ◌≡◌, ◌∙◌, ◌++◌, ◌∷◌, [], sym, ap, Some, None, Bor}
use Rattle.std.specs.Prelude.{option_map}
use Rattle.std.proofs.lemmas.List.{map-append}
use Rattle.clap.specs.Words.{found_of, rows_of, Text}
use Rattle.clap.proofs.WalkLemmas.{first_value-rows}
use Rattle.updr_words.specs.Jobs.{GivesFile}
use Rattle.updr_words.specs.Forms.{texts}
use Rattle.updr_words.proofs.Rest.{one_paired, all_paired, never_paired}
use Rattle.updr_words.proofs.reading.files_at.Goals as goal

no_name : Bor Text
no_name = record { ref_ptr = (0, 0); now = [] }

pub returns-in_default-clause-none : goal.returns-in_default-clause-none
unfolding no_name
returns-in_default-clause-none c = λ _ ts p.
    let none : option_map (λ (s : Bor Text). s.now) c.get_str.result ≡ None = rw c.in_default.is refl in
    never_paired (GivesFile (rows_of (found_of c.args.matches.now))) (λ (s : Bor Text). s.now) c.args.places.now (texts c.each.files.items) c.each.place-index no_name c.each-test.true c.each.invariant
    (λ y is. let bad : None ≡ Some y = sym none ∙ c.get_str.ensures ∙ first_value-rows (found_of c.args.matches.now) _ ∙ is in cc) ts p

pub each-preserved : goal.each-preserved
unfolding no_name
each-preserved c =
    let some : option_map (λ (s : Bor Text). s.now) c.get_str.result ≡ Some c.in-Some.file.now = rw c.in-Some.is refl in
    let items : c.push.new.self.items ≡ c.each.files.items ++ c.in-Some.file ∷ [] = search rules in
    let texts_are : texts c.push.new.self.items ≡ texts c.each.files.items ++ c.in-Some.file.now ∷ [] = ap texts items ∙ map-append _ c.each.files.items (c.in-Some.file ∷ []) in
    rw texts_are (one_paired (GivesFile (rows_of (found_of c.args.matches.now))) (λ (s : Bor Text). s.now) c.args.places.now (texts c.each.files.items) c.each.place-index no_name c.in-Some.file.now c.each-test.true c.each.invariant
    (sym (first_value-rows (found_of c.args.matches.now) _) ∙ sym c.get_str.ensures ∙ some))

pub returns-clause-found : goal.returns-clause-found
returns-clause-found c = all_paired (GivesFile (rows_of (found_of c.args.matches.now))) (λ (s : Bor Text). s.now) c.args.places.now (texts c.each.files.items) c.each.place-index c.each-test.false c.each.invariant

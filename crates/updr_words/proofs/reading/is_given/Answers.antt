-- What clap found of the option is its text.
use Rattle.std.proofs.Common.{◌≡◌, ◌∙◌, ℕ, List, [], Bor, Option, Some, None, sym, ap, refl}
use Rattle.std.specs.Prelude.{bytes_eq, codes, option_map, unwrap_or}
use Rattle.clap.specs.Words.{first_of, found_of, rows_of}
use Rattle.clap.proofs.WalkLemmas.{first_value-rows}
use Rattle.updr_words.proofs.reading.is_given.Goals as goal

pub returns-in-Some : goal.returns-in-Some
returns-in-Some c =
    let rows = rows_of (found_of c.args.matches.now) in
    let word : option_map (λ (s : Bor (List ℕ)). s.now) c.get_str.result ≡ Some c.in-Some.word.now = rw c.in-Some.is refl in
    let first : first_of c.args.flag.now rows ≡ Some c.in-Some.word.now =
    sym (first_value-rows (found_of c.args.matches.now) _) ∙ sym c.get_str.ensures ∙ word in
    c.eq.ensures ∙ ap (λ (t : Option (List ℕ)). bytes_eq (unwrap_or t []) (codes "true")) (sym first)

pub returns-in-None : goal.returns-in-None
returns-in-None c =
    let rows = rows_of (found_of c.args.matches.now) in
    let none : option_map (λ (s : Bor (List ℕ)). s.now) c.get_str.result ≡ None = rw c.in-None.is refl in
    let first : first_of c.args.flag.now rows ≡ None =
    sym (first_value-rows (found_of c.args.matches.now) _) ∙ sym c.get_str.ensures ∙ none in
    ap (λ (t : Option (List ℕ)). bytes_eq (unwrap_or t []) (codes "true")) (sym first)

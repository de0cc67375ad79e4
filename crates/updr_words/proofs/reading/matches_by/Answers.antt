use Rattle.std.proofs.Common.{◌≡◌, ◌∙◌, refl, sym, ap, map, true, false, Bool, ◌&&◌}
use Rattle.std.specs.Prelude.{string_bytes}
use Rattle.clap.specs.Words.{App, is_simple, is_simple_and_free, fault_of, matches_of}
use Rattle.updr_words.specs.Forms.{app_by, form_of}
use Rattle.updr_words.proofs.reading.matches_by.Goals as goal

first_true : (a b : Bool) → (a && b) ≡ true → a ≡ true
first_true true b h = refl
first_true false b h = cc

pub returns-in-Ok-clause-read : goal.returns-in-Ok-clause-read
returns-in-Ok-clause-read c =
    let app = c.in_ok-command.ensures in
    let words = map string_bytes c.args.words.now in
    sym (ap (λ (a : App). fault_of a words) app) ∙ c.in-Ok.ensures.kinds (ap is_simple_and_free app ∙ c.requires)

pub returns-in-Ok-clause-found : goal.returns-in-Ok-clause-found
returns-in-Ok-clause-found c =
    let app = c.in_ok-command.ensures in
    let words = map string_bytes c.args.words.now in
    let simple : is_simple (app_by (form_of c.args.form.now)) ≡ true = first_true _ _ c.requires in
    (c.in-Ok.ensures.matches (ap is_simple app ∙ simple)).0 ∙ ap (λ (a : App). matches_of a words) app

use Rattle.std.proofs.Common.{◌≡◌, ◌∙◌, List, [], ◌∷◌, Some, None, String, Global, map, sym, ap, refl}
use Rattle.std.specs.Prelude.{option_map, slice_get, string_bytes}
use Rattle.std.proofs.lemmas.Slice.Eq.{bytes_eq-Decides}
use Rattle.updr_table.proofs.listing.is_named.Goals as goal

first_word : (words : List (String Global)) → slice_get (map string_bytes words) 0 ≡ option_map string_bytes (slice_get words 0)
first_word [] = refl
first_word (w ∷ ws) = refl

one_some : {A : Type 0} (x y : A) → Some x ≡ Some y → x ≡ y
one_some x y is = cc

pub returns-in-Some : goal.returns-in-Some
returns-in-Some c =
    let first : slice_get (map string_bytes c.args.words.now) 0 ≡ Some c.as_str.result.now = first_word c.args.words.now ∙ ap (option_map string_bytes) (sym c.in-Some.ensures.value) ∙ ap Some (sym c.as_str.ensures.value) in
    let same = bytes_eq-Decides c.as_str.result.now c.args.form.now.name.now in
    (λ yes. first ∙ ap Some (same.0 (sym c.eq.ensures ∙ yes)), λ is. c.eq.ensures ∙ same.1 (one_some _ _ (sym first ∙ is)))

pub returns-in-None : goal.returns-in-None
returns-in-None c =
    let none : slice_get (map string_bytes c.args.words.now) 0 ≡ None = first_word c.args.words.now ∙ ap (option_map string_bytes) (sym c.in-None.ensures.value) in
    (λ no. cc, λ is. let bad : None ≡ Some c.args.form.now.name.now = sym none ∙ is in cc)

-- A list of entries after one of them was written or added.
use Rattle.std.proofs.Common.{◌≡◌, ◌≢◌, ◌<◌, ◌≤◌, ◌∙◌, ℕ, List, [], ◌∷◌, ◌++◌, Bool, true, false, Option, Some, None, cond, length, sym, ap, refl, arith}
use Rattle.std.proofs.Math.ListN.{set, get_or}
use Rattle.std.proofs.lemmas.Grind.{common_steps}
use Rattle.std.proofs.lemmas.Bool.{false_from_ne_true}
use Rattle.std.proofs.lemmas.List.Folds.{find_at, find-append, find-set, find_past}
use Rattle.std.proofs.lemmas.List.Quantifiers.{position-Some}
use Rattle.std.proofs.lemmas.Option.{slice_get_past}
use Rattle.std.proofs.lemmas.Slice.Eq.{bytes_eq-Decides}
use Rattle.std.specs.List.{find, position, position_or_len}
use Rattle.std.specs.Option.{option_map, option_or}
use Rattle.std.specs.Str.{bytes_eq}
use Rattle.pv_base.specs.Entries.{NamedContent, SetsContent}

-- whether an entry has this name
abbrev is_named : List ℕ → NamedContent → Bool
is_named name e = bytes_eq e.name name

-- bytes that the test finds equal are equal
equal : (a b : List ℕ) → bytes_eq a b ≡ true → a ≡ b
equal a b e = (bytes_eq-Decides a b).0 e

-- the test finds bytes equal to themselves
bytes_eq-same : (a : List ℕ) → bytes_eq a a ≡ true
bytes_eq-same a = (bytes_eq-Decides a a).1 refl

-- the test tells different bytes apart
bytes_eq-other : (a b : List ℕ) → a ≢ b → bytes_eq a b ≡ false
bytes_eq-other a b differs = false_from_ne_true (bytes_eq a b) (λ e. differs (equal a b e))

-- the first entry of this name was written
pub SetsContent-set : (name bytes : List ℕ) (es : List NamedContent) (i : ℕ) → position (λ e. bytes_eq e.name name) es ≡ Some i
    → SetsContent name bytes es (set es i (record { name = name; bytes = bytes }))
SetsContent-set name bytes es i at =
    let entry : NamedContent = record { name = name; bytes = bytes } in
    let found : (i < length es) × (bytes_eq (get_or es i entry).name name ≡ true) × ((k : ℕ) → k < i → bytes_eq (get_or es k entry).name name ≡ false) = position-Some (is_named name) es i entry at in
    let place : i ≡ position_or_len (is_named name) es = grind (arith, common_steps) in
    record {
      named = ap (option_map (λ (e : NamedContent). e.bytes)) (find-set (is_named name) es i entry place found.0 (bytes_eq-same name));
      others = λ n other.
          ap (option_map (λ (e : NamedContent). e.bytes))
          (find_past (is_named n) es i entry entry
          (bytes_eq-other (get_or es i entry).name n (λ e. other (sym e ∙ equal (get_or es i entry).name name found.1)))
          (bytes_eq-other name n (λ e. other (sym e))));
    }

-- nothing to fall back on changes nothing
option_or-None : {A : Type 0} (o : Option A) → option_or o None ≡ o
option_or-None None = refl
option_or-None (Some x) = refl

-- no entry had this name, and one was added
pub SetsContent-push : (name bytes : List ℕ) (es : List NamedContent) → position (λ e. bytes_eq e.name name) es ≡ None
    → SetsContent name bytes es (es ++ record { name = name; bytes = bytes } ∷ [])
SetsContent-push name bytes es none =
    let entry : NamedContent = record { name = name; bytes = bytes } in
    let past : length es ≤ position_or_len (is_named name) es = grind (arith, common_steps) in
    let absent : find (is_named name) es ≡ None = find_at (is_named name) es ∙ slice_get_past es (position_or_len (is_named name) es) past in
    record {
      named = ap (option_map (λ (e : NamedContent). e.bytes))
          (find-append (is_named name) es (entry ∷ [])
          ∙ ap (λ o. option_or o (find (is_named name) (entry ∷ []))) absent
          ∙ ap (λ b. cond b (Some entry) None) (bytes_eq-same name));
      others = λ n other.
          ap (option_map (λ (e : NamedContent). e.bytes))
          (find-append (is_named n) es (entry ∷ [])
          ∙ ap (λ b. option_or (find (is_named n) es) (cond b (Some entry) None)) (bytes_eq-other name n (λ e. other (sym e)))
          ∙ option_or-None (find (is_named n) es));
    }

-- Variables of a sort, told by their numbers.
use Rattle.std.proofs.Common.{◌≡◌, ℕ, ◌^◌, ◌<◌, Bool, true, false, cond, eqb, List, [], length, get_or, map, flat_map, decimal, Ok, Err, refl, sym, ap, subst, ◌∙◌, arith}
use Rattle.std.specs.List.{range_with_len}
use Rattle.std.proofs.lemmas.Bool.{eq-eqb, ne_eqb, eqb-true}
use Rattle.fo_text.specs.Reading.{choose, choice_at}
use Rattle.fo_text.proofs.Choices.{Among, Apart, choose_finds, choose_takes, choice_is, among_flat, among_flattened, among_map, among_mapped, among_range, ranged}
use Rattle.fo_text.proofs.Stopping.{literal_found}
use Rattle.up_diagram.specs.Cubes.{HasSort}
use Rattle.up_report.specs.declared.clause_heads.Ending.{Ending}
use Rattle.up_report.specs.ClauseReading.{texts, places, ended, variable_options, ended_variable, variable_at}
use Rattle.up_report.proofs.ClauseOptions.{block_found, block_fails}
use Rattle.up_report.proofs.ClauseWords.{same_ends, decimal_high, decimal_same}

module _ (sorts : List ℕ) (ending : Ending) (s : ℕ) where
  abbrev pub options : List (ℕ × ℕ)
  options = flat_map (variable_options sorts ending s) (range_with_len 0 (length sorts))

  abbrev with_end : ℕ → ℕ → ℕ × ℕ
  with_end v e = (v, e)

  pub not_of_sort : (v : ℕ) → ¬ (get_or sorts v 0 ≡ s) → variable_options sorts ending s v ≡ []
  not_of_sort v h = ap (λ (c : Bool). cond c (map (with_end v) (places ending)) []) (ne_eqb (get_or sorts v 0) s h)

  of_sort : (v : ℕ) → get_or sorts v 0 ≡ s → variable_options sorts ending s v ≡ map (with_end v) (places ending)
  of_sort v h = ap (λ (c : Bool). cond c (map (with_end v) (places ending)) []) (eq-eqb (get_or sorts v 0) s h)

  pub variable_found : (v e : ℕ) (bytes rest : List ℕ) → get_or sorts v 0 ≡ s → choice_at [] (decimal v) (texts ending) bytes ≡ Ok (e, rest) → choose (ended_variable ending) (variable_options sorts ending s v) bytes ≡ Ok ((v, e), rest)
  variable_found v e bytes rest h k =
      ap (λ (l : List (ℕ × ℕ)). choose (ended_variable ending) l bytes) (of_sort v h)
      ∙ block_found (ended_variable ending) [] (decimal v) ending (with_end v) bytes e rest (λ f l. refl) k

  pub variable_fails : (v left : ℕ) (bytes : List ℕ) → get_or sorts v 0 ≡ s → choice_at [] (decimal v) (texts ending) bytes ≡ Err left → choose (ended_variable ending) (variable_options sorts ending s v) bytes ≡ Err left
  variable_fails v left bytes h k =
      ap (λ (l : List (ℕ × ℕ)). choose (ended_variable ending) l bytes) (of_sort v h)
      ∙ block_fails (ended_variable ending) [] (decimal v) ending (with_end v) bytes left (λ f l. refl) k

  pub variable_is : (bytes : List ℕ) → variable_at sorts ending s bytes ≡ choose (ended_variable ending) options bytes
  unfolding variable_at
  variable_is bytes = refl

  -- ---- what the options are

  pub record IsOption (x : ℕ × ℕ) : Type 0 where
    pub variable : HasSort sorts x.0 s
    pub end : x.1 < length (texts ending)

  pub to_option : (x : ℕ × ℕ) → IsOption x → Among options x
  to_option x h =
      among_flat (variable_options sorts ending s) (range_with_len 0 (length sorts)) x.0 x (among_range 0 (length sorts) x.0 (omega arith) (omega (arith, h.variable.within)))
      (subst (λ (l : List (ℕ × ℕ)). Among l x) (sym (of_sort x.0 h.variable.sort)) (among_map (with_end x.0) (places ending) x.1 (among_range 0 (length (texts ending)) x.1 (omega arith) (omega (arith, h.end)))))

  from_by : (c : Bool) (v : ℕ) (x : ℕ × ℕ) → v < length sorts → eqb (get_or sorts v 0) s ≡ c → Among (cond c (map (with_end v) (places ending)) []) x → IsOption x
  from_by true v x within is h =
      let m = among_mapped (with_end v) (places ending) x h in
      let first : v ≡ x.0 = ap (λ (p : ℕ × ℕ). p.0) m.2 in
      let second : m.0 ≡ x.1 = ap (λ (p : ℕ × ℕ). p.1) m.2 in
      record {
        variable = subst (λ (w : ℕ). HasSort sorts w s) first (record { within = within; sort = eqb-true (get_or sorts v 0) s is });
        end = omega (arith, second, (ranged 0 (length (texts ending)) m.0 m.1).1);
      }
  from_by false v x within is h = absurd h

  pub from_option : (x : ℕ × ℕ) → Among options x → IsOption x
  from_option x h =
      let f = among_flattened (variable_options sorts ending s) (range_with_len 0 (length sorts)) x h in
      from_by (eqb (get_or sorts f.0 0) s) f.0 x (omega (arith, (ranged 0 (length sorts) f.0 f.1).1)) refl f.2

  pub variables_apart : length sorts < 2 ^ 64 → Apart (ended_variable ending) options
  variables_apart few x y a b p q is =
      let g = from_option x a in
      let h = from_option y b in
      let small : x.0 < 2 ^ 64 = omega (arith, g.variable.within) in
      let little : y.0 < 2 ^ 64 = omega (arith, h.variable.within) in
      let same = same_ends ending (decimal x.0) (decimal y.0) p q x.1 y.1 (decimal_high x.0 small) (decimal_high y.0 little) g.end h.end is in
      let first : x.0 ≡ y.0 = decimal_same x.0 y.0 small little same.0 in
      ap (λ (v : ℕ). (v, x.1)) first ∙ ap (λ (e : ℕ). (y.0, e)) same.1

  -- the variable whose number stands there is the one that is read
  pub variable_guessed : (v e : ℕ) (bytes rest : List ℕ) → length sorts < 2 ^ 64 → v < length sorts → get_or sorts v 0 ≡ s → choice_at [] (decimal v) (texts ending) bytes ≡ Ok (e, rest) → variable_at sorts ending s bytes ≡ Ok ((v, e), rest)
  variable_guessed v e bytes rest few within is h =
      let t = choose_takes (ended [] (decimal v) ending) (places ending) bytes e rest (sym (choice_is [] (decimal v) (texts ending) bytes) ∙ h) in
      let among : Among options (v, e) = to_option (v, e) (record { variable = record { within = within; sort = is }; end = omega (arith, (ranged 0 (length (texts ending)) e t.0).1) }) in
      variable_is bytes
      ∙ choose_finds (ended_variable ending) options bytes (v, e) rest t.1
      (λ y q k l. variables_apart few y (v, e) k among q rest (sym (literal_found (ended_variable ending y) bytes q l) ∙ literal_found (ended_variable ending (v, e)) bytes rest t.1)) among

-- Reading one thing after the other, as loops do.
use Rattle.std.proofs.Common.{◌≡◌, ◌==◌, if◌then◌else◌, ℕ, suc, ◌-◌, ◌+◌, ◌≤◌, ◌<◌, cond, List, [], ◌∷◌, length, get_or, drop, Ok, Err, refl, sym, ap, ◌∙◌, arith}
use Rattle.std.proofs.lemmas.Bool.{eq-eqb, ne_eqb}
use Rattle.std.proofs.lemmas.List.{at_drop_more, drop_all}
use Rattle.fo_core.specs.declared.names.Names.{Names}
use Rattle.fo_core.specs.declared.signature.Sig.{Sig}
use Rattle.fo_text.specs.declared.halt.Halt.{Halt}
use Rattle.fo_text.specs.declared.halt.Halt.TheVariants.{Memory, Fault}
use Rattle.fo_text.specs.Reading.{Read, ◌>>=◌, Fails}
use Rattle.up_report.specs.Reading.{gathered, map_at, maps_at, link_at, links_at, leave_line_at, leaves_at}
use Rattle.fo_text.specs.Reading.{choice_at, many_by}

-- ---- maps

pub maps_step : (names : List (List ℕ)) (from to : List ℕ) (i : ℕ) (name bytes : List ℕ) → i < length names → length from ≡ length names → length to ≡ length names → name ≡ get_or names i name → maps_at (drop i names) (drop i from) (drop i to) bytes ≡ (map_at name (get_or from i 0) (get_or to i 0) bytes >>= λ x. maps_at (drop (i + 1) names) (drop (i + 1) from) (drop (i + 1) to) x.1 >>= λ xs. Ok (x.0 ∷ xs.0, xs.1))
unfolding maps_at
maps_step names from to i name bytes h f t e =
    at_drop_more (λ l. maps_at l (drop i from) (drop i to) bytes) names i name h
    ∙ at_drop_more (λ l. maps_at (get_or names i name ∷ drop (i + 1) names) l (drop i to) bytes) from i 0 (omega arith)
    ∙ at_drop_more (λ l. maps_at (get_or names i name ∷ drop (i + 1) names) (get_or from i 0 ∷ drop (i + 1) from) l bytes) to i 0 (omega arith)
    ∙ ap (λ (l : List ℕ). map_at l (get_or from i 0) (get_or to i 0) bytes >>= λ x. maps_at (drop (i + 1) names) (drop (i + 1) from) (drop (i + 1) to) x.1 >>= λ xs. Ok (x.0 ∷ xs.0, xs.1)) (sym e)

pub maps_none : (names : List (List ℕ)) (from to : List ℕ) (i : ℕ) (bytes : List ℕ) → length names ≤ i → maps_at (drop i names) (drop i from) (drop i to) bytes ≡ Ok ([], bytes)
unfolding maps_at
maps_none names from to i bytes h = ap (λ l. maps_at l (drop i from) (drop i to) bytes) (drop_all i names h)

-- ---- links

pub links_step : (sig : Sig) (names : Names) (count i copies : ℕ) (bytes : List ℕ) → i < count → links_at sig names (count - i) copies bytes ≡ (link_at sig names copies bytes >>= λ x. links_at sig names (count - (i + 1)) 2 x.1 >>= λ xs. Ok (x.0 ∷ xs.0, xs.1))
unfolding links_at
links_step sig names count i copies bytes h = let e : count - i ≡ suc (count - (i + 1)) = omega arith in rw e refl

pub links_none : (sig : Sig) (names : Names) (count i copies : ℕ) (bytes : List ℕ) → count ≤ i → links_at sig names (count - i) copies bytes ≡ Ok ([], bytes)
unfolding links_at
links_none sig names count i copies bytes h = let e : count - i ≡ 0 = omega arith in rw e refl

-- ---- leaves

pub leaves_step : (sig : Sig) (names : Names) (clauses last k : ℕ) (bytes : List ℕ) → k < last → leaves_at sig names clauses (last - k) (k + 1) bytes ≡ (leave_line_at sig names clauses (k + 1) bytes >>= λ x. leaves_at sig names clauses (last - (k + 1)) (k + 1 + 1) x.1 >>= λ xs. Ok (x.0 ∷ xs.0, xs.1))
unfolding leaves_at
leaves_step sig names clauses last k bytes h = let e : last - k ≡ suc (last - (k + 1)) = omega arith in rw e refl

pub leaves_none : (sig : Sig) (names : Names) (clauses last k : ℕ) (bytes : List ℕ) → last ≤ k → leaves_at sig names clauses (last - k) (k + 1) bytes ≡ Ok ([], bytes)
unfolding leaves_at
leaves_none sig names clauses last k bytes h = let e : last - k ≡ 0 = omega arith in rw e refl

-- ---- items up to a word

pub gathered_none : {A : Type 0} (read : Read (List A)) → gathered [] read ≡ read
gathered_none (Ok x) = refl
gathered_none (Err left) = refl

-- where the first step fails, all does
pub first_fails : {A B : Type 0} (e : Halt) (front : List B) (first : Read A) (next : A × List ℕ → Read (List B)) (all whole : Read (List B)) → all ≡ (first >>= next) → Fails e first → gathered front all ≡ whole → Fails e whole
first_fails Memory front head next all whole is h so_far = tt
first_fails {A} (Fault left) front head next all whole is h so_far = sym so_far ∙ ap (gathered front) (is ∙ ap (λ (r : Read A). r >>= next) h)

module _ {A : Type 0} (stop go : List ℕ) (item : List ℕ → Read A) (n i : ℕ) (bytes : List ℕ) where
  abbrev items_on : List ℕ → Read (List A)
  items_on after = item after >>= λ x. many_by stop go item (n - (i + 1)) x.1 >>= λ xs. Ok (x.0 ∷ xs.0, xs.1)

  abbrev pub item_or_end : ℕ × List ℕ → Read (List A)
  item_or_end word = if word.0 == 0 then Ok ([], word.1) else items_on word.1

  pub many_step : i < n → many_by stop go item (n - i) bytes ≡ (choice_at [] [] (stop ∷ go ∷ []) bytes >>= item_or_end)
  unfolding many_by
  many_step h = let e : n - i ≡ suc (n - (i + 1)) = omega arith in rw e refl

  pub many_stops : (word : ℕ) (after : List ℕ) → i < n → choice_at [] [] (stop ∷ go ∷ []) bytes ≡ Ok (word, after) → word ≡ 0 → many_by stop go item (n - i) bytes ≡ Ok ([], after)
  many_stops word after h e none =
      many_step h ∙ ap (λ (r : Read ℕ). r >>= item_or_end) e ∙ ap (λ c. cond c (Ok ([], after)) (items_on after)) (eq-eqb word 0 none)

  pub many_goes : (word : ℕ) (after : List ℕ) → i < n → choice_at [] [] (stop ∷ go ∷ []) bytes ≡ Ok (word, after) → ¬ (word ≡ 0) → many_by stop go item (n - i) bytes ≡ items_on after
  many_goes word after h e some =
      many_step h ∙ ap (λ (r : Read ℕ). r >>= item_or_end) e ∙ ap (λ c. cond c (Ok ([], after)) (items_on after)) (ne_eqb word 0 some)

  pub many_none : n ≤ i → many_by stop go item (n - i) bytes ≡ Err 0
  unfolding many_by
  many_none h = let e : n - i ≡ 0 = omega arith in rw e refl

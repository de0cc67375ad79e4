-- The lines of the symbols of one kind.
use Rattle.std.proofs.Common.{◌≡◌, ℕ, zero, suc, ◌+◌, ◌<◌, Bool, true, false, cond, not, List, [], ◌∷◌, ◌++◌, length, get_or, map, drop, refl, sym, ap, ◌∙◌, append_assoc, arith}
use Rattle.std.proofs.lemmas.List.{at_drop_more}
use Rattle.fo_core.specs.declared.signature.Symbol.{Symbol}
use Rattle.fo_core.specs.declared.world.Table.{Table}
use Rattle.fo_core.specs.Tables.{is_like, AreTables}
use Rattle.std.specs.List.{filter}
use Rattle.fo_text.specs.declared.lines.Line.{Line}
use Rattle.fo_text.specs.Texts.{names_like}
use Rattle.fo_text.specs.Reading.{line_of, lines_of, cut}

-- a test on the kinds, as the code makes it

pub is_kept : (b : Bool) → not b ≡ false → b ≡ true
is_kept true e = refl
is_kept false e = absurd cc

pub is_passed : (b : Bool) → not b ≡ true → b ≡ false
is_passed true e = absurd cc
is_passed false e = refl

module _ (m : Bool) (symbols : List Symbol) (names : List (List ℕ)) (i : ℕ) (s : Symbol) (name : List ℕ) (within : i < length symbols) (named : length names ≡ length symbols) (is_s : s ≡ get_or symbols i s) (is_name : name ≡ get_or names i name) where
  -- the names

  names_at : names_like m (drop i symbols) (drop i names) ≡ cond (is_like m s) (name ∷ names_like m (drop (i + 1) symbols) (drop (i + 1) names)) (names_like m (drop (i + 1) symbols) (drop (i + 1) names))
  names_at =
      at_drop_more (λ l. names_like m l (drop i names)) symbols i s within
      ∙ at_drop_more (names_like m (get_or symbols i s ∷ drop (i + 1) symbols)) names i name (omega arith)
      ∙ ap (λ (x : Symbol). cond (is_like m x) (get_or names i name ∷ names_like m (drop (i + 1) symbols) (drop (i + 1) names)) (names_like m (drop (i + 1) symbols) (drop (i + 1) names))) (sym is_s)
      ∙ ap (λ (x : List ℕ). cond (is_like m s) (x ∷ names_like m (drop (i + 1) symbols) (drop (i + 1) names)) (names_like m (drop (i + 1) symbols) (drop (i + 1) names))) (sym is_name)

  pub names_taken : (front whole : List (List ℕ)) → is_like m s ≡ true → front ++ names_like m (drop i symbols) (drop i names) ≡ whole → (front ++ name ∷ []) ++ names_like m (drop (i + 1) symbols) (drop (i + 1) names) ≡ whole
  names_taken front whole e h =
      let rest = names_like m (drop (i + 1) symbols) (drop (i + 1) names) in
      append_assoc front (name ∷ []) rest ∙ ap (λ (l : List (List ℕ)). front ++ l) (sym (names_at ∙ ap (λ c. cond c (name ∷ rest) rest) e)) ∙ h

  -- the lines

  lines_at : (sizes : List ℕ) → lines_of sizes m (drop i symbols) (drop i names) ≡ cond (is_like m s) (line_of sizes s name ∷ lines_of sizes m (drop (i + 1) symbols) (drop (i + 1) names)) (lines_of sizes m (drop (i + 1) symbols) (drop (i + 1) names))
  lines_at sizes =
      at_drop_more (λ l. lines_of sizes m l (drop i names)) symbols i s within
      ∙ at_drop_more (lines_of sizes m (get_or symbols i s ∷ drop (i + 1) symbols)) names i name (omega arith)
      ∙ ap (λ (x : Symbol). cond (is_like m x) (line_of sizes x (get_or names i name) ∷ lines_of sizes m (drop (i + 1) symbols) (drop (i + 1) names)) (lines_of sizes m (drop (i + 1) symbols) (drop (i + 1) names))) (sym is_s)
      ∙ ap (λ (x : List ℕ). cond (is_like m s) (line_of sizes s x ∷ lines_of sizes m (drop (i + 1) symbols) (drop (i + 1) names)) (lines_of sizes m (drop (i + 1) symbols) (drop (i + 1) names))) (sym is_name)

  pub lines_taken : (sizes : List ℕ) (front whole : List Line) → is_like m s ≡ true → front ++ map cut (lines_of sizes m (drop i symbols) (drop i names)) ≡ whole → (front ++ cut (line_of sizes s name) ∷ []) ++ map cut (lines_of sizes m (drop (i + 1) symbols) (drop (i + 1) names)) ≡ whole
  lines_taken sizes front whole e h =
      let rest = lines_of sizes m (drop (i + 1) symbols) (drop (i + 1) names) in
      append_assoc front (cut (line_of sizes s name) ∷ []) (map cut rest) ∙ ap (λ (l : List Line). front ++ map cut l) (sym (lines_at sizes ∙ ap (λ c. cond c (line_of sizes s name ∷ rest) rest) e)) ∙ h

-- a symbol of the other kind is passed over

module _ (m : Bool) (symbols : List Symbol) (names : List (List ℕ)) (i : ℕ) (s : Symbol) (within : i < length symbols) (named : length names ≡ length symbols) (is_s : s ≡ get_or symbols i s) (other : is_like m s ≡ false) where
  pub names_passed : names_like m (drop i symbols) (drop i names) ≡ names_like m (drop (i + 1) symbols) (drop (i + 1) names)
  names_passed = names_at m symbols names i s (get_or names i []) within named is_s (get_or_default_is names i) ∙ ap (λ c. cond c (get_or names i [] ∷ names_like m (drop (i + 1) symbols) (drop (i + 1) names)) (names_like m (drop (i + 1) symbols) (drop (i + 1) names))) other
    where
      get_or_default_is : (xs : List (List ℕ)) (k : ℕ) → get_or xs k [] ≡ get_or xs k (get_or xs k [])
      get_or_default_is [] k = refl
      get_or_default_is (x ∷ xs) zero = refl
      get_or_default_is (x ∷ xs) (suc k) = get_or_default_is xs k

  pub lines_passed : (sizes : List ℕ) → lines_of sizes m (drop i symbols) (drop i names) ≡ lines_of sizes m (drop (i + 1) symbols) (drop (i + 1) names)
  lines_passed sizes =
      at_drop_more (λ l. lines_of sizes m l (drop i names)) symbols i s within
      ∙ at_drop_more (lines_of sizes m (get_or symbols i s ∷ drop (i + 1) symbols)) names i [] (omega arith)
      ∙ ap (λ c. cond c (line_of sizes (get_or symbols i s) (get_or names i []) ∷ lines_of sizes m (drop (i + 1) symbols) (drop (i + 1) names)) (lines_of sizes m (drop (i + 1) symbols) (drop (i + 1) names))) (ap (is_like m) (sym is_s) ∙ other)

-- ---- as many names as tables

names_many_by : (sizes : List ℕ) (s : Symbol) (ss : List Symbol) (name : List ℕ) (names : List (List ℕ)) (b : Bool) → ((ts : List Table) → AreTables sizes ss ts → length names ≡ length ts) → (ts : List Table) → AreTables sizes (cond b (s ∷ ss) ss) ts → length (cond b (name ∷ names) names) ≡ length ts
names_many_by sizes s ss name names true more [] h = absurd h
names_many_by sizes s ss name names true more (t ∷ ts) h = ap (λ (n : ℕ). suc n) (more ts h.1)
names_many_by sizes s ss name names false more ts h = more ts h

no_tables : (sizes : List ℕ) (ts : List Table) → AreTables sizes [] ts → 0 ≡ length ts
no_tables sizes [] h = refl
no_tables sizes (t ∷ ts) h = absurd h

pub as_many : (sizes : List ℕ) (m : Bool) (ss : List Symbol) (names : List (List ℕ)) → length names ≡ length ss → (ts : List Table) → AreTables sizes (filter (is_like m) ss) ts → length (names_like m ss names) ≡ length ts
as_many sizes m [] names e ts h = no_tables sizes ts h
as_many sizes m (s ∷ ss) [] e ts h = absurd (omega (arith, e))
as_many sizes m (s ∷ ss) (name ∷ names) e ts h = names_many_by sizes s (filter (is_like m) ss) name (names_like m ss names) (is_like m s) (as_many sizes m ss names (omega (arith, e))) ts h

pub as_many_seen : (sizes : List ℕ) (m : Bool) (ss seen_ss : List Symbol) (names seen_names some : List (List ℕ)) → length names ≡ length ss → seen_ss ≡ ss → seen_names ≡ names → some ≡ names_like m seen_ss seen_names → (ts : List Table) → AreTables sizes (filter (is_like m) ss) ts → length some ≡ length ts
as_many_seen sizes m ss seen_ss names seen_names some e is_ss is_names is ts h =
    ap (λ (l : List (List ℕ)). length l) (is ∙ ap (λ (l : List Symbol). names_like m l seen_names) is_ss ∙ ap (names_like m ss) is_names) ∙ as_many sizes m ss names e ts h

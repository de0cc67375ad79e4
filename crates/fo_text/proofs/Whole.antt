-- The text of a whole world is read exactly.
use Rattle.std.proofs.Common.{◌≡◌, ℕ, ◌-◌, ◌^◌, ◌<◌, ◌≤◌, Bool, true, false, cond, List, [], ◌∷◌, ◌++◌, length, map, codes, decimal, Ok, refl, sym, ap, subst, ◌∙◌, append_assoc, arith}
use Rattle.std.specs.Prelude.{slice_index}
use Rattle.std.specs.List.{All, AllByRecursion, filter}
use Rattle.std.proofs.lemmas.List.{map-id}
use Rattle.std.proofs.lemmas.List.Elements.{All-from_recursion, recursion_from_All}
use Rattle.fo_core.specs.declared.signature.Symbol.{Symbol}
use Rattle.fo_core.specs.declared.signature.Sig.{Sig}
use Rattle.fo_core.specs.declared.names.Names.{Names}
use Rattle.fo_core.specs.declared.world.Table.{Table}
use Rattle.fo_core.specs.declared.world.World.{World}
use Rattle.fo_core.specs.Tables.{is_like, range_of, IsTable, AreTables}
use Rattle.fo_core.specs.Sorted.{HasSorts, IsSig}
use Rattle.fo_text.specs.declared.lines.Line.{Line}
use Rattle.fo_text.specs.Texts.{NamesEach, names_like, sort_lines, table_lines, copies_text, text_of, HasText}
use Rattle.fo_text.specs.Reading.{Read, ◌>>=◌, line_of, lines_of, cut, count_at, sizes_at, tables_of, structure_at, world_at, literal_at, copied_world_at, world_of_copies_at}
use Rattle.fo_text.proofs.Counts.{tuples-positive}
use Rattle.fo_text.proofs.Exact.{Exact, exact_after, exact_then, exact_words}
use Rattle.fo_text.proofs.Worlds.{IsLine, TableFits, TablesFit, names_in, IsWord32, SizesFit, first_line, TablesOf, behind_fixed, exact_count, exact_sizes, exact_tables_of}
use Rattle.fo_text.proofs.Cuts.{bind_same, shorter, literal_shorter, tables_of_cut}

by_recursion : {X : Type 0} (P Q : X → Type 0) → ((x : X) → P x → Q x) → (xs : List X) → AllByRecursion P xs → AllByRecursion Q xs
by_recursion P Q h [] a = tt
by_recursion P Q h (x ∷ xs) a = (h x a.0, by_recursion P Q h xs a.1)

-- the names in the lines are those of the symbols

names_by : (b : Bool) (line : Line) (lines : List Line) (names : List (List ℕ)) → names_in lines ≡ names → names_in (cond b (line ∷ lines) lines) ≡ cond b (line.name ∷ names) names
names_by true line lines names e = ap (λ (l : List (List ℕ)). line.name ∷ l) e
names_by false line lines names e = e

pub names_in_lines : (sizes : List ℕ) (m : Bool) (ss : List Symbol) (names : List (List ℕ)) → names_in (lines_of sizes m ss names) ≡ names_like m ss names
names_in_lines sizes m [] names = refl
names_in_lines sizes m (s ∷ ss) [] = refl
names_in_lines sizes m (s ∷ ss) (name ∷ names) = names_by (is_like m s) (line_of sizes s name) (lines_of sizes m ss names) (names_like m ss names) (names_in_lines sizes m ss names)

-- sizes that are there, and fit a machine word
pub record AreSizes (sizes : List ℕ) : Type 0 where
  pub nonempty : All (λ n. 1 ≤ n) sizes
  pub small : All (λ n. n < 2 ^ 32) sizes

-- sizes that were read
pub record SizesRead (names : List (List ℕ)) (sizes : List ℕ) : Type 0 where
  pub count : length sizes ≡ length names
  pub are : AreSizes sizes

sizes_are : (names : List (List ℕ)) (sizes : List ℕ) → SizesFit names sizes → AreSizes sizes
sizes_are names sizes h = record {
  nonempty = All-from_recursion (λ n. 1 ≤ n) sizes (by_recursion IsWord32 (λ n. 1 ≤ n) (λ n k. k.0) sizes h.1);
  small = All-from_recursion (λ n. n < 2 ^ 32) sizes (by_recursion IsWord32 (λ n. n < 2 ^ 32) (λ n k. omega (arith, k.1)) sizes h.1);
}

pub sizes_read : (names : List (List ℕ)) (bytes sizes rest : List ℕ) → sizes_at names bytes ≡ Ok (sizes, rest) → SizesRead names sizes
sizes_read names bytes sizes rest e =
    let t = (exact_sizes names).takes bytes sizes rest e in
    record { count = t.1.0; are = sizes_are names sizes t.1 }

range_by : (sizes : List ℕ) (s : Symbol) (b : Bool) → s.relation ≡ b → AreSizes sizes → HasSorts (length sizes) s → (1 ≤ range_of sizes s) × (range_of sizes s - 1 < 2 ^ 64)
range_by sizes s true e are has = subst (λ (b : Bool). (1 ≤ cond b 2 (slice_index sizes s.result)) × (cond b 2 (slice_index sizes s.result) - 1 < 2 ^ 64)) (sym e) (omega arith, omega arith)
range_by sizes s false e are has =
    let some : 1 ≤ slice_index sizes s.result = are.nonempty s.result 0 (has.result e) in
    let small : slice_index sizes s.result < 2 ^ 32 = are.small s.result 0 (has.result e) in
    subst (λ (b : Bool). (1 ≤ cond b 2 (slice_index sizes s.result)) × (cond b 2 (slice_index sizes s.result) - 1 < 2 ^ 64)) (sym e) (some, omega arith)

range : (sizes : List ℕ) (s : Symbol) → AreSizes sizes → HasSorts (length sizes) s → (1 ≤ range_of sizes s) × (range_of sizes s - 1 < 2 ^ 64)
range sizes s are has = range_by sizes s s.relation refl are has

-- each of them is a line

line_is : (sizes : List ℕ) (s : Symbol) (name : List ℕ) → AreSizes sizes → HasSorts (length sizes) s → IsLine (line_of sizes s name)
line_is sizes s name are has = (tuples-positive sizes s.args are.nonempty has.args, (range sizes s are has).1)

lines_by : (b : Bool) (line : Line) (lines : List Line) → IsLine line → AllByRecursion IsLine lines → AllByRecursion IsLine (cond b (line ∷ lines) lines)
lines_by true line lines h k = (h, k)
lines_by false line lines h k = k

pub are_lines : (sizes : List ℕ) (m : Bool) (ss : List Symbol) (names : List (List ℕ)) → AreSizes sizes → AllByRecursion (HasSorts (length sizes)) ss → AllByRecursion IsLine (lines_of sizes m ss names)
are_lines sizes m [] names are has = tt
are_lines sizes m (s ∷ ss) [] are has = tt
are_lines sizes m (s ∷ ss) (name ∷ names) are has = lines_by (is_like m s) (line_of sizes s name) (lines_of sizes m ss names) (line_is sizes s name are has.0) (are_lines sizes m ss names are has.1)

-- tables fit the lines exactly where they are tables of the symbols

to_table : (sizes : List ℕ) (s : Symbol) (name : List ℕ) (t : Table) → 1 ≤ range_of sizes s → TableFits (line_of sizes s name) t → IsTable sizes s t
to_table sizes s name t some h = record { total = h.0; in_range = All-from_recursion (λ v. v < range_of sizes s) t.values (by_recursion (λ v. v ≤ range_of sizes s - 1) (λ v. v < range_of sizes s) (λ v k. omega arith) t.values h.1) }

from_table : (sizes : List ℕ) (s : Symbol) (name : List ℕ) (t : Table) → IsTable sizes s t → TableFits (line_of sizes s name) t
from_table sizes s name t h = (h.total, by_recursion (λ v. v < range_of sizes s) (λ v. v ≤ range_of sizes s - 1) (λ v k. omega arith) t.values (recursion_from_All (λ v. v < range_of sizes s) t.values h.in_range))

module _ (sizes : List ℕ) (s : Symbol) (ss : List Symbol) (line : Line) (lines : List Line) where
  to_by : (b : Bool) → ((t : Table) → TableFits line t → IsTable sizes s t) → ((ts : List Table) → TablesFit lines ts → AreTables sizes ss ts) → (ts : List Table) → TablesFit (cond b (line ∷ lines) lines) ts → AreTables sizes (cond b (s ∷ ss) ss) ts
  to_by true one more [] h = absurd h
  to_by true one more (t ∷ ts) h = (one t h.0, more ts h.1)
  to_by false one more ts h = more ts h

  from_by : (b : Bool) → ((t : Table) → IsTable sizes s t → TableFits line t) → ((ts : List Table) → AreTables sizes ss ts → TablesFit lines ts) → (ts : List Table) → AreTables sizes (cond b (s ∷ ss) ss) ts → TablesFit (cond b (line ∷ lines) lines) ts
  from_by true one more [] h = absurd h
  from_by true one more (t ∷ ts) h = (one t h.0, more ts h.1)
  from_by false one more ts h = more ts h

none_to : (sizes : List ℕ) (ts : List Table) → TablesFit [] ts → AreTables sizes [] ts
none_to sizes [] h = tt
none_to sizes (t ∷ ts) h = absurd h

none_from : (sizes : List ℕ) (ts : List Table) → AreTables sizes [] ts → TablesFit [] ts
none_from sizes [] h = tt
none_from sizes (t ∷ ts) h = absurd h

pub to_tables : (sizes : List ℕ) (m : Bool) (ss : List Symbol) (names : List (List ℕ)) → length names ≡ length ss → AreSizes sizes → AllByRecursion (HasSorts (length sizes)) ss → (ts : List Table) → TablesFit (lines_of sizes m ss names) ts → AreTables sizes (filter (is_like m) ss) ts
to_tables sizes m [] names e are has ts h = none_to sizes ts h
to_tables sizes m (s ∷ ss) [] e are has ts h = absurd (omega (arith, e))
to_tables sizes m (s ∷ ss) (name ∷ names) e are has ts h =
    to_by sizes s (filter (is_like m) ss) (line_of sizes s name) (lines_of sizes m ss names) (is_like m s) (λ t k. to_table sizes s name t (range sizes s are has.0).0 k) (to_tables sizes m ss names (omega (arith, e)) are has.1) ts h

pub from_tables : (sizes : List ℕ) (m : Bool) (ss : List Symbol) (names : List (List ℕ)) → length names ≡ length ss → (ts : List Table) → AreTables sizes (filter (is_like m) ss) ts → TablesFit (lines_of sizes m ss names) ts
from_tables sizes m [] names e ts h = none_from sizes ts h
from_tables sizes m (s ∷ ss) [] e ts h = absurd (omega (arith, e))
from_tables sizes m (s ∷ ss) (name ∷ names) e ts h =
    from_by sizes s (filter (is_like m) ss) (line_of sizes s name) (lines_of sizes m ss names) (is_like m s) (λ t k. from_table sizes s name t k) (from_tables sizes m ss names (omega (arith, e))) ts h

-- ---- the readers of a world

regroup : (a b c d e f : List ℕ) → a ++ b ++ c ++ d ++ e ++ f ≡ a ++ (b ++ (c ++ (d ++ (e ++ f))))
regroup a b c d e f = simp append_assoc

module _ (sig : Sig) (names : Names) (is_sig : IsSig sig) (named : NamesEach sig names) where
  abbrev same : Line → Line
  same line = line

  abbrev fixed_of : List ℕ → List Line
  fixed_of sizes = lines_of sizes false sig.symbols names.symbols

  abbrev mutable_of : List ℕ → List Line
  mutable_of sizes = lines_of sizes true sig.symbols names.symbols

  symbols_have : (sizes : List ℕ) → length sizes ≡ sig.sorts → AllByRecursion (HasSorts (length sizes)) sig.symbols
  symbols_have sizes e = recursion_from_All (HasSorts (length sizes)) sig.symbols (subst (λ (n : ℕ). All (HasSorts n) sig.symbols) (sym e) is_sig.sorts)

  pub lines_are : (sizes : List ℕ) (m : Bool) → SizesFit names.sorts sizes → AllByRecursion IsLine (lines_of sizes m sig.symbols names.symbols)
  lines_are sizes m h = are_lines sizes m sig.symbols names.symbols (sizes_are names.sorts sizes h) (symbols_have sizes (h.0 ∙ named.sorts))

  -- what stands behind the sizes
  abbrev Behind : ℕ → List ℕ → World → Type 0
  Behind n sizes = TablesOf sizes n (fixed_of sizes) (mutable_of sizes)

  abbrev behind : ℕ → List ℕ → World → List ℕ
  behind n sizes w = codes "fixed\n" ++ behind_fixed sizes n (fixed_of sizes) (mutable_of sizes) w

  exact_structure : (n : ℕ) (sizes : List ℕ) → SizesFit names.sorts sizes → Exact (Behind n sizes) (behind n sizes) (structure_at same sig names sizes n)
  exact_structure n sizes h =
      exact_words (Behind n sizes) (Behind n sizes) (behind n sizes) (behind n sizes) (tables_of sizes n (fixed_of sizes) (mutable_of sizes)) (structure_at same sig names sizes n)
      (λ bytes. ap (λ (l : List Line). tables_of sizes n l (map same (mutable_of sizes)) bytes) (map-id (fixed_of sizes)) ∙ ap (λ (l : List Line). tables_of sizes n (fixed_of sizes) l bytes) (map-id (mutable_of sizes)))
      (λ w k. (k, refl)) (λ w k. k) (exact_tables_of sizes n (fixed_of sizes) (mutable_of sizes) (lines_are sizes false h) (lines_are sizes true h))

  -- what stands behind the number of copies
  record Sized (n : ℕ) (w : World) : Type 0 where
    pub sizes : SizesFit names.sorts w.sizes
    pub behind_is : Behind n w.sizes w

  abbrev sized : ℕ → World → List ℕ
  sized n w = sort_lines names.sorts w.sizes ++ behind n w.sizes w

  abbrev sized_at : ℕ → List ℕ → Read World
  sized_at n bytes = sizes_at names.sorts bytes >>= λ sizes. structure_at same sig names sizes.0 n sizes.1

  sized_by : (n : ℕ) (sizes : List ℕ) (w : World) → w.sizes ≡ sizes → SizesFit names.sorts sizes → Behind n sizes w → Sized n w × (sized n w ≡ sort_lines names.sorts sizes ++ behind n sizes w)
  sized_by n sizes w e h k =
      (record { sizes = subst (SizesFit names.sorts) (sym e) h; behind_is = subst (λ (s : List ℕ). Behind n s w) (sym e) k }, ap (λ (s : List ℕ). sort_lines names.sorts s ++ behind n s w) e)

  exact_sized : (n : ℕ) → Exact (Sized n) (sized n) (sized_at n)
  exact_sized n =
      exact_then (SizesFit names.sorts) (sort_lines names.sorts) (sizes_at names.sorts) (λ sizes. Behind n sizes) (λ sizes. behind n sizes) (λ sizes. structure_at same sig names sizes n)
      (Sized n) (sized n) (sized_at n) (λ bytes. refl)
      (λ sizes w h k. sized_by n sizes w k.sizes h k) (λ w s. (w.sizes, s.sizes, s.behind_is))
      (exact_sizes names.sorts) (λ sizes h. exact_structure n sizes h)

  -- the whole

  to_world : (n : ℕ) (w : World) → IsWord32 n → Sized n w → HasText sig w
  to_world n w h s =
      let are = sizes_are names.sorts w.sizes s.sizes in
      let has = symbols_have w.sizes (s.sizes.0 ∙ named.sorts) in
      let b = s.behind_is in
      let copies = by_recursion (TablesFit (mutable_of w.sizes)) (AreTables w.sizes (filter (is_like true) sig.symbols)) (to_tables w.sizes true sig.symbols names.symbols named.symbols are has) w.copies b.copies in
      record {
        fits = record {
          sorts = s.sizes.0 ∙ named.sorts;
          nonempty = are.nonempty;
          fixed = to_tables w.sizes false sig.symbols names.symbols named.symbols are has w.fixed b.fixed;
          some_copy = omega (arith, b.count, h.0);
          copies = All-from_recursion (AreTables w.sizes (filter (is_like true) sig.symbols)) w.copies copies;
        };
        sizes = are.small;
        copies = omega (arith, b.count, h.1);
      }

  words_are : (n : ℕ) (w : World) → n ≡ length w.copies → text_of sig names w ≡ first_line n ++ sized n w
  words_are n w e =
      let fixed_names : names_like false sig.symbols names.symbols ≡ names_in (fixed_of w.sizes) = sym (names_in_lines w.sizes false sig.symbols names.symbols) in
      let mutable_names : names_like true sig.symbols names.symbols ≡ names_in (mutable_of w.sizes) = sym (names_in_lines w.sizes true sig.symbols names.symbols) in
      regroup (first_line (length w.copies)) (sort_lines names.sorts w.sizes) (codes "fixed\n") (table_lines (names_like false sig.symbols names.symbols) w.fixed) (copies_text (names_like true sig.symbols names.symbols) 0 w.copies) (codes "end\n")
      ∙ ap (λ (k : ℕ). first_line k ++ (sort_lines names.sorts w.sizes ++ (codes "fixed\n" ++ (table_lines (names_like false sig.symbols names.symbols) w.fixed ++ (copies_text (names_like true sig.symbols names.symbols) 0 w.copies ++ codes "end\n"))))) (sym e)
      ∙ ap (λ (l : List (List ℕ)). first_line n ++ (sort_lines names.sorts w.sizes ++ (codes "fixed\n" ++ (table_lines l w.fixed ++ (copies_text (names_like true sig.symbols names.symbols) 0 w.copies ++ codes "end\n"))))) fixed_names
      ∙ ap (λ (l : List (List ℕ)). first_line n ++ (sort_lines names.sorts w.sizes ++ (codes "fixed\n" ++ (table_lines (names_in (fixed_of w.sizes)) w.fixed ++ (copies_text l 0 w.copies ++ codes "end\n"))))) mutable_names

  from_world : (w : World) → HasText sig w → (n : ℕ) × IsWord32 n × Sized n w
  from_world w h =
      let f = h.fits in
      let above = recursion_from_All (λ n. 1 ≤ n) w.sizes f.nonempty in
      let below = recursion_from_All (λ n. n < 2 ^ 32) w.sizes h.sizes in
      let copies = recursion_from_All (AreTables w.sizes (filter (is_like true) sig.symbols)) w.copies f.copies in (
        length w.copies,
        (f.some_copy, omega (arith, h.copies)),
        record {
          sizes = (f.sorts ∙ sym named.sorts, words w.sizes above below);
          behind_is = record {
            sizes = refl;
            count = refl;
            fixed = from_tables w.sizes false sig.symbols names.symbols named.symbols w.fixed f.fixed;
            copies = by_recursion (AreTables w.sizes (filter (is_like true) sig.symbols)) (TablesFit (mutable_of w.sizes)) (from_tables w.sizes true sig.symbols names.symbols named.symbols) w.copies copies;
          };
        },
      )
    where
      words : (sizes : List ℕ) → AllByRecursion (λ n. 1 ≤ n) sizes → AllByRecursion (λ n. n < 2 ^ 32) sizes → AllByRecursion IsWord32 sizes
      words [] a b = tt
      words (n ∷ ns) a b = ((a.0, omega (arith, b.0)), words ns a.1 b.1)

  pub exact_world : Exact (HasText sig) (text_of sig names) (world_at same sig names)
  unfolding world_at
  exact_world =
      exact_then IsWord32 first_line count_at Sized sized sized_at (HasText sig) (text_of sig names) (world_at same sig names) (λ bytes. refl)
      (λ n w h s. (to_world n w h s, words_are n w (sym s.behind_is.count))) from_world exact_count (λ n h. exact_sized n)

  -- what the code reads, with counts that are cut
  sized_cut : (n : ℕ) (bytes : List ℕ) → length bytes < 2 ^ 64 - 1 → (sizes_at names.sorts bytes >>= λ sizes. structure_at cut sig names sizes.0 n sizes.1) ≡ sized_at n bytes
  sized_cut n bytes short =
      bind_same (sizes_at names.sorts bytes) (λ sizes. structure_at cut sig names sizes.0 n sizes.1) (λ sizes. structure_at same sig names sizes.0 n sizes.1)
      (λ sizes f.
      let h = ((exact_sizes names.sorts).takes bytes sizes.0 sizes.1 f).1 in
      tables_of_cut sizes.0 n (fixed_of sizes.0) (mutable_of sizes.0) (lines_are sizes.0 false h) (lines_are sizes.0 true h) sizes.1 (omega (arith, shorter _ _ _ (exact_sizes names.sorts) bytes sizes f))
      ∙ sym (ap (λ (l : List Line). tables_of sizes.0 n l (map same (mutable_of sizes.0)) sizes.1) (map-id (fixed_of sizes.0)) ∙ ap (λ (l : List Line). tables_of sizes.0 n (fixed_of sizes.0) l sizes.1) (map-id (mutable_of sizes.0))))

  pub world_cut : (bytes : List ℕ) → length bytes < 2 ^ 64 - 1 → world_at cut sig names bytes ≡ world_at same sig names bytes
  unfolding world_at
  world_cut bytes short =
      bind_same (count_at bytes) (λ n. sizes_at names.sorts n.1 >>= λ sizes. structure_at cut sig names sizes.0 n.0 sizes.1) (λ n. sizes_at names.sorts n.1 >>= λ sizes. structure_at same sig names sizes.0 n.0 sizes.1)
      (λ n e. sized_cut n.0 n.1 (omega (arith, shorter _ _ _ exact_count bytes n e)))

  -- ---- a world of a known number of copies

  -- a world that fits, with this number of copies
  abbrev pub HasCopies : ℕ → World → Type 0
  HasCopies n w = HasText sig w × (length w.copies ≡ n)

  abbrev numbered : ℕ → World → List ℕ
  numbered n w = codes "world " ++ (decimal n ++ (codes "\n" ++ sized n w))

  copied_words : (n : ℕ) (w : World) → length w.copies ≡ n → text_of sig names w ≡ numbered n w
  copied_words n w e =
      words_are n w (sym e) ∙ ap (λ (l : List ℕ). codes "world " ++ l) (append_assoc (decimal n) (10 ∷ []) (sized n w))

  abbrev copied_after : ℕ → List ℕ → Read World
  copied_after n bytes = literal_at (codes "world ") bytes >>= λ word. literal_at (decimal n) word >>= λ number. literal_at (codes "\n") number >>= sized_at n

  pub exact_copied : (n : ℕ) → 1 ≤ n → n < 2 ^ 32 → Exact (HasCopies n) (text_of sig names) (world_of_copies_at sig names n)
  unfolding copied_world_at
  exact_copied n some few =
      exact_words (Sized n) (HasCopies n) (numbered n) (text_of sig names) (copied_after n) (world_of_copies_at sig names n) (λ bytes. refl)
      (λ w s. ((to_world n w (some, omega arith) s, s.behind_is.count), copied_words n w s.behind_is.count)) back
      (exact_after (Sized n) (λ w. decimal n ++ (codes "\n" ++ sized n w)) (λ bytes. literal_at (decimal n) bytes >>= λ number. literal_at (codes "\n") number >>= sized_at n) (codes "world ")
      (exact_after (Sized n) (λ w. codes "\n" ++ sized n w) (λ bytes. literal_at (codes "\n") bytes >>= sized_at n) (decimal n)
      (exact_after (Sized n) (sized n) (sized_at n) (codes "\n") (exact_sized n))))
    where
      back : (w : World) → HasCopies n w → Sized n w
      back w h =
          let f = from_world w h.0 in
          let e : f.0 ≡ n = sym f.2.behind_is.count ∙ h.1 in
          subst (λ (m : ℕ). Sized m w) e f.2

  pub copied_cut : (n : ℕ) (bytes : List ℕ) → length bytes < 2 ^ 64 - 1 → copied_world_at cut sig names n bytes ≡ world_of_copies_at sig names n bytes
  unfolding copied_world_at
  copied_cut n bytes short =
      let from : List ℕ → Read World = λ l. sizes_at names.sorts l >>= λ sizes. structure_at cut sig names sizes.0 n sizes.1 in
      bind_same (literal_at (codes "world ") bytes) (λ word. literal_at (decimal n) word >>= λ number. literal_at (codes "\n") number >>= from) (λ word. literal_at (decimal n) word >>= λ number. literal_at (codes "\n") number >>= sized_at n)
      (λ word e. bind_same (literal_at (decimal n) word) (λ number. literal_at (codes "\n") number >>= from) (λ number. literal_at (codes "\n") number >>= sized_at n)
      (λ number f. bind_same (literal_at (codes "\n") number) from (sized_at n)
      (λ rest g. sized_cut n rest (omega (arith, literal_shorter (codes "world ") bytes word e, literal_shorter (decimal n) word number f, literal_shorter (codes "\n") number rest g)))))

-- Tables, sizes, copies and worlds are read exactly.
use Rattle.std.proofs.Common.{◌≡◌, ℕ, zero, suc, ◌+◌, ◌-◌, ◌^◌, ◌<◌, ◌≤◌, cond, List, [], ◌∷◌, ◌++◌, length, map, flat_map, codes, decimal, Result, Ok, Err, refl, sym, ap, subst, ◌∙◌, append_assoc, arith}
use Rattle.std.specs.Prelude.{⊤}
use Rattle.std.specs.List.{AllByRecursion}
use Rattle.std.proofs.Math.Dec.{eqb-suc-zero}
use Rattle.std.proofs.lemmas.List.{append-nil}
use Rattle.fo_core.specs.declared.world.Table.{Table}
use Rattle.fo_core.specs.declared.world.World.{World}
use Rattle.fo_text.specs.declared.lines.Line.{Line}
use Rattle.fo_text.specs.Texts.{after_space, table_line, table_lines, sort_line, sort_lines, copy_text, copies_text}
use Rattle.fo_text.specs.Reading.{Read, ◌>>=◌, literal_at, number_at, values_at, table_at, tables_at, copy_at, copies_at, size_at, sizes_at, count_at, tables_of}
use Rattle.fo_text.proofs.Exact.{Exact, exact_done, exact_map, exact_then, exact_after, exact_words, exact_pair, seen}
use Rattle.fo_text.proofs.Numbers.{Bounds, exact_number}

abbrev InRange : ℕ → ℕ → ℕ → Type 0
InRange least most x = (least ≤ x) × (x ≤ most)

abbrev ended : ℕ → ℕ → List ℕ
ended ending x = decimal x ++ ending ∷ []

-- ---- the values of a line

abbrev pub AreValues : ℕ → ℕ → List ℕ → Type 0
AreValues n most vs = (length vs ≡ n) × AllByRecursion (λ v. v ≤ most) vs

-- with spaces between them, and the line's end
abbrev pub values_text : List ℕ → List ℕ
values_text [] = []
values_text (v ∷ []) = ended 10 v
values_text (v ∷ w ∷ vs) = ended 32 v ++ values_text (w ∷ vs)

pub bounds_of : (most ending : ℕ) → most < 2 ^ 64 → ending < 48 → Bounds 0 most ending
bounds_of most ending small low = record { range = omega arith; small = small; ends = low }

one_value : (most : ℕ) → most < 2 ^ 64 → Exact (AreValues 1 most) values_text (values_at 1 most)
unfolding values_at
one_value most small =
    exact_map (InRange 0 most) (ended 10) (number_at 0 most 10) (AreValues 1 most) values_text (values_at 1 most) (λ v. v ∷ [])
    (λ bytes. refl) (λ v h. ((refl, (h.1, tt)), refl)) back (exact_number 0 most 10 (bounds_of most 10 small (omega arith)))
  where
    back : (vs : List ℕ) → AreValues 1 most vs → (v : ℕ) × InRange 0 most v × (v ∷ [] ≡ vs)
    back [] h = absurd (omega (arith, h.0))
    back (v ∷ []) h = (v, (omega arith, h.1.0), refl)
    back (v ∷ w ∷ vs) h = absurd (omega (arith, h.0))

values_cons : (n : ℕ) (v : ℕ) (vs : List ℕ) → length vs ≡ suc n → values_text (v ∷ vs) ≡ ended 32 v ++ values_text vs
values_cons n v [] e = absurd (omega (arith, e))
values_cons n v (w ∷ vs) e = refl

pub exact_values : (n most : ℕ) → most < 2 ^ 64 → Exact (AreValues (suc n) most) values_text (values_at (suc n) most)
unfolding values_at
exact_values zero most small = one_value most small
exact_values (suc n) most small =
    exact_pair (InRange 0 most) (ended 32) (number_at 0 most 32) (λ v. AreValues (suc n) most) (λ v. values_text) (λ v. values_at (suc n) most)
    (AreValues (suc (suc n)) most) values_text (values_at (suc (suc n)) most) (λ v vs. v ∷ vs)
    (λ bytes. ap (λ (ending : ℕ). number_at 0 most ending bytes >>= λ v. values_at (suc n) most v.1 >>= λ vs. Ok (v.0 ∷ vs.0, vs.1)) (ap (λ c. cond c 10 32) (eqb-suc-zero n))) (λ v vs h k. ((ap (λ (m : ℕ). suc m) k.0, (h.1, k.1)), values_cons n v vs k.0)) back
    (exact_number 0 most 32 (bounds_of most 32 small (omega arith))) (λ v h. exact_values n most small)
  where
    back : (vs : List ℕ) → AreValues (suc (suc n)) most vs → (v : ℕ) × (ws : List ℕ) × InRange 0 most v × AreValues (suc n) most ws × (v ∷ ws ≡ vs)
    back [] h = absurd (omega (arith, h.0))
    back (v ∷ vs) h = (v, vs, (omega arith, h.1.0), (omega (arith, h.0), h.1.1), refl)

-- ---- a symbol's line

abbrev pub IsLine : Line → Type 0
IsLine line = (1 ≤ line.entries) × (line.most < 2 ^ 64)

abbrev pub TableFits : Line → Table → Type 0
TableFits line t = AreValues line.entries line.most t.values

spaced : (v : ℕ) (vs : List ℕ) → flat_map after_space (v ∷ vs) ++ 10 ∷ [] ≡ 32 ∷ values_text (v ∷ vs)
spaced v [] = ap (λ (l : List ℕ). 32 ∷ l ++ 10 ∷ []) (append-nil (decimal v))
spaced v (w ∷ vs) =
    ap (λ (l : List ℕ). 32 ∷ l) (append_assoc (decimal v) (flat_map after_space (w ∷ vs)) (10 ∷ []) ∙ ap (λ (l : List ℕ). decimal v ++ l) (spaced w vs) ∙ sym (append_assoc (decimal v) (32 ∷ []) (values_text (w ∷ vs))))

line_words : (n : ℕ) (name vs : List ℕ) → length vs ≡ suc n → name ++ flat_map after_space vs ++ 10 ∷ [] ≡ name ++ (32 ∷ values_text vs)
line_words n name [] e = absurd (omega (arith, e))
line_words n name (v ∷ vs) e = append_assoc name (flat_map after_space (v ∷ vs)) (10 ∷ []) ∙ ap (λ (l : List ℕ). name ++ l) (spaced v vs)

abbrev table_of_values : ℕ → ℕ → List ℕ → Read Table
table_of_values n most bytes = values_at n most bytes >>= λ vs. Ok (record { values = vs.0 }, vs.1)

exact_table_of : (n most : ℕ) → most < 2 ^ 64 → Exact (λ (t : Table). AreValues (suc n) most t.values) (λ (t : Table). values_text t.values) (table_of_values (suc n) most)
exact_table_of n most small =
    exact_map (AreValues (suc n) most) values_text (values_at (suc n) most) (λ (t : Table). AreValues (suc n) most t.values) (λ (t : Table). values_text t.values) (table_of_values (suc n) most) (λ vs. record { values = vs })
    (λ bytes. refl) (λ vs h. (h, refl)) (λ t h. (t.values, h, refl)) (exact_values n most small)

exact_line : (name : List ℕ) (n most : ℕ) → most < 2 ^ 64 → Exact (λ (t : Table). AreValues (suc n) most t.values) (table_line name) (λ bytes. literal_at name bytes >>= λ r. literal_at (codes " ") r >>= table_of_values (suc n) most)
exact_line name n most small =
    let Fits : Table → Type 0 = λ t. AreValues (suc n) most t.values in
    let spaces = exact_after Fits (λ (t : Table). values_text t.values) (table_of_values (suc n) most) (codes " ") (exact_table_of n most small) in
    let named = exact_after Fits (λ (t : Table). codes " " ++ values_text t.values) (λ bytes. literal_at (codes " ") bytes >>= table_of_values (suc n) most) name spaces in
    let read : List ℕ → Read Table = λ bytes. literal_at name bytes >>= λ r. literal_at (codes " ") r >>= table_of_values (suc n) most in
    exact_words Fits Fits (λ (t : Table). name ++ (codes " " ++ values_text t.values)) (table_line name) read read (λ bytes. refl) (λ t h. (h, line_words n name t.values h.0)) (λ t h. h) named

exact_table_by : (name : List ℕ) (entries most : ℕ) → 1 ≤ entries → most < 2 ^ 64 → Exact (TableFits (record { name = name; entries = entries; most = most })) (table_line name) (table_at (record { name = name; entries = entries; most = most }))
unfolding table_at
exact_table_by name zero most some small = absurd (omega arith)
exact_table_by name (suc n) most some small = exact_line name n most small

pub exact_table : (line : Line) → IsLine line → Exact (TableFits line) (table_line line.name) (table_at line)
exact_table line is = exact_table_by line.name line.entries line.most is.0 is.1

-- ---- the lines of several symbols

abbrev pub TablesFit : List Line → List Table → Type 0
TablesFit [] [] = ⊤
TablesFit [] (t ∷ ts) = ⊥
TablesFit (line ∷ lines) [] = ⊥
TablesFit (line ∷ lines) (t ∷ ts) = TableFits line t × TablesFit lines ts

abbrev pub names_in : List Line → List (List ℕ)
names_in lines = map (λ (line : Line). line.name) lines

nothing : {A : Type 0} (Fits : List A → Type 0) (text : List A → List ℕ) (read : List ℕ → Read (List A)) → ((bytes : List ℕ) → read bytes ≡ Ok ([], bytes)) → Fits [] → text [] ≡ [] → ((xs : List A) → Fits xs → xs ≡ []) → Exact Fits text read
nothing {A} Fits text read is fit empty only =
    let none : List A = [] in
    exact_words (λ xs. xs ≡ none) Fits (λ xs. []) text (λ bytes. Ok (none, bytes)) read is
    (λ xs e. (subst Fits (sym e) fit, ap text e ∙ empty)) only (exact_done none)

pub exact_tables : (lines : List Line) → AllByRecursion IsLine lines → Exact (TablesFit lines) (table_lines (names_in lines)) (tables_at lines)
unfolding tables_at
exact_tables [] are = nothing (TablesFit []) (table_lines []) (tables_at []) (λ bytes. refl) tt refl only
  where
    only : (ts : List Table) → TablesFit [] ts → ts ≡ []
    only [] h = refl
    only (t ∷ ts) h = absurd h
exact_tables (line ∷ lines) are =
    exact_pair (TableFits line) (table_line line.name) (table_at line) (λ t. TablesFit lines) (λ t. table_lines (names_in lines)) (λ t. tables_at lines)
    (TablesFit (line ∷ lines)) (table_lines (names_in (line ∷ lines))) (tables_at (line ∷ lines)) (λ t ts. t ∷ ts)
    (λ bytes. refl) (λ t ts h k. ((h, k), refl)) back (exact_table line are.0) (λ t h. exact_tables lines are.1)
  where
    back : (ts : List Table) → TablesFit (line ∷ lines) ts → (t : Table) × (us : List Table) × TableFits line t × TablesFit lines us × (t ∷ us ≡ ts)
    back [] h = absurd h
    back (t ∷ ts) h = (t, ts, h.0, h.1, refl)

-- ---- copies

module _ (lines : List Line) (are : AllByRecursion IsLine lines) where
  abbrev heading : ℕ → List ℕ
  heading k = codes "copy " ++ (decimal k ++ codes "\n")

  copy_words : (k : ℕ) (tables : List ℕ) → codes "copy" ++ after_space k ++ 10 ∷ [] ++ tables ≡ codes "copy " ++ (decimal k ++ (codes "\n" ++ tables))
  copy_words k tables = ap (λ (l : List ℕ). codes "copy " ++ l) (append_assoc (decimal k) (10 ∷ []) tables)

  pub exact_copy : (k : ℕ) → Exact (TablesFit lines) (copy_text (names_in lines) k) (copy_at lines k)
  unfolding copy_at
  exact_copy k =
      let words : List Table → List ℕ = table_lines (names_in lines) in
      let ended = exact_after (TablesFit lines) words (tables_at lines) (codes "\n") (exact_tables lines are) in
      let numbered = exact_after (TablesFit lines) (λ ts. codes "\n" ++ words ts) (λ bytes. literal_at (codes "\n") bytes >>= tables_at lines) (decimal k) ended in
      let whole = exact_after (TablesFit lines) (λ ts. decimal k ++ (codes "\n" ++ words ts)) (λ bytes. literal_at (decimal k) bytes >>= λ r. literal_at (codes "\n") r >>= tables_at lines) (codes "copy ") numbered in
      exact_words (TablesFit lines) (TablesFit lines) (λ ts. codes "copy " ++ (decimal k ++ (codes "\n" ++ words ts))) (copy_text (names_in lines) k) (copy_at lines k) (copy_at lines k) (λ bytes. refl) (λ ts h. (h, copy_words k (words ts))) (λ ts h. h) whole

  abbrev pub CopiesFit : ℕ → List (List Table) → Type 0
  CopiesFit n copies = (length copies ≡ n) × AllByRecursion (TablesFit lines) copies

  pub exact_copies : (n k : ℕ) → Exact (CopiesFit n) (copies_text (names_in lines) k) (copies_at lines n k)
  unfolding copies_at
  exact_copies zero k = nothing (CopiesFit zero) (copies_text (names_in lines) k) (copies_at lines zero k) (λ bytes. refl) (refl, tt) refl only
    where
      only : (cs : List (List Table)) → CopiesFit zero cs → cs ≡ []
      only [] h = refl
      only (c ∷ cs) h = absurd (omega (arith, h.0))
  exact_copies (suc n) k =
      exact_pair (TablesFit lines) (copy_text (names_in lines) k) (copy_at lines k) (λ c. CopiesFit n) (λ c. copies_text (names_in lines) (k + 1)) (λ c. copies_at lines n (k + 1))
      (CopiesFit (suc n)) (copies_text (names_in lines) k) (copies_at lines (suc n) k) (λ c cs. c ∷ cs)
      (λ bytes. refl) (λ c cs h j. ((ap (λ (m : ℕ). suc m) j.0, (h, j.1)), refl)) back (exact_copy k) (λ c h. exact_copies n (k + 1))
    where
      back : (cs : List (List Table)) → CopiesFit (suc n) cs → (c : List Table) × (ds : List (List Table)) × TablesFit lines c × CopiesFit n ds × (c ∷ ds ≡ cs)
      back [] h = absurd (omega (arith, h.0))
      back (c ∷ cs) h = (c, cs, h.1.0, (omega (arith, h.0), h.1.1), refl)

-- ---- sizes, and the number of copies

abbrev pub IsWord32 : ℕ → Type 0
IsWord32 n = InRange 1 (2 ^ 32 - 1) n

exact_positive : Exact IsWord32 (ended 10) (number_at 1 (2 ^ 32 - 1) 10)
exact_positive = exact_number 1 (2 ^ 32 - 1) 10 (record { range = omega arith; small = omega arith; ends = omega arith })

size_words : (name : List ℕ) (n : ℕ) → codes "sort " ++ name ++ after_space n ++ 10 ∷ [] ≡ codes "sort " ++ (name ++ (codes " " ++ ended 10 n))
size_words name n = ap (λ (l : List ℕ). codes "sort " ++ l) (append_assoc name (after_space n) (10 ∷ []))

exact_size : (name : List ℕ) → Exact IsWord32 (sort_line name) (size_at name)
unfolding size_at
exact_size name =
    let read = number_at 1 (2 ^ 32 - 1) 10 in
    let spaces = exact_after IsWord32 (ended 10) read (codes " ") exact_positive in
    let named = exact_after IsWord32 (λ n. codes " " ++ ended 10 n) (λ bytes. literal_at (codes " ") bytes >>= read) name spaces in
    let whole = exact_after IsWord32 (λ n. name ++ (codes " " ++ ended 10 n)) (λ bytes. literal_at name bytes >>= λ r. literal_at (codes " ") r >>= read) (codes "sort ") named in
    exact_words IsWord32 IsWord32 (λ n. codes "sort " ++ (name ++ (codes " " ++ ended 10 n))) (sort_line name) (size_at name) (size_at name) (λ bytes. refl) (λ n h. (h, size_words name n)) (λ n h. h) whole

abbrev pub SizesFit : List (List ℕ) → List ℕ → Type 0
SizesFit names sizes = (length sizes ≡ length names) × AllByRecursion IsWord32 sizes

pub exact_sizes : (names : List (List ℕ)) → Exact (SizesFit names) (sort_lines names) (sizes_at names)
unfolding sizes_at
exact_sizes [] = nothing (SizesFit []) (sort_lines []) (sizes_at []) (λ bytes. refl) (refl, tt) refl only
  where
    only : (sizes : List ℕ) → SizesFit [] sizes → sizes ≡ []
    only [] h = refl
    only (n ∷ ns) h = absurd (omega (arith, h.0))
exact_sizes (name ∷ names) =
    exact_pair IsWord32 (sort_line name) (size_at name) (λ n. SizesFit names) (λ n. sort_lines names) (λ n. sizes_at names)
    (SizesFit (name ∷ names)) (sort_lines (name ∷ names)) (sizes_at (name ∷ names)) (λ n ns. n ∷ ns)
    (λ bytes. refl) (λ n ns h k. ((ap (λ (m : ℕ). suc m) k.0, (h, k.1)), refl)) back (exact_size name) (λ n h. exact_sizes names)
  where
    back : (sizes : List ℕ) → SizesFit (name ∷ names) sizes → (n : ℕ) × (ns : List ℕ) × IsWord32 n × SizesFit names ns × (n ∷ ns ≡ sizes)
    back [] h = absurd (omega (arith, h.0))
    back (n ∷ ns) h = (n, ns, h.1.0, (omega (arith, h.0), h.1.1), refl)

abbrev pub first_line : ℕ → List ℕ
first_line n = codes "world" ++ after_space n ++ 10 ∷ []

pub exact_count : Exact IsWord32 first_line count_at
unfolding count_at
exact_count =
    exact_words IsWord32 IsWord32 (λ n. codes "world " ++ ended 10 n) first_line count_at count_at (λ bytes. refl) (λ n h. (h, refl)) (λ n h. h)
    (exact_after IsWord32 (ended 10) (number_at 1 (2 ^ 32 - 1) 10) (codes "world ") exact_positive)

-- ---- what stands behind the sizes

module _ (ns : List ℕ) (n : ℕ) (fixed_lines mutable_lines : List Line) where
  abbrev Copies : List (List Table) → Type 0
  Copies cs = (length cs ≡ n) × AllByRecursion (TablesFit mutable_lines) cs

  abbrev then_end : Read (List (List Table)) → Read (List (List Table))
  then_end r = r >>= λ cs. literal_at (codes "end\n") cs.1 >>= λ rest. Ok (cs.0, rest)

  abbrev copies_then_end : List ℕ → Read (List (List Table))
  copies_then_end bytes = then_end (copies_at mutable_lines n 0 bytes)

  abbrev copies_end : List (List Table) → List ℕ
  copies_end cs = copies_text (names_in mutable_lines) 0 cs ++ codes "end\n"

  exact_copies_end : AllByRecursion IsLine mutable_lines → Exact Copies copies_end copies_then_end
  exact_copies_end are_mutable =
      exact_then Copies (copies_text (names_in mutable_lines) 0) (copies_at mutable_lines n 0) (λ cs ds. ds ≡ cs) (λ cs ds. codes "end\n" ++ []) (λ cs bytes. literal_at (codes "end\n") bytes >>= λ rest. Ok (cs, rest))
      Copies copies_end copies_then_end (λ bytes. refl)
      (λ cs ds h e. (subst Copies (sym e) h, ap (λ (l : List (List Table)). copies_text (names_in mutable_lines) 0 l ++ codes "end\n") e)) (λ cs h. (cs, h, refl))
      (exact_copies mutable_lines are_mutable n 0) (λ cs h. exact_after (λ ds. ds ≡ cs) (λ ds. []) (λ bytes. Ok (cs, bytes)) (codes "end\n") (exact_done cs))

  pub record TablesOf (w : World) : Type 0 where
    pub sizes : w.sizes ≡ ns
    pub count : length w.copies ≡ n
    pub fixed : TablesFit fixed_lines w.fixed
    pub copies : AllByRecursion (TablesFit mutable_lines) w.copies

  abbrev pub behind_fixed : World → List ℕ
  behind_fixed w = table_lines (names_in fixed_lines) w.fixed ++ copies_end w.copies

  abbrev made : List Table → List (List Table) → World
  made ts cs = record { sizes = ns; fixed = ts; copies = cs }

  abbrev tables_then : List ℕ → Read World
  tables_then bytes = tables_at fixed_lines bytes >>= λ ts. seen (made ts.0) (copies_then_end ts.1)

  exact_tables_then : AllByRecursion IsLine fixed_lines → AllByRecursion IsLine mutable_lines → Exact TablesOf behind_fixed tables_then
  exact_tables_then are_fixed are_mutable =
      exact_pair (TablesFit fixed_lines) (table_lines (names_in fixed_lines)) (tables_at fixed_lines) (λ ts. Copies) (λ ts. copies_end) (λ ts. copies_then_end)
      TablesOf behind_fixed tables_then made (λ bytes. refl)
      (λ ts cs h k. (record { sizes = refl; count = k.0; fixed = h; copies = k.1 }, refl))
      (λ w h. (w.fixed, w.copies, h.fixed, (h.count, h.copies), ap (λ (s : List ℕ). record { sizes = s; fixed = w.fixed; copies = w.copies }) (sym h.sizes)))
      (exact_tables fixed_lines are_fixed) (λ ts h. exact_copies_end are_mutable)

  abbrev to_end : List Table → Read (List (List Table)) → Read World
  to_end ts r = r >>= λ cs. literal_at (codes "end\n") cs.1 >>= λ rest. Ok (made ts cs.0, rest)

  at_end : (ts : List Table) (cs : List (List Table)) (r : Result (List ℕ) ℕ) → seen (made ts) (r >>= λ rest. Ok (cs, rest)) ≡ (r >>= λ rest. Ok (made ts cs, rest))
  at_end ts cs (Ok rest) = refl
  at_end ts cs (Err left) = refl

  by_copies : (ts : List Table) (r : Read (List (List Table))) → seen (made ts) (then_end r) ≡ to_end ts r
  by_copies ts (Ok cs) = at_end ts cs.0 (literal_at (codes "end\n") cs.1)
  by_copies ts (Err left) = refl

  by_tables : (r : Read (List Table)) → (r >>= λ ts. to_end ts.0 (copies_at mutable_lines n 0 ts.1)) ≡ (r >>= λ ts. seen (made ts.0) (copies_then_end ts.1))
  by_tables (Ok ts) = sym (by_copies ts.0 (copies_at mutable_lines n 0 ts.1))
  by_tables (Err left) = refl

  after_fixed : (r : Result (List ℕ) ℕ) → (r >>= λ word. tables_at fixed_lines word >>= λ ts. to_end ts.0 (copies_at mutable_lines n 0 ts.1)) ≡ (r >>= tables_then)
  after_fixed (Ok word) = by_tables (tables_at fixed_lines word)
  after_fixed (Err left) = refl

  pub exact_tables_of : AllByRecursion IsLine fixed_lines → AllByRecursion IsLine mutable_lines → Exact TablesOf (λ w. codes "fixed\n" ++ behind_fixed w) (tables_of ns n fixed_lines mutable_lines)
  unfolding tables_of
  exact_tables_of are_fixed are_mutable =
      exact_words TablesOf TablesOf (λ w. codes "fixed\n" ++ behind_fixed w) (λ w. codes "fixed\n" ++ behind_fixed w) (λ bytes. literal_at (codes "fixed\n") bytes >>= tables_then) (tables_of ns n fixed_lines mutable_lines)
      (λ bytes. after_fixed (literal_at (codes "fixed\n") bytes)) (λ w h. (h, refl)) (λ w h. h)
      (exact_after TablesOf behind_fixed tables_then (codes "fixed\n") (exact_tables_then are_fixed are_mutable))

-- A count of entries may be cut where the bytes are fewer.
use Rattle.std.proofs.Common.{◌≡◌, ℕ, zero, suc, ◌+◌, ◌-◌, ◌^◌, ◌<◌, ◌≤◌, inl, inr, min, Bool, true, false, cond, eqb, List, [], ◌∷◌, ◌++◌, length, map, codes, decimal, Result, Ok, Err, refl, sym, ap, ◌∙◌, length-append, arith}
use Rattle.std.specs.List.{AllByRecursion}
use Rattle.std.proofs.Math.Dec.{eqb-suc-zero}
use Rattle.std.proofs.lemmas.Bool.{cases_lt}
use Rattle.fo_core.specs.declared.world.Table.{Table}
use Rattle.fo_core.specs.declared.world.World.{World}
use Rattle.fo_text.specs.declared.lines.Line.{Line}
use Rattle.fo_text.specs.Reading.{Read, ◌>>=◌, cut, literal_at, number_at, values_at, table_at, tables_at, copy_at, copies_at, tables_of}
use Rattle.fo_text.proofs.Exact.{Exact}
use Rattle.fo_text.proofs.Numbers.{exact_number}
use Rattle.fo_text.proofs.Worlds.{IsLine, bounds_of, exact_table, exact_tables, exact_copy}

abbrev most64 : ℕ
most64 = 2 ^ 64 - 1

pub bind_same : {A B : Type 0} (r : Result A ℕ) (f g : A → Result B ℕ) → ((x : A) → r ≡ Ok x → f x ≡ g x) → (r >>= f) ≡ (r >>= g)
bind_same (Ok x) f g h = h x refl
bind_same (Err left) f g h = refl

pub shorter : {A : Type 0} (Fits : A → Type 0) (text : A → List ℕ) (read : List ℕ → Read A) → Exact Fits text read → (bytes : List ℕ) (x : A × List ℕ) → read bytes ≡ Ok x → length x.1 ≤ length bytes
shorter Fits text read e bytes x h = omega (arith, ap (λ (l : List ℕ). length l) (e.takes bytes x.0 x.1 h).0, length-append (text x.0) x.1)

literal_by : (c : Bool) (text bytes rest : List ℕ) (left : ℕ) → (literal_at text bytes ≡ Ok rest → length rest ≤ length bytes) → cond c (literal_at text bytes) (Err left) ≡ Ok rest → length rest ≤ length bytes + 1
literal_by true text bytes rest left ih h = omega (arith, ih h)
literal_by false text bytes rest left ih h = absurd cc

pub literal_shorter : (text bytes rest : List ℕ) → literal_at text bytes ≡ Ok rest → length rest ≤ length bytes
unfolding literal_at
literal_shorter [] bytes rest h = let e : bytes ≡ rest = cc in omega (arith, ap (λ (l : List ℕ). length l) e)
literal_shorter (t ∷ text) [] rest h = absurd cc
literal_shorter (t ∷ text) (b ∷ bytes) rest h = omega (arith, literal_by (eqb b t) text bytes rest (length bytes + 1) (literal_shorter text bytes rest) h)

-- ---- values

unfoldable step : (n most ending : ℕ) (bytes : List ℕ) → Read (List ℕ)
step n most ending bytes = number_at 0 most ending bytes >>= λ v. values_at n most v.1 >>= λ vs. Ok (v.0 ∷ vs.0, vs.1)

values_after : (m n most : ℕ) (bytes : List ℕ) → most < 2 ^ 64 → length bytes < suc m → length bytes < suc n → ((rest : List ℕ) → length rest < m → length rest < n → values_at m most rest ≡ values_at n most rest) → step m most 32 bytes ≡ step n most 32 bytes
unfolding step
values_after m n most bytes small h k next =
    bind_same (number_at 0 most 32 bytes) (λ v. values_at m most v.1 >>= λ vs. Ok (v.0 ∷ vs.0, vs.1)) (λ v. values_at n most v.1 >>= λ vs. Ok (v.0 ∷ vs.0, vs.1))
    (λ v e.
    let t = (exact_number 0 most 32 (bounds_of most 32 small (omega arith))).takes bytes v.0 v.1 e in
    let less : length v.1 < length bytes = omega (arith, ap (λ (l : List ℕ). length l) t.0, length-append (decimal v.0 ++ 32 ∷ []) v.1, length-append (decimal v.0) (32 ∷ [])) in
    ap (λ (r : Read (List ℕ)). r >>= λ vs. Ok (v.0 ∷ vs.0, vs.1)) (next v.1 (omega arith) (omega arith)))

values_more : (n most : ℕ) (bytes : List ℕ) → values_at (suc (suc n)) most bytes ≡ step (suc n) most 32 bytes
unfolding values_at step
values_more n most bytes = ap (λ (c : Bool). step (suc n) most (cond c 10 32) bytes) (eqb-suc-zero n)

values_many : (m n most : ℕ) (bytes : List ℕ) → most < 2 ^ 64 → length bytes < m → length bytes < n → values_at m most bytes ≡ values_at n most bytes
unfolding values_at number_at
values_many zero n most bytes small h k = absurd (omega arith)
values_many (suc m) zero most bytes small h k = absurd (omega arith)
values_many (suc m) (suc n) most [] small h k = refl
values_many (suc zero) (suc n) most (b ∷ bytes) small h k = absurd (omega arith)
values_many (suc (suc m)) (suc zero) most (b ∷ bytes) small h k = absurd (omega arith)
values_many (suc (suc m)) (suc (suc n)) most (b ∷ bytes) small h k =
    values_more m most (b ∷ bytes) ∙ values_after (suc m) (suc n) most (b ∷ bytes) small h k (λ rest i j. values_many (suc m) (suc n) most rest small i j) ∙ sym (values_more n most (b ∷ bytes))

values_cut : (n most : ℕ) (bytes : List ℕ) → most < 2 ^ 64 → length bytes < most64 → values_at (min n most64) most bytes ≡ values_at n most bytes
values_cut n most bytes small short = elim (cases_lt most64 n) [
  | inl lt ↦ values_many (min n most64) n most bytes small (omega arith) (omega arith)
  | inr le ↦ let e : min n most64 ≡ n = omega arith in ap (λ (m : ℕ). values_at m most bytes) e
]

-- ---- lines, and lists of them

abbrev with_values : List ℕ → Table
with_values vs = record { values = vs }

table_cut : (line : Line) (bytes : List ℕ) → IsLine line → length bytes < most64 → table_at (cut line) bytes ≡ table_at line bytes
unfolding table_at
table_cut line bytes is short =
    bind_same (literal_at line.name bytes) (λ r. literal_at (codes " ") r >>= λ s. values_at (min line.entries most64) line.most s >>= λ vs. Ok (with_values vs.0, vs.1)) (λ r. literal_at (codes " ") r >>= λ s. values_at line.entries line.most s >>= λ vs. Ok (with_values vs.0, vs.1))
    (λ r e. bind_same (literal_at (codes " ") r) (λ s. values_at (min line.entries most64) line.most s >>= λ vs. Ok (with_values vs.0, vs.1)) (λ s. values_at line.entries line.most s >>= λ vs. Ok (with_values vs.0, vs.1))
    (λ s f. ap (λ (v : Read (List ℕ)). v >>= λ vs. Ok (with_values vs.0, vs.1)) (values_cut line.entries line.most s is.1 (omega (arith, literal_shorter line.name bytes r e, literal_shorter (codes " ") r s f)))))

pub tables_cut : (lines : List Line) (bytes : List ℕ) → AllByRecursion IsLine lines → length bytes < most64 → tables_at (map cut lines) bytes ≡ tables_at lines bytes
unfolding tables_at
tables_cut [] bytes are short = refl
tables_cut (line ∷ lines) bytes are short =
    ap (λ (r : Read Table). r >>= λ t. tables_at (map cut lines) t.1 >>= λ ts. Ok (t.0 ∷ ts.0, ts.1)) (table_cut line bytes are.0 short)
    ∙ bind_same (table_at line bytes) (λ t. tables_at (map cut lines) t.1 >>= λ ts. Ok (t.0 ∷ ts.0, ts.1)) (λ t. tables_at lines t.1 >>= λ ts. Ok (t.0 ∷ ts.0, ts.1))
    (λ t e. ap (λ (r : Read (List Table)). r >>= λ ts. Ok (t.0 ∷ ts.0, ts.1)) (tables_cut lines t.1 are.1 (omega (arith, shorter _ _ _ (exact_table line are.0) bytes t e))))

copy_cut : (lines : List Line) (k : ℕ) (bytes : List ℕ) → AllByRecursion IsLine lines → length bytes < most64 → copy_at (map cut lines) k bytes ≡ copy_at lines k bytes
unfolding copy_at
copy_cut lines k bytes are short =
    bind_same (literal_at (codes "copy ") bytes) (λ r. literal_at (decimal k) r >>= λ s. literal_at (codes "\n") s >>= tables_at (map cut lines)) (λ r. literal_at (decimal k) r >>= λ s. literal_at (codes "\n") s >>= tables_at lines)
    (λ r e. bind_same (literal_at (decimal k) r) (λ s. literal_at (codes "\n") s >>= tables_at (map cut lines)) (λ s. literal_at (codes "\n") s >>= tables_at lines)
    (λ s f. bind_same (literal_at (codes "\n") s) (tables_at (map cut lines)) (tables_at lines)
    (λ t g. tables_cut lines t are (omega (arith, literal_shorter (codes "copy ") bytes r e, literal_shorter (decimal k) r s f, literal_shorter (codes "\n") s t g)))))

pub copies_cut : (lines : List Line) (n k : ℕ) (bytes : List ℕ) → AllByRecursion IsLine lines → length bytes < most64 → copies_at (map cut lines) n k bytes ≡ copies_at lines n k bytes
unfolding copies_at
copies_cut lines zero k bytes are short = refl
copies_cut lines (suc n) k bytes are short =
    ap (λ (r : Read (List Table)). r >>= λ c. copies_at (map cut lines) n (k + 1) c.1 >>= λ cs. Ok (c.0 ∷ cs.0, cs.1)) (copy_cut lines k bytes are short)
    ∙ bind_same (copy_at lines k bytes) (λ c. copies_at (map cut lines) n (k + 1) c.1 >>= λ cs. Ok (c.0 ∷ cs.0, cs.1)) (λ c. copies_at lines n (k + 1) c.1 >>= λ cs. Ok (c.0 ∷ cs.0, cs.1))
    (λ c e. ap (λ (r : Read (List (List Table))). r >>= λ cs. Ok (c.0 ∷ cs.0, cs.1)) (copies_cut lines n (k + 1) c.1 are (omega (arith, shorter _ _ _ (exact_copy lines are k) bytes c e))))

module _ (ns : List ℕ) (n : ℕ) (fixed_lines mutable_lines : List Line) (are_fixed : AllByRecursion IsLine fixed_lines) (are_mutable : AllByRecursion IsLine mutable_lines) where
  abbrev to_end : List Table → Read (List (List Table)) → Read World
  to_end ts r = r >>= λ cs. literal_at (codes "end\n") cs.1 >>= λ rest. Ok (record { sizes = ns; fixed = ts; copies = cs.0 }, rest)

  pub tables_of_cut : (bytes : List ℕ) → length bytes < most64 → tables_of ns n (map cut fixed_lines) (map cut mutable_lines) bytes ≡ tables_of ns n fixed_lines mutable_lines bytes
  unfolding tables_of
  tables_of_cut bytes short =
      bind_same (literal_at (codes "fixed\n") bytes) (λ word. tables_at (map cut fixed_lines) word >>= λ ts. to_end ts.0 (copies_at (map cut mutable_lines) n 0 ts.1)) (λ word. tables_at fixed_lines word >>= λ ts. to_end ts.0 (copies_at mutable_lines n 0 ts.1))
      (λ word e.
      let less = literal_shorter (codes "fixed\n") bytes word e in
      ap (λ (r : Read (List Table)). r >>= λ ts. to_end ts.0 (copies_at (map cut mutable_lines) n 0 ts.1)) (tables_cut fixed_lines word are_fixed (omega (arith, less)))
      ∙ bind_same (tables_at fixed_lines word) (λ ts. to_end ts.0 (copies_at (map cut mutable_lines) n 0 ts.1)) (λ ts. to_end ts.0 (copies_at mutable_lines n 0 ts.1))
      (λ ts f. ap (to_end ts.0) (copies_cut mutable_lines n 0 ts.1 are_mutable (omega (arith, less, shorter _ _ _ (exact_tables fixed_lines are_fixed) word ts f)))))

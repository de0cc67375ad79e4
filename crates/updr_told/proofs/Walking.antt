-- Lines and columns, byte by byte.
use Rattle.std.proofs.Common.{◌≡◌, ℕ, ◌+◌, ◌-◌, ◌≤◌, Bool, true, false, eqb, if◌then◌else◌, List, ◌∷◌, drop, refl, sym, ap, ◌∙◌, arith}
use Rattle.updr_told.specs.Places.{feeds, behind_feed}

-- how far the walk over these bytes is
pub record Walked (before : List ℕ) (i line column : ℕ) : Type 0 where
  pub line_is : line + feeds (drop i before) ≡ feeds before + 1
  pub some : 1 ≤ column
  pub column_is : behind_feed (column - 1) (drop i before) ≡ behind_feed 0 before
  pub line_small : line ≤ i + 1
  pub column_small : column ≤ i + 1

feeds_more : (b : ℕ) (bs : List ℕ) (c : Bool) → eqb b 10 ≡ c → feeds (b ∷ bs) ≡ (if c then feeds bs + 1 else feeds bs)
feeds_more b bs c is = rw is refl

behind_more : (n b : ℕ) (bs : List ℕ) (c : Bool) → eqb b 10 ≡ c → behind_feed n (b ∷ bs) ≡ (if c then behind_feed 0 bs else behind_feed (n + 1) bs)
behind_more n b bs c is = rw is refl

module _ (before : List ℕ) (i b line column : ℕ) (at : drop i before ≡ b ∷ drop (i + 1) before) (w : Walked before i line column) where
  pub over_feed : eqb b 10 ≡ true → Walked before (i + 1) (line + 1) 1
  over_feed is =
      let f = ap feeds at ∙ feeds_more b (drop (i + 1) before) true is in
      record {
        line_is = omega (arith, w.line_is, f);
        some = omega arith;
        column_is = sym (ap (behind_feed (column - 1)) at ∙ behind_more (column - 1) b (drop (i + 1) before) true is) ∙ w.column_is;
        line_small = omega (arith, w.line_small);
        column_small = omega arith;
      }

  pub over_other : eqb b 10 ≡ false → Walked before (i + 1) line (column + 1)
  over_other is =
      let f = ap feeds at ∙ feeds_more b (drop (i + 1) before) false is in
      let k : column - 1 + 1 ≡ column + 1 - 1 = omega (arith, w.some) in
      record {
        line_is = omega (arith, w.line_is, f);
        some = omega arith;
        column_is = ap (λ (n : ℕ). behind_feed n (drop (i + 1) before)) (sym k) ∙ sym (ap (behind_feed (column - 1)) at ∙ behind_more (column - 1) b (drop (i + 1) before) false is) ∙ w.column_is;
        line_small = omega (arith, w.line_small);
        column_small = omega (arith, w.column_small);
      }

pub begun : (before : List ℕ) → Walked before 0 1 1
begun before = record { line_is = omega arith; some = omega arith; column_is = refl; line_small = omega arith; column_small = omega arith }

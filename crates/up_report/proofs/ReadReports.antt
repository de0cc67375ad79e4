-- Reports are read exactly.
use Rattle.std.proofs.Common.{◌≡◌, ℕ, ◌+◌, ◌-◌, ◌^◌, ◌<◌, ◌≤◌, List, [], ◌∷◌, ◌++◌, length, take, drop, codes, Ok, Err, inl, inr, refl, sym, ap, subst, ◌∙◌, append_assoc, length-append, arith}
use Rattle.std.proofs.lemmas.List.{append-nil, take_at, take-append-drop, take-take}
use Rattle.std.proofs.lemmas.Bool.{cases_lt}
use Rattle.fo_core.specs.declared.names.Names.{Names}
use Rattle.fo_core.specs.declared.signature.Sig.{Sig}
use Rattle.fo_core.specs.Sorted.{IsSig}
use Rattle.fo_text.specs.Parts.{IsBetween, number_text}
use Rattle.fo_text.specs.Reading.{Read, ◌>>=◌, literal_at, number_at}
use Rattle.fo_text.proofs.Exact.{ok_is, Exact, exact_done, exact_then, exact_after, exact_pair}
use Rattle.fo_text.proofs.Numbers.{exact_number}
use Rattle.fo_text.proofs.Stopping.{stops_before}
use Rattle.up_claims.specs.declared.report.Numbers.{Numbers}
use Rattle.up_claims.specs.declared.report.Report.{Report}
use Rattle.up_claims.specs.declared.verdict.Verdict.{Verdict}
use Rattle.up_report.specs.ClauseTexts.{CanName}
use Rattle.up_report.specs.Ranges.{HasVerdict, AreNumbers, HasReport}
use Rattle.up_report.specs.Reading.{verdict_at, numbers_at, report_at}
use Rattle.up_report.specs.Reports.{IsReport, BeginsReport, StopsAt}
use Rattle.up_report.specs.Texts.{verdict_word, told_text, report_text}
use Rattle.up_report.proofs.ReadVerdicts.{to_numbers, exact_verdict}

-- ---- the last lines

abbrev last : ℕ
last = 2 ^ 64 - 1

abbrev numbers : ℕ → ℕ → ℕ → Numbers
numbers p f c = record { productive = p; frontier = f; clauses = c }

exact_64 : (ending : ℕ) → ending < 48 → Exact (IsBetween 0 last) (number_text ending) (number_at 0 last ending)
exact_64 ending low = exact_number 0 last ending (record { range = omega arith; small = omega arith; ends = low })

-- what follows the second number
abbrev clauses_words : Numbers → List ℕ
clauses_words n = number_text 10 n.clauses ++ codes "done\n"

record ClausesFit (p f : ℕ) (n : Numbers) : Type 0 where
  pub productive : n.productive ≡ p
  pub frontier : n.frontier ≡ f
  pub clauses : IsBetween 0 last n.clauses

abbrev clauses_then : ℕ → ℕ → List ℕ → Read Numbers
clauses_then p f bytes = number_at 0 last 10 bytes >>= λ c. literal_at (codes "done\n") c.1 >>= λ rest. Ok (numbers p f c.0, rest)

exact_clauses_then : (p f : ℕ) → Exact (ClausesFit p f) clauses_words (clauses_then p f)
exact_clauses_then p f =
    exact_then (IsBetween 0 last) (number_text 10) (number_at 0 last 10) (λ c n. n ≡ numbers p f c) (λ c n. codes "done\n" ++ []) (λ c bytes. literal_at (codes "done\n") bytes >>= λ rest. Ok (numbers p f c, rest))
    (ClausesFit p f) clauses_words (clauses_then p f) (λ bytes. refl)
    (λ c n h e. (subst (ClausesFit p f) (sym e) (record { productive = refl; frontier = refl; clauses = h }), ap clauses_words e))
    (λ n s. (n.clauses, s.clauses, ap (λ (m : ℕ). numbers m n.frontier n.clauses) s.productive ∙ ap (λ (m : ℕ). numbers p m n.clauses) s.frontier))
    (exact_64 10 (omega arith)) (λ c h. exact_after (λ n. n ≡ numbers p f c) (λ n. []) (λ bytes. Ok (numbers p f c, bytes)) (codes "done\n") (exact_done (numbers p f c)))

-- what follows the first number
abbrev frontier_words : Numbers → List ℕ
frontier_words n = number_text 32 n.frontier ++ clauses_words n

record FrontierFits (p : ℕ) (n : Numbers) : Type 0 where
  pub productive : n.productive ≡ p
  pub frontier : IsBetween 0 last n.frontier
  pub clauses : IsBetween 0 last n.clauses

abbrev frontier_then : ℕ → List ℕ → Read Numbers
frontier_then p bytes = number_at 0 last 32 bytes >>= λ f. clauses_then p f.0 f.1

exact_frontier_then : (p : ℕ) → Exact (FrontierFits p) frontier_words (frontier_then p)
exact_frontier_then p =
    exact_then (IsBetween 0 last) (number_text 32) (number_at 0 last 32) (ClausesFit p) (λ f. clauses_words) (clauses_then p)
    (FrontierFits p) frontier_words (frontier_then p) (λ bytes. refl)
    (λ f n h k. (record { productive = k.productive; frontier = subst (IsBetween 0 last) (sym k.frontier) h; clauses = k.clauses }, ap (λ (m : ℕ). number_text 32 m ++ clauses_words n) k.frontier))
    (λ n s. (n.frontier, s.frontier, record { productive = s.productive; frontier = refl; clauses = s.clauses }))
    (exact_64 32 (omega arith)) (λ f h. exact_clauses_then p f)

-- what follows their word
abbrev all_words : Numbers → List ℕ
all_words n = number_text 32 n.productive ++ frontier_words n

exact_numbers : Exact AreNumbers all_words numbers_at
unfolding numbers_at
exact_numbers =
    exact_then (IsBetween 0 last) (number_text 32) (number_at 0 last 32) FrontierFits (λ p. frontier_words) frontier_then
    AreNumbers all_words numbers_at (λ bytes. refl)
    (λ p n h k. (record { productive = subst (λ (m : ℕ). m < 2 ^ 64) (sym k.productive) (omega (arith, h.1)); frontier = omega (arith, k.frontier.1); clauses = omega (arith, k.clauses.1) }, ap (λ (m : ℕ). number_text 32 m ++ frontier_words n) k.productive))
    (λ n s. (n.productive, (omega arith, omega (arith, s.productive)), record { productive = refl; frontier = (omega arith, omega (arith, s.frontier)); clauses = (omega arith, omega (arith, s.clauses)) }))
    (exact_64 32 (omega arith)) (λ p h. exact_frontier_then p)

-- ---- the whole

module _ (sig : Sig) (names : Names) (is_sig : IsSig sig) (can : CanName sig names) where
  abbrev front : Verdict → List ℕ
  front v = to_numbers sig names is_sig can v

  joined_words : (r : Report) → report_text sig names r ≡ front r.verdict ++ all_words r.numbers
  joined_words r =
      let first = codes "report 1\nverdict " in
      let word = verdict_word r.verdict in
      let told = told_text sig names r.verdict in
      let name = codes "numbers " in
      let rest = all_words r.numbers in
      sym (append_assoc first (word ++ (told ++ name)) rest
      ∙ ap (λ (l : List ℕ). first ++ l) (append_assoc word (told ++ name) rest
      ∙ ap (λ (l : List ℕ). word ++ l) (append_assoc told name rest)))

  pub exact_report : Exact (HasReport sig) (report_text sig names) (report_at sig names)
  unfolding report_at
  exact_report =
      exact_pair (HasVerdict sig) front (verdict_at sig names) (λ v. AreNumbers) (λ v. all_words) (λ v. numbers_at)
      (HasReport sig) (report_text sig names) (report_at sig names) (λ v n. record { verdict = v; numbers = n })
      (λ bytes. refl) (λ v n h k. (record { verdict_is = h; numbers_are = k }, joined_words (record { verdict = v; numbers = n })))
      (λ r h. (r.verdict, r.numbers, h.verdict_is, h.numbers_are, refl))
      (exact_verdict sig names is_sig can) (λ v h. exact_numbers)

  -- ---- what is read says all

  pub reads_report : (bytes : List ℕ) (r : Report) → IsReport sig names bytes r → report_at sig names bytes ≡ Ok (r, [])
  reads_report bytes r h = ap (report_at sig names) (h.text ∙ sym (append-nil (report_text sig names r))) ∙ exact_report.again r [] h.ranged

  pub is_report : (bytes : List ℕ) (r : Report) → report_at sig names bytes ≡ Ok (r, []) → IsReport sig names bytes r
  is_report bytes r e = let t = exact_report.takes bytes r [] e in record { ranged = t.1; text = t.0 ∙ append-nil (report_text sig names r) }

  pub same_report : (bytes : List ℕ) (r s : Report) (rest : List ℕ) → report_at sig names bytes ≡ Ok (r, rest) → IsReport sig names bytes s → r ≡ s
  same_report bytes r s rest e h = ap (λ (p : Report × List ℕ). p.0) (ok_is (r, rest) (s, []) (sym e ∙ reads_report bytes s h))

  -- where something follows a report, the bytes stop after it
  pub record More (bytes rest : List ℕ) : Type 0 where
    pub few : length rest ≤ length bytes
    pub stops : StopsAt sig names bytes (length bytes - length rest)

  never_more : (bytes : List ℕ) (r : Report) (b : ℕ) (rest : List ℕ) → report_at sig names bytes ≡ Ok (r, b ∷ rest) → (s : Report) → ¬ IsReport sig names bytes s
  never_more bytes r b rest e s = λ h.
      let one : Report × List ℕ = (r, b ∷ rest) in
      let other : Report × List ℕ = (s, []) in
      let same : one ≡ other = ok_is one other (sym e ∙ reads_report bytes s h) in
      let longer : length (b ∷ rest) ≡ 0 = ap (λ (p : Report × List ℕ). length p.1) same in
      omega (arith, longer)

  no_longer : (r s : Report) (b : ℕ) (tail : List ℕ) → HasReport sig r → HasReport sig s → report_text sig names s ≡ report_text sig names r ++ b ∷ tail → ⊥
  no_longer r s b tail h k e =
      never_more (report_text sig names s) r b tail (ap (report_at sig names) e ∙ exact_report.again r (b ∷ tail) h) s (record { ranged = k; text = refl })

  is_more : (bytes : List ℕ) (r : Report) (b : ℕ) (rest : List ℕ) → report_at sig names bytes ≡ Ok (r, b ∷ rest) → More bytes (b ∷ rest)
  is_more bytes r b rest e =
      let t = exact_report.takes bytes r (b ∷ rest) e in
      let text = report_text sig names r in
      let len : length bytes ≡ length text + length (b ∷ rest) = ap (λ (l : List ℕ). length l) t.0 ∙ length-append text (b ∷ rest) in
      let place : length bytes - length (b ∷ rest) ≡ length text = omega arith in
      let part : take (length text) bytes ≡ text = ap (take (length text)) t.0 ∙ take_at text (b ∷ rest) (length text) refl in
      let long : length text + 1 ≡ length (text ++ b ∷ []) = omega (arith, length-append text (b ∷ [])) in
      let longer : take (length text + 1) bytes ≡ text ++ b ∷ [] = ap (take (length text + 1)) (t.0 ∙ sym (append_assoc text (b ∷ []) rest)) ∙ take_at (text ++ b ∷ []) rest (length text + 1) (sym long) in
      record {
        few = omega arith;
        stops = subst (λ (p : ℕ). StopsAt sig names bytes p) (sym place) (record {
          none = never_more bytes r b rest e;
          within = omega arith;
          begins = (r, t.1, ([], sym (append-nil text) ∙ ap (λ (l : List ℕ). l ++ []) (sym part)));
          stops = λ lt g. no_longer r g.0 b g.2.0 t.1 g.1 (g.2.1 ∙ ap (λ (l : List ℕ). l ++ g.2.0) longer ∙ append_assoc text (b ∷ []) g.2.0);
        });
      }

  pub more_after : (bytes : List ℕ) (r : Report) (rest : List ℕ) → report_at sig names bytes ≡ Ok (r, rest) → ¬ (length rest ≡ 0) → More bytes rest
  more_after bytes r [] e some = absurd (some refl)
  more_after bytes r (b ∷ rest) e some = is_more bytes r b rest e

  pub ends_there : (bytes : List ℕ) (r : Report) (rest : List ℕ) → report_at sig names bytes ≡ Ok (r, rest) → length rest ≡ 0 → IsReport sig names bytes r
  ends_there bytes r [] e none = is_report bytes r e
  ends_there bytes r (b ∷ rest) e none = absurd (omega (arith, none))

  pub record Stopped (bytes : List ℕ) (left : ℕ) : Type 0 where
    pub few : left ≤ length bytes
    pub stops : StopsAt sig names bytes (length bytes - left)

  pub is_stopped : (bytes : List ℕ) (left : ℕ) → report_at sig names bytes ≡ Err left → Stopped bytes left
  is_stopped bytes left e =
      let s = stops_before (HasReport sig) (report_text sig names) (report_at sig names) exact_report bytes left e in
      record {
        few = s.within;
        stops = record {
          none = λ r h. let k = reads_report bytes r h in absurd (cc (k, e));
          within = omega arith;
          begins = s.begins;
          stops = λ lt. s.stops (omega (arith, lt));
        };
      }

  -- ---- laws

  pub one_report : (bytes : List ℕ) (r s : Report) → IsReport sig names bytes r → IsReport sig names bytes s → r ≡ s
  one_report bytes r s h k = same_report bytes r s [] (reads_report bytes r h) k

  pub no_more : (bytes more : List ℕ) (r s : Report) → IsReport sig names bytes r → IsReport sig names (bytes ++ more) s → more ≡ []
  no_more bytes more r s h k =
      let first : report_at sig names (bytes ++ more) ≡ Ok (r, more) = ap (λ (l : List ℕ). report_at sig names (l ++ more)) h.text ∙ exact_report.again r more h.ranged in
      ap (λ (p : Report × List ℕ). p.1) (ok_is (r, more) (s, []) (sym first ∙ reads_report (bytes ++ more) s k))

-- ---- one place

begins_before : (sig : Sig) (names : Names) (bytes : List ℕ) (m n : ℕ) → m ≤ n → BeginsReport sig names (take n bytes) → BeginsReport sig names (take m bytes)
begins_before sig names bytes m n h b =
    let parts : take n bytes ≡ take m bytes ++ drop m (take n bytes) = sym (take-append-drop m (take n bytes)) ∙ ap (λ (l : List ℕ). l ++ drop m (take n bytes)) (take-take m n bytes h) in
    (b.0, b.1, (drop m (take n bytes) ++ b.2.0, b.2.1 ∙ ap (λ (l : List ℕ). l ++ b.2.0) parts ∙ append_assoc (take m bytes) (drop m (take n bytes)) b.2.0))

no_later : (sig : Sig) (names : Names) (bytes : List ℕ) (p q : ℕ) → StopsAt sig names bytes p → StopsAt sig names bytes q → p < q → ⊥
no_later sig names bytes p q h k lt = h.stops (omega (arith, k.within)) (begins_before sig names bytes (p + 1) q (omega arith) k.begins)

pub one_place : (sig : Sig) (names : Names) (bytes : List ℕ) (p q : ℕ) → StopsAt sig names bytes p → StopsAt sig names bytes q → p ≡ q
one_place sig names bytes p q h k = elim (cases_lt p q) [
  | inl lt ↦ absurd (no_later sig names bytes p q h k lt)
  | inr ge ↦ elim (cases_lt q p) [
    | inl lt ↦ absurd (no_later sig names bytes q p k h lt)
    | inr le ↦ omega arith
  ]
]

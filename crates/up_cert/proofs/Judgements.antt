-- What an answer of judging says of the verdict, and that there is one answer.
use Rattle.std.proofs.Common.{◌≡◌, ℕ, List, [], ◌∷◌, ◌++◌, refl, sym, ap, subst, ◌∙◌, arith}
use Rattle.std.specs.List.{All}
use Rattle.std.proofs.lemmas.List.Elements.{All-head, All-tail}
use Rattle.fo_core.specs.declared.formula.Formula.{Formula}
use Rattle.fo_core.specs.declared.query.Query.{Query}
use Rattle.fo_core.specs.declared.signature.Sig.{Sig}
use Rattle.fo_core.specs.declared.system.System.{System}
use Rattle.fo_core.specs.Finds.{HasNoWorld, IsLight}
use Rattle.fo_core.specs.QueryWeight.{query_weight}
use Rattle.up_claims.specs.declared.verdict.Link.{Link}
use Rattle.up_claims.specs.declared.verdict.Verdict.{Verdict}
use Rattle.up_claims.specs.declared.verdict.Verdict.TheVariants as verdict
use Rattle.up_claims.specs.Inductive.{IsUniversalInvariant}
use Rattle.up_claims.specs.Verdicts.{Holds}
use Rattle.up_claims.proofs.ChainLemmas.{chain-refutes}
use Rattle.up_cert.specs.declared.judged.Judged.{Judged}
use Rattle.up_cert.specs.declared.judged.Judged.TheVariants as judged
use Rattle.up_cert.specs.declared.spot.Spot.{Spot}
use Rattle.up_cert.specs.Asked.{IsVerdict}
use Rattle.up_cert.specs.Judging.{ComesTo, FindsWorld, FindsHeavy, IsRefuted, Clears, IsSpotReached, FailsFirst, IsOverFirst, IsFound, IsJudged}
use Rattle.up_cert.specs.VerdictSpots.{Passes, queries_at, spots_of}
use Rattle.up_cert.proofs.ChainPasses.{chain-there}
use Rattle.up_cert.proofs.PassLemmas.{passes-there, passes-back}

-- ---- cuts of lists

head_is : {X : Type 0} (x y : X) (xs ys : List X) → x ∷ xs ≡ y ∷ ys → (x ≡ y) × (xs ≡ ys)
head_is x y xs ys is = (cc, cc)

middle : {X : Type 0} (P : X → Type 0) (before : List X) (x : X) (after : List X) → All P (before ++ x ∷ after) → P x
middle P [] x after h = All-head P x after h
middle P (b ∷ before) x after h = middle P before x after (All-tail P b (before ++ x ∷ after) h)

-- two cuts at elements of which it fails, before which it holds of all, are one
one_cut : {X : Type 0} (P : X → Type 0) (b a : List X) (x : X) (b' a' : List X) (y : X) → b ++ x ∷ a ≡ b' ++ y ∷ a' → All P b → All P b' → ¬ P x → ¬ P y → x ≡ y
one_cut P [] a x [] a' y is h k nx ny = (head_is x y a a' is).0
one_cut P [] a x (c ∷ b') a' y is h k nx ny = absurd (nx (subst P (sym (head_is x c a (b' ++ y ∷ a') is).0) (All-head P c b' k)))
one_cut P (c ∷ b) a x [] a' y is h k nx ny = absurd (ny (subst P (head_is c y (b ++ x ∷ a) a' is).0 (All-head P c b h)))
one_cut P (c ∷ b) a x (d ∷ b') a' y is h k nx ny = one_cut P b a x b' a' y (head_is c d (b ++ x ∷ a) (b' ++ y ∷ a') is).1 (All-tail P c b h) (All-tail P d b' k) nx ny

-- ---- queries, asked in their order

module _ (sig : Sig) (limit : ℕ) where
  -- the query doesn't end what is asked
  record GoesBy (q : Query) : Type 0 where
    none : HasNoWorld sig q
    light : IsLight sig limit q

  goes-by : (qs : List Query) → All (HasNoWorld sig) qs → All (IsLight sig limit) qs → All GoesBy qs
  goes-by qs none light k d lt = record { none = none k d lt; light = light k d lt }

  one-query : (qs : List Query) (p q : Query) → ComesTo sig limit qs p → ComesTo sig limit qs q → ¬ GoesBy p → ¬ GoesBy q → p ≡ q
  one-query qs p q r s np nq =
      one_cut GoesBy r.before r.after p s.before s.after q (sym r.parts ∙ s.parts) (goes-by r.before r.none r.light) (goes-by s.before s.none s.light) np nq

  world-stops : (qs : List Query) (h : FindsWorld sig limit qs) → ¬ GoesBy h.query
  world-stops qs h by = by.none h.found.0 h.found.1

  heavy-stops : (qs : List Query) (weight : ℕ) (h : FindsHeavy sig limit qs weight) → ¬ GoesBy h.query
  heavy-stops qs weight h by = let light = by.light in let above = h.above in let weighs = h.weighs in omega (arith, light, above, weighs)

  one-weight : (qs : List Query) (m n : ℕ) → FindsHeavy sig limit qs m → FindsHeavy sig limit qs n → m ≡ n
  one-weight qs m n g h =
      g.weighs ∙ ap (query_weight sig) (one-query qs g.query h.query g.reached h.reached (heavy-stops qs m g) (heavy-stops qs n h)) ∙ sym h.weighs

  world-or-heavy : (qs : List Query) (weight : ℕ) → FindsWorld sig limit qs → FindsHeavy sig limit qs weight → ⊥
  world-or-heavy qs weight g h =
      let same = one-query qs g.query h.query g.reached h.reached (world-stops qs g) (heavy-stops qs weight h) in
      let light = subst (IsLight sig limit) same g.light in
      let above = h.above in
      let weighs = h.weighs in
      omega (arith, light, above, weighs)

  refuted-or-heavy : (qs : List Query) (weight : ℕ) → IsRefuted sig limit qs → FindsHeavy sig limit qs weight → ⊥
  refuted-or-heavy [] weight g h = no-query h.reached.before h.reached.parts
    where
      no-query : (before : List Query) → [] ≡ before ++ h.query ∷ h.reached.after → ⊥
      no-query [] is = absurd cc
      no-query (q ∷ before) is = absurd cc
  refuted-or-heavy (q ∷ qs) weight g h = world-or-heavy (q ∷ qs) weight g h

  heavy-somewhere : (qs : List Query) (weight : ℕ) → FindsHeavy sig limit qs weight → ¬ All (IsLight sig limit) qs
  heavy-somewhere qs weight h all =
      let light = middle (IsLight sig limit) h.reached.before h.query h.reached.after (subst (All (IsLight sig limit)) h.reached.parts all) in
      let above = h.above in
      let weighs = h.weighs in
      omega (arith, light, above, weighs)

-- ---- spots, tried in their order

module _ (sys : System) (limit : ℕ) (told : Verdict) (spots : List Spot) where
  abbrev C : Spot → Type 0
  C = Clears sys limit told

  one-spot : (s t : Spot) → IsSpotReached sys limit told spots s → IsSpotReached sys limit told spots t → ¬ C s → ¬ C t → s ≡ t
  one-spot s t r u ns nt = one_cut C r.before r.after s u.before u.after t (sym r.parts ∙ u.parts) r.cleared u.cleared ns nt

  wrong-stops : (s : Spot) → FailsFirst sys limit told spots s → ¬ C s
  wrong-stops s h c = h.denied.not_so c.so

  over-stops : (weight : ℕ) (h : IsOverFirst sys limit told spots weight) → ¬ C h.spot
  over-stops weight h c = heavy-somewhere sys.sig limit (queries_at sys told h.spot) weight h.heavy c.light

  stops-somewhere : (s : Spot) → IsSpotReached sys limit told spots s → ¬ C s → ¬ All C spots
  stops-somewhere s r n all = n (middle C r.before s r.after (subst (All C) r.parts all))

  wrong-or-over : (s : Spot) (weight : ℕ) → FailsFirst sys limit told spots s → IsOverFirst sys limit told spots weight → ⊥
  wrong-or-over s weight g h =
      let same = one-spot s h.spot g.reached h.reached (wrong-stops s g) (over-stops weight h) in
      refuted-or-heavy sys.sig limit (queries_at sys told h.spot) weight
      (subst (λ (t : Spot). IsRefuted sys.sig limit (queries_at sys told t)) same g.denied.refuted) h.heavy

  one-over : (m n : ℕ) → IsOverFirst sys limit told spots m → IsOverFirst sys limit told spots n → m ≡ n
  one-over m n g h =
      let same = one-spot g.spot h.spot g.reached h.reached (over-stops m g) (over-stops n h) in
      one-weight sys.sig limit (queries_at sys told h.spot) m n
      (subst (λ (t : Spot). FindsHeavy sys.sig limit (queries_at sys told t) m) same g.heavy) h.heavy

  one-found : (a b : Judged) → IsFound sys limit told spots a → IsFound sys limit told spots b → a ≡ b
  one-found judged.Holds judged.Holds g h = refl
  one-found judged.Holds (judged.Wrong t) g h = absurd (stops-somewhere t h.reached (wrong-stops t h) g)
  one-found judged.Holds (judged.Over n) g h = absurd (stops-somewhere h.spot h.reached (over-stops n h) g)
  one-found judged.Holds judged.Nothing g h = absurd h
  one-found (judged.Wrong s) judged.Holds g h = absurd (stops-somewhere s g.reached (wrong-stops s g) h)
  one-found (judged.Wrong s) (judged.Wrong t) g h = ap judged.Wrong (one-spot s t g.reached h.reached (wrong-stops s g) (wrong-stops t h))
  one-found (judged.Wrong s) (judged.Over n) g h = absurd (wrong-or-over s n g h)
  one-found (judged.Wrong s) judged.Nothing g h = absurd h
  one-found (judged.Over m) judged.Holds g h = absurd (stops-somewhere g.spot g.reached (over-stops m g) h)
  one-found (judged.Over m) (judged.Wrong t) g h = absurd (wrong-or-over t m h g)
  one-found (judged.Over m) (judged.Over n) g h = ap judged.Over (one-over m n g h)
  one-found (judged.Over m) judged.Nothing g h = absurd h
  one-found judged.Nothing b g h = absurd g

  -- where all spots are found to pass they do, and where one is found to fail some don't
  found-pass : All C spots → All (Passes sys told) spots
  found-pass all k d lt = (all k d lt).so

  found-fail : (s : Spot) → FailsFirst sys limit told spots s → ¬ All (Passes sys told) spots
  found-fail s h all = h.denied.not_so (middle (Passes sys told) h.reached.before s h.reached.after (subst (All (Passes sys told)) h.reached.parts all))

module _ (sys : System) (limit : ℕ) where
  pub one-judgement : (told : Verdict) (a b : Judged) → IsJudged sys limit told a → IsJudged sys limit told b → a ≡ b
  one-judgement (verdict.Safe frame clauses) a b g h = one-found sys limit (verdict.Safe frame clauses) (spots_of (verdict.Safe frame clauses)) a b g h
  one-judgement (verdict.Unsafe w) a b g h = one-found sys limit (verdict.Unsafe w) (spots_of (verdict.Unsafe w)) a b g h
  one-judgement (verdict.NoUniversal links) a b g h = one-found sys limit (verdict.NoUniversal links) (spots_of (verdict.NoUniversal links)) a b g h
  one-judgement (verdict.Bounded last clauses leaves) a b g h = one-found sys limit (verdict.Bounded last clauses leaves) (spots_of (verdict.Bounded last clauses leaves)) a b g h
  one-judgement (verdict.Spent steps) a b g h = g ∙ sym h
  one-judgement (verdict.Over kind weight) a b g h = g ∙ sym h
  one-judgement (verdict.NoRun k) a b g h = one-found sys limit (verdict.NoRun k) (spots_of (verdict.NoRun k)) a b g h

  judged-passes : (told : Verdict) → IsJudged sys limit told judged.Holds → All (Passes sys told) (spots_of told)
  judged-passes (verdict.Safe frame clauses) h = found-pass sys limit (verdict.Safe frame clauses) (spots_of (verdict.Safe frame clauses)) h
  judged-passes (verdict.Unsafe w) h = found-pass sys limit (verdict.Unsafe w) (spots_of (verdict.Unsafe w)) h
  judged-passes (verdict.NoUniversal links) h = found-pass sys limit (verdict.NoUniversal links) (spots_of (verdict.NoUniversal links)) h
  judged-passes (verdict.Bounded last clauses leaves) h = found-pass sys limit (verdict.Bounded last clauses leaves) (spots_of (verdict.Bounded last clauses leaves)) h
  judged-passes (verdict.Spent steps) h = absurd cc
  judged-passes (verdict.Over kind weight) h = absurd cc
  judged-passes (verdict.NoRun k) h = found-pass sys limit (verdict.NoRun k) (spots_of (verdict.NoRun k)) h

  judged-fails : (told : Verdict) (s : Spot) → IsJudged sys limit told (judged.Wrong s) → ¬ All (Passes sys told) (spots_of told)
  judged-fails (verdict.Safe frame clauses) s h = found-fail sys limit (verdict.Safe frame clauses) (spots_of (verdict.Safe frame clauses)) s h
  judged-fails (verdict.Unsafe w) s h = found-fail sys limit (verdict.Unsafe w) (spots_of (verdict.Unsafe w)) s h
  judged-fails (verdict.NoUniversal links) s h = found-fail sys limit (verdict.NoUniversal links) (spots_of (verdict.NoUniversal links)) s h
  judged-fails (verdict.Bounded last clauses leaves) s h = found-fail sys limit (verdict.Bounded last clauses leaves) (spots_of (verdict.Bounded last clauses leaves)) s h
  judged-fails (verdict.Spent steps) s h = absurd cc
  judged-fails (verdict.Over kind weight) s h = absurd cc
  judged-fails (verdict.NoRun k) s h = found-fail sys limit (verdict.NoRun k) (spots_of (verdict.NoRun k)) s h

  pub judged-holds : (told : Verdict) → IsVerdict sys.sig told → IsJudged sys limit told judged.Holds → Holds sys told
  judged-holds told over h = passes-there sys told over (judged-passes told h)

  pub judged-wrong : (told : Verdict) (s : Spot) → IsJudged sys limit told (judged.Wrong s) → ¬ Holds sys told
  judged-wrong told s h holds = judged-fails told s h (passes-back sys told holds)

  -- a chain that is accepted leaves no universal invariant
  pub accepted-refutes : (links : List Link) (fs : List Formula) → IsJudged sys limit (verdict.NoUniversal links) judged.Holds → ¬ IsUniversalInvariant sys fs
  accepted-refutes links fs h known =
      chain-refutes sys fs known links (chain-there sys links (judged-passes (verdict.NoUniversal links) h)).0

-- How one thing comes out that is decided by a query, or by one after the other.
use Rattle.std.proofs.Common.{◌≡◌, ◌↔◌, ℕ, zero, suc, ◌+◌, ◌<◌, ◌≤◌, ◌⊎◌, inl, inr, List, [], ◌∷◌, ◌++◌, Result, Ok, Err, IfOk, refl, sym, ap, subst, ◌∙◌, append_assoc, arith, zero-add, below_more}
use Rattle.std.specs.List.{All, range_with_len}
use Rattle.std.specs.declared.alloc.AllocError.{AllocError}
use Rattle.std.proofs.lemmas.Bool.{cases_lt}
use Rattle.std.proofs.lemmas.List.Elements.{All-nil, All-cons, All-push}
use Rattle.std.proofs.lemmas.List.FromFn.{map-range_with_len_more}
use Rattle.fo_core.specs.declared.formula.Formula.{Formula}
use Rattle.fo_core.specs.declared.query.Query.{Query}
use Rattle.fo_core.specs.declared.signature.Sig.{Sig}
use Rattle.fo_core.specs.declared.system.System.{System}
use Rattle.fo_core.specs.Finds.{HasNoWorld, IsLight}
use Rattle.fo_core.proofs.ListFacts.{all_mapped, all_range}
use Rattle.up_claims.specs.Claims.{unroll_claims}
use Rattle.up_claims.specs.RunQueries.{run_query, run_queries, HasNoRunOf}
use Rattle.up_claims.specs.Verdicts.{HasNoRunWithin}
use Rattle.up_claims.proofs.UnrollLemmas.{meaning-unroll}
use Rattle.up_cert.specs.declared.answer.Answer.{Answer}
use Rattle.up_cert.specs.declared.answer.Answer.TheVariants as answer
use Rattle.up_cert.specs.Judging.{ComesTo, FindsWorld, IsRefuted}
use Rattle.up_cert.specs.Trying.{IsTried, IsAnswered}

module _ (sig : Sig) (limit : ℕ) where
  -- ---- one query

  comes-first : (q : Query) (qs : List Query) → ComesTo sig limit (q ∷ qs) q
  comes-first q qs = record { before = []; after = qs; parts = refl; none = All-nil (HasNoWorld sig); light = All-nil (IsLight sig limit) }

  pub tried-one : (A : Type 0) (q : Query) (a : Answer) → IsAnswered sig limit A q a → IsTried sig limit A (q ∷ []) a
  tried-one A q answer.Passes h = record { so = h.1; light = All-cons (IsLight sig limit) q [] h.0 (All-nil (IsLight sig limit)) }
  tried-one A q answer.Fails h = record {
    not_so = h.2;
    refuted = record { query = q; reached = comes-first q []; light = h.0; found = h.1 };
  }
  tried-one A q (answer.Over weight) h = record { query = q; reached = comes-first q []; weighs = h.0; above = h.1 }

  -- what is answered of one fact is of one that is the same
  module _ (A B : Type 0) (same : A ↔ B) (q : Query) where
    answered-as : (a : Answer) → IsAnswered sig limit A q a → IsAnswered sig limit B q a
    answered-as answer.Passes h = (h.0, same.0 h.1)
    answered-as answer.Fails h = (h.0, h.1, λ b. h.2 (same.1 b))
    answered-as (answer.Over weight) h = h

    -- the same of what a call returns
    pub answered-ok : (r : Result Answer AllocError) → IfOk r (IsAnswered sig limit A q) → IfOk r (IsAnswered sig limit B q)
    answered-ok (Ok a) h = answered-as a h
    answered-ok (Err e) h = tt

    pub tried-ok : (r : Result Answer AllocError) → IfOk r (IsAnswered sig limit A q) → IfOk r (IsTried sig limit B (q ∷ []))
    tried-ok (Ok a) h = tried-one B q a (answered-as a h)
    tried-ok (Err e) h = tt

  -- ---- queries one after the other

  comes-left : (xs ys : List Query) (q : Query) → ComesTo sig limit xs q → ComesTo sig limit (xs ++ ys) q
  comes-left xs ys q r = record {
    before = r.before;
    after = r.after ++ ys;
    parts = ap (λ (l : List Query). l ++ ys) r.parts ∙ append_assoc r.before (q ∷ r.after) ys;
    none = r.none;
    light = r.light;
  }

  comes-last : (xs : List Query) (q : Query) → All (HasNoWorld sig) xs → All (IsLight sig limit) xs → ComesTo sig limit (xs ++ q ∷ []) q
  comes-last xs q none light = record { before = xs; after = []; parts = refl; none = none; light = light }

  refuted-where : (xs : List Query) → FindsWorld sig limit xs → IsRefuted sig limit xs
  refuted-where [] h = tt
  refuted-where (x ∷ xs) h = h

-- a query with these parts is the query of runs of k steps
pub is-run-query : (sys : System) (k : ℕ) (q : Query) → q.copies ≡ k + 1 → q.claims ≡ unroll_claims sys k → q ≡ run_query sys k
is-run-query sys k q c d =
    let of_copies : ℕ → Query = λ n. record { copies = n; claims = q.claims } in
    let of_claims : List Formula → Query = λ fs. record { copies = k + 1; claims = fs } in
    ap of_copies c ∙ ap of_claims d

module _ (sys : System) where
  no-run-query : (k : ℕ) → HasNoRunOf sys k → HasNoWorld sys.sig (run_query sys k)
  no-run-query k none w m = none w ((meaning-unroll sys k (run_query sys k) refl refl w).0 m)

  pub run-by-query : (k : ℕ) → HasNoWorld sys.sig (run_query sys k) ↔ HasNoRunOf sys k
  run-by-query k = (λ none w run. none w ((meaning-unroll sys k (run_query sys k) refl refl w).1 run), no-run-query k)

  queries-more : (k : ℕ) → run_queries sys (k + 1) ≡ run_queries sys k ++ run_query sys k ∷ []
  queries-more k = map-range_with_len_more (run_query sys) 0 k k (zero-add k)

module _ (sys : System) (limit : ℕ) where
  -- so far there is no run, as was found by queries that aren't above the limit
  pub record IsSoFar (k : ℕ) : Type 0 where
    pub shorter : (j : ℕ) → j < k → HasNoRunOf sys j
    pub light : All (IsLight sys.sig limit) (run_queries sys k)

  pub so-far-none : IsSoFar 0
  so-far-none = record { shorter = λ j lt. absurd (omega (arith, lt)); light = All-nil (IsLight sys.sig limit) }

  pub so-far-more : (k : ℕ) → IsSoFar k → IsAnswered sys.sig limit (HasNoRunOf sys k) (run_query sys k) answer.Passes → IsSoFar (k + 1)
  so-far-more k h a = record {
    shorter = below_more (HasNoRunOf sys) k h.shorter a.1;
    light = subst (All (IsLight sys.sig limit)) (sym (queries-more sys k)) (All-push (IsLight sys.sig limit) (run_queries sys k) (run_query sys k) h.light a.0);
  }

  none-before : (k : ℕ) → IsSoFar k → All (HasNoWorld sys.sig) (run_queries sys k)
  none-before k h =
      all_mapped (HasNoWorld sys.sig) (run_query sys) (range_with_len 0 k)
      (all_range (λ j. HasNoWorld sys.sig (run_query sys j)) k (λ j lt. no-run-query sys j (h.shorter j lt)))

  comes-to-run : (n k : ℕ) → k < n → IsSoFar k → ComesTo sys.sig limit (run_queries sys n) (run_query sys k)
  comes-to-run zero k lt h = absurd (omega (arith, lt))
  comes-to-run (suc n) k lt h =
      let one : n + 1 ≡ suc n = omega arith in
      subst (λ (m : ℕ). ComesTo sys.sig limit (run_queries sys m) (run_query sys k)) one
      (subst (λ (qs : List Query). ComesTo sys.sig limit qs (run_query sys k)) (sym (queries-more sys n)) (by_case (λ less. comes-to-run n k less h) (cases_lt k n)))
    where
      by_case : (k < n → ComesTo sys.sig limit (run_queries sys n) (run_query sys k)) → (k < n) ⊎ (n ≤ k) → ComesTo sys.sig limit (run_queries sys n ++ run_query sys n ∷ []) (run_query sys k)
      by_case more (inl less) = comes-left sys.sig limit (run_queries sys n) (run_query sys n ∷ []) (run_query sys k) (more less)
      by_case more (inr le) =
          let is : k ≡ n = omega (arith, lt, le) in
          subst (λ (m : ℕ). ComesTo sys.sig limit (run_queries sys m ++ run_query sys m ∷ []) (run_query sys k)) is
          (comes-last sys.sig limit (run_queries sys k) (run_query sys k) (none-before k h) h.light)

  -- a run is found, or a query above the limit
  pub runs-fail : (steps k : ℕ) → k ≤ steps → IsSoFar k → IsAnswered sys.sig limit (HasNoRunOf sys k) (run_query sys k) answer.Fails → IsTried sys.sig limit (HasNoRunWithin sys steps) (run_queries sys (steps + 1)) answer.Fails
  runs-fail steps k le h a = record {
    not_so = λ none. a.2 (none k le);
    refuted = refuted-where sys.sig limit (run_queries sys (steps + 1)) (record {
      query = run_query sys k;
      reached = comes-to-run (steps + 1) k (omega (arith, le)) h;
      light = a.0;
      found = a.1;
    });
  }

  pub runs-heavy : (steps k weight : ℕ) → k ≤ steps → IsSoFar k → IsAnswered sys.sig limit (HasNoRunOf sys k) (run_query sys k) (answer.Over weight) → IsTried sys.sig limit (HasNoRunWithin sys steps) (run_queries sys (steps + 1)) (answer.Over weight)
  runs-heavy steps k weight le h a = record {
    query = run_query sys k;
    reached = comes-to-run (steps + 1) k (omega (arith, le)) h;
    weighs = a.0;
    above = a.1;
  }

  pub runs-pass : (steps : ℕ) → IsSoFar (steps + 1) → IsTried sys.sig limit (HasNoRunWithin sys steps) (run_queries sys (steps + 1)) answer.Passes
  runs-pass steps h = record { so = λ j le. h.shorter j (omega (arith, le)); light = h.light }

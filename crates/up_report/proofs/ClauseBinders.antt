-- The variables of a clause and their sorts are read exactly.
use Rattle.std.proofs.Common.{◌≡◌, ℕ, zero, suc, ◌+◌, ◌-◌, ◌^◌, ◌<◌, ◌≤◌, inl, inr, Bool, true, false, cond, eqb, ltb, List, [], ◌∷◌, ◌++◌, length, get_or, flat_map, codes, decimal, Ok, Err, refl, sym, ap, subst, ◌∙◌, append_assoc, length-append, arith}
use Rattle.std.specs.List.{All, AllByRecursion, range_with_len}
use Rattle.std.proofs.lemmas.Bool.{cases_lt, lt-ltb, ltb-true}
use Rattle.std.proofs.lemmas.List.{append-nil}
use Rattle.std.proofs.lemmas.List.Elements.{All-from_recursion}
use Rattle.fo_core.specs.declared.signature.Sig.{Sig}
use Rattle.fo_core.specs.declared.names.Names.{Names}
use Rattle.fo_core.specs.Named.{IsName}
use Rattle.fo_text.specs.Reading.{Read, ◌>>=◌, literal_at, choose}
use Rattle.fo_text.proofs.Exact.{Exact, exact_done, exact_then, exact_words, exact_after}
use Rattle.fo_text.proofs.Choices.{Among, Apart, text_at, among_flat, among_flattened, among_map, among_mapped, among_range, ranged}
use Rattle.up_report.specs.declared.clause_heads.Ending.TheVariants.{Sort, LastSort}
use Rattle.up_report.specs.ClauseTexts.{CanName, joined, variable_text, binder_texts}
use Rattle.up_report.specs.ClauseReading.{texts, places, sort_ending, ended_sort, sort_options, sort_at, binder_at, chain}
use Rattle.up_report.proofs.ClauseWords.{some_text, same_ends, word_high, word_some}
use Rattle.up_report.proofs.ClauseSorts.{sort_is}
use Rattle.up_report.proofs.ClauseArguments.{exact_among}
use Rattle.up_report.proofs.ClauseChains.{ChainFits, chain_text, AreItems, exact_chain, chain_fails}

module _ (sig : Sig) (names : Names) (named : CanName sig names) (some : 0 < sig.sorts) where
  abbrev sort_name : ℕ → List ℕ
  sort_name s = get_or names.sorts s []

  name_at : (s : ℕ) → s < sig.sorts → IsName (sort_name s)
  name_at s h = named.sorts.named s [] (omega (arith, named.sorts.one_each))

  same_sort : (s t : ℕ) → s < sig.sorts → t < sig.sorts → sort_name s ≡ sort_name t → s ≡ t
  same_sort s t a b e = elim (cases_lt s t) [
    | inl lt ↦ absurd (named.sorts.distinct s t lt (omega (arith, named.sorts.one_each)) e)
    | inr le ↦ elim (cases_lt t s) [
      | inl gt ↦ absurd (named.sorts.distinct t s gt (omega (arith, named.sorts.one_each)) (sym e))
      | inr ge ↦ omega arith
    ]
  ]

  -- ---- the name of a sort

  record IsSort (k : ℕ) (x : ℕ × ℕ) : Type 0 where
    sort : x.0 < sig.sorts
    end : x.1 < length (texts (sort_ending k))

  abbrev sorts_of : ℕ → List (ℕ × ℕ)
  sorts_of k = flat_map (sort_options k) (range_with_len 0 sig.sorts)

  abbrev with_end : ℕ → ℕ → ℕ × ℕ
  with_end s e = (s, e)

  to_sort : (k : ℕ) (x : ℕ × ℕ) → IsSort k x → Among (sorts_of k) x
  to_sort k x h =
      among_flat (sort_options k) (range_with_len 0 sig.sorts) x.0 x (among_range 0 sig.sorts x.0 (omega arith) (omega (arith, h.sort)))
      (among_map (with_end x.0) (places (sort_ending k)) x.1 (among_range 0 (length (texts (sort_ending k))) x.1 (omega arith) (omega (arith, h.end))))

  from_sort : (k : ℕ) (x : ℕ × ℕ) → Among (sorts_of k) x → IsSort k x
  from_sort k x a =
      let f = among_flattened (sort_options k) (range_with_len 0 sig.sorts) x a in
      let m = among_mapped (with_end f.0) (places (sort_ending k)) x f.2 in
      let first : f.0 ≡ x.0 = ap (λ (p : ℕ × ℕ). p.0) m.2 in
      let second : m.0 ≡ x.1 = ap (λ (p : ℕ × ℕ). p.1) m.2 in
      record { sort = omega (arith, first, (ranged 0 sig.sorts f.0 f.1).1); end = omega (arith, second, (ranged 0 (length (texts (sort_ending k))) m.0 m.1).1) }

  sorts_apart : (k : ℕ) → Apart (ended_sort names k) (sorts_of k)
  sorts_apart k x y a b p q is =
      let g = from_sort k x a in
      let h = from_sort k y b in
      let same = same_ends (sort_ending k) (sort_name x.0) (sort_name y.0) p q x.1 y.1 (word_high (sort_name x.0) (name_at x.0 g.sort).word) (word_high (sort_name y.0) (name_at y.0 h.sort).word) g.end h.end is in
      ap (λ (s : ℕ). (s, x.1)) (same_sort x.0 y.0 g.sort h.sort same.0) ∙ ap (λ (e : ℕ). (y.0, e)) same.1

  exact_sort : (k : ℕ) → Exact (IsSort k) (ended_sort names k) (sort_at sig names k)
  exact_sort k =
      exact_words (Among (sorts_of k)) (IsSort k) (ended_sort names k) (ended_sort names k) (choose (ended_sort names k) (sorts_of k)) (sort_at sig names k)
      (sort_is sig names k) (λ x a. (from_sort k x a, refl)) (λ x i. to_sort k x i)
      (exact_among (ended_sort names k) (sorts_of k) (0, 0) (to_sort k (0, 0) (record { sort = some; end = some_text (sort_ending k) })) (sorts_apart k))

  -- ---- a variable with its sort

  -- the sort, and whether the variable is the last: one that isn't has a number that leaves room
  abbrev pub BinderFits : ℕ → ℕ × Bool → Type 0
  BinderFits k x = (x.0 < sig.sorts) × (x.1 ≡ false → k + 1 < 2 ^ 32 - 1)

  abbrev binder_rest : ℕ → Bool → List ℕ
  binder_rest k true = []
  binder_rest k false = decimal (k + 1) ++ codes ":"

  abbrev binder_end : ℕ → Bool → List ℕ
  binder_end k true = codes ". "
  binder_end k false = codes ", V" ++ (decimal (k + 1) ++ codes ":")

  abbrev pub binder_text : ℕ → ℕ × Bool → List ℕ
  binder_text k x = sort_name x.0 ++ binder_end k x.1

  abbrev rest_at : ℕ → Bool → ℕ → List ℕ → Read (ℕ × Bool)
  rest_at k c s bytes = cond c (Ok ((s, true), bytes)) (literal_at (decimal (k + 1)) bytes >>= λ number. literal_at (codes ":") number >>= λ rest. Ok ((s, false), rest))

  abbrev IsThat : ℕ → Bool → ℕ × Bool → Type 0
  IsThat s c y = (y.0 ≡ s) × (y.1 ≡ c)

  pair_is : (s : ℕ) (c : Bool) (y : ℕ × Bool) → IsThat s c y → y ≡ (s, c)
  pair_is s c y h = ap (λ (n : ℕ). (n, y.1)) h.0 ∙ ap (λ (b : Bool). (s, b)) h.1

  is_pair : (s : ℕ) (c : Bool) (y : ℕ × Bool) → y ≡ (s, c) → IsThat s c y
  is_pair s c y e = (ap (λ (p : ℕ × Bool). p.0) e, ap (λ (p : ℕ × Bool). p.1) e)

  exact_rest : (k s : ℕ) (c : Bool) → Exact (IsThat s c) (λ y. binder_rest k y.1) (rest_at k c s)
  exact_rest k s true =
      exact_words (λ y. y ≡ (s, true)) (IsThat s true) (λ y. []) (λ y. binder_rest k y.1) (λ bytes. Ok ((s, true), bytes)) (rest_at k true s) (λ bytes. refl)
      (λ y e. (is_pair s true y e, ap (λ (p : ℕ × Bool). binder_rest k p.1) e)) (pair_is s true) (exact_done (s, true))
  exact_rest k s false =
      let Is : ℕ × Bool → Type 0 = λ y. y ≡ (s, false) in
      exact_words Is (IsThat s false) (λ y. decimal (k + 1) ++ (codes ":" ++ [])) (λ y. binder_rest k y.1) (rest_at k false s) (rest_at k false s) (λ bytes. refl)
      (λ y e. (is_pair s false y e, ap (λ (p : ℕ × Bool). binder_rest k p.1) e)) (pair_is s false)
      (exact_after Is (λ y. codes ":" ++ []) (λ bytes. literal_at (codes ":") bytes >>= λ rest. Ok ((s, false), rest)) (decimal (k + 1))
      (exact_after Is (λ y. []) (λ bytes. Ok ((s, false), bytes)) (codes ":") (exact_done (s, false))))

  first_text : (c : Bool) → text_at (texts (cond c Sort LastSort)) 0 ≡ codes ". "
  first_text true = refl
  first_text false = refl

  second_text : (c : Bool) → 1 < length (texts (cond c Sort LastSort)) → (c ≡ true) × (text_at (texts (cond c Sort LastSort)) 1 ≡ codes ", V")
  second_text true h = (refl, refl)
  second_text false h = absurd (omega arith)

  two_texts : (c : Bool) → c ≡ true → 1 < length (texts (cond c Sort LastSort))
  two_texts c e = subst (λ (b : Bool). 1 < length (texts (cond b Sort LastSort))) (sym e) (omega arith)

  few_ends : (c : Bool) → length (texts (cond c Sort LastSort)) ≤ 2
  few_ends true = omega arith
  few_ends false = omega arith

  joins_by : (k s e : ℕ) → s < sig.sorts → e < length (texts (sort_ending k)) → BinderFits k (s, eqb e 0) × (binder_text k (s, eqb e 0) ≡ ended_sort names k (s, e) ++ binder_rest k (eqb e 0))
  joins_by k s zero h l =
      ((h, λ (n : true ≡ false). absurd cc), ap (λ (t : List ℕ). sort_name s ++ t) (sym (first_text (ltb (k + 1) (2 ^ 32 - 1)))) ∙ sym (append-nil (sort_name s ++ text_at (texts (sort_ending k)) 0)))
  joins_by k s (suc zero) h l =
      let t = second_text (ltb (k + 1) (2 ^ 32 - 1)) l in (
        (h, λ n. ltb-true (k + 1) (2 ^ 32 - 1) t.0),
        sym (append_assoc (sort_name s) (codes ", V") (decimal (k + 1) ++ codes ":")) ∙ ap (λ (u : List ℕ). (sort_name s ++ u) ++ (decimal (k + 1) ++ codes ":")) (sym t.1),
      )
  joins_by k s (suc (suc e)) h l = absurd (omega (arith, few_ends (ltb (k + 1) (2 ^ 32 - 1)), l))

  joins : (k : ℕ) (x : ℕ × ℕ) (y : ℕ × Bool) → IsSort k x → IsThat x.0 (eqb x.1 0) y → BinderFits k y × (binder_text k y ≡ ended_sort names k x ++ binder_rest k y.1)
  joins k x y h t =
      subst (λ (z : ℕ × Bool). BinderFits k z × (binder_text k z ≡ ended_sort names k x ++ binder_rest k z.1)) (sym (pair_is x.0 (eqb x.1 0) y t)) (joins_by k x.0 x.1 h.sort h.end)

  parts : (k s : ℕ) (last : Bool) → BinderFits k (s, last) → (x : ℕ × ℕ) × IsSort k x × IsThat x.0 (eqb x.1 0) (s, last)
  parts k s true f = ((s, 0), record { sort = f.0; end = some_text (sort_ending k) }, (refl, refl))
  parts k s false f =
      ((s, 1), record { sort = f.0; end = two_texts (ltb (k + 1) (2 ^ 32 - 1)) (lt-ltb (k + 1) (2 ^ 32 - 1) (f.1 refl)) }, (refl, refl))

  exact_binder : (k : ℕ) → Exact (BinderFits k) (binder_text k) (binder_at sig names k)
  unfolding binder_at
  exact_binder k =
      exact_then (IsSort k) (ended_sort names k) (sort_at sig names k) (λ x. IsThat x.0 (eqb x.1 0)) (λ x y. binder_rest k y.1) (λ x. rest_at k (eqb x.1 0) x.0)
      (BinderFits k) (binder_text k) (binder_at sig names k) (λ bytes. refl)
      (joins k) (λ y f. parts k y.0 y.1 f) (exact_sort k) (λ x h. exact_rest k x.0 (eqb x.1 0))

  binder_long : (k : ℕ) (x : ℕ × Bool) → BinderFits k x → 0 < length (binder_text k x)
  binder_long k x f =
      let w = word_some (sort_name x.0) (name_at x.0 f.0).word in
      omega (arith, length-append (sort_name x.0) (binder_end k x.1), ap (λ (l : List ℕ). length l) w.2)

  binders_are : AreItems BinderFits binder_text (binder_at sig names)
  binders_are = record { exact = exact_binder; long = binder_long; ends = λ k. (0, (some, λ (n : true ≡ false). absurd cc)) }

  -- ---- all variables

  abbrev pub BindersFit : List ℕ → Type 0
  BindersFit = ChainFits BinderFits binder_text (binder_at sig names) 0

  abbrev pub binders_chain : List ℕ → List ℕ
  binders_chain = chain_text BinderFits binder_text (binder_at sig names) 0

  pub exact_binders : Exact BindersFit binders_chain (chain (binder_at sig names) 0)
  exact_binders = exact_chain BinderFits binder_text (binder_at sig names) binders_are 0

  few_from : (k : ℕ) (ss : List ℕ) → k < 2 ^ 32 - 1 → ChainFits BinderFits binder_text (binder_at sig names) k ss → length ss + k < 2 ^ 32
  few_from k [] h f = absurd f
  few_from k (s ∷ []) h f = omega arith
  few_from k (s ∷ t ∷ ss) h f = omega (arith, few_from (k + 1) (t ∷ ss) (f.0.1 refl) f.1)

  pub few_sorts : (ss : List ℕ) → BindersFit ss → length ss < 2 ^ 32
  few_sorts ss f = omega (arith, few_from 0 ss (omega arith) f)

  sorts_from : (k : ℕ) (ss : List ℕ) → ChainFits BinderFits binder_text (binder_at sig names) k ss → AllByRecursion (λ s. s < sig.sorts) ss
  sorts_from k [] f = absurd f
  sorts_from k (s ∷ []) f = (f.0, tt)
  sorts_from k (s ∷ t ∷ ss) f = (f.0.0, sorts_from (k + 1) (t ∷ ss) f.1)

  pub all_sorts : (ss : List ℕ) → BindersFit ss → All (λ s. s < sig.sorts) ss
  all_sorts ss f = All-from_recursion (λ s. s < sig.sorts) ss (sorts_from 0 ss f)

  pub binders_from : (k : ℕ) (s : ℕ) (ss : List ℕ) → AllByRecursion (λ t. t < sig.sorts) (s ∷ ss) → length (s ∷ ss) + k < 2 ^ 32 → ChainFits BinderFits binder_text (binder_at sig names) k (s ∷ ss)
  binders_from k s [] a h = (a.0, λ (n : true ≡ false). absurd cc)
  binders_from k s (t ∷ ss) a h = ((a.0, λ n. omega arith), binders_from (k + 1) t ss a.1 (omega arith))

  -- the text from variable k on
  pub binder_words : (k s : ℕ) (ss : List ℕ) → joined (codes ", ") (binder_texts names k (s ∷ ss)) ++ codes ". " ≡ variable_text k ++ (codes ":" ++ chain_text BinderFits binder_text (binder_at sig names) k (s ∷ ss))
  binder_words k s [] =
      ap (λ (l : List ℕ). l ++ codes ". ") (append-nil ((variable_text k ++ codes ":") ++ sort_name s)) ∙ append_assoc (variable_text k ++ codes ":") (sort_name s) (codes ". ")
      ∙ append_assoc (variable_text k) (codes ":") (sort_name s ++ codes ". ")
  binder_words k s (t ∷ ss) =
      let here : List ℕ = (variable_text k ++ codes ":") ++ sort_name s in
      let others : List ℕ = joined (codes ", ") (binder_texts names (k + 1) (t ∷ ss)) in
      let after : List ℕ = chain_text BinderFits binder_text (binder_at sig names) (k + 1) (t ∷ ss) in
      let digits : List ℕ = decimal (k + 1) in
      append_assoc here (codes ", " ++ others) (codes ". ") ∙ ap (λ (l : List ℕ). here ++ (codes ", " ++ l)) (binder_words (k + 1) t ss)
      ∙ append_assoc (variable_text k ++ codes ":") (sort_name s) (codes ", V" ++ (digits ++ (codes ":" ++ after)))
      ∙ append_assoc (variable_text k) (codes ":") (sort_name s ++ (codes ", V" ++ (digits ++ (codes ":" ++ after))))
      ∙ ap (λ (l : List ℕ). variable_text k ++ (codes ":" ++ (sort_name s ++ (codes ", V" ++ l)))) (sym (append_assoc digits (codes ":") after))
      ∙ ap (λ (l : List ℕ). variable_text k ++ (codes ":" ++ l)) (sym (append_assoc (sort_name s) (codes ", V" ++ (digits ++ codes ":")) after))

-- fewer than 2^32 variables are read
none_read : (sig : Sig) (names : Names) (k : ℕ) (bytes : List ℕ) → sig.sorts ≡ 0 → sort_at sig names k bytes ≡ Err (length bytes)
unfolding sort_at choose
none_read sig names k bytes e = ap (λ (n : ℕ). choose (ended_sort names k) (flat_map (sort_options k) (range_with_len 0 n)) bytes) e

none_bound : (sig : Sig) (names : Names) (k : ℕ) (bytes : List ℕ) → sig.sorts ≡ 0 → binder_at sig names k bytes ≡ Err (length bytes)
unfolding binder_at
none_bound sig names k bytes e =
    ap (λ (r : Read (ℕ × ℕ)). r >>= λ s. cond (eqb s.0.1 0) (Ok ((s.0.0, true), s.1)) (literal_at (decimal (k + 1)) s.1 >>= λ number. literal_at (codes ":") number >>= λ rest. Ok ((s.0.0, false), rest))) (none_read sig names k bytes e)

pub few_read : (sig : Sig) (names : Names) → CanName sig names → (bytes sorts rest : List ℕ) → chain (binder_at sig names) 0 bytes ≡ Ok (sorts, rest) → length sorts < 2 ^ 32
few_read sig names named bytes sorts rest e = elim (cases_lt 0 sig.sorts) [
  | inl some ↦ few_sorts sig names named some sorts ((exact_binders sig names named some).takes bytes sorts rest e).1
  | inr none ↦
      let zero_sorts : sig.sorts ≡ 0 = omega arith in
      let f = chain_fails (binder_at sig names) 0 bytes (length bytes) (none_bound sig names 0 bytes zero_sorts) in
      absurd (cc (f, e))
]

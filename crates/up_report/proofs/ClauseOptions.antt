-- Options that a loop tries one block after the other.
use Rattle.std.proofs.Common.{◌≡◌, ℕ, ◌+◌, ◌-◌, ◌<◌, ◌≤◌, inl, inr, min, List, [], ◌∷◌, ◌++◌, length, map, flat_map, Result, Ok, Err, refl, sym, ap, subst, ◌∙◌, arith}
use Rattle.std.specs.List.{range_with_len}
use Rattle.fo_text.specs.Reading.{Read, ◌>>=◌, literal_at, or_else, option_at, choose, choice_at}
use Rattle.fo_text.proofs.Choices.{Among, Tried, tried_none, tried_more, tried_found, tried_all, choose_nil, choose_cons, choice_is, places_on, places_end, ranged}
use Rattle.up_report.specs.declared.clause_heads.Ending.{Ending}
use Rattle.up_report.specs.ClauseReading.{texts, places, ended}

-- ---- blocks

module _ {X : Type 0} (text : X → List ℕ) (f : ℕ → List X) (n : ℕ) (bytes : List ℕ) where
  -- the options of all blocks
  abbrev pub blocks : List X
  blocks = flat_map f (range_with_len 0 n)

  -- the blocks before this one were tried in vain
  abbrev pub BlocksTried : ℕ → ℕ → Type 0
  BlocksTried i least = Tried text blocks (flat_map f (range_with_len i (n - i))) bytes least

  pub blocks_none : BlocksTried 0 (length bytes)
  blocks_none =
      let e : n - 0 ≡ n = omega arith in
      subst (λ (m : ℕ). Tried text blocks (flat_map f (range_with_len 0 m)) bytes (length bytes)) (sym e) (tried_none text blocks bytes)

  next : (i least : ℕ) → i < n → BlocksTried i least → Tried text blocks (f i ++ flat_map f (range_with_len (i + 1) (n - (i + 1)))) bytes least
  next i least h t = subst (λ (l : List ℕ). Tried text blocks (flat_map f l) bytes least) (places_on i n h) t

  pub blocks_more : (i least left : ℕ) → i < n → BlocksTried i least → choose text (f i) bytes ≡ Err left → BlocksTried (i + 1) (min least left)
  blocks_more i least left h t e = tried_more text blocks (f i) (flat_map f (range_with_len (i + 1) (n - (i + 1)))) bytes least left (next i least h t) e

  pub blocks_skip : (i least : ℕ) → i < n → BlocksTried i least → f i ≡ [] → BlocksTried (i + 1) least
  blocks_skip i least h t e = subst (λ (l : List X). Tried text blocks (l ++ flat_map f (range_with_len (i + 1) (n - (i + 1)))) bytes least) e (next i least h t)

  pub blocks_found : (i least : ℕ) (x : X × List ℕ) → i < n → BlocksTried i least → choose text (f i) bytes ≡ Ok x → choose text blocks bytes ≡ Ok x
  blocks_found i least x h t e = tried_found text blocks (f i) (flat_map f (range_with_len (i + 1) (n - (i + 1)))) bytes least x (next i least h t) e

  pub blocks_all : (i least : ℕ) → n ≤ i → BlocksTried i least → choose text blocks bytes ≡ Err least
  blocks_all i least h t = tried_all text blocks bytes least (subst (λ (l : List ℕ). Tried text blocks (flat_map f l) bytes least) (places_end i n h) t)

-- ---- one block: a word with one of the texts that end it

abbrev seen_as : {X Y : Type 0} → (X → Y) → Read X → Read Y
seen_as f r = r >>= λ x. Ok (f x.0, x.1)

choose_seen : {X Y : Type 0} (f : X → Y) (text : Y → List ℕ) (words : X → List ℕ) (xs : List X) (bytes : List ℕ) → ((x : X) → Among xs x → text (f x) ≡ words x) → choose text (map f xs) bytes ≡ seen_as f (choose words xs bytes)
choose_seen {X} {Y} f text words [] bytes same = choose_nil text bytes ∙ sym (ap (seen_as f) (choose_nil words bytes))
choose_seen {X} {Y} f text words (x ∷ xs) bytes same =
    choose_cons text (f x) (map f xs) bytes
    ∙ ap (λ (r : Read Y). or_else (option_at text (f x) bytes) r) (choose_seen f text words xs bytes (λ y h. same y (inr h)))
    ∙ ap (λ (l : List ℕ). or_else (literal_at l bytes >>= λ rest. Ok (f x, rest)) (seen_as f (choose words xs bytes))) (same x (inl refl))
    ∙ sym (ap (seen_as f) (choose_cons words x xs bytes) ∙ by (literal_at (words x) bytes) (choose words xs bytes))
  where
    by : (a : Result (List ℕ) ℕ) (b : Read X) → seen_as f (or_else (a >>= λ rest. Ok (x, rest)) b) ≡ or_else (a >>= λ rest. Ok (f x, rest)) (seen_as f b)
    by (Ok rest) b = refl
    by (Err m) (Ok y) = refl
    by (Err m) (Err n) = refl

module _ {X : Type 0} (text : X → List ℕ) (mark word : List ℕ) (ending : Ending) (make : ℕ → X) (bytes : List ℕ) where
  abbrev pub Ends : Type 0
  Ends = (e : ℕ) → e < length (texts ending) → text (make e) ≡ ended mark word ending e

  block_is : Ends → choose text (map make (places ending)) bytes ≡ seen_as make (choice_at mark word (texts ending) bytes)
  block_is same =
      choose_seen make text (ended mark word ending) (places ending) bytes (λ e h. same e (omega (arith, (ranged 0 (length (texts ending)) e h).1)))
      ∙ ap (seen_as make) (sym (choice_is mark word (texts ending) bytes))

  pub block_found : (e : ℕ) (rest : List ℕ) → Ends → choice_at mark word (texts ending) bytes ≡ Ok (e, rest) → choose text (map make (places ending)) bytes ≡ Ok (make e, rest)
  block_found e rest same h = block_is same ∙ ap (seen_as make) h

  pub block_fails : (left : ℕ) → Ends → choice_at mark word (texts ending) bytes ≡ Err left → choose text (map make (places ending)) bytes ≡ Err left
  block_fails left same h = block_is same ∙ ap (seen_as make) h

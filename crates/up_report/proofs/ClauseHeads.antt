-- Heads of denials: which there are, and that their texts tell them apart.
use Rattle.std.proofs.Common.{◌≡◌, ℕ, zero, suc, ◌^◌, ◌<◌, ◌≤◌, inl, inr, min, Bool, true, false, cond, eqb, not, List, [], ◌∷◌, ◌++◌, length, get_or, map, codes, decimal, Result, Ok, Err, refl, sym, ap, subst, ◌∙◌, append_assoc, arith}
use Rattle.std.specs.Prelude.{⊤}
use Rattle.std.specs.List.{range_with_len}
use Rattle.std.proofs.lemmas.Bool.{cases_lt}
use Rattle.fo_core.specs.declared.signature.Sig.{Sig}
use Rattle.fo_core.specs.declared.names.Names.{Names}
use Rattle.fo_core.specs.Tables.{symbol_at}
use Rattle.fo_core.specs.Named.{IsName, reserved_words}
use Rattle.fo_text.specs.Reading.{Read, ◌>>=◌, literal_at, or_else, option_at, choose, choice_at}
use Rattle.fo_text.proofs.Choices.{Among, Apart, choose_cons, choose_append, choose_takes, choose_finds, choose_one, choose_not, among_left, among_right, among_either, among_flat, among_flattened, among_map, among_mapped, among_range, ranged, differ, differ_apart, text_at, texts_apart}
use Rattle.fo_text.proofs.Stopping.{literal_found}
use Rattle.up_report.specs.declared.clause_heads.Head.{Head}
use Rattle.up_report.specs.declared.clause_heads.Head.TheVariants.{Forall, Nothing, Equal, Applied}
use Rattle.up_report.specs.declared.clause_heads.Ending.{Ending}
use Rattle.up_report.specs.declared.clause_heads.Ending.TheVariants.{Denial, Equality, Arguments, Unequal}
use Rattle.up_report.specs.ClauseTexts.{CanName, symbol_name, mark}
use Rattle.up_report.specs.ClauseReading.{texts, places, ended, may_stand, name_ending, symbol_heads, signed_heads, equal_heads, heads, first_heads, head_text, IsHeadOf}
use Rattle.up_report.proofs.ClauseOptions.{block_found, block_fails}
use Rattle.up_report.proofs.ClauseWords.{AreHigh, Ends, split_words, ends_append, few_texts, text_ends, are_apart_texts, decimal_high, decimal_same, word_high, word_some}

module _ (sig : Sig) (names : Names) where
  abbrev heading : Head → List ℕ
  heading = head_text sig names

  -- ---- one symbol

  module _ (sorts : List ℕ) (sign : Bool) (k : ℕ) where
    abbrev ending_here : Ending
    ending_here = name_ending (symbol_at sig k)

    abbrev with_last : ℕ → Head
    with_last e = Applied sign k (eqb e 1)

    place_of : (e : ℕ) → e < 2 → cond (eqb e 1) 1 0 ≡ e
    place_of zero h = refl
    place_of (suc zero) h = refl
    place_of (suc (suc e)) h = absurd (omega arith)

    text_of : (e : ℕ) → e < length (texts ending_here) → heading (with_last e) ≡ ended (mark sign) (symbol_name names k) ending_here e
    text_of e h = ap (ended (mark sign) (symbol_name names k) ending_here) (place_of e (omega (arith, few_texts ending_here, h)))

    stands_open : may_stand sorts sign (symbol_at sig k) ≡ true → symbol_heads sig sorts sign k ≡ map with_last (places ending_here)
    stands_open h = ap (λ (c : Bool). cond c (map with_last (places ending_here)) []) h

    pub symbol_passed : may_stand sorts sign (symbol_at sig k) ≡ false → symbol_heads sig sorts sign k ≡ []
    symbol_passed h = ap (λ (c : Bool). cond c (map with_last (places ending_here)) []) h

    pub symbol_found : (e : ℕ) (bytes rest : List ℕ) → may_stand sorts sign (symbol_at sig k) ≡ true → choice_at (mark sign) (symbol_name names k) (texts ending_here) bytes ≡ Ok (e, rest) → choose heading (symbol_heads sig sorts sign k) bytes ≡ Ok (Applied sign k (eqb e 1), rest)
    symbol_found e bytes rest h c =
        ap (λ (l : List Head). choose heading l bytes) (stands_open h) ∙ block_found heading (mark sign) (symbol_name names k) ending_here with_last bytes e rest text_of c

    pub symbol_fails : (left : ℕ) (bytes : List ℕ) → may_stand sorts sign (symbol_at sig k) ≡ true → choice_at (mark sign) (symbol_name names k) (texts ending_here) bytes ≡ Err left → choose heading (symbol_heads sig sorts sign k) bytes ≡ Err left
    symbol_fails left bytes h c =
        ap (λ (l : List Head). choose heading l bytes) (stands_open h) ∙ block_fails heading (mark sign) (symbol_name names k) ending_here with_last bytes left text_of c

  -- ---- which heads there are

  -- a symbol's head tells a text that ends its name
  abbrev pub IsGood : List ℕ → Head → Type 0
  IsGood sorts Forall = ⊤
  IsGood sorts Nothing = ⊤
  IsGood sorts (Equal i) = i < length sorts
  IsGood sorts (Applied sign k last) = (k < length sig.symbols) × (cond last 1 0 < length (texts (name_ending (symbol_at sig k))))

  pub record IsSymbolHead (sorts : List ℕ) (want sign : Bool) (k : ℕ) (last : Bool) : Type 0 where
    pub same : sign ≡ want
    pub within : k < length sig.symbols
    pub stands : may_stand sorts want (symbol_at sig k) ≡ true
    pub end : cond last 1 0 < length (texts (name_ending (symbol_at sig k)))

  -- what stands among the heads
  abbrev pub IsOfSign : List ℕ → Bool → Head → Type 0
  IsOfSign sorts want Forall = ⊥
  IsOfSign sorts want Nothing = ⊥
  IsOfSign sorts want (Equal i) = ⊥
  IsOfSign sorts want (Applied sign k last) = IsSymbolHead sorts want sign k last

  signed_by : (sorts : List ℕ) (sign c : Bool) (k : ℕ) (h : Head) → k < length sig.symbols → may_stand sorts sign (symbol_at sig k) ≡ c → Among (cond c (map (with_last sorts sign k) (places (name_ending (symbol_at sig k)))) []) h → IsOfSign sorts sign h
  signed_by sorts sign true k h within is a =
      let m = among_mapped (with_last sorts sign k) (places (name_ending (symbol_at sig k))) h a in
      let below : m.0 < length (texts (name_ending (symbol_at sig k))) = omega (arith, (ranged 0 (length (texts (name_ending (symbol_at sig k)))) m.0 m.1).1) in
      subst (IsOfSign sorts sign) m.2 (record { same = refl; within = within; stands = is; end = subst (λ (n : ℕ). n < length (texts (name_ending (symbol_at sig k)))) (sym (place_of sorts sign k m.0 (omega (arith, few_texts (name_ending (symbol_at sig k)), below)))) below })
  signed_by sorts sign false k h within is a = absurd a

  pub from_signed : (sorts : List ℕ) (sign : Bool) (h : Head) → Among (signed_heads sig sorts sign) h → IsOfSign sorts sign h
  from_signed sorts sign h a =
      let f = among_flattened (symbol_heads sig sorts sign) (range_with_len 0 (length sig.symbols)) h a in
      signed_by sorts sign (may_stand sorts sign (symbol_at sig f.0)) f.0 h (omega (arith, (ranged 0 (length sig.symbols) f.0 f.1).1)) refl f.2

  last_of : (last : Bool) → eqb (cond last 1 0) 1 ≡ last
  last_of true = refl
  last_of false = refl

  pub to_signed : (sorts : List ℕ) (sign : Bool) (k : ℕ) (last : Bool) → IsSymbolHead sorts sign sign k last → Among (signed_heads sig sorts sign) (Applied sign k last)
  to_signed sorts sign k last h =
      among_flat (symbol_heads sig sorts sign) (range_with_len 0 (length sig.symbols)) k (Applied sign k last) (among_range 0 (length sig.symbols) k (omega arith) (omega (arith, h.within)))
      (subst (λ (l : List Head). Among l (Applied sign k last)) (sym (stands_open sorts sign k h.stands))
      (subst (λ (b : Bool). Among (map (with_last sorts sign k) (places (name_ending (symbol_at sig k)))) (Applied sign k b)) (last_of last)
      (among_map (with_last sorts sign k) (places (name_ending (symbol_at sig k))) (cond last 1 0) (among_range 0 (length (texts (name_ending (symbol_at sig k)))) (cond last 1 0) (omega arith) (omega (arith, h.end))))))

  abbrev pub IsDenialHead : List ℕ → Head → Type 0
  IsDenialHead sorts Forall = ⊥
  IsDenialHead sorts Nothing = ⊥
  IsDenialHead sorts (Equal i) = i < length sorts
  IsDenialHead sorts (Applied sign k last) = IsSymbolHead sorts sign sign k last

  equal_in : (sorts : List ℕ) (h : Head) → Among (equal_heads (length sorts)) h → IsDenialHead sorts h
  equal_in sorts h a =
      let f = among_flattened (λ (i : ℕ). Equal i ∷ []) (range_with_len 0 (length sorts)) h a in
      elim f.2 [
        | inl e ↦ subst (IsDenialHead sorts) e (omega (arith, (ranged 0 (length sorts) f.0 f.1).1))
        | inr n ↦ absurd n
      ]

  of_sign : (sorts : List ℕ) (want : Bool) (h : Head) → IsOfSign sorts want h → IsDenialHead sorts h
  of_sign sorts want Forall g = g
  of_sign sorts want Nothing g = g
  of_sign sorts want (Equal i) g = absurd g
  of_sign sorts want (Applied sign k last) g = subst (λ (b : Bool). IsSymbolHead sorts b sign k last) (sym g.same) g

  pub from_heads : (sorts : List ℕ) (h : Head) → Among (heads sig sorts) h → IsDenialHead sorts h
  from_heads sorts h a = elim (among_either (equal_heads (length sorts)) (signed_heads sig sorts false ++ signed_heads sig sorts true) h a) [
    | inl l ↦ equal_in sorts h l
    | inr r ↦ elim (among_either (signed_heads sig sorts false) (signed_heads sig sorts true) h r) [
      | inl l ↦ of_sign sorts false h (from_signed sorts false h l)
      | inr m ↦ of_sign sorts true h (from_signed sorts true h m)
    ]
  ]

  pub to_equal : (sorts : List ℕ) (i : ℕ) → i < length sorts → Among (heads sig sorts) (Equal i)
  to_equal sorts i h =
      among_left (equal_heads (length sorts)) (signed_heads sig sorts false ++ signed_heads sig sorts true) (Equal i)
      (among_flat (λ (j : ℕ). Equal j ∷ []) (range_with_len 0 (length sorts)) i (Equal i) (among_range 0 (length sorts) i (omega arith) (omega arith)) (inl refl))

  pub to_symbol : (sorts : List ℕ) (sign : Bool) (k : ℕ) (last : Bool) → IsSymbolHead sorts sign sign k last → Among (heads sig sorts) (Applied sign k last)
  to_symbol sorts false k last h =
      among_right (equal_heads (length sorts)) (signed_heads sig sorts false ++ signed_heads sig sorts true) (Applied false k last)
      (among_left (signed_heads sig sorts false) (signed_heads sig sorts true) (Applied false k last) (to_signed sorts false k last h))
  to_symbol sorts true k last h =
      among_right (equal_heads (length sorts)) (signed_heads sig sorts false ++ signed_heads sig sorts true) (Applied true k last)
      (among_right (signed_heads sig sorts false) (signed_heads sig sorts true) (Applied true k last) (to_signed sorts true k last h))

  denial_good : (sorts : List ℕ) (h : Head) → IsDenialHead sorts h → IsGood sorts h
  denial_good sorts Forall g = absurd g
  denial_good sorts Nothing g = absurd g
  denial_good sorts (Equal i) g = g
  denial_good sorts (Applied sign k last) g = (g.within, g.end)

  good_of : (sorts : List ℕ) (h : Head) → IsGood sorts h → IsHeadOf sig sorts h
  good_of sorts Forall g = tt
  good_of sorts Nothing g = tt
  good_of sorts (Equal i) g = g
  good_of sorts (Applied sign k last) g = g.0

  pub heads_good : (sorts : List ℕ) (h : Head) → Among (heads sig sorts) h → IsGood sorts h
  heads_good sorts h a = denial_good sorts h (from_heads sorts h a)

  pub body_good : (sorts : List ℕ) (h : Head) → Among (Nothing ∷ heads sig sorts) h → IsGood sorts h
  body_good sorts h a = elim a [
    | inl e ↦ subst (IsGood sorts) e tt
    | inr l ↦ heads_good sorts h l
  ]

  first_by : (c : Bool) (h : Head) → Among (cond c (Nothing ∷ heads sig []) (Forall ∷ Nothing ∷ heads sig [])) h → IsGood [] h
  first_by true h a = body_good [] h a
  first_by false h a = elim a [
    | inl e ↦ subst (IsGood []) e tt
    | inr l ↦ body_good [] h l
  ]

  pub first_good : (h : Head) → Among (first_heads sig) h → IsGood [] h
  first_good h a = first_by (eqb sig.sorts 0) h a

  -- the heads that readers give
  pub head_read : (sorts : List ℕ) (h : Head) (bytes rest : List ℕ) → choose heading (heads sig sorts) bytes ≡ Ok (h, rest) → IsHeadOf sig sorts h
  head_read sorts h bytes rest e = good_of sorts h (heads_good sorts h (choose_takes heading (heads sig sorts) bytes h rest e).0)

  pub body_head_read : (sorts : List ℕ) (h : Head) (bytes rest : List ℕ) → choose heading (Nothing ∷ heads sig sorts) bytes ≡ Ok (h, rest) → IsHeadOf sig sorts h
  body_head_read sorts h bytes rest e = good_of sorts h (body_good sorts h (choose_takes heading (Nothing ∷ heads sig sorts) bytes h rest e).0)

  pub first_head_read : (h : Head) (bytes rest : List ℕ) → choose heading (first_heads sig) bytes ≡ Ok (h, rest) → IsHeadOf sig [] h
  first_head_read h bytes rest e = good_of [] h (first_good h (choose_takes heading (first_heads sig) bytes h rest e).0)

  -- ---- a head is a mark, a word, and a text that ends the word

  abbrev sign_of : Head → Bool
  sign_of Forall = false
  sign_of Nothing = false
  sign_of (Equal i) = false
  sign_of (Applied sign k last) = sign

  abbrev word_of : Head → List ℕ
  word_of Forall = codes "forall"
  word_of Nothing = codes "false"
  word_of (Equal i) = 86 ∷ decimal i
  word_of (Applied sign k last) = symbol_name names k

  abbrev end_of : Head → List ℕ
  end_of Forall = codes " V0:"
  end_of Nothing = codes "\n"
  end_of (Equal i) = codes " = V"
  end_of (Applied sign k last) = text_at (texts (name_ending (symbol_at sig k))) (cond last 1 0)

  parts_of : (h : Head) → heading h ≡ mark (sign_of h) ++ (word_of h ++ end_of h)
  parts_of Forall = refl
  parts_of Nothing = refl
  parts_of (Equal i) = refl
  parts_of (Applied sign k last) = refl

  module _ (named : CanName sig names) (sorts : List ℕ) (few : length sorts < 2 ^ 64) where
    name_at : (k : ℕ) → k < length sig.symbols → IsName (symbol_name names k)
    name_at k h = named.symbols.named k [] (omega (arith, named.symbols.one_each))

    -- the word's bytes are high, and it isn't empty
    record IsFormed (h : Head) : Type 0 where
      high : AreHigh (word_of h)
      first : ℕ
      others : List ℕ
      some : word_of h ≡ first ∷ others
      is_high : 48 ≤ first
      ends : Ends (end_of h)

    formed : (h : Head) → IsGood sorts h → IsFormed h
    formed Forall g = record { high = (omega arith, (omega arith, (omega arith, (omega arith, (omega arith, (omega arith, tt)))))); first = 102; others = codes "orall"; some = refl; is_high = omega arith; ends = omega arith }
    formed Nothing g = record { high = (omega arith, (omega arith, (omega arith, (omega arith, (omega arith, tt))))); first = 102; others = codes "alse"; some = refl; is_high = omega arith; ends = omega arith }
    formed (Equal i) g = record { high = (omega arith, decimal_high i (omega arith)); first = 86; others = decimal i; some = refl; is_high = omega arith; ends = omega arith }
    formed (Applied sign k last) g =
        let w = (name_at k g.0).word in
        let s = word_some (symbol_name names k) w in
        record { high = word_high (symbol_name names k) w; first = s.0; others = s.1; some = s.2; is_high = s.3; ends = text_ends (name_ending (symbol_at sig k)) (cond last 1 0) g.1 }

    record AreParts (x y : Head) (p q : List ℕ) : Type 0 where
      sign : sign_of x ≡ sign_of y
      word : word_of x ≡ word_of y
      end : end_of x ++ p ≡ end_of y ++ q

    words_in : (x y : Head) (p q : List ℕ) → IsFormed x → IsFormed y → sign_of x ≡ sign_of y → (word_of x ++ end_of x) ++ p ≡ (word_of y ++ end_of y) ++ q → AreParts x y p q
    words_in x y p q f g sign e =
        let s = split_words (word_of x) (word_of y) (end_of x ++ p) (end_of y ++ q) f.high g.high (ends_append (end_of x) p f.ends) (ends_append (end_of y) q g.ends)
        (sym (append_assoc (word_of x) (end_of x) p) ∙ e ∙ append_assoc (word_of y) (end_of y) q) in
        record { sign = sign; word = s.0; end = s.1 }

    -- no word begins with `!`
    not_marked : (x : Head) (p q : List ℕ) → IsFormed x → ¬ ((word_of x ++ end_of x) ++ p ≡ 33 ∷ q)
    not_marked x p q f e =
        let k : f.first ∷ ((f.others ++ end_of x) ++ p) ≡ 33 ∷ q = ap (λ (l : List ℕ). (l ++ end_of x) ++ p) (sym f.some) ∙ e in
        let s : f.first ≡ 33 = cc in
        omega (arith, f.is_high, s)

    in_parts : (x y : Head) (a b : Bool) (p q : List ℕ) → sign_of x ≡ a → sign_of y ≡ b → IsFormed x → IsFormed y → (mark a ++ (word_of x ++ end_of x)) ++ p ≡ (mark b ++ (word_of y ++ end_of y)) ++ q → AreParts x y p q
    in_parts x y true true p q s t f g e = words_in x y p q f g (s ∙ sym t) cc
    in_parts x y true false p q s t f g e = absurd (not_marked y q ((word_of x ++ end_of x) ++ p) g (sym e))
    in_parts x y false true p q s t f g e = absurd (not_marked x p ((word_of y ++ end_of y) ++ q) f e)
    in_parts x y false false p q s t f g e = words_in x y p q f g (s ∙ sym t) e

    split_heads : (x y : Head) (p q : List ℕ) → IsGood sorts x → IsGood sorts y → heading x ++ p ≡ heading y ++ q → AreParts x y p q
    split_heads x y p q g h e =
        in_parts x y (sign_of x) (sign_of y) p q refl refl (formed x g) (formed y h) (ap (λ (l : List ℕ). l ++ p) (sym (parts_of x)) ∙ e ∙ ap (λ (l : List ℕ). l ++ q) (parts_of y))

    -- ---- heads with the same text are one

    differs : (t u : List ℕ) → differ t u ≡ true → ¬ (t ≡ u)
    differs t u h e = differ_apart t u [] [] h (ap (λ (l : List ℕ). l ++ []) e)

    reserved : (k : ℕ) (word : List ℕ) (place : ℕ) → k < length sig.symbols → place < length reserved_words → get_or reserved_words place word ≡ word → ¬ (symbol_name names k ≡ word)
    reserved k word place h within is e = (name_at k h).free (place, within, ap (λ (l : List ℕ). get_or reserved_words place l) e ∙ is ∙ sym e)

    equality_by : (a b : Bool) (e : ℕ) → e < length (texts (cond a Arguments (cond b Denial Unequal))) → differ (codes " = V") (text_at (texts (cond a Arguments (cond b Denial Unequal))) e) ≡ true
    equality_by true b zero h = refl
    equality_by true b (suc e) h = absurd (omega arith)
    equality_by false true zero h = refl
    equality_by false true (suc zero) h = refl
    equality_by false true (suc (suc e)) h = absurd (omega arith)
    equality_by false false zero h = refl
    equality_by false false (suc e) h = absurd (omega arith)

    equality_apart : (k e : ℕ) → e < length (texts (name_ending (symbol_at sig k))) → differ (codes " = V") (text_at (texts (name_ending (symbol_at sig k))) e) ≡ true
    equality_apart k e h = equality_by (not (eqb (length (symbol_at sig k).args) 0)) (symbol_at sig k).relation e h

    same_name : (j k : ℕ) → j < length sig.symbols → k < length sig.symbols → symbol_name names j ≡ symbol_name names k → j ≡ k
    same_name j k a b e = elim (cases_lt j k) [
      | inl lt ↦ absurd (named.symbols.distinct j k lt (omega (arith, named.symbols.one_each)) e)
      | inr le ↦ elim (cases_lt k j) [
        | inl gt ↦ absurd (named.symbols.distinct k j gt (omega (arith, named.symbols.one_each)) (sym e))
        | inr ge ↦ omega arith
      ]
    ]

    abbrev last_place : Bool → ℕ
    last_place last = cond last 1 0

    same_last : (a b : Bool) → last_place a ≡ last_place b → a ≡ b
    same_last true true e = refl
    same_last true false e = absurd (omega arith)
    same_last false true e = absurd (omega arith)
    same_last false false e = refl

    same_symbols : (sign other : Bool) (k j : ℕ) (last end : Bool) (p q : List ℕ) → IsGood sorts (Applied sign k last) → IsGood sorts (Applied other j end) → AreParts (Applied sign k last) (Applied other j end) p q → Applied sign k last ≡ Applied other j end
    same_symbols sign other k j last end p q g h a =
        let same : k ≡ j = same_name k j g.0 h.0 a.word in
        let here : ℕ → List (List ℕ) = λ m. texts (name_ending (symbol_at sig m)) in
        let ends_as : text_at (here k) (cond last 1 0) ++ p ≡ text_at (here k) (cond end 1 0) ++ q = a.end ∙ ap (λ (m : ℕ). text_at (here m) (cond end 1 0) ++ q) (sym same) in
        let within : cond end 1 0 < length (here k) = subst (λ (m : ℕ). cond end 1 0 < length (here m)) (sym same) h.1 in
        let places_same = texts_apart (here k) (are_apart_texts (name_ending (symbol_at sig k))) (cond last 1 0) (cond end 1 0) g.1 within p q ends_as in
        ap (λ (b : Bool). Applied b k last) a.sign ∙ ap (λ (m : ℕ). Applied other m last) same ∙ ap (λ (b : Bool). Applied other j b) (same_last last end places_same)

    same_heads : (x y : Head) (p q : List ℕ) → IsGood sorts x → IsGood sorts y → AreParts x y p q → x ≡ y
    same_heads Forall Forall p q g h a = refl
    same_heads Forall Nothing p q g h a = absurd (differs (codes "forall") (codes "false") refl a.word)
    same_heads Forall (Equal i) p q g h a = absurd (differs (codes "forall") (86 ∷ decimal i) refl a.word)
    same_heads Forall (Applied sign k last) p q g h a = absurd (reserved k (codes "forall") 12 h.0 (omega arith) refl (sym a.word))
    same_heads Nothing Forall p q g h a = absurd (differs (codes "false") (codes "forall") refl a.word)
    same_heads Nothing Nothing p q g h a = refl
    same_heads Nothing (Equal i) p q g h a = absurd (differs (codes "false") (86 ∷ decimal i) refl a.word)
    same_heads Nothing (Applied sign k last) p q g h a = absurd (reserved k (codes "false") 16 h.0 (omega arith) refl (sym a.word))
    same_heads (Equal i) Forall p q g h a = absurd (differs (86 ∷ decimal i) (codes "forall") refl a.word)
    same_heads (Equal i) Nothing p q g h a = absurd (differs (86 ∷ decimal i) (codes "false") refl a.word)
    same_heads (Equal i) (Equal j) p q g h a =
        let e : decimal i ≡ decimal j = cc a.word in
        ap Equal (decimal_same i j (omega arith) (omega arith) e)
    same_heads (Equal i) (Applied sign k last) p q g h a =
        absurd (differ_apart (codes " = V") (text_at (texts (name_ending (symbol_at sig k))) (cond last 1 0)) p q (equality_apart k (cond last 1 0) h.1) a.end)
    same_heads (Applied sign k last) Forall p q g h a = absurd (reserved k (codes "forall") 12 g.0 (omega arith) refl a.word)
    same_heads (Applied sign k last) Nothing p q g h a = absurd (reserved k (codes "false") 16 g.0 (omega arith) refl a.word)
    same_heads (Applied sign k last) (Equal i) p q g h a =
        absurd (differ_apart (codes " = V") (text_at (texts (name_ending (symbol_at sig k))) (cond last 1 0)) q p (equality_apart k (cond last 1 0) g.1) (sym a.end))
    same_heads (Applied sign k last) (Applied other j end) p q g h a = same_symbols sign other k j last end p q g h a

    pub heads_apart : (options : List Head) → ((h : Head) → Among options h → IsGood sorts h) → Apart heading options
    heads_apart options good x y a b p q e = same_heads x y p q (good x a) (good y b) (split_heads x y p q (good x a) (good y b) e)

    -- ---- what the code finds

    pub head_chosen : (options : List Head) → ((h : Head) → Among options h → IsGood sorts h) → (h : Head) (bytes rest : List ℕ) → Among options h → literal_at (heading h) bytes ≡ Ok rest → choose heading options bytes ≡ Ok (h, rest)
    head_chosen options good h bytes rest a e =
        choose_finds heading options bytes h rest e
        (λ y q b l. heads_apart options good y h b a q rest (sym (literal_found (heading y) bytes q l) ∙ literal_found (heading h) bytes rest e)) a

    pub equal_chosen : (v : ℕ) (bytes rest : List ℕ) → v < length sorts → literal_at (ended (codes "V") (decimal v) Equality 0) bytes ≡ Ok rest → choose heading (heads sig sorts) bytes ≡ Ok (Equal v, rest)
    equal_chosen v bytes rest h e = head_chosen (heads sig sorts) (heads_good sorts) (Equal v) bytes rest (to_equal sorts v h) e

    pub symbol_chosen : (x : Head × List ℕ) (bytes : List ℕ) → choose heading (signed_heads sig sorts false ++ signed_heads sig sorts true) bytes ≡ Ok x → choose heading (heads sig sorts) bytes ≡ Ok x
    symbol_chosen x bytes e =
        let t = choose_takes heading (signed_heads sig sorts false ++ signed_heads sig sorts true) bytes x.0 x.1 e in
        head_chosen (heads sig sorts) (heads_good sorts) x.0 bytes x.1 (among_right (equal_heads (length sorts)) (signed_heads sig sorts false ++ signed_heads sig sorts true) x.0 t.0) t.1

  or_else_swap : (left : ℕ) (r : Read Head) → or_else r (Err left) ≡ or_else (Err left) r
  or_else_swap left (Ok x) = refl
  or_else_swap left (Err m) = let e : min m left ≡ min left m = omega arith in ap (λ (n : ℕ). Err n) e

  pub signed_found : (sorts : List ℕ) (x : Head × List ℕ) (bytes : List ℕ) → choose heading (signed_heads sig sorts false) bytes ≡ Ok x → choose heading (signed_heads sig sorts false ++ signed_heads sig sorts true) bytes ≡ Ok x
  signed_found sorts x bytes e =
      choose_append heading (signed_heads sig sorts false) (signed_heads sig sorts true) bytes ∙ ap (λ (r : Read Head). or_else r (choose heading (signed_heads sig sorts true) bytes)) e

  pub signed_later : (sorts : List ℕ) (left : ℕ) (bytes : List ℕ) → choose heading (signed_heads sig sorts false) bytes ≡ Err left → choose heading (signed_heads sig sorts false ++ signed_heads sig sorts true) bytes ≡ or_else (Err left) (choose heading (signed_heads sig sorts true) bytes)
  signed_later sorts left bytes e =
      choose_append heading (signed_heads sig sorts false) (signed_heads sig sorts true) bytes ∙ ap (λ (r : Read Head). or_else r (choose heading (signed_heads sig sorts true) bytes)) e

  pub head_later : (sorts : List ℕ) (left : ℕ) (bytes : List ℕ) → choose heading (signed_heads sig sorts false ++ signed_heads sig sorts true) bytes ≡ Err left → choose heading (heads sig sorts) bytes ≡ or_else (Err left) (choose heading (equal_heads (length sorts)) bytes)
  head_later sorts left bytes e =
      choose_append heading (equal_heads (length sorts)) (signed_heads sig sorts false ++ signed_heads sig sorts true) bytes
      ∙ ap (λ (r : Read Head). or_else (choose heading (equal_heads (length sorts)) bytes) r) e ∙ or_else_swap left (choose heading (equal_heads (length sorts)) bytes)

  pub front_found : (h : Head) (options : List Head) (bytes rest : List ℕ) → literal_at (heading h) bytes ≡ Ok rest → choose heading (h ∷ options) bytes ≡ Ok (h, rest)
  front_found h options bytes rest e = choose_cons heading h options bytes ∙ ap (λ (r : Read Head). or_else r (choose heading options bytes)) (option_at_ok h bytes rest e)
    where
      option_at_ok : (g : Head) (l m : List ℕ) → literal_at (heading g) l ≡ Ok m → option_at heading g l ≡ Ok (g, m)
      option_at_ok g l m k = ap (λ (r : Result (List ℕ) ℕ). r >>= λ n. Ok (g, n)) k

  pub front_later : (h : Head) (options : List Head) (left : ℕ) (bytes : List ℕ) → literal_at (heading h) bytes ≡ Err left → choose heading (h ∷ options) bytes ≡ or_else (Err left) (choose heading options bytes)
  front_later h options left bytes e = choose_cons heading h options bytes ∙ ap (λ (r : Read Head). or_else r (choose heading options bytes)) (option_at_err h bytes left e)
    where
      option_at_err : (g : Head) (l : List ℕ) (n : ℕ) → literal_at (heading g) l ≡ Err n → option_at heading g l ≡ Err n
      option_at_err g l n k = ap (λ (r : Result (List ℕ) ℕ). r >>= λ m. Ok (g, m)) k

  pub first_none : eqb sig.sorts 0 ≡ true → first_heads sig ≡ Nothing ∷ heads sig []
  first_none e = ap (λ (c : Bool). cond c (Nothing ∷ heads sig []) (Forall ∷ Nothing ∷ heads sig [])) e

  pub first_some : eqb sig.sorts 0 ≡ false → first_heads sig ≡ Forall ∷ Nothing ∷ heads sig []
  first_some e = ap (λ (c : Bool). cond c (Nothing ∷ heads sig []) (Forall ∷ Nothing ∷ heads sig [])) e

  pub equal_found : (v : ℕ) (bytes rest : List ℕ) → literal_at (ended (codes "V") (decimal v) Equality 0) bytes ≡ Ok rest → choose heading (Equal v ∷ []) bytes ≡ Ok (Equal v, rest)
  equal_found v bytes rest e = choose_one heading (Equal v) bytes rest e

  pub equal_fails : (v left : ℕ) (bytes : List ℕ) → literal_at (ended (codes "V") (decimal v) Equality 0) bytes ≡ Err left → choose heading (Equal v ∷ []) bytes ≡ Err left
  equal_fails v left bytes e = choose_not heading (Equal v) bytes left e

-- What stands at the front of a text, and that it is one thing.
use Rattle.std.proofs.Common.{◌≡◌, ℕ, zero, suc, ◌+◌, ◌<◌, ◌≤◌, cond, List, [], ◌∷◌, ◌++◌, length, take, drop, get_or, Option, Some, None, refl, sym, ap, ap₂, subst, ◌∙◌, ◌⊎◌, inl, inr, arith, nat_eq}
use Rattle.std.specs.List.{All}
use Rattle.std.proofs.lemmas.List.Elements.{All-nil, All-cons, All-head, All-tail}
use Rattle.fo_core.specs.Named.{BeginsWord, ContinuesWord}
use Rattle.pyv_lex.specs.declared.token.Kind.{Kind}
use Rattle.pyv_lex.specs.declared.token.Kind.TheVariants.{Iff, Implies, Unequal, Equal, Bang, Amp, Bar, RoundLeft, RoundRight, SquareLeft, SquareRight, CurlyLeft, CurlyRight, Comma, Dot, Colon, Word}
use Rattle.pyv_lex.specs.Spelling.{IsDigit, IsOther, word_kind, Sign, Spells}
use Rattle.pyv_lex.specs.Spelling as rule
use Rattle.pyv_lex.specs.Cutting.{IsBlank, EndsLine, IsGap, IsLongest, IsPiece, BeginsBad}
use Rattle.pyv_lex.specs.Cutting as cut

-- ---- bytes of different kinds

pub word_low : (b : ℕ) → ContinuesWord b → 48 ≤ b
word_low b (inl (inl h)) = omega arith
word_low b (inl (inr (inl h))) = omega arith
word_low b (inl (inr (inr h))) = omega arith
word_low b (inr h) = omega arith

pub word_high : (b : ℕ) → ContinuesWord b → b ≤ 122
word_high b (inl (inl h)) = omega arith
word_high b (inl (inr (inl h))) = omega arith
word_high b (inl (inr (inr h))) = omega arith
word_high b (inr h) = omega arith

pub word_middle : (b : ℕ) → ContinuesWord b → 58 ≤ b → b ≤ 64 → ⊥
word_middle b (inl (inl h)) l r = omega arith
word_middle b (inl (inr (inl h))) l r = omega arith
word_middle b (inl (inr (inr h))) l r = omega arith
word_middle b (inr h) l r = omega arith

pub word_bracket : (b : ℕ) → ContinuesWord b → 91 ≤ b → b ≤ 94 → ⊥
word_bracket b (inl (inl h)) l r = omega arith
word_bracket b (inl (inr (inl h))) l r = omega arith
word_bracket b (inl (inr (inr h))) l r = omega arith
word_bracket b (inr h) l r = omega arith

pub blank_low : (b : ℕ) → IsBlank b → b ≤ 32
blank_low b (inl h) = omega arith
blank_low b (inr (inl h)) = omega arith
blank_low b (inr (inr (inl h))) = omega arith
blank_low b (inr (inr (inr h))) = omega arith

pub no_digit : (b : ℕ) → BeginsWord b → IsDigit b → ⊥
no_digit b (inl h) d = omega arith
no_digit b (inr (inl h)) d = omega arith
no_digit b (inr (inr h)) d = omega arith

-- ---- signs begin with bytes of their own

pub record Mark (b : ℕ) : Type 0 where
  pub no_word : ¬ ContinuesWord b
  pub low : 33 ≤ b
  pub no_hash : ¬ (b ≡ 35)
  pub high : b ≤ 126

low_mark : (b : ℕ) → b < 48 → 33 ≤ b → (b ≡ 35 → ⊥) → Mark b
low_mark b h l n = record { no_word = λ w. let k = word_low b w in absurd (omega arith); low = l; no_hash = n; high = omega arith }

high_mark : (b : ℕ) → 122 < b → b ≤ 126 → Mark b
high_mark b h l = record { no_word = λ w. let k = word_high b w in absurd (omega arith); low = omega arith; no_hash = λ e. absurd (omega arith); high = l }

middle_mark : (b : ℕ) → 58 ≤ b → b ≤ 64 → Mark b
middle_mark b h l = record { no_word = λ w. word_middle b w h l; low = omega arith; no_hash = λ e. absurd (omega arith); high = omega arith }

bracket_mark : (b : ℕ) → 91 ≤ b → b ≤ 94 → Mark b
bracket_mark b h l = record { no_word = λ w. word_bracket b w h l; low = omega arith; no_hash = λ e. absurd (omega arith); high = omega arith }

-- the first byte of a text, and 0 where there is none
abbrev pub head : List ℕ → ℕ
head [] = 0
head (b ∷ bs) = b

pub sign_mark : (k : Kind) (text : List ℕ) → Sign k text → Mark (head text)
sign_mark k _ rule.iff = middle_mark 60 (omega arith) (omega arith)
sign_mark k _ rule.implies = low_mark 45 (omega arith) (omega arith) (λ e. absurd (omega arith))
sign_mark k _ rule.unequal = low_mark 33 (omega arith) (omega arith) (λ e. absurd (omega arith))
sign_mark k _ rule.equal = middle_mark 61 (omega arith) (omega arith)
sign_mark k _ rule.bang = low_mark 33 (omega arith) (omega arith) (λ e. absurd (omega arith))
sign_mark k _ rule.amp = low_mark 38 (omega arith) (omega arith) (λ e. absurd (omega arith))
sign_mark k _ rule.bar = high_mark 124 (omega arith) (omega arith)
sign_mark k _ rule.round_left = low_mark 40 (omega arith) (omega arith) (λ e. absurd (omega arith))
sign_mark k _ rule.round_right = low_mark 41 (omega arith) (omega arith) (λ e. absurd (omega arith))
sign_mark k _ rule.square_left = bracket_mark 91 (omega arith) (omega arith)
sign_mark k _ rule.square_right = bracket_mark 93 (omega arith) (omega arith)
sign_mark k _ rule.curly_left = high_mark 123 (omega arith) (omega arith)
sign_mark k _ rule.curly_right = high_mark 125 (omega arith) (omega arith)
sign_mark k _ rule.comma = low_mark 44 (omega arith) (omega arith) (λ e. absurd (omega arith))
sign_mark k _ rule.dot = low_mark 46 (omega arith) (omega arith) (λ e. absurd (omega arith))
sign_mark k _ rule.colon = middle_mark 58 (omega arith) (omega arith)

pub sign_some : (k : Kind) (text : List ℕ) → Sign k text → 0 < length text
sign_some k [] h = elim h [ ]
sign_some k (b ∷ bs) h = omega arith

pub first_same : (t r t' r' : List ℕ) → t ++ r ≡ t' ++ r' → 0 < length t → 0 < length t' → head t ≡ head t'
first_same [] r t' r' q l m = absurd (omega arith)
first_same (b ∷ t) r [] r' q l m = absurd (omega arith)
first_same (b ∷ t) r (c ∷ t') r' q l m = cc

-- a number for each sign, by its bytes
abbrev mark_number : List ℕ → ℕ
mark_number [] = 0
mark_number (b ∷ []) = b
mark_number (b ∷ c ∷ []) = b + 1000
mark_number (b ∷ c ∷ d ∷ bs) = b + 2000

signs : List (ℕ × Kind)
signs = (2060, Iff) ∷ (1045, Implies) ∷ (1033, Unequal) ∷ (61, Equal) ∷ (33, Bang) ∷ (38, Amp) ∷ (124, Bar) ∷ (40, RoundLeft) ∷ (41, RoundRight) ∷ (91, SquareLeft) ∷ (93, SquareRight) ∷ (123, CurlyLeft) ∷ (125, CurlyRight) ∷ (44, Comma) ∷ (46, Dot) ∷ (58, Colon) ∷ []

abbrev kind_numbered : List (ℕ × Kind) → ℕ → Kind
kind_numbered [] n = Word
kind_numbered (e ∷ es) n = cond (nat_eq n e.0) e.1 (kind_numbered es n)

sign_back : (k : Kind) (text : List ℕ) → Sign k text → kind_numbered signs (mark_number text) ≡ k
unfolding signs
sign_back k _ rule.iff = refl
sign_back k _ rule.implies = refl
sign_back k _ rule.unequal = refl
sign_back k _ rule.equal = refl
sign_back k _ rule.bang = refl
sign_back k _ rule.amp = refl
sign_back k _ rule.bar = refl
sign_back k _ rule.round_left = refl
sign_back k _ rule.round_right = refl
sign_back k _ rule.square_left = refl
sign_back k _ rule.square_right = refl
sign_back k _ rule.curly_left = refl
sign_back k _ rule.curly_right = refl
sign_back k _ rule.comma = refl
sign_back k _ rule.dot = refl
sign_back k _ rule.colon = refl

sign_same : (k j : Kind) (text other : List ℕ) → Sign k text → Sign j other → text ≡ other → k ≡ j
sign_same k j text other s t e = sym (sign_back k text s) ∙ ap (λ x. kind_numbered signs (mark_number x)) e ∙ sign_back j other t

-- ---- runs

-- the text doesn't begin with such a byte
abbrev pub Ends : (ℕ → Type 0) → List ℕ → Type 0
Ends P [] = Unit {0}
Ends P (b ∷ bs) = ¬ P b

pub ends_at : (P : ℕ → Type 0) (s : List ℕ) (n : ℕ) → (n < length s → ¬ P (get_or s n 0)) → Ends P (drop n s)
ends_at P [] zero h = tt
ends_at P [] (suc n) h = tt
ends_at P (b ∷ s) zero h = h (omega arith)
ends_at P (b ∷ s) (suc n) h = ends_at P s n (λ l. h (omega arith))

pub all_taken : (P : ℕ → Type 0) (s : List ℕ) (n : ℕ) → n ≤ length s → ((k : ℕ) → k < n → P (get_or s k 0)) → All P (take n s)
all_taken P [] zero l h = All-nil P
all_taken P [] (suc n) l h = absurd (omega arith)
all_taken P (b ∷ s) zero l h = All-nil P
all_taken P (b ∷ s) (suc n) l h = All-cons P b (take n s) (h 0 (omega arith)) (all_taken P s n (omega arith) (λ k lt. h (suc k) (omega arith)))

-- a run that ends is the longest
run_longest : (P : ℕ → Type 0) (run rest other after : List ℕ) → Ends P rest → All P other → run ++ rest ≡ other ++ after → length other ≤ length run
run_longest P run rest [] after e h q = omega arith
run_longest P [] [] (o ∷ os) after e h q = absurd cc
run_longest P [] (b ∷ rest) (o ∷ os) after e h q =
    let same : b ≡ o = cc in
    absurd (e (subst P (sym same) (All-head P o os h)))
run_longest P (r ∷ run) rest (o ∷ os) after e h q =
    let next : run ++ rest ≡ os ++ after = cc in
    let k = run_longest P run rest os after e (All-tail P o os h) next in
    omega arith

-- ---- each piece is the longest

pub longest_word : (b : ℕ) (bs rest : List ℕ) → BeginsWord b → Ends ContinuesWord rest → IsLongest (b ∷ bs) rest
longest_word b bs rest w e kind _ after (rule.word o os h all) q =
    let next : bs ++ rest ≡ os ++ after = cc in
    let k = run_longest ContinuesWord bs rest os after e all next in
    omega arith
longest_word b bs rest w e kind _ after (rule.number o os d all) q =
    let same : b ≡ o = cc in
    absurd (no_digit b w (subst IsDigit (sym same) d))
longest_word b bs rest w e kind _ after (rule.sign k text s) q = absurd ((sign_mark k text s).no_word (subst ContinuesWord (first_same (b ∷ bs) rest text after q (omega arith) (sign_some k text s)) (inl w)))
longest_word b bs rest w e kind _ after (rule.other o x) q = omega arith

pub longest_number : (b : ℕ) (bs rest : List ℕ) → IsDigit b → Ends IsDigit rest → IsLongest (b ∷ bs) rest
longest_number b bs rest w e kind _ after (rule.number o os d all) q =
    let next : bs ++ rest ≡ os ++ after = cc in
    let k = run_longest IsDigit bs rest os after e all next in
    omega arith
longest_number b bs rest w e kind _ after (rule.word o os d all) q =
    let same : b ≡ o = cc in
    absurd (no_digit o d (subst IsDigit same w))
longest_number b bs rest w e kind _ after (rule.sign k text s) q = absurd ((sign_mark k text s).no_word (subst ContinuesWord (first_same (b ∷ bs) rest text after q (omega arith) (sign_some k text s)) (inr w)))
longest_number b bs rest w e kind _ after (rule.other o x) q = omega arith

pub longest_mark : (text rest : List ℕ) → 0 < length text → ¬ ContinuesWord (head text) → ((k : Kind) (other after : List ℕ) → Sign k other → text ++ rest ≡ other ++ after → length other ≤ length text) → IsLongest text rest
longest_mark text rest some no_word only kind _ after (rule.word o os d all) q = absurd (no_word (subst ContinuesWord (sym (first_same text rest (o ∷ os) after q some (omega arith))) (inl d)))
longest_mark text rest some no_word only kind _ after (rule.number o os d all) q = absurd (no_word (subst ContinuesWord (sym (first_same text rest (o ∷ os) after q some (omega arith))) (inr d)))
longest_mark text rest some no_word only kind _ after (rule.sign k other s) q = only k other after s q
longest_mark text rest some no_word only kind _ after (rule.other o x) q = omega arith

-- ---- one piece stands at the front

pub record TokenHead (text : List ℕ) : Type 0 where
  pub some : 0 < length text
  pub low : 33 ≤ head text
  pub no_hash : ¬ (head text ≡ 35)
  pub high : head text ≤ 126

pub token_head : (k : Kind) (text : List ℕ) → Spells k text → TokenHead text
token_head k _ (rule.word b bs w all) = let l = word_low b (inl w) in let m = word_high b (inl w) in record { some = omega arith; low = omega arith; no_hash = λ e. absurd (omega arith); high = omega arith }
token_head k _ (rule.number b bs w all) = record { some = omega arith; low = omega arith; no_hash = λ e. absurd (omega arith); high = omega arith }
token_head _ _ (rule.sign k text s) = let m = sign_mark k text s in record { some = sign_some k text s; low = m.low; no_hash = m.no_hash; high = m.high }
token_head k _ (rule.other b x) = let p = x.printable in record { some = omega arith; low = p.0; no_hash = x.no_comment; high = p.1 }

pub record GapHead (text : List ℕ) : Type 0 where
  pub some : 0 < length text
  pub is : IsBlank (head text) ⊎ (head text ≡ 35)

pub gap_head : (text rest : List ℕ) → IsGap text rest → GapHead text
gap_head _ _ (cut.blank b rest h) = record { some = omega arith; is = inl h }
gap_head _ _ (cut.comment body rest all e) = record { some = omega arith; is = inr refl }

gap_or_token : (k : Kind) (t r t' r' : List ℕ) → IsGap t r → Spells k t' → t ++ r ≡ t' ++ r' → ⊥
gap_or_token k t r t' r' g s q =
    let a = gap_head t r g in
    let b = token_head k t' s in
    let same = first_same t r t' r' q a.some b.some in
    elim a.is [
      | inl h ↦ let l = blank_low (head t) h in let m = b.low in absurd (omega arith)
      | inr h ↦ absurd (b.no_hash (sym same ∙ h))
    ]

-- two ways to cut a list at one length
pub same_cut : (p s q r : List ℕ) → p ++ s ≡ q ++ r → length p ≡ length q → (p ≡ q) × (s ≡ r)
same_cut [] s [] r e l = (refl, e)
same_cut [] s (t ∷ q) r e l = absurd (omega arith)
same_cut (t ∷ p) s [] r e l = absurd (omega arith)
same_cut (t ∷ p) s (u ∷ q) r e l =
    let h : p ++ s ≡ q ++ r = cc in
    let a : t ≡ u = cc in
    let rest = same_cut p s q r h (omega arith) in
    (ap₂ (λ (x : ℕ) (y : List ℕ). x ∷ y) a rest.0, rest.1)

kind_same : (k j : Kind) (text other : List ℕ) → Spells k text → Spells j other → text ≡ other → k ≡ j
kind_same k j _ _ (rule.word b bs w all) (rule.word c cs v too) e = ap word_kind e
kind_same k j _ _ (rule.word b bs w all) (rule.number c cs v too) e = let same : b ≡ c = cc in absurd (no_digit b w (subst IsDigit (sym same) v))
kind_same k _ _ _ (rule.word b bs w all) (rule.sign i other s) e = absurd ((sign_mark i other s).no_word (subst (λ t. ContinuesWord (head t)) e (inl w)))
kind_same k j _ _ (rule.word b bs w all) (rule.other c x) e = absurd (x.no_word (subst (λ t. ContinuesWord (head t)) e (inl w)))
kind_same k j _ _ (rule.number b bs w all) (rule.word c cs v too) e = let same : b ≡ c = cc in absurd (no_digit c v (subst IsDigit same w))
kind_same k j _ _ (rule.number b bs w all) (rule.number c cs v too) e = refl
kind_same k _ _ _ (rule.number b bs w all) (rule.sign i other s) e = absurd ((sign_mark i other s).no_word (subst (λ t. ContinuesWord (head t)) e (inr w)))
kind_same k j _ _ (rule.number b bs w all) (rule.other c x) e = absurd (x.no_word (subst (λ t. ContinuesWord (head t)) e (inr w)))
kind_same _ j _ _ (rule.sign i text s) (rule.word c cs v too) e = absurd ((sign_mark i text s).no_word (subst (λ t. ContinuesWord (head t)) (sym e) (inl v)))
kind_same _ j _ _ (rule.sign i text s) (rule.number c cs v too) e = absurd ((sign_mark i text s).no_word (subst (λ t. ContinuesWord (head t)) (sym e) (inr v)))
kind_same _ _ _ _ (rule.sign i text s) (rule.sign i' other s') e = sign_same i i' text other s s' e
kind_same _ j _ _ (rule.sign i text s) (rule.other c x) e = absurd (x.no_sign i (subst (Sign i) e s))
kind_same k j _ _ (rule.other b x) (rule.word c cs v too) e = absurd (x.no_word (subst (λ t. ContinuesWord (head t)) (sym e) (inl v)))
kind_same k j _ _ (rule.other b x) (rule.number c cs v too) e = absurd (x.no_word (subst (λ t. ContinuesWord (head t)) (sym e) (inr v)))
kind_same k _ _ _ (rule.other b x) (rule.sign i other s) e = absurd (x.no_sign i (subst (Sign i) (sym e) s))
kind_same k j _ _ (rule.other b x) (rule.other c y) e = refl

pub record Same (k j : Option Kind) (t r t' r' : List ℕ) : Type 0 where
  pub kind : k ≡ j
  pub text : t ≡ t'
  pub rest : r ≡ r'

line_ends : (rest : List ℕ) → EndsLine rest → Ends (λ b. ¬ (b ≡ 10)) rest
line_ends [] e = tt
line_ends (b ∷ rest) e = λ n. n e

gap_same : (t r t' r' : List ℕ) → IsGap t r → IsGap t' r' → t ++ r ≡ t' ++ r' → Same None None t r t' r'
gap_same _ _ _ _ (cut.blank b r h) (cut.blank c r' i) q =
    let same : b ≡ c = cc in
    record { kind = refl; text = ap (λ x. x ∷ []) same; rest = cc }
gap_same _ _ _ _ (cut.blank b r h) (cut.comment body r' all e) q =
    let same : b ≡ 35 = cc in
    absurd (let l = blank_low b h in omega arith)
gap_same _ _ _ _ (cut.comment body r all e) (cut.blank b r' h) q =
    let same : 35 ≡ b = cc in
    absurd (let l = blank_low b h in omega arith)
gap_same _ _ _ _ (cut.comment body r all e) (cut.comment body' r' all' e') q =
    let next : body ++ r ≡ body' ++ r' = cc in
    let a = run_longest (λ b. ¬ (b ≡ 10)) body r body' r' (line_ends r e) all' next in
    let b = run_longest (λ b. ¬ (b ≡ 10)) body' r' body r (line_ends r' e') all (sym next) in
    let s = same_cut body r body' r' next (omega arith) in
    record { kind = refl; text = ap (λ (x : List ℕ). 35 ∷ x) s.0; rest = s.1 }

pub unique : (k j : Option Kind) (t r t' r' : List ℕ) → IsPiece k t r → IsPiece j t' r' → t ++ r ≡ t' ++ r' → Same k j t r t' r'
unique None None t r t' r' g h q = gap_same t r t' r' g h q
unique None (Some j) t r t' r' g h q = absurd (gap_or_token j t r t' r' g h.0 q)
unique (Some k) None t r t' r' g h q = absurd (gap_or_token k t' r' t r h g.0 (sym q))
unique (Some k) (Some j) t r t' r' g h q =
    let a = g.1 j t' r' h.0 q in
    let b = h.1 k t r g.0 (sym q) in
    let s = same_cut t r t' r' q (omega arith) in
    record { kind = ap (λ (x : Kind). Some x) (kind_same k j t t' g.0 h.0 s.0); text = s.0; rest = s.1 }

pub some_piece : (k : Option Kind) (t r : List ℕ) → IsPiece k t r → 0 < length t
some_piece None t r g = (gap_head t r g).some
some_piece (Some k) t r g = (token_head k t g.0).some

no_bad_head : (b : ℕ) (bs : List ℕ) → BeginsBad (b ∷ bs) → (k : Option Kind) (t r : List ℕ) → IsPiece k t r → b ≡ head t → ⊥
no_bad_head b bs (inl low) None t r g same = elim (gap_head t r g).is [
  | inl h ↦ low.1 (subst IsBlank (sym same) h)
  | inr h ↦ absurd (let l = low.0 in omega arith)
]
no_bad_head b bs (inr high) None t r g same = elim (gap_head t r g).is [
  | inl h ↦ let l = blank_low (head t) h in absurd (omega arith)
  | inr h ↦ absurd (omega arith)
]
no_bad_head b bs (inl low) (Some k) t r g same = let h = token_head k t g.0 in let l = low.0 in let m = h.low in absurd (omega arith)
no_bad_head b bs (inr high) (Some k) t r g same = let h = token_head k t g.0 in let m = h.high in absurd (omega arith)

pub no_bad : (s : List ℕ) → BeginsBad s → (k : Option Kind) (t r : List ℕ) → IsPiece k t r → s ≡ t ++ r → ⊥
no_bad [] h k t r g q = absurd h
no_bad (b ∷ bs) h k t r g q = no_bad_head b bs h k t r g (first_same (b ∷ []) bs t r q (omega arith) (some_piece k t r g))

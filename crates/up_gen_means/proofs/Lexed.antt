-- A text is cut into tokens by computing, and these are its tokens.
use Rattle.std.proofs.Common.{◌≡◌, ℕ, zero, suc, ◌+◌, ◌<◌, ◌≤◌, ◌++◌, ◌&&◌, ◌==◌, ◌⊎◌, Bool, true, false, cond, List, [], ◌∷◌, length, take, drop, get_or, Option, Some, None, refl, sym, ap, subst, ◌∙◌, inl, inr, arith}
use Rattle.std.specs.List.{AllByRecursion}
use Rattle.std.proofs.lemmas.Bool.Decides.{Decides-eqb}
use Rattle.std.proofs.lemmas.List.Elements.{All-nil, All-cons, All-head}
use Rattle.std.proofs.lemmas.List.{take-append-drop, length-take-le, length-drop}
use Rattle.fo_core.specs.Named.{BeginsWord, ContinuesWord}
use Rattle.pyv_lex.specs.declared.token.Kind.{Kind}
use Rattle.pyv_lex.specs.declared.token.Kind.TheVariants.{Iff, Implies, Unequal, Equal, Bang, Amp, Bar, RoundLeft, RoundRight, SquareLeft, SquareRight, Comma, Colon}
use Rattle.pyv_lex.specs.declared.token.Token.{Token}
use Rattle.pyv_lex.specs.Cutting.{Cuts, piece, here, token_of, IsBlank}
use Rattle.pyv_lex.specs.Spelling.{Sign, word_kind}
use Rattle.pyv_lex.specs.Spelling as rule
use Rattle.pyv_lex.proofs.Fronts.{Fronts, blank_front, sign_front, word_front}
use Rattle.pyv_lex.proofs.Signs.{shape, two, three, single, at_most_one, at_most_two, at_most_three}
use Rattle.pyv_meaning.proofs.Basics.{true_or_false, and_left, and_right}
use Rattle.pyv_meaning.specs.Declaring.{begins_word, continues_word}
use Rattle.pyv_meaning.proofs.Words.{word_decided}

-- ---- what stands at the front: its kind, and how many bytes it has; no bytes where nothing is known

abbrev pub Piece : Type 0
Piece = Option Kind × ℕ

-- a sign of one byte
abbrev single_kind : List (ℕ × Kind) → ℕ → Option Kind
single_kind [] b = None
single_kind (e ∷ es) b = cond (b == e.0) (Some e.1) (single_kind es b)

abbrev singles : List (ℕ × Kind)
singles = (61, Equal) ∷ (33, Bang) ∷ (38, Amp) ∷ (124, Bar) ∷ (40, RoundLeft) ∷ (41, RoundRight) ∷ (91, SquareLeft) ∷ (93, SquareRight) ∷ (44, Comma) ∷ (58, Colon) ∷ []

abbrev single_piece : Option Kind → Piece
single_piece None = (None, 0)
single_piece (Some k) = (Some k, 1)

abbrev is_iff : List ℕ → Bool
is_iff s = (get_or s 0 0 == 60) && ((get_or s 1 0 == 45) && (get_or s 2 0 == 62))

abbrev is_implies : List ℕ → Bool
is_implies s = (get_or s 0 0 == 45) && (get_or s 1 0 == 62)

abbrev is_unequal : List ℕ → Bool
is_unequal s = (get_or s 0 0 == 33) && (get_or s 1 0 == 61)

abbrev sign_piece : List ℕ → Piece
sign_piece s = cond (is_iff s) (Some Iff, 3) (cond (is_implies s) (Some Implies, 2) (cond (is_unequal s) (Some Unequal, 2) (single_piece (single_kind singles (get_or s 0 0)))))

-- how many bytes go on with a word
abbrev run : List ℕ → ℕ
run [] = 0
run (b ∷ bs) = cond (continues_word b) (suc (run bs)) 0

abbrev word_piece : List ℕ → ℕ → Piece
word_piece s m = (Some (word_kind (take (suc m) s)), suc m)

abbrev is_blank : ℕ → Bool
is_blank b = cond (b == 32) true (b == 10)

abbrev next : List ℕ → Piece
next [] = (None, 0)
next (b ∷ bs) = cond (is_blank b) (None, 1) (cond (begins_word b) (word_piece (b ∷ bs) (run bs)) (sign_piece (b ∷ bs)))

-- ---- it is right

abbrev IsRight : List ℕ → Piece → Type 0
IsRight s p = (p.1 ≡ 0) ⊎ Fronts p.0 p.1 s

-- what holds of both holds of the one that is chosen
both : (a b : Bool) → a ≡ true → b ≡ true → (a && b) ≡ true
both a b s t = rw (s, t) refl

-- of a choice
pub by_cond : {A : Type 0} (P : A → Type 0) (c : Bool) (x y : A) → (c ≡ true → P x) → (c ≡ false → P y) → P (cond c x y)
by_cond P true x y f g = f refl
by_cond P false x y f g = g refl

not_both : (c : Bool) → c ≡ true → c ≡ false → ⊥
not_both c t f = absurd cc

begins_is : (b : ℕ) → begins_word b ≡ true → BeginsWord b
begins_is b t = ((word_decided (b ∷ [])).0 (both (begins_word b) true t refl)).0

continues_is : (b : ℕ) → continues_word b ≡ true → ContinuesWord b
continues_is b t = All-head ContinuesWord b [] ((word_decided (95 ∷ b ∷ [])).0 (both (continues_word b) true t refl)).1

is_continues : (b : ℕ) → ContinuesWord b → continues_word b ≡ true
is_continues b w = and_left (continues_word b) true ((word_decided (95 ∷ b ∷ [])).1 (inr (inr refl), All-cons ContinuesWord b [] w (All-nil ContinuesWord)))

run_cases : (b : ℕ) (bs : List ℕ) → ((continues_word b ≡ true) × (run (b ∷ bs) ≡ suc (run bs))) ⊎ ((continues_word b ≡ false) × (run (b ∷ bs) ≡ 0))
run_cases b bs = of (true_or_false (continues_word b))
  where
    of : (continues_word b ≡ true) ⊎ (continues_word b ≡ false) → ((continues_word b ≡ true) × (run (b ∷ bs) ≡ suc (run bs))) ⊎ ((continues_word b ≡ false) × (run (b ∷ bs) ≡ 0))
    of (inl t) = inl (t, ap (λ (c : Bool). cond c (suc (run bs)) 0) t)
    of (inr f) = inr (f, ap (λ (c : Bool). cond c (suc (run bs)) 0) f)

run_within : (bs : List ℕ) → run bs ≤ length bs
run_within [] = omega arith
run_within (b ∷ bs) = of (run_within bs) (run_cases b bs)
  where
    of : run bs ≤ length bs → ((continues_word b ≡ true) × (run (b ∷ bs) ≡ suc (run bs))) ⊎ ((continues_word b ≡ false) × (run (b ∷ bs) ≡ 0)) → run (b ∷ bs) ≤ length (b ∷ bs)
    of h (inl (_, e)) = omega (arith, h, e)
    of h (inr (_, e)) = omega (arith, e)

run_all : (bs : List ℕ) (k : ℕ) → k < run bs → ContinuesWord (get_or bs k 0)
run_all [] k h = absurd (omega (arith, h))
run_all (b ∷ bs) k h = of (run_all bs) (run_cases b bs)
  where
    at : ((j : ℕ) → j < run bs → ContinuesWord (get_or bs j 0)) → continues_word b ≡ true → (j : ℕ) → j < suc (run bs) → ContinuesWord (get_or (b ∷ bs) j 0)
    at more t zero lt = continues_is b t
    at more t (suc j) lt = more j (omega (arith, lt))

    of : ((j : ℕ) → j < run bs → ContinuesWord (get_or bs j 0)) → ((continues_word b ≡ true) × (run (b ∷ bs) ≡ suc (run bs))) ⊎ ((continues_word b ≡ false) × (run (b ∷ bs) ≡ 0)) → ContinuesWord (get_or (b ∷ bs) k 0)
    of more (inl (t, e)) = at more t k (subst (λ (m : ℕ). k < m) e h)
    of more (inr (_, e)) = absurd (omega (arith, e, h))

run_ends : (bs : List ℕ) → run bs < length bs → ¬ ContinuesWord (get_or bs (run bs) 0)
run_ends [] h = absurd (omega (arith, h))
run_ends (b ∷ bs) h = of (run_ends bs) (run_cases b bs)
  where
    of : (run bs < length bs → ¬ ContinuesWord (get_or bs (run bs) 0)) → ((continues_word b ≡ true) × (run (b ∷ bs) ≡ suc (run bs))) ⊎ ((continues_word b ≡ false) × (run (b ∷ bs) ≡ 0)) → ¬ ContinuesWord (get_or (b ∷ bs) (run (b ∷ bs)) 0)
    of more (inl (_, e)) = subst (λ (m : ℕ). ¬ ContinuesWord (get_or (b ∷ bs) m 0)) (sym e) (more (omega (arith, e, h)))
    of more (inr (f, e)) = subst (λ (m : ℕ). ¬ ContinuesWord (get_or (b ∷ bs) m 0)) (sym e) (λ w. not_both (continues_word b) (is_continues b w) f)

-- ---- signs

some_is : (k j : Kind) → Some k ≡ Some j → k ≡ j
some_is k j e = cc

single_is : (es : List (ℕ × Kind)) → AllByRecursion (λ (e : ℕ × Kind). Sign e.1 (e.0 ∷ [])) es → (b : ℕ) (k : Kind) → single_kind es b ≡ Some k → Sign k (b ∷ [])
single_is [] all b k e = absurd cc
single_is (x ∷ es) all b k e = of (single_is es all.1 b k) (true_or_false (b == x.0))
  where
    of : (single_kind es b ≡ Some k → Sign k (b ∷ [])) → ((b == x.0) ≡ true) ⊎ ((b == x.0) ≡ false) → Sign k (b ∷ [])
    of more (inl t) =
        let same : b ≡ x.0 = (Decides-eqb b x.0).0 t in
        let kind : x.1 ≡ k = some_is x.1 k (sym (ap (λ (c : Bool). cond c (Some x.1) (single_kind es b)) t) ∙ e) in
        subst (λ (j : Kind). Sign j (b ∷ [])) kind (subst (λ (c : ℕ). Sign x.1 (c ∷ [])) (sym same) all.0)
    of more (inr f) = more (sym (ap (λ (c : Bool). cond c (Some x.1) (single_kind es b)) f) ∙ e)

all_signs : AllByRecursion (λ (e : ℕ × Kind). Sign e.1 (e.0 ∷ [])) singles
all_signs = (rule.equal, (rule.bang, (rule.amp, (rule.bar, (rule.round_left, (rule.round_right, (rule.square_left, (rule.square_right, (rule.comma, (rule.colon, tt))))))))))

is : (s : List ℕ) (i n : ℕ) → (get_or s i 0 == n) ≡ true → get_or s i 0 ≡ n
is s i n t = (Decides-eqb (get_or s i 0) n).0 t

test : (s : List ℕ) (i n : ℕ) → get_or s i 0 ≡ n → (get_or s i 0 == n) ≡ true
test s i n e = (Decides-eqb (get_or s i 0) n).1 e

iff_right : (s : List ℕ) → is_iff s ≡ true → IsRight s (Some Iff, 3)
iff_right s t =
    let first = and_left _ _ t in
    let rest = and_right _ _ t in
    let f = three s 59 44 61 (is s 0 60 first) (is s 1 45 (and_left _ _ rest)) (is s 2 62 (and_right _ _ rest)) in
    inr (sign_front s 3 Iff f.within (subst (Sign Iff) (sym f.is) rule.iff) (λ k text after h e. at_most_three s k text (shape k text after s h e)))

implies_right : (s : List ℕ) → is_implies s ≡ true → IsRight s (Some Implies, 2)
implies_right s t =
    let first = is s 0 45 (and_left _ _ t) in
    let f = two s 44 61 first (is s 1 62 (and_right _ _ t)) in
    inr (sign_front s 2 Implies f.within (subst (Sign Implies) (sym f.is) rule.implies) (λ k text after h e. at_most_two s (λ p. absurd (omega (arith, p, first))) k text (shape k text after s h e)))

unequal_right : (s : List ℕ) → is_unequal s ≡ true → IsRight s (Some Unequal, 2)
unequal_right s t =
    let first = is s 0 33 (and_left _ _ t) in
    let f = two s 32 60 first (is s 1 61 (and_right _ _ t)) in
    inr (sign_front s 2 Unequal f.within (subst (Sign Unequal) (sym f.is) rule.unequal) (λ k text after h e. at_most_two s (λ p. absurd (omega (arith, p, first))) k text (shape k text after s h e)))

single_right : (s : List ℕ) → is_iff s ≡ false → is_implies s ≡ false → is_unequal s ≡ false → (o : Option Kind) → single_kind singles (get_or s 0 0) ≡ o → IsRight s (single_piece o)
single_right s no_iff no_implies no_unequal None e = inl refl
single_right s no_iff no_implies no_unequal (Some k) e =
    let one = single k s (get_or s 0 0) refl (single_is singles all_signs (get_or s 0 0) k e) in
    inr (sign_front s 1 k one.0 one.1 (λ j text after h f. at_most_one s
    (λ x y z. not_both (is_iff s) (both _ _ (test s 0 60 x) (both _ _ (test s 1 45 y) (test s 2 62 z))) no_iff)
    (λ x y. not_both (is_implies s) (both _ _ (test s 0 45 x) (test s 1 62 y)) no_implies)
    (λ x y. not_both (is_unequal s) (both _ _ (test s 0 33 x) (test s 1 61 y)) no_unequal)
    j text (shape j text after s h f)))

sign_right : (s : List ℕ) → IsRight s (sign_piece s)
sign_right s =
    by_cond (IsRight s) (is_iff s) (Some Iff, 3) _ (iff_right s)
    (λ no_iff. by_cond (IsRight s) (is_implies s) (Some Implies, 2) _ (implies_right s)
    (λ no_implies. by_cond (IsRight s) (is_unequal s) (Some Unequal, 2) _ (unequal_right s)
    (λ no_unequal. single_right s no_iff no_implies no_unequal (single_kind singles (get_or s 0 0)) refl)))

blank_is : (b : ℕ) → is_blank b ≡ true → IsBlank b
blank_is b t = of (true_or_false (b == 32))
  where
    of : ((b == 32) ≡ true) ⊎ ((b == 32) ≡ false) → IsBlank b
    of (inl e) = inl ((Decides-eqb b 32).0 e)
    of (inr f) = inr (inr (inr ((Decides-eqb b 10).0 (sym (ap (λ (c : Bool). cond c true (b == 10)) f) ∙ t))))

right : (s : List ℕ) → IsRight s (next s)
right [] = inl refl
right (b ∷ bs) =
    by_cond (IsRight (b ∷ bs)) (is_blank b) (None, 1) _ (λ t. inr (blank_front b bs (b ∷ bs) refl (blank_is b t)))
    (λ _. by_cond (IsRight (b ∷ bs)) (begins_word b) (word_piece (b ∷ bs) (run bs)) _
    (λ t. inr (word_front b bs (b ∷ bs) (run bs) (suc (run bs)) (word_kind (take (suc (run bs)) (b ∷ bs))) refl refl refl (begins_is b t) (run_within bs) (run_all bs) (run_ends bs)))
    (λ _. sign_right (b ∷ bs)))

-- ---- all of a text

abbrev pub before : Piece → ℕ → Option (List Token) → Option (List Token)
before p at None = None
before p at (Some ts) = cond (p.1 == 0) None (Some (token_of p.0 at p.1 ++ ts))

-- the tokens of a text that begins at the place at, in so many pieces
abbrev pub lex : ℕ → ℕ → List ℕ → Option (List Token)
lex n at [] = Some []
lex zero at (b ∷ bs) = None
lex (suc n) at (b ∷ bs) = let p = next (b ∷ bs) in before p at (lex n (at + p.1) (drop p.1 (b ∷ bs)))

step_cut : (at m : ℕ) (k : Option Kind) (s : List ℕ) (ts : List Token) → Fronts k m s → Cuts (at + m) (drop m s) ts (at + m + length (drop m s)) [] → Cuts at s (token_of k at m ++ ts) (at + length s) []
step_cut at m k s ts f c =
    let len : length (take m s) ≡ m = length-take-le m s f.0 in
    let within = f.0 in
    let dropped = length-drop m s in
    let ends : at + m + length (drop m s) ≡ at + length s = omega (arith, within, dropped) in
    let inner : Cuts (at + length (take m s)) (drop m s) ts (at + length s) [] = subst (λ (i : ℕ). Cuts (at + i) (drop m s) ts (at + length s) []) (sym len) (subst (λ (e : ℕ). Cuts (at + m) (drop m s) ts e []) ends c) in
    let whole = piece at k (take m s) (drop m s) ts (at + length s) [] f.1 inner in
    subst (λ (i : ℕ). Cuts at s (token_of k at i ++ ts) (at + length s) []) len (subst (λ (t : List ℕ). Cuts at t (token_of k at (length (take m s)) ++ ts) (at + length s) []) (take-append-drop m s) whole)

tokens_is : (ts us : List Token) → Some ts ≡ Some us → ts ≡ us
tokens_is ts us e = cc

pub lexed : (n at : ℕ) (s : List ℕ) (ts : List Token) → lex n at s ≡ Some ts → Cuts at s ts (at + length s) []
lexed n at [] ts e =
    let none : [] ≡ ts = tokens_is [] ts e in
    subst (λ (us : List Token). Cuts at [] us (at + 0) []) none (subst (λ (i : ℕ). Cuts at [] [] i []) (omega arith) (here at []))
lexed zero at (b ∷ bs) ts e = absurd cc
lexed (suc n) at (b ∷ bs) ts e = with_piece (next (b ∷ bs)) (right (b ∷ bs)) (lex n (at + (next (b ∷ bs)).1) (drop (next (b ∷ bs)).1 (b ∷ bs))) (lexed n (at + (next (b ∷ bs)).1) (drop (next (b ∷ bs)).1 (b ∷ bs))) e
  where
    unchosen : (c : Bool) (us : List Token) → cond c None (Some us) ≡ Some ts → (c ≡ false) × (us ≡ ts)
    unchosen true us h = absurd cc
    unchosen false us h = (refl, tokens_is us ts h)

    with_piece : (p : Piece) → IsRight (b ∷ bs) p → (o : Option (List Token)) → ((us : List Token) → o ≡ Some us → Cuts (at + p.1) (drop p.1 (b ∷ bs)) us (at + p.1 + length (drop p.1 (b ∷ bs))) []) → before p at o ≡ Some ts → Cuts at (b ∷ bs) ts (at + length (b ∷ bs)) []
    with_piece p good None rest h = absurd cc
    with_piece p good (Some us) rest h =
        let k = unchosen (p.1 == 0) (token_of p.0 at p.1 ++ us) h in
        by good k.0 k.1
      where
        by : IsRight (b ∷ bs) p → (p.1 == 0) ≡ false → token_of p.0 at p.1 ++ us ≡ ts → Cuts at (b ∷ bs) ts (at + length (b ∷ bs)) []
        by (inl none) some same = absurd (not_both (p.1 == 0) ((Decides-eqb p.1 0).1 none) some)
        by (inr f) some same = subst (λ (l : List Token). Cuts at (b ∷ bs) l (at + length (b ∷ bs)) []) same (step_cut at p.1 p.0 (b ∷ bs) us f (rest us refl))

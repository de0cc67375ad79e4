-- Words, and lists of distinct ones.
use Rattle.std.proofs.Common.{◌≡◌, ℕ, zero, suc, ◌+◌, ◌<◌, ◌≤◌, ◌++◌, ◌&&◌, true, false, not, List, [], ◌∷◌, length, refl, sym, ap, ◌∙◌, subst, inl, inr, arith, append_assoc}
use Rattle.std.specs.Bool.{Decides}
use Rattle.std.specs.List.{All, Contains, list_all, list_any}
use Rattle.std.specs.Str.{bytes_eq}
use Rattle.std.specs.Prelude.{nat_lt, slice_index_or, IsUtf8, IsAscii}
use Rattle.std.proofs.lemmas.Str.{IsUtf8-from_ascii}
use Rattle.std.proofs.lemmas.Bool.Decides.{Decides-and, Decides-or, Decides-not, Decides-like, Decides-by_and, Decides-by_or, Decides-eqb}
use Rattle.std.proofs.lemmas.List.Elements.{All-nil, All-cons, All-head, All-tail, Decides-contains}
use Rattle.std.proofs.lemmas.Slice.Eq.{bytes_eq-Decides}
use Rattle.fo_core.specs.Named.{BeginsWord, ContinuesWord, IsWord, reserved_words, IsName, AreDistinct}
use Rattle.pyv_meaning.specs.Closing.{names_word}
use Rattle.pyv_meaning.specs.Declaring.{begins_word, continues_word, is_word, is_name, words}
use Rattle.pyv_meaning.specs.Gets.{Among, here, there}
use Rattle.pyv_meaning.specs.Tree.{Name}
use Rattle.pyv_meaning.proofs.Basics.{below, is_below, true_or_false, among_right}
use Rattle.pyv_meaning.proofs.Lookups.{NoRepeat, one_more, word_has}

between_decided : (a b c : ℕ) → Decides (nat_lt a b && nat_lt b c) ((a + 1 ≤ b) × (b + 1 ≤ c))
between_decided a b c = Decides-and (nat_lt a b) (nat_lt b c) (λ h. omega (arith, below a b h), λ h. is_below a b (omega (arith, h))) (λ h. omega (arith, below b c h), λ h. is_below b c (omega (arith, h)))

range_decided : (a b c d e : ℕ) → a + 1 ≡ d → e + 1 ≡ c → Decides (nat_lt a b && nat_lt b c) ((d ≤ b) × (b ≤ e))
range_decided a b c d e p q = let k = between_decided a b c in (λ h. let r = k.0 h in (omega (arith, r.0, p), omega (arith, r.1, q)), λ h. k.1 (omega (arith, h.0, p), omega (arith, h.1, q)))

begins_decided : (b : ℕ) → Decides (begins_word b) (BeginsWord b)
begins_decided b = Decides-or _ _ (range_decided 64 b 91 65 90 refl refl) (Decides-or _ _ (range_decided 96 b 123 97 122 refl refl) (Decides-eqb b 95))

continues_decided : (b : ℕ) → Decides (continues_word b) (ContinuesWord b)
continues_decided b = Decides-or (begins_word b) _ (begins_decided b) (range_decided 47 b 58 48 57 refl refl)

all_continue : (bs : List ℕ) → Decides (list_all continues_word bs) (All ContinuesWord bs)
all_continue = Decides-by_and continues_word ContinuesWord (list_all continues_word) continues_decided refl (λ x xs. refl)

pub word_decided : (w : List ℕ) → Decides (is_word w) (IsWord w)
word_decided [] = (λ h. absurd (cc), λ h. absurd h)
word_decided (b ∷ bs) = Decides-and (begins_word b) (list_all continues_word bs) (begins_decided b) (all_continue bs)

pub among_decided : (w : List ℕ) (ws : List (List ℕ)) → Decides (list_any (bytes_eq w) ws) (Contains ws w)
among_decided w ws =
    Decides-contains ws w (list_any (bytes_eq w) ws)
    (Decides-by_or (bytes_eq w) (λ (y : List ℕ). y ≡ w) (list_any (bytes_eq w)) (λ y. Decides-like (bytes_eq w y) sym sym (bytes_eq-Decides w y)) refl (λ x xs. refl) ws)

pub name_decided : (w : List ℕ) → Decides (is_name w) (IsName w)
name_decided w =
    Decides-like (is_name w) (λ h. record { word = h.0; free = h.1 }) (λ h. (h.word, h.free))
    (Decides-and (is_word w) (not (list_any (bytes_eq w) reserved_words)) (word_decided w) (Decides-not (list_any (bytes_eq w) reserved_words) (among_decided w reserved_words)))

-- ---- distinct names

among_at : (ns : List Name) (i : ℕ) → i < length (words ns) → (n : Name) × Among n ns × (slice_index_or (words ns) i [] ≡ n.word)
among_at [] i lt = absurd (omega arith)
among_at (n ∷ ns) zero lt = (n, here _ _, refl)
among_at (n ∷ ns) (suc i) lt = let r = among_at ns i (omega arith) in (r.0, there _ _ _ r.1, r.2)

pub distinct_words : (ns : List Name) → NoRepeat ns → AreDistinct (words ns)
distinct_words [] r i j lt le e = absurd (omega arith)
distinct_words (n ∷ ns) r i zero lt le e = absurd (omega arith)
distinct_words (n ∷ ns) r zero (suc j) lt le e = let a = among_at ns j (omega arith) in r.0 a.0 a.1 (sym a.2 ∙ sym e)
distinct_words (n ∷ ns) r (suc i) (suc j) lt le e = distinct_words ns r.1 i j (omega arith) (omega arith) e

at_among : (ns : List Name) (n : Name) → Among n ns → (i : ℕ) × (i < length (words ns)) × (slice_index_or (words ns) i [] ≡ n.word)
at_among _ n (here _ ns) = (0, omega arith, refl)
at_among _ n (there _ m ns q) = let r = at_among ns n q in (suc r.0, omega (arith, r.1), r.2)

pub words_distinct : (ns : List Name) → AreDistinct (words ns) → NoRepeat ns
words_distinct [] d = tt
words_distinct (n ∷ ns) d = (
  λ m q e. let a = at_among ns m q in d zero (suc a.0) (omega arith) (omega (arith, a.1)) (sym (a.2 ∙ e)),
  words_distinct ns (λ i j lt le e. d (suc i) (suc j) (omega arith) (omega arith) e),
)

pub all_names : (ns : List Name) → ((n : Name) → Among n ns → is_name n.word ≡ true) → All IsName (words ns)
all_names [] h = All-nil IsName
all_names (n ∷ ns) h = All-cons IsName n.word (words ns) ((name_decided n.word).0 (h n (here _ _))) (all_names ns (λ m q. h m (there _ _ _ q)))

pub names_all : (ns : List Name) → All IsName (words ns) → (n : Name) → Among n ns → is_name n.word ≡ true
names_all _ h n (here _ ns) = (name_decided n.word).1 (All-head IsName n.word (words ns) h)
names_all _ h n (there _ m ns q) = names_all ns (All-tail IsName m.word (words ns) h) n q

-- Each is a name, and none of those before it.
abbrev pub AreNew : List Name → List Name → Type 0
AreNew known [] = Unit {0}
AreNew known (n ∷ ns) = (is_name n.word ≡ true) × (names_word known n.word ≡ false) × AreNew (known ++ n ∷ []) ns

pub new_repeat : (known ns : List Name) → NoRepeat known → AreNew known ns → NoRepeat (known ++ ns)
new_repeat known [] r h = subst NoRepeat (sym (append_none known)) r
  where
    append_none : (ns : List Name) → ns ++ [] ≡ ns
    append_none [] = refl
    append_none (n ∷ ns) = ap (λ (t : List Name). n ∷ t) (append_none ns)
new_repeat known (n ∷ ns) r h = subst NoRepeat (append_assoc known (n ∷ []) ns) (new_repeat (known ++ n ∷ []) ns (one_more known n h.1 r) h.2)

pub new_names : (known ns : List Name) → AreNew known ns → (n : Name) → Among n ns → is_name n.word ≡ true
new_names known _ h n (here _ ns) = h.0
new_names known _ h n (there _ m ns q) = new_names (known ++ m ∷ []) ns h.2 n q

apart : (a b : List Name) (n m : Name) → NoRepeat (a ++ n ∷ b) → Among m a → m.word ≡ n.word → ⊥
apart _ b n m r (here _ a) e = r.0 n (among_right n a (n ∷ b) (here _ _)) (sym e)
apart _ b n m r (there _ k a q) e = apart a b n m r.1 q e

pub not_named : (a b : List Name) (n : Name) → NoRepeat (a ++ n ∷ b) → names_word a n.word ≡ false
not_named a b n r = elim (true_or_false (names_word a n.word)) [ inl t ↦ let w = word_has a n.word t in absurd (apart a b n w.0 r w.1 w.2) | inr t ↦ t ]

pub repeat_new : (known ns : List Name) → NoRepeat (known ++ ns) → ((n : Name) → Among n ns → is_name n.word ≡ true) → AreNew known ns
repeat_new known [] r w = tt
repeat_new known (n ∷ ns) r w = (w n (here _ _), not_named known ns n r, repeat_new (known ++ n ∷ []) ns (subst NoRepeat (sym (append_assoc known (n ∷ []) ns)) r) (λ m q. w m (there _ _ _ q)))

-- ---- words are ASCII

begins_ascii : (b : ℕ) → BeginsWord b → b < 128
begins_ascii b h = elim h [ inl k ↦ omega (arith, k.1) | inr r ↦ elim r [ inl k ↦ omega (arith, k.1) | inr e ↦ omega (arith, e) ] ]

continues_ascii : (b : ℕ) → ContinuesWord b → b < 128
continues_ascii b h = elim h [ inl k ↦ begins_ascii b k | inr k ↦ omega (arith, k.1) ]

all_ascii : (bs : List ℕ) → All ContinuesWord bs → IsAscii bs
all_ascii [] h i = omega arith
all_ascii (b ∷ bs) h zero = continues_ascii b (All-head ContinuesWord b bs h)
all_ascii (b ∷ bs) h (suc i) = all_ascii bs (All-tail ContinuesWord b bs h) i

pub word_ascii : (w : List ℕ) → IsWord w → IsAscii w
word_ascii [] h i = absurd h
word_ascii (b ∷ bs) h zero = begins_ascii b h.0
word_ascii (b ∷ bs) h (suc i) = all_ascii bs h.1 i

-- So a word is text.
pub word_utf8 : (w : List ℕ) → IsWord w → IsUtf8 w
word_utf8 w h = IsUtf8-from_ascii w (word_ascii w h)

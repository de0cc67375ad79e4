-- Words of a clause, and what ends them, can't be mistaken for one another.
use Rattle.std.proofs.Common.{◌≡◌, ℕ, zero, suc, ◌+◌, ◌-◌, ◌%◌, ◌^◌, ◌<◌, ◌≤◌, inl, inr, true, List, [], ◌∷◌, ◌++◌, length, decimal, refl, sym, ap, ◌∙◌, append_assoc, arith}
use Rattle.std.specs.List.{AllByRecursion}
use Rattle.std.proofs.lemmas.Fmt.{decimal_by_steps}
use Rattle.std.proofs.lemmas.List.Elements.{recursion_from_All}
use Rattle.fo_core.specs.Named.{BeginsWord, ContinuesWord, IsWord}
use Rattle.fo_text.specs.Reading.{number_at}
use Rattle.fo_text.proofs.Exact.{ok_is}
use Rattle.fo_text.proofs.Numbers.{exact_number}
use Rattle.fo_text.proofs.Choices.{are_apart, text_at, texts_apart}
use Rattle.up_report.specs.declared.clause_heads.Ending.{Ending}
use Rattle.up_report.specs.declared.clause_heads.Ending.TheVariants.{Argument, LastArgument, Denial, Equality, Arguments, Unequal, Sort, LastSort}
use Rattle.up_report.specs.ClauseReading.{texts}

-- ---- bytes of words are letters, digits and `_`, which stand above those that end words

abbrev pub AreHigh : List ℕ → Type 0
AreHigh w = AllByRecursion (λ b. 48 ≤ b) w

pub high_append : (v w : List ℕ) → AreHigh v → AreHigh w → AreHigh (v ++ w)
high_append [] w h k = k
high_append (b ∷ v) w h k = (h.0, high_append v w h.1 k)

begins_high : (b : ℕ) → BeginsWord b → 48 ≤ b
begins_high b h = elim h [
  | inl l ↦ omega (arith, l.0)
  | inr r ↦ elim r [
    | inl l ↦ omega (arith, l.0)
    | inr e ↦ omega (arith, e)
  ]
]

continues_high : (b : ℕ) → ContinuesWord b → 48 ≤ b
continues_high b h = elim h [
  | inl l ↦ begins_high b l
  | inr r ↦ r.0
]

all_high : (bs : List ℕ) → AllByRecursion ContinuesWord bs → AreHigh bs
all_high [] h = tt
all_high (b ∷ bs) h = (continues_high b h.0, all_high bs h.1)

pub word_high : (w : List ℕ) → IsWord w → AreHigh w
word_high [] h = absurd h
word_high (b ∷ bs) h = (begins_high b h.0, all_high bs (recursion_from_All ContinuesWord bs h.1))

-- a word isn't empty
pub word_some : (w : List ℕ) → IsWord w → (b : ℕ) × (v : List ℕ) × (w ≡ b ∷ v) × (48 ≤ b)
word_some [] h = absurd h
word_some (b ∷ bs) h = (b, bs, refl, begins_high b h.0)

pub decimal_high : (n : ℕ) → n < 2 ^ 64 → AreHigh (decimal n)
decimal_high n small = decimal_by_steps (λ m ds. AreHigh ds) (λ m h. (omega arith, tt)) (λ m ds h k. high_append ds ((48 + m % 10) ∷ []) k (omega arith, tt)) n small

pub decimal_same : (m n : ℕ) → m < 2 ^ 64 → n < 2 ^ 64 → decimal m ≡ decimal n → m ≡ n
decimal_same m n a b e =
    let exact = exact_number 0 (2 ^ 64 - 1) 32 (record { range = omega arith; small = omega arith; ends = omega arith }) in
    let p = exact.again m [] (omega arith, omega arith) in
    let q = exact.again n [] (omega arith, omega arith) in
    let s = ap (λ (l : List ℕ). number_at 0 (2 ^ 64 - 1) 32 ((l ++ 32 ∷ []) ++ [])) e in
    ap (λ (x : ℕ × List ℕ). x.0) (ok_is (m, []) (n, []) (sym p ∙ s ∙ q))

-- ---- a word ends at the first byte that stands in none

-- the text begins with such a byte
abbrev pub Ends : List ℕ → Type 0
Ends [] = ⊥
Ends (b ∷ t) = b < 48

pub ends_append : (t p : List ℕ) → Ends t → Ends (t ++ p)
ends_append [] p h = absurd h
ends_append (b ∷ t) p h = h

pub split_words : (v w t u : List ℕ) → AreHigh v → AreHigh w → Ends t → Ends u → v ++ t ≡ w ++ u → (v ≡ w) × (t ≡ u)
split_words [] [] t u a b c d e = (refl, e)
split_words [] (y ∷ w) [] u a b c d e = absurd c
split_words [] (y ∷ w) (x ∷ t) u a b c d e = let s : x ≡ y = cc in absurd (omega (arith, b.0, c, s))
split_words (x ∷ v) [] t [] a b c d e = absurd d
split_words (x ∷ v) [] t (y ∷ u) a b c d e = let s : x ≡ y = cc in absurd (omega (arith, a.0, d, s))
split_words (x ∷ v) (y ∷ w) t u a b c d e =
    let s : x ≡ y = cc in
    let k : v ++ t ≡ w ++ u = cc in
    let r = split_words v w t u a.1 b.1 c d k in
    (ap (λ (z : ℕ). z ∷ v) s ∙ ap (λ (l : List ℕ). y ∷ l) r.0, r.1)

-- ---- the texts that end words

pub few_texts : (ending : Ending) → length (texts ending) ≤ 2
few_texts Argument = omega arith
few_texts LastArgument = omega arith
few_texts Denial = omega arith
few_texts Equality = omega arith
few_texts Arguments = omega arith
few_texts Unequal = omega arith
few_texts Sort = omega arith
few_texts LastSort = omega arith

pub some_text : (ending : Ending) → 0 < length (texts ending)
some_text Argument = omega arith
some_text LastArgument = omega arith
some_text Denial = omega arith
some_text Equality = omega arith
some_text Arguments = omega arith
some_text Unequal = omega arith
some_text Sort = omega arith
some_text LastSort = omega arith

pub are_apart_texts : (ending : Ending) → are_apart (texts ending) ≡ true
are_apart_texts Argument = refl
are_apart_texts LastArgument = refl
are_apart_texts Denial = refl
are_apart_texts Equality = refl
are_apart_texts Arguments = refl
are_apart_texts Unequal = refl
are_apart_texts Sort = refl
are_apart_texts LastSort = refl

first_ends : (ending : Ending) → Ends (text_at (texts ending) 0)
first_ends Argument = omega arith
first_ends LastArgument = omega arith
first_ends Denial = omega arith
first_ends Equality = omega arith
first_ends Arguments = omega arith
first_ends Unequal = omega arith
first_ends Sort = omega arith
first_ends LastSort = omega arith

second_ends : (ending : Ending) → 1 < length (texts ending) → Ends (text_at (texts ending) 1)
second_ends Argument h = absurd (omega arith)
second_ends LastArgument h = absurd (omega arith)
second_ends Denial h = omega arith
second_ends Equality h = absurd (omega arith)
second_ends Arguments h = absurd (omega arith)
second_ends Unequal h = absurd (omega arith)
second_ends Sort h = omega arith
second_ends LastSort h = absurd (omega arith)

pub text_ends : (ending : Ending) (e : ℕ) → e < length (texts ending) → Ends (text_at (texts ending) e)
text_ends ending zero h = first_ends ending
text_ends ending (suc zero) h = second_ends ending h
text_ends ending (suc (suc e)) h = absurd (omega (arith, few_texts ending, h))

-- two words with their ends in front of the same bytes
pub same_ends : (ending : Ending) (v w p q : List ℕ) (e f : ℕ) → AreHigh v → AreHigh w → e < length (texts ending) → f < length (texts ending)
    → (v ++ text_at (texts ending) e) ++ p ≡ (w ++ text_at (texts ending) f) ++ q → (v ≡ w) × (e ≡ f)
same_ends ending v w p q e f a b h k is =
    let s = split_words v w (text_at (texts ending) e ++ p) (text_at (texts ending) f ++ q) a b
    (ends_append (text_at (texts ending) e) p (text_ends ending e h)) (ends_append (text_at (texts ending) f) q (text_ends ending f k))
    (sym (append_assoc v (text_at (texts ending) e) p) ∙ is ∙ append_assoc w (text_at (texts ending) f) q) in
    (s.0, texts_apart (texts ending) (are_apart_texts ending) e f h k p q s.1)

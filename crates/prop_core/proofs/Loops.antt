-- What a loop over a list has seen, and what its end says of the whole.
use Rattle.std.proofs.Common.{◌≡◌, ℕ, ◌<◌, ◌≤◌, ◌+◌, ◌↔◌, Bool, true, false, List, take, length, get_or, refl, sym, ◌∙◌, subst}
use Rattle.std.specs.Prelude.{IsTrue}
use Rattle.std.specs.List.{All}
use Rattle.std.proofs.lemmas.Bool.{false≢true}
use Rattle.std.proofs.lemmas.List.{take_all}
use Rattle.std.proofs.lemmas.List.Elements.{All-more, All-get_or}

pub all_next : {X : Type 0} (P : X → Type 0) (xs : List X) (i : ℕ) (x : X) → i < length xs → All P (take i xs) → x ≡ get_or xs i x → P x → All P (take (i + 1) xs)
all_next P xs i x within all is here = All-more P xs i x within all (subst P is here)

pub all_end : {X : Type 0} (P : X → Type 0) (xs ys : List X) (i : ℕ) → length xs ≤ i → All P (take i xs) → xs ≡ ys → All P ys
all_end {X = X} P xs ys i past all is =
    let Q : List X → Type 0 = λ zs. All P zs in
    subst Q is (subst Q (take_all i xs past) all)

-- one element that fails is enough
pub not_all : {X : Type 0} (P : X → Type 0) (xs ys : List X) (i : ℕ) (x : X) → i < length xs → x ≡ get_or xs i x → xs ≡ ys → (P x → ⊥) → All P ys → ⊥
not_all {X = X} P xs ys i x within is same fails all =
    let Q : List X → Type 0 = λ zs. All P zs in
    fails (subst P (sym is) (All-get_or P xs i x within (subst Q (sym same) all)))

-- a test that answered
pub said : {P : Type 0} (b : Bool) → (IsTrue b ↔ P) → b ≡ true → P
said b exact is = exact.0 is

pub denied : {P : Type 0} (b : Bool) → (IsTrue b ↔ P) → b ≡ false → P → ⊥
denied b exact is p = false≢true (sym is ∙ exact.1 p)

pub whole : {P : Type 0} → P → (IsTrue true ↔ P)
whole p = (λ _. p, λ _. refl)

pub broken : {P : Type 0} → (P → ⊥) → (IsTrue false ↔ P)
broken fails = (λ h. absurd (false≢true h), λ p. absurd (fails p))

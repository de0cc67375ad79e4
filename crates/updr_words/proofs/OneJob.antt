-- Words ask for one job at most, and its numbers lie in their ranges.
use Rattle.std.proofs.Common.{◌≡◌, ◌∙◌, ℕ, Bool, List, [], ◌∷◌, Some, refl, sym, ap₂}
use Rattle.clap.specs.Words.{Row, Text, matches_of}
use Rattle.updr_words.specs.Forms.{Form, Number, app_by}
use Rattle.updr_words.specs.Jobs.{Job, IsJob, GivesFile, GivesNumber, AreInRange}
use Rattle.std.specs.List.{AllZip}

-- what pairs with one item each alone pairs with one list alone
one_list : {A B : Type 0} (R : A → B → Type 0) → ((x : A) (y z : B) → R x y → R x z → y ≡ z) → (xs : List A) (ys zs : List B) → AllZip R xs ys → AllZip R xs zs → ys ≡ zs
one_list R one [] [] [] p q = refl
one_list R one [] [] (z ∷ zs) p q = absurd q
one_list R one [] (y ∷ ys) zs p q = absurd p
one_list R one (x ∷ xs) [] zs p q = absurd p
one_list R one (x ∷ xs) (y ∷ ys) [] p q = absurd q
one_list R one (x ∷ xs) (y ∷ ys) (z ∷ zs) p q = ap₂ (λ a b. a ∷ b) (one x y z p.0 q.0) (one_list R one xs ys zs p.1 q.1)

pub weaker : {A B : Type 0} (R Q : A → B → Type 0) → ((x : A) (y : B) → R x y → Q x y) → (xs : List A) (ys : List B) → AllZip R xs ys → AllZip Q xs ys
weaker R Q so [] [] p = tt
weaker R Q so [] (y ∷ ys) p = absurd p
weaker R Q so (x ∷ xs) [] p = absurd p
weaker R Q so (x ∷ xs) (y ∷ ys) p = (so x y p.0, weaker R Q so xs ys p.1)

one_some : {A : Type 0} (x y : A) → Some x ≡ Some y → x ≡ y
one_some x y is = cc

one_number : (rows : List Row) (n : Number) (v w : ℕ) → GivesNumber rows n v → GivesNumber rows n w → v ≡ w
one_number rows n v w g h =
    let text : g.text ≡ h.text = one_some g.text h.text (sym g.given ∙ h.given) in
    g.read.1 ∙ sym (rw (← text) at h.read).1

module _ (form : Form) (words : List Text) where
  pub one_job : (j k : Job) → IsJob form words j → IsJob form words k → j ≡ k
  one_job j k is too =
      let files : j.files ≡ k.files = one_list (GivesFile (matches_of (app_by form) words)) (λ n s t p q. one_some s t (sym p ∙ q)) form.files j.files k.files is.files too.files in
      let numbers : j.numbers ≡ k.numbers = one_list (GivesNumber (matches_of (app_by form) words)) (one_number (matches_of (app_by form) words)) form.numbers j.numbers k.numbers is.numbers too.numbers in
      let flags : j.flags ≡ k.flags = is.flags ∙ sym too.flags in
      ap₂ (λ (parts : List Text × List ℕ) (bs : List Bool). record { files = parts.0; numbers = parts.1; flags = bs }) (ap₂ (λ (fs : List Text) (ns : List ℕ). (fs, ns)) files numbers) flags

  pub in_range : (j : Job) → IsJob form words j → AreInRange form.numbers j.numbers
  in_range j is = weaker (GivesNumber (matches_of (app_by form) words)) _ (λ n v g. (g.low, g.high)) form.numbers j.numbers is.numbers

-- What an option's number is read as.
use Rattle.std.proofs.Common.{◌≡◌, ◌∙◌, ◌≤◌, ℕ, Option, Some, None, Result, Ok, Err, refl, sym}
use Rattle.std.specs.Str.Parse.{ParsesUnsigned}
use Rattle.clap.specs.Words.{ReadsOne, Text, one_text, rows_of}
use Rattle.clap.specs.declared.parser.matches.Found.{Found}
use Rattle.clap.proofs.WalkLemmas.{one_text-rows}
use Rattle.updr_words.specs.Forms.{Number}
use Rattle.updr_words.specs.Jobs.{GivesNumber}

module _ (E : Type 0) (G : Text → Result ℕ E → Type 0) (only : (t : Text) (x : Result ℕ E) → G t x → ParsesUnsigned 32 10 t x) (f : Found) (n : Number) where
  pub some_given : (v : ℕ) → (one_text f n.name ≡ None → Some v ≡ None) → ((t : Text) → one_text f n.name ≡ Some t → ReadsOne G t (Some v)) → n.least ≤ v → v ≤ n.most → GivesNumber (rows_of f) n v
  some_given v none value low high = go (one_text f n.name) refl
    where
      go : (o : Option Text) → one_text f n.name ≡ o → GivesNumber (rows_of f) n v
      go None is = let never = none is in cc
      go (Some t) is = record { text = t; given = sym (one_text-rows f n.name) ∙ is; read = only t (Ok v) (value t is); low = low; high = high }

  -- a number that is given is the one that is read
  pub same_given : (v w : ℕ) → ((t : Text) → one_text f n.name ≡ Some t → ReadsOne G t (Some w)) → GivesNumber (rows_of f) n v → v ≡ w
  same_given v w value g = g.read.1 ∙ sym (only g.text (Ok w) (value g.text (one_text-rows f n.name ∙ g.given))).1

  pub none_given : ((t : Text) → one_text f n.name ≡ Some t → ReadsOne G t None) → (v : ℕ) → GivesNumber (rows_of f) n v → ⊥
  none_given value v g =
      let refused = value g.text (one_text-rows f n.name ∙ g.given) in
      only g.text (Err refused.0) refused.1 g.read.0

-- The first file that is refused.
use Rattle.std.proofs.Common.{◌≡◌, ◌∙◌, ◌+◌, ◌<◌, ◌≤◌, ℕ, List, ◌∷◌, map, drop, get_or, length, Option, IfSome, Bor, Err, refl, sym, subst, ap, inl, inr, add-one, arith}
use Rattle.std.proofs.Math.Seq.{drop-cons}
use Rattle.pv_base.specs.Counts.{Rose}
use Rattle.pv_base.specs.Reading.{IsContent, limit}
use Rattle.updr_told.specs.Ends.{End}
use Rattle.updr_words.specs.Forms.{texts}
use Rattle.updr_table.specs.Outside.{IsReached, Outside, RefusesFile, RefusesFirst}
use Rattle.updr_told.specs.Stops.{IfRefused}
use Rattle.updr_told.specs.declared.stop.Stop.{Stop}
use Rattle.updr_told.specs.declared.stop.Stop.TheVariants.{Refused, Memory}

-- with the count of an earlier time a refusal is one too
rose_earlier : (a b c : ℕ) → a ≤ b → Rose b c → Rose a c
rose_earlier a b c le rose = omega arith

module _ {L : Type 0} where
  pub earlier : (o p : Outside) (name : List ℕ) (end : End L) → o.contents name ≡ p.contents name → o.before ≤ p.before → p.after ≡ o.after → p.refused ≡ o.refused
      → RefusesFile p name end → RefusesFile o name end
  earlier o p name end same le after refused (inl (cause, is)) = inl (
    record {
      rose = rose_earlier o.before p.before o.after le (subst (λ (n : ℕ). Rose p.before n) after cause.rose);
      named = sym refused ∙ cause.named;
      short = subst (λ (t : Option (List ℕ)). IfSome t (λ content. length content ≤ limit)) (sym same) cause.short;
    },
    is,
  )
  earlier o p name end same le after refused (inr (cause, is)) = inr (
    record {
      named = sym refused ∙ cause.named;
      long = subst (λ (t : Option (List ℕ)). IfSome t (λ content. limit < length content)) (sym same) cause.long;
    },
    is,
  )

  -- a file that is reached, and is refused with what the files were before, is the first that is refused
  pub first_refused : (o p : Outside) (names : List (List ℕ)) (name : List ℕ) (end : End L) → o.contents name ≡ p.contents name → o.before ≤ p.before → p.after ≡ o.after → p.refused ≡ o.refused
      → IsReached o.contents names name → RefusesFile p name end → RefusesFirst o names end
  first_refused o p names name end same le after refused reached told = record { name = name; reached = reached; told = earlier o p name end same le after refused told }

module _ (told : List ℕ → Option (List ℕ)) (names : List (Bor (List ℕ))) (x : Bor (List ℕ)) (i : ℕ) (in_range : i < length names) where
  cut_at : map (λ (s : Bor (List ℕ)). s.now) (drop i names) ≡ (get_or names i x).now ∷ map (λ (s : Bor (List ℕ)). s.now) (drop (i + 1) names)
  cut_at = ap (map (λ (s : Bor (List ℕ)). s.now)) (drop-cons names i x in_range ∙ ap (λ (j : ℕ). get_or names i x ∷ drop j names) (sym (add-one i)))

  -- the next name is reached
  pub next_reached : ((this : List ℕ) → IsReached told (texts (drop i names)) this → IsReached told (texts names) this) → IsReached told (texts names) (get_or names i x).now
  next_reached so = so _ (subst (λ (l : List (List ℕ)). IsReached told l (get_or names i x).now) (sym cut_at) (inl refl))

  -- and behind one that was read the others are
  pub more_reached : ((this : List ℕ) → IsReached told (texts (drop i names)) this → IsReached told (texts names) this) → (bytes : List ℕ) → IsContent (told (get_or names i x).now) bytes
      → (this : List ℕ) → IsReached told (texts (drop (i + 1) names)) this → IsReached told (texts names) this
  more_reached so bytes is this h = so this (subst (λ (l : List (List ℕ)). IsReached told l this) (sym cut_at) (inr ((bytes, is), h)))

module _ {L : Type 0} (T U : Type 0) where
  -- a refusal by one kind of end is one by a wider kind
  pub wider : (e : Stop L) (P Q : End L → Type 0) → ((end : End L) → P end → Q end) → IfRefused {L = L} {T = T} (Err e) P → IfRefused {L = L} {T = U} (Err e) Q
  wider (Refused told) P Q so h = so told h
  wider Memory P Q so h = tt

-- Where a list begins with some elements and then another one.
use Rattle.std.proofs.Common.{◌≡◌, ℕ, ◌+◌, ◌-◌, ◌<◌, List, ◌∷◌, ◌++◌, map, sym, ap, subst, ◌∙◌, arith}
use Rattle.std.specs.List.{flat_map, range_with_len}
use Rattle.std.proofs.lemmas.List.{append_assoc, map-append}
use Rattle.std.proofs.lemmas.List.Concat.{flat_map-append}
use Rattle.fo_core.proofs.Pieces.{range-append}

-- the numbers below m, with n among them
range-split : (n m : ℕ) → n < m → range_with_len 0 n ++ n ∷ range_with_len (n + 1) (m - (n + 1)) ≡ range_with_len 0 m
range-split n m lt =
    let first : 0 + n ≡ n = omega arith in
    let one : 1 + (m - (n + 1)) ≡ m - n = omega arith in
    let all : n + (m - n) ≡ m = omega arith in
    ap (λ xs. range_with_len 0 n ++ xs) (range-append n 1 (m - (n + 1)) ∙ ap (range_with_len n) one)
    ∙ ap (λ a. range_with_len 0 n ++ range_with_len a (m - n)) (sym first)
    ∙ range-append 0 n (m - n) ∙ ap (range_with_len 0) all

module _ {X : Type 0} where
  abbrev pub Leads : List X → X → List X → Type 0
  Leads before x whole = (after : List X) × (before ++ x ∷ after ≡ whole)

  pub leads-behind : (front before : List X) (x : X) (whole : List X) → Leads before x whole → Leads (front ++ before) x (front ++ whole)
  leads-behind front before x whole (after, e) = (after, append_assoc front before (x ∷ after) ∙ ap (λ xs. front ++ xs) e)

  pub leads-front : (before : List X) (x : X) (whole rest : List X) → Leads before x whole → Leads before x (whole ++ rest)
  leads-front before x whole rest (after, e) = (after ++ rest, sym (append_assoc before (x ∷ after) rest) ∙ ap (λ xs. xs ++ rest) e)

  pub leads-range : (f : ℕ → X) (n m : ℕ) → n < m → Leads (map f (range_with_len 0 n)) (f n) (map f (range_with_len 0 m))
  leads-range f n m lt = (map f (range_with_len (n + 1) (m - (n + 1))), sym (map-append f (range_with_len 0 n) (n ∷ range_with_len (n + 1) (m - (n + 1)))) ∙ ap (map f) (range-split n m lt))

  pub leads-flat : (f : ℕ → List X) (n m : ℕ) (before : List X) (x : X) → n < m → Leads before x (f n) → Leads (flat_map f (range_with_len 0 n) ++ before) x (flat_map f (range_with_len 0 m))
  leads-flat f n m before x lt h =
      subst (Leads (flat_map f (range_with_len 0 n) ++ before) x)
      (sym (flat_map-append f (range_with_len 0 n) (n ∷ range_with_len (n + 1) (m - (n + 1)))) ∙ ap (flat_map f) (range-split n m lt))
      (leads-behind (flat_map f (range_with_len 0 n)) before x (f n ++ flat_map f (range_with_len (n + 1) (m - (n + 1)))) (leads-front before x (f n) (flat_map f (range_with_len (n + 1) (m - (n + 1)))) h))

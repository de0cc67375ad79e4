-- Congruence one argument at a time gives congruence in all arguments.
use Rattle.std.proofs.Common.{◌≡◌, ℕ, Bool, true, ◌<◌, List, [], ◌∷◌, ◌++◌, length, get_or, refl, sym, ap, subst, ◌∙◌, arith, length-append, append_assoc}
use Rattle.std.specs.List.{AllZip}
use Rattle.std.proofs.Math.ListN.{set}
use Rattle.std.proofs.Math.Seq.{get_or-append_seam, set-append_seam}
use Rattle.std.proofs.lemmas.List.Elements.{AllZip-push, length_all_zip}
use Rattle.fo_terms.specs.declared.terms.Ground.{Ground}
use Rattle.fo_terms.specs.Universe.{IsOf, AreOf}

pub AllZip-append : {X : Type 0} (R : X → X → Type 0) (xs ys us vs : List X) → AllZip R xs ys → AllZip R us vs → AllZip R (xs ++ us) (ys ++ vs)
AllZip-append R [] [] us vs h k = k
AllZip-append R [] (y ∷ ys) us vs h k = absurd h
AllZip-append R (x ∷ xs) [] us vs h k = absurd h
AllZip-append R (x ∷ xs) (y ∷ ys) us vs h k = (h.0, AllZip-append R xs ys us vs h.1 k)

module _ (ts : List Ground) (same : ℕ → ℕ → Bool) (sorts : List ℕ) (Q : List ℕ → Type 0)
    (step : (xs : List ℕ) (i p : ℕ) → AreOf ts xs sorts → AreOf ts (set xs i p) sorts → i < length xs → IsOf ts (get_or sorts i 0) p → same (get_or xs i 0) p ≡ true → Q xs → Q (set xs i p)) where
  -- the arguments before these have been replaced
  from_there : (pre ps xs ys ss : List ℕ) → ps ++ ss ≡ sorts → AreOf ts pre ps → AreOf ts xs ss → AreOf ts ys ss → AllZip (λ x y. same x y ≡ true) xs ys → Q (pre ++ xs) → Q (pre ++ ys)
  from_there pre ps [] [] ss e h a b z q = q
  from_there pre ps [] (y ∷ ys) ss e h a b z q = absurd z
  from_there pre ps (x ∷ xs) [] ss e h a b z q = absurd z
  from_there pre ps (x ∷ xs) (y ∷ ys) [] e h a b z q = absurd a
  from_there pre ps (x ∷ xs) (y ∷ ys) (s ∷ ss) e h a b z q =
      let all : AreOf ts (pre ++ x ∷ xs) sorts = subst (AreOf ts (pre ++ x ∷ xs)) e (AllZip-append (λ p s. IsOf ts s p) pre ps (x ∷ xs) (s ∷ ss) h a) in
      let seam : set (pre ++ x ∷ xs) (length pre) y ≡ pre ++ y ∷ xs = set-append_seam pre x xs y in
      let after : AreOf ts (set (pre ++ x ∷ xs) (length pre) y) sorts =
      subst (AreOf ts (set (pre ++ x ∷ xs) (length pre) y)) e (subst (λ zs. AreOf ts zs (ps ++ s ∷ ss)) (sym seam) (AllZip-append (λ p s. IsOf ts s p) pre ps (y ∷ xs) (s ∷ ss) h (b.0, a.1))) in
      let at_seam : get_or sorts (length pre) 0 ≡ s =
      ap (λ ss. get_or ss (length pre) 0) (sym e) ∙ ap (λ n. get_or (ps ++ s ∷ ss) n 0) (length_all_zip (λ p s. IsOf ts s p) pre ps h) ∙ get_or-append_seam ps s ss 0 in
      let next = step (pre ++ x ∷ xs) (length pre) y all after (omega (arith, length-append pre (x ∷ xs))) (subst (λ s. IsOf ts s y) (sym at_seam) b.0) (subst (λ x. same x y ≡ true) (sym (get_or-append_seam pre x xs 0)) z.0) q in
      let changed : Q ((pre ++ y ∷ []) ++ xs) = subst Q (seam ∙ sym (append_assoc pre (y ∷ []) xs)) next in
      subst Q (append_assoc pre (y ∷ []) ys)
      (from_there (pre ++ y ∷ []) (ps ++ s ∷ []) xs ys ss (append_assoc ps (s ∷ []) ss ∙ e) (AllZip-push (λ p s. IsOf ts s p) pre ps y s h b.0) a.1 b.1 z.1 changed)

  pub all_changed : (xs ys : List ℕ) → AreOf ts xs sorts → AreOf ts ys sorts → AllZip (λ x y. same x y ≡ true) xs ys → Q xs → Q ys
  all_changed xs ys a b z q = from_there [] [] xs ys sorts refl tt a b z q

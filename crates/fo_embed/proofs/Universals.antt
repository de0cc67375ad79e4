-- What is universal and true where a state embeds is true in that state.
use Rattle.std.proofs.Common.{◌≡◌, ℕ, zero, suc, Bool, true, false, not, cond, ◌+◌, ◌-◌, ◌<◌, ◌≤◌, ◌⊎◌, inl, inr, List, [], ◌∷◌, ◌++◌, length, get_or, map, refl, sym, ap, subst, ◌∙◌, arith, true≢false}
use Rattle.std.specs.List.{AllZip}
use Rattle.std.specs.Prelude.{slice_index}
use Rattle.std.proofs.lemmas.Bool.{cases_lt}
use Rattle.std.proofs.lemmas.List.{get_or_past}
use Rattle.std.proofs.lemmas.List.Elements.{AllZip-push}
use Rattle.fo_core.specs.declared.signature.Sig.{Sig}
use Rattle.fo_core.specs.declared.term.Term.{Term, Var, App', Row_of-Term, end_of-Term, more_of-Term}
use Rattle.fo_core.specs.declared.formula.Formula.{Formula, True, False, Rel, Eq, Not', And', Or', All', Ex', Row_of-Formula, end_of-Formula, more_of-Formula}
use Rattle.fo_core.specs.declared.world.World.{World}
use Rattle.fo_core.specs.Tables.{symbol_at, entry, Fits}
use Rattle.fo_core.specs.Truth.{value, values, Truth, EachTrue, SomeTrue}
use Rattle.fo_core.specs.Sorted.{IsSymbol, IsTerm, AreTerms, IsFormula, AreFormulas}
use Rattle.fo_core.specs.Runs.{AreElements}
use Rattle.fo_core.specs.Embedding.{image, images, IsEmbedding}
use Rattle.fo_core.specs.Universal.{IsUniversal, AreUniversal, IsUniversalSentence}
use Rattle.fo_core.proofs.MoreCopies.{term-more, terms-more, list-more}
use Rattle.fo_core.proofs.ValueLemmas.{value-lt, values-lt, list-lt}

-- the image of a list, at a place and after a push
images-at : (m : List (List ℕ)) (sizes ss vs : List ℕ) (i : ℕ) → AreElements sizes vs ss → i < length ss → get_or (images m ss vs) i 0 ≡ image m (get_or ss i 0) (get_or vs i 0)
images-at m sizes [] vs i h lt = absurd (omega arith)
images-at m sizes (s ∷ ss) [] i h lt = absurd h
images-at m sizes (s ∷ ss) (x ∷ vs) zero h lt = refl
images-at m sizes (s ∷ ss) (x ∷ vs) (suc i) h lt = images-at m sizes ss vs i h.1 (omega arith)

images-push : (m : List (List ℕ)) (sizes ss vs : List ℕ) (s x : ℕ) → AreElements sizes vs ss → images m (ss ++ s ∷ []) (vs ++ x ∷ []) ≡ images m ss vs ++ image m s x ∷ []
images-push m sizes [] [] s x h = refl
images-push m sizes [] (v ∷ vs) s x h = absurd h
images-push m sizes (r ∷ ss) [] s x h = absurd h
images-push m sizes (r ∷ ss) (v ∷ vs) s x h = ap (λ xs. image m r v ∷ xs) (images-push m sizes ss vs s x h.1)

below-elements : (sizes xs ss : List ℕ) → AllZip (λ x n. x < n) xs (map (slice_index sizes) ss) → AreElements sizes xs ss
below-elements sizes [] [] h = tt
below-elements sizes [] (s ∷ ss) h = absurd h
below-elements sizes (x ∷ xs) [] h = absurd h
below-elements sizes (x ∷ xs) (s ∷ ss) h = (h.0, below-elements sizes xs ss h.1)

-- a sort that has an element is one of the sorts
sort-known : (sizes : List ℕ) (s x : ℕ) → x < slice_index sizes s → s < length sizes
sort-known sizes s x lt = by_case (cases_lt s (length sizes))
  where
    by_case : (s < length sizes) ⊎ (length sizes ≤ s) → s < length sizes
    by_case (inl h) = h
    by_case (inr h) = absurd (omega (arith, lt, get_or_past sizes s 0 h))

-- a formula over copy 0 speaks of no other copy
copy_is_0 : (sig : Sig) (r : Bool) (k d c : ℕ) → IsSymbol sig 1 r k d → c + d ≡ c
copy_is_0 sig r k d c h = zero_of (symbol_at sig k).mutable h.copy
  where
    zero_of : (b : Bool) → d < cond b 1 1 → c + d ≡ c
    zero_of true lt = omega arith
    zero_of false lt = omega arith

-- from the larger state to the smaller one, or back under an odd number of negations
pub record Carries (b : Bool) (P Q : Type 0) : Type 0 where
  pub back : b ≡ true → Q → P
  pub there : b ≡ false → P → Q

carries_both : {P Q : Type 0} (b : Bool) → (P → Q) → (Q → P) → Carries b P Q
carries_both b there back = record { back = λ _. back; there = λ _. there }

carries_not : {P Q : Type 0} (b : Bool) → Carries (not b) P Q → Carries b (¬ P) (¬ Q)
carries_not true h = record { back = λ _ nq p. nq (h.there refl p); there = λ e. absurd (true≢false e) }
carries_not false h = record { back = λ e. absurd (true≢false (sym e)); there = λ _ np q. np (h.back refl q) }

carries_and : {P Q R S : Type 0} {b : Bool} → Carries b P Q → Carries b R S → Carries b (P × R) (Q × S)
carries_and h k = record { back = λ e p. (h.back e p.0, k.back e p.1); there = λ e p. (h.there e p.0, k.there e p.1) }

either_way : {P Q R S : Type 0} → (P → Q) → (R → S) → P ⊎ R → Q ⊎ S
either_way h k (inl p) = inl (h p)
either_way h k (inr p) = inr (k p)

carries_or : {P Q R S : Type 0} {b : Bool} → Carries b P Q → Carries b R S → Carries b (P ⊎ R) (Q ⊎ S)
carries_or h k = record { back = λ e. either_way (h.back e) (k.back e); there = λ e. either_way (h.there e) (k.there e) }

module _ (sig : Sig) (s : World) (sc : ℕ) (t : World) (tc : ℕ) (m : List (List ℕ)) (fits : Fits sig s) (within : sc < length s.copies) (e' : IsEmbedding sig s sc t tc m) where
  one_copy : 1 ≤ length s.copies - sc
  one_copy = omega arith

  image-within : (r x : ℕ) → x < slice_index s.sizes r → image m r x < slice_index t.sizes r
  image-within r x lt = e'.injections.in_range r x (sort-known s.sizes r x lt) lt

  one-image : (r x y : ℕ) → x < slice_index s.sizes r → y < slice_index s.sizes r → image m r x ≡ image m r y → x ≡ y
  one-image r x y lt less = e'.injections.injective r x y (sort-known s.sizes r x lt) lt less

  mutual
    -- the map takes the element that a term names to the one that it names there
    pub value-image : (x : Term) (vs ss : List ℕ) (r : ℕ) → AreElements s.sizes vs ss → IsTerm sig 1 x ss r → image m r (value sig s sc x vs) ≡ value sig t tc x (images m ss vs)
    value-image (Var i) vs ss r h is = ap (λ r. image m r (get_or vs i 0)) (sym is.1) ∙ sym (images-at m s.sizes ss vs i h is.0)
    value-image (App' f d _ args) vs ss r h is =
        let elements = below-elements s.sizes _ _ (values-lt sig s sc fits vs ss h args (symbol_at sig f).args (terms-more sig 1 (length s.copies - sc) one_copy args ss (symbol_at sig f).args is.2)) in
        ap (λ r. image m r (entry sig s (sc + d) f (values sig s sc args vs))) (sym is.1)
        ∙ ap (λ c. image m (symbol_at sig f).result (entry sig s c f (values sig s sc args vs))) (copy_is_0 sig false f d sc is.0)
        ∙ sym (e'.functions f (values sig s sc args vs) is.0.within is.0.kind elements)
        ∙ ap (entry sig t tc f) (values-image args vs ss (symbol_at sig f).args h is.2)
        ∙ ap (λ c. entry sig t c f (values sig t tc args (images m ss vs))) (sym (copy_is_0 sig false f d tc is.0))

    values-image : {n : _} (row : Row_of-Term n) (vs ss rs : List ℕ) → AreElements s.sizes vs ss → AreTerms sig 1 row ss rs → images m rs (values sig s sc row vs) ≡ values sig t tc row (images m ss vs)
    values-image end_of-Term vs ss [] h is = refl
    values-image end_of-Term vs ss (r ∷ rs) h is = absurd is
    values-image (more_of-Term x rest) vs ss [] h is = absurd is
    values-image (more_of-Term x rest) vs ss (r ∷ rs) h is =
        ap (λ y. y ∷ images m rs (values sig s sc rest vs)) (value-image x vs ss r h is.0) ∙ ap (λ ys. value sig t tc x (images m ss vs) ∷ ys) (values-image rest vs ss rs h is.1)

  list-image : (xs : List Term) (vs ss rs : List ℕ) → AreElements s.sizes vs ss → AllZip (λ x r. IsTerm sig 1 x ss r) xs rs → images m rs (map (λ x. value sig s sc x vs) xs) ≡ map (λ x. value sig t tc x (images m ss vs)) xs
  list-image [] vs ss [] h is = refl
  list-image [] vs ss (r ∷ rs) h is = absurd is
  list-image (x ∷ xs) vs ss [] h is = absurd is
  list-image (x ∷ xs) vs ss (r ∷ rs) h is =
      ap (λ y. y ∷ images m rs (map (λ x. value sig s sc x vs) xs)) (value-image x vs ss r h is.0) ∙ ap (λ ys. value sig t tc x (images m ss vs) ∷ ys) (list-image xs vs ss rs h is.1)

  rel-image : (r d : ℕ) (args : List Term) (vs ss : List ℕ) → AreElements s.sizes vs ss → IsSymbol sig 1 true r d → AllZip (λ x k. IsTerm sig 1 x ss k) args (symbol_at sig r).args →
      entry sig s (sc + d) r (map (λ x. value sig s sc x vs) args) ≡ entry sig t (tc + d) r (map (λ x. value sig t tc x (images m ss vs)) args)
  rel-image r d args vs ss h is all =
      let elements = below-elements s.sizes _ _ (list-lt sig s sc fits vs ss h args (symbol_at sig r).args (list-more sig 1 (length s.copies - sc) one_copy args ss (symbol_at sig r).args all)) in
      ap (λ c. entry sig s c r (map (λ x. value sig s sc x vs) args)) (copy_is_0 sig true r d sc is)
      ∙ sym (e'.relations r (map (λ x. value sig s sc x vs) args) is.within is.kind elements)
      ∙ ap (entry sig t tc r) (list-image args vs ss (symbol_at sig r).args h all)
      ∙ ap (λ c. entry sig t c r (map (λ x. value sig t tc x (images m ss vs)) args)) (sym (copy_is_0 sig true r d tc is))

  pushed-image : (ss vs : List ℕ) (r x : ℕ) (f : Formula) → AreElements s.sizes vs ss → Truth sig t tc f (images m (ss ++ r ∷ []) (vs ++ x ∷ [])) ≡ Truth sig t tc f (images m ss vs ++ image m r x ∷ [])
  pushed-image ss vs r x f h = ap (Truth sig t tc f) (images-push m s.sizes ss vs r x h)

  mutual
    pub universal-image : (f : Formula) (b : Bool) (vs ss : List ℕ) → IsUniversal b f → AreElements s.sizes vs ss → IsFormula sig 1 f ss → Carries b (Truth sig s sc f vs) (Truth sig t tc f (images m ss vs))
    universal-image True b vs ss u h is = carries_both b (λ p. p) (λ p. p)
    universal-image False b vs ss u h is = carries_both b (λ p. p) (λ p. p)
    universal-image (Rel r d args) b vs ss u h is =
        let same = rel-image r d args vs ss h is.0 is.1 in carries_both b (λ p. sym same ∙ p) (λ q. same ∙ q)
    universal-image (Eq x y) b vs ss u h is =
        let left = value-image x vs ss is.0 h is.1 in
        let right = value-image y vs ss is.0 h is.2 in
        carries_both b (λ p. sym left ∙ ap (image m is.0) p ∙ right)
        (λ q. one-image is.0 _ _ (value-lt sig s sc fits vs ss h x is.0 (term-more sig 1 (length s.copies - sc) one_copy x ss is.0 is.1)) (value-lt sig s sc fits vs ss h y is.0 (term-more sig 1 (length s.copies - sc) one_copy y ss is.0 is.2)) (left ∙ q ∙ sym right))
    universal-image (Not' _ (more_of-Formula f _)) b vs ss u h is = carries_not b (universal-image f (not b) vs ss u h is)
    universal-image (And' _ fs) b vs ss u h is = each-image fs b vs ss u h is
    universal-image (Or' _ fs) b vs ss u h is = some-image fs b vs ss u h is
    universal-image (All' r _ (more_of-Formula f _)) b vs ss u h is = record {
      back = λ e all x lt. (universal-image f b (vs ++ x ∷ []) (ss ++ r ∷ []) u.1 (AllZip-push (λ x r. x < slice_index s.sizes r) vs ss x r h lt) is.1).back e
          (subst (λ (A : Type 0). A) (sym (pushed-image ss vs r x f h)) (all (image m r x) (image-within r x lt)));
      there = λ e. absurd (true≢false (sym u.0 ∙ e));
    }
    universal-image (Ex' r _ (more_of-Formula f _)) b vs ss u h is = record {
      back = λ e. absurd (true≢false (sym e ∙ u.0));
      there = λ e some.
          let x = some.0 in (
            image m r x,
            image-within r x some.1,
            subst (λ (A : Type 0). A) (pushed-image ss vs r x f h)
                ((universal-image f b (vs ++ x ∷ []) (ss ++ r ∷ []) u.1 (AllZip-push (λ x r. x < slice_index s.sizes r) vs ss x r h some.1) is.1).there e some.2),
          );
    }

    each-image : {n : _} (row : Row_of-Formula n) (b : Bool) (vs ss : List ℕ) → AreUniversal b row → AreElements s.sizes vs ss → AreFormulas sig 1 row ss → Carries b (EachTrue sig s sc row vs) (EachTrue sig t tc row (images m ss vs))
    each-image end_of-Formula b vs ss u h is = carries_both b (λ p. p) (λ p. p)
    each-image (more_of-Formula f rest) b vs ss u h is = carries_and (universal-image f b vs ss u.0 h is.0) (each-image rest b vs ss u.1 h is.1)

    some-image : {n : _} (row : Row_of-Formula n) (b : Bool) (vs ss : List ℕ) → AreUniversal b row → AreElements s.sizes vs ss → AreFormulas sig 1 row ss → Carries b (SomeTrue sig s sc row vs) (SomeTrue sig t tc row (images m ss vs))
    some-image end_of-Formula b vs ss u h is = carries_both b (λ p. p) (λ p. p)
    some-image (more_of-Formula f rest) b vs ss u h is = carries_or (universal-image f b vs ss u.0 h is.0) (some-image rest b vs ss u.1 h is.1)

-- a universal sentence that is true where a state embeds is true in that state
pub sentence-passes : (sig : Sig) (s : World) (sc : ℕ) (t : World) (tc : ℕ) (m : List (List ℕ)) → Fits sig s → sc < length s.copies → IsEmbedding sig s sc t tc m → (f : Formula) → IsUniversalSentence sig f → Truth sig t tc f [] → Truth sig s sc f []
sentence-passes sig s sc t tc m fits within e f is h = (universal-image sig s sc t tc m fits within e f true [] [] is.universal tt is.sorted).back refl h

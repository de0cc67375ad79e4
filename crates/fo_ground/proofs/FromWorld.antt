-- A world evaluates all ground terms, and the truth of the atoms there meets axioms and instances.
use Rattle.std.proofs.Common.{◌≡◌, ℕ, zero, suc, Bool, true, false, cond, ◌<◌, ◌≤◌, ◌⊎◌, inl, inr, List, [], ◌∷◌, length, get_or, map, refl, sym, ap, subst, ◌∙◌, arith}
use Rattle.std.specs.List.{All, AllZip}
use Rattle.std.specs.Prelude.{◌==◌, slice_index}
use Rattle.std.proofs.Math.ListN.{set}
use Rattle.std.proofs.lemmas.Bool.Decides.{Decides-eqb}
use Rattle.std.proofs.lemmas.List.{get_or-map}
use Rattle.std.proofs.lemmas.List.Elements.{All-head, All-tail, All-cons}
use Rattle.fo_core.specs.declared.signature.Sig.{Sig}
use Rattle.fo_core.specs.declared.formula.Formula.{Formula}
use Rattle.fo_core.specs.Tables.{symbol_at}
use Rattle.fo_core.specs.Truth.{TruthIn}
use Rattle.fo_core.specs.Sorted.{IsSymbol, IsFormula}
use Rattle.fo_terms.specs.declared.terms.Ground.{Ground}
use Rattle.fo_terms.specs.Universe.{IsOf, AreOf, term_at, sort_at, no_ground, spare, IsSpare, IsApplied, IsTermOf, IsUniverse}
use Rattle.fo_norm.specs.Forms.{IsNormal}
use Rattle.fo_ground.specs.Instances.{IsEquality, AreMet}
use Rattle.fo_ground.specs.Classes.{IsNaming, IsClosed}
use Rattle.fo_ground.specs.GroundValues.{ground_value, rounds, ground_values}
use Rattle.fo_ground.proofs.Transfer.{truth-named}

pub AreOf-set : (ts : List Ground) (xs ss : List ℕ) (i p : ℕ) → AreOf ts xs ss → i < length xs → IsOf ts (get_or ss i 0) p → AreOf ts (set xs i p) ss
AreOf-set ts [] ss i p h lt of = absurd (omega arith)
AreOf-set ts (x ∷ xs) [] i p h lt of = absurd h
AreOf-set ts (x ∷ xs) (s ∷ ss) zero p h lt of = (of, h.1)
AreOf-set ts (x ∷ xs) (s ∷ ss) (suc i) p h lt of = (h.0, AreOf-set ts xs ss i p h.1 (omega arith) of)

map-set_same : (m : ℕ → ℕ) (xs : List ℕ) (i p : ℕ) → i < length xs → m (get_or xs i 0) ≡ m p → map m (set xs i p) ≡ map m xs
map-set_same m [] i p lt e = absurd (omega arith)
map-set_same m (x ∷ xs) zero p lt e = ap (λ y. y ∷ map m xs) (sym e)
map-set_same m (x ∷ xs) (suc i) p lt e = ap (λ ys. m x ∷ ys) (map-set_same m xs i p (omega arith) e)

map-agree : (f g : ℕ → ℕ) (xs : List ℕ) → All (λ x. f x ≡ g x) xs → map f xs ≡ map g xs
map-agree f g [] h = refl
map-agree f g (x ∷ xs) h = ap (λ y. y ∷ map f xs) (All-head (λ x. f x ≡ g x) x xs h) ∙ ap (λ ys. g x ∷ ys) (map-agree f g xs (All-tail (λ x. f x ≡ g x) x xs h))

-- having equal values is an equality that functions and relations respect
module _ (ts : List Ground) (at : ℕ → ℕ → List ℕ → ℕ) (same : ℕ → ℕ → Bool) (fact : ℕ → ℕ → List ℕ → Bool) (sig : Sig) (copies : ℕ) (sizes : List ℕ) (reads : ℕ → ℕ → List ℕ → ℕ) (m : ℕ → ℕ)
    (closed : IsClosed ts at sig copies) (naming : IsNaming ts at same fact sig copies sizes reads m) where
  pub equality-named : IsEquality ts at same fact sig copies
  equality-named = record {
    reflexive = λ s p a. (naming.equal s p p a a).1 refl;
    symmetric = λ s p q a b t. (naming.equal s q p b a).1 (sym ((naming.equal s p q a b).0 t));
    transitive = λ s p q r a b c t u. (naming.equal s p r a c).1 ((naming.equal s p q a b).0 t ∙ (naming.equal s q r b c).0 u);
    functions = λ f c args i p is of lt at_p t.
        let next = AreOf-set ts args (symbol_at sig f).args i p of lt at_p in
        let e = map-set_same m args i p lt ((naming.equal (get_or (symbol_at sig f).args i 0) (get_or args i 0) p (at_place args (symbol_at sig f).args i of lt) at_p).0 t) in
        (naming.equal (symbol_at sig f).result (at f c args) (at f c (set args i p)) (closed f c args is of) (closed f c (set args i p) is next)).1
        (sym (naming.applied f c args is of) ∙ ap (reads c f) (sym e) ∙ naming.applied f c (set args i p) is next);
    relations = λ r c args i p is of lt at_p t h.
        let next = AreOf-set ts args (symbol_at sig r).args i p of lt at_p in
        let e = map-set_same m args i p lt ((naming.equal (get_or (symbol_at sig r).args i 0) (get_or args i 0) p (at_place args (symbol_at sig r).args i of lt) at_p).0 t) in
        (naming.facts r c (set args i p) is next).1 (ap (reads c r) e ∙ (naming.facts r c args is of).0 h);
  }
    where
      at_place : (xs ss : List ℕ) (i : ℕ) → AreOf ts xs ss → i < length xs → IsOf ts (get_or ss i 0) (get_or xs i 0)
      at_place [] ss i h lt = absurd (omega arith)
      at_place (x ∷ xs) [] i h lt = absurd h
      at_place (x ∷ xs) (s ∷ ss) zero h lt = h.0
      at_place (x ∷ xs) (s ∷ ss) (suc i) h lt = at_place xs ss i h.1 (omega arith)

  pub met-named : (claims : List Formula) → All IsNormal claims → All (λ f. IsFormula sig copies f []) claims → All (λ f. TruthIn sizes reads f []) claims → AreMet ts at same fact sig copies claims
  met-named claims normal sorted true_ = record {
    equality = equality-named;
    instances = λ k d lt. (truth-named ts at same fact sig copies sizes reads m closed naming (get_or claims k d) [] [] (normal k d lt) tt (sorted k d lt)).there (true_ k d lt);
  }

module _ (ts : List Ground) (at : ℕ → ℕ → List ℕ → ℕ) (sig : Sig) (copies : ℕ) (sizes : List ℕ) (reads : ℕ → ℕ → List ℕ → ℕ) (some : (s : ℕ) → s < sig.sorts → 1 ≤ slice_index sizes s)
    (in_range : (f d : ℕ) (xs : List ℕ) → IsSymbol sig copies false f d → AllZip (λ x n. x < n) xs (map (slice_index sizes) (symbol_at sig f).args) → reads d f xs < slice_index sizes (symbol_at sig f).result)
    (u : IsUniverse sig copies ts) (few : length sig.symbols ≤ spare)
    (places : (f c : ℕ) (args : List ℕ) → IsSymbol sig copies false f c → AreOf ts args (symbol_at sig f).args → IsTermOf sig copies ts f c args (at f c args)) where
  pub closed-places : IsClosed ts at sig copies
  closed-places f c args is of = let p = places f c args is of in (p.0, ap (λ g. g.sort) p.1)

  value-agree : (xs ys : List ℕ) (g : Ground) → All (λ q. slice_index xs q ≡ slice_index ys q) g.args → ground_value reads xs g ≡ ground_value reads ys g
  value-agree xs ys g h = ap (λ zs. cond (g.symbol == spare) 0 (reads g.copy g.symbol zs)) (map-agree (slice_index xs) (slice_index ys) g.args h)

  args-within : (ps ss : List ℕ) → AreOf ts ps ss → All (λ p. p < length ts) ps
  args-within [] [] h = λ k d lt. absurd (omega arith)
  args-within [] (s ∷ ss) h = absurd h
  args-within (p ∷ ps) [] h = absurd h
  args-within (p ∷ ps) (s ∷ ss) h = All-cons (λ p. p < length ts) p ps h.0.0 (args-within ps ss h.1)

  -- arguments stand earlier, so induction on places reaches them
  on_args : (P : ℕ → Type 0) (p : ℕ) → p < length ts → ((q : ℕ) → q < length ts → q < p → P q) → All P (term_at ts p).args
  on_args P p lt each = by_kind (u.grounded p lt)
    where
      by_kind : IsSpare (term_at ts p) ⊎ IsApplied sig copies ts p → All P (term_at ts p).args
      by_kind (inl spare_) = subst (All P) (sym spare_.2) (λ k d lt. absurd (omega arith))
      by_kind (inr app) = λ k d below. each (get_or (term_at ts p).args k d) (args-within (term_at ts p).args _ app.args k d below) (app.earlier k d below)

  -- the value at place p no longer changes after p rounds
  stays : (k p : ℕ) → p < length ts → p < k → slice_index (rounds reads k ts) p ≡ slice_index (rounds reads (suc k) ts) p
  stays zero p lt below = absurd (omega arith)
  stays (suc k) p lt below =
      get_or-map (ground_value reads (rounds reads k ts)) ts p no_ground 0 lt
      ∙ value-agree (rounds reads k ts) (rounds reads (suc k) ts) (term_at ts p) (on_args (λ q. slice_index (rounds reads k ts) q ≡ slice_index (rounds reads (suc k) ts) q) p lt (λ q within before. stays k q within (omega arith)))
      ∙ sym (get_or-map (ground_value reads (rounds reads (suc k) ts)) ts p no_ground 0 lt)

  abbrev vals : List ℕ
  vals = ground_values reads ts

  abbrev m : ℕ → ℕ
  m = slice_index vals

  pub value-is : (p : ℕ) → p < length ts → m p ≡ ground_value reads vals (term_at ts p)
  value-is p lt = stays (length ts) p lt lt ∙ get_or-map (ground_value reads vals) ts p no_ground 0 lt

  is_not_spare : (f : ℕ) → f < length sig.symbols → (f == spare) ≡ false
  is_not_spare f lt = by_case (f == spare) refl
    where
      by_case : (b : Bool) → (f == spare) ≡ b → b ≡ false
      by_case true e = let same : f ≡ spare = (Decides-eqb f spare).0 e in absurd (omega arith)
      by_case false e = refl

  elements : (ps ss : List ℕ) → AreOf ts ps ss → All (λ p. m p < slice_index sizes (sort_at ts p)) ps → AllZip (λ x n. x < n) (map m ps) (map (slice_index sizes) ss)
  elements [] [] a h = tt
  elements [] (s ∷ ss) a h = absurd a
  elements (p ∷ ps) [] a h = absurd a
  elements (p ∷ ps) (s ∷ ss) a h =
      (subst (λ s. m p < slice_index sizes s) a.0.1 (All-head (λ p. m p < slice_index sizes (sort_at ts p)) p ps h), elements ps ss a.1 (All-tail (λ p. m p < slice_index sizes (sort_at ts p)) p ps h))

  element-at : (p : ℕ) → p < length ts → ((q : ℕ) → q < length ts → q < p → m q < slice_index sizes (sort_at ts q)) → m p < slice_index sizes (sort_at ts p)
  element-at p lt before = subst (λ x. x < slice_index sizes (sort_at ts p)) (sym (value-is p lt)) (by_kind (u.grounded p lt))
    where
      by_kind : IsSpare (term_at ts p) ⊎ IsApplied sig copies ts p → ground_value reads vals (term_at ts p) < slice_index sizes (sort_at ts p)
      by_kind (inl spare_) =
          subst (λ b. cond b 0 (reads (term_at ts p).copy (term_at ts p).symbol (map m (term_at ts p).args)) < slice_index sizes (sort_at ts p)) (sym ((Decides-eqb (term_at ts p).symbol spare).1 spare_.0))
          (some (sort_at ts p) (u.sorts p lt))
      by_kind (inr app) =
          let g = term_at ts p in
          let is = app.symbol in
          let xs = elements g.args (symbol_at sig g.symbol).args app.args (on_args (λ q. m q < slice_index sizes (sort_at ts q)) p lt before) in
          subst (λ b. cond b 0 (reads g.copy g.symbol (map m g.args)) < slice_index sizes (sort_at ts p)) (sym (is_not_spare g.symbol is.within))
          (subst (λ s. reads g.copy g.symbol (map m g.args) < slice_index sizes s) (sym app.sort) (in_range g.symbol g.copy (map m g.args) is xs))

  element-before : (k p : ℕ) → p < length ts → p < k → m p < slice_index sizes (sort_at ts p)
  element-before zero p lt below = absurd (omega arith)
  element-before (suc k) p lt below = element-at p lt (λ q within before. element-before k q within (omega arith))

  pub naming-values : IsNaming ts at (λ p q. m p == m q) (λ r c ps. reads c r (map m ps) == 1) sig copies sizes reads m
  naming-values = record {
    within = λ s p of. subst (λ s. m p < slice_index sizes s) of.1 (element-before (suc p) p of.0 (omega arith));
    applied = λ f c args is of.
        let p = places f c args is of in
        sym (value-is (at f c args) p.0
        ∙ ap (ground_value reads vals) p.1
        ∙ ap (λ b. cond b 0 (reads c f (map m args))) (is_not_spare f is.within));
    equal = λ s p q a b. Decides-eqb (m p) (m q);
    facts = λ r c args is of. Decides-eqb (reads c r (map m args)) 1;
  }

-- From clauses that are grounded: a world that meets the form gives values, and values give such a world.
use Rattle.std.proofs.Common.{◌≡◌, ◌↔◌, ℕ, Bool, true, false, ◌<◌, ◌≤◌, ◌⊎◌, inl, inr, List, get_or, map, refl, sym, ap, subst, ◌∙◌, arith}
use Rattle.std.specs.Prelude.{◌==◌}
use Rattle.std.proofs.lemmas.Bool.{cases_lt}
use Rattle.std.proofs.lemmas.Bool.Decides.{Decides-eqb}
use Rattle.fo_core.specs.declared.signature.Sig.{Sig}
use Rattle.fo_core.specs.declared.world.World.{World}
use Rattle.fo_core.specs.Tables.{symbol_at}
use Rattle.fo_core.specs.Sorted.{IsSymbol, IsSig}
use Rattle.prop_core.specs.Formula.{MeetsAll}
use Rattle.fo_norm.specs.declared.form.SkolemForm.{SkolemForm}
use Rattle.fo_norm.specs.Forms.{whole, IsForm, MeetsForm}
use Rattle.fo_terms.specs.declared.terms.Ground.{Ground}
use Rattle.fo_terms.specs.declared.terms.Universe.{Universe}
use Rattle.fo_terms.specs.Universe.{IsOf, AreOf, IsTermOf, IsUniverse}
use Rattle.fo_ground.specs.declared.grounded.Atom.{Atom}
use Rattle.fo_ground.specs.declared.grounded.Atom.TheVariants.{Same, Fact, Helper}
use Rattle.fo_ground.specs.declared.grounded.Grounded.{Grounded}
use Rattle.fo_ground.specs.declared.layout.Layout.{Layout}
use Rattle.fo_ground.specs.Classes.{IsNaming, class_world}
use Rattle.fo_ground.specs.Layout.{slot, same_var, same_by, fact_by}
use Rattle.fo_ground.specs.Grounds.{form_layout, AreMetBy, IsGrounded, IsListed}
use Rattle.fo_ground.proofs.ClassWorld.{IsBasis}
use Rattle.fo_ground.proofs.FactLemmas.{same_var-sym}
use Rattle.fo_ground.proofs.Models.{sig-whole, from_values, world-naming, world-met}
use Rattle.fo_ground.proofs.Models.{reads as reads_in, m as named_in}

-- a naming only depends on the atoms of well-sorted terms
naming-agrees : (ts : List Ground) (at : ℕ → ℕ → List ℕ → ℕ) (same same' : ℕ → ℕ → Bool) (fact fact' : ℕ → ℕ → List ℕ → Bool) (sig : Sig) (copies : ℕ) (sizes : List ℕ) (reads : ℕ → ℕ → List ℕ → ℕ) (m : ℕ → ℕ) →
    ((s p q : ℕ) → IsOf ts s p → IsOf ts s q → same' p q ≡ same p q) → ((r c : ℕ) (ps : List ℕ) → IsSymbol sig copies true r c → AreOf ts ps (symbol_at sig r).args → fact' r c ps ≡ fact r c ps) →
    IsNaming ts at same fact sig copies sizes reads m → IsNaming ts at same' fact' sig copies sizes reads m
naming-agrees ts at same same' fact fact' sig copies sizes reads m e f n = record {
  within = n.within;
  applied = n.applied;
  equal = λ s p q a b. subst (λ t. (t ≡ true) ↔ (m p ≡ m q)) (sym (e s p q a b)) (n.equal s p q a b);
  facts = λ r c ps is of. subst (λ t. (t ≡ true) ↔ (reads c r (map m ps) ≡ 1)) (sym (f r c ps is of)) (n.facts r c ps is of);
}

-- the truth of an atom under a reading, with values for the ground terms
atom_truth : (ℕ → ℕ → List ℕ → ℕ) → (ℕ → ℕ) → Atom → Bool
atom_truth reads m (Same p q) = m p == m q
atom_truth reads m (Fact r c ps) = reads c r (map m ps) == 1
atom_truth reads m Helper = false

same_bools : (a b : Bool) → (a ≡ true → b ≡ true) → (b ≡ true → a ≡ true) → a ≡ b
same_bools true b f g = sym (f refl)
same_bools false true f g = g refl
same_bools false false f g = refl

-- being equal is symmetric
eqb-sym : (a b : ℕ) → (a == b) ≡ (b == a)
eqb-sym a b = same_bools (a == b) (b == a) (λ t. (Decides-eqb b a).1 (sym ((Decides-eqb a b).0 t))) (λ t. (Decides-eqb a b).1 (sym ((Decides-eqb b a).0 t)))

module _ (sig : Sig) (form : SkolemForm) (u : Universe) (sorts : IsSig sig) (is : IsForm sig form) (universe : IsUniverse (whole sig form) form.copies u.terms)
    (places : (f c : ℕ) (args : List ℕ) → IsSymbol (whole sig form) form.copies false f c → AreOf u.terms args (symbol_at (whole sig form) f).args →
    IsTermOf (whole sig form) form.copies u.terms f c args (slot u (form_layout sig form u) f c args)) where
  abbrev lay : Layout
  lay = form_layout sig form u

  abbrev at : ℕ → ℕ → List ℕ → ℕ
  at = slot u lay

  module _ (atoms : List Atom) (listed : IsListed u (form_layout sig form u) atoms) where
    -- the variable of an equation says that the values are equal
    either_order : (reads : ℕ → ℕ → List ℕ → ℕ) (m : ℕ → ℕ) (s p q : ℕ) → IsOf u.terms s p → IsOf u.terms s q → (q < p) ⊎ (p ≤ q) → atom_truth reads m (get_or atoms (same_var u lay p q) Helper) ≡ (m p == m q)
    unfolding atom_truth
    either_order reads m s p q b c (inr le) = ap (atom_truth reads m) (listed.same s p q b c le)
    either_order reads m s p q b c (inl lt) =
        ap (λ x. atom_truth reads m (get_or atoms x Helper)) (same_var-sym u lay p q) ∙ ap (atom_truth reads m) (listed.same s q p c b (omega arith)) ∙ eqb-sym (m q) (m p)

    -- a world that meets the form gives values of the atoms that meet the axioms and instances
    pub atom-values : (w : World) → MeetsForm sig form w → (v : ℕ → Bool) × AreMetBy sig form u v
    unfolding atom_truth
    atom-values w meets =
        let reads = reads_in u.terms at sig form w is universe places meets in
        let m = named_in u.terms at sig form w is universe places meets in
        let a = λ (x : ℕ). atom_truth reads m (get_or atoms x Helper) in
        let naming = naming-agrees u.terms at (λ p q. m p == m q) (same_by u lay a) (λ r c ps. reads c r (map m ps) == 1) (fact_by u lay a)
        (whole sig form) form.copies w.sizes reads m
        (λ s p q b c. either_order reads m s p q b c (cases_lt q p))
        (λ r c ps i of. ap (atom_truth reads m) (listed.facts r c ps i of))
        (world-naming u.terms at sig form w is universe places meets) in
        (a, world-met u.terms at sig form w is universe places meets (same_by u lay a) (fact_by u lay a) naming)

  -- and with them values that meet the clauses
  pub world-values : (g : Grounded) → IsGrounded sig form u g → (w : World) → MeetsForm sig form w → (v : ℕ → Bool) × MeetsAll v g.cnf.clauses
  world-values g grounded w meets = let r = atom-values g.atoms grounded.listed w meets in grounded.complete r.0 r.1

  basis : IsBasis u.terms at (whole sig form) form.copies
  basis = record {
    signature = sig-whole sig form sorts is;
    closed = λ f c args s of. let p = places f c args s of in (p.0, ap (λ (t : Ground). t.sort) p.1);
    sorts = universe.sorts;
    nonempty = universe.nonempty;
    some_copy = is.copies;
  }

  -- the quotient world of values that meet the axioms and instances meets the form
  pub values-world : (v : ℕ → Bool) → AreMetBy sig form u v → MeetsForm sig form (class_world u.terms at (same_by u lay v) (fact_by u lay v) sig form.copies)
  values-world v meets = from_values u.terms at (same_by u lay v) (fact_by u lay v) sig form sorts is basis meets

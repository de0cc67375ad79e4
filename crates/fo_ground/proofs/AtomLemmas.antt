-- The variable of an atom and the literal of a literal mean its instance.
use Rattle.std.proofs.Common.{◌≡◌, ℕ, Bool, true, false, List, map, refl, sym, subst, ◌∙◌, true≢false}
use Rattle.fo_core.specs.declared.term.Term.{Term}
use Rattle.fo_core.specs.declared.formula.Formula.{Formula, Rel, Eq}
use Rattle.fo_core.specs.declared.formula.Formula.TheVariants as F
use Rattle.fo_core.specs.declared.formula.Formula.TheBlock.{shape-the_row-Formula-0, hidden-the_row-Formula-0}
use denote.Hole.Carrier.{hidden}
use Rattle.fo_core.specs.Tables.{symbol_at}
use Rattle.fo_core.proofs.Rows.{sorted-Not}
use Rattle.fo_terms.specs.declared.terms.Universe.{Universe}
use Rattle.fo_terms.specs.Universe.{IsOf, AreOf}
use Rattle.fo_norm.specs.Forms.{IsAtom}
use Rattle.fo_ground.specs.declared.layout.Layout.{Layout}
use Rattle.fo_ground.specs.Instances.{place_of}
use Rattle.fo_ground.specs.Layout.{slot, same_var, same_by, fact_by, IsLiteral, IsLaidOut, HavePlaces, HasInstance, IsVariableOf, IsLiteralOf}
use Rattle.fo_ground.proofs.Placed.{place_of-is}
use Rattle.fo_ground.proofs.PlaceLemmas.{closed-ready, list_places}
use Rattle.fo_ground.proofs.MetRows.{met-Not}

module _ (u : Universe) (lay : Layout) (env : List ℕ) (r : IsLaidOut u lay) where
  abbrev at : ℕ → ℕ → List ℕ → ℕ
  at = slot u lay

  pub rel-places : (k d : ℕ) (args : List Term) → HasInstance u lay env (Rel k d args) → HavePlaces u lay env args (symbol_at lay.sig k).args
  rel-places k d args h = record { sorts = h.sorts; places = h.places; sorted = h.sorted.1 }

  pub rel-sorted : (k d : ℕ) (args : List Term) → HasInstance u lay env (Rel k d args) → AreOf u.terms (map (λ t. place_of u.terms (slot u lay) t env) args) (symbol_at lay.sig k).args
  rel-sorted k d args h = list_places u lay env args (symbol_at lay.sig k).args r (rel-places k d args h)

  pub rel-variable : (k d : ℕ) (args : List Term) → HasInstance u lay env (Rel k d args) → IsVariableOf u lay (Rel k d args) env (slot u lay k d (map (λ t. place_of u.terms (slot u lay) t env) args))
  rel-variable k d args h = record {
    within = r.facts k d (map (λ t. place_of u.terms (slot u lay) t env) args) h.sorted.0 (rel-sorted k d args h);
    means = λ v. ((λ t. t), (λ t. t));
  }

  pub eq-sorted : (a b : Term) → HasInstance u lay env (Eq a b) → (s : ℕ) × IsOf u.terms s (place_of u.terms (slot u lay) a env) × IsOf u.terms s (place_of u.terms (slot u lay) b env)
  eq-sorted a b h =
      let s = h.sorted.0 in
      (s, place_of-is u.terms at lay.sig lay.copies (closed-ready u lay r) a env h.sorts s h.places h.sorted.1, place_of-is u.terms at lay.sig lay.copies (closed-ready u lay r) b env h.sorts s h.places h.sorted.2)

  pub eq-variable : (a b : Term) → HasInstance u lay env (Eq a b) → IsVariableOf u lay (Eq a b) env (same_var u lay (place_of u.terms (slot u lay) a env) (place_of u.terms (slot u lay) b env))
  eq-variable a b h = record {
    within = let e = eq-sorted a b h in r.same e.0 (place_of u.terms at a env) (place_of u.terms at b env) e.1 e.2;
    means = λ v. ((λ t. t), (λ t. t));
  }

module _ (u : Universe) (lay : Layout) (env : List ℕ) where
  pub instance-Not : (f : Formula) → HasInstance u lay env (F.Not f) → HasInstance u lay env f
  instance-Not f h = record { sorts = h.sorts; places = h.places; sorted = subst (λ (A : Type 0). A) (sorted-Not lay.sig lay.copies f h.sorts) h.sorted }

  pub literal-Not : (f : Formula) (x : ℕ) → IsVariableOf u lay f env x → IsLiteralOf u lay (F.Not f) env (record { var = x; positive = false })
  literal-Not f x h = record {
    within = h.within;
    means = λ v.
        let same = met-Not u.terms (slot u lay) (same_by u lay v) (fact_by u lay v) f env in (
          (λ e. subst (λ (A : Type 0). A) (sym same) (λ m. true≢false (sym ((h.means v).1 m) ∙ e))),
          (λ n. is_false (v x) (λ t. (subst (λ (A : Type 0). A) same n) ((h.means v).0 t))),
        );
  }
    where
      is_false : (b : Bool) → (b ≡ true → ⊥) → b ≡ false
      is_false true n = absurd (n refl)
      is_false false n = refl

  pub literal-atom : (f : Formula) (x : ℕ) → IsVariableOf u lay f env x → IsLiteralOf u lay f env (record { var = x; positive = true })
  literal-atom f x h = record { within = h.within; means = h.means }

pub is_literal-Not : (f : Formula) → IsLiteral (F.Not f) ≡ IsAtom f
unfolding shape-the_row-Formula-0 hidden-the_row-Formula-0 hidden
is_literal-Not f = refl

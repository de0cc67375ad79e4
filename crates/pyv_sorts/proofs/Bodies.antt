-- Bodies by their parts.
use Rattle.std.proofs.Common.{◌≡◌, ℕ, ◌+◌, ◌⊎◌, ◌++◌, inl, inr, Bool, true, false, List, [], ◌∷◌, length, map, slice_index_or, refl, sym, ap, ap₂, ◌∙◌, subst, append-nil, Option, Some, None}
use Rattle.fo_core.specs.declared.names.Names.{Names}
use Rattle.fo_core.specs.declared.signature.Sig.{Sig}
use Rattle.fo_core.specs.declared.system.Step.{Step}
use Rattle.fo_core.specs.declared.formula.Formula.{Formula}
use Rattle.fo_core.specs.declared.formula.Formula.TheVariants as F
use Rattle.pyv_meaning.specs.declared.fault.SortFault.{SortFault}
use Rattle.pyv_meaning.specs.declared.fault.SortFault.TheVariants.{UnknownName, TwiceDeclared, WrongArity, SortClash, NoSort, NotATerm, NotAFormula, NewOutsideStep, NewTwice, NotMutable, TooMany, Memory}
use Rattle.pyv_meaning.specs.declared.variable.Use.{Use}
use Rattle.pyv_meaning.specs.Bodies.{AreSorted as BodySorted, params_of, closure_in, scope_in, part_uses, body_uses, at_part, params_fault, modifies_fault, parts_fault, body_fault, parts_clash, body_clash, part_formula, part_formulas_of, body_formula, body_step, modified, IsBodyFault}
use Rattle.pyv_meaning.specs.Builds.{closed_over, formula_of}
use Rattle.pyv_meaning.specs.Clashes.{clash}
use Rattle.pyv_meaning.specs.Closing.{frees, each_free, firsts, free_of, parts, whole}
use Rattle.pyv_meaning.specs.Gets.{IsFirstUnsorted, binders}
use Rattle.pyv_meaning.specs.Items.{Body}
use Rattle.pyv_meaning.specs.NameFaults.{◌then◌, fault}
use Rattle.pyv_meaning.specs.Tree.{Name, Binder, Tree, Trees, none, more, list_of, Joined, Conjunction, Universal, bound_names}
use Rattle.pyv_meaning.specs.Uses.{uses, binder_uses}
use Rattle.pyv_sorts.specs.Closures.{joined, each_frees, named_of, closures_of}
use Rattle.pyv_sorts.specs.Inferring.{AreSorted}
use Rattle.pyv_sorts.specs.Elaborating.{OrMemory, PartsFail, IsElaborated}
use Rattle.pyv_sorts.specs.Parts.{part_stand, faults_in, uses_in, clash_in, formulas_in, closures_in, parts_uses, parts_fault_of, ArePartsBuilt, IsFaultOfParts}
use Rattle.pyv_sorts.specs.Vocabulary.{Vocabulary}

-- ---- answers

pub answered_more : (Q R : SortFault → Type 0) → ((e : SortFault) → Q e → R e) → (e : SortFault) → OrMemory Q e → OrMemory R e
answered_more Q R h Memory a = tt
answered_more Q R h (UnknownName p) a = h (UnknownName p) a
answered_more Q R h (TwiceDeclared p) a = h (TwiceDeclared p) a
answered_more Q R h (WrongArity p) a = h (WrongArity p) a
answered_more Q R h (SortClash p) a = h (SortClash p) a
answered_more Q R h (NoSort p) a = h (NoSort p) a
answered_more Q R h (NotATerm p) a = h (NotATerm p) a
answered_more Q R h (NotAFormula p) a = h (NotAFormula p) a
answered_more Q R h (NewOutsideStep p) a = h (NewOutsideStep p) a
answered_more Q R h (NewTwice p) a = h (NewTwice p) a
answered_more Q R h (NotMutable p) a = h (NotMutable p) a
answered_more Q R h (TooMany p) a = h (TooMany p) a

-- ---- the parts of a body

pub joined_frees : (names : Names) (params : List Name) (xs : Trees) → joined (each_frees names params xs) ≡ each_free names xs params
joined_frees names params none = refl
joined_frees names params (more x xs) = ap (λ ns. frees names x params ++ ns) (joined_frees names params xs)

module _ (v : Vocabulary) (b : Body) where
  abbrev names : Names
  names = v.names

  abbrev sig : Sig
  sig = v.sig

  abbrev ps : List Name
  ps = params_of b

  abbrev free : List Name
  free = free_of names ps b.tree

  abbrev closures : Trees → List (List Name)
  closures xs = map (named_of free) (each_frees names ps xs)

  faults_are : (xs : Trees) → faults_in names sig (part_stand b.step) ps xs (closures xs) ≡ parts_fault names sig b (list_of xs)
  faults_are none = refl
  faults_are (more x xs) = ap (λ o. fault names sig x (at_part names sig b) (scope_in names b x) then o) (faults_are xs)

  uses_are : (xs : Trees) → uses_in names sig ps xs (closures xs) ≡ part_uses names sig b (list_of xs)
  uses_are none = refl
  uses_are (more x xs) = ap (λ us. uses names sig x (scope_in names b x) ++ us) (uses_are xs)

  clash_is : (sort_of : ℕ → ℕ) (xs : Trees) → clash_in names sig sort_of ps xs (closures xs) ≡ parts_clash names sig b sort_of (list_of xs)
  clash_is sort_of none = refl
  clash_is sort_of (more x xs) = ap (λ o. clash names sig sort_of x None (scope_in names b x) then o) (clash_is sort_of xs)

  formulas_are : (sort_of : ℕ → ℕ) (xs : Trees) → formulas_in names sig sort_of ps xs (closures xs) ≡ part_formulas_of names sig b sort_of (list_of xs)
  formulas_are sort_of none = refl
  formulas_are sort_of (more x xs) = ap (λ fs. part_formula names sig b sort_of x ∷ fs) (formulas_are sort_of xs)

  -- of trees that are the parts of the body
  module _ (xs : Trees) (are : parts b.tree ≡ list_of xs) (free_are : joined (each_frees names ps xs) ≡ frees names b.tree ps) where
    closures_are : closures_in names sig b.params xs ≡ closures xs
    closures_are = ap (λ ns. map (named_of (firsts [] ns)) (each_frees names ps xs)) free_are

    same_fault : parts_fault_of names sig b.step b.params xs ≡ parts_fault names sig b (parts b.tree)
    same_fault = ap (faults_in names sig (part_stand b.step) ps xs) closures_are ∙ faults_are xs ∙ ap (parts_fault names sig b) (sym are)

    same_uses : parts_uses names sig b.params xs ≡ body_uses names sig b
    same_uses = ap (λ us. binder_uses names b.params ++ us) (ap (uses_in names sig ps xs) closures_are ∙ uses_are xs ∙ ap (part_uses names sig b) (sym are))

    same_clash : (sort_of : ℕ → ℕ) → clash_in names sig sort_of ps xs (closures_in names sig b.params xs) ≡ body_clash names sig b sort_of
    same_clash sort_of = ap (clash_in names sig sort_of ps xs) closures_are ∙ clash_is sort_of xs ∙ ap (parts_clash names sig b sort_of) (sym are)

    same_formulas : (sort_of : ℕ → ℕ) → formulas_in names sig sort_of ps xs (closures_in names sig b.params xs) ≡ part_formulas_of names sig b sort_of (parts b.tree)
    same_formulas sort_of = ap (formulas_in names sig sort_of ps xs) closures_are ∙ formulas_are sort_of xs ∙ ap (part_formulas_of names sig b sort_of) (sym are)

    -- a fault of the trees is one of the parts of the body
    pub part_is_at_fault : (e : SortFault) → IsFaultOfParts names sig b.step b.params xs e → PartsFail v b e
    part_is_at_fault e h =
        elim h [
          | inl f ↦ inl (sym same_fault ∙ f)
          | inr k ↦
              elim k [
                | inl u ↦ inr (inl (sym same_fault ∙ u.0, subst (λ us. IsFirstUnsorted us (binders us) e) same_uses u.1))
                | inr c ↦ inr (inr (sym same_fault ∙ c.0, c.1, subst (λ us. AreSorted us c.1) same_uses c.2, sym (same_clash c.1) ∙ c.3))
              ]
        ]

    -- the parts build the body
    pub parts_build : (params : List ℕ) (formulas : List Formula) (f : Formula) → ArePartsBuilt names sig b.step b.params xs params formulas → f ≡ whole b.tree formulas → IsElaborated v b params f
    parts_build params formulas f h g = record {
      sort_of = h.sort_of;
      names_fine = sym same_fault ∙ h.names_fine;
      sorted = subst (λ us. AreSorted us h.sort_of) same_uses h.sorted;
      no_clash = sym (same_clash h.sort_of) ∙ h.no_clash;
      formula = g ∙ ap (whole b.tree) (h.formulas_are ∙ same_formulas h.sort_of);
      params_are = h.params_are;
    }

-- a body that has no other parts
pub whole_frees : (names : Names) (params : List Name) (x : Tree) → joined (each_frees names params (more x none)) ≡ frees names x params
whole_frees names params x = append-nil (frees names x params)

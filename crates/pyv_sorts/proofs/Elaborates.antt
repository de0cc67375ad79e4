-- The answer of elaboration.
use Rattle.std.proofs.Common.{◌≡◌, ℕ, ◌+◌, ◌<◌, ◌≤◌, ◌^◌, ◌⊎◌, inl, inr, List, [], ◌∷◌, length, map, refl, sym, ap, ◌∙◌, subst}
use Rattle.std.specs.Prelude.{Option, Some, None, Result, Ok, Err, IfOk, IfErr, IsUtf8}
use Rattle.std.specs.List.{AllByRecursion, All}
use Rattle.std.proofs.lemmas.List.{length-map}
use Rattle.std.proofs.lemmas.List.Elements.{All-head, All-tail}
use Rattle.fo_core.specs.Named.{IsName, NamesFit}
use Rattle.fo_core.specs.Sorted.{IsSystem, IsWithinDepth}
use Rattle.fo_core.specs.declared.names.Names.{Names}
use Rattle.fo_core.specs.declared.signature.Sig.{Sig}
use Rattle.fo_core.specs.declared.system.Step.{Step}
use Rattle.fo_core.specs.declared.system.System.{System}
use Rattle.fo_core.specs.declared.formula.Formula.{Formula}
use Rattle.pyv_grammar.specs.declared.tree.Decl.{Decl}
use Rattle.pyv_grammar.specs.declared.tree.Model.{Model}
use Rattle.pyv_meaning.specs.declared.fault.SortFault.{SortFault}
use Rattle.pyv_meaning.specs.declared.fault.SortFault.TheVariants.{Memory, UnknownName, TwiceDeclared, WrongArity, SortClash, NoSort, NotATerm, NotAFormula, NewOutsideStep, NewTwice, NotMutable, TooMany}
use Rattle.pyv_meaning.specs.Bodies.{IsFirstOfBodies}
use Rattle.pyv_meaning.specs.Declaring.{words, names_in, sig_in, declared_fault}
use Rattle.pyv_meaning.specs.Front.{Done}
use Rattle.pyv_meaning.specs.Items.{Item, items_of, item_of, sorts, bodies}
use Rattle.pyv_meaning.specs.Meaning.{MeansSystem, IsFirstFault, IsSortFault}
use Rattle.pyv_meaning.specs.Tree.{Name}
use Rattle.pyv_meaning.proofs.Declares.{declared_sound}
use Rattle.pyv_meaning.proofs.ItemsFit.{well_sorted, within_depth, names_fit}
use Rattle.pyv_meaning.proofs.Progress.{done_all, told}
use Rattle.pyv_meaning.proofs.Whole.{excluded, unique}
use Rattle.pyv_meaning.proofs.Words.{word_utf8}
use Rattle.pyv_sorts.specs.Answers.{IsUnlessMemory}
use Rattle.pyv_sorts.specs.Elaborating.{OrMemory, HaveFew, IsFaultOfBodies}
use Rattle.pyv_sorts.specs.Tells.{Fails}
use Rattle.pyv_sorts.specs.Vocabulary.{Vocabulary}
use Rattle.pyv_sorts.specs.declared.model.Elaborated.{Elaborated}
use Rattle.pyv_sorts.proofs.Meant.{or_memory, fails_or}

all_text : (ws : List (List ℕ)) → All IsName ws → AllByRecursion IsUtf8 ws
all_text [] h = tt
all_text (w ∷ ws) h = (word_utf8 w (All-head IsName w ws h).word, all_text ws (All-tail IsName w ws h))

module _ (bytes : List ℕ) (m : Model) where
  abbrev pub items : List Item
  items = items_of bytes m.decls

  -- the first fault, or want of memory, is told
  or_fault : (e : SortFault) → OrMemory (IsFirstFault bytes m) e → IsSortFault bytes m e
  or_fault Memory h = tt
  or_fault (UnknownName p) h = h
  or_fault (TwiceDeclared p) h = h
  or_fault (WrongArity p) h = h
  or_fault (SortClash p) h = h
  or_fault (NoSort p) h = h
  or_fault (NotATerm p) h = h
  or_fault (NotAFormula p) h = h
  or_fault (NewOutsideStep p) h = h
  or_fault (NewTwice p) h = h
  or_fault (NotMutable p) h = h
  or_fault (TooMany p) h = h

  pub declared_fails : (e : SortFault) → Fails e (declared_fault items [] items) → IsSortFault bytes m e
  declared_fails e h = or_fault e (fails_or (IsFirstFault bytes m) (declared_fault items [] items) (λ f k. inl k) e h)

  -- where there is a meaning, a fault that is told is want of memory
  pub only_memory : (sys : System) (names : Names) → MeansSystem bytes m sys names → (e : SortFault) → IsSortFault bytes m e → OrMemory (λ g. ⊥) e
  only_memory sys names k Memory h = tt
  only_memory sys names k (UnknownName p) h = excluded items sys names (UnknownName p) k h
  only_memory sys names k (TwiceDeclared p) h = excluded items sys names (TwiceDeclared p) k h
  only_memory sys names k (WrongArity p) h = excluded items sys names (WrongArity p) k h
  only_memory sys names k (SortClash p) h = excluded items sys names (SortClash p) k h
  only_memory sys names k (NoSort p) h = excluded items sys names (NoSort p) k h
  only_memory sys names k (NotATerm p) h = excluded items sys names (NotATerm p) k h
  only_memory sys names k (NotAFormula p) h = excluded items sys names (NotAFormula p) k h
  only_memory sys names k (NewOutsideStep p) h = excluded items sys names (NewOutsideStep p) k h
  only_memory sys names k (NewTwice p) h = excluded items sys names (NewTwice p) k h
  only_memory sys names k (NotMutable p) h = excluded items sys names (NotMutable p) k h
  only_memory sys names k (TooMany p) h = excluded items sys names (TooMany p) k h

  pub only_found : (e : Elaborated) → MeansSystem bytes m e.sys e.names → (sys : System) (names : Names) → MeansSystem bytes m sys names → IsUnlessMemory (Ok e) sys names
  only_found e f sys names h = unique items e.sys sys e.names names f h

  pub is_sorted : (sys : System) (names : Names) → MeansSystem bytes m sys names → length m.decls < 2 ^ 32 → IsSystem sys
  is_sorted sys names h few = well_sorted items sys names h (subst (λ (n : ℕ). n < 2 ^ 32) (sym (length-map m.decls (item_of bytes))) few)

  -- what is known of the text is what the file declares, without fault; ds are its declarations
  pub record IsKnown (v : Vocabulary) (ds : List Decl) : Type 0 where
    pub same : v.bytes ≡ bytes
    pub decls : ds ≡ m.decls
    pub fine : declared_fault items [] items ≡ None
    pub named : v.names ≡ names_in items
    pub signed : v.sig ≡ sig_in items

  pub known_is : (v : Vocabulary) (ds : List Decl) → ds ≡ m.decls → v.bytes ≡ bytes → declared_fault (items_of bytes ds) [] (items_of bytes ds) ≡ None → v.names ≡ names_in (items_of bytes ds) → v.sig ≡ sig_in (items_of bytes ds) → IsKnown v ds
  known_is v ds e b f n g = record {
    same = b;
    decls = e;
    fine = subst (λ (xs : List Decl). declared_fault (items_of bytes xs) [] (items_of bytes xs) ≡ None) e f;
    named = subst (λ (xs : List Decl). v.names ≡ names_in (items_of bytes xs)) e n;
    signed = subst (λ (xs : List Decl). v.sig ≡ sig_in (items_of bytes xs)) e g;
  }

  pub declared_fails_at : (ds : List Decl) → ds ≡ m.decls → (e : SortFault) → Fails e (declared_fault (items_of bytes ds) [] (items_of bytes ds)) → IsSortFault bytes m e
  declared_fails_at ds q e h = declared_fails e (subst (λ (xs : List Decl). Fails e (declared_fault (items_of bytes xs) [] (items_of bytes xs))) q h)

  module _ (v : Vocabulary) (ds : List Decl) (k : IsKnown v ds) where
    pub few_params : HaveFew (items_of v.bytes ds)
    few_params = subst (λ (xs : List Decl). HaveFew (items_of v.bytes xs)) (sym k.decls) (subst (λ (b : List ℕ). HaveFew (items_of b m.decls)) (sym k.same) (declared_sound items k.fine).few_params)

    pub sort_texts : AllByRecursion IsUtf8 v.names.sorts
    sort_texts = subst (λ (n : Names). AllByRecursion IsUtf8 n.sorts) (sym k.named) (all_text _ (declared_sound items k.fine).fit.sorts.named)

    pub symbol_texts : AllByRecursion IsUtf8 v.names.symbols
    symbol_texts = subst (λ (n : Names). AllByRecursion IsUtf8 n.symbols) (sym k.named) (all_text _ (declared_sound items k.fine).fit.symbols.named)

    pub step_texts : AllByRecursion IsUtf8 v.names.steps
    step_texts = subst (λ (n : Names). AllByRecursion IsUtf8 n.steps) (sym k.named) (all_text _ (declared_sound items k.fine).fit.steps.named)

    pub sort_count : v.sig.sorts ≡ length v.names.sorts
    sort_count = ap (λ (g : Sig). g.sorts) k.signed ∙ sym (ap (λ (n : Names). length n.sorts) k.named ∙ length-map (sorts items) (λ (n : Name). n.word))

    all_items : items_of v.bytes ds ≡ items
    all_items = ap (λ (b : List ℕ). items_of b ds) k.same ∙ ap (items_of bytes) k.decls

    pub bodies_fail : (e : SortFault) → IsFaultOfBodies v (bodies (items_of v.bytes ds)) e → IsSortFault bytes m e
    bodies_fail e h =
        or_fault e (or_memory (IsFirstOfBodies v.names v.sig (bodies (items_of v.bytes ds))) (IsFirstFault bytes m)
        (λ f q. inr (
          k.fine,
          subst (λ (g : Sig). IsFirstOfBodies (names_in items) g (bodies items) f) k.signed
              (subst (λ (n : Names). IsFirstOfBodies n v.sig (bodies items) f) k.named (subst (λ (xs : List Item). IsFirstOfBodies v.names v.sig (bodies xs) f) all_items q)),
        )) e h)

    pub means : (sys : System) (names : Names) → sys.sig ≡ v.sig → names ≡ v.names → Done v.names v.sig (items_of v.bytes ds) sys.axioms sys.inits sys.steps sys.safeties sys.invariants → MeansSystem bytes m sys names
    means sys names g n d =
        done_all items sys names k.fine (n ∙ k.named) (g ∙ k.signed)
        (subst (λ (g : Sig). Done (names_in items) g items sys.axioms sys.inits sys.steps sys.safeties sys.invariants) k.signed
        (subst (λ (n : Names). Done n v.sig items sys.axioms sys.inits sys.steps sys.safeties sys.invariants) k.named
        (subst (λ (xs : List Item). Done v.names v.sig xs sys.axioms sys.inits sys.steps sys.safeties sys.invariants) all_items d)))

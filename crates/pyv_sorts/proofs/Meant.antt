-- What bodies and declarations mean, one step further.
use Rattle.std.proofs.Common.{◌≡◌, ℕ, zero, suc, ◌+◌, ◌<◌, ◌≤◌, ◌++◌, ◌⊎◌, inl, inr, Bool, true, false, List, [], ◌∷◌, length, get_or, map, take, drop, refl, sym, ap, ap₂, ◌∙◌, subst, arith, append_assoc, append-nil, Bor}
use Rattle.std.specs.Prelude.{Option, Some, None, Result, IsUtf8}
use Rattle.std.specs.List.{AllByRecursion}
use Rattle.fo_core.specs.declared.names.Names.{Names}
use Rattle.fo_core.specs.declared.signature.Sig.{Sig}
use Rattle.fo_core.specs.Tables.{symbol_at}
use Rattle.pv_base.specs.declared.Span.{Span}
use Rattle.pyv_grammar.specs.declared.tree.Bound.{Bound}
use Rattle.pyv_meaning.specs.declared.fault.SortFault.{SortFault}
use Rattle.pyv_meaning.specs.declared.fault.SortFault.TheVariants.{Memory, UnknownName, TwiceDeclared, WrongArity, SortClash, NoSort, NotATerm, NotAFormula, NewOutsideStep, NewTwice, NotMutable, TooMany}
use Rattle.fo_core.specs.declared.formula.Formula.{Formula}
use Rattle.fo_core.specs.declared.system.Step.{Step}
use Rattle.pyv_meaning.specs.Bodies.{params_of, mutable_fault, modifies_fault, params_fault, parts_fault, body_fault, IsBodyFault, IsFirstOfBodies, IsSound, BodyMeans, ClaimMeans, StepMeans, modified}
use Rattle.pyv_meaning.specs.Closing.{parts}
use Rattle.pyv_meaning.specs.Items.{Item, Body, body_of as bodies_of, step_of, steps, bodies, item_of, items_of}
use Rattle.pyv_meaning.proofs.Top.{body_sound}
use Rattle.pyv_meaning.proofs.Whole.{step_sound}
use Rattle.pyv_sorts.specs.Elaborating.{IsElaborated, PartsFail, OrMemory, IsPartsFault, IsFaultOfBody, IsFaultOfItem, IsFaultOfBodies, HaveFew}
use Rattle.pyv_sorts.specs.Vocabulary.{Vocabulary}
use Rattle.pyv_meaning.specs.NameFaults.{◌then◌, sort_fault}
use Rattle.pyv_meaning.specs.Scope.{number, or_zero}
use Rattle.pyv_meaning.specs.Tree.{Name, Binder}
use Rattle.pyv_meaning.specs.View.{word, name_of, names_of, sort_name, binder_of, binders_of}
use Rattle.pyv_meaning.proofs.Progress.{rest_more, front_more, first_fails}
use Rattle.std.proofs.lemmas.List.{length-map, take-append-drop}
use Rattle.pyv_grammar.specs.declared.tree.Decl.{Decl}
use Rattle.pyv_sorts.specs.Tells.{Fails, Tells}
use Rattle.pyv_sorts.proofs.Noted.{then_fails}

pub text_at : (ws : List (Bor (List ℕ))) (i : ℕ) (d : Bor (List ℕ)) → i < length ws → AllByRecursion IsUtf8 (map (λ (w : Bor (List ℕ)). w.now) ws) → IsUtf8 (get_or ws i d).now
text_at [] i d lt h = absurd (omega (arith, lt))
text_at (w ∷ ws) zero d lt h = h.0
text_at (w ∷ ws) (suc i) d lt h = text_at ws i d (omega (arith, lt)) h.1

module _ (names : Names) (sig : Sig) (bytes : List ℕ) where
  module _ (ss : List Span) (i : ℕ) (s d : Span) (lt : i < length ss) (at : get_or ss i d ≡ s) where
    next_name : names_of bytes (drop i ss) ≡ name_of bytes s ∷ names_of bytes (drop (i + 1) ss)
    next_name = rest_more (name_of bytes) ss i s d lt at

    pub mutable_next : mutable_fault names sig (number names.symbols (word bytes s)) s.from ≡ None → modifies_fault names sig (names_of bytes (drop (i + 1) ss)) ≡ modifies_fault names sig (names_of bytes (drop i ss))
    mutable_next h = sym (ap (modifies_fault names sig) next_name ∙ ap (λ (o : Option SortFault). o then modifies_fault names sig (names_of bytes (drop (i + 1) ss))) h)

    pub mutable_fails : (e : SortFault) → Fails e (mutable_fault names sig (number names.symbols (word bytes s)) s.from) → Fails e (modifies_fault names sig (names_of bytes (drop i ss)))
    mutable_fails e h = subst (Fails e) (sym (ap (modifies_fault names sig) next_name)) (then_fails e _ _ h)

    pub modified_next : (ks : List ℕ) (k : ℕ) → k ≡ or_zero (number names.symbols (word bytes s)) → (ks ++ k ∷ []) ++ modified names sig (names_of bytes (drop (i + 1) ss)) ≡ ks ++ modified names sig (names_of bytes (drop i ss))
    modified_next ks k h =
        append_assoc ks (k ∷ []) _ ∙ ap₂ (λ (n : ℕ) (t : List ℕ). ks ++ n ∷ t) h refl ∙ ap (λ (t : List Name). ks ++ modified names sig t) (sym next_name)

  module _ (bs : List Bound) (i : ℕ) (b d : Bound) (lt : i < length bs) (at : get_or bs i d ≡ b) where
    next_binder : binders_of bytes (drop i bs) ≡ binder_of bytes b ∷ binders_of bytes (drop (i + 1) bs)
    next_binder = rest_more (binder_of bytes) bs i b d lt at

    pub param_next : sort_fault names (sort_name bytes b.sort) ≡ None → params_fault names sig (binders_of bytes (drop (i + 1) bs)) ≡ params_fault names sig (binders_of bytes (drop i bs))
    param_next h = sym (ap (params_fault names sig) next_binder ∙ ap (λ (o : Option SortFault). o then params_fault names sig (binders_of bytes (drop (i + 1) bs))) h)

    pub param_fails : (e : SortFault) → Fails e (sort_fault names (sort_name bytes b.sort)) → Fails e (params_fault names sig (binders_of bytes (drop i bs)))
    param_fails e h = subst (Fails e) (sym (ap (params_fault names sig) next_binder)) (then_fails e _ _ h)

-- ---- faults, but for want of memory

pub or_memory : (P Q : SortFault → Type 0) → ((e : SortFault) → P e → Q e) → (e : SortFault) → OrMemory P e → OrMemory Q e
or_memory P Q f Memory h = tt
or_memory P Q f (UnknownName p) h = f (UnknownName p) h
or_memory P Q f (TwiceDeclared p) h = f (TwiceDeclared p) h
or_memory P Q f (WrongArity p) h = f (WrongArity p) h
or_memory P Q f (SortClash p) h = f (SortClash p) h
or_memory P Q f (NoSort p) h = f (NoSort p) h
or_memory P Q f (NotATerm p) h = f (NotATerm p) h
or_memory P Q f (NotAFormula p) h = f (NotAFormula p) h
or_memory P Q f (NewOutsideStep p) h = f (NewOutsideStep p) h
or_memory P Q f (NewTwice p) h = f (NewTwice p) h
or_memory P Q f (NotMutable p) h = f (NotMutable p) h
or_memory P Q f (TooMany p) h = f (TooMany p) h

some_fault : SortFault → Option SortFault
some_fault e = Some e

pub fails_or : (P : SortFault → Type 0) (f : Option SortFault) → ((e : SortFault) → f ≡ Some e → P e) → (e : SortFault) → Fails e f → OrMemory P e
fails_or P f g Memory h = tt
fails_or P f g (UnknownName p) h = g (UnknownName p) h
fails_or P f g (TwiceDeclared p) h = g (TwiceDeclared p) h
fails_or P f g (WrongArity p) h = g (WrongArity p) h
fails_or P f g (SortClash p) h = g (SortClash p) h
fails_or P f g (NoSort p) h = g (NoSort p) h
fails_or P f g (NotATerm p) h = g (NotATerm p) h
fails_or P f g (NotAFormula p) h = g (NotAFormula p) h
fails_or P f g (NewOutsideStep p) h = g (NewOutsideStep p) h
fails_or P f g (NewTwice p) h = g (NewTwice p) h
fails_or P f g (NotMutable p) h = g (NotMutable p) h
fails_or P f g (TooMany p) h = g (TooMany p) h

-- ---- bodies

abbrev make_step : List ℕ → List ℕ → Formula → Step
make_step ks ps y = record { modifies = ks; params = ps; body = y }

module _ (v : Vocabulary) (b : Body) where
  parts_only : params_fault v.names v.sig b.params ≡ None → modifies_fault v.names v.sig b.modifies ≡ None → body_fault v.names v.sig b ≡ parts_fault v.names v.sig b (parts b.tree)
  parts_only p m = ap (λ (o : Option SortFault). o then modifies_fault v.names v.sig b.modifies then parts_fault v.names v.sig b (parts b.tree)) p ∙ ap (λ (o : Option SortFault). o then parts_fault v.names v.sig b (parts b.tree)) m

  module _ (p : params_fault v.names v.sig b.params ≡ None) (m : modifies_fault v.names v.sig b.modifies ≡ None) where
    pub built_sound : (ps : List ℕ) (y : Formula) → IsElaborated v b ps y → IsSound v.names v.sig b
    built_sound ps y h = record { names_fine = parts_only p m ∙ h.names_fine; sort_of = h.sort_of; sorted = h.sorted; no_clash = h.no_clash }

    pub built_step : (ps ks : List ℕ) (y : Formula) → length b.params ≤ 16 → ks ≡ modified v.names v.sig b.modifies → IsElaborated v b ps y → StepMeans v.names v.sig b (make_step ks ps y)
    built_step ps ks y few k h =
        subst (StepMeans v.names v.sig b) (sym (ap₂ (λ (i j : List ℕ). make_step i j y) k h.params_are ∙ ap (make_step (modified v.names v.sig b.modifies) (map (λ (n : Name). h.sort_of n.place) (params_of b))) h.formula))
        (step_sound v.names v.sig b h.sort_of (omega (arith, few)) (parts_only p m ∙ h.names_fine) h.sorted h.no_clash)

    pub parts_fail : (e : SortFault) → IsPartsFault v b e → IsFaultOfBody v b e
    parts_fail = or_memory (PartsFail v b) (IsBodyFault v.names v.sig b) (λ e h. elim h [
      | inl a ↦ inl (parts_only p m ∙ a)
      | inr r ↦ elim r [ inl a ↦ inr (inl (parts_only p m ∙ a.0, a.1)) | inr a ↦ inr (inr (parts_only p m ∙ a.0, a.1, a.2, a.3)) ]
    ])

    pub built_claim : (ps : List ℕ) (y : Formula) → length b.params ≤ 64 → IsElaborated v b ps y → ClaimMeans v.names v.sig b y
    built_claim ps y few h = (h.sort_of, subst (BodyMeans v.names v.sig b h.sort_of) (sym h.formula) (body_sound v.names v.sig b h.sort_of few (parts_only p m ∙ h.names_fine) h.sorted h.no_clash))

  pub params_fail : (e : SortFault) → Fails e (params_fault v.names v.sig b.params) → IsFaultOfBody v b e
  params_fail e h = fails_or (IsBodyFault v.names v.sig b) (body_fault v.names v.sig b) (λ e k. inl k) e (then_fails e _ _ h)

  pub modifies_fail : params_fault v.names v.sig b.params ≡ None → (e : SortFault) → Fails e (modifies_fault v.names v.sig b.modifies) → IsFaultOfBody v b e
  modifies_fail p e h =
      fails_or (IsBodyFault v.names v.sig b) (body_fault v.names v.sig b) (λ e k. inl k) e
      (subst (Fails e) (sym (ap (λ (o : Option SortFault). o then modifies_fault v.names v.sig b.modifies then parts_fault v.names v.sig b (parts b.tree)) p)) (then_fails e _ _ h))

pub few_of : (bytes : List ℕ) (bs : List Bound) (k : ℕ) → length bs ≤ k → length (binders_of bytes bs) ≤ k
few_of bytes bs k le = subst (λ n. n ≤ k) (sym (length-map bs (binder_of bytes))) le

-- ---- declarations

pub claim_fails : (v : Vocabulary) (x : Item) (b : Body) → bodies_of x ≡ b ∷ [] → (e : SortFault) → IsFaultOfBody v b e → IsFaultOfItem v x e
claim_fails v x b h = or_memory (IsBodyFault v.names v.sig b) (λ e. (b : Body) × (bodies_of x ≡ b ∷ []) × IsBodyFault v.names v.sig b e) (λ e k. (b, h, k))

pub first_few : (x : Item) (items : List Item) → HaveFew (x ∷ items) → HaveFew (x ∷ [])
first_few x items h = let r = split (step_of x) (steps items) h in subst (AllByRecursion (λ (b : Body). length b.params ≤ 16)) (sym (append-nil (step_of x))) r
  where
    split : (a b : List Body) → AllByRecursion (λ (b : Body). length b.params ≤ 16) (a ++ b) → AllByRecursion (λ (b : Body). length b.params ≤ 16) a
    split [] b h = tt
    split (c ∷ a) b h = (h.0, split a b h.1)

pub later_few : (x : Item) (items : List Item) → HaveFew (x ∷ items) → HaveFew items
later_few x items h = split (step_of x) (steps items) h
  where
    split : (a b : List Body) → AllByRecursion (λ (b : Body). length b.params ≤ 16) (a ++ b) → AllByRecursion (λ (b : Body). length b.params ≤ 16) b
    split [] b h = h
    split (c ∷ a) b h = split a b h.1

-- what fails behind declarations that are done is the first of all
pub item_fails : (v : Vocabulary) (items front rest : List Item) (x : Item) → items ≡ front ++ x ∷ rest → AllByRecursion (IsSound v.names v.sig) (bodies front) → (e : SortFault) → IsFaultOfItem v x e → IsFaultOfBodies v (bodies items) e
item_fails v items front rest x h s =
    or_memory (λ e. (b : Body) × (bodies_of x ≡ b ∷ []) × IsBodyFault v.names v.sig b e) (IsFirstOfBodies v.names v.sig (bodies items)) (λ e k. first_fails v.names v.sig items front rest x k.0 e h k.1 s k.2)

module _ (bytes : List ℕ) (ds : List Decl) (i : ℕ) (x d : Decl) (lt : i < length ds) (at : get_or ds i d ≡ x) where
  next_item : items_of bytes (drop i ds) ≡ item_of bytes x ∷ items_of bytes (drop (i + 1) ds)
  next_item = rest_more (item_of bytes) ds i x d lt at

  pub few_here : HaveFew (items_of bytes (drop i ds)) → HaveFew (item_of bytes x ∷ [])
  few_here h = first_few (item_of bytes x) (items_of bytes (drop (i + 1) ds)) (subst HaveFew next_item h)

  pub few_behind : HaveFew (items_of bytes (drop i ds)) → HaveFew (items_of bytes (drop (i + 1) ds))
  few_behind h = later_few (item_of bytes x) (items_of bytes (drop (i + 1) ds)) (subst HaveFew next_item h)

  pub front_behind : items_of bytes (take (i + 1) ds) ≡ items_of bytes (take i ds) ++ item_of bytes x ∷ []
  front_behind = front_more (item_of bytes) ds i x d lt at

  pub all_items : items_of bytes ds ≡ items_of bytes (take i ds) ++ item_of bytes x ∷ items_of bytes (drop (i + 1) ds)
  all_items = ap (items_of bytes) (sym (take-append-drop i ds)) ∙ both (take i ds) (drop i ds) ∙ ap (λ (t : List Item). items_of bytes (take i ds) ++ t) next_item
    where
      both : (a b : List Decl) → items_of bytes (a ++ b) ≡ items_of bytes a ++ items_of bytes b
      both [] b = refl
      both (y ∷ a) b = ap (λ (t : List Item). item_of bytes y ∷ t) (both a b)

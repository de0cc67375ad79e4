-- What the definitions on syntax say at each constructor, over lists.
use Rattle.std.proofs.Common.{◌≡◌, ℕ, Bool, true, false, not, ◌+◌, ◌<◌, List, [], ◌∷◌, ◌++◌, length, get_or, map, refl, sym, ap, subst, ◌∙◌, arith, length-append, append_assoc}
use Rattle.std.specs.List.{All}
use Rattle.std.proofs.lemmas.List.{append-nil}
use Rattle.fo_core.proofs.Zips.{AllZip-at}
use denote.Hole.Carrier.{hidden}
use Rattle.fo_core.specs.declared.query.Query.{Query}
use Rattle.fo_core.specs.declared.signature.Sig.{Sig}
use Rattle.fo_core.specs.declared.term.Term.{Term, Row_of-Term, end_of-Term, more_of-Term, items-the_row-Term, items_hidden-the_row-Term-0}
use Rattle.fo_core.specs.declared.term.Term.TheVariants as T
use Rattle.fo_core.specs.declared.formula.Formula.{Formula, Row_of-Formula, end_of-Formula, more_of-Formula, items-the_row-Formula, items_hidden-the_row-Formula-1}
use Rattle.fo_core.specs.declared.formula.Formula.TheBlock.{shape-the_row-Formula-0, hidden-the_row-Formula-0}
use Rattle.fo_core.specs.declared.formula.Formula.TheVariants as F
use Rattle.fo_core.specs.Sorted.{IsTerm}
use Rattle.fo_core.specs.Tables.{symbol_at}
use Rattle.fo_core.proofs.Rows.{row_of, args_of, sorted-Not, sorted-And, sorted-Or, sorted-All, sorted-Ex, sorted-App}
use Rattle.fo_norm.specs.declared.scope.Slot.{Slot}
use Rattle.fo_core.specs.Queries.{IsQuery}
use Rattle.fo_core.specs.Skolems.{skolem_symbols, skolem_symbols_row, skolem_symbols_list}
use Rattle.fo_norm.specs.Skolem.{filled, filled_row, joined, formed, formed_row, formed_list, universal, existential, universal_symbols, existential_symbols, CanFill, CanFillEach, CanForm, CanBind}

module _ (slots : List Slot) where
  filled_map : (n : _) (row : Row_of-Term n) → filled_row slots row ≡ map (filled slots) (items-the_row-Term n row)
  filled_map n end_of-Term = refl
  filled_map n (more_of-Term t rest) = ap (λ ts. filled slots t ∷ ts) (filled_map _ rest)

  pub filled-App : (f d : ℕ) (args : List Term) → filled slots (T.App f d args) ≡ T.App f d (map (filled slots) args)
  filled-App f d args =
      let row = args_of (T.App f d args) in
      ap (T.App f d) (filled_map row.0 row.1 ∙ ap (map (filled slots)) (items_hidden-the_row-Term-0 args))

symbols_map : (b : Bool) (us : List ℕ) (n : _) (row : Row_of-Formula n) → skolem_symbols_row b row us ≡ skolem_symbols_list b (items-the_row-Formula n row) us
symbols_map b us n end_of-Formula = refl
symbols_map b us n (more_of-Formula f rest) = ap (λ ss. skolem_symbols b f us ++ ss) (symbols_map b us _ rest)

formed_map : (b : Bool) (slots : List Slot) (us : List ℕ) (n : _) (row : Row_of-Formula n) (next : ℕ) → formed_row b row slots us next ≡ formed_list b (items-the_row-Formula n row) slots us next
formed_map b slots us n end_of-Formula next = refl
formed_map b slots us n (more_of-Formula f rest) next = ap (λ fs. formed b f slots us next ∷ fs) (formed_map b slots us _ rest (next + length (skolem_symbols b f us)))

pub symbols-And : (b : Bool) (fs : List Formula) (us : List ℕ) → skolem_symbols b (F.And fs) us ≡ skolem_symbols_list b fs us
symbols-And b fs us = let row = row_of (F.And fs) in symbols_map b us row.0 row.1 ∙ ap (λ fs. skolem_symbols_list b fs us) (items_hidden-the_row-Formula-1 fs)

pub symbols-Or : (b : Bool) (fs : List Formula) (us : List ℕ) → skolem_symbols b (F.Or fs) us ≡ skolem_symbols_list b fs us
symbols-Or b fs us = let row = row_of (F.Or fs) in symbols_map b us row.0 row.1 ∙ ap (λ fs. skolem_symbols_list b fs us) (items_hidden-the_row-Formula-1 fs)

pub formed-And : (b : Bool) (fs : List Formula) (slots : List Slot) (us : List ℕ) (next : ℕ) → formed b (F.And fs) slots us next ≡ joined b (formed_list b fs slots us next)
formed-And b fs slots us next = let row = row_of (F.And fs) in ap (joined b) (formed_map b slots us row.0 row.1 next ∙ ap (λ fs. formed_list b fs slots us next) (items_hidden-the_row-Formula-1 fs))

pub formed-Or : (b : Bool) (fs : List Formula) (slots : List Slot) (us : List ℕ) (next : ℕ) → formed b (F.Or fs) slots us next ≡ joined (not b) (formed_list b fs slots us next)
formed-Or b fs slots us next = let row = row_of (F.Or fs) in ap (joined (not b)) (formed_map b slots us row.0 row.1 next ∙ ap (λ fs. formed_list b fs slots us next) (items_hidden-the_row-Formula-1 fs))

module _ (f : Formula) (slots : List Slot) (us : List ℕ) (next : ℕ) where
  pub formed-Not : (b : Bool) → formed b (F.Not f) slots us next ≡ formed (not b) f slots us next
  unfolding shape-the_row-Formula-0 hidden-the_row-Formula-0 hidden
  formed-Not b = refl

  pub symbols-Not : (b : Bool) → skolem_symbols b (F.Not f) us ≡ skolem_symbols (not b) f us
  unfolding shape-the_row-Formula-0 hidden-the_row-Formula-0 hidden
  symbols-Not b = refl

  pub formed-All-true : (s : ℕ) → formed true (F.All s f) slots us next ≡ universal true s f slots us next
  unfolding shape-the_row-Formula-0 hidden-the_row-Formula-0 hidden
  formed-All-true s = refl

  pub formed-All-false : (s : ℕ) → formed false (F.All s f) slots us next ≡ existential false f slots us next
  unfolding shape-the_row-Formula-0 hidden-the_row-Formula-0 hidden
  formed-All-false s = refl

  pub formed-Ex-true : (s : ℕ) → formed true (F.Ex s f) slots us next ≡ existential true f slots us next
  unfolding shape-the_row-Formula-0 hidden-the_row-Formula-0 hidden
  formed-Ex-true s = refl

  pub formed-Ex-false : (s : ℕ) → formed false (F.Ex s f) slots us next ≡ universal false s f slots us next
  unfolding shape-the_row-Formula-0 hidden-the_row-Formula-0 hidden
  formed-Ex-false s = refl

  pub symbols-All-true : (s : ℕ) → skolem_symbols true (F.All s f) us ≡ universal_symbols true s f us
  unfolding shape-the_row-Formula-0 hidden-the_row-Formula-0 hidden
  symbols-All-true s = refl

  pub symbols-All-false : (s : ℕ) → skolem_symbols false (F.All s f) us ≡ existential_symbols false s f us
  unfolding shape-the_row-Formula-0 hidden-the_row-Formula-0 hidden
  symbols-All-false s = refl

  pub symbols-Ex-true : (s : ℕ) → skolem_symbols true (F.Ex s f) us ≡ existential_symbols true s f us
  unfolding shape-the_row-Formula-0 hidden-the_row-Formula-0 hidden
  symbols-Ex-true s = refl

  pub symbols-Ex-false : (s : ℕ) → skolem_symbols false (F.Ex s f) us ≡ universal_symbols false s f us
  unfolding shape-the_row-Formula-0 hidden-the_row-Formula-0 hidden
  symbols-Ex-false s = refl

-- one more formula of a list
pub symbols-push : (b : Bool) (fs : List Formula) (g : Formula) (us : List ℕ) → skolem_symbols_list b (fs ++ g ∷ []) us ≡ skolem_symbols_list b fs us ++ skolem_symbols b g us
symbols-push b [] g us = append-nil (skolem_symbols b g us)
symbols-push b (f ∷ fs) g us = ap (λ ss. skolem_symbols b f us ++ ss) (symbols-push b fs g us) ∙ sym (append_assoc (skolem_symbols b f us) (skolem_symbols_list b fs us) (skolem_symbols b g us))

pub formed-push : (b : Bool) (fs : List Formula) (g : Formula) (slots : List Slot) (us : List ℕ) (next : ℕ) →
    formed_list b (fs ++ g ∷ []) slots us next ≡ formed_list b fs slots us next ++ formed b g slots us (next + length (skolem_symbols_list b fs us)) ∷ []
formed-push b [] g slots us next = let e : next ≡ next + 0 = omega arith in ap (λ n. formed b g slots us n ∷ []) e
formed-push b (f ∷ fs) g slots us next =
    let e : next + length (skolem_symbols b f us) + length (skolem_symbols_list b fs us) ≡ next + length (skolem_symbols b f us ++ skolem_symbols_list b fs us) = omega (arith, length-append (skolem_symbols b f us) (skolem_symbols_list b fs us)) in
    ap (λ gs. formed b f slots us next ∷ gs) (formed-push b fs g slots us (next + length (skolem_symbols b f us)) ∙ ap (λ n. formed_list b fs slots us (next + length (skolem_symbols b f us)) ++ formed b g slots us n ∷ []) e)

-- what a call knows of the parts
pub CanFill-Var : (slots : List Slot) (i : ℕ) → CanFill slots (T.Var i) → i < length slots
CanFill-Var slots i h = omega (arith, h.slotted, h.sorted.0)

pub CanFill-App : (slots : List Slot) (f d : ℕ) (args : List Term) → CanFill slots (T.App f d args) → All (CanFill slots) args
CanFill-App slots f d args h k t lt =
    let all = (sorted-App h.sig h.copies f d args h.sorts h.sort h.sorted).2 in
    record { sig = h.sig; copies = h.copies; sorts = h.sorts; sort = get_or (symbol_at h.sig f).args k 0; sorted = AllZip-at (λ t s. IsTerm h.sig h.copies t h.sorts s) args (symbol_at h.sig f).args k t 0 all lt; slotted = h.slotted }

module _ (slots : List Slot) where
  pub CanForm-Rel : (r d : ℕ) (args : List Term) → CanForm slots (F.Rel r d args) → CanFillEach slots args
  CanForm-Rel r d args h k t lt = record {
    sig = h.sig;
    copies = h.copies;
    sorts = h.sorts;
    sort = get_or (symbol_at h.sig r).args k 0;
    sorted = AllZip-at (λ t s. IsTerm h.sig h.copies t h.sorts s) args (symbol_at h.sig r).args k t 0 h.sorted.1 lt;
    slotted = h.slotted;
  }

  pub CanForm-left : (x y : Term) → CanForm slots (F.Eq x y) → CanFill slots x
  CanForm-left x y h = record { sig = h.sig; copies = h.copies; sorts = h.sorts; sort = h.sorted.0; sorted = h.sorted.1; slotted = h.slotted }

  pub CanForm-right : (x y : Term) → CanForm slots (F.Eq x y) → CanFill slots y
  CanForm-right x y h = record { sig = h.sig; copies = h.copies; sorts = h.sorts; sort = h.sorted.0; sorted = h.sorted.2; slotted = h.slotted }

  pub CanForm-Not : (f : Formula) → CanForm slots (F.Not f) → CanForm slots f
  CanForm-Not f h = record { sig = h.sig; copies = h.copies; sorts = h.sorts; sorted = subst (λ (A : Type 0). A) (sorted-Not h.sig h.copies f h.sorts) h.sorted; slotted = h.slotted }

  pub CanForm-And : (fs : List Formula) → CanForm slots (F.And fs) → All (CanForm slots) fs
  CanForm-And fs h k f lt = record { sig = h.sig; copies = h.copies; sorts = h.sorts; sorted = sorted-And h.sig h.copies fs h.sorts h.sorted k f lt; slotted = h.slotted }

  pub CanForm-Or : (fs : List Formula) → CanForm slots (F.Or fs) → All (CanForm slots) fs
  CanForm-Or fs h k f lt = record { sig = h.sig; copies = h.copies; sorts = h.sorts; sorted = sorted-Or h.sig h.copies fs h.sorts h.sorted k f lt; slotted = h.slotted }

  pub CanForm-All : (s : ℕ) (f : Formula) → CanForm slots (F.All s f) → CanBind slots f
  CanForm-All s f h = record { sig = h.sig; copies = h.copies; sorts = h.sorts; sort = s; sorted = (subst (λ (A : Type 0). A) (sorted-All h.sig h.copies s f h.sorts) h.sorted).1; slotted = h.slotted }

  pub CanForm-Ex : (s : ℕ) (f : Formula) → CanForm slots (F.Ex s f) → CanBind slots f
  CanForm-Ex s f h = record { sig = h.sig; copies = h.copies; sorts = h.sorts; sort = s; sorted = (subst (λ (A : Type 0). A) (sorted-Ex h.sig h.copies s f h.sorts) h.sorted).1; slotted = h.slotted }

  pub CanForm-body : (slot : Slot) (f : Formula) → CanBind slots f → CanForm (slots ++ slot ∷ []) f
  CanForm-body slot f h = record { sig = h.sig; copies = h.copies; sorts = h.sorts ++ h.sort ∷ []; sorted = h.sorted; slotted = omega (arith, h.slotted, length-append h.sorts (h.sort ∷ []), length-append slots (slot ∷ [])) }

-- the claims of a query, where nothing is bound
pub CanForm-claims : (sig : Sig) (q : Query) → IsQuery sig q → All (CanForm []) q.claims
CanForm-claims sig q is k d lt = record { sig = sig; copies = q.copies; sorts = []; sorted = is.claims k d lt; slotted = refl }

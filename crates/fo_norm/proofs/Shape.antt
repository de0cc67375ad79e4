-- The Skolem form is well-sorted and in negation normal form without `Ex`.
use Rattle.std.proofs.Common.{◌≡◌, ℕ, zero, suc, Bool, true, false, not, cond, ◌+◌, ◌<◌, ◌≤◌, List, [], ◌∷◌, ◌++◌, length, get_or, map, take, refl, sym, ap, subst, ◌∙◌, arith, length-append}
use Rattle.std.specs.List.{All, AllZip}
use Rattle.std.proofs.lemmas.List.{get_or_append_left, get_or-append-add, get_or_push, take-append-le, take_more, take_all}
use Rattle.std.proofs.lemmas.List.Elements.{All-nil, All-cons, All-head, All-tail, All-append, All-push}
use denote.Hole.Carrier.{hidden}
use Rattle.fo_core.specs.declared.signature.Sig.{Sig}
use Rattle.fo_core.specs.declared.signature.Symbol.{Symbol}
use Rattle.fo_core.specs.declared.term.Term.{Term, Var, App', Row_of-Term, end_of-Term, more_of-Term, items-the_row-Term, items_hidden-the_row-Term-0}
use Rattle.fo_core.specs.declared.term.Term.TheVariants as T
use Rattle.fo_core.specs.declared.formula.Formula.{Formula, True, False, Rel, Eq, Not', And', Or', All', Ex', Row_of-Formula, end_of-Formula, more_of-Formula, items-the_row-Formula, items_hidden-the_row-Formula-1}
use Rattle.fo_core.specs.declared.formula.Formula.TheBlock.{shape-the_row-Formula-0, hidden-the_row-Formula-0}
use Rattle.fo_core.specs.declared.formula.Formula.TheVariants as F
use Rattle.fo_core.specs.Tables.{no_symbol, symbol_at}
use Rattle.fo_core.specs.Sorted.{IsSymbol, IsTerm, AreTerms, IsFormula, AreFormulas}
use Rattle.fo_core.proofs.Rows.{row_of, args_of, sorted-Not, sorted-All}
use Rattle.fo_core.proofs.Zips.{AllZip-at, AllZip-length}
use Rattle.fo_norm.specs.declared.scope.Slot.{Slot}
use Rattle.fo_norm.specs.declared.scope.Slot.TheVariants.{Level, Skolem}
use Rattle.fo_core.specs.Skolems.{extended, skolem, skolem_symbols, skolem_symbols_row}
use Rattle.fo_norm.specs.Forms.{IsSkolem, IsAtom, IsNormal, AreNormal}
use Rattle.fo_norm.specs.Skolem.{variables, slot_term, filled, filled_row, literal, joined, formed, formed_row}

-- Skolem symbols
is_skolem : (below : ℕ) (rs : List ℕ) (s : ℕ) → All (λ n. n < below) rs → s < below → IsSkolem below (skolem rs s)
is_skolem below rs s all lt = record { relation = refl; mutable = refl; sorts = record { args = all; result = λ e. lt } }

module _ (sig : Sig) (copies : ℕ) where
  mutual
    pub skolems-are : (b : Bool) (f : Formula) (rs ss : List ℕ) → IsFormula sig copies f ss → All (λ n. n < sig.sorts) rs → All (IsSkolem sig.sorts) (skolem_symbols b f rs)
    skolems-are b True rs ss is all = All-nil (IsSkolem sig.sorts)
    skolems-are b False rs ss is all = All-nil (IsSkolem sig.sorts)
    skolems-are b (Rel r d args) rs ss is all = All-nil (IsSkolem sig.sorts)
    skolems-are b (Eq x y) rs ss is all = All-nil (IsSkolem sig.sorts)
    skolems-are b (Not' _ (more_of-Formula f _)) rs ss is all = skolems-are (not b) f rs ss is all
    skolems-are b (And' _ row) rs ss is all = row-skolems b row rs ss is all
    skolems-are b (Or' _ row) rs ss is all = row-skolems b row rs ss is all
    skolems-are true (All' s _ (more_of-Formula f _)) rs ss is all = skolems-are true f (rs ++ s ∷ []) (ss ++ s ∷ []) is.1 (All-push (λ n. n < sig.sorts) rs s all is.0)
    skolems-are false (All' s _ (more_of-Formula f _)) rs ss is all = All-cons (IsSkolem sig.sorts) (skolem rs s) (skolem_symbols false f rs) (is_skolem sig.sorts rs s all is.0) (skolems-are false f rs (ss ++ s ∷ []) is.1 all)
    skolems-are true (Ex' s _ (more_of-Formula f _)) rs ss is all = All-cons (IsSkolem sig.sorts) (skolem rs s) (skolem_symbols true f rs) (is_skolem sig.sorts rs s all is.0) (skolems-are true f rs (ss ++ s ∷ []) is.1 all)
    skolems-are false (Ex' s _ (more_of-Formula f _)) rs ss is all = skolems-are false f (rs ++ s ∷ []) (ss ++ s ∷ []) is.1 (All-push (λ n. n < sig.sorts) rs s all is.0)

    row-skolems : {n : _} (b : Bool) (row : Row_of-Formula n) (rs ss : List ℕ) → AreFormulas sig copies row ss → All (λ n. n < sig.sorts) rs → All (IsSkolem sig.sorts) (skolem_symbols_row b row rs)
    row-skolems b end_of-Formula rs ss is all = All-nil (IsSkolem sig.sorts)
    row-skolems b (more_of-Formula f rest) rs ss is all = All-append (IsSkolem sig.sorts) (skolem_symbols b f rs) (skolem_symbols_row b rest rs) (skolems-are b f rs ss is.0 all) (row-skolems b rest rs ss is.1 all)

-- negation normal form
normal-Not : (g : Formula) → IsNormal (F.Not g) ≡ IsAtom g
unfolding shape-the_row-Formula-0 hidden-the_row-Formula-0 hidden
normal-Not g = refl

normal-All : (s : ℕ) (g : Formula) → IsNormal (F.All s g) ≡ IsNormal g
unfolding shape-the_row-Formula-0 hidden-the_row-Formula-0 hidden
normal-All s g = refl

normal_to : (n : _) (row : Row_of-Formula n) → All IsNormal (items-the_row-Formula n row) → AreNormal row
normal_to n end_of-Formula h = tt
normal_to n (more_of-Formula f rest) h = (All-head IsNormal f _ h, normal_to _ rest (All-tail IsNormal f _ h))

normal_from : (n : _) (row : Row_of-Formula n) → AreNormal row → All IsNormal (items-the_row-Formula n row)
normal_from n end_of-Formula h = All-nil IsNormal
normal_from n (more_of-Formula f rest) h = All-cons IsNormal f _ h.0 (normal_from _ rest h.1)

normal-joined : (b : Bool) (gs : List Formula) → All IsNormal gs → IsNormal (joined b gs)
normal-joined true gs h = let row = row_of (F.And gs) in normal_to row.0 row.1 (subst (All IsNormal) (sym (items_hidden-the_row-Formula-1 gs)) h)
normal-joined false gs h = let row = row_of (F.Or gs) in normal_to row.0 row.1 (subst (All IsNormal) (sym (items_hidden-the_row-Formula-1 gs)) h)

pub normal-And : (gs : List Formula) → IsNormal (F.And gs) → All IsNormal gs
normal-And gs h = let row = row_of (F.And gs) in subst (All IsNormal) (items_hidden-the_row-Formula-1 gs) (normal_from row.0 row.1 h)

normal-literal : (b : Bool) (g : Formula) → IsAtom g → IsNormal g → IsNormal (literal b g)
normal-literal true g a h = h
normal-literal false g a h = subst (λ (A : Type 0). A) (sym (normal-Not g)) a

mutual
  pub formed-normal : (b : Bool) (f : Formula) (slots : List Slot) (rs : List ℕ) (next : ℕ) → IsNormal (formed b f slots rs next)
  formed-normal true True slots rs next = tt
  formed-normal false True slots rs next = tt
  formed-normal true False slots rs next = tt
  formed-normal false False slots rs next = tt
  formed-normal b (Rel r d args) slots rs next = normal-literal b (Rel r d (map (filled slots) args)) tt tt
  formed-normal b (Eq x y) slots rs next = normal-literal b (Eq (filled slots x) (filled slots y)) tt tt
  formed-normal b (Not' _ (more_of-Formula f _)) slots rs next = formed-normal (not b) f slots rs next
  formed-normal b (And' _ row) slots rs next = normal-joined b (formed_row b row slots rs next) (row-normal b row slots rs next)
  formed-normal b (Or' _ row) slots rs next = normal-joined (not b) (formed_row b row slots rs next) (row-normal b row slots rs next)
  formed-normal true (All' s _ (more_of-Formula f _)) slots rs next =
      subst (λ (A : Type 0). A) (sym (normal-All s (formed true f (slots ++ Level (length rs) ∷ []) (rs ++ s ∷ []) next))) (formed-normal true f (slots ++ Level (length rs) ∷ []) (rs ++ s ∷ []) next)
  formed-normal false (All' s _ (more_of-Formula f _)) slots rs next = formed-normal false f (slots ++ Skolem next (length rs) ∷ []) rs (next + 1)
  formed-normal true (Ex' s _ (more_of-Formula f _)) slots rs next = formed-normal true f (slots ++ Skolem next (length rs) ∷ []) rs (next + 1)
  formed-normal false (Ex' s _ (more_of-Formula f _)) slots rs next =
      subst (λ (A : Type 0). A) (sym (normal-All s (formed false f (slots ++ Level (length rs) ∷ []) (rs ++ s ∷ []) next))) (formed-normal false f (slots ++ Level (length rs) ∷ []) (rs ++ s ∷ []) next)

  row-normal : {n : _} (b : Bool) (row : Row_of-Formula n) (slots : List Slot) (rs : List ℕ) (next : ℕ) → All IsNormal (formed_row b row slots rs next)
  row-normal b end_of-Formula slots rs next = All-nil IsNormal
  row-normal b (more_of-Formula f rest) slots rs next = All-cons IsNormal (formed b f slots rs next) (formed_row b rest slots rs (next + length (skolem_symbols b f rs))) (formed-normal b f slots rs next) (row-normal b rest slots rs (next + length (skolem_symbols b f rs)))

-- two lists pair by pair
module _ {A B : Type 0} where
  zip-push : (R : A → B → Type 0) (xs : List A) (ys : List B) (x : A) (y : B) → AllZip R xs ys → R x y → AllZip R (xs ++ x ∷ []) (ys ++ y ∷ [])
  zip-push R [] [] x y h r = (r, tt)
  zip-push R [] (b ∷ ys) x y h r = absurd h
  zip-push R (a ∷ xs) [] x y h r = absurd h
  zip-push R (a ∷ xs) (b ∷ ys) x y h r = (h.0, zip-push R xs ys x y h.1 r)

  zip-weaker : (R Q : A → B → Type 0) → ((x : A) (y : B) → R x y → Q x y) → (xs : List A) (ys : List B) → AllZip R xs ys → AllZip Q xs ys
  zip-weaker R Q w [] [] h = tt
  zip-weaker R Q w [] (b ∷ ys) h = absurd h
  zip-weaker R Q w (a ∷ xs) [] h = absurd h
  zip-weaker R Q w (a ∷ xs) (b ∷ ys) h = (w a b h.0, zip-weaker R Q w xs ys h.1)

-- building well-sorted terms and formulas
module _ (sig : Sig) (copies : ℕ) where
  terms_to : (n : _) (row : Row_of-Term n) (ss rs : List ℕ) → AllZip (λ t s. IsTerm sig copies t ss s) (items-the_row-Term n row) rs → AreTerms sig copies row ss rs
  terms_to n end_of-Term ss [] h = tt
  terms_to n end_of-Term ss (r ∷ rs) h = absurd h
  terms_to n (more_of-Term t rest) ss [] h = absurd h
  terms_to n (more_of-Term t rest) ss (r ∷ rs) h = (h.0, terms_to _ rest ss rs h.1)

  App-sorted : (f d : ℕ) (args : List Term) (ss : List ℕ) (s : ℕ) → IsSymbol sig copies false f d → (symbol_at sig f).result ≡ s → AllZip (λ t s. IsTerm sig copies t ss s) args (symbol_at sig f).args → IsTerm sig copies (T.App f d args) ss s
  App-sorted f d args ss s is e all =
      let row = args_of (T.App f d args) in
      (is, e, terms_to row.0 row.1 ss (symbol_at sig f).args (subst (λ ts. AllZip (λ t s. IsTerm sig copies t ss s) ts (symbol_at sig f).args) (sym (items_hidden-the_row-Term-0 args)) all))

  formulas_to : (n : _) (row : Row_of-Formula n) (ss : List ℕ) → All (λ f. IsFormula sig copies f ss) (items-the_row-Formula n row) → AreFormulas sig copies row ss
  formulas_to n end_of-Formula ss h = tt
  formulas_to n (more_of-Formula f rest) ss h = (All-head (λ f. IsFormula sig copies f ss) f _ h, formulas_to _ rest ss (All-tail (λ f. IsFormula sig copies f ss) f _ h))

  pub joined-sorted : (b : Bool) (gs : List Formula) (ss : List ℕ) → All (λ f. IsFormula sig copies f ss) gs → IsFormula sig copies (joined b gs) ss
  joined-sorted true gs ss h = let row = row_of (F.And gs) in formulas_to row.0 row.1 ss (subst (All (λ f. IsFormula sig copies f ss)) (sym (items_hidden-the_row-Formula-1 gs)) h)
  joined-sorted false gs ss h = let row = row_of (F.Or gs) in formulas_to row.0 row.1 ss (subst (All (λ f. IsFormula sig copies f ss)) (sym (items_hidden-the_row-Formula-1 gs)) h)

  literal-sorted : (b : Bool) (g : Formula) (ss : List ℕ) → IsFormula sig copies g ss → IsFormula sig copies (literal b g) ss
  literal-sorted true g ss h = h
  literal-sorted false g ss h = subst (λ (A : Type 0). A) (sym (sorted-Not sig copies g ss)) h

  -- the slot stands for a variable of sort s under universals of the sorts rs
  abbrev pub SlotIs : List ℕ → Slot → ℕ → Type 0
  SlotIs rs (Level i) s = (i < length rs) × (get_or rs i 0 ≡ s)
  SlotIs rs (Skolem k j) s = (j ≤ length rs) × (k < length sig.symbols) × (symbol_at sig k ≡ skolem (take j rs) s)

  slot-later : (rs : List ℕ) (r : ℕ) (x : Slot) (s : ℕ) → SlotIs rs x s → SlotIs (rs ++ r ∷ []) x s
  slot-later rs r (Level i) s h = (omega (arith, h.0, length-append rs (r ∷ [])), get_or_append_left rs (r ∷ []) 0 i h.0 ∙ h.1)
  slot-later rs r (Skolem k j) s h = (omega (arith, h.0, length-append rs (r ∷ [])), h.1, h.2 ∙ ap (λ us. skolem us s) (sym (take-append-le j rs (r ∷ []) h.0)))

  -- the symbols stand in the signature from next on
  abbrev pub Located : ℕ → List Symbol → Type 0
  Located next new = (i : ℕ) → i < length new → (next + i < length sig.symbols) × (symbol_at sig (next + i) ≡ get_or new i no_symbol)

  located-left : (next : ℕ) (ps qs : List Symbol) → Located next (ps ++ qs) → Located next ps
  located-left next ps qs h i lt =
      let r = h i (omega (arith, length-append ps qs)) in (r.0, r.1 ∙ get_or_append_left ps qs no_symbol i lt)

  located-right : (next : ℕ) (ps qs : List Symbol) → Located next (ps ++ qs) → Located (next + length ps) qs
  located-right next ps qs h i lt =
      let r = h (length ps + i) (omega (arith, length-append ps qs)) in
      let e : next + (length ps + i) ≡ next + length ps + i = omega arith in
      (omega (arith, r.0), ap (symbol_at sig) (sym e) ∙ r.1 ∙ get_or-append-add ps qs i no_symbol)

  located-head : (next : ℕ) (p : Symbol) (ps : List Symbol) → Located next (p ∷ ps) → (next < length sig.symbols) × (symbol_at sig next ≡ p)
  located-head next p ps h =
      let r = h 0 (omega arith) in
      let e : next + 0 ≡ next = omega arith in
      (omega (arith, r.0), ap (symbol_at sig) (sym e) ∙ r.1)

  located-tail : (next : ℕ) (p : Symbol) (ps : List Symbol) → Located next (p ∷ ps) → Located (next + 1) ps
  located-tail next p ps h i lt =
      let r = h (suc i) (omega arith) in
      let e : next + suc i ≡ next + 1 + i = omega arith in
      (omega (arith, r.0), ap (symbol_at sig) (sym e) ∙ r.1)

  variables-sorted : (rs : List ℕ) (j : ℕ) → j ≤ length rs → AllZip (λ t s. IsTerm sig copies t rs s) (variables j) (take j rs)
  variables-sorted rs zero le = tt
  variables-sorted rs (suc j) le =
      let e : take (suc j) rs ≡ take j rs ++ get_or rs j 0 ∷ [] = (let n : suc j ≡ j + 1 = omega arith in ap (λ n. take n rs) n) ∙ take_more rs j 0 (omega arith) in
      subst (AllZip (λ t s. IsTerm sig copies t rs s) (variables j ++ Var j ∷ [])) (sym e) (zip-push (λ t s. IsTerm sig copies t rs s) (variables j) (take j rs) (Var j) (get_or rs j 0) (variables-sorted rs j (omega arith)) (omega arith, refl))

  slot_term-sorted : (rs : List ℕ) (x : Slot) (s : ℕ) → SlotIs rs x s → IsTerm sig copies (slot_term x) rs s
  slot_term-sorted rs (Level i) s h = h
  slot_term-sorted rs (Skolem k j) s h =
      let is : IsSymbol sig copies false k 0 = record {
        within = h.1;
        kind = ap (λ (x : Symbol). x.relation) h.2;
        copy = subst (λ (x : Symbol). 0 < cond x.mutable copies 1) (sym h.2) (omega arith);
      } in
      App-sorted k 0 (variables j) rs s is (ap (λ (x : Symbol). x.result) h.2)
      (subst (λ (x : Symbol). AllZip (λ t s. IsTerm sig copies t rs s) (variables j) x.args) (sym h.2) (variables-sorted rs j h.0))

module _ (sig : Sig) (S : List Symbol) (copies : ℕ) where
  abbrev E : Sig
  E = extended sig S

  symbol-kept : (r : Bool) (k d : ℕ) → IsSymbol sig copies r k d → IsSymbol E copies r k d
  symbol-kept r k d h =
      let same = get_or_append_left sig.symbols S no_symbol k h.within in
      record {
        within = omega (arith, h.within, length-append sig.symbols S);
        kind = ap (λ (x : Symbol). x.relation) same ∙ h.kind;
        copy = subst (λ (x : Symbol). d < cond x.mutable copies 1) (sym same) h.copy;
      }

  module _ (slots : List Slot) (rs ss : List ℕ) (are : AllZip (SlotIs E copies rs) slots ss) where
    mutual
      filled-sorted : (t : Term) (s : ℕ) → IsTerm sig copies t ss s → IsTerm E copies (filled slots t) rs s
      filled-sorted (Var i) s h =
          let lt : i < length slots = omega (arith, h.0, AllZip-length (SlotIs E copies rs) slots ss are) in
          subst (IsTerm E copies (slot_term (get_or slots i (Level 0))) rs) h.1 (slot_term-sorted E copies rs (get_or slots i (Level 0)) (get_or ss i 0) (AllZip-at (SlotIs E copies rs) slots ss i (Level 0) 0 are lt))
      filled-sorted (App' f d _ args) s h =
          let same = get_or_append_left sig.symbols S no_symbol f h.0.within in
          App-sorted E copies f d (filled_row slots args) rs s (symbol-kept false f d h.0) (ap (λ (x : Symbol). x.result) same ∙ h.1)
          (subst (λ (x : Symbol). AllZip (λ t s. IsTerm E copies t rs s) (filled_row slots args) x.args) (sym same) (row-sorted args (symbol_at sig f).args h.2))

      row-sorted : {n : _} (row : Row_of-Term n) (qs : List ℕ) → AreTerms sig copies row ss qs → AllZip (λ t s. IsTerm E copies t rs s) (filled_row slots row) qs
      row-sorted end_of-Term [] h = tt
      row-sorted end_of-Term (q ∷ qs) h = absurd h
      row-sorted (more_of-Term t rest) [] h = absurd h
      row-sorted (more_of-Term t rest) (q ∷ qs) h = (filled-sorted t q h.0, row-sorted rest qs h.1)

    list-sorted : (ts : List Term) (qs : List ℕ) → AllZip (λ t s. IsTerm sig copies t ss s) ts qs → AllZip (λ t s. IsTerm E copies t rs s) (map (filled slots) ts) qs
    list-sorted [] [] h = tt
    list-sorted [] (q ∷ qs) h = absurd h
    list-sorted (t ∷ ts) [] h = absurd h
    list-sorted (t ∷ ts) (q ∷ qs) h = (filled-sorted t q h.0, list-sorted ts qs h.1)

  with_Level : (slots : List Slot) (rs ss : List ℕ) (s : ℕ) → AllZip (SlotIs E copies rs) slots ss → AllZip (SlotIs E copies (rs ++ s ∷ [])) (slots ++ Level (length rs) ∷ []) (ss ++ s ∷ [])
  with_Level slots rs ss s are =
      zip-push (SlotIs E copies (rs ++ s ∷ [])) slots ss (Level (length rs)) s (zip-weaker (SlotIs E copies rs) (SlotIs E copies (rs ++ s ∷ [])) (slot-later E copies rs s) slots ss are)
      (omega (arith, length-append rs (s ∷ [])), get_or_push rs s 0 (length rs) refl)

  with_Skolem : (slots : List Slot) (rs ss : List ℕ) (s next : ℕ) → AllZip (SlotIs E copies rs) slots ss → (next < length (sig.symbols ++ S)) × (symbol_at E next ≡ skolem rs s) → AllZip (SlotIs E copies rs) (slots ++ Skolem next (length rs) ∷ []) (ss ++ s ∷ [])
  with_Skolem slots rs ss s next are h =
      zip-push (SlotIs E copies rs) slots ss (Skolem next (length rs)) s are (omega arith, h.0, h.1 ∙ ap (λ us. skolem us s) (sym (take_all (length rs) rs (omega arith))))

  mutual
    pub formed-sorted : (b : Bool) (f : Formula) (slots : List Slot) (rs ss : List ℕ) (next : ℕ) → IsFormula sig copies f ss → AllZip (SlotIs E copies rs) slots ss → Located E copies next (skolem_symbols b f rs) → IsFormula E copies (formed b f slots rs next) rs
    formed-sorted true True slots rs ss next is are at = tt
    formed-sorted false True slots rs ss next is are at = tt
    formed-sorted true False slots rs ss next is are at = tt
    formed-sorted false False slots rs ss next is are at = tt
    formed-sorted b (Rel r d args) slots rs ss next is are at =
        let same = get_or_append_left sig.symbols S no_symbol r is.0.within in
        literal-sorted E copies b (Rel r d (map (filled slots) args)) rs
        (symbol-kept true r d is.0, subst (λ (x : Symbol). AllZip (λ t s. IsTerm E copies t rs s) (map (filled slots) args) x.args) (sym same) (list-sorted slots rs ss are args (symbol_at sig r).args is.1))
    formed-sorted b (Eq x y) slots rs ss next is are at =
        literal-sorted E copies b (Eq (filled slots x) (filled slots y)) rs (is.0, filled-sorted slots rs ss are x is.0 is.1, filled-sorted slots rs ss are y is.0 is.2)
    formed-sorted b (Not' _ (more_of-Formula f _)) slots rs ss next is are at = formed-sorted (not b) f slots rs ss next is are at
    formed-sorted b (And' _ row) slots rs ss next is are at = joined-sorted E copies b (formed_row b row slots rs next) rs (rows-sorted b row slots rs ss next is are at)
    formed-sorted b (Or' _ row) slots rs ss next is are at = joined-sorted E copies (not b) (formed_row b row slots rs next) rs (rows-sorted b row slots rs ss next is are at)
    formed-sorted true (All' s _ (more_of-Formula f _)) slots rs ss next is are at =
        subst (λ (A : Type 0). A) (sym (sorted-All E copies s (formed true f (slots ++ Level (length rs) ∷ []) (rs ++ s ∷ []) next) rs))
        (is.0, formed-sorted true f (slots ++ Level (length rs) ∷ []) (rs ++ s ∷ []) (ss ++ s ∷ []) next is.1 (with_Level slots rs ss s are) at)
    formed-sorted false (All' s _ (more_of-Formula f _)) slots rs ss next is are at =
        formed-sorted false f (slots ++ Skolem next (length rs) ∷ []) rs (ss ++ s ∷ []) (next + 1) is.1 (with_Skolem slots rs ss s next are (located-head E copies next (skolem rs s) (skolem_symbols false f rs) at)) (located-tail E copies next (skolem rs s) (skolem_symbols false f rs) at)
    formed-sorted true (Ex' s _ (more_of-Formula f _)) slots rs ss next is are at =
        formed-sorted true f (slots ++ Skolem next (length rs) ∷ []) rs (ss ++ s ∷ []) (next + 1) is.1 (with_Skolem slots rs ss s next are (located-head E copies next (skolem rs s) (skolem_symbols true f rs) at)) (located-tail E copies next (skolem rs s) (skolem_symbols true f rs) at)
    formed-sorted false (Ex' s _ (more_of-Formula f _)) slots rs ss next is are at =
        subst (λ (A : Type 0). A) (sym (sorted-All E copies s (formed false f (slots ++ Level (length rs) ∷ []) (rs ++ s ∷ []) next) rs))
        (is.0, formed-sorted false f (slots ++ Level (length rs) ∷ []) (rs ++ s ∷ []) (ss ++ s ∷ []) next is.1 (with_Level slots rs ss s are) at)

    rows-sorted : {n : _} (b : Bool) (row : Row_of-Formula n) (slots : List Slot) (rs ss : List ℕ) (next : ℕ) → AreFormulas sig copies row ss → AllZip (SlotIs E copies rs) slots ss → Located E copies next (skolem_symbols_row b row rs) → All (λ g. IsFormula E copies g rs) (formed_row b row slots rs next)
    rows-sorted b end_of-Formula slots rs ss next is are at = All-nil (λ g. IsFormula E copies g rs)
    rows-sorted b (more_of-Formula f rest) slots rs ss next is are at =
        let later = next + length (skolem_symbols b f rs) in
        All-cons (λ g. IsFormula E copies g rs) (formed b f slots rs next) (formed_row b rest slots rs later)
        (formed-sorted b f slots rs ss next is.0 are (located-left E copies next (skolem_symbols b f rs) (skolem_symbols_row b rest rs) at))
        (rows-sorted b rest slots rs ss later is.1 are (located-right E copies next (skolem_symbols b f rs) (skolem_symbols_row b rest rs) at))

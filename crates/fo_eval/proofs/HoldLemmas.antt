-- What a call on a formula knows of its parts.
use Rattle.std.proofs.Common.{◌≡◌, ℕ, true, false, not, Bool, ◌↔◌, ◌+◌, ◌-◌, ◌<◌, ◌≤◌, ◌^◌, List, [], ◌∷◌, ◌++◌, length, get_or, map, sym, ap, subst, ◌∙◌, arith, length-append}
use Rattle.std.specs.List.{AllZip}
use Rattle.std.specs.Prelude.{slice_index, IsTrue}
use Rattle.std.proofs.lemmas.Bool.Decides.{Decides-not}
use Rattle.std.proofs.lemmas.List.Elements.{AllZip-push}
use Rattle.fo_core.specs.declared.signature.Sig.{Sig}
use Rattle.fo_core.specs.declared.term.Term.{Term}
use Rattle.fo_core.specs.declared.formula.Formula.{Formula}
use Rattle.fo_core.specs.declared.formula.Formula.TheVariants as F
use Rattle.fo_core.specs.declared.world.World.{World}
use Rattle.fo_core.specs.declared.world.Table.{Table}
use Rattle.fo_core.specs.Tables.{IsReadable, symbol_at, place, arg_sizes, table_of}
use Rattle.fo_core.specs.Truth.{value, Truth}
use Rattle.fo_core.specs.Sorted.{IsFormula, binders}
use Rattle.fo_core.proofs.Rows.{sorted-Not, sorted-And, sorted-Or, sorted-All, sorted-Ex, binders-Not, binders-And, binders-Or, binders-All, binders-Ex, truth-Not, truth-And, truth-Or, truth-All, truth-Ex}
use Rattle.fo_core.proofs.Answered.{never, always}
use Rattle.fo_core.proofs.MoreCopies.{formula-more}
use Rattle.fo_core.proofs.TableLemmas.{table_is}
use Rattle.fo_core.proofs.ValueLemmas.{list-lt, entry-lt, copy_within}
use Rattle.fo_eval.specs.Values.{Values}
use Rattle.fo_eval.specs.Asked.{CanHold, CanTell, AllName, AreRelated}

abbrev pub pushed : Values → ℕ → Values
pushed env x = record { bound = env.bound ++ x ∷ []; room = env.room }

module _ (sig : Sig) (w : World) (c : ℕ) (env : Values) where
  pub CanHold-Not : (f : Formula) → CanHold sig w c env (F.Not f) → CanHold sig w c env f
  CanHold-Not f h = record {
    sorts = h.sorts;
    elements = h.elements;
    sorted = subst (λ (A : Type 0). A) (sorted-Not sig (length w.copies - c) f h.sorts) h.sorted;
    room = omega (arith, h.room, binders-Not f);
  }

  pub CanHold-And : (fs : List Formula) (k : ℕ) (d : Formula) → CanHold sig w c env (F.And fs) → k < length fs → CanHold sig w c env (get_or fs k d)
  CanHold-And fs k d h lt = record {
    sorts = h.sorts;
    elements = h.elements;
    sorted = sorted-And sig (length w.copies - c) fs h.sorts h.sorted k d lt;
    room = omega (arith, h.room, binders-And fs k d lt);
  }

  pub CanHold-Or : (fs : List Formula) (k : ℕ) (d : Formula) → CanHold sig w c env (F.Or fs) → k < length fs → CanHold sig w c env (get_or fs k d)
  CanHold-Or fs k d h lt = record {
    sorts = h.sorts;
    elements = h.elements;
    sorted = sorted-Or sig (length w.copies - c) fs h.sorts h.sorted k d lt;
    room = omega (arith, h.room, binders-Or fs k d lt);
  }

  bound : (s x : ℕ) (f : Formula) (ss : List ℕ) → AllZip (λ x s. x < slice_index w.sizes s) env.bound ss → (s < sig.sorts) × IsFormula sig (length w.copies - c) f (ss ++ s ∷ []) → length env.bound + (binders f + 1) ≤ env.room → x < slice_index w.sizes s → CanHold sig w c (pushed env x) f
  bound s x f ss elements sorted room lt = record {
    sorts = ss ++ s ∷ [];
    elements = AllZip-push (λ x s. x < slice_index w.sizes s) env.bound ss x s elements lt;
    sorted = sorted.1;
    room = omega (arith, room, length-append env.bound (x ∷ []));
  }

  pub CanHold-All : (s x : ℕ) (f : Formula) → CanHold sig w c env (F.All s f) → x < slice_index w.sizes s → CanHold sig w c (pushed env x) f
  CanHold-All s x f h lt = bound s x f h.sorts h.elements (subst (λ (A : Type 0). A) (sorted-All sig (length w.copies - c) s f h.sorts) h.sorted) (omega (arith, h.room, binders-All s f)) lt

  pub CanHold-Ex : (s x : ℕ) (f : Formula) → CanHold sig w c env (F.Ex s f) → x < slice_index w.sizes s → CanHold sig w c (pushed env x) f
  CanHold-Ex s x f h lt = bound s x f h.sorts h.elements (subst (λ (A : Type 0). A) (sorted-Ex sig (length w.copies - c) s f h.sorts) h.sorted) (omega (arith, h.room, binders-Ex s f)) lt

  pub sort-All : (s : ℕ) (f : Formula) → IsReadable sig w → CanHold sig w c env (F.All s f) → s < length w.sizes
  sort-All s f r h = let below = (subst (λ (A : Type 0). A) (sorted-All sig (length w.copies - c) s f h.sorts) h.sorted).0 in omega (arith, r.fits.sorts)

  pub sort-Ex : (s : ℕ) (f : Formula) → IsReadable sig w → CanHold sig w c env (F.Ex s f) → s < length w.sizes
  sort-Ex s f r h = let below = (subst (λ (A : Type 0). A) (sorted-Ex sig (length w.copies - c) s f h.sorts) h.sorted).0 in omega (arith, r.fits.sorts)

  pub room-All : (s : ℕ) (f : Formula) → CanHold sig w c env (F.All s f) → length env.bound < env.room
  room-All s f h = omega (arith, h.room, binders-All s f)

  pub room-Ex : (s : ℕ) (f : Formula) → CanHold sig w c env (F.Ex s f) → length env.bound < env.room
  room-Ex s f h = omega (arith, h.room, binders-Ex s f)

module _ (sig : Sig) (w : World) (c : ℕ) (vs : List ℕ) (r : IsReadable sig w) (k d : ℕ) (args : List Term) (n : AreRelated sig w c vs k d args) (table : Table) (is : table ≡ table_of sig w (c + d) k) where
  pub related-args : length table.values < 2 ^ 64 → AllName sig w c vs args (symbol_at sig k).args
  related-args few = record {
    sorts = n.0;
    elements = n.1;
    sorted = n.3;
    room = subst (λ n. n < 2 ^ 64) (ap (λ (t : Table). length t.values) is ∙ (table_is sig w (c + d) k r.fits n.2.within (copy_within sig w c true k d n.2)).total) few;
  }

  pub related-place : place (arg_sizes w.sizes (symbol_at sig k)) (map (λ t. value sig w c t vs) args) < length table.values
  related-place = subst (λ (t : Table). place (arg_sizes w.sizes (symbol_at sig k)) (map (λ t. value sig w c t vs) args) < length t.values) (sym is)
      (entry-lt sig w c true k d _ r.fits n.2 (list-lt sig w c r.fits vs n.0 n.1 args (symbol_at sig k).args n.3)).0

-- what the loops of `holds` have found when they answer
module _ (sig : Sig) (w : World) (c : ℕ) (vs : List ℕ) where
  pub Not-either : (f : Formula) (b : Bool) → (IsTrue b ↔ Truth sig w c f vs) → IsTrue (not b) ↔ Truth sig w c (F.Not f) vs
  Not-either f b h = subst (λ (A : Type 0). IsTrue (not b) ↔ A) (sym (truth-Not sig w c f vs)) (Decides-not b h)

  pub And-false : (fs : List Formula) (k : ℕ) (g : Formula) → k < length fs → g ≡ get_or fs k g → ¬ Truth sig w c g vs → IsTrue false ↔ Truth sig w c (F.And fs) vs
  And-false fs k g lt is fails = never (Truth sig w c (F.And fs) vs) (λ h. fails (subst (λ g. Truth sig w c g vs) (sym is) ((truth-And sig w c fs vs).0 h k g lt)))

  pub And-true : (fs : List Formula) (n : ℕ) → length fs ≤ n → ((k : ℕ) (d : Formula) → k < n → Truth sig w c (get_or fs k d) vs) → IsTrue true ↔ Truth sig w c (F.And fs) vs
  And-true fs n le each = always (Truth sig w c (F.And fs) vs) ((truth-And sig w c fs vs).1 (λ k d lt. each k d (omega arith)))

  pub Or-true : (fs : List Formula) (k : ℕ) (g : Formula) → k < length fs → g ≡ get_or fs k g → Truth sig w c g vs → IsTrue true ↔ Truth sig w c (F.Or fs) vs
  Or-true fs k g lt is met = always (Truth sig w c (F.Or fs) vs) ((truth-Or sig w c fs vs).1 (k, g, lt, sym is, met))

  pub Or-false : (fs : List Formula) (n : ℕ) → length fs ≤ n → ((k : ℕ) (d : Formula) → k < n → ¬ Truth sig w c (get_or fs k d) vs) → IsTrue false ↔ Truth sig w c (F.Or fs) vs
  Or-false fs n le none = never (Truth sig w c (F.Or fs) vs) (λ h.
      let a = (truth-Or sig w c fs vs).0 h in
      none a.0 a.1 (omega (arith, a.2)) (subst (λ g. Truth sig w c g vs) (sym a.3) a.4))

  pub All-false : (s : ℕ) (f : Formula) (x : ℕ) → x < slice_index w.sizes s → ¬ Truth sig w c f (vs ++ x ∷ []) → IsTrue false ↔ Truth sig w c (F.All s f) vs
  All-false s f x lt fails = never (Truth sig w c (F.All s f) vs) (λ h. fails (subst (λ (A : Type 0). A) (truth-All sig w c s f vs) h x lt))

  pub All-true : (s : ℕ) (f : Formula) (n : ℕ) → slice_index w.sizes s ≤ n → ((x : ℕ) → x < n → Truth sig w c f (vs ++ x ∷ [])) → IsTrue true ↔ Truth sig w c (F.All s f) vs
  All-true s f n le each = always (Truth sig w c (F.All s f) vs) (subst (λ (A : Type 0). A) (sym (truth-All sig w c s f vs)) (λ x lt. each x (omega arith)))

  pub Ex-true : (s : ℕ) (f : Formula) (x : ℕ) → x < slice_index w.sizes s → Truth sig w c f (vs ++ x ∷ []) → IsTrue true ↔ Truth sig w c (F.Ex s f) vs
  Ex-true s f x lt met = always (Truth sig w c (F.Ex s f) vs) (subst (λ (A : Type 0). A) (sym (truth-Ex sig w c s f vs)) (x, lt, met))

  pub Ex-false : (s : ℕ) (f : Formula) (n : ℕ) → slice_index w.sizes s ≤ n → ((x : ℕ) → x < n → ¬ Truth sig w c f (vs ++ x ∷ [])) → IsTrue false ↔ Truth sig w c (F.Ex s f) vs
  Ex-false s f n le none = never (Truth sig w c (F.Ex s f) vs) (λ h. let a = subst (λ (A : Type 0). A) (truth-Ex sig w c s f vs) h in none a.0 (omega (arith, a.1)) a.2)

-- a closed formula over copy 0 may be asked about in a copy that is there
pub CanTell-at : (sig : Sig) (w : World) (c : ℕ) (env : Values) (fs : List Formula) (k : ℕ) (d : Formula) → CanTell sig w c env fs → k < length fs → CanHold sig w c env (get_or fs k d)
CanTell-at sig w c env fs k d h lt = record {
  sorts = [];
  elements = subst (λ vs. AllZip (λ x s. x < slice_index w.sizes s) vs []) (sym h.empty) tt;
  sorted = formula-more sig 1 (length w.copies - c) (omega (arith, h.within)) (get_or fs k d) [] (h.closed k d lt);
  room = rw h.empty (omega (arith, h.room k d lt));
}

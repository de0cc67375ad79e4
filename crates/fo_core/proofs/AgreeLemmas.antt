-- A formula is true in both of two worlds that agree on its copies, or in neither.
use Rattle.std.proofs.Common.{◌≡◌, ℕ, zero, suc, Bool, true, false, cond, ◌↔◌, ◌+◌, ◌-◌, ◌<◌, ◌⊎◌, inl, inr, List, [], ◌∷◌, ◌++◌, length, get_or, map, refl, sym, ap, subst, ◌∙◌, arith, add-zero}
use Rattle.std.specs.List.{AllZip}
use Rattle.std.specs.Prelude.{slice_index}
use Rattle.fo_core.specs.declared.signature.Sig.{Sig}
use Rattle.fo_core.specs.declared.system.System.{System}
use Rattle.fo_core.specs.declared.term.Term.{Term, Var, App', Row_of-Term, end_of-Term, more_of-Term}
use Rattle.fo_core.specs.declared.formula.Formula.{Formula, True, False, Rel, Eq, Not', And', Or', All', Ex', Row_of-Formula, end_of-Formula, more_of-Formula}
use Rattle.fo_core.specs.declared.world.World.{World}
use Rattle.fo_core.specs.declared.world.Table.{Table}
use Rattle.fo_core.specs.Tables.{no_table, symbol_at, rank, table_of, place, arg_sizes, entry}
use Rattle.fo_core.specs.Truth.{value, values, Truth, EachTrue, SomeTrue}
use Rattle.fo_core.specs.Sorted.{IsSymbol, IsTerm, AreTerms, IsFormula, AreFormulas, IsSystem}
use Rattle.fo_core.specs.Runs.{IsSafe, Reach, Violates, alone}
use Rattle.fo_core.specs.Agreeing.{Agree}

module _ (sig : Sig) (n : ℕ) (v : World) (c : ℕ) (w : World) (d : ℕ) (same : Agree n v c w d) where
  tables-agree : (r : Bool) (k e : ℕ) → IsSymbol sig n r k e → table_of sig v (c + e) k ≡ table_of sig w (d + e) k
  tables-agree r k e h = by_kind (symbol_at sig k).mutable h.copy
    where
      by_kind : (b : Bool) → e < cond b n 1 →
          cond b (get_or (get_or v.copies (c + e) []) (rank sig k) no_table) (get_or v.fixed (rank sig k) no_table)
          ≡ cond b (get_or (get_or w.copies (d + e) []) (rank sig k) no_table) (get_or w.fixed (rank sig k) no_table)
      by_kind true lt = ap (λ (ts : List Table). get_or ts (rank sig k) no_table) (same.copies e lt)
      by_kind false lt = ap (λ (ts : List Table). get_or ts (rank sig k) no_table) same.fixed

  entries-agree : (r : Bool) (k e : ℕ) (xs : List ℕ) → IsSymbol sig n r k e → entry sig v (c + e) k xs ≡ entry sig w (d + e) k xs
  entries-agree r k e xs h =
      ap (λ (t : Table). slice_index t.values (place (arg_sizes v.sizes (symbol_at sig k)) xs)) (tables-agree r k e h)
      ∙ ap (λ (ns : List ℕ). slice_index (table_of sig w (d + e) k).values (place (arg_sizes ns (symbol_at sig k)) xs)) same.sizes

  mutual
    pub value-agrees : (t : Term) (ss vs : List ℕ) (s : ℕ) → IsTerm sig n t ss s → value sig v c t vs ≡ value sig w d t vs
    value-agrees (Var i) ss vs s h = refl
    value-agrees (App' f e _ args) ss vs s h =
        entries-agree false f e (values sig v c args vs) h.0 ∙ ap (entry sig w (d + e) f) (values-agree args ss vs (symbol_at sig f).args h.2)

    values-agree : {m : _} (row : Row_of-Term m) (ss vs rs : List ℕ) → AreTerms sig n row ss rs → values sig v c row vs ≡ values sig w d row vs
    values-agree end_of-Term ss vs [] h = refl
    values-agree end_of-Term ss vs (s ∷ rs) h = absurd h
    values-agree (more_of-Term t rest) ss vs [] h = absurd h
    values-agree (more_of-Term t rest) ss vs (s ∷ rs) h =
        ap (λ x. x ∷ values sig v c rest vs) (value-agrees t ss vs s h.0) ∙ ap (λ xs. value sig w d t vs ∷ xs) (values-agree rest ss vs rs h.1)

  list-agrees : (ts : List Term) (ss vs rs : List ℕ) → AllZip (λ t s. IsTerm sig n t ss s) ts rs → map (λ t. value sig v c t vs) ts ≡ map (λ t. value sig w d t vs) ts
  list-agrees [] ss vs [] h = refl
  list-agrees [] ss vs (s ∷ rs) h = absurd h
  list-agrees (t ∷ ts) ss vs [] h = absurd h
  list-agrees (t ∷ ts) ss vs (s ∷ rs) h =
      ap (λ x. x ∷ map (λ t. value sig v c t vs) ts) (value-agrees t ss vs s h.0) ∙ ap (λ xs. value sig w d t vs ∷ xs) (list-agrees ts ss vs rs h.1)

  both : {P Q R S : Type 0} → P ↔ Q → R ↔ S → (P × R) ↔ (Q × S)
  both p r = (λ h. (p.0 h.0, r.0 h.1), λ h. (p.1 h.0, r.1 h.1))

  either_way : {P Q R S : Type 0} → (P → Q) → (R → S) → P ⊎ R → Q ⊎ S
  either_way p r (inl h) = inl (p h)
  either_way p r (inr h) = inr (r h)

  size_there : (s x : ℕ) → x < slice_index v.sizes s → x < slice_index w.sizes s
  size_there s x lt = subst (λ (ns : List ℕ). x < slice_index ns s) same.sizes lt

  size_back : (s x : ℕ) → x < slice_index w.sizes s → x < slice_index v.sizes s
  size_back s x lt = subst (λ (ns : List ℕ). x < slice_index ns s) (sym same.sizes) lt

  mutual
    pub truth-agrees : (f : Formula) (ss vs : List ℕ) → IsFormula sig n f ss → Truth sig v c f vs ↔ Truth sig w d f vs
    truth-agrees True ss vs h = (λ t. t, λ t. t)
    truth-agrees False ss vs h = (λ t. t, λ t. t)
    truth-agrees (Rel r e args) ss vs h =
        let is = entries-agree true r e (map (λ t. value sig v c t vs) args) h.0 ∙ ap (entry sig w (d + e) r) (list-agrees args ss vs (symbol_at sig r).args h.1) in
        (λ t. sym is ∙ t, λ t. is ∙ t)
    truth-agrees (Eq a b) ss vs h =
        let left = value-agrees a ss vs h.0 h.1 in
        let right = value-agrees b ss vs h.0 h.2 in
        (λ t. sym left ∙ t ∙ right, λ t. left ∙ t ∙ sym right)
    truth-agrees (Not' _ (more_of-Formula f _)) ss vs h =
        let r = truth-agrees f ss vs h in (λ no_way t. no_way (r.1 t), λ no_way t. no_way (r.0 t))
    truth-agrees (And' _ fs) ss vs h = each-agrees fs ss vs h
    truth-agrees (Or' _ fs) ss vs h = some-agrees fs ss vs h
    truth-agrees (All' s _ (more_of-Formula f _)) ss vs h = (
      λ all x lt. (truth-agrees f (ss ++ s ∷ []) (vs ++ x ∷ []) h.1).0 (all x (size_back s x lt)),
      λ all x lt. (truth-agrees f (ss ++ s ∷ []) (vs ++ x ∷ []) h.1).1 (all x (size_there s x lt)),
    )
    truth-agrees (Ex' s _ (more_of-Formula f _)) ss vs h = (
      λ some. (some.0, size_there s some.0 some.1, (truth-agrees f (ss ++ s ∷ []) (vs ++ some.0 ∷ []) h.1).0 some.2),
      λ some. (some.0, size_back s some.0 some.1, (truth-agrees f (ss ++ s ∷ []) (vs ++ some.0 ∷ []) h.1).1 some.2),
    )

    each-agrees : {m : _} (row : Row_of-Formula m) (ss vs : List ℕ) → AreFormulas sig n row ss → EachTrue sig v c row vs ↔ EachTrue sig w d row vs
    each-agrees end_of-Formula ss vs h = (λ t. t, λ t. t)
    each-agrees (more_of-Formula f rest) ss vs h = both (truth-agrees f ss vs h.0) (each-agrees rest ss vs h.1)

    some-agrees : {m : _} (row : Row_of-Formula m) (ss vs : List ℕ) → AreFormulas sig n row ss → SomeTrue sig v c row vs ↔ SomeTrue sig w d row vs
    some-agrees end_of-Formula ss vs h = (λ t. t, λ t. t)
    some-agrees (more_of-Formula f rest) ss vs h =
        let p = truth-agrees f ss vs h.0 in
        let r = some-agrees rest ss vs h.1 in
        (either_way p.0 r.0, either_way p.1 r.1)

-- values behind those of the bound variables
module _ (sig : Sig) (n : ℕ) (w : World) (c : ℕ) where
  front : (vs more : List ℕ) (i : ℕ) → i < length vs → get_or (vs ++ more) i 0 ≡ get_or vs i 0
  front [] more i lt = absurd (omega arith)
  front (x ∷ vs) more zero lt = refl
  front (x ∷ vs) more (suc i) lt = front vs more i (omega arith)

  mutual
    pub value-front : (t : Term) (ss vs more : List ℕ) (s : ℕ) → IsTerm sig n t ss s → length vs ≡ length ss → value sig w c t (vs ++ more) ≡ value sig w c t vs
    value-front (Var i) ss vs more s h e = front vs more i (omega (arith, h.0))
    value-front (App' f d _ args) ss vs more s h e = ap (entry sig w (c + d) f) (values-front args ss vs more (symbol_at sig f).args h.2 e)

    values-front : {m : _} (row : Row_of-Term m) (ss vs more rs : List ℕ) → AreTerms sig n row ss rs → length vs ≡ length ss → values sig w c row (vs ++ more) ≡ values sig w c row vs
    values-front end_of-Term ss vs more [] h e = refl
    values-front end_of-Term ss vs more (s ∷ rs) h e = absurd h
    values-front (more_of-Term t rest) ss vs more [] h e = absurd h
    values-front (more_of-Term t rest) ss vs more (s ∷ rs) h e =
        ap (λ x. x ∷ values sig w c rest (vs ++ more)) (value-front t ss vs more s h.0 e) ∙ ap (λ xs. value sig w c t vs ∷ xs) (values-front rest ss vs more rs h.1 e)

-- a copy alone is that copy
pub alone-agrees : (w : World) (c : ℕ) → Agree 1 w c (alone w c) 0
alone-agrees w c = record { sizes = refl; fixed = refl; copies = same }
  where
    same : (k : ℕ) → k < 1 → get_or w.copies (c + k) [] ≡ get_or (get_or w.copies c [] ∷ []) (0 + k) []
    same zero lt = rw add-zero refl
    same (suc k) lt = absurd (omega arith)

module _ (sys : System) (is : IsSystem sys) where
  pub violates-alone : (w : World) (c : ℕ) → Violates sys w c ↔ Violates sys (alone w c) 0
  violates-alone w c = (
    λ a. (a.0, a.1, a.2, a.3, λ t. a.4 ((at a.0 a.1 a.2 a.3).1 t)),
    λ a. (a.0, a.1, a.2, a.3, λ t. a.4 ((at a.0 a.1 a.2 a.3).0 t)),
  )
    where
      at : (k : ℕ) (f : Formula) → k < length sys.safeties → get_or sys.safeties k f ≡ f → Truth sys.sig w c f [] ↔ Truth sys.sig (alone w c) 0 f []
      at k f lt e = truth-agrees sys.sig 1 w c (alone w c) 0 (alone-agrees w c) f [] [] (subst (λ f. IsFormula sys.sig 1 f []) e (is.safeties k f lt))

  pub safe-reach : IsSafe sys ↔ ((k : ℕ) (s : World) → Reach sys k s → ¬ Violates sys s 0)
  safe-reach = (there, back)
    where
      there : IsSafe sys → (k : ℕ) (s : World) → Reach sys k s → ¬ Violates sys s 0
      there safe k s r bad =
          safe r.run (record { run = r.is_run; violates = (violates-alone r.run (length r.run.copies - 1)).1 (subst (λ (s : World). Violates sys s 0) r.last bad) })

      back : ((k : ℕ) (s : World) → Reach sys k s → ¬ Violates sys s 0) → IsSafe sys
      back none w bad =
          let some = bad.run.fits.some_copy in
          none (length w.copies - 1) (alone w (length w.copies - 1))
          (record { run = w; is_run = bad.run; short = omega arith; last = refl })
          ((violates-alone w (length w.copies - 1)).0 bad.violates)

-- The sentences of a cube say that it is met, and that it isn't.
use Rattle.std.proofs.Common.{◌≡◌, ℕ, true, false, Bool, cond, ◌↔◌, ◌+◌, ◌⊎◌, inl, inr, List, [], map, refl, sym, ap, subst, ◌∙◌}
use Rattle.std.specs.Prelude.{slice_index}
use Rattle.std.specs.List.{All}
use Rattle.fo_core.specs.declared.signature.Sig.{Sig}
use Rattle.fo_core.specs.declared.term.Term.TheVariants as T
use Rattle.fo_core.specs.declared.formula.Formula.{Formula}
use Rattle.fo_core.specs.declared.formula.Formula.TheVariants as F
use Rattle.fo_core.specs.declared.world.World.{World}
use Rattle.fo_core.specs.declared.world.Table.{Table}
use Rattle.fo_core.specs.Tables.{symbol_at, table_of, entry, place, arg_sizes}
use Rattle.fo_core.specs.Truth.{Truth, value}
use Rattle.fo_core.proofs.Rows.{truth-Not, truth-And, truth-Or, value-App}
use Rattle.fo_core.proofs.Binders.{all_over-from, all_over-to, some_over-from, some_over-to}
use Rattle.fo_core.proofs.Decided.{tell}
use Rattle.fo_core.proofs.Pieces.{map-map}
use Rattle.fo_core.proofs.ListFacts.{cast, back, all_map, all_mapped, any_map, any_mapped, all_as, some_fails}
use Rattle.up_diagram.specs.declared.cube.Flat.{Flat}
use Rattle.up_diagram.specs.declared.cube.Flat.TheVariants.{Differ, Fact, Value}
use Rattle.up_diagram.specs.declared.cube.Cube.{Cube}
use Rattle.up_diagram.specs.Cubes.{chosen, HasSign, IsTrueFlat, Meets}
use Rattle.up_diagram.specs.Claims.{copy_for, signed, flat_formula, claim, clause}

module _ (sig : Sig) (w : World) (c d : ℕ) where
  -- written so, a symbol is read in the copy that is meant
  table-is : (k : ℕ) → table_of sig w (c + copy_for sig d k) k ≡ table_of sig w (c + d) k
  table-is k = by_kind (symbol_at sig k).mutable refl
    where
      by_kind : (b : Bool) → (symbol_at sig k).mutable ≡ b → table_of sig w (c + copy_for sig d k) k ≡ table_of sig w (c + d) k
      by_kind true e = ap (λ b. table_of sig w (c + cond b d 0) k) e
      by_kind false e = rw e refl

  entry-is : (k : ℕ) (xs : List ℕ) → entry sig w (c + copy_for sig d k) k xs ≡ entry sig w (c + d) k xs
  entry-is k xs = ap (λ (t : Table). slice_index t.values (place (arg_sizes w.sizes (symbol_at sig k)) xs)) (table-is k)

  module _ (vs : List ℕ) where
    values-are : (variables : List ℕ) → map (λ t. value sig w c t vs) (map T.Var variables) ≡ chosen vs variables
    values-are variables = map-map (λ t. value sig w c t vs) T.Var variables

    signed-is : (sign : Bool) (f : Formula) (P : Type 0) → (Truth sig w c f vs ↔ P) → Truth sig w c (signed sign f) vs ↔ HasSign sign P
    signed-is true f P h = h
    signed-is false f P h = (λ t p. cast (truth-Not sig w c f vs) t (h.1 p), λ n. back (truth-Not sig w c f vs) (λ t. n (h.0 t)))

    flat-is : (lit : Flat) → Truth sig w c (flat_formula sig d lit) vs ↔ IsTrueFlat sig w (c + d) vs lit
    flat-is (Differ i j) = (cast (truth-Not sig w c (F.Eq (T.Var i) (T.Var j)) vs), back (truth-Not sig w c (F.Eq (T.Var i) (T.Var j)) vs))
    flat-is (Fact sign r variables) =
        let e = ap (λ xs. entry sig w (c + copy_for sig d r) r xs) (values-are variables) ∙ entry-is r (chosen vs variables) in
        signed-is sign (F.Rel r (copy_for sig d r) (map T.Var variables)) (entry sig w (c + d) r (chosen vs variables) ≡ 1) (λ t. sym e ∙ t, λ t. e ∙ t)
    flat-is (Value f variables v) =
        let e = value-App sig w c f (copy_for sig d f) (map T.Var variables) vs ∙ ap (λ xs. entry sig w (c + copy_for sig d f) f xs) (values-are variables) ∙ entry-is f (chosen vs variables) in
        (λ t. sym e ∙ t, λ t. e ∙ t)

    all-are : (lits : List Flat) → Truth sig w c (F.And (map (flat_formula sig d) lits)) vs ↔ All (IsTrueFlat sig w (c + d) vs) lits
    all-are lits = (
      λ t. all_as (λ lit. Truth sig w c (flat_formula sig d lit) vs) (IsTrueFlat sig w (c + d) vs) lits (λ lit. (flat-is lit).0) (all_map (λ f. Truth sig w c f vs) (flat_formula sig d) lits ((truth-And sig w c (map (flat_formula sig d) lits) vs).0 t)),
      λ h. (truth-And sig w c (map (flat_formula sig d) lits) vs).1 (all_mapped (λ f. Truth sig w c f vs) (flat_formula sig d) lits (all_as (IsTrueFlat sig w (c + d) vs) (λ lit. Truth sig w c (flat_formula sig d lit) vs) lits (λ lit. (flat-is lit).1) h)),
    )

    flat-told : (lit : Flat) → IsTrueFlat sig w (c + d) vs lit ⊎ (¬ IsTrueFlat sig w (c + d) vs lit)
    flat-told lit = by_truth (tell sig w c (flat_formula sig d lit) vs)
      where
        by_truth : Truth sig w c (flat_formula sig d lit) vs ⊎ (¬ Truth sig w c (flat_formula sig d lit) vs) → IsTrueFlat sig w (c + d) vs lit ⊎ (¬ IsTrueFlat sig w (c + d) vs lit)
        by_truth (inl t) = inl ((flat-is lit).0 t)
        by_truth (inr n) = inr (λ h. n ((flat-is lit).1 h))

  pub claim_is : (cube : Cube) → Truth sig w c (claim sig cube d) [] ↔ Meets sig w (c + d) cube
  claim_is cube = (
    λ t. let s = some_over-from sig w c cube.sorts (F.And (map (flat_formula sig d) cube.lits)) [] t in (s.0, s.1, (all-are s.0 cube.lits).0 s.2),
    λ m. some_over-to sig w c cube.sorts (F.And (map (flat_formula sig d) cube.lits)) [] m.0 m.1 ((all-are m.0 cube.lits).1 m.2),
  )

  pub clause_is : (cube : Cube) → Truth sig w c (clause sig cube d) [] ↔ (¬ Meets sig w (c + d) cube)
  clause_is cube = (there, here)
    where
      there : Truth sig w c (clause sig cube d) [] → ¬ Meets sig w (c + d) cube
      there t m =
          let some = (truth-Or sig w c (map (λ lit. F.Not (flat_formula sig d lit)) cube.lits) m.0).0 (all_over-from sig w c cube.sorts (F.Or (map (λ lit. F.Not (flat_formula sig d lit)) cube.lits)) [] t m.0 m.1) in
          let fails = any_map (λ f. Truth sig w c f m.0) (λ lit. F.Not (flat_formula sig d lit)) cube.lits some in
          cast (truth-Not sig w c (flat_formula sig d fails.1) m.0) fails.4 ((flat-is m.0 fails.1).1 (subst (IsTrueFlat sig w (c + d) m.0) fails.3 (m.2 fails.0 fails.1 fails.2)))

      here : ¬ Meets sig w (c + d) cube → Truth sig w c (clause sig cube d) []
      here none = all_over-to sig w c cube.sorts (F.Or (map (λ lit. F.Not (flat_formula sig d lit)) cube.lits)) [] (λ xs e.
          let fails = some_fails (IsTrueFlat sig w (c + d) xs) (flat-told xs) cube.lits (λ all. none (xs, e, all)) in
          (truth-Or sig w c (map (λ lit. F.Not (flat_formula sig d lit)) cube.lits) xs).1
          (any_mapped (λ f. Truth sig w c f xs) (λ lit. F.Not (flat_formula sig d lit)) cube.lits
          (fails.0, fails.1, fails.2, fails.3, back (truth-Not sig w c (flat_formula sig d fails.1) xs) (λ t. fails.4 ((flat-is xs fails.1).0 t)))))

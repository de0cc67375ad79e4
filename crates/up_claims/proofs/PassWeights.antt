-- The queries of cubes that lose literals are no heavier.
use Rattle.std.proofs.Common.{◌≡◌, ℕ, zero, suc, true, false, ◌≤◌, List, [], ◌∷◌, ◌++◌, Option, length, map, take, drop, refl, sym, ap, subst, arith}
use Rattle.std.specs.Prelude.{slice_index}
use Rattle.std.specs.List.{All, range_with_len}
use Rattle.std.proofs.lemmas.List.{append_assoc, length-map}
use denote.Hole.Carrier.{hidden}
use Rattle.fo_core.specs.declared.formula.Formula.{Formula}
use Rattle.fo_core.specs.declared.formula.Formula.TheBlock.{shape-the_row-Formula-0, hidden-the_row-Formula-0}
use Rattle.fo_core.specs.declared.formula.Formula.TheVariants as F
use Rattle.fo_core.specs.declared.term.Term.TheVariants as T
use Rattle.fo_core.specs.declared.query.Query.{Query}
use Rattle.fo_core.specs.declared.signature.Sig.{Sig}
use Rattle.fo_core.specs.declared.system.System.{System}
use Rattle.fo_core.specs.Asked.{IsAsked, at_first, for_size, for_value}
use Rattle.fo_core.specs.Finds.{HasNoWorld, IsLight}
use Rattle.fo_core.specs.Literals.{IsAtom, IsLiteral, IsSubMultiset}
use Rattle.fo_core.specs.QueryWeight.{query_weight}
use Rattle.fo_core.proofs.FewerLiterals.{fewer_literals}
use Rattle.fo_core.proofs.ListFacts.{back, all_mapped}
use Rattle.fo_core.proofs.Pieces.{places-all}
use Rattle.fo_core.proofs.SubMultisets.{sub-filter}
use Rattle.up_diagram.specs.declared.cube.Cube.{Cube}
use Rattle.up_diagram.specs.declared.cube.Flat.{Flat}
use Rattle.up_diagram.specs.declared.cube.Flat.TheVariants.{Differ, Fact, Value}
use Rattle.up_diagram.specs.Claims.{copy_for, flat_formula, claim}
use Rattle.up_diagram.specs.Cubes.{is_used, new_place, renamed, without}
use Rattle.up_claims.specs.declared.kind.Kind.{Kind}
use Rattle.up_claims.specs.Claims.{at_copy, states_below}
use Rattle.up_claims.specs.InferAsked.{HasTried, at_first as tried_first, drops, keeps_for_root, keeps_for_step, IsBlockAsked, for_root, for_step, for_root_without, for_step_without}
use Rattle.up_claims.specs.InferQueries.{frame_claims, root_query, before_query}
use Rattle.up_claims.specs.Transitions.{any_transition}

gone_short : {X : Type 0} (k : ℕ) (xs : List X) → length (take k xs ++ drop (suc k) xs) ≤ length xs
gone_short zero [] = omega arith
gone_short (suc k) [] = omega arith
gone_short zero (x ∷ xs) = omega arith
gone_short (suc k) (x ∷ xs) = omega (arith, gone_short k xs)

literal-Not : (f : Formula) → IsLiteral (F.Not f) ≡ IsAtom f
unfolding shape-the_row-Formula-0 hidden-the_row-Formula-0 hidden
literal-Not f = refl

module _ (sig : Sig) (d : ℕ) where
  literal_of : (lit : Flat) → IsLiteral (flat_formula sig d lit)
  literal_of (Differ i j) = back (literal-Not (F.Eq (T.Var i) (T.Var j))) tt
  literal_of (Fact true r variables) = tt
  literal_of (Fact false r variables) = back (literal-Not (F.Rel r (copy_for sig d r) (map T.Var variables))) tt
  literal_of (Value f variables v) = tt

  are_literals : (lits : List Flat) → All IsLiteral (map (flat_formula sig d) lits)
  are_literals lits = all_mapped IsLiteral (flat_formula sig d) lits (λ k lit lt. literal_of _)

  -- a query is no heavier with the claim of a cube without a literal
  pub less-weighs : (copies : ℕ) (base : List Formula) (cube : Cube) (k : ℕ) →
      query_weight sig (record { copies = copies; claims = base ++ claim sig (without cube k) d ∷ [] })
      ≤ query_weight sig (record { copies = copies; claims = base ++ claim sig cube d ∷ [] })
  less-weighs copies base cube k =
      fewer_literals cube.sorts (without cube k).sorts (map (flat_formula sig d) cube.lits) (map (flat_formula sig d) (without cube k).lits)
      sorts (are_literals cube.lits) (are_literals (without cube k).lits) short sig copies base []
    where
      left : List Flat
      left = take k cube.lits ++ drop (suc k) cube.lits

      sorts : IsSubMultiset (without cube k).sorts cube.sorts
      sorts =
          subst (IsSubMultiset (without cube k).sorts) (places-all cube.sorts 0)
          (sub-filter (slice_index cube.sorts) (is_used left) (range_with_len 0 (length cube.sorts)))

      short : length (map (flat_formula sig d) (without cube k).lits) ≤ length (map (flat_formula sig d) cube.lits)
      short =
          omega (
            arith,
            length-map (without cube k).lits (flat_formula sig d),
            length-map left (renamed (new_place left)),
            length-map cube.lits (flat_formula sig d),
            gone_short k cube.lits,
          )

module _ (sys : System) where
  pub root-less : (cube : Cube) (k : ℕ) → query_weight sys.sig (root_query sys (without cube k)) ≤ query_weight sys.sig (root_query sys cube)
  root-less cube k = less-weighs sys.sig 0 1 (states_below sys 1 ++ at_copy sys.sig 0 sys.inits) cube k

  -- the claims of a step before that of the cube
  abbrev pub step_base : Option (List Cube) → List Formula
  step_base frame = states_below sys 2 ++ frame_claims sys frame ++ any_transition sys ∷ []

  pub before-is : (frame : Option (List Cube)) (cube : Cube) →
      (before_query sys frame cube).claims ≡ step_base frame ++ claim sys.sig cube 1 ∷ []
  before-is frame cube =
      sym (append_assoc (states_below sys 2 ++ frame_claims sys frame) (any_transition sys ∷ []) (claim sys.sig cube 1 ∷ []))

  pub before-less : (frame : Option (List Cube)) (cube : Cube) (k : ℕ) →
      query_weight sys.sig (before_query sys frame (without cube k)) ≤ query_weight sys.sig (before_query sys frame cube)
  before-less frame cube k =
      let weight : List Formula → ℕ = λ fs. query_weight sys.sig (record { copies = 2; claims = fs }) in
      omega (
        arith,
        ap weight (before-is frame (without cube k)),
        ap weight (before-is frame cube),
        less-weighs sys.sig 1 2 (step_base frame) cube k,
      )

  module _ (limit : ℕ) (frame : Option (List Cube)) (cube : Cube) where
    abbrev Light : Query → Type 0
    Light = IsLight sys.sig limit

    -- both queries of a cube are light
    abbrev AreLight : Cube → Type 0
    AreLight rest = Light (root_query sys rest) × Light (before_query sys frame rest)

    less_light : (rest : Cube) (k : ℕ) → AreLight rest → AreLight (without rest k)
    less_light rest k light = (omega (arith, light.0, root-less rest k), omega (arith, light.1, before-less frame rest k))

    rest_light : AreLight cube → (asked : List Query) (k : ℕ) (rest : Cube) → HasTried sys frame cube asked k rest → AreLight rest
    rest_light light _ _ _ (tried_first _ _) = light
    rest_light light _ _ _ (drops asked k rest tried _ _ _) = less_light rest k (rest_light light asked k rest tried)
    rest_light light _ _ _ (keeps_for_root asked k rest tried _ _) = rest_light light asked k rest tried
    rest_light light _ _ _ (keeps_for_step asked k rest tried _ _ _) = rest_light light asked k rest tried

    -- the search for the least world of a query without worlds asks that query alone
    asked_light : (q : Query) → HasNoWorld sys.sig q → Light q → (asked : List Query) (p : Query) → IsAsked sys.sig q asked p → Light p
    asked_light q none light _ _ at_first = light
    asked_light q none light _ _ (for_size sizes n has _ _ _) = absurd (none has.0 has.1)
    asked_light q none light _ _ (for_value sizes values v has _ _ _ _ _ _) = absurd (none has.0 has.1)

    pub pass-light : HasNoWorld sys.sig (root_query sys cube) → HasNoWorld sys.sig (before_query sys frame cube) →
        Light (root_query sys cube) → Light (before_query sys frame cube) →
        (asked : List Query) (what : Kind) (q : Query) → IsBlockAsked sys frame cube asked what q → Light q
    pass-light no_root no_step root before _ _ _ (for_root asked q is) = asked_light (root_query sys cube) no_root root asked q is
    pass-light no_root no_step root before _ _ _ (for_step asked q _ is) = asked_light (before_query sys frame cube) no_step before asked q is
    pass-light no_root no_step root before _ _ _ (for_root_without asked k rest tried lt) =
        (less_light rest k (rest_light (root, before) asked k rest tried)).0
    pass-light no_root no_step root before _ _ _ (for_step_without asked k rest tried lt _) =
        (less_light rest k (rest_light (root, before) asked k rest tried)).1

-- What the evaluation of a term knows of its parts.
use Rattle.std.proofs.Common.{◌≡◌, ℕ, true, false, ◌+◌, ◌-◌, ◌*◌, ◌<◌, ◌≤◌, ◌^◌, List, [], ◌∷◌, length, get_or, map, drop, sym, ap, subst, ◌∙◌, arith, inl, inr, ◌⊎◌}
use Rattle.std.specs.List.{All, AllZip}
use Rattle.std.specs.Prelude.{slice_index}
use Rattle.std.proofs.lemmas.List.Elements.{All-nil, All-cons, All-drop}
use Rattle.fo_core.proofs.Zips.{AllZip-length, AllZip-at}
use Rattle.std.proofs.Math.ListN.{drop_of_length-le}
use Rattle.std.proofs.lemmas.List.{get_or_past, get_or-map, length-map}
use Rattle.std.proofs.lemmas.Bool.{cases_lt}
use Rattle.fo_core.specs.declared.signature.Sig.{Sig}
use Rattle.fo_core.specs.declared.term.Term.{Term}
use Rattle.fo_core.specs.declared.term.Term.TheVariants.{App}
use Rattle.fo_core.specs.declared.world.Table.{Table}
use Rattle.fo_core.specs.declared.world.World.{World}
use Rattle.fo_core.specs.Tables.{IsReadable, symbol_at, tuples, place, arg_sizes, table_of}
use Rattle.fo_core.specs.Truth.{value}
use Rattle.fo_core.specs.Sorted.{IsSymbol, IsTerm}
use Rattle.fo_core.proofs.Rows.{sorted-App, value-App}
use Rattle.fo_core.proofs.TableLemmas.{tuples-positive, place-lt, table_is}
use Rattle.fo_core.proofs.ValueLemmas.{value-lt, list-lt, horner, horner-le, entry-lt, copy_within}
use Rattle.fo_eval.specs.Asked.{Names, AllName}

positive : (xs ns : List ℕ) → AllZip (λ x n. x < n) xs ns → All (λ n. 1 ≤ n) ns
positive [] [] h = All-nil (λ n. 1 ≤ n)
positive [] (n ∷ ns) h = absurd h
positive (x ∷ xs) [] h = absurd h
positive (x ∷ xs) (n ∷ ns) h = All-cons (λ n. 1 ≤ n) n ns (omega (arith, h.0)) (positive xs ns h.1)

module _ (sig : Sig) (w : World) (c : ℕ) (vs : List ℕ) where
  pub args_name : (f d : ℕ) (args : List Term) (n : Names sig w c vs (App f d args)) → tuples (arg_sizes w.sizes (symbol_at sig f)) < 2 ^ 64 → AllName sig w c vs args (symbol_at sig f).args
  args_name f d args n room =
      record { sorts = n.sorts; elements = n.elements; sorted = (sorted-App sig (length w.copies - c) f d args n.sorts n.sort n.sorted).2; room = room }

  module _ (ts : List Term) (args : List ℕ) (n : AllName sig w c vs ts args) where
    pub AllName-length : length ts ≡ length args
    AllName-length = AllZip-length (λ t s. IsTerm sig (length w.copies - c) t n.sorts s) ts args n.sorted

    pub AllName-at : (i : ℕ) (t : Term) → i < length ts → Names sig w c vs (get_or ts i t)
    AllName-at i t lt =
        record { sorts = n.sorts; elements = n.elements; sort = get_or args i 0; sorted = AllZip-at (λ t s. IsTerm sig (length w.copies - c) t n.sorts s) ts args i t 0 n.sorted lt }

    abbrev sizes : List ℕ
    sizes = map (slice_index w.sizes) args

    abbrev elements : List ℕ
    elements = map (λ t. value sig w c t vs) ts

    module _ (r : IsReadable sig w) where
      below : AllZip (λ x n. x < n) elements sizes
      below = list-lt sig w c r.fits vs n.sorts n.elements ts args n.sorted

      pub place_fits : place sizes elements < 2 ^ 64
      place_fits = let lt = place-lt sizes elements below in let room = n.room in omega arith

      pub value-within : (i : ℕ) (t : Term) → i < length ts → value sig w c (get_or ts i t) vs < slice_index w.sizes (get_or args i 0)
      value-within i t lt = value-lt sig w c r.fits vs n.sorts n.elements (get_or ts i t) (get_or args i 0) (AllZip-at (λ t s. IsTerm sig (length w.copies - c) t n.sorts s) ts args i t 0 n.sorted lt)

      pub sort-within : (i : ℕ) (t : Term) → i < length ts → get_or args i 0 < length w.sizes
      sort-within i t lt = by_cases (cases_lt (get_or args i 0) (length w.sizes))
        where
          by_cases : (get_or args i 0 < length w.sizes) ⊎ (length w.sizes ≤ get_or args i 0) → get_or args i 0 < length w.sizes
          by_cases (inl h) = h
          by_cases (inr h) = absurd (omega (arith, value-within i t lt, get_or_past w.sizes (get_or args i 0) 0 h))

      module _ (i acc : ℕ) (t : Term) (so_far : acc * tuples (drop i sizes) + place (drop i sizes) (drop i elements) ≡ place sizes elements) where
        pub more : i < length ts → (acc * slice_index w.sizes (get_or args i 0) + value sig w c (get_or ts i t) vs) * tuples (drop (i + 1) sizes) + place (drop (i + 1) sizes) (drop (i + 1) elements) ≡ place sizes elements
        more lt =
            let ns : i < length sizes = omega (arith, length-map args (slice_index w.sizes), AllName-length) in
            let xs : i < length elements = omega (arith, length-map ts (λ t. value sig w c t vs)) in
            let size : get_or sizes i 0 ≡ slice_index w.sizes (get_or args i 0) = get_or-map (slice_index w.sizes) args i 0 0 (omega (arith, AllName-length)) in
            let element : get_or elements i 0 ≡ value sig w c (get_or ts i t) vs = get_or-map (λ t. value sig w c t vs) ts i t 0 lt in
            let moved = horner sizes elements i acc ns xs in
            subst (λ n. (acc * n + value sig w c (get_or ts i t) vs) * tuples (drop (i + 1) sizes) + place (drop (i + 1) sizes) (drop (i + 1) elements) ≡ place sizes elements) size
            (subst (λ e. (acc * get_or sizes i 0 + e) * tuples (drop (i + 1) sizes) + place (drop (i + 1) sizes) (drop (i + 1) elements) ≡ place sizes elements) element
            (sym moved ∙ so_far))

        pub fits : i < length ts → acc * slice_index w.sizes (get_or args i 0) + value sig w c (get_or ts i t) vs < 2 ^ 64
        fits lt =
            let sized : 1 ≤ tuples (drop (i + 1) sizes) = tuples-positive (drop (i + 1) sizes) (All-drop (λ n. 1 ≤ n) (i + 1) sizes (positive elements sizes below)) in
            let le : acc * slice_index w.sizes (get_or args i 0) + value sig w c (get_or ts i t) vs ≤ place sizes elements = horner-le _ _ _ _ (more lt) sized in
            omega (arith, place_fits)

        pub done : length ts ≤ i → acc ≡ place sizes elements
        done le =
            let none : drop i sizes ≡ [] = drop_of_length-le sizes (omega (arith, length-map args (slice_index w.sizes), AllName-length)) in
            omega (arith, subst (λ ns. acc * tuples ns + place ns (drop i elements) ≡ place sizes elements) none so_far)

  -- a term that is a symbol with arguments, whose table has been found
  module _ (r : IsReadable sig w) (f d : ℕ) (args : List Term) (n : Names sig w c vs (App f d args)) (table : Table) (is : table ≡ table_of sig w (c + d) f) where
    parts : IsSymbol sig (length w.copies - c) false f d × ((symbol_at sig f).result ≡ n.sort) × AllZip (λ t s. IsTerm sig (length w.copies - c) t n.sorts s) args (symbol_at sig f).args
    parts = sorted-App sig (length w.copies - c) f d args n.sorts n.sort n.sorted

    pub App-within : f < length sig.symbols
    App-within = parts.0.within

    pub App-copied : (symbol_at sig f).mutable ≡ true → c + d < length w.copies
    App-copied = copy_within sig w c false f d parts.0

    pub App-args : length table.values < 2 ^ 64 → AllName sig w c vs args (symbol_at sig f).args
    App-args few = args_name f d args n (subst (λ n. n < 2 ^ 64) (ap (λ (t : Table). length t.values) is ∙ (table_is sig w (c + d) f r.fits App-within App-copied).total) few)

    pub App-place : place (arg_sizes w.sizes (symbol_at sig f)) (map (λ t. value sig w c t vs) args) < length table.values
    App-place = subst (λ (t : Table). place (arg_sizes w.sizes (symbol_at sig f)) (map (λ t. value sig w c t vs) args) < length t.values) (sym is)
        (entry-lt sig w c false f d _ r.fits parts.0 (list-lt sig w c r.fits vs n.sorts n.elements args (symbol_at sig f).args parts.2)).0

    pub App-value : value sig w c (App f d args) vs ≡ get_or table.values (place (arg_sizes w.sizes (symbol_at sig f)) (map (λ t. value sig w c t vs) args)) 0
    App-value = value-App sig w c f d args vs ∙ ap (λ (t : Table). get_or t.values (place (arg_sizes w.sizes (symbol_at sig f)) (map (λ t. value sig w c t vs) args)) 0) (sym is)

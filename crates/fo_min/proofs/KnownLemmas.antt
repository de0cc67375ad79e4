-- What the world that is kept shows.
use Rattle.std.proofs.Common.{◌≡◌, ℕ, zero, suc, Bool, true, false, cond, ◌⊎◌, inl, inr, ◌+◌, ◌<◌, ◌≤◌, List, [], ◌∷◌, ◌++◌, length, map, get_or, replicate, Option, Some, None, refl, sym, ap, subst, ◌∙◌, below_more, arith}
use Rattle.std.specs.Prelude.{slice_index, slice_index_or, MatchOption, ⊤}
use Rattle.std.specs.List.{All, AllZip, range_with_len}
use Rattle.std.proofs.lemmas.Bool.{cases_lt}
use Rattle.std.proofs.lemmas.List.Elements.{All-head, All-tail}
use Rattle.std.proofs.lemmas.List.{get_or-replicate, get_or_default, length-replicate, length_push}
use Rattle.fo_core.specs.declared.cell.Cell.{Cell}
use Rattle.fo_core.specs.declared.query.Query.{Query}
use Rattle.fo_core.specs.declared.signature.Sig.{Sig}
use Rattle.fo_core.specs.declared.signature.Symbol.{Symbol}
use Rattle.fo_core.specs.declared.world.World.{World}
use Rattle.fo_core.specs.Asked.{no_cell, IsNextValue, tried, value_trials}
use Rattle.fo_core.specs.Cells.{cells}
use Rattle.fo_core.specs.Finds.{CanSearch, HasWorld, IsLight}
use Rattle.fo_core.specs.Queries.{MeetsQuery}
use Rattle.fo_core.specs.Sorted.{HasSorts}
use Rattle.fo_core.specs.Runs.{AreElements}
use Rattle.fo_core.specs.Tables.{symbol_at, range_of}
use Rattle.fo_core.specs.Trials.{trial, claim_of}
use Rattle.fo_core.specs.Truth.{Truth}
use Rattle.fo_core.proofs.ListFacts.{all_left, all_mapped}
use Rattle.fo_least.proofs.CellLemmas.{IsCell, cells-at}
use Rattle.fo_least.proofs.Naming.{IsNaming, IsEntry, HasValues, CanTry, MeetsTrial, named}
use Rattle.fo_least.proofs.NextLemmas.{next_value, can_try_value, symbol-sorts}
use Rattle.fo_least.proofs.Settled.{settled-world}
use Rattle.fo_least.proofs.TrialMeaning.{trial_means, trial_is_query, trial_rises}
use Rattle.fo_min.specs.declared.found.Excess.{Excess}
use Rattle.fo_min.specs.declared.known.Known.{Known}
use Rattle.fo_min.specs.declared.search.Answer.{Answer}
use Rattle.fo_min.specs.declared.search.Answer.TheVariants as Answers
use Rattle.fo_min.specs.declared.search.Entries.{Entries}
use Rattle.fo_min.specs.declared.search.Lesser.{Lesser}
use Rattle.fo_min.specs.declared.search.Lesser.TheVariants as Lessers
use Rattle.fo_min.specs.Known.{element_of, cell_of, HasEntry, IsNamedWorld, IsKnown, MayKnow, IsLast, HasNoNext, IsLesser, AreAllLight, IsNext}
use Rattle.fo_min.specs.Search.{sig_of, query_of, AreEntries, AreValuesSettled, is_relation_next, range_next, IsValueAnswer}
use Rattle.fo_min.proofs.LightTrials.{trial-le}
use Rattle.fo_min.proofs.SearchLemmas.{each-more, some-entry, value-settled, answer-met, answer-none, answer-over}

-- what meets a trial meets the query
pub trial-meets : (sig : Sig) (q : Query) (sizes values : List ℕ) (w : World) → MeetsQuery sig (trial sig q sizes values) w → MeetsQuery sig q w
trial-meets sig q sizes values w h = record {
  fits = h.fits;
  copies = h.copies;
  claims = all_left (λ f. Truth sig w 0 f []) q.claims (claim_of sig q.copies sizes values ∷ []) h.claims;
}

first-in-range : (b : Bool) (n : ℕ) → (b ≡ false → 1 ≤ n) → 0 < cond b 2 n
first-in-range true n h = omega arith
first-in-range false n h = let le = h refl in omega arith

-- elements that are named are elements of their sorts
named-elements : (w : World) (sizes : List ℕ) (name : ℕ → ℕ → ℕ) → IsNaming w sizes name → (rs xs : List ℕ) → All (λ s. s < length sizes) rs →
    AllZip (λ x n. x < n) xs (map (slice_index sizes) rs) → AreElements w.sizes (named name rs xs) rs
named-elements w sizes name naming [] [] known h = tt
named-elements w sizes name naming [] (x ∷ xs) known h = absurd h
named-elements w sizes name naming (s ∷ rs) [] known h = absurd h
named-elements w sizes name naming (s ∷ rs) (x ∷ xs) known h = (
  naming.within s x (All-head (λ s. s < length sizes) s rs known) h.0,
  named-elements w sizes name naming rs xs (All-tail (λ s. s < length sizes) s rs known) h.1,
)

-- what is kept is known
pub is-known : (e : Entries) (values : List ℕ) (o : Option Known) (k : Known) → o ≡ Some k → MayKnow e values o → IsKnown e values k
is-known e values o k is h = subst (MayKnow e values) is h

-- the value up to which trials are asked is in range
pub last-below : (e : Entries) (values : List ℕ) (m : ℕ) (k : Option Known) → IsLast e values m k → m < range_next e values
last-below e values m (Some k) h = h.0
last-below e values m None h = omega (arith, h)

-- what a search for a lesser value found
pub lesser-met : (e : Entries) (values : List ℕ) (most v : ℕ) (w : World) (l : Lesser) → l ≡ Lessers.Met v w → IsLesser e values most l → IsLesser e values most (Lessers.Met v w)
lesser-met e values most v w l is h = subst (IsLesser e values most) is h

pub lesser-none : (e : Entries) (values : List ℕ) (most : ℕ) (l : Lesser) → l ≡ Lessers.Nothing → IsLesser e values most l → (u : ℕ) → u < most → HasNoNext e values u
lesser-none e values most l is h = subst (IsLesser e values most) is h

-- the list that is found
pub some-list : (o : Option (List ℕ)) (ys xs : List ℕ) → o ≡ Some ys → MatchOption o ⊤ (λ zs. zs ≡ xs) → ys ≡ xs
some-list o ys xs is h = subst (λ o. MatchOption o ⊤ (λ zs. zs ≡ xs)) is h

module _ (e : Entries) (are : AreEntries e) where
  abbrev own_sig : Sig
  own_sig = sig_of e.search

  abbrev own_query : Query
  own_query = query_of e.search

  abbrev own_sizes : List ℕ
  own_sizes = e.sizes.now

  abbrev own_cells : List Cell
  own_cells = cells own_sig own_sizes own_query.copies

  abbrev value_trial : List ℕ → Query
  value_trial values = trial own_sig own_query own_sizes values

  many : length e.cells.now ≡ length own_cells
  many = ap length are.all

  -- a world that is kept meets the trial of its values
  pub known-trial : (values : List ℕ) (k : Known) → IsKnown e values k → MeetsTrial own_sig own_query own_sizes values k.world
  known-trial values k h = record { meets = h.is.meets; name = element_of k.names; naming = h.is.naming; entries = entries }
    where
      entries : HasValues own_sig k.world own_query.copies own_sizes (element_of k.names) values
      entries i lt =
          subst (λ (cs : List Cell). IsEntry own_sig k.world (element_of k.names) (slice_index_or cs i no_cell) (slice_index values i)) are.all
          (h.entries i lt)

  -- so it does with its next value
  pub known-more : (values : List ℕ) (v : ℕ) (k : Known) → IsKnown e values k → HasEntry e k.world k.names (length values) v → IsKnown e (values ++ v ∷ []) k
  known-more values v k h own = record {
    is = h.is;
    entries = each-more (λ i _ u. HasEntry e k.world k.names i u) values v h.entries own;
  }

  -- ---- lightness

  zeros-range : (limit n k : ℕ) → AreValuesSettled e limit [] → n ≡ length e.cells.now → k < n →
      slice_index (replicate n 0) k < range_of own_sizes (symbol_at own_sig (slice_index_or own_cells k no_cell).symbol)
  zeros-range limit n k settled all lt =
      let cell = slice_index_or own_cells k no_cell in
      let there : IsCell own_sig own_sizes own_query.copies cell = cells-at own_sig own_sizes own_query.copies k (omega (arith, many)) in
      let sorts : HasSorts own_sig.sorts (symbol_at own_sig cell.symbol) = symbol-sorts own_sig cell.symbol are.can.sig there.within in
      subst (λ v. v < range_of own_sizes (symbol_at own_sig cell.symbol)) (sym (get_or-replicate n k 0 0 lt))
      (first-in-range (symbol_at own_sig cell.symbol).relation (slice_index own_sizes (symbol_at own_sig cell.symbol).result)
      (λ function.
      let known : (symbol_at own_sig cell.symbol).result < length own_sizes = omega (arith, sorts.result function, are.sorts) in
      (settled.next_sizes (symbol_at own_sig cell.symbol).result known).positive))

  zeros-can : (limit n : ℕ) → AreValuesSettled e limit [] → n ≡ length e.cells.now → CanTry own_sig own_query.copies own_sizes (replicate n 0)
  zeros-can limit n settled all = record {
    sorts = omega (arith, are.sorts);
    all_sorts = λ k lt. are.sorts;
    entries = omega (arith, length-replicate {A = ℕ} n 0, many);
    in_range = λ k lt. zeros-range limit n k settled all (omega (arith, length-replicate {A = ℕ} n 0));
  }

  pub can-ask-zeros : (limit n : ℕ) → AreValuesSettled e limit [] → n ≡ length e.cells.now →
      CanSearch e.search.sys.now e.search.order.now (value_trial (replicate n 0))
  can-ask-zeros limit n settled all = record {
    sig = are.can.sig;
    query = trial_is_query own_sig own_query own_sizes (replicate n 0) are.can.sig are.can.query (zeros-can limit n settled all);
    rises = trial_rises own_sig own_query own_sizes (replicate n 0) e.search.order.now.numbers are.can.rises;
  }

  -- where a trial of all entries is light, each trial of values is
  pub all-light : (limit n : ℕ) → n ≡ length e.cells.now → IsLight own_sig limit (value_trial (replicate n 0)) → AreAllLight e limit
  all-light limit n all light values le =
      let less = trial-le own_sig own_query own_sizes values (replicate n 0) (omega (arith, length-replicate {A = ℕ} n 0)) (omega (arith, length-replicate {A = ℕ} n 0, many)) in
      omega (arith, less, light)

  -- ---- the next value

  module _ (limit : ℕ) (values : List ℕ) (more : length values < length e.cells.now) (settled : AreValuesSettled e limit values) where
    next : length values < length own_cells
    next = some-entry e are values more

    abbrev kind : Bool
    kind = is_relation_next e values

    abbrev next_size : ℕ
    next_size = slice_index own_sizes (symbol_at own_sig (slice_index_or own_cells (length values) no_cell).symbol).result

    can-world : CanTry own_sig own_query.copies own_sizes values × ((w : World) × MeetsTrial own_sig own_query own_sizes values w)
    can-world =
        settled-world own_sig own_query are.can.sig are.can.query own_sizes are.sorts values (omega (arith, next)) settled.some
        settled.next_sizes settled.next_values

    can-next : (v : ℕ) → v < range_next e values → CanTry own_sig own_query.copies own_sizes (values ++ v ∷ [])
    can-next v lt = can_try_value own_sig own_query.copies own_sizes values v are.sorts next can-world.0 lt

    meets-next : (v : ℕ) (w : World) → v < range_next e values → MeetsTrial own_sig own_query own_sizes (values ++ v ∷ []) w → HasWorld own_sig (value_trial (values ++ v ∷ []))
    meets-next v w lt t = (w, (trial_means own_sig own_query own_sizes (values ++ v ∷ []) are.can.sig are.can.query (can-next v lt) w).1 t)

    -- some world has some next value
    world-next : (v : ℕ) × (v < range_next e values) × HasWorld own_sig (value_trial (values ++ v ∷ []))
    world-next =
        let found = next_value own_sig own_query own_sizes values can-world.1.0 are.can.sig can-world.1.1 are.sorts next in
        (found.0, found.1, meets-next found.0 can-world.1.0 found.1 found.2)

    pub some-range : 1 ≤ range_next e values
    some-range = omega (arith, world-next.1)

    relation-range : (v : ℕ) → v < range_next e values → kind ≡ true → v < 2
    relation-range v lt is = subst (λ b. v < cond b 2 next_size) is lt

    is-next : (b : Bool) (v : ℕ) → (b ≡ true → v < 2) → HasWorld own_sig (value_trial (values ++ v ∷ [])) → ((u : ℕ) → u < v → HasNoNext e values u) →
        IsNextValue own_sig own_query b own_sizes values v
    is-next true zero lt has none = inl (refl, has)
    is-next true (suc v) lt has none = let below = lt refl in let one : suc v ≡ 1 = omega arith in inr (one, none 0 (omega arith))
    is-next false v lt has none = record { some = has; lesser = none }

    module _ (light : AreAllLight e limit) where
      trials-light : (n : ℕ) → All (IsLight own_sig limit) (value_trials own_sig own_query own_sizes values n)
      trials-light n =
          all_mapped (IsLight own_sig limit) (λ v. value_trial (values ++ v ∷ [])) (range_with_len 0 n)
          (λ k d lt. light (values ++ get_or (range_with_len 0 n) k d ∷ []) (omega (arith, length_push values (get_or (range_with_len 0 n) k d))))

      -- the least value that some world has is settled
      next-settled : (v : ℕ) → v < range_next e values → HasWorld own_sig (value_trial (values ++ v ∷ [])) → ((u : ℕ) → u < v → HasNoNext e values u) →
          AreValuesSettled e limit (values ++ v ∷ [])
      next-settled v lt has none =
          value-settled own_sig own_query limit are.can.sig are.can.query own_sizes values are.sorts next settled v
          (is-next kind v (relation-range v lt) has none) (trials-light (tried own_sig own_query kind v))

      -- a value that a trial showed to be had
      pub met-next : (most v : ℕ) (w : World) (k : Option Known) → most < range_next e values → v < most → ((u : ℕ) → u < v → HasNoNext e values u) →
          MeetsQuery own_sig (value_trial (values ++ v ∷ [])) w → MayKnow e (values ++ v ∷ []) k → IsNext e limit values (record { value = v; known = k })
      met-next most v w k in_range lt none meets may = record { settled = next-settled v (omega (arith, in_range, lt)) (w, meets) none; known = may }

      -- one that the world that is kept has, or the last where there is none
      pub last-next : (m : ℕ) (k : Option Known) → IsLast e values m k → ((u : ℕ) → u < m → HasNoNext e values u) →
          IsNext e limit values (record { value = m; known = k })
      last-next m (Some k) (lt, is, own) none =
          let here = known-more values m k is own in
          record { settled = next-settled m lt (meets-next m k.world lt (known-trial (values ++ m ∷ []) k here)) none; known = here }
      last-next m None last none = record { settled = at (cases_lt world-next.0 m); known = tt }
        where
          at : (world-next.0 < m) ⊎ (m ≤ world-next.0) → AreValuesSettled e limit (values ++ m ∷ [])
          at (inl lt) = absurd (none world-next.0 lt world-next.2.0 world-next.2.1)
          at (inr le) =
              let same : world-next.0 ≡ m = omega (arith, world-next.1, last) in
              next-settled m (omega (arith, last)) (subst (λ v. HasWorld own_sig (value_trial (values ++ v ∷ []))) same world-next.2) none

      -- ---- an answer to a trial, where those of lesser values have no world

      module _ (v : ℕ) (none : (u : ℕ) → u < v → HasNoNext e values u) (before : ℕ) (same : before ≡ limit) (a : Answer) (h : IsValueAnswer e before values v a) where
        pub met-lesser : (most : ℕ) (w : World) → v < most → a ≡ Answers.Met w → IsLesser e values most (Lessers.Met v w)
        met-lesser most w lt is = (lt, none, (answer-met own_sig before limit same (value_trial (values ++ v ∷ [])) a h w is).0)

        pub none-lesser : a ≡ Answers.Nothing → (u : ℕ) → u < v + 1 → HasNoNext e values u
        none-lesser is = below_more (HasNoNext e values) v none (answer-none own_sig before limit same (value_trial (values ++ v ∷ [])) a h is).0

        pub never-over : (x : Excess) → a ≡ Answers.Over x → ⊥
        never-over x is =
            let over = answer-over own_sig before limit same (value_trial (values ++ v ∷ [])) a h x is in
            let fits = light (values ++ v ∷ []) (omega (arith, length_push values v)) in
            absurd (omega (arith, fits, over.1, over.2))

  -- ---- an entry of the world

  module _ (w : World) (names : List (List ℕ)) (is : IsNamedWorld e w names) (k : ℕ) (lt : k < length e.cells.now) (d : Cell) where
    abbrev c : Cell
    c = slice_index_or e.cells.now k d

    abbrev name : ℕ → ℕ → ℕ
    name = element_of names

    abbrev its_symbol : Symbol
    its_symbol = symbol_at own_sig c.symbol

    here : c ≡ cell_of e k
    here = get_or_default e.cells.now k d no_cell lt

    there : c ≡ slice_index_or own_cells k no_cell
    there = here ∙ ap (λ (cs : List Cell). slice_index_or cs k no_cell) are.all

    cell-is : IsCell own_sig own_sizes own_query.copies c
    cell-is = subst (IsCell own_sig own_sizes own_query.copies) (sym there) (cells-at own_sig own_sizes own_query.copies k (omega (arith, many)))

    pub entry-symbol : c.symbol < length own_sig.symbols
    entry-symbol = cell-is.within

    pub entry-copied : its_symbol.mutable ≡ true → c.copy < length w.copies
    entry-copied mutable =
        subst (λ n. c.copy < n) (sym is.meets.copies) (subst (λ b. c.copy < cond b own_query.copies 1) mutable cell-is.copy)

    pub entry-elements : (symbol : Symbol) (args : List ℕ) → symbol ≡ its_symbol → args ≡ named name symbol.args c.args → AreElements w.sizes args its_symbol.args
    entry-elements symbol args of_symbol of_args =
        let sorts = symbol-sorts own_sig c.symbol are.can.sig cell-is.within in
        let known : All (λ s. s < length own_sizes) its_symbol.args = subst (λ n. All (λ s. s < n) its_symbol.args) (sym are.sorts) sorts.args in
        let all = named-elements w own_sizes name is.naming its_symbol.args c.args known cell-is.args in
        subst (λ xs. AreElements w.sizes xs its_symbol.args) (ap (λ (s : Symbol). named name s.args c.args) (sym of_symbol) ∙ sym of_args) all

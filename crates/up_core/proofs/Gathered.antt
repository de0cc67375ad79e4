-- What is gathered of the live clauses.
use Rattle.std.proofs.Common.{◌≡◌, ℕ, ◌+◌, ◌<◌, ◌≤◌, Bool, true, false, cond, ◌&&◌, ◌||◌, nat_eq, nat_le, is_none, List, [], ◌∷◌, ◌++◌, length, take, Some, slice_get, sym, ap, ◌∙◌, arith}
use Rattle.std.specs.List.{flat_map, list_any}
use Rattle.std.specs.Option.{option_map_or}
use Rattle.std.proofs.lemmas.List.{flat_map_more, take_all, take_more}
use Rattle.std.proofs.lemmas.List.Folds.{list_any_more}
use Rattle.std.proofs.lemmas.Option.{get_or_from_slice_get}
use Rattle.up_machine.proofs.Lists.{first_true, get-lt}
use Rattle.up_core.specs.declared.state.ClauseEntry.{ClauseEntry}
use Rattle.up_core.specs.Places.{due_of, has_level, is_live, live_of, may_rise}
use Rattle.up_core.proofs.Placed.{places-among, places-any}

pub rise-live : (frontier : ℕ) (e : ClauseEntry) → may_rise frontier e ≡ true → is_live e ≡ true
rise-live frontier e t =
    first_true e.live (nat_le 1 e.level) (first_true (e.live && nat_le 1 e.level) (nat_le e.level frontier) (first_true (e.live && nat_le 1 e.level && nat_le e.level frontier) (is_none e.failed) t))

module _ (es : List ClauseEntry) where
  take-more : (ks : List ℕ) (i k : ℕ) → slice_get ks i ≡ Some k → take (i + 1) ks ≡ take i ks ++ k ∷ []
  take-more ks i k e = take_more ks i k (get-lt ks i k e) ∙ ap (λ j. take i ks ++ j ∷ []) (get_or_from_slice_get ks i k k e)

  -- the numbers that may rise, among these
  module _ (frontier : ℕ) where
    abbrev pub gathered_due : List ℕ → List ℕ
    gathered_due ks = flat_map (λ k. option_map_or (λ e. cond (may_rise frontier e) (k ∷ []) []) (slice_get es k) []) ks

    pub due-more : (i k : ℕ) (e : ClauseEntry) (due : List ℕ) → slice_get (live_of es) i ≡ Some k → slice_get es k ≡ Some e → due ≡ gathered_due (take i (live_of es)) →
        due ++ cond (may_rise frontier e) (k ∷ []) [] ≡ gathered_due (take (i + 1) (live_of es))
    due-more i k e due at there is =
        let h : ℕ → List ℕ = λ k. option_map_or (λ e. cond (may_rise frontier e) (k ∷ []) []) (slice_get es k) [] in
        let here : cond (may_rise frontier e) (k ∷ []) [] ≡ h k = ap (λ o. option_map_or (λ e. cond (may_rise frontier e) (k ∷ []) []) o []) (sym there) in
        ap (λ l. l ++ cond (may_rise frontier e) (k ∷ []) []) is ∙ ap (λ l. gathered_due (take i (live_of es)) ++ l) here
        ∙ flat_map_more h [] (take i (live_of es)) k ∙ ap gathered_due (sym (take-more (live_of es) i k at))

    pub due-end : (i : ℕ) (due : List ℕ) → length (live_of es) ≤ i → due ≡ gathered_due (take i (live_of es)) → due ≡ due_of frontier es
    due-end i due le is =
        let h : ℕ → List ℕ = λ k. option_map_or (λ e. cond (may_rise frontier e) (k ∷ []) []) (slice_get es k) [] in
        is ∙ ap gathered_due (take_all i (live_of es) le)
        ∙ places-among is_live (may_rise frontier) h (rise-live frontier) 0 es
        (λ k e there. let same : 0 + k ≡ k = omega arith in ap h same ∙ ap (λ o. option_map_or (λ e. cond (may_rise frontier e) (k ∷ []) []) o []) there ∙ ap (λ j. cond (may_rise frontier e) (j ∷ []) []) (sym same))

  -- whether one of these has the level
  abbrev pub at_level : ℕ → ℕ → Bool
  at_level i k = option_map_or (λ (e : ClauseEntry). nat_eq e.level i) (slice_get es k) false

  abbrev pub AreMarked : ℕ → List Bool → Type 0
  AreMarked n levels = (i : ℕ) → i < length levels → slice_get levels i ≡ Some (list_any (at_level i) (take n (live_of es)))

  pub level-more : (n k : ℕ) (e : ClauseEntry) (old new : List Bool) → slice_get (live_of es) n ≡ Some k → slice_get es k ≡ Some e → length new ≡ length old →
      ((i : ℕ) (b : Bool) → slice_get old i ≡ Some b → slice_get new i ≡ Some (b || nat_eq e.level i)) → AreMarked n old → AreMarked (n + 1) new
  level-more n k e old new at there same marked are i lt =
      let here : at_level i k ≡ nat_eq e.level i = ap (λ o. option_map_or (λ (e : ClauseEntry). nat_eq e.level i) o false) there in
      let more = list_any_more (at_level i) (live_of es) n k (get-lt (live_of es) n k at)
      ∙ ap (λ j. list_any (at_level i) (take n (live_of es)) || at_level i j) (get_or_from_slice_get (live_of es) n k k at)
      ∙ ap (λ b. list_any (at_level i) (take n (live_of es)) || b) here in
      marked i (list_any (at_level i) (take n (live_of es))) (are i (omega (arith, lt, same))) ∙ ap Some (sym more)

  pub level-end : (n : ℕ) (levels : List Bool) → length (live_of es) ≤ n → AreMarked n levels → (i : ℕ) → i < length levels → slice_get levels i ≡ Some (list_any (has_level i) es)
  level-end n levels le are i lt =
      are i lt ∙ ap (λ ks. Some (list_any (at_level i) ks)) (take_all n (live_of es) le)
      ∙ ap Some (places-any is_live (λ (e : ClauseEntry). nat_eq e.level i) (at_level i) 0 es
      (λ k e there. let same : 0 + k ≡ k = omega arith in ap (at_level i) same ∙ ap (λ o. option_map_or (λ (e : ClauseEntry). nat_eq e.level i) o false) there))

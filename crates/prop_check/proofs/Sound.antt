-- What a `Checked` keeps true.
use Rattle.std.proofs.Common.{◌≡◌, ℕ, ◌<◌, ◌-◌, ◌+◌, ◌↔◌, Bool, true, false, List, [], ◌∷◌, ◌++◌, Option, None, take, drop, length, sym, ◌∙◌, ap, subst, arith, append-nil, append_assoc, length-append, get_or, replicate, refl, inl, inr}
use Rattle.std.specs.Prelude.{IsTrue, IsFalse}
use Rattle.std.proofs.lemmas.Bool.{cases_lt}
use Rattle.std.specs.List.{Contains}
use Rattle.std.proofs.lemmas.List.{take_all, drop_all, nil_from_length, length-replicate, get_or-replicate, get_or_past, get_or_append_left, get_or-append_right}
use Rattle.std.proofs.lemmas.List.Elements.{All-push, All-contains, All-weaker, Contains-append_left}
use Rattle.prop_core.specs.declared.lit.Lit.{Lit}
use Rattle.prop_core.specs.Formula.{IsWithin, AreWithin, MeetsAll, MeetsClause}
use Rattle.prop_core.specs.Propagation.{Follows, IsDerivation}
use Rattle.prop_core.proofs.Soundness.{derivation_sound, follows_sound}
use Rattle.prop_core.proofs.Clauses.{All-from_contains}
use Rattle.prop_check.specs.Assignment.{IsTrueIn, OnlyForced}
use Rattle.prop_check.specs.Kept.{IsSound, IsImplied, given_of, added_of}
use Rattle.prop_check.proofs.Settling.{not_open}
use Rattle.prop_check.proofs.Starting.{implied_more, implied_forced, implied_none}
use Rattle.prop_check.proofs.Among.{Follows-among, IsDerivation-among}
use Rattle.prop_check.proofs.Marks.{given_of-push_true, given_of-push_false, added_of-push_true, added_of-push_false, given_of-all, added_of-all, in_kept, from_kept}

pub IsDerivation-push : (clauses steps : List (List Lit)) (c : List Lit) → IsDerivation clauses steps → Follows (clauses ++ steps) c → IsDerivation clauses (steps ++ c ∷ [])
IsDerivation-push clauses [] c h follows = (rw append-nil at follows, tt)
IsDerivation-push clauses (s ∷ steps) c h follows =
    let P : List (List Lit) → Type 0 = λ cs. Follows cs c in
    let e : clauses ++ s ∷ steps ≡ (clauses ++ s ∷ []) ++ steps = sym (append_assoc clauses (s ∷ []) steps) in
    (h.0, IsDerivation-push (clauses ++ s ∷ []) steps c h.1 (subst P e follows))

-- a slice written back is the slice
pub written : (n : ℕ) (xs ys : List (Option Bool)) → length xs ≡ length ys → n ≡ length ys → take n (xs ++ drop (length xs) ys) ≡ xs
written n xs ys same all =
    let rest : drop (length xs) ys ≡ [] = drop_all (length xs) ys (omega arith) in
    let P : List (Option Bool) → Type 0 = λ zs. take n (xs ++ zs) ≡ xs in
    subst P (sym rest) (ap (take n) (append-nil xs) ∙ take_all n xs (omega arith))

unset : (n k : ℕ) → get_or (replicate n None) k None ≡ (let o : Option Bool = None in o)
unset n k = elim (cases_lt k n) [
  | inl l ↦ get_or-replicate n k None None l
  | inr g ↦ get_or_past (replicate n None) k None (omega (arith, length-replicate n (let o : Option Bool = None in o)))
]

pub sound_new : (vars n : ℕ) (clauses clauses' seen : List (List Lit)) (marks : List Bool) (start lent root values : List (Option Bool)) → clauses ≡ clauses' → marks ≡ replicate (length clauses) true → AreWithin vars clauses' → start ≡ replicate vars None → values ≡ replicate vars None → lent ≡ start → seen ≡ clauses → length root ≡ length lent → n ≡ length start → OnlyForced seen lent root → IsSound vars marks clauses (take n (root ++ drop (length root) start)) values
sound_new vars n clauses clauses' seen marks start lent root values same all within none no_values lend see size m forced =
    let wrote : take n (root ++ drop (length root) start) ≡ root = written n root start (size ∙ ap length lend) m in
    let P : List (Option Bool) → Type 0 = λ w. IsSound vars marks clauses w values in
    let M : List Bool → Type 0 = λ ms. IsSound vars ms clauses root values in
    let len : (xs : List (Option Bool)) → xs ≡ replicate vars None → length xs ≡ vars = λ xs e. ap length e ∙ length-replicate vars None in
    let S : List (List Lit) → Type 0 = λ cs. OnlyForced cs lent root in
    subst P (sym wrote) (subst M (sym all) (record {
      marked = length-replicate (length clauses) true;
      places = len values no_values;
      root_places = size ∙ ap length lend ∙ len start none;
      within = let Q : List (List Lit) → Type 0 = λ cs. AreWithin vars cs in subst Q (sym same) within;
      derived = let Q : List (List Lit) → Type 0 = λ rest. IsDerivation (given_of (replicate (length clauses) true) clauses) rest in
          subst Q (sym (added_of-all clauses)) tt;
      implied = implied_forced clauses lent root
          (implied_none clauses lent (λ k. ap (λ (w : List (Option Bool)). get_or w k None) (lend ∙ none) ∙ unset vars k))
          (subst S see forced);
    }))

-- the clauses of a new one are all given
pub given_new : (marks : List Bool) (clauses clauses' : List (List Lit)) → marks ≡ replicate (length clauses) true → clauses ≡ clauses' → given_of marks clauses ≡ clauses'
given_new marks clauses clauses' all same = ap (λ ms. given_of ms clauses) all ∙ given_of-all clauses ∙ same

pub added_new : (marks : List Bool) (clauses : List (List Lit)) → marks ≡ replicate (length clauses) true → added_of marks clauses ≡ []
added_new marks clauses all = ap (λ ms. added_of ms clauses) all ∙ added_of-all clauses

-- a clause after the others, with its mark
pub sound_more : (vars : ℕ) (m : Bool) (marks marks' : List Bool) (clauses clauses' : List (List Lit)) (root root' values values' : List (Option Bool)) (c : List Lit) → IsSound vars marks clauses root values → IsWithin vars c → clauses' ≡ clauses ++ c ∷ [] → marks' ≡ marks ++ m ∷ [] → IsDerivation (given_of (marks ++ m ∷ []) (clauses ++ c ∷ [])) (added_of (marks ++ m ∷ []) (clauses ++ c ∷ [])) → length values' ≡ length values → length root' ≡ length root → OnlyForced clauses' root root' → IsSound vars marks' clauses' root' values'
sound_more vars m marks marks' clauses clauses' root root' values values' c sound within is mark derived same same_root forced =
    let P : List (List Lit) → Type 0 = λ cs. IsSound vars marks' cs root' values' in
    let M : List Bool → Type 0 = λ ms. IsSound vars ms (clauses ++ c ∷ []) root' values' in
    let T : List (List Lit) → Type 0 = λ cs. OnlyForced cs root root' in
    subst P (sym is) (subst M (sym mark) (record {
      marked = let a = length-append marks (m ∷ []) in let b = length-append clauses (c ∷ []) in let s = sound.marked in omega (arith, a, b, s);
      places = same ∙ sound.places;
      root_places = same_root ∙ sound.root_places;
      within = All-push (IsWithin vars) clauses c sound.within within;
      derived = derived;
      implied = implied_forced (clauses ++ c ∷ []) root root' (implied_more clauses (c ∷ []) root sound.implied) (subst T is forced);
    }))

-- one that was given
derived_given : (marks : List Bool) (clauses : List (List Lit)) (c : List Lit) → length marks ≡ length clauses → IsDerivation (given_of marks clauses) (added_of marks clauses) → IsDerivation (given_of (marks ++ true ∷ []) (clauses ++ c ∷ [])) (added_of (marks ++ true ∷ []) (clauses ++ c ∷ []))
derived_given marks clauses c e h =
    let P : List (List Lit) → Type 0 = λ g. IsDerivation g (added_of (marks ++ true ∷ []) (clauses ++ c ∷ [])) in
    let Q : List (List Lit) → Type 0 = λ a. IsDerivation (given_of marks clauses ++ c ∷ []) a in
    subst P (sym (given_of-push_true marks clauses c e)) (subst Q (sym (added_of-push_true marks clauses c e))
    (IsDerivation-among (given_of marks clauses) (given_of marks clauses ++ c ∷ []) (added_of marks clauses) (λ d h. Contains-append_left (given_of marks clauses) (c ∷ []) d h) h))

-- one that follows
derived_added : (marks : List Bool) (clauses : List (List Lit)) (c : List Lit) → length marks ≡ length clauses → IsDerivation (given_of marks clauses) (added_of marks clauses) → Follows clauses c → IsDerivation (given_of (marks ++ false ∷ []) (clauses ++ c ∷ [])) (added_of (marks ++ false ∷ []) (clauses ++ c ∷ []))
derived_added marks clauses c e h follows =
    let P : List (List Lit) → Type 0 = λ g. IsDerivation g (added_of (marks ++ false ∷ []) (clauses ++ c ∷ [])) in
    let Q : List (List Lit) → Type 0 = λ a. IsDerivation (given_of marks clauses) a in
    subst P (sym (given_of-push_false marks clauses c e)) (subst Q (sym (added_of-push_false marks clauses c e))
    (IsDerivation-push (given_of marks clauses) (added_of marks clauses) c h
    (Follows-among clauses (given_of marks clauses ++ added_of marks clauses) c (in_kept marks clauses e) follows)))

pub sound_kept : (vars : ℕ) (marks : List Bool) (clauses : List (List Lit)) (root values values' : List (Option Bool)) → IsSound vars marks clauses root values → length values' ≡ length values → IsSound vars marks clauses root values'
sound_kept vars marks clauses root values values' sound same = record {
  marked = sound.marked;
  places = same ∙ sound.places;
  root_places = sound.root_places;
  within = sound.within;
  derived = sound.derived;
  implied = sound.implied;
}

-- whether a clause follows doesn't depend on the order of the others
pub exact_for : (marks : List Bool) (seen clauses kept : List (List Lit)) (c c' : List Lit) (r : Bool) → length marks ≡ length clauses → IsTrue r ↔ Follows seen c → seen ≡ clauses → given_of marks clauses ++ added_of marks clauses ≡ kept → c ≡ c' → IsTrue r ↔ Follows kept c'
exact_for marks seen clauses kept c c' r e exact see all f =
    let P : List (List Lit) → Type 0 = λ cs. IsTrue r ↔ Follows cs c in
    let Q : List Lit → Type 0 = λ d. IsTrue r ↔ Follows kept d in
    let R : List (List Lit) → Type 0 = λ cs. IsTrue r ↔ Follows cs c in
    let all_kept : List (List Lit) = given_of marks clauses ++ added_of marks clauses in
    let now : IsTrue r ↔ Follows clauses c = subst P see exact in
    subst Q f (subst R all (
      λ t. Follows-among clauses all_kept c (in_kept marks clauses e) (now.0 t),
      λ h. now.1 (Follows-among all_kept clauses c (from_kept marks clauses) h),
    ))

pub follows_for : (clauses clauses' : List (List Lit)) (c c' : List Lit) → Follows clauses c → clauses ≡ clauses' → c ≡ c' → Follows clauses' c'
follows_for clauses clauses' c c' follows e f =
    let P : List (List Lit) → Type 0 = λ cs. Follows cs c' in
    let Q : List Lit → Type 0 = λ d. Follows clauses d in
    subst P e (subst Q f follows)

-- one that was given or follows
derived_more : (given : Bool) (marks : List Bool) (clauses : List (List Lit)) (c : List Lit) → length marks ≡ length clauses → IsDerivation (given_of marks clauses) (added_of marks clauses) → (IsFalse given → Follows clauses c) → IsDerivation (given_of (marks ++ given ∷ []) (clauses ++ c ∷ [])) (added_of (marks ++ given ∷ []) (clauses ++ c ∷ []))
derived_more true marks clauses c e h follows = derived_given marks clauses c e h
derived_more false marks clauses c e h follows = derived_added marks clauses c e h (follows refl)

-- what follows from all that is kept follows from the clauses as they stand
pub follows_here : (given : Bool) (marks : List Bool) (clauses kept : List (List Lit)) (c : List Lit) → given_of marks clauses ++ added_of marks clauses ≡ kept → (IsFalse given → Follows kept c) → IsFalse given → Follows clauses c
follows_here given marks clauses kept c all follows is =
    let P : List (List Lit) → Type 0 = λ cs. Follows cs c in
    Follows-among (given_of marks clauses ++ added_of marks clauses) clauses c (from_kept marks clauses) (subst P (sym all) (follows is))

-- the fields after one more clause
pub sound_one_more : (vars n : ℕ) (given : Bool) (marks marks' : List Bool) (clauses clauses' pushed : List (List Lit)) (root lent root' values : List (Option Bool)) (c : List Lit) → IsSound vars marks clauses root values → IsWithin vars c → (IsFalse given → Follows clauses c) → clauses' ≡ clauses ++ c ∷ [] → marks' ≡ marks ++ given ∷ [] → lent ≡ root → length root' ≡ length lent → n ≡ length root → pushed ≡ clauses' → OnlyForced pushed lent root' → IsSound vars marks' clauses' (take n (root' ++ drop (length root') root)) values
sound_one_more vars n given marks marks' clauses clauses' pushed root lent root' values c sound within follows is mark lend size_root nn push forced =
    let wrote : take n (root' ++ drop (length root') root) ≡ root' = written n root' root (size_root ∙ ap length lend) nn in
    let P : List (Option Bool) → Type 0 = λ w. IsSound vars marks' clauses' w values in
    let S : List (List Lit) → Type 0 = λ cs. OnlyForced cs lent root' in
    let T : List (Option Bool) → Type 0 = λ w. OnlyForced clauses' w root' in
    let same : length values ≡ length values = refl in
    subst P (sym wrote)
    (sound_more vars given marks marks' clauses clauses' root root' values values c sound within is mark
    (derived_more given marks clauses c sound.marked sound.derived follows) same
    (size_root ∙ ap length lend)
    (subst T lend (subst S push forced)))

-- the fields after a clause was refused
pub sound_refused : (vars m : ℕ) (marks : List Bool) (clauses : List (List Lit)) (root values copied values' : List (Option Bool)) → IsSound vars marks clauses root values → copied ≡ root → length values' ≡ length copied → m ≡ length copied → IsSound vars marks clauses root (take m (values' ++ drop (length values') copied))
sound_refused vars m marks clauses root values copied values' sound copy size_values mm =
    let wrote_values : take m (values' ++ drop (length values') copied) ≡ values' = written m values' copied size_values mm in
    let Q : List (Option Bool) → Type 0 = λ w. IsSound vars marks clauses root w in
    subst Q (sym wrote_values) (sound_kept vars marks clauses root values values' sound (size_values ∙ ap length copy ∙ sound.root_places ∙ sym sound.places))

-- the variables that are new have no value
true_before : (values : List (Option Bool)) (n : ℕ) (l : Lit) → IsTrueIn (values ++ replicate n None) l → IsTrueIn values l
true_before values n l is = elim (cases_lt l.var (length values)) [
  | inl room ↦ sym (get_or_append_left values (replicate n None) None l.var room) ∙ is
  | inr past ↦
      let none : get_or (values ++ replicate n None) l.var None ≡ None = get_or-append_right values (replicate n None) (length values) l.var None refl past ∙ unset n (l.var - length values) in
      absurd (not_open (values ++ replicate n None) l l.positive none is)
]

pub sound_grown : (vars n : ℕ) (marks : List Bool) (clauses : List (List Lit)) (root root' values values' : List (Option Bool)) → IsSound vars marks clauses root values → root' ≡ root ++ replicate n None → values' ≡ values ++ replicate n None → IsSound (vars + n) marks clauses root' values'
sound_grown vars n marks clauses root root' values values' sound e f =
    let P : List (Option Bool) → Type 0 = λ w. IsSound (vars + n) marks clauses w values' in
    let Q : List (Option Bool) → Type 0 = λ w. IsSound (vars + n) marks clauses (root ++ replicate n None) w in
    let none : Option Bool = None in
    let len : (xs : List (Option Bool)) → length xs ≡ vars → length (xs ++ replicate n none) ≡ vars + n = λ xs h. let a = length-append xs (replicate n none) in let r = length-replicate n none in omega (arith, a, r, h) in
    subst P (sym e) (subst Q (sym f) (record {
      marked = sound.marked;
      places = len values sound.places;
      root_places = len root sound.root_places;
      within = All-weaker (IsWithin vars) (IsWithin (vars + n)) (λ c h. All-weaker (λ (l : Lit). l.var < vars) (λ (l : Lit). l.var < vars + n) (λ l b. omega arith) c h) clauses sound.within;
      derived = sound.derived;
      implied = λ start l is. sound.implied start l (true_before root n l is);
    }))

-- values that meet the given clauses meet what is kept
kept_sound : (vars : ℕ) (marks : List Bool) (clauses : List (List Lit)) (root values : List (Option Bool)) (v : ℕ → Bool) → IsSound vars marks clauses root values → MeetsAll v (given_of marks clauses) → MeetsAll v clauses
kept_sound vars marks clauses root values v sound meets =
    let all : MeetsAll v (given_of marks clauses ++ added_of marks clauses) = derivation_sound (given_of marks clauses) (added_of marks clauses) v meets sound.derived in
    All-from_contains (MeetsClause v) clauses (λ c h. All-contains (MeetsClause v) (given_of marks clauses ++ added_of marks clauses) c all (in_kept marks clauses sound.marked c h))

pub implied_by_given : (vars : ℕ) (marks : List Bool) (clauses seen : List (List Lit)) (root values : List (Option Bool)) (given : List (List Lit)) (c c' : List Lit) (r : Bool) → IsSound vars marks clauses root values → IsTrue r ↔ Follows seen c' → seen ≡ clauses → c' ≡ c → given_of marks clauses ≡ given → IsTrue r → IsImplied given c
implied_by_given vars marks clauses seen root values given c c' r sound exact see same all is v meets =
    let P : List (List Lit) → Type 0 = λ g. MeetsAll v g in
    follows_sound clauses c v (kept_sound vars marks clauses root values v sound (subst P (sym all) meets)) (follows_for seen clauses c' c (exact.0 is) see same)

-- an empty clause stands at the place k
pub empty_at : (clauses : List (List Lit)) (k : ℕ) (c : List Lit) → k < length clauses → c ≡ get_or clauses k c → length c ≡ 0 → Contains clauses []
empty_at clauses k c within is none =
    let Q : List Lit → Type 0 = λ d. Contains clauses d in
    let at : Contains clauses c = (k, within, sym is) in
    subst Q (nil_from_length c none) at

no_empty : (v : ℕ → Bool) → MeetsClause v [] → ⊥
no_empty v m = omega arith

pub ended_sound : (vars : ℕ) (marks : List Bool) (clauses : List (List Lit)) (root values : List (Option Bool)) (v : ℕ → Bool) → IsSound vars marks clauses root values → Contains clauses [] → MeetsAll v (given_of marks clauses) → ⊥
ended_sound vars marks clauses root values v sound empty meets =
    no_empty v (All-contains (MeetsClause v) clauses [] (kept_sound vars marks clauses root values v sound meets) empty)

-- What a `Checked` is seen as after a call.
use Rattle.std.proofs.Common.{◌≡◌, ℕ, ◌<◌, ◌≤◌, ◌+◌, ◌-◌, ◌↔◌, Bool, true, false, List, [], ◌∷◌, ◌++◌, Option, None, length, get_or, refl, sym, ◌∙◌, ap, subst, arith, replicate, suc, zero, append_assoc, inl, inr}
use Rattle.std.specs.Prelude.{IsTrue}
use Rattle.std.specs.List.{Contains}
use Rattle.std.proofs.lemmas.List.{get_or_default}
use Rattle.std.proofs.lemmas.Bool.{cases_lt}
use Rattle.std.proofs.lemmas.List.Elements.{All-contains}
use Rattle.prop_core.specs.declared.lit.Lit.{Lit}
use Rattle.prop_core.specs.Formula.{IsWithin, AreWithin, MeetsClause, MeetsAll}
use Rattle.prop_core.proofs.Clauses.{All-from_contains}
use Rattle.prop_check.specs.Kept.{Kept, AreMerged, HasRoom, given_of, added_of}
use Rattle.prop_check.specs.Kept.AreMerged.{no_clauses, one_given, one_added}
use Rattle.prop_check.proofs.Marks.{given_of-push_true, given_of-push_false, added_of-push_true, added_of-push_false, in_kept, from_kept, Contains-from_given, at_given, given_at, mark_at, Contains-from_added}

-- what the fields are seen as
abbrev pub seen_as : ℕ → List Bool → List (List Lit) → ℕ → Kept
seen_as vars marks clauses spare = record { vars = vars; given = given_of marks clauses; added = added_of marks clauses; spare = spare }

kept_eq : (vars : ℕ) (given given' added added' : List (List Lit)) (spare spare' : ℕ) → given ≡ given' → added ≡ added' → spare ≡ spare' → (let a : Kept = record { vars = vars; given = given; added = added; spare = spare } in let b : Kept = record { vars = vars; given = given'; added = added'; spare = spare' } in a ≡ b)
kept_eq vars given given' added added' spare spare' e f g =
    let make : List (List Lit) → List (List Lit) → ℕ → Kept = λ x y z. record { vars = vars; given = x; added = y; spare = z } in
    ap (λ x. make x added spare) e ∙ ap (λ y. make given' y spare) f ∙ ap (λ z. make given' added' z) g

-- the view after one more clause
pub added_view : (vars : ℕ) (given : Bool) (marks marks' : List Bool) (clauses clauses' : List (List Lit)) (spare spare' : ℕ) (k : Kept) (c : List Lit) → seen_as vars marks clauses spare ≡ k → length marks ≡ length clauses → clauses' ≡ clauses ++ c ∷ [] → marks' ≡ marks ++ given ∷ [] → given ≡ false → spare' ≡ spare - 1 → seen_as vars marks' clauses' spare' ≡ record k { added = k.added ++ c ∷ []; spare = k.spare - 1 }
added_view vars given marks marks' clauses clauses' spare spare' k c is same e f taken less =
    let P : Kept → Type 0 = λ x. seen_as vars marks' clauses' spare' ≡ record x { added = x.added ++ c ∷ []; spare = x.spare - 1 } in
    let m : marks' ≡ marks ++ false ∷ [] = f ∙ ap (λ g. marks ++ g ∷ []) taken in
    subst P is (kept_eq vars (given_of marks' clauses') (given_of marks clauses) (added_of marks' clauses') (added_of marks clauses ++ c ∷ []) spare' (spare - 1)
    (ap (λ ms. given_of ms clauses') m ∙ ap (λ cs. given_of (marks ++ false ∷ []) cs) e ∙ given_of-push_false marks clauses c same)
    (ap (λ ms. added_of ms clauses') m ∙ ap (λ cs. added_of (marks ++ false ∷ []) cs) e ∙ added_of-push_false marks clauses c same)
    less)

pub given_view : (vars : ℕ) (given : Bool) (marks marks' : List Bool) (clauses clauses' : List (List Lit)) (spare spare' : ℕ) (k : Kept) (c : List Lit) → seen_as vars marks clauses spare ≡ k → length marks ≡ length clauses → clauses' ≡ clauses ++ c ∷ [] → marks' ≡ marks ++ given ∷ [] → given ≡ true → spare' ≡ spare - 1 → seen_as vars marks' clauses' spare' ≡ record k { given = k.given ++ c ∷ []; spare = k.spare - 1 }
given_view vars given marks marks' clauses clauses' spare spare' k c is same e f taken less =
    let P : Kept → Type 0 = λ x. seen_as vars marks' clauses' spare' ≡ record x { given = x.given ++ c ∷ []; spare = x.spare - 1 } in
    let m : marks' ≡ marks ++ true ∷ [] = f ∙ ap (λ g. marks ++ g ∷ []) taken in
    subst P is (kept_eq vars (given_of marks' clauses') (given_of marks clauses ++ c ∷ []) (added_of marks' clauses') (added_of marks clauses) spare' (spare - 1)
    (ap (λ ms. given_of ms clauses') m ∙ ap (λ cs. given_of (marks ++ true ∷ []) cs) e ∙ given_of-push_true marks clauses c same)
    (ap (λ ms. added_of ms clauses') m ∙ ap (λ cs. added_of (marks ++ true ∷ []) cs) e ∙ added_of-push_true marks clauses c same)
    less)

-- the room after one more clause
pub room_less : (room room' cap len mcap mlen cap' len' mcap' mlen' : ℕ) → HasRoom room (cap - len) (mcap - mlen) → room' ≡ room - 1 → cap' ≡ cap → len' ≡ len + 1 → mcap' ≡ mcap → mlen' ≡ mlen + 1 → HasRoom room' (cap' - len') (mcap' - mlen')
room_less room room' cap len mcap mlen cap' len' mcap' mlen' has less a b c d =
    let x = has.clauses in let y = has.marks in record { clauses = omega (arith, x, less, a, b); marks = omega (arith, y, less, c, d) }

-- the clauses in the order in which they came
pub merged : (marks : List Bool) (clauses : List (List Lit)) → length marks ≡ length clauses → AreMerged (given_of marks clauses) (added_of marks clauses) clauses
merged [] [] e = no_clauses
merged [] (c ∷ clauses) e = absurd (omega arith)
merged (m ∷ marks) [] e = absurd (omega arith)
merged (true ∷ marks) (c ∷ clauses) e = one_given c (merged marks clauses (omega arith))
merged (false ∷ marks) (c ∷ clauses) e = one_added c (merged marks clauses (omega arith))

pub merged_for : (vars spare : ℕ) (marks : List Bool) (clauses seen : List (List Lit)) (k : Kept) → length marks ≡ length clauses → seen ≡ clauses → seen_as vars marks clauses spare ≡ k → AreMerged k.given k.added seen
merged_for vars spare marks clauses seen k same see is =
    let P : List (List Lit) → Type 0 = λ cs. AreMerged k.given k.added cs in
    let Q : Kept → Type 0 = λ x. AreMerged x.given x.added clauses in
    subst P (sym see) (subst Q is (merged marks clauses same))

-- the clauses in the order in which they came, and what is kept
pub same_clauses : (marks : List Bool) (seen clauses kept : List (List Lit)) → length marks ≡ length clauses → seen ≡ clauses → given_of marks clauses ++ added_of marks clauses ≡ kept → (c : List Lit) → Contains seen c ↔ Contains kept c
same_clauses marks seen clauses kept same see all c =
    let P : List (List Lit) → Type 0 = λ cs. Contains cs c ↔ Contains kept c in
    let Q : List (List Lit) → Type 0 = λ cs. Contains clauses c ↔ Contains cs c in
    subst P (sym see) (subst Q all (in_kept marks clauses same c, from_kept marks clauses c))

pub none_kept : (marks : List Bool) (seen clauses kept : List (List Lit)) (n : ℕ) → length marks ≡ length clauses → seen ≡ clauses → given_of marks clauses ++ added_of marks clauses ≡ kept → length seen ≤ n → ((k : ℕ) → k < n → get_or seen k [] ≡ [] → ⊥) → Contains kept [] → ⊥
none_kept marks seen clauses kept n same see all past none h =
    let at : Contains seen [] = (same_clauses marks seen clauses kept same see all []).1 h in
    let l = at.1 in
    none at.0 (omega (arith, l, past)) at.2

pub within_given : (vars : ℕ) (marks : List Bool) (clauses given : List (List Lit)) → AreWithin vars clauses → given_of marks clauses ≡ given → AreWithin vars given
within_given vars marks clauses given within all =
    let P : List (List Lit) → Type 0 = λ cs. AreWithin vars cs in
    subst P all (All-from_contains (IsWithin vars) (given_of marks clauses) (λ c h. All-contains (IsWithin vars) clauses c within (Contains-from_given marks clauses c h)))

-- each given clause is met
pub all_met : (v : ℕ → Bool) (marks : List Bool) (seen clauses given : List (List Lit)) (n : ℕ) → seen ≡ clauses → length seen ≤ n → given_of marks clauses ≡ given → ((k : ℕ) → k < n → IsTrue (get_or marks k false) → MeetsClause v (get_or seen k [])) → MeetsAll v given
all_met v marks seen clauses given n see past all met =
    let P : List (List Lit) → Type 0 = λ cs. MeetsAll v cs in
    let Q : List (List Lit) → Type 0 = λ cs. (k : ℕ) → k < length cs → IsTrue (get_or marks k false) → MeetsClause v (get_or cs k []) in
    let now = subst Q see (λ k l is. met k (omega (arith, l, past)) is) in
    subst P all (All-from_contains (MeetsClause v) (given_of marks clauses) (λ c h.
    let p = at_given marks clauses c h in
    let R : List Lit → Type 0 = λ x. MeetsClause v x in
    subst R (get_or_default clauses p.0 [] c p.1 ∙ p.3) (now p.0 p.1 p.2)))

-- one given clause isn't
pub not_met : (v : ℕ → Bool) (marks : List Bool) (seen clauses given : List (List Lit)) (k : ℕ) (c : List Lit) (m : Bool) → length marks ≡ length clauses → seen ≡ clauses → k < length seen → c ≡ get_or seen k c → m ≡ get_or marks k m → given_of marks clauses ≡ given → ((IsTrue m → MeetsClause v c) → ⊥) → MeetsAll v given → ⊥
not_met v marks seen clauses given k c m same see within at mark all never meets =
    let P : List (List Lit) → Type 0 = λ cs. MeetsAll v cs in
    let Q : List (List Lit) → Type 0 = λ cs. (k < length cs) × (c ≡ get_or cs k c) in
    let now = subst Q see (within, at) in
    let l = now.0 in
    never (λ is. All-contains (MeetsClause v) (given_of marks clauses) c (subst P (sym all) meets) (given_at marks clauses k c l (mark_at marks k m (omega (arith, l, same)) mark ∙ is) (sym now.1)))

-- one more clause is met, if it was given
pub met_more : (v : ℕ → Bool) (marks : List Bool) (seen clauses : List (List Lit)) (i : ℕ) (c : List Lit) (m : Bool) → length marks ≡ length clauses → seen ≡ clauses → i < length seen → c ≡ get_or seen i c → m ≡ get_or marks i m → (IsTrue m → MeetsClause v c) → ((k : ℕ) → k < i → IsTrue (get_or marks k false) → MeetsClause v (get_or seen k [])) → (k : ℕ) → k < i + 1 → IsTrue (get_or marks k false) → MeetsClause v (get_or seen k [])
met_more v marks seen clauses i c m same see within at mark met before k below is = elim (cases_lt k i) [
  | inl l ↦ before k l is
  | inr g ↦
      let e : k ≡ i = omega (arith, below, g) in
      let R : List Lit → Type 0 = λ x. MeetsClause v x in
      let len : length seen ≡ length clauses = ap length see in
      let now : IsTrue m = sym (mark_at marks i m (omega (arith, same, len, within)) mark) ∙ ap (λ n. get_or marks n false) (sym e) ∙ is in
      subst R (at ∙ get_or_default seen i c [] within ∙ ap (λ n. get_or seen n []) (sym e)) (met now)
]

pub within_added : (vars vars' : ℕ) (marks : List Bool) (clauses result : List (List Lit)) → AreWithin vars clauses → result ≡ added_of marks clauses → vars ≡ vars' → AreWithin vars' result
within_added vars vars' marks clauses result within is same =
    let P : List (List Lit) → Type 0 = λ cs. AreWithin vars' cs in
    let Q : ℕ → Type 0 = λ n. AreWithin n (added_of marks clauses) in
    subst P (sym is) (subst Q same (All-from_contains (IsWithin vars) (added_of marks clauses) (λ c h. All-contains (IsWithin vars) clauses c within (Contains-from_added marks clauses c h))))

pub within_for : (vars vars' : ℕ) (given : List (List Lit)) → AreWithin vars given → vars ≡ vars' → AreWithin vars' given
within_for vars vars' given within same = let Q : ℕ → Type 0 = λ n. AreWithin n given in subst Q same within

pub replicate_push : (n : ℕ) → (let none : Option Bool = None in replicate n none ++ none ∷ [] ≡ replicate (n + 1) none)
replicate_push n = go n ∙ (let e : suc n ≡ n + 1 = omega arith in let none : Option Bool = None in ap (λ m. replicate m none) e)
  where
    go : (n : ℕ) → (let none : Option Bool = None in replicate n none ++ none ∷ [] ≡ replicate (suc n) none)
    go zero = refl
    go (suc n) = let none : Option Bool = None in ap (λ r. none ∷ r) (go n)

pub open_push : (values values' before : List (Option Bool)) (n : ℕ) → values ≡ before ++ replicate n None → values' ≡ values ++ None ∷ [] → values' ≡ before ++ replicate (n + 1) None
open_push values values' before n e f =
    let none : Option Bool = None in
    f ∙ ap (λ xs. xs ++ none ∷ []) e ∙ append_assoc before (replicate n none) (none ∷ []) ∙ ap (λ r. before ++ r) (replicate_push n)

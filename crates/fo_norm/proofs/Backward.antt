-- With tables in range, what the Skolem form says holds of the formula.
use Rattle.std.proofs.Common.{◌≡◌, ℕ, zero, suc, Bool, true, false, not, ◌+◌, ◌<◌, ◌≤◌, ◌⊎◌, inl, inr, List, [], ◌∷◌, ◌++◌, length, map, refl, sym, ap, subst, ◌∙◌, arith, length-append}
use Rattle.std.specs.List.{All, Any, AllZip}
use Rattle.std.specs.Prelude.{slice_index, ⊤}
use Rattle.std.proofs.lemmas.List.Elements.{All-push, All-head, All-tail, AllZip-push, length_all_zip}
use Rattle.fo_core.specs.declared.signature.Sig.{Sig}
use Rattle.fo_core.specs.declared.signature.Symbol.{Symbol}
use Rattle.fo_core.specs.declared.formula.Formula.{Formula, True, False, Rel, Eq, Not', And', Or', All', Ex', Row_of-Formula, end_of-Formula, more_of-Formula}
use Rattle.fo_core.specs.Tables.{symbol_at}
use Rattle.fo_core.specs.Sorted.{IsFormula, AreFormulas}
use Rattle.fo_core.specs.Truth.{value_in, TruthIn, EachTrueIn, SomeTrueIn}
use Rattle.fo_norm.specs.declared.scope.Slot.{Slot}
use Rattle.fo_norm.specs.declared.scope.Slot.TheVariants.{Level, Skolem}
use Rattle.fo_core.specs.Skolems.{skolem_symbols, skolem_symbols_row}
use Rattle.fo_norm.specs.Skolem.{literal, joined, formed, formed_row, filled}
use Rattle.fo_norm.proofs.InRows.{in-Not, in-All, in-And, in-Or}
use Rattle.fo_norm.proofs.Readings.{Agree, IsSlot, slots-more, vector, vector-Level, vector-Skolem, filled-value, filled-list}

-- a fact or its negation
abbrev pub Holds : Bool → Type 0 → Type 0
Holds true P = P
Holds false P = ¬ P

pub holds_not : (b : Bool) (P : Type 0) → Holds (not b) P → Holds b (¬ P)
holds_not true P h = h
holds_not false P h = λ n. n h

pub holds_along : (b : Bool) {P Q : Type 0} → (P → Q) → (Q → P) → Holds b P → Holds b Q
holds_along true there back h = there h
holds_along false there back h = λ q. h (back q)

-- each, or some, of a list
abbrev pub Joint : Bool → (Formula → Type 0) → List Formula → Type 0
Joint true P fs = All P fs
Joint false P fs = Any P fs

pub record Under (next : ℕ) (slots : List Slot) (rs ss : List ℕ) : Type 0 where
  pub slotted : length ss ≡ length slots
  pub are : All (IsSlot next (length rs)) slots

pub under-more : (a b : ℕ) (slots : List Slot) (rs ss : List ℕ) → a ≤ b → Under a slots rs ss → Under b slots rs ss
under-more a b slots rs ss le u = record { slotted = u.slotted; are = slots-more a b (length rs) (length rs) le (omega arith) slots u.are }

pub under-Level : (next : ℕ) (slots : List Slot) (rs ss : List ℕ) (s : ℕ) → Under next slots rs ss → Under next (slots ++ Level (length rs) ∷ []) (rs ++ s ∷ []) (ss ++ s ∷ [])
under-Level next slots rs ss s u = record {
  slotted = omega (arith, u.slotted, length-append ss (s ∷ []), length-append slots (Level (length rs) ∷ []));
  are = let grown = length-append rs (s ∷ []) in
      All-push (IsSlot next (length (rs ++ s ∷ []))) slots (Level (length rs)) (slots-more next next (length rs) (length (rs ++ s ∷ [])) (omega arith) (omega arith) slots u.are) (omega arith);
}

pub under-Skolem : (next : ℕ) (slots : List Slot) (rs ss : List ℕ) (s : ℕ) → Under next slots rs ss → Under (next + 1) (slots ++ Skolem next (length rs) ∷ []) rs (ss ++ s ∷ [])
under-Skolem next slots rs ss s u = record {
  slotted = omega (arith, u.slotted, length-append ss (s ∷ []), length-append slots (Skolem next (length rs) ∷ []));
  are = All-push (IsSlot (next + 1) (length rs)) slots (Skolem next (length rs)) (slots-more next (next + 1) (length rs) (length rs) (omega arith) (omega arith) slots u.are) (omega arith, omega arith);
}

-- each symbol, numbered from next on, gives elements of its sort
abbrev pub InRange : List ℕ → (ℕ → ℕ → List ℕ → ℕ) → ℕ → List Symbol → Type 0
InRange sizes J next [] = ⊤
InRange sizes J next (s ∷ rest) = ((xs : List ℕ) → AllZip (λ x s. x < slice_index sizes s) xs s.args → J 0 next xs < slice_index sizes s.result) × InRange sizes J (next + 1) rest

pub range-split : (sizes : List ℕ) (J : ℕ → ℕ → List ℕ → ℕ) (next : ℕ) (ps qs : List Symbol) → InRange sizes J next (ps ++ qs) → InRange sizes J next ps × InRange sizes J (next + length ps) qs
range-split sizes J next [] qs h = (tt, let e : next ≡ next + 0 = omega arith in subst (λ n. InRange sizes J n qs) e h)
range-split sizes J next (p ∷ ps) qs h =
    let r = range-split sizes J (next + 1) ps qs h.1 in
    ((h.0, r.0), let e : (next + 1) + length ps ≡ next + suc (length ps) = omega arith in subst (λ n. InRange sizes J n qs) e r.1)

module _ (sizes : List ℕ) (J : ℕ → ℕ → List ℕ → ℕ) (us : List ℕ) where
  pub literal_from : (b : Bool) (g : Formula) → TruthIn sizes J (literal b g) us → Holds b (TruthIn sizes J g us)
  literal_from true g h = h
  literal_from false g h = subst (λ (A : Type 0). A) (in-Not sizes J g us) h

  pub literal_to : (b : Bool) (g : Formula) → Holds b (TruthIn sizes J g us) → TruthIn sizes J (literal b g) us
  literal_to true g h = h
  literal_to false g h = subst (λ (A : Type 0). A) (sym (in-Not sizes J g us)) h

  pub joined_from : (b : Bool) (gs : List Formula) → TruthIn sizes J (joined b gs) us → Joint b (λ g. TruthIn sizes J g us) gs
  joined_from true gs h = (in-And sizes J gs us).0 h
  joined_from false gs h = (in-Or sizes J gs us).0 h

  pub joined_to : (b : Bool) (gs : List Formula) → Joint b (λ g. TruthIn sizes J g us) gs → TruthIn sizes J (joined b gs) us
  joined_to true gs h = (in-And sizes J gs us).1 h
  joined_to false gs h = (in-Or sizes J gs us).1 h

module _ (sizes : List ℕ) (I : ℕ → ℕ → List ℕ → ℕ) (vs : List ℕ) where
  -- each, or some, of the formulas of a row holds, or its negation does
  abbrev pub AllHold : {n : _} → Bool → Row_of-Formula n → Type 0
  AllHold b end_of-Formula = ⊤
  AllHold b (more_of-Formula f rest) = Holds b (TruthIn sizes I f vs) × AllHold b rest

  abbrev pub SomeHold : {n : _} → Bool → Row_of-Formula n → Type 0
  SomeHold b end_of-Formula = ⊥
  SomeHold b (more_of-Formula f rest) = Holds b (TruthIn sizes I f vs) ⊎ SomeHold b rest

  pub all-true : {n : _} (row : Row_of-Formula n) → AllHold true row → EachTrueIn sizes I row vs
  all-true end_of-Formula h = tt
  all-true (more_of-Formula f rest) h = (h.0, all-true rest h.1)

  pub all-false : {n : _} (row : Row_of-Formula n) → AllHold false row → ¬ SomeTrueIn sizes I row vs
  all-false end_of-Formula h = λ s. s
  all-false (more_of-Formula f rest) h = neither h.0 (all-false rest h.1)
    where
      neither : (¬ TruthIn sizes I f vs) → (¬ SomeTrueIn sizes I rest vs) → TruthIn sizes I f vs ⊎ SomeTrueIn sizes I rest vs → ⊥
      neither p q (inl x) = p x
      neither p q (inr y) = q y

  pub some-true : {n : _} (row : Row_of-Formula n) → SomeHold true row → SomeTrueIn sizes I row vs
  some-true end_of-Formula h = h
  some-true (more_of-Formula f rest) (inl h) = inl h
  some-true (more_of-Formula f rest) (inr h) = inr (some-true rest h)

  pub some-false : {n : _} (row : Row_of-Formula n) → SomeHold false row → ¬ EachTrueIn sizes I row vs
  some-false end_of-Formula h = absurd h
  some-false (more_of-Formula f rest) (inl h) = λ e. h e.0
  some-false (more_of-Formula f rest) (inr h) = λ e. some-false rest h e.1

  pub and_from : {n : _} (b : Bool) (row : Row_of-Formula n) (P : Formula → Type 0) (gs : List Formula) → (All P gs → AllHold b row) → (Any P gs → SomeHold b row) → Joint b P gs → Holds b (EachTrueIn sizes I row vs)
  and_from true row P gs all some h = all-true row (all h)
  and_from false row P gs all some h = some-false row (some h)

  pub or_from : {n : _} (b : Bool) (row : Row_of-Formula n) (P : Formula → Type 0) (gs : List Formula) → (All P gs → AllHold b row) → (Any P gs → SomeHold b row) → Joint (not b) P gs → Holds b (SomeTrueIn sizes I row vs)
  or_from true row P gs all some h = some-true row (some h)
  or_from false row P gs all some h = all-false row (all h)

module _ (sig : Sig) (copies : ℕ) (sizes : List ℕ) (I J : ℕ → ℕ → List ℕ → ℕ) (agree : Agree (length sig.symbols) I J) where
  abbrev Elements : List ℕ → List ℕ → Type 0
  Elements us rs = AllZip (λ x s. x < slice_index sizes s) us rs

  elements-length : (us rs : List ℕ) → Elements us rs → length us ≡ length rs
  elements-length us rs h = length_all_zip (λ x s. x < slice_index sizes s) us rs h

  slots-for : (next : ℕ) (slots : List Slot) (us rs ss : List ℕ) → Elements us rs → Under next slots rs ss → All (IsSlot next (length us)) slots
  slots-for next slots us rs ss e u = subst (λ n. All (IsSlot next n) slots) (sym (elements-length us rs e)) u.are

  -- an atom says the same before and after
  pub rel_same : (r d : ℕ) (args : List _) (slots : List Slot) (rs ss us : List ℕ) (next : ℕ) → IsFormula sig copies (Rel r d args) ss → Under next slots rs ss → Elements us rs →
      J d r (map (λ t. value_in J t us) (map (filled slots) args)) ≡ I d r (map (λ t. value_in I t (vector J us slots)) args)
  rel_same r d args slots rs ss us next is u e =
      ap (J d r) (filled-list sig copies I J agree slots us next (slots-for next slots us rs ss e u) ss u.slotted args (symbol_at sig r).args is.1) ∙ sym (agree.same d r _ is.0.within)

  at_Level : (b : Bool) (f : Formula) (slots : List Slot) (rs ss us : List ℕ) (next x : ℕ) → Under next slots rs ss → Elements us rs →
      Holds b (TruthIn sizes I f (vector J (us ++ x ∷ []) (slots ++ Level (length rs) ∷ []))) → Holds b (TruthIn sizes I f (vector J us slots ++ x ∷ []))
  at_Level b f slots rs ss us next x u e h =
      subst (λ vs. Holds b (TruthIn sizes I f vs)) (vector-Level next (length rs) J us x slots (elements-length us rs e) (subst (λ n. All (IsSlot next n) slots) refl u.are)) h

  at_Skolem : (b : Bool) (f : Formula) (slots : List Slot) (rs us : List ℕ) (next : ℕ) → Elements us rs →
      Holds b (TruthIn sizes I f (vector J us (slots ++ Skolem next (length rs) ∷ []))) → Holds b (TruthIn sizes I f (vector J us slots ++ J 0 next us ∷ []))
  at_Skolem b f slots rs us next e h =
      subst (λ vs. Holds b (TruthIn sizes I f vs)) (vector-Skolem next (length rs) J us slots (elements-length us rs e)) h

  mutual
    pub sound : (b : Bool) (f : Formula) (slots : List Slot) (rs ss us : List ℕ) (next : ℕ) → IsFormula sig copies f ss → Under next slots rs ss → Elements us rs → InRange sizes J next (skolem_symbols b f rs) →
        TruthIn sizes J (formed b f slots rs next) us → Holds b (TruthIn sizes I f (vector J us slots))
    sound true True slots rs ss us next is u e r h = tt
    sound false True slots rs ss us next is u e r h = absurd h
    sound true False slots rs ss us next is u e r h = h
    sound false False slots rs ss us next is u e r h = λ x. x
    sound b (Rel p d args) slots rs ss us next is u e r h =
        let same = rel_same p d args slots rs ss us next is u e in
        holds_along b (λ x. sym same ∙ x) (λ x. same ∙ x) (literal_from sizes J us b (Rel p d (map (filled slots) args)) h)
    sound b (Eq x y) slots rs ss us next is u e r h =
        let left = filled-value sig copies I J agree slots us next (slots-for next slots us rs ss e u) ss u.slotted x is.0 is.1 in
        let right = filled-value sig copies I J agree slots us next (slots-for next slots us rs ss e u) ss u.slotted y is.0 is.2 in
        holds_along b (λ p. sym left ∙ p ∙ right) (λ p. left ∙ p ∙ sym right) (literal_from sizes J us b (Eq (filled slots x) (filled slots y)) h)
    sound b (Not' _ (more_of-Formula f _)) slots rs ss us next is u e r h = holds_not b (TruthIn sizes I f (vector J us slots)) (sound (not b) f slots rs ss us next is u e r h)
    sound b (And' _ row) slots rs ss us next is u e r h =
        and_from sizes I (vector J us slots) b row (λ g. TruthIn sizes J g us) (formed_row b row slots rs next) (all_sound b row slots rs ss us next is u e r) (any_sound b row slots rs ss us next is u e r)
        (joined_from sizes J us b (formed_row b row slots rs next) h)
    sound b (Or' _ row) slots rs ss us next is u e r h =
        or_from sizes I (vector J us slots) b row (λ g. TruthIn sizes J g us) (formed_row b row slots rs next) (all_sound b row slots rs ss us next is u e r) (any_sound b row slots rs ss us next is u e r)
        (joined_from sizes J us (not b) (formed_row b row slots rs next) h)
    sound true (All' s _ (more_of-Formula f _)) slots rs ss us next is u e r h =
        let body = formed true f (slots ++ Level (length rs) ∷ []) (rs ++ s ∷ []) next in
        let all = subst (λ (A : Type 0). A) (in-All sizes J s body us) h in
        λ x lt. at_Level true f slots rs ss us next x u e
        (sound true f (slots ++ Level (length rs) ∷ []) (rs ++ s ∷ []) (ss ++ s ∷ []) (us ++ x ∷ []) next is.1 (under-Level next slots rs ss s u) (AllZip-push (λ x s. x < slice_index sizes s) us rs x s e lt) r (all x lt))
    sound false (All' s _ (more_of-Formula f _)) slots rs ss us next is u e r h =
        λ all. at_Skolem false f slots rs us next e
        (sound false f (slots ++ Skolem next (length rs) ∷ []) rs (ss ++ s ∷ []) us (next + 1) is.1 (under-Skolem next slots rs ss s u) e r.1 h) (all (J 0 next us) (r.0 us e))
    sound true (Ex' s _ (more_of-Formula f _)) slots rs ss us next is u e r h = (
      J 0 next us,
      r.0 us e,
      at_Skolem true f slots rs us next e (sound true f (slots ++ Skolem next (length rs) ∷ []) rs (ss ++ s ∷ []) us (next + 1) is.1 (under-Skolem next slots rs ss s u) e r.1 h),
    )
    sound false (Ex' s _ (more_of-Formula f _)) slots rs ss us next is u e r h =
        let body = formed false f (slots ++ Level (length rs) ∷ []) (rs ++ s ∷ []) next in
        let all = subst (λ (A : Type 0). A) (in-All sizes J s body us) h in
        λ p. at_Level false f slots rs ss us next p.0 u e
        (sound false f (slots ++ Level (length rs) ∷ []) (rs ++ s ∷ []) (ss ++ s ∷ []) (us ++ p.0 ∷ []) next is.1 (under-Level next slots rs ss s u) (AllZip-push (λ x s. x < slice_index sizes s) us rs p.0 s e p.1) r (all p.0 p.1)) p.2

    all_sound : {n : _} (b : Bool) (row : Row_of-Formula n) (slots : List Slot) (rs ss us : List ℕ) (next : ℕ) → AreFormulas sig copies row ss → Under next slots rs ss → Elements us rs → InRange sizes J next (skolem_symbols_row b row rs) →
        All (λ g. TruthIn sizes J g us) (formed_row b row slots rs next) → AllHold sizes I (vector J us slots) b row
    all_sound b end_of-Formula slots rs ss us next is u e r h = tt
    all_sound b (more_of-Formula f rest) slots rs ss us next is u e r h =
        let parts = range-split sizes J next (skolem_symbols b f rs) (skolem_symbols_row b rest rs) r in
        let later = next + length (skolem_symbols b f rs) in
        let P : Formula → Type 0 = λ g. TruthIn sizes J g us in (
          sound b f slots rs ss us next is.0 u e parts.0 (All-head P (formed b f slots rs next) (formed_row b rest slots rs later) h),
          all_sound b rest slots rs ss us later is.1 (under-more next later slots rs ss (omega arith) u) e parts.1 (All-tail P (formed b f slots rs next) (formed_row b rest slots rs later) h),
        )

    any_sound : {n : _} (b : Bool) (row : Row_of-Formula n) (slots : List Slot) (rs ss us : List ℕ) (next : ℕ) → AreFormulas sig copies row ss → Under next slots rs ss → Elements us rs → InRange sizes J next (skolem_symbols_row b row rs) →
        Any (λ g. TruthIn sizes J g us) (formed_row b row slots rs next) → SomeHold sizes I (vector J us slots) b row
    any_sound b end_of-Formula slots rs ss us next is u e r (k, g, lt, same, h) = absurd (omega arith)
    any_sound b (more_of-Formula f rest) slots rs ss us next is u e r (zero, g, lt, same, h) =
        let parts = range-split sizes J next (skolem_symbols b f rs) (skolem_symbols_row b rest rs) r in
        inl (sound b f slots rs ss us next is.0 u e parts.0 (subst (λ g. TruthIn sizes J g us) (sym same) h))
    any_sound b (more_of-Formula f rest) slots rs ss us next is u e r (suc k, g, lt, same, h) =
        let parts = range-split sizes J next (skolem_symbols b f rs) (skolem_symbols_row b rest rs) r in
        let later = next + length (skolem_symbols b f rs) in
        inr (any_sound b rest slots rs ss us later is.1 (under-more next later slots rs ss (omega arith) u) e parts.1 (k, g, omega arith, same, h))

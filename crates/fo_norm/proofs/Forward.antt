-- Where the formula holds, tables for the Skolem symbols exist with which its Skolem form holds.
use Rattle.std.proofs.Common.{◌≡◌, ℕ, suc, Bool, true, false, not, cond, ◌+◌, ◌<◌, ◌≤◌, ◌⊎◌, inl, inr, List, [], ◌∷◌, ◌++◌, length, map, refl, sym, ap, subst, ◌∙◌, arith, length-append}
use Rattle.std.specs.List.{All, Any, AllZip}
use Rattle.std.specs.Prelude.{slice_index, ⊤, eqb}
use Rattle.std.proofs.lemmas.Bool.{eq-eqb, ne_eqb}
use Rattle.std.proofs.lemmas.List.Elements.{All-nil, All-cons, AllZip-push, length_all_zip}
use mathlib.Core.Former.{Count}
use Rattle.fo_core.specs.declared.signature.Sig.{Sig}
use Rattle.fo_core.specs.declared.signature.Symbol.{Symbol}
use Rattle.fo_core.specs.declared.formula.Formula.{Formula, True, False, Rel, Eq, Not', And', Or', All', Ex', Row_of-Formula, end_of-Formula, more_of-Formula}
use Rattle.fo_core.specs.declared.formula.Formula.TheVariants as F
use Rattle.fo_core.specs.declared.world.Table.{Table}
use Rattle.fo_core.specs.declared.world.World.{World}
use Rattle.fo_core.specs.Tables.{place, arg_sizes, IsTable, Fits}
use Rattle.fo_core.specs.Sorted.{IsFormula, AreFormulas}
use Rattle.fo_core.specs.Truth.{TruthIn, EachTrueIn, SomeTrueIn, reading}
use Rattle.fo_core.proofs.Decided.{tell, each_below}
use Rattle.fo_norm.specs.declared.scope.Slot.{Slot}
use Rattle.fo_norm.specs.declared.scope.Slot.TheVariants.{Level, Skolem}
use Rattle.fo_core.specs.Skolems.{skolem, skolem_symbols, skolem_symbols_row}
use Rattle.fo_norm.specs.Skolem.{literal, formed, formed_row, filled}
use Rattle.fo_norm.proofs.InRows.{in-All, any_first, any_later}
use Rattle.fo_norm.proofs.Choices.{pick, pick-lt, pick-fits, listed, listed-length, listed-at, listed-lt}
use Rattle.fo_norm.proofs.Readings.{Agree, agree-itself, agree-less, agree-along, IsSlot, vector, vector-agree, vector-Level, vector-Skolem, filled-value}
use Rattle.fo_norm.proofs.Backward.{Holds, holds_along, Joint, Under, under-more, under-Level, under-Skolem, literal_to, joined_to, AllHold, SomeHold, rel_same}

-- the reading with this function for the symbol k
pub put : ℕ → (List ℕ → ℕ) → (ℕ → ℕ → List ℕ → ℕ) → ℕ → ℕ → List ℕ → ℕ
put k g I d j xs = cond (eqb j k) (g xs) (I d j xs)

put-same : (k : ℕ) (g : List ℕ → ℕ) (I : ℕ → ℕ → List ℕ → ℕ) (d : ℕ) (xs : List ℕ) → put k g I d k xs ≡ g xs
unfolding put
put-same k g I d xs = ap (λ b. cond b (g xs) (I d k xs)) (eq-eqb k k refl)

put-other : (k : ℕ) (g : List ℕ → ℕ) (I : ℕ → ℕ → List ℕ → ℕ) → Agree k I (put k g I)
unfolding put
put-other k g I = record { same = λ d j xs lt. sym (ap (λ b. cond b (g xs) (I d j xs)) (ne_eqb j k (λ e. omega arith))) }

-- the symbols, numbered from next on, have tables of which J is the reading
abbrev pub Tabled : World → (ℕ → ℕ → List ℕ → ℕ) → ℕ → List Symbol → Type 0
Tabled w J next [] = ⊤
Tabled w J next (s ∷ rest) =
    ((t : Table) × IsTable w.sizes s t × ((d : ℕ) (xs : List ℕ) → J d next xs ≡ slice_index t.values (place (arg_sizes w.sizes s) xs))) × Tabled w J (next + 1) rest

pub tabled-agree : (w : World) (I J : ℕ → ℕ → List ℕ → ℕ) (next : ℕ) (ss : List Symbol) → Agree (next + length ss) I J → Tabled w I next ss → Tabled w J next ss
tabled-agree w I J next [] a h = tt
tabled-agree w I J next (s ∷ rest) a h = (
  (h.0.0, h.0.1, λ d xs. sym (a.same d next xs (omega arith)) ∙ h.0.2 d xs),
  tabled-agree w I J (next + 1) rest (agree-less (next + 1 + length rest) (next + suc (length rest)) I J (omega arith) a) h.1,
)

pub tabled-join : (w : World) (J : ℕ → ℕ → List ℕ → ℕ) (next : ℕ) (ps qs : List Symbol) → Tabled w J next ps → Tabled w J (next + length ps) qs → Tabled w J next (ps ++ qs)
tabled-join w J next [] qs h k = let e : next + 0 ≡ next = omega arith in subst (λ n. Tabled w J n qs) e k
tabled-join w J next (p ∷ ps) qs h k =
    (h.0, tabled-join w J (next + 1) ps qs h.1 (let e : next + suc (length ps) ≡ next + 1 + length ps = omega arith in subst (λ n. Tabled w J n qs) e k))

twice : (P : Type 0) → P ⊎ (¬ P) → ¬ (¬ P) → P
twice P (inl h) n = h
twice P (inr h) n = absurd (n h)

not_holds : (b : Bool) (P : Type 0) → P ⊎ (¬ P) → Holds b (¬ P) → Holds (not b) P
not_holds true P tells h = h
not_holds false P tells h = twice P tells h

tell_holds : (b : Bool) (P : Type 0) → P ⊎ (¬ P) → Holds b P ⊎ (¬ Holds b P)
tell_holds true P h = h
tell_holds false P (inl h) = inr (λ n. n h)
tell_holds false P (inr h) = inl h

module _ (sig : Sig) (w : World) (copies : ℕ) (fits : Fits sig w) where
  abbrev pub I : ℕ → ℕ → List ℕ → ℕ
  I = reading sig w 0

  abbrev pub T : Formula → List ℕ → Type 0
  T = TruthIn w.sizes I

  abbrev pub Us : List ℕ → List ℕ → Type 0
  Us us rs = AllZip (λ x s. x < slice_index w.sizes s) us rs

  -- from the reading K of the symbols below next
  pub record Outcome (K : ℕ → ℕ → List ℕ → ℕ) (next : ℕ) (new : List Symbol) (rs : List ℕ) (Before : List ℕ → Type 0) (After : (ℕ → ℕ → List ℕ → ℕ) → List ℕ → Type 0) : Type 0 where
    pub made : ℕ → ℕ → List ℕ → ℕ
    pub kept : Agree next K made
    pub tables : Tabled w made next new
    pub holds : (J : ℕ → ℕ → List ℕ → ℕ) → Agree (next + length new) made J → (us : List ℕ) → Us us rs → Before us → After J us

  -- nothing new
  plain : (K : ℕ → ℕ → List ℕ → ℕ) (next : ℕ) (rs : List ℕ) (Before : List ℕ → Type 0) (After : (ℕ → ℕ → List ℕ → ℕ) → List ℕ → Type 0) →
      ((J : ℕ → ℕ → List ℕ → ℕ) → Agree next K J → (us : List ℕ) → Us us rs → Before us → After J us) → Outcome K next [] rs Before After
  plain K next rs Before After h = record {
    made = K;
    kept = agree-itself next K;
    tables = tt;
    holds = λ J a. h J (agree-less next (next + 0) K J (omega arith) a);
  }

  choice : (b : Bool) (f : Formula) (K : ℕ → ℕ → List ℕ → ℕ) (slots : List Slot) (s : ℕ) → List ℕ → ℕ
  choice b f K slots s us = pick (λ x. Holds b (T f (vector K us slots ++ x ∷ []))) (λ x. tell_holds b (T f (vector K us slots ++ x ∷ [])) (tell sig w 0 f (vector K us slots ++ x ∷ []))) (slice_index w.sizes s)

  some_fails : (f : Formula) (s : ℕ) (vs : List ℕ) → (¬ ((x : ℕ) → x < slice_index w.sizes s → T f (vs ++ x ∷ []))) → (x : ℕ) × (x < slice_index w.sizes s) × (¬ T f (vs ++ x ∷ []))
  some_fails f s vs h = by_case (each_below (λ x. T f (vs ++ x ∷ [])) (λ x. tell sig w 0 f (vs ++ x ∷ [])) (slice_index w.sizes s))
    where
      by_case : ((x : ℕ) → x < slice_index w.sizes s → T f (vs ++ x ∷ [])) ⊎ ((x : ℕ) × (x < slice_index w.sizes s) × (¬ T f (vs ++ x ∷ []))) → (x : ℕ) × (x < slice_index w.sizes s) × (¬ T f (vs ++ x ∷ []))
      by_case (inl all) = absurd (h all)
      by_case (inr one) = one

  some_of : {A B : Type 0} (P : Formula → Type 0) (g : Formula) (gs : List Formula) → (A → P g) → (B → Any P gs) → A ⊎ B → Any P (g ∷ gs)
  some_of P g gs p q (inl h) = any_first P g gs (p h)
  some_of P g gs p q (inr h) = any_later P g gs (q h)

  size-positive : (s : ℕ) → s < sig.sorts → 1 ≤ slice_index w.sizes s
  size-positive s lt = fits.nonempty s 0 (omega (arith, fits.sorts))

  sizes-map : (us rs : List ℕ) → Us us rs → AllZip (λ x n. x < n) us (map (slice_index w.sizes) rs)
  sizes-map [] [] h = tt
  sizes-map [] (r ∷ rs) h = absurd h
  sizes-map (x ∷ us) [] h = absurd h
  sizes-map (x ∷ us) (r ∷ rs) h = (h.0, sizes-map us rs h.1)

  elements-length : (us rs : List ℕ) → Us us rs → length us ≡ length rs
  elements-length us rs h = length_all_zip (λ x s. x < slice_index w.sizes s) us rs h

  -- the table of a Skolem symbol
  table_for : (b : Bool) (f : Formula) (K : ℕ → ℕ → List ℕ → ℕ) (slots : List Slot) (rs : List ℕ) (s : ℕ) → Table
  table_for b f K slots rs s = record { values = listed (map (slice_index w.sizes) rs) (choice b f K slots s) }

  is_table : (b : Bool) (f : Formula) (K : ℕ → ℕ → List ℕ → ℕ) (slots : List Slot) (rs : List ℕ) (s : ℕ) → s < sig.sorts → IsTable w.sizes (skolem rs s) (table_for b f K slots rs s)
  unfolding table_for choice
  is_table b f K slots rs s lt = record {
    total = listed-length (map (slice_index w.sizes) rs) (choice b f K slots s);
    in_range = listed-lt (map (slice_index w.sizes) rs) (choice b f K slots s) (slice_index w.sizes s) (λ us.
        pick-lt (λ x. Holds b (T f (vector K us slots ++ x ∷ []))) (λ x. tell_holds b (T f (vector K us slots ++ x ∷ [])) (tell sig w 0 f (vector K us slots ++ x ∷ []))) (slice_index w.sizes s) (size-positive s lt));
  }

  look_up : (b : Bool) (f : Formula) (K : ℕ → ℕ → List ℕ → ℕ) (slots : List Slot) (rs : List ℕ) (s : ℕ) → List ℕ → ℕ
  look_up b f K slots rs s xs = slice_index (table_for b f K slots rs s).values (place (map (slice_index w.sizes) rs) xs)

  look_up-fits : (b : Bool) (f : Formula) (K : ℕ → ℕ → List ℕ → ℕ) (slots : List Slot) (rs : List ℕ) (s : ℕ) (us : List ℕ) → Us us rs →
      ((x : ℕ) × (x < slice_index w.sizes s) × Holds b (T f (vector K us slots ++ x ∷ []))) → Holds b (T f (vector K us slots ++ look_up b f K slots rs s us ∷ []))
  unfolding look_up table_for choice
  look_up-fits b f K slots rs s us e h =
      let P : ℕ → Type 0 = λ x. Holds b (T f (vector K us slots ++ x ∷ [])) in
      subst P (sym (listed-at (map (slice_index w.sizes) rs) (choice b f K slots s) us (sizes-map us rs e)))
      (pick-fits P (λ x. tell_holds b (T f (vector K us slots ++ x ∷ [])) (tell sig w 0 f (vector K us slots ++ x ∷ []))) (slice_index w.sizes s) h.0 h.1 h.2)

  -- what an outcome for the body gives for a universal and for an existential
  over_universal : (b : Bool) (f body : Formula) (K : ℕ → ℕ → List ℕ → ℕ) (slots : List Slot) (rs ss : List ℕ) (next s : ℕ) (new : List Symbol) → Under next slots rs ss →
      Outcome K next new (rs ++ s ∷ []) (λ us. Holds b (T f (vector K us (slots ++ Level (length rs) ∷ [])))) (λ J us. TruthIn w.sizes J body us) →
      Outcome K next new rs (λ us. (x : ℕ) → x < slice_index w.sizes s → Holds b (T f (vector K us slots ++ x ∷ []))) (λ J us. TruthIn w.sizes J (F.All s body) us)
  over_universal b f body K slots rs ss next s new u o = record {
    made = o.made;
    kept = o.kept;
    tables = o.tables;
    holds = λ J a us e h. subst (λ (A : Type 0). A) (sym (in-All w.sizes J s body us)) (λ x lt.
        o.holds J a (us ++ x ∷ []) (AllZip-push (λ x s. x < slice_index w.sizes s) us rs x s e lt)
        (subst (λ vs. Holds b (T f vs)) (sym (vector-Level next (length rs) K us x slots (elements-length us rs e) u.are)) (h x lt)));
  }

  over_existential : (b : Bool) (f body : Formula) (K : ℕ → ℕ → List ℕ → ℕ) (slots : List Slot) (rs ss : List ℕ) (next s : ℕ) (new : List Symbol) → Under next slots rs ss → s < sig.sorts →
      Outcome (put next (look_up b f K slots rs s) K) (next + 1) new rs (λ us. Holds b (T f (vector (put next (look_up b f K slots rs s) K) us (slots ++ Skolem next (length rs) ∷ [])))) (λ J us. TruthIn w.sizes J body us) →
      Outcome K next (skolem rs s ∷ new) rs (λ us. (x : ℕ) × (x < slice_index w.sizes s) × Holds b (T f (vector K us slots ++ x ∷ []))) (λ J us. TruthIn w.sizes J body us)
  unfolding look_up
  over_existential b f body K slots rs ss next s new u lt o =
      let g = look_up b f K slots rs s in
      record {
        made = o.made;
        kept = agree-along next K (put next g K) o.made (put-other next g K) (agree-less next (next + 1) (put next g K) o.made (omega arith) o.kept);
        tables = ((table_for b f K slots rs s, is_table b f K slots rs s lt, λ d xs. sym (o.kept.same d next xs (omega arith)) ∙ put-same next g K d xs), o.tables);
        holds = λ J a us e h. o.holds J (agree-less (next + 1 + length new) (next + suc (length new)) o.made J (omega arith) a) us e
            (subst (λ vs. Holds b (T f vs)) (
            ap (λ vs. vs ++ g us ∷ []) (vector-agree next K (put next g K) (put-other next g K) us (length rs) slots u.are)
            ∙ ap (λ y. vector (put next g K) us slots ++ y ∷ []) (sym (put-same next g K 0 us))
            ∙ sym (vector-Skolem next (length rs) (put next g K) us slots (elements-length us rs e))
            ) (look_up-fits b f K slots rs s us e h));
      }

  -- from the whole to the parts of a row
  each-all : {n : _} (vs : List ℕ) (row : Row_of-Formula n) → EachTrueIn w.sizes I row vs → AllHold w.sizes I vs true row
  each-all vs end_of-Formula h = tt
  each-all vs (more_of-Formula f rest) h = (h.0, each-all vs rest h.1)

  none-all : {n : _} (vs : List ℕ) (row : Row_of-Formula n) → (¬ SomeTrueIn w.sizes I row vs) → AllHold w.sizes I vs false row
  none-all vs end_of-Formula h = tt
  none-all vs (more_of-Formula f rest) h = (λ p. h (inl p), none-all vs rest (λ q. h (inr q)))

  some-some : {n : _} (vs : List ℕ) (row : Row_of-Formula n) → SomeTrueIn w.sizes I row vs → SomeHold w.sizes I vs true row
  some-some vs end_of-Formula h = h
  some-some vs (more_of-Formula f rest) (inl h) = inl h
  some-some vs (more_of-Formula f rest) (inr h) = inr (some-some vs rest h)

  fails-some : {n : _} (vs : List ℕ) (row : Row_of-Formula n) → (¬ EachTrueIn w.sizes I row vs) → SomeHold w.sizes I vs false row
  fails-some vs end_of-Formula h = h tt
  fails-some vs (more_of-Formula f rest) h = by_case (tell sig w 0 f vs) (λ p. fails-some vs rest (λ q. h (p, q)))
    where
      by_case : T f vs ⊎ (¬ T f vs) → (T f vs → SomeHold w.sizes I vs false rest) → (¬ T f vs) ⊎ SomeHold w.sizes I vs false rest
      by_case (inl p) later = inr (later p)
      by_case (inr n) later = inl n

  and_to : {n : _} (b : Bool) (vs : List ℕ) (row : Row_of-Formula n) (P : Formula → Type 0) (gs : List Formula) → (AllHold w.sizes I vs b row → All P gs) → (SomeHold w.sizes I vs b row → Any P gs) → Holds b (EachTrueIn w.sizes I row vs) → Joint b P gs
  and_to true vs row P gs all some h = all (each-all vs row h)
  and_to false vs row P gs all some h = some (fails-some vs row h)

  or_to : {n : _} (b : Bool) (vs : List ℕ) (row : Row_of-Formula n) (P : Formula → Type 0) (gs : List Formula) → (AllHold w.sizes I vs b row → All P gs) → (SomeHold w.sizes I vs b row → Any P gs) → Holds b (SomeTrueIn w.sizes I row vs) → Joint (not b) P gs
  or_to true vs row P gs all some h = some (some-some vs row h)
  or_to false vs row P gs all some h = all (none-all vs row h)

  -- the same for a row
  pub record RowOutcome {n : Count} (b : Bool) (row : Row_of-Formula n) (K : ℕ → ℕ → List ℕ → ℕ) (slots : List Slot) (rs : List ℕ) (next : ℕ) : Type 0 where
    pub made : ℕ → ℕ → List ℕ → ℕ
    pub kept : Agree next K made
    pub tables : Tabled w made next (skolem_symbols_row b row rs)
    pub all : (J : ℕ → ℕ → List ℕ → ℕ) → Agree (next + length (skolem_symbols_row b row rs)) made J → (us : List ℕ) → Us us rs → AllHold w.sizes I (vector K us slots) b row → All (λ g. TruthIn w.sizes J g us) (formed_row b row slots rs next)
    pub some : (J : ℕ → ℕ → List ℕ → ℕ) → Agree (next + length (skolem_symbols_row b row rs)) made J → (us : List ℕ) → Us us rs → SomeHold w.sizes I (vector K us slots) b row → Any (λ g. TruthIn w.sizes J g us) (formed_row b row slots rs next)

  atom : (b : Bool) (f g : Formula) (K : ℕ → ℕ → List ℕ → ℕ) (slots : List Slot) (rs ss : List ℕ) (next : ℕ) → Under next slots rs ss → Agree (length sig.symbols) I K → length sig.symbols ≤ next →
      ((J : ℕ → ℕ → List ℕ → ℕ) → Agree (length sig.symbols) I J → (us : List ℕ) → Us us rs → (T f (vector J us slots) → TruthIn w.sizes J g us) × (TruthIn w.sizes J g us → T f (vector J us slots))) →
      Outcome K next [] rs (λ us. Holds b (T f (vector K us slots))) (λ J us. TruthIn w.sizes J (literal b g) us)
  atom b f g K slots rs ss next u a le same = plain K next rs _ _ (λ J k us e h.
      let s = same J (agree-along (length sig.symbols) I K J a (agree-less (length sig.symbols) next K J le k)) us e in
      literal_to w.sizes J us b g (holds_along b s.0 s.1 (subst (λ vs. Holds b (T f vs)) (vector-agree next K J k us (length rs) slots u.are) h)))

  slots-for : (next : ℕ) (slots : List Slot) (us rs ss : List ℕ) → Us us rs → Under next slots rs ss → All (IsSlot next (length us)) slots
  slots-for next slots us rs ss e u = subst (λ n. All (IsSlot next n) slots) (sym (elements-length us rs e)) u.are

  mutual
    pub complete : (b : Bool) (f : Formula) (K : ℕ → ℕ → List ℕ → ℕ) (slots : List Slot) (rs ss : List ℕ) (next : ℕ) → IsFormula sig copies f ss → Under next slots rs ss → Agree (length sig.symbols) I K → length sig.symbols ≤ next →
        Outcome K next (skolem_symbols b f rs) rs (λ us. Holds b (T f (vector K us slots))) (λ J us. TruthIn w.sizes J (formed b f slots rs next) us)
    complete true True K slots rs ss next is u a le = plain K next rs _ _ (λ J k us e h. tt)
    complete false True K slots rs ss next is u a le = plain K next rs _ _ (λ J k us e h. h tt)
    complete true False K slots rs ss next is u a le = plain K next rs _ _ (λ J k us e h. h)
    complete false False K slots rs ss next is u a le = plain K next rs _ _ (λ J k us e h. tt)
    complete b (Rel p d args) K slots rs ss next is u a le = atom b (Rel p d args) (Rel p d (map (filled slots) args)) K slots rs ss next u a le (λ J k us e.
        let same = rel_same sig copies w.sizes I J k p d args slots rs ss us next is u e in (λ x. same ∙ x, λ x. sym same ∙ x))
    complete b (Eq x y) K slots rs ss next is u a le = atom b (Eq x y) (Eq (filled slots x) (filled slots y)) K slots rs ss next u a le (λ J k us e.
        let left = filled-value sig copies I J k slots us next (slots-for next slots us rs ss e u) ss u.slotted x is.0 is.1 in
        let right = filled-value sig copies I J k slots us next (slots-for next slots us rs ss e u) ss u.slotted y is.0 is.2 in
        (λ p. left ∙ p ∙ sym right, λ p. sym left ∙ p ∙ right))
    complete b (Not' _ (more_of-Formula f _)) K slots rs ss next is u a le =
        let o = complete (not b) f K slots rs ss next is u a le in
        record { made = o.made; kept = o.kept; tables = o.tables; holds = λ J k us e h. o.holds J k us e (not_holds b (T f (vector K us slots)) (tell sig w 0 f (vector K us slots)) h) }
    complete b (And' _ row) K slots rs ss next is u a le =
        let o = complete_row b row K slots rs ss next is u a le in
        record {
          made = o.made;
          kept = o.kept;
          tables = o.tables;
          holds = λ J k us e h. joined_to w.sizes J us b (formed_row b row slots rs next) (and_to b (vector K us slots) row (λ g. TruthIn w.sizes J g us) (formed_row b row slots rs next) (o.all J k us e) (o.some J k us e) h);
        }
    complete b (Or' _ row) K slots rs ss next is u a le =
        let o = complete_row b row K slots rs ss next is u a le in
        record {
          made = o.made;
          kept = o.kept;
          tables = o.tables;
          holds = λ J k us e h. joined_to w.sizes J us (not b) (formed_row b row slots rs next) (or_to b (vector K us slots) row (λ g. TruthIn w.sizes J g us) (formed_row b row slots rs next) (o.all J k us e) (o.some J k us e) h);
        }
    complete true (All' s _ (more_of-Formula f _)) K slots rs ss next is u a le =
        over_universal true f (formed true f (slots ++ Level (length rs) ∷ []) (rs ++ s ∷ []) next) K slots rs ss next s (skolem_symbols true f (rs ++ s ∷ [])) u
        (complete true f K (slots ++ Level (length rs) ∷ []) (rs ++ s ∷ []) (ss ++ s ∷ []) next is.1 (under-Level next slots rs ss s u) a le)
    complete false (All' s _ (more_of-Formula f _)) K slots rs ss next is u a le =
        let g = look_up false f K slots rs s in
        let o = over_existential false f (formed false f (slots ++ Skolem next (length rs) ∷ []) rs (next + 1)) K slots rs ss next s (skolem_symbols false f rs) u is.0
        (complete false f (put next g K) (slots ++ Skolem next (length rs) ∷ []) rs (ss ++ s ∷ []) (next + 1) is.1 (under-Skolem next slots rs ss s u)
        (agree-along (length sig.symbols) I K (put next g K) a (agree-less (length sig.symbols) next K (put next g K) le (put-other next g K))) (omega arith)) in
        record { made = o.made; kept = o.kept; tables = o.tables; holds = λ J k us e h. o.holds J k us e (some_fails f s (vector K us slots) h) }
    complete true (Ex' s _ (more_of-Formula f _)) K slots rs ss next is u a le =
        let g = look_up true f K slots rs s in
        over_existential true f (formed true f (slots ++ Skolem next (length rs) ∷ []) rs (next + 1)) K slots rs ss next s (skolem_symbols true f rs) u is.0
        (complete true f (put next g K) (slots ++ Skolem next (length rs) ∷ []) rs (ss ++ s ∷ []) (next + 1) is.1 (under-Skolem next slots rs ss s u)
        (agree-along (length sig.symbols) I K (put next g K) a (agree-less (length sig.symbols) next K (put next g K) le (put-other next g K))) (omega arith))
    complete false (Ex' s _ (more_of-Formula f _)) K slots rs ss next is u a le =
        let o = over_universal false f (formed false f (slots ++ Level (length rs) ∷ []) (rs ++ s ∷ []) next) K slots rs ss next s (skolem_symbols false f (rs ++ s ∷ [])) u
        (complete false f K (slots ++ Level (length rs) ∷ []) (rs ++ s ∷ []) (ss ++ s ∷ []) next is.1 (under-Level next slots rs ss s u) a le) in
        record { made = o.made; kept = o.kept; tables = o.tables; holds = λ J k us e h. o.holds J k us e (λ x lt p. h (x, lt, p)) }

    complete_row : {n : Count} (b : Bool) (row : Row_of-Formula n) (K : ℕ → ℕ → List ℕ → ℕ) (slots : List Slot) (rs ss : List ℕ) (next : ℕ) → AreFormulas sig copies row ss → Under next slots rs ss → Agree (length sig.symbols) I K → length sig.symbols ≤ next → RowOutcome b row K slots rs next
    complete_row b end_of-Formula K slots rs ss next is u a le = record {
      made = K;
      kept = agree-itself next K;
      tables = tt;
      all = λ J k us e h. All-nil (λ g. TruthIn w.sizes J g us);
      some = λ J k us e h. absurd h;
    }
    complete_row b (more_of-Formula f rest) K slots rs ss next is u a le =
        let one = complete b f K slots rs ss next is.0 u a le in
        let later = next + length (skolem_symbols b f rs) in
        let two = complete_row b rest one.made slots rs ss later is.1 (under-more next later slots rs ss (omega arith) u)
        (agree-along (length sig.symbols) I K one.made a (agree-less (length sig.symbols) next K one.made le one.kept)) (omega arith) in
        let total = length-append (skolem_symbols b f rs) (skolem_symbols_row b rest rs) in
        let whole = next + length (skolem_symbols b f rs ++ skolem_symbols_row b rest rs) in
        let end = later + length (skolem_symbols_row b rest rs) in
        record {
          made = two.made;
          kept = agree-along next K one.made two.made one.kept (agree-less next later one.made two.made (omega arith) two.kept);
          tables = tabled-join w two.made next (skolem_symbols b f rs) (skolem_symbols_row b rest rs) (tabled-agree w one.made two.made next (skolem_symbols b f rs) two.kept one.tables) two.tables;
          all = λ J k us e h.
              let k2 = agree-less end whole two.made J (omega arith) k in
              let k1 = agree-along later one.made two.made J two.kept (agree-less later end two.made J (omega arith) k2) in
              let P : Formula → Type 0 = λ g. TruthIn w.sizes J g us in
              All-cons P (formed b f slots rs next) (formed_row b rest slots rs later) (one.holds J k1 us e h.0)
              (two.all J k2 us e (subst (λ vs. AllHold w.sizes I vs b rest) (vector-agree next K one.made one.kept us (length rs) slots u.are) h.1));
          some = λ J k us e h.
              let k2 = agree-less end whole two.made J (omega arith) k in
              let k1 = agree-along later one.made two.made J two.kept (agree-less later end two.made J (omega arith) k2) in
              let P : Formula → Type 0 = λ g. TruthIn w.sizes J g us in
              some_of P (formed b f slots rs next) (formed_row b rest slots rs later) (one.holds J k1 us e)
              (λ s. two.some J k2 us e (subst (λ vs. SomeHold w.sizes I vs b rest) (vector-agree next K one.made one.kept us (length rs) slots u.are) s)) h;
        }

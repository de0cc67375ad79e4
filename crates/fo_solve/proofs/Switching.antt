-- What claims behind switches say, and how they grow.
use Rattle.std.proofs.Common.{◌≡◌, ℕ, zero, suc, Bool, true, false, ◌+◌, ◌<◌, ◌≤◌, ◌⊎◌, inl, inr, List, [], ◌∷◌, ◌++◌, length, get_or, take, refl, sym, subst, ◌∙◌, arith, true≢false, length-append, get_or-append-add}
use Rattle.std.specs.List.{All, AllZip}
use Rattle.std.proofs.lemmas.List.{get_or_append_left, take_all}
use Rattle.std.proofs.lemmas.List.Elements.{All-nil, All-push, All-append, All-contains}
use Rattle.std.proofs.Math.Seq.{get_or-append_seam}
use Rattle.fo_core.specs.declared.formula.Formula.{Formula, True}
use Rattle.fo_core.specs.declared.signature.Sig.{Sig}
use Rattle.fo_core.specs.Sorted.{IsFormula}
use Rattle.fo_norm.specs.declared.form.SkolemForm.{SkolemForm}
use Rattle.fo_norm.specs.Forms.{whole, IsForm}
use Rattle.fo_core.proofs.Zips.{AllZip-at, AllZip-length}
use Rattle.fo_ground.specs.declared.groundwork.Groundwork.{Groundwork}
use Rattle.fo_ground.specs.Emits.{Agrees}
use Rattle.fo_ground.specs.Groundworks.{SayEquality, SayBehind, Serves, HoldBy}
use Rattle.fo_ground.specs.Layout.{IsEqualityBy, IsMetBy}
use Rattle.fo_ground.proofs.Emitting.{agrees_less, agrees_on, are_within_more, clauses_agree, given, given-agrees, given-same, meets_only}
use Rattle.prop_core.specs.declared.lit.Lit.{Lit}
use Rattle.prop_core.specs.Formula.{IsWithin, MeetsClause, MeetsAll}
use Rattle.prop_cdcl.specs.Questions.{AreTrue, HaveNoValuesUnder}
use Rattle.fo_solve.specs.declared.claims.Switched.{Switched}
use Rattle.fo_solve.specs.Contexts.{AreSwitched, IsOn, IsSwitch, KeepsAll}

abbrev V : Type 0
V = ℕ → Bool

module _ {X : Type 0} (P : X → Type 0) where
  All-left : (xs ys : List X) → All P (xs ++ ys) → All P xs
  All-left xs ys h k d lt = subst P (get_or_append_left xs ys d k lt) (h k d (omega (arith, lt, length-append xs ys)))

  All-right : (xs ys : List X) → All P (xs ++ ys) → All P ys
  All-right xs ys h k d lt = subst P (get_or-append-add xs ys k d) (h (length xs + k) d (omega (arith, lt, length-append xs ys)))

-- what is kept stays where more is kept, and the new claim has its switch
pub keeps-more : (kept : List Switched) (s : Switched) → KeepsAll kept (kept ++ s ∷ [])
keeps-more kept s f x c =
    (c.0, omega (arith, c.1, length-append kept (s ∷ [])), get_or_append_left kept (s ∷ []) (record { claim = f; switch = x }) c.0 c.1 ∙ c.2)

pub keeps-last : (kept : List Switched) (f : Formula) (x : ℕ) → IsSwitch (kept ++ record { claim = f; switch = x } ∷ []) f x
keeps-last kept f x =
    let s : Switched = record { claim = f; switch = x } in
    (length kept, omega (arith, length-append kept (s ∷ [])), get_or-append_seam kept s [] s)

module _ (g : Groundwork) where
  abbrev Equality : V → Type 0
  Equality = IsEqualityBy g.universe g.layout

  abbrev Holds : Formula → V → Type 0
  Holds f = IsMetBy g.universe g.layout f []

  -- equal lists say the same
  pub same-switched : (kept kept' : List Switched) (n n' : ℕ) (K K' : List (List Lit)) → kept' ≡ kept → n' ≡ n → K' ≡ K → AreSwitched g kept n K → AreSwitched g kept' n' K'
  same-switched kept kept' n n' K K' k_same n_same c_same h =
      subst (λ (s : List Switched). AreSwitched g s n' K') (sym k_same) (subst (λ (m : ℕ). AreSwitched g kept m K') (sym n_same) (subst (λ (c : List (List Lit)). AreSwitched g kept n c) (sym c_same) h))

  -- the axioms alone
  pub axioms-switched : (n : ℕ) (K : List (List Lit)) → SayEquality g n K → AreSwitched g [] n K
  axioms-switched n K h = record {
    base = h.grows;
    within = h.after;
    switches = All-nil (λ (s : Switched). s.switch < n);
    axioms = λ v m. alone v (h.sound v m).1;
    claims = λ v m. All-nil (λ (s : Switched). v s.switch ≡ true → Holds s.claim v);
    complete = λ a e none.
        let r = h.complete a a (λ k lt. refl) (All-nil (MeetsClause a)) (inr e) in
        none r.0 r.1 r.2 (All-nil (λ (s : Switched). Holds s.claim a → r.0 s.switch ≡ true));
  }
    where
      alone : (v : V) → MeetsClause v [] ⊎ Equality v → Equality v
      alone v (inl m) = absurd (omega (arith, m.2))
      alone v (inr e) = e

  -- one more claim
  module _ (kept : List Switched) (n : ℕ) (K : List (List Lit)) (f : Formula) (k : ℕ) (L : List (List Lit)) (h : AreSwitched g kept n K) (b : SayBehind g f n k L) where
    abbrev added : Switched
    added = record { claim = f; switch = n }

    abbrev off : Lit
    off = record { var = n; positive = false }

    holds-on : (v : V) → MeetsClause v (off ∷ []) ⊎ Holds f v → v n ≡ true → Holds f v
    holds-on v (inl m) t = absurd (true≢false (sym t ∙ meets_only v off m))
    holds-on v (inr x) t = x

    -- values as wanted, with the new switch given
    filled : (a : V) → ((u : V) → Agrees g.layout.base a u → MeetsAll u (K ++ L) → ¬ All (λ s. Holds s.claim a → u s.switch ≡ true) (kept ++ added ∷ [])) →
        (v : V) → Agrees g.layout.base a v → MeetsAll v K → All (λ s. Holds s.claim a → v s.switch ≡ true) kept →
        (t : Bool) → MeetsClause (given v n t) (off ∷ []) ⊎ Holds f a → (Holds f a → t ≡ true) → ⊥
    filled a none v same m kept_on t either told =
        let w = given v n t in
        let begins : Agrees n v w = given-agrees v n t in
        let same_w : Agrees g.layout.base a w = agrees_on g.layout.base a v w same (agrees_less g.layout.base n v w h.base begins) in
        let r = b.complete a w same_w (All-nil (MeetsClause w)) either in
        let u = r.0 in
        let before : Agrees n v u = agrees_on n v w u begins (agrees_less n (n + 1) w u (omega arith) r.1) in
        none u (agrees_on g.layout.base a v u same (agrees_less g.layout.base n v u h.base before))
        (All-append (MeetsClause u) K L (clauses_agree n v u K h.within before m) r.2)
        (All-push (λ (s : Switched). Holds s.claim a → u s.switch ≡ true) kept added
        (λ i d lt x. before (get_or kept i d).switch (h.switches i d lt) ∙ kept_on i d lt x)
        (λ x. r.1 n (omega arith) ∙ given-same v n t ∙ told x))

    pub claim-switched : AreSwitched g (kept ++ added ∷ []) k (K ++ L)
    claim-switched = record {
      base = omega (arith, h.base, b.grows);
      within = All-append (IsWithin k) K L (are_within_more n k K (omega (arith, b.grows)) h.within) b.after;
      switches = All-push (λ (s : Switched). s.switch < k) kept added (λ i d lt. omega (arith, h.switches i d lt, b.grows)) (omega (arith, b.grows));
      axioms = λ v m. h.axioms v (All-left (MeetsClause v) K L m);
      claims = λ v m. All-push (λ (s : Switched). v s.switch ≡ true → Holds s.claim v) kept added
          (h.claims v (All-left (MeetsClause v) K L m)) (holds-on v (b.sound v (All-right (MeetsClause v) K L m)).1);
      complete = λ a e none. h.complete a e (λ v same m kept_on.
          filled a none v same m kept_on false (inl (0, off, omega arith, refl, given-same v n false))
          (λ x. absurd (filled a none v same m kept_on true (inr x) (λ y. refl))));
    }

  -- claims that a question switches on
  module _ (kept : List Switched) (n : ℕ) (K : List (List Lit)) (h : AreSwitched g kept n K) (claims : List Formula) (lits : List Lit) (are_on : AllZip (IsOn kept) claims lits) where
    below : (i : ℕ) → i < length lits → i < length claims
    below i lt = subst (λ m. i < m) (sym (AllZip-length (IsOn kept) claims lits are_on)) lt

    at : (i : ℕ) (d : Formula) (e : Lit) → i < length claims → IsOn kept (get_or claims i d) (get_or lits i e)
    at i d e lt = AllZip-at (IsOn kept) claims lits i d e are_on lt

    pub switches-within : IsWithin n lits
    switches-within i e lt =
        let o = at i True e (below i lt) in
        All-contains (λ (s : Switched). s.switch < n) kept (record { claim = get_or claims i True; switch = (get_or lits i e).var }) h.switches o.1

    -- values under which the switches are true make the claims hold
    pub held : (v : V) → MeetsAll v K → AreTrue v lits → HoldBy g claims v
    held v m t = record {
      equality = h.axioms v m;
      instances = λ i d lt.
          let e : Lit = record { var = 0; positive = true } in
          let o = at i d e lt in
          let here : i < length lits = subst (λ m. i < m) (AllZip-length (IsOn kept) claims lits are_on) lt in
          All-contains (λ (s : Switched). v s.switch ≡ true → Holds s.claim v) kept (record { claim = get_or claims i d; switch = (get_or lits i e).var }) (h.claims v m) o.1
          (t i e here ∙ o.0);
    }

    -- where there are no such values, none of the atoms make the claims hold
    pub none-held : HaveNoValuesUnder K lits → (a : V) → HoldBy g claims a → ⊥
    none-held none a q = h.complete a q.equality (λ v same m all_on. none v m (λ i e lt.
        let o = at i True e (below i lt) in
        All-contains (λ (s : Switched). Holds s.claim a → v s.switch ≡ true) kept (record { claim = get_or claims i True; switch = (get_or lits i e).var }) all_on o.1
        (q.instances i True (below i lt)) ∙ sym o.0))

-- switches stay where more is kept
pub on-kept : (a b : List Switched) → KeepsAll a b → (fs : List Formula) (ls : List Lit) → AllZip (IsOn a) fs ls → AllZip (IsOn b) fs ls
on-kept a b keeps [] [] h = tt
on-kept a b keeps [] (l ∷ ls) h = absurd h
on-kept a b keeps (f ∷ fs) [] h = absurd h
on-kept a b keeps (f ∷ fs) (l ∷ ls) h = ((h.0.0, keeps f l.var h.0.1), on-kept a b keeps fs ls h.1)

-- one claim after the other
next_one : (kept : List Switched) (fs : List Formula) (i : ℕ) (d : Formula) (ls : List Lit) (l : Lit) → i < length fs → AllZip (IsOn kept) (take i fs) ls → IsOn kept (get_or fs i d) l →
    AllZip (IsOn kept) (take (suc i) fs) (ls ++ l ∷ [])
next_one kept [] i d ls l lt h o = absurd (omega arith)
next_one kept (f ∷ fs) zero d [] l lt h o = (o, tt)
next_one kept (f ∷ fs) zero d (m ∷ ls) l lt h o = absurd h
next_one kept (f ∷ fs) (suc i) d [] l lt h o = absurd h
next_one kept (f ∷ fs) (suc i) d (m ∷ ls) l lt h o = (h.0, next_one kept fs i d ls l (omega arith) h.1 o)

pub on-next : (kept : List Switched) (fs : List Formula) (i : ℕ) (d : Formula) (ls : List Lit) (l : Lit) → i < length fs → AllZip (IsOn kept) (take i fs) ls → IsOn kept (get_or fs i d) l →
    AllZip (IsOn kept) (take (i + 1) fs) (ls ++ l ∷ [])
on-next kept fs i d ls l lt h o =
    let e : suc i ≡ i + 1 = omega arith in
    subst (λ (n : ℕ). AllZip (IsOn kept) (take n fs) (ls ++ l ∷ [])) e (next_one kept fs i d ls l lt h o)

pub on-all : (kept : List Switched) (fs : List Formula) (i : ℕ) (ls : List Lit) → length fs ≤ i → AllZip (IsOn kept) (take i fs) ls → AllZip (IsOn kept) fs ls
on-all kept fs i ls le h = subst (λ (gs : List Formula). AllZip (IsOn kept) gs ls) (take_all i fs le) h

-- the claims of a form speak of the groundwork's symbols
pub served-claims : (g : Groundwork) (sig : Sig) (form : SkolemForm) → Serves sig form g → IsForm sig form → All (λ f. IsFormula g.layout.sig g.layout.copies f []) form.claims
served-claims g sig form serves is =
    subst (λ (s : Sig). All (λ f. IsFormula s g.layout.copies f []) form.claims) (sym serves.symbols)
    (subst (λ (n : ℕ). All (λ f. IsFormula (whole sig form) n f []) form.claims) (sym serves.copies) is.claims)

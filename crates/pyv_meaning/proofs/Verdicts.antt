-- Declarations mean a system or have a first fault, and that is one fault.
use Rattle.std.proofs.Common.{◌≡◌, ℕ, ◌≤◌, ◌⊎◌, List, [], ◌∷◌, length, refl, sym, ap, ◌∙◌, subst, inl, inr, arith}
use Rattle.std.specs.Prelude.{Option, Some, None}
use Rattle.std.specs.List.{AllByRecursion, AllZip}
use Rattle.fo_core.specs.declared.names.Names.{Names}
use Rattle.fo_core.specs.declared.signature.Sig.{Sig}
use Rattle.fo_core.specs.declared.system.Step.{Step}
use Rattle.fo_core.specs.declared.system.System.{System}
use Rattle.fo_core.specs.declared.formula.Formula.{Formula}
use Rattle.pyv_meaning.specs.declared.fault.SortFault.{SortFault}
use Rattle.pyv_meaning.specs.declared.variable.Use.{Use}
use Rattle.pyv_meaning.specs.Bodies.{body_uses, ClaimMeans, StepMeans, body_fault, body_clash, AreSorted, IsBodyFault, IsSound, IsFirstOfBodies, body_formula, body_step}
use Rattle.pyv_meaning.specs.Declaring.{AreDeclared, names_in, sig_in, declared_fault}
use Rattle.pyv_meaning.specs.Gets.{Among, here, there, GetsOnly, GetsNone, GetsTwo, IsFirstUnsorted, binders}
use Rattle.pyv_meaning.specs.Items.{Item, Body, Role, Axiom, Init, Safety, Invariant, claim_body, transition_body, is_role, claim_of, claims, steps, bodies}
use Rattle.pyv_meaning.specs.Items as item
use Rattle.pyv_meaning.specs.Meaning.{ItemsMean, IsFirstOfItems}
use Rattle.pyv_meaning.proofs.Basics.{true_or_false, never, first_or}
use Rattle.pyv_meaning.proofs.Classes.{sorts_decided}
use Rattle.pyv_meaning.proofs.Declares.{declared_sound}
use Rattle.pyv_meaning.proofs.Top.{each_at, none_unsorted, body_sound, body_same, sound_excluded}
use Rattle.pyv_meaning.proofs.Whole.{is_claim, step_sound}

some_fault : SortFault → Option SortFault
some_fault f = Some f

one_of : (o : Option SortFault) (f g : SortFault) → o ≡ Some f → o ≡ Some g → f ≡ g
one_of o f g h k =
    let get : Option SortFault → SortFault = λ o. elim o [ Some e ↦ e | None ↦ f ] in
    ap get (sym h ∙ k)

-- ---- variables

module _ (us : List Use) where
  pick : (v : ℕ) → ((s : ℕ) × GetsOnly us v s) ⊎ GetsNone us v ⊎ GetsTwo us v → ℕ
  pick v o = elim o [ inl a ↦ a.0 | inr b ↦ 0 ]

  sort_at : ℕ → ℕ
  sort_at v = pick v (sorts_decided us v)

  decided : (v : ℕ) → GetsOnly us v (sort_at v) ⊎ GetsNone us v ⊎ GetsTwo us v
  unfolding sort_at pick
  decided v = elim (sorts_decided us v) as (λ o. GetsOnly us v (pick v o) ⊎ GetsNone us v ⊎ GetsTwo us v) [ inl a ↦ inl a.1 | inr b ↦ inr b ]

  all_decided : (vs : List ℕ) → AllByRecursion (λ v. GetsOnly us v (sort_at v)) vs ⊎ ((f : SortFault) × IsFirstUnsorted us vs f)
  all_decided [] = inl tt
  all_decided (v ∷ vs) =
      elim (decided v) [
        | inl a ↦ elim (all_decided vs) [ inl r ↦ inl (a, r) | inr r ↦ inr (r.0, inr (inr ((sort_at v, a), r.1))) ]
        | inr b ↦ elim b [ inl a ↦ inr (_, inl (refl, a)) | inr a ↦ inr (_, inr (inl (refl, a))) ]
      ]

  none_two : (v : ℕ) → GetsNone us v → GetsTwo us v → ⊥
  none_two v n t = n t.one t.gets_one

  two_only : (v s : ℕ) → GetsTwo us v → GetsOnly us v s → ⊥
  two_only v s t o = t.differ (o.only t.one t.gets_one ∙ sym (o.only t.other t.gets_other))

  one_unsorted : (vs : List ℕ) (f g : SortFault) → IsFirstUnsorted us vs f → IsFirstUnsorted us vs g → f ≡ g
  one_unsorted [] f g h k = absurd h
  one_unsorted (v ∷ vs) f g h k =
      elim h [
        | inl a ↦ elim k [ inl b ↦ a.0 ∙ sym b.0 | inr r ↦ elim r [ inl b ↦ absurd (none_two v a.1 b.1) | inr b ↦ absurd (a.1 b.0.0 b.0.1.gets) ] ]
        | inr q ↦ elim q [
          | inl a ↦ elim k [ inl b ↦ absurd (none_two v b.1 a.1) | inr r ↦ elim r [ inl b ↦ a.0 ∙ sym b.0 | inr b ↦ absurd (two_only v b.0.0 a.1 b.0.1) ] ]
          | inr a ↦ elim k [ inl b ↦ absurd (b.1 a.0.0 a.0.1.gets) | inr r ↦ elim r [ inl b ↦ absurd (two_only v a.0.0 b.1 a.0.1) | inr b ↦ one_unsorted vs f g a.1 b.1 ] ]
        ]
      ]

-- ---- bodies

module _ (names : Names) (sig : Sig) where
  -- A body is sound, or it has a first fault.
  body_total : (b : Body) → IsSound names sig b ⊎ ((f : SortFault) × IsBodyFault names sig b f)
  body_total b = by_names (body_fault names sig b) refl
    where
      by_clash : (s : ℕ → ℕ) (o : Option SortFault) → body_fault names sig b ≡ None → AreSorted names sig b s → body_clash names sig b s ≡ o → IsSound names sig b ⊎ ((f : SortFault) × IsBodyFault names sig b f)
      by_clash s None n a e = inl (record { names_fine = n; sort_of = s; sorted = a; no_clash = e })
      by_clash s (Some f) n a e = inr (f, inr (inr (n, s, a, e)))

      by_names : (o : Option SortFault) → body_fault names sig b ≡ o → IsSound names sig b ⊎ ((f : SortFault) × IsBodyFault names sig b f)
      by_names (Some f) e = inr (f, inl e)
      by_names None e =
          elim (all_decided (body_uses names sig b) (binders (body_uses names sig b))) [
            | inl a ↦ by_clash (sort_at (body_uses names sig b)) (body_clash names sig b (sort_at (body_uses names sig b))) e a refl
            | inr a ↦ inr (a.0, inr (inl (e, a.1)))
          ]

  one_body_fault : (b : Body) (f g : SortFault) → IsBodyFault names sig b f → IsBodyFault names sig b g → f ≡ g
  one_body_fault b f g h k =
      elim h [
        | inl a ↦ elim k [ inl c ↦ one_of _ f g a c | inr r ↦ elim r [ inl c ↦ absurd (never _ f c.0 a) | inr c ↦ absurd (never _ f c.0 a) ] ]
        | inr q ↦ elim q [
          | inl a ↦ elim k [
            | inl c ↦ absurd (never _ g a.0 c)
            | inr r ↦ elim r [ inl c ↦ one_unsorted (body_uses names sig b) _ f g a.1 c.1 | inr c ↦ absurd (none_unsorted (body_uses names sig b) c.1 _ f c.2 a.1) ]
          ]
          | inr a ↦ elim k [
            | inl c ↦ absurd (never _ g a.0 c)
            | inr r ↦ elim r [ inl c ↦ absurd (none_unsorted (body_uses names sig b) a.1 _ g a.2 c.1) | inr c ↦ one_of _ f g a.3 ((body_same names sig b a.1 c.1 a.0 a.2 c.2).1 ∙ c.3) ]
          ]
        ]
      ]

  abbrev AllSound : List Body → Type 0
  AllSound = AllByRecursion (IsSound names sig)

  bodies_total : (bs : List Body) → AllSound bs ⊎ ((f : SortFault) × IsFirstOfBodies names sig bs f)
  bodies_total [] = inl tt
  bodies_total (b ∷ bs) =
      elim (body_total b) [
        | inl s ↦ elim (bodies_total bs) [ inl r ↦ inl (s, r) | inr r ↦ inr (r.0, inr (s, r.1)) ]
        | inr a ↦ inr (a.0, inl a.1)
      ]

  one_of_bodies : (bs : List Body) (f g : SortFault) → IsFirstOfBodies names sig bs f → IsFirstOfBodies names sig bs g → f ≡ g
  one_of_bodies [] f g h k = absurd h
  one_of_bodies (b ∷ bs) f g h k =
      elim h [
        | inl a ↦ elim k [ inl c ↦ one_body_fault b f g a c | inr c ↦ absurd (sound_excluded names sig b f c.0 a) ]
        | inr a ↦ elim k [ inl c ↦ absurd (sound_excluded names sig b g a.0 c) | inr c ↦ one_of_bodies bs f g a.1 c.1 ]
      ]

  claims_built : (bs : List Body) → ((b : Body) → Among b bs → IsSound names sig b × (length b.params ≤ 64)) → (ys : List Formula) × AllZip (ClaimMeans names sig) bs ys
  claims_built [] h = ([], tt)
  claims_built (b ∷ bs) h =
      let s = h b (here _ _) in
      let rest = claims_built bs (λ c m. h c (there _ _ _ m)) in
      (body_formula names sig b s.0.sort_of ∷ rest.0, ((s.0.sort_of, body_sound names sig b s.0.sort_of s.1 s.0.names_fine s.0.sorted s.0.no_clash), rest.1))

  steps_built : (bs : List Body) → ((b : Body) → Among b bs → IsSound names sig b × (length b.params ≤ 64)) → (ys : List Step) × AllZip (StepMeans names sig) bs ys
  steps_built [] h = ([], tt)
  steps_built (b ∷ bs) h =
      let s = h b (here _ _) in
      let rest = steps_built bs (λ c m. h c (there _ _ _ m)) in
      (body_step names sig b s.0.sort_of ∷ rest.0, (step_sound names sig b s.0.sort_of s.1 s.0.names_fine s.0.sorted s.0.no_clash, rest.1))

-- ---- declarations

claim_in : (r : Role) (items : List Item) (b : Body) → Among b (claims r items) → Among b (bodies items)
claim_in r [] b m = elim m [ ]
claim_in r (item.Sort n ∷ rest) b m = claim_in r rest b m
claim_in r (item.Symbol s ∷ rest) b m = claim_in r rest b m
claim_in r (item.Trace ∷ rest) b m = claim_in r rest b m
claim_in r (item.Transition n ps ms x ∷ rest) b m = there _ _ _ (claim_in r rest b m)
claim_in r (item.Claim q x ∷ rest) b m =
    elim (true_or_false (is_role r q)) [
      | inl t ↦ elim (first_or b (claim_body x) (claims r rest) (rw t at m)) [ inl e ↦ subst (λ (z : Body). Among z (bodies (item.Claim q x ∷ rest))) (sym e) (here _ _) | inr k ↦ there _ _ _ (claim_in r rest b k) ]
      | inr t ↦ there _ _ _ (claim_in r rest b (rw t at m))
    ]

step_in : (items : List Item) (b : Body) → Among b (steps items) → Among b (bodies items)
step_in [] b m = elim m [ ]
step_in (item.Sort n ∷ rest) b m = step_in rest b m
step_in (item.Symbol s ∷ rest) b m = step_in rest b m
step_in (item.Trace ∷ rest) b m = step_in rest b m
step_in (item.Claim q x ∷ rest) b m = there _ _ _ (step_in rest b m)
step_in (item.Transition n ps ms x ∷ rest) b m =
    elim (first_or b (transition_body ps ms x) (steps rest) m) [
      | inl e ↦ subst (λ (z : Body). Among z (bodies (item.Transition n ps ms x ∷ rest))) (sym e) (here _ _)
      | inr k ↦ there _ _ _ (step_in rest b k)
    ]

module _ (items : List Item) where
  abbrev N : Names
  N = names_in items

  abbrev G : Sig
  G = sig_in items

  module _ (d : AreDeclared items) (all : AllSound N G (bodies items)) where
    sound_claim : (r : Role) (b : Body) → Among b (claims r items) → IsSound N G b × (length b.params ≤ 64)
    sound_claim r b m =
        let c = is_claim r items b m in
        (each_at (IsSound N G) (bodies items) b all (claim_in r items b m), subst (λ (z : Body). length z.params ≤ 64) (sym c.1) (omega arith))

    sound_step : (b : Body) → Among b (steps items) → IsSound N G b × (length b.params ≤ 64)
    sound_step b m =
        let few = each_at (λ (b : Body). length b.params ≤ 16) (steps items) b d.few_params m in
        (each_at (IsSound N G) (bodies items) b all (step_in items b m), omega (arith, few))

    -- declarations whose bodies are sound mean a system
    means_one : (sys : System) × (names : Names) × ItemsMean items sys names
    means_one =
        let a = claims_built N G (claims Axiom items) (sound_claim Axiom) in
        let i = claims_built N G (claims Init items) (sound_claim Init) in
        let t = steps_built N G (steps items) sound_step in
        let s = claims_built N G (claims Safety items) (sound_claim Safety) in
        let v = claims_built N G (claims Invariant items) (sound_claim Invariant) in (
          record { sig = G; axioms = a.0; inits = i.0; steps = t.0; safeties = s.0; invariants = v.0 },
          N,
          record { declared = d; named = refl; signature = refl; axioms = a.1; inits = i.1; transitions = t.1; safeties = s.1; invariants = v.1 },
        )

  -- Declarations mean a system, or have a first fault.
  pub total : ((sys : System) × (names : Names) × ItemsMean items sys names) ⊎ ((f : SortFault) × IsFirstOfItems items f)
  total = by_declarations (declared_fault items [] items) refl
    where
      by_declarations : (o : Option SortFault) → declared_fault items [] items ≡ o → ((sys : System) × (names : Names) × ItemsMean items sys names) ⊎ ((f : SortFault) × IsFirstOfItems items f)
      by_declarations (Some f) e = inr (f, inl e)
      by_declarations None e = elim (bodies_total N G (bodies items)) [ inl a ↦ inl (means_one (declared_sound items e) a) | inr a ↦ inr (a.0, inr (e, a.1)) ]

  -- There is at most one first fault.
  pub one_fault : (f g : SortFault) → IsFirstOfItems items f → IsFirstOfItems items g → f ≡ g
  one_fault f g h k =
      elim h [
        | inl a ↦ elim k [ inl c ↦ one_of _ f g a c | inr c ↦ absurd (never _ f c.0 a) ]
        | inr a ↦ elim k [ inl c ↦ absurd (never _ g a.0 c) | inr c ↦ one_of_bodies N G (bodies items) f g a.1 c.1 ]
      ]

-- A clause is read exactly.
use Rattle.std.proofs.Common.{◌≡◌, ℕ, ◌^◌, ◌<◌, ◌≤◌, inl, inr, false, List, [], ◌∷◌, ◌++◌, length, codes, decimal, refl, sym, ap, subst, ◌∙◌, append_assoc, arith}
use Rattle.std.specs.List.{All, AllByRecursion}
use Rattle.std.proofs.lemmas.Bool.{cases_lt, eq-eqb, ne_eqb}
use Rattle.std.proofs.lemmas.Fmt.{decimal_digit}
use Rattle.std.proofs.lemmas.List.Elements.{All-from_recursion, recursion_from_All}
use Rattle.fo_core.specs.declared.signature.Sig.{Sig}
use Rattle.fo_core.specs.declared.names.Names.{Names}
use Rattle.fo_text.specs.Parts.{IsBetween, number_text}
use Rattle.fo_text.specs.Reading.{Read, ◌>>=◌, number_at, choose}
use Rattle.fo_text.proofs.Exact.{Exact, exact_map, exact_then, exact_pair, exact_words}
use Rattle.fo_text.proofs.Numbers.{exact_number}
use Rattle.fo_text.proofs.Choices.{Among, exact_choose}
use Rattle.up_diagram.specs.declared.cube.Flat.{Flat}
use Rattle.up_diagram.specs.Cubes.{IsFlat, IsCube}
use Rattle.up_claims.specs.declared.verdict.Kept.{Kept}
use Rattle.up_report.specs.declared.clause_heads.Head.{Head}
use Rattle.up_report.specs.declared.clause_heads.Head.TheVariants.{Forall, Nothing, Equal, Applied}
use Rattle.up_report.specs.ClauseTexts.{CanName, joined, binder_texts, binders_text, denials_text, clause_text, HasClause}
use Rattle.up_report.specs.ClauseReading.{heads, head_text, first_heads, is_forall, body_from, body_at, binder_at, chain, made, bound_at, free_from, kept_from, clause_at}
use Rattle.up_report.proofs.ClauseHeads.{heads_apart, body_good, first_good, first_none, first_some}
use Rattle.up_report.proofs.ClauseBinders.{BindersFit, binders_chain, exact_binders, few_sorts, all_sorts, binders_from, binder_words}
use Rattle.up_report.proofs.ClauseBodies.{body_line, BodyHead, BodyThen, body_rest, IsBody, exact_body_from, body_head, body_joins, body_parts, exact_body}

module _ (sig : Sig) (names : Names) (named : CanName sig names) where
  abbrev heading : Head → List ℕ
  heading = head_text sig names

  none_few : length {A = ℕ} [] < 2 ^ 64
  none_few = omega arith

  -- ---- what follows the level

  -- a well-sorted cube over fewer than 2^32 variables, with this level
  pub record Suits (level : ℕ) (kept : Kept) : Type 0 where
    pub level_is : kept.level ≡ level
    pub cube : IsCube sig kept.cube
    pub few : length kept.cube.sorts < 2 ^ 32

  abbrev pub start_text : Kept → List ℕ
  start_text kept = (binders_text names kept.cube.sorts ++ denials_text names kept.cube.lits) ++ codes "\n"

  -- without variables

  record IsFree (level : ℕ) (h : Head) (kept : Kept) : Type 0 where
    lits : List Flat
    body : BodyThen sig names named [] none_few h lits
    is : made level [] lits ≡ kept

  abbrev free_rest : Head → Kept → List ℕ
  free_rest h kept = body_rest sig names named [] none_few h kept.cube.lits

  exact_free : (level : ℕ) (h : Head) → BodyHead sig names named [] none_few h → Exact (IsFree level h) (free_rest h) (free_from sig names level h)
  unfolding free_from
  exact_free level h d =
      exact_map (BodyThen sig names named [] none_few h) (body_rest sig names named [] none_few h) (body_from sig names [] h) (IsFree level h) (free_rest h) (free_from sig names level h)
      (λ lits. made level [] lits) (λ bytes. refl)
      (λ lits b. (record { lits = lits; body = b; is = refl }, refl)) (λ kept f. (f.lits, f.body, f.is))
      (exact_body_from sig names named [] none_few h d)

  free_suits : (level : ℕ) (lits : List Flat) → IsBody sig names named [] none_few lits → Suits level (made level [] lits)
  free_suits level lits b = record { level_is = refl; cube = record { sorts = λ k d lt. absurd (omega arith); lits = All-from_recursion (IsFlat sig []) lits b }; few = omega arith }

  free_joins : (level : ℕ) (h : Head) (kept : Kept) → IsFree level h kept → Suits level kept × (start_text kept ≡ heading h ++ free_rest h kept)
  free_joins level h kept f =
      let j = body_joins sig names named [] none_few h f.lits f.body in
      subst (λ (x : Kept). Suits level x × (start_text x ≡ heading h ++ free_rest h x)) f.is (free_suits level f.lits j.0, j.1)

  no_sorts : (level : ℕ) (kept : Kept) → kept.level ≡ level → kept.cube.sorts ≡ [] → made level [] kept.cube.lits ≡ kept
  no_sorts level kept e s = ap (λ (l : ℕ). made l [] kept.cube.lits) (sym e) ∙ ap (λ (ss : List ℕ). made kept.level ss kept.cube.lits) (sym s)

  free_parts : (level : ℕ) (kept : Kept) → Suits level kept → kept.cube.sorts ≡ [] → (h : Head) × Among (Nothing ∷ heads sig []) h × IsFree level h kept
  free_parts level kept s e =
      let flat = recursion_from_All (IsFlat sig []) kept.cube.lits (subst (λ (ss : List ℕ). All (IsFlat sig ss) kept.cube.lits) e s.cube.lits) in
      let p = body_parts sig names named [] none_few kept.cube.lits flat in
      (p.0, p.1, record { lits = kept.cube.lits; body = p.2; is = no_sorts level kept s.level_is e })

  -- where the signature has no sort

  free_by : (level : ℕ) (h : Head) → BodyHead sig names named [] none_few h → (bytes : List ℕ) → kept_from sig names level h bytes ≡ free_from sig names level h bytes
  free_by level Forall d bytes = absurd d
  free_by level Nothing d bytes = refl
  free_by level (Equal i) d bytes = refl
  free_by level (Applied sign k last) d bytes = refl

  exact_kept_free : (level : ℕ) (h : Head) → BodyHead sig names named [] none_few h → Exact (IsFree level h) (free_rest h) (kept_from sig names level h)
  exact_kept_free level h d =
      exact_words (IsFree level h) (IsFree level h) (free_rest h) (free_rest h) (free_from sig names level h) (kept_from sig names level h) (free_by level h d)
      (λ kept f. (f, refl)) (λ kept f. f) (exact_free level h d)

  abbrev start_at : ℕ → List ℕ → Read Kept
  start_at level bytes = choose heading (first_heads sig) bytes >>= λ h. kept_from sig names level h.0 h.1

  no_variables : sig.sorts ≡ 0 → (sorts : List ℕ) → All (λ s. s < sig.sorts) sorts → sorts ≡ []
  no_variables e [] a = refl
  no_variables e (s ∷ ss) a = absurd (omega (arith, a 0 0 (omega arith), e))

  exact_none : (level : ℕ) → sig.sorts ≡ 0 → Exact (Suits level) start_text (start_at level)
  exact_none level e =
      let same = first_none sig names (eq-eqb sig.sorts 0 e) in
      exact_then (Among (Nothing ∷ heads sig [])) heading (choose heading (Nothing ∷ heads sig [])) (IsFree level) free_rest (λ h. kept_from sig names level h)
      (Suits level) start_text (start_at level) (λ bytes. ap (λ (l : List Head). choose heading l bytes >>= λ h. kept_from sig names level h.0 h.1) same)
      (λ h kept a f. free_joins level h kept f) (λ kept s. free_parts level kept s (no_variables e kept.cube.sorts s.cube.sorts))
      (exact_choose heading Nothing (heads sig []) (heads_apart sig names named [] none_few (Nothing ∷ heads sig []) (body_good sig names [])))
      (λ h a. exact_kept_free level h (body_head sig names named [] none_few h a))

  -- where it has some

  module _ (some : 0 < sig.sorts) where
    wide : (sorts : List ℕ) → length sorts < 2 ^ 32 → length sorts < 2 ^ 64
    wide sorts h = omega arith

    abbrev Bound : List ℕ → Type 0
    Bound = BindersFit sig names named some

    abbrev Lits : List ℕ → List Flat → Type 0
    Lits sorts = AllByRecursion (IsFlat sig sorts)

    record IsBound (level : ℕ) (kept : Kept) : Type 0 where
      sorts : List ℕ
      lits : List Flat
      binders : Bound sorts
      body : Lits sorts lits
      is : made level sorts lits ≡ kept

    abbrev bound_rest : Kept → List ℕ
    bound_rest kept = binders_chain sig names named some kept.cube.sorts ++ body_line names kept.cube.lits

    exact_bound : (level : ℕ) → Exact (IsBound level) bound_rest (bound_at sig names level)
    unfolding bound_at
    exact_bound level =
        exact_pair Bound (binders_chain sig names named some) (chain (binder_at sig names) 0) Lits (λ sorts. body_line names) (λ sorts. body_at sig names sorts)
        (IsBound level) bound_rest (bound_at sig names level) (λ sorts lits. made level sorts lits) (λ bytes. refl)
        (λ sorts lits b l. (record { sorts = sorts; lits = lits; binders = b; body = l; is = refl }, refl))
        (λ kept f. (f.sorts, f.lits, f.binders, f.body, f.is))
        (exact_binders sig names named some)
        (λ sorts b. exact_body sig names named sorts (wide sorts (few_sorts sig names named some sorts b)))

    bound_words : (sorts : List ℕ) (lits : List Flat) → Bound sorts → (binders_text names sorts ++ denials_text names lits) ++ codes "\n" ≡ codes "forall V0:" ++ (binders_chain sig names named some sorts ++ body_line names lits)
    bound_words [] lits b = absurd b
    bound_words (s ∷ ss) lits b =
        let zero_text : decimal 0 ≡ codes "0" = decimal_digit 0 (omega arith) in
        let after : List ℕ = binders_chain sig names named some (s ∷ ss) in
        let binders : List ℕ = joined (codes ", ") (binder_texts names 0 (s ∷ ss)) in
        append_assoc (binders_text names (s ∷ ss)) (denials_text names lits) (codes "\n")
        ∙ ap (λ (l : List ℕ). (codes "forall " ++ l) ++ body_line names lits) (binder_words sig names named some 0 s ss ∙ ap (λ (l : List ℕ). (codes "V" ++ l) ++ (codes ":" ++ after)) zero_text)

    bound_joins : (level : ℕ) (kept : Kept) → IsBound level kept → Suits level kept × (start_text kept ≡ codes "forall V0:" ++ bound_rest kept)
    bound_joins level kept f =
        subst (λ (x : Kept). Suits level x × (start_text x ≡ codes "forall V0:" ++ bound_rest x)) f.is (
          record {
            level_is = refl;
            cube = record { sorts = all_sorts sig names named some f.sorts f.binders; lits = All-from_recursion (IsFlat sig f.sorts) f.lits f.body };
            few = few_sorts sig names named some f.sorts f.binders;
          },
          bound_words f.sorts f.lits f.binders,
        )

    -- whatever the head

    abbrev IsKept : ℕ → Head → Kept → Type 0
    IsKept level Forall kept = IsBound level kept
    IsKept level Nothing kept = IsFree level Nothing kept
    IsKept level (Equal i) kept = IsFree level (Equal i) kept
    IsKept level (Applied sign k last) kept = IsFree level (Applied sign k last) kept

    abbrev kept_rest : Head → Kept → List ℕ
    kept_rest Forall kept = bound_rest kept
    kept_rest Nothing kept = free_rest Nothing kept
    kept_rest (Equal i) kept = free_rest (Equal i) kept
    kept_rest (Applied sign k last) kept = free_rest (Applied sign k last) kept

    kept_joins : (level : ℕ) (h : Head) (kept : Kept) → IsKept level h kept → Suits level kept × (start_text kept ≡ heading h ++ kept_rest h kept)
    kept_joins level Forall kept f = bound_joins level kept f
    kept_joins level Nothing kept f = free_joins level Nothing kept f
    kept_joins level (Equal i) kept f = free_joins level (Equal i) kept f
    kept_joins level (Applied sign k last) kept f = free_joins level (Applied sign k last) kept f

    abbrev first : List Head
    first = Forall ∷ Nothing ∷ heads sig []

    kept_free : (level : ℕ) (h : Head) (kept : Kept) → Among (Nothing ∷ heads sig []) h → IsFree level h kept → (g : Head) × Among first g × IsKept level g kept
    kept_free level h kept a f = (h, inr a, by h (body_head sig names named [] none_few h a) f)
      where
        by : (g : Head) → BodyHead sig names named [] none_few g → IsFree level g kept → IsKept level g kept
        by Forall d i = absurd d
        by Nothing d i = i
        by (Equal n) d i = i
        by (Applied sign k last) d i = i

    kept_by : (level : ℕ) (kept : Kept) (sorts : List ℕ) → kept.cube.sorts ≡ sorts → Suits level kept → (h : Head) × Among first h × IsKept level h kept
    kept_by level kept [] e s =
        let p = free_parts level kept s e in
        kept_free level p.0 kept p.1 p.2
    kept_by level kept (t ∷ ts) e s =
        let all = recursion_from_All (λ n. n < sig.sorts) (t ∷ ts) (subst (λ (ss : List ℕ). All (λ n. n < sig.sorts) ss) e s.cube.sorts) in
        let flat = recursion_from_All (IsFlat sig (t ∷ ts)) kept.cube.lits (subst (λ (ss : List ℕ). All (IsFlat sig ss) kept.cube.lits) e s.cube.lits) in
        let few : length (t ∷ ts) < 2 ^ 32 = subst (λ (ss : List ℕ). length ss < 2 ^ 32) e s.few in (
          Forall,
          inl refl,
          record {
            sorts = t ∷ ts;
            lits = kept.cube.lits;
            binders = binders_from sig names named some 0 t ts all (omega (arith, few));
            body = flat;
            is = ap (λ (l : ℕ). made l (t ∷ ts) kept.cube.lits) (sym s.level_is) ∙ ap (λ (ss : List ℕ). made kept.level ss kept.cube.lits) (sym e);
          },
        )

    exact_kept : (level : ℕ) (h : Head) → Among first h → Exact (IsKept level h) (kept_rest h) (kept_from sig names level h)
    exact_kept level Forall a = exact_bound level
    exact_kept level Nothing a = exact_kept_free level Nothing tt
    exact_kept level (Equal i) a = exact_kept_free level (Equal i) (body_head sig names named [] none_few (Equal i) (not_first (Equal i) a refl))
      where
        not_first : (h : Head) → Among first h → is_forall h ≡ false → Among (Nothing ∷ heads sig []) h
        not_first h b e = elim b [
          | inl same ↦ let f = ap is_forall same in absurd cc
          | inr l ↦ l
        ]
    exact_kept level (Applied sign k last) a = exact_kept_free level (Applied sign k last) (body_head sig names named [] none_few (Applied sign k last) (not_first (Applied sign k last) a refl))
      where
        not_first : (h : Head) → Among first h → is_forall h ≡ false → Among (Nothing ∷ heads sig []) h
        not_first h b e = elim b [
          | inl same ↦ let f = ap is_forall same in absurd cc
          | inr l ↦ l
        ]

    exact_some : (level : ℕ) → Exact (Suits level) start_text (start_at level)
    exact_some level =
        let same : first_heads sig ≡ first = first_some sig names (ne_eqb sig.sorts 0 (λ e. omega arith)) in
        exact_then (Among first) heading (choose heading first) (IsKept level) kept_rest (λ h. kept_from sig names level h)
        (Suits level) start_text (start_at level) (λ bytes. ap (λ (l : List Head). choose heading l bytes >>= λ h. kept_from sig names level h.0 h.1) same)
        (λ h kept a f. kept_joins level h kept f) (λ kept s. kept_by level kept kept.cube.sorts refl s)
        (exact_choose heading Forall (Nothing ∷ heads sig []) (heads_apart sig names named [] none_few first (λ h a. first_good sig names h (subst (λ (l : List Head). Among l h) (sym same) a))))
        (exact_kept level)

  exact_start : (level : ℕ) → Exact (Suits level) start_text (start_at level)
  exact_start level = elim (cases_lt 0 sig.sorts) [
    | inl some ↦ exact_some some level
    | inr le ↦ exact_none level (omega arith)
  ]

  -- ---- the whole

  line_words : (a b d n : List ℕ) → ((a ++ b) ++ d) ++ n ≡ a ++ ((b ++ d) ++ n)
  line_words a b d n = ap (λ (l : List ℕ). l ++ n) (append_assoc a b d) ∙ append_assoc a (b ++ d) n

  joins : (least most level : ℕ) (kept : Kept) → IsBetween least most level → Suits level kept → HasClause sig least most kept × (clause_text names kept ≡ number_text 32 level ++ start_text kept)
  joins least most level kept h s = (
    record { level = subst (IsBetween least most) (sym s.level_is) h; cube = s.cube; few = s.few },
    line_words (decimal kept.level ++ codes " ") (binders_text names kept.cube.sorts) (denials_text names kept.cube.lits) (codes "\n")
        ∙ ap (λ (l : ℕ). (decimal l ++ codes " ") ++ start_text kept) s.level_is,
  )

  pub exact_clause : (least most : ℕ) → least ≤ most → most < 2 ^ 64 → Exact (HasClause sig least most) (clause_text names) (clause_at sig names least most)
  unfolding clause_at
  exact_clause least most range small =
      exact_then (IsBetween least most) (number_text 32) (number_at least most 32) Suits (λ level. start_text) start_at
      (HasClause sig least most) (clause_text names) (clause_at sig names least most) (λ bytes. refl)
      (joins least most) (λ kept h. (kept.level, h.level, record { level_is = refl; cube = h.cube; few = h.few }))
      (exact_number least most 32 (record { range = range; small = small; ends = omega arith })) (λ level h. exact_start level)

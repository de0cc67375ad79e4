-- What a `Solver` replies.
use Rattle.std.proofs.Common.{◌≡◌, ℕ, ◌<◌, ◌≤◌, ◌+◌, ◌↔◌, Bool, not, List, [], ◌∷◌, ◌++◌, map, take, length, get_or, refl, sym, ◌∙◌, ap, subst, inl, inr, arith, append_assoc}
use Rattle.std.specs.List.{Contains}
use Rattle.std.proofs.lemmas.List.{take_more, take_all, map_push}
use Rattle.std.proofs.lemmas.List.Elements.{All-contains, All-push, All-append, All-map, All-weaker, All-cons, All-nil, Contains-get_or, Contains-append_left, Contains-append_right}
use Rattle.prop_core.specs.declared.lit.Lit.{Lit}
use Rattle.prop_core.specs.Formula.{negated, value_of, MeetsClause, MeetsAll, IsWithin, AreWithin}
use Rattle.prop_core.specs.Answers.{HaveNoValues}
use Rattle.prop_core.proofs.Clauses.{not_itself, not-not, negated-negated, clause_cases, Contains-cons_cases, Contains-none, Contains-map, Contains-from_map, All-from_contains}
use Rattle.prop_check.specs.Kept.{Kept, IsImplied}
use Rattle.prop_cdcl.specs.declared.solver.Reply.{Reply}
use Rattle.prop_cdcl.specs.declared.solver.Reply.TheVariants.{Values, Denied}
use Rattle.prop_cdcl.specs.Questions.{Known, AreTrue, OnlyDenies, IsReply, SaysDenied, HaveNoValuesUnder}

-- a clause of denied assumptions that is met denies one of them
not_both : (v : ℕ → Bool) (assumptions clause : List Lit) → OnlyDenies assumptions clause → MeetsClause v clause → AreTrue v assumptions → ⊥
not_both v assumptions clause denies met are =
    let l : Lit = met.1 in
    let assumed : Contains assumptions (negated l) = All-contains (λ (m : Lit). Contains assumptions (negated m)) clause l denies (met.0, met.2, met.3) in
    let so : v l.var ≡ not l.positive = All-contains (λ (m : Lit). v m.var ≡ m.positive) assumptions (negated l) are assumed in
    not_itself l.positive (sym met.4 ∙ so)

-- a reply says that there are no values exactly where there are none
pub reply_exact : (vars : ℕ) (clauses : List (List Lit)) (assumptions : List Lit) (r : Reply) → IsReply vars clauses assumptions r → SaysDenied r ↔ HaveNoValuesUnder clauses assumptions
reply_exact vars clauses assumptions (Values values) h = (λ f. absurd f, λ none. none (value_of values) h.1 h.2)
reply_exact vars clauses assumptions (Denied clause) h = (λ _ v meets are. not_both v assumptions clause h.0 (h.1 v meets) are, λ _. tt)

pub reply_for : (k : Known) (vars : ℕ) (clauses : List (List Lit)) (assumptions : List Lit) (r : Reply) → vars ≡ k.vars → clauses ≡ k.clauses → IsReply vars clauses assumptions r → IsReply k.vars k.clauses assumptions r
reply_for k vars clauses assumptions r e f h =
    let P : ℕ → Type 0 = λ n. IsReply n clauses assumptions r in
    let Q : List (List Lit) → Type 0 = λ cs. IsReply k.vars cs assumptions r in
    subst Q f (subst P e h)

-- one more denied assumption
pub denial_more : (assumptions clause clause' : List Lit) (i : ℕ) (d : Lit) → i < length assumptions → OnlyDenies assumptions clause → clause' ≡ clause ++ negated (get_or assumptions i d) ∷ [] → OnlyDenies assumptions clause'
denial_more assumptions clause clause' i d within denies is =
    let l : Lit = get_or assumptions i d in
    let P : List Lit → Type 0 = λ c. OnlyDenies assumptions c in
    let Q : Lit → Type 0 = λ m. Contains assumptions m in
    subst P (sym is) (All-push (λ (m : Lit). Contains assumptions (negated m)) clause (negated l) denies (subst Q (sym (negated-negated l)) (Contains-get_or assumptions i d within)))

pub within_denial : (vars : ℕ) (assumptions clause : List Lit) → IsWithin vars assumptions → OnlyDenies assumptions clause → IsWithin vars clause
within_denial vars assumptions clause within denies =
    All-from_contains (λ (l : Lit). l.var < vars) clause (λ l h.
    All-contains (λ (m : Lit). m.var < vars) assumptions (negated l) within (All-contains (λ (m : Lit). Contains assumptions (negated m)) clause l denies h))

pub negated_more : (lits clause clause' : List Lit) (i : ℕ) (d : Lit) → i < length lits → clause ≡ map negated (take i lits) → clause' ≡ clause ++ negated (get_or lits i d) ∷ [] → clause' ≡ map negated (take (i + 1) lits)
negated_more lits clause clause' i d within so is =
    is ∙ ap (λ c. c ++ negated (get_or lits i d) ∷ []) so ∙ sym (map_push negated (take i lits) (get_or lits i d)) ∙ ap (map negated) (sym (take_more lits i d within))

-- each literal as a clause of its own
abbrev pub units : List Lit → List (List Lit)
units lits = map (λ l. l ∷ []) lits

pub units_more : (given : List (List Lit)) (lits : List Lit) (clauses clauses' : List (List Lit)) (clause : List Lit) (i : ℕ) (d : Lit) → i < length lits → clauses ≡ given ++ units (take i lits) → clauses' ≡ clauses ++ clause ∷ [] → clause ≡ get_or lits i d ∷ [] → clauses' ≡ given ++ units (take (i + 1) lits)
units_more given lits clauses clauses' clause i d within so is unit =
    let l : Lit = get_or lits i d in
    is ∙ ap (λ cs. cs ++ clause ∷ []) so ∙ ap (λ c. (given ++ units (take i lits)) ++ c ∷ []) unit
    ∙ append_assoc given (units (take i lits)) ((l ∷ []) ∷ [])
    ∙ ap (λ cs. given ++ cs) (sym (map_push (λ (m : Lit). m ∷ []) (take i lits) l) ∙ ap units (sym (take_more lits i d within)))

pub units_end : (given given' : List (List Lit)) (lits : List Lit) (clauses result : List (List Lit)) (i : ℕ) → length lits ≤ i → clauses ≡ given ++ units (take i lits) → given ≡ given' → result ≡ clauses → result ≡ given' ++ units lits
units_end given given' lits clauses result i past so same is =
    is ∙ so ∙ ap (λ ls. given ++ units ls) (take_all i lits past) ∙ ap (λ g. g ++ units lits) same

within_unit : (vars : ℕ) (l : Lit) → l.var < vars → IsWithin vars (l ∷ [])
within_unit vars l h = All-cons (λ (m : Lit). m.var < vars) l [] h (All-nil (λ (m : Lit). m.var < vars))

pub within_units : (vars vars' : ℕ) (given : List (List Lit)) (lits : List Lit) (result : List (List Lit)) → AreWithin vars given → IsWithin vars lits → vars' ≡ vars → result ≡ given ++ units lits → AreWithin vars' result
within_units vars vars' given lits result within assumed same is =
    let P : List (List Lit) → Type 0 = λ cs. AreWithin vars' cs in
    let Q : ℕ → Type 0 = λ n. AreWithin n (given ++ units lits) in
    subst P (sym is) (subst Q (sym same) (All-append (IsWithin vars) given (units lits) within
    (All-map (IsWithin vars) (λ (l : Lit). l ∷ []) lits (All-weaker (λ (l : Lit). l.var < vars) (λ (l : Lit). IsWithin vars (l ∷ [])) (within_unit vars) lits assumed))))

met_unit : (v : ℕ → Bool) (l : Lit) → MeetsClause v (l ∷ []) → v l.var ≡ l.positive
met_unit v l met =
    let P : Lit → Type 0 = λ m. v m.var ≡ m.positive in
    elim (Contains-cons_cases l [] met.1 (met.0, met.2, met.3)) [
      | inl e ↦ subst P (sym e) met.4
      | inr r ↦ absurd (Contains-none met.1 r)
    ]

unit_met : (v : ℕ → Bool) (l : Lit) → v l.var ≡ l.positive → MeetsClause v (l ∷ [])
unit_met v l is = (0, l, omega arith, refl, is)

-- values that meet the clauses and the assumptions as clauses
pub plain_values : (vars vars' : ℕ) (clauses given : List (List Lit)) (assumptions : List Lit) (values : List Bool) → vars' ≡ vars → clauses ≡ given ++ units assumptions → (length values ≡ vars') × MeetsAll (value_of values) clauses → (length values ≡ vars) × MeetsAll (value_of values) given × AreTrue (value_of values) assumptions
plain_values vars vars' clauses given assumptions values same is h =
    let v : ℕ → Bool = value_of values in
    let P : List (List Lit) → Type 0 = λ cs. MeetsAll v cs in
    let meets : MeetsAll v (given ++ units assumptions) = subst P is h.1 in (
      h.0 ∙ same,
      All-from_contains (MeetsClause v) given (λ c g. All-contains (MeetsClause v) (given ++ units assumptions) c meets (Contains-append_left given (units assumptions) c g)),
      All-from_contains (λ (l : Lit). v l.var ≡ l.positive) assumptions (λ l g.
          met_unit v l (All-contains (MeetsClause v) (given ++ units assumptions) (l ∷ []) meets (Contains-append_right given (units assumptions) (l ∷ []) (Contains-map (λ (m : Lit). m ∷ []) assumptions l g)))),
    )

-- where there are none, the clause of all denied assumptions follows
pub plain_denied : (clauses given : List (List Lit)) (assumptions clause : List Lit) → clauses ≡ given ++ units assumptions → HaveNoValues clauses → clause ≡ map negated assumptions → OnlyDenies assumptions clause × IsImplied given clause
plain_denied clauses given assumptions clause is none all =
    let P : List Lit → Type 0 = λ c. OnlyDenies assumptions c × IsImplied given c in
    subst P (sym all) (
      All-from_contains (λ (l : Lit). Contains assumptions (negated l)) (map negated assumptions) (λ l h.
          let s = Contains-from_map negated assumptions l h in
          let Q : Lit → Type 0 = λ m. Contains assumptions m in
          subst Q (sym (negated-negated s.0) ∙ ap negated s.2) s.1),
      λ v meets. elim (clause_cases v (map negated assumptions)) [
        | inl m ↦ m
        | inr no_one ↦
            let R : List (List Lit) → Type 0 = λ cs. MeetsAll v cs in
            let true_so : (l : Lit) → Contains assumptions l → v l.var ≡ l.positive = λ l h. no_one (negated l) (Contains-map negated assumptions l h) ∙ not-not l.positive in
            absurd (none v (subst R (sym is) (All-append (MeetsClause v) given (units assumptions) meets
            (All-map (MeetsClause v) (λ (l : Lit). l ∷ []) assumptions (All-from_contains (λ (l : Lit). MeetsClause v (l ∷ [])) assumptions (λ l h. unit_met v l (true_so l h)))))))
      ],
    )

-- what is known is what is given
abbrev pub known : Kept → Known
known k = record { vars = k.vars; clauses = k.given }

pub known_same : (o n : Kept) (k : Known) → known o ≡ k → n.vars ≡ o.vars → n.given ≡ o.given → known n ≡ k
known_same o n k is e f =
    let make : ℕ → List (List Lit) → Known = λ a b. record { vars = a; clauses = b } in
    ap (λ a. make a n.given) e ∙ ap (λ b. make o.vars b) f ∙ is

pub known_grown : (o n : Kept) (k : Known) (m : ℕ) → known o ≡ k → n ≡ record o { vars = o.vars + m } → known n ≡ record k { vars = k.vars + m }
known_grown o n k m is e =
    let P : Known → Type 0 = λ x. known n ≡ record x { vars = x.vars + m } in
    subst P is (ap known e)

pub known_given : (o r n : Kept) (k : Known) (s t : ℕ) (c : List Lit) → known o ≡ k → r ≡ record o { spare = s } → n ≡ record r { given = r.given ++ c ∷ []; spare = t } → known n ≡ record k { clauses = k.clauses ++ c ∷ [] }
known_given o r n k s t c is e f =
    let P : Known → Type 0 = λ x. known n ≡ record x { clauses = x.clauses ++ c ∷ [] } in
    let g : Kept → Known = λ x. record { vars = x.vars; clauses = x.given ++ c ∷ [] } in
    subst P is (ap known f ∙ ap g e)

-- values that were looked at
pub asked_met : (vars : ℕ) (given : List (List Lit)) (assumptions : List Lit) (seen seen' values result : List Bool) → MeetsAll (value_of seen) given → seen ≡ values → AreTrue (value_of seen') assumptions → seen' ≡ values → result ≡ values → length values ≡ vars → (length result ≡ vars) × MeetsAll (value_of result) given × AreTrue (value_of result) assumptions
asked_met vars given assumptions seen seen' values result meets e are f is len =
    let P : List Bool → Type 0 = λ vs. MeetsAll (value_of vs) given in
    let Q : List Bool → Type 0 = λ vs. AreTrue (value_of vs) assumptions in
    (ap length is ∙ len, subst P (e ∙ sym is) meets, subst Q (f ∙ sym is) are)

pub within_denial_for : (vars vars' : ℕ) (assumptions clause : List Lit) → IsWithin vars assumptions → vars' ≡ vars → OnlyDenies assumptions clause → IsWithin vars' clause
within_denial_for vars vars' assumptions clause within same denies =
    let P : ℕ → Type 0 = λ n. IsWithin n clause in
    subst P (sym same) (within_denial vars assumptions clause within denies)

pub implied_for : (given given' : List (List Lit)) (clause : List Lit) → IsImplied given clause → given ≡ given' → IsImplied given' clause
implied_for given given' clause implied same = let P : List (List Lit) → Type 0 = λ cs. IsImplied cs clause in subst P same implied

pub within_same : (vars vars' : ℕ) (clause : List Lit) → IsWithin vars clause → vars' ≡ vars → IsWithin vars' clause
within_same vars vars' clause within same = let P : ℕ → Type 0 = λ n. IsWithin n clause in subst P (sym same) within

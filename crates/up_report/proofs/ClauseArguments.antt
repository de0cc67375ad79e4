-- Variables and arguments are read exactly.
use Rattle.std.proofs.Common.{◌≡◌, ℕ, zero, suc, ◌^◌, ◌<◌, Bool, true, false, cond, eqb, List, [], ◌∷◌, ◌++◌, length, map, flat_map, codes, decimal, Ok, Err, refl, sym, ap, ◌∙◌, append_assoc, arith}
use Rattle.std.specs.Prelude.{⊤}
use Rattle.std.specs.List.{AllByRecursion, AllZip}
use Rattle.std.proofs.Math.Dec.{eqb-suc-zero}
use Rattle.std.proofs.lemmas.List.{append-nil}
use Rattle.fo_text.specs.Reading.{Read, ◌>>=◌, choose, choice_at}
use Rattle.fo_text.proofs.Exact.{Exact, exact_map, exact_words, exact_pair}
use Rattle.fo_text.proofs.Choices.{Among, Apart, text_at, exact_choose, exact_choice}
use Rattle.up_diagram.specs.Cubes.{HasSort}
use Rattle.up_report.specs.declared.clause_heads.Ending.{Ending}
use Rattle.up_report.specs.declared.clause_heads.Ending.TheVariants.{Argument, LastArgument, Denial}
use Rattle.up_report.specs.ClauseTexts.{variable_text, applied_text}
use Rattle.up_report.specs.ClauseReading.{texts, ended_variable, variable_at, argument_ending, arguments_at}
use Rattle.up_report.proofs.ClauseWords.{some_text}
use Rattle.up_report.proofs.ClauseVariables.{options, IsOption, to_option, from_option, variables_apart, variable_is}

pub exact_among : {X : Type 0} (text : X → List ℕ) (xs : List X) (x : X) → Among xs x → Apart text xs → Exact (Among xs) text (choose text xs)
exact_among text [] x h apart = absurd h
exact_among text (y ∷ xs) x h apart = exact_choose text y xs apart

-- ---- a variable

pub exact_variable : (sorts : List ℕ) (ending : Ending) (s v : ℕ) → length sorts < 2 ^ 64 → HasSort sorts v s → Exact (IsOption sorts ending s) (ended_variable ending) (variable_at sorts ending s)
exact_variable sorts ending s v few h =
    exact_words (Among (options sorts ending s)) (IsOption sorts ending s) (ended_variable ending) (ended_variable ending) (choose (ended_variable ending) (options sorts ending s)) (variable_at sorts ending s)
    (variable_is sorts ending s) (λ x a. (from_option sorts ending s x a, refl)) (λ x i. to_option sorts ending s x i)
    (exact_among (ended_variable ending) (options sorts ending s) (v, 0) (to_option sorts ending s (v, 0) (record { variable = h; end = some_text ending })) (variables_apart sorts ending s few))

-- the place of the text that tells whether the line ends
abbrev pub last_place : Bool → ℕ
last_place last = cond last 1 0

-- what ends a denial
abbrev pub end_text : Bool → List ℕ
end_text last = text_at (texts Denial) (last_place last)

place_is : (e : ℕ) → e < 2 → last_place (eqb e 1) ≡ e
place_is zero h = refl
place_is (suc zero) h = refl
place_is (suc (suc e)) h = absurd (omega arith)

last_is : (last : Bool) → eqb (last_place last) 1 ≡ last
last_is true = refl
last_is false = refl

place_below : (last : Bool) → last_place last < 2
place_below true = omega arith
place_below false = omega arith

-- the end of a denial, and whether the line ends
abbrev pub end_at : List ℕ → Read Bool
end_at bytes = choice_at [] [] (texts Denial) bytes >>= λ e. Ok (eqb e.0 1, e.1)

pub exact_end : Exact (λ (last : Bool). ⊤) end_text end_at
exact_end =
    exact_map (λ k. k < 2) (text_at (texts Denial)) (choice_at [] [] (texts Denial)) (λ last. ⊤) end_text end_at (λ e. eqb e 1) (λ bytes. refl)
    (λ e h. (tt, ap (text_at (texts Denial)) (place_is e h))) (λ last t. (last_place last, place_below last, last_is last))
    (exact_choice (codes " | ") (codes "\n" ∷ []) refl)

-- a variable with the end of a denial
abbrev pub last_variable_at : List ℕ → ℕ → List ℕ → Read (ℕ × Bool)
last_variable_at sorts s bytes = variable_at sorts Denial s bytes >>= λ v. Ok ((v.0.0, eqb v.0.1 1), v.1)

pub exact_last_variable : (sorts : List ℕ) (s v : ℕ) → length sorts < 2 ^ 64 → HasSort sorts v s → Exact (λ (y : ℕ × Bool). HasSort sorts y.0 s) (λ y. decimal y.0 ++ end_text y.1) (last_variable_at sorts s)
exact_last_variable sorts s v few h =
    exact_map (IsOption sorts Denial s) (ended_variable Denial) (variable_at sorts Denial s) (λ (y : ℕ × Bool). HasSort sorts y.0 s) (λ y. decimal y.0 ++ end_text y.1) (last_variable_at sorts s)
    (λ x. (x.0, eqb x.1 1)) (λ bytes. refl)
    (λ x i. (i.variable, ap (λ (e : ℕ). decimal x.0 ++ text_at (texts Denial) e) (place_is x.1 i.end)))
    (λ y k. ((y.0, last_place y.1), record { variable = k; end = place_below y.1 }, ap (λ (b : Bool). (y.0, b)) (last_is y.1)))
    (exact_variable sorts Denial s v few h)

-- ---- arguments

abbrev argument_at : List ℕ → Ending → ℕ → List ℕ → Read ℕ
argument_at sorts ending s bytes = variable_at sorts ending s bytes >>= λ v. Ok (v.0.0, v.1)

exact_argument : (sorts : List ℕ) (ending : Ending) (s v : ℕ) → length sorts < 2 ^ 64 → HasSort sorts v s → length (texts ending) ≡ 1 → Exact (λ w. HasSort sorts w s) (λ w. decimal w ++ text_at (texts ending) 0) (argument_at sorts ending s)
exact_argument sorts ending s v few h one =
    exact_map (IsOption sorts ending s) (ended_variable ending) (variable_at sorts ending s) (λ w. HasSort sorts w s) (λ w. decimal w ++ text_at (texts ending) 0) (argument_at sorts ending s)
    (λ x. x.0) (λ bytes. refl)
    (λ x i. let e : 0 ≡ x.1 = omega (arith, i.end, one) in (i.variable, ap (λ (e : ℕ). decimal x.0 ++ text_at (texts ending) e) e))
    (λ w k. ((w, 0), record { variable = k; end = some_text ending }, refl))
    (exact_variable sorts ending s v few h)

-- variables up to the bracket that closes, from the number of the first one on
abbrev pub arguments_text : List ℕ → List ℕ
arguments_text [] = []
arguments_text (v ∷ []) = decimal v ++ codes ")"
arguments_text (v ∷ w ∷ vs) = decimal v ++ (codes ", V" ++ arguments_text (w ∷ vs))

commas : (v : ℕ) (vs : List ℕ) → (variable_text v ++ flat_map (λ u. codes ", " ++ u) (map variable_text vs)) ++ codes ")" ≡ codes "V" ++ arguments_text (v ∷ vs)
commas v [] = ap (λ (l : List ℕ). l ++ codes ")") (append-nil (variable_text v))
commas v (w ∷ vs) =
    append_assoc (variable_text v) (codes ", " ++ (variable_text w ++ flat_map (λ u. codes ", " ++ u) (map variable_text vs))) (codes ")")
    ∙ ap (λ (l : List ℕ). variable_text v ++ (codes ", " ++ l)) (commas w vs)

pub applied_words : (name : List ℕ) (v : ℕ) (vs : List ℕ) → applied_text name (v ∷ vs) ≡ name ++ (codes "(V" ++ arguments_text (v ∷ vs))
applied_words name v vs =
    let commas_text : List ℕ = variable_text v ++ flat_map (λ u. codes ", " ++ u) (map variable_text vs) in
    ap (λ (l : List ℕ). l ++ codes ")") (append_assoc name (codes "(") commas_text) ∙ append_assoc name (codes "(" ++ commas_text) (codes ")")
    ∙ ap (λ (l : List ℕ). name ++ (codes "(" ++ l)) (commas v vs)

-- each of these sorts has a variable
abbrev pub HaveVariables : List ℕ → List ℕ → Type 0
HaveVariables sorts wanted = AllByRecursion (λ s. (v : ℕ) × HasSort sorts v s) wanted

abbrev first_value : Read (ℕ × ℕ) → Read ℕ
first_value r = r >>= λ v. Ok (v.0.0, v.1)

abbrev with_others : List ℕ → List ℕ → Read ℕ → Read (List ℕ)
with_others sorts ss r = r >>= λ w. arguments_at sorts ss w.1 >>= λ vs. Ok (w.0 ∷ vs.0, vs.1)

abbrev valued_others : List ℕ → List ℕ → Read (ℕ × ℕ) → Read (List ℕ)
valued_others sorts ss r = r >>= λ v. arguments_at sorts ss v.1 >>= λ vs. Ok (v.0.0 ∷ vs.0, vs.1)

then_others : (sorts ss : List ℕ) (r : Read (ℕ × ℕ)) → valued_others sorts ss r ≡ with_others sorts ss (first_value r)
then_others sorts ss (Ok v) = refl
then_others sorts ss (Err left) = refl

arguments_cons : (sorts : List ℕ) (s : ℕ) (ss bytes : List ℕ) → arguments_at sorts (s ∷ ss) bytes ≡ with_others sorts ss (argument_at sorts (argument_ending (length ss)) s bytes)
unfolding arguments_at
arguments_cons sorts s ss bytes = then_others sorts ss (variable_at sorts (argument_ending (length ss)) s bytes)

arguments_nil : (sorts bytes : List ℕ) → arguments_at sorts [] bytes ≡ Ok ([], bytes)
unfolding arguments_at
arguments_nil sorts bytes = refl

abbrev alone : Read ℕ → Read (List ℕ)
alone r = r >>= λ w. Ok (w.0 ∷ [], w.1)

no_others : (sorts : List ℕ) (r : Read ℕ) → with_others sorts [] r ≡ alone r
no_others sorts (Ok w) = ap (λ (q : Read (List ℕ)). q >>= λ vs. Ok (w.0 ∷ vs.0, vs.1)) (arguments_nil sorts w.1)
no_others sorts (Err left) = refl

one_text : (sorts : List ℕ) (s : ℕ) (bytes : List ℕ) → arguments_at sorts (s ∷ []) bytes ≡ alone (argument_at sorts LastArgument s bytes)
one_text sorts s bytes = arguments_cons sorts s [] bytes ∙ no_others sorts (argument_at sorts LastArgument s bytes)

more_text : (sorts : List ℕ) (s t : ℕ) (ss bytes : List ℕ) → arguments_at sorts (s ∷ t ∷ ss) bytes ≡ with_others sorts (t ∷ ss) (argument_at sorts Argument s bytes)
more_text sorts s t ss bytes =
    arguments_cons sorts s (t ∷ ss) bytes
    ∙ ap (λ (c : Bool). with_others sorts (t ∷ ss) (argument_at sorts (cond c LastArgument Argument) s bytes)) (eqb-suc-zero (length ss))

pub exact_arguments : (sorts : List ℕ) → length sorts < 2 ^ 64 → (s : ℕ) (ss : List ℕ) → HaveVariables sorts (s ∷ ss) → Exact (λ vs. AllZip (HasSort sorts) vs (s ∷ ss)) arguments_text (arguments_at sorts (s ∷ ss))
exact_arguments sorts few s [] have =
    exact_map (λ w. HasSort sorts w s) (λ w. decimal w ++ codes ")") (argument_at sorts LastArgument s) (λ vs. AllZip (HasSort sorts) vs (s ∷ [])) arguments_text (arguments_at sorts (s ∷ []))
    (λ w. w ∷ []) (one_text sorts s) (λ w h. ((h, tt), refl)) back (exact_argument sorts LastArgument s have.0.0 few have.0.1 refl)
  where
    back : (vs : List ℕ) → AllZip (HasSort sorts) vs (s ∷ []) → (w : ℕ) × HasSort sorts w s × (w ∷ [] ≡ vs)
    back [] h = absurd h
    back (v ∷ []) h = (v, h.0, refl)
    back (v ∷ w ∷ vs) h = absurd h.1
exact_arguments sorts few s (t ∷ ss) have =
    exact_pair (λ w. HasSort sorts w s) (λ w. decimal w ++ codes ", V") (argument_at sorts Argument s) (λ w vs. AllZip (HasSort sorts) vs (t ∷ ss)) (λ w. arguments_text) (λ w. arguments_at sorts (t ∷ ss))
    (λ vs. AllZip (HasSort sorts) vs (s ∷ t ∷ ss)) arguments_text (arguments_at sorts (s ∷ t ∷ ss)) (λ w vs. w ∷ vs)
    (more_text sorts s t ss) (λ w vs h k. ((h, k), words w vs k)) back (exact_argument sorts Argument s have.0.0 few have.0.1 refl) (λ w h. exact_arguments sorts few t ss have.1)
  where
    words : (w : ℕ) (vs : List ℕ) → AllZip (HasSort sorts) vs (t ∷ ss) → arguments_text (w ∷ vs) ≡ (decimal w ++ codes ", V") ++ arguments_text vs
    words w [] k = absurd k
    words w (v ∷ vs) k = sym (append_assoc (decimal w) (codes ", V") (arguments_text (v ∷ vs)))

    back : (vs : List ℕ) → AllZip (HasSort sorts) vs (s ∷ t ∷ ss) → (w : ℕ) × (us : List ℕ) × HasSort sorts w s × AllZip (HasSort sorts) us (t ∷ ss) × (w ∷ us ≡ vs)
    back [] h = absurd h
    back (v ∷ vs) h = (v, vs, h.0, h.1, refl)

-- Denials are read exactly.
use Rattle.std.proofs.Common.{◌≡◌, ℕ, zero, suc, ◌^◌, ◌<◌, ◌⊎◌, inl, inr, Bool, true, false, cond, eqb, not, ◌&&◌, ◌||◌, List, [], ◌∷◌, ◌++◌, length, get_or, codes, decimal, Result, Ok, Err, refl, sym, ap, subst, ◌∙◌, append_assoc, arith}
use Rattle.std.specs.Prelude.{⊤}
use Rattle.std.specs.List.{AllZip, list_any, list_all}
use Rattle.std.proofs.lemmas.Bool.{eq-eqb, ne_eqb, eqb-true}
use Rattle.std.proofs.Math.Dec.{eqb-suc-zero}
use Rattle.std.proofs.lemmas.List.{append-nil, nil_from_length}
use Rattle.fo_core.specs.declared.signature.Symbol.{Symbol}
use Rattle.fo_core.specs.declared.signature.Sig.{Sig}
use Rattle.fo_core.specs.declared.names.Names.{Names}
use Rattle.fo_core.specs.Tables.{symbol_at}
use Rattle.fo_text.specs.Reading.{Read, ◌>>=◌, literal_at, choose, choice_at}
use Rattle.fo_text.proofs.Exact.{Exact, exact_done, exact_map, exact_then, exact_words, exact_pair, exact_after}
use Rattle.fo_text.proofs.Choices.{Among, text_at}
use Rattle.up_diagram.specs.declared.cube.Flat.{Flat}
use Rattle.up_diagram.specs.declared.cube.Flat.TheVariants.{Differ, Fact, Value}
use Rattle.up_diagram.specs.Cubes.{HasSort, IsApplied, IsFlat}
use Rattle.up_report.specs.declared.clause_heads.Head.{Head}
use Rattle.up_report.specs.declared.clause_heads.Head.TheVariants.{Forall, Nothing, Equal, Applied}
use Rattle.up_report.specs.declared.clause_heads.Ending.{Ending}
use Rattle.up_report.specs.declared.clause_heads.Ending.TheVariants.{Denial, Arguments, Unequal}
use Rattle.up_report.specs.ClauseTexts.{CanName, symbol_name, mark, variable_text, denial_text}
use Rattle.up_report.specs.ClauseReading.{texts, variable_at, arguments_at, has_variable, stands, may_stand, has_arguments, name_ending, heads, head_text, differ_at, fact_at, constant_at, value_at, applied_at, denied_at, denial_at}
use Rattle.up_report.proofs.ClauseHeads.{IsSymbolHead, IsDenialHead, heads_good, heads_apart, from_heads, to_equal, to_symbol}
use Rattle.up_report.proofs.ClauseArguments.{last_place, end_text, end_at, exact_end, last_variable_at, exact_last_variable, arguments_text, applied_words, HaveVariables, exact_arguments, exact_among}

both : (x y : Bool) → (x && y) ≡ true → (x ≡ true) × (y ≡ true)
both true y e = (refl, e)
both false y e = absurd cc

and_true : (x y : Bool) → x ≡ true → y ≡ true → (x && y) ≡ true
and_true true y e f = f
and_true false y e f = absurd cc

or_right : (x y : Bool) → y ≡ true → (x || y) ≡ true
or_right true y e = refl
or_right false y e = e

or_second : (x y : Bool) → x ≡ false → (x || y) ≡ true → y ≡ true
or_second true y e f = absurd cc
or_second false y e f = f

-- ---- which sorts have variables

any_by : (c : Bool) (t s : ℕ) (ts : List ℕ) → eqb t s ≡ c → (list_any (λ u. eqb u s) ts ≡ true → (v : ℕ) × HasSort ts v s) → (c || list_any (λ u. eqb u s) ts) ≡ true → (v : ℕ) × HasSort (t ∷ ts) v s
any_by true t s ts is next e = (0, record { within = omega arith; sort = eqb-true t s is })
any_by false t s ts is next e = let r = next e in (suc r.0, record { within = omega (arith, r.1.within); sort = r.1.sort })

some_variable : (sorts : List ℕ) (s : ℕ) → has_variable sorts s ≡ true → (v : ℕ) × HasSort sorts v s
some_variable [] s e = absurd cc
some_variable (t ∷ ts) s e = any_by (eqb t s) t s ts refl (some_variable ts s) e

variable_any : (sorts : List ℕ) (v s : ℕ) → v < length sorts → get_or sorts v 0 ≡ s → has_variable sorts s ≡ true
variable_any [] v s h e = absurd (omega arith)
variable_any (t ∷ ts) zero s h e = ap (λ (c : Bool). c || has_variable ts s) (eq-eqb t s e)
variable_any (t ∷ ts) (suc v) s h e = or_right (eqb t s) (has_variable ts s) (variable_any ts v s (omega arith) e)

has_of : (sorts : List ℕ) (v s : ℕ) → HasSort sorts v s → has_variable sorts s ≡ true
has_of sorts v s h = variable_any sorts v s h.within h.sort

all_have : (sorts wanted : List ℕ) → list_all (has_variable sorts) wanted ≡ true → HaveVariables sorts wanted
all_have sorts [] e = tt
all_have sorts (s ∷ ss) e =
    let b = both (has_variable sorts s) (list_all (has_variable sorts) ss) e in
    (some_variable sorts s b.0, all_have sorts ss b.1)

have_all : (sorts vs wanted : List ℕ) → AllZip (HasSort sorts) vs wanted → list_all (has_variable sorts) wanted ≡ true
have_all sorts [] [] h = refl
have_all sorts [] (s ∷ ss) h = absurd h
have_all sorts (v ∷ vs) [] h = absurd h
have_all sorts (v ∷ vs) (s ∷ ss) h = and_true (has_variable sorts s) (list_all (has_variable sorts) ss) (has_of sorts v s h.0) (have_all sorts vs ss h.1)

as_many : (sorts vs wanted : List ℕ) → AllZip (HasSort sorts) vs wanted → length vs ≡ length wanted
as_many sorts [] [] h = refl
as_many sorts [] (s ∷ ss) h = absurd h
as_many sorts (v ∷ vs) [] h = absurd h
as_many sorts (v ∷ vs) (s ∷ ss) h = ap (λ (n : ℕ). suc n) (as_many sorts vs ss h.1)

exact_wanted : (sorts wanted : List ℕ) → length sorts < 2 ^ 64 → 0 < length wanted → HaveVariables sorts wanted → Exact (λ vs. AllZip (HasSort sorts) vs wanted) arguments_text (arguments_at sorts wanted)
exact_wanted sorts [] few h have = absurd (omega arith)
exact_wanted sorts (s ∷ ss) few h have = exact_arguments sorts few s ss have

-- ---- what ends a symbol's name

has_some : (symbol : Symbol) → 0 < length symbol.args → has_arguments symbol ≡ true
has_some symbol h = ap (λ (c : Bool). not c) (ne_eqb (length symbol.args) 0 (λ e. omega arith))

has_none : (symbol : Symbol) → length symbol.args ≡ 0 → has_arguments symbol ≡ false
has_none symbol h = ap (λ (c : Bool). not c) (eq-eqb (length symbol.args) 0 h)

abbrev ending_by : Bool → Bool → Ending
ending_by a b = cond a Arguments (cond b Denial Unequal)

ending_is : (symbol : Symbol) (a b : Bool) → has_arguments symbol ≡ a → symbol.relation ≡ b → name_ending symbol ≡ ending_by a b
ending_is symbol a b h k = ap (λ (c : Bool). ending_by c symbol.relation) h ∙ ap (λ (c : Bool). ending_by a c) k

-- ---- a literal and its head

abbrev fact_head : Bool → ℕ → List ℕ → Bool → Head
fact_head sign r [] last = Applied sign r last
fact_head sign r (v ∷ vs) last = Applied sign r false

abbrev pub head_of : Flat → Bool → Head
head_of (Differ i j) last = Equal i
head_of (Fact sign r vs) last = fact_head sign r vs last
head_of (Value f vs v) last = Applied false f false

abbrev fact_rest : List ℕ → Bool → List ℕ
fact_rest [] last = []
fact_rest (v ∷ vs) last = arguments_text (v ∷ vs) ++ end_text last

abbrev value_rest : List ℕ → ℕ → Bool → List ℕ
value_rest [] v last = decimal v ++ end_text last
value_rest (w ∷ ws) v last = arguments_text (w ∷ ws) ++ (codes " != V" ++ (decimal v ++ end_text last))

-- what follows the head
abbrev pub rest_text : Flat → Bool → List ℕ
rest_text (Differ i j) last = decimal j ++ end_text last
rest_text (Fact sign r vs) last = fact_rest vs last
rest_text (Value f vs v) last = value_rest vs v last

-- a denial and what ends it
abbrev pub denial_line : Names → Flat × Bool → List ℕ
denial_line names y = denial_text names y.0 ++ end_text y.1

abbrev is_equal : Head → Bool
is_equal Forall = false
is_equal Nothing = false
is_equal (Equal i) = true
is_equal (Applied sign k last) = false

abbrev number_in : Head → ℕ
number_in Forall = 0
number_in Nothing = 0
number_in (Equal i) = i
number_in (Applied sign k last) = k

abbrev sign_in : Head → Bool
sign_in Forall = false
sign_in Nothing = false
sign_in (Equal i) = false
sign_in (Applied sign k last) = sign

abbrev last_in : Head → Bool
last_in Forall = false
last_in Nothing = false
last_in (Equal i) = false
last_in (Applied sign k last) = last

regroup_equal : (d e f : List ℕ) → (((86 ∷ d) ++ codes " = ") ++ (86 ∷ e)) ++ f ≡ (86 ∷ (d ++ codes " = V")) ++ (e ++ f)
regroup_equal d e f =
    append_assoc ((86 ∷ d) ++ codes " = ") (86 ∷ e) f ∙ append_assoc (86 ∷ d) (codes " = ") (86 ∷ (e ++ f)) ∙ ap (λ (l : List ℕ). 86 ∷ l) (sym (append_assoc d (codes " = V") (e ++ f)))

regroup_fact : (m n p a e : List ℕ) → (m ++ (n ++ (p ++ a))) ++ e ≡ (m ++ (n ++ p)) ++ (a ++ e)
regroup_fact m n p a e = simp append_assoc

regroup_constant : (n d e : List ℕ) → ((n ++ codes " != ") ++ (86 ∷ d)) ++ e ≡ (n ++ codes " != V") ++ (d ++ e)
regroup_constant n d e =
    append_assoc (n ++ codes " != ") (86 ∷ d) e ∙ append_assoc n (codes " != ") (86 ∷ (d ++ e)) ∙ sym (append_assoc n (codes " != V") (d ++ e))

regroup_value : (n p a d e : List ℕ) → (((n ++ (p ++ a)) ++ codes " != ") ++ (86 ∷ d)) ++ e ≡ (n ++ p) ++ (a ++ (codes " != V" ++ (d ++ e)))
regroup_value n p a d e =
    regroup_constant (n ++ (p ++ a)) d e ∙ append_assoc (n ++ (p ++ a)) (codes " != V") (d ++ e)
    ∙ ap (λ (l : List ℕ). l ++ (codes " != V" ++ (d ++ e))) (sym (append_assoc n p a)) ∙ append_assoc (n ++ p) a (codes " != V" ++ (d ++ e))

module _ (sig : Sig) (names : Names) (named : CanName sig names) (sorts : List ℕ) (few : length sorts < 2 ^ 64) where
  abbrev heading : Head → List ℕ
  heading = head_text sig names

  -- a symbol's head in other words
  abbrev headed : Bool → ℕ → Ending → Bool → List ℕ
  headed sign k ending last = mark sign ++ (symbol_name names k ++ text_at (texts ending) (last_place last))

  headed_is : (sign : Bool) (k : ℕ) (last a b : Bool) → has_arguments (symbol_at sig k) ≡ a → (symbol_at sig k).relation ≡ b → heading (Applied sign k last) ≡ headed sign k (ending_by a b) last
  headed_is sign k last a b h r = ap (λ (e : Ending). headed sign k e last) (ending_is (symbol_at sig k) a b h r)

  no_arguments : (k : ℕ) (relation : Bool) → IsApplied sig sorts relation k [] → has_arguments (symbol_at sig k) ≡ false
  no_arguments k relation a = has_none (symbol_at sig k) (sym (as_many sorts [] (symbol_at sig k).args a.arguments))

  some_arguments : (k : ℕ) (relation : Bool) (v : ℕ) (vs : List ℕ) → IsApplied sig sorts relation k (v ∷ vs) → has_arguments (symbol_at sig k) ≡ true
  some_arguments k relation v vs a = has_some (symbol_at sig k) (omega (arith, as_many sorts (v ∷ vs) (symbol_at sig k).args a.arguments))

  fact_words : (sign : Bool) (r : ℕ) (vs : List ℕ) (last : Bool) → IsApplied sig sorts true r vs → denial_line names (Fact sign r vs, last) ≡ heading (fact_head sign r vs last) ++ fact_rest vs last
  fact_words sign r [] last a =
      append_assoc (mark sign) (symbol_name names r) (end_text last)
      ∙ sym (ap (λ (l : List ℕ). l ++ []) (headed_is sign r last false true (no_arguments r true a) a.kind) ∙ append-nil (headed sign r Denial last))
  fact_words sign r (v ∷ vs) last a =
      ap (λ (l : List ℕ). (mark sign ++ l) ++ end_text last) (applied_words (symbol_name names r) v vs)
      ∙ regroup_fact (mark sign) (symbol_name names r) (codes "(V") (arguments_text (v ∷ vs)) (end_text last)
      ∙ sym (ap (λ (l : List ℕ). l ++ (arguments_text (v ∷ vs) ++ end_text last)) (headed_is sign r false true true (some_arguments r true v vs a) a.kind))

  value_words : (f : ℕ) (vs : List ℕ) (v : ℕ) (last : Bool) → IsApplied sig sorts false f vs → denial_line names (Value f vs v, last) ≡ heading (Applied false f false) ++ value_rest vs v last
  value_words f [] v last a =
      regroup_constant (symbol_name names f) (decimal v) (end_text last)
      ∙ sym (ap (λ (l : List ℕ). l ++ (decimal v ++ end_text last)) (headed_is false f false false false (no_arguments f false a) a.kind))
  value_words f (w ∷ ws) v last a =
      ap (λ (l : List ℕ). ((l ++ codes " != ") ++ variable_text v) ++ end_text last) (applied_words (symbol_name names f) w ws)
      ∙ regroup_value (symbol_name names f) (codes "(V") (arguments_text (w ∷ ws)) (decimal v) (end_text last)
      ∙ sym (ap (λ (l : List ℕ). l ++ (arguments_text (w ∷ ws) ++ (codes " != V" ++ (decimal v ++ end_text last)))) (headed_is false f false true false (some_arguments f false w ws a) a.kind))

  pub line_words : (lit : Flat) (last : Bool) → IsFlat sig sorts lit → denial_line names (lit, last) ≡ heading (head_of lit last) ++ rest_text lit last
  line_words (Differ i j) last h = regroup_equal (decimal i) (decimal j) (end_text last)
  line_words (Fact sign r vs) last h = fact_words sign r vs last h
  line_words (Value f vs v) last h = value_words f vs v last h.0

  -- ---- each literal has its head

  place_first : (ending : Ending) → (a b : Bool) → ending ≡ ending_by a b → 0 < length (texts ending)
  place_first ending true b e = subst (λ (x : Ending). 0 < length (texts x)) (sym e) (omega arith)
  place_first ending false true e = subst (λ (x : Ending). 0 < length (texts x)) (sym e) (omega arith)
  place_first ending false false e = subst (λ (x : Ending). 0 < length (texts x)) (sym e) (omega arith)

  below_two : (last : Bool) → last_place last < 2
  below_two true = omega arith
  below_two false = omega arith

  fact_stands : (sign : Bool) (r : ℕ) (vs : List ℕ) → IsApplied sig sorts true r vs → may_stand sorts sign (symbol_at sig r) ≡ true
  fact_stands sign r vs a =
      and_true (stands sorts (symbol_at sig r)) (not sign || (symbol_at sig r).relation)
      (and_true (list_all (has_variable sorts) (symbol_at sig r).args) ((symbol_at sig r).relation || has_variable sorts (symbol_at sig r).result) (have_all sorts vs (symbol_at sig r).args a.arguments) (ap (λ (c : Bool). c || has_variable sorts (symbol_at sig r).result) a.kind))
      (or_right (not sign) (symbol_at sig r).relation a.kind)

  fact_in : (sign : Bool) (r : ℕ) (vs : List ℕ) (last : Bool) → IsApplied sig sorts true r vs → Among (heads sig sorts) (fact_head sign r vs last)
  fact_in sign r [] last a =
      to_symbol sig names sorts sign r last (record {
        same = refl;
        within = a.symbol;
        stands = fact_stands sign r [] a;
        end = subst (λ (x : Ending). last_place last < length (texts x)) (sym (ending_is (symbol_at sig r) false true (no_arguments r true a) a.kind)) (below_two last);
      })
  fact_in sign r (v ∷ vs) last a =
      to_symbol sig names sorts sign r false (record { same = refl; within = a.symbol; stands = fact_stands sign r (v ∷ vs) a; end = place_first (name_ending (symbol_at sig r)) true true (ending_is (symbol_at sig r) true true (some_arguments r true v vs a) a.kind) })

  value_in : (f : ℕ) (vs : List ℕ) (v : ℕ) → IsApplied sig sorts false f vs → HasSort sorts v (symbol_at sig f).result → Among (heads sig sorts) (Applied false f false)
  value_in f vs v a h =
      to_symbol sig names sorts false f false (record {
        same = refl;
        within = a.symbol;
        stands =
            and_true (stands sorts (symbol_at sig f)) true
            (and_true (list_all (has_variable sorts) (symbol_at sig f).args) ((symbol_at sig f).relation || has_variable sorts (symbol_at sig f).result) (have_all sorts vs (symbol_at sig f).args a.arguments) (or_right (symbol_at sig f).relation (has_variable sorts (symbol_at sig f).result) (has_of sorts v (symbol_at sig f).result h)))
            refl;
        end = place_first (name_ending (symbol_at sig f)) (has_arguments (symbol_at sig f)) false (ending_is (symbol_at sig f) (has_arguments (symbol_at sig f)) false refl a.kind);
      })

  pub head_in : (lit : Flat) (last : Bool) → IsFlat sig sorts lit → Among (heads sig sorts) (head_of lit last)
  head_in (Differ i j) last h = to_equal sig names sorts i h.0.within
  head_in (Fact sign r vs) last h = fact_in sign r vs last h
  head_in (Value f vs v) last h = value_in f vs v h.0 h.1

  -- ---- what follows a head

  abbrev pub Follows : Head → Flat × Bool → Type 0
  Follows h y = IsFlat sig sorts y.0 × (head_of y.0 y.1 ≡ h)

  abbrev pub rest : Flat × Bool → List ℕ
  rest y = rest_text y.0 y.1

  abbrev said : Flat → Bool → Flat × Bool
  said lit last = (lit, last)

  -- two variables

  flat_differ : (i j : ℕ) → i < length sorts → HasSort sorts j (get_or sorts i 0) → IsFlat sig sorts (Differ i j)
  flat_differ i j h k = (record { within = h; sort = sym k.sort }, k.within)

  differ_back : (i : ℕ) (lit : Flat) (last : Bool) → IsFlat sig sorts lit → head_of lit last ≡ Equal i → (y : ℕ × Bool) × HasSort sorts y.0 (get_or sorts i 0) × (said (Differ i y.0) y.1 ≡ said lit last)
  differ_back i (Differ a j) last h e =
      let s : a ≡ i = ap number_in e in
      ((j, last), record { within = h.1; sort = sym h.0.sort ∙ ap (λ (n : ℕ). get_or sorts n 0) s }, ap (λ (n : ℕ). said (Differ n j) last) (sym s))
  differ_back i (Fact sign r []) last h e = let k = ap is_equal e in absurd cc
  differ_back i (Fact sign r (v ∷ vs)) last h e = let k = ap is_equal e in absurd cc
  differ_back i (Value f vs v) last h e = let k = ap is_equal e in absurd cc

  abbrev ended_value : Read (ℕ × ℕ) → Read (ℕ × Bool)
  ended_value r = r >>= λ v. Ok ((v.0.0, eqb v.0.1 1), v.1)

  -- a literal of what was read
  abbrev literal_of : (ℕ → Flat) → Read (ℕ × ℕ) → Read (Flat × Bool)
  literal_of make r = r >>= λ v. Ok ((make v.0.0, eqb v.0.1 1), v.1)

  abbrev ended_literal : (ℕ → Flat) → Read (ℕ × Bool) → Read (Flat × Bool)
  ended_literal make r = r >>= λ y. Ok ((make y.0.0, y.0.1), y.1)

  differ_by : (i : ℕ) (r : Read (ℕ × ℕ)) → literal_of (Differ i) r ≡ ended_literal (Differ i) (ended_value r)
  differ_by i (Ok v) = refl
  differ_by i (Err left) = refl

  exact_differ : (i : ℕ) → i < length sorts → Exact (Follows (Equal i)) rest (differ_at sorts i)
  unfolding differ_at
  exact_differ i h =
      exact_map (λ (y : ℕ × Bool). HasSort sorts y.0 (get_or sorts i 0)) (λ y. decimal y.0 ++ end_text y.1) (last_variable_at sorts (get_or sorts i 0)) (Follows (Equal i)) rest (differ_at sorts i)
      (λ y. (Differ i y.0, y.1)) (λ bytes. differ_by i (variable_at sorts Denial (get_or sorts i 0) bytes))
      (λ y k. ((flat_differ i y.0 h k, refl), refl)) (λ y f. differ_back i y.0 y.1 f.0 f.1)
      (exact_last_variable sorts (get_or sorts i 0) i few (record { within = h; sort = refl }))

  -- a symbol

  module _ (sign : Bool) (k : ℕ) (last : Bool) (g : IsSymbolHead sig names sorts sign sign k last) where
    abbrev symbol : Symbol
    symbol = symbol_at sig k

    abbrev here : Head
    here = Applied sign k last

    arguments_have : HaveVariables sorts symbol.args
    arguments_have = all_have sorts symbol.args (both (list_all (has_variable sorts) symbol.args) (symbol.relation || has_variable sorts symbol.result) (both (stands sorts symbol) (not sign || symbol.relation) g.stands).0).0

    value_has : symbol.relation ≡ false → (v : ℕ) × HasSort sorts v symbol.result
    value_has e =
        some_variable sorts symbol.result
        (or_second symbol.relation (has_variable sorts symbol.result) e (both (list_all (has_variable sorts) symbol.args) (symbol.relation || has_variable sorts symbol.result) (both (stands sorts symbol) (not sign || symbol.relation) g.stands).0).1)

    unsigned_by : (b c : Bool) → c ≡ false → (not b || c) ≡ true → b ≡ false
    unsigned_by true c e h = absurd (cc (or_second false c refl h, e))
    unsigned_by false c e h = refl

    unsigned : symbol.relation ≡ false → sign ≡ false
    unsigned e = unsigned_by sign symbol.relation e (both (stands sorts symbol) (not sign || symbol.relation) g.stands).1

    single_by : (b : Bool) (ending : Ending) → length (texts ending) ≡ 1 → last_place b < length (texts ending) → b ≡ false
    single_by true ending e h = absurd (omega arith)
    single_by false ending e h = refl

    -- only a relation without arguments tells whether the line ends
    single : (a b : Bool) → has_arguments symbol ≡ a → symbol.relation ≡ b → length (texts (ending_by a b)) ≡ 1 → last ≡ false
    single a b h r one = single_by last (ending_by a b) one (subst (λ (x : Ending). last_place last < length (texts x)) (ending_is symbol a b h r) g.end)

    -- the literals that have this head
    record IsFactOf (lit : Flat) (l : Bool) : Type 0 where
      vs : List ℕ
      is : lit ≡ Fact sign k vs
      applied : IsApplied sig sorts true k vs
      last_is : vs ≡ [] → l ≡ last

    record IsValueOf (lit : Flat) : Type 0 where
      vs : List ℕ
      v : ℕ
      is : lit ≡ Value k vs v
      applied : IsApplied sig sorts false k vs
      value : HasSort sorts v symbol.result

    fact_same : (s : Bool) (r : ℕ) (vs : List ℕ) → s ≡ sign → r ≡ k → Fact s r vs ≡ Fact sign k vs
    fact_same s r vs a b = ap (λ (x : Bool). Fact x r vs) a ∙ ap (λ (n : ℕ). Fact sign n vs) b

    literal_headed : (lit : Flat) (l : Bool) → IsFlat sig sorts lit → head_of lit l ≡ here → IsFactOf lit l ⊎ IsValueOf lit
    literal_headed (Differ i j) l h e = let n = ap is_equal e in absurd cc
    literal_headed (Fact s r []) l h e =
        let b : r ≡ k = ap number_in e in
        inl (record { vs = []; is = fact_same s r [] (ap sign_in e) b; applied = subst (λ (n : ℕ). IsApplied sig sorts true n []) b h; last_is = λ x. ap last_in e })
    literal_headed (Fact s r (v ∷ vs)) l h e =
        let b : r ≡ k = ap number_in e in
        inl (record { vs = v ∷ vs; is = fact_same s r (v ∷ vs) (ap sign_in e) b; applied = subst (λ (n : ℕ). IsApplied sig sorts true n (v ∷ vs)) b h; last_is = λ x. absurd (cc x) })
    literal_headed (Value f vs v) l h e =
        let b : f ≡ k = ap number_in e in
        inr (record {
          vs = vs;
          v = v;
          is = ap (λ (n : ℕ). Value n vs v) b;
          applied = subst (λ (n : ℕ). IsApplied sig sorts false n vs) b h.0;
          value = subst (λ (n : ℕ). HasSort sorts v (symbol_at sig n).result) b h.1;
        })

    fact_of : symbol.relation ≡ true → (lit : Flat) (l : Bool) → IsFlat sig sorts lit → head_of lit l ≡ here → IsFactOf lit l
    fact_of r lit l h e = elim (literal_headed lit l h e) [
      | inl f ↦ f
      | inr v ↦ let q = v.applied.kind in absurd (cc (r, q))
    ]

    value_of : symbol.relation ≡ false → (lit : Flat) (l : Bool) → IsFlat sig sorts lit → head_of lit l ≡ here → IsValueOf lit
    value_of r lit l h e = elim (literal_headed lit l h e) [
      | inl f ↦ let q = f.applied.kind in absurd (cc (r, q))
      | inr v ↦ v
    ]

    none_has : (args : List ℕ) → not (eqb (length args) 0) ≡ false → args ≡ []
    none_has [] e = refl
    none_has (s ∷ ss) e = let z = ap not (eqb-suc-zero (length ss)) in absurd (cc (z, e))

    some_has : (args : List ℕ) → not (eqb (length args) 0) ≡ true → 0 < length args
    some_has [] e = absurd cc
    some_has (s ∷ ss) e = omega arith

    none_applied : (b : Bool) → symbol.relation ≡ b → symbol.args ≡ [] → IsApplied sig sorts b k []
    none_applied b r e = record { symbol = g.within; kind = r; arguments = subst (λ (l : List ℕ). AllZip (HasSort sorts) [] l) (sym e) tt }

    no_variables : (b : Bool) (vs : List ℕ) → IsApplied sig sorts b k vs → symbol.args ≡ [] → vs ≡ []
    no_variables b vs a e = nil_from_length vs (as_many sorts vs symbol.args a.arguments ∙ ap (λ (l : List ℕ). length l) e)

    -- a relation without arguments

    exact_plain : symbol.args ≡ [] → symbol.relation ≡ true → Exact (Follows here) rest (λ bytes. Ok ((Fact sign k [], last), bytes))
    exact_plain none r =
        exact_words (λ y. y ≡ (Fact sign k [], last)) (Follows here) (λ y. []) rest (λ bytes. Ok ((Fact sign k [], last), bytes)) (λ bytes. Ok ((Fact sign k [], last), bytes)) (λ bytes. refl)
        (λ y e. subst (λ (z : Flat × Bool). Follows here z × (rest z ≡ [])) (sym e) ((none_applied true r none, refl), refl)) back (exact_done (Fact sign k [], last))
      where
        back : (y : Flat × Bool) → Follows here y → y ≡ (Fact sign k [], last)
        back y f =
            let w = fact_of r y.0 y.1 f.0 f.1 in
            let e = no_variables true w.vs w.applied none in
            ap (λ (l : Flat). (l, y.1)) (w.is ∙ ap (λ (vs : List ℕ). Fact sign k vs) e) ∙ ap (λ (b : Bool). (Fact sign k [], b)) (w.last_is e)

    -- a relation with arguments

    abbrev as_fact : List ℕ → Read Bool → Read (Flat × Bool)
    as_fact vs r = r >>= λ l. Ok ((Fact sign k vs, l.0), l.1)

    abbrev fact_from : Read (List ℕ) → Read (Flat × Bool)
    fact_from r = r >>= λ vs. choice_at [] [] (texts Denial) vs.1 >>= λ e. Ok ((Fact sign k vs.0, eqb e.0 1), e.1)

    end_by : (vs : List ℕ) (r : Read ℕ) → (r >>= λ e. Ok ((Fact sign k vs, eqb e.0 1), e.1)) ≡ as_fact vs (r >>= λ e. Ok (eqb e.0 1, e.1))
    end_by vs (Ok e) = refl
    end_by vs (Err left) = refl

    fact_by : (r : Read (List ℕ)) → fact_from r ≡ (r >>= λ vs. as_fact vs.0 (end_at vs.1))
    fact_by (Ok vs) = end_by vs.0 (choice_at [] [] (texts Denial) vs.1)
    fact_by (Err left) = refl

    exact_fact : 0 < length symbol.args → symbol.relation ≡ true → last ≡ false → Exact (Follows here) rest (fact_at sig sorts sign k)
    unfolding fact_at
    exact_fact some r single_last =
        exact_pair (λ vs. AllZip (HasSort sorts) vs symbol.args) arguments_text (arguments_at sorts symbol.args) (λ vs l. ⊤) (λ vs. end_text) (λ vs. end_at)
        (Follows here) rest (fact_at sig sorts sign k) (λ vs l. (Fact sign k vs, l))
        (λ bytes. fact_by (arguments_at sorts symbol.args bytes)) (λ vs l h t. fits vs l (as_many sorts vs symbol.args h) h)
        (λ y f. let w = fact_of r y.0 y.1 f.0 f.1 in (w.vs, y.1, w.applied.arguments, tt, ap (λ (x : Flat). (x, y.1)) (sym w.is)))
        (exact_wanted sorts symbol.args few some arguments_have) (λ vs h. exact_end)
      where
        fits : (vs : List ℕ) (l : Bool) → length vs ≡ length symbol.args → AllZip (HasSort sorts) vs symbol.args → Follows here (Fact sign k vs, l) × (rest (Fact sign k vs, l) ≡ arguments_text vs ++ end_text l)
        fits [] l e h = absurd (omega (arith, e, some))
        fits (v ∷ vs) l e h = ((record { symbol = g.within; kind = r; arguments = h }, ap (λ (b : Bool). Applied sign k b) (sym single_last)), refl)

    -- a constant

    constant_by : (r : Read (ℕ × ℕ)) → literal_of (Value k []) r ≡ ended_literal (Value k []) (ended_value r)
    constant_by (Ok v) = refl
    constant_by (Err left) = refl

    value_head : sign ≡ false → last ≡ false → Applied false k false ≡ here
    value_head a b = ap (λ (x : Bool). Applied x k false) (sym a) ∙ ap (λ (x : Bool). Applied sign k x) (sym b)

    exact_constant : symbol.args ≡ [] → symbol.relation ≡ false → last ≡ false → Exact (Follows here) rest (constant_at sig sorts k)
    unfolding constant_at
    exact_constant none r single_last =
        exact_map (λ (y : ℕ × Bool). HasSort sorts y.0 symbol.result) (λ y. decimal y.0 ++ end_text y.1) (last_variable_at sorts symbol.result) (Follows here) rest (constant_at sig sorts k)
        (λ y. (Value k [] y.0, y.1)) (λ bytes. constant_by (variable_at sorts Denial symbol.result bytes))
        (λ y h. (((none_applied false r none, h), value_head (unsigned r) single_last), refl)) back
        (exact_last_variable sorts symbol.result (value_has r).0 few (value_has r).1)
      where
        back : (y : Flat × Bool) → Follows here y → (x : ℕ × Bool) × HasSort sorts x.0 symbol.result × ((Value k [] x.0, x.1) ≡ y)
        back y f =
            let w = value_of r y.0 y.1 f.0 f.1 in
            let e = no_variables false w.vs w.applied none in
            ((w.v, y.1), w.value, ap (λ (x : Flat). (x, y.1)) (sym (w.is ∙ ap (λ (vs : List ℕ). Value k vs w.v) e)))

    -- a function with arguments

    abbrev as_value : List ℕ → Read (ℕ × Bool) → Read (Flat × Bool)
    as_value vs r = r >>= λ y. Ok ((Value k vs y.0.0, y.0.1), y.1)

    abbrev unequal_at : List ℕ → Read (ℕ × Bool)
    unequal_at bytes = literal_at (codes " != V") bytes >>= last_variable_at sorts symbol.result

    value_end : (vs : List ℕ) (r : Read (ℕ × ℕ)) → (r >>= λ v. Ok ((Value k vs v.0.0, eqb v.0.1 1), v.1)) ≡ as_value vs (ended_value r)
    value_end vs (Ok v) = refl
    value_end vs (Err left) = refl

    abbrev value_after : List ℕ → Result (List ℕ) ℕ → Read (Flat × Bool)
    value_after vs r = r >>= λ u. variable_at sorts Denial symbol.result u >>= λ v. Ok ((Value k vs v.0.0, eqb v.0.1 1), v.1)

    value_unequal : (vs : List ℕ) (r : Result (List ℕ) ℕ) → value_after vs r ≡ as_value vs (r >>= last_variable_at sorts symbol.result)
    value_unequal vs (Ok u) = value_end vs (variable_at sorts Denial symbol.result u)
    value_unequal vs (Err left) = refl

    value_by : (r : Read (List ℕ)) → (r >>= λ vs. value_after vs.0 (literal_at (codes " != V") vs.1)) ≡ (r >>= λ vs. as_value vs.0 (unequal_at vs.1))
    value_by (Ok vs) = value_unequal vs.0 (literal_at (codes " != V") vs.1)
    value_by (Err left) = refl

    exact_value : 0 < length symbol.args → symbol.relation ≡ false → last ≡ false → Exact (Follows here) rest (value_at sig sorts k)
    unfolding value_at
    exact_value some r single_last =
        exact_pair (λ vs. AllZip (HasSort sorts) vs symbol.args) arguments_text (arguments_at sorts symbol.args)
        (λ vs y. HasSort sorts y.0 symbol.result) (λ vs y. codes " != V" ++ (decimal y.0 ++ end_text y.1)) (λ vs. unequal_at)
        (Follows here) rest (value_at sig sorts k) (λ vs y. (Value k vs y.0, y.1))
        (λ bytes. value_by (arguments_at sorts symbol.args bytes)) (λ vs y h t. fits vs y (as_many sorts vs symbol.args h) h t)
        (λ y f. let w = value_of r y.0 y.1 f.0 f.1 in (w.vs, (w.v, y.1), w.applied.arguments, w.value, ap (λ (x : Flat). (x, y.1)) (sym w.is)))
        (exact_wanted sorts symbol.args few some arguments_have)
        (λ vs h. exact_after (λ (y : ℕ × Bool). HasSort sorts y.0 symbol.result) (λ y. decimal y.0 ++ end_text y.1) (last_variable_at sorts symbol.result) (codes " != V") (exact_last_variable sorts symbol.result (value_has r).0 few (value_has r).1))
      where
        fits : (vs : List ℕ) (y : ℕ × Bool) → length vs ≡ length symbol.args → AllZip (HasSort sorts) vs symbol.args → HasSort sorts y.0 symbol.result → Follows here (Value k vs y.0, y.1) × (rest (Value k vs y.0, y.1) ≡ arguments_text vs ++ (codes " != V" ++ (decimal y.0 ++ end_text y.1)))
        fits [] y e h t = absurd (omega (arith, e, some))
        fits (v ∷ vs) y e h t = (((record { symbol = g.within; kind = r; arguments = h }, t), value_head (unsigned r) single_last), refl)

    -- any symbol

    abbrev chosen_by : Bool → Bool → List ℕ → Read (Flat × Bool)
    chosen_by a b bytes =
        cond a (cond b (fact_at sig sorts sign k bytes) (value_at sig sorts k bytes)) (cond b (Ok ((Fact sign k [], last), bytes)) (constant_at sig sorts k bytes))

    chosen_is : (a b : Bool) → has_arguments symbol ≡ a → symbol.relation ≡ b → (bytes : List ℕ) → applied_at sig sorts sign k last bytes ≡ chosen_by a b bytes
    unfolding applied_at
    chosen_is a b h r bytes = ap (λ (c : Bool). chosen_by c symbol.relation bytes) h ∙ ap (λ (c : Bool). chosen_by a c bytes) r

    exact_by : (a b : Bool) → has_arguments symbol ≡ a → symbol.relation ≡ b → Exact (Follows here) rest (chosen_by a b)
    exact_by true true h r = exact_fact (some_has symbol.args h) r (single true true h r refl)
    exact_by true false h r = exact_value (some_has symbol.args h) r (single true false h r refl)
    exact_by false true h r = exact_plain (none_has symbol.args h) r
    exact_by false false h r = exact_constant (none_has symbol.args h) r (single false false h r refl)

    exact_symbol : Exact (Follows here) rest (applied_at sig sorts sign k last)
    exact_symbol =
        exact_words (Follows here) (Follows here) rest rest (chosen_by (has_arguments symbol) symbol.relation) (applied_at sig sorts sign k last)
        (chosen_is (has_arguments symbol) symbol.relation refl refl) (λ y f. (f, refl)) (λ y f. f)
        (exact_by (has_arguments symbol) symbol.relation refl refl)

  -- ---- any denial

  pub exact_denied : (h : Head) → IsDenialHead sig names sorts h → Exact (Follows h) rest (denied_at sig sorts h)
  exact_denied Forall d = absurd d
  exact_denied Nothing d = absurd d
  exact_denied (Equal i) d = exact_differ i d
  exact_denied (Applied sign k last) d = exact_symbol sign k last d

  pub exact_denial : (lit : Flat) → IsFlat sig sorts lit → Exact (λ (y : Flat × Bool). IsFlat sig sorts y.0) (denial_line names) (denial_at sig names sorts)
  unfolding denial_at
  exact_denial lit flat =
      exact_then (Among (heads sig sorts)) heading (choose heading (heads sig sorts)) Follows (λ h. rest) (denied_at sig sorts)
      (λ (y : Flat × Bool). IsFlat sig sorts y.0) (denial_line names) (denial_at sig names sorts) (λ bytes. refl)
      (λ h y a f. (f.0, line_words y.0 y.1 f.0 ∙ ap (λ (x : Head). heading x ++ rest y) f.1))
      (λ y h. (head_of y.0 y.1, head_in y.0 y.1 h, (h, refl)))
      (exact_among heading (heads sig sorts) (head_of lit false) (head_in lit false flat) (heads_apart sig names named sorts few (heads sig sorts) (heads_good sig names sorts)))
      (λ h a. exact_denied h (from_heads sig names sorts h a))

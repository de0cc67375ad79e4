-- A limit is passed only at a token that nests what follows it.
use Rattle.std.proofs.Common.{◌≡◌, ℕ, zero, suc, ◌+◌, ◌-◌, ◌==◌, Bool, true, false, cond, List, [], ◌∷◌, ◌++◌, length, Option, Some, None, Result, Ok, Err, refl, sym, ap, subst, ◌∙◌, append_assoc}
use Rattle.std.specs.Prelude.{nat_lt}
use Rattle.pyv_lex.specs.declared.token.Kind.{Kind}
use Rattle.pyv_lex.specs.declared.token.Kind.TheVariants as kind
use Rattle.pyv_lex.specs.declared.token.Token.{Token}
use Rattle.pyv_grammar.specs.declared.tree.Expr.{Expr}
use Rattle.pyv_grammar.specs.declared.tree.Expr.TheVariants as expr
use Rattle.pyv_grammar.specs.declared.tree.Decl.{Decl}
use Rattle.pyv_grammar.specs.declared.reading.Found.{Found}
use Rattle.pyv_grammar.specs.declared.reading.Stuck.{Stuck}
use Rattle.pyv_grammar.specs.declared.reading.Stuck.TheVariants.{Bad, Deep}
use Rattle.pyv_grammar.specs.Grammar.{Level, Atom, Unary, Ands, Ors, Imps, Exprs}
use Rattle.pyv_grammar.specs.Reading.{number, Got, Reader, eat, on, ◌>>=◌, give, refuse, and_then, sign, try, opens, wants, skip, separated, all_separated, never, listed, some_list, closed_list, name_at, bound_at, ends_open, joined, atom_at, comparison_at, binding_at, conditional_at, unary_at, imp_at, expr_at, Deeper, unaries, ands, ors, imps, exprs, level_at, deep, read, relation_at, constant_at, function_at, symbol_at, label_at, labelled_at, claim_at, modifies_at, transition_at, after_brace, braces, trace_at, decl_at, before_all, file_on, file, whole}
use Rattle.pyv_grammar.proofs.Eat.{eat-some}
use Rattle.pyv_grammar.proofs.Local.{LocalAt, Local, local_give, local_then, local_try}
use Rattle.pyv_grammar.proofs.Strict.{Good, good_wants, local_separated, good_all_separated}
use Rattle.pyv_grammar.proofs.Good.{skip-try, good_name, good_bound, good_listed, good_some_list, good_closed_list, good_atom, good_level, good_deep, good_read, good_decl, local_braces}

pub data Opens : Kind → Type 0 where
  bang : Opens kind.Bang
  universal : Opens kind.Forall
  existential : Opens kind.Exists
  conditional : Opens kind.If
  implication : Opens kind.Implies
  equivalence : Opens kind.Iff
  after_step : Opens kind.New
  distinct : Opens kind.Distinct
  bracket : Opens kind.RoundLeft

abbrev pub AtOpener : List Token → Stuck → Type 0
AtOpener ts (Bad k) = Unit {0}
AtOpener ts (Deep k) = (p : List Token) × (t : Token) × (s : List Token) × (ts ≡ p ++ t ∷ s) × (k ≡ length (t ∷ s)) × Opens t.kind

abbrev OpensAt : {A : Type 0} → List Token → Got A → Type 0
OpensAt ts (Ok x) = Unit {0}
OpensAt ts (Err d) = AtOpener ts d

record Opening {A : Type 0} (f : Reader A) : Type 0 where
  by : (ts : List Token) → OpensAt ts (f ts)

longer : (p s : List Token) (d : Stuck) → AtOpener s d → AtOpener (p ++ s) d
longer p s (Bad k) h = tt
longer p s (Deep k) h = (p ++ h.0, h.1, h.2, ap (λ (l : List Token). p ++ l) h.3 ∙ sym (append_assoc p h.0 (h.1 ∷ h.2)), h.4, h.5)

longer_got : {A : Type 0} (p s : List Token) (got : Got A) → OpensAt s got → OpensAt (p ++ s) got
longer_got p s (Ok x) h = tt
longer_got p s (Err d) h = longer p s d h

opening_give : {A : Type 0} (x : A) → Opening (give x)
opening_give x = record { by = λ ts. tt }

opening_refuse : {A : Type 0} → Opening (refuse {A = A})
opening_refuse = record { by = λ ts. tt }

then_on : {A B : Type 0} (f : Reader A) (g : A → Reader B) (ts : List Token) (y : Got A) → LocalAt f ts y → OpensAt ts y → ((x : A) → Opening (g x)) → OpensAt ts (y >>= λ x. g x.0 x.1)
then_on f g ts (Ok x) l o k = subst (λ (us : List Token). OpensAt us (g x.0 x.1)) (sym l.1) (longer_got l.0 x.1 (g x.0 x.1) ((k x.0).by x.1))
then_on f g ts (Err d) l o k = o

opening_then : {A B : Type 0} (f : Reader A) (g : A → Reader B) → Local f → Opening f → ((x : A) → Opening (g x)) → Opening (and_then f g)
opening_then f g l o k = record { by = λ ts. then_on f g ts (f ts) (l.by ts) (o.by ts) k }

sign_on : {A : Type 0} (o b : Bool) (k : Kind) (f : Token → Reader A) (g : Reader A) (ts : List Token) (e : Option (Token × List Token)) → eat k ts ≡ e → (b ≡ false → Opens k) → (b ≡ true → (t : Token) → Opening (f t)) → Opening g
    → OpensAt ts (cond o (g ts) (on e (λ t. cond b (f t.0 t.1) (Err (Deep (length ts)))) (g ts)))
sign_on true b k f g ts e q n h s = s.by ts
sign_on false b k f g ts None q n h s = s.by ts
sign_on false true k f g ts (Some t) q n h s =
    let p = (eat-some k ts t.0 t.1 q).parts in
    subst (λ (us : List Token). OpensAt us (f t.0 t.1)) (sym p) (longer_got (t.0 ∷ []) t.1 (f t.0 t.1) ((h refl t.0).by t.1))
sign_on false false k f g ts (Some t) q n h s =
    let e = eat-some k ts t.0 t.1 q in
    ([], t.0, t.1, e.parts, ap length e.parts, subst Opens (sym e.kind) (n refl))

opening_sign : {A : Type 0} (o b : Bool) (k : Kind) (f : Token → Reader A) (g : Reader A) → (b ≡ false → Opens k) → (b ≡ true → (t : Token) → Opening (f t)) → Opening g → Opening (sign o b k f g)
opening_sign o b k f g n h s = record { by = λ ts. sign_on o b k f g ts (eat k ts) refl n h s }

opening_try : {A : Type 0} (k : Kind) (f : Token → Reader A) (g : Reader A) → ((t : Token) → Opening (f t)) → Opening g → Opening (try k f g)
opening_try k f g h s = opening_sign false true k f g (λ e. absurd cc) (λ _. h) s

opening_opens : {A : Type 0} (b : Bool) (k : Kind) (f : Token → Reader A) (g : Reader A) → Opens k → (b ≡ true → (t : Token) → Opening (f t)) → Opening g → Opening (opens b k f g)
opening_opens b k f g o h s = opening_sign false b k f g (λ _. o) h s

opening_wants : (k : Kind) → Opening (wants k)
opening_wants k = opening_try k _ _ (λ t. opening_give t) opening_refuse

-- a token, and what follows it
opening_behind : {A : Type 0} (k : Kind) (g : Token → Reader A) → ((t : Token) → Opening (g t)) → Opening (and_then (wants k) g)
opening_behind k g h = opening_then (wants k) g (good_wants k).is_local (opening_wants k) h

-- ---- lists

opening_separated : {A : Type 0} (ends : A → Bool) (e : Reader A) (k : Kind) (n : ℕ) → Local e → Opening e → Opening (separated ends e k n)
unfolding separated
opening_separated ends e k zero l o = opening_refuse
opening_separated ends e k (suc n) l o =
    opening_then e _ l o (λ x. opening_sign (ends x) true k _ _ (λ q. absurd cc)
    (λ _ t. opening_then (separated ends e k n) _ (local_separated ends e k n l) (opening_separated ends e k n l o) (λ xs. opening_give _)) (opening_give _))

opening_all : {A : Type 0} (ends : A → Bool) (e : Reader A) (k : Kind) → Local e → Opening e → Opening (all_separated ends e k)
unfolding all_separated
opening_all ends e k l o = record { by = λ ts. (opening_separated ends e k (length ts + 1) l o).by ts }

opening_listed : {A : Type 0} (e : Reader A) → Local e → Opening e → Opening (listed e)
opening_listed e l o = opening_all never e kind.Comma l o

opening_some_list : {A : Type 0} (e : Reader A) → Good e → Opening e → Opening (some_list e)
unfolding some_list
opening_some_list e g o = opening_then (listed e) _ (good_listed e g).is_local (opening_listed e g.is_local o) (λ xs. opening_behind kind.RoundRight _ (λ _. opening_give _))

opening_closed_list : {A : Type 0} (e : Reader A) → Good e → Opening e → Opening (closed_list e)
unfolding closed_list
opening_closed_list e g o = opening_try kind.RoundRight _ _ (λ _. opening_give _) (opening_some_list e g o)

opening_name : Opening name_at
unfolding name_at
opening_name = opening_behind kind.Word _ (λ t. opening_give _)

after_name : {A : Type 0} (g : _ → Reader A) → ((x : _) → Opening (g x)) → Opening (and_then name_at g)
after_name g h = opening_then name_at g good_name.is_local opening_name h

opening_bound : Opening bound_at
unfolding bound_at
opening_bound = opening_behind kind.Word _ (λ t. opening_try kind.Colon _ _ (λ _. after_name _ (λ s. opening_give _)) (opening_give _))

-- ---- expressions

opening_lead : {A : Type 0} (k : Kind) (f : Reader A) → Opening f → Opening (λ ts. f (skip k ts))
opening_lead k f o = record { by = λ ts. subst (OpensAt ts) (sym (skip-try k f ts)) ((opening_try k (λ _. f) f (λ _. o) o).by ts) }

opening_joined : (e : Reader Found) (k : Kind) (node : ℕ → List Expr → Expr) → Good e → Opening e → Opening (joined e k node)
unfolding joined
opening_joined e k node g o =
    opening_lead k _ (opening_then e _ g.is_local o (λ x. opening_sign x.ends_open true k _ _ (λ q. absurd cc)
    (λ _ t. opening_then (all_separated ends_open e k) _ (good_all_separated ends_open e k g).is_local (opening_all ends_open e k g.is_local o) (λ ys. opening_give _)) (opening_give _)))

module _ (roomy : Bool) (e : Reader Found) (g : Good e) (o : roomy ≡ true → Opening e) where
  opening_atom : Opening (atom_at roomy e)
  unfolding atom_at
  opening_atom =
      opening_try kind.Word _ _ (λ w. opening_opens roomy kind.RoundLeft _ _ Opens.bracket (λ q _. opening_then (closed_list e) _ (good_closed_list e g).is_local (opening_closed_list e g (o q)) (λ xs. opening_give _)) (opening_give _))
      (opening_try kind.True _ _ (λ t. opening_give _)
      (opening_try kind.False _ _ (λ t. opening_give _)
      (opening_opens roomy kind.New _ _ Opens.after_step (λ q t. opening_behind kind.RoundLeft _ (λ _. opening_then e _ g.is_local (o q) (λ x. opening_behind kind.RoundRight _ (λ _. opening_give _))))
      (opening_opens roomy kind.Distinct _ _ Opens.distinct (λ q t. opening_behind kind.RoundLeft _ (λ _. opening_then (some_list e) _ (good_some_list e g).is_local (opening_some_list e g (o q)) (λ xs. opening_give _)))
      (opening_opens roomy kind.RoundLeft _ _ Opens.bracket (λ q _. opening_then e _ g.is_local (o q) (λ x. opening_behind kind.RoundRight _ (λ _. opening_give _)))
      opening_refuse)))))

  opening_comparison : Opening (comparison_at roomy e)
  unfolding comparison_at
  opening_comparison =
      opening_then (atom_at roomy e) _ (good_atom roomy e g).is_local opening_atom (λ x.
      opening_try kind.Equal _ _ (λ t. opening_then (atom_at roomy e) _ (good_atom roomy e g).is_local opening_atom (λ y. opening_give _))
      (opening_try kind.Unequal _ _ (λ t. opening_then (atom_at roomy e) _ (good_atom roomy e g).is_local opening_atom (λ y. opening_give _)) (opening_give _)))

opening_binding : (e : Reader Found) → Local e → Opening e → Opening (binding_at e)
unfolding binding_at
opening_binding e l o = opening_then (listed bound_at) _ (good_listed bound_at good_bound).is_local (opening_listed bound_at good_bound.is_local opening_bound) (λ bs. opening_behind kind.Dot _ (λ _. opening_then e _ l o (λ x. opening_give _)))

local_of_binding : (e : Reader Found) → Local e → Local (binding_at e)
unfolding binding_at
local_of_binding e l = local_then (listed bound_at) _ (good_listed bound_at good_bound).is_local (λ bs. local_then (wants kind.Dot) _ (good_wants kind.Dot).is_local (λ _. local_then e _ l (λ x. local_give _)))

opening_conditional : (e : Reader Found) (t : Token) → Local e → Opening e → Opening (conditional_at e t)
opening_conditional e t l o = opening_then e _ l o (λ x. opening_behind kind.Then _ (λ _. opening_then e _ l o (λ y. opening_behind kind.Else _ (λ _. opening_then e _ l o (λ z. opening_give _)))))

opening_unary : (roomy may : Bool) (d : Level → Reader Found) (low : Reader Found) → ((l : Level) → Good (d l)) → Good low → (roomy ≡ true → (l : Level) → Opening (d l)) → (may ≡ true → Opening low) → Opening (unary_at roomy may d low)
unfolding unary_at
opening_unary roomy may d low g h o w =
    opening_opens roomy kind.Bang _ _ Opens.bang (λ q t. opening_then (d Unary) _ (g Unary).is_local (o q Unary) (λ x. opening_give _))
    (opening_opens roomy kind.Forall _ _ Opens.universal (λ q t. opening_then (binding_at (d Exprs)) _ (local_of_binding (d Exprs) (g Exprs).is_local) (opening_binding (d Exprs) (g Exprs).is_local (o q Exprs)) (λ y. opening_give _))
    (opening_opens roomy kind.Exists _ _ Opens.existential (λ q t. opening_then (binding_at (d Exprs)) _ (local_of_binding (d Exprs) (g Exprs).is_local) (opening_binding (d Exprs) (g Exprs).is_local (o q Exprs)) (λ y. opening_give _))
    (opening_opens may kind.If _ _ Opens.conditional (λ q t. opening_conditional low t h.is_local (w q))
    (opening_comparison roomy (d Exprs) (g Exprs) (λ q. o q Exprs)))))

roomy_where : (roomy low : Bool) → cond roomy low false ≡ true → roomy ≡ true
roomy_where true low e = refl
roomy_where false low e = absurd cc

module _ (roomy : Bool) (d : Deeper) (g : (v : ℕ) (l : Level) → Good (d v l)) (o : roomy ≡ true → (v : ℕ) (l : Level) → Opening (d v l)) where
  opening_unaries : (v : ℕ) → Opening (unaries v roomy d)
  unfolding unaries
  opening_unaries v = opening_unary roomy (cond roomy (nat_lt 0 v) false) (d v) (d (v - 1) Exprs) (g v) (g (v - 1) Exprs) (λ q. o q v) (λ q. o (roomy_where roomy (nat_lt 0 v) q) (v - 1) Exprs)

  opening_ands : (v : ℕ) → Opening (ands v roomy d)
  unfolding ands
  opening_ands v = opening_joined (unaries v roomy d) kind.Amp expr.And (good_level roomy d g v Unary) (opening_unaries v)

  opening_ors : (v : ℕ) → Opening (ors v roomy d)
  unfolding ors
  opening_ors v = opening_joined (ands v roomy d) kind.Bar expr.Or (good_level roomy d g v Ands) (opening_ands v)

  opening_imps : (v : ℕ) → Opening (imps v roomy d)
  unfolding imps imp_at
  opening_imps v =
      opening_then (ors v roomy d) _ (good_level roomy d g v Ors).is_local (opening_ors v) (λ x. opening_sign x.ends_open roomy kind.Implies _ _ (λ _. Opens.implication)
      (λ q t. opening_then (d v Imps) _ (g v Imps).is_local (o q v Imps) (λ y. opening_give _)) (opening_give _))

  opening_exprs : (v : ℕ) → Opening (exprs v roomy d)
  unfolding exprs expr_at
  opening_exprs v =
      opening_then (imps v roomy d) _ (good_level roomy d g v Imps).is_local (opening_imps v) (λ x. opening_sign x.ends_open (nat_lt x.height v) kind.Iff _ _ (λ _. Opens.equivalence)
      (λ q t. opening_then (imps (v - 1) roomy d) _ (good_level roomy d g (v - 1) Imps).is_local (opening_imps (v - 1)) (λ y. opening_give _)) (opening_give _))

  opening_level : (v : ℕ) (l : Level) → Opening (level_at v roomy d l)
  opening_level v Atom = opening_atom roomy (d v Exprs) (g v Exprs) (λ q. o q v Exprs)
  opening_level v Unary = opening_unaries v
  opening_level v Ands = opening_ands v
  opening_level v Ors = opening_ors v
  opening_level v Imps = opening_imps v
  opening_level v Exprs = opening_exprs v

no_room : nat_lt 0 0 ≡ true → ⊥
no_room e = absurd cc

opening_read : (n v : ℕ) (l : Level) → Opening (read n v l)
unfolding deep
opening_read zero v l = opening_level (nat_lt 0 0) (deep 0) (good_deep 0) (λ q. absurd (no_room q)) v l
opening_read (suc n) v l = opening_level (nat_lt 0 (suc n)) (deep (suc n)) (good_deep (suc n)) (λ _ w k. opening_read n w k) v l

-- ---- declarations

opening_relation : (b : Bool) → Opening (relation_at b)
unfolding relation_at
opening_relation b = after_name _ (λ w. opening_try kind.RoundLeft _ _ (λ _. opening_then (closed_list name_at) _ (good_closed_list name_at good_name).is_local (opening_closed_list name_at good_name opening_name) (λ xs. opening_give _)) (opening_give _))

opening_constant : (b : Bool) → Opening (constant_at b)
unfolding constant_at
opening_constant b = after_name _ (λ w. opening_behind kind.Colon _ (λ _. after_name _ (λ s. opening_give _)))

opening_function : (b : Bool) → Opening (function_at b)
unfolding function_at
opening_function b = after_name _ (λ w. opening_behind kind.RoundLeft _ (λ _. opening_then (some_list name_at) _ (good_some_list name_at good_name).is_local (opening_some_list name_at good_name opening_name)
    (λ xs. opening_behind kind.Colon _ (λ _. after_name _ (λ s. opening_give _)))))

opening_symbol : (b : Bool) → Opening (symbol_at b)
unfolding symbol_at
opening_symbol b = opening_try kind.Relation _ _ (λ _. opening_relation b) (opening_try kind.Constant _ _ (λ _. opening_constant b) (opening_behind kind.Function _ (λ _. opening_function b)))

opening_label : Opening label_at
unfolding label_at
opening_label = opening_try kind.SquareLeft _ _ (λ _. opening_behind kind.Word _ (λ _. opening_behind kind.SquareRight _ (λ _. opening_give _))) (opening_give _)

local_of_label : Local label_at
unfolding label_at
local_of_label = local_try kind.SquareLeft _ _ (λ _. local_then (wants kind.Word) _ (good_wants kind.Word).is_local (λ _. local_then (wants kind.SquareRight) _ (good_wants kind.SquareRight).is_local (λ _. local_give _))) (local_give _)

local_of_modifies : Local modifies_at
unfolding modifies_at
local_of_modifies = local_try kind.Modifies _ _ (λ _. (good_listed name_at good_name).is_local) (local_give _)

opening_modifies : Opening modifies_at
unfolding modifies_at
opening_modifies = opening_try kind.Modifies _ _ (λ _. opening_listed name_at good_name.is_local opening_name) (opening_give _)

either : {A : Type 0} (ts : List Token) (b : Bool) (x y : Got A) → OpensAt ts x → OpensAt ts y → OpensAt ts (cond b x y)
either ts true x y p q = p
either ts false x y p q = q

closed_one : (d : ℕ) (t : Token) (ts : List Token) (got : Got (Unit {0})) → OpensAt ts got → OpensAt (t ∷ ts) (after_brace d ts got)
closed_one zero t ts got h = tt
closed_one (suc d) t ts got h = longer_got (t ∷ []) ts got h

braces_at : (ts : List Token) (d : ℕ) → OpensAt ts (braces d ts)
unfolding braces
braces_at [] d = tt
braces_at (t ∷ ts) d =
    either (t ∷ ts) (number t.kind == number kind.CurlyLeft) (braces (suc d) ts) _ (longer_got (t ∷ []) ts (braces (suc d) ts) (braces_at ts (suc d)))
    (either (t ∷ ts) (number t.kind == number kind.CurlyRight) (after_brace d ts (braces (d - 1) ts)) (braces d ts) (closed_one d t ts (braces (d - 1) ts) (braces_at ts (d - 1))) (longer_got (t ∷ []) ts (braces d ts) (braces_at ts d)))

opening_trace : Opening trace_at
unfolding trace_at
opening_trace = opening_behind kind.Trace _ (λ _. opening_behind kind.CurlyLeft _ (λ _. opening_then (braces 0) _ (local_braces 0) (record { by = λ ts. braces_at ts 0 }) (λ _. opening_give _)))

module _ (e : Reader Found) (g : Good e) (o : Opening e) where
  opening_labelled : Opening (labelled_at e)
  unfolding labelled_at
  opening_labelled = opening_then label_at _ local_of_label opening_label (λ _. opening_then e _ g.is_local o (λ x. opening_give _))

  local_of_labelled : Local (labelled_at e)
  unfolding labelled_at
  local_of_labelled = local_then label_at _ local_of_label (λ _. local_then e _ g.is_local (λ x. local_give _))

  opening_claim : Opening (claim_at e)
  unfolding claim_at
  opening_claim =
      opening_try kind.Axiom _ _ (λ _. opening_then (labelled_at e) _ local_of_labelled opening_labelled (λ x. opening_give _))
      (opening_try kind.Init _ _ (λ _. opening_then (labelled_at e) _ local_of_labelled opening_labelled (λ x. opening_give _))
      (opening_try kind.Safety _ _ (λ _. opening_then (labelled_at e) _ local_of_labelled opening_labelled (λ x. opening_give _))
      (opening_behind kind.Invariant _ (λ _. opening_then (labelled_at e) _ local_of_labelled opening_labelled (λ x. opening_give _)))))

  opening_transition : Opening (transition_at e)
  unfolding transition_at
  opening_transition = after_name _ (λ w. opening_behind kind.RoundLeft _ (λ _. opening_then (closed_list bound_at) _ (good_closed_list bound_at good_bound).is_local (opening_closed_list bound_at good_bound opening_bound)
      (λ ps. opening_then modifies_at _ local_of_modifies opening_modifies (λ ns. opening_then e _ g.is_local o (λ x. opening_give _)))))

  opening_decl : Opening (decl_at e)
  unfolding decl_at
  opening_decl =
      opening_try kind.Sort _ _ (λ _. after_name _ (λ w. opening_give _))
      (opening_try kind.Mutable _ _ (λ _. opening_symbol true)
      (opening_try kind.Immutable _ _ (λ _. opening_symbol false)
      (opening_try kind.Transition _ _ (λ _. opening_transition)
      (opening_try kind.Sat _ _ (λ _. opening_trace)
      (opening_try kind.Unsat _ _ (λ _. opening_trace)
      opening_claim)))))

-- ---- files

abbrev FileAt : List Token → Result (List Decl) Stuck → Type 0
FileAt ts (Ok xs) = Unit {0}
FileAt ts (Err d) = AtOpener ts d

longer_file : (p s : List Token) (x : Decl) (got : Result (List Decl) Stuck) → FileAt s got → FileAt (p ++ s) (before_all x got)
longer_file p s x (Ok xs) h = tt
longer_file p s x (Err d) h = longer p s d h

file_at_on : (f : Reader Decl) (ts : List Token) (y : Got Decl) (rest : List Token → Result (List Decl) Stuck) → LocalAt f ts y → OpensAt ts y → ((us : List Token) → FileAt us (rest us)) → FileAt ts (file_on y rest)
file_at_on f ts (Ok x) rest l o h = subst (λ (us : List Token). FileAt us (before_all x.0 (rest x.1))) (sym l.1) (longer_file l.0 x.1 x.0 (rest x.1) (h x.1))
file_at_on f ts (Err d) rest l o h = o

file_at : (f : Reader Decl) → Local f → Opening f → (n : ℕ) (ts : List Token) → FileAt ts (file f n ts)
unfolding file
file_at f l o zero ts = tt
file_at f l o (suc n) [] = tt
file_at f l o (suc n) (t ∷ ts) = file_at_on f (t ∷ ts) (f (t ∷ ts)) (file f n) (l.by (t ∷ ts)) (o.by (t ∷ ts)) (file_at f l o n)

pub deep_at_opener : (n v : ℕ) (ts : List Token) (d : Stuck) → whole n v ts ≡ Err d → AtOpener ts d
unfolding whole
deep_at_opener n v ts d e =
    let body = read n v Exprs in
    subst (FileAt ts) e (file_at (decl_at body) (good_decl body (good_read n v Exprs)).is_local (opening_decl body (good_read n v Exprs) (opening_read n v Exprs)) (length ts + 1) ts)

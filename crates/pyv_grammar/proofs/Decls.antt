-- Each declaration is read exactly.
use Rattle.std.proofs.Common.{◌≡◌, ℕ, zero, suc, ◌+◌, ◌-◌, ◌<◌, ◌≤◌, max, Bool, true, false, cond, List, [], ◌∷◌, ◌++◌, length, map, Option, Some, None, Result, Ok, Err, refl, sym, ap, ap₂, subst, ◌∙◌, ◌⊎◌, inl, inr, append_assoc, arith}
use Rattle.std.proofs.lemmas.List.{append-nil}
use Rattle.pv_base.specs.declared.Span.{Span}
use Rattle.pyv_lex.specs.declared.token.Kind.{Kind}
use Rattle.pyv_lex.specs.declared.token.Kind.TheVariants as kind
use Rattle.pyv_lex.specs.declared.token.Token.{Token}
use Rattle.pyv_grammar.specs.declared.tree.Bound.{Bound}
use Rattle.pyv_grammar.specs.declared.tree.Expr.{Expr}
use Rattle.pyv_grammar.specs.declared.tree.Decl.{Decl}
use Rattle.pyv_grammar.specs.declared.tree.Decl.TheVariants as decl
use Rattle.pyv_grammar.specs.declared.reading.Found.{Found}
use Rattle.pyv_grammar.specs.Grammar.{Exprs, Limits, Endless, Within, Fits, IsExpr, Separated, InBrackets, IsName, IsBound, IsMutability, IsClaim, IsLabel, IsModifies, IsBalanced, SpellsDecl}
use Rattle.pyv_grammar.specs.Grammar as rule
use Rattle.pyv_grammar.specs.Reading.{Reader, eat, found, give, refuse, and_then, sign, try, wants, never, listed, some_list, closed_list, name_at, bound_at, relation_at, constant_at, function_at, symbol_at, label_at, labelled_at, claim_at, modifies_at, transition_at, braces, trace_at, decl_at}
use Rattle.pyv_grammar.proofs.Eat.{eat-here, eat-other}
use Rattle.pyv_grammar.proofs.Exact.{Lang, After, Begins, Items, AfterItems, Exact, Sure, Always, OneOf, a_token, is_kind, a_kind, exact_wants, Nothing, exact_give, Seq, begins_first, sure_then, Sign, exact_sign, sure_sign, Never, exact_as, exact_before, some_items}
use Rattle.pyv_grammar.proofs.Spelt.{From, from_token, from_less, from_front, eat-from, start, starts, rank, rank_of, bound_most, AfterLevel, Spelt}
use Rattle.pyv_grammar.proofs.Forms.{First, un_one, mk_one, Last, un_last, mk_last, Ended, un_end, mk_end, then_any, exact_end, exact_last, sign_from, other_from, here, SomeL, ClosedL, some_some, some_closed, exact_listed, exact_some_list, exact_closed_list, exact_name, exact_bound, items_separated, separated_items}
use Rattle.pyv_grammar.proofs.Braces.{Closes, ClosesL, exact_braces, closes_behind, Split, split}
use Rattle.pyv_grammar.proofs.Braces as curly

-- ---- what begins a declaration, and so may follow one

abbrev pub rank_of_decl : Kind → ℕ
rank_of_decl kind.Sort = 1
rank_of_decl kind.Mutable = 2
rank_of_decl kind.Immutable = 3
rank_of_decl kind.Transition = 4
rank_of_decl kind.Sat = 5
rank_of_decl kind.Unsat = 6
rank_of_decl kind.Axiom = 7
rank_of_decl kind.Init = 8
rank_of_decl kind.Safety = 9
rank_of_decl kind.Invariant = 10
rank_of_decl _ = 0

abbrev pub BeginsDecl : List Token → Type 0
BeginsDecl [] = Unit {0}
BeginsDecl (t ∷ ts) = 1 ≤ rank_of_decl t.kind

abbrev pub AfterDecl : {A : Type 0} → After A
AfterDecl a rest = BeginsDecl rest

pub past : (k : Kind) → rank_of_decl k ≡ 0 → (ts : List Token) → BeginsDecl ts → eat k ts ≡ None
unfolding eat
past k z [] h = refl
past k z (t ∷ ts) h = eat-other k t ts (λ e. let r = ap rank_of_decl e in absurd (omega arith))

pub kind_rank : (k : Kind) → 1 ≤ rank_of_decl k → 6 ≤ rank k
kind_rank kind.Sort h = omega arith
kind_rank kind.Mutable h = omega arith
kind_rank kind.Immutable h = omega arith
kind_rank kind.Transition h = omega arith
kind_rank kind.Sat h = omega arith
kind_rank kind.Unsat h = omega arith
kind_rank kind.Axiom h = omega arith
kind_rank kind.Init h = omega arith
kind_rank kind.Safety h = omega arith
kind_rank kind.Invariant h = omega arith
kind_rank _ h = absurd (omega arith)

pub after_expr : (x : Found) (rest : List Token) → BeginsDecl rest → AfterLevel Exprs x rest
after_expr x [] h = bound_most Exprs x.ends_open
after_expr x (t ∷ ts) h = let r = kind_rank t.kind h in let m = bound_most Exprs x.ends_open in omega arith

-- ---- brackets

pub some_in : {A : Type 0} (L : Lang A) (l : Token) (ys : List A) (p : List Token) (r : Token) (u : List Token) → l.kind ≡ kind.RoundLeft → r.kind ≡ kind.RoundRight → u ≡ p ++ r ∷ [] → Items never kind.Comma L ys p → InBrackets L ys (l ∷ u)
some_in L l [] p r u k q e h = absurd h
some_in L l (y ∷ ys) p r u k q e h = (l, p, r, ap (λ (z : List Token). l ∷ z) e, k, q, items_separated kind.Comma L (y ∷ ys) p h)

pub closed_in : {A : Type 0} (L : Lang A) (l : Token) (xs : List A) (u : List Token) → l.kind ≡ kind.RoundLeft → ClosedL L xs u → InBrackets L xs (l ∷ u)
closed_in L l xs u k (inl c) = subst (λ ys. InBrackets L ys (l ∷ u)) (sym c.6.0) (l, c.2, ap (λ (z : List Token). l ∷ z) (c.4 ∙ ap (λ (z : List Token). c.2 ∷ z) c.6.1), k, c.5)
closed_in L l xs u k (inr c) =
    let d = un_end (Items never kind.Comma L) kind.RoundRight (λ ys. ys) xs u c in
    subst (λ ys. InBrackets L ys (l ∷ u)) (sym d.is) (some_in L l d.value d.inner d.token u k d.kind d.text d.spells)

pub record Opened {A : Type 0} (L : Lang (List A)) (xs : List A) (s : List Token) : Type 0 where
  pub token : Token
  pub rest : List Token
  pub text : s ≡ token ∷ rest
  pub opening : token.kind ≡ kind.RoundLeft
  pub is : L xs rest

pub in_closed : {A : Type 0} (L : Lang A) (xs : List A) (s : List Token) → InBrackets L xs s → Opened (ClosedL L) xs s
in_closed L [] s h = record { token = h.0; rest = h.1 ∷ []; text = h.2; opening = h.3; is = here true kind.RoundRight (λ _. Nothing []) (SomeL L) [] h.1 [] refl h.4 (refl, refl) }
in_closed L (x ∷ xs) s h = record { token = h.0; rest = h.1 ++ h.2 ∷ []; text = h.3; opening = h.4; is = inr (mk_end (Items never kind.Comma L) kind.RoundRight (λ ys. ys) (x ∷ xs) h.1 h.2 h.5 (separated_items kind.Comma L (x ∷ xs) h.1 h.6)) }

pub in_some : {A : Type 0} (L : Lang A) (x : A) (xs : List A) (s : List Token) → InBrackets L (x ∷ xs) s → Opened (SomeL L) (x ∷ xs) s
in_some L x xs s h = record { token = h.0; rest = h.1 ++ h.2 ∷ []; text = h.3; opening = h.4; is = mk_end (Items never kind.Comma L) kind.RoundRight (λ ys. ys) (x ∷ xs) h.1 h.2 h.5 (separated_items kind.Comma L (x ∷ xs) h.1 h.6) }

-- ---- languages

abbrev pub SortL : Lang Decl
SortL = Seq IsName (λ w. Nothing (decl.Sort w))

abbrev pub ArgsL : Bool → Span → Lang Decl
ArgsL b w = Sign false true kind.RoundLeft (λ _. Seq (ClosedL IsName) (λ xs. Nothing (decl.Relation b w xs))) (Nothing (decl.Relation b w []))

abbrev pub RelationL : Bool → Lang Decl
RelationL b = Seq IsName (ArgsL b)

abbrev pub SortOfL : (Span → Decl) → Lang Decl
SortOfL make = Seq (OneOf kind.Colon) (λ _. Seq IsName (λ s. Nothing (make s)))

abbrev pub ConstantL : Bool → Lang Decl
ConstantL b = Seq IsName (λ w. SortOfL (decl.Constant b w))

abbrev pub ValuesL : Bool → Span → Lang Decl
ValuesL b w = Seq (OneOf kind.RoundLeft) (λ _. Seq (SomeL IsName) (λ xs. SortOfL (decl.Function b w xs)))

abbrev pub FunctionL : Bool → Lang Decl
FunctionL b = Seq IsName (ValuesL b)

abbrev pub NotRelationL : Bool → Lang Decl
NotRelationL b = Sign false true kind.Constant (λ _. ConstantL b) (Seq (OneOf kind.Function) (λ _. FunctionL b))

abbrev pub SymbolL : Bool → Lang Decl
SymbolL b = Sign false true kind.Relation (λ _. RelationL b) (NotRelationL b)

abbrev pub LabelL : Lang (Unit {0})
LabelL = Sign false true kind.SquareLeft (λ _. Seq (OneOf kind.Word) (λ _. Seq (OneOf kind.SquareRight) (λ _. Nothing tt))) (Nothing tt)

abbrev pub ModifiesL : Lang (List Span)
ModifiesL = Sign false true kind.Modifies (λ _. Items never kind.Comma IsName) (Nothing [])

abbrev pub TraceL : Lang Decl
TraceL = Seq (OneOf kind.Trace) (λ _. Seq (OneOf kind.CurlyLeft) (λ _. Seq (ClosesL 0) (λ _. Nothing decl.Trace)))

module _ (R : ℕ → ℕ → Type 0) where
  abbrev pub LabelledL : Lang Expr
  LabelledL = Seq LabelL (λ _. Seq (Spelt R Exprs) (λ x. Nothing x.tree))

  abbrev pub MakesL : (Expr → Decl) → Lang Decl
  MakesL make = Seq LabelledL (λ x. Nothing (make x))

  abbrev pub SafetyL : Lang Decl
  SafetyL = Sign false true kind.Safety (λ _. MakesL decl.Safety) (Seq (OneOf kind.Invariant) (λ _. MakesL decl.Invariant))

  abbrev pub InitL : Lang Decl
  InitL = Sign false true kind.Init (λ _. MakesL decl.Init) SafetyL

  abbrev pub ClaimL : Lang Decl
  ClaimL = Sign false true kind.Axiom (λ _. MakesL decl.Axiom) InitL

  abbrev pub StepL : Span → List Bound → Lang Decl
  StepL w ps = Seq ModifiesL (λ ns. Seq (Spelt R Exprs) (λ x. Nothing (decl.Transition w ps ns x.tree)))

  abbrev pub TransitionL : Lang Decl
  TransitionL = Seq IsName (λ w. Seq (OneOf kind.RoundLeft) (λ _. Seq (ClosedL IsBound) (StepL w)))

  abbrev pub UnsatL : Lang Decl
  UnsatL = Sign false true kind.Unsat (λ _. TraceL) ClaimL

  abbrev pub SatL : Lang Decl
  SatL = Sign false true kind.Sat (λ _. TraceL) UnsatL

  abbrev pub StepsL : Lang Decl
  StepsL = Sign false true kind.Transition (λ _. TransitionL) SatL

  abbrev pub ImmutableL : Lang Decl
  ImmutableL = Sign false true kind.Immutable (λ _. SymbolL false) StepsL

  abbrev pub MutableL : Lang Decl
  MutableL = Sign false true kind.Mutable (λ _. SymbolL true) ImmutableL

  abbrev pub DeclL : Lang Decl
  DeclL = Sign false true kind.Sort (λ _. SortL) MutableL

  safety_from : (a : Decl) (s : List Token) → SafetyL a s → From rank_of_decl 9 s
  safety_from = sign_from rank_of_decl 9 false true kind.Safety (λ _. MakesL decl.Safety) (Seq (OneOf kind.Invariant) (λ _. MakesL decl.Invariant)) (omega arith)
      (λ a s h. let o = un_one kind.Invariant (λ _. MakesL decl.Invariant) a s h in subst (From rank_of_decl 9) (sym o.text) (from_token rank_of_decl o.token kind.Invariant 9 o.kind (omega arith)))

  init_from : (a : Decl) (s : List Token) → InitL a s → From rank_of_decl 8 s
  init_from = sign_from rank_of_decl 8 false true kind.Init (λ _. MakesL decl.Init) SafetyL (omega arith) (λ a s h. from_less rank_of_decl 8 9 s (omega arith) (safety_from a s h))

  claim_from : (a : Decl) (s : List Token) → ClaimL a s → From rank_of_decl 7 s
  claim_from = sign_from rank_of_decl 7 false true kind.Axiom (λ _. MakesL decl.Axiom) InitL (omega arith) (λ a s h. from_less rank_of_decl 7 8 s (omega arith) (init_from a s h))

  unsat_from : (a : Decl) (s : List Token) → UnsatL a s → From rank_of_decl 6 s
  unsat_from = sign_from rank_of_decl 6 false true kind.Unsat (λ _. TraceL) ClaimL (omega arith) (λ a s h. from_less rank_of_decl 6 7 s (omega arith) (claim_from a s h))

  sat_from : (a : Decl) (s : List Token) → SatL a s → From rank_of_decl 5 s
  sat_from = sign_from rank_of_decl 5 false true kind.Sat (λ _. TraceL) UnsatL (omega arith) (λ a s h. from_less rank_of_decl 5 6 s (omega arith) (unsat_from a s h))

  steps_from : (a : Decl) (s : List Token) → StepsL a s → From rank_of_decl 4 s
  steps_from = sign_from rank_of_decl 4 false true kind.Transition (λ _. TransitionL) SatL (omega arith) (λ a s h. from_less rank_of_decl 4 5 s (omega arith) (sat_from a s h))

  immutable_from : (a : Decl) (s : List Token) → ImmutableL a s → From rank_of_decl 3 s
  immutable_from = sign_from rank_of_decl 3 false true kind.Immutable (λ _. SymbolL false) StepsL (omega arith) (λ a s h. from_less rank_of_decl 3 4 s (omega arith) (steps_from a s h))

  mutable_from : (a : Decl) (s : List Token) → MutableL a s → From rank_of_decl 2 s
  mutable_from = sign_from rank_of_decl 2 false true kind.Mutable (λ _. SymbolL true) ImmutableL (omega arith) (λ a s h. from_less rank_of_decl 2 3 s (omega arith) (immutable_from a s h))

  pub decl_from_one : (a : Decl) (s : List Token) → DeclL a s → From rank_of_decl 1 s
  decl_from_one = sign_from rank_of_decl 1 false true kind.Sort (λ _. SortL) MutableL (omega arith) (λ a s h. from_less rank_of_decl 1 2 s (omega arith) (mutable_from a s h))

-- ---- readers

exact_sort : Sure (and_then name_at (λ w. give (decl.Sort w))) AfterDecl SortL SortL
exact_sort = exact_last name_at decl.Sort Always AfterDecl IsName IsName (exact_name Always) (λ _ _ _. tt)

name_ends : {A : Type 0} (a : A) (t : Token) (r : List Token) → (t.kind ≡ kind.Comma) ⊎ (t.kind ≡ kind.RoundRight) → Always a (t ∷ r)
name_ends a t r h = tt

start_name : (a : Span) (s : List Token) → IsName a s → From start 7 s
start_name a s (rule.IsName.name t k) = from_token start t kind.Word 7 k (omega arith)

start_bound : (a : Bound) (s : List Token) → IsBound a s → From start 7 s
start_bound a s (rule.IsBound.bare t k) = from_token start t kind.Word 7 k (omega arith)
start_bound a s (rule.IsBound.sorted t c w k l m) = from_token start t kind.Word 7 k (omega arith)

names_closed : Sure (closed_list name_at) Always (ClosedL IsName) (ClosedL IsName)
names_closed = exact_closed_list name_at Always IsName IsName (exact_name Always) name_ends start 7 (omega arith) start_name Always

names_some : Sure (some_list name_at) Always (SomeL IsName) (SomeL IsName)
names_some = exact_some_list name_at Always IsName IsName (exact_name Always) name_ends Always

exact_relation : (b : Bool) → Sure (relation_at b) AfterDecl (RelationL b) (RelationL b)
unfolding relation_at
exact_relation b = then_any name_at _ AfterDecl IsName IsName (ArgsL b) (ArgsL b) (exact_name Always)
    (λ w. sure_sign false true kind.RoundLeft (λ _. and_then (closed_list name_at) (λ xs. give (decl.Relation b w xs))) (give (decl.Relation b w [])) AfterDecl (λ _. Seq (ClosedL IsName) (λ xs. Nothing (decl.Relation b w xs))) (λ _. Seq (ClosedL IsName) (λ xs. Nothing (decl.Relation b w xs))) (Nothing (decl.Relation b w [])) (Nothing (decl.Relation b w []))
    (λ _ _. exact_last (closed_list name_at) (decl.Relation b w) Always AfterDecl (ClosedL IsName) (ClosedL IsName) names_closed (λ _ _ _. tt)) (λ _. (exact_last (closed_list name_at) (decl.Relation b w) Always AfterDecl (ClosedL IsName) (ClosedL IsName) names_closed (λ _ _ _. tt)).some)
    (exact_give (decl.Relation b w []) AfterDecl).exact (λ _ a s rest h d. ap (λ (l : List Token). eat kind.RoundLeft (l ++ rest)) h.1 ∙ past kind.RoundLeft refl rest d) (exact_give (decl.Relation b w []) AfterDecl).some)

exact_sort_of : (make : Span → Decl) → Sure (and_then (wants kind.Colon) (λ _. and_then name_at (λ s. give (make s)))) AfterDecl (SortOfL make) (SortOfL make)
exact_sort_of make = then_any (wants kind.Colon) _ AfterDecl (OneOf kind.Colon) (OneOf kind.Colon) _ _ (exact_wants kind.Colon) (λ _. exact_last name_at make Always AfterDecl IsName IsName (exact_name Always) (λ _ _ _. tt))

exact_constant : (b : Bool) → Sure (constant_at b) AfterDecl (ConstantL b) (ConstantL b)
unfolding constant_at
exact_constant b = then_any name_at _ AfterDecl IsName IsName (λ w. SortOfL (decl.Constant b w)) (λ w. SortOfL (decl.Constant b w)) (exact_name Always) (λ w. exact_sort_of (decl.Constant b w))

exact_function : (b : Bool) → Sure (function_at b) AfterDecl (FunctionL b) (FunctionL b)
unfolding function_at
exact_function b = then_any name_at _ AfterDecl IsName IsName (ValuesL b) (ValuesL b) (exact_name Always)
    (λ w. then_any (wants kind.RoundLeft) _ AfterDecl (OneOf kind.RoundLeft) (OneOf kind.RoundLeft) _ _ (exact_wants kind.RoundLeft) (λ _. then_any (some_list name_at) _ AfterDecl (SomeL IsName) (SomeL IsName) _ _ names_some (λ xs. exact_sort_of (decl.Function b w xs))))

symbol_other : (b : Bool) (a : Decl) (s rest : List Token) → Seq (OneOf kind.Function) (λ _. FunctionL b) a s → BeginsDecl rest → eat kind.Constant (s ++ rest) ≡ None
symbol_other b a s rest h d = let o = un_one kind.Function (λ _. FunctionL b) a s h in ap (λ (l : List Token). eat kind.Constant (l ++ rest)) o.text ∙ eat-other kind.Constant o.token (o.rest ++ rest) (λ (q : o.token.kind ≡ kind.Constant). let r = o.kind in absurd cc)

relation_other : (b : Bool) (a : Decl) (s rest : List Token) → NotRelationL b a s → BeginsDecl rest → eat kind.Relation (s ++ rest) ≡ None
relation_other b a s rest (inl c) d = ap (λ (l : List Token). eat kind.Relation (l ++ rest)) c.4 ∙ eat-other kind.Relation c.2 (c.3 ++ rest) (λ (q : c.2.kind ≡ kind.Relation). let r = c.5 in absurd cc)
relation_other b a s rest (inr h) d = let o = un_one kind.Function (λ _. FunctionL b) a s h in ap (λ (l : List Token). eat kind.Relation (l ++ rest)) o.text ∙ eat-other kind.Relation o.token (o.rest ++ rest) (λ (q : o.token.kind ≡ kind.Relation). let r = o.kind in absurd cc)

exact_symbol : (b : Bool) → Sure (symbol_at b) AfterDecl (SymbolL b) (SymbolL b)
unfolding symbol_at
exact_symbol b =
    let f = then_any (wants kind.Function) (λ _. function_at b) AfterDecl (OneOf kind.Function) (OneOf kind.Function) (λ _. FunctionL b) (λ _. FunctionL b) (exact_wants kind.Function) (λ _. exact_function b) in
    let c = sure_sign false true kind.Constant (λ _. constant_at b) (and_then (wants kind.Function) (λ _. function_at b)) AfterDecl (λ _. ConstantL b) (λ _. ConstantL b) (Seq (OneOf kind.Function) (λ _. FunctionL b)) (Seq (OneOf kind.Function) (λ _. FunctionL b)) (λ _ _. exact_constant b) (λ _. (exact_constant b).some) f.exact (λ _. symbol_other b) f.some in
    sure_sign false true kind.Relation (λ _. relation_at b) _ AfterDecl (λ _. RelationL b) (λ _. RelationL b) (NotRelationL b) (NotRelationL b) (λ _ _. exact_relation b) (λ _. (exact_relation b).some) c.exact (λ _. relation_other b) c.some

-- an expression follows
abbrev BeforeExpr : {A : Type 0} → After A
BeforeExpr a rest = From start 1 rest

no_start : (k : Kind) → start k ≡ 0 → (ts : List Token) → From start 1 ts → eat k ts ≡ None
no_start k z [] h = absurd h
no_start k z (t ∷ ts) h = eat-other k t ts (λ e. let r = ap start e in absurd (omega arith))

exact_label : Sure label_at BeforeExpr LabelL LabelL
unfolding label_at
exact_label =
    let inner = then_any (wants kind.Word) _ BeforeExpr (OneOf kind.Word) (OneOf kind.Word) (λ _. Seq (OneOf kind.SquareRight) (λ _. Nothing tt)) (λ _. Seq (OneOf kind.SquareRight) (λ _. Nothing tt)) (exact_wants kind.Word)
    (λ _. then_any (wants kind.SquareRight) (λ _. give tt) BeforeExpr (OneOf kind.SquareRight) (OneOf kind.SquareRight) (λ _. Nothing tt) (λ _. Nothing tt) (exact_wants kind.SquareRight) (λ _. exact_give tt BeforeExpr)) in
    sure_sign false true kind.SquareLeft (λ _. and_then (wants kind.Word) (λ _. and_then (wants kind.SquareRight) (λ _. give tt))) (give tt) BeforeExpr _ _ (Nothing tt) (Nothing tt) (λ _ _. inner) (λ _. inner.some) (exact_give tt BeforeExpr).exact
    (λ _ a s rest h d. ap (λ (l : List Token). eat kind.SquareLeft (l ++ rest)) h.1 ∙ no_start kind.SquareLeft refl rest d) (exact_give tt BeforeExpr).some

names_listed : Sure (listed name_at) (AfterItems never kind.Comma Always) (Items never kind.Comma IsName) (Items never kind.Comma IsName)
names_listed = exact_listed name_at Always IsName IsName (exact_name Always) name_ends

names_end : (xs : List Span) (rest : List Token) → From start 1 rest → AfterItems never kind.Comma Always xs rest
names_end [] rest h = tt
names_end (x ∷ []) rest h = (tt, λ _. no_start kind.Comma refl rest h)
names_end (x ∷ y ∷ xs) rest h = names_end (y ∷ xs) rest h

exact_modifies : Sure modifies_at BeforeExpr ModifiesL ModifiesL
unfolding modifies_at
exact_modifies =
    let names : Sure (listed name_at) BeforeExpr (Items never kind.Comma IsName) (Items never kind.Comma IsName) = record { exact = exact_before (listed name_at) (AfterItems never kind.Comma Always) BeforeExpr (Items never kind.Comma IsName) (Items never kind.Comma IsName) names_end names_listed.exact; some = names_listed.some } in
    sure_sign false true kind.Modifies (λ _. listed name_at) (give []) BeforeExpr (λ _. Items never kind.Comma IsName) (λ _. Items never kind.Comma IsName) (Nothing []) (Nothing []) (λ _ _. names) (λ _. names_listed.some) (exact_give [] BeforeExpr).exact
    (λ _ a s rest h d. ap (λ (l : List Token). eat kind.Modifies (l ++ rest)) h.1 ∙ no_start kind.Modifies refl rest d) (exact_give [] BeforeExpr).some

exact_trace : Sure trace_at AfterDecl TraceL TraceL
unfolding trace_at
exact_trace = then_any (wants kind.Trace) _ AfterDecl (OneOf kind.Trace) (OneOf kind.Trace) _ _ (exact_wants kind.Trace)
    (λ _. then_any (wants kind.CurlyLeft) _ AfterDecl (OneOf kind.CurlyLeft) (OneOf kind.CurlyLeft) _ _ (exact_wants kind.CurlyLeft) (λ _. then_any (braces 0) (λ _. give decl.Trace) AfterDecl (ClosesL 0) (ClosesL 0) (λ _. Nothing decl.Trace) (λ _. Nothing decl.Trace) (exact_braces 0 Always) (λ _. exact_give decl.Trace AfterDecl)))

bound_ends : (a : Bound) (t : Token) (r : List Token) → (t.kind ≡ kind.Comma) ⊎ (t.kind ≡ kind.RoundRight) → eat kind.Colon (t ∷ r) ≡ None
bound_ends a t r (inl k) = eat-other kind.Colon t r (λ (c : t.kind ≡ kind.Colon). absurd cc)
bound_ends a t r (inr k) = eat-other kind.Colon t r (λ (c : t.kind ≡ kind.Colon). absurd cc)

module _ (R U : ℕ → ℕ → Type 0) (e : Reader Found) (x : Sure e (AfterLevel Exprs) (Spelt R Exprs) (Spelt U Exprs)) where
  expr_last : {B : Type 0} (make : Found → B) → Sure (and_then e (λ a. give (make a))) AfterDecl (Seq (Spelt R Exprs) (λ a. Nothing (make a))) (Seq (Spelt U Exprs) (λ a. Nothing (make a)))
  expr_last make = exact_last e make (AfterLevel Exprs) AfterDecl (Spelt R Exprs) (Spelt U Exprs) x after_expr

  expr_starts : {B : Type 0} (make : Found → B) (b : B) (s rest : List Token) → Seq (Spelt R Exprs) (λ a. Nothing (make a)) b s → From start 1 (s ++ rest)
  expr_starts make b s rest h = let l = un_last (Spelt R Exprs) make b s h in from_front start 1 s rest (starts l.spells.spells)

  exact_labelled : Sure (labelled_at e) AfterDecl (LabelledL R) (LabelledL U)
  unfolding labelled_at
  exact_labelled = sure_then label_at _ BeforeExpr AfterDecl LabelL LabelL (λ _. Seq (Spelt R Exprs) (λ x. Nothing x.tree)) (λ _. Seq (Spelt U Exprs) (λ x. Nothing x.tree)) exact_label.exact (λ _. expr_last (λ x. x.tree)) (λ a b s rest h d. expr_starts (λ x. x.tree) b s rest h) exact_label.some

  exact_makes : (make : Expr → Decl) → Sure (and_then (labelled_at e) (λ a. give (make a))) AfterDecl (MakesL R make) (MakesL U make)
  exact_makes make = exact_last (labelled_at e) make AfterDecl AfterDecl (LabelledL R) (LabelledL U) exact_labelled (λ _ _ d. d)

  exact_step : (w : Span) (ps : List Bound) → Sure (and_then modifies_at (λ ns. and_then e (λ x. give (decl.Transition w ps ns x.tree)))) AfterDecl (StepL R w ps) (StepL U w ps)
  exact_step w ps = sure_then modifies_at _ BeforeExpr AfterDecl ModifiesL ModifiesL (λ ns. Seq (Spelt R Exprs) (λ x. Nothing (decl.Transition w ps ns x.tree))) (λ ns. Seq (Spelt U Exprs) (λ x. Nothing (decl.Transition w ps ns x.tree))) exact_modifies.exact (λ ns. expr_last (λ x. decl.Transition w ps ns x.tree)) (λ ns b s rest h d. expr_starts (λ x. decl.Transition w ps ns x.tree) b s rest h) exact_modifies.some

  exact_transition : Sure (transition_at e) AfterDecl (TransitionL R) (TransitionL U)
  unfolding transition_at
  exact_transition = then_any name_at _ AfterDecl IsName IsName _ _ (exact_name Always) (λ w. then_any (wants kind.RoundLeft) _ AfterDecl (OneOf kind.RoundLeft) (OneOf kind.RoundLeft) _ _ (exact_wants kind.RoundLeft)
      (λ _. then_any (closed_list bound_at) _ AfterDecl (ClosedL IsBound) (ClosedL IsBound) (StepL R w) (StepL U w) (exact_closed_list bound_at (λ a rest. eat kind.Colon rest ≡ None) IsBound IsBound exact_bound bound_ends start 7 (omega arith) start_bound Always) (exact_step w)))

  exact_invariant : Sure (and_then (wants kind.Invariant) (λ _. and_then (labelled_at e) (λ a. give (decl.Invariant a)))) AfterDecl (Seq (OneOf kind.Invariant) (λ _. MakesL R decl.Invariant)) (Seq (OneOf kind.Invariant) (λ _. MakesL U decl.Invariant))
  exact_invariant = then_any (wants kind.Invariant) _ AfterDecl (OneOf kind.Invariant) (OneOf kind.Invariant) (λ _. MakesL R decl.Invariant) (λ _. MakesL U decl.Invariant) (exact_wants kind.Invariant) (λ _. exact_makes decl.Invariant)

  invariant_from : (a : Decl) (s : List Token) → Seq (OneOf kind.Invariant) (λ _. MakesL R decl.Invariant) a s → From rank_of_decl 10 s
  invariant_from a s h = let o = un_one kind.Invariant (λ _. MakesL R decl.Invariant) a s h in subst (From rank_of_decl 10) (sym o.text) (from_token rank_of_decl o.token kind.Invariant 10 o.kind (omega arith))

  some_makes : (make : Expr → Decl) → Begins (MakesL U make) []
  some_makes make = let b = (exact_makes make).some in record { rest = b.rest; value = b.value; is = (exact_makes make).exact.wider b.value b.rest b.is }

  some_transition : Begins (TransitionL U) []
  some_transition = let b = exact_transition.some in record { rest = b.rest; value = b.value; is = exact_transition.exact.wider b.value b.rest b.is }

  exact_claim : Exact (claim_at e) AfterDecl (ClaimL R) (ClaimL U)
  unfolding claim_at
  exact_claim =
      exact_sign false true kind.Axiom (λ _. and_then (labelled_at e) (λ a. give (decl.Axiom a))) _ AfterDecl (λ _. MakesL R decl.Axiom) (λ _. MakesL U decl.Axiom) (InitL R) (InitL U) (λ _ _. exact_makes decl.Axiom) (λ _. some_makes decl.Axiom)
      (exact_sign false true kind.Init (λ _. and_then (labelled_at e) (λ a. give (decl.Init a))) _ AfterDecl (λ _. MakesL R decl.Init) (λ _. MakesL U decl.Init) (SafetyL R) (SafetyL U) (λ _ _. exact_makes decl.Init) (λ _. some_makes decl.Init)
      (exact_sign false true kind.Safety (λ _. and_then (labelled_at e) (λ a. give (decl.Safety a))) _ AfterDecl (λ _. MakesL R decl.Safety) (λ _. MakesL U decl.Safety) (Seq (OneOf kind.Invariant) (λ _. MakesL R decl.Invariant)) (Seq (OneOf kind.Invariant) (λ _. MakesL U decl.Invariant)) (λ _ _. exact_makes decl.Safety) (λ _. some_makes decl.Safety)
      exact_invariant.exact
      (λ _. other_from rank_of_decl 10 kind.Safety AfterDecl (Seq (OneOf kind.Invariant) (λ _. MakesL R decl.Invariant)) (omega arith) invariant_from))
      (λ _. other_from rank_of_decl 9 kind.Init AfterDecl (SafetyL R) (omega arith) (safety_from R)))
      (λ _. other_from rank_of_decl 8 kind.Axiom AfterDecl (InitL R) (omega arith) (init_from R))

  pub exact_decl_as : Exact (decl_at e) AfterDecl (DeclL R) (DeclL U)
  unfolding decl_at
  exact_decl_as =
      exact_sign false true kind.Sort (λ _. and_then name_at (λ w. give (decl.Sort w))) _ AfterDecl (λ _. SortL) (λ _. SortL) (MutableL R) (MutableL U) (λ _ _. exact_sort) (λ _. exact_sort.some)
      (exact_sign false true kind.Mutable (λ _. symbol_at true) _ AfterDecl (λ _. SymbolL true) (λ _. SymbolL true) (ImmutableL R) (ImmutableL U) (λ _ _. exact_symbol true) (λ _. (exact_symbol true).some)
      (exact_sign false true kind.Immutable (λ _. symbol_at false) _ AfterDecl (λ _. SymbolL false) (λ _. SymbolL false) (StepsL R) (StepsL U) (λ _ _. exact_symbol false) (λ _. (exact_symbol false).some)
      (exact_sign false true kind.Transition (λ _. transition_at e) _ AfterDecl (λ _. TransitionL R) (λ _. TransitionL U) (SatL R) (SatL U) (λ _ _. exact_transition) (λ _. some_transition)
      (exact_sign false true kind.Sat (λ _. trace_at) _ AfterDecl (λ _. TraceL) (λ _. TraceL) (UnsatL R) (UnsatL U) (λ _ _. exact_trace) (λ _. exact_trace.some)
      (exact_sign false true kind.Unsat (λ _. trace_at) _ AfterDecl (λ _. TraceL) (λ _. TraceL) (ClaimL R) (ClaimL U) (λ _ _. exact_trace) (λ _. exact_trace.some)
      exact_claim
      (λ _. other_from rank_of_decl 7 kind.Unsat AfterDecl (ClaimL R) (omega arith) (claim_from R)))
      (λ _. other_from rank_of_decl 6 kind.Sat AfterDecl (UnsatL R) (omega arith) (unsat_from R)))
      (λ _. other_from rank_of_decl 5 kind.Transition AfterDecl (SatL R) (omega arith) (sat_from R)))
      (λ _. other_from rank_of_decl 4 kind.Immutable AfterDecl (StepsL R) (omega arith) (steps_from R)))
      (λ _. other_from rank_of_decl 3 kind.Mutable AfterDecl (ImmutableL R) (omega arith) (immutable_from R)))
      (λ _. other_from rank_of_decl 2 kind.Sort AfterDecl (MutableL R) (omega arith) (mutable_from R))

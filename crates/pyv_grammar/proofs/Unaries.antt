-- Equalities, negations, quantifiers and conditionals are read exactly.
use Rattle.std.proofs.Common.{◌≡◌, ℕ, zero, suc, ◌+◌, ◌-◌, ◌<◌, ◌≤◌, max, Bool, true, false, cond, List, [], ◌∷◌, ◌++◌, length, map, Option, Some, None, Result, Ok, Err, refl, sym, ap, ap₂, subst, ◌∙◌, ◌⊎◌, inl, inr, append_assoc, arith}
use Rattle.std.proofs.lemmas.List.{append-nil}
use Rattle.std.proofs.lemmas.Bool.{ltb-true, lt-ltb}
use Rattle.std.specs.Prelude.{nat_lt}
use Rattle.pyv_lex.specs.declared.token.Kind.{Kind}
use Rattle.pyv_lex.specs.declared.token.Kind.TheVariants as kind
use Rattle.pyv_lex.specs.declared.token.Token.{Token}
use Rattle.pyv_grammar.specs.declared.tree.Bound.{Bound}
use Rattle.pyv_grammar.specs.declared.tree.Expr.{Expr}
use Rattle.pyv_grammar.specs.declared.tree.Expr.TheVariants as expr
use Rattle.pyv_grammar.specs.declared.reading.Found.{Found}
use Rattle.pyv_grammar.specs.Grammar.{Level, Atom, Unary, Ands, Ors, Imps, Exprs, Shape, One, Members, IsLead, Between, Spells, Separated, IsName, IsBound}
use Rattle.pyv_grammar.specs.Grammar as rule
use Rattle.pyv_grammar.specs.Reading.{Reader, eat, skip, on, found, trees, last_open, heights, give, refuse, and_then, sign, try, opens, wants, never, listed, some_list, closed_list, bound_at, all_separated, ends_open, node_of, joined, named_at, new_at, distinct_at, bracketed_at, atom_at, equality, comparison_at, negation_at, binding_at, quantified_at, conditional_at, unary_at, imp_at, expr_at}
use Rattle.pyv_grammar.proofs.Eat.{eat-here, eat-other}
use Rattle.pyv_grammar.proofs.Exact.{Lang, After, Begins, Items, AfterItems, Exact, Sure, Always, OneOf, a_token, is_kind, a_kind, exact_wants, Nothing, exact_give, Seq, begins_first, exact_then, sure_then, Sign, exact_sign, sure_sign, Never, exact_refuse, exact_as, exact_before, some_items, exact_items}
use Rattle.pyv_grammar.proofs.Spelt.{From, from_token, from_less, from_front, eat-from, start, starts_at, starts, rank, rank_of, holds_at, bound, AfterLevel, bound_least, bound_most, tighter, eat-past, closed_follows, ends_all, Spelt, Any, In, Under, Inside, Room, any_room, both_under, a_word, SpeltMembers, members_to, Found_as, members_from}
use Rattle.pyv_grammar.proofs.Forms.{First, un_one, mk_one, Last, un_last, mk_last, Ended, un_end, mk_end, then_any, exact_end, exact_last, sign_from, other_from, here, SomeL, ClosedL, some_some, some_closed, exact_listed, exact_some_list, exact_closed_list, exact_bound, items_separated, separated_items}
use Rattle.pyv_grammar.proofs.Levels.{AtomL, AfterAtom, exact_atom, ends_expr, starts_expr}
use Rattle.pyv_grammar.proofs.Atoms.{re, room_under, atom_to, atom_from, atom_shut}

abbrev pub negation_of : Token → Found → Found
negation_of t x = found (expr.Not t.span.from x.tree) x.ends_open x.height

abbrev pub bound_of : (ℕ → List Bound → Expr → Expr) → Token → List Bound × Found → Found
bound_of node t y = found (node t.span.from y.0 y.1.tree) true y.1.height

abbrev pub if_of : Token → Found → Found → Found → Found
if_of t x y z = found (expr.If t.span.from x.tree y.tree z.tree) true (suc (max x.height (max y.height z.height)))

abbrev pub Bounds : Lang (List Bound)
Bounds = Items never kind.Comma IsBound

module _ (R : ℕ → ℕ → Type 0) where
  abbrev pub UnequalL : Found → Lang Found
  UnequalL x = Sign false true kind.Unequal (λ t. Seq (Spelt R Atom) (λ y. Nothing (equality expr.Unequal t x y))) (Nothing x)

  abbrev pub EqualL : Found → Lang Found
  EqualL x = Sign false true kind.Equal (λ t. Seq (Spelt R Atom) (λ y. Nothing (equality expr.Equal t x y))) (UnequalL x)

  abbrev pub ComparisonL : Lang Found
  ComparisonL = Seq (Spelt R Atom) EqualL

  abbrev pub NotL : Token → Lang Found
  NotL t = Seq (Spelt R Unary) (λ x. Nothing (negation_of t x))

  abbrev pub BindingL : Lang (List Bound × Found)
  BindingL = Seq Bounds (λ bs. Seq (OneOf kind.Dot) (λ _. Seq (Spelt R Exprs) (λ x. Nothing (bs, x))))

  abbrev pub QuantifiedL : (ℕ → List Bound → Expr → Expr) → Token → Lang Found
  QuantifiedL node t = Seq BindingL (λ y. Nothing (bound_of node t y))

  abbrev pub ElseL : Token → Found → Found → Lang Found
  ElseL t x y = Seq (OneOf kind.Else) (λ _. Seq (Spelt R Exprs) (λ z. Nothing (if_of t x y z)))

  abbrev pub ThenL : Token → Found → Lang Found
  ThenL t x = Seq (OneOf kind.Then) (λ _. Seq (Spelt R Exprs) (ElseL t x))

  abbrev pub IfL : Token → Lang Found
  IfL t = Seq (Spelt R Exprs) (ThenL t)

abbrev pub Low : (ℕ → ℕ → Type 0) → ℕ → ℕ → Type 0
Low R d h = R (suc d) (suc h)

module _ (R : ℕ → ℕ → Type 0) (b may : Bool) where
  abbrev pub AfterForallL : Lang Found
  AfterForallL = Sign false b kind.Exists (QuantifiedL (Under R) expr.Ex) (Sign false may kind.If (IfL (Low R)) (ComparisonL R))

  abbrev pub AfterBangL : Lang Found
  AfterBangL = Sign false b kind.Forall (QuantifiedL (Under R) expr.All) AfterForallL

  abbrev pub UnaryL : Lang Found
  UnaryL = Sign false b kind.Bang (NotL (Under R)) AfterBangL

comparison_from : (R : ℕ → ℕ → Type 0) (a : Found) (s : List Token) → ComparisonL R a s → From start 7 s
comparison_from R a s h = subst (From start 7) (sym h.3) (from_front start 7 h.1 h.2 (starts h.4.spells))

if_from : (R : ℕ → ℕ → Type 0) (may : Bool) (a : Found) (s : List Token) → Sign false may kind.If (IfL (Low R)) (ComparisonL R) a s → From start 6 s
if_from R may = sign_from start 6 false may kind.If (IfL (Low R)) (ComparisonL R) (omega arith) (λ a s h. from_less start 6 7 s (omega arith) (comparison_from R a s h))

exists_from : (R : ℕ → ℕ → Type 0) (b may : Bool) (a : Found) (s : List Token) → AfterForallL R b may a s → From start 5 s
exists_from R b may = sign_from start 5 false b kind.Exists (QuantifiedL (Under R) expr.Ex) (Sign false may kind.If (IfL (Low R)) (ComparisonL R)) (omega arith) (λ a s h. from_less start 5 6 s (omega arith) (if_from R may a s h))

forall_from : (R : ℕ → ℕ → Type 0) (b may : Bool) (a : Found) (s : List Token) → AfterBangL R b may a s → From start 4 s
forall_from R b may = sign_from start 4 false b kind.Forall (QuantifiedL (Under R) expr.All) (AfterForallL R b may) (omega arith) (λ a s h. from_less start 4 5 s (omega arith) (exists_from R b may a s h))

-- ---- texts

module _ (R : ℕ → ℕ → Type 0) (none : R 0 0) where
  a_not : (t : Token) → Begins (NotL R t) []
  a_not t = begins_first (Spelt R Unary) (λ x. Nothing (negation_of t x)) (λ x. (exact_give (negation_of t x) Always).some) [] (a_word R Unary none)

  a_binding : Begins (BindingL R) []
  a_binding = begins_first Bounds (λ bs. Seq (OneOf kind.Dot) (λ _. Seq (Spelt R Exprs) (λ x. Nothing (bs, x)))) (λ bs. begins_first (OneOf kind.Dot) (λ _. Seq (Spelt R Exprs) (λ x. Nothing (bs, x))) (λ _. begins_first (Spelt R Exprs) (λ x. Nothing (bs, x)) (λ x. (exact_give (bs, x) Always).some) [] (a_word R Exprs none)) [] (a_kind kind.Dot)) []
      (record { rest = exact_bound.some.rest; value = exact_bound.some.value ∷ []; is = exact_bound.some.is })

  a_quantified : (node : ℕ → List Bound → Expr → Expr) (t : Token) → Begins (QuantifiedL R node t) []
  a_quantified node t = begins_first (BindingL R) (λ y. Nothing (bound_of node t y)) (λ y. (exact_give (bound_of node t y) Always).some) [] a_binding

  a_else : (t : Token) (x y : Found) → Begins (ElseL R t x y) []
  a_else t x y = begins_first (OneOf kind.Else) (λ _. Seq (Spelt R Exprs) (λ z. Nothing (if_of t x y z))) (λ _. begins_first (Spelt R Exprs) (λ z. Nothing (if_of t x y z)) (λ z. (exact_give (if_of t x y z) Always).some) [] (a_word R Exprs none)) [] (a_kind kind.Else)

  a_then : (t : Token) (x : Found) → Begins (ThenL R t x) []
  a_then t x = begins_first (OneOf kind.Then) (λ _. Seq (Spelt R Exprs) (ElseL R t x)) (λ _. begins_first (Spelt R Exprs) (ElseL R t x) (a_else t x) [] (a_word R Exprs none)) [] (a_kind kind.Then)

  an_if : (t : Token) → Begins (IfL R t) []
  an_if t = begins_first (Spelt R Exprs) (ThenL R t) (a_then t) [] (a_word R Exprs none)

-- ---- readers

after_dot : (xs : List Bound) (t : Token) (r : List Token) → t.kind ≡ kind.Dot → AfterItems never kind.Comma (λ a rest. eat kind.Colon rest ≡ None) xs (t ∷ r)
after_dot [] t r k = tt
after_dot (a ∷ []) t r k = (eat-other kind.Colon t r (λ (c : t.kind ≡ kind.Colon). absurd cc), λ q. eat-other kind.Comma t r (λ (c : t.kind ≡ kind.Comma). absurd cc))
after_dot (a ∷ b ∷ xs) t r k = after_dot (b ∷ xs) t r k

bound_ends : (a : Bound) (t : Token) (r : List Token) → (t.kind ≡ kind.Comma) ⊎ (t.kind ≡ kind.RoundRight) → eat kind.Colon (t ∷ r) ≡ None
bound_ends a t r (inl k) = eat-other kind.Colon t r (λ (c : t.kind ≡ kind.Colon). absurd cc)
bound_ends a t r (inr k) = eat-other kind.Colon t r (λ (c : t.kind ≡ kind.Colon). absurd cc)

abbrev pub AfterBound : After (List Bound × Found)
AfterBound y rest = AfterLevel Exprs y.1 rest

module _ (R U : ℕ → ℕ → Type 0) (e : Reader Found) (x : Sure e (AfterLevel Exprs) (Spelt R Exprs) (Spelt U Exprs)) where
  exact_binding : Sure (binding_at e) AfterBound (BindingL R) (BindingL U)
  unfolding binding_at
  exact_binding =
      sure_then (listed bound_at) _ (AfterItems never kind.Comma (λ a rest. eat kind.Colon rest ≡ None)) AfterBound Bounds Bounds _ _ (exact_listed bound_at (λ a rest. eat kind.Colon rest ≡ None) IsBound IsBound exact_bound bound_ends).exact
      (λ bs. then_any (wants kind.Dot) _ AfterBound (OneOf kind.Dot) (OneOf kind.Dot) _ _ (exact_wants kind.Dot) (λ _. exact_last e (λ x. (bs, x)) (AfterLevel Exprs) AfterBound (Spelt R Exprs) (Spelt U Exprs) x (λ a rest d. d)))
      (λ bs y s rest h d. let o = un_one kind.Dot (λ _. Seq (Spelt R Exprs) (λ x. Nothing (bs, x))) y s h in subst (AfterItems never kind.Comma (λ a rest. eat kind.Colon rest ≡ None) bs) (sym (ap (λ (l : List Token). l ++ rest) o.text)) (after_dot bs o.token (o.rest ++ rest) o.kind))
      (exact_listed bound_at (λ a rest. eat kind.Colon rest ≡ None) IsBound IsBound exact_bound bound_ends).some

  after_open : (a : Found) (rest : List Token) → 6 ≤ rank_of rest → AfterLevel Exprs a rest
  after_open a rest h = let m = bound_most Exprs a.ends_open in omega arith

  exact_quantified : (node : ℕ → List Bound → Expr → Expr) (t : Token) → Sure (quantified_at node e t) (AfterLevel Unary) (QuantifiedL R node t) (QuantifiedL U node t)
  exact_quantified node t = exact_last (binding_at e) (bound_of node t) AfterBound (AfterLevel Unary) (BindingL R) (BindingL U) exact_binding (λ y rest d. after_open y.1 rest d)

  before_word : (k : Kind) → 6 ≤ rank k → {B : Type 0} (K : Token → Lang B) (a : Found) (y : B) (s rest : List Token) → Seq (OneOf k) K y s → AfterLevel Exprs a (s ++ rest)
  before_word k le K a y s rest h = let o = un_one k K y s h in subst (AfterLevel Exprs a) (sym (ap (λ (l : List Token). l ++ rest) o.text)) (ends_all Exprs a o.token k (o.rest ++ rest) o.kind le)

  exact_else : (t : Token) (p q : Found) → Sure (and_then (wants kind.Else) (λ _. and_then e (λ z. give (if_of t p q z)))) (AfterLevel Unary) (ElseL R t p q) (ElseL U t p q)
  exact_else t p q = then_any (wants kind.Else) _ (AfterLevel Unary) (OneOf kind.Else) (OneOf kind.Else) _ _ (exact_wants kind.Else) (λ _. exact_last e (if_of t p q) (AfterLevel Exprs) (AfterLevel Unary) (Spelt R Exprs) (Spelt U Exprs) x (λ a rest d. after_open a rest d))

  exact_then_part : (t : Token) (p : Found) → Sure (and_then (wants kind.Then) (λ _. and_then e (λ q. and_then (wants kind.Else) (λ _. and_then e (λ z. give (if_of t p q z)))))) (AfterLevel Unary) (ThenL R t p) (ThenL U t p)
  exact_then_part t p = then_any (wants kind.Then) _ (AfterLevel Unary) (OneOf kind.Then) (OneOf kind.Then) _ _ (exact_wants kind.Then)
      (λ _. sure_then e _ (AfterLevel Exprs) (AfterLevel Unary) (Spelt R Exprs) (Spelt U Exprs) (ElseL R t p) (ElseL U t p) x.exact (exact_else t p) (λ a y s rest h d. before_word kind.Else (omega arith) (λ _. Seq (Spelt R Exprs) (λ z. Nothing (if_of t p a z))) a y s rest h) x.some)

  exact_if : (t : Token) → Sure (conditional_at e t) (AfterLevel Unary) (IfL R t) (IfL U t)
  exact_if t = sure_then e _ (AfterLevel Exprs) (AfterLevel Unary) (Spelt R Exprs) (Spelt U Exprs) (ThenL R t) (ThenL U t) x.exact (exact_then_part t) (λ a y s rest h d. before_word kind.Then (omega arith) (λ _. Seq (Spelt R Exprs) (ElseL R t a)) a y s rest h) x.some

abbrev pub AfterEqual : After Found
AfterEqual x rest = 2 ≤ rank_of rest

module _ (R : ℕ → ℕ → Type 0) (a : Reader Found) (x : Sure a AfterAtom (Spelt R Atom) (Spelt Any Atom)) where
  equality_reads : (node : ℕ → Expr → Expr → Expr) (p : Found) (t : Token) → Sure (and_then a (λ y. give (equality node t p y))) AfterEqual (Seq (Spelt R Atom) (λ y. Nothing (equality node t p y))) (Seq (Spelt Any Atom) (λ y. Nothing (equality node t p y)))
  equality_reads node p t = exact_last a (equality node t p) AfterAtom AfterEqual (Spelt R Atom) (Spelt Any Atom) x (λ y rest d. omega arith)

  an_equality : (node : ℕ → Expr → Expr → Expr) (p : Found) (t : Token) → Begins (Seq (Spelt Any Atom) (λ y. Nothing (equality node t p y))) []
  an_equality node p t = begins_first (Spelt Any Atom) (λ y. Nothing (equality node t p y)) (λ y. (exact_give (equality node t p y) Always).some) [] (a_word Any Atom tt)

  exact_unequal : (p : Found) → Sure (try kind.Unequal (λ t. and_then a (λ y. give (equality expr.Unequal t p y))) (give p)) AfterEqual (UnequalL R p) (UnequalL Any p)
  exact_unequal p = sure_sign false true kind.Unequal (λ t. and_then a (λ y. give (equality expr.Unequal t p y))) (give p) AfterEqual _ _ (Nothing p) (Nothing p) (λ _ t. equality_reads expr.Unequal p t) (an_equality expr.Unequal p) (exact_give p AfterEqual).exact
      (λ _ b s rest h d. ap (λ (l : List Token). eat kind.Unequal (l ++ rest)) h.1 ∙ eat-past kind.Unequal rest (omega arith)) (exact_give p AfterEqual).some

  no_equal : (p b : Found) (s rest : List Token) → UnequalL R p b s → AfterEqual b rest → eat kind.Equal (s ++ rest) ≡ None
  no_equal p b s rest (inl c) d = ap (λ (l : List Token). eat kind.Equal (l ++ rest)) c.4 ∙ eat-other kind.Equal c.2 (c.3 ++ rest) (λ (q : c.2.kind ≡ kind.Equal). let r = c.5 in absurd cc)
  no_equal p b s rest (inr n) d = ap (λ (l : List Token). eat kind.Equal (l ++ rest)) n.1 ∙ eat-past kind.Equal rest (omega arith)

  exact_equal : (p : Found) → Sure (try kind.Equal (λ t. and_then a (λ y. give (equality expr.Equal t p y))) (try kind.Unequal (λ t. and_then a (λ y. give (equality expr.Unequal t p y))) (give p))) AfterEqual (EqualL R p) (EqualL Any p)
  exact_equal p = sure_sign false true kind.Equal (λ t. and_then a (λ y. give (equality expr.Equal t p y))) _ AfterEqual _ _ (UnequalL R p) (UnequalL Any p) (λ _ t. equality_reads expr.Equal p t) (an_equality expr.Equal p) (exact_unequal p).exact (λ _. no_equal p) (exact_unequal p).some

  after_first : (p b : Found) (s rest : List Token) → EqualL R p b s → AfterEqual b rest → AfterAtom p (s ++ rest)
  after_first p b s rest (inl c) d = subst (λ (l : List Token). 1 ≤ rank_of (l ++ rest)) (sym c.4) (let r = ap rank c.5 in omega arith)
  after_first p b s rest (inr (inl c)) d = subst (λ (l : List Token). 1 ≤ rank_of (l ++ rest)) (sym c.4) (let r = ap rank c.5 in omega arith)
  after_first p b s rest (inr (inr n)) d = subst (λ (l : List Token). 1 ≤ rank_of (l ++ rest)) (sym n.1) (omega arith)

  pub exact_comparison : Sure (and_then a (λ p. try kind.Equal (λ t. and_then a (λ y. give (equality expr.Equal t p y))) (try kind.Unequal (λ t. and_then a (λ y. give (equality expr.Unequal t p y))) (give p)))) AfterEqual (ComparisonL R) (ComparisonL Any)
  exact_comparison = sure_then a _ AfterAtom AfterEqual (Spelt R Atom) (Spelt Any Atom) (EqualL R) (EqualL Any) x.exact exact_equal after_first x.some

module _ (R : ℕ → ℕ → Type 0) (b may : Bool) (d : Level → Reader Found) (low : Reader Found) (x : b ≡ true → (l : Level) → Sure (d l) (AfterLevel l) (Spelt (Under R) l) (Spelt Any l))
    (y : may ≡ true → Sure low (AfterLevel Exprs) (Spelt (Low R) Exprs) (Spelt Any Exprs)) (atom : Sure (atom_at b (d Exprs)) AfterAtom (Spelt R Atom) (Spelt Any Atom)) where
  pub exact_unary : Exact (unary_at b may d low) (AfterLevel Unary) (UnaryL R b may) (UnaryL Any true true)
  unfolding unary_at comparison_at
  exact_unary =
      exact_sign false b kind.Bang (negation_at (d Unary)) _ (AfterLevel Unary) (NotL (Under R)) (NotL Any) (AfterBangL R b may) (AfterBangL Any true true)
      (λ p t. exact_last (d Unary) (negation_of t) (AfterLevel Unary) (AfterLevel Unary) (Spelt (Under R) Unary) (Spelt Any Unary) (x p Unary) (λ a rest h. h)) (a_not Any tt)
      (exact_sign false b kind.Forall (quantified_at expr.All (d Exprs)) _ (AfterLevel Unary) (QuantifiedL (Under R) expr.All) (QuantifiedL Any expr.All) (AfterForallL R b may) (AfterForallL Any true true) (λ p t. exact_quantified (Under R) Any (d Exprs) (x p Exprs) expr.All t) (a_quantified Any tt expr.All)
      (exact_sign false b kind.Exists (quantified_at expr.Ex (d Exprs)) _ (AfterLevel Unary) (QuantifiedL (Under R) expr.Ex) (QuantifiedL Any expr.Ex) (Sign false may kind.If (IfL (Low R)) (ComparisonL R)) (Sign false true kind.If (IfL Any) (ComparisonL Any)) (λ p t. exact_quantified (Under R) Any (d Exprs) (x p Exprs) expr.Ex t) (a_quantified Any tt expr.Ex)
      (exact_sign false may kind.If (conditional_at low) _ (AfterLevel Unary) (IfL (Low R)) (IfL Any) (ComparisonL R) (ComparisonL Any) (λ p t. exact_if (Low R) Any low (y p) t) (an_if Any tt)
      (exact_before _ AfterEqual (AfterLevel Unary) (ComparisonL R) (ComparisonL Any) (λ a rest h. let m = bound_least Unary a.ends_open in omega arith) (exact_comparison R (atom_at b (d Exprs)) atom).exact)
      (λ _. other_from start 7 kind.If (AfterLevel Unary) (ComparisonL R) (omega arith) (comparison_from R)))
      (λ _. other_from start 6 kind.Exists (AfterLevel Unary) (Sign false may kind.If (IfL (Low R)) (ComparisonL R)) (omega arith) (if_from R may)))
      (λ _. other_from start 5 kind.Forall (AfterLevel Unary) (AfterForallL R b may) (omega arith) (exists_from R b may)))
      (λ _. other_from start 4 kind.Bang (AfterLevel Unary) (AfterBangL R b may) (omega arith) (forall_from R b may))

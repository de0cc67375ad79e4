-- Each level of an expression is read exactly.
use Rattle.std.proofs.Common.{◌≡◌, ℕ, zero, suc, ◌+◌, ◌-◌, ◌<◌, ◌≤◌, max, Bool, true, false, cond, List, [], ◌∷◌, ◌++◌, length, map, Option, Some, None, Result, Ok, Err, refl, sym, ap, ap₂, subst, ◌∙◌, ◌⊎◌, inl, inr, append_assoc, arith}
use Rattle.std.proofs.lemmas.List.{append-nil}
use Rattle.std.proofs.lemmas.Bool.{ltb-true, lt-ltb}
use Rattle.std.specs.Prelude.{nat_lt}
use Rattle.pyv_lex.specs.declared.token.Kind.{Kind}
use Rattle.pyv_lex.specs.declared.token.Kind.TheVariants as kind
use Rattle.pyv_lex.specs.declared.token.Token.{Token}
use Rattle.pyv_grammar.specs.declared.tree.Bound.{Bound}
use Rattle.pyv_grammar.specs.declared.tree.Expr.{Expr}
use Rattle.pyv_grammar.specs.declared.tree.Expr.TheVariants as expr
use Rattle.pyv_grammar.specs.declared.reading.Found.{Found}
use Rattle.pyv_grammar.specs.Grammar.{Level, Atom, Unary, Ands, Ors, Imps, Exprs, Shape, One, Members, IsLead, Between, Spells, Separated, IsName, IsBound}
use Rattle.pyv_grammar.specs.Grammar as rule
use Rattle.pyv_grammar.specs.Reading.{Reader, eat, skip, on, found, trees, last_open, heights, give, refuse, and_then, sign, try, opens, wants, never, listed, some_list, closed_list, bound_at, all_separated, ends_open, node_of, joined, named_at, new_at, distinct_at, bracketed_at, atom_at, equality, comparison_at, negation_at, binding_at, quantified_at, conditional_at, unary_at, imp_at, expr_at}
use Rattle.pyv_grammar.proofs.Eat.{eat-here, eat-other}
use Rattle.pyv_grammar.proofs.Exact.{Lang, After, Begins, Items, AfterItems, Exact, Sure, Always, OneOf, a_token, is_kind, a_kind, exact_wants, Nothing, exact_give, Seq, begins_first, exact_then, sure_then, Sign, exact_sign, sure_sign, Never, exact_refuse, exact_as, exact_before, some_items, exact_items}
use Rattle.pyv_grammar.proofs.Spelt.{From, from_token, from_less, from_front, eat-from, start, starts_at, starts, rank, rank_of, holds_at, bound, AfterLevel, bound_least, bound_most, tighter, eat-past, closed_follows, ends_all, Spelt, Any, In, Under, Inside, Room, any_room, both_under, a_word, SpeltMembers, members_to, Found_as, members_from}
use Rattle.pyv_grammar.proofs.Forms.{First, un_one, mk_one, Last, un_last, mk_last, Ended, un_end, mk_end, then_any, exact_end, exact_last, sign_from, other_from, here, SomeL, ClosedL, some_some, some_closed, exact_listed, exact_some_list, exact_closed_list, exact_bound, items_separated, separated_items}

-- ---- the forms, by what stands in them

abbrev pub name_of : Token → Found
name_of t = found (expr.Name t.span false []) false 0

abbrev pub call_of : Token → List Found → Found
call_of t xs = found (expr.Name t.span true (trees xs)) false (heights xs)

abbrev pub new_of : Token → Found → Found
new_of t x = found (expr.New t.span.from x.tree) false x.height

abbrev pub distinct_of : Token → List Found → Found
distinct_of t xs = found (expr.Distinct t.span.from (trees xs)) false (heights xs)

abbrev pub inner_of : Found → Found
inner_of x = found x.tree false x.height

module _ (R : ℕ → ℕ → Type 0) where
  abbrev pub CallL : Token → Lang Found
  CallL t = Seq (ClosedL (Spelt R Exprs)) (λ xs. Nothing (call_of t xs))

  abbrev pub BracketL : Lang Found
  BracketL = Seq (Spelt R Exprs) (λ x. Seq (OneOf kind.RoundRight) (λ _. Nothing (inner_of x)))

  abbrev pub NewL : Token → Lang Found
  NewL t = Seq (OneOf kind.RoundLeft) (λ _. Seq (Spelt R Exprs) (λ x. Seq (OneOf kind.RoundRight) (λ _. Nothing (new_of t x))))

  abbrev pub DistinctL : Token → Lang Found
  DistinctL t = Seq (OneOf kind.RoundLeft) (λ _. Seq (SomeL (Spelt R Exprs)) (λ xs. Nothing (distinct_of t xs)))

module _ (R : ℕ → ℕ → Type 0) (b : Bool) where
  abbrev pub NamedL : Token → Lang Found
  NamedL t = Sign false b kind.RoundLeft (λ _. CallL (Under R) t) (Nothing (name_of t))

  abbrev pub AtomBracketL : Lang Found
  AtomBracketL = Sign false b kind.RoundLeft (λ _. BracketL (Under R)) Never

  abbrev pub AtomDistinctL : Lang Found
  AtomDistinctL = Sign false b kind.Distinct (DistinctL (Under R)) AtomBracketL

  abbrev pub AtomNewL : Lang Found
  AtomNewL = Sign false b kind.New (NewL (Under R)) AtomDistinctL

  abbrev pub AtomFalseL : Lang Found
  AtomFalseL = Sign false true kind.False (λ t. Nothing (found (expr.False t.span.from) false 0)) AtomNewL

  abbrev pub AtomTrueL : Lang Found
  AtomTrueL = Sign false true kind.True (λ t. Nothing (found (expr.True t.span.from) false 0)) AtomFalseL

  abbrev pub AtomL : Lang Found
  AtomL = Sign false true kind.Word NamedL AtomTrueL

-- what begins each rest of the choice
bracket_from : (R : ℕ → ℕ → Type 0) (b : Bool) (a : Found) (s : List Token) → AtomBracketL R b a s → From start 12 s
bracket_from R b = sign_from start 12 false b kind.RoundLeft (λ _. BracketL (Under R)) Never (omega arith) (λ a s h. absurd h)

distinct_from : (R : ℕ → ℕ → Type 0) (b : Bool) (a : Found) (s : List Token) → AtomDistinctL R b a s → From start 11 s
distinct_from R b = sign_from start 11 false b kind.Distinct (DistinctL (Under R)) (AtomBracketL R b) (omega arith) (λ a s h. from_less start 11 12 s (omega arith) (bracket_from R b a s h))

new_from : (R : ℕ → ℕ → Type 0) (b : Bool) (a : Found) (s : List Token) → AtomNewL R b a s → From start 10 s
new_from R b = sign_from start 10 false b kind.New (NewL (Under R)) (AtomDistinctL R b) (omega arith) (λ a s h. from_less start 10 11 s (omega arith) (distinct_from R b a s h))

false_from : (R : ℕ → ℕ → Type 0) (b : Bool) (a : Found) (s : List Token) → AtomFalseL R b a s → From start 9 s
false_from R b = sign_from start 9 false true kind.False (λ t. Nothing (found (expr.False t.span.from) false 0)) (AtomNewL R b) (omega arith) (λ a s h. from_less start 9 10 s (omega arith) (new_from R b a s h))

true_from : (R : ℕ → ℕ → Type 0) (b : Bool) (a : Found) (s : List Token) → AtomTrueL R b a s → From start 8 s
true_from R b = sign_from start 8 false true kind.True (λ t. Nothing (found (expr.True t.span.from) false 0)) (AtomFalseL R b) (omega arith) (λ a s h. from_less start 8 9 s (omega arith) (false_from R b a s h))

-- ---- each form has a text

module _ (R : ℕ → ℕ → Type 0) (none : R 0 0) where
  pub a_call : (t : Token) → Begins (CallL R t) []
  a_call t = begins_first (ClosedL (Spelt R Exprs)) (λ xs. Nothing (call_of t xs)) (λ xs. (exact_give (call_of t xs) Always).some) [] (some_closed (Spelt R Exprs))

  pub a_bracket : Begins (BracketL R) []
  a_bracket = let w = a_word R Exprs none in record { rest = w.rest ++ a_token kind.RoundRight ∷ []; value = inner_of w.value; is = mk_end (Spelt R Exprs) kind.RoundRight inner_of w.value w.rest (a_token kind.RoundRight) (is_kind kind.RoundRight) w.is }

  pub a_new : (t : Token) → Begins (NewL R t) []
  a_new t = let w = a_word R Exprs none in record {
    rest = a_token kind.RoundLeft ∷ (w.rest ++ a_token kind.RoundRight ∷ []);
    value = new_of t w.value;
    is = mk_one kind.RoundLeft (λ _. Seq (Spelt R Exprs) (λ x. Seq (OneOf kind.RoundRight) (λ _. Nothing (new_of t x)))) (new_of t w.value) (a_token kind.RoundLeft) (w.rest ++ a_token kind.RoundRight ∷ []) (is_kind kind.RoundLeft)
        (mk_end (Spelt R Exprs) kind.RoundRight (new_of t) w.value w.rest (a_token kind.RoundRight) (is_kind kind.RoundRight) w.is);
  }

  pub a_distinct : (t : Token) → Begins (DistinctL R t) []
  a_distinct t = begins_first (OneOf kind.RoundLeft) (λ _. Seq (SomeL (Spelt R Exprs)) (λ xs. Nothing (distinct_of t xs))) (λ _. begins_first (SomeL (Spelt R Exprs)) (λ xs. Nothing (distinct_of t xs)) (λ xs. (exact_give (distinct_of t xs) Always).some) [] (some_some (Spelt R Exprs) (a_word R Exprs none))) [] (a_kind kind.RoundLeft)

-- ---- reading an atom

abbrev pub AfterAtom : After Found
AfterAtom x rest = 1 ≤ rank_of rest

pub ends_expr : (a : Found) (t : Token) (r : List Token) → (t.kind ≡ kind.Comma) ⊎ (t.kind ≡ kind.RoundRight) → AfterLevel Exprs a (t ∷ r)
ends_expr a t r (inl k) = ends_all Exprs a t kind.Comma r k (omega arith)
ends_expr a t r (inr k) = ends_all Exprs a t kind.RoundRight r k (omega arith)

pub starts_expr : (R : ℕ → ℕ → Type 0) (a : Found) (s : List Token) → Spelt R Exprs a s → From start 1 s
starts_expr R a s h = starts h.spells

module _ (R U : ℕ → ℕ → Type 0) (e : Reader Found) (x : Sure e (AfterLevel Exprs) (Spelt R Exprs) (Spelt U Exprs)) (E : After Found) where
  exact_call : (t : Token) → Sure (and_then (closed_list e) (λ xs. give (call_of t xs))) E (CallL R t) (CallL U t)
  exact_call t = exact_last (closed_list e) (call_of t) Always E (ClosedL (Spelt R Exprs)) (ClosedL (Spelt U Exprs)) (exact_closed_list e (AfterLevel Exprs) (Spelt R Exprs) (Spelt U Exprs) x ends_expr start 1 (omega arith) (starts_expr R) Always) (λ _ _ _. tt)

  exact_bracket : Sure (bracketed_at e) E (BracketL R) (BracketL U)
  exact_bracket = exact_end e kind.RoundRight inner_of (AfterLevel Exprs) E (Spelt R Exprs) (Spelt U Exprs) x (λ a t r k. ends_expr a t r (inr k))

  exact_new : (t : Token) → Sure (new_at e t) E (NewL R t) (NewL U t)
  exact_new t = then_any (wants kind.RoundLeft) _ E (OneOf kind.RoundLeft) (OneOf kind.RoundLeft) _ _ (exact_wants kind.RoundLeft) (λ _. exact_end e kind.RoundRight (new_of t) (AfterLevel Exprs) E (Spelt R Exprs) (Spelt U Exprs) x (λ a t r k. ends_expr a t r (inr k)))

  exact_distinct : (t : Token) → Sure (distinct_at e t) E (DistinctL R t) (DistinctL U t)
  exact_distinct t = then_any (wants kind.RoundLeft) _ E (OneOf kind.RoundLeft) (OneOf kind.RoundLeft) _ _ (exact_wants kind.RoundLeft) (λ _. exact_last (some_list e) (distinct_of t) Always E (SomeL (Spelt R Exprs)) (SomeL (Spelt U Exprs)) (exact_some_list e (AfterLevel Exprs) (Spelt R Exprs) (Spelt U Exprs) x ends_expr Always) (λ _ _ _. tt))

module _ (R : ℕ → ℕ → Type 0) (b : Bool) (e : Reader Found) (x : b ≡ true → Sure e (AfterLevel Exprs) (Spelt (Under R) Exprs) (Spelt Any Exprs)) where
  exact_named : (t : Token) → Sure (named_at b e t) AfterAtom (NamedL R b t) (NamedL Any true t)
  exact_named t = sure_sign false b kind.RoundLeft (λ _. and_then (closed_list e) (λ xs. give (call_of t xs))) (give (name_of t)) AfterAtom (λ _. CallL (Under R) t) (λ _. CallL Any t) (Nothing (name_of t)) (Nothing (name_of t))
      (λ p _. exact_call (Under R) Any e (x p) AfterAtom t) (λ _. a_call Any tt t) (exact_give (name_of t) AfterAtom).exact
      (λ _ a s rest h q. ap (λ (l : List Token). eat kind.RoundLeft (l ++ rest)) h.1 ∙ eat-past kind.RoundLeft rest (omega arith)) (exact_give (name_of t) AfterAtom).some

  pub exact_atom : Exact (atom_at b e) AfterAtom (AtomL R b) (AtomL Any true)
  unfolding atom_at
  exact_atom =
      exact_sign false true kind.Word (named_at b e) _ AfterAtom (NamedL R b) (NamedL Any true) (AtomTrueL R b) (AtomTrueL Any true) (λ _ t. exact_named t) (λ t. record { rest = []; value = name_of t; is = inr (refl, refl) })
      (exact_sign false true kind.True (λ t. give (found (expr.True t.span.from) false 0)) _ AfterAtom _ _ (AtomFalseL R b) (AtomFalseL Any true) (λ _ t. exact_give _ AfterAtom) (λ t. (exact_give _ AfterAtom).some)
      (exact_sign false true kind.False (λ t. give (found (expr.False t.span.from) false 0)) _ AfterAtom _ _ (AtomNewL R b) (AtomNewL Any true) (λ _ t. exact_give _ AfterAtom) (λ t. (exact_give _ AfterAtom).some)
      (exact_sign false b kind.New (new_at e) _ AfterAtom (NewL (Under R)) (NewL Any) (AtomDistinctL R b) (AtomDistinctL Any true) (λ p t. exact_new (Under R) Any e (x p) AfterAtom t) (a_new Any tt)
      (exact_sign false b kind.Distinct (distinct_at e) _ AfterAtom (DistinctL (Under R)) (DistinctL Any) (AtomBracketL R b) (AtomBracketL Any true) (λ p t. exact_distinct (Under R) Any e (x p) AfterAtom t) (a_distinct Any tt)
      (exact_sign false b kind.RoundLeft (λ _. bracketed_at e) refuse AfterAtom (λ _. BracketL (Under R)) (λ _. BracketL Any) Never Never (λ p _. exact_bracket (Under R) Any e (x p) AfterAtom) (λ _. a_bracket Any tt) (exact_refuse AfterAtom) (λ _ a s rest h q. absurd h))
      (λ _. other_from start 12 kind.Distinct AfterAtom (AtomBracketL R b) (omega arith) (bracket_from R b)))
      (λ _. other_from start 11 kind.New AfterAtom (AtomDistinctL R b) (omega arith) (distinct_from R b)))
      (λ _. other_from start 10 kind.False AfterAtom (AtomNewL R b) (omega arith) (new_from R b)))
      (λ _. other_from start 9 kind.True AfterAtom (AtomFalseL R b) (omega arith) (false_from R b)))
      (λ _. other_from start 8 kind.Word AfterAtom (AtomTrueL R b) (omega arith) (true_from R b))

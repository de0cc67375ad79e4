-- With more room a reader answers the same, but for its faults at the limit.
use Rattle.std.proofs.Common.{◌≡◌, ℕ, zero, suc, ◌+◌, ◌-◌, ◌<◌, ◌≤◌, max, Bool, true, false, cond, List, [], ◌∷◌, ◌++◌, length, Option, Some, None, Result, Ok, Err, refl, sym, ap, ap₂, subst, ◌∙◌, append_assoc, arith}
use Rattle.std.specs.Prelude.{nat_lt, ◌==◌}
use Rattle.pv_base.specs.declared.Span.{Span}
use Rattle.pyv_lex.specs.declared.token.Kind.{Kind}
use Rattle.pyv_lex.specs.declared.token.Kind.TheVariants as kind
use Rattle.pyv_lex.specs.declared.token.Token.{Token}
use Rattle.pyv_grammar.specs.declared.tree.Bound.{Bound}
use Rattle.pyv_grammar.specs.declared.tree.Expr.{Expr}
use Rattle.pyv_grammar.specs.declared.tree.Expr.TheVariants as expr
use Rattle.pyv_grammar.specs.declared.tree.Decl.{Decl}
use Rattle.pyv_grammar.specs.declared.tree.Decl.TheVariants as decl
use Rattle.pyv_grammar.specs.declared.reading.Found.{Found}
use Rattle.pyv_grammar.specs.declared.reading.Stuck.{Stuck}
use Rattle.pyv_grammar.specs.declared.reading.Stuck.TheVariants.{Bad, Deep}
use Rattle.pyv_grammar.specs.Grammar.{Level, Atom, Unary, Ands, Ors, Imps, Exprs}
use Rattle.pyv_grammar.specs.Reading.{number, Got, Reader, eat, on, ◌>>=◌, give, refuse, too_deep, and_then, sign, try, opens, wants, skip, separated, all_separated, never, listed, some_list, closed_list, name_at, bound_at, ends_open, found, trees, heights, node_of, equality, joined, named_at, new_at, distinct_at, bracketed_at, atom_at, comparison_at, negation_at, binding_at, quantified_at, conditional_at, unary_at, imp_at, expr_at, Deeper, unaries, ands, ors, imps, exprs, level_at, deep, read, relation_at, constant_at, function_at, symbol_at, label_at, labelled_at, claim_at, modifies_at, transition_at, after_brace, braces, trace_at, decl_at}

abbrev pub Agrees : {A : Type 0} → Got A → Got A → Type 0
Agrees (Ok x) z = z ≡ Ok x
Agrees (Err (Bad n)) z = z ≡ Err (Bad n)
Agrees (Err (Deep n)) z = Unit {0}

pub record Grows {A : Type 0} (f g : Reader A) : Type 0 where
  pub by : (ts : List Token) → Agrees (f ts) (g ts)

agrees : {A : Type 0} (y : Got A) → Agrees y y
agrees (Ok x) = refl
agrees (Err (Bad n)) = refl
agrees (Err (Deep n)) = tt

same : {A : Type 0} (f : Reader A) → Grows f f
same f = record { by = λ ts. agrees (f ts) }

agrees_to : {A : Type 0} (y w z : Got A) → w ≡ z → Agrees y z → Agrees y w
agrees_to y w z e h = subst (λ (v : Got _). Agrees y v) (sym e) h

then_agree : {A B : Type 0} (g h : A → Reader B) → ((x : A) → Grows (g x) (h x)) → (y z : Got A) → Agrees y z → Agrees (y >>= λ x. g x.0 x.1) (z >>= λ x. h x.0 x.1)
then_agree {B = B} g h grow (Ok x) z e = agrees_to (g x.0 x.1) (z >>= λ x. h x.0 x.1) (h x.0 x.1) (ap (λ (v : Got _). v >>= λ x. h x.0 x.1) e) ((grow x.0).by x.1)
then_agree g h grow (Err (Bad n)) z e = ap (λ (v : Got _). v >>= λ x. h x.0 x.1) e
then_agree g h grow (Err (Deep n)) z e = tt

grows_then : {A B : Type 0} (f f' : Reader A) (g g' : A → Reader B) → Grows f f' → ((x : A) → Grows (g x) (g' x)) → Grows (and_then f g) (and_then f' g')
grows_then f f' g g' h k = record { by = λ ts. then_agree g g' k (f ts) (f' ts) (h.by ts) }

abbrev TokenAnd : Type 0
TokenAnd = Token × List Token

on_agree : {A : Type 0} (f f' : Token → Reader A) (g g' : Got A) → ((t : Token) → Grows (f t) (f' t)) → Agrees g g' → (o : Option TokenAnd) → Agrees (on o (λ t. f t.0 t.1) g) (on o (λ t. f' t.0 t.1) g')
on_agree f f' g g' h k None = k
on_agree f f' g g' h k (Some t) = (h t.0).by t.1

shut_agree : {A : Type 0} (n : ℕ) (f : TokenAnd → Got A) (g g' : Got A) → Agrees g g' → (o : Option TokenAnd) → Agrees (on o (λ _. Err (Deep n)) g) (on o f g')
shut_agree n f g g' h None = h
shut_agree n f g g' h (Some t) = tt

grows_sign : {A : Type 0} (o b c : Bool) → (b ≡ true → c ≡ true) → (k : Kind) (f f' : Token → Reader A) (g g' : Reader A) → ((t : Token) → Grows (f t) (f' t)) → Grows g g' → Grows (sign o b k f g) (sign o c k f' g')
grows_sign true b c e k f f' g g' h l = l
grows_sign false true true e k f f' g g' h l = record { by = λ ts. on_agree f f' (g ts) (g' ts) h (l.by ts) (eat k ts) }
grows_sign false true false e k f f' g g' h l = absurd (let z = e refl in cc)
grows_sign false false c e k f f' g g' h l = record { by = λ ts. shut_agree (length ts) (λ t. cond c (f' t.0 t.1) (Err (Deep (length ts)))) (g ts) (g' ts) (l.by ts) (eat k ts) }

grows_try : {A : Type 0} (k : Kind) (f f' : Token → Reader A) (g g' : Reader A) → ((t : Token) → Grows (f t) (f' t)) → Grows g g' → Grows (try k f g) (try k f' g')
grows_try k f f' g g' h l = grows_sign false true true (λ e. e) k f f' g g' h l

grows_separated : {A : Type 0} (ends : A → Bool) (e e' : Reader A) (k : Kind) (n : ℕ) → Grows e e' → Grows (separated ends e k n) (separated ends e' k n)
unfolding separated
grows_separated ends e e' k zero h = same refuse
grows_separated ends e e' k (suc n) h = grows_then e e' _ _ h (λ x. grows_sign (ends x) true true (λ p. p) k _ _ _ _ (λ _. grows_then (separated ends e k n) (separated ends e' k n) _ _ (grows_separated ends e e' k n h) (λ xs. same (give (x ∷ xs)))) (same (give (x ∷ []))))

grows_all : {A : Type 0} (ends : A → Bool) (e e' : Reader A) (k : Kind) → Grows e e' → Grows (all_separated ends e k) (all_separated ends e' k)
unfolding all_separated
grows_all ends e e' k h = record { by = λ ts. (grows_separated ends e e' k (length ts + 1) h).by ts }

grows_some_list : {A : Type 0} (e e' : Reader A) → Grows e e' → Grows (some_list e) (some_list e')
unfolding some_list
grows_some_list e e' h = grows_then (listed e) (listed e') _ _ (grows_all never e e' kind.Comma h) (λ xs. same (and_then (wants kind.RoundRight) (λ _. give xs)))

grows_closed_list : {A : Type 0} (e e' : Reader A) → Grows e e' → Grows (closed_list e) (closed_list e')
unfolding closed_list
grows_closed_list e e' h = grows_try kind.RoundRight _ _ _ _ (λ _. same (give [])) (grows_some_list e e' h)

grows_joined : (e e' : Reader Found) (k : Kind) (node : ℕ → List Expr → Expr) → Grows e e' → Grows (joined e k node) (joined e' k node)
unfolding joined
grows_joined e e' k node h = record {
  by = λ ts. (grows_then e e' (λ x. sign x.ends_open true k (λ t. and_then (all_separated ends_open e k) (λ ys. give (node_of node t x ys))) (give x)) (λ x. sign x.ends_open true k (λ t. and_then (all_separated ends_open e' k) (λ ys. give (node_of node t x ys))) (give x)) h
      (λ x. grows_sign x.ends_open true true (λ p. p) k _ _ _ _ (λ t. grows_then (all_separated ends_open e k) (all_separated ends_open e' k) _ _ (grows_all ends_open e e' k h) (λ ys. same (give (node_of node t x ys)))) (same (give x)))).by (skip k ts);
}

module _ (b c : Bool) (p : b ≡ true → c ≡ true) (e e' : Reader Found) (h : Grows e e') where
  grows_atom : Grows (atom_at b e) (atom_at c e')
  unfolding atom_at
  grows_atom =
      grows_try kind.Word _ _ _ _ (λ w. grows_sign false b c p kind.RoundLeft _ _ _ _ (λ _. grows_then (closed_list e) (closed_list e') _ _ (grows_closed_list e e' h) (λ xs. same (give (found (expr.Name w.span true (trees xs)) false (heights xs))))) (same (give (found (expr.Name w.span false []) false 0))))
      (grows_try kind.True _ _ _ _ (λ t. same (give (found (expr.True t.span.from) false 0)))
      (grows_try kind.False _ _ _ _ (λ t. same (give (found (expr.False t.span.from) false 0)))
      (grows_sign false b c p kind.New _ _ _ _ (λ t. grows_then (wants kind.RoundLeft) (wants kind.RoundLeft) _ _ (same (wants kind.RoundLeft)) (λ _. grows_then e e' _ _ h (λ x. same (and_then (wants kind.RoundRight) (λ _. give (found (expr.New t.span.from x.tree) false x.height))))))
      (grows_sign false b c p kind.Distinct _ _ _ _ (λ t. grows_then (wants kind.RoundLeft) (wants kind.RoundLeft) _ _ (same (wants kind.RoundLeft)) (λ _. grows_then (some_list e) (some_list e') _ _ (grows_some_list e e' h) (λ xs. same (give (found (expr.Distinct t.span.from (trees xs)) false (heights xs))))))
      (grows_sign false b c p kind.RoundLeft _ _ _ _ (λ _. grows_then e e' _ _ h (λ x. same (and_then (wants kind.RoundRight) (λ _. give (found x.tree false x.height)))))
      (same refuse))))))

  grows_comparison : Grows (comparison_at b e) (comparison_at c e')
  unfolding comparison_at
  grows_comparison =
      grows_then (atom_at b e) (atom_at c e') _ _ grows_atom (λ x. grows_try kind.Equal _ _ _ _ (λ t. grows_then (atom_at b e) (atom_at c e') _ _ grows_atom (λ y. same (give (equality expr.Equal t x y))))
      (grows_try kind.Unequal _ _ _ _ (λ t. grows_then (atom_at b e) (atom_at c e') _ _ grows_atom (λ y. same (give (equality expr.Unequal t x y)))) (same (give x))))

grows_binding : (e e' : Reader Found) → Grows e e' → Grows (binding_at e) (binding_at e')
unfolding binding_at
grows_binding e e' h = grows_then (listed bound_at) (listed bound_at) _ _ (same (listed bound_at)) (λ bs. grows_then (wants kind.Dot) (wants kind.Dot) _ _ (same (wants kind.Dot)) (λ _. grows_then e e' _ _ h (λ x. same (give (bs, x)))))

grows_conditional : (e e' : Reader Found) (t : Token) → Grows e e' → Grows (conditional_at e t) (conditional_at e' t)
grows_conditional e e' t h =
    grows_then e e' _ _ h (λ x. grows_then (wants kind.Then) (wants kind.Then) _ _ (same (wants kind.Then)) (λ _. grows_then e e' _ _ h (λ y. grows_then (wants kind.Else) (wants kind.Else) _ _ (same (wants kind.Else)) (λ _. grows_then e e' _ _ h
    (λ z. same (give (found (expr.If t.span.from x.tree y.tree z.tree) true (suc (max x.height (max y.height z.height))))))))))

grows_unary : (b c : Bool) → (b ≡ true → c ≡ true) → (m n : Bool) → (m ≡ true → n ≡ true) → (d d' : Level → Reader Found) → ((l : Level) → Grows (d l) (d' l)) → (l l' : Reader Found) → Grows l l' → Grows (unary_at b m d l) (unary_at c n d' l')
unfolding unary_at
grows_unary b c p m n q d d' h l l' k =
    grows_sign false b c p kind.Bang _ _ _ _ (λ t. grows_then (d Unary) (d' Unary) _ _ (h Unary) (λ x. same (give (found (expr.Not t.span.from x.tree) x.ends_open x.height))))
    (grows_sign false b c p kind.Forall _ _ _ _ (λ t. grows_then (binding_at (d Exprs)) (binding_at (d' Exprs)) _ _ (grows_binding (d Exprs) (d' Exprs) (h Exprs)) (λ y. same (give (found (expr.All t.span.from y.0 y.1.tree) true y.1.height))))
    (grows_sign false b c p kind.Exists _ _ _ _ (λ t. grows_then (binding_at (d Exprs)) (binding_at (d' Exprs)) _ _ (grows_binding (d Exprs) (d' Exprs) (h Exprs)) (λ y. same (give (found (expr.Ex t.span.from y.0 y.1.tree) true y.1.height))))
    (grows_sign false m n q kind.If _ _ _ _ (λ t. grows_conditional l l' t k)
    (grows_comparison b c p (d Exprs) (d' Exprs) (h Exprs)))))

grows_imp : (b c : Bool) → (b ≡ true → c ≡ true) → (o o' d d' : Reader Found) → Grows o o' → Grows d d' → Grows (imp_at b o d) (imp_at c o' d')
unfolding imp_at
grows_imp b c p o o' d d' h k = grows_then o o' _ _ h (λ x. grows_sign x.ends_open b c p kind.Implies _ _ _ _ (λ t. grows_then d d' _ _ k (λ y. same (give (found (expr.Implies t.span.from x.tree y.tree) y.ends_open (max x.height y.height))))) (same (give x)))

less_more : (a n m : ℕ) → n ≤ m → nat_lt a n ≡ true → nat_lt a m ≡ true
less_more a n m le h = grind arith

grows_expr : (v w : ℕ) → v ≤ w → (l l' r r' : Reader Found) → Grows l l' → Grows r r' → Grows (expr_at v l r) (expr_at w l' r')
unfolding expr_at
grows_expr v w le l l' r r' h k = grows_then l l' _ _ h (λ x. grows_sign x.ends_open (nat_lt x.height v) (nat_lt x.height w) (less_more x.height v w le) kind.Iff _ _ _ _ (λ t. grows_then r r' _ _ k (λ y. same (give (found (expr.Iff t.span.from x.tree y.tree) y.ends_open (suc (max x.height y.height)))))) (same (give x)))

may_grow : (b c : Bool) → (b ≡ true → c ≡ true) → (v w : ℕ) → v ≤ w → cond b (nat_lt 0 v) false ≡ true → cond c (nat_lt 0 w) false ≡ true
may_grow true true p v w le h = less_more 0 v w le h
may_grow true false p v w le h = absurd (let z = p refl in cc)
may_grow false c p v w le h = absurd cc

module _ (b c : Bool) (p : b ≡ true → c ≡ true) (d d' : Deeper) (grow : (i j : ℕ) → i ≤ j → (l : Level) → Grows (d i l) (d' j l)) where
  grows_unaries : (v w : ℕ) → v ≤ w → Grows (unaries v b d) (unaries w c d')
  unfolding unaries
  grows_unaries v w le =
      let less : v - 1 ≤ w - 1 = omega arith in
      grows_unary b c p (cond b (nat_lt 0 v) false) (cond c (nat_lt 0 w) false) (may_grow b c p v w le) (d v) (d' w) (grow v w le) (d (v - 1) Exprs) (d' (w - 1) Exprs) (grow (v - 1) (w - 1) less Exprs)

  grows_ands : (v w : ℕ) → v ≤ w → Grows (ands v b d) (ands w c d')
  unfolding ands
  grows_ands v w le = grows_joined (unaries v b d) (unaries w c d') kind.Amp expr.And (grows_unaries v w le)

  grows_ors : (v w : ℕ) → v ≤ w → Grows (ors v b d) (ors w c d')
  unfolding ors
  grows_ors v w le = grows_joined (ands v b d) (ands w c d') kind.Bar expr.Or (grows_ands v w le)

  grows_imps : (v w : ℕ) → v ≤ w → Grows (imps v b d) (imps w c d')
  unfolding imps
  grows_imps v w le = grows_imp b c p (ors v b d) (ors w c d') (d v Imps) (d' w Imps) (grows_ors v w le) (grow v w le Imps)

  grows_exprs : (v w : ℕ) → v ≤ w → Grows (exprs v b d) (exprs w c d')
  unfolding exprs
  grows_exprs v w le = let less : v - 1 ≤ w - 1 = omega arith in grows_expr v w le (imps v b d) (imps w c d') (imps (v - 1) b d) (imps (w - 1) c d') (grows_imps v w le) (grows_imps (v - 1) (w - 1) less)

  grows_level : (v w : ℕ) → v ≤ w → (l : Level) → Grows (level_at v b d l) (level_at w c d' l)
  grows_level v w le Atom = grows_atom b c p (d v Exprs) (d' w Exprs) (grow v w le Exprs)
  grows_level v w le Unary = grows_unaries v w le
  grows_level v w le Ands = grows_ands v w le
  grows_level v w le Ors = grows_ors v w le
  grows_level v w le Imps = grows_imps v w le
  grows_level v w le Exprs = grows_exprs v w le

pub grows_deep : (n m : ℕ) → n ≤ m → (v w : ℕ) → v ≤ w → (l : Level) → Grows (deep n v l) (deep m w l)
unfolding deep
grows_deep zero m le v w lv l = record { by = λ ts. tt }
grows_deep (suc n) zero le v w lv l = absurd (omega arith)
grows_deep (suc n) (suc m) le v w lv l = grows_level (nat_lt 0 n) (nat_lt 0 m) (less_more 0 n m (omega arith)) (deep n) (deep m) (grows_deep n m (omega arith)) v w lv l

pub grows_read : (n m : ℕ) → n ≤ m → (v w : ℕ) → v ≤ w → (l : Level) → Grows (read n v l) (read m w l)
grows_read n m le v w lv l = grows_level (nat_lt 0 n) (nat_lt 0 m) (less_more 0 n m le) (deep n) (deep m) (grows_deep n m le) v w lv l

module _ (e e' : Reader Found) (h : Grows e e') where
  grows_labelled : Grows (labelled_at e) (labelled_at e')
  unfolding labelled_at
  grows_labelled = grows_then label_at label_at _ _ (same label_at) (λ _. grows_then e e' _ _ h (λ x. same (give x.tree)))

  grows_makes : (make : Expr → Decl) → Grows (and_then (labelled_at e) (λ x. give (make x))) (and_then (labelled_at e') (λ x. give (make x)))
  grows_makes make = grows_then (labelled_at e) (labelled_at e') _ _ grows_labelled (λ x. same (give (make x)))

  grows_claim : Grows (claim_at e) (claim_at e')
  unfolding claim_at
  grows_claim =
      grows_try kind.Axiom _ _ _ _ (λ _. grows_makes decl.Axiom) (grows_try kind.Init _ _ _ _ (λ _. grows_makes decl.Init) (grows_try kind.Safety _ _ _ _ (λ _. grows_makes decl.Safety)
      (grows_then (wants kind.Invariant) (wants kind.Invariant) _ _ (same (wants kind.Invariant)) (λ _. grows_makes decl.Invariant))))

  grows_transition : Grows (transition_at e) (transition_at e')
  unfolding transition_at
  grows_transition =
      grows_then name_at name_at _ _ (same name_at) (λ w. grows_then (wants kind.RoundLeft) (wants kind.RoundLeft) _ _ (same (wants kind.RoundLeft)) (λ _. grows_then (closed_list bound_at) (closed_list bound_at) _ _ (same (closed_list bound_at))
      (λ ps. grows_then modifies_at modifies_at _ _ (same modifies_at) (λ ns. grows_then e e' _ _ h (λ x. same (give (decl.Transition w ps ns x.tree)))))))

  pub grows_decl : Grows (decl_at e) (decl_at e')
  unfolding decl_at
  grows_decl =
      grows_try kind.Sort _ _ _ _ (λ _. same (and_then name_at (λ w. give (decl.Sort w)))) (grows_try kind.Mutable _ _ _ _ (λ _. same (symbol_at true)) (grows_try kind.Immutable _ _ _ _ (λ _. same (symbol_at false))
      (grows_try kind.Transition _ _ _ _ (λ _. grows_transition) (grows_try kind.Sat _ _ _ _ (λ _. same trace_at) (grows_try kind.Unsat _ _ _ _ (λ _. same trace_at) grows_claim)))))

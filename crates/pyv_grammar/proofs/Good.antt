-- Each reader is local, and reads a token or more.
use Rattle.std.proofs.Common.{◌≡◌, ℕ, zero, suc, ◌+◌, ◌-◌, ◌<◌, ◌≤◌, Bool, true, false, cond, List, [], ◌∷◌, ◌++◌, length, Option, Some, None, Result, Ok, Err, refl, sym, ap, ap₂, subst, ◌∙◌, append_assoc, arith}
use Rattle.std.specs.Prelude.{nat_lt, ◌==◌}
use Rattle.pv_base.specs.declared.Span.{Span}
use Rattle.pyv_lex.specs.declared.token.Kind.{Kind}
use Rattle.pyv_lex.specs.declared.token.Kind.TheVariants as kind
use Rattle.pyv_lex.specs.declared.token.Token.{Token}
use Rattle.pyv_grammar.specs.declared.tree.Bound.{Bound}
use Rattle.pyv_grammar.specs.declared.tree.Expr.{Expr}
use Rattle.pyv_grammar.specs.declared.tree.Expr.TheVariants as expr
use Rattle.pyv_grammar.specs.declared.tree.Decl.{Decl}
use Rattle.pyv_grammar.specs.declared.reading.Found.{Found}
use Rattle.pyv_grammar.specs.declared.reading.Stuck.{Stuck}
use Rattle.pyv_grammar.specs.declared.reading.Stuck.TheVariants.{Bad, Deep}
use Rattle.pyv_grammar.specs.Grammar.{Level, Atom, Unary, Ands, Ors, Imps, Exprs}
use Rattle.pyv_grammar.specs.Reading.{number, Got, Reader, eat, on, ◌>>=◌, give, refuse, too_deep, and_then, sign, try, opens, wants, skip, separated, all_separated, never, listed, some_list, closed_list, name_at, bound_at, ends_open, joined, named_at, new_at, distinct_at, bracketed_at, atom_at, comparison_at, negation_at, binding_at, quantified_at, conditional_at, unary_at, imp_at, expr_at, Deeper, unaries, ands, ors, imps, exprs, level_at, deep, read, relation_at, constant_at, function_at, symbol_at, label_at, labelled_at, claim_at, modifies_at, transition_at, after_brace, braces, trace_at, decl_at}
use Rattle.pyv_grammar.proofs.Eat.{first, Eaten, eat-some, eat-here, eat-none}
use Rattle.pyv_grammar.proofs.Local.{left, moved, LocalAt, Local, Strict, local_give, local_refuse, local_then, local_try, local_opens, local_sign}
use Rattle.pyv_grammar.proofs.Strict.{Good, good_then, good_try, good_opens, good_refuse, good_wants, good_all_separated, strict_sign}

good_sign : {A : Type 0} (o b : Bool) (k : Kind) (f : Token → Reader A) (g : Reader A) → ((t : Token) → Local (f t)) → Good g → Good (sign o b k f g)
good_sign o b k f g h s = record { is_local = local_sign o b k f g h s.is_local; is_strict = strict_sign o b k f g h s.is_strict }

-- ---- an optional sign before a list

same_at : {A : Type 0} (f g : Reader A) → ((ts : List Token) → f ts ≡ g ts) → (ts : List Token) (y : Got A) → LocalAt g ts y → LocalAt f ts y
same_at f g e ts (Ok x) h = (h.0, h.1, λ r q. e (h.0 ++ r) ∙ h.2 r q)
same_at f g e ts (Err d) h = (h.0, h.1, h.2, h.3, λ r q. e (h.0 ++ r) ∙ h.4 r q)

good_same : {A : Type 0} (f g : Reader A) → ((ts : List Token) → f ts ≡ g ts) → Good g → Good f
good_same f g e h = record {
  is_local = record { by = λ ts. same_at f g e ts (f ts) (subst (λ (y : Got _). LocalAt g ts y) (sym (e ts)) (h.is_local.by ts)) };
  is_strict = record { by = λ ts x q. h.is_strict.by ts x (sym (e ts) ∙ q) };
}

skip_on : {A : Type 0} (f : Reader A) (ts : List Token) (o : Option (Token × List Token)) → f (on o (λ t. t.1) ts) ≡ on o (λ t. f t.1) (f ts)
skip_on f ts None = refl
skip_on f ts (Some t) = refl

pub skip-try : {A : Type 0} (k : Kind) (f : Reader A) (ts : List Token) → f (skip k ts) ≡ try k (λ _. f) f ts
unfolding skip
skip-try k f ts = skip_on f ts (eat k ts)

lead : {A : Type 0} (k : Kind) (f : Reader A) → Good f → Good (λ ts. f (skip k ts))
lead k f h = good_same (λ ts. f (skip k ts)) (try k (λ _. f) f) (skip-try k f) (good_try k (λ _. f) f (λ _. h.is_local) h)

-- ---- lists

pub good_name : Good name_at
unfolding name_at
good_name = good_then (wants kind.Word) _ (good_wants kind.Word) (λ t. local_give _)

pub good_bound : Good bound_at
unfolding bound_at
good_bound = good_then (wants kind.Word) _ (good_wants kind.Word) (λ t. local_try kind.Colon _ _ (λ _. local_then name_at _ good_name.is_local (λ s. local_give _)) (local_give _))

pub good_listed : {A : Type 0} (e : Reader A) → Good e → Good (listed e)
good_listed e h = good_all_separated never e kind.Comma h

pub good_some_list : {A : Type 0} (e : Reader A) → Good e → Good (some_list e)
unfolding some_list
good_some_list e h = good_then (listed e) _ (good_listed e h) (λ xs. local_then (wants kind.RoundRight) _ (good_wants kind.RoundRight).is_local (λ _. local_give _))

pub good_closed_list : {A : Type 0} (e : Reader A) → Good e → Good (closed_list e)
unfolding closed_list
good_closed_list e h = good_try kind.RoundRight _ _ (λ _. local_give _) (good_some_list e h)

-- ---- expressions

good_joined : (e : Reader Found) (k : Kind) (node : ℕ → List Expr → Expr) → Good e → Good (joined e k node)
unfolding joined
good_joined e k node h = lead k _ (good_then e _ h (λ x. local_sign x.ends_open true k _ _ (λ t. local_then (all_separated ends_open e k) _ (good_all_separated ends_open e k h).is_local (λ ys. local_give _)) (local_give _)))

module _ (roomy : Bool) (e : Reader Found) (good : Good e) where
  pub good_atom : Good (atom_at roomy e)
  unfolding atom_at
  good_atom =
      good_try kind.Word _ _ (λ w. local_opens roomy kind.RoundLeft _ _ (λ _. local_then (closed_list e) _ (good_closed_list e good).is_local (λ xs. local_give _)) (local_give _))
      (good_try kind.True _ _ (λ t. local_give _)
      (good_try kind.False _ _ (λ t. local_give _)
      (good_opens roomy kind.New _ _ (λ t. local_then (wants kind.RoundLeft) _ (good_wants kind.RoundLeft).is_local (λ _. local_then e _ good.is_local (λ x. local_then (wants kind.RoundRight) _ (good_wants kind.RoundRight).is_local (λ _. local_give _))))
      (good_opens roomy kind.Distinct _ _ (λ t. local_then (wants kind.RoundLeft) _ (good_wants kind.RoundLeft).is_local (λ _. local_then (some_list e) _ (good_some_list e good).is_local (λ xs. local_give _)))
      (good_opens roomy kind.RoundLeft _ _ (λ _. local_then e _ good.is_local (λ x. local_then (wants kind.RoundRight) _ (good_wants kind.RoundRight).is_local (λ _. local_give _)))
      good_refuse)))))

  pub good_comparison : Good (comparison_at roomy e)
  unfolding comparison_at
  good_comparison =
      good_then (atom_at roomy e) _ good_atom (λ x. local_try kind.Equal _ _ (λ t. local_then (atom_at roomy e) _ good_atom.is_local (λ y. local_give _))
      (local_try kind.Unequal _ _ (λ t. local_then (atom_at roomy e) _ good_atom.is_local (λ y. local_give _)) (local_give _)))

local_binding : (e : Reader Found) → Local e → Local (binding_at e)
unfolding binding_at
local_binding e h = local_then (listed bound_at) _ (good_listed bound_at good_bound).is_local (λ bs. local_then (wants kind.Dot) _ (good_wants kind.Dot).is_local (λ _. local_then e _ h (λ x. local_give _)))

local_conditional : (e : Reader Found) (t : Token) → Local e → Local (conditional_at e t)
local_conditional e t h = local_then e _ h (λ x. local_then (wants kind.Then) _ (good_wants kind.Then).is_local (λ _. local_then e _ h (λ y. local_then (wants kind.Else) _ (good_wants kind.Else).is_local (λ _. local_then e _ h (λ z. local_give _)))))

good_unary : (roomy may : Bool) (d : Level → Reader Found) (low : Reader Found) → ((l : Level) → Good (d l)) → Good low → Good (unary_at roomy may d low)
unfolding unary_at
good_unary roomy may d low good h =
    good_opens roomy kind.Bang _ _ (λ t. local_then (d Unary) _ (good Unary).is_local (λ x. local_give _))
    (good_opens roomy kind.Forall _ _ (λ t. local_then (binding_at (d Exprs)) _ (local_binding (d Exprs) (good Exprs).is_local) (λ y. local_give _))
    (good_opens roomy kind.Exists _ _ (λ t. local_then (binding_at (d Exprs)) _ (local_binding (d Exprs) (good Exprs).is_local) (λ y. local_give _))
    (good_opens may kind.If _ _ (λ t. local_conditional low t h.is_local)
    (good_comparison roomy (d Exprs) (good Exprs)))))

good_imp : (roomy : Bool) (o d : Reader Found) → Good o → Good d → Good (imp_at roomy o d)
unfolding imp_at
good_imp roomy o d h k = good_then o _ h (λ x. local_sign x.ends_open roomy kind.Implies _ _ (λ t. local_then d _ k.is_local (λ y. local_give _)) (local_give _))

good_expr : (v : ℕ) (l r : Reader Found) → Good l → Good r → Good (expr_at v l r)
unfolding expr_at
good_expr v l r h k = good_then l _ h (λ x. local_sign x.ends_open (nat_lt x.height v) kind.Iff _ _ (λ t. local_then r _ k.is_local (λ y. local_give _)) (local_give _))

module _ (roomy : Bool) (d : Deeper) (good : (v : ℕ) (l : Level) → Good (d v l)) where
  good_unaries : (v : ℕ) → Good (unaries v roomy d)
  unfolding unaries
  good_unaries v = good_unary roomy (cond roomy (nat_lt 0 v) false) (d v) (d (v - 1) Exprs) (good v) (good (v - 1) Exprs)

  good_ands : (v : ℕ) → Good (ands v roomy d)
  unfolding ands
  good_ands v = good_joined (unaries v roomy d) kind.Amp expr.And (good_unaries v)

  good_ors : (v : ℕ) → Good (ors v roomy d)
  unfolding ors
  good_ors v = good_joined (ands v roomy d) kind.Bar expr.Or (good_ands v)

  good_imps : (v : ℕ) → Good (imps v roomy d)
  unfolding imps
  good_imps v = good_imp roomy (ors v roomy d) (d v Imps) (good_ors v) (good v Imps)

  good_exprs : (v : ℕ) → Good (exprs v roomy d)
  unfolding exprs
  good_exprs v = good_expr v (imps v roomy d) (imps (v - 1) roomy d) (good_imps v) (good_imps (v - 1))

  pub good_level : (v : ℕ) (l : Level) → Good (level_at v roomy d l)
  good_level v Atom = good_atom roomy (d v Exprs) (good v Exprs)
  good_level v Unary = good_unaries v
  good_level v Ands = good_ands v
  good_level v Ors = good_ors v
  good_level v Imps = good_imps v
  good_level v Exprs = good_exprs v

good_too_deep : Good (too_deep {A = Found})
good_too_deep = record { is_local = record { by = λ ts. ([], ts, refl, refl, λ r h. refl) }; is_strict = record { by = λ ts x e. absurd cc } }

pub good_deep : (n v : ℕ) (l : Level) → Good (deep n v l)
unfolding deep
good_deep zero v l = good_too_deep
good_deep (suc n) v l = good_level (nat_lt 0 n) (deep n) (good_deep n) v l

pub good_read : (n v : ℕ) (l : Level) → Good (read n v l)
good_read n v l = good_level (nat_lt 0 n) (deep n) (good_deep n) v l

-- ---- declarations

good_relation : (b : Bool) → Good (relation_at b)
unfolding relation_at
good_relation b = good_then name_at _ good_name (λ w. local_try kind.RoundLeft _ _ (λ _. local_then (closed_list name_at) _ (good_closed_list name_at good_name).is_local (λ xs. local_give _)) (local_give _))

good_constant : (b : Bool) → Good (constant_at b)
unfolding constant_at
good_constant b = good_then name_at _ good_name (λ w. local_then (wants kind.Colon) _ (good_wants kind.Colon).is_local (λ _. local_then name_at _ good_name.is_local (λ s. local_give _)))

good_function : (b : Bool) → Good (function_at b)
unfolding function_at
good_function b = good_then name_at _ good_name (λ w. local_then (wants kind.RoundLeft) _ (good_wants kind.RoundLeft).is_local (λ _. local_then (some_list name_at) _ (good_some_list name_at good_name).is_local
    (λ xs. local_then (wants kind.Colon) _ (good_wants kind.Colon).is_local (λ _. local_then name_at _ good_name.is_local (λ s. local_give _)))))

good_symbol : (b : Bool) → Good (symbol_at b)
unfolding symbol_at
good_symbol b = good_try kind.Relation _ _ (λ _. (good_relation b).is_local) (good_try kind.Constant _ _ (λ _. (good_constant b).is_local) (good_then (wants kind.Function) _ (good_wants kind.Function) (λ _. (good_function b).is_local)))

local_label : Local label_at
unfolding label_at
local_label = local_try kind.SquareLeft _ _ (λ _. local_then (wants kind.Word) _ (good_wants kind.Word).is_local (λ _. local_then (wants kind.SquareRight) _ (good_wants kind.SquareRight).is_local (λ _. local_give _))) (local_give _)

local_modifies : Local modifies_at
unfolding modifies_at
local_modifies = local_try kind.Modifies _ _ (λ _. (good_listed name_at good_name).is_local) (local_give _)

-- at the end
bad_end : (d : ℕ) (r : List Token) → None ≡ first r → braces d r ≡ Err (Bad (length r))
unfolding braces
bad_end d [] h = refl
bad_end d (t ∷ r) h = absurd cc

cons_local : (d c : ℕ) (t : Token) (ts : List Token) → ((r : List Token) → braces d (t ∷ r) ≡ braces c r) → (y : Got (Unit {0})) → LocalAt (braces c) ts y → LocalAt (braces d) (t ∷ ts) y
cons_local d c t ts e (Ok x) h = (t ∷ h.0, ap (λ (l : List Token). t ∷ l) h.1, λ r q. e (h.0 ++ r) ∙ h.2 r q)
cons_local d c t ts e (Err f) h = (t ∷ h.0, h.1, ap (λ (l : List Token). t ∷ l) h.2, h.3, λ r q. e (h.0 ++ r) ∙ h.4 r q)

-- what stands behind one token
brace_cases : (d : ℕ) (t : Token) (ts : List Token) → ((c : ℕ) → LocalAt (braces c) ts (braces c ts)) → (l r : Bool) → (number t.kind == number kind.CurlyLeft) ≡ l → (number t.kind == number kind.CurlyRight) ≡ r
    → LocalAt (braces d) (t ∷ ts) (cond l (braces (suc d) ts) (cond r (after_brace d ts (braces (d - 1) ts)) (braces d ts)))
unfolding braces
brace_cases d t ts again true r e f = cons_local d (suc d) t ts (λ us. rw e refl) (braces (suc d) ts) (again (suc d))
brace_cases zero t ts again false true e f = (t ∷ [], refl, λ us q. rw (e, f) refl)
brace_cases (suc d) t ts again false true e f = cons_local (suc d) (suc d - 1) t ts (λ us. rw (e, f) refl) (braces (suc d - 1) ts) (again (suc d - 1))
brace_cases d t ts again false false e f = cons_local d d t ts (λ us. rw (e, f) refl) (braces d ts) (again d)

braces_at : (ts : List Token) (d : ℕ) → LocalAt (braces d) ts (braces d ts)
unfolding braces
braces_at [] d = ([], [], refl, refl, λ r q. bad_end d r q)
braces_at (t ∷ ts) d = brace_cases d t ts (braces_at ts) (number t.kind == number kind.CurlyLeft) (number t.kind == number kind.CurlyRight) refl refl

pub local_braces : (d : ℕ) → Local (braces d)
local_braces d = record { by = λ ts. braces_at ts d }

local_trace : Good trace_at
unfolding trace_at
local_trace = good_then (wants kind.Trace) _ (good_wants kind.Trace) (λ _. local_then (wants kind.CurlyLeft) _ (good_wants kind.CurlyLeft).is_local (λ _. local_then (braces 0) _ (local_braces 0) (λ _. local_give _)))

module _ (e : Reader Found) (good : Good e) where
  local_labelled : Local (labelled_at e)
  unfolding labelled_at
  local_labelled = local_then label_at _ local_label (λ _. local_then e _ good.is_local (λ x. local_give _))

  good_claim : Good (claim_at e)
  unfolding claim_at
  good_claim =
      good_try kind.Axiom _ _ (λ _. local_then (labelled_at e) _ local_labelled (λ x. local_give _))
      (good_try kind.Init _ _ (λ _. local_then (labelled_at e) _ local_labelled (λ x. local_give _))
      (good_try kind.Safety _ _ (λ _. local_then (labelled_at e) _ local_labelled (λ x. local_give _))
      (good_then (wants kind.Invariant) _ (good_wants kind.Invariant) (λ _. local_then (labelled_at e) _ local_labelled (λ x. local_give _)))))

  local_transition : Local (transition_at e)
  unfolding transition_at
  local_transition = local_then name_at _ good_name.is_local (λ w. local_then (wants kind.RoundLeft) _ (good_wants kind.RoundLeft).is_local (λ _. local_then (closed_list bound_at) _ (good_closed_list bound_at good_bound).is_local
      (λ ps. local_then modifies_at _ local_modifies (λ ns. local_then e _ good.is_local (λ x. local_give _)))))

  pub good_decl : Good (decl_at e)
  unfolding decl_at
  good_decl =
      good_try kind.Sort _ _ (λ _. local_then name_at _ good_name.is_local (λ w. local_give _))
      (good_try kind.Mutable _ _ (λ _. (good_symbol true).is_local)
      (good_try kind.Immutable _ _ (λ _. (good_symbol false).is_local)
      (good_try kind.Transition _ _ (λ _. local_transition)
      (good_try kind.Sat _ _ (λ _. local_trace.is_local)
      (good_try kind.Unsat _ _ (λ _. local_trace.is_local)
      good_claim)))))

-- An expression is read exactly, at each level and within each limit.
use Rattle.std.proofs.Common.{◌≡◌, ℕ, zero, suc, ◌+◌, ◌-◌, ◌<◌, ◌≤◌, max, Bool, true, false, cond, List, [], ◌∷◌, ◌++◌, length, map, Option, Some, None, Result, Ok, Err, refl, sym, ap, ap₂, subst, ◌∙◌, ◌⊎◌, inl, inr, append_assoc, arith}
use Rattle.std.proofs.lemmas.List.{append-nil}
use Rattle.std.proofs.lemmas.Bool.{ltb-true, lt-ltb}
use Rattle.std.specs.Prelude.{nat_lt}
use Rattle.pyv_lex.specs.declared.token.Kind.{Kind}
use Rattle.pyv_lex.specs.declared.token.Kind.TheVariants as kind
use Rattle.pyv_lex.specs.declared.token.Token.{Token}
use Rattle.pyv_grammar.specs.declared.tree.Bound.{Bound}
use Rattle.pyv_grammar.specs.declared.tree.Expr.{Expr}
use Rattle.pyv_grammar.specs.declared.tree.Expr.TheVariants as expr
use Rattle.pyv_grammar.specs.declared.reading.Found.{Found}
use Rattle.pyv_grammar.specs.Grammar.{Level, Atom, Unary, Ands, Ors, Imps, Exprs, Shape, One, Members, IsLead, Between, Spells, Separated, IsName, IsBound}
use Rattle.pyv_grammar.specs.Grammar as rule
use Rattle.pyv_grammar.specs.Reading.{Reader, eat, skip, on, found, trees, last_open, heights, give, refuse, and_then, sign, try, opens, wants, never, listed, some_list, closed_list, bound_at, all_separated, ends_open, node_of, joined, named_at, new_at, distinct_at, bracketed_at, atom_at, equality, comparison_at, negation_at, binding_at, quantified_at, conditional_at, unary_at, imp_at, expr_at}
use Rattle.pyv_grammar.specs.Reading.{Got, ◌>>=◌, Deeper, unaries, ands, ors, imps, exprs, level_at, deep, read}
use Rattle.pyv_grammar.proofs.Eat.{eat-here, eat-other}
use Rattle.pyv_grammar.proofs.Exact.{Lang, After, Begins, Items, AfterItems, Exact, Sure, Always, OneOf, a_token, is_kind, a_kind, exact_wants, Nothing, exact_give, Seq, begins_first, exact_then, sure_then, Sign, exact_sign, sure_sign, Never, exact_refuse, exact_as, exact_before, some_items, exact_items}
use Rattle.pyv_grammar.proofs.Spelt.{From, from_token, from_less, from_front, eat-from, start, starts_at, starts, rank, rank_of, holds_at, bound, AfterLevel, bound_least, bound_most, tighter, eat-past, closed_follows, ends_all, Spelt, Any, In, Under, Inside, Room, any_room, both_under, a_word, SpeltMembers, members_to, Found_as, members_from}
use Rattle.pyv_grammar.proofs.Forms.{First, un_one, mk_one, Last, un_last, mk_last, Ended, un_end, mk_end, then_any, exact_end, exact_last, sign_from, other_from, here, SomeL, ClosedL, some_some, some_closed, exact_listed, exact_some_list, exact_closed_list, exact_bound, items_separated, separated_items}
use Rattle.pyv_grammar.proofs.Spelt.{in_room}
use Rattle.pyv_grammar.proofs.Levels.{AtomL, AfterAtom, exact_atom}
use Rattle.pyv_grammar.proofs.Atoms.{atom_to, atom_from}
use Rattle.pyv_grammar.proofs.Unaries.{Low, UnaryL, exact_unary}
use Rattle.pyv_grammar.proofs.UnaryForms.{unary_to, unary_from}
use Rattle.pyv_grammar.proofs.Joins.{BinaryL, yes_room, exact_binary, JoinedL, exact_joined, Lists, and_lists, or_lists, joined_to, ands_from, ors_from, implies_of, iff_of, ImpL, ExprL, imp_to, imp_from, expr_to, expr_from}

-- ---- within numbers

loose : (R : ℕ → ℕ → Type 0) (l : Level) (x : Found) (s : List Token) → Spelt R l x s → Spelt Any l x s
loose R l x s h = record { depth = h.depth; fits = tt; spells = h.spells }

-- the same, where the limits say the same
refit : (f : Reader Found) (E : After Found) (l : Level) (R T : ℕ → ℕ → Type 0) → ((d h : ℕ) → R d h → T d h) → ((d h : ℕ) → T d h → R d h) → T 0 0 → Sure f E (Spelt R l) (Spelt Any l) → Sure f E (Spelt T l) (Spelt Any l)
refit f E l R T to from none x = record {
  exact = exact_as f E (Spelt R l) (Spelt Any l) (Spelt T l) (Spelt Any l) (λ a s h. record { depth = h.depth; fits = to h.depth a.height h.fits; spells = h.spells }) (λ a s h. record { depth = h.depth; fits = from h.depth a.height h.fits; spells = h.spells }) (λ a s h. h) x.exact;
  some = a_word T l none;
}

more_true : (n : ℕ) → nat_lt 0 n ≡ true → 0 < n
more_true n h = ltb-true 0 n h

both_true : (b c : Bool) → cond b c false ≡ true → (b ≡ true) × (c ≡ true)
both_true true c h = (refl, h)
both_true false c h = absurd cc

true_both : (b c : Bool) → b ≡ true → c ≡ true → cond b c false ≡ true
true_both true c h k = k
true_both false c h k = absurd cc

module _ (n : ℕ) (down : nat_lt 0 n ≡ true → (w : ℕ) (l : Level) → Sure (deep n w l) (AfterLevel l) (Spelt (λ d h. In n w (suc d) h) l) (Spelt Any l)) where
  inside_room : (v d h : ℕ) → In n v (suc d) h → nat_lt 0 n ≡ true
  inside_room v d h r = lt-ltb 0 n (let a = r.0 in omega arith)

  one_room : (v : ℕ) → nat_lt 0 n ≡ true → In n v 1 0
  one_room v p = (let a = more_true n p in omega arith, omega arith)

  atoms : (v : ℕ) → Sure (atom_at (nat_lt 0 n) (deep n v Exprs)) AfterAtom (Spelt (In n v) Atom) (Spelt Any Atom)
  atoms v = record {
    exact = exact_as (atom_at (nat_lt 0 n) (deep n v Exprs)) AfterAtom (AtomL (In n v) (nat_lt 0 n)) (AtomL Any true) (Spelt (In n v) Atom) (Spelt Any Atom)
        (atom_to (In n v) (in_room n v) (nat_lt 0 n) (one_room v)) (λ a s h. atom_from (In n v) (in_room n v) (nat_lt 0 n) (inside_room v) h.spells h.fits) (atom_to Any any_room true (λ _. tt))
        (exact_atom (In n v) (nat_lt 0 n) (deep n v Exprs) (λ p. down p v Exprs));
    some = a_word (In n v) Atom (omega arith, omega arith);
  }

  may_be : (v : ℕ) → cond (nat_lt 0 n) (nat_lt 0 v) false ≡ true → (0 < n) × (0 < v)
  may_be v p = let q = both_true (nat_lt 0 n) (nat_lt 0 v) p in (more_true n q.0, more_true v q.1)

  low_reads : (v : ℕ) → cond (nat_lt 0 n) (nat_lt 0 v) false ≡ true → Sure (deep n (v - 1) Exprs) (AfterLevel Exprs) (Spelt (Low (In n v)) Exprs) (Spelt Any Exprs)
  low_reads v p =
      let q = may_be v p in
      let r = q.1 in
      let m = q.0 in
      refit (deep n (v - 1) Exprs) (AfterLevel Exprs) Exprs (λ d h. In n (v - 1) (suc d) h) (Low (In n v)) (λ d h i. let a = i.0 in let c = i.1 in (a, omega arith)) (λ d h i. let a = i.0 in let c = i.1 in (a, omega arith)) (omega arith, omega arith)
      (down (both_true (nat_lt 0 n) (nat_lt 0 v) p).0 (v - 1) Exprs)

  in_low : (v d h : ℕ) → In n v (suc d) (suc h) → cond (nat_lt 0 n) (nat_lt 0 v) false ≡ true
  in_low v d h r = true_both (nat_lt 0 n) (nat_lt 0 v) (lt-ltb 0 n (let a = r.0 in omega arith)) (lt-ltb 0 v (let a = r.1 in omega arith))

  unary_reads : (v : ℕ) → Sure (unaries v (nat_lt 0 n) (deep n)) (AfterLevel Unary) (Spelt (In n v) Unary) (Spelt Any Unary)
  unfolding unaries
  unary_reads v = record {
    exact = exact_as (unary_at (nat_lt 0 n) (cond (nat_lt 0 n) (nat_lt 0 v) false) (deep n v) (deep n (v - 1) Exprs)) (AfterLevel Unary) (UnaryL (In n v) (nat_lt 0 n) (cond (nat_lt 0 n) (nat_lt 0 v) false)) (UnaryL Any true true) (Spelt (In n v) Unary) (Spelt Any Unary)
        (unary_to (In n v) (in_room n v) (nat_lt 0 n) (cond (nat_lt 0 n) (nat_lt 0 v) false)) (λ a s h. unary_from (In n v) (in_room n v) (nat_lt 0 n) (cond (nat_lt 0 n) (nat_lt 0 v) false) (inside_room v) (in_low v) h.spells h.fits) (unary_to Any any_room true true)
        (exact_unary (In n v) (nat_lt 0 n) (cond (nat_lt 0 n) (nat_lt 0 v) false) (deep n v) (deep n (v - 1) Exprs) (λ p l. down p v l) (low_reads v) (atoms v));
    some = a_word (In n v) Unary (omega arith, omega arith);
  }

  and_reads : (v : ℕ) → Sure (ands v (nat_lt 0 n) (deep n)) (AfterLevel Ands) (Spelt (In n v) Ands) (Spelt Any Ands)
  unfolding ands
  and_reads v = record {
    exact = exact_as (joined (unaries v (nat_lt 0 n) (deep n)) kind.Amp expr.And) (AfterLevel Ands) (JoinedL (In n v) Unary kind.Amp expr.And) (JoinedL Any Unary kind.Amp expr.And) (Spelt (In n v) Ands) (Spelt Any Ands)
        (joined_to (In n v) (in_room n v) Unary Ands kind.Amp expr.And and_lists) (λ a s h. ands_from (In n v) (in_room n v) h.spells h.fits) (joined_to Any any_room Unary Ands kind.Amp expr.And and_lists)
        (exact_joined (In n v) Any Unary Ands kind.Amp expr.And (unaries v (nat_lt 0 n) (deep n)) (unary_reads v) (omega arith) (omega arith) (omega arith) (omega arith));
    some = a_word (In n v) Ands (omega arith, omega arith);
  }

  or_reads : (v : ℕ) → Sure (ors v (nat_lt 0 n) (deep n)) (AfterLevel Ors) (Spelt (In n v) Ors) (Spelt Any Ors)
  unfolding ors
  or_reads v = record {
    exact = exact_as (joined (ands v (nat_lt 0 n) (deep n)) kind.Bar expr.Or) (AfterLevel Ors) (JoinedL (In n v) Ands kind.Bar expr.Or) (JoinedL Any Ands kind.Bar expr.Or) (Spelt (In n v) Ors) (Spelt Any Ors)
        (joined_to (In n v) (in_room n v) Ands Ors kind.Bar expr.Or or_lists) (λ a s h. ors_from (In n v) (in_room n v) h.spells h.fits) (joined_to Any any_room Ands Ors kind.Bar expr.Or or_lists)
        (exact_joined (In n v) Any Ands Ors kind.Bar expr.Or (ands v (nat_lt 0 n) (deep n)) (and_reads v) (omega arith) (omega arith) (omega arith) (omega arith));
    some = a_word (In n v) Ors (omega arith, omega arith);
  }

  imp_reads : (v : ℕ) → Sure (imps v (nat_lt 0 n) (deep n)) (AfterLevel Imps) (Spelt (In n v) Imps) (Spelt Any Imps)
  unfolding imps imp_at
  imp_reads v = record {
    exact = exact_as (imp_at (nat_lt 0 n) (ors v (nat_lt 0 n) (deep n)) (deep n v Imps)) (AfterLevel Imps) (ImpL (In n v) (nat_lt 0 n)) (ImpL Any true) (Spelt (In n v) Imps) (Spelt Any Imps)
        (imp_to (In n v) (in_room n v) (nat_lt 0 n)) (λ a s h. imp_from (In n v) (in_room n v) (nat_lt 0 n) (inside_room v) h.spells h.fits) (imp_to Any any_room true)
        (exact_binary (ors v (nat_lt 0 n) (deep n)) (deep n v Imps) Ors Imps kind.Implies (λ _. nat_lt 0 n) implies_of (AfterLevel Imps) (Spelt (In n v) Ors) (Spelt Any Ors) (Spelt (Under (In n v)) Imps) (Spelt Any Imps) (or_reads v) (λ a p. down p v Imps) (a_word Any Imps tt)
        (omega arith) (omega arith) (omega arith) (λ t a y rest h. h)).exact;
    some = a_word (In n v) Imps (omega arith, omega arith);
  }

  inside_reads : (v : ℕ) → 0 < v → Sure (imps (v - 1) (nat_lt 0 n) (deep n)) (AfterLevel Imps) (Spelt (Inside (In n v)) Imps) (Spelt Any Imps)
  inside_reads v p = refit (imps (v - 1) (nat_lt 0 n) (deep n)) (AfterLevel Imps) Imps (In n (v - 1)) (Inside (In n v)) (λ d h i. let a = i.0 in let c = i.1 in (a, omega arith)) (λ d h i. let a = i.0 in let c = i.1 in (a, omega arith)) (omega arith, omega arith) (imp_reads (v - 1))

  expr_reads : (v : ℕ) → Sure (exprs v (nat_lt 0 n) (deep n)) (AfterLevel Exprs) (Spelt (In n v) Exprs) (Spelt Any Exprs)
  unfolding exprs expr_at
  expr_reads v = record {
    exact = exact_as (expr_at v (imps v (nat_lt 0 n) (deep n)) (imps (v - 1) (nat_lt 0 n) (deep n))) (AfterLevel Exprs) (ExprL (In n v) (λ x. nat_lt x.height v)) (ExprL Any yes_room) (Spelt (In n v) Exprs) (Spelt Any Exprs)
        (expr_to (In n v) (in_room n v) (λ x. nat_lt x.height v) (λ d x p r. (r.0, let q = ltb-true x.height v p in omega arith))) (λ a s h. expr_from (In n v) (in_room n v) (λ x. nat_lt x.height v) (λ d x r. lt-ltb x.height v (let q = r.1 in omega arith)) h.spells h.fits)
        (expr_to Any any_room yes_room (λ d x p r. tt))
        (exact_binary (imps v (nat_lt 0 n) (deep n)) (imps (v - 1) (nat_lt 0 n) (deep n)) Imps Exprs kind.Iff (λ x. nat_lt x.height v) iff_of (AfterLevel Imps) (Spelt (In n v) Imps) (Spelt Any Imps) (Spelt (Inside (In n v)) Imps) (Spelt Any Imps) (imp_reads v)
        (λ a p. inside_reads v (let q = ltb-true a.height v p in omega arith)) (a_word Any Imps tt) (omega arith) (omega arith) (omega arith) (λ t a y rest h. tighter Exprs Imps y.ends_open (rank_of rest) (omega arith) h)).exact;
    some = a_word (In n v) Exprs (omega arith, omega arith);
  }

  pub level_reads : (v : ℕ) (l : Level) → Sure (level_at v (nat_lt 0 n) (deep n) l) (AfterLevel l) (Spelt (In n v) l) (Spelt Any l)
  level_reads v Atom = record { exact = exact_before (atom_at (nat_lt 0 n) (deep n v Exprs)) AfterAtom (AfterLevel Atom) (Spelt (In n v) Atom) (Spelt Any Atom) (λ a rest h. let m = bound_least Atom a.ends_open in omega arith) (atoms v).exact; some = (atoms v).some }
  level_reads v Unary = unary_reads v
  level_reads v Ands = and_reads v
  level_reads v Ors = or_reads v
  level_reads v Imps = imp_reads v
  level_reads v Exprs = expr_reads v

down_of : (n : ℕ) → ((w : ℕ) (l : Level) → Sure (read n w l) (AfterLevel l) (Spelt (In n w) l) (Spelt Any l)) → (w : ℕ) (l : Level) → Sure (deep (suc n) w l) (AfterLevel l) (Spelt (λ d h. In (suc n) w (suc d) h) l) (Spelt Any l)
unfolding deep
down_of n h w l = refit (read n w l) (AfterLevel l) l (In n w) (λ d h. In (suc n) w (suc d) h) (λ d h i. let a = i.0 in (omega arith, i.1)) (λ d h i. let a = i.0 in (omega arith, i.1)) (omega arith, omega arith) (h w l)

pub exact_read : (n v : ℕ) (l : Level) → Sure (read n v l) (AfterLevel l) (Spelt (In n v) l) (Spelt Any l)
exact_read zero v l = level_reads zero (λ p w m. absurd (let q = more_true 0 p in omega arith)) v l
exact_read (suc n) v l = level_reads (suc n) (λ p w m. down_of n (exact_read n) w m) v l

-- Steps of reading expressions that go a level further in.
use Rattle.std.proofs.Common.{◌≡◌, ℕ, ◌+◌, ◌-◌, ◌≤◌, max, true, false, List, Some, None, Ok, Err, refl, sym, ap, ◌∙◌, arith}
use Rattle.std.specs.Prelude.{nat_lt}
use Rattle.std.proofs.lemmas.Bool.{lt-ltb}
use Rattle.pyv_lex.specs.declared.token.Kind.TheVariants as kind
use Rattle.pyv_lex.specs.declared.token.Token.{Token}
use Rattle.pyv_grammar.specs.declared.tree.Expr.TheVariants as expr
use Rattle.pyv_grammar.specs.declared.reading.Found.{Found}
use Rattle.pyv_grammar.specs.Grammar.{Level, Atom, Unary, Ands, Imps, Exprs}
use Rattle.pyv_grammar.specs.Reading.{Got, Reader, eat, ◌>>=◌, give, and_then, wants, sign, some_list, found, trees, heights, joined, deep, read, negation_at, quantified_at, conditional_at, named_at, new_at, distinct_at, bracketed_at, closed_list, atom_at, unary_at, unaries, ors, imps, imp_at}
use Rattle.pyv_grammar.proofs.Deep.{deep_reads}
use Rattle.pyv_parse.specs.Gives.{eat_behind, above, part_at, chosen_at}
use Rattle.pyv_parse.proofs.Loops.{sign-some}

-- what stands behind the sign of an implication, whose left side was read
abbrev conclusion : ℕ → ℕ → Found → Token → Reader Found
conclusion n v x t = and_then (deep n v Imps) (λ y. give (found (expr.Implies t.span.from x.tree y.tree) y.ends_open (max x.height y.height)))

module _ (n v r : ℕ) (e : n ≡ r + 1) where
  pub further : (l : Level) → deep n v l ≡ read r v l
  further l =
      let m : n - 1 ≡ r = omega arith in
      deep_reads n v l (omega arith) ∙ ap (λ (k : ℕ). read k v l) m

  pub roomy : nat_lt 0 n ≡ true
  roomy = lt-ltb 0 n (omega arith)

  pub at_bang : (ts rest : List Token) (t : Token) → eat kind.Bang ts ≡ Some (t, rest) → read n v Unary ts ≡ negation_at (read r v Unary) t rest
  unfolding unaries unary_at
  at_bang ts rest t h = rw (h, roomy, further Unary) refl

  pub at_forall : (ts rest : List Token) (t : Token) → eat kind.Bang ts ≡ None → eat kind.Forall ts ≡ Some (t, rest) → read n v Unary ts ≡ quantified_at expr.All (read r v Exprs) t rest
  unfolding unaries unary_at
  at_forall ts rest t a h = rw (a, h, roomy, further Exprs) refl

  pub at_exists : (ts rest : List Token) (t : Token) → eat kind.Bang ts ≡ None → eat kind.Forall ts ≡ None → eat kind.Exists ts ≡ Some (t, rest) → read n v Unary ts ≡ quantified_at expr.Ex (read r v Exprs) t rest
  unfolding unaries unary_at
  at_exists ts rest t a b h = rw (a, b, h, roomy, further Exprs) refl

  pub at_word : (ts after : List Token) (t u : Token) → eat kind.RoundLeft ts ≡ Some (u, after) → eat kind.RoundRight after ≡ None
      → named_at (nat_lt 0 n) (deep n v Exprs) t ts ≡ and_then (some_list (read r v Exprs)) (λ xs. give (found (expr.Name t.span true (trees xs)) false (heights xs))) after
  unfolding closed_list
  at_word ts after t u h k = rw (h, roomy, further Exprs, k) refl

  pub at_new : (ts rest : List Token) (t : Token) → eat kind.Word ts ≡ None → eat kind.True ts ≡ None → eat kind.False ts ≡ None → eat kind.New ts ≡ Some (t, rest) → read n v Atom ts ≡ new_at (read r v Exprs) t rest
  unfolding atom_at
  at_new ts rest t a b c h = rw (a, b, c, h, roomy, further Exprs) refl

  pub at_distinct : (ts rest : List Token) (t : Token) → eat kind.Word ts ≡ None → eat kind.True ts ≡ None → eat kind.False ts ≡ None → eat kind.New ts ≡ None → eat kind.Distinct ts ≡ Some (t, rest)
      → read n v Atom ts ≡ distinct_at (read r v Exprs) t rest
  unfolding atom_at
  at_distinct ts rest t a b c d h = rw (a, b, c, d, h, roomy, further Exprs) refl

  pub at_bracket : (ts rest : List Token) (t : Token) → eat kind.Word ts ≡ None → eat kind.True ts ≡ None → eat kind.False ts ≡ None → eat kind.New ts ≡ None → eat kind.Distinct ts ≡ None → eat kind.RoundLeft ts ≡ Some (t, rest)
      → read n v Atom ts ≡ bracketed_at (read r v Exprs) rest
  unfolding atom_at
  at_bracket ts rest t a b c d f h = rw (a, b, c, d, f, h, roomy, further Exprs) refl

  pub at_implies : (ts rest after : List Token) (t : Token) (x : Found) → joined (read n v Ands) kind.Bar expr.Or ts ≡ Ok (x, rest) → eat_behind x.ends_open kind.Implies rest ≡ Some (t, after)
      → read n v Imps ts ≡ and_then (read r v Imps) (λ y. give (found (expr.Implies t.span.from x.tree y.tree) y.ends_open (max x.height y.height))) after
  unfolding imps imp_at ors
  at_implies ts rest after t x f h =
      ap (λ (z : Got Found). z >>= λ y. sign y.0.ends_open (nat_lt 0 n) kind.Implies (conclusion n v y.0) (give y.0) y.1) f
      ∙ sign-some x.ends_open (nat_lt 0 n) kind.Implies (conclusion n v x) (give x) rest after t h
      ∙ rw (roomy, further Imps) refl

-- ---- conditionals, part by part

bound_twice : {A B C : Type 0} (got : Got A) (f : A × List Token → Got B) (g : B × List Token → Got C) → ((got >>= f) >>= g) ≡ (got >>= λ x. f x >>= g)
bound_twice (Ok x) f g = refl
bound_twice (Err e) f g = refl

bound_alike : {A B : Type 0} (got : Got A) (f g : A × List Token → Got B) → ((x : A × List Token) → f x ≡ g x) → (got >>= f) ≡ (got >>= g)
bound_alike (Ok x) f g h = h x
bound_alike (Err e) f g h = refl

by_parts : (e : Reader Found) (t : Token) (ts : List Token) → conditional_at e t ts ≡ chosen_at e t ts
unfolding part_at above
by_parts e t ts =
    bound_alike (e ts) _ _ (λ x.
    bound_alike (wants kind.Then x.1) _ _ (λ w. bound_alike (e w.1) _ _ (λ y. sym (bound_twice (wants kind.Else y.1) (λ v. e v.1) _)))
    ∙ sym (bound_twice (wants kind.Then x.1) (λ w. e w.1) _))

pub above_low : (a b c h : ℕ) → a ≤ h → b ≤ h → c ≤ h → above a b c ≤ h + 1
unfolding above
above_low a b c h i j k = omega arith

pub at_if : (n v r w : ℕ) → n ≡ r + 1 → v ≡ w + 1 → (ts rest : List Token) (t : Token) → eat kind.Bang ts ≡ None → eat kind.Forall ts ≡ None → eat kind.Exists ts ≡ None → eat kind.If ts ≡ Some (t, rest)
    → read n v Unary ts ≡ chosen_at (read r w Exprs) t rest
unfolding unaries unary_at
at_if n v r w e f ts rest t a b c h =
    let lower : v - 1 ≡ w = omega arith in
    rw (a, b, c, h, roomy n v r e, lt-ltb 0 v (omega arith), lower, further n w r e Exprs) (by_parts (read r w Exprs) t rest)

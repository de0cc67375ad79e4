-- An expression is read exactly.
use Rattle.std.proofs.Common.{◌≡◌, ℕ, zero, suc, ◌+◌, ◌-◌, ◌<◌, ◌≤◌, max, Bool, true, false, cond, List, [], ◌∷◌, ◌++◌, length, map, Option, Some, None, Result, Ok, Err, refl, sym, ap, ap₂, subst, ◌∙◌, ◌⊎◌, inl, inr, append_assoc, arith}
use Rattle.std.proofs.lemmas.List.{append-nil}
use Rattle.std.proofs.lemmas.Bool.{ltb-true, lt-ltb}
use Rattle.std.specs.Prelude.{nat_lt}
use Rattle.pyv_lex.specs.declared.token.Kind.{Kind}
use Rattle.pyv_lex.specs.declared.token.Kind.TheVariants as kind
use Rattle.pyv_lex.specs.declared.token.Token.{Token}
use Rattle.pyv_grammar.specs.declared.tree.Bound.{Bound}
use Rattle.pyv_grammar.specs.declared.tree.Expr.{Expr}
use Rattle.pyv_grammar.specs.declared.tree.Expr.TheVariants as expr
use Rattle.pyv_grammar.specs.declared.reading.Found.{Found}
use Rattle.pyv_grammar.specs.Grammar.{Level, Atom, Unary, Ands, Ors, Imps, Exprs, Shape, One, Members, IsLead, Between, Spells, Separated, IsName, IsBound}
use Rattle.pyv_grammar.specs.Grammar as rule
use Rattle.pyv_grammar.specs.Reading.{Reader, eat, skip, on, found, trees, last_open, heights, give, refuse, and_then, sign, try, opens, wants, never, listed, some_list, closed_list, bound_at, all_separated, ends_open, node_of, joined, named_at, new_at, distinct_at, bracketed_at, atom_at, equality, comparison_at, negation_at, binding_at, quantified_at, conditional_at, unary_at, imp_at, expr_at}
use Rattle.pyv_grammar.specs.Reading.{Deeper, unaries, ands, ors, imps, exprs, level_at, deep, read}
use Rattle.pyv_grammar.proofs.Good.{skip-try}
use Rattle.pyv_grammar.proofs.Eat.{eat-here, eat-other}
use Rattle.pyv_grammar.proofs.Exact.{Lang, After, Begins, Items, AfterItems, Exact, Sure, Always, OneOf, a_token, is_kind, a_kind, exact_wants, Nothing, exact_give, Seq, begins_first, exact_then, sure_then, Sign, exact_sign, sure_sign, Never, exact_refuse, exact_as, exact_before, some_items, exact_items}
use Rattle.pyv_grammar.proofs.Spelt.{From, from_token, from_less, from_front, eat-from, start, starts_at, starts, rank, rank_of, holds_at, bound, AfterLevel, bound_least, bound_most, tighter, eat-past, closed_follows, ends_all, Spelt, Any, In, Under, Inside, Room, any_room, both_under, a_word, SpeltMembers, members_to, Found_as, members_from}
use Rattle.pyv_grammar.proofs.Forms.{First, un_one, mk_one, Last, un_last, mk_last, Ended, un_end, mk_end, then_any, exact_end, exact_last, sign_from, other_from, here, SomeL, ClosedL, some_some, some_closed, exact_listed, exact_some_list, exact_closed_list, exact_bound, items_separated, separated_items}
use Rattle.pyv_grammar.proofs.Levels.{AtomL, AfterAtom, exact_atom}
use Rattle.pyv_grammar.proofs.Atoms.{re, room_under, atom_to, atom_from, atom_shut}
use Rattle.pyv_grammar.proofs.Unaries.{negation_of, bound_of, if_of, Bounds, UnequalL, EqualL, ComparisonL, NotL, BindingL, QuantifiedL, ElseL, ThenL, IfL, Low, AfterForallL, AfterBangL, UnaryL, exact_unary}

-- ---- what is read at the unary level is spelled there, and the other way

shut : {x : Expr} {o : Bool} {d h : ℕ} {s : List Token} → Spells (One Atom x) o d h s → Spells (One Atom x) false d h s
shut {x = x} {d = d} {h = h} {s = s} f = subst (λ (p : Bool). Spells (One Atom x) p d h s) (atom_shut f) f

-- a binding, in its parts
record Parts (R : ℕ → ℕ → Type 0) (y : List Bound × Found) (u : List Token) : Type 0 where
  bounds : List Bound
  body : Found
  names : List Token
  dot : Token
  rest : List Token
  text : u ≡ names ++ dot ∷ rest
  is : y ≡ (bounds, body)
  is_dot : dot.kind ≡ kind.Dot
  bound : Separated kind.Comma IsBound bounds names
  spells : Spelt R Exprs body rest

parts_of : (R : ℕ → ℕ → Type 0) (y : List Bound × Found) (u : List Token) → BindingL R y u → Parts R y u
parts_of R y u h =
    let o = un_one kind.Dot (λ _. Seq (Spelt R Exprs) (λ x. Nothing (h.0, x))) y h.2 h.5 in
    let l = un_last (Spelt R Exprs) (λ x. (h.0, x)) y o.rest o.is in
    record { bounds = h.0; body = l.value; names = h.1; dot = o.token; rest = o.rest; text = h.3 ∙ ap (λ (z : List Token). h.1 ++ z) o.text; is = l.is; is_dot = o.kind; bound = items_separated kind.Comma IsBound h.0 h.1 h.4; spells = l.spells }

binding_of : (R : ℕ → ℕ → Type 0) (bs : List Bound) (x : Found) (b : List Token) (c : Token) (s : List Token) → c.kind ≡ kind.Dot → Separated kind.Comma IsBound bs b → Spelt R Exprs x s → BindingL R (bs, x) (b ++ c ∷ s)
binding_of R bs x b c s k m f = (bs, b, c ∷ s, refl, separated_items kind.Comma IsBound bs b m, mk_one kind.Dot (λ _. Seq (Spelt R Exprs) (λ x. Nothing (bs, x))) (bs, x) c s k (mk_last (Spelt R Exprs) (λ x. (bs, x)) x s f))

module _ (R : ℕ → ℕ → Type 0) (room : Room R) where
  comparison_to : (a : Found) (s : List Token) → ComparisonL R a s → Spelt R Unary a s
  comparison_to a s (x, p, q, e, f, inl c) =
      let y = un_last (Spelt R Atom) (equality expr.Equal c.2 x) a c.3 c.6 in
      re R Unary a (equality expr.Equal c.2 x y.value) s (p ++ c.2 ∷ c.3) y.is (e ∙ ap (λ (l : List Token). p ++ l) c.4)
      (record { depth = max f.depth y.spells.depth; fits = room.both f.depth y.spells.depth x.height y.value.height f.fits y.spells.fits; spells = rule.equal c.2 x.tree y.value.tree f.depth y.spells.depth x.height y.value.height p c.3 c.5 (shut f.spells) (shut y.spells.spells) })
  comparison_to a s (x, p, q, e, f, inr (inl c)) =
      let y = un_last (Spelt R Atom) (equality expr.Unequal c.2 x) a c.3 c.6 in
      re R Unary a (equality expr.Unequal c.2 x y.value) s (p ++ c.2 ∷ c.3) y.is (e ∙ ap (λ (l : List Token). p ++ l) c.4)
      (record { depth = max f.depth y.spells.depth; fits = room.both f.depth y.spells.depth x.height y.value.height f.fits y.spells.fits; spells = rule.unequal c.2 x.tree y.value.tree f.depth y.spells.depth x.height y.value.height p c.3 c.5 (shut f.spells) (shut y.spells.spells) })
  comparison_to a s (x, p, q, e, f, inr (inr n)) =
      re R Unary a x s p n.0 (e ∙ ap (λ (l : List Token). p ++ l) n.1 ∙ append-nil p)
      (record { depth = f.depth; fits = f.fits; spells = subst (λ (o : Bool). Spells (One Unary x.tree) o f.depth x.height p) (sym (atom_shut f.spells)) (rule.atom x.tree f.depth x.height p (shut f.spells)) })

  all_to : (t : Token) (a : Found) (u : List Token) → t.kind ≡ kind.Forall → QuantifiedL (Under R) expr.All t a u → Spelt R Unary a (t ∷ u)
  all_to t a u k h =
      let l = un_last (BindingL (Under R)) (bound_of expr.All t) a u h in
      let p = parts_of (Under R) l.value u l.spells in
      re R Unary a (bound_of expr.All t (p.bounds, p.body)) (t ∷ u) (t ∷ (p.names ++ p.dot ∷ p.rest)) (l.is ∙ ap (bound_of expr.All t) p.is) (ap (λ (z : List Token). t ∷ z) p.text)
      (record { depth = suc p.spells.depth; fits = p.spells.fits; spells = rule.all t p.dot p.bounds p.body.tree p.body.ends_open p.spells.depth p.body.height p.names p.rest k p.is_dot p.bound p.spells.spells })

  some_to : (t : Token) (a : Found) (u : List Token) → t.kind ≡ kind.Exists → QuantifiedL (Under R) expr.Ex t a u → Spelt R Unary a (t ∷ u)
  some_to t a u k h =
      let l = un_last (BindingL (Under R)) (bound_of expr.Ex t) a u h in
      let p = parts_of (Under R) l.value u l.spells in
      re R Unary a (bound_of expr.Ex t (p.bounds, p.body)) (t ∷ u) (t ∷ (p.names ++ p.dot ∷ p.rest)) (l.is ∙ ap (bound_of expr.Ex t) p.is) (ap (λ (z : List Token). t ∷ z) p.text)
      (record { depth = suc p.spells.depth; fits = p.spells.fits; spells = rule.some t p.dot p.bounds p.body.tree p.body.ends_open p.spells.depth p.body.height p.names p.rest k p.is_dot p.bound p.spells.spells })

  not_to : (t : Token) (a : Found) (u : List Token) → t.kind ≡ kind.Bang → NotL (Under R) t a u → Spelt R Unary a (t ∷ u)
  not_to t a u k h =
      let l = un_last (Spelt (Under R) Unary) (negation_of t) a u h in
      re R Unary a (negation_of t l.value) (t ∷ u) (t ∷ u) l.is refl (record { depth = suc l.spells.depth; fits = l.spells.fits; spells = rule.not t l.value.tree l.value.ends_open l.spells.depth l.value.height u k l.spells.spells })

  low_both : (d e h i : ℕ) → Low R d h → Low R e i → Low R (max d e) (max h i)
  low_both d e h i r q = let a : suc (max d e) ≤ max (suc d) (suc e) = omega arith in let c : suc (max h i) ≤ max (suc h) (suc i) = omega arith in room.less (suc (max d e)) (max (suc d) (suc e)) (suc (max h i)) (max (suc h) (suc i)) a c (room.both (suc d) (suc e) (suc h) (suc i) r q)

  if_to : (t : Token) (a : Found) (u : List Token) → t.kind ≡ kind.If → IfL (Low R) t a u → Spelt R Unary a (t ∷ u)
  if_to t a u k (x, p, q, e, f, h) =
      let o = un_one kind.Then (λ _. Seq (Spelt (Low R) Exprs) (ElseL (Low R) t x)) a q h in
      let y = o.is in
      let v = un_one kind.Else (λ _. Seq (Spelt (Low R) Exprs) (λ z. Nothing (if_of t x y.0 z))) a y.2 y.5 in
      let z = un_last (Spelt (Low R) Exprs) (if_of t x y.0) a v.rest v.is in
      re R Unary a (if_of t x y.0 z.value) (t ∷ u) (t ∷ (p ++ o.token ∷ (y.1 ++ v.token ∷ v.rest))) z.is
      (ap (λ (l : List Token). t ∷ l) (e ∙ ap (λ (l : List Token). p ++ l) (o.text ∙ ap (λ (l : List Token). o.token ∷ l) (y.3 ∙ ap (λ (l : List Token). y.1 ++ l) v.text))))
      (record {
        depth = suc (max f.depth (max y.4.depth z.spells.depth));
        fits = low_both f.depth (max y.4.depth z.spells.depth) x.height (max y.0.height z.value.height) f.fits (low_both y.4.depth z.spells.depth y.0.height z.value.height y.4.fits z.spells.fits);
        spells = rule.conditional t o.token v.token x.tree y.0.tree z.value.tree x.ends_open y.0.ends_open z.value.ends_open f.depth y.4.depth z.spells.depth x.height y.0.height z.value.height p y.1 v.rest k o.kind v.kind f.spells y.4.spells z.spells.spells;
      })

  pub unary_to : (b may : Bool) (a : Found) (s : List Token) → UnaryL R b may a s → Spelt R Unary a s
  unary_to b may a s (inl c) = subst (Spelt R Unary a) (sym c.4) (not_to c.2 a c.3 c.5 c.6)
  unary_to b may a s (inr (inl c)) = subst (Spelt R Unary a) (sym c.4) (all_to c.2 a c.3 c.5 c.6)
  unary_to b may a s (inr (inr (inl c))) = subst (Spelt R Unary a) (sym c.4) (some_to c.2 a c.3 c.5 c.6)
  unary_to b may a s (inr (inr (inr (inl c)))) = subst (Spelt R Unary a) (sym c.4) (if_to c.2 a c.3 c.5 c.6)
  unary_to b may a s (inr (inr (inr (inr c)))) = comparison_to a s c

  pub unary_from : (b may : Bool) → ((d h : ℕ) → R (suc d) h → b ≡ true) → ((d h : ℕ) → R (suc d) (suc h) → may ≡ true) → {x : Expr} {o : Bool} {d h : ℕ} {s : List Token} → Spells (One Unary x) o d h s → R d h → UnaryL R b may (found x o h) s
  unary_from b may within low (rule.atom x d h s f) r = inr (inr (inr (inr (found x false h, s, [], sym (append-nil s), record { depth = d; fits = r; spells = f }, inr (inr (refl, refl))))))
  unary_from b may within low (rule.equal t x y d e h i p q k f g) r =
      let r1 : R d h = room.less d (max d e) h (max h i) (omega arith) (omega arith) r in
      let r2 : R e i = room.less e (max d e) i (max h i) (omega arith) (omega arith) r in
      inr (inr (inr (inr (
        found x false h,
        p,
        t ∷ q,
        refl,
        record { depth = d; fits = r1; spells = f },
        inl (refl, refl, t, q, refl, k, mk_last (Spelt R Atom) (equality expr.Equal t (found x false h)) (found y false i) q (record { depth = e; fits = r2; spells = g })),
      ))))
  unary_from b may within low (rule.unequal t x y d e h i p q k f g) r =
      let r1 : R d h = room.less d (max d e) h (max h i) (omega arith) (omega arith) r in
      let r2 : R e i = room.less e (max d e) i (max h i) (omega arith) (omega arith) r in
      inr (inr (inr (inr (
        found x false h,
        p,
        t ∷ q,
        refl,
        record { depth = d; fits = r1; spells = f },
        inr (inl (refl, refl, t, q, refl, k, mk_last (Spelt R Atom) (equality expr.Unequal t (found x false h)) (found y false i) q (record { depth = e; fits = r2; spells = g }))),
      ))))
  unary_from b may within low (rule.not t x o d h s k f) r =
      inl (refl, within d h r, t, s, refl, k, mk_last (Spelt (Under R) Unary) (negation_of t) (found x o h) s (record { depth = d; fits = r; spells = f }))
  unary_from b may within low (rule.all t c bs x o d h p s k l m f) r =
      inr (inl (refl, within d h r, t, p ++ c ∷ s, refl, k, mk_last (BindingL (Under R)) (bound_of expr.All t) (bs, found x o h) (p ++ c ∷ s) (binding_of (Under R) bs (found x o h) p c s l m (record { depth = d; fits = r; spells = f }))))
  unary_from b may within low (rule.some t c bs x o d h p s k l m f) r =
      inr (inr (inl (refl, within d h r, t, p ++ c ∷ s, refl, k, mk_last (BindingL (Under R)) (bound_of expr.Ex t) (bs, found x o h) (p ++ c ∷ s) (binding_of (Under R) bs (found x o h) p c s l m (record { depth = d; fits = r; spells = f })))))
  unary_from b may within low (rule.conditional t u v x y z o p q d e f h i j xs ys zs k l m fx fy fz) r =
      let top = suc (max d (max e f)) in
      let tall = suc (max h (max i j)) in
      let r1 : R (suc d) (suc h) = room.less (suc d) top (suc h) tall (omega arith) (omega arith) r in
      let r2 : R (suc e) (suc i) = room.less (suc e) top (suc i) tall (omega arith) (omega arith) r in
      let r3 : R (suc f) (suc j) = room.less (suc f) top (suc j) tall (omega arith) (omega arith) r in
      let last = mk_last (Spelt (Low R) Exprs) (if_of t (found x o h) (found y p i)) (found z q j) zs (record { depth = f; fits = r3; spells = fz }) in
      let else_part : ElseL (Low R) t (found x o h) (found y p i) (if_of t (found x o h) (found y p i) (found z q j)) (v ∷ zs) = mk_one kind.Else (λ _. Seq (Spelt (Low R) Exprs) (λ z. Nothing (if_of t (found x o h) (found y p i) z))) (if_of t (found x o h) (found y p i) (found z q j)) v zs m last in
      let then_part : ThenL (Low R) t (found x o h) (if_of t (found x o h) (found y p i) (found z q j)) (u ∷ (ys ++ v ∷ zs)) = mk_one kind.Then (λ _. Seq (Spelt (Low R) Exprs) (ElseL (Low R) t (found x o h))) (if_of t (found x o h) (found y p i) (found z q j)) u (ys ++ v ∷ zs) l (found y p i, ys, v ∷ zs, refl, record { depth = e; fits = r2; spells = fy }, else_part) in
      inr (inr (inr (inl (refl, low d h r1, t, xs ++ u ∷ (ys ++ v ∷ zs), refl, k, (found x o h, xs, u ∷ (ys ++ v ∷ zs), refl, record { depth = d; fits = r1; spells = fx }, then_part)))))

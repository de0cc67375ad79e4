-- What reads a declaration reads what the grammar spells.
use Rattle.std.proofs.Common.{◌≡◌, ℕ, zero, suc, ◌+◌, ◌-◌, ◌<◌, ◌≤◌, max, Bool, true, false, cond, List, [], ◌∷◌, ◌++◌, length, map, Option, Some, None, Result, Ok, Err, refl, sym, ap, ap₂, subst, ◌∙◌, ◌⊎◌, inl, inr, append_assoc, arith}
use Rattle.std.proofs.lemmas.List.{append-nil}
use Rattle.pv_base.specs.declared.Span.{Span}
use Rattle.pyv_lex.specs.declared.token.Kind.{Kind}
use Rattle.pyv_lex.specs.declared.token.Kind.TheVariants as kind
use Rattle.pyv_lex.specs.declared.token.Token.{Token}
use Rattle.pyv_grammar.specs.declared.tree.Bound.{Bound}
use Rattle.pyv_grammar.specs.declared.tree.Expr.{Expr}
use Rattle.pyv_grammar.specs.declared.tree.Decl.{Decl}
use Rattle.pyv_grammar.specs.declared.tree.Decl.TheVariants as decl
use Rattle.pyv_grammar.specs.declared.reading.Found.{Found}
use Rattle.pyv_grammar.specs.Grammar.{Exprs, Limits, Endless, Within, Fits, IsExpr, Separated, InBrackets, IsName, IsBound, IsMutability, IsClaim, IsLabel, IsModifies, IsBalanced, SpellsDecl}
use Rattle.pyv_grammar.specs.Grammar as rule
use Rattle.pyv_grammar.specs.Reading.{Reader, eat, found, give, refuse, and_then, sign, try, wants, never, listed, some_list, closed_list, name_at, bound_at, relation_at, constant_at, function_at, symbol_at, label_at, labelled_at, claim_at, modifies_at, transition_at, braces, trace_at, decl_at}
use Rattle.pyv_grammar.proofs.Eat.{eat-here, eat-other}
use Rattle.pyv_grammar.proofs.Exact.{Lang, After, Begins, Items, AfterItems, Exact, Sure, Always, OneOf, a_token, is_kind, a_kind, exact_wants, Nothing, exact_give, Seq, begins_first, sure_then, Sign, exact_sign, sure_sign, Never, exact_as, exact_before, some_items}
use Rattle.pyv_grammar.proofs.Spelt.{From, from_token, from_less, from_front, eat-from, start, starts, rank, rank_of, bound_most, AfterLevel, Spelt}
use Rattle.pyv_grammar.proofs.Forms.{First, un_one, mk_one, Last, un_last, mk_last, Ended, un_end, mk_end, then_any, exact_end, exact_last, sign_from, other_from, here, SomeL, ClosedL, some_some, some_closed, exact_listed, exact_some_list, exact_closed_list, exact_name, exact_bound, items_separated, separated_items}
use Rattle.pyv_grammar.proofs.Braces.{Closes, ClosesL, exact_braces, closes_behind, Split, split}
use Rattle.pyv_grammar.proofs.Braces as curly
use Rattle.pyv_grammar.proofs.Spelt.{Any}
use Rattle.pyv_grammar.proofs.Readers.{exact_read}
use Rattle.pyv_grammar.specs.Reading.{read}
use Rattle.pyv_grammar.proofs.Decls.{SortL, ArgsL, RelationL, SortOfL, ConstantL, ValuesL, FunctionL, NotRelationL, SymbolL, LabelL, ModifiesL, TraceL, LabelledL, MakesL, SafetyL, InitL, ClaimL, StepL, TransitionL, UnsatL, SatL, StepsL, ImmutableL, MutableL, DeclL, closed_in, some_in, Opened, in_closed, in_some, AfterDecl, exact_decl_as}

module _ (limits : Limits) where
  -- the same, for another declaration and another text
  re : (a x : Decl) (s u : List Token) → a ≡ x → s ≡ u → SpellsDecl limits x u → SpellsDecl limits a s
  re a x s u e f h = subst (λ (z : Decl). SpellsDecl limits z s) (sym e) (subst (SpellsDecl limits x) (sym f) h)

  cut_name : (w : Span) (p : List Token) → IsName w p → (P : Span → List Token → Type 0) → ((t : Token) → t.kind ≡ kind.Word → P t.span (t ∷ [])) → P w p
  cut_name _ _ (rule.IsName.name t k) P f = f t k

  sort_to : (t : Token) (a : Decl) (u : List Token) → t.kind ≡ kind.Sort → SortL a u → SpellsDecl limits a (t ∷ u)
  sort_to t a u k h =
      let l = un_last IsName decl.Sort a u h in
      cut_name l.value u l.spells (λ w p. a ≡ decl.Sort w → SpellsDecl limits a (t ∷ p)) (λ w q e. re a (decl.Sort w.span) (t ∷ w ∷ []) (t ∷ w ∷ []) e refl (rule.sort t w k q)) l.is

  -- a name, and what stands behind it
  record Named (w : Span) (s rest : List Token) : Type 0 where
    token : Token
    text : s ≡ token ∷ rest
    is : token.kind ≡ kind.Word
    span : w ≡ token.span

  named : (w : Span) (p q s : List Token) → s ≡ p ++ q → IsName w p → Named w s q
  named w p q s e h = cut_name w p h (λ w p. s ≡ p ++ q → Named w s q) (λ t k f. record { token = t; text = f; is = k; span = refl }) e

  args_to : (m t : Token) (j : Kind) (b : Bool) (a : Decl) (w : Span) (u q : List Token) → m.kind ≡ j → IsMutability b j → t.kind ≡ kind.Relation → Named w u q → ArgsL b w a q → SpellsDecl limits a (m ∷ t ∷ u)
  args_to m t j b a w u q mk mu tk n (inl c) =
      let l = un_last (ClosedL IsName) (decl.Relation b w) a c.3 c.6 in
      re a (decl.Relation b n.token.span l.value) (m ∷ t ∷ u) (m ∷ t ∷ n.token ∷ c.2 ∷ c.3) (l.is ∙ ap (λ (z : Span). decl.Relation b z l.value) n.span) (ap (λ (z : List Token). m ∷ t ∷ z) (n.text ∙ ap (λ (z : List Token). n.token ∷ z) c.4))
      (rule.relation m t n.token j b l.value (c.2 ∷ c.3) mk mu tk n.is (closed_in IsName c.2 l.value c.3 c.5 l.spells))
  args_to m t j b a w u q mk mu tk n (inr h) =
      re a (decl.Relation b n.token.span []) (m ∷ t ∷ u) (m ∷ t ∷ n.token ∷ []) (h.0 ∙ ap (λ (z : Span). decl.Relation b z []) n.span) (ap (λ (z : List Token). m ∷ t ∷ z) (n.text ∙ ap (λ (z : List Token). n.token ∷ z) h.1))
      (rule.fact m t n.token j b mk mu tk n.is)

  -- a colon and a sort
  record Valued (make : Span → Decl) (a : Decl) (s : List Token) : Type 0 where
    colon : Token
    token : Token
    text : s ≡ colon ∷ token ∷ []
    is_colon : colon.kind ≡ kind.Colon
    is_word : token.kind ≡ kind.Word
    is : a ≡ make token.span

  valued : (make : Span → Decl) (a : Decl) (s : List Token) → SortOfL make a s → Valued make a s
  valued make a s h =
      let o = un_one kind.Colon (λ _. Seq IsName (λ s. Nothing (make s))) a s h in
      let l = un_last IsName make a o.rest o.is in
      let n = named l.value o.rest [] o.rest (sym (append-nil o.rest)) l.spells in
      record { colon = o.token; token = n.token; text = o.text ∙ ap (λ (z : List Token). o.token ∷ z) n.text; is_colon = o.kind; is_word = n.is; is = l.is ∙ ap make n.span }

  constant_to : (m t : Token) (j : Kind) (b : Bool) (a : Decl) (u : List Token) → m.kind ≡ j → IsMutability b j → t.kind ≡ kind.Constant → ConstantL b a u → SpellsDecl limits a (m ∷ t ∷ u)
  constant_to m t j b a u mk mu tk (w, p, q, e, h, c) =
      let n = named w p q u e h in
      let v = valued (decl.Constant b w) a q c in
      re a (decl.Constant b n.token.span v.token.span) (m ∷ t ∷ u) (m ∷ t ∷ n.token ∷ v.colon ∷ v.token ∷ []) (v.is ∙ ap (λ (z : Span). decl.Constant b z v.token.span) n.span) (ap (λ (z : List Token). m ∷ t ∷ z) (n.text ∙ ap (λ (z : List Token). n.token ∷ z) v.text))
      (rule.constant m t n.token v.colon v.token j b mk mu tk n.is v.is_colon v.is_word)

  function_list : (m t : Token) (j : Kind) (b : Bool) (a : Decl) (w : Token) (u : List Token) (l : Token) (p : List Token) (r c v : Token) (ys : List Span) → m.kind ≡ j → IsMutability b j → t.kind ≡ kind.Function → w.kind ≡ kind.Word → l.kind ≡ kind.RoundLeft → r.kind ≡ kind.RoundRight → c.kind ≡ kind.Colon → v.kind ≡ kind.Word
      → Items never kind.Comma IsName ys p → a ≡ decl.Function b w.span ys v.span → u ≡ w ∷ l ∷ ((p ++ r ∷ []) ++ c ∷ v ∷ []) → SpellsDecl limits a (m ∷ t ∷ u)
  function_list m t j b a w u l p r c v [] mk mu tk wk lk rk ck vk h e f = absurd h
  function_list m t j b a w u l p r c v (y ∷ ys) mk mu tk wk lk rk ck vk h e f =
      re a (decl.Function b w.span (y ∷ ys) v.span) (m ∷ t ∷ u) (m ∷ t ∷ w ∷ ((l ∷ (p ++ r ∷ [])) ++ c ∷ v ∷ [])) e (ap (λ (z : List Token). m ∷ t ∷ z) f)
      (rule.function m t w c v j b y ys (l ∷ (p ++ r ∷ [])) mk mu tk wk (some_in IsName l (y ∷ ys) p r (p ++ r ∷ []) lk rk refl h) ck vk)

  function_to : (m t : Token) (j : Kind) (b : Bool) (a : Decl) (u : List Token) → m.kind ≡ j → IsMutability b j → t.kind ≡ kind.Function → FunctionL b a u → SpellsDecl limits a (m ∷ t ∷ u)
  function_to m t j b a u mk mu tk (w, p, q, e, h, c) =
      let n = named w p q u e h in
      let o = un_one kind.RoundLeft (λ _. Seq (SomeL IsName) (λ xs. SortOfL (decl.Function b w xs))) a q c in
      let g = o.is in
      let d = un_end (Items never kind.Comma IsName) kind.RoundRight (λ ys. ys) g.0 g.1 g.4 in
      let v = valued (decl.Function b w g.0) a g.2 g.5 in
      function_list m t j b a n.token u o.token d.inner d.token v.colon v.token d.value mk mu tk n.is o.kind d.kind v.is_colon v.is_word d.spells
      (v.is ∙ ap₂ (λ (z : Span) (ys : List Span). decl.Function b z ys v.token.span) n.span d.is)
      (n.text ∙ ap (λ (z : List Token). n.token ∷ z) (o.text ∙ ap (λ (z : List Token). o.token ∷ z) (g.3 ∙ ap₂ (λ (x y : List Token). x ++ y) d.text v.text)))

  symbol_to : (m : Token) (j : Kind) (b : Bool) (a : Decl) (u : List Token) → m.kind ≡ j → IsMutability b j → SymbolL b a u → SpellsDecl limits a (m ∷ u)
  symbol_to m j b a u mk mu (inl (_, _, t, q, e, k, (w, p, r, f, h, c))) = subst (λ (z : List Token). SpellsDecl limits a (m ∷ z)) (sym e) (args_to m t j b a w q r mk mu k (named w p r q f h) c)
  symbol_to m j b a u mk mu (inr (inl c)) = subst (λ (z : List Token). SpellsDecl limits a (m ∷ z)) (sym c.4) (constant_to m c.2 j b a c.3 mk mu c.5 c.6)
  symbol_to m j b a u mk mu (inr (inr h)) = let o = un_one kind.Function (λ _. FunctionL b) a u h in subst (λ (z : List Token). SpellsDecl limits a (m ∷ z)) (sym o.text) (function_to m o.token j b a o.rest mk mu o.kind o.is)

  label_to : (x : Unit {0}) (s : List Token) → LabelL x s → IsLabel s
  label_to x s (inl c) =
      let o = un_one kind.Word (λ _. Seq (OneOf kind.SquareRight) (λ _. Nothing tt)) x c.3 c.6 in
      let r = un_one kind.SquareRight (λ _. Nothing tt) x o.rest o.is in
      subst IsLabel (sym (c.4 ∙ ap (λ (z : List Token). c.2 ∷ z) (o.text ∙ ap (λ (z : List Token). o.token ∷ z) (r.text ∙ ap (λ (z : List Token). r.token ∷ z) r.is.1)))) (rule.IsLabel.label c.2 o.token r.token c.5 o.kind r.kind)
  label_to x s (inr h) = subst IsLabel (sym h.1) rule.IsLabel.none

  as_expr : (x : Found) (s : List Token) → Spelt (Fits limits) Exprs x s → IsExpr limits x.tree s
  as_expr x s h = record { ends_open = x.ends_open; depth = h.depth; height = x.height; spells = h.spells; fits = h.fits }

  claim_as : (t : Token) (j : Kind) (make : Expr → Decl) (a : Decl) (u : List Token) → t.kind ≡ j → IsClaim j make → MakesL (Fits limits) make a u → SpellsDecl limits a (t ∷ u)
  claim_as t j make a u k c h =
      let l = un_last (LabelledL (Fits limits)) make a u h in
      let g = l.spells in
      let x = un_last (Spelt (Fits limits) Exprs) (λ x. x.tree) l.value g.2 g.5 in
      re a (make x.value.tree) (t ∷ u) (t ∷ (g.1 ++ g.2)) (l.is ∙ ap make x.is) (ap (λ (z : List Token). t ∷ z) g.3) (rule.claim t j make x.value.tree g.1 g.2 k c (label_to g.0 g.1 g.4) (as_expr x.value g.2 x.spells))

  modifies_to : (ns : List Span) (s : List Token) → ModifiesL ns s → IsModifies ns s
  modifies_to ns s (inl c) = subst (IsModifies ns) (sym c.4) (rule.IsModifies.modifies c.2 ns c.3 c.5 (items_separated kind.Comma IsName ns c.3 c.6))
  modifies_to ns s (inr h) = subst (λ (z : List Span). IsModifies z s) (sym h.0) (subst (IsModifies []) (sym h.1) rule.IsModifies.none)

  transition_to : (t : Token) (a : Decl) (u : List Token) → t.kind ≡ kind.Transition → TransitionL (Fits limits) a u → SpellsDecl limits a (t ∷ u)
  transition_to t a u k (w, p, q, e, h, c) =
      let n = named w p q u e h in
      let o = un_one kind.RoundLeft (λ _. Seq (ClosedL IsBound) (StepL (Fits limits) w)) a q c in
      let g = o.is in
      let m = g.5 in
      let x = un_last (Spelt (Fits limits) Exprs) (λ x. decl.Transition w g.0 m.0 x.tree) a m.2 m.5 in
      re a (decl.Transition n.token.span g.0 m.0 x.value.tree) (t ∷ u) (t ∷ n.token ∷ ((o.token ∷ g.1) ++ (m.1 ++ m.2))) (x.is ∙ ap (λ (z : Span). decl.Transition z g.0 m.0 x.value.tree) n.span)
      (ap (λ (z : List Token). t ∷ z) (n.text ∙ ap (λ (z : List Token). n.token ∷ z) (o.text ∙ ap (λ (z : List Token). o.token ∷ z) (g.3 ∙ ap (λ (z : List Token). g.1 ++ z) m.3))))
      (rule.transition t n.token g.0 m.0 x.value.tree (o.token ∷ g.1) m.1 m.2 k n.is (closed_in IsBound o.token g.0 g.1 o.kind g.4) (modifies_to m.0 m.1 m.4) (as_expr x.value m.2 x.spells))

  trace_to : (v : Token) (a : Decl) (u : List Token) → (v.kind ≡ kind.Sat) ⊎ (v.kind ≡ kind.Unsat) → TraceL a u → SpellsDecl limits a (v ∷ u)
  trace_to v a u k h =
      let t = un_one kind.Trace (λ _. Seq (OneOf kind.CurlyLeft) (λ _. Seq (ClosesL 0) (λ _. Nothing decl.Trace))) a u h in
      let l = un_one kind.CurlyLeft (λ _. Seq (ClosesL 0) (λ _. Nothing decl.Trace)) a t.rest t.is in
      let c = un_last (ClosesL 0) (λ _. decl.Trace) a l.rest l.is in
      let s = split (length l.rest) c.spells (omega arith) in
      re a decl.Trace (v ∷ u) (v ∷ t.token ∷ l.token ∷ (s.inner ++ s.token ∷ [])) c.is (ap (λ (z : List Token). v ∷ z) (t.text ∙ ap (λ (z : List Token). t.token ∷ z) (l.text ∙ ap (λ (z : List Token). l.token ∷ z) (s.text ∙ ap (λ (z : List Token). s.inner ++ s.token ∷ z) s.then))))
      (rule.trace v t.token l.token s.token s.inner k t.kind l.kind s.closing s.balanced)

  moved : (a : Decl) (s u : List Token) → s ≡ u → SpellsDecl limits a u → SpellsDecl limits a s
  moved a s u e h = subst (SpellsDecl limits a) (sym e) h

  pub decl_to : (a : Decl) (s : List Token) → DeclL (Fits limits) a s → SpellsDecl limits a s
  decl_to a s (inl c) = moved a s (c.2 ∷ c.3) c.4 (sort_to c.2 a c.3 c.5 c.6)
  decl_to a s (inr (inl c)) = moved a s (c.2 ∷ c.3) c.4 (symbol_to c.2 kind.Mutable true a c.3 c.5 rule.IsMutability.mutable c.6)
  decl_to a s (inr (inr (inl c))) = moved a s (c.2 ∷ c.3) c.4 (symbol_to c.2 kind.Immutable false a c.3 c.5 rule.IsMutability.immutable c.6)
  decl_to a s (inr (inr (inr (inl c)))) = moved a s (c.2 ∷ c.3) c.4 (transition_to c.2 a c.3 c.5 c.6)
  decl_to a s (inr (inr (inr (inr (inl c))))) = moved a s (c.2 ∷ c.3) c.4 (trace_to c.2 a c.3 (inl c.5) c.6)
  decl_to a s (inr (inr (inr (inr (inr (inl c)))))) = moved a s (c.2 ∷ c.3) c.4 (trace_to c.2 a c.3 (inr c.5) c.6)
  decl_to a s (inr (inr (inr (inr (inr (inr (inl c))))))) = moved a s (c.2 ∷ c.3) c.4 (claim_as c.2 kind.Axiom decl.Axiom a c.3 c.5 rule.IsClaim.axiom_ c.6)
  decl_to a s (inr (inr (inr (inr (inr (inr (inr (inl c)))))))) = moved a s (c.2 ∷ c.3) c.4 (claim_as c.2 kind.Init decl.Init a c.3 c.5 rule.IsClaim.init c.6)
  decl_to a s (inr (inr (inr (inr (inr (inr (inr (inr (inl c))))))))) = moved a s (c.2 ∷ c.3) c.4 (claim_as c.2 kind.Safety decl.Safety a c.3 c.5 rule.IsClaim.safety c.6)
  decl_to a s (inr (inr (inr (inr (inr (inr (inr (inr (inr h))))))))) = let o = un_one kind.Invariant (λ _. MakesL (Fits limits) decl.Invariant) a s h in moved a s (o.token ∷ o.rest) o.text (claim_as o.token kind.Invariant decl.Invariant a o.rest o.kind rule.IsClaim.invariant o.is)

  -- ---- the other way

  as_found : (x : Expr) (s : List Token) (h : IsExpr limits x s) → Spelt (Fits limits) Exprs (found x h.ends_open h.height) s
  as_found x s h = record { depth = h.depth; fits = h.fits; spells = h.spells }

  with_symbol : (m : Token) (j : Kind) (b : Bool) (a : Decl) (u : List Token) → m.kind ≡ j → IsMutability b j → SymbolL b a u → DeclL (Fits limits) a (m ∷ u)
  with_symbol m j _ a u k rule.IsMutability.mutable h = inr (inl (refl, refl, m, u, refl, k, h))
  with_symbol m j _ a u k rule.IsMutability.immutable h = inr (inr (inl (refl, refl, m, u, refl, k, h)))

  label_from : (s : List Token) → IsLabel s → LabelL tt s
  label_from s rule.IsLabel.none = inr (refl, refl)
  label_from s (rule.IsLabel.label l t r lk tk rk) = inl (refl, refl, l, t ∷ r ∷ [], refl, lk, mk_one kind.Word (λ _. Seq (OneOf kind.SquareRight) (λ _. Nothing tt)) tt t (r ∷ []) tk (mk_one kind.SquareRight (λ _. Nothing tt) tt r [] rk (refl, refl)))

  makes_from : (make : Expr → Decl) (x : Expr) (p s : List Token) → IsLabel p → IsExpr limits x s → MakesL (Fits limits) make (make x) (p ++ s)
  makes_from make x p s l h =
      let body = mk_last (Spelt (Fits limits) Exprs) (λ z. z.tree) (found x h.ends_open h.height) s (as_found x s h) in
      let both : LabelledL (Fits limits) x (p ++ s) = (tt, p, s, refl, label_from p l, body) in
      mk_last (LabelledL (Fits limits)) make x (p ++ s) both

  claim_by : (t : Token) (j : Kind) (make : Expr → Decl) (x : Expr) (u : List Token) → t.kind ≡ j → IsClaim j make → MakesL (Fits limits) make (make x) u → DeclL (Fits limits) (make x) (t ∷ u)
  claim_by t j _ x u k rule.IsClaim.axiom_ h = inr (inr (inr (inr (inr (inr (inl (refl, refl, t, u, refl, k, h)))))))
  claim_by t j _ x u k rule.IsClaim.init h = inr (inr (inr (inr (inr (inr (inr (inl (refl, refl, t, u, refl, k, h))))))))
  claim_by t j _ x u k rule.IsClaim.safety h = inr (inr (inr (inr (inr (inr (inr (inr (inl (refl, refl, t, u, refl, k, h)))))))))
  claim_by t j _ x u k rule.IsClaim.invariant h = inr (inr (inr (inr (inr (inr (inr (inr (inr (mk_one kind.Invariant (λ _. MakesL (Fits limits) decl.Invariant) (decl.Invariant x) t u k h)))))))))

  modifies_from : (ns : List Span) (s : List Token) → IsModifies ns s → ModifiesL ns s
  modifies_from _ s rule.IsModifies.none = inr (refl, refl)
  modifies_from _ _ (rule.IsModifies.modifies t ns s k h) = inl (refl, refl, t, s, refl, k, separated_items kind.Comma IsName ns s h)

  sort_of_from : (make : Span → Decl) (c r : Token) → c.kind ≡ kind.Colon → r.kind ≡ kind.Word → SortOfL make (make r.span) (c ∷ r ∷ [])
  sort_of_from make c r ck rk = mk_one kind.Colon (λ _. Seq IsName (λ s. Nothing (make s))) (make r.span) c (r ∷ []) ck (mk_last IsName make r.span (r ∷ []) (rule.IsName.name r rk))

  trace_from : (t l r : Token) (s : List Token) → t.kind ≡ kind.Trace → l.kind ≡ kind.CurlyLeft → r.kind ≡ kind.CurlyRight → IsBalanced s → TraceL decl.Trace (t ∷ l ∷ (s ++ r ∷ []))
  trace_from t l r s tk lk rk h =
      mk_one kind.Trace (λ _. Seq (OneOf kind.CurlyLeft) (λ _. Seq (ClosesL 0) (λ _. Nothing decl.Trace))) decl.Trace t (l ∷ (s ++ r ∷ [])) tk
      (mk_one kind.CurlyLeft (λ _. Seq (ClosesL 0) (λ _. Nothing decl.Trace)) decl.Trace l (s ++ r ∷ []) lk (mk_last (ClosesL 0) (λ _. decl.Trace) tt (s ++ r ∷ []) (closes_behind h 0 (r ∷ []) (curly.end r rk))))

  pub decl_from : {a : Decl} {s : List Token} → SpellsDecl limits a s → DeclL (Fits limits) a s
  decl_from (rule.sort t w tk wk) = inl (refl, refl, t, w ∷ [], refl, tk, mk_last IsName decl.Sort w.span (w ∷ []) (rule.IsName.name w wk))
  decl_from (rule.fact m t w j b mk mu tk wk) = with_symbol m j b (decl.Relation b w.span []) (t ∷ w ∷ []) mk mu (inl (refl, refl, t, w ∷ [], refl, tk, (w.span, w ∷ [], [], refl, rule.IsName.name w wk, inr (refl, refl))))
  decl_from (rule.relation m t w j b args s mk mu tk wk h) =
      let o = in_closed IsName args s h in
      let tail : ArgsL b w.span (decl.Relation b w.span args) s = inl (refl, refl, o.token, o.rest, o.text, o.opening, mk_last (ClosedL IsName) (decl.Relation b w.span) args o.rest o.is) in
      with_symbol m j b (decl.Relation b w.span args) (t ∷ w ∷ s) mk mu (inl (refl, refl, t, w ∷ s, refl, tk, (w.span, w ∷ [], s, refl, rule.IsName.name w wk, tail)))
  decl_from (rule.constant m t w c r j b mk mu tk wk ck rk) =
      with_symbol m j b (decl.Constant b w.span r.span) (t ∷ w ∷ c ∷ r ∷ []) mk mu (inr (inl (refl, refl, t, w ∷ c ∷ r ∷ [], refl, tk, (w.span, w ∷ [], c ∷ r ∷ [], refl, rule.IsName.name w wk, sort_of_from (decl.Constant b w.span) c r ck rk))))
  decl_from (rule.function m t w c r j b y ys s mk mu tk wk h ck rk) =
      let o = in_some IsName y ys s h in
      let last : Seq (SomeL IsName) (λ xs. SortOfL (decl.Function b w.span xs)) (decl.Function b w.span (y ∷ ys) r.span) (o.rest ++ c ∷ r ∷ []) = (y ∷ ys, o.rest, c ∷ r ∷ [], refl, o.is, sort_of_from (decl.Function b w.span (y ∷ ys)) c r ck rk) in
      let tail : ValuesL b w.span (decl.Function b w.span (y ∷ ys) r.span) (s ++ c ∷ r ∷ []) = subst (λ (z : List Token). ValuesL b w.span (decl.Function b w.span (y ∷ ys) r.span) (z ++ c ∷ r ∷ [])) (sym o.text) (mk_one kind.RoundLeft (λ _. Seq (SomeL IsName) (λ xs. SortOfL (decl.Function b w.span xs))) (decl.Function b w.span (y ∷ ys) r.span) o.token (o.rest ++ c ∷ r ∷ []) o.opening last) in
      let all : FunctionL b (decl.Function b w.span (y ∷ ys) r.span) (w ∷ (s ++ c ∷ r ∷ [])) = (w.span, w ∷ [], s ++ c ∷ r ∷ [], refl, rule.IsName.name w wk, tail) in
      with_symbol m j b (decl.Function b w.span (y ∷ ys) r.span) (t ∷ w ∷ (s ++ c ∷ r ∷ [])) mk mu (inr (inr (mk_one kind.Function (λ _. FunctionL b) (decl.Function b w.span (y ∷ ys) r.span) t (w ∷ (s ++ c ∷ r ∷ [])) tk all)))
  decl_from (rule.claim t j make x p s k c l h) = claim_by t j make x (p ++ s) k c (makes_from make x p s l h)
  decl_from (rule.transition t w ps ns x p q s tk wk h i j) =
      let o = in_closed IsBound ps p h in
      let body = mk_last (Spelt (Fits limits) Exprs) (λ z. decl.Transition w.span ps ns z.tree) (found x j.ends_open j.height) s (as_found x s j) in
      let step : StepL (Fits limits) w.span ps (decl.Transition w.span ps ns x) (q ++ s) = (ns, q, s, refl, modifies_from ns q i, body) in
      let args : Seq (ClosedL IsBound) (StepL (Fits limits) w.span) (decl.Transition w.span ps ns x) (o.rest ++ (q ++ s)) = (ps, o.rest, q ++ s, refl, o.is, step) in
      let tail : Seq (OneOf kind.RoundLeft) (λ _. Seq (ClosedL IsBound) (StepL (Fits limits) w.span)) (decl.Transition w.span ps ns x) (p ++ (q ++ s)) =
      subst (λ (z : List Token). Seq (OneOf kind.RoundLeft) (λ _. Seq (ClosedL IsBound) (StepL (Fits limits) w.span)) (decl.Transition w.span ps ns x) (z ++ (q ++ s))) (sym o.text) (mk_one kind.RoundLeft (λ _. Seq (ClosedL IsBound) (StepL (Fits limits) w.span)) (decl.Transition w.span ps ns x) o.token (o.rest ++ (q ++ s)) o.opening args) in
      let all : TransitionL (Fits limits) (decl.Transition w.span ps ns x) (w ∷ (p ++ (q ++ s))) = (w.span, w ∷ [], p ++ (q ++ s), refl, rule.IsName.name w wk, tail) in
      inr (inr (inr (inl (refl, refl, t, w ∷ (p ++ (q ++ s)), refl, tk, all))))
  decl_from (rule.trace v t l r s (inl k) tk lk rk h) = inr (inr (inr (inr (inl (refl, refl, v, t ∷ l ∷ (s ++ r ∷ []), refl, k, trace_from t l r s tk lk rk h)))))
  decl_from (rule.trace v t l r s (inr k) tk lk rk h) = inr (inr (inr (inr (inr (inl (refl, refl, v, t ∷ l ∷ (s ++ r ∷ []), refl, k, trace_from t l r s tk lk rk h))))))

pub exact_decl : (n v : ℕ) → Exact (decl_at (read n v Exprs)) AfterDecl (SpellsDecl (Within n v)) (SpellsDecl Endless)
exact_decl n v = exact_as (decl_at (read n v Exprs)) AfterDecl (DeclL (Fits (Within n v))) (DeclL (Fits Endless)) (SpellsDecl (Within n v)) (SpellsDecl Endless) (decl_to (Within n v)) (λ a s h. decl_from (Within n v) h) (decl_to Endless)
    (exact_decl_as (Fits (Within n v)) (Fits Endless) (read n v Exprs) (exact_read n v Exprs))

-- Each form of an expression is read exactly.
use Rattle.std.proofs.Common.{◌≡◌, ℕ, zero, suc, ◌+◌, ◌-◌, ◌<◌, ◌≤◌, max, Bool, true, false, cond, List, [], ◌∷◌, ◌++◌, length, map, Option, Some, None, refl, sym, ap, ap₂, subst, ◌∙◌, ◌⊎◌, inl, inr, append_assoc, arith}
use Rattle.std.proofs.lemmas.List.{append-nil}
use Rattle.std.proofs.lemmas.Bool.{ltb-true, lt-ltb}
use Rattle.std.specs.Prelude.{nat_lt}
use Rattle.pv_base.specs.declared.Span.{Span}
use Rattle.pyv_lex.specs.declared.token.Kind.{Kind}
use Rattle.pyv_lex.specs.declared.token.Kind.TheVariants as kind
use Rattle.pyv_lex.specs.declared.token.Token.{Token}
use Rattle.pyv_grammar.specs.declared.tree.Bound.{Bound}
use Rattle.pyv_grammar.specs.declared.tree.Expr.{Expr}
use Rattle.pyv_grammar.specs.declared.tree.Expr.TheVariants as expr
use Rattle.pyv_grammar.specs.declared.reading.Found.{Found}
use Rattle.pyv_grammar.specs.Grammar.{Level, Atom, Unary, Ands, Ors, Imps, Exprs, Shape, One, Members, IsLead, Between, Spells, Separated, IsName, IsBound}
use Rattle.pyv_grammar.specs.Grammar as rule
use Rattle.pyv_grammar.specs.Reading.{Reader, eat, skip, on, found, trees, last_open, heights, give, refuse, and_then, sign, try, opens, wants, never, listed, some_list, closed_list, name_at, bound_at, all_separated, ends_open, node_of, joined, named_at, new_at, distinct_at, bracketed_at, atom_at, equality, comparison_at, negation_at, binding_at, quantified_at, conditional_at, unary_at, imp_at, expr_at}
use Rattle.pyv_grammar.proofs.Eat.{eat-here, eat-other}
use Rattle.pyv_grammar.proofs.Exact.{Lang, After, Begins, Items, AfterItems, Exact, Sure, Always, OneOf, a_token, is_kind, a_kind, exact_wants, Nothing, exact_give, Seq, begins_first, exact_then, sure_then, Sign, exact_sign, sure_sign, Never, exact_refuse, exact_as, exact_before, some_items, exact_items}
use Rattle.pyv_grammar.proofs.Spelt.{From, from_token, from_less, from_front, eat-from, start, starts_at, starts, rank, rank_of, holds_at, bound, AfterLevel, bound_least, bound_most, tighter, eat-past, closed_follows, ends_all, Spelt, Any, In, Under, Inside, Room, any_room, both_under, a_word, SpeltMembers, members_to, Found_as, members_from}

-- ---- sequences, flat

pub record First {B : Type 0} (k : Kind) (K : Token → Lang B) (b : B) (s : List Token) : Type 0 where
  pub token : Token
  pub rest : List Token
  pub text : s ≡ token ∷ rest
  pub kind : token.kind ≡ k
  pub is : K token b rest

pub un_one : {B : Type 0} (k : Kind) (K : Token → Lang B) (b : B) (s : List Token) → Seq (OneOf k) K b s → First k K b s
un_one k K b s h = record { token = h.0; rest = h.2; text = h.3 ∙ ap (λ (l : List Token). l ++ h.2) h.4.1; kind = h.4.0; is = h.5 }

pub mk_one : {B : Type 0} (k : Kind) (K : Token → Lang B) (b : B) (t : Token) (s : List Token) → t.kind ≡ k → K t b s → Seq (OneOf k) K b (t ∷ s)
mk_one k K b t s e h = (t, t ∷ [], s, refl, (e, refl), h)

pub record Last {A B : Type 0} (L : Lang A) (g : A → B) (b : B) (s : List Token) : Type 0 where
  pub value : A
  pub is : b ≡ g value
  pub spells : L value s

pub un_last : {A B : Type 0} (L : Lang A) (g : A → B) (b : B) (s : List Token) → Seq L (λ a. Nothing (g a)) b s → Last L g b s
un_last L g b s h = record { value = h.0; is = h.5.0; spells = subst (L h.0) (sym (h.3 ∙ ap (λ (l : List Token). h.1 ++ l) h.5.1 ∙ append-nil h.1)) h.4 }

pub mk_last : {A B : Type 0} (L : Lang A) (g : A → B) (a : A) (s : List Token) → L a s → Seq L (λ a. Nothing (g a)) (g a) s
mk_last L g a s h = (a, s, [], sym (append-nil s), h, (refl, refl))

pub record Ended {A B : Type 0} (L : Lang A) (k : Kind) (g : A → B) (b : B) (s : List Token) : Type 0 where
  pub value : A
  pub inner : List Token
  pub token : Token
  pub text : s ≡ inner ++ token ∷ []
  pub kind : token.kind ≡ k
  pub is : b ≡ g value
  pub spells : L value inner

pub un_end : {A B : Type 0} (L : Lang A) (k : Kind) (g : A → B) (b : B) (s : List Token) → Seq L (λ a. Seq (OneOf k) (λ _. Nothing (g a))) b s → Ended L k g b s
un_end L k g b s h =
    let o = un_one k (λ _. Nothing (g h.0)) b h.2 h.5 in
    record { value = h.0; inner = h.1; token = o.token; text = h.3 ∙ ap (λ (l : List Token). h.1 ++ l) (o.text ∙ ap (λ (l : List Token). o.token ∷ l) o.is.1); kind = o.kind; is = o.is.0; spells = h.4 }

pub mk_end : {A B : Type 0} (L : Lang A) (k : Kind) (g : A → B) (a : A) (s : List Token) (t : Token) → t.kind ≡ k → L a s → Seq L (λ a. Seq (OneOf k) (λ _. Nothing (g a))) (g a) (s ++ t ∷ [])
mk_end L k g a s t e h = (a, s, t ∷ [], refl, h, mk_one k (λ _. Nothing (g a)) (g a) t [] e (refl, refl))

-- ---- a sequence of readers, where the first may be followed by anything

pub then_any : {A B : Type 0} (f : Reader A) (g : A → Reader B) (E : After B) (L M : Lang A) (K N : A → Lang B) → Sure f Always L M → ((a : A) → Sure (g a) E (K a) (N a)) → Sure (and_then f g) E (Seq L K) (Seq M N)
then_any f g E L M K N x y = sure_then f g Always E L M K N x.exact y (λ _ _ _ _ _ _. tt) x.some

-- an end that is one token
pub exact_end : {A B : Type 0} (f : Reader A) (k : Kind) (g : A → B) (E : After A) (D : After B) (L M : Lang A) → Sure f E L M → ((a : A) (t : Token) (r : List Token) → t.kind ≡ k → E a (t ∷ r)) → Sure (and_then f (λ a. and_then (wants k) (λ _. give (g a)))) D (Seq L (λ a. Seq (OneOf k) (λ _. Nothing (g a)))) (Seq M (λ a. Seq (OneOf k) (λ _. Nothing (g a))))
exact_end f k g E D L M x after =
    sure_then f _ E D L M (λ a. Seq (OneOf k) (λ _. Nothing (g a))) (λ a. Seq (OneOf k) (λ _. Nothing (g a))) x.exact (λ a. then_any (wants k) _ D (OneOf k) (OneOf k) (λ _. Nothing (g a)) (λ _. Nothing (g a)) (exact_wants k) (λ _. exact_give (g a) D))
    (λ a b s rest h e. let o = un_one k (λ _. Nothing (g a)) b s h in subst (E a) (sym (ap (λ (l : List Token). l ++ rest) o.text)) (after a o.token (o.rest ++ rest) o.kind)) x.some

pub exact_last : {A B : Type 0} (f : Reader A) (g : A → B) (E : After A) (D : After B) (L M : Lang A) → Sure f E L M → ((a : A) (rest : List Token) → D (g a) rest → E a rest) → Sure (and_then f (λ a. give (g a))) D (Seq L (λ a. Nothing (g a))) (Seq M (λ a. Nothing (g a)))
exact_last f g E D L M x after =
    sure_then f _ E D L M (λ a. Nothing (g a)) (λ a. Nothing (g a)) x.exact (λ a. exact_give (g a) D) (λ a b s rest h e. subst (E a) (sym (ap (λ (l : List Token). l ++ rest) h.1)) (after a rest (subst (λ z. D z rest) h.0 e))) x.some

-- ---- chains

pub sign_from : {A : Type 0} (num : Kind → ℕ) (n : ℕ) (o b : Bool) (k : Kind) (F : Token → Lang A) (G : Lang A) → n ≤ num k → ((a : A) (s : List Token) → G a s → From num n s) → (a : A) (s : List Token) → Sign o b k F G a s → From num n s
sign_from num n o b k F G le h a s (inl t) = subst (From num n) (sym t.4) (from_token num t.2 k n t.5 le)
sign_from num n o b k F G le h a s (inr g) = h a s g

pub other_from : {A : Type 0} (num : Kind → ℕ) (n : ℕ) (k : Kind) (E : After A) (G : Lang A) → num k < n → ((a : A) (s : List Token) → G a s → From num n s) → (a : A) (s rest : List Token) → G a s → E a rest → eat k (s ++ rest) ≡ None
other_from num n k E G lt h a s rest g e = eat-from num n k s rest (h a s g) lt

pub here : {A : Type 0} (b : Bool) (k : Kind) (F : Token → Lang A) (G : Lang A) (a : A) (t : Token) (s : List Token) → b ≡ true → t.kind ≡ k → F t a s → Sign false b k F G a (t ∷ s)
here b k F G a t s e q h = inl (refl, e, t, s, refl, q, h)

-- ---- lists

abbrev pub SomeL : {A : Type 0} → Lang A → Lang (List A)
SomeL L = Seq (Items never kind.Comma L) (λ xs. Seq (OneOf kind.RoundRight) (λ _. Nothing xs))

abbrev pub ClosedL : {A : Type 0} → Lang A → Lang (List A)
ClosedL L = Sign false true kind.RoundRight (λ _. Nothing []) (SomeL L)

pub some_some : {A : Type 0} (L : Lang A) → Begins L [] → Begins (SomeL L) []
some_some L b = record { rest = b.rest ++ a_token kind.RoundRight ∷ []; value = b.value ∷ []; is = mk_end (Items never kind.Comma L) kind.RoundRight (λ xs. xs) (b.value ∷ []) b.rest (a_token kind.RoundRight) (is_kind kind.RoundRight) b.is }

pub some_closed : {A : Type 0} (L : Lang A) → Begins (ClosedL L) []
some_closed L = record { rest = a_token kind.RoundRight ∷ []; value = []; is = here true kind.RoundRight (λ _. Nothing []) (SomeL L) [] (a_token kind.RoundRight) [] refl (is_kind kind.RoundRight) (refl, refl) }

module _ {A : Type 0} (f : Reader A) (E : After A) (L M : Lang A) (x : Sure f E L M) (after : (a : A) (t : Token) (r : List Token) → (t.kind ≡ kind.Comma) ⊎ (t.kind ≡ kind.RoundRight) → E a (t ∷ r)) where
  pub exact_listed : Sure (listed f) (AfterItems never kind.Comma E) (Items never kind.Comma L) (Items never kind.Comma M)
  exact_listed = record {
    exact = exact_items never kind.Comma f E L M x.exact x.some (λ a t r o k. after a t r (inl k));
    some = some_items never kind.Comma f E L M x.exact x.some (λ a t r o k. after a t r (inl k));
  }

  after_list : (xs : List A) (t : Token) (r : List Token) → t.kind ≡ kind.RoundRight → AfterItems never kind.Comma E xs (t ∷ r)
  after_list [] t r k = tt
  after_list (a ∷ []) t r k = (after a t r (inr k), λ q. eat-other kind.Comma t r (λ (c : t.kind ≡ kind.Comma). absurd cc))
  after_list (a ∷ b ∷ xs) t r k = after_list (b ∷ xs) t r k

  pub exact_some_list : (D : After (List A)) → Sure (some_list f) D (SomeL L) (SomeL M)
  unfolding some_list
  exact_some_list D = exact_end (listed f) kind.RoundRight (λ xs. xs) (AfterItems never kind.Comma E) D (Items never kind.Comma L) (Items never kind.Comma M) exact_listed after_list

  module _ (num : Kind → ℕ) (n : ℕ) (low : num kind.RoundRight < n) (begins : (a : A) (s : List Token) → L a s → From num n s) where
    items_from : (xs : List A) (s : List Token) → Items never kind.Comma L xs s → From num n s
    items_from [] s h = absurd h
    items_from (a ∷ []) s h = begins a s h
    items_from (a ∷ b ∷ xs) s h = subst (From num n) (sym h.3) (from_front num n h.0 (h.1 ∷ h.2) (begins a h.0 h.4))

    some_from : (xs : List A) (s : List Token) → SomeL L xs s → From num n s
    some_from xs s h = subst (From num n) (sym h.3) (from_front num n h.1 h.2 (items_from h.0 h.1 h.4))

    pub exact_closed_list : (D : After (List A)) → Sure (closed_list f) D (ClosedL L) (ClosedL M)
    unfolding closed_list
    exact_closed_list D = record {
      exact = exact_sign false true kind.RoundRight (λ _. give []) (some_list f) D (λ _. Nothing []) (λ _. Nothing []) (SomeL L) (SomeL M) (λ _ _. exact_give [] D) (λ _. (exact_give [] D).some) (exact_some_list D).exact
          (λ _. other_from num n kind.RoundRight D (SomeL L) low some_from);
      some = some_closed L;
    }

-- ---- names

name_to : (a : Span) (s : List Token) → Seq (OneOf kind.Word) (λ t. Nothing t.span) a s → IsName a s
name_to a s h =
    let o = un_one kind.Word (λ t. Nothing t.span) a s h in
    subst (λ z. IsName z s) (sym o.is.0) (subst (IsName o.token.span) (sym (o.text ∙ ap (λ (l : List Token). o.token ∷ l) o.is.1)) (rule.IsName.name o.token o.kind))

name_from : (a : Span) (s : List Token) → IsName a s → Seq (OneOf kind.Word) (λ t. Nothing t.span) a s
name_from a s (rule.IsName.name t k) = mk_one kind.Word (λ t. Nothing t.span) t.span t [] k (refl, refl)

pub exact_name : (D : After Span) → Sure name_at D IsName IsName
unfolding name_at
exact_name D = record {
  exact = exact_as name_at D _ _ IsName IsName name_to name_from name_to (then_any (wants kind.Word) (λ t. give t.span) D (OneOf kind.Word) (OneOf kind.Word) (λ t. Nothing t.span) (λ t. Nothing t.span) (exact_wants kind.Word) (λ t. exact_give t.span D)).exact;
  some = record { rest = a_token kind.Word ∷ []; value = (a_token kind.Word).span; is = rule.IsName.name (a_token kind.Word) (is_kind kind.Word) };
}

abbrev BoundL : Lang Bound
BoundL = Seq (OneOf kind.Word) (λ t. Sign false true kind.Colon (λ _. Seq IsName (λ s. Nothing (record { name = t.span; sort = Some s }))) (Nothing (record { name = t.span; sort = None })))

sorted_is : (a : Bound) (s : List Token) (t c : Token) (u : List Token) (v : Span) → s ≡ t ∷ c ∷ u → t.kind ≡ kind.Word → c.kind ≡ kind.Colon → a ≡ record { name = t.span; sort = Some v } → IsName v u → IsBound a s
sorted_is a s t c _ _ e k l q (rule.IsName.name w m) = subst (λ z. IsBound z s) (sym q) (subst (IsBound (record { name = t.span; sort = Some w.span })) (sym e) (rule.IsBound.sorted t c w k l m))

bound_to : (a : Bound) (s : List Token) → BoundL a s → IsBound a s
bound_to a s h = elim (un_one kind.Word (λ t. Sign false true kind.Colon (λ _. Seq IsName (λ s. Nothing (record { name = t.span; sort = Some s }))) (Nothing (record { name = t.span; sort = None }))) a s h).is [
  | inl c ↦
      let o = un_one kind.Word (λ t. Sign false true kind.Colon (λ _. Seq IsName (λ s. Nothing (record { name = t.span; sort = Some s }))) (Nothing (record { name = t.span; sort = None }))) a s h in
      let l = un_last IsName (λ s. record { name = o.token.span; sort = Some s }) a c.3 c.6 in
      sorted_is a s o.token c.2 c.3 l.value (o.text ∙ ap (λ (l : List Token). o.token ∷ l) c.4) o.kind c.5 l.is l.spells
  | inr n ↦
      let o = un_one kind.Word (λ t. Sign false true kind.Colon (λ _. Seq IsName (λ s. Nothing (record { name = t.span; sort = Some s }))) (Nothing (record { name = t.span; sort = None }))) a s h in
      subst (λ z. IsBound z s) (sym n.0) (subst (IsBound (record { name = o.token.span; sort = None })) (sym (o.text ∙ ap (λ (l : List Token). o.token ∷ l) n.1)) (rule.IsBound.bare o.token o.kind))
]

bound_from : (a : Bound) (s : List Token) → IsBound a s → BoundL a s
bound_from a s (rule.IsBound.bare t k) = mk_one kind.Word (λ t. Sign false true kind.Colon (λ _. Seq IsName (λ s. Nothing (record { name = t.span; sort = Some s }))) (Nothing (record { name = t.span; sort = None }))) a t [] k (inr (refl, refl))
bound_from a s (rule.IsBound.sorted t c w k l m) =
    mk_one kind.Word (λ t. Sign false true kind.Colon (λ _. Seq IsName (λ s. Nothing (record { name = t.span; sort = Some s }))) (Nothing (record { name = t.span; sort = None }))) a t (c ∷ w ∷ []) k
    (here true kind.Colon (λ _. Seq IsName (λ s. Nothing (record { name = t.span; sort = Some s }))) (Nothing (record { name = t.span; sort = None })) a c (w ∷ []) refl l (mk_last IsName (λ s. record { name = t.span; sort = Some s }) w.span (w ∷ []) (rule.IsName.name w m)))

abbrev pub NoColon : After Bound
NoColon a rest = eat kind.Colon rest ≡ None

pub exact_bound : Sure bound_at NoColon IsBound IsBound
unfolding bound_at
exact_bound = record {
  exact = exact_as bound_at NoColon BoundL BoundL IsBound IsBound bound_to bound_from bound_to
      (then_any (wants kind.Word) _ NoColon (OneOf kind.Word) (OneOf kind.Word) _ _ (exact_wants kind.Word)
      (λ t. sure_sign false true kind.Colon (λ _. and_then name_at (λ s. give (record { name = t.span; sort = Some s }))) (give (record { name = t.span; sort = None })) NoColon
      (λ _. Seq IsName (λ s. Nothing (record { name = t.span; sort = Some s }))) (λ _. Seq IsName (λ s. Nothing (record { name = t.span; sort = Some s }))) (Nothing (record { name = t.span; sort = None })) (Nothing (record { name = t.span; sort = None }))
      (λ _ _. exact_last name_at (λ s. record { name = t.span; sort = Some s }) Always NoColon IsName IsName (exact_name Always) (λ _ _ _. tt))
      (λ _. (exact_last name_at (λ s. record { name = t.span; sort = Some s }) Always NoColon IsName IsName (exact_name Always) (λ _ _ _. tt)).some)
      (exact_give (record { name = t.span; sort = None }) NoColon).exact (λ _ a s rest h e. ap (λ (l : List Token). eat kind.Colon (l ++ rest)) h.1 ∙ e) (exact_give (record { name = t.span; sort = None }) NoColon).some)).exact;
  some = record { rest = a_token kind.Word ∷ []; value = record { name = (a_token kind.Word).span; sort = None }; is = rule.IsBound.bare (a_token kind.Word) (is_kind kind.Word) };
}

-- ---- separated lists

pub items_separated : {A : Type 0} (k : Kind) (L : Lang A) (xs : List A) (s : List Token) → Items never k L xs s → Separated k L xs s
items_separated k L [] s h = h
items_separated k L (x ∷ []) s h = h
items_separated k L (x ∷ y ∷ ys) s h = (h.0, h.1, h.2, h.3, h.4, h.5, items_separated k L (y ∷ ys) h.2 h.7)

pub separated_items : {A : Type 0} (k : Kind) (L : Lang A) (xs : List A) (s : List Token) → Separated k L xs s → Items never k L xs s
separated_items k L [] s h = h
separated_items k L (x ∷ []) s h = h
separated_items k L (x ∷ y ∷ ys) s h = (h.0, h.1, h.2, h.3, h.4, h.5, refl, separated_items k L (y ∷ ys) h.2 h.6)

-- What each level reads is what the grammar spells there.
use Rattle.std.proofs.Common.{◌≡◌, ℕ, zero, suc, ◌+◌, ◌-◌, ◌<◌, ◌≤◌, max, Bool, true, false, cond, List, [], ◌∷◌, ◌++◌, length, map, Option, Some, None, Result, Ok, Err, refl, sym, ap, ap₂, subst, ◌∙◌, ◌⊎◌, inl, inr, append_assoc, arith}
use Rattle.std.proofs.lemmas.List.{append-nil}
use Rattle.std.proofs.lemmas.Bool.{ltb-true, lt-ltb}
use Rattle.std.specs.Prelude.{nat_lt}
use Rattle.pyv_lex.specs.declared.token.Kind.{Kind}
use Rattle.pyv_lex.specs.declared.token.Kind.TheVariants as kind
use Rattle.pyv_lex.specs.declared.token.Token.{Token}
use Rattle.pyv_grammar.specs.declared.tree.Bound.{Bound}
use Rattle.pyv_grammar.specs.declared.tree.Expr.{Expr}
use Rattle.pyv_grammar.specs.declared.tree.Expr.TheVariants as expr
use Rattle.pyv_grammar.specs.declared.reading.Found.{Found}
use Rattle.pyv_grammar.specs.Grammar.{Level, Atom, Unary, Ands, Ors, Imps, Exprs, Shape, One, Members, IsLead, Between, Spells, Separated, IsName, IsBound}
use Rattle.pyv_grammar.specs.Grammar as rule
use Rattle.pyv_grammar.specs.Reading.{Reader, eat, skip, on, found, trees, last_open, heights, give, refuse, and_then, sign, try, opens, wants, never, listed, some_list, closed_list, bound_at, all_separated, ends_open, node_of, joined, named_at, new_at, distinct_at, bracketed_at, atom_at, equality, comparison_at, negation_at, binding_at, quantified_at, conditional_at, unary_at, imp_at, expr_at}
use Rattle.pyv_grammar.proofs.Eat.{eat-here, eat-other}
use Rattle.pyv_grammar.proofs.Exact.{Lang, After, Begins, Items, AfterItems, Exact, Sure, Always, OneOf, a_token, is_kind, a_kind, exact_wants, Nothing, exact_give, Seq, begins_first, exact_then, sure_then, Sign, exact_sign, sure_sign, Never, exact_refuse, exact_as, exact_before, some_items, exact_items}
use Rattle.pyv_grammar.proofs.Spelt.{From, from_token, from_less, from_front, eat-from, start, starts_at, starts, rank, rank_of, holds_at, bound, AfterLevel, bound_least, bound_most, tighter, eat-past, closed_follows, ends_all, Spelt, Any, In, Under, Inside, Room, any_room, both_under, a_word, SpeltMembers, members_to, Found_as, members_from}
use Rattle.pyv_grammar.proofs.Forms.{First, un_one, mk_one, Last, un_last, mk_last, Ended, un_end, mk_end, then_any, exact_end, exact_last, sign_from, other_from, here, SomeL, ClosedL, some_some, some_closed, exact_listed, exact_some_list, exact_closed_list, exact_bound, items_separated, separated_items}
use Rattle.pyv_grammar.proofs.Levels.{name_of, call_of, new_of, distinct_of, inner_of, CallL, BracketL, NewL, DistinctL, NamedL, AtomBracketL, AtomDistinctL, AtomNewL, AtomFalseL, AtomTrueL, AtomL, AfterAtom, exact_atom, ends_expr, starts_expr}

-- the same, for another value and another text
pub re : (R : ℕ → ℕ → Type 0) (l : Level) (a x : Found) (s u : List Token) → a ≡ x → s ≡ u → Spelt R l x u → Spelt R l a s
re R l a x s u e f h = subst (λ (z : Found). Spelt R l z s) (sym e) (subst (Spelt R l x) (sym f) h)

pub room_under : (R : ℕ → ℕ → Type 0) → Room R → R 1 0 → Room (Under R)
room_under R room one = record { none = one; less = λ d e h i a c r. room.less (suc d) (suc e) h i (omega arith) c r; both = both_under R room }

module _ (R : ℕ → ℕ → Type 0) (room : Room R) (b : Bool) where
  module _ (roomy : b ≡ true → R 1 0) where
    call_to : (p : b ≡ true) (t l : Token) (a : Found) (u : List Token) → t.kind ≡ kind.Word → l.kind ≡ kind.RoundLeft → (xs : List Found) → a ≡ call_of t xs → ClosedL (Spelt (Under R) Exprs) xs u → Spelt R Atom a (t ∷ l ∷ u)
    call_to p t l a u w k xs e (inl c) =
        re R Atom a (call_of t []) (t ∷ l ∷ u) (t ∷ l ∷ c.2 ∷ []) (e ∙ ap (call_of t) c.6.0) (ap (λ (z : List Token). t ∷ l ∷ z) (c.4 ∙ ap (λ (z : List Token). c.2 ∷ z) c.6.1))
        (record { depth = 1; fits = roomy p; spells = rule.call_none t l c.2 w k c.5 })
    call_to p t l a u w k xs e (inr c) =
        let d = un_end (Items never kind.Comma (Spelt (Under R) Exprs)) kind.RoundRight (λ ys. ys) xs u c in
        let m = members_to (Under R) (room_under R room (roomy p)) Exprs kind.Comma never (λ x q. tt) false d.value d.inner d.spells in
        re R Atom a (call_of t d.value) (t ∷ l ∷ u) (t ∷ l ∷ (d.inner ++ d.token ∷ [])) (e ∙ ap (call_of t) d.is) (ap (λ (z : List Token). t ∷ l ∷ z) d.text)
        (record { depth = suc m.depth; fits = m.fits; spells = rule.call t l d.token (trees d.value) (last_open false d.value) m.depth (heights d.value) d.inner w k d.kind m.spells })

    named_to : (t : Token) (a : Found) (u : List Token) → t.kind ≡ kind.Word → NamedL R b t a u → Spelt R Atom a (t ∷ u)
    named_to t a u w (inl c) =
        let x = un_last (ClosedL (Spelt (Under R) Exprs)) (call_of t) a c.3 c.6 in
        subst (λ (z : List Token). Spelt R Atom a (t ∷ z)) (sym c.4) (call_to c.1 t c.2 a c.3 w c.5 x.value x.is x.spells)
    named_to t a u w (inr n) = re R Atom a (name_of t) (t ∷ u) (t ∷ []) n.0 (ap (λ (z : List Token). t ∷ z) n.1) (record { depth = 0; fits = room.none; spells = rule.name t w })

    new_to : (t : Token) (a : Found) (u : List Token) → t.kind ≡ kind.New → NewL (Under R) t a u → Spelt R Atom a (t ∷ u)
    new_to t a u w h =
        let o = un_one kind.RoundLeft (λ _. Seq (Spelt (Under R) Exprs) (λ x. Seq (OneOf kind.RoundRight) (λ _. Nothing (new_of t x)))) a u h in
        let d = un_end (Spelt (Under R) Exprs) kind.RoundRight (new_of t) a o.rest o.is in
        re R Atom a (new_of t d.value) (t ∷ u) (t ∷ o.token ∷ (d.inner ++ d.token ∷ [])) d.is (ap (λ (z : List Token). t ∷ z) (o.text ∙ ap (λ (z : List Token). o.token ∷ z) d.text))
        (record { depth = suc d.spells.depth; fits = d.spells.fits; spells = rule.new t o.token d.token d.value.tree d.value.ends_open d.spells.depth d.value.height d.inner w o.kind d.kind d.spells.spells })

    distinct_to : (p : b ≡ true) (t : Token) (a : Found) (u : List Token) → t.kind ≡ kind.Distinct → DistinctL (Under R) t a u → Spelt R Atom a (t ∷ u)
    distinct_to p t a u w h =
        let o = un_one kind.RoundLeft (λ _. Seq (SomeL (Spelt (Under R) Exprs)) (λ xs. Nothing (distinct_of t xs))) a u h in
        let x = un_last (SomeL (Spelt (Under R) Exprs)) (distinct_of t) a o.rest o.is in
        let d = un_end (Items never kind.Comma (Spelt (Under R) Exprs)) kind.RoundRight (λ ys. ys) x.value o.rest x.spells in
        let m = members_to (Under R) (room_under R room (roomy p)) Exprs kind.Comma never (λ x q. tt) false d.value d.inner d.spells in
        re R Atom a (distinct_of t d.value) (t ∷ u) (t ∷ o.token ∷ (d.inner ++ d.token ∷ [])) (x.is ∙ ap (distinct_of t) d.is) (ap (λ (z : List Token). t ∷ z) (o.text ∙ ap (λ (z : List Token). o.token ∷ z) d.text))
        (record { depth = suc m.depth; fits = m.fits; spells = rule.distinct t o.token d.token (trees d.value) (last_open false d.value) m.depth (heights d.value) d.inner w o.kind d.kind m.spells })

    bracket_to : (l : Token) (a : Found) (u : List Token) → l.kind ≡ kind.RoundLeft → BracketL (Under R) a u → Spelt R Atom a (l ∷ u)
    bracket_to l a u k h =
        let d = un_end (Spelt (Under R) Exprs) kind.RoundRight inner_of a u h in
        re R Atom a (inner_of d.value) (l ∷ u) (l ∷ (d.inner ++ d.token ∷ [])) d.is (ap (λ (z : List Token). l ∷ z) d.text)
        (record { depth = suc d.spells.depth; fits = d.spells.fits; spells = rule.bracket l d.token d.value.tree d.value.ends_open d.spells.depth d.value.height d.inner k d.kind d.spells.spells })

    moved : (a : Found) (s : List Token) (t : Token) (u : List Token) → s ≡ t ∷ u → Spelt R Atom a (t ∷ u) → Spelt R Atom a s
    moved a s t u e h = subst (Spelt R Atom a) (sym e) h

    pub atom_to : (a : Found) (s : List Token) → AtomL R b a s → Spelt R Atom a s
    atom_to a s (inl c) = moved a s c.2 c.3 c.4 (named_to c.2 a c.3 c.5 c.6)
    atom_to a s (inr (inl c)) = re R Atom a (found (expr.True c.2.span.from) false 0) s (c.2 ∷ []) c.6.0 (c.4 ∙ ap (λ (z : List Token). c.2 ∷ z) c.6.1) (record { depth = 0; fits = room.none; spells = rule.truth c.2 c.5 })
    atom_to a s (inr (inr (inl c))) = re R Atom a (found (expr.False c.2.span.from) false 0) s (c.2 ∷ []) c.6.0 (c.4 ∙ ap (λ (z : List Token). c.2 ∷ z) c.6.1) (record { depth = 0; fits = room.none; spells = rule.falsity c.2 c.5 })
    atom_to a s (inr (inr (inr (inl c)))) = moved a s c.2 c.3 c.4 (new_to c.2 a c.3 c.5 c.6)
    atom_to a s (inr (inr (inr (inr (inl c))))) = moved a s c.2 c.3 c.4 (distinct_to c.1 c.2 a c.3 c.5 c.6)
    atom_to a s (inr (inr (inr (inr (inr (inl c)))))) = moved a s c.2 c.3 c.4 (bracket_to c.2 a c.3 c.5 c.6)
    atom_to a s (inr (inr (inr (inr (inr (inr n)))))) = absurd n

  module _ (within : (d h : ℕ) → R (suc d) h → b ≡ true) where
    pub args_from : (args : List Expr) (o : Bool) (d h : ℕ) (s : List Token) → Spells (Members Exprs kind.Comma args) o d h s → R (suc d) h → Found_as (Under R) Exprs kind.Comma never false args o h s
    args_from args o d h s f r = members_from (Under R) (room_under R room (room.less 1 (suc d) 0 h (omega arith) (omega arith) r)) Exprs kind.Comma never (λ p x h q. refl) f args refl false r

    as_found : (make : List Expr → Expr) (xs : List Found) (args : List Expr) (h : ℕ) → trees xs ≡ args → heights xs ≡ h → found (make (trees xs)) false (heights xs) ≡ found (make args) false h
    as_found make xs args h e f = ap₂ (λ (ts : List Expr) (n : ℕ). found (make ts) false n) e f

    pub atom_from : {x : Expr} {o : Bool} {d h : ℕ} {s : List Token} → Spells (One Atom x) o d h s → R d h → AtomL R b (found x o h) s
    atom_from (rule.name t w) r = here true kind.Word (NamedL R b) (AtomTrueL R b) (name_of t) t [] refl w (inr (refl, refl))
    atom_from (rule.call_none t l q w k m) r =
        here true kind.Word (NamedL R b) (AtomTrueL R b) (call_of t []) t (l ∷ q ∷ []) refl w
        (here b kind.RoundLeft (λ _. CallL (Under R) t) (Nothing (name_of t)) (call_of t []) l (q ∷ []) (within 0 0 r) k
        (mk_last (ClosedL (Spelt (Under R) Exprs)) (call_of t) [] (q ∷ []) (here true kind.RoundRight (λ _. Nothing []) (SomeL (Spelt (Under R) Exprs)) [] q [] refl m (refl, refl))))
    atom_from (rule.call t l q args o d h s w k m f) r =
        let y = args_from args o d h s f r in
        subst (λ (z : Found). AtomL R b z (t ∷ l ∷ (s ++ q ∷ []))) (as_found (λ ts. expr.Name t.span true ts) y.items args h y.trees_are y.high_as)
        (here true kind.Word (NamedL R b) (AtomTrueL R b) (call_of t y.items) t (l ∷ (s ++ q ∷ [])) refl w
        (here b kind.RoundLeft (λ _. CallL (Under R) t) (Nothing (name_of t)) (call_of t y.items) l (s ++ q ∷ []) (within d h r) k
        (mk_last (ClosedL (Spelt (Under R) Exprs)) (call_of t) y.items (s ++ q ∷ []) (inr (mk_end (Items never kind.Comma (Spelt (Under R) Exprs)) kind.RoundRight (λ ys. ys) y.items s q m y.is)))))
    atom_from (rule.truth t w) r = inr (here true kind.True (λ t. Nothing (found (expr.True t.span.from) false 0)) (AtomFalseL R b) (found (expr.True t.span.from) false 0) t [] refl w (refl, refl))
    atom_from (rule.falsity t w) r = inr (inr (here true kind.False (λ t. Nothing (found (expr.False t.span.from) false 0)) (AtomNewL R b) (found (expr.False t.span.from) false 0) t [] refl w (refl, refl)))
    atom_from (rule.new t l q x o d h s w k m f) r =
        inr (inr (inr (here b kind.New (NewL (Under R)) (AtomDistinctL R b) (new_of t (found x o h)) t (l ∷ (s ++ q ∷ [])) (within d h r) w
        (mk_one kind.RoundLeft (λ _. Seq (Spelt (Under R) Exprs) (λ x. Seq (OneOf kind.RoundRight) (λ _. Nothing (new_of t x)))) (new_of t (found x o h)) l (s ++ q ∷ []) k
        (mk_end (Spelt (Under R) Exprs) kind.RoundRight (new_of t) (found x o h) s q m (record { depth = d; fits = r; spells = f }))))))
    atom_from (rule.distinct t l q xs o d h s w k m f) r =
        let y = args_from xs o d h s f r in
        subst (λ (z : Found). AtomL R b z (t ∷ l ∷ (s ++ q ∷ []))) (as_found (λ ts. expr.Distinct t.span.from ts) y.items xs h y.trees_are y.high_as)
        (inr (inr (inr (inr (here b kind.Distinct (DistinctL (Under R)) (AtomBracketL R b) (distinct_of t y.items) t (l ∷ (s ++ q ∷ [])) (within d h r) w
        (mk_one kind.RoundLeft (λ _. Seq (SomeL (Spelt (Under R) Exprs)) (λ xs. Nothing (distinct_of t xs))) (distinct_of t y.items) l (s ++ q ∷ []) k
        (mk_last (SomeL (Spelt (Under R) Exprs)) (distinct_of t) y.items (s ++ q ∷ []) (mk_end (Items never kind.Comma (Spelt (Under R) Exprs)) kind.RoundRight (λ ys. ys) y.items s q m y.is))))))))
    atom_from (rule.bracket l q x o d h s k m f) r =
        inr (inr (inr (inr (inr (here b kind.RoundLeft (λ _. BracketL (Under R)) Never (inner_of (found x o h)) l (s ++ q ∷ []) (within d h r) k
        (mk_end (Spelt (Under R) Exprs) kind.RoundRight inner_of (found x o h) s q m (record { depth = d; fits = r; spells = f })))))))

-- an atom doesn't end open
pub atom_shut : {x : Expr} {o : Bool} {d h : ℕ} {s : List Token} → Spells (One Atom x) o d h s → o ≡ false
atom_shut (rule.name t w) = refl
atom_shut (rule.call_none t l q w k m) = refl
atom_shut (rule.call t l q args o d h s w k m f) = refl
atom_shut (rule.truth t w) = refl
atom_shut (rule.falsity t w) = refl
atom_shut (rule.new t l q x o d h s w k m f) = refl
atom_shut (rule.distinct t l q xs o d h s w k m f) = refl
atom_shut (rule.bracket l q x o d h s k m f) = refl

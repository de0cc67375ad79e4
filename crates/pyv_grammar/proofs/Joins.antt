-- An expression is read exactly.
use Rattle.std.proofs.Common.{◌≡◌, ℕ, zero, suc, ◌+◌, ◌-◌, ◌<◌, ◌≤◌, max, Bool, true, false, cond, List, [], ◌∷◌, ◌++◌, length, map, Option, Some, None, Result, Ok, Err, refl, sym, ap, ap₂, subst, ◌∙◌, ◌⊎◌, inl, inr, append_assoc, arith}
use Rattle.std.proofs.lemmas.List.{append-nil}
use Rattle.std.proofs.lemmas.Bool.{ltb-true, lt-ltb}
use Rattle.std.specs.Prelude.{nat_lt}
use Rattle.pyv_lex.specs.declared.token.Kind.{Kind}
use Rattle.pyv_lex.specs.declared.token.Kind.TheVariants as kind
use Rattle.pyv_lex.specs.declared.token.Token.{Token}
use Rattle.pyv_grammar.specs.declared.tree.Bound.{Bound}
use Rattle.pyv_grammar.specs.declared.tree.Expr.{Expr}
use Rattle.pyv_grammar.specs.declared.tree.Expr.TheVariants as expr
use Rattle.pyv_grammar.specs.declared.reading.Found.{Found}
use Rattle.pyv_grammar.specs.Grammar.{Level, Atom, Unary, Ands, Ors, Imps, Exprs, Shape, One, Members, IsLead, Between, Spells, Separated, IsName, IsBound}
use Rattle.pyv_grammar.specs.Grammar as rule
use Rattle.pyv_grammar.specs.Reading.{Reader, eat, skip, on, found, trees, last_open, heights, give, refuse, and_then, sign, try, opens, wants, never, listed, some_list, closed_list, bound_at, all_separated, ends_open, node_of, joined, named_at, new_at, distinct_at, bracketed_at, atom_at, equality, comparison_at, negation_at, binding_at, quantified_at, conditional_at, unary_at, imp_at, expr_at}
use Rattle.pyv_grammar.specs.Reading.{Got, ◌>>=◌, Deeper, unaries, ands, ors, imps, exprs, level_at, deep, read}
use Rattle.pyv_grammar.proofs.Good.{skip-try}
use Rattle.pyv_grammar.proofs.Eat.{eat-here, eat-other}
use Rattle.pyv_grammar.proofs.Exact.{Lang, After, Begins, Items, AfterItems, Exact, Sure, Always, OneOf, a_token, is_kind, a_kind, exact_wants, Nothing, exact_give, Seq, begins_first, exact_then, sure_then, Sign, exact_sign, sure_sign, Never, exact_refuse, exact_as, exact_before, some_items, exact_items}
use Rattle.pyv_grammar.proofs.Spelt.{From, from_token, from_less, from_front, eat-from, start, starts_at, starts, rank, rank_of, holds_at, bound, AfterLevel, bound_least, bound_most, tighter, eat-past, closed_follows, ends_all, Spelt, Any, In, Under, Inside, Room, any_room, both_under, a_word, SpeltMembers, members_to, Found_as, members_from}
use Rattle.pyv_grammar.proofs.Forms.{First, un_one, mk_one, Last, un_last, mk_last, Ended, un_end, mk_end, then_any, exact_end, exact_last, sign_from, other_from, here, SomeL, ClosedL, some_some, some_closed, exact_listed, exact_some_list, exact_closed_list, exact_bound, items_separated, separated_items}
use Rattle.pyv_grammar.proofs.Levels.{AtomL, AfterAtom, exact_atom}
use Rattle.pyv_grammar.proofs.Atoms.{re, room_under, atom_to, atom_from}
use Rattle.pyv_grammar.proofs.Unaries.{Low, UnaryL, exact_unary}
use Rattle.pyv_grammar.proofs.UnaryForms.{unary_to, unary_from}

-- ---- a first part that is followed by a sign and a second part, where it doesn't end open

abbrev pub BinaryL : {B : Type 0} → (Found → Bool) → Kind → (Token → Found → B → Found) → Lang Found → Lang B → Lang Found
BinaryL roomy k make L K = Seq L (λ x. Sign x.ends_open (roomy x) k (λ t. Seq K (λ y. Nothing (make t x y))) (Nothing x))

abbrev pub yes_room : Found → Bool
yes_room x = true

module _ {B : Type 0} (first : Reader Found) (second : Reader B) (l up : Level) (k : Kind) (roomy : Found → Bool) (make : Token → Found → B → Found) (E : After B) (L M : Lang Found) (K N : Lang B)
    (x : Sure first (AfterLevel l) L M) (y : (a : Found) → roomy a ≡ true → Sure second E K N) (some : Begins N []) (le : holds_at l ≤ rank k) (lt : rank k < holds_at up) (under : holds_at l ≤ holds_at up)
    (after : (t : Token) (a : Found) (b : B) (rest : List Token) → AfterLevel up (make t a b) rest → E b rest) where
  no_sign : (a b : Found) (s rest : List Token) → a.ends_open ≡ false → Nothing a b s → AfterLevel up b rest → eat k (s ++ rest) ≡ None
  no_sign a b s rest o h d =
      let same : b.ends_open ≡ false = ap (λ (z : Found). z.ends_open) h.0 ∙ o in
      let low : holds_at up ≤ rank_of rest = subst (λ p. bound up p ≤ rank_of rest) same d in
      ap (λ (l : List Token). eat k (l ++ rest)) h.1 ∙ eat-past k rest (omega arith)

  second_reads : (a : Found) → Sure (sign a.ends_open (roomy a) k (λ t. and_then second (λ b. give (make t a b))) (give a)) (AfterLevel up) (Sign a.ends_open (roomy a) k (λ t. Seq K (λ y. Nothing (make t a y))) (Nothing a)) (Sign a.ends_open true k (λ t. Seq N (λ y. Nothing (make t a y))) (Nothing a))
  second_reads a = sure_sign a.ends_open (roomy a) k (λ t. and_then second (λ b. give (make t a b))) (give a) (AfterLevel up) (λ t. Seq K (λ y. Nothing (make t a y))) (λ t. Seq N (λ y. Nothing (make t a y))) (Nothing a) (Nothing a)
      (λ p t. exact_last second (make t a) E (AfterLevel up) K N (y a p) (λ b rest d. after t a b rest d)) (λ t. begins_first N (λ y. Nothing (make t a y)) (λ y. (exact_give (make t a y) Always).some) [] some) (exact_give a (AfterLevel up)).exact
      (λ o b s rest h d. no_sign a b s rest o h d) (exact_give a (AfterLevel up)).some

  first_ends : (a b : Found) (s rest : List Token) → Sign a.ends_open (roomy a) k (λ t. Seq K (λ y. Nothing (make t a y))) (Nothing a) b s → AfterLevel up b rest → AfterLevel l a (s ++ rest)
  first_ends a b s rest (inl c) d = subst (λ (z : List Token). AfterLevel l a (z ++ rest)) (sym c.4) (closed_follows l a c.2 k (c.3 ++ rest) c.0 c.5 le)
  first_ends a b s rest (inr n) d = subst (λ (z : List Token). AfterLevel l a (z ++ rest)) (sym n.1) (tighter up l a.ends_open (rank_of rest) under (subst (λ (z : Found). AfterLevel up z rest) n.0 d))

  pub exact_binary : Sure (and_then first (λ a. sign a.ends_open (roomy a) k (λ t. and_then second (λ b. give (make t a b))) (give a))) (AfterLevel up) (BinaryL roomy k make L K) (BinaryL yes_room k make M N)
  exact_binary = sure_then first _ (AfterLevel l) (AfterLevel up) L M _ _ x.exact second_reads first_ends x.some

-- ---- lists of members

abbrev pub MembersL : (ℕ → ℕ → Type 0) → Level → Kind → Lang (List Found)
MembersL R l k = Items ends_open k (Spelt R l)

abbrev pub BodyL : (ℕ → ℕ → Type 0) → Level → Kind → (ℕ → List Expr → Expr) → Lang Found
BodyL R l k node = BinaryL yes_room k (node_of node) (Spelt R l) (MembersL R l k)

abbrev pub JoinedL : (ℕ → ℕ → Type 0) → Level → Kind → (ℕ → List Expr → Expr) → Lang Found
JoinedL R l k node = Sign false true k (λ _. BodyL R l k node) (BodyL R l k node)

exact_eq : {A : Type 0} (f g : Reader A) (E : After A) (L M : Lang A) → ((ts : List Token) → f ts ≡ g ts) → Exact g E L M → Exact f E L M
exact_eq f g E L M e x = record {
  sound = λ ts z h. x.sound ts z (sym (e ts) ∙ h);
  complete = λ a s rest h d. e (s ++ rest) ∙ x.complete a s rest h d;
  fails = λ ts d h. x.fails ts d (sym (e ts) ∙ h);
  wider = x.wider;
}

after_members : (l up : Level) (k : Kind) → holds_at l ≤ holds_at up → rank k < holds_at up → (o : Bool) (ys : List Found) (rest : List Token) → bound up (last_open o ys) ≤ rank_of rest → AfterItems ends_open k (AfterLevel l) ys rest
after_members l up k le lt o [] rest h = tt
after_members l up k le lt o (y ∷ []) rest h =
    (tighter up l y.ends_open (rank_of rest) le h, λ q. let low : holds_at up ≤ rank_of rest = subst (λ p. bound up p ≤ rank_of rest) q h in eat-past k rest (omega arith))
after_members l up k le lt o (y ∷ z ∷ ys) rest h = after_members l up k le lt y.ends_open (z ∷ ys) rest h

body_from : (R : ℕ → ℕ → Type 0) (l : Level) (k : Kind) (node : ℕ → List Expr → Expr) (a : Found) (s : List Token) → BodyL R l k node a s → From start (starts_at l) s
body_from R l k node a s h = subst (From start (starts_at l)) (sym h.3) (from_front start (starts_at l) h.1 h.2 (starts h.4.spells))

module _ (R U : ℕ → ℕ → Type 0) (l up : Level) (k : Kind) (node : ℕ → List Expr → Expr) (e : Reader Found) (x : Sure e (AfterLevel l) (Spelt R l) (Spelt U l)) (le : holds_at l ≤ rank k) (lt : rank k < holds_at up) (under : holds_at l ≤ holds_at up) (low : start k < starts_at l) where
  before_member : (a : Found) (t : Token) (r : List Token) → a.ends_open ≡ false → t.kind ≡ k → AfterLevel l a (t ∷ r)
  before_member a t r o q = closed_follows l a t k r o q le

  members_read : Sure (all_separated ends_open e k) (AfterItems ends_open k (AfterLevel l)) (MembersL R l k) (MembersL U l k)
  members_read = record { exact = exact_items ends_open k e (AfterLevel l) (Spelt R l) (Spelt U l) x.exact x.some before_member; some = some_items ends_open k e (AfterLevel l) (Spelt R l) (Spelt U l) x.exact x.some before_member }

  body_reads : Sure (and_then e (λ a. sign a.ends_open true k (λ t. and_then (all_separated ends_open e k) (λ ys. give (node_of node t a ys))) (give a))) (AfterLevel up) (BodyL R l k node) (BodyL U l k node)
  body_reads = exact_binary e (all_separated ends_open e k) l up k yes_room (node_of node) (AfterItems ends_open k (AfterLevel l)) (Spelt R l) (Spelt U l) (MembersL R l k) (MembersL U l k) x (λ a p. members_read)
      (let b = members_read.some in record { rest = b.rest; value = b.value; is = members_read.exact.wider b.value b.rest b.is }) le lt under (λ t a ys rest h. after_members l up k under lt a.ends_open ys rest h)

  pub exact_joined : Exact (joined e k node) (AfterLevel up) (JoinedL R l k node) (JoinedL U l k node)
  unfolding joined
  exact_joined = exact_eq (joined e k node) (try k (λ _. and_then e (λ a. sign a.ends_open true k (λ t. and_then (all_separated ends_open e k) (λ ys. give (node_of node t a ys))) (give a))) (and_then e (λ a. sign a.ends_open true k (λ t. and_then (all_separated ends_open e k) (λ ys. give (node_of node t a ys))) (give a))))
      (AfterLevel up) (JoinedL R l k node) (JoinedL U l k node) (skip-try k (and_then e (λ a. sign a.ends_open true k (λ t. and_then (all_separated ends_open e k) (λ ys. give (node_of node t a ys))) (give a))))
      (exact_sign false true k (λ _. and_then e (λ a. sign a.ends_open true k (λ t. and_then (all_separated ends_open e k) (λ ys. give (node_of node t a ys))) (give a))) _ (AfterLevel up) (λ _. BodyL R l k node) (λ _. BodyL U l k node) (BodyL R l k node) (BodyL U l k node)
      (λ _ _. body_reads) (λ _. let b = body_reads.some in record { rest = b.rest; value = b.value; is = body_reads.exact.wider b.value b.rest b.is }) body_reads.exact (λ _. other_from start (starts_at l) k (AfterLevel up) (BodyL R l k node) low (body_from R l k node)))

-- ---- what members and their list are spelled by

pub record Lists (l up : Level) (k : Kind) (node : ℕ → List Expr → Expr) : Type 0 where
  pub one : (x : Expr) (o : Bool) (d h : ℕ) (lead s : List Token) → IsLead k lead → Spells (One l x) o d h s → Spells (One up x) o d h (lead ++ s)
  pub many : (t : Token) (x : Expr) (xs : List Expr) (o : Bool) (d e h i : ℕ) (lead a b : List Token) → IsLead k lead → t.kind ≡ k → Spells (One l x) false d h a → Spells (Members l k xs) o e i b → Spells (One up (node t.span.from (x ∷ xs))) o (max d e) (max h i) (lead ++ (a ++ t ∷ b))
  pub between : (o : Bool) → o ≡ false → Between k o
  pub closed : (o : Bool) → Between k o → o ≡ false

pub and_lists : Lists Unary Ands kind.Amp expr.And
and_lists = record { one = λ x o d h lead s f a. rule.and_one x o d h lead s f a; many = λ t x xs o d e h i lead a b f k p q. rule.ands t x xs o d e h i lead a b f k p q; between = λ o h. h; closed = λ o h. h }

pub or_lists : Lists Ands Ors kind.Bar expr.Or
or_lists = record { one = λ x o d h lead s f a. rule.or_one x o d h lead s f a; many = λ t x xs o d e h i lead a b f k p q. rule.ors t x xs o d e h i lead a b f k p q; between = λ o h. h; closed = λ o h. h }

module _ (R : ℕ → ℕ → Type 0) (room : Room R) (l up : Level) (k : Kind) (node : ℕ → List Expr → Expr) (lists : Lists l up k node) where
  body_to : (lead : List Token) → IsLead k lead → (a : Found) (s : List Token) → BodyL R l k node a s → Spelt R up a (lead ++ s)
  body_to lead f a s (x, p, q, e, h, inl c) =
      let y = un_last (MembersL R l k) (node_of node c.2 x) a c.3 c.6 in
      let m = members_to R room l k ends_open (λ z o. lists.between z.ends_open o) x.ends_open y.value c.3 y.spells in
      re R up a (node_of node c.2 x y.value) (lead ++ s) (lead ++ (p ++ c.2 ∷ c.3)) y.is (ap (λ (z : List Token). lead ++ z) (e ∙ ap (λ (z : List Token). p ++ z) c.4))
      (record {
        depth = max h.depth m.depth;
        fits = room.both h.depth m.depth x.height (heights y.value) h.fits m.fits;
        spells = lists.many c.2 x.tree (trees y.value) (last_open x.ends_open y.value) h.depth m.depth x.height (heights y.value) lead p c.3 f c.5 (subst (λ (o : Bool). Spells (One l x.tree) o h.depth x.height p) c.0 h.spells) m.spells;
      })
  body_to lead f a s (x, p, q, e, h, inr n) =
      re R up a x (lead ++ s) (lead ++ p) n.0 (ap (λ (z : List Token). lead ++ z) (e ∙ ap (λ (z : List Token). p ++ z) n.1 ∙ append-nil p))
      (record { depth = h.depth; fits = h.fits; spells = lists.one x.tree x.ends_open h.depth x.height lead p f h.spells })

  pub joined_to : (a : Found) (s : List Token) → JoinedL R l k node a s → Spelt R up a s
  joined_to a s (inl c) = subst (Spelt R up a) (sym c.4) (body_to (c.2 ∷ []) c.5 a c.3 c.6)
  joined_to a s (inr h) = body_to [] tt a s h

  with_lead : (a : Found) (lead s : List Token) → IsLead k lead → BodyL R l k node a s → JoinedL R l k node a (lead ++ s)
  with_lead a [] s f h = inr h
  with_lead a (t ∷ []) s f h = inl (refl, refl, t, s, refl, f, h)
  with_lead a (t ∷ u ∷ ts) s f h = absurd f

  one_from : (x : Expr) (o : Bool) (d h : ℕ) (lead s : List Token) → IsLead k lead → Spells (One l x) o d h s → R d h → JoinedL R l k node (found x o h) (lead ++ s)
  one_from x o d h lead s f a r = with_lead (found x o h) lead s f (found x o h, s, [], sym (append-nil s), record { depth = d; fits = r; spells = a }, inr (refl, refl))

  many_from : (t : Token) (x : Expr) (xs : List Expr) (o : Bool) (d e h i : ℕ) (lead a b : List Token) → IsLead k lead → t.kind ≡ k → Spells (One l x) false d h a → Spells (Members l k xs) o e i b → R (max d e) (max h i)
      → JoinedL R l k node (found (node t.span.from (x ∷ xs)) o (max h i)) (lead ++ (a ++ t ∷ b))
  many_from t x xs o d e h i lead a b f q p g r =
      let r1 : R d h = room.less d (max d e) h (max h i) (omega arith) (omega arith) r in
      let r2 : R e i = room.less e (max d e) i (max h i) (omega arith) (omega arith) r in
      let y = members_from R room l k ends_open (λ o z n c. lists.closed o c) g xs refl false r2 in
      let same : node_of node t (found x false h) y.items ≡ found (node t.span.from (x ∷ xs)) o (max h i) = ap₂ (λ (ts : List Expr) (m : Bool × ℕ). found (node t.span.from (x ∷ ts)) m.0 (max h m.1)) y.trees_are (ap₂ (λ (m : Bool) (n : ℕ). (m, n)) y.opens_as y.high_as) in
      with_lead (found (node t.span.from (x ∷ xs)) o (max h i)) lead (a ++ t ∷ b) f
      (subst (λ (z : Found). BodyL R l k node z (a ++ t ∷ b)) same
      (found x false h, a, t ∷ b, refl, record { depth = d; fits = r1; spells = p }, inl (refl, refl, t, b, refl, q, mk_last (MembersL R l k) (node_of node t (found x false h)) y.items b y.is)))

pub ands_from : (R : ℕ → ℕ → Type 0) (room : Room R) {x : Expr} {o : Bool} {d h : ℕ} {s : List Token} → Spells (One Ands x) o d h s → R d h → JoinedL R Unary kind.Amp expr.And (found x o h) s
ands_from R room (rule.and_one x o d h lead s f a) r = one_from R room Unary Ands kind.Amp expr.And and_lists x o d h lead s f a r
ands_from R room (rule.ands t x xs o d e h i lead a b f k p q) r = many_from R room Unary Ands kind.Amp expr.And and_lists t x xs o d e h i lead a b f k p q r

pub ors_from : (R : ℕ → ℕ → Type 0) (room : Room R) {x : Expr} {o : Bool} {d h : ℕ} {s : List Token} → Spells (One Ors x) o d h s → R d h → JoinedL R Ands kind.Bar expr.Or (found x o h) s
ors_from R room (rule.or_one x o d h lead s f a) r = one_from R room Ands Ors kind.Bar expr.Or or_lists x o d h lead s f a r
ors_from R room (rule.ors t x xs o d e h i lead a b f k p q) r = many_from R room Ands Ors kind.Bar expr.Or or_lists t x xs o d e h i lead a b f k p q r

-- ---- implications and equivalences

abbrev pub implies_of : Token → Found → Found → Found
implies_of t x y = found (expr.Implies t.span.from x.tree y.tree) y.ends_open (max x.height y.height)

abbrev pub iff_of : Token → Found → Found → Found
iff_of t x y = found (expr.Iff t.span.from x.tree y.tree) y.ends_open (suc (max x.height y.height))

abbrev pub ImpL : (ℕ → ℕ → Type 0) → Bool → Lang Found
ImpL R b = BinaryL (λ _. b) kind.Implies implies_of (Spelt R Ors) (Spelt (Under R) Imps)

abbrev pub ExprL : (ℕ → ℕ → Type 0) → (Found → Bool) → Lang Found
ExprL R low = BinaryL low kind.Iff iff_of (Spelt R Imps) (Spelt (Inside R) Imps)

module _ (R : ℕ → ℕ → Type 0) (room : Room R) where
  shut_to : (l : Level) (x : Found) (d : ℕ) (p : List Token) → x.ends_open ≡ false → Spells (One l x.tree) x.ends_open d x.height p → Spells (One l x.tree) false d x.height p
  shut_to l x d p o f = subst (λ (q : Bool). Spells (One l x.tree) q d x.height p) o f

  pub imp_to : (b : Bool) (a : Found) (s : List Token) → ImpL R b a s → Spelt R Imps a s
  imp_to b a s (x, p, q, e, h, inl c) =
      let y = un_last (Spelt (Under R) Imps) (implies_of c.2 x) a c.3 c.6 in
      re R Imps a (implies_of c.2 x y.value) s (p ++ c.2 ∷ c.3) y.is (e ∙ ap (λ (z : List Token). p ++ z) c.4)
      (record {
        depth = max h.depth (suc y.spells.depth);
        fits = room.both h.depth (suc y.spells.depth) x.height y.value.height h.fits y.spells.fits;
        spells = rule.implies c.2 x.tree y.value.tree y.value.ends_open h.depth y.spells.depth x.height y.value.height p c.3 c.5 (shut_to Ors x h.depth p c.0 h.spells) y.spells.spells;
      })
  imp_to b a s (x, p, q, e, h, inr n) =
      re R Imps a x s p n.0 (e ∙ ap (λ (z : List Token). p ++ z) n.1 ∙ append-nil p) (record { depth = h.depth; fits = h.fits; spells = rule.imp_one x.tree x.ends_open h.depth x.height p h.spells })

  pub imp_from : (b : Bool) → ((d h : ℕ) → R (suc d) h → b ≡ true) → {x : Expr} {o : Bool} {d h : ℕ} {s : List Token} → Spells (One Imps x) o d h s → R d h → ImpL R b (found x o h) s
  imp_from b within (rule.imp_one x o d h s f) r = (found x o h, s, [], sym (append-nil s), record { depth = d; fits = r; spells = f }, inr (refl, refl))
  imp_from b within (rule.implies t x y o d e h i p q k f g) r =
      let r1 : R d h = room.less d (max d (suc e)) h (max h i) (omega arith) (omega arith) r in
      let r2 : R (suc e) i = room.less (suc e) (max d (suc e)) i (max h i) (omega arith) (omega arith) r in
      (found x false h, p, t ∷ q, refl, record { depth = d; fits = r1; spells = f }, inl (refl, within e i r2, t, q, refl, k, mk_last (Spelt (Under R) Imps) (implies_of t (found x false h)) (found y o i) q (record { depth = e; fits = r2; spells = g })))

  iff_fits : (d e h i : ℕ) → R d h → R e (suc i) → (h < suc i ⊎ R d (suc h)) → R (max d e) (suc (max h i))
  iff_fits d e h i r q (inl lt) = room.less (max d e) (max d e) (suc (max h i)) (max h (suc i)) (omega arith) (omega arith) (room.both d e h (suc i) r q)
  iff_fits d e h i r q (inr more) = room.less (max d e) (max d e) (suc (max h i)) (max (suc h) (suc i)) (omega arith) (omega arith) (room.both d e (suc h) (suc i) more q)

  pub expr_to : (low : Found → Bool) → ((d : ℕ) (x : Found) → low x ≡ true → R d x.height → R d (suc x.height)) → (a : Found) (s : List Token) → ExprL R low a s → Spelt R Exprs a s
  expr_to low more a s (x, p, q, e, h, inl c) =
      let y = un_last (Spelt (Inside R) Imps) (iff_of c.2 x) a c.3 c.6 in
      re R Exprs a (iff_of c.2 x y.value) s (p ++ c.2 ∷ c.3) y.is (e ∙ ap (λ (z : List Token). p ++ z) c.4)
      (record {
        depth = max h.depth y.spells.depth;
        fits = iff_fits h.depth y.spells.depth x.height y.value.height h.fits y.spells.fits (inr (more h.depth x c.1 h.fits));
        spells = rule.iff c.2 x.tree y.value.tree y.value.ends_open h.depth y.spells.depth x.height y.value.height p c.3 c.5 (shut_to Imps x h.depth p c.0 h.spells) y.spells.spells;
      })
  expr_to low more a s (x, p, q, e, h, inr n) =
      re R Exprs a x s p n.0 (e ∙ ap (λ (z : List Token). p ++ z) n.1 ∙ append-nil p) (record { depth = h.depth; fits = h.fits; spells = rule.expr_one x.tree x.ends_open h.depth x.height p h.spells })

  pub expr_from : (low : Found → Bool) → ((d : ℕ) (x : Found) → R d (suc x.height) → low x ≡ true) → {x : Expr} {o : Bool} {d h : ℕ} {s : List Token} → Spells (One Exprs x) o d h s → R d h → ExprL R low (found x o h) s
  expr_from low within (rule.expr_one x o d h s f) r = (found x o h, s, [], sym (append-nil s), record { depth = d; fits = r; spells = f }, inr (refl, refl))
  expr_from low within (rule.iff t x y o d e h i p q k f g) r =
      let r0 : R d (suc h) = room.less d (max d e) (suc h) (suc (max h i)) (omega arith) (omega arith) r in
      let r1 : R d h = room.less d (max d e) h (suc (max h i)) (omega arith) (omega arith) r in
      let r2 : R e (suc i) = room.less e (max d e) (suc i) (suc (max h i)) (omega arith) (omega arith) r in
      (found x false h, p, t ∷ q, refl, record { depth = d; fits = r1; spells = f }, inl (refl, within d (found x false h) r0, t, q, refl, k, mk_last (Spelt (Inside R) Imps) (iff_of t (found x false h)) (found y o i) q (record { depth = e; fits = r2; spells = g })))

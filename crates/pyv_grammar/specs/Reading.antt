-- Reading from left to right, with the first fault that is met.
use Rattle.std.specs.Prelude.{◌≡◌, ℕ, zero, suc, ◌+◌, ◌-◌, max, Bool, true, false, cond, ◌==◌, List, [], ◌∷◌, ◌++◌, length, map, Option, Some, None, Result, Ok, Err, nat_lt}
use Rattle.pv_base.specs.declared.Span.{Span}
use Rattle.pyv_lex.specs.declared.token.Kind.{Kind}
use Rattle.pyv_lex.specs.declared.token.Kind.TheVariants as kind
use Rattle.pyv_lex.specs.declared.token.Token.{Token}
use Rattle.pyv_grammar.specs.declared.tree.Bound.{Bound}
use Rattle.pyv_grammar.specs.declared.tree.Expr.{Expr}
use Rattle.pyv_grammar.specs.declared.tree.Expr.TheVariants as expr
use Rattle.pyv_grammar.specs.declared.tree.Decl.{Decl}
use Rattle.pyv_grammar.specs.declared.tree.Decl.TheVariants as decl
use Rattle.pyv_grammar.specs.declared.reading.Found.{Found}
use Rattle.pyv_grammar.specs.declared.reading.Stuck.{Stuck}
use Rattle.pyv_grammar.specs.declared.reading.Stuck.TheVariants.{Bad, Deep}
use Rattle.pyv_grammar.specs.Grammar.{Level, Atom, Unary, Ands, Ors, Imps, Exprs}

abbrev pub number : Kind → ℕ
number kind.Sort = 0
number kind.Mutable = 1
number kind.Immutable = 2
number kind.Relation = 3
number kind.Constant = 4
number kind.Function = 5
number kind.Axiom = 6
number kind.Init = 7
number kind.Transition = 8
number kind.Modifies = 9
number kind.Safety = 10
number kind.Invariant = 11
number kind.Forall = 12
number kind.Exists = 13
number kind.New = 14
number kind.True = 15
number kind.False = 16
number kind.Distinct = 17
number kind.If = 18
number kind.Then = 19
number kind.Else = 20
number kind.Sat = 21
number kind.Unsat = 22
number kind.Trace = 23
number kind.Theorem = 24
number kind.Derived = 25
number kind.Definition = 26
number kind.Onestate = 27
number kind.Twostate = 28
number kind.Zerostate = 29
number kind.Automaton = 30
number kind.Sketch = 31
number kind.LetWord = 32
number kind.BoolWord = 33
number kind.IntWord = 34
number kind.Iff = 35
number kind.Implies = 36
number kind.Unequal = 37
number kind.Equal = 38
number kind.Bang = 39
number kind.Amp = 40
number kind.Bar = 41
number kind.RoundLeft = 42
number kind.RoundRight = 43
number kind.SquareLeft = 44
number kind.SquareRight = 45
number kind.CurlyLeft = 46
number kind.CurlyRight = 47
number kind.Comma = 48
number kind.Dot = 49
number kind.Colon = 50
number kind.Word = 51
number kind.Number = 52
number kind.Other = 53

-- a value and the tokens after it, or the first fault
abbrev pub Got : Type 0 → Type 0
Got A = Result (A × List Token) Stuck

abbrev pub Reader : Type 0 → Type 0
Reader A = List Token → Got A

-- the token at the front, where it is of this kind
unfoldable pub eat : Kind → List Token → Option (Token × List Token)
eat k [] = None
eat k (t ∷ ts) = cond (number t.kind == number k) (Some (t, ts)) None

abbrev pub on : {A B : Type 0} → Option A → (A → B) → B → B
on None f z = z
on (Some x) f z = f x

infixl 10 ◌>>=◌
abbrev pub ◌>>=◌ : {A B : Type 0} → Got A → (A × List Token → Got B) → Got B
(Ok x) >>= f = f x
(Err e) >>= f = Err e

abbrev pub give : {A : Type 0} → A → Reader A
give x ts = Ok (x, ts)

abbrev pub refuse : {A : Type 0} → Reader A
refuse ts = Err (Bad (length ts))

abbrev pub too_deep : {A : Type 0} → Reader A
too_deep ts = Err (Deep (length ts))

abbrev pub and_then : {A B : Type 0} → Reader A → (A → Reader B) → Reader B
and_then f g ts = f ts >>= λ x. g x.0 x.1

-- What follows a token of this kind, or what comes where there is none. Where shut is true, no such token may stand
-- here; where roomy is false, what follows it is nested too deep.
abbrev pub sign : {A : Type 0} → (shut roomy : Bool) → Kind → (Token → Reader A) → Reader A → Reader A
sign shut roomy k f g ts = cond shut (g ts) (on (eat k ts) (λ t. cond roomy (f t.0 t.1) (Err (Deep (length ts)))) (g ts))

abbrev pub try : {A : Type 0} → Kind → (Token → Reader A) → Reader A → Reader A
try k f g = sign false true k f g

-- the same, at a token that nests what follows it
abbrev pub opens : {A : Type 0} → Bool → Kind → (Token → Reader A) → Reader A → Reader A
opens roomy k f g = sign false roomy k f g

abbrev pub wants : Kind → Reader Token
wants k = try k (λ t. give t) refuse

unfoldable pub skip : Kind → List Token → List Token
skip k ts = on (eat k ts) (λ t. t.1) ts

-- ---- lists

-- items with tokens of a kind between them; ends says of an item that none may follow it
unfoldable pub separated : {A : Type 0} → (A → Bool) → Reader A → Kind → ℕ → Reader (List A)
separated ends f k zero ts = refuse ts
separated ends f k (suc n) ts = and_then f (λ x. sign (ends x) true k (λ _. and_then (separated ends f k n) (λ xs. give (x ∷ xs))) (give (x ∷ []))) ts

unfoldable pub all_separated : {A : Type 0} → (A → Bool) → Reader A → Kind → Reader (List A)
all_separated ends f k ts = separated ends f k (length ts + 1) ts

abbrev pub never : {A : Type 0} → A → Bool
never x = false

-- items, with commas between them
abbrev pub listed : {A : Type 0} → Reader A → Reader (List A)
listed f = all_separated never f kind.Comma

-- what follows a bracket, up to the bracket that closes it; one item or more
unfoldable pub some_list : {A : Type 0} → Reader A → Reader (List A)
some_list f = and_then (listed f) (λ xs. and_then (wants kind.RoundRight) (λ _. give xs))

-- the same, where there may be none
unfoldable pub closed_list : {A : Type 0} → Reader A → Reader (List A)
closed_list f = try kind.RoundRight (λ _. give []) (some_list f)

unfoldable pub name_at : Reader Span
name_at = and_then (wants kind.Word) (λ t. give t.span)

unfoldable pub bound_at : Reader Bound
bound_at = and_then (wants kind.Word) (λ t. try kind.Colon (λ _. and_then name_at (λ s. give (record { name = t.span; sort = Some s }))) (give (record { name = t.span; sort = None })))

-- ---- expressions

abbrev pub found : Expr → Bool → ℕ → Found
found x o h = record { tree = x; ends_open = o; height = h }

abbrev pub ends_open : Found → Bool
ends_open x = x.ends_open

abbrev pub trees : List Found → List Expr
trees xs = map (λ x. x.tree) xs

abbrev pub last_open : Bool → List Found → Bool
last_open o [] = o
last_open o (x ∷ xs) = last_open x.ends_open xs

abbrev pub heights : List Found → ℕ
heights [] = 0
heights (x ∷ xs) = max x.height (heights xs)

-- a list of members, where there is more than one
abbrev pub node_of : (ℕ → List Expr → Expr) → Token → Found → List Found → Found
node_of node t x ys = found (node t.span.from (x.tree ∷ trees ys)) (last_open x.ends_open ys) (max x.height (heights ys))

unfoldable pub joined : Reader Found → Kind → (ℕ → List Expr → Expr) → Reader Found
joined e k node ts = and_then e (λ x. sign x.ends_open true k (λ t. and_then (all_separated ends_open e k) (λ ys. give (node_of node t x ys))) (give x)) (skip k ts)

-- roomy says whether there is a level further in, which deep reads

abbrev pub named_at : Bool → Reader Found → Token → Reader Found
named_at roomy e t = opens roomy kind.RoundLeft (λ _. and_then (closed_list e) (λ xs. give (found (expr.Name t.span true (trees xs)) false (heights xs)))) (give (found (expr.Name t.span false []) false 0))

abbrev pub new_at : Reader Found → Token → Reader Found
new_at e t = and_then (wants kind.RoundLeft) (λ _. and_then e (λ x. and_then (wants kind.RoundRight) (λ _. give (found (expr.New t.span.from x.tree) false x.height))))

abbrev pub distinct_at : Reader Found → Token → Reader Found
distinct_at e t = and_then (wants kind.RoundLeft) (λ _. and_then (some_list e) (λ xs. give (found (expr.Distinct t.span.from (trees xs)) false (heights xs))))

abbrev pub bracketed_at : Reader Found → Reader Found
bracketed_at e = and_then e (λ x. and_then (wants kind.RoundRight) (λ _. give (found x.tree false x.height)))

unfoldable pub atom_at : Bool → Reader Found → Reader Found
atom_at roomy e =
    try kind.Word (named_at roomy e)
    (try kind.True (λ t. give (found (expr.True t.span.from) false 0))
    (try kind.False (λ t. give (found (expr.False t.span.from) false 0))
    (opens roomy kind.New (new_at e)
    (opens roomy kind.Distinct (distinct_at e)
    (opens roomy kind.RoundLeft (λ _. bracketed_at e) refuse)))))

abbrev pub equality : (ℕ → Expr → Expr → Expr) → Token → Found → Found → Found
equality node t x y = found (node t.span.from x.tree y.tree) false (max x.height y.height)

unfoldable pub comparison_at : Bool → Reader Found → Reader Found
comparison_at roomy e = and_then (atom_at roomy e) (λ x.
    try kind.Equal (λ t. and_then (atom_at roomy e) (λ y. give (equality expr.Equal t x y)))
    (try kind.Unequal (λ t. and_then (atom_at roomy e) (λ y. give (equality expr.Unequal t x y))) (give x)))

abbrev pub negation_at : Reader Found → Token → Reader Found
negation_at u t = and_then u (λ x. give (found (expr.Not t.span.from x.tree) x.ends_open x.height))

-- bound variables, and what stands behind their dot
unfoldable pub binding_at : Reader Found → Reader (List Bound × Found)
binding_at e = and_then (listed bound_at) (λ bs. and_then (wants kind.Dot) (λ _. and_then e (λ x. give (bs, x))))

abbrev pub quantified_at : (ℕ → List Bound → Expr → Expr) → Reader Found → Token → Reader Found
quantified_at node e t = and_then (binding_at e) (λ y. give (found (node t.span.from y.0 y.1.tree) true y.1.height))

abbrev pub conditional_at : Reader Found → Token → Reader Found
conditional_at e t = and_then e (λ x. and_then (wants kind.Then) (λ _. and_then e (λ y. and_then (wants kind.Else) (λ _. and_then e (λ z.
    give (found (expr.If t.span.from x.tree y.tree z.tree) true (suc (max x.height (max y.height z.height)))))))))

-- low reads a level further in, and inside a conditional; may says whether there is room for that
unfoldable pub unary_at : (roomy may : Bool) → (Level → Reader Found) → Reader Found → Reader Found
unary_at roomy may deep low =
    opens roomy kind.Bang (negation_at (deep Unary))
    (opens roomy kind.Forall (quantified_at expr.All (deep Exprs))
    (opens roomy kind.Exists (quantified_at expr.Ex (deep Exprs))
    (opens may kind.If (conditional_at low)
    (comparison_at roomy (deep Exprs)))))

unfoldable pub imp_at : Bool → Reader Found → Reader Found → Reader Found
imp_at roomy ors deep = and_then ors (λ x. sign x.ends_open roomy kind.Implies (λ t. and_then deep (λ y. give (found (expr.Implies t.span.from x.tree y.tree) y.ends_open (max x.height y.height)))) (give x))

unfoldable pub expr_at : ℕ → Reader Found → Reader Found → Reader Found
expr_at v left right = and_then left (λ x. sign x.ends_open (nat_lt x.height v) kind.Iff (λ t. and_then right (λ y. give (found (expr.Iff t.span.from x.tree y.tree) y.ends_open (suc (max x.height y.height))))) (give x))

-- what reads a level further in, at each height
abbrev pub Deeper : Type 0
Deeper = ℕ → Level → Reader Found

unfoldable pub unaries : ℕ → Bool → Deeper → Reader Found
unaries v roomy deep = unary_at roomy (cond roomy (nat_lt 0 v) false) (deep v) (deep (v - 1) Exprs)

unfoldable pub ands : ℕ → Bool → Deeper → Reader Found
ands v roomy deep = joined (unaries v roomy deep) kind.Amp expr.And

unfoldable pub ors : ℕ → Bool → Deeper → Reader Found
ors v roomy deep = joined (ands v roomy deep) kind.Bar expr.Or

unfoldable pub imps : ℕ → Bool → Deeper → Reader Found
imps v roomy deep = imp_at roomy (ors v roomy deep) (deep v Imps)

unfoldable pub exprs : ℕ → Bool → Deeper → Reader Found
exprs v roomy deep = expr_at v (imps v roomy deep) (imps (v - 1) roomy deep)

abbrev pub level_at : ℕ → Bool → Deeper → Level → Reader Found
level_at v roomy deep Atom = atom_at roomy (deep v Exprs)
level_at v roomy deep Unary = unaries v roomy deep
level_at v roomy deep Ands = ands v roomy deep
level_at v roomy deep Ors = ors v roomy deep
level_at v roomy deep Imps = imps v roomy deep
level_at v roomy deep Exprs = exprs v roomy deep

-- a level further in
unfoldable pub deep : ℕ → Deeper
deep zero v l = too_deep
deep (suc n) v l = level_at v (nat_lt 0 n) (deep n) l

abbrev pub read : ℕ → ℕ → Level → Reader Found
read n v l = level_at v (nat_lt 0 n) (deep n) l

-- ---- declarations

unfoldable pub relation_at : Bool → Reader Decl
relation_at b = and_then name_at (λ w. try kind.RoundLeft (λ _. and_then (closed_list name_at) (λ xs. give (decl.Relation b w xs))) (give (decl.Relation b w [])))

unfoldable pub constant_at : Bool → Reader Decl
constant_at b = and_then name_at (λ w. and_then (wants kind.Colon) (λ _. and_then name_at (λ s. give (decl.Constant b w s))))

unfoldable pub function_at : Bool → Reader Decl
function_at b = and_then name_at (λ w. and_then (wants kind.RoundLeft) (λ _. and_then (some_list name_at) (λ xs. and_then (wants kind.Colon) (λ _. and_then name_at (λ s. give (decl.Function b w xs s))))))

unfoldable pub symbol_at : Bool → Reader Decl
symbol_at b =
    try kind.Relation (λ _. relation_at b)
    (try kind.Constant (λ _. constant_at b)
    (and_then (wants kind.Function) (λ _. function_at b)))

unfoldable pub label_at : Reader (Unit {0})
label_at = try kind.SquareLeft (λ _. and_then (wants kind.Word) (λ _. and_then (wants kind.SquareRight) (λ _. give tt))) (give tt)

unfoldable pub labelled_at : Reader Found → Reader Expr
labelled_at e = and_then label_at (λ _. and_then e (λ x. give x.tree))

unfoldable pub claim_at : Reader Found → Reader Decl
claim_at e =
    try kind.Axiom (λ _. and_then (labelled_at e) (λ x. give (decl.Axiom x)))
    (try kind.Init (λ _. and_then (labelled_at e) (λ x. give (decl.Init x)))
    (try kind.Safety (λ _. and_then (labelled_at e) (λ x. give (decl.Safety x)))
    (and_then (wants kind.Invariant) (λ _. and_then (labelled_at e) (λ x. give (decl.Invariant x))))))

unfoldable pub modifies_at : Reader (List Span)
modifies_at = try kind.Modifies (λ _. listed name_at) (give [])

unfoldable pub transition_at : Reader Found → Reader Decl
transition_at e = and_then name_at (λ w. and_then (wants kind.RoundLeft) (λ _. and_then (closed_list bound_at) (λ ps. and_then modifies_at (λ ns. and_then e (λ x. give (decl.Transition w ps ns x.tree))))))

-- behind a closing bracket: the end, or what stands behind it
abbrev pub after_brace : ℕ → List Token → Got (Unit {0}) → Got (Unit {0})
after_brace zero ts rest = Ok (tt, ts)
after_brace (suc d) ts rest = rest

-- up to the curly bracket that closes so many besides the first
unfoldable pub braces : ℕ → Reader (Unit {0})
braces d [] = Err (Bad 0)
braces d (t ∷ ts) = cond (number t.kind == number kind.CurlyLeft) (braces (suc d) ts) (cond (number t.kind == number kind.CurlyRight) (after_brace d ts (braces (d - 1) ts)) (braces d ts))

unfoldable pub trace_at : Reader Decl
trace_at = and_then (wants kind.Trace) (λ _. and_then (wants kind.CurlyLeft) (λ _. and_then (braces 0) (λ _. give decl.Trace)))

unfoldable pub decl_at : Reader Found → Reader Decl
decl_at e =
    try kind.Sort (λ _. and_then name_at (λ w. give (decl.Sort w)))
    (try kind.Mutable (λ _. symbol_at true)
    (try kind.Immutable (λ _. symbol_at false)
    (try kind.Transition (λ _. transition_at e)
    (try kind.Sat (λ _. trace_at)
    (try kind.Unsat (λ _. trace_at)
    (claim_at e))))))

abbrev pub before_all : Decl → Result (List Decl) Stuck → Result (List Decl) Stuck
before_all x (Ok xs) = Ok (x ∷ xs)
before_all x (Err e) = Err e

abbrev pub file_on : Got Decl → (List Token → Result (List Decl) Stuck) → Result (List Decl) Stuck
file_on (Ok x) rest = before_all x.0 (rest x.1)
file_on (Err e) rest = Err e

-- all of the tokens
unfoldable pub file : Reader Decl → ℕ → List Token → Result (List Decl) Stuck
file f zero ts = Err (Bad (length ts))
file f (suc n) [] = Ok []
file f (suc n) (t ∷ ts) = file_on (f (t ∷ ts)) (file f n)

unfoldable pub whole : ℕ → ℕ → List Token → Result (List Decl) Stuck
whole n v ts = file (decl_at (read n v Exprs)) (length ts + 1) ts

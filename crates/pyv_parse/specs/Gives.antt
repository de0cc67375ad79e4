-- What the parser's functions give, by the readers on lists.
use Rattle.std.specs.Prelude.{◌≡◌, ℕ, suc, max, Bool, true, false, List, [], ◌∷◌, ◌++◌, Option, None, Result, Ok, Err}
use Rattle.pyv_lex.specs.declared.token.Kind.{Kind}
use Rattle.pyv_lex.specs.declared.token.Kind.TheVariants as kind
use Rattle.pyv_lex.specs.declared.token.Token.{Token}
use Rattle.pyv_grammar.specs.declared.tree.Bound.{Bound}
use Rattle.pyv_grammar.specs.declared.tree.Expr.{Expr}
use Rattle.pyv_grammar.specs.declared.tree.Expr.TheVariants as expr
use Rattle.pyv_grammar.specs.declared.reading.Found.{Found}
use Rattle.pyv_grammar.specs.declared.reading.Stuck.{Stuck}
use Rattle.pyv_grammar.specs.Grammar.{Level, Unary, Ands, Exprs}
use Rattle.pyv_grammar.specs.Reading.{Got, Reader, eat, ◌>>=◌, give, and_then, wants, found, read}
use Rattle.pyv_parse.specs.declared.halt.Halt.{Halt}
use Rattle.pyv_parse.specs.declared.halt.Halt.TheVariants as halt
use Rattle.pyv_parse.specs.declared.members.Connective.{Connective}
use Rattle.pyv_parse.specs.declared.members.Connective.TheVariants as connective
use Rattle.pyv_parse.specs.declared.members.Members.{Members}

-- reading ends with this fault, unless memory runs out
abbrev pub Fails : {Y : Type 0} → Halt → Result Y Stuck → Type 0
Fails halt.Memory got = Unit {0}
Fails (halt.Stuck fault) got = got ≡ Err fault

-- What a function returned, seen by see, is what reading gives, unless memory ran out.
abbrev pub Gives : {X Y : Type 0} → (X → Y) → Result X Halt → Result Y Stuck → Type 0
Gives see (Ok x) got = got ≡ Ok (see x)
Gives see (Err e) got = Fails e got

-- what a function that takes memory alone returns
abbrev pub Makes : {X : Type 0} → Result X Halt → X → Type 0
Makes (Ok x) y = x ≡ y
Makes (Err e) y = e ≡ halt.Memory

-- The token behind an operand, where it is of this kind. Where the operand ends open, none may stand there.
abbrev pub eat_behind : (ends_open : Bool) → Kind → List Token → Option (Token × List Token)
eat_behind true k ts = None
eat_behind false k ts = eat k ts

-- ---- lists, whose items are put behind those before one by one

abbrev pub put_all : {M A : Type 0} → (M → A → M) → M → List A → M
put_all put m [] = m
put_all put m (x ∷ xs) = put_all put (put m x) xs

abbrev pub gathered : {M A : Type 0} → (M → A → M) → M → Got (List A) → Got M
gathered put m got = got >>= λ y. give (put_all put m y.0) y.1

abbrev pub put_last : {A : Type 0} → List A → A → List A
put_last xs x = xs ++ x ∷ []

-- ---- operands and arguments

abbrev pub no_members : Members
no_members = record { trees = []; ends_open = false; height = 0 }

abbrev pub put_member : Members → Found → Members
put_member m x = record { trees = m.trees ++ x.tree ∷ []; ends_open = x.ends_open; height = max m.height x.height }

abbrev pub sign_of : Connective → Kind
sign_of connective.And = kind.Amp
sign_of connective.Or = kind.Bar

abbrev pub operand_of : Connective → Level
operand_of connective.And = Unary
operand_of connective.Or = Ands

abbrev pub node_for : Connective → ℕ → List Expr → Expr
node_for connective.And = expr.And
node_for connective.Or = expr.Or

-- ---- quantifiers

abbrev pub quantifier_of : (universal : Bool) → ℕ → List Bound → Expr → Expr
quantifier_of false = expr.Ex
quantifier_of true = expr.All

-- ---- conditionals

-- the height of a conditional whose parts have these heights
unfoldable pub above : ℕ → ℕ → ℕ → ℕ
above a b c = suc (max a (max b c))

-- a part behind its word
unfoldable pub part_at : Kind → Reader Found → Reader Found
part_at k e = and_then (wants k) (λ _. e)

-- what follows `if`, part by part
abbrev pub chosen_at : Reader Found → Token → Reader Found
chosen_at e t = and_then e (λ x. and_then (part_at kind.Then e) (λ y. and_then (part_at kind.Else e) (λ z.
    give (found (expr.If t.span.from x.tree y.tree z.tree) true (above x.height y.height z.height)))))

-- ---- expressions of declarations

-- an expression within the limits
unfoldable pub body_at : Reader Found
body_at = read 200 6 Exprs

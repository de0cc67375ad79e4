-- The grammar, by cases on trees.
use Rattle.std.specs.Prelude.{◌≡◌, ℕ, suc, max, ◌≤◌, ◌⊎◌, Bool, true, false, List, [], ◌∷◌, ◌++◌, Option, None, Some}
use Rattle.pv_base.specs.declared.Span.{Span}
use Rattle.pyv_lex.specs.declared.token.Kind.{Kind}
use Rattle.pyv_lex.specs.declared.token.Kind.TheVariants as kind
use Rattle.pyv_lex.specs.declared.token.Token.{Token}
use Rattle.pyv_grammar.specs.declared.tree.Bound.{Bound}
use Rattle.pyv_grammar.specs.declared.tree.Expr.{Expr}
use Rattle.pyv_grammar.specs.declared.tree.Expr.TheVariants as expr
use Rattle.pyv_grammar.specs.declared.tree.Decl.{Decl}
use Rattle.pyv_grammar.specs.declared.tree.Decl.TheVariants as decl

-- ---- lists

-- one item or more, with tokens of this kind between them
abbrev pub Separated : {A : Type 0} → Kind → (A → List Token → Type 0) → List A → List Token → Type 0
Separated k Item [] s = ⊥
Separated k Item (x ∷ []) s = Item x s
Separated k Item (x ∷ y ∷ ys) s = (a : List Token) × (t : Token) × (b : List Token) × (s ≡ a ++ t ∷ b) × Item x a × (t.kind ≡ k) × Separated k Item (y ∷ ys) b

-- items between round brackets, with commas between them; there may be none
abbrev pub InBrackets : {A : Type 0} → (A → List Token → Type 0) → List A → List Token → Type 0
InBrackets Item [] s = (l : Token) × (r : Token) × (s ≡ l ∷ r ∷ []) × (l.kind ≡ kind.RoundLeft) × (r.kind ≡ kind.RoundRight)
InBrackets Item (x ∷ xs) s = (l : Token) × (a : List Token) × (r : Token) × (s ≡ l ∷ (a ++ r ∷ [])) × (l.kind ≡ kind.RoundLeft) × (r.kind ≡ kind.RoundRight) × Separated kind.Comma Item (x ∷ xs) a

-- a name
pub data IsName : Span → List Token → Type 0 where
  name : (t : Token) → t.kind ≡ kind.Word → IsName t.span (t ∷ [])

-- a variable where it is bound: a name, and after a colon its sort
pub data IsBound : Bound → List Token → Type 0 where
  bare : (t : Token) → t.kind ≡ kind.Word → IsBound (record { name = t.span; sort = None }) (t ∷ [])
  sorted : (t c s : Token) → t.kind ≡ kind.Word → c.kind ≡ kind.Colon → s.kind ≡ kind.Word → IsBound (record { name = t.span; sort = Some s.span }) (t ∷ c ∷ s ∷ [])

-- ---- expressions

-- how tightly an expression holds together
pub data Level : Type 0 where
  Atom : Level
  Unary : Level
  Ands : Level
  Ors : Level
  Imps : Level
  Exprs : Level

-- what is spelled: one expression of a level, or members of a level with signs of a kind between them
pub data Shape : Type 0 where
  One : Level → Expr → Shape
  Members : Level → Kind → List Expr → Shape

-- an optional sign before a list
abbrev pub IsLead : Kind → List Token → Type 0
IsLead k [] = Unit {0}
IsLead k (t ∷ []) = t.kind ≡ k
IsLead k (t ∷ u ∷ ts) = ⊥

-- A member before a sign doesn't end open; one before a comma may.
abbrev pub Between : Kind → Bool → Type 0
Between kind.Comma ends_open = Unit {0}
Between _ ends_open = ends_open ≡ false

-- Spells shape ends_open depth height tokens: the tokens spell it. Where ends_open is true they end with the body of
-- a quantifier or the last part of a conditional, outside brackets. The depth is the greatest nesting of a token
-- in it: how many round brackets, `!`, quantifiers, `if` and `->` are open before it. The height is that of `<->` and
-- `if` inside each other. An operand that isn't the last one doesn't end open.
pub data Spells : Shape → Bool → ℕ → ℕ → List Token → Type 0 where
  name : (t : Token) → t.kind ≡ kind.Word → Spells (One Atom (expr.Name t.span false [])) false 0 0 (t ∷ [])
  call_none : (t l r : Token) → t.kind ≡ kind.Word → l.kind ≡ kind.RoundLeft → r.kind ≡ kind.RoundRight → Spells (One Atom (expr.Name t.span true [])) false 1 0 (t ∷ l ∷ r ∷ [])
  call : (t l r : Token) (args : List Expr) (o : Bool) (d h : ℕ) (s : List Token) → t.kind ≡ kind.Word → l.kind ≡ kind.RoundLeft → r.kind ≡ kind.RoundRight
      → Spells (Members Exprs kind.Comma args) o d h s → Spells (One Atom (expr.Name t.span true args)) false (suc d) h (t ∷ l ∷ (s ++ r ∷ []))
  truth : (t : Token) → t.kind ≡ kind.True → Spells (One Atom (expr.True t.span.from)) false 0 0 (t ∷ [])
  falsity : (t : Token) → t.kind ≡ kind.False → Spells (One Atom (expr.False t.span.from)) false 0 0 (t ∷ [])
  new : (t l r : Token) (x : Expr) (o : Bool) (d h : ℕ) (s : List Token) → t.kind ≡ kind.New → l.kind ≡ kind.RoundLeft → r.kind ≡ kind.RoundRight
      → Spells (One Exprs x) o d h s → Spells (One Atom (expr.New t.span.from x)) false (suc d) h (t ∷ l ∷ (s ++ r ∷ []))
  distinct : (t l r : Token) (xs : List Expr) (o : Bool) (d h : ℕ) (s : List Token) → t.kind ≡ kind.Distinct → l.kind ≡ kind.RoundLeft → r.kind ≡ kind.RoundRight
      → Spells (Members Exprs kind.Comma xs) o d h s → Spells (One Atom (expr.Distinct t.span.from xs)) false (suc d) h (t ∷ l ∷ (s ++ r ∷ []))
  bracket : (l r : Token) (x : Expr) (o : Bool) (d h : ℕ) (s : List Token) → l.kind ≡ kind.RoundLeft → r.kind ≡ kind.RoundRight
      → Spells (One Exprs x) o d h s → Spells (One Atom x) false (suc d) h (l ∷ (s ++ r ∷ []))
  atom : (x : Expr) (d h : ℕ) (s : List Token) → Spells (One Atom x) false d h s → Spells (One Unary x) false d h s
  equal : (t : Token) (x y : Expr) (d e h i : ℕ) (a b : List Token) → t.kind ≡ kind.Equal → Spells (One Atom x) false d h a → Spells (One Atom y) false e i b
      → Spells (One Unary (expr.Equal t.span.from x y)) false (max d e) (max h i) (a ++ t ∷ b)
  unequal : (t : Token) (x y : Expr) (d e h i : ℕ) (a b : List Token) → t.kind ≡ kind.Unequal → Spells (One Atom x) false d h a → Spells (One Atom y) false e i b
      → Spells (One Unary (expr.Unequal t.span.from x y)) false (max d e) (max h i) (a ++ t ∷ b)
  not : (t : Token) (x : Expr) (o : Bool) (d h : ℕ) (s : List Token) → t.kind ≡ kind.Bang → Spells (One Unary x) o d h s → Spells (One Unary (expr.Not t.span.from x)) o (suc d) h (t ∷ s)
  all : (t c : Token) (bs : List Bound) (x : Expr) (o : Bool) (d h : ℕ) (b s : List Token) → t.kind ≡ kind.Forall → c.kind ≡ kind.Dot → Separated kind.Comma IsBound bs b
      → Spells (One Exprs x) o d h s → Spells (One Unary (expr.All t.span.from bs x)) true (suc d) h (t ∷ (b ++ c ∷ s))
  some : (t c : Token) (bs : List Bound) (x : Expr) (o : Bool) (d h : ℕ) (b s : List Token) → t.kind ≡ kind.Exists → c.kind ≡ kind.Dot → Separated kind.Comma IsBound bs b
      → Spells (One Exprs x) o d h s → Spells (One Unary (expr.Ex t.span.from bs x)) true (suc d) h (t ∷ (b ++ c ∷ s))
  conditional : (t u v : Token) (x y z : Expr) (o p q : Bool) (d e f h i j : ℕ) (a b c : List Token) → t.kind ≡ kind.If → u.kind ≡ kind.Then → v.kind ≡ kind.Else
      → Spells (One Exprs x) o d h a → Spells (One Exprs y) p e i b → Spells (One Exprs z) q f j c
      → Spells (One Unary (expr.If t.span.from x y z)) true (suc (max d (max e f))) (suc (max h (max i j))) (t ∷ (a ++ u ∷ (b ++ v ∷ c)))
  and_one : (x : Expr) (o : Bool) (d h : ℕ) (lead s : List Token) → IsLead kind.Amp lead → Spells (One Unary x) o d h s → Spells (One Ands x) o d h (lead ++ s)
  ands : (t : Token) (x : Expr) (xs : List Expr) (o : Bool) (d e h i : ℕ) (lead a b : List Token) → IsLead kind.Amp lead → t.kind ≡ kind.Amp
      → Spells (One Unary x) false d h a → Spells (Members Unary kind.Amp xs) o e i b → Spells (One Ands (expr.And t.span.from (x ∷ xs))) o (max d e) (max h i) (lead ++ (a ++ t ∷ b))
  or_one : (x : Expr) (o : Bool) (d h : ℕ) (lead s : List Token) → IsLead kind.Bar lead → Spells (One Ands x) o d h s → Spells (One Ors x) o d h (lead ++ s)
  ors : (t : Token) (x : Expr) (xs : List Expr) (o : Bool) (d e h i : ℕ) (lead a b : List Token) → IsLead kind.Bar lead → t.kind ≡ kind.Bar
      → Spells (One Ands x) false d h a → Spells (Members Ands kind.Bar xs) o e i b → Spells (One Ors (expr.Or t.span.from (x ∷ xs))) o (max d e) (max h i) (lead ++ (a ++ t ∷ b))
  last : (l : Level) (k : Kind) (x : Expr) (o : Bool) (d h : ℕ) (s : List Token) → Spells (One l x) o d h s → Spells (Members l k (x ∷ [])) o d h s
  before : (l : Level) (k : Kind) (t : Token) (x : Expr) (xs : List Expr) (p o : Bool) (d e h i : ℕ) (a b : List Token) → t.kind ≡ k → Between k p
      → Spells (One l x) p d h a → Spells (Members l k xs) o e i b → Spells (Members l k (x ∷ xs)) o (max d e) (max h i) (a ++ t ∷ b)
  imp_one : (x : Expr) (o : Bool) (d h : ℕ) (s : List Token) → Spells (One Ors x) o d h s → Spells (One Imps x) o d h s
  implies : (t : Token) (x y : Expr) (o : Bool) (d e h i : ℕ) (a b : List Token) → t.kind ≡ kind.Implies
      → Spells (One Ors x) false d h a → Spells (One Imps y) o e i b → Spells (One Imps (expr.Implies t.span.from x y)) o (max d (suc e)) (max h i) (a ++ t ∷ b)
  expr_one : (x : Expr) (o : Bool) (d h : ℕ) (s : List Token) → Spells (One Imps x) o d h s → Spells (One Exprs x) o d h s
  iff : (t : Token) (x y : Expr) (o : Bool) (d e h i : ℕ) (a b : List Token) → t.kind ≡ kind.Iff
      → Spells (One Imps x) false d h a → Spells (One Imps y) o e i b → Spells (One Exprs (expr.Iff t.span.from x y)) o (max d e) (suc (max h i)) (a ++ t ∷ b)

-- how deep and how high expressions may be
pub data Limits : Type 0 where
  Endless : Limits
  Within : (depth : ℕ) → (height : ℕ) → Limits

abbrev pub Fits : Limits → ℕ → ℕ → Type 0
Fits Endless d h = Unit {0}
Fits (Within depth height) d h = (d ≤ depth) × (h ≤ height)

-- an expression within the limits
pub record IsExpr (limits : Limits) (x : Expr) (s : List Token) : Type 0 where
  pub ends_open : Bool
  pub depth : ℕ
  pub height : ℕ
  pub spells : Spells (One Exprs x) ends_open depth height s
  pub fits : Fits limits depth height

-- ---- declarations

-- whether a symbol is mutable
pub data IsMutability : Bool → Kind → Type 0 where
  mutable : IsMutability true kind.Mutable
  immutable : IsMutability false kind.Immutable

-- the word before an expression, and the declaration that they make
pub data IsClaim : Kind → (Expr → Decl) → Type 0 where
  axiom_ : IsClaim kind.Axiom decl.Axiom
  init : IsClaim kind.Init decl.Init
  safety : IsClaim kind.Safety decl.Safety
  invariant : IsClaim kind.Invariant decl.Invariant

-- a label, or nothing
pub data IsLabel : List Token → Type 0 where
  none : IsLabel []
  label : (l t r : Token) → l.kind ≡ kind.SquareLeft → t.kind ≡ kind.Word → r.kind ≡ kind.SquareRight → IsLabel (l ∷ t ∷ r ∷ [])

-- what a transition may modify, or nothing
pub data IsModifies : List Span → List Token → Type 0 where
  none : IsModifies [] []
  modifies : (t : Token) (names : List Span) (s : List Token) → t.kind ≡ kind.Modifies → Separated kind.Comma IsName names s → IsModifies names (t ∷ s)

-- tokens in which each curly bracket has its match
pub data IsBalanced : List Token → Type 0 where
  none : IsBalanced []
  other : (t : Token) (s : List Token) → ¬ (t.kind ≡ kind.CurlyLeft) → ¬ (t.kind ≡ kind.CurlyRight) → IsBalanced s → IsBalanced (t ∷ s)
  braces : (l r : Token) (a b : List Token) → l.kind ≡ kind.CurlyLeft → r.kind ≡ kind.CurlyRight → IsBalanced a → IsBalanced b → IsBalanced (l ∷ (a ++ r ∷ b))

pub data SpellsDecl (limits : Limits) : Decl → List Token → Type 0 where
  sort : (t w : Token) → t.kind ≡ kind.Sort → w.kind ≡ kind.Word → SpellsDecl limits (decl.Sort w.span) (t ∷ w ∷ [])
  fact : (m t w : Token) (k : Kind) (b : Bool) → m.kind ≡ k → IsMutability b k → t.kind ≡ kind.Relation → w.kind ≡ kind.Word → SpellsDecl limits (decl.Relation b w.span []) (m ∷ t ∷ w ∷ [])
  relation : (m t w : Token) (k : Kind) (b : Bool) (args : List Span) (s : List Token) → m.kind ≡ k → IsMutability b k → t.kind ≡ kind.Relation → w.kind ≡ kind.Word → InBrackets IsName args s
      → SpellsDecl limits (decl.Relation b w.span args) (m ∷ t ∷ w ∷ s)
  constant : (m t w c r : Token) (k : Kind) (b : Bool) → m.kind ≡ k → IsMutability b k → t.kind ≡ kind.Constant → w.kind ≡ kind.Word → c.kind ≡ kind.Colon → r.kind ≡ kind.Word
      → SpellsDecl limits (decl.Constant b w.span r.span) (m ∷ t ∷ w ∷ c ∷ r ∷ [])
  function : (m t w c r : Token) (k : Kind) (b : Bool) (arg : Span) (args : List Span) (s : List Token) → m.kind ≡ k → IsMutability b k → t.kind ≡ kind.Function → w.kind ≡ kind.Word
      → InBrackets IsName (arg ∷ args) s → c.kind ≡ kind.Colon → r.kind ≡ kind.Word → SpellsDecl limits (decl.Function b w.span (arg ∷ args) r.span) (m ∷ t ∷ w ∷ (s ++ c ∷ r ∷ []))
  claim : (t : Token) (k : Kind) (make : Expr → Decl) (x : Expr) (a s : List Token) → t.kind ≡ k → IsClaim k make → IsLabel a → IsExpr limits x s → SpellsDecl limits (make x) (t ∷ (a ++ s))
  transition : (t w : Token) (params : List Bound) (names : List Span) (x : Expr) (a b s : List Token) → t.kind ≡ kind.Transition → w.kind ≡ kind.Word → InBrackets IsBound params a
      → IsModifies names b → IsExpr limits x s → SpellsDecl limits (decl.Transition w.span params names x) (t ∷ w ∷ (a ++ (b ++ s)))
  trace : (v t l r : Token) (s : List Token) → (v.kind ≡ kind.Sat) ⊎ (v.kind ≡ kind.Unsat) → t.kind ≡ kind.Trace → l.kind ≡ kind.CurlyLeft → r.kind ≡ kind.CurlyRight → IsBalanced s
      → SpellsDecl limits decl.Trace (v ∷ t ∷ l ∷ (s ++ r ∷ []))

-- the declarations of a file, one after the other
pub data SpellsFile (limits : Limits) : List Decl → List Token → Type 0 where
  end : SpellsFile limits [] []
  then : (x : Decl) (xs : List Decl) (a b : List Token) → SpellsDecl limits x a → SpellsFile limits xs b → SpellsFile limits (x ∷ xs) (a ++ b)

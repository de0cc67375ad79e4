-- A token at the front.
use Rattle.std.proofs.Common.{◌≡◌, ℕ, Bool, true, false, cond, eqb, List, [], ◌∷◌, ◌++◌, get_or, Option, Some, None, refl, sym, ap, ◌∙◌, ◌⊎◌, inl, inr}
use Rattle.std.proofs.lemmas.Bool.{eqb-true, eq-eqb}
use Rattle.pyv_lex.specs.declared.token.Kind.{Kind}
use Rattle.pyv_lex.specs.declared.token.Kind.TheVariants as kind
use Rattle.pyv_lex.specs.declared.token.Token.{Token}
use Rattle.pyv_grammar.specs.Reading.{number, eat}

kinds : List Kind
kinds = kind.Sort ∷ kind.Mutable ∷ kind.Immutable ∷ kind.Relation ∷ kind.Constant ∷ kind.Function ∷ kind.Axiom ∷ kind.Init ∷ kind.Transition ∷ kind.Modifies ∷ kind.Safety ∷ kind.Invariant ∷ kind.Forall ∷ kind.Exists ∷ kind.New ∷ kind.True ∷ kind.False ∷ kind.Distinct ∷ kind.If ∷ kind.Then ∷ kind.Else ∷ kind.Sat ∷ kind.Unsat ∷ kind.Trace ∷ kind.Theorem ∷ kind.Derived ∷ kind.Definition ∷ kind.Onestate ∷ kind.Twostate ∷ kind.Zerostate ∷ kind.Automaton ∷ kind.Sketch ∷ kind.LetWord ∷ kind.BoolWord ∷ kind.IntWord ∷ kind.Iff ∷ kind.Implies ∷ kind.Unequal ∷ kind.Equal ∷ kind.Bang ∷ kind.Amp ∷ kind.Bar ∷ kind.RoundLeft ∷ kind.RoundRight ∷ kind.SquareLeft ∷ kind.SquareRight ∷ kind.CurlyLeft ∷ kind.CurlyRight ∷ kind.Comma ∷ kind.Dot ∷ kind.Colon ∷ kind.Word ∷ kind.Number ∷ kind.Other ∷ []

number-back : (k : Kind) → get_or kinds (number k) kind.Other ≡ k
unfolding kinds
number-back kind.Sort = refl
number-back kind.Mutable = refl
number-back kind.Immutable = refl
number-back kind.Relation = refl
number-back kind.Constant = refl
number-back kind.Function = refl
number-back kind.Axiom = refl
number-back kind.Init = refl
number-back kind.Transition = refl
number-back kind.Modifies = refl
number-back kind.Safety = refl
number-back kind.Invariant = refl
number-back kind.Forall = refl
number-back kind.Exists = refl
number-back kind.New = refl
number-back kind.True = refl
number-back kind.False = refl
number-back kind.Distinct = refl
number-back kind.If = refl
number-back kind.Then = refl
number-back kind.Else = refl
number-back kind.Sat = refl
number-back kind.Unsat = refl
number-back kind.Trace = refl
number-back kind.Theorem = refl
number-back kind.Derived = refl
number-back kind.Definition = refl
number-back kind.Onestate = refl
number-back kind.Twostate = refl
number-back kind.Zerostate = refl
number-back kind.Automaton = refl
number-back kind.Sketch = refl
number-back kind.LetWord = refl
number-back kind.BoolWord = refl
number-back kind.IntWord = refl
number-back kind.Iff = refl
number-back kind.Implies = refl
number-back kind.Unequal = refl
number-back kind.Equal = refl
number-back kind.Bang = refl
number-back kind.Amp = refl
number-back kind.Bar = refl
number-back kind.RoundLeft = refl
number-back kind.RoundRight = refl
number-back kind.SquareLeft = refl
number-back kind.SquareRight = refl
number-back kind.CurlyLeft = refl
number-back kind.CurlyRight = refl
number-back kind.Comma = refl
number-back kind.Dot = refl
number-back kind.Colon = refl
number-back kind.Word = refl
number-back kind.Number = refl
number-back kind.Other = refl

pub same_kind : (a b : Kind) → number a ≡ number b → a ≡ b
same_kind a b e = sym (number-back a) ∙ ap (λ n. get_or kinds n kind.Other) e ∙ number-back b

abbrev pub first : List Token → Option Token
first [] = None
first (t ∷ ts) = Some t

pub record Eaten (k : Kind) (ts : List Token) (t : Token) (r : List Token) : Type 0 where
  pub kind : t.kind ≡ k
  pub parts : ts ≡ t ∷ r

some_is : (k : Kind) (u : Token) (ts : List Token) (t : Token) (r : List Token) (b : Bool) → eqb (number u.kind) (number k) ≡ b → cond {A = Option (Token × List Token)} b (Some (u, ts)) None ≡ Some (t, r) → Eaten k (u ∷ ts) t r
some_is k u ts t r false h e = absurd cc
some_is k u ts t r true h e =
    let p : (u, ts) ≡ (t, r) = cc in
    record { kind = ap (λ (x : Token × List Token). x.0.kind) (sym p) ∙ same_kind u.kind k (eqb-true _ _ h); parts = ap (λ (x : Token × List Token). x.0 ∷ x.1) p }

pub eat-some : (k : Kind) (ts : List Token) (t : Token) (r : List Token) → eat k ts ≡ Some (t, r) → Eaten k ts t r
unfolding eat
eat-some k [] t r e = absurd cc
eat-some k (u ∷ ts) t r e = some_is k u ts t r (eqb (number u.kind) (number k)) refl e

pub eat-here : (k : Kind) (t : Token) (r : List Token) → t.kind ≡ k → eat k (t ∷ r) ≡ Some (t, r)
unfolding eat
eat-here k t r h = rw (eq-eqb (number t.kind) (number k) (ap number h)) refl

other : (b : Bool) (t : Token) (r : List Token) → (b ≡ true → ⊥) → cond {A = Option (Token × List Token)} b (Some (t, r)) None ≡ None
other true t r h = absurd (h refl)
other false t r h = refl

pub eat-other : (k : Kind) (t : Token) (r : List Token) → (t.kind ≡ k → ⊥) → eat k (t ∷ r) ≡ None
unfolding eat
eat-other k t r h = other (eqb (number t.kind) (number k)) t r (λ e. h (same_kind t.kind k (eqb-true _ _ e)))

none_too : (b : Bool) (t u : Token) (r s : List Token) (c : Bool) → b ≡ c → cond {A = Option (Token × List Token)} c (Some (t, r)) None ≡ None → cond {A = Option (Token × List Token)} b (Some (u, s)) None ≡ None
none_too true t u r s true h e = absurd cc
none_too true t u r s false h e = absurd cc
none_too false t u r s c h e = refl

pub eat-none : (k : Kind) (r s : List Token) → first r ≡ first s → eat k r ≡ None → eat k s ≡ None
unfolding eat
eat-none k [] [] h e = refl
eat-none k [] (t ∷ s) h e = absurd cc
eat-none k (t ∷ r) [] h e = absurd cc
eat-none k (t ∷ r) (u ∷ s) h e = none_too (eqb (number u.kind) (number k)) t u r s (eqb (number t.kind) (number k)) (let p : u ≡ t = cc in ap (λ (x : Token). eqb (number x.kind) (number k)) p) e

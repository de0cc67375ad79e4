-- Worked cases: what the definitions give for small files, by computing.
use Rattle.std.proofs.Common.{◌≡◌, ℕ, zero, suc, ◌+◌, ◌++◌, true, false, List, [], ◌∷◌, refl}
use Rattle.std.specs.Prelude.{Some, None, codes}
use Rattle.fo_core.specs.declared.names.Names.{Names}
use Rattle.fo_core.specs.declared.signature.Sig.{Sig}
use Rattle.fo_core.specs.declared.formula.Formula.TheVariants as F
use Rattle.fo_core.specs.declared.term.Term.TheVariants as T
use Rattle.pyv_meaning.specs.declared.fault.SortFault.TheVariants as fault
use Rattle.pyv_meaning.specs.declared.variable.Use.TheVariants.{Binder as Binds, Is, Alike}
use Rattle.pyv_meaning.specs.Bodies as bodies
use Rattle.pyv_meaning.specs.Declaring as declaring
use Rattle.pyv_meaning.specs.Items as item
use Rattle.pyv_meaning.specs.Items.{Item, Body}
use Rattle.pyv_meaning.specs.Scope.{resolve}
use Rattle.pyv_meaning.specs.Tree as tree
use Rattle.pyv_meaning.specs.Tree.{Name, Tree, Trees, none, more}

abbrev n : ℕ → List ℕ → Name
n p w = record { place = p; word = w }

abbrev s : List ℕ
s = codes "s"

abbrev p : List ℕ
p = codes "p"

abbrev q : List ℕ
q = codes "q"

abbrev f : List ℕ
f = codes "f"

abbrev c : List ℕ
c = codes "c"

abbrev x : List ℕ
x = codes "X"

abbrev y : List ℕ
y = codes "Y"

abbrev u : List ℕ
u = codes "u"

abbrev d : List ℕ
d = codes "d"

-- sort s, sort u, mutable relation p(s), immutable relation q(s, u), immutable function f(s): u, immutable constant c: s,
-- mutable constant d: u; the sort u is declared behind its first use
abbrev items : List Item
items =
    item.Sort (n 1 s) ∷ item.Symbol (record { name = n 2 p; mutable = true; args = n 3 s ∷ []; result = None })
    ∷ item.Symbol (record { name = n 4 q; mutable = false; args = n 5 s ∷ n 6 u ∷ []; result = None })
    ∷ item.Sort (n 7 u)
    ∷ item.Symbol (record { name = n 8 f; mutable = false; args = n 9 s ∷ []; result = Some (n 10 u) })
    ∷ item.Symbol (record { name = n 11 c; mutable = false; args = []; result = Some (n 12 s) })
    ∷ item.Symbol (record { name = n 13 d; mutable = true; args = []; result = Some (n 14 u) }) ∷ []

no_fault : declaring.declared_fault items [] items ≡ None
no_fault = refl

abbrev names : Names
names = declaring.names_in items

abbrev sig : Sig
sig = declaring.sig_in items

abbrev nm : ℕ → List ℕ → Tree
nm k w = tree.Named (n k w) false none

abbrev app1 : ℕ → List ℕ → Tree → Tree
app1 k w a = tree.Named (n k w) true (more a none)

abbrev app2 : ℕ → List ℕ → Tree → Tree → Tree
app2 k w a b = tree.Named (n k w) true (more a (more b none))

abbrev claim : Tree → Body
claim t = item.claim_body t

abbrev step : Tree → Body
step t = item.transition_body (record { name = n 100 (codes "n"); sort = Some (n 101 s) } ∷ []) (n 102 p ∷ []) t

new_outside : bodies.body_fault names sig (claim (tree.New 20 (app1 21 p (nm 22 c)))) ≡ Some (fault.NewOutsideStep 20)
unfolding resolve
new_outside = refl

new_twice : bodies.body_fault names sig (step (tree.New 20 (tree.New 21 (app1 22 p (nm 23 c))))) ≡ Some (fault.NewTwice 21)
unfolding resolve
new_twice = refl

not_mutable : bodies.body_fault names sig (item.transition_body [] (n 20 p ∷ n 21 q ∷ []) (tree.Truth 22 true)) ≡ Some (fault.NotMutable 21)
not_mutable = refl

unknown : bodies.body_fault names sig (claim (app1 20 p (nm 21 (codes "zz")))) ≡ Some (fault.UnknownName 21)
unfolding resolve
unknown = refl

arity : bodies.body_fault names sig (claim (app2 20 p (nm 21 x) (nm 22 x))) ≡ Some (fault.WrongArity 20)
unfolding resolve
arity = refl

variable_call : bodies.body_fault names sig (claim (app1 20 p (app1 21 x (nm 22 c)))) ≡ Some (fault.WrongArity 21)
unfolding resolve
variable_call = refl

variable_formula : bodies.body_fault names sig (claim (app1 20 x (nm 22 c))) ≡ Some (fault.NotAFormula 20)
unfolding resolve
variable_formula = refl

-- p(X) & q(X, Y): closed member by member
abbrev members : Tree
members = tree.Joined 25 tree.Conjunction (more (app1 20 p (nm 21 x)) (more (app2 30 q (nm 31 x) (nm 32 y)) none))

members_uses : bodies.body_uses names sig (claim members) ≡ Is 21 0 ∷ Binds 21 ∷ Is 21 0 ∷ Is 32 1 ∷ Binds 32 ∷ []
unfolding resolve
members_uses = refl

members_formula : bodies.body_formula names sig (claim members) (λ v. v)
    ≡ F.And (F.All 21 (F.Rel 0 0 (T.Var 0 ∷ [])) ∷ F.All 21 (F.All 32 (F.Rel 1 0 (T.Var 0 ∷ T.Var 1 ∷ []))) ∷ [])
unfolding resolve
members_formula = refl

-- p(X) | q(X, Y): closed as a whole
whole_formula : bodies.body_formula names sig (claim (tree.Joined 25 tree.Disjunction (more (app1 20 p (nm 21 x)) (more (app2 30 q (nm 31 x) (nm 32 y)) none)))) (λ v. v)
    ≡ F.All 21 (F.All 32 (F.Or (F.Rel 0 0 (T.Var 0 ∷ []) ∷ F.Rel 1 0 (T.Var 0 ∷ T.Var 1 ∷ []) ∷ [])))
unfolding resolve
whole_formula = refl

-- q(Y, X) & p(X): the order of the body
order_formula : bodies.body_formula names sig (claim (tree.Joined 25 tree.Conjunction (more (app1 20 p (nm 21 x)) (more (app2 30 q (nm 32 y) (nm 33 x)) none)))) (λ v. v)
    ≡ F.And (F.All 21 (F.Rel 0 0 (T.Var 0 ∷ [])) ∷ F.All 21 (F.All 32 (F.Rel 1 0 (T.Var 1 ∷ T.Var 0 ∷ []))) ∷ [])
unfolding resolve
order_formula = refl

-- new(p(n)) <-> p(N) | N = n, with n a parameter
step_formula : bodies.body_step names sig (step (tree.Connected 40 tree.Equivalence (tree.New 30 (app1 31 p (nm 32 x))) (tree.Joined 50 tree.Disjunction (more (app1 41 p (nm 42 x)) (more (tree.Compared 52 true (nm 51 x) (nm 53 (codes "n"))) none))))) (λ v. v)
    ≡ record {
      modifies = 0 ∷ [];
      params = 100 ∷ [];
      body = F.All 32 (F.And (
          F.Or (F.Not (F.Rel 0 1 (T.Var 1 ∷ [])) ∷ F.Or (F.Rel 0 0 (T.Var 1 ∷ []) ∷ F.Eq (T.Var 1) (T.Var 0) ∷ []) ∷ [])
          ∷ F.Or (F.Rel 0 1 (T.Var 1 ∷ []) ∷ F.Not (F.Or (F.Rel 0 0 (T.Var 1 ∷ []) ∷ F.Eq (T.Var 1) (T.Var 0) ∷ [])) ∷ []) ∷ []));
    }
unfolding resolve
step_formula = refl

-- new of a term inside an argument: p(c) stays, d is mutable
new_term : bodies.body_formula names sig (step (app2 30 q (nm 31 c) (tree.New 32 (nm 33 d)))) (λ v. v) ≡ F.Rel 1 0 (T.App 3 0 [] ∷ T.App 4 1 [] ∷ [])
unfolding resolve
new_term = refl

distinct_formula : bodies.body_formula names sig (claim (tree.Distinct 30 (more (nm 31 x) (more (nm 32 c) (more (nm 33 y) none))))) (λ v. v)
    ≡ F.All 31 (F.All 33 (F.And (F.Not (F.Eq (T.Var 0) (T.App 3 0 [])) ∷ F.Not (F.Eq (T.Var 0) (T.Var 1)) ∷ F.Not (F.Eq (T.App 3 0 []) (T.Var 1)) ∷ [])))
unfolding resolve
distinct_formula = refl

distinct_uses : bodies.body_uses names sig (claim (tree.Distinct 30 (more (nm 31 x) (more (nm 32 c) (more (nm 33 y) none))))) ≡ Is 31 0 ∷ Alike 31 33 ∷ Is 33 0 ∷ Binds 31 ∷ Binds 33 ∷ []
unfolding resolve
distinct_uses = refl

-- f(c) = c: the later side
clash_side : bodies.body_clash names sig (claim (tree.Compared 40 true (app1 30 f (nm 31 c)) (nm 41 c))) (λ v. v) ≡ Some (fault.SortClash 41)
unfolding resolve
clash_side = refl

-- q(c, c): the second argument
clash_argument : bodies.body_clash names sig (claim (app2 30 q (nm 31 c) (nm 32 c))) (λ v. v) ≡ Some (fault.SortClash 32)
unfolding resolve
clash_argument = refl

-- q(c, new(c))
clash_new : bodies.body_clash names sig (step (app2 30 q (nm 31 c) (tree.New 32 (nm 33 c)))) (λ v. v) ≡ Some (fault.SortClash 33)
unfolding resolve
clash_new = refl

-- a hidden symbol: forall p: s. p(p) is no formula; forall c. p(c)
hidden : bodies.body_fault names sig (claim (tree.Quantified 30 tree.Universal (record { name = n 31 p; sort = Some (n 32 s) } ∷ []) (app1 33 p (nm 34 p)))) ≡ Some (fault.NotAFormula 33)
unfolding resolve
hidden = refl

sort_unknown : bodies.body_fault names sig (claim (tree.Quantified 30 tree.Universal (record { name = n 31 p; sort = Some (n 32 x) } ∷ []) (app1 33 p (nm 34 p)))) ≡ Some (fault.UnknownName 32)
unfolding resolve
sort_unknown = refl

-- not a term: f(p(c)) ; the sign of a list stands behind its first member
not_term : bodies.body_fault names sig (claim (tree.Compared 40 true (nm 30 c) (tree.Joined 44 tree.Conjunction (more (app1 41 p (nm 42 c)) (more (tree.Truth 45 true) none))))) ≡ Some (fault.NotATerm 44)
unfolding resolve
not_term = refl

-- 17 terms
abbrev times : Trees → ℕ → Trees
times t zero = t
times t (suc k) = more (nm (60 + k) x) (times t k)

many_terms : bodies.body_fault names sig (claim (tree.Distinct 30 (times (more (tree.New 90 (nm 91 d)) none) 16))) ≡ Some (fault.NewOutsideStep 90)
unfolding resolve
many_terms = refl

many_step : bodies.body_fault names sig (step (tree.Distinct 30 (times (more (tree.New 90 (nm 91 d)) none) 16))) ≡ Some (fault.TooMany 90)
unfolding resolve
many_step = refl

few_step : bodies.body_fault names sig (step (tree.Distinct 30 (times (more (tree.New 90 (nm 91 d)) none) 15))) ≡ None
unfolding resolve
few_step = refl

twice : declaring.declared_fault (items ++ item.Sort (n 15 s) ∷ []) [] (items ++ item.Sort (n 15 s) ∷ []) ≡ Some (fault.TwiceDeclared 15)
twice = refl

-- a relation and a sort of one name are of two spaces
spaces : declaring.declared_fault (items ++ item.Sort (n 15 p) ∷ []) [] (items ++ item.Sort (n 15 p) ∷ []) ≡ None
spaces = refl

-- ---- 64 binders

abbrev letter : ℕ → List ℕ
letter k = 88 ∷ (48 + k) ∷ []

-- p(Xa) | p(Xb) | .., the last first
abbrev many_free : Trees → ℕ → Trees
many_free t zero = t
many_free t (suc k) = many_free (more (app1 (300 + k) p (nm (400 + k) (letter k))) t) k

-- a body may have 64 free variables, and the 65th is one too many
free_64 : bodies.body_fault names sig (claim (tree.Joined 20 tree.Disjunction (many_free none 64))) ≡ None
unfolding resolve
free_64 = refl

free_65 : bodies.body_fault names sig (claim (tree.Joined 20 tree.Disjunction (many_free none 65))) ≡ Some (fault.TooMany 464)
unfolding resolve
free_65 = refl

-- members are closed by themselves, so they have room each
members_65 : bodies.body_fault names sig (claim (tree.Joined 20 tree.Conjunction (many_free none 65))) ≡ None
unfolding resolve
members_65 = refl

-- behind a parameter and 63 free variables a bound one is one too many
bound_65 : bodies.body_fault names sig (step (tree.Joined 20 tree.Disjunction (more (tree.Quantified 30 tree.Universal (record { name = n 31 x; sort = None } ∷ []) (app1 32 p (nm 33 x))) (many_free none 63)))) ≡ Some (fault.TooMany 31)
unfolding resolve
bound_65 = refl

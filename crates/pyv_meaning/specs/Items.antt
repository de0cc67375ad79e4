-- The declarations of a file, with the bytes of their names.
use Rattle.std.specs.Prelude.{ℕ, ◌++◌, Bool, true, false, cond, List, [], ◌∷◌, map, Option, Some, None}
use Rattle.pyv_grammar.specs.declared.tree.Decl.{Decl}
use Rattle.pyv_grammar.specs.declared.tree.Decl.TheVariants as decl
use Rattle.pyv_meaning.specs.Tree.{Name, Binder, Tree}
use Rattle.pyv_meaning.specs.View.{name_of, names_of, binders_of, view}

-- a symbol: the names of its arguments' sorts, and of its values' sort, which a relation doesn't have
pub record SymbolItem : Type 0 where
  pub name : Name
  pub mutable : Bool
  pub args : List Name
  pub result : Option Name

-- an expression of a file, with what stands before it: the parameters of a transition, and the names of what it
-- modifies; `new` may stand where step is true
pub record Body : Type 0 where
  pub step : Bool
  pub params : List Binder
  pub modifies : List Name
  pub tree : Tree

pub data Role : Type 0 where
  Axiom : Role
  Init : Role
  Safety : Role
  Invariant : Role

pub data Item : Type 0 where
  Sort : Name → Item
  Symbol : SymbolItem → Item
  Claim : Role → Tree → Item
  -- its parameters, what it modifies, and its expression
  Transition : Name → List Binder → List Name → Tree → Item
  -- it says nothing of the system
  Trace : Item

abbrev pub claim_body : Tree → Body
claim_body x = record { step = false; params = []; modifies = []; tree = x }

abbrev pub transition_body : List Binder → List Name → Tree → Body
transition_body params modifies x = record { step = true; params = params; modifies = modifies; tree = x }

abbrev pub item_of : List ℕ → Decl → Item
item_of bytes (decl.Sort s) = Sort (name_of bytes s)
item_of bytes (decl.Relation m s args) = Symbol (record { name = name_of bytes s; mutable = m; args = names_of bytes args; result = None })
item_of bytes (decl.Constant m s r) = Symbol (record { name = name_of bytes s; mutable = m; args = []; result = Some (name_of bytes r) })
item_of bytes (decl.Function m s args r) = Symbol (record { name = name_of bytes s; mutable = m; args = names_of bytes args; result = Some (name_of bytes r) })
item_of bytes (decl.Axiom x) = Claim Axiom (view bytes x)
item_of bytes (decl.Init x) = Claim Init (view bytes x)
item_of bytes (decl.Safety x) = Claim Safety (view bytes x)
item_of bytes (decl.Invariant x) = Claim Invariant (view bytes x)
item_of bytes (decl.Transition s params modifies x) = Transition (name_of bytes s) (binders_of bytes params) (names_of bytes modifies) (view bytes x)
item_of bytes decl.Trace = Trace

abbrev pub items_of : List ℕ → List Decl → List Item
items_of bytes = map (item_of bytes)

abbrev pub is_role : Role → Role → Bool
is_role Axiom Axiom = true
is_role Init Init = true
is_role Safety Safety = true
is_role Invariant Invariant = true
is_role _ _ = false

-- ---- what of one kind a file declares, in order

abbrev pub sort_of : Item → List Name
sort_of (Sort n) = n ∷ []
sort_of _ = []

abbrev pub symbol_of : Item → List SymbolItem
symbol_of (Symbol s) = s ∷ []
symbol_of _ = []

abbrev pub transition_of : Item → List Name
transition_of (Transition n ps ms x) = n ∷ []
transition_of _ = []

abbrev pub step_of : Item → List Body
step_of (Transition n ps ms x) = transition_body ps ms x ∷ []
step_of _ = []

abbrev pub claim_of : Role → Item → List Body
claim_of r (Claim q x) = cond (is_role r q) (claim_body x ∷ []) []
claim_of r _ = []

abbrev pub body_of : Item → List Body
body_of (Claim q x) = claim_body x ∷ []
body_of (Transition n ps ms x) = transition_body ps ms x ∷ []
body_of _ = []

-- the lists that f gives, one after the other
abbrev pub joined_by : {A : Type 0} → (Item → List A) → List Item → List A
joined_by f [] = []
joined_by f (x ∷ xs) = f x ++ joined_by f xs

abbrev pub sorts : List Item → List Name
sorts = joined_by sort_of

abbrev pub symbols : List Item → List SymbolItem
symbols = joined_by symbol_of

abbrev pub transitions : List Item → List Name
transitions = joined_by transition_of

abbrev pub steps : List Item → List Body
steps = joined_by step_of

abbrev pub claims : Role → List Item → List Body
claims r = joined_by (claim_of r)

abbrev pub bodies : List Item → List Body
bodies = joined_by body_of

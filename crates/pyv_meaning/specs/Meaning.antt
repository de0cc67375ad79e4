-- The system that a tree means, and the first fault of a tree.
use Rattle.std.specs.Prelude.{◌≡◌, ℕ, ◌⊎◌, List, [], Some, None}
use Rattle.std.specs.List.{AllZip}
use Rattle.fo_core.specs.declared.names.Names.{Names}
use Rattle.fo_core.specs.declared.system.System.{System}
use Rattle.pyv_grammar.specs.declared.tree.Model.{Model}
use Rattle.pyv_meaning.specs.declared.fault.SortFault.{SortFault}
use Rattle.pyv_meaning.specs.declared.fault.SortFault.TheVariants.{Memory}
use Rattle.pyv_meaning.specs.Bodies.{ClaimMeans, StepMeans, IsFirstOfBodies}
use Rattle.pyv_meaning.specs.Declaring.{AreDeclared, names_in, sig_in, declared_fault}
use Rattle.pyv_meaning.specs.Items.{Item, Axiom, Init, Safety, Invariant, items_of, claims, steps, bodies}

-- the declarations mean the system, with these names of its sorts, symbols and transitions
pub record ItemsMean (items : List Item) (sys : System) (names : Names) : Type 0 where
  pub declared : AreDeclared items
  pub named : names ≡ names_in items
  pub signature : sys.sig ≡ sig_in items
  pub axioms : AllZip (ClaimMeans (names_in items) (sig_in items)) (claims Axiom items) sys.axioms
  pub inits : AllZip (ClaimMeans (names_in items) (sig_in items)) (claims Init items) sys.inits
  pub transitions : AllZip (StepMeans (names_in items) (sig_in items)) (steps items) sys.steps
  pub safeties : AllZip (ClaimMeans (names_in items) (sig_in items)) (claims Safety items) sys.safeties
  pub invariants : AllZip (ClaimMeans (names_in items) (sig_in items)) (claims Invariant items) sys.invariants

-- the tree of this text means the system
abbrev pub MeansSystem : List ℕ → Model → System → Names → Type 0
MeansSystem bytes m sys names = ItemsMean (items_of bytes m.decls) sys names

-- the first fault is that of the declarations; else that of the bodies, in order
abbrev pub IsFirstOfItems : List Item → SortFault → Type 0
IsFirstOfItems items f =
    (declared_fault items [] items ≡ Some f)
    ⊎ ((declared_fault items [] items ≡ None) × IsFirstOfBodies (names_in items) (sig_in items) (bodies items) f)

abbrev pub IsFirstFault : List ℕ → Model → SortFault → Type 0
IsFirstFault bytes m f = IsFirstOfItems (items_of bytes m.decls) f

-- what is told by a fault: it is the first one; want of memory is free
abbrev pub IsSortFault : List ℕ → Model → SortFault → Type 0
IsSortFault bytes m Memory = Unit {0}
IsSortFault bytes m f = IsFirstFault bytes m f

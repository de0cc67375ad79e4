-- Flat literals and cubes: when a state meets a cube, and a cube without one of its literals.
use Rattle.std.specs.Prelude.{◌≡◌, ℕ, suc, ◌<◌, Bool, true, false, nat_eq, List, [], ◌∷◌, ◌++◌, length, map, take, drop, slice_index, ⊤}
use Rattle.std.specs.List.{All, AllZip, filter, list_any, range_with_len}
use Rattle.fo_core.specs.declared.signature.Sig.{Sig}
use Rattle.fo_core.specs.declared.world.World.{World}
use Rattle.fo_core.specs.Tables.{symbol_at, entry}
use Rattle.fo_core.specs.Runs.{AreElements}
use Rattle.up_diagram.specs.declared.cube.Flat.{Flat}
use Rattle.up_diagram.specs.declared.cube.Flat.TheVariants.{Differ, Fact, Value}
use Rattle.up_diagram.specs.declared.cube.Cube.{Cube}

-- the elements that variables stand for
abbrev pub chosen : List ℕ → List ℕ → List ℕ
chosen xs variables = map (slice_index xs) variables

-- the fact holds, or it doesn't, as the sign says
abbrev pub HasSign : Bool → Type 0 → Type 0
HasSign true P = P
HasSign false P = ¬ P

-- a flat literal is true in copy c, where the variables stand for these elements
abbrev pub IsTrueFlat : Sig → World → ℕ → List ℕ → Flat → Type 0
IsTrueFlat sig w c xs (Differ i j) = ¬ (slice_index xs i ≡ slice_index xs j)
IsTrueFlat sig w c xs (Fact sign r variables) = HasSign sign (entry sig w c r (chosen xs variables) ≡ 1)
IsTrueFlat sig w c xs (Value f variables v) = entry sig w c f (chosen xs variables) ≡ slice_index xs v

-- copy c meets the cube: some elements for its variables make all its literals true
abbrev pub Meets : Sig → World → ℕ → Cube → Type 0
Meets sig w c cube = (xs : List ℕ) × AreElements w.sizes xs cube.sorts × All (IsTrueFlat sig w c xs) cube.lits

-- the variables of a literal
abbrev pub variables_in : Flat → List ℕ
variables_in (Differ i j) = i ∷ j ∷ []
variables_in (Fact sign r variables) = variables
variables_in (Value f variables v) = variables ++ v ∷ []

-- the variable is one of those of these sorts, and has this sort
pub record HasSort (sorts : List ℕ) (v s : ℕ) : Type 0 where
  pub within : v < length sorts
  pub sort : slice_index sorts v ≡ s

-- a symbol of the signature, of a kind, with variables of its arguments' sorts
pub record IsApplied (sig : Sig) (sorts : List ℕ) (relation : Bool) (k : ℕ) (variables : List ℕ) : Type 0 where
  pub symbol : k < length sig.symbols
  pub kind : (symbol_at sig k).relation ≡ relation
  pub arguments : AllZip (HasSort sorts) variables (symbol_at sig k).args

-- a literal under variables of these sorts: those that differ have one sort, and so have a function's
-- value and the variable that is it
abbrev pub IsFlat : Sig → List ℕ → Flat → Type 0
IsFlat sig sorts (Differ i j) = HasSort sorts i (slice_index sorts j) × (j < length sorts)
IsFlat sig sorts (Fact sign r variables) = IsApplied sig sorts true r variables
IsFlat sig sorts (Value f variables v) = IsApplied sig sorts false f variables × HasSort sorts v (symbol_at sig f).result

-- the literal's symbol, if it has one, is one of the signature
abbrev pub IsKnown : Sig → Flat → Type 0
IsKnown sig (Differ i j) = ⊤
IsKnown sig (Fact sign r variables) = r < length sig.symbols
IsKnown sig (Value f variables v) = f < length sig.symbols

-- a well-sorted cube
pub record IsCube (sig : Sig) (cube : Cube) : Type 0 where
  pub sorts : All (λ s. s < sig.sorts) cube.sorts
  pub lits : All (IsFlat sig cube.sorts) cube.lits

-- all variables of the literals are places in the list of sorts
abbrev pub HasPlaces : Cube → Type 0
HasPlaces cube = All (λ lit. All (λ v. v < length cube.sorts) (variables_in lit)) cube.lits

-- whether the variable stands in one of these literals
abbrev pub is_used : List Flat → ℕ → Bool
is_used lits v = list_any (λ lit. list_any (nat_eq v) (variables_in lit)) lits

-- the place of a variable once the unused ones are gone
abbrev pub new_place : List Flat → ℕ → ℕ
new_place lits v = length (filter (is_used lits) (range_with_len 0 v))

-- the literal with other variables
abbrev pub renamed : (ℕ → ℕ) → Flat → Flat
renamed f (Differ i j) = Differ (f i) (f j)
renamed f (Fact sign r variables) = Fact sign r (map f variables)
renamed f (Value g variables v) = Value g (map f variables) (f v)

-- the cube without the variables that stand in no literal
abbrev pub tightened : Cube → Cube
tightened cube = record {
  sorts = map (slice_index cube.sorts) (filter (is_used cube.lits) (range_with_len 0 (length cube.sorts)));
  lits = map (renamed (new_place cube.lits)) cube.lits;
}

-- the cube without the literal at this place, and then without the variables that stand in none
abbrev pub without : Cube → ℕ → Cube
without cube k = tightened (record { sorts = cube.sorts; lits = take k cube.lits ++ drop (suc k) cube.lits })

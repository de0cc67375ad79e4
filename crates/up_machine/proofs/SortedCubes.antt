-- A cube without a literal is well-sorted, as any cube that covers a well-sorted one; so is what a pass leaves.
use Rattle.std.proofs.Common.{ℕ, suc, ◌<◌, inl, inr, List, [], ◌∷◌, length, get_or, map, sym, subst, ◌∙◌, arith}
use Rattle.std.specs.Prelude.{slice_index}
use Rattle.std.specs.List.{All, AllZip}
use Rattle.std.proofs.lemmas.List.{get_or_default}
use Rattle.std.proofs.lemmas.List.Elements.{All-nil, All-cons, All-head, All-tail, All-append}
use Rattle.fo_core.specs.declared.signature.Sig.{Sig}
use Rattle.fo_core.specs.Tables.{symbol_at}
use Rattle.fo_core.proofs.ListFacts.{all_left}
use Rattle.fo_core.proofs.Zips.{AllZip-length, AllZip-at}
use Rattle.up_diagram.specs.declared.cube.Flat.{Flat}
use Rattle.up_diagram.specs.declared.cube.Flat.TheVariants.{Differ, Fact, Value}
use Rattle.up_diagram.specs.declared.cube.Cube.{Cube}
use Rattle.up_diagram.specs.Cubes.{HasSort, HasPlaces, IsFlat, IsCube, variables_in, renamed, without}
use Rattle.up_diagram.specs.Covers.{IsAlike, HasLiteral, Covers}
use Rattle.up_diagram.proofs.Covered.{last_of_all}
use Rattle.up_diagram.proofs.Leaving.{without_covers}
use Rattle.up_claims.specs.Blocked.{Passes, ends, drops, keeps}

module _ (sig : Sig) (sorts : List ℕ) where
  -- a literal that is alike is well-sorted too
  alike_flat : (lit other : Flat) → IsAlike lit other → IsFlat sig sorts other → IsFlat sig sorts lit
  alike_flat (Differ i j) other (inl e) f = subst (IsFlat sig sorts) e f
  alike_flat (Differ i j) other (inr e) f =
      let g = subst (IsFlat sig sorts) e f in
      (record { within = g.1; sort = sym g.0.sort }, g.0.within)
  alike_flat (Fact sign r variables) other e f = subst (IsFlat sig sorts) e f
  alike_flat (Value s variables v) other e f = subst (IsFlat sig sorts) e f

  found_flat : (lits : List Flat) → All (IsFlat sig sorts) lits → (lit : Flat) → HasLiteral lits lit → IsFlat sig sorts lit
  found_flat lits h lit c = alike_flat lit c.1 c.4 (subst (IsFlat sig sorts) c.3 (h c.0 c.1 c.2))

module _ (sig : Sig) (d c : Cube) (h : Covers d c) (is : IsCube sig c) where
  abbrev image : ℕ → ℕ
  image = slice_index h.images

  image_sort : (v : ℕ) → v < length d.sorts → HasSort c.sorts (image v) (slice_index d.sorts v)
  image_sort v lt =
      AllZip-at (HasSort c.sorts) h.images d.sorts v 0 0 h.sorts
      (omega (arith, lt, AllZip-length (HasSort c.sorts) h.images d.sorts h.sorts))

  sort_from : (v s : ℕ) → v < length d.sorts → HasSort c.sorts (image v) s → HasSort d.sorts v s
  sort_from v s lt g = record { within = lt; sort = sym (image_sort v lt).sort ∙ g.sort }

  sorts_from : (vs ss : List ℕ) → All (λ v. v < length d.sorts) vs → AllZip (HasSort c.sorts) (map image vs) ss → AllZip (HasSort d.sorts) vs ss
  sorts_from [] [] low g = tt
  sorts_from [] (s ∷ ss) low g = absurd g
  sorts_from (v ∷ vs) [] low g = absurd g
  sorts_from (v ∷ vs) (s ∷ ss) low g = (
    sort_from v s (All-head (λ v. v < length d.sorts) v vs low) g.0,
    sorts_from vs ss (All-tail (λ v. v < length d.sorts) v vs low) g.1,
  )

  flat_from : (lit : Flat) → All (λ v. v < length d.sorts) (variables_in lit) → IsFlat sig c.sorts (renamed image lit) → IsFlat sig d.sorts lit
  flat_from (Differ i j) low f =
      let first : i < length d.sorts = low 0 i (omega arith) in
      let second : j < length d.sorts = low 1 j (omega arith) in
      (sort_from i (slice_index d.sorts j) first (record { within = f.0.within; sort = f.0.sort ∙ (image_sort j second).sort }), second)
  flat_from (Fact sign r variables) low a = record {
    symbol = a.symbol;
    kind = a.kind;
    arguments = sorts_from variables (symbol_at sig r).args low a.arguments;
  }
  flat_from (Value s variables v) low f = (
    record {
      symbol = f.0.symbol;
      kind = f.0.kind;
      arguments = sorts_from variables (symbol_at sig s).args (all_left (λ v. v < length d.sorts) variables (v ∷ []) low) f.0.arguments;
    },
    sort_from v (symbol_at sig s).result (last_of_all (λ v. v < length d.sorts) variables v low) f.1,
  )

  pub covering-sorted : IsCube sig d
  covering-sorted = record {
    sorts =
        λ k s lt.
        subst (λ n. n < sig.sorts) ((image_sort k lt).sort ∙ get_or_default d.sorts k 0 s lt)
        (is.sorts (image k) 0 (image_sort k lt).within);
    lits =
        λ k lit lt.
        flat_from (get_or d.lits k lit) (h.places k lit lt)
        (found_flat sig c.sorts c.lits is.lits (renamed image (get_or d.lits k lit)) (h.literals k lit lt));
  }

-- the variables of a well-sorted cube's literals are places
module _ (sig : Sig) (sorts : List ℕ) where
  abbrev Low : ℕ → Type 0
  Low v = v < length sorts

  each_low : (vs ss : List ℕ) → AllZip (HasSort sorts) vs ss → All Low vs
  each_low [] ss h = All-nil Low
  each_low (v ∷ vs) [] h = absurd h
  each_low (v ∷ vs) (s ∷ ss) h = All-cons Low v vs h.0.within (each_low vs ss h.1)

  variables_low : (lit : Flat) → IsFlat sig sorts lit → All Low (variables_in lit)
  variables_low (Differ i j) f = All-cons Low i (j ∷ []) f.0.within (All-cons Low j [] f.1 (All-nil Low))
  variables_low (Fact sign r variables) a = each_low variables (symbol_at sig r).args a.arguments
  variables_low (Value s variables v) f =
      All-append Low variables (v ∷ []) (each_low variables (symbol_at sig s).args f.0.arguments)
      (All-cons Low v [] f.1.within (All-nil Low))

pub sorted-places : (sig : Sig) (cube : Cube) → IsCube sig cube → HasPlaces cube
sorted-places sig cube is k lit lt = variables_low sig cube.sorts (get_or cube.lits k lit) (is.lits k lit lt)

pub without-sorted : (sig : Sig) (cube : Cube) (k : ℕ) → IsCube sig cube → IsCube sig (without cube k)
without-sorted sig cube k is = covering-sorted sig (without cube k) cube (without_covers cube k (sorted-places sig cube is)) is

-- so what a pass leaves of a well-sorted cube is well-sorted
pub passed-sorted : (sig : Sig) (Good : Cube → Type 0) (k : ℕ) (cube rest : Cube) → IsCube sig cube → Passes Good k cube rest → IsCube sig rest
passed-sorted sig Good k cube rest is (ends _ _ h) = is
passed-sorted sig Good k cube rest is (drops _ _ _ lt good p) = passed-sorted sig Good k (without cube k) rest (without-sorted sig cube k is) p
passed-sorted sig Good k cube rest is (keeps _ _ _ lt bad p) = passed-sorted sig Good (suc k) cube rest is p

-- What meets a cube meets each cube that covers it.
use Rattle.std.proofs.Common.{◌≡◌, ℕ, zero, suc, ◌<◌, inl, inr, List, [], ◌∷◌, ◌++◌, length, get_or, map, refl, sym, ap, ap₂, subst, ◌∙◌, arith}
use Rattle.std.specs.Prelude.{slice_index}
use Rattle.std.specs.List.{All, AllZip}
use Rattle.std.proofs.lemmas.List.Elements.{All-head, All-tail}
use Rattle.fo_core.specs.declared.signature.Sig.{Sig}
use Rattle.fo_core.specs.declared.world.World.{World}
use Rattle.fo_core.specs.Tables.{entry}
use Rattle.fo_core.specs.Runs.{AreElements}
use Rattle.fo_core.proofs.Zips.{AllZip-length, AllZip-at}
use Rattle.fo_core.proofs.ListFacts.{all_left, all_right}
use Rattle.up_diagram.specs.declared.cube.Flat.{Flat}
use Rattle.up_diagram.specs.declared.cube.Flat.TheVariants.{Differ, Fact, Value}
use Rattle.up_diagram.specs.declared.cube.Cube.{Cube}
use Rattle.up_diagram.specs.Cubes.{chosen, HasSign, IsTrueFlat, Meets, HasSort, variables_in, renamed}
use Rattle.up_diagram.specs.Covers.{IsAlike, HasLiteral, Covers}

-- the element of a variable of d is that of its image
pub through : (xs images : List ℕ) (v : ℕ) → v < length images → slice_index (map (slice_index xs) images) v ≡ slice_index xs (slice_index images v)
through xs [] v lt = absurd (omega (arith, lt))
through xs (a ∷ images) zero lt = refl
through xs (a ∷ images) (suc v) lt = through xs images v (omega (arith, lt))

pub chosen_through : (xs images vs : List ℕ) → All (λ v. v < length images) vs → chosen (map (slice_index xs) images) vs ≡ chosen xs (map (slice_index images) vs)
chosen_through xs images [] h = refl
chosen_through xs images (v ∷ vs) h = ap₂ (λ y ys. y ∷ ys) (through xs images v (All-head (λ v. v < length images) v vs h)) (chosen_through xs images vs (All-tail (λ v. v < length images) v vs h))

elements_through : (w : World) (xs ss : List ℕ) → AreElements w.sizes xs ss → (images ds : List ℕ) → AllZip (HasSort ss) images ds → AreElements w.sizes (map (slice_index xs) images) ds
elements_through w xs ss e [] [] h = h
elements_through w xs ss e [] (d ∷ ds) h = absurd h
elements_through w xs ss e (v ∷ vs) [] h = absurd h
elements_through w xs ss e (v ∷ vs) (d ∷ ds) h =
    let within : v < length xs = omega (arith, h.0.within, AllZip-length (λ x s. x < slice_index w.sizes s) xs ss e) in
    (subst (λ s. slice_index xs v < slice_index w.sizes s) h.0.sort (AllZip-at (λ x s. x < slice_index w.sizes s) xs ss v 0 0 e within), elements_through w xs ss e vs ds h.1)

pub last_of_all : (P : ℕ → Type 0) (xs : List ℕ) (y : ℕ) → All P (xs ++ y ∷ []) → P y
last_of_all P xs y h = All-head P y [] (all_right P xs (y ∷ []) h)

module _ (sig : Sig) (w : World) (n : ℕ) (xs : List ℕ) where
  -- a literal that is alike is true too
  alike_true : (lit other : Flat) → IsAlike lit other → IsTrueFlat sig w n xs other → IsTrueFlat sig w n xs lit
  alike_true (Differ i j) other (inl e) t = subst (IsTrueFlat sig w n xs) e t
  alike_true (Differ i j) other (inr e) t = λ same. (subst (IsTrueFlat sig w n xs) e t) (sym same)
  alike_true (Fact sign r variables) other e t = subst (IsTrueFlat sig w n xs) e t
  alike_true (Value f variables v) other e t = subst (IsTrueFlat sig w n xs) e t

  found : (lits : List Flat) → All (IsTrueFlat sig w n xs) lits → (lit : Flat) → HasLiteral lits lit → IsTrueFlat sig w n xs lit
  found lits h lit c = alike_true lit c.1 c.4 (subst (IsTrueFlat sig w n xs) c.3 (h c.0 c.1 c.2))

  pub true_through : (images : List ℕ) (lit : Flat) → All (λ v. v < length images) (variables_in lit) → IsTrueFlat sig w n xs (renamed (slice_index images) lit) → IsTrueFlat sig w n (map (slice_index xs) images) lit
  true_through images (Differ i j) low h = λ e. h (sym (through xs images i (low 0 i (omega arith))) ∙ e ∙ through xs images j (low 1 j (omega arith)))
  true_through images (Fact sign r variables) low h = subst (λ ys. HasSign sign (entry sig w n r ys ≡ 1)) (sym (chosen_through xs images variables low)) h
  true_through images (Value f variables v) low h =
      ap (λ ys. entry sig w n f ys) (chosen_through xs images variables (all_left (λ v. v < length images) variables (v ∷ []) low))
      ∙ h
      ∙ sym (through xs images v (last_of_all (λ v. v < length images) variables v low))

pub covers_meets : (sig : Sig) (w : World) (n : ℕ) (d c : Cube) → Covers d c → Meets sig w n c → Meets sig w n d
covers_meets sig w n d c h m = (
  map (slice_index m.0) h.images,
  elements_through w m.0 c.sorts m.1 h.images d.sorts h.sorts,
  λ k lit lt. true_through sig w n m.0 h.images (get_or d.lits k lit)
      (subst (λ many. All (λ v. v < many) (variables_in (get_or d.lits k lit))) (sym (AllZip-length (HasSort c.sorts) h.images d.sorts h.sorts)) (h.places k lit lt))
      (found sig w n m.0 c.lits m.2 (renamed (slice_index h.images) (get_or d.lits k lit)) (h.literals k lit lt)),
)

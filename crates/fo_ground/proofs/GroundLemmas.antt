-- What holds of a form's layout, and what all clauses together say.
use Rattle.std.proofs.Common.{◌≡◌, ℕ, Bool, true, false, ◌<◌, ◌≤◌, ◌^◌, ◌⊎◌, inl, inr, List, [], ◌++◌, length, map, refl, sym, ap, subst, ◌∙◌, arith, length-append}
use Rattle.std.specs.List.{All, range_with_len}
use Rattle.std.specs.Prelude.{replicate, slice_index_or}
use Rattle.std.proofs.lemmas.List.{append-nil}
use Rattle.std.proofs.lemmas.List.Elements.{All-nil}
use Rattle.fo_core.specs.declared.signature.Sig.{Sig}
use Rattle.fo_core.specs.declared.signature.Symbol.{Symbol}
use Rattle.fo_core.specs.declared.world.Table.{Table}
use Rattle.fo_core.specs.declared.world.World.{World}
use Rattle.fo_core.specs.Sorted.{IsSig, IsSymbol, IsFormula}
use Rattle.fo_core.specs.Tables.{no_symbol, symbol_at}
use Rattle.fo_norm.specs.declared.form.SkolemForm.{SkolemForm}
use Rattle.fo_norm.specs.Forms.{whole, MeetsForm}
use Rattle.prop_core.specs.declared.lit.Lit.{Lit}
use Rattle.prop_core.specs.Formula.{MeetsClause, MeetsAll, AreWithin}
use Rattle.fo_terms.specs.declared.terms.Universe.{Universe}
use Rattle.fo_core.specs.TermCounts.{term_counts}
use Rattle.fo_terms.specs.FormWeight.{AreFew}
use Rattle.fo_terms.specs.Universe.{AreOf, IsTermOf, IsUniverse}
use Rattle.fo_terms.proofs.WeightLemmas.{few_of_weight}
use Rattle.fo_ground.specs.declared.grounded.Atom.{Atom}
use Rattle.fo_ground.specs.declared.grounded.Atom.TheVariants.{Helper}
use Rattle.fo_ground.specs.declared.grounded.Grounded.{Grounded}
use Rattle.fo_ground.specs.declared.layout.Layout.{Layout}
use Rattle.fo_ground.specs.Emits.{Adds}
use Rattle.fo_ground.specs.Grounds.{IsListed, IsShaped, CanGround, form_atoms, form_layout, AreMetBy, IsGrounded}
use Rattle.fo_ground.specs.Instances.{AreMet}
use Rattle.fo_ground.specs.Layout.{slot, same_by, fact_by, IsEqualityBy, IsLaidOut, IsMetBy}
use Rattle.fo_ground.specs.Numbers.{atoms_of, layout_of}
use Rattle.fo_ground.proofs.AtomShapes.{shaped}
use Rattle.fo_ground.proofs.AxiomLemmas.{none-within}
use Rattle.fo_ground.proofs.Emitting.{adds_and}
use Rattle.fo_ground.specs.Reading.{count_by, tables_by}
use Rattle.fo_ground.proofs.CongruenceLemmas.{any-default}
use Rattle.fo_ground.proofs.Finish.{atom-values, world-values, values-world}
use Rattle.fo_ground.proofs.Models.{sig-whole, symbol-whole}
use Rattle.fo_ground.proofs.Numbering.{listed}
use Rattle.fo_ground.proofs.Ready.{place-is, ready}
use Rattle.fo_ground.proofs.StartLemmas.{term_counts-length}

abbrev V : Type 0
V = ℕ → Bool

module _ (sig : Sig) (form : SkolemForm) (u : Universe) (can : CanGround sig form u) where
  abbrev S : Sig
  S = whole sig form

  pub few : AreFew (term_counts (whole sig form) form.copies)
  few = few_of_weight sig form (term_counts (whole sig form) form.copies) can.light

  pub few_terms : length u.terms < 2 ^ 32
  few_terms = omega (arith, can.arranged.terms, few.all)

  module _ (lay : Layout) (same : lay ≡ layout_of (whole sig form) form.copies u) where
    pub laid-out : lay.base < 2 ^ 32 → IsLaidOut u lay
    laid-out small =
        let small' = subst (λ (l : Layout). l.base < 2 ^ 32) same small in
        subst (IsLaidOut u) (sym same) (ready S form.copies u can.universe can.arranged few_terms (term_counts-length S form.copies) small')

    pub own-layout : lay ≡ layout_of lay.sig lay.copies u
    own-layout = subst (λ (l : Layout). l ≡ layout_of l.sig l.copies u) (sym same) refl

    pub own-signature : IsSig lay.sig
    own-signature = subst (λ (l : Layout). IsSig l.sig) (sym same) (sig-whole sig form can.signature can.skolem)

    pub own-universe : IsUniverse lay.sig lay.copies u.terms
    own-universe = subst (λ (l : Layout). IsUniverse l.sig l.copies u.terms) (sym same) can.universe

    pub own-claims : All (λ f. IsFormula lay.sig lay.copies f []) form.claims
    own-claims = subst (λ (l : Layout). All (λ f. IsFormula l.sig l.copies f []) form.claims) (sym same) can.skolem.claims

    pub own-list : (helpers : List Atom) → IsListed u lay (atoms_of lay.sig lay.copies u ++ helpers)
    own-list helpers = subst (λ (l : Layout). IsListed u l (atoms_of l.sig l.copies u ++ helpers)) (sym same) (listed S form.copies u can.universe can.arranged helpers)

    pub own-shapes : All (IsShaped lay.sig lay.copies u) (atoms_of lay.sig lay.copies u)
    own-shapes = subst (λ (l : Layout). All (IsShaped l.sig l.copies u) (atoms_of l.sig l.copies u)) (sym same) (shaped S form.copies u (sig-whole sig form can.signature can.skolem) can.arranged)

    pub own-length : length (atoms_of lay.sig lay.copies u) ≡ lay.base
    own-length = subst (λ (l : Layout). length (atoms_of l.sig l.copies u) ≡ l.base) (sym same) refl

    -- the symbols of the form's own signature come first
    pub own-symbols : (k : ℕ) (d : Symbol) → k < length sig.symbols → symbol_at lay.sig k ≡ slice_index_or sig.symbols k d
    own-symbols k d lt = subst (λ (l : Layout). symbol_at l.sig k ≡ slice_index_or sig.symbols k d) (sym same) (symbol-whole sig form k lt ∙ any-default sig.symbols k no_symbol d lt)

    pub own-few : length sig.symbols ≤ length lay.sig.symbols
    own-few = subst (λ (l : Layout). length sig.symbols ≤ length l.sig.symbols) (sym same) (omega (arith, length-append sig.symbols form.skolems))

    pub own-copies : lay.copies ≡ form.copies
    own-copies = subst (λ (l : Layout). l.copies ≡ form.copies) (sym same) refl

    -- under values of the variables: by the layout, and by the form
    pub met-from : (v : V) → IsEqualityBy u lay v → All (λ f. IsMetBy u lay f [] v) form.claims → AreMetBy sig form u v
    met-from v equality instances = subst (λ (l : Layout). AreMet u.terms (slot u l) (same_by u l v) (fact_by u l v) l.sig l.copies form.claims) same
        (record { equality = equality; instances = instances })

    pub met-to : (v : V) → AreMetBy sig form u v → IsEqualityBy u lay v × All (λ f. IsMetBy u lay f [] v) form.claims
    met-to v m =
        let m' = subst (λ (l : Layout). AreMet u.terms (slot u l) (same_by u l v) (fact_by u l v) l.sig l.copies form.claims) (sym same) m in
        (m'.equality, m'.instances)

    -- all clauses together
    module _ (small : lay.base < 2 ^ 32) (n3 : ℕ) (K3 : List (List Lit)) (n4 : ℕ) (K4 : List (List Lit))
        (axioms : Adds lay.base [] (IsEqualityBy u lay) lay.base [] n3 K3) (claims : Adds lay.base [] (λ v. All (λ f. IsMetBy u lay f [] v) form.claims) n3 K3 n4 K4) where
      abbrev All-of : V → Type 0
      All-of v = IsEqualityBy u lay v × All (λ f. IsMetBy u lay f [] v) form.claims

      together : Adds lay.base [] All-of lay.base [] n4 K4
      together = adds_and lay.base [] (IsEqualityBy u lay) (λ v. All (λ f. IsMetBy u lay f [] v) form.claims) lay.base [] n3 K3 n4 K4 (none-within lay.base) axioms claims

      pub grown : lay.base ≤ n4
      grown = together.grows

      pub inside : AreWithin n4 K4
      inside = together.after

      none-met : (v : V) → MeetsClause v [] ⊎ All-of v → All-of v
      none-met v (inl m) = absurd (omega (arith, m.2))
      none-met v (inr h) = h

      pub grounds : (n : ℕ) → length (atoms_of lay.sig lay.copies u ++ replicate n Helper) ≡ n4 →
          IsGrounded sig form u (record { cnf = record { vars = n4; clauses = K4 }; atoms = atoms_of lay.sig lay.copies u ++ replicate n Helper })
      grounds n len = record {
        listed = subst (λ (l : Layout). IsListed u l (atoms_of lay.sig lay.copies u ++ replicate n Helper)) same (own-list (replicate n Helper));
        helpers = (n, ap (λ (l : Layout). atoms_of l.sig l.copies u ++ replicate n Helper) same);
        within = together.after;
        variables = len;
        base = subst (λ (l : Layout). l.base ≤ n4) same together.grows;
        sound = λ v m. let h = none-met v (together.sound v m).1 in met-from v h.0 h.1;
        complete = λ a h. let r = together.complete a a (λ k lt. refl) (All-nil (MeetsClause a)) (inr (met-to a h)) in (r.0, r.2);
      }

  places : (f c : ℕ) (args : List ℕ) → IsSymbol (whole sig form) form.copies false f c → AreOf u.terms args (symbol_at (whole sig form) f).args →
      IsTermOf (whole sig form) form.copies u.terms f c args (slot u (form_layout sig form u) f c args)
  places = place-is (whole sig form) form.copies u can.universe can.arranged few_terms (term_counts-length (whole sig form) form.copies)

  -- a world that meets the form gives values of the atoms
  pub world-atoms : (w : World) → MeetsForm sig form w → (v : V) × AreMetBy sig form u v
  world-atoms = atom-values sig form u can.signature can.skolem can.universe places (form_atoms sig form u)
      (subst (IsListed u (form_layout sig form u)) (append-nil (form_atoms sig form u)) (listed S form.copies u can.universe can.arranged []))

  pub from-world : (g : Grounded) → IsGrounded sig form u g → (w : World) → MeetsForm sig form w → (v : V) × MeetsAll v g.cnf.clauses
  from-world g grounded = world-values sig form u can.signature can.skolem can.universe places g grounded

  pub to-world : (g : Grounded) → IsGrounded sig form u g → (v : V) → MeetsAll v g.cnf.clauses → (w : World) × MeetsForm sig form w
  to-world g grounded v m = (_, values-world sig form u can.signature can.skolem can.universe places v (grounded.sound v m))

  -- the world of the classes meets the form, however its parts were found
  pub read-world : (lay : Layout) → lay ≡ layout_of (whole sig form) form.copies u → (v : V) → AreMetBy sig form u v → (w : World) →
      w.sizes ≡ map (count_by u lay v) (range_with_len 0 lay.sig.sorts) → w.fixed ≡ tables_by u lay v false 0 0 sig.symbols → w.copies ≡ map (λ c. tables_by u lay v true c 0 sig.symbols) (range_with_len 0 form.copies) →
      MeetsForm sig form w
  read-world lay same v m w sizes fixed copies =
      let built : w ≡ record { sizes = map (count_by u lay v) (range_with_len 0 lay.sig.sorts); fixed = tables_by u lay v false 0 0 sig.symbols; copies = map (λ c. tables_by u lay v true c 0 sig.symbols) (range_with_len 0 form.copies) } =
      ap (λ (x : List ℕ). record { sizes = x; fixed = w.fixed; copies = w.copies }) sizes
      ∙ ap (λ (x : List Table). record { sizes = map (count_by u lay v) (range_with_len 0 lay.sig.sorts); fixed = x; copies = w.copies }) fixed
      ∙ ap (λ (x : List (List Table)). record { sizes = map (count_by u lay v) (range_with_len 0 lay.sig.sorts); fixed = tables_by u lay v false 0 0 sig.symbols; copies = x }) copies in
      let there = ap (λ (l : Layout). record { sizes = map (count_by u l v) (range_with_len 0 l.sig.sorts); fixed = tables_by u l v false 0 0 sig.symbols; copies = map (λ c. tables_by u l v true c 0 sig.symbols) (range_with_len 0 form.copies) }) same in
      subst (MeetsForm sig form) (sym (built ∙ there)) (values-world sig form u can.signature can.skolem can.universe places v m)

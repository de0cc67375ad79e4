-- Finite-model transfer, without clauses: the quotient world meets the form, and a world that meets it makes axioms and instances true.
use Rattle.std.proofs.Common.{◌≡◌, ℕ, suc, Bool, true, false, cond, ◌+◌, ◌-◌, ◌<◌, ◌≤◌, ◌^◌, List, [], ◌∷◌, ◌++◌, length, get_or, map, refl, sym, ap, subst, ◌∙◌, arith, length-append}
use Rattle.std.specs.Bool.{beq}
use Rattle.std.specs.List.{All, AllZip, filter, range_with_len}
use Rattle.std.specs.Prelude.{◌==◌, slice_index}
use Rattle.std.proofs.lemmas.List.{get_or_append_left, get_or-append-add, append-nil}
use Rattle.std.proofs.lemmas.List.Elements.{All-head, All-tail, All-append, All-weaker, filter-append}
use Rattle.std.proofs.lemmas.List.FromFn.{length-map-range_with_len}
use Rattle.fo_core.specs.declared.signature.Sig.{Sig}
use Rattle.fo_core.specs.declared.signature.Symbol.{Symbol}
use Rattle.fo_core.specs.declared.world.Table.{Table}
use Rattle.fo_core.specs.declared.world.World.{World}
use Rattle.fo_core.specs.Tables.{no_symbol, symbol_at, is_like, entry, IsTable, AreTables, Fits}
use Rattle.fo_core.specs.Truth.{Truth, reading}
use Rattle.fo_core.specs.Sorted.{IsSymbol, HasSorts, IsSig}
use Rattle.fo_core.proofs.ValueLemmas.{entry-lt}
use Rattle.fo_norm.specs.declared.form.SkolemForm.{SkolemForm}
use Rattle.fo_norm.specs.Extended.{with_tables}
use Rattle.fo_norm.specs.Forms.{whole, IsSkolem, IsForm, MeetsWith, MeetsForm}
use Rattle.fo_terms.specs.declared.terms.Ground.{Ground}
use Rattle.fo_terms.specs.Universe.{IsOf, AreOf, spare, IsTermOf, IsUniverse}
use Rattle.fo_ground.specs.Instances.{IsEquality, AreMet}
use Rattle.fo_ground.specs.Classes.{IsNaming, class_of, class_table, class_tables, class_world}
use Rattle.fo_ground.specs.GroundValues.{ground_values}
use Rattle.fo_ground.proofs.Transfer.{truth-named}
use Rattle.fo_ground.proofs.ClassTables.{class_tables-are}
use Rattle.fo_ground.proofs.ClassWorld.{IsBasis, naming, named, fits, table-is}
use Rattle.fo_ground.proofs.FromWorld.{met-named, closed-places, naming-values}

map-each : {X Y : Type 0} (f g : X → Y) (xs : List X) → ((x : X) → f x ≡ g x) → map f xs ≡ map g xs
map-each f g [] h = refl
map-each f g (x ∷ xs) h = ap (λ y. y ∷ map f xs) (h x) ∙ ap (λ ys. g x ∷ ys) (map-each f g xs h)

-- adding Skolem functions renumbers no symbol
pub symbol-whole : (sig : Sig) (form : SkolemForm) (k : ℕ) → k < length sig.symbols → symbol_at (whole sig form) k ≡ symbol_at sig k
symbol-whole sig form k lt = get_or_append_left sig.symbols form.skolems no_symbol k lt

pub is_symbol-whole : (sig : Sig) (form : SkolemForm) (copies : ℕ) (r : Bool) (k d : ℕ) → IsSymbol sig copies r k d → IsSymbol (whole sig form) copies r k d
is_symbol-whole sig form copies r k d is =
    let e = symbol-whole sig form k is.within in
    record {
      within = omega (arith, is.within, length-append sig.symbols form.skolems);
      kind = subst (λ s. s.relation ≡ r) (sym e) is.kind;
      copy = subst (λ s. d < cond s.mutable copies 1) (sym e) is.copy;
    }

pub sig-whole : (sig : Sig) (form : SkolemForm) → IsSig sig → IsForm sig form → IsSig (whole sig form)
sig-whole sig form h is = record {
  sorts = All-append (HasSorts sig.sorts) sig.symbols form.skolems h.sorts (All-weaker (IsSkolem sig.sorts) (HasSorts sig.sorts) (λ s k. k.sorts) form.skolems is.skolems);
  few = subst (λ n. n < 2 ^ 32 - 1) (sym (length-append sig.symbols form.skolems)) is.few;
}

-- Skolem functions are immutable
skolem-like : (b : Bool) (n : ℕ) (s : Symbol) → IsSkolem n s → is_like b s ≡ beq false b
skolem-like b n s h = ap (λ m. beq m b) h.mutable

all_fixed : (n : ℕ) (rs : List Symbol) → All (IsSkolem n) rs → filter (is_like false) rs ≡ rs
all_fixed n [] h = refl
all_fixed n (s ∷ rs) h =
    ap (λ b. cond b (s ∷ filter (is_like false) rs) (filter (is_like false) rs)) (skolem-like false n s (All-head (IsSkolem n) s rs h)) ∙ ap (λ ys. s ∷ ys) (all_fixed n rs (All-tail (IsSkolem n) s rs h))

no_mutable : (n : ℕ) (rs : List Symbol) → All (IsSkolem n) rs → filter (is_like true) rs ≡ []
no_mutable n [] h = refl
no_mutable n (s ∷ rs) h =
    ap (λ b. cond b (s ∷ filter (is_like true) rs) (filter (is_like true) rs)) (skolem-like true n s (All-head (IsSkolem n) s rs h)) ∙ no_mutable n rs (All-tail (IsSkolem n) s rs h)

append-tables : (sizes : List ℕ) (ss rs : List Symbol) (ts us : List Table) → AreTables sizes ss ts → AreTables sizes rs us → AreTables sizes (ss ++ rs) (ts ++ us)
append-tables sizes [] rs [] us h k = k
append-tables sizes [] rs (t ∷ ts) us h k = absurd h
append-tables sizes (s ∷ ss) rs [] us h k = absurd h
append-tables sizes (s ∷ ss) rs (t ∷ ts) us h k = (h.0, append-tables sizes ss rs ts us h.1 k)

-- the world with the tables of the Skolem functions is one for the whole signature
pub fits-whole : (sig : Sig) (form : SkolemForm) (w : World) (ts : List Table) → IsForm sig form → MeetsWith sig form w ts → Fits (whole sig form) (with_tables w ts)
fits-whole sig form w ts is h = record {
  sorts = h.fits.sorts;
  nonempty = h.fits.nonempty;
  fixed = subst (λ ss. AreTables w.sizes ss (w.fixed ++ ts)) (sym (filter-append (is_like false) sig.symbols form.skolems ∙ ap (λ rs. filter (is_like false) sig.symbols ++ rs) (all_fixed sig.sorts form.skolems is.skolems)))
      (append-tables w.sizes (filter (is_like false) sig.symbols) form.skolems w.fixed ts h.fits.fixed h.tables);
  some_copy = h.fits.some_copy;
  copies = λ k d lt. subst (λ ss. AreTables w.sizes ss (get_or w.copies k d))
      (sym (filter-append (is_like true) sig.symbols form.skolems ∙ ap (λ rs. filter (is_like true) sig.symbols ++ rs) (no_mutable sig.sorts form.skolems is.skolems) ∙ append-nil (filter (is_like true) sig.symbols)))
      (h.fits.copies k d lt);
}

module _ (ts : List Ground) (at : ℕ → ℕ → List ℕ → ℕ) (same : ℕ → ℕ → Bool) (fact : ℕ → ℕ → List ℕ → Bool) where
  class_tables-append : (b : Bool) (c k : ℕ) (ss rs : List Symbol) → class_tables ts at same fact b c k (ss ++ rs) ≡ class_tables ts at same fact b c k ss ++ class_tables ts at same fact b c (k + length ss) rs
  class_tables-append b c k [] rs = ap (λ n. class_tables ts at same fact b c n rs) (let z : k ≡ k + 0 = omega arith in z)
  class_tables-append b c k (s ∷ ss) rs =
      by_kind (is_like b s) (class_tables-append b c (suc k) ss rs ∙ ap (λ n. class_tables ts at same fact b c (suc k) ss ++ class_tables ts at same fact b c n rs) (let z : suc k + length ss ≡ k + suc (length ss) = omega arith in z))
    where
      by_kind : (x : Bool) → class_tables ts at same fact b c (suc k) (ss ++ rs) ≡ class_tables ts at same fact b c (suc k) ss ++ class_tables ts at same fact b c (k + suc (length ss)) rs →
          cond x (class_table ts at same fact c k s ∷ class_tables ts at same fact b c (suc k) (ss ++ rs)) (class_tables ts at same fact b c (suc k) (ss ++ rs))
          ≡ cond x (class_table ts at same fact c k s ∷ class_tables ts at same fact b c (suc k) ss) (class_tables ts at same fact b c (suc k) ss) ++ class_tables ts at same fact b c (k + suc (length ss)) rs
      by_kind true h = ap (λ ys. class_table ts at same fact c k s ∷ ys) h
      by_kind false h = h

  none_mutable : (c k : ℕ) (n : ℕ) (rs : List Symbol) → All (IsSkolem n) rs → class_tables ts at same fact true c k rs ≡ []
  none_mutable c k n [] h = refl
  none_mutable c k n (s ∷ rs) h =
      ap (λ m. cond m (class_table ts at same fact c k s ∷ class_tables ts at same fact true c (suc k) rs) (class_tables ts at same fact true c (suc k) rs)) (skolem-like true n s (All-head (IsSkolem n) s rs h))
      ∙ none_mutable c (suc k) n rs (All-tail (IsSkolem n) s rs h)

  module _ (sig : Sig) (form : SkolemForm) (sorts : IsSig sig) (is : IsForm sig form) (basis : IsBasis ts at (whole sig form) form.copies) (met : AreMet ts at same fact (whole sig form) form.copies form.claims) where
    abbrev w : World
    w = class_world ts at same fact sig form.copies

    abbrev tables : List Table
    tables = class_tables ts at same fact false 0 (0 + length sig.symbols) form.skolems

    abbrev all : World
    all = class_world ts at same fact (whole sig form) form.copies

    -- the quotient world for the whole signature splits into that for its own symbols and the Skolem tables
    world-whole : with_tables w tables ≡ class_world ts at same fact (whole sig form) form.copies
    world-whole =
        let fixed = sym (class_tables-append false 0 0 sig.symbols form.skolems) in
        let copies = map-each (λ c. class_tables ts at same fact true c 0 sig.symbols) (λ c. class_tables ts at same fact true c 0 (sig.symbols ++ form.skolems)) (range_with_len 0 form.copies) (λ c.
        sym (class_tables-append true c 0 sig.symbols form.skolems
        ∙ ap (λ ys. class_tables ts at same fact true c 0 sig.symbols ++ ys) (none_mutable c (0 + length sig.symbols) sig.sorts form.skolems is.skolems)
        ∙ append-nil (class_tables ts at same fact true c 0 sig.symbols))) in
        ap (λ f. record w { fixed = f }) fixed ∙ ap (λ c. record w { fixed = class_tables ts at same fact false 0 0 (sig.symbols ++ form.skolems); copies = c }) copies

    basis-own : IsBasis ts at sig form.copies
    basis-own = record {
      signature = sorts;
      closed = λ f c args s of.
          let e = symbol-whole sig form f s.within in
          subst (λ x. IsOf ts x.result (at f c args)) e (basis.closed f c args (is_symbol-whole sig form form.copies false f c s) (subst (λ x. AreOf ts args x.args) (sym e) of));
      sorts = basis.sorts;
      nonempty = basis.nonempty;
      some_copy = basis.some_copy;
    }

    equality-own : IsEquality ts at same fact sig form.copies
    equality-own = record {
      reflexive = met.equality.reflexive;
      symmetric = met.equality.symmetric;
      transitive = met.equality.transitive;
      functions = λ f c args i p s of lt at_p t.
          let e = symbol-whole sig form f s.within in
          met.equality.functions f c args i p (is_symbol-whole sig form form.copies false f c s) (subst (λ x. AreOf ts args x.args) (sym e) of) lt (subst (λ x. IsOf ts (slice_index x.args i) p) (sym e) at_p) t;
      relations = λ r c args i p s of lt at_p t.
          let e = symbol-whole sig form r s.within in
          met.equality.relations r c args i p (is_symbol-whole sig form form.copies true r c s) (subst (λ x. AreOf ts args x.args) (sym e) of) lt (subst (λ x. IsOf ts (slice_index x.args i) p) (sym e) at_p) t;
    }

    -- each Skolem function has its table
    skolem_tables : AreTables w.sizes form.skolems tables
    skolem_tables = subst (λ ss. AreTables w.sizes ss tables) (all_fixed sig.sorts form.skolems is.skolems)
        (class_tables-are ts at same fact w.sizes false 0 (0 + length sig.symbols) no_symbol form.skolems (λ j lt like. one j lt))
      where
        one : (j : ℕ) → j < length form.skolems → IsTable w.sizes (get_or form.skolems j no_symbol) (class_table ts at same fact 0 (0 + length sig.symbols + j) (get_or form.skolems j no_symbol))
        one j lt =
            let k = length sig.symbols + j in
            let e : symbol_at (whole sig form) (length sig.symbols + j) ≡ get_or form.skolems j no_symbol = get_or-append-add sig.symbols form.skolems j no_symbol in
            let n : length sig.symbols + j ≡ 0 + length sig.symbols + j = omega arith in
            let some : (b : Bool) → 0 < cond b form.copies 1 = λ b. first b in
            subst (λ n. IsTable w.sizes (get_or form.skolems j no_symbol) (class_table ts at same fact 0 n (get_or form.skolems j no_symbol))) n
            (subst (λ s. IsTable w.sizes s (class_table ts at same fact 0 k s)) e
            (table-is ts at same fact (whole sig form) form.copies basis met.equality k 0 (omega (arith, lt, length-append sig.symbols form.skolems)) (some (symbol_at (whole sig form) k).mutable)))
          where
            first : (b : Bool) → 0 < cond b form.copies 1
            first true = basis.some_copy
            first false = omega arith

    -- the quotient world, with the Skolem tables, meets the form
    pub from_values : MeetsForm sig form w
    from_values = (
      tables,
      record {
        fits = fits ts at same fact sig form.copies basis-own equality-own;
        copies = length-map-range_with_len (λ c. class_tables ts at same fact true c 0 sig.symbols) 0 form.copies;
        tables = skolem_tables;
        claims = λ k d lt. subst (λ w. Truth (whole sig form) w 0 (get_or form.claims k d) []) (sym world-whole)
            ((truth-named ts at same fact (whole sig form) form.copies all.sizes (reading (whole sig form) all 0) (class_of ts at same fact) basis.closed
            (naming ts at same fact (whole sig form) form.copies basis met.equality) (get_or form.claims k d) [] [] (is.normal k d lt) tt (is.claims k d lt)).back
            (named ts at same fact (whole sig form) form.copies basis met.equality) (met.instances k d lt));
      },
    )

-- the value of a function in a world is in its sort
value-within : (sig : Sig) (copies : ℕ) (w : World) → Fits sig w → length w.copies ≡ copies →
    (f d : ℕ) (xs : List ℕ) → IsSymbol sig copies false f d → AllZip (λ x n. x < n) xs (map (slice_index w.sizes) (symbol_at sig f).args) → reading sig w 0 d f xs < slice_index w.sizes (symbol_at sig f).result
value-within sig copies w fits len f d xs is below =
    let e : copies ≡ length w.copies - 0 = omega (arith, len) in
    let lt = (entry-lt sig w 0 false f d xs fits (subst (λ n. IsSymbol sig n false f d) e is) below).1 in
    subst (λ n. entry sig w (0 + d) f xs < n) (ap (λ b. cond b 2 (slice_index w.sizes (symbol_at sig f).result)) is.kind) lt

module _ (ts : List Ground) (at : ℕ → ℕ → List ℕ → ℕ) (sig : Sig) (form : SkolemForm) (w : World) (is : IsForm sig form) (u : IsUniverse (whole sig form) form.copies ts)
    (places : (f c : ℕ) (args : List ℕ) → IsSymbol (whole sig form) form.copies false f c → AreOf ts args (symbol_at (whole sig form) f).args → IsTermOf (whole sig form) form.copies ts f c args (at f c args))
    (meets : MeetsForm sig form w) where
  abbrev world : World
  world = with_tables w meets.0

  abbrev pub reads : ℕ → ℕ → List ℕ → ℕ
  reads = reading (whole sig form) world 0

  -- what each ground term names
  abbrev pub m : ℕ → ℕ
  m = slice_index (ground_values reads ts)

  some : (s : ℕ) → s < sig.sorts → 1 ≤ slice_index w.sizes s
  some s lt = meets.1.fits.nonempty s 0 (subst (λ n. s < n) (sym meets.1.fits.sorts) lt)

  few : length (whole sig form).symbols ≤ spare
  few = omega (arith, is.few, length-append sig.symbols form.skolems)

  in_range : (f d : ℕ) (xs : List ℕ) → IsSymbol (whole sig form) form.copies false f d → AllZip (λ x n. x < n) xs (map (slice_index w.sizes) (symbol_at (whole sig form) f).args) → reads d f xs < slice_index w.sizes (symbol_at (whole sig form) f).result
  in_range = value-within (whole sig form) form.copies world (fits-whole sig form w meets.0 is meets.1) meets.1.copies

  -- each ground term names an element
  pub world-naming : IsNaming ts at (λ p q. m p == m q) (λ r c ps. reads c r (map m ps) == 1) (whole sig form) form.copies w.sizes reads m
  world-naming = naming-values ts at (whole sig form) form.copies w.sizes reads some in_range u few places

  -- and by any naming of that reading, values of the atoms that say what is true meet the axioms and instances
  pub world-met : (same : ℕ → ℕ → Bool) (fact : ℕ → ℕ → List ℕ → Bool) → IsNaming ts at same fact (whole sig form) form.copies w.sizes reads m → AreMet ts at same fact (whole sig form) form.copies form.claims
  world-met same fact n =
      met-named ts at same fact (whole sig form) form.copies w.sizes reads m (closed-places ts at (whole sig form) form.copies w.sizes reads some in_range u few places) n form.claims is.normal is.claims meets.1.claims

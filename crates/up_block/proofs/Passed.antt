-- How a pass over the literals of a cube goes on from one literal to the next.
use Rattle.std.proofs.Common.{◌≡◌, ◌↔◌, ℕ, zero, suc, ◌+◌, ◌<◌, ◌≤◌, List, [], ◌∷◌, ◌++◌, length, take, drop, refl, sym, ap, subst, ◌∙◌, arith}
use Rattle.std.proofs.lemmas.List.{length-map}
use Rattle.fo_core.specs.declared.query.Query.{Query}
use Rattle.fo_core.specs.declared.signature.Sig.{Sig}
use Rattle.fo_core.specs.declared.system.System.{System}
use Rattle.fo_core.specs.declared.order.Order.{Order}
use Rattle.fo_core.specs.Finds.{CanSearch, HasNoWorld, IsLight}
use Rattle.fo_core.specs.Sorted.{IsSig}
use Rattle.up_claims.specs.Blocked.{Passes, ends, drops, keeps}
use Rattle.up_claims.proofs.PassWeights.{less-weighs}
use Rattle.up_diagram.specs.declared.cube.Cube.{Cube}
use Rattle.up_diagram.specs.declared.cube.Flat.{Flat}
use Rattle.up_diagram.specs.Claims.{claim}
use Rattle.up_diagram.specs.Cubes.{IsCube, new_place, renamed, without}
use Rattle.up_block.specs.declared.passing.Pass.{Pass}
use Rattle.up_block.specs.declared.question.Question.{Question}
use Rattle.up_block.specs.Passing.{CanAsk, CanPass, HasNone, GoesOn, IsSoFar}
use Rattle.up_block.specs.Questions.{query_for, IsQuestion, IsLater}
use Rattle.up_block.proofs.WithoutSorted.{without-sorted, without-short}

-- a later question asks the same of each cube
later-query : (sys : System) (old later : Question) (sig : Sig) (c : Cube) → IsLater sys old later → query_for sig later c ≡ query_for sig old c
later-query sys old later sig c l =
    let of_query : Query → Query = λ q. record { copies = q.copies; claims = q.claims ++ claim sig c later.copy ∷ [] } in
    let of_copy : ℕ → Query = λ n. record { copies = old.query.copies; claims = old.query.claims ++ claim sig c n ∷ [] } in
    ap of_query l.query ∙ ap of_copy l.copy

module _ (old now : Pass) (g : GoesOn old now) (c : Cube) where
  same_root : query_for now.sys.now.sig now.root c ≡ query_for old.sys.now.sig old.root c
  same_root =
      ap (λ (s : System). query_for s.sig now.root c) g.same_sys
      ∙ later-query old.sys.now old.root now.root old.sys.now.sig c g.root

  same_before : query_for now.sys.now.sig now.before c ≡ query_for old.sys.now.sig old.before c
  same_before =
      ap (λ (s : System). query_for s.sig now.before c) g.same_sys
      ∙ later-query old.sys.now old.before now.before old.sys.now.sig c g.before

  -- a property of a query under a signature, along the pass
  along : (P : Sig → Query → Type 0) (before after : Query) → after ≡ before → P old.sys.now.sig before → P now.sys.now.sig after
  along P before after e h = subst (λ (s : System). P s.sig after) (sym g.same_sys) (subst (P old.sys.now.sig) (sym e) h)

  back : (P : Sig → Query → Type 0) (before after : Query) → after ≡ before → P now.sys.now.sig after → P old.sys.now.sig before
  back P before after e h = subst (P old.sys.now.sig) e (subst (λ (s : System). P s.sig after) g.same_sys h)

  pub none-same : HasNone now c ↔ HasNone old c
  none-same = (
    λ h. (
      back HasNoWorld (query_for old.sys.now.sig old.root c) (query_for now.sys.now.sig now.root c) same_root h.0,
      back HasNoWorld (query_for old.sys.now.sig old.before c) (query_for now.sys.now.sig now.before c) same_before h.1,
    ),
    λ h. (
      along HasNoWorld (query_for old.sys.now.sig old.root c) (query_for now.sys.now.sig now.root c) same_root h.0,
      along HasNoWorld (query_for old.sys.now.sig old.before c) (query_for now.sys.now.sig now.before c) same_before h.1,
    ),
  )

-- a question may still be asked where its system, its order and its queries are the same
still_asked : (sys later_sys : System) (order later_order : Order) (old later : Question) → later_sys ≡ sys → later_order ≡ order →
    IsLater sys old later → CanAsk sys order old → CanAsk later_sys later_order later
still_asked sys later_sys order later_order old later same_sys same_order l can =
    let here : CanAsk sys order later = record {
      question = l.question;
      search = λ c is. subst (CanSearch sys order) (sym (later-query sys old later sys.sig c l)) (can.search c is);
    } in
    subst (λ s. CanAsk s later_order later) (sym same_sys) (subst (λ o. CanAsk sys o later) (sym same_order) here)

pub can-later : (limit : ℕ) (old now : Pass) (cube : Cube) → GoesOn old now → CanPass limit old cube → CanPass limit now cube
can-later limit old now cube g can = record {
  sig = subst (λ (s : System). IsSig s.sig) (sym g.same_sys) can.sig;
  root = still_asked old.sys.now now.sys.now old.order.now now.order.now old.root now.root g.same_sys g.same_order g.root can.root;
  before = still_asked old.sys.now now.sys.now old.order.now now.order.now old.before now.before g.same_sys g.same_order g.before can.before;
  sorted = subst (λ (s : System). IsCube s.sig cube) (sym g.same_sys) can.sorted;
  root_light =
      along old now g cube (λ sig q. IsLight sig limit q) (query_for old.sys.now.sig old.root cube) (query_for now.sys.now.sig now.root cube)
      (same_root old now g cube) can.root_light;
  before_light =
      along old now g cube (λ sig q. IsLight sig limit q) (query_for old.sys.now.sig old.before cube) (query_for now.sys.now.sig now.before cube)
      (same_before old now g cube) can.before_light;
  room = let e = g.picks in let r = can.room in omega (arith, e, r);
}

-- a cube that lost a literal may be asked about too
pub can-less : (limit : ℕ) (p : Pass) (cube : Cube) (k : ℕ) → CanPass limit p cube → CanPass limit p (without cube k)
can-less limit p cube k can =
    let sig : Sig = p.sys.now.sig in
    let root = less-weighs sig p.root.copy p.root.query.copies p.root.query.claims cube k in
    let before = less-weighs sig p.before.copy p.before.query.copies p.before.query.claims cube k in
    let root_light = can.root_light in
    let before_light = can.before_light in
    record {
      sig = can.sig;
      root = can.root;
      before = can.before;
      sorted = without-sorted sig cube k can.sorted;
      root_light = omega (arith, root, root_light);
      before_light = omega (arith, before, before_light);
      room = let r = can.room in omega (arith, r, without-short cube k);
    }

later_again : (sys : System) (a b c : Question) → IsLater sys a b → IsLater sys b c → IsLater sys a c
later_again sys a b c l m = record { query = m.query ∙ l.query; copy = m.copy ∙ l.copy; question = m.question }

goes_again : (a b c : Pass) → GoesOn a b → GoesOn b c → GoesOn a c
goes_again a b c g h = record {
  same_sys = h.same_sys ∙ g.same_sys;
  same_order = h.same_order ∙ g.same_order;
  root = later_again a.sys.now a.root b.root c.root g.root (subst (λ s. IsLater s b.root c.root) g.same_sys h.root);
  before = later_again a.sys.now a.before b.before c.before g.before (subst (λ s. IsLater s b.before c.before) g.same_sys h.before);
  picks = h.picks ∙ g.picks;
}

gone_one : {X : Type 0} (k : ℕ) (xs : List X) → k < length xs → length (take k xs ++ drop (suc k) xs) + 1 ≡ length xs
gone_one k [] lt = absurd (omega (arith, lt))
gone_one zero (x ∷ xs) lt = omega arith
gone_one (suc k) (x ∷ xs) lt = let e = gone_one k xs (omega (arith, lt)) in omega (arith, e)

fewer_literals : (cube : Cube) (k : ℕ) → k < length cube.lits → length (without cube k).lits + 1 ≡ length cube.lits
fewer_literals cube k lt =
    let left : List Flat = take k cube.lits ++ drop (suc k) cube.lits in
    let e = gone_one k cube.lits lt in
    omega (arith, length-map left (renamed (new_place left)), e)

pub so-far-start : (limit : ℕ) (p : Pass) (cube : Cube) → CanPass limit p cube → IsSoFar limit p cube p cube 0 (length cube.lits)
so-far-start limit p cube can = record {
  goes_on = record {
    same_sys = refl;
    same_order = refl;
    root = record { query = refl; copy = refl; question = can.root.question };
    before = record { query = refl; copy = refl; question = can.before.question };
    picks = refl;
  };
  can = can;
  count = omega arith;
  leads = λ final p. p;
}

module _ (limit : ℕ) (old : Pass) (cube : Cube) (now next : Pass) (rest : Cube) (kept left : ℕ)
    (so_far : IsSoFar limit old cube now rest kept (left + 1)) (g : GoesOn now next) where
  there : kept < length rest.lits
  there = let e = so_far.count in omega (arith, e)

  pub so-far-dropped : HasNone now (without rest kept) → IsSoFar limit old cube next (without rest kept) kept left
  so-far-dropped none = record {
    goes_on = goes_again old now next so_far.goes_on g;
    can = can-later limit now next (without rest kept) g (can-less limit now rest kept so_far.can);
    count = let e = so_far.count in omega (arith, e, fewer_literals rest kept there);
    leads = λ final p. so_far.leads final (drops kept rest final there ((none-same old now so_far.goes_on (without rest kept)).0 none) p);
  }

  pub so-far-kept : ¬ HasNone now (without rest kept) → IsSoFar limit old cube next rest (kept + 1) left
  so-far-kept some = record {
    goes_on = goes_again old now next so_far.goes_on g;
    can = can-later limit now next rest g so_far.can;
    count = let e = so_far.count in omega (arith, e);
    leads = λ final p. so_far.leads final (keeps kept rest final there (λ h. some ((none-same old now so_far.goes_on (without rest kept)).1 h)) (later final p));
  }
    where
      later : (final : Cube) → Passes (HasNone old) (kept + 1) rest final → Passes (HasNone old) (suc kept) rest final
      later final p = let e : kept + 1 ≡ suc kept = omega arith in subst (λ n. Passes (HasNone old) n rest final) e p

pub so-far-ended : (limit : ℕ) (old : Pass) (cube : Cube) (now : Pass) (rest : Cube) (kept : ℕ) → IsSoFar limit old cube now rest kept 0 → Passes (HasNone old) 0 cube rest
so-far-ended limit old cube now rest kept s = let e = s.count in s.leads rest (ends kept rest (omega (arith, e)))

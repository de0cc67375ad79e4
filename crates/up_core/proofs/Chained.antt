-- The links by the entries are those of the machine's obligations.
use Rattle.std.proofs.Common.{◌≡◌, ℕ, suc, ◌+◌, ◌-◌, ◌≤◌, List, [], ◌∷◌, ◌++◌, length, Option, None, Some, slice_get, refl, sym, ap, subst, ◌∙◌, arith}
use Rattle.std.specs.Option.{option_and_then}
use Rattle.fo_core.specs.declared.signature.Sig.{Sig}
use Rattle.fo_core.specs.declared.system.System.{System}
use Rattle.fo_core.specs.declared.world.World.{World}
use Rattle.fo_core.specs.Embedding.{IsEmbedding}
use Rattle.fo_core.specs.Runs.{alone}
use Rattle.fo_core.specs.Sorted.{IsSystem}
use Rattle.fo_core.specs.Tables.{Fits}
use Rattle.fo_core.proofs.RunLemmas.{alone-fits}
use Rattle.up_claims.specs.declared.verdict.Link.{Link}
use Rattle.up_diagram.specs.Cubes.{Meets}
use Rattle.up_diagram.proofs.DiagramMet.{met_where_embedded}
use Rattle.up_machine.specs.declared.event.Event.{Event}
use Rattle.up_machine.specs.Finding.{state_cube}
use Rattle.up_machine.specs.Machine.{Status, Ready, Out, Waiting, Done, Rooted, Obligation}
use Rattle.up_machine.specs.Sound.{Each, IsBelow, IsSoundLevel, HasOrigin, HasRoot, AreSoundOrigins}
use Rattle.up_machine.specs.Told.{IsLinkOf, AreLinks, ends, goes_on}
use Rattle.up_machine.proofs.Lists.{some_injective, two_places}
use Rattle.up_machine.proofs.Waiting.{differ}
use Rattle.up_core.specs.declared.state.ObligationEntry.{ObligationEntry}
use Rattle.up_core.specs.declared.state.Progress.{Progress}
use Rattle.up_core.specs.declared.state.Progress.TheVariants as P
use Rattle.up_core.specs.Mirror.{Pairs, IsWorldAt, IsStatusOf, IsObligationOf, world_of}
use Rattle.up_core.specs.Telling.{CanLink, IsLinkTo, CanLinkAt, CanGoOn, AreLinksBy, ends_by, goes_on_by, root_in, root_place}
use Rattle.up_core.proofs.Pairing.{pairs-left, pairs-right}

-- where a rooted obligation has its root
pub rooted-entry : (history : List Event) (p : Progress) (status : Status) (u : World) → IsStatusOf history p status → status ≡ Rooted u → (place : ℕ) × (root_place p ≡ Some place) × IsWorldAt history place u
rooted-entry history P.Ready status u is rooted = absurd (differ Ready (Rooted u) (λ d. omega (arith, d)) (sym is ∙ rooted))
rooted-entry history P.Out status u is rooted = absurd (differ Out (Rooted u) (λ d. omega (arith, d)) (sym is ∙ rooted))
rooted-entry history P.Waiting status u is rooted = absurd (differ Waiting (Rooted u) (λ d. omega (arith, d)) (sym is ∙ rooted))
rooted-entry history P.Done status u is rooted = absurd (differ Done (Rooted u) (λ d. omega (arith, d)) (sym is ∙ rooted))
rooted-entry history (P.Rooted place) status u is rooted =
    let root_of : Status → Option World = λ s. root s in
    let same : is.0 ≡ u = some_injective is.0 u (ap root_of (sym is.1 ∙ rooted)) in
    (place, refl, subst (IsWorldAt history place) same is.2)
  where
    root : Status → Option World
    root (Rooted x) = Some x
    root Ready = None
    root Out = None
    root Waiting = None
    root Done = None

module _ (sig : Sig) where
  -- a state alone embeds where it does in its world
  alone-embeds : (v w : World) (d : ℕ) (maps : List (List ℕ)) → IsEmbedding sig v 0 w d maps → IsEmbedding sig (alone v 0) 0 w d maps
  alone-embeds v w d maps h = record { injections = h.injections; relations = h.relations; functions = h.functions }

  in-alone : (v w : World) (maps : List (List ℕ)) → IsEmbedding sig v 0 w 0 maps → IsEmbedding sig v 0 (alone w 0) 0 maps
  in-alone v w maps h = record { injections = h.injections; relations = h.relations; functions = h.functions }

module _ (sys : System) (good : IsSystem sys) (history : List Event) (frontier : ℕ) (os : List Obligation) (es : List ObligationEntry) (pairs : Pairs os es (λ k o e. IsObligationOf history o e)) where
  abbrev IsPair : ℕ → Obligation → ObligationEntry → Type 0
  IsPair k o e = IsObligationOf history o e

  module _ (origins : AreSoundOrigins sys os) (levels : Each os (λ k o. IsSoundLevel frontier os o)) where
    -- copy 0 of a root may be linked to what embeds in it
    root-link : (world root : World) → Fits sys.sig world → Fits sys.sig root → Meets sys.sig root 0 (state_cube sys.sig world) → CanLink sys.sig (alone root 0) world
    root-link world root fits root_fits met =
        let e = (met_where_embedded sys.sig world root 0 0 fits fits.some_copy root_fits root_fits.some_copy).0 met in
        record {
          signature = good.signature;
          copies = fits.some_copy;
          state = alone-fits sys.sig world 0 fits fits.some_copy;
          fits = alone-fits sys.sig root 0 root_fits root_fits.some_copy;
          some = omega arith;
          few = omega arith;
          maps = e.0;
          embeds = in-alone sys.sig (alone world 0) root e.0 (alone-embeds sys.sig world root 0 e.0 e.1);
        }

    -- and copy 1 of a step to what it leads into
    step-link : (world step : World) → Fits sys.sig world → Fits sys.sig step → length step.copies ≡ 2 → Meets sys.sig step 1 (state_cube sys.sig world) → CanLink sys.sig step world
    step-link world step fits step_fits two met =
        let e = (met_where_embedded sys.sig world step 0 1 fits fits.some_copy step_fits (omega (arith, two))).0 met in
        let last : 1 ≡ length step.copies - 1 = omega (arith, two) in
        record {
          signature = good.signature;
          copies = fits.some_copy;
          state = alone-fits sys.sig world 0 fits fits.some_copy;
          fits = step_fits;
          some = step_fits.some_copy;
          few = omega (arith, two);
          maps = e.0;
          embeds = subst (λ d. IsEmbedding sys.sig (alone world 0) 0 step d e.0) last (alone-embeds sys.sig world step 1 e.0 e.1);
        }

    pub first-link : (k : ℕ) (o : Obligation) (u : World) → slice_get os k ≡ Some o → o.status ≡ Rooted u → CanLinkAt sys.sig history es (frontier + 1) (alone u 0) k
    first-link k o u there rooted =
        let pair = pairs-right os es IsPair pairs k o there in
        let x = origins k o there in
        let root = subst (HasRoot sys o.world) rooted x.root in
        let high = (levels k o there).high in
        record {
          entry = pair.0;
          there = pair.1;
          high = omega (arith, high, pair.2.level);
          world = o.world;
          world_is = pair.2.world;
          can = root-link o.world u x.fits root.fits root.meets;
        }

    pub root-some : (k : ℕ) (o : Obligation) (u : World) → slice_get os k ≡ Some o → o.status ≡ Rooted u → 1 ≤ length u.copies
    root-some k o u there rooted = let root = subst (HasRoot sys o.world) rooted (origins k o there).root in root.fits.some_copy

    pub go-on : CanGoOn sys.sig history es (frontier + 1)
    go-on k p e world there at parent =
        let pair = pairs-left os es IsPair pairs k e there in
        let o = pair.0 in
        let up : o.parent ≡ Some p = pair.2.parent ∙ parent in
        let same : o.world ≡ world = some_injective o.world world (sym pair.2.world ∙ at) in
        let x = origins k o pair.1 in
        let step = subst (HasOrigin sys os o) up x.origin in
        let below = subst (IsBelow os o) up (levels k o pair.1).below in
        let one : below.0 ≡ step.parent = two_places os p below.0 step.parent below.1 step.there in
        let next = pairs-right os es IsPair pairs p step.parent step.there in
        let high = (levels p step.parent step.there).high in
        let rise : suc o.level ≡ step.parent.level = below.2 ∙ ap (λ (y : Obligation). y.level) one in
        let can = step-link step.parent.world o.world (origins p step.parent step.there).fits x.fits step.copies step.meets in (
          record {
            entry = next.0;
            there = next.1;
            high = omega (arith, high, next.2.level);
            world = step.parent.world;
            world_is = next.2.world;
            can = subst (λ w. CanLink sys.sig w step.parent.world) same can;
          },
          omega (arith, rise, next.2.level, pair.2.level),
        )

  -- the root by the entries
  pub root-is : (k : ℕ) (o : Obligation) (u : World) → slice_get os k ≡ Some o → o.status ≡ Rooted u → root_in history es k ≡ Some u
  root-is k o u there rooted =
      let pair = pairs-right os es IsPair pairs k o there in
      let root = rooted-entry history pair.0.progress o.status u pair.2.status rooted in
      let read : Option ℕ → Option World = λ place. option_and_then (λ p. option_and_then world_of (slice_get history p)) place in
      ap (λ x. read (option_and_then (λ (e : ObligationEntry). root_place e.progress) x)) pair.1
      ∙ ap read root.1
      ∙ root.2

  link-of : (o : Obligation) (e : ObligationEntry) (origin world : World) (link : Link) → IsObligationOf history o e → IsWorldAt history e.found world → IsLinkTo sys.sig origin world link → IsLinkOf sys.sig o origin link
  link-of o e origin world link pair at is =
      let same : world ≡ o.world = some_injective world o.world (sym at ∙ pair.world) in
      record { state = is.state ∙ ap (λ w. alone w 0) same; origin_is = is.origin_is; map = is.map }

  pub links-to : (origin : World) (k : ℕ) (links : List Link) → AreLinksBy sys.sig history es origin k links → AreLinks sys.sig os origin k links
  links-to origin k links (ends_by _ _ e world link there at is parent) =
      let pair = pairs-left os es IsPair pairs k e there in
      ends origin k pair.0 link pair.1 (link-of pair.0 e origin world link pair.2 at is) (pair.2.parent ∙ parent)
  links-to origin k links (goes_on_by _ _ p e world link more there at is parent rest) =
      let pair = pairs-left os es IsPair pairs k e there in
      let same : world ≡ pair.0.world = some_injective world pair.0.world (sym at ∙ pair.2.world) in
      goes_on origin k p pair.0 link more pair.1 (link-of pair.0 e origin world link pair.2 at is) (pair.2.parent ∙ parent)
      (subst (λ w. AreLinks sys.sig os w p more) same (links-to world p more rest))

snoc-append : {X : Type 0} (xs : List X) (x : X) (ys : List X) → (xs ++ x ∷ []) ++ ys ≡ xs ++ x ∷ ys
snoc-append [] x ys = refl
snoc-append (a ∷ xs) x ys = ap (λ zs. a ∷ zs) (snoc-append xs x ys)

-- one more link of a chain
module _ (sig : Sig) (history : List Event) (es : List ObligationEntry) (start : World) (first : ℕ) (links now : List Link) (origin world : World) (place : ℕ) (e : ObligationEntry) (link : Link)
    (there : slice_get es place ≡ Some e) (at : IsWorldAt history e.found world) (is : IsLinkTo sig origin world link) (pushed : now ≡ links ++ link ∷ [])
    (rest : (more : List Link) → AreLinksBy sig history es origin place more → AreLinksBy sig history es start first (links ++ more)) where
  pub chain-ends : e.parent ≡ None → AreLinksBy sig history es start first now
  chain-ends seed = subst (AreLinksBy sig history es start first) (sym pushed) (rest (link ∷ []) (ends_by origin place e world link there at is seed))

  pub chain-goes : (p : ℕ) → e.parent ≡ Some p → (more : List Link) → AreLinksBy sig history es world p more → AreLinksBy sig history es start first (now ++ more)
  chain-goes p parent more h =
      subst (AreLinksBy sig history es start first) (sym (ap (λ (ls : List Link). ls ++ more) pushed ∙ snoc-append links link more))
      (rest (link ∷ more) (goes_on_by origin place p e world link more there at is parent h))

-- the next link may be made, one level higher
pub record CanStep (sig : Sig) (history : List Event) (es : List ObligationEntry) (top level : ℕ) (world : World) (p : ℕ) : Type 0 where
  pub next : CanLinkAt sig history es top world p
  pub high : level + 1 ≤ next.entry.level

pub can-step : (sig : Sig) (history : List Event) (es : List ObligationEntry) (top level place p : ℕ) (origin world : World) (e : ObligationEntry) → CanGoOn sig history es top →
    (now : CanLinkAt sig history es top origin place) → level ≤ now.entry.level → slice_get es place ≡ Some e → IsWorldAt history e.found world → e.parent ≡ Some p → CanStep sig history es top level world p
can-step sig history es top level place p origin world e more now high there at parent =
    let same : now.entry ≡ e = two_places es place now.entry e now.there there in
    let g = more place p e world there at parent in
    record { next = g.0; high = omega (arith, high, ap (λ (x : ObligationEntry). x.level) same, g.1) }

-- where it stands, and its world
pub record IsThere (history : List Event) (es : List ObligationEntry) (origin : World) (sig : Sig) (place : ℕ) (e : ObligationEntry) : Type 0 where
  pub world : World
  pub at : IsWorldAt history e.found world
  pub can : CanLink sig origin world

pub is-there : (sig : Sig) (history : List Event) (es : List ObligationEntry) (top place : ℕ) (origin : World) (e : ObligationEntry) → CanLinkAt sig history es top origin place → slice_get es place ≡ Some e →
    IsThere history es origin sig place e
is-there sig history es top place origin e now there =
    let same : now.entry ≡ e = two_places es place now.entry e now.there there in
    record { world = now.world; at = subst (λ (x : ObligationEntry). IsWorldAt history x.found now.world) same now.world_is; can = now.can }

-- The links of a trace are a chain, with a step for each level up to the frontier.
use Rattle.std.proofs.Common.{◌≡◌, ℕ, suc, ◌-◌, ◌≤◌, List, length, None, Some, slice_get, sym, ap, subst, ◌∙◌, arith}
use Rattle.fo_core.specs.declared.signature.Sig.{Sig}
use Rattle.fo_core.specs.declared.system.System.{System}
use Rattle.fo_core.specs.declared.world.World.{World}
use Rattle.fo_core.specs.Embedding.{IsEmbedding}
use Rattle.fo_core.specs.RunLaws.{IsLoneState, IsLoneInitial}
use Rattle.fo_core.specs.Runs.{Violates, alone}
use Rattle.fo_core.specs.Sorted.{IsSystem}
use Rattle.fo_core.proofs.RunLemmas.{keeps-alone}
use Rattle.up_claims.specs.declared.verdict.Link.{Link}
use Rattle.up_claims.specs.Chains.{IsLoneStep, IsEmbedded, IsFirstLink, IsNextLink, GoesOn, IsChain}
use Rattle.up_claims.specs.Verdicts.{HasNoRunWithin}
use Rattle.up_machine.specs.Machine.{Rooted, Obligation, Given, Trace, Machine}
use Rattle.up_machine.specs.Legal.{MayCloseNoUniversal}
use Rattle.up_machine.specs.Sound.{IsUnfinished, HasParent, IsTree, HasOrigin, HasRoot, AreSoundOrigins, IsBelow, IsFrameSound}
use Rattle.up_machine.specs.Told.{IsLinkOf, AreLinks, ends, goes_on, AreTraced}
use Rattle.up_machine.proofs.Lists.{some_injective, two_places}
use Rattle.up_machine.proofs.Levels.{Levels}
use Rattle.up_machine.proofs.Trees.{waiting_not_done, rooted_not_done}
use Rattle.up_machine.proofs.FrameEvents.{given_sound}

module _ (sys : System) (good : IsSystem sys) (m : Machine) (origins : AreSoundOrigins sys m.obligations) where
  -- the state of an obligation alone
  lone_state : (k : ℕ) (o : Obligation) → slice_get m.obligations k ≡ Some o → IsLoneState sys (alone o.world 0)
  lone_state k o there =
      let x = origins k o there in
      let keeps = keeps-alone sys good o.world 0 in
      record { fits = keeps.fits x.fits x.fits.some_copy; one_copy = keeps.one_copy; state = keeps.same.state.0 x.state }

  embedded : (origin : World) (copy k : ℕ) (o : Obligation) (link : Link) → slice_get m.obligations k ≡ Some o → IsLinkOf sys.sig o origin link → length origin.copies ≡ suc copy → IsEmbedded sys link copy
  embedded origin copy k o link there is copies =
      let last : length link.origin.copies - 1 ≡ copy = omega (arith, copies, ap (λ (w : World). length w.copies) is.origin_is) in
      record {
        state = subst (IsLoneState sys) (sym is.state) (lone_state k o there);
        embeds = subst (λ c. IsEmbedding sys.sig link.state 0 link.origin c link.map.images) last is.map.embeds;
      }

  -- from any obligation but a seed a step leads on
  lone_step : (k p : ℕ) (o : Obligation) → slice_get m.obligations k ≡ Some o → o.parent ≡ Some p → IsLoneStep sys o.world
  lone_step k p o there parent =
      let x = origins k o there in
      let step = subst (HasOrigin sys m.obligations o) parent x.origin in
      record { fits = x.fits; two_copies = step.copies; step = step.step }

  violating : (k : ℕ) (o : Obligation) (link : Link) → slice_get m.obligations k ≡ Some o → o.parent ≡ None → link.state ≡ alone o.world 0 → Violates sys link.state 0
  violating k o link there seed is =
      let x = origins k o there in
      subst (λ w. Violates sys w 0) (sym is) ((keeps-alone sys good o.world 0).same.violates.0 (subst (HasOrigin sys m.obligations o) seed x.origin))

  next_link : (origin : World) (k : ℕ) (o : Obligation) (link : Link) → IsLoneStep sys origin → slice_get m.obligations k ≡ Some o → IsLinkOf sys.sig o origin link → IsNextLink sys (alone origin 0) link
  next_link origin k o link step there is = record {
    origin = subst (IsLoneStep sys) (sym is.origin_is) step;
    same = ap (λ w. alone w 0) is.origin_is;
    embedded = embedded origin 1 k o link there is step.two_copies;
  }

  -- the links behind a step go on from its first state
  goes : (origin : World) (k : ℕ) (links : List Link) → IsLoneStep sys origin → AreLinks sys.sig m.obligations origin k links → GoesOn sys (alone origin 0) links
  goes origin k links step (ends _ _ o link there is seed) = (next_link origin k o link step there is, violating k o link there seed is.state)
  goes origin k links step (goes_on _ _ p o link rest there is parent more) = (
    next_link origin k o link step there is,
    subst (λ w. GoesOn sys w rest) (sym is.state) (goes o.world p rest (lone_step k p o there parent) more),
  )

  first_link : (origin : World) (k : ℕ) (o : Obligation) (link : Link) → IsLoneInitial sys origin → slice_get m.obligations k ≡ Some o → IsLinkOf sys.sig o origin link → IsFirstLink sys link
  first_link origin k o link initial there is = record {
    origin = subst (IsLoneInitial sys) (sym is.origin_is) initial;
    embedded = embedded origin 0 k o link there is initial.one_copy;
  }

  chain : (origin : World) (k : ℕ) (links : List Link) → IsLoneInitial sys origin → AreLinks sys.sig m.obligations origin k links → IsChain sys links
  chain origin k links initial (ends _ _ o link there is seed) = (first_link origin k o link initial there is, violating k o link there seed is.state)
  chain origin k links initial (goes_on _ _ p o link rest there is parent more) = (
    first_link origin k o link initial there is,
    subst (λ w. GoesOn sys w rest) (sym is.state) (goes o.world p rest (lone_step k p o there parent) more),
  )

  lone_root : (k : ℕ) (o : Obligation) (root : World) → slice_get m.obligations k ≡ Some o → o.status ≡ Rooted root → IsLoneInitial sys (alone root 0)
  lone_root k o root there rooted =
      let r = subst (HasRoot sys o.world) rooted (origins k o there).root in
      let keeps = keeps-alone sys good root 0 in
      record { fits = keeps.fits r.fits r.fits.some_copy; one_copy = keeps.one_copy; initial = keeps.same.initial.0 r.initial }

-- as many links as levels up to the frontier, and one more
module _ (m : Machine) (levels : Levels m.frontier m.obligations) (tree : IsTree m.frontier m.obligations) where
  count : (sig : Sig) (origin : World) (k : ℕ) (links : List Link) (o : Obligation) → slice_get m.obligations k ≡ Some o → IsUnfinished o → AreLinks sig m.obligations origin k links → length links ≡ suc (m.frontier - o.level)
  count sig origin k links o there open_one (ends _ _ x link x_there is seed) =
      let same : x ≡ o = two_places m.obligations k x o x_there there in
      let none : o.parent ≡ None = ap (λ (y : Obligation). y.parent) (sym same) ∙ seed in
      let top : o.level ≡ m.frontier = subst (HasParent m.frontier m.obligations o) none (tree.parents k o there open_one) in
      omega (arith, top)
  count sig origin k links o there open_one (goes_on _ _ p x link rest x_there is x_parent more) =
      let same : x ≡ o = two_places m.obligations k x o x_there there in
      let parent : o.parent ≡ Some p = ap (λ (y : Obligation). y.parent) (sym same) ∙ x_parent in
      let above = subst (HasParent m.frontier m.obligations o) parent (tree.parents k o there open_one) in
      let below = subst (IsBelow m.obligations o) parent (levels k o there).below in
      let one : below.0 ≡ above.parent = two_places m.obligations p below.0 above.parent below.1 above.there in
      let up : suc o.level ≡ above.parent.level = below.2 ∙ ap (λ (y : Obligation). y.level) one in
      let high : above.parent.level ≤ m.frontier = (levels p above.parent above.there).high in
      let more_are : length rest ≡ suc (m.frontier - above.parent.level) = count sig x.world p rest above.parent above.there (λ d. waiting_not_done (sym above.waits ∙ d)) more in
      omega (arith, up, high, more_are)

abbrev steps_in : Given → ℕ
steps_in (Trace k steps) = steps
steps_in _ = 0

-- what NoUniversal tells holds
module _ (sys : System) (good : IsSystem sys) (m : Machine) (sound : IsFrameSound sys m) (origins : AreSoundOrigins sys m.obligations) (tree : IsTree m.frontier m.obligations) where
  pub no_universal_holds : (w : ℕ) (links : List Link) → MayCloseNoUniversal sys m w → AreTraced sys.sig m w links → IsChain sys links × HasNoRunWithin sys (length links - 1)
  no_universal_holds w links may told =
      let trace = told.trace in
      let o = told.obligation in
      let given = given_sound sys m sound w (Trace trace.obligation trace.steps) trace.held in
      let same : given.obligation ≡ o = two_places m.obligations trace.obligation given.obligation o given.there told.there in
      let steps : trace.steps ≡ m.frontier - o.level = given.steps_are ∙ ap (λ (y : Obligation). m.frontier - y.level) same in
      let many = count m sound.levels tree sys.sig (alone told.root 0) trace.obligation links o told.there (λ d. rooted_not_done told.root (sym told.rooted ∙ d)) told.chain in
      let traced : may.trace.steps ≡ trace.steps = ap steps_in (some_injective _ _ (sym may.trace.held ∙ trace.held)) in (
        chain sys good m origins (alone told.root 0) trace.obligation links (lone_root sys good m origins trace.obligation o told.root told.there told.rooted) told.chain,
        λ k le. may.none k (omega (arith, le, many, steps, traced)),
      )

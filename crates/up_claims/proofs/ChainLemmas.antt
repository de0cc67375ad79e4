-- A chain leaves no universal invariant.
use Rattle.std.proofs.Common.{ℕ, List, [], ◌∷◌, get_or, sym, subst, arith}
use Rattle.fo_core.specs.declared.formula.Formula.{Formula}
use Rattle.fo_core.specs.declared.system.System.{System}
use Rattle.fo_core.specs.declared.world.World.{World}
use Rattle.fo_core.specs.Runs.{IsState, alone}
use Rattle.fo_core.specs.Tables.{Fits}
use Rattle.fo_core.proofs.AgreeLemmas.{truth-agrees, alone-agrees}
use Rattle.fo_embed.proofs.Universals.{sentence-passes}
use Rattle.up_claims.specs.declared.verdict.Link.{Link}
use Rattle.up_claims.specs.Chains.{IsEmbedded, GoesOn, IsChain}
use Rattle.up_claims.specs.Inductive.{AreTrue, IsUniversalInvariant}

module _ (sys : System) (fs : List Formula) (known : IsUniversalInvariant sys fs) where
  -- what is true where the link's state embeds is true in that state
  embedded : (link : Link) (c : ℕ) → IsEmbedded sys link c → AreTrue sys fs link.origin c → AreTrue sys fs link.state 0
  embedded link c h holding k d lt =
      sentence-passes sys.sig link.state 0 link.origin c link.map.images h.state.fits h.state.fits.some_copy h.embeds
      (get_or fs k d) (known.universal k d lt) (holding k d lt)

  -- what is true in a copy alone is true in the copy
  in-copy : (w : World) (c : ℕ) → AreTrue sys fs (alone w c) 0 → AreTrue sys fs w c
  in-copy w c holding k d lt =
      (truth-agrees sys.sig 1 w c (alone w c) 0 (alone-agrees w c) (get_or fs k d) [] [] (known.invariant.inductive.closed k d lt)).1 (holding k d lt)

  goes-on : (state : World) (links : List Link) → Fits sys.sig state → IsState sys state 0 → AreTrue sys fs state 0 → GoesOn sys state links → ⊥
  goes-on state [] fits is holding violated = known.invariant.safe state 0 fits fits.some_copy is holding violated
  goes-on state (link ∷ links) fits is holding h =
      let next = h.0 in
      let before = in-copy link.origin 0 (subst (λ s. AreTrue sys fs s 0) (sym next.same) holding) in
      let after = known.invariant.inductive.keeps link.origin 0 next.origin.fits (omega (arith, next.origin.two_copies)) next.origin.step before in
      goes-on link.state links next.embedded.state.fits next.embedded.state.state (embedded link 1 next.embedded after) h.1

  pub chain-refutes : (links : List Link) → IsChain sys links → ⊥
  chain-refutes [] h = h
  chain-refutes (link ∷ links) h =
      let first = h.0 in
      let begun = known.invariant.inductive.starts link.origin 0 first.origin.fits first.origin.fits.some_copy first.origin.initial in
      goes-on link.state links first.embedded.state.fits first.embedded.state.state (embedded link 0 first.embedded begun) h.1

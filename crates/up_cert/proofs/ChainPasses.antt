-- All spots of links pass exactly where the links are a chain and no violating run is as short.
use Rattle.std.proofs.Common.{◌≡◌, ℕ, zero, suc, ◌+◌, ◌-◌, ◌<◌, List, [], ◌∷◌, length, refl, sym, subst, arith}
use Rattle.std.specs.List.{All}
use Rattle.std.proofs.lemmas.List.Elements.{All-nil, All-cons, All-head, All-tail, All-append}
use Rattle.fo_core.specs.declared.system.System.{System}
use Rattle.fo_core.specs.declared.world.World.{World}
use Rattle.fo_core.specs.Embedding.{IsEmbedding}
use Rattle.fo_core.specs.Runs.{IsState, Violates}
use Rattle.fo_core.proofs.ListFacts.{all_left, all_right}
use Rattle.up_claims.specs.declared.verdict.Link.{Link}
use Rattle.up_claims.specs.declared.verdict.Verdict.TheVariants as verdict
use Rattle.up_claims.specs.Chains.{IsFirstLink, IsNextLink, GoesOn, IsChain}
use Rattle.up_claims.specs.Verdicts.{Holds}
use Rattle.up_cert.specs.declared.spot.Spot.{Spot}
use Rattle.up_cert.specs.declared.spot.What.TheVariants as what
use Rattle.up_cert.specs.VerdictSpots.{Passes, ChainPasses, spots_of, spot, links_below, link_spots, origin_what, link_at, last_copy, HasState, ComesFrom, Embeds, EndsBadly}
use Rattle.up_cert.proofs.Numbered.{each-from, each-to}

-- the state before link k of links that go on from one, and the state after all of them
abbrev state_before : World → List Link → ℕ → World
state_before before links zero = before
state_before before links (suc k) = (link_at links k).state

abbrev last_state : World → List Link → World
last_state before [] = before
last_state before (link ∷ links) = last_state link.state links

before-is : (link : Link) (links : List Link) (k : ℕ) → state_before link.state links k ≡ (link_at (link ∷ links) k).state
before-is link links zero = refl
before-is link links (suc k) = refl

last-is : (link : Link) (links : List Link) → last_state link.state links ≡ (link_at (link ∷ links) (length links)).state
last-is link [] = refl
last-is link (next ∷ links) = last-is next links

module _ (sys : System) where
  -- ---- one link

  embeds-in : (link : Link) (n : ℕ) → length link.origin.copies ≡ n + 1 → Embeds sys link → IsEmbedding sys.sig link.state 0 link.origin n link.map.images
  embeds-in link n long h =
      let is : last_copy link.origin ≡ n = omega (arith, long) in
      subst (λ (c : ℕ). IsEmbedding sys.sig link.state 0 link.origin c link.map.images) is h

  embeds-out : (link : Link) (n : ℕ) → length link.origin.copies ≡ n + 1 → IsEmbedding sys.sig link.state 0 link.origin n link.map.images → Embeds sys link
  embeds-out link n long h =
      let is : n ≡ last_copy link.origin = omega (arith, long) in
      subst (λ (c : ℕ). IsEmbedding sys.sig link.state 0 link.origin c link.map.images) is h

  state-out : (w : World) (n : ℕ) → length w.copies ≡ n + 1 → IsState sys w n → IsState sys w (last_copy w)
  state-out w n long h =
      let is : n ≡ last_copy w = omega (arith, long) in
      subst (IsState sys w) is h

  next-there : (before : World) (link : Link) → HasState sys link → ComesFrom sys before link → Embeds sys link → IsNextLink sys before link
  next-there before link state comes embeds = record {
    origin = comes.step;
    same = comes.same;
    embedded = record { state = state.state; embeds = embeds-in link 1 comes.step.two_copies embeds };
  }

  has-state : (before : World) (link : Link) → IsNextLink sys before link → HasState sys link
  has-state before link h = record {
    state = h.embedded.state;
    origin = state-out link.origin 1 h.origin.two_copies h.origin.step.next_state;
  }

  -- ---- links that go on

  goes-there : (before : World) (links : List Link) → ((k : ℕ) → k < length links → IsNextLink sys (state_before before links k) (link_at links k)) → Violates sys (last_state before links) 0 → GoesOn sys before links
  goes-there before [] each bad = bad
  goes-there before (link ∷ links) each bad = (
    each 0 (omega arith),
    goes-there link.state links
        (λ k lt. subst (λ (w : World). IsNextLink sys w (link_at links k)) (sym (before-is link links k)) (each (suc k) (omega (arith, lt)))) bad,
  )

  goes-each : (before : World) (links : List Link) → GoesOn sys before links → (k : ℕ) → k < length links → IsNextLink sys (state_before before links k) (link_at links k)
  goes-each before [] h k lt = absurd (omega (arith, lt))
  goes-each before (link ∷ links) h zero lt = h.0
  goes-each before (link ∷ links) h (suc k) lt =
      subst (λ (w : World). IsNextLink sys w (link_at links k)) (before-is link links k) (goes-each link.state links h.1 k (omega (arith, lt)))

  goes-last : (before : World) (links : List Link) → GoesOn sys before links → Violates sys (last_state before links) 0
  goes-last before [] h = h
  goes-last before (link ∷ links) h = goes-last link.state links h.1

  -- ---- chains

  module _ (links : List Link) where
    abbrev P : Spot → Type 0
    P = Passes sys (verdict.NoUniversal links)

    abbrev ends : List Spot
    ends = spot what.Safety 0 ∷ spot what.Run 0 ∷ []

    -- the spots of one link, taken apart and put together
    pub record LinkPasses (k : ℕ) : Type 0 where
      pub state : HasState sys (link_at links k)
      pub origin : ChainPasses sys links (origin_what k) k
      pub embeds : Embeds sys (link_at links k)

    link-from : (k : ℕ) → All P (link_spots k) → LinkPasses k
    link-from k h =
        let rest = All-tail P (spot what.State k) (spot (origin_what k) k ∷ spot what.Map k ∷ []) h in
        record {
          state = All-head P (spot what.State k) (spot (origin_what k) k ∷ spot what.Map k ∷ []) h;
          origin = All-head P (spot (origin_what k) k) (spot what.Map k ∷ []) rest;
          embeds = All-head P (spot what.Map k) [] (All-tail P (spot (origin_what k) k) (spot what.Map k ∷ []) rest);
        }

    link-to : (k : ℕ) → LinkPasses k → All P (link_spots k)
    link-to k h =
        All-cons P (spot what.State k) (spot (origin_what k) k ∷ spot what.Map k ∷ []) h.state
        (All-cons P (spot (origin_what k) k) (spot what.Map k ∷ []) h.origin (All-cons P (spot what.Map k) [] h.embeds (All-nil P)))

  pub all-links : (links : List Link) → ((k : ℕ) → k < length links → LinkPasses links k) → EndsBadly sys links → IsChain sys links
  all-links [] each ends = absurd (let some = ends.some in omega (arith, some))
  all-links (link ∷ links) each ends = (first, goes-there link.state links next bad)
    where
      first : IsFirstLink sys link
      first =
          let h = each 0 (omega arith) in
          record {
            origin = h.origin;
            embedded = record { state = h.state.state; embeds = embeds-in link 0 h.origin.one_copy h.embeds };
          }

      next : (k : ℕ) → k < length links → IsNextLink sys (state_before link.state links k) (link_at links k)
      next k lt =
          let h = each (suc k) (omega (arith, lt)) in
          let e : suc k - 1 ≡ k = omega arith in
          let comes : ComesFrom sys (link_at (link ∷ links) (suc k - 1)).state (link_at links k) = h.origin in
          let at : ComesFrom sys (link_at (link ∷ links) k).state (link_at links k) = subst (λ (j : ℕ). ComesFrom sys (link_at (link ∷ links) j).state (link_at links k)) e comes in
          next-there (state_before link.state links k) (link_at links k) h.state
          (subst (λ (w : World). ComesFrom sys w (link_at links k)) (sym (before-is link links k)) at) h.embeds

      bad : Violates sys (last_state link.state links) 0
      bad =
          let e : length (link ∷ links) - 1 ≡ length links = omega arith in
          subst (λ (w : World). Violates sys w 0) (sym (last-is link links))
          (subst (λ (j : ℕ). Violates sys (link_at (link ∷ links) j).state 0) e ends.violates)

  pub chain-links : (links : List Link) → IsChain sys links → (k : ℕ) → k < length links → LinkPasses links k
  chain-links [] h k lt = absurd h
  chain-links (link ∷ links) h zero lt = record {
    state = record { state = h.0.embedded.state; origin = state-out link.origin 0 h.0.origin.one_copy h.0.origin.initial.state };
    origin = h.0.origin;
    embeds = embeds-out link 0 h.0.origin.one_copy h.0.embedded.embeds;
  }
  chain-links (link ∷ links) h (suc k) lt =
      let next = goes-each link.state links h.1 k (omega (arith, lt)) in
      let e : k ≡ suc k - 1 = omega arith in
      let comes : ComesFrom sys (state_before link.state links k) (link_at links k) = record { step = next.origin; same = next.same } in
      let at : ComesFrom sys (link_at (link ∷ links) k).state (link_at links k) = subst (λ (w : World). ComesFrom sys w (link_at links k)) (before-is link links k) comes in
      record {
        state = has-state (state_before link.state links k) (link_at links k) next;
        origin = subst (λ (j : ℕ). ComesFrom sys (link_at (link ∷ links) j).state (link_at links k)) e at;
        embeds = embeds-out (link_at links k) 1 next.origin.two_copies next.embedded.embeds;
      }

  pub chain-ends : (links : List Link) → IsChain sys links → EndsBadly sys links
  chain-ends [] h = absurd h
  chain-ends (link ∷ links) h =
      let e : length links ≡ length (link ∷ links) - 1 = omega arith in
      record {
        some = omega arith;
        violates = subst (λ (j : ℕ). Violates sys (link_at (link ∷ links) j).state 0) e
            (subst (λ (w : World). Violates sys w 0) (last-is link links) (goes-last link.state links h.1));
      }

  pub chain-there : (links : List Link) → All (P links) (spots_of (verdict.NoUniversal links)) → Holds sys (verdict.NoUniversal links)
  chain-there links h =
      let each = all_left (P links) (links_below (length links)) (ends links) h in
      let end = all_right (P links) (links_below (length links)) (ends links) h in
      let run = All-tail (P links) (spot what.Safety 0) (spot what.Run 0 ∷ []) end in (
        all-links links (λ k lt. link-from links k (each-from (P links) link_spots (length links) each k lt)) (All-head (P links) (spot what.Safety 0) (spot what.Run 0 ∷ []) end),
        All-head (P links) (spot what.Run 0) [] run,
      )

  pub chain-back : (links : List Link) → Holds sys (verdict.NoUniversal links) → All (P links) (spots_of (verdict.NoUniversal links))
  chain-back links h =
      All-append (P links) (links_below (length links)) (ends links)
      (each-to (P links) link_spots (length links) (λ k lt. link-to links k (chain-links links h.0 k lt)))
      (All-cons (P links) (spot what.Safety 0) (spot what.Run 0 ∷ []) (chain-ends links h.0) (All-cons (P links) (spot what.Run 0) [] h.1 (All-nil (P links))))

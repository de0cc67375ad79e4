-- Which clause may go for which, by the entries of the clauses.
use Rattle.std.proofs.Common.{◌≡◌, ℕ, ◌<◌, ◌≤◌, true, false, List, length, Option, None, Some, slice_get, sym, subst, ◌∙◌, ◌⊎◌, inl, inr, arith}
use Rattle.std.proofs.lemmas.Bool.{cases_lt, cases_order}
use Rattle.fo_core.specs.declared.system.System.{System}
use Rattle.up_diagram.specs.declared.cube.Cube.{Cube}
use Rattle.std.specs.Prelude.{MatchOption}
use Rattle.up_diagram.specs.Covers.{Covers}
use Rattle.up_diagram.specs.Cubes.{HasPlaces}
use Rattle.up_machine.specs.declared.event.Event.{Event}
use Rattle.up_machine.specs.declared.job.Job.TheVariants as J
use Rattle.up_machine.specs.declared.not_now.Cover.{Cover}
use Rattle.up_machine.specs.Due.{IsFirst}
use Rattle.up_machine.specs.Legal.{IsCover}
use Rattle.up_machine.specs.Machine.{Clause, Machine}
use Rattle.up_machine.specs.Rounds.{IsFirstCover}
use Rattle.up_machine.specs.Sound.{IsFit}
use Rattle.up_machine.proofs.Lists.{some_injective}
use Rattle.up_machine.proofs.SortedCubes.{sorted-places}
use Rattle.up_core.specs.declared.clauses.LiveClause.{LiveClause}
use Rattle.up_core.specs.declared.state.ClauseEntry.{ClauseEntry}
use Rattle.up_core.specs.declared.state.JobEntry.{JobEntry}
use Rattle.up_core.specs.declared.state.State.{State}
use Rattle.up_core.specs.Choice.{has_job, is_push_of}
use Rattle.up_core.specs.Covering.{AllCanCover, IsCovering, CanGoFor, IsPair, IsFirstBy, IsFirstPair, IsFoundPair}
use Rattle.up_core.specs.Mirror.{IsCubeAt, IsClauseOf, IsMirror}
use Rattle.up_core.specs.Room.{IsRoomy}
use Rattle.up_core.specs.View.{MayRetire}
use Rattle.up_core.proofs.Chosen.{job-to, job-from, push-from, push-to, not-true, not-both}
use Rattle.up_core.proofs.Pairing.{pairs-left, pairs-right}

module _ (sys : System) (history : List Event) (m : Machine) (s : State) (mirror : IsMirror sys history m s) where
  abbrev IsEntryOf : ℕ → Clause → ClauseEntry → Type 0
  IsEntryOf k c e = IsClauseOf history sys m k c e

  cube-is : (k : ℕ) (c : Clause) (e : ClauseEntry) (cube : Cube) → IsEntryOf k c e → IsCubeAt history e.learnt cube → c.cube ≡ cube
  cube-is k c e cube h at = some_injective c.cube cube (sym h.cube ∙ at)

  pub pair-to : (g b : ℕ) → IsCover m g b → IsPair history s.clauses.items s.jobs.items g b
  pair-to g b h =
      let old = pairs-right m.clauses s.clauses.items IsEntryOf mirror.clauses g h.old h.there in
      let cover = pairs-right m.clauses s.clauses.items IsEntryOf mirror.clauses b h.cover h.cover_there in
      record {
        go = record {
          old = old.0;
          old_there = old.1;
          cover = cover.0;
          cover_there = cover.1;
          apart = h.apart;
          covering = record {
            gone_live = sym old.2.live ∙ h.live;
            by_live = sym cover.2.live ∙ h.cover_live;
            level = omega (arith, h.level, old.2.level, cover.2.level);
            old = h.old.cube;
            old_at = old.2.cube;
            cover = h.cover.cube;
            cover_at = cover.2.cube;
            covers = h.covers;
          };
        };
        free = not-true (has_job (is_push_of g) s.jobs.items) (λ out. h.not_out (job-from m.jobs s.jobs.items mirror.jobs (λ j. j ≡ J.Push g) (is_push_of g) (push-from g) out));
      }

  pub pair-from : (g b : ℕ) → IsPair history s.clauses.items s.jobs.items g b → IsCover m g b
  pair-from g b h =
      let go = h.go in
      let old = pairs-left m.clauses s.clauses.items IsEntryOf mirror.clauses g go.old go.old_there in
      let cover = pairs-left m.clauses s.clauses.items IsEntryOf mirror.clauses b go.cover go.cover_there in
      let c = go.covering in
      record {
        old = old.0;
        there = old.1;
        live = old.2.live ∙ c.gone_live;
        cover = cover.0;
        cover_there = cover.1;
        cover_live = cover.2.live ∙ c.by_live;
        apart = go.apart;
        level = omega (arith, c.level, old.2.level, cover.2.level);
        covers = subst (λ d. Covers d old.0.cube) (sym (cube-is b cover.0 go.cover c.cover cover.2 c.cover_at)) (subst (λ x. Covers c.cover x) (sym (cube-is g old.0 go.old c.old old.2 c.old_at)) c.covers);
        not_out = λ out. not-both (has_job (is_push_of g) s.jobs.items) (job-to m.jobs s.jobs.items mirror.jobs (λ j. j ≡ J.Push g) (is_push_of g) (push-to g) out) h.free;
      }

  pub first-cover : (g b : ℕ) → m.ending ≡ None → IsFirstPair history s.clauses.items s.jobs.items g b → IsFirstCover m g b
  first-cover g b open_one h = record { not_ended = open_one; cover = pair-from g b h.pair; first = λ i j c. h.first i j (pair-to i j c) }

  pub found-cover : (o : Option Cover) → m.ending ≡ None → IsFoundPair history s.clauses.items s.jobs.items o → MatchOption o ((g b : ℕ) → ¬ MayRetire m g b) (λ c. IsFirstCover m c.gone c.by)
  found-cover None open_one h = λ g b may. h g b (pair-to g b may.1)
  found-cover (Some c) open_one h = first-cover c.gone c.by open_one h

  pub can-cover : (variables widest : ℕ) → IsFit sys m → IsRoomy variables widest m → AllCanCover history variables s.clauses.items
  can-cover variables widest fit roomy k e there =
      let r = pairs-left m.clauses s.clauses.items IsEntryOf mirror.clauses k e there in
      record {
        places = λ cube at. subst HasPlaces (cube-is k r.0 e cube r.2 at) (sorted-places sys.sig r.0.cube (fit.cubes k r.0 r.1));
        fits = λ cube at. subst (λ (x : Cube). length x.sorts ≤ variables) (cube-is k r.0 e cube r.2 at) (roomy.cubes k r.0 r.1);
      }

-- what searches over pairs find
module _ (history : List Event) (clauses : List ClauseEntry) (jobs : List JobEntry) where
  abbrev Pair : ℕ → ℕ → Type 0
  Pair g b = IsPair history clauses jobs g b

  -- the covers of one clause
  module _ (gone : LiveClause) (there : slice_get clauses gone.number ≡ Some gone.entry) where
    abbrev pub Goes : ℕ → ClauseEntry → Type 0
    Goes b e = CanGoFor history gone (record { number = b; entry = e })

    pair-of : (b : ℕ) (e : ClauseEntry) → slice_get clauses b ≡ Some e → Goes b e → has_job (is_push_of gone.number) jobs ≡ false → Pair gone.number b
    pair-of b e there_b go free = record {
      go = record { old = gone.entry; old_there = there; cover = e; cover_there = there_b; apart = go.apart; covering = go.covering };
      free = free;
    }

    goes-of : (b : ℕ) (p : Pair gone.number b) → Goes b p.go.cover
    goes-of b p = record {
      apart = p.go.apart;
      covering = subst (λ x. IsCovering history x p.go.cover) (some_injective p.go.old gone.entry (sym p.go.old_there ∙ there)) p.go.covering;
    }

    pub first-by : (k : ℕ) → IsFirst clauses Goes k → has_job (is_push_of gone.number) jobs ≡ false → IsFirstBy history clauses jobs gone.number (Some k)
    first-by k f free = (pair-of k f.found f.there f.has free, λ b p. least b p (cases_lt b k))
      where
        least : (b : ℕ) → Pair gone.number b → (b < k) ⊎ (k ≤ b) → k ≤ b
        least b p (inl lt) = absurd (f.first b p.go.cover lt p.go.cover_there (goes-of b p))
        least b p (inr le) = le

    pub no-by : ((b : ℕ) (e : ClauseEntry) → slice_get clauses b ≡ Some e → ¬ Goes b e) → IsFirstBy history clauses jobs gone.number None
    no-by none b p = none b p.go.cover p.go.cover_there (goes-of b p)

  -- a clause that may go
  pub record MayGoNow (g : ℕ) (e : ClauseEntry) : Type 0 where
    pub by : ℕ
    pub there : slice_get clauses g ≡ Some e
    pub pair : IsPair history clauses jobs g by

  pub may-live : (g : ℕ) (e : ClauseEntry) → MayGoNow g e → e.live ≡ true
  may-live g e h = subst (λ (x : ClauseEntry). x.live ≡ true) (some_injective h.pair.go.old e (sym h.pair.go.old_there ∙ h.there)) h.pair.go.covering.gone_live

  pub first-pair : (g by : ℕ) → IsFirst clauses MayGoNow g → IsFirstBy history clauses jobs g (Some by) → IsFirstPair history clauses jobs g by
  first-pair g by f h = record { pair = h.0; first = λ i b p. order i b p (cases_order g i) }
    where
      order : (i b : ℕ) → Pair i b → (g ≡ i) ⊎ ((g < i) ⊎ (i < g)) → (g < i) ⊎ (g ≡ i) × (by ≤ b)
      order i b p (inl same) = inr (same, h.1 b (subst (λ n. Pair n b) (sym same) p))
      order i b p (inr (inl lt)) = inl lt
      order i b p (inr (inr lt)) = absurd (f.first i p.go.old lt p.go.old_there (record { by = b; there = p.go.old_there; pair = p }))

  pub no-pair : ((g : ℕ) (e : ClauseEntry) → slice_get clauses g ≡ Some e → ¬ MayGoNow g e) → (g b : ℕ) → ¬ Pair g b
  no-pair none g b p = none g p.go.old p.go.old_there (record { by = b; there = p.go.old_there; pair = p })

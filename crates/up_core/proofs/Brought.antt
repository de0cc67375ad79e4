-- The numbers after an event that brings a world or changes a clause are those of the machine after
-- it.
use Rattle.std.proofs.Common.{◌≡◌, ℕ, zero, suc, ◌+◌, ◌-◌, true, List, [], ◌∷◌, ◌++◌, length, Option, None, Some, slice_get, refl, sym, ap, subst, ◌∙◌, inl, inr}
use Rattle.std.specs.Option.{option_to_list}
use Rattle.std.specs.Prelude.{option_map}
use Rattle.fo_core.specs.declared.system.System.{System}
use Rattle.fo_core.specs.declared.world.World.{World}
use Rattle.up_machine.specs.declared.event.Event.{Event}
use Rattle.up_machine.specs.declared.event.Event.TheVariants as E
use Rattle.up_machine.specs.declared.event.Origin.TheVariants as O
use Rattle.up_machine.specs.Due.{IsValid}
use Rattle.up_machine.specs.Finding.{HoldsWork, HoldsPush}
use Rattle.up_machine.specs.Machine.{Clause, Ready, Waiting, Rooted, FailedPush, Given, Work, Push, Machine, IsIn}
use Rattle.up_machine.specs.Replay.{change_at, first_status, set_status, after_event, happens}
use Rattle.up_machine.specs.Sound.{IsFrameSound}
use Rattle.up_machine.proofs.FrameEvents.{given_sound}
use Rattle.up_machine.proofs.Lists.{get-append, get-push, IsPushed, any-of_place, two_places}
use Rattle.up_machine.proofs.Waiting.{get-last}
use Rattle.up_core.specs.declared.state.ClauseEntry.{ClauseEntry}
use Rattle.up_core.specs.declared.state.Progress.TheVariants as P
use Rattle.up_core.specs.declared.state.State.{State}
use Rattle.up_core.specs.Becoming.{IsState}
use Rattle.up_core.specs.Mirror.{Pairs, world_of, IsWorldAt, IsStatusOf, IsObligationOf, IsValidPush, IsClauseOf, IsMirror}
use Rattle.up_core.specs.Steps.{change_where, with_progress, work_in, push_in, others_of, failed_entry, gone_entry, progress_of, before_of, entry_before}
use Rattle.up_core.proofs.Changing.{change-none}
use Rattle.up_core.proofs.Grown.{cube-stays, world-stays, obligations-stay}
use Rattle.up_core.proofs.Marks.{read-last}
use Rattle.up_core.proofs.Mirrors.{together, kept, left-jobs, has-entry, work-is, push-is, one-more, set-same}
use Rattle.up_core.proofs.Pairing.{pairs-push, pairs-right, pairs-apart, place-any}

first-same : (history : List Event) (event : Event) (level : ℕ) (p : World) → IsWorldAt (history ++ event ∷ []) (length history) p →
    IsStatusOf (history ++ event ∷ []) (progress_of level (length history)) (first_status level p)
first-same history event (suc (suc i)) p at = refl
first-same history event (suc zero) p at = (p, refl, at)
first-same history event zero p at = (p, refl, at)

module _ (sys : System) (history : List Event) (m : Machine) (s t : State) (mirror : IsMirror sys history m s) where
  abbrev IsThen : Event → Machine → Type 0
  IsThen e n = IsMirror sys (history ++ e ∷ []) n t

  abbrev found : ℕ
  found = length history

  -- Seed
  pub seed-next : (w : ℕ) (world : World) →
      IsState t s.clauses.items (s.obligations.items ++ record { level = s.clauses.frontier; found = found; parent = None; progress = P.Ready } ∷ []) (others_of w s.jobs.items) s.clauses.frontier s.secure s.calm (s.productive + 1) s.ended →
      IsThen (E.Seed w world) (happens m (E.Seed w world))
  seed-next w world is =
      let e = E.Seed w world in
      let n = happens m e in
      let obligations = pairs-push m.obligations s.obligations.items (λ k o x. IsObligationOf (history ++ e ∷ []) o x) (record { level = m.frontier; world = world; parent = None; status = Ready }) (record { level = s.clauses.frontier; found = found; parent = None; progress = P.Ready })
      (obligations-stay history e m.obligations s.obligations.items mirror.obligations) (record { level = mirror.frontier; world = read-last world_of history e; parent = refl; status = refl }) in
      together sys history m s t mirror e n is (kept sys history m s t mirror e n refl refl) obligations (left-jobs sys history m s t mirror w) mirror.frontier mirror.secure mirror.calm (one-more m.productive s.productive mirror.productive) mirror.ended

  -- Before with an initial state
  pub root-next : (w : ℕ) (u : World) (work : HoldsWork m w) →
      IsState t s.clauses.items (change_where (work_in w s.jobs.items) (with_progress (P.Rooted found)) s.obligations.items) (others_of w s.jobs.items) s.clauses.frontier s.secure s.calm (s.productive + 1) s.ended →
      IsThen (E.Before w (O.Initial u)) (happens m (E.Before w (O.Initial u)))
  root-next w u work is =
      let e = E.Before w (O.Initial u) in
      let g = Work work.obligation work.level work.below work.world in
      let n = after_event e (Some g) m in
      let entry = has-entry w g m.jobs s.jobs.items mirror.jobs work.held in
      let set = set-same history e work.obligation (Rooted u) (P.Rooted found) m.obligations s.obligations.items (u, refl, read-last world_of history e) mirror.obligations in
      let obligations = subst (λ o. Pairs n.obligations (change_where o (with_progress (P.Rooted found)) s.obligations.items) (λ k o x. IsObligationOf (history ++ e ∷ []) o x)) (sym (work-is w g s.jobs.items entry)) set in
      subst (λ j. IsThen e (after_event e j m)) (sym work.held)
      (together sys history m s t mirror e n is (kept sys history m s t mirror e n refl refl) obligations (left-jobs sys history m s t mirror w) mirror.frontier mirror.secure mirror.calm (one-more m.productive s.productive mirror.productive) mirror.ended)

  -- Before with a step
  pub precede-next : (w : ℕ) (p : World) (work : HoldsWork m w) → IsFrameSound sys m →
      IsState t s.clauses.items (change_where (work_in w s.jobs.items) (with_progress P.Waiting) s.obligations.items ++ option_to_list (entry_before s.obligations.items (work_in w s.jobs.items) found)) (others_of w s.jobs.items) s.clauses.frontier s.secure s.calm (s.productive + 1) s.ended →
      IsThen (E.Before w (O.Step p)) (happens m (E.Before w (O.Step p)))
  precede-next w p work sound is =
      let e = E.Before w (O.Step p) in
      let k = work.obligation in
      let g = Work k work.level work.below work.world in
      let n = after_event e (Some g) m in
      let entry = has-entry w g m.jobs s.jobs.items mirror.jobs work.held in
      let given = given_sound sys m sound w g work.held in
      let pair = pairs-right m.obligations s.obligations.items (λ k o x. IsObligationOf history o x) mirror.obligations k given.obligation given.there in
      let level : work.level ≡ pair.0.level = sym given.level_is ∙ pair.2.level in
      let at = read-last world_of history e in
      let waits = set-same history e k Waiting P.Waiting m.obligations s.obligations.items refl mirror.obligations in
      let new : IsObligationOf (history ++ e ∷ []) (record { level = work.level - 1; world = p; parent = Some k; status = first_status work.level p }) (before_of k found pair.0) = record {
        level = ap (λ i. i - 1) level;
        world = at;
        parent = refl;
        status = subst (λ i. IsStatusOf (history ++ e ∷ []) (progress_of i found) (first_status work.level p)) level (first-same history e work.level p at);
      } in
      let pushed = pairs-push (set_status Waiting k m.obligations) (change_at k (with_progress P.Waiting) s.obligations.items) (λ k o x. IsObligationOf (history ++ e ∷ []) o x) _ _ waits new in
      let here = subst (λ o. Pairs n.obligations (change_at k (with_progress P.Waiting) s.obligations.items ++ option_to_list o) (λ k o x. IsObligationOf (history ++ e ∷ []) o x)) (sym (ap (option_map (before_of k found)) pair.1)) pushed in
      let obligations = subst (λ o. Pairs n.obligations (change_where o (with_progress P.Waiting) s.obligations.items ++ option_to_list (entry_before s.obligations.items o found)) (λ k o x. IsObligationOf (history ++ e ∷ []) o x)) (sym (work-is w g s.jobs.items entry)) here in
      subst (λ j. IsThen e (after_event e j m)) (sym work.held)
      (together sys history m s t mirror e n is (kept sys history m s t mirror e n refl refl) obligations (left-jobs sys history m s t mirror w) mirror.frontier mirror.secure mirror.calm (one-more m.productive s.productive mirror.productive) mirror.ended)

  -- Retire
  pub retire-next : (v gone by : ℕ) →
      Pairs (happens m (E.Retire v gone by)).clauses (change_at gone gone_entry s.clauses.items) (λ k c x. IsClauseOf (history ++ E.Retire v gone by ∷ []) sys (happens m (E.Retire v gone by)) k c x) →
      IsState t (change_at gone gone_entry s.clauses.items) s.obligations.items s.jobs.items s.clauses.frontier s.secure s.calm s.productive s.ended →
      IsThen (E.Retire v gone by) (happens m (E.Retire v gone by))
  retire-next v gone by clauses is =
      let e = E.Retire v gone by in
      together sys history m s t mirror e (happens m e) is clauses (obligations-stay history e m.obligations s.obligations.items mirror.obligations) mirror.jobs mirror.frontier mirror.secure mirror.calm mirror.productive mirror.ended

  -- Fail
  module _ (w : ℕ) (p : World) (push : HoldsPush m w) (sound : IsFrameSound sys m) (inside : IsIn sys m push.level p 0) where
    abbrev failing : Event
    failing = E.Fail w p

    abbrev given : Given
    given = Push push.clause push.level push.frame push.cube

    abbrev failed : Machine
    failed = after_event failing (Some given) m

    abbrev new_push : FailedPush
    new_push = record { clause = push.clause; level = push.level; step = p }

    moved : (k : ℕ) (c : Clause) (f : FailedPush) → IsValid sys m k c f → IsValid sys failed k c f
    moved k c f v = record { live = v.live; clause = v.clause; level = v.level; inside = v.inside }

    moved_back : (k : ℕ) (c : Clause) (f : FailedPush) → IsValid sys failed k c f → IsValid sys m k c f
    moved_back k c f v = record { live = v.live; clause = v.clause; level = v.level; inside = v.inside }

    other-push : (k : ℕ) (c : Clause) (o : Option ℕ) → ¬ (k ≡ push.clause) → IsValidPush history sys m k c o → IsValidPush (history ++ failing ∷ []) sys failed k c o
    other-push k c None apart h = λ any. let a = place-any (IsValid sys failed k c) failed.failed any in by a.0 a.1 a.3 (get-push m.failed new_push a.0 a.1 a.2)
      where
        by : (i : ℕ) (f : FailedPush) → IsValid sys failed k c f → IsPushed m.failed new_push i f → ⊥
        by i f v (inl old) = h (any-of_place (IsValid sys m k c) m.failed i f old (moved_back k c f v))
        by i f v (inr new) = apart (sym v.clause ∙ sym (ap (λ (x : FailedPush). x.clause) new.1))
    other-push k c (Some place) apart h = record {
      number = h.number;
      failed = h.failed;
      there = get-append m.failed (new_push ∷ []) h.number h.failed h.there;
      valid = moved k c h.failed h.valid;
      step = world-stays history failing place h.failed.step h.step;
    }

    other-clause : (k : ℕ) (c : Clause) (x : ClauseEntry) → ¬ (k ≡ push.clause) → IsClauseOf history sys m k c x → IsClauseOf (history ++ failing ∷ []) sys failed k c x
    other-clause k c x apart h = record { cube = cube-stays history failing x.learnt c.cube h.cube; level = h.level; live = h.live; failed = other-push k c x.failed apart h.failed }

    own-clause : (c : Clause) (x : ClauseEntry) → slice_get m.clauses push.clause ≡ Some c → IsClauseOf history sys m push.clause c x → IsClauseOf (history ++ failing ∷ []) sys failed push.clause c (failed_entry found x)
    own-clause c x there h =
        let g = given_sound sys m sound w given push.held in
        let same = two_places m.clauses push.clause g.clause c g.there there in
        record {
          cube = cube-stays history failing x.learnt c.cube h.cube;
          level = h.level;
          live = h.live;
          failed = record {
            number = length m.failed;
            failed = new_push;
            there = get-last m.failed new_push;
            valid = record {
              live = subst (λ (y : Clause). y.live ≡ true) same g.live;
              clause = refl;
              level = sym g.level_is ∙ ap (λ (y : Clause). y.level) same;
              inside = inside;
            };
            step = read-last world_of history failing;
          };
        }

    pub fail-next :
        IsState t (change_where (push_in w s.jobs.items) (failed_entry found) s.clauses.items) s.obligations.items (others_of w s.jobs.items) s.clauses.frontier s.secure s.calm (s.productive + 1) s.ended →
        IsThen failing (happens m failing)
    fail-next is =
        let entry = has-entry w given m.jobs s.jobs.items mirror.jobs push.held in
        let marked = pairs-apart m.clauses s.clauses.items (λ k c x. IsClauseOf history sys m k c x) (λ k c x. IsClauseOf (history ++ failing ∷ []) sys failed k c x) push.clause (λ c. c) (failed_entry found) mirror.clauses (λ k c x apart h. other-clause k c x apart h) own-clause in
        let kept_list = subst (λ cs. Pairs cs (change_at push.clause (failed_entry found) s.clauses.items) (λ k c x. IsClauseOf (history ++ failing ∷ []) sys failed k c x)) (change-none push.clause m.clauses) marked in
        let clauses = subst (λ o. Pairs m.clauses (change_where o (failed_entry found) s.clauses.items) (λ k c x. IsClauseOf (history ++ failing ∷ []) sys failed k c x)) (sym (push-is w given s.jobs.items entry)) kept_list in
        subst (λ j. IsThen failing (after_event failing j m)) (sym push.held)
        (together sys history m s t mirror failing failed is clauses (obligations-stay history failing m.obligations s.obligations.items mirror.obligations) (left-jobs sys history m s t mirror w) mirror.frontier mirror.secure mirror.calm (one-more m.productive s.productive mirror.productive) mirror.ended)

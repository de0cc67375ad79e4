-- The numbers after a clause is learnt or rises are those of the machine after it.
use Rattle.std.proofs.Common.{◌≡◌, ℕ, suc, ◌+◌, true, List, [], ◌∷◌, ◌++◌, length, Some, slice_get, refl, sym, ap, subst, ◌∙◌, arith}
use Rattle.std.specs.Option.{option_and_then}
use Rattle.fo_core.specs.declared.system.System.{System}
use Rattle.fo_core.specs.Sorted.{IsSystem}
use Rattle.up_diagram.specs.declared.cube.Cube.{Cube}
use Rattle.up_machine.specs.declared.event.Event.{Event}
use Rattle.up_machine.specs.declared.event.Event.TheVariants as E
use Rattle.up_machine.specs.declared.limits.Limits.{Limits}
use Rattle.up_machine.specs.Due.{IsValid}
use Rattle.up_machine.specs.Finding.{HoldsWork, HoldsPush}
use Rattle.up_machine.specs.Legal.{Legal}
use Rattle.up_machine.specs.Machine.{Clause, Work, Push, Machine}
use Rattle.up_machine.specs.Replay.{raised, after_event, happens, replay}
use Rattle.up_machine.specs.Sound.{IsFrameSound, AreSoundFails}
use Rattle.up_machine.proofs.Fails.{history_fails}
use Rattle.up_machine.proofs.FrameEvents.{given_sound, history_sound}
use Rattle.up_machine.proofs.Lists.{get-lt, two_places}
use Rattle.up_machine.proofs.OneValid.{one_valid}
use Rattle.up_core.specs.declared.state.ClauseEntry.{ClauseEntry}
use Rattle.up_core.specs.declared.state.State.{State}
use Rattle.up_core.specs.Becoming.{IsState}
use Rattle.up_core.specs.Lapsing.{IsLapsed, IsLearnt, IsRaised}
use Rattle.up_core.specs.Mirror.{Pairs, cube_of, IsObligationOf, IsClauseOf, IsMirror}
use Rattle.up_core.specs.Refuting.{pushed_in}
use Rattle.up_core.specs.Steps.{change_where, finished, work_in, push_in, others_of, raised_entry, new_entry}
use Rattle.up_core.proofs.Coming.{learnt-comes, raised-comes}
use Rattle.up_core.proofs.Grown.{obligations-stay}
use Rattle.up_core.proofs.Lapsed.{ComesInto, IsOnce, lapse-clause}
use Rattle.up_core.proofs.Marks.{read-last}
use Rattle.up_core.proofs.Mirrors.{together, left-jobs, has-entry, work-is, push-is, one-more, finish-same}
use Rattle.up_core.proofs.Pairing.{pairs-push, pairs-right, pairs-apart, pairs-through, place-any}

module _ (sys : System) (limits : Limits) (history : List Event) (s t : State) (good : IsSystem sys) (legal : Legal sys limits history) (mirror : IsMirror sys history (replay history) s) where
  abbrev m : Machine
  m = replay history

  abbrev found : ℕ
  found = length history

  once : IsOnce sys m
  once k i j c f g there at_f at_g v u = one_valid sys limits history k i j c f g good legal there at_f at_g v u

  sound : IsFrameSound sys m
  sound = history_sound sys limits history legal

  fails : AreSoundFails sys m
  fails = history_fails sys limits history good legal

  abbrev IsThen : Event → Machine → Type 0
  IsThen e n = IsMirror sys (history ++ e ∷ []) n t

  -- the other clauses, where a clause with this cube comes into some frames
  lapsed : (e : Event) (n : Machine) (cube : Cube) (low high : ℕ) → ComesInto sys m n cube low high → (middle : List ClauseEntry) →
      Pairs s.clauses.items middle (λ k x y. IsLapsed history sys.sig cube low high x y) → Pairs m.clauses middle (λ k c x. IsClauseOf (history ++ e ∷ []) sys n k c x)
  lapsed e n cube low high comes middle lapse =
      pairs-through m.clauses s.clauses.items middle (λ k c x. IsClauseOf history sys m k c x) (λ k x y. IsLapsed history sys.sig cube low high x y) (λ k c x. IsClauseOf (history ++ e ∷ []) sys n k c x)
      (λ k c x y there r l. lapse-clause sys history e m n cube low high comes once k c x there (sound.each_clause k c there).low r y l) mirror.clauses lapse

  -- Learn
  pub learn-next : (w : ℕ) (cube : Cube) (work : HoldsWork m w) (level : ℕ) → work.level ≡ level → IsLearnt history sys.sig cube level found s.clauses.items t.clauses.items →
      IsState t t.clauses.items (finished (work_in w s.jobs.items) s.obligations.items) (others_of w s.jobs.items) s.clauses.frontier s.secure s.calm (s.productive + 1) s.ended →
      IsThen (E.Learn w cube) (happens m (E.Learn w cube))
  learn-next w cube work level level_is learnt is =
      let e = E.Learn w cube in
      let g = Work work.obligation work.level work.below work.world in
      let n = after_event e (Some g) m in
      let new : Clause = record { cube = cube; level = work.level; live = true } in
      let entry = has-entry w g m.jobs s.jobs.items mirror.jobs work.held in
      let comes = subst (ComesInto sys m n cube 0) level_is (learnt-comes sys m n refl new refl refl) in
      let others = lapsed e n cube 0 level comes learnt.middle learnt.lapsed in
      let own : IsClauseOf (history ++ e ∷ []) sys n (length m.clauses) new (new_entry found level) = record {
        cube = read-last cube_of history e;
        level = level_is;
        live = refl;
        failed = λ any. let a = place-any (IsValid sys n (length m.clauses) new) n.failed any in let f = fails a.0 a.1 a.2 in let lt = get-lt m.clauses a.1.clause f.clause f.there in let same = a.3.clause in omega (arith, lt, same);
      } in
      let pushed = pairs-push m.clauses learnt.middle (λ k c x. IsClauseOf (history ++ e ∷ []) sys n k c x) new (new_entry found level) others own in
      let clauses = subst (λ xs. Pairs n.clauses xs (λ k c x. IsClauseOf (history ++ e ∷ []) sys n k c x)) (sym learnt.learnt) pushed in
      let obligations = subst (λ o. Pairs n.obligations (finished o s.obligations.items) (λ k o x. IsObligationOf (history ++ e ∷ []) o x)) (sym (work-is w g s.jobs.items entry)) (finish-same history e work.obligation m.obligations s.obligations.items mirror.obligations) in
      subst (λ j. IsThen e (after_event e j m)) (sym work.held)
      (together sys history m s t mirror e n is clauses obligations (left-jobs sys history m s t mirror w) mirror.frontier mirror.secure mirror.calm (one-more m.productive s.productive mirror.productive) mirror.ended)

  -- Raise
  pub raise-next : (w : ℕ) (push : HoldsPush m w) → ((x : ClauseEntry) → pushed_in w s.clauses.items s.jobs.items ≡ Some x → IsRaised history sys.sig (push_in w s.jobs.items) s.clauses.items t.clauses.items x) →
      IsState t t.clauses.items s.obligations.items (others_of w s.jobs.items) s.clauses.frontier s.secure s.calm (s.productive + 1) s.ended →
      IsThen (E.Raise w) (happens m (E.Raise w))
  raise-next w push rises is =
      let e = E.Raise w in
      let k = push.clause in
      let g = Push k push.level push.frame push.cube in
      let n = after_event e (Some g) m in
      let given = given_sound sys m sound w g push.held in
      let top = given.clause in
      let entry = has-entry w g m.jobs s.jobs.items mirror.jobs push.held in
      let pair = pairs-right m.clauses s.clauses.items (λ k c x. IsClauseOf history sys m k c x) mirror.clauses k top given.there in
      let x = pair.0 in
      let r = rises x (ap (option_and_then (slice_get s.clauses.items)) (push-is w g s.jobs.items entry) ∙ pair.1) in
      let level : suc top.level ≡ x.level + 1 = one-more top.level x.level pair.2.level in
      let comes = subst (λ l. ComesInto sys m n top.cube l l) level (raised-comes sys m n refl k top given.there given.live refl) in
      let others = lapsed e n top.cube (x.level + 1) (x.level + 1) comes r.middle (r.lapsed top.cube pair.2.cube) in
      let rose = pairs-apart m.clauses r.middle (λ k c x. IsClauseOf (history ++ e ∷ []) sys n k c x) (λ k c x. IsClauseOf (history ++ e ∷ []) sys n k c x) k raised (raised_entry (x.level + 1)) others
      (λ j c y apart h. h)
      (λ c y there h. record {
        cube = h.cube;
        level = ap (λ (z : Clause). suc z.level) (two_places m.clauses k c top there given.there) ∙ level;
        live = h.live;
        failed = λ any.
            let a = place-any (IsValid sys n k (raised c)) n.failed any in
            let f = fails a.0 a.1 a.2 in
            let same = two_places m.clauses k f.clause c (subst (λ p. slice_get m.clauses p ≡ Some f.clause) a.3.clause f.there) there in
            let here = ap (λ (z : Clause). z.level) same in
            let low = f.low in
            let high = a.3.level in
            omega (arith, here, low, high);
      }) in
      let placed = subst (λ o. Pairs n.clauses (change_where o (raised_entry (x.level + 1)) r.middle) (λ k c x. IsClauseOf (history ++ e ∷ []) sys n k c x)) (sym (push-is w g s.jobs.items entry)) rose in
      let clauses = subst (λ xs. Pairs n.clauses xs (λ k c x. IsClauseOf (history ++ e ∷ []) sys n k c x)) (sym r.raised) placed in
      subst (λ j. IsThen e (after_event e j m)) (sym push.held)
      (together sys history m s t mirror e n is clauses (obligations-stay history e m.obligations s.obligations.items mirror.obligations) (left-jobs sys history m s t mirror w) mirror.frontier mirror.secure mirror.calm (one-more m.productive s.productive mirror.productive) mirror.ended)

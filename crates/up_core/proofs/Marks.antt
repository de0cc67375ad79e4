-- What Retire and Fail do to the clauses' entries.
use Rattle.std.proofs.Common.{◌≡◌, ℕ, List, [], ◌∷◌, ◌++◌, length, Option, slice_get, refl, sym, ap, subst}
use Rattle.std.specs.Option.{option_and_then}
use Rattle.fo_core.specs.declared.system.System.{System}
use Rattle.fo_core.specs.declared.world.World.{World}
use Rattle.up_machine.specs.declared.event.Event.{Event}
use Rattle.up_machine.specs.declared.event.Event.TheVariants as E
use Rattle.up_machine.specs.declared.limits.Limits.{Limits}
use Rattle.up_machine.specs.Due.{IsValid}
use Rattle.up_machine.specs.Legal.{IsLegal, Legal}
use Rattle.up_machine.specs.Machine.{Clause, Machine, IsIn}
use Rattle.up_machine.specs.Replay.{change_at, retired, happens, replay}
use Rattle.up_machine.proofs.Histories.{legal-push, replay-push, retire_keeps}
use Rattle.up_machine.proofs.Lists.{false_is_true}
use Rattle.up_machine.proofs.Waiting.{get-last}
use Rattle.up_core.specs.declared.state.ClauseEntry.{ClauseEntry}
use Rattle.up_core.specs.Mirror.{Pairs, IsClauseOf}
use Rattle.up_core.specs.Steps.{gone_entry}
use Rattle.up_core.proofs.Grown.{cube-stays, clause-stays}
use Rattle.up_core.proofs.Pairing.{pairs-both, place-any}

-- what the last event of a history brings
pub read-last : {X Y : Type 0} (f : X → Option Y) (xs : List X) (x : X) → option_and_then f (slice_get (xs ++ x ∷ []) (length xs)) ≡ f x
read-last f xs x = ap (option_and_then f) (get-last xs x)

-- a clause that goes
module _ (sys : System) (limits : Limits) (history : List Event) (v gone by : ℕ) (legal : Legal sys limits history) (next : IsLegal sys limits (replay history) (E.Retire v gone by)) where
  abbrev before : Machine
  before = replay history

  abbrev event : Event
  event = E.Retire v gone by

  abbrev after : Machine
  after = happens before event

  keeps : Legal sys limits (history ++ event ∷ [])
  keeps = legal-push sys limits history event legal next

  to : (i : ℕ) (w : World) (c : ℕ) → IsIn sys before i w c → IsIn sys after i w c
  to i w c h = subst (λ m. IsIn sys m i w c) (replay-push history event) ((retire_keeps sys limits history v gone by i w c keeps).0 h)

  from : (i : ℕ) (w : World) (c : ℕ) → IsIn sys after i w c → IsIn sys before i w c
  from i w c h = (retire_keeps sys limits history v gone by i w c keeps).1 (subst (λ m. IsIn sys m i w c) (sym (replay-push history event)) h)

  went : (c : Clause) (e : ClauseEntry) → IsClauseOf history sys before gone c e → IsClauseOf (history ++ event ∷ []) sys after gone (retired c) (gone_entry e)
  went c e h = record {
    cube = cube-stays history event e.learnt c.cube h.cube;
    level = h.level;
    live = refl;
    failed = λ any. let a = place-any (IsValid sys after gone (retired c)) after.failed any in false_is_true a.3.live;
  }

  pub clauses-go : (es : List ClauseEntry) → Pairs before.clauses es (λ k c e. IsClauseOf history sys before k c e) →
      Pairs after.clauses (change_at gone gone_entry es) (λ k c e. IsClauseOf (history ++ event ∷ []) sys after k c e)
  clauses-go es h =
      pairs-both before.clauses es (λ k c e. IsClauseOf history sys before k c e) (λ k c e. IsClauseOf (history ++ event ∷ []) sys after k c e) gone retired gone_entry h
      (clause-stays history event sys before after refl to from) went

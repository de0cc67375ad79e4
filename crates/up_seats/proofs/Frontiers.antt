-- The frontier is within the limit on frames.
use Rattle.std.proofs.Common.{◌≤◌, ◌<◌, inl, inr, List, arith}
use Rattle.fo_core.specs.declared.system.System.{System}
use Rattle.up_machine.specs.declared.limits.Limits.{Limits}
use Rattle.up_machine.specs.declared.event.Event.{Event}
use Rattle.up_machine.specs.declared.event.Event.TheVariants as E
use Rattle.up_machine.specs.declared.job.Task.TheVariants as T
use Rattle.up_machine.specs.Due.{IsDue}
use Rattle.up_machine.specs.Legal.{IsLegal, Legal}
use Rattle.up_machine.specs.Machine.{Machine, start}
use Rattle.up_machine.specs.Replay.{happens, replay}
use Rattle.up_machine.proofs.Histories.{along}

module _ (sys : System) (limits : Limits) where
  advance_low : (m : Machine) → IsDue sys limits m T.Advance → m.frontier < limits.frames
  advance_low m (inl h) = absurd h
  advance_low m (inr (a, inl h)) = absurd h
  advance_low m (inr (a, inr (b, inl h))) = absurd h
  advance_low m (inr (a, inr (b, inr (c, inl h)))) = absurd h
  advance_low m (inr (a, inr (b, inr (c, inr (d, inl h))))) = absurd h
  advance_low m (inr (a, inr (b, inr (c, inr (d, inr (e, inl h)))))) = absurd h
  advance_low m (inr (a, inr (b, inr (c, inr (d, inr (e, inr (f, inl h))))))) = absurd h
  advance_low m (inr (a, inr (b, inr (c, inr (d, inr (e, inr (f, inr (g, inl h)))))))) = h.1
  advance_low m (inr (a, inr (b, inr (c, inr (d, inr (e, inr (f, inr (g, inr (i, h))))))))) = absurd h

  abbrev IsWithin : Machine → Type 0
  IsWithin m = m.frontier ≤ limits.frames

  stays_within : (m : Machine) (e : Event) → IsWithin m → IsLegal sys limits m e → IsWithin (happens m e)
  stays_within m (E.Advance w) h legal = let low = advance_low m legal.allowed in omega (arith, low)
  stays_within m (E.Seed w s) h legal = h
  stays_within m (E.Take w job) h legal = h
  stays_within m (E.Return w why) h legal = h
  stays_within m (E.Learn w cube) h legal = h
  stays_within m (E.Before w origin) h legal = h
  stays_within m (E.Drop w c) h legal = h
  stays_within m (E.Raise w) h legal = h
  stays_within m (E.Fail w p) h legal = h
  stays_within m (E.Secure w) h legal = h
  stays_within m (E.Close w end) h legal = h
  stays_within m (E.Retire w gone by) h legal = h

  pub frontier_low : (history : List Event) → 1 ≤ limits.frames → Legal sys limits history → (replay history).frontier ≤ limits.frames
  frontier_low history low legal = along sys limits IsWithin stays_within start history low legal

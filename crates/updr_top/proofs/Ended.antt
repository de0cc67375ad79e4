-- Ends of one kind are ends of another.
use Rattle.std.proofs.Common.{Result, Ok, Err, IfOk}
use Rattle.std.specs.declared.alloc.AllocError.{AllocError}
use Rattle.updr_told.specs.Ends.{End}

pub if_end : {L : Type 0} (r : Result (End L) AllocError) (P Q : End L → Type 0) → ((e : End L) → P e → Q e) → IfOk r P → IfOk r Q
if_end (Ok e) P Q goes h = goes e h
if_end (Err x) P Q goes h = tt

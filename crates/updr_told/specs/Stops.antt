-- Where a stage of a call stops.
use Rattle.std.specs.Prelude.{Result, Ok, Err, ⊤}
use Rattle.updr_told.specs.Ends.{End, out_of_memory}
use Rattle.updr_told.specs.declared.stop.Stop.{Stop}
use Rattle.updr_told.specs.declared.stop.Stop.TheVariants.{Refused, Memory}

-- where the stage refuses, the end is of this kind
abbrev pub IfRefused : {L T : Type 0} → Result T (Stop L) → (End L → Type 0) → Type 0
IfRefused (Ok _) P = ⊤
IfRefused (Err (Refused told)) P = P told
IfRefused (Err Memory) P = ⊤

-- the call comes to an end of this kind, or memory is refused
abbrev pub ComesAs : {L : Type 0} → (End L → Type 0) → Result (End L) (Stop L) → Type 0
ComesAs MayEnd (Ok told) = MayEnd told
ComesAs MayEnd (Err (Refused told)) = MayEnd told
ComesAs MayEnd (Err Memory) = ⊤

-- the end that is to be told: want of memory is one too
abbrev pub end_of_call : {L : Type 0} → Result (End L) (Stop L) → End L
end_of_call (Ok told) = told
end_of_call (Err (Refused told)) = told
end_of_call (Err Memory) = out_of_memory

-- The fault that is told where reading stopped.
use Rattle.std.specs.Prelude.{◌≡◌, ℕ, ◌-◌, ◌≤◌, List, length, drop}
use Rattle.pyv_lex.specs.declared.token.Token.{Token}
use Rattle.pyv_grammar.specs.declared.reading.Stuck.TheVariants.{Bad, Deep}
use Rattle.pyv_parse.specs.declared.halt.Halt.{Halt}
use Rattle.pyv_parse.specs.declared.halt.Halt.TheVariants as halt
use Rattle.pyv_parse.specs.declared.fault.ParseFault.{ParseFault}
use Rattle.pyv_parse.specs.declared.fault.ParseFault.TheVariants as fault
use Rattle.pyv_parse.specs.Faults.{Place, BeginsWith, BeginsUnsupported}

abbrev pub IsAmong : List Token → Halt → Type 0
IsAmong tokens halt.Memory = Unit {0}
IsAmong tokens (halt.Stuck (Bad n)) = n ≤ length tokens
IsAmong tokens (halt.Stuck (Deep n)) = n ≤ length tokens

-- no tree goes on by the first of these tokens
abbrev pub TellsBad : List ℕ → List Token → ParseFault → Type 0
TellsBad bytes back (fault.Syntax place) = Place bytes back place × ¬ BeginsUnsupported bytes back
TellsBad bytes back (fault.Unsupported span) = BeginsWith back span × BeginsUnsupported bytes back
TellsBad bytes back (fault.TooDeep place) = ⊥
TellsBad bytes back fault.Memory = ⊥

abbrev pub TellsDeep : List ℕ → List Token → ParseFault → Type 0
TellsDeep bytes back (fault.Syntax place) = ⊥
TellsDeep bytes back (fault.Unsupported span) = ⊥
TellsDeep bytes back (fault.TooDeep place) = Place bytes back place
TellsDeep bytes back fault.Memory = ⊥

-- so many tokens at the end
abbrev pub last_of : ℕ → List Token → List Token
last_of n tokens = drop (length tokens - n) tokens

abbrev pub Tells : List ℕ → List Token → Halt → ParseFault → Type 0
Tells bytes tokens halt.Memory f = f ≡ fault.Memory
Tells bytes tokens (halt.Stuck (Bad n)) f = TellsBad bytes (last_of n tokens) f
Tells bytes tokens (halt.Stuck (Deep n)) f = TellsDeep bytes (last_of n tokens) f

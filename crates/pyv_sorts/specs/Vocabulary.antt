-- A text and what its model declares.
use Rattle.std.specs.Prelude.{ℕ, ◌<◌, List, length}
use Rattle.fo_core.specs.declared.names.Names.{Names}
use Rattle.fo_core.specs.declared.signature.Sig.{Sig}
use Rattle.pyv_meaning.specs.declared.variable.Meaning.{Meaning}
use Rattle.pyv_meaning.specs.declared.variable.Meaning.TheVariants as meaning

pub record Vocabulary : Type 0 where
  pub bytes : List ℕ
  pub names : Names
  pub sig : Sig

-- a symbol of the signature
abbrev pub InRange : Vocabulary → Meaning → Type 0
InRange v (meaning.Symbol k) = k < length v.names.symbols
InRange v (meaning.Variable binder level) = Unit {0}
InRange v meaning.Unknown = Unit {0}

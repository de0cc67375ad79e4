use Rattle.std.proofs.Common.{◌≡◌, ◌++◌, take}
use Rattle.fo_ground.proofs.starts.with_skolems.Given as goal

-- the Skolem functions before this one stand after the symbols
abbrev pub invariant-each : goal.invariant-each
invariant-each l = record {
  sorts : l.whole.sorts ≡ l.sig.sorts;
  symbols : l.whole.symbols ≡ l.sig.symbols ++ take l.symbol-index l.symbol-items;
}

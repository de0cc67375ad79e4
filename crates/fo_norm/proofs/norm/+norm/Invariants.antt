use Rattle.std.proofs.Common.{◌≡◌, ◌+◌, ◌-◌, ◌++◌, ◌<◌, ◌^◌, take, length}
use Rattle.fo_core.specs.Skolems.{skolem_symbols_list}
use Rattle.fo_norm.specs.Skolem.{formed_list}
use Rattle.fo_norm.proofs.norm.+norm.Given as goal

-- the formulas before this one are formed
abbrev pub invariant-formed_each-each : goal.invariant-formed_each-each
invariant-formed_each-each l = record {
  parts : l.parts ≡ formed_list l.positive (take l.item-index l.items) l.fn.scope.slots.items l.fn.scope.universals.items (l.symbols + length l.fn.scope.skolems);
  skolems : l.scope.skolems ≡ l.fn.scope.skolems ++ skolem_symbols_list l.positive (take l.item-index l.items) l.fn.scope.universals.items;
  slots : l.scope.slots.items ≡ l.fn.scope.slots.items;
  universals : l.scope.universals.items ≡ l.fn.scope.universals.items;
  few : l.symbols + length l.scope.skolems < 2 ^ 32 - 1;
}

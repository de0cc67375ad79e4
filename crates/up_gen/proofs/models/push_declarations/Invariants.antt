use Rattle.std.proofs.Common.{◌≡◌, ◌++◌, string_bytes}
use Rattle.std.specs.List.{flat_map, range_with_len}
use Rattle.up_gen.specs.Models.{declaration}
use Rattle.up_gen.proofs.models.push_declarations.Given as goal

abbrev pub invariant-each : goal.invariant-each
invariant-each l = string_bytes l.text ≡ string_bytes l.fn.text ++ flat_map declaration (range_with_len 0 l.k)

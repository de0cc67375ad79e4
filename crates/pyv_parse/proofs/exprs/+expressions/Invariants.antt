use Rattle.std.proofs.Common.{◌≡◌, ◌≤◌, length, ◌+◌, ◌*◌}
use Rattle.pyv_grammar.specs.Grammar.{Exprs}
use Rattle.pyv_grammar.specs.Reading.{all_separated, listed, ends_open, read}
use Rattle.pyv_parse.specs.Gives.{gathered, put_member, no_members, sign_of, operand_of}
use Rattle.pyv_parse.proofs.Ranks.{rank}
use Rattle.pyv_parse.proofs.exprs.+expressions.Given as goal

abbrev pub decreases-named : goal.decreases-named
decreases-named l = l.room * 32 + 3

abbrev pub decreases-atom : goal.decreases-atom
decreases-atom l = l.room * 32 + 4

abbrev pub decreases-comparison : goal.decreases-comparison
decreases-comparison l = l.room * 32 + 5

abbrev pub decreases-unary : goal.decreases-unary
decreases-unary l = l.room * 32 + 6

abbrev pub decreases-negated : goal.decreases-negated
decreases-negated l = l.room * 32 + 7

abbrev pub decreases-operand : goal.decreases-operand
decreases-operand l = l.room * 32 + 7 + rank l.connective

abbrev pub decreases-operands : goal.decreases-operands
decreases-operands l = l.room * 32 + 8 + rank l.connective

abbrev pub decreases-joined : goal.decreases-joined
decreases-joined l = l.room * 32 + 9 + rank l.connective

abbrev pub decreases-without_iff : goal.decreases-without_iff
decreases-without_iff l = l.room * 32 + 13

abbrev pub decreases-expr : goal.decreases-expr
decreases-expr l = l.room * 32 + 14

abbrev pub decreases-bracketed : goal.decreases-bracketed
decreases-bracketed l = l.room * 32 + 15

abbrev pub decreases-binding : goal.decreases-binding
decreases-binding l = l.room * 32 + 15

abbrev pub decreases-part : goal.decreases-part
decreases-part l = l.room * 32 + 15

abbrev pub decreases-chosen : goal.decreases-chosen
decreases-chosen l = l.room * 32 + 16

abbrev pub decreases-arguments : goal.decreases-arguments
decreases-arguments l = l.room * 32 + 15

abbrev pub decreases-changed : goal.decreases-changed
decreases-changed l = l.room * 32 + 16

abbrev pub decreases-distinct : goal.decreases-distinct
decreases-distinct l = l.room * 32 + 16

abbrev pub invariant-operands-loop-members : goal.invariant-operands-loop-members
invariant-operands-loop-members l = record {
  same : gathered put_member l.members (all_separated ends_open (read l.room l.height (operand_of l.connective)) (sign_of l.connective) l.rest)
      ≡ gathered put_member l.initial.members (all_separated ends_open (read l.room l.height (operand_of l.connective)) (sign_of l.connective) l.tokens);
  shorter : length l.rest ≤ length l.tokens;
  low : l.members.height ≤ l.height;
}

abbrev pub decreases-operands-loop-members : goal.decreases-operands-loop-members
decreases-operands-loop-members l = length l.rest

abbrev pub invariant-arguments-loop-members : goal.invariant-arguments-loop-members
invariant-arguments-loop-members l = record {
  same : gathered put_member l.members (listed (read l.room l.height Exprs) l.rest) ≡ gathered put_member no_members (listed (read l.room l.height Exprs) l.tokens);
  shorter : length l.rest ≤ length l.tokens;
  low : l.members.height ≤ l.height;
}

abbrev pub decreases-arguments-loop-members : goal.decreases-arguments-loop-members
decreases-arguments-loop-members l = length l.rest

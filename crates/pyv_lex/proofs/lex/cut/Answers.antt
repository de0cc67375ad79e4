use Rattle.std.proofs.Common.{List, sym, subst, arith}
use Rattle.std.proofs.lemmas.List.{length-drop}
use Rattle.std.proofs.lemmas.Result.{err_from_is_err_and}
use Rattle.pyv_lex.specs.declared.token.Token.{Token}
use Rattle.pyv_lex.specs.Cutting.{Cuts}
use Rattle.pyv_lex.specs.Cutting as cut
use Rattle.pyv_lex.proofs.Lexing.{front_of, next, smaller, keep_fault}
use Rattle.pyv_lex.proofs.lex.cut.Goals as goal

pub pieces-init : goal.pieces-init
pieces-init c = record {
  within = omega arith;
  few = rw c.new-found.ensures (omega arith);
  cut = subst (λ (t : List Token). Cuts 0 c.args.bytes.now t 0 c.args.bytes.now) (sym c.new-found.ensures) (cut.here 0 c.args.bytes.now);
}

pub returns-in_err-keep-clause-fault : goal.returns-in_err-keep-clause-fault
returns-in_err-keep-clause-fault c =
    let p = err_from_is_err_and c.from_residual.result c.from_residual.ensures.1 in
    rw (p.1, p.2) (keep_fault c.args.bytes.now c.pieces.found c.pieces.at c.in-Some.piece.len c.in-Some.piece.kind c.in_err-keep.field-0.0 c.requires.utf8 c.pieces.invariant.cut (front_of c.args.bytes.now c.pieces.at c.in-Some.piece.len c.in-Some.piece.kind c.in-Some.ensures) c.in_err-keep.ensures.fault)

pub pieces-smaller : goal.pieces-smaller
pieces-smaller c = smaller c.args.bytes.now c.pieces.at c.in-Some.piece.len c.in-Some.piece.kind c.pieces-test.true (front_of c.args.bytes.now c.pieces.at c.in-Some.piece.len c.in-Some.piece.kind c.in-Some.ensures)

pub pieces-preserved : goal.pieces-preserved
pieces-preserved c = record {
  within = let n = (front_of c.args.bytes.now c.pieces.at c.in-Some.piece.len c.in-Some.piece.kind c.in-Some.ensures).0 in let m = length-drop c.pieces.at c.args.bytes.now in let t = c.pieces.invariant.within in omega arith;
  few = c.in_ok-keep.ensures.few;
  cut = next c.args.bytes.now c.pieces.at c.pieces.found c.keep.new.found c.in-Some.piece.kind c.in-Some.piece.len c.pieces.invariant.cut (front_of c.args.bytes.now c.pieces.at c.in-Some.piece.len c.in-Some.piece.kind c.in-Some.ensures) c.in_ok-keep.ensures.kept;
}

use Rattle.pyv_parse.proofs.Verdicts.{found, only, among, only_fault, first}
use Rattle.pyv_parse.proofs.file.parse.Goals as goal

pub told-requires-clause-among : goal.told-requires-clause-among
told-requires-clause-among c = among c.args.tokens.now c.in-Err.halt c.in-Err.ensures.gives

pub returns-in-Ok-clause-found : goal.returns-in-Ok-clause-found
returns-in-Ok-clause-found c = found c.args.tokens.now c.in-Ok.decls c.in-Ok.ensures.gives

pub returns-in-Ok-clause-only : goal.returns-in-Ok-clause-only
returns-in-Ok-clause-only c = λ decls is. only c.args.tokens.now c.in-Ok.decls decls c.in-Ok.ensures.gives is

pub returns-in-Err-clause-only : goal.returns-in-Err-clause-only
returns-in-Err-clause-only c = λ decls is. only_fault c.args.bytes.now c.args.tokens.now c.in-Err.halt c.told.result decls c.in-Err.ensures.gives c.told.ensures.tells is

pub returns-in-Err-clause-fault : goal.returns-in-Err-clause-fault
returns-in-Err-clause-fault c = first c.args.bytes.now c.args.tokens.now c.in-Err.halt c.told.result c.in-Err.ensures.gives c.told.ensures.tells

use Rattle.std.proofs.Common.{Bor, List, sym, subst, ◌∙◌}
use Rattle.std.specs.Prelude.{Option, None, option_map}
use Rattle.up_claims.specs.InferQueries.{root_query}
use Rattle.up_diagram.specs.declared.cube.Cube.{Cube}
use Rattle.up_block.specs.Passing.{CanPass}
use Rattle.up_block.proofs.Reducing.{root-over, none-found, step-over, AreNone, may-pass, is-reduced}
use Rattle.up_block.proofs.blocking.block_cube.Goals as goal

pub returns-in-Over-clause-found : goal.returns-in-Over-clause-found
returns-in-Over-clause-found g c =
    let frame : Option (List Cube) = option_map (λ (cubes : Bor (List Cube)). cubes.now) c.args.frame in
    root-over c.args.sys.now (g.F.Finder.limit c.args.f.now) frame c.args.cube c.in_ok-root.root c.in-Over.excess c.in_ok-root.ensures.query
    (rw (c.in-Over.is) at c.in_ok-w.ensures.found)

pub returns-in-Over-2-clause-found : goal.returns-in-Over-2-clause-found
returns-in-Over-2-clause-found g c =
    let frame : Option (List Cube) = option_map (λ (cubes : Bor (List Cube)). cubes.now) c.args.frame in
    let limit = g.F.Finder.limit c.args.f.now in
    step-over c.args.sys.now limit frame c.args.cube c.in_ok-before.before c.in-Over-2.excess c.in_ok-before.ensures.query
    (none-found c.args.sys.now limit frame c.args.cube c.in_ok-root.root (root_query c.args.sys.now c.args.cube) c.in_ok-root.ensures.query
    (rw (c.in-Nothing.is) at c.in_ok-w.ensures.found))
    (rw (c.in_ok-w.ensures.limit, c.in-Over-2.is) at c.in_ok-w-2.ensures.found)

pub over-requires : goal.over-requires
over-requires g c =
    let frame : Option (List Cube) = option_map (λ (cubes : Bor (List Cube)). cubes.now) c.args.frame in
    let limit = g.F.Finder.limit c.args.f.now in
    let none : AreNone limit frame c.args.cube c.in_ok-root.root c.in_ok-before.before c.args.sys.now c.args.order.now = record {
      infer = c.requires.infer;
      framed = c.requires.frame;
      known = c.requires.cube;
      is_root = c.in_ok-root.ensures.query;
      is_step = c.in_ok-before.ensures.query;
      root_none = rw (c.in-Nothing.is) at c.in_ok-w.ensures.found;
      step_none = rw (c.in_ok-w.ensures.limit, c.in-Nothing-2.is) at c.in_ok-w-2.ensures.found;
    } in
    subst (λ n. CanPass n c.in_ok-pass.pass c.args.cube) (sym (c.in_ok-w-2.ensures.limit ∙ c.in_ok-w.ensures.limit))
    (may-pass limit frame c.args.cube c.in_ok-root.root c.in_ok-before.before c.args.sys.now c.args.order.now c.in_ok-pass.pass none c.in_ok-pass.ensures)

pub returns-clause-found : goal.returns-clause-found
returns-clause-found g c =
    let frame : Option (List Cube) = option_map (λ (cubes : Bor (List Cube)). cubes.now) c.args.frame in
    let limit = g.F.Finder.limit c.args.f.now in
    let none : AreNone limit frame c.args.cube c.in_ok-root.root c.in_ok-before.before c.args.sys.now c.args.order.now = record {
      infer = c.requires.infer;
      framed = c.requires.frame;
      known = c.requires.cube;
      is_root = c.in_ok-root.ensures.query;
      is_step = c.in_ok-before.ensures.query;
      root_none = rw (c.in-Nothing.is) at c.in_ok-w.ensures.found;
      step_none = rw (c.in_ok-w.ensures.limit, c.in-Nothing-2.is) at c.in_ok-w-2.ensures.found;
    } in
    is-reduced limit frame c.args.cube c.in_ok-root.root c.in_ok-before.before c.args.sys.now c.args.order.now c.in_ok-pass.pass none c.in_ok-pass.ensures
    c.in_ok-over.field-0 c.in_ok-over.ensures.passed

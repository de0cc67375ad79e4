use Rattle.std.proofs.Common.{◌≡◌, ◌-◌, ◌++◌, length, map, min, take, drop, ap, sym, subst, ◌∙◌, rules, arith}
use Rattle.std.proofs.lemmas.List.Elements.{All-append, All-map, All-same, All-take}
use Rattle.std.proofs.lemmas.Result.{IfOk-weaker}
use Rattle.std.specs.List.{All}
use Rattle.up_rounds.specs.Crew.{AreGathered}
use Rattle.up_rounds.proofs.CrewSolves.{HaveSolved, cells_solve, finders_keep, lent_back, staffed}
use Rattle.up_rounds.proofs.crew.solve_jobs.Goals as goal

have_solved : (g : _) (c : goal.After-gather g) →
    HaveSolved g.M.One.Finder.limit (g.M.Finders.limit c.args.makers.now) c.args.sys.now
    c.args.briefs.now c.args.workers c.as_mut_slice.result.now c.solve_shares.new.cells
have_solved g c = record {
  some = c.requires.workers;
  many = c.as_mut_slice.ensures.len ∙ c.in_ok-cells.ensures.many ∙ c.min-shares.ensures;
  same = omega arith;
  limits = search rules;
  each = c.solve_shares.ensures;
}

-- the cells as they came back from where they were lent
cells_back : (g : _) (c : goal.After-gather g) →
    take c.in_ok-cells.cells.len
    (c.solve_shares.new.cells
    ++ drop (length c.solve_shares.new.cells) c.in_ok-cells.cells.items)
    ≡ c.solve_shares.new.cells
cells_back g c = lent_back c.in_ok-cells.cells.items c.solve_shares.new.cells
    c.in_ok-cells.cells.len (omega arith)

pub returns-clause-finders : goal.returns-clause-finders
returns-clause-finders g c =
    let limit = g.M.One.Finder.limit in
    let n = g.M.Finders.limit c.args.makers.now in
    let back = c.gather.ensures.finders in
    let kept = subst (All (λ cell. limit cell.finder ≡ n)) (sym (cells_back g c))
    (finders_keep limit n c.args.sys.now c.args.briefs.now c.args.workers
    c.as_mut_slice.result.now c.solve_shares.new.cells (have_solved g c)) in
    All-same (λ f. limit f ≡ n) _ _ back.1
    (All-append (λ f. limit f ≡ n) _ _ c.in_ok-cells.ensures.kept
    (All-map (λ f. limit f ≡ n) (λ cell. cell.finder) _
    (All-take (λ cell. limit cell.finder ≡ n) back.0 _ kept)))

pub returns-clause-solved : goal.returns-clause-solved
returns-clause-solved g c =
    let solve = cells_solve g.M.One.Finder.limit (g.M.Finders.limit c.args.makers.now)
    c.args.sys.now c.args.briefs.now c.args.workers c.as_mut_slice.result.now
    c.solve_shares.new.cells in
    IfOk-weaker c.gather.result _ _
    (λ s gathered. solve s.items (have_solved g c)
    (subst (λ cells. AreGathered cells s.items) (cells_back g c) gathered))
    c.gather.ensures.gathered

pub returns-clause-staffed : goal.returns-clause-staffed
returns-clause-staffed g c =
    let solved = have_solved g c in
    IfOk-weaker c.gather.result _ _
    (λ s back.
    let all = subst (λ cells. c.gather.new.crew.finders.items
    ≡ c.cells_of.new.crew.finders.items ++ map (λ cell. cell.finder) cells)
    (cells_back g c) back in
    staffed (λ cell. cell.finder) c.args.crew.now.finders.items
    c.cells_of.new.crew.finders.items c.gather.new.crew.finders.items
    c.solve_shares.new.cells (min (length c.args.briefs.now) c.args.workers)
    (c.in_ok-cells.ensures.taken ∙ ap (λ n. length c.args.crew.now.finders.items - n)
    c.min-shares.ensures)
    (solved.same ∙ solved.many) all)
    c.gather.ensures.back

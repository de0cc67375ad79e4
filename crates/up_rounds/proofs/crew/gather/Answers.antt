use Rattle.std.proofs.Common.{◌∷◌, [], ◌++◌, IsSome, ap, sym, ◌∙◌, append_assoc}
use Rattle.std.proofs.lemmas.List.Elements.{All-push}
use Rattle.std.specs.Vec.Iter.{into_iter_items}
use Rattle.up_rounds.specs.Crew.{answers_of}
use Rattle.up_rounds.proofs.CrewSolves.{answers_more, finders_back, finders_more}
use Rattle.up_rounds.proofs.crew.gather.Goals as goal

pub returns-in_err-hand_in-clause-finders : goal.returns-in_err-hand_in-clause-finders
returns-in_err-hand_in-clause-finders g c =
    let done = c.each.yielded in
    let parts = c.each.invariant.parts ∙ ap (λ cells. done ++ cells) c.in-Some.ensures.steps.0 in
    finders_back (λ cell. cell.finder) c.args.crew.now.finders.items c.each.crew.finders.items
    c.hand_in.new.crew.finders.items c.args.cells.items done (into_iter_items c.next.new.self)
    c.in-Some.cell parts c.each.invariant.finders c.hand_in.ensures.finder

pub each-preserved : goal.each-preserved
each-preserved g c =
    let done = c.each.yielded in
    let cell = c.in-Some.cell in
    let rest = into_iter_items c.next.new.self in
    let parts = c.each.invariant.parts ∙ ap (λ cells. done ++ cells) c.in-Some.ensures.steps.0 in
    record {
      parts = parts ∙ sym (append_assoc done (cell ∷ []) rest);
      finders = finders_more (λ cell. cell.finder) c.args.crew.now.finders.items
          c.each.crew.finders.items c.hand_in.new.crew.finders.items done cell
          c.each.invariant.finders c.in_ok-hand_in.ensures.back;
      all = All-push (λ cell. IsSome cell.answers) done cell c.each.invariant.all
          c.in_ok-hand_in.ensures.some;
      in_order = answers_more answers_of c.each.all.items c.hand_in.new.all.items done cell
          c.each.invariant.in_order c.in_ok-hand_in.ensures.answers;
    }

use Rattle.std.proofs.Common.{◌≡◌, ◌≢◌, List, Bool, length, ap, sym, subst, ◌∙◌}
use Rattle.prop_core.specs.Formula.{value_of, MeetsAll}
use Rattle.prop_plain.proofs.Steps.{both_step, both_fewer, second_step, second_fewer, offered_step, pushed_step, pushed_fewer, room_left, met_step, refuted_at_end}
use Rattle.prop_plain.proofs.Turns.{fewer_taken}
use Rattle.std.proofs.lemmas.List.{nil_from_length}
use Rattle.prop_core.proofs.Soundness.{refutation_sound}
use Rattle.prop_plain.proofs.search.go_on.Goals as goal

pub loop-refuted-smaller-then-second : goal.loop-refuted-smaller-then-second
loop-refuted-smaller-then-second c =
    both_fewer _ _ _ _ _ c.loop-refuted.invariant _ _ _ _ _ c.if-refuted.true c.in-Some.ensures.items c.if-second.true c.as_slice.ensures.value c.in_ok-refuted-in-Some.ensures

pub loop-refuted-preserved-then-second : goal.loop-refuted-preserved-then-second
loop-refuted-preserved-then-second c =
    (both_step _ _ _ _ _ c.loop-refuted.invariant _ _ _ _ _ c.if-refuted.true c.in-Some.ensures.items c.if-second.true c.as_slice.ensures.value c.in_ok-refuted-in-Some.ensures).1

pub loop-refuted-smaller-else-second : goal.loop-refuted-smaller-else-second
loop-refuted-smaller-else-second c =
    second_fewer _ _ _ _ _ c.loop-refuted.invariant _ _ _ c.if-refuted.true c.in-Some.ensures.items c.if-second.false c.in_ok-push-in-Some.ensures.items

pub loop-refuted-preserved-else-second : goal.loop-refuted-preserved-else-second
loop-refuted-preserved-else-second c =
    second_step _ _ _ _ _ c.loop-refuted.invariant _ _ _ c.if-refuted.true c.in-Some.ensures.items c.if-second.false c.in_ok-push-in-Some.ensures.items

pub loop-refuted-preserved-then-branch : goal.loop-refuted-preserved-then-branch
loop-refuted-preserved-then-branch c =
    offered_step _ _ _ _ _ c.loop-refuted.invariant _ _ _ c.if-refuted.false c.as_slice-else-refuted.ensures.value c.in_ok-offer.ensures c.if-branch.true

pub loop-refuted-smaller-then-branch : goal.loop-refuted-smaller-then-branch
loop-refuted-smaller-then-branch c = fewer_taken _ _ _ c.if-refuted.false

pub returns-in-None-clause-answer : goal.returns-in-None-clause-answer
returns-in-None-clause-answer c =
    refuted_at_end _ _ _ _ _ _ c.loop-refuted.invariant c.if-refuted.true
    (nil_from_length _ (sym c.loop-refuted.path.ok.0 ∙ c.in-None.ensures.cases.0))
    c.into_added.ensures.value c.into_added.ensures.within c.into_added.ensures.derived

pub returns-in-None-clause-exact : goal.returns-in-None-clause-exact
returns-in-None-clause-exact c = (
  λ _. refutation_sound _ _ _ (
      refuted_at_end _ _ _ _ _ _ c.loop-refuted.invariant c.if-refuted.true
      (nil_from_length _ (sym c.loop-refuted.path.ok.0 ∙ c.in-None.ensures.cases.0))
      c.into_added.ensures.value c.into_added.ensures.within c.into_added.ensures.derived),
  λ _. tt,
)

pub returns-then-len-cnf-clause-answer : goal.returns-then-len-cnf-clause-answer
returns-then-len-cnf-clause-answer c =
    let full : length c.loop-refuted.path.items ≡ c.args.cnf.now.vars = sym c.loop-refuted.path.ok.0 ∙ sym c.len.ensures ∙ c.if-len-cnf.true in
    let P : List Bool → Type 0 = λ values. MeetsAll (value_of values) c.args.cnf.now.clauses in (
      ap length c.from_vec.ensures ∙ full,
      subst P (sym c.from_vec.ensures) (met_step _ _ _ _ _ c.loop-refuted.invariant _ _ _ c.if-refuted.false c.as_slice-else-refuted.ensures.value c.in_ok-offer.ensures c.if-branch.false c.requires.within full),
    )

pub returns-then-len-cnf-clause-exact : goal.returns-then-len-cnf-clause-exact
returns-then-len-cnf-clause-exact c =
    let full : length c.loop-refuted.path.items ≡ c.args.cnf.now.vars = sym c.loop-refuted.path.ok.0 ∙ sym c.len.ensures ∙ c.if-len-cnf.true in (
      λ f. absurd f,
      λ none. none (value_of c.loop-refuted.path.items) (met_step _ _ _ _ _ c.loop-refuted.invariant _ _ _ c.if-refuted.false c.as_slice-else-refuted.ensures.value c.in_ok-offer.ensures c.if-branch.false c.requires.within full),
    )

pub loop-refuted-smaller : goal.loop-refuted-smaller
loop-refuted-smaller c =
    let ne : length c.loop-refuted.path.items ≢ c.args.cnf.now.vars = λ e. c.if-len-cnf.false (c.len.ensures ∙ c.loop-refuted.path.ok.0 ∙ e) in
    pushed_fewer _ _ _ _ _ c.loop-refuted.invariant _ c.if-refuted.false (room_left _ _ _ _ _ c.loop-refuted.invariant ne) c.in_ok-push.ensures.items

pub loop-refuted-preserved : goal.loop-refuted-preserved
loop-refuted-preserved c =
    let ne : length c.loop-refuted.path.items ≢ c.args.cnf.now.vars = λ e. c.if-len-cnf.false (c.len.ensures ∙ c.loop-refuted.path.ok.0 ∙ e) in
    pushed_step _ _ _ _ _ c.loop-refuted.invariant _ _ _ _ c.if-refuted.false c.as_slice-else-refuted.ensures.value c.in_ok-offer.ensures c.if-branch.false (room_left _ _ _ _ _ c.loop-refuted.invariant ne) c.in_ok-push.ensures.items

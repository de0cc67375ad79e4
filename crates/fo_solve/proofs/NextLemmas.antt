-- The next answer that a finder hands out.
use Rattle.std.proofs.Common.{◌≡◌, ◌∙◌, sym, subst, ap}
use Rattle.fo_core.specs.declared.finder.Found.{Found}
use Rattle.fo_core.specs.declared.query.Query.{Query}
use Rattle.fo_core.specs.declared.system.System.{System}
use Rattle.fo_core.specs.Finds.{IsAnswer}
use Rattle.fo_solve.specs.declared.recorded.Answered.{Answered}
use Rattle.fo_solve.specs.Answering.{Record, AreAnswers, IsNext}

module _ (r : Record) (sys : System) (q : Query) where
  -- it answers the query
  pub next_answers : (answer : Found) → AreAnswers r.sys.sig r.limit r.kept → IsNext r sys q answer → IsAnswer sys.sig q r.limit answer
  next_answers answer all n =
      let k : Answered = record { query = q; answer = answer } in
      let here = subst (λ (k : Answered). IsAnswer r.sys.sig k.query r.limit k.answer) (n.next k) (all r.given k n.left) in
      subst (λ (s : System). IsAnswer s.sig q r.limit answer) (sym n.system) here

  -- there is one
  pub next_same : (a b : Found) → IsNext r sys q a → IsNext r sys q b → a ≡ b
  next_same a b m n =
      let k : Answered = record { query = q; answer = a } in
      ap (λ (k : Answered). k.answer) (sym (m.next k) ∙ n.next k)

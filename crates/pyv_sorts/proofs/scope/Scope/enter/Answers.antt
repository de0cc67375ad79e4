use Rattle.std.proofs.Common.{◌≡◌, ◌<◌, ℕ, ◌∙◌, ap, sym, arith, length, subst, ◌∷◌, [], ◌++◌, List, None, Some, Bor, cond}
use Rattle.pyv_meaning.specs.Scope.{lookup}
use Rattle.pyv_sorts.specs.Entering.{entry_names, Finds, Hides}
use Rattle.pyv_sorts.specs.declared.entry.Entry.{Entry}
use Rattle.pyv_sorts.proofs.Hiding.{finds_more, hides_more, snoc_length, names_count}
use Rattle.pyv_meaning.proofs.Resolved.{at_level}
use Rattle.indexmap.specs.IndexMap.{get}
use Rattle.std.specs.Str.{bytes_eq}
use Rattle.pyv_sorts.proofs.scope.Scope.enter.Goals as goal

pub invariant_of-self-in-Ok : goal.invariant_of-self-in-Ok
invariant_of-self-in-Ok c =
    let es = c.self.inside.entries.items in
    let e : Entry = record { name = c.args.name; hidden = c.lookup-hidden.result } in
    let p : c.push.new.self.items ≡ es ++ e ∷ [] = c.in_ok-push.ensures.items in
    let h : e.hidden ≡ lookup None 0 (entry_names es) c.args.name.word.now = c.lookup-hidden.ensures ∙ ap (λ ns. lookup None 0 ns c.args.name.word.now) (sym c.self.view_is) in
    let count : c.len-level.result ≡ length es = c.len-level.ensures.is ∙ sym (names_count es c.args.self.now c.self.view_is) in (
      omega (arith, ap length p, snoc_length es e, count, c.if-level.false),
      subst (λ xs. Finds c.insert.new.self xs) (sym p) (finds_more c.self.inside.found c.insert.new.self es e c.self.invariant.1 (subst (λ (k : ℕ). (q : Bor (List ℕ)) → get (λ (x y : Bor (List ℕ)). bytes_eq x.now y.now) c.insert.new.self q ≡ cond (bytes_eq e.name.word.now q.now) (Some (at_level e.name.place k)) (get (λ (x y : Bor (List ℕ)). bytes_eq x.now y.now) c.self.inside.found q)) count c.in-Ok.ensures.updates.0)),
      subst Hides (sym p) (hides_more es e c.self.invariant.2 h),
    )

use Rattle.std.proofs.Common.{List, ℕ, length, refl, ap, sym, subst, ◌∙◌}
use Rattle.fo_core.specs.declared.query.Query.{Query}
use Rattle.fo_core.specs.Finds.{CanSearch, IsLight}
use Rattle.fo_core.specs.Trials.{trial}
use Rattle.fo_min.specs.Search.{sig_of, query_of}
use Rattle.fo_min.proofs.KnownLemmas.{can-ask-zeros, all-light}
use Rattle.fo_min.proofs.SearchLemmas.{answer-met, answer-none}
use Rattle.fo_min.proofs.search.Entries.are_light.Goals as goal

pub ask-requires : goal.ask-requires
ask-requires g c =
    let e = c.args.self.now in
    let s = e.search in
    let of_values : List ℕ → Query = λ vs. trial (sig_of s) (query_of s) e.sizes.now vs in
    let is = c.in_ok-p.ensures ∙ ap of_values (c.as_slice.ensures ∙ c.in_ok-zeros.ensures.zeros) in
    let limit = g.F.Finder.limit c.args.f.now in
    let trial_can = can-ask-zeros e c.requires.entries limit (length e.cells.now) c.requires.settled refl in
    record { search = subst (CanSearch s.sys.now s.order.now) (sym is) trial_can }

pub returns-in-Met-clause-light : goal.returns-in-Met-clause-light
returns-in-Met-clause-light g c =
    let e = c.args.self.now in
    let s = e.search in
    let of_values : List ℕ → Query = λ vs. trial (sig_of s) (query_of s) e.sizes.now vs in
    let is = c.in_ok-p.ensures ∙ ap of_values (c.as_slice.ensures ∙ c.in_ok-zeros.ensures.zeros) in
    let limit = g.F.Finder.limit c.args.f.now in
    let met = answer-met (sig_of s) limit limit refl c.in_ok-p.p c.in_ok-ask.field-0 c.in_ok-ask.ensures.answer c.in-Met.field-0 c.in-Met.is in
    λ _. all-light e c.requires.entries limit (length e.cells.now) refl (subst (IsLight (sig_of s) limit) is met.1)

pub returns-in-Nothing-clause-light : goal.returns-in-Nothing-clause-light
returns-in-Nothing-clause-light g c =
    let e = c.args.self.now in
    let s = e.search in
    let of_values : List ℕ → Query = λ vs. trial (sig_of s) (query_of s) e.sizes.now vs in
    let is = c.in_ok-p.ensures ∙ ap of_values (c.as_slice.ensures ∙ c.in_ok-zeros.ensures.zeros) in
    let limit = g.F.Finder.limit c.args.f.now in
    let missing = answer-none (sig_of s) limit limit refl c.in_ok-p.p c.in_ok-ask.field-0 c.in_ok-ask.ensures.answer c.in-Nothing.is in
    λ _. all-light e c.requires.entries limit (length e.cells.now) refl (subst (IsLight (sig_of s) limit) is missing.1)

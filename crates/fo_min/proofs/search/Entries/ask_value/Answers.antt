use Rattle.std.proofs.Common.{List, ℕ, ap, sym, subst, ◌∙◌}
use Rattle.fo_core.specs.declared.query.Query.{Query}
use Rattle.fo_core.specs.Finds.{CanSearch}
use Rattle.fo_core.specs.Trials.{trial}
use Rattle.fo_min.specs.Search.{sig_of, query_of}
use Rattle.fo_min.proofs.SearchLemmas.{can-ask-value}
use Rattle.fo_min.proofs.search.Entries.ask_value.Goals as goal

pub ask-requires : goal.ask-requires
ask-requires g c =
    let e = c.args.self.now in
    let s = e.search in
    let of_values : List ℕ → Query = λ vs. trial (sig_of s) (query_of s) e.sizes.now vs in
    let is = c.in_ok-p.ensures ∙ ap of_values (c.as_slice.ensures ∙ c.in_ok-tried.ensures) in
    let limit = g.F.Finder.limit c.args.f.now in
    let trial_can =
    can-ask-value e limit c.requires.entries c.args.values.now c.requires.more c.requires.settled c.args.v c.requires.in_range in
    record { search = subst (CanSearch s.sys.now s.order.now) (sym is) trial_can }

use Rattle.std.proofs.Common.{ℕ, List, [], ap, sym, subst, ◌∙◌}
use Rattle.fo_core.specs.Finds.{CanSearch}
use Rattle.fo_core.specs.Trials.{trial}
use Rattle.fo_min.specs.Search.{sig_of, query_of}
use Rattle.fo_min.proofs.SearchLemmas.{can-ask-size}
use Rattle.fo_min.proofs.search.Search.ask_size.Goals as goal

pub ask-requires : goal.ask-requires
ask-requires g c =
    let s = c.args.self.now in
    let numbers = c.as_slice.ensures ∙ c.in_ok-tried.ensures in
    let is = c.in_ok-p.ensures (sig_of s) ∙ ap (λ (ns : List ℕ). trial (sig_of s) (query_of s) ns []) numbers in
    let trial_can = can-ask-size s c.requires.search c.args.sizes.now c.requires.more c.args.n in
    record { search = subst (CanSearch s.sys.now s.order.now) (sym is) trial_can }

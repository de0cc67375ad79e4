use Rattle.std.proofs.Common.{◌≡◌, ◌≤◌, ◌+◌, ◌∷◌, [], ◌++◌, length, sym, ap, subst, ◌∙◌, arith}
use Rattle.std.specs.List.{count_by}
use Rattle.up_core.specs.Places.{ObligationsView, is_seed, open_of}
use Rattle.up_core.proofs.OpenKept.{open-few, open-push, seeds-push}
use Rattle.up_core.proofs.obligations.Obligations.push.Goals as goal

pub push_reserved-requires : goal.push_reserved-requires
push_reserved-requires c =
    let x = c.self.inside in
    let few = open-few x.entries.items in
    let long = x.open.ok.0 ∙ ap length c.self.invariant.open_is in
    let some = subst (λ (v : ObligationsView). 1 ≤ v.room) (sym c.self.view_is) c.requires.room in
    omega (arith, few, long, some, x.entries.ok.0, c.self.invariant.room_open)

pub invariant_of-self : goal.invariant_of-self
invariant_of-self c =
    let x = c.self.inside in
    let e = c.args.entry in
    let kept = c.self.invariant in
    let a = c.push_reserved.ensures in
    let b = c.push_reserved-2.ensures in
    let some = subst (λ (v : ObligationsView). 1 ≤ v.room) (sym c.self.view_is) c.requires.room in
    let number : c.len.result ≡ length x.entries.items = c.len.ensures ∙ x.entries.ok.0 in
    let seeds = ap (count_by is_seed) b.items ∙ seeds-push x.entries.items e in
    record {
      open_is = a.items ∙ ap (λ ks. ks ++ c.len.result ∷ []) kept.open_is ∙ ap (λ n. open_of x.entries.items ++ n ∷ []) number
          ∙ sym (ap open_of b.items ∙ open-push x.entries.items e c.requires.open);
      seeds_are = omega (arith, kept.seeds_are, c.count_seed.ensures, seeds);
      room_entries = omega (arith, some, kept.room_entries, b.len, b.capacity);
      room_open = omega (arith, some, kept.room_open, b.len, a.capacity);
    }

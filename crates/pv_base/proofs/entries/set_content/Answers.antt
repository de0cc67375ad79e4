use Rattle.std.proofs.Common.{rules, ◌≡◌, Some, None}
use Rattle.std.specs.List.{position}
use Rattle.std.specs.Str.{bytes_eq}
use Rattle.pv_base.specs.Entries.{NamedContent}
use Rattle.pv_base.proofs.SettingContents.{SetsContent-set, SetsContent-push}
use Rattle.pv_base.proofs.entries.set_content.Goals as goal

pub returns-in-Some-clause-ok : goal.returns-in-Some-clause-ok
returns-in-Some-clause-ok c =
    let at : position (λ (e : NamedContent). bytes_eq e.name c.args.name.now) c.args.entries.now.items ≡ Some c.in-Some.place = search rules in
    rw c.in_ok-entry.ensures (SetsContent-set _ _ _ _ at)

pub returns-in_ok-push-in-None-clause-ok : goal.returns-in_ok-push-in-None-clause-ok
returns-in_ok-push-in-None-clause-ok c =
    let none : position (λ (e : NamedContent). bytes_eq e.name c.args.name.now) c.args.entries.now.items ≡ None = search rules in
    rw (c.in_ok-push-in-None.ensures.items, c.in_ok-entry.ensures) (SetsContent-push _ _ _ none)

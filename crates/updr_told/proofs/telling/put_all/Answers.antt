-- `out` failed, and whatever `err` answers, a prefix of its line went to it.
use Rattle.std.proofs.Common.{rules, inl, inr}
use Rattle.updr_told.proofs.Prefixes.{prefix_anyway}
use Rattle.updr_told.proofs.telling.put_all.Goals as goal

pub returns-then-is_err : goal.returns-then-is_err
returns-then-is_err g c =
    inr (
      c.number.ensures,
      inl (
        record { appended = search rules; rose = search rules },
        prefix_anyway c.put.result _ _ _ c.put.ensures.whole c.put.ensures.prefix,
      ),
    )

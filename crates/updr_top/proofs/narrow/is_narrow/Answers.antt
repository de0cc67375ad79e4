use Rattle.updr_top.proofs.narrow.is_narrow.Goals as goal

pub returns-in-NoUniversal : goal.returns-in-NoUniversal
returns-in-NoUniversal c = λ _. rw (c.in-NoUniversal.is, ← c.as_slice-in-NoUniversal.ensures) c.go_through_links.ensures

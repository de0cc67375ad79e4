use Rattle.fo_min.proofs.search.Entries.is_known.Goals as goal

pub has_entries-requires-clause-is : goal.has_entries-requires-clause-is
has_entries-requires-clause-is c = record { meets = c.requires.meets; naming = c.is_naming.ensures c.if-not-is_naming.false }

pub returns : goal.returns
returns c =
    λ t. record { is = record { meets = c.requires.meets; naming = c.is_naming.ensures c.if-not-is_naming.false }; entries = c.in_ok-has.ensures t }

use Rattle.turnstile.proofs.steps.cut_at.Given as goal

abbrev pub ghosts-cut : goal.ghosts-cut
ghosts-cut g a = record { at = a.at }

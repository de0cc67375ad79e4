-- The sorts of a clause's variables, told by their names.
use Rattle.std.proofs.Common.{◌≡◌, ℕ, List, [], get_or, Ok, Err, refl, flat_map}
use Rattle.std.specs.List.{range_with_len}
use Rattle.fo_core.specs.declared.signature.Sig.{Sig}
use Rattle.fo_core.specs.declared.names.Names.{Names}
use Rattle.fo_text.specs.Reading.{choose, choice_at}
use Rattle.up_report.specs.ClauseReading.{texts, sort_ending, ended_sort, sort_options, sort_at}
use Rattle.up_report.proofs.ClauseOptions.{block_found, block_fails}

module _ (sig : Sig) (names : Names) (k : ℕ) (bytes : List ℕ) where
  abbrev with_end : ℕ → ℕ → ℕ × ℕ
  with_end s e = (s, e)

  pub sort_is : sort_at sig names k bytes ≡ choose (ended_sort names k) (flat_map (sort_options k) (range_with_len 0 sig.sorts)) bytes
  unfolding sort_at
  sort_is = refl

  pub sort_found : (s e : ℕ) (rest : List ℕ) → choice_at [] (get_or names.sorts s []) (texts (sort_ending k)) bytes ≡ Ok (e, rest) → choose (ended_sort names k) (sort_options k s) bytes ≡ Ok ((s, e), rest)
  sort_found s e rest h = block_found (ended_sort names k) [] (get_or names.sorts s []) (sort_ending k) (with_end s) bytes e rest (λ f l. refl) h

  pub sort_fails : (s left : ℕ) → choice_at [] (get_or names.sorts s []) (texts (sort_ending k)) bytes ≡ Err left → choose (ended_sort names k) (sort_options k s) bytes ≡ Err left
  sort_fails s left h = block_fails (ended_sort names k) [] (get_or names.sorts s []) (sort_ending k) (with_end s) bytes left (λ f l. refl) h

-- Lines and columns of a text.
use Rattle.std.specs.Prelude.{ℕ, ◌+◌, ◌==◌, if◌then◌else◌, List, [], ◌∷◌, ◌++◌, take, codes}
use Rattle.std.specs.Fmt.{decimal}
use Rattle.updr_told.specs.Ends.{End, refusal}
use Rattle.updr_told.specs.declared.status.Status.{Status}

-- how many line feeds there are
abbrev pub feeds : List ℕ → ℕ
feeds [] = 0
feeds (b ∷ bs) = if b == 10 then feeds bs + 1 else feeds bs

-- how many bytes stand behind the last line feed, or behind so many others where there is none
abbrev pub behind_feed : ℕ → List ℕ → ℕ
behind_feed n [] = n
behind_feed n (b ∷ bs) = if b == 10 then behind_feed 0 bs else behind_feed (n + 1) bs

-- one more than the line feeds before the byte at this place
abbrev pub line_at : List ℕ → ℕ → ℕ
line_at bytes place = feeds (take place bytes) + 1

-- one more than the bytes between the last of them and that byte
abbrev pub column_at : List ℕ → ℕ → ℕ
column_at bytes place = behind_feed 0 (take place bytes) + 1

-- a line and a column as they are told
abbrev pub place_words : ℕ → ℕ → List ℕ
place_words line column = decimal line ++ (codes ":" ++ decimal column)

-- a refusal that names the place of a byte of a text
abbrev pub refusal_at : {L : Type 0} → Status → List ℕ → ℕ → List ℕ → End L
refusal_at status bytes place words =
    let at = place_words (line_at bytes place) (column_at bytes place) in
    refusal status (at ++ codes ": " ++ words)

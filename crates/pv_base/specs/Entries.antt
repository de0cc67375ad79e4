-- Names with their contents, as files in memory hold them.
use Rattle.std.specs.Prelude.{◌≡◌, ◌≢◌, ℕ, List, [], Option, Some, bytes_eq, find, option_map, unwrap_or}

-- a name and its content
pub record NamedContent : Type 0 where
  pub name : List ℕ
  pub bytes : List ℕ

-- the content under a name
abbrev pub content_of : List NamedContent → List ℕ → Option (List ℕ)
content_of entries name = option_map (λ e. e.bytes) (find (λ e. bytes_eq e.name name) entries)

-- the content under a name, where one that is not held is empty
abbrev pub content_or_empty : List NamedContent → List ℕ → List ℕ
content_or_empty entries name = unwrap_or (content_of entries name) []

-- the new entries have this content under this name, and under each other name what the old ones have
pub record SetsContent (name bytes : List ℕ) (old new : List NamedContent) : Type 0 where
  pub named : content_of new name ≡ Some bytes
  pub others : (n : List ℕ) → n ≢ name → content_of new n ≡ content_of old n

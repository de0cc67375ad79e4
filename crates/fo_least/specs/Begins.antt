-- Lists that begin others.
use Rattle.std.specs.Prelude.{◌≡◌, ◌⊎◌, List, ◌++◌}

-- the second list has the first one at its front
abbrev pub Begins : {X : Type 0} → List X → List X → Type 0
Begins {X} xs ys = (zs : List X) × (xs ++ zs ≡ ys)

-- one of the two begins the other
abbrev pub OneBegins : {X : Type 0} → List X → List X → Type 0
OneBegins xs ys = Begins xs ys ⊎ Begins ys xs

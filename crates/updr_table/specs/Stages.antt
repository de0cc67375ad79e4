-- Stages: what an x means, and rows over that.
use Rattle.std.specs.Prelude.{◌≡◌, List, [], ◌∷◌, ◌++◌, ⊤}
use Rattle.updr_table.specs.Rows.{AtMostOne, Row}

-- the rows over what x means, as rows over x
abbrev pub staged : {X A L : Type 0} → (X → A → Type 0) → List (Row A L) → List (Row X L)
staged Means [] = []
staged {A = A} Means (r ∷ rs) = record {
  status = r.status;
  comes = λ x. (a : A) × Means x a × r.comes a;
  says = λ x bytes left. (a : A) × Means x a × r.says a bytes left;
} ∷ staged Means rs

-- refusals of an x that means nothing, and then the rows over what is meant
abbrev pub refused_else : {X A L : Type 0} → List (Row X L) → (X → A → Type 0) → List (Row A L)
    → List (Row X L)
refused_else refusals Means rows = refusals ++ staged Means rows

-- each of these comes only where x means nothing
abbrev pub ComeOnlyIfNone : {X A L : Type 0} → List (Row X L) → (X → A → Type 0) → X → Type 0
ComeOnlyIfNone [] Means x = ⊤
ComeOnlyIfNone {A = A} (r ∷ rs) Means x =
    (r.comes x → (a : A) → ¬ Means x a) × ComeOnlyIfNone rs Means x

-- What makes refusals and a meaning a stage: an x means one thing at most, and it is refused by at
-- most one row, and only where it means nothing.
pub record IsStage {X A L : Type 0} (refusals : List (Row X L)) (Means : X → A → Type 0) : Type 0
  where
    pub one : (x : X) (a b : A) → Means x a → Means x b → a ≡ b
    pub exclusive : (x : X) → AtMostOne refusals x
    pub apart : (x : X) → ComeOnlyIfNone refusals Means x

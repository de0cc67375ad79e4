-- What an end leaves, by the rows of a table.
use Rattle.std.proofs.Common.{◌≡◌, ◌⊎◌, ◌∙◌, ◌≤◌, ◌<◌, ℕ, Bool, true, false, List, [], ◌∷◌, ◌++◌, Option, None, ap, sym, subst, inl, inr, refl, arith}
use Rattle.std.specs.Prelude.{if◌then◌else◌}
use Rattle.std.proofs.lemmas.Bool.{cases_lt}
use Rattle.updr_told.specs.Ends.{End, printing, refusal}
use Rattle.updr_told.specs.Statuses.{is_answer, number_of}
use Rattle.updr_told.specs.declared.status.Status.{Status}
use Rattle.updr_table.specs.Commands.{Command, MayEndBy}
use Rattle.updr_table.specs.Outside.{AreContents, Outside, RefusesFile}
use Rattle.updr_table.specs.Rows.{Contents, Ends, Row, end_of}
use Rattle.updr_table.specs.Stages.{refused_else, staged}
use Rattle.updr_table.proofs.EndLaws.{end_nothing, end_status}
use Rattle.updr_words.specs.Jobs.{IsJob, Job}

-- a refusal, which leaves nothing
pub record IsBare {L : Type 0} (e : End L) : Type 0 where
  pub high : 10 ≤ number_of e.status
  pub nothing : e.left ≡ None

-- the end is one that the row says
pub record Says {X L : Type 0} (r : Row X L) (x : X) (e : End L) : Type 0 where
  pub bytes : List ℕ
  pub left : Option L
  pub says : r.says x bytes left
  pub is : e ≡ end_of r.status bytes left

-- the end is one that some row says
abbrev pub Said : {X L : Type 0} → List (Row X L) → X → End L → Type 0
Said [] x e = ⊥
Said (r ∷ rs) x e = Says r x e ⊎ Said rs x e

-- these rows refuse
abbrev pub AllRefuse : {X L : Type 0} → List (Row X L) → Type 0
AllRefuse [] = Unit {0}
AllRefuse (r ∷ rs) = (10 ≤ number_of r.status) × AllRefuse rs

-- these rows refuse, or leave nothing
abbrev pub NoneLeaves : {X L : Type 0} → List (Row X L) → Type 0
NoneLeaves [] = Unit {0}
NoneLeaves {X = X} {L = L} (r ∷ rs) =
    ((x : X) (bytes : List ℕ) (left : Option L) → r.says x bytes left → left ≡ None) × NoneLeaves rs

bare_left : {L : Type 0} (s : Status) (bytes : List ℕ) → (end_of {L = L} s bytes None).left ≡ None
bare_left {L = L} s bytes = of (is_answer s)
  where
    of : (b : Bool) → (if b then printing {L = L} s bytes None else refusal s bytes).left ≡ None
    of true = refl
    of false = refl

module _ {X L : Type 0} where
  pub said : (rows : List (Row X L)) (x : X) (e : End L) → Ends rows x e → Said rows x e
  said [] x e h = h
  said (r ∷ rs) x e (inl h) = inl (record { bytes = h.bytes; left = h.left; says = h.says; is = h.is })
  said (r ∷ rs) x e (inr h) = inr (said rs x e h)

  bare_row : (r : Row X L) (x : X) (e : End L) → 10 ≤ number_of r.status → Says r x e → IsBare e
  bare_row r x e high h = record {
    high = subst (λ (n : ℕ). 10 ≤ n) (sym (ap (λ (y : End L). number_of y.status) h.is ∙ ap number_of (end_status r.status h.bytes h.left))) high;
    nothing = ap (λ (y : End L). y.left) h.is ∙ (end_nothing r.status h.bytes h.left high).1;
  }

  bare_rows : (rows : List (Row X L)) (x : X) (e : End L) → AllRefuse rows → Said rows x e → IsBare e
  bare_rows [] x e refuse h = absurd h
  bare_rows (r ∷ rs) x e refuse (inl h) = bare_row r x e refuse.0 h
  bare_rows (r ∷ rs) x e refuse (inr h) = bare_rows rs x e refuse.1 h

  parts : (rs ss : List (Row X L)) (x : X) (e : End L) → Said (rs ++ ss) x e → Said rs x e ⊎ Said ss x e
  parts [] ss x e h = inr h
  parts (r ∷ rs) ss x e (inl h) = inl (inl h)
  parts (r ∷ rs) ss x e (inr h) = of (parts rs ss x e h)
    where
      of : Said rs x e ⊎ Said ss x e → (Says r x e ⊎ Said rs x e) ⊎ Said ss x e
      of (inl k) = inl (inr k)
      of (inr k) = inr k

  left_of_end : (r : Row X L) (x : X) (e : End L) (h : Says r x e) → h.left ≡ None → e.left ≡ None
  left_of_end r x e h none = ap (λ (y : End L). y.left) h.is ∙ of (cases_lt (number_of r.status) 10)
    where
      of : (number_of r.status < 10) ⊎ (10 ≤ number_of r.status) → (end_of r.status h.bytes h.left).left ≡ None
      of (inl low) = ap (λ (o : Option L). (end_of r.status h.bytes o).left) none ∙ bare_left r.status h.bytes
      of (inr high) = (end_nothing r.status h.bytes h.left high).1

  pub none_left : (rows : List (Row X L)) (x : X) (e : End L) → NoneLeaves rows → Said rows x e → e.left ≡ None
  none_left [] x e none h = absurd h
  none_left (r ∷ rs) x e none (inl h) = left_of_end r x e h (none.0 x h.bytes h.left h.says)
  none_left (r ∷ rs) x e none (inr h) = none_left rs x e none.1 h

-- what staged rows say is what the rows say over something that is meant
pub unstaged : {X A L : Type 0} (Means : X → A → Type 0) (rows : List (Row A L)) (x : X) (e : End L) → Said (staged Means rows) x e → (a : A) × Means x a × Said rows a e
unstaged Means [] x e h = absurd h
unstaged Means (r ∷ rs) x e (inl h) =
    let said = h.says in
    (said.0, said.1, inl (record { bytes = h.bytes; left = h.left; says = said.2; is = h.is }))
unstaged Means (r ∷ rs) x e (inr h) = let more = unstaged Means rs x e h in (more.0, more.1, inr more.2)

-- a stage refuses, or what is meant decides
pub of_stage : {X A L : Type 0} (refusals : List (Row X L)) (Means : X → A → Type 0) (rows : List (Row A L)) (x : X) (e : End L) → AllRefuse refusals → Said (refused_else refusals Means rows) x e
    → IsBare e ⊎ ((a : A) × Means x a × Said rows a e)
of_stage {A = A} refusals Means rows x e refuse h = of (parts refusals (staged Means rows) x e h)
  where
    of : Said refusals x e ⊎ Said (staged Means rows) x e → IsBare e ⊎ ((a : A) × Means x a × Said rows a e)
    of (inl k) = inl (bare_rows refusals x e refuse k)
    of (inr k) = inr (unstaged Means rows x e k)

-- ---- a command

pub file_bare : {L : Type 0} (o : Outside) (name : List ℕ) (e : End L) → RefusesFile o name e → IsBare e
file_bare o name e (inl (_, is)) = subst IsBare (sym is) (record { high = omega arith; nothing = refl })
file_bare o name e (inr (_, is)) = subst IsBare (sym is) (record { high = omega arith; nothing = refl })

-- A command that ends is refused, or its table decides by contents that were read.
pub data Came {L : Type 0} (c : Command L) (o : Outside) (words : List (List ℕ)) (e : End L) : Type 0 where
  bare : IsBare e → Came c o words e
  decided : (job : Job) → IsJob c.form words job → (contents : Contents) → AreContents o job.files contents → Said (c.rows job) contents e → Came c o words e

pub came : {L : Type 0} (c : Command L) (o : Outside) (words : List (List ℕ)) (e : End L) → MayEndBy c o words e → Came c o words e
came c o words e (inl (_, is)) = bare (subst IsBare (sym is) (record { high = omega arith; nothing = refl }))
came c o words e (inr (job, asked, inl refused)) = bare (file_bare o refused.name e refused.told)
came c o words e (inr (job, asked, inr (contents, are, h))) = decided job asked contents are (said (c.rows job) contents e h)

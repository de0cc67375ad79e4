-- What a call meets of its files, and the files that it reads in order.
use Rattle.std.specs.Prelude.{◌≡◌, ◌⊎◌, ℕ, ◌<◌, ◌≤◌, List, [], ◌∷◌, Option, Some, length, IfSome}
use Rattle.std.specs.List.{AllZip}
use Rattle.pv_base.specs.Counts.{Rose}
use Rattle.pv_base.specs.Reading.{IsContent, limit}
use Rattle.pv_base.specs.Refusals.{Refusal}
use Rattle.pv_base.specs.declared.files.ReadFault.TheVariants.{Failed, TooLong}
use Rattle.updr_told.specs.Ends.{End, cannot_read, is_longer}

-- the contents that the files tell, their count of faults at the entry and at the exit, and what
-- they keep as refused at the exit
pub record Outside : Type 0 where
  pub contents : List ℕ → Option (List ℕ)
  pub before : ℕ
  pub after : ℕ
  pub refused : Option Refusal

-- what a call met of files, by what their type tells
abbrev pub outside : {S : Type 0} → (S → List ℕ → Option (List ℕ)) → (S → ℕ) → (S → Option Refusal)
    → S → S → Outside
outside contents faults refused old new = record {
  contents = contents old;
  before = faults old;
  after = faults new;
  refused = refused new;
}

-- ---- one file

-- a read of this name failed: the count rose, the name is the refused one, and the content, where
-- it is told, is not too long
pub record IsUnread (o : Outside) (name : List ℕ) : Type 0 where
  pub rose : Rose o.before o.after
  pub named : o.refused ≡ Some (record { name = name; fault = Failed })
  pub short : IfSome (o.contents name) (λ content. length content ≤ limit)

-- the content of this name is longer than a file may be, and the name is the refused one
pub record IsTooLong (o : Outside) (name : List ℕ) : Type 0 where
  pub named : o.refused ≡ Some (record { name = name; fault = TooLong })
  pub long : IfSome (o.contents name) (λ content. limit < length content)

-- an end that refuses this file, by the cause that its line tells
abbrev pub RefusesFile : {L : Type 0} → Outside → List ℕ → End L → Type 0
RefusesFile o name end =
    (IsUnread o name × (end ≡ cannot_read name)) ⊎ (IsTooLong o name × (end ≡ is_longer name))

-- ---- files in order

-- this is one of the names, and the files before it have contents
abbrev pub IsReached : (List ℕ → Option (List ℕ)) → List (List ℕ) → List ℕ → Type 0
IsReached told [] this = ⊥
IsReached told (name ∷ names) this =
    (this ≡ name) ⊎ (((bytes : List ℕ) × IsContent (told name) bytes) × IsReached told names this)

-- a file of these names is reached, and the end refuses it
pub record RefusesFirst {L : Type 0} (o : Outside) (names : List (List ℕ)) (end : End L) : Type 0
  where
    pub name : List ℕ
    pub reached : IsReached o.contents names name
    pub told : RefusesFile o name end

-- the files of these names have these contents
abbrev pub AreContents : Outside → List (List ℕ) → List (List ℕ) → Type 0
AreContents o = AllZip (λ name bytes. IsContent (o.contents name) bytes)

-- The stage that reads the files of these names, in order: it goes on with their contents, or the
-- first that can't be read is refused.
abbrev pub Reading : {L : Type 0} → Outside → List (List ℕ) → (List (List ℕ) → End L → Type 0)
    → End L → Type 0
Reading o names next end =
    RefusesFirst o names end
    ⊎ ((contents : List (List ℕ)) × AreContents o names contents × next contents end)

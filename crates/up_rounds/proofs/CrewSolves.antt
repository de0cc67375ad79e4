-- What a crew's cells have after they solved their shares.
use Rattle.std.proofs.Common.{◌≡◌, ℕ, ◌+◌, ◌-◌, ◌<◌, max, min, List, [], ◌∷◌, ◌++◌, length, map, take, drop, get_or, Option, None, Some, IfSome, IsSome, ◌⊎◌, inl, inr, ap, sym, subst, ◌∙◌, append_assoc, arith}
use Rattle.std.proofs.Math.Seq.{take-append-add}
use Rattle.std.proofs.lemmas.Grind.{flat_map-append}
use Rattle.std.proofs.lemmas.List.{append-nil, length-append, length-map, map-append}
use Rattle.std.proofs.lemmas.List.Concat.{flat_map-cons}
use Rattle.std.proofs.lemmas.Slice.Zip.{AllZip-long}
use Rattle.std.specs.Global.{Vec}
use Rattle.std.specs.List.{All, AllZip, flat_map}
use Rattle.fo_core.specs.declared.system.System.{System}
use Rattle.up_machine.specs.declared.brief.Brief.{Brief}
use Rattle.up_jobs.specs.declared.solved.Solved.{Solved}
use Rattle.up_jobs.specs.Solving.{IsSolved}
use Rattle.up_rounds.specs.declared.crew.Cell.{Cell}
use Rattle.up_rounds.specs.Asking.{AreSolved}
use Rattle.up_rounds.specs.Crew.{AreGathered, HasSolved, answers_in, answers_of, share_of}
use Rattle.up_rounds.proofs.Shares.{AllZip-read, shares-cover}

-- answers that are there are answers to what they were said to answer
answered : (R : Brief → Solved → Type 0) (briefs : List Brief) (o : Option (Vec Solved)) →
    IsSome o → IfSome o (λ v. AllZip R briefs v.items) → AllZip R briefs (answers_in o)
answered R briefs None some h = let no : ⊥ = cc in absurd no
answered R briefs (Some v) some h = h

solved-from : (sys : System) (n : ℕ) (briefs : List Brief) (answers : List Solved) →
    AllZip (IsSolved sys n) briefs answers → AreSolved sys n briefs answers
solved-from sys n briefs answers h =
    let R = IsSolved sys n in
    record {
      many = AllZip-long R briefs answers h;
      each = λ k brief answer at got. AllZip-read R briefs answers k brief answer h at got;
    }

module _ {F : Type 0} (limit : F → ℕ) (n : ℕ) (sys : System) (briefs : List Brief) where
  -- the cells have solved their shares, and are as many as there are jobs, but no more than workers
  pub record HaveSolved (w : ℕ) (before after : List (Cell F)) : Type 0 where
    pub some : 0 < w
    pub many : length before ≡ min (length briefs) w
    pub same : length after ≡ length before
    pub limits : All (λ cell. limit cell.finder ≡ n) before
    pub each : (k : ℕ) (d : Cell F) → k < length before →
        HasSolved limit sys (share_of briefs (length before) k) (get_or before k d) (get_or after k d)

  pub finders_keep : (w : ℕ) (before after : List (Cell F)) → HaveSolved w before after →
      All (λ cell. limit cell.finder ≡ n) after
  finders_keep w before after h k d lt =
      let le : k < length before = omega (arith, h.same) in
      (h.each k d le).kept ∙ h.limits k d le

  pub cells_solve : (w : ℕ) (before after : List (Cell F)) (answers : List Solved) →
      HaveSolved w before after → AreGathered after answers → AreSolved sys n briefs answers
  cells_solve w before after answers h gathered =
      let R = IsSolved sys n in
      let many : length after ≡ min (length briefs) w = h.same ∙ h.many in
      let each : (k : ℕ) (d : Cell F) → k < length after →
      AllZip R (share_of briefs (length after) k) (answers_of (get_or after k d)) =
      λ k d lt.
      let le : k < length before = omega (arith, h.same) in
      let solved = h.each k d le in
      let found : AllZip R (share_of briefs (length before) k) (answers_of (get_or after k d)) =
      answered R (share_of briefs (length before) k) (get_or after k d).answers
      (gathered.all k d lt)
      (subst (λ m. IfSome (get_or after k d).answers (λ v. AllZip (IsSolved sys m)
      (share_of briefs (length before) k) v.items)) (h.limits k d le)
      solved.answered) in
      subst (λ m. AllZip R (share_of briefs m k) (answers_of (get_or after k d)))
      (sym h.same) found in
      let all = shares-cover R answers_of briefs w after h.some many each in
      solved-from sys n briefs answers (subst (AllZip R briefs) (sym gathered.in_order) all)

-- what the crew has back where a cell's answers can't be handed in: the finders of the first cells
pub finders_back : {C F : Type 0} (f : C → F) (given before after : List F) (cells done rest : List C) (c : C) →
    cells ≡ done ++ c ∷ rest → before ≡ given ++ map f done →
    (after ≡ before) ⊎ (after ≡ before ++ f c ∷ []) →
    (n : ℕ) × (after ≡ given ++ map f (take n cells))
finders_back f given before after cells done rest c parts back (inl same) =
    let t : take (length done + 0) (done ++ c ∷ rest) ≡ done ++ [] =
    take-append-add done (c ∷ rest) 0 in
    let z = append-nil done in
    (length done + 0, cc)
finders_back f given before after cells done rest c parts back (inr more) =
    let t : take (length done + 1) (done ++ c ∷ rest) ≡ done ++ c ∷ [] =
    take-append-add done (c ∷ rest) 1 in
    let m : map f (done ++ c ∷ []) ≡ map f done ++ f c ∷ [] = map-append f done (c ∷ []) in
    let a = append_assoc given (map f done) (f c ∷ []) in
    (length done + 1, cc)

-- a vector's elements after all of them were lent
pub lent_back : {X : Type 0} (before after : List X) (len : ℕ) → len ≡ length after →
    take len (after ++ drop (length after) before) ≡ after
lent_back before after len e =
    let t : take (length after + 0) (after ++ drop (length after) before) ≡ after ++ [] =
    take-append-add after (drop (length after) before) 0 in
    let z = append-nil after in
    let f : len ≡ length after + 0 = omega arith in
    cc

-- one more finder is back
pub finders_more : {C F : Type 0} (f : C → F) (given before after : List F) (done : List C) (c : C) →
    before ≡ given ++ map f done → after ≡ before ++ f c ∷ [] →
    after ≡ given ++ map f (done ++ c ∷ [])
finders_more f given before after done c back more =
    let m : map f (done ++ c ∷ []) ≡ map f done ++ f c ∷ [] = map-append f done (c ∷ []) in
    let a = append_assoc given (map f done) (f c ∷ []) in
    cc

-- one more cell's answers are there
pub answers_more : {C B : Type 0} (block : C → List B) (before after : List B) (done : List C) (c : C) →
    before ≡ flat_map block done → after ≡ before ++ block c →
    after ≡ flat_map block (done ++ c ∷ [])
answers_more block before after done c so_far more =
    let m = flat_map-append block done (c ∷ []) in
    let one : flat_map block (c ∷ []) ≡ block c ++ [] = flat_map-cons block c [] in
    let z = append-nil (block c) in
    cc

-- a crew that kept all but this many finders, and has those of this many cells back
pub staffed : {C F : Type 0} (f : C → F) (old kept new : List F) (cells : List C) (n : ℕ) →
    length kept ≡ length old - n → length cells ≡ n → new ≡ kept ++ map f cells →
    length new ≡ max (length old) n
staffed f old kept new cells n left many back =
    let e : length new ≡ length kept + length (map f cells) =
    ap length back ∙ length-append kept (map f cells) in
    let m = length-map cells f in
    omega arith

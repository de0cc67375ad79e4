-- What the reading of files ends in.
use Rattle.std.proofs.Common.{◌≡◌, ◌∙◌, ◌<◌, ◌≤◌, ℕ, List, [], ◌∷◌, Option, Some, length, IfSome, ap, ap₂, sym, subst, inl, inr, refl, arith}
use Rattle.pv_base.specs.Counts.{Rose}
use Rattle.pv_base.specs.Reading.{IsContent, limit}
use Rattle.updr_told.specs.Ends.{End, is_longer}
use Rattle.std.specs.List.{AllZip}
use Rattle.updr_table.specs.Outside.{AreContents, IsReached, IsTooLong, IsUnread, Outside, Reading, RefusesFile, RefusesFirst}
use Rattle.updr_table.specs.Rows.{Contents}
use Rattle.updr_table.specs.Table.{Call, HasLong, IsReadFault, IsShort, IsTold}

module _ (o : Outside) where
  -- a content that is told is the one that was read
  pub told_same : (content : List ℕ) (told : Option (List ℕ)) → told ≡ Some content → (bytes : List ℕ) → IsContent told bytes → content ≡ bytes
  told_same content told is bytes c = let P : Option (List ℕ) → Type 0 = λ t. IfSome t (λ x. x ≡ bytes) in subst P is c.same

  told_long : (content : List ℕ) (told : Option (List ℕ)) → told ≡ Some content → limit < length content → (bytes : List ℕ) → IsContent told bytes → ⊥
  told_long content told is longer bytes c =
      let within : length content ≤ limit = subst (λ (x : List ℕ). length x ≤ limit) (sym (told_same content told is bytes c)) c.within in
      omega arith

  not_unread : (name content : List ℕ) → o.contents name ≡ Some content → limit < length content → IsUnread o name → ⊥
  not_unread name content told longer cause =
      let P : Option (List ℕ) → Type 0 = λ t. IfSome t (λ x. length x ≤ limit) in
      let short : length content ≤ limit = subst P told cause.short in
      omega arith

  not_long : (name content : List ℕ) → o.contents name ≡ Some content → length content ≤ limit → IsTooLong o name → ⊥
  not_long name content told within cause =
      let P : Option (List ℕ) → Type 0 = λ t. IfSome t (λ x. limit < length x) in
      let longer : limit < length content = subst P told cause.long in
      omega arith

  -- a file within the limit is not refused where no read failed
  good_unrefused : {L : Type 0} (name content : List ℕ) (e : End L) → o.contents name ≡ Some content → length content ≤ limit → ¬ Rose o.before o.after → RefusesFile o name e → ⊥
  good_unrefused name content e told within quiet (inl (cause, _)) = quiet cause.rose
  good_unrefused name content e told within quiet (inr (cause, _)) = not_long name content told within cause

  -- a file that is too long is refused as that
  long_refused : {L : Type 0} (name content : List ℕ) (e : End L) → o.contents name ≡ Some content → limit < length content → RefusesFile o name e → e ≡ is_longer name
  long_refused name content e told longer (inr (_, is)) = is
  long_refused name content e told longer (inl (cause, _)) = absurd (not_unread name content told longer cause)

  -- so the first of the files that is too long
  first_long : {L : Type 0} (names : List (List ℕ)) (long name : List ℕ) (e : End L) → HasLong o names long → IsReached o.contents names name → RefusesFile o name e → e ≡ is_longer long
  first_long [] long name e h reached refused = absurd h
  first_long {L = L} (n ∷ ns) long name e (inl (is, content, (told, longer))) (inl same) refused =
      long_refused n content e told longer (subst (λ (m : List ℕ). RefusesFile o m e) same refused) ∙ ap (λ (m : List ℕ). is_longer {L = L} m) (sym is)
  first_long (n ∷ ns) long name e (inl (is, content, (told, longer))) (inr ((bytes, c), _)) refused = absurd (told_long content (o.contents n) told longer bytes c)
  first_long (n ∷ ns) long name e (inr ((content, (told, within)), quiet, more)) (inl same) refused =
      absurd (good_unrefused n content e told within quiet (subst (λ (m : List ℕ). RefusesFile o m e) same refused))
  first_long (n ∷ ns) long name e (inr ((content, (told, within)), quiet, more)) (inr (_, reached)) refused = first_long ns long name e more reached refused

  none_long : (names contents : List (List ℕ)) (long : List ℕ) → HasLong o names long → AreContents o names contents → ⊥
  none_long [] contents long h are = h
  none_long (n ∷ ns) [] long h are = are
  none_long (n ∷ ns) (b ∷ bs) long (inl (is, content, (told, longer))) are = told_long content (o.contents n) told longer b are.0
  none_long (n ∷ ns) (b ∷ bs) long (inr ((content, (told, within)), quiet, more)) are = none_long ns bs long more are.1

  pub long_end : {L : Type 0} (names : List (List ℕ)) (next : Contents → End L → Type 0) (long : List ℕ) (e : End L) → HasLong o names long → Reading o names next e → e ≡ is_longer long
  long_end names next long e h (inl refused) = first_long names long refused.name e h refused.reached refused.told
  long_end names next long e h (inr (contents, are, _)) = absurd (none_long names contents long h are)

  -- ---- good files

  -- a reached file of good ones is not refused
  pub good_read : {L : Type 0} (names contents : List (List ℕ)) (name : List ℕ) (e : End L) → AllZip (IsShort o) names contents → ¬ Rose o.before o.after
      → IsReached o.contents names name → RefusesFile o name e → ⊥
  good_read [] contents name e good quiet reached refused = reached
  good_read (n ∷ ns) [] name e good quiet reached refused = good
  good_read (n ∷ ns) (b ∷ bs) name e good quiet (inl same) refused = good_unrefused n b e good.0.0 good.0.1 quiet (subst (λ (m : List ℕ). RefusesFile o m e) same refused)
  good_read (n ∷ ns) (b ∷ bs) name e good quiet (inr (_, reached)) refused = good_read ns bs name e good.1 quiet reached refused

  -- and their contents are those that were read
  pub good_same : (names contents others : List (List ℕ)) → AllZip (IsShort o) names contents → AreContents o names others → others ≡ contents
  good_same [] [] [] good are = refl
  good_same [] [] (x ∷ xs) good are = absurd are
  good_same [] (b ∷ bs) others good are = absurd good
  good_same (n ∷ ns) [] others good are = absurd good
  good_same (n ∷ ns) (b ∷ bs) [] good are = absurd are
  good_same (n ∷ ns) (b ∷ bs) (x ∷ xs) good are = ap₂ (λ (y : List ℕ) (ys : List (List ℕ)). y ∷ ys) (sym (told_same b (o.contents n) good.0.0 x are.0)) (good_same ns bs xs good.1 are.1)

-- what refuses a file is told as a read fault
pub read_fault : {L : Type 0} (call : Call L) (names : List (List ℕ)) (e : End L) → IsTold call e → RefusesFirst call.files names e → IsReadFault call names
read_fault {L = L} call names e told h = of h.told
  where
    of : RefusesFile call.files h.name e → IsReadFault call names
    of (inl (cause, is)) = (h.name, h.reached, inl (cause, subst (λ (x : End L). IsTold call x) is told))
    of (inr (cause, is)) = (h.name, h.reached, inr (cause, subst (λ (x : End L). IsTold call x) is told))

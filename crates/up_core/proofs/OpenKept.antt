-- The numbers of the obligations that aren't done stay kept.
use Rattle.std.proofs.Common.{◌≡◌, ℕ, zero, suc, ◌+◌, ◌<◌, ◌≤◌, Bool, true, false, cond, not, List, [], ◌∷◌, ◌++◌, length, Option, None, Some, slice_get, refl, sym, ap, subst, ◌∙◌, arith}
use Rattle.std.specs.List.{count_by, insert}
use Rattle.std.specs.Global.{Vec}
use Rattle.std.specs.Vec.{vec_len, vec_capacity, with_items}
use Rattle.std.proofs.lemmas.List.{with_items_is}
use Rattle.up_machine.specs.Replay.{change_at}
use Rattle.up_core.specs.declared.state.ObligationEntry.{ObligationEntry}
use Rattle.up_core.specs.declared.state.Progress.{Progress}
use Rattle.up_core.specs.Keeping.{AreOpenKept}
use Rattle.up_core.specs.Places.{is_done, is_seed, is_unfinished, open_of}
use Rattle.up_core.specs.Steps.{change_where, with_progress}
use Rattle.up_core.proofs.LiveKept.{length-where}
use Rattle.up_core.proofs.Placed.{one, count-cons, count-push, others, below, places-few, places-fewer, places-lost, places-gained, places-same, places-push}

-- where the progress of an obligation that is there changes
pub open-change : (k : ℕ) (p : Progress) (es : List ObligationEntry) (e : ObligationEntry) → slice_get es k ≡ Some e →
    open_of (change_at k (with_progress p) es) ≡ cond (is_done p) (others is_unfinished k (open_of es)) (cond (is_done e.progress) (insert (open_of es) (below is_unfinished k (open_of es)) k) (open_of es))
open-change k p es e there = by (is_done p) refl (is_done e.progress) refl
  where
    same : 0 + k ≡ k
    same = omega arith

    by : (b : Bool) → is_done p ≡ b → (c : Bool) → is_done e.progress ≡ c →
        open_of (change_at k (with_progress p) es) ≡ cond b (others is_unfinished k (open_of es)) (cond c (insert (open_of es) (below is_unfinished k (open_of es)) k) (open_of es))
    by true done c was = places-lost is_unfinished (with_progress p) (λ _. ap not done) 0 k es ∙ ap (λ j. others is_unfinished j (open_of es)) same
    by false done true was =
        places-gained is_unfinished (with_progress p) 0 k es e there (ap not was) (ap not done)
        ∙ ap (λ j. insert (open_of es) (below is_unfinished j (open_of es)) j) same
    by false done false was = places-same is_unfinished (with_progress p) 0 k es e there (ap not done ∙ sym (ap not was))

pub open-push : (es : List ObligationEntry) (e : ObligationEntry) → is_done e.progress ≡ false → open_of (es ++ e ∷ []) ≡ open_of es ++ length es ∷ []
open-push es e fresh =
    let same : 0 + length es ≡ length es = omega arith in
    places-push is_unfinished 0 es e ∙ ap (λ b. open_of es ++ cond b ((0 + length es) ∷ []) []) (ap not fresh) ∙ ap (λ j. open_of es ++ j ∷ []) same

-- seeds stay seeds
pub seeds-change : (k : ℕ) (p : Progress) (es : List ObligationEntry) → count_by is_seed (change_at k (with_progress p) es) ≡ count_by is_seed es
seeds-change k p [] = refl
seeds-change zero p (e ∷ es) = count-cons is_seed (with_progress p e) es ∙ sym (count-cons is_seed e es)
seeds-change (suc k) p (e ∷ es) = count-cons is_seed e (change_at k (with_progress p) es) ∙ ap (λ n. one (is_seed e) + n) (seeds-change k p es) ∙ sym (count-cons is_seed e es)

pub seeds-where : (place : Option ℕ) (p : Progress) (es : List ObligationEntry) → count_by is_seed (change_where place (with_progress p) es) ≡ count_by is_seed es
seeds-where None p es = refl
seeds-where (Some k) p es = seeds-change k p es

pub seeds-push : (es : List ObligationEntry) (e : ObligationEntry) → count_by is_seed (es ++ e ∷ []) ≡ count_by is_seed es + one (is_seed e)
seeds-push es e = count-push is_seed es e

pub fewer-open : (k : ℕ) (es : List ObligationEntry) (e : ObligationEntry) → slice_get es k ≡ Some e → is_done e.progress ≡ true → length (open_of es) < length es
fewer-open k es e there done = places-fewer is_unfinished 0 k es e there (ap not done)

pub open-few : (es : List ObligationEntry) → length (open_of es) ≤ length es
open-few es = places-few is_unfinished 0 es

-- entries of which one's progress changed, in the same room
pub open-kept : (entries : Vec ObligationEntry) (opened new : Vec ℕ) (seeds room : ℕ) (es : List ObligationEntry) (place : Option ℕ) (p : Progress) → AreOpenKept entries opened seeds room →
    es ≡ change_where place (with_progress p) entries.items → new.items ≡ open_of es → vec_capacity new ≡ vec_capacity opened → AreOpenKept (with_items entries es) new seeds room
open-kept entries opened new seeds room es place p kept is opens capacity =
    let same = with_items_is entries es (ap length is ∙ length-where place (with_progress p) entries.items ∙ sym entries.ok.0) in
    record {
      open_is = opens ∙ ap open_of (sym same);
      seeds_are = kept.seeds_are ∙ sym (ap (count_by is_seed) (same ∙ is) ∙ seeds-where place p entries.items);
      room_entries = kept.room_entries;
      room_open = omega (arith, kept.room_open, capacity);
    }

-- The numbers of the live clauses stay kept.
use Rattle.std.proofs.Common.{◌≡◌, ℕ, ◌+◌, ◌≤◌, Bool, List, [], ◌∷◌, ◌++◌, length, Option, None, Some, refl, sym, ap, subst, ◌∙◌, arith}
use Rattle.std.specs.Global.{Vec}
use Rattle.std.specs.Vec.{vec_len, vec_capacity, with_items}
use Rattle.std.proofs.lemmas.List.{with_items_is}
use Rattle.up_machine.specs.Replay.{change_at}
use Rattle.up_core.specs.declared.state.ClauseEntry.{ClauseEntry}
use Rattle.up_core.specs.Keeping.{AreGathered, AreKept, HasRoom}
use Rattle.up_core.specs.Places.{is_live, live_of}
use Rattle.up_core.specs.Steps.{change_where, gone_entry, new_entry}
use Rattle.up_core.proofs.Counts.{length-change}
use Rattle.up_core.proofs.Placed.{places-kept, places-lost, places-push, others}

pub length-where : {X : Type 0} (place : Option ℕ) (f : X → X) (xs : List X) → length (change_where place f xs) ≡ length xs
length-where None f xs = refl
length-where (Some k) f xs = length-change k f xs

pub live-where : (place : Option ℕ) (f : ClauseEntry → ClauseEntry) (es : List ClauseEntry) → ((e : ClauseEntry) → is_live (f e) ≡ is_live e) → live_of (change_where place f es) ≡ live_of es
live-where None f es same = refl
live-where (Some k) f es same = places-kept is_live f same 0 k es

pub live-gone : (k : ℕ) (es : List ClauseEntry) → live_of (change_at k gone_entry es) ≡ others is_live k (live_of es)
live-gone k es = let same : 0 + k ≡ k = omega arith in places-lost is_live gone_entry (λ e. refl) 0 k es ∙ ap (λ j. others is_live j (live_of es)) same

pub live-push : (found level : ℕ) (es : List ClauseEntry) → live_of (es ++ new_entry found level ∷ []) ≡ live_of es ++ length es ∷ []
live-push found level es = let same : 0 + length es ≡ length es = omega arith in places-push is_live 0 es (new_entry found level) ∙ ap (λ j. live_of es ++ j ∷ []) same

-- what is gathered is gathered of these
pub gather-live : (entries : Vec ClauseEntry) (es : List ClauseEntry) (live now_live : List ℕ) (now : List ClauseEntry) → now_live ≡ live → now ≡ (with_items entries es).items → length es ≡ length entries.items →
    live ≡ live_of es → now_live ≡ live_of now
gather-live entries es live now_live now lives are long is = lives ∙ is ∙ ap live_of (sym (are ∙ with_items_is entries es (long ∙ sym entries.ok.0)))

-- what is kept, after it was gathered anew
module _ (entries : Vec ClauseEntry) (live due : Vec ℕ) (levels : Vec Bool) (frontier room : ℕ) (kept : AreKept entries live due levels frontier room) where
  -- other entries in the same room
  pub kept-with : (es : List ClauseEntry) (new_live new_due : Vec ℕ) (new_levels : Vec Bool) (now : List ClauseEntry) → length es ≡ length entries.items → now ≡ (with_items entries es).items →
      new_live.items ≡ live_of es → HasRoom room new_live → vec_len new_live ≤ vec_len live →
      AreGathered now frontier new_due.items new_levels.items → vec_capacity new_due ≡ vec_capacity due → ((n : ℕ) → HasRoom n levels → HasRoom n new_levels) →
      AreKept (with_items entries es) new_live new_due new_levels frontier room
  kept-with es new_live new_due new_levels now long are is left fewer gathered due_room levels_room =
      let same = with_items_is entries es (long ∙ sym entries.ok.0) in
      let r = kept.room_for in
      record {
        live_is = is ∙ ap live_of (sym same);
        gathered = subst (λ xs. AreGathered xs frontier new_due.items new_levels.items) are gathered;
        room_for = record {
          of_entries = r.of_entries;
          of_live = left;
          of_due = omega (arith, r.of_due, fewer, due_room);
          of_levels = levels_room room r.of_levels;
        };
      }

  -- one more clause
  pub kept-push : (more : Vec ClauseEntry) (new_live new_due : Vec ℕ) (new_levels : Vec Bool) (now : List ClauseEntry) (rest : ℕ) → rest + 1 ≡ room → now ≡ more.items →
      new_live.items ≡ live_of more.items → vec_len more ≡ vec_len entries + 1 → vec_capacity more ≡ vec_capacity entries → vec_len new_live ≡ vec_len live + 1 → vec_capacity new_live ≡ vec_capacity live →
      AreGathered now frontier new_due.items new_levels.items → vec_capacity new_due ≡ vec_capacity due → ((n : ℕ) → HasRoom n levels → HasRoom n new_levels) →
      AreKept more new_live new_due new_levels frontier rest
  kept-push more new_live new_due new_levels now rest left are is len capacity len_live capacity_live gathered due_room levels_room =
      let r = kept.room_for in
      record {
        live_is = is;
        gathered = subst (λ xs. AreGathered xs frontier new_due.items new_levels.items) are gathered;
        room_for = record {
          of_entries = omega (arith, left, len, capacity, r.of_entries);
          of_live = omega (arith, left, len_live, capacity_live, r.of_live);
          of_due = omega (arith, left, len_live, due_room, r.of_due);
          of_levels = levels_room rest (omega (arith, left, r.of_levels));
        };
      }

  -- one more frame
  pub kept-advance : (new_due : Vec ℕ) (more new_levels : Vec Bool) (now : List ClauseEntry) (rest : ℕ) → rest + 1 ≡ room → now ≡ entries.items →
      vec_len more ≡ vec_len levels + 1 → vec_capacity more ≡ vec_capacity levels →
      AreGathered now (frontier + 1) new_due.items new_levels.items → vec_capacity new_due ≡ vec_capacity due → ((n : ℕ) → HasRoom n more → HasRoom n new_levels) →
      AreKept entries live new_due new_levels (frontier + 1) rest
  kept-advance new_due more new_levels now rest left are len capacity gathered due_room levels_room =
      let r = kept.room_for in
      record {
        live_is = kept.live_is;
        gathered = subst (λ xs. AreGathered xs (frontier + 1) new_due.items new_levels.items) are gathered;
        room_for = record {
          of_entries = omega (arith, left, r.of_entries);
          of_live = omega (arith, left, r.of_live);
          of_due = omega (arith, left, due_room, r.of_due);
          of_levels = levels_room rest (omega (arith, left, len, capacity, r.of_levels));
        };
      }

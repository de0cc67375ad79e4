-- From what is read to the places in the bytes.
use Rattle.std.proofs.Common.{◌≡◌, ℕ, ◌+◌, ◌-◌, ◌^◌, ◌<◌, ◌≤◌, List, [], ◌∷◌, ◌++◌, length, take, drop, Ok, Err, refl, sym, ap, subst, ◌∙◌, append_assoc, length-append, arith}
use Rattle.std.specs.Prelude.{slice_range}
use Rattle.std.proofs.lemmas.List.{append-nil, take_rest, take_at, drop_at, drop-drop, length-drop}
use Rattle.fo_core.specs.declared.signature.Sig.{Sig}
use Rattle.fo_core.specs.declared.names.Names.{Names}
use Rattle.fo_core.specs.declared.world.World.{World}
use Rattle.fo_core.specs.Sorted.{IsSig}
use Rattle.fo_text.specs.Texts.{NamesEach, text_of, HasText, BeginsText, StopsAt}
use Rattle.fo_text.specs.Reading.{cut, world_at}
use Rattle.fo_text.proofs.Exact.{Exact, FailsBehind, IsFault}
use Rattle.fo_text.proofs.Whole.{exact_world, world_cut}

-- the rest of a list behind a part of it
drop_behind : (bytes text rest : List ℕ) (at : ℕ) → at ≤ length bytes → drop at bytes ≡ text ++ rest → (drop (length bytes - length rest) bytes ≡ rest) × (at ≤ length bytes - length rest)
drop_behind bytes text rest at h e =
    let len : length bytes - at ≡ length text + length rest = sym (length-drop at bytes) ∙ ap (λ (l : List ℕ). length l) e ∙ length-append text rest in
    let k : length bytes - length rest ≡ at + length text = omega arith in
    (ap (λ (n : ℕ). drop n bytes) k ∙ sym (drop-drop (length text) at bytes) ∙ ap (drop (length text)) e ∙ drop_at text rest (length text) refl, omega arith)

module _ (sig : Sig) (names : Names) (is_sig : IsSig sig) (named : NamesEach sig names) (bytes : List ℕ) (at : ℕ) (within : at ≤ length bytes) (short : length bytes < 2 ^ 32) where
  -- the bytes that are read, as the code has them
  abbrev here : List ℕ
  here = take (length bytes - at) (drop at bytes)

  abbrev exact : Exact (HasText sig) (text_of sig names) (world_at (λ line. line) sig names)
  exact = exact_world sig names is_sig named

  reads : world_at cut sig names here ≡ world_at (λ line. line) sig names (drop at bytes)
  reads = ap (world_at cut sig names) (take_rest bytes at) ∙ world_cut sig names is_sig named (drop at bytes) (omega (arith, length-drop at bytes))

  pub record Taken (w : World) (rest : List ℕ) : Type 0 where
    pub fits : HasText sig w
    pub text : drop at bytes ≡ text_of sig names w ++ drop (length bytes - length rest) bytes
    pub behind : at ≤ length bytes - length rest
    pub few : length rest ≤ length bytes

  pub is_taken : (w : World) (rest : List ℕ) → world_at cut sig names here ≡ Ok (w, rest) → Taken w rest
  is_taken w rest e =
      let t = exact.takes (drop at bytes) w rest (sym reads ∙ e) in
      let d = drop_behind bytes (text_of sig names w) rest at within t.0 in
      record { fits = t.1; text = t.0 ∙ ap (λ (l : List ℕ). text_of sig names w ++ l) (sym d.0); behind = d.1; few = omega (arith, ap (λ (l : List ℕ). length l) t.0, length-append (text_of sig names w) rest, length-drop at bytes) }

  pub is_read : (w : World) (rest : List ℕ) → HasText sig w → drop at bytes ≡ text_of sig names w ++ rest → world_at cut sig names here ≡ Ok (w, rest)
  is_read w rest h e = reads ∙ ap (world_at (λ line. line) sig names) e ∙ exact.again w rest h

  never : (w : World) (front tail : List ℕ) (b left : ℕ) → HasText sig w → text_of sig names w ≡ front ++ b ∷ tail → world_at (λ line. line) sig names (front ++ b ∷ tail) ≡ Err left → ⊥
  never w front tail b left h e f =
      let g : world_at (λ line. line) sig names (front ++ b ∷ tail) ≡ Ok (w, []) = ap (world_at (λ line. line) sig names) (sym e ∙ sym (append-nil (text_of sig names w))) ∙ exact.again w [] h in
      cc

  -- the byte where reading ended begins no text
  no_text : (front rest : List ℕ) → FailsBehind (world_at (λ line. line) sig names) front rest → drop at bytes ≡ front ++ rest → 0 < length rest → ¬ BeginsText sig names (slice_range bytes at (at + length front + 1))
  no_text front [] fails e some = absurd (omega arith)
  no_text front (b ∷ rest) fails e some = λ t.
      let long : at + length front + 1 - at ≡ length (front ++ b ∷ []) = omega (arith, length-append front (b ∷ [])) in
      let part : slice_range bytes at (at + length front + 1) ≡ front ++ b ∷ [] = ap (λ (l : List ℕ). take (at + length front + 1 - at) l) (e ∙ sym (append_assoc front (b ∷ []) rest)) ∙ take_at (front ++ b ∷ []) rest (at + length front + 1 - at) (sym long) in
      let f = fails t.2 in
      never t.0 front t.2 b f.0 t.1 (t.3 ∙ ap (λ (l : List ℕ). l ++ t.2) part ∙ append_assoc front (b ∷ []) t.2) f.1

  pub record Stopped (left : ℕ) : Type 0 where
    pub few : left ≤ length bytes
    pub stops : StopsAt sig names bytes at (length bytes - left)

  stopped_by : (left : ℕ) → IsFault (HasText sig) (text_of sig names) (world_at (λ line. line) sig names) (drop at bytes) left → Stopped left
  stopped_by left f =
      let v = f.viable in
      let len : length bytes - at ≡ length f.front + left = sym (length-drop at bytes) ∙ ap (λ (l : List ℕ). length l) f.split ∙ length-append f.front f.rest ∙ ap (λ (n : ℕ). length f.front + n) f.len in
      let place : at + length f.front ≡ length bytes - left = omega arith in
      let part : slice_range bytes at (at + length f.front) ≡ f.front = ap (λ (l : List ℕ). take (at + length f.front - at) l) f.split ∙ take_at f.front f.rest (at + length f.front - at) (omega arith) in
      record {
        few = omega arith;
        stops = subst (λ (p : ℕ). StopsAt sig names bytes at p) place (record {
          behind = omega arith;
          within = omega arith;
          begins = (v.0, v.1, v.2, v.3 ∙ ap (λ (l : List ℕ). l ++ v.2) (sym part));
          stops = λ lt. no_text f.front f.rest f.fails f.split (omega (arith, f.len));
        });
      }

  pub is_stopped : (left : ℕ) → world_at cut sig names here ≡ Err left → Stopped left
  is_stopped left e = stopped_by left (exact.fault (drop at bytes) left (sym reads ∙ e))

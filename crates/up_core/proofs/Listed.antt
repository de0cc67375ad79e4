-- The cubes that entries stand for are those of the machine's clauses.
use Rattle.std.proofs.Common.{◌≡◌, ℕ, zero, suc, ◌≤◌, Bool, true, false, cond, ◌&&◌, nat_le, List, [], ◌∷◌, ◌++◌, map, filter, Option, Some, slice_get, refl, sym, ap, ◌∙◌, arith, true≢false}
use Rattle.std.specs.Prelude.{option_map}
use Rattle.std.specs.Option.{option_and_then, option_to_list}
use Rattle.fo_core.specs.declared.system.System.{System}
use Rattle.fo_core.specs.Sorted.{IsSystem}
use Rattle.up_diagram.specs.declared.cube.Cube.{Cube}
use Rattle.up_diagram.specs.Cubes.{Meets}
use Rattle.up_machine.specs.declared.event.Event.{Event}
use Rattle.up_machine.specs.declared.limits.Limits.{Limits}
use Rattle.up_machine.specs.Legal.{Legal}
use Rattle.up_machine.specs.Machine.{Clause, Machine, is_from, cubes_from}
use Rattle.up_machine.specs.Replay.{replay}
use Rattle.up_machine.proofs.FrameLaws.{reached}
use Rattle.up_machine.proofs.Lists.{each-of_all}
use Rattle.up_core.specs.declared.state.ClauseEntry.{ClauseEntry}
use Rattle.up_core.specs.declared.state.State.{State}
use Rattle.up_core.specs.Listing.{AreUnmet, cube_from, listed}
use Rattle.up_core.specs.Mirror.{Pairs, IsCubeAt, IsClauseOf, IsMirror, cube_of}
use Rattle.up_core.specs.Telling.{kept_with, told_from}
use Rattle.up_core.proofs.Pairing.{pairs-map}

module _ (history : List Event) (i : ℕ) where
  -- what of an entry matters here
  record IsSame (c : Clause) (e : ClauseEntry) : Type 0 where
    pub cube : IsCubeAt history e.learnt c.cube
    pub level : c.level ≡ e.level
    pub live : c.live ≡ e.live

  abbrev told : List Clause → List Cube
  told cs = map (λ (c : Clause). c.cube) cs

  step : (c : Clause) (cs : List Clause) (cube : Option Cube) (more : List Cube) → cube ≡ Some c.cube → more ≡ told cs → (a b : Bool) → a ≡ b →
      cond b (option_to_list cube) [] ++ more ≡ told (cond a (c ∷ cs) cs)
  step c cs cube more is rest true true e = ap (λ o. option_to_list o ++ more) is ∙ ap (λ l. c.cube ∷ l) rest
  step c cs cube more is rest false false e = rest
  step c cs cube more is rest true false e = absurd (true≢false e)
  step c cs cube more is rest false true e = absurd (true≢false (sym e))

  listed-same : (cs : List Clause) (es : List ClauseEntry) → Pairs cs es (λ k. IsSame) → listed history i es ≡ cubes_from cs i
  listed-same [] [] h = refl
  listed-same [] (e ∷ es) h = absurd h
  listed-same (c ∷ cs) [] h = absurd h
  listed-same (c ∷ cs) (e ∷ es) h =
      step c (filter (is_from i) cs) (option_and_then cube_of (slice_get history e.learnt)) (listed history i es) h.0.cube (listed-same cs es h.1)
      (c.live && nat_le i c.level) (e.live && nat_le i e.level)
      (ap (λ x. x && nat_le i c.level) h.0.live ∙ ap (λ n. e.live && nat_le i n) h.0.level)

pub listed-is : (sys : System) (history : List Event) (m : Machine) (s : State) → IsMirror sys history m s → (i : ℕ) → listed history i s.clauses.items ≡ cubes_from m.clauses i
listed-is sys history m s mirror i =
    listed-same history i m.clauses s.clauses.items
    (pairs-map m.clauses s.clauses.items (λ k c e. IsClauseOf history sys m k c e) (λ k. IsSame history i)
    (λ k c e h. record { cube = h.cube; level = h.level; live = h.live }) mirror.clauses)

-- an entry that isn't live stands for no cube
pub gone-cube : (history : List Event) (level : ℕ) (e : ClauseEntry) → e.live ≡ false → cube_from history level e ≡ []
gone-cube history level e gone = ap (λ b. cond (b && nat_le level e.level) (option_to_list (option_and_then cube_of (slice_get history e.learnt))) []) gone

-- nor is its clause told
pub gone-told : (history : List Event) (level : ℕ) (e : ClauseEntry) → e.live ≡ false → told_from history level e ≡ []
gone-told history level e gone =
    ap (λ b. cond (b && nat_le level e.level) (option_to_list (option_map (kept_with e.level) (option_and_then cube_of (slice_get history e.learnt)))) []) gone

-- frames hold
pub unmet : (sys : System) (limits : Limits) (history : List Event) (i : ℕ) → IsSystem sys → Legal sys limits history → 1 ≤ i → AreUnmet sys i (cubes_from (replay history).clauses i)
unmet sys limits history zero good legal low = absurd (omega (arith, low))
unmet sys limits history (suc i) good legal low = λ s r.
    each-of_all (cubes_from (replay history).clauses (suc i)) (λ (cube : Cube). ¬ Meets sys.sig s 0 cube) (reached sys limits history (suc i) s good legal r).1

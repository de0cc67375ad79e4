-- Into which frames a clause comes that is learnt or rises.
use Rattle.std.proofs.Common.{◌≡◌, ℕ, zero, suc, ◌<◌, ◌≤◌, true, List, [], ◌∷◌, ◌++◌, length, Some, slice_get, sym, ap, subst, arith, ◌⊎◌, inl, inr}
use Rattle.std.proofs.lemmas.Bool.{cases_lt}
use Rattle.fo_core.specs.declared.system.System.{System}
use Rattle.fo_core.specs.declared.world.World.{World}
use Rattle.up_diagram.specs.Cubes.{Meets}
use Rattle.up_machine.specs.Machine.{Clause, Machine, IsIn}
use Rattle.up_machine.specs.Replay.{change_at, raised}
use Rattle.up_machine.specs.Sound.{Each}
use Rattle.up_machine.proofs.FrameEvents.{told_in}
use Rattle.up_machine.proofs.Frames.{avoids-each, each-avoids}
use Rattle.up_machine.proofs.Lists.{get-append, get-push, IsPushed, get-change, get-changed, IsChanged, get-here, two_places}
use Rattle.up_machine.proofs.Waiting.{get-last}
use Rattle.up_core.proofs.Lapsed.{ComesInto}

module _ (sys : System) (m n : Machine) (failed : n.failed ≡ m.failed) where
  -- which live clauses a state is to avoid in frame i
  abbrev Avoided : List Clause → ℕ → World → Type 0
  Avoided cs i w = Each cs (λ k c. c.live ≡ true → i ≤ c.level → ¬ Meets sys.sig w 0 c.cube)

  down-by : ((i : ℕ) (w : World) → Avoided n.clauses i w → Avoided m.clauses i w) → (i : ℕ) (w : World) → IsIn sys n i w 0 → IsIn sys m i w 0
  down-by f zero w h = h
  down-by f (suc i) w h = (h.0, each-avoids sys m.clauses (suc i) w 0 (f (suc i) w (avoids-each sys n.clauses (suc i) w 0 h.1)))

  avoided : (i : ℕ) (w : World) → 1 ≤ i → IsIn sys n i w 0 → Avoided n.clauses i w
  avoided zero w low h = absurd (omega (arith, low))
  avoided (suc i) w low h = avoids-each sys n.clauses (suc i) w 0 h.1

  up-by : (i : ℕ) (w : World) → 1 ≤ i → IsIn sys m i w 0 → (Avoided m.clauses i w → Avoided n.clauses i w) → IsIn sys n i w 0
  up-by zero w low h f = absurd (omega (arith, low))
  up-by (suc i) w low h f = told_in sys n.clauses (suc i) w 0 low h.0 (each-avoids sys n.clauses (suc i) w 0 (f (avoids-each sys m.clauses (suc i) w 0 h.1)))

  -- a clause that is learnt
  module _ (new : Clause) (live : new.live ≡ true) (clauses : n.clauses ≡ m.clauses ++ new ∷ []) where
    pub learnt-comes : ComesInto sys m n new.cube 0 new.level
    learnt-comes = record {
      failed = failed;
      down = down-by (λ i w h k c there. h k c (subst (λ cs. slice_get cs k ≡ Some c) (sym clauses) (get-append m.clauses (new ∷ []) k c there)));
      up = λ i w low h fresh. up-by i w low h (λ old k c there. by i w old fresh k c (get-push m.clauses new k c (subst (λ cs. slice_get cs k ≡ Some c) clauses there)));
      out = λ i w from to low h. avoided i w low h (length m.clauses) new (subst (λ cs. slice_get cs (length m.clauses) ≡ Some new) (sym clauses) (get-last m.clauses new)) live to;
    }
      where
        by : (i : ℕ) (w : World) → Avoided m.clauses i w → (0 ≤ i → i ≤ new.level → ¬ Meets sys.sig w 0 new.cube) → (k : ℕ) (c : Clause) → IsPushed m.clauses new k c → c.live ≡ true → i ≤ c.level → ¬ Meets sys.sig w 0 c.cube
        by i w old fresh k c (inl there) l le meets = old k c there l le meets
        by i w old fresh k c (inr is) l le meets = fresh (omega arith) (subst (λ (x : Clause). i ≤ x.level) (sym is.1) le) (subst (λ (x : Clause). Meets sys.sig w 0 x.cube) (sym is.1) meets)

  -- a clause that rises
  module _ (k : ℕ) (top : Clause) (there : slice_get m.clauses k ≡ Some top) (live : top.live ≡ true) (clauses : n.clauses ≡ change_at k raised m.clauses) where
    pub raised-comes : ComesInto sys m n top.cube (suc top.level) (suc top.level)
    raised-comes = record {
      failed = failed;
      down = down-by (λ i w h j c at l le. let r = get-change k raised m.clauses j c at in back i w h j c l le r.0 (subst (λ cs. slice_get cs j ≡ Some r.0) (sym clauses) r.1) r.2);
      up = λ i w low h fresh. up-by i w low h (λ old j c at l le. let r = get-changed k raised m.clauses j c (subst (λ cs. slice_get cs j ≡ Some c) clauses at) in forth i w old fresh j c l le r.0 r.1 r.2);
      out = λ i w from to low h. avoided i w low h k (raised top) (subst (λ cs. slice_get cs k ≡ Some (raised top)) (sym clauses) (get-here k raised m.clauses top there)) live to;
    }
      where
        back : (i : ℕ) (w : World) → Avoided n.clauses i w → (j : ℕ) (c : Clause) → c.live ≡ true → i ≤ c.level → (d : Clause) → slice_get n.clauses j ≡ Some d → IsChanged k raised j c d → ¬ Meets sys.sig w 0 c.cube
        back i w h j c l le d at (inl is) meets =
            h j d at (subst (λ (x : Clause). x.live ≡ true) is.1 l) (subst (λ (x : Clause). i ≤ x.level) is.1 (omega (arith, le))) (subst (λ (x : Clause). Meets sys.sig w 0 x.cube) is.1 meets)
        back i w h j c l le d at (inr same) meets =
            h j d at (subst (λ (x : Clause). x.live ≡ true) same l) (subst (λ (x : Clause). i ≤ x.level) same le) (subst (λ (x : Clause). Meets sys.sig w 0 x.cube) same meets)

        forth : (i : ℕ) (w : World) → Avoided m.clauses i w → (suc top.level ≤ i → i ≤ suc top.level → ¬ Meets sys.sig w 0 top.cube) → (j : ℕ) (c : Clause) → c.live ≡ true → i ≤ c.level →
            (b : Clause) → slice_get m.clauses j ≡ Some b → IsChanged k raised j b c → ¬ Meets sys.sig w 0 c.cube
        forth i w old fresh j c l le b at (inr same) meets =
            old j b at (subst (λ (x : Clause). x.live ≡ true) (sym same) l) (subst (λ (x : Clause). i ≤ x.level) (sym same) le) (subst (λ (x : Clause). Meets sys.sig w 0 x.cube) (sym same) meets)
        forth i w old fresh j c l le b at (inl is) meets = by (cases_lt b.level i)
          where
            same : top ≡ b
            same = two_places m.clauses j top b (subst (λ p. slice_get m.clauses p ≡ Some top) is.0 there) at

            met : Meets sys.sig w 0 b.cube
            met = subst (λ (x : Clause). Meets sys.sig w 0 x.cube) (sym is.1) meets

            upper : i ≤ suc b.level
            upper = subst (λ (x : Clause). i ≤ x.level) (sym is.1) le

            by : (b.level < i) ⊎ (i ≤ b.level) → ⊥
            by (inr low) = old j b at (subst (λ (x : Clause). x.live ≡ true) same live) low met
            by (inl lt) =
                let level = ap (λ (x : Clause). x.level) same in
                fresh (omega (arith, lt, level)) (omega (arith, upper, level)) (subst (λ (x : Clause). Meets sys.sig w 0 x.cube) (sym same) met)

-- Frames only grow stronger, whatever legal event comes, and a Retire leaves them.
use Rattle.std.proofs.Common.{◌≡◌, ℕ, zero, suc, ◌≤◌, true, nat_le, inl, inr, List, [], ◌∷◌, ◌++◌, Option, Some, slice_get, refl, sym, ap, subst, ◌∙◌, arith, leb-true, le-leb}
use Rattle.fo_core.specs.declared.system.System.{System}
use Rattle.fo_core.specs.declared.world.World.{World}
use Rattle.up_diagram.specs.Cubes.{Meets}
use Rattle.up_diagram.proofs.Covered.{covers_meets}
use Rattle.up_claims.specs.Frames.{Avoids, IsInFrame}
use Rattle.up_machine.specs.declared.limits.Limits.{Limits}
use Rattle.up_machine.specs.declared.event.Event.{Event}
use Rattle.up_machine.specs.declared.event.Event.TheVariants as E
use Rattle.up_machine.specs.Machine.{Clause, Given, Work, Push, Machine, is_from, cubes_from, frame, IsIn}
use Rattle.up_machine.specs.Replay.{change_at, raised, retired, clauses_after, job_of_event, happens, run}
use Rattle.up_machine.specs.Legal.{IsCover, IsLegal, AreLegal}
use Rattle.up_machine.specs.Sound.{Each}
use Rattle.up_machine.proofs.Lists.{get-append, get-change, get-changed, IsChanged, two_places, all-kept, kept-all, both_true, first_true, second_true, false_is_true}

-- a clause that stays, with its cube, at its level or a higher one, and gone if it was
pub record Remains (ds : List Clause) (k : ℕ) (c : Clause) : Type 0 where
  pub now : Clause
  pub there : slice_get ds k ≡ Some now
  pub cube : now.cube ≡ c.cube
  pub level : c.level ≤ now.level
  pub live : now.live ≡ true → c.live ≡ true

-- a clause that stays, with its cube, at its level or a higher one, and live or gone as it was
pub record Grows (ds : List Clause) (k : ℕ) (c : Clause) : Type 0 where
  pub now : Clause
  pub there : slice_get ds k ≡ Some now
  pub cube : now.cube ≡ c.cube
  pub level : c.level ≤ now.level
  pub live : now.live ≡ c.live

abbrev pub Remain : List Clause → List Clause → Type 0
Remain cs ds = Each cs (Remains ds)

abbrev pub Grown : List Clause → List Clause → Type 0
Grown cs ds = Each cs (Grows ds)

pub grown_remain : (cs ds : List Clause) → Grown cs ds → Remain cs ds
grown_remain cs ds g k c e =
    let a = g k c e in
    record { now = a.now; there = a.there; cube = a.cube; level = a.level; live = λ live. sym a.live ∙ live }

pub same_grown : (cs : List Clause) → Grown cs cs
same_grown cs k c e = record { now = c; there = e; cube = refl; level = omega arith; live = refl }

pub pushed_grown : (cs : List Clause) (c : Clause) → Grown cs (cs ++ c ∷ [])
pushed_grown cs c k d e = record { now = d; there = get-append cs (c ∷ []) k d e; cube = refl; level = omega arith; live = refl }

pub raised_grown : (cs : List Clause) (j : ℕ) → Grown cs (change_at j raised cs)
raised_grown cs j k c e = let r = get-change j raised cs k c e in by r.0 r.1 r.2
  where
    by : (d : Clause) → slice_get (change_at j raised cs) k ≡ Some d → IsChanged j raised k c d → Grows (change_at j raised cs) k c
    by d there (inl h) =
        let up : suc c.level ≡ d.level = ap (λ (x : Clause). x.level) h.1 in
        record { now = d; there = there; cube = sym (ap (λ (x : Clause). x.cube) h.1); level = omega (arith, up); live = sym (ap (λ (x : Clause). x.live) h.1) }
    by d there (inr h) =
        let same : c.level ≡ d.level = ap (λ (x : Clause). x.level) h in
        record { now = d; there = there; cube = sym (ap (λ (x : Clause). x.cube) h); level = omega (arith, same); live = sym (ap (λ (x : Clause). x.live) h) }

pub retired_remain : (cs : List Clause) (j : ℕ) → Remain cs (change_at j retired cs)
retired_remain cs j k c e = let r = get-change j retired cs k c e in by r.0 r.1 r.2
  where
    by : (d : Clause) → slice_get (change_at j retired cs) k ≡ Some d → IsChanged j retired k c d → Remains (change_at j retired cs) k c
    by d there (inl h) =
        let same : c.level ≡ d.level = ap (λ (x : Clause). x.level) h.1 in
        record { now = d; there = there; cube = sym (ap (λ (x : Clause). x.cube) h.1); level = omega (arith, same); live = λ live. false_is_true (ap (λ (x : Clause). x.live) h.1 ∙ live) }
    by d there (inr h) =
        let same : c.level ≡ d.level = ap (λ (x : Clause). x.level) h in
        record { now = d; there = there; cube = sym (ap (λ (x : Clause). x.cube) h); level = omega (arith, same); live = λ live. ap (λ (x : Clause). x.live) h ∙ live }

abbrev pub IsRetire : Event → Type 0
IsRetire (E.Retire w gone by) = Unit {0}
IsRetire _ = ⊥

-- every event but Retire keeps or strengthens the clauses
pub clauses_grown : (e : Event) (job : Option Given) (cs : List Clause) → ¬ IsRetire e → Grown cs (clauses_after e job cs)
clauses_grown (E.Learn w cube) (Some (Work k level below world)) cs plain = pushed_grown cs _
clauses_grown (E.Raise w) (Some (Push k level cubes cube)) cs plain = raised_grown cs k
clauses_grown (E.Retire w gone by) job cs plain = absurd (plain tt)
clauses_grown e job cs plain = same_grown cs

-- what a proof by events has to show: of Retire, and of the others at once
pub by_retire : (P : Event → Type 0) → ((w gone by : ℕ) → P (E.Retire w gone by)) → ((e : Event) → ¬ IsRetire e → P e) → (e : Event) → P e
by_retire P r o (E.Retire w gone by) = r w gone by
by_retire P r o e = o e (λ h. h)

-- each event keeps each clause's place and cube, lowers none and revives none
pub clauses_remain : (e : Event) (job : Option Given) (cs : List Clause) → Remain cs (clauses_after e job cs)
clauses_remain e job cs =
    by_retire (λ e. Remain cs (clauses_after e job cs)) (λ w gone by. retired_remain cs gone)
    (λ e plain. grown_remain cs (clauses_after e job cs) (clauses_grown e job cs plain)) e

module _ (sys : System) where
  -- what it is to avoid a frame's clauses, clause by clause
  pub avoids-each : (cs : List Clause) (i : ℕ) (w : World) (c : ℕ) → Avoids sys.sig w c (cubes_from cs i) → Each cs (λ k cl. cl.live ≡ true → i ≤ cl.level → ¬ Meets sys.sig w c cl.cube)
  avoids-each cs i w c h k cl e live le =
      all-kept (λ (x : Clause). x.cube) (λ cube. ¬ Meets sys.sig w c cube) (is_from i) cs h k cl e (both_true cl.live (nat_le i cl.level) live (le-leb i cl.level le))

  pub each-avoids : (cs : List Clause) (i : ℕ) (w : World) (c : ℕ) → Each cs (λ k cl. cl.live ≡ true → i ≤ cl.level → ¬ Meets sys.sig w c cl.cube) → Avoids sys.sig w c (cubes_from cs i)
  each-avoids cs i w c h =
      kept-all (λ (x : Clause). x.cube) (λ cube. ¬ Meets sys.sig w c cube) (is_from i) cs
      (λ k cl e t. h k cl e (first_true cl.live (nat_le i cl.level) t) (leb-true i cl.level (second_true cl.live (nat_le i cl.level) t)))

  -- each frame of the second list is a part of the first's
  abbrev pub Stronger : List Clause → List Clause → Type 0
  Stronger cs ds = (i : ℕ) (w : World) (c : ℕ) → Avoids sys.sig w c (cubes_from ds i) → Avoids sys.sig w c (cubes_from cs i)

  pub same_stronger : (cs : List Clause) → Stronger cs cs
  same_stronger cs i w c h = h

  pub grown_stronger : (cs ds : List Clause) → Grown cs ds → Stronger cs ds
  grown_stronger cs ds g i w c h =
      each-avoids cs i w c
      (λ k cl e live le meets.
      let a = g k cl e in
      avoids-each ds i w c h k a.now a.there (a.live ∙ live) (omega (arith, le, a.level)) (subst (Meets sys.sig w c) (sym a.cube) meets))

  -- Retire keeps frames, both ways
  module _ (m : Machine) (gone by : ℕ) (cover : IsCover m gone by) where
    abbrev pub after : List Clause
    after = change_at gone retired m.clauses

    -- a clause that is live after it was so before, at its place
    pub retire_weaker : Stronger after m.clauses
    retire_weaker i w c h = each-avoids after i w c (λ k d e live le. let r = get-changed gone retired m.clauses k d e in was k d live le r.0 r.1 r.2)
      where
        was : (k : ℕ) (d : Clause) → d.live ≡ true → i ≤ d.level → (x : Clause) → slice_get m.clauses k ≡ Some x → IsChanged gone retired k x d → ¬ Meets sys.sig w c d.cube
        was k d live le x there (inl g) = absurd (false_is_true (ap (λ (y : Clause). y.live) g.1 ∙ live))
        was k d live le x there (inr same) = avoids-each m.clauses i w c h k d (there ∙ ap Some same) live le

    -- what meets the clause that goes meets its cover, which stands, live and of no lower level
    pub retire_stronger : Stronger m.clauses after
    retire_stronger i w c h = each-avoids m.clauses i w c (λ k x e live le. let r = get-change gone retired m.clauses k x e in still k x e live le r.0 r.1 r.2)
      where
        stands : (d : Clause) → slice_get after by ≡ Some d → IsChanged gone retired by cover.cover d → slice_get after by ≡ Some cover.cover
        stands d e (inl g) = absurd (cover.apart g.0)
        stands d e (inr same) = e ∙ ap Some (sym same)

        covered : (x : Clause) → slice_get m.clauses gone ≡ Some x → i ≤ x.level → ¬ Meets sys.sig w c x.cube
        covered x there le meets =
            let same : cover.old ≡ x = two_places m.clauses gone cover.old x cover.there there in
            let low : i ≤ cover.old.level = subst (λ (y : Clause). i ≤ y.level) (sym same) le in
            let old_meets = subst (λ (y : Clause). Meets sys.sig w c y.cube) (sym same) meets in
            let r = get-change gone retired m.clauses by cover.cover cover.cover_there in
            avoids-each after i w c h by cover.cover (stands r.0 r.1 r.2) cover.cover_live (omega (arith, low, cover.level))
            (covers_meets sys.sig w c cover.cover.cube cover.old.cube cover.covers old_meets)

        still : (k : ℕ) (x : Clause) → slice_get m.clauses k ≡ Some x → x.live ≡ true → i ≤ x.level → (d : Clause) → slice_get after k ≡ Some d → IsChanged gone retired k x d → ¬ Meets sys.sig w c x.cube
        still k x there live le d e (inl g) = covered x (subst (λ j. slice_get m.clauses j ≡ Some x) (sym g.0) there) le
        still k x there live le d e (inr same) = avoids-each after i w c h k x (e ∙ ap Some (sym same)) live le

  -- each legal event leaves frames as they are or makes them stronger
  pub happens_stronger : (limits : Limits) (m : Machine) (e : Event) → IsLegal sys limits m e → Stronger m.clauses (happens m e).clauses
  happens_stronger limits m e =
      by_retire (λ e. IsLegal sys limits m e → Stronger m.clauses (happens m e).clauses)
      (λ w gone by legal. retire_stronger m gone by legal.allowed)
      (λ e plain legal. grown_stronger m.clauses (happens m e).clauses (clauses_grown e (job_of_event m e) m.clauses plain)) e

  pub frame_stronger : (cs ds : List Clause) (i : ℕ) (w : World) (c : ℕ) → Stronger cs ds → IsInFrame sys (frame ds i) w c → IsInFrame sys (frame cs i) w c
  frame_stronger cs ds zero w c g h = h
  frame_stronger cs ds (suc i) w c g h = (h.0, g (suc i) w c h.1)

  -- a state of a frame now was one of it at each earlier moment
  pub earlier : (limits : Limits) (m : Machine) (es : List Event) (i : ℕ) (w : World) (c : ℕ) → AreLegal sys limits m es → IsIn sys (run m es) i w c → IsIn sys m i w c
  earlier limits m [] i w c legal h = h
  earlier limits m (e ∷ es) i w c legal h =
      frame_stronger m.clauses (happens m e).clauses i w c (happens_stronger limits m e legal.0) (earlier limits (happens m e) es i w c legal.1 h)

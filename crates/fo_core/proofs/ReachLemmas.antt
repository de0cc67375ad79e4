-- How the states come to be that a system reaches.
use Rattle.std.proofs.Common.{◌≡◌, ℕ, zero, suc, true, ◌+◌, ◌-◌, ◌<◌, ◌≤◌, ◌↔◌, ◌⊎◌, inl, inr, List, [], ◌∷◌, ◌++◌, length, get_or, take, refl, sym, ap, subst, ◌∙◌, arith, length-append}
use Rattle.std.specs.List.{filter}
use Rattle.std.proofs.Math.ListN.{get_or-append}
use Rattle.std.proofs.Math.Seq.{get_or-append_seam}
use Rattle.std.proofs.lemmas.Bool.{cases_lt}
use Rattle.std.proofs.lemmas.List.{get_or-take, length-take-le}
use Rattle.std.proofs.lemmas.List.Elements.{All-nil, All-cons, All-append, All-take}
use Rattle.fo_core.specs.declared.system.System.{System}
use Rattle.fo_core.specs.declared.world.Table.{Table}
use Rattle.fo_core.specs.declared.world.World.{World}
use Rattle.fo_core.specs.Agreeing.{Agree}
use Rattle.fo_core.specs.RunLaws.{IsLoneInitial, IsLoneState, StepsInto, ReachedByStep}
use Rattle.fo_core.specs.Runs.{IsState, IsStep, IsRun, Reach, alone, pair}
use Rattle.fo_core.specs.Sorted.{IsSystem}
use Rattle.fo_core.specs.Tables.{Fits, AreTables, is_like}
use Rattle.fo_core.proofs.AgreeLemmas.{alone-agrees}
use Rattle.fo_core.proofs.RunLemmas.{with_copies, same-state, same-step, alone-fits, pair-fits, pair-agrees, alone-itself}

-- the first n copies of a world agree with it
module _ (w : World) (n : ℕ) where
  abbrev cut : World
  cut = with_copies w (take n w.copies)

  cut-agrees : (m c : ℕ) → c + m ≤ n → Agree m w c cut c
  cut-agrees m c le = record {
    sizes = refl;
    fixed = refl;
    copies = λ k lt. sym (get_or-take n w.copies (c + k) [] (omega (arith, lt, le)));
  }

  cut-alone : (c : ℕ) → c < n → alone cut c ≡ alone w c
  cut-alone c lt = ap (λ (ts : List Table). with_copies w (ts ∷ [])) (get_or-take n w.copies c [] lt)

-- a world with one more copy agrees with the world
module _ (w : World) (more : List Table) where
  abbrev longer : World
  longer = with_copies w (w.copies ++ more ∷ [])

  longer-agrees : (m c : ℕ) → c + m ≤ length w.copies → Agree m w c longer c
  longer-agrees m c le = record {
    sizes = refl;
    fixed = refl;
    copies = λ k lt. sym (get_or-append w.copies (more ∷ []) [] (c + k) (omega (arith, lt, le)));
  }

  longer-length : length longer.copies ≡ length w.copies + 1
  longer-length = length-append w.copies (more ∷ [])

module _ (sys : System) (is : IsSystem sys) where
  -- the first copies of a run are a run
  cut-run : (w : World) (n : ℕ) → IsRun sys w → 1 ≤ n → n ≤ length w.copies → IsRun sys (cut w n)
  cut-run w n run some le = record {
    fits = record {
      sorts = run.fits.sorts;
      nonempty = run.fits.nonempty;
      fixed = run.fits.fixed;
      some_copy = omega (arith, long, some);
      copies = All-take (AreTables w.sizes _) n w.copies run.fits.copies;
    };
    initial = (same-state sys is w 0 (cut w n) 0 (cut-agrees w n 1 0 (omega (arith, some)))).initial.0 run.initial;
    steps = λ c lt. (same-step sys is w c (cut w n) c (cut-agrees w n 2 c (omega (arith, lt, long)))).step.0 (run.steps c (omega (arith, lt, long, le)));
  }
    where
      long : length (take n w.copies) ≡ n
      long = length-take-le n w.copies le

  -- a run, and a step from its last copy
  module _ (w both : World) (run : IsRun sys w) (fits : Fits sys.sig both) (two : length both.copies ≡ 2) (step : IsStep sys both 0) (joins : alone both 0 ≡ alone w (length w.copies - 1)) where
    abbrev next : List Table
    next = get_or both.copies 1 []

    abbrev whole : World
    whole = longer w next

    long : length whole.copies ≡ length w.copies + 1
    long = longer-length w next

    same_sizes : both.sizes ≡ w.sizes
    same_sizes = ap (λ (w : World). w.sizes) joins

    same_fixed : both.fixed ≡ w.fixed
    same_fixed = ap (λ (w : World). w.fixed) joins

    some : 1 ≤ length w.copies
    some = run.fits.some_copy

    next-copy : get_or whole.copies (length w.copies) [] ≡ next
    next-copy = get_or-append_seam w.copies next [] []

    last-copy : get_or both.copies 0 [] ≡ get_or whole.copies (length w.copies - 1) []
    last-copy =
        ap (λ (w : World). get_or w.copies 0 []) joins ∙ sym (get_or-append w.copies (next ∷ []) [] (length w.copies - 1) (omega (arith, some)))

    both-agrees : Agree 2 both 0 whole (length w.copies - 1)
    both-agrees = record { sizes = same_sizes; fixed = same_fixed; copies = at }
      where
        at : (k : ℕ) → k < 2 → get_or both.copies (0 + k) [] ≡ get_or whole.copies ((length w.copies - 1) + k) []
        at zero lt =
            let same : (length w.copies - 1) + 0 ≡ length w.copies - 1 = omega arith in
            last-copy ∙ ap (λ n. get_or whole.copies n []) (sym same)
        at (suc zero) lt =
            let same : (length w.copies - 1) + 1 ≡ length w.copies = omega (arith, some) in
            sym next-copy ∙ ap (λ n. get_or whole.copies n []) (sym same)
        at (suc (suc k)) lt = absurd (omega (arith, lt))

    step-at : (c : ℕ) → c + 1 < length whole.copies → (c + 1 < length w.copies) ⊎ (length w.copies ≤ c + 1) → IsStep sys whole c
    step-at c lt (inl before) = (same-step sys is w c whole c (longer-agrees w next 2 c (omega (arith, before)))).step.0 (run.steps c before)
    step-at c lt (inr last) =
        let same : length w.copies - 1 ≡ c = omega (arith, lt, last, long, some) in
        subst (IsStep sys whole) same ((same-step sys is both 0 whole (length w.copies - 1) both-agrees).step.0 step)

    whole-run : IsRun sys whole
    whole-run = record {
      fits = record {
        sorts = run.fits.sorts;
        nonempty = run.fits.nonempty;
        fixed = run.fits.fixed;
        some_copy = omega (arith, long);
        copies = All-append (AreTables w.sizes _) w.copies (next ∷ []) run.fits.copies
            (All-cons (AreTables w.sizes _) next [] (subst (λ (ns : List ℕ). AreTables ns (filter (is_like true) sys.sig.symbols) next) same_sizes (fits.copies 1 [] (omega (arith, two)))) (All-nil (AreTables w.sizes _)));
      };
      initial = (same-state sys is w 0 whole 0 (longer-agrees w next 1 0 (omega (arith, some)))).initial.0 run.initial;
      steps = λ c lt. step-at c lt (cases_lt (c + 1) (length w.copies));
    }

    whole-last : alone both 1 ≡ alone whole (length whole.copies - 1)
    whole-last =
        let same : length w.copies ≡ length whole.copies - 1 = omega (arith, long) in
        ap (λ (ns : List ℕ). record { sizes = ns; fixed = both.fixed; copies = next ∷ [] }) same_sizes
        ∙ ap (λ (ts : List Table). record { sizes = w.sizes; fixed = ts; copies = next ∷ [] }) same_fixed
        ∙ ap (λ (ts : List Table). with_copies w (ts ∷ [])) (sym next-copy ∙ ap (λ n. get_or whole.copies n []) same)

  pub reach-none : (s : World) → Reach sys 0 s ↔ IsLoneInitial sys s
  reach-none s = (there, back)
    where
      there : Reach sys 0 s → IsLoneInitial sys s
      there r =
          let some = r.is_run.fits.some_copy in
          let first : length r.run.copies - 1 ≡ 0 = omega (arith, r.short) in
          let same : alone r.run 0 ≡ s = sym (r.last ∙ ap (alone r.run) first) in
          subst (IsLoneInitial sys) same (record {
            fits = alone-fits sys.sig r.run 0 r.is_run.fits (omega (arith, some));
            one_copy = refl;
            initial = (same-state sys is r.run 0 (alone r.run 0) 0 (alone-agrees r.run 0)).initial.0 r.is_run.initial;
          })

      back : IsLoneInitial sys s → Reach sys 0 s
      back h =
          let first : 0 ≡ length s.copies - 1 = omega (arith, h.one_copy) in
          record {
            run = s;
            is_run = record { fits = h.fits; initial = h.initial; steps = λ c lt. absurd (omega (arith, lt, h.one_copy)) };
            short = omega (arith, h.one_copy);
            last = sym (alone-itself s h.one_copy) ∙ ap (alone s) first;
          }

  reach-later : (k : ℕ) (s : World) → Reach sys k s → Reach sys (k + 1) s
  reach-later k s r = record { run = r.run; is_run = r.is_run; short = omega (arith, r.short); last = r.last }

  reach-by : (k : ℕ) (s : World) → StepsInto sys k s → Reach sys (k + 1) s
  reach-by k s h =
      let w = h.reached.run in
      let run = h.reached.is_run in
      let joins = h.reached.last in
      record {
        run = whole w h.both run h.fits h.two_copies h.step joins;
        is_run = whole-run w h.both run h.fits h.two_copies h.step joins;
        short = omega (arith, long w h.both run h.fits h.two_copies h.step joins, h.reached.short);
        last = h.next ∙ whole-last w h.both run h.fits h.two_copies h.step joins;
      }

  -- a run of k + 1 steps ends with a step from a state that is reached within k
  steps-into : (k : ℕ) (s : World) (r : Reach sys (k + 1) s) → length r.run.copies ≡ k + 2 → StepsInto sys k s
  steps-into k s r long =
      let last : length r.run.copies - 1 ≡ k + 1 = omega (arith, long) in
      let kept : length (take (k + 1) r.run.copies) ≡ k + 1 = length-take-le (k + 1) r.run.copies (omega (arith, long)) in
      let end : length (take (k + 1) r.run.copies) - 1 ≡ k = omega (arith, kept) in
      record {
        both = pair r.run k;
        fits = pair-fits sys.sig r.run k r.is_run.fits (omega (arith, long));
        two_copies = refl;
        reached = record {
          run = cut r.run (k + 1);
          is_run = cut-run r.run (k + 1) r.is_run (omega arith) (omega (arith, long));
          short = omega (arith, kept);
          last = sym (cut-alone r.run (k + 1) k (omega arith)) ∙ ap (alone (cut r.run (k + 1))) (sym end);
        };
        step = (same-step sys is r.run k (pair r.run k) 0 (pair-agrees r.run k)).step.0 (r.is_run.steps k (omega (arith, long)));
        next = r.last ∙ ap (alone r.run) last;
      }

  pub reach-more : (k : ℕ) (s : World) → Reach sys (k + 1) s ↔ Reach sys k s ⊎ StepsInto sys k s
  reach-more k s = (there, back)
    where
      by_length : (r : Reach sys (k + 1) s) → (length r.run.copies < k + 2) ⊎ (k + 2 ≤ length r.run.copies) → Reach sys k s ⊎ StepsInto sys k s
      by_length r (inl lt) = inl (record { run = r.run; is_run = r.is_run; short = omega (arith, lt); last = r.last })
      by_length r (inr le) = inr (steps-into k s r (omega (arith, le, r.short)))

      there : Reach sys (k + 1) s → Reach sys k s ⊎ StepsInto sys k s
      there r = by_length r (cases_lt (length r.run.copies) (k + 2))

      back : Reach sys k s ⊎ StepsInto sys k s → Reach sys (k + 1) s
      back (inl r) = reach-later k s r
      back (inr h) = reach-by k s h

  pub reach-state : (k : ℕ) (s : World) → Reach sys k s → IsLoneState sys s
  reach-state k s r = subst (IsLoneState sys) (sym r.last) (record {
    fits = alone-fits sys.sig r.run (length r.run.copies - 1) r.is_run.fits (omega (arith, some));
    one_copy = refl;
    state = (same-state sys is r.run (length r.run.copies - 1) (alone r.run (length r.run.copies - 1)) 0 (alone-agrees r.run (length r.run.copies - 1))).state.0 (at (length r.run.copies - 1) (omega (arith, some)));
  })
    where
      some : 1 ≤ length r.run.copies
      some = r.is_run.fits.some_copy

      at : (c : ℕ) → c < length r.run.copies → IsState sys r.run c
      at zero lt = r.is_run.initial.state
      at (suc c) lt = let same : c + 1 ≡ suc c = omega arith in subst (IsState sys r.run) same (r.is_run.steps c (omega (arith, lt))).next_state

  pub reached-by-step : ReachedByStep sys
  reached-by-step = record { no_step = reach-none; one_more = reach-more; states = reach-state }

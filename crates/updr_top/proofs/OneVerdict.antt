-- A history tells one verdict, so that the report of a search is one.
use Rattle.std.proofs.Common.{◌≡◌, ◌⊎◌, ◌∙◌, ℕ, suc, ◌+◌, ◌-◌, ◌<◌, true, List, [], ◌∷◌, ◌++◌, Option, Some, length, slice_get, ap, ap₂, sym, subst, inl, inr, refl, arith}
use Rattle.std.specs.List.{concat}
use Rattle.std.specs.Prelude.{slice_index_or, take}
use Rattle.std.proofs.lemmas.Bool.{cases_order}
use Rattle.fo_core.specs.declared.signature.Sig.{Sig}
use Rattle.fo_core.specs.declared.system.System.{System}
use Rattle.fo_core.specs.declared.world.World.{World}
use Rattle.fo_core.specs.Runs.{alone}
use Rattle.fo_core.specs.SortGraph.{ComesFirst}
use Rattle.fo_core.specs.Sorted.{IsSystem}
use Rattle.fo_embed.specs.Compared.{IsFirstEmbedding}
use Rattle.fo_min.specs.declared.found.Excess.{Excess}
use Rattle.pyv_sorts.specs.declared.model.Elaborated.{Elaborated}
use Rattle.up_claims.specs.declared.kind.Kind.{Kind}
use Rattle.up_claims.specs.declared.verdict.Kept.{Kept}
use Rattle.up_claims.specs.declared.verdict.Leave.{Leave}
use Rattle.up_claims.specs.declared.verdict.Link.{Link}
use Rattle.up_claims.specs.declared.verdict.Verdict.{Verdict}
use Rattle.up_claims.specs.declared.verdict.Verdict.TheVariants as V
use Rattle.up_machine.specs.declared.end.End.{End}
use Rattle.up_machine.specs.declared.end.End.TheVariants as N
use Rattle.up_machine.specs.declared.event.Event.{Event}
use Rattle.up_machine.specs.declared.event.Event.TheVariants as E
use Rattle.up_machine.specs.declared.limits.Limits.{Limits}
use Rattle.up_machine.specs.Due.{IsFirst, IsValid}
use Rattle.up_machine.specs.Legal.{Legal}
use Rattle.up_machine.specs.Machine.{Clause, FailedPush, Given, Look, Machine, Obligation, Push, Rooted, Status, Trace, Work, start}
use Rattle.up_machine.specs.Replay.{replay}
use Rattle.up_machine.specs.Told.{AreLeavesOf, AreLinks, AreTraced, IsLeaveOf, IsLinkOf, IsToldBy, Told, ends, goes_on, kept_from, live_of}
use Rattle.up_machine.proofs.Histories.{legal-first}
use Rattle.up_machine.proofs.Lists.{none_is_some, some_injective, two_places}
use Rattle.up_machine.proofs.OneValid.{one_valid}
use Rattle.up_core.specs.View.{CoreView}
use Rattle.up_rounds.specs.Courses.{AreAlike, IsRun}
use Rattle.up_rounds.proofs.AlikeLimits.{alike_one}
use Rattle.updr_told.specs.declared.status.Status.{Status as Number}
use Rattle.updr_top.specs.Infer.{search_text}
use Rattle.updr_top.specs.Tellings.{Reports}
use Rattle.updr_top.specs.OneStatus.{status_of}

-- ---- lists

-- two lists that have the same at each place
same_list : {X : Type 0} (xs ys : List X) → length xs ≡ length ys → ((k : ℕ) (x y : X) → slice_get xs k ≡ Some x → slice_get ys k ≡ Some y → x ≡ y) → xs ≡ ys
same_list [] [] many each = refl
same_list [] (y ∷ ys) many each = absurd (omega (arith, many))
same_list (x ∷ xs) [] many each = absurd (omega (arith, many))
same_list (x ∷ xs) (y ∷ ys) many each =
    ap₂ (λ z zs. z ∷ zs) (each 0 x y refl refl) (same_list xs ys (omega (arith, many)) (λ k u v p q. each (suc k) u v p q))

-- what stands before the last event, and that event, are one
last_event : (before after : List Event) (e f : Event) → before ++ e ∷ [] ≡ after ++ f ∷ [] → (before ≡ after) × (e ≡ f)
last_event [] [] e f same = (refl, cc)
last_event [] (g ∷ []) e f same = let long : 1 ≡ 2 = ap length same in absurd (omega (arith, long))
last_event [] (g ∷ h ∷ after) e f same = let short : [] ≡ h ∷ (after ++ f ∷ []) = cc in absurd cc
last_event (g ∷ before) [] e f same = absurd (not_last before (rest g e before f same))
  where
    rest : (g e : Event) (before : List Event) (f : Event) → (g ∷ before) ++ e ∷ [] ≡ f ∷ [] → before ++ e ∷ [] ≡ []
    rest g e before f is = cc

    not_last : (before : List Event) → before ++ e ∷ [] ≡ [] → ⊥
    not_last [] is = cc
    not_last (x ∷ xs) is = cc
last_event (g ∷ before) (h ∷ after) e f same =
    let parts = cut g h (before ++ e ∷ []) (after ++ f ∷ []) same in
    let more = last_event before after e f parts.1 in
    (ap₂ (λ x xs. x ∷ xs) parts.0 more.0, more.1)
  where
    cut : (g h : Event) (xs ys : List Event) → g ∷ xs ≡ h ∷ ys → (g ≡ h) × (xs ≡ ys)
    cut g h xs ys is = (cc, cc)

-- ---- first embeddings

both_first : (xs ys : List ℕ) → ComesFirst xs ys → ComesFirst ys xs → xs ≡ ys
both_first [] [] a b = refl
both_first [] (y ∷ ys) a b = absurd b
both_first (x ∷ xs) [] a b = absurd a
both_first (x ∷ xs) (y ∷ ys) (inl lt) (inl gt) = absurd (omega (arith, lt, gt))
both_first (x ∷ xs) (y ∷ ys) (inl lt) (inr (same, rest)) = absurd (omega (arith, lt, same))
both_first (x ∷ xs) (y ∷ ys) (inr (same, rest)) (inl gt) = absurd (omega (arith, gt, same))
both_first (x ∷ xs) (y ∷ ys) (inr (same, rest)) (inr (_, more)) = ap₂ (λ z zs. z ∷ zs) same (both_first xs ys rest more)

split : (xs ys us vs : List ℕ) → length xs ≡ length ys → xs ++ us ≡ ys ++ vs → (xs ≡ ys) × (us ≡ vs)
split [] [] us vs many same = (refl, same)
split [] (y ∷ ys) us vs many same = absurd (omega (arith, many))
split (x ∷ xs) [] us vs many same = absurd (omega (arith, many))
split (x ∷ xs) (y ∷ ys) us vs many same =
    let parts = cut x y (xs ++ us) (ys ++ vs) same in
    let more = split xs ys us vs (omega (arith, many)) parts.1 in
    (ap₂ (λ z zs. z ∷ zs) parts.0 more.0, more.1)
  where
    cut : (x y : ℕ) (rest more : List ℕ) → x ∷ rest ≡ y ∷ more → (x ≡ y) × (rest ≡ more)
    cut x y rest more is = (cc, cc)

-- lists of lists of the same lengths that join to one list
same_parts : (xs ys : List (List ℕ)) → length xs ≡ length ys → ((s : ℕ) → s < length xs → length (slice_index_or xs s []) ≡ length (slice_index_or ys s [])) → concat xs ≡ concat ys → xs ≡ ys
same_parts [] [] many each same = refl
same_parts [] (y ∷ ys) many each same = absurd (omega (arith, many))
same_parts (x ∷ xs) [] many each same = absurd (omega (arith, many))
same_parts (x ∷ xs) (y ∷ ys) many each same =
    let parts = split x y (concat xs) (concat ys) (each 0 (omega arith)) same in
    ap₂ (λ z zs. z ∷ zs) parts.0 (same_parts xs ys (omega (arith, many)) (λ s lt. each (suc s) (omega (arith, lt))) parts.1)

one_embedding : (sig : Sig) (v : World) (c : ℕ) (w : World) (d : ℕ) (f g : List (List ℕ)) → IsFirstEmbedding sig v c w d f → IsFirstEmbedding sig v c w d g → f ≡ g
one_embedding sig v c w d f g a b =
    let i = a.embeds.injections in
    let j = b.embeds.injections in
    same_parts f g (i.one_each ∙ sym j.one_each)
    (λ s lt. let within : s < length v.sizes = subst (λ (n : ℕ). s < n) i.one_each lt in i.total s within ∙ sym (j.total s within))
    (both_first (concat f) (concat g) (a.first g b.embeds) (b.first f a.embeds))

-- ---- chains

one_link : (sig : Sig) (o : Obligation) (origin : World) (a b : Link) → IsLinkOf sig o origin a → IsLinkOf sig o origin b → a ≡ b
one_link sig o origin a b p q = of a.origin b.origin a.state b.state a.map.images b.map.images (p.origin_is ∙ sym q.origin_is) (p.state ∙ sym q.state) p.map q.map
  where
    of : (u v : World) (s t : World) (f g : List (List ℕ)) → u ≡ v → s ≡ t → IsFirstEmbedding sig s 0 u (length u.copies - 1) f → IsFirstEmbedding sig t 0 v (length v.copies - 1) g
        → ◌≡◌ {A = Link} (record { origin = u; state = s; map = record { images = f } }) (record { origin = v; state = t; map = record { images = g } })
    of u v s t f g i j x y =
        let moved : IsFirstEmbedding sig s 0 u (length u.copies - 1) g = subst (λ (z : World). IsFirstEmbedding sig z 0 u (length u.copies - 1) g) (sym j) (subst (λ (z : World). IsFirstEmbedding sig t 0 z (length z.copies - 1) g) (sym i) y) in
        rw (i, j, one_embedding sig s 0 u (length u.copies - 1) f g x moved) refl

module _ (sig : Sig) (obligations : List Obligation) where
  one_chain : (origin : World) (k : ℕ) (a b : List Link) → AreLinks sig obligations origin k a → AreLinks sig obligations origin k b → a ≡ b
  one_chain origin k a b (ends _ _ o link there is seed) (ends _ _ p other at one last) =
      let same : p ≡ o = two_places obligations k p o at there in
      ap (λ (l : Link). l ∷ []) (one_link sig o origin link other is (subst (λ (x : Obligation). IsLinkOf sig x origin other) same one))
  one_chain origin k a b (ends _ _ o link there is seed) (goes_on _ _ parent p other rest at one more _) =
      let same : p ≡ o = two_places obligations k p o at there in
      none_is_some parent (sym seed ∙ ap (λ (x : Obligation). x.parent) (sym same) ∙ more)
  one_chain origin k a b (goes_on _ _ parent o link rest there is more _) (ends _ _ p other at one last) =
      let same : p ≡ o = two_places obligations k p o at there in
      none_is_some parent (sym last ∙ ap (λ (x : Obligation). x.parent) same ∙ more)
  one_chain origin k a b (goes_on _ _ parent o link rest there is more up) (goes_on _ _ above p other others at one next over) =
      let same : p ≡ o = two_places obligations k p o at there in
      let parents : above ≡ parent = some_injective above parent (sym next ∙ ap (λ (x : Obligation). x.parent) same ∙ more) in
      let moved = subst (λ (n : ℕ). AreLinks sig obligations o.world n others) parents (subst (λ (x : Obligation). AreLinks sig obligations x.world above others) same over) in
      ap₂ (λ (l : Link) (ls : List Link). l ∷ ls)
      (one_link sig o origin link other is (subst (λ (x : Obligation). IsLinkOf sig x origin other) same one))
      (one_chain o.world parent rest others up moved)

abbrev obligation_of : Given → ℕ
obligation_of (Trace k steps) = k
obligation_of (Work k level below world) = k
obligation_of (Look level frame avoid done) = 0
obligation_of (Push k level frame cube) = k

abbrev root_or : World → Status → World
root_or w (Rooted root) = root
root_or w _ = w

one_trace : (sig : Sig) (m : Machine) (w : ℕ) (a b : List Link) → AreTraced sig m w a → AreTraced sig m w b → a ≡ b
one_trace sig m w a b s t =
    let number : t.trace.obligation ≡ s.trace.obligation = ap obligation_of (some_injective (Trace t.trace.obligation t.trace.steps) (Trace s.trace.obligation s.trace.steps) (sym t.trace.held ∙ s.trace.held)) in
    let same : t.obligation ≡ s.obligation = two_places m.obligations s.trace.obligation t.obligation s.obligation (subst (λ (k : ℕ). slice_get m.obligations k ≡ Some t.obligation) number t.there) s.there in
    let root : t.root ≡ s.root = ap (root_or s.root) (sym t.rooted ∙ ap (λ (o : Obligation). o.status) same ∙ s.rooted) in
    let moved = subst (λ (k : ℕ). AreLinks sig m.obligations (alone s.root 0) k b) number (subst (λ (x : World). AreLinks sig m.obligations (alone x 0) t.trace.obligation b) root t.chain) in
    one_chain sig m.obligations (alone s.root 0) s.trace.obligation a b s.chain moved

-- ---- leaves

one_first : {X : Type 0} (xs : List X) (P : ℕ → X → Type 0) (j k : ℕ) → (a : IsFirst xs P j) → (b : IsFirst xs P k) → j ≡ k
one_first xs P j k a b = of (cases_order j k)
  where
    of : (j ≡ k) ⊎ ((j < k) ⊎ (k < j)) → j ≡ k
    of (inl same) = same
    of (inr (inl lt)) = absurd (b.first j a.found lt a.there a.has)
    of (inr (inr gt)) = absurd (a.first k b.found gt b.there b.has)

module _ (sys : System) (limits : Limits) (good : IsSystem sys) (history : List Event) (legal : Legal sys limits history) where
  abbrev m : Machine
  m = replay history

  one_leave : (i : ℕ) (a b : Leave) → IsLeaveOf sys m i a → IsLeaveOf sys m i b → a ≡ b
  one_leave i a b p q = of a.level b.level a.clause b.clause a.step b.step (p.level ∙ sym q.level) named step
    where
      number : q.number ≡ p.number
      number = one_first m.clauses (λ k (c : Clause). (c.live ≡ true) × (c.level ≡ i)) q.number p.number q.clause p.clause

      clause : q.clause.found ≡ p.clause.found
      clause = two_places m.clauses p.number q.clause.found p.clause.found (subst (λ (k : ℕ). slice_get m.clauses k ≡ Some q.clause.found) number q.clause.there) p.clause.there

      valid : IsValid sys m p.number p.clause.found q.failed
      valid = subst (λ (k : ℕ). IsValid sys m k p.clause.found q.failed) number (subst (λ (c : Clause). IsValid sys m q.number c q.failed) clause q.valid)

      place : p.place ≡ q.place
      place = one_valid sys limits history p.number p.place q.place p.clause.found p.failed q.failed good legal p.clause.there p.there q.there p.valid valid

      failed : p.failed ≡ q.failed
      failed = two_places m.failed q.place p.failed q.failed (subst (λ (k : ℕ). slice_get m.failed k ≡ Some p.failed) place p.there) q.there

      named : a.clause ≡ b.clause
      named = p.named ∙ ap (λ (k : ℕ). length (live_of (take k m.clauses))) (sym number) ∙ sym q.named

      step : a.step ≡ b.step
      step = p.step ∙ ap (λ (f : FailedPush). f.step) failed ∙ sym q.step

      of : (l k c d : ℕ) (s t : World) → l ≡ k → c ≡ d → s ≡ t → ◌≡◌ {A = Leave} (record { level = l; clause = c; step = s }) (record { level = k; clause = d; step = t })
      of l k c d s t e f g = rw (e, f, g) refl

  one_bound : (a b : List Leave) → AreLeavesOf sys m a → AreLeavesOf sys m b → a ≡ b
  one_bound a b p q = same_list a b (p.one_each ∙ sym q.one_each) (λ k x y there at. one_leave (k + 1) x y (p.each k x there) (q.each k y at))

  -- ---- verdicts

  module _ (w : ℕ) where
    is_safe : (i : ℕ) (told : Verdict) → IsToldBy sys m w (N.Safe i) told → told ≡ V.Safe i (kept_from m.clauses (suc i))
    is_safe i (V.Safe level clauses) is = ap₂ V.Safe is.0 is.1
    is_safe i told is = absurd is

    is_unsafe : (run : World) (told : Verdict) → IsToldBy sys m w (N.Unsafe run) told → told ≡ V.Unsafe run
    is_unsafe run (V.Unsafe other) is = ap V.Unsafe is
    is_unsafe run told is = absurd is

    is_chain : (told : Verdict) → IsToldBy sys m w N.NoUniversal told → (links : List Link) × (told ≡ V.NoUniversal links) × AreTraced sys.sig m w links
    is_chain (V.NoUniversal links) is = (links, refl, is)
    is_chain told is = absurd is

    is_bounded : (told : Verdict) → IsToldBy sys m w N.Bounded told → (leaves : List Leave) × (told ≡ V.Bounded m.frontier (kept_from m.clauses 0) leaves) × AreLeavesOf sys m leaves
    is_bounded (V.Bounded last clauses leaves) is = (leaves, ap₂ (λ (n : ℕ) (ks : List Kept). V.Bounded n ks leaves) is.last_is is.clauses_are, is.leaves_are)
    is_bounded told is = absurd is

    is_spent : (told : Verdict) → IsToldBy sys m w N.Spent told → told ≡ V.Spent m.productive
    is_spent (V.Spent steps) is = ap V.Spent is
    is_spent told is = absurd is

    is_over : (kind : Kind) (excess : Excess) (told : Verdict) → IsToldBy sys m w (N.Over kind excess) told → told ≡ V.Over kind excess.weight
    is_over kind excess (V.Over what weight) is = ap₂ V.Over is.0 is.1
    is_over kind excess told is = absurd is

    one_told : (end : End) (u v : Verdict) → IsToldBy sys m w end u → IsToldBy sys m w end v → u ≡ v
    one_told (N.Safe i) u v a b = is_safe i u a ∙ sym (is_safe i v b)
    one_told (N.Unsafe run) u v a b = is_unsafe run u a ∙ sym (is_unsafe run v b)
    one_told N.NoUniversal u v a b =
        let x = is_chain u a in
        let y = is_chain v b in
        x.1 ∙ ap V.NoUniversal (one_trace sys.sig m w x.0 y.0 x.2 y.2) ∙ sym y.1
    one_told N.Bounded u v a b =
        let x = is_bounded u a in
        let y = is_bounded v b in
        x.1 ∙ ap (λ (ls : List Leave). V.Bounded m.frontier (kept_from m.clauses 0) ls) (one_bound x.0 y.0 x.2 y.2) ∙ sym y.1
    one_told N.Spent u v a b = is_spent u a ∙ sym (is_spent v b)
    one_told (N.Over kind excess) u v a b = is_over kind excess u a ∙ sym (is_over kind excess v b)

abbrev worker_in : Event → ℕ
worker_in (E.Close w end) = w
worker_in _ = 0

abbrev end_in : End → Event → End
end_in other (E.Close w end) = end
end_in other _ = other

-- what a legal history tells is one verdict
pub one_verdict : (sys : System) (limits : Limits) (history : List Event) (u v : Verdict) → IsSystem sys → Legal sys limits history → Told sys history u → Told sys history v → u ≡ v
one_verdict sys limits history u v good legal s t =
    let same = last_event t.before s.before (E.Close t.worker t.end) (E.Close s.worker s.end) (sym t.closes ∙ s.closes) in
    let worker : t.worker ≡ s.worker = ap worker_in same.1 in
    let end : t.end ≡ s.end = ap (end_in s.end) same.1 in
    let before = legal-first sys limits start s.before (E.Close s.worker s.end ∷ []) (subst (Legal sys limits) s.closes legal) in
    let tells = subst (λ (e : End). IsToldBy sys (replay s.before) s.worker e v) end (subst (λ (n : ℕ). IsToldBy sys (replay s.before) n t.end v) worker (subst (λ (h : List Event). IsToldBy sys (replay h) t.worker t.end v) same.0 t.tells)) in
    one_told sys limits good s.before before s.worker s.end u v s.tells tells

-- whatever the number of workers, a search has one report
pub one_report : (a b : Limits) (meant : Elaborated) (s t : Number) (x y : List ℕ) (left right : Option CoreView) → IsSystem meant.sys → AreAlike a b → Reports IsRun search_text a s meant x left → Reports IsRun search_text b t meant y right → (s ≡ t) × (x ≡ y)
one_report a b meant s t x y left right good alike p q =
    let same : q.core.history ≡ p.core.history = sym (alike_one meant.sys a b p.core.history q.core.history good alike p.ran.course q.ran.course) in
    let told : p.verdict ≡ q.verdict = one_verdict meant.sys a p.core.history p.verdict q.verdict good p.ran.course.legal p.told (subst (λ (h : List Event). Told meant.sys h q.verdict) same q.told) in (
      sym p.status_is ∙ ap status_of told ∙ q.status_is,
      p.text_is ∙ texts p.core q.core p.verdict q.verdict (sym same) told ∙ sym q.text_is,
    )
  where
    texts : (c d : CoreView) (u v : Verdict) → c.history ≡ d.history → u ≡ v → search_text meant c u ≡ search_text meant d v
    texts c d u v is other = rw (is, other) refl

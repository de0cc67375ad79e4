-- What is chosen from the obligations that aren't done.
use Rattle.std.proofs.Common.{◌≡◌, ℕ, zero, suc, ◌+◌, ◌-◌, ◌<◌, ◌≤◌, Bool, true, false, cond, not, ◌&&◌, ◌||◌, nat_eq, nat_lt, is_none, List, [], ◌∷◌, length, take, Option, None, Some, slice_get, refl, sym, ap, subst, ◌∙◌, ◌⊎◌, inl, inr, arith, true≢false}
use Rattle.std.specs.List.{count_by, list_any}
use Rattle.std.specs.Option.{option_map_or}
use Rattle.std.specs.Prelude.{MatchOption, option_map}
use Rattle.std.proofs.lemmas.Bool.{cases_lt, ltb-true, ltb-false}
use Rattle.std.proofs.lemmas.List.{take_all}
use Rattle.std.proofs.lemmas.List.Sums.{count_by-le-length}
use Rattle.up_machine.proofs.Lists.{first_true, second_true, false_is_true, none_is_some, some_injective, get-lt, two_places}
use Rattle.up_core.specs.declared.obligations.OpenObligation.{OpenObligation}
use Rattle.up_core.specs.declared.state.ObligationEntry.{ObligationEntry}
use Rattle.up_core.specs.declared.state.Progress.{Progress}
use Rattle.up_core.specs.declared.state.Progress.TheVariants as P
use Rattle.up_core.specs.Choice.{IsBest, IsBestPlace, better_of, is_done_seed, is_open_seed, is_ready, is_rooted}
use Rattle.up_core.specs.Places.{is_done, is_seed, is_unfinished, open_of, places_from}
use Rattle.up_core.specs.Steps.{before_of, entry_before, progress_of}
use Rattle.up_core.proofs.Placed.{one, count-cons, IsListed, NoneBefore, listed-place, none-before-more, none-listed, place-order, places-count, placed-count-more, places-empty}

rooted-open : (p : Progress) → is_rooted p ≡ true → not (is_done p) ≡ true
rooted-open (P.Rooted place) e = refl
rooted-open P.Ready e = refl
rooted-open P.Out e = refl
rooted-open P.Waiting e = refl
rooted-open P.Done e = e

pub rooted-unfinished : (k : ℕ) (e : ObligationEntry) → is_rooted e.progress ≡ true → is_unfinished e ≡ true
rooted-unfinished k e t = rooted-open e.progress t

ready-open : (p : Progress) → is_ready p ≡ true → not (is_done p) ≡ true
ready-open P.Ready e = refl
ready-open (P.Rooted place) e = refl
ready-open P.Out e = refl
ready-open P.Waiting e = refl
ready-open P.Done e = e

pub ready-unfinished : (k : ℕ) (e : ObligationEntry) → is_ready e.progress ≡ true → is_unfinished e ≡ true
ready-unfinished k e t = ready-open e.progress t

-- an obligation that comes before another isn't done
fresh-progress : (level found : ℕ) → is_done (progress_of level found) ≡ false
fresh-progress zero found = refl
fresh-progress (suc zero) found = refl
fresh-progress (suc (suc i)) found = refl

fresh-of : (k found : ℕ) (o : Option ObligationEntry) (e : ObligationEntry) → option_map (before_of k found) o ≡ Some e → is_done e.progress ≡ false
fresh-of k found None e is = none_is_some e is
fresh-of k found (Some x) e is = subst (λ (y : ObligationEntry). is_done y.progress ≡ false) (some_injective (before_of k found x) e is) (fresh-progress x.level found)

pub fresh-before : (es : List ObligationEntry) (place : Option ℕ) (found : ℕ) (e : ObligationEntry) → entry_before es place found ≡ Some e → is_done e.progress ≡ false
fresh-before es None found e is = none_is_some e is
fresh-before es (Some k) found e is = fresh-of k found (slice_get es k) e is

-- seeds, done and not
one-of : (a b : Bool) → one (a && b) + one (a && not b) ≡ one a
one-of true true = refl
one-of true false = refl
one-of false b = refl

pub seeds-split : (es : List ObligationEntry) → count_by is_done_seed es + count_by is_open_seed es ≡ count_by is_seed es
seeds-split [] = refl
seeds-split (e ∷ es) =
    let each = one-of (is_none e.parent) (is_done e.progress) in
    let rest = seeds-split es in
    let a = count-cons is_done_seed e es in
    let b = count-cons is_open_seed e es in
    let c = count-cons is_seed e es in
    omega (arith, each, rest, a, b, c)

pub done-few : (es : List ObligationEntry) → count_by is_done_seed es ≤ length es
done-few es = count_by-le-length is_done_seed es

both-ways : (a b : Bool) → one (a && b) ≡ one (b && a)
both-ways true true = refl
both-ways true false = refl
both-ways false true = refl
both-ways false false = refl

open-swap : (es : List ObligationEntry) → count_by (λ e. is_unfinished e && is_seed e) es ≡ count_by is_open_seed es
open-swap [] = refl
open-swap (e ∷ es) =
    let each = both-ways (is_unfinished e) (is_seed e) in
    let rest = open-swap es in
    let a = count-cons (λ e. is_unfinished e && is_seed e) e es in
    let b = count-cons is_open_seed e es in
    omega (arith, each, rest, a, b)

module _ (es : List ObligationEntry) where
  abbrev seed_at : ℕ → Bool
  seed_at k = option_map_or is_seed (slice_get es k) false

  abbrev pub HasCounted : ℕ → ℕ → Type 0
  HasCounted at count = count ≡ count_by seed_at (take at (open_of es))

  pub counted-more : (at count more k : ℕ) (e : ObligationEntry) → slice_get (open_of es) at ≡ Some k → slice_get es k ≡ Some e → more ≡ one (is_seed e) → HasCounted at count → HasCounted (at + 1) (count + more)
  counted-more at count more k e at_k there more_is is =
      let here : seed_at k ≡ is_seed e = ap (λ o. option_map_or is_seed o false) there in
      let step = placed-count-more seed_at (open_of es) at k at_k in
      let same = ap one here in
      omega (arith, step, same, more_is, is)

  pub counted-few : (at count : ℕ) → HasCounted at count → count ≤ at
  counted-few at count is = let few = count_by-le-length seed_at (take at (open_of es)) in let short = length-take-low at (open_of es) in omega (arith, is, few, short)
    where
      length-take-low : (n : ℕ) (ks : List ℕ) → length (take n ks) ≤ n
      length-take-low zero ks = omega arith
      length-take-low (suc n) [] = omega arith
      length-take-low (suc n) (k ∷ ks) = let rest = length-take-low n ks in omega (arith, rest)

  pub counted-end : (at count : ℕ) → length (open_of es) ≤ at → HasCounted at count → count ≡ count_by is_open_seed es
  counted-end at count le is =
      is ∙ ap (count_by seed_at) (take_all at (open_of es) le)
      ∙ places-count is_unfinished is_seed seed_at 0 es (λ k e there. let same : 0 + k ≡ k = omega arith in ap seed_at same ∙ ap (λ o. option_map_or is_seed o false) there)
      ∙ open-swap es

  pub has-open : (n : ℕ) → n ≡ length (open_of es) → nat_lt 0 n ≡ list_any is_unfinished es
  has-open n is = ap (nat_lt 0) is ∙ places-empty is_unfinished 0 es

  -- the first ready one of least level of those that are listed before a place
  pub record IsBestYet (at : ℕ) (b : OpenObligation) : Type 0 where
    pub place : ℕ
    pub before : place < at
    pub listed : slice_get (open_of es) place ≡ Some b.number
    pub there : slice_get es b.number ≡ Some b.entry
    pub ready : is_ready b.entry.progress ≡ true
    pub best : (p k : ℕ) (e : ObligationEntry) → p < at → slice_get (open_of es) p ≡ Some k → slice_get es k ≡ Some e → is_ready e.progress ≡ true →
        (b.entry.level < e.level) ⊎ (b.entry.level ≡ e.level) × (b.number ≤ k)

  abbrev IsReadyAt : ℕ → ObligationEntry → Type 0
  IsReadyAt k e = is_ready e.progress ≡ true

  abbrev pub IsBestOf : ℕ → Option OpenObligation → Type 0
  IsBestOf at best = MatchOption best (NoneBefore is_unfinished es (λ k e. is_ready e.progress ≡ true) ready-unfinished at) (IsBestYet at)

  module _ (at : ℕ) (next : OpenObligation) (listed : slice_get (open_of es) at ≡ Some next.number) (there : slice_get es next.number ≡ Some next.entry) where
    -- what is listed up to the next place stands before it or is the next
    at_next : (p k : ℕ) (e : ObligationEntry) (G : ObligationEntry → ℕ → Type 0) → p < at + 1 → slice_get (open_of es) p ≡ Some k → slice_get es k ≡ Some e →
        (p < at → G e k) → G next.entry next.number → G e k
    at_next p k e G lt e_p e_k earlier here = by (cases_lt p at)
      where
        by : (p < at) ⊎ (at ≤ p) → G e k
        by (inl less) = earlier less
        by (inr le) =
            let same : p ≡ at = omega (arith, lt, le) in
            let k_is = some_injective k next.number (sym e_p ∙ (ap (slice_get (open_of es)) same ∙ listed)) in
            let e_is = some_injective e next.entry (sym e_k ∙ (ap (slice_get es) k_is ∙ there)) in
            subst (λ n. G e n) (sym k_is) (subst (λ x. G x next.number) (sym e_is) here)

    abbrev IsNoWorse : OpenObligation → ObligationEntry → ℕ → Type 0
    IsNoWorse b e k = is_ready e.progress ≡ true → (b.entry.level < e.level) ⊎ (b.entry.level ≡ e.level) × (b.number ≤ k)

    new-best : is_ready next.entry.progress ≡ true → ((p k : ℕ) (e : ObligationEntry) → p < at → slice_get (open_of es) p ≡ Some k → slice_get es k ≡ Some e → is_ready e.progress ≡ true → next.entry.level < e.level) → IsBestYet (at + 1) next
    new-best ready less = record {
      place = at;
      before = omega arith;
      listed = listed;
      there = there;
      ready = ready;
      best = λ p k e lt e_p e_k. at_next p k e (IsNoWorse next) lt e_p e_k (λ lt r. inl (less p k e lt e_p e_k r)) (λ r. inr (refl, omega arith));
    }

    old-best : (b : OpenObligation) → IsBestYet at b → IsNoWorse b next.entry next.number → IsBestYet (at + 1) b
    old-best b h here = record {
      place = h.place;
      before = let lt = h.before in omega (arith, lt);
      listed = h.listed;
      there = h.there;
      ready = h.ready;
      best = λ p k e lt e_p e_k. at_next p k e (IsNoWorse b) lt e_p e_k (λ less r. h.best p k e less e_p e_k r) here;
    }

    by-none : (r : Bool) → is_ready next.entry.progress ≡ r → IsBestOf at None → IsBestOf (at + 1) (cond r (Some next) None)
    by-none true ready none = new-best ready (λ p k e lt e_p e_k r. absurd (none p k e lt e_p e_k r))
    by-none false ready none =
        none-before-more is_unfinished es (λ k e. is_ready e.progress ≡ true) ready-unfinished at next.number next.entry none listed there (λ t. true≢false (sym t ∙ ready))

    lower : (b : OpenObligation) → IsBestYet at b → next.entry.level < b.entry.level → (p k : ℕ) (e : ObligationEntry) → p < at → slice_get (open_of es) p ≡ Some k → slice_get es k ≡ Some e → is_ready e.progress ≡ true → next.entry.level < e.level
    lower b h less p k e lt e_p e_k r = by (h.best p k e lt e_p e_k r)
      where
        by : (b.entry.level < e.level) ⊎ (b.entry.level ≡ e.level) × (b.number ≤ k) → next.entry.level < e.level
        by (inl x) = omega (arith, less, x)
        by (inr x) = let same = x.0 in omega (arith, less, same)

    not-lower : (b : OpenObligation) → IsBestYet at b → b.entry.level ≤ next.entry.level → IsNoWorse b next.entry next.number
    not-lower b h le r = by (cases_lt b.entry.level next.entry.level)
      where
        by : (b.entry.level < next.entry.level) ⊎ (next.entry.level ≤ b.entry.level) → (b.entry.level < next.entry.level) ⊎ (b.entry.level ≡ next.entry.level) × (b.number ≤ next.number)
        by (inl x) = inl x
        by (inr x) = let o = place-order is_unfinished 0 es h.place at b.number next.number h.before h.listed listed in inr (omega (arith, le, x), omega (arith, o))

    by-some : (b : OpenObligation) (r l : Bool) → is_ready next.entry.progress ≡ r → nat_lt next.entry.level b.entry.level ≡ l → IsBestYet at b → IsBestOf (at + 1) (cond (r && l) (Some next) (Some b))
    by-some b true true ready less h = new-best ready (lower b h (ltb-true next.entry.level b.entry.level less))
    by-some b true false ready less h = old-best b h (not-lower b h (ltb-false next.entry.level b.entry.level less))
    by-some b false l ready less h = old-best b h (λ t. absurd (true≢false (sym t ∙ ready)))

    pub best-more : (best : Option OpenObligation) → IsBestOf at best → IsBestOf (at + 1) (better_of best next)
    best-more None h = by-none (is_ready next.entry.progress) refl h
    best-more (Some b) h = by-some b (is_ready next.entry.progress) (nat_lt next.entry.level b.entry.level) refl refl h

  pub best-none : (at : ℕ) → length (open_of es) ≤ at → IsBestOf at None → IsBestPlace es (length es) None
  best-none at le none j e lt there r = none-listed is_unfinished es (λ k e. is_ready e.progress ≡ true) ready-unfinished at none le j e there r

  pub best-some : (at : ℕ) (b : OpenObligation) → length (open_of es) ≤ at → IsBestYet at b → IsBest es (length es) b.number
  best-some at b le h = record {
    entry = b.entry;
    there = h.there;
    ready = h.ready;
    best = λ j e lt there r.
        let l = listed-place is_unfinished es j e there (ready-unfinished j e r) in
        let within = get-lt (open_of es) l.at j l.there in
        h.best l.at j e (omega (arith, within, le)) l.there there r;
  }

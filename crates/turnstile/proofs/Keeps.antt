-- Each step keeps the rule of the table.
use Rattle.std.proofs.Common.{◌≡◌, ◌≢◌, ◌⊎◌, ℕ, zero, suc, ◌+◌, ◌%◌, ◌^◌, ◌<◌, eqb, Bool, true, false, List, [], ◌∷◌, ◌++◌, length, set, get_or, sym, refl, ap, ◌∙◌, subst, ⊎_elim, inl, inr, arith, Option, Some, None, true≢false}
use Rattle.std.proofs.lemmas.List.{append-nil}
use Rattle.std.proofs.Math.Nat.{mod-eq_of_lt}
use Rattle.std.specs.List.{All}
use Rattle.std.proofs.lemmas.List.Elements.{All-nil, All-cons, All-head, All-tail}
use mathlib.Core.Option.{none, some, some-ne-none, some-injective}
use mathlib.Core.Logic.{dite}
use native.Mathlib.Decide.{ℕ_discrete, dec_le}
use lib.ListN.{get_elem?}
use lib.Seq.{set-get_or}
use prog.Atomic.{either}
use Rattle.atomic_table.specs.Table.{State, Me, Act, Step, Splits, Joins, Final, Seen, opening, step, keeps, takes, gives, stepped, Allows, Valid, carried_after}
use Rattle.atomic_table.proofs.Lists.{at_set, exchanged, set_again, set_here, set_else, at_longer}
use Rattle.turnstile.specs.declared.rule.View.{View}
use Rattle.turnstile.specs.declared.rule.Part.{Part}
use Rattle.turnstile.specs.History.{entries_of, Continues, AddsAtMostOne, longer}
use Rattle.turnstile.specs.Rule.{fresh, Knows, Kept}
use Rattle.turnstile.specs.Plays.{entered, left, below, above, joined, part_of, spent, Finds, IsJoined, won, counted, given, learned}
use Rattle.turnstile.proofs.Numbers.{moved, moved_in, moved_out, outside_of, touched, first_of}
use Rattle.turnstile.proofs.Histories.{adds, longest, goes_on_both, IsPrefixOf-refl, IsPrefixOf-trans}

-- a place that has an element is below the length
in_range : {X : Type 0} (xs : List X) (i : ℕ) (x : X) → get_elem? xs i ≡ some x → i < length xs
in_range [] i x e = absurd (some-ne-none x (sym e))
in_range (y ∷ ys) zero x e = omega arith
in_range (y ∷ ys) (suc i) x e = let h = in_range ys i x e in omega arith

-- an element of a list with one more is of the list, or the last
at_end : {A : Type 0} (l : List A) (a : A) (j : ℕ) (b : A) → get_elem? (l ++ a ∷ []) j ≡ some b → (get_elem? l j ≡ some b) ⊎ ((j ≡ length l) × (a ≡ b))
at_end [] a zero b e = inr (refl, some-injective a b e)
at_end [] a (suc j) b e = absurd (some-ne-none b (sym e))
at_end (x ∷ xs) a zero b e = inl e
at_end (x ∷ xs) a (suc j) b e = ⊎_elim inl (λ t. inr (ap suc t.0, t.1)) (at_end xs a j b e)

module _ {S B E : Type 0} (base : S → B) (history : S → List E) (number : E → ℕ) (callers : ℕ) where
  -- what is in an option, else d
  abbrev or_else : B → Option B → B
  or_else d (Some b) = b
  or_else d None = d

  -- the same for a value
  abbrev inner : S → Option S → S
  inner d (Some x) = x
  inner d None = d

  -- the value in the slot that was taken last, else d
  abbrev value_or : S → List (ℕ × Option S) → S
  value_or d ((k, Some x) ∷ xs) = x
  value_or d xs = d

  -- the table
  abbrev St : Type 0
  St = State (Option S) (View B E)

  -- a pass's view, and the slots that it holds
  abbrev M : Type 0
  M = Me (Option S) (View B E)

  -- the rule of this turnstile
  abbrev Rule : St → Type 0
  Rule = Kept base history number callers

  -- a joined pass, from which this history goes on
  abbrev Begun : List E → Part E → Type 0
  Begun log p = Continues number p.from p.to p.seen log

  no_parts : (log : List E) → All (Begun log) []
  no_parts log = All-nil (Begun log)

  -- the same of a history that is equal
  at_home : {from to : ℕ} {seen log log' : List E} → Continues number from to seen log → log' ≡ log → Continues number from to seen log'
  at_home {from} {to} {seen} c e = subst (Continues number from to seen) (sym e) c

  -- what holds of each seat, after a step of one
  seats : (K : ℕ → View B E → Type 0) (vs : List (View B E)) (me : ℕ) (w : View B E) → K me w → ((j : ℕ) (d : View B E) → j ≢ me → get_elem? vs j ≡ some d → K j d)
      → (j : ℕ) (d : View B E) → get_elem? (set vs me w) j ≡ some d → K j d
  seats K vs me w mine others j d e = ⊎_elim (λ (t : (j ≡ me) × (w ≡ d)). subst (λ (x : ℕ × View B E). K x.0 x.1) (λ i. (sym t.0 i, t.1 i)) mine)
      (λ (t : (j ≢ me) × (get_elem? vs j ≡ some d)). others j d t.0 t.1) (at_set vs me j w d e)

  -- a pass isn't outside and inside at once
  clash : {X : Type 0} (b : Bool) → b ≡ false → b ≡ true → X
  clash b f t = absurd (true≢false (sym t ∙ f))

  -- a pass that isn't inside is outside
  is_out : (b : Bool) → (b ≡ true → b ≡ false) → b ≡ false
  is_out true f = f refl
  is_out false f = refl

  -- while a pass is inside the turn is taken
  taken : (s : St) (r : Rule s) (id : ℕ) (v : View B E) → get_elem? s.views id ≡ some v → v.inside ≡ true → r.turn ≡ 1
  taken s r id v at is = dite (ℕ_discrete r.turn 0) (λ z. clash v.inside (r.free z id v at) is) (λ nz. let b = r.bit in omega arith)

  -- winning the turn and taking the slot keeps the rule
  hit : (slots id : ℕ) (v : View B E) (s : St) (r : Rule s) → v.from < v.to → get_elem? s.views id ≡ some v → r.turn ≡ 0
      → (w : View B E) × (a : Act (Option S)) × Valid s.homes [] a × Rule (stepped s 0 1 id [] w a) × won base history number (step slots 0 0 1 none) (v, []) 0 (w, carried_after [] a)
  hit slots id v s r live at z = let h = r.home z in let k = r.each id v at in (
    entered v (history h.0),
    takes 0 (Some h.0),
    ap (λ hs. get_elem? hs 0) h.1,
    record {
      turn = 1;
      log = r.log;
      first = r.first;
      owner = r.owner;
      holder = id;
      words = ap (λ ws. set ws 0 1) r.words;
      bit = omega arith;
      home = λ e. absurd (omega arith);
      out = λ _. ap (λ hs. set hs 0 none) h.1;
      free = λ e. absurd (omega arith);
      busy = λ _. (entered v (history h.0), set_here s.views id (entered v (history h.0)) (in_range s.views id v at), refl);
      carried = r.carried;
      each = seats (Knows callers number r.first r.log r.owner id) s.views id (entered v (history h.0)) record {
        same = k.same;
        within = k.within;
        goes_on = record {
          begins = ([], sym h.2 ∙ sym (append-nil (history h.0)));
          own = λ m _ _. ap (entries_of number m) (sym h.2);
        };
        parts = no_parts (history h.0);
        owns = k.owns;
        in_turn = λ _. (refl, live, h.2);
      } (λ j d other there. let q = r.each j d there in record {
        same = q.same;
        within = q.within;
        goes_on = q.goes_on;
        parts = q.parts;
        owns = q.owns;
        in_turn = λ is. clash d.inside (r.free z j d there) is;
      });
    },
    (
      (λ _. (
        h.0,
        refl,
        refl,
        record {
          same = k.same live ∙ ap Some (sym h.3);
          goes_on = at_home k.goes_on h.2;
        },
      )),
      λ ne. absurd (ne refl),
    ),
  )

  -- trying to win the turn keeps the rule, whatever it finds
  pub wins : (slots id : ℕ) (v : View B E) → v.from < v.to
      → Allows Rule slots id (v, []) 0 (λ n. either (eqb n 0) 1 n) (won base history number (step slots 0 0 1 none) (v, []))
  wins slots id v live s r deep at small = let n : ℕ = get_or s.words 0 0 in let here : n ≡ r.turn = ap (λ ws. get_or ws 0 0) r.words in
      exchanged n 0 1 (λ x. (w : View B E) × (a : Act (Option S)) × Valid s.homes [] a × Rule (stepped s 0 x id [] w a) × won base history number (step slots 0 0 1 none) (v, []) n (w, carried_after [] a))
      (λ z. subst (λ (m : ℕ). (w : View B E) × (a : Act (Option S)) × Valid s.homes [] a × Rule (stepped s 0 1 id [] w a) × won base history number (step slots 0 0 1 none) (v, []) m (w, carried_after [] a)) (sym z) (hit slots id v s r live at (sym here ∙ z)))
      (λ ne. (v, keeps, tt, subst (λ (t : List ℕ × List (View B E)). Rule record { words = t.0; homes = s.homes; views = t.1 }) (λ i. (sym (set-get_or s.words 0 0) i, sym (set_again s.views id v at) i)) r, ((λ z. absurd (ne z)), λ _. refl)))

  -- counting keeps the rule
  pub counts : (slots id : ℕ) (v : View B E) (x : S) (k : ℕ) → v.inside ≡ true → v.base ≡ Some (base x) → AddsAtMostOne number v.from v.to v.seen (history x)
      → length v.seen + k ≡ length (history x) → length (history x) < 2 ^ 64
      → Allows Rule slots id (v, (0, Some x) ∷ []) 1 (λ n. (n + k) % 2 ^ 64) (counted history (step slots 1 k 0 none) (v, (0, Some x) ∷ []))
  counts slots id v x k is same goes more small s r deep at fits =
      let q = r.each id v at in let mine = q.in_turn is in let one = taken s r id v at is in
      let add = adds number v.from v.to v.seen (history x) goes in
      let here : get_or s.words 1 0 ≡ length v.seen = ap (λ ws. get_or ws 1 0) r.words ∙ ap length (sym mine.2) in
      let sum : (get_or s.words 1 0 + k) % 2 ^ 64 ≡ length (history x) = ap (λ (z : ℕ). (z + k) % 2 ^ 64) here ∙ (ap (λ (z : ℕ). z % 2 ^ 64) more ∙ mod-eq_of_lt small) in (
        entered v (history x),
        keeps,
        tt,
        record {
          turn = r.turn;
          log = history x;
          first = r.first;
          owner = r.owner;
          holder = r.holder;
          words = ap (λ ws. set ws 1 ((get_or s.words 1 0 + k) % 2 ^ 64)) r.words ∙ ap (λ (z : ℕ). r.turn ∷ z ∷ []) sum;
          bit = r.bit;
          home = λ z. absurd (omega arith);
          out = r.out;
          free = λ z. absurd (omega arith);
          busy = λ _. (entered v (history x), subst (λ (m : ℕ). get_elem? (set s.views id (entered v (history x))) m ≡ some (entered v (history x))) mine.0 (set_here s.views id (entered v (history x)) (in_range s.views id v at)), refl);
          carried = add.carried callers q.within (subst (All (λ e. number e < callers)) (sym mine.2) r.carried);
          each = seats (Knows callers number r.first (history x) r.owner r.holder) s.views id (entered v (history x)) record {
            same = q.same;
            within = q.within;
            goes_on = record {
              begins = IsPrefixOf-refl (history x);
              own = λ m _ _. refl;
            };
            parts = no_parts (history x);
            owns = q.owns;
            in_turn = λ _. (mine.0, mine.1, refl);
          } (λ j d other there. let p = r.each j d there in record {
            same = p.same;
            within = p.within;
            goes_on = record {
              begins = IsPrefixOf-trans d.seen r.log (history x) p.goes_on.begins (add.more, add.is ∙ ap (λ ys. ys ++ add.more) mine.2);
              own = λ m a b. add.other m (λ n c e is'. other (sym (p.owns m a b) ∙ (ap r.owner (sym is') ∙ q.owns n c e))) ∙ (ap (entries_of number m) mine.2 ∙ p.goes_on.own m a b);
            };
            parts = p.parts;
            owns = p.owns;
            in_turn = λ i. absurd (other ((p.in_turn i).0 ∙ sym mine.0));
          });
        },
        λ y e. (refl, ap (λ (z : S). entered v (history z)) (same_value x y e)),
      )
    where
      same_value : (x y : S) → ◌≡◌ {A = List (ℕ × Option S)} ((0, Some x) ∷ []) ((0, Some y) ∷ []) → x ≡ y
      same_value x y e = ap (value_or x) e

  -- giving the turn back keeps the rule
  pub gives_back : (slots id : ℕ) (v : View B E) (x : S) → v.inside ≡ true → v.base ≡ Some (base x) → v.seen ≡ history x
      → Allows Rule slots id (v, (0, Some x) ∷ []) 0 (λ _. 0) (λ _. given (step slots 0 0 0 none) (v, (0, Some x) ∷ []) 0)
  gives_back slots id v x is same seen s r deep at fits =
      let q = r.each id v at in let mine = q.in_turn is in let one = taken s r id v at is in (
        left v,
        gives,
        tt,
        record {
          turn = 0;
          log = r.log;
          first = r.first;
          owner = r.owner;
          holder = r.holder;
          words = ap (λ ws. set ws 0 0) r.words;
          bit = omega arith;
          home = λ _. (x, ap (λ hs. set hs 0 (some (Some x))) (r.out one), sym seen ∙ mine.2, ap (or_else (base x)) (sym same ∙ q.same mine.1));
          out = λ z. absurd (omega arith);
          free = λ _. seats (λ j w. w.inside ≡ false) s.views id (left v) refl (λ j d other there. is_out d.inside (λ i. absurd (other (((r.each j d there).in_turn i).0 ∙ sym mine.0))));
          busy = λ z. absurd (omega arith);
          carried = r.carried;
          each = seats (Knows callers number r.first r.log r.owner r.holder) s.views id (left v) record {
            same = q.same;
            within = q.within;
            goes_on = q.goes_on;
            parts = q.parts;
            owns = q.owns;
            in_turn = λ i. clash false refl i;
          } (λ j d other there. r.each j d there);
        },
        (refl, refl),
      )

  -- a load that changes nothing keeps the rule, and tells what a joined pass knows
  pub learns : (slots id : ℕ) (m : M) → Allows Rule slots id m 0 (λ n. n) (learned number (step slots 0 0 0 none) m)
  learns slots id m s r deep at small = (
    m.0,
    keeps,
    tt,
    subst (λ (t : List ℕ × List (View B E)). Rule record { words = t.0; homes = s.homes; views = t.1 }) (λ i. (sym (set-get_or s.words 0 0) i, sym (set_again s.views id m.0 at) i)) r,
    (refl, (r.each id m.0 at).parts),
  )

  -- the same three for a seat whose view and slots are known by equations
  pub wins_at : (slots id : ℕ) (m : M) → m.0.from < m.0.to → m.1 ≡ [] → Allows Rule slots id m 0 (λ n. either (eqb n 0) 1 n) (won base history number (step slots 0 0 1 none) m)
  wins_at slots id m live e = subst (λ (cs : List (ℕ × Option S)). Allows Rule slots id (m.0, cs) 0 (λ n. either (eqb n 0) 1 n) (won base history number (step slots 0 0 1 none) (m.0, cs))) (sym e) (wins slots id m.0 live)

  pub counts_at : (slots id : ℕ) (m : M) (v : View B E) (x : S) (k : ℕ) → m ≡ (v, (0, Some x) ∷ []) → v.inside ≡ true → v.base ≡ Some (base x) → AddsAtMostOne number v.from v.to v.seen (history x)
      → length v.seen + k ≡ length (history x) → length (history x) < 2 ^ 64
      → Allows Rule slots id m 1 (λ n. (n + k) % 2 ^ 64) (counted history (step slots 1 k 0 none) m)
  counts_at slots id m v x k e is same goes more small = subst (λ (m : M). Allows Rule slots id m 1 (λ n. (n + k) % 2 ^ 64) (counted history (step slots 1 k 0 none) m)) (sym e) (counts slots id v x k is same goes more small)

  pub gives_at : (slots id : ℕ) (m : M) (v : View B E) (x : S) → m ≡ (v, (0, Some x) ∷ []) → v.inside ≡ true → v.base ≡ Some (base x) → v.seen ≡ history x
      → Allows Rule slots id m 0 (λ _. 0) (λ _. given (step slots 0 0 0 none) m 0)
  gives_at slots id m v x e is same seen = subst (λ (m : M). Allows Rule slots id m 0 (λ _. 0) (λ _. given (step slots 0 0 0 none) m 0)) (sym e) (gives_back slots id v x is same seen)

  -- what holds of each seat, where a new one comes
  arrived : (K : ℕ → View B E → Type 0) (vs : List (View B E)) (w : View B E) → K (length vs) w → ((j : ℕ) (d : View B E) → get_elem? vs j ≡ some d → K j d)
      → (j : ℕ) (d : View B E) → get_elem? (vs ++ w ∷ []) j ≡ some d → K j d
  arrived K vs w last others j d e = ⊎_elim (others j d) (λ (t : (j ≡ length vs) × (w ≡ d)). subst (λ (x : ℕ × View B E). K x.0 x.1) (λ i. (sym t.0 i, t.1 i)) last) (at_end vs w j d e)

  -- splitting keeps the rule
  pub splits : (id : ℕ) (v : View B E) (at : ℕ) → v.inside ≡ false → v.from < at → at < v.to → Splits Rule id v (below at v) (above at v)
  splits id v at out lo hi s r there =
      let q = r.each id v there in
      let n : ℕ = length (set s.views id (below at v)) in
      let owner : ℕ → ℕ = moved r.owner at v.to n in
      let K : ℕ → View B E → Type 0 = Knows callers number r.first r.log owner r.holder in
      record {
        turn = r.turn;
        log = r.log;
        first = r.first;
        owner = owner;
        holder = r.holder;
        words = r.words;
        bit = r.bit;
        home = r.home;
        out = r.out;
        free = λ z. arrived (λ j w. w.inside ≡ false) (set s.views id (below at v)) (above at v) out (seats (λ j w. w.inside ≡ false) s.views id (below at v) out (λ j d _ e. r.free z j d e));
        busy = λ one. let b = r.busy one in let ne : r.holder ≢ id = λ e. clash v.inside out (ap (λ (w : View B E). w.inside) (some-injective v b.0 (sym there ∙ (ap (get_elem? s.views) (sym e) ∙ b.1))) ∙ b.2) in
            (b.0, at_longer (set s.views id (below at v)) (above at v ∷ []) r.holder b.0 (set_else s.views id r.holder (below at v) ne ∙ b.1), b.2);
        carried = r.carried;
        each = arrived K (set s.views id (below at v)) (above at v) record {
          same = λ l. q.same (omega arith);
          within = q.within;
          goes_on = record { begins = q.goes_on.begins; own = λ k a b. q.goes_on.own k (omega arith) b };
          parts = q.parts;
          owns = λ k a b. moved_in r.owner at v.to n k a b;
          in_turn = λ i. clash v.inside out i;
        } (seats K s.views id (below at v) record {
          same = λ l. q.same (omega arith);
          within = let a = q.within in omega arith;
          goes_on = record { begins = q.goes_on.begins; own = λ k a b. q.goes_on.own k a (omega arith) };
          parts = q.parts;
          owns = λ k a b. moved_out r.owner at v.to n k (inl b) ∙ q.owns k a (omega arith);
          in_turn = λ i. clash v.inside out i;
        } (λ j d other e. let p = r.each j d e in record {
          same = p.same;
          within = p.within;
          goes_on = p.goes_on;
          parts = p.parts;
          owns = λ k a b. moved_out r.owner at v.to n k (outside_of at v.to k (λ c e'. other (sym (p.owns k a b) ∙ q.owns k (omega arith) e'))) ∙ p.owns k a b;
          in_turn = p.in_turn;
        }));
      }

  -- joining keeps the rule
  pub joins : (id : ℕ) (v : View B E) (other : ℕ) (w : View B E) → v.inside ≡ false → w.inside ≡ false → v.from < v.to → w.from < w.to → (v.to ≡ w.from) ⊎ (w.to ≡ v.from)
      → Joins Rule id v other w (joined v w) spent
  joins id v other w out out' live live' touch s r at apart' at' =
      let there : get_elem? s.views other ≡ some w = sym (set_else s.views id other (joined v w) apart') ∙ at' in
      let q = r.each id v at in let q' = r.each other w there in
      let owner : ℕ → ℕ = moved r.owner w.from w.to id in
      let K : ℕ → View B E → Type 0 = Knows callers number r.first r.log owner r.holder in
      let vs : List (View B E) = set s.views id (joined v w) in
      let up = longest number r.log v.seen w.seen q.goes_on.begins q'.goes_on.begins in
      let both = goes_on_both number v.from v.to w.from w.to r.log v.seen w.seen q.goes_on q'.goes_on in
      record {
        turn = r.turn;
        log = r.log;
        first = r.first;
        owner = owner;
        holder = r.holder;
        words = r.words;
        bit = r.bit;
        home = r.home;
        out = r.out;
        free = λ z. seats (λ j d. d.inside ≡ false) vs other spent refl (λ j d _. seats (λ j d. d.inside ≡ false) s.views id (joined v w) refl (λ j d _ e. r.free z j d e) j d);
        busy = λ one. let b = r.busy one in
            let ne : r.holder ≢ id = λ e. clash v.inside out (ap (λ (x : View B E). x.inside) (some-injective v b.0 (sym at ∙ (ap (get_elem? s.views) (sym e) ∙ b.1))) ∙ b.2) in
            let ne' : r.holder ≢ other = λ e. clash w.inside out' (ap (λ (x : View B E). x.inside) (some-injective w b.0 (sym there ∙ (ap (get_elem? s.views) (sym e) ∙ b.1))) ∙ b.2) in
            (b.0, set_else vs other r.holder spent ne' ∙ (set_else s.views id r.holder (joined v w) ne ∙ b.1), b.2);
        carried = r.carried;
        each = seats K vs other spent record {
          same = λ l. absurd (omega arith);
          within = omega arith;
          goes_on = record { begins = (r.log, refl); own = λ k a b. absurd (omega arith) };
          parts = no_parts [];
          owns = λ k a b. absurd (omega arith);
          in_turn = λ i. clash false refl i;
        } (λ j d ne e. seats (λ j d. j ≢ other → K j d) s.views id (joined v w) (λ _. record {
          same = λ _. q.same live;
          within = let a = q.within in let b = q'.within in omega arith;
          parts = All-cons (Begun (longer v.seen w.seen)) (part_of v) (part_of w ∷ []) both.0 (All-cons (Begun (longer v.seen w.seen)) (part_of w) [] both.1 (All-nil (Begun (longer v.seen w.seen))));
          owns = λ k a b. dite (dec_le w.from k) (λ c. dite (dec_le w.to k) (λ d. moved_out r.owner w.from w.to id k (inr d) ∙ q.owns k (touched v.from v.to w.from w.to k live' touch a b d) (omega arith)) (λ d. moved_in r.owner w.from w.to id k c (omega arith))) (λ c. moved_out r.owner w.from w.to id k (inl (omega arith)) ∙ q.owns k (omega arith) (first_of v.to v.from w.from w.to k touch live' a c));
          goes_on = record {
            begins = up.begins;
            own = λ k a b. dite (dec_le w.from k) (λ c. dite (dec_le w.to k) (λ d. up.keeps_first k (q.goes_on.own k (touched v.from v.to w.from w.to k live' touch a b d) (omega arith))) (λ d. up.keeps_second k (q'.goes_on.own k c (omega arith)))) (λ c. up.keeps_first k (q.goes_on.own k (omega arith) (first_of v.to v.from w.from w.to k touch live' a c)));
          };
          in_turn = λ i. clash false refl i;
        }) (λ j d ne e apart. let p = r.each j d e in record {
          same = p.same;
          within = p.within;
          goes_on = p.goes_on;
          parts = p.parts;
          owns = λ k a b. moved_out r.owner w.from w.to id k (outside_of w.from w.to k (λ c e'. apart (sym (p.owns k a b) ∙ q'.owns k c e'))) ∙ p.owns k a b;
          in_turn = p.in_turn;
        }) j d e ne);
      }

  -- what a joined pass learns: its history goes on from those of both
  pub learns_both : (st : Step (Option S)) (m m' : M) (n : ℕ) (v w : View B E) (cs : List (ℕ × Option S)) → m ≡ (joined v w, cs) → learned number st m n m' → IsJoined number v w m'.0.seen
  learns_both st m m' n v w cs e t = subst (λ (x : M). IsJoined number v w x.0.seen) (sym (t.0 ∙ e)) (both (subst (λ (x : M). All (Begun x.0.seen) x.0.parts) e t.1))
    where
      both : All (Begun (longer v.seen w.seen)) (part_of v ∷ part_of w ∷ []) → IsJoined number v w (longer v.seen w.seen)
      both h = let P : Part E → Type 0 = Begun (longer v.seen w.seen) in (All-head P (part_of v) (part_of w ∷ []) h, All-head P (part_of w) [] (All-tail P (part_of v) (part_of w ∷ []) h))

  -- what holds of the one seat
  alone : (K : ℕ → View B E → Type 0) (w : View B E) → K 0 w → (j : ℕ) (d : View B E) → get_elem? (w ∷ []) j ≡ some d → K j d
  alone K w k = arrived K [] w k (λ j d e. absurd (some-ne-none d (sym e)))

  -- the rule holds at the start
  pub opens : (x : S) → history x ≡ [] → 0 < callers → Rule (opening (0 ∷ 0 ∷ []) (Some x ∷ []) (fresh (Some (base x)) 0 callers))
  opens x empty some' = record {
    turn = 0;
    log = [];
    first = base x;
    owner = λ _. 0;
    holder = 0;
    words = refl;
    bit = omega arith;
    home = λ _. (x, refl, empty, refl);
    out = λ e. absurd (omega arith);
    free = λ _. alone (λ j w. w.inside ≡ false) (fresh (Some (base x)) 0 callers) refl;
    busy = λ e. absurd (omega arith);
    carried = All-nil (λ e. number e < callers);
    each = alone (Knows callers number (base x) [] (λ _. 0) 0) (fresh (Some (base x)) 0 callers) record {
      same = λ _. refl;
      within = omega arith;
      goes_on = record { begins = ([], refl); own = λ _ _ _. refl };
      parts = no_parts [];
      owns = λ _ _ _. refl;
      in_turn = λ i. clash false refl i;
    };
  }

  -- what is left at the end, of a pass that has all numbers
  pub closes : (id : ℕ) (v : View B E) (ws : List ℕ) (xs : List (Option S)) → Final (Seen Rule id v) ws xs → v.inside ≡ false → v.from < v.to → v.from ≡ 0 → v.to ≡ callers
      → (y : Option S) → get_elem? xs 0 ≡ some y → (x : S) × (y ≡ Some x) × Finds base history number v x × All (λ e. number e < callers) (history x)
  closes id v ws xs f out live low high y here =
      let s = f.0 in let r = f.1.0 in let at = f.1.1 in let q = r.each id v at in
      let z : r.turn ≡ 0 = dite (ℕ_discrete r.turn 0) (λ e. e) (λ nz. let bit = r.bit in let b = r.busy (omega arith) in let p = r.each r.holder b.0 b.1 in let inner = p.in_turn b.2 in let top = p.within in
      let same : r.holder ≡ id = sym (p.owns b.0.from (omega arith) inner.1) ∙ q.owns b.0.from (omega arith) (omega arith) in
      clash v.inside out (ap (λ (w : View B E). w.inside) (some-injective v b.0 (sym at ∙ (ap (get_elem? s.views) (sym same) ∙ b.1))) ∙ b.2)) in
      let h = r.home z in
      let got : y ≡ Some h.0 = some-injective y (Some h.0) (sym here ∙ f.4 0 (Some h.0) (ap (λ hs. get_elem? hs 0) h.1)) in (
        h.0,
        got,
        record {
          same = q.same live ∙ ap Some (sym h.3);
          goes_on = at_home q.goes_on h.2;
        },
        subst (All (λ e. number e < callers)) (sym h.2) r.carried,
      )

  -- the same for a value that the slot is known to have
  pub closes_with : (id : ℕ) (v : View B E) (ws : List ℕ) (xs : List (Option S)) → Final (Seen Rule id v) ws xs → v.inside ≡ false → v.from < v.to → v.from ≡ 0 → v.to ≡ callers
      → (y : Option S) → get_elem? xs 0 ≡ some y → (x : S) → y ≡ Some x → Finds base history number v x × All (λ e. number e < callers) (history x)
  closes_with id v ws xs f out live low high y here x e =
      let t = closes id v ws xs f out live low high y here in
      subst (λ (z : S). Finds base history number v z × All (λ e. number e < callers) (history z)) (ap (inner x) (sym t.1 ∙ e)) (t.2, t.3)

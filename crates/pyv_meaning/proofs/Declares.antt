-- Declarations have no fault exactly where all is declared well.
use Rattle.std.proofs.Common.{◌≡◌, ℕ, zero, suc, ◌+◌, ◌≤◌, ◌++◌, true, false, List, [], ◌∷◌, length, map, refl, sym, ap, ◌∙◌, subst, arith, append_assoc, append-nil, length-append}
use Rattle.std.specs.Prelude.{Option, Some, None, IfSome, option_to_list}
use Rattle.std.specs.List.{AllByRecursion}
use Rattle.std.proofs.lemmas.List.{length-map}
use Rattle.fo_core.specs.Named.{AreNames}
use Rattle.pyv_meaning.specs.Closing.{names_word}
use Rattle.pyv_meaning.specs.Declaring.{words, symbol_names, sig_in, IsSort, IsDeclared, AreDeclared, is_name, fresh_fault, sorts_fault, past, item_fault, declared_fault}
use Rattle.pyv_meaning.specs.Items.{Item, SymbolItem, Body, sort_of, symbol_of, transition_of, step_of, joined_by, sorts, symbols, transitions, steps}
use Rattle.pyv_meaning.specs.Items as item
use Rattle.pyv_meaning.specs.NameFaults.{is_declared}
use Rattle.pyv_meaning.specs.Tree.{Name, Binder, bound_names}
use Rattle.pyv_meaning.proofs.Basics.{both_fine, then_none, unless_fine, unless_none, not_true, below, is_below}
use Rattle.pyv_meaning.proofs.Complete.{bound_length}
use Rattle.pyv_meaning.proofs.Words.{AreNew, new_repeat, new_names, repeat_new, distinct_words, words_distinct, all_names, names_all}

-- ---- lists of items

pub joined_both : {A : Type 0} (f : Item → List A) (xs ys : List Item) → joined_by f (xs ++ ys) ≡ joined_by f xs ++ joined_by f ys
joined_both {A = A} f [] ys = refl
joined_both {A = A} f (x ∷ xs) ys = ap (λ (t : List A). f x ++ t) (joined_both f xs ys) ∙ sym (append_assoc (f x) (joined_by f xs) (joined_by f ys))

joined_last : {A : Type 0} (f : Item → List A) (xs : List Item) (x : Item) → joined_by f (xs ++ x ∷ []) ≡ joined_by f xs ++ f x
joined_last {A = A} f xs x = joined_both f xs (x ∷ []) ∙ ap (λ (t : List A). joined_by f xs ++ t) (append-nil (f x))

symbol_name : SymbolItem → Name
symbol_name s = s.name

symbols_last : (xs : List Item) (s : SymbolItem) → symbol_names (xs ++ item.Symbol s ∷ []) ≡ symbol_names xs ++ s.name ∷ []
symbols_last xs s = ap (map (λ (s : SymbolItem). s.name)) (joined_last symbol_of xs (item.Symbol s)) ∙ pushed (symbols xs) s
  where
    pushed : (ss : List SymbolItem) (s : SymbolItem) → map (λ (s : SymbolItem). s.name) (ss ++ s ∷ []) ≡ map (λ (s : SymbolItem). s.name) ss ++ s.name ∷ []
    pushed [] s = refl
    pushed (t ∷ ss) s = ap (λ (r : List Name). t.name ∷ r) (pushed ss s)

same_last : (f : Item → List Name) (xs : List Item) (x : Item) → f x ≡ [] → joined_by f (xs ++ x ∷ []) ≡ joined_by f xs
same_last f xs x e = joined_last f xs x ∙ ap (λ (t : List Name). joined_by f xs ++ t) e ∙ append-nil (joined_by f xs)

same_symbols : (xs : List Item) (x : Item) → symbol_of x ≡ [] → symbols (xs ++ x ∷ []) ≡ symbols xs
same_symbols xs x e = joined_last symbol_of xs x ∙ ap (λ (t : List SymbolItem). symbols xs ++ t) e ∙ append-nil (symbols xs)

-- ---- where nothing is at fault

fresh_new : (known : List Name) (n : Name) → fresh_fault known n ≡ None → (is_name n.word ≡ true) × (names_word known n.word ≡ false)
fresh_new known n f = let k = both_fine _ _ f in (unless_fine _ _ k.0, not_true _ (unless_fine _ _ k.1))

declared_some : (o : Option ℕ) (p : ℕ) → is_declared o p ≡ None → (k : ℕ) × (o ≡ Some k)
declared_some None p f = absurd (cc)
declared_some (Some k) p f = (k, refl)

pub past_few : (limit : ℕ) (ns : List Name) → past limit ns ≡ None → length ns ≤ limit
past_few limit [] f = omega arith
past_few zero (n ∷ ns) f = absurd (cc)
past_few (suc k) (n ∷ ns) f = let r = past_few k ns f in omega (arith, r)

pub few_past : (limit : ℕ) (ns : List Name) → length ns ≤ limit → past limit ns ≡ None
few_past limit [] le = refl
few_past zero (n ∷ ns) le = absurd (omega (arith, le))
few_past (suc k) (n ∷ ns) le = few_past k ns (omega (arith, le))

module _ (items : List Item) where
  each_sort : (ns : List Name) → sorts_fault items ns ≡ None → AllByRecursion (IsSort items) ns
  each_sort [] f = tt
  each_sort (n ∷ ns) f = let k = both_fine _ _ f in (declared_some _ n.place k.0, each_sort ns k.1)

  each_left : {A : Type 0} (P : A → Type 0) (xs ys : List A) → AllByRecursion P (xs ++ ys) → AllByRecursion P xs × AllByRecursion P ys
  each_left {A = A} P [] ys h = (tt, h)
  each_left {A = A} P (x ∷ xs) ys h = let r = each_left P xs ys h.1 in ((h.0, r.0), r.1)

  each_both : {A : Type 0} (P : A → Type 0) (xs ys : List A) → AllByRecursion P xs → AllByRecursion P ys → AllByRecursion P (xs ++ ys)
  each_both {A = A} P [] ys h k = k
  each_both {A = A} P (x ∷ xs) ys h k = (h.0, each_both P xs ys h.1 k)

  one_sort : (d : Option Name) → AllByRecursion (IsSort items) (option_to_list d) → IfSome d (IsSort items)
  one_sort None h = tt
  one_sort (Some n) h = h.0

  listed_sort : (d : Option Name) → IfSome d (IsSort items) → AllByRecursion (IsSort items) (option_to_list d)
  listed_sort None h = tt
  listed_sort (Some n) h = (h, tt)

  sorts_none : (ns : List Name) → AllByRecursion (IsSort items) ns → sorts_fault items ns ≡ None
  sorts_none [] h = refl
  sorts_none (n ∷ ns) h = then_none _ _ (rw h.0.1 refl) (sorts_none ns h.1)

  -- what is so of declarations that stand behind the known ones
  pub record AreFine (known rest : List Item) : Type 0 where
    pub new_sorts : AreNew (sorts known) (sorts rest)
    pub new_symbols : AreNew (symbol_names known) (symbol_names rest)
    pub new_transitions : AreNew (transitions known) (transitions rest)
    pub declared : AllByRecursion (IsDeclared items) (symbols rest)
    pub few_sorts : length (sorts known) ≤ 64 → length (sorts known) + length (sorts rest) ≤ 64
    pub few_symbols : length (symbols known) ≤ 256 → length (symbols known) + length (symbols rest) ≤ 256
    pub few_transitions : length (transitions known) ≤ 256 → length (transitions known) + length (transitions rest) ≤ 256
    pub few_params : AllByRecursion (λ (b : Body). length b.params ≤ 16) (steps rest)

  fine_end : (known : List Item) → AreFine known []
  fine_end known = record {
    new_sorts = tt;
    new_symbols = tt;
    new_transitions = tt;
    declared = tt;
    few_sorts = λ le. omega (arith, le);
    few_symbols = λ le. omega (arith, le);
    few_transitions = λ le. omega (arith, le);
    few_params = tt;
  }

  fine_sort : (known : List Item) (n : Name) (rest : List Item) → item_fault items known (item.Sort n) ≡ None → AreFine (known ++ item.Sort n ∷ []) rest → AreFine known (item.Sort n ∷ rest)
  fine_sort known n rest f h =
      let k = both_fine _ _ f in
      let new = fresh_new (sorts known) n k.0 in
      let low = below (length (sorts known)) 64 (unless_fine _ _ k.1) in
      let one = joined_last sort_of known (item.Sort n) in
      let many : length (sorts (known ++ item.Sort n ∷ [])) ≡ length (sorts known) + 1 = ap length one ∙ length-append (sorts known) (n ∷ []) in
      record {
        new_sorts = (new.0, new.1, subst (λ (t : List Name). AreNew t (sorts rest)) one h.new_sorts);
        new_symbols = subst (λ (t : List SymbolItem). AreNew (map (λ (s : SymbolItem). s.name) t) (symbol_names rest)) (same_symbols known (item.Sort n) refl) h.new_symbols;
        new_transitions = subst (λ (t : List Name). AreNew t (transitions rest)) (same_last transition_of known (item.Sort n) refl) h.new_transitions;
        declared = h.declared;
        few_sorts = λ le. let r = h.few_sorts (omega (arith, many, low)) in omega (arith, many, r);
        few_symbols = subst (λ (t : List SymbolItem). length t ≤ 256 → length t + length (symbols rest) ≤ 256) (same_symbols known (item.Sort n) refl) h.few_symbols;
        few_transitions = subst (λ (t : List Name). length t ≤ 256 → length t + length (transitions rest) ≤ 256) (same_last transition_of known (item.Sort n) refl) h.few_transitions;
        few_params = h.few_params;
      }

  fine_symbol : (known : List Item) (s : SymbolItem) (rest : List Item) → item_fault items known (item.Symbol s) ≡ None → AreFine (known ++ item.Symbol s ∷ []) rest → AreFine known (item.Symbol s ∷ rest)
  fine_symbol known s rest f h =
      let k = both_fine _ _ f in
      let l = both_fine _ _ k.1 in
      let o = both_fine _ _ l.1 in
      let new = fresh_new (symbol_names known) s.name k.0 in
      let told = each_left (IsSort items) s.args (option_to_list s.result) (each_sort (s.args ++ option_to_list s.result) l.0) in
      let low = below (length (symbols known)) 256 (unless_fine _ _ o.0) in
      let one = joined_last symbol_of known (item.Symbol s) in
      let many : length (symbols (known ++ item.Symbol s ∷ [])) ≡ length (symbols known) + 1 = ap length one ∙ length-append (symbols known) (s ∷ []) in
      record {
        new_sorts = subst (λ (t : List Name). AreNew t (sorts rest)) (same_last sort_of known (item.Symbol s) refl) h.new_sorts;
        new_symbols = (new.0, new.1, subst (λ (t : List Name). AreNew t (symbol_names rest)) (symbols_last known s) h.new_symbols);
        new_transitions = subst (λ (t : List Name). AreNew t (transitions rest)) (same_last transition_of known (item.Symbol s) refl) h.new_transitions;
        declared = (record { args = told.0; result = one_sort s.result told.1; few = past_few 8 s.args o.1 }, h.declared);
        few_sorts = subst (λ (t : List Name). length t ≤ 64 → length t + length (sorts rest) ≤ 64) (same_last sort_of known (item.Symbol s) refl) h.few_sorts;
        few_symbols = λ le. let r = h.few_symbols (omega (arith, many, low)) in omega (arith, many, r);
        few_transitions = subst (λ (t : List Name). length t ≤ 256 → length t + length (transitions rest) ≤ 256) (same_last transition_of known (item.Symbol s) refl) h.few_transitions;
        few_params = h.few_params;
      }

  fine_transition : (known : List Item) (n : Name) (ps : List Binder) (ms : List Name) (x : _) (rest : List Item) → item_fault items known (item.Transition n ps ms x) ≡ None
      → AreFine (known ++ item.Transition n ps ms x ∷ []) rest → AreFine known (item.Transition n ps ms x ∷ rest)
  fine_transition known n ps ms x rest f h =
      let k = both_fine _ _ f in
      let l = both_fine _ _ k.1 in
      let new = fresh_new (transitions known) n k.0 in
      let low = below (length (transitions known)) 256 (unless_fine _ _ l.0) in
      let one = joined_last transition_of known (item.Transition n ps ms x) in
      let many : length (transitions (known ++ item.Transition n ps ms x ∷ [])) ≡ length (transitions known) + 1 = ap length one ∙ length-append (transitions known) (n ∷ []) in
      record {
        new_sorts = subst (λ (t : List Name). AreNew t (sorts rest)) (same_last sort_of known (item.Transition n ps ms x) refl) h.new_sorts;
        new_symbols = subst (λ (t : List SymbolItem). AreNew (map (λ (s : SymbolItem). s.name) t) (symbol_names rest)) (same_symbols known (item.Transition n ps ms x) refl) h.new_symbols;
        new_transitions = (new.0, new.1, subst (λ (t : List Name). AreNew t (transitions rest)) one h.new_transitions);
        declared = h.declared;
        few_sorts = subst (λ (t : List Name). length t ≤ 64 → length t + length (sorts rest) ≤ 64) (same_last sort_of known (item.Transition n ps ms x) refl) h.few_sorts;
        few_symbols = subst (λ (t : List SymbolItem). length t ≤ 256 → length t + length (symbols rest) ≤ 256) (same_symbols known (item.Transition n ps ms x) refl) h.few_symbols;
        few_transitions = λ le. let r = h.few_transitions (omega (arith, many, low)) in omega (arith, many, r);
        few_params = (subst (λ (c : ℕ). c ≤ 16) (bound_length ps) (past_few 16 (bound_names ps) l.1), h.few_params);
      }

  -- an item that declares nothing
  fine_other : (known : List Item) (x : Item) (rest : List Item) → sort_of x ≡ [] → symbol_of x ≡ [] → transition_of x ≡ [] → step_of x ≡ [] → AreFine (known ++ x ∷ []) rest → AreFine known (x ∷ rest)
  fine_other known x rest e g i j h = record {
    new_sorts = subst (λ (t : List Name). AreNew (sorts known) (t ++ sorts rest)) (sym e) (subst (λ (t : List Name). AreNew t (sorts rest)) (same_last sort_of known x e) h.new_sorts);
    new_symbols = subst (λ (t : List SymbolItem). AreNew (symbol_names known) (map (λ (s : SymbolItem). s.name) (t ++ symbols rest))) (sym g)
        (subst (λ (t : List SymbolItem). AreNew (map (λ (s : SymbolItem). s.name) t) (symbol_names rest)) (same_symbols known x g) h.new_symbols);
    new_transitions = subst (λ (t : List Name). AreNew (transitions known) (t ++ transitions rest)) (sym i) (subst (λ (t : List Name). AreNew t (transitions rest)) (same_last transition_of known x i) h.new_transitions);
    declared = subst (λ (t : List SymbolItem). AllByRecursion (IsDeclared items) (t ++ symbols rest)) (sym g) h.declared;
    few_sorts = subst (λ (t : List Name). length (sorts known) ≤ 64 → length (sorts known) + length (t ++ sorts rest) ≤ 64) (sym e)
        (subst (λ (t : List Name). length t ≤ 64 → length t + length (sorts rest) ≤ 64) (same_last sort_of known x e) h.few_sorts);
    few_symbols = subst (λ (t : List SymbolItem). length (symbols known) ≤ 256 → length (symbols known) + length (t ++ symbols rest) ≤ 256) (sym g)
        (subst (λ (t : List SymbolItem). length t ≤ 256 → length t + length (symbols rest) ≤ 256) (same_symbols known x g) h.few_symbols);
    few_transitions = subst (λ (t : List Name). length (transitions known) ≤ 256 → length (transitions known) + length (t ++ transitions rest) ≤ 256) (sym i)
        (subst (λ (t : List Name). length t ≤ 256 → length t + length (transitions rest) ≤ 256) (same_last transition_of known x i) h.few_transitions);
    few_params = subst (λ (t : List Body). AllByRecursion (λ (b : Body). length b.params ≤ 16) (t ++ steps rest)) (sym j) h.few_params;
  }

  are_fine : (known rest : List Item) → declared_fault items known rest ≡ None → AreFine known rest
  are_fine known [] f = fine_end known
  are_fine known (item.Sort n ∷ rest) f = let k = both_fine _ _ f in fine_sort known n rest k.0 (are_fine (known ++ item.Sort n ∷ []) rest k.1)
  are_fine known (item.Symbol s ∷ rest) f = let k = both_fine _ _ f in fine_symbol known s rest k.0 (are_fine (known ++ item.Symbol s ∷ []) rest k.1)
  are_fine known (item.Transition n ps ms x ∷ rest) f = let k = both_fine _ _ f in fine_transition known n ps ms x rest k.0 (are_fine (known ++ item.Transition n ps ms x ∷ []) rest k.1)
  are_fine known (item.Claim r x ∷ rest) f = fine_other known (item.Claim r x) rest refl refl refl refl (are_fine (known ++ item.Claim r x ∷ []) rest f)
  are_fine known (item.Trace ∷ rest) f = fine_other known item.Trace rest refl refl refl refl (are_fine (known ++ item.Trace ∷ []) rest f)

  names_are : (ns : List Name) → AreNew [] ns → AreNames (length ns) (words ns)
  names_are ns h = record { one_each = length-map ns _; named = all_names ns (new_names [] ns h); distinct = distinct_words ns (new_repeat [] ns tt h) }

  -- Declarations without fault declare well.
  pub declared_sound : declared_fault items [] items ≡ None → AreDeclared items
  declared_sound f =
      let k = are_fine [] items f in
      let count_symbols : length (symbol_names items) ≡ length (sig_in items).symbols = length-map (symbols items) _ ∙ sym (length-map (symbols items) _) in
      let s : length (sorts items) ≤ 64 = let r = k.few_sorts (omega arith) in omega (arith, r) in
      let y : length (symbols items) ≤ 256 = let r = k.few_symbols (omega arith) in omega (arith, r) in
      let t : length (transitions items) ≤ 256 = let r = k.few_transitions (omega arith) in omega (arith, r) in
      record {
        fit = record {
          sorts = names_are (sorts items) k.new_sorts;
          symbols = subst (λ (c : ℕ). AreNames c (words (symbol_names items))) count_symbols (names_are (symbol_names items) k.new_symbols);
          steps = names_are (transitions items) k.new_transitions;
          definitions = names_are [] tt;
          apart = λ i j lt. absurd (omega (arith, lt));
        };
        symbols_declared = k.declared;
        few_sorts = s;
        few_symbols = y;
        few_transitions = t;
        few_params = k.few_params;
      }

  -- ---- where all is declared well

  fresh_none : (known : List Name) (n : Name) → is_name n.word ≡ true → names_word known n.word ≡ false → fresh_fault known n ≡ None
  fresh_none known n w h = then_none _ _ (unless_none _ _ w) (rw h refl)

  symbols_both : (xs ys : List Item) → symbol_names (xs ++ ys) ≡ symbol_names xs ++ symbol_names ys
  symbols_both xs ys = ap (map (λ (s : SymbolItem). s.name)) (joined_both symbol_of xs ys) ∙ split (symbols xs) (symbols ys)
    where
      split : (a b : List SymbolItem) → map (λ (s : SymbolItem). s.name) (a ++ b) ≡ map (λ (s : SymbolItem). s.name) a ++ map (λ (s : SymbolItem). s.name) b
      split [] b = refl
      split (s ∷ a) b = ap (λ (t : List Name). s.name ∷ t) (split a b)

  none_at_fault : (known rest : List Item) → AreNew (sorts known) (sorts rest) → AreNew (symbol_names known) (symbol_names rest) → AreNew (transitions known) (transitions rest) → AllByRecursion (IsDeclared items) (symbols rest)
      → length (sorts known) + length (sorts rest) ≤ 64 → length (symbols known) + length (symbols rest) ≤ 256 → length (transitions known) + length (transitions rest) ≤ 256
      → AllByRecursion (λ (b : Body). length b.params ≤ 16) (steps rest) → declared_fault items known rest ≡ None
  none_at_fault known [] s y t d ls ly lt p = refl
  none_at_fault known (item.Sort n ∷ rest) s y t d ls ly lt p =
      let one = joined_last sort_of known (item.Sort n) in
      let many : length (sorts (known ++ item.Sort n ∷ [])) ≡ length (sorts known) + 1 = ap length one ∙ length-append (sorts known) (n ∷ []) in
      let same = same_symbols known (item.Sort n) refl in
      let also = same_last transition_of known (item.Sort n) refl in
      then_none _ _ (then_none _ _ (fresh_none (sorts known) n s.0 s.1) (unless_none _ _ (is_below _ _ (omega (arith, ls)))))
      (none_at_fault (known ++ item.Sort n ∷ []) rest (subst (λ (z : List Name). AreNew z (sorts rest)) (sym one) s.2)
      (subst (λ (z : List SymbolItem). AreNew (map (λ (s : SymbolItem). s.name) z) (symbol_names rest)) (sym same) y) (subst (λ (z : List Name). AreNew z (transitions rest)) (sym also) t) d
      (omega (arith, many, ls)) (subst (λ (z : List SymbolItem). length z + length (symbols rest) ≤ 256) (sym same) ly) (subst (λ (z : List Name). length z + length (transitions rest) ≤ 256) (sym also) lt) p)
  none_at_fault known (item.Symbol k ∷ rest) s y t d ls ly lt p =
      let one = joined_last symbol_of known (item.Symbol k) in
      let many : length (symbols (known ++ item.Symbol k ∷ [])) ≡ length (symbols known) + 1 = ap length one ∙ length-append (symbols known) (k ∷ []) in
      let same = same_last sort_of known (item.Symbol k) refl in
      let also = same_last transition_of known (item.Symbol k) refl in
      then_none _ _
      (then_none _ _ (fresh_none (symbol_names known) k.name y.0 y.1)
      (then_none _ _ (sorts_none (k.args ++ option_to_list k.result) (each_both (IsSort items) k.args (option_to_list k.result) d.0.args (listed_sort k.result d.0.result)))
      (then_none _ _ (unless_none _ _ (is_below _ _ (omega (arith, ly)))) (few_past 8 k.args d.0.few))))
      (none_at_fault (known ++ item.Symbol k ∷ []) rest (subst (λ (z : List Name). AreNew z (sorts rest)) (sym same) s)
      (subst (λ (z : List Name). AreNew z (symbol_names rest)) (sym (symbols_last known k)) y.2) (subst (λ (z : List Name). AreNew z (transitions rest)) (sym also) t) d.1
      (subst (λ (z : List Name). length z + length (sorts rest) ≤ 64) (sym same) ls) (omega (arith, many, ly)) (subst (λ (z : List Name). length z + length (transitions rest) ≤ 256) (sym also) lt) p)
  none_at_fault known (item.Transition n ps ms x ∷ rest) s y t d ls ly lt p =
      let one = joined_last transition_of known (item.Transition n ps ms x) in
      let many : length (transitions (known ++ item.Transition n ps ms x ∷ [])) ≡ length (transitions known) + 1 = ap length one ∙ length-append (transitions known) (n ∷ []) in
      let same = same_last sort_of known (item.Transition n ps ms x) refl in
      let also = same_symbols known (item.Transition n ps ms x) refl in
      then_none _ _
      (then_none _ _ (fresh_none (transitions known) n t.0 t.1)
      (then_none _ _ (unless_none _ _ (is_below _ _ (omega (arith, lt)))) (few_past 16 (bound_names ps) (subst (λ (c : ℕ). c ≤ 16) (sym (bound_length ps)) p.0))))
      (none_at_fault (known ++ item.Transition n ps ms x ∷ []) rest (subst (λ (z : List Name). AreNew z (sorts rest)) (sym same) s)
      (subst (λ (z : List SymbolItem). AreNew (map (λ (s : SymbolItem). s.name) z) (symbol_names rest)) (sym also) y) (subst (λ (z : List Name). AreNew z (transitions rest)) (sym one) t.2) d
      (subst (λ (z : List Name). length z + length (sorts rest) ≤ 64) (sym same) ls) (subst (λ (z : List SymbolItem). length z + length (symbols rest) ≤ 256) (sym also) ly) (omega (arith, many, lt)) p.1)
  none_at_fault known (item.Claim r x ∷ rest) s y t d ls ly lt p =
      let one = same_last sort_of known (item.Claim r x) refl in
      let two = same_symbols known (item.Claim r x) refl in
      let three = same_last transition_of known (item.Claim r x) refl in
      none_at_fault (known ++ item.Claim r x ∷ []) rest (subst (λ (z : List Name). AreNew z (sorts rest)) (sym one) s)
      (subst (λ (z : List SymbolItem). AreNew (map (λ (s : SymbolItem). s.name) z) (symbol_names rest)) (sym two) y) (subst (λ (z : List Name). AreNew z (transitions rest)) (sym three) t) d
      (subst (λ (z : List Name). length z + length (sorts rest) ≤ 64) (sym one) ls) (subst (λ (z : List SymbolItem). length z + length (symbols rest) ≤ 256) (sym two) ly) (subst (λ (z : List Name). length z + length (transitions rest) ≤ 256) (sym three) lt) p
  none_at_fault known (item.Trace ∷ rest) s y t d ls ly lt p =
      let one = same_last sort_of known item.Trace refl in
      let two = same_symbols known item.Trace refl in
      let three = same_last transition_of known item.Trace refl in
      none_at_fault (known ++ item.Trace ∷ []) rest (subst (λ (z : List Name). AreNew z (sorts rest)) (sym one) s)
      (subst (λ (z : List SymbolItem). AreNew (map (λ (s : SymbolItem). s.name) z) (symbol_names rest)) (sym two) y) (subst (λ (z : List Name). AreNew z (transitions rest)) (sym three) t) d
      (subst (λ (z : List Name). length z + length (sorts rest) ≤ 64) (sym one) ls) (subst (λ (z : List SymbolItem). length z + length (symbols rest) ≤ 256) (sym two) ly) (subst (λ (z : List Name). length z + length (transitions rest) ≤ 256) (sym three) lt) p

  are_new : (c : ℕ) (ns : List Name) → AreNames c (words ns) → AreNew [] ns
  are_new c ns h = repeat_new [] ns (words_distinct ns h.distinct) (names_all ns h.named)

  -- What is declared well has no fault.
  pub declared_complete : AreDeclared items → declared_fault items [] items ≡ None
  declared_complete h =
      none_at_fault [] items (are_new _ (sorts items) h.fit.sorts) (are_new _ (symbol_names items) h.fit.symbols) (are_new _ (transitions items) h.fit.steps) h.symbols_declared
      (omega (arith, h.few_sorts)) (omega (arith, h.few_symbols)) (omega (arith, h.few_transitions)) h.few_params

-- Names that are noted, against those that are declared.
use Rattle.std.proofs.Common.{◌≡◌, ℕ, zero, suc, ◌+◌, ◌<◌, ◌≤◌, ◌++◌, ◌||◌, ◌⊎◌, inl, inr, Bool, true, false, not, cond, List, [], ◌∷◌, length, get_or, map, drop, refl, sym, ap, ap₂, ◌∙◌, subst, arith, append_assoc}
use Rattle.std.specs.Prelude.{Option, Some, None, option_map, is_some, Result, nat_lt, IsTrue, ◌↔◌}
use Rattle.std.specs.Str.{bytes_eq}
use Rattle.fo_core.specs.Named.{IsName}
use Rattle.pyv_meaning.specs.declared.fault.SortFault.{SortFault}
use Rattle.pyv_meaning.specs.declared.fault.SortFault.TheVariants.{Memory, UnknownName, TwiceDeclared, WrongArity, SortClash, NoSort, NotATerm, NotAFormula, NewOutsideStep, NewTwice, NotMutable, TooMany}
use Rattle.pyv_meaning.specs.Closing.{names_word}
use Rattle.pyv_meaning.specs.Declaring.{words, symbol_names, names_in, sig_in, symbol_in, declared_fault, is_name, fresh_fault, sorts_fault, past}
use Rattle.pyv_meaning.specs.Items.{Item, SymbolItem, sorts, symbols}
use Rattle.pyv_meaning.specs.NameFaults.{◌then◌, unless, is_declared}
use Rattle.pyv_meaning.specs.Scope.{number}
use Rattle.pyv_meaning.specs.Tree.{Name, bound_names}
use Rattle.pyv_meaning.specs.View.{word, name_of, names_of, binder_of, binders_of}
use Rattle.pv_base.specs.declared.Span.{Span}
use Rattle.pyv_grammar.specs.declared.tree.Bound.{Bound}
use Rattle.std.proofs.lemmas.List.{length-map}
use Rattle.pyv_meaning.proofs.Complete.{bound_length}
use Rattle.pyv_meaning.proofs.Declares.{few_past, declared_sound}
use Rattle.pyv_meaning.proofs.Progress.{rest_more}
use Rattle.pyv_sorts.specs.Tells.{Fails, Tells}
use Rattle.pyv_meaning.proofs.Basics.{true_or_false}
use Rattle.pyv_meaning.proofs.Words.{name_decided, not_named, words_distinct}
use Rattle.pyv_meaning.proofs.Lookups.{NoRepeat, same_bytes}
use Rattle.fo_core.specs.declared.names.Names.{Names}
use Rattle.fo_core.specs.declared.signature.Sig.{Sig}
use Rattle.fo_core.specs.declared.signature.Symbol.{Symbol as SymbolOf}
use Rattle.pyv_sorts.specs.declared.declare.Declared.{Declared}
use Rattle.pyv_sorts.specs.Lists.{added, behind}
use Rattle.pyv_sorts.specs.Noting.{gathered, unknown_in, number_in, symbol_by, IsNoted, Knows}

abbrev some_of : ℕ → Option ℕ
some_of k = Some k

mapped_none : (o : Option ℕ) → option_map suc o ≡ None → o ≡ None
mapped_none None h = refl
mapped_none (Some k) h = absurd (cc)

mapped_some : (o : Option ℕ) (k : ℕ) → option_map suc o ≡ Some k → (j : ℕ) × (o ≡ Some j)
mapped_some None k h = absurd (cc)
mapped_some (Some j) k h = (j, refl)

pub none_named : (ns : List Name) (w : List ℕ) → number (words ns) w ≡ None → names_word ns w ≡ false
none_named [] w h = refl
none_named (n ∷ ns) w h =
    elim (true_or_false (bytes_eq n.word w)) [
      | inl t ↦ absurd (found_none (rw t at h))
      | inr t ↦ rw t (none_named ns w (mapped_none (number (words ns) w) (rw t at h)))
    ]
  where
    found_none : some_of 0 ≡ None → ⊥
    found_none h = absurd (cc)

pub some_named : (ns : List Name) (w : List ℕ) (k : ℕ) → number (words ns) w ≡ Some k → names_word ns w ≡ true
some_named [] w k h = absurd (cc)
some_named (n ∷ ns) w k h =
    elim (true_or_false (bytes_eq n.word w)) [
      | inl t ↦ rw t refl
      | inr t ↦ let r = mapped_some (number (words ns) w) k (rw t at h) in rw t (some_named ns w r.0 r.1)
    ]

pub fresh_no_name : (ns : List Name) (n : Name) → (IsName n.word → ⊥) → fresh_fault ns n ≡ Some (UnknownName n.place)
fresh_no_name ns n h = elim (true_or_false (is_name n.word)) [ inl t ↦ absurd (h ((name_decided n.word).0 t)) | inr t ↦ rw t refl ]

pub fresh_taken : (ns : List Name) (n : Name) (k : ℕ) → IsName n.word → number (words ns) n.word ≡ Some k → fresh_fault ns n ≡ Some (TwiceDeclared n.place)
fresh_taken ns n k w h = rw ((name_decided n.word).1 w, some_named ns n.word k h) refl

pub fresh_free : (ns : List Name) (n : Name) → IsName n.word → number (words ns) n.word ≡ None → fresh_fault ns n ≡ None
fresh_free ns n w h = rw ((name_decided n.word).1 w, none_named ns n.word h) refl

-- ---- the answers of the test

not_yes : (P : Type 0) (b : Bool) → b ≡ false → IsTrue b ↔ P → P → ⊥
not_yes P true e h p = absurd (cc)
not_yes P false e h p = let q : false ≡ true = h.1 p in absurd (cc)

yes_then : (P : Type 0) (b : Bool) → b ≡ true → IsTrue b ↔ P → P
yes_then P true e h = h.0 refl
yes_then P false e h = absurd (cc)

module _ (known : List (List ℕ)) (n : Name) (w : List ℕ) (b : Bool) (is : w ≡ n.word) (test : IsTrue b ↔ IsName w) (ns : List Name) (same : known ≡ words ns) where
  its_name : b ≡ true → IsName n.word
  its_name e = subst IsName is (yes_then (IsName w) b e test)

  pub fresh_not : b ≡ false → fresh_fault ns n ≡ Some (UnknownName n.place)
  fresh_not e = fresh_no_name ns n (λ h. not_yes (IsName w) b e test (subst IsName (sym is) h))

  its_number : number known w ≡ number (words ns) n.word
  its_number = ap₂ number same is

  pub fresh_twice : b ≡ true → (o : Option ℕ) → o ≡ number known w → is_some o ≡ true → fresh_fault ns n ≡ Some (TwiceDeclared n.place)
  fresh_twice e None h s = absurd (cc)
  fresh_twice e (Some k) h s = fresh_taken ns n k (its_name e) (sym (h ∙ its_number))

  pub fresh_new : b ≡ true → (o : Option ℕ) → o ≡ number known w → is_some o ≡ false → fresh_fault ns n ≡ None
  fresh_new e None h s = fresh_free ns n (its_name e) (sym (h ∙ its_number))
  fresh_new e (Some k) h s = absurd (cc)

-- ---- limits

pub past_at : (limit : ℕ) (ns : List Name) (d : Name) → limit < length ns → past limit ns ≡ Some (TooMany (get_or ns limit d).place)
past_at limit [] d lt = absurd (omega (arith, lt))
past_at zero (n ∷ ns) d lt = refl
past_at (suc k) (n ∷ ns) d lt = past_at k ns d (omega (arith, lt))

pub few_names : (bytes : List ℕ) (ss : List Span) (k : ℕ) → length ss ≤ k → past k (names_of bytes ss) ≡ None
few_names bytes ss k le = few_past k (names_of bytes ss) (subst (λ n. n ≤ k) (sym (length-map ss (name_of bytes))) le)

pub few_bounds : (bytes : List ℕ) (bs : List Bound) (k : ℕ) → length bs ≤ k → past k (bound_names (binders_of bytes bs)) ≡ None
few_bounds bytes bs k le = few_past k (bound_names (binders_of bytes bs)) (subst (λ n. n ≤ k) (sym (bound_length (binders_of bytes bs) ∙ length-map bs (binder_of bytes))) le)

pub past_bounds : (bytes : List ℕ) (bs : List Bound) (k : ℕ) (d : Bound) → k < length bs → past k (bound_names (binders_of bytes bs)) ≡ Some (TooMany (get_or bs k d).name.from)
past_bounds bytes [] k d lt = absurd (omega (arith, lt))
past_bounds bytes (b ∷ bs) zero d lt = refl
past_bounds bytes (b ∷ bs) (suc k) d lt = past_bounds bytes bs k d (omega (arith, lt))

-- a fault in front is the first of both
pub then_fails : (e : SortFault) (f g : Option SortFault) → Fails e f → Fails e (f then g)
then_fails Memory f g h = tt
then_fails (UnknownName p) f g h = rw h refl
then_fails (TwiceDeclared p) f g h = rw h refl
then_fails (WrongArity p) f g h = rw h refl
then_fails (SortClash p) f g h = rw h refl
then_fails (NoSort p) f g h = rw h refl
then_fails (NotATerm p) f g h = rw h refl
then_fails (NotAFormula p) f g h = rw h refl
then_fails (NewOutsideStep p) f g h = rw h refl
then_fails (NewTwice p) f g h = rw h refl
then_fails (NotMutable p) f g h = rw h refl
then_fails (TooMany p) f g h = rw h refl

-- ---- sorts, one name further

module _ (ws : List (List ℕ)) (bytes : List ℕ) (ss : List Span) (i : ℕ) (s d : Span) (lt : i < length ss) (at : get_or ss i d ≡ s) where
  next_name : names_of bytes (drop i ss) ≡ name_of bytes s ∷ names_of bytes (drop (i + 1) ss)
  next_name = rest_more (name_of bytes) ss i s d lt at

  pub known_next : is_declared (number ws (word bytes s)) s.from ≡ None → unknown_in ws (names_of bytes (drop (i + 1) ss)) ≡ unknown_in ws (names_of bytes (drop i ss))
  known_next h = sym (ap (unknown_in ws) next_name ∙ ap (λ (o : Option SortFault). o then unknown_in ws (names_of bytes (drop (i + 1) ss))) h)

  pub unknown_here : (e : SortFault) → Fails e (is_declared (number ws (word bytes s)) s.from) → Fails e (unknown_in ws (names_of bytes (drop i ss)))
  unknown_here e h = subst (Fails e) (sym (ap (unknown_in ws) next_name)) (then_fails e _ _ h)

  pub numbers_next : (ks : List ℕ) (k : ℕ) → k ≡ number_in ws (name_of bytes s) → (ks ++ k ∷ []) ++ map (number_in ws) (names_of bytes (drop (i + 1) ss)) ≡ ks ++ map (number_in ws) (names_of bytes (drop i ss))
  numbers_next ks k h =
      append_assoc ks (k ∷ []) _ ∙ ap₂ (λ (n : ℕ) (t : List ℕ). ks ++ n ∷ t) h refl ∙ ap (λ (t : List Name). ks ++ map (number_in ws) t) (sym next_name)

-- ---- a function's sorts

then_nothing : (f : Option SortFault) → (f then None) ≡ f
then_nothing None = refl
then_nothing (Some e) = refl

then_in_turn : (f g h : Option SortFault) → (f then g then h) ≡ ((f then g) then h)
then_in_turn None g h = refl
then_in_turn (Some e) g h = refl

unknown_last : (ws : List (List ℕ)) (ns : List Name) (n : Name) → unknown_in ws (ns ++ n ∷ []) ≡ (unknown_in ws ns then is_declared (number ws n.word) n.place)
unknown_last ws [] n = then_nothing (is_declared (number ws n.word) n.place)
unknown_last ws (m ∷ ns) n =
    ap (λ (o : Option SortFault). is_declared (number ws m.word) m.place then o) (unknown_last ws ns n) ∙ then_in_turn (is_declared (number ws m.word) m.place) (unknown_in ws ns) (is_declared (number ws n.word) n.place)

module _ (ws : List (List ℕ)) (items : List Item) (knows : Knows ws items) (fresh rest : Option SortFault) (fine : fresh ≡ None) (ns : List Name) (n : Name) where
  in_parts : (fresh then sorts_fault items (ns ++ n ∷ []) then rest) ≡ ((unknown_in ws ns then is_declared (number ws n.word) n.place) then rest)
  in_parts = ap (λ (o : Option SortFault). o then sorts_fault items (ns ++ n ∷ []) then rest) fine ∙ ap (λ (o : Option SortFault). o then rest) (sym (knows (ns ++ n ∷ [])) ∙ unknown_last ws ns n)

  pub arguments_fail : (e : SortFault) → Fails e (unknown_in ws ns) → Fails e (fresh then sorts_fault items (ns ++ n ∷ []) then rest)
  arguments_fail e h = subst (Fails e) (sym in_parts) (then_fails e _ rest (then_fails e _ _ h))

  pub value_fails : (e : SortFault) → unknown_in ws ns ≡ None → Fails e (is_declared (number ws n.word) n.place) → Fails e (fresh then sorts_fault items (ns ++ n ∷ []) then rest)
  value_fails e f h = subst (Fails e) (sym (in_parts ∙ ap (λ (o : Option SortFault). (o then is_declared (number ws n.word) n.place) then rest) f)) (then_fails e _ rest h)

  pub rest_tells : {X : Type 0} (r : Result X SortFault) (other : Option SortFault) → unknown_in ws ns ≡ None → is_declared (number ws n.word) n.place ≡ None → other ≡ rest → Tells r other
      → Tells r (fresh then sorts_fault items (ns ++ n ∷ []) then rest)
  rest_tells {X = X} r other f g e h =
      subst (Tells r) (e ∙ sym (in_parts ∙ ap (λ (o : Option SortFault). (o then is_declared (number ws n.word) n.place) then rest) f ∙ ap (λ (o : Option SortFault). o then rest) g)) h

-- as many names as symbols
pub room_same : (have : List (List ℕ)) (front : List Item) → have ≡ words (symbol_names front) → (p : ℕ) (rest : Option SortFault)
    → (unless (nat_lt (length have) 256) (TooMany p) then rest) ≡ (unless (nat_lt (length (symbols front)) 256) (TooMany p) then rest)
room_same have front e p rest =
    ap (λ (n : ℕ). unless (nat_lt n 256) (TooMany p) then rest) (ap length e ∙ length-map (symbol_names front) (λ (n : Name). n.word) ∙ length-map (symbols front) (λ (s : SymbolItem). s.name))

pub same_count : (ws : List (List ℕ)) (items : List Item) (d : Declared) → IsNoted ws items d → length d.symbols ≡ length d.names
same_count ws items d n =
    ap length n.has_symbols ∙ length-map (symbols items) (symbol_by ws)
    ∙ sym (ap length n.has_names ∙ length-map (symbol_names items) (λ (m : Name). m.word) ∙ length-map (symbols items) (λ (s : SymbolItem). s.name))

-- ---- the sorts that are gathered

some_number : (ws : List (List ℕ)) (v w : List ℕ) → is_some (number (v ∷ ws) w) ≡ (bytes_eq v w || is_some (number ws w))
some_number ws v w = elim (true_or_false (bytes_eq v w)) [ inl t ↦ rw t refl | inr t ↦ rw t (mapped (number ws w)) ]
  where
    mapped : (o : Option ℕ) → is_some (option_map suc o) ≡ is_some o
    mapped None = refl
    mapped (Some k) = refl

or_in_turn : (a b c : Bool) → ((a || b) || c) ≡ (a || (b || c))
or_in_turn true b c = refl
or_in_turn false b c = refl

or_none : (a : Bool) → (a || false) ≡ a
or_none true = refl
or_none false = refl

some_both : (vs ws : List (List ℕ)) (w : List ℕ) → is_some (number (vs ++ ws) w) ≡ (is_some (number vs w) || is_some (number ws w))
some_both [] ws w = refl
some_both (v ∷ vs) ws w =
    some_number (vs ++ ws) v w ∙ ap (λ (b : Bool). bytes_eq v w || b) (some_both vs ws w) ∙ sym (or_in_turn (bytes_eq v w) (is_some (number vs w)) (is_some (number ws w))) ∙ ap (λ (b : Bool). b || is_some (number ws w)) (sym (some_number vs v w))

absorbed : (ws : List (List ℕ)) (v w : List ℕ) (k : ℕ) → number ws v ≡ Some k → is_some (number ws w) ≡ (is_some (number ws w) || bytes_eq v w)
absorbed ws v w k h =
    elim (true_or_false (bytes_eq v w)) [
      | inl t ↦ let s : is_some (number ws w) ≡ true = subst (λ (z : List ℕ). is_some (number ws z) ≡ true) (same_bytes v w t) (ap is_some h) in rw s refl
      | inr t ↦ rw t (sym (or_none (is_some (number ws w))))
    ]

some_added : (ws : List (List ℕ)) (v w : List ℕ) (o : Option ℕ) → number ws v ≡ o → is_some (number (behind o ws v) w) ≡ (is_some (number ws w) || bytes_eq v w)
some_added ws v w (Some k) h = absorbed ws v w k h
some_added ws v w None h = some_both ws (v ∷ []) w ∙ ap (λ (b : Bool). is_some (number ws w) || b) (some_number [] v w ∙ or_none (bytes_eq v w))

some_gathered : (ws : List (List ℕ)) (ns : List Name) (w : List ℕ) → is_some (number (gathered ws ns) w) ≡ (is_some (number ws w) || is_some (number (words ns) w))
some_gathered ws [] w = sym (or_none (is_some (number ws w)))
some_gathered ws (n ∷ ns) w =
    some_gathered (added ws n.word) ns w ∙ ap (λ (b : Bool). b || is_some (number (words ns) w)) (some_added ws n.word w (number ws n.word) refl)
    ∙ or_in_turn (is_some (number ws w)) (bytes_eq n.word w) (is_some (number (words ns) w)) ∙ ap (λ (b : Bool). is_some (number ws w) || b) (sym (some_number (words ns) n.word w))

declared_same : (a b : Option ℕ) (p : ℕ) → is_some a ≡ is_some b → is_declared a p ≡ is_declared b p
declared_same None None p h = refl
declared_same None (Some k) p h = absurd (cc)
declared_same (Some k) None p h = absurd (cc)
declared_same (Some k) (Some j) p h = refl

-- What is gathered are the sorts.
pub gathered_knows : (items : List Item) → Knows (gathered [] (sorts items)) items
gathered_knows items [] = refl
gathered_knows items (n ∷ ns) =
    ap₂ (λ (a b : Option SortFault). a then b) (declared_same (number (gathered [] (sorts items)) n.word) (number (words (sorts items)) n.word) n.place (some_gathered [] (sorts items) n.word)) (gathered_knows items ns)

named_none : (ns : List Name) (w : List ℕ) → names_word ns w ≡ false → number (words ns) w ≡ None
named_none [] w h = refl
named_none (n ∷ ns) w h =
    elim (true_or_false (bytes_eq n.word w)) [
      | inl t ↦ let z : true ≡ false = rw t at h in absurd (cc)
      | inr t ↦ rw t (ap (option_map suc) (named_none ns w (rw t at h)))
    ]

words_last : (ns : List Name) (n : Name) → words (ns ++ n ∷ []) ≡ words ns ++ n.word ∷ []
words_last [] n = refl
words_last (m ∷ ns) n = ap (λ (t : List (List ℕ)). m.word ∷ t) (words_last ns n)

words_end : (ns : List Name) → words ns ≡ words (ns ++ [])
words_end [] = refl
words_end (n ∷ ns) = ap (λ (t : List (List ℕ)). n.word ∷ t) (words_end ns)

-- Where no two names have one word, each is gathered.
pub gathered_all : (known ns : List Name) → NoRepeat (known ++ ns) → gathered (words known) ns ≡ words (known ++ ns)
gathered_all known [] r = words_end known
gathered_all known (n ∷ ns) r =
    let new : added (words known) n.word ≡ words (known ++ n ∷ []) = ap (λ (o : Option ℕ). behind o (words known) n.word) (named_none known n.word (not_named known ns n r)) ∙ sym (words_last known n) in
    ap (λ (ws : List (List ℕ)). gathered ws ns) new ∙ gathered_all (known ++ n ∷ []) ns (subst NoRepeat (sym (append_assoc known (n ∷ []) ns)) r) ∙ ap words (append_assoc known (n ∷ []) ns)

pub knows_of : (ws : List (List ℕ)) (items : List Item) → ws ≡ gathered [] (sorts items) → Knows ws items
knows_of ws items e = subst (λ (z : List (List ℕ)). Knows z items) (sym e) (gathered_knows items)

abbrev make_names : List (List ℕ) → List (List ℕ) → List (List ℕ) → Names
make_names a b c = record { sorts = a; symbols = b; steps = c; definitions = [] }

abbrev make_sig : ℕ → List SymbolOf → Sig
make_sig n ss = record { sorts = n; symbols = ss }

module _ (items : List Item) (fine : declared_fault items [] items ≡ None) (ws : List (List ℕ)) (are : ws ≡ gathered [] (sorts items)) (d : Declared) (noted : IsNoted ws items d) where
  all_sorts : ws ≡ words (sorts items)
  all_sorts = let h = declared_sound items fine in are ∙ gathered_all [] (sorts items) (words_distinct (sorts items) h.fit.sorts.distinct)

  pub all_names : (names : Names) → names ≡ record { sorts = ws; symbols = d.names; steps = d.steps; definitions = [] } → names ≡ names_in items
  all_names names e = e ∙ ap (λ (z : List (List ℕ)). make_names z d.names d.steps) all_sorts ∙ ap₂ (λ (y z : List (List ℕ)). make_names (words (sorts items)) y z) noted.has_names noted.has_steps

  pub all_symbols : (sig : Sig) → sig ≡ record { sorts = length ws; symbols = d.symbols } → sig ≡ sig_in items
  all_symbols sig e =
      e ∙ ap (λ (z : List SymbolOf). make_sig (length ws) z) (noted.has_symbols ∙ ap (λ (z : List (List ℕ)). map (symbol_by z) (symbols items)) all_sorts)
      ∙ ap (λ (n : ℕ). make_sig n (map (symbol_in items) (symbols items))) (ap length all_sorts ∙ length-map (sorts items) (λ (n : Name). n.word))

-- Names that a text spells are words that aren't reserved, and a file has no more declarations than tokens.
use Rattle.std.proofs.Common.{◌≡◌, ℕ, ◌+◌, ◌-◌, ◌≤◌, ◌++◌, List, [], ◌∷◌, length, take, drop, refl, sym, ap, ap₂, ◌∙◌, subst, inl, inr, ◌⊎◌, true, false, not, ◌&&◌, true≢false, arith, length-append}
use Rattle.std.specs.Prelude.{Some, None, Bool, zip}
use Rattle.std.specs.List.{Contains, list_all, list_any}
use Rattle.std.specs.Str.{bytes_eq}
use Rattle.std.proofs.lemmas.List.{drop-drop}
use Rattle.std.proofs.Math.Seq.{drop-append_seam, take-append_seam}
use Rattle.fo_core.specs.Named.{reserved_words, IsName}
use Rattle.pv_base.specs.declared.Span.{Span}
use Rattle.pyv_lex.specs.declared.token.Kind.{Kind}
use Rattle.pyv_lex.specs.declared.token.Kind.TheVariants as kind
use Rattle.pyv_lex.specs.declared.token.Token.{Token}
use Rattle.pyv_lex.specs.Cutting.{Cuts, here as at_end, piece, AreTokens}
use Rattle.pyv_lex.specs.Spelling.{Spells, word, number, sign, other, reserved_kinds, kind_in, word_kind}
use Rattle.pyv_lex.specs.Spelling as spelling
use Rattle.pyv_grammar.specs.declared.tree.Decl.{Decl}
use Rattle.pyv_grammar.specs.declared.tree.Decl.TheVariants as decl
use Rattle.pyv_grammar.specs.Grammar.{Limits, SpellsDecl, SpellsFile, IsClaim}
use Rattle.pyv_grammar.specs.Grammar as grammar
use Rattle.pyv_meaning.specs.Declaring.{symbol_names, IsDeclaredName}
use Rattle.pyv_meaning.specs.Gets.{Among, here, there}
use Rattle.pyv_meaning.specs.Items.{items_of, sorts, transitions}
use Rattle.pyv_meaning.specs.Tree.{Name}
use Rattle.pyv_meaning.specs.View as view
use Rattle.pyv_meaning.proofs.Basics.{among_left, among_right, first_or, true_or_false}
use Rattle.pyv_meaning.proofs.Words.{among_decided}

-- ---- tokens

-- whether the kind is that of words that aren't reserved
abbrev is_plain : Kind → Bool
is_plain kind.Word = true
is_plain _ = false

both_hold : (a b : Bool) → (a && b) ≡ true → (a ≡ true) × (b ≡ true)
both_hold true b e = (refl, e)
both_hold false b e = absurd (true≢false (sym e))

-- a text of that kind is none of the listed words, where each has another kind
not_listed : (ws : List (List ℕ)) (ks : List Kind) (text : List ℕ) → length ws ≤ length ks → list_all (λ (k : Kind). not (is_plain k)) ks ≡ true → kind_in (zip ws ks) text ≡ kind.Word → list_any (bytes_eq text) ws ≡ false
not_listed [] ks text le rest e = refl
not_listed (w ∷ ws) [] text le rest e = absurd (omega (arith, le))
not_listed (w ∷ ws) (k ∷ ks) text le rest e =
    let o = both_hold _ _ rest in
    elim (true_or_false (bytes_eq text w)) [
      | inl t ↦ let s : k ≡ kind.Word = rw t at e in absurd (true≢false (sym o.0 ∙ ap (λ (z : Kind). not (is_plain z)) s))
      | inr f ↦ let s : kind_in (zip ws ks) text ≡ kind.Word = rw f at e in rw f (not_listed ws ks text (omega (arith, le)) o.1 s)
    ]

not_reserved : (text : List ℕ) → word_kind text ≡ kind.Word → ¬ Contains reserved_words text
not_reserved text e h = true≢false (sym ((among_decided text reserved_words).1 h) ∙ not_listed reserved_words reserved_kinds text (omega arith) refl e)

-- a token of this kind is a name
spelt_word : (k : Kind) (text : List ℕ) → Spells k text → k ≡ kind.Word → IsName text
spelt_word _ _ (word b bs h k) e = record { word = (h, k); free = not_reserved (b ∷ bs) e }
spelt_word _ _ (number b bs h k) e = absurd (cc)
spelt_word _ _ (sign k text h) e = absurd (no_sign k text h e)
  where
    no_sign : (k : Kind) (text : List ℕ) → spelling.Sign k text → k ≡ kind.Word → ⊥
    no_sign _ _ spelling.iff e = absurd (cc)
    no_sign _ _ spelling.implies e = absurd (cc)
    no_sign _ _ spelling.unequal e = absurd (cc)
    no_sign _ _ spelling.equal e = absurd (cc)
    no_sign _ _ spelling.bang e = absurd (cc)
    no_sign _ _ spelling.amp e = absurd (cc)
    no_sign _ _ spelling.bar e = absurd (cc)
    no_sign _ _ spelling.round_left e = absurd (cc)
    no_sign _ _ spelling.round_right e = absurd (cc)
    no_sign _ _ spelling.square_left e = absurd (cc)
    no_sign _ _ spelling.square_right e = absurd (cc)
    no_sign _ _ spelling.curly_left e = absurd (cc)
    no_sign _ _ spelling.curly_right e = absurd (cc)
    no_sign _ _ spelling.comma e = absurd (cc)
    no_sign _ _ spelling.dot e = absurd (cc)
    no_sign _ _ spelling.colon e = absurd (cc)
spelt_word _ _ (other b h) e = absurd (cc)

module _ (bytes : List ℕ) where
  -- the bytes of a token's span
  text_at : (at : ℕ) (front after : List ℕ) → drop at bytes ≡ front ++ after → view.word bytes (record { from = at; to = at + length front }) ≡ front
  text_at at front after e =
      let n : at + length front - at ≡ length front = omega arith in
      ap₂ (λ (k : ℕ) (t : List ℕ). take k t) n e ∙ take-append_seam front after

  behind : (at : ℕ) (front after : List ℕ) → drop at bytes ≡ front ++ after → drop (at + length front) bytes ≡ after
  behind at front after e = sym (drop-drop (length front) at bytes) ∙ ap (drop (length front)) e ∙ drop-append_seam front after

  words_cut : (at : ℕ) (text : List ℕ) (ts : List Token) (end : ℕ) (rest : List ℕ) → Cuts at text ts end rest → drop at bytes ≡ text → (t : Token) → Among t ts → t.kind ≡ kind.Word → IsName (view.word bytes t.span)
  words_cut _ _ _ _ _ (at_end at text) e t m w = elim m [ ]
  words_cut _ _ _ _ _ (piece at None front after ts end rest p c) e t m w = words_cut (at + length front) after ts end rest c (behind at front after e) t m w
  words_cut _ _ _ _ _ (piece at (Some k) front after ts end rest p c) e t m w =
      elim (first_or t (record { kind = k; span = record { from = at; to = at + length front } }) ts m) [
        | inl i ↦ subst IsName (sym (ap (λ (z : Token). view.word bytes z.span) i ∙ text_at at front after e)) (spelt_word k front p.0 (sym (ap (λ (z : Token). z.kind) i) ∙ w))
        | inr q ↦ words_cut (at + length front) after ts end rest c (behind at front after e) t q w
      ]

  abbrev IsNameSpan : Span → Type 0
  IsNameSpan s = IsName (view.word bytes s)

  -- the words that aren't reserved among the tokens are names
  abbrev KnowWords : List Token → Type 0
  KnowWords ts = (t : Token) → Among t ts → t.kind ≡ kind.Word → IsNameSpan t.span

  -- the name that a declaration declares
  abbrev DeclaresName : Decl → Type 0
  DeclaresName (decl.Sort s) = IsNameSpan s
  DeclaresName (decl.Relation m s args) = IsNameSpan s
  DeclaresName (decl.Constant m s r) = IsNameSpan s
  DeclaresName (decl.Function m s args r) = IsNameSpan s
  DeclaresName (decl.Transition s ps ms x) = IsNameSpan s
  DeclaresName _ = Unit {0}

  claims_none : (k : Kind) (make : _) (x : _) → IsClaim k make → DeclaresName (make x)
  claims_none _ _ x grammar.axiom_ = tt
  claims_none _ _ x grammar.init = tt
  claims_none _ _ x grammar.safety = tt
  claims_none _ _ x grammar.invariant = tt

  declares : (limits : Limits) (d : Decl) (ts : List Token) → SpellsDecl limits d ts → KnowWords ts → DeclaresName d
  declares limits _ _ (grammar.sort t w a b) h = h w (there _ _ _ (here _ _)) b
  declares limits _ _ (grammar.fact m t w k b i j l e) h = h w (there _ _ _ (there _ _ _ (here _ _))) e
  declares limits _ _ (grammar.relation m t w k b args s i j l e r) h = h w (there _ _ _ (there _ _ _ (here _ _))) e
  declares limits _ _ (grammar.constant m t w c r k b i j l e f g) h = h w (there _ _ _ (there _ _ _ (here _ _))) e
  declares limits _ _ (grammar.function m t w c r k b arg args s i j l e f g n) h = h w (there _ _ _ (there _ _ _ (here _ _))) e
  declares limits _ _ (grammar.claim t k make x a s i j l e) h = claims_none k make x j
  declares limits _ _ (grammar.transition t w params names x a b s i j l e f) h = h w (there _ _ _ (here _ _)) j
  declares limits _ _ (grammar.trace v t l r s i j k e f) h = tt

  abbrev AllDeclareNames : List Decl → Type 0
  AllDeclareNames [] = Unit {0}
  AllDeclareNames (d ∷ ds) = DeclaresName d × AllDeclareNames ds

  file_declares : (limits : Limits) (ds : List Decl) (ts : List Token) → SpellsFile limits ds ts → KnowWords ts → AllDeclareNames ds
  file_declares limits _ _ grammar.end h = tt
  file_declares limits _ _ (grammar.then x xs a b s f) h = (declares limits x a s (λ t m. h t (among_left t a b m)), file_declares limits xs b f (λ t m. h t (among_right t a b m)))

  at_front : (w : Span) (n : Name) (ns : List Name) → IsNameSpan w → Among n (view.name_of bytes w ∷ ns) → (Among n ns → IsName n.word) → IsName n.word
  at_front w n ns h m rest = elim (first_or n (view.name_of bytes w) ns m) [ inl e ↦ subst (λ (z : Name). IsName z.word) (sym e) h | inr q ↦ rest q ]

  symbol_first : (w : Span) (n : Name) (ds : List Decl) → IsNameSpan w → (IsDeclaredName (items_of bytes ds) n → IsName n.word)
      → Among n (sorts (items_of bytes ds)) ⊎ Among n (view.name_of bytes w ∷ symbol_names (items_of bytes ds)) ⊎ Among n (transitions (items_of bytes ds)) → IsName n.word
  symbol_first w n ds h rest m = elim m [ inl q ↦ rest (inl q) | inr r ↦ elim r [ inl q ↦ at_front w n _ h q (λ k. rest (inr (inl k))) | inr q ↦ rest (inr (inr q)) ] ]

  names_named : (ds : List Decl) → AllDeclareNames ds → (n : Name) → IsDeclaredName (items_of bytes ds) n → IsName n.word
  names_named [] h n m = elim m [ inl q ↦ elim q [ ] | inr r ↦ elim r [ inl q ↦ elim q [ ] | inr q ↦ elim q [ ] ] ]
  names_named (decl.Sort s ∷ ds) h n m = elim m [ inl q ↦ at_front s n _ h.0 q (λ k. names_named ds h.1 n (inl k)) | inr r ↦ names_named ds h.1 n (inr r) ]
  names_named (decl.Relation b s args ∷ ds) h n m = symbol_first s n ds h.0 (names_named ds h.1 n) m
  names_named (decl.Constant b s r ∷ ds) h n m = symbol_first s n ds h.0 (names_named ds h.1 n) m
  names_named (decl.Function b s args r ∷ ds) h n m = symbol_first s n ds h.0 (names_named ds h.1 n) m
  names_named (decl.Axiom x ∷ ds) h n m = names_named ds h.1 n m
  names_named (decl.Init x ∷ ds) h n m = names_named ds h.1 n m
  names_named (decl.Safety x ∷ ds) h n m = names_named ds h.1 n m
  names_named (decl.Invariant x ∷ ds) h n m = names_named ds h.1 n m
  names_named (decl.Transition s ps ms x ∷ ds) h n m =
      elim m [ inl q ↦ names_named ds h.1 n (inl q) | inr r ↦ elim r [ inl q ↦ names_named ds h.1 n (inr (inl q)) | inr q ↦ at_front s n _ h.0 q (λ k. names_named ds h.1 n (inr (inr k))) ] ]
  names_named (decl.Trace ∷ ds) h n m = names_named ds h.1 n m

  -- The declared names of a file that the text spells are words that aren't reserved.
  pub spelt_names : (limits : Limits) (ds : List Decl) (ts : List Token) → AreTokens bytes ts → SpellsFile limits ds ts → (n : Name) → IsDeclaredName (items_of bytes ds) n → IsName n.word
  spelt_names limits ds ts cut spelt n m = names_named ds (file_declares limits ds ts spelt (words_cut 0 bytes ts (length bytes) [] cut refl)) n m

module _ (limits : Limits) where
  decl_some : (d : Decl) (ts : List Token) → SpellsDecl limits d ts → 1 ≤ length ts
  decl_some _ _ (grammar.sort t w a b) = omega arith
  decl_some _ _ (grammar.fact m t w k b i j l e) = omega arith
  decl_some _ _ (grammar.relation m t w k b args s i j l e r) = omega arith
  decl_some _ _ (grammar.constant m t w c r k b i j l e f g) = omega arith
  decl_some _ _ (grammar.function m t w c r k b arg args s i j l e f g n) = omega arith
  decl_some _ _ (grammar.claim t k make x a s i j l e) = omega arith
  decl_some _ _ (grammar.transition t w params names x a b s i j l e f) = omega arith
  decl_some _ _ (grammar.trace v t l r s i j k e f) = omega arith

  pub few_declarations : (ds : List Decl) (ts : List Token) → SpellsFile limits ds ts → length ds ≤ length ts
  few_declarations _ _ grammar.end = omega arith
  few_declarations _ _ (grammar.then x xs a b s f) = let one = decl_some x a s in let rest = few_declarations xs b f in let long = length-append a b in omega (arith, one, rest, long)

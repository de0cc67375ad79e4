-- A text has a first fault or means a system, never both; it means one at most, and its faults have one status.
use Rattle.std.proofs.Common.{◌≡◌, ◌<◌, ◌^◌, ◌∙◌, ℕ, List, Option, Some, Ok, Err, length, sym, ap, subst, refl, arith}
use Rattle.std.proofs.lemmas.List.{length-map}
use Rattle.fo_core.specs.declared.names.Names.{Names}
use Rattle.fo_core.specs.declared.system.System.{System}
use Rattle.pyv_lex.specs.Fault.{IsLexFault}
use Rattle.pyv_lex.specs.declared.token.Token.{Token}
use Rattle.pyv_lex.specs.declared.token.LexFault.{LexFault}
use Rattle.pyv_lex.specs.declared.token.LexFault.TheVariants as lex
use Rattle.pyv_lex.proofs.Lexing.{only}
use Rattle.pyv_grammar.specs.declared.tree.Decl.{Decl}
use Rattle.pyv_grammar.specs.declared.tree.Model.{Model}
use Rattle.pyv_grammar.proofs.Files.{one_tree}
use Rattle.pyv_parse.specs.Faults.{limits, IsFile, IsParseFault}
use Rattle.pyv_parse.specs.declared.fault.ParseFault.{ParseFault}
use Rattle.pyv_meaning.specs.Items.{items_of, item_of}
use Rattle.pyv_meaning.specs.Meaning.{ItemsMean, IsFirstOfItems, IsFirstFault, IsSortFault}
use Rattle.pyv_meaning.specs.declared.fault.SortFault.{SortFault}
use Rattle.pyv_meaning.specs.declared.fault.SortFault.TheVariants as sorts
use Rattle.pyv_meaning.proofs.ItemsFit.{well_sorted, within_depth, names_fit}
use Rattle.pyv_meaning.proofs.Spelt.{few_declarations}
use Rattle.pyv_meaning.proofs.Whole.{excluded, unique}
use Rattle.updr_told.specs.declared.status.Status.{Status}
use Rattle.updr_told.specs.declared.status.Status.TheVariants as status
use Rattle.updr_model.specs.Faults.{Telling, lex_telling, parse_telling, sort_telling}
use Rattle.updr_model.specs.OneFault.{status_or, no_tree_beside, one_parse_status}
use Rattle.updr_model.specs.Texts.{HasTokens, HasTree, MeansText, IsFault, of_tokens, of_tree, of_meaning, IsModel}

-- ---- the statuses of faults of tokens and of meanings

pub lex_status : (f : LexFault) → status_or status.NotRead (lex_telling f) ≡ status.NotRead
lex_status (lex.NotUtf8 p) = refl
lex_status (lex.BadChar p) = refl
lex_status (lex.TooMany p) = refl
lex_status lex.Memory = refl

pub sort_status : (f : SortFault) → status_or status.Sorts (sort_telling f) ≡ status.Sorts
sort_status (sorts.UnknownName p) = refl
sort_status (sorts.TwiceDeclared p) = refl
sort_status (sorts.WrongArity p) = refl
sort_status (sorts.SortClash p) = refl
sort_status (sorts.NoSort p) = refl
sort_status (sorts.NotATerm p) = refl
sort_status (sorts.NotAFormula p) = refl
sort_status (sorts.NewOutsideStep p) = refl
sort_status (sorts.NewTwice p) = refl
sort_status (sorts.NotMutable p) = refl
sort_status (sorts.TooMany p) = refl
sort_status sorts.Memory = refl

pub told_status : (a : Status) (x : Option Telling) (t : Telling) → x ≡ Some t → status_or a x ≡ a → t.status ≡ a
told_status a x t is own = sym (ap (status_or a) is) ∙ own

-- a fault that is told is the first one
first_told : (bytes : List ℕ) (m : Model) (f : SortFault) (t : Telling) → sort_telling f ≡ Some t → IsSortFault bytes m f → IsFirstFault bytes m f
first_told bytes m (sorts.UnknownName p) t told h = h
first_told bytes m (sorts.TwiceDeclared p) t told h = h
first_told bytes m (sorts.WrongArity p) t told h = h
first_told bytes m (sorts.SortClash p) t told h = h
first_told bytes m (sorts.NoSort p) t told h = h
first_told bytes m (sorts.NotATerm p) t told h = h
first_told bytes m (sorts.NotAFormula p) t told h = h
first_told bytes m (sorts.NewOutsideStep p) t told h = h
first_told bytes m (sorts.NewTwice p) t told h = h
first_told bytes m (sorts.NotMutable p) t told h = h
first_told bytes m (sorts.TooMany p) t told h = h
first_told bytes m sorts.Memory t told h = absurd cc

module _ (bytes : List ℕ) where
  -- ---- tokens and trees

  one_tokens : (ts us : List Token) → HasTokens bytes ts → HasTokens bytes us → ts ≡ us
  one_tokens ts us a b = only bytes (Ok ts) (a.cut, a.few) tt us b.text b.cut b.few

  no_tokens_beside : (f : LexFault) (t : Telling) → lex_telling f ≡ Some t → IsLexFault bytes f → (ts : List Token) → HasTokens bytes ts → ⊥
  no_tokens_beside (lex.NotUtf8 p) t told f ts has = only bytes (Err (lex.NotUtf8 p)) tt f ts has.text has.cut has.few
  no_tokens_beside (lex.BadChar p) t told f ts has = only bytes (Err (lex.BadChar p)) tt f ts has.text has.cut has.few
  no_tokens_beside (lex.TooMany p) t told f ts has = only bytes (Err (lex.TooMany p)) tt f ts has.text has.cut has.few
  no_tokens_beside lex.Memory t told f ts has = absurd cc

  one_decls : (m n : Model) → HasTree bytes m → HasTree bytes n → m.decls ≡ n.decls
  one_decls m n a b =
      one_tree limits limits m.decls n.decls b.tokens
      (subst (λ (ts : List Token). IsFile m.decls ts) (one_tokens a.tokens b.tokens a.has b.has) a.spells) b.spells

  no_tree_here : (ts : List Token) (f : ParseFault) (t : Telling) → HasTokens bytes ts → parse_telling bytes f ≡ Some t → IsParseFault bytes ts f → (m : Model) → HasTree bytes m → ⊥
  no_tree_here ts f t has told first m tree =
      no_tree_beside bytes ts f t told first m.decls
      (subst (λ (us : List Token). IsFile m.decls us) (one_tokens tree.tokens ts tree.has has) tree.spells)

  -- ---- faults

  pub one_status : (s t : Telling) → IsFault bytes s → IsFault bytes t → s.status ≡ t.status
  one_status s t (of_tokens f _ a) (of_tokens g _ b) = told_status status.NotRead (lex_telling f) s a (lex_status f) ∙ sym (told_status status.NotRead (lex_telling g) t b (lex_status g))
  one_status s t (of_tokens f first a) (of_tree ts g has _ _) = absurd (no_tokens_beside f s a first ts has)
  one_status s t (of_tokens f first a) (of_meaning m g tree _ _) = absurd (no_tokens_beside f s a first tree.tokens tree.has)
  one_status s t (of_tree ts g has _ _) (of_tokens f first b) = absurd (no_tokens_beside f t b first ts has)
  one_status s t (of_tree ts f has first a) (of_tree us g others other b) =
      one_parse_status bytes ts f g s t a b first (subst (λ (l : List Token). IsParseFault bytes l g) (one_tokens us ts others has) other)
  one_status s t (of_tree ts f has first a) (of_meaning m g tree _ _) = absurd (no_tree_here ts f s has a first m tree)
  one_status s t (of_meaning m g tree _ _) (of_tokens f first b) = absurd (no_tokens_beside f t b first tree.tokens tree.has)
  one_status s t (of_meaning m g tree _ _) (of_tree ts f has first b) = absurd (no_tree_here ts f t has b first m tree)
  one_status s t (of_meaning m f _ _ a) (of_meaning n g _ _ b) = told_status status.Sorts (sort_telling f) s a (sort_status f) ∙ sym (told_status status.Sorts (sort_telling g) t b (sort_status g))

  module _ (sys : System) (names : Names) (means : MeansText bytes sys names) where
    pub no_fault : (t : Telling) → IsFault bytes t → ⊥
    no_fault t (of_tokens f first a) = no_tokens_beside f t a first means.tree.tokens means.tree.has
    no_fault t (of_tree ts f has first a) = no_tree_here ts f t has a first means.model means.tree
    no_fault t (of_meaning m f tree first a) =
        excluded (items_of bytes means.model.decls) sys names f means.means
        (subst (λ (ds : List Decl). IsFirstOfItems (items_of bytes ds) f) (one_decls m means.model tree means.tree) (first_told bytes m f t a first))

    pub one_meaning : (other : System) (others : Names) → MeansText bytes other others → (sys ≡ other) × (names ≡ others)
    one_meaning other others them =
        unique (items_of bytes means.model.decls) sys other names others means.means
        (subst (λ (ds : List Decl). ItemsMean (items_of bytes ds) other others) (one_decls them.model means.model them.tree means.tree) them.means)

    -- a file has no more declarations than tokens
    few : length means.model.decls < 2 ^ 32
    few =
        let least = means.tree.has.few in
        let most = few_declarations limits means.model.decls means.tree.tokens means.tree.spells in
        omega arith

    pub is_model : IsModel sys names
    is_model = record {
      system = well_sorted (items_of bytes means.model.decls) sys names means.means (subst (λ (n : ℕ). n < 2 ^ 32) (sym (length-map means.model.decls (item_of bytes))) few);
      shallow = within_depth (items_of bytes means.model.decls) sys names means.means;
      named = names_fit (items_of bytes means.model.decls) sys names means.means;
    }

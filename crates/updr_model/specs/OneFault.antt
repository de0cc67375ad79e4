-- A list of tokens has one first fault at most, and none beside a tree.
use Rattle.std.proofs.Common.{◌≡◌, ℕ, List, [], ◌∷◌, ◌++◌, Option, Some, None, refl, sym, ap, subst, ◌∙◌, append_assoc}
use Rattle.std.proofs.lemmas.List.{append-nil}
use Rattle.pyv_lex.specs.declared.token.Token.{Token}
use Rattle.pyv_grammar.specs.declared.tree.Decl.{Decl}
use Rattle.pyv_grammar.specs.Grammar.{SpellsFile}
use Rattle.pyv_grammar.specs.Verdict.{Viable, Stops}
use Rattle.pyv_parse.specs.Faults.{limits, IsFile, StopsAt, IsParseFault, BeginsUnsupported}
use Rattle.pyv_parse.specs.declared.fault.ParseFault.{ParseFault}
use Rattle.pyv_parse.specs.declared.fault.ParseFault.TheVariants.{Syntax, Unsupported, TooDeep, Memory}
use Rattle.updr_told.specs.declared.status.Status.{Status}
use Rattle.updr_told.specs.declared.status.Status.TheVariants as status
use Rattle.updr_model.specs.Faults.{Telling, parse_telling}

-- the first of a longer front
viable_front : (a b : List Token) → Viable limits (a ++ b) → Viable limits a
viable_front a b v = record { rest = b ++ v.rest; decls = v.decls; spells = subst (λ (l : List Token). SpellsFile limits v.decls l) (append_assoc a b v.rest) v.spells }

module _ (tokens front : List Token) where
  stops_tree : (back : List Token) → tokens ≡ front ++ back → Stops limits front back → (decls : List Decl) → IsFile decls tokens → ⊥
  stops_tree [] parts stops decls is = stops decls (subst (λ (l : List Token). SpellsFile limits decls l) (parts ∙ append-nil front) is)
  stops_tree (t ∷ after) parts stops decls is =
      stops (record { rest = after; decls = decls; spells = subst (λ (l : List Token). SpellsFile limits decls l) (parts ∙ sym (append_assoc front (t ∷ []) after)) is })

  -- a longer front that some file begins with
  not_longer : (back : List Token) (t : Token) (more : List Token) → back ≡ t ∷ more → Stops limits front back → (longer : List Token) → Viable limits (front ++ t ∷ longer) → ⊥
  not_longer [] t more is stops longer v = cc
  not_longer (u ∷ after) t more is stops longer v =
      let same : t ≡ u = sym (ap (λ (l : List Token). first_or t l) is) in
      stops (viable_front (front ++ u ∷ []) longer (subst (λ (l : List Token). Viable limits l) (ap (λ (x : Token). front ++ x ∷ longer) same ∙ sym (append_assoc front (u ∷ []) longer)) v))
    where
      first_or : Token → List Token → Token
      first_or x [] = x
      first_or x (y ∷ ys) = y

-- two ways to cut a list
pub data Cut (a b c d : List Token) : Type 0 where
  same : a ≡ c → b ≡ d → Cut a b c d
  before : (t : Token) (more : List Token) → c ≡ a ++ t ∷ more → b ≡ t ∷ (more ++ d) → Cut a b c d
  behind : (t : Token) (more : List Token) → a ≡ c ++ t ∷ more → d ≡ t ∷ (more ++ b) → Cut a b c d

head_is : (x y : Token) (xs ys : List Token) → x ∷ xs ≡ y ∷ ys → (x ≡ y) × (xs ≡ ys)
head_is x y xs ys is = (cc, cc)

cut : (a b c d : List Token) → a ++ b ≡ c ++ d → Cut a b c d
cut [] b [] d is = same refl is
cut [] b (t ∷ c) d is = before t c refl is
cut (t ∷ a) b [] d is = behind t a refl (sym is)
cut (t ∷ a) b (u ∷ c) d is =
    let h = head_is t u (a ++ b) (c ++ d) is in
    one_more (cut a b c d h.1) h.0
  where
    one_more : Cut a b c d → t ≡ u → Cut (t ∷ a) b (u ∷ c) d
    one_more (same e f) h = same (rw (e, h) refl) f
    one_more (before v more e f) h = before v more (rw (e, h) refl) f
    one_more (behind v more e f) h = behind v more (rw (e, h) refl) f

module _ (tokens : List Token) (P Q : List Token → List Token → Type 0) where
  -- two first faults stand at one place
  one_place : (s : StopsAt tokens P) → (t : StopsAt tokens Q) → s.back ≡ t.back
  one_place s t = of (cut s.front s.back t.front t.back (sym s.parts ∙ t.parts))
    where
      of : Cut s.front s.back t.front t.back → s.back ≡ t.back
      of (same _ is) = is
      of (before u more e f) = absurd (not_longer tokens s.front s.back u (more ++ t.back) f s.stops more (subst (λ (l : List Token). Viable limits l) e t.viable))
      of (behind u more e f) = absurd (not_longer tokens t.front t.back u (more ++ s.back) f t.stops more (subst (λ (l : List Token). Viable limits l) e s.viable))

-- the status that is told, or another one where nothing is
abbrev pub status_or : Status → Option Telling → Status
status_or other None = other
status_or other (Some t) = t.status

module _ (bytes : List ℕ) (tokens : List Token) where
  pub no_tree_beside : (f : ParseFault) (t : Telling) → parse_telling bytes f ≡ Some t → IsParseFault bytes tokens f → (decls : List Decl) → IsFile decls tokens → ⊥
  no_tree_beside (Syntax p) t told s decls is = stops_tree tokens s.front s.back s.parts s.stops decls is
  no_tree_beside (Unsupported p) t told s decls is = stops_tree tokens s.front s.back s.parts s.stops decls is
  no_tree_beside (TooDeep p) t told s decls is = stops_tree tokens s.front s.back s.parts s.stops decls is
  no_tree_beside Memory t told _ decls is = absurd cc

  same_status : (a : Status) (x y : Option Telling) (s t : Telling) → x ≡ Some s → y ≡ Some t → status_or a x ≡ status_or a y → s.status ≡ t.status
  same_status a x y s t f g is = sym (ap (status_or a) f) ∙ is ∙ ap (status_or a) g

  not_apart : (P Q : List Token → List Token → Type 0) → ((front back : List Token) → P front back → ¬ BeginsUnsupported bytes back) → ((front back : List Token) → Q front back → BeginsUnsupported bytes back) → StopsAt tokens P → StopsAt tokens Q → ⊥
  not_apart P Q known unknown s t = known s.front s.back s.is (subst (BeginsUnsupported bytes) (sym (one_place tokens P Q s t)) (unknown t.front t.back t.is))

  -- two first faults are told with one status
  pub one_parse_status : (f g : ParseFault) (s t : Telling) → parse_telling bytes f ≡ Some s → parse_telling bytes g ≡ Some t → IsParseFault bytes tokens f → IsParseFault bytes tokens g → s.status ≡ t.status
  one_parse_status (Syntax p) (Syntax q) s t a b f g = same_status status.NotRead (parse_telling bytes (Syntax p)) (parse_telling bytes (Syntax q)) s t a b refl
  one_parse_status (Syntax p) (TooDeep q) s t a b f g = same_status status.NotRead (parse_telling bytes (Syntax p)) (parse_telling bytes (TooDeep q)) s t a b refl
  one_parse_status (TooDeep p) (Syntax q) s t a b f g = same_status status.NotRead (parse_telling bytes (TooDeep p)) (parse_telling bytes (Syntax q)) s t a b refl
  one_parse_status (TooDeep p) (TooDeep q) s t a b f g = same_status status.NotRead (parse_telling bytes (TooDeep p)) (parse_telling bytes (TooDeep q)) s t a b refl
  one_parse_status (Unsupported p) (Unsupported q) s t a b f g = same_status status.NotRead (parse_telling bytes (Unsupported p)) (parse_telling bytes (Unsupported q)) s t a b refl
  one_parse_status (Syntax p) (Unsupported q) s t a b f g = absurd (not_apart _ _ (λ front back h. h.2) (λ front back h. h.2) f g)
  one_parse_status (TooDeep p) (Unsupported q) s t a b f g = absurd (not_apart _ _ (λ front back h. h.2) (λ front back h. h.2) f g)
  one_parse_status (Unsupported p) (Syntax q) s t a b f g = absurd (not_apart _ _ (λ front back h. h.2) (λ front back h. h.2) g f)
  one_parse_status (Unsupported p) (TooDeep q) s t a b f g = absurd (not_apart _ _ (λ front back h. h.2) (λ front back h. h.2) g f)
  one_parse_status Memory g s t a b f h = absurd cc
  one_parse_status (Syntax p) Memory s t a b f h = absurd cc
  one_parse_status (TooDeep p) Memory s t a b f h = absurd cc
  one_parse_status (Unsupported p) Memory s t a b f h = absurd cc

-- A text is cut in one way.
use Rattle.std.proofs.Common.{◌≡◌, ℕ, ◌+◌, ◌<◌, List, [], ◌++◌, length, Option, Some, None, refl, sym, ap, ap₂, subst, ◌∙◌, arith, append_assoc}
use Rattle.std.proofs.lemmas.List.{length-append}
use Rattle.pyv_lex.specs.declared.token.Kind.{Kind}
use Rattle.pyv_lex.specs.declared.token.Token.{Token}
use Rattle.pyv_lex.specs.Cutting.{IsPiece, BeginsBad, token_of, Cuts, AreTokens}
use Rattle.pyv_lex.specs.Cutting as cut
use Rattle.pyv_lex.specs.Fault.{BeginsToken}
use Rattle.pyv_lex.proofs.Pieces.{unique, some_piece, no_bad}

append_nil_is : (kind : Option Kind) (at n : ℕ) → token_of kind at n ++ [] ≡ token_of kind at n
append_nil_is None at n = refl
append_nil_is (Some k) at n = refl

-- one piece more
pub cuts_more : {at : ℕ} {text : List ℕ} {tokens : List Token} {end : ℕ} {rest : List ℕ} → Cuts at text tokens end rest → (kind : Option Kind) (front after : List ℕ) → rest ≡ front ++ after → IsPiece kind front after
    → Cuts at text (tokens ++ token_of kind end (length front)) (end + length front) after
cuts_more (cut.here at text) kind front after e p =
    let one : Cuts at (front ++ after) (token_of kind at (length front) ++ []) (at + length front) after = cut.piece at kind front after [] (at + length front) after p (cut.here (at + length front) after) in
    subst (λ (t : List Token). Cuts at text t (at + length front) after) (append_nil_is kind at (length front)) (subst (λ (s : List ℕ). Cuts at s (token_of kind at (length front) ++ []) (at + length front) after) (sym e) one)
cuts_more (cut.piece at k first next tokens end rest q c) kind front after e p =
    subst (λ (t : List Token). Cuts at (first ++ next) t (end + length front) after) (sym (append_assoc (token_of k at (length first)) tokens (token_of kind end (length front))))
    (cut.piece at k first next (tokens ++ token_of kind end (length front)) (end + length front) after q (cuts_more c kind front after e p))

-- what is left of a cut of all, behind a cut of a front
pub record Left (tokens found : List Token) (at : ℕ) (rest : List ℕ) (end : ℕ) : Type 0 where
  pub more : List Token
  pub parts : tokens ≡ found ++ more
  pub cut : Cuts at rest more end []

pub record Step (tokens : List Token) (kind : Option Kind) (at : ℕ) (front after : List ℕ) (end : ℕ) : Type 0 where
  pub more : List Token
  pub parts : tokens ≡ token_of kind at (length front) ++ more
  pub cut : Cuts (at + length front) after more end []

-- a cut of all begins with the piece that stands at the front
pub step : {at : ℕ} {text : List ℕ} {tokens : List Token} {end : ℕ} {rest : List ℕ} → Cuts at text tokens end rest → rest ≡ [] → (kind : Option Kind) (front after : List ℕ) → text ≡ front ++ after → IsPiece kind front after
    → Step tokens kind at front after end
step (cut.here at text) none kind front after e p =
    let l = length-append front after in
    let m = some_piece kind front after p in
    let n = ap length (sym e ∙ none) in
    absurd (omega arith)
step (cut.piece at k first next tokens end rest q c) none kind front after e p =
    let s = unique k kind first next front after q p e in
    record {
      more = tokens;
      parts = ap₂ (λ (z : Option Kind) (t : List ℕ). token_of z at (length t) ++ tokens) s.kind s.text;
      cut = subst (λ (r : List ℕ). Cuts (at + length front) after tokens end r) none (subst (λ (z : List ℕ). Cuts (at + length front) z tokens end rest) s.rest (subst (λ (z : List ℕ). Cuts (at + length z) next tokens end rest) s.text c));
    }

pub behind : {at : ℕ} {text : List ℕ} {found : List Token} {place : ℕ} {rest : List ℕ} → Cuts at text found place rest → (tokens : List Token) (end : ℕ) → Cuts at text tokens end [] → Left tokens found place rest end
behind (cut.here at text) tokens end all = record { more = tokens; parts = refl; cut = all }
behind (cut.piece at kind front after found place rest p c) tokens end all =
    let s = step all refl kind front after refl p in
    let b = behind c s.more end s.cut in
    record {
      more = b.more;
      parts = s.parts ∙ ap (λ (z : List Token). token_of kind at (length front) ++ z) b.parts ∙ sym (append_assoc (token_of kind at (length front)) found b.more);
      cut = b.cut;
    }

-- nothing is left to cut
pub none_left : {at : ℕ} {text : List ℕ} {tokens : List Token} {end : ℕ} {rest : List ℕ} → Cuts at text tokens end rest → text ≡ [] → tokens ≡ []
none_left (cut.here at text) e = refl
none_left (cut.piece at kind front after tokens end rest p c) e =
    let l = length-append front after in
    let m = some_piece kind front after p in
    let n = ap length e in
    absurd (omega arith)

pub no_bad_cut : {at : ℕ} {text : List ℕ} {tokens : List Token} {end : ℕ} {rest : List ℕ} → Cuts at text tokens end rest → rest ≡ [] → BeginsBad text → ⊥
no_bad_cut (cut.here at text) none bad = subst BeginsBad none bad
no_bad_cut (cut.piece at kind front after tokens end rest p c) none bad = no_bad (front ++ after) bad kind front after p refl

-- where a token begins there is one more
pub one_more : (at : ℕ) (text : List ℕ) (tokens : List Token) (end : ℕ) → Cuts at text tokens end [] → BeginsToken text → 0 < length tokens
one_more at text tokens end c t =
    let s = step c refl (Some t.kind) t.front t.rest t.parts t.is in
    let l = ap length s.parts in
    omega arith

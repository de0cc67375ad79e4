-- The loop over the pieces of a text, and its answers.
use Rattle.std.proofs.Common.{◌≡◌, ℕ, ◌+◌, ◌-◌, ◌<◌, ◌≤◌, List, ◌++◌, length, take, drop, Option, Some, None, Result, Ok, Err, refl, sym, ap, subst, ◌∙◌, ◌⊎◌, inl, inr, arith}
use Rattle.std.specs.Prelude.{IfOk, IfErr, IsSome}
use Rattle.std.specs.Str.{IsUtf8}
use Rattle.std.proofs.Math.Seq.{take-length}
use Rattle.std.proofs.lemmas.List.{take-append-drop, length-take-le, append-nil, length-append, length-drop, drop-drop}
use Rattle.pyv_lex.specs.declared.token.Kind.{Kind}
use Rattle.pyv_lex.specs.declared.token.Token.{Token}
use Rattle.pyv_lex.specs.declared.token.LexFault.{LexFault}
use Rattle.pyv_lex.specs.declared.token.LexFault.TheVariants.{NotUtf8, BadChar, TooMany, Memory}
use Rattle.pyv_lex.specs.Cutting.{token_of, Cuts, AreTokens}
use Rattle.pyv_lex.specs.Fault.{IsLexFault, OkUnlessMemory, BeginsToken}
use Rattle.pyv_lex.proofs.Pieces.{some_piece}
use Rattle.pyv_lex.proofs.Fronts.{Fronts}
use Rattle.pyv_lex.proofs.Cuts.{cuts_more, behind, none_left, no_bad_cut, one_more}

-- what `&bytes[at..]` is
pub front_of : (bytes : List ℕ) (at n : ℕ) (k : Option Kind) → Fronts k n (take (length bytes - at) (drop at bytes)) → Fronts k n (drop at bytes)
front_of bytes at n k f = subst (Fronts k n) (ap (λ m. take m (drop at bytes)) (sym (length-drop at bytes)) ∙ take-length (drop at bytes)) f

pub next : (bytes : List ℕ) (at : ℕ) (found new : List Token) (k : Option Kind) (n : ℕ) → Cuts 0 bytes found at (drop at bytes) → Fronts k n (drop at bytes) → new ≡ found ++ token_of k at n → Cuts 0 bytes new (at + n) (drop (at + n) bytes)
next bytes at found new k n c f e =
    let rest = drop at bytes in
    let len : length (take n rest) ≡ n = length-take-le n rest f.0 in
    let more = cuts_more c k (take n rest) (drop n rest) (sym (take-append-drop n rest)) f.1 in
    let moved : Cuts 0 bytes (found ++ token_of k at n) (at + n) (drop n rest) = subst (λ m. Cuts 0 bytes (found ++ token_of k at m) (at + m) (drop n rest)) len more in
    subst (λ (t : List Token). Cuts 0 bytes t (at + n) (drop (at + n) bytes)) (sym e) (subst (λ (r : List ℕ). Cuts 0 bytes (found ++ token_of k at n) (at + n) r) (drop-drop n at bytes) moved)

pub smaller : (bytes : List ℕ) (at n : ℕ) (k : Option Kind) → at < length bytes → Fronts k n (drop at bytes) → length bytes - (at + n) < length bytes - at
smaller bytes at n k lt f =
    let rest = drop at bytes in
    let len : length (take n rest) ≡ n = length-take-le n rest f.0 in
    let some = some_piece k (take n rest) (drop n rest) f.1 in
    omega arith

begins : (k : Option Kind) (n : ℕ) (rest : List ℕ) → IsSome k → Fronts k n rest → BeginsToken rest
begins None n rest s f = absurd cc
begins (Some k) n rest s f = record { kind = k; front = take n rest; rest = drop n rest; parts = sym (take-append-drop n rest); is = f.1 }

pub keep_fault : (bytes : List ℕ) (found : List Token) (at n : ℕ) (k : Option Kind) (f : LexFault) → IsUtf8 bytes → Cuts 0 bytes found at (drop at bytes) → Fronts k n (drop at bytes)
    → ((f ≡ TooMany at) × (length found ≡ 200000) × IsSome k) ⊎ (f ≡ Memory) → IsLexFault bytes f
keep_fault bytes found at n k f utf8 c p (inl e) = subst (IsLexFault bytes) (sym e.0) (utf8, record { tokens = found; rest = drop at bytes; cut = c; follows = (e.1, begins k n (drop at bytes) e.2 p) })
keep_fault bytes found at n k f utf8 c p (inr e) = subst (IsLexFault bytes) (sym e) tt

pub only : (bytes : List ℕ) (r : Result (List Token) LexFault) → IfOk r (λ found. AreTokens bytes found × (length found ≤ 200000)) → IfErr r (IsLexFault bytes)
    → (ts : List Token) → IsUtf8 bytes → AreTokens bytes ts → length ts ≤ 200000 → OkUnlessMemory r ts
only bytes (Ok found) ok err ts utf8 all few =
    let l = behind ok.0 ts (length bytes) all in
    sym (l.parts ∙ ap (λ (m : List Token). found ++ m) (none_left l.cut refl) ∙ append-nil found)
only bytes (Err (NotUtf8 place)) ok err ts utf8 all few = let s = err.short in err.longest (length bytes) s (subst IsUtf8 (sym (take-length bytes)) utf8)
only bytes (Err (BadChar place)) ok err ts utf8 all few =
    let l = behind err.1.cut ts (length bytes) all in
    no_bad_cut l.cut refl err.1.follows.1
only bytes (Err (TooMany place)) ok err ts utf8 all few =
    let l = behind err.1.cut ts (length bytes) all in
    let m = one_more place err.1.rest l.more (length bytes) l.cut err.1.follows.1 in
    let n = ap length l.parts in
    let k = length-append err.1.tokens l.more in
    let full = err.1.follows.0 in
    absurd (omega arith)
only bytes (Err Memory) ok err ts utf8 all few = tt

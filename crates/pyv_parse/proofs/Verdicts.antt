-- The answer of the parser, from where reading stopped.
use Rattle.std.proofs.Common.{◌≡◌, ℕ, ◌-◌, ◌≤◌, inl, inr, List, [], ◌∷◌, ◌++◌, length, drop, Result, Ok, Err, sym, ap, subst, ◌∙◌, length-append, arith}
use Rattle.std.proofs.Math.Seq.{drop-append_seam}
use Rattle.pyv_lex.specs.declared.token.Kind.{Kind}
use Rattle.pyv_lex.specs.declared.token.Kind.TheVariants as kind
use Rattle.pyv_lex.specs.declared.token.Token.{Token}
use Rattle.pyv_grammar.specs.declared.tree.Decl.{Decl}
use Rattle.pyv_grammar.specs.declared.reading.Stuck.{Stuck}
use Rattle.pyv_grammar.specs.declared.reading.Stuck.TheVariants.{Bad, Deep}
use Rattle.pyv_grammar.specs.Grammar.{Endless}
use Rattle.pyv_grammar.specs.Reading.{whole}
use Rattle.pyv_grammar.specs.Verdict.{Viable, Stops, GoesOn}
use Rattle.pyv_grammar.proofs.Local.{left}
use Rattle.pyv_grammar.proofs.Strict.{append_cancel_length}
use Rattle.pyv_grammar.proofs.Files.{complete_whole, sound_whole, first_fault, endless_file}
use Rattle.pyv_parse.specs.declared.halt.Halt.{Halt}
use Rattle.pyv_parse.specs.declared.halt.Halt.TheVariants as halt
use Rattle.pyv_parse.specs.declared.fault.ParseFault.{ParseFault}
use Rattle.pyv_parse.specs.declared.fault.ParseFault.TheVariants as fault
use Rattle.pyv_parse.specs.Gives.{Fails}
use Rattle.pyv_parse.specs.Faults.{limits, IsFile, IsUnlessMemory, IsLeftOut, BeginsUnsupported, IsParseFault}
use Rattle.pyv_parse.specs.Told.{IsAmong, TellsBad, TellsDeep, last_of, Tells}
use Rattle.pyv_parse.proofs.Openers.{Opens, deep_at_opener}

abbrev all_ok : List Decl → Result (List Decl) Stuck
all_ok xs = Ok xs

pub found : (ts : List Token) (xs : List Decl) → whole 200 6 ts ≡ Ok xs → IsFile xs ts
found ts xs h = sound_whole 200 6 ts xs h

pub only : (ts : List Token) (xs ys : List Decl) → whole 200 6 ts ≡ Ok xs → IsFile ys ts → xs ≡ ys
only ts xs ys h k =
    let same : all_ok xs ≡ all_ok ys = sym h ∙ complete_whole 200 6 ys ts k in
    cc

-- where tokens are left, they are among all
few : (n v : ℕ) (ts : List Token) (d : Stuck) → whole n v ts ≡ Err d → left d ≤ length ts
few n v ts d h =
    let w = first_fault n v ts d h in
    let len = ap length w.parts ∙ length-append w.front w.back in
    omega (arith, len, w.len)

pub among : (ts : List Token) (h : Halt) → Fails h (whole 200 6 ts) → IsAmong ts h
among ts halt.Memory e = tt
among ts (halt.Stuck (Bad k)) e = few 200 6 ts (Bad k) e
among ts (halt.Stuck (Deep k)) e = few 200 6 ts (Deep k) e

only_stuck : (ts : List Token) (d : Stuck) (ys : List Decl) → whole 200 6 ts ≡ Err d → IsFile ys ts → ⊥
only_stuck ts d ys h k =
    let same : all_ok ys ≡ Err d = sym (complete_whole 200 6 ys ts k) ∙ h in
    absurd cc

only_memory : (ys : List Decl) (f : ParseFault) → f ≡ fault.Memory → IsUnlessMemory (Err f) ys
only_memory ys f e = subst (λ (g : ParseFault). IsUnlessMemory (Err g) ys) (sym e) tt

pub only_fault : (bytes : List ℕ) (ts : List Token) (h : Halt) (f : ParseFault) (ys : List Decl) → Fails h (whole 200 6 ts) → Tells bytes ts h f → IsFile ys ts → IsUnlessMemory (Err f) ys
only_fault bytes ts halt.Memory f ys e t k = only_memory ys f t
only_fault bytes ts (halt.Stuck d) f ys e t k = absurd (only_stuck ts d ys e k)

-- ---- the first fault

last_is : (front back : List Token) (n : ℕ) → n ≡ length back → last_of n (front ++ back) ≡ back
last_is front back n e =
    let len = length-append front back in
    let at : length (front ++ back) - n ≡ length front = omega arith in
    ap (λ (i : ℕ). drop i (front ++ back)) at ∙ drop-append_seam front back

stops_within : (front back : List Token) → Stops Endless front back → Stops limits front back
stops_within front [] h = λ xs k. h xs (endless_file k)
stops_within front (t ∷ ts) h = λ w. h (record { rest = w.rest; decls = w.decls; spells = endless_file w.spells })

goes_nowhere : (front back : List Token) → Stops Endless front back → GoesOn Endless front back → ⊥
goes_nowhere front [] h g = absurd g
goes_nowhere front (t ∷ ts) h g = h g

not_left_out : {k : Kind} → IsLeftOut k → Opens k → ⊥
not_left_out IsLeftOut.theorem o = elim o [ ]
not_left_out IsLeftOut.derived o = elim o [ ]
not_left_out IsLeftOut.definition o = elim o [ ]
not_left_out IsLeftOut.onestate o = elim o [ ]
not_left_out IsLeftOut.twostate o = elim o [ ]
not_left_out IsLeftOut.zerostate o = elim o [ ]
not_left_out IsLeftOut.automaton o = elim o [ ]
not_left_out IsLeftOut.sketch o = elim o [ ]
not_left_out IsLeftOut.let_word o = elim o [ ]
not_left_out IsLeftOut.bool_word o = elim o [ ]
not_left_out IsLeftOut.int_word o = elim o [ ]
not_left_out IsLeftOut.number o = elim o [ ]

not_other : (k : Kind) → k ≡ kind.Other → Opens k → ⊥
not_other k e o = let at : Opens kind.Other = subst Opens e o in elim at [ ]

supported : (bytes : List ℕ) (t : Token) (ts : List Token) → Opens t.kind → BeginsUnsupported bytes (t ∷ ts) → ⊥
supported bytes t ts o (inl l) = not_left_out l o
supported bytes t ts o (inr e) = not_other t.kind e.0 o

bad_is : (bytes : List ℕ) (ts front back : List Token) (f : ParseFault) → ts ≡ front ++ back → Viable limits front → Stops Endless front back → TellsBad bytes back f → IsParseFault bytes ts f
bad_is bytes ts front back (fault.Syntax place) p v s t = record { front = front; back = back; parts = p; viable = v; stops = stops_within front back s; is = (t.0, goes_nowhere front back s, t.1) }
bad_is bytes ts front back (fault.Unsupported span) p v s t = record { front = front; back = back; parts = p; viable = v; stops = stops_within front back s; is = (t.0, goes_nowhere front back s, t.1) }
bad_is bytes ts front back (fault.TooDeep place) p v s t = absurd t
bad_is bytes ts front back fault.Memory p v s t = absurd t

deep_is : (bytes : List ℕ) (ts front back : List Token) (f : ParseFault) → ts ≡ front ++ back → Viable limits front → Stops limits front back → GoesOn Endless front back → (BeginsUnsupported bytes back → ⊥) → TellsDeep bytes back f → IsParseFault bytes ts f
deep_is bytes ts front back (fault.Syntax place) p v s g n t = absurd t
deep_is bytes ts front back (fault.Unsupported span) p v s g n t = absurd t
deep_is bytes ts front back (fault.TooDeep place) p v s g n t = record { front = front; back = back; parts = p; viable = v; stops = s; is = (t, g, n) }
deep_is bytes ts front back fault.Memory p v s g n t = absurd t

pub first : (bytes : List ℕ) (ts : List Token) (h : Halt) (f : ParseFault) → Fails h (whole 200 6 ts) → Tells bytes ts h f → IsParseFault bytes ts f
first bytes ts halt.Memory f e t = subst (IsParseFault bytes ts) (sym t) tt
first bytes ts (halt.Stuck (Bad k)) f e t =
    let w = first_fault 200 6 ts (Bad k) e in
    let at : last_of k ts ≡ w.back = ap (last_of k) w.parts ∙ last_is w.front w.back k w.len in
    bad_is bytes ts w.front w.back f w.parts w.viable w.says (subst (λ (us : List Token). TellsBad bytes us f) at t)
first bytes ts (halt.Stuck (Deep k)) f e t =
    let w = first_fault 200 6 ts (Deep k) e in
    let at : last_of k ts ≡ w.back = ap (last_of k) w.parts ∙ last_is w.front w.back k w.len in
    let o = deep_at_opener 200 6 ts (Deep k) e in
    let same = (append_cancel_length w.front w.back o.0 (o.1 ∷ o.2) (sym w.parts ∙ o.3) (sym w.len ∙ o.4)).1 in
    let plain : BeginsUnsupported bytes w.back → ⊥ = λ u. supported bytes o.1 o.2 o.5 (subst (BeginsUnsupported bytes) same u) in
    deep_is bytes ts w.front w.back f w.parts w.viable w.says.0 w.says.1 plain (subst (λ (us : List Token). TellsDeep bytes us f) at t)

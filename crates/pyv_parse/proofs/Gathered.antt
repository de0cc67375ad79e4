-- Operands and arguments that were gathered.
use Rattle.std.proofs.Common.{◌≡◌, ℕ, max, Bool, true, false, List, [], ◌∷◌, ◌++◌, Some, Ok, Err, refl, sym, ap, ap₂, ◌∙◌, append_assoc, arith}
use Rattle.std.proofs.lemmas.List.{append-nil}
use Rattle.pyv_lex.specs.declared.token.Kind.{Kind}
use Rattle.pyv_lex.specs.declared.token.Kind.TheVariants as kind
use Rattle.pyv_lex.specs.declared.token.Token.{Token}
use Rattle.pyv_grammar.specs.declared.tree.Expr.{Expr}
use Rattle.pyv_grammar.specs.declared.tree.Expr.TheVariants as expr
use Rattle.pyv_grammar.specs.declared.reading.Found.{Found}
use Rattle.pyv_grammar.specs.declared.reading.Stuck.{Stuck}
use Rattle.pyv_grammar.specs.Reading.{Got, Reader, ◌>>=◌, give, and_then, sign, wants, skip, listed, some_list, all_separated, ends_open, found, trees, last_open, heights, joined, node_of, distinct_at}
use Rattle.pyv_parse.specs.declared.halt.Halt.{Halt}
use Rattle.pyv_parse.specs.declared.halt.Halt.TheVariants as halt
use Rattle.pyv_parse.specs.declared.members.Members.{Members}
use Rattle.pyv_parse.specs.Gives.{Fails, eat_behind, put_all, gathered, put_member, no_members}
use Rattle.pyv_parse.proofs.Loops.{sign-some}

abbrev with_all : Members → List Found → Members
with_all m xs = record { trees = m.trees ++ trees xs; ends_open = last_open m.ends_open xs; height = max m.height (heights xs) }

members : List Expr → Bool → ℕ → Members
members ts o h = record { trees = ts; ends_open = o; height = h }

put_all-members : (m : Members) (xs : List Found) → put_all put_member m xs ≡ with_all m xs
unfolding members
put_all-members m [] = ap₂ (λ (ts : List Expr) (h : ℕ). members ts m.ends_open h) (sym (append-nil m.trees)) (omega arith)
put_all-members m (x ∷ xs) =
    put_all-members (put_member m x) xs ∙ ap₂ (λ (ts : List Expr) (h : ℕ). members ts (last_open x.ends_open xs) h) (append_assoc m.trees (x.tree ∷ []) (trees xs)) (omega arith)

abbrev done : {A : Type 0} → A × List Token → Got A
done x = Ok x

-- what is made of arguments
pub made_of : (f : List Expr → ℕ → Found) (m : Members) (rest : List Token) (got : Got (List Found)) → gathered put_member no_members got ≡ Ok (m, rest) → (got >>= λ y. give (f (trees y.0) (heights y.0)) y.1) ≡ Ok (f m.trees m.height, rest)
made_of f m rest (Err e) h = absurd cc
made_of f m rest (Ok y) h =
    let is : done (with_all no_members y.0, y.1) ≡ done (m, rest) = ap (λ (z : Members). done (z, y.1)) (sym (put_all-members no_members y.0)) ∙ h in
    let low : heights y.0 ≡ max 0 (heights y.0) = omega arith in
    let same : (with_all no_members y.0, y.1) ≡ (m, rest) = cc in
    ap (λ (i : ℕ). done (f (trees y.0) i, y.1)) low ∙ ap (λ (z : Members × List Token). done (f z.0.trees z.0.height, z.1)) same

pub none_made : {B : Type 0} (f : List Found × List Token → Got B) (d : Halt) (got : Got (List Found)) → Fails d (gathered put_member no_members got) → Fails d (got >>= f)
none_made f halt.Memory got h = tt
none_made f (halt.Stuck d) (Ok y) h = absurd cc
none_made f (halt.Stuck d) (Err e) h = cc

pub distinct_made : (e : Reader Found) (t u : Token) (ts after rest : List Token) (m : Members) → wants kind.RoundLeft ts ≡ Ok (u, after) → gathered put_member no_members (some_list e after) ≡ Ok (m, rest)
    → distinct_at e t ts ≡ Ok (found (expr.Distinct t.span.from m.trees) false m.height, rest)
distinct_made e t u ts after rest m w h = rw w (made_of (λ xs n. found (expr.Distinct t.span.from xs) false n) m rest (some_list e after) h)

-- ---- arguments, up to their bracket

abbrev closing : List Found × List Token → Got (List Found)
closing x = wants kind.RoundRight x.1 >>= λ z. give x.0 z.1

some_list-is : (e : Reader Found) (ts : List Token) → some_list e ts ≡ (listed e ts >>= closing)
unfolding some_list
some_list-is e ts = refl

pub closed_by : (e : Reader Found) (ts after rest : List Token) (u : Token) (m : Members) → gathered put_member no_members (listed e ts) ≡ Ok (m, after) → wants kind.RoundRight after ≡ Ok (u, rest) → gathered put_member no_members (some_list e ts) ≡ Ok (m, rest)
closed_by e ts after rest u m h w = ap (gathered put_member no_members) (some_list-is e ts) ∙ closed_got (listed e ts) h
  where
    closed_got : (got : Got (List Found)) → gathered put_member no_members got ≡ Ok (m, after) → gathered put_member no_members (got >>= closing) ≡ Ok (m, rest)
    closed_got (Err d) h = absurd cc
    closed_got (Ok y) h =
        let same : (put_all put_member no_members y.0, y.1) ≡ (m, after) = cc in
        let at : y.1 ≡ after = ap (λ (z : Members × List Token). z.1) same in
        let one : closing y ≡ Ok (y.0, rest) = ap (λ (l : List Token). wants kind.RoundRight l >>= λ z. give y.0 z.1) at ∙ ap (λ (g : Got Token). g >>= λ z. give y.0 z.1) w in
        ap (gathered put_member no_members) one ∙ ap (λ (z : Members × List Token). done (z.0, rest)) same

pub not_closed : (e : Reader Found) (ts after : List Token) (d : Halt) (m : Members) → gathered put_member no_members (listed e ts) ≡ Ok (m, after) → Fails d (wants kind.RoundRight after) → Fails d (gathered put_member no_members (some_list e ts))
not_closed e ts after halt.Memory m h w = tt
not_closed e ts after (halt.Stuck d) m h w = ap (gathered put_member no_members) (some_list-is e ts) ∙ not_got (listed e ts) h
  where
    not_got : (got : Got (List Found)) → gathered put_member no_members got ≡ Ok (m, after) → gathered put_member no_members (got >>= closing) ≡ Err d
    not_got (Err f) h = absurd cc
    not_got (Ok y) h =
        let same : (put_all put_member no_members y.0, y.1) ≡ (m, after) = cc in
        let at : y.1 ≡ after = ap (λ (z : Members × List Token). z.1) same in
        let one : closing y ≡ Err d = ap (λ (l : List Token). wants kind.RoundRight l >>= λ z. give y.0 z.1) at ∙ ap (λ (g : Got Token). g >>= λ z. give y.0 z.1) w in
        ap (gathered put_member no_members) one

pub none_listed : (e : Reader Found) (ts : List Token) (d : Halt) → Fails d (gathered put_member no_members (listed e ts)) → Fails d (gathered put_member no_members (some_list e ts))
none_listed e ts halt.Memory h = tt
none_listed e ts (halt.Stuck d) h = ap (gathered put_member no_members) (some_list-is e ts) ∙ none_got (listed e ts) h
  where
    none_got : (got : Got (List Found)) → gathered put_member no_members got ≡ Err d → gathered put_member no_members (got >>= closing) ≡ Err d
    none_got (Ok y) h = absurd cc
    none_got (Err f) h = let same : f ≡ d = cc in ap (λ (z : Stuck). gathered put_member no_members (Err z)) same

-- ---- operands of a connective

abbrev behind : Reader Found → Kind → (ℕ → List Expr → Expr) → Found → Token → Reader Found
behind e k node x t = and_then (all_separated ends_open e k) (λ ys. give (node_of node t x ys))

pub many : (e : Reader Found) (k : Kind) (node : ℕ → List Expr → Expr) (ts rest after end : List Token) (t : Token) (x : Found) (m : Members) → e (skip k ts) ≡ Ok (x, rest) → eat_behind x.ends_open k rest ≡ Some (t, after)
    → gathered put_member (put_member no_members x) (all_separated ends_open e k after) ≡ Ok (m, end) → joined e k node ts ≡ Ok (found (node t.span.from m.trees) m.ends_open m.height, end)
unfolding joined
many e k node ts rest after end t x m f h g =
    ap (λ (z : Got Found). z >>= λ y. sign y.0.ends_open true k (behind e k node y.0) (give y.0) y.1) f
    ∙ sign-some x.ends_open true k (behind e k node x) (give x) rest after t h
    ∙ many_got (all_separated ends_open e k after) g
  where
    many_got : (got : Got (List Found)) → gathered put_member (put_member no_members x) got ≡ Ok (m, end) → (got >>= λ y. give (node_of node t x y.0) y.1) ≡ Ok (found (node t.span.from m.trees) m.ends_open m.height, end)
    many_got (Err d) g = absurd cc
    many_got (Ok y) g =
        let is : done (with_all (put_member no_members x) y.0, y.1) ≡ done (m, end) = ap (λ (z : Members). done (z, y.1)) (sym (put_all-members (put_member no_members x) y.0)) ∙ g in
        let low : max x.height (heights y.0) ≡ max (max 0 x.height) (heights y.0) = omega arith in
        let same : (with_all (put_member no_members x) y.0, y.1) ≡ (m, end) = cc in
        ap (λ (i : ℕ). done (found (node t.span.from (x.tree ∷ trees y.0)) (last_open x.ends_open y.0) i, y.1)) low
        ∙ ap (λ (z : Members × List Token). done (found (node t.span.from z.0.trees) z.0.ends_open z.0.height, z.1)) {x = (with_all (put_member no_members x) y.0, y.1)} {y = (m, end)} same

-- The verdict on all tokens of a file, and that they have at most one tree.
use Rattle.std.proofs.Common.{◌≡◌, ℕ, zero, suc, ◌+◌, ◌<◌, ◌≤◌, Bool, true, false, cond, List, [], ◌∷◌, ◌++◌, length, Option, Some, None, Result, Ok, Err, refl, sym, ap, ap₂, subst, ◌∙◌, append_assoc, arith}
use Rattle.std.proofs.lemmas.List.{append-nil, length-append}
use Rattle.pyv_lex.specs.declared.token.Kind.{Kind}
use Rattle.pyv_lex.specs.declared.token.Token.{Token}
use Rattle.pyv_grammar.specs.declared.tree.Expr.{Expr}
use Rattle.pyv_grammar.specs.declared.tree.Decl.{Decl}
use Rattle.pyv_grammar.specs.declared.reading.Stuck.{Stuck}
use Rattle.pyv_grammar.specs.declared.reading.Stuck.TheVariants.{Bad, Deep}
use Rattle.pyv_grammar.specs.Grammar.{Exprs, Limits, Endless, Within, Fits, IsExpr, SpellsDecl, SpellsFile}
use Rattle.pyv_grammar.specs.Grammar as rule
use Rattle.pyv_grammar.specs.Reading.{Got, Reader, decl_at, read, before_all, file_on, file, whole}
use Rattle.pyv_grammar.specs.Verdict.{Viable, Stops, GoesOn}
use Rattle.pyv_grammar.proofs.Eat.{first}
use Rattle.pyv_grammar.proofs.Local.{left, moved, LocalAt, Local, Strict, first-append}
use Rattle.pyv_grammar.proofs.Strict.{Good, no, ok_is, append_cancel_length}
use Rattle.pyv_grammar.proofs.Good.{good_read, good_decl}
use Rattle.pyv_grammar.proofs.Grows.{Agrees, Grows, grows_read, grows_decl}
use Rattle.pyv_grammar.proofs.Exact.{Begins, Front, IsDeep, BeginsDeep, Fails, Takes, Exact}
use Rattle.pyv_grammar.proofs.Spelt.{From, from_front}
use Rattle.pyv_grammar.proofs.Decls.{rank_of_decl, BeginsDecl, AfterDecl, decl_from_one}
use Rattle.pyv_grammar.proofs.DeclForms.{decl_from, exact_decl}

-- ---- limits

abbrev f_at : ℕ → ℕ → Reader Decl
f_at n v = decl_at (read n v Exprs)

decl_starts : (limits : Limits) (x : Decl) (a : List Token) → SpellsDecl limits x a → From rank_of_decl 1 a
decl_starts limits x a h = decl_from_one (Fits limits) x a (decl_from limits h)

begins_from : (a b : List Token) → From rank_of_decl 1 a → BeginsDecl (a ++ b)
begins_from [] b h = absurd h
begins_from (t ∷ a) b h = h

file_begins : {limits : Limits} {xs : List Decl} {s : List Token} → SpellsFile limits xs s → BeginsDecl s
file_begins rule.SpellsFile.end = tt
file_begins {limits = limits} (rule.SpellsFile.then x xs a b d f) = begins_from a b (decl_starts limits x a d)

some_token : (a : List Token) → From rank_of_decl 1 a → 0 < length a
some_token [] h = absurd h
some_token (t ∷ a) h = omega arith

-- within each limit from some number on
record Bounded (x : Decl) (s : List Token) : Type 0 where
  least : ℕ
  at : (m w : ℕ) → least ≤ m → least ≤ w → SpellsDecl (Within m w) x s

bounded_expr : (x : Expr) (s : List Token) (h : IsExpr Endless x s) (m w : ℕ) → h.depth + h.height ≤ m → h.depth + h.height ≤ w → IsExpr (Within m w) x s
bounded_expr x s h m w le lw = record { ends_open = h.ends_open; depth = h.depth; height = h.height; spells = h.spells; fits = (omega arith, omega arith) }

bounded : {x : Decl} {s : List Token} → SpellsDecl Endless x s → Bounded x s
bounded (rule.SpellsDecl.sort t w tk wk) = record { least = 0; at = λ m w' le lw. rule.SpellsDecl.sort t w tk wk }
bounded (rule.SpellsDecl.fact m t w j b mk mu tk wk) = record { least = 0; at = λ m' w' le lw. rule.SpellsDecl.fact m t w j b mk mu tk wk }
bounded (rule.SpellsDecl.relation m t w j b args s mk mu tk wk h) = record { least = 0; at = λ m' w' le lw. rule.SpellsDecl.relation m t w j b args s mk mu tk wk h }
bounded (rule.SpellsDecl.constant m t w c r j b mk mu tk wk ck rk) = record { least = 0; at = λ m' w' le lw. rule.SpellsDecl.constant m t w c r j b mk mu tk wk ck rk }
bounded (rule.SpellsDecl.function m t w c r j b y ys s mk mu tk wk h ck rk) = record { least = 0; at = λ m' w' le lw. rule.SpellsDecl.function m t w c r j b y ys s mk mu tk wk h ck rk }
bounded (rule.SpellsDecl.claim t j make x p s k c l h) = record { least = h.depth + h.height; at = λ m w le lw. rule.SpellsDecl.claim t j make x p s k c l (bounded_expr x s h m w le lw) }
bounded (rule.SpellsDecl.transition t w ps ns x p q s tk wk h i j) = record { least = j.depth + j.height; at = λ m w' le lw. rule.SpellsDecl.transition t w ps ns x p q s tk wk h i (bounded_expr x s j m w' le lw) }
bounded (rule.SpellsDecl.trace v t l r s k tk lk rk h) = record { least = 0; at = λ m w le lw. rule.SpellsDecl.trace v t l r s k tk lk rk h }

record BoundedFile (xs : List Decl) (s : List Token) : Type 0 where
  least : ℕ
  at : (m w : ℕ) → least ≤ m → least ≤ w → SpellsFile (Within m w) xs s

bounded_file : {xs : List Decl} {s : List Token} → SpellsFile Endless xs s → BoundedFile xs s
bounded_file rule.SpellsFile.end = record { least = 0; at = λ m w le lw. rule.SpellsFile.end }
bounded_file (rule.SpellsFile.then x xs a b d f) =
    let p = bounded d in
    let q = bounded_file f in
    record { least = p.least + q.least; at = λ m w le lw. rule.SpellsFile.then x xs a b (p.at m w (omega arith) (omega arith)) (q.at m w (omega arith) (omega arith)) }

pub endless_file : {n v : ℕ} {xs : List Decl} {s : List Token} → SpellsFile (Within n v) xs s → SpellsFile Endless xs s
endless_file rule.SpellsFile.end = rule.SpellsFile.end
endless_file {n = n} {v = v} (rule.SpellsFile.then x xs a b d f) = rule.SpellsFile.then x xs a b ((exact_decl n v).wider x a d) (endless_file f)

forget : (limits : Limits) (xs : List Decl) (s : List Token) → SpellsFile limits xs s → SpellsFile Endless xs s
forget Endless xs s h = h
forget (Within n v) xs s h = endless_file h

-- ---- reading

pub file_step : (f : Reader Decl) (m : ℕ) (u : List Token) → 0 < length u → file f (suc m) u ≡ file_on (f u) (file f m)
unfolding file
file_step f m [] h = absurd (omega arith)
file_step f m (t ∷ u) h = refl

pub file_nil : (f : Reader Decl) (m : ℕ) → file f (suc m) [] ≡ Ok []
unfolding file
file_nil f m = refl

read_file : (n v : ℕ) {limits : Limits} {xs : List Decl} {s : List Token} → SpellsFile limits xs s → limits ≡ Within n v → (m : ℕ) → length s < m → file (f_at n v) m s ≡ Ok xs
read_file n v h e zero lt = absurd (omega arith)
read_file n v rule.SpellsFile.end e (suc m) lt = file_nil (f_at n v) m
read_file n v (rule.SpellsFile.then x xs a b d f) e (suc m) lt =
    let len = length-append a b in
    let start = decl_starts _ x a d in
    let some = some_token a start in
    let one : f_at n v (a ++ b) ≡ Ok (x, b) = (exact_decl n v).complete x a b (subst (λ (z : Limits). SpellsDecl z x a) e d) (file_begins f) in
    file_step (f_at n v) m (a ++ b) (omega arith) ∙ ap (λ (y : Got Decl). file_on y (file (f_at n v) m)) one ∙ ap (before_all x) (read_file n v f e m (omega arith))

pub complete_whole : (n v : ℕ) (xs : List Decl) (ts : List Token) → SpellsFile (Within n v) xs ts → whole n v ts ≡ Ok xs
unfolding whole
complete_whole n v xs ts h = read_file n v h refl (length ts + 1) (omega arith)

abbrev all_ok : List Decl → Result (List Decl) Stuck
all_ok x = Ok x

pub one_tree : (one other : Limits) (a b : List Decl) (ts : List Token) → SpellsFile one a ts → SpellsFile other b ts → a ≡ b
one_tree one other a b ts h k =
    let p = bounded_file (forget one a ts h) in
    let q = bounded_file (forget other b ts k) in
    let n = p.least + q.least in
    let e = complete_whole n n a ts (p.at n n (omega arith) (omega arith)) in
    let g = complete_whole n n b ts (q.at n n (omega arith) (omega arith)) in
    let same : all_ok a ≡ all_ok b = sym e ∙ g in
    cc

-- ---- what is read is spelled

module _ (n v : ℕ) where
  strict : Strict (f_at n v)
  strict = (good_decl (read n v Exprs) (good_read n v Exprs)).is_strict

  local : Local (f_at n v)
  local = (good_decl (read n v Exprs) (good_read n v Exprs)).is_local

  before_ok : (x : Decl) (r : Result (List Decl) Stuck) (xs : List Decl) → before_all x r ≡ Ok xs → (ys : List Decl) × (r ≡ Ok ys) × (xs ≡ x ∷ ys)
  before_ok x (Ok ys) xs h = (ys, refl, let q : x ∷ ys ≡ xs = cc in sym q)
  before_ok x (Err e) xs h = absurd cc

  before_err : (x : Decl) (r : Result (List Decl) Stuck) (e : Stuck) → before_all x r ≡ Err e → r ≡ Err e
  before_err x (Ok ys) e h = absurd cc
  before_err x (Err d) e h = cc

  sound_on : (m : ℕ) → ((ts : List Token) (xs : List Decl) → file (f_at n v) m ts ≡ Ok xs → SpellsFile (Within n v) xs ts) → (ts : List Token) (y : Got Decl) → f_at n v ts ≡ y → (xs : List Decl) → file_on y (file (f_at n v) m) ≡ Ok xs → SpellsFile (Within n v) xs ts
  sound_on m again ts (Ok x) e xs h =
      let s = (exact_decl n v).sound ts x e in
      let r = before_ok x.0 (file (f_at n v) m x.1) xs h in
      subst (λ (l : List Token). SpellsFile (Within n v) xs l) (sym s.parts) (subst (λ (l : List Decl). SpellsFile (Within n v) l (s.text ++ x.1)) (sym r.2) (rule.SpellsFile.then x.0 r.0 s.text x.1 s.is (again x.1 r.0 r.1)))
  sound_on m again ts (Err d) e xs h = absurd cc

  file_sound : (m : ℕ) (ts : List Token) (xs : List Decl) → file (f_at n v) m ts ≡ Ok xs → SpellsFile (Within n v) xs ts
  unfolding file
  file_sound zero ts xs h = absurd cc
  file_sound (suc m) [] xs h = let q : [] ≡ xs = cc in subst (λ (l : List Decl). SpellsFile (Within n v) l []) q rule.SpellsFile.end
  file_sound (suc m) (t ∷ ts) xs h = sound_on m (file_sound m) (t ∷ ts) (f_at n v (t ∷ ts)) refl xs h

  pub sound_whole : (ts : List Token) (xs : List Decl) → whole n v ts ≡ Ok xs → SpellsFile (Within n v) xs ts
  unfolding whole
  sound_whole ts xs h = file_sound (length ts + 1) ts xs h

  -- ---- a fault, and what stands before it

  record Failed (ts : List Token) (e : Stuck) : Type 0 where
    front : List Token
    back : List Token
    parts : ts ≡ front ++ back
    len : left e ≡ length back
    viable : Viable (Within n v) front
    deeper : IsDeep e → GoesOn Endless front back
    again : (r : List Token) (m : ℕ) → first back ≡ first r → length (front ++ r) < m → file (f_at n v) m (front ++ r) ≡ Err (moved e (length r))

  one_decl : (limits : Limits) (f : List Token) → Begins (SpellsDecl limits) f → Viable limits f
  one_decl limits f b = record { rest = b.rest; decls = b.value ∷ []; spells = subst (SpellsFile limits (b.value ∷ [])) (append-nil (f ++ b.rest)) (rule.SpellsFile.then b.value [] (f ++ b.rest) [] b.is rule.SpellsFile.end) }

  front_viable : (limits : Limits) (f : List Token) → Front (SpellsDecl limits) f → Viable limits f
  front_viable limits [] h = record { rest = []; decls = []; spells = rule.SpellsFile.end }
  front_viable limits (t ∷ f) h = one_decl limits (t ∷ f) h

  deep_goes_on : (front back : List Token) → BeginsDeep (SpellsDecl Endless) front back → GoesOn Endless front back
  deep_goes_on front back d = subst (GoesOn Endless front) (sym d.parts) (one_decl Endless (front ++ d.token ∷ []) d.begins)

  more_viable : (limits : Limits) (x : Decl) (a f : List Token) → SpellsDecl limits x a → Viable limits f → Viable limits (a ++ f)
  more_viable limits x a f d w = record { rest = w.rest; decls = x ∷ w.decls; spells = subst (SpellsFile limits (x ∷ w.decls)) (sym (append_assoc a f w.rest)) (rule.SpellsFile.then x w.decls a (f ++ w.rest) d w.spells) }

  more_goes_on : (x : Decl) (a f back : List Token) → SpellsDecl Endless x a → GoesOn Endless f back → GoesOn Endless (a ++ f) back
  more_goes_on x a f [] d g = absurd g
  more_goes_on x a f (t ∷ back) d g = subst (Viable Endless) (sym (append_assoc a f (t ∷ []))) (more_viable Endless x a (f ++ t ∷ []) d g)

  some_left : (t : Token) (ts p s r : List Token) → t ∷ ts ≡ p ++ s → first s ≡ first r → 0 < length (p ++ r)
  some_left t ts [] [] r e h = absurd cc
  some_left t ts [] (u ∷ s) [] e h = absurd cc
  some_left t ts [] (u ∷ s) (w ∷ r) e h = omega arith
  some_left t ts (u ∷ p) s r e h = omega arith

  again_here : (ts front back : List Token) (d : Stuck) (r : List Token) (m : ℕ) → 0 < length (front ++ r) → length (front ++ r) < m → f_at n v (front ++ r) ≡ Err (moved d (length r)) → file (f_at n v) m (front ++ r) ≡ Err (moved d (length r))
  again_here ts front back d r zero some lt h = absurd (omega arith)
  again_here ts front back d r (suc m) some lt h = file_step (f_at n v) m (front ++ r) some ∙ ap (λ (y : Got Decl). file_on y (file (f_at n v) m)) h

  -- the declaration itself is at fault
  failed_here : (t : Token) (ts : List Token) (d : Stuck) → f_at n v (t ∷ ts) ≡ Err d → LocalAt (f_at n v) (t ∷ ts) (Err d) → Failed (t ∷ ts) d
  failed_here t ts d h l =
      let s = (exact_decl n v).fails (t ∷ ts) d h in
      let both = append_cancel_length l.0 l.1 s.front s.back (sym l.2 ∙ s.parts) (sym l.3 ∙ s.len) in
      record {
        front = s.front;
        back = s.back;
        parts = s.parts;
        len = s.len;
        viable = front_viable (Within n v) s.front s.viable;
        deeper = λ deep. deep_goes_on s.front s.back (s.deeper deep);
        again = λ r m same lt. again_here (t ∷ ts) s.front s.back d r m (some_left t ts s.front s.back r s.parts same) lt (ap (λ (z : List Token). f_at n v (z ++ r)) (sym both.0) ∙ l.4 r (ap first both.1 ∙ same));
      }

  again_later : (x : Decl) (a f r : List Token) (d : Stuck) (m : ℕ) → 0 < length a → length ((a ++ f) ++ r) < m → f_at n v (a ++ (f ++ r)) ≡ Ok (x, f ++ r) → ((k : ℕ) → length (f ++ r) < k → file (f_at n v) k (f ++ r) ≡ Err (moved d (length r))) → file (f_at n v) m ((a ++ f) ++ r) ≡ Err (moved d (length r))
  again_later x a f r d zero some lt h again = absurd (omega arith)
  again_later x a f r d (suc m) some lt h again =
      let same = append_assoc a f r in
      let len = length-append a (f ++ r) in
      let total = ap length same in
      ap (file (f_at n v) (suc m)) same ∙ file_step (f_at n v) m (a ++ (f ++ r)) (omega arith) ∙ ap (λ (y : Got Decl). file_on y (file (f_at n v) m)) h ∙ ap (before_all x) (again m (omega arith))

  -- one behind it is
  failed_later : (ts : List Token) (x : Decl × List Token) (d : Stuck) → f_at n v ts ≡ Ok x → LocalAt (f_at n v) ts (Ok x) → Failed x.1 d → Failed ts d
  failed_later ts x d h l w =
      let s = (exact_decl n v).sound ts x h in
      let both = append_cancel_length l.0 x.1 s.text x.1 (sym l.1 ∙ s.parts) refl in
      record {
        front = s.text ++ w.front;
        back = w.back;
        parts = s.parts ∙ ap (λ (z : List Token). s.text ++ z) w.parts ∙ sym (append_assoc s.text w.front w.back);
        len = w.len;
        viable = more_viable (Within n v) x.0 s.text w.front s.is w.viable;
        deeper = λ deep. more_goes_on x.0 s.text w.front w.back ((exact_decl n v).wider x.0 s.text s.is) (w.deeper deep);
        again = λ r m same lt. again_later x.0 s.text w.front r d m (some_token s.text (decl_starts (Within n v) x.0 s.text s.is)) lt
            (ap (λ (z : List Token). f_at n v (z ++ (w.front ++ r))) (sym both.0) ∙ l.2 (w.front ++ r) (ap first w.parts ∙ first-append w.front w.back r same)) (λ k lk. w.again r k same lk);
      }

  failed_on : (m : ℕ) → ((ts : List Token) (e : Stuck) → file (f_at n v) m ts ≡ Err e → length ts < m → Failed ts e) → (t : Token) (ts : List Token) (y : Got Decl) → f_at n v (t ∷ ts) ≡ y → LocalAt (f_at n v) (t ∷ ts) y → (e : Stuck) → file_on y (file (f_at n v) m) ≡ Err e → length (t ∷ ts) < suc m → Failed (t ∷ ts) e
  failed_on m again t ts (Ok x) q l e h lt =
      let less = strict.by (t ∷ ts) x q in
      failed_later (t ∷ ts) x e q l (again x.1 e (before_err x.0 (file (f_at n v) m x.1) e h) (omega arith))
  failed_on m again t ts (Err d) q l e h lt = let same : d ≡ e = cc in subst (Failed (t ∷ ts)) same (failed_here t ts d q l)

  file_failed : (m : ℕ) (ts : List Token) (e : Stuck) → file (f_at n v) m ts ≡ Err e → length ts < m → Failed ts e
  unfolding file
  file_failed zero ts e h lt = absurd (omega arith)
  file_failed (suc m) [] e h lt = absurd cc
  file_failed (suc m) (t ∷ ts) e h lt = failed_on m (file_failed m) t ts (f_at n v (t ∷ ts)) refl (local.by (t ∷ ts)) e h lt

-- ---- no tree goes on by the token

back_err : (x : Decl) (r : Result (List Decl) Stuck) (k : ℕ) → before_all x r ≡ Err (Bad k) → r ≡ Err (Bad k)
back_err x (Ok ys) k h = absurd cc
back_err x (Err d) k h = cc

grows_on : (f g : Reader Decl) (m : ℕ) → ((ts : List Token) (k : ℕ) → file f m ts ≡ Err (Bad k) → file g m ts ≡ Err (Bad k)) → (y z : Got Decl) → Agrees y z → (k : ℕ) → file_on y (file f m) ≡ Err (Bad k) → file_on z (file g m) ≡ Err (Bad k)
grows_on f g m again (Ok x) z a k h = ap (λ (q : Got Decl). file_on q (file g m)) a ∙ ap (before_all x.0) (again x.1 k (back_err x.0 (file f m x.1) k h))
grows_on f g m again (Err (Bad j)) z a k h = ap (λ (q : Got Decl). file_on q (file g m)) a ∙ cc
grows_on f g m again (Err (Deep j)) z a k h = absurd cc

bad_always : (f g : Reader Decl) → Grows f g → (m : ℕ) (ts : List Token) (k : ℕ) → file f m ts ≡ Err (Bad k) → file g m ts ≡ Err (Bad k)
unfolding file
bad_always f g grow zero ts k h = h
bad_always f g grow (suc m) [] k h = h
bad_always f g grow (suc m) (t ∷ ts) k h = grows_on f g m (bad_always f g grow m) (f (t ∷ ts)) (g (t ∷ ts)) (grow.by (t ∷ ts)) k h

-- from lists that go on with one token
stops_from : (limits : Limits) (front back : List Token) → ((r : List Token) → first back ≡ first r → (xs : List Decl) → SpellsFile limits xs (front ++ r) → ⊥) → Stops limits front back
stops_from limits front [] none = λ xs t. none [] refl xs (subst (SpellsFile limits xs) (sym (append-nil front)) t)
stops_from limits front (t ∷ after) none = λ w. none (t ∷ w.rest) refl w.decls (subst (SpellsFile limits w.decls) (append_assoc front (t ∷ []) w.rest) w.spells)

-- what the fault says of the token
abbrev pub SaysOf : ℕ → ℕ → Stuck → List Token → List Token → Type 0
SaysOf n v (Bad k) front back = Stops Endless front back
SaysOf n v (Deep k) front back = Stops (Within n v) front back × GoesOn Endless front back

-- the fault is the first one
pub record IsFirst (n v : ℕ) (ts : List Token) (e : Stuck) : Type 0 where
  pub front : List Token
  pub back : List Token
  pub parts : ts ≡ front ++ back
  pub len : left e ≡ length back
  pub viable : Viable (Within n v) front
  pub says : SaysOf n v e front back

module _ (n v : ℕ) where
  no_tree_bad : (k : ℕ) (front back : List Token) → ((r : List Token) (m : ℕ) → first back ≡ first r → length (front ++ r) < m → file (f_at n v) m (front ++ r) ≡ Err (Bad (length r))) → (r : List Token) → first back ≡ first r → (xs : List Decl) → SpellsFile Endless xs (front ++ r) → ⊥
  no_tree_bad k front back again r same xs t =
      let b = bounded_file t in
      let m = n + b.least in
      let w = v + b.least in
      let fuel = length (front ++ r) + 1 in
      let ok = read_file m w (b.at m w (omega arith) (omega arith)) refl fuel (omega arith) in
      let e = bad_always (f_at n v) (f_at m w) (grows_decl (read n v Exprs) (read m w Exprs) (grows_read n m (omega arith) v w (omega arith) Exprs)) fuel (front ++ r) (length r) (again r fuel same (omega arith)) in
      absurd cc

  no_tree_deep : (front back : List Token) → ((r : List Token) (m : ℕ) → first back ≡ first r → length (front ++ r) < m → file (f_at n v) m (front ++ r) ≡ Err (Deep (length r))) → (r : List Token) → first back ≡ first r → (xs : List Decl) → SpellsFile (Within n v) xs (front ++ r) → ⊥
  no_tree_deep front back again r same xs t =
      let fuel = length (front ++ r) + 1 in
      let ok = read_file n v t refl fuel (omega arith) in
      let e = again r fuel same (omega arith) in
      absurd cc

  first_of : (ts : List Token) (e : Stuck) → Failed n v ts e → IsFirst n v ts e
  first_of ts (Bad k) w = record { front = w.front; back = w.back; parts = w.parts; len = w.len; viable = w.viable; says = stops_from Endless w.front w.back (no_tree_bad k w.front w.back w.again) }
  first_of ts (Deep k) w = record { front = w.front; back = w.back; parts = w.parts; len = w.len; viable = w.viable; says = (stops_from (Within n v) w.front w.back (no_tree_deep w.front w.back w.again), w.deeper tt) }

  pub first_fault : (ts : List Token) (e : Stuck) → whole n v ts ≡ Err e → IsFirst n v ts e
  unfolding whole
  first_fault ts e h = first_of ts e (file_failed n v (length ts + 1) ts e h (omega arith))

-- ---- the step of a loop over declarations

enough_on : (f : Reader Decl) (n m : ℕ) (ts : List Token) (y : Got Decl) → ((x : Decl × List Token) → y ≡ Ok x → file f n x.1 ≡ file f m x.1) → file_on y (file f n) ≡ file_on y (file f m)
enough_on f n m ts (Ok x) h = ap (before_all x.0) (h x refl)
enough_on f n m ts (Err e) h = refl

pub file_enough : (f : Reader Decl) → Strict f → (n m : ℕ) (ts : List Token) → length ts < n → length ts < m → file f n ts ≡ file f m ts
unfolding file
file_enough f s zero m ts h l = absurd (omega arith)
file_enough f s (suc n) zero ts h l = absurd (omega arith)
file_enough f s (suc n) (suc m) [] h l = refl
file_enough f s (suc n) (suc m) (t ∷ ts) h l = enough_on f n m (t ∷ ts) (f (t ∷ ts)) (λ x q. let k = s.by (t ∷ ts) x q in file_enough f s n m x.1 (omega arith) (omega arith))

-- What is spelled at each level, what it begins with and what may follow it.
use Rattle.std.proofs.Common.{◌≡◌, ℕ, zero, suc, ◌+◌, ◌<◌, ◌≤◌, max, Bool, true, false, cond, List, [], ◌∷◌, ◌++◌, length, map, Option, Some, None, refl, sym, ap, subst, ◌∙◌, ◌⊎◌, inl, inr, arith}
use Rattle.pyv_lex.specs.declared.token.Kind.{Kind}
use Rattle.pyv_lex.specs.declared.token.Kind.TheVariants as kind
use Rattle.pyv_lex.specs.declared.token.Token.{Token}
use Rattle.pyv_grammar.specs.declared.tree.Expr.{Expr}
use Rattle.pyv_grammar.specs.declared.tree.Expr.TheVariants as expr
use Rattle.pyv_grammar.specs.declared.reading.Found.{Found}
use Rattle.pyv_grammar.specs.Grammar.{Level, Atom, Unary, Ands, Ors, Imps, Exprs, Shape, One, Members, IsLead, Between, Spells}
use Rattle.pyv_grammar.specs.Grammar as rule
use Rattle.pyv_grammar.specs.Reading.{eat, skip, on, found, trees, last_open, heights}
use Rattle.pyv_grammar.proofs.Eat.{eat-here, eat-other}
use Rattle.pyv_grammar.proofs.Exact.{Lang, After, Begins, Items, a_token, is_kind}

-- ---- what a text begins with, by a number for each kind

abbrev pub From : (Kind → ℕ) → ℕ → List Token → Type 0
From num n [] = ⊥
From num n (t ∷ ts) = n ≤ num t.kind

pub from_token : (num : Kind → ℕ) (t : Token) (k : Kind) (n : ℕ) → t.kind ≡ k → n ≤ num k → n ≤ num t.kind
from_token num t k n e h = let r = ap num e in omega arith

pub from_less : (num : Kind → ℕ) (n m : ℕ) (s : List Token) → n ≤ m → From num m s → From num n s
from_less num n m [] h e = absurd e
from_less num n m (t ∷ s) h e = omega arith

pub from_front : (num : Kind → ℕ) (n : ℕ) (s r : List Token) → From num n s → From num n (s ++ r)
from_front num n [] r h = absurd h
from_front num n (t ∷ s) r h = h

pub eat-from : (num : Kind → ℕ) (n : ℕ) (k : Kind) (s rest : List Token) → From num n s → num k < n → eat k (s ++ rest) ≡ None
eat-from num n k [] rest h l = absurd h
eat-from num n k (t ∷ s) rest h l = eat-other k t (s ++ rest) (λ e. let r = ap num e in absurd (omega arith))

-- ---- what expressions begin with

abbrev pub start : Kind → ℕ
start kind.Bar = 1
start kind.Amp = 2
start kind.Bang = 3
start kind.Forall = 4
start kind.Exists = 5
start kind.If = 6
start kind.Word = 7
start kind.True = 8
start kind.False = 9
start kind.New = 10
start kind.Distinct = 11
start kind.RoundLeft = 12
start _ = 0

abbrev pub starts_at : Level → ℕ
starts_at Atom = 7
starts_at Unary = 3
starts_at Ands = 2
starts_at Ors = 1
starts_at Imps = 1
starts_at Exprs = 1

abbrev pub StartsAs : Shape → List Token → Type 0
StartsAs (One l x) s = From start (starts_at l) s
StartsAs (Members l k xs) s = From start (starts_at l) s

led : (k : Kind) (n m : ℕ) (lead s : List Token) → IsLead k lead → n ≤ start k → n ≤ m → From start m s → From start n (lead ++ s)
led k n m [] s l h e f = from_less start n m s e f
led k n m (t ∷ []) s l h e f = from_token start t k n l h
led k n m (t ∷ u ∷ ts) s l h e f = absurd l

pub starts : {sh : Shape} {o : Bool} {d h : ℕ} {s : List Token} → Spells sh o d h s → StartsAs sh s
starts (rule.name t w) = from_token start t kind.Word 7 w (omega arith)
starts (rule.call_none t l r w p q) = from_token start t kind.Word 7 w (omega arith)
starts (rule.call t l r args o d h s w p q a) = from_token start t kind.Word 7 w (omega arith)
starts (rule.truth t w) = from_token start t kind.True 7 w (omega arith)
starts (rule.falsity t w) = from_token start t kind.False 7 w (omega arith)
starts (rule.new t l r x o d h s w p q a) = from_token start t kind.New 7 w (omega arith)
starts (rule.distinct t l r xs o d h s w p q a) = from_token start t kind.Distinct 7 w (omega arith)
starts (rule.bracket l r x o d h s p q a) = from_token start l kind.RoundLeft 7 p (omega arith)
starts (rule.atom x d h s a) = from_less start 3 7 s (omega arith) (starts a)
starts (rule.equal t x y d e h i a b k f g) = from_less start 3 7 _ (omega arith) (from_front start 7 a _ (starts f))
starts (rule.unequal t x y d e h i a b k f g) = from_less start 3 7 _ (omega arith) (from_front start 7 a _ (starts f))
starts (rule.not t x o d h s k a) = from_token start t kind.Bang 3 k (omega arith)
starts (rule.all t c bs x o d h b s k l m a) = from_token start t kind.Forall 3 k (omega arith)
starts (rule.some t c bs x o d h b s k l m a) = from_token start t kind.Exists 3 k (omega arith)
starts (rule.conditional t u v x y z o p q d e f h i j a b c k l m n' o' p') = from_token start t kind.If 3 k (omega arith)
starts (rule.and_one x o d h lead s l a) = led kind.Amp 2 3 lead s l (omega arith) (omega arith) (starts a)
starts (rule.ands t x xs o d e h i lead a b l k f g) = led kind.Amp 2 3 lead _ l (omega arith) (omega arith) (from_front start 3 a _ (starts f))
starts (rule.or_one x o d h lead s l a) = led kind.Bar 1 2 lead s l (omega arith) (omega arith) (starts a)
starts (rule.ors t x xs o d e h i lead a b l k f g) = led kind.Bar 1 2 lead _ l (omega arith) (omega arith) (from_front start 2 a _ (starts f))
starts (rule.last l k x o d h s a) = starts a
starts (rule.before l k t x xs p o d e h i a b q w f g) = from_front start (starts_at l) a _ (starts f)
starts (rule.imp_one x o d h s a) = starts a
starts (rule.implies t x y o d e h i a b k f g) = from_front start 1 a _ (starts f)
starts (rule.expr_one x o d h s a) = starts a
starts (rule.iff t x y o d e h i a b k f g) = from_front start 1 a _ (starts f)

-- ---- what may follow, by how tightly a sign holds

abbrev pub rank : Kind → ℕ
rank kind.RoundLeft = 0
rank kind.Equal = 1
rank kind.Unequal = 1
rank kind.Amp = 2
rank kind.Bar = 3
rank kind.Implies = 4
rank kind.Iff = 5
rank _ = 6

abbrev pub rank_of : List Token → ℕ
rank_of [] = 6
rank_of (t ∷ ts) = rank t.kind

abbrev pub holds_at : Level → ℕ
holds_at Atom = 1
holds_at Unary = 2
holds_at Ands = 3
holds_at Ors = 4
holds_at Imps = 5
holds_at Exprs = 6

-- the least rank of what may follow
abbrev pub bound : Level → Bool → ℕ
bound l true = 6
bound l false = holds_at l

abbrev pub AfterLevel : Level → After Found
AfterLevel l x rest = bound l x.ends_open ≤ rank_of rest

pub bound_least : (l : Level) (o : Bool) → holds_at l ≤ bound l o
bound_least l false = omega arith
bound_least Atom true = omega arith
bound_least Unary true = omega arith
bound_least Ands true = omega arith
bound_least Ors true = omega arith
bound_least Imps true = omega arith
bound_least Exprs true = omega arith

pub bound_most : (l : Level) (o : Bool) → bound l o ≤ 6
bound_most l true = omega arith
bound_most Atom false = omega arith
bound_most Unary false = omega arith
bound_most Ands false = omega arith
bound_most Ors false = omega arith
bound_most Imps false = omega arith
bound_most Exprs false = omega arith

-- what may follow a looser level may follow a tighter one
pub tighter : (l m : Level) (o : Bool) (n : ℕ) → holds_at m ≤ holds_at l → bound l o ≤ n → bound m o ≤ n
tighter l m true n e h = h
tighter l m false n e h = omega arith

pub eat-past : (k : Kind) (ts : List Token) → rank k < rank_of ts → eat k ts ≡ None
unfolding eat
eat-past k [] h = refl
eat-past k (t ∷ ts) h = eat-other k t ts (λ e. let r = ap rank e in absurd (omega arith))

-- a sign that may follow what doesn't end open
pub closed_follows : (l : Level) (x : Found) (t : Token) (k : Kind) (r : List Token) → x.ends_open ≡ false → t.kind ≡ k → holds_at l ≤ rank k → AfterLevel l x (t ∷ r)
closed_follows l x t k r o e h = let q = ap rank e in subst (λ p. bound l p ≤ rank t.kind) (sym o) (omega arith)

-- a token that may follow anything
pub ends_all : (l : Level) (x : Found) (t : Token) (k : Kind) (r : List Token) → t.kind ≡ k → 6 ≤ rank k → AfterLevel l x (t ∷ r)
ends_all l x t k r e h = let q = ap rank e in let m = bound_most l x.ends_open in omega arith

-- ---- languages

-- what is spelled at a level, where depth and height are as told
pub record Spelt (R : ℕ → ℕ → Type 0) (l : Level) (x : Found) (s : List Token) : Type 0 where
  pub depth : ℕ
  pub fits : R depth x.height
  pub spells : Spells (One l x.tree) x.ends_open depth x.height s

abbrev pub Any : ℕ → ℕ → Type 0
Any d h = Unit {0}

abbrev pub In : ℕ → ℕ → ℕ → ℕ → Type 0
In n v d h = (d ≤ n) × (h ≤ v)

-- one level further in, and also inside a `<->`
abbrev pub Under : (ℕ → ℕ → Type 0) → ℕ → ℕ → Type 0
Under R d h = R (suc d) h

abbrev pub Inside : (ℕ → ℕ → Type 0) → ℕ → ℕ → Type 0
Inside R d h = R d (suc h)

-- limits that leave room for what is smaller, and for two side by side
pub record Room (R : ℕ → ℕ → Type 0) : Type 0 where
  pub none : R 0 0
  pub less : (d e h i : ℕ) → d ≤ e → h ≤ i → R e i → R d h
  pub both : (d e h i : ℕ) → R d h → R e i → R (max d e) (max h i)

pub any_room : Room Any
any_room = record { none = tt; less = λ d e h i a b r. tt; both = λ d e h i r q. tt }

pub in_room : (n v : ℕ) → Room (In n v)
in_room n v = record { none = (omega arith, omega arith); less = λ d e h i a b r. let p = r.0 in let q = r.1 in (omega arith, omega arith); both = λ d e h i r q. let a = r.0 in let b = r.1 in let c = q.0 in let f = q.1 in (omega arith, omega arith) }

pub both_under : (R : ℕ → ℕ → Type 0) → Room R → (d e h i : ℕ) → R (suc d) h → R (suc e) i → R (suc (max d e)) (max h i)
both_under R room d e h i r q = let same : suc (max d e) ≤ max (suc d) (suc e) = omega arith in room.less (suc (max d e)) (max (suc d) (suc e)) (max h i) (max h i) same (omega arith) (room.both (suc d) (suc e) h i r q)

-- ---- a word is an expression

pub word : List Token
word = a_token kind.Word ∷ []

abbrev pub word_found : Found
word_found = found (expr.Name (a_token kind.Word).span false []) false 0

word_spells : (l : Level) → Spells (One l word_found.tree) false 0 0 word
unfolding word
word_spells Atom = rule.name (a_token kind.Word) (is_kind kind.Word)
word_spells Unary = rule.atom word_found.tree 0 0 word (rule.name (a_token kind.Word) (is_kind kind.Word))
word_spells Ands = rule.and_one word_found.tree false 0 0 [] word tt (rule.atom word_found.tree 0 0 word (rule.name (a_token kind.Word) (is_kind kind.Word)))
word_spells Ors = rule.or_one word_found.tree false 0 0 [] word tt (rule.and_one word_found.tree false 0 0 [] word tt (rule.atom word_found.tree 0 0 word (rule.name (a_token kind.Word) (is_kind kind.Word))))
word_spells Imps = rule.imp_one word_found.tree false 0 0 word (rule.or_one word_found.tree false 0 0 [] word tt (rule.and_one word_found.tree false 0 0 [] word tt (rule.atom word_found.tree 0 0 word (rule.name (a_token kind.Word) (is_kind kind.Word)))))
word_spells Exprs = rule.expr_one word_found.tree false 0 0 word (rule.imp_one word_found.tree false 0 0 word (rule.or_one word_found.tree false 0 0 [] word tt (rule.and_one word_found.tree false 0 0 [] word tt (rule.atom word_found.tree 0 0 word (rule.name (a_token kind.Word) (is_kind kind.Word))))))

pub a_word : (R : ℕ → ℕ → Type 0) (l : Level) → R 0 0 → Begins (Spelt R l) []
a_word R l r = record { rest = word; value = word_found; is = record { depth = 0; fits = r; spells = word_spells l } }

-- ---- members

no_more : (n : ℕ) → max n 0 ≡ n
no_more n = omega arith

-- members with signs between them, as they were found
pub record SpeltMembers (R : ℕ → ℕ → Type 0) (l : Level) (k : Kind) (o : Bool) (xs : List Found) (s : List Token) : Type 0 where
  pub depth : ℕ
  pub fits : R depth (heights xs)
  pub spells : Spells (Members l k (trees xs)) (last_open o xs) depth (heights xs) s

-- members, and how they may have been found
pub record Found_as (R : ℕ → ℕ → Type 0) (l : Level) (k : Kind) (ends : Found → Bool) (o : Bool) (xs : List Expr) (p : Bool) (h : ℕ) (s : List Token) : Type 0 where
  pub items : List Found
  pub is : Items ends k (Spelt R l) items s
  pub trees_are : trees items ≡ xs
  pub opens_as : last_open o items ≡ p
  pub high_as : heights items ≡ h

module _ (R : ℕ → ℕ → Type 0) (room : Room R) (l : Level) (k : Kind) (ends : Found → Bool) where
  pub members_to : ((x : Found) → ends x ≡ false → Between k x.ends_open) → (o : Bool) (xs : List Found) (s : List Token) → Items ends k (Spelt R l) xs s → SpeltMembers R l k o xs s
  members_to between o [] s h = absurd h
  members_to between o (x ∷ []) s h = record {
    depth = h.depth;
    fits = subst (R h.depth) (sym (no_more x.height)) h.fits;
    spells = subst (λ n. Spells (Members l k (x.tree ∷ [])) x.ends_open h.depth n s) (sym (no_more x.height)) (rule.last l k x.tree x.ends_open h.depth x.height s h.spells);
  }
  members_to between o (x ∷ y ∷ ys) s h =
      let m = members_to between x.ends_open (y ∷ ys) h.2 h.7 in
      record {
        depth = max h.4.depth m.depth;
        fits = room.both h.4.depth m.depth x.height (heights (y ∷ ys)) h.4.fits m.fits;
        spells = subst (λ (t : List Token). Spells (Members l k (trees (x ∷ y ∷ ys))) (last_open o (x ∷ y ∷ ys)) (max h.4.depth m.depth) (heights (x ∷ y ∷ ys)) t) (sym h.3)
            (rule.before l k h.1 x.tree (trees (y ∷ ys)) x.ends_open (last_open x.ends_open (y ∷ ys)) h.4.depth m.depth x.height (heights (y ∷ ys)) h.0 h.2 h.5 (between x h.6) h.4.spells m.spells);
      }

  as_item : (x : Expr) (p : Bool) (d h : ℕ) (a : List Token) → Spells (One l x) p d h a → R d h → Spelt R l (found x p h) a
  as_item x p d h a f r = record { depth = d; fits = r; spells = f }

  more_found : (x : Expr) (p : Bool) (d h : ℕ) (a : List Token) (t : Token) (b : List Token) (xs : List Expr) (o q : Bool) (i : ℕ) → ends (found x p h) ≡ false → t.kind ≡ k → Spelt R l (found x p h) a
      → (items : List Found) → Items ends k (Spelt R l) items b → trees items ≡ xs → last_open p items ≡ o → heights items ≡ i → Found_as R l k ends q (x ∷ xs) o (max h i) (a ++ t ∷ b)
  more_found x p d h a t b xs o q i closed e f [] m u v w = absurd m
  more_found x p d h a t b xs o q i closed e f (y ∷ ys) m u v w = record {
    items = found x p h ∷ y ∷ ys;
    is = (a, t, b, refl, f, e, closed, m);
    trees_are = ap (λ (z : List Expr). x ∷ z) u;
    opens_as = v;
    high_as = ap (max h) w;
  }

  pub members_from : ((p : Bool) (x : Expr) (h : ℕ) → Between k p → ends (found x p h) ≡ false) → {sh : Shape} {o : Bool} {d h : ℕ} {s : List Token} → Spells sh o d h s → (xs : List Expr) → sh ≡ Members l k xs → (q : Bool) → R d h → Found_as R l k ends q xs o h s
  members_from closed (rule.last m j x o d h s a) xs e q r =
      let lm : m ≡ l = cc in
      let te : x ∷ [] ≡ xs = cc in
      record {
        items = found x o h ∷ [];
        is = as_item x o d h s (subst (λ (z : Level). Spells (One z x) o d h s) lm a) r;
        trees_are = te;
        opens_as = refl;
        high_as = no_more h;
      }
  members_from closed (rule.before m j t x xs p o d e' h i a b w z f g) ys e q r =
      let lm : m ≡ l = cc in
      let kj : j ≡ k = cc in
      let te : x ∷ xs ≡ ys = cc in
      let r1 : R d h = room.less d (max d e') h (max h i) (omega arith) (omega arith) r in
      let r2 : R e' i = room.less e' (max d e') i (max h i) (omega arith) (omega arith) r in
      let one = as_item x p d h a (subst (λ (z : Level). Spells (One z x) p d h a) lm f) r1 in
      let sh : Members m j xs ≡ Members l k xs = cc in
      let others = members_from closed g xs sh p r2 in
      let all = more_found x p d h a t b xs o q i (closed p x h (subst (λ (z : Kind). Between z p) kj z)) (w ∙ kj) one others.items others.is others.trees_are others.opens_as others.high_as in
      subst (λ (z : List Expr). Found_as R l k ends q z o (max h i) (a ++ t ∷ b)) te all
  members_from closed _ xs e q r = absurd cc

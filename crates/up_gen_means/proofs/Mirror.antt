-- Trees of the generated texts as plain data, on which what they mean can be computed: an expression
-- of a text is a value of the code, whose lists no definition opens.
use Rattle.std.proofs.Common.{rules, ◌≡◌, ◌∙◌, ℕ, zero, suc, Bool, true, false, List, [], ◌∷◌, length, map, None, Ok, Err, refl, ap, ap₂}
use Rattle.pv_base.specs.declared.Span.{Span}
use Rattle.pyv_lex.specs.declared.token.Kind.{Kind}
use Rattle.pyv_lex.specs.declared.token.Kind.TheVariants as kind
use Rattle.pyv_lex.specs.declared.token.Token.{Token}
use Rattle.pyv_grammar.specs.declared.tree.Bound.{Bound}
use Rattle.pyv_grammar.specs.declared.tree.Decl.{Decl}
use Rattle.pyv_grammar.specs.declared.tree.Decl.TheVariants as decl
use Rattle.pyv_grammar.specs.declared.tree.Expr.{Expr}
use Rattle.pyv_grammar.specs.declared.tree.Expr.TheVariants as V
use Rattle.pyv_grammar.specs.declared.tree.Expr.TheFolds.{the_lemmas}
use Rattle.pyv_grammar.specs.Reading.{Got, Reader, all_separated, and_then, bound_at, closed_list, give, label_at, modifies_at, name_at, never, refuse, skip, try, wants}
use Rattle.pyv_meaning.specs.Items.{Item, items_of}
use Rattle.pyv_meaning.specs.Items as item
use Rattle.pyv_meaning.specs.Tree.{Conjunction, Disjunction, Equivalence, Implication, Tree, Trees, trees_of}
use Rattle.pyv_meaning.specs.Tree as tree
use Rattle.pyv_meaning.specs.View.{binders_of, name_of, names_of, view}

mutual
  pub data Plain : Type 0 where
    Name : Span → Bool → Plains → Plain
    New : ℕ → Plain → Plain
    Not : ℕ → Plain → Plain
    And : ℕ → Plains → Plain
    Or : ℕ → Plains → Plain
    Implies : ℕ → Plain → Plain → Plain
    Iff : ℕ → Plain → Plain → Plain
    Equal : ℕ → Plain → Plain → Plain
    Unequal : ℕ → Plain → Plain → Plain

  pub data Plains : Type 0 where
    none : Plains
    more : Plain → Plains → Plains

abbrev plains_of : List Plain → Plains
plains_of [] = none
plains_of (x ∷ xs) = more x (plains_of xs)

pub data Part : Type 0 where
  Sort : Span → Part
  Relation : Span → List Span → Part
  Init : Plain → Part
  Safety : Plain → Part
  Transition : Span → List Bound → List Span → Plain → Part

-- ---- the values of the code

abbrev mutual
  pub expr_of : Plain → Expr
  expr_of (Name s b xs) = V.Name s b (exprs_of xs)
  expr_of (New p x) = V.New p (expr_of x)
  expr_of (Not p x) = V.Not p (expr_of x)
  expr_of (And p xs) = V.And p (exprs_of xs)
  expr_of (Or p xs) = V.Or p (exprs_of xs)
  expr_of (Implies p x y) = V.Implies p (expr_of x) (expr_of y)
  expr_of (Iff p x y) = V.Iff p (expr_of x) (expr_of y)
  expr_of (Equal p x y) = V.Equal p (expr_of x) (expr_of y)
  expr_of (Unequal p x y) = V.Unequal p (expr_of x) (expr_of y)

  pub exprs_of : Plains → List Expr
  exprs_of none = []
  exprs_of (more x xs) = expr_of x ∷ exprs_of xs

abbrev pub decl_of : Part → Decl
decl_of (Sort s) = decl.Sort s
decl_of (Relation s args) = decl.Relation true s args
decl_of (Init x) = decl.Init (expr_of x)
decl_of (Safety x) = decl.Safety (expr_of x)
decl_of (Transition s params modifies x) = decl.Transition s params modifies (expr_of x)

-- ---- how they are seen

module _ (bytes : List ℕ) where
  abbrev mutual
    pub seen : Plain → Tree
    seen (Name s b xs) = tree.Named (name_of bytes s) b (all_seen xs)
    seen (New p x) = tree.New p (seen x)
    seen (Not p x) = tree.Not p (seen x)
    seen (And p xs) = tree.Joined p Conjunction (all_seen xs)
    seen (Or p xs) = tree.Joined p Disjunction (all_seen xs)
    seen (Implies p x y) = tree.Connected p Implication (seen x) (seen y)
    seen (Iff p x y) = tree.Connected p Equivalence (seen x) (seen y)
    seen (Equal p x y) = tree.Compared p true (seen x) (seen y)
    seen (Unequal p x y) = tree.Compared p false (seen x) (seen y)

    pub all_seen : Plains → Trees
    all_seen none = tree.none
    all_seen (more x xs) = tree.more (seen x) (all_seen xs)

  view_name : (s : Span) (b : Bool) (xs : List Expr) → view bytes (V.Name s b xs) ≡ tree.Named (name_of bytes s) b (trees_of (map (view bytes) xs))
  view_name s b xs = search (rules, the_lemmas)

  view_new : (p : ℕ) (x : Expr) → view bytes (V.New p x) ≡ tree.New p (view bytes x)
  view_new p x = search (rules, the_lemmas)

  view_not : (p : ℕ) (x : Expr) → view bytes (V.Not p x) ≡ tree.Not p (view bytes x)
  view_not p x = search (rules, the_lemmas)

  view_and : (p : ℕ) (xs : List Expr) → view bytes (V.And p xs) ≡ tree.Joined p Conjunction (trees_of (map (view bytes) xs))
  view_and p xs = search (rules, the_lemmas)

  view_or : (p : ℕ) (xs : List Expr) → view bytes (V.Or p xs) ≡ tree.Joined p Disjunction (trees_of (map (view bytes) xs))
  view_or p xs = search (rules, the_lemmas)

  view_implies : (p : ℕ) (x y : Expr) → view bytes (V.Implies p x y) ≡ tree.Connected p Implication (view bytes x) (view bytes y)
  view_implies p x y = search (rules, the_lemmas)

  view_iff : (p : ℕ) (x y : Expr) → view bytes (V.Iff p x y) ≡ tree.Connected p Equivalence (view bytes x) (view bytes y)
  view_iff p x y = search (rules, the_lemmas)

  view_equal : (p : ℕ) (x y : Expr) → view bytes (V.Equal p x y) ≡ tree.Compared p true (view bytes x) (view bytes y)
  view_equal p x y = search (rules, the_lemmas)

  view_unequal : (p : ℕ) (x y : Expr) → view bytes (V.Unequal p x y) ≡ tree.Compared p false (view bytes x) (view bytes y)
  view_unequal p x y = search (rules, the_lemmas)

  mutual
    same : (x : Plain) → view bytes (expr_of x) ≡ seen x
    same (Name s b xs) = view_name s b (exprs_of xs) ∙ ap (tree.Named (name_of bytes s) b) (all_same xs)
    same (New p x) = view_new p (expr_of x) ∙ ap (tree.New p) (same x)
    same (Not p x) = view_not p (expr_of x) ∙ ap (tree.Not p) (same x)
    same (And p xs) = view_and p (exprs_of xs) ∙ ap (tree.Joined p Conjunction) (all_same xs)
    same (Or p xs) = view_or p (exprs_of xs) ∙ ap (tree.Joined p Disjunction) (all_same xs)
    same (Implies p x y) = view_implies p (expr_of x) (expr_of y) ∙ ap₂ (tree.Connected p Implication) (same x) (same y)
    same (Iff p x y) = view_iff p (expr_of x) (expr_of y) ∙ ap₂ (tree.Connected p Equivalence) (same x) (same y)
    same (Equal p x y) = view_equal p (expr_of x) (expr_of y) ∙ ap₂ (tree.Compared p true) (same x) (same y)
    same (Unequal p x y) = view_unequal p (expr_of x) (expr_of y) ∙ ap₂ (tree.Compared p false) (same x) (same y)

    all_same : (xs : Plains) → trees_of (map (view bytes) (exprs_of xs)) ≡ all_seen xs
    all_same none = refl
    all_same (more x xs) = ap₂ tree.more (same x) (all_same xs)

  abbrev pub item_seen : Part → Item
  item_seen (Sort s) = item.Sort (name_of bytes s)
  item_seen (Relation s args) = item.Symbol (record { name = name_of bytes s; mutable = true; args = names_of bytes args; result = None })
  item_seen (Init x) = item.Claim item.Init (seen x)
  item_seen (Safety x) = item.Claim item.Safety (seen x)
  item_seen (Transition s params modifies x) = item.Transition (name_of bytes s) (binders_of bytes params) (names_of bytes modifies) (seen x)

  item_same : (x : Part) → item.item_of bytes (decl_of x) ≡ item_seen x
  item_same (Sort s) = refl
  item_same (Relation s args) = refl
  item_same (Init x) = ap (item.Claim item.Init) (same x)
  item_same (Safety x) = ap (item.Claim item.Safety) (same x)
  item_same (Transition s params modifies x) = ap (item.Transition (name_of bytes s) (binders_of bytes params) (names_of bytes modifies)) (same x)

  -- the declarations are seen as those that are computed
  pub items_same : (xs : List Part) → items_of bytes (map decl_of xs) ≡ map item_seen xs
  items_same [] = refl
  items_same (x ∷ xs) = ap₂ (λ (a : Item) (b : List Item). a ∷ b) (item_same x) (items_same xs)

-- ---- reading them off the tokens, as far as the generated texts need; that it reads rightly is seen
-- by comparing it with the grammar's reading

abbrev atom : Reader Plain → Reader Plain
atom e =
    try kind.Word (λ t. try kind.RoundLeft (λ _. and_then (closed_list e) (λ xs. give (Name t.span true (plains_of xs)))) (give (Name t.span false none)))
    (try kind.New (λ t. and_then (wants kind.RoundLeft) (λ _. and_then e (λ x. and_then (wants kind.RoundRight) (λ _. give (New t.span.from x)))))
    (try kind.RoundLeft (λ _. and_then e (λ x. and_then (wants kind.RoundRight) (λ _. give x))) refuse))

abbrev comparison : Reader Plain → Reader Plain
comparison e = and_then (atom e) (λ x.
    try kind.Equal (λ t. and_then (atom e) (λ y. give (Equal t.span.from x y)))
    (try kind.Unequal (λ t. and_then (atom e) (λ y. give (Unequal t.span.from x y))) (give x)))

abbrev unary : Reader Plain → Reader Plain → Reader Plain
unary u e = try kind.Bang (λ t. and_then u (λ x. give (Not t.span.from x))) (comparison e)

abbrev list : Reader Plain → Kind → (ℕ → Plains → Plain) → Reader Plain
list e k node ts = and_then e (λ x. try k (λ t. and_then (all_separated never e k) (λ ys. give (node t.span.from (more x (plains_of ys))))) (give x)) (skip k ts)

abbrev implication : Reader Plain → Reader Plain → Reader Plain
implication ors deep = and_then ors (λ x. try kind.Implies (λ t. and_then deep (λ y. give (Implies t.span.from x y))) (give x))

abbrev equivalence : Reader Plain → Reader Plain
equivalence imps = and_then imps (λ x. try kind.Iff (λ t. and_then imps (λ y. give (Iff t.span.from x y))) (give x))

pub record Levels : Type 0 where
  pub unaries : Reader Plain
  pub imps : Reader Plain
  pub exprs : Reader Plain

abbrev above : Levels → Levels
above d =
    let unaries = unary d.unaries d.exprs in
    let imps = implication (list (list unaries kind.Amp And) kind.Bar Or) d.imps in
    record { unaries = unaries; imps = imps; exprs = equivalence imps }

abbrev levels : ℕ → Levels
levels zero = record { unaries = refuse; imps = refuse; exprs = refuse }
levels (suc n) = above (levels n)

abbrev part : Reader Plain → Reader Part
part e =
    try kind.Sort (λ _. and_then name_at (λ w. give (Sort w)))
    (try kind.Mutable (λ _. and_then (wants kind.Relation) (λ _. and_then name_at (λ w. try kind.RoundLeft (λ _. and_then (closed_list name_at) (λ xs. give (Relation w xs))) (give (Relation w [])))))
    (try kind.Init (λ _. and_then label_at (λ _. and_then e (λ x. give (Init x))))
    (try kind.Safety (λ _. and_then label_at (λ _. and_then e (λ x. give (Safety x))))
    (and_then (wants kind.Transition) (λ _. and_then name_at (λ w. and_then (wants kind.RoundLeft) (λ _. and_then (closed_list bound_at) (λ ps. and_then modifies_at (λ ns. and_then e (λ x. give (Transition w ps ns x)))))))))))

abbrev parts_on : Got Part → (List Token → List Part) → List Part
parts_on (Ok x) rest = x.0 ∷ rest x.1
parts_on (Err e) rest = []

-- the declarations that these tokens spell
abbrev parts : Reader Part → ℕ → List Token → List Part
parts f zero ts = []
parts f (suc n) [] = []
parts f (suc n) (t ∷ ts) = parts_on (f (t ∷ ts)) (parts f n)

abbrev pub mirror : List Token → List Part
mirror ts = parts (part (levels 8).exprs) (length ts) ts

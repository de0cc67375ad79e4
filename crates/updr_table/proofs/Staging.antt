-- Rows over what is meant stay exclusive.
use Rattle.std.proofs.Common.{◌≡◌, List, [], ◌∷◌, ◌++◌, inl, inr, subst}
use Rattle.updr_told.specs.Ends.{End}
use Rattle.updr_table.specs.Rows.{AtMostOne, Ends, NoneComes, Row}
use Rattle.updr_table.specs.Stages.{ComeOnlyIfNone, IsStage, refused_else, staged}

module _ {X L : Type 0} (x : X) where
  none_of_both : (rs ss : List (Row X L)) → NoneComes rs x → NoneComes ss x → NoneComes (rs ++ ss) x
  none_of_both [] ss none others = others
  none_of_both (r ∷ rs) ss none others = (none.0, none_of_both rs ss none.1 others)

  -- an end of the later rows is one of all
  later_ends : (rs ss : List (Row X L)) (e : End L) → Ends ss x e → Ends (rs ++ ss) x e
  later_ends [] ss e h = h
  later_ends (r ∷ rs) ss e h = inr (later_ends rs ss e h)

  -- an end of the first rows is one of all
  pub first_ends : (rs ss : List (Row X L)) (e : End L) → Ends rs x e → Ends (rs ++ ss) x e
  first_ends [] ss e h = absurd h
  first_ends (r ∷ rs) ss e (inl h) = inl h
  first_ends (r ∷ rs) ss e (inr h) = inr (first_ends rs ss e h)

module _ {X A L : Type 0} (Means : X → A → Type 0) (x : X) where
  none_staged : ((a b : A) → Means x a → Means x b → a ≡ b) → (rows : List (Row A L)) (a : A) → Means x a → NoneComes rows a → NoneComes (staged Means rows) x
  none_staged one [] a means none = tt
  none_staged one (r ∷ rs) a means none = (λ (b, other, comes). none.0 (subst (λ (c : A). r.comes c) (one b a other means) comes), none_staged one rs a means none.1)

  staged_one : ((a b : A) → Means x a → Means x b → a ≡ b) → (rows : List (Row A L)) → ((a : A) → Means x a → AtMostOne rows a) → AtMostOne (staged Means rows) x
  staged_one one [] each = tt
  staged_one one (r ∷ rs) each = (λ (a, means, comes). none_staged one rs a means ((each a means).0 comes), staged_one one rs (λ a means. (each a means).1))

  never_staged : (rows : List (Row A L)) → ((a : A) → ¬ Means x a) → NoneComes (staged Means rows) x
  never_staged [] none = tt
  never_staged (r ∷ rs) none = (λ (a, means, _). none a means, never_staged rs none)

  refused_one : (refusals : List (Row X L)) (rows : List (Row A L)) → AtMostOne refusals x → ComeOnlyIfNone refusals Means x → AtMostOne (staged Means rows) x → AtMostOne (refusals ++ staged Means rows) x
  refused_one [] rows exclusive apart each = each
  refused_one (r ∷ rs) rows exclusive apart each =
      (λ comes. none_of_both x rs (staged Means rows) (exclusive.0 comes) (never_staged rows (apart.0 comes)), refused_one rs rows exclusive.1 apart.1 each)

  -- an end of the rows over what is meant is one of the staged rows
  staged_ends : (a : A) → Means x a → (rows : List (Row A L)) (e : End L) → Ends rows a e → Ends (staged Means rows) x e
  staged_ends a means [] e h = h
  staged_ends a means (r ∷ rs) e (inl h) = inl (record { comes = (a, means, h.comes); bytes = h.bytes; left = h.left; says = (a, means, h.says); is = h.is })
  staged_ends a means (r ∷ rs) e (inr h) = inr (staged_ends a means rs e h)

  -- what the stage refuses is an end of the whole
  pub refusal_ends : (refusals : List (Row X L)) (rows : List (Row A L)) (e : End L) → Ends refusals x e → Ends (refused_else refusals Means rows) x e
  refusal_ends refusals rows e h = first_ends x refusals (staged Means rows) e h

  -- and so is an end of the rows over what is meant
  pub meaning_ends : (refusals : List (Row X L)) (a : A) → Means x a → (rows : List (Row A L)) (e : End L) → Ends rows a e → Ends (refused_else refusals Means rows) x e
  meaning_ends refusals a means rows e h = later_ends x refusals (staged Means rows) e (staged_ends a means rows e h)

-- at most one row comes of a stage's refusals and of exclusive rows over what is meant
pub stage_one : {X A L : Type 0} (refusals : List (Row X L)) (Means : X → A → Type 0) → IsStage refusals Means → (rows : List (Row A L)) (x : X) → ((a : A) → Means x a → AtMostOne rows a) → AtMostOne (refused_else refusals Means rows) x
stage_one refusals Means stage rows x each = refused_one Means x refusals rows (stage.exclusive x) (stage.apart x) (staged_one Means x (stage.one x) rows each)

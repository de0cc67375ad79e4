-- A free variable of a closed part is told there as bound, and stands under few binders.
use Rattle.std.proofs.Common.{◌≡◌, ℕ, ◌+◌, ◌==◌, ◌<◌, ◌++◌, Bool, false, not, List, [], ◌∷◌, length, sym, ap, ◌∙◌, subst, inl, inr, arith}
use Rattle.std.specs.Prelude.{None, nat_lt}
use Rattle.std.proofs.lemmas.Bool.{eqb-true, eq-eqb}
use Rattle.fo_core.specs.Tables.{symbol_at}
use Rattle.fo_core.specs.declared.names.Names.{Names}
use Rattle.fo_core.specs.declared.signature.Sig.{Sig}
use Rattle.pyv_meaning.specs.declared.stand.Stand.{Stand}
use Rattle.pyv_meaning.specs.declared.variable.Meaning.{Meaning}
use Rattle.pyv_meaning.specs.declared.variable.Meaning.TheVariants.{Variable, Symbol, Unknown}
use Rattle.pyv_meaning.specs.declared.variable.Use.{Use}
use Rattle.pyv_meaning.specs.declared.variable.Use.TheVariants.{Binder as Binds}
use Rattle.pyv_meaning.specs.Closing.{if_free, frees, each_free}
use Rattle.pyv_meaning.specs.Gets.{Among, here}
use Rattle.pyv_meaning.specs.NameFaults.{is_kind, name_fault, fault, faults, distinct_faults, term_at, formula_at, inside_new}
use Rattle.pyv_meaning.specs.Scope.{lookup, resolve}
use Rattle.pyv_meaning.specs.Uses.{first_occurs, binder_uses, places, uses, each_uses, argument_uses, all_equated, sides, side, equated, stands}
use Rattle.pyv_meaning.specs.Tree.{Name, Tree, Trees, Truth, Named, New, Distinct, Not, Joined, Connected, Compared, Quantified, If, none, more, count, bound_names}
use Rattle.pyv_meaning.proofs.Basics.{both_fine, unless_fine, below, and_right, among_left, among_right, among_either}
use Rattle.pyv_meaning.proofs.Lookups.{skips, in_turn, nothing_found, unknown_parts, looked_resolves, free_is}
use Rattle.pyv_meaning.proofs.Resolved.{at_level}

-- of a name m, which is the variable bound at v, on this level, once the scope s is closed as t
module _ (names : Names) (sig : Sig) (m : Name) (v level : ℕ) where
  abbrev pub Closes : List Name → List Name → Type 0
  Closes s t = lookup None 0 s m.word ≡ None → lookup None 0 t m.word ≡ at_level v level

  pub closes_inside : (s t bs : List Name) → Closes s t → Closes (s ++ bs) (t ++ bs)
  closes_inside s t bs c h =
      let r = nothing_found (lookup None 0 s m.word) (0 + length s) bs m.word (sym (in_turn None 0 s bs m.word) ∙ h) in
      in_turn None 0 t bs m.word ∙ skips (lookup None 0 t m.word) (0 + length t) bs m.word r.1 ∙ c r.0

  -- what such a name tells where it stands
  abbrev pub Occurs : List Use → Type 0
  Occurs us = (m.place ≡ v → Among (Binds v) us) × (level < 64)

  on_left : (us vs : List Use) → Occurs us → Occurs (us ++ vs)
  on_left us vs o = (λ e. among_left _ us vs (o.0 e), o.1)

  on_right : (us vs : List Use) → Occurs vs → Occurs (us ++ vs)
  on_right us vs o = (λ e. among_right _ us vs (o.0 e), o.1)

  one_binder : (p : ℕ) → p ≡ v → Among (Binds v) (first_occurs (Variable v level) p)
  one_binder p e = rw (eq-eqb v p (sym e)) (here _ _)

  low_level : (a : Stand) (p : ℕ) (b : Bool) (n : ℕ) → name_fault names sig a (Variable v level) p b n ≡ None → level < 64
  low_level a p b n f =
      let k = both_fine (is_kind a.formula false p) _ f in
      let l = both_fine _ _ k.1 in
      let o = both_fine _ _ l.1 in
      below level 64 (unless_fine _ _ o.0)

  stands_here : (r : Meaning) (k : Name) (us : List Use) (a : Stand) (b : Bool) (c : ℕ) → r ≡ Variable v level → m ≡ k → name_fault names sig a r k.place b c ≡ None → Occurs (first_occurs r k.place ++ us)
  stands_here r k us a b c e i f =
      let g : name_fault names sig a (Variable v level) k.place b c ≡ None = subst (λ q. name_fault names sig a q k.place b c ≡ None) e f in
      (λ h. among_left _ _ us (subst (λ q. Among (Binds v) (first_occurs q k.place)) (sym e) (one_binder k.place (ap (λ (z : Name). z.place) (sym i) ∙ h))), low_level a k.place b c g)

  no_frees : (xs : Trees) (s : List Name) → count xs ≡ 0 → Among m (each_free names xs s) → ⊥
  no_frees none s e q = elim q [ ]
  no_frees (more x xs) s e q = absurd (omega (arith, e))

  -- the arguments of a name that isn't at fault
  at_places : (r : Meaning) (p : ℕ) (b : Bool) (a : Stand) (xs : Trees) (t : List Name) → name_fault names sig a r p b (count xs) ≡ None → (count xs ≡ 0 → ⊥)
      → ((ss : List ℕ) → count xs ≡ length ss → Occurs (argument_uses names sig xs ss t)) → Occurs (argument_uses names sig xs (places names sig r) t)
  at_places (Variable u l) p b a xs t f q args =
      let k = both_fine (is_kind a.formula false p) _ f in
      let l = both_fine _ _ k.1 in
      absurd (q (eqb-true (count xs) 0 (and_right (not b) (count xs == 0) (unless_fine _ _ l.0))))
  at_places (Symbol k) p b a xs t f q args =
      let kind = both_fine _ _ f in
      let arity = both_fine _ _ kind.1 in
      args (symbol_at sig k).args (eqb-true _ _ (unless_fine _ _ arity.0))
  at_places Unknown p b a xs t f q args = absurd (cc)

  mutual
    pub occurs : (x : Tree) (a : Stand) (s t : List Name) → Closes s t → fault names sig x a t ≡ None → Among m (frees names x s) → Occurs (uses names sig x t)
    occurs (Truth p b) a s t c f q = elim q [ ]
    occurs (Named k b xs) a s t c f q =
        let fine = both_fine _ _ f in
        elim (among_either m (if_free (resolve names s k.word) k) (each_free names xs s) q) [
          | inl r ↦
              let i = free_is (resolve names s k.word) m k r in
              let u = unknown_parts names s k.word i.0 in
              let w : lookup None 0 t k.word ≡ at_level v level = subst (λ (z : Name). lookup None 0 t z.word ≡ at_level v level) i.1 (c (subst (λ (z : Name). lookup None 0 s z.word ≡ None) (sym i.1) u.0)) in
              stands_here (resolve names t k.word) k _ a b (count xs) (looked_resolves names t k.word v level w) i.1 fine.0
          | inr r ↦ on_right (first_occurs (resolve names t k.word) k.place) _ (at_places (resolve names t k.word) k.place b a xs t fine.0 (λ e. no_frees xs s e r) (λ ss e. occurs_places xs ss a s t c e fine.1 r))
        ]
    occurs (New p x) a s t c f q = let fine = both_fine _ _ f in occurs x (inside_new a) s t c fine.1 q
    occurs (Distinct p xs) a s t c f q = let fine = both_fine _ _ f in on_right (all_equated (sides names sig xs t)) _ (occurs_distinct xs a 0 s t c fine.1 q)
    occurs (Not p x) a s t c f q = let fine = both_fine _ _ f in occurs x (formula_at a) s t c fine.1 q
    occurs (Joined p j none) a s t c f q = elim q [ ]
    occurs (Joined p j (more x xs)) a s t c f q =
        let fine = both_fine _ _ f in
        let rest = both_fine _ _ fine.1 in
        elim (among_either m (frees names x s) (each_free names xs s) q) [
          | inl r ↦ on_left _ _ (occurs x (formula_at a) s t c fine.0 r)
          | inr r ↦ on_right (uses names sig x t) _ (occurs_each xs (formula_at a) s t c rest.1 r)
        ]
    occurs (Connected p o x y) a s t c f q =
        let fine = both_fine _ _ f in
        let rest = both_fine _ _ fine.1 in
        elim (among_either m (frees names x s) (frees names y s) q) [
          | inl r ↦ on_left _ _ (occurs x (formula_at a) s t c fine.0 r)
          | inr r ↦ on_right (uses names sig x t) _ (occurs y (formula_at a) s t c rest.1 r)
        ]
    occurs (Compared p e x y) a s t c f q =
        let fine = both_fine _ _ f in
        let rest = both_fine _ _ fine.1 in
        on_right (equated (side names sig x t) (side names sig y t)) _ (elim (among_either m (frees names x s) (frees names y s) q) [
          | inl r ↦ on_left _ _ (occurs x (term_at a false) s t c fine.0 r)
          | inr r ↦ on_right (uses names sig x t) _ (occurs y (term_at a false) s t c rest.1 r)
        ])
    occurs (Quantified p o bs x) a s t c f q =
        let fine = both_fine _ _ f in
        let rest = both_fine _ _ fine.1 in
        on_right (binder_uses names bs) _ (occurs x (formula_at a) (s ++ bound_names bs) (t ++ bound_names bs) (closes_inside s t (bound_names bs) c) rest.1 q)
    occurs (If p x y z) a s t c f q =
        let fine = both_fine _ _ f in
        let rest = both_fine _ _ fine.1 in
        let last = both_fine _ _ rest.1 in
        elim (among_either m (frees names x s) (frees names y s ++ frees names z s) q) [
          | inl r ↦ on_left _ _ (occurs x (formula_at a) s t c rest.0 r)
          | inr r ↦ on_right (uses names sig x t) _ (elim (among_either m (frees names y s) (frees names z s) r) [
            | inl w ↦ on_left _ _ (occurs y (formula_at a) s t c last.0 w)
            | inr w ↦ on_right (uses names sig y t) _ (occurs z (formula_at a) s t c last.1 w)
          ])
        ]

    occurs_each : (xs : Trees) (a : Stand) (s t : List Name) → Closes s t → faults names sig xs a t ≡ None → Among m (each_free names xs s) → Occurs (each_uses names sig xs t)
    occurs_each none a s t c f q = elim q [ ]
    occurs_each (more x xs) a s t c f q =
        let fine = both_fine _ _ f in
        elim (among_either m (frees names x s) (each_free names xs s) q) [
          | inl r ↦ on_left _ _ (occurs x a s t c fine.0 r)
          | inr r ↦ on_right (uses names sig x t) _ (occurs_each xs a s t c fine.1 r)
        ]

    occurs_distinct : (xs : Trees) (a : Stand) (i : ℕ) (s t : List Name) → Closes s t → distinct_faults names sig xs a i t ≡ None → Among m (each_free names xs s) → Occurs (each_uses names sig xs t)
    occurs_distinct none a i s t c f q = elim q [ ]
    occurs_distinct (more x xs) a i s t c f q =
        let fine = both_fine _ _ f in
        elim (among_either m (frees names x s) (each_free names xs s) q) [
          | inl r ↦ on_left _ _ (occurs x (term_at a (not (nat_lt i 16))) s t c fine.0 r)
          | inr r ↦ on_right (uses names sig x t) _ (occurs_distinct xs a (i + 1) s t c fine.1 r)
        ]

    occurs_places : (xs : Trees) (ss : List ℕ) (a : Stand) (s t : List Name) → Closes s t → count xs ≡ length ss → faults names sig xs (term_at a false) t ≡ None → Among m (each_free names xs s) → Occurs (argument_uses names sig xs ss t)
    occurs_places none ss a s t c e g q = elim q [ ]
    occurs_places (more x xs) [] a s t c e g q = absurd (omega (arith, e))
    occurs_places (more x xs) (n ∷ ss) a s t c e g q =
        let fine = both_fine _ _ g in
        on_right (stands (side names sig x t) n) _ (elim (among_either m (frees names x s) (each_free names xs s) q) [
          | inl r ↦ on_left _ _ (occurs x (term_at a false) s t c fine.0 r)
          | inr r ↦ on_right (uses names sig x t) _ (occurs_places xs ss a s t c (omega (arith, e)) fine.1 r)
        ])

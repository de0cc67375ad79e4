-- What a step of the code adds to the Skolem form.
use Rattle.std.proofs.Common.{◌≡◌, ℕ, Bool, true, false, not, ◌+◌, ◌<◌, List, [], ◌∷◌, ◌++◌, length, get_or, take, sym, ap, subst, ◌∙◌, arith, length-append, append_assoc}
use Rattle.std.proofs.lemmas.List.{take_more}
use Rattle.fo_core.specs.declared.signature.Symbol.{Symbol}
use Rattle.fo_core.specs.declared.formula.Formula.{Formula}
use Rattle.fo_core.specs.declared.formula.Formula.TheVariants as F
use Rattle.fo_norm.specs.declared.scope.Slot.{Slot}
use Rattle.fo_core.specs.Skolems.{skolem_symbols, skolem_symbols_list}
use Rattle.fo_norm.specs.Skolem.{joined, formed, formed_list, universal, existential, universal_symbols, existential_symbols}
use Rattle.fo_norm.proofs.SyntaxRows.{symbols-And, symbols-Or, formed-And, formed-Or, formed-Not, symbols-Not, formed-All-true, formed-All-false, formed-Ex-true, formed-Ex-false, symbols-All-true, symbols-All-false, symbols-Ex-true, symbols-Ex-false, symbols-push, formed-push}

module _ (b : Bool) (fs : List Formula) (i : ℕ) (g : Formula) (slots : List Slot) (us : List ℕ) (old cur : List Symbol) (lt : i < length fs) (is : g ≡ get_or fs i g) (so_far : cur ≡ old ++ skolem_symbols_list b (take i fs) us) where
  one_more : take (i + 1) fs ≡ take i fs ++ g ∷ []
  one_more = take_more fs i g lt ∙ ap (λ x. take i fs ++ x ∷ []) (sym is)

  -- one more formula of a list
  pub formed-step : (slots' : List Slot) (us' : List ℕ) (n : ℕ) (parts : List Formula) (h : Formula) → parts ≡ formed_list b (take i fs) slots us (n + length old) → slots' ≡ slots → us' ≡ us → h ≡ formed b g slots' us' (n + length cur) →
      parts ++ h ∷ [] ≡ formed_list b (take (i + 1) fs) slots us (n + length old)
  formed-step slots' us' n parts h p e u q =
      let count : n + length cur ≡ n + length old + length (skolem_symbols_list b (take i fs) us) = omega (arith, ap length so_far, length-append old (skolem_symbols_list b (take i fs) us)) in
      ap (λ ps. ps ++ h ∷ []) p
      ∙ ap (λ x. formed_list b (take i fs) slots us (n + length old) ++ x ∷ []) (q ∙ ap (λ s. formed b g s us' (n + length cur)) e ∙ ap (λ u. formed b g slots u (n + length cur)) u ∙ ap (formed b g slots us) count)
      ∙ sym (formed-push b (take i fs) g slots us (n + length old))
      ∙ ap (λ fs. formed_list b fs slots us (n + length old)) (sym one_more)

  pub symbols-step : (us' : List ℕ) (new : List Symbol) → us' ≡ us → new ≡ cur ++ skolem_symbols b g us' → new ≡ old ++ skolem_symbols_list b (take (i + 1) fs) us
  symbols-step us' new u q =
      q ∙ ap (λ u. cur ++ skolem_symbols b g u) u ∙ ap (λ c. c ++ skolem_symbols b g us) so_far ∙ append_assoc old (skolem_symbols_list b (take i fs) us) (skolem_symbols b g us)
      ∙ ap (λ ss. old ++ ss) (sym (symbols-push b (take i fs) g us) ∙ ap (λ fs. skolem_symbols_list b fs us) (sym one_more))

-- at a conjunction and a disjunction
module _ (b : Bool) (f : Formula) (fs items : List Formula) (slots : List Slot) (us : List ℕ) (same : items ≡ fs) where
  pub And-formed : (next : ℕ) (parts : List Formula) (r : Formula) → f ≡ F.And fs → parts ≡ formed_list b items slots us next → r ≡ joined b parts → r ≡ formed b f slots us next
  And-formed next parts r is p q = q ∙ ap (joined b) (p ∙ ap (λ fs. formed_list b fs slots us next) same) ∙ sym (formed-And b fs slots us next) ∙ ap (λ f. formed b f slots us next) (sym is)

  pub Or-formed : (next : ℕ) (parts : List Formula) (r : Formula) → f ≡ F.Or fs → parts ≡ formed_list b items slots us next → r ≡ joined (not b) parts → r ≡ formed b f slots us next
  Or-formed next parts r is p q = q ∙ ap (joined (not b)) (p ∙ ap (λ fs. formed_list b fs slots us next) same) ∙ sym (formed-Or b fs slots us next) ∙ ap (λ f. formed b f slots us next) (sym is)

  pub And-symbols : (old new : List Symbol) → f ≡ F.And fs → new ≡ old ++ skolem_symbols_list b items us → new ≡ old ++ skolem_symbols b f us
  And-symbols old new is q = q ∙ ap (λ ss. old ++ ss) (ap (λ fs. skolem_symbols_list b fs us) same ∙ sym (symbols-And b fs us) ∙ ap (λ f. skolem_symbols b f us) (sym is))

  pub Or-symbols : (old new : List Symbol) → f ≡ F.Or fs → new ≡ old ++ skolem_symbols_list b items us → new ≡ old ++ skolem_symbols b f us
  Or-symbols old new is q = q ∙ ap (λ ss. old ++ ss) (ap (λ fs. skolem_symbols_list b fs us) same ∙ sym (symbols-Or b fs us) ∙ ap (λ f. skolem_symbols b f us) (sym is))

module _ (b : Bool) (f g got : Formula) (s : ℕ) (slots : List Slot) (us : List ℕ) (next : ℕ) (is_got : got ≡ g) where
  pub Not-formed : f ≡ F.Not g → formed (not b) got slots us next ≡ formed b f slots us next
  Not-formed is = ap (λ g. formed (not b) g slots us next) is_got ∙ sym (formed-Not g slots us next b) ∙ ap (λ f. formed b f slots us next) (sym is)

  pub Not-symbols : f ≡ F.Not g → skolem_symbols (not b) got us ≡ skolem_symbols b f us
  Not-symbols is = ap (λ g. skolem_symbols (not b) g us) is_got ∙ sym (symbols-Not g slots us next b) ∙ ap (λ f. skolem_symbols b f us) (sym is)

  pub All-universal : f ≡ F.All s g → b ≡ true → universal b s got slots us next ≡ formed b f slots us next
  All-universal is e = ap (λ g. universal b s g slots us next) is_got ∙ subst (λ b. universal b s g slots us next ≡ formed b (F.All s g) slots us next) (sym e) (sym (formed-All-true g slots us next s)) ∙ ap (λ f. formed b f slots us next) (sym is)

  pub All-existential : f ≡ F.All s g → b ≡ false → existential b got slots us next ≡ formed b f slots us next
  All-existential is e = ap (λ g. existential b g slots us next) is_got ∙ subst (λ b. existential b g slots us next ≡ formed b (F.All s g) slots us next) (sym e) (sym (formed-All-false g slots us next s)) ∙ ap (λ f. formed b f slots us next) (sym is)

  pub Ex-existential : f ≡ F.Ex s g → b ≡ true → existential b got slots us next ≡ formed b f slots us next
  Ex-existential is e = ap (λ g. existential b g slots us next) is_got ∙ subst (λ b. existential b g slots us next ≡ formed b (F.Ex s g) slots us next) (sym e) (sym (formed-Ex-true g slots us next s)) ∙ ap (λ f. formed b f slots us next) (sym is)

  pub Ex-universal : f ≡ F.Ex s g → b ≡ false → universal b s got slots us next ≡ formed b f slots us next
  Ex-universal is e = ap (λ g. universal b s g slots us next) is_got ∙ subst (λ b. universal b s g slots us next ≡ formed b (F.Ex s g) slots us next) (sym e) (sym (formed-Ex-false g slots us next s)) ∙ ap (λ f. formed b f slots us next) (sym is)

  pub All-universal_symbols : f ≡ F.All s g → b ≡ true → universal_symbols b s got us ≡ skolem_symbols b f us
  All-universal_symbols is e = ap (λ g. universal_symbols b s g us) is_got ∙ subst (λ b. universal_symbols b s g us ≡ skolem_symbols b (F.All s g) us) (sym e) (sym (symbols-All-true g slots us next s)) ∙ ap (λ f. skolem_symbols b f us) (sym is)

  pub All-existential_symbols : f ≡ F.All s g → b ≡ false → existential_symbols b s got us ≡ skolem_symbols b f us
  All-existential_symbols is e = ap (λ g. existential_symbols b s g us) is_got ∙ subst (λ b. existential_symbols b s g us ≡ skolem_symbols b (F.All s g) us) (sym e) (sym (symbols-All-false g slots us next s)) ∙ ap (λ f. skolem_symbols b f us) (sym is)

  pub Ex-existential_symbols : f ≡ F.Ex s g → b ≡ true → existential_symbols b s got us ≡ skolem_symbols b f us
  Ex-existential_symbols is e = ap (λ g. existential_symbols b s g us) is_got ∙ subst (λ b. existential_symbols b s g us ≡ skolem_symbols b (F.Ex s g) us) (sym e) (sym (symbols-Ex-true g slots us next s)) ∙ ap (λ f. skolem_symbols b f us) (sym is)

  pub Ex-universal_symbols : f ≡ F.Ex s g → b ≡ false → universal_symbols b s got us ≡ skolem_symbols b f us
  Ex-universal_symbols is e = ap (λ g. universal_symbols b s g us) is_got ∙ subst (λ b. universal_symbols b s g us ≡ skolem_symbols b (F.Ex s g) us) (sym e) (sym (symbols-Ex-false g slots us next s)) ∙ ap (λ f. skolem_symbols b f us) (sym is)

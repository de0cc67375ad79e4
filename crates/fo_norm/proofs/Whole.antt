-- The Skolem form of a query: its shape, and the worlds that meet it.
use Rattle.std.proofs.Common.{◌≡◌, ℕ, true, false, ◌+◌, ◌-◌, ◌<◌, ◌^◌, ◌↔◌, List, [], ◌++◌, length, get_or, sym, ap, subst, ◌∙◌, arith, length-append}
use Rattle.std.specs.List.{All}
use Rattle.std.proofs.lemmas.List.{get_or-append-add}
use Rattle.std.proofs.lemmas.List.Elements.{All-weaker, All-nil}
use Rattle.fo_core.specs.declared.signature.Sig.{Sig}
use Rattle.fo_core.specs.declared.signature.Symbol.{Symbol}
use Rattle.fo_core.specs.declared.formula.Formula.{Formula}
use Rattle.fo_core.specs.declared.formula.Formula.TheVariants as F
use Rattle.fo_core.specs.declared.query.Query.{Query}
use Rattle.fo_core.specs.declared.world.Table.{Table}
use Rattle.fo_core.specs.declared.world.World.{World}
use Rattle.fo_core.specs.Tables.{no_symbol, AreTables}
use Rattle.fo_core.specs.Sorted.{IsFormula}
use Rattle.fo_core.specs.Truth.{Truth, reading}
use Rattle.fo_core.proofs.Rows.{sorted-And}
use Rattle.fo_norm.specs.declared.form.SkolemForm.{SkolemForm}
use Rattle.fo_norm.specs.declared.scope.Slot.{Slot}
use Rattle.fo_core.specs.Skolems.{extended, skolem_symbols, skolem_symbols_list}
use Rattle.fo_norm.specs.Extended.{with_tables}
use Rattle.fo_core.specs.Queries.{IsQuery, MeetsQuery}
use Rattle.fo_norm.specs.Forms.{IsForm, MeetsForm, IsSkolem, IsNormal}
use Rattle.fo_norm.specs.Skolem.{formed, formed_list}
use Rattle.fo_norm.proofs.InRows.{in-And}
use Rattle.fo_norm.proofs.SyntaxRows.{symbols-And, formed-And}
use Rattle.fo_norm.proofs.Shape.{skolems-are, formed-normal, formed-sorted, normal-And, joined-sorted, Located}
use Rattle.fo_norm.proofs.Worlds.{there, back}

-- what the translation of the claims begins with, and ends with: nothing is bound, and no Skolem
-- symbol is there
module _ (fs items : List Formula) where
  pub first-symbols : (us : List ℕ) (old new : List Symbol) → items ≡ fs → us ≡ [] → old ≡ [] → new ≡ old ++ skolem_symbols_list true items us → new ≡ skolem_symbols_list true fs []
  first-symbols us old new same u o p = p ∙ ap (λ ss. ss ++ skolem_symbols_list true items us) o ∙ ap (skolem_symbols_list true items) u ∙ ap (λ fs. skolem_symbols_list true fs []) same

  pub first-formed : (slots : List Slot) (us : List ℕ) (old : List Symbol) (n : ℕ) (gs : List Formula) → items ≡ fs → slots ≡ [] → us ≡ [] → old ≡ [] → gs ≡ formed_list true items slots us (n + length old) → gs ≡ formed_list true fs [] [] n
  first-formed slots us old n gs same s u o p =
      let none : n + length old ≡ n = omega (arith, ap length o) in
      p ∙ ap (formed_list true items slots us) none ∙ ap (λ s. formed_list true items s us n) s ∙ ap (λ u. formed_list true items [] u n) u ∙ ap (λ fs. formed_list true fs [] [] n) same

module _ (sig : Sig) (q : Query) (form : SkolemForm) (n : ℕ) (count : n ≡ length sig.symbols) (copies : form.copies ≡ q.copies) (claims : form.claims ≡ formed_list true q.claims [] [] n) (skolems : form.skolems ≡ skolem_symbols_list true q.claims []) (is : IsQuery sig q) where
  whole : Formula
  whole = F.And q.claims

  abbrev start : ℕ
  start = length sig.symbols

  sorted : IsFormula sig q.copies whole []
  unfolding whole
  sorted = joined-sorted sig q.copies true q.claims [] is.claims

  same_symbols : skolem_symbols true whole [] ≡ form.skolems
  unfolding whole
  same_symbols = symbols-And true q.claims [] ∙ sym skolems

  same_formed : formed true whole [] [] start ≡ F.And form.claims
  unfolding whole
  same_formed = formed-And true q.claims [] [] start ∙ ap F.And (ap (formed_list true q.claims [] []) (sym count) ∙ sym claims)

  are : All (IsSkolem sig.sorts) (skolem_symbols true whole [])
  are = skolems-are sig q.copies true whole [] [] sorted (All-nil (λ n. n < sig.sorts))

  located : Located (extended sig form.skolems) q.copies start (skolem_symbols true whole [])
  located i lt = (
    omega (arith, ap length same_symbols, length-append sig.symbols form.skolems),
    get_or-append-add sig.symbols form.skolems i no_symbol ∙ ap (λ (S : List Symbol). get_or S i no_symbol) (sym same_symbols),
  )

  pub is_form : length sig.symbols + length form.skolems < 2 ^ 32 - 1 → IsForm sig form
  is_form few = record {
    copies = omega (arith, is.copies, copies);
    claims = subst (λ c. All (λ f. IsFormula (extended sig form.skolems) c f []) form.claims) (sym copies)
        (sorted-And (extended sig form.skolems) q.copies form.claims [] (subst (λ f. IsFormula (extended sig form.skolems) q.copies f []) same_formed (formed-sorted sig form.skolems q.copies true whole [] [] [] start sorted tt located)));
    normal = normal-And form.claims (subst IsNormal same_formed (formed-normal true whole [] [] start));
    skolems = subst (All (IsSkolem sig.sorts)) same_symbols are;
    few = few;
  }

  relations : All (λ (s : Symbol). s.relation ≡ false) (skolem_symbols true whole [])
  relations = All-weaker (IsSkolem sig.sorts) (λ (s : Symbol). s.relation ≡ false) (λ s h. h.relation) (skolem_symbols true whole []) are

  fixed : All (λ (s : Symbol). s.mutable ≡ false) (skolem_symbols true whole [])
  fixed = All-weaker (IsSkolem sig.sorts) (λ (s : Symbol). s.mutable ≡ false) (λ s h. h.mutable) (skolem_symbols true whole []) are

  whole-truth : (w : World) → All (λ f. Truth sig w 0 f []) q.claims ↔ Truth sig w 0 whole []
  unfolding whole
  whole-truth w = let both = in-And w.sizes (reading sig w 0) q.claims [] in (both.1, both.0)

  form-truth : (w : World) (ts : List Table) → Truth (extended sig (skolem_symbols true whole [])) (with_tables w ts) 0 (formed true whole [] [] start) [] ↔ All (λ f. Truth (extended sig form.skolems) (with_tables w ts) 0 f []) form.claims
  form-truth w ts =
      let both = in-And w.sizes (reading (extended sig form.skolems) (with_tables w ts) 0) form.claims [] in
      let there : Truth (extended sig (skolem_symbols true whole [])) (with_tables w ts) 0 (formed true whole [] [] start) [] ≡ Truth (extended sig form.skolems) (with_tables w ts) 0 (F.And form.claims) [] =
      ap (λ (S : List Symbol). Truth (extended sig S) (with_tables w ts) 0 (formed true whole [] [] start) []) same_symbols ∙ ap (λ f. Truth (extended sig form.skolems) (with_tables w ts) 0 f []) same_formed in
      (λ h. both.0 (subst (λ (A : Type 0). A) there h), λ h. subst (λ (A : Type 0). A) (sym there) (both.1 h))

  pub same_worlds : (w : World) → MeetsQuery sig q w ↔ MeetsForm sig form w
  same_worlds w = (
    λ m.
        let r = there sig q.copies w m.fits whole sorted relations fixed ((whole-truth w).0 m.claims) in (
          r.0,
          record {
            fits = m.fits;
            copies = m.copies ∙ sym copies;
            tables = subst (λ (S : List Symbol). AreTables w.sizes S r.0) same_symbols r.1;
            claims = (form-truth w r.0).0 r.2;
          },
        ),
    λ m.
        let f = m.1 in
        record {
          fits = f.fits;
          copies = f.copies ∙ copies;
          claims = (whole-truth w).1 (back sig q.copies w f.fits whole sorted relations fixed m.0 (subst (λ (S : List Symbol). AreTables w.sizes S m.0) (sym same_symbols) f.tables) ((form-truth w m.0).1 f.claims));
        },
  )

-- A finder's answer from the form of a query.
use Rattle.std.proofs.Common.{ℕ, ◌↔◌, List}
use Rattle.fo_core.specs.declared.query.Query.{Query}
use Rattle.fo_core.specs.declared.signature.Sig.{Sig}
use Rattle.fo_core.specs.SortGraph.{FunctionEdge, ClaimsEdge, Rises}
use Rattle.fo_norm.specs.declared.form.SkolemForm.{SkolemForm}
use Rattle.fo_norm.specs.Forms.{whole}

-- a numbering that rises along the query's graph rises along the form's functions
pub form_rises : (sig : Sig) (q : Query) (form : SkolemForm) (numbers : List ℕ) → ((a b : ℕ) → FunctionEdge (whole sig form) a b ↔ ClaimsEdge sig q.claims a b) →
    Rises (ClaimsEdge sig q.claims) sig.sorts numbers → Rises (FunctionEdge (whole sig form)) sig.sorts numbers
form_rises sig q form numbers edges r = record { one_each = r.one_each; rising = λ a b e. r.rising a b ((edges a b).0 e) }

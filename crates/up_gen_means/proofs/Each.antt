-- Each of the generated texts is accepted, by computing.
use Rattle.std.proofs.Common.{ℕ, ◌≤◌, refl}
use Rattle.std.specs.Fmt.{digits}
use Rattle.pyv_grammar.specs.Reading.{atom_at, all_separated, ands, binding_at, bound_at, braces, claim_at, closed_list, comparison_at, constant_at, decl_at, deep, eat, expr_at, exprs, file, function_at, imp_at, imps, joined, label_at, labelled_at, modifies_at, name_at, ors, relation_at, separated, skip, some_list, symbol_at, trace_at, transition_at, unaries, unary_at, whole}
use Rattle.pyv_meaning.specs.Scope.{resolve}
use Rattle.up_gen.specs.Models.{model_text_of}
use Rattle.up_gen.proofs.Lengths.{for_each}
use Rattle.up_gen_means.specs.Accepted.{IsAccepted}
use Rattle.up_gen_means.proofs.Accepting.{accepted}

one_1 : IsAccepted (model_text_of 1)
unfolding digits resolve atom_at all_separated ands binding_at bound_at braces claim_at closed_list comparison_at constant_at decl_at deep eat expr_at exprs file function_at imp_at imps joined label_at labelled_at modifies_at name_at ors relation_at separated skip some_list symbol_at trace_at transition_at unaries unary_at whole
one_1 = accepted (model_text_of 1) refl refl refl

one_2 : IsAccepted (model_text_of 2)
unfolding digits resolve atom_at all_separated ands binding_at bound_at braces claim_at closed_list comparison_at constant_at decl_at deep eat expr_at exprs file function_at imp_at imps joined label_at labelled_at modifies_at name_at ors relation_at separated skip some_list symbol_at trace_at transition_at unaries unary_at whole
one_2 = accepted (model_text_of 2) refl refl refl

one_3 : IsAccepted (model_text_of 3)
unfolding digits resolve atom_at all_separated ands binding_at bound_at braces claim_at closed_list comparison_at constant_at decl_at deep eat expr_at exprs file function_at imp_at imps joined label_at labelled_at modifies_at name_at ors relation_at separated skip some_list symbol_at trace_at transition_at unaries unary_at whole
one_3 = accepted (model_text_of 3) refl refl refl

one_4 : IsAccepted (model_text_of 4)
unfolding digits resolve atom_at all_separated ands binding_at bound_at braces claim_at closed_list comparison_at constant_at decl_at deep eat expr_at exprs file function_at imp_at imps joined label_at labelled_at modifies_at name_at ors relation_at separated skip some_list symbol_at trace_at transition_at unaries unary_at whole
one_4 = accepted (model_text_of 4) refl refl refl

one_5 : IsAccepted (model_text_of 5)
unfolding digits resolve atom_at all_separated ands binding_at bound_at braces claim_at closed_list comparison_at constant_at decl_at deep eat expr_at exprs file function_at imp_at imps joined label_at labelled_at modifies_at name_at ors relation_at separated skip some_list symbol_at trace_at transition_at unaries unary_at whole
one_5 = accepted (model_text_of 5) refl refl refl

one_6 : IsAccepted (model_text_of 6)
unfolding digits resolve atom_at all_separated ands binding_at bound_at braces claim_at closed_list comparison_at constant_at decl_at deep eat expr_at exprs file function_at imp_at imps joined label_at labelled_at modifies_at name_at ors relation_at separated skip some_list symbol_at trace_at transition_at unaries unary_at whole
one_6 = accepted (model_text_of 6) refl refl refl

one_7 : IsAccepted (model_text_of 7)
unfolding digits resolve atom_at all_separated ands binding_at bound_at braces claim_at closed_list comparison_at constant_at decl_at deep eat expr_at exprs file function_at imp_at imps joined label_at labelled_at modifies_at name_at ors relation_at separated skip some_list symbol_at trace_at transition_at unaries unary_at whole
one_7 = accepted (model_text_of 7) refl refl refl

one_8 : IsAccepted (model_text_of 8)
unfolding digits resolve atom_at all_separated ands binding_at bound_at braces claim_at closed_list comparison_at constant_at decl_at deep eat expr_at exprs file function_at imp_at imps joined label_at labelled_at modifies_at name_at ors relation_at separated skip some_list symbol_at trace_at transition_at unaries unary_at whole
one_8 = accepted (model_text_of 8) refl refl refl

pub each : (n : ℕ) → 1 ≤ n → n ≤ 8 → IsAccepted (model_text_of n)
each = for_each (λ n. IsAccepted (model_text_of n)) one_1 one_2 one_3 one_4 one_5 one_6 one_7 one_8

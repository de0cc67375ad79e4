use Rattle.std.proofs.Common.{sym, ap, ◌∙◌, length, List, refl}
use Rattle.std.proofs.lemmas.Result.{err_from_is_err_and}
use Rattle.pyv_meaning.specs.Declaring.{symbol_names}
use Rattle.pyv_meaning.specs.View.{name_of, names_of}
use Rattle.pyv_sorts.proofs.Noted.{arguments_fail, value_fails, rest_tells, room_same}
use Rattle.pyv_sorts.proofs.declare.Declared.add_function.Goals as goal

pub returns-in_err-sort_numbers-clause-tells : goal.returns-in_err-sort_numbers-clause-tells
returns-in_err-sort_numbers-clause-tells c = λ items front n k.
    let p = err_from_is_err_and c.from_residual-in_err-sort_numbers.result c.from_residual-in_err-sort_numbers.ensures.1 in
    rw (p.1, p.2) (arguments_fail c.args.sorts.now items k _ _ (c.in_ok-fresh.ensures.tells (symbol_names front) n.has_names) (names_of c.args.bytes.now c.args.args.now) (name_of c.args.bytes.now c.args.value) c.in_err-sort_numbers.field-0.0 c.in_err-sort_numbers.ensures.tells)

pub returns-in_err-sort_number-clause-tells : goal.returns-in_err-sort_number-clause-tells
returns-in_err-sort_number-clause-tells c = λ items front n k.
    let p = err_from_is_err_and c.from_residual-in_err-sort_number.result c.from_residual-in_err-sort_number.ensures.1 in
    rw (p.1, p.2) (value_fails c.args.sorts.now items k _ _ (c.in_ok-fresh.ensures.tells (symbol_names front) n.has_names) (names_of c.args.bytes.now c.args.args.now) (name_of c.args.bytes.now c.args.value) c.in_err-sort_number.field-0.0 c.in_ok-sort_numbers.ensures.tells c.in_err-sort_number.ensures.tells)

pub returns-clause-tells : goal.returns-clause-tells
returns-clause-tells c = λ items front n k.
    rest_tells c.args.sorts.now items k _ _ (c.in_ok-fresh.ensures.tells (symbol_names front) n.has_names) (names_of c.args.bytes.now c.args.args.now) (name_of c.args.bytes.now c.args.value) c.add_symbol.result _ c.in_ok-sort_numbers.ensures.tells c.in_ok-sort_number.ensures.tells
    (room_same c.args.self.now.names front n.has_names c.args.name.from _) c.add_symbol.ensures.tells

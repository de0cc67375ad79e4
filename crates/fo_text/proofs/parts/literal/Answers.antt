use Rattle.std.proofs.Common.{◌≡◌, ℕ, List, length, drop, sym, ap, ◌∙◌, Ok, Err, arith, ◌-◌}
use Rattle.std.proofs.lemmas.List.{take_rest}
use Rattle.fo_text.specs.Reading.{literal_at}
use Rattle.fo_text.proofs.Loops.{literal_short, literal_step, literal_other, literal_end}
use Rattle.fo_text.proofs.Stopping.{literal_found, literal_same, literal_never, literal_stops}
use Rattle.fo_text.proofs.parts.literal.Goals as goal

pub returns-then-i-bytes : goal.returns-then-i-bytes
returns-then-i-bytes c =
    let text = c.args.text.now in
    let bytes = c.args.bytes.now in
    let r : literal_at text bytes ≡ Err 0 = sym c.each.invariant.same ∙ literal_short text bytes c.each.i c.each-test.true c.if-i-bytes.true in
    record { found = tt; only = λ rest e. literal_never text bytes rest 0 r e; fault = literal_stops text bytes 0 r; read = r }

pub returns-then-bytes-i : goal.returns-then-bytes-i
returns-then-bytes-i c =
    let text = c.args.text.now in
    let bytes = c.args.bytes.now in
    let left = length bytes - c.each.i in
    let r : literal_at text bytes ≡ Err left = sym c.each.invariant.same ∙ literal_other text bytes c.each.i c.each-test.true (omega arith) c.if-bytes-i.true in
    record { found = tt; only = λ rest e. literal_never text bytes rest left r e; fault = literal_stops text bytes left r; read = r }

pub each-preserved : goal.each-preserved
each-preserved c = record {
  within = omega arith;
  same = sym (literal_step c.args.text.now c.args.bytes.now c.each.i c.each-test.true (omega arith) c.if-bytes-i.false) ∙ c.each.invariant.same;
}

pub returns : goal.returns
returns c =
    let text = c.args.text.now in
    let bytes = c.args.bytes.now in
    let k : c.each.i ≡ length text = omega arith in
    let r = sym c.each.invariant.same ∙ literal_end text bytes c.each.i c.each-test.false ∙ ap (λ (i : ℕ). Ok (drop i bytes)) k ∙ sym (ap (λ (l : List ℕ). Ok l) (take_rest bytes (length text))) in
    record { found = literal_found text bytes _ r; only = λ rest e. literal_same text bytes _ rest r e; fault = tt; read = r }

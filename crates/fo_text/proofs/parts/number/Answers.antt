use Rattle.std.proofs.Common.{◌≡◌, ◌<◌, ℕ, Bool, false, eqb, List, length, drop, Bor, Err, sym, ap, subst, ◌∙◌, arith}
use Rattle.std.proofs.lemmas.Bool.{eqb-true, eqb-false}
use Rattle.std.proofs.lemmas.List.{take_rest}
use Rattle.fo_text.specs.Reading.{Read, Gives, digits_at, number_at}
use Rattle.fo_text.proofs.Loops.{number_begun, number_refused, number_none}
use Rattle.fo_text.proofs.Numbers.{Bounds, begins_in_range}
use Rattle.fo_text.proofs.Stopping.{number_never, number_stops, number_told}
use Rattle.fo_text.proofs.parts.number.Goals as goal

is_there : (n : ℕ) (b : Bool) → b ≡ eqb n 0 → b ≡ false → 0 < n
is_there n b e f = omega (arith, eqb-false n 0 (sym e ∙ f))

pub returns-then-is_empty : goal.returns-then-is_empty
returns-then-is_empty c =
    let bytes = c.args.bytes.now in
    let bounds : Bounds c.args.least c.args.most c.args.ending = record { range = c.requires.range; small = omega arith; ends = c.requires.below } in
    let r = number_none c.args.least c.args.most c.args.ending bytes (eqb-true _ _ (sym c.is_empty.ensures ∙ c.if-is_empty.true)) in
    record {
      found = tt;
      only = λ x h. number_never c.args.least c.args.most c.args.ending bounds bytes 0 x r h;
      fault = number_stops c.args.least c.args.most c.args.ending bounds bytes 0 r;
      read = r;
    }

pub returns-then-not-begins : goal.returns-then-not-begins
returns-then-not-begins c =
    let bytes = c.args.bytes.now in
    let bounds : Bounds c.args.least c.args.most c.args.ending = record { range = c.requires.range; small = omega arith; ends = c.requires.below } in
    let r : number_at c.args.least c.args.most c.args.ending bytes ≡ Err (length bytes) = number_refused c.args.least c.args.most c.args.ending bytes (is_there _ _ c.is_empty.ensures c.if-is_empty.false) (sym c.begins.ensures ∙ c.if-not-begins.true) in
    record {
      found = tt;
      only = λ x h. number_never c.args.least c.args.most c.args.ending bounds bytes (length bytes) x r h;
      fault = number_stops c.args.least c.args.most c.args.ending bounds bytes (length bytes) r;
      read = r;
    }

pub returns : goal.returns
returns c =
    let bytes = c.args.bytes.now in
    let bounds : Bounds c.args.least c.args.most c.args.ending = record { range = c.requires.range; small = omega arith; ends = c.requires.below } in
    let h = number_begun c.args.least c.args.most c.args.ending bytes (is_there _ _ c.is_empty.ensures c.if-is_empty.false) (sym c.begins.ensures ∙ c.if-not-begins.false) in
    let r : Gives (λ (x : ℕ × Bor (List ℕ)). (x.0, x.1.now)) c.digits.result (number_at c.args.least c.args.most c.args.ending bytes) =
    subst (λ (r : Read ℕ). Gives (λ (x : ℕ × Bor (List ℕ)). (x.0, x.1.now)) c.digits.result r)
    (ap (λ (l : List ℕ). digits_at c.args.least c.args.most c.args.ending c.from.result l) (take_rest bytes 1) ∙ ap (λ (n : ℕ). digits_at c.args.least c.args.most c.args.ending n (drop 1 bytes)) c.from.ensures ∙ sym h)
    c.digits.ensures.read in
    let t = number_told c.args.least c.args.most c.args.ending bounds bytes c.digits.result r c.digits.ensures.place in
    record { found = t.found; only = t.only; fault = t.fault; read = r }

pub digits-requires : goal.digits-requires
digits-requires c = rw c.from.ensures (begins_in_range c.args.least c.args.most _ (sym c.begins.ensures ∙ c.if-not-begins.false))

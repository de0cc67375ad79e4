use Rattle.std.proofs.Common.{◌≡◌, ℕ, ◌<◌, ◌++◌, [], ◌∷◌, length, drop}
use Rattle.fo_eval.specs.Asked.{SomeFill}
use Rattle.fo_eval.proofs.step.+some_fill.Given as goal

abbrev pub decreases-some_fill : goal.decreases-some_fill
decreases-some_fill l = length l.params.now

-- no element before this one serves
abbrev pub invariant-one : goal.invariant-one
invariant-one l = record {
  same : l.env ≡ l.fn.env;
  before : (x : ℕ) → x < l.x → ¬ SomeFill l.sys.sig l.w l.copy (l.fn.env.bound ++ x ∷ []) (drop 1 l.params) l.body;
}

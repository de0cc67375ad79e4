-- How the origin of a link comes about, by its number.
use Rattle.std.proofs.Common.{◌↔◌, ℕ, zero, suc, ◌-◌, ◌<◌, List, Bool, Result, IfOk, arith}
use Rattle.std.specs.Prelude.{IsTrue}
use Rattle.std.specs.declared.alloc.AllocError.{AllocError}
use Rattle.fo_core.specs.declared.system.System.{System}
use Rattle.up_claims.specs.declared.verdict.Link.{Link}
use Rattle.up_cert.specs.VerdictSpots.{ChainPasses, ComesFrom, origin_what, link_at}

pub origin-told : (sys : System) (links : List Link) (k : ℕ) → 0 < k → (r : Result Bool AllocError) →
    IfOk r (λ b. IsTrue b ↔ ComesFrom sys (link_at links (k - 1)).state (link_at links k)) →
    IfOk r (λ b. IsTrue b ↔ ChainPasses sys links (origin_what k) k)
origin-told sys links zero lt r h = absurd (omega (arith, lt))
origin-told sys links (suc k) lt r h = h

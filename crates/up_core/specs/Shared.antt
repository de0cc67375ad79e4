-- What a turnstile keeps of the machine in code.
use Rattle.up_core.specs.declared.kept_value.Basis.{Basis}
use Rattle.up_core.specs.View.{CoreView}

-- what no event changes: the system, its order and the limits
abbrev pub basis_of : CoreView → Basis
basis_of c = record { sys = c.sys; order = c.order; limits = c.limits }

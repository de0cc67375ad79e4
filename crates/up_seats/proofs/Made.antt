-- Events that a call made, and those of the next call.
use Rattle.std.proofs.Common.{◌≡◌, List, [], ◌∷◌, ◌++◌, refl, sym, ap, subst, ◌∙◌, append_assoc, append-nil}
use Rattle.fo_core.specs.declared.system.System.{System}
use Rattle.up_machine.specs.declared.event.Event.{Event}
use Rattle.up_machine.specs.declared.limits.Limits.{Limits}
use Rattle.up_machine.specs.Machine.{Machine, start}
use Rattle.up_machine.specs.Replay.{run, replay}
use Rattle.up_machine.proofs.Histories.{run-append}
use Rattle.up_core.specs.View.{CoreView, now, with_event}
use Rattle.up_seats.specs.Making.{HasMade}

-- the room alone may have changed
abbrev pub IsRoomier : CoreView → CoreView → Type 0
IsRoomier before after =
    after ≡ record before { spare = after.spare; variables = after.variables }

pub made_nothing : (a : CoreView) → HasMade a [] a
made_nothing a = record { sys = refl; order = refl; limits = refl; history = sym (append-nil a.history) }

pub made_room : (a b : CoreView) → IsRoomier a b → HasMade a [] b
made_room a b same = record {
  sys = ap (λ (x : CoreView). x.sys) same;
  order = ap (λ (x : CoreView). x.order) same;
  limits = ap (λ (x : CoreView). x.limits) same;
  history = ap (λ (x : CoreView). x.history) same ∙ sym (append-nil a.history);
}

pub made_event : (a b : CoreView) (e : Event) → b ≡ with_event a e → HasMade a (e ∷ []) b
made_event a b e same = record {
  sys = ap (λ (x : CoreView). x.sys) same;
  order = ap (λ (x : CoreView). x.order) same;
  limits = ap (λ (x : CoreView). x.limits) same;
  history = ap (λ (x : CoreView). x.history) same;
}

pub made_both : (a b c : CoreView) (es fs : List Event) → HasMade a es b → HasMade b fs c → HasMade a (es ++ fs) c
made_both a b c es fs h k = record {
  sys = k.sys ∙ h.sys;
  order = k.order ∙ h.order;
  limits = k.limits ∙ h.limits;
  history = k.history ∙ ap (λ l. l ++ fs) h.history ∙ append_assoc a.history es fs;
}

-- nothing came first, or last
pub made_after : (a b c : CoreView) (es : List Event) → HasMade a [] b → HasMade b es c → HasMade a es c
made_after a b c es h k = made_both a b c [] es h k

pub made_before : (a b c : CoreView) (es : List Event) → HasMade a es b → HasMade b [] c → HasMade a es c
made_before a b c es h k = subst (λ l. HasMade a l c) (append-nil es) (made_both a b c es [] h k)

-- the machine to which the events come
pub made_now : (a b : CoreView) (es : List Event) → HasMade a es b → now b ≡ run (now a) es
made_now a b es h = ap replay h.history ∙ run-append start a.history es

-- what holds of one system, limits and machine holds of the same ones
pub moved : (P : System → Limits → Machine → Type 0) (s t : System) (l k : Limits) (m n : Machine) → s ≡ t → l ≡ k → m ≡ n → P s l m → P t k n
moved P s t l k m n a b c h = subst (λ x. P t k x) c (subst (λ x. P t x m) b (subst (λ x. P x l m) a h))

-- of the machine that the events come to and of the one before
pub moved_back : (P : System → Limits → Machine → Type 0) (a b : CoreView) (es : List Event) → HasMade a es b → P b.sys b.limits (now b) → P a.sys a.limits (run (now a) es)
moved_back P a b es h p = moved P b.sys a.sys b.limits a.limits (now b) (run (now a) es) h.sys h.limits (made_now a b es h) p

pub moved_on : (P : System → Limits → Machine → Type 0) (a b : CoreView) (es : List Event) → HasMade a es b → P a.sys a.limits (run (now a) es) → P b.sys b.limits (now b)
moved_on P a b es h p = moved P a.sys b.sys a.limits b.limits (run (now a) es) (now b) (sym h.sys) (sym h.limits) (sym (made_now a b es h)) p

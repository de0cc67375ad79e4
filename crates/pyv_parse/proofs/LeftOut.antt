-- Kinds of tokens of the parts of the language that are left out.
use Rattle.std.proofs.Common.{◌≡◌, ◌⊎◌, inl, inr, sym, subst}
use Rattle.pyv_lex.specs.declared.token.Kind.{Kind}
use Rattle.pyv_lex.specs.declared.token.Kind.TheVariants as kind
use Rattle.pyv_parse.specs.Faults.{IsLeftOut}

pub left_out : (k : Kind)
    → (k ≡ kind.Theorem) ⊎ ((k ≡ kind.Derived) ⊎ ((k ≡ kind.Definition) ⊎ ((k ≡ kind.Onestate) ⊎ ((k ≡ kind.Twostate) ⊎ ((k ≡ kind.Zerostate) ⊎ ((k ≡ kind.Automaton) ⊎ ((k ≡ kind.Sketch) ⊎ ((k ≡ kind.LetWord) ⊎ ((k ≡ kind.BoolWord) ⊎ ((k ≡ kind.IntWord) ⊎ (k ≡ kind.Number)))))))))))
    → IsLeftOut k
left_out k (inl e) = subst IsLeftOut (sym e) IsLeftOut.theorem
left_out k (inr (inl e)) = subst IsLeftOut (sym e) IsLeftOut.derived
left_out k (inr (inr (inl e))) = subst IsLeftOut (sym e) IsLeftOut.definition
left_out k (inr (inr (inr (inl e)))) = subst IsLeftOut (sym e) IsLeftOut.onestate
left_out k (inr (inr (inr (inr (inl e))))) = subst IsLeftOut (sym e) IsLeftOut.twostate
left_out k (inr (inr (inr (inr (inr (inl e)))))) = subst IsLeftOut (sym e) IsLeftOut.zerostate
left_out k (inr (inr (inr (inr (inr (inr (inl e))))))) = subst IsLeftOut (sym e) IsLeftOut.automaton
left_out k (inr (inr (inr (inr (inr (inr (inr (inl e)))))))) = subst IsLeftOut (sym e) IsLeftOut.sketch
left_out k (inr (inr (inr (inr (inr (inr (inr (inr (inl e))))))))) = subst IsLeftOut (sym e) IsLeftOut.let_word
left_out k (inr (inr (inr (inr (inr (inr (inr (inr (inr (inl e)))))))))) = subst IsLeftOut (sym e) IsLeftOut.bool_word
left_out k (inr (inr (inr (inr (inr (inr (inr (inr (inr (inr (inl e))))))))))) = subst IsLeftOut (sym e) IsLeftOut.int_word
left_out k (inr (inr (inr (inr (inr (inr (inr (inr (inr (inr (inr e))))))))))) = subst IsLeftOut (sym e) IsLeftOut.number

-- Texts with another text between each two, from the first one on.
use Rattle.std.proofs.Common.{◌≡◌, ℕ, ◌-◌, ◌<◌, Bool, false, eqb, List, [], ◌∷◌, ◌++◌, length, get_or, map, flat_map, take, drop, codes, refl, sym, ap, ◌∙◌, append_assoc, arith}
use Rattle.std.proofs.lemmas.Bool.{eqb-false}
use Rattle.std.proofs.lemmas.List.{take_rest}
use Rattle.fo_core.specs.declared.names.Names.{Names}
use Rattle.up_diagram.specs.declared.cube.Flat.{Flat}
use Rattle.up_report.specs.ClauseTexts.{joined, variable_text, denial_text, denials_text}

flat_seen : {X : Type 0} (f : X → List ℕ) (between : List ℕ) (xs : List X) → flat_map (λ u. between ++ u) (map f xs) ≡ flat_map (λ x. between ++ f x) xs
flat_seen f between [] = refl
flat_seen f between (x ∷ xs) = ap (λ (l : List ℕ). (between ++ f x) ++ l) (flat_seen f between xs)

pub joined_split : {X : Type 0} (f : X → List ℕ) (between : List ℕ) (xs : List X) (d : X) → 0 < length xs → joined between (map f xs) ≡ f (get_or xs 0 d) ++ flat_map (λ x. between ++ f x) (drop 1 xs)
joined_split f between [] d h = absurd (omega arith)
joined_split f between (x ∷ xs) d h = ap (λ (l : List ℕ). f x ++ l) (flat_seen f between xs)

pub denials_split : (names : Names) (lits : List Flat) (d : Flat) → 0 < length lits → denials_text names lits ≡ denial_text names (get_or lits 0 d) ++ flat_map (λ lit. codes " | " ++ denial_text names lit) (drop 1 lits)
denials_split names [] d h = absurd (omega arith)
denials_split names (lit ∷ lits) d h = joined_split (denial_text names) (codes " | ") (lit ∷ lits) d h

pub is_there : (n : ℕ) (b : Bool) → b ≡ eqb n 0 → b ≡ false → 0 < n
is_there n b e f = omega (arith, eqb-false n 0 (sym e ∙ f))

pub variables_joined : (vs old mid : List ℕ) → 0 < length vs → mid ≡ old ++ variable_text (get_or vs 0 0) → mid ++ flat_map (λ v. codes ", " ++ variable_text v) (take (length vs - 1) (drop 1 vs)) ≡ old ++ joined (codes ", ") (map variable_text vs)
variables_joined vs old mid h e =
    let others : List ℕ → List ℕ = flat_map (λ v. codes ", " ++ variable_text v) in
    ap (λ (l : List ℕ). mid ++ others l) (take_rest vs 1) ∙ ap (λ (l : List ℕ). l ++ others (drop 1 vs)) e
    ∙ append_assoc old (variable_text (get_or vs 0 0)) (others (drop 1 vs)) ∙ ap (λ (l : List ℕ). old ++ l) (sym (joined_split variable_text (codes ", ") vs 0 h))

pub denials_joined : (names : Names) (lits : List Flat) (d : Flat) (old mid : List ℕ) → 0 < length lits → d ≡ get_or lits 0 d → mid ≡ old ++ denial_text names d → mid ++ flat_map (λ lit. codes " | " ++ denial_text names lit) (take (length lits - 1) (drop 1 lits)) ≡ old ++ denials_text names lits
denials_joined names lits d old mid h is e =
    let others : List Flat → List ℕ = flat_map (λ lit. codes " | " ++ denial_text names lit) in
    ap (λ (l : List Flat). mid ++ others l) (take_rest lits 1) ∙ ap (λ (l : List ℕ). l ++ others (drop 1 lits)) (e ∙ ap (λ (x : Flat). old ++ denial_text names x) is)
    ∙ append_assoc old (denial_text names (get_or lits 0 d)) (others (drop 1 lits)) ∙ ap (λ (l : List ℕ). old ++ l) (sym (denials_split names lits d h))

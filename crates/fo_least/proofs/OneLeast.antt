-- The least world is one: its numbers are all of it.
use Rattle.std.proofs.Common.{◌≡◌, ℕ, true, false, List, [], ◌∷◌, ◌++◌, length, refl, sym, ap, subst, ◌∙◌, arith}
use Rattle.std.specs.List.{All, filter, flat_map}
use Rattle.std.proofs.lemmas.List.{append_assoc}
use Rattle.std.proofs.lemmas.List.Elements.{All-head, All-tail}
use Rattle.fo_core.specs.declared.query.Query.{Query}
use Rattle.fo_core.specs.declared.signature.Sig.{Sig}
use Rattle.fo_core.specs.declared.signature.Symbol.{Symbol}
use Rattle.fo_core.specs.declared.world.Table.{Table}
use Rattle.fo_core.specs.declared.world.World.{World}
use Rattle.fo_core.specs.Tables.{is_like, AreTables, Fits}
use Rattle.fo_core.specs.Least.{table_values, world_values, numbers_of, IsLeast}
use Rattle.fo_least.proofs.Lexicographic.{first-both}

-- lists of one length are equal where they are with what stands after them
halves : (ks ls xs ys : List ℕ) → length ks ≡ length ls → ks ++ xs ≡ ls ++ ys → (ks ≡ ls) × (xs ≡ ys)
halves [] [] xs ys e same = (refl, same)
halves [] (l ∷ ls) xs ys e same = absurd (omega arith)
halves (k ∷ ks) [] xs ys e same = absurd (omega arith)
halves (k ∷ ks) (l ∷ ls) xs ys e same =
    let head : k ≡ l = cc in
    let tail : ks ++ xs ≡ ls ++ ys = cc in
    let r = halves ks ls xs ys (omega arith) tail in
    (ap (λ z. z ∷ ks) head ∙ ap (λ zs. l ∷ zs) r.0, r.1)

-- tables for the same symbols with the same values
tables-same : (sizes : List ℕ) (ss : List Symbol) (ts us : List Table) (xs ys : List ℕ) → AreTables sizes ss ts → AreTables sizes ss us → table_values ts ++ xs ≡ table_values us ++ ys → (ts ≡ us) × (xs ≡ ys)
tables-same sizes [] [] [] xs ys h g same = (refl, same)
tables-same sizes [] (t ∷ ts) us xs ys h g same = absurd h
tables-same sizes [] [] (u ∷ us) xs ys h g same = absurd g
tables-same sizes (s ∷ ss) [] us xs ys h g same = absurd h
tables-same sizes (s ∷ ss) (t ∷ ts) [] xs ys h g same = absurd g
tables-same sizes (s ∷ ss) (t ∷ ts) (u ∷ us) xs ys h g same =
    let first = halves t.values u.values (table_values ts ++ xs) (table_values us ++ ys) (h.0.total ∙ sym g.0.total)
    (sym (append_assoc t.values (table_values ts) xs) ∙ same ∙ append_assoc u.values (table_values us) ys) in
    let later = tables-same sizes ss ts us xs ys h.1 g.1 first.1 in
    (ap (λ (vs : List ℕ). record { values = vs } ∷ ts) first.0 ∙ ap (λ (rest : List Table). u ∷ rest) later.0, later.1)

copies-same : (sizes : List ℕ) (ss : List Symbol) (cs ds : List (List Table)) → length cs ≡ length ds → All (AreTables sizes ss) cs → All (AreTables sizes ss) ds → flat_map table_values cs ≡ flat_map table_values ds → cs ≡ ds
copies-same sizes ss [] [] e h g same = refl
copies-same sizes ss [] (d ∷ ds) e h g same = absurd (omega arith)
copies-same sizes ss (c ∷ cs) [] e h g same = absurd (omega arith)
copies-same sizes ss (c ∷ cs) (d ∷ ds) e h g same =
    let first = tables-same sizes ss c d (flat_map table_values cs) (flat_map table_values ds) (All-head (AreTables sizes ss) c cs h) (All-head (AreTables sizes ss) d ds g) same in
    let later = copies-same sizes ss cs ds (omega arith) (All-tail (AreTables sizes ss) c cs h) (All-tail (AreTables sizes ss) d ds g) first.1 in
    ap (λ (t : List Table). t ∷ cs) first.0 ∙ ap (λ (rest : List (List Table)). d ∷ rest) later

-- worlds of one signature and with one number of copies are the same where their numbers are
pub numbers-all : (sig : Sig) (v w : World) → Fits sig v → Fits sig w → length v.copies ≡ length w.copies → numbers_of v ≡ numbers_of w → v ≡ w
numbers-all sig v w fits_v fits_w many same =
    ap (λ (ns : List ℕ). record { sizes = ns; fixed = v.fixed; copies = v.copies }) both.0
    ∙ ap (λ (ts : List Table). record { sizes = w.sizes; fixed = ts; copies = v.copies }) fixed.0
    ∙ ap (λ (cs : List (List Table)). record { sizes = w.sizes; fixed = w.fixed; copies = cs }) copies
  where
    both : (v.sizes ≡ w.sizes) × (world_values v ≡ world_values w)
    both = halves v.sizes w.sizes (world_values v) (world_values w) (fits_v.sorts ∙ sym fits_w.sorts) same

    fixed : (v.fixed ≡ w.fixed) × (flat_map table_values v.copies ≡ flat_map table_values w.copies)
    fixed =
        tables-same w.sizes (filter (is_like false) sig.symbols) v.fixed w.fixed (flat_map table_values v.copies) (flat_map table_values w.copies)
        (subst (λ ns. AreTables ns (filter (is_like false) sig.symbols) v.fixed) both.0 fits_v.fixed) fits_w.fixed both.1

    copies : v.copies ≡ w.copies
    copies =
        copies-same w.sizes (filter (is_like true) sig.symbols) v.copies w.copies many
        (subst (λ ns. All (AreTables ns (filter (is_like true) sig.symbols)) v.copies) both.0 fits_v.copies) fits_w.copies fixed.1

pub one_least : (sig : Sig) (q : Query) (v w : World) → IsLeast sig q v → IsLeast sig q w → v ≡ w
one_least sig q v w a b =
    numbers-all sig v w a.meets.fits b.meets.fits (a.meets.copies ∙ sym b.meets.copies)
    (first-both (numbers_of v) (numbers_of w) (a.first w b.meets) (b.first v a.meets))

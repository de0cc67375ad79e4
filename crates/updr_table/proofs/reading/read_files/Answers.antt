-- The files so far are read, and the next one is read or refused.
use Rattle.std.proofs.Common.{rules, ◌≡◌, ◌∙◌, ◌++◌, ◌∷◌, [], ℕ, List, Option, Vec, Global, Bor, map, get_or, ap, sym, subst, refl, arith}
use Rattle.std.proofs.lemmas.List.{map-append}
use Rattle.std.proofs.lemmas.Result.{err_from_is_err_and}
use Rattle.pv_base.specs.Reading.{IsContent}
use Rattle.updr_words.specs.Forms.{texts}
use Rattle.updr_words.proofs.Rest.{one_paired, all_paired}
use Rattle.updr_table.specs.Outside.{outside, RefusesFile, RefusesFirst}
use Rattle.updr_table.proofs.Refusing.{first_refused, more_reached, next_reached, wider}
use Rattle.updr_table.proofs.reading.read_files.Goals as goal

no_name : Bor (List ℕ)
no_name = record { ref_ptr = (0, 0); now = [] }

pub returns-in_err-bytes-clause-refused : goal.returns-in_err-bytes-clause-refused
unfolding no_name
returns-in_err-bytes-clause-refused g c =
    let p = err_from_is_err_and c.from_residual.result c.from_residual.ensures.1 in
    let name = (get_or c.args.names.now c.each.name-index no_name).now in
    let told = g.F.Files.contents c.args.files.now in
    rw (p.1, p.2) (wider (Vec ℕ Global) (Vec (Vec ℕ Global) Global) c.in_err-bytes.field-0.0
    (RefusesFile (outside g.F.Files.contents g.F.Files.faults g.F.Files.refused c.each.files c.read_file.new.files) name)
    (RefusesFirst (outside g.F.Files.contents g.F.Files.faults g.F.Files.refused c.args.files.now c.read_file.new.files) (texts c.args.names.now))
    (λ end h. first_refused (outside g.F.Files.contents g.F.Files.faults g.F.Files.refused c.args.files.now c.read_file.new.files) (outside g.F.Files.contents g.F.Files.faults g.F.Files.refused c.each.files c.read_file.new.files) (texts c.args.names.now) name end
    (sym (c.each.invariant.unchanged name)) c.each.invariant.later refl refl
    (next_reached told c.args.names.now no_name c.each.name-index c.each-test.true c.each.invariant.reached) h)
    c.in_err-bytes.ensures.refused)

pub each-preserved : goal.each-preserved
unfolding no_name
each-preserved g c =
    let name = (get_or c.args.names.now c.each.name-index no_name).now in
    let told = g.F.Files.contents c.args.files.now in
    let bytes_of = λ (b : Vec ℕ Global). b.items in
    let content : IsContent (told name) c.in_ok-bytes.bytes.items = subst (λ (t : Option (List ℕ)). IsContent t c.in_ok-bytes.bytes.items) (c.each.invariant.unchanged name) c.in_ok-bytes.ensures.content in
    let items : c.push.new.self.items ≡ c.each.contents.items ++ c.in_ok-bytes.bytes ∷ [] = search rules in
    let all : map bytes_of c.push.new.self.items ≡ map bytes_of c.each.contents.items ++ c.in_ok-bytes.bytes.items ∷ [] = ap (map bytes_of) items ∙ map-append bytes_of c.each.contents.items (c.in_ok-bytes.bytes ∷ []) in
    record {
      paired = rw all (one_paired (λ n b. IsContent (told n) b) (λ (s : Bor (List ℕ)). s.now) c.args.names.now (map bytes_of c.each.contents.items) c.each.name-index no_name c.in_ok-bytes.bytes.items c.each-test.true c.each.invariant.paired content);
      reached = more_reached told c.args.names.now no_name c.each.name-index c.each-test.true c.each.invariant.reached c.in_ok-bytes.bytes.items content;
      later = let before = c.each.invariant.later in let after = c.in_ok-bytes.ensures.later in omega arith;
      unchanged = λ n. c.in_ok-bytes.ensures.unchanged n ∙ c.each.invariant.unchanged n;
    }

pub returns-clause-contents : goal.returns-clause-contents
returns-clause-contents g c = all_paired (λ n b. IsContent (g.F.Files.contents c.args.files.now n) b) (λ (s : Bor (List ℕ)). s.now) c.args.names.now (map (λ (b : Vec ℕ Global). b.items) c.each.contents.items) c.each.name-index c.each-test.false c.each.invariant.paired

-- What is served freely is told, and all else is handed on.
use Rattle.std.proofs.Common.{map}
use Rattle.std.specs.Prelude.{string_bytes}
use Rattle.updr_told.specs.Stops.{end_of_call}
use Rattle.updr_table.specs.Outside.{outside}
use Rattle.updr_table.proofs.Serving.{told_end}
use Rattle.updr_top.specs.Free.{MayEndFreely}
use Rattle.updr_top.proofs.FreeServed.{freely_served, is_searched, served}
use Rattle.updr_top.proofs.top.run.Goals as goal

pub returns-in-Some-clause-served : goal.returns-in-Some-clause-served
returns-in-Some-clause-served g c =
    let o = outside g.F.Files.contents g.F.Files.faults g.F.Files.refused c.args.files.now c.serve_free.new.files in
    let words = map string_bytes c.args.words.items in
    let comes = rw c.deref.ensures.value at c.in-Some.ensures.served in
    λ other. served words _ (record { meant = end_of_call c.in-Some.end; comes = told_end (MayEndFreely o words) c.in-Some.end comes; told = c.tell-outcome.ensures.told; handed_on = c.tell-outcome.ensures.left }) other

pub returns-in-Some-clause-search : goal.returns-in-Some-clause-search
returns-in-Some-clause-search g c =
    let o = outside g.F.Files.contents g.F.Files.faults g.F.Files.refused c.args.files.now c.serve_free.new.files in
    let words = map string_bytes c.args.words.items in
    let comes = rw c.deref.ensures.value at c.in-Some.ensures.served in
    λ other. is_searched words _ (record { meant = end_of_call c.in-Some.end; comes = told_end (MayEndFreely o words) c.in-Some.end comes; told = c.tell-outcome.ensures.told; handed_on = c.tell-outcome.ensures.left }) other

pub returns-in-Some-clause-free : goal.returns-in-Some-clause-free
returns-in-Some-clause-free g c =
    let o = outside g.F.Files.contents g.F.Files.faults g.F.Files.refused c.args.files.now c.serve_free.new.files in
    let words = map string_bytes c.args.words.items in
    let comes = rw c.deref.ensures.value at c.in-Some.ensures.served in
    λ asked. freely_served words _ (record { meant = end_of_call c.in-Some.end; comes = told_end (MayEndFreely o words) c.in-Some.end comes; told = c.tell-outcome.ensures.told; handed_on = c.tell-outcome.ensures.left })

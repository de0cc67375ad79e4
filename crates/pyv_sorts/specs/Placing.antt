-- Names where they stand, as the definitions see them.
use Rattle.std.specs.Prelude.{List, map}
use Rattle.pyv_meaning.specs.Tree.{Name}
use Rattle.pyv_sorts.specs.declared.placed.Placed.{Placed}

abbrev pub name_in : Placed → Name
name_in p = record { place = p.place; word = p.word.now }

abbrev pub names_in : List Placed → List Name
names_in ps = map name_in ps

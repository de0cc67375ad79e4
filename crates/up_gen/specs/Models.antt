-- The text of the model of n relations, r0 to r(n-1): a node takes the lock from the server into
-- r0, the lock goes from each relation to the next, and from the last one back to the server.
use Rattle.std.specs.Prelude.{ℕ, ◌+◌, ◌-◌, List, ◌++◌, codes, decimal}
use Rattle.std.specs.List.{flat_map, range_with_len}

-- the name of relation k
abbrev pub name_of : ℕ → List ℕ
name_of k = codes "r" ++ decimal k

-- relation k is one of nodes, and steps may change it
abbrev pub declaration : ℕ → List ℕ
declaration k = codes "mutable relation " ++ name_of k ++ codes "(node)\n"

-- at first no node is in relation k
abbrev pub initially_empty : ℕ → List ℕ
initially_empty k = codes "init !" ++ name_of k ++ codes "(N)\n"

-- node n is in relation k
abbrev pub holds : ℕ → List ℕ
holds k = codes "  & " ++ name_of k ++ codes "(n)\n"

-- node n leaves relation k, and no other node does or joins it
abbrev pub leaves : ℕ → List ℕ
leaves k =
    codes "  & (new(" ++ name_of k ++ codes "(N)) <-> " ++ name_of k ++ codes "(N) & N != n)\n"

-- node n joins relation k, and no other node does or leaves it
abbrev pub joins : ℕ → List ℕ
joins k =
    codes "  & (new(" ++ name_of k ++ codes "(N)) <-> " ++ name_of k ++ codes "(N) | N = n)\n"

-- the server gives the lock to a node
abbrev pub take_text : List ℕ
take_text =
    codes "transition take(n: node)\n  modifies server, r0\n" ++
    codes "  & server\n  & !new(server)\n" ++
    joins 0

-- a move's name
abbrev pub move_name : ℕ → List ℕ
move_name k = codes "transition move" ++ decimal k ++ codes "(n: node)\n"

-- the two relations that a move changes
abbrev pub move_changes : ℕ → List ℕ
move_changes k = codes "  modifies " ++ name_of k ++ codes ", " ++ name_of (k + 1) ++ codes "\n"

-- the node that has the lock goes from relation k to the next
abbrev pub move_text : ℕ → List ℕ
move_text k = move_name k ++ move_changes k ++ holds k ++ leaves k ++ joins (k + 1)

-- the name of the way back, and what it changes
abbrev pub back_head : ℕ → List ℕ
back_head k = codes "transition back(n: node)\n  modifies server, " ++ name_of k ++ codes "\n"

-- a node of relation k gives the lock back to the server
abbrev pub back_text : ℕ → List ℕ
back_text k = back_head k ++ holds k ++ codes "  & new(server)\n" ++ leaves k

-- relation k has at most one node
abbrev pub safety_text : ℕ → List ℕ
safety_text k =
    codes "safety [one] " ++ name_of k ++ codes "(X) & " ++ name_of k ++ codes "(Y) -> X = Y\n"

-- the states are told by whether the server has the lock and by n relations of nodes, and at first
-- the server has it
abbrev pub states_text : ℕ → List ℕ
states_text n =
    codes "sort node\nmutable relation server\n" ++
    flat_map declaration (range_with_len 0 n) ++
    codes "init server\n" ++
    flat_map initially_empty (range_with_len 0 n)

-- the lock is taken, moves on n - 1 times, and comes back
abbrev pub transitions_text : ℕ → List ℕ
transitions_text n = take_text ++ flat_map move_text (range_with_len 0 (n - 1)) ++ back_text (n - 1)

-- the model of n relations, for an n of at least 1
abbrev pub model_text_of : ℕ → List ℕ
model_text_of n = states_text n ++ transitions_text n ++ safety_text (n - 1)

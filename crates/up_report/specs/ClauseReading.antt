-- Reading the text of a clause from left to right, with the first byte at which it can't go on.
use Rattle.std.specs.Prelude.{ℕ, zero, suc, ◌+◌, ◌-◌, ◌^◌, ◌<◌, ⊤, Bool, true, false, cond, not, ◌&&◌, ◌||◌, nat_lt, ◌==◌, if◌then◌else◌, List, [], ◌∷◌, ◌++◌, length, map, codes, decimal, slice_index, slice_index_or, Ok, Err}
use Rattle.std.specs.List.{flat_map, list_any, list_all, range_with_len}
use Rattle.fo_core.specs.declared.signature.Symbol.{Symbol}
use Rattle.fo_core.specs.declared.signature.Sig.{Sig}
use Rattle.fo_core.specs.declared.names.Names.{Names}
use Rattle.fo_core.specs.Tables.{symbol_at}
use Rattle.fo_text.specs.Reading.{Read, ◌>>=◌, literal_at, number_at, choose, choice_at}
use Rattle.up_diagram.specs.declared.cube.Flat.{Flat}
use Rattle.up_diagram.specs.declared.cube.Flat.TheVariants.{Differ, Fact, Value}
use Rattle.up_claims.specs.declared.verdict.Kept.{Kept}
use Rattle.up_report.specs.declared.clause_heads.Head.{Head}
use Rattle.up_report.specs.declared.clause_heads.Head.TheVariants.{Forall, Nothing, Equal, Applied}
use Rattle.up_report.specs.declared.clause_heads.Ending.{Ending}
use Rattle.up_report.specs.declared.clause_heads.Ending.TheVariants.{Argument, LastArgument, Denial, Equality, Arguments, Unequal, Sort, LastSort}
use Rattle.up_report.specs.ClauseTexts.{symbol_name, mark}

-- ---- items of which each tells whether it is the last

-- up to n items, the first of number k
unfoldable pub chain_by : {A : Type 0} → (ℕ → List ℕ → Read (A × Bool)) → ℕ → ℕ → List ℕ → Read (List A)
chain_by item zero k bytes = Err 0
chain_by item (suc n) k bytes = do
  x ← item k bytes
  if x.0.1 then Ok (x.0.0 ∷ [], x.1)
      else (chain_by item n (k + 1) x.1 >>= λ xs. Ok (x.0.0 ∷ xs.0, xs.1))

-- items from number k on; no list is longer than the bytes
abbrev pub chain : {A : Type 0} → (ℕ → List ℕ → Read (A × Bool)) → ℕ → List ℕ → Read (List A)
chain item k bytes = chain_by item (length bytes + 1) k bytes

-- ---- words, and what ends them

abbrev pub texts : Ending → List (List ℕ)
texts Argument = codes ", V" ∷ []
texts LastArgument = codes ")" ∷ []
texts Denial = codes " | " ∷ codes "\n" ∷ []
texts Equality = codes " = V" ∷ []
texts Arguments = codes "(V" ∷ []
texts Unequal = codes " != V" ∷ []
texts Sort = codes ". " ∷ codes ", V" ∷ []
texts LastSort = codes ". " ∷ []

-- the places of these texts
abbrev pub places : Ending → List ℕ
places ending = range_with_len 0 (length (texts ending))

-- a mark, a word, and one of these texts
abbrev pub ended : List ℕ → List ℕ → Ending → ℕ → List ℕ
ended mark word ending e = mark ++ (word ++ slice_index_or (texts ending) e [])

-- ---- a variable

-- the variable, if it has the sort, with each place of a text
abbrev pub variable_options : List ℕ → Ending → ℕ → ℕ → List (ℕ × ℕ)
variable_options sorts ending s v =
    cond (slice_index sorts v == s) (map (λ e. (v, e)) (places ending)) []

abbrev pub ended_variable : Ending → ℕ × ℕ → List ℕ
ended_variable ending x = ended [] (decimal x.0) ending x.1

-- the number of a variable of this sort, and which text ends it
unfoldable pub variable_at : List ℕ → Ending → ℕ → List ℕ → Read (ℕ × ℕ)
variable_at sorts ending s bytes =
    choose (ended_variable ending)
    (flat_map (variable_options sorts ending s) (range_with_len 0 (length sorts))) bytes

-- what ends an argument, where this number of arguments follows
abbrev pub argument_ending : ℕ → Ending
argument_ending following = if following == 0 then LastArgument else Argument

-- variables of these sorts, up to the bracket that closes
unfoldable pub arguments_at : List ℕ → List ℕ → List ℕ → Read (List ℕ)
arguments_at sorts [] bytes = Ok ([], bytes)
arguments_at sorts (s ∷ ss) bytes = do
  v ← variable_at sorts (argument_ending (length ss)) s bytes
  vs ← arguments_at sorts ss v.1
  Ok (v.0.0 ∷ vs.0, vs.1)

-- ---- the head of a denial

abbrev pub has_arguments : Symbol → Bool
has_arguments symbol = not (length symbol.args == 0)

-- what ends a symbol's name
abbrev pub name_ending : Symbol → Ending
name_ending symbol =
    if has_arguments symbol then Arguments else (if symbol.relation then Denial else Unequal)

-- some variable has the sort
abbrev pub has_variable : List ℕ → ℕ → Bool
has_variable sorts s = list_any (λ t. t == s) sorts

-- variables have all sorts that the symbol needs
abbrev pub stands : List ℕ → Symbol → Bool
stands sorts symbol =
    list_all (has_variable sorts) symbol.args && (symbol.relation || has_variable sorts symbol.result)

-- `!` stands in front of relations alone
abbrev pub may_stand : List ℕ → Bool → Symbol → Bool
may_stand sorts sign symbol = stands sorts symbol && (not sign || symbol.relation)

-- the heads that the symbol of number k gives
abbrev pub symbol_heads : Sig → List ℕ → Bool → ℕ → List Head
symbol_heads sig sorts sign k =
    cond (may_stand sorts sign (symbol_at sig k))
    (map (λ e. Applied sign k (e == 1)) (places (name_ending (symbol_at sig k)))) []

abbrev pub signed_heads : Sig → List ℕ → Bool → List Head
signed_heads sig sorts sign =
    flat_map (symbol_heads sig sorts sign) (range_with_len 0 (length sig.symbols))

abbrev pub equal_heads : ℕ → List Head
equal_heads count = flat_map (λ i. Equal i ∷ []) (range_with_len 0 count)

-- the heads of denials over variables of these sorts
abbrev pub heads : Sig → List ℕ → List Head
heads sig sorts =
    equal_heads (length sorts) ++ (signed_heads sig sorts false ++ signed_heads sig sorts true)

abbrev pub head_text : Sig → Names → Head → List ℕ
head_text sig names Forall = codes "forall V0:"
head_text sig names Nothing = codes "false\n"
head_text sig names (Equal i) = ended (codes "V") (decimal i) Equality 0
head_text sig names (Applied sign k last) =
    ended (mark sign) (symbol_name names k) (name_ending (symbol_at sig k)) (if last then 1 else 0)

-- ---- which of several heads stands here

abbrev pub equal_at : Sig → Names → ℕ → List ℕ → Read Head
equal_at sig names count = choose (head_text sig names) (equal_heads count)

abbrev pub signed_at : Sig → Names → List ℕ → Bool → List ℕ → Read Head
signed_at sig names sorts sign = choose (head_text sig names) (signed_heads sig sorts sign)

abbrev pub either_at : Sig → Names → List ℕ → List ℕ → Read Head
either_at sig names sorts =
    choose (head_text sig names) (signed_heads sig sorts false ++ signed_heads sig sorts true)

abbrev pub head_at : Sig → Names → List ℕ → List ℕ → Read Head
head_at sig names sorts = choose (head_text sig names) (heads sig sorts)

abbrev pub body_head_at : Sig → Names → List ℕ → List ℕ → Read Head
body_head_at sig names sorts = choose (head_text sig names) (Nothing ∷ heads sig sorts)

-- the name of a symbol, and which text ends it
abbrev pub name_at : Sig → Names → Bool → ℕ → List ℕ → Read ℕ
name_at sig names sign k =
    choice_at (mark sign) (symbol_name names k) (texts (name_ending (symbol_at sig k)))

-- the head names a variable or a symbol
abbrev pub IsHeadOf : Sig → List ℕ → Head → Type 0
IsHeadOf sig sorts Forall = ⊤
IsHeadOf sig sorts Nothing = ⊤
IsHeadOf sig sorts (Equal i) = i < length sorts
IsHeadOf sig sorts (Applied sign k last) = k < length sig.symbols

-- ---- what follows the head of a denial: the literal, and whether the denial is the last

unfoldable pub differ_at : List ℕ → ℕ → List ℕ → Read (Flat × Bool)
differ_at sorts i bytes = do
  v ← variable_at sorts Denial (slice_index sorts i) bytes
  Ok ((Differ i v.0.0, v.0.1 == 1), v.1)

unfoldable pub fact_at : Sig → List ℕ → Bool → ℕ → List ℕ → Read (Flat × Bool)
fact_at sig sorts sign r bytes = do
  vs ← arguments_at sorts (symbol_at sig r).args bytes
  e ← choice_at [] [] (texts Denial) vs.1
  Ok ((Fact sign r vs.0, e.0 == 1), e.1)

unfoldable pub constant_at : Sig → List ℕ → ℕ → List ℕ → Read (Flat × Bool)
constant_at sig sorts f bytes = do
  v ← variable_at sorts Denial (symbol_at sig f).result bytes
  Ok ((Value f [] v.0.0, v.0.1 == 1), v.1)

unfoldable pub value_at : Sig → List ℕ → ℕ → List ℕ → Read (Flat × Bool)
value_at sig sorts f bytes = do
  vs ← arguments_at sorts (symbol_at sig f).args bytes
  unequal ← literal_at (codes " != V") vs.1
  v ← variable_at sorts Denial (symbol_at sig f).result unequal
  Ok ((Value f vs.0 v.0.0, v.0.1 == 1), v.1)

unfoldable pub applied_at : Sig → List ℕ → Bool → ℕ → Bool → List ℕ → Read (Flat × Bool)
applied_at sig sorts sign k last bytes =
    if has_arguments (symbol_at sig k)
    then (if (symbol_at sig k).relation then fact_at sig sorts sign k bytes
    else value_at sig sorts k bytes)
    else (if (symbol_at sig k).relation then Ok ((Fact sign k [], last), bytes)
    else constant_at sig sorts k bytes)

abbrev pub denied_at : Sig → List ℕ → Head → List ℕ → Read (Flat × Bool)
denied_at sig sorts Forall bytes = Err (length bytes)
denied_at sig sorts Nothing bytes = Err (length bytes)
denied_at sig sorts (Equal i) bytes = differ_at sorts i bytes
denied_at sig sorts (Applied sign k last) bytes = applied_at sig sorts sign k last bytes

unfoldable pub denial_at : Sig → Names → List ℕ → List ℕ → Read (Flat × Bool)
denial_at sig names sorts bytes = do
  head ← choose (head_text sig names) (heads sig sorts) bytes
  denied_at sig sorts head.0 head.1

-- ---- all denials

-- these literals, and those of the denials that follow
abbrev pub denials_after : Sig → Names → List ℕ → List Flat → List ℕ → Read (List Flat)
denials_after sig names sorts lits bytes =
    chain (λ k. denial_at sig names sorts) 0 bytes >>= λ xs. Ok (lits ++ xs.0, xs.1)

-- the denial with this head, and those that follow it
unfoldable pub denials_from : Sig → Names → List ℕ → Head → List ℕ → Read (List Flat)
denials_from sig names sorts head bytes = do
  x ← denied_at sig sorts head bytes
  if x.0.1 then Ok (x.0.0 ∷ [], x.1)
      else denials_after sig names sorts (x.0.0 ∷ []) x.1

abbrev pub is_nothing : Head → Bool
is_nothing Forall = false
is_nothing Nothing = true
is_nothing (Equal i) = false
is_nothing (Applied sign k last) = false

abbrev pub body_from : Sig → Names → List ℕ → Head → List ℕ → Read (List Flat)
body_from sig names sorts head bytes =
    if is_nothing head then Ok ([], bytes) else denials_from sig names sorts head bytes

-- what follows the binders
unfoldable pub body_at : Sig → Names → List ℕ → List ℕ → Read (List Flat)
body_at sig names sorts bytes = do
  head ← choose (head_text sig names) (Nothing ∷ heads sig sorts) bytes
  body_from sig names sorts head.0 head.1

-- ---- the binders

-- what ends the sort of variable k: fewer than 2^32 variables are bound
abbrev pub sort_ending : ℕ → Ending
sort_ending k = if nat_lt (k + 1) (2 ^ 32 - 1) then Sort else LastSort

abbrev pub ended_sort : Names → ℕ → ℕ × ℕ → List ℕ
ended_sort names k x = ended [] (slice_index_or names.sorts x.0 []) (sort_ending k) x.1

abbrev pub sort_options : ℕ → ℕ → List (ℕ × ℕ)
sort_options k s = map (λ e. (s, e)) (places (sort_ending k))

-- the name of this sort, as that of variable k, and which text ends it
abbrev pub sort_name_at : Names → ℕ → ℕ → List ℕ → Read ℕ
sort_name_at names k s = choice_at [] (slice_index_or names.sorts s []) (texts (sort_ending k))

-- the sort of variable k, and which text ends it
unfoldable pub sort_at : Sig → Names → ℕ → List ℕ → Read (ℕ × ℕ)
sort_at sig names k bytes =
    choose (ended_sort names k) (flat_map (sort_options k) (range_with_len 0 sig.sorts)) bytes

-- the sort of variable k, up to that of the next one, and whether there is none
unfoldable pub binder_at : Sig → Names → ℕ → List ℕ → Read (ℕ × Bool)
binder_at sig names k bytes = do
  s ← sort_at sig names k bytes
  if s.0.1 == 0 then Ok ((s.0.0, true), s.1)
      else (literal_at (decimal (k + 1)) s.1 >>= λ number.
      literal_at (codes ":") number >>= λ rest. Ok ((s.0.0, false), rest))

-- ---- the whole

abbrev pub made : ℕ → List ℕ → List Flat → Kept
made level sorts lits = record { level = level; cube = record { sorts = sorts; lits = lits } }

unfoldable pub bound_at : Sig → Names → ℕ → List ℕ → Read Kept
bound_at sig names level bytes = do
  sorts ← chain (binder_at sig names) 0 bytes
  lits ← body_at sig names sorts.0 sorts.1
  Ok (made level sorts.0 lits.0, lits.1)

unfoldable pub free_from : Sig → Names → ℕ → Head → List ℕ → Read Kept
free_from sig names level head bytes = do
  lits ← body_from sig names [] head bytes
  Ok (made level [] lits.0, lits.1)

abbrev pub is_forall : Head → Bool
is_forall Forall = true
is_forall Nothing = false
is_forall (Equal i) = false
is_forall (Applied sign k last) = false

abbrev pub kept_from : Sig → Names → ℕ → Head → List ℕ → Read Kept
kept_from sig names level head bytes =
    if is_forall head then bound_at sig names level bytes else free_from sig names level head bytes

-- what a clause may begin with, after its level
abbrev pub first_heads : Sig → List Head
first_heads sig =
    cond (sig.sorts == 0) (Nothing ∷ heads sig []) (Forall ∷ Nothing ∷ heads sig [])

abbrev pub first_head_at : Sig → Names → List ℕ → Read Head
first_head_at sig names = choose (head_text sig names) (first_heads sig)

-- a clause of a level from `least` to `most`
unfoldable pub clause_at : Sig → Names → ℕ → ℕ → List ℕ → Read Kept
clause_at sig names least most bytes = do
  level ← number_at least most 32 bytes
  head ← choose (head_text sig names) (first_heads sig) level.1
  kept_from sig names level.0 head.0 head.1

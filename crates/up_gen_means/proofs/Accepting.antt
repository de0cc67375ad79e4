-- A text is accepted, by computing: it is cut, read, given its meaning and asked for edges of its sort graph.
use Rattle.std.proofs.Common.{◌≡◌, ℕ, ◌<◌, ◌&&◌, Bool, true, nat_le, List, [], ◌∷◌, length, map, Option, Some, None, Ok, refl, sym, subst, arith, leb-true}
use Rattle.std.specs.Prelude.{is_none, nat_lt}
use Rattle.std.specs.List.{All, AllByRecursion, list_all}
use Rattle.std.specs.Str.{IsUtf8}
use Rattle.std.proofs.lemmas.Bool.{ltb-true}
use Rattle.std.proofs.lemmas.List.Elements.{All-nil, All-cons}
use Rattle.std.proofs.lemmas.Str.{IsUtf8-from_ascii}
use Rattle.std.proofs.lemmas.Str.Ascii.{IsAscii-from_all}
use Rattle.fo_core.specs.declared.names.Names.{Names}
use Rattle.fo_core.specs.declared.signature.Sig.{Sig}
use Rattle.fo_core.specs.declared.order.Purpose.TheVariants.{Infer}
use Rattle.fo_core.specs.declared.signature.Symbol.{Symbol}
use Rattle.fo_core.specs.declared.system.Step.{Step}
use Rattle.fo_core.specs.declared.system.System.{System}
use Rattle.fo_core.specs.SortGraph.{IsStratified}
use Rattle.pyv_lex.specs.Cutting.{AreTokens, Cuts}
use Rattle.pyv_lex.specs.declared.token.Token.{Token}
use Rattle.pyv_grammar.specs.Reading.{whole}
use Rattle.pyv_grammar.proofs.Files.{sound_whole}
use Rattle.pyv_meaning.specs.Bodies.{body_formula, body_step}
use Rattle.pyv_meaning.specs.Declaring.{declared_fault, names_in, sig_in}
use Rattle.pyv_meaning.specs.Items.{Axiom, Body, Init, Invariant, Item, Role, Safety, claims, steps}
use Rattle.pyv_meaning.specs.Meaning.{ItemsMean}
use Rattle.pyv_meaning.proofs.Basics.{and_left, and_right}
use Rattle.pyv_meaning.proofs.Declares.{declared_sound}
use Rattle.up_gen_means.specs.Accepted.{IsAccepted}
use Rattle.up_gen_means.proofs.Bodies.{claims_mean, first_sort, is_fine, none_is, steps_mean}
use Rattle.up_gen_means.proofs.Edges.{MakesNone, body_none, edgeless, is_plain}
use Rattle.up_gen_means.proofs.Lexed.{lex, lexed}
use Rattle.up_gen_means.proofs.Mirror.{decl_of, item_seen, items_same, mirror}

-- ---- its bytes

all_below : (bs : List ℕ) → list_all (λ b. nat_lt b 128) bs ≡ true → All (λ b. b < 128) bs
all_below [] h = All-nil (λ b. b < 128)
all_below (b ∷ bs) h = All-cons (λ b. b < 128) b bs (ltb-true b 128 (and_left (nat_lt b 128) (list_all (λ b. nat_lt b 128) bs) h)) (all_below bs (and_right (nat_lt b 128) (list_all (λ b. nat_lt b 128) bs) h))

is_text : (bs : List ℕ) → list_all (λ b. nat_lt b 128) bs ≡ true → IsUtf8 bs
is_text bs h = IsUtf8-from_ascii bs (IsAscii-from_all bs (all_below bs h))

-- ---- its meaning

-- the system that is built, where every variable is of the first sort
abbrev pub built : List Item → Names → Sig → System
built items names sig = record {
  sig = sig;
  axioms = map (λ (b : Body). body_formula names sig b first_sort) (claims Axiom items);
  inits = map (λ (b : Body). body_formula names sig b first_sort) (claims Init items);
  steps = map (λ (b : Body). body_step names sig b first_sort) (steps items);
  safeties = map (λ (b : Body). body_formula names sig b first_sort) (claims Safety items);
  invariants = map (λ (b : Body). body_formula names sig b first_sort) (claims Invariant items);
}

abbrev pub are_fine : List Item → Names → Sig → Bool
are_fine items names sig =
    list_all (is_fine names sig) (claims Axiom items)
    && (list_all (is_fine names sig) (claims Init items)
    && (list_all (is_fine names sig) (steps items)
    && (list_all (is_fine names sig) (claims Safety items)
    && list_all (is_fine names sig) (claims Invariant items))))

-- no function is declared, and no body has a quantifier of its own
abbrev pub are_edgeless : List Item → Sig → Bool
are_edgeless items sig =
    list_all (λ (s : Symbol). s.relation) sig.symbols
    && (list_all (λ (b : Body). is_plain b.tree) (claims Axiom items)
    && (list_all (λ (b : Body). is_plain b.tree) (claims Init items)
    && (list_all (λ (b : Body). is_plain b.tree) (steps items)
    && list_all (λ (b : Body). is_plain b.tree) (claims Safety items))))

abbrev pub mean_system : List Item → Names → Sig → Bool
mean_system items names sig = is_none (declared_fault items [] items) && (are_fine items names sig && are_edgeless items sig)

-- bodies without quantifiers of their own make no edge
none_by : (names : Names) (sig : Sig) (bs : List Body) → list_all (λ (b : Body). is_plain b.tree) bs ≡ true → AllByRecursion MakesNone (map (λ (b : Body). body_formula names sig b first_sort) bs)
none_by names sig [] h = tt
none_by names sig (b ∷ bs) h = (body_none names sig first_sort b (and_left (is_plain b.tree) (list_all (λ (c : Body). is_plain c.tree) bs) h), none_by names sig bs (and_right (is_plain b.tree) (list_all (λ (c : Body). is_plain c.tree) bs) h))

none_by_steps : (names : Names) (sig : Sig) (bs : List Body) → list_all (λ (b : Body). is_plain b.tree) bs ≡ true → AllByRecursion (λ (step : Step). MakesNone step.body) (map (λ (b : Body). body_step names sig b first_sort) bs)
none_by_steps names sig [] h = tt
none_by_steps names sig (b ∷ bs) h = (body_none names sig first_sort b (and_left (is_plain b.tree) (list_all (λ (c : Body). is_plain c.tree) bs) h), none_by_steps names sig bs (and_right (is_plain b.tree) (list_all (λ (c : Body). is_plain c.tree) bs) h))

module _ (items : List Item) (h : mean_system items (names_in items) (sig_in items) ≡ true) where
  abbrev fine_of : Role → Bool
  fine_of r = list_all (is_fine (names_in items) (sig_in items)) (claims r items)

  abbrev fine_steps : Bool
  fine_steps = list_all (is_fine (names_in items) (sig_in items)) (steps items)

  abbrev system : System
  system = built items (names_in items) (sig_in items)

  rest : (are_fine items (names_in items) (sig_in items) && are_edgeless items (sig_in items)) ≡ true
  rest = and_right (is_none (declared_fault items [] items)) (are_fine items (names_in items) (sig_in items) && are_edgeless items (sig_in items)) h

  fine : (fine_of Axiom && (fine_of Init && (fine_steps && (fine_of Safety && fine_of Invariant)))) ≡ true
  fine = and_left (are_fine items (names_in items) (sig_in items)) (are_edgeless items (sig_in items)) rest

  past_axioms : (fine_of Init && (fine_steps && (fine_of Safety && fine_of Invariant))) ≡ true
  past_axioms = and_right (fine_of Axiom) (fine_of Init && (fine_steps && (fine_of Safety && fine_of Invariant))) fine

  past_inits : (fine_steps && (fine_of Safety && fine_of Invariant)) ≡ true
  past_inits = and_right (fine_of Init) (fine_steps && (fine_of Safety && fine_of Invariant)) past_axioms

  past_steps : (fine_of Safety && fine_of Invariant) ≡ true
  past_steps = and_right fine_steps (fine_of Safety && fine_of Invariant) past_inits

  means : ItemsMean items system (names_in items)
  means = record {
    declared = declared_sound items (none_is (declared_fault items [] items) (and_left (is_none (declared_fault items [] items)) (are_fine items (names_in items) (sig_in items) && are_edgeless items (sig_in items)) h));
    named = refl;
    signature = refl;
    axioms = claims_mean (names_in items) (sig_in items) (claims Axiom items) (and_left (fine_of Axiom) (fine_of Init && (fine_steps && (fine_of Safety && fine_of Invariant))) fine);
    inits = claims_mean (names_in items) (sig_in items) (claims Init items) (and_left (fine_of Init) (fine_steps && (fine_of Safety && fine_of Invariant)) past_axioms);
    transitions = steps_mean (names_in items) (sig_in items) (steps items) (and_left fine_steps (fine_of Safety && fine_of Invariant) past_inits);
    safeties = claims_mean (names_in items) (sig_in items) (claims Safety items) (and_left (fine_of Safety) (fine_of Invariant) past_steps);
    invariants = claims_mean (names_in items) (sig_in items) (claims Invariant items) (and_right (fine_of Safety) (fine_of Invariant) past_steps);
  }

  abbrev relations : Bool
  relations = list_all (λ (s : Symbol). s.relation) (sig_in items).symbols

  abbrev plain_claims : Role → Bool
  plain_claims r = list_all (λ (b : Body). is_plain b.tree) (claims r items)

  abbrev plain_steps : Bool
  plain_steps = list_all (λ (b : Body). is_plain b.tree) (steps items)

  edges : (relations && (plain_claims Axiom && (plain_claims Init && (plain_steps && plain_claims Safety)))) ≡ true
  edges = and_right (are_fine items (names_in items) (sig_in items)) (are_edgeless items (sig_in items)) rest

  past_relations : (plain_claims Axiom && (plain_claims Init && (plain_steps && plain_claims Safety))) ≡ true
  past_relations = and_right relations (plain_claims Axiom && (plain_claims Init && (plain_steps && plain_claims Safety))) edges

  past_plain_axioms : (plain_claims Init && (plain_steps && plain_claims Safety)) ≡ true
  past_plain_axioms = and_right (plain_claims Axiom) (plain_claims Init && (plain_steps && plain_claims Safety)) past_relations

  past_plain_inits : (plain_steps && plain_claims Safety) ≡ true
  past_plain_inits = and_right (plain_claims Init) (plain_steps && plain_claims Safety) past_plain_axioms

  stratified : IsStratified system Infer
  stratified =
      edgeless system (and_left relations (plain_claims Axiom && (plain_claims Init && (plain_steps && plain_claims Safety))) edges)
      (none_by (names_in items) (sig_in items) (claims Axiom items) (and_left (plain_claims Axiom) (plain_claims Init && (plain_steps && plain_claims Safety)) past_relations))
      (none_by (names_in items) (sig_in items) (claims Init items) (and_left (plain_claims Init) (plain_steps && plain_claims Safety) past_plain_axioms))
      (none_by_steps (names_in items) (sig_in items) (steps items) (and_left plain_steps (plain_claims Safety) past_plain_inits))
      (none_by (names_in items) (sig_in items) (claims Safety items) (and_right plain_steps (plain_claims Safety) past_plain_inits))

-- ---- the whole

-- the tokens, or none where there are none
abbrev pub tokens_or_none : Option (List Token) → List Token
tokens_or_none None = []
tokens_or_none (Some ts) = ts

abbrev pub tokens_in : List ℕ → List Token
tokens_in bytes = tokens_or_none (lex (length bytes) 0 bytes)

abbrev pub items_mean : List Item → Bool
items_mean items = mean_system items (names_in items) (sig_in items)

-- what is computed of a text: its bytes are of ASCII, its tokens aren't too many, and the plain data that stand for its
-- tree mean a system that is stratified
abbrev pub is_accepted : List ℕ → Bool
is_accepted bytes = list_all (λ b. nat_lt b 128) bytes && (nat_le (length (tokens_in bytes)) 200000 && items_mean (map (item_seen bytes) (mirror (tokens_in bytes))))

module _ (bytes : List ℕ) (lexes : lex (length bytes) 0 bytes ≡ Some (tokens_in bytes)) (reads : whole 200 6 (tokens_in bytes) ≡ Ok (map decl_of (mirror (tokens_in bytes)))) (h : is_accepted bytes ≡ true) where
  abbrev ascii : Bool
  ascii = list_all (λ b. nat_lt b 128) bytes

  abbrev few_tokens : Bool
  few_tokens = nat_le (length (tokens_in bytes)) 200000

  abbrev items : List Item
  items = map (item_seen bytes) (mirror (tokens_in bytes))

  past_bytes : (few_tokens && items_mean items) ≡ true
  past_bytes = and_right ascii (few_tokens && items_mean items) h

  mean : items_mean items ≡ true
  mean = and_right few_tokens (items_mean items) past_bytes

  cut : AreTokens bytes (tokens_in bytes)
  cut = subst (λ (e : ℕ). Cuts 0 bytes (tokens_in bytes) e []) (omega arith) (lexed (length bytes) 0 bytes (tokens_in bytes) lexes)

  pub accepted : IsAccepted bytes
  accepted = record {
    tokens = tokens_in bytes;
    text = is_text bytes (and_left ascii (few_tokens && items_mean items) h);
    cut = cut;
    few = leb-true (length (tokens_in bytes)) 200000 (and_left few_tokens (items_mean items) past_bytes);
    model = record { decls = map decl_of (mirror (tokens_in bytes)) };
    spells = sound_whole 200 6 (tokens_in bytes) (map decl_of (mirror (tokens_in bytes))) reads;
    sys = system items mean;
    names = names_in items;
    means = subst (λ (xs : List Item). ItemsMean xs (system items mean) (names_in items)) (sym (items_same bytes (mirror (tokens_in bytes)))) (means items mean);
    stratified = stratified items mean;
  }

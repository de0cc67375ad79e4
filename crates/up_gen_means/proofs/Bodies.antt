-- Bodies whose variables are all of one sort mean what is built of them, by computing.
use Rattle.std.proofs.Common.{◌≡◌, ℕ, ◌≤◌, ◌&&◌, ◌||◌, ◌==◌, ◌⊎◌, Bool, true, false, nat_le, List, [], ◌∷◌, length, map, Option, Some, None, refl, sym, subst, inl, inr, leb-true}
use Rattle.std.specs.Prelude.{is_none}
use Rattle.std.specs.List.{AllByRecursion, AllZip, list_all, list_any}
use Rattle.std.proofs.lemmas.Bool.Decides.{Decides-eqb}
use Rattle.fo_core.specs.declared.names.Names.{Names}
use Rattle.fo_core.specs.declared.signature.Sig.{Sig}
use Rattle.pyv_meaning.specs.declared.fault.SortFault.{SortFault}
use Rattle.pyv_meaning.specs.declared.variable.Use.{Use}
use Rattle.pyv_meaning.specs.declared.variable.Use.TheVariants.{Binder as Binds, Is, Alike}
use Rattle.pyv_meaning.specs.Bodies.{AreSorted, ClaimMeans, StepMeans, body_clash, body_fault, body_formula, body_step, body_uses}
use Rattle.pyv_meaning.specs.Gets.{Among, here, there, Gets, itself, along, back, GetsOnly, binders}
use Rattle.pyv_meaning.specs.Items.{Body}
use Rattle.pyv_meaning.proofs.Basics.{and_left, and_right, true_or_false}
use Rattle.pyv_meaning.proofs.Top.{body_sound}
use Rattle.pyv_meaning.proofs.Whole.{step_sound}

-- every variable is of the first sort
abbrev pub first_sort : ℕ → ℕ
first_sort v = 0

-- ---- its variables

-- no other sort is told
abbrev tells_first : Use → Bool
tells_first (Is v s) = s == 0
tells_first (Binds v) = true
tells_first (Alike v w) = true

-- this variable is told to be of the first sort
abbrev is_told : ℕ → Use → Bool
is_told v (Is w s) = (v == w) && (s == 0)
is_told v (Binds w) = false
is_told v (Alike w x) = false

abbrev are_told : List Use → List ℕ → Bool
are_told us vs = list_all tells_first us && list_all (λ v. list_any (is_told v) us) vs

all_at : {A : Type 0} (p : A → Bool) (xs : List A) (x : A) → list_all p xs ≡ true → Among x xs → p x ≡ true
all_at p _ x h (here _ xs) = and_left _ _ h
all_at p _ x h (there _ y xs m) = all_at p xs x (and_right _ _ h) m

one_sort : (us : List Use) → list_all tells_first us ≡ true → (v s : ℕ) → Gets us v s → s ≡ 0
one_sort us h v s (itself _ _ m) = (Decides-eqb s 0).0 (all_at tells_first us (Is v s) h m)
one_sort us h v s (along _ w _ m g) = one_sort us h w s g
one_sort us h v s (back w _ _ m g) = one_sort us h w s g

told_one : (us : List Use) (v : ℕ) (u : Use) → Among u us → is_told v u ≡ true → Gets us v 0
told_one us v (Is w s) m t =
    let same = (Decides-eqb v w).0 (and_left _ _ t) in
    let first = (Decides-eqb s 0).0 (and_right _ _ t) in
    itself v 0 (subst (λ (i : ℕ). Among (Is i 0) us) (sym same) (subst (λ (i : ℕ). Among (Is w i) us) first m))
told_one us v (Binds w) m t = absurd cc
told_one us v (Alike w x) m t = absurd cc

the_other : (b c : Bool) → (b || c) ≡ true → b ≡ false → c ≡ true
the_other true c h g = absurd cc
the_other false c h g = h

told_in : (us all : List Use) (v : ℕ) → ((u : Use) → Among u us → Among u all) → list_any (is_told v) us ≡ true → Gets all v 0
told_in [] all v inside t = absurd cc
told_in (u ∷ us) all v inside t = of (told_in us all v (λ w m. inside w (there _ _ _ m))) (true_or_false (is_told v u))
  where
    of : (list_any (is_told v) us ≡ true → Gets all v 0) → (is_told v u ≡ true) ⊎ (is_told v u ≡ false) → Gets all v 0
    of more (inl h) = told_one all v u (inside u (here _ _)) h
    of more (inr f) = more (the_other (is_told v u) (list_any (is_told v) us) t f)

sorted : (us : List Use) (vs : List ℕ) → are_told us vs ≡ true → AllByRecursion (λ v. GetsOnly us v 0) vs
sorted us vs h = each vs (and_right _ _ h)
  where
    each : (ws : List ℕ) → list_all (λ v. list_any (is_told v) us) ws ≡ true → AllByRecursion (λ v. GetsOnly us v 0) ws
    each [] t = tt
    each (w ∷ ws) t = (record { gets = told_in us us w (λ u m. m) (and_left _ _ t); only = λ r g. one_sort us (and_left _ _ h) w r g }, each ws (and_right _ _ t))

-- ---- a body

pub none_is : (o : Option SortFault) → is_none o ≡ true → o ≡ None
none_is None t = refl
none_is (Some f) t = absurd cc

module _ (names : Names) (sig : Sig) where
  -- it has few parameters, its variables are told to be of the first sort, and nothing is at fault
  abbrev pub is_fine : Body → Bool
  is_fine b = nat_le (length b.params) 64 && (is_none (body_fault names sig b) && (are_told (body_uses names sig b) (binders (body_uses names sig b)) && is_none (body_clash names sig b first_sort)))

  module _ (b : Body) (fine : is_fine b ≡ true) where
    abbrev uses_of : List Use
    uses_of = body_uses names sig b

    abbrev told : Bool
    told = are_told uses_of (binders uses_of)

    abbrev unclashed : Bool
    unclashed = is_none (body_clash names sig b first_sort)

    abbrev unfaulted : Bool
    unfaulted = is_none (body_fault names sig b)

    few : length b.params ≤ 64
    few = leb-true (length b.params) 64 (and_left (nat_le (length b.params) 64) (unfaulted && (told && unclashed)) fine)

    rest : (unfaulted && (told && unclashed)) ≡ true
    rest = and_right (nat_le (length b.params) 64) (unfaulted && (told && unclashed)) fine

    no_fault : body_fault names sig b ≡ None
    no_fault = none_is (body_fault names sig b) (and_left unfaulted (told && unclashed) rest)

    are_sorted : AreSorted names sig b first_sort
    are_sorted = sorted uses_of (binders uses_of) (and_left told unclashed (and_right unfaulted (told && unclashed) rest))

    no_clash : body_clash names sig b first_sort ≡ None
    no_clash = none_is (body_clash names sig b first_sort) (and_right told unclashed (and_right unfaulted (told && unclashed) rest))

    claim_means : ClaimMeans names sig b (body_formula names sig b first_sort)
    claim_means = (first_sort, body_sound names sig b first_sort few no_fault are_sorted no_clash)

    step_means : StepMeans names sig b (body_step names sig b first_sort)
    step_means = step_sound names sig b first_sort few no_fault are_sorted no_clash

  pub claims_mean : (bs : List Body) → list_all is_fine bs ≡ true → AllZip (ClaimMeans names sig) bs (map (λ (b : Body). body_formula names sig b first_sort) bs)
  claims_mean [] h = tt
  claims_mean (b ∷ bs) h = (claim_means b (and_left _ _ h), claims_mean bs (and_right _ _ h))

  pub steps_mean : (bs : List Body) → list_all is_fine bs ≡ true → AllZip (StepMeans names sig) bs (map (λ (b : Body). body_step names sig b first_sort) bs)
  steps_mean [] h = tt
  steps_mean (b ∷ bs) h = (step_means b (and_left _ _ h), steps_mean bs (and_right _ _ h))

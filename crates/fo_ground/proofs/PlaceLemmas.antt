-- The place of an application, from the places of its arguments.
use Rattle.std.proofs.Common.{◌≡◌, ℕ, false, ◌<◌, List, ◌∷◌, length, get_or, map, refl, ap, ◌∙◌}
use Rattle.fo_core.specs.declared.term.Term.{Term, Row_of-Term, end_of-Term, more_of-Term, items-the_row-Term, items_hidden-the_row-Term-0}
use Rattle.fo_core.specs.declared.term.Term.TheVariants.{App}
use Rattle.fo_core.specs.Tables.{symbol_at}
use Rattle.fo_core.specs.Sorted.{IsSymbol, IsTerm}
use Rattle.fo_core.proofs.Rows.{sorted-App, args_of}
use Rattle.fo_core.proofs.Zips.{AllZip-at}
use Rattle.fo_terms.specs.declared.terms.Ground.{Ground}
use Rattle.fo_terms.specs.declared.terms.Universe.{Universe}
use Rattle.fo_terms.specs.Universe.{AreOf}
use Rattle.fo_ground.specs.declared.layout.Layout.{Layout}
use Rattle.fo_ground.specs.Instances.{place_of, places_of}
use Rattle.fo_ground.specs.Classes.{IsClosed}
use Rattle.fo_ground.proofs.Placed.{list_of-are}
use Rattle.fo_ground.specs.Layout.{slot, IsLaidOut, HasPlace, HavePlaces}

module _ (ts : List Ground) (at : ℕ → ℕ → List ℕ → ℕ) where
  places_map : (n : _) (row : Row_of-Term n) (env : List ℕ) → places_of ts at row env ≡ map (λ t. place_of ts at t env) (items-the_row-Term n row)
  places_map n end_of-Term env = refl
  places_map n (more_of-Term t rest) env = ap (λ ps. place_of ts at t env ∷ ps) (places_map _ rest env)

  pub place-App : (f d : ℕ) (args : List Term) (env : List ℕ) → place_of ts at (App f d args) env ≡ at f d (map (λ t. place_of ts at t env) args)
  place-App f d args env =
      let row = args_of (App f d args) in
      ap (at f d) (places_map row.0 row.1 env ∙ ap (map (λ t. place_of ts at t env)) (items_hidden-the_row-Term-0 args))

module _ (u : Universe) (lay : Layout) where
  pub closed-ready : IsLaidOut u lay → IsClosed u.terms (slot u lay) lay.sig lay.copies
  closed-ready r f c args is of = let p = r.places f c args is of in (p.0, ap (λ (g : Ground). g.sort) p.1)

module _ (u : Universe) (lay : Layout) (env : List ℕ) where
  pub HasPlace-args : (f d : ℕ) (args : List Term) → HasPlace u lay env (App f d args) → HavePlaces u lay env args (symbol_at lay.sig f).args
  HasPlace-args f d args h = record { sorts = h.sorts; places = h.places; sorted = (sorted-App lay.sig lay.copies f d args h.sorts h.sort h.sorted).2 }

  pub symbol-App : (f d : ℕ) (args : List Term) → HasPlace u lay env (App f d args) → IsSymbol lay.sig lay.copies false f d
  symbol-App f d args h = (sorted-App lay.sig lay.copies f d args h.sorts h.sort h.sorted).0

  pub HavePlaces-at : (ts : List Term) (rs : List ℕ) (i : ℕ) (t : Term) → HavePlaces u lay env ts rs → i < length ts → HasPlace u lay env (get_or ts i t)
  HavePlaces-at ts rs i t h lt =
      record { sorts = h.sorts; places = h.places; sort = get_or rs i 0; sorted = AllZip-at (λ t s. IsTerm lay.sig lay.copies t h.sorts s) ts rs i t 0 h.sorted lt }

  pub list_places : (ts : List Term) (rs : List ℕ) → IsLaidOut u lay → HavePlaces u lay env ts rs → AreOf u.terms (map (λ t. place_of u.terms (slot u lay) t env) ts) rs
  list_places ts rs r h = list_of-are u.terms (slot u lay) lay.sig lay.copies (closed-ready u lay r) ts env h.sorts rs h.places h.sorted

-- What all ends have in common.
use Rattle.std.proofs.Common.{◌≡◌, ◌≢◌, ◌∙◌, ◌<◌, ◌≤◌, ℕ, Bool, true, false, List, [], ◌∷◌, Option, None, ap, sym, subst, inl, inr, refl, arith}
use Rattle.std.specs.Prelude.{not, ◌&&◌, ◌||◌, ◌==◌, if◌then◌else◌, codes, decimal, ◌++◌}
use Rattle.std.proofs.lemmas.Bool.{eq-eqb, le-ltb, lt-ltb}
use Rattle.pv_base.specs.Reading.{limit}
use Rattle.updr_told.specs.Ends.{End, printing, refusal, usage}
use Rattle.updr_told.specs.Statuses.{is_answer, number_of}
use Rattle.updr_told.specs.declared.status.Status.{Status}
use Rattle.updr_told.specs.declared.status.Status.TheVariants as status
use Rattle.updr_table.specs.Commands.{AreSound, Command, IsSound, MayEnd, MayEndBy}
use Rattle.updr_table.specs.Outside.{Outside, RefusesFile}
use Rattle.updr_table.specs.Rows.{Contents, Ends, Row, end_of, is_reserved, is_table}

-- ---- tests

pub both : (a b : Bool) → (a && b) ≡ true → (a ≡ true) × (b ≡ true)
both true b h = (refl, h)
both false b h = cc

pub neither : (a b : Bool) → (a || b) ≡ false → (a ≡ false) × (b ≡ false)
neither true b h = cc
neither false b h = (refl, h)

pub is_not : (a : Bool) → not a ≡ true → a ≡ false
is_not true h = cc
is_not false h = refl

pub differ : (a b : ℕ) → (a == b) ≡ false → a ≢ b
differ a b apart is = let same = eq-eqb a b is in cc

-- ---- ends

-- the number is none of those that are no command's own
pub record IsOwn (n : ℕ) : Type 0 where
  pub no_usage : n ≢ 10
  pub no_read_fault : n ≢ 11
  pub no_write_fault : n ≢ 15
  pub no_want_of_memory : n ≢ 16

pub not_reserved : (s : Status) → is_reserved s ≡ false → IsOwn (number_of s)
not_reserved s h =
    let a = neither _ _ h in
    let b = neither _ _ a.1 in
    let c = neither _ _ b.1 in
    record {
      no_usage = differ (number_of s) 10 a.0;
      no_read_fault = differ (number_of s) 11 b.0;
      no_write_fault = differ (number_of s) 15 c.0;
      no_want_of_memory = differ (number_of s) 16 c.1;
    }

-- an answer is silent, a refusal prints nothing and leaves nothing
pub record IsShaped {L : Type 0} (e : End L) : Type 0 where
  pub silent : number_of e.status < 10 → e.line ≡ []
  pub nothing : 10 ≤ number_of e.status → (e.text ≡ []) × (e.left ≡ None)

-- and neither is a write fault or want of memory
pub record IsProper {L : Type 0} (e : End L) : Type 0 where
  pub shaped : IsShaped e
  pub no_write_fault : number_of e.status ≢ 15
  pub no_want_of_memory : number_of e.status ≢ 16

module _ {L : Type 0} where
  pub end_status : (s : Status) (bytes : List ℕ) (left : Option L) → (end_of s bytes left).status ≡ s
  end_status s bytes left = go (is_answer s)
    where
      go : (b : Bool) → (if b then printing s bytes left else refusal s bytes).status ≡ s
      go true = refl
      go false = refl

  end_silent : (s : Status) (bytes : List ℕ) (left : Option L) → number_of s < 10 → (end_of s bytes left).line ≡ []
  end_silent s bytes left low = go (is_answer s) (lt-ltb (number_of s) 10 low)
    where
      go : (b : Bool) → b ≡ true → (if b then printing s bytes left else refusal s bytes).line ≡ []
      go true is = refl
      go false is = cc

  pub end_nothing : (s : Status) (bytes : List ℕ) (left : Option L) → 10 ≤ number_of s → ((end_of s bytes left).text ≡ []) × ((end_of s bytes left).left ≡ None)
  end_nothing s bytes left high = go (is_answer s) (le-ltb (number_of s) 10 high)
    where
      go : (b : Bool) → b ≡ false → ((if b then printing s bytes left else refusal s bytes).text ≡ []) × ((if b then printing s bytes left else refusal s bytes).left ≡ None)
      go true is = cc
      go false is = (refl, refl)

  end_shaped : (s : Status) (bytes : List ℕ) (left : Option L) → IsShaped (end_of s bytes left)
  end_shaped s bytes left =
      let is = ap number_of (end_status s bytes left) in
      record {
        silent = λ low. end_silent s bytes left (subst (λ (n : ℕ). n < 10) is low);
        nothing = λ high. end_nothing s bytes left (subst (λ (n : ℕ). 10 ≤ n) is high);
      }

  pub refusal_proper : (s : Status) (words : List ℕ) (e : End L) → e ≡ refusal s words → 10 ≤ number_of s → number_of s ≢ 15 → number_of s ≢ 16 → IsProper e
  refusal_proper s words e is high no15 no16 = subst IsProper (sym is) (record {
    shaped = record { silent = λ low. absurd (omega arith); nothing = λ _. (refl, refl) };
    no_write_fault = no15;
    no_want_of_memory = no16;
  })

  pub row_reserved : (rows : List (Row Contents L)) (contents : Contents) (e : End L) → is_table rows ≡ true → Ends rows contents e → is_reserved e.status ≡ false
  row_reserved [] contents e table h = absurd h
  row_reserved (r ∷ rs) contents e table (inl h) =
      let own = is_not _ (both _ _ table).0 in
      subst (λ (s : Status). is_reserved s ≡ false) (sym (ap (λ (x : End L). x.status) h.is ∙ end_status r.status h.bytes h.left)) own
  row_reserved (r ∷ rs) contents e table (inr h) = row_reserved rs contents e (both _ _ (both _ _ table).1).1 h

  rows_proper : (rows : List (Row Contents L)) (contents : Contents) (e : End L) → is_table rows ≡ true → Ends rows contents e → IsProper e
  rows_proper rows contents e table h =
      let own = not_reserved e.status (row_reserved rows contents e table h) in
      record { shaped = shape_of rows h; no_write_fault = own.no_write_fault; no_want_of_memory = own.no_want_of_memory }
    where
      shape_of : (rs : List (Row Contents L)) → Ends rs contents e → IsShaped e
      shape_of [] h = absurd h
      shape_of (r ∷ rs) (inl h) = subst IsShaped (sym h.is) (end_shaped r.status h.bytes h.left)
      shape_of (r ∷ rs) (inr h) = shape_of rs h

  pub file_proper : (o : Outside) (name : List ℕ) (e : End L) → RefusesFile o name e → IsProper e
  file_proper o name e (inl (_, is)) = refusal_proper status.ReadFault (codes "cannot read " ++ name) e is (omega arith) (λ h. absurd (omega arith)) (λ h. absurd (omega arith))
  file_proper o name e (inr (_, is)) = refusal_proper status.ReadFault (name ++ (codes " is longer than " ++ (decimal limit ++ codes " bytes"))) e is (omega arith) (λ h. absurd (omega arith)) (λ h. absurd (omega arith))

  pub file_status : (o : Outside) (name : List ℕ) (e : End L) → RefusesFile o name e → e.status ≡ status.ReadFault
  file_status o name e (inl (_, is)) = ap (λ (x : End L). x.status) is
  file_status o name e (inr (_, is)) = ap (λ (x : End L). x.status) is

  pub usage_proper : (e : End L) → e ≡ usage → IsProper e
  usage_proper e is = refusal_proper status.Usage (codes "usage") e is (omega arith) (λ h. absurd (omega arith)) (λ h. absurd (omega arith))

  pub command_proper : (c : Command L) (o : Outside) (words : List (List ℕ)) (e : End L) → IsSound c → MayEndBy c o words e → IsProper e
  command_proper c o words e sound (inl (_, is)) = usage_proper e is
  command_proper c o words e sound (inr (job, _, inl refused)) = file_proper o refused.name e refused.told
  command_proper c o words e sound (inr (job, _, inr (contents, _, h))) = rows_proper (c.rows job) contents e (sound.table job) h

  pub ends_proper : (cs : List (Command L)) (o : Outside) (words : List (List ℕ)) (e : End L) → AreSound cs → MayEnd cs o words e → IsProper e
  ends_proper [] o words e sound is = usage_proper e is
  ends_proper (c ∷ cs) o words e sound (inl (_, h)) = command_proper c o words e sound.0 h
  ends_proper (c ∷ cs) o words e sound (inr (_, h)) = ends_proper cs o words e sound.1 h

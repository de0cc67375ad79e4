-- Readers that read exactly a language, by how they are put together.
use Rattle.std.proofs.Common.{◌≡◌, ℕ, zero, suc, ◌+◌, ◌<◌, ◌≤◌, Bool, true, false, cond, List, [], ◌∷◌, ◌++◌, length, Option, Some, None, Result, Ok, Err, refl, sym, ap, subst, ◌∙◌, ◌⊎◌, inl, inr, append_assoc, arith}
use Rattle.std.proofs.lemmas.List.{append-nil, length-append}
use Rattle.pyv_lex.specs.declared.token.Kind.{Kind}
use Rattle.pyv_lex.specs.declared.token.Token.{Token}
use Rattle.pyv_grammar.specs.declared.reading.Stuck.{Stuck}
use Rattle.pyv_grammar.specs.declared.reading.Stuck.TheVariants.{Bad, Deep}
use Rattle.pyv_grammar.specs.Reading.{Got, Reader, eat, on, ◌>>=◌, give, refuse, and_then, sign, try, opens, wants, separated, all_separated}
use Rattle.pyv_grammar.proofs.Eat.{Eaten, eat-some, eat-here}
use Rattle.pyv_grammar.proofs.Local.{left}
use Rattle.pyv_grammar.proofs.Strict.{bind_ok, done, no, ok_is}

-- what a value is spelled by
abbrev pub Lang : Type 0 → Type 1
Lang A = A → List Token → Type 0

-- what may follow a value
abbrev pub After : Type 0 → Type 1
After A = A → List Token → Type 0

-- some text begins with these tokens
pub record Begins {A : Type 0} (L : Lang A) (f : List Token) : Type 0 where
  pub rest : List Token
  pub value : A
  pub is : L value (f ++ rest)

-- the same, where there is a token
abbrev pub Front : {A : Type 0} → Lang A → List Token → Type 0
Front L [] = Unit {0}
Front L (t ∷ f) = Begins L (t ∷ f)

abbrev pub IsDeep : Stuck → Type 0
IsDeep (Bad n) = ⊥
IsDeep (Deep n) = Unit {0}

pub record BeginsDeep {A : Type 0} (M : Lang A) (front back : List Token) : Type 0 where
  pub token : Token
  pub after : List Token
  pub parts : back ≡ token ∷ after
  pub begins : Begins M (front ++ token ∷ [])

pub record Fails {A : Type 0} (L M : Lang A) (ts : List Token) (e : Stuck) : Type 0 where
  pub front : List Token
  pub back : List Token
  pub parts : ts ≡ front ++ back
  pub len : left e ≡ length back
  pub viable : Front L front
  pub deeper : IsDeep e → BeginsDeep M front back

pub record Takes {A : Type 0} (L : Lang A) (ts : List Token) (x : A × List Token) : Type 0 where
  pub text : List Token
  pub parts : ts ≡ text ++ x.1
  pub is : L x.0 text

-- f reads exactly L, before what may follow it; M is L without limits
pub record Exact {A : Type 0} (f : Reader A) (E : After A) (L M : Lang A) : Type 0 where
  pub sound : (ts : List Token) (x : A × List Token) → f ts ≡ Ok x → Takes L ts x
  pub complete : (a : A) (s rest : List Token) → L a s → E a rest → f (s ++ rest) ≡ Ok (a, rest)
  pub fails : (ts : List Token) (e : Stuck) → f ts ≡ Err e → Fails L M ts e
  pub wider : (a : A) (s : List Token) → L a s → M a s

-- and something is spelled so
pub record Sure {A : Type 0} (f : Reader A) (E : After A) (L M : Lang A) : Type 0 where
  pub exact : Exact f E L M
  pub some : Begins L []

abbrev pub Always : {A : Type 0} → After A
Always a ts = Unit {0}

-- ---- which way a reader went

abbrev pub TokenAnd : Type 0
TokenAnd = Token × List Token

pub record Took {A : Type 0} (k : Kind) (f : Token → Reader A) (ts : List Token) (y : Got A) : Type 0 where
  pub token : Token
  pub rest : List Token
  pub eaten : Eaten k ts token rest
  pub then : f token rest ≡ y

pub record Shut (k : Kind) (ts : List Token) {A : Type 0} (y : Got A) : Type 0 where
  pub token : Token
  pub rest : List Token
  pub eaten : Eaten k ts token rest
  pub is : y ≡ Err (Deep (length ts))

-- which of the three it was
pub data Went {A : Type 0} (shut roomy : Bool) (k : Kind) (f : Token → Reader A) (g : Reader A) (ts : List Token) (y : Got A) : Type 0 where
  in_sign : shut ≡ false → roomy ≡ true → Took k f ts y → Went shut roomy k f g ts y
  at_limit : shut ≡ false → roomy ≡ false → Shut k ts y → Went shut roomy k f g ts y
  past : g ts ≡ y → Went shut roomy k f g ts y

went_on : {A : Type 0} (b : Bool) (k : Kind) (f : Token → Reader A) (g : Reader A) (ts : List Token) (y : Got A) (o : Option TokenAnd) → eat k ts ≡ o → on o (λ t. cond b (f t.0 t.1) (Err (Deep (length ts)))) (g ts) ≡ y → Went false b k f g ts y
went_on b k f g ts y None e h = past h
went_on true k f g ts y (Some t) e h = in_sign refl refl (record { token = t.0; rest = t.1; eaten = eat-some k ts t.0 t.1 e; then = h })
went_on false k f g ts y (Some t) e h = at_limit refl refl (record { token = t.0; rest = t.1; eaten = eat-some k ts t.0 t.1 e; is = sym h })

pub went : {A : Type 0} (o b : Bool) (k : Kind) (f : Token → Reader A) (g : Reader A) (ts : List Token) (y : Got A) → sign o b k f g ts ≡ y → Went o b k f g ts y
went true b k f g ts y h = past h
went false b k f g ts y h = went_on b k f g ts y (eat k ts) refl h

pub bind_err : {A B : Type 0} (y : Got A) (f : A × List Token → Got B) (e : Stuck) → (y >>= f) ≡ Err e → (y ≡ Err e) ⊎ ((x : A × List Token) × (y ≡ Ok x) × (f x ≡ Err e))
bind_err (Ok x) f e h = inr (x, refl, h)
bind_err (Err d) f e h = inl (let q : d ≡ e = cc in ap (λ (z : Stuck). no z) q)

-- ---- fronts

pub to_begins : {A : Type 0} (L : Lang A) → Begins L [] → (f : List Token) → Front L f → Begins L f
to_begins L some [] h = some
to_begins L some (t ∷ f) h = h

pub to_front : {A : Type 0} (L : Lang A) (f : List Token) → Begins L f → Front L f
to_front L [] h = tt
to_front L (t ∷ f) h = h

front_map : {A B : Type 0} (L : Lang A) (K : Lang B) → ((f : List Token) → Begins L f → Begins K f) → (f : List Token) → Front L f → Front K f
front_map L K m [] h = tt
front_map L K m (t ∷ f) h = m (t ∷ f) h

begins_wider : {A : Type 0} (L M : Lang A) → ((a : A) (s : List Token) → L a s → M a s) → (f : List Token) → Begins L f → Begins M f
begins_wider L M w f b = record { rest = b.rest; value = b.value; is = w b.value (f ++ b.rest) b.is }

-- ---- a token

abbrev pub OneOf : Kind → Lang Token
OneOf k t s = (t.kind ≡ k) × (s ≡ t ∷ [])

pub a_token : Kind → Token
a_token k = record { kind = k; span = record { from = 0; to = 0 } }

pub is_kind : (k : Kind) → (a_token k).kind ≡ k
unfolding a_token
is_kind k = refl

pub a_kind : (k : Kind) → Begins (OneOf k) []
a_kind k = record { rest = a_token k ∷ []; value = a_token k; is = (is_kind k, refl) }

wants_ok : (k : Kind) (ts : List Token) (x : TokenAnd) → Went false true k (λ t. give t) refuse ts (Ok x) → Takes (OneOf k) ts x
wants_ok k ts x (in_sign o b t) = subst (Takes (OneOf k) ts) (ok_is (t.token, t.rest) x t.then) (record { text = t.token ∷ []; parts = t.eaten.parts; is = (t.eaten.kind, refl) })
wants_ok k ts x (at_limit o b s) = absurd cc
wants_ok k ts x (past h) = absurd cc

wants_err : (k : Kind) (ts : List Token) (e : Stuck) → Went {A = Token} false true k (λ t. give t) refuse ts (Err e) → Bad (length ts) ≡ e
wants_err k ts e (in_sign o b t) = absurd (let q = t.then in cc)
wants_err k ts e (at_limit o b s) = absurd cc
wants_err k ts e (past h) = cc

bad_here : {A : Type 0} (L M : Lang A) (ts : List Token) → Fails L M ts (Bad (length ts))
bad_here L M ts = record { front = []; back = ts; parts = refl; len = refl; viable = tt; deeper = λ d. absurd d }

pub exact_wants : (k : Kind) → Sure (wants k) Always (OneOf k) (OneOf k)
exact_wants k = record {
  exact = record {
    sound = λ ts x h. wants_ok k ts x (went false true k (λ t. give t) refuse ts (Ok x) h);
    complete = λ t s rest h e. rw (h.1, eat-here k t rest h.0) refl;
    fails = λ ts e h. subst (Fails (OneOf k) (OneOf k) ts) (wants_err k ts e (went false true k (λ t. give t) refuse ts (Err e) h)) (bad_here (OneOf k) (OneOf k) ts);
    wider = λ a s h. h;
  };
  some = a_kind k;
}

-- ---- nothing

abbrev pub Nothing : {A : Type 0} → A → Lang A
Nothing x y s = (y ≡ x) × (s ≡ [])

pub exact_give : {A : Type 0} (x : A) (E : After A) → Sure (give x) E (Nothing x) (Nothing x)
exact_give x E = record {
  exact = record {
    sound = λ ts y h. let e = ok_is (x, ts) y h in record { text = []; parts = ap (λ (z : _ × List Token). z.1) e; is = (ap (λ (z : _ × List Token). z.0) (sym e), refl) };
    complete = λ a s rest h e. rw (h.0, h.1) refl;
    fails = λ ts e h. absurd cc;
    wider = λ a s h. h;
  };
  some = record { rest = []; value = x; is = (refl, refl) };
}

-- ---- one after the other

abbrev pub Seq : {A B : Type 0} → Lang A → (A → Lang B) → Lang B
Seq {A} L K b s = (a : A) × (p : List Token) × (q : List Token) × (s ≡ p ++ q) × L a p × K a b q

pub begins_first : {A B : Type 0} (L : Lang A) (K : A → Lang B) → ((a : A) → Begins (K a) []) → (f : List Token) → Begins L f → Begins (Seq L K) f
begins_first L K some f b =
    let k = some b.value in
    record { rest = b.rest ++ k.rest; value = k.value; is = (b.value, f ++ b.rest, k.rest, sym (append_assoc f b.rest k.rest), b.is, k.is) }

begins_second : {A B : Type 0} (L : Lang A) (K : A → Lang B) (a : A) (s : List Token) → L a s → (f : List Token) → Begins (K a) f → Begins (Seq L K) (s ++ f)
begins_second L K a s h f b = record { rest = b.rest; value = b.value; is = (a, s, f ++ b.rest, append_assoc s f b.rest, h, b.is) }

module _ {A B : Type 0} (f : Reader A) (g : A → Reader B) (e : After A) (e' : After B) (L M : Lang A) (K N : A → Lang B) (x : Exact f e L M) (y : (a : A) → Sure (g a) e' (K a) (N a))
    (follow : (a : A) (b : B) (s rest : List Token) → K a b s → e' b rest → e a (s ++ rest)) where
  more : (a : A) → Begins (N a) []
  more a = begins_wider (K a) (N a) ((y a).exact.wider) [] (y a).some

  fails_first : (ts : List Token) (d : Stuck) → Fails L M ts d → Fails (Seq L K) (Seq M N) ts d
  fails_first ts d s = record {
    front = s.front;
    back = s.back;
    parts = s.parts;
    len = s.len;
    viable = front_map L (Seq L K) (begins_first L K (λ a. (y a).some)) s.front s.viable;
    deeper = λ deep. let w = s.deeper deep in record { token = w.token; after = w.after; parts = w.parts; begins = begins_first M N more (s.front ++ w.token ∷ []) w.begins };
  }

  fails_second : (ts : List Token) (d : Stuck) (p : A × List Token) → Takes L ts p → Fails (K p.0) (N p.0) p.1 d → Fails (Seq L K) (Seq M N) ts d
  fails_second ts d p s t = record {
    front = s.text ++ t.front;
    back = t.back;
    parts = s.parts ∙ ap (λ (l : List Token). s.text ++ l) t.parts ∙ sym (append_assoc s.text t.front t.back);
    len = t.len;
    viable = to_front (Seq L K) (s.text ++ t.front) (begins_second L K p.0 s.text s.is t.front (to_begins (K p.0) (y p.0).some t.front t.viable));
    deeper = λ deep. let w = t.deeper deep in record {
      token = w.token;
      after = w.after;
      parts = w.parts;
      begins = subst (Begins (Seq M N)) (sym (append_assoc s.text t.front (w.token ∷ []))) (begins_second M N p.0 s.text (x.wider p.0 s.text s.is) (t.front ++ w.token ∷ []) w.begins);
    };
  }

  pub exact_then : Exact (and_then f g) e' (Seq L K) (Seq M N)
  exact_then = record {
    sound = λ ts z h.
        let p = bind_ok (f ts) (λ v. g v.0 v.1) z h in
        let s = x.sound ts p.0 p.1 in
        let t = (y p.0.0).exact.sound p.0.1 z p.2 in
        record { text = s.text ++ t.text; parts = s.parts ∙ ap (λ (l : List Token). s.text ++ l) t.parts ∙ sym (append_assoc s.text t.text z.1); is = (p.0.0, s.text, t.text, refl, s.is, t.is) };
    complete = λ b s rest h end.
        let at : and_then f g (s ++ rest) ≡ and_then f g (h.1 ++ (h.2 ++ rest)) = ap (and_then f g) (ap (λ (l : List Token). l ++ rest) h.3 ∙ append_assoc h.1 h.2 rest) in
        at ∙ ap (λ (v : Got A). v >>= λ w. g w.0 w.1) (x.complete h.0 h.1 (h.2 ++ rest) h.4 (follow h.0 b h.2 rest h.5 end)) ∙ (y h.0).exact.complete b h.2 rest h.5 end;
    fails = λ ts d h. elim (bind_err (f ts) (λ v. g v.0 v.1) d h) [
      | inl q ↦ fails_first ts d (x.fails ts d q)
      | inr p ↦ fails_second ts d p.0 (x.sound ts p.0 p.1) ((y p.0.0).exact.fails p.0.1 d p.2)
    ];
    wider = λ b s h. (h.0, h.1, h.2, h.3, x.wider h.0 h.1 h.4, (y h.0).exact.wider b h.2 h.5);
  }

  pub sure_then : Begins L [] → Sure (and_then f g) e' (Seq L K) (Seq M N)
  sure_then some = record { exact = exact_then; some = begins_first L K (λ a. (y a).some) [] some }

-- ---- by the token at the front

abbrev pub Sign : {A : Type 0} → Bool → Bool → Kind → (Token → Lang A) → Lang A → Lang A
Sign shut roomy k F G a s = ((shut ≡ false) × (roomy ≡ true) × (t : Token) × (u : List Token) × (s ≡ t ∷ u) × (t.kind ≡ k) × F t a u) ⊎ G a s

module _ {A : Type 0} (o b : Bool) (k : Kind) (f : Token → Reader A) (g : Reader A) (e : After A) (F H : Token → Lang A) (G K : Lang A)
    (x : b ≡ true → (t : Token) → Sure (f t) e (F t) (H t)) (some : (t : Token) → Begins (H t) []) (y : Exact g e G K)
    (other : o ≡ false → (a : A) (s rest : List Token) → G a s → e a rest → eat k (s ++ rest) ≡ None) where
  begins_sign : o ≡ false → b ≡ true → (t : Token) → t.kind ≡ k → (f : List Token) → Begins (F t) f → Begins (Sign o b k F G) (t ∷ f)
  begins_sign q p t h f c = record { rest = c.rest; value = c.value; is = inl (q, p, t, f ++ c.rest, refl, h, c.is) }

  begins_either : o ≡ false → (t : Token) → t.kind ≡ k → (f : List Token) → Begins (H t) f → Begins (Sign o true k H K) (t ∷ f)
  begins_either q t h f c = record { rest = c.rest; value = c.value; is = inl (q, refl, t, f ++ c.rest, refl, h, c.is) }

  begins_other : (f : List Token) → Begins G f → Begins (Sign o b k F G) f
  begins_other f c = record { rest = c.rest; value = c.value; is = inr c.is }

  begins_past : (f : List Token) → Begins K f → Begins (Sign o true k H K) f
  begins_past f c = record { rest = c.rest; value = c.value; is = inr c.is }

  sign_sound : (ts : List Token) (z : A × List Token) → Went o b k f g ts (Ok z) → Takes (Sign o b k F G) ts z
  sign_sound ts z (in_sign q p t) =
      let s = (x p t.token).exact.sound t.rest z t.then in
      record { text = t.token ∷ s.text; parts = t.eaten.parts ∙ ap (λ (l : List Token). t.token ∷ l) s.parts; is = inl (q, p, t.token, s.text, refl, t.eaten.kind, s.is) }
  sign_sound ts z (at_limit q p s) = absurd (let w = s.is in cc)
  sign_sound ts z (past h) = let s = y.sound ts z h in record { text = s.text; parts = s.parts; is = inr s.is }

  sign_fails : (ts : List Token) (d : Stuck) → Went o b k f g ts (Err d) → Fails (Sign o b k F G) (Sign o true k H K) ts d
  sign_fails ts d (in_sign q p t) =
      let s = (x p t.token).exact.fails t.rest d t.then in
      record {
        front = t.token ∷ s.front;
        back = s.back;
        parts = t.eaten.parts ∙ ap (λ (l : List Token). t.token ∷ l) s.parts;
        len = s.len;
        viable = begins_sign q p t.token t.eaten.kind s.front (to_begins (F t.token) (x p t.token).some s.front s.viable);
        deeper = λ deep. let w = s.deeper deep in record { token = w.token; after = w.after; parts = w.parts; begins = begins_either q t.token t.eaten.kind (s.front ++ w.token ∷ []) w.begins };
      }
  sign_fails ts d (at_limit q p s) =
      let is : d ≡ Deep (length ts) = (let w = s.is in cc) in
      subst (Fails (Sign o b k F G) (Sign o true k H K) ts) (sym is) (record {
        front = [];
        back = ts;
        parts = refl;
        len = refl;
        viable = tt;
        deeper = λ deep. record { token = s.token; after = s.rest; parts = s.eaten.parts; begins = begins_either q s.token s.eaten.kind [] (some s.token) };
      })
  sign_fails ts d (past h) =
      let s = y.fails ts d h in
      record {
        front = s.front;
        back = s.back;
        parts = s.parts;
        len = s.len;
        viable = front_map G (Sign o b k F G) begins_other s.front s.viable;
        deeper = λ deep. let w = s.deeper deep in record { token = w.token; after = w.after; parts = w.parts; begins = begins_past (s.front ++ w.token ∷ []) w.begins };
      }

  sign_in : o ≡ false → b ≡ true → (t : Token) (us : List Token) → t.kind ≡ k → sign o b k f g (t ∷ us) ≡ f t us
  sign_in q p t us h = rw (q, eat-here k t us h, p) refl

  sign_past : (p : Bool) → o ≡ p → (us : List Token) → (p ≡ false → eat k us ≡ None) → sign o b k f g us ≡ g us
  sign_past true q us h = rw q refl
  sign_past false q us h = rw (q, h refl) refl

  pub exact_sign : Exact (sign o b k f g) e (Sign o b k F G) (Sign o true k H K)
  exact_sign = record {
    sound = λ ts z h. sign_sound ts z (went o b k f g ts (Ok z) h);
    complete = λ a s rest h end. elim h [
      | inl t ↦ ap (λ (l : List Token). sign o b k f g (l ++ rest)) t.4 ∙ sign_in t.0 t.1 t.2 (t.3 ++ rest) t.5 ∙ (x t.1 t.2).exact.complete a t.3 rest t.6 end
      | inr q ↦ sign_past o refl (s ++ rest) (λ p. other p a s rest q end) ∙ y.complete a s rest q end
    ];
    fails = λ ts d h. sign_fails ts d (went o b k f g ts (Err d) h);
    wider = λ a s h. elim h [
      | inl t ↦ inl (t.0, refl, t.2, t.3, t.4, t.5, (x t.1 t.2).exact.wider a t.3 t.6)
      | inr q ↦ inr (y.wider a s q)
    ];
  }

  pub sure_sign : Begins G [] → Sure (sign o b k f g) e (Sign o b k F G) (Sign o true k H K)
  sure_sign c = record { exact = exact_sign; some = begins_other [] c }

-- ---- no way on

abbrev pub Never : {A : Type 0} → Lang A
Never a s = ⊥

pub exact_refuse : {A : Type 0} (E : After A) → Exact (refuse {A = A}) E Never Never
exact_refuse {A} E = record {
  sound = λ ts x h. absurd cc;
  complete = λ a s rest h e. absurd h;
  fails = λ ts e h. let q : Bad (length ts) ≡ e = cc in subst (Fails {A = A} Never Never ts) q (bad_here Never Never ts);
  wider = λ a s h. h;
}

-- ---- the same reader, for another word of the same language

pub exact_as : {A : Type 0} (f : Reader A) (E : After A) (L M K N : Lang A) → ((a : A) (s : List Token) → L a s → K a s) → ((a : A) (s : List Token) → K a s → L a s) → ((a : A) (s : List Token) → M a s → N a s) → Exact f E L M → Exact f E K N
exact_as f E L M K N to from too x = record {
  sound = λ ts z h. let s = x.sound ts z h in record { text = s.text; parts = s.parts; is = to z.0 s.text s.is };
  complete = λ a s rest h end. x.complete a s rest (from a s h) end;
  fails = λ ts d h. let s = x.fails ts d h in record {
    front = s.front;
    back = s.back;
    parts = s.parts;
    len = s.len;
    viable = front_map L K (begins_wider L K to) s.front s.viable;
    deeper = λ deep. let w = s.deeper deep in record { token = w.token; after = w.after; parts = w.parts; begins = begins_wider M N too (s.front ++ w.token ∷ []) w.begins };
  };
  wider = λ a s h. too a s (x.wider a s (from a s h));
}

-- before less
pub exact_before : {A : Type 0} (f : Reader A) (E D : After A) (L M : Lang A) → ((a : A) (rest : List Token) → D a rest → E a rest) → Exact f E L M → Exact f D L M
exact_before f E D L M less x = record { sound = x.sound; complete = λ a s rest h d. x.complete a s rest h (less a rest d); fails = x.fails; wider = x.wider }

-- ---- items with signs between them

-- what a list of items is spelled by; ends says of an item that none may follow it
abbrev pub Items : {A : Type 0} → (A → Bool) → Kind → Lang A → Lang (List A)
Items ends k L [] s = ⊥
Items ends k L (x ∷ []) s = L x s
Items ends k L (x ∷ y ∷ ys) s = (a : List Token) × (t : Token) × (b : List Token) × (s ≡ a ++ t ∷ b) × L x a × (t.kind ≡ k) × (ends x ≡ false) × Items ends k L (y ∷ ys) b

abbrev pub AfterItems : {A : Type 0} → (A → Bool) → Kind → After A → After (List A)
AfterItems ends k E [] rest = Unit {0}
AfterItems ends k E (x ∷ []) rest = E x rest × (ends x ≡ false → eat k rest ≡ None)
AfterItems ends k E (x ∷ y ∷ ys) rest = AfterItems ends k E (y ∷ ys) rest

module _ {A : Type 0} (ends : A → Bool) (k : Kind) (f : Reader A) (E : After A) (L M : Lang A) (x : Exact f E L M) (some : Begins L []) (before : (a : A) (t : Token) (r : List Token) → ends a ≡ false → t.kind ≡ k → E a (t ∷ r)) where
  items_more : (a : A) (xs : List A) (p : List Token) (t : Token) (q : List Token) → L a p → t.kind ≡ k → ends a ≡ false → Items ends k L xs q → Items ends k L (a ∷ xs) (p ++ t ∷ q)
  items_more a [] p t q h i o r = absurd r
  items_more a (b ∷ xs) p t q h i o r = (p, t, q, refl, h, i, o, r)

  items_wider : (xs : List A) (s : List Token) → Items ends k L xs s → Items ends k M xs s
  items_wider [] s h = h
  items_wider (a ∷ []) s h = x.wider a s h
  items_wider (a ∷ b ∷ xs) s h = (h.0, h.1, h.2, h.3, x.wider a h.0 h.4, h.5, h.6, items_wider (b ∷ xs) h.2 h.7)

  begins_one : (K : Lang A) (f : List Token) → Begins K f → Begins (Items ends k K) f
  begins_one K f b = record { rest = b.rest; value = b.value ∷ []; is = b.is }

  begins_more : (a : A) (p : List Token) (t : Token) → L a p → t.kind ≡ k → ends a ≡ false → (f : List Token) → Begins (Items ends k L) f → Begins (Items ends k L) ((p ++ t ∷ []) ++ f)
  begins_more a p t h i o f b = record {
    rest = b.rest;
    value = a ∷ b.value;
    is = subst (Items ends k L (a ∷ b.value)) (sym (ap (λ (l : List Token). l ++ b.rest) (append_assoc p (t ∷ []) f) ∙ append_assoc p (t ∷ f) b.rest)) (items_more a b.value p t (f ++ b.rest) h i o b.is);
  }

  pub some_items : Begins (Items ends k L) []
  some_items = begins_one L [] some

  -- the text around a sign
  around : (p us ts q rest : List Token) (t : Token) → ts ≡ p ++ us → us ≡ t ∷ (q ++ rest) → ts ≡ (p ++ t ∷ q) ++ rest
  around p us ts q rest t e g = e ∙ ap (λ (l : List Token). p ++ l) g ∙ sym (append_assoc p (t ∷ q) rest)

  -- what follows an item
  next : (n : ℕ) → A → Token → Reader (List A)
  next n a t = and_then (separated ends f k n) (λ xs. give (a ∷ xs))

  item_sound : (n : ℕ) → ((ts : List Token) (z : List A × List Token) → separated ends f k n ts ≡ Ok z → Takes (Items ends k L) ts z)
      → (ts us : List Token) (a : A) → Takes L ts (a, us) → (z : List A × List Token) → Went (ends a) true k (λ _. and_then (separated ends f k n) (λ xs. give (a ∷ xs))) (give (a ∷ [])) us (Ok z) → Takes (Items ends k L) ts z
  item_sound n again ts us a s z (in_sign o b t) =
      let q = bind_ok (separated ends f k n t.rest) (λ xs. give (a ∷ xs.0) xs.1) z t.then in
      let m = again t.rest q.0 q.1 in
      subst (Takes (Items ends k L) ts) (ok_is (a ∷ q.0.0, q.0.1) z q.2) (record {
        text = s.text ++ t.token ∷ m.text;
        parts = around s.text us ts m.text q.0.1 t.token s.parts (t.eaten.parts ∙ ap (λ (l : List Token). t.token ∷ l) m.parts);
        is = items_more a q.0.0 s.text t.token m.text s.is t.eaten.kind o m.is;
      })
  item_sound n again ts us a s z (at_limit o b h) = absurd cc
  item_sound n again ts us a s z (past h) = subst (Takes (Items ends k L) ts) (ok_is (a ∷ [], us) z h) (record { text = s.text; parts = s.parts; is = s.is })

  separated_sound : (n : ℕ) (ts : List Token) (z : List A × List Token) → separated ends f k n ts ≡ Ok z → Takes (Items ends k L) ts z
  unfolding separated
  separated_sound zero ts z h = absurd cc
  separated_sound (suc n) ts z h =
      let p = bind_ok (f ts) (λ v. sign (ends v.0) true k (λ _. and_then (separated ends f k n) (λ xs. give (v.0 ∷ xs))) (give (v.0 ∷ [])) v.1) z h in
      item_sound n (separated_sound n) ts p.0.1 p.0.0 (x.sound ts p.0 p.1) z (went (ends p.0.0) true k (λ _. and_then (separated ends f k n) (λ xs. give (p.0.0 ∷ xs))) (give (p.0.0 ∷ [])) p.0.1 (Ok z) p.2)

  fails_one : (ts : List Token) (d : Stuck) → Fails L M ts d → Fails (Items ends k L) (Items ends k M) ts d
  fails_one ts d s = record {
    front = s.front;
    back = s.back;
    parts = s.parts;
    len = s.len;
    viable = front_map L (Items ends k L) (begins_one L) s.front s.viable;
    deeper = λ deep. let w = s.deeper deep in record { token = w.token; after = w.after; parts = w.parts; begins = begins_one M (s.front ++ w.token ∷ []) w.begins };
  }

  wide_more : (a : A) (xs : List A) (p : List Token) (t : Token) (q : List Token) → M a p → t.kind ≡ k → ends a ≡ false → Items ends k M xs q → Items ends k M (a ∷ xs) (p ++ t ∷ q)
  wide_more a [] p t q h i o r = absurd r
  wide_more a (b ∷ xs) p t q h i o r = (p, t, q, refl, h, i, o, r)

  item_fails : (n : ℕ) → ((ts : List Token) (d : Stuck) → separated ends f k n ts ≡ Err d → Fails (Items ends k L) (Items ends k M) ts d)
      → (ts us : List Token) (a : A) → Takes L ts (a, us) → (d : Stuck) → Went (ends a) true k (λ _. and_then (separated ends f k n) (λ xs. give (a ∷ xs))) (give (a ∷ [])) us (Err d) → Fails (Items ends k L) (Items ends k M) ts d
  item_fails n again ts us a s d (in_sign o b t) = elim (bind_err (separated ends f k n t.rest) (λ xs. give (a ∷ xs.0) xs.1) d t.then) [
    | inl q ↦
        let m = again t.rest d q in
        record {
          front = (s.text ++ t.token ∷ []) ++ m.front;
          back = m.back;
          parts = s.parts ∙ ap (λ (l : List Token). s.text ++ l) (t.eaten.parts ∙ ap (λ (l : List Token). t.token ∷ l) m.parts) ∙ sym (ap (λ (l : List Token). l ++ m.back) (append_assoc s.text (t.token ∷ []) m.front) ∙ append_assoc s.text (t.token ∷ m.front) m.back);
          len = m.len;
          viable = to_front (Items ends k L) ((s.text ++ t.token ∷ []) ++ m.front) (begins_more a s.text t.token s.is t.eaten.kind o m.front (to_begins (Items ends k L) some_items m.front m.viable));
          deeper = λ deep. let w = m.deeper deep in record {
            token = w.token;
            after = w.after;
            parts = w.parts;
            begins = record {
              rest = w.begins.rest;
              value = a ∷ w.begins.value;
              is = subst (Items ends k M (a ∷ w.begins.value)) (sym (ap (λ (l : List Token). l ++ w.begins.rest) (ap (λ (l : List Token). l ++ w.token ∷ []) (append_assoc s.text (t.token ∷ []) m.front) ∙ append_assoc s.text (t.token ∷ m.front) (w.token ∷ [])) ∙ append_assoc s.text (t.token ∷ (m.front ++ w.token ∷ [])) w.begins.rest))
                  (wide_more a w.begins.value s.text t.token ((m.front ++ w.token ∷ []) ++ w.begins.rest) (x.wider a s.text s.is) t.eaten.kind o w.begins.is);
            };
          };
        }
    | inr g ↦ absurd (let z = g.2 in cc)
  ]
  item_fails n again ts us a s d (at_limit o b h) = absurd cc
  item_fails n again ts us a s d (past h) = absurd cc

  separated_fails : (n : ℕ) (ts : List Token) (d : Stuck) → separated ends f k n ts ≡ Err d → Fails (Items ends k L) (Items ends k M) ts d
  unfolding separated
  separated_fails zero ts d h = let q : Bad (length ts) ≡ d = cc in subst (Fails (Items ends k L) (Items ends k M) ts) q (bad_here (Items ends k L) (Items ends k M) ts)
  separated_fails (suc n) ts d h = elim (bind_err (f ts) (λ v. sign (ends v.0) true k (λ _. and_then (separated ends f k n) (λ xs. give (v.0 ∷ xs))) (give (v.0 ∷ [])) v.1) d h) [
    | inl q ↦ fails_one ts d (x.fails ts d q)
    | inr p ↦ item_fails n (separated_fails n) ts p.0.1 p.0.0 (x.sound ts p.0 p.1) d (went (ends p.0.0) true k (λ _. and_then (separated ends f k n) (λ xs. give (p.0.0 ∷ xs))) (give (p.0.0 ∷ [])) p.0.1 (Err d) p.2)
  ]

  last_reads : (o : Bool) (a : A) (n : ℕ) (rest : List Token) → (o ≡ false → eat k rest ≡ None) → cond o (give (a ∷ []) rest) (on (eat k rest) (λ t. and_then (separated ends f k n) (λ xs. give (a ∷ xs)) t.1) (give (a ∷ []) rest)) ≡ Ok (a ∷ [], rest)
  last_reads true a n rest h = refl
  last_reads false a n rest h = rw (h refl) refl

  separated_complete : (xs : List A) (s rest : List Token) (n : ℕ) → Items ends k L xs s → AfterItems ends k E xs rest → length s < n → separated ends f k n (s ++ rest) ≡ Ok (xs, rest)
  unfolding separated
  separated_complete [] s rest n h e lt = absurd h
  separated_complete (a ∷ xs) s rest zero h e lt = absurd (omega arith)
  separated_complete (a ∷ []) s rest (suc n) h e lt = rw (x.complete a s rest h e.0) (last_reads (ends a) a n rest e.1)
  separated_complete (a ∷ b ∷ xs) s rest (suc n) h e lt =
      let p = h.0 in
      let t = h.1 in
      let q = h.2 in
      let len = ap length h.3 ∙ length-append p (t ∷ q) in
      let at : s ++ rest ≡ p ++ (t ∷ (q ++ rest)) = ap (λ (l : List Token). l ++ rest) h.3 ∙ append_assoc p (t ∷ q) rest in
      let one = x.complete a p (t ∷ (q ++ rest)) h.4 (before a t (q ++ rest) h.6 h.5) in
      let others = separated_complete (b ∷ xs) q rest n h.7 e (omega arith) in
      let not_last = h.6 in
      let here = eat-here k t (q ++ rest) h.5 in
      ap (λ (l : List Token). separated ends f k (suc n) l) at ∙ rw (one, not_last, here, others) refl

  pub exact_items : Exact (all_separated ends f k) (AfterItems ends k E) (Items ends k L) (Items ends k M)
  unfolding all_separated
  exact_items = record {
    sound = λ ts z h. separated_sound (length ts + 1) ts z h;
    complete = λ xs s rest h e. let len = length-append s rest in separated_complete xs s rest (length (s ++ rest) + 1) h e (omega arith);
    fails = λ ts d h. separated_fails (length ts + 1) ts d h;
    wider = items_wider;
  }

  pub sure_items : Sure (all_separated ends f k) (AfterItems ends k E) (Items ends k L) (Items ends k M)
  sure_items = record { exact = exact_items; some = some_items }

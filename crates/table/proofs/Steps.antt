-- How steps follow one another: the laws of Refines, and of the answers that are nodes. Nothing written is a step (refines_now); a step goes on to another (refines_on), where
-- the answer is a number (refines_then) or ends there (refines_stop); what f says may be said otherwise (refines_is). Assumes nothing.
use Rattle.std.specs.Prelude.{Option, None, Some}
use mathlib.Core.Path.{◌≡◌, refl, sym, ap, ◌∙◌, subst}
use mathlib.Core.List.{List, [], ◌++◌, append-nil, append_assoc}
use Prim.Native.Nat.{ℕ, ◌<◌}
use native.Mathlib.Omega.{arith}
use Rattle.definition.specs.Types.{State, Struct, Result, ok, err, refused, ◌>>=◌}
use Rattle.definition.specs.Store.{with_structs}
use Rattle.table.specs.State.{Lay, Front, Grown, Any, Refines, When, After, NodesIn, VarIn, outcome, listed, seen, view, done}
use Rattle.table.specs.Out.{Outcome}
use Rattle.table.specs.declared.Used.{Used}
use Rattle.table.specs.Out.{Out}
use Rattle.table.specs.declared.state.Stop.TheVariants.{Failed, Refused}
use Rattle.std.specs.Prelude.{Ok, Err}

-- ---- states that have grown

pub front_refl : {A : Type 0} (l : List A) → Front l l
front_refl l = record { rest = []; is = sym (append-nil l) }

pub front_is : {A : Type 0} (l m : List A) → m ≡ l → Front l m
front_is l m e = record { rest = []; is = e ∙ sym (append-nil l) }

front_trans : {A : Type 0} {l m n : List A} → Front l m → Front m n → Front l n
front_trans {l = l} a b = record { rest = a.rest ++ b.rest; is = b.is ∙ ap (λ (k : List _). k ++ b.rest) a.is ∙ append_assoc l a.rest b.rest }

pub grown_refl : (s : State) → Grown s s
grown_refl s = record { nodes = front_refl s.nodes; args = front_refl s.args; vars = omega arith; constraints = front_refl s.constraints; structs = front_refl s.structs }

pub grown_trans : (s t v : State) → Grown s t → Grown t v → Grown s v
grown_trans s t v a b =
    let x = a.vars in
    let y = b.vars in
    record {
      nodes = front_trans a.nodes b.nodes;
      args = front_trans a.args b.args;
      vars = omega arith;
      constraints = front_trans a.constraints b.constraints;
      structs = front_trans a.structs b.structs;
    }

-- ---- what an answer is

never : {A : Type 0} → ◌≡◌ {A = ℕ} 0 1 → A
never z = absurd (omega arith)

pub done_is : (o : Out) (t : ℕ) → done o ≡ Some t → o ≡ Ok t
done_is (Ok n) t e = cc
done_is (Err (Failed x)) t e = never (cc)
done_is (Err (Refused x)) t e = never (cc)

-- a result that is no error names no types
abbrev pub NoError : {A : Type 0} → Result A → Type 0
NoError (ok a) = Unit {0}
NoError (err s e) = ⊥
NoError (refused x) = Unit {0}

pub none_in : (n : ℕ) (o : Out) (s : State) (m : Result (State × ℕ)) → outcome o s ≡ m → NoError m → done o ≡ None → NodesIn n o
unfolding outcome
none_in n (Ok t) s m e q d = never (cc)
none_in n (Err (Failed x)) s m e q d = absurd (rw (← e) at q)
none_in n (Err (Refused x)) s m e q d = tt

-- a node that an answer is, and a variable
pub node_in : (n : ℕ) (o : Out) (b : Option ℕ) (t : ℕ) → NodesIn n o → b ≡ done o → b ≡ Some t → t < n
node_in n o b t i p q = rw (done_is o t (sym p ∙ q)) at i

pub var_in : (n : ℕ) (o : Out) (b : Option ℕ) (t : ℕ) → VarIn n o → b ≡ done o → b ≡ Some t → t < n
var_in n o b t i p q = rw (done_is o t (sym p ∙ q)) at i

-- ---- what follows a result

pub bind_ok : {A : Type 0} (m : Result A) → (m >>= (λ a. ok a)) ≡ m
unfolding ◌>>=◌
bind_ok (ok a) = refl
bind_ok (err s e) = refl
bind_ok (refused x) = refl

pub bind_assoc : {A B C : Type 0} (m : Result A) (f : A → Result B) (g : B → Result C) → (m >>= f >>= g) ≡ (m >>= (λ a. f a >>= g))
unfolding ◌>>=◌
bind_assoc (ok a) f g = refl
bind_assoc (err s e) f g = refl
bind_assoc (refused x) f g = refl

-- an answer that is the number t, and what follows it
pub done_ok : (o : Out) (s : State) (t : ℕ) → done o ≡ Some t → ok (s, t) ≡ outcome o s
unfolding outcome
done_ok o s t e = rw (done_is o t e)

pub then_is : {A : Type 0} (o : Out) (s : State) (h : State × ℕ → Result A) (t : ℕ) → done o ≡ Some t → h (s, t) ≡ (outcome o s >>= h)
unfolding ◌>>=◌
then_is o s h t e = ap (λ (m : Result (State × ℕ)). m >>= h) (done_ok o s t e)

-- nothing follows one that is no number, whatever it were
pub stop_same : {A : Type 0} (o : Out) (s : State) (h k : State × ℕ → Result A) → done o ≡ None → (outcome o s >>= h) ≡ (outcome o s >>= k)
unfolding outcome ◌>>=◌
stop_same (Ok t) s h k e = never (cc)
stop_same (Err (Failed x)) s h k e = refl
stop_same (Err (Refused x)) s h k e = refl

pub stop_is : (o : Out) (s : State) (h : State × ℕ → Result (State × ℕ)) → done o ≡ None → outcome o s ≡ (outcome o s >>= h)
stop_is o s h e = sym (bind_ok (outcome o s)) ∙ stop_same o s (λ x. ok x) h e

-- .. with a list
pub listed_stop : (o : Out) (l : List ℕ) (s : State) (h : State × List ℕ → Result (State × ℕ)) → done o ≡ None → outcome o s ≡ (listed o l s >>= h)
unfolding listed
listed_stop o l s h e = stop_is o s (λ x. ok (x.0, l) >>= h) e ∙ sym (bind_assoc (outcome o s) (λ x. ok (x.0, l)) h)

pub listed_then : (o : Out) (l : List ℕ) (s : State) (h : State × List ℕ → Result (State × ℕ)) (t : ℕ) → done o ≡ Some t → h (s, l) ≡ (listed o l s >>= h)
unfolding listed ◌>>=◌
listed_then o l s h t e = ap (λ (m : Result (State × ℕ)). m >>= (λ x. ok (x.0, l)) >>= h) (done_ok o s t e)

-- ---- the laws

module _ {A : Type 0} {K : List Struct → Type 0} {w : List ℕ} {u : Used} where
  pub refines_now : {answer f : State → A} → Lay w u → ((ds : List Struct) → K ds → answer (seen w u ds) ≡ f (seen w u ds)) → Refines K w u w u answer f
  refines_now h e = record { lay = h; grown = grown_refl (view w u); structs = refl; is = e }

  module _ {w' : List ℕ} {u' : Used} {answer f : State → A} where
    -- the words hold the state t
    pub refines_by : (t : State) → Lay w' u' → view w' u' ≡ t → Grown (view w u) t → t.structs ≡ (view w u).structs → ((ds : List Struct) → K ds → answer (with_structs t ds) ≡ f (seen w u ds)) → Refines K w u w' u' answer f
    unfolding seen
    refines_by t l e g s q =
        record { lay = l; grown = subst (λ (x : State). Grown (view w u) x) (sym e) g; structs = ap (λ (x : State). x.structs) e ∙ s; is = λ ds k. ap (λ (x : State). answer (with_structs x ds)) e ∙ q ds k }

    pub refines_is : {g : State → A} → ((ds : List Struct) → K ds → f (seen w u ds) ≡ g (seen w u ds)) → Refines K w u w' u' answer f → Refines K w u w' u' answer g
    refines_is e a = record { lay = a.lay; grown = a.grown; structs = a.structs; is = λ ds k. a.is ds k ∙ e ds k }

    -- fewer declarations
    pub refines_among : {K' : List Struct → Type 0} → ((ds : List Struct) → K' ds → K ds) → Refines K w u w' u' answer f → Refines K' w u w' u' answer f
    refines_among z a = record { lay = a.lay; grown = a.grown; structs = a.structs; is = λ ds k. a.is ds (z ds k) }

    module _ {B : Type 0} {answer₂ : State → B} (j : A → B) (a : Refines K w u w' u' answer f) where
      -- another step makes j of the answer
      pub refines_on : {w₂ : List ℕ} {u₂ : Used} → Refines K w' u' w₂ u₂ answer₂ (λ s. j (answer s)) → Refines K w u w₂ u₂ answer₂ (λ s. j (f s))
      refines_on n =
          record { lay = n.lay; grown = grown_trans _ _ _ a.grown n.grown; structs = n.structs ∙ a.structs; is = λ ds k. n.is ds k ∙ ap j (a.is ds k) }

      -- the answer is j of what it was
      pub refines_as : ((s : State) → answer₂ s ≡ j (answer s)) → Refines K w u w' u' answer₂ (λ s. j (f s))
      refines_as e = record { lay = a.lay; grown = a.grown; structs = a.structs; is = λ ds k. e (seen w' u' ds) ∙ ap j (a.is ds k) }

module _ {K : List Struct → Type 0} {w : List ℕ} {u : Used} {w' : List ℕ} {u' : Used} (o : Out) {f : State → Result (State × ℕ)} {b : (Option ℕ)} where
  -- no number, so nothing follows
  pub refines_stop : (h : State × ℕ → Result (State × ℕ)) → Refines K w u w' u' (outcome o) f → b ≡ done o → b ≡ None → Refines K w u w' u' (outcome o) (λ s. f s >>= h)
  refines_stop h a p q = refines_as (λ m. m >>= h) a (λ s. stop_is o s h (sym p ∙ q))

  module _ {w₂ : List ℕ} {u₂ : Used} {t : ℕ} where
    -- the number t, and j of it follows
    pub refines_number : {B : Type 0} {answer₂ : State → B} (j : Result (State × ℕ) → B) → Refines K w u w' u' (outcome o) f → b ≡ done o → b ≡ Some t → Refines K w' u' w₂ u₂ answer₂ (λ s. j (ok (s, t))) → Refines K w u w₂ u₂ answer₂ (λ s. j (f s))
    refines_number j a p q n = refines_on j a (refines_is (λ ds k. ap j (done_ok o (seen w' u' ds) t (sym p ∙ q))) n)

    pub refines_then : {B : Type 0} {answer₂ : State → Result B} (h : State × ℕ → Result B) → Refines K w u w' u' (outcome o) f → b ≡ done o → b ≡ Some t → Refines K w' u' w₂ u₂ answer₂ (λ s. h (s, t)) → Refines K w u w₂ u₂ answer₂ (λ s. f s >>= h)
    unfolding ◌>>=◌
    refines_then h a p q n = refines_number (λ m. m >>= h) a p q n

-- ---- the same, where the answer is a node

module _ {K : List Struct → Type 0} {w : List ℕ} {u : Used} where
  pub after_now : {o : Out} {f : State → Result (State × ℕ)} → Lay w u → NodesIn u.nodes o → ((ds : List Struct) → K ds → outcome o (seen w u ds) ≡ f (seen w u ds)) → When K w u w (record { out = o; used = u }) f
  after_now h i e = record { changed = refines_now h e; inside = i }

  module _ {w' : List ℕ} {r : Outcome} {f : State → Result (State × ℕ)} where
    pub after_is : {g : State → Result (State × ℕ)} → ((ds : List Struct) → K ds → f (seen w u ds) ≡ g (seen w u ds)) → When K w u w' r f → When K w u w' r g
    after_is e a = record { changed = refines_is e a.changed; inside = a.inside }

    pub after_among : {K' : List Struct → Type 0} → ((ds : List Struct) → K' ds → K ds) → When K w u w' r f → When K' w u w' r f
    after_among z a = record { changed = refines_among z a.changed; inside = a.inside }

    pub after_any : After w u w' r f → When K w u w' r f
    after_any a = record { changed = refines_among (λ ds k. tt) a.changed; inside = a.inside }

    pub after_stop : {b : (Option ℕ)} (h : State × ℕ → Result (State × ℕ)) → When K w u w' r f → b ≡ done r.out → b ≡ None → When K w u w' r (λ s. f s >>= h)
    after_stop h a p q = record { changed = refines_stop r.out h a.changed p q; inside = a.inside }

    pub after_done : {b : (Option ℕ)} {t : ℕ} → When K w u w' r f → b ≡ done r.out → b ≡ Some t → t < r.used.nodes
    after_done {b} {t} a p q = node_in r.used.nodes r.out b t a.inside p q

  module _ {w' : List ℕ} {u' : Used} {w₂ : List ℕ} {r : Outcome} where
    pub after_on : {A : Type 0} {answer f : State → A} (j : A → Result (State × ℕ)) → Refines K w u w' u' answer f → When K w' u' w₂ r (λ s. j (answer s)) → When K w u w₂ r (λ s. j (f s))
    after_on j a n = record { changed = refines_on j a n.changed; inside = n.inside }

    pub after_then : (o : Out) {f : State → Result (State × ℕ)} {b : (Option ℕ)} {t : ℕ} (h : State × ℕ → Result (State × ℕ)) → Refines K w u w' u' (outcome o) f → b ≡ done o → b ≡ Some t → When K w' u' w₂ r (λ s. h (s, t)) → When K w u w₂ r (λ s. f s >>= h)
    after_then o h a p q n = record { changed = refines_then o h a p q n.changed; inside = n.inside }

-- a step that meets no error names no types where it ends
pub plain_in : {w : List ℕ} {u : Used} {w' : List ℕ} {u' : Used} (o : Out) {f : State → Result (State × ℕ)} {b : (Option ℕ)} → Refines Any w u w' u' (outcome o) f → ((s : State) → NoError (f s)) → b ≡ done o → b ≡ None → NodesIn u'.nodes o
plain_in {w} {u} {w'} {u'} o {f} a e p q = none_in u'.nodes o (seen w' u' []) (f (seen w u [])) (a.is [] tt) (e (seen w u [])) (sym p ∙ q)

-- RD's run and CN's: what the answer spells, what it takes of the tables, and that it is refused with 7 just where that does not fit. Assumes nothing.
-- `Reads`: a run that adds so many nodes and argument places, or is refused for want of them. By the levels in which reading ends, two calls for each.
use mathlib.Core.Path.{◌≡◌, refl, sym, ap, ◌∙◌, subst}
use mathlib.Core.Bool.{Bool, true, false}
use mathlib.Core.List.{List, [], ◌∷◌}
use Rattle.std.specs.Prelude.{Option, None, Some, if◌then◌else◌}
use Prim.Native.Nat.{ℕ, zero, suc, ◌+◌, ◌*◌, ◌≤◌, ◌<◌}
use native.Mathlib.Omega.{arith}
use lib.ListN.{length, length-append}
use lib.Dec.{leb, leb→le}
use Rattle.definition.specs.Types.{AbilityMark, TypeName, TypeValue, UnitType, Ref, Param, Apply, Var, Anything, UnresolvedError, Builtin, Multiple, ModuleType, Spanned, Node, State, max_nodes, max_args, full, runs_into_itself, Result, ok, err, refused, ◌>>=◌}
use Rattle.definition.specs.Store.{count, taken, type_at, loc_of, spanned, get, args_of, with_node, sp, map_types, all_of}
use Rattle.definition.specs.Subst.{as_var, parts, forward_tvar, unfold_type, unfold_var, goes_on_to, ends_in, reaches_itself, ready_value, ready, ready_tvars}
use Rattle.definition.specs.Write.{Bytes, u16, u32, apply_head, head, each, write_down, write_spanned, write}
use Rattle.definition.specs.Canonical.{numbered, meet_in, Spelled, spell_each, spell, canonical}
use Rattle.definition.specs.Trees.{Tree, arity}
use Rattle.definition.specs.Build.{build}
use Rattle.definition.specs.Step.{run}
use Rattle.definition.specs.Sound.{sound}
use Rattle.theorems.specs.ReadySpelled.{Spelling, Located, Canonical, spelled_record, spelled, head_by, met_by, spelled_with, led_var, led, spell_led, led_bytes, total, summed, new_nodes, new_places, head_size, one, room_for, spell_ready, with_state}
use Rattle.theorems.proofs.Laws.{count_with_node, get_with_node, node_old, node_new, value_new}
use Rattle.theorems.proofs.LawsChains.{ends_same}
use Rattle.theorems.proofs.DemandTracks.{never, ends_stop, ends_det, k_any, k_var, k_solid, kind, solid_nonvar}
use Rattle.theorems.proofs.DemandOrder.{All, All_map, Sound, chain, ends_in as end_taken, bind_solid}
use Rattle.theorems.proofs.DemandSteps.{Quiet, quiet_refl, quiet_trans, NodeOk, quiet_node, sound_node}
use Rattle.theorems.proofs.DemandReading.{any_plain}
use Rattle.theorems.proofs.DemandCalls.{var_ok}
use Rattle.theorems.proofs.DemandWent.{WentTo, ref_ok, apply_ok}
use Rattle.theorems.proofs.DemandRuns.{place_went}
use Rattle.theorems.proofs.LawsPost.{Post, p_ok}
use Rattle.theorems.proofs.SoundRead.{Fine}
use Rattle.theorems.proofs.SoundFacts.{and_l, and_r, test, facts, not_false, elim_l, elim_r}
use Rattle.theorems.proofs.SoundRoom.{Room, room, no_room, sp_room}
use Rattle.theorems.proofs.Soundness.{IsSound, sound_is, and, le_test}

-- so many more nodes and argument places are within the limits
abbrev pub Fits : State → ℕ → ℕ → Type 0
Fits S nodes places = (count S + nodes ≤ max_nodes) × (length S.args + places ≤ max_args)

-- S' is S with nodes added
pub record Grown (ar : TypeName → ℕ) (S S' : State) : Type 0 where
  pub sound_after : Sound ar S'
  pub quiet : Quiet S S'
  pub same_get : (v : ℕ) → get S' v ≡ get S v

pub grown_refl : {ar : TypeName → ℕ} {S : State} → Sound ar S → Grown ar S S
grown_refl {S = S} s = record { sound_after = s; quiet = quiet_refl S; same_get = λ v. refl }

pub grown_trans : {ar : TypeName → ℕ} {S S' S'' : State} → Grown ar S S' → Grown ar S' S'' → Grown ar S S''
grown_trans a b = record { sound_after = b.sound_after; quiet = quiet_trans a.quiet b.quiet; same_get = λ v. b.same_get v ∙ a.same_get v }

pub grown_node : {ar : TypeName → ℕ} {S : State} → Sound ar S → (l : ℕ) (sh : TypeValue) → NodeOk ar S sh → Grown ar S (with_node S l sh)
grown_node {S = S} s l sh o = record { sound_after = sound_node s l sh o; quiet = quiet_node s l sh; same_get = get_with_node S l sh }

-- .. so many, and so many argument places
pub record Added (ar : TypeName → ℕ) (S S' : State) (nodes places : ℕ) : Type 0 where
  pub grown : Grown ar S S'
  pub same_loc : (i : ℕ) → i < count S → loc_of S' i ≡ loc_of S i
  pub nodes_are : count S' ≡ count S + nodes
  pub places_are : length S'.args ≡ length S.args + places
  pub within : Fits S 0 0 → Fits S' 0 0

pub added_refl : {ar : TypeName → ℕ} {S : State} → Sound ar S → Added ar S S 0 0
added_refl {S = S} s = record { grown = grown_refl s; same_loc = λ i h. refl; nodes_are = omega arith; places_are = omega arith; within = λ h. h }

pub added_trans : {ar : TypeName → ℕ} {S S' S'' : State} (n p n' p' : ℕ) → Added ar S S' n p → Added ar S' S'' n' p' → Added ar S S'' (n + n') (p + p')
added_trans n p n' p' a b = record {
  grown = grown_trans a.grown b.grown;
  same_loc = λ i h. b.same_loc i (omega (arith, a.grown.quiet.q_nodes)) ∙ a.same_loc i h;
  nodes_are = omega (arith, a.nodes_are, b.nodes_are);
  places_are = omega (arith, a.places_are, b.places_are);
  within = λ h. b.within (a.within h);
}

-- an outcome for which P holds, in the state with so many nodes and places added; or there is no room for them
pub data Reads {B : Type 0} (ar : TypeName → ℕ) (P : State → B → Type 0) (S : State) (nodes places : ℕ) : Result (State × B) → Type 0 where
  made : {S' : State} {x : B} → Added ar S S' nodes places → P S' x → Reads ar P S nodes places (ok (S', x))
  no_place : (Fits S nodes places → ⊥) → Reads ar P S nodes places (refused full)

-- ---- a spelling, part by part

pub each_same : (f g : List ℕ → ℕ → Spelled) (P : ℕ → Type 0) → ((met : List ℕ) (p : ℕ) → P p → f met p ≡ g met p) → (met ps : List ℕ) → All P ps → spell_each f met ps ≡ spell_each g met ps
unfolding spell_each
each_same f g P h met [] a = refl
each_same f g P h met (p ∷ ps) a = rw (h met p a.0, each_same f g P h (g met p).met ps a.1) refl

same_with : (how : Spelling) (f g : List ℕ → ℕ → Spelled) (P : ℕ → Type 0) → ((met : List ℕ) (p : ℕ) → P p → f met p ≡ g met p) → (met : List ℕ) (l : ℕ) (x : TypeValue) → All P (parts x) → spelled_with how f met l x ≡ spelled_with how g met l x
unfolding spelled_with
same_with how f g P h met l x a = rw (each_same f g P h (met_by how met x) (parts x) a) refl

-- .. of a type that stands in the state
unfoldable pub spell_down : Spelling → ℕ → State → List ℕ → ℕ → Spelled
spell_down how zero s met t = record { bytes = []; met = met }
spell_down how (suc n) s met t = spelled_with how (λ met p. spell_down how n s met p) met (loc_of s t) (type_at s t)

unfoldable pub as_it_stands : List ℕ → Bytes → Spelled
as_it_stands met b = record { bytes = b; met = met }

pub each_located : (f : List ℕ → ℕ → Spelled) (g : ℕ → Bytes) → ((met : List ℕ) (p : ℕ) → f met p ≡ as_it_stands met (g p)) → (met ps : List ℕ) → spell_each f met ps ≡ as_it_stands met (each g ps)
unfolding spell_each each as_it_stands
each_located f g h met [] = refl
each_located f g h met (p ∷ ps) = rw (h met p, each_located f g h met ps) refl

down_located : (n : ℕ) (s : State) (met : List ℕ) (t : ℕ) → spell_down Located n s met t ≡ as_it_stands met (write_down n s (spanned s t))
unfolding spell_down spelled_with head_by met_by write_down spanned as_it_stands
down_located zero s met t = refl
down_located (suc n) s met t = rw (each_located (λ m p. spell_down Located n s m p) (λ p. write_down n s (spanned s p)) (λ m p. down_located n s m p) met (parts (type_at s t))) refl

down_canonical : (n : ℕ) (s : State) (met : List ℕ) (t : ℕ) → spell_down Canonical n s met t ≡ spell n s met t
unfolding spell_down spelled_with head_by met_by spell
down_canonical zero s met t = refl
down_canonical (suc n) s met t = rw (each_same (λ m p. spell_down Canonical n s m p) (λ m p. spell n s m p) (λ p. Unit {0}) (λ m p i. down_canonical n s m p) (meet_in met (type_at s t)) (parts (type_at s t)) (always (parts (type_at s t)))) refl
  where
    always : (ps : List ℕ) → All (λ p. Unit {0}) ps
    always [] = tt
    always (p ∷ ps) = (tt, always ps)

-- in as many levels as there are nodes, and one
down_is : (how : Spelling) (s : State) (t : ℕ) → (spell_down how (suc (count s)) s [] t).bytes ≡ spelled how s t
unfolding spelled write write_spanned canonical as_it_stands
down_is Located s t = ap (λ (b : Spelled). b.bytes) (down_located (suc (count s)) s [] t)
down_is Canonical s t = ap (λ (b : Spelled). b.bytes) (down_canonical (suc (count s)) s [] t)

-- which nodes the parts are is no matter
module _ (f g : List ℕ → ℕ → Spelled) (met : List ℕ) (l : ℕ) where
  same_ref : (how : Spelling) (b : Bool) (u p : ℕ) → ((m : List ℕ) → spell_each f m (u ∷ []) ≡ spell_each g m (p ∷ [])) → spelled_with how f met l (Ref b u) ≡ spelled_with how g met l (Ref b p)
  unfolding spelled_with head_by met_by meet_in as_var parts numbered head
  same_ref Located b u p h = rw (h met) refl
  same_ref Canonical b u p h = rw (h met) refl

  same_apply : (how : Spelling) (k : AbilityMark) (n : TypeName) (us ts : List ℕ) → ((m : List ℕ) → spell_each f m us ≡ spell_each g m ts) → spelled_with how f met l (Apply k n us) ≡ spelled_with how g met l (Apply k n ts)
  unfolding spelled_with head_by met_by meet_in as_var parts numbered head
  same_apply Located k n us ts h = rw (h met) refl
  same_apply Canonical k n us ts h = rw (h met) refl

no_parts : (how : Spelling) (f g : List ℕ → ℕ → Spelled) (met : List ℕ) (l : ℕ) (x : TypeValue) → parts x ≡ [] → spelled_with how f met l x ≡ spelled_with how g met l x
unfolding spelled_with spell_each
no_parts how f g met l x e = rw e refl

-- how: as the record asks for it
module _ (how : Spelling) where
  -- a node's spelling, and that of a list of them, now and when more are added
  abbrev pub Spells : (List ℕ → Spelled) → State → ℕ → Type 0
  Spells b S t = (t < count S) × ((k : ℕ) → count S ≤ k → (met : List ℕ) → spell_down how k S met t ≡ b met)

  abbrev Written : State → List ℕ → (List ℕ → Spelled) → Type 0
  Written S ts b = (k : ℕ) → count S ≤ k → (met : List ℕ) → spell_each (λ m p. spell_down how k S m p) met ts ≡ b met

  abbrev SpellsAll : ℕ → (List ℕ → Spelled) → State → List ℕ → Type 0
  SpellsAll n b S ts = All (λ t. t < count S) ts × (length ts ≡ n) × Written S ts b

-- ---- where a type leads

pub led_plain : (S : State) (t : ℕ) → as_var (type_at S t) ≡ None → led S (spanned S t) ≡ spanned S t
unfolding led spanned
led_plain S t e = rw (e, led) refl

pub led_at : (S : State) (t v : ℕ) (o : Option ℕ) → as_var (type_at S t) ≡ Some v → get S (forward_tvar S v) ≡ o → led S (spanned S t) ≡ led_var S (loc_of S t) (forward_tvar S v) o
unfolding led spanned
led_at S t v o e g = rw (e, g, led) refl

-- reading goes on to the same parts
pub led_goes : (S : State) (t : ℕ) → parts (led S (spanned S t)).value ≡ goes_on_to S t
unfolding led led_var goes_on_to unfold_type unfold_var parts
led_goes S t = go (as_var (spanned S t).value) refl
  where
    bound : (v : ℕ) (o : Option ℕ) → get S (forward_tvar S v) ≡ o → parts (led_var S (spanned S t).loc (forward_tvar S v) o).value ≡ parts (unfold_var S (spanned S t).loc o).value
    bound v None g = refl
    bound v (Some x) g = refl

    go : (o : Option ℕ) → as_var (spanned S t).value ≡ o → parts (led S (spanned S t)).value ≡ goes_on_to S t
    go None e = rw (e, led, unfold_type) refl
    go (Some v) e = rw (e, led, unfold_type) (bound v (get S (forward_tvar S v)) refl)

-- ---- one step after the other

module _ {ar : TypeName → ℕ} where
  -- after a step
  pub onward : {C : Type 0} {Q : State → C → Type 0} {S S' : State} (n p n' p' : ℕ) {m : Result (State × C)} → Added ar S S' n p → Reads ar Q S' n' p' m → Reads ar Q S (n + n') (p + p') m
  onward n p n' p' a (made b j) = made (added_trans n p n' p' a b) j
  onward n p n' p' a (no_place d) = no_place (λ h. d (omega (arith, h.0, a.nodes_are), omega (arith, h.1, a.places_are)))

  -- `?`
  pub bind : {B C : Type 0} {P : State → B → Type 0} {Q : State → C → Type 0} {S : State} {m : Result (State × B)} (n p n' p' : ℕ) (f : State × B → Result (State × C)) → Reads ar P S n p m
      → ((S' : State) (x : B) → Added ar S S' n p → P S' x → Reads ar Q S' n' p' (f (S', x))) → Reads ar Q S (n + n') (p + p') (m >>= f)
  unfolding ◌>>=◌
  bind n p n' p' f (made {S' = S'} {x = x} a h) k = onward n p n' p' a (k S' x a h)
  bind n p n' p' f (no_place d) k = no_place (λ h. d (omega (arith, h.0), omega (arith, h.1)))

  -- a new node
  pub sp_reads : {S : State} → Sound ar S → (l : ℕ) (sh : TypeValue) → NodeOk ar S sh → Reads ar (λ S' t. (S' ≡ with_node S l sh) × (t ≡ count S)) S 1 (length (args_of sh)) (sp S l sh)
  unfolding with_node loc_of
  sp_reads {S} s l sh o = go (sp_room S l sh)
    where
      c : count (with_node S l sh) ≡ suc (count S)
      c = count_with_node S l sh

      go : {m : Result (State × ℕ)} → Room ((count S < max_nodes) × (length S.args + length (args_of sh) ≤ max_args)) (with_node S l sh, count S) m
          → Reads ar (λ S' t. (S' ≡ with_node S l sh) × (t ≡ count S)) S 1 (length (args_of sh)) m
      go (room e) = made (record {
        grown = grown_node s l sh o;
        same_loc = λ i h. ap (λ (n : Node). n.loc) (node_old S l sh i h);
        nodes_are = omega (arith, c);
        places_are = length-append S.args (args_of sh);
        within = λ h. (omega (arith, e.0, c), omega (arith, e.1, length-append S.args (args_of sh)));
      }) (refl, refl)
      go (no_room d) = no_place (λ h. d (omega (arith, h.0), h.1))

  -- another word of the outcome
  pub mapped : {B C : Type 0} {P : State → B → Type 0} {Q : State → C → Type 0} {S : State} {n p : ℕ} {m : Result (State × B)} (g : B → C) → Reads ar P S n p m
      → ((S' : State) (x : B) → Added ar S S' n p → P S' x → Q S' (g x)) → Reads ar Q S n p (m >>= (λ (y : State × B). ok (y.0, g y.1)))
  unfolding ◌>>=◌
  mapped g (made {S' = S'} {x = x} a h) k = made a (k S' x a h)
  mapped g (no_place d) k = no_place d

  pub weaker : {B : Type 0} {P Q : State → B → Type 0} {S : State} {n p : ℕ} {m : Result (State × B)} → Reads ar P S n p m → ((S' : State) (x : B) → Added ar S S' n p → P S' x → Q S' x) → Reads ar Q S n p m
  weaker (made {S' = S'} {x = x} a h) k = made a (k S' x a h)
  weaker (no_place d) k = no_place d

  pub as_many : {B : Type 0} {P : State → B → Type 0} {S : State} {m : Result (State × B)} (n n' p p' : ℕ) → n ≡ n' → p ≡ p' → Reads ar P S n p m → Reads ar P S n' p' m
  as_many n n' p p' e d r = rw (← e, ← d) r

  module _ (how : Spelling) where
    -- what was there is spelled as before
    spell_kept : {S S' : State} {n p : ℕ} → Sound ar S → Added ar S S' n p → (k : ℕ) (met : List ℕ) (t : ℕ) → t < count S → spell_down how k S' met t ≡ spell_down how k S met t
    unfolding spell_down
    spell_kept s a zero met t h = refl
    spell_kept {S} {S'} s a (suc k) met t h = rw (a.grown.quiet.q_kept t h, a.same_loc t h) (
        same_with how (λ m p. spell_down how k S' m p) (λ m p. spell_down how k S m p) (λ p. p < t) (λ m p l. spell_kept s a k m p (omega arith)) met (loc_of S t) (type_at S t) (s.parts_below t h))

    -- a new node, whose parts are spelled
    new_spells : {S : State} → Sound ar S → (l : ℕ) (sh : TypeValue) → NodeOk ar S sh → (b : List ℕ → Spelled)
        → ((k : ℕ) → count S ≤ k → (met : List ℕ) → spelled_with how (λ m p. spell_down how k S m p) met l sh ≡ b met) → Reads ar (Spells how b) S 1 (length (args_of sh)) (sp S l sh)
    unfolding spell_down loc_of
    new_spells {S} s l sh o b w = weaker (sp_reads s l sh o) (λ S' t a e. (omega (arith, e.1, a.nodes_are), λ k j. go S' t a e k (omega (arith, a.nodes_are))))
      where
        go : (S' : State) (t : ℕ) → Added ar S S' 1 (length (args_of sh)) → (S' ≡ with_node S l sh) × (t ≡ count S) → (k : ℕ) → suc (count S) ≤ k → (met : List ℕ) → spell_down how k S' met t ≡ b met
        go S' t a e zero j met = absurd (omega arith)
        go S' t a e (suc k) j met =
            let value : type_at S' t ≡ sh = rw (e.0, e.1) (value_new S l sh) in
            let at : loc_of S' t ≡ l = rw (e.0, e.1) (ap (λ (n : Node). n.loc) (node_new S l sh)) in
            rw (value, at) (same_with how (λ m p. spell_down how k S' m p) (λ m p. spell_down how k S m p) (λ p. p < count S) (λ m p i. spell_kept s a k m p i) met l sh o.ok_parts ∙ w k (omega arith) met)

  module _ (how : Spelling) {S₀ : State} (s₀ : Sound ar S₀) where
    -- S is S₀ with nodes added
    abbrev After : State → Type 0
    After S = (n : ℕ) × (p : ℕ) × Added ar S₀ S n p

    after : {S S' : State} (n p : ℕ) → After S → Added ar S S' n p → After S'
    after n p a b = (a.0 + n, a.1 + p, added_trans a.0 a.1 n p a.2 b)

    -- the parts, one after the other
    map_reads : (f : State → ℕ → Result (State × ℕ)) (b : List ℕ → ℕ → Spelled) (n p : ℕ → ℕ) (P : ℕ → Type 0) → ((S : State) (t : ℕ) → After S → P t → Reads ar (Spells how (λ met. b met t)) S (n t) (p t) (f S t))
        → (ts : List ℕ) → {S : State} → After S → All P ts → Reads ar (SpellsAll how (length ts) (λ met. spell_each b met ts)) S (total n ts) (total p ts) (map_types f S ts)
    unfolding map_types spell_each total
    map_reads f b n p P h [] {S} a ps = made (added_refl a.2.grown.sound_after) (tt, refl, λ k l met. refl)
    map_reads f b n p P h (t ∷ ts) {S} a ps = bind (n t) (p t) (total n ts) (total p ts) _ (h S t a ps.0) (λ S1 u a1 i.
        mapped (λ (us : List ℕ). u ∷ us) (map_reads f b n p P h ts (after (n t) (p t) a a1) ps.1) (λ S2 us a2 j.
        ((omega (arith, i.0, a2.grown.quiet.q_nodes), j.0), ap suc j.1, λ k l met. rw (spell_kept how a1.grown.sound_after a2 k met u i.0 ∙ i.1 k (omega (arith, a2.grown.quiet.q_nodes)) met, j.2 k l (b met t).met) refl)))

    abbrev Ends : ℕ → ℕ → Type 0
    Ends n t = (t < count S₀) × (ends_in n S₀ t ≡ true)

    -- a type that is spelled so, with n levels below
    abbrev ReadsAs : ℕ → Spanned TypeValue → State → Result (State × ℕ) → Type 0
    ReadsAs n t S m = Reads ar (Spells how (λ met. spelled_with how (λ m p. spell_led how n S₀ m p) met t.loc t.value)) S
        (new_nodes t.value + total (λ p. summed new_nodes n S₀ p) (parts t.value)) (new_places t.value + total (λ p. summed new_places n S₀ p) (parts t.value)) m

    abbrev ReadsIn : ℕ → (State → ℕ → Result (State × ℕ)) → Type 0
    ReadsIn n f = (S : State) (t : ℕ) → After S → Ends n t → Reads ar (Spells how (λ met. spell_led how n S₀ met t)) S (summed new_nodes n S₀ t) (summed new_places n S₀ t) (f S t)

    -- a type that stays
    stays : (n : ℕ) {S : State} → After S → (t : ℕ) → t < count S₀ → (x : TypeValue) → type_at S₀ t ≡ x → parts x ≡ [] → Reads ar (Spells how (λ met. spelled_with how (λ m p. spell_led how n S₀ m p) met (loc_of S₀ t) x)) S 0 0 (ok (S, t))
    unfolding spell_down
    stays n {S} a t h x e none = made (added_refl a.2.grown.sound_after) (omega (arith, a.2.grown.quiet.q_nodes), go)
      where
        go : (k : ℕ) → count S ≤ k → (met : List ℕ) → spell_down how k S met t ≡ spelled_with how (λ m p. spell_led how n S₀ m p) met (loc_of S₀ t) x
        go zero l met = absurd (omega (arith, a.2.grown.quiet.q_nodes))
        go (suc k) l met = let v : type_at S t ≡ x = a.2.grown.quiet.q_kept t h ∙ e in rw (v, a.2.same_loc t h) (no_parts how (λ m p. spell_down how k S m p) (λ m p. spell_led how n S₀ m p) met (loc_of S₀ t) x none)

    level : (m n : ℕ) → ReadsIn n (λ s t. ready m s t) → {S : State} → After S → (t : ℕ) → t < count S₀ → (x : TypeValue) → type_at S₀ t ≡ x → as_var x ≡ None → All (Ends n) (parts x)
        → ReadsAs n (record { loc = loc_of S₀ t; value = x }) S (ready_value (λ s t. ready m s t) S t (loc_of S₀ t) x)
    unfolding ready_value as_var parts spell_each total new_nodes new_places args_of
    level m n ih {S} a t h UnitType e v ps = stays n a t h UnitType e refl
    level m n ih {S} a t h UnresolvedError e v ps = stays n a t h UnresolvedError e refl
    level m n ih {S} a t h Anything e v ps = stays n a t h Anything e refl
    level m n ih {S} a t h (Param id b) e v ps = stays n a t h (Param id b) e refl
    level m n ih {S} a t h (Ref b p) e v ps = as_many _ _ _ _ (omega arith) (omega arith) (
        bind (summed new_nodes n S₀ p) (summed new_places n S₀ p) 1 0 (λ (x : State × ℕ). sp x.0 (loc_of S₀ t) (Ref b x.1)) (ih S p a ps.0) (λ S1 u a1 i. new_spells how a1.grown.sound_after (loc_of S₀ t) (Ref b u) (ref_ok b u i.0) _ (λ k l met. same_ref (λ m q. spell_down how k S1 m q) (λ m q. spell_led how n S₀ m q) met (loc_of S₀ t) how b u p (λ m. rw (i.1 k l m) refl))))
    level m n ih {S} a t h (Apply k name tys) e v ps = as_many _ _ _ _ (omega arith) (omega (arith)) (
        bind (total (λ p. summed new_nodes n S₀ p) tys) (total (λ p. summed new_places n S₀ p) tys) 1 (length tys) (λ (x : State × List ℕ). sp x.0 (loc_of S₀ t) (Apply k name x.1)) (map_reads (λ s t. ready m s t) (λ met p. spell_led how n S₀ met p) _ _ (Ends n) ih tys a ps)
        (λ S1 us a1 i. as_many 1 1 (length us) (length tys) refl i.1 (new_spells how a1.grown.sound_after (loc_of S₀ t) (Apply k name us) (apply_ok k name us i.0 (i.1 ∙ s₀.arity t k name tys h e)) _
        (λ j l met. same_apply (λ m q. spell_down how j S1 m q) (λ m q. spell_led how n S₀ m q) met (loc_of S₀ t) how k name us tys (λ m. i.2 j l m)))))
    level m n ih {S} a t h (Var w) e v ps = never (cc)

    all_ends : (n : ℕ) (ps : List ℕ) → all_of (λ t. ends_in n S₀ t) ps ≡ true → All (λ p. p < count S₀) ps → All (Ends n) ps
    unfolding all_of
    all_ends n [] e h = tt
    all_ends n (p ∷ ps) e h = ((h.0, elim_l (ends_in n S₀ p) (all_of (λ t. ends_in n S₀ t) ps) e), all_ends n ps (elim_r (ends_in n S₀ p) (all_of (λ t. ends_in n S₀ t) ps) e) h.1)

    -- the type t is spelled as the type x, whose parts end
    ends_as : (n t x : ℕ) → x < count S₀ → led S₀ (spanned S₀ t) ≡ spanned S₀ x → all_of (λ p. ends_in n S₀ p) (goes_on_to S₀ t) ≡ true → All (Ends n) (parts (type_at S₀ x))
    unfolding spanned
    ends_as n t x i l e =
        let g : goes_on_to S₀ t ≡ parts (type_at S₀ x) = sym (led_goes S₀ t) ∙ ap (λ (y : Spanned TypeValue). parts y.value) l in
        all_ends n (parts (type_at S₀ x)) (rw g at e) (All_map (λ p l. omega arith) (parts (type_at S₀ x)) (s₀.parts_below x i))

    module _ (m n : ℕ) (S : State) (a : After S) (t : ℕ) (h : t < count S₀) (e : all_of (λ p. ends_in n S₀ p) (goes_on_to S₀ t) ≡ true) (ih : ReadsIn n (λ s t. ready m s t)) (ih' : ReadsIn n (λ s t. ready (suc m) s t)) where
      plain_reads : as_var (type_at S₀ t) ≡ None → ReadsAs n (led S₀ (spanned S₀ t)) S (ready (suc (suc m)) S t)
      unfolding ready spanned
      plain_reads v =
          let l = led_plain S₀ t v in
          rw (l, a.2.grown.quiet.q_kept t h, a.2.same_loc t h) (level (suc m) n ih' a t h (type_at S₀ t) refl v (ends_as n t t h l e))

      var_reads : (v : ℕ) → type_at S₀ t ≡ Var v → v < taken S₀ → ReadsAs n (led S₀ (spanned S₀ t)) S (ready (suc (suc m)) S t)
      unfolding as_var ready ready_value spanned led_var parts total new_nodes new_places args_of spell_each spelled_with
      var_reads v d i = rw (led_at S₀ t v (get S₀ x) (ap as_var d) refl, a.2.grown.quiet.q_kept t h, a.2.same_loc t h, d) here
        where
          x : ℕ
          x = forward_tvar S₀ v

          same : forward_tvar S v ≡ x
          same = ends_det (chain a.2.grown.sound_after v (omega (arith, a.2.grown.quiet.q_vars))) (ends_same a.2.grown.quiet.q_next (chain s₀ v i))

          go : (o : Option ℕ) → get S₀ x ≡ o → ReadsAs n (led_var S₀ (loc_of S₀ t) x o) S (elim o [ None ↦ sp S (loc_of S₀ t) (Var (forward_tvar S v)) | Some y ↦ ready (suc m) S y ])
          go None g = rw same (new_spells how a.2.grown.sound_after (loc_of S₀ t) (Var x) (var_ok x (omega (arith, a.2.grown.quiet.q_vars, end_taken s₀ i (chain s₀ v i)))) _ (λ k l met. refl))
          go (Some y) g =
              let y_in : y < count S₀ = s₀.bind_in x y g in
              let plain : as_var (type_at S₀ y) ≡ None = solid_nonvar (type_at S₀ y) (bind_solid s₀ x y g (ends_stop (chain s₀ v i))) in
              rw (a.2.grown.quiet.q_kept y y_in, a.2.same_loc y y_in) (level m n ih a y y_in (type_at S₀ y) refl plain (ends_as n t y y_in (led_at S₀ t v (Some y) (ap as_var d) g) e))

          here : ReadsAs n (led_var S₀ (loc_of S₀ t) x (get S₀ x)) S (elim (get S (forward_tvar S v)) [ None ↦ sp S (loc_of S₀ t) (Var (forward_tvar S v)) | Some y ↦ ready (suc m) S y ])
          here = rw (same, a.2.grown.same_get x) (go (get S₀ x) refl)

      one_reads : ReadsAs n (led S₀ (spanned S₀ t)) S (ready (suc (suc m)) S t)
      one_reads = elim (kind (type_at S₀ t)) [ k_any d ↦ plain_reads (rw d any_plain) | k_var {v} d ↦ var_reads v d (s₀.var_in t v h d) | k_solid d v ↦ plain_reads v ]

    -- in n levels, with two calls for each
    pub reads_in : (n m : ℕ) → 2 * n ≤ m → ReadsIn n (λ s t. ready m s t)
    unfolding ends_in spell_led summed
    reads_in zero m l S t a e = never (let z = e.1 in cc)
    reads_in (suc n) zero l S t a e = absurd (omega arith)
    reads_in (suc n) (suc zero) l S t a e = absurd (omega arith)
    reads_in (suc n) (suc (suc m)) l S t a e = one_reads m n S a t e.0 e.1 (λ S t a e. reads_in n m (omega arith) S t a e) (λ S t a e. reads_in n (suc m) (omega arith) S t a e)

-- ---- in a sound state

pub fits_room : (S : State) (nodes places : ℕ) → Fits S nodes places → room_for S nodes places ≡ true
unfolding room_for
fits_room S nodes places h = and (le_test _ _ h.0) (le_test _ _ h.1)

pub room_fits : (S : State) (nodes places : ℕ) → room_for S nodes places ≡ true → Fits S nodes places
unfolding room_for
room_fits S nodes places e = (
  leb→le (count S + nodes) max_nodes (test (and_l (leb (count S + nodes) max_nodes) (leb (length S.args + places) max_args) e)),
  leb→le (length S.args + places) max_args (test (and_r (leb (count S + nodes) max_nodes) _ e)),
)

module _ {ar : TypeName → ℕ} {S : State} (s : Sound ar S) (ty : ℕ) (i : ty < count S) where
  abbrev nodes : ℕ
  nodes = summed new_nodes (count S) S ty

  abbrev places : ℕ
  places = summed new_places (count S) S ty

  pub reads : (how : Spelling) → reaches_itself S ty ≡ false → (m : ℕ) → 2 * count S ≤ m → Reads ar (Spells how (λ met. spell_led how (count S) S met ty)) S nodes places (ready m S ty)
  unfolding reaches_itself
  reads how e m l = reads_in how s (count S) m l S ty (0, 0, added_refl s) (i, not_false (ends_in (count S) S ty) e)

  within_limits : Fits S 0 0 → {S' : State} → Added ar S S' nodes places → Fits S nodes places
  within_limits few a = let w = a.within few in (omega (arith, a.nodes_are, w.0), omega (arith, a.places_are, w.1))

  -- the answer is told from the state that the run starts from
  pub spells_in : (how : Spelling) → Fits S 0 0 → (ready_tvars S ty >>= (λ (x : State × ℕ). ok (spelled how x.0 x.1))) ≡ spell_ready how S ty
  unfolding ready_tvars spell_ready ◌>>=◌
  spells_in how few = go (reaches_itself S ty) refl
    where
      told : (m : Result (State × ℕ)) → Reads ar (Spells how (λ met. spell_led how (count S) S met ty)) S nodes places m
          → (m >>= (λ (x : State × ℕ). ok (spelled how x.0 x.1))) ≡ (if room_for S nodes places then ok (led_bytes how (count S) S ty) else refused full)
      told (ok x) (made {S' = S'} a w) = rw (fits_room S nodes places (within_limits few a)) (ap (λ (b : Bytes). ok b) (sym (down_is how S' x.1) ∙ ap (λ (b : Spelled). b.bytes) (w.1 (suc (count S')) (omega arith) [])))
      told (err s e) r = elim r [ ]
      told (refused x) (no_place d) = full_is (room_for S nodes places) refl
        where
          full_is : (b : Bool) → room_for S nodes places ≡ b → ◌≡◌ {A = Result Bytes} (refused full) (if b then ok (led_bytes how (count S) S ty) else refused full)
          full_is true e = absurd (d (room_fits S nodes places e))
          full_is false e = refl

      go : (b : Bool) → reaches_itself S ty ≡ b → ◌≡◌ {A = Result Bytes} ((elim b [ true ↦ refused runs_into_itself | false ↦ ready (2 * count S) S ty ]) >>= (λ (x : State × ℕ). ok (spelled how x.0 x.1)))
          (elim b [ true ↦ refused runs_into_itself | false ↦ if room_for S nodes places then ok (led_bytes how (count S) S ty) else refused full ])
      go true e = refl
      go false e = told (ready (2 * count S) S ty) (reads how e (2 * count S) (omega arith))

  -- and so is what it takes of the tables
  pub takes_in : (S' : State) (t : ℕ) → ready_tvars S ty ≡ ok (S', t) → (count S' ≡ count S + nodes) × (length S'.args ≡ length S.args + places)
  unfolding ready_tvars
  takes_in S' t q = go (reaches_itself S ty) refl q
    where
      taken : {m : Result (State × ℕ)} → Reads ar (Spells Located (λ met. spell_led Located (count S) S met ty)) S nodes places m → m ≡ ok (S', t) → (count S' ≡ count S + nodes) × (length S'.args ≡ length S.args + places)
      taken (made {S' = T} a w) q = let e : T ≡ S' = ap (λ (m : Result (State × ℕ)). elim m [ ok x ↦ x.0 | err z e ↦ z | refused x ↦ S ]) q in (sym (ap count e) ∙ a.nodes_are, sym (ap (λ (z : State). length z.args) e) ∙ a.places_are)
      taken (no_place d) q = never (cc)

      go : (b : Bool) → reaches_itself S ty ≡ b → ◌≡◌ {A = Result (State × ℕ)} (elim b [ true ↦ refused runs_into_itself | false ↦ ready (2 * count S) S ty ]) (ok (S', t)) → (count S' ≡ count S + nodes) × (length S'.args ≡ length S.args + places)
      go true e q = never (cc)
      go false e q = taken (reads Located e (2 * count S) (omega arith)) q

pub sound_fits : (S : State) → sound S ≡ true → Fits S 0 0
sound_fits S h = let s : IsSound S = (sound_is S).0 h in (omega (arith, s.few_nodes), omega (arith, s.few_args))

-- RD and CN of a node of a sound state
pub ready_spells : (how : Spelling) (S : State) → sound S ≡ true → (ty : ℕ) → ty < count S → (ready_tvars S ty >>= (λ (x : State × ℕ). ok (spelled how x.0 x.1))) ≡ spell_ready how S ty
ready_spells how S h ty i = spells_in (facts S h) ty i how (sound_fits S h)

pub ready_takes : (S : State) → sound S ≡ true → (ty : ℕ) → ty < count S → (S' : State) (t : ℕ) → ready_tvars S ty ≡ ok (S', t)
    → (count S' ≡ count S + summed new_nodes (count S) S ty) × (length S'.args ≡ length S.args + summed new_places (count S) S ty)
ready_takes S h ty i = takes_in (facts S h) ty i

-- the record
run_reads : (how : Spelling) (S : State) (t : Tree) → run S (spelled_record how t) ≡ (build t S >>= (λ (x : State × ℕ). ready_tvars x.0 x.1 >>= (λ (y : State × ℕ). ok (S, spelled how y.0 y.1))))
unfolding run spelled ◌>>=◌
run_reads Located S t = refl
run_reads Canonical S t = refl

-- .. of a tree that is placed: no node is made but those that it is placed in
pub record_spells : (how : Spelling) (S : State) → sound S ≡ true → (t : Tree) → Fine (arity S) (taken S) t → (S' : State) (ty : ℕ) → build t S ≡ ok (S', ty) → Fits S' 0 0
    → run S (spelled_record how t) ≡ with_state S (spell_ready how S' ty)
unfolding with_state ◌>>=◌
record_spells how S h t f S' ty e few = run_reads how S t ∙ go (build t S) e (place_went f (facts S h) (omega arith))
  where
    shown : (m : Result (State × ℕ)) → ◌>>=◌ {B = State × Bytes} m (λ (x : State × ℕ). ok (S, spelled how x.0 x.1)) ≡ with_state S (m >>= (λ (x : State × ℕ). ok (spelled how x.0 x.1)))
    shown (ok x) = refl
    shown (err s e) = refl
    shown (refused x) = refl

    go : (m : Result (State × ℕ)) → m ≡ ok (S', ty) → Post (arity S) S (WentTo (arity S) S) m
        → ◌>>=◌ {B = State × Bytes} m (λ (x : State × ℕ). ready_tvars x.0 x.1 >>= (λ (y : State × ℕ). ok (S, spelled how y.0 y.1))) ≡ with_state S (spell_ready how S' ty)
    go (ok x) q (p_ok g w) =
        let e0 : x ≡ (S', ty) = ap (λ (m : Result (State × ℕ)). elim m [ ok y ↦ y | err z e ↦ x | refused y ↦ x ]) q in
        let few' : Fits x.0 0 0 = subst (λ (y : State × ℕ). Fits y.0 0 0) (sym e0) few in
        shown (ready_tvars x.0 x.1) ∙ ap (with_state S) (spells_in w.sound x.1 w.t_in how few') ∙ ap (λ (y : State × ℕ). with_state S (spell_ready how y.0 y.1)) e0
    go (err z y) q r = never (cc)
    go (refused y) q r = never (cc)

-- ---- sums

pub head_size_is : (l : ℕ) (x : TypeValue) → length (head l x) ≡ head_size x
unfolding head_size head apply_head u32 u16
head_size_is l UnitType = refl
head_size_is l (Ref m t) = refl
head_size_is l (Param id a) = refl
head_size_is l (Apply k (Builtin n) tys) = refl
head_size_is l (Apply k (Multiple n) tys) = refl
head_size_is l (Apply k (ModuleType n) tys) = refl
head_size_is l (Var v) = refl
head_size_is l Anything = refl
head_size_is l UnresolvedError = refl

pub by_size : (how : Spelling) (met : List ℕ) (l : ℕ) (x : TypeValue) → length (head_by how met l x) ≡ head_size x
unfolding head_by numbered head_size head u32 u16
by_size Located met l x = head_size_is l x
by_size Canonical met l UnitType = refl
by_size Canonical met l (Ref m t) = refl
by_size Canonical met l (Param id a) = refl
by_size Canonical met l (Apply k n tys) = refl
by_size Canonical met l (Var v) = refl
by_size Canonical met l Anything = refl
by_size Canonical met l UnresolvedError = refl

pub each_size : (f : List ℕ → ℕ → Spelled) (g : ℕ → ℕ) → ((met : List ℕ) (p : ℕ) → length (f met p).bytes ≡ g p) → (met ps : List ℕ) → length (spell_each f met ps).bytes ≡ total g ps
unfolding spell_each total
each_size f g h met [] = refl
each_size f g h met (p ∷ ps) = length-append (f met p).bytes (spell_each f (f met p).met ps).bytes ∙ omega (arith, h met p, each_size f g h (f met p).met ps)

-- how many bytes are spelled
pub spelled_size : (how : Spelling) (n : ℕ) (s : State) (met : List ℕ) (ty : ℕ) → length (spell_led how n s met ty).bytes ≡ summed head_size n s ty
unfolding spell_led spelled_with summed
spelled_size how zero s met ty = refl
spelled_size how (suc n) s met ty =
    let x = led s (spanned s ty) in
    length-append (head_by how met x.loc x.value) _
    ∙ omega (arith, by_size how met x.loc x.value, each_size (λ m p. spell_led how n s m p) (λ p. summed head_size n s p) (λ m p. spelled_size how n s m p) (met_by how met x.value) (parts x.value))

total_few : (f g h : ℕ → ℕ) → ((p : ℕ) → f p ≤ 1 + g p + h p) → (ps : List ℕ) → total f ps ≤ length ps + total g ps + total h ps
unfolding total
total_few f g h k [] = omega arith
total_few f g h k (p ∷ ps) = omega (arith, k p, total_few f g h k ps)

parts_few : (x : TypeValue) → length (parts x) ≤ new_nodes x + new_places x
unfolding parts new_nodes new_places args_of
parts_few UnitType = omega arith
parts_few (Ref m t) = omega arith
parts_few (Param id a) = omega arith
parts_few (Apply k n tys) = omega arith
parts_few (Var v) = omega arith
parts_few Anything = omega arith
parts_few UnresolvedError = omega arith

-- each type but the first is a reference's, or stands in an argument place
pub spelled_few : (n : ℕ) (s : State) (ty : ℕ) → summed one n s ty ≤ 1 + summed new_nodes n s ty + summed new_places n s ty
unfolding summed one
spelled_few zero s ty = omega arith
spelled_few (suc n) s ty =
    let x = led s (spanned s ty) in
    omega (arith, parts_few x.value, total_few (λ p. summed one n s p) (λ p. summed new_nodes n s p) (λ p. summed new_places n s p) (λ p. spelled_few n s p) (parts x.value))

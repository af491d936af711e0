-- R-11: what UF, RD and FV answer after KP. A survivor is unfolded and read out to what it was before, with variables renumbered (`UF_same`,
-- `RD_same`): both meet 9, and 0 before gives 0 after; FV gives the number of survivors (`FV_after`). KP itself answers 0 (`KP_answers_0`). Assumes nothing.
-- A type is placed in each of the two states, which stay alike through the renumbering (KeepAlike).
use mathlib.Core.Path.{◌≡◌, refl, sym, ap, ◌∙◌, subst}
use mathlib.Core.Bool.{Bool, true, false, not}
use mathlib.Core.List.{List, [], ◌∷◌, ◌++◌, map}
use Rattle.std.specs.Prelude.{Option, None, Some, if◌then◌else◌, ◌↔◌}
use Prim.Native.Nat.{ℕ, zero, suc, ◌+◌, ◌≤◌, ◌<◌}
use native.Mathlib.Omega.{arith}
use lib.ListN.{length, length-append, length-map}
use lib.Dec.{leb}
use Rattle.definition.specs.Types.{TypeValue, UnitType, Ref, Param, Apply, Var, Anything, UnresolvedError, Spanned, Node, State, max_nodes, max_args, max_vars, full, answer_too_long, runs_into_itself, Result, ok, err, refused, ◌>>=◌}
use Rattle.definition.specs.Store.{args_of, count, taken, type_at, loc_of, spanned, get, with_node, sp, with_var, next_tvar}
use Rattle.definition.specs.Subst.{parts, unfold_type, goes_on_to, ends_in, reaches_itself}
use Rattle.definition.specs.Write.{Bytes, head, write_down, write_spanned}
use Rattle.definition.specs.Trees.{Tree, var_tree, arity}
use Rattle.definition.specs.Build.{build}
use Rattle.definition.specs.Record.{UF, RD, FV, KP, read_record}
use Rattle.definition.specs.Reader.{got}
use Rattle.definition.specs.Step.{Answer, unfolded, run, max_payload, answer_within, answer_with, answer, behind, refusal, apart, most_of, tail_of, reply, usable, lent, step}
use Rattle.definition.specs.Sound.{sound}
use Rattle.definition.specs.Keep.{a_node, a_variable, Kept, its_part, its_variable, its_binding, reach, cleared, moved, survivors}
use Rattle.theorems.specs.ReadySpelled.{Located, led, room_for, summed, new_nodes, new_places, spelled_with, head_by, met_by, spell_led, led_bytes, spell_ready, with_state}
use Rattle.definition.specs.Canonical.{Spelled}
use Rattle.theorems.proofs.ReadyTold.{Fits, fits_room, room_fits, as_it_stands, each_located, record_spells}
use Rattle.theorems.proofs.SoundRead.{fine_var}
use Rattle.theorems.proofs.LawsAnswer.{answered_0, sound_of}
use Rattle.theorems.proofs.KeepRanges.{KP_answers}
use Rattle.theorems.proofs.Laws.{node_new, value_new, count_with_node}
use Rattle.theorems.proofs.DemandOrder.{Sound, chain, ends_in as end_taken}
use Rattle.theorems.proofs.DemandSteps.{sound_node}
use Rattle.theorems.proofs.DemandCalls.{var_ok}
use Rattle.theorems.proofs.Soundness.{lt_test, le_test, sound_is}
use Rattle.theorems.proofs.SoundFacts.{facts, not_false}
use Rattle.theorems.proofs.DemandTracks.{never}
use Rattle.definition.specs.Rank.{any, RunsIntoItself}
use Rattle.theorems.proofs.TotalReaches.{ends_within}
use Rattle.theorems.proofs.TotalReading.{ends_read, type_is_in, reads_clear, reaches_is_runs}
use Rattle.theorems.proofs.TotalFinite.{all_at}
use Rattle.theorems.proofs.TotalFuel.{write_levels}
use Rattle.theorems.proofs.KeepReach.{TakenAll}
use Rattle.theorems.proofs.KeepSame.{vars_of, taken_left, kept_var_below, through, new_node, new_var, new_binding, cleared_same}
use Rattle.theorems.proofs.KeepSound.{mapped, parts_through, cleared_sound, few_nodes_left, few_places_left}
use Rattle.theorems.proofs.KeepReads.{moved_kept}
use Rattle.theorems.proofs.KeepDepth.{forward_left, last_kept}
use Rattle.theorems.proofs.KeepAlike.{renumbered, moved_to, spanned_is, each_on, each_mapped, Alike, Inside, var_inside, written_as, read_as, write_alike, unfold_alike, unfold_inside, read_alike, summed_alike, ends_alike, alike_placed, ends_at, summed_at, summed_levels, read_levels, written_long, read_long}

-- ---- a state is alike itself, and KP's is alike the one before

map_own : (ts : List ℕ) → map (λ t. t) ts ≡ ts
map_own [] = refl
map_own (t ∷ ts) = ap (λ (l : List ℕ). t ∷ l) (map_own ts)

through_own : (x : TypeValue) → through (λ v. v) (λ t. t) x ≡ x
unfolding through
through_own UnitType = refl
through_own (Ref m t) = refl
through_own (Param id a) = refl
through_own (Apply k n ts) = ap (λ (l : List ℕ). Apply k n l) (map_own ts)
through_own (Var v) = refl
through_own Anything = refl
through_own UnresolvedError = refl

mapped_own : (o : Option ℕ) → mapped (λ t. t) o ≡ o
unfolding mapped
mapped_own None = refl
mapped_own (Some t) = refl

alike_own : (s : State) → sound s ≡ true → Alike (λ v. v) (λ t. t) (λ t. t < count s) (λ v. v < taken s) s s
alike_own s h = let k = facts s h in record {
  types = λ t i. sym (through_own (type_at s t));
  locs = λ t i. refl;
  binds = λ v i. sym (mapped_own (get s v));
  ends = λ v i. refl;
  part_in = λ t p i m. let b : p < t = all_at (λ q. q < t) (parts (type_at s t)) (k.parts_below t i) p m in omega arith;
  var_in = λ t v i e. k.var_in t v i e;
  binding_in = λ v t i e. k.bind_in v t e;
  end_in = λ v i. end_taken k i (chain k v i);
  node_lands = λ t i. i;
  var_lands = λ v i. i;
}

binding_is : (s : State) (listed : List ℕ) (o : Option ℕ) → new_binding s listed o ≡ mapped (λ t. new_node s listed t) o
unfolding new_binding mapped
binding_is s listed None = refl
binding_is s listed (Some t) = refl

alike_cleared : (s : State) → sound s ≡ true → (listed : List ℕ) → TakenAll s listed
    → Alike (λ v. new_var s listed v) (λ t. new_node s listed t) (λ t. Kept s listed (a_node t)) (λ v. Kept s listed (a_variable v)) s (cleared s listed)
alike_cleared s h listed known = let same = cleared_same s h listed known in record {
  types = same.type_same;
  locs = same.loc_same;
  binds = λ v k. same.binding_same v k ∙ binding_is s listed (get s v);
  ends = λ v k. forward_left s h listed known v k;
  part_in = λ t p k m. its_part k m;
  var_in = λ t v k e. its_variable k e;
  binding_in = λ v t k e. its_binding k e;
  end_in = λ v k. last_kept s h listed known v k;
  node_lands = same.node_in;
  var_lands = same.var_in;
}

-- ---- RD's payload and what it takes, by read_as and summed_at

renumbered_own : (x : TypeValue) → renumbered (λ v. v) x ≡ x
unfolding renumbered
renumbered_own UnitType = refl
renumbered_own (Ref m t) = refl
renumbered_own (Param id a) = refl
renumbered_own (Apply k n ts) = refl
renumbered_own (Var v) = refl
renumbered_own Anything = refl
renumbered_own UnresolvedError = refl

led_read : (n : ℕ) (s : State) (met : List ℕ) (t : ℕ) → spell_led Located n s met t ≡ as_it_stands met (read_as (λ v. v) n s (spanned s t))
unfolding spell_led spelled_with head_by met_by read_as as_it_stands
led_read zero s met t = refl
led_read (suc n) s met t =
    let x = led s (spanned s t) in
    rw (renumbered_own x.value, each_located (λ m p. spell_led Located n s m p) (λ p. read_as (λ v. v) n s (spanned s p)) (λ m p. led_read n s m p) met (parts x.value)) refl

nodes_through : (f g : ℕ → ℕ) (x : TypeValue) → new_nodes (through f g x) ≡ new_nodes x
unfolding new_nodes through
nodes_through f g UnitType = refl
nodes_through f g (Ref m t) = refl
nodes_through f g (Param id a) = refl
nodes_through f g (Apply k n ts) = refl
nodes_through f g (Var v) = refl
nodes_through f g Anything = refl
nodes_through f g UnresolvedError = refl

places_through : (f g : ℕ → ℕ) (x : TypeValue) → new_places (through f g x) ≡ new_places x
unfolding new_places args_of through
places_through f g UnitType = refl
places_through f g (Ref m t) = refl
places_through f g (Param id a) = refl
places_through f g (Apply k n ts) = length-map ts g
places_through f g (Var v) = refl
places_through f g Anything = refl
places_through f g UnresolvedError = refl

-- ---- a variable's type placed in a state T that is alike S

-- it stands at location l
abbrev pub at_loc : ℕ → ℕ → Spanned TypeValue
at_loc l v = record { loc = l; value = Var v }

abbrev Roomy : State → Type 0
Roomy s = (count s < max_nodes) × (length s.args ≤ max_args)

placed_var : (s : State) (l v : ℕ) → Roomy s → build (var_tree l v) s ≡ ok (with_node s l (Var v), count s)
unfolding build sp args_of
placed_var s l v r =
    let e : length s.args + 0 ≤ max_args = omega (arith, r.1) in
    rw (lt_test (count s) max_nodes r.0, le_test (length s.args + 0) max_args e) refl

places_placed : (s : State) (l v : ℕ) → length (with_node s l (Var v)).args ≡ length s.args
unfolding with_node args_of
places_placed s l v = length-append s.args [] ∙ omega arith

span_new : (s : State) (l v : ℕ) → spanned (with_node s l (Var v)) (count s) ≡ at_loc l v
unfolding spanned loc_of
span_new s l v = spanned_is (ap (λ (n : Node). n.loc) (node_new s l (Var v))) (value_new s l (Var v))

-- RD's run, where reading ends: the payload, if what is taken fits
unfoldable read_out : State → State → Bool → ℕ → ℕ → Bytes → Result (State × Bytes)
read_out s placed ends nodes places payload = elim ends [ false ↦ refused runs_into_itself | true ↦ if room_for placed nodes places then ok (s, payload) else refused full ]

module _ {f g : ℕ → ℕ} {N V : ℕ → Type 0} {S T : State} (a : Alike f g N V S T) (h : sound T ≡ true) (r : Roomy T) (l v : ℕ) (i : V v) where
  abbrev placed : State
  placed = with_node T l (Var (f v))

  placed_facts : Sound (arity T) placed
  placed_facts = sound_node (facts T h) l (Var (f v)) (var_ok (f v) (a.var_lands v i))

  alike : Alike f g N V S placed
  alike = alike_placed a (facts T h) l (Var (f v)) (var_ok (f v) (a.var_lands v i))

  inside : Inside N V (Var v)
  inside = var_inside alike v i

  var_moved : spanned placed (count T) ≡ moved_to alike (at_loc l v)
  unfolding through
  var_moved = span_new T l (f v)

  -- UF's payload
  more_levels : (n : ℕ) → suc (count placed) ≤ n → (y : Spanned TypeValue) → Inside N V y.value → write_spanned placed (moved_to alike y) ≡ write_down n placed (moved_to alike y)
  unfolding write_spanned write_down
  more_levels zero k y j = absurd (omega arith)
  more_levels (suc m) k y j =
      rw (parts_through f g y.value, each_mapped (λ p. write_down (count placed) placed (spanned placed p)) g (parts y.value), each_mapped (λ p. write_down m placed (spanned placed p)) g (parts y.value))
      (ap (λ (b : Bytes). head y.loc (through f g y.value) ++ b) (each_on (λ p. write_down (count placed) placed (spanned placed (g p))) (λ p. write_down m placed (spanned placed (g p))) (parts y.value) (λ p q.
      let c : g p < count placed = alike.node_lands p (j.parts_in p q) in write_levels placed_facts (count placed) m (g p) c c (omega arith))))

  unfolded_payload : (n : ℕ) → suc (count placed) ≤ n → write_spanned placed (unfold_type placed (spanned placed (count T))) ≡ written_as f n S (unfold_type S (at_loc l v))
  unfolded_payload n k =
      ap (λ (x : Spanned TypeValue). write_spanned placed (unfold_type placed x)) var_moved
      ∙ ap (write_spanned placed) (unfold_alike alike (at_loc l v) inside)
      ∙ more_levels n k (unfold_type S (at_loc l v)) (unfold_inside alike (at_loc l v) inside)
      ∙ write_alike alike n (unfold_type S (at_loc l v)) (unfold_inside alike (at_loc l v) inside)

  UF_is : (n : ℕ) → suc (suc (count T)) ≤ n → run T (UF (var_tree l (f v))) ≡ ok (T, written_as f n S (unfold_type S (at_loc l v)))
  unfolding run unfolded ◌>>=◌
  UF_is n k = rw (placed_var T l (f v) r) (ap (λ (b : Bytes). ok (T, b)) (unfolded_payload n (omega (arith, count_with_node T l (Var (f v))))))

  -- RD's, if reading ends
  ends_here : ends_in (count placed) placed (count T) ≡ ends_at (count T) S (at_loc l v)
  unfolding ends_in goes_on_to ends_at
  ends_here = ap (λ (n : ℕ). ends_in n placed (count T)) (count_with_node T l (Var (f v))) ∙ ap (ends_at (count T) placed) var_moved ∙ ends_alike alike (count T) (at_loc l v) inside

  -- it ends within any number of levels only if it ends within so many
  ends_enough : (n : ℕ) → ends_at n S (at_loc l v) ≡ true → ends_at (count T) S (at_loc l v) ≡ true
  unfolding ends_in goes_on_to ends_at reaches_itself
  ends_enough n e = sym ends_here ∙ go (reaches_itself placed (count T)) refl
    where
      here : count T < count placed
      here = omega (arith, count_with_node T l (Var (f v)))

      ended : ends_in (suc n) placed (count T) ≡ true
      ended = ap (ends_at n placed) var_moved ∙ ends_alike alike n (at_loc l v) inside ∙ e

      clear : ¬ RunsIntoItself placed (type_at placed (count T))
      clear = reads_clear (ends_read placed_facts any (suc n) (type_at placed (count T)) (type_is_in placed_facts here) (ends_within placed_facts (suc n) (count T) ended))

      go : (b : Bool) → reaches_itself placed (count T) ≡ b → ends_in (count placed) placed (count T) ≡ true
      go true d = absurd (clear ((reaches_is_runs placed_facts (count T) here).0 d))
      go false d = not_false (ends_in (count placed) placed (count T)) d

  summed_here : (c : TypeValue → ℕ) → ((x : TypeValue) → c (through f g x) ≡ c x) → summed c (count placed) placed (count T) ≡ summed_at c (count T) S (at_loc l v)
  unfolding summed summed_at
  summed_here c same = ap (λ (n : ℕ). summed c n placed (count T)) (count_with_node T l (Var (f v))) ∙ ap (summed_at c (count T) placed) var_moved ∙ summed_alike alike c same (count T) (at_loc l v) inside

  read_here : led_bytes Located (count placed) placed (count T) ≡ read_as f (suc (count T)) S (at_loc l v)
  unfolding as_it_stands
  read_here =
      ap (λ (b : Spelled). b.bytes) (led_read (count placed) placed [] (count T))
      ∙ ap (λ (n : ℕ). read_as (λ v. v) n placed (spanned placed (count T))) (count_with_node T l (Var (f v)))
      ∙ ap (read_as (λ v. v) (suc (count T)) placed) var_moved
      ∙ read_alike alike (suc (count T)) (at_loc l v) inside

  told_by : Bool → ℕ → ℕ → Bytes → Result Bytes
  told_by ends nodes places payload = elim (not ends) [ true ↦ refused runs_into_itself | false ↦ if room_for placed nodes places then ok payload else refused full ]

  told_same : {b b' : Bool} {n n' m m' : ℕ} {p p' : Bytes} → b ≡ b' → n ≡ n' → m ≡ m' → p ≡ p' → told_by b n m p ≡ told_by b' n' m' p'
  told_same d e i j = rw (d, e, i, j) refl

  told_here : spell_ready Located placed (count T) ≡ told_by (ends_at (count T) S (at_loc l v)) (summed_at new_nodes (count T) S (at_loc l v)) (summed_at new_places (count T) S (at_loc l v)) (read_as f (suc (count T)) S (at_loc l v))
  unfolding spell_ready reaches_itself told_by
  told_here = told_same ends_here (summed_here new_nodes (nodes_through f g)) (summed_here new_places (places_through f g)) read_here

  RD_is : run T (RD (var_tree l (f v))) ≡ read_out T placed (ends_at (count T) S (at_loc l v)) (summed_at new_nodes (count T) S (at_loc l v)) (summed_at new_places (count T) S (at_loc l v)) (read_as f (suc (count T)) S (at_loc l v))
  unfolding with_state ◌>>=◌ read_out told_by
  RD_is =
      record_spells Located T h (var_tree l (f v)) (fine_var (a.var_lands v i)) placed (count T) (placed_var T l (f v) r) fits
      ∙ ap (with_state T) told_here
      ∙ go (ends_at (count T) S (at_loc l v)) (room_for placed (summed_at new_nodes (count T) S (at_loc l v)) (summed_at new_places (count T) S (at_loc l v))) (read_as f (suc (count T)) S (at_loc l v))
    where
      fits : Fits placed 0 0
      fits = (omega (arith, r.0, count_with_node T l (Var (f v))), omega (arith, r.1, places_placed T l (f v)))

      go : (b c : Bool) (p : Bytes) → with_state T (elim (not b) [ true ↦ refused runs_into_itself | false ↦ if c then ok p else refused full ]) ≡ elim b [ false ↦ refused runs_into_itself | true ↦ if c then ok (T, p) else refused full ]
      go false c p = refl
      go true true p = refl
      go true false p = refl

-- ---- what a run of RD tells

module _ (s placed : State) (b : Bool) (n m : ℕ) (p : Bytes) where
  nine_is : (read_out s placed b n m p ≡ refused runs_into_itself → b ≡ false) × (b ≡ false → read_out s placed b n m p ≡ refused runs_into_itself)
  unfolding read_out
  nine_is = go b
    where
      full_not : (d : Bool) → ◌≡◌ {A = Result (State × Bytes)} (if d then ok (s, p) else refused full) (refused runs_into_itself) → ⊥
      full_not true e = never (cc)
      full_not false e = never (cc)

      go : (b : Bool) → (read_out s placed b n m p ≡ refused runs_into_itself → b ≡ false) × (b ≡ false → read_out s placed b n m p ≡ refused runs_into_itself)
      go false = ((λ e. refl), λ e. refl)
      go true = ((λ e. absurd (full_not (room_for placed n m) e)), λ e. never (cc))

  ok_parts : (o : State) (q : Bytes) → read_out s placed b n m p ≡ ok (o, q) → (b ≡ true) × (room_for placed n m ≡ true) × (p ≡ q) × (o ≡ s)
  unfolding read_out
  ok_parts o q e = go b (room_for placed n m) refl refl e
    where
      go : (c d : Bool) → b ≡ c → room_for placed n m ≡ d → ◌≡◌ {A = Result (State × Bytes)} (elim c [ false ↦ refused runs_into_itself | true ↦ if d then ok (s, p) else refused full ]) (ok (o, q)) → (b ≡ true) × (room_for placed n m ≡ true) × (p ≡ q) × (o ≡ s)
      go false d x y e = never (cc)
      go true false x y e = never (cc)
      go true true x y e = (x, y, ap (λ (r : Result (State × Bytes)). elim r [ ok k ↦ k.1 | err z w ↦ [] | refused z ↦ [] ]) e, sym (ap (λ (r : Result (State × Bytes)). elim r [ ok k ↦ k.0 | err z w ↦ s | refused z ↦ s ]) e))

  ok_by : b ≡ true → room_for placed n m ≡ true → read_out s placed b n m p ≡ ok (s, p)
  unfolding read_out
  ok_by d e = rw (d, e) refl

short_zero : (s : State) (p : Bytes) → length p ≤ 4096 → (answer s (ok (s, p))).number ≡ 0
unfolding answer answer_within answer_with behind max_payload
short_zero s p k = rw (le_test (length p) 4096 k) refl

-- ---- before KP and after it

-- as many bytes, the same number
long_alike : (s c : State) (p q : Bytes) → length p ≡ length q → (answer s (ok (s, p))).number ≡ (answer c (ok (c, q))).number
unfolding answer answer_within answer_with behind refusal
long_alike s c p q e = rw e (go (leb (length q) max_payload))
  where
    go : (b : Bool) → (if b then record { number = 0; payload = p; state = s } else refusal s answer_too_long).number ≡ (if b then record { number = 0; payload = q; state = c } else refusal c answer_too_long).number
    go true = refl
    go false = refl

UF_answer : (s : State) (t : Tree) → reply s (UF t) ≡ answer s (run s (UF t))
unfolding reply apart most_of tail_of answer
UF_answer s t = refl

RD_answer : (s : State) (t : Tree) → reply s (RD t) ≡ answer s (run s (RD t))
unfolding reply apart most_of tail_of answer
RD_answer s t = refl

module _ (s : State) (h : sound s ≡ true) (listed : List ℕ) (known : TakenAll s listed) (l v v' : ℕ) (stays : moved s listed v ≡ Some v') (room : count s < max_nodes) where
  abbrev f : ℕ → ℕ
  f w = new_var s listed w

  abbrev c : State
  c = cleared s listed

  kept : Kept s listed (a_variable v)
  kept = (moved_kept s h listed known v v' stays).0

  is_new : new_var s listed v ≡ v'
  is_new = (moved_kept s h listed known v v' stays).1

  below : v < taken s
  below = kept_var_below s h listed known kept

  roomy : Roomy s
  roomy = (room, ((sound_is s).0 h).few_args)

  roomy_after : Roomy c
  roomy_after = (omega (arith, room, few_nodes_left s listed), omega (arith, ((sound_is s).0 h).few_args, few_places_left s listed))

  safe : sound c ≡ true
  safe = cleared_sound s h listed known

  -- UF shows the same type, with variables renumbered
  pub UF_same : (run s (UF (var_tree l v)) ≡ ok (s, written_as (λ w. w) (suc (suc (count s))) s (unfold_type s (at_loc l v))))
      × (run c (UF (var_tree l v')) ≡ ok (c, written_as f (suc (suc (count s))) s (unfold_type s (at_loc l v))))
  UF_same = (
    UF_is (alike_own s h) h roomy l v below (suc (suc (count s))) (omega arith),
    subst (λ (w : ℕ). run c (UF (var_tree l w)) ≡ ok (c, written_as f (suc (suc (count s))) s (unfold_type s (at_loc l v)))) is_new
        (UF_is (alike_cleared s h listed known) safe roomy_after l v kept (suc (suc (count s))) (omega (arith, few_nodes_left s listed))),
  )

  pub UF_number : (reply c (UF (var_tree l v'))).number ≡ (reply s (UF (var_tree l v))).number
  UF_number = rw (UF_answer c (var_tree l v'), UF_answer s (var_tree l v), UF_same.0, UF_same.1) (long_alike c s _ _ (written_long f (suc (suc (count s))) s (unfold_type s (at_loc l v))))

  abbrev x : Spanned TypeValue
  x = at_loc l v

  abbrev before : Result (State × Bytes)
  before = run s (RD (var_tree l v))

  abbrev afterwards : Result (State × Bytes)
  afterwards = run c (RD (var_tree l v'))

  few : count c ≤ count s
  few = few_nodes_left s listed

  -- reading ends in both states or in neither
  end_together : (b d : Bool) → ends_at (count s) s x ≡ b → ends_at (count c) s x ≡ d → b ≡ d
  end_together true true p q = refl
  end_together false false p q = refl
  end_together true false p q = never (let z = ends_enough (alike_cleared s h listed known) safe roomy_after l v kept (count s) p in cc)
  end_together false true p q = never (let z = ends_enough (alike_own s h) h roomy l v below (count c) q in cc)

  -- .. so KP's run of RD too is told over the state before
  nodes_at : ℕ → ℕ
  nodes_at n = summed_at new_nodes n s x

  places_at : ℕ → ℕ
  places_at n = summed_at new_places n s x

  RD_before : before ≡ read_out s (with_node s l (Var v)) (ends_at (count s) s x) (nodes_at (count s)) (places_at (count s)) (read_as (λ w. w) (suc (count s)) s x)
  unfolding nodes_at places_at
  RD_before = RD_is (alike_own s h) h roomy l v below

  RD_after : afterwards ≡ read_out c (with_node c l (Var v')) (ends_at (count c) s x) (nodes_at (count c)) (places_at (count c)) (read_as f (suc (count c)) s x)
  unfolding nodes_at places_at
  RD_after =
      subst (λ (w : ℕ). run c (RD (var_tree l w)) ≡ read_out c (with_node c l (Var w)) (ends_at (count c) s x) (nodes_at (count c)) (places_at (count c)) (read_as f (suc (count c)) s x)) is_new
      (RD_is (alike_cleared s h listed known) safe roomy_after l v kept)

  -- 9 is met in both states or in neither
  pub RD_nine : (before ≡ refused runs_into_itself) ↔ (afterwards ≡ refused runs_into_itself)
  RD_nine =
      let t = end_together (ends_at (count s) s x) (ends_at (count c) s x) refl refl in (
        (λ e. RD_after ∙ (nine_is c _ _ _ _ _).1 (sym t ∙ (nine_is s _ _ _ _ _).0 (sym RD_before ∙ e))),
        λ e. RD_before ∙ (nine_is s _ _ _ _ _).1 (t ∙ (nine_is c _ _ _ _ _).0 (sym RD_after ∙ e)),
      )

  -- and where it shows a type before, it shows the same one after, with variables renumbered
  pub RD_same : (p : Bytes) → before ≡ ok (s, p) → (p ≡ read_as (λ w. w) (suc (count s)) s x) × (afterwards ≡ ok (c, read_as f (suc (count s)) s x))
  unfolding nodes_at places_at
  RD_same p e =
      let k = ok_parts s (with_node s l (Var v)) (ends_at (count s) s x) (nodes_at (count s)) (places_at (count s)) (read_as (λ w. w) (suc (count s)) s x) s p (sym RD_before ∙ e) in
      let ends : ends_at (count c) s x ≡ true = sym (end_together (ends_at (count s) s x) (ends_at (count c) s x) refl refl) ∙ k.0 in
      let fit = room_fits (with_node s l (Var v)) (nodes_at (count s)) (places_at (count s)) k.1 in
      let nodes : nodes_at (count c) ≡ nodes_at (count s) = summed_levels s new_nodes (count c) (count s) x few ends in
      let places : places_at (count c) ≡ places_at (count s) = summed_levels s new_places (count c) (count s) x few ends in
      let fits : Fits (with_node c l (Var v')) (nodes_at (count c)) (places_at (count c)) = (
        omega (arith, fit.0, nodes, few, count_with_node s l (Var v), count_with_node c l (Var v')),
        omega (arith, fit.1, places, few_places_left s listed, places_placed s l v, places_placed c l v'),
      ) in (
        sym k.2,
        RD_after ∙ ok_by c (with_node c l (Var v')) (ends_at (count c) s x) (nodes_at (count c)) (places_at (count c)) (read_as f (suc (count c)) s x) ends (fits_room (with_node c l (Var v')) (nodes_at (count c)) (places_at (count c)) fits)
            ∙ ap (λ (b : Bytes). ok (c, b)) (read_levels s f (count c) (count s) x few ends),
      )

  -- 0 before gives 0 after
  pub RD_zero : (reply s (RD (var_tree l v))).number ≡ 0 → (reply c (RD (var_tree l v'))).number ≡ 0
  RD_zero e =
      let z = answered_0 s before (ap (λ (a : Answer). a.number) (sym (RD_answer s (var_tree l v))) ∙ e) in
      let k = RD_same _ (subst (λ (o : State). before ≡ ok (o, (answer s before).payload)) (left_is z.left _ z.is_ok) z.is_ok) in
      let m : length (read_as f (suc (count s)) s x) ≡ length (answer s before).payload = read_long f (suc (count s)) s x ∙ ap length (sym k.0) in
      rw (RD_answer c (var_tree l v'), k.1) (short_zero c (read_as f (suc (count s)) s x) (omega (arith, m, z.short)))
    where
      left_is : (o : State) (p : Bytes) → before ≡ ok (o, p) → o ≡ s
      left_is o p e = (ok_parts s (with_node s l (Var v)) (ends_at (count s) s x) (nodes_at (count s)) (places_at (count s)) (read_as (λ w. w) (suc (count s)) s x) o p (sym RD_before ∙ e)).3

-- FV gives the number of survivors, if there is room for one more
pub FV_after : (s : State) (listed : List ℕ) (l : ℕ) → length (reach s listed).vars < max_vars → run (cleared s listed) (FV l) ≡ ok (with_var (cleared s listed), head l (Var (length (reach s listed).vars)))
unfolding run next_tvar vars_of ◌>>=◌
FV_after s listed l r =
    let e : taken (cleared s listed) ≡ length (reach s listed).vars = taken_left s listed in
    rw (lt_test (taken (cleared s listed)) max_vars (omega (arith, r, e))) (ap (λ (n : ℕ). ok (with_var (cleared s listed), head l (Var n))) e)

-- KP itself, once read, answers 0
pub KP_answers_0 : (s : State) (bytes : Bytes) (buffer : ℕ) (listed : List ℕ) → usable s bytes buffer ≡ true → read_record s bytes ≡ got (KP listed) []
    → step s bytes buffer ≡ record { number = 0; payload = survivors (reach s listed).vars; state = cleared s listed }
unfolding step lent
KP_answers_0 s bytes buffer listed u e = rw (u, step) (rw e (KP_answers s (sound_of s bytes buffer u) listed))

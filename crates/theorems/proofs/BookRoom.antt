-- With space and depth enough, a join of types without variables is refused only for marks that disagree. Assumes nothing.
-- `Cost` bounds what a join adds by the size of its types; each arm within it, and then the induction on the depth (`roomy`).
use mathlib.Core.Path.{◌≡◌, refl, sym, ap, ◌∙◌}
use mathlib.Core.Bool.{Bool, true, false, not, ◌&&◌}
use mathlib.Core.List.{List, [], ◌∷◌}
use Rattle.std.specs.Prelude.{Option, None, Some}
use Prim.Native.Nat.{ℕ, zero, suc, ◌+◌, ◌≤◌, ◌<◌}
use native.Mathlib.Omega.{arith}
use lib.ListN.{length, length-append}
use lib.Dec.{eqb}
use borrow.Author.Tests.{lt-ltb, le-leb}
use Rattle.std.specs.Prelude.{if◌then◌else◌}
use Rattle.definition.specs.Types.{TypeName, Multiple, AbilityMark, TypeValue, Ref, Apply, State, max_nodes, max_args, TypingError, Incompatible, Refusal, abilities_disagree, Result, ok, err, refused, ◌>>=◌}
use Rattle.definition.specs.Store.{count, type_at, loc_of, with_node, args_of, sp}
use Rattle.definition.specs.Join.{TypingCase, JoinImpl, join_impl_types, join_mut, join_refs, same_name, is_multiple, same_mark, join_applies, arm, join_arm, join_impl}
use Rattle.definition.specs.Book.{MoveType, unit, reference, parameter, tuple, named, MoveTypes, no_types, ◌and◌, Denotes, is_unit, is_reference, is_parameter, is_tuple, is_named, Denote, are_none, are_each, ComesTo, succeeds, fails, cut_short}
use Rattle.theorems.proofs.BookDeep.{size, sizes, Levels, unit_level, reference_level, parameter_level, tuple_level, named_level, AllLevels, each_level, JoinRoom}
use Rattle.theorems.proofs.Laws.{count_with_node}
use Rattle.theorems.proofs.DemandTracks.{never}
use Rattle.theorems.proofs.DemandOrder.{Sound}
use Rattle.theorems.proofs.BookTypes.{many}
use Rattle.theorems.proofs.BookJoin.{Counts, Judges, judged, denotes_in, denote_keep}
use Rattle.theorems.proofs.DemandMain.{name_of}

-- an error, disagreeing marks, or a success with P
data FineWith {B : Type 0} (P : State → B → Type 0) : Result (State × B) → Type 0 where
  f_ok : {s : State} {b : B} → P s b → FineWith P (ok (s, b))
  f_err : {s : State} {e : TypingError} → FineWith P (err s e)
  f_ten : FineWith P (refused abilities_disagree)

f_bind : {B C : Type 0} {A P : State → B → Type 0} {Q : State → C → Type 0} {N : Type 0} {m : Result (State × B)} (f : State × B → Result (State × C)) → ComesTo A N m → FineWith P m
    → ((s : State) (b : B) → A s b → P s b → FineWith Q (f (s, b))) → FineWith Q (m >>= f)
unfolding ◌>>=◌
f_bind f (succeeds {s = s} {b = b} a) (f_ok p) h = h s b a p
f_bind f (fails n e) f_err h = f_err
f_bind f (cut_short x) f_ten h = f_ten

f_then : {B C : Type 0} {P : State → B → Type 0} {Q : State → C → Type 0} {m : Result (State × B)} (f : State × B → Result (State × C)) → FineWith P m → ((s : State) (b : B) → P s b → FineWith Q (f (s, b))) → FineWith Q (m >>= f)
unfolding ◌>>=◌
f_then f (f_ok p) h = h _ _ p
f_then f f_err h = f_err
f_then f f_ten h = f_ten

f_map : {B : Type 0} {P Q : State → B → Type 0} {m : Result (State × B)} → ((s : State) (b : B) → P s b → Q s b) → FineWith P m → FineWith Q m
f_map h (f_ok p) = f_ok (h _ _ p)
f_map h f_err = f_err
f_map h f_ten = f_ten

f_if : {B : Type 0} {P : State → B → Type 0} (b : Bool) {x y : Result (State × B)} → FineWith P x → FineWith P y → FineWith P (if b then x else y)
f_if true p q = p
f_if false p q = q

-- at most k nodes and fewer than k places are added
record Cost (S : State) (k : ℕ) (S' : State) (t : ℕ) : Type 0 where
  nodes : count S' ≤ count S + k
  places : length S'.args < length S.args + k

record Costs (S : State) (k p : ℕ) (S' : State) (ts : List ℕ) : Type 0 where
  nodes : count S' ≤ count S + k
  places : length S'.args + p ≤ length S.args + k
  few : length ts ≤ p

record New (S : State) (sh : TypeValue) (S' : State) (t : ℕ) : Type 0 where
  one_node : count S' ≡ suc (count S)
  its_places : length S'.args ≡ length S.args + length (args_of sh)

sp_fine : (S : State) (l : ℕ) (sh : TypeValue) → count S < max_nodes → length S.args + length (args_of sh) ≤ max_args → FineWith (New S sh) (sp S l sh)
unfolding sp with_node
sp_fine S l sh h i = rw (lt-ltb _ _ h, le-leb _ _ i) (f_ok (record { one_node = count_with_node S l sh; its_places = length-append S.args (args_of sh) }))

-- the join of what is below
abbrev Rooms : (TypeName → ℕ) → ℕ → Type 0
Rooms ar d = (c : TypingCase) (S : State) (l r : ℕ) (L R : MoveType) → Sound ar S → Denotes S l L → Denotes S r R → JoinRoom S d L → FineWith (Cost S (size L)) (join_impl d S c l r)

module _ {ar : TypeName → ℕ} (counts : Counts ar) {d : ℕ} (h : Rooms ar d) (c : TypingCase) where
  abbrev J : JoinImpl
  J = λ s c l r. join_impl d s c l r

  g : Judges ar J
  g = judged counts d

  types_room : (ls rs : List ℕ) (S : State) (Ls Rs : MoveTypes) → Sound ar S → Denote S ls Ls → Denote S rs Rs → length ls ≡ length rs → count S + sizes Ls ≤ max_nodes → length S.args + sizes Ls ≤ max_args → AllLevels d Ls
      → FineWith (Costs S (sizes Ls) (many Ls)) (join_impl_types J S c ls rs)
  unfolding join_impl_types
  types_room [] rs S no_types Rs s are_none ds e n p v = f_ok {s = S} {b = []} (record { nodes = omega arith; places = omega arith; few = omega arith })
  types_room [] rs S (◌and◌ L Ls) Rs s es ds e n p v = elim es [ ]
  types_room (l ∷ ls) [] S Ls Rs s es ds e n p v = absurd (omega arith)
  types_room (l ∷ ls) (r ∷ rs) S no_types Rs s es ds q n p v = elim es [ ]
  types_room (l ∷ ls) (r ∷ rs) S (◌and◌ L Ls) no_types s es ds q n p v = elim ds [ ]
  types_room (l ∷ ls) (r ∷ rs) S (◌and◌ L Ls) (◌and◌ R Rs) s (are_each e es) (are_each e' es') q n p (each_level v vs) =
      f_bind _ (g c S l r L R s e e') (h c S l r L R s e e' (record { nodes_left = omega arith; places_left = omega arith; levels = v })) (λ S1 t j k.
      f_then _ (types_room ls rs S1 Ls Rs j.sound (denote_keep es j.quiet) (denote_keep es' j.quiet) (omega arith) (omega (arith, k.nodes)) (omega (arith, k.places)) vs) (λ S2 ts w.
      f_ok {s = S2} {b = t ∷ ts} (record { nodes = omega (arith, k.nodes, w.nodes); places = omega (arith, k.places, w.places); few = omega (arith, w.few) })))

  refs_room : (S : State) (l r : ℕ) (m1 : Bool) (t1 : ℕ) (m2 : Bool) (t2 : ℕ) (L R : MoveType) → Sound ar S → Denotes S t1 L → Denotes S t2 R → JoinRoom S (suc d) (reference m1 L) → (o : Option Bool)
      → FineWith (Cost S (suc (size L))) (join_refs J S c l r m1 t1 m2 t2 o)
  unfolding join_refs args_of
  refs_room S l r m1 t1 m2 t2 L R s e e' o None = f_err
  refs_room S l r m1 t1 m2 t2 L R s e e' o (Some m) =
      f_bind _ (g c S t1 t2 L R s e e') (h c S t1 t2 L R s e e' (record { nodes_left = omega (arith, o.nodes_left); places_left = omega (arith, o.places_left); levels = below o.levels })) (λ S1 t j k.
      f_map (λ S2 u w. record { nodes = omega (arith, k.nodes, w.one_node); places = omega (arith, k.places, w.its_places) }) (sp_fine S1 _ (Ref m t) (omega (arith, k.nodes, o.nodes_left)) (omega (arith, k.places, o.places_left))))
    where
      below : {d : ℕ} → Levels (suc d) (reference m1 L) → Levels d L
      below (reference_level v) = v

  applies_room : (S : State) (l r : ℕ) (k1 : AbilityMark) (n1 : TypeName) (tys1 : List ℕ) (k2 : AbilityMark) (n2 : TypeName) (tys2 : List ℕ) (Ls Rs : MoveTypes) → Sound ar S → Denote S tys1 Ls → Denote S tys2 Rs
      → (n1 ≡ n2 → length tys1 ≡ length tys2) → count S + suc (sizes Ls) ≤ max_nodes → length S.args + suc (sizes Ls) ≤ max_args → AllLevels d Ls → FineWith (Cost S (suc (sizes Ls))) (join_applies J S c l r k1 n1 tys1 k2 n2 tys2)
  unfolding join_applies args_of
  applies_room S l r k1 n1 tys1 k2 n2 tys2 Ls Rs s e e' long n p v =
      f_if (is_multiple n1 && is_multiple n2 && not (same_name n1 n2)) f_err (go (same_name n1 n2) refl)
    where
      go : (b : Bool) → same_name n1 n2 ≡ b → FineWith (Cost S (suc (sizes Ls))) (if not b then err S (Incompatible l r) else if not (same_mark k1 k2) then refused abilities_disagree else (join_impl_types J S c tys1 tys2 >>= (λ (x : State × List ℕ). sp x.0 (loc_of S r) (Apply k2 n2 x.1))))
      go false q = f_err
      go true q = f_if (not (same_mark k1 k2)) f_ten (
          f_then _ (types_room tys1 tys2 S Ls Rs s e e' (long (name_of n1 n2 q)) (omega arith) (omega arith) v) (λ S1 ts w.
          f_map (λ S2 u z. record { nodes = omega (arith, w.nodes, z.one_node); places = omega (arith, w.places, w.few, z.its_places) }) (sp_fine S1 _ (Apply k2 n2 ts) (omega (arith, w.nodes)) (omega (arith, w.places, w.few)))))

no_level : {L : MoveType} → Levels 0 L → ⊥
no_level v = go v refl
  where
    go : {n : ℕ} {L : MoveType} → Levels n L → n ≡ 0 → ⊥
    go unit_level e = absurd (omega arith)
    go (reference_level v) e = absurd (omega arith)
    go parameter_level e = absurd (omega arith)
    go (tuple_level v) e = absurd (omega arith)
    go (named_level v) e = absurd (omega arith)

-- equal names have equally many arguments
same_long : {ar : TypeName → ℕ} {S : State} {k1 k2 : AbilityMark} {n1 n2 : TypeName} {ps1 ps2 : List ℕ} → Sound ar S → (l r : ℕ) → type_at S l ≡ Apply k1 n1 ps1 → type_at S r ≡ Apply k2 n2 ps2 → l < count S → r < count S → n1 ≡ n2 → length ps1 ≡ length ps2
same_long {ar} {k1 = k1} {k2 = k2} {n1 = n1} {n2 = n2} {ps1 = ps1} {ps2 = ps2} s l r e e' i j h = s.arity l k1 n1 ps1 i e ∙ ap ar h ∙ sym (s.arity r k2 n2 ps2 j e')

tuple_levels : {d : ℕ} {Ts : MoveTypes} → Levels (suc d) (tuple Ts) → AllLevels d Ts
tuple_levels (tuple_level v) = v

named_levels : {d : ℕ} {n : TypeName} {Ts : MoveTypes} → Levels (suc d) (named n Ts) → AllLevels d Ts
named_levels (named_level v) = v

itself : (S : State) (r k : ℕ) → 0 < k → FineWith (Cost S k) (ok (S, r))
itself S r k h = f_ok {s = S} {b = r} (record { nodes = omega arith; places = omega arith })

module _ {ar : TypeName → ℕ} (counts : Counts ar) {d : ℕ} where
  arm_room : Rooms ar d → (c : TypingCase) (S : State) (l r : ℕ) (L R : MoveType) → Sound ar S → Denotes S l L → Denotes S r R → JoinRoom S (suc d) L
      → FineWith (Cost S (size L)) (join_arm (λ s c l r. join_impl d s c l r) S c l r (arm (type_at S l) (type_at S r)))
  unfolding join_arm arm
  arm_room h c S l r unit unit s (is_unit e) (is_unit e') o = rw (e, e') (itself S r 1 (omega arith))
  arm_room h c S l r (reference m1 L) (reference m2 R) s (is_reference {p = t1} e f) (is_reference {p = t2} e' f') o = rw (e, e') (refs_room counts h c S l r m1 t1 m2 t2 L R s f f' o (join_mut c m1 m2))
  arm_room h c S l r (parameter i) (parameter j) s (is_parameter e) (is_parameter e') o = rw (e, e') (f_if (eqb i j) (itself S r 1 (omega arith)) f_err)
  arm_room h c S l r (tuple Ls) (tuple Rs) s (is_tuple {n = n1} {k = k1} {ps = ps1} e f) (is_tuple {n = n2} {k = k2} {ps = ps2} e' f') o =
      rw (e, e') (applies_room counts h c S l r k1 (Multiple n1) ps1 k2 (Multiple n2) ps2 Ls Rs s f f' (same_long s l r e e' (denotes_in (is_tuple e f)) (denotes_in (is_tuple e' f'))) o.nodes_left o.places_left (tuple_levels o.levels))
  arm_room h c S l r (tuple Ls) (named n Rs) s (is_tuple {n = n1} {k = k1} {ps = ps1} e f) (is_named {k = k2} {ps = ps2} e' m' f') o =
      rw (e, e') (applies_room counts h c S l r k1 (Multiple n1) ps1 k2 n ps2 Ls Rs s f f' (same_long s l r e e' (denotes_in (is_tuple e f)) (denotes_in (is_named e' m' f'))) o.nodes_left o.places_left (tuple_levels o.levels))
  arm_room h c S l r (named n Ls) (tuple Rs) s (is_named {k = k1} {ps = ps1} e m f) (is_tuple {n = n2} {k = k2} {ps = ps2} e' f') o =
      rw (e, e') (applies_room counts h c S l r k1 n ps1 k2 (Multiple n2) ps2 Ls Rs s f f' (same_long s l r e e' (denotes_in (is_named e m f)) (denotes_in (is_tuple e' f'))) o.nodes_left o.places_left (named_levels o.levels))
  arm_room h c S l r (named n1 Ls) (named n2 Rs) s (is_named {k = k1} {ps = ps1} e m f) (is_named {k = k2} {ps = ps2} e' m' f') o =
      rw (e, e') (applies_room counts h c S l r k1 n1 ps1 k2 n2 ps2 Ls Rs s f f' (same_long s l r e e' (denotes_in (is_named e m f)) (denotes_in (is_named e' m' f'))) o.nodes_left o.places_left (named_levels o.levels))
  arm_room h c S l r unit (reference m R) s (is_unit e) (is_reference e' d') o = rw (e, e') f_err
  arm_room h c S l r unit (parameter id) s (is_unit e) (is_parameter e') o = rw (e, e') f_err
  arm_room h c S l r unit (tuple Rs) s (is_unit e) (is_tuple e' d') o = rw (e, e') f_err
  arm_room h c S l r unit (named n Rs) s (is_unit e) (is_named e' m' d') o = rw (e, e') f_err
  arm_room h c S l r (reference m L) unit s (is_reference e d) (is_unit e') o = rw (e, e') f_err
  arm_room h c S l r (reference m L) (parameter id) s (is_reference e d) (is_parameter e') o = rw (e, e') f_err
  arm_room h c S l r (reference m L) (tuple Rs) s (is_reference e d) (is_tuple e' d') o = rw (e, e') f_err
  arm_room h c S l r (reference m L) (named n Rs) s (is_reference e d) (is_named e' m' d') o = rw (e, e') f_err
  arm_room h c S l r (parameter i) unit s (is_parameter e) (is_unit e') o = rw (e, e') f_err
  arm_room h c S l r (parameter i) (reference m R) s (is_parameter e) (is_reference e' d') o = rw (e, e') f_err
  arm_room h c S l r (parameter i) (tuple Rs) s (is_parameter e) (is_tuple e' d') o = rw (e, e') f_err
  arm_room h c S l r (parameter i) (named n Rs) s (is_parameter e) (is_named e' m' d') o = rw (e, e') f_err
  arm_room h c S l r (tuple Ls) unit s (is_tuple e d) (is_unit e') o = rw (e, e') f_err
  arm_room h c S l r (tuple Ls) (reference m R) s (is_tuple e d) (is_reference e' d') o = rw (e, e') f_err
  arm_room h c S l r (tuple Ls) (parameter id) s (is_tuple e d) (is_parameter e') o = rw (e, e') f_err
  arm_room h c S l r (named n Ls) unit s (is_named e m d) (is_unit e') o = rw (e, e') f_err
  arm_room h c S l r (named n Ls) (reference m R) s (is_named e m'' d) (is_reference e' d') o = rw (e, e') f_err
  arm_room h c S l r (named n Ls) (parameter id) s (is_named e m d) (is_parameter e') o = rw (e, e') f_err

rooms : {ar : TypeName → ℕ} → Counts ar → (d : ℕ) → Rooms ar d
unfolding join_impl
rooms counts zero c S l r L R s f f' o = absurd (no_level o.levels)
rooms counts (suc d) c S l r L R s f f' o = arm_room counts {d = d} (λ c S l r L R s f f' o. rooms counts d c S l r L R s f f' o) c S l r L R s f f' o

pub roomy : {ar : TypeName → ℕ} → Counts ar → (d : ℕ) (c : TypingCase) (S : State) (l r : ℕ) (L R : MoveType) → Sound ar S → Denotes S l L → Denotes S r R → JoinRoom S d L → (x : Refusal) → join_impl d S c l r ≡ refused x → x ≡ abilities_disagree
roomy counts d c S l r L R s f f' o x e = go (join_impl d S c l r) (rooms counts d c S l r L R s f f' o) e
  where
    go : (m : Result (State × ℕ)) → FineWith (Cost S (size L)) m → m ≡ refused x → x ≡ abilities_disagree
    go (ok a) (f_ok p) e = never (cc)
    go (err t y) f_err e = never (cc)
    go (refused y) f_ten e = cc

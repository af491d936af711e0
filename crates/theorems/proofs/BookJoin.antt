-- Joins of types without variables come to what the Move Book's rules say, at every depth. Assumes nothing.
-- First that a node keeps the type of Move's that it is; then what a call comes to; then the join by induction on the depth: its result is the best type (`Gives`).
use mathlib.Core.Path.{◌≡◌, refl, sym, ap, ◌∙◌, subst}
use mathlib.Core.Bool.{Bool, true, false, not, ◌&&◌}
use mathlib.Core.List.{List, [], ◌∷◌}
use Rattle.std.specs.Prelude.{Option, None, Some}
use Prim.Native.Nat.{ℕ, zero, suc, ◌≤◌, ◌<◌}
use native.Mathlib.Omega.{arith}
use lib.ListN.{length, get_or-eq_default}
use lib.Dec.{eqb}
use borrow.Author.Tests.{eqb-false, not-true, not-false, eq-eqb}
use Rattle.definition.specs.Types.{TypeName, Multiple, Builtin, ModuleType, AbilityMark, TypeValue, Ref, Apply, UnresolvedError, Node, State}
use Rattle.std.specs.Prelude.{if◌then◌else◌}
use Rattle.definition.specs.Types.{Incompatible, Result, err, ◌>>=◌}
use Rattle.definition.specs.Store.{nowhere, count, node, type_at, with_args, sp}
use Rattle.definition.specs.Join.{TypingCase, JoinImpl, join_impl_types, join_mut, join_refs, same_name, is_multiple, same_mark, join_applies, arm, join_arm, join_impl}
use Rattle.definition.specs.Book.{MoveType, unit, reference, parameter, tuple, named, MoveTypes, no_types, ◌and◌, Denotes, is_unit, is_reference, is_parameter, is_tuple, is_named, Denote, are_none, are_each}
use Rattle.definition.specs.Book.{no_subtype, incompatible, other_count, no_space, no_depth, other_marks, ComesTo, succeeds, fails, cut_short}
use Rattle.theorems.proofs.DemandTracks.{never}
use Rattle.theorems.proofs.DemandOrder.{All, Sound}
use Rattle.theorems.proofs.DemandSteps.{Quiet, quiet_refl, quiet_trans, NodeOk}
use Rattle.theorems.proofs.SoundRoom.{with_room, sp_room}
use Rattle.theorems.proofs.DemandCalls.{NewNode, new_node}
use Rattle.theorems.proofs.DemandMain.{eq_of, name_of}
use Rattle.theorems.proofs.DemandWent.{ref_ok, apply_ok}
use Rattle.theorems.proofs.BookTypes.{Best, Bests, mut_best, mut_none, best_unit, best_parameter, best_reference, best_tuple, best_named, bests_none, bests_each}
use Rattle.theorems.proofs.BookTypes.{Apart, Aparts, head_of, many, apart_heads, apart_mut, apart_inner, apart_ids, apart_names, apart_arguments, apart_elements, aparts_first, aparts_rest, aparts_many, served_many}

-- ---- a node that is a type of Move's is below the count, and stays that type

value_beyond : (S : State) (t : ℕ) → count S ≤ t → type_at S t ≡ UnresolvedError
unfolding type_at node with_args
value_beyond S t h = ap (λ (n : Node). with_args S n.value) (get_or-eq_default S.nodes nowhere h)

inside : (S : State) (t : ℕ) → (type_at S t ≡ UnresolvedError → ⊥) → t < count S
inside S t h = elim (native.Mathlib.Decide.dec_lt t (count S)) [ yes l ↦ l | no l ↦ absurd (h (value_beyond S t (omega arith))) ]

pub denotes_in : {S : State} {t : ℕ} {T : MoveType} → Denotes S t T → t < count S
denotes_in {S} {t} (is_unit e) = inside S t (λ d. never (cc))
denotes_in {S} {t} (is_reference e d) = inside S t (λ d. never (cc))
denotes_in {S} {t} (is_parameter e) = inside S t (λ d. never (cc))
denotes_in {S} {t} (is_tuple e ds) = inside S t (λ d. never (cc))
denotes_in {S} {t} (is_named e m ds) = inside S t (λ d. never (cc))

mutual
  pub denotes_keep : {S : State} {t : ℕ} {T : MoveType} → Denotes S t T → {S' : State} → Quiet S S' → Denotes S' t T
  denotes_keep {t = t} (is_unit e) q = is_unit (q.q_kept t (denotes_in (is_unit e)) ∙ e)
  denotes_keep {t = t} (is_reference e d) q = is_reference (q.q_kept t (denotes_in (is_reference e d)) ∙ e) (denotes_keep d q)
  denotes_keep {t = t} (is_parameter e) q = is_parameter (q.q_kept t (denotes_in (is_parameter e)) ∙ e)
  denotes_keep {t = t} (is_tuple e ds) q = is_tuple (q.q_kept t (denotes_in (is_tuple e ds)) ∙ e) (denote_keep ds q)
  denotes_keep {t = t} (is_named e m ds) q = is_named (q.q_kept t (denotes_in (is_named e m ds)) ∙ e) m (denote_keep ds q)

  pub denote_keep : {S : State} {ts : List ℕ} {Ts : MoveTypes} → Denote S ts Ts → {S' : State} → Quiet S S' → Denote S' ts Ts
  denote_keep are_none q = are_none
  denote_keep (are_each d ds) q = are_each (denotes_keep d q) (denote_keep ds q)

denote_many : {S : State} {ts : List ℕ} {Ts : MoveTypes} → Denote S ts Ts → length ts ≡ many Ts
denote_many are_none = refl
denote_many (are_each d ds) = ap suc (denote_many ds)

denote_in : {S : State} {ts : List ℕ} {Ts : MoveTypes} → Denote S ts Ts → All (λ t. t < count S) ts
denote_in are_none = tt
denote_in (are_each d ds) = (denotes_in d, denote_in ds)

-- ---- what a call comes to

bind_to : {B C : Type 0} {P : State → B → Type 0} {Q : State → C → Type 0} {M N : Type 0} {m : Result (State × B)} (f : State × B → Result (State × C))
    → ComesTo P M m → (M → N) → ((s : State) (b : B) → P s b → ComesTo Q N (f (s, b))) → ComesTo Q N (m >>= f)
unfolding ◌>>=◌
bind_to f (succeeds {s = s} {b = b} p) n k = k s b p
bind_to f (fails m e) n k = fails (n m) e
bind_to f (cut_short x) n k = cut_short x

pub map_to : {B : Type 0} {P Q : State → B → Type 0} {M N : Type 0} {m : Result (State × B)} → ((s : State) (b : B) → P s b → Q s b) → (M → N) → ComesTo P M m → ComesTo Q N m
map_to f n (succeeds {s = s} {b = b} p) = succeeds (f s b p)
map_to f n (fails m e) = fails (n m) e
map_to f n (cut_short x) = cut_short x

if_to : {B : Type 0} {P : State → B → Type 0} {N : Type 0} (b : Bool) {x y : Result (State × B)} → (b ≡ true → ComesTo P N x) → (b ≡ false → ComesTo P N y) → ComesTo P N (if b then x else y)
if_to true f g = f refl
if_to false f g = g refl

sp_to : {ar : TypeName → ℕ} {S : State} {N : Type 0} → Sound ar S → (l : ℕ) (sh : TypeValue) → NodeOk ar S sh → ComesTo (NewNode ar S sh) N (sp S l sh)
sp_to {ar} {S} {N} s l sh o = with_room (ComesTo (NewNode ar S sh) N) (sp_room S l sh) (λ e. succeeds (new_node s l sh o)) (cut_short no_space)

-- ---- the join

pub record Gives (ar : TypeName → ℕ) (c : TypingCase) (S : State) (L R : MoveType) (S' : State) (t : ℕ) : Type 0 where
  pub sound : Sound ar S'
  pub quiet : Quiet S S'
  pub type : MoveType
  pub is : Denotes S' t type
  pub the_best : Best c L R type

pub record Give (ar : TypeName → ℕ) (c : TypingCase) (S : State) (Ls Rs : MoveTypes) (S' : State) (ts : List ℕ) : Type 0 where
  pub sound : Sound ar S'
  pub quiet : Quiet S S'
  pub types : MoveTypes
  pub are : Denote S' ts types
  pub the_bests : Bests c Ls Rs types

abbrev pub Judged : (TypeName → ℕ) → TypingCase → State → MoveType → MoveType → Result (State × ℕ) → Type 0
Judged ar c S L R m = ComesTo (Gives ar c S L R) (Apart c L R) m

abbrev pub Judges : (TypeName → ℕ) → JoinImpl → Type 0
Judges ar join = (c : TypingCase) (S : State) (l r : ℕ) (L R : MoveType) → Sound ar S → Denotes S l L → Denotes S r R → Judged ar c S L R (join S c l r)

same_is : (n m : TypeName) → n ≡ m → same_name n m ≡ true
unfolding same_name
same_is n m e = rw (sym e) (go n)
  where
    go : (n : TypeName) → same_name n n ≡ true
    go (Multiple a) = eq-eqb a a refl
    go (Builtin a) = eq-eqb a a refl
    go (ModuleType a) = eq-eqb a a refl

not_same : (n m : TypeName) → same_name n m ≡ false → n ≡ m → ⊥
not_same n m e d = never (let c = same_is n m d in cc)

and_not : (a b : Bool) → a && not b ≡ true → b ≡ false
and_not true true e = never (cc)
and_not true false e = refl
and_not false b e = never (cc)

module _ {ar : TypeName → ℕ} (join : JoinImpl) (g : Judges ar join) (c : TypingCase) where
  types_to : (ls rs : List ℕ) (S : State) (Ls Rs : MoveTypes) → Sound ar S → Denote S ls Ls → Denote S rs Rs → length ls ≡ length rs → ComesTo (Give ar c S Ls Rs) (Aparts c Ls Rs) (join_impl_types join S c ls rs)
  unfolding join_impl_types
  types_to [] [] S no_types no_types s are_none are_none e = succeeds (record { sound = s; quiet = quiet_refl S; types = no_types; are = are_none; the_bests = bests_none })
  types_to [] [] S no_types (◌and◌ R Rs) s d d' e = elim d' [ ]
  types_to [] [] S (◌and◌ L Ls) Rs s d d' e = elim d [ ]
  types_to [] (r ∷ rs) S Ls Rs s d d' e = absurd (omega arith)
  types_to (l ∷ ls) [] S Ls Rs s d d' e = absurd (omega arith)
  types_to (l ∷ ls) (r ∷ rs) S no_types Rs s d d' e = elim d [ ]
  types_to (l ∷ ls) (r ∷ rs) S (◌and◌ L Ls) no_types s d d' e = elim d' [ ]
  types_to (l ∷ ls) (r ∷ rs) S (◌and◌ L Ls) (◌and◌ R Rs) s (are_each d ds) (are_each d' ds') e =
      bind_to _ (g c S l r L R s d d') aparts_first (λ S1 t j.
      bind_to _ (types_to ls rs S1 Ls Rs j.sound (denote_keep ds j.quiet) (denote_keep ds' j.quiet) (omega arith)) aparts_rest (λ S2 ts k. succeeds (record {
        sound = k.sound;
        quiet = quiet_trans j.quiet k.quiet;
        types = ◌and◌ j.type k.types;
        are = are_each (denotes_keep j.is k.quiet) k.are;
        the_bests = bests_each j.the_best k.the_bests;
      })))

  module _ {S : State} (s : Sound ar S) (l r : ℕ) where
    refs_to : (m1 : Bool) (t1 : ℕ) (m2 : Bool) (t2 : ℕ) (L R : MoveType) → Denotes S t1 L → Denotes S t2 R → (o : Option Bool) → join_mut c m1 m2 ≡ o
        → Judged ar c S (reference m1 L) (reference m2 R) (join_refs join S c l r m1 t1 m2 t2 o)
    unfolding join_refs
    refs_to m1 t1 m2 t2 L R d1 d2 None e = fails (apart_mut (λ m. mut_none c m1 m2 m e)) no_subtype
    refs_to m1 t1 m2 t2 L R d1 d2 (Some m) e =
        let b = mut_best c m1 m2 m e in
        bind_to _ (g c S t1 t2 L R s d1 d2) apart_inner (λ S1 t j.
        map_to (λ S2 n p. record {
          sound = p.sound;
          quiet = quiet_trans j.quiet p.quiet;
          type = reference m j.type;
          is = is_reference p.is (denotes_keep j.is p.quiet);
          the_best = best_reference b.0 b.1 j.the_best;
        }) (λ x. x) (sp_to j.sound _ (Ref m t) (ref_ok m t (denotes_in j.is))))

    -- lists, builtins and structs: apart where the names are, and else as their arguments are
    applies_to : (k1 : AbilityMark) (n1 : TypeName) (tys1 : List ℕ) (k2 : AbilityMark) (n2 : TypeName) (tys2 : List ℕ) (Ls Rs : MoveTypes) (L R : MoveType) → Denote S tys1 Ls → Denote S tys2 Rs
        → (n1 ≡ n2 → length tys1 ≡ length tys2) → length tys2 ≡ ar n2 → (same_name n1 n2 ≡ false → Apart c L R) → (Aparts c Ls Rs → Apart c L R)
        → ((S' : State) (t : ℕ) (ts : List ℕ) (Ts : MoveTypes) → n1 ≡ n2 → type_at S' t ≡ Apply k2 n2 ts → Denote S' ts Ts → Bests c Ls Rs Ts → (T : MoveType) × Denotes S' t T × Best c L R T)
        → Judged ar c S L R (join_applies join S c l r k1 n1 tys1 k2 n2 tys2)
    unfolding join_applies
    applies_to k1 n1 tys1 k2 n2 tys2 Ls Rs L R d1 d2 long a2 other down up =
        if_to (is_multiple n1 && is_multiple n2 && not (same_name n1 n2)) (λ e. fails (other (and_not (is_multiple n1 && is_multiple n2) _ e)) other_count) (λ e0.
        if_to (not (same_name n1 n2)) (λ e. fails (other (not-true _ e)) incompatible) (λ e1.
        if_to (not (same_mark k1 k2)) (λ e. cut_short other_marks) (λ e2.
        let same : n1 ≡ n2 = name_of n1 n2 (not-false _ e1) in
        bind_to _ (types_to tys1 tys2 S Ls Rs s d1 d2 (long same)) down (λ S1 ts j.
        map_to (λ S2 t p.
        let u = up S2 t ts j.types same p.is (denote_keep j.are p.quiet) j.the_bests in
        record { sound = p.sound; quiet = quiet_trans j.quiet p.quiet; type = u.0; is = u.1; the_best = u.2 })
        (λ x. x) (sp_to j.sound _ (Apply k2 n2 ts) (apply_ok k2 n2 ts (denote_in j.are) (denote_many j.are ∙ served_many j.the_bests.serve ∙ sym (denote_many d2) ∙ a2)))))))

-- ---- every depth

-- an expression list has as many elements as its count says
abbrev pub Counts : (TypeName → ℕ) → Type 0
Counts ar = (n : ℕ) → ar (Multiple n) ≡ n

apart_counts : {S : State} {c : TypingCase} {ls rs : List ℕ} {Ls Rs : MoveTypes} (ar : TypeName → ℕ) (a b : ℕ) → Counts ar → length ls ≡ ar (Multiple a) → length rs ≡ ar (Multiple b) → Denote S ls Ls → Denote S rs Rs
    → same_name (Multiple a) (Multiple b) ≡ false → Apart c (tuple Ls) (tuple Rs)
apart_counts ar a b h ha hb dl dr e = apart_elements (aparts_many (λ m. not_same (Multiple a) (Multiple b) e (ap Multiple (omega (arith, h a, h b, ha, hb, denote_many dl, denote_many dr, m)))))

no_multiple : {A : Type 0} (n : ℕ) (k : TypeName) → k ≡ Multiple n → is_multiple k ≡ false → A
unfolding is_multiple
no_multiple n k e h = never (let d : true ≡ false = rw e at h in cc)

off : {ar : TypeName → ℕ} {c : TypingCase} {S : State} {l r : ℕ} {L R : MoveType} → (head_of L ≡ head_of R → ⊥) → Judged ar c S L R (err S (Incompatible l r))
off h = fails (apart_heads h) incompatible

module _ {ar : TypeName → ℕ} (counts : Counts ar) where
  arm_to : (join : JoinImpl) → Judges ar join → (c : TypingCase) (S : State) (l r : ℕ) (L R : MoveType) → Sound ar S → Denotes S l L → Denotes S r R → Judged ar c S L R (join_arm join S c l r (arm (type_at S l) (type_at S r)))
  unfolding join_arm arm
  arm_to join g c S l r unit unit s (is_unit e) (is_unit e') = rw (e, e') (succeeds (record { sound = s; quiet = quiet_refl S; type = unit; is = is_unit e'; the_best = best_unit }))
  arm_to join g c S l r unit (reference m R) s (is_unit e) (is_reference e' d') = rw (e, e') (off (λ h. omega arith))
  arm_to join g c S l r unit (parameter id) s (is_unit e) (is_parameter e') = rw (e, e') (off (λ h. omega arith))
  arm_to join g c S l r unit (tuple Rs) s (is_unit e) (is_tuple e' d') = rw (e, e') (off (λ h. omega arith))
  arm_to join g c S l r unit (named n Rs) s (is_unit e) (is_named e' m' d') = rw (e, e') (off (λ h. omega arith))
  arm_to join g c S l r (reference m L) unit s (is_reference e d) (is_unit e') = rw (e, e') (off (λ h. omega arith))
  arm_to join g c S l r (reference m1 L) (reference m2 R) s (is_reference {p = t1} e d) (is_reference {p = t2} e' d') = rw (e, e') (refs_to join g c s l r m1 t1 m2 t2 L R d d' (join_mut c m1 m2) refl)
  arm_to join g c S l r (reference m L) (parameter id) s (is_reference e d) (is_parameter e') = rw (e, e') (off (λ h. omega arith))
  arm_to join g c S l r (reference m L) (tuple Rs) s (is_reference e d) (is_tuple e' d') = rw (e, e') (off (λ h. omega arith))
  arm_to join g c S l r (reference m L) (named n Rs) s (is_reference e d) (is_named e' m' d') = rw (e, e') (off (λ h. omega arith))
  arm_to join g c S l r (parameter i) unit s (is_parameter e) (is_unit e') = rw (e, e') (off (λ h. omega arith))
  arm_to join g c S l r (parameter i) (reference m R) s (is_parameter e) (is_reference e' d') = rw (e, e') (off (λ h. omega arith))
  arm_to join g c S l r (parameter i) (parameter j) s (is_parameter e) (is_parameter e') = rw (e, e') (
      if_to (eqb i j)
      (λ h. let d : i ≡ j = eq_of i j h in succeeds (record { sound = s; quiet = quiet_refl S; type = parameter j; is = is_parameter e'; the_best = subst (λ (x : ℕ). Best c (parameter x) (parameter j) (parameter j)) (sym d) best_parameter }))
      (λ h. fails (apart_ids (eqb-false i j h)) incompatible))
  arm_to join g c S l r (parameter i) (tuple Rs) s (is_parameter e) (is_tuple e' d') = rw (e, e') (off (λ h. omega arith))
  arm_to join g c S l r (parameter i) (named n Rs) s (is_parameter e) (is_named e' m' d') = rw (e, e') (off (λ h. omega arith))
  arm_to join g c S l r (tuple Ls) unit s (is_tuple e d) (is_unit e') = rw (e, e') (off (λ h. omega arith))
  arm_to join g c S l r (tuple Ls) (reference m R) s (is_tuple e d) (is_reference e' d') = rw (e, e') (off (λ h. omega arith))
  arm_to join g c S l r (tuple Ls) (parameter id) s (is_tuple e d) (is_parameter e') = rw (e, e') (off (λ h. omega arith))
  arm_to join g c S l r (tuple Ls) (tuple Rs) s (is_tuple {n = n1} {k = k1} {ps = ps1} e d) (is_tuple {n = n2} {k = k2} {ps = ps2} e' d') =
      let a1 = s.arity l k1 (Multiple n1) ps1 (denotes_in (is_tuple e d)) e in
      let a2 = s.arity r k2 (Multiple n2) ps2 (denotes_in (is_tuple e' d')) e' in
      rw (e, e') (applies_to join g c s l r k1 (Multiple n1) ps1 k2 (Multiple n2) ps2 Ls Rs (tuple Ls) (tuple Rs) d d' (λ h. a1 ∙ ap ar h ∙ sym a2) a2 (apart_counts ar n1 n2 counts a1 a2 d d') apart_elements
      (λ S' t ts Ts h v w b. (tuple Ts, is_tuple v w, best_tuple b)))
  arm_to join g c S l r (tuple Ls) (named n Rs) s (is_tuple {n = n1} {k = k1} {ps = ps1} e d) (is_named {k = k2} {ps = ps2} e' m' d') =
      let a2 = s.arity r k2 n ps2 (denotes_in (is_named e' m' d')) e' in
      let other : (same_name (Multiple n1) n ≡ false → Apart c (tuple Ls) (named n Rs)) = λ h. apart_heads (λ h. omega arith) in
      rw (e, e') (applies_to join g c s l r k1 (Multiple n1) ps1 k2 n ps2 Ls Rs (tuple Ls) (named n Rs) d d' (λ h. no_multiple n1 n (sym h) m') a2 other (λ h. apart_heads (λ h. omega arith))
      (λ S' t ts Ts h v w b. no_multiple n1 n (sym h) m'))
  arm_to join g c S l r (named n Ls) unit s (is_named e m d) (is_unit e') = rw (e, e') (off (λ h. omega arith))
  arm_to join g c S l r (named n Ls) (reference m R) s (is_named e m'' d) (is_reference e' d') = rw (e, e') (off (λ h. omega arith))
  arm_to join g c S l r (named n Ls) (parameter id) s (is_named e m d) (is_parameter e') = rw (e, e') (off (λ h. omega arith))
  arm_to join g c S l r (named n Ls) (tuple Rs) s (is_named {k = k1} {ps = ps1} e m d) (is_tuple {n = n2} {k = k2} {ps = ps2} e' d') =
      let a2 = s.arity r k2 (Multiple n2) ps2 (denotes_in (is_tuple e' d')) e' in
      rw (e, e') (applies_to join g c s l r k1 n ps1 k2 (Multiple n2) ps2 Ls Rs (named n Ls) (tuple Rs) d d' (λ h. no_multiple n2 n h m) a2 (λ h. apart_heads (λ h. omega arith)) (λ h. apart_heads (λ h. omega arith))
      (λ S' t ts Ts h v w b. no_multiple n2 n h m))
  arm_to join g c S l r (named n1 Ls) (named n2 Rs) s (is_named {k = k1} {ps = ps1} e m d) (is_named {k = k2} {ps = ps2} e' m' d') =
      let a1 = s.arity l k1 n1 ps1 (denotes_in (is_named e m d)) e in
      let a2 = s.arity r k2 n2 ps2 (denotes_in (is_named e' m' d')) e' in
      rw (e, e') (applies_to join g c s l r k1 n1 ps1 k2 n2 ps2 Ls Rs (named n1 Ls) (named n2 Rs) d d' (λ h. a1 ∙ ap ar h ∙ sym a2) a2 (λ h. apart_names (not_same n1 n2 h)) apart_arguments
      (λ S' t ts Ts h v w b. (named n2 Ts, is_named v m' w, subst (λ (x : TypeName). Best c (named x Ls) (named n2 Rs) (named n2 Ts)) (sym h) (best_named b))))

  pub judged : (depth : ℕ) → Judges ar (λ s c l r. join_impl depth s c l r)
  unfolding join_impl
  judged zero c S l r L R s d d' = cut_short no_depth
  judged (suc depth) c S l r L R s d d' = arm_to (λ s c l r. join_impl depth s c l r) (λ c S l r L R s d d'. judged depth c S l r L R s d d') c S l r L R s d d'

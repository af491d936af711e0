-- Whole readings: there is one at most, and there is one just where no variable that reaches itself is met. Assumes nothing.
-- First that there is one at most, by derivations; then that what ends within some depth is it, and that what is read whole meets no loop, by its steps; then that there is one else (Finite).
use mathlib.Core.Path.{◌≡◌, refl, sym, ap, subst}
use mathlib.Core.Logic.{inl, inr, ◌↔◌}
use mathlib.Core.Bool.{true}
use mathlib.Core.List.{List, [], ◌∷◌, Memᴰ}
use Rattle.std.specs.Prelude.{Option, None, Some}
use Prim.Native.Nat.{ℕ, zero, suc, ◌+◌, ◌≤◌, ◌<◌}
use native.Mathlib.Omega.{arith}
use Rattle.definition.specs.Types.{TypeName, TypeValue, UnitType, Ref, Param, Apply, Var, Anything, UnresolvedError, State}
use Rattle.definition.specs.Store.{count, taken, type_at, get}
use Rattle.definition.specs.Subst.{as_var, parts, forward_tvar, reaches_itself}
use Rattle.definition.specs.Rank.{ReadType, any, named, reference, ReadTypes}
use Rattle.definition.specs.Rank.{Reads, reads_unit, reads_reference, reads_parameter, reads_named, reads_bound, reads_open, reads_any, reads_error, ReadsAll, reads_none, reads_each}
use Rattle.definition.specs.Rank.{Meets, meets_it, meets_bound, meets_part, ReachesItself, RunsIntoItself}
use Rattle.definition.specs.Rank.{Rank, references, same_named, Ranks, each}
use Rattle.theorems.proofs.DemandDepth.{follow, read_all, read_shape, unrolled, EndsWithin}
use Rattle.theorems.proofs.DemandLoops.{deep_enough, MeetsEnd, met, met_in, Itself, Loop}
use Rattle.theorems.proofs.DemandTracks.{never, Ends, here, hop, ends_stop, solid_nonvar, nonvar_var, Kind, k_any, k_var, k_solid, kind}
use Rattle.theorems.proofs.DemandOrder.{All, All_map, Sound, next_bound, chain, bind_solid}
use Rattle.theorems.proofs.DemandReading.{any_plain, follow_plain, follow_bound, follow_open}
use Rattle.theorems.proofs.TotalFinite.{reading_or, all_at}
use Rattle.definition.specs.Sound.{sound}
use Rattle.theorems.proofs.SoundFacts.{facts}
use Rattle.theorems.proofs.TotalReaches.{ends_or, ends_within, reaches_is_loop}

-- a whole reading, and a depth from which on the reading to a depth is the same
pub record ReadWhole (S : State) (t : TypeValue) : Type 0 where
  pub is : ReadType
  pub reads : Reads S t is
  pub depth : ℕ
  pub enough : (rest : ReadType) (n : ℕ) → depth ≤ n → unrolled rest n S t ≡ is

-- ---- one at most

mutual
  pub reads_once : {s : State} {t : TypeValue} {r r' : ReadType} → Reads s t r → Reads s t r' → r ≡ r'
  reads_once reads_unit reads_unit = refl
  reads_once (reads_reference {m = m} d) (reads_reference d') = ap (reference m) (reads_once d d')
  reads_once reads_parameter reads_parameter = refl
  reads_once (reads_named {k = k} {n = n} d) (reads_named d') = ap (named k n) (reads_all_once d d')
  reads_once {s = s} {r' = r'} (reads_bound {t = t} g d) (reads_bound {t = t'} g' d') = let e : t' ≡ t = cc in reads_once d (subst (λ (x : ℕ). Reads s (type_at s x) r') e d')
  reads_once (reads_bound g d) (reads_open g') = never (cc)
  reads_once (reads_open g) (reads_bound g' d) = never (cc)
  reads_once (reads_open g) (reads_open g') = refl
  reads_once reads_any reads_any = refl
  reads_once reads_error reads_error = refl

  reads_all_once : {s : State} {ts : List ℕ} {rs rs' : ReadTypes} → ReadsAll s ts rs → ReadsAll s ts rs' → rs ≡ rs'
  reads_all_once reads_none reads_none = refl
  reads_all_once (reads_each {r = r} {rs = rs} d ds) (reads_each d' ds') = rw (reads_once d d', reads_all_once ds ds') refl

-- ---- what ranks at or below a reading that ends, ends

module _ (f g : ℕ → ReadType) (P Q : ℕ → Type 0) (h : (p q : ℕ) → Rank (f p) (g q) → Q q → P p) where
  list_below : (ps qs : List ℕ) → Ranks (read_all f ps) (read_all g qs) → All Q qs → All P ps
  unfolding read_all
  list_below [] qs rs ws = tt
  list_below (p ∷ ps) [] rs ws = elim rs [ ]
  list_below (p ∷ ps) (q ∷ qs) (each r rs) ws = (h p q r ws.0, list_below ps qs rs ws.1)

  shape_below : (L R : TypeValue) → Rank (read_shape f L) (read_shape g R) → All Q (parts R) → All P (parts L)
  unfolding read_shape parts
  shape_below UnitType R r ws = tt
  shape_below (Ref m p) (Ref m' q) (references l r) ws = (h p q r ws.0, tt)
  shape_below (Ref m p) R r ws = elim r [ ]
  shape_below (Param id a) R r ws = tt
  shape_below (Apply k n ps) (Apply k' n' qs) (same_named rs) ws = list_below ps qs rs ws
  shape_below (Apply k n ps) R r ws = elim r [ ]
  shape_below (Var v) R r ws = tt
  shape_below Anything R r ws = tt
  shape_below UnresolvedError R r ws = tt

pub ends_below : (rest : ReadType) (S S' : State) (n : ℕ) (L R : TypeValue) → Rank (unrolled rest n S L) (unrolled rest n S' R) → EndsWithin S' n R → EndsWithin S n L
unfolding unrolled EndsWithin
ends_below rest S S' zero L R r w = w
ends_below rest S S' (suc n) L R r w =
    shape_below (λ p. unrolled rest n S (type_at S p)) (λ q. unrolled rest n S' (type_at S' q)) (λ p. EndsWithin S n (type_at S p)) (λ q. EndsWithin S' n (type_at S' q))
    (λ p q r w. ends_below rest S S' n (type_at S p) (type_at S' q) r w) (follow S L) (follow S' R) r w

-- ---- what is read whole is read once for all

list_same : (f g : ℕ → ReadType) (ps : List ℕ) → All (λ p. g p ≡ f p) ps → read_all g ps ≡ read_all f ps
unfolding read_all
list_same f g [] h = refl
list_same f g (p ∷ ps) h = rw (h.0, list_same f g ps h.1) refl

shape_same : (f g : ℕ → ReadType) (L : TypeValue) → All (λ p. g p ≡ f p) (parts L) → read_shape g L ≡ read_shape f L
unfolding read_shape parts
shape_same f g UnitType h = refl
shape_same f g (Ref m t) h = rw h.0 refl
shape_same f g (Param id a) h = refl
shape_same f g (Apply k n tys) h = rw (list_same f g tys h) refl
shape_same f g (Var v) h = refl
shape_same f g Anything h = refl
shape_same f g UnresolvedError h = refl

unrolled_same : (rest rest' : ReadType) (S : State) (n m : ℕ) (L : TypeValue) → n ≤ m → EndsWithin S n L → unrolled rest' m S L ≡ unrolled rest n S L
unfolding unrolled EndsWithin
unrolled_same rest rest' S zero m L h w = absurd w
unrolled_same rest rest' S (suc n) zero L h w = absurd (omega arith)
unrolled_same rest rest' S (suc n) (suc m) L h w =
    shape_same (λ p. unrolled rest n S (type_at S p)) (λ p. unrolled rest' m S (type_at S p)) (follow S L) (All_map (λ p x. unrolled_same rest rest' S n m (type_at S p) (omega arith) x) (parts (follow S L)) w)

-- ---- a shape of a state: its parts are nodes, and a variable is taken

pub record In (S : State) (L : TypeValue) : Type 0 where
  pub parts_in : All (λ p. p < count S) (parts L)
  pub var_in : (v : ℕ) → L ≡ Var v → v < taken S

pub var_is_in : {S : State} {v : ℕ} → v < taken S → In S (Var v)
unfolding parts
var_is_in {v = v} h = record { parts_in = tt; var_in = λ w e. let d : v ≡ w = cc in omega arith }

module _ {ar : TypeName → ℕ} {S : State} (s : Sound ar S) where
  pub type_is_in : {t : ℕ} → t < count S → In S (type_at S t)
  type_is_in {t} h = record { parts_in = All_map (λ p l. omega arith) (parts (type_at S t)) (s.parts_below t h); var_in = λ v e. s.var_in t v h e }

  -- ---- what ends within some depth is the whole reading

  ends_reads : {v e : ℕ} {r : ReadType} → Ends S v e → Reads S (Var e) r → Reads S (Var v) r
  ends_reads (here n) d = d
  ends_reads {r = r} (hop {v = v} {w = w} n c) d = let b = next_bound S v w n in reads_bound b.1 (subst (λ (x : TypeValue). Reads S x r) (sym b.2) (ends_reads c d))

  -- what is below is read: as f, where Q
  abbrev BelowReads : (ℕ → ReadType) → (ℕ → Type 0) → Type 0
  BelowReads f Q = (p : ℕ) → p < count S → Q p → Reads S (type_at S p) (f p)

  list_reads : (f : ℕ → ReadType) (Q : ℕ → Type 0) (ps : List ℕ) → All (λ p. p < count S) ps → BelowReads f Q → All Q ps → ReadsAll S ps (read_all f ps)
  unfolding read_all
  list_reads f Q [] a h w = reads_none
  list_reads f Q (p ∷ ps) a h w = reads_each (h p a.0 w.0) (list_reads f Q ps a.1 h w.1)

  plain_reads : (f : ℕ → ReadType) (Q : ℕ → Type 0) (L : TypeValue) → as_var L ≡ None → All (λ p. p < count S) (parts L) → BelowReads f Q → All Q (parts L) → Reads S L (read_shape f L)
  unfolding read_shape parts
  plain_reads f Q UnitType e a h w = reads_unit
  plain_reads f Q (Ref m t) e a h w = reads_reference (h t a.0 w.0)
  plain_reads f Q (Param id x) e a h w = reads_parameter
  plain_reads f Q (Apply k n ts) e a h w = reads_named (list_reads f Q ts a h w)
  plain_reads f Q (Var v) e a h w = nonvar_var {v = v} e refl
  plain_reads f Q Anything e a h w = reads_any
  plain_reads f Q UnresolvedError e a h w = reads_error

  variable_reads : (f : ℕ → ReadType) (Q : ℕ → Type 0) (v : ℕ) → v < taken S → BelowReads f Q → (o : Option ℕ) → get S (forward_tvar S v) ≡ o → All Q (parts (follow S (Var v))) → Reads S (Var v) (read_shape f (follow S (Var v)))
  unfolding read_shape
  variable_reads f Q v l h None g w = rw (follow_open S v g) (ends_reads (chain s v l) (reads_open g))
  variable_reads f Q v l h (Some T) g w =
      let e = follow_bound S v T g in
      let hard = solid_nonvar (type_at S T) (bind_solid s (forward_tvar S v) T g (ends_stop (chain s v l))) in
      rw e (ends_reads (chain s v l) (reads_bound g (plain_reads f Q (type_at S T) hard (type_is_in (s.bind_in (forward_tvar S v) T g)).parts_in h (rw e at w))))

  shape_reads : (f : ℕ → ReadType) (Q : ℕ → Type 0) (L : TypeValue) → In S L → BelowReads f Q → All Q (parts (follow S L)) → Reads S L (read_shape f (follow S L))
  shape_reads f Q L i h w = go (kind L)
    where
      plain : as_var L ≡ None → Reads S L (read_shape f (follow S L))
      plain e = let d = follow_plain S L e in rw d (plain_reads f Q L e i.parts_in h (rw d at w))

      go : Kind L → Reads S L (read_shape f (follow S L))
      go (k_any e) = plain (rw e any_plain)
      go (k_var {v = v} e) = rw e (variable_reads f Q v (i.var_in v e) h (get S (forward_tvar S v)) refl (rw e at w))
      go (k_solid e n) = plain n

  pub ends_read : (rest : ReadType) (n : ℕ) (L : TypeValue) → In S L → EndsWithin S n L → Reads S L (unrolled rest n S L)
  unfolding unrolled EndsWithin
  ends_read rest zero L i w = absurd w
  ends_read rest (suc n) L i w = shape_reads (λ p. unrolled rest n S (type_at S p)) (λ p. EndsWithin S n (type_at S p)) L i (λ p l x. ends_read rest n (type_at S p) (type_is_in l) x) w

  -- ---- a loop by chain ends is a variable that reaches itself

  meets_chain : {x v e : ℕ} → Ends S v e → Meets S x (Var e) → Meets S x (Var v)
  meets_chain (here n) m = m
  meets_chain {x} (hop {v = v} {w = w} n c) m = let b = next_bound S v w n in meets_bound b.1 (subst (λ (t : TypeValue). Meets S x t) (sym b.2) (meets_chain c m))

  part_in : {L : TypeValue} → In S L → (p : ℕ) → Memᴰ p (parts L) → p < count S
  part_in {L} i p m = all_at (λ q. q < count S) (parts L) i.parts_in p m

  end_meets : {e : ℕ} {L : TypeValue} → MeetsEnd S e L → In S L → Meets S e L
  unfolding parts
  end_meets {e} (met {v = v} d) i = meets_chain (chain s v (i.var_in v refl)) (subst (λ (x : ℕ). Meets S e (Var x)) (sym d) meets_it)
  end_meets {e} (met_in {shape = L} {p = p} m r) i = go (kind L) (λ l. end_meets r (type_is_in l))
    where
      plain : as_var L ≡ None → (p < count S → Meets S e (type_at S p)) → Meets S e L
      plain n h = let m' : Memᴰ p (parts L) = rw (follow_plain S L n) at m in meets_part m' (h (part_in i p m'))

      variable : (v : ℕ) → L ≡ Var v → (o : Option ℕ) → get S (forward_tvar S v) ≡ o → (p < count S → Meets S e (type_at S p)) → Meets S e (Var v)
      variable v d None g h = let n : Memᴰ p [] = rw (d, follow_open S v g) at m in absurd (mathlib.Core.List.Memᴰ.not-nil n)
      variable v d (Some T) g h =
          let m' : Memᴰ p (parts (type_at S T)) = rw (d, follow_bound S v T g) at m in
          meets_chain (chain s v (i.var_in v d)) (meets_bound g (meets_part m' (h (part_in (type_is_in (s.bind_in (forward_tvar S v) T g)) p m'))))

      go : Kind L → (p < count S → Meets S e (type_at S p)) → Meets S e L
      go (k_any d) h = plain (rw d any_plain) h
      go (k_var {v = v} d) h = subst (λ (x : TypeValue). Meets S e x) (sym d) (variable v d (get S (forward_tvar S v)) refl h)
      go (k_solid d n) h = plain n h

  itself_reaches : {e : ℕ} → Itself S e → ReachesItself S e
  itself_reaches {e} t =
      let T = t.binding_of in
      record { binding = T; bound = t.bound_to; again = meets_part t.is_part (end_meets t.again (type_is_in (part_in (type_is_in (s.bind_in e T t.bound_to)) t.part t.is_part))) }

  pub loop_runs : {L : TypeValue} → In S L → Loop S L → RunsIntoItself S L
  loop_runs i l = record { variable = l.variable; meets = end_meets l.meets i; itself = itself_reaches l.itself }

-- ---- what is read whole meets no variable that reaches itself

-- L is read in at most n steps
data Ended (S : State) : ℕ → TypeValue → Type 0 where
  e_open : {n v : ℕ} → get S v ≡ None → Ended S n (Var v)
  e_bound : {n v t : ℕ} → get S v ≡ Some t → Ended S n (type_at S t) → Ended S (suc n) (Var v)
  e_plain : {n : ℕ} {L : TypeValue} → as_var L ≡ None → ((p : ℕ) → Memᴰ p (parts L) → Ended S n (type_at S p)) → Ended S (suc n) L

ended_more : {S : State} {n : ℕ} {L : TypeValue} → Ended S n L → (m : ℕ) → n ≤ m → Ended S m L
ended_more (e_open g) m h = e_open g
ended_more (e_bound g d) zero h = absurd (omega arith)
ended_more (e_bound g d) (suc m) h = e_bound g (ended_more d m (omega arith))
ended_more (e_plain e f) zero h = absurd (omega arith)
ended_more (e_plain e f) (suc m) h = e_plain e (λ p i. ended_more (f p i) m (omega arith))

ended_leaf : {S : State} (L : TypeValue) → as_var L ≡ None → parts L ≡ [] → Ended S 1 L
ended_leaf L e n = e_plain e (λ p m. absurd (mathlib.Core.List.Memᴰ.not-nil (rw n at m)))

mutual
  unfolding as_var parts

  reads_ended : {S : State} {L : TypeValue} {r : ReadType} → Reads S L r → (n : ℕ) × Ended S n L
  reads_ended reads_unit = (1, ended_leaf UnitType refl refl)
  reads_ended {S} (reads_reference {t = t} d) = let a = reads_ended d in
      (suc a.0, e_plain refl (λ p i. let e : p ≡ t = mathlib.Core.List.Memᴰ.eq_of_singleton i in subst (λ (x : ℕ). Ended S a.0 (type_at S x)) (sym e) a.1))
  reads_ended (reads_parameter {id = id} {a = a}) = (1, ended_leaf (Param id a) refl refl)
  reads_ended (reads_named d) = let a = reads_all_ended d in (suc a.0, e_plain refl a.1)
  reads_ended (reads_bound g d) = let a = reads_ended d in (suc a.0, e_bound g a.1)
  reads_ended (reads_open g) = (0, e_open g)
  reads_ended reads_any = (1, ended_leaf Anything refl refl)
  reads_ended reads_error = (1, ended_leaf UnresolvedError refl refl)

  reads_all_ended : {S : State} {ts : List ℕ} {rs : ReadTypes} → ReadsAll S ts rs → (n : ℕ) × ((p : ℕ) → Memᴰ p ts → Ended S n (type_at S p))
  reads_all_ended reads_none = (0, λ p i. absurd (mathlib.Core.List.Memᴰ.not-nil i))
  reads_all_ended {S} (reads_each d ds) =
      let a = reads_ended d in
      let b = reads_all_ended ds in
      let n = a.0 + b.0 in
      (n, λ p i. elim (mathlib.Core.List.Memᴰ.cases_cons i) [ inl e ↦ subst (λ (x : ℕ). Ended S n (type_at S x)) (sym e) (ended_more a.1 n (omega arith)) | inr j ↦ ended_more (b.1 p j) n (omega arith) ])

meets_ended : {S : State} {v n : ℕ} {L : TypeValue} → Meets S v L → Ended S n L → Ended S n (Var v)
unfolding parts
meets_ended meets_it d = d
meets_ended (meets_bound g m) (e_open g') = never (cc)
meets_ended {S} (meets_bound {t = t} g m) (e_bound {n = n} {t = t'} g' d) = let e : t' ≡ t = cc in ended_more (meets_ended {n = n} m (subst (λ (x : ℕ). Ended S n (type_at S x)) e d)) (suc n) (omega arith)
meets_ended (meets_bound {w = w} g m) (e_plain e f) = nonvar_var {v = w} e refl
meets_ended (meets_part i m) (e_open g) = absurd (mathlib.Core.List.Memᴰ.not-nil i)
meets_ended (meets_part i m) (e_bound g d) = absurd (mathlib.Core.List.Memᴰ.not-nil i)
meets_ended (meets_part {p = p} i m) (e_plain {n = n} e f) = ended_more (meets_ended m (f p i)) (suc n) (omega arith)

-- once round from v to v, with fewer steps
ended_round : {S : State} {n v : ℕ} → Ended S (suc n) (Var v) → ReachesItself S v → Ended S n (Var v)
ended_round (e_open g) t = e_open g
ended_round {S} (e_bound {n = n} {t = T} g d) t = let e : T ≡ t.binding = let b = t.bound in cc in meets_ended t.again (subst (λ (x : ℕ). Ended S n (type_at S x)) e d)
ended_round {v = v} (e_plain e f) t = nonvar_var {v = v} e refl

ended_never : {S : State} (n : ℕ) {v : ℕ} → Ended S n (Var v) → ReachesItself S v → ⊥
ended_never zero (e_open g) t = never (let b = t.bound in cc)
ended_never (suc n) d t = ended_never n (ended_round d t) t

pub reads_clear : {S : State} {L : TypeValue} {r : ReadType} → Reads S L r → ¬ RunsIntoItself S L
reads_clear d l = let a = reads_ended d in ended_never a.0 (meets_ended l.meets a.1) l.itself

-- ---- there is one, and a reading to any great enough depth is it

module _ {ar : TypeName → ℕ} {S : State} (s : Sound ar S) where
  pub type_ends : (t : ℕ) → t < count S → ¬ RunsIntoItself S (type_at S t) → EndsWithin S (count S) (type_at S t)
  type_ends t h n = elim (ends_or s t h) [ inl e ↦ ends_within s (count S) t e | inr l ↦ absurd (n (loop_runs s (type_is_in s h) l)) ]

  pub var_ends : (v : ℕ) → v < taken S → ¬ RunsIntoItself S (Var v) → EndsWithin S (deep_enough S) (Var v)
  var_ends v h n = elim (reading_or s v h) [ inl w ↦ w | inr l ↦ absurd (n (loop_runs s (var_is_in h) l)) ]

  ends_whole : (n : ℕ) (L : TypeValue) → In S L → EndsWithin S n L → ReadWhole S L
  ends_whole n L i w = record { is = unrolled any n S L; reads = ends_read s any n L i w; depth = n; enough = λ rest m h. unrolled_same any rest S n m L h w }

-- the same of a state that is known to be sound otherwise
pub readable_in : {ar : TypeName → ℕ} {S : State} → Sound ar S → (t : ℕ) → t < count S → ¬ RunsIntoItself S (type_at S t) → ReadWhole S (type_at S t)
readable_in {S = S} s t i n = ends_whole s (count S) (type_at S t) (type_is_in s i) (type_ends s t i n)

pub readable_type : (S : State) → sound S ≡ true → (t : ℕ) → t < count S → ReadWhole S (type_at S t) ↔ (¬ RunsIntoItself S (type_at S t))
readable_type S h t i = let s = facts S h in ((λ r. reads_clear r.reads), λ n. ends_whole s (count S) (type_at S t) (type_is_in s i) (type_ends s t i n))

pub readable_var : (S : State) → sound S ≡ true → (v : ℕ) → v < taken S → ReadWhole S (Var v) ↔ (¬ RunsIntoItself S (Var v))
readable_var S h v i = let s = facts S h in ((λ r. reads_clear r.reads), λ n. ends_whole s (deep_enough S) (Var v) (var_is_in i) (var_ends s v i n))

-- ---- no. 9: the test says what 01 says

module _ {ar : TypeName → ℕ} {S : State} (s : Sound ar S) where
  runs_loop : (t : ℕ) → t < count S → RunsIntoItself S (type_at S t) → Loop S (type_at S t)
  runs_loop t h l = elim (ends_or s t h) [ inl e ↦ absurd (reads_clear (ends_read s any (count S) (type_at S t) (type_is_in s h) (ends_within s (count S) t e)) l) | inr x ↦ x ]

  pub reaches_is_runs : (t : ℕ) → t < count S → (reaches_itself S t ≡ true) ↔ RunsIntoItself S (type_at S t)
  reaches_is_runs t h = let x = reaches_is_loop s t h in ((λ e. loop_runs s (type_is_in s h) (x.0 e)), λ l. x.1 (runs_loop t h l))

-- in a state that passes the test
pub nine : (S : State) → sound S ≡ true → (t : ℕ) → t < count S → (reaches_itself S t ≡ true) ↔ RunsIntoItself S (type_at S t)
nine S h t i = reaches_is_runs (facts S h) t i

-- R-12: under equal declarations the bytes of two CN that answer 0 are equal exactly if the resolved types agree. Assumes nothing.
use mathlib.Core.Path.{◌≡◌, refl, sym, ap, ◌∙◌, subst}
use mathlib.Core.Logic.{◌↔◌}
use mathlib.Core.Bool.{true}
use mathlib.Core.List.{[]}
use Prim.Native.Nat.{ℕ, suc, ◌-◌, ◌≤◌, ◌<◌}
use native.Mathlib.Omega.{arith}
use lib.ListN.{length}
use Rattle.definition.specs.Types.{State, TypeName, Multiple, Builtin, ModuleType, TypingError, Refusal}
use Rattle.definition.specs.Types.{runs_into_itself, Result, ok, err, refused, ◌>>=◌}
use Rattle.definition.specs.Store.{count, type_at}
use Rattle.definition.specs.Subst.{reaches_itself, ready_tvars}
use Rattle.definition.specs.Rank.{ReadType, ReadTypes, no_types, ◌and◌, Reads, RunsIntoItself}
use Rattle.definition.specs.Trees.{Tree, arity}
use Rattle.definition.specs.Write.{Bytes, IsBytes}
use Rattle.definition.specs.Record.{CN, read_record}
use Rattle.definition.specs.Reader.{got}
use Rattle.definition.specs.Agree.{met_in, Agree, Spells, OneSpelling, CNResolves}
use Rattle.definition.specs.Build.{build}
use Rattle.definition.specs.Canonical.{canonical, number_of}
use Rattle.definition.specs.Sound.{sound}
use Rattle.definition.specs.Step.{run, answer, usable, step, Answer, apart}
use Rattle.theorems.proofs.DemandTracks.{never}
use Rattle.theorems.proofs.DemandOrder.{Sound}
use Rattle.theorems.proofs.LawsPost.{Post, p_ok}
use Rattle.theorems.proofs.DemandWent.{WentTo}
use Rattle.theorems.proofs.DemandRuns.{arity_same, place_went}
use Rattle.theorems.proofs.SoundFacts.{facts}
use Rattle.theorems.proofs.SoundKept.{ranges_of}
use Rattle.theorems.proofs.SoundRanges.{Ranges, value_in}
use Rattle.theorems.proofs.SoundRead.{ReadWell, given, well_read}
use Rattle.theorems.proofs.TotalWalk.{Ends, e_ok, In, place_run, ready_tvars_run}
use Rattle.theorems.proofs.TotalReading.{readable_in, reaches_is_runs}
use Rattle.theorems.proofs.ReadyTold.{made, no_place}
use Rattle.theorems.proofs.EraseWrite.{Fitting}
use Rattle.theorems.proofs.EraseRun.{fitting}
use Rattle.theorems.proofs.CanonicalAgree.{numbered as as_numbered}
use Rattle.theorems.proofs.CanonicalBytes.{plain, Within, in_any, in_error, in_unit, in_var, in_param, in_ref, in_named, AllWithin, in_none, in_each, NameIn, how_many}
use Rattle.theorems.proofs.CanonicalSpelled.{Stands, canonical_is, spellings_agree}
use Rattle.theorems.proofs.CanonicalReady.{Resolved, resolved, ran_in, ready_reads}
use Rattle.theorems.proofs.CanonicalWithin.{Shaped, shaped, numbered_within}
use Rattle.theorems.proofs.LawsAnswer.{Zero, answered_0, usable_is, sound_of, step_runs}

-- p is the spelling of r, and is read in one way
pub record Spelling (S : State) (p : Bytes) (r : ReadType) : Type 0 where
  pub spelled_as : p ≡ plain (as_numbered r)
  pub fields_within : length p ≤ 4096 → Within (arity S) (as_numbered r)
  pub names_in : Shaped S (as_numbered r)

module _ (S : State) (h : sound S ≡ true) where
  -- of the node that ready_tvars gives
  pub of_node : (S2 : State) (t : ℕ) (r : ReadType) → Sound (arity S) S2 → Ranges S S2 → t < count S2 → Stands S2 (type_at S2 t) r → Spelling S (canonical S2 t) r
  of_node S2 t r w g i d =
      let fit : Fitting S S2 = fitting S S2 (ranges_of S h).few_structs w (value_in g) in
      let e : canonical S2 t ≡ plain (as_numbered r) = canonical_is S2 fit.below t i d in
      record { spelled_as = e; fields_within = λ l. numbered_within S S2 fit (value_in g) t d (subst (λ (b : Bytes). length b ≤ 4096) e l); names_in = shaped S S2 (value_in g) (λ v. number_of (met_in r) v) d (value_in g t) }

  -- what the run of CN shows, where it is ok
  abbrev ShowsSpelling : ReadType → Result (State × Bytes) → Type 0
  ShowsSpelling r m = (s : State) (p : Bytes) → m ≡ ok (s, p) → Spelling S p r

  ok_bytes : {s s' : State} {p p' : Bytes} → ◌≡◌ {A = Result (State × Bytes)} (ok (s, p)) (ok (s', p')) → p ≡ p'
  ok_bytes e = ap (λ (m : Result (State × Bytes)). elim m [ ok x ↦ x.1 | err z w ↦ [] | refused z ↦ [] ]) e

  ready_spelled : (r : ReadType) {S1 : State} {m : Result (State × ℕ)} → Resolved (arity S) S1 r m → Ends true (In (Unit {0}) S true) (λ (x : State × ℕ). In (Unit {0}) S true x.0) m
      → ShowsSpelling r (m >>= (λ (x : State × ℕ). ok (S, canonical x.0 x.1)))
  unfolding ◌>>=◌
  ready_spelled r (resolved (made {S' = S2} {x = t} a i)) (e_ok g) s p e = subst (λ (b : Bytes). Spelling S b r) (ok_bytes e) (of_node S2 t r a.grown.sound_after (g tt) i.0 i.1)
  ready_spelled r (resolved (no_place d)) q s p e = never (cc)
  ready_spelled r ran_in q s p e = never (cc)

  placed_spelled : (r : ReadType) (tree : Tree) (S1 : State) (ty : ℕ) → build tree S ≡ ok (S1, ty) → Reads S1 (type_at S1 ty) r → Post (arity S) S (WentTo (arity S) S) (build tree S)
      → Ends true (In (Unit {0}) S true) (λ (x : State × ℕ). In (Unit {0}) S true x.0) (build tree S) → ShowsSpelling r (run S (CN tree))
  unfolding run ready_tvars ◌>>=◌
  placed_spelled r tree S1 ty e d w g = rw e (at_node (rw e at w) (rw e at g))
    where
      at_node : Post (arity S) S (WentTo (arity S) S) (ok (S1, ty)) → Ends true (In (Unit {0}) S true) (λ (x : State × ℕ). In (Unit {0}) S true x.0) (ok (S1, ty))
          → ShowsSpelling r (ready_tvars S1 ty >>= (λ (x : State × ℕ). ok (S, canonical x.0 x.1)))
      at_node (p_ok k v) (e_ok i) = ready_spelled r (ready_reads v.sound ty v.t_in r d) (ready_tvars_run (Unit {0}) S true refl S1 i ty)

-- ---- the answer

-- a CN that answers 0
module _ (S : State) (bytes : Bytes) (buffer : ℕ) (tree : Tree) (are_bytes : IsBytes bytes) (is_CN : read_record S bytes ≡ got (CN tree) []) (number : (step S bytes buffer).number ≡ 0) where
  able : usable S bytes buffer ≡ true
  able = usable_is S bytes buffer number

  pub sound_is : sound S ≡ true
  sound_is = sound_of S bytes buffer able

  pub answered : step S bytes buffer ≡ answer S (run S (CN tree))
  unfolding apart
  answered = step_runs S bytes buffer (CN tree) able is_CN refl

  read_well : ReadWell (Unit {0}) S (length bytes - 1) (got (CN tree) [])
  read_well = rw is_CN at (well_read (Unit {0}) S bytes (λ u. are_bytes))

  number_0 : (answer S (run S (CN tree))).number ≡ 0
  number_0 = sym (ap (λ (a : Answer). a.number) answered) ∙ number

  shows_0 : Zero (run S (CN tree)) (answer S (run S (CN tree))).payload
  shows_0 = answered_0 S (run S (CN tree)) number_0

  went : Post (arity S) S (WentTo (arity S) S) (build tree S)
  went = go read_well
    where
      go : ReadWell (Unit {0}) S (length bytes - 1) (got (CN tree) []) → Post (arity S) S (WentTo (arity S) S) (build tree S)
      go (given f i l) = place_went f.0 (facts S sound_is) (omega arith)

  in_range : Ends true (In (Unit {0}) S true) (λ (x : State × ℕ). In (Unit {0}) S true x.0) (build tree S)
  in_range = go read_well
    where
      go : ReadWell (Unit {0}) S (length bytes - 1) (got (CN tree) []) → Ends true (In (Unit {0}) S true) (λ (x : State × ℕ). In (Unit {0}) S true x.0) (build tree S)
      go (given f i l) = place_run (Unit {0}) S true tree (λ u. f.1 tt) S (λ u. ranges_of S sound_is)

-- its payload is the spelling of what its type is read as
module _ (S : State) (bytes : Bytes) (buffer : ℕ) (p : Bytes) (r : ReadType) (x : Spells S bytes buffer p r) where
  abbrev zero_of : Zero (run S (CN x.tree)) (answer S (run S (CN x.tree))).payload
  zero_of = shows_0 S bytes buffer x.tree x.are_bytes x.is_CN x.number

  shown_is : (answer S (run S (CN x.tree))).payload ≡ p
  shown_is = sym (ap (λ (a : Answer). a.payload) (answered S bytes buffer x.tree x.are_bytes x.is_CN x.number)) ∙ x.payload

  pub of_record : Spelling S p r
  of_record = subst (λ (b : Bytes). Spelling S b r) shown_is (placed_spelled S (sound_is S bytes buffer x.tree x.are_bytes x.is_CN x.number) r x.tree x.placed x.node x.build_gives x.reads
      (went S bytes buffer x.tree x.are_bytes x.is_CN x.number) (in_range S bytes buffer x.tree x.are_bytes x.is_CN x.number) zero_of.left _ zero_of.is_ok)

  pub short : length p ≤ 4096
  short = subst (λ (b : Bytes). length b ≤ 4096) shown_is zero_of.short

-- ---- equal declarations

name_same : (ar ar' : TypeName → ℕ) (n : TypeName) → NameIn ar n → NameIn ar' n
name_same ar ar' (Builtin b) h = h
name_same ar ar' (Multiple b) h = h
name_same ar ar' (ModuleType b) h = h

many_same : (ar ar' : TypeName → ℕ) (rs : ReadTypes) → how_many ar' rs ≡ how_many ar rs
many_same ar ar' no_types = refl
many_same ar ar' (◌and◌ r rs) = ap suc (many_same ar ar' rs)

module _ (ar ar' : TypeName → ℕ) (e : (n : TypeName) → ar n ≡ ar' n) where
  mutual
    pub within_same : {r : ReadType} → Within ar r → Within ar' r
    within_same in_any = in_any
    within_same in_error = in_error
    within_same in_unit = in_unit
    within_same (in_var h) = in_var h
    within_same (in_param h) = in_param h
    within_same (in_ref w) = in_ref (within_same w)
    within_same (in_named {n = n} {rs = rs} h c w) = in_named (name_same ar ar' n h) (many_same ar ar' rs ∙ c ∙ e n) (all_same w)

    all_same : {rs : ReadTypes} → AllWithin ar rs → AllWithin ar' rs
    all_same in_none = in_none
    all_same (in_each w ws) = in_each (within_same w) (all_same ws)

-- R-12
pub one_spelling : (s s' : State) → OneSpelling s s'
unfolding OneSpelling
one_spelling s s' bytes bytes' p p' buffer buffer' r r' e x x' = (λ q. to.0 (sym a.spelled_as ∙ q ∙ a'.spelled_as), λ g. a.spelled_as ∙ to.1 g ∙ sym a'.spelled_as)
  where
    a : Spelling s p r
    a = of_record s bytes buffer p r x

    a' : Spelling s' p' r'
    a' = of_record s' bytes' buffer' p' r' x'

    to : (plain (as_numbered r) ≡ plain (as_numbered r')) ↔ Agree r r'
    to = spellings_agree (arity s) r r' (a.fields_within (short s bytes buffer p r x))
        (within_same (arity s') (arity s) (λ n. arity_same s s' (sym e) n) (a'.fields_within (short s' bytes' buffer' p' r' x')))

-- ---- every CN that answers 0 has a resolved type

run_nine : (S : State) (tree : Tree) (S1 : State) (ty : ℕ) → build tree S ≡ ok (S1, ty) → reaches_itself S1 ty ≡ true → run S (CN tree) ≡ refused runs_into_itself
unfolding run ready_tvars ◌>>=◌
run_nine S tree S1 ty e d = rw e (rw (d, ready_tvars) refl)

run_error : (S : State) (tree : Tree) (s : State) (x : TypingError) → build tree S ≡ err s x → run S (CN tree) ≡ err s x
unfolding run ◌>>=◌
run_error S tree s x e = rw e refl

run_refused : (S : State) (tree : Tree) (x : Refusal) → build tree S ≡ refused x → run S (CN tree) ≡ refused x
unfolding run ◌>>=◌
run_refused S tree x e = rw e refl

-- an answer 0 is no error and no refusal
no_error : (S : State) (m : Result (State × Bytes)) (s : State) (x : TypingError) → m ≡ err s x → (answer S m).number ≡ 0 → ⊥
no_error S m s x e h = never (let z = (answered_0 S m h).is_ok in let w = sym e ∙ z in cc)

no_refusal : (S : State) (m : Result (State × Bytes)) (x : Refusal) → m ≡ refused x → (answer S m).number ≡ 0 → ⊥
no_refusal S m x e h = never (let z = (answered_0 S m h).is_ok in let w = sym e ∙ z in cc)

module _ (S : State) (bytes : Bytes) (buffer : ℕ) (tree : Tree) (are_bytes : IsBytes bytes) (is_CN : read_record S bytes ≡ got (CN tree) []) (number : (step S bytes buffer).number ≡ 0) where
  abbrev zero_number : (answer S (run S (CN tree))).number ≡ 0
  zero_number = number_0 S bytes buffer tree are_bytes is_CN number

  resolves : (m : Result (State × ℕ)) → build tree S ≡ m → Post (arity S) S (WentTo (arity S) S) m → (r : ReadType) × Spells S bytes buffer (step S bytes buffer).payload r
  resolves (ok (S1, ty)) e (p_ok g w) =
      let clear : ¬ RunsIntoItself S1 (type_at S1 ty) = λ l. no_refusal S (run S (CN tree)) runs_into_itself (run_nine S tree S1 ty e ((reaches_is_runs w.sound ty w.t_in).1 l)) zero_number in
      let x = readable_in w.sound ty w.t_in clear in
      (x.is, record { are_bytes = are_bytes; tree = tree; is_CN = is_CN; number = number; payload = refl; placed = S1; node = ty; build_gives = e; reads = x.reads })
  resolves (err s x) e q = absurd (no_error S (run S (CN tree)) s x (run_error S tree s x e) zero_number)
  resolves (refused x) e q = absurd (no_refusal S (run S (CN tree)) x (run_refused S tree x e) zero_number)

pub cn_resolves : (s : State) → CNResolves s
unfolding CNResolves
cn_resolves s bytes buffer tree b c n = resolves s bytes buffer tree b c n (build tree s) refl (went s bytes buffer tree b c n)

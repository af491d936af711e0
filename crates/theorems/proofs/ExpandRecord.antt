-- R-5, over `step`: every answer 0 of XP is the spelling of its final type and the codes of its locations; 7 is given exactly if placing the type finds no room. Assumes nothing.
use mathlib.Core.Path.{◌≡◌, refl, sym, ap, ◌∙◌, subst}
use mathlib.Core.Bool.{Bool, true, false}
use mathlib.Core.List.{[], ◌++◌}
use Prim.Native.Nat.{ℕ, ◌<◌}
use native.Mathlib.Omega.{arith}
use Rattle.definition.specs.Types.{State, TypeName, full, runs_into_itself, Result, ok, err, refused, ◌>>=◌}
use Rattle.definition.specs.Store.{count, type_at}
use Rattle.definition.specs.Subst.{reaches_itself}
use Rattle.definition.specs.Write.{Bytes}
use Rattle.definition.specs.Expand.{Expanded, expand_type}
use Rattle.definition.specs.Reader.{got}
use Rattle.definition.specs.Trees.{Tree, arity}
use Rattle.definition.specs.Record.{XP, read_record}
use Rattle.definition.specs.Build.{build}
use Rattle.definition.specs.Sound.{sound}
use Rattle.definition.specs.Step.{run, answer, usable, step, Answer, apart}
use Rattle.definition.specs.Final.{Shown, ExpandsAs02, XPSeven, Came, came_ok, came_17}
use Rattle.theorems.proofs.DemandTracks.{never}
use Rattle.theorems.proofs.DemandOrder.{Sound}
use Rattle.theorems.proofs.LawsPost.{Post, p_ok}
use Rattle.theorems.proofs.DemandWent.{WentTo}
use Rattle.theorems.proofs.DemandRuns.{declared_on, place_went}
use Rattle.theorems.proofs.SoundFacts.{facts}
use Rattle.theorems.proofs.SoundRead.{ReadWell, given, well_read}
use Rattle.theorems.proofs.ExpandFinal.{Expands, expands, expands_not, type_good}
use Rattle.theorems.proofs.LawsAnswer.{Zero, answered_0, answered_7, full_7, usable_is, sound_of, step_runs}
use Rattle.theorems.proofs.ExpandNine.{walk_comes}

-- ---- a record XP

module _ (S : State) (bytes : Bytes) (buffer : ℕ) (tree : Tree) (u : usable S bytes buffer ≡ true) (is_XP : read_record S bytes ≡ got (XP tree) []) where
  pub sound_is : sound S ≡ true
  sound_is = sound_of S bytes buffer u

  pub answered : step S bytes buffer ≡ answer S (run S (XP tree))
  unfolding apart
  answered = step_runs S bytes buffer (XP tree) u is_XP refl

  went : Post (arity S) S (WentTo (arity S) S) (build tree S)
  went = go (rw is_XP at (well_read ⊥ S bytes (λ z. absurd z)))
    where
      go : {n : ℕ} → ReadWell ⊥ S n (got (XP tree) []) → Post (arity S) S (WentTo (arity S) S) (build tree S)
      go (given f i l) = place_went f.0 (facts S sound_is) (omega arith)

-- what XP shows of the expanded type
abbrev pub shown : State → Result Expanded → Result (State × Bytes)
shown S m = m >>= (λ (x : Expanded). ok (S, x.type ++ x.codes))

abbrev pub then_expand : State → Result (State × ℕ) → Result (State × Bytes)
then_expand S m = m >>= (λ (x : State × ℕ). shown S (expand_type x.0 x.1))

pub run_is : (S : State) (tree : Tree) → run S (XP tree) ≡ then_expand S (build tree S)
unfolding run
run_is S tree = refl

-- ---- 7

came_not_7 : (S : State) {m : Result Expanded} → Came m → shown S m ≡ refused full → ⊥
unfolding ◌>>=◌
came_not_7 S came_ok e = never (cc)
came_not_7 S came_17 e = never (cc)

expand_not_7 : {ar : TypeName → ℕ} (S : State) {S1 : State} → Sound ar S1 → (t : ℕ) → t < count S1 → shown S (expand_type S1 t) ≡ refused full → ⊥
unfolding expand_type ◌>>=◌
expand_not_7 S {S1} s t h e = go (reaches_itself S1 t) refl
  where
    go : (b : Bool) → reaches_itself S1 t ≡ b → ⊥
    go true q = never (let z : refused runs_into_itself ≡ refused full = (rw (q, expand_type) at e) in cc)
    go false q = came_not_7 S (walk_comes s t h q) e

placed_7 : {ar : TypeName → ℕ} (S : State) (m : Result (State × ℕ)) → Post ar S (WentTo ar S) m → then_expand S m ≡ refused full → m ≡ refused full
unfolding ◌>>=◌
placed_7 S (ok (S1, t)) (p_ok g w) e = absurd (expand_not_7 S w.sound t w.t_in e)
placed_7 S (err s x) q e = never (cc)
placed_7 S (refused x) q e = let z : x ≡ full = cc in ap refused z

full_placed : (S : State) (m : Result (State × ℕ)) → m ≡ refused full → then_expand S m ≡ refused full
unfolding ◌>>=◌
full_placed S m e = rw e refl

pub xp_seven : (s : State) → XPSeven s
unfolding XPSeven
xp_seven s bytes buffer tree u c = (
  λ h. placed_7 s (build tree s) (went s bytes buffer tree u c) (sym (run_is s tree) ∙ answered_7 s (run s (XP tree)) (sym (ap (λ (a : Answer). a.number) (answered s bytes buffer tree u c)) ∙ h)),
  λ e. ap (λ (a : Answer). a.number) (answered s bytes buffer tree u c) ∙ ap (λ (m : Result (State × Bytes)). (answer s m).number) (run_is s tree ∙ full_placed s (build tree s) e) ∙ full_7 s,
)

-- ---- 0

ok_bytes : {s s' : State} {p p' : Bytes} → ◌≡◌ {A = Result (State × Bytes)} (ok (s, p)) (ok (s', p')) → p ≡ p'
ok_bytes e = ap (λ (m : Result (State × Bytes)). elim m [ ok x ↦ x.1 | err z w ↦ [] | refused z ↦ [] ]) e

shows : (S : State) (tree : Tree) (p : Bytes) (m : Result (State × ℕ)) → build tree S ≡ m → Post (arity S) S (WentTo (arity S) S) m → Zero (then_expand S m) p → Shown S tree p
unfolding ◌>>=◌
shows S tree p (ok (S1, t)) b (p_ok g w) z = go (expand_type S1 t) (type_good w.sound (declared_on {ar = arity S} (λ n. refl) g) t w.t_in) z.is_ok
  where
    go : (x : Result Expanded) → Expands S1 t (type_at S1 t) x → shown S x ≡ ok (z.left, p) → Shown S tree p
    go (ok e) (expands {T = T} {ls = ls} d f h) o =
        record { placed = S1; node = t; build_gives = b; final = T; locations = ls; is_final = d; payload_is = sym (ok_bytes o) ∙ rw (f, h) refl }
    go (err z x) d o = elim d [ ]
    go (refused r) expands_not o = never (cc)
shows S tree p (err s x) b q z = never (let o = z.is_ok in cc)
shows S tree p (refused x) b q z = never (let o = z.is_ok in cc)

pub expands_as_02 : (s : State) → ExpandsAs02 s
unfolding ExpandsAs02
expands_as_02 s bytes buffer tree c n =
    let u : usable s bytes buffer ≡ true = usable_is s bytes buffer n in
    let a = answered s bytes buffer tree u c in
    let z : Zero (run s (XP tree)) (answer s (run s (XP tree))).payload = answered_0 s (run s (XP tree)) (sym (ap (λ (x : Answer). x.number) a) ∙ n) in
    subst (λ (p : Bytes). Shown s tree p) (sym (ap (λ (x : Answer). x.payload) a)) (shows s tree _ (build tree s) refl (went s bytes buffer tree u c) (subst (λ (m : Result (State × Bytes)). Zero m (answer s (run s (XP tree))).payload) (run_is s tree) z))

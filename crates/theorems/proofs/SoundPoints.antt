-- Two points of 01 said by themselves: a record that only looks leaves the state as at entry, and a lent record with bytes left over is 5. Assumes nothing.
use mathlib.Core.Path.{◌≡◌, refl}
use mathlib.Core.Bool.{Bool, true, false}
use mathlib.Core.List.{List, ◌∷◌}
use Rattle.std.specs.Prelude.{Option, None, Some}
use Prim.Native.Nat.{ℕ}
use native.Mathlib.Omega.{arith}
use lib.ListN.{length}
use lib.Dec.{leb}
use Rattle.std.specs.Prelude.{if◌then◌else◌}
use Rattle.definition.specs.Types.{State, malformed, answer_too_long, Result, ok, err, refused}
use Rattle.definition.specs.TParams.{subst_tparams}
use Rattle.definition.specs.Write.{Bytes}
use Rattle.definition.specs.Reader.{got}
use Rattle.definition.specs.Trees.{Tree}
use Rattle.definition.specs.Record.{Record, UF, RD, TS, RM, CN, XP, read_record, UL}
use Rattle.definition.specs.Step.{tell, run, refusal, answer_with, answer_within, apart, most_of, reply, least_buffer, lent, step, behind, tail_of, unfolded}
use Rattle.definition.specs.Needs.{Needs, needs}
use Rattle.definition.specs.Sound.{sound}
use Rattle.theorems.proofs.TotalWalk.{eleven, Ends, e_ok, e_err, e_refused, bind, place_run, pairs_run, ready_tvars_run, make_run, subst_run, expand_run}
use Rattle.theorems.proofs.SoundKept.{usable_enough}

-- ---- UF, UL, RD, TS, RM, CN and XP

-- the record whose run only looks at a state
pub data Looks : Record → Type 0 where
  unfolds : {t : Tree} → Looks (UF t)
  counts : {t : Tree} → Looks (UL t)
  readies : {t : Tree} → Looks (RD t)
  substitutes : {ps : List (ℕ × Tree)} {t : Tree} → Looks (TS ps t)
  tells : {t : Tree} → Looks (RM t)
  spells : {t : Tree} → Looks (CN t)
  expands : {t : Tree} → Looks (XP t)

-- no error is met, and a success leaves the state s
abbrev Back : State → Result (State × Bytes) → Type 0
Back s m = Ends true (λ x. ⊥) (λ a. a.0 ≡ s) m

tell_back : (s : State) (n : Option Needs) → Back s (tell s n)
unfolding tell
tell_back s None = e_refused eleven
tell_back s (Some n) = e_ok refl

unfolded_back : (s : State) (t : Tree) → Back s (unfolded s t)
unfolding unfolded
unfolded_back s t = bind _ (place_run ⊥ s true t (λ h. absurd h) s (λ h. absurd h)) (λ x j. e_ok refl)

goes_back : (s : State) (x : Record) → Looks x → Back s (run s x)
unfolding run subst_tparams
goes_back s (UF t) unfolds = unfolded_back s t
goes_back s (UL t) counts = unfolded_back s t
goes_back s (RD t) readies =
    bind _ (place_run ⊥ s true t (λ h. absurd h) s (λ h. absurd h)) (λ x j. bind _ (ready_tvars_run ⊥ s true refl x.0 j x.1) (λ r k. e_ok refl))
goes_back s (TS ps t) substitutes =
    bind _ (pairs_run ⊥ s true ps (λ h. absurd h) s (λ h. absurd h)) (λ x i. bind _ (place_run ⊥ s true t (λ h. absurd h) x.0 i)
    (λ r j. bind _ (make_run ⊥ s true x.1) (λ subst p. bind _ (subst_run ⊥ s true refl _ subst r.0 j r.1) (λ y k. e_ok refl))))
goes_back s (RM t) tells = tell_back s (needs t)
goes_back s (CN t) spells =
    bind _ (place_run ⊥ s true t (λ h. absurd h) s (λ h. absurd h)) (λ x j. bind _ (ready_tvars_run ⊥ s true refl x.0 j x.1) (λ r k. e_ok refl))
goes_back s (XP t) expands = bind _ (place_run ⊥ s true t (λ h. absurd h) s (λ h. absurd h)) (λ x j. bind _ (expand_run true refl _ x.0 x.1) (λ r k. e_ok refl))
goes_back s x l = elim l [ ]

with_back : (most : ℕ) (s after : State) (payload : Bytes) → after ≡ s → (answer_with most s 0 payload after).state ≡ s
unfolding answer_with refusal
with_back most s after payload e = go (leb (length payload) most)
  where
    go : (b : Bool) → (if b then record { number = 0; payload = payload; state = after } else refusal s answer_too_long).state ≡ s
    go true = e
    go false = refl

back_leaves : (most : ℕ) (tail : Bytes) (s : State) (m : Result (State × Bytes)) → Back s m → (answer_within most tail s m).state ≡ s
unfolding answer_within refusal
back_leaves most tail s (ok (after, payload)) (e_ok e) = with_back most s after (behind tail payload) e
back_leaves most tail s (err after x) (e_err e) = absurd e
back_leaves most tail s (refused x) (e_refused r) = refl

-- UF, UL, RD, TS, RM, CN and XP leave the state as at entry, whatever they answer
pub looking_leaves : (s : State) (x : Record) → Looks x → (reply s x).state ≡ s
unfolding reply
looking_leaves s x l = back_leaves (most_of (apart x)) (tail_of s (apart x)) s (run s x) (goes_back s x l)

-- ---- bytes left over

-- 5, and nothing is run: the state is as at entry
pub left_over : (s : State) (x : Record) (b : ℕ) (rest bytes : Bytes) → sound s ≡ true → read_record s bytes ≡ got x (b ∷ rest) → step s bytes (least_buffer bytes) ≡ refusal s malformed
unfolding step lent
left_over s x b rest bytes h e = rw (usable_enough s bytes (least_buffer bytes) (omega arith) h, step) (rw e refl)

-- A state that goes on from one that has grown from what was saved: what is saved of it stands but for the noted. Assumes nothing.
use mathlib.Core.Path.{◌≡◌, refl, sym, ap, ◌∙◌}
use mathlib.Core.List.{List}
use Prim.Native.Nat.{ℕ, ◌+◌, ◌*◌, ◌≤◌, ◌<◌}
use native.Mathlib.Omega.{arith}
use lib.ListN.{get_or}
use Rattle.table.specs.Rows.{row, var_table}
use Rattle.table.specs.declared.Used.{Used}
use Rattle.table.proofs.Rows.{row_word}
use Rattle.table.specs.Did.{tables, Linked}
use Rattle.table.specs.State.{Grown}
use Rattle.table.specs.declared.state.State.{State}
use Rattle.table.proofs.Steps.{grown_refl, grown_trans}
use Rattle.snapshot.specs.Snap.{Saved, Since}
use Rattle.snapshot.specs.Back.{GrownFrom}
use Rattle.snapshot.specs.Noted.{Noted, SavesAll}
use Rattle.snapshot.specs.declared.before.Before.{Before}

-- all is saved
pub grown_now : (b : Before) (s : State) → b.used ≡ s.used → s.saved ≡ s.used.vars → Saved s.words.now s.used b.saved.now → GrownFrom s.words.now b s
grown_now b s e m k = rw e record { many = m; since = record { lay = s.lay; kept = k; grown = grown_refl (tables s); stay = λ v p q f. refl } }

pub grown_on : (w₀ : List ℕ) (b : Before) (s t : State) → GrownFrom w₀ b s → Linked s t → Grown (tables s) (tables t) → GrownFrom w₀ b t
grown_on w₀ b s t g l more =
    record {
      many = l.saved ∙ g.many;
      since = record {
        lay = g.since.lay;
        kept = g.since.kept;
        grown = grown_trans _ _ _ g.since.grown more;
        stay = λ v p q f. let m = l.rows v p (rw g.many q) f in m.1 ∙ g.since.stay v p q m.0;
      };
    }

-- all of it, from the state that was saved on
module _ {s m : State} {saved : List ℕ} (a : SavesAll s m saved) where
  pub all_many : m.saved ≡ m.used.vars
  all_many = a.many ∙ ap (λ (u : Used). u.vars) (sym a.used)

  pub all_now : Saved m.words.now m.used saved
  all_now = rw (a.words, a.used) a.all

pub noted_since : {w₀ : List ℕ} {entry : Used} {saved : List ℕ} {s t : State} → s.saved ≡ entry.vars → Since w₀ entry (record { words = saved; touched = s.touched }) s.words.now s.used → Linked s t → Noted t saved
noted_since {w₀} {entry} {saved} {s} {t} m g l v p q f k i =
    let lt : v < 1024 = omega (arith, t.lay.vars) in
    let few : v < s.saved = rw l.saved at p in
    let in_use : v < entry.vars = rw m at few in
    let n = l.rows v lt few f in
    let same : row var_table t.words.now v ≡ row var_table w₀ v = n.1 ∙ g.stay v lt in_use n.0 in
    let e : 0 + (v * 5 + k) ≡ v * 5 + k = omega arith in
    let h : 16389 + (v * 5 + k) ≡ 16389 + v * 5 + k = omega arith in
    ap (λ (x : ℕ). get_or saved x 0) e
    ∙ g.kept.word (v * 5 + k) (omega arith)
    ∙ ap (λ (x : ℕ). get_or w₀ x 0) h
    ∙ sym (row_word var_table w₀ v k i)
    ∙ ap (λ (r : List ℕ). get_or r k 0) (sym same)
    ∙ row_word var_table t.words.now v k i
    ∙ ap (λ (x : ℕ). get_or t.words.now x 0) (sym h)

-- The rows of the variables, saved: all of them after the noted and the new ones were copied. Assumes nothing.
use mathlib.Core.Path.{◌≡◌, sym, ap, ◌∙◌}
use mathlib.Core.List.{List}
use mathlib.Core.Logic.{inl, inr}
use native.Mathlib.Omega.{arith}
use native.Mathlib.Nat.{div-add-mod', mod-lt}
use native.Mathlib.Decide.{dec_lt}
use lib.ListN.{get_or, length, take, drop}
use Rattle.std.proofs.lemmas.List.{get_or-take, get_or-drop}
use Prim.Native.Nat.{ℕ, ◌+◌, ◌*◌, ◌-◌, ◌/◌, ◌%◌, ◌≤◌, ◌<◌}
use Rattle.table.specs.State.{Wrote}
use Rattle.table.specs.declared.state.State.{State}
use Rattle.table.specs.declared.Used.{Used}
use Rattle.snapshot.specs.Snap.{Saved}
use Rattle.snapshot.specs.Copied.{Copied}
use Rattle.snapshot.specs.Noted.{Noted}

module _ (s : State) (n : ℕ) (saved saved₁ : List ℕ) (few : n ≤ s.saved) (in_use : n ≤ s.used.vars) (noted : Noted s saved) (c : Copied saved 0 s.words.now 16389 n s.touched saved₁) where
  front : (k : ℕ) → k < n * 5 → get_or saved₁ k 0 ≡ get_or s.words.now (16389 + k) 0
  front k h =
      let v : ℕ = k / 5 in
      let e : v * 5 + k % 5 ≡ k = div-add-mod' k 5 in
      let r : k % 5 < 5 = mod-lt k (omega arith) in
      let lt : v < n = omega (arith, e) in
      let at : get_or saved₁ (0 + (v * 5 + k % 5)) 0 ≡ get_or s.words.now (16389 + (v * 5 + k % 5)) 0 = elim (c.rows v lt) [
        | inl f ↦ f (k % 5) r
        | inr f ↦ c.stay v lt f (k % 5) r ∙ noted v (omega arith) (omega arith) f (k % 5) r
      ] in
      let g : 0 + (v * 5 + k % 5) ≡ k = omega (arith, e) in
      let i : 16389 + (v * 5 + k % 5) ≡ 16389 + k = omega (arith, e) in
      ap (λ (x : ℕ). get_or saved₁ x 0) (sym g) ∙ at ∙ ap (λ (x : ℕ). get_or s.words.now x 0) i

  -- there is no other
  pub old_saved : n ≡ s.used.vars → Saved s.words.now s.used saved₁
  old_saved e = record { word = λ k h. front k (omega (arith, e)) }

  module _ (ys saved₂ : List ℕ) (z : Wrote saved₁ (n * 5) (s.used.vars * 5 - n * 5) ys saved₂) (new : (k : ℕ) → k < s.used.vars * 5 - n * 5 → get_or ys k 0 ≡ get_or s.words.now (16389 + n * 5 + k) 0) where
    pub all_saved : Saved s.words.now s.used saved₂
    all_saved = record { word = λ k h. by k h (dec_lt k (n * 5)) }
      where
        by : (k : ℕ) → k < s.used.vars * 5 → Dec (k < n * 5) → get_or saved₂ k 0 ≡ get_or s.words.now (16389 + k) 0
        by k h (yes p) = z.there k (λ l q e. omega (arith, e)) ∙ front k p
        by k h (no p) =
            let e : n * 5 + (k - n * 5) ≡ k = omega arith in
            let f : 16389 + n * 5 + (k - n * 5) ≡ 16389 + k = omega arith in
            ap (λ (x : ℕ). get_or saved₂ x 0) (sym e) ∙ z.here (k - n * 5) (omega arith) ∙ new (k - n * 5) (omega arith) ∙ ap (λ (x : ℕ). get_or s.words.now x 0) f

-- .. copied at once
pub copied_all : (w : List ℕ) (u : Used) (saved saved₁ : List ℕ) (m : ℕ) → m ≡ u.vars * 5 → length (take m (drop 16389 w)) ≡ m
    → Wrote saved 0 (length (take m (drop 16389 w))) (take m (drop 16389 w)) saved₁ → Saved w u saved₁
copied_all w u saved saved₁ m e many z = record {
  word = λ k h.
      let lt : k < m = omega (arith, e) in
      let at : 0 + k ≡ k = omega arith in
      ap (λ (x : ℕ). get_or saved₁ x 0) (sym at) ∙ z.here k (omega (arith, many)) ∙ get_or-take m (drop 16389 w) k 0 lt ∙ get_or-drop 16389 w k 0;
}

-- KP from the names listed to the words and the payload that it leaves. Assumes nothing.
use mathlib.Core.Path.{◌≡◌, sym, ap, subst, ◌∙◌}
use mathlib.Core.Bool.{Bool}
use mathlib.Core.List.{List, Memᴰ, ◌++◌}
use Prim.Native.Nat.{ℕ, ◌≤◌, ◌<◌}
use native.Mathlib.Omega.{arith}
use lib.ListN.{length, get_or, take, length-take}
use lib.Seq.{get_or-take}
use Rattle.definition.specs.Types as d
use Rattle.definition.specs.Types.{Struct}
use Rattle.definition.specs.Store.{with_structs}
use Rattle.definition.specs.Write.{Bytes, u16}
use Rattle.definition.specs.Keep.{Reach, those_below, reach, cleared, survivors}
use Rattle.theorems.proofs.KeepLists.{those_mem, those_few}
use Rattle.theorems.proofs.KeepSame.{structs_left}
use Rattle.table.specs.State.{seen}
use Rattle.table.specs.Touched.{Untouched}
use Rattle.table.specs.Did.{held, tables}
use Rattle.table.specs.declared.Touched.{Touched}
use Rattle.table.specs.declared.Touched.TheVariants.{Any}
use Rattle.table.specs.declared.state.State.{State}
use Rattle.writer.specs.Bytes.{Wrote}
use Rattle.keep.specs.Numbered.{among, pairs}
use Rattle.keep.specs.Keeps.{Ready, Clears, Keeps}
use Rattle.keep.specs.declared.marks.Marks.{Marks}
use Rattle.keep.specs.declared.numbers.Numbers.{Numbers}
use Rattle.keep.proofs.Numbering.{pairs_four}
use Rattle.keep.proofs.Reaching.{place_at}
use Rattle.keep.proofs.Clearing.{each_on, reach_here, cleared_here}
use Rattle.keep.proofs.Leaving.{V, var_is, reach_is}

-- the names listed are in use
pub listed_known : {listed : List ℕ} (names : List ℕ) {n vars : ℕ} → listed ≡ take n names → n ≤ length names → ((k : ℕ) → k < n → get_or names k 0 < vars) → (v : ℕ) → Memᴰ v listed → v < vars
listed_known names {n} {vars} e fit below v m =
    let i = place_at 0 (take n names) v (subst (λ (l : List ℕ). Memᴰ v l) e m) in
    let lt : i.0 < n = omega (arith, length-take n names, i.1) in
    subst (λ (x : ℕ). x < vars) (sym (get_or-take n names i.0 0 lt) ∙ i.2) (below i.0 lt)

pub clears : {s t : State} (listed : List ℕ) → t.words.ghost_name ≡ s.words.ghost_name → t.saved ≡ s.saved → t.touched ≡ Any → tables t ≡ cleared (tables s) listed → Clears s t listed
unfolding seen
clears {s} {t} listed name saved any is = record {
  same = record { name = name; saved = saved; rows = λ v p q f. absurd (subst (λ (x : Touched). Untouched x v) any f) };
  touched = any;
  structs = ap (λ (x : d.State). x.structs) is ∙ structs_left (tables s) listed;
  is = λ ds. ap (λ (x : d.State). with_structs x ds) is ∙ sym (cleared_here (tables s) ds listed);
}

module _ {st : State} {listed : List ℕ} {m : Marks} {places : List Bool} {new : Numbers} (r : Ready st listed m places new) where
  survivors_are : survivors (V r) ≡ pairs new.vars (V r)
  unfolding survivors
  survivors_are = each_on _ _ (V r) (λ v h. ap (λ (x : ℕ). u16 v ++ u16 x) (sym (var_is r v (those_mem st.used.vars (among m.vars) v h).0)))

  vars_are : (ds : List Struct) → (reach (held st ds) listed).vars ≡ V r
  unfolding seen
  vars_are ds = ap (λ (x : Reach). x.vars) (reach_here (tables st) ds listed ∙ reach_is r)

  pub keeps : {t : State} {buf buf' : List ℕ} {len : ℕ} → Clears st t listed → Wrote buf 0 (pairs new.vars (those_below st.used.vars (among m.vars))) buf' len → Keeps st t listed buf buf' len
  keeps {buf = buf} {buf' = buf'} {len = len} c w = record {
    clears = c;
    few = let l = st.lay.vars in omega (arith, l, w.next_is, pairs_four new.vars (V r), those_few st.used.vars (among m.vars));
    wrote = λ ds. subst (λ (x : Bytes). Wrote buf 0 x buf' len) (sym (ap survivors (vars_are ds) ∙ survivors_are)) w;
  }

-- A type's tag, location and fields: by the tag, and one level deeper. Assumes nothing.
use mathlib.Core.Path.{◌≡◌, refl, ap}
use mathlib.Core.Bool.{Bool, ◌&&◌}
use mathlib.Core.List.{List}
use Prim.Native.Nat.{ℕ, zero, suc, ◌-◌, ◌<◌, ◌≤◌}
use native.Mathlib.Nat.{not-suc-le-zero}
use native.Mathlib.Omega.{arith}
use lib.Dec.{ltb, eqb}
use lib.ListN.{length, get_or}
use Rattle.std.specs.Prelude.{if◌then◌else◌}
use Rattle.definition.specs.Types.{State, malformed, doubled_reference}
use Rattle.definition.specs.Write.{Bytes}
use Rattle.definition.specs.Reader.{not_read, Reader, go_on, ◌>>=◌, refuse, byte_to, read_u32}
use Rattle.definition.specs.Trees.{Tree, under_ref, by_tag, read_nested}
use Rattle.table.specs.Rows.{struct_table}
use Rattle.table.specs.State.{view, Declares}
use Rattle.table.specs.declared.Used.{Used}
use Rattle.table.proofs.Rows.{length_entries}
use Rattle.heads.specs.Fields.{Arities}

-- the words' own declarations: as many parameters as they have, with no bytes
pub declares_self : (w : List ℕ) (u : Used) → Declares w u (view w u).structs
unfolding view
declares_self w u = record { many = length_entries struct_table w u.structs; abilities = λ i l. refl; params = λ i l. refl }

pub arity_fits : (w : List ℕ) (u : Used) (n many : ℕ) → Arities (view w u).structs → many ≡ length (get_or (view w u).structs n struct_table.blank).params → many ≤ 8
unfolding Arities
arity_fits w u n many a e = rw e (a n)

pub read_deep : (nest : ℕ) (s : State) (l : Bytes) → 0 < nest
    → read_nested nest s l ≡ go_on (byte_to 8 l) (λ tag m. go_on (read_u32 m) (λ loc n. get_or (by_tag s (read_nested (nest - 1) s) loc (nest - 1)) tag (refuse malformed) n))
unfolding read_nested ◌>>=◌
read_deep zero s l h = absurd (not-suc-le-zero h)
read_deep (suc nest) s l h =
    let e : nest ≡ suc nest - 1 = omega arith in
    ap (λ (k : ℕ). go_on (byte_to 8 l) (λ tag m. go_on (read_u32 m) (λ loc n. get_or (by_tag s (read_nested k s) loc k) tag (refuse malformed) n))) e

pub no_nest : (nest : ℕ) (s : State) (l : Bytes) → nest ≡ 0 → not_read malformed ≡ read_nested nest s l
unfolding read_nested refuse
no_nest nest s l e = rw e refl

-- R-6: what is done with the type under a reference, once its tag is looked at
pub under_ref_is : (left : ℕ) (l : Bytes) (t : Bool) → t ≡ ltb 0 left && eqb (get_or l 0 0) 1 → (part : Reader Tree) → under_ref left part l ≡ (if t then not_read doubled_reference else part l)
unfolding under_ref
under_ref_is left l t e part = rw e refl

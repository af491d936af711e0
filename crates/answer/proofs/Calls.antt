-- What a caller knows of a run, as the answer asks it. Assumes nothing.
use mathlib.Core.Path.{◌≡◌, refl}
use mathlib.Core.Bool.{Bool, true, false, ◌&&◌}
use mathlib.Core.List.{List, append-nil}
use Rattle.std.specs.Prelude.{None, Some}
use Prim.Native.Nat.{ℕ, ◌<◌}
use native.Mathlib.Omega.{arith}
use borrow.Author.Tests.{leb-true}
use lib.ListN.{get_or}
use Rattle.definition.specs.Types.{State, Struct, TypeName, Multiple, Builtin, ModuleType, AbilityMark, Shape, UnitType, Param, Ref, Apply, Var, Anything, UnresolvedError, Places, max_builtin}
use Rattle.definition.specs.Store.{nowhere, node, with_structs}
use Rattle.definition.specs.Subst.{parts}
use Rattle.definition.specs.Write.{mark, each, head, write_down, write_spanned}
use Rattle.definition.specs.Trees.{mark_fits, is_mark, is_name}
use Rattle.definition.specs.Sound.{is_u32}
use Rattle.theorems.proofs.SoundRanges.{ShapeIn, NodeIn, Ranges, all_get}
use Rattle.table.specs.State.{seen, view}
use Rattle.table.specs.declared.Used.{Used}
use Rattle.writer.specs.Bytes.{NameByte, ByteFields, AllBytes}

-- ---- fields that are bytes, in every state that a run leaves

and_left : (a b : Bool) → a && b ≡ true → a ≡ true
and_left true b e = refl
and_left false b e = e

and_right : (a b : Bool) → a && b ≡ true → b ≡ true
and_right true b e = e
and_right false true e = refl
and_right false false e = e

mark_byte : (k : AbilityMark) → is_mark k ≡ true → mark k < 256
unfolding is_mark mark
mark_byte None e = omega arith
mark_byte (Some x) e = let h = leb-true x 15 e in omega arith

name_byte : (s : State) (n : TypeName) → is_name s n ≡ true → NameByte n
unfolding is_name max_builtin
name_byte s (Multiple n) e = let h = leb-true n 8 e in omega arith
name_byte s (Builtin b) e = let h = leb-true b max_builtin e in omega arith
name_byte s (ModuleType n) e = tt

shape_bytes : (s : State) (x : Shape Places) → ShapeIn s x → ByteFields x
shape_bytes s UnitType h = tt
shape_bytes s (Ref m t) h = tt
shape_bytes s (Param id a) h = tt
shape_bytes s (Apply k n p) h =
    let both = and_left (is_mark k && is_name s n) (mark_fits k n) h in
    (mark_byte k (and_left (is_mark k) (is_name s n) both), name_byte s n (and_right (is_mark k) (is_name s n) both))
shape_bytes s (Var v) h = tt
shape_bytes s Anything h = tt
shape_bytes s UnresolvedError h = tt

nowhere_in : (b : State) → NodeIn b nowhere
unfolding is_u32
nowhere_in b = record { loc_in = refl; shape_in = tt }

pub ranges_bytes : (b s : State) → Ranges b s → AllBytes s
unfolding AllBytes node
ranges_bytes b s r t h = shape_bytes b (get_or s.nodes t nowhere).value (all_get (NodeIn b) nowhere s.nodes r.nodes_in (nowhere_in b) t).shape_in

pub seen_bytes : (w : List ℕ) (u : Used) (ds : List Struct) → AllBytes (seen w u ds) → AllBytes (view w u)
unfolding AllBytes node seen with_structs
seen_bytes w u ds h = h

-- ---- a state that is kept asks nothing of the variables

pub kept_never : {K : Type 0} {kept : Bool} → kept ≡ true → kept ≡ false → K
kept_never e f = absurd (let z : ◌≡◌ {A = ℕ} 0 1 = cc in omega arith)

-- ---- `_` in no table

pub write_anything : (s : State) (loc : ℕ) → write_spanned s (record { loc = loc; value = Anything }) ≡ head loc Anything
unfolding write_spanned write_down parts each
write_anything s loc = append-nil (head loc Anything)

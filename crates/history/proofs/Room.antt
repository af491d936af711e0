-- How the room falls. Assumes nothing.
use mathlib.Core.Path.{◌≡◌, refl, ap, ◌∙◌}
use mathlib.Core.List.{List, [], ◌∷◌, ◌++◌}
use Rattle.std.specs.Prelude.{Option, None, Some}
use Prim.Native.Nat.{ℕ, zero, suc, ◌+◌, ◌*◌, ◌-◌, ◌<◌, ◌≤◌}
use native.Mathlib.Nat.{not-suc-le-zero}
use native.Mathlib.Omega.{arith}
use lib.ListN.{length, get_or, set, length-set}
use Rattle.definition.specs.Types.{State, Cell, unbound}
use Rattle.definition.specs.Store.{taken, get, num_loc, need_of, with_vars, insert}
use Rattle.table.specs.Tab.{tab}
use Rattle.table.proofs.Tab.{length_tab, tab_more}
use Rattle.history.specs.Room.{one_if_none, unbound_in, room}
use Rattle.history.specs.Past.{with_mark}

-- of one variable that is bound and one that is not, computed: false if a free variable counted for 3 (must-fail/)
pub room_of_two : room (record { nodes = []; args = []; vars = record { binding = Some 0; numeric = None; need = 0 } ∷ unbound ∷ []; constraints = []; structs = [] }) ≡ 4089
unfolding room unbound_in
room_of_two = refl

set_unbound : (l : List Cell) (v : ℕ) (c : Cell) → v < length l → unbound_in (set l v c) + one_if_none (get_or l v unbound).binding ≡ unbound_in l + one_if_none c.binding
unfolding unbound_in
set_unbound [] v c p = absurd (not-suc-le-zero p)
set_unbound (x ∷ l) zero c p = omega arith
set_unbound (x ∷ l) (suc v) c p = let e = set_unbound l v c (omega arith) in omega arith

more_unbound : (l : List Cell) → unbound_in (l ++ (unbound ∷ [])) ≡ unbound_in l + 1
unfolding unbound_in
more_unbound [] = refl
more_unbound (x ∷ l) = let e = more_unbound l in omega arith

pub one_most : (o : Option ℕ) → one_if_none o ≤ 1
one_most None = omega arith
one_most (Some t) = omega arith

few_unbound : (l : List Cell) → unbound_in l ≤ length l
unfolding unbound_in
few_unbound [] = omega arith
few_unbound (x ∷ l) = let e = few_unbound l in let f = one_most x.binding in omega arith

-- binding an unbound variable lowers it by 1, a bound one by 0
pub room_insert : (s : State) (v t : ℕ) → v < taken s → room (insert s v t) + one_if_none (get s v) ≡ room s
unfolding room insert with_vars get
room_insert s v t p =
    let c : Cell = record { binding = Some t; numeric = num_loc s v; need = need_of s v } in
    let e : unbound_in (set s.vars v c) + one_if_none (get_or s.vars v unbound).binding ≡ unbound_in s.vars + 0 = set_unbound s.vars v c p in
    let f : length (set s.vars v c) ≡ length s.vars = length-set s.vars v c in
    rw f (omega (arith, e))

-- a mark leaves it as it is
pub room_mark : (s : State) (v : ℕ) (numeric : Option ℕ) (need : ℕ) → v < taken s → room (with_mark v numeric need s) ≡ room s
unfolding room with_mark with_vars get
room_mark s v numeric need p =
    let c : Cell = record { binding = get s v; numeric = numeric; need = need } in
    let e : unbound_in (set s.vars v c) + one_if_none (get_or s.vars v unbound).binding ≡ unbound_in s.vars + one_if_none (get_or s.vars v unbound).binding = set_unbound s.vars v c p in
    let f : length (set s.vars v c) ≡ length s.vars = length-set s.vars v c in
    rw f (omega (arith, e))

fresh_unbound : (n d : ℕ) (f : ℕ → Cell) → ((v : ℕ) → n ≤ v → f v ≡ unbound) → unbound_in (tab (n + d) f) ≡ unbound_in (tab n f) + d
fresh_unbound n zero f e = let z : n + 0 ≡ n = omega arith in rw z (omega arith)
fresh_unbound n (suc d) f e =
    let z : n + suc d ≡ n + d + 1 = omega arith in
    let x : tab (n + d + 1) f ≡ tab (n + d) f ++ (unbound ∷ []) = tab_more (n + d) f ∙ ap (λ (c : Cell). tab (n + d) f ++ (c ∷ [])) (e (n + d) (omega arith)) in
    rw (z, x, more_unbound (tab (n + d) f), fresh_unbound n d f e) (omega arith)

cells_room : (s : State) (n : ℕ) (f : ℕ → Cell) → room (with_vars s (tab n f)) ≡ 4 * (1024 - n) + unbound_in (tab n f)
unfolding room with_vars
cells_room s n f = rw (length_tab n f) refl

-- a fresh variable lowers it by 3
pub room_fresh : (s t : State) (n d : ℕ) (f : ℕ → Cell) → ((v : ℕ) → n ≤ v → f v ≡ unbound) → n + d ≤ 1024 → room (with_vars t (tab (n + d) f)) + 3 * d ≡ room (with_vars s (tab n f))
room_fresh s t n d f e p = rw (cells_room t (n + d) f, cells_room s n f, fresh_unbound n d f e) (omega arith)

-- no state has more than 4,096
pub room_most : (s : State) → taken s ≤ 1024 → room s ≤ 4096
unfolding room
room_most s p = let e = few_unbound s.vars in omega arith

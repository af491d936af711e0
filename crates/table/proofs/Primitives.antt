-- The primitives' last steps: what they wrote is what the definition says. `at` and the like are numbers as indices. Assumes nothing.
use mathlib.Core.Path.{◌≡◌, refl, sym, ap, ap₂, ◌∙◌, subst}
use mathlib.Core.List.{List, [], ◌++◌}
use Rattle.std.specs.Prelude.{Option, Some, None, unwrap_or}
use Rattle.std.proofs.lemmas.Option.{none-some, same_Some}
use Prim.Native.Nat.{ℕ, ◌+◌, ◌*◌, ◌-◌, ◌<◌}
use native.Mathlib.Omega.{arith}
use lib.ListN.{length, get_or, take, length-append}
use lib.Seq.{length-take-le, get_or-take, get_or-append-add}
use Rattle.definition.specs.Types as d
use Rattle.definition.specs.Store.{args_of, stored, sp, insert, with_need, get, num_loc, need_of, with_structs}
use Rattle.definition.specs.Subst.{mark_one, or_insert}
use Rattle.names.specs.Names.{mark_of, name_of}
use Rattle.names.specs.declared.AbilitySet.{AbilitySet}
use Rattle.names.specs.declared.TypeName.{TypeName}
use Rattle.table.specs.Rows.{Written, node_table, places}
use Rattle.table.specs.State.{view, seen, Lay, Wrote, After, Stored, Flat, FoundIn, Parts, Below, shape_of, value_of, node_at, with_cell}
use Rattle.table.specs.declared.Shape.{Shape}
use Rattle.table.specs.declared.Shape.TheVariants.{Unit as UnitS, Ref, Param, Apply, Var, Anything, UnresolvedError}
use Rattle.table.specs.declared.Used.{Used}
use Rattle.refusals.specs.declared.Refusal.TheVariants.{Full}
use Rattle.table.proofs.Rows.{wrote_none}
use Rattle.table.proofs.Steps.{refines_is}
use Rattle.table.proofs.Pushed.{count_view, args_view, node_pushed, places_full}
use Rattle.table.specs.declared.state.Stop.TheVariants.{Refused}
use Rattle.std.specs.Prelude.{Ok, Err}

-- ---- a node without arguments

flat_args : (n : ℕ) (s : Shape) → Flat n s → args_of (value_of s) ≡ []
unfolding args_of
flat_args n UnitS h = refl
flat_args n (Ref m t) h = refl
flat_args n (Param id a) h = refl
flat_args n (Apply a) h = absurd h
flat_args n (Var v) h = refl
flat_args n Anything h = refl
flat_args n UnresolvedError h = refl

flat_stored : (n first : ℕ) (s : Shape) → Flat n s → stored first (value_of s) ≡ shape_of s
unfolding stored
flat_stored n f UnitS h = refl
flat_stored n f (Ref m t) h = refl
flat_stored n f (Param id a) h = refl
flat_stored n f (Apply a) h = absurd h
flat_stored n f (Var v) h = refl
flat_stored n f Anything h = refl
flat_stored n f UnresolvedError h = refl

flat_below : (n : ℕ) (args : List ℕ) (s : Shape) → Flat n s → Below args n (shape_of s)
flat_below n args UnitS h = tt
flat_below n args (Ref m t) h = h
flat_below n args (Param id a) h = tt
flat_below n args (Apply a) h = absurd h
flat_below n args (Var v) h = tt
flat_below n args Anything h = tt
flat_below n args UnresolvedError h = tt

pub flat_pushed : (w : List ℕ) (u : Used) (loc : ℕ) (s : Shape) (at : ℕ) (r w' : List ℕ) → Lay w u → Flat u.nodes s → u.nodes < 2048 → at ≡ u.nodes → Wrote w (5 + at * 6) 6 r w' → Written node_table r (node_at loc s)
    → After w u w' (record { out = Ok u.nodes; used = record { nodes = u.nodes + 1; args = u.args; vars = u.vars; constraints = u.constraints; structs = u.structs } }) (λ x. sp x loc (value_of s))
flat_pushed w u loc s at r w' h flat lt e wrote row =
    let few = h.args in
    node_pushed w u loc (value_of s) h [] 0 u.args w r w' (shape_of s) lt (omega arith) (omega arith) (omega arith) (flat_args u.nodes s flat) (flat_stored u.nodes u.args s flat)
    (wrote_none w (12293 + u.args) [])
    (rw e at wrote)
    row
    (flat_below u.nodes _ s flat)

-- ---- a named type

module _ (w : List ℕ) (u : Used) (loc : ℕ) (k : Option AbilitySet) (name : TypeName) (parts : List ℕ) (n : ℕ) (h : Lay w u) (p : Parts u.nodes parts n) (long : length parts ≡ 8) (lt : u.nodes < 2048) where
  abbrev v : d.TypeValue
  v = d.Apply (mark_of k) (name_of name) (take n parts)

  many : length (take n parts) ≡ n
  many = let q = p.few in length-take-le n parts (omega arith)

  pub apply_full : 4096 - u.args < n → After w u w (record { out = Err (Refused Full); used = u }) (λ s. sp s loc v)
  unfolding args_of
  apply_full le = let few = h.args in places_full w u loc v h lt (rw many (omega arith))

  apply_below : Below ((view w u).args ++ take n parts) u.nodes (d.Apply (mark_of k) (name_of name) (places u.args n))
  unfolding places
  apply_below = (
    p.few,
    (
      rw (length-append (view w u).args (take n parts), args_view w u, many) (omega arith),
      λ i l.
          subst (λ (x : ℕ). x < u.nodes)
          (sym (ap (λ (x : ℕ). get_or ((view w u).args ++ take n parts) (x + i) 0) (sym (args_view w u)) ∙ get_or-append-add (view w u).args (take n parts) i 0 ∙ get_or-take n parts i 0 l))
          (p.below i l),
    ),
  )

  pub apply_pushed : (at place : ℕ) (w₁ r w' : List ℕ) → (4096 - u.args < n → ⊥) → at ≡ u.nodes → place ≡ u.args → Wrote w (12293 + place) n parts w₁ → Wrote w₁ (5 + at * 6) 6 r w'
      → Written node_table r (node_at loc (Apply (record { k = k; n = name; first = u.args; many = n })))
      → After w u w' (record { out = Ok u.nodes; used = record { nodes = u.nodes + 1; args = u.args + n; vars = u.vars; constraints = u.constraints; structs = u.structs } }) (λ s. sp s loc v)
  unfolding args_of stored places
  apply_pushed at place w₁ r w' room e f first second row =
      let few = h.args in
      let q = p.few in
      node_pushed w u loc v h parts n (u.args + n) w₁ r w' (d.Apply (mark_of k) (name_of name) (places u.args n)) lt (omega arith) (omega arith) refl refl
      (ap (λ (x : ℕ). d.Apply (mark_of k) (name_of name) (record { first = u.args; many = x })) many)
      (rw f at first)
      (rw e at second)
      row
      apply_below

-- ---- variables

pub found_in : (n : ℕ) (f : Option ℕ) → FoundIn n f → (t : ℕ) → f ≡ Some t → t < n
found_in n None h t e = absurd (none-some t e)
found_in n (Some x) h t e = subst (λ (y : ℕ). y < n) (same_Some x t e) h

-- what a variable is bound to is a node
pub bound_in : (w : List ℕ) (u : Used) (v : ℕ) (b : Option ℕ) → Lay w u → ((ds : List d.Struct) → b ≡ get (seen w u ds) v) → FoundIn u.nodes b
unfolding seen with_structs get
bound_in w u v None h e = tt
bound_in w u v (Some t) h e = subst (λ (n : ℕ). t < n) (count_view w u) (h.inside.bindings v t (sym (e [])))

-- insert, with_need and mark_one are this store, at what the state says of the variable
pub insert_cell : (w : List ℕ) (u : Used) (v t : ℕ) (m : Option ℕ) (n : ℕ) (w' : List ℕ) → ((ds : List d.Struct) → m ≡ num_loc (seen w u ds) v) → ((ds : List d.Struct) → n ≡ need_of (seen w u ds) v)
    → Stored w u w' (with_cell v (Some t) m n) → Stored w u w' (λ s. insert s v t)
unfolding insert with_cell
insert_cell w u v t m n w' e f a = refines_is (λ ds k. ap₂ (λ (x : Option ℕ) (y : ℕ). with_cell v (Some t) x y (seen w u ds)) (e ds) (f ds)) a

pub need_cell : (w : List ℕ) (u : Used) (v n : ℕ) (b m : Option ℕ) (w' : List ℕ) → ((ds : List d.Struct) → b ≡ get (seen w u ds) v) → ((ds : List d.Struct) → m ≡ num_loc (seen w u ds) v)
    → Stored w u w' (with_cell v b m n) → Stored w u w' (λ s. with_need s v n)
unfolding with_need with_cell
need_cell w u v n b m w' e f a = refines_is (λ ds k. ap₂ (λ (x y : Option ℕ). with_cell v x y n (seen w u ds)) (e ds) (f ds)) a

or_insert_is : (o : Option ℕ) (x : ℕ) → unwrap_or o x ≡ or_insert o x
unfolding or_insert
or_insert_is None x = refl
or_insert_is (Some y) x = refl

pub mark_cell : (w : List ℕ) (u : Used) (v loc l : ℕ) (b m : Option ℕ) (n : ℕ) (w' : List ℕ) → ((ds : List d.Struct) → b ≡ get (seen w u ds) v) → ((ds : List d.Struct) → m ≡ num_loc (seen w u ds) v) → ((ds : List d.Struct) → n ≡ need_of (seen w u ds) v) → l ≡ unwrap_or m loc
    → Stored w u w' (with_cell v b (Some l) n) → Stored w u w' (λ s. mark_one s v loc)
unfolding mark_one with_cell
mark_cell w u v loc l b m n w' e f g' g a =
    refines_is
    (λ ds k. ap₂ (λ (x : Option ℕ) (y : ℕ). with_cell v x (Some l) y (seen w u ds)) (e ds) (g' ds)
    ∙ ap (λ (x : ℕ). with_cell v (get (seen w u ds) v) (Some x) (need_of (seen w u ds) v) (seen w u ds)) (g ∙ or_insert_is m loc ∙ ap (λ (x : Option ℕ). or_insert x loc) (f ds)))
    a

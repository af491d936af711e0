-- R-11, demand 3: a survivor reads after KP as before, with open variables renamed (`reads_moved`), which changes no rank (`rank_renamed`); so it ranks as before (`survivor_ranks`). Assumes nothing.
use mathlib.Core.Path.{◌≡◌, refl, sym, ap, ◌∙◌, subst}
use mathlib.Core.Bool.{Bool, true, false}
use mathlib.Core.List.{List, [], ◌∷◌, map, Memᴰ}
use Rattle.std.specs.Prelude.{None, Some, if◌then◌else◌}
use Prim.Native.Nat.{ℕ, ◌<◌}
use Rattle.definition.specs.Types.{TypeValue, Var, State}
use Rattle.definition.specs.Store.{type_at, get, taken}
use Rattle.definition.specs.Subst.{parts}
use Rattle.definition.specs.Sound.{sound}
use Rattle.definition.specs.Rank.{ReadType, any, open_var, unresolved, unit, reference, parameter, named, ReadTypes, no_types, ◌and◌}
use Rattle.definition.specs.Rank.{Reads, reads_unit, reads_reference, reads_parameter, reads_named, reads_bound, reads_open, reads_any, reads_error, ReadsAll, reads_none, reads_each}
use Rattle.definition.specs.Rank.{known_error, Rank, any_below, open_below, error_below, units, parameters, references, same_named, Ranks, no_more, each}
use Rattle.definition.specs.Demand.{AtOrBelow}
use Rattle.definition.specs.Keep.{a_node, a_variable, Kept, its_binding, its_part, its_variable, reach, one_of, slid, cleared, moved}
use Rattle.theorems.proofs.DemandReading.{mut_refl}
use Rattle.theorems.proofs.DemandTracks.{never}
use Rattle.theorems.proofs.KeepLists.{one_mem, mem_one}
use Rattle.theorems.proofs.KeepReach.{TakenAll, kept_is}
use Rattle.theorems.proofs.KeepSame.{through, vars_of, new_node, new_var, new_binding, Same, cleared_same}

-- ---- open variables renamed

mutual
  pub renamed : (ℕ → ℕ) → ReadType → ReadType
  renamed f any = any
  renamed f (open_var v) = open_var (f v)
  renamed f unresolved = unresolved
  renamed f unit = unit
  renamed f (reference m t) = reference m (renamed f t)
  renamed f (parameter id a) = parameter id a
  renamed f (named k n ts) = named k n (renamed_all f ts)

  pub renamed_all : (ℕ → ℕ) → ReadTypes → ReadTypes
  renamed_all f no_types = no_types
  renamed_all f (◌and◌ t ts) = ◌and◌ (renamed f t) (renamed_all f ts)

-- rank never looks at an open variable's number
mutual
  unfolding renamed renamed_all

  pub rank_renamed : (f : ℕ → ℕ) (t : ReadType) → Rank t (renamed f t)
  rank_renamed f any = any_below
  rank_renamed f (open_var v) = open_below
  rank_renamed f unresolved = error_below known_error
  rank_renamed f unit = units
  rank_renamed f (reference m t) = references (mut_refl m) (rank_renamed f t)
  rank_renamed f (parameter id a) = parameters
  rank_renamed f (named k n ts) = same_named (ranks_renamed f ts)

  ranks_renamed : (f : ℕ → ℕ) (ts : ReadTypes) → Ranks ts (renamed_all f ts)
  ranks_renamed f no_types = no_more
  ranks_renamed f (◌and◌ t ts) = each (rank_renamed f t) (ranks_renamed f ts)

-- ---- a type whose parts and variable are kept

pub record KeptType (s : State) (listed : List ℕ) (x : TypeValue) : Type 0 where
  pub parts_kept : (p : ℕ) → Memᴰ p (parts x) → Kept s listed (a_node p)
  pub var_kept : (v : ℕ) → x ≡ Var v → Kept s listed (a_variable v)

pub of_node : {s : State} {listed : List ℕ} {t : ℕ} → Kept s listed (a_node t) → KeptType s listed (type_at s t)
of_node k = record { parts_kept = λ p m. its_part k m; var_kept = λ v e. its_variable k e }

pub of_variable : {s : State} {listed : List ℕ} {v : ℕ} → Kept s listed (a_variable v) → KeptType s listed (Var v)
unfolding parts
of_variable {s} {listed} {v} k = record { parts_kept = λ p m. absurd (mathlib.Core.List.Memᴰ.not-nil m); var_kept = λ w e. let c : v ≡ w = cc in subst (λ (u : ℕ). Kept s listed (a_variable u)) c k }

module _ (s : State) (h : sound s ≡ true) (listed : List ℕ) (known : TakenAll s listed) where
  same : Same s listed
  same = cleared_same s h listed known

  bound_left : (v t : ℕ) → Kept s listed (a_variable v) → get s v ≡ Some t → get (cleared s listed) (new_var s listed v) ≡ Some (new_node s listed t)
  unfolding new_binding
  bound_left v t k e = same.binding_same v k ∙ ap (λ o. new_binding s listed o) e

  open_left : (v : ℕ) → Kept s listed (a_variable v) → get s v ≡ None → get (cleared s listed) (new_var s listed v) ≡ None
  unfolding new_binding
  open_left v k e = same.binding_same v k ∙ ap (λ o. new_binding s listed o) e

  at_new : {t : ℕ} {r : ReadType} → Kept s listed (a_node t) → Reads (cleared s listed) (through (λ v. new_var s listed v) (λ t. new_node s listed t) (type_at s t)) r → Reads (cleared s listed) (type_at (cleared s listed) (new_node s listed t)) r
  at_new {t} {r} k d = subst (λ (y : TypeValue). Reads (cleared s listed) y r) (sym (same.type_same t k)) d

  mutual
    unfolding through renamed renamed_all parts

    pub reads_moved : {x : TypeValue} {r : ReadType} → Reads s x r → KeptType s listed x → Reads (cleared s listed) (through (λ v. new_var s listed v) (λ t. new_node s listed t) x) (renamed (λ v. new_var s listed v) r)
    reads_moved reads_unit k = reads_unit
    reads_moved (reads_reference {t = t} d) k = let q = k.parts_kept t (Memᴰ.head refl) in reads_reference (at_new q (reads_moved d (of_node q)))
    reads_moved reads_parameter k = reads_parameter
    reads_moved (reads_named {ts = ts} ds) k = reads_named (all_moved ds k.parts_kept)
    reads_moved (reads_bound {v = v} {t = t} e d) k = reads_bound (bound_left v t (k.var_kept v refl) e) (at_new (its_binding (k.var_kept v refl) e) (reads_moved d (of_node (its_binding (k.var_kept v refl) e))))
    reads_moved (reads_open {v = v} e) k = reads_open (open_left v (k.var_kept v refl) e)
    reads_moved reads_any k = reads_any
    reads_moved reads_error k = reads_error

    all_moved : {ts : List ℕ} {rs : ReadTypes} → ReadsAll s ts rs → ((p : ℕ) → Memᴰ p ts → Kept s listed (a_node p)) → ReadsAll (cleared s listed) (map (λ t. new_node s listed t) ts) (renamed_all (λ v. new_var s listed v) rs)
    all_moved reads_none k = reads_none
    all_moved (reads_each {t = t} d ds) k = reads_each (at_new (k t (Memᴰ.head refl)) (reads_moved d (of_node (k t (Memᴰ.head refl))))) (all_moved ds (λ p m. k p (Memᴰ.tail m)))

  -- the new number of a variable that stays
  pub moved_kept : (v v' : ℕ) → moved s listed v ≡ Some v' → Kept s listed (a_variable v) × (new_var s listed v ≡ v')
  unfolding moved new_var vars_of
  moved_kept v v' e = go (one_of (reach s listed).vars v) refl e
    where
      go : (b : Bool) → one_of (reach s listed).vars v ≡ b → (if b then Some (slid (reach s listed).vars v) else None) ≡ Some v' → Kept s listed (a_variable v) × (slid (reach s listed).vars v ≡ v')
      go true d f = ((kept_is s h listed known (a_variable v)).0 (one_mem (reach s listed).vars v d), cc)
      go false d f = never (cc)

  pub moved_below : (v v' : ℕ) → moved s listed v ≡ Some v' → v' < taken (cleared s listed)
  moved_below v v' e = let a = moved_kept v v' e in rw (← a.1) (same.var_in v a.0)

  pub kept_moved : (v : ℕ) → Kept s listed (a_variable v) → moved s listed v ≡ Some (new_var s listed v)
  unfolding moved new_var vars_of
  kept_moved v k = rw (mem_one (reach s listed).vars v ((kept_is s h listed known (a_variable v)).1 k)) refl

  -- demand 3 over KP: a survivor ranks after it where it did before
  pub survivor_ranks : (v v' : ℕ) → moved s listed v ≡ Some v' → (r : ReadType) → Reads s (Var v) r → AtOrBelow s (Var v) (cleared s listed) (Var v')
  unfolding through
  survivor_ranks v v' e r d =
      let a = moved_kept v v' e in
      record {
        lower = r;
        upper = renamed (λ v. new_var s listed v) r;
        reads_lower = d;
        reads_upper = subst (λ (w : ℕ). Reads (cleared s listed) (Var w) (renamed (λ v. new_var s listed v) r)) a.1 (reads_moved d (of_variable a.0));
        ranks = rank_renamed (λ v. new_var s listed v) r;
      }

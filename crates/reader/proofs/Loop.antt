-- The loop over the parts of a type in the words: where it begins, a turn, an early end, and the node at the end. Assumes nothing.
use mathlib.Core.Path.{◌≡◌, refl, sym, ap, ◌∙◌}
use mathlib.Core.Bool.{Bool, true, false}
use mathlib.Core.List.{List, [], ◌∷◌, ◌++◌}
use Prim.Native.Nat.{ℕ, suc, ◌+◌, ◌-◌, ◌≤◌, ◌<◌}
use native.Mathlib.Nat.{sub-zero}
use native.Mathlib.Numerals.{add-one}
use native.Mathlib.Decide.{ℕ_discrete}
use native.Mathlib.Omega.{arith}
use lib.ListN.{length, get_or, set, take, replicate, length-set, length-replicate}
use lib.Seq.{take-suc-set, get_or-set_same, get_or-set_other}
use Rattle.std.specs.Prelude as std
use Rattle.std.specs.Prelude.{Option, Some, None, Ok, Err, is_none, unwrap_or, if◌then◌else◌}
use Rattle.std.specs.Result.{result_ok}
use Rattle.definition.specs.Types.{State, Struct, unbound, full, refused}
use Rattle.definition.specs.Write.{Bytes}
use Rattle.definition.specs.Reader.{Read}
use Rattle.definition.specs.Trees.{Tree, read_trees, read_nested}
use Rattle.definition.specs.Build.{build, build_all}
use Rattle.table.specs.Rows.{struct_table}
use Rattle.table.specs.State.{Grown, Declares, view}
use Rattle.table.specs.Did.{held, tables, Did, Linked}
use Rattle.table.specs.declared.Used.{Used}
use Rattle.table.specs.declared.state.State.{State as Table}
use Rattle.table.specs.declared.state.Stop.{Stop}
use Rattle.table.proofs.Rows.{length_entries}
use Rattle.table.proofs.Steps.{grown_refl, grown_trans}
use Rattle.table.proofs.Grown.{nodes_grow}
use Rattle.refusals.specs.Refusals.{refusal_of}
use Rattle.refusals.specs.declared.Refusal.{Refusal}
use Rattle.heads.specs.declared.Head.{Head}
use Rattle.heads.specs.Fields.{Knows, many_parts, tree_read}
use Rattle.reader.specs.Taken.{Placed, placed, stopped, place_read, part_of, PlacedSo, Takes, put_node}
use Rattle.heads.proofs.Heads.{declares_self}
use Rattle.reader.proofs.Parts.{never, then_node, onward, onward_none, node_after, turn, stop, at_open, none_left, found_is, found_in}
use Rattle.table.proofs.Did.{linked, linked_now}

-- ---- declarations and counts

structs_count : (w : List ℕ) (u : Used) → length (view w u).structs ≡ u.structs
unfolding view
structs_count w u = length_entries struct_table w u.structs

pub declares_kept : (w : List ℕ) (u : Used) (w' : List ℕ) (u' : Used) (ds : List Struct) → (view w' u').structs ≡ (view w u).structs → Declares w u ds → Declares w' u' ds
declares_kept w u w' u' ds e d =
    let n : u.structs ≡ u'.structs = sym (structs_count w u) ∙ ap length (sym e) ∙ structs_count w' u' in
    record {
      many = d.many ∙ n;
      abilities = λ i l. rw e (d.abilities i (omega arith));
      params = λ i l. rw e (d.params i (omega arith));
    }

-- a state that knows so much, whatever the declarations are
abbrev pub knowing : ℕ → List Struct → State
knowing n ds = record { nodes = []; args = []; vars = replicate n unbound; constraints = []; structs = ds }

pub knows : (n : ℕ) (ds : List Struct) → Knows (knowing n ds) n ds
knows n ds = record { vars = length-replicate n unbound; structs = refl }

-- ---- what m reads, said otherwise

pub takes_is : {st : Table} {known : ℕ} {over : Bool} {m m' : State → Read Tree} {t : Table} {l : Bytes} {r : std.Result (Option ℕ) Refusal}
    → ((ds : List Struct) (s : State) → Declares st.words.now st.used ds → Knows s known ds → m s ≡ m' s) → Takes st known over m t l r → Takes st known over m' t l r
takes_is {st} {over = over} e t =
    record {
      same = t.same;
      grown = t.grown;
      structs = t.structs;
      inside = t.inside;
      is = λ ds s d k. t.is ds s d k ∙ ap (λ (x : Read Tree). place_read over build x (held st ds)) (e ds s d k);
    }

-- nothing was written
pub takes_none : {st : Table} {known : ℕ} {over : Bool} {m : State → Read Tree} {l : Bytes} (e : Refusal)
    → ((ds : List Struct) (s : State) → Declares st.words.now st.used ds → Knows s known ds → stopped (refusal_of e) ≡ place_read over build (m s) (held st ds)) → Takes st known over m st l (Err e)
takes_none {st} e f = record { same = linked_now _; grown = grown_refl (tables st); structs = refl; inside = tt; is = f }

-- ---- the loop

pub record Going (st₀ : Table) (l₀ : Bytes) (known nest : ℕ) (over₀ : Bool) (n : ℕ) (st : Table) (l : Bytes) (over : Bool) (parts : List ℕ) (i : ℕ) : Type 0 where
  pub left : i ≤ n
  pub same : Linked st₀ st
  pub grown : Grown (tables st₀) (tables st)
  pub structs : (tables st).structs ≡ (tables st₀).structs
  pub long : length parts ≡ 8
  pub below : over ≡ false → (j : ℕ) → j < i → get_or parts j 0 < st.used.nodes
  pub is : (ds : List Struct) (s : State) → Declares st₀.words.now st₀.used ds → Knows s known ds
      → place_read over₀ build_all (read_trees n (read_nested nest s) l₀) (held st₀ ds)
      ≡ onward (take i parts) (place_read over build_all (read_trees (n - i) (read_nested nest s) l) (held st ds))

pub go_none : {st : Table} (l : Bytes) (known nest : ℕ) (over : Bool) (n : ℕ) {parts : List ℕ} → length parts ≡ 8 → Going st l known nest over n st l over parts 0
go_none {st} l known nest over n e =
    record {
      left = omega arith;
      same = linked_now _;
      grown = grown_refl (tables st);
      structs = refl;
      long = e;
      below = λ o j h. absurd (omega arith);
      is = λ ds s d k. onward_none _ ∙ ap (λ (j : ℕ). onward [] (place_read over build_all (read_trees j (read_nested nest s) l) (held st ds))) (sym (sub-zero n));
    }

abbrev pub code : Bool → ℕ
code true = 1
code false = 0

module _ {st₀ : Table} {l₀ : Bytes} {known nest : ℕ} {over₀ : Bool} {n : ℕ} {st : Table} {l : Bytes} {over : Bool} {parts : List ℕ} {i : ℕ}
    (g : Going st₀ l₀ known nest over₀ n st l over parts i) where
  one_more : i < n → n - i ≡ suc (n - (i + 1))
  one_more h = omega arith

  module _ {t : Table} {l' : Bytes} {o : Option ℕ} (a : Takes st known over (λ s. read_nested nest s l) t l' (Ok o)) where
    here : i < length parts → over ≡ false → (x j : ℕ) → x < t.used.nodes → j < i + 1 → get_or (set parts i x) j 0 < t.used.nodes
    here lt c x j q h = either (ℕ_discrete j i)
      where
        either : Dec (j ≡ i) → get_or (set parts i x) j 0 < t.used.nodes
        either (yes e) = rw (e, get_or-set_same parts i x 0 lt) q
        either (no e) =
            let b : get_or parts j 0 < st.used.nodes = g.below c j (omega arith) in
            let z : st.used.nodes ≤ t.used.nodes = nodes_grow _ _ _ _ a.grown in
            rw (get_or-set_other parts i j x 0 e) (omega arith)

    -- the parts placed so far are below the count, if space has not ended
    by_part : i < length parts → (p : Option ℕ) → is_none p ≡ false → PlacedSo (Ok p) (λ n. n < t.used.nodes)
        → ((ds : List Struct) (s : State) → Declares st.words.now st.used ds → Knows s known ds → part_of (Ok p) (held t ds) l' ≡ place_read over build (read_nested nest s l) (held st ds))
        → (j : ℕ) → j < i + 1 → get_or (set parts i (unwrap_or p 0)) j 0 < t.used.nodes
    by_part lt (Some x) z q e j h =
        here lt (at_open over _ _ _ _ _ (e (tables st).structs (knowing known (tables st).structs) (declares_self _ _) (knows known (tables st).structs))) x j q h
    by_part lt None z q e j h = never (ap code (sym z))

    pub go_more : n ≤ 8 → i < n → Going st₀ l₀ known nest over₀ n t l' (is_none o) (set parts i (unwrap_or o 0)) (i + 1)
    go_more few h =
        let z : length parts ≡ 8 = g.long in
        let lt : i < length parts = omega arith in
        record {
          left = omega arith;
          same = linked a.same g.same;
          grown = grown_trans _ _ _ g.grown a.grown;
          structs = a.structs ∙ g.structs;
          long = length-set parts i (unwrap_or o 0) ∙ g.long;
          below = λ b. by_part lt o b a.inside a.is;
          is = λ ds s d k.
              let e = a.is ds s (declares_kept _ _ _ _ ds g.structs d) k in
              let x : take (i + 1) (set parts i (unwrap_or o 0)) ≡ take i parts ++ (unwrap_or o 0 ∷ []) = rw add-one (take-suc-set parts i (unwrap_or o 0) lt) in
              g.is ds s d k
              ∙ ap (λ (j : ℕ). onward (take i parts) (place_read over build_all (read_trees j (read_nested nest s) l) (held st ds))) (one_more h)
              ∙ turn (read_nested nest s) (n - (i + 1)) l over (held st ds) (held t ds) o l' (take i parts) e
              ∙ ap (λ (xs : List ℕ). onward xs (place_read (is_none o) build_all (read_trees (n - (i + 1)) (read_nested nest s) l') (held t ds))) (sym x);
        }

  pub go_stop : {t : Table} {l' : Bytes} {e : Refusal} → Takes st known over (λ s. read_nested nest s l) t l' (Err e) → i < n → (h : Head) → n ≡ many_parts h.shape
      → Takes st₀ known over₀ (λ s. tree_read (Ok h) l₀ (read_nested nest s)) t l' (Err e)
  go_stop {e = e} a lt h m =
      record {
        same = linked a.same g.same;
        grown = grown_trans _ _ _ g.grown a.grown;
        structs = a.structs ∙ g.structs;
        inside = tt;
        is = λ ds s d k.
            let q = a.is ds s (declares_kept _ _ _ _ ds g.structs d) k in
            stop (read_nested nest s) (n - (i + 1)) l over (held st ds) (refusal_of e) (take i parts) h.loc h.shape q
            ∙ ap (λ (j : ℕ). then_node h.loc h.shape (onward (take i parts) (place_read over build_all (read_trees j (read_nested nest s) l) (held st ds)))) (sym (one_more lt))
            ∙ ap (λ (p : Placed (List ℕ)). then_node h.loc h.shape p) (sym (g.is ds s d k))
            ∙ ap (λ (j : ℕ). then_node h.loc h.shape (place_read over₀ build_all (read_trees j (read_nested nest s) l₀) (held st₀ ds))) m
            ∙ sym (node_after h.shape h.loc over₀ (read_nested nest s) l₀ (held st₀ ds));
      }

  -- no part is left: what is placed then
  at_end : n ≤ i → (h : Head) → n ≡ many_parts h.shape → (ds : List Struct) (s : State) → Declares st₀.words.now st₀.used ds → Knows s known ds
      → placed (if over then refused full else put_node h.loc h.shape (take (many_parts h.shape) parts) (held st ds)) l ≡ place_read over₀ build (tree_read (Ok h) l₀ (read_nested nest s)) (held st₀ ds)
  at_end lt h m ds s d k =
      let z : i ≡ n = (let y = g.left in omega arith) in
      let none : n - i ≡ 0 = omega arith in
      sym (none_left (read_nested nest s) l over (held st ds) (take (many_parts h.shape) parts) h.loc h.shape)
      ∙ ap (λ (j : ℕ). then_node h.loc h.shape (onward (take (many_parts h.shape) parts) (place_read over build_all (read_trees j (read_nested nest s) l) (held st ds)))) (sym none)
      ∙ ap (λ (j : ℕ). then_node h.loc h.shape (onward (take j parts) (place_read over build_all (read_trees (n - i) (read_nested nest s) l) (held st ds)))) (sym (z ∙ m))
      ∙ ap (λ (p : Placed (List ℕ)). then_node h.loc h.shape p) (sym (g.is ds s d k))
      ∙ ap (λ (j : ℕ). then_node h.loc h.shape (place_read over₀ build_all (read_trees j (read_nested nest s) l₀) (held st₀ ds))) m
      ∙ sym (node_after h.shape h.loc over₀ (read_nested nest s) l₀ (held st₀ ds))

  pub go_over : n ≤ i → (h : Head) → n ≡ many_parts h.shape → over ≡ true → Takes st₀ known over₀ (λ s. tree_read (Ok h) l₀ (read_nested nest s)) st l (Ok None)
  go_over lt h m e =
      record {
        same = g.same;
        grown = g.grown;
        structs = g.structs;
        inside = tt;
        is = λ ds s d k. ap (λ (b : Bool). placed (if b then refused full else put_node h.loc h.shape (take (many_parts h.shape) parts) (held st ds)) l) (sym e) ∙ at_end lt h m ds s d k;
      }

  pub go_all : n ≤ i → (h : Head) → n ≡ many_parts h.shape → over ≡ false → {t : Table} {x : std.Result ℕ Stop} → Did st t x (put_node h.loc h.shape (take (many_parts h.shape) parts))
      → {o : Option ℕ} → o ≡ result_ok x → Takes st₀ known over₀ (λ s. tree_read (Ok h) l₀ (read_nested nest s)) t l (Ok o)
  go_all lt h m e {t} {x} a {o} q =
      record {
        same = linked a.changed.same g.same;
        grown = grown_trans _ _ _ g.grown a.changed.step.grown;
        structs = a.changed.step.structs ∙ g.structs;
        inside = rw q (found_in x t.used.nodes a.inside);
        is = λ ds s d k.
            ap (λ (p : Option ℕ). part_of (Ok p) (held t ds) l) q
            ∙ found_is x h.loc h.shape (take (many_parts h.shape) parts) (held st ds) (held t ds) l (a.changed.step.is ds tt)
            ∙ ap (λ (b : Bool). placed (if b then refused full else put_node h.loc h.shape (take (many_parts h.shape) parts) (held st ds)) l) (sym e)
            ∙ at_end lt h m ds s d k;
      }

-- The rows, read into histories one after the other. Assumes nothing.
use mathlib.Core.Path.{◌≡◌, sym, ap, subst, ◌∙◌}
use mathlib.Core.List.{List, []}
use Rattle.std.specs.Prelude.{None, Some}
use Prim.Native.Nat.{ℕ, zero, suc, ◌+◌, ◌<◌, ◌≤◌}
use native.Mathlib.Nat.{not-suc-le-zero}
use native.Mathlib.Omega.{arith}
use native.Mathlib.Decide.{dec_lt}
use lib.ListN.{length, get_or, set, length-set}
use lib.Seq.{get_or-set_same, get_or-set_other, ext_get_or}
use Rattle.definition.specs.Types.{Cell, Struct, unbound}
use Rattle.definition.specs.Types as d
use Rattle.definition.specs.Store.{get, num_loc, need_of, with_vars, with_structs}
use Rattle.table.specs.Tab.{tab}
use Rattle.table.specs.State.{view, seen}
use Rattle.table.specs.Did.{held, tables}
use Rattle.table.specs.declared.Used.{Used}
use Rattle.table.specs.declared.state.State.{State}
use Rattle.table.proofs.Tab.{length_tab, getD_tab}
use Rattle.table.proofs.Pushed.{count_view, taken_view}
use Rattle.history.specs.Room.{room}
use Rattle.history.specs.History.{no_binding, no_mark, find_binding, find_mark, cell_of, words_of, Holds}
use Rattle.history.specs.Rows.{LoadedBindings, LoadedMarks, Loads}
use Rattle.history.specs.declared.Binding.{Binding}
use Rattle.history.specs.declared.Mark.{Mark}
use Rattle.history.proofs.Find.{unbound_above, older, newest, find_newest, find_older, mark_hit, mark_miss}
use Rattle.history.proofs.Room.{room_most}
use Rattle.history.proofs.Words.{view_of, lay_of}

-- ---- bindings

pub none_loaded : (s : State) (h : List Binding) → length h ≡ 5120 → LoadedBindings s 0 h 0
none_loaded s h e = record {
  size = e;
  few = omega arith;
  vars = λ j p. absurd (not-suc-le-zero p);
  nodes = λ j p. absurd (not-suc-le-zero p);
  is = λ v p. absurd (not-suc-le-zero p);
}

module _ {s : State} {i : ℕ} {h : List Binding} {n : ℕ} (lt : i < s.used.vars) (a : LoadedBindings s i h n) where
  -- variable i is not bound
  pub skips : get (held s []) i ≡ None → LoadedBindings s (i + 1) h n
  unfolding get seen with_structs
  skips e = record {
    size = a.size;
    few = let f = a.few in omega arith;
    vars = λ j p. let q = a.vars j p in omega arith;
    nodes = a.nodes;
    is = λ v p. by v p (dec_lt v i);
  }
    where
      by : (v : ℕ) → v < i + 1 → Dec (v < i) → find_binding h n v ≡ get (tables s) v
      by v p (yes q) = a.is v q
      by v p (no q) = let z : v ≡ i = omega arith in rw z (unbound_above h n i i a.vars (omega arith) ∙ sym e)

  pub fits : n < 5120
  fits = let f = a.few in let l = s.lay.vars in omega arith

  module _ (t : ℕ) where
    abbrev b : Binding
    b = record { tvar = i; node = t }

    space : n < length h
    space = rw a.size fits

    pub adds : get (held s []) i ≡ Some t → LoadedBindings s (i + 1) (set h n b) (n + 1)
    unfolding get seen with_structs
    adds e = record {
      size = length-set h n b ∙ a.size;
      few = let f = a.few in omega arith;
      vars = λ j p. vars j p (dec_lt j n);
      nodes = λ j p. nodes j p (dec_lt j n);
      is = λ v p. is v p (dec_lt v i);
    }
      where
        vars : (j : ℕ) → j < n + 1 → Dec (j < n) → (get_or (set h n b) j no_binding).tvar < i + 1
        vars j p (yes q) = rw (older h n b space j q) (let x = a.vars j q in omega arith)
        vars j p (no q) = let z : j ≡ n = omega arith in rw (z, newest h n b space) (omega arith)

        nodes : (j : ℕ) → j < n + 1 → Dec (j < n) → (get_or (set h n b) j no_binding).node < s.used.nodes
        nodes j p (yes q) = rw (older h n b space j q) (a.nodes j q)
        nodes j p (no q) = let z : j ≡ n = omega arith in rw (z, newest h n b space) (subst (λ (x : ℕ). t < x) (count_view s.words.now s.used) (s.lay.inside.bindings i t e))

        is : (v : ℕ) → v < i + 1 → Dec (v < i) → find_binding (set h n b) (n + 1) v ≡ get (tables s) v
        is v p (yes q) = find_older h n b space v (λ z. omega arith) ∙ a.is v q
        is v p (no q) = let z : v ≡ i = omega arith in rw z (find_newest h n b space ∙ sym e)

-- ---- marks

pub no_mark_loaded : (s : State) (m : List Mark) → length m ≡ 2048 → LoadedMarks s 0 m
no_mark_loaded s m e = record { size = e; is = λ v p. absurd (not-suc-le-zero p) }

pub marks_on : {s : State} {i : ℕ} {m : List Mark} (b : Mark) → i < s.used.vars → LoadedMarks s i m → b.tvar ≡ i → b.numeric ≡ num_loc (held s []) i → b.need ≡ need_of (held s []) i → LoadedMarks s (i + 1) (set m i b)
unfolding num_loc need_of seen with_structs
marks_on {s} {i} {m} b lt a e f g = record { size = length-set m i b ∙ a.size; is = λ v p. by v p (dec_lt v i) }
  where
    by : (v : ℕ) → v < i + 1 → Dec (v < i) → get_or (set m i b) v no_mark ≡ record { tvar = v; numeric = num_loc (tables s) v; need = need_of (tables s) v }
    by v p (yes q) = get_or-set_other m i v b no_mark (λ z. omega arith) ∙ a.is v q
    by v p (no q) =
        let z : v ≡ i = omega arith in
        let l = s.lay.vars in
        let t : i < length m = rw a.size (omega arith) in
        rw z (get_or-set_same m i b no_mark t ∙ (λ x. record { tvar = e x; numeric = f x; need = g x }))

-- entry v is the one of variable v
module _ {s : State} {n : ℕ} {m : List Mark} (a : LoadedMarks s n m) where
  marked_as : (v : ℕ) → v < n → (get_or m v no_mark).tvar ≡ v
  marked_as v p = ap (λ (b : Mark). b.tvar) (a.is v p)

  found : (k v : ℕ) → k ≤ n → v < k → find_mark m k v ≡ get_or m v no_mark
  found zero v p q = absurd (not-suc-le-zero q)
  found (suc k) v p q = by (dec_lt v k) (λ r. found k v (omega arith) r)
    where
      by : Dec (v < k) → (v < k → find_mark m k v ≡ get_or m v no_mark) → find_mark m (suc k) v ≡ get_or m v no_mark
      by (yes r) g = sym (mark_miss m k v (λ e. let z = marked_as k (omega arith) in omega (arith, e, z))) ∙ g r
      by (no r) g = let z : v ≡ k = omega arith in rw z (sym (mark_hit m k k (marked_as k (omega arith))))

-- ---- all of them

module _ (s : State) (h : List Binding) (n : ℕ) (m : List Mark) (a : LoadedBindings s s.used.vars h n) (b : LoadedMarks s s.used.vars m) where
  abbrev w : List ℕ
  w = s.words.now

  abbrev u : Used
  u = s.used

  vars_marked : (i : ℕ) → i < u.vars → (get_or m i no_mark).tvar < u.vars
  vars_marked i p = rw (marked_as b i p) p

  same_cell : (v : ℕ) → v < u.vars → cell_of h n m u.vars v ≡ get_or (tables s).vars v unbound
  unfolding cell_of get num_loc need_of
  same_cell v p =
      let e = a.is v p in
      let f = found b u.vars v (omega arith) p ∙ b.is v p in
      λ i. record { binding = e i; numeric = (f i).numeric; need = (f i).need }

  same_cells : tab u.vars (cell_of h n m u.vars) ≡ (tables s).vars
  same_cells = ext_get_or unbound _ _ (length_tab u.vars _ ∙ sym (taken_view w u)) (λ v p.
      let q : v < u.vars = rw (length_tab u.vars (cell_of h n m u.vars)) at p in
      getD_tab u.vars (cell_of h n m u.vars) v unbound q ∙ same_cell v q)

  loaded_view : view (words_of w h n m u.vars) u ≡ tables s
  unfolding with_vars
  loaded_view = view_of w h n m u.vars u s.lay ∙ ap (with_vars (tables s)) same_cells

  loaded_holds : Holds w u h n m u.vars
  loaded_holds =
      let l = s.lay.vars in
      let f = a.few in
      let r : room (view (words_of w h n m u.vars) u) ≤ 4096 = rw loaded_view (room_most (tables s) (rw (taken_view w u) l)) in
      record {
        bindings_size = a.size;
        marks_size = b.size;
        vars_bound = a.vars;
        nodes_bound = a.nodes;
        vars_marked = vars_marked;
        lay = lay_of w h n m u.vars u s.lay a.vars a.nodes vars_marked;
        few_bound = omega arith;
        few_marked = omega arith;
      }

  loaded_seen : (ds : List Struct) → seen (words_of w h n m u.vars) u ds ≡ seen w u ds
  unfolding seen
  loaded_seen ds = ap (λ (x : d.State). with_structs x ds) loaded_view

-- .. of the words w and the counts u, when the loop ends at i and k marks are there
module _ (s : State) (h : List Binding) (n : ℕ) (m : List Mark) (i k : ℕ) (w : List ℕ) (u : Used) (words : s.words.now ≡ w) (used : s.used ≡ u)
    (a : LoadedBindings s i h n × LoadedMarks s i m) (e : u.vars ≤ i) (f : i ≤ u.vars) (g : k ≡ u.vars) where
  z : i ≡ s.used.vars
  z = rw used (omega arith)

  same : k ≡ s.used.vars
  same = rw used g

  bindings : LoadedBindings s s.used.vars h n
  bindings = rw z at a.0

  marks : LoadedMarks s s.used.vars m
  marks = rw z at a.1

  pub load_holds : Holds s.words.now s.used h n m k
  load_holds = rw same (loaded_holds s h n m bindings marks)

  pub load_loads : (x : Holds s.words.now s.used h n m k) → Loads w u (record { st = s; bindings = h; bound = n; marks = m; marked = k; holds = x })
  load_loads x = record { words = words; used = used; few = let b = a.0.few in omega arith; is = λ ds. rw same (loaded_seen s h n m bindings marks ds) ∙ (λ j. seen (words j) (used j) ds) }

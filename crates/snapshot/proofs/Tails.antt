-- Tails zeroed where the variables stand as they were: the words hold what they held. One law says for each table that its rows are those
-- at entry, then all of them together; at the end, two ways in which the variables come to stand. Assumes nothing.
use mathlib.Core.Path.{◌≡◌, refl, sym, ap, ◌∙◌, subst}
use mathlib.Core.List.{List, [], ◌++◌, append-nil}
use Prim.Native.Nat.{ℕ, ◌+◌, ◌*◌, ◌-◌, ◌<◌, ◌≤◌}
use native.Mathlib.Omega.{arith}
use native.Mathlib.Decide.{dec_lt}
use lib.ListN.{length, get_or, replicate, get_or-append}
use Rattle.definition.specs.Types.{State, Cell, unbound}
use Rattle.definition.specs.Store.{taken, with_vars, with_structs}
use Rattle.definition.specs.Step.{put_back}
use Rattle.table.specs.Tab.{tab}
use Rattle.table.specs.Rows.{Table, row, entries, Clean, cell_words, node_words, shape_words, arg_words, constraint_words, struct_words, node_table, arg_table, var_table, constraint_table, struct_table}
use Rattle.table.specs.State.{view, seen, Lay, Inside, Front, Stored, Wrote}
use Rattle.table.specs.declared.Used.{Used}
use Rattle.table.proofs.Tab.{tab_ext}
use Rattle.table.proofs.Rows.{length_entries, entry_out, row_same, Same, same_entries, same_clean, apart}
use Rattle.table.proofs.Steps.{grown_trans}
use Rattle.snapshot.specs.Snap.{Above, Saved, Since, Sized, Stood, Rows}
use Rattle.snapshot.proofs.Back.{getD_blanks, zero_row}

-- ---- one table: rows b to n of w are zeroed, and w has the rows of w₀ below b

module _ {A : Type 0} (T : Table A) (w₀ : List ℕ) (b : ℕ) (w : List ℕ) (n : ℕ) (clean₀ : Clean T w₀ b) (clean : Clean T w n) (front : Front (entries T w₀ b) (entries T w n)) (zeros : T.write T.blank ≡ tab T.width (λ k. 0)) where
  front_row : (i : ℕ) → i < b → i < T.rows → row T w i ≡ row T w₀ i
  unfolding Clean
  front_row i lt p =
      clean i p
      ∙ ap (λ (l : List A). T.write (get_or l i T.blank)) front.is
      ∙ ap T.write (get_or-append (entries T w₀ b) front.rest T.blank i (rw (length_entries T w₀ b) lt))
      ∙ sym (clean₀ i p)

  blank_before : (i : ℕ) → b ≤ i → i < T.rows → row T w₀ i ≡ T.write T.blank
  unfolding Clean
  blank_before i le p = clean₀ i p ∙ ap T.write (entry_out T w₀ b i T.blank le)

  blank_after : (i : ℕ) → n ≤ i → i < T.rows → row T w i ≡ T.write T.blank
  unfolding Clean
  blank_after i le p = clean i p ∙ ap T.write (entry_out T w n i T.blank le)

  pub cut : (wa wb : List ℕ) → Same T w wa → Wrote wa (T.base + b * T.width) ((n - b) * T.width) [] wb → b ≤ n
      → ((i k l : ℕ) → i < b → k < T.width → T.base + i * T.width + k ≡ T.base + b * T.width + l → ⊥)
      → ((i k l : ℕ) → n ≤ i → l < (n - b) * T.width → T.base + i * T.width + k ≡ T.base + b * T.width + l → ⊥)
      → ((i k : ℕ) → b ≤ i → i < n → k < T.width → ((i - b) * T.width + k < (n - b) * T.width) × (T.base + b * T.width + ((i - b) * T.width + k) ≡ T.base + i * T.width + k))
      → Same T w₀ wb
  cut wa wb same z le under over within i p = by (dec_lt i b) (dec_lt i n)
    where
      by : Dec (i < b) → Dec (i < n) → row T wb i ≡ row T w₀ i
      by (yes q) r = row_same T wa wb i (λ k s. z.there (T.base + i * T.width + k) (λ l t e. under i k l q s e)) ∙ same i p ∙ front_row i q p
      by (no q) (yes r) =
          zero_row T wb i (λ k s.
          let x = within i k (omega arith) r s in
          sym (ap (λ (y : ℕ). get_or wb y 0) x.1) ∙ z.here ((i - b) * T.width + k) x.0)
          ∙ sym zeros
          ∙ sym (blank_before i (omega arith) p)
      by (no q) (no r) =
          row_same T wa wb i (λ k s. z.there (T.base + i * T.width + k) (λ l t e. over i k l (omega arith) t e)) ∙ same i p ∙ blank_after i (omega arith) p ∙ sym (blank_before i (omega arith) p)

-- ---- what giving back asks

pub sized_on : {w : List ℕ} {u : Used} (w' : List ℕ) → length w' ≡ length w → Lay w u → Sized w' u
sized_on w' e h = record { size = e ∙ h.size; nodes = h.nodes; args = h.args; constraints = h.constraints; structs = h.structs }

-- no row of a variable is written
pub vars_stay : (w₁ : List ℕ) (u before : Used) (w₂ w₃ w₄ w₅ : List ℕ) → Sized w₁ u → Above before u
    → Wrote w₁ (5 + before.nodes * 6) ((u.nodes - before.nodes) * 6) [] w₂
    → Wrote w₂ (12293 + before.args * 1) ((u.args - before.args) * 1) [] w₃
    → Wrote w₃ (21509 + before.constraints * 4) ((u.constraints - before.constraints) * 4) [] w₄
    → Wrote w₄ (23557 + before.structs * 2) ((u.structs - before.structs) * 2) [] w₅
    → Same var_table w₁ w₅
vars_stay w₁ u before w₂ w₃ w₄ w₅ h above z₂ z₃ z₄ z₅ i p =
    let m = h.nodes in
    let q = above.nodes in
    let ma = h.args in
    let qa = above.args in
    apart var_table w₄ (23557 + before.structs * 2) ((u.structs - before.structs) * 2) [] w₅ z₅ (λ i k l p q s e. omega arith) i p
    ∙ apart var_table w₃ (21509 + before.constraints * 4) ((u.constraints - before.constraints) * 4) [] w₄ z₄ (λ i k l p q s e. omega arith) i p
    ∙ apart var_table w₂ (12293 + before.args * 1) ((u.args - before.args) * 1) [] w₃ z₃ (λ i k l p r s e. omega arith) i p
    ∙ apart var_table w₁ (5 + before.nodes * 6) ((u.nodes - before.nodes) * 6) [] w₂ z₂ (λ i k l p r s e. omega arith) i p

-- ---- all tables

blank_node : node_table.write node_table.blank ≡ tab 6 (λ k. 0)
unfolding tab node_words shape_words
blank_node = refl

blank_arg : arg_table.write arg_table.blank ≡ tab 1 (λ k. 0)
unfolding tab arg_words
blank_arg = refl

blank_constraint : constraint_table.write constraint_table.blank ≡ tab 4 (λ k. 0)
unfolding tab constraint_words
blank_constraint = refl

blank_struct : struct_table.write struct_table.blank ≡ tab 2 (λ k. 0)
unfolding tab struct_words
blank_struct = refl

module _ (w₁ : List ℕ) (u : Used) (before : Used) (w₂ w₃ w₄ w₅ w₀ : List ℕ) (above : Above before u) (s : Stood w₀ before w₁ u)
    (z₂ : Wrote w₁ (5 + before.nodes * 6) ((u.nodes - before.nodes) * 6) [] w₂)
    (z₃ : Wrote w₂ (12293 + before.args * 1) ((u.args - before.args) * 1) [] w₃)
    (z₄ : Wrote w₃ (21509 + before.constraints * 4) ((u.constraints - before.constraints) * 4) [] w₄)
    (z₅ : Wrote w₄ (23557 + before.structs * 2) ((u.structs - before.structs) * 2) [] w₅) where
  h : Lay w₁ u
  h = s.now

  -- ---- nodes
  pub same_nodes : Same node_table w₀ w₅
  unfolding view
  same_nodes i p =
      let m = h.nodes in
      let q = above.nodes in
      apart node_table w₄ (23557 + before.structs * 2) ((u.structs - before.structs) * 2) [] w₅ z₅ (λ i k l p q s e. omega arith) i p
      ∙ apart node_table w₃ (21509 + before.constraints * 4) ((u.constraints - before.constraints) * 4) [] w₄ z₄ (λ i k l p q s e. omega arith) i p
      ∙ apart node_table w₂ (12293 + before.args * 1) ((u.args - before.args) * 1) [] w₃ z₃ (λ i k l p q s e. omega arith) i p
      ∙ cut node_table w₀ before.nodes w₁ u.nodes s.lay.clean_nodes h.clean_nodes s.grown.nodes blank_node w₁ w₂ (λ i p. refl) z₂ q
      (λ i k l r t e. omega arith)
      (λ i k l r t e. omega arith)
      (λ i k r t v. (omega arith, omega arith))
      i p

  -- ---- argument places
  pub same_args : Same arg_table w₀ w₅
  unfolding view
  same_args i p =
      let m = h.nodes in
      let q = above.nodes in
      apart arg_table w₄ (23557 + before.structs * 2) ((u.structs - before.structs) * 2) [] w₅ z₅ (λ i k l p q s e. omega arith) i p
      ∙ apart arg_table w₃ (21509 + before.constraints * 4) ((u.constraints - before.constraints) * 4) [] w₄ z₄ (λ i k l p q s e. omega arith) i p
      ∙ cut arg_table w₀ before.args w₁ u.args s.lay.clean_args h.clean_args s.grown.args blank_arg w₂ w₃
      (apart arg_table w₁ (5 + before.nodes * 6) ((u.nodes - before.nodes) * 6) [] w₂ z₂ (λ i k l p r s e. omega arith))
      z₃
      above.args
      (λ i k l r t e. omega arith)
      (λ i k l r t e. omega arith)
      (λ i k r t v. (omega arith, omega arith))
      i p

  -- ---- constraints
  pub same_constraints : Same constraint_table w₀ w₅
  unfolding view
  same_constraints i p =
      let m = h.nodes in
      let q = above.nodes in
      let ma = h.args in
      let qa = above.args in
      apart constraint_table w₄ (23557 + before.structs * 2) ((u.structs - before.structs) * 2) [] w₅ z₅ (λ i k l p q s e. omega arith) i p
      ∙ cut constraint_table w₀ before.constraints w₁ u.constraints s.lay.clean_constraints h.clean_constraints s.grown.constraints blank_constraint w₃ w₄
      (λ i p. apart constraint_table w₂ (12293 + before.args * 1) ((u.args - before.args) * 1) [] w₃ z₃ (λ i k l p r s e. omega arith) i p
      ∙ apart constraint_table w₁ (5 + before.nodes * 6) ((u.nodes - before.nodes) * 6) [] w₂ z₂ (λ i k l p r s e. omega arith) i p)
      z₄
      above.constraints
      (λ i k l r t e. omega arith)
      (λ i k l r t e. omega arith)
      (λ i k r t v. (omega arith, omega arith))
      i p

  -- ---- structs
  pub same_structs : Same struct_table w₀ w₅
  unfolding view
  same_structs i p =
      let m = h.nodes in
      let q = above.nodes in
      let ma = h.args in
      let qa = above.args in
      let mc = h.constraints in
      let qc = above.constraints in
      cut struct_table w₀ before.structs w₁ u.structs s.lay.clean_structs h.clean_structs s.grown.structs blank_struct w₄ w₅
      (λ i p. apart struct_table w₃ (21509 + before.constraints * 4) ((u.constraints - before.constraints) * 4) [] w₄ z₄ (λ i k l p r s e. omega arith) i p
      ∙ apart struct_table w₂ (12293 + before.args * 1) ((u.args - before.args) * 1) [] w₃ z₃ (λ i k l p r s e. omega arith) i p
      ∙ apart struct_table w₁ (5 + before.nodes * 6) ((u.nodes - before.nodes) * 6) [] w₂ z₂ (λ i k l p r s e. omega arith) i p)
      z₅
      above.structs
      (λ i k l r t e. omega arith)
      (λ i k l r t e. omega arith)
      (λ i k r t v. (omega arith, omega arith))
      i p

  -- ---- variables: those taken since are blank
  vars_then : entries var_table w₁ u.vars ≡ entries var_table w₀ before.vars ++ replicate s.blanks unbound
  unfolding view
  vars_then = s.vars

  pub same_vars : Same var_table w₀ w₅
  unfolding Clean
  same_vars i p =
      vars_stay w₁ u before w₂ w₃ w₄ w₅ (sized_on w₁ refl h) above z₂ z₃ z₄ z₅ i p
      ∙ h.clean_vars i p
      ∙ ap (λ (l : List Cell). cell_words (get_or l i unbound)) vars_then
      ∙ ap cell_words (getD_blanks (entries var_table w₀ before.vars) s.blanks i unbound)
      ∙ sym (s.lay.clean_vars i p)

  undone_view : view w₅ before ≡ view w₀ before
  unfolding view
  undone_view =
      λ i. record {
        nodes = same_entries node_table w₀ w₅ before.nodes same_nodes s.lay.nodes i;
        args = same_entries arg_table w₀ w₅ before.args same_args s.lay.args i;
        vars = same_entries var_table w₀ w₅ before.vars same_vars s.lay.vars i;
        constraints = same_entries constraint_table w₀ w₅ before.constraints same_constraints s.lay.constraints i;
        structs = same_entries struct_table w₀ w₅ before.structs same_structs s.lay.structs i;
      }

  undone_lay : Lay w₅ before
  undone_lay =
      record {
        size = z₅.size ∙ z₄.size ∙ z₃.size ∙ z₂.size ∙ h.size;
        nodes = s.lay.nodes;
        args = s.lay.args;
        vars = s.lay.vars;
        constraints = s.lay.constraints;
        structs = s.lay.structs;
        clean_nodes = same_clean node_table w₀ w₅ before.nodes same_nodes s.lay.nodes s.lay.clean_nodes;
        clean_args = same_clean arg_table w₀ w₅ before.args same_args s.lay.args s.lay.clean_args;
        clean_vars = same_clean var_table w₀ w₅ before.vars same_vars s.lay.vars s.lay.clean_vars;
        clean_constraints = same_clean constraint_table w₀ w₅ before.constraints same_constraints s.lay.constraints s.lay.clean_constraints;
        clean_structs = same_clean struct_table w₀ w₅ before.structs same_structs s.lay.structs s.lay.clean_structs;
        inside = subst Inside (sym undone_view) s.lay.inside;
      }

  pub undoing : Lay w₅ before × (view w₅ before ≡ view w₀ before)
  undoing = (undone_lay, undone_view)

-- ---- whose variables stand

-- after they were put back
pub put_stood : (w₀ : List ℕ) (before : Used) (r : Rows) (w : List ℕ) (u : Used) (w₁ : List ℕ) → Since w₀ before r w u → Stored w u w₁ (λ s. put_back (with_structs (view w₀ before) s.structs) s) → Stood w₀ before w₁ u
unfolding seen with_structs put_back with_vars
put_stood w₀ before r w u w₁ s a = record { lay = s.lay; now = a.lay; grown = grown_trans _ _ _ s.grown a.grown; blanks = taken (view w u) - taken (view w₀ before); vars = back }
  where
    back : (view w₁ u).vars ≡ (view w₀ before).vars ++ replicate (taken (view w u) - taken (view w₀ before)) unbound
    back = ap (λ (x : State). x.vars) (a.is [] tt)

-- where the snapshot is still that of the words
module _ (w₀ : List ℕ) (before : Used) (r : Rows) (w : List ℕ) (u : Used) (s : Since w₀ before r w u) (h : Lay w u) (now : Saved w u r.words) (many : u.vars ≡ before.vars) where
  still_row : (i : ℕ) → i < before.vars → row var_table w i ≡ row var_table w₀ i
  still_row i lt = row_same var_table w₀ w i (λ k p.
      let e : 16389 + i * 5 + k ≡ 16389 + (i * 5 + k) = omega arith in
      ap (λ (x : ℕ). get_or w x 0) e
      ∙ sym (now.word (i * 5 + k) (omega arith))
      ∙ s.kept.word (i * 5 + k) (omega arith)
      ∙ ap (λ (x : ℕ). get_or w₀ x 0) (sym e))

  still_vars : (view w u).vars ≡ (view w₀ before).vars
  unfolding view entries
  still_vars = rw many (tab_ext before.vars _ _ (λ i lt. ap var_table.read (still_row i lt)))

  pub saved_stood : Stood w₀ before w u
  saved_stood = record { lay = s.lay; now = h; grown = s.grown; blanks = 0; vars = still_vars ∙ sym (append-nil (view w₀ before).vars) }

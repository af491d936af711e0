-- The variables put back: the definition's put_back. Assumes nothing.
-- The words are followed row by row: saved variables, then blanks for those taken since, then the tables that stay; `putting_back` puts them together.
use mathlib.Core.Path.{◌≡◌, refl, sym, ap, ap₂, ◌∙◌, subst}
use mathlib.Core.List.{List, [], ◌∷◌, ◌++◌}
use Prim.Native.Nat.{ℕ, zero, suc, ◌+◌, ◌*◌, ◌-◌, ◌<◌, ◌≤◌}
use native.Mathlib.Omega.{arith}
use native.Mathlib.Decide.{dec_lt}
use lib.ListN.{length, get_or, replicate, length-append, length-replicate}
use lib.Seq.{ext_get_or}
use Rattle.definition.specs.Types.{Struct, Cell, unbound}
use Rattle.definition.specs.Store.{count, node, get, with_vars, with_structs}
use Rattle.definition.specs.Step.{put_back}
use Rattle.table.specs.Tab.{tab}
use Rattle.table.specs.Rows.{Table, row, words_at, entries, Clean, read_cell, cell_words, option_flag, option_word, node_table, arg_table, var_table, constraint_table, struct_table}
use Rattle.table.specs.State.{view, seen, Lay, Inside, Stored, Wrote}
use Rattle.table.specs.Touched.{Stay}
use Rattle.table.specs.declared.Used.{Used}
use Rattle.table.proofs.Tab.{tab_ext}
use Rattle.table.proofs.Rows.{length_entries, entry_at, entry_out, row_same, Same, same_entries, same_clean, apart}
use Rattle.table.proofs.Written.{cell_again}
use Rattle.table.proofs.States.{grown_vars}
use Rattle.table.proofs.Steps.{refines_by}
use Rattle.table.proofs.Pushed.{count_view, taken_view}
use mathlib.Core.Logic.{inl, inr}
use Rattle.snapshot.specs.Snap.{Above, Rows, Since}
use Rattle.snapshot.specs.Copied.{Copied}
use Rattle.snapshot.proofs.Growing.{grown_above}

-- past a list, and past the blanks after it, all is blank
getD_blank : {A : Type 0} (n i : ℕ) (d : A) → get_or (replicate n d) i d ≡ d
getD_blank zero i d = refl
getD_blank (suc n) zero d = refl
getD_blank (suc n) (suc i) d = getD_blank n i d

pub getD_blanks : {A : Type 0} (l : List A) (n i : ℕ) (d : A) → get_or (l ++ replicate n d) i d ≡ get_or l i d
getD_blanks [] n i d = getD_blank n i d
getD_blanks (x ∷ l) n zero d = refl
getD_blanks (x ∷ l) n (suc i) d = getD_blanks l n i d

-- a row of zeros
pub zero_row : {A : Type 0} (T : Table A) (w : List ℕ) (i : ℕ) → ((k : ℕ) → k < T.width → get_or w (T.base + i * T.width + k) 0 ≡ 0) → row T w i ≡ tab T.width (λ k. 0)
unfolding row words_at
zero_row T w i h = tab_ext T.width _ _ h

pub blank_cell : var_table.write unbound ≡ tab 5 (λ k. 0)
unfolding tab cell_words option_flag option_word
blank_cell = refl

module _ (w : List ℕ) (u : Used) (before : Used) (r : Rows) (w₁ w' : List ℕ) (h : Lay w u)
    (c : Copied w 16389 r.words 0 before.vars r.touched w₁) (z : Wrote w₁ (16389 + before.vars * 5) ((u.vars - before.vars) * 5) [] w') (w₀ : List ℕ) (s : Since w₀ before r w u) where
  above : Above before u
  above = grown_above w₀ before w u s.grown

  abbrev more : ℕ
  more = u.vars - before.vars

  -- what is put back is what was saved, and what is not was not touched
  front_word : (i k : ℕ) → i < before.vars → k < 5 → get_or w' (16389 + i * 5 + k) 0 ≡ get_or w₁ (16389 + (i * 5 + k)) 0
  front_word i k lt p =
      let e : 16389 + i * 5 + k ≡ 16389 + (i * 5 + k) = omega arith in
      z.there (16389 + i * 5 + k) (λ l q f. omega arith) ∙ ap (λ (x : ℕ). get_or w₁ x 0) e

  front_row : (i : ℕ) → i < before.vars → row var_table w' i ≡ row var_table w₀ i
  front_row i lt = elim (c.rows i lt) [
    | inl f ↦ row_same var_table w₀ w' i (λ k p.
        let e : 16389 + i * 5 + k ≡ 16389 + (i * 5 + k) = omega arith in
        front_word i k lt p ∙ f k p ∙ ap (λ (x : ℕ). get_or r.words x 0) (let g : 0 + (i * 5 + k) ≡ i * 5 + k = omega arith in g) ∙ s.kept.word (i * 5 + k) (omega arith) ∙ ap (λ (x : ℕ). get_or w₀ x 0) (sym e))
    | inr f ↦ row_same var_table w w' i (λ k p.
        let e : 16389 + i * 5 + k ≡ 16389 + (i * 5 + k) = omega arith in
        front_word i k lt p ∙ c.stay i lt f k p ∙ ap (λ (x : ℕ). get_or w x 0) (sym e))
        ∙ s.stay i (let m = s.lay.vars in omega arith) lt f
  ]

  tail_row : (i : ℕ) → before.vars ≤ i → i < u.vars → row var_table w' i ≡ var_table.write unbound
  tail_row i le lt = zero_row var_table w' i (λ k p.
      let e : 16389 + before.vars * 5 + ((i - before.vars) * 5 + k) ≡ 16389 + i * 5 + k = omega arith in
      sym (ap (λ (x : ℕ). get_or w' x 0) e) ∙ z.here ((i - before.vars) * 5 + k) (omega arith)) ∙ sym blank_cell

  rest_row : (i : ℕ) → u.vars ≤ i → row var_table w' i ≡ row var_table w i
  rest_row i le =
      let x = above.vars in
      row_same var_table w w' i (λ k p. z.there (16389 + i * 5 + k) (λ l q f. omega arith) ∙ c.there (16389 + i * 5 + k) (λ l q f. omega arith))

  -- the variables as they were, and blanks for those taken since
  abbrev back : List Cell
  back = entries var_table w₀ before.vars ++ replicate more unbound

  back_entry : (i : ℕ) → i < u.vars → var_table.read (row var_table w' i) ≡ get_or back i unbound
  back_entry i lt = by (dec_lt i before.vars) ∙ sym (getD_blanks (entries var_table w₀ before.vars) more i unbound)
    where
      by : Dec (i < before.vars) → var_table.read (row var_table w' i) ≡ get_or (entries var_table w₀ before.vars) i unbound
      by (yes p) = ap read_cell (front_row i p) ∙ sym (entry_at var_table w₀ before.vars i unbound p)
      by (no p) = ap read_cell (tail_row i (omega arith) lt) ∙ cell_again unbound ∙ sym (entry_out var_table w₀ before.vars i unbound (omega arith))

  back_entries : entries var_table w' u.vars ≡ back
  back_entries =
      let x = above.vars in
      let long : length back ≡ u.vars = length-append (entries var_table w₀ before.vars) (replicate more unbound) ∙ ap₂ ◌+◌ (length_entries var_table w₀ before.vars) (length-replicate more unbound) ∙ omega arith in
      ext_get_or unbound _ _ (length_entries var_table w' u.vars ∙ sym long) (λ i p.
      let lt : i < u.vars = rw (length_entries var_table w' u.vars) at p in
      entry_at var_table w' u.vars i unbound lt ∙ back_entry i lt)

  back_clean : Clean var_table w' u.vars
  unfolding Clean
  back_clean i p = by (dec_lt i before.vars) (dec_lt i u.vars) ∙ ap cell_words (sym (getD_blanks (entries var_table w₀ before.vars) more i unbound) ∙ ap (λ (l : List Cell). get_or l i unbound) (sym back_entries))
    where
      by : Dec (i < before.vars) → Dec (i < u.vars) → row var_table w' i ≡ cell_words (get_or (entries var_table w₀ before.vars) i unbound)
      by (yes q) r = front_row i q ∙ s.lay.clean_vars i p
      by (no q) (yes r) = tail_row i (omega arith) r ∙ ap cell_words (sym (entry_out var_table w₀ before.vars i unbound (omega arith)))
      by (no q) (no r) =
          rest_row i (omega arith)
          ∙ h.clean_vars i p
          ∙ ap cell_words (entry_out var_table w u.vars i unbound (omega arith) ∙ sym (entry_out var_table w₀ before.vars i unbound (omega arith)))

  away : {A : Type 0} (T : Table A) → ((i k l : ℕ) → i < T.rows → k < T.width → l < before.vars * 5 → T.base + i * T.width + k ≡ 16389 + l → ⊥) → Same T w w₁
  away T ne i p = row_same T w w₁ i (λ k q. c.there _ (λ l s e. ne i k l p q s e))

  kept_nodes : Same node_table w w'
  kept_nodes i p = apart node_table w₁ (16389 + before.vars * 5) (more * 5) [] w' z (λ i k l p q s e. omega arith) i p ∙ away node_table (λ i k l p q s e. omega arith) i p

  kept_args : Same arg_table w w'
  kept_args i p = apart arg_table w₁ (16389 + before.vars * 5) (more * 5) [] w' z (λ i k l p q s e. omega arith) i p ∙ away arg_table (λ i k l p q s e. omega arith) i p

  kept_constraints : Same constraint_table w w'
  kept_constraints i p =
      let x = above.vars in
      let y = h.vars in
      apart constraint_table w₁ (16389 + before.vars * 5) (more * 5) [] w' z (λ i k l p q s e. omega arith) i p ∙ away constraint_table (λ i k l p q s e. omega arith) i p

  kept_structs : Same struct_table w w'
  kept_structs i p =
      let x = above.vars in
      let y = h.vars in
      apart struct_table w₁ (16389 + before.vars * 5) (more * 5) [] w' z (λ i k l p q s e. omega arith) i p ∙ away struct_table (λ i k l p q s e. omega arith) i p

  back_view : view w' u ≡ with_vars (view w u) back
  unfolding view with_vars
  back_view =
      λ i. record {
        nodes = same_entries node_table w w' u.nodes kept_nodes h.nodes i;
        args = same_entries arg_table w w' u.args kept_args h.args i;
        vars = back_entries i;
        constraints = same_entries constraint_table w w' u.constraints kept_constraints h.constraints i;
        structs = same_entries struct_table w w' u.structs kept_structs h.structs i;
      }

  back_inside : Inside (with_vars (view w u) back)
  unfolding with_vars node get view
  back_inside =
      record {
        parts = h.inside.parts;
        bindings = λ v t e.
            let old : t < count (view w₀ before) = s.lay.inside.bindings v t (sym (ap (λ (x : Cell). x.binding) (getD_blanks (entries var_table w₀ before.vars) more v unbound)) ∙ e) in
            let x = above.nodes in
            omega (arith, count_view w₀ before, count_view w u);
      }

  back_lay : Lay w' u
  back_lay =
      record {
        size = z.size ∙ c.size ∙ h.size;
        nodes = h.nodes;
        args = h.args;
        vars = h.vars;
        constraints = h.constraints;
        structs = h.structs;
        clean_nodes = same_clean node_table w w' u.nodes kept_nodes h.nodes h.clean_nodes;
        clean_args = same_clean arg_table w w' u.args kept_args h.args h.clean_args;
        clean_vars = back_clean;
        clean_constraints = same_clean constraint_table w w' u.constraints kept_constraints h.constraints h.clean_constraints;
        clean_structs = same_clean struct_table w w' u.structs kept_structs h.structs h.clean_structs;
        inside = subst Inside (sym back_view) back_inside;
      }

  back_is : (ds : List Struct) → with_structs (with_vars (view w u) back) ds ≡ put_back (with_structs (view w₀ before) (seen w u ds).structs) (seen w u ds)
  unfolding put_back seen with_structs with_vars view
  back_is ds = ap₂ (λ (a b : ℕ). with_structs (with_vars (view w u) (entries var_table w₀ before.vars ++ replicate (a - b) unbound)) ds) (sym (taken_view w u)) (sym (taken_view w₀ before))

  pub putting_back : Stored w u w' (λ s. put_back (with_structs (view w₀ before) s.structs) s)
  unfolding with_vars
  putting_back =
      let x = above.vars in
      refines_by (with_vars (view w u) back) back_lay back_view
      (grown_vars (view w u) back (omega (arith, taken_view w u, length-append (entries var_table w₀ before.vars) (replicate more unbound), length_entries var_table w₀ before.vars, length-replicate more unbound)))
      refl
      (λ ds k. back_is ds)

-- .. and the rows that are not noted stay
pub put_stay : (w : List ℕ) (u before : Used) (r : Rows) (w₁ w' : List ℕ) → Copied w 16389 r.words 0 before.vars r.touched w₁ → Wrote w₁ (16389 + before.vars * 5) ((u.vars - before.vars) * 5) [] w'
    → Stay r.touched before.vars w w'
put_stay w u before r w₁ w' c z v p q f = row_same var_table w w' v (λ k l.
    let e : 16389 + v * 5 + k ≡ 16389 + (v * 5 + k) = omega arith in
    z.there (16389 + v * 5 + k) (λ j x y. omega arith) ∙ ap (λ (x : ℕ). get_or w₁ x 0) e ∙ c.stay v q f k l ∙ ap (λ (x : ℕ). get_or w x 0) (sym e))

-- A mark, as the state whose rows say the same has it. Assumes nothing.
use mathlib.Core.Path.{◌≡◌, refl, sym, ap, ◌∙◌, subst}
use mathlib.Core.List.{List, [], ◌∷◌}
use Rattle.std.specs.Prelude.{Option, None, Some, unwrap_or}
use Prim.Native.Nat.{ℕ, zero, suc, ◌+◌, ◌-◌, ◌<◌, ◌≤◌}
use native.Mathlib.Omega.{arith}
use native.Mathlib.Decide.{dec_lt}
use lib.ListN.{get_or, set}
use lib.Seq.{get_or-set_same, set_out}
use Rattle.definition.specs.Types as d
use Rattle.definition.specs.Types.{Cell, unbound}
use Rattle.definition.specs.Store.{taken, get, num_loc, need_of, with_vars, with_need}
use Rattle.definition.specs.Subst.{mark_one, or_insert}
use Rattle.table.specs.State.{Lay, view}
use Rattle.table.specs.Did.{Kept, held}
use Rattle.table.specs.declared.state.State.{State as Table}
use Rattle.table.proofs.Did.{became_now, became_is, of_stored}
use Rattle.table.proofs.Pushed.{taken_seen}
use Rattle.history.specs.Room.{room}
use Rattle.history.specs.History.{words_of, Holds}
use Rattle.history.specs.Past.{rows_of, as_rows, reach, marks_reach, with_mark, Marks}
use Rattle.history.specs.declared.Past.{Past}
use Rattle.history.proofs.Entry.{mark_fits, mark_holds, mark_stored, same_room}
use Rattle.history.proofs.Bound.{linked_any, none_set}

module _ (p : Past) (id v : ℕ) (numeric : Option ℕ) (need : ℕ) (e : id ≡ v) (r : marks_reach p < 2048) where
  abbrev a : Holds p.st.words.now p.st.used p.bindings p.bound p.marks p.marked
  a = p.holds

  module _ (lt : id < p.st.used.vars) where
    pub past_marks : p.marked < 2048
    past_marks = mark_fits p.st.words.now p.st.used p.st.lay p.bindings p.bound p.marks p.marked a id lt numeric need r

    pub marks_hold : Holds p.st.words.now p.st.used p.bindings p.bound (set p.marks p.marked (record { tvar = id; numeric = numeric; need = need })) (p.marked + 1)
    marks_hold = mark_holds p.st.words.now p.st.used p.st.lay p.bindings p.bound p.marks p.marked a id lt numeric need r

    abbrev words' : List ℕ
    words' = words_of p.st.words.now p.bindings p.bound (set p.marks p.marked (record { tvar = id; numeric = numeric; need = need })) (p.marked + 1)

    pub past_marked : (l : Lay words' p.st.used) → Kept (as_rows p) (rows_of p.st words' l) (with_mark v numeric need) × ((p.bound + room (view words' p.st.used) ≤ reach p) × (p.marked + 1 + (1024 - p.st.used.vars) ≤ marks_reach p + 1))
    past_marked l = (
      subst (λ (x : ℕ). Kept (as_rows p) (rows_of p.st words' l) (with_mark x numeric need)) e (of_stored (linked_any refl refl refl) refl (mark_stored p.st.words.now p.st.used p.st.lay p.bindings p.bound p.marks p.marked a id lt numeric need r)),
      (omega (arith, same_room p.st.words.now p.st.used p.st.lay p.bindings p.bound p.marks p.marked a id lt numeric need r), omega arith),
    )

  nothing : (s : d.State) → taken s ≤ v → s ≡ with_mark v numeric need s
  unfolding with_mark
  nothing s h = none_set s v _ h

  -- no variable in use: nothing is done
  pub none_marked : p.st.used.vars ≤ id → Kept (as_rows p) (as_rows p) (with_mark v numeric need) × Marks p p
  none_marked le = (
    record { changed = became_now (λ ds k. nothing (held (as_rows p) ds) (rw (taken_seen (as_rows p).words.now p.st.used ds) (rw e at le))); used = refl },
    (omega arith, omega arith),
  )

-- ---- the mark that is there stays

set_again : (l : List Cell) (v : ℕ) (x y : Cell) → set (set l v x) v y ≡ set l v y
set_again [] v x y = refl
set_again (z ∷ l) zero x y = refl
set_again (z ∷ l) (suc v) x y = ap (λ (m : List Cell). z ∷ m) (set_again l v x y)

or_insert_is : (o : Option ℕ) (x : ℕ) → unwrap_or o x ≡ or_insert o x
unfolding or_insert
or_insert_is None x = refl
or_insert_is (Some y) x = refl

module _ (s : d.State) (v loc need l : ℕ) (e : l ≡ or_insert (num_loc s v) loc) where
  abbrev first : Cell
  first = record { binding = get s v; numeric = Some (or_insert (num_loc s v) loc); need = need_of s v }

  abbrev second : Cell → Cell
  second c = record { binding = c.binding; numeric = c.numeric; need = need }

  same_cells : Dec (v < taken s) → set s.vars v (record { binding = get s v; numeric = Some l; need = need }) ≡ set s.vars v (second (get_or (set s.vars v first) v unbound))
  same_cells (yes p) = rw (get_or-set_same s.vars v first unbound p, e) refl
  same_cells (no p) = set_out s.vars v _ (omega arith) ∙ sym (set_out s.vars v _ (omega arith))

  one_mark : with_mark v (Some l) need s ≡ with_need (mark_one s v loc) v need
  unfolding with_mark with_need mark_one with_vars get num_loc
  one_mark = ap (with_vars s) (same_cells (dec_lt v (taken s)) ∙ sym (set_again s.vars v first _))

pub mark_kept : {s t : Table} (v loc need l : ℕ) (m : Option ℕ) → ((ds : List d.Struct) → m ≡ num_loc (held s ds) v) → l ≡ unwrap_or m loc → Kept s t (with_mark v (Some l) need) → Kept s t (λ s. with_need (mark_one s v loc) v need)
mark_kept {s} v loc need l m is e k = record { changed = became_is (λ ds x. one_mark (held s ds) v loc need l (e ∙ or_insert_is m loc ∙ ap (λ (o : Option ℕ). or_insert o loc) (is ds))) k.changed; used = k.used }

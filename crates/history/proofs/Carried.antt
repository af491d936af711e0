-- A run over the histories that were read from a state's rows, and whose rows are written back: it is a run of that state. Assumes nothing.
use mathlib.Core.Path.{◌≡◌, refl, sym, ap, subst, ◌∙◌}
use mathlib.Core.List.{List, []}
use Prim.Native.Nat.{ℕ}
use native.Mathlib.Omega.{arith}
use Rattle.std.specs.Prelude.{Result}
use Rattle.definition.specs.Types as d
use Rattle.definition.specs.Types.{Struct}
use Rattle.definition.specs.Store.{with_vars, with_structs}
use Rattle.table.specs.State.{Lay, view, seen, Grown, Refines, outcome}
use Rattle.table.specs.Did.{DidFor, tables}
use Rattle.table.specs.declared.Touched.TheVariants as touched
use Rattle.table.specs.declared.Used.{Used}
use Rattle.table.specs.declared.state.State.{State}
use Rattle.table.specs.declared.state.Stop.{Stop}
use Rattle.history.specs.History.{words_of}
use Rattle.history.specs.Past.{as_rows}
use Rattle.history.specs.Rows.{Loads, entries_of, InRows}
use Rattle.history.specs.declared.Past.{Past}
use Rattle.history.specs.declared.rows.Entries.{Entries}
use Rattle.history.proofs.Bound.{linked_any}
use Rattle.history.proofs.Words.{view_of}

-- what write_back asks
pub in_rows : (p : Past) → InRows (entries_of p)
in_rows p =
    let l = p.st.lay.vars in
    let n = p.holds.few_bound in
    let k = p.holds.few_marked in
    record {
      bindings_size = rw p.holds.bindings_size (omega arith);
      marks_size = rw p.holds.marks_size (omega arith);
      vars_bound = λ i q. let v = p.holds.vars_bound i q in omega arith;
      vars_marked = λ i q. let v = p.holds.vars_marked i q in omega arith;
    }

-- .. of the entries e
pub entries_in : (p : Past) (e : Entries) → e ≡ entries_of p → InRows e
entries_in p e q = subst InRows (sym q) (in_rows p)

-- what a state of the words that it wrote asks
pub carried_lay : (p : Past) (e : Entries) (w : List ℕ) → e ≡ entries_of p → w ≡ words_of p.st.words.now e.bindings e.bound e.marks e.marked → Lay w p.st.used
carried_lay p e w q z = rw (z, q) p.holds.lay

-- the histories say what the rows did
module _ {w : List ℕ} {u : Used} {p : Past} (a : Loads w u p) where
  loaded_structs : (tables (as_rows p)).structs ≡ (view w u).structs
  unfolding with_vars
  loaded_structs = ap (λ (s : d.State). s.structs) (view_of p.st.words.now p.bindings p.bound p.marks p.marked p.st.used p.st.lay) ∙ rw (a.words, a.used) refl

  pub loaded : tables (as_rows p) ≡ view w u
  unfolding seen with_structs
  loaded =
      let e : seen (as_rows p).words.now p.st.used [] ≡ seen w u [] = a.is [] in
      λ i. record { nodes = (e i).nodes; args = (e i).args; vars = (e i).vars; constraints = (e i).constraints; structs = loaded_structs i }

-- the state s was read, p became q, and t has the words of q's entries
pub carried : {K : List Struct → Type 0} {s t : State} {p : Past} (q : Past) {r : Result ℕ Stop} {f : d.State → d.Result (d.State × ℕ)}
    → Loads s.words.now s.used p → DidFor K (as_rows p) (as_rows q) r f
    → (e : Entries) → e ≡ entries_of q → t.words.now ≡ words_of q.st.words.now e.bindings e.bound e.marks e.marked → t.used ≡ q.st.used
    → t.words.ghost_name ≡ s.words.ghost_name → t.saved ≡ s.saved → t.touched ≡ touched.Any
    → DidFor K s t r f
carried {K} {s} {t} {p} q {r} {f} a b e is words used name saved any =
    let z : t.words.now ≡ (as_rows q).words.now = rw is at words in
    let step : Refines K s.words.now s.used (as_rows q).words.now q.st.used (outcome r) f = record {
      lay = q.holds.lay;
      grown = subst (λ (x : d.State). Grown x (tables (as_rows q))) (loaded a) b.changed.step.grown;
      structs = b.changed.step.structs ∙ ap (λ (x : d.State). x.structs) (loaded a);
      is = λ ds k. b.changed.step.is ds k ∙ ap f (a.is ds);
    } in
    record { changed = record { same = linked_any name saved any; step = rw (z, used) step }; inside = rw used b.inside }

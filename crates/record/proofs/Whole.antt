-- A record among the caller's bytes: no more than 4,096 are its own, and those left over are handed back. Assumes nothing.
use mathlib.Core.Path.{◌≡◌, refl, sym, ap, ◌∙◌}
use mathlib.Core.Bool.{false}
use mathlib.Core.List.{List, ◌++◌, append_assoc}
use Prim.Native.Nat.{ℕ, ◌+◌, ◌-◌, ◌≤◌}
use native.Mathlib.Omega.{arith}
use lib.ListN.{length, take, drop, length-append, length-take, length-drop, take-append-drop}
use lib.Seq.{drop_at, drop-drop}
use Rattle.std.specs.Prelude as std
use Rattle.std.specs.Prelude.{Option, Some, None, Ok, Err}
use Rattle.definition.specs.Types.{State, Struct, Result}
use Rattle.definition.specs.Write.{Bytes}
use Rattle.definition.specs.Reader.{Read, got, not_read}
use Rattle.definition.specs.Store.{with_structs}
use Rattle.definition.specs.Record.{Record, max_record, hand_back, read_fields, read_record}
use Rattle.table.specs.State.{seen}
use Rattle.table.specs.Did.{held}
use Rattle.table.specs.declared.state.State.{State as Table}
use Rattle.table.proofs.Pushed.{taken_seen}
use Rattle.refusals.specs.declared.Refusal.{Refusal}
use Rattle.heads.specs.Fields.{Knows}
use Rattle.reader.specs.Taken as taken
use Rattle.reader.specs.Taken.{stopped, placed, place_read, read_with}
use Rattle.fields.specs.declared.What.{What}
use Rattle.fields.specs.Noded.{place_record, noded, fields_as, FieldsAre, RecordIs}
use Rattle.record.proofs.Onward.{Onward, on, goes_fields}

-- ---- bytes handed back

abbrev longer : {B : Type 0} → Bytes → taken.Placed B → taken.Placed B
longer more (stopped x) = stopped x
longer more (placed q l) = placed q (l ++ more)

longer_fields : {A B : Type 0} (p : std.Result (Option A) Refusal) (g : A → B) (s : State) (l more : Bytes) → read_with p g s (l ++ more) ≡ longer more (read_with p g s l)
longer_fields (Ok (Some x)) g s l more = refl
longer_fields (Ok None) g s l more = refl
longer_fields (Err e) g s l more = refl

longer_read : {A B : Type 0} (put : A → State → Result (State × B)) (x : Read A) (s : State) (more : Bytes) → longer more (place_read false put x s) ≡ place_read false put (hand_back more x) s
unfolding place_read hand_back
longer_read put (got a l) s more = refl
longer_read put (not_read y) s more = refl

-- ---- a record's bytes, and those after them

-- what is left of the record, and the bytes after it
left_is : {A : Type 0} (n : ℕ) (b : List ℕ) (start : ℕ) (a : A) (l : Bytes) → Onward (take n (drop start b)) (got a l)
    → drop (start + (length (take n (drop start b)) - length l)) b ≡ l ++ drop n (drop start b)
left_is n b start a l (on front e) =
    let more = drop n (drop start b) in
    let k : length (take n (drop start b)) - length l ≡ length front = (let z = ap length e in let y = length-append front l in omega arith) in
    let whole : drop start b ≡ front ++ (l ++ more) = sym (take-append-drop n (drop start b)) ∙ ap (λ (k : Bytes). k ++ more) e ∙ append_assoc front l more in
    sym (drop-drop (length (take n (drop start b)) - length l) start b) ∙ ap (λ (j : ℕ). drop j (drop start b)) k
    ∙ ap (λ (m : Bytes). drop (length front) m) whole ∙ drop_at front (l ++ more) (length front) refl

-- what was read leaves l
left_of : {A B : Type 0} (put : A → State → Result (State × B)) (o : Option What) (g : What → B) (x : Read A) (s s' : State) (l : Bytes) → read_with (Ok o) g s' l ≡ place_read false put x s → (a : A) × (x ≡ got a l)
unfolding place_read
left_of put (Some v) g (got a m) s s' l e = (a, cc)
left_of put None g (got a m) s s' l e = (a, cc)
left_of put (Some v) g (not_read y) s s' l e = absurd (let z : ◌≡◌ {A = ℕ} 0 1 = cc in omega arith)
left_of put None g (not_read y) s s' l e = absurd (let z : ◌≡◌ {A = ℕ} 0 1 = cc in omega arith)

-- ---- the whole record

knows_seen : (st : Table) (ds : List Struct) → Knows (held st ds) st.used.vars ds
unfolding seen with_structs
knows_seen st ds = record { vars = taken_seen st.words.now st.used ds; structs = refl }

module _ (names : List ℕ) (n : ℕ) (b : List ℕ) (start : ℕ) where
  abbrev own : Bytes
  own = take n (drop start b)

  abbrev next : Bytes → ℕ
  next l = start + (length own - length l)

  stands : (r : std.Result (Option What) Refusal) (s s' : State) (l : Bytes) → fields_as names r s' l ≡ place_read false place_record (read_fields s own) s → fields_as names r s' (drop (next l) b) ≡ fields_as names r s' (l ++ drop n (drop start b))
  stands (Err e) s s' l f = refl
  stands (Ok o) s s' l f = go (read_fields s own) (goes_fields s own) (left_of place_record o (noded names) (read_fields s own) s s' l f)
    where
      go : (x : Read Record) → Onward own x → (a : Record) × (x ≡ got a l) → fields_as names (Ok o) s' (drop (next l) b) ≡ fields_as names (Ok o) s' (l ++ drop n (drop start b))
      go x h (a, e) = ap (λ (k : Bytes). fields_as names (Ok o) s' k) (left_is n b start a l (rw e at h))

  near : start ≤ length b → (l : Bytes) → next l ≤ length b
  near h l = simp (length-take, length-drop) (omega arith)

  handed : (r : std.Result (Option What) Refusal) (s s' : State) (l : Bytes) → fields_as names r s' l ≡ place_read false place_record (read_fields s own) s
      → fields_as names r s' (drop (next l) b) ≡ place_read false place_record (hand_back (drop n (drop start b)) (read_fields s own)) s
  handed r s s' l q =
      stands r s s' l q
      ∙ longer_fields r (noded names) s' l (drop n (drop start b))
      ∙ ap (longer (drop n (drop start b))) q
      ∙ longer_read place_record (read_fields s own) s (drop n (drop start b))

pub whole_is : {names : List ℕ} {st : Table} (b : List ℕ) (start : ℕ) → start ≤ length b → {st' : Table} {l l₀ : Bytes} {r : std.Result (Option What) Refusal}
    → l₀ ≡ take 4096 (drop start b) → FieldsAre names st st.used.vars (λ s. read_fields s l₀) st' l r → {n : ℕ} → n ≡ start + (length l₀ - length l) → RecordIs names st b start st' (record { read = r; next = n })
unfolding read_record max_record
whole_is {names} {st} b start h {st'} {l} {l₀} {r} e f {n} k =
    let z : n ≡ next names 4096 b start l = k ∙ ap (λ (m : Bytes). start + (length m - length l)) e in
    rw z (record {
      same = f.same;
      grown = f.grown;
      structs = f.structs;
      inside = f.inside;
      within = near names 4096 b start h l;
      is = λ ds d.
          let s = held st ds in
          handed names 4096 b start r s (held st' ds) l (f.is ds s d (knows_seen st ds) ∙ ap (λ (m : Bytes). place_read false place_record (read_fields s m) s) e);
    })

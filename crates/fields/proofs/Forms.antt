-- The forms of a record's fields in the words: one type after numbers, two types, none. Assumes nothing.
use mathlib.Core.Path.{◌≡◌, refl, sym, ap, ◌∙◌}
use mathlib.Core.Bool.{Bool, false}
use mathlib.Core.List.{List}
use Prim.Native.Nat.{ℕ, ◌≤◌, ◌<◌}
use native.Mathlib.Omega.{arith}
use Rattle.std.specs.Prelude as std
use Rattle.std.specs.Prelude.{Option, Some, None, Ok, Err, is_none, unwrap_or}
use Rattle.std.specs.Option.{option_map}
use Rattle.definition.specs.Types.{State, Struct, Result, ok, ◌>>=◌}
use Rattle.definition.specs.Write.{Bytes}
use Rattle.definition.specs.Reader as rd
use Rattle.definition.specs.Reader.{Read, give, go_on, read_u32, read_one, read_two, name_below}
use Rattle.definition.specs.Trees.{Tree, read_nested, read_type}
use Rattle.definition.specs.Build.{build}
use Rattle.definition.specs.Step.{numeric_constraint}
use Rattle.definition.specs.Record as d
use Rattle.definition.specs.Record.{Record}
use Rattle.table.specs.State.{Declares}
use Rattle.table.specs.Did.{held, tables}
use Rattle.table.specs.declared.state.State.{State as Table}
use Rattle.table.proofs.Steps.{grown_refl, grown_trans}
use Rattle.table.proofs.Grown.{nodes_grow}
use Rattle.constraints.specs.Solve.{kind_of}
use Rattle.constraints.specs.declared.NumericKind.{NumericKind}
use Rattle.refusals.specs.Refusals.{refusal_of}
use Rattle.refusals.specs.declared.Refusal.{Refusal}
use Rattle.heads.specs.Fields.{Knows}
use Rattle.heads.proofs.Heads.{declares_self}
use Rattle.reader.specs.Taken.{placed, place_read, part_of, read_with, PlacedSo, Takes}
use Rattle.reader.proofs.Parts.{never, at_open}
use Rattle.reader.proofs.Loop.{declares_kept, knowing, knows, code}
use Rattle.marks.specs.declared.LocMark.{LocMark}
use Rattle.marks.specs.declared.LocMark.TheVariants.{FV, NV}
use Rattle.marks.specs.declared.LookMark.{LookMark}
use Rattle.marks.specs.declared.LookMark.TheVariants.{UF, RD, CN, UL}
use Rattle.marks.specs.declared.TwoMark.{TwoMark}
use Rattle.marks.specs.declared.TwoMark.TheVariants.{JN, SU, JL}
use Rattle.marks.specs.declared.LocTypeMark.{LocTypeMark}
use Rattle.marks.specs.declared.LocTypeMark.TheVariants.{BC, SC}
use Rattle.marks.specs.Marks.{loc_record, look_record, two_record, loc_type_record}
use Rattle.needs.specs.Counted.{as_argument, Counts}
use Rattle.needs.specs.declared.Sums.{Sums}
use Rattle.fields.specs.declared.Bind.TheVariants as c
use Rattle.fields.specs.declared.Look.TheVariants as k
use Rattle.fields.specs.declared.Add.TheVariants as a
use Rattle.fields.specs.declared.What.{What}
use Rattle.fields.specs.declared.What.TheVariants as q
use Rattle.fields.specs.Noded.{Noded, Shape, shape, place, place_record, noded, fields_as, WhatIn, FieldsAre}
use Rattle.fields.specs.Noded as n
use Rattle.fields.proofs.Placing.{stopped_is, last_type, first_type}
use Rattle.table.proofs.Did.{linked, linked_now}

-- ---- the marks of each form

loc_shaped : (m : LocMark) (loc : ℕ) → shape (loc_record m loc) ≡ n.loc_shape m loc
loc_shaped FV loc = refl
loc_shaped NV loc = refl

look_shaped : (m : LookMark) (t : Tree) → shape (look_record m t) ≡ n.look_shape m t
look_shaped UF t = refl
look_shaped RD t = refl
look_shaped CN t = refl
look_shaped UL t = refl

two_shaped : (m : TwoMark) (t1 t2 : Tree) → shape (two_record m t1 t2) ≡ n.two_shape m t1 t2
two_shaped JN t1 t2 = refl
two_shaped SU t1 t2 = refl
two_shaped JL t1 t2 = refl

loc_type_shaped : (m : LocTypeMark) (loc : ℕ) (t : Tree) → shape (loc_type_record m loc t) ≡ n.loc_type_shape m loc t
loc_type_shaped BC loc t = refl
loc_type_shaped SC loc t = refl

-- ---- what was read and placed

-- a node was placed: space had not ended before
pub was_open : {st : Table} {known : ℕ} {over : Bool} {m : State → Read Tree} {st' : Table} {l : Bytes} {t : ℕ} → Takes st known over m st' l (Ok (Some t)) → over ≡ false
was_open {st} {known} {over} k =
    let ds = (tables st).structs in
    at_open over _ _ _ _ _ (k.is ds (knowing known ds) (declares_self st.words.now st.used) (knows known ds))

-- ---- what m reads, said otherwise

pub fields_is : {names : List ℕ} {st : Table} {known : ℕ} {m m' : State → Read Record} {st' : Table} {l : Bytes} {r : std.Result (Option What) Refusal}
    → ((ds : List Struct) (s : State) → Declares st.words.now st.used ds → Knows s known ds → m s ≡ m' s) → FieldsAre names st known m st' l r → FieldsAre names st known m' st' l r
fields_is {st} e t =
    record {
      same = t.same;
      grown = t.grown;
      structs = t.structs;
      inside = t.inside;
      is = λ ds s d k. t.is ds s d k ∙ ap (λ (x : Read Record). place_read false place_record x (held st ds)) (e ds s d k);
    }

-- nothing was written
pub fields_none : {names : List ℕ} {st : Table} {known : ℕ} {m : State → Read Record} {l : Bytes} {r : std.Result (Option What) Refusal} → PlacedSo r (WhatIn names st.used.nodes)
    → ((s s' : State) (ds : List Struct) → Knows s known ds → fields_as names r s' l ≡ place_read false place_record (m s) s') → FieldsAre names st known m st l r
fields_none {st} i f = record { same = linked_now _; grown = grown_refl (tables st); structs = refl; inside = i; is = λ ds s d k. f s (held st ds) ds k }

-- 5, 6 or 18 in the numbers
pub unread_is : {names : List ℕ} {st : Table} {known : ℕ} {m : State → Read Record} {l : Bytes} {e : Refusal} → ((s : State) (ds : List Struct) → Knows s known ds → rd.not_read (refusal_of e) ≡ m s)
    → FieldsAre names st known m st l (Err e)
unfolding place_read
unread_is f = fields_none tt (λ s s' ds k. ap (λ (x : Read Record). place_read false place_record x s') (f s ds k))

-- .. in a type
pub type_unread : {names : List ℕ} {st : Table} {known : ℕ} {over : Bool} {x : State → Read Tree} {st' : Table} {l : Bytes} {e : Refusal} {m : State → Read Record}
    → Takes st known over x st' l (Err e) → ((s : State) (ds : List Struct) → Knows s known ds → x s ≡ rd.not_read (refusal_of e) → rd.not_read (refusal_of e) ≡ m s) → FieldsAre names st known m st' l (Err e)
unfolding place_read
type_unread {st} {over = over} {x} {e = e} t f =
    record {
      same = t.same;
      grown = t.grown;
      structs = t.structs;
      inside = tt;
      is = λ ds s d k. ap (λ (y : Read Record). place_read false place_record y (held st ds)) (f s ds k (stopped_is (x s) over (held st ds) (refusal_of e) (t.is ds s d k)));
    }

-- ---- what the code makes of the last type's node

pub made_with : (names : List ℕ) (o : Option ℕ) (mk : ℕ → What) (f : ℕ → Noded) (s : State) (l : Bytes) → ((t : ℕ) → noded names (mk t) ≡ f t) → fields_as names (Ok (option_map mk o)) s l ≡ read_with (Ok o) f s l
made_with names (Some t) mk f s l e = ap (λ (y : Noded). placed (ok (s, y)) l) (e t)
made_with names None mk f s l e = refl

pub made_so : (P : What → Type 0) (o : Option ℕ) (n : ℕ) (mk : ℕ → What) → PlacedSo (Ok o) (λ t. t < n) → ((t : ℕ) → o ≡ Some t → t < n → P (mk t)) → PlacedSo (Ok (option_map mk o)) P
made_so P (Some t) n mk i f = f t refl i
made_so P None n mk i f = tt

-- ---- one type

-- make gives the record of its last type's tree, mk what the code has of that type's node
pub record One (mk : ℕ → What) (make : Tree → Record) : Type 0 where
  pub nodes : ℕ → Noded
  pub places : (t : Tree) (s : State) → place_record (make t) s ≡ (build t s >>= (λ (s, ty). ok (s, nodes ty)))
  pub shows : (names : List ℕ) (t : ℕ) → noded names (mk t) ≡ nodes t
  pub inside : (names : List ℕ) (n t : ℕ) → t < n → WhatIn names n (mk t)

pub one_is : {names : List ℕ} {st : Table} {known : ℕ} (l₀ : Bytes) {st' : Table} {l : Bytes} {o : Option ℕ} {mk : ℕ → What} {make : Tree → Record} → One mk make
    → Takes st known false (λ s. read_nested 64 s l₀) st' l (Ok o) → FieldsAre names st known (λ s. read_one make (read_type s) l₀) st' l (Ok (option_map mk o))
unfolding read_one read_type rd.◌>>=◌
one_is {names} {st} l₀ {st'} {l} {o} {mk} {make} f t =
    record {
      same = t.same;
      grown = t.grown;
      structs = t.structs;
      inside = made_so (WhatIn names st'.used.nodes) o st'.used.nodes mk t.inside (λ x e i. f.inside names st'.used.nodes x i);
      is = λ ds s d k. made_with names o mk f.nodes (held st' ds) l (f.shows names) ∙ last_type place_record make f.nodes f.places (Ok o) false _ (held st ds) _ _ (t.is ds s d k);
    }

-- ---- one type, counted

pub rm_is : {names : List ℕ} {st : Table} {known : ℕ} (l₀ : Bytes) {l : Bytes} {o : Option Sums} → Counts st known false (λ s. read_nested 64 s l₀) l (Ok o)
    → FieldsAre names st known (λ s. read_one d.RM (read_type s) l₀) st l (Ok (Some (q.Add (a.RM o))))
unfolding place_read place_record read_one rd.◌>>=◌ go_on give read_type as_argument
rm_is {st} l₀ c =
    record {
      same = linked_now _;
      grown = grown_refl (tables st);
      structs = refl;
      inside = tt;
      is = λ ds s d k. let t = c.is ds s d k in rw (t.reads, t.counts) refl;
    }

pub rm_unread : {names : List ℕ} {st : Table} {known : ℕ} (l₀ : Bytes) {l : Bytes} {e : Refusal} → Counts st known false (λ s. read_nested 64 s l₀) l (Err e)
    → FieldsAre names st known (λ s. read_one d.RM (read_type s) l₀) st l (Err e)
unfolding place_read read_one rd.◌>>=◌ go_on read_type
rm_unread {st} l₀ c =
    record {
      same = linked_now _;
      grown = grown_refl (tables st);
      structs = refl;
      inside = tt;
      is = λ ds s d k. rw (c.is ds s d k) refl;
    }

-- ---- two types

pub first_in : (o : Option ℕ) (n n' : ℕ) → n ≤ n' → is_none o ≡ false → PlacedSo (Ok o) (λ t. t < n) → unwrap_or o 0 < n'
first_in (Some t) n n' l e i = omega arith
first_in None n n' l e i = never (ap code (sym e))

module _ (m : TwoMark) where
  abbrev nodes : ℕ → ℕ → Noded
  nodes lhs rhs = n.run (n.binds (n.two_binds m lhs rhs))

  abbrev second : ℕ → Tree → State → Result (State × Noded)
  second lhs t2 s = build t2 s >>= (λ (s, rhs). ok (s, nodes lhs rhs))

  places : (t1 t2 : Tree) (s : State) → place_record (two_record m t1 t2) s ≡ (build t1 s >>= (λ (s, lhs). second lhs t2 s))
  unfolding place_record
  places t1 t2 s = ap (λ (h : Shape). place h s) (two_shaped m t1 t2)

  read_same : (lhs : ℕ) (x : Read Tree) (over : Bool) (s : State) → place_read over (second lhs) (go_on x (λ t. give t)) s ≡ place_read over (second lhs) x s
  unfolding go_on give
  read_same lhs (rd.got a l) over s = refl
  read_same lhs (rd.not_read y) over s = refl

  alone : (lhs : ℕ) (p : Option ℕ) (over : Bool) (x : Read Tree) (s s' : State) (l : Bytes) → part_of (Ok p) s' l ≡ place_read over build x s
      → read_with (Ok p) (nodes lhs) s' l ≡ place_read over (second lhs) x s
  alone lhs p over x s s' l f = last_type (second lhs) (λ t. t) (nodes lhs) (λ t s. refl) (Ok p) over x s s' l f ∙ read_same lhs x over s

  abbrev pub both_made : ℕ → ℕ → What
  both_made lhs rhs = q.Bind (c.Two m lhs rhs)

module _ {st : Table} {known : ℕ} (l₀ : Bytes) {st₁ : Table} {l₁ : Bytes} {o : Option ℕ} (m : TwoMark) (t : Takes st known false (λ s. read_nested 64 s l₀) st₁ l₁ (Ok o)) where
  pub two_is : {names : List ℕ} {st₂ : Table} {l : Bytes} {p : Option ℕ} → Takes st₁ known (is_none o) (λ s. read_nested 64 s l₁) st₂ l (Ok p)
      → FieldsAre names st known (λ s. read_two (two_record m) (read_type s) (read_type s) l₀) st₂ l (Ok (option_map (both_made m (unwrap_or o 0)) p))
  unfolding read_two read_type rd.◌>>=◌
  two_is {names} {st₂} {l} {p} t' =
      record {
        same = linked t'.same t.same;
        grown = grown_trans _ _ _ t.grown t'.grown;
        structs = t'.structs ∙ t.structs;
        inside = made_so (WhatIn names st₂.used.nodes) p st₂.used.nodes (both_made m (unwrap_or o 0)) t'.inside (λ x f i. (first_in o st₁.used.nodes st₂.used.nodes (nodes_grow _ _ _ _ t'.grown) (was_open (rw f at t')) t.inside, i));
        is = λ ds s d k.
            made_with names p (both_made m (unwrap_or o 0)) (nodes m (unwrap_or o 0)) (held st₂ ds) l (λ t. refl)
            ∙ alone m (unwrap_or o 0) p _ (read_nested 64 s l₁) (held st₁ ds) _ _ (t'.is ds s (declares_kept _ _ _ _ ds t.structs d) k)
            ∙ sym (first_type place_record (two_record m) (second m) (places m) (read_nested 64 s) o false _ (held st ds) (held st₁ ds) _ (t.is ds s d k));
      }

  pub two_unread : {names : List ℕ} {st₂ : Table} {l : Bytes} {e : Refusal} → Takes st₁ known (is_none o) (λ s. read_nested 64 s l₁) st₂ l (Err e)
      → FieldsAre names st known (λ s. read_two (two_record m) (read_type s) (read_type s) l₀) st₂ l (Err e)
  unfolding read_two read_type rd.◌>>=◌ go_on place_read
  two_unread {e = e} t' =
      record {
        same = linked t'.same t.same;
        grown = grown_trans _ _ _ t.grown t'.grown;
        structs = t'.structs ∙ t.structs;
        inside = tt;
        is = λ ds s d k.
            let x = stopped_is (read_nested 64 s l₁) (is_none o) (held st₁ ds) (refusal_of e) (t'.is ds s (declares_kept _ _ _ _ ds t.structs d) k) in
            sym (first_type place_record (two_record m) (second m) (places m) (read_nested 64 s) o false _ (held st ds) (held st₁ ds) _ (t.is ds s d k)
            ∙ ap (λ (y : Read Tree). place_read (is_none o) (second m (unwrap_or o 0)) y (held st₁ ds)) x);
      }

-- ---- numbers, and a type or none

module _ {names : List ℕ} {st : Table} {known : ℕ} where
  pub loc_is : (l₀ : Bytes) {l : Bytes} {loc : ℕ} (m : LocMark) → rd.got loc l ≡ read_u32 l₀ → FieldsAre names st known (λ s. read_one (loc_record m) read_u32 l₀) st l (Ok (Some (q.Add (a.Loc m loc))))
  unfolding place_read place_record read_one rd.◌>>=◌ go_on give
  loc_is l₀ {l} {loc} m e =
      fields_none tt
      (λ s s' ds k. ap (λ (h : Shape). placed (place h s') l) (sym (loc_shaped m loc))
      ∙ ap (λ (x : Read ℕ). place_read false place_record (go_on x (λ loc. give (loc_record m loc))) s') e)

  pub sv_is : {l : Bytes} → FieldsAre names st known (λ s. give d.SV l) st l (Ok (Some q.SV))
  unfolding place_read place_record give
  sv_is = fields_none tt (λ s s' ds k. refl)

-- ---- the records with one type

pub one_look : (m : LookMark) → One (λ t. q.Look (k.One m t)) (look_record m)
unfolding place_record
one_look m = record { nodes = λ t. n.run (n.looks (n.one_looks m t)); places = λ t s. ap (λ (h : Shape). place h s) (look_shaped m t); shows = λ names t. refl; inside = λ names n t l. l }

pub one_IN : One (λ t. q.Bind (c.IN t)) d.IN
unfolding place_record
one_IN = record { nodes = λ t. n.run (n.binds (n.instantiate t)); places = λ t s. refl; shows = λ names t. refl; inside = λ names n t l. l }

pub one_XP : One (λ t. q.XP t) d.XP
unfolding place_record
one_XP = record { nodes = λ t. n.expand t; places = λ t s. refl; shows = λ names t. refl; inside = λ names n t l. l }

pub one_loc_type : (m : LocTypeMark) (loc : ℕ) → One (λ t. q.Add (a.LocType m loc t)) (loc_type_record m loc)
unfolding place_record
one_loc_type m loc =
    record { nodes = λ t. n.run (n.adds (n.constrain (n.loc_type_constraint m loc t))); places = λ t s. ap (λ (h : Shape). place h s) (loc_type_shaped m loc t); shows = λ names t. refl; inside = λ names n t l. tt }

pub one_NC : (loc : ℕ) (kind : NumericKind) → One (λ t. q.Add (a.NC loc kind t)) (d.NC loc (kind_of kind))
unfolding place_record
one_NC loc kind = record { nodes = λ t. n.run (n.adds (n.constrain (numeric_constraint (kind_of kind) loc t))); places = λ t s. refl; shows = λ names t. refl; inside = λ names n t l. tt }

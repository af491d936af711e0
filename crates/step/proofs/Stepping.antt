-- A record read, placed and answered is a step of the definition, and the rows that were saved before it still stand but for the noted: by what
-- reading came to, a refusal, a record left over, or one that is run. Assumes nothing.
use mathlib.Core.Path.{◌≡◌, refl, sym, ap, ◌∙◌, subst}
use mathlib.Core.Bool.{Bool, true, false, ◌&&◌}
use mathlib.Core.List.{List}
use Prim.Native.Nat.{ℕ, ◌-◌, ◌≤◌}
use native.Mathlib.Omega.{arith}
use lib.Dec.{ltb}
use lib.ListN.{length, drop}
use Rattle.std.specs.Prelude as std
use Rattle.std.specs.Prelude.{Option, Some, None, Ok, Err, if◌then◌else◌}
use Rattle.definition.specs.Types as d
use Rattle.definition.specs.Types.{State, Struct, malformed, full, Result, ok, refused, ◌>>=◌}
use Rattle.definition.specs.Write.{Bytes, IsBytes}
use Rattle.definition.specs.Reader.{Read, got}
use Rattle.definition.specs.Store.{taken}
use Rattle.definition.specs.Trees.{arity}
use Rattle.definition.specs.Record.{Record, read_record}
use Rattle.definition.specs.Sound.{sound}
use Rattle.definition.specs.Step as step
use Rattle.definition.specs.Step.{max_payload, least_buffer, refusal, answer_within, most_of, tail_of, apart, reply}
use Rattle.theorems.proofs.StepFits.{others_short, most_read}
use Rattle.theorems.proofs.SoundRead.{RecordIn, FineRecord, ReadWell, given, well_read}
use Rattle.refusals.specs.Refusals.{refusal_of}
use Rattle.refusals.specs.declared.Refusal.{Refusal}
use Rattle.refusals.specs.declared.Refusal.TheVariants.{Malformed, Full}
use Rattle.table.specs.Tab.{tab}
use Rattle.table.specs.Rows.{words_at}
use Rattle.table.specs.Encode.{encode}
use Rattle.table.specs.State.{view, seen, Declares}
use Rattle.table.specs.Did.{held as seen_in, tables}
use Rattle.table.specs.declared.Used.{Used}
use Rattle.table.specs.declared.state.State.{State as Table}
use Rattle.snapshot.specs.Snap.{Saved, Since}
use Rattle.snapshot.specs.Back.{GrownFrom}
use Rattle.snapshot.specs.declared.before.Before.{Before}
use Rattle.answer.proofs.Growing.{grown_now, grown_on, noted_since}
use Rattle.snapshot.proofs.Exact.{declares_still, word_for_word}
use Rattle.sound.specs.Lent.{used_of, structs_of}
use Rattle.sound.proofs.Lays.{lent_declares}
use Rattle.heads.specs.Fields.{Arities}
use Rattle.reader.specs.Taken.{stopped, placed, place_read, PlacedSo}
use Rattle.fields.specs.declared.What.{What}
use Rattle.fields.specs.declared.What.TheVariants as q
use Rattle.fields.specs.Noded.{Noded, place_record, noded, fields_as, WhatIn, RecordIs}
use Rattle.fields.specs.declared.Fields.{Fields}
use Rattle.answer.specs.Ran.{refused_by}
use Rattle.answer.specs.Answered.{AnswersIn}
use Rattle.payload.specs.declared.Answer.{Answer}
use Rattle.run.specs.Dispatch.{noded_run}
use Rattle.run.proofs.Placed.{run_placed}
use Rattle.step.specs.declared.Stepped.{Stepped}
use Rattle.step.specs.Trusted.{held, held_by, Stands, answered, unread, wants, Steps, Leaves}
use Rattle.verdict.specs.Verdict.{verdict_of, place_after}
use Rattle.step.specs.Replies.{Replied, Begun, Begins, Ends}
use Rattle.step.proofs.Reading.{stop_is, Got, got_is, answered_not, unread_not, unread_got, answered_got}
use Rattle.step.proofs.Keeping.{bytes_after, answered_sound, view_arities}
use Rattle.step.proofs.Replying.{declared_in, stands_arities, reply_refused, many_most}

-- what read_record asks
pub reading_arities : {w : List ℕ} {u : Used} {params : List (List ℕ)} → Stands w u params → Arities (view w u).structs
reading_arities {w} {u} {params} s = view_arities w u _ (lent_declares w params u) (stands_arities s)

abbrev gone : Answer → ℕ → Stepped
gone a next = record { number = a.number; len = a.len; next = next }

-- what was read well
record_in : (s : State) (bytes : Bytes) → IsBytes bytes → (x : Record) (l : Bytes) → read_record s bytes ≡ got x l → RecordIn s x × FineRecord (arity s) (taken s) x
record_in s bytes is x l e = go (subst (λ (r : Read Record). ReadWell (Unit {0}) s (length bytes - 1) r) e (well_read (Unit {0}) s bytes (λ y. is)))
  where
    go : {n : ℕ} → ReadWell (Unit {0}) s n (got x l) → RecordIn s x × FineRecord (arity s) (taken s) x
    go (given p i k) = (p.1 tt, p.0)

abbrev WasRead : Type 0
WasRead = std.Result (Option What) Refusal

-- what was read of the state that words and bytes hold
module _ {names : List ℕ} {s : Table} (params : List (List ℕ)) {stream : Bytes} {at : ℕ} {t : Table} {f : Fields} (c : RecordIs names s stream at t f) where
  abbrev here : List Struct
  here = declared_in s.words.now s.used params

  read_is : (p : WasRead) → f.read ≡ p → fields_as names p (seen_in t here) (drop f.next stream) ≡ place_read false place_record (read_record (held_by s params) (drop at stream)) (held_by s params)
  unfolding held
  read_is p e = ap (λ (q : WasRead). fields_as names q (seen_in t here) (drop f.next stream)) (sym e) ∙ c.is here (lent_declares s.words.now params s.used)

  -- the splitter
  rest_is : unread (held_by s params) (drop at stream) ≡ drop (place_after f.read at f.next) stream
  rest_is = go f.read refl
    where
      r : Read Record
      r = read_record (held_by s params) (drop at stream)

      more : (q : Result (State × Noded)) → placed q (drop f.next stream) ≡ place_read false place_record r (held_by s params) → unread (held_by s params) (drop at stream) ≡ drop f.next stream
      more q e = let i = got_is r q (drop f.next stream) (held_by s params) e in unread_got false (held_by s params) (drop at stream) i.what (drop f.next stream) i.read

      none : (x : d.Refusal) → stopped x ≡ place_read false place_record r (held_by s params) → unread (held_by s params) (drop at stream) ≡ drop at stream
      none x e = unread_not false (held_by s params) (drop at stream) x (stop_is r x (held_by s params) e)

      go : (p : WasRead) → f.read ≡ p → unread (held_by s params) (drop at stream) ≡ drop (place_after p at f.next) stream
      go (Ok (Some x)) e = more _ (read_is (Ok (Some x)) e)
      go (Ok None) e = more _ (read_is (Ok None) e)
      go (Err x) e = none _ (read_is (Err x) e)

rest_within : (p : WasRead) (at next n : ℕ) → at ≤ n → next ≤ n → place_after p at next ≤ n
rest_within (Ok o) at next n a b = b
rest_within (Err x) at next n a b = a

pub splits : {names : List ℕ} {s : Table} (params : List (List ℕ)) {stream : Bytes} {t : Table} {f : Fields} → RecordIs names s stream 0 t f → {r : ℕ} → r ≡ place_after f.read 0 f.next → (r ≤ length stream) × (unread (held_by s params) stream ≡ drop r stream)
splits params {stream} {f = f} c e = rw e (rest_within f.read 0 f.next (length stream) (omega arith) c.within, rest_is params c)

-- what is run was placed, and no bytes are left over
pub runs : (p : WasRead) (over : Bool) (x : What) → verdict_of p over ≡ Ok x → (p ≡ Ok (Some x)) × (over ≡ false)
runs (Err y) over x e = absurd (let z : ◌≡◌ {A = ℕ} 0 1 = cc in omega arith)
runs (Ok o) true x e = absurd (let z : ◌≡◌ {A = ℕ} 0 1 = cc in omega arith)
runs (Ok None) false x e = absurd (let z : ◌≡◌ {A = ℕ} 0 1 = cc in omega arith)
runs (Ok (Some y)) false x e = (cc, refl)

-- the words as they were, once the counts are written again
pub words_back : {w : List ℕ} {u : Used} {params : List (List ℕ)} {w₁ : List ℕ} {u₁ : Used} {w₂ : List ℕ} → Stands w u params → u ≡ used_of w → u₁ ≡ u → view w₁ u ≡ view w u → ((ds : List Struct) → Declares w₁ u₁ ds → w₂ ≡ encode (seen w₁ u₁ ds)) → w₂ ≡ w
unfolding words_at tab used_of
words_back {w} {u} {params} {w₁} {u₁} {w₂} s counts back same written =
    let d = lent_declares w params u in
    let ds = declared_in w u params in
    let e : w₂ ≡ encode (seen w₁ u ds) = rw back at (written ds (rw back (declares_still w w₁ u ds same d))) in
    word_for_word w w₁ u ds same d w₂ s.lay (rw counts refl) e

module _ (s : Table) {params : List (List ℕ)} (stream : Bytes) (at : ℕ) (st : Stands s.words.now s.used params) (is : IsBytes stream) where
  abbrev s₀ : State
  s₀ = held_by s params

  abbrev bytes : Bytes
  bytes = drop at stream

  least : 4096 ≤ least_buffer bytes
  unfolding max_payload
  least = others_short bytes

  steps : (whole : Bool) {most : ℕ} {buf : List ℕ} {t : Table} {params' : List (List ℕ)} {buf' : List ℕ} {a : Answer} {r : Stepped} → t.words.ghost_name ≡ s.words.ghost_name
      → Replied most buf t params' buf' a (answered whole s₀ bytes) → most ≤ least_buffer bytes
      → (next : ℕ) → next ≤ length stream → unread s₀ bytes ≡ drop next stream → r ≡ gone a next → Steps whole s params stream at buf t params' buf' r
  steps whole {t = t} name p m next le rest e =
      rw e (record {
        same = name;
        stands = record { lay = t.lay; bytes = p.bytes; is_sound = ap (λ (x : step.Answer). sound x.state) (sym p.is) ∙ answered_sound whole s₀ bytes (bytes_after at stream is) st.is_sound };
        few = omega (arith, p.few, m);
        buffer = p.rest;
        within = le;
        is = p.is;
        rest = rest;
      })

  -- the counts `entry` and the rows were saved, and the record is read
  module _ (entry : Used) (rows : List ℕ) {names : List ℕ} {t₁ : Table} {f : Fields} (counts : entry ≡ s.used) (all : s.saved ≡ s.used.vars) (kept : Saved s.words.now s.used rows) (c : RecordIs names s stream at t₁ f) where
    abbrev ds : List Struct
    ds = declared_in s.words.now s.used params

    entered : Stands s.words.now entry params
    entered = rw counts st

    structs : (tables t₁).structs ≡ (view s.words.now entry).structs
    structs = rw counts c.structs

    pub grown : (b : Before) → b.used ≡ entry → b.saved.now ≡ rows → GrownFrom s.words.now b t₁
    grown b p q = grown_on s.words.now b s t₁ (grown_now b s (p ∙ counts) all (rw q kept)) c.same c.grown

    refused_by_x : (whole : Bool) (x : d.Refusal) {b : Before} {t : Table} {a : Answer} {buf : List ℕ} → AnswersIn s.words.now b t₁ t buf buf a (refused_by x) → b.used ≡ entry → answered whole s₀ bytes ≡ refusal s₀ x
        → Replied 4096 buf t params buf a (answered whole s₀ bytes)
    refused_by_x whole x g p e = rw e (rw counts at (reply_refused x entered structs g p))

    many : t₁.saved ≡ entry.vars
    many = c.same.saved ∙ all ∙ ap (λ (u : Used). u.vars) (sym counts)

    since_now : Since s.words.now entry (record { words = rows; touched = t₁.touched }) t₁.words.now t₁.used
    since_now = rw counts (record {
      lay = s.lay;
      kept = kept;
      grown = c.grown;
      stay = λ v p q f. (c.same.rows v p (rw all q) f).1;
    })

    -- reading stopped
    stopped_by : (whole : Bool) (x : d.Refusal) → stopped x ≡ place_read false place_record (read_record s₀ bytes) s₀ → answered whole s₀ bytes ≡ refusal s₀ x
    stopped_by whole x e = answered_not whole s₀ bytes x (stop_is (read_record s₀ bytes) x s₀ e)

    -- there is no space
    full_read : f.read ≡ Ok None → Got (read_record s₀ bytes) (refused full) (drop f.next stream) s₀
    full_read e = got_is (read_record s₀ bytes) (refused full) (drop f.next stream) s₀ (read_is params c (Ok None) e)

    full_reply : (i : Got (read_record s₀ bytes) (refused full) (drop f.next stream) s₀) → reply s₀ i.what ≡ refusal s₀ full
    unfolding reply answer_within ◌>>=◌
    full_reply i =
        ap (λ (m : Result (State × Bytes)). answer_within (most_of (apart i.what)) (tail_of s₀ (apart i.what)) s₀ m) (run_placed s₀ i.what ∙ ap (λ (m : Result (State × Noded)). m >>= (λ q. noded_run q.1 q.0 s₀)) i.placed)

    -- the answer, the words and the place where the stream goes on are the step's
    leaves : (whole : Bool) → at ≤ length stream → {next : ℕ} → next ≡ place_after f.read at f.next
        → {most : ℕ} {buf : List ℕ} {t : Table} {params' : List (List ℕ)} {buf' : List ℕ} {a : Answer} {r : Stepped} → t.words.ghost_name ≡ t₁.words.ghost_name
        → Replied most buf t params' buf' a (answered whole s₀ bytes) → most ≤ least_buffer bytes → r ≡ gone a next → Steps whole s params stream at buf t params' buf' r
    leaves whole le {next} n name p m e =
        steps whole (name ∙ c.same.name) p m next (rw n (rest_within f.read at f.next (length stream) le c.within)) (rest_is params c ∙ ap (λ (k : ℕ). drop k stream) (sym n)) e

    module _ (whole over : Bool) (o : over ≡ whole && ltb f.next (length stream)) where
      abbrev ReadAs : Result (State × Noded) → Type 0
      ReadAs q = Got (read_record s₀ bytes) q (drop f.next stream) s₀

      -- what a record that was read is answered with, by what placing it came to
      told_placed : {q : Result (State × Noded)} (i : ReadAs q) (b : Bool) → over ≡ b → answered whole s₀ bytes ≡ (if b then refusal s₀ malformed else reply s₀ i.what)
      told_placed i b e = answered_got whole s₀ bytes i.what stream f.next i.read over o ∙ ap (λ (x : Bool). if x then refusal s₀ malformed else reply s₀ i.what) e

      -- what the record is refused for
      why_refused : (p : WasRead) → f.read ≡ p → (b : Bool) → over ≡ b → (x : Refusal) → verdict_of p b ≡ Err x → answered whole s₀ bytes ≡ refusal s₀ (refusal_of x)
      why_refused (Err y) e b d x n =
          let z : y ≡ x = cc in
          subst (λ (x : Refusal). answered whole s₀ bytes ≡ refusal s₀ (refusal_of x)) z (stopped_by whole (refusal_of y) (read_is params c (Err y) e))
      why_refused (Ok None) e true d x n =
          let z : Malformed ≡ x = cc in
          subst (λ (x : Refusal). answered whole s₀ bytes ≡ refusal s₀ (refusal_of x)) z (told_placed (full_read e) true d)
      why_refused (Ok (Some v)) e true d x n =
          let z : Malformed ≡ x = cc in
          subst (λ (x : Refusal). answered whole s₀ bytes ≡ refusal s₀ (refusal_of x)) z (told_placed (got_is (read_record s₀ bytes) _ (drop f.next stream) s₀ (read_is params c (Ok (Some v)) e)) true d)
      why_refused (Ok None) e false d x n =
          let z : Full ≡ x = cc in
          subst (λ (x : Refusal). answered whole s₀ bytes ≡ refusal s₀ (refusal_of x)) z (told_placed (full_read e) false d ∙ full_reply (full_read e))
      why_refused (Ok (Some v)) e false d x n = absurd (let z : ◌≡◌ {A = ℕ} 0 1 = cc in omega arith)

      pub steps_refused : at ≤ length stream → {next : ℕ} → next ≡ place_after f.read at f.next → {x : Refusal} → verdict_of f.read over ≡ Err x
          → {b : Before} {t : Table} {a : Answer} {buf : List ℕ} → AnswersIn s.words.now b t₁ t buf buf a (refused_by (refusal_of x)) → b.used ≡ entry → {r : Stepped} → r ≡ gone a next → Leaves whole s params stream at buf t params buf r rows
      steps_refused le {next} n {x} e g p i =
          let told = why_refused f.read refl over refl x e in
          (leaves whole le n g.same.name (refused_by_x whole (refusal_of x) g p told) least i, noted_since many since_now g.same)

      module _ (what : What) (e : f.read ≡ Ok (Some what)) where
        abbrev n : Noded
        n = noded names what

        at_node : ReadAs (ok (seen_in t₁ ds, n))
        at_node = got_is (read_record s₀ bytes) (ok (seen_in t₁ ds, n)) (drop f.next stream) s₀ (read_is params c (Ok (Some what)) e)

        read_well : RecordIn s₀ at_node.what × FineRecord (arity s₀) (taken s₀) at_node.what
        read_well = record_in s₀ bytes (bytes_after at stream is) _ _ at_node.read

        begun : Begun s.words.now entry rows params t₁ at_node.what n
        begun = record {
          stands = entered;
          saved = many;
          since = since_now;
          structs = structs;
          fields = subst (λ (u : Used). RecordIn (held s.words.now u params) at_node.what) (sym counts) read_well.0;
          names = subst (λ (u : Used). FineRecord (arity (held s.words.now u params)) (taken (held s.words.now u params)) at_node.what) (sym counts) read_well.1;
          placed = subst (λ (u : Used). place_record at_node.what (held s.words.now u params) ≡ ok (seen t₁.words.now t₁.used (structs_of s.words.now params u.structs), n)) (sym counts) at_node.placed;
        }

        pub begins : Begins s.words.now entry rows params t₁ n
        begins = record { what = at_node.what; from = begun }

        most : most_of (apart at_node.what) ≤ least_buffer bytes
        most = most_read s₀ bytes at_node.what (drop f.next stream) at_node.read

        -- what is read, and what its answer wants
        pub placed_in : {m : ℕ} → least_buffer bytes ≤ m → WhatIn names t₁.used.nodes what × (wants what ≤ m)
        placed_in {m} l = (subst (λ (p : WasRead). PlacedSo p (WhatIn names t₁.used.nodes)) e c.inside, enough what at_node.placed)
          where
            enough : (w : What) → place_record at_node.what s₀ ≡ ok (seen_in t₁ ds, noded names w) → wants w ≤ m
            enough (q.SD abilities ps) h = omega (arith, l, least)
            enough q.SV h = omega (arith, l, least)
            enough (q.XP t) h = omega (arith, l, least)
            enough (q.MJ k) h = omega (arith, l, most, many_most at_node.what _ _ _ h)
            enough (q.KP k) h = omega (arith, l, least)
            enough (q.Bind x) h = omega (arith, l, least)
            enough (q.Look x) h = omega (arith, l, least)
            enough (q.Add x) h = omega (arith, l, least)

        pub steps_run : over ≡ false → at ≤ length stream → {next : ℕ} → next ≡ place_after f.read at f.next
            → {buf : List ℕ} {t : Table} {params' : List (List ℕ)} {rows' buf' : List ℕ} {a : Answer} → Ends s.words.now entry rows params t₁ n buf t params' rows' buf' a
            → {r : Stepped} → r ≡ gone a next → Leaves whole s params stream at buf t params' buf' r rows'
        steps_run fits le is_next {buf} {t} {params'} {rows'} {buf'} {a} g i =
            let z = subst (λ (u : Used). Replied (most_of (apart at_node.what)) buf t params' buf' a (reply (held s.words.now u params) at_node.what)) counts (g.is at_node.what begun) in
            let p : Replied (most_of (apart at_node.what)) buf t params' buf' a (answered whole s₀ bytes) = rw (told_placed at_node false fits) z in
            (leaves whole le is_next g.name p most i, g.noted)

-- From what was run to its answer, in the state and the parameter bytes. Assumes nothing.
use mathlib.Core.Path.{◌≡◌, refl, sym, ap, ap₂, ◌∙◌, subst}
use mathlib.Core.Bool.{Bool, true, false}
use mathlib.Core.List.{List, [], ◌++◌}
use Prim.Native.Nat.{ℕ, ◌≤◌, ◌<◌}
use native.Mathlib.Omega.{arith}
use lib.ListN.{length, get_or, take, drop, length-take}
use lib.Seq.{get_or-take}
use Rattle.std.specs.Prelude.{if◌then◌else◌, Option, Ok, Err}
use Rattle.std.specs.Result.{result_ok}
use Rattle.std.specs.Prelude as core
use Rattle.definition.specs.Types as d
use Rattle.definition.specs.Types.{TypeName, Places, State, Struct, Refusal, max_nodes, max_args, Result, ok, err, refused, ◌>>=◌}
use Rattle.definition.specs.Store.{taken, node, type_at, with_args, with_structs}
use Rattle.definition.specs.Write.{Bytes}
use Rattle.definition.specs.Trees.{Tree, arity}
use Rattle.definition.specs.Build.{build}
use Rattle.definition.specs.Expand.{Expanded, expand_type}
use Rattle.definition.specs.Keep.{reach, cleared, survivors}
use Rattle.definition.specs.Record as record_of
use Rattle.definition.specs.Record.{Record}
use Rattle.definition.specs.Sound.{sound}
use Rattle.definition.specs.Step as step
use Rattle.definition.specs.Step.{max_payload, answer_within, answer, refusal, run_pairs, most_of, apart, max_many, reply}
use Rattle.theorems.specs.ReadySpelled.{Spelling, Located, Canonical, spelled_record, spell_ready, with_state}
use Rattle.theorems.proofs.DemandTracks.{never}
use Rattle.theorems.proofs.DemandOrder.{Sound}
use Rattle.theorems.proofs.DemandWent.{WentTo}
use Rattle.theorems.proofs.DemandRuns.{place_went}
use Rattle.theorems.proofs.LawsPost.{Post, p_ok}
use Rattle.theorems.proofs.SoundFacts.{facts}
use Rattle.theorems.proofs.SoundRead.{Fine, FineRecord}
use Rattle.theorems.proofs.ReadyTold.{Fits, record_spells}
use Rattle.theorems.proofs.ManyPairs.{many_replies}
use Rattle.theorems.proofs.TotalFinite.{all_at}
use Rattle.theorems.proofs.KeepLists.{mem_at}
use Rattle.theorems.proofs.KeepRanges.{KP_answers}
use Rattle.theorems.proofs.SoundRanges.{Ranges, StructIn}
use Rattle.theorems.proofs.SoundKept.{ranges_of}
use Rattle.table.specs.State.{outcome, done, more, view, seen, Grown, FoundIn, Declares}
use Rattle.table.specs.Known as known
use Rattle.table.specs.Known.{Known}
use Rattle.table.specs.Did.{held as seen_in, tables, Linked}
use Rattle.table.specs.declared.Used.{Used}
use Rattle.table.specs.declared.state.State.{State as Table}
use Rattle.table.specs.declared.state.Stop.{Stop}
use Rattle.table.specs.declared.state.Stop.TheVariants.{Failed, Refused}
use Rattle.answer.proofs.Growing.{grown_on}
use Rattle.table.proofs.Pushed.{count_seen, args_seen, taken_seen}
use Rattle.snapshot.specs.Snap.{Saved}
use Rattle.snapshot.specs.Noted.{Noted}
use Rattle.table.specs.Touched.{Untouched}
use Rattle.table.specs.declared.Touched.{Touched}
use Rattle.many.specs.Turns.{InRange, ManyAnswered}
use Rattle.snapshot.specs.Back.{GrownFrom}
use Rattle.snapshot.specs.declared.before.Before.{Before}
use Rattle.sound.specs.Lent.{structs_of, encode_params}
use Rattle.sound.proofs.Lays.{lent_declares}
use Rattle.reader.proofs.Loop.{declares_kept}
use Rattle.heads.specs.Fields.{Arities}
use Rattle.definition.specs.Join.{TypingCase}
use Rattle.fields.specs.Noded.{place_record, ready, looks, Run, Noded, declare, solve, expand, many, many_at, keep, run, Shape}
use Rattle.writer.specs.Bytes.{AllBytes}
use Rattle.canonical.specs.Named.{Numbered, AllNumbered}
use Rattle.answer.specs.Ran.{ran, Tells, Settles, Still, answered, refused_by, told_by, spelled_by}
use Rattle.answer.specs.Answered.{AnswersIn}
use Rattle.answer.specs.declared.Ran.{Ran}
use Rattle.payload.specs.declared.Answer.{Answer}
use Rattle.run.specs.Runs.{Declared, with_row}
use Rattle.run.proofs.Bytes.{in_words, declare_bytes}
use Rattle.payload.specs.Payload.{tail_bytes}
use Rattle.payload.proofs.Payload.{wrote_payload, wrote_rest}
use Rattle.run.specs.Dispatch.{noded_run, step_of, tail_of, RanAs}
use Rattle.run.proofs.Placed.{ShapeIn, shape_in, run_placed}
use Rattle.run.proofs.PlacedBytes as noded
use Rattle.run.proofs.Inside.{known_structs}
use Rattle.expand.specs.Told.{expanded_bytes}
use Rattle.solve.specs.Solves.{HoldsSound, solve_answer, Solves}
use Rattle.fields.specs.declared.What.{What}
use Rattle.fields.specs.declared.What.TheVariants as q
use Rattle.step.specs.Trusted.{held, Stands, wants}
use Rattle.verdict.specs.Verdict.{row_for, padded}
use Rattle.keep.specs.Keeps.{AsSound}
use Rattle.step.specs.Replies.{Replied, Begun, KeptBy}
use Rattle.step.proofs.Rows.{rows_of, rows_seen, held_known, known_rows, row_in, row_kept, arities_kept}
use Rattle.step.proofs.Placing.{is_many, placed_SD, placed_SV, OfTree, OfTrees, placed_spelled, placed_expanded, placed_pairs, placed_kept, placed_tree, placed_most, placed_tail, tail_after}
use Rattle.step.proofs.Standing.{Leaves, leaves_ok, place_leaves, unkept_leaves}
use Rattle.step.proofs.Keeping.{sound_arities, saved_still}

-- declarations are those of the struct rows, which stay
pub declares_stay : (w : List ℕ) (u : Used) (s : Table) (ds : List Struct) → (tables s).structs ≡ (view w u).structs → Declares w u ds → Declares s.words.now s.used ds
declares_stay w u s ds e d = declares_kept w u s.words.now s.used ds e d

-- ---- any answer

-- with the declarations that are left
replied_with : {t : Table} {buf' : List ℕ} {r : Answer} (most : ℕ) (left : List Struct) → Declares t.words.now t.used left → (params' : List (List ℕ)) → Arities left → params' ≡ rows_of left
    → (buf : List ℕ) → r.len ≤ most → buf' ≡ take r.len buf' ++ drop r.len buf
    → (a : step.Answer) → a ≡ record { number = r.number; payload = take r.len buf'; state = seen_in t left } → Replied most buf t params' buf' r a
replied_with {t} {buf'} {r} most left d params' short e buf few rest a q =
    let h = held_known t.words.now t.used params' left (known_rows t.words.now t.used params' left d t.lay.structs short e) in
    record {
      bytes = e ∙ sym (rows_seen t.words.now t.used left) ∙ ap encode_params (sym h);
      few = few;
      rest = rest;
      is = q ∙ ap (λ (x : State). record { number = r.number; payload = take r.len buf'; state = x }) (sym h);
    }

same_either : (b : Bool) (ds : List Struct) → ds ≡ (if b then ds else ds)
same_either true ds = refl
same_either false ds = refl

-- by counts that are those at entry
module _ {w₀ : List ℕ} {b : Before} {s t : Table} {buf buf' : List ℕ} {r : Answer} {f : State → State → step.Answer} (a : AnswersIn w₀ b s t buf buf' r f) (entry : Used) (counts : b.used ≡ entry) where
  replied : (ds₀ ds : List Struct) → Declares w₀ entry ds₀ → Declares s.words.now s.used ds → (params' : List (List ℕ)) → Arities (if r.kept then ds else ds₀) → params' ≡ rows_of (if r.kept then ds else ds₀)
      → (x : step.Answer) → x ≡ f (seen_in s ds) (seen w₀ entry ds₀) → Replied 4096 buf t params' buf' r x
  replied ds₀ ds d₀ d params' short e x q = replied_with 4096 (if r.kept then ds else ds₀) (a.declares ds₀ ds (rw counts d₀) d) params' short e buf a.few a.rest x (q ∙ ap (λ (u : Used). f (seen_in s ds) (seen w₀ u ds₀)) (sym counts) ∙ a.is ds₀ ds)

  -- where nothing is declared
  replied_same : (ds : List Struct) → Declares w₀ entry ds → Declares s.words.now s.used ds → (params : List (List ℕ)) → Arities ds → params ≡ rows_of ds
      → (x : step.Answer) → x ≡ f (seen_in s ds) (seen w₀ entry ds) → Replied 4096 buf t params buf' r x
  replied_same ds d₀ d params short e x q =
      let same = same_either r.kept ds in
      replied ds ds d₀ d params (subst Arities same short) (e ∙ ap rows_of same) x q

-- ---- a sound state's declarations

abbrev pub declared_in : List ℕ → Used → List (List ℕ) → List Struct
declared_in w u params = structs_of w params u.structs

module _ {w : List ℕ} {u : Used} {params : List (List ℕ)} (s : Stands w u params) where
  stands_rows : params ≡ rows_of (declared_in w u params)
  unfolding held
  stands_rows = s.bytes ∙ rows_seen w u (declared_in w u params)

  pub stands_arities : Arities (declared_in w u params)
  unfolding held seen with_structs
  stands_arities = sound_arities (held w u params) s.is_sound

-- a refusal
pub reply_refused : {w₀ : List ℕ} {b : Before} {entry : Used} {params : List (List ℕ)} {s t : Table} {buf buf' : List ℕ} {r : Answer} (x : Refusal) → Stands w₀ entry params → (tables s).structs ≡ (view w₀ entry).structs
    → AnswersIn w₀ b s t buf buf' r (refused_by x) → b.used ≡ entry → Replied 4096 buf t params buf' r (refusal (held w₀ entry params) x)
unfolding held
reply_refused {w₀} {entry = entry} {params} {s} x st e a p =
    let d = lent_declares w₀ params entry in
    replied_same a entry p (declared_in w₀ entry params) d (declares_stay w₀ entry s _ e d) params (stands_arities st) (stands_rows st) _ refl

-- ---- what was placed is run

module _ {w₀ : List ℕ} {entry : Used} {rows : List ℕ} {params : List (List ℕ)} {s : Table} {x : Record} {n : Noded} (b : Begun w₀ entry rows params s x n) where
  abbrev ds : List Struct
  ds = declared_in w₀ entry params

  abbrev s₀ : State
  s₀ = held w₀ entry params

  run_is : step.run s₀ x ≡ noded_run n (seen_in s ds) s₀
  unfolding ◌>>=◌
  run_is = run_placed s₀ x ∙ ap (λ (m : Result (State × Noded)). m >>= (λ q. noded_run q.1 q.0 s₀)) b.placed

  then_declares : Declares s.words.now s.used ds
  then_declares = declares_stay w₀ entry s ds b.structs (lent_declares w₀ params entry)

  then_known : Known s.words.now s.used params ds
  then_known = record { rows = then_declares; bytes = (known_structs w₀ entry params).bytes }

  pub begun_grown : (bf : Before) → bf.used ≡ entry → bf.saved.now ≡ rows → GrownFrom w₀ bf s
  begun_grown bf p q = record { many = rw p b.saved; since = rw (p, q) b.since }

  pub then_grown : (bf : Before) → bf.used ≡ entry → bf.saved.now ≡ rows → (t : Table) → Linked s t → Grown (tables s) (tables t) → GrownFrom w₀ bf t
  then_grown bf p q t l g = grown_on w₀ bf s t (begun_grown bf p q) l g

  in_range : Ranges s₀ s₀
  in_range = ranges_of s₀ b.stands.is_sound

  -- placing takes nodes alone
  vars_placed : (tables s).vars ≡ (view w₀ entry).vars
  unfolding held seen with_structs
  vars_placed = leaves_ok (subst (Leaves (λ v. v ≡ s₀.vars)) b.placed (place_leaves x s₀ refl))

  still_placed : Still s.words.now s.used entry rows
  still_placed = saved_still w₀ entry s b.since.lay vars_placed rows b.since.kept

  bytes_placed : AllBytes (tables s)
  unfolding held
  bytes_placed = in_words s₀ s.words.now s.used ds (noded.placed_in s₀ in_range x b.fields _ _ b.placed)

  -- a record that is answered in 4,096 bytes, by what stands behind what it shows
  pub as_one : is_many n ≡ 0 → {t : Table} {params' : List (List ℕ)} {buf buf' : List ℕ} {r : Answer} → Replied 4096 buf t params' buf' r (answer_within 4096 (tail_after n (seen_in s ds)) s₀ (step.run s₀ x)) → Replied (most_of (apart x)) buf t params' buf' r (reply s₀ x)
  unfolding reply max_payload
  as_one l z = rw (placed_most _ _ n l x b.placed, placed_tail _ _ n x b.placed) z

  -- .. nothing
  pub as_other : is_many n ≡ 0 → [] ≡ tail_after n (seen_in s ds) → {t : Table} {params' : List (List ℕ)} {buf buf' : List ℕ} {r : Answer} → Replied 4096 buf t params' buf' r (answer s₀ (step.run s₀ x)) → Replied (most_of (apart x)) buf t params' buf' r (reply s₀ x)
  unfolding answer max_payload
  as_other l q z = as_one l (rw (← q) z)

-- by any mark but SD and SV
module _ {w₀ : List ℕ} {entry : Used} {rows : List ℕ} {params : List (List ℕ)} {s : Table} {x : Record} {n : Run} (b : Begun w₀ entry rows params s x (run n)) where
  module _ {t : Table} {r₁ : Ran} (c : RanAs (Known s.words.now s.used params) s t r₁ n) where
    pub run_bytes : Settles r₁.result → AllBytes (tables t)
    unfolding held
    run_bytes h = noded.run_bytes (ds b) (then_known b) (s₀ b) (in_range b) x b.fields n c b.placed h

    -- a success whose state is not kept has bound and marked nothing
    pub run_still : (ty : ℕ) → r₁.result ≡ Ok ty → r₁.kept ≡ false → Still t.words.now t.used entry rows
    unfolding held seen with_structs outcome
    run_still ty e q =
        let left : ok (seen_in t (ds b), ty) ≡ step_of r₁ n (seen_in s (ds b)) = sym (ap (λ (o : core.Result ℕ Stop). outcome o (seen_in t (ds b))) e) ∙ c.left.step.is (ds b) (then_known b) in
        saved_still w₀ entry t b.since.lay (leaves_ok (subst (Leaves (λ v. v ≡ (s₀ b).vars)) (sym left) (unkept_leaves r₁ n (seen_in s (ds b)) (sym c.kept_is ∙ q) (vars_placed b)))) rows b.since.kept

    pub reply_run : {bf : Before} {t' : Table} {buf buf' : List ℕ} {r : Answer} → AnswersIn w₀ bf t t' buf buf' r (answered r₁) → bf.used ≡ entry → Replied 4096 buf t' params buf' r (answer_within 4096 (tail_of n (seen_in s (ds b))) (s₀ b) (step.run (s₀ b) x))
    unfolding held noded_run max_payload
    reply_run a p =
        replied_same a entry p (ds b) (lent_declares w₀ params entry) (declares_stay s.words.now s.used t (ds b) c.left.step.structs (then_declares b)) params
        (stands_arities b.stands) (stands_rows b.stands) _ (ap₂ (λ (l : Bytes) (m : Result (State × Bytes)). answer_within 4096 l (s₀ b) m) (sym (c.tail_is (ds b))) (run_is b ∙ sym (c.is (ds b) (then_known b) (s₀ b))))

-- t and r are what the run of n leaves
pub record WasRun (params : List (List ℕ)) (s t : Table) (r : Ran) (n : Noded) : Type 0 where
  pub what : Run
  pub is : n ≡ run what
  pub ran : RanAs (Known s.words.now s.used params) s t r what

module _ {w₀ : List ℕ} {entry : Used} {rows : List ℕ} {params : List (List ℕ)} {s t : Table} {r₁ : Ran} {x : Record} {n : Noded} (b : Begun w₀ entry rows params s x n) (k : WasRun params s t r₁ n) where
  begun_run : Begun w₀ entry rows params s x (run k.what)
  begun_run = rw (← k.is) b

  -- what settle asks
  pub run_settles : (bf : Before) → bf.used ≡ entry → bf.saved.now ≡ rows → (buf : List ℕ) → 4096 ≤ length buf
      → GrownFrom w₀ bf t × ((Tells t.used r₁.show r₁.result × ((Settles r₁.result → AllBytes (tables t)) × (4096 ≤ length buf))) × ((ty : ℕ) → r₁.result ≡ Ok ty → r₁.kept ≡ false → Still t.words.now t.used bf.used bf.saved.now))
  run_settles bf p q buf l = (then_grown b bf p q t k.ran.left.same k.ran.left.step.grown, ((k.ran.tells, (run_bytes begun_run k.ran, l)), rw (p, q) (run_still begun_run k.ran)))

  pub reply_ran : {bf : Before} {t' : Table} {buf buf' : List ℕ} {a : Answer} → AnswersIn w₀ bf t t' buf buf' a (answered r₁) → bf.used ≡ entry → Replied (most_of (apart x)) buf t' params buf' a (reply (held w₀ entry params) x)
  reply_ran a p = as_one begun_run refl (reply_run begun_run k.ran a p)

-- ---- RD and CN

-- a tree of a sound state that is placed leaves one
placed_sound : (S : State) → sound S ≡ true → (t : Tree) → Fine (arity S) (taken S) t → (S' : State) (ty : ℕ) → build t S ≡ ok (S', ty) → Sound (arity S) S'
placed_sound S h t f S' ty e = go (build t S) e (place_went f (facts S h) (omega arith))
  where
    go : (m : Result (State × ℕ)) → m ≡ ok (S', ty) → Post (arity S) S (WentTo (arity S) S) m → Sound (arity S) S'
    go (ok x) q (p_ok g w) = subst (λ (m : Result (State × ℕ)). Sound (arity S) (elim m [ ok y ↦ y.0 | err z e ↦ z | refused y ↦ S ])) q w.sound
    go (err z y) q r = never (cc)
    go (refused y) q r = never (cc)

fine_tree : {ar : TypeName → ℕ} {vars : ℕ} (how : Spelling) (t : Tree) → FineRecord ar vars (spelled_record how t) → Fine ar vars t
fine_tree Located t f = f
fine_tree Canonical t f = f

numbered_if : (s : State) (x : d.Shape Places) → ((v : ℕ) → with_args s x ≡ d.Var v → v < 1024) → Numbered x
unfolding with_args
numbered_if s d.UnitType h = tt
numbered_if s (d.Ref m t) h = tt
numbered_if s (d.Param id a) h = tt
numbered_if s (d.Apply k n p) h = tt
numbered_if s (d.Var v) h = h v refl
numbered_if s d.Anything h = tt
numbered_if s d.UnresolvedError h = tt

module _ {w₀ : List ℕ} {entry : Used} {rows : List ℕ} {params : List (List ℕ)} {s : Table} {x : Record} {how : Spelling} {ty : ℕ} (b : Begun w₀ entry rows params s x (run (looks (ready how ty)))) where
  from_tree : OfTree (s₀ b) (seen_in s (ds b)) (spelled_record how) ty x
  from_tree = elim (placed_tree _ _ (run (looks (ready how ty))) (omega arith) x b.placed) [ placed_spelled o ↦ o ]

  fine : Fine (arity (s₀ b)) (taken (s₀ b)) from_tree.tree
  fine = fine_tree how from_tree.tree (subst (λ (y : Record). FineRecord (arity (s₀ b)) (taken (s₀ b)) y) from_tree.is b.names)

  -- there are no more variables than the table of numbers has places
  numbered_placed : AllNumbered (tables s)
  unfolding AllNumbered node type_at seen with_structs
  numbered_placed t h =
      let S = seen_in s (ds b) in
      let q = placed_sound (s₀ b) b.stands.is_sound from_tree.tree fine S ty from_tree.placed in
      numbered_if S (node S t).value (λ v e. omega (arith, q.var_in t v h e, taken_seen s.words.now s.used (ds b), s.lay.vars))

  -- what settle_ready asks
  pub ready_settles : (bf : Before) → bf.used ≡ entry → bf.saved.now ≡ rows → (buf : List ℕ) → 4096 ≤ length buf → ty < s.used.nodes
      → GrownFrom w₀ bf s × (((ty < s.used.nodes) × ((AllBytes (tables s) × AllNumbered (tables s)) × (4096 ≤ length buf))) × Still s.words.now s.used bf.used bf.saved.now)
  ready_settles bf p q buf l i = (begun_grown b bf p q, ((i, ((bytes_placed b, numbered_placed), l)), rw (p, q) (still_placed b)))

  -- the words hold no more than fits
  fits_placed : Fits (seen_in s (ds b)) 0 0
  unfolding max_nodes max_args
  fits_placed = (omega (arith, s.lay.nodes, count_seen s.words.now s.used (ds b)), omega (arith, s.lay.args, args_seen s.words.now s.used (ds b)))

  told_placed : step.run (s₀ b) x ≡ with_state (s₀ b) (spell_ready how (seen_in s (ds b)) ty)
  told_placed = ap (λ (y : Record). step.run (s₀ b) y) from_tree.is ∙ record_spells how (s₀ b) b.stands.is_sound from_tree.tree fine (seen_in s (ds b)) ty from_tree.placed fits_placed

  pub reply_ready : {bf : Before} {t : Table} {buf buf' : List ℕ} {r : Answer} → AnswersIn w₀ bf s t buf buf' r (spelled_by how ty) → bf.used ≡ entry → Replied 4096 buf t params buf' r (answer (held w₀ entry params) (step.run (held w₀ entry params) x))
  unfolding held
  reply_ready a p = replied_same a entry p (ds b) (lent_declares w₀ params entry) (then_declares b) params (stands_arities b.stands) (stands_rows b.stands) _ (ap (answer (s₀ b)) told_placed)

-- ---- SD

-- its number, as the code asks for it
pub ok_done : (r : core.Result ℕ Stop) → result_ok r ≡ done r
ok_done (Ok n) = refl
ok_done (Err (Failed e)) = refl
ok_done (Err (Refused x)) = refl

module _ {w₀ : List ℕ} {entry : Used} {rows : List ℕ} {params : List (List ℕ)} {s : Table} {x : Record} {abilities : ℕ} {ps : List ℕ} (b : Begun w₀ entry rows params s x (declare abilities ps)) where
  abbrev new : Struct
  new = record { abilities = abilities; params = ps }

  struct_in : StructIn new
  struct_in = subst (λ (h : Shape). ShapeIn (held w₀ entry params) h) (placed_SD x _ _ abilities ps b.placed).0 (shape_in _ x b.fields)

  module _ {t : Table} {r₁ : Ran} {many : ℕ} (c : Declared s t r₁ abilities many) where
    pub declared_bytes : Settles r₁.result → AllBytes (tables t)
    declared_bytes h =
        let e = (placed_SD x _ _ abilities ps b.placed).1 in
        declare_bytes c (ds b) (then_declares b).many (subst (λ (s : State). Ranges s s) (sym e) (in_range b)) ps struct_in h

    abbrev with_new : List Struct
    with_new = more (done r₁.result) (ds b) new

    then_more : length ps ≡ many → Declares t.words.now t.used with_new
    then_more l = c.declares (ds b) ps (then_declares b) l

    pub few_more : length ps ≡ many → length with_new ≤ 256
    few_more l = omega (arith, (then_more l).many, t.lay.structs)

    pub many_before : length (ds b) ≡ s.used.structs
    many_before = (then_declares b).many

-- with these bytes, and the row n of the struct's number f, if it has one
module _ {w₀ : List ℕ} {entry : Used} {rows : List ℕ} {params : List (List ℕ)} {s : Table} {x : Record} {abilities : ℕ} (many : ℕ) (bytes : List ℕ) (b : Begun w₀ entry rows params s x (declare abilities (take many bytes)))
    {t : Table} {r₁ : Ran} (c : Declared s t r₁ abilities many) (long : length bytes ≡ 8) (few : many ≤ 8) (f n : Option ℕ) (kept : Bool) (is_f : f ≡ done r₁.result) (is_n : n ≡ row_for f kept s.used.structs) where
  as_long : length (take many bytes) ≡ many
  as_long = simp length-take (omega (arith, long, few))

  number : Option ℕ
  number = done r₁.result

  is_row : n ≡ row_for number kept s.used.structs
  unfolding number
  is_row = is_n ∙ ap (λ (g : Option ℕ). row_for g kept s.used.structs) is_f

  pub declared_row : FoundIn 256 n
  unfolding number
  declared_row = subst (λ (m : Option ℕ). FoundIn 256 m) (sym is_row) (row_in number kept (ds b) abilities many bytes s.used.structs (many_before b c) (few_more b c as_long))

  pub reply_declared : {bf : Before} {t' : Table} {buf buf' : List ℕ} {r : Answer} → AnswersIn w₀ bf t t' buf buf' r (answered r₁) → bf.used ≡ entry → r.kept ≡ kept
      → (row : List ℕ) → row ≡ padded bytes many → (params' : List (List ℕ)) → params' ≡ with_row n params row → Replied 4096 buf t' params' buf' r (answer (held w₀ entry params) (step.run (held w₀ entry params) x))
  unfolding held noded_run number answer
  reply_declared {r = r} a counts k row is_padded params' p =
      let q : params' ≡ with_row (row_for number r.kept s.used.structs) params (padded bytes many) = p ∙ ap₂ (λ (m : Option ℕ) (l : List ℕ). with_row m params l) (is_row ∙ ap (λ (y : Bool). row_for number y s.used.structs) (sym k)) is_padded in
      replied a entry counts (ds b) (with_new b c) (lent_declares w₀ params entry) (then_more b c as_long) params'
      (arities_kept number r.kept (ds b) abilities many bytes (stands_arities b.stands) (omega (arith, as_long, few)))
      (q ∙ row_kept number r.kept (ds b) abilities many bytes s.used.structs params (many_before b c) (few_more b c as_long) (stands_rows b.stands))
      _ (ap (answer (s₀ b)) (run_is b ∙ sym (c.is (ds b) (take many bytes) (many_before b c) (s₀ b))) ∙ ap (λ (y : Option ℕ). answer_within max_payload (tail_bytes y) (s₀ b) (ran r₁ (seen_in t (with_new b c)) (s₀ b))) (sym c.tail_is))

-- ---- SV

module _ {w₀ : List ℕ} {entry : Used} {rows : List ℕ} {params : List (List ℕ)} {s : Table} {x : Record} (b : Begun w₀ entry rows params s x solve) where
  still : seen_in s (ds b) ≡ s₀ b
  still = placed_SV x _ _ b.placed

  pub solve_sound : HoldsSound s params
  solve_sound = record { structs = ds b; is_sound = ap sound still ∙ b.stands.is_sound; known = then_known b }

  pub solve_saved : (s.saved ≡ s.used.vars) × Saved s.words.now s.used rows
  solve_saved = let k = still_placed b in (b.saved ∙ sym k.many, k.rows)

  pub reply_solved : {t : Table} {buf buf' : List ℕ} {r : Answer} → Solves s params t buf buf' r → Replied 4096 buf t params buf' r (answer (held w₀ entry params) (step.run (held w₀ entry params) x))
  unfolding noded_run solve_answer
  reply_solved {buf = buf} {r = r} c =
      let same = same_either r.kept (ds b) in
      replied_with 4096 (if r.kept then ds b else ds b) (c.declares (ds b) (ds b) (then_declares b) (then_declares b)) params
      (subst Arities same (stands_arities b.stands)) (stands_rows b.stands ∙ ap rows_of same) buf c.few c.rest _
      (ap₂ answer (sym still) (run_is b) ∙ c.is (ds b) (ds b) (then_known b))

-- ---- XP

-- the payload, told beside the state
told_beside : (m : Result Expanded) (s : State) → ◌>>=◌ {B = State × Bytes} m (λ (x : Expanded). ok (s, x.type ++ x.codes)) ≡ with_state s (m >>= (λ (x : Expanded). ok (x.type ++ x.codes)))
unfolding with_state ◌>>=◌
told_beside (ok x) s = refl
told_beside (err z e) s = refl
told_beside (refused x) s = refl

module _ {w₀ : List ℕ} {entry : Used} {rows : List ℕ} {params : List (List ℕ)} {s : Table} {x : Record} {ty : ℕ} (b : Begun w₀ entry rows params s x (expand ty)) where
  -- what expand asks
  pub expand_asks : (bf : Before) → bf.used ≡ entry → bf.saved.now ≡ rows → (buf : List ℕ) → 4096 ≤ length buf → ty < s.used.nodes
      → GrownFrom w₀ bf s × (((ty < s.used.nodes) × (AllBytes (tables s) × (known.Declared s.words.now s.used params × (4096 ≤ length buf)))) × Still s.words.now s.used bf.used bf.saved.now)
  expand_asks bf p q buf l i = (begun_grown b bf p q, ((i, (bytes_placed b, (record { structs = ds b; known = then_known b }, l))), rw (p, q) (still_placed b)))

  from_expanded : OfTree (s₀ b) (seen_in s (ds b)) record_of.XP ty x
  from_expanded = elim (placed_tree _ _ (expand ty) (omega arith) x b.placed) [ placed_expanded o ↦ o ]

  sound_placed : Sound (arity (s₀ b)) (seen_in s (ds b))
  sound_placed = placed_sound (s₀ b) b.stands.is_sound from_expanded.tree (subst (λ (y : Record). FineRecord (arity (s₀ b)) (taken (s₀ b)) y) from_expanded.is b.names) (seen_in s (ds b)) ty from_expanded.placed

  module _ {bf : Before} {t : Table} {buf buf' : List ℕ} {r : Answer}
      (a : (ds : List Struct) → Known s.words.now s.used params ds → (arity : TypeName → ℕ) → Sound arity (seen_in s ds) → AnswersIn w₀ bf s t buf buf' r (told_by (λ y. expanded_bytes (seen_in s ds) ty))) where
    here : AnswersIn w₀ bf s t buf buf' r (told_by (λ y. expanded_bytes (seen_in s (ds b)) ty))
    here = a (ds b) (then_known b) (arity (s₀ b)) sound_placed

    pub expanded_same : Linked s t
    expanded_same = here.same

    pub reply_expanded : bf.used ≡ entry → Replied 4096 buf t params buf' r (answer (held w₀ entry params) (step.run (held w₀ entry params) x))
    unfolding held noded_run expanded_bytes
    reply_expanded p = replied_same here entry p (ds b) (lent_declares w₀ params entry) (then_declares b) params (stands_arities b.stands) (stands_rows b.stands) _
        (ap (answer (s₀ b)) (run_is b ∙ told_beside (expand_type (seen_in s (ds b)) ty) (s₀ b)))

-- ---- MJ

pub many_most : (x : Record) (s s' : State) (qs : List (TypingCase × ℕ × ℕ)) → place_record x s ≡ ok (s', many qs) → most_of (apart x) ≡ 61485
unfolding most_of apart max_many
many_most x s s' qs e = by (elim (placed_tree s s' (many qs) (omega arith) x e) [ placed_pairs o ↦ o ])
  where
    by : OfTrees s s' qs x → most_of (apart x) ≡ 61485
    by o = rw o.is refl

module _ {w₀ : List ℕ} {entry : Used} {rows : List ℕ} {params : List (List ℕ)} {s : Table} {x : Record} (names : List ℕ) (n : ℕ) (b : Begun w₀ entry rows params s x (many (many_at names 0 n))) where
  pub range_placed : InRange s
  unfolding held
  range_placed = record { base = s₀ b; structs = ds b; ranges = noded.placed_in (s₀ b) (in_range b) x b.fields _ _ b.placed }

  from_pairs : OfTrees (s₀ b) (seen_in s (ds b)) (many_at names 0 n) x
  from_pairs = elim (placed_tree _ _ (many (many_at names 0 n)) (omega arith) x b.placed) [ placed_pairs o ↦ o ]

  few_trees : length from_pairs.trees ≤ 15
  few_trees = few (subst (λ (y : Record). FineRecord (arity (s₀ b)) (taken (s₀ b)) y) from_pairs.is b.names)
    where
      few : FineRecord (arity (s₀ b)) (taken (s₀ b)) (record_of.MJ from_pairs.trees) → length from_pairs.trees ≤ 15
      few f = f.2

  pub reply_many : {t : Table} {rows' buf buf' : List ℕ} {r : Answer} → ManyAnswered s names n buf t rows' buf' r → Replied (most_of (apart x)) buf t params buf' r (reply (held w₀ entry params) x)
  unfolding held
  reply_many {t} {buf = buf} {buf'} {r} a =
      let e = a.is (ds b) in
      rw (many_most x _ _ _ b.placed)
      (replied_with 61485 (ds b) (a.declares (ds b) (then_declares b)) params (stands_arities b.stands) (stands_rows b.stands) buf a.few a.rest _
      (ap (λ (y : Record). reply (s₀ b) y) from_pairs.is
      ∙ many_replies (s₀ b) from_pairs.trees few_trees (seen_in s (ds b)) (many_at names 0 n) from_pairs.placed
      ∙ rw (e, a.number) refl))

-- ---- KP

module _ {w₀ : List ℕ} {entry : Used} {rows : List ℕ} {params : List (List ℕ)} {s : Table} {x : Record} (names : List ℕ) (n : ℕ) (b : Begun w₀ entry rows params s x (keep (take n names))) where
  from_names : (x ≡ record_of.KP (take n names)) × (seen_in s (ds b) ≡ s₀ b)
  from_names = elim (placed_tree _ _ (keep (take n names)) (omega arith) x b.placed) [ placed_kept e q ↦ (e, q) ]

  fine_names : FineRecord (arity (s₀ b)) (taken (s₀ b)) (record_of.KP (take n names))
  fine_names = subst (λ (y : Record). FineRecord (arity (s₀ b)) (taken (s₀ b)) y) from_names.0 b.names

  taken_here : taken (s₀ b) ≡ s.used.vars
  taken_here = sym (ap (λ (y : State). taken y) from_names.1) ∙ taken_seen s.words.now s.used (ds b)

  -- what answer_kept asks
  pub kept_asks : n ≤ 255 → 256 ≤ length names → (n ≤ length names) × ((k : ℕ) → k < n → get_or names k 0 < s.used.vars)
  kept_asks few long = (
    omega (arith, few, long),
    λ k h.
        let m = mem_at (take n names) k (omega (arith, length-take n names, few, long, h)) in
        let l = all_at (λ v. v < taken (s₀ b)) (take n names) fine_names (get_or (take n names) k 0) m in
        let e = get_or-take n names k 0 h in
        omega (arith, l, e, taken_here),
  )

  pub kept_sound : AsSound s
  kept_sound = record { structs = ds b; is_sound = ap sound from_names.1 ∙ b.stands.is_sound }

  pub reply_kept : {t : Table} {buf buf' : List ℕ} {r : Answer} → KeptBy s t (take n names) buf buf' r → Replied (most_of (apart x)) buf t params buf' r (reply (held w₀ entry params) x)
  unfolding held max_payload
  reply_kept {t} {buf} {buf'} {r} k =
      let w = k.keeps.wrote (ds b) in
      let e : reply (s₀ b) x ≡ record { number = r.number; payload = take r.len buf'; state = seen_in t (ds b) } =
      ap (λ (y : Record). reply (s₀ b) y) from_names.0 ∙ KP_answers (s₀ b) b.stands.is_sound (take n names)
      ∙ (λ i. record {
        number = sym k.number i;
        payload = (ap (λ (y : State). survivors (reach y (take n names)).vars) (sym from_names.1) ∙ sym (wrote_payload buf _ buf' r.len w)) i;
        state = (ap (λ (y : State). cleared y (take n names)) (sym from_names.1) ∙ sym (k.keeps.clears.is (ds b))) i;
      })
      in
      subst (λ (m : ℕ). Replied m buf t params buf' r (reply (s₀ b) x)) (sym (placed_most _ _ (keep (take n names)) refl x b.placed))
      (replied_with 4096 (ds b) (declares_kept s.words.now s.used t.words.now t.used (ds b) k.keeps.clears.structs (then_declares b)) params (stands_arities b.stands) (stands_rows b.stands) buf k.keeps.few (wrote_rest buf _ buf' r.len w) _ e)

-- any row may have been touched
pub kept_noted : {s t : Table} {listed buf buf' : List ℕ} {r : Answer} → KeptBy s t listed buf buf' r → (rows : List ℕ) → Noted t rows
kept_noted k rows v p q f = absurd (subst (λ (y : Touched). Untouched y v) k.keeps.clears.touched f)

pub some_room : (w : What) {m : ℕ} → wants w ≤ m → 4096 ≤ m
some_room (q.SD abilities ps) l = l
some_room q.SV l = l
some_room (q.XP t) l = l
some_room (q.MJ n) l = omega arith
some_room (q.KP n) l = l
some_room (q.Bind x) l = l
some_room (q.Look x) l = l
some_room (q.Add x) l = l

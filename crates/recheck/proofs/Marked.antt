-- What begins with one of the four marks is read as a record of it, placed as its run, and wants 4,096 bytes. Assumes nothing.
use mathlib.Core.Path.{◌≡◌, refl, sym, ap, ◌∙◌, subst}
use mathlib.Core.Bool.{Bool, true, false, ◌&&◌}
use mathlib.Core.List.{List, [], ◌∷◌}
use Prim.Native.Nat.{ℕ}
use lib.ListN.{take, drop, get_or}
use lib.Dec.{eqb, eqb→eq}
use denote.Enum.Declared.{tag_of}
use types.Run.{OneOf, miss}
use Rattle.std.specs.Prelude.{if◌then◌else◌}
use Rattle.definition.specs.Types.{State, Result, ok, err, refused, ◌>>=◌}
use Rattle.definition.specs.Write.{Bytes}
use Rattle.definition.specs.Reader.{Read, got}
use Rattle.definition.specs.Trees.{Tree}
use Rattle.definition.specs.Build.{build}
use Rattle.definition.specs.Record as d
use Rattle.definition.specs.Record.{Record, read_record}
use Rattle.definition.specs.Step.{least_buffer, max_buffer, max_many}
use Rattle.theorems.proofs.DemandTracks.{never}
use Rattle.theorems.proofs.SoundFacts.{test}
use Rattle.theorems.proofs.ReadLetters.{letters, letters_are, Lettered, read_letters}
use Rattle.std.specs.Prelude as core
use Rattle.std.specs.Prelude.{Option, Some, Ok}
use Rattle.definition.specs.Types.{Struct}
use Rattle.refusals.specs.declared.Refusal.{Refusal}
use Rattle.table.specs.Did.{held}
use Rattle.table.specs.declared.state.State.{State as Table}
use Rattle.sound.specs.Lent.{structs_of}
use Rattle.sound.proofs.Lays.{lent_declares}
use Rattle.table.specs.State.{Any}
use Rattle.marks.specs.declared.LookMark.{LookMark}
use Rattle.marks.specs.declared.TwoMark.{TwoMark}
use Rattle.fields.specs.Noded.{Run, Noded, noded, binds, looks, run, two_binds, one_looks, bind_of, look_of, place_record, fields_as, RecordIs}
use Rattle.fields.specs.declared.Bind.{Bind}
use Rattle.fields.specs.declared.Bind.TheVariants as b
use Rattle.fields.specs.contracts.Bind.{the_type as bind_type}
use Rattle.fields.specs.declared.Look.{Look}
use Rattle.fields.specs.declared.Look.TheVariants as l
use Rattle.fields.specs.contracts.Look.{the_type as look_type}
use Rattle.fields.specs.declared.What.{What}
use Rattle.fields.specs.declared.What.TheVariants as q
use Rattle.fields.specs.contracts.What.{the_type as what_type}
use Rattle.answer.specs.declared.Ran.{Ran}
use Rattle.run.specs.Dispatch.{RanAs}
use Rattle.run.proofs.Arms.{narrow}
use Rattle.step.proofs.Replying.{WasRun}
use Rattle.fields.specs.declared.Fields.{Fields}
use Rattle.step.proofs.Reading.{got_is}
use Rattle.recheck.specs.Check.{is_checked}
use Rattle.recheck.specs.Stepped.{checked}

pub false_never : {A : Type 0} → false ≡ true → A
false_never e = never (cc)

-- ---- the buffer

pub least_checked : (bytes : Bytes) → is_checked bytes ≡ true → least_buffer bytes ≡ 4096
unfolding is_checked least_buffer max_buffer max_many
least_checked bytes e = go (eqb (get_or bytes 0 0) 77) refl
  where
    go : (b : Bool) → eqb (get_or bytes 0 0) 77 ≡ b → ◌≡◌ {A = ℕ} (if b && eqb (get_or bytes 1 0) 74 then 61485 else 4096) 4096
    go false h = refl
    go true h = let f = eqb→eq (get_or bytes 0 0) 77 (test h) in false_never (rw f at e)

-- ---- what is read

two_bytes : (bytes : Bytes) → is_checked bytes ≡ is_checked (take 2 bytes)
unfolding is_checked
two_bytes [] = refl
two_bytes (a ∷ []) = refl
two_bytes (a ∷ b ∷ bytes) = refl

abbrev checked_in : Result (State × Noded) → Bool
checked_in (ok p) = checked p.1
checked_in (err s e) = true
checked_in (refused x) = true

one : (m : Result (State × ℕ)) (f : ℕ → Run) → ((a : ℕ) → checked (run (f a)) ≡ true) → checked_in (m >>= (λ p. ok (p.0, run (f p.1)))) ≡ true
unfolding ◌>>=◌
one (ok p) f h = h p.1
one (err s e) f h = refl
one (refused x) f h = refl

both : (m : Result (State × ℕ)) (t : Tree) (f : ℕ → ℕ → Run) → ((a b : ℕ) → checked (run (f a b)) ≡ true) → checked_in (m >>= (λ p. build t p.0 >>= (λ q. ok (q.0, run (f p.1 q.1))))) ≡ true
unfolding ◌>>=◌
both (ok p) t f h = one (build t p.0) (λ b. f p.1 b) (h p.1)
both (err s e) t f h = refl
both (refused x) t f h = refl

by_letters : (x : Record) (s : State) → is_checked (letters x) ≡ true → checked_in (place_record x s) ≡ true
unfolding is_checked letters place_record checked
by_letters (d.JN t u) s e = both (build t s) u _ (λ a b. refl)
by_letters (d.SU t u) s e = both (build t s) u _ (λ a b. refl)
by_letters (d.UF t) s e = one (build t s) _ (λ a. refl)
by_letters (d.RD t) s e = one (build t s) _ (λ a. refl)
by_letters (d.SD abilities params) s e = false_never e
by_letters (d.FV loc) s e = false_never e
by_letters (d.NV loc) s e = false_never e
by_letters (d.SN v loc) s e = false_never e
by_letters (d.NL loc bits) s e = false_never e
by_letters (d.IN t) s e = false_never e
by_letters (d.TS pairs t) s e = false_never e
by_letters (d.NC loc kind t) s e = false_never e
by_letters (d.BC loc t) s e = false_never e
by_letters (d.SC loc t) s e = false_never e
by_letters d.SV s e = false_never e
by_letters (d.RM t) s e = false_never e
by_letters (d.CN t) s e = false_never e
by_letters (d.XP t) s e = false_never e
by_letters (d.MJ pairs) s e = false_never e
by_letters (d.UL t) s e = false_never e
by_letters (d.JL t u) s e = false_never e
by_letters (d.KP listed) s e = false_never e

-- what is placed is one of the four
placed_checked : (s s' : State) (bytes : Bytes) (x : Record) (rest : Bytes) (n : Noded) → is_checked bytes ≡ true → read_record s bytes ≡ got x rest → place_record x s ≡ ok (s', n) → checked n ≡ true
placed_checked s s' bytes x rest n e r p =
    let l : letters x ≡ take 2 bytes = letters_are (subst (λ (y : Read Record). Lettered (take 2 bytes) y) r (read_letters s bytes)) in
    sym (ap checked_in p) ∙ by_letters x s (ap is_checked l ∙ sym (two_bytes bytes) ∙ e)

pub read_checked : {names : List ℕ} {s : Table} (params : List (List ℕ)) {bytes : Bytes} {t : Table} {f : Fields} → RecordIs names s bytes 0 t f → is_checked bytes ≡ true → (what : What) → f.read ≡ Ok (Some what) → checked (noded names what) ≡ true
read_checked {names} {s} params {bytes} {t} {f} c e what q =
    let ds : List Struct = structs_of s.words.now params s.used.structs in
    let g = got_is (read_record (held s ds) bytes) (ok (held t ds, noded names what)) (drop f.next bytes) (held s ds)
    (ap (λ (p : core.Result (Option What) Refusal). fields_as names p (held t ds) (drop f.next bytes)) (sym q) ∙ c.is ds (lent_declares s.words.now params s.used)) in
    placed_checked (held s ds) (held t ds) bytes g.what _ (noded names what) e g.read g.placed

-- ---- what is run

bind_other : (x : Bind) → OneOf (0 ∷ 2 ∷ []) (tag_of bind_type x) → checked (run (binds (bind_of x))) ≡ false
unfolding checked
bind_other (b.SN v loc) k = refl
bind_other (b.Two m lhs rhs) k = absurd (miss (0 ∷ 2 ∷ []) 1 tt k)
bind_other (b.IN t) k = refl

look_other : (x : Look) → OneOf (1 ∷ []) (tag_of look_type x) → checked (run (looks (look_of x))) ≡ false
unfolding checked
look_other (l.One m t) k = absurd (miss (1 ∷ []) 0 tt k)
look_other (l.TS ps t) k = refl

what_other : (names : List ℕ) (x : What) → OneOf (0 ∷ 1 ∷ 4 ∷ 5 ∷ 6 ∷ 7 ∷ []) (tag_of what_type x) → checked (noded names x) ≡ false
unfolding checked
what_other names (q.SD abilities ps) k = refl
what_other names q.SV k = refl
what_other names (q.Bind x) k = absurd (miss (0 ∷ 1 ∷ 4 ∷ 5 ∷ 6 ∷ 7 ∷ []) 2 tt k)
what_other names (q.Look x) k = absurd (miss (0 ∷ 1 ∷ 4 ∷ 5 ∷ 6 ∷ 7 ∷ []) 3 tt k)
what_other names (q.Add x) k = refl
what_other names (q.XP t) k = refl
what_other names (q.MJ n) k = refl
what_other names (q.KP n) k = refl

module _ (names : List ℕ) (what : What) where
  module _ {params : List (List ℕ)} {s t : Table} {r : Ran} where
    pub was_two : {m : TwoMark} {lhs rhs : ℕ} → what ≡ q.Bind (b.Two m lhs rhs) → RanAs Any s t r (binds (two_binds m lhs rhs)) → WasRun params s t r (noded names what)
    was_two {m} {lhs} {rhs} e k = record { what = binds (two_binds m lhs rhs); is = ap (noded names) e; ran = narrow k }

    pub was_look : {m : LookMark} {ty : ℕ} → what ≡ q.Look (l.One m ty) → RanAs Any s t r (looks (one_looks m ty)) → WasRun params s t r (noded names what)
    was_look {m} {ty} e k = record { what = looks (one_looks m ty); is = ap (noded names) e; ran = narrow k }

  -- no other run is asked for
  module _ {A : Type 0} (c : checked (noded names what) ≡ true) where
    pub not_bind : {x : Bind} → what ≡ q.Bind x → OneOf (0 ∷ 2 ∷ []) (tag_of bind_type x) → A
    not_bind {x} e k = false_never (sym (ap (λ (w : What). checked (noded names w)) e ∙ bind_other x k) ∙ c)

    pub not_look : {x : Look} → what ≡ q.Look x → OneOf (1 ∷ []) (tag_of look_type x) → A
    not_look {x} e k = false_never (sym (ap (λ (w : What). checked (noded names w)) e ∙ look_other x k) ∙ c)

    pub not_what : OneOf (0 ∷ 1 ∷ 4 ∷ 5 ∷ 6 ∷ 7 ∷ []) (tag_of what_type what) → A
    not_what k = false_never (sym (what_other names what k) ∙ c)

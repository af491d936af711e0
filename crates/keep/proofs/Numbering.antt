-- New numbers: how many that stay are below, and that this is how a number slides; the bytes of the pairs. Assumes nothing.
use mathlib.Core.Path.{◌≡◌, refl, sym, ap, ap₂, ◌∙◌}
use mathlib.Core.Bool.{Bool, true, false}
use mathlib.Core.List.{List, [], ◌∷◌, ◌++◌, append-nil}
use Prim.Native.Nat.{ℕ, zero, suc, ◌+◌, ◌*◌, ◌≤◌, ◌<◌}
use native.Mathlib.Omega.{arith}
use native.Mathlib.Decide.{ℕ_discrete, dec_lt}
use lib.ListN.{length, get_or, set, length-append}
use lib.Seq.{get_or-set_same, get_or-set_other}
use Rattle.std.specs.Int.{from_bool}
use Rattle.std.specs.Prelude.{if◌then◌else◌}
use Rattle.definition.specs.Write.{Bytes, u16, each}
use Rattle.definition.specs.Keep.{those_below, slid}
use Rattle.theorems.proofs.KeepLists.{those_few, slid_past, slid_not}
use Rattle.writer.specs.Bytes.{Wrote}
use Rattle.writer.proofs.Put.{put_nothing, wrote_wrote, wrote_length, rest_fits, both_wrote}
use Rattle.writer.proofs.Heads.{apart}
use Rattle.keep.specs.Numbered.{among, Numbered, pairs}
use Rattle.keep.proofs.Sliding.{those_next, those_not}

-- ---- one number more

below_next : (f : ℕ → Bool) (i : ℕ) (b : Bool) → f i ≡ b → length (those_below (i + 1) f) ≡ length (those_below i f) + from_bool b
below_next f i true e = ap length (those_next i f e) ∙ length-append (those_below i f) (i ∷ [])
below_next f i false e = ap length (those_not i f e) ∙ omega arith

byte_low : (b : Bool) → from_bool b ≤ 1
byte_low true = omega arith
byte_low false = omega arith

below_few : (f : ℕ → Bool) (i : ℕ) → length (those_below i f) ≤ i
below_few f i = those_few i f

-- the first i have theirs, and so many are below i
pub record Numbering (stays : List Bool) (long i below : ℕ) (numbers : List ℕ) : Type 0 where
  pub same : length numbers ≡ long
  pub first : Numbered stays i numbers
  pub is : below ≡ length (those_below i (among stays))

module _ {stays : List Bool} {long : ℕ} where
  pub numbering_none : (numbers : List ℕ) → length numbers ≡ long → Numbering stays long 0 0 numbers
  unfolding those_below
  numbering_none numbers e = record { same = e; first = record { each = λ x h. absurd (omega arith) }; is = refl }

  module _ {i below : ℕ} {numbers : List ℕ} (n : Numbering stays long i below numbers) where
    pub numbering_low : (b : Bool) → below + from_bool b ≤ i + 1
    numbering_low b = omega (arith, n.is, below_few (among stays) i, byte_low b)

    pub numbering_more : i < long → Numbering stays long (i + 1) (below + from_bool (get_or stays i false)) (set numbers i below)
    numbering_more lt = record {
      same = lib.ListN.length-set numbers i below ∙ n.same;
      first = record { each = λ x h. by x h (ℕ_discrete x i) };
      is = ap (λ (k : ℕ). k + from_bool (get_or stays i false)) n.is ∙ sym (below_next (among stays) i (get_or stays i false) refl);
    }
      where
        by : (x : ℕ) → x < i + 1 → Dec (x ≡ i) → get_or (set numbers i below) x 0 ≡ length (those_below x (among stays))
        by x h (yes e) = rw e (get_or-set_same numbers i below 0 (rw n.same lt) ∙ n.is)
        by x h (no e) = get_or-set_other numbers i x below 0 e ∙ n.first.each x (omega (arith, h, e))

-- ---- it slides there

slid_both : (l m : List ℕ) (x : ℕ) → slid (l ++ m) x ≡ slid l x + slid m x
unfolding slid
slid_both [] m x = omega arith
slid_both (y ∷ l) m x = elim (dec_lt y x) [
  | yes h ↦ (let a = slid_past y x (l ++ m) h in let b = slid_past y x l h in omega (arith, a, b, slid_both l m x))
  | no h ↦ (let a = slid_not y x (l ++ m) (omega (arith, h)) in let b = slid_not y x l (omega (arith, h)) in omega (arith, a, b, slid_both l m x))
]

-- n, if b
abbrev last : ℕ → Bool → List ℕ
last n b = if b then n ∷ [] else []

last_slid : (n x : ℕ) (b : Bool) → x ≤ n → slid (last n b) x ≡ 0
unfolding slid
last_slid n x true h = slid_not n x [] h
last_slid n x false h = refl

last_past : (n x : ℕ) (b : Bool) → n < x → slid (last n b) x ≡ length (last n b)
unfolding slid
last_past n x true h = slid_past n x [] h
last_past n x false h = refl

slid_beyond : (n : ℕ) (f : ℕ → Bool) (x : ℕ) → n ≤ x → slid (those_below n f) x ≡ length (those_below n f)
unfolding those_below slid
slid_beyond zero f x h = refl
slid_beyond (suc n) f x h =
    let a = slid_beyond n f x (omega (arith, h)) in
    let b = last_past n x (f n) (omega (arith, h)) in
    slid_both (those_below n f) (last n (f n)) x ∙ ap₂ ◌+◌ a b ∙ sym (length-append (those_below n f) (last n (f n)))

-- how many of those below n are below x
pub slid_those : (n : ℕ) (f : ℕ → Bool) (x : ℕ) → x ≤ n → slid (those_below n f) x ≡ length (those_below x f)
unfolding those_below slid
slid_those zero f x h = let e : x ≡ 0 = omega (arith, h) in rw e refl
slid_those (suc n) f x h = elim (dec_lt n x) [
  | yes l ↦ (let e : suc n ≡ x = omega (arith, h, l) in let b = slid_beyond (suc n) f x (omega (arith, h, l)) in b ∙ ap (λ (k : ℕ). length (those_below k f)) e)
  | no l ↦ (let a = slid_those n f x (omega (arith, l)) in let b = last_slid n x (f n) (omega (arith, l)) in slid_both (those_below n f) (last n (f n)) x ∙ ap₂ ◌+◌ a b ∙ omega arith)
]

-- ---- the pairs in bytes

pair_four : (a b : ℕ) → length (u16 a ++ u16 b) ≡ 4
unfolding u16
pair_four a b = refl

module _ (a b : ℕ) {buf buf' : List ℕ} {at next : ℕ} (room : at + 4 ≤ length buf) (w : Wrote buf at (u16 a) buf' next) where
  whole_fits : at + length (u16 a ++ u16 b) ≤ length buf
  whole_fits = rw (pair_four a b) room

  pub pair_next : next + 2 ≤ length buf'
  unfolding u16
  pair_next = rest_fits (u16 a) (u16 b) (u16 a ++ u16 b) (apart (u16 a) (u16 b)) buf at whole_fits buf' next w

  pub pair_wrote : {buf'' : List ℕ} {end : ℕ} → Wrote buf' next (u16 b) buf'' end → Wrote buf at (u16 a ++ u16 b) buf'' end
  pair_wrote {buf''} {end} v = both_wrote (u16 a) (u16 b) (u16 a ++ u16 b) (apart (u16 a) (u16 b)) buf at whole_fits buf' next w buf'' end v

each_both : (f : ℕ → Bytes) (l m : List ℕ) → each f (l ++ m) ≡ each f l ++ each f m
unfolding each
each_both f [] m = refl
each_both f (t ∷ l) m = rw (each_both f l m) (sym (mathlib.Core.List.append_assoc (f t) (each f l) (each f m)))

each_one : (f : ℕ → Bytes) (t : ℕ) → each f (t ∷ []) ≡ f t
unfolding each
each_one f t = append-nil (f t)

pub pairs_four : (numbers l : List ℕ) → length (pairs numbers l) ≡ 4 * length l
unfolding each
pairs_four numbers [] = refl
pairs_four numbers (v ∷ l) = length-append (u16 v ++ u16 (get_or numbers v 0)) (pairs numbers l) ∙ (let a = pair_four v (get_or numbers v 0) in let b = pairs_four numbers l in omega (arith, a, b))

module _ (numbers : List ℕ) (f : ℕ → Bool) {buf : List ℕ} where
  pub pairs_none : Wrote buf 0 (pairs numbers (those_below 0 f)) buf 0
  unfolding those_below each
  pairs_none = record { next_is = refl; is = put_nothing buf 0 (omega arith) }

  module _ {buf' : List ℕ} {v next : ℕ} (w : Wrote buf 0 (pairs numbers (those_below v f)) buf' next) (few : v < 1024) (room : 4096 ≤ length buf) where
    so_far : length (pairs numbers (those_below v f)) ≤ 4 * v
    so_far = omega (arith, pairs_four numbers (those_below v f), those_few v f)

    pub pair_fits : next + 4 ≤ length buf'
    pair_fits = let l = wrote_length buf 0 (pairs numbers (those_below v f)) buf' next (omega (arith, so_far, few, room)) w in omega (arith, l, w.next_is, so_far, few, room)

    pub pairs_more : f v ≡ true → {buf'' : List ℕ} {next' : ℕ} → Wrote buf' next (u16 v ++ u16 (get_or numbers v 0)) buf'' next' → Wrote buf 0 (pairs numbers (those_below (v + 1) f)) buf'' next'
    pairs_more e {buf''} {next'} p =
        let a = wrote_wrote buf 0 (pairs numbers (those_below v f)) buf' next (u16 v ++ u16 (get_or numbers v 0)) buf'' next' (omega (arith, so_far, few, room)) w p in
        let b : pairs numbers (those_below (v + 1) f) ≡ pairs numbers (those_below v f) ++ (u16 v ++ u16 (get_or numbers v 0)) =
        ap (pairs numbers) (those_next v f e) ∙ each_both _ (those_below v f) (v ∷ []) ∙ ap (λ (y : Bytes). pairs numbers (those_below v f) ++ y) (each_one _ v) in
        rw b a

    pub pairs_not : f v ≡ false → Wrote buf 0 (pairs numbers (those_below (v + 1) f)) buf' next
    pairs_not e = rw (those_not v f e) w

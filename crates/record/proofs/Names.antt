-- The loop over KP's variables: where it begins, a turn, an early end, and all of them. Assumes nothing.
use mathlib.Core.Path.{◌≡◌, refl, sym, ap, subst, ◌∙◌}
use mathlib.Core.List.{List, [], ◌∷◌, ◌++◌, append-nil, append_assoc}
use Prim.Native.Nat.{ℕ, zero, suc, ◌+◌, ◌-◌, ◌≤◌, ◌<◌}
use native.Mathlib.Nat.{sub-zero}
use native.Mathlib.Numerals.{add-one}
use native.Mathlib.Omega.{arith}
use lib.ListN.{length, get_or, set, take, length-set}
use Rattle.std.specs.Prelude.{Some, Ok, Err}
use mathlib.Core.Bool.{false}
use Rattle.definition.specs.Types as types
use Rattle.definition.specs.Types.{State}
use Rattle.definition.specs.Store.{taken}
use Rattle.definition.specs.Write.{Bytes}
use Rattle.definition.specs.Reader as rd
use Rattle.definition.specs.Reader.{Read, got, not_read, give, go_on, times, name_below}
use Rattle.definition.specs.Record as d
use Rattle.definition.specs.Record.{Record}
use Rattle.table.specs.declared.state.State.{State as Table}
use Rattle.refusals.specs.Refusals.{refusal_of}
use Rattle.refusals.specs.declared.Refusal.{Refusal}
use Rattle.heads.specs.Fields.{Knows}
use Rattle.reader.specs.Taken.{placed, place_read}
use Rattle.fields.specs.declared.What.TheVariants as q
use Rattle.fields.specs.Noded.{place_record, FieldsAre}
use Rattle.fields.proofs.Forms.{fields_none, unread_is}

-- the first i + 1, where the last of them is put into its place
take_set : (l : List ℕ) (i v : ℕ) → i < length l → take (suc i) (set l i v) ≡ take i l ++ (v ∷ [])
take_set [] i v h = absurd (omega arith)
take_set (x ∷ l) zero v h = refl
take_set (x ∷ l) (suc i) v h = ap (λ (k : List ℕ). x ∷ k) (take_set l i v (omega arith))

-- what is left, behind the list xs
unfoldable pub behind : List ℕ → Read (List ℕ) → Read (List ℕ)
behind xs r = go_on r (λ ys. give (xs ++ ys))

module _ (known : ℕ) where
  behind_more : (xs : List ℕ) (n v : ℕ) (l k : Bytes) → got v k ≡ name_below known l → behind xs (times (suc n) (name_below known) l) ≡ behind (xs ++ (v ∷ [])) (times n (name_below known) k)
  unfolding behind times rd.◌>>=◌ go_on give
  behind_more xs n v l k e = rw (← e) (by (times n (name_below known) k))
    where
      by : (r : Read (List ℕ)) → go_on {B = List ℕ} (go_on {B = List ℕ} r (λ ys. give (v ∷ ys))) (λ ys. give (xs ++ ys)) ≡ go_on r (λ ys. give ((xs ++ (v ∷ [])) ++ ys))
      by (got ys j) = ap (λ (z : List ℕ). got z j) (sym (append_assoc xs (v ∷ []) ys))
      by (not_read z) = refl

  behind_cut : (xs : List ℕ) (n : ℕ) (x : types.Refusal) (l : Bytes) → not_read x ≡ name_below known l → behind xs (times (suc n) (name_below known) l) ≡ not_read x
  unfolding behind times rd.◌>>=◌ go_on
  behind_cut xs n x l e = rw (← e) refl

  behind_none : (xs : List ℕ) (l : Bytes) → behind xs (times 0 (name_below known) l) ≡ got xs l
  unfolding behind times go_on give
  behind_none xs l = ap (λ (z : List ℕ). got z l) (append-nil xs)

  -- so many are read of n
  pub record NamesGo (l₀ : Bytes) (n : ℕ) (l : Bytes) (names : List ℕ) (i : ℕ) : Type 0 where
    pub left : i ≤ n
    pub long : 256 ≤ length names
    pub is : behind [] (times n (name_below known) l₀) ≡ behind (take i names) (times (n - i) (name_below known) l)

  pub names_none : (l : Bytes) (n : ℕ) {names : List ℕ} → 256 ≤ length names → NamesGo l n l names 0
  names_none l n e = record { left = omega arith; long = e; is = ap (λ (j : ℕ). behind [] (times j (name_below known) l)) (sym (sub-zero n)) }

  module _ {l₀ : Bytes} {n : ℕ} {l : Bytes} {names : List ℕ} {i : ℕ} (g : NamesGo l₀ n l names i) where
    one_more : i < n → behind [] (times n (name_below known) l₀) ≡ behind (take i names) (times (suc (n - (i + 1))) (name_below known) l)
    one_more h = let z : n - i ≡ suc (n - (i + 1)) = omega (arith, h) in g.is ∙ ap (λ (j : ℕ). behind (take i names) (times j (name_below known) l)) z

    pub names_turn : {v : ℕ} {l' : Bytes} → i < n → n ≤ 255 → got v l' ≡ name_below known l → NamesGo l₀ n l' (set names i v) (i + 1)
    names_turn {v} {l'} h few e = record {
      left = omega (arith, h);
      long = omega (arith, g.long, length-set names i v);
      is = one_more h ∙ behind_more (take i names) (n - (i + 1)) v l l' e ∙ ap (λ (xs : List ℕ). behind xs (times (n - (i + 1)) (name_below known) l')) (sym (ap (λ (j : ℕ). take j (set names i v)) (add-one i) ∙ take_set names i v (omega (arith, h, few, g.long))));
    }

    cut : (x : types.Refusal) → i < n → not_read x ≡ name_below known l → not_read x ≡ behind [] (times n (name_below known) l₀)
    cut x h e = sym (one_more h ∙ behind_cut (take i names) (n - (i + 1)) x l e)

    all : n ≤ i → behind [] (times n (name_below known) l₀) ≡ got (take n names) l
    all h =
        let z : i ≡ n = omega (arith, g.left, h) in
        let none : n - i ≡ 0 = omega (arith, h) in
        g.is ∙ ap (λ (j : ℕ). behind (take i names) (times j (name_below known) l)) none ∙ behind_none (take i names) l ∙ ap (λ (j : ℕ). got (take j names) l) z

    -- as the definition has it
    listed_by : (y : Read (List ℕ)) → go_on (behind [] y) (λ listed. give (d.KP listed)) ≡ go_on y (λ listed. give (d.KP listed))
    unfolding behind go_on give
    listed_by (got ys j) = refl
    listed_by (not_read z) = refl

    -- one is not read
    pub names_cut : {names' : List ℕ} {st : Table} {l' : Bytes} {e : Refusal} → i < n → not_read (refusal_of e) ≡ name_below known l
        → FieldsAre names' st known (λ s. go_on (times n (name_below (taken s)) l₀) (λ listed. give (d.KP listed))) st l' (Err e)
    unfolding go_on
    names_cut {e = e} h f = unread_is (λ s ds k. rw k.vars (ap (λ (y : Read (List ℕ)). go_on {B = Record} y (λ listed. give (d.KP listed))) (cut (refusal_of e) h f) ∙ listed_by (times n (name_below known) l₀)))

    read_all : (s : State) → taken s ≡ known → n ≤ i → got (d.KP (take n names)) l ≡ go_on (times n (name_below (taken s)) l₀) (λ listed. give (d.KP listed))
    unfolding go_on give
    read_all s e h =
        subst (λ (m : ℕ). got (d.KP (take n names)) l ≡ go_on (times n (name_below m) l₀) (λ listed. give (d.KP listed))) (sym e)
        (ap (λ (y : Read (List ℕ)). go_on {B = Record} y (λ listed. give (d.KP listed))) (sym (all h)) ∙ listed_by (times n (name_below known) l₀))

    pub names_all : {st : Table} → n ≤ i → n ≤ 255 → FieldsAre names st known (λ s. go_on (times n (name_below (taken s)) l₀) (λ listed. give (d.KP listed))) st l (Ok (Some (q.KP n)))
    unfolding place_read place_record
    names_all h few = fields_none few (λ s s' ds k. ap (λ (y : Read Record). place_read false place_record y s') (read_all s k.vars h))

-- Declarations and their parameter bytes: the rows that they have, those that words and bytes hold, and a new one. Assumes nothing.
use mathlib.Core.Path.{◌≡◌, refl, sym, ap, ap₂, ◌∙◌}
use mathlib.Core.Bool.{Bool, true, false}
use mathlib.Core.List.{List, [], ◌∷◌, ◌++◌}
use Prim.Native.Nat.{ℕ, ◌+◌, ◌≤◌, ◌<◌}
use native.Mathlib.Omega.{arith}
use native.Mathlib.Decide.{dec_lt, ℕ_discrete}
use lib.ListN.{length, get_or, take, set, length-append, get_or-append, get_or-eq_default}
use lib.Seq.{ext_get_or, get_or_at}
use Rattle.std.specs.Prelude.{if◌then◌else◌, Option, None, Some}
use Rattle.definition.specs.Types.{Struct}
use Rattle.definition.specs.Store.{with_structs}
use Rattle.table.specs.Tab.{tab}
use Rattle.table.specs.Rows.{row, struct_table}
use Rattle.table.specs.State.{more, view, seen, FoundIn, Declares}
use Rattle.table.specs.declared.Used.{Used}
use Rattle.table.proofs.Tab.{length_tab, getD_tab, tab_set}
use Rattle.table.proofs.Rows.{entry_at}
use Rattle.sound.specs.Lent.{bytes_at, struct_of, structs_of, encode_params}
use Rattle.heads.specs.Fields.{Arities}
use Rattle.table.specs.Known.{Known}
use Rattle.run.specs.Runs.{with_row}
use Rattle.step.specs.Trusted.{held}
use Rattle.verdict.specs.Verdict.{row_for, padded}

abbrev pub none : Struct
none = struct_table.blank

-- the bytes of these declarations
abbrev row_of : List Struct → ℕ → List ℕ
row_of ds i = tab 8 (λ k. get_or (get_or ds i none).params k 0)

abbrev pub rows_of : List Struct → List (List ℕ)
rows_of ds = tab 256 (row_of ds)

pub rows_seen : (w : List ℕ) (u : Used) (ds : List Struct) → encode_params (seen w u ds) ≡ rows_of ds
unfolding encode_params seen with_structs
rows_seen w u ds = refl

-- ---- what words and bytes hold

module _ (w : List ℕ) (u : Used) (params : List (List ℕ)) (ds : List Struct) (k : Known w u params ds) where
  row_is : (i : ℕ) → i < u.structs → struct_of w params i ≡ get_or ds i none
  unfolding struct_of bytes_at view
  row_is i lt =
      let e = entry_at struct_table w u.structs i none lt in
      let many : length (get_or ds i none).params ≡ length (struct_table.read (row struct_table w i)).params = k.rows.params i lt ∙ ap (λ (d : Struct). length d.params) e in
      let n = length (struct_table.read (row struct_table w i)).params in
      let f : ℕ → ℕ = λ j. get_or (get_or params i []) j 0 in
      ap₂ (λ (a : ℕ) (ps : List ℕ). record { abilities = a; params = ps })
      (sym (k.rows.abilities i lt ∙ ap (λ (d : Struct). d.abilities) e))
      (ext_get_or 0 (tab n f) (get_or ds i none).params (length_tab n f ∙ sym many) (λ j p.
      let q : j < n = rw (length_tab n f) at p in
      getD_tab n f j 0 q ∙ k.bytes i j (omega arith)))

  known_is : structs_of w params u.structs ≡ ds
  unfolding structs_of
  known_is =
      let f : ℕ → Struct = λ i. struct_of w params i in
      ext_get_or none (tab u.structs f) ds (length_tab u.structs f ∙ sym k.rows.many) (λ i p.
      let lt : i < u.structs = rw (length_tab u.structs f) at p in
      getD_tab u.structs f i none lt ∙ row_is i lt)

  pub held_known : held w u params ≡ seen w u ds
  unfolding held
  held_known = ap (λ (l : List Struct). seen w u l) known_is

-- bytes that are just those of few enough declarations
pub known_rows : (w : List ℕ) (u : Used) (params : List (List ℕ)) (ds : List Struct) → Declares w u ds → u.structs ≤ 256 → Arities ds → params ≡ rows_of ds → Known w u params ds
unfolding Arities
known_rows w u params ds d few short e = record { rows = d; bytes = λ i k lt. by i k lt (dec_lt i 256) }
  where
    by : (i k : ℕ) → k < length (get_or ds i none).params → Dec (i < 256) → get_or (get_or params i []) k 0 ≡ get_or (get_or ds i none).params k 0
    by i k lt (yes p) =
        ap (λ (l : List (List ℕ)). get_or (get_or l i []) k 0) e
        ∙ ap (λ (l : List ℕ). get_or l k 0) (getD_tab 256 (row_of ds) i [] p)
        ∙ getD_tab 8 (λ k. get_or (get_or ds i none).params k 0) k 0 (omega (arith, short i))
    by i k lt (no p) = absurd (let z = (rw (get_or-eq_default ds none {n = i} (omega (arith, d.many))) at lt) in omega arith)

-- ---- a new declaration

module _ (ds : List Struct) (x : Struct) where
  at_new : get_or (ds ++ (x ∷ [])) (length ds) none ≡ x
  at_new = get_or_at ds x [] none (length ds) refl

  long : length (ds ++ (x ∷ [])) ≡ length ds + 1
  long = length-append ds (x ∷ [])

  at_other : (i : ℕ) → (i ≡ length ds → ⊥) → get_or (ds ++ (x ∷ [])) i none ≡ get_or ds i none
  at_other i d = by (dec_lt i (length ds))
    where
      by : Dec (i < length ds) → get_or (ds ++ (x ∷ [])) i none ≡ get_or ds i none
      by (yes p) = get_or-append ds (x ∷ []) none i p
      by (no p) =
          let q : length ds < i = ne_gt i (length ds) p d in
          get_or-eq_default (ds ++ (x ∷ [])) none {n = i} (omega (arith, long)) ∙ sym (get_or-eq_default ds none {n = i} (omega arith))
        where
          ne_gt : (i n : ℕ) → (i < n → ⊥) → (i ≡ n → ⊥) → n < i
          ne_gt i n p d = omega arith

  new_rows : length ds < 256 → set (rows_of ds) (length ds) (tab 8 (λ k. get_or x.params k 0)) ≡ rows_of (ds ++ (x ∷ []))
  new_rows lt =
      sym (tab_set 256 (row_of ds) (row_of (ds ++ (x ∷ []))) (length ds) (tab 8 (λ k. get_or x.params k 0)) [] lt
      (ap (λ (d : Struct). tab 8 (λ k. get_or d.params k 0)) at_new)
      (λ i p d. ap (λ (d : Struct). tab 8 (λ k. get_or d.params k 0)) (at_other i d)))

  new_arities : Arities ds → length x.params ≤ 8 → Arities (ds ++ (x ∷ []))
  unfolding Arities
  new_arities short le i = by (ℕ_discrete i (length ds))
    where
      by : Dec (i ≡ length ds) → length (get_or (ds ++ (x ∷ [])) i none).params ≤ 8
      by (yes e) = rw (e, at_new) le
      by (no d) = rw (at_other i d) (short i)

module _ (b : Option ℕ) (kept : Bool) (ds : List Struct) (abilities many : ℕ) (bytes : List ℕ) where
  abbrev x : Struct
  x = record { abilities = abilities; params = take many bytes }

  -- the row is there
  pub row_in : (n : ℕ) → length ds ≡ n → length (more b ds x) ≤ 256 → FoundIn 256 (row_for b kept n)
  row_in n e le = go b kept le
    where
      go : (b : Option ℕ) (kept : Bool) → length (more b ds x) ≤ 256 → FoundIn 256 (row_for b kept n)
      go None kept le = tt
      go (Some t) true le = omega (arith, long ds x)
      go (Some t) false le = tt

  pub row_kept : (n : ℕ) (params : List (List ℕ)) → length ds ≡ n → length (more b ds x) ≤ 256 → params ≡ rows_of ds
      → with_row (row_for b kept n) params (padded bytes many) ≡ rows_of (if kept then more b ds x else ds)
  unfolding padded
  row_kept n params e le p = go b kept le
    where
      go : (b : Option ℕ) (kept : Bool) → length (more b ds x) ≤ 256 → with_row (row_for b kept n) params (padded bytes many) ≡ rows_of (if kept then more b ds x else ds)
      go None true le = p
      go None false le = p
      go (Some t) true le = rw (p, ← e) (new_rows ds x (omega (arith, long ds x)))
      go (Some t) false le = p

  pub arities_kept : Arities ds → length x.params ≤ 8 → Arities (if kept then more b ds x else ds)
  arities_kept short le = go b kept
    where
      go : (b : Option ℕ) (kept : Bool) → Arities (if kept then more b ds x else ds)
      go None true = short
      go None false = short
      go (Some t) true = new_arities ds x short le
      go (Some t) false = short

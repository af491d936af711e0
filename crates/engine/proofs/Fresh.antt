-- Zeros are the words and the parameter bytes of a fresh state, which is sound. Assumes nothing.
-- First the words of each table without entries, all zeros; then what the call's test chooses.
use mathlib.Core.Path.{◌≡◌, refl, sym, ap, ap₂, ◌∙◌}
use mathlib.Core.Bool.{Bool, true, false}
use mathlib.Core.List.{List, [], ◌∷◌, ◌++◌, append-nil, append_assoc}
use Prim.Native.Nat.{ℕ, zero, suc, ◌+◌, ◌*◌}
use native.Mathlib.Nat.{zero-mul, suc-mul}
use native.Mathlib.Omega.{arith}
use borrow.Author.Tests.{eq-eqb, ne_eqb}
use lib.Dec.{eqb}
use lib.ListN.{length, replicate}
use Rattle.definition.specs.Types.{fresh}
use Rattle.definition.specs.Write.{Bytes}
use Rattle.theorems.proofs.SoundKept.{fresh_sound}
use Rattle.table.specs.Tab.{tab}
use Rattle.table.specs.Rows.{node_table, arg_table, var_table, constraint_table, struct_table, node_words, shape_words, arg_words, cell_words, constraint_words, struct_words, option_flag, option_word, flag}
use Rattle.table.specs.Encode.{flat, table_words, counts, encode}
use Rattle.sound.specs.Lent.{encode_params, lent_sound}
use Rattle.sound.proofs.Tested.{lent_passes}
use Rattle.sound.proofs.Decoded.{encode_lent}
use Rattle.engine.specs.Public.{LentPiece, lent_lines, fresh_lines}

zeros : ℕ → List ℕ
zeros n = replicate n 0

zeros_after : (m n : ℕ) → zeros m ++ zeros n ≡ zeros (m + n)
unfolding zeros
zeros_after zero n = ap zeros (let e : n ≡ 0 + n = omega arith in e)
zeros_after (suc m) n = ap (λ (l : List ℕ). 0 ∷ l) (zeros_after m n) ∙ ap zeros (let e : suc (m + n) ≡ suc m + n = omega arith in e)

flat_more : (l : List (List ℕ)) (r : List ℕ) → flat (l ++ (r ∷ [])) ≡ flat l ++ r
unfolding flat
flat_more [] r = append-nil r
flat_more (x ∷ l) r = ap (λ (m : List ℕ). x ++ m) (flat_more l r) ∙ sym (append_assoc x (flat l) r)

flat_zeros : (k n : ℕ) (f : ℕ → List ℕ) → ((i : ℕ) → f i ≡ zeros k) → flat (tab n f) ≡ zeros (n * k)
unfolding flat tab zeros
flat_zeros k zero f h = ap zeros (sym (zero-mul k))
flat_zeros k (suc n) f h = flat_more (tab n f) (f n) ∙ ap₂ (λ (a b : List ℕ). a ++ b) (flat_zeros k n f h) (h n) ∙ zeros_after (n * k) k ∙ ap zeros (sym (suc-mul n k))

no_nodes : table_words node_table [] ≡ zeros 12288
unfolding table_words node_words shape_words zeros
no_nodes = flat_zeros 6 2048 _ (λ i. refl)

no_args : table_words arg_table [] ≡ zeros 4096
unfolding table_words arg_words zeros
no_args = flat_zeros 1 4096 _ (λ i. refl)

no_vars : table_words var_table [] ≡ zeros 5120
unfolding table_words cell_words option_flag option_word flag zeros
no_vars = flat_zeros 5 1024 _ (λ i. refl)

no_constraints : table_words constraint_table [] ≡ zeros 2048
unfolding table_words constraint_words zeros
no_constraints = flat_zeros 4 512 _ (λ i. refl)

no_structs : table_words struct_table [] ≡ zeros 512
unfolding table_words struct_words zeros
no_structs = flat_zeros 2 256 _ (λ i. refl)

no_counts : counts fresh ≡ zeros 5
unfolding counts zeros
no_counts = refl

both : (m n : ℕ) {a b : List ℕ} → a ≡ zeros m → b ≡ zeros n → a ++ b ≡ zeros (m + n)
both m n e f = ap₂ (λ (x y : List ℕ). x ++ y) e f ∙ zeros_after m n

all_zeros : encode fresh ≡ zeros 24069
unfolding encode
all_zeros = both 5 24064 no_counts (both 12288 11776 no_nodes (both 4096 7680 no_args (both 5120 2560 no_vars (both 2048 512 no_constraints no_structs))))

pub no_words : replicate 24069 0 ≡ encode fresh
unfolding zeros
no_words = sym all_zeros

pub no_params : replicate 256 (replicate 8 0) ≡ encode_params fresh
unfolding encode_params tab
no_params = refl

pub fresh_lent : (w : List ℕ) (p : List (List ℕ)) → w ≡ encode fresh → p ≡ encode_params fresh → lent_sound w p ≡ true
fresh_lent w p e f = rw (e, f) (lent_passes (encode fresh) (encode_params fresh) (encode_lent fresh fresh_sound))

-- what the test of the length chooses
chosen : (w : List ℕ) (p : List (List ℕ)) (stream : Bytes) (room : ℕ) (more : Bool) {b : Bool} → eqb (length w) 24069 ≡ b
    → fresh_lines w p stream room more ≡ elim b as (λ x. LentPiece) [ true ↦ lent_lines (encode fresh) (encode_params fresh) 0 stream room more | false ↦ lent_lines w p 0 stream room more ]
unfolding fresh_lines
chosen w p stream room more e = ap (λ q. elim q as (λ x. LentPiece) [ true ↦ lent_lines (encode fresh) (encode_params fresh) 0 stream room more | false ↦ lent_lines w p 0 stream room more ]) e

-- words of the right length, cleared: the lines are those from a fresh state
pub from_fresh : (w : List ℕ) (p : List (List ℕ)) (stream : Bytes) (room : ℕ) (more : Bool) → length w ≡ 24069 → (w' : List ℕ) (p' : List (List ℕ)) → w' ≡ encode fresh → p' ≡ encode_params fresh
    → fresh_lines w p stream room more ≡ lent_lines w' p' 0 stream room more
from_fresh w p stream room more n w' p' e f = chosen w p stream room more (eq-eqb (length w) 24069 n) ∙ ap₂ (λ (x : List ℕ) (y : List (List ℕ)). lent_lines x y 0 stream room more) (sym e) (sym f)

-- of another length: as for any words that no state has
pub not_fresh : (w : List ℕ) (p : List (List ℕ)) (stream : Bytes) (room : ℕ) (more : Bool) → (length w ≡ 24069 → ⊥) → fresh_lines w p stream room more ≡ lent_lines w p 0 stream room more
not_fresh w p stream room more n = chosen w p stream room more (ne_eqb (length w) 24069 n)

-- A state written as words: every row where the layout has it, and words that have those rows are the state's. Assumes nothing.
-- First one table for any kind of row, then all five tables (`Holds`); `encoded` and `holds` are the two directions.
use mathlib.Core.Path.{◌≡◌, refl, sym, ap, ap₂, ◌∙◌}
use mathlib.Core.List.{List, [], ◌++◌, append_assoc, append-nil}
use Prim.Native.Nat.{ℕ, ◌+◌, ◌*◌, ◌<◌}
use lib.ListN.{length, get_or, length-append}
use Rattle.definition.specs.Types.{State}
use Rattle.table.specs.Tab.{tab}
use Rattle.table.specs.Rows.{Table, words_at, row, arg_words, node_table, arg_table, var_table, constraint_table, struct_table}
use Rattle.table.specs.Encode.{table_words, counts as count_words, encode as encode_words}
use Rattle.table.proofs.Written.{node_long, cell_long, constraint_long, struct_long}
use Rattle.table.proofs.Encoded.{encoded_as}
use Rattle.sound.proofs.Joined.{joined, flat_joined, length_joined, joined_row}

arg_long : (t : ℕ) → length (arg_table.write t) ≡ 1
unfolding arg_words
arg_long t = refl

-- ---- one table

-- the rows of T are those of the entries l
abbrev pub Rows : {A : Type 0} → Table A → List ℕ → List A → Type 0
Rows T w l = (i : ℕ) → i < T.rows → row T w i ≡ T.write (get_or l i T.blank)

module _ {A : Type 0} (T : Table A) (long : (a : A) → length (T.write a) ≡ T.width) where
  table_joined : (l : List A) → table_words T l ≡ joined T.rows (λ i. T.write (get_or l i T.blank))
  unfolding table_words
  table_joined l = flat_joined T.rows (λ i. T.write (get_or l i T.blank))

  length_table : (l : List A) → length (table_words T l) ≡ T.rows * T.width
  length_table l = ap (λ (x : List ℕ). length x) (table_joined l) ∙ length_joined T.width (λ i. T.write (get_or l i T.blank)) (λ i. long (get_or l i T.blank)) T.rows

  table_rows : (w before after : List ℕ) (l : List A) → w ≡ before ++ (table_words T l ++ after) → length before ≡ T.base → Rows T w l
  unfolding row
  table_rows w before after l e h i p =
      joined_row T.width (λ i. T.write (get_or l i T.blank)) (λ i. long (get_or l i T.blank)) w before after T.base T.rows i (e ∙ ap (λ (x : List ℕ). before ++ (x ++ after)) (table_joined l)) h p

-- ---- all five

-- the counts and the rows of each table are the state's
pub record Holds (w : List ℕ) (s : State) : Type 0 where
  pub size : length w ≡ 24069
  pub counts : words_at w 0 5 ≡ count_words s
  pub nodes : Rows node_table w s.nodes
  pub args : Rows arg_table w s.args
  pub vars : Rows var_table w s.vars
  pub constraints : Rows constraint_table w s.constraints
  pub structs : Rows struct_table w s.structs

-- words that hold a state are its encoding
pub encoded : (w : List ℕ) (s : State) → Holds w s → w ≡ encode_words s
encoded w s h = encoded_as w s h.size h.counts h.nodes h.args h.vars h.constraints h.structs

-- ---- the encoding of a state holds it

two : (k a r : List ℕ) → k ++ (a ++ r) ≡ (k ++ a) ++ r
two k a r = sym (append_assoc k a r)

three : (k a b r : List ℕ) → k ++ (a ++ (b ++ r)) ≡ (k ++ (a ++ b)) ++ r
three k a b r = simp append_assoc

four : (k a b c r : List ℕ) → k ++ (a ++ (b ++ (c ++ r))) ≡ (k ++ (a ++ (b ++ c))) ++ r
four k a b c r = simp append_assoc

five : (k a b c d e : List ℕ) → k ++ (a ++ (b ++ (c ++ (d ++ e)))) ≡ (k ++ (a ++ (b ++ (c ++ d)))) ++ (e ++ [])
five k a b c d e = simp (append_assoc, append-nil)

long_two : (k a : List ℕ) (x y : ℕ) → length k ≡ x → length a ≡ y → length (k ++ a) ≡ x + y
long_two k a x y p q = length-append k a ∙ ap₂ (λ (m n : ℕ). m + n) p q

long_counts : (s : State) → length (count_words s) ≡ 5
unfolding count_words
long_counts s = refl

first_five : (s : State) (r : List ℕ) → words_at (count_words s ++ r) 0 5 ≡ count_words s
unfolding count_words words_at tab
first_five s r = refl

pub holds : (s : State) → Holds (encode_words s) s
unfolding encode_words
holds s =
    record {
      size = long_two K (A ++ (B ++ (C ++ (D ++ E)))) 5 24064 (long_counts s) (long_two A (B ++ (C ++ (D ++ E))) 12288 11776 la (long_two B (C ++ (D ++ E)) 4096 7680 lb (long_two C (D ++ E) 5120 2560 lc (long_two D E 2048 512 ld le))));
      counts = first_five s (A ++ (B ++ (C ++ (D ++ E))));
      nodes = table_rows node_table node_long _ K (B ++ (C ++ (D ++ E))) s.nodes refl (long_counts s);
      args = table_rows arg_table arg_long _ (K ++ A) (C ++ (D ++ E)) s.args (two K A (B ++ (C ++ (D ++ E)))) (long_two K A 5 12288 (long_counts s) la);
      vars = table_rows var_table cell_long _ (K ++ (A ++ B)) (D ++ E) s.vars (three K A B (C ++ (D ++ E))) (long_two K (A ++ B) 5 16384 (long_counts s) (long_two A B 12288 4096 la lb));
      constraints = table_rows constraint_table constraint_long _ (K ++ (A ++ (B ++ C))) E s.constraints (four K A B C (D ++ E)) (long_two K (A ++ (B ++ C)) 5 21504 (long_counts s) (long_two A (B ++ C) 12288 9216 la (long_two B C 4096 5120 lb lc)));
      structs = table_rows struct_table struct_long _ (K ++ (A ++ (B ++ (C ++ D)))) [] s.structs (five K A B C D E) (long_two K (A ++ (B ++ (C ++ D))) 5 23552 (long_counts s) (long_two A (B ++ (C ++ D)) 12288 11264 la (long_two B (C ++ D) 4096 7168 lb (long_two C D 5120 2048 lc ld))));
    }
  where
    K : List ℕ
    K = count_words s

    A : List ℕ
    A = table_words node_table s.nodes

    B : List ℕ
    B = table_words arg_table s.args

    C : List ℕ
    C = table_words var_table s.vars

    D : List ℕ
    D = table_words constraint_table s.constraints

    E : List ℕ
    E = table_words struct_table s.structs

    la : length A ≡ 12288
    la = length_table node_table node_long s.nodes

    lb : length B ≡ 4096
    lb = length_table arg_table arg_long s.args

    lc : length C ≡ 5120
    lc = length_table var_table cell_long s.vars

    ld : length D ≡ 2048
    ld = length_table constraint_table constraint_long s.constraints

    le : length E ≡ 512
    le = length_table struct_table struct_long s.structs

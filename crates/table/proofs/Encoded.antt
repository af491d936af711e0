-- Laid-out words are just the encoding of the state that they hold. Assumes nothing.
use mathlib.Core.Path.{◌≡◌, refl, sym, ap, ap₂, ◌∙◌, subst}
use mathlib.Core.List.{List, [], ◌∷◌, ◌++◌, append-nil, append_assoc}
use Prim.Native.Nat.{ℕ, zero, suc, ◌+◌, ◌*◌, ◌-◌, ◌<◌}
use native.Mathlib.Omega.{arith}
use native.Mathlib.Nat.{zero-add, zero-mul, suc-mul}
use native.Mathlib.Decide.{dec_lt}
use lib.ListN.{length, get_or, length-append, get_or-append, get_or-eq_default}
use lib.Seq.{ext_get_or, get_or-append-add}
use Rattle.definition.specs.Types.{State, Struct}
use Rattle.definition.specs.Store.{with_structs}
use Rattle.table.specs.Tab.{tab}
use Rattle.table.specs.Rows.{Table, row, words_at, entries, Clean, struct_words, node_table, arg_table, var_table, constraint_table, struct_table}
use Rattle.table.specs.State.{view, seen, Lay, Inside, Declares, Wrote, Stored}
use Rattle.table.specs.Encode.{flat, table_words, counts, encode}
use Rattle.table.specs.declared.Used.{Used}
use Rattle.table.proofs.Tab.{length_tab, tab_ext, getD_tab}
use Rattle.table.proofs.Rows.{entry_out, apart, same_entries, same_clean}
use Rattle.table.proofs.Steps.{grown_refl, refines_by}
use Rattle.table.proofs.Pushed.{count_view, args_view, taken_view, constraints_view}

-- ---- words of a list, part by part

words_length : (w : List ℕ) (a n : ℕ) → length (words_at w a n) ≡ n
unfolding words_at
words_length w a n = length_tab n _

word_at : (w : List ℕ) (a n i : ℕ) → i < n → get_or (words_at w a n) i 0 ≡ get_or w (a + i) 0
unfolding words_at
word_at w a n i h = getD_tab n _ i 0 h

words_all : (w : List ℕ) (n : ℕ) → length w ≡ n → w ≡ words_at w 0 n
words_all w n e = ext_get_or 0 w (words_at w 0 n) (e ∙ sym (words_length w 0 n)) (λ i p. sym (word_at w 0 n i (rw e at p) ∙ ap (λ (x : ℕ). get_or w x 0) (zero-add i)))

words_split : (w : List ℕ) (a m n : ℕ) → words_at w a (m + n) ≡ words_at w a m ++ words_at w (a + m) n
words_split w a m n =
    ext_get_or 0 _ _ (words_length w a (m + n) ∙ sym (length-append (words_at w a m) (words_at w (a + m) n) ∙ ap₂ ◌+◌ (words_length w a m) (words_length w (a + m) n))) (λ i p.
    let lt : i < m + n = rw (words_length w a (m + n)) at p in
    word_at w a (m + n) i lt ∙ by i lt (dec_lt i m))
  where
    by : (i : ℕ) → i < m + n → Dec (i < m) → get_or w (a + i) 0 ≡ get_or (words_at w a m ++ words_at w (a + m) n) i 0
    by i lt (yes p) = sym (get_or-append (words_at w a m) (words_at w (a + m) n) 0 i (rw (words_length w a m) p) ∙ word_at w a m i p)
    by i lt (no p) =
        let e : a + m + (i - m) ≡ a + i = omega arith in
        let f : length (words_at w a m) + (i - m) ≡ i = omega (arith, words_length w a m) in
        sym (ap (λ (x : ℕ). get_or w x 0) e)
        ∙ sym (word_at w (a + m) n (i - m) (omega arith))
        ∙ sym (get_or-append-add (words_at w a m) (words_at w (a + m) n) (i - m) 0)
        ∙ ap (λ (x : ℕ). get_or (words_at w a m ++ words_at w (a + m) n) x 0) f

flat_more : (l : List (List ℕ)) (r : List ℕ) → flat (l ++ (r ∷ [])) ≡ flat l ++ r
unfolding flat
flat_more [] r = append-nil r
flat_more (x ∷ l) r = ap (λ (y : List ℕ). x ++ y) (flat_more l r) ∙ sym (append_assoc x (flat l) r)

words_rows : (w : List ℕ) (b d r : ℕ) → words_at w b (r * d) ≡ flat (tab r (λ i. words_at w (b + i * d) d))
unfolding tab flat words_at
words_rows w b d zero = ap (words_at w b) (zero-mul d)
words_rows w b d (suc r) =
    ap (words_at w b) (suc-mul r d)
    ∙ words_split w b (r * d) d
    ∙ ap (λ (l : List ℕ). l ++ words_at w (b + r * d) d) (words_rows w b d r)
    ∙ sym (flat_more (tab r (λ i. words_at w (b + i * d) d)) (words_at w (b + r * d) d))

-- ---- a table

-- l is written as the rows are
table_is : {A : Type 0} (T : Table A) (w : List ℕ) (l : List A) → ((i : ℕ) → i < T.rows → row T w i ≡ T.write (get_or l i T.blank)) → words_at w T.base (T.rows * T.width) ≡ table_words T l
unfolding table_words row
table_is T w l h = words_rows w T.base T.width T.rows ∙ ap flat (tab_ext T.rows _ _ h)

-- declarations are written as the struct rows are
declared_rows : (w : List ℕ) (u : Used) (ds : List Struct) → Clean struct_table w u.structs → Declares w u ds → (i : ℕ) → i < 256 → row struct_table w i ≡ struct_words (get_or ds i struct_table.blank)
unfolding Clean view struct_words
declared_rows w u ds c g i p = c i p ∙ by (dec_lt i u.structs)
  where
    by : Dec (i < u.structs) → struct_words (get_or (entries struct_table w u.structs) i struct_table.blank) ≡ struct_words (get_or ds i struct_table.blank)
    by (yes q) = λ j. sym (g.abilities i q) j ∷ sym (g.params i q) j ∷ []
    by (no q) = ap struct_words (entry_out struct_table w u.structs i struct_table.blank (omega arith) ∙ sym (get_or-eq_default ds struct_table.blank (rw g.many (omega arith))))

-- ---- all words

pub encoded_as : (w : List ℕ) (s : State) → length w ≡ 24069 → words_at w 0 5 ≡ counts s
    → ((i : ℕ) → i < 2048 → row node_table w i ≡ node_table.write (get_or s.nodes i node_table.blank))
    → ((i : ℕ) → i < 4096 → row arg_table w i ≡ arg_table.write (get_or s.args i arg_table.blank))
    → ((i : ℕ) → i < 1024 → row var_table w i ≡ var_table.write (get_or s.vars i var_table.blank))
    → ((i : ℕ) → i < 512 → row constraint_table w i ≡ constraint_table.write (get_or s.constraints i constraint_table.blank))
    → ((i : ℕ) → i < 256 → row struct_table w i ≡ struct_table.write (get_or s.structs i struct_table.blank))
    → w ≡ encode s
unfolding encode
encoded_as w s size c nodes args vars constraints structs =
    words_all w 24069 size
    ∙ words_split w 0 5 24064
    ∙ ap₂ ◌++◌ c (words_split w 5 12288 11776
    ∙ ap₂ ◌++◌ (table_is node_table w s.nodes nodes) (words_split w 12293 4096 7680
    ∙ ap₂ ◌++◌ (table_is arg_table w s.args args) (words_split w 16389 5120 2560
    ∙ ap₂ ◌++◌ (table_is var_table w s.vars vars) (words_split w 21509 2048 512
    ∙ ap₂ ◌++◌ (table_is constraint_table w s.constraints constraints) (table_is struct_table w s.structs structs)))))

-- as many of each as are in use
counted : (w : List ℕ) (u : Used) (ds : List Struct) → Declares w u ds → u.nodes ∷ u.args ∷ u.vars ∷ u.constraints ∷ u.structs ∷ [] ≡ counts (seen w u ds)
unfolding counts seen with_structs
counted w u ds g = λ i. sym (count_view w u) i ∷ sym (args_view w u) i ∷ sym (taken_view w u) i ∷ sym (constraints_view w u) i ∷ sym g.many i ∷ []

-- laid-out words, whose counts are those in use
pub encoded : (w : List ℕ) (u : Used) (ds : List Struct) → Lay w u → Declares w u ds → words_at w 0 5 ≡ u.nodes ∷ u.args ∷ u.vars ∷ u.constraints ∷ u.structs ∷ [] → w ≡ encode (seen w u ds)
unfolding seen with_structs Clean view
encoded w u ds h g c =
    encoded_as w (seen w u ds) h.size (c ∙ counted w u ds g) h.clean_nodes h.clean_args h.clean_vars h.clean_constraints (declared_rows w u ds h.clean_structs g)

-- the counts are written
pub used_written : (w : List ℕ) (u : Used) (w' : List ℕ) → Lay w u → Wrote w 0 5 (u.nodes ∷ u.args ∷ u.vars ∷ u.constraints ∷ u.structs ∷ []) w'
    → (ds : List Struct) → Declares w u ds → w' ≡ encode (seen w u ds)
unfolding seen with_structs Clean view words_at tab
used_written w u w' h q ds g =
    encoded_as w' (seen w u ds) (q.size ∙ h.size)
    ((λ i. q.here 0 (omega arith) i ∷ q.here 1 (omega arith) i ∷ q.here 2 (omega arith) i ∷ q.here 3 (omega arith) i ∷ q.here 4 (omega arith) i ∷ []) ∙ counted w u ds g)
    (λ i p. apart node_table w 0 5 _ w' q (λ i k l p q s e. omega arith) i p ∙ h.clean_nodes i p)
    (λ i p. apart arg_table w 0 5 _ w' q (λ i k l p q s e. omega arith) i p ∙ h.clean_args i p)
    (λ i p. apart var_table w 0 5 _ w' q (λ i k l p q s e. omega arith) i p ∙ h.clean_vars i p)
    (λ i p. apart constraint_table w 0 5 _ w' q (λ i k l p q s e. omega arith) i p ∙ h.clean_constraints i p)
    (λ i p. apart struct_table w 0 5 _ w' q (λ i k l p q s e. omega arith) i p ∙ declared_rows w u ds h.clean_structs g i p)

-- .. and nothing else is
module _ (w : List ℕ) (u : Used) (r w' : List ℕ) (h : Lay w u) (q : Wrote w 0 5 r w') where
  rows_kept : view w' u ≡ view w u
  unfolding view
  rows_kept =
      λ i. record {
        nodes = same_entries node_table w w' u.nodes (apart node_table w 0 5 r w' q (λ i k l p q s e. omega arith)) h.nodes i;
        args = same_entries arg_table w w' u.args (apart arg_table w 0 5 r w' q (λ i k l p q s e. omega arith)) h.args i;
        vars = same_entries var_table w w' u.vars (apart var_table w 0 5 r w' q (λ i k l p q s e. omega arith)) h.vars i;
        constraints = same_entries constraint_table w w' u.constraints (apart constraint_table w 0 5 r w' q (λ i k l p q s e. omega arith)) h.constraints i;
        structs = same_entries struct_table w w' u.structs (apart struct_table w 0 5 r w' q (λ i k l p q s e. omega arith)) h.structs i;
      }

  lay_kept : Lay w' u
  lay_kept =
      record {
        size = q.size ∙ h.size;
        nodes = h.nodes;
        args = h.args;
        vars = h.vars;
        constraints = h.constraints;
        structs = h.structs;
        clean_nodes = same_clean node_table w w' u.nodes (apart node_table w 0 5 r w' q (λ i k l p q s e. omega arith)) h.nodes h.clean_nodes;
        clean_args = same_clean arg_table w w' u.args (apart arg_table w 0 5 r w' q (λ i k l p q s e. omega arith)) h.args h.clean_args;
        clean_vars = same_clean var_table w w' u.vars (apart var_table w 0 5 r w' q (λ i k l p q s e. omega arith)) h.vars h.clean_vars;
        clean_constraints = same_clean constraint_table w w' u.constraints (apart constraint_table w 0 5 r w' q (λ i k l p q s e. omega arith)) h.constraints h.clean_constraints;
        clean_structs = same_clean struct_table w w' u.structs (apart struct_table w 0 5 r w' q (λ i k l p q s e. omega arith)) h.structs h.clean_structs;
        inside = subst Inside (sym rows_kept) h.inside;
      }

  pub counts_stored : Stored w u w' (λ s. s)
  unfolding seen
  counts_stored = refines_by (view w u) lay_kept rows_kept (grown_refl (view w u)) refl (λ ds k. refl)

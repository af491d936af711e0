-- R-12: what CN answers is read back from a record, where it fits one and its variables are taken: it can be carried. Assumes nothing.
use mathlib.Core.Path.{◌≡◌, refl, sym, ap, ◌∙◌, subst}
use mathlib.Core.Bool.{Bool, true, false, ◌&&◌}
use mathlib.Core.List.Memᴰ
use mathlib.Core.List.{List, [], ◌∷◌, ◌++◌, append_assoc, append-nil, Memᴰ}
use Rattle.std.specs.Prelude.{None}
use Prim.Native.Nat.{ℕ, zero, suc, ◌≤◌, ◌<◌}
use native.Mathlib.Omega.{arith}
use lib.ListN.{length, get_or, take, take-append-drop, drop_of_length-le}
use lib.Dec.{eqb}
use Rattle.definition.specs.Types.{State, Multiple, Builtin, ModuleType, malformed, unknown_name, Result, ok, err, refused}
use Rattle.definition.specs.Store.{taken, get}
use Rattle.definition.specs.Rank.{ReadType, any, unresolved, unit, open_var, parameter, reference, named, ReadTypes, no_types, ◌and◌}
use Rattle.definition.specs.Write.{Bytes}
use Rattle.definition.specs.Canonical.{number_of}
use Rattle.definition.specs.Reader.{got, read_one, read_two, byte, read_u16, read_u32, byte_if, read_bool, name_below}
use Rattle.definition.specs.Trees.{Tree, unit_tree, anything_tree, error_tree, ref_tree, param_tree, apply_tree, var_tree, Trees, no_trees, ◌then◌, is_set, is_mark, mark_fits, read_trees, arity, under_ref, by_tag, read_nested, read_type}
use Rattle.definition.specs.Record.{CN, read_record}
use Rattle.definition.specs.Build.{build}
use Rattle.definition.specs.Sound.{sound}
use Rattle.definition.specs.Agree.{rename, rename_all, variables, variables_all, met_in, NoReference, Nested, n_any, n_error, n_unit, n_var, n_param, n_ref, n_named, AllNested, n_none, n_each, tags, tags_all, places, places_all, Carried, CNCarried}
use Rattle.theorems.proofs.DemandRuns.{arity_same}
use Rattle.theorems.proofs.SoundFacts.{facts}
use Rattle.theorems.proofs.SoundRead.{Fine, ReadWell, given, well_read}
use Rattle.theorems.proofs.CanonicalAgree.{numbered as as_numbered, variables_renamed, from_map}
use Rattle.theorems.proofs.CanonicalBytes.{plain, plains, how_many, Within, in_any, in_error, in_unit, in_var, in_param, in_ref, in_named, AllWithin, in_none, in_each}
use Rattle.theorems.proofs.CanonicalWithin.{Shaped, sh_any, sh_error, sh_unit, sh_var, sh_param, sh_ref, sh_named, AllShaped, sh_none, sh_each}
use Rattle.theorems.proofs.ReadyTold.{Fits, Reads as Gives, made, no_place}
use Rattle.theorems.proofs.CanonicalReady.{StandsFor}
use Rattle.theorems.proofs.CanonicalOne.{Spelling, of_record, short, within_same}
use Rattle.theorems.proofs.CanonicalRD.{reads_CN}
use Rattle.theorems.proofs.CanonicalRead.{read_of, reads_of}
use Rattle.theorems.proofs.CanonicalBuilt.{places_tree, stands_meets}
use Rattle.theorems.proofs.ReadBack.{then_ok, give_ok, byte_ok, byte_if_ok, u16_ok, u32_ok, name_ok, bool_ok, under_ok, apply_ok, tag_ok}
use Rattle.theorems.proofs.SoundRanges.{name_known}

-- ---- types

unfoldable mutual
  pub tree_of : ReadType → Tree
  tree_of any = anything_tree 0
  tree_of unresolved = error_tree 0
  tree_of unit = unit_tree 0
  tree_of (open_var v) = var_tree 0 v
  tree_of (parameter id a) = param_tree 0 id a
  tree_of (reference m r) = ref_tree 0 m (tree_of r)
  tree_of (named k n rs) = apply_tree 0 k n (trees_of rs)

  pub trees_of : ReadTypes → Trees
  trees_of no_types = no_trees
  trees_of (◌and◌ r rs) = ◌then◌ (tree_of r) (trees_of rs)

mutual
  unfolding tree_of trees_of read_of reads_of

  pub read_tree : (r : ReadType) → read_of (tree_of r) ≡ r
  read_tree any = refl
  read_tree unresolved = refl
  read_tree unit = refl
  read_tree (open_var v) = refl
  read_tree (parameter id a) = refl
  read_tree (reference m r) = ap (λ (x : ReadType). reference m x) (read_tree r)
  read_tree (named k n rs) = ap (λ (x : ReadTypes). named k n x) (reads_trees rs)

  reads_trees : (rs : ReadTypes) → reads_of (trees_of rs) ≡ rs
  reads_trees no_types = refl
  reads_trees (◌and◌ r rs) = rw (read_tree r, reads_trees rs) refl

-- the first byte of what is no reference
no_ref : (r : ReadType) (rest : Bytes) → NoReference r → eqb (get_or (plain r ++ rest) 0 0) 1 ≡ false
unfolding plain
no_ref any rest h = refl
no_ref unresolved rest h = refl
no_ref unit rest h = refl
no_ref (open_var v) rest h = refl
no_ref (parameter id a) rest h = refl
no_ref (reference m r) rest h = absurd h
no_ref (named k (Builtin b) rs) rest h = refl
no_ref (named k (Multiple b) rs) rest h = refl
no_ref (named k (ModuleType b) rs) rest h = refl

module _ (s : State) where
  mutual
    unfolding plain plains by_tag tree_of trees_of read_trees read_two read_one variables variables_all

    pub read_back : {q : ReadType} → Within (arity s) q → Shaped s q → (n : ℕ) → Nested n q → ((v : ℕ) → Memᴰ v (variables q) → v < taken s) → (rest : Bytes) → read_nested n s (plain q ++ rest) ≡ got (tree_of q) rest
    read_back w e zero d t rest = elim d [ ]
    read_back in_any sh_any (suc n) n_any t rest = tag_ok s n 7 0 rest refl (omega arith) ∙ give_ok _ rest
    read_back in_error sh_error (suc n) n_error t rest = tag_ok s n 8 0 rest refl (omega arith) ∙ give_ok _ rest
    read_back in_unit sh_unit (suc n) n_unit t rest = tag_ok s n 0 0 rest refl (omega arith) ∙ give_ok _ rest
    read_back (in_var {v = v} h) sh_var (suc n) n_var t rest = tag_ok s n 6 0 _ refl (omega arith) ∙ then_ok (name_below (taken s)) _ (name_ok (taken s) v rest h (t v (Memᴰ.head refl))) ∙ give_ok _ rest
    read_back (in_param {id = id} {a = a} h) (sh_param e) (suc n) n_param t rest = tag_ok s n 2 0 _ refl (omega arith) ∙ then_ok read_u32 _ (u32_ok id _ h) ∙ then_ok (byte_if is_set) _ (byte_if_ok is_set a rest e) ∙ give_ok _ rest
    read_back (in_ref {m = m} {r = r} w) (sh_ref e) (suc n) (n_ref f d) t rest =
        tag_ok s n 1 0 _ refl (omega arith) ∙ then_ok read_bool _ (bool_ok m (plain r ++ rest)) ∙ then_ok (under_ref n (read_nested n s)) _ (under_ok n (read_nested n s) (plain r ++ rest) (no_ref r rest f) ∙ read_back w e n d t rest) ∙ give_ok _ rest
    read_back (in_named {k = k} {n = Builtin b} {rs = rs} h c w) (sh_named e es) (suc n) (n_named d) t rest =
        tag_ok s n 3 0 _ refl (omega arith) ∙ apply_ok s 0 (read_nested n s) byte Builtin malformed k b e (byte_ok b (plains rs ++ rest)) (ap (λ (i : ℕ). read_trees i (read_nested n s) (plains rs ++ rest)) (sym c) ∙ all_back w es n d t rest)
    read_back (in_named {k = k} {n = Multiple b} {rs = rs} h c w) (sh_named e es) (suc n) (n_named d) t rest =
        tag_ok s n 4 0 _ refl (omega arith) ∙ apply_ok s 0 (read_nested n s) byte Multiple malformed k b e (byte_ok b (plains rs ++ rest)) (ap (λ (i : ℕ). read_trees i (read_nested n s) (plains rs ++ rest)) (sym c) ∙ all_back w es n d t rest)
    read_back (in_named {k = k} {n = ModuleType b} {rs = rs} h c w) (sh_named e es) (suc n) (n_named d) t rest =
        tag_ok s n 5 0 _ refl (omega arith) ∙ apply_ok s 0 (read_nested n s) read_u16 ModuleType unknown_name k b e (u16_ok b (plains rs ++ rest) h) (ap (λ (i : ℕ). read_trees i (read_nested n s) (plains rs ++ rest)) (sym c) ∙ all_back w es n d t rest)

    all_back : {qs : ReadTypes} → AllWithin (arity s) qs → AllShaped s qs → (n : ℕ) → AllNested n qs → ((v : ℕ) → Memᴰ v (variables_all qs) → v < taken s) → (rest : Bytes) → read_trees (how_many (arity s) qs) (read_nested n s) (plains qs ++ rest) ≡ got (trees_of qs) rest
    all_back in_none sh_none n n_none t rest = give_ok _ rest
    all_back (in_each {r = r} {rs = rs} w ws) (sh_each e es) n (n_each d ds) t rest =
        ap (λ (l : Bytes). read_trees (suc (how_many (arity s) rs)) (read_nested n s) l) (append_assoc (plain r) (plains rs) rest)
        ∙ then_ok (read_nested n s) _ (read_back w e n d (λ v m. t v (Memᴰ.append_left (variables_all rs) m)) (plains rs ++ rest))
        ∙ then_ok (read_trees (how_many (arity s) rs) (read_nested n s)) _ (all_back ws es n ds (λ v m. t v (Memᴰ.append_right (variables r) m)) rest) ∙ give_ok _ rest

-- ---- a renaming changes neither nesting nor size

module _ (f : ℕ → ℕ) where
  no_reference_renamed : (r : ReadType) → NoReference r → NoReference (rename f r)
  unfolding rename
  no_reference_renamed any h = tt
  no_reference_renamed unresolved h = tt
  no_reference_renamed unit h = tt
  no_reference_renamed (open_var v) h = tt
  no_reference_renamed (parameter id a) h = tt
  no_reference_renamed (reference m r) h = h
  no_reference_renamed (named k n rs) h = tt

  mutual
    unfolding rename rename_all

    nested_renamed : {n : ℕ} {r : ReadType} → Nested n r → Nested n (rename f r)
    nested_renamed n_any = n_any
    nested_renamed n_error = n_error
    nested_renamed n_unit = n_unit
    nested_renamed n_var = n_var
    nested_renamed n_param = n_param
    nested_renamed (n_ref {r = r} h d) = n_ref (no_reference_renamed r h) (nested_renamed d)
    nested_renamed (n_named ds) = n_named (all_nested_renamed ds)

    all_nested_renamed : {n : ℕ} {rs : ReadTypes} → AllNested n rs → AllNested n (rename_all f rs)
    all_nested_renamed n_none = n_none
    all_nested_renamed (n_each d ds) = n_each (nested_renamed d) (all_nested_renamed ds)

  mutual
    unfolding rename rename_all tags tags_all

    tags_renamed : (r : ReadType) → tags (rename f r) ≡ tags r
    tags_renamed any = refl
    tags_renamed unresolved = refl
    tags_renamed unit = refl
    tags_renamed (open_var v) = refl
    tags_renamed (parameter id a) = refl
    tags_renamed (reference m r) = ap suc (tags_renamed r)
    tags_renamed (named k n rs) = ap suc (all_tags_renamed rs)

    all_tags_renamed : (rs : ReadTypes) → tags_all (rename_all f rs) ≡ tags_all rs
    all_tags_renamed no_types = refl
    all_tags_renamed (◌and◌ r rs) = omega (arith, tags_renamed r, all_tags_renamed rs)

  mutual
    unfolding rename rename_all places places_all

    places_renamed : (r : ReadType) → places (rename f r) ≡ places r
    places_renamed any = refl
    places_renamed unresolved = refl
    places_renamed unit = refl
    places_renamed (open_var v) = refl
    places_renamed (parameter id a) = refl
    places_renamed (reference m r) = places_renamed r
    places_renamed (named k n rs) = all_places_renamed rs

    all_places_renamed : (rs : ReadTypes) → places_all (rename_all f rs) ≡ places_all rs
    all_places_renamed no_types = refl
    all_places_renamed (◌and◌ r rs) = omega (arith, places_renamed r, all_places_renamed rs)

-- ---- equal declarations

module _ (s s' : State) (e : s.structs ≡ s'.structs) where
  mutual
    shaped_same : {r : ReadType} → Shaped s r → Shaped s' r
    shaped_same sh_any = sh_any
    shaped_same sh_error = sh_error
    shaped_same sh_unit = sh_unit
    shaped_same sh_var = sh_var
    shaped_same (sh_param h) = sh_param h
    shaped_same (sh_ref d) = sh_ref (shaped_same d)
    shaped_same (sh_named {k = k} {n = n} h ds) = sh_named (subst (λ (b : Bool). is_mark k && b && mark_fits k n ≡ true) (name_known s s' e n) h) (all_shaped_same ds)

    all_shaped_same : {rs : ReadTypes} → AllShaped s rs → AllShaped s' rs
    all_shaped_same sh_none = sh_none
    all_shaped_same (sh_each d ds) = sh_each (shaped_same d) (all_shaped_same ds)

-- ---- it is carried

module _ (s' : State) (p : Bytes) (q : ReadType) (h : sound s' ≡ true) (spelled : p ≡ plain q) (few : length p ≤ 4094) (w : Within (arity s') q) (e : Shaped s' q) (d : Nested 64 q)
    (variable : (v : ℕ) → Memᴰ v (variables q) → (v < taken s') × (get s' v ≡ None)) where
  all_taken : take 4094 p ≡ p
  all_taken = sym (append-nil (take 4094 p)) ∙ ap (λ (l : Bytes). take 4094 p ++ l) (sym (drop_of_length-le p few)) ∙ take-append-drop 4094 p

  tree_read : read_type s' (take 4094 p) ≡ got (tree_of q) []
  unfolding read_type
  tree_read = ap (λ (l : Bytes). read_nested 64 s' l) (all_taken ∙ spelled ∙ sym (append-nil (plain q))) ∙ read_back s' w e 64 d (λ v m. (variable v m).0) []

  is_read : read_record s' (67 ∷ 78 ∷ p) ≡ got (CN (tree_of q)) []
  is_read = reads_CN s' p ∙ rw (tree_read, drop_of_length-le p few) refl

  fine : Fine (arity s') (taken s') (tree_of q)
  fine = go (rw is_read at (well_read ⊥ s' (67 ∷ 78 ∷ p) (λ z. absurd z)))
    where
      go : {n : ℕ} → ReadWell ⊥ s' n (got (CN (tree_of q)) []) → Fine (arity s') (taken s') (tree_of q)
      go (given f i l) = f.0

  is_placed : Gives (arity s') (StandsFor q) s' (tags q) (places q) (build (tree_of q) s')
  is_placed = subst (λ (r : ReadType). Gives (arity s') (StandsFor r) s' (tags r) (places r) (build (tree_of q) s')) (read_tree q) (places_tree fine (facts s' h) (omega arith))

  carried_by : (m : Result (State × ℕ)) → build (tree_of q) s' ≡ m → Gives (arity s') (StandsFor q) s' (tags q) (places q) m → Fits s' (tags q) (places q) → Carried s' p
  carried_by (ok (S1, t)) b (made a i) l = record {
    tree = tree_of q;
    is_CN = is_read;
    placed = S1;
    node = t;
    build_gives = b;
    unbound_there = λ v m. (variable v (stands_meets S1 i.1 (λ u n. a.grown.same_get u ∙ (variable u n).1) v m)).1;
  }
  carried_by (err s x) b r l = elim r [ ]
  carried_by (refused x) b (no_place d) l = absurd (d l)

  carries : Fits s' (tags q) (places q) → Carried s' p
  carries l = carried_by (build (tree_of q) s') refl is_placed l

pub cn_carried : (s s' : State) → CNCarried s s'
unfolding CNCarried
cn_carried s s' bytes p buffer r e x h few d nodes args free =
    carries s' p (as_numbered r) h a.spelled_as few
    (within_same (arity s) (arity s') (λ m. arity_same s' s e m) (a.fields_within (short s bytes buffer p r x))) (shaped_same s s' e a.names_in) (nested_renamed f d) variable
    (omega (arith, nodes, tags_renamed f r), omega (arith, args, places_renamed f r))
  where
    f : ℕ → ℕ
    f = λ v. number_of (met_in r) v

    a : Spelling s p r
    a = of_record s bytes buffer p r x

    variable : (v : ℕ) → Memᴰ v (variables (rename f r)) → (v < taken s') × (get s' v ≡ None)
    variable v m =
        let o = from_map f (variables r) v (subst (λ (l : List ℕ). Memᴰ v l) (variables_renamed f r) m) in
        subst (λ (u : ℕ). (u < taken s') × (get s' u ≡ None)) (sym o.2) (free o.0 o.1)

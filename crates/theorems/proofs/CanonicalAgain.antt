-- R-12: what CN answers is answered with itself when it is sent back, where its variables are unbound; and there is room for it where reading it can be done twice. Assumes nothing.
use mathlib.Core.Path.{◌≡◌, refl, sym, ap, ◌∙◌}
use mathlib.Core.Logic.{◌≢◌}
use mathlib.Core.Bool.{Bool, true, false, not}
use mathlib.Core.List.{[], ◌∷◌, ◌++◌, append-nil}
use Rattle.std.specs.Prelude.{None}
use Prim.Native.Nat.{ℕ, ◌+◌, ◌*◌, ◌≤◌, ◌<◌}
use native.Mathlib.Omega.{arith}
use lib.ListN.{length, get_or, get_or-eq_default, take, drop, take-append-drop}
use lib.Dec.{leb, ltb, ltb→lt, nltb→le}
use borrow.Author.Tests.{le-leb}
use Rattle.definition.specs.Types.{State, Node, TypeName, UnresolvedError, full, runs_into_itself, max_nodes, max_args, Result, ok, err, refused, ◌>>=◌}
use Rattle.definition.specs.Store.{count, taken, type_at, get, node, nowhere, with_args}
use Rattle.definition.specs.Subst.{parts, ready_tvars}
use Rattle.definition.specs.Rank.{ReadType, Meets}
use Rattle.definition.specs.Write.{Bytes}
use Rattle.definition.specs.Canonical.{canonical, number_of}
use Rattle.definition.specs.Reader.{Read, got, not_read}
use Rattle.definition.specs.Trees.{Tree, arity, read_type}
use Rattle.definition.specs.Record.{CN}
use Rattle.definition.specs.Sound.{sound}
use Rattle.definition.specs.Step.{run, number_of_refusal, refusal, answer, max_buffer, usable, lent, step, answer_within, most_of, apart, reply, least_buffer, behind, tail_of}
use Rattle.definition.specs.Agree.{met_in, tags, places, Agree, Carried, CNAgain, CNRoom}
use Rattle.theorems.proofs.LawsAnswer.{sound_of}
use Rattle.theorems.proofs.DemandTracks.{never}
use Rattle.theorems.proofs.DemandOrder.{All, Sound}
use Rattle.theorems.proofs.DemandRuns.{arity_same}
use Rattle.theorems.proofs.SoundFacts.{test, facts}
use Rattle.theorems.proofs.Soundness.{and}
use Rattle.theorems.proofs.SoundRead.{Fine, ReadWell, given, well_read}
use Rattle.theorems.proofs.ReadyTold.{Fits, Grown, Reads as Gives, made as given_so, no_place}
use Rattle.theorems.proofs.TotalNine.{nine_in}
use Rattle.theorems.proofs.CanonicalAgree.{numbered as as_numbered, numbered_alike, number_back, in_met}
use Rattle.theorems.proofs.CanonicalBytes.{plain, Within, parse, deep, parse_back}
use Rattle.theorems.proofs.CanonicalSpelled.{Stands, canonical_is}
use Rattle.theorems.proofs.CanonicalReady.{StandsFor, news_few, Resolved, resolved, ran_in, ready_reads}
use Rattle.theorems.proofs.CanonicalOne.{Spelling, of_record, short, within_same}
use Rattle.theorems.proofs.CanonicalRD.{reads_CN}
use Rattle.theorems.proofs.ReadBack.{made}
use Rattle.theorems.proofs.CanonicalRead.{read_of, ToldOf, told_of, type_parses}
use Rattle.theorems.proofs.CanonicalBuilt.{places_tree, stands_reads}
use Rattle.theorems.proofs.LawsAnswer.{if_short, with_is}

-- ---- a numbered type is numbered as it stands

pub numbered_twice : (r : ReadType) → as_numbered (as_numbered r) ≡ as_numbered r
numbered_twice r = sym ((numbered_alike r (as_numbered r)).1 agrees)
  where
    agrees : Agree r (as_numbered r)
    agrees = record {
      renaming = λ v. number_of (met_in r) v;
      one_to_one = λ v w m n e. sym (number_back (met_in r) v (in_met r v m)) ∙ ap (λ (i : ℕ). get_or (met_in r) i 0) e ∙ number_back (met_in r) w (in_met r w n);
      renamed = refl;
    }

-- ---- parts are smaller, in the table and past it

module _ {ar : TypeName → ℕ} {s : State} (w : Sound ar s) where
  outside : (t : ℕ) → count s ≤ t → type_at s t ≡ UnresolvedError
  unfolding type_at node with_args
  outside t h = ap (λ (n : Node). with_args s n.value) (get_or-eq_default s.nodes nowhere h)

  smaller : (t : ℕ) → All (λ p. p < t) (parts (type_at s t))
  unfolding parts
  smaller t = go (ltb t (count s)) refl
    where
      go : (b : Bool) → ltb t (count s) ≡ b → All (λ p. p < t) (parts (type_at s t))
      go true e = w.parts_below t (ltb→lt t (count s) (test e))
      go false e = rw (outside t (nltb→le t (count s) (test (ap not e)))) tt

-- ---- the answer, by the run

abbrev shown : State → Result (State × ℕ) → Result (State × Bytes)
shown s m = m >>= (λ (x : State × ℕ). ok (s, canonical x.0 x.1))

-- a payload that fits
fits : (s : State) (p : Bytes) → length p ≤ 4096 → ((answer s (ok (s, p))).number ≡ 0) × ((answer s (ok (s, p))).payload ≡ p)
unfolding answer answer_within behind
fits s p h = rw (with_is s 0 p s, le-leb (length p) 4096 h) (refl, refl)

not_7 : (s : State) (p : Bytes) → (answer s (ok (s, p))).number ≢ 7
unfolding answer answer_within behind
not_7 s p = rw (with_is s 0 p s) (go (leb (length p) 4096))
  where
    go : (b : Bool) → (if_short s 0 p s b).number ≢ 7
    go true e = absurd (omega (arith, e))
    go false e = absurd (omega (arith, e))

nine_not_7 : (s : State) → (answer s (refused runs_into_itself)).number ≢ 7
unfolding answer answer_within refusal number_of_refusal
nine_not_7 s e = absurd (omega (arith, e))

full_is_7 : (s : State) → (answer s (refused full)).number ≡ 7
unfolding answer answer_within refusal number_of_refusal
full_is_7 s = refl

-- ---- what is carried

module _ (s' : State) (p : Bytes) (c : Carried s' p) (h : sound s' ≡ true) where
  abbrev q : ReadType
  q = read_of c.tree

  fine : Fine (arity s') (taken s') c.tree
  fine = go (rw c.is_CN at (well_read ⊥ s' (67 ∷ 78 ∷ p) (λ z. absurd z)))
    where
      go : {n : ℕ} → ReadWell ⊥ s' n (got (CN c.tree) []) → Fine (arity s') (taken s') c.tree
      go (given f i l) = f.0

  is_built : Gives (arity s') (StandsFor q) s' (tags q) (places q) (ok (c.placed, c.node))
  is_built = rw c.build_gives at (places_tree fine (facts s' h) (omega arith))

  run_is : run s' (CN c.tree) ≡ shown s' (ready_tvars c.placed c.node)
  unfolding run ◌>>=◌
  run_is = rw c.build_gives refl

  answered : (buffer : ℕ) → usable s' (67 ∷ 78 ∷ p) buffer ≡ true → step s' (67 ∷ 78 ∷ p) buffer ≡ answer s' (shown s' (ready_tvars c.placed c.node))
  unfolding step lent reply apart most_of tail_of answer
  answered buffer u = rw (u, step) (rw c.is_CN (rw run_is refl))

  module _ (a : Grown (arity s') s' c.placed) (i : c.node < count c.placed) (d : Stands c.placed (type_at c.placed c.node) q) where
    unbound_after : (v : ℕ) → Meets c.placed v (type_at c.placed c.node) → get c.placed v ≡ None
    unbound_after v m = a.same_get v ∙ c.unbound_there v m

    is_ready : Resolved (arity s') c.placed q (ready_tvars c.placed c.node)
    is_ready = ready_reads a.sound_after c.node i q (stands_reads c.placed d unbound_after)

    not_nine : ready_tvars c.placed c.node ≡ refused runs_into_itself → ⊥
    not_nine e = let l = (nine_in a.sound_after c.node i).0 e in never (let x = l.itself.bound in let y = unbound_after l.variable l.meets in cc)

  -- room
  module _ (nodes : 2 * count c.placed ≤ max_nodes + count s') (args : 2 * length c.placed.args ≤ max_args + length s'.args) where
    no_seven : (m : Result (State × ℕ)) → Resolved (arity s') c.placed q m → Fits c.placed (tags q) (places q) → (answer s' (shown s' m)).number ≢ 7
    unfolding ◌>>=◌
    no_seven (ok (S2, t)) (resolved g) w = not_7 s' (canonical S2 t)
    no_seven (err s x) (resolved g) w = elim g [ ]
    no_seven (refused x) (resolved (no_place d)) w = absurd (d (omega (arith, w.0, news_few q), w.1))
    no_seven (refused x) ran_in w = nine_not_7 s'

    room_left : Gives (arity s') (StandsFor q) s' (tags q) (places q) (ok (c.placed, c.node)) → (answer s' (shown s' (ready_tvars c.placed c.node))).number ≢ 7
    room_left (given_so a i) = no_seven _ (is_ready a.grown i.0 i.1) (omega (arith, nodes, a.nodes_are), omega (arith, args, a.places_are))

  -- again
  module _ (same : plain (as_numbered q) ≡ p) (few : length p ≤ 4096) where
    again_by : {m : Result (State × ℕ)} → Resolved (arity s') c.placed q m → (m ≡ refused runs_into_itself → ⊥) → (answer s' (shown s' m)).number ≢ 7 → ((answer s' (shown s' m)).number ≡ 0) × ((answer s' (shown s' m)).payload ≡ p)
    unfolding ◌>>=◌
    again_by (resolved (given_so {S' = S2} {x = t} a i)) n x = rw (canonical_is S2 (smaller a.grown.sound_after) t i.0 i.1 ∙ same) (fits s' p few)
    again_by (resolved (no_place d)) n x = absurd (x (full_is_7 s'))
    again_by ran_in n x = absurd (n refl)

    again_in : Gives (arity s') (StandsFor q) s' (tags q) (places q) (ok (c.placed, c.node)) → ((answer s' (shown s' (ready_tvars c.placed c.node))).number ≢ 7)
        → ((answer s' (shown s' (ready_tvars c.placed c.node))).number ≡ 0) × ((answer s' (shown s' (ready_tvars c.placed c.node))).payload ≡ p)
    again_in (given_so a i) x = again_by (is_ready a.grown i.0 i.1) (not_nine a.grown i.0 i.1) x

  -- what is read is what the bytes say
  tree_is : (r : ReadType) → p ≡ plain (as_numbered r) → Within (arity s') (as_numbered r) → q ≡ as_numbered r
  tree_is r e w = go (drop 4094 p) (read_type s' (take 4094 p)) refl (sym (reads_CN s' p) ∙ c.is_CN) (type_parses s' (take 4094 p))
    where
      nothing_first : (xs ys : Bytes) → xs ++ ys ≡ [] → xs ≡ []
      nothing_first [] ys e = refl
      nothing_first (x ∷ xs) ys e = never (cc)

      nothing_more : (xs ys : Bytes) → xs ++ ys ≡ [] → ys ≡ []
      nothing_more [] ys e = e
      nothing_more (x ∷ xs) ys e = never (cc)

      whole : drop 4094 p ≡ [] → take 4094 p ≡ plain (as_numbered r) ++ []
      whole z = sym (append-nil (take 4094 p)) ∙ ap (λ (l : Bytes). take 4094 p ++ l) (sym z) ∙ take-append-drop 4094 p ∙ e ∙ sym (append-nil (plain (as_numbered r)))

      go : (more : Bytes) (x : Read Tree) → drop 4094 p ≡ more → made s' CN more x ≡ got (CN c.tree) [] → ToldOf (λ t rest. (m : ℕ) → 64 ≤ m → parse (arity s') m (take 4094 p) ≡ (read_of t, rest)) x → q ≡ as_numbered r
      go more (got t rest) z f (told_of u) =
          let n : ℕ = 64 + deep (arity s') (as_numbered r) in
          let same_tree : t ≡ c.tree = cc in
          let all_read : rest ++ more ≡ [] = cc in
          let back : parse (arity s') n (take 4094 p) ≡ (as_numbered r, []) = ap (λ (l : Bytes). parse (arity s') n l) (whole (z ∙ nothing_more rest more all_read)) ∙ parse_back (arity s') w n (omega arith) [] in
          ap read_of (sym same_tree) ∙ ap (λ (x : ReadType × Bytes). x.0) (sym (u n (omega arith)) ∙ back)
      go more (not_read x) z f u = never (cc)

not_usable : (s : State) (bytes : Bytes) (buffer : ℕ) → usable s bytes buffer ≡ false → (step s bytes buffer).number ≡ 15
unfolding step refusal number_of_refusal
not_usable s bytes buffer e = rw (e, step) refl

is_usable : (s : State) (p : Bytes) (buffer : ℕ) → 4096 ≤ buffer → sound s ≡ true → usable s (67 ∷ 78 ∷ p) buffer ≡ true
unfolding usable least_buffer max_buffer
is_usable s p buffer l h = and (le-leb 4096 buffer l) h

-- not 7, where beside what reading takes as much again is left
pub cn_room : (s : State) → CNRoom s
unfolding CNRoom
cn_room s p buffer c n a = go (usable s (67 ∷ 78 ∷ p) buffer) refl
  where
    go : (b : Bool) → usable s (67 ∷ 78 ∷ p) buffer ≡ b → (step s (67 ∷ 78 ∷ p) buffer).number ≢ 7
    go true e = let h : sound s ≡ true = sound_of s (67 ∷ 78 ∷ p) buffer e in rw (answered s p c h buffer e) (room_left s p c h n a (is_built s p c h))
    go false e = rw (not_usable s (67 ∷ 78 ∷ p) buffer e) (λ x. absurd (omega (arith, x)))

-- the same bytes, or 7
pub cn_again : (s s' : State) → CNAgain s s'
unfolding CNAgain
cn_again s s' bytes p buffer buffer' r e x c h l n =
    rw (is (is_usable s' p buffer' l h)) (again_in s' p c h same (short s bytes buffer p r x) (is_built s' p c h) (rw (is (is_usable s' p buffer' l h)) at n))
  where
    is : usable s' (67 ∷ 78 ∷ p) buffer' ≡ true → step s' (67 ∷ 78 ∷ p) buffer' ≡ answer s' (shown s' (ready_tvars c.placed c.node))
    is u = answered s' p c h buffer' u

    spelled : Spelling s p r
    spelled = of_record s bytes buffer p r x

    within : Within (arity s') (as_numbered r)
    within = within_same (arity s) (arity s') (λ m. arity_same s' s e m) (spelled.fields_within (short s bytes buffer p r x))

    same : plain (as_numbered (read_of c.tree)) ≡ p
    same = ap (λ (y : ReadType). plain (as_numbered y)) (tree_is s' p c h r spelled.spelled_as within) ∙ ap plain (numbered_twice r) ∙ sym spelled.spelled_as

-- R-11: two states that are alike through a renumbering of nodes and one of variables: what is written, followed, read out and counted of a type
-- in the one is what it is in the other, with variables renumbered. Assumes nothing.
use mathlib.Core.Path.{◌≡◌, refl, ap, ◌∙◌, subst}
use mathlib.Core.Bool.{Bool, true, false}
use mathlib.Core.List.{List, [], ◌∷◌, ◌++◌, map, Memᴰ}
use Rattle.std.specs.Prelude.{Option, None, Some}
use Prim.Native.Nat.{ℕ, zero, suc, ◌+◌, ◌≤◌, ◌<◌}
use native.Mathlib.Omega.{arith}
use lib.ListN.{length, length-append}
use Rattle.definition.specs.Types.{TypeName, TypeValue, UnitType, Ref, Param, Apply, Var, Anything, UnresolvedError, Spanned, Node, State}
use Rattle.definition.specs.Store.{count, taken, type_at, loc_of, spanned, get, with_node, all_of}
use Rattle.definition.specs.Subst.{as_var, parts, forward_tvar, unfold_var, unfold_type, goes_on_to, ends_in}
use Rattle.definition.specs.Write.{Bytes, u32, u16, head, each, write_down}
use Rattle.theorems.specs.ReadySpelled.{led_var, led, total, summed}
use Rattle.theorems.proofs.Laws.{value_old, node_old, count_with_node, get_with_node}
use Rattle.theorems.proofs.LawsChains.{ends_same}
use Rattle.theorems.proofs.DemandTracks.{never, ends_det}
use Rattle.theorems.proofs.DemandOrder.{Sound, chain}
use Rattle.theorems.proofs.DemandSteps.{NodeOk, quiet_node, sound_node}
use Rattle.theorems.proofs.SoundFacts.{of_member}
use Rattle.theorems.proofs.KeepSame.{through}
use Rattle.theorems.proofs.KeepSound.{parts_through, mapped}

-- ---- payloads with variables renumbered

unfoldable pub renumbered : (ℕ → ℕ) → TypeValue → TypeValue
renumbered f UnitType = UnitType
renumbered f (Ref m t) = Ref m t
renumbered f (Param id a) = Param id a
renumbered f (Apply k n ts) = Apply k n ts
renumbered f (Var v) = Var (f v)
renumbered f Anything = Anything
renumbered f UnresolvedError = UnresolvedError

-- as write_down, each variable under the number that f gives it
unfoldable pub written_as : (ℕ → ℕ) → ℕ → State → Spanned TypeValue → Bytes
written_as f zero s t = []
written_as f (suc n) s t = head t.loc (renumbered f t.value) ++ each (λ p. written_as f n s (spanned s p)) (parts t.value)

-- .. of what a type is read out as
unfoldable pub read_as : (ℕ → ℕ) → ℕ → State → Spanned TypeValue → Bytes
read_as f zero s t = []
read_as f (suc n) s t = head (led s t).loc (renumbered f (led s t).value) ++ each (λ p. read_as f n s (spanned s p)) (parts (led s t).value)

-- whether reading it ends within n levels below, and a sum over n levels below
unfoldable pub ends_at : ℕ → State → Spanned TypeValue → Bool
ends_at n s t = all_of (λ p. ends_in n s p) (parts (unfold_type s t).value)

unfoldable pub summed_at : (TypeValue → ℕ) → ℕ → State → Spanned TypeValue → ℕ
summed_at h n s t = h (led s t).value + total (λ p. summed h n s p) (parts (led s t).value)

head_through : (f g : ℕ → ℕ) (l : ℕ) (x : TypeValue) → head l (through f g x) ≡ head l (renumbered f x)
unfolding head through renumbered
head_through f g l UnitType = refl
head_through f g l (Ref m t) = refl
head_through f g l (Param id a) = refl
head_through f g l (Apply k n ts) = refl
head_through f g l (Var v) = refl
head_through f g l Anything = refl
head_through f g l UnresolvedError = refl

head_renumbered : (f g : ℕ → ℕ) (l : ℕ) (x : TypeValue) → head l (renumbered (λ v. v) (through f g x)) ≡ head l (renumbered f x)
unfolding head through renumbered
head_renumbered f g l UnitType = refl
head_renumbered f g l (Ref m t) = refl
head_renumbered f g l (Param id a) = refl
head_renumbered f g l (Apply k n ts) = refl
head_renumbered f g l (Var v) = refl
head_renumbered f g l Anything = refl
head_renumbered f g l UnresolvedError = refl

pub each_mapped : (F : ℕ → Bytes) (g : ℕ → ℕ) (ps : List ℕ) → each F (map g ps) ≡ each (λ p. F (g p)) ps
unfolding each
each_mapped F g [] = refl
each_mapped F g (p ∷ ps) = ap (λ (b : Bytes). F (g p) ++ b) (each_mapped F g ps)

pub each_on : (F G : ℕ → Bytes) (ps : List ℕ) → ((p : ℕ) → Memᴰ p ps → F p ≡ G p) → each F ps ≡ each G ps
unfolding each
each_on F G [] h = refl
each_on F G (p ∷ ps) h = rw (h p (Memᴰ.head refl), each_on F G ps (λ q m. h q (Memᴰ.tail m))) refl

total_mapped : (F : ℕ → ℕ) (g : ℕ → ℕ) (ps : List ℕ) → total F (map g ps) ≡ total (λ p. F (g p)) ps
unfolding total
total_mapped F g [] = refl
total_mapped F g (p ∷ ps) = ap (λ (n : ℕ). F (g p) + n) (total_mapped F g ps)

total_on : (F G : ℕ → ℕ) (ps : List ℕ) → ((p : ℕ) → Memᴰ p ps → F p ≡ G p) → total F ps ≡ total G ps
unfolding total
total_on F G [] h = refl
total_on F G (p ∷ ps) h = rw (h p (Memᴰ.head refl), total_on F G ps (λ q m. h q (Memᴰ.tail m))) refl

test_mapped : (F : ℕ → Bool) (g : ℕ → ℕ) (ps : List ℕ) → all_of F (map g ps) ≡ all_of (λ p. F (g p)) ps
unfolding all_of
test_mapped F g [] = refl
test_mapped F g (p ∷ ps) = ap (λ (b : Bool). elim (F (g p)) [ true ↦ b | false ↦ false ]) (test_mapped F g ps)

test_on : (F G : ℕ → Bool) (ps : List ℕ) → ((p : ℕ) → Memᴰ p ps → F p ≡ G p) → all_of F ps ≡ all_of G ps
unfolding all_of
test_on F G [] h = refl
test_on F G (p ∷ ps) h = step (F p) (G p) _ _ (h p (Memᴰ.head refl)) (test_on F G ps (λ q m. h q (Memᴰ.tail m)))
  where
    step : (b c x y : Bool) → b ≡ c → x ≡ y → ◌≡◌ {A = Bool} (elim b [ true ↦ x | false ↦ false ]) (elim c [ true ↦ y | false ↦ false ])
    step true true x y d e = e
    step false false x y d e = refl
    step true false x y d e = never (cc)
    step false true x y d e = never (cc)

pub spanned_is : {a b : ℕ} {x y : TypeValue} → a ≡ b → x ≡ y → ◌≡◌ {A = Spanned TypeValue} (record { loc = a; value = x }) (record { loc = b; value = y })
spanned_is e d = rw (e, d) refl

loc_kept : (s : State) (l : ℕ) (x : TypeValue) (i : ℕ) → i < count s → loc_of (with_node s l x) i ≡ loc_of s i
unfolding loc_of
loc_kept s l x i h = ap (λ (n : Node). n.loc) (node_old s l x i h)

-- ---- alike on a set N of nodes and a set V of variables

pub record Alike (f g : ℕ → ℕ) (N V : ℕ → Type 0) (S S' : State) : Type 0 where
  pub types : (t : ℕ) → N t → type_at S' (g t) ≡ through f g (type_at S t)
  pub locs : (t : ℕ) → N t → loc_of S' (g t) ≡ loc_of S t
  pub binds : (v : ℕ) → V v → get S' (f v) ≡ mapped g (get S v)
  pub ends : (v : ℕ) → V v → forward_tvar S' (f v) ≡ f (forward_tvar S v)
  -- the sets are closed, and land in S'
  pub part_in : (t p : ℕ) → N t → Memᴰ p (parts (type_at S t)) → N p
  pub var_in : (t v : ℕ) → N t → type_at S t ≡ Var v → V v
  pub binding_in : (v t : ℕ) → V v → get S v ≡ Some t → N t
  pub end_in : (v : ℕ) → V v → V (forward_tvar S v)
  pub node_lands : (t : ℕ) → N t → g t < count S'
  pub var_lands : (v : ℕ) → V v → f v < taken S'

-- a type whose parts and variable are in the sets
pub record Inside (N V : ℕ → Type 0) (x : TypeValue) : Type 0 where
  pub parts_in : (p : ℕ) → Memᴰ p (parts x) → N p
  pub its_var : (v : ℕ) → x ≡ Var v → V v

module _ {f g : ℕ → ℕ} {N V : ℕ → Type 0} {S S' : State} (a : Alike f g N V S S') where
  abbrev pub moved_to : Spanned TypeValue → Spanned TypeValue
  moved_to x = record { loc = x.loc; value = through f g x.value }

  node_inside : (t : ℕ) → N t → Inside N V (type_at S t)
  node_inside t i = record { parts_in = λ p m. a.part_in t p i m; its_var = λ v e. a.var_in t v i e }

  pub var_inside : (v : ℕ) → V v → Inside N V (Var v)
  unfolding parts
  var_inside v i = record { parts_in = λ p m. absurd (mathlib.Core.List.Memᴰ.not-nil m); its_var = λ w e. let c : v ≡ w = cc in subst V c i }

  spanned_inside : (t : ℕ) → N t → Inside N V (spanned S t).value
  unfolding spanned
  spanned_inside t i = node_inside t i

  node_moved : (t : ℕ) → N t → spanned S' (g t) ≡ moved_to (spanned S t)
  unfolding spanned
  node_moved t i = spanned_is (a.locs t i) (a.types t i)

  -- what is written
  pub write_alike : (n : ℕ) (x : Spanned TypeValue) → Inside N V x.value → write_down n S' (moved_to x) ≡ written_as f n S x
  unfolding write_down written_as
  write_alike zero x i = refl
  write_alike (suc n) x i =
      rw (head_through f g x.loc x.value, parts_through f g x.value, each_mapped (λ p. write_down n S' (spanned S' p)) g (parts x.value))
      (ap (λ (b : Bytes). head x.loc (renumbered f x.value) ++ b) (each_on (λ p. write_down n S' (spanned S' (g p))) (λ p. written_as f n S (spanned S p)) (parts x.value) (λ p m.
      ap (write_down n S') (node_moved p (i.parts_in p m)) ∙ write_alike n (spanned S p) (spanned_inside p (i.parts_in p m)))))

  -- what a type is unfolded to, and what it leads to
  unfolded_var : (l v : ℕ) (o : Option ℕ) → V v → get S v ≡ o → unfold_var S' l (mapped g o) ≡ moved_to (unfold_var S l o)
  unfolding unfold_var mapped through
  unfolded_var l v None i e = refl
  unfolded_var l v (Some t) i e = node_moved t (a.binding_in v t i e)

  led_var_moved : (l v : ℕ) (o : Option ℕ) → V v → get S v ≡ o → led_var S' l (f v) (mapped g o) ≡ moved_to (led_var S l v o)
  unfolding led_var mapped through
  led_var_moved l v None i e = refl
  led_var_moved l v (Some t) i e = node_moved t (a.binding_in v t i e)

  end_binds : (v : ℕ) → V v → get S' (forward_tvar S' (f v)) ≡ mapped g (get S (forward_tvar S v))
  end_binds v i = ap (get S') (a.ends v i) ∙ a.binds (forward_tvar S v) (a.end_in v i)

  pub unfold_alike : (x : Spanned TypeValue) → Inside N V x.value → unfold_type S' (moved_to x) ≡ moved_to (unfold_type S x)
  unfolding unfold_type as_var through
  unfold_alike x i = go x.value i
    where
      go : (y : TypeValue) → Inside N V y → unfold_type S' (record { loc = x.loc; value = through f g y }) ≡ moved_to (unfold_type S (record { loc = x.loc; value = y }))
      go UnitType j = refl
      go (Ref m t) j = refl
      go (Param id b) j = refl
      go (Apply k n ts) j = refl
      go (Var v) j = let q = j.its_var v refl in ap (unfold_var S' x.loc) (end_binds v q) ∙ unfolded_var x.loc (forward_tvar S v) (get S (forward_tvar S v)) (a.end_in v q) refl
      go Anything j = refl
      go UnresolvedError j = refl

  pub led_alike : (x : Spanned TypeValue) → Inside N V x.value → led S' (moved_to x) ≡ moved_to (led S x)
  unfolding led as_var through
  led_alike x i = go x.value i
    where
      go : (y : TypeValue) → Inside N V y → led S' (record { loc = x.loc; value = through f g y }) ≡ moved_to (led S (record { loc = x.loc; value = y }))
      go UnitType j = refl
      go (Ref m t) j = refl
      go (Param id b) j = refl
      go (Apply k n ts) j = refl
      go (Var v) j =
          let q = j.its_var v refl in
          ap (λ (w : ℕ). led_var S' x.loc w (get S' w)) (a.ends v q) ∙ ap (led_var S' x.loc (f (forward_tvar S v))) (a.binds (forward_tvar S v) (a.end_in v q))
          ∙ led_var_moved x.loc (forward_tvar S v) (get S (forward_tvar S v)) (a.end_in v q) refl
      go Anything j = refl
      go UnresolvedError j = refl

  bound_inside : (v : ℕ) (o : Option ℕ) (y : Spanned TypeValue) → V v → get S v ≡ o → Inside N V y.value → Inside N V (elim o as (λ o. Spanned TypeValue) [ None ↦ y | Some t ↦ spanned S t ]).value
  bound_inside v None y i e k = k
  bound_inside v (Some t) y i e k = spanned_inside t (a.binding_in v t i e)

  any_inside : Inside N V Anything
  unfolding parts
  any_inside = record { parts_in = λ p m. absurd (mathlib.Core.List.Memᴰ.not-nil m); its_var = λ w e. never (cc) }

  pub unfold_inside : (x : Spanned TypeValue) → Inside N V x.value → Inside N V (unfold_type S x).value
  unfolding unfold_type as_var unfold_var
  unfold_inside x i = go x.value i
    where
      go : (y : TypeValue) → Inside N V y → Inside N V (unfold_type S (record { loc = x.loc; value = y })).value
      go UnitType j = j
      go (Ref m t) j = j
      go (Param id b) j = j
      go (Apply k n ts) j = j
      go (Var v) j = let q = j.its_var v refl in bound_inside (forward_tvar S v) (get S (forward_tvar S v)) (record { loc = x.loc; value = Anything }) (a.end_in v q) refl any_inside
      go Anything j = j
      go UnresolvedError j = j

  pub led_inside : (x : Spanned TypeValue) → Inside N V x.value → Inside N V (led S x).value
  unfolding led as_var led_var
  led_inside x i = go x.value i
    where
      go : (y : TypeValue) → Inside N V y → Inside N V (led S (record { loc = x.loc; value = y })).value
      go UnitType j = j
      go (Ref m t) j = j
      go (Param id b) j = j
      go (Apply k n ts) j = j
      go (Var v) j = let q = j.its_var v refl in bound_inside (forward_tvar S v) (get S (forward_tvar S v)) (record { loc = x.loc; value = Var (forward_tvar S v) }) (a.end_in v q) refl (var_inside (forward_tvar S v) (a.end_in v q))
      go Anything j = j
      go UnresolvedError j = j

  -- what a type is read out as
  pub read_alike : (n : ℕ) (x : Spanned TypeValue) → Inside N V x.value → read_as (λ v. v) n S' (moved_to x) ≡ read_as f n S x
  unfolding read_as
  read_alike zero x i = refl
  read_alike (suc n) x i =
      rw (led_alike x i, head_renumbered f g (led S x).loc (led S x).value, parts_through f g (led S x).value, each_mapped (λ p. read_as (λ v. v) n S' (spanned S' p)) g (parts (led S x).value))
      (ap (λ (b : Bytes). head (led S x).loc (renumbered f (led S x).value) ++ b) (each_on (λ p. read_as (λ v. v) n S' (spanned S' (g p))) (λ p. read_as f n S (spanned S p)) (parts (led S x).value) (λ p m.
      let j = (led_inside x i).parts_in p m in ap (read_as (λ v. v) n S') (node_moved p j) ∙ read_alike n (spanned S p) (spanned_inside p j))))

  -- sums over it, and whether it ends within n levels
  summed_parts : (h : TypeValue → ℕ) → ((x : TypeValue) → h (through f g x) ≡ h x) → (n : ℕ) → ((p : ℕ) → N p → summed h n S' (g p) ≡ summed h n S p)
      → (x : Spanned TypeValue) → Inside N V x.value → summed_at h n S' (moved_to x) ≡ summed_at h n S x
  unfolding summed_at
  summed_parts h same n below x i =
      rw (led_alike x i, same (led S x).value, parts_through f g (led S x).value, total_mapped (λ p. summed h n S' p) g (parts (led S x).value))
      (ap (λ (k : ℕ). h (led S x).value + k) (total_on (λ p. summed h n S' (g p)) (λ p. summed h n S p) (parts (led S x).value) (λ p m. below p ((led_inside x i).parts_in p m))))

  summed_node : (h : TypeValue → ℕ) → ((x : TypeValue) → h (through f g x) ≡ h x) → (n t : ℕ) → N t → summed h n S' (g t) ≡ summed h n S t
  unfolding summed summed_at
  summed_node h same zero t i = refl
  summed_node h same (suc n) t i = ap (summed_at h n S') (node_moved t i) ∙ summed_parts h same n (λ p j. summed_node h same n p j) (spanned S t) (spanned_inside t i)

  pub summed_alike : (h : TypeValue → ℕ) → ((x : TypeValue) → h (through f g x) ≡ h x) → (n : ℕ) (x : Spanned TypeValue) → Inside N V x.value → summed_at h n S' (moved_to x) ≡ summed_at h n S x
  summed_alike h same n x i = summed_parts h same n (λ p j. summed_node h same n p j) x i

  ends_parts : (n : ℕ) → ((p : ℕ) → N p → ends_in n S' (g p) ≡ ends_in n S p) → (x : Spanned TypeValue) → Inside N V x.value → ends_at n S' (moved_to x) ≡ ends_at n S x
  unfolding ends_at
  ends_parts n below x i =
      rw (unfold_alike x i, parts_through f g (unfold_type S x).value, test_mapped (λ p. ends_in n S' p) g (parts (unfold_type S x).value))
      (test_on (λ p. ends_in n S' (g p)) (λ p. ends_in n S p) (parts (unfold_type S x).value) (λ p m. below p ((unfold_inside x i).parts_in p m)))

  ends_node : (n t : ℕ) → N t → ends_in n S' (g t) ≡ ends_in n S t
  unfolding ends_in goes_on_to ends_at
  ends_node zero t i = refl
  ends_node (suc n) t i = ap (ends_at n S') (node_moved t i) ∙ ends_parts n (λ p j. ends_node n p j) (spanned S t) (spanned_inside t i)

  pub ends_alike : (n : ℕ) (x : Spanned TypeValue) → Inside N V x.value → ends_at n S' (moved_to x) ≡ ends_at n S x
  ends_alike n x i = ends_parts n (λ p j. ends_node n p j) x i

  -- .. also where a type is placed in the second: the nodes and variables of before are as they were
  pub alike_placed : {ar : TypeName → ℕ} → Sound ar S' → (l : ℕ) (x : TypeValue) → NodeOk ar S' x → Alike f g N V S (with_node S' l x)
  unfolding with_node
  alike_placed s l x o = record {
    types = λ t i. value_old S' l x (g t) (a.node_lands t i) (s.places_in (g t) (a.node_lands t i)) ∙ a.types t i;
    locs = λ t i. loc_kept S' l x (g t) (a.node_lands t i) ∙ a.locs t i;
    binds = λ v i. get_with_node S' l x (f v) ∙ a.binds v i;
    ends = λ v i. ends_det (chain (sound_node s l x o) (f v) (a.var_lands v i)) (ends_same (quiet_node s l x).q_next (chain s (f v) (a.var_lands v i))) ∙ a.ends v i;
    part_in = a.part_in;
    var_in = a.var_in;
    binding_in = a.binding_in;
    end_in = a.end_in;
    node_lands = λ t i. omega (arith, a.node_lands t i, count_with_node S' l x);
    var_lands = a.var_lands;
  }

-- ---- levels: where reading ends, more of them change nothing

module _ (S : State) where
  same_parts : (x : Spanned TypeValue) → parts (led S x).value ≡ parts (unfold_type S x).value
  unfolding led led_var unfold_type unfold_var as_var parts
  same_parts x = go x.value
    where
      bound : (v : ℕ) (o : Option ℕ) → parts (elim o as (λ o. Spanned TypeValue) [ None ↦ record { loc = x.loc; value = Var v } | Some t ↦ spanned S t ]).value ≡ parts (elim o as (λ o. Spanned TypeValue) [ None ↦ record { loc = x.loc; value = Anything } | Some t ↦ spanned S t ]).value
      bound v None = refl
      bound v (Some t) = refl

      go : (y : TypeValue) → parts (led S (record { loc = x.loc; value = y })).value ≡ parts (unfold_type S (record { loc = x.loc; value = y })).value
      go UnitType = refl
      go (Ref m t) = refl
      go (Param id b) = refl
      go (Apply k n ts) = refl
      go (Var v) = bound (forward_tvar S v) (get S (forward_tvar S v))
      go Anything = refl
      go UnresolvedError = refl

  each_ends : (n : ℕ) (x : Spanned TypeValue) → ends_at n S x ≡ true → (p : ℕ) → Memᴰ p (parts (led S x).value) → ends_in n S p ≡ true
  unfolding ends_at
  each_ends n x e p m = of_member (λ p. ends_in n S p) (parts (unfold_type S x).value) e p (subst (λ (l : List ℕ). Memᴰ p l) (same_parts x) m)

  summed_more : (h : TypeValue → ℕ) (n m t : ℕ) → n ≤ m → ends_in n S t ≡ true → summed h n S t ≡ summed h m S t
  unfolding summed ends_in goes_on_to ends_at
  summed_more h zero m t l e = never (cc)
  summed_more h (suc n) zero t l e = absurd (omega arith)
  summed_more h (suc n) (suc m) t l e =
      ap (λ (k : ℕ). h (led S (spanned S t)).value + k) (total_on (λ p. summed h n S p) (λ p. summed h m S p) (parts (led S (spanned S t)).value) (λ p i. summed_more h n m p (omega arith) (each_ends n (spanned S t) e p i)))

  pub summed_levels : (h : TypeValue → ℕ) (n m : ℕ) (x : Spanned TypeValue) → n ≤ m → ends_at n S x ≡ true → summed_at h n S x ≡ summed_at h m S x
  unfolding summed_at
  summed_levels h n m x l e = ap (λ (k : ℕ). h (led S x).value + k) (total_on (λ p. summed h n S p) (λ p. summed h m S p) (parts (led S x).value) (λ p i. summed_more h n m p l (each_ends n x e p i)))

  read_more : (f : ℕ → ℕ) (n m t : ℕ) → n ≤ m → ends_in n S t ≡ true → read_as f n S (spanned S t) ≡ read_as f m S (spanned S t)
  unfolding read_as ends_in goes_on_to ends_at
  read_more f zero m t l e = never (cc)
  read_more f (suc n) zero t l e = absurd (omega arith)
  read_more f (suc n) (suc m) t l e =
      ap (λ (b : Bytes). head (led S (spanned S t)).loc (renumbered f (led S (spanned S t)).value) ++ b) (each_on (λ p. read_as f n S (spanned S p)) (λ p. read_as f m S (spanned S p)) (parts (led S (spanned S t)).value) (λ p i. read_more f n m p (omega arith) (each_ends n (spanned S t) e p i)))

  pub read_levels : (f : ℕ → ℕ) (n m : ℕ) (x : Spanned TypeValue) → n ≤ m → ends_at n S x ≡ true → read_as f (suc n) S x ≡ read_as f (suc m) S x
  unfolding read_as
  read_levels f n m x l e = ap (λ (b : Bytes). head (led S x).loc (renumbered f (led S x).value) ++ b) (each_on (λ p. read_as f n S (spanned S p)) (λ p. read_as f m S (spanned S p)) (parts (led S x).value) (λ p i. read_more f n m p l (each_ends n x e p i)))

-- ---- variables have two bytes, whatever their number

head_long : (f : ℕ → ℕ) (l : ℕ) (x : TypeValue) → length (head l (renumbered f x)) ≡ length (head l x)
unfolding head renumbered u16 u32
head_long f l UnitType = refl
head_long f l (Ref m t) = refl
head_long f l (Param id a) = refl
head_long f l (Apply k n ts) = refl
head_long f l (Var v) = refl
head_long f l Anything = refl
head_long f l UnresolvedError = refl

each_long : (F G : ℕ → Bytes) → ((p : ℕ) → length (F p) ≡ length (G p)) → (ps : List ℕ) → length (each F ps) ≡ length (each G ps)
unfolding each
each_long F G h [] = refl
each_long F G h (p ∷ ps) = omega (arith, length-append (F p) (each F ps), length-append (G p) (each G ps), h p, each_long F G h ps)

pub written_long : (f : ℕ → ℕ) (n : ℕ) (s : State) (x : Spanned TypeValue) → length (written_as f n s x) ≡ length (written_as (λ v. v) n s x)
unfolding written_as
written_long f zero s x = refl
written_long f (suc n) s x =
    omega (
      arith,
      length-append (head x.loc (renumbered f x.value)) (each (λ p. written_as f n s (spanned s p)) (parts x.value)),
      length-append (head x.loc (renumbered (λ v. v) x.value)) (each (λ p. written_as (λ v. v) n s (spanned s p)) (parts x.value)),
      head_long f x.loc x.value,
      head_long (λ v. v) x.loc x.value,
      each_long (λ p. written_as f n s (spanned s p)) (λ p. written_as (λ v. v) n s (spanned s p)) (λ p. written_long f n s (spanned s p)) (parts x.value),
    )

pub read_long : (f : ℕ → ℕ) (n : ℕ) (s : State) (x : Spanned TypeValue) → length (read_as f n s x) ≡ length (read_as (λ v. v) n s x)
unfolding read_as
read_long f zero s x = refl
read_long f (suc n) s x =
    omega (
      arith,
      length-append (head (led s x).loc (renumbered f (led s x).value)) (each (λ p. read_as f n s (spanned s p)) (parts (led s x).value)),
      length-append (head (led s x).loc (renumbered (λ v. v) (led s x).value)) (each (λ p. read_as (λ v. v) n s (spanned s p)) (parts (led s x).value)),
      head_long f (led s x).loc (led s x).value,
      head_long (λ v. v) (led s x).loc (led s x).value,
      each_long (λ p. read_as f n s (spanned s p)) (λ p. read_as (λ v. v) n s (spanned s p)) (λ p. read_long f n s (spanned s p)) (parts (led s x).value),
    )

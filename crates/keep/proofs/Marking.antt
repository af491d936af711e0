-- Marking a thing, and taking one that is not looked into yet. Assumes nothing.
use mathlib.Core.Path.{◌≡◌, refl, sym, ap, ◌∙◌}
use mathlib.Core.Logic.{◌⊎◌, inl, inr}
use mathlib.Core.Bool.{Bool, true, false}
use mathlib.Core.List.{List, [], ◌∷◌}
use Prim.Native.Nat.{ℕ, zero, suc, ◌+◌, ◌<◌}
use native.Mathlib.Omega.{arith}
use native.Mathlib.Decide.{ℕ_discrete, dec_lt}
use lib.ListN.{length, get_or, set, replicate, length-set, length-replicate}
use lib.Seq.{get_or-set_same, get_or-set_other}
use Rattle.std.proofs.lemmas.Bool.{false≢true}
use Rattle.definition.specs.Keep.{Thing, a_node, a_variable}
use Rattle.keep.specs.Marked.{thing_of, marked, Open, unmarked, ahead, Fits, Blank, Grown, MarksAll, Popped}
use Rattle.keep.specs.declared.marks.Marks.{Marks}
use Rattle.keep.specs.declared.marks.Thing as code
use Rattle.keep.specs.declared.marks.Thing.TheVariants as code_thing

-- ---- how many are not marked

pub unmarked_set : (l : List Bool) (t : ℕ) → t < length l → get_or l t false ≡ false → suc (unmarked (set l t true)) ≡ unmarked l
unfolding unmarked
unmarked_set [] t h e = absurd (omega arith)
unmarked_set (false ∷ l) zero h e = refl
unmarked_set (true ∷ l) zero h e = absurd (false≢true (sym e))
unmarked_set (false ∷ l) (suc t) h e = ap suc (unmarked_set l t (omega arith) e)
unmarked_set (true ∷ l) (suc t) h e = unmarked_set l t (omega arith) e

pub unmarked_none : (n : ℕ) → unmarked (replicate n false) ≡ n
unfolding unmarked
unmarked_none zero = refl
unmarked_none (suc n) = ap suc (unmarked_none n)

pub none_set : (n t : ℕ) → get_or (replicate n false) t false ≡ false
none_set zero t = refl
none_set (suc n) zero = refl
none_set (suc n) (suc t) = none_set n t

-- ---- marks that grow

module _ {P : Thing → Type 0} where
  pub grown_none : {m : Marks} → Fits m → Grown P m m
  grown_none f = record { fits = f; no_more = omega arith; stay = λ x h. h; stay_open = λ x o. o; fresh = λ x h. inl h }

  pub grown_trans : {m m' m'' : Marks} → Grown P m m' → Grown P m' m'' → Grown P m m''
  grown_trans {m = m} {m' = m'} {m'' = m''} g h = record { fits = h.fits; no_more = omega (arith, g.no_more, h.no_more); stay = λ x e. h.stay x (g.stay x e); stay_open = λ x o. h.stay_open x (g.stay_open x o); fresh = λ x e. by x (h.fresh x e) }
    where
      by : (x : Thing) → (marked m' x ≡ true) ⊎ (Open m'' x × P x) → (marked m x ≡ true) ⊎ (Open m'' x × P x)
      by x (inr n) = inr n
      by x (inl e) = elim (g.fresh x e) [ inl d ↦ inl d | inr n ↦ inr (h.stay_open x n.0, n.1) ]

pub grown_as : {P Q : Thing → Type 0} {m m' : Marks} → ((x : Thing) → P x → Q x) → Grown P m m' → Grown Q m m'
grown_as f g = record { fits = g.fits; no_more = g.no_more; stay = g.stay; stay_open = g.stay_open; fresh = λ x e. elim (g.fresh x e) [ inl d ↦ inl d | inr n ↦ inr (n.0, f x n.1) ] }

-- ---- one is marked

-- it is marked already
pub marked_already : (m : Marks) (x : Thing) → Fits m → marked m x ≡ true → MarksAll (λ y. y ≡ x) m m
marked_already m x f e = record { grown = grown_none f; all = λ y d. rw d e }

-- m' has one mark more, and x open besides
module _ (m m' : Marks) (x : Thing) (f : Fits m) (c : code.Thing) (is_x : thing_of c ≡ x) (opens : m'.stack ≡ set m.stack m.many c) (more : m'.many ≡ m.many + 1) (left : m.many < 3072)
    (room : ahead m' ≡ ahead m) (nodes : length m'.nodes ≡ 2048) (vars : length m'.vars ≡ 1024)
    (others : (y : Thing) → (y ≡ x → ⊥) → marked m' y ≡ marked m y) (now : marked m' x ≡ true) (same : (y : Thing) → Dec (y ≡ x)) where
  open_later : (i : ℕ) → i < m.many → get_or m'.stack i (code_thing.Node 0) ≡ get_or m.stack i (code_thing.Node 0)
  open_later i lt = rw opens (get_or-set_other m.stack m.many i c (code_thing.Node 0) (λ e. omega (arith, lt, e)))

  open_last : get_or m'.stack m.many (code_thing.Node 0) ≡ c
  open_last = rw opens (get_or-set_same m.stack m.many c (code_thing.Node 0) (rw f.long_open left))

  still_open : (y : Thing) → Open m y → Open m' y
  still_open y o = (o.0, omega (arith, more, o.1), ap thing_of (open_later o.0 o.1) ∙ o.2)

  x_open : Open m' x
  x_open = (m.many, omega (arith, more), ap thing_of open_last ∙ is_x)

  still : (y : Thing) → marked m y ≡ true → marked m' y ≡ true
  still y e = elim (same y) [ yes d ↦ rw d now | no d ↦ others y d ∙ e ]

  were_open : (y : Thing) → Open m' y → marked m' y ≡ true
  were_open y o = by (dec_lt o.0 m.many)
    where
      by : Dec (o.0 < m.many) → marked m' y ≡ true
      by (yes l) = still y (f.open_marked y (o.0, l, sym (ap thing_of (open_later o.0 l)) ∙ o.2))
      by (no l) =
          let e : o.0 ≡ m.many = omega (arith, more, o.1, l) in
          let last : get_or m'.stack o.0 (code_thing.Node 0) ≡ c = rw e open_last in
          let d : y ≡ x = sym o.2 ∙ ap thing_of last ∙ is_x in
          rw d now

  pub marked_now : MarksAll (λ y. y ≡ x) m m'
  marked_now = record {
    grown = record {
      fits = record { long_nodes = nodes; long_vars = vars; long_open = ap length opens ∙ length-set m.stack m.many c ∙ f.long_open; room = rw room f.room; open_marked = were_open };
      no_more = omega (arith, room);
      stay = still;
      stay_open = still_open;
      fresh = λ y e. elim (same y) [ yes d ↦ inr (rw d (x_open, refl)) | no d ↦ inl (sym (others y d) ∙ e) ];
    };
    all = λ y d. rw d now;
  }

-- ---- none is marked at first

pub blank : Blank (record { nodes = replicate 2048 false; vars = replicate 1024 false; stack = replicate 3072 (code_thing.Node 0); many = 0 })
blank = record {
  fits = record {
    long_nodes = length-replicate {A = Bool} 2048 false;
    long_vars = length-replicate {A = Bool} 1024 false;
    long_open = length-replicate {A = code.Thing} 3072 (code_thing.Node 0);
    room = omega (arith, unmarked_none 2048, unmarked_none 1024);
    open_marked = λ x o. absurd (omega (arith, o.1));
  };
  none = none;
}
  where
    none : (x : Thing) → marked (record { nodes = replicate 2048 false; vars = replicate 1024 false; stack = replicate 3072 (code_thing.Node 0); many = 0 }) x ≡ false
    none (a_node t) = none_set 2048 t
    none (a_variable v) = none_set 1024 v

-- ---- nodes and variables

same_thing : (x y : Thing) → Dec (x ≡ y)
same_thing (a_node t) (a_node u) = elim (ℕ_discrete t u) [ yes d ↦ yes (ap a_node d) | no d ↦ no (λ e. d (ap number_of e)) ]
  where
    number_of : Thing → ℕ
    number_of (a_node n) = n
    number_of (a_variable n) = n
same_thing (a_variable t) (a_variable u) = elim (ℕ_discrete t u) [ yes d ↦ yes (ap a_variable d) | no d ↦ no (λ e. d (ap number_of e)) ]
  where
    number_of : Thing → ℕ
    number_of (a_node n) = n
    number_of (a_variable n) = n
same_thing (a_node t) (a_variable v) = no (λ e. false≢true (ap is_var e))
  where
    is_var : Thing → Bool
    is_var (a_node n) = false
    is_var (a_variable n) = true
same_thing (a_variable v) (a_node t) = no (λ e. false≢true (sym (ap is_var e)))
  where
    is_var : Thing → Bool
    is_var (a_node n) = false
    is_var (a_variable n) = true

-- node t, or variable t, is marked and put last
module _ {m : Marks} (f : Fits m) {t : ℕ} where
  pub node_room : t < 2048 → get_or m.nodes t false ≡ false → m.many < 3072
  node_room h e = let u = unmarked_set m.nodes t (rw f.long_nodes h) e in omega (arith, f.room, u)

  pub var_room : t < 1024 → get_or m.vars t false ≡ false → m.many < 3072
  var_room h e = let u = unmarked_set m.vars t (rw f.long_vars h) e in omega (arith, f.room, u)

  pub marked_node : (c : code.Thing) → thing_of c ≡ a_node t → t < 2048 → get_or m.nodes t false ≡ false → MarksAll (λ y. y ≡ a_node t) m (record { nodes = set m.nodes t true; vars = m.vars; stack = set m.stack m.many c; many = m.many + 1 })
  marked_node c d h e =
      marked_now m _ (a_node t) f c d refl refl (node_room h e) (let u = unmarked_set m.nodes t (rw f.long_nodes h) e in omega (arith, f.room, u)) (length-set m.nodes t true ∙ f.long_nodes) f.long_vars others
      (get_or-set_same m.nodes t true false (rw f.long_nodes h)) (λ y. same_thing y (a_node t))
    where
      others : (y : Thing) → (y ≡ a_node t → ⊥) → marked (record { nodes = set m.nodes t true; vars = m.vars; stack = set m.stack m.many c; many = m.many + 1 }) y ≡ marked m y
      others (a_node u) n = get_or-set_other m.nodes t u true false (λ e. n (ap a_node e))
      others (a_variable v) n = refl

  pub marked_var : (c : code.Thing) → thing_of c ≡ a_variable t → t < 1024 → get_or m.vars t false ≡ false → MarksAll (λ y. y ≡ a_variable t) m (record { nodes = m.nodes; vars = set m.vars t true; stack = set m.stack m.many c; many = m.many + 1 })
  marked_var c d h e =
      marked_now m _ (a_variable t) f c d refl refl (var_room h e) (let u = unmarked_set m.vars t (rw f.long_vars h) e in omega (arith, f.room, u)) f.long_nodes (length-set m.vars t true ∙ f.long_vars) others
      (get_or-set_same m.vars t true false (rw f.long_vars h)) (λ y. same_thing y (a_variable t))
    where
      others : (y : Thing) → (y ≡ a_variable t → ⊥) → marked (record { nodes = m.nodes; vars = set m.vars t true; stack = set m.stack m.many c; many = m.many + 1 }) y ≡ marked m y
      others (a_node u) n = refl
      others (a_variable v) n = get_or-set_other m.vars t v true false (λ e. n (ap a_variable e))

-- ---- one that is not looked into yet is taken off

pub popped : (m : Marks) (last : ℕ) → Fits m → last + 1 ≡ m.many → Popped m (get_or m.stack last (code_thing.Node 0)) (record m { many = last })
popped m last f e = record {
  fits = record { long_nodes = f.long_nodes; long_vars = f.long_vars; long_open = f.long_open; room = omega (arith, f.room, e); open_marked = λ x o. same x ∙ f.open_marked x (o.0, omega (arith, e, o.1), o.2) };
  less = omega (arith, e);
  same = same;
  was_open = (last, omega (arith, e), refl);
  others = λ y o. by y o (ℕ_discrete o.0 last);
}
  where
    same : (y : Thing) → marked (record m { many = last }) y ≡ marked m y
    same (a_node t) = refl
    same (a_variable v) = refl

    by : (y : Thing) (o : Open m y) → Dec (o.0 ≡ last) → Open (record m { many = last }) y ⊎ (y ≡ thing_of (get_or m.stack last (code_thing.Node 0)))
    by y o (yes d) = inr (sym o.2 ∙ ap (λ (i : ℕ). thing_of (get_or m.stack i (code_thing.Node 0))) d)
    by y o (no d) = inl (o.0, omega (arith, e, o.1, d), o.2)

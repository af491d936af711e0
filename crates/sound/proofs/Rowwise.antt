-- The rows of variables, constraints and structs pass their tests just where they are the rows of entries that the state allows. Assumes nothing.
-- For each kind of row a record says what a good row is; `-good` goes from the test to it, `-was` back. Both by cases of the flag or the kind.
use mathlib.Core.Path.{◌≡◌, refl, sym, ap, ◌∙◌}
use mathlib.Core.Bool.{Bool, true, false, not, ◌&&◌}
use mathlib.Core.List.{List, [], ◌∷◌}
use Rattle.std.specs.Prelude.{None, Some}
use Prim.Native.Nat.{ℕ, zero, suc, ◌+◌, ◌*◌, ◌<◌, ◌%◌}
use native.Mathlib.Omega.{arith}
use lib.Dec.{eqb, leb, ltb}
use lib.ListN.{get_or}
use borrow.Author.Tests.{ltb-true, leb-true, eqb-true, lt-ltb, le-leb, eq-eqb, ne_eqb}
use Rattle.std.specs.Prelude.{if◌then◌else◌}
use Rattle.definition.specs.Types.{Struct, Node}
use Rattle.definition.specs.Store.{count, type_at, with_args, with_structs}
use Rattle.definition.specs.Subst.{is_anything}
use Rattle.definition.specs.Sound.{is_u32, at_node, constraint_allowed, binding_allowed, numeric_allowed, need_allowed, no_anything}
use Rattle.definition.specs.Trees.{is_set}
use Rattle.table.specs.Rows.{read_option, option_flag, option_word, read_shape, read_constraint, constraint_words, node_table}
use Rattle.table.specs.State.{view, seen}
use Rattle.table.specs.declared.Used.{Used}
use Rattle.table.proofs.Rows.{length_entries}
use Rattle.table.proofs.Fields.{node_made}
use Rattle.sound_fields.specs.Fields.{numeric_fine, need_fine}
use Rattle.sound_rows.specs.Rows.{binding_fine}
use Rattle.sound_fields.proofs.Below.{and_l, and_r, both, when_false}
use Rattle.sound.proofs.Fields.{Tag, tag_of, t0, t1, t2, t3, t4, t5, t6, t7, t8, beyond, mod_back, set_mod, set_was}
use Rattle.sound.proofs.Shapes.{anything_tag}

-- ---- a flag and a number

data Flag : ℕ → Type 0 where
  off : Flag 0
  on : Flag 1
  over : (n : ℕ) → 1 < n → Flag n

flag_is : (n : ℕ) → Flag n
flag_is zero = off
flag_is (suc zero) = on
flag_is (suc (suc n)) = over (suc (suc n)) (omega arith)

-- the option that they are read as is written as just them
pub record Back (is x : ℕ) : Type 0 where
  pub flag : option_flag (read_option is x) ≡ is
  pub word : option_word (read_option is x) ≡ x

read_over : (is x : ℕ) → 1 < is → read_option is x ≡ None
unfolding read_option
read_over is x h = when_false _ _ _ (ne_eqb is 1 (λ e. omega arith))

over_flag : (is x : ℕ) → 1 < is → option_flag (read_option is x) ≡ 0
unfolding option_flag
over_flag is x h = ap option_flag (read_over is x h)

pub numeric_good : (is x : ℕ) → numeric_fine is x ≡ true → Back is x
unfolding numeric_fine read_option option_flag option_word
numeric_good is x e = by is (flag_is is) e
  where
    by : (is : ℕ) → Flag is → numeric_fine is x ≡ true → Back is x
    by _ off e = record { flag = refl; word = sym (eqb-true x 0 e) }
    by _ on e = record { flag = refl; word = refl }
    by n (over _ h) e = absurd (let z : 1 < n = h in omega (arith, eqb-true n 1 (sym (when_false (eqb n 0) (eqb x 0) (eqb n 1) (ne_eqb n 0 (λ y. omega arith))) ∙ e)))

pub numeric_was : (is x : ℕ) → Back is x → numeric_fine is x ≡ true
unfolding numeric_fine read_option option_flag option_word
numeric_was is x b = by is (flag_is is) b
  where
    by : (is : ℕ) → Flag is → Back is x → numeric_fine is x ≡ true
    by _ off b = eq-eqb x 0 (sym b.word)
    by _ on b = refl
    by n (over _ h) b = absurd (omega (arith, sym (over_flag n x h) ∙ b.flag))

pub numeric_u32 : (is x : ℕ) → is_u32 x ≡ true → numeric_allowed (read_option is x) ≡ true
unfolding read_option numeric_allowed
numeric_u32 is x h = by (eqb is 1)
  where
    by : (t : Bool) → numeric_allowed (if t then Some x else None) ≡ true
    by true = h
    by false = refl

-- a need is tested as the definition allows it
pub need_same : (is x need : ℕ) → Back is x → need_fine is need ≡ need_allowed (read_option is x) need
unfolding need_fine need_allowed read_option
need_same is x need b = by is (flag_is is) b
  where
    by : (is : ℕ) → Flag is → Back is x → need_fine is need ≡ need_allowed (read_option is x) need
    by _ off b = refl
    by _ on b = refl
    by n (over _ h) b = absurd (omega (arith, sym (over_flag n x h) ∙ b.flag))

module _ (w : List ℕ) (u : Used) (ds : List Struct) where
  pub nodes_count : count (seen w u ds) ≡ u.nodes
  unfolding seen view with_structs
  nodes_count = length_entries node_table w u.nodes

  pub value_at : (x : ℕ) → x < u.nodes
      → type_at (seen w u ds) x ≡ with_args (seen w u ds) (read_shape (get_or w (5 + x * 6) 0) (get_or w (5 + x * 6 + 2) 0) (get_or w (5 + x * 6 + 3) 0) (get_or w (5 + x * 6 + 4) 0) (get_or w (5 + x * 6 + 5) 0))
  unfolding type_at
  value_at x h = ap (λ (n : Node). with_args (seen w u ds) n.value) (sym (node_made w u ds x _ _ h refl refl))

  -- a binding: just its words, to a node, and not to `_`
  pub record BindingGood (is x : ℕ) : Type 0 where
    pub back : Back is x
    pub allowed : binding_allowed (seen w u ds) (read_option is x) ≡ true
    pub knows : no_anything (seen w u ds) (read_option is x) ≡ true

  anything_word : (x : ℕ) → x < u.nodes → is_anything (type_at (seen w u ds) x) ≡ eqb (get_or w (5 + x * 6) 0) 7
  anything_word x h = ap is_anything (value_at x h) ∙ anything_tag (seen w u ds) _ _ _ _ _ (tag_of (get_or w (5 + x * 6) 0))

  pub binding_good : (is x : ℕ) → binding_fine w u is x ≡ true → BindingGood is x
  unfolding binding_fine read_option option_flag option_word binding_allowed no_anything
  binding_good is x e = by is (flag_is is) e
    where
      by : (is : ℕ) → Flag is → binding_fine w u is x ≡ true → BindingGood is x
      by _ off e = record { back = record { flag = refl; word = sym (eqb-true x 0 e) }; allowed = refl; knows = refl }
      by _ on e =
          let lt = and_l (ltb x u.nodes) (not (eqb (get_or w (5 + x * 6) 0) 7)) e in
          let h = ltb-true x u.nodes lt in
          record {
            back = record { flag = refl; word = refl };
            allowed = lt-ltb x (count (seen w u ds)) (omega (arith, nodes_count));
            knows = ap not (anything_word x h) ∙ and_r (ltb x u.nodes) (not (eqb (get_or w (5 + x * 6) 0) 7)) e;
          }
      by n (over _ h) e = absurd (let z : 1 < n = h in omega (arith, eqb-true n 1 (and_l (eqb n 1) (ltb x u.nodes) (and_l (eqb n 1 && ltb x u.nodes) (not (eqb (get_or w (5 + x * 6) 0) 7)) (sym (when_false (eqb n 0) (eqb x 0) _ (ne_eqb n 0 (λ y. omega arith))) ∙ e)))))

  pub binding_was : (is x : ℕ) → BindingGood is x → binding_fine w u is x ≡ true
  unfolding binding_fine read_option option_flag option_word binding_allowed no_anything
  binding_was is x g = by is (flag_is is) g
    where
      by : (is : ℕ) → Flag is → BindingGood is x → binding_fine w u is x ≡ true
      by _ off g = eq-eqb x 0 (sym g.back.word)
      by _ on g =
          let h : x < u.nodes = omega (arith, nodes_count, ltb-true x (count (seen w u ds)) g.allowed) in
          both _ _ (lt-ltb x u.nodes h) (ap not (sym (anything_word x h)) ∙ g.knows)
      by n (over _ h) g = absurd (omega (arith, sym (over_flag n x h) ∙ g.back.flag))

  -- ---- a constraint's row

  pub record ConstraintGood (kind loc ty a : ℕ) : Type 0 where
    pub back : constraint_words (read_constraint (kind ∷ loc ∷ ty ∷ a ∷ [])) ≡ kind ∷ loc ∷ ty ∷ a ∷ []
    pub allowed : constraint_allowed (seen w u ds) (read_constraint (kind ∷ loc ∷ ty ∷ a ∷ [])) ≡ true

  -- the test of a constraint's words
  unfoldable pub kind_fine : ℕ → ℕ → ℕ → Bool
  kind_fine kind ty a = ltb ty u.nodes && (if eqb kind 0 then leb a 15 else leb kind 5 && eqb a 0)

  kind_over : (kind ty a : ℕ) → 5 < kind → kind_fine kind ty a ≡ true → ⊥
  unfolding kind_fine
  kind_over kind ty a h e = omega (arith, leb-true kind 5 (and_l (leb kind 5) (eqb a 0) (sym (when_false (eqb kind 0) (leb a 15) _ (ne_eqb kind 0 (λ y. omega arith))) ∙ and_r (ltb ty u.nodes) _ e)))

  words_over : (kind loc ty a : ℕ) → 5 < kind → constraint_words (read_constraint (kind ∷ loc ∷ ty ∷ a ∷ [])) ≡ 5 ∷ loc ∷ ty ∷ 0 ∷ []
  unfolding read_constraint constraint_words
  words_over kind loc ty a h = ap constraint_words
      (when_false _ _ _ (ne_eqb kind 0 (λ e. omega arith))
      ∙ when_false _ _ _ (ne_eqb kind 1 (λ e. omega arith))
      ∙ when_false _ _ _ (ne_eqb kind 2 (λ e. omega arith))
      ∙ when_false _ _ _ (ne_eqb kind 3 (λ e. omega arith))
      ∙ when_false _ _ _ (ne_eqb kind 4 (λ e. omega arith)))

  module _ (loc ty : ℕ) (k : is_u32 loc ≡ true) where
    at_good : ltb ty u.nodes ≡ true → at_node (seen w u ds) loc ty ≡ true
    unfolding at_node
    at_good e = both _ _ k (lt-ltb ty (count (seen w u ds)) (omega (arith, nodes_count, ltb-true ty u.nodes e)))

    at_was : at_node (seen w u ds) loc ty ≡ true → ltb ty u.nodes ≡ true
    unfolding at_node
    at_was e = lt-ltb ty u.nodes (omega (arith, nodes_count, ltb-true ty (count (seen w u ds)) (and_r (is_u32 loc) (ltb ty (count (seen w u ds))) e)))

    zero_last : (kind a : ℕ) → eqb a 0 ≡ true → kind ∷ loc ∷ ty ∷ 0 ∷ [] ≡ kind ∷ loc ∷ ty ∷ a ∷ []
    zero_last kind a e = let z = eqb-true a 0 e in cc

    last_zero : (kind a : ℕ) → kind ∷ loc ∷ ty ∷ 0 ∷ [] ≡ kind ∷ loc ∷ ty ∷ a ∷ [] → eqb a 0 ≡ true
    last_zero kind a e = eq-eqb a 0 (cc)

    pub constraint_good : (kind a : ℕ) → Tag kind → kind_fine kind ty a ≡ true → ConstraintGood kind loc ty a
    unfolding kind_fine read_constraint constraint_words constraint_allowed
    constraint_good _ a t0 e =
        let b = leb-true a 15 (and_r (ltb ty u.nodes) (leb a 15) e) in
        let f = mod_back a 256 (omega arith) in
        record { back = cc; allowed = both _ _ (at_good (and_l (ltb ty u.nodes) (leb a 15) e)) (set_mod a b) }
    constraint_good _ a t1 e = record { back = zero_last 1 a (and_r (ltb ty u.nodes) (eqb a 0) e); allowed = at_good (and_l (ltb ty u.nodes) (eqb a 0) e) }
    constraint_good _ a t2 e = record { back = zero_last 2 a (and_r (ltb ty u.nodes) (eqb a 0) e); allowed = at_good (and_l (ltb ty u.nodes) (eqb a 0) e) }
    constraint_good _ a t3 e = record { back = zero_last 3 a (and_r (ltb ty u.nodes) (eqb a 0) e); allowed = at_good (and_l (ltb ty u.nodes) (eqb a 0) e) }
    constraint_good _ a t4 e = record { back = zero_last 4 a (and_r (ltb ty u.nodes) (eqb a 0) e); allowed = at_good (and_l (ltb ty u.nodes) (eqb a 0) e) }
    constraint_good _ a t5 e = record { back = zero_last 5 a (and_r (ltb ty u.nodes) (eqb a 0) e); allowed = at_good (and_l (ltb ty u.nodes) (eqb a 0) e) }
    constraint_good _ a t6 e = absurd (kind_over 6 ty a (omega arith) e)
    constraint_good _ a t7 e = absurd (kind_over 7 ty a (omega arith) e)
    constraint_good _ a t8 e = absurd (kind_over 8 ty a (omega arith) e)
    constraint_good kind a (beyond _ h) e = absurd (kind_over kind ty a (omega arith) e)

    not_over : (kind a : ℕ) → 5 < kind → ConstraintGood kind loc ty a → ⊥
    not_over kind a h g = let z = sym (words_over kind loc ty a h) ∙ g.back in let y : 5 ≡ kind = cc in omega arith

    pub constraint_was : (kind a : ℕ) → Tag kind → ConstraintGood kind loc ty a → kind_fine kind ty a ≡ true
    unfolding kind_fine read_constraint constraint_words constraint_allowed
    constraint_was _ a t0 g =
        let z : 0 ∷ loc ∷ ty ∷ a % 256 ∷ [] ≡ 0 ∷ loc ∷ ty ∷ a ∷ [] = g.back in
        let f : a % 256 ≡ a = cc in
        both _ _ (at_was (and_l (at_node (seen w u ds) loc ty) (is_set (a % 256)) g.allowed)) (le-leb a 15 (set_was a f (and_r (at_node (seen w u ds) loc ty) (is_set (a % 256)) g.allowed)))
    constraint_was _ a t1 g = both _ _ (at_was g.allowed) (last_zero 1 a g.back)
    constraint_was _ a t2 g = both _ _ (at_was g.allowed) (last_zero 2 a g.back)
    constraint_was _ a t3 g = both _ _ (at_was g.allowed) (last_zero 3 a g.back)
    constraint_was _ a t4 g = both _ _ (at_was g.allowed) (last_zero 4 a g.back)
    constraint_was _ a t5 g = both _ _ (at_was g.allowed) (last_zero 5 a g.back)
    constraint_was _ a t6 g = absurd (not_over 6 a (omega arith) g)
    constraint_was _ a t7 g = absurd (not_over 7 a (omega arith) g)
    constraint_was _ a t8 g = absurd (not_over 8 a (omega arith) g)
    constraint_was kind a (beyond _ h) g = absurd (not_over kind a (omega arith) g)

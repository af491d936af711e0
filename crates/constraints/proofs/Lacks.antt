-- The failure for each ability that is missing, and a constraint's failures in four rows. Assumes nothing.
-- First `_`, which lacks nothing; then a type by what it unfolds to, a node or `_`; then the four rows of a constraint.
use Rattle.std.proofs.Common.{◌≡◌, ℕ, zero, suc, ◌<◌, Bool, true, false, not, ◌&&◌, eqb, List, [], ◌∷◌, ◌++◌, sym, refl, ap, ◌∙◌, subst, append-nil, eq-eqb, ne_eqb}
use Rattle.definition.specs.Types as d
use Rattle.std.specs.Prelude.{if◌then◌else◌, Option, None}
use Rattle.definition.specs.Types.{State, Struct, Spanned, TypeValue, Result, refused, runs_into_itself}
use Rattle.definition.specs.Store.{count, node, with_args, spanned}
use Rattle.definition.specs.Subst.{unfold_type, reaches_itself}
use Rattle.definition.specs.Abilities.{all, has, select, those, infer_value, infer, infer_abilities, Rule as DefRule, rule}
use Rattle.definition.specs.Constraints.{missing, by_rule, in_turn, solve_ability_constraint, solve_constraint}
use Rattle.definition.specs.Write.{Bytes, each}
use Rattle.names.specs.declared.AbilitySet.{AbilitySet}
use Rattle.table.specs.declared.Constraint.{Constraint}
use Rattle.table.specs.declared.Constraint.TheVariants.{Ability, Numeric, Bits, Ordered, BaseType, SingleType}
use Rattle.table.specs.State.{node_of, shape_of, constraint_of}
use Rattle.table.specs.Did.{held}
use Rattle.table.specs.declared.Node.{Node}
use Rattle.table.specs.declared.Shape.{Shape}
use Rattle.table.specs.declared.state.State as table
use Rattle.subst.specs.Answers.{Unfolds, unfolded}
use Rattle.ends.specs.Itself.{Goes_on}
use Rattle.subst.specs.declared.Unfolded.{Unfolded}
use Rattle.subst.specs.declared.Unfolded.TheVariants.{Node as NodeU, Anything as AnythingU}
use Rattle.ends.proofs.Itself.{goes_node, unfolded_node}
use Rattle.abilities.specs.Kept.{HasSet, Kept, Knows}
use Rattle.abilities.specs.Rules.{rule_of, misses, bytes_of, Given}
use Rattle.abilities.specs.declared.Rule.{Rule}
use Rattle.abilities.proofs.Turn.{each_bytes, turn_each}
use Rattle.failing.specs.Failing.{plain, report, ReportIn, TyIn}
use Rattle.constraints.specs.Lacking.{lack, row, IsAbility, Lacking, AskedReady}
use Rattle.failing.specs.declared.Failing.{Failing}

-- ---- `_` has every ability

infer_anything : (n : ℕ) (s : State) (ty : ℕ) → (unfold_type s (spanned s ty)).value ≡ d.Anything → infer n s ty ≡ all
unfolding infer infer_value
infer_anything zero s ty e = refl
infer_anything (suc n) s ty e = rw e refl

and_not : (x y : Bool) → y ≡ true → (x && not y) ≡ false
and_not true y e = rw e refl
and_not false y e = refl

module _ (s : State) (loc ty asked ability : ℕ) where
  abbrev type : Spanned TypeValue
  type = unfold_type s (spanned s ty)

  if_missing : (b : Bool) → b ≡ misses s ty asked ability → (if b then bytes_of (by_rule s loc ability type (rule s ability type.value)) else []) ≡ lack s loc ty asked ability
  unfolding lack
  if_missing b e = ap (λ (x : Bool). if x then bytes_of (by_rule s loc ability type (rule s ability type.value)) else []) e

  pub lack_not : (b : Bool) → b ≡ misses s ty asked ability → b ≡ false → [] ≡ lack s loc ty asked ability
  lack_not b e z = ap (λ (x : Bool). if x then bytes_of (by_rule s loc ability type (rule s ability type.value)) else []) (sym z) ∙ if_missing b e

  had_all : type.value ≡ d.Anything → infer_abilities s ty ≡ all
  unfolding infer_abilities
  had_all e = infer_anything (count s) s ty e

  pub lack_anything : type.value ≡ d.Anything → has all ability ≡ true → [] ≡ lack s loc ty asked ability
  lack_anything e h = lack_not false (sym (and_not (has asked ability) (has (infer_abilities s ty) ability) (ap (λ (x : ℕ). has x ability) (had_all e) ∙ h))) refl

  -- the rule's failure, if the ability is missing
  pub lack_ruled : (b : Bool) → b ≡ misses s ty asked ability → b ≡ true → (r : Rule) → rule_of r ≡ rule s ability type.value → bytes_of (by_rule s loc ability type (rule_of r)) ≡ lack s loc ty asked ability
  lack_ruled b e z r q = ap (λ (x : DefRule). bytes_of (by_rule s loc ability type x)) q ∙ ap (λ (x : Bool). if x then bytes_of (by_rule s loc ability type (rule s ability type.value)) else []) (sym z) ∙ if_missing b e

pub is_false : (b : Bool) → not b ≡ true → b ≡ false
is_false true z = let n : false ≡ true = z in cc
is_false false z = refl

pub is_true : (b : Bool) → not b ≡ false → b ≡ true
is_true true z = refl
is_true false z = let n : true ≡ false = z in cc

-- ---- what the type unfolds to

module _ (m : table.State) (f : Unfolded) (ty : ℕ) (h : Unfolds m f (λ s. spanned s ty)) where
  pub to_node : (t : ℕ) → f ≡ NodeU t → (ds : List Struct) → spanned (held m ds) t ≡ unfold_type (held m ds) (spanned (held m ds) ty)
  to_node t e ds = ap (λ (y : Unfolded). unfolded y (held m ds)) (sym e) ∙ h.is ds

  -- a node: reading goes on with its shape
  pub node_goes : (t : ℕ) → f ≡ NodeU t → (n : Node) → ((ds : List Struct) → node_of n ≡ node (held m ds) t) → Goes_on m ty n.shape
  node_goes t e n k = goes_node m ty f h t e (unfolded_node h.inside e) n k

  -- .. and what the rule makes of it
  module _ (t : ℕ) (e : f ≡ NodeU t) (params : List (List ℕ)) (loc asked ability : ℕ) (b : Bool) (miss_is : (ds : List Struct) → Knows m params ds → b ≡ misses (held m ds) ty asked ability) (z : b ≡ true) where
    module _ (sh : Shape) (g : Goes_on m ty sh) (r : Rule) (q : (ds : List Struct) → Knows m params ds → rule_of r ≡ rule (held m ds) ability (with_args (held m ds) (shape_of sh))) where
      pub node_lacks : (x : Option Failing) → ((n : ℕ) → t < n → ReportIn n x) × ((s : State) → report x s ≡ bytes_of (by_rule s loc ability (spanned s t) (rule_of r))) → Lacking m params x (λ s. lack s loc ty asked ability)
      node_lacks x p = record {
        is = λ ds k. let s = held m ds in
            p.1 s
            ∙ ap (λ (y : Spanned TypeValue). bytes_of (by_rule s loc ability y (rule_of r))) (to_node t e ds)
            ∙ lack_ruled s loc ty asked ability b (miss_is ds k) z r (q ds k ∙ ap (rule s ability) (g.value ds));
        inside = p.0 m.used.nodes (unfolded_node h.inside e);
      }

  pub to_anything : (at : ℕ) → f ≡ AnythingU at → (params : List (List ℕ)) (loc asked ability : ℕ) → IsAbility ability → Lacking m params None (λ s. lack s loc ty asked ability)
  to_anything at e params loc asked ability a = record {
    is = λ ds k. lack_anything (held m ds) loc ty asked ability (sym (ap (λ (y : Unfolded). (unfolded y (held m ds)).value) (sym e) ∙ ap (λ (y : Spanned TypeValue). y.value) (h.is ds))) a.in_all;
    inside = tt;
  }

-- ---- four rows

-- what is asked of a constraint that asks for abilities
pub asked_ty : (m : table.State) (params : List (List ℕ)) (sets : List ℕ) (c : Constraint) (loc ty : ℕ) (a : AbilitySet) → TyIn m.used.nodes (constraint_of c) → AskedReady m params sets (constraint_of c)
    → c ≡ Ability loc ty a → (ty < m.used.nodes) × (Kept m params sets × HasSet sets ty)
asked_ty m params sets c loc ty a h k e =
    (subst (λ (x : Constraint). TyIn m.used.nodes (constraint_of x)) e h, subst (λ (x : Constraint). AskedReady m params sets (constraint_of x)) e k)

pub row_ability : (m : table.State) (params : List (List ℕ)) (r : Option Failing) (c : Constraint) (loc ty : ℕ) (a : AbilitySet) (ability : ℕ) → Lacking m params r (λ s. lack s loc ty a.0 ability) → c ≡ Ability loc ty a → Lacking m params r (λ s. row s (constraint_of c) ability)
unfolding row
row_ability m params r c loc ty a ability h e = subst (λ (x : Constraint). Lacking m params r (λ s. row s (constraint_of x) ability)) (sym e) h

pub row_first : (s : State) (c : d.Constraint) (r : Option Failing) (ability : ℕ) → report r s ≡ plain s c → ability ≡ 1 → report r s ≡ (if eqb ability 1 then plain s c else [])
row_first s c r ability h e = rw (eq-eqb ability 1 e) h

pub row_after : (s : State) (c : d.Constraint) (ability : ℕ) → (ability ≡ 1 → ⊥) → [] ≡ (if eqb ability 1 then plain s c else [])
row_after s c ability e = rw (ne_eqb ability 1 e) refl

-- a constraint that asks for no abilities
module _ (m : table.State) (params : List (List ℕ)) (r : Option Failing) where
  pub row_plain : (c : Constraint) (ability : ℕ) → ReportIn m.used.nodes r × ((ds : List Struct) → report r (held m ds) ≡ (if eqb ability 1 then plain (held m ds) (constraint_of c) else []))
      → ((loc ty : ℕ) (a : AbilitySet) → c ≡ Ability loc ty a → ⊥) → Lacking m params r (λ s. row s (constraint_of c) ability)
  unfolding row
  row_plain (Ability loc ty a) ability h k = absurd (k loc ty a refl)
  row_plain (Numeric loc ty) ability h k = record { is = λ ds _. h.1 ds; inside = h.0 }
  row_plain (Bits loc ty) ability h k = record { is = λ ds _. h.1 ds; inside = h.0 }
  row_plain (Ordered loc ty) ability h k = record { is = λ ds _. h.1 ds; inside = h.0 }
  row_plain (BaseType loc ty) ability h k = record { is = λ ds _. h.1 ds; inside = h.0 }
  row_plain (SingleType loc ty) ability h k = record { is = λ ds _. h.1 ds; inside = h.0 }

each_if : (f : ℕ → Result Bytes) (test : ℕ → Bool) (l : List ℕ) → each_bytes f (select test l) ≡ each (λ a. if test a then bytes_of (f a) else []) l
unfolding each_bytes each select
each_if f test [] = refl
each_if f test (a ∷ l) = by (each_if f test l) (test a)
  where
    by : each_bytes f (select test l) ≡ each (λ a. if test a then bytes_of (f a) else []) l → (b : Bool)
        → each_bytes f (elim b [ true ↦ a ∷ select test l | false ↦ select test l ]) ≡ (if b then bytes_of (f a) else []) ++ each (λ a. if test a then bytes_of (f a) else []) l
    by h true = ap (λ (y : Bytes). bytes_of (f a) ++ y) h
    by h false = h

pub four_rows : (s : State) (c : d.Constraint) → Given (solve_constraint s c) → bytes_of (solve_constraint s c) ≡ each (λ ability. row s c ability) (1 ∷ 2 ∷ 4 ∷ 8 ∷ [])
unfolding solve_constraint solve_ability_constraint missing those row lack plain each bytes_of
four_rows s (d.AbilityConstraint loc ty a) e = by (reaches_itself s ty) refl
  where
    decided : ℕ → Result Bytes
    decided ability = by_rule s loc ability (unfold_type s (spanned s ty)) (rule s ability (unfold_type s (spanned s ty)).value)

    abilities : Bool → Result Bytes
    abilities b = elim b [ true ↦ refused runs_into_itself | false ↦ in_turn decided (missing s ty a) ]

    by : (b : Bool) → reaches_itself s ty ≡ b → bytes_of (abilities (reaches_itself s ty)) ≡ each (λ ability. row s (d.AbilityConstraint loc ty a) ability) (1 ∷ 2 ∷ 4 ∷ 8 ∷ [])
    by true z = let n : Given (refused runs_into_itself) = subst (λ (b : Bool). Given (abilities b)) z e in cc
    by false z = rw z (turn_each decided (missing s ty a) (subst (λ (b : Bool). Given (abilities b)) z e) ∙ each_if decided (λ ability. misses s ty a ability) (1 ∷ 2 ∷ 4 ∷ 8 ∷ []))
four_rows s (d.NumericConstraint loc ty) e = sym (append-nil _)
four_rows s (d.BitsConstraint loc ty) e = sym (append-nil _)
four_rows s (d.OrderedConstraint loc ty) e = sym (append-nil _)
four_rows s (d.BaseTypeConstraint loc ty) e = sym (append-nil _)
four_rows s (d.SingleTypeConstraint loc ty) e = sym (append-nil _)

-- instantiate goes down level by level; what stays whole, a reference's constraint before its part, and a named type's variables before its arguments. Assumes nothing.
use mathlib.Core.Path.{◌≡◌, refl, sym, ap, ◌∙◌}
use mathlib.Core.Bool.{Bool}
use mathlib.Core.List.{List, [], ◌∷◌}
use Prim.Native.Nat.{ℕ}
use native.Mathlib.Omega.{arith}
use Rattle.std.specs.Prelude.{Ok, Err}
use Rattle.std.specs.Prelude as core
use lib.ListN.{take}
use denote.Enum.Declared.{tag_of}
use types.Run.{OneOf}
use Rattle.definition.specs.Types as d
use Rattle.definition.specs.Types.{Struct, Result, ok, BaseTypeConstraint, ◌>>=◌}
use Rattle.definition.specs.Store.{with_args, args_at, sp, map_types}
use Rattle.definition.specs.Instantiate.{tparam_constraints, make_tparams, join_args, instantiate_type_args, instantiate_apply, instantiate_value, instantiate_down}
use Rattle.table.specs.Rows.{places}
use Rattle.table.specs.State.{shape_of, Named, pushed_constraint}
use Rattle.table.specs.Did.{held, tables, Became, DidFor, Added}
use Rattle.table.specs.declared.Shape.{Shape}
use Rattle.table.specs.declared.state.State.{State}
use Rattle.table.specs.declared.state.Stop.{Stop}
use Rattle.table.specs.contracts.Shape.{the_type}
use Rattle.table.proofs.Steps.{bind_assoc, refines_among}
use Rattle.table.proofs.Did.{became_number, did_is, nodes_more}
use Rattle.table.proofs.Grown.{args_kept}
use Rattle.table.proofs.Known.{known_kept}
use Rattle.table.proofs.Walk.{rest, named_kept}
use Rattle.shapes.proofs.Tags.{other_shapes}
use Rattle.shapes.proofs.Levels.{Walk, Levels}
use Rattle.join.proofs.Lists.{listed_err, listed_then}
use Rattle.join.specs.declared.Types.{Types}
use Rattle.instantiate.specs.Args.{made, Made, joined}
use Rattle.instantiate.proofs.TvarLaws.{constraint_then, did_among}
use Rattle.instantiate.proofs.MadeLaws.{KnownTo}

pub levels : Levels (λ n. instantiate_down n) (λ f. instantiate_value f)
unfolding instantiate_down
levels = record { none_left = λ s ty. refl; level = λ n s ty. refl }

-- Unit, UnresolvedError, Param
pub whole : (sh : Shape) → OneOf (0 ∷ 6 ∷ 2 ∷ []) (tag_of the_type sh) → (f : Walk) (s : d.State) (ty loc : ℕ) → ok (s, ty) ≡ instantiate_value f s ty loc (with_args s (shape_of sh))
unfolding instantiate_value with_args
whole = other_shapes (0 ∷ 6 ∷ 2 ∷ []) (λ sh. (f : Walk) (s : d.State) (ty loc : ℕ) → ok (s, ty) ≡ instantiate_value f s ty loc (with_args s (shape_of sh)))
    (λ f s ty loc. refl) tt (λ id a f s ty loc. refl) tt tt tt (λ f s ty loc. refl)

-- the declarations of a state are those of one that came before it
pub did_known : (s : State) {t v : State} {params : List (List ℕ)} {r : core.Result ℕ Stop} {f : d.State → Result (d.State × ℕ)}
    → (tables t).structs ≡ (tables s).structs → DidFor (KnownTo t params) t v r f → DidFor (KnownTo s params) t v r f
did_known s {t} {params = params} same x = did_among (known_kept s.words.now s.used t.words.now t.used params same) x

-- ---- a reference

-- what follows its constraint
abbrev pub ref_on : Walk → ℕ → ℕ → Bool → d.State × ℕ → Result (d.State × ℕ)
ref_on f t loc m q = f q.0 t >>= (λ p. sp p.0 loc (d.Ref m p.1))

pub ref_is : (f : Walk) (s : d.State) (ty loc : ℕ) (m : Bool) (t : ℕ) → (pushed_constraint (BaseTypeConstraint loc t) s >>= ref_on f t loc m) ≡ instantiate_value f s ty loc (d.Ref m t)
unfolding instantiate_value
ref_is f s ty loc m t = constraint_then (BaseTypeConstraint loc t) s (ref_on f t loc m)

-- a constraint is listed, and f follows
pub constraint_on : {params : List (List ℕ)} {s t v : State} {x : Unit {0}} (c : d.Constraint) {f : d.State → Result (d.State × ℕ)} {r : core.Result ℕ Stop}
    → Added s t (Ok x) (pushed_constraint c) → DidFor (KnownTo t params) t v r f → DidFor (KnownTo s params) s v r (λ z. pushed_constraint c z >>= (λ q. f q.0))
unfolding ◌>>=◌
constraint_on {params} {s} {t} c {f = f} first n =
    record {
      changed = became_number (λ m. m >>= (λ q. f q.0)) (record { same = first.changed.same; step = refines_among (λ ds k. tt) first.changed.step }) (did_known s first.changed.step.structs n).changed;
      inside = n.inside;
    }

-- ---- a named type: its variables, its arguments, the joins, the node

apply_is : (inst : Walk) (s : d.State) (loc : ℕ) (k : d.AbilityMark) (n : d.TypeName) (tys : List ℕ)
    → (made loc n tys s >>= (λ p. rest inst (joined loc k n p.1) [] tys p.0)) ≡ instantiate_apply inst s loc k n tys
unfolding made rest joined instantiate_apply instantiate_type_args
apply_is inst s loc k n tys =
    ap (λ (g : d.State × List ℕ → Result (d.State × ℕ)). make_tparams s loc n tys (tparam_constraints s n) >>= g)
    (λ i p. sym (bind_assoc (map_types inst p.0 tys) (λ q. join_args q.0 p.1 q.1) (λ q. sp q.0 loc (d.Apply k n q.1))) i)
    ∙ sym (bind_assoc (make_tparams s loc n tys (tparam_constraints s n)) (λ p. map_types inst p.0 tys >>= (λ q. join_args q.0 p.1 q.1)) (λ q. sp q.0 loc (d.Apply k n q.1)))

-- the arguments are nodes still
pub named_on : {A : Type 0} {K : List Struct → Type 0} {s t : State} {answer f : d.State → A} (first many : ℕ) → Became K s t answer f → Named s.words.now s.used first many s.used.nodes → Named t.words.now t.used first many t.used.nodes
named_on {s = s} {t = t} first many a nm =
    let kept = named_kept s.words.now s.used first many s.used.nodes nm t.words.now t.used a.step.grown in
    record { placed = kept.placed; smaller = λ i h. omega (arith, kept.smaller i h, nodes_more a) }

module _ (s : State) (params : List (List ℕ)) (left loc : ℕ) (k : d.AbilityMark) (n : d.TypeName) (first many : ℕ) where
  abbrev tys : List ℕ
  tys = args_at (tables s) (places first many)

  go : d.State × List ℕ → Result (d.State × ℕ)
  go p = rest (instantiate_down left) (joined loc k n p.1) [] tys p.0

  all_is : {v : State} {r : core.Result ℕ Stop} → DidFor (KnownTo s params) s v r (λ x. made loc n tys x >>= go) → DidFor (KnownTo s params) s v r (λ x. instantiate_apply (instantiate_down left) x loc k n tys)
  unfolding go
  all_is x = did_is (λ ds kn. apply_is (instantiate_down left) (held s ds) loc k n tys) x

  pub apply_err : {t : State} {e : Stop} {r : core.Result ℕ Stop} → Made (KnownTo s params) s t (Err e) (made loc n tys) → r ≡ Err e → DidFor (KnownTo s params) s t r (λ x. instantiate_apply (instantiate_down left) x loc k n tys)
  apply_err a q = all_is (listed_err go a q)

  module _ {t : State} {b : Types} (made_all : Made (KnownTo s params) s t (Ok b) (made loc n tys)) (nm : Named s.words.now s.used first many s.used.nodes) where
    pub apply_then : {v : State} {r : core.Result ℕ Stop} → DidFor (KnownTo t params) t v r (rest (instantiate_down left) (joined loc k n (take b.many b.tys)) [] (args_at (tables t) (places first many)))
        → DidFor (KnownTo s params) s v r (λ x. instantiate_apply (instantiate_down left) x loc k n tys)
    unfolding go places
    apply_then x =
        all_is
        (listed_then go made_all
        (did_is
        (λ ds kn. ap (λ (l : List ℕ). rest (instantiate_down left) (joined loc k n (take b.many b.tys)) [] l (held t ds)) (args_kept (tables s) (tables t) (places first many) made_all.changed.step.grown nm.placed.inside))
        (did_known s made_all.changed.step.structs x)))

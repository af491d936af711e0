-- A constraint's failure, as laws that follow the code. Assumes nothing.
use Rattle.std.proofs.Common.{◌≡◌, ℕ, Bool, true, false, not, List, [], sym, refl, ap, ◌∙◌}
use Rattle.std.specs.Prelude.{None, Some}
use Rattle.std.specs.Bool.{then_some}
use Rattle.definition.specs.Types as d
use Rattle.definition.specs.Types.{State, Struct, Spanned, TypeValue}
use Rattle.definition.specs.Store.{node, with_args, spanned}
use Rattle.definition.specs.Subst.{unfold_type}
use Rattle.definition.specs.Constraints.{failure, solve}
use Rattle.table.specs.State.{node_of, shape_of}
use Rattle.table.specs.Did.{held}
use Rattle.table.specs.declared.state.State as table
use Rattle.table.specs.declared.Node.{Node}
use Rattle.subst.specs.Answers.{unfolded, Unfolds}
use Rattle.subst.specs.declared.Unfolded.{Unfolded}
use Rattle.subst.specs.declared.Unfolded.TheVariants.{Node as NodeU, Anything as AnythingU}
use Rattle.table.proofs.Grown.{value_is}
use Rattle.failing.specs.Failing.{code_of, good, ask, plain, Asks, failing, FailingIn, Fails}
use Rattle.failing.specs.declared.Ask.{Ask}
use Rattle.failing.specs.declared.Failing.{Failing}
use Rattle.failing.specs.declared.Failing.TheVariants.{Node as NodeF, Anything as AnythingF}

-- what is asked, of the type as it unfolds
module _ (s : State) (r : Ask) (x : Spanned TypeValue) (e : x ≡ unfold_type s (spanned s r.ty)) where
  ask_good : good r.what x.value ≡ true → [] ≡ ask s (Some r)
  unfolding ask solve
  ask_good g = rw (← e, g) refl

  ask_fails : good r.what x.value ≡ false → failure s (code_of r.what) r.loc x ≡ ask s (Some r)
  unfolding ask solve
  ask_fails g = rw (← e, g) refl

fails_if : {m : table.State} {c : d.Constraint} (f : Failing) (b : Bool) → (b ≡ true → Fails m None c) → (b ≡ false → Fails m (Some f) c) → Fails m (then_some (not b) f) c
fails_if f true p q = p refl
fails_if f false p q = q refl

pub nothing_asked : (m : table.State) (c : d.Constraint) → Asks None c → Fails m None c
unfolding ask
nothing_asked m c a = record { is = λ ds. a.is (held m ds); inside = tt }

module _ (m : table.State) (r : Ask) (c : d.Constraint) (a : Asks (Some r) c) (f : Unfolded) (h : Unfolds m f (λ s. spanned s r.ty)) where
  fine : ((ds : List Struct) → good r.what (unfolded f (held m ds)).value ≡ true) → Fails m None c
  fine g = record { is = λ ds. ask_good (held m ds) r (unfolded f (held m ds)) (h.is ds) (g ds) ∙ a.is (held m ds); inside = tt }

  failed : (ds : List Struct) → good r.what (unfolded f (held m ds)).value ≡ false → failure (held m ds) (code_of r.what) r.loc (unfolded f (held m ds)) ≡ plain (held m ds) c
  failed ds g = ask_fails (held m ds) r (unfolded f (held m ds)) (h.is ds) g ∙ a.is (held m ds)

  -- x is the failure of the type as it unfolds
  judged : (x : Failing) (b : Bool) → ((ds : List Struct) → good r.what (unfolded f (held m ds)).value ≡ b)
      → ((ds : List Struct) → failing x (held m ds) ≡ failure (held m ds) (code_of r.what) r.loc (unfolded f (held m ds))) → FailingIn m.used.nodes x → Fails m (then_some (not b) x) c
  judged x b g e i = fails_if x b (λ q. fine (λ ds. g ds ∙ q)) (λ q. record { is = λ ds. e ds ∙ failed ds (g ds ∙ q); inside = i })

  module _ (t : ℕ) (p : f ≡ NodeU t) (n : Node) (k : (ds : List Struct) → node_of n ≡ node (held m ds) t) (b : Bool) (is : (st : State) → b ≡ good r.what (with_args st (shape_of n.shape))) where
    node_good : (ds : List Struct) → good r.what (unfolded f (held m ds)).value ≡ b
    unfolding spanned
    node_good ds = ap (λ (g : Unfolded). good r.what (unfolded g (held m ds)).value) p ∙ ap (good r.what) (sym (value_is (held m ds) t n (k ds))) ∙ sym (is (held m ds))

    pub node_fails : Fails m (then_some (not b) (NodeF r.what r.loc t)) c
    node_fails = judged (NodeF r.what r.loc t) b node_good (λ ds. ap (λ (g : Unfolded). failure (held m ds) (code_of r.what) r.loc (unfolded g (held m ds))) (sym p)) (rw p at h.inside)

  module _ (at : ℕ) (p : f ≡ AnythingU at) (b : Bool) (is : (st : State) → b ≡ good r.what (with_args st d.Anything)) where
    anything_good : (ds : List Struct) → good r.what (unfolded f (held m ds)).value ≡ b
    unfolding with_args
    anything_good ds = ap (λ (g : Unfolded). good r.what (unfolded g (held m ds)).value) p ∙ sym (is (held m ds))

    pub anything_fails : Fails m (then_some (not b) (AnythingF r.what r.loc at)) c
    anything_fails = judged (AnythingF r.what r.loc at) b anything_good (λ ds. ap (λ (g : Unfolded). failure (held m ds) (code_of r.what) r.loc (unfolded g (held m ds))) (sym p)) tt

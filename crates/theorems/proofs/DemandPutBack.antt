-- After an error the bindings are put back: the state is sound, and quiet to the one before. Assumes nothing.
use mathlib.Core.Path.{◌≡◌, refl, sym, ap, ◌∙◌}
use mathlib.Core.List.{List, [], ◌∷◌, ◌++◌}
use Rattle.std.specs.Prelude.{Some}
use Prim.Native.Nat.{ℕ, zero, suc, ◌-◌}
use native.Mathlib.Omega.{arith}
use lib.ListN.{get_or, replicate, length-append, length-replicate}
use Rattle.definition.specs.Types.{TypeName, Cell, unbound, State}
use Rattle.definition.specs.Store.{count, taken, type_at, get, with_vars, num_loc, need_of}
use Rattle.definition.specs.Step.{put_back}
use Rattle.theorems.proofs.Laws.{on_nodes, constraints_vars, SameNodes, vars_nodes, value_same, count_same, places_same, get_beyond, is_num_same, needs_same}
use Rattle.theorems.proofs.LawsChains.{Within, w_here, within_same, next_agree, next_none}
use Rattle.theorems.proofs.DemandOrder.{Sound, Nodes, chain_within}
use Rattle.theorems.proofs.DemandSteps.{Quiet, chains_from}
use Rattle.theorems.proofs.LawsPost.{Grown}
use Rattle.theorems.proofs.MetSteps.{Keeps, held_same}

getD_none : (n v : ℕ) → get_or (replicate n unbound) v unbound ≡ unbound
getD_none zero v = refl
getD_none (suc n) zero = refl
getD_none (suc n) (suc v) = getD_none n v

getD_more : (l : List Cell) (n v : ℕ) → get_or (l ++ replicate n unbound) v unbound ≡ get_or l v unbound
getD_more [] n v = getD_none n v
getD_more (c ∷ l) n zero = refl
getD_more (c ∷ l) n (suc v) = getD_more l n v

module _ {ar : TypeName → ℕ} {S E : State} (s : Sound ar S) (g : Grown S E) (n : Nodes ar E) where
  abbrev B : State
  B = put_back S E

  same : SameNodes E B
  unfolding put_back
  same = vars_nodes E _

  got_back : (v : ℕ) → get B v ≡ get S v
  unfolding get put_back with_vars
  got_back v = ap (λ (c : Cell). c.binding) (getD_more S.vars (taken E - taken S) v)

  num_back : (v : ℕ) → num_loc B v ≡ num_loc S v
  unfolding num_loc put_back with_vars
  num_back v = ap (λ (c : Cell). c.numeric) (getD_more S.vars (taken E - taken S) v)

  need_back : (v : ℕ) → need_of B v ≡ need_of S v
  unfolding need_of put_back with_vars
  need_back v = ap (λ (c : Cell). c.need) (getD_more S.vars (taken E - taken S) v)

  kept_taken : taken B ≡ taken E
  unfolding put_back with_vars
  kept_taken = length-append S.vars _ ∙ omega (arith, length-replicate (taken E - taken S) unbound, g.g_vars)

  back_constraints : B.constraints ≡ E.constraints
  unfolding put_back
  back_constraints = constraints_vars E _

  val : (i : ℕ) → type_at B i ≡ type_at E i
  val i = value_same same i

  cnt : count B ≡ count E
  cnt = count_same same

  pub quiet_put_back : Quiet S B
  quiet_put_back = record {
    q_nodes = omega (arith, cnt, g.g_nodes);
    q_kept = λ i h. val i ∙ g.g_kept i h;
    q_vars = omega (arith, kept_taken, g.g_vars);
    q_next = λ v. next_agree S B v (got_back v) (λ t e. val t ∙ g.g_kept t (s.bind_in v t e));
    q_get = λ v t h. got_back v ∙ h;
    q_num = λ v h. is_num_same S B v (num_back v) ∙ h;
    q_need = λ v h. need_back v;
  }

  pub held_put_back : Keeps S B
  held_put_back = held_same S B (λ v t e. val t ∙ g.g_kept t (s.bind_in v t e)) got_back num_back need_back

  pub sound_put_back : Sound ar B
  sound_put_back = record {
    places_in = λ i h. places_same same i (n.n_places i (omega (arith, cnt)));
    parts_below = λ i h. rw (val i) (n.n_parts i (omega (arith, cnt)));
    var_in = λ i v h e. omega (arith, kept_taken, n.n_var i v (omega (arith, cnt)) (sym (val i) ∙ e));
    arity = λ i k m ps h e. n.n_arity i k m ps (omega (arith, cnt)) (sym (val i) ∙ e);
    bind_in = λ v t e. omega (arith, cnt, g.g_nodes, s.bind_in v t (sym (got_back v) ∙ e));
    bind_known = λ v t e. let h : get S v ≡ Some t = sym (got_back v) ∙ e in rw (val t, g.g_kept t (s.bind_in v t h)) (s.bind_known v t h);
    chains = chains_from B (taken S) quiet_put_back.q_vars (λ v h. within_same quiet_put_back.q_next (old v));
    constraints_on = on_nodes back_constraints (omega (arith, cnt)) n.n_constraints;
    needs_in = needs_same S B num_back need_back s.needs_in;
  }
    where
      old : (v : ℕ) → Within S (taken S) v
      old v = elim (native.Mathlib.Decide.dec_lt v (taken S)) [ yes l ↦ chain_within s v l | no l ↦ w_here (next_none S v (get_beyond S v (omega arith))) ]

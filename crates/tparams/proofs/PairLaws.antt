-- The pairs of two arrays, looked up and tested as the code goes through them. Assumes nothing.
use mathlib.Core.Path.{◌≡◌, refl, sym, ap, ◌∙◌}
use mathlib.Core.Bool.{Bool, true, false, not, ◌||◌}
use mathlib.Core.List.{List, [], ◌∷◌}
use Rattle.std.specs.Prelude.{Option, None, Some}
use Prim.Native.Nat.{ℕ, zero, suc, ◌+◌, ◌-◌, ◌≤◌, ◌<◌}
use native.Mathlib.Numerals.{add-one}
use native.Mathlib.Omega.{arith}
use native.Mathlib.Decide.{dec_lt}
use lib.ListN.{get_or}
use lib.Dec.{eqb}
use Rattle.std.specs.Bool.{then_some}
use Rattle.std.specs.List.{list_any, range_with_len}
use Rattle.std.specs.Option.{MatchOption, is_some, option_map}
use Rattle.std.specs.Prelude.{if◌then◌else◌}
use Rattle.definition.specs.Types.{Result, ok, refused, parameter_twice, ◌>>=◌}
use Rattle.definition.specs.TParams.{TParamSubst, arg_of, make_tparam_subst}
use Rattle.table.specs.State.{NodesIn, Parts}
use Rattle.names.specs.declared.TParamID.{TParamID}
use Rattle.tparams.specs.declared.substitution.TParamSubst.{TParamSubst as Subst}
use Rattle.tparams.specs.Made.{subst_of, made}
use Rattle.tparams.specs.Pairs.{id_at, pairs, answer}

-- what is made of the pairs ps, if an id stands twice in them or not
made_if : Bool → TParamSubst → Result TParamSubst
made_if true ps = refused parameter_twice
made_if false ps = ok ps

tested : (o : Option ℕ) (ps : TParamSubst) → (elim o as (λ x. Result TParamSubst) [ None ↦ ok ps | Some old ↦ refused parameter_twice ]) ≡ made_if (is_some o || false) ps
unfolding made_if
tested None ps = refl
tested (Some old) ps = refl

twice_before : (b : Bool) (ps : TParamSubst) → refused parameter_twice ≡ made_if (b || true) ps
unfolding made_if
twice_before true ps = refl
twice_before false ps = refl

-- one pair more
made_cons : (id arg : ℕ) (ps : TParamSubst) (b : Bool) → make_tparam_subst ps ≡ made_if b ps → make_tparam_subst ((id, arg) ∷ ps) ≡ made_if (is_some (arg_of ps id) || b) ((id, arg) ∷ ps)
unfolding make_tparam_subst ◌>>=◌ made_if
made_cons id arg ps true m = rw (make_tparam_subst, m) (twice_before (is_some (arg_of ps id)) ((id, arg) ∷ ps))
made_cons id arg ps false m = rw (make_tparam_subst, m) (tested (arg_of ps id) ((id, arg) ∷ ps))

-- the id at place k stands again, after it
abbrev pub again : List TParamID → List ℕ → ℕ → ℕ → Bool
again ids args n k = is_some (arg_of (pairs ids args (k + 1) (n - (k + 1))) (id_at ids k))

made_by : (ids : List TParamID) (args : List ℕ) (n d i : ℕ) → i + d ≡ n → make_tparam_subst (pairs ids args i d) ≡ made_if (list_any (again ids args n) (range_with_len i d)) (pairs ids args i d)
unfolding pairs make_tparam_subst made_if
made_by ids args n zero i e = refl
made_by ids args n (suc d) i e =
    let q : n - (i + 1) ≡ d = omega arith in
    rw (q, add-one) (made_cons (id_at ids i) (get_or args i 0) (pairs ids args (suc i) d) _ (made_by ids args n d (suc i) (omega arith)))

then_made : (s : Subst) (b : Bool) → made (then_some (not b) s) ≡ made_if b (subst_of s)
unfolding made_if
then_made s true = refl
then_made s false = refl

pub made_then : (s : Subst) (b : Bool) → b ≡ list_any (again s.ids s.args s.many) (range_with_len 0 s.many) → made (then_some (not b) s) ≡ make_tparam_subst (subst_of s)
made_then s b e = then_made s b ∙ ap (λ (x : Bool). made_if x (subst_of s)) e ∙ sym (made_by s.ids s.args s.many s.many 0 (omega arith))

module _ (ids : List TParamID) (args : List ℕ) (i n : ℕ) where
  pairs_more : i < n → pairs ids args i (n - i) ≡ (id_at ids i, get_or args i 0) ∷ pairs ids args (i + 1) (n - (i + 1))
  unfolding pairs
  pairs_more h = let e : n - i ≡ suc (n - (i + 1)) = omega arith in rw (e, add-one) refl

  pairs_none : n ≤ i → pairs ids args i (n - i) ≡ []
  unfolding pairs
  pairs_none h = let e : n - i ≡ 0 = omega arith in rw e refl

  arg_here : (id : ℕ) → i < n → eqb (id_at ids i) id ≡ true → Some (get_or args i 0) ≡ arg_of (pairs ids args i (n - i)) id
  unfolding arg_of
  arg_here id h e = rw (pairs_more h, arg_of, e) refl

  arg_past : (id : ℕ) → i < n → eqb (id_at ids i) id ≡ false → arg_of (pairs ids args (i + 1) (n - (i + 1))) id ≡ arg_of (pairs ids args i (n - i)) id
  unfolding arg_of
  arg_past id h e = rw (pairs_more h, arg_of, e) refl

  arg_none : (id : ℕ) → n ≤ i → None ≡ arg_of (pairs ids args i (n - i)) id
  unfolding arg_of
  arg_none id h = rw (pairs_none h, arg_of) refl

-- ---- the first place of an id, from place i on

module _ (ids : List TParamID) (args : List ℕ) (id n : ℕ) where
  abbrev Is : ℕ → Bool → Type 0
  Is k b = eqb (id_at ids k) id ≡ b

  unfound : (d i : ℕ) → n ≤ i + d → ((k : ℕ) → i ≤ k → k < n → Is k false) → None ≡ arg_of (pairs ids args i (n - i)) id
  unfound zero i e h = arg_none ids args i n id (omega arith)
  unfound (suc d) i e h = by (unfound d (i + 1) (omega arith) (λ k a b. h k (omega arith) b)) (dec_lt i n)
    where
      by : None ≡ arg_of (pairs ids args (i + 1) (n - (i + 1))) id → Dec (i < n) → None ≡ arg_of (pairs ids args i (n - i)) id
      by q (yes l) = q ∙ arg_past ids args i n id l (h i (omega arith) l)
      by q (no l) = arg_none ids args i n id (omega arith)

  found_at : (at d i : ℕ) → at < n → at ≡ i + d → ((k : ℕ) → i ≤ k → k < at → Is k false) → Is at true → Some (get_or args at 0) ≡ arg_of (pairs ids args i (n - i)) id
  found_at at zero i l e h z = let q : i ≡ at = omega arith in rw q (arg_here ids args at n id l z)
  found_at at (suc d) i l e h z = found_at at d (i + 1) l (omega arith) (λ k a b. h k (omega arith) b) z ∙ arg_past ids args i n id (omega arith) (h i (omega arith) (omega arith))

  abbrev pub First : ℕ → Option ℕ → Type 0
  First i r = MatchOption r ((k : ℕ) → i ≤ k → k < n → Is k false) (λ at. (i ≤ at) × (at < n) × Is at true × ((k : ℕ) → i ≤ k → k < at → Is k false))

  pub first_arg : (i : ℕ) (r : Option ℕ) → First i r → option_map (λ k. get_or args k 0) r ≡ arg_of (pairs ids args i (n - i)) id
  first_arg i None h = unfound n i (omega arith) h
  first_arg i (Some at) h = found_at at (at - i) i h.1 (omega arith) h.3 h.2

-- ---- an argument is a node

either : (k : ℕ) (b : Bool) (t : ℕ) (o : Option ℕ) → t < k → NodesIn k (answer o) → NodesIn k (answer (if b then Some t else o))
either k true t o h g = h
either k false t o h g = g

from_in : (k : ℕ) (ids : List TParamID) (args : List ℕ) (id i m : ℕ) → ((j : ℕ) → j < i + m → get_or args j 0 < k) → NodesIn k (answer (arg_of (pairs ids args i m) id))
unfolding pairs arg_of
from_in k ids args id i zero h = tt
from_in k ids args id i (suc m) h = either k (eqb (id_at ids i) id) (get_or args i 0) (arg_of (pairs ids args (suc i) m) id) (h i (omega arith)) (from_in k ids args id (suc i) m (λ j lt. h j (omega arith)))

pub args_in : (k : ℕ) (ids : List TParamID) (args : List ℕ) (id n : ℕ) → Parts k args n → NodesIn k (answer (arg_of (pairs ids args 0 n) id))
args_in k ids args id n p = from_in k ids args id 0 n (λ j lt. p.below j (omega arith))

-- What holds of a result. Assumes nothing.
use mathlib.Core.Path.{◌≡◌, refl, ◌∙◌}
use Prim.Native.Nat.{ℕ, ◌≤◌, ◌<◌}
use native.Mathlib.Omega.{arith}
use mathlib.Core.Bool.{Bool, true, false}
use Rattle.std.specs.Prelude.{Option, None, Some}
use Rattle.theorems.proofs.DemandOrder.{Nodes}
use Rattle.std.specs.Prelude.{if◌then◌else◌}
use Rattle.definition.specs.Types.{TypeName, State, TypingError, Refusal, Result, ok, err, refused, ◌>>=◌}
use Rattle.definition.specs.Store.{count, taken, type_at}
use Rattle.theorems.proofs.MetSteps.{Keeps, keeps_trans}

-- nodes and variables are only added, and the declarations stay
pub record Grown (S S' : State) : Type 0 where
  pub g_nodes : count S ≤ count S'
  pub g_kept : (i : ℕ) → i < count S → type_at S' i ≡ type_at S i
  pub g_vars : taken S ≤ taken S'
  pub g_structs : S'.structs ≡ S.structs
  -- what numeric variables are bound to stays as the numeric check wants it; where none needs anything none comes to
  pub g_keeps : Keeps S S'

pub grown_refl : (S : State) → Grown S S
grown_refl S = record { g_nodes = omega arith; g_kept = λ i h. refl; g_vars = omega arith; g_structs = refl; g_keeps = record { held = λ h. h; bare = λ h. h } }

pub grown_trans : {S S' S'' : State} → Grown S S' → Grown S' S'' → Grown S S''
grown_trans a b = record { g_nodes = omega (arith, a.g_nodes, b.g_nodes); g_kept = λ i h. b.g_kept i (omega (arith, a.g_nodes)) ∙ a.g_kept i h; g_vars = omega (arith, a.g_vars, b.g_vars); g_structs = b.g_structs ∙ a.g_structs; g_keeps = keeps_trans a.g_keeps b.g_keeps }

-- a success has P; an error is met in a state that has grown from S, with sound nodes
pub data Post {B : Type 0} (ar : TypeName → ℕ) (S : State) (P : State → B → Type 0) : Result (State × B) → Type 0 where
  p_ok : {s : State} {b : B} → Grown S s → P s b → Post ar S P (ok (s, b))
  p_err : {s : State} {e : TypingError} → Grown S s → Nodes ar s → Post ar S P (err s e)
  p_refused : {x : Refusal} → Post ar S P (refused x)

module _ {B : Type 0} {ar : TypeName → ℕ} where
  pub post_from : {S S' : State} {P : State → B → Type 0} {m : Result (State × B)} → Grown S S' → Post ar S' P m → Post ar S P m
  post_from g (p_ok h p) = p_ok (grown_trans g h) p
  post_from g (p_err h n) = p_err (grown_trans g h) n
  post_from g p_refused = p_refused

  pub post_map : {S : State} {P Q : State → B → Type 0} {m : Result (State × B)} → ((s : State) (b : B) → Grown S s → P s b → Q s b) → Post ar S P m → Post ar S Q m
  post_map f (p_ok {s = s} {b = b} h p) = p_ok h (f s b h p)
  post_map f (p_err h n) = p_err h n
  post_map f p_refused = p_refused

  pub if_post : {S : State} {P : State → B → Type 0} (b : Bool) {x y : Result (State × B)} → (b ≡ true → Post ar S P x) → (b ≡ false → Post ar S P y) → Post ar S P (if b then x else y)
  if_post true f g = f refl
  if_post false f g = g refl

  pub opt_post : {S : State} {P : State → B → Type 0} (o : Option ℕ) {x : Result (State × B)} {k : ℕ → Result (State × B)} → (o ≡ None → Post ar S P x) → ((t : ℕ) → o ≡ Some t → Post ar S P (k t))
      → Post ar S P (elim o [ None ↦ x | Some t ↦ k t ])
  opt_post None f g = f refl
  opt_post (Some t) f g = g t refl

-- `?`
pub bind_post : {B C : Type 0} {ar : TypeName → ℕ} {S : State} {P : State → B → Type 0} {Q : State → C → Type 0} {m : Result (State × B)} (f : State × B → Result (State × C))
    → Post ar S P m → ((s : State) (b : B) → Grown S s → P s b → Post ar s Q (f (s, b))) → Post ar S Q (m >>= f)
unfolding ◌>>=◌
bind_post f (p_ok {s = s} {b = b} h p) k = post_from h (k s b h p)
bind_post f (p_err h n) k = p_err h n
bind_post f p_refused k = p_refused

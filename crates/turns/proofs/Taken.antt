-- What turns took of the bytes that a reader is known to have left, and gave to those that a writer is known to hold. Assumes nothing.
use mathlib.Core.Path.{◌≡◌, refl, sym, ap, ◌∙◌}
use mathlib.Core.Bool.{Bool, true, false}
use mathlib.Core.List.{List, [], ◌∷◌, ◌++◌, append-nil, append_assoc}
use Prim.Native.Nat.{ℕ, suc, ◌+◌, ◌-◌, ◌<◌}
use native.Mathlib.Omega.{arith}
use lib.ListN.{length, take, drop, length-drop}
use Rattle.std.specs.Prelude.{Option, Some, None, IfSome, Result, Ok, Err}
use Rattle.std.proofs.lemmas.Bool.{ltb-false}
use Rattle.std.specs.Io.KnownBytes.{Appends, Consumes, Keeps, IsAtEnd, ReadConsumes}
use Rattle.turns.specs.declared.Stage.{Stage}
use Rattle.turns.specs.declared.Stage.TheVariants.{Going, Ended, Unread, Unwritten}
use Rattle.turns.specs.declared.Turn.{Turn}
use Rattle.turns.specs.Filling.{ended, lost, moved, last_read, Took, Gave}

-- a test does not both hold and fail
pub clash : {A : Type 0} {b : Bool} → b ≡ true → b ≡ false → A
clash e f = let z : ◌≡◌ {A = ℕ} 0 1 = cc in absurd (omega (arith, z))

-- ---- reading

kept : (left left' : Option (List ℕ)) → Keeps left left' → Consumes left left' []
kept None left' k = tt
kept (Some known) None k = k
kept (Some known) (Some known') k = sym k

at_end : (left left' : Option (List ℕ)) (bytes : List ℕ) → Consumes left left' bytes → IsAtEnd left' → IfSome left (λ known. left' ≡ Some [])
at_end None left' bytes c e = tt
at_end (Some known) None bytes c e = absurd c
at_end (Some known) (Some known') bytes c e = ap (λ (l : List ℕ). Some l) e

pub took_moved : {E : Type 0} (t t' : Turn) (have : ℕ) (got : Result ℕ E) (left left' : Option (List ℕ)) (buf : List ℕ) → t' ≡ moved t have got → ReadConsumes left left' got (drop have buf) → have < length buf → Took left left' (last_read t' buf) t.more t'.more
unfolding last_read
took_moved t t' have (Ok n) left left' buf e r room =
    let at : have + n - n ≡ have = omega arith in
    rw (e, at) (record { front = r.0; spent = λ m z. at_end left left' (take n (drop have buf)) r.0 (r.1 (omega (arith, ltb-false 0 n z)) (simp length-drop (omega (arith, room)))) })
took_moved t t' have (Err x) left left' buf e r room = rw e (record { front = kept left left' r; spent = λ m z. clash refl z })

-- ---- a turn that does not read, or does not write

unread : (left : Option (List ℕ)) → Consumes left left []
unread None = tt
unread (Some known) = refl

pub took_none : (left : Option (List ℕ)) (more more' : Bool) → more' ≡ more → Took left left [] more more'
took_none left more more' e = record { front = unread left; spent = λ m z. clash m (sym e ∙ z) }

pub gave_none : (held : Option (List ℕ)) (stage : Stage) → Gave held held [] stage
gave_none None stage g = tt
gave_none (Some known) stage g = sym (append-nil known)

-- ---- turn after turn

both : (left left' left'' : Option (List ℕ)) (a b : List ℕ) → Consumes left left' a → Consumes left' left'' b → Consumes left left'' (a ++ b)
both None left' left'' a b c d = tt
both (Some known) None left'' a b c d = absurd c
both (Some known) (Some known') None a b c d = d
both (Some known) (Some known') (Some known'') a b c d = c ∙ ap (λ (l : List ℕ). a ++ l) d ∙ sym (append_assoc a b known'')

-- where none is left, none is taken
none_left : (b known : List ℕ) → [] ≡ b ++ known → known ≡ []
none_left [] known e = sym e
none_left (x ∷ b) known e = let z : ◌≡◌ {A = ℕ} 0 (suc (length (b ++ known))) = ap (λ (l : List ℕ). length l) e in absurd (omega (arith, z))

stays_spent : (left left' left'' : Option (List ℕ)) (a b : List ℕ) → Consumes left left' a → Consumes left' left'' b → IfSome left (λ known. left' ≡ Some []) → IfSome left (λ known. left'' ≡ Some [])
stays_spent None left' left'' a b c d s = tt
stays_spent (Some known) None left'' a b c d s = absurd c
stays_spent (Some known) (Some known') None a b c d s = absurd d
stays_spent (Some known) (Some known') (Some known'') a b c d s = ap (λ (l : List ℕ). Some l) (none_left b known'' (let z : known' ≡ [] = cc in sym z ∙ d))

now_spent : (left left' left'' : Option (List ℕ)) (a : List ℕ) → Consumes left left' a → IfSome left' (λ known. left'' ≡ Some []) → IfSome left (λ known. left'' ≡ Some [])
now_spent None left' left'' a c s = tt
now_spent (Some known) None left'' a c s = absurd c
now_spent (Some known) (Some known') left'' a c s = s

pub took_on : (left left' left'' : Option (List ℕ)) (a b : List ℕ) (m m' m'' : Bool) → Took left left' a m m' → Took left' left'' b m' m'' → Took left left'' (a ++ b) m m''
took_on left left' left'' a b m true m'' t u = record { front = both left left' left'' a b t.front u.front; spent = λ e z. now_spent left left' left'' a t.front (u.spent refl z) }
took_on left left' left'' a b m false m'' t u = record { front = both left left' left'' a b t.front u.front; spent = λ e z. stays_spent left left' left'' a b t.front u.front (t.spent e refl) }

grown : (held held' held'' : Option (List ℕ)) (a b : List ℕ) → Appends held held' a → Appends held' held'' b → Appends held held'' (a ++ b)
grown None held' held'' a b c d = tt
grown (Some known) None held'' a b c d = absurd c
grown (Some known) (Some known') None a b c d = d
grown (Some known) (Some known') (Some known'') a b c d = d ∙ ap (λ (l : List ℕ). l ++ b) c ∙ append_assoc known a b

not_lost : (s : Stage) → ended s ≡ false → lost s ≡ false
not_lost Going e = refl
not_lost Ended e = refl
not_lost Unread e = e
not_lost Unwritten e = e

pub gave_on : (held held' held'' : Option (List ℕ)) (a b : List ℕ) (s s' : Stage) → ended s ≡ false → Gave held held' a s → Gave held' held'' b s' → Gave held held'' (a ++ b) s'
gave_on held held' held'' a b s s' e f g = λ z. grown held held' held'' a b (f (not_lost s e)) (g z)

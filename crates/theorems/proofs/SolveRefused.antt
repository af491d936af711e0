-- SV is refused with 9 or 16 just where one of its constraints gives it before any other does, in the words of specs/Rank.antt and specs/Book.antt. First one
-- constraint (`gives`), then the list by induction (`found`, `stopped`), then SV, whose numeric step is refused with 7 alone. Assumes nothing.
use mathlib.Core.Path.{◌≡◌, refl, ap}
use mathlib.Core.Logic.{◌↔◌, ◌⊎◌, inl, inr}
use mathlib.Core.Bool.{Bool, true, false, not}
use mathlib.Core.List.{List, [], ◌∷◌, Memᴰ}
use Prim.Native.Nat.{ℕ, ◌<◌}
use native.Mathlib.Omega.{arith}
use Rattle.definition.specs.Types.{TypeName, Constraint, AbilityConstraint, NumericConstraint, BitsConstraint, OrderedConstraint, BaseTypeConstraint, SingleTypeConstraint, State, Refusal, full, runs_into_itself, mark_contradicted, Result, ok, err, refused, ◌>>=◌}
use Rattle.definition.specs.Store.{count, taken, type_at, spanned, with_constraints}
use Rattle.definition.specs.Subst.{unfold_type, reaches_itself}
use Rattle.definition.specs.Abilities.{has, those, infer_abilities, contradicted}
use Rattle.definition.specs.Constraints.{num_vars, default_num_vars, missing, by_rule, in_turn, solve_ability_constraint, solve_constraint, failures, solve_all, solve_constraints}
use Rattle.definition.specs.Trees.{arity}
use Rattle.definition.specs.Write.{Bytes}
use Rattle.definition.specs.Sound.{sound}
use Rattle.definition.specs.Rank.{RunsIntoItself}
use Rattle.definition.specs.Book.{Ability, bit, InSet, Has}
use Rattle.theorems.proofs.DemandTracks.{never}
use Rattle.theorems.proofs.Laws.{type_on}
use Rattle.theorems.proofs.DemandOrder.{Sound}
use Rattle.theorems.proofs.Soundness.{and}
use Rattle.theorems.proofs.SoundFacts.{and_l, and_r, unnot, facts}
use Rattle.theorems.proofs.TotalReading.{reaches_is_runs}
use Rattle.theorems.proofs.TotalTakes.{Takes, takes_full}
use Rattle.theorems.proofs.DemandWent.{Went, PostS, ps_ok, ps_err, ps_refused}
use Rattle.theorems.proofs.DemandRuns.{Declared, declared_on, Below, num_vars_below, defaults_went}
use Rattle.theorems.proofs.TotalNoFail.{defaults_take}
use Rattle.theorems.proofs.SolveInTurn.{Tells, turn_first, turn_later, turn_refused, Solved, told, nine, sixteen, constraint_solved}
use Rattle.theorems.proofs.BookAbilities.{not_itself, abilities_agree}
use Rattle.theorems.proofs.SolveRules.{Decides, rule_decides, SomeRefused, those_refused, refused_those, lack, lost, rule_refused, rule_only, sixteen_of}

-- ---- one constraint

-- the ability is asked for and the type has it not, though declaration and arguments grant it
pub record Contradicted (S : State) (t wanted : ℕ) : Type 0 where
  pub ability : Ability
  pub asked : InSet ability wanted
  pub has_not : ¬ Has S ability (type_at S t)
  pub granted : Decides S ability (unfold_type S (spanned S t)).value contradicted

pub data Nine (S : State) : Constraint → Type 0 where
  is_nine : {loc t wanted : ℕ} → RunsIntoItself S (type_at S t) → Nine S (AbilityConstraint loc t wanted)

pub data Sixteen (S : State) : Constraint → Type 0 where
  is_sixteen : {loc t wanted : ℕ} → ¬ RunsIntoItself S (type_at S t) → Contradicted S t wanted → Sixteen S (AbilityConstraint loc t wanted)

module _ {ar : TypeName → ℕ} {S : State} (s : Sound ar S) (k : Declared ar S) where
  is_9 : (loc t wanted : ℕ) → reaches_itself S t ≡ true → solve_ability_constraint S loc t wanted ≡ refused runs_into_itself
  unfolding solve_ability_constraint
  is_9 loc t wanted e = rw (e, solve_ability_constraint) refl

  is_16 : (loc t wanted : ℕ) → reaches_itself S t ≡ false → SomeRefused (lack S loc t) (lost S t wanted) mark_contradicted → solve_ability_constraint S loc t wanted ≡ refused mark_contradicted
  unfolding solve_ability_constraint missing
  is_16 loc t wanted e d = rw (e, solve_ability_constraint) (refused_those (lack S loc t) (lost S t wanted) mark_contradicted (λ ability. rule_only S loc ability _ _) d)

  of_9 : (loc t wanted : ℕ) → solve_ability_constraint S loc t wanted ≡ refused runs_into_itself → reaches_itself S t ≡ true
  unfolding solve_ability_constraint missing
  of_9 loc t wanted e = go (reaches_itself S t) e
    where
      go : (b : Bool) → ◌≡◌ {A = Result Bytes} (elim b [ true ↦ refused runs_into_itself | false ↦ in_turn (lack S loc t) (those (lost S t wanted)) ]) (refused runs_into_itself) → b ≡ true
      go true e = refl
      go false e = let (a, g, h) = those_refused (lack S loc t) (lost S t wanted) runs_into_itself e in let x = (rule_refused S loc (bit a) _ _ h).1 in never (cc)

  runs_not : (t : ℕ) → t < count S → reaches_itself S t ≡ false → ¬ RunsIntoItself S (type_at S t)
  runs_not t i e r = let d = (reaches_is_runs s t i).1 r in never (cc)

  of_16 : (loc t wanted : ℕ) → t < count S → solve_ability_constraint S loc t wanted ≡ refused mark_contradicted → ¬ RunsIntoItself S (type_at S t) × Contradicted S t wanted
  of_16 loc t wanted i e =
      let (d, (a, g, r)) = sixteen_of S loc t wanted e in
      let n = runs_not t i d in (
        n,
        record {
          ability = a;
          asked = and_l (has wanted (bit a)) (not (has (infer_abilities S t) (bit a))) g;
          has_not = λ h. let y = (abilities_agree s k t i d a).1 h in let z = unnot (has (infer_abilities S t) (bit a)) (and_r (has wanted (bit a)) (not (has (infer_abilities S t) (bit a))) g) in never (cc);
          granted = (rule_decides s k t i n a contradicted).0 r;
        },
      )

  to_16 : (loc t wanted : ℕ) → t < count S → ¬ RunsIntoItself S (type_at S t) → Contradicted S t wanted → solve_ability_constraint S loc t wanted ≡ refused mark_contradicted
  unfolding by_rule
  to_16 loc t wanted i n c =
      let a = c.ability in
      let d = not_itself s t i n in
      let r = (rule_decides s k t i n a contradicted).1 c.granted in
      is_16 loc t wanted d (a, and c.asked (gone (has (infer_abilities S t) (bit a)) (λ y. c.has_not ((abilities_agree s k t i d a).0 y))), ap (by_rule S loc (bit a) (unfold_type S (spanned S t))) r)
    where
      gone : (b : Bool) → ¬ (b ≡ true) → not b ≡ true
      gone true h = absurd (h refl)
      gone false h = refl

  abbrev is_ability : Constraint → Bool
  is_ability (AbilityConstraint loc t wanted) = true
  is_ability (NumericConstraint loc t) = false
  is_ability (BitsConstraint loc t) = false
  is_ability (OrderedConstraint loc t) = false
  is_ability (BaseTypeConstraint loc t) = false
  is_ability (SingleTypeConstraint loc t) = false

  nine_ability : {c : Constraint} → Nine S c → is_ability c ≡ true
  nine_ability (is_nine r) = refl

  sixteen_ability : {c : Constraint} → Sixteen S c → is_ability c ≡ true
  sixteen_ability (is_sixteen n c) = refl

  -- which of the two a constraint gives
  pub record Gives (c : Constraint) : Type 0 where
    pub nine_is : (solve_constraint S c ≡ refused runs_into_itself) ↔ Nine S c
    pub sixteen_is : (solve_constraint S c ≡ refused mark_contradicted) ↔ Sixteen S c

  other : (c : Constraint) → Tells (solve_constraint S c) → is_ability c ≡ false → Gives c
  other c (failures, e) d = record { nine_is = (λ f. never (cc), λ n. let y = nine_ability n in never (cc)); sixteen_is = (λ f. never (cc), λ n. let y = sixteen_ability n in never (cc)) }

  pub gives : (c : Constraint) → type_on c < count S → Gives c
  unfolding solve_constraint
  gives (AbilityConstraint loc t wanted) i = record {
    nine_is = (λ e. is_nine ((reaches_is_runs s t i).0 (of_9 loc t wanted e)), back_9);
    sixteen_is = (λ e. let x = of_16 loc t wanted i e in is_sixteen x.0 x.1, back_16);
  }
    where
      back_9 : Nine S (AbilityConstraint loc t wanted) → solve_ability_constraint S loc t wanted ≡ refused runs_into_itself
      back_9 (is_nine r) = is_9 loc t wanted ((reaches_is_runs s t i).1 r)

      back_16 : Sixteen S (AbilityConstraint loc t wanted) → solve_ability_constraint S loc t wanted ≡ refused mark_contradicted
      back_16 (is_sixteen n c) = to_16 loc t wanted i n c
  gives (NumericConstraint loc t) i = other (NumericConstraint loc t) (_, refl) refl
  gives (BitsConstraint loc t) i = other (BitsConstraint loc t) (_, refl) refl
  gives (OrderedConstraint loc t) i = other (OrderedConstraint loc t) (_, refl) refl
  gives (BaseTypeConstraint loc t) i = other (BaseTypeConstraint loc t) (_, refl) refl
  gives (SingleTypeConstraint loc t) i = other (SingleTypeConstraint loc t) (_, refl) refl

-- ---- in list order

-- a constraint has P, and those before it give neither
pub data First (S : State) (P : Constraint → Type 0) : List Constraint → Type 0 where
  first_here : {c : Constraint} {cs : List Constraint} → P c → First S P (c ∷ cs)
  first_later : {c : Constraint} {cs : List Constraint} → ¬ Nine S c → ¬ Sixteen S c → First S P cs → First S P (c ∷ cs)

module _ {ar : TypeName → ℕ} {S : State} (s : Sound ar S) (k : Declared ar S) (x : Refusal) (P : Constraint → Type 0) (h : (c : Constraint) → type_on c < count S → (solve_constraint S c ≡ refused x) ↔ P c) where
  abbrev On : List Constraint → Type 0
  On cs = (c : Constraint) → Memᴰ c cs → type_on c < count S

  -- the constraints in turn
  abbrev turns : List Constraint → Result Bytes
  turns cs = in_turn (λ c. solve_constraint S c) cs

  neither : (c : Constraint) → type_on c < count S → ¬ Nine S c → ¬ Sixteen S c → Tells (solve_constraint S c)
  neither c i n m = go (solve_constraint S c) refl (constraint_solved S c)
    where
      go : (r : Result Bytes) → solve_constraint S c ≡ r → Solved r → Tells (solve_constraint S c)
      go (ok failures) e told = (failures, e)
      go (err s t) e q = elim q [ ]
      go (refused y) e nine = absurd (n ((gives s k c i).nine_is.0 e))
      go (refused y) e sixteen = absurd (m ((gives s k c i).sixteen_is.0 e))

  found : (cs : List Constraint) → On cs → turns cs ≡ refused x → First S P cs
  unfolding in_turn
  found [] on e = never (cc)
  found (c ∷ cs) on e = go (turn_refused (λ c. solve_constraint S c) c cs e) (λ d. found cs (λ b m. on b (Memᴰ.tail m)) d)
    where
      i : type_on c < count S
      i = on c (Memᴰ.head refl)

      go : (solve_constraint S c ≡ refused x) ⊎ (Tells (solve_constraint S c) × (turns cs ≡ refused x)) → (turns cs ≡ refused x → First S P cs) → First S P (c ∷ cs)
      go (inl d) f = first_here ((h c i).0 d)
      go (inr ((failures, d), e)) f = first_later (λ n. let y = (gives s k c i).nine_is.1 n in never (cc)) (λ n. let y = (gives s k c i).sixteen_is.1 n in never (cc)) (f e)

  stopped : {cs : List Constraint} → On cs → First S P cs → turns cs ≡ refused x
  stopped on (first_here {c = c} p) = turn_first (λ c. solve_constraint S c) c _ ((h c (on c (Memᴰ.head refl))).1 p)
  stopped on (first_later {c = c} n m f) = turn_later (λ c. solve_constraint S c) c _ (neither c (on c (Memᴰ.head refl)) n m) (stopped (λ b m. on b (Memᴰ.tail m)) f)

-- ---- SV

-- the numeric step leaves a state in which P is met first
pub record Stops (S : State) (P : State → Constraint → Type 0) : Type 0 where
  pub left : State
  pub numeric : default_num_vars S (num_vars 0 S.vars) ≡ ok left
  pub at : First left (P left) left.constraints

module _ (S : State) (sd : sound S ≡ true) where
  below : Below (taken S) (num_vars 0 S.vars)
  below = num_vars_below 0 S.vars (taken S) (omega arith)

  all_is : (s : State) (x : Refusal) → (solve_all s ≡ refused x) ↔ (failures s ≡ refused x)
  unfolding ◌>>=◌
  all_is s x = (go (failures s), λ e. rw e refl)
    where
      go : (m : Result Bytes) → ◌>>=◌ {B = State × Bytes} m (λ failures. ok (with_constraints s [], failures)) ≡ refused x → m ≡ refused x
      go (ok failures) e = never (cc)
      go (err s t) e = never (cc)
      go (refused y) e = let d : y ≡ x = cc in ap refused d

  refused_is : (x : Refusal) (P : State → Constraint → Type 0) → ¬ (full ≡ x) → ((s : State) → Sound (arity S) s → Declared (arity S) s → (c : Constraint) → type_on c < count s → (solve_constraint s c ≡ refused x) ↔ P s c)
      → (solve_constraints S ≡ refused x) ↔ Stops S P
  unfolding solve_constraints ◌>>=◌
  refused_is x P n h = (there (default_num_vars S (num_vars 0 S.vars)) refl went (defaults_take (num_vars 0 S.vars) (facts S sd) (λ n. refl) below), back)
    where
      went : PostS (arity S) S (Went (arity S) S) (default_num_vars S (num_vars 0 S.vars))
      went = defaults_went (num_vars 0 S.vars) (facts S sd) (λ n. refl) below

      there : {a b : ℕ} (m : Result State) → default_num_vars S (num_vars 0 S.vars) ≡ m → PostS (arity S) S (Went (arity S) S) m → Takes S a b (λ s. s) (λ s. Unit {0}) m → (m >>= λ (s : State). solve_all s) ≡ refused x → Stops S P
      there (ok s) d (ps_ok g w) t e = record { left = s; numeric = d; at = let k = declared_on (λ n. refl) g in found w.sound k x (P s) (h s w.sound k) s.constraints w.sound.constraints_on.on ((all_is s x).0 e) }
      there (err s e) d p t q = elim t [ ]
      there (refused y) d p (takes_full f) e = absurd (n (let z : full ≡ x = cc in z))

      sound_left : {m : Result State} {s : State} → PostS (arity S) S (Went (arity S) S) m → m ≡ ok s → Sound (arity S) s × Declared (arity S) s
      sound_left {s = s} (ps_ok {s = s'} g w) e = let z : s' ≡ s = cc in rw (← z) (w.sound, declared_on (λ n. refl) g)
      sound_left (ps_err g k) e = never (cc)
      sound_left ps_refused e = never (cc)

      back : Stops S P → (default_num_vars S (num_vars 0 S.vars) >>= λ (s : State). solve_all s) ≡ refused x
      back p = let (w, k) = sound_left went p.numeric in rw p.numeric ((all_is p.left x).1 (stopped w k x (P p.left) (h p.left w k) w.constraints_on.on p.at))

  pub solve_nine : (solve_constraints S ≡ refused runs_into_itself) ↔ Stops S Nine
  solve_nine = refused_is runs_into_itself Nine (λ e. never (cc)) (λ x s k c i. (gives s k c i).nine_is)

  pub solve_sixteen : (solve_constraints S ≡ refused mark_contradicted) ↔ Stops S Sixteen
  solve_sixteen = refused_is mark_contradicted Sixteen (λ e. never (cc)) (λ x s k c i. (gives s k c i).sixteen_is)

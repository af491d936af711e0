-- The joins and subtypes that a record asks for: each starts in a sound state, and where it must not leave a variable that reaches itself it leaves none. Assumes nothing.
-- `Fair` is what a join is claimed from. It goes along a run's calls: JN and SU, SV variable by variable, then a record.
use mathlib.Core.Path.{◌≡◌, refl, sym, subst}
use mathlib.Core.Logic.{inl, inr}
use mathlib.Core.Bool.{Bool, true, false}
use mathlib.Core.List.{List, [], ◌∷◌, ◌++◌, Memᴰ}
use Prim.Native.Nat.{ℕ, ◌≤◌, ◌<◌}
use native.Mathlib.Omega.{arith}
use Rattle.definition.specs.Types.{TypeName, Var, State, max_depth, Result, ok, err, refused, ◌>>=◌}
use Rattle.definition.specs.Store.{count, taken, sp}
use Rattle.definition.specs.Subst.{forward_tvar, unfold_type}
use Rattle.definition.specs.Join.{TypingCase, Join, Subtype, join_impl, join, subtype}
use Rattle.definition.specs.Constraints.{num_vars, undecided, default_num_var, default_of}
use Rattle.definition.specs.Write.{Bytes, write}
use Rattle.definition.specs.Record.{Record, SD, FV, NV, SN, JN, SU, UF, RD, IN, TS, NC, BC, SC, SV, RM, CN, XP, NL, MJ, UL, JL, KP}
use Rattle.definition.specs.Trees.{Tree, arity}
use Rattle.definition.specs.Step.{Answer, max_payload, two_types, pair_answer, run, reply}
use Rattle.definition.specs.Rank.{NoneReachesItself}
use Rattle.definition.specs.Demand.{JoinCall, outcome, if_reached, two_types_calls, default_num_var_calls, default_num_vars_calls, run_calls}
use Rattle.theorems.proofs.DemandOrder.{Sound}
use Rattle.theorems.proofs.LawsPost.{Post, p_ok, p_err, p_refused}
use Rattle.theorems.proofs.DemandCalls.{sp_post, var_ok}
use Rattle.theorems.proofs.SoundRead.{Fine, FineRecord}
use Rattle.theorems.proofs.DemandWent.{Went, PostS, ps_ok}
use Rattle.theorems.proofs.DemandRuns.{Declared, declared_on, Below, below_on, num_vars_below, place_went, default_went, default_ok}
use Rattle.theorems.proofs.JoinAnswers.{weight, run_fits, links_fit}
use Rattle.theorems.proofs.ManyPairs.{Pair, PairFits, pair_fits}
use Rattle.theorems.proofs.TotalNoFail.{Sure, sure_ok, sure_is, takes_sure, CalmAt, placed_takes, new_calm, default_sure}
use mathlib.Core.List.Memᴰ

-- what a join is claimed from. E: what is given of its record
pub record Fair (E : Type 0) (a : JoinCall) : Type 0 where
  pub ar : TypeName → ℕ
  pub from : Sound ar a.before
  pub l_in : a.lhs < count a.before
  pub r_in : a.rhs < count a.before
  pub clear : E → (s : State) (t : ℕ) → outcome a ≡ ok (s, t) → NoneReachesItself s

abbrev pub AllFair : Type 0 → List JoinCall → Type 0
AllFair E l = (a : JoinCall) → Memᴰ a l → Fair E a

-- where the run succeeds it leaves no variable that reaches itself
abbrev Clears : Result (State × Bytes) → Type 0
Clears m = (s : State) (p : Bytes) → m ≡ ok (s, p) → NoneReachesItself s

joined_clear : (m : Result (State × ℕ)) (f : State × ℕ → Bytes) → Clears (m >>= λ (x : State × ℕ). ok (x.0, f x)) → (s : State) (t : ℕ) → m ≡ ok (s, t) → NoneReachesItself s
unfolding ◌>>=◌
joined_clear m f z s t e = z s (f (s, t)) (rw e refl)

module _ {E : Type 0} where
  pub none_fair : AllFair E []
  none_fair a m = absurd (Memᴰ.not-nil m)

  one_fair : (b : JoinCall) → Fair E b → AllFair E (b ∷ [])
  one_fair b h a m = subst (λ (x : JoinCall). Fair E x) (sym (Memᴰ.eq_of_singleton m)) h

  both_fair : (l r : List JoinCall) → AllFair E l → AllFair E r → AllFair E (l ++ r)
  both_fair l r p q a m = elim (Memᴰ.append_cases l m) [ inl x ↦ p a x | inr x ↦ q a x ]

  -- the run, of which Z is given, goes on by k where its calls go on by f
  met_fair : {B C : Type 0} {ar : TypeName → ℕ} {S : State} {P : State → B → Type 0} {m : Result (State × B)} (Z : Result C → Type 0) (f : State × B → Result (List JoinCall)) (k : State × B → Result C)
      → Z (m >>= k) → Post ar S P m → ((s : State) (b : B) → P s b → Z (k (s, b)) → AllFair E (if_reached (f (s, b)))) → AllFair E (if_reached (m >>= f))
  unfolding ◌>>=◌ if_reached
  met_fair Z f k z (p_ok {s = s} {b = b} g p) h = h s b p z
  met_fair Z f k z (p_err g n) h = none_fair
  met_fair Z f k z p_refused h = none_fair

  post_fair : {B : Type 0} {ar : TypeName → ℕ} {S : State} {P : State → B → Type 0} {m : Result (State × B)} (f : State × B → Result (List JoinCall)) → Post ar S P m
      → ((s : State) (b : B) → P s b → AllFair E (if_reached (f (s, b)))) → AllFair E (if_reached (m >>= f))
  post_fair f p h = met_fair (λ (x : Result Bytes). Unit {0}) f (λ x. ok []) tt p (λ s b q z. h s b q)

  two_fair : {ar : TypeName → ℕ} (c : TypingCase) (S : State) → Sound ar S → (t1 t2 : Tree) → Fine ar (taken S) t1 → Fine ar (taken S) t2
      → (E → Clears (two_types (λ s l r. join_impl max_depth s c l r) S t1 t2)) → AllFair E (two_types_calls c S t1 t2)
  unfolding two_types_calls if_reached two_types
  two_fair {ar} c S s t1 t2 f1 f2 z =
      met_fair (λ m. E → Clears m) _ _ z (place_went f1 s (omega arith)) (λ S1 l w1 z1.
      met_fair (λ m. E → Clears m) _ _ z1 (place_went f2 w1.sound (omega (arith, w1.above.more_vars))) (λ S2 r w2 z2.
      one_fair _ (record {
        ar = ar;
        from = w2.sound;
        l_in = omega (arith, w1.t_in, w2.above.more_nodes);
        r_in = w2.t_in;
        clear = λ e. joined_clear (join_impl max_depth S2 c l r) (λ x. write x.0 x.1) (z2 e);
      })))

  -- ---- SV

  num_fair : {ar : TypeName → ℕ} (S : State) → Sound ar S → Declared ar S → (v loc : ℕ) → v < taken S → (E → NoneReachesItself S) → AllFair E (default_num_var_calls S v loc)
  unfolding default_num_var_calls if_reached join
  num_fair {ar} S s d v loc h z = go (undecided _) refl
    where
      go : (b : Bool) → undecided (unfold_type S (record { loc = loc; value = Var v })).value ≡ b → AllFair E (elim b [
        | false ↦ []
        | true ↦ if_reached (sp S loc (default_of S v) >>= (λ (x : State × ℕ). sp x.0 loc (Var v) >>= (λ (y : State × ℕ). ok (record { before = y.0; case = Join; lhs = x.1; rhs = y.1 } ∷ []))))
      ])
      go false e = none_fair
      go true e = post_fair _ (sp_post s loc (default_of S v) (default_ok d S v)) (λ S1 l p.
          post_fair _ (sp_post p.sound loc (Var v) (var_ok v (omega (arith, p.same_vars)))) (λ S2 r q.
          one_fair _ (record {
            ar = ar;
            from = q.sound;
            l_in = omega (arith, p.t_in, q.quiet.q_nodes);
            r_in = q.t_in;
            clear = λ x s' t j. (sure_is (takes_sure (placed_takes s v loc l r h e p q)) j).calm.none_still ((new_calm p.sound q).none_still ((new_calm s p).none_still (z x)));
          })))

  nums_fair : {ar : TypeName → ℕ} (l : List (ℕ × ℕ)) (S : State) → Sound ar S → Declared ar S → Below (taken S) l → (E → NoneReachesItself S) → AllFair E (default_num_vars_calls S l)
  unfolding default_num_vars_calls
  nums_fair [] S s d h z = none_fair
  nums_fair {ar} ((v, loc) ∷ l) S s d h z =
      both_fair _ _ (num_fair S s d v loc h.0 z)
      (go (default_num_var S v loc) (default_went v loc s d h.0) (default_sure s d v loc h.0) (λ S' s' d' h' z'. nums_fair l S' s' d' h' z'))
    where
      go : (m : Result State) → PostS ar S (Went ar S) m → Sure (CalmAt S (forward_tvar S v)) m → ((S' : State) → Sound ar S' → Declared ar S' → Below (taken S') l → (E → NoneReachesItself S') → AllFair E (default_num_vars_calls S' l))
          → AllFair E (elim m [ ok s ↦ default_num_vars_calls s l | err s e ↦ [] | refused x ↦ [] ])
      go (ok S') (ps_ok g w) (sure_ok c) f = f S' w.sound (declared_on d g) (below_on w.above.more_vars l h.1) (λ x. c.calm.none_still (z x))
      go (err s x) p c f = elim c [ ]
      go (refused x) p c f = none_fair

  -- ---- a record, where none reaches itself before it or in the state that it leaves

  pub run_calls_fair : (S : State) → Sound (arity S) S → (r : Record) → FineRecord (arity S) (taken S) r → weight r ≤ max_payload → (E → NoneReachesItself S) → (E → NoneReachesItself (reply S r).state) → AllFair E (run_calls S r)
  unfolding run_calls run join subtype
  run_calls_fair S s (SD a ps) f w n z = none_fair
  run_calls_fair S s (FV loc) f w n z = none_fair
  run_calls_fair S s (NV loc) f w n z = none_fair
  run_calls_fair S s (SN v loc) f w n z = none_fair
  run_calls_fair S s (NL loc bits) f w n z = none_fair
  run_calls_fair S s (JN t1 t2) f w n z = two_fair Join S s t1 t2 f.0 f.1 (λ e s' p d. subst (λ (x : Answer). NoneReachesItself x.state) (run_fits s Join t1 t2 f w s' p d) (z e))
  run_calls_fair S s (SU t1 t2) f w n z = two_fair Subtype S s t1 t2 f.0 f.1 (λ e s' p d. subst (λ (x : Answer). NoneReachesItself x.state) (run_fits s Subtype t1 t2 f w s' p d) (z e))
  run_calls_fair S s (UF t) f w n z = none_fair
  run_calls_fair S s (RD t) f w n z = none_fair
  run_calls_fair S s (IN t) f w n z = none_fair
  run_calls_fair S s (TS ps t) f w n z = none_fair
  run_calls_fair S s (NC loc kind t) f w n z = none_fair
  run_calls_fair S s (BC loc t) f w n z = none_fair
  run_calls_fair S s (SC loc t) f w n z = none_fair
  run_calls_fair S s (RM t) f w n z = none_fair
  run_calls_fair S s (CN t) f w n z = none_fair
  run_calls_fair S s (XP t) f w n z = none_fair
  run_calls_fair S s (MJ ps) f w n z = none_fair
  run_calls_fair S s (KP listed) f w n z = none_fair
  run_calls_fair S s (UL t) f w n z = none_fair
  run_calls_fair S s (JL t1 t2) f w n z = two_fair Join S s t1 t2 f.0 f.1 (λ e s' p d. subst (λ (x : Answer). NoneReachesItself x.state) (links_fit s t1 t2 f w s' p d) (z e))
  run_calls_fair S s SV f w n z = nums_fair (num_vars 0 S.vars) S s (λ n. refl) (num_vars_below 0 S.vars (taken S) (omega arith)) n

  -- a pair of MJ
  pub pair_fair : {ar : TypeName → ℕ} (S : State) → Sound ar S → (p : Pair) → PairFits S p → (E → NoneReachesItself (pair_answer S p).state) → AllFair E (record { before = S; case = p.0; lhs = p.1; rhs = p.2 } ∷ [])
  pair_fair {ar} S s p i z = one_fair _ (record {
    ar = ar;
    from = s;
    l_in = i.l_in;
    r_in = i.r_in;
    clear = λ e s' t d. subst (λ (x : Answer). NoneReachesItself x.state) (pair_fits s p i s' t d) (z e);
  })

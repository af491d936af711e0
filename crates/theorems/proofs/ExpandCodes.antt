-- R-5: XP has a code for each `!` that was a variable, and for no other. Assumes nothing.
use mathlib.Core.Path.{◌≡◌, refl}
use mathlib.Core.List.{List, [], ◌∷◌, ◌++◌}
use Prim.Native.Nat.{ℕ}
use Rattle.definition.specs.Types.{TypeValue, State}
use Rattle.definition.specs.Trees.{Tree, Trees}
use Rattle.definition.specs.Final.{Finally, final_unit, final_any, final_error, final_param, final_ref, final_bound, final_open, final_name, final_builtin, AllFinally, final_none, final_each, errors, errors_all, Splits, split_none, split_left, split_right, FinalCodes}
use Rattle.definition.specs.Final.{Written, no_error_unit, no_error_any, no_error_param, error_written, written_ref, written_bound, no_error_open, written_name, AllWritten, written_none, written_each}

splits_append : {ls ks all ls' ks' all' : List ℕ} → Splits ls ks all → Splits ls' ks' all' → Splits (ls ++ ls') (ks ++ ks') (all ++ all')
splits_append split_none q = q
splits_append (split_left p) q = split_left (splits_append p q)
splits_append (split_right p) q = split_right (splits_append p q)

-- the codes' locations come apart as the lists of the parts do
splits_each : {ls ms all ks ks' es es' : List ℕ} → ls ++ ms ≡ all → Splits ls ks es → Splits ms ks' es' → Splits all (ks ++ ks') (es ++ es')
splits_each e p q = rw (← e) (splits_append p q)

mutual
  unfolding errors errors_all

  codes_are : {s : State} {t : ℕ} {x : TypeValue} {T : Tree} {ls : List ℕ} → Finally s t x T ls → (ks : List ℕ) × Written s t x ks × Splits ls ks (errors T)
  codes_are (final_unit e) = ([], no_error_unit, split_none)
  codes_are (final_any e) = ([], no_error_any, split_none)
  codes_are (final_error {l = l} e) = (l ∷ [], error_written e, split_right split_none)
  codes_are (final_param e) = ([], no_error_param, split_none)
  codes_are (final_ref e d) = let z = codes_are d in (z.0, written_ref z.1, z.2)
  codes_are (final_bound c d) = let z = codes_are d in (z.0, written_bound c z.1, z.2)
  codes_are (final_open e c) = ([], no_error_open c, split_left split_none)
  codes_are (final_name e q ds) = let z = all_codes ds in (z.0, written_name z.1, z.2)
  codes_are (final_builtin e ds) = let z = all_codes ds in (z.0, written_name z.1, z.2)

  all_codes : {s : State} {ps : List ℕ} {Ts : Trees} {ls : List ℕ} → AllFinally s ps Ts ls → (ks : List ℕ) × AllWritten s ps ks × Splits ls ks (errors_all Ts)
  all_codes final_none = ([], written_none, split_none)
  all_codes (final_each d ds e) = let y = codes_are d in let z = all_codes ds in (y.0 ++ z.0, written_each y.1 z.1 refl, splits_each e y.2 z.2)

pub final_codes : (s : State) → FinalCodes s
unfolding FinalCodes
final_codes s t x T ls d = codes_are d

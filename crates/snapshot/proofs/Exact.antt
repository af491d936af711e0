-- After an undo and the counts written, the words are those at entry, word for word. Assumes nothing.
use mathlib.Core.Path.{◌≡◌, sym, ap, ◌∙◌}
use mathlib.Core.List.{List, [], ◌∷◌}
use Prim.Native.Nat.{ℕ}
use lib.ListN.{length, get_or}
use Rattle.definition.specs.Types.{State, Struct}
use Rattle.definition.specs.Store.{with_structs}
use Rattle.table.specs.Rows.{words_at, struct_table}
use Rattle.table.specs.State.{view, seen, Lay, Declares}
use Rattle.table.specs.Encode.{encode}
use Rattle.table.specs.declared.Used.{Used}
use Rattle.table.proofs.Encoded.{encoded}

module _ (w₀ w' : List ℕ) (u : Used) (ds : List Struct) (same : view w' u ≡ view w₀ u) (g : Declares w₀ u ds) where
  -- what table::write_used asks
  pub declares_still : Declares w' u ds
  declares_still =
      record {
        many = g.many;
        abilities = λ i p. g.abilities i p ∙ ap (λ (s : State). (get_or s.structs i struct_table.blank).abilities) (sym same);
        params = λ i p. g.params i p ∙ ap (λ (s : State). length (get_or s.structs i struct_table.blank).params) (sym same);
      }

  -- what it answers
  pub word_for_word : (w : List ℕ) → Lay w₀ u → words_at w₀ 0 5 ≡ u.nodes ∷ u.args ∷ u.vars ∷ u.constraints ∷ u.structs ∷ [] → w ≡ encode (seen w' u ds) → w ≡ w₀
  unfolding seen
  word_for_word w h c e = e ∙ ap (λ (s : State). encode (with_structs s ds)) same ∙ sym (encoded w₀ u ds h g c)

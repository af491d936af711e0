-- Words and parameter bytes that passed the test: their layout, and the state that stands in them. Assumes nothing.
use mathlib.Core.Path.{◌≡◌, refl, ◌∙◌}
use mathlib.Core.Bool.{true}
use mathlib.Core.List.{List}
use Prim.Native.Nat.{ℕ}
use lib.ListN.{length}
use Rattle.table.specs.State.{Lay}
use Rattle.table.specs.declared.Used.{Used}
use Rattle.table.specs.declared.state.State.{State as Table}
use Rattle.sound.specs.Lent.{used_of, decode, lent_sound}
use Rattle.sound.proofs.Tested.{lent_says}
use Rattle.sound.proofs.Lays.{lent_lay}
use Rattle.step.specs.Trusted.{held, held_by, Stands}

module _ (w : List ℕ) (p : List (List ℕ)) (h : lent_sound w p ≡ true) where
  pub lent_lays : (u : Used) → u ≡ used_of w → Lay w u
  lent_lays u c = rw c (lent_lay w p (lent_says w p h))

  pub lent_size : length w ≡ 24069
  lent_size = (lent_lay w p (lent_says w p h)).size

  -- the state that is made of them
  module _ (s : Table) (e : s.words.now ≡ w) (c : s.used ≡ used_of w) where
    pub held_lent : held_by s p ≡ decode w p
    unfolding held decode
    held_lent = rw (e, c) refl

    pub stands_lent : Stands s.words.now s.used p
    unfolding held decode
    stands_lent = let l = lent_says w p h in rw (e, c) (record { lay = lent_lay w p l; bytes = l.bytes; is_sound = l.is_sound })

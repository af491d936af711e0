-- R-12: CN of a type answers as RD of it: equal numbers, payloads of equal length, equal states. Assumes nothing.
use mathlib.Core.Path.{◌≡◌, refl}
use mathlib.Core.Bool.{Bool, true, false}
use mathlib.Core.List.{[], ◌∷◌, ◌++◌}
use Prim.Native.Nat.{ℕ}
use lib.ListN.{length, take, drop}
use lib.Dec.{leb}
use Rattle.std.specs.Prelude.{if◌then◌else◌}
use Rattle.definition.specs.Types.{State, Result, ok, err, refused, ◌>>=◌, answer_too_long, unsound_state}
use Rattle.definition.specs.Subst.{ready_tvars}
use Rattle.definition.specs.Write.{Bytes, write}
use Rattle.definition.specs.Canonical.{canonical}
use Rattle.definition.specs.Reader.{Read, got, not_read, go_on, ◌>>=◌ as ◌then_read◌, byte}
use Rattle.definition.specs.Trees.{Tree, read_type}
use Rattle.definition.specs.Record.{RD, CN, by_mark, fields_of, read_fields, max_record, read_record}
use Rattle.definition.specs.Build.{build}
use Rattle.definition.specs.Step.{run, refusal, answer_within, answer, answer_with, most_of, apart, reply, least_buffer, max_payload, usable, lent, step, Answer, behind, tail_of}
use Rattle.definition.specs.Agree.{AsRD, CNAsRD}
use Rattle.theorems.proofs.Canonical.{canonical_length}
use Rattle.theorems.proofs.ReadBack.{made, made_is}

same : (a : Answer) → AsRD a a
same a = record { same_number = refl; same_length = refl; same_state = refl }

module _ (s : State) where
  with_payload : (p q : Bytes) → length p ≡ length q → AsRD (answer s (ok (s, p))) (answer s (ok (s, q)))
  unfolding answer answer_within behind answer_with
  with_payload p q e = rw e (go (leb (length q) max_payload))
    where
      go : (b : Bool) → AsRD (if b then record { number = 0; payload = p; state = s } else refusal s answer_too_long) (if b then record { number = 0; payload = q; state = s } else refusal s answer_too_long)
      go true = record { same_number = refl; same_length = e; same_state = refl }
      go false = same _

  at_node : (m : Result (State × ℕ)) → AsRD (answer s (m >>= (λ (x : State × ℕ). ok (s, canonical x.0 x.1)))) (answer s (m >>= (λ (x : State × ℕ). ok (s, write x.0 x.1))))
  unfolding ◌>>=◌
  at_node (ok (s', t)) = with_payload (canonical s' t) (write s' t) (canonical_length s' t)
  at_node (err s' e) = same _
  at_node (refused x) = same _

  runs : (tree : Tree) → AsRD (answer s (run s (CN tree))) (answer s (run s (RD tree)))
  unfolding run ◌>>=◌
  runs tree = go (build tree s)
    where
      go : (m : Result (State × ℕ)) → AsRD (answer s (m >>= (λ (x : State × ℕ). ready_tvars x.0 x.1 >>= (λ (y : State × ℕ). ok (s, canonical y.0 y.1)))))
          (answer s (m >>= (λ (x : State × ℕ). ready_tvars x.0 x.1 >>= (λ (y : State × ℕ). ok (s, write y.0 y.1)))))
      go (ok (s', t)) = at_node (ready_tvars s' t)
      go (err s' e) = same _
      go (refused x) = same _

  lent_same : (tree : Tree) (rest : Bytes) → AsRD (lent s (got (CN tree) rest)) (lent s (got (RD tree) rest))
  unfolding lent reply apart most_of tail_of answer
  lent_same tree [] = runs tree
  lent_same tree (b ∷ rest) = same _

  pub reads_CN : (bytes : Bytes) → read_record s (67 ∷ 78 ∷ bytes) ≡ made s CN (drop 4094 bytes) (read_type s (take 4094 bytes))
  unfolding read_record max_record read_fields by_mark fields_of byte ◌then_read◌ go_on
  reads_CN bytes = made_is s CN (drop 4094 bytes) (take 4094 bytes)

  pub reads_RD : (bytes : Bytes) → read_record s (82 ∷ 68 ∷ bytes) ≡ made s RD (drop 4094 bytes) (read_type s (take 4094 bytes))
  unfolding read_record max_record read_fields by_mark fields_of byte ◌then_read◌ go_on
  reads_RD bytes = made_is s RD (drop 4094 bytes) (take 4094 bytes)

  lent_both : (more : Bytes) (x : Read Tree) → AsRD (lent s (made s CN more x)) (lent s (made s RD more x))
  lent_both more (got t rest) = lent_same t (rest ++ more)
  lent_both more (not_read x) = same _

  lent_bytes : (bytes : Bytes) → AsRD (lent s (read_record s (67 ∷ 78 ∷ bytes))) (lent s (read_record s (82 ∷ 68 ∷ bytes)))
  lent_bytes bytes = rw (reads_CN bytes, reads_RD bytes) (lent_both (drop 4094 bytes) (read_type s (take 4094 bytes)))

  pub cn_as_rd : CNAsRD s
  unfolding CNAsRD step usable least_buffer
  cn_as_rd bytes buffer = go (usable s (67 ∷ 78 ∷ bytes) buffer)
    where
      go : (b : Bool) → AsRD (elim b [ true ↦ lent s (read_record s (67 ∷ 78 ∷ bytes)) | false ↦ refusal s unsound_state ]) (elim b [ true ↦ lent s (read_record s (82 ∷ 68 ∷ bytes)) | false ↦ refusal s unsound_state ])
      go true = lent_bytes bytes
      go false = same _

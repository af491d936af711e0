-- R-9: what stands behind the payload of a UL or JL is the number of links of its types, once they are placed; else the run is refused. Assumes nothing.
use mathlib.Core.Path.{◌≡◌, refl}
use Prim.Native.Nat.{ℕ}
use Rattle.definition.specs.Types.{State, Refusal, Result, ok, err, refused, ◌>>=◌}
use Rattle.definition.specs.Store.{spanned}
use Rattle.definition.specs.Subst.{links_of, unfold_type}
use Rattle.definition.specs.Join.{join}
use Rattle.definition.specs.Links.{join_links}
use Rattle.definition.specs.Write.{Bytes, u32, write, write_spanned}
use Rattle.definition.specs.Trees.{Tree}
use Rattle.definition.specs.Build.{build}
use Rattle.definition.specs.Step.{two_types, unfolded, links_of_one, links_of_two, counted, tail_of}
use Rattle.theorems.proofs.DemandRecords.{NoErr, no_place}

-- a tail that is a number for which P holds, behind what a run shows
pub data Tail (P : ℕ → Type 0) (tail : Bytes) : Result (State × Bytes) → Type 0 where
  of_links : {n : ℕ} {m : Result (State × Bytes)} → tail ≡ u32 n → P n → Tail P tail m
  nothing_shown : {x : Refusal} → Tail P tail (refused x)

-- the links of a type, once it is placed
pub data OfOne (s : State) (t : Tree) : ℕ → Type 0 where
  of_one : {s' : State} {ty : ℕ} → build t s ≡ ok (s', ty) → OfOne s t (links_of s' ty)

-- those of the merges of two types' join
pub data OfTwo (s : State) (t1 t2 : Tree) : ℕ → Type 0 where
  of_two : {s1 s2 : State} {lhs rhs : ℕ} → build t1 s ≡ ok (s1, lhs) → build t2 s1 ≡ ok (s2, rhs) → OfTwo s t1 t2 (join_links s2 lhs rhs)

pub one_tail : (s : State) (t : Tree) → Tail (OfOne s t) (tail_of s (links_of_one t)) (unfolded s t)
unfolding tail_of unfolded counted ◌>>=◌
one_tail s t = go (build t s) refl (no_place t s)
  where
    go : (m : Result (State × ℕ)) → build t s ≡ m → NoErr m → Tail (OfOne s t) (counted (m >>= λ (x : State × ℕ). ok (links_of x.0 x.1))) (m >>= λ (x : State × ℕ). ok (s, write_spanned x.0 (unfold_type x.0 (spanned x.0 x.1))))
    go (ok x) e n = of_links refl (of_one e)
    go (err s e) d n = elim n [ ]
    go (refused x) e n = nothing_shown

pub two_tail : (s : State) (t1 t2 : Tree) → Tail (OfTwo s t1 t2) (tail_of s (links_of_two t1 t2)) (two_types join s t1 t2)
unfolding tail_of two_types counted ◌>>=◌
two_tail s t1 t2 = first (build t1 s) refl (no_place t1 s)
  where
    second : (s1 : State) (l : ℕ) → build t1 s ≡ ok (s1, l) → (m : Result (State × ℕ)) → build t2 s1 ≡ m → NoErr m
        → Tail (OfTwo s t1 t2) (counted (m >>= λ (y : State × ℕ). ok (join_links y.0 l y.1))) (m >>= λ (y : State × ℕ). join y.0 l y.1 >>= λ (z : State × ℕ). ok (z.0, write z.0 z.1))
    second s1 l e (ok y) d n = of_links refl (of_two e d)
    second s1 l e (err s x) d n = elim n [ ]
    second s1 l e (refused x) d n = nothing_shown

    first : (m : Result (State × ℕ)) → build t1 s ≡ m → NoErr m → Tail (OfTwo s t1 t2) (counted (m >>= λ (x : State × ℕ). build t2 x.0 >>= λ (y : State × ℕ). ok (join_links y.0 x.1 y.1)))
        (m >>= λ (x : State × ℕ). build t2 x.0 >>= λ (y : State × ℕ). join y.0 x.1 y.1 >>= λ (z : State × ℕ). ok (z.0, write z.0 z.1))
    first (ok x) e n = second x.0 x.1 e (build t2 x.0) refl (no_place t2 x.0)
    first (err s x) e n = elim n [ ]
    first (refused x) e n = nothing_shown

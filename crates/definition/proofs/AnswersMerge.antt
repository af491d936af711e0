-- 01, 'Merge': whose location each of its types has, which variable no. 2 shows, and that SU stays subtype inside, computed. Most lines are false under an
-- edit of must-fail/ (docs/CLAIMS.md, 'Edits of the definition'). Assumes nothing.
use Rattle.std.proofs.Common.{◌≡◌, [], ◌∷◌, ◌++◌, refl}
use Rattle.definition.specs.Write.{u32}
use Rattle.definition.proofs.Spelling.{imm, mut, u8, bool, vector, list, var, FV, NV, JN, SU}
use Rattle.definition.proofs.AnswersJoin.{after}

-- ---- locations

-- an unbound end is `_` at its own variable's location: no. 2 shows it
pub left_end_at_left_location : after (NV 1 ∷ FV 2 ∷ JN (var 3 1) (bool 4) ∷ []) (JN (var 5 0) (var 6 1)) ≡ (2, var 5 0 ++ bool 4)
unfolding after
left_end_at_left_location = refl

pub right_end_at_right_location : after (FV 1 ∷ NV 2 ∷ JN (var 3 0) (bool 4) ∷ []) (JN (var 5 0) (var 6 1)) ≡ (2, bool 4 ++ var 6 1)
unfolding after
right_end_at_right_location = refl

pub lists_of_a_variable_each : after (FV 1 ∷ FV 2 ∷ []) (JN (list 3 (var 4 0 ∷ [])) (list 5 (var 6 1 ∷ []))) ≡ (0, list 5 (var 6 2 ∷ []))
unfolding after
lists_of_a_variable_each = refl

-- a merge's first binding is at the left variable's location. V0 is bound to vector<V1>, V1 to vector<V2>: the inner merge binds the outer's variable to its own, and no. 4 shows where
pub left_binding_at_left_location : after (FV 1 ∷ FV 2 ∷ FV 3 ∷ JN (var 4 0) (vector 5 (var 6 1)) ∷ JN (var 7 1) (vector 8 (var 9 2)) ∷ []) (JN (var 10 0) (var 11 1)) ≡ (4, u32 6)
unfolding after
left_binding_at_left_location = refl

-- V0, and not V2 that it ends in
pub variable_shown_as_given : after (NV 1 ∷ FV 2 ∷ JN (var 3 0) (var 4 1) ∷ []) (JN (var 5 0) (bool 6)) ≡ (2, var 5 0 ++ bool 6)
unfolding after
variable_shown_as_given = refl

-- V0 has no mark; V2, that it ends in, has
pub mark_of_the_chain_end : after (FV 1 ∷ NV 2 ∷ JN (var 3 0) (var 4 1) ∷ []) (JN (var 5 0) (bool 6)) ≡ (2, var 5 0 ++ bool 6)
unfolding after
mark_of_the_chain_end = refl

-- SU goes on as subtype
pub subtype_inside_a_merge : after (FV 1 ∷ FV 2 ∷ JN (var 3 0) (imm 4 (u8 5)) ∷ JN (var 6 1) (mut 7 (u8 8)) ∷ []) (SU (var 9 0) (var 10 1)) ≡ (1, imm 4 (u8 5) ++ mut 7 (u8 8))
unfolding after
subtype_inside_a_merge = refl

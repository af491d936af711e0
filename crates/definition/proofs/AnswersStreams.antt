-- 01, 'In a stream' and 'The program joinlog': what is handed back, what ends a job, and how a log is spelled, computed. Assumes nothing.
use Rattle.std.proofs.Common.{◌≡◌, ◌++◌, refl}
use Rattle.definition.specs.Types.{fresh}
use Rattle.definition.proofs.Computed.{answered, log_of, rest_of}
use Rattle.definition.proofs.Spelling.{text, hex, imm, u8, var, FV, RD, UF}
use Rattle.definition.proofs.AnswersLimits.{filled}

-- ---- the unread rest: what is behind the record; on 5, 6, 15 and 18 all

pub rest_after_a_record : rest_of fresh (FV 1 ++ FV 2) 4096 ≡ FV 2
unfolding rest_of
rest_after_a_record = refl

pub all_on_5 : rest_of fresh (text "XX" ++ FV 2) 4096 ≡ text "XX" ++ FV 2
unfolding rest_of
all_on_5 = refl

pub all_on_6 : rest_of fresh (UF (var 1 0) ++ FV 2) 4096 ≡ UF (var 1 0) ++ FV 2
unfolding rest_of
all_on_6 = refl

pub all_on_15 : rest_of fresh (FV 1 ++ FV 2) 4095 ≡ FV 1 ++ FV 2
unfolding rest_of
all_on_15 = refl

pub all_on_18 : rest_of fresh (UF (imm 1 (imm 2 (u8 3))) ++ FV 4) 4096 ≡ UF (imm 1 (imm 2 (u8 3))) ++ FV 4
unfolding rest_of
all_on_18 = refl

-- ---- the log

pub five_ends_the_job : log_of (text "XX" ++ FV 2) ≡ text "0 5\n"
unfolding log_of
five_ends_the_job = refl

pub six_ends_the_job : log_of (UF (var 1 0) ++ FV 2) ≡ text "0 6\n"
unfolding log_of
six_ends_the_job = refl

pub eleven_goes_on : log_of (FV 1 ++ text "RM" ++ var 2 0 ++ FV 3) ≡ text "0 0 06010000000000\n1 11\n2 0 06030000000100\n"
unfolding log_of
eleven_goes_on = refl

-- each byte of a location, and each digit past 9
pub numbers_spelled : log_of (hex "4656 fedcba98") ≡ text "0 0 06fedcba980000\n"
unfolding log_of
numbers_spelled = refl

pub number_of_two_bytes : answered (filled 0 0 257 0 0) (RD (var 1 256)) 4096 ≡ (0, hex "06 01000000 0001")
unfolding answered
number_of_two_bytes = refl

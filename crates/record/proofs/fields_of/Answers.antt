-- `record::fields_of` meets its contract. Assumes nothing.
use Rattle.fields.proofs.Forms.{sv_is}
use Rattle.record.proofs.fields_of.Goals as goal

pub returns-in-SD-clause-is : goal.returns-in-SD-clause-is
returns-in-SD-clause-is c = rw c.in-SD.is (c.read_sd.ensures.is _ _ _)

pub returns-in-SN-clause-is : goal.returns-in-SN-clause-is
returns-in-SN-clause-is c = rw c.in-SN.is (c.read_sn.ensures.is _ _)

pub returns-in-TS-clause-is : goal.returns-in-TS-clause-is
returns-in-TS-clause-is c = rw c.in-TS.is (c.read_ts.ensures.is _)

pub returns-in-IN-clause-is : goal.returns-in-IN-clause-is
returns-in-IN-clause-is c = rw c.in-IN.is (c.read_in.ensures.is _)

pub returns-in-NC-clause-is : goal.returns-in-NC-clause-is
returns-in-NC-clause-is c = rw c.in-NC.is (c.read_nc.ensures.is _)

pub returns-in-SV-clause-is : goal.returns-in-SV-clause-is
returns-in-SV-clause-is c = rw c.in-SV.is (sv_is)

pub returns-in-RM-clause-is : goal.returns-in-RM-clause-is
returns-in-RM-clause-is c = rw c.in-RM.is (c.read_rm.ensures.is _)

pub returns-in-XP-clause-is : goal.returns-in-XP-clause-is
returns-in-XP-clause-is c = rw c.in-XP.is (c.read_xp.ensures.is _)

pub returns-in-NL-clause-is : goal.returns-in-NL-clause-is
returns-in-NL-clause-is c = rw c.in-NL.is (c.read_nl.ensures.is _ _ _)

pub returns-in-MJ-clause-is : goal.returns-in-MJ-clause-is
returns-in-MJ-clause-is c = rw c.in-MJ.is (c.read_many.ensures.is)

pub returns-in-KP-clause-is : goal.returns-in-KP-clause-is
returns-in-KP-clause-is c = rw c.in-KP.is (c.read_keep.ensures.is _)

pub returns-in-Loc-clause-is : goal.returns-in-Loc-clause-is
returns-in-Loc-clause-is c = rw c.in-Loc.is (c.read_loc.ensures.is _ _ _)

pub returns-in-Look-clause-is : goal.returns-in-Look-clause-is
returns-in-Look-clause-is c = rw c.in-Look.is (c.read_look.ensures.is _)

pub returns-in-Two-clause-is : goal.returns-in-Two-clause-is
returns-in-Two-clause-is c = rw c.in-Two.is (c.read_two.ensures.is _)

pub returns-in-LocType-clause-is : goal.returns-in-LocType-clause-is
returns-in-LocType-clause-is c = rw c.in-LocType.is (c.read_loc_type.ensures.is _)

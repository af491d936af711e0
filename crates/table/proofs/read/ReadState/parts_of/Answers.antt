-- `table::ReadState::parts_of` meets its contract. Assumes nothing.
use native.Mathlib.Omega.{arith}
use Prim.Native.Nat.{◌+◌, ◌*◌, ◌-◌}
use mathlib.Core.Path.{◌≡◌}
use Rattle.table.proofs.Listed.{places_fit, parts_ref, parts_apply, parts_none}
use Rattle.table.proofs.read.ReadState.parts_of.Goals as goal

pub slice_bounds-result-end-in-Apply : goal.slice_bounds-result-end-in-Apply
slice_bounds-result-end-in-Apply g c =
    let lay = (g.Self.ReadState.state c.args.self.now).lay in
    let fit = places_fit _ _ _ c.args.n lay c.requires.0 c.requires.1 c.in-Apply.a c.in-Apply.is in
    rw c.words-in-Apply.ensures (omega (arith, fit, lay.size, lay.args, c.wide-at.ensures, c.wide-in-Apply.ensures))

pub returns-in-Ref : goal.returns-in-Ref
returns-in-Ref g c =
    let one : 5 + c.args.t * 6 + 3 + 1 - (5 + c.args.t * 6 + 3) ≡ 1 = omega arith in
    λ ds. rw (c.words.ensures, c.wide.ensures, one) (parts_ref _ _ _ c.args.n (g.Self.ReadState.state c.args.self.now).lay c.requires.0 c.requires.1 _ _ c.in-Ref.is ds)

pub returns-in-Apply : goal.returns-in-Apply
returns-in-Apply g c =
    let a = c.in-Apply.a in
    let many : 12293 + a.first + a.many - (12293 + a.first) ≡ a.many = omega arith in
    λ ds. rw (c.words-in-Apply.ensures, c.wide-at.ensures, c.wide-in-Apply.ensures, many) (parts_apply _ _ _ c.args.n (g.Self.ReadState.state c.args.self.now).lay c.requires.0 c.requires.1 a c.in-Apply.is ds)

pub returns-in_default : goal.returns-in_default
returns-in_default g c = λ ds. parts_none _ _ _ c.args.n (g.Self.ReadState.state c.args.self.now).lay c.requires.0 c.requires.1 (λ m p e. c.in_default.not-Ref m p e) (λ a e. c.in_default.not-Apply a e) ds

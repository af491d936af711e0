-- `lines::lines_trusted` meets its contract. Assumes nothing.
use mathlib.Core.Path.{refl, sym, ◌∙◌}
use native.Mathlib.Omega.{arith}
use Rattle.log_lines.proofs.Text.{bytes_of}
use Rattle.lines.proofs.Jobs.{going_start, going_spent, going_stops, taken_on, takes_room, begin_room, free_begin, free_size, lent_digit, end_room, going_less, going_last, going_on}
use Rattle.lines.proofs.lines_trusted.Goals as goal

pub records-init : goal.records-init
records-init c = rw c.nothing-lines.ensures (record { saved_all = refl; saved = λ v p. absurd (omega (arith, p, c.requires.1)); going = going_start _ _ _ _ _ _ c.requires.0; goes_on = refl })

pub returns-then-not-takes_on : goal.returns-then-not-takes_on
returns-then-not-takes_on c =
    let i = c.records.invariant in
    rw i.goes_on (going_stops i.going c.records-test.true (taken_on i.going c.takes_on.ensures c.if-not-takes_on.true))

pub begin_line-at-requires : goal.begin_line-at-requires
begin_line-at-requires c =
    let i = c.records.invariant in
    begin_room i.going (taken_on i.going c.takes_on.ensures c.if-not-takes_on.false)

pub slice_bounds-buf-start : goal.slice_bounds-buf-start
slice_bounds-buf-start c =
    let i = c.records.invariant in
    free_begin i.going (taken_on i.going c.takes_on.ensures c.if-not-takes_on.false) c.begin_line-at.ensures

pub slice_bounds-buf-count : goal.slice_bounds-buf-count
slice_bounds-buf-count c =
    let i = c.records.invariant in
    free_begin i.going (taken_on i.going c.takes_on.ensures c.if-not-takes_on.false) c.begin_line-at.ensures

pub step_trusted-r-requires-clause-stands : goal.step_trusted-r-requires-clause-stands
step_trusted-r-requires-clause-stands c =
    let i = c.records.invariant in
    (i.going.stands, (bytes_of _ c.type_inv.stream, (i.going.within, (omega (arith, i.saved_all), free_size i.going (taken_on i.going c.takes_on.ensures c.if-not-takes_on.false) c.begin_line-at.ensures))))

pub end_line-requires-clause-one_digit : goal.end_line-requires-clause-one_digit
end_line-requires-clause-one_digit c =
    let i = c.records.invariant in
    lent_digit i.going (bytes_of _ c.type_inv.stream) c.records-test.true (taken_on i.going c.takes_on.ensures c.if-not-takes_on.false) c.step_trusted-r.ensures.steps c.begin_line-at.ensures refl c.step_trusted-r.auto.buf

pub end_line-requires-clause-room : goal.end_line-requires-clause-room
end_line-requires-clause-room c =
    let i = c.records.invariant in
    end_room i.going (bytes_of _ c.type_inv.stream) c.records-test.true (taken_on i.going c.takes_on.ensures c.if-not-takes_on.false) c.step_trusted-r.ensures.steps c.begin_line-at.ensures refl c.step_trusted-r.auto.buf

pub overflow_add-lines : goal.overflow_add-lines
overflow_add-lines c =
    let i = c.records.invariant in
    record { fits = omega (arith, (takes_room _ _ _ _ (taken_on i.going c.takes_on.ensures c.if-not-takes_on.false)).1) }

pub returns-then-lines : goal.returns-then-lines
returns-then-lines c =
    let i = c.records.invariant in
    rw c.if-lines.true
    (going_last i.going (bytes_of _ c.type_inv.stream) c.records-test.true (taken_on i.going c.takes_on.ensures c.if-not-takes_on.false)
    c.step_trusted-r.ensures.steps c.begin_line-at.ensures refl c.step_trusted-r.auto.buf (sym c.ends_job.ensures ∙ c.if-lines.true) c.end_line.ensures)

pub records-smaller : goal.records-smaller
records-smaller c =
    let i = c.records.invariant in
    omega (
      arith,
      going_less i.going (bytes_of _ c.type_inv.stream) c.records-test.true (taken_on i.going c.takes_on.ensures c.if-not-takes_on.false)
          c.step_trusted-r.ensures.steps (sym c.ends_job.ensures ∙ c.if-lines.false),
      c.step_trusted-r.ensures.steps.within,
    )

pub records-preserved : goal.records-preserved
records-preserved c =
    let i = c.records.invariant in
    record {
      saved_all = c.step_trusted-r.auto.saved ∙ i.saved_all;
      saved = c.step_trusted-r.ensures.noted_next;
      going = going_on i.going (bytes_of _ c.type_inv.stream) c.records-test.true (taken_on i.going c.takes_on.ensures c.if-not-takes_on.false)
          c.step_trusted-r.ensures.steps c.begin_line-at.ensures refl c.step_trusted-r.auto.buf (sym c.ends_job.ensures ∙ c.if-lines.false) c.end_line.ensures;
      goes_on = c.if-lines.false;
    }

pub returns : goal.returns
returns c = going_spent c.records.invariant.going c.records-test.false

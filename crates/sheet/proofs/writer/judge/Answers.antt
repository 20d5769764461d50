use Prim.Native.Nat.{ℕ, ◌+◌, ◌*◌}
use mathlib.Core.Path.{ap}
use native.Mathlib.Omega.{arith}
use Rattle.std.proofs.lemmas.Result.{err_from_is_err_and}
use Rattle.sheet.specs.Write.{handed_sheet}
use Rattle.sheet.proofs.ReadLaws.{none_bad}
use Rattle.sheet.proofs.WriteLaws.{version_refused, counts_refused, queue_refused, room_refused, writes}
use Rattle.sheet.proofs.writer.judge.Goals as goal

pub returns-in_err-size : goal.returns-in_err-size
returns-in_err-size c =
    let p = err_from_is_err_and c.from_residual.result c.from_residual.ensures.1 in
    rw (p.1, p.2, c.in_err-size.ensures.0) (version_refused (handed_sheet c.args.fields.now) c.args.room c.in_err-size.ensures.1)

pub returns-then-not-counted : goal.returns-then-not-counted
returns-then-not-counted c =
    counts_refused (handed_sheet c.args.fields.now) c.args.room c.in_ok-size.ensures.0
    (c.counted.ensures.fails c.if-not-counted.true)

pub returns-in-Some : goal.returns-in-Some
returns-in-Some c =
    let right = c.counted.ensures.holds c.if-not-counted.false in
    queue_refused (handed_sheet c.args.fields.now) c.args.room c.in_ok-size.ensures.0 right.0 right.1 _ c.in-Some.ensures

pub returns-then-room-length : goal.returns-then-room-length
returns-then-room-length c =
    let f = handed_sheet c.args.fields.now in
    let right = c.counted.ensures.holds c.if-not-counted.false in
    room_refused f c.args.room c.in_ok-size.ensures.0 right.0 right.1 (none_bad f c.in_default.ensures)
    (omega (arith, ap (λ (k : ℕ). k * f.m) c.in_ok-size.ensures.1))

pub returns : goal.returns
returns c =
    let f = handed_sheet c.args.fields.now in
    let right = c.counted.ensures.holds c.if-not-counted.false in
    writes f c.args.room c.in_ok-size.ensures.0 right.0 right.1 (none_bad f c.in_default.ensures) _
    (ap (λ (k : ℕ). 20 + 4 * f.n + k * f.m) c.in_ok-size.ensures.1)
    c.if-room-length.false

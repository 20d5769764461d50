use Prim.Native.Nat.{◌≤◌}
use mathlib.Core.Path.{refl}
use native.Mathlib.Omega.{arith}
use Rattle.std.proofs.lemmas.Result.{err_from_is_err_and}
use Rattle.sheet.proofs.ReadLaws.{few_queues, header_refused, queue_refused, accepts}
use Rattle.sheet.proofs.reader.read.Goals as goal

pub returns-in_err-size : goal.returns-in_err-size
returns-in_err-size c =
    let p = err_from_is_err_and c.from_residual.result c.from_residual.ensures.1 in rw (p.1, p.2) (header_refused _ c.in_err-size.ensures)

pub bad_queue-requires : goal.bad_queue-requires
bad_queue-requires c = few_queues _ _ c.sheet_of-sheet.ensures c.in_ok-size.ensures.accepted.1

pub overflow_cast-result : goal.overflow_cast-result
overflow_cast-result c =
    let few : c.sheet_of-sheet.result.m ≤ 64 = few_queues _ _ c.sheet_of-sheet.ensures c.in_ok-size.ensures.accepted.1 in
    omega (arith, c.in-Some.ensures.inside _ refl)

pub returns-in-Some : goal.returns-in-Some
returns-in-Some c = queue_refused _ c.in_ok-size.ensures _ c.sheet_of-sheet.ensures _ c.in-Some.ensures

pub returns-in-None : goal.returns-in-None
returns-in-None c = accepts _ c.in_ok-size.ensures _ c.sheet_of-sheet.ensures c.in-None.ensures

use Rattle.std.proofs.Common.{refl, arith}
use Rattle.refusals.specs.Table.{short, version, counts, layout, field, apart, counts_fail, stuck, no_retiming, room, hand, negative, slow, token, unbalanced}
use Rattle.refusals.proofs.SpelledLaws.{spelled}
use Rattle.refusals.proofs.wording.word.Goals as goal

pub returns-in-1 : goal.returns-in-1
returns-in-1 c = spelled short (omega arith) refl

pub returns-in-2 : goal.returns-in-2
returns-in-2 c = spelled version (omega arith) refl

pub returns-in-3 : goal.returns-in-3
returns-in-3 c = spelled counts (omega arith) refl

pub returns-in-4 : goal.returns-in-4
returns-in-4 c = spelled layout (omega arith) refl

pub returns-in-5 : goal.returns-in-5
returns-in-5 c = spelled field (omega arith) refl

pub returns-in-6 : goal.returns-in-6
returns-in-6 c = spelled apart (omega arith) refl

pub returns-in-7 : goal.returns-in-7
returns-in-7 c = spelled counts_fail (omega arith) refl

pub returns-in-8 : goal.returns-in-8
returns-in-8 c = spelled stuck (omega arith) refl

pub returns-in-9 : goal.returns-in-9
returns-in-9 c = spelled no_retiming (omega arith) refl

pub returns-in-11 : goal.returns-in-11
returns-in-11 c = spelled room (omega arith) refl

pub returns-in-12 : goal.returns-in-12
returns-in-12 c = spelled hand (omega arith) refl

pub returns-in-13 : goal.returns-in-13
returns-in-13 c = spelled negative (omega arith) refl

pub returns-in-14 : goal.returns-in-14
returns-in-14 c = spelled slow (omega arith) refl

pub returns-in-15 : goal.returns-in-15
returns-in-15 c = spelled token (omega arith) refl

pub returns-in-16 : goal.returns-in-16
returns-in-16 c = spelled unbalanced (omega arith) refl

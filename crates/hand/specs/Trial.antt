-- What is known of a hand check on the way to its period.
use Rattle.std.specs.Prelude.{ℕ, ◌<◌, ◌^◌, List}
use Rattle.lists.specs.Front.{at}
use Rattle.dataflow.specs.Stuck.{Stuck}
use Rattle.chain.specs.Chain.{delays_of}
use Rattle.checks.specs.declared.Checked.{Checked}
use Rattle.checks.specs.Check.{net_for, Ready, sheet_in}

-- no check refuses the sheet, and these are delays with which it isn't stuck
pub record Timeable (c : Checked) (new : List ℕ) : Type 0 where
  pub ready : Ready (sheet_in c) c
  pub small : (e : ℕ) → at new e < 2 ^ 30
  pub fires : ¬ Stuck (net_for (sheet_in c) c.round.q) (delays_of c.round.chain.m new)

-- What a retiming that was found gives to the lists: everything is small enough, and the counts, the retiming and back are those of the rows.
use Prim.Native.Nat.{ℕ, ◌-◌, ◌*◌, ◌≤◌, ◌<◌}
use mathlib.Core.Path.{◌≡◌, refl, sym, ap}
use mathlib.Core.List.{List}
use mathlib.Core.Logic.{⊎_elim}
use native.Mathlib.Nat.{mul-le-mul}
use native.Mathlib.Omega.{arith}
use Rattle.lists.specs.Front.{at}
use Rattle.lists.proofs.Order.{lt_or_ge}
use Rattle.dataflow.specs.Net.{Sound}
use Rattle.dataflow.specs.Counts.{sum}
use Rattle.dataflow.specs.Lists.{Back}
use Rattle.dataflow.proofs.SumLaws.{sum_le, sum_times, sum_same}
use Rattle.sheet.specs.declared.Sheet.{Sheet}
use Rattle.chain.specs.Chain.{CountedChain}
use Rattle.chain.proofs.ChainLaws.{sound, count_few}
use Rattle.checks.specs.declared.Checked.{Checked}
use Rattle.checks.specs.Check.{net_for, sheet_in}
use Rattle.firing.proofs.PeriodLaws.{round_wanted}
use Rattle.search.specs.declared.Found.{Found}
use Rattle.search.specs.Found.{Retimes}
use Rattle.search.proofs.FoundLaws.{retiming_fits, delays_fit, back_few}
use Rattle.retimed.specs.Back.{Small, BackOf, StartFirings}
use Rattle.retimed.proofs.BackLaws.{back_is}
use Rattle.planner.specs.Lists.{Fireable}
use Rattle.planner.specs.Making.{Retimed, Begun}
use Rattle.planner.specs.Plan.{Worked, start_length}

module _ {c : Checked} {r : Found} (h : Retimed c r) where
  abbrev f : Sheet
  f = sheet_in c

  counted : CountedChain f.n f.m f.source f.sink f.produced f.consumed c.round.q c.round.total
  counted = c.round.counted

  pub W : Sound (net_for f c.round.q)
  W = sound counted f.time

  -- by the sheet's own delays
  pub retimes : Retimes f.n f.m f.source f.sink f.produced f.consumed f.delay f.time c.round.q c.round.total f.target r
  retimes = h.retimes

  pub small : Small f.n c.round.q r.retiming
  small = record {
    few = c.round.chain.fits.few;
    positive = counted.positive;
    counts = λ v l. count_few counted v;
    retimings = λ v l. retiming_fits counted h.retimes v;
  }

  module _ {back : ℕ} (b : BackOf f.n c.round.q r.retiming back) where
    pub backs : Back (net_for f c.round.q) (at r.retiming) back
    backs = back_is (net_for f c.round.q) refl (λ v. refl) b

    pub back_small : back ≤ 255
    back_small = omega (arith, back_few counted h.retimes back (back_is (net_for f c.round.q) refl (λ v. refl) b), counted.few)

    pub worked : Worked f c.round.q r.retiming back
    worked = record { counts = h.ready.counts; retimes = retimes.retiming; backs = backs }

    module _ {firings : List ℕ} (s : StartFirings f.n c.round.q r.retiming back firings) where
      pub firings_few : (v : ℕ) → at firings v ≤ back * at c.round.q v
      firings_few v = ⊎_elim (λ l. omega (arith, s.is v l)) (λ l. omega (arith, s.rest v l)) (lt_or_ge v f.n)

      pub firing_small : (v : ℕ) → at firings v ≤ 65280
      firing_small v = omega (arith, firings_few v, mul-le-mul back_small (count_few counted v))

      pub starts_few : sum f.n (at firings) ≤ 65280
      starts_few =
          omega (
            arith,
            sum_le f.n (at firings) (λ v. back * at c.round.q v) firings_few,
            sum_times f.n back (at c.round.q),
            ap (λ (x : ℕ). back * x) counted.adds,
            mul-le-mul back_small counted.few,
          )

      -- they are c × q(v) - r(v), and their sum is the start list's length
      pub firings_are : (v : ℕ) → v < f.n → at firings v ≡ back * at c.round.q v - at r.retiming v
      firings_are v l = omega (arith, s.is v l)

      pub starts_are : sum f.n (at firings) ≡ start_length f.n c.round.q r.retiming back
      starts_are = sum_same f.n (at firings) (λ v. back * at c.round.q v - at r.retiming v) firings_are

  pub round_fireable : Fireable f.n r.delay c.round.q c.round.total
  round_fireable = record {
    delays = λ e. omega (arith, delays_fit counted h.retimes h.ready.given e);
    wants = round_wanted counted;
  }

pub start_fireable : {c : Checked} {r : Found} {back : ℕ} {firings : List ℕ} {starts : ℕ} → Begun c r back firings starts
    → Fireable c.round.chain.n c.delay firings starts
start_fireable b = record {
  delays = λ e. omega (arith, b.retimed.ready.given.most e);
  wants = record { adds = sym b.adds; beyond = b.fires.rest; few = omega (arith, b.adds, starts_few b.retimed b.backs b.fires) };
}

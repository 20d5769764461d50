-- How large the numbers of the search can be.
use Prim.Native.Nat.{ℕ, suc, ◌+◌, ◌*◌, ◌≤◌, ◌<◌}
use mathlib.Core.Path.{ap}
use mathlib.Core.List.{List}
use mathlib.Core.Logic.{⊎_elim}
use native.Mathlib.Nat.{mul-le-mul, mul-le-mul_right}
use native.Mathlib.Omega.{arith}
use lib.ListN.{length}
use Rattle.lists.specs.Front.{at}
use Rattle.lists.proofs.Order.{lt_or_ge}
use Rattle.dataflow.specs.Net.{Net, Sound}
use Rattle.dataflow.specs.Counts.{sum}
use Rattle.dataflow.specs.Lists.{Back, StartList}
use Rattle.dataflow.specs.Retiming.{whole}
use Rattle.dataflow.proofs.ListLaws.{start_length_lem}
use Rattle.dataflow.proofs.PlanLaws.{search_bound, back_bound}
use Rattle.dataflow.proofs.SearchLaws.{rounds_bound}
use Rattle.dataflow.proofs.SumLaws.{sum_above}
use Rattle.dataflow.specs.Whole.{up, down}
use Rattle.dataflow.proofs.WholeLaws.{Retimed, delay_is}
use Rattle.chain.specs.Chain.{DelaysGiven, CountedChain, net_of, delays_of}
use Rattle.chain.proofs.ChainLaws.{sound, count_few}
use Rattle.search.specs.Found.{Retimes}
use Rattle.search.specs.declared.Found.{Found}

module _ {n m : ℕ} {source sink produced consumed delay time q : List ℕ} {total target : ℕ} (c : CountedChain n m source sink produced consumed q total) {r : Found}
    (h : Retimes n m source sink produced consumed delay time q total target r) where
  abbrev G : Net
  G = net_of n m source sink produced consumed time q

  W : Sound G
  W = sound c time

  -- fewer rounds than copies
  pub rounds_few : r.rounds < total
  rounds_few =
      let some : 1 ≤ sum n (at q) = omega (arith, sum_above n (at q) 0 c.chain.some, c.positive 0 c.chain.some) in
      omega (arith, rounds_bound G W (delays_of m delay) target h.rounds some, c.adds)

  -- r(v) is at most (N - 1) × q(v)
  pub retiming_bound : (v : ℕ) → at r.retiming v + at q v ≤ total * at q v
  retiming_bound v =
      let few : suc r.rounds ≤ total = rounds_few in
      omega (arith, search_bound G W (delays_of m delay) target h.rounds.searched v, mul-le-mul_right (at q v) few)

  pub retiming_fits : (v : ℕ) → at r.retiming v ≤ 65280
  retiming_fits v =
      let few : r.rounds ≤ 255 = omega (arith, rounds_few, c.few) in
      omega (arith, search_bound G W (delays_of m delay) target h.rounds.searched v, mul-le-mul few (count_few c v))

  pub new_delays_lem : Retimed G (delays_of m delay) (at r.retiming) (delays_of m r.delay)
  new_delays_lem e =
      let z = h.delays e.0 e.1 in
      omega (arith, (delay_is G (delays_of m delay) (whole (at r.retiming)) e).is, ap up z, ap down z)

  pub delays_fit : DelaysGiven m delay → (e : ℕ) → at r.delay e ≤ 4182015
  delays_fit given e =
      ⊎_elim
      (λ l. omega (arith, new_delays_lem (e, l), given.most e, mul-le-mul (c.chain.takes_most e l) (retiming_fits (at sink e))))
      (λ l. omega (arith, h.rest e l))
      (lt_or_ge e m)

  -- back is at most N - 1
  pub back_few : (b : ℕ) → Back G (at r.retiming) b → b < total
  back_few b x = omega (arith, back_bound G W (delays_of m delay) target h.rounds.searched b x, rounds_few)

  -- the start list has at most (N - 1) × N entries
  pub start_fits : (b : ℕ) → Back G (at r.retiming) b → (l : List ℕ) → StartList G (delays_of m delay) (at r.retiming) b l → length l ≤ 65280
  start_fits b x l s =
      let few : b ≤ 255 = omega (arith, back_few b x, c.few) in
      omega (arith, start_length_lem G (delays_of m delay) (at r.retiming) b l s, ap (λ (x : ℕ). b * x) c.adds, mul-le-mul few c.few)

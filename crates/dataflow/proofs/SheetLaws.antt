-- The net of a sheet is sound where its lists fit, and that can be decided.
use mathlib.Core.Path.{◌≡◌}
use mathlib.Core.List.{List}
use Prim.Native.Nat.{ℕ, ◌*◌, ◌≤◌, ◌<◌}
use native.Mathlib.Omega.{arith}
use native.Mathlib.Decide.{ℕ_discrete, dec_le, dec_lt}
use lib.ListN.{length, get_or-eq_default}
use Rattle.lists.specs.Front.{at}
use Rattle.dataflow.specs.Net.{Sound}
use Rattle.dataflow.specs.Sheet.{Sheet, net}
use Rattle.dataflow.proofs.Below.{Upto, upto, upto_of, below_all}
use Rattle.dataflow.proofs.Decide.{both, implied, equal, upto_dec}

module _ (s : Sheet) (q : List ℕ) where
  -- Queue e has rates of at least 1, joins stations, and is balanced by q.
  pub record QueueFits (e : ℕ) : Type 0 where
    pub makes : 1 ≤ at s.produced e
    pub takes : 1 ≤ at s.consumed e
    pub leaves : at s.source e < s.stations
    pub enters : at s.sink e < s.stations
    pub balanced : at q (at s.source e) * at s.produced e ≡ at q (at s.sink e) * at s.consumed e

  -- q has a positive number for each station and 0 beyond, and each queue fits.
  pub record SheetFits : Type 0 where
    pub beyond : (v : ℕ) → s.stations ≤ v → at q v ≡ 0
    pub positive : (v : ℕ) → v < s.stations → 1 ≤ at q v
    pub queues : (e : ℕ) → e < s.queues → QueueFits e

  pub sheet_sound : SheetFits → Sound (net s q)
  sheet_sound f = record {
    makes = λ e. (f.queues e.0 e.1).makes;
    takes = λ e. (f.queues e.0 e.1).takes;
    named = below_all s.queues;
    leaves = λ e. (f.queues e.0 e.1).leaves;
    enters = λ e. (f.queues e.0 e.1).enters;
    counts = record { positive = f.positive; balanced = λ e. (f.queues e.0 e.1).balanced };
    beyond = f.beyond;
  }

  unfoldable pub queue_dec : (e : ℕ) → Dec (QueueFits e)
  queue_dec e = equal
      (λ h. record { makes = h.0; takes = h.1.0; leaves = h.1.1.0; enters = h.1.1.1.0; balanced = h.1.1.1.1 })
      (λ f. (f.makes, (f.takes, (f.leaves, (f.enters, f.balanced)))))
      (both (dec_le 1 (at s.produced e)) (both (dec_le 1 (at s.consumed e)) (both (dec_lt (at s.source e) s.stations) (both (dec_lt (at s.sink e) s.stations)
      (ℕ_discrete (at q (at s.source e) * at s.produced e) (at q (at s.sink e) * at s.consumed e))))))

  pub none_beyond : Upto (λ v. s.stations ≤ v → at q v ≡ 0) (length q) → (v : ℕ) → s.stations ≤ v → at q v ≡ 0
  none_beyond h v k = elim (dec_lt v (length q)) [ yes l ↦ upto (λ v. s.stations ≤ v → at q v ≡ 0) (length q) h v l k | no l ↦ get_or-eq_default q 0 {n = v} (omega arith) ]

  unfoldable pub sheet_dec : Dec SheetFits
  unfolding queue_dec
  sheet_dec = equal
      (λ h. record { beyond = none_beyond h.0; positive = upto (λ v. 1 ≤ at q v) s.stations h.1.0; queues = upto QueueFits s.queues h.1.1 })
      (λ f. (upto_of (λ v. s.stations ≤ v → at q v ≡ 0) (length q) (λ v k. f.beyond v), (upto_of (λ v. 1 ≤ at q v) s.stations f.positive, upto_of QueueFits s.queues f.queues)))
      (both (upto_dec (λ v. s.stations ≤ v → at q v ≡ 0) (λ v. implied (dec_le s.stations v) (ℕ_discrete (at q v) 0)) (length q))
      (both (upto_dec (λ v. 1 ≤ at q v) (λ v. dec_le 1 (at q v)) s.stations) (upto_dec QueueFits queue_dec s.queues)))

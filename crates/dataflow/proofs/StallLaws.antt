-- A round that cannot go on has a loop of delay 0.
use mathlib.Core.Path.{◌≡◌, refl, sym, ◌∙◌}
use Prim.Native.Nat.{ℕ, zero, suc, ◌+◌, ◌-◌, ◌*◌, ◌≤◌, ◌<◌}
use native.Mathlib.Nat.{zero-add, suc-add, add-suc, le_dest, mul-le-mul_right, lt_of_mul-lt-mul_right}
use native.Mathlib.Omega.{arith}
use Rattle.dataflow.specs.Net.{Net, Sound}
use Rattle.dataflow.specs.Counts.{sum, total}
use Rattle.dataflow.specs.Copies.{Copy}
use Rattle.dataflow.specs.Paths.{Path, alone}
use Rattle.dataflow.specs.Stuck.{Stuck}
use Rattle.dataflow.proofs.FeedLaws.{Feed, feed_last, feed_high}
use Rattle.dataflow.proofs.CopyLaws.{copy_station, inside_of}
use Rattle.dataflow.proofs.PathLaws.{step_to}
use Rattle.dataflow.proofs.SumLaws.{sum_before}
use Rattle.dataflow.proofs.Pigeon.{Twice, pigeon, code_once}

module _ (G : Net) (D : G.Queue → ℕ) (F : ℕ → ℕ) where
  -- The firings F are done, and v is short of tokens.
  pub record Short (v : ℕ) : Type 0 where
    pub queue : G.Queue
    pub to : G.sink queue ≡ v
    pub lacks : D queue + F (G.source queue) * G.produced queue < suc (F v) * G.consumed queue

  -- a copy that is left
  pub record Left : Type 0 where
    pub v : ℕ
    pub i : ℕ
    pub undone : F v < i
    pub high : i ≤ G.q v

  -- of a copy that is left, one that feeds it and is left too
  pub record Fed (y : Left) : Type 0 where
    pub queue : G.Queue
    pub x : Left
    pub from : x.v ≡ G.source queue
    pub to : G.sink queue ≡ y.v
    pub feeds : Feed (D queue) (G.produced queue) (G.consumed queue) x.i y.i

module _ (G : Net) (W : Sound G) (D : G.Queue → ℕ) (F : ℕ → ℕ) (stall : (v : ℕ) → F v < G.q v → Short G D F v) where
  pub fed : (y : Left G D F) → Fed G D F y
  fed y = go (stall y.v (omega (arith, y.undone, y.high)))
    where
      go : Short G D F y.v → Fed G D F y
      go s =
          let e : G.Queue = s.queue in
          let up = mul-le-mul_right (G.consumed e) y.undone in
          let k = feed_last (D e) (G.produced e) (G.consumed e) y.i (W.makes e) (W.takes e) (omega (arith, s.lacks)) in
          let b : F (G.source e) * G.produced e < k.0 * G.produced e = omega (arith, s.lacks, k.2) in
          let h = feed_high (D e) (G.produced e) (G.consumed e) k.0 y.i (G.q (G.source e)) (G.q (G.sink e)) (W.counts.balanced e) k.3 (rw s.to y.high) in
          record { queue = e; x = record { v = G.source e; i = k.0; undone = lt_of_mul-lt-mul_right (G.produced e) b; high = h }; from = refl; to = s.to; feeds = k.3 }

  back : Left G D F → ℕ → Left G D F
  back y zero = y
  back y (suc n) = (fed (back y n)).x

  left_copy : (y : Left G D F) → Copy G y.v y.i
  left_copy y = omega arith

  link : {u i S : ℕ} (y : Left G D F) (s : Fed G D F y) → Path G D u i s.x.v s.x.i S → (S' : ℕ) × Path G D u i y.v y.i S'
  link {u} {i} {S} y s p =
      let p' : Path G D u i (G.source s.queue) s.x.i S = rw s.from at p in
      (_, step_to G W s.queue s.to p' (inside_of G W s.queue (left_copy s.x).low (rw s.to (left_copy y)) s.feeds))

  -- from copy k + n of the chain to copy n
  chain : (y : Left G D F) (k n : ℕ) → (S : ℕ) × Path G D (back y (k + n)).v (back y (k + n)).i (back y n).v (back y n).i S
  unfolding back
  chain y zero n = rw zero-add (_, alone (left_copy (back y n)))
  chain y (suc k) n = rw (suc-add, ← add-suc) (link (back y n) (fed (back y n)) (chain y k (suc n)).1)

  close : {u i S : ℕ} (y : Left G D F) (s : Fed G D F y) → u ≡ y.v → i ≡ y.i → Path G D u i s.x.v s.x.i S → Stuck G D
  close {S = S} y s eu ei p = record {
    queue = s.queue;
    i = s.x.i;
    j = y.i;
    sum = S;
    path = rw (eu ∙ sym s.to, ei, s.from) at p;
    closes = inside_of G W s.queue (left_copy s.x).low (rw s.to (left_copy y)) s.feeds;
  }

  -- Following what feeds a copy that is left, some copy comes twice.
  pub stuck_of : Left G D F → Stuck G D
  unfolding back
  stuck_of y = go (pigeon (total G) code small)
    where
      code : ℕ → ℕ
      code n = sum (back y n).v G.q + ((back y n).i - 1)

      small : (n : ℕ) → n ≤ total G → code n < total G
      small n h = let y' = back y n in omega (arith, sum_before G.q y'.v G.stations (copy_station G W (left_copy y')), y'.undone, y'.high)

      at_twice : (i j k : ℕ) → k + suc i ≡ j → code j ≡ code i → Stuck G D
      at_twice i j k e c =
          let c' = code_once G.q (back y j).v (back y i).v ((back y j).i - 1) ((back y i).i - 1) (omega (arith, left_copy (back y j))) (omega (arith, left_copy (back y i))) c in
          let p = chain y k (suc i) in
          let p' : Path G D (back y j).v (back y j).i (back y (suc i)).v (back y (suc i)).i p.0 = rw e at p.1 in
          close (back y i) (fed (back y i)) c'.0 (omega (arith, c'.1, left_copy (back y j), left_copy (back y i))) p'

      go : Twice code (total G) → Stuck G D
      go t = let k = le_dest t.apart in at_twice t.i t.j k.0 (omega (arith, k.1)) (sym t.same)

-- Copies and rounds: a dependence of delay k from copy i to copy j is one of firing i to firing j + k × q.
use mathlib.Core.Path.{◌≡◌, ap}
use Prim.Native.Nat.{ℕ, zero, suc, ◌+◌, ◌-◌, ◌*◌, ◌≤◌, ◌<◌}
use native.Mathlib.Nat.{lt_of_mul-lt-mul_right, div-add-mod', mod-lt}
use native.Mathlib.Omega.{arith}
use native.Mathlib.Decide.{dec_le}
use lib.Arith.{digits_div, digits_mod}
use Rattle.dataflow.specs.Net.{Net, Sound}
use Rattle.dataflow.specs.Places.{Depends}
use Rattle.dataflow.specs.Copies.{copy_of, round_of, Copy, Dependence}
use Rattle.dataflow.proofs.FeedLaws.{Feed, feed_of, depends_of, feed_move, feed_high}

-- Firing f is copy x of round a.
pub record Numbered (q f a x : ℕ) : Type 0 where
  pub low : 1 ≤ x
  pub high : x ≤ q
  pub is : f ≡ a * q + x

pub numbered : (q f : ℕ) → 1 ≤ q → 1 ≤ f → Numbered q f (round_of q f) (copy_of q f)
numbered q f pos lo =
    let m = mod-lt (f - 1) pos in
    record { low = omega arith; high = omega arith; is = omega (arith, div-add-mod' (f - 1) q) }

-- and no other copy of no other round
pub copy_is : (q f a x : ℕ) → Numbered q f a x → copy_of q f ≡ x
copy_is q f a zero n = absurd (omega (arith, n.low))
copy_is q f a (suc x) n =
    let e : f - 1 ≡ a * q + x = omega (arith, n.is) in
    let l : x < q = n.high in
    rw (e, digits_mod) (omega arith)

pub round_is : (q f a x : ℕ) → Numbered q f a x → round_of q f ≡ a
round_is q f a zero n = absurd (omega (arith, n.low))
round_is q f a (suc x) n =
    let e : f - 1 ≡ a * q + x = omega (arith, n.is) in
    let l : x < q = n.high in
    rw (e, digits_div)

module _ (G : Net) (D : G.Queue → ℕ) (e : G.Queue) where
  -- A dependence across k rounds, as an inequality.
  pub record Across (i j k : ℕ) : Type 0 where
    pub from : Copy G (G.source e) i
    pub to : Copy G (G.sink e) j
    pub feed : Feed (D e) (G.produced e) (G.consumed e) i (j + k * G.q (G.sink e))

  -- The same at delay 0: inside a round.
  pub record Inside (i j : ℕ) : Type 0 where
    pub from : Copy G (G.source e) i
    pub to : Copy G (G.sink e) j
    pub feed : Feed (D e) (G.produced e) (G.consumed e) i j

module _ (G : Net) (W : Sound G) where
  pub copy_station : {v i : ℕ} → Copy G v i → v < G.stations
  copy_station {v} c = elim (dec_le G.stations v) [ yes h ↦ absurd (omega (arith, W.beyond v h, c.low, c.high)) | no h ↦ omega arith ]

  pub source_count : (e : G.Queue) → 1 ≤ G.q (G.source e)
  source_count e = W.counts.positive (G.source e) (W.leaves e)

  pub sink_count : (e : G.Queue) → 1 ≤ G.q (G.sink e)
  sink_count e = W.counts.positive (G.sink e) (W.enters e)

  -- no dependence runs back over a round, so each has a delay
  pub round_up : (D : G.Queue → ℕ) (e : G.Queue) (f g : ℕ) → 1 ≤ f → 1 ≤ g → Depends (D e) (G.produced e) (G.consumed e) f g
      → round_of (G.q (G.source e)) f ≤ round_of (G.q (G.sink e)) g
  round_up D e f g lo lo' h = go (dec_le a b)
    where
      a : ℕ
      a = round_of (G.q (G.source e)) f

      b : ℕ
      b = round_of (G.q (G.sink e)) g

      go : Dec (a ≤ b) → a ≤ b
      go (yes y) = y
      go (no n) =
          let nf = numbered (G.q (G.source e)) f (source_count e) lo in
          let ng = numbered (G.q (G.sink e)) g (sink_count e) lo' in
          let k = feed_high (D e) (G.produced e) (G.consumed e) f g (suc b * G.q (G.source e)) (suc b * G.q (G.sink e))
          (omega (arith, ap (λ (x : ℕ). suc b * x) (W.counts.balanced e))) (feed_of (D e) (G.produced e) (G.consumed e) f g lo lo' h) (omega (arith, ng.is, ng.high)) in
          let m : a * G.q (G.source e) < suc b * G.q (G.source e) = omega (arith, nf.is, nf.low) in
          absurd (n (omega (arith, lt_of_mul-lt-mul_right (G.q (G.source e)) m)))

  pub across : (D : G.Queue → ℕ) (e : G.Queue) (i j k : ℕ) → Dependence G D e i j k → Across G D e i j k
  across D e i j k h =
      let nf = numbered (G.q (G.source e)) h.maker (source_count e) h.maker_first in
      let ng = numbered (G.q (G.sink e)) h.taker (sink_count e) h.taker_first in
      go (round_of (G.q (G.source e)) h.maker) (rw h.from at nf) (round_of (G.q (G.sink e)) h.taker) (rw h.to at ng) h.rounds
    where
      go : (a : ℕ) → Numbered (G.q (G.source e)) h.maker a i → (b : ℕ) → Numbered (G.q (G.sink e)) h.taker b j → a + k ≡ b → Across G D e i j k
      go a nf b ng ab = record {
        from = record { low = nf.low; high = nf.high };
        to = record { low = ng.low; high = ng.high };
        feed = feed_move (D e) (D e) (G.produced e) (G.consumed e) h.maker i h.taker (j + k * G.q (G.sink e)) 0 (a * G.q (G.source e)) 0 (a * G.q (G.sink e))
            (omega (arith, ap (λ (x : ℕ). a * x) (W.counts.balanced e))) (omega (arith, nf.is)) (omega (arith, ng.is, ap (λ (x : ℕ). x * G.q (G.sink e)) ab))
            (feed_of (D e) (G.produced e) (G.consumed e) h.maker h.taker h.maker_first h.taker_first h.token);
      }

  pub across_of : (D : G.Queue → ℕ) (e : G.Queue) (i j k : ℕ) → Across G D e i j k → Dependence G D e i j k
  across_of D e i j k m =
      let nf : Numbered (G.q (G.source e)) i 0 i = record { low = m.from.low; high = m.from.high; is = omega arith } in
      let ng : Numbered (G.q (G.sink e)) (j + k * G.q (G.sink e)) k j = record { low = m.to.low; high = m.to.high; is = omega arith } in
      let lo : 1 ≤ j + k * G.q (G.sink e) = omega (arith, m.to.low) in
      record {
        maker = i;
        taker = j + k * G.q (G.sink e);
        maker_first = m.from.low;
        taker_first = lo;
        token = depends_of (D e) (G.produced e) (G.consumed e) i (j + k * G.q (G.sink e)) (W.makes e) (W.takes e) m.from.low lo m.feed;
        from = copy_is _ _ 0 i nf;
        to = copy_is _ _ k j ng;
        rounds = rw (round_is _ _ 0 i nf, round_is _ _ k j ng) (omega arith);
      }

  pub inside : {D : G.Queue → ℕ} (e : G.Queue) {i j : ℕ} → Dependence G D e i j 0 → Inside G D e i j
  inside {D} e {i} {j} h =
      let m = across D e i j 0 h in
      let z : j + 0 * G.q (G.sink e) ≡ j = omega arith in
      record { from = m.from; to = m.to; feed = rw z at m.feed }

  -- a firing of round 0 takes from round 0 alone, so the copy that it takes from is one
  pub inside_of : {D : G.Queue → ℕ} (e : G.Queue) {i j : ℕ} → 1 ≤ i → Copy G (G.sink e) j → Feed (D e) (G.produced e) (G.consumed e) i j → Dependence G D e i j 0
  inside_of {D} e {i} {j} lo c f =
      let z : j + 0 * G.q (G.sink e) ≡ j = omega arith in
      across_of D e i j 0 (record {
        from = record { low = lo; high = feed_high (D e) (G.produced e) (G.consumed e) i j (G.q (G.source e)) (G.q (G.sink e)) (W.counts.balanced e) f c.high };
        to = c;
        feed = rw z f;
      })

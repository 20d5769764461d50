-- The copies and dependences of the retimed sheet are those of the sheet, moved.
use mathlib.Core.Path.{◌≡◌, refl, sym, ap, ◌∙◌}
use Prim.Native.Nat.{ℕ, ◌+◌, ◌*◌, ◌≤◌}
use native.Mathlib.Omega.{arith}
use lib.IntN.{ℤ, pos, negsuc, neg_ℤ, ◌+ℤ◌, ◌-ℤ◌}
use Rattle.dataflow.specs.Net.{Net, Sound}
use Rattle.dataflow.specs.Whole.{up, down}
use Rattle.dataflow.specs.Copies.{Copy, Dependence}
use Rattle.dataflow.specs.Retiming.{Legal, retimed}
use Rattle.dataflow.specs.Move.{moved_copy, moved_shift, moves_to, shift_of, moved_delay, Moves}
use Rattle.dataflow.proofs.FeedLaws.{Feed, feed_next}
use Rattle.dataflow.proofs.CopyLaws.{copy_is, Across, across, across_of}
use Rattle.dataflow.proofs.MoveLaws.{Moved, moved_is, moved_once}
use Rattle.dataflow.proofs.WholeLaws.{same_number, sum_is, up_neg, down_neg, delay_is, new_delay_lem}

-- k + to - from, with nothing taken away
delay_moved : (k : ℕ) (from to : ℤ) → up (pos k +ℤ to -ℤ from) + up from + down to ≡ k + down from + up to + down (pos k +ℤ to -ℤ from)
delay_moved k from to =
    let a = (sum_is (pos k) to).is in
    let b = (sum_is (pos k +ℤ to) (neg_ℤ from)).is in
    omega (arith, up_neg from, down_neg from)

-- a move is undone by one the other way
back_to : (q j : ℕ) (r : ℤ) → 1 ≤ q → 1 ≤ j → j ≤ q → (i : ℕ) × (1 ≤ i) × (i ≤ q) × (moved_copy q i r ≡ j)
back_to q j r h lo hi =
    let m = moved_is q j (neg_ℤ r) h in
    let i = moved_copy q j (neg_ℤ r) in
    let s = neg_ℤ (moved_shift q j (neg_ℤ r)) in
    let u = moved_once q i r j s (record {
      low = lo;
      high = hi;
      is = omega (
        arith,
        m.is,
        up_neg r,
        down_neg r,
        ap (λ (x : ℕ). q * x) (up_neg (moved_shift q j (neg_ℤ r))),
        ap (λ (x : ℕ). q * x) (down_neg (moved_shift q j (neg_ℤ r))),
      );
    }) in
    (i, m.low, m.high, sym u.0)

-- two copies that are whole rounds apart are one
one_round : (q i j a b : ℕ) → 1 ≤ i → i ≤ q → 1 ≤ j → j ≤ q → a * q + i ≡ b * q + j → i ≡ j
one_round q i j a b li hi lj hj e = sym (copy_is q (a * q + i) a i (record { low = li; high = hi; is = refl })) ∙ copy_is q (a * q + i) b j (record { low = lj; high = hj; is = e })

module _ (G : Net) (W : Sound G) where
  -- a dependence in another numbering: the source's firings are moved by a - a', the sink's by b - b', and both by rounds
  across_moves : (d D : G.Queue → ℕ) (e : G.Queue) (i i' j j' k a a' b b' x x' y y' : ℕ) (z : ℤ)
      → d e + G.produced e * a' + G.consumed e * b ≡ D e + G.produced e * a + G.consumed e * b'
      → i + a + G.q (G.source e) * x ≡ i' + a' + G.q (G.source e) * x'
      → j + b + G.q (G.sink e) * y ≡ j' + b' + G.q (G.sink e) * y'
      → up z + x' + y ≡ k + x + y' + down z → Copy G (G.source e) i' → Copy G (G.sink e) j' → Across G d e i j k
      → (k' : ℕ) × (z ≡ pos k') × Across G D e i' j' k'
  across_moves d D e i i' j j' k a a' b b' x x' y y' z same ei ej ez ci cj m =
      let bal = W.counts.balanced e in
      let n = feed_next (d e) (D e) (G.produced e) (G.consumed e) i i' (j + k * G.q (G.sink e))
      (a + G.q (G.source e) * x) (a' + G.q (G.source e) * x') (b + G.q (G.sink e) * x) (b' + G.q (G.sink e) * x')
      (omega (arith, same, ap (λ (t : ℕ). t * x) bal, ap (λ (t : ℕ). t * x') bal)) (omega (arith, ei)) ci.low m.feed in
      go z n.0 n.1 n.2 n.3 ez
    where
      go : (z : ℤ) (g' : ℕ) → j + k * G.q (G.sink e) + (b + G.q (G.sink e) * x) ≡ g' + (b' + G.q (G.sink e) * x') → 1 ≤ g' → Feed (D e) (G.produced e) (G.consumed e) i' g'
          → up z + x' + y ≡ k + x + y' + down z → (k' : ℕ) × (z ≡ pos k') × Across G D e i' j' k'
      go (pos k') g' eg lo f ez =
          let g : g' ≡ j' + k' * G.q (G.sink e) = omega (arith, eg, ej, ap (λ (t : ℕ). t * G.q (G.sink e)) ez) in
          (k', refl, record { from = ci; to = cj; feed = rw g at f })
      go (negsuc h) g' eg lo f ez = absurd (omega (arith, eg, ej, ap (λ (t : ℕ). t * G.q (G.sink e)) ez, cj.high, lo))

  module _ (d : G.Queue → ℕ) (r : ℕ → ℤ) (legal : Legal G d r) where
    moved : (v i : ℕ) → Copy G v i → Moved (G.q v) i (r v) (moves_to G r v i) (shift_of G r v i)
    moved v i c = moved_is (G.q v) i (r v) (omega (arith, c.low, c.high))

    pub copy_moves : (v i : ℕ) → Copy G v i → Copy G v (moves_to G r v i)
    copy_moves v i c = let m = moved v i c in record { low = m.low; high = m.high }

    -- the new delay, with nothing taken away
    retimes : (e : G.Queue) → d e + G.produced e * down (r (G.source e)) + G.consumed e * up (r (G.sink e)) ≡ retimed G d r e + G.produced e * up (r (G.source e)) + G.consumed e * down (r (G.sink e))
    retimes e = let n = new_delay_lem G d r legal e in omega (arith, (delay_is G d r e).is, ap up n, ap down n)

    depends_moves : (e : G.Queue) (i j k : ℕ) → Dependence G d e i j k
        → (k' : ℕ) × (moved_delay G r e i j k ≡ pos k') × Dependence G (retimed G d r) e (moves_to G r (G.source e) i) (moves_to G r (G.sink e) j) k'
    depends_moves e i j k h =
        let u = G.source e in
        let v = G.sink e in
        let m = across G W d e i j k h in
        let mi = moved u i m.from in
        let mj = moved v j m.to in
        let x = across_moves d (retimed G d r) e i (moves_to G r u i) j (moves_to G r v j) k (up (r u)) (down (r u)) (up (r v)) (down (r v))
        (down (shift_of G r u i)) (up (shift_of G r u i)) (down (shift_of G r v j)) (up (shift_of G r v j)) (moved_delay G r e i j k)
        (retimes e) (omega (arith, mi.is)) (omega (arith, mj.is)) (delay_moved k (shift_of G r u i) (shift_of G r v j)) (copy_moves u i m.from) (copy_moves v j m.to) m in
        (x.0, x.1, across_of G W (retimed G d r) e _ _ x.0 x.2)

    moves_back : (e : G.Queue) (i j k' : ℕ) → Copy G (G.source e) i → Copy G (G.sink e) j → Dependence G (retimed G d r) e (moves_to G r (G.source e) i) (moves_to G r (G.sink e) j) k'
        → (k : ℕ) × (moved_delay G r e i j k ≡ pos k') × Dependence G d e i j k
    moves_back e i j k' ci cj h =
        let u = G.source e in
        let v = G.sink e in
        let mi = moved u i ci in
        let mj = moved v j cj in
        let z = pos k' +ℤ shift_of G r u i -ℤ shift_of G r v j in
        let x = across_moves (retimed G d r) d e (moves_to G r u i) i (moves_to G r v j) j k' (down (r u)) (up (r u)) (down (r v)) (up (r v))
        (up (shift_of G r u i)) (down (shift_of G r u i)) (up (shift_of G r v j)) (down (shift_of G r v j)) z
        (omega (arith, retimes e)) (omega (arith, mi.is)) (omega (arith, mj.is)) (omega (arith, delay_moved k' (shift_of G r v j) (shift_of G r u i))) ci cj (across G W (retimed G d r) e _ _ k' h) in
        (x.0, same_number _ _ (omega (arith, delay_moved x.0 (shift_of G r u i) (shift_of G r v j), delay_moved k' (shift_of G r v j) (shift_of G r u i), ap up x.1, ap down x.1)), across_of G W d e i j x.0 x.2)

    -- The theorem.
    pub retiming_moves : Moves G r d (retimed G d r)
    retiming_moves = record {
      copies = copy_moves;
      onto = λ v j c. let b = back_to (G.q v) j (r v) (omega (arith, c.low, c.high)) c.low c.high in (b.0, record { low = b.1; high = b.2 }, b.3);
      apart = apart;
      dependences = depends_moves;
      no_others = moves_back;
    }
      where
        apart : (v i j : ℕ) → Copy G v i → Copy G v j → moves_to G r v i ≡ moves_to G r v j → i ≡ j
        apart v i j ci cj e =
            one_round (G.q v) i j (down (shift_of G r v i) + up (shift_of G r v j)) (down (shift_of G r v j) + up (shift_of G r v i)) ci.low ci.high cj.low cj.high
            (omega (arith, (moved v i ci).is, (moved v j cj).is, e))

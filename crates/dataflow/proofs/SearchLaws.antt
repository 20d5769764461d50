-- The search stays legal, never passes a retiming that serves, and takes at most N - 1 raising rounds.
use mathlib.Core.Path.{◌≡◌}
use Prim.Native.Nat.{ℕ, suc, ◌+◌, ◌-◌, ◌≤◌, ◌<◌}
use native.Mathlib.Nat.{le_dest, le_refl}
use native.Mathlib.Omega.{arith}
use native.Mathlib.Decide.{dec_le}
use Rattle.dataflow.specs.Net.{Net, Sound}
use Rattle.dataflow.specs.Counts.{sum, total}
use Rattle.dataflow.specs.Retiming.{whole, retimed, Legal, Serves}
use Rattle.dataflow.specs.Search.{HowMany, LateUnder, Searched, nothing, raise, SearchEnds}
use Rattle.dataflow.proofs.CopyLaws.{copy_station}
use Rattle.dataflow.proofs.PathLaws.{path_start, path_end, path_move, within_none_late}
use Rattle.dataflow.proofs.WholeLaws.{Retimed, retimed_whole, retimed_same, legal_whole}
use Rattle.dataflow.proofs.SumLaws.{sum_le, sum_lt}
use Rattle.dataflow.proofs.LateLaws.{Lates, lates_of, few_of}
use Rattle.dataflow.proofs.RaiseLaws.{raise_legal, raised_by, raised, shift, never_passes}

module _ (G : Net) (W : Sound G) (d : G.Queue → ℕ) (T : ℕ) where
  abbrev delays : (ℕ → ℕ) → G.Queue → ℕ
  delays r = retimed G d (whole r)

  abbrev lates : (r late : ℕ → ℕ) → ((v : ℕ) → HowMany (LateUnder G d T r v) (G.q v) (late v)) → Lates G (delays r) T late
  lates r late h = lates_of G W (delays r) T late h

  -- every round of the search leads to a legal retiming
  pub search_legal : {k : ℕ} {r : ℕ → ℕ} → Searched G d T k r → Legal G d (whole r)
  search_legal (nothing {r = r} z) = legal_whole G d r d (retimed_same G d (λ v. 0) r d (λ e. omega arith) z)
  search_legal (raise {r = r} {r' = r'} late s hl w eq) =
      let h = raised G W d r late (delays r) (retimed_whole G d r (search_legal s)) (raise_legal G W (delays r) T late (lates r late hl)) in
      legal_whole G d r' (raised_by G late (delays r)) (retimed_same G d (λ v. r v + late v) r' (raised_by G late (delays r)) h eq)

  pub search_retimed : {k : ℕ} {r : ℕ → ℕ} → Searched G d T k r → Retimed G d r (delays r)
  search_retimed {r = r} s = retimed_whole G d r (search_legal s)

  -- the copies that the last round brought into round 0
  abbrev pub New : {k : ℕ} {r : ℕ → ℕ} → Searched G d T k r → ℕ → ℕ → Type 0
  New (nothing z) u i = Unit {0}
  New (raise late s hl w eq) u i = i ≤ late u

  -- a late path begins with one of them
  pub new_start : {k : ℕ} {r : ℕ → ℕ} (s : Searched G d T k r) (v i : ℕ) (l : LateUnder G d T r v i) → New s l.first l.first_copy
  new_start (nothing z) v i l = tt
  new_start (raise {r = r} {r' = r'} late s hl w eq) v i l = elim (dec_le l.first_copy (late l.first)) [ yes y ↦ y | no n ↦ absurd (go (le_dest (omega arith))) ]
    where
      go : (x : ℕ) × (suc (late l.first) + x ≡ l.first_copy) → ⊥
      go x =
          let hl' = lates r late hl in
          let m = path_move G W (delays r') (delays r) r r' (shift G W d (delays r') (delays r) r' r T (search_retimed (raise late s hl w eq)) (search_retimed s)) (suc x.0) l.path (omega (arith, x.1, eq l.first)) (omega arith) in
          let p = m.3 (omega (arith, m.1, (path_end G W l.path).high, eq v)) in
          omega (arith, eq v, m.1, (path_end G W l.path).high, hl'.only v m.0 (record { first = l.first; first_copy = suc x.0; sum = l.sum; path = p; slow = l.slow }))

  module _ (s : ℕ → ℕ) (ok : Serves G d T (whole s)) where
    hs : Retimed G d s (delays s)
    hs = retimed_whole G d s ok.legal

    -- the search never passes a retiming that serves
    pub search_below : {k : ℕ} {r : ℕ → ℕ} → Searched G d T k r → (v : ℕ) → r v ≤ s v
    search_below (nothing z) v = omega (arith, z v)
    search_below (raise {r = r} late z hl w eq) v =
        omega (arith, eq v, never_passes G W d (delays r) (delays s) r s T (search_retimed z) hs (λ w. search_below z w) ok.within late (lates r late hl) v)

    -- a late path that ends less than a round beyond the round 0 of s begins in that round 0
    pub final_start : (r : ℕ → ℕ) → Retimed G d r (delays r) → (v i : ℕ) (l : LateUnder G d T r v i) → i + s v ≤ G.q v + G.q v + r v
        → l.first_copy + s l.first ≤ G.q l.first + r l.first
    final_start r hr v i l hi = elim (dec_le (l.first_copy + s l.first) (G.q l.first + r l.first)) [ yes y ↦ y | no z ↦ absurd (go (le_dest (omega arith))) ]
      where
        go : (x : ℕ) × (suc (G.q l.first + r l.first) + x ≡ l.first_copy + s l.first) → ⊥
        go x =
            let m = path_move G W (delays r) (delays s) s (λ w. r w + G.q w) (λ e. omega (arith, shift G W d (delays r) (delays s) r s T hr hs e, W.counts.balanced e)) (suc x.0) l.path (omega (arith, x.1)) (omega arith) in
            omega (arith, l.slow, ok.within l.first (suc x.0) v m.0 l.sum (m.3 (omega (arith, m.1))))

    -- the copies that stay in round 0 on the way from r to s
    abbrev pub settled : (ℕ → ℕ) → ℕ
    settled r = sum G.stations (λ v. G.q v - (s v - r v))

    pub some_settled : (r : ℕ → ℕ) (v i : ℕ) → 1 ≤ i → i + s v ≤ G.q v + r v → r v ≤ s v → 1 ≤ settled r
    some_settled r v i lo hi le =
        let a = sum_lt G.stations (λ w. 0) (λ w. G.q w - (s w - r w)) (λ w. omega arith) v (copy_station G W {v = v} {i = i} (omega arith)) (omega arith) in omega arith

    -- each round settles a copy more
    pub more_settled : {k : ℕ} {r : ℕ → ℕ} (z : Searched G d T k r) → ((v : ℕ) → r v ≤ s v) → (v i : ℕ) → 1 ≤ i → i + s v ≤ G.q v + r v → New z v i → k < settled r
    more_settled (nothing {r = r} z) le v i lo hi nw = some_settled r v i lo hi (le v)
    more_settled (raise {k = k} {r = r} {r' = r'} late z hl w eq) le v i lo hi nw =
        let x = le_dest (few_of (hl v)) in
        go (lates r late hl) (x.0 + i) (omega (arith, x.1)) ((lates r late hl).last v (x.0 + i) (omega (arith, x.1)) (omega (arith, x.1))) (λ u j a b c. more_settled z (λ y. omega (arith, le y, eq y)) u j a b c)
      where
        go : Lates G (delays r) T late → (j : ℕ) → j + late v ≡ G.q v + i → (l : LateUnder G d T r v j)
            → ((u j : ℕ) → 1 ≤ j → j + s u ≤ G.q u + r u → New z u j → k < settled r) → suc k < settled r'
        go hl' j e l ih =
            let a = ih l.first l.first_copy (path_start G W l.path).low (final_start r (search_retimed z) v j l (omega (arith, eq v))) (new_start z v j l) in
            let b = sum_lt G.stations (λ y. G.q y - (s y - r y)) (λ y. G.q y - (s y - r' y)) (λ y. omega (arith, eq y)) v (copy_station G W {v = v} {i = 1} (omega (arith, hl'.few v))) (omega (arith, eq v, le v, hl'.few v)) in
            omega arith

    pub settled_le : (r : ℕ → ℕ) → settled r ≤ total G
    settled_le r = sum_le G.stations (λ v. G.q v - (s v - r v)) G.q (λ v. omega arith)

  -- where the search ends, it serves
  pub search_serves : {k : ℕ} {r : ℕ → ℕ} → SearchEnds G d T k r → Serves G d T (whole r)
  search_serves {r = r} h = record { legal = search_legal h.searched; within = within_none_late G (delays r) T h.none_late }

  serving_bound : {k : ℕ} {r : ℕ → ℕ} → Searched G d T k r → Serves G d T (whole r) → 1 ≤ total G → k < total G
  serving_bound (nothing z) ok pos = pos
  serving_bound (raise {r' = r'} late z hl w eq) ok pos =
      let b = more_settled r' ok (raise late z hl w eq) (λ v. le_refl (r' v)) w.0 1 (omega arith) (omega (arith, few_of (hl w.0), w.1)) w.1 in
      omega (arith, settled_le r' ok r')

  -- An accepted sheet needs at most N - 1 rounds.
  pub rounds_bound : {k : ℕ} {r : ℕ → ℕ} → SearchEnds G d T k r → 1 ≤ total G → k < total G
  rounds_bound h pos = serving_bound h.searched (search_serves h) pos

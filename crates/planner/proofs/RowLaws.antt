-- Refusals 9 and 11, as rows of the table.
use Prim.Native.Nat.{ℕ, ◌-◌, ◌*◌, ◌≤◌, ◌<◌}
use mathlib.Core.Path.{◌≡◌, refl, sym, subst, ap}
use mathlib.Core.List.{List, [], ◌∷◌}
use mathlib.Core.Logic.{◌⊎◌, inl, inr}
use native.Mathlib.Omega.{arith}
use lib.IntN.{ℤ}
use Rattle.lists.specs.Front.{at}
use Rattle.refusals.specs.Table.{no_retiming, room}
use Rattle.refusals.specs.First.{Row, Passed, First}
use Rattle.refusals.proofs.FirstLaws.{here_now}
use Rattle.dataflow.specs.Net.{Sound}
use Rattle.dataflow.specs.Counts.{sum}
use Rattle.dataflow.specs.Retiming.{whole, Serves}
use Rattle.dataflow.proofs.PlanLaws.{back_once}
use Rattle.dataflow.proofs.SumLaws.{sum_same}
use Rattle.sheet.specs.declared.Sheet.{Sheet}
use Rattle.checks.specs.declared.Checked.{Checked}
use Rattle.checks.specs.Check.{net_for, delays_for, CountsOf, Ready, sheet_in}
use Rattle.checks.proofs.CheckLaws.{counts_of_once}
use Rattle.search.specs.declared.Found.{Found}
use Rattle.search.specs.Found.{NoneServes}
use Rattle.planner.specs.Making.{Retimed, Begun}
use Rattle.planner.specs.Plan.{retiming_row, room_row, Worked, start_length, TooShort}
use Rattle.planner.proofs.WorkLaws.{W, retimes, worked, starts_are}

-- 9 is given
pub none_serve : {c : Checked} {rows : List Row} → Ready (sheet_in c) c
    → NoneServes c.round.chain.n c.round.chain.m c.round.chain.source c.round.chain.sink c.round.chain.produced c.round.chain.consumed c.delay c.time c.round.q c.round.total c.target
    → First (retiming_row (sheet_in c) ∷ rows) 9 0
none_serve {c} h n =
    let f = sheet_in c in
    here_now no_retiming
    (c.round.q, h.counts, n.none)

module _ {f : Sheet} {q : List ℕ} (counts : CountsOf f q) where
  -- or some whole numbers serve, and it isn't
  pub serving : (z : ℕ → ℤ) → Serves (net_for f q) (delays_for f q) f.target z → Passed (retiming_row f)
  serving z ok place a =
      subst (λ (x : List ℕ). (z : ℕ → ℤ) → Serves (net_for f x) (delays_for f x) f.target z → ⊥) (counts_of_once f a.0 q a.1 counts) a.2 z ok

  module _ (W : Sound (net_for f q)) where
    -- 11 is not given where the buffers are as long as needed
    pub roomy : {retiming : List ℕ} {back : ℕ} → Worked f q retiming back → (x y z : ℕ) → start_length f.n q retiming back ≤ x → sum f.n (at q) ≤ y → sum f.n (at q) ≤ z → Passed (room_row f x y z)
    roomy {retiming} {back} mine x y z a k l place p = go p.0 p.1 p.2 (counts_of_once f p.0 q p.3.counts counts) p.3 p.4
      where
        go : (q' retiming' : List ℕ) (back' : ℕ) → q' ≡ q → Worked f q' retiming' back' → TooShort f.n q' retiming' back' x y z → ⊥
        go q' retiming' back' e w (inr (inl s)) = omega (arith, ap (λ (o : List ℕ). sum f.n (at o)) e)
        go q' retiming' back' e w (inr (inr s)) = omega (arith, ap (λ (o : List ℕ). sum f.n (at o)) e)
        go q' retiming' back' e w (inl s) = omega (arith, sum_same f.n (λ v. back' * at q' v - at retiming' v) (λ v. back * at q v - at retiming v) (λ v o. same v o))
          where
            w' : Worked f q retiming' back'
            w' = subst (λ (o : List ℕ). Worked f o retiming' back') e w

            entry : (v : ℕ) → v < f.n → at retiming' v ≡ at retiming v
            entry v o = omega (arith, w'.retimes.least (at retiming) mine.retimes.serves v o, mine.retimes.least (at retiming') w'.retimes.serves v o)

            same : (v : ℕ) → v < f.n → back' * at q' v - at retiming' v ≡ back * at q v - at retiming v
            same v o =
                let n = back_once (net_for f q) W (at retiming') (at retiming) back' back entry w'.backs mine.backs in
                rw (n, e, entry v o) refl

module _ {c : Checked} {r : Found} (h : Retimed c r) where
  pub serve_passed : Passed (retiming_row (sheet_in c))
  serve_passed = serving h.ready.counts (whole (at r.retiming)) (retimes h).retiming.serves

module _ {c : Checked} {r : Found} {back : ℕ} {firings : List ℕ} {starts : ℕ} (b : Begun c r back firings starts) where
  abbrev g : Sheet
  g = sheet_in c

  module _ (x y z : ℕ) where
    -- 11 is given
    pub short_refused : (x < starts) ⊎ ((y < c.round.total) ⊎ (z < c.round.total)) → First (room_row g x y z ∷ []) 11 0
    short_refused s = here_now room (c.round.q, r.retiming, back, worked b.retimed b.backs, go s)
      where
        e : c.round.total ≡ sum g.n (at c.round.q)
        e = sym c.round.counted.adds

        go : (x < starts) ⊎ ((y < c.round.total) ⊎ (z < c.round.total)) → TooShort g.n c.round.q r.retiming back x y z
        go (inl k) = inl (omega (arith, b.adds, starts_are b.retimed b.backs b.fires))
        go (inr (inl k)) = inr (inl (omega (arith, e)))
        go (inr (inr k)) = inr (inr (omega (arith, e)))

    -- or it isn't
    pub room_passed : starts ≤ x → c.round.total ≤ y → c.round.total ≤ z → Passed (room_row g x y z)
    room_passed a k l =
        let e = sym c.round.counted.adds in
        roomy b.retimed.ready.counts (W b.retimed) (worked b.retimed b.backs) x y z (omega (arith, b.adds, starts_are b.retimed b.backs b.fires)) (omega arith) (omega arith)

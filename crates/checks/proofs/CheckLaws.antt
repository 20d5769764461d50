-- The checks' answers, by the rows of the table.
use Prim.Native.Nat.{ℕ, ◌+◌, ◌≤◌, ◌<◌}
use mathlib.Core.Path.{◌≡◌, refl, sym, subst, ◌∙◌}
use mathlib.Core.Bool.{Bool, true, false}
use mathlib.Core.List.{List, [], ◌∷◌, ◌++◌}
use native.Mathlib.Nat.{le_dest}
use native.Mathlib.Omega.{arith}
use lib.ListN.{length, take, drop, replicate, length-take}
use lib.Seq.{take_at, get_or-append-add, get_or-drop}
use Rattle.std.specs.Prelude.{Some, None, Result, Ok, Err}
use Rattle.lists.specs.Front.{at}
use Rattle.lists.specs.Lowest.{FirstFailing}
use Rattle.lists.specs.Test.{Tells}
use Rattle.lists.proofs.FilledLaws.{same_list}
use Rattle.lists.proofs.StoreLaws.{at_zeros}
use Rattle.lists.proofs.TestLaws.{tells_true}
use Rattle.refusals.specs.declared.refusal.Refusal.{Refusal}
use Rattle.refusals.specs.First.{Row, Passed, nth, First, free}
use Rattle.refusals.specs.Table.{apart, counts_fail, stuck}
use Rattle.refusals.specs.Refused.{Answered}
use Rattle.refusals.proofs.FirstLaws.{here, here_now, passed, extend, all_passed}
use Rattle.refusals.proofs.RefusedLaws.{number_real, refused, passes, follows}
use Rattle.dataflow.specs.Net.{Sound}
use Rattle.dataflow.specs.Counts.{Counts}
use Rattle.dataflow.specs.Lists.{RoundList}
use Rattle.dataflow.specs.Refusals.{apart_row}
use Rattle.dataflow.specs.Stuck.{Stuck}
use Rattle.dataflow.proofs.BalanceLaws.{balanced_passes}
use Rattle.dataflow.proofs.CountLaws.{counts_once}
use Rattle.dataflow.proofs.ListLaws.{list_run, list_fired, round_length}
use Rattle.dataflow.proofs.SheetLaws.{sheet_sound}
use Rattle.dataflow.proofs.StuckLaws.{stuck_cannot_fire, round_of_list}
use Rattle.sheet.specs.declared.Sheet.{Sheet}
use Rattle.sheet.specs.Format.{sheet_of}
use Rattle.sheet.specs.Read.{read_rows, Reads}
use Rattle.chain.specs.declared.chain.Chain.{Chain}
use Rattle.chain.specs.declared.round.Round.{Round}
use Rattle.chain.specs.Chain.{ChainFits}
use Rattle.chain.specs.Made.{HasCounts}
use Rattle.chain.proofs.ChainLaws.{sound}
use Rattle.firing.specs.Fire.{Fires}
use Rattle.firing.specs.Times.{Ordered}
use Rattle.firing.proofs.FireLaws.{written}
use Rattle.firing.proofs.PeriodLaws.{round_wanted, round_stuck}
use Rattle.counts.specs.declared.Counted.{Counted}
use Rattle.counts.specs.Joining.{AllJoined}
use Rattle.counts.specs.Smallest.{SmallestAre, Smallest}
use Rattle.counts.proofs.RowLaws.{joined_passes, apart_applies, are_counts, counts_pass, counts_fail_applies}
use Rattle.balance.specs.Spoiled.{Balanceable}
use Rattle.balance.proofs.RowLaws.{spoiled_applies, spoiled_passes}
use Rattle.checks.specs.declared.Checked.{Checked}
use Rattle.checks.specs.Check.{columns_of, net_for, delays_for, CountsOf, stuck_row, chain_rows, check_rows, Fits, ChainOf, RoundOf, sheet_in, Ready, Judges, Checks}
use Rattle.checks.proofs.SheetLaws.{read_fits}

-- what the counts of a net are hangs on its queues alone
pub any_counts : (f : Sheet) (a b : List ℕ) (x : ℕ → ℕ) → Counts (net_for f a) x → Counts (net_for f b) x
any_counts f a b x c = record {
  balances = record { positive = c.balances.positive; balanced = c.balances.balanced };
  least = λ y h. c.least y (record { positive = h.positive; balanced = h.balanced });
}

-- the counts of a sheet are one list
pub counts_of_once : (f : Sheet) (q q' : List ℕ) → CountsOf f q → CountsOf f q' → q ≡ q'
counts_of_once f q q' c c' =
    same_list f.n q q' (c.entries ∙ sym c'.entries) (counts_once (net_for f q) (at q) (at q') c.counts (any_counts f q' q (at q') c'.counts)) c.beyond c'.beyond

-- 8 is not given where a round can be fired
pub round_passed : (f : Sheet) {q : List ℕ} → CountsOf f q → Sound (net_for f q) → (l : List ℕ) → RoundList (net_for f q) (delays_for f q) l → Passed (stuck_row f)
round_passed f {q} of W l round place a =
    stuck_cannot_fire (net_for f q) W (delays_for f q) (subst (λ (x : List ℕ). Stuck (net_for f x) (delays_for f x)) (counts_of_once f a.0 q a.1 of) a.2)
    (round_of_list (net_for f q) W (delays_for f q) l round)

module _ {f : Sheet} (fits : Fits f) {round : Round} (of : RoundOf f round) {delay : List ℕ} (wide : delay ≡ f.delay) {fires : Bool} {list : List ℕ}
    (F : let c = round.chain in Fires c.n c.m c.source c.sink c.produced c.consumed delay round.q round.total fires (replicate 256 0) list) where
  abbrev checked : Checked
  checked = record { target = f.target; tag = f.tag; time = f.time; round = round; delay = delay; list = list }

  -- what is worked out is of this sheet
  same : sheet_in checked ≡ f
  same = λ i. record {
    version = sym fits.version i;
    n = of.chain.stations i;
    m = of.chain.queues i;
    target = f.target;
    tag = f.tag;
    time = f.time;
    source = of.chain.sources i;
    sink = of.chain.sinks i;
    produced = of.chain.produceds i;
    consumed = of.chain.consumeds i;
    delay = wide i;
  }

  -- 8 is given
  pub stuck_refused : fires ≡ false → First (stuck_row f ∷ []) 8 0
  stuck_refused e = here_now stuck (round.q, of.counts, subst (λ (x : Sheet). Stuck (net_for x round.q) (delays_for x round.q)) same (round_stuck round.counted F f.time e))

  module _ (e : fires ≡ true) where
    stored : (length F.made ≡ round.total) × (list ≡ F.made ++ drop round.total (replicate 256 0))
    stored = written F (round_wanted round.counted) e round.counted.few

    round_list : RoundList (net_for (sheet_in checked) round.q) (delays_for (sheet_in checked) round.q) F.made
    round_list = F.complete e f.time round.q

    -- or none is
    pub fires_passed : Passed (stuck_row f)
    fires_passed = subst (λ (x : Sheet). Passed (stuck_row x)) same (round_passed (sheet_in checked) own (sound round.counted f.time) F.made round_list)
      where
        own : CountsOf (sheet_in checked) round.q
        own = subst (λ (x : Sheet). CountsOf x round.q) (sym same) of.counts

    pub is_ready : Ready f checked
    is_ready = record {
      given = fits.given;
      sheet = same;
      counts = of.counts;
      round = subst (λ (x : Sheet). RoundList (net_for x round.q) (delays_for x round.q) (take round.total list)) same
          (rw (stored.1, take_at F.made (drop round.total (replicate 256 0)) round.total stored.0) round_list);
      rest = rest;
    }
      where
        rest : (k : ℕ) → round.total ≤ k → at list k ≡ 0
        rest k h =
            let x = le_dest h in
            rw (stored.1, ← x.1)
            (subst (λ (y : ℕ). at (F.made ++ drop round.total (replicate 256 0)) (y + x.0) ≡ at (drop round.total (replicate 256 0)) x.0) stored.0 (get_or-append-add F.made (drop round.total (replicate 256 0)) x.0 0)
            ∙ get_or-drop round.total (replicate 256 0) x.0 0 ∙ at_zeros 256 (round.total + x.0))

-- 6 is given
pub apart_refused : (f : Sheet) {joins : Bool} → Tells joins (AllJoined f.n f.m f.source f.sink) → joins ≡ false → First (chain_rows f) 6 0
apart_refused f T e = here_now apart (apart_applies (columns_of f) [] T e)

-- the stations are joined
module _ (f : Sheet) (joined : AllJoined f.n f.m f.source f.sink) where
  not_apart : Passed (apart_row (net_for f []))
  not_apart place a = joined_passes (columns_of f) [] (tells_true refl joined) refl a

  -- 16 is given
  pub balance_refused : (e : ℕ) → FirstFailing (Balanceable f.n f.m f.source f.sink f.produced f.consumed) f.m (Some e) → First (chain_rows f) 16 e
  balance_refused e L = passed not_apart (here (spoiled_applies (columns_of f) [] L))

  -- 7 is given
  pub counts_refused : Smallest f.n f.m f.source f.sink f.produced f.consumed None → FirstFailing (Balanceable f.n f.m f.source f.sink f.produced f.consumed) f.m None → First (chain_rows f) 7 0
  counts_refused S L = passed not_apart (passed (spoiled_passes (columns_of f) [] L) (here_now counts_fail (counts_fail_applies (columns_of f) [] S)))

  -- none of them is
  chain_judged : {counted : Counted} → SmallestAre f.n f.m f.source f.sink f.produced f.consumed counted → {r : Result Checked Refusal} → Judges (stuck_row f ∷ []) f r → Judges (chain_rows f) f r
  chain_judged {counted} S j =
      passes not_apart (passes (balanced_passes (net_for f []) (at counted.q) (are_counts (columns_of f) [] S).balances) (passes (λ place a. counts_pass (columns_of f) [] S a) j))

-- a round that was made of it
pub round_of : (f : Sheet) {c : Chain} {r : Round} {q : List ℕ} {total : ℕ} → ChainOf f c → HasCounts r c q total → CountsOf f q → RoundOf f r
round_of f of made counts = record { chain = subst (ChainOf f) (sym made.chain) of; counts = subst (CountsOf f) (sym made.counts) counts }

-- the same for a chain with the columns of the sheet
module _ (f : Sheet) {c : Chain} (of : ChainOf f c) where
  abbrev g : Sheet
  g = record {
    version = f.version;
    n = c.n;
    m = c.m;
    target = f.target;
    tag = f.tag;
    time = f.time;
    source = c.source;
    sink = c.sink;
    produced = c.produced;
    consumed = c.consumed;
    delay = f.delay;
  }

  of_chain : g ≡ f
  of_chain = λ i. record {
    version = f.version;
    n = of.stations i;
    m = of.queues i;
    target = f.target;
    tag = f.tag;
    time = f.time;
    source = of.sources i;
    sink = of.sinks i;
    produced = of.produceds i;
    consumed = of.consumeds i;
    delay = f.delay;
  }

  pub counts_are : {counted : Counted} → SmallestAre c.n c.m c.source c.sink c.produced c.consumed counted → CountsOf f counted.q
  counts_are {counted} S = subst (λ (x : Sheet). CountsOf x counted.q) of_chain (record { entries = S.entries; counts = are_counts (columns_of g) counted.q S; beyond = S.beyond })

  module _ (joined : AllJoined f.n f.m f.source f.sink) where
    pub chain_joined : AllJoined c.n c.m c.source c.sink
    chain_joined = subst (λ (x : Sheet). AllJoined x.n x.m x.source x.sink) (sym of_chain) joined

    pub spoiled_refused : (e : ℕ) → FirstFailing (Balanceable c.n c.m c.source c.sink c.produced c.consumed) c.m (Some e) → First (chain_rows f) 16 e
    spoiled_refused e L = subst (λ (x : Sheet). First (chain_rows x) 16 e) of_chain (balance_refused g chain_joined e L)

    pub uncounted_refused : Smallest c.n c.m c.source c.sink c.produced c.consumed None → FirstFailing (Balanceable c.n c.m c.source c.sink c.produced c.consumed) c.m None → First (chain_rows f) 7 0
    uncounted_refused S L = subst (λ (x : Sheet). First (chain_rows x) 7 0) of_chain (counts_refused g chain_joined S L)

    pub counted_judged : {counted : Counted} → SmallestAre c.n c.m c.source c.sink c.produced c.consumed counted → {r : Result Checked Refusal} → Judges (stuck_row f ∷ []) f r → Judges (chain_rows f) f r
    counted_judged S {r} j = subst (λ (x : Sheet). Judges (chain_rows x) x r) of_chain (chain_judged g chain_joined S (subst (λ (x : Sheet). Judges (stuck_row x ∷ []) x r) (sym of_chain) j))

-- reading goes first
module _ {s : List ℕ} where
  pub read_refused : {e : Refusal} → Reads s (Err e) → Checks s (Err e)
  read_refused {e} R = refused e (extend (read_rows s) (chain_rows (sheet_of s)) R.verdict (number_real e))

  pub read_judged : {f : Sheet} → Reads s (Ok f) → {r : Result Checked Refusal} → Judges (chain_rows f) f r → Checks s r
  read_judged {f} R {r} j = follows (read_rows s) (all_passed R.verdict refl) (subst (λ (x : Sheet). Judges (chain_rows x) x r) R.accepted j)

module _ {c : Checked} (h : Ready (sheet_in c) c) where
  pub ready_not_stuck : ¬ Stuck (net_for (sheet_in c) c.round.q) (delays_for (sheet_in c) c.round.q)
  ready_not_stuck s =
      let f = sheet_in c in
      let W = sound c.round.counted f.time in
      stuck_cannot_fire (net_for f c.round.q) W (delays_for f c.round.q) s (round_of_list (net_for f c.round.q) W (delays_for f c.round.q) _ h.round)

  -- an order in which the round can be fired
  pub ready_ordered : let f = sheet_in c in Ordered f.n f.m f.source f.sink f.produced f.consumed c.delay c.time c.round.q c.round.total c.list
  ready_ordered =
      let f = sheet_in c in
      let G = net_for f c.round.q in
      record {
        long = omega (arith, length-take c.round.total c.list, round_length G (delays_for f c.round.q) (take c.round.total c.list) h.round, c.round.counted.adds);
        run = list_run G (at c.round.q) h.round;
        whole = list_fired G (at c.round.q) h.round;
      }

-- what is worked out of a sheet is worked out of the one that is handed on
pub ready_own : {f : Sheet} {c : Checked} → Ready f c → Ready (sheet_in c) c
ready_own {c = c} h = subst (λ (x : Sheet). Ready x c) (sym h.sheet) h

-- an answer that begins with the checks goes on with rows of the sheet
module _ {s : List ℕ} {T : Type 0} where
  pub check_refuses : {e : Refusal} → Checks s (Err e) → (rows : Sheet → List Row) {P : T → Type 0} → Answered (check_rows s ++ rows (sheet_of s)) P (Err e)
  check_refuses {e} k rows = refused e (extend (check_rows s) (rows (sheet_of s)) k.verdict (number_real e))

  pub check_follows : {c : Checked} → Checks s (Ok c) → (rows : Sheet → List Row) (P : Sheet → T → Type 0) {r : Result T Refusal}
      → Answered (rows (sheet_in c)) (P (sheet_in c)) r → Answered (check_rows s ++ rows (sheet_of s)) (P (sheet_of s)) r
  check_follows {c} k rows P {r} a = follows (check_rows s) (all_passed k.verdict refl) (subst (λ (f : Sheet). Answered (rows f) (P f) r) k.accepted.sheet a)

-- a sheet that no row of reading refuses is within limits
pub rows_chain : (s : List ℕ) → ((j : ℕ) → j < 5 → Passed (nth (read_rows s) j)) → ChainFits (sheet_of s).n (sheet_of s).m (sheet_of s).source (sheet_of s).sink (sheet_of s).produced (sheet_of s).consumed
rows_chain s all =
    (read_fits (record { verdict = free all; accepted = refl })).chain

-- and with its counts it is sound
pub rows_sound : (s : List ℕ) → ((j : ℕ) → j < 5 → Passed (nth (read_rows s) j)) → (q : List ℕ) → CountsOf (sheet_of s) q → Sound (net_for (sheet_of s) q)
rows_sound s all q c =
    let chain = rows_chain s all in
    sheet_sound (columns_of (sheet_of s)) q (record {
      beyond = c.beyond;
      positive = c.counts.balances.positive;
      queues = λ k h. record {
        makes = chain.makes k h;
        takes = chain.takes k h;
        leaves = chain.leaves k h;
        enters = chain.enters k h;
        balanced = c.counts.balances.balanced (k, h);
      };
    })

-- No second answer meets the search's contract.
use Prim.Native.Nat.{ℕ, ◌*◌}
use mathlib.Core.Path.{◌≡◌, refl, sym, ap, subst, ◌∙◌}
use mathlib.Core.List.{List}
use native.Mathlib.Omega.{arith}
use lib.ListN.{length, take}
use lib.Seq.{ext_get_or, take_all}
use Rattle.std.specs.Prelude.{Option, Some, None}
use Rattle.lists.specs.Front.{at}
use Rattle.lists.proofs.FilledLaws.{same_list}
use Rattle.dataflow.specs.Net.{Net, Sound}
use Rattle.dataflow.specs.Lists.{RoundList}
use Rattle.dataflow.specs.Retiming.{whole}
use Rattle.dataflow.specs.Sheet.{Below}
use Rattle.dataflow.proofs.EndLaws.{searched_once, rounds_once}
use Rattle.dataflow.proofs.ListLaws.{list_run, list_fired, round_length}
use Rattle.dataflow.proofs.PathLaws.{period_once}
use Rattle.dataflow.specs.Stuck.{Stuck}
use Rattle.dataflow.proofs.StuckLaws.{stuck_cannot_fire}
use Rattle.dataflow.proofs.NotStuckLaws.{round_list_completes}
use Rattle.dataflow.proofs.WholeLaws.{retimed_is}
use Rattle.chain.specs.Chain.{CountedChain, net_of, delays_of}
use Rattle.firing.specs.Times.{Ordered}
use Rattle.chain.proofs.ChainLaws.{sound}
use Rattle.firing.proofs.Unique.{table_unique}
use Rattle.search.specs.Found.{Retimes, Searches}
use Rattle.search.specs.declared.Found.{Found}
use Rattle.search.proofs.FoundLaws.{new_delays_lem}

-- the lists of a retiming that was found have their lengths
pub record Sized (r : Found) : Type 0 where
  pub retimings : length r.retiming ≡ 32
  pub delays : length r.delay ≡ 64
  pub starts : length r.table ≡ 256

abbrev pub SizedAnswer : Option Found → Type 0
SizedAnswer (Some r) = Sized r
SizedAnswer None = Unit {0}

module _ (n m : ℕ) (source sink produced consumed delay time q : List ℕ) (total target : ℕ) (c : CountedChain n m source sink produced consumed q total)
    (list : List ℕ) (o : Ordered n m source sink produced consumed delay time q total list) where
  abbrev G : Net
  G = net_of n m source sink produced consumed time q

  abbrev d : Below m → ℕ
  d = delays_of m delay

  W : Sound G
  W = sound c time

  abbrev Accepts : Found → Type 0
  Accepts = Retimes n m source sink produced consumed delay time q total target

  -- an order in which the retimed round can be fired
  new_order : (r : Found) → Accepts r → (l : List ℕ) × Ordered n m source sink produced consumed r.delay time q total l
  new_order r h =
      let free : ¬ Stuck G d = λ s. stuck_cannot_fire G W d s (record { order = take total list; run = o.run; all_fired = o.whole }) in
      let f = round_list_completes G W d free (whole (at r.retiming)) h.retiming.serves.legal in
      let D = retimed_is G d (at r.retiming) (delays_of m r.delay) (new_delays_lem c h) in
      let l = subst (λ (x : Below m → ℕ). RoundList G x f.0) D f.1 in
      let e = round_length G (delays_of m r.delay) f.0 l in
      let all : take total f.0 ≡ f.0 = take_all total f.0 (omega (arith, e, c.adds)) in
      (f.0, record { long = omega (arith, e, c.adds); run = rw all (list_run G (at q) l); whole = rw all (list_fired G (at q) l) })

  module _ (r r' : Found) (s : Sized r) (s' : Sized r') where
    same_accepted : Accepts r → Accepts r' → r ≡ r'
    same_accepted h h' = λ i. record { rounds = rounds i; period = period i; retiming = retiming i; delay = delays i; table = table i }
      where
        rounds : r.rounds ≡ r'.rounds
        rounds = rounds_once G W d target h.rounds h'.rounds

        retiming : r.retiming ≡ r'.retiming
        retiming = ext_get_or 0 r.retiming r'.retiming (s.retimings ∙ sym s'.retimings) (λ v b. searched_once G W d target h.rounds.searched (rw (sym rounds) at h'.rounds.searched) v)

        delays : r.delay ≡ r'.delay
        delays =
            same_list m r.delay r'.delay (s.delays ∙ sym s'.delays)
            (λ e l. omega (arith, new_delays_lem c h (e, l), new_delays_lem c h' (e, l), ap (λ (x : List ℕ). at produced e * at x (at source e)) retiming, ap (λ (x : List ℕ). at consumed e * at x (at sink e)) retiming))
            h.rest h'.rest

        period : r.period ≡ r'.period
        period = period_once G (delays_of m r.delay) r.period r'.period h.period (rw (sym delays) at h'.period)

        table : r.table ≡ r'.table
        table =
            let l = new_order r h in
            table_unique n m source sink produced consumed r.delay time q total c l.0 l.1 r.table r'.table h.table (rw (sym delays) at h'.table) (s.starts ∙ sym s'.starts)

  pub search_unique : (r r' : Option Found) → SizedAnswer r → SizedAnswer r' → Searches n m source sink produced consumed delay time q total target r
      → Searches n m source sink produced consumed delay time q total target r' → r ≡ r'
  search_unique (Some f) (Some f') s s' p p' = ap Some (same_accepted f f' s s' p p')
  search_unique (Some f) None s s' p p' = absurd (p'.none (whole (at f.retiming)) p.retiming.serves)
  search_unique None (Some f') s s' p p' = absurd (p.none (whole (at f'.retiming)) p'.retiming.serves)
  search_unique None None s s' p p' = refl

-- Chains with the same columns are the same, and so are rounds with the same chain and the same counts: threads and places follow from them.
use mathlib.Core.HLevel.{is_prop→PathP}
use Rattle.std.proofs.Common.{ℕ, ◌≡◌, sym, ◌∙◌, List, length}
use Rattle.std.proofs.Props.{props}
use Rattle.chain.specs.declared.chain.Chain.{Chain}
use Rattle.chain.specs.declared.round.Round.{Round}
use Rattle.chain.specs.declared.thread.Threaded.{Threaded}
use Rattle.chain.specs.Bases.{Bases}
use Rattle.chain.specs.Chain.{ChainFits, CountedChain}
use Rattle.chain.specs.Thread.{Threads}
use Rattle.chain.proofs.Unique.{heads_unique, nexts_unique, bases_unique}

-- the lists of a value have the lengths of its arrays
pub record ThreadedSized (t : Threaded) : Type 0 where
  pub heads : length t.head ≡ 32
  pub nexts : length t.next ≡ 64

pub record ChainSized (c : Chain) : Type 0 where
  pub into : ThreadedSized c.into
  pub out : ThreadedSized c.out

pub record RoundSized (r : Round) : Type 0 where
  pub chain : ChainSized r.chain
  pub bases : length r.base ≡ 33

same_threads : (n m : ℕ) (ends : List ℕ) (t t' : Threaded) → ThreadedSized t → ThreadedSized t' → Threads n m ends t.head t.next → Threads n m ends t'.head t'.next → t ≡ t'
same_threads n m ends t t' z z' h h' =
    let head = heads_unique n m ends t.head t.next t'.head t'.next h h' z.heads z'.heads in
    let next = nexts_unique n m ends t.head t.next t'.head t'.next h h' z.nexts z'.nexts in
    λ i. record { head = head i; next = next i }

module _ (c c' : Chain) (z : ChainSized c) (z' : ChainSized c')
    (n : c.n ≡ c'.n) (m : c.m ≡ c'.m) (source : c.source ≡ c'.source) (sink : c.sink ≡ c'.sink) (produced : c.produced ≡ c'.produced) (consumed : c.consumed ≡ c'.consumed) where
  into : c.into ≡ c'.into
  into = same_threads c.n c.m c.sink c.into c'.into z.into z'.into c.enters (rw (n, m, sink) c'.enters)

  out : c.out ≡ c'.out
  out = same_threads c.n c.m c.source c.out c'.out z.out z'.out c.leaves (rw (n, m, source) c'.leaves)

  pub same_chain : c ≡ c'
  same_chain = λ i. record {
    n = n i;
    m = m i;
    source = source i;
    sink = sink i;
    produced = produced i;
    consumed = consumed i;
    into = into i;
    out = out i;
    fits = is_prop→PathP (λ j. ChainFits (n j) (m j) (source j) (sink j) (produced j) (consumed j)) (λ j. Prim.hlevel props) c.fits c'.fits i;
    enters = is_prop→PathP (λ j. Threads (n j) (m j) (sink j) (into j).head (into j).next) (λ j. Prim.hlevel props) c.enters c'.enters i;
    leaves = is_prop→PathP (λ j. Threads (n j) (m j) (source j) (out j).head (out j).next) (λ j. Prim.hlevel props) c.leaves c'.leaves i;
  }

module _ (r r' : Round) (z : RoundSized r) (z' : RoundSized r') (chain : r.chain ≡ r'.chain) (q : r.q ≡ r'.q) (total : r.total ≡ r'.total) where
  base : r.base ≡ r'.base
  base = bases_unique r.chain.n r.q r.base r'.base r.begins (rw (chain, q) r'.begins) (z.bases ∙ sym z'.bases)

  pub same_round : r ≡ r'
  same_round = λ i. record {
    chain = chain i;
    q = q i;
    total = total i;
    base = base i;
    counted = is_prop→PathP (λ j. CountedChain (chain j).n (chain j).m (chain j).source (chain j).sink (chain j).produced (chain j).consumed (q j) (total j)) (λ j. Prim.hlevel props) r.counted r'.counted i;
    begins = is_prop→PathP (λ j. Bases (chain j).n (q j) (base j)) (λ j. Prim.hlevel props) r.begins r'.begins i;
  }

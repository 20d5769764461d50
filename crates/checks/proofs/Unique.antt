-- No second answer meets the checks' contract.
use Prim.Native.Nat.{ℕ, ◌<◌}
use mathlib.Core.Path.{◌≡◌, sym, ap, subst, ◌∙◌}
use mathlib.Core.List.{List}
use lib.ListN.{length, take}
use lib.Seq.{get_or-take}
use Rattle.std.specs.Prelude.{Result, Ok, Err, IfOk}
use Rattle.lists.specs.Front.{at}
use Rattle.lists.proofs.FilledLaws.{same_list}
use Rattle.refusals.specs.declared.refusal.Refusal.{Refusal}
use Rattle.refusals.specs.Refused.{Answered}
use Rattle.refusals.proofs.RefusedLaws.{answered_once}
use Rattle.dataflow.specs.Counts.{sum}
use Rattle.dataflow.specs.Lists.{RoundList}
use Rattle.dataflow.proofs.ListLaws.{list_once}
use Rattle.sheet.specs.declared.Sheet.{Sheet}
use Rattle.sheet.specs.Format.{sheet_of}
use Rattle.chain.specs.declared.round.Round.{Round}
use Rattle.chain.proofs.SameLaws.{RoundSized, same_chain, same_round}
use Rattle.checks.specs.declared.Checked.{Checked}
use Rattle.checks.specs.Check.{net_for, delays_for, check_rows, sheet_in, Ready, Checks}
use Rattle.checks.proofs.CheckLaws.{counts_of_once}

-- the lists of what is worked out have their lengths
pub record Sized (r : Checked) : Type 0 where
  pub round : RoundSized r.round
  pub entries : length r.list ≡ 256

module _ (f : Sheet) (r r' : Checked) (z : Sized r) (z' : Sized r') (h : Ready f r) (h' : Ready f r') where
  sheet : sheet_in r ≡ sheet_in r'
  sheet = h.sheet ∙ sym h'.sheet

  q : r.round.q ≡ r'.round.q
  q = counts_of_once f r.round.q r'.round.q h.counts h'.counts

  total : r.round.total ≡ r'.round.total
  total = sym r.round.counted.adds ∙ (λ i. sum (sheet i).n (at (q i))) ∙ r'.round.counted.adds

  round : r.round ≡ r'.round
  round = same_round r.round r'.round z.round z'.round
      (same_chain r.round.chain r'.round.chain z.round.chain z'.round.chain (ap (λ (x : Sheet). x.n) sheet) (ap (λ (x : Sheet). x.m) sheet) (ap (λ (x : Sheet). x.source) sheet)
      (ap (λ (x : Sheet). x.sink) sheet) (ap (λ (x : Sheet). x.produced) sheet) (ap (λ (x : Sheet). x.consumed) sheet))
      q total

  front : take r.round.total r.list ≡ take r.round.total r'.list
  front = list_once (net_for f r.round.q) (at r.round.q) (take r.round.total r'.list) h.round
      (subst (λ (x : Round). RoundList (net_for f x.q) (delays_for f x.q) (take x.total r'.list)) (sym round) h'.round)

  within : (k : ℕ) → k < r.round.total → at r.list k ≡ at r'.list k
  within k b = sym (get_or-take r.round.total r.list k 0 b) ∙ ap (λ (x : List ℕ). at x k) front ∙ get_or-take r.round.total r'.list k 0 b

  list : r.list ≡ r'.list
  list = same_list r.round.total r.list r'.list (z.entries ∙ sym z'.entries) within h.rest (λ k c. h'.rest k (rw (sym total) c))

  same_ready : r ≡ r'
  same_ready = λ i. record {
    target = (sheet i).target;
    tag = (sheet i).tag;
    time = (sheet i).time;
    round = round i;
    delay = (sheet i).delay;
    list = list i;
  }

sized : (s : List ℕ) (r : Result Checked Refusal) → IfOk r Sized → Checks s r → Answered (check_rows s) (λ c. Sized c × Ready (sheet_of s) c) r
sized s (Ok c) z p = record { verdict = p.verdict; accepted = (z, p.accepted) }
sized s (Err e) z p = record { verdict = p.verdict; accepted = tt }

pub check_unique : (s : List ℕ) (r r' : Result Checked Refusal) → IfOk r Sized → IfOk r' Sized → Checks s r → Checks s r' → r ≡ r'
check_unique s r r' z z' p p' = answered_once r r' (sized s r z p) (sized s r' z' p') (λ c c' h h'. same_ready (sheet_of s) c c' h.0 h'.0 h.1 h'.1)

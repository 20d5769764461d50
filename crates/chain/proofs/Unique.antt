-- No second answer meets a contract.
use Prim.Native.Nat.{ℕ, suc}
use mathlib.Core.Path.{◌≡◌, sym, ◌∙◌}
use mathlib.Core.List.{List}
use mathlib.Core.Logic.{⊎_elim}
use native.Mathlib.Omega.{arith}
use lib.ListN.{length}
use lib.Seq.{ext_get_or}
use Rattle.lists.proofs.Order.{order, lt_or_ge}
use Rattle.lists.specs.Front.{at}
use Rattle.chain.specs.Bases.{Bases}
use Rattle.chain.specs.Ceiling.{Ceiling}
use Rattle.chain.specs.Thread.{FirstAt, Threads}

pub rounded_up_unique : (k rate r r' : ℕ) → Ceiling k rate r → Ceiling k rate r' → r ≡ r'
rounded_up_unique k rate r r' c c' = omega (arith, c.least r' c'.enough, c'.least r c.enough)

-- of the threads
first_at_once : (m : ℕ) (ends : List ℕ) (v from r r' : ℕ) → FirstAt m ends v from r → FirstAt m ends v from r' → r ≡ r'
first_at_once m ends v from r r' p q =
    order r r'
    (λ lt. absurd (q.passed r p.ahead lt (p.goes (omega (arith, q.within)))))
    (λ eq. eq)
    (λ gt. absurd (p.passed r' q.ahead gt (q.goes (omega (arith, p.within)))))

module _ (n m : ℕ) (ends head next head' next' : List ℕ) (p : Threads n m ends head next) (q : Threads n m ends head' next') where
  pub heads_unique : length head ≡ 32 → length head' ≡ 32 → head ≡ head'
  heads_unique l l' =
      ext_get_or 0 head head' (l ∙ sym l')
      (λ v h. ⊎_elim (λ b. first_at_once m ends v 0 _ _ (p.first v b) (q.first v b)) (λ b. p.no_station v b (omega arith) ∙ sym (q.no_station v b (omega arith))) (lt_or_ge v n))

  pub nexts_unique : length next ≡ 64 → length next' ≡ 64 → next ≡ next'
  nexts_unique l l' =
      ext_get_or 0 next next' (l ∙ sym l')
      (λ e h. ⊎_elim (λ b. first_at_once m ends (at ends e) (suc e) _ _ (p.more e b) (q.more e b)) (λ b. p.no_queue e b (omega arith) ∙ sym (q.no_queue e b (omega arith))) (lt_or_ge e m))

-- of where the copies begin
pub bases_unique : (n : ℕ) (q base base' : List ℕ) → Bases n q base → Bases n q base' → length base ≡ length base' → base ≡ base'
bases_unique n q base base' p p' l =
    ext_get_or 0 base base' l
    (λ v h. ⊎_elim (λ b. p.rest v b ∙ sym (p'.rest v b)) (λ b. p.is v b ∙ sym (p'.is v b)) (lt_or_ge n v))

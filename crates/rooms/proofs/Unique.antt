-- No second answer meets a contract.
use Prim.Native.Nat.{ℕ, ◌<◌}
use mathlib.Core.Path.{◌≡◌, sym, ◌∙◌}
use mathlib.Core.List.{List, []}
use native.Mathlib.Omega.{arith}
use native.Mathlib.Decide.{ℕ_discrete, dec_lt}
use lib.ListN.{length}
use lib.Seq.{ext_get_or}
use Rattle.lists.specs.Front.{at}
use Rattle.lists.proofs.FilledLaws.{filled_once}
use Rattle.lists.proofs.Order.{order}
use Rattle.dataflow.proofs.Decide.{both}
use Rattle.dataflow.proofs.PeakLaws.{peak_once}
use Rattle.chain.specs.Chain.{net_of}
use Rattle.rooms.specs.Lifted.{Lifted, OutOf, HoldsBy, StretchEnds, Peaks}
use Rattle.rooms.specs.Rooms.{RoomsOf}

pub rooms_unique : (n m : ℕ) (source sink produced consumed delay : List ℕ) (starts total : ℕ) (start round l l' : List ℕ) → RoomsOf n m source sink produced consumed delay starts total start round l
    → RoomsOf n m source sink produced consumed delay starts total start round l' → length l ≡ length l' → l ≡ l'
rooms_unique n m source sink produced consumed delay starts total start round l l' =
    filled_once m l l' (λ e x y h p p'. peak_once (net_of n m source sink produced consumed [] []) (p h [] []) (p' h [] []))

pub stretch_end_unique : (list : List ℕ) (count from r r' : ℕ) → StretchEnds list count from r → StretchEnds list count from r' → r ≡ r'
stretch_end_unique list count from r r' a a' =
    order r r'
    (λ lt. absurd (a.ends (omega (arith, a'.within)) (a'.same r (omega (arith, a.some)) lt)))
    (λ eq. eq)
    (λ gt. absurd (a'.ends (omega (arith, a.within)) (a.same r' (omega (arith, a'.some)) gt)))

-- where P leaves one number for each place, entries are lifted in one way
lifted_once : {Place : ℕ → Type 0} {P : ℕ → ℕ → Type 0} → ((e : ℕ) → Dec (Place e)) → ((e x y : ℕ) → Place e → P e x → P e y → x ≡ y) → {before after after' : List ℕ}
    → Lifted Place P before after → Lifted Place P before after' → after ≡ after'
lifted_once {Place} {P} place one {before} {after} {after'} r r' = ext_get_or 0 after after' (r.long ∙ sym r'.long) (λ e b. same e (place e))
  where
    same : (e : ℕ) → Dec (Place e) → at after e ≡ at after' e
    same e (yes h) =
        let a = r.is e h in
        let b = r'.is e h in
        omega (arith, a.2, b.2, one e a.0 b.0 h a.1 b.1)
    same e (no h) = r.rest e h ∙ sym (r'.rest e h)

pub lift_over_unique : (n m : ℕ) (source sink produced consumed delay : List ℕ) (count : ℕ) (list before after after' : List ℕ)
    → Lifted (λ e. e < m) (Peaks n m source sink produced consumed delay count list) before after → Lifted (λ e. e < m) (Peaks n m source sink produced consumed delay count list) before after' → after ≡ after'
lift_over_unique n m source sink produced consumed delay count list before after after' =
    lifted_once (λ e. dec_lt e m) (λ e x y h p p'. peak_once (net_of n m source sink produced consumed [] []) (p h [] []) (p' h [] []))

pub lift_from_unique : (m v : ℕ) (source sink produced consumed delay fired before after after' : List ℕ)
    → Lifted (OutOf m source v) (HoldsBy source sink produced consumed delay fired) before after → Lifted (OutOf m source v) (HoldsBy source sink produced consumed delay fired) before after' → after ≡ after'
lift_from_unique m v source sink produced consumed delay fired before after after' = lifted_once (λ e. both (dec_lt e m) (ℕ_discrete (at source e) v)) (λ e x y h p p'. omega arith)

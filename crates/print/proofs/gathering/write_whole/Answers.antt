use Rattle.std.proofs.Common.{◌≡◌, ℕ, ◌+◌, ◌-◌, ◌≤◌, List, ◌++◌, rules, length, take, drop, sym, ap, ◌∙◌, subst}
use Rattle.std.specs.Io.KnownBytes.{Appends}
use Rattle.std.proofs.KnownBytes.{Appends-trans}
use lib.Seq.{take-take, take-add}
use Rattle.print.proofs.gathering.write_whole.Goals as goal

-- n more bytes behind the first ones
take_more : (done n : ℕ) (bytes : List ℕ) → n ≤ length bytes - done → take done bytes ++ take n (take (length bytes - done) (drop done bytes)) ≡ take (done + n) bytes
take_more done n bytes few = ap (λ (l : List ℕ). take done bytes ++ l) (take-take n (length bytes - done) (drop done bytes) few) ∙ sym (take-add done n bytes)

pub loop-done-preserved : goal.loop-done-preserved
loop-done-preserved g c =
    let front = take_more c.loop-done.done c.in-Ok.taken c.args.bytes.now (search rules) in
    (search rules, subst (Appends _ _) front (Appends-trans _ _ _ _ _ c.loop-done.invariant.1 c.in-Ok.ensures.bytes))

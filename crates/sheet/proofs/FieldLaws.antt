-- Two sheets whose queues have the same fields.
use Prim.Native.Nat.{ℕ, ◌<◌}
use mathlib.Core.Path.{◌≡◌, refl, sym}
use native.Mathlib.Omega.{arith}
use lib.Seq.{get_or-take}
use Rattle.lists.specs.Front.{at}
use Rattle.lists.proofs.FrontLaws.{at_front}
use Rattle.refusals.specs.First.{Passed}
use Rattle.sheet.specs.declared.Sheet.{Sheet}
use Rattle.sheet.specs.Read.{field_row}
use Rattle.sheet.specs.Fields.{trimmed, filled}

pub record SameQueues (f g : Sheet) : Type 0 where
  pub n : f.n ≡ g.n
  pub m : f.m ≡ g.m
  pub source : (e : ℕ) → e < f.m → at f.source e ≡ at g.source e
  pub sink : (e : ℕ) → e < f.m → at f.sink e ≡ at g.sink e
  pub produced : (e : ℕ) → e < f.m → at f.produced e ≡ at g.produced e
  pub consumed : (e : ℕ) → e < f.m → at f.consumed e ≡ at g.consumed e
  pub delay : (e : ℕ) → e < f.m → at f.delay e ≡ at g.delay e

-- no queue of the one is bad, so none of the other is
pub passed_same : {f g : Sheet} → SameQueues f g → Passed (field_row f) → Passed (field_row g)
passed_same {f} {g} s p e a =
    let h : e < f.m = omega (arith, s.m, a.0) in
    p e (h, λ fits. a.1 (omega (arith, fits, s.n, s.source e h, s.sink e h, s.produced e h, s.consumed e h, s.delay e h)))

pub trimmed_same : (f : Sheet) → SameQueues f (trimmed f)
trimmed_same f =
    record {
      n = refl;
      m = refl;
      source = λ e h. sym (get_or-take f.m f.source e 0 h);
      sink = λ e h. sym (get_or-take f.m f.sink e 0 h);
      produced = λ e h. sym (get_or-take f.m f.produced e 0 h);
      consumed = λ e h. sym (get_or-take f.m f.consumed e 0 h);
      delay = λ e h. sym (get_or-take f.m f.delay e 0 h);
    }

pub filled_same : (f : Sheet) → SameQueues f (filled f)
filled_same f =
    record {
      n = refl;
      m = refl;
      source = λ e h. sym (at_front f.m (at f.source) _ e h);
      sink = λ e h. sym (at_front f.m (at f.sink) _ e h);
      produced = λ e h. sym (at_front f.m (at f.produced) _ e h);
      consumed = λ e h. sym (at_front f.m (at f.consumed) _ e h);
      delay = λ e h. sym (at_front f.m (at f.delay) _ e h);
    }

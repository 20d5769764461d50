-- A sheet that was read is within limits.
use Prim.Native.Nat.{ℕ, ◌<◌}
use mathlib.Core.Path.{refl, ap, ◌∙◌}
use mathlib.Core.List.{List}
use mathlib.Core.Logic.{⊎_elim}
use native.Mathlib.Omega.{arith}
use Rattle.std.specs.Prelude.{Ok}
use Rattle.lists.proofs.Order.{lt_or_ge}
use Rattle.sheet.specs.declared.Sheet.{Sheet}
use Rattle.sheet.specs.Limits.{SheetQueueFits}
use Rattle.sheet.specs.Format.{sheet_of}
use Rattle.sheet.specs.Read.{Reads}
use Rattle.sheet.proofs.ReadLaws.{passes_read, accepted_counts, accepted_queues, accepted_rest}
use Rattle.checks.specs.Check.{Fits}

pub read_fits : {s : List ℕ} {f : Sheet} → Reads s (Ok f) → Fits f
unfolding sheet_of
read_fits {s} {f} R =
    let fit = accepted_counts s f R in
    record {
      version = ap (λ (x : Sheet). x.version) R.accepted ∙ (passes_read s R.verdict refl).known;
      chain = record {
        some = fit.some;
        few = fit.stations;
        few_queues = fit.queues;
        leaves = λ e h. (queue e h).from;
        enters = λ e h. (queue e h).to;
        makes = λ e h. (queue e h).makes;
        makes_most = λ e h. (queue e h).makes_most;
        takes = λ e h. (queue e h).takes;
        takes_most = λ e h. (queue e h).takes_most;
      };
      given = record {
        most = λ e. ⊎_elim (λ h. (queue e h).holds_most) (λ h. omega (arith, accepted_rest s f R e h)) (lt_or_ge e f.m);
        rest = accepted_rest s f R;
      };
    }
  where
    queue : (e : ℕ) → e < f.m → SheetQueueFits f e
    queue = accepted_queues s f R

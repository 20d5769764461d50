use mathlib.Core.Path.{sym, ap, ◌∙◌}
use native.Mathlib.Omega.{arith}
use Rattle.std.proofs.lemmas.Result.{err_from_is_err_and}
use Rattle.refusals.specs.Table.{short, counts, layout}
use Rattle.refusals.specs.Table.{version as wrong_version}
use Rattle.refusals.specs.declared.refusal.Refusal.TheVariants.{Short, Version, Counts, Layout}
use Rattle.refusals.proofs.FirstLaws.{here_now}
use Rattle.refusals.proofs.RefusedLaws.{refused, given, passes}
use Rattle.sheet.specs.Format.{queue_size}
use Rattle.sheet.proofs.reader.header.Goals as goal

pub returns-then-s-lt20 : goal.returns-then-s-lt20
returns-then-s-lt20 c = refused Short (here_now short c.if-s-lt20.true)

pub returns-in_err-size : goal.returns-in_err-size
returns-in_err-size c =
    let p = err_from_is_err_and c.from_residual.result c.from_residual.ensures.1 in
    rw (p.1, p.2, c.in_err-size.ensures.0)
    (passes (λ p h. omega arith)
    (refused Version (here_now wrong_version (λ e. c.in_err-size.ensures.1 (c.u16_at.ensures ∙ e)))))

pub returns-then-not-header_fits : goal.returns-then-not-header_fits
returns-then-not-header_fits c =
    passes (λ p h. omega arith)
    (passes (λ p h. h (sym c.u16_at.ensures ∙ c.in_ok-size.ensures.0))
    (refused Counts (here_now counts (c.header_fits.ensures.fails c.if-not-header_fits.true))))

pub returns-then-not-laid : goal.returns-then-not-laid
returns-then-not-laid c =
    passes (λ p h. omega arith)
    (passes (λ p h. h (sym c.u16_at.ensures ∙ c.in_ok-size.ensures.0))
    (passes (λ p h. h (c.header_fits.ensures.holds c.if-not-header_fits.false))
    (refused Layout (here_now layout (c.laid.ensures.fails c.if-not-laid.true)))))

pub returns : goal.returns
returns c =
    let one = sym c.u16_at.ensures ∙ c.in_ok-size.ensures.0 in
    let fits = c.header_fits.ensures.holds c.if-not-header_fits.false in
    let laid = c.laid.ensures.holds c.if-not-laid.false in
    passes (λ p h. omega arith)
    (passes (λ p h. h one)
    (passes (λ p h. h fits)
    (passes (λ p h. h laid)
    (given c.in_ok-size.size (c.in_ok-size.ensures.1 ∙ ap queue_size c.u16_at.ensures, record { known = one; header = fits; laid = laid })))))

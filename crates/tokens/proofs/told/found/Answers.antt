use Rattle.tokens.proofs.TokenLaws.{no_token, tells}
use Rattle.tokens.proofs.told.found.Goals as goal

pub returns-then-not-there : goal.returns-then-not-there
returns-then-not-there c = no_token (c.there.ensures.fails c.if-not-there.true)

pub returns : goal.returns
returns c =
    let asked = c.there.ensures.holds c.if-not-there.false in
    tells asked (c.args.checked.now.round.chain.fits.makes _ asked.queue) (rw (c.from-2.ensures, c.place_taken-place.ensures.0, c.from.ensures) at c.at_place.ensures)

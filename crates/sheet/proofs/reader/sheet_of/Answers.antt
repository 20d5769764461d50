use Rattle.sheet.proofs.FormatLaws.{sheet_is}
use Rattle.sheet.proofs.reader.sheet_of.Goals as goal

pub returns : goal.returns
returns c =
    sheet_is c.args.s.now (cc) (cc) (cc) (cc)
    c.u32_at.ensures
    c.padded_column.ensures
    c.padded_column-2.ensures
    c.padded_column-3.ensures
    c.padded_column-4.ensures
    c.padded_column-5.ensures
    c.padded_column-6.ensures
    c.padded_column-7.ensures

-- The definitions, held against the bytes that document 01 prints.
use mathlib.Core.Path.{◌≡◌, refl}
use Rattle.lists.specs.Front.{table, front}
use Rattle.lists.specs.Joined.{joined}
use Rattle.little.specs.Little.{two, four}
use Rattle.sheet.specs.Format.{header_bytes, station_bytes, queue_bytes, bytes_of, sheet_of}
use Rattle.sheet.specs.Fields.{filled}
use Rattle.sheet.specs.Sample.{sample_bytes, sample_sheet}

pub sample_written : bytes_of sample_sheet ≡ sample_bytes
unfolding bytes_of header_bytes station_bytes queue_bytes two four joined
sample_written = refl

pub sample_read : sheet_of sample_bytes ≡ filled sample_sheet
unfolding sheet_of front table
sample_read = refl

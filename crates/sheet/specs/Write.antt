-- What writing answers: refusals 2, 3, 5 and 11, or the sheet's bytes.
use Rattle.std.specs.Prelude.{ℕ, ◌<◌, ◌≡◌, List, [], ◌∷◌, ◌++◌, length, drop, Result, OnOk, OnErr}
use Rattle.refusals.specs.Table.{counts}
use Rattle.refusals.specs.Table.{version as wrong_version}
use Rattle.refusals.specs.Table.{room as too_short}
use Rattle.refusals.specs.First.{Row, row}
use Rattle.refusals.specs.Refused.{Answered}
use Rattle.refusals.specs.declared.refusal.Refusal.{Refusal}
use Rattle.sheet.specs.declared.Fields.{Fields}
use Rattle.sheet.specs.declared.Sheet.{Sheet}
use Rattle.sheet.specs.Limits.{CountsFit}
use Rattle.sheet.specs.Format.{sheet_end, bytes_of}
use Rattle.sheet.specs.Read.{field_row}

-- the columns handed over are those of n stations and m queues
pub record Handed (n m : ℕ) (tag time source sink produced consumed delay : List ℕ) : Type 0 where
  pub tags : length tag ≡ n
  pub times : length time ≡ n
  pub sources : length source ≡ m
  pub sinks : length sink ≡ m
  pub produceds : length produced ≡ m
  pub consumeds : length consumed ≡ m
  pub delays : length delay ≡ m

abbrev pub SheetHanded : Sheet → Type 0
SheetHanded f = Handed f.n f.m f.tag f.time f.source f.sink f.produced f.consumed f.delay

-- the sheet of the fields handed over
abbrev pub sheet_from : (version n m target : ℕ) (tag time source sink produced consumed delay : List ℕ) → Sheet
sheet_from version n m target tag time source sink produced consumed delay = record {
  version = version;
  n = n;
  m = m;
  target = target;
  tag = tag;
  time = time;
  source = source;
  sink = sink;
  produced = produced;
  consumed = consumed;
  delay = delay;
}

abbrev pub handed_sheet : Fields → Sheet
handed_sheet f =
    sheet_from f.version f.n f.m f.target f.tag.now f.time.now f.source.now f.sink.now f.produced.now f.consumed.now f.delay.now

-- refusals 2, 3, 5 and 11, for a buffer of room bytes
abbrev pub write_rows : (f : Sheet) (room : ℕ) → List Row
write_rows f room =
    row wrong_version (f.version ≡ 1 → ⊥)
    ∷ row counts (CountsFit f.n f.m × SheetHanded f → ⊥)
    ∷ field_row f
    ∷ row too_short (room < sheet_end f.version f.n f.m)
    ∷ []

-- the first of the rows that applies, or the number of bytes needed
abbrev pub Judges : (rows : List Row) (needed : ℕ) → Result ℕ Refusal → Type 0
Judges rows needed = Answered rows (λ length. length ≡ needed)

-- a lent buffer afterwards: the sheet's bytes at its front and its rest as it was, or on a refusal all of it as it was
pub record Writes (f : Sheet) (before after : List ℕ) (r : Result ℕ Refusal) : Type 0 where
  pub judged : Judges (write_rows f (length before)) (sheet_end f.version f.n f.m) r
  pub accepted : OnOk r (after ≡ bytes_of f ++ drop (length (bytes_of f)) before)
  pub refused : OnErr r (after ≡ before)

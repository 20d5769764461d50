-- What reading answers: refusals 1 to 5, or the sheet.
use Rattle.std.specs.Prelude.{ℕ, ◌<◌, ◌≡◌, List, [], ◌∷◌, ◌++◌, length, replicate, Result}
use Rattle.refusals.specs.Table.{short, counts, layout, field}
use Rattle.refusals.specs.Table.{version as wrong_version}
use Rattle.refusals.specs.First.{Row, row}
use Rattle.refusals.specs.Refused.{Answered}
use Rattle.refusals.specs.declared.refusal.Refusal.{Refusal}
use Rattle.sheet.specs.declared.Sheet.{Sheet}
use Rattle.sheet.specs.Limits.{CountsFit, SheetQueueFits}
use Rattle.sheet.specs.Format.{version, stations, queues, zero_field, station_offset, queue_offset, queue_start, sheet_end, sheet_of}

pub record HeaderFits (s : List ℕ) : Type 0 where
  pub counts : CountsFit (stations s) (queues s)
  pub zero : zero_field s ≡ 0

-- both offsets and the length are right
pub record Laid (s : List ℕ) : Type 0 where
  pub stations_at : station_offset s ≡ 20
  pub queues_at : queue_offset s ≡ queue_start (stations s)
  pub ends : length s ≡ sheet_end (version s) (stations s) (queues s)

abbrev pub header_rows : List ℕ → List Row
header_rows s =
    row short (length s < 20)
    ∷ row wrong_version (version s ≡ 1 → ⊥)
    ∷ row counts (HeaderFits s → ⊥)
    ∷ row layout (Laid s → ⊥)
    ∷ []

-- none of refusals 1 to 4 applies
pub record Passes (s : List ℕ) : Type 0 where
  pub known : version s ≡ 1
  pub header : HeaderFits s
  pub laid : Laid s

-- a queue field outside limits, or a station that is not there
abbrev pub field_row : Sheet → Row
field_row f = record { refusal = field; applies = λ e. (e < f.m) × (SheetQueueFits f e → ⊥) }

abbrev pub read_rows : List ℕ → List Row
read_rows s = header_rows s ++ (field_row (sheet_of s) ∷ [])

-- all numbers 0
abbrev pub blank : Sheet
blank = record {
  version = 0;
  n = 0;
  m = 0;
  target = 0;
  tag = replicate 32 0;
  time = replicate 32 0;
  source = replicate 64 0;
  sink = replicate 64 0;
  produced = replicate 64 0;
  consumed = replicate 64 0;
  delay = replicate 64 0;
}

-- the first refusal that applies, or the sheet
abbrev pub Reads : (s : List ℕ) → Result Sheet Refusal → Type 0
Reads s = Answered (read_rows s) (λ f. f ≡ sheet_of s)

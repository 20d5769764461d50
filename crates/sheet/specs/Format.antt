-- A sheet's bytes: where each number stands, and the bytes that hold a sheet.
pub use Rattle.lists.specs.Front.{padded}
use Rattle.std.specs.Prelude.{ℕ, zero, suc, ◌+◌, ◌*◌, List, ◌++◌}
use Rattle.lists.specs.Front.{at}
use Rattle.lists.specs.Joined.{joined}
use Rattle.little.specs.Little.{u16le, u32le, two, four, column_at}
use Rattle.sheet.specs.declared.Sheet.{Sheet}

-- the bytes of a queue record, by version; 0 where there is no such version
abbrev pub queue_size : ℕ → ℕ
queue_size zero = 0
queue_size (suc zero) = 10
queue_size (suc (suc version)) = 0

-- the header's numbers: version, n, m, zero, offset of stations, offset of queues, target
abbrev pub version : List ℕ → ℕ
version s = u16le s 0

abbrev pub stations : List ℕ → ℕ
stations s = u16le s 2

abbrev pub queues : List ℕ → ℕ
queues s = u16le s 4

abbrev pub zero_field : List ℕ → ℕ
zero_field s = u16le s 6

abbrev pub station_offset : List ℕ → ℕ
station_offset s = u32le s 8

abbrev pub queue_offset : List ℕ → ℕ
queue_offset s = u32le s 12

abbrev pub target : List ℕ → ℕ
target s = u32le s 16

-- where the queue part starts, and where the sheet ends
abbrev pub queue_start : (n : ℕ) → ℕ
queue_start n = 20 + 4 * n

abbrev pub sheet_end : (version n m : ℕ) → ℕ
sheet_end version n m = queue_start n + queue_size version * m

-- a field of each station, and of each queue, from the byte on at which the first of them stands
abbrev pub station_column : List ℕ → ℕ → List ℕ
station_column s from = padded 32 (stations s) (column_at s from 4)

abbrev pub queue_column : List ℕ → ℕ → List ℕ
queue_column s from = padded 64 (queues s) (column_at s from (queue_size (version s)))

-- the sheet that bytes hold: a station is tag, time; a queue is source, sink, produced, consumed, delay
unfoldable pub sheet_of : List ℕ → Sheet
sheet_of s = record {
  version = version s;
  n = stations s;
  m = queues s;
  target = target s;
  tag = station_column s 20;
  time = station_column s 22;
  source = queue_column s (queue_start (stations s));
  sink = queue_column s (queue_start (stations s) + 2);
  produced = queue_column s (queue_start (stations s) + 4);
  consumed = queue_column s (queue_start (stations s) + 6);
  delay = queue_column s (queue_start (stations s) + 8);
}

-- the bytes that hold a sheet
unfoldable pub header_bytes : (version n m target : ℕ) → List ℕ
header_bytes version n m target = two version ++ two n ++ two m ++ two 0 ++ four 20 ++ four (queue_start n) ++ four target

unfoldable pub station_bytes : (tag time : List ℕ) → ℕ → List ℕ
station_bytes tag time i = two (at tag i) ++ two (at time i)

unfoldable pub queue_bytes : (source sink produced consumed delay : List ℕ) → ℕ → List ℕ
queue_bytes source sink produced consumed delay e =
    two (at source e) ++ two (at sink e) ++ two (at produced e) ++ two (at consumed e) ++ two (at delay e)

unfoldable pub bytes_of : Sheet → List ℕ
bytes_of f =
    header_bytes f.version f.n f.m f.target
    ++ joined f.n (station_bytes f.tag f.time)
    ++ joined f.m (queue_bytes f.source f.sink f.produced f.consumed f.delay)

-- The laws of a sheet's layout.
use Prim.Native.Nat.{ℕ, ◌+◌, ◌*◌}
use mathlib.Core.Path.{◌≡◌, refl, ap, ap₂}
use mathlib.Core.List.{List}
use lib.ListN.{length, length-append}
use native.Mathlib.Omega.{arith}
use Rattle.lists.specs.Joined.{joined}
use Rattle.lists.proofs.JoinedLaws.{length_joined}
use Rattle.little.specs.Little.{column_at, two, four}
use Rattle.sheet.specs.declared.Sheet.{Sheet}
use Rattle.sheet.specs.Format.{version, stations, queues, target, queue_size, queue_start, padded, sheet_of, header_bytes, station_bytes, queue_bytes, bytes_of}
use Rattle.sheet.specs.Read.{Passes}

-- the bytes of the queue part, whatever they are called
pub part_same : {k m k' m' : ℕ} → k ≡ k' → m ≡ m' → k * m ≡ k' * m'
part_same p q = ap₂ ◌*◌ p q

-- the length of such bytes
pub ends : (s : List ℕ) → Passes s → length s ≡ 20 + 4 * stations s + 10 * queues s
ends s ok = omega (arith, part_same {m = queues s} (ap queue_size ok.known) refl, ok.laid.ends)

-- the sheet, from its parts as they were read
pub sheet_is : (s : List ℕ) {v n m t size : ℕ} {tag time source sink produced consumed delay : List ℕ}
    → v ≡ version s → n ≡ stations s → m ≡ queues s → size ≡ queue_size v → t ≡ target s
    → tag ≡ padded 32 n (column_at s 20 4)
    → time ≡ padded 32 n (column_at s 22 4)
    → source ≡ padded 64 m (column_at s (queue_start n) size)
    → sink ≡ padded 64 m (column_at s (queue_start n + 2) size)
    → produced ≡ padded 64 m (column_at s (queue_start n + 4) size)
    → consumed ≡ padded 64 m (column_at s (queue_start n + 6) size)
    → delay ≡ padded 64 m (column_at s (queue_start n + 8) size)
    → ◌≡◌ {A = Sheet} (record { version = v; n = n; m = m; target = t; tag = tag; time = time; source = source; sink = sink; produced = produced; consumed = consumed; delay = delay }) (sheet_of s)
unfolding sheet_of
sheet_is s pv pn pm pz pt p1 p2 p3 p4 p5 p6 p7 = rw (p1, p2, p3, p4, p5, p6, p7, pz, pt, pm, pn, pv)

pub length_header : (version n m target : ℕ) → length (header_bytes version n m target) ≡ 20
unfolding header_bytes two four
length_header version n m target = refl

pub length_station : (tag time : List ℕ) (i : ℕ) → length (station_bytes tag time i) ≡ 4
unfolding station_bytes two
length_station tag time i = refl

pub length_queue : (source sink produced consumed delay : List ℕ) (e : ℕ) → length (queue_bytes source sink produced consumed delay e) ≡ 10
unfolding queue_bytes two
length_queue source sink produced consumed delay e = refl

pub length_stations : (f : Sheet) → length (joined f.n (station_bytes f.tag f.time)) ≡ 4 * f.n
length_stations f = length_joined 4 (station_bytes f.tag f.time) (length_station f.tag f.time) f.n

pub length_queues : (f : Sheet) → length (joined f.m (queue_bytes f.source f.sink f.produced f.consumed f.delay)) ≡ 10 * f.m
length_queues f =
    length_joined 10 (queue_bytes f.source f.sink f.produced f.consumed f.delay)
    (length_queue f.source f.sink f.produced f.consumed f.delay) f.m

-- the length of a sheet
pub length_bytes : (f : Sheet) → length (bytes_of f) ≡ 20 + 4 * f.n + 10 * f.m
unfolding bytes_of
length_bytes f = rw (length-append, length-append, length_header, length_stations f, length_queues f)

-- Writing what was read gives the same bytes.
use Prim.Native.Nat.{ℕ, ◌+◌, ◌*◌, ◌≤◌, ◌<◌}
use mathlib.Core.Path.{◌≡◌, refl, sym, ap, ◌∙◌}
use mathlib.Core.List.{List, ◌++◌}
use native.Mathlib.Omega.{arith}
use lib.ListN.{length, take, drop, replicate, length-replicate}
use lib.Seq.{get_or-take, length-take-le}
use Rattle.std.specs.Prelude.{Result, Ok}
use Rattle.lists.specs.Front.{at}
use Rattle.lists.specs.Part.{part}
use Rattle.lists.proofs.FrontLaws.{at_front, length_front}
use Rattle.lists.proofs.PartLaws.{part_join, part_all, part_joined}
use Rattle.lists.proofs.JoinedLaws.{joined_same}
use Rattle.little.specs.Little.{Bytes, two, four, column_at}
use Rattle.little.proofs.LittleLaws.{two_u16, four_u32}
use Rattle.refusals.specs.First.{Passed}
use Rattle.refusals.specs.declared.refusal.Refusal.{Refusal}
use Rattle.refusals.proofs.FirstLaws.{all_passed}
use Rattle.sheet.specs.declared.Sheet.{Sheet}
use Rattle.sheet.specs.Format.{version, stations, queues, target, queue_size, queue_start, sheet_end, padded, header_bytes, station_bytes, queue_bytes, bytes_of, sheet_of}
use Rattle.sheet.specs.Read.{Passes, field_row, Reads}
use Rattle.sheet.specs.Write.{SheetHanded, write_rows, Judges, Writes}
use Rattle.sheet.specs.Fields.{trimmed}
use Rattle.sheet.proofs.FormatLaws.{ends, part_same}
use Rattle.sheet.proofs.ReadLaws.{passes_read}
use Rattle.sheet.proofs.WriteLaws.{writes}
use Rattle.sheet.proofs.FieldLaws.{passed_same, trimmed_same}
use Rattle.sheet.proofs.Unique.{write_unique}

-- an entry of a column, cut to its count
entry : (size n : ℕ) (f : ℕ → ℕ) (i : ℕ) → i < n → at (take n (padded size n f)) i ≡ f i
entry size n f i h = get_or-take n (padded size n f) i 0 h ∙ at_front n f (replicate size 0) i h

module _ (s : List ℕ) (bytes : Bytes s) (ok : Passes s) where
  -- one part behind another
  behind : (i a b place : ℕ) {v w : List ℕ} → place ≡ i + a → v ≡ part s i a → w ≡ part s place b → v ++ w ≡ part s i (a + b)
  behind i a b place e p q = rw (p, q) (part_join s i a b e)

  header_part : header_bytes (version s) (stations s) (queues s) (target s) ≡ part s 0 20
  unfolding header_bytes
  header_part =
      let long = ends s ok in
      behind 0 16 4 16 refl
      (behind 0 12 4 12 refl
      (behind 0 8 4 8 refl
      (behind 0 6 2 6 refl
      (behind 0 4 2 4 refl
      (behind 0 2 2 2 refl (two_u16 s bytes 0 (omega arith)) (two_u16 s bytes 2 (omega arith)))
      (two_u16 s bytes 4 (omega arith)))
      (ap two (sym ok.header.zero) ∙ two_u16 s bytes 6 (omega arith)))
      (ap four (sym ok.laid.stations_at) ∙ four_u32 s bytes 8 (omega arith)))
      (ap four (sym ok.laid.queues_at) ∙ four_u32 s bytes 12 (omega arith)))
      (four_u32 s bytes 16 (omega arith))

  station_part : (i : ℕ) → i < stations s → station_bytes (trimmed (sheet_of s)).tag (trimmed (sheet_of s)).time i ≡ part s (20 + 4 * i) 4
  unfolding station_bytes sheet_of
  station_part i h =
      let long = ends s ok in
      behind (20 + 4 * i) 2 2 (22 + 4 * i) (omega arith)
      (ap two (entry 32 (stations s) (column_at s 20 4) i h) ∙ two_u16 s bytes (20 + 4 * i) (omega arith))
      (ap two (entry 32 (stations s) (column_at s 22 4) i h) ∙ two_u16 s bytes (22 + 4 * i) (omega arith))

  -- the field of queue e that stands j bytes into its record
  queue_number : (e j from : ℕ) → e < queues s → j ≤ 8 → from ≡ queue_start (stations s) + j → two (at (take (queues s) (padded 64 (queues s) (column_at s from (queue_size (version s))))) e) ≡ part s (queue_start (stations s) + 10 * e + j) 2
  queue_number e j from h b p =
      let long = ends s ok in
      let size : queue_size (version s) * e ≡ 10 * e = part_same (ap queue_size ok.known) refl in
      let place : from + queue_size (version s) * e ≡ queue_start (stations s) + 10 * e + j = omega arith in
      ap two (entry 64 (queues s) (column_at s from (queue_size (version s))) e h)
      ∙ two_u16 s bytes (from + queue_size (version s) * e) (omega arith)
      ∙ ap (λ (k : ℕ). part s k 2) place

  queue_part : (e : ℕ) → e < queues s → queue_bytes (trimmed (sheet_of s)).source (trimmed (sheet_of s)).sink (trimmed (sheet_of s)).produced (trimmed (sheet_of s)).consumed (trimmed (sheet_of s)).delay e ≡ part s (queue_start (stations s) + 10 * e) 10
  unfolding queue_bytes sheet_of
  queue_part e h =
      let from = queue_start (stations s) in
      behind (from + 10 * e) 8 2 (from + 10 * e + 8) refl
      (behind (from + 10 * e) 6 2 (from + 10 * e + 6) refl
      (behind (from + 10 * e) 4 2 (from + 10 * e + 4) refl
      (behind (from + 10 * e) 2 2 (from + 10 * e + 2) refl
      (queue_number e 0 from h (omega arith) (omega arith) ∙ ap (λ (k : ℕ). part s k 2) (omega arith))
      (queue_number e 2 (from + 2) h (omega arith) refl))
      (queue_number e 4 (from + 4) h (omega arith) refl))
      (queue_number e 6 (from + 6) h (omega arith) refl))
      (queue_number e 8 (from + 8) h (omega arith) refl)

  -- the bytes of the sheet that bytes hold are those bytes
  pub bytes_back : bytes_of (trimmed (sheet_of s)) ≡ s
  unfolding bytes_of sheet_of
  bytes_back =
      let n = stations s in
      let m = queues s in
      behind 0 (20 + 4 * n) (10 * m) (queue_start n) (omega arith)
      (behind 0 20 (4 * n) 20 refl header_part (joined_same n _ _ station_part ∙ part_joined s 20 4 n))
      (joined_same m _ _ queue_part ∙ part_joined s (queue_start n) 10 m)
      ∙ part_all s (20 + 4 * n + 10 * m) (ends s ok)

-- a column cut to its count has that length
cut : (size n : ℕ) (f : ℕ → ℕ) → n ≤ size → length (take n (padded size n f)) ≡ n
cut size n f h =
    let blank : List ℕ = replicate size 0 in
    length-take-le n (padded size n f) (omega (arith, length-replicate {A = ℕ} size 0, length_front n f blank (omega (arith, length-replicate {A = ℕ} size 0))))

handed_back : (s : List ℕ) → Passes s → SheetHanded (trimmed (sheet_of s))
unfolding sheet_of
handed_back s ok =
    record {
      tags = cut 32 (stations s) _ ok.header.counts.stations;
      times = cut 32 (stations s) _ ok.header.counts.stations;
      sources = cut 64 (queues s) _ ok.header.counts.queues;
      sinks = cut 64 (queues s) _ ok.header.counts.queues;
      produceds = cut 64 (queues s) _ ok.header.counts.queues;
      consumeds = cut 64 (queues s) _ ok.header.counts.queues;
      delays = cut 64 (queues s) _ ok.header.counts.queues;
    }

judged_back : (s : List ℕ) → Passes s → Passed (field_row (sheet_of s)) → (room : ℕ) → length s ≤ room
    → Judges (write_rows (trimmed (sheet_of s)) room) (sheet_end (sheet_of s).version (sheet_of s).n (sheet_of s).m) (Ok (length s))
unfolding sheet_of
judged_back s ok clear room h =
    writes (trimmed (sheet_of s)) room ok.known ok.header.counts (handed_back s ok)
    (passed_same (trimmed_same (sheet_of s)) clear)
    (length s) ok.laid.ends h

-- writing what was read gives the same bytes
pub write_back : (s : List ℕ) → Bytes s → (f : Sheet) → Reads s (Ok f)
    → (before after : List ℕ) (w : Result ℕ Refusal) → Writes (trimmed f) before after w → length s ≤ length before
    → (w ≡ Ok (length s)) × (after ≡ s ++ drop (length s) before)
write_back s bytes f q before after w p h =
    let ok = passes_read s q.verdict refl in
    let once = write_unique (trimmed (sheet_of s)) before after _ w (Ok (length s)) (rw q.accepted at p)
    (record { judged = judged_back s ok (all_passed q.verdict refl 4 (omega arith)) (length before) h; accepted = refl; refused = tt }) in
    (once.0, rw (← bytes_back s bytes ok) once.1)

-- Reading what was written gives the same sheet.
use Prim.Native.Nat.{ℕ, ◌+◌, ◌*◌, ◌/◌, ◌%◌, ◌<◌}
use mathlib.Core.Path.{◌≡◌, refl, sym, ap, ◌∙◌}
use mathlib.Core.List.{List, ◌++◌}
use native.Mathlib.Omega.{arith}
use lib.ListN.{length, take, length-append, get_or-append}
use lib.Seq.{get_or-append-add, take_at}
use Rattle.std.specs.Prelude.{Result, Ok}
use Rattle.lists.specs.Front.{at}
use Rattle.lists.specs.Joined.{joined}
use Rattle.lists.proofs.FrontLaws.{front_same}
use Rattle.lists.proofs.JoinedLaws.{at_joined}
use Rattle.little.specs.Little.{two, four, column_at}
use Rattle.refusals.specs.First.{Passed}
use Rattle.refusals.specs.declared.refusal.Refusal.{Refusal}
use Rattle.refusals.proofs.FirstLaws.{all_passed}
use Rattle.refusals.proofs.RefusedLaws.{given, passes}
use Rattle.sheet.specs.declared.Sheet.{Sheet}
use Rattle.sheet.specs.Limits.{CountsFit}
use Rattle.sheet.specs.Format.{version, stations, queues, zero_field, station_offset, queue_offset, target, queue_start, header_bytes, station_bytes, queue_bytes, bytes_of, padded, queue_size, sheet_of}
use Rattle.sheet.specs.Read.{HeaderFits, Laid, field_row, Reads}
use Rattle.sheet.specs.Write.{Writes}
use Rattle.sheet.specs.Fields.{filled}
use Rattle.sheet.proofs.FormatLaws.{length_header, length_station, length_queue, length_stations, length_bytes, part_same, sheet_is}
use Rattle.sheet.proofs.WriteLaws.{writable}
use Rattle.sheet.proofs.FieldLaws.{passed_same, filled_same}
use Rattle.sheet.proofs.Unique.{read_unique}

module _ (f : Sheet) where
  version_back : version (bytes_of f) ≡ f.version
  unfolding bytes_of header_bytes two four
  version_back = omega arith

  stations_back : stations (bytes_of f) ≡ f.n
  unfolding bytes_of header_bytes two four
  stations_back = omega arith

  queues_back : queues (bytes_of f) ≡ f.m
  unfolding bytes_of header_bytes two four
  queues_back = omega arith

  zero_back : zero_field (bytes_of f) ≡ 0
  unfolding bytes_of header_bytes two four
  zero_back = refl

  station_offset_back : station_offset (bytes_of f) ≡ 20
  unfolding bytes_of header_bytes two four
  station_offset_back = refl

  queue_offset_back : queue_offset (bytes_of f) ≡ queue_start f.n
  unfolding bytes_of header_bytes two four
  queue_offset_back = omega arith

  target_back : target (bytes_of f) ≡ f.target
  unfolding bytes_of header_bytes two four
  target_back = omega arith

  -- byte j of station i, and of queue e
  station_at : (i j : ℕ) {place : ℕ} → place ≡ 20 + (4 * i + j) → i < f.n → j < 4 → at (bytes_of f) place ≡ at (station_bytes f.tag f.time i) j
  unfolding bytes_of
  station_at i j {place} e h b =
      let header = header_bytes f.version f.n f.m f.target in
      let parts = joined f.n (station_bytes f.tag f.time) in
      let long = length_header f.version f.n f.m f.target in
      get_or-append (header ++ parts) _ 0 place (omega (arith, length-append header parts, long, length_stations f))
      ∙ ap (at (header ++ parts)) (e ∙ ap (λ (k : ℕ). k + (4 * i + j)) (sym long))
      ∙ get_or-append-add header parts (4 * i + j) 0
      ∙ at_joined 4 (station_bytes f.tag f.time) (length_station f.tag f.time) f.n i j h b

  queue_at : (e j : ℕ) {place : ℕ} → place ≡ 20 + 4 * f.n + (10 * e + j) → e < f.m → j < 10 → at (bytes_of f) place ≡ at (queue_bytes f.source f.sink f.produced f.consumed f.delay e) j
  unfolding bytes_of
  queue_at e j {place} p h b =
      let header = header_bytes f.version f.n f.m f.target in
      let parts = joined f.n (station_bytes f.tag f.time) in
      let columns = queue_bytes f.source f.sink f.produced f.consumed f.delay in
      let long : length (header ++ parts) + (10 * e + j) ≡ 20 + 4 * f.n + (10 * e + j) =
      omega (arith, length-append header parts, length_header f.version f.n f.m f.target, length_stations f)
      in
      ap (at (header ++ parts ++ joined f.m columns)) (p ∙ sym long)
      ∙ get_or-append-add (header ++ parts) (joined f.m columns) (10 * e + j) 0
      ∙ at_joined 10 columns (length_queue f.source f.sink f.produced f.consumed f.delay) f.m e j h b

  -- the number in bytes j and j + 1 of a station, and of a queue
  station_field : (i j x : ℕ) {from : ℕ} → from ≡ 20 + j → i < f.n → j < 3 → at (station_bytes f.tag f.time i) j ≡ x % 256 → at (station_bytes f.tag f.time i) (j + 1) ≡ x / 256 → column_at (bytes_of f) from 4 i ≡ x
  station_field i j x {from} p h b low high =
      let first : at (bytes_of f) (from + 4 * i) ≡ x % 256 = station_at i j (omega arith) h (omega arith) ∙ low in
      let second : at (bytes_of f) (from + 4 * i + 1) ≡ x / 256 = station_at i (j + 1) (omega arith) h (omega arith) ∙ high in
      omega arith

  queue_field : (e j x : ℕ) {from : ℕ} → from ≡ 20 + 4 * f.n + j → e < f.m → j < 9 → at (queue_bytes f.source f.sink f.produced f.consumed f.delay e) j ≡ x % 256 → at (queue_bytes f.source f.sink f.produced f.consumed f.delay e) (j + 1) ≡ x / 256 → column_at (bytes_of f) from 10 e ≡ x
  queue_field e j x {from} p h b low high =
      let first : at (bytes_of f) (from + 10 * e) ≡ x % 256 = queue_at e j (omega arith) h (omega arith) ∙ low in
      let second : at (bytes_of f) (from + 10 * e + 1) ≡ x / 256 = queue_at e (j + 1) (omega arith) h (omega arith) ∙ high in
      omega arith

  -- a column that was written is the column that was handed over
  station_back : (column : List ℕ) (from j : ℕ) → from ≡ 20 + j → j < 3 → ((i : ℕ) → at (station_bytes f.tag f.time i) j ≡ at column i % 256) → ((i : ℕ) → at (station_bytes f.tag f.time i) (j + 1) ≡ at column i / 256)
      → padded 32 f.n (at column) ≡ padded 32 f.n (column_at (bytes_of f) from 4)
  station_back column from j p b low high =
      front_same f.n _ _ _ (λ i h. sym (station_field i j (at column i) p h b (low i) (high i)))

  queue_back : (column : List ℕ) (from j : ℕ) → from ≡ 20 + 4 * f.n + j → j < 9 → ((e : ℕ) → at (queue_bytes f.source f.sink f.produced f.consumed f.delay e) j ≡ at column e % 256) → ((e : ℕ) → at (queue_bytes f.source f.sink f.produced f.consumed f.delay e) (j + 1) ≡ at column e / 256)
      → padded 64 f.m (at column) ≡ padded 64 f.m (column_at (bytes_of f) from 10)
  queue_back column from j p b low high =
      front_same f.m _ _ _ (λ e h. sym (queue_field e j (at column e) p h b (low e) (high e)))

  -- the bytes of a sheet hold that sheet
  pub sheet_back : f.version ≡ 1 → filled f ≡ sheet_of (bytes_of f)
  unfolding station_bytes queue_bytes two
  sheet_back one =
      sheet_is (bytes_of f) (sym version_back) (sym stations_back) (sym queues_back) (sym (ap queue_size one)) (sym target_back)
      (station_back f.tag 20 0 refl (omega arith) (λ i. refl) (λ i. refl))
      (station_back f.time 22 2 refl (omega arith) (λ i. refl) (λ i. refl))
      (queue_back f.source _ 0 (omega arith) (omega arith) (λ e. refl) (λ e. refl))
      (queue_back f.sink _ 2 refl (omega arith) (λ e. refl) (λ e. refl))
      (queue_back f.produced _ 4 refl (omega arith) (λ e. refl) (λ e. refl))
      (queue_back f.consumed _ 6 refl (omega arith) (λ e. refl) (λ e. refl))
      (queue_back f.delay _ 8 refl (omega arith) (λ e. refl) (λ e. refl))

  -- and reading accepts them where the sheet is within limits
  pub reads_back : f.version ≡ 1 → CountsFit f.n f.m → Passed (field_row f) → Reads (bytes_of f) (Ok (filled f))
  reads_back known counts clear =
      let s = bytes_of f in
      let header : HeaderFits s = record { counts = omega (arith, counts, stations_back, queues_back); zero = zero_back } in
      let laid : Laid s =
      record {
        stations_at = station_offset_back;
        queues_at = omega (arith, queue_offset_back, stations_back);
        ends = omega (arith, length_bytes f, stations_back, part_same (ap queue_size (version_back ∙ known)) queues_back);
      }
      in
      passes (λ p h. omega (arith, length_bytes f))
      (passes (λ p h. h (version_back ∙ known))
      (passes (λ p h. h header)
      (passes (λ p h. h laid)
      (passes (rw (← sheet_back known) (passed_same (filled_same f) clear))
      (given (filled f) (sheet_back known))))))

-- reading what was written gives the same sheet
pub read_back : (f : Sheet) (before after : List ℕ) (long : ℕ) → Writes f before after (Ok long) → (r : Result Sheet Refusal) → Reads (take long after) r → r ≡ Ok (filled f)
read_back f before after long p r q =
    let ok = writable f p.judged.verdict refl in
    let whole : length (bytes_of f) ≡ long =
    omega (arith, p.judged.accepted, length_bytes f, part_same {m = f.m} (ap queue_size ok.known) refl)
    in
    let same : take long after ≡ bytes_of f = rw p.accepted (take_at (bytes_of f) _ long whole) in
    read_unique (bytes_of f) r _ (rw same at q) (reads_back f ok.known ok.counts (all_passed p.judged.verdict refl 2 (omega arith)))

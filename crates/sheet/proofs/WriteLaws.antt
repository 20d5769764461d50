-- The laws of writing.
use Prim.Native.Nat.{ℕ, ◌+◌, ◌*◌, ◌≤◌, ◌<◌}
use mathlib.Core.Path.{◌≡◌, refl, ap, ◌∙◌}
use mathlib.Core.List.{List, [], ◌∷◌, ◌++◌}
use lib.ListN.{length, drop}
use native.Mathlib.Omega.{arith}
use Rattle.std.specs.Prelude.{Some, Result, Ok, Err}
use Rattle.lists.specs.Put.{put}
use Rattle.lists.specs.Joined.{joined}
use Rattle.lists.specs.Lowest.{FirstFailing}
use Rattle.lists.proofs.Order.{le_stable, eq_stable}
use Rattle.lists.proofs.PutLaws.{wrote, wrote_more, put_front}
use Rattle.refusals.specs.Table.{counts}
use Rattle.refusals.specs.Table.{version as wrong_version}
use Rattle.refusals.specs.Table.{room as too_short}
use Rattle.refusals.specs.First.{row, Passed, First}
use Rattle.refusals.specs.declared.refusal.Refusal.{Refusal}
use Rattle.refusals.specs.declared.refusal.Refusal.TheVariants.{Version, Counts, Field, Room}
use Rattle.refusals.proofs.FirstLaws.{here_now, all_passed}
use Rattle.refusals.proofs.RefusedLaws.{refused, given, passes}
use Rattle.sheet.specs.declared.Sheet.{Sheet}
use Rattle.sheet.specs.Limits.{CountsFit, SheetQueueFits}
use Rattle.sheet.specs.Format.{queue_size, sheet_end, header_bytes, station_bytes, queue_bytes, bytes_of}
use Rattle.sheet.specs.Read.{field_row}
use Rattle.sheet.specs.Write.{SheetHanded, write_rows, Judges}
use Rattle.sheet.proofs.FormatLaws.{part_same, length_header, length_stations, length_queues, length_bytes}
use Rattle.sheet.proofs.ReadLaws.{bad_refused}

module _ (f : Sheet) (room : ℕ) where
  abbrev Judged : Result ℕ Refusal → Type 0
  Judged = Judges (write_rows f room) (sheet_end f.version f.n f.m)

  pub version_refused : (f.version ≡ 1 → ⊥) → Judged (Err Version)
  version_refused n = refused Version (here_now wrong_version n)

  module _ (one : f.version ≡ 1) where
    pub counts_refused : (CountsFit f.n f.m × SheetHanded f → ⊥) → Judged (Err Counts)
    counts_refused n = passes (λ p h. h one) (refused Counts (here_now counts n))

    module _ (fits : CountsFit f.n f.m) (handed : SheetHanded f) where
      past_counts : {r : Result ℕ Refusal} → Judges (field_row f ∷ row too_short (room < sheet_end f.version f.n f.m) ∷ []) (sheet_end f.version f.n f.m) r → Judged r
      past_counts a = passes (λ p h. h one) (passes (λ p h. h (fits, handed)) a)

      pub queue_refused : (e : ℕ) → FirstFailing (SheetQueueFits f) f.m (Some e) → Judged (Err (Field e))
      queue_refused e bad = past_counts (bad_refused f e bad)

      module _ (clear : Passed (field_row f)) where
        pub room_refused : room < sheet_end f.version f.n f.m → Judged (Err Room)
        room_refused l = past_counts (passes clear (refused Room (here_now too_short l)))

        pub writes : (length : ℕ) → length ≡ sheet_end f.version f.n f.m → length ≤ room → Judged (Ok length)
        writes length e l = past_counts (passes clear (passes (λ p h. omega arith) (given length e)))

-- what holds of the fields where nothing is refused
pub record Writable (f : Sheet) (room : ℕ) : Type 0 where
  pub known : f.version ≡ 1
  pub counts : CountsFit f.n f.m
  pub handed : SheetHanded f
  pub fits : 20 + 4 * f.n + 10 * f.m ≤ room

pub writable : (f : Sheet) {room k p : ℕ} → First (write_rows f room) k p → k ≡ 0 → Writable f room
writable f {room} w e =
    let all = all_passed w e in
    let one : f.version ≡ 1 = eq_stable (all 0 (omega arith) 0) in
    let both = all 1 (omega arith) 0 in
    let end : sheet_end f.version f.n f.m ≤ room = le_stable (λ n. all 3 (omega arith) 0 (omega arith)) in
    record {
      known = one;
      counts =
          record {
            some = le_stable (λ n. both (λ b. n b.0.some));
            stations = le_stable (λ n. both (λ b. n b.0.stations));
            queues = le_stable (λ n. both (λ b. n b.0.queues));
          };
      handed =
          record {
            tags = eq_stable (λ n. both (λ b. n b.1.tags));
            times = eq_stable (λ n. both (λ b. n b.1.times));
            sources = eq_stable (λ n. both (λ b. n b.1.sources));
            sinks = eq_stable (λ n. both (λ b. n b.1.sinks));
            produceds = eq_stable (λ n. both (λ b. n b.1.produceds));
            consumeds = eq_stable (λ n. both (λ b. n b.1.consumeds));
            delays = eq_stable (λ n. both (λ b. n b.1.delays));
          };
      fits = omega (arith, part_same {m = f.m} (ap queue_size one) refl);
    }

-- header, stations and queues, one after the other, are the sheet
pub all_written : (f : Sheet) (l : List ℕ) {a b c : List ℕ}
    → 20 + 4 * f.n + 10 * f.m ≤ length l
    → a ≡ put l 0 (header_bytes f.version f.n f.m f.target)
    → b ≡ put a 20 (joined f.n (station_bytes f.tag f.time))
    → c ≡ put b (20 + 4 * f.n) (joined f.m (queue_bytes f.source f.sink f.produced f.consumed f.delay))
    → c ≡ bytes_of f ++ drop (length (bytes_of f)) l
unfolding bytes_of
all_written f l fits pa pb pc =
    (wrote_more _ (wrote_more _ (wrote pa (length_header _ _ _ _)) refl pb (length_stations f)) (omega arith) pc (length_queues f)).is
    ∙ put_front l (bytes_of f) (omega (arith, length_bytes f))

-- The laws of little-endian numbers.
use Prim.Native.Nat.{ℕ, ◌+◌, ◌/◌, ◌%◌, ◌^◌, ◌≤◌, ◌<◌}
use mathlib.Core.Path.{◌≡◌, refl}
use mathlib.Core.List.{List}
use native.Mathlib.Omega.{arith}
use lib.ListN.{length}
use Rattle.std.specs.Int.{w16, w32, to_le_bytes}
use Rattle.lists.specs.Front.{at}
use Rattle.lists.specs.Part.{part}
use Rattle.lists.proofs.PartLaws.{part_join, part_two}
use Rattle.little.specs.Little.{Bytes, u16le, u32le, two, four}

pub length_two : (x : ℕ) → length (two x) ≡ 2
unfolding two
length_two x = refl

pub length_four : (x : ℕ) → length (four x) ≡ 4
unfolding four two
length_four x = refl

-- the library's bytes of a number are these
pub two_bytes : (x : ℕ) → x < 2 ^ 16 → to_le_bytes w16 x ≡ two x
unfolding two
two_bytes x h = let high : x / 256 % 256 ≡ x / 256 = omega arith in rw high

pub four_bytes : (x : ℕ) → x < 2 ^ 32 → to_le_bytes w32 x ≡ four x
unfolding four two
four_bytes x h =
    let first : x % 65536 % 256 ≡ x % 256 = omega arith in
    let second : x % 65536 / 256 ≡ x / 256 % 256 = omega arith in
    let third : x / 65536 % 256 ≡ x / 256 ^ 2 % 256 = omega arith in
    let last : x / 65536 / 256 ≡ x / 256 ^ 3 % 256 = omega arith in
    rw (first, second, third, last)

-- the bytes of the number in two bytes are those two, and likewise of four
pub two_u16 : (s : List ℕ) → Bytes s → (i : ℕ) → i + 2 ≤ length s → two (u16le s i) ≡ part s i 2
unfolding two
two_u16 s bytes i h =
    let low : u16le s i % 256 ≡ at s i = omega (arith, bytes i) in
    let high : u16le s i / 256 ≡ at s (i + 1) = omega (arith, bytes i) in
    rw (low, high, part_two s i h)

pub four_u32 : (s : List ℕ) → Bytes s → (i : ℕ) → i + 4 ≤ length s → four (u32le s i) ≡ part s i 4
unfolding four
four_u32 s bytes i h =
    let low : u32le s i % 65536 ≡ u16le s i = omega (arith, bytes i, bytes (i + 1)) in
    let high : u32le s i / 65536 ≡ u16le s (i + 2) = omega (arith, bytes i, bytes (i + 1)) in
    rw (low, high, two_u16 s bytes i (omega arith), two_u16 s bytes (i + 2) (omega arith)) (part_join s i 2 2 refl)

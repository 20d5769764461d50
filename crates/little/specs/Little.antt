-- Little-endian numbers in a list of bytes.
use Rattle.std.specs.Prelude.{ℕ, ◌+◌, ◌*◌, ◌/◌, ◌%◌, ◌≤◌, ◌<◌, List, [], ◌∷◌, ◌++◌}
use Rattle.lists.specs.Front.{at}

-- every entry is a byte
abbrev pub Bytes : List ℕ → Type 0
Bytes s = (i : ℕ) → at s i < 256

-- the number in the two bytes at a place, and in the four
abbrev pub u16le : List ℕ → ℕ → ℕ
u16le s place = at s place + 256 * at s (place + 1)

abbrev pub u32le : List ℕ → ℕ → ℕ
u32le s place = u16le s place + 65536 * u16le s (place + 2)

-- a number as two bytes, and as four
unfoldable pub two : ℕ → List ℕ
two x = x % 256 ∷ x / 256 ∷ []

unfoldable pub four : ℕ → List ℕ
four x = two (x % 65536) ++ two (x / 65536)

-- the i-th of the numbers that stand step bytes apart from base on
abbrev pub column_at : List ℕ → ℕ → ℕ → ℕ → ℕ
column_at s base step i = u16le s (base + step * i)

-- count numbers, step bytes apart from base on, lie within size bytes and fit room entries
pub record Apart (base step count size room : ℕ) : Type 0 where
  pub fits : count ≤ room
  pub within : (i : ℕ) → i < count → base + step * i + 2 ≤ size

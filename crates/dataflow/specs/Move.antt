-- The move of a copy by a retiming.
use Rattle.std.specs.Prelude.{◌≡◌, ℕ, suc, ◌+◌, ◌-◌, ◌/◌, ◌%◌, ℤ, pos, negsuc, ◌+ℤ◌, ◌-ℤ◌}
use Rattle.dataflow.specs.Net.{Net}
use Rattle.dataflow.specs.Copies.{Copy, Dependence}

-- floor(z / q), toward minus infinity.
abbrev pub floor_div : (z : ℤ) (q : ℕ) → ℤ
floor_div (pos n) q = pos (n / q)
floor_div (negsuc n) q = negsuc (n / q)

-- z mod q: what is left over, never negative.
abbrev pub floor_mod : (z : ℤ) (q : ℕ) → ℕ
floor_mod (pos n) q = n % q
floor_mod (negsuc n) q = q - suc (n % q)

-- With a count q, copy i moves by r to this copy ..
abbrev pub moved_copy : (q i : ℕ) (r : ℤ) → ℕ
moved_copy q i r = floor_mod (pos i +ℤ r -ℤ pos 1) q + 1

-- .. shifted by this many rounds.
abbrev pub moved_shift : (q i : ℕ) (r : ℤ) → ℤ
moved_shift q i r = floor_div (pos i +ℤ r -ℤ pos 1) q

module _ (G : Net) (r : ℕ → ℤ) where
  -- Source document 004's Φ and r': where the retiming r moves copy i of v, and by how many rounds.
  abbrev pub moves_to : (v i : ℕ) → ℕ
  moves_to v i = moved_copy (G.q v) i (r v)

  abbrev pub shift_of : (v i : ℕ) → ℤ
  shift_of v i = moved_shift (G.q v) i (r v)

  -- A dependence of delay k along e, from copy i to copy j, has this delay between the moved copies.
  abbrev pub moved_delay : (e : G.Queue) (i j k : ℕ) → ℤ
  moved_delay e i j k = pos k +ℤ shift_of (G.sink e) j -ℤ shift_of (G.source e) i

  -- The copies and dependences of the delays D are those of the delays d, moved.
  pub record Moves (d D : G.Queue → ℕ) : Type 0 where
    pub copies : (v i : ℕ) → Copy G v i → Copy G v (moves_to v i)
    pub onto : (v j : ℕ) → Copy G v j → (i : ℕ) × Copy G v i × (moves_to v i ≡ j)
    pub apart : (v i j : ℕ) → Copy G v i → Copy G v j → moves_to v i ≡ moves_to v j → i ≡ j
    pub dependences : (e : G.Queue) (i j k : ℕ) → Dependence G d e i j k
        → (k' : ℕ) × (moved_delay e i j k ≡ pos k') × Dependence G D e (moves_to (G.source e) i) (moves_to (G.sink e) j) k'
    pub no_others : (e : G.Queue) (i j k' : ℕ) → Copy G (G.source e) i → Copy G (G.sink e) j → Dependence G D e (moves_to (G.source e) i) (moves_to (G.sink e) j) k'
        → (k : ℕ) × (moved_delay e i j k ≡ pos k') × Dependence G d e i j k

-- Joined stations.
use Prim.Native.Nat.{ℕ}
use Rattle.dataflow.specs.Net.{Net}
use Rattle.dataflow.specs.Refusals.{Joined, here, along, against}

module _ (G : Net) where
  joined_on : {u v w : ℕ} → Joined G u v → Joined G v w → Joined G u w
  joined_on a here = a
  joined_on a (along e b) = along e (joined_on a b)
  joined_on a (against e b) = against e (joined_on a b)

  joined_back : {u v : ℕ} → Joined G u v → Joined G v u
  joined_back here = here
  joined_back (along e a) = joined_on (against e here) (joined_back a)
  joined_back (against e a) = joined_on (along e here) (joined_back a)

  -- two that are joined to one
  pub joined_through : {o u v : ℕ} → Joined G o u → Joined G o v → Joined G u v
  joined_through a b = joined_on (joined_back a) b

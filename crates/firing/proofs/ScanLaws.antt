-- The ready scan on its way along the queues into a station.
use Rattle.std.specs.Prelude.{ℕ, ◌+◌, ◌*◌, ◌≤◌, ◌<◌, ◌≡◌, List}
use Rattle.lists.specs.Front.{at}

-- the queues into v below e hold enough, and e goes into v
pub record FedBelow (m : ℕ) (source sink produced consumed delay fired : List ℕ) (v e : ℕ) : Type 0 where
  pub within : e ≤ m
  pub enough : (k : ℕ) → k < e → at sink k ≡ v → (at fired v + 1) * at consumed k ≤ at delay k + at fired (at source k) * at produced k
  pub goes : e < m → at sink e ≡ v

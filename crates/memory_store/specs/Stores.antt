-- What contracts see of a store, and what its calls answer.
use Rattle.std.specs.Prelude.{◌^◌, ◌≤◌, ℕ, IsTrue, Vec, vec_capacity}
use Rattle.std.specs.declared.alloc.Global.{Global}
use Rattle.memory_disk.specs.Disks.{Shown}
use Rattle.memory_store.specs.Saving.{IsReady}
use Rattle.memory_store.specs.declared.place.Place.{Place}

-- the disk that a store is on, and the sequence of what it keeps: 0 where nothing is kept
pub record StoreValue (D : Type 0) : Type 0 where
  pub disk : D
  pub sequence : ℕ

-- a save may go to the place, and there is room for its body
pub record IsSound {D : Type 0} (shows : D → Shown) (disk : D) (place : Place) (body : Vec ℕ Global) : Type 0 where
  pub low : place.slot ≤ 1
  pub few : place.sequence ≤ 2 ^ 62
  pub room : 270860 ≤ vec_capacity body
  pub ready : IsTrue (shows disk).tells → IsReady place (shows disk)

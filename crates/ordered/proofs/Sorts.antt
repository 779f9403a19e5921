-- What an insert did where there was room, and a take where there was an entry. Assumes nothing.
use Rattle.std.proofs.Common.{◌≡◌, ℕ, ◌<◌, length, Ok, Err, Result, refl, arith}
use Rattle.std.specs.Result.{IsOk}
use Rattle.ordered.specs.Orders.{placed}
use Rattle.ordered.specs.Sorted.{entries_of, Inserted}
use Rattle.ordered.specs.declared.entry.Entry.{Ghosts}
use Rattle.ordered.specs.declared.sorted.Sorted.{Sorted}

module _ {T : Type 0} {N : ℕ} {order : Ghosts T} {E : Type 0} (x : T) (old new : Sorted T N order) where
  pub insert_ok : (r : Result ℕ E) → length (entries_of old) < N → Inserted x old new r → IsOk r
  insert_ok (Ok place) room did = refl
  insert_ok (Err full) room did = absurd (omega (arith, did.0))

  pub inserted : (r : Result ℕ E) → length (entries_of old) < N → Inserted x old new r → entries_of new ≡ placed order.before x (entries_of old)
  inserted (Ok place) room did = did.2
  inserted (Err full) room did = absurd (omega (arith, did.0))

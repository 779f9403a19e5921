-- Which port can send to which, and the tables of it that cannot be. Assumes nothing.
use Rattle.std.specs.Prelude.{◌≡◌, ℕ, ◌<◌, ◌≤◌, Bool, true, ◌⊎◌, List, map, length, take, ◌≢◌, slice_index, slice_index_or}
use Rattle.records.specs.Masks.{named}
use Rattle.records.specs.declared.mask.Mask.{Mask}
use Rattle.records.specs.declared.fault.TableFault.{TableFault}
use Rattle.records.specs.declared.fault.TableFault.TheVariants.{WrongCount, WrongMask}

-- the mask that names no port
abbrev pub nobody : Mask
nobody = record { bits = 0 }

-- by a table of masks, one for each port, port p can send to port q
abbrev pub sends : List Mask → ℕ → ℕ → Bool
sends masks p q = named (slice_index_or masks p nobody).bits q

-- a port of the table sends only to other ports of the table
abbrev pub Sound : ℕ → List Mask → Type 0
Sound ports masks = (p q : ℕ) → sends masks p q ≡ true → (p < ports) × (q < ports) × (q ≢ p)

-- the mask of port p, in a table of so many ports, names port q, which is p itself or outside the table
abbrev pub Misnames : ℕ → ℕ → ℕ → ℕ → Type 0
Misnames ports p bits q = (named bits q ≡ true) × ((q ≡ p) ⊎ (ports ≤ q))

-- when bytes that should be a table's masks are refused
abbrev pub Refuses : List ℕ → TableFault → Type 0
Refuses bytes WrongCount = (length bytes < 2) ⊎ (8 < length bytes)
Refuses bytes WrongMask = (2 ≤ length bytes) × (length bytes ≤ 8) × ((p : ℕ) × (q : ℕ) × (p < length bytes) × Misnames (length bytes) p (slice_index bytes p) q)

-- a table of so many ports holds exactly these bytes as its masks: each port's is its byte, and no other place names anybody
pub record Holds (bytes : List ℕ) (ports : ℕ) (masks : List Mask) : Type 0 where
  pub count : ports ≡ length bytes
  pub each : (p : ℕ) → (slice_index_or masks p nobody).bits ≡ slice_index bytes p

-- the masks of a table of so many ports, as bytes
abbrev pub mask_bytes : ℕ → List Mask → List ℕ
mask_bytes ports masks = map (λ m. m.bits) (take ports masks)

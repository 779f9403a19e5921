-- A reach table as the bytes that it was made from. Assumes nothing.
use Rattle.std.specs.Prelude.{ℕ, List}
use Rattle.records.specs.Reaching.{mask_bytes}
use Rattle.records.specs.declared.reach.Reach.{Reach}

-- the masks of the table's ports, as bytes
abbrev pub masks_of : Reach → List ℕ
masks_of t = mask_bytes t.ports t.masks

-- Who holds a notice back. Assumes nothing.
use Rattle.std.specs.Prelude.{ℕ, Bool, true, ◌&&◌, Some, None, Option}
use Rattle.records.specs.Keys.{pair_before}
use Rattle.records.specs.declared.stamp.Pair.{Pair}
use Rattle.model.specs.Lists.{mask_of}
use Rattle.model.specs.Views.{Table, PortView, sends}

-- the holding rule: a clearance that is missing or below the pair holds; an equal one does not
abbrev pub holds : Option Pair → Pair → Bool
holds None p = true
holds (Some clearance) p = pair_before clearance p

-- the mask of those senders to the port who hold a notice of this pair there
abbrev pub holders : Table → ℕ → PortView → Pair → ℕ
holders t port o p = mask_of 8 (λ f. sends t f port && holds (o.clearance f) p)

-- Which number stands for which tag. Assumes nothing.
use Rattle.std.specs.Prelude.{◌≡◌, ◌≢◌, ℕ, Result, MatchResult}
use Rattle.records.specs.declared.fault.ReaderFault.{ReaderFault}
use Rattle.records.specs.declared.fault.ReaderFault.TheVariants.{UnknownTag}
use Rattle.events.specs.declared.tag.Tag.{Tag}
use Rattle.events.specs.declared.tag.Tag.TheVariants.{HandIn, Decide, Clear, Bring, Fetch, Release, Table}

-- the number that stands for a tag
abbrev pub number_of : Tag → ℕ
number_of HandIn = 1
number_of Decide = 2
number_of Clear = 3
number_of Bring = 4
number_of Fetch = 5
number_of Release = 6
number_of Table = 16

-- the result is the tag with this number, or that no tag has it
abbrev pub Decodes : ℕ → Result Tag ReaderFault → Type 0
Decodes number r = MatchResult r (λ tag. number_of tag ≡ number) (λ why. (why ≡ UnknownTag) × ((tag : Tag) → number_of tag ≢ number))

-- The letter by which a field is shown. Assumes nothing.
use Rattle.std.specs.Prelude.{ℕ}
use Rattle.events.specs.declared.event.Event.{Event}
use Rattle.events.specs.declared.event.Event.TheVariants.{HandIn, Decide, Clear, Bring, Fetch, Release}

-- H, D, C, B, F and R, as the codes of these characters
abbrev pub letter_of : Event → ℕ
letter_of (HandIn x) = 72
letter_of (Decide port number cuts) = 68
letter_of (Clear port reading) = 67
letter_of (Bring from to) = 66
letter_of (Fetch port source) = 70
letter_of (Release port) = 82

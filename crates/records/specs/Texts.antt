-- How a pair and a stamp are printed. Assumes nothing.
use Rattle.std.specs.Prelude.{ℕ, List, ◌++◌, codes, decimal}
use Rattle.records.specs.declared.stamp.Pair.{Pair}
use Rattle.records.specs.declared.stamp.Stamp.{Stamp}

-- as 100.2
abbrev pub pair_text : Pair → List ℕ
pair_text p = decimal p.clock ++ codes "." ++ decimal p.step

-- as 100.2.0
abbrev pub stamp_text : Stamp → List ℕ
stamp_text s = pair_text s.pair ++ codes "." ++ decimal s.port

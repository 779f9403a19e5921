-- How the lists of a board lie in one array. Assumes nothing.
use Rattle.std.specs.Prelude.{ℕ, ◌+◌, ◌*◌, cond, List, [], ◌∷◌, map, Some, None, Option, ◌==◌, slice_index_or}
use Rattle.boards.specs.Rules.{Vessels}
use Rattle.boards.specs.Shown.{Lists, is_berth}

-- the place of a berth's list in the array, if there is such a list
abbrev pub place_of : ℕ → ℕ → ℕ → Option ℕ
place_of w h b = cond (is_berth w h b) (Some (w * 128 + h * 16 + b)) None

-- the lists that an array shows whose elements mean lists
abbrev pub shown_by : {X : Type 0} → (X → Vessels) → List X → Lists
shown_by means xs w h b = cond (is_berth w h b) (slice_index_or (map means xs) (w * 128 + h * 16 + b) []) []

-- the list of one vessel, and for 0 the empty one
abbrev pub alone : ℕ → Vessels
alone v = cond (v == 0) [] (v ∷ [])

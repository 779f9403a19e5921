-- What an outsider saw of a net, and what can be told from that alone. Assumes nothing.
use Rattle.std.specs.Prelude.{ℕ, Bool, cond, ◌&&◌, List, [], ◌∷◌, ◌++◌, Some, None, Option, ◌==◌}
use Rattle.records.specs.Keys.{decided_before}
use Rattle.records.specs.declared.fault.NetFault.{NetFault}
use Rattle.records.specs.declared.stamp.Pair.{Pair}
use Rattle.records.specs.declared.notice.Notice.{Notice}
use Rattle.records.specs.declared.notice.Decided.{Decided}
use Rattle.boards.specs.Rules.{Rule}
use Rattle.boards.specs.declared.outcome.Outcome.{Outcome}
use Rattle.model.specs.Lists.{placed_all}
use Rattle.model.specs.Views.{View, Opened}
use Rattle.model.specs.Calls.{HandIn, Decide, Call, notice_of}
use Rattle.model.specs.Steps.{HandsIn, Decides, Clears, Brings, Fetches, Releases, Refuses}

-- a call and its answer
pub data Told : Type 0 where
  -- the count
  handed : HandIn → ℕ → Told
  -- the batch by stamp, the number of notices and of copies
  decided : Decide → List Decided → ℕ → ℕ → Told
  -- port and reading; the pair
  cleared : ℕ → ℕ → Pair → Told
  -- from and to
  brought : ℕ → ℕ → Told
  -- port and source
  fetched : ℕ → ℕ → Told
  -- port; notice and outcome
  released : ℕ → Decided → Outcome → Told
  refused : Call → NetFault → Told

-- the calls and answers so far, the newest first
abbrev pub History : Type 0
History = List Told

-- the common list: all decided notices with the stamps given there, by rising stamp
abbrev pub common : History → List Decided
common [] = []
common (handed x n ∷ h) = common h
common (decided x ds n m ∷ h) = placed_all decided_before ds (common h)
common (cleared p r q ∷ h) = common h
common (brought f t ∷ h) = common h
common (fetched p s ∷ h) = common h
common (released p d o ∷ h) = common h
common (refused c f ∷ h) = common h

-- a port's book: the notices that its releases have answered, in that order
abbrev pub book : ℕ → History → List Decided
book p [] = []
book p (handed x n ∷ h) = book p h
book p (decided x ds n m ∷ h) = book p h
book p (cleared q r s ∷ h) = book p h
book p (brought f t ∷ h) = book p h
book p (fetched q s ∷ h) = book p h
book p (released q d o ∷ h) = cond (p == q) (book p h ++ d ∷ []) (book p h)
book p (refused c f ∷ h) = book p h

-- the last notice released at a port, if any
abbrev pub last_released : ℕ → History → Option Decided
last_released p [] = None
last_released p (handed x n ∷ h) = last_released p h
last_released p (decided x ds n m ∷ h) = last_released p h
last_released p (cleared q r s ∷ h) = last_released p h
last_released p (brought f t ∷ h) = last_released p h
last_released p (fetched q s ∷ h) = last_released p h
last_released p (released q d o ∷ h) = cond (p == q) (Some d) (last_released p h)
last_released p (refused c f ∷ h) = last_released p h

-- the notice is from dispatcher d of port f
abbrev pub is_from : ℕ → ℕ → Notice → Bool
is_from f d n = n.source == f && n.dispatcher == d

-- what dispatcher d of port f handed in, in that order
abbrev pub handed_by : ℕ → ℕ → History → List Notice
handed_by f d [] = []
handed_by f d (handed x n ∷ h) = cond (is_from f d (notice_of x n)) (handed_by f d h ++ notice_of x n ∷ []) (handed_by f d h)
handed_by f d (decided x ds n m ∷ h) = handed_by f d h
handed_by f d (cleared p r q ∷ h) = handed_by f d h
handed_by f d (brought a t ∷ h) = handed_by f d h
handed_by f d (fetched p s ∷ h) = handed_by f d h
handed_by f d (released p e o ∷ h) = handed_by f d h
handed_by f d (refused c e ∷ h) = handed_by f d h

-- the call with this answer can have taken the net from v to w, over a wire of this depth and boards of this rule
abbrev pub Step : ℕ → Rule → View → Told → View → Type 0
Step depth rule v (handed x n) w = HandsIn v x n w
Step depth rule v (decided x ds n m) w = Decides depth v x ds n m w
Step depth rule v (cleared port reading p) w = Clears depth v port reading p w
Step depth rule v (brought from to) w = Brings v from to w
Step depth rule v (fetched port source) w = Fetches v port source w
Step depth rule v (released port d o) w = Releases rule v port d o w
Step depth rule v (refused c f) w = Refuses depth v c f w

-- the calls of h, from a freshly opened net on, can have led to v, whatever the wire let arrive
pub data Lived (depth : ℕ) (rule : Rule) : History → View → Type 0 where
  opened : {v : View} → Opened v → Lived depth rule [] v
  called : {h : History} {v w : View} {e : Told} → Lived depth rule h v → Step depth rule v e w → Lived depth rule (e ∷ h) w

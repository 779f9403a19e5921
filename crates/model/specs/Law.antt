-- The law of one order. Assumes nothing.
use Rattle.std.specs.Prelude.{◌≡◌, ℕ, ◌<◌, Bool, true, false, not, ◌&&◌, List, ◌++◌, map, length, Some, None, filter, Option}
use mathlib.Core.List.{Memᴰ}
use Rattle.ordered.specs.Orders.{Strict}
use Rattle.records.specs.Keys.{decided_before}
use Rattle.records.specs.declared.notice.Notice.{Notice}
use Rattle.records.specs.declared.notice.Decided.{Decided}
use Rattle.boards.specs.Rules.{Rule}
use Rattle.model.specs.Views.{View}
use Rattle.model.specs.Batches.{goes_to}
use Rattle.model.specs.Steps.{is_about}
use Rattle.model.specs.Histories.{History, common, book, last_released, is_from, handed_by, Lived}

abbrev pub In : {X : Type 0} → X → List X → Type 0
In x xs = Memᴰ x xs

-- the notice is not after the one released last; before the first release none is
abbrev pub up_to : Option Decided → Decided → Bool
up_to None x = false
up_to (Some last) x = not (decided_before last x)

abbrev pub about : ℕ → ℕ → Decided → Bool
about home berth x = is_about home berth x.notice

-- the decided notices of the list about a berth
abbrev pub about_berth : ℕ → ℕ → List Decided → List Decided
about_berth home berth xs = filter (about home berth) xs

-- what dispatcher d of port f says in the list
abbrev pub said_by : ℕ → ℕ → List Decided → List Notice
said_by f d xs = map (λ x. x.notice) (filter (λ x. is_from f d x.notice) xs)

-- every notice of the list about the berth is addressed to the port
abbrev pub AllTo : ℕ → ℕ → ℕ → List Decided → Type 0
AllTo p home berth xs = (x : Decided) → In x xs → about home berth x ≡ true → goes_to p x ≡ true

pub record OneOrder (h : History) (v : View) : Type 0 where
  -- no stamp is given twice, and the common list stands by rising stamp
  pub stamps : Strict decided_before (common h)
  -- each port's book is exactly the common list's notices addressed to that port, up to the last one released there
  pub books : (p : ℕ) → book p h ≡ filter (λ x. goes_to p x && up_to (last_released p h) x) (common h)
  -- a dispatcher's notices stand in the common list in the order in which he handed them in: a first part of those
  pub dispatchers : (f d : ℕ) → (later : List Notice) × (handed_by f d h ≡ said_by f d (common h) ++ later)
  -- two ports to which all about a berth is addressed, and whose books hold equally many of these, show the same list there
  pub boards : (p q home berth : ℕ) → p < v.table.ports → q < v.table.ports
      → AllTo p home berth (common h) → AllTo q home berth (common h)
      → length (about_berth home berth (book p h)) ≡ length (about_berth home berth (book q h))
      → v.shown p home berth ≡ v.shown q home berth

-- whatever the calls, the wire's depth and what it let arrive, and the board's rule
abbrev pub LawOfOneOrder : Type 0
LawOfOneOrder = (depth : ℕ) (rule : Rule) (h : History) (v : View) → Lived depth rule h v → OneOrder h v

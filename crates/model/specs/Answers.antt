-- That the rules leave each call exactly one answer. Assumes nothing.
use Rattle.std.specs.Prelude.{◌≡◌, ℕ}
use Rattle.boards.specs.Rules.{Rule}
use Rattle.model.specs.Views.{View}
use Rattle.model.specs.Calls.{Call, hand_in, decide, clear, bring, fetch, release}
use Rattle.model.specs.Histories.{Told, handed, decided, cleared, brought, fetched, released, refused, Step}

-- the call that an answer belongs to
abbrev pub call_of : Told → Call
call_of (handed x n) = hand_in x
call_of (decided x ds n m) = decide x
call_of (cleared port reading p) = clear port reading
call_of (brought from to) = bring from to
call_of (fetched port source) = fetch port source
call_of (released port d o) = release port
call_of (refused c f) = c

-- two nets that differ at most in how much of their lines has arrived
pub record Alike (v w : View) : Type 0 where
  pub table : v.table ≡ w.table
  pub ports : (p : ℕ) → v.port p ≡ w.port p
  pub lines : (f t : ℕ) → (v.line f t).held ≡ (w.line f t).held
  pub boards : (p home berth : ℕ) → v.shown p home berth ≡ w.shown p home berth

-- the call can be answered so, and in no other way
pub record OneAnswer (depth : ℕ) (rule : Rule) (v : View) (c : Call) : Type 0 where
  pub told : Told
  pub next : View
  pub call : call_of told ≡ c
  pub step : Step depth rule v told next
  pub only : (e : Told) (w : View) → call_of e ≡ c → Step depth rule v e w → (e ≡ told) × Alike w next

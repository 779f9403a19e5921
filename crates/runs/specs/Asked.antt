-- What an event asks of a net, and what the net's answer tells. Assumes nothing.
use Rattle.std.specs.Prelude.{◌≡◌, ℕ, Ok, Err, Result}
use Rattle.records.specs.declared.fault.NetFault.{NetFault}
use Rattle.boards.specs.Rules.{Rule}
use Rattle.events.specs.declared.event.Event.{Event}
use Rattle.events.specs.declared.event.Event.TheVariants.{HandIn, Decide, Clear, Bring, Fetch, Release}
use Rattle.answers.specs.declared.answer.Answer.{Answer}
use Rattle.answers.specs.declared.answer.Answer.TheVariants.{Count, Batch, Clearance, Done, Released}
use Rattle.model.specs.Answers.{call_of}
use Rattle.model.specs.Calls.{Call, hand_in, decide, clear, bring, fetch, release}
use Rattle.model.specs.Histories.{Told, handed, decided, cleared, brought, fetched, released, refused}
use Rattle.model.specs.Views.{View}
use Rattle.nets.specs.Handing.{hand_in_call}
use Rattle.nets.specs.Promises.{Kept, KeptAfter}

-- the call that an event is; a decide is given a working list of sixteen places
abbrev pub call_by : Event → Call
call_by (HandIn x) = hand_in (hand_in_call x)
call_by (Decide port number cuts) = decide (record { port = port; number = number; cuts = cuts; places = 16 })
call_by (Clear port reading) = clear port reading
call_by (Bring from to) = bring from to
call_by (Fetch port source) = fetch port source
call_by (Release port) = release port

-- what a call that is told of in a history was answered
abbrev pub answer_in : Told → Result Answer NetFault
answer_in (handed x count) = Ok (Count count)
answer_in (decided x ds notices copies) = Ok (Batch notices copies)
answer_in (cleared port reading pair) = Ok (Clearance pair)
answer_in (brought from to) = Ok Done
answer_in (fetched port source) = Ok Done
answer_in (released port notice outcome) = Ok (Released notice outcome)
answer_in (refused call fault) = Err fault

-- what the net promises of the event's call: what it does, and the law of one order after every history that led to the net,
-- lengthened by this call; of a fetch, both after such a history
abbrev pub Keeps : ℕ → Rule → View → Event → Told → View → Type 0
Keeps depth rule v (HandIn x) e w = Kept depth rule v e w
Keeps depth rule v (Decide port number cuts) e w = Kept depth rule v e w
Keeps depth rule v (Clear port reading) e w = Kept depth rule v e w
Keeps depth rule v (Bring from to) e w = Kept depth rule v e w
Keeps depth rule v (Fetch port source) e w = KeptAfter depth rule v e w
Keeps depth rule v (Release port) e w = Kept depth rule v e w

-- the event was run on the net v, with this answer, and led to w
pub record Ran (depth : ℕ) (rule : Rule) (v : View) (event : Event) (answer : Result Answer NetFault) (w : View) : Type 0 where
  pub told : Told
  pub asks : call_of told ≡ call_by event
  pub answers : answer_in told ≡ answer
  pub kept : Keeps depth rule v event told w

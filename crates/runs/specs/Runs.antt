-- What a run of a stream against a net comes to. Assumes nothing.
use Rattle.std.specs.Prelude.{◌≡◌, ℕ, ◌<◌, ◌≤◌, Bool, true, false, List, [], ◌∷◌, ◌++◌, map, reverse, length, Ok, Err, Result}
use Rattle.records.specs.declared.fault.NetFault.{NetFault}
use Rattle.records.specs.declared.reach.Reach.{Reach}
use Rattle.records.specs.Tables.{masks_of}
use Rattle.boards.specs.Rules.{Rule}
use Rattle.streams.specs.declared.part.Refusal.{Refusal}
use Rattle.streams.specs.declared.part.StreamFault.{StreamFault}
use Rattle.events.specs.Fields.{read_at, event, end}
use Rattle.events.specs.Streams.{FirstTable}
use Rattle.streams.specs.Streams.{FirstRefused, place_of, Stops}
use Rattle.answers.specs.declared.answer.Answer.{Answer}
use Rattle.answers.specs.declared.answer.Answered.{Answered}
use Rattle.model.specs.Answers.{call_of}
use Rattle.model.specs.Calls.{Call}
use Rattle.model.specs.Histories.{Told, History, Lived}
use Rattle.model.specs.Law.{OneOrder}
use Rattle.model.specs.Views.{View}
use Rattle.nets.specs.Views.{table_of}
use Rattle.runs.specs.Asked.{call_by, answer_in, Ran}

-- the fields of the stream from one place to another are the events of these answers, one after the other, and each answer
-- has the place of its field
pub data Reads (stream : List ℕ) : ℕ → List Answered → ℕ → Type 0 where
  none : (p : ℕ) → Reads stream p [] p
  more : (p q r : ℕ) (a : Answered) (others : List Answered) → a.place ≡ p → read_at stream p ≡ event a.event q → Reads stream q others r → Reads stream p (a ∷ others) r

-- a call and its answer, as a stream has them and as a history tells of them
abbrev pub asked : Answered → Call × Result Answer NetFault
asked a = (call_by a.event, a.answer)

abbrev pub told : Told → Call × Result Answer NetFault
told e = (call_of e, answer_in e)

-- the answers of a stream are those of the history, which has its newest first, call by call
abbrev pub Tells : List Answered → History → Type 0
Tells answers h = map asked answers ≡ map told (reverse h)

-- from a freshly opened net on, the fields from one place to another were run with these answers, and that led to this net
pub record Went (depth : ℕ) (rule : Rule) (stream : List ℕ) (from : ℕ) (answers : List Answered) (to : ℕ) (w : View) : Type 0 where
  pub reads : Reads stream from answers to
  pub history : History
  pub tells : Tells answers history
  pub lived : Lived depth rule history w

-- how a run ends at a place: the stream ends there, or its field is refused by the reader or found no memory for its answer
abbrev pub Ends : List ℕ → ℕ → Result (Unit {0}) StreamFault → Type 0
Ends stream place (Ok done) = read_at stream place ≡ end
Ends stream place (Err fault) = (place_of fault ≡ place) × Stops stream fault

-- the fields from a place on were run up to the place where the run ended, and the law of one order holds of that history, whole
pub record RanEvents (depth : ℕ) (rule : Rule) (stream : List ℕ) (from : ℕ) (answers : List Answered) (ending : Result (Unit {0}) StreamFault) (w : View) : Type 0 where
  pub last : ℕ
  pub went : Went depth rule stream from answers last w
  pub ends : Ends stream last ending
  pub law : OneOrder went.history w

-- the stream was run: its first field made the table of the net, and the fields behind it were run from the freshly opened net on
pub record RanStream (depth : ℕ) (rule : Rule) (stream : List ℕ) (answers : List Answered) (ending : Result (Unit {0}) StreamFault) (w : View) : Type 0 where
  pub table : Reach
  pub behind : ℕ
  pub first : FirstTable stream (masks_of table) behind
  pub on_it : w.table ≡ table_of table
  pub events : RanEvents depth rule stream behind answers ending w

-- no net was opened, since the first field is refused
abbrev pub FirstStops : List ℕ → Refusal → Type 0
FirstStops stream r = (r.place ≡ 0) × FirstRefused stream r.part

-- ---- one field

-- the field at p was run: one answer more, and the next field stands at q
pub record Turned (depth : ℕ) (rule : Rule) (stream : List ℕ) (p : ℕ) (old : List Answered) (v : View) (q : ℕ) (new : List Answered) (w : View) : Type 0 where
  pub answered : Answered
  pub place : answered.place ≡ p
  pub reads : read_at stream p ≡ event answered.event q
  pub onward : p < q
  pub within : q ≤ length stream
  pub appended : new ≡ old ++ (answered ∷ [])
  pub ran : Ran depth rule v answered.event answered.answer w

-- whether a field was run, or why not; then nothing changed but, where memory was wanting, the reader's place
abbrev pub TurnAnswers : ℕ → Rule → List ℕ → ℕ → List Answered → View → ℕ → List Answered → View → Result Bool StreamFault → Type 0
TurnAnswers depth rule stream p old v q new w (Ok true) = Turned depth rule stream p old v q new w
TurnAnswers depth rule stream p old v q new w (Ok false) = Ends stream p (Ok tt) × (new ≡ old) × (w ≡ v)
TurnAnswers depth rule stream p old v q new w (Err fault) = Ends stream p (Err fault) × (new ≡ old) × (w ≡ v)

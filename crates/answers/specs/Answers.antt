-- What is printed of an answer and of a net's refusal. Assumes nothing.
use Rattle.std.specs.Prelude.{ℕ, List, [], ◌∷◌, ◌++◌, Ok, Err, decimal, Result}
use Rattle.records.specs.declared.fault.NetFault.{NetFault}
use Rattle.records.specs.declared.fault.NetFault.TheVariants.{NoSuchPort, OutOfReach, NoSuchDispatcher, WrongContent, WrongDestinations, CountUsedUp, UndecidedFull, WorkingListShort, WrongNumber, WrongCut, StepUsedUp, OwnWaitingFull, LineFull, NothingArrived, SourceWaitingFull, NothingWaits, Held}
use Rattle.records.specs.declared.notice.Decided.{Decided}
use Rattle.records.specs.declared.stamp.Pair.{Pair}
use Rattle.records.specs.declared.stamp.Stamp.{Stamp}
use Rattle.records.specs.Numbers.{net_number}
use Rattle.boards.specs.declared.outcome.Outcome.{Outcome}
use Rattle.boards.specs.Rules.{outcome_number}
use Rattle.answers.specs.declared.answer.Answer.{Answer}
use Rattle.answers.specs.declared.answer.Answer.TheVariants.{Count, Batch, Clearance, Done, Released}

-- the marks that stand before a number, as the codes of these characters
abbrev pub space : ℕ
space = 32

abbrev pub dot : ℕ
dot = 46

abbrev pub slash : ℕ
slash = 47

-- a number behind its mark
abbrev pub item : ℕ → ℕ → List ℕ
item mark n = mark ∷ decimal n

-- clock and step: 100.2
abbrev pub pair_text : Pair → List ℕ
pair_text p = item space p.clock ++ item dot p.step

-- clock, step and port: 100.2.0
abbrev pub stamp_text : Stamp → List ℕ
stamp_text s = pair_text s.pair ++ item dot s.port

-- stamp, home and berth, vessel, outcome: 100.0.0 0/4 7 1
abbrev pub released_text : Decided → Outcome → List ℕ
released_text d o = stamp_text d.stamp ++ (item space d.notice.home ++ (item slash d.notice.berth ++ (item space d.notice.vessel ++ item space (outcome_number o))))

-- the details of an answer, each behind its mark
abbrev pub answer_text : Answer → List ℕ
answer_text (Count n) = item space n
answer_text (Batch n k) = item space n ++ item space k
answer_text (Clearance p) = pair_text p
answer_text Done = []
answer_text (Released d o) = released_text d o

-- who holds the notice; only that refusal has details
abbrev pub holders_text : NetFault → List ℕ
holders_text NoSuchPort = []
holders_text OutOfReach = []
holders_text NoSuchDispatcher = []
holders_text WrongContent = []
holders_text WrongDestinations = []
holders_text CountUsedUp = []
holders_text UndecidedFull = []
holders_text WorkingListShort = []
holders_text WrongNumber = []
holders_text WrongCut = []
holders_text StepUsedUp = []
holders_text OwnWaitingFull = []
holders_text LineFull = []
holders_text NothingArrived = []
holders_text SourceWaitingFull = []
holders_text NothingWaits = []
holders_text (Held m) = item space m.bits

-- 0 and the details of the answer, or the refusal's number and its details
abbrev pub result_text : Result Answer NetFault → List ℕ
result_text (Ok a) = item space 0 ++ answer_text a
result_text (Err f) = item space (net_number f) ++ holders_text f

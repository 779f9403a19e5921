-- The number of each refusal, by the part that refuses. Assumes nothing.
use Rattle.std.specs.Prelude.{ℕ}
use Rattle.records.specs.declared.fault.TableFault.{TableFault}
use Rattle.records.specs.declared.fault.TableFault.TheVariants.{WrongCount, WrongMask}
use Rattle.records.specs.declared.fault.NetFault.{NetFault}
use Rattle.records.specs.declared.fault.NetFault.TheVariants.{NoSuchPort, OutOfReach, NoSuchDispatcher, WrongContent, WrongDestinations, CountUsedUp, UndecidedFull, WorkingListShort, WrongNumber, WrongCut, StepUsedUp, OwnWaitingFull, LineFull, NothingArrived, SourceWaitingFull, NothingWaits, Held}
use Rattle.records.specs.declared.fault.ReaderFault.{ReaderFault}
use Rattle.records.specs.declared.fault.ReaderFault.TheVariants.{StreamTooLong, LooseBytes, UnknownTag, MisplacedTag, WrongLength, MissingBytes}
use Rattle.records.specs.declared.fault.OutputFault.{OutputFault}
use Rattle.records.specs.declared.fault.OutputFault.TheVariants as output

abbrev pub table_number : TableFault → ℕ
table_number WrongCount = 1
table_number WrongMask = 2

abbrev pub net_number : NetFault → ℕ
net_number NoSuchPort = 3
net_number OutOfReach = 4
net_number NoSuchDispatcher = 5
net_number WrongContent = 6
net_number WrongDestinations = 7
net_number CountUsedUp = 8
net_number UndecidedFull = 9
net_number WorkingListShort = 10
net_number WrongNumber = 11
net_number WrongCut = 12
net_number StepUsedUp = 13
net_number OwnWaitingFull = 14
net_number LineFull = 15
net_number NothingArrived = 16
net_number SourceWaitingFull = 17
net_number NothingWaits = 18
net_number (Held m) = 19

abbrev pub reader_number : ReaderFault → ℕ
reader_number StreamTooLong = 20
reader_number LooseBytes = 21
reader_number UnknownTag = 22
reader_number MisplacedTag = 23
reader_number WrongLength = 24
reader_number MissingBytes = 25

abbrev pub output_number : OutputFault → ℕ
output_number output.StreamTooLong = 20
output_number output.MemoryTooShort = 26

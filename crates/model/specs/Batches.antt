-- What a decide takes and what it sends. Assumes nothing.
use Rattle.std.specs.Prelude.{ℕ, ◌-◌, ◌^◌, Bool, cond, not, ◌&&◌, List, [], map, length, sum_by, filter, ◌==◌, count_ones, nat_eq, nat_le, slice_index}
use Rattle.records.specs.Masks.{named}
use Rattle.records.specs.declared.notice.Handed.{Handed}
use Rattle.records.specs.declared.notice.Decided.{Decided}
use Rattle.records.specs.declared.notice.Record.TheVariants.{Notice as Carries}
use Rattle.wires.specs.Lines.{is_line}
use Rattle.wires.specs.Growths.{Extra}

-- the notice's count is at most its dispatcher's cut
abbrev pub within : List ℕ → Handed → Bool
within cuts n = nat_le n.notice.count (slice_index cuts n.notice.dispatcher)

-- of the undecided notices, which are kept by clock, dispatcher, count: those of the batch, and those that stay
abbrev pub batch : List ℕ → List Handed → List Handed
batch cuts ns = filter (within cuts) ns

abbrev pub left : List ℕ → List Handed → List Handed
left cuts ns = filter (λ n. not (within cuts n)) ns

-- a decided notice is addressed to the port
abbrev pub goes_to : ℕ → Decided → Bool
goes_to p d = named d.notice.to.bits p

abbrev pub sent_to : ℕ → List Decided → List Decided
sent_to p ds = filter (goes_to p) ds

-- the copies that the line from f to q gets when the port decides ds: one of each that is addressed to q
abbrev pub copies_on : ℕ → List Decided → Extra
copies_on port ds f q = cond (f == port && is_line f q) (map Carries (sent_to q ds)) []

-- the mask without the port's own bit
abbrev pub without : ℕ → ℕ → ℕ
without port bits = cond (named bits port) (bits - 2 ^ port) bits

-- how many copies there are: the ones of each destination mask without the own bit
abbrev pub copies_of : ℕ → List Decided → ℕ
copies_of port ds = sum_by (λ d. count_ones (without port d.notice.to.bits)) ds

-- how many of the notices come from the source
abbrev pub count_from : ℕ → List Decided → ℕ
count_from source ds = length (filter (λ d. nat_eq d.stamp.port source) ds)

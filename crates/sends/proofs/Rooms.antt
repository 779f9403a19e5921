-- Room on the lines from a port, port by port, and what `send` tells of it. Assumes nothing.
use Rattle.std.proofs.Common.{◌≡◌, ℕ, zero, suc, ◌-◌, ◌<◌, ◌≤◌, Bool, true, false, cond, leb, length, Ok, Err, Result, MatchBool, sym, refl, ⊎_elim, arith}
use Rattle.std.proofs.lemmas.Bool.{both_ways, cases_Bool, cases_lt, and_from, le-leb, lt-leb, leb-true, cond-true, cond-false}
use Rattle.std.proofs.lemmas.Bool.Decides.{nat_tests}
use Rattle.records.specs.declared.fault.NetFault.{NetFault}
use Rattle.records.specs.Masks.{named}
use Rattle.records.specs.declared.notice.Record.{Record}
use Rattle.records.proofs.MaskLaws.{none_above}
use Rattle.wires.specs.Lines.{Lines, depth_of}
use Rattle.wires.specs.Growths.{Extra, to_each, Space, NoSpace, SendAnswers}
use Rattle.model.specs.Lists.{every}
use Rattle.model.specs.Refusals.{room}
use Rattle.model.proofs.Passing.{every_at}
use Rattle.sends.specs.Sendings.{AllOrNone}

-- ---- a test of the first numbers

pub every_from : (n : ℕ) (t : ℕ → Bool) → ((k : ℕ) → k < n → t k ≡ true) → every n t ≡ true
every_from zero t h = refl
every_from (suc n) t h = and_from (every n t) (t n) (every_from n t (λ k lt. h k (omega arith))) (h n (omega arith))

pub every_not : (n : ℕ) (t : ℕ → Bool) (k : ℕ) → k < n → t k ≡ false → every n t ≡ false
every_not n t k lt off =
    ⊎_elim
    (λ (e : every n t ≡ true). absurd (both_ways (t k) off (every_at n t e k lt)))
    (λ (e : every n t ≡ false). e)
    (cases_Bool (every n t))

-- what a look at each of them answers
pub every_is : (n : ℕ) (t : ℕ → Bool) (r : Bool) → MatchBool r ((k : ℕ) → k < n → t k ≡ true) ((k : ℕ) × (k < n) × (t k ≡ false)) → r ≡ every n t
every_is n t true h = sym (every_from n t h)
every_is n t false (k, lt, off) = sym (every_not n t k lt off)

-- ---- room

module _ (depth : ℕ) (lines : Lines) (port : ℕ) (extra : Extra) where
  -- the line to q has as many free places as it is to get records
  abbrev pub fits_on : ℕ → Bool
  fits_on q = leb (length (extra port q)) (depth_of depth port q - length (lines port q).held)

  pub room_at : room depth lines port extra ≡ true → (q : ℕ) → q < 8 → length (extra port q) ≤ depth_of depth port q - length (lines port q).held
  room_at r q lt = leb-true _ _ (every_at 8 fits_on r q lt)

  pub room_from : ((q : ℕ) → q < 8 → length (extra port q) ≤ depth_of depth port q - length (lines port q).held) → room depth lines port extra ≡ true
  room_from h = every_from 8 fits_on (λ q lt. le-leb _ _ (h q lt))

  pub room_not : (q : ℕ) → q < 8 → depth_of depth port q - length (lines port q).held < length (extra port q) → room depth lines port extra ≡ false
  room_not q lt h = every_not 8 fits_on q lt (lt-leb _ _ h)

-- ---- what `send` tells: one record on the line from a to each port of a mask

module _ (depth : ℕ) (lines : Lines) (a mask : ℕ) (x : Record) where
  count_each : (q : ℕ) → length (to_each a mask x a q) ≡ cond (named mask q) 1 0
  count_each q = grind (arith, nat_tests)

  -- all of these lines have space
  pub space_room : Space depth lines a mask → room depth lines a (to_each a mask x) ≡ true
  space_room s = room_from depth lines a (to_each a mask x) (λ q lt.
      ⊎_elim
      (λ (on : named mask q ≡ true). omega (arith, s q on, count_each q, cond-true {A = ℕ} (named mask q) 1 0 on))
      (λ (off : named mask q ≡ false). omega (arith, count_each q, cond-false {A = ℕ} (named mask q) 1 0 off))
      (cases_Bool (named mask q)))

  -- one of them is full
  pub no_space_room : mask < 256 → NoSpace depth lines a mask → room depth lines a (to_each a mask x) ≡ false
  no_space_room byte n =
      let q = n.0 in
      ⊎_elim
      (λ (lt : q < 8). room_not depth lines a (to_each a mask x) q lt (omega (arith, n.2, count_each q, cond-true {A = ℕ} (named mask q) 1 0 n.1)))
      (λ (ge : 8 ≤ q). absurd (both_ways (named mask q) (none_above mask q byte ge) n.1))
      (cases_lt q 8)

-- the answer of `send`, said by room
pub send_by_room : {U W : Type 0} (line : W → Lines) (depth : ℕ) (old new : W) (a mask : ℕ) (x : Record) (r : Result U NetFault) → mask < 256 → SendAnswers line depth old new a mask x r → AllOrNone line depth old new a (to_each a mask x) r
send_by_room line depth old new a mask x (Ok u) byte s = record { fits = space_room depth (line old) a mask x s.space; lines = s.lines }
send_by_room line depth old new a mask x (Err f) byte s = (s.0, record { full = no_space_room depth (line old) a mask x byte s.1.full; same = s.1.same })

-- Own notices that join what waits, one after the other. Assumes nothing.
use Rattle.std.proofs.Common.{◌≡◌, ℕ, zero, suc, ◌+◌, ◌<◌, ◌≤◌, Bool, true, false, eqb, ltb, leb, List, [], ◌∷◌, length, get_or, drop, Some, Ok, Err, Option, Result, sym, refl, ap, ◌∙◌, subst, arith}
use Rattle.std.proofs.lemmas.List.{drop_all}
use Rattle.std.proofs.lemmas.Bool.{and_parts, and_from, both_ways, cond-true, eq-eqb, eqb-true, or_from, le-ltb, lt-leb}
use Rattle.ordered.specs.Orders.{all_pass, placed}
use Rattle.ordered.proofs.Rises.{all_placed}
use Rattle.records.specs.Keys.{decided_before}
use Rattle.records.specs.declared.fault.NetFault.{NetFault}
use Rattle.records.specs.declared.notice.Decided.{Decided}
use Rattle.records.specs.declared.notice.Handed.{Handed}
use Rattle.records.specs.declared.stamp.Pair.{Pair}
use Rattle.batches.proofs.Walks.{kept_here, kept_not}
use Rattle.model.specs.Batches.{goes_to, sent_to, count_from}
use Rattle.model.specs.Lists.{placed_all}
use Rattle.model.specs.Stamping.{next_pair, stamped}
use Rattle.ports.specs.declared.waiting.Waiting.{Waiting}
use Rattle.ports.specs.Held.{waiting_of, crowded, Joins}
use Rattle.ports.proofs.Crowds.{count_placed}
use Rattle.ports.proofs.Leaving.{kept_pass}

abbrev pub stamped_here : ℕ → Decided → Bool
stamped_here port d = eqb d.stamp.port port

all_stamped : (port : ℕ) (floor : Option Pair) (ns : List Handed) → all_pass (stamped_here port) (stamped port floor ns) ≡ true
all_stamped port floor [] = refl
all_stamped port floor (n ∷ ns) = and_from (eqb port port) (all_pass (stamped_here port) (stamped port (Some (next_pair floor n.clock)) ns)) (eq-eqb port port refl) (all_stamped port (Some (next_pair floor n.clock)) ns)

-- the notices of a batch: all are stamped by the port, and there is room for its own
module _ (port : ℕ) (ds bs es : List Decided) (is : ds ≡ bs) (planned : bs ≡ es) where
  pub batch_stamped : (floor : Option Pair) (ns : List Handed) → es ≡ stamped port floor ns → all_pass (stamped_here port) ds ≡ true
  batch_stamped floor ns e = ap (all_pass (stamped_here port)) (is ∙ planned ∙ e) ∙ all_stamped port floor ns

  pub batch_room : (n : ℕ) → n + length (sent_to port es) ≤ 8 → n + length (sent_to port ds) ≤ 8
  batch_room n h = omega (arith, h, ap (λ xs. length (sent_to port xs)) (is ∙ planned))

all_placed_all : {X : Type 0} (before : X → X → Bool) (test : X → Bool) (ys xs : List X) → all_pass test xs ≡ true → all_pass test ys ≡ true → all_pass test (placed_all before ys xs) ≡ true
all_placed_all before test [] xs h k = h
all_placed_all before test (y ∷ ys) xs h k =
    let both = and_parts (test y) (all_pass test ys) k in
    all_placed_all before test ys (placed before y xs) (all_placed before y test xs h both.0) both.1

-- all that waits is addressed to the port still
pub addressed_all : (port : ℕ) (ds old new : List Decided) → new ≡ placed_all decided_before (sent_to port ds) old → all_pass (goes_to port) old ≡ true → all_pass (goes_to port) new ≡ true
addressed_all port ds old new e h = ap (all_pass (goes_to port)) e ∙ all_placed_all decided_before (goes_to port) (sent_to port ds) old h (kept_pass (goes_to port) ds)

all_at : {X : Type 0} (test : X → Bool) (xs : List X) (i : ℕ) (d : X) → all_pass test xs ≡ true → i < length xs → test (get_or xs i d) ≡ true
all_at test [] i d h lt = absurd (omega arith)
all_at test (x ∷ xs) zero d h lt = (and_parts (test x) (all_pass test xs) h).0
all_at test (x ∷ xs) (suc i) d h lt = all_at test xs i d (and_parts (test x) (all_pass test xs) h).1 (omega arith)

-- from place i on the notices for the port have yet to join what waits, and there is room for them
pub record Joining (port : ℕ) (ds all : List Decided) (i : ℕ) (waiting : List Decided) : Type 0 where
  pub left : placed_all decided_before (sent_to port (drop i ds)) waiting ≡ all
  pub room : count_from port waiting + length (sent_to port (drop i ds)) ≤ 8

module _ (port : ℕ) (ds all : List Decided) (i : ℕ) (d : Decided) (old new : Waiting) (inv : Joining port ds all i (waiting_of old)) (lt : i < length ds) where
  -- this one is not for the port
  pub joining_other : goes_to port (get_or ds i d) ≡ false → Joining port ds all (i + 1) (waiting_of old)
  joining_other e =
      let rest = kept_not ds i lt (goes_to port) d e in
      record { left = ap (λ ys. placed_all decided_before ys (waiting_of old)) (sym rest) ∙ inv.left; room = omega (arith, inv.room, ap length rest) }

  module _ (low : port < 8) (own : all_pass (stamped_here port) ds ≡ true) (here : goes_to port (get_or ds i d) ≡ true) where
    from : (get_or ds i d).stamp.port ≡ port
    from = eqb-true _ _ (all_at (stamped_here port) ds i d own lt)

    next : sent_to port (drop i ds) ≡ get_or ds i d ∷ sent_to port (drop (i + 1) ds)
    next = kept_here ds i lt (goes_to port) d here

    free : crowded (get_or ds i d).stamp.port (waiting_of old) ≡ false
    free = subst (λ p. crowded p (waiting_of old) ≡ false) (sym from) (or_from (ltb 7 port) (leb 8 (count_from port (waiting_of old))) (le-ltb 7 port (omega arith)) (lt-leb 8 (count_from port (waiting_of old)) (omega (arith, inv.room, ap length next))))

    -- this one is, and finds its place
    pub joining_more : {U : Type 0} (r : Result U NetFault) → Joins old new (get_or ds i d) r → Joining port ds all (i + 1) (waiting_of new)
    joining_more (Err f) e = absurd (both_ways _ free e.1)
    joining_more (Ok u) e =
        let one = cond-true {A = ℕ} (eqb (get_or ds i d).stamp.port port) 1 0 (eq-eqb _ _ from) in
        record {
          left = ap (placed_all decided_before (sent_to port (drop (i + 1) ds))) e.1 ∙ ap (λ ys. placed_all decided_before ys (waiting_of old)) (sym next) ∙ inv.left;
          room = omega (arith, inv.room, ap length next, ap (count_from port) e.1, count_placed decided_before port (get_or ds i d) (waiting_of old), one);
        }

pub joining_all : (port : ℕ) (ds all : List Decided) (i : ℕ) (waiting : List Decided) → length ds ≤ i → Joining port ds all i waiting → waiting ≡ all
joining_all port ds all i waiting le inv = ap (λ ys. placed_all decided_before (sent_to port ys) waiting) (sym (drop_all i ds le)) ∙ inv.left

use Rattle.std.proofs.Common.{ℕ, ◌<◌, length, arith}
use Rattle.ordered.specs.Sorted.{entries_of}
use Rattle.ordered.proofs.Sorts.{insert_ok, inserted}
use Rattle.ports.specs.Held.{waiting_of}
use Rattle.ports.specs.declared.waiting.Waiting.{Waiting}
use Rattle.model.specs.Batches.{count_from}
use Rattle.ports.proofs.Crowds.{crowd, known_joined, crowds_joined}
use Rattle.ports.proofs.waiting.Waiting.add.Goals as goal

-- fewer than eight of one port wait, so there is room
room : (w : Waiting) (p : ℕ) → p < 8 → count_from p (waiting_of w) < 8 → length (entries_of w.notices) < 64
room w p low few = omega (arith, crowd (waiting_of w) w.known w.crowds p 1 low (omega arith))

pub unwrap-requires : goal.unwrap-requires
unwrap-requires c =
    let w = c.args.self.now in
    let x = c.args.notice in
    insert_ok x w.notices _ c.insert.result (room w x.stamp.port (omega arith) (omega arith)) c.insert.ensures

pub invariant_of-self : goal.invariant_of-self
invariant_of-self c =
    let w = c.args.self.now in
    let x = c.args.notice in
    let low : x.stamp.port < 8 = omega arith in
    let few : count_from x.stamp.port (waiting_of w) < 8 = omega arith in
    let put = inserted x w.notices c.insert.new.self c.insert.result (room w x.stamp.port low few) c.insert.ensures in
    record { known = known_joined x _ _ put w.known low; crowds = crowds_joined x _ _ put w.crowds few }

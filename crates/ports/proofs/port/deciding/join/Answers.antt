use Rattle.std.proofs.Common.{◌+◌, sym, refl, ◌∙◌, subst}
use Rattle.batches.proofs.Walks.{no_decided}
use Rattle.model.specs.Batches.{sent_to}
use Rattle.model.specs.Lists.{placed_all}
use Rattle.records.specs.Keys.{decided_before}
use Rattle.ports.specs.declared.waiting.Waiting.{Waiting}
use Rattle.ports.specs.Held.{waiting_of}
use Rattle.ports.proofs.Joining.{Joining, joining_more, joining_other, joining_all}
use Rattle.ports.proofs.port.deciding.join.Goals as goal

pub loop-d-init : goal.loop-d-init
loop-d-init c = record { left = refl; room = c.requires.room }

pub loop-d-preserved : goal.loop-d-preserved
loop-d-preserved c =
    let ds = c.args.notices.now in
    let port = c.args.port in
    let l = c.loop-d in
    let all = placed_all decided_before (sent_to port ds) (waiting_of c.args.waiting.now) in
    let then = λ (v : Waiting). Joining port ds all (l.d-index + 1) (waiting_of v) in
    let lt = c.loop-d-test.true in
    elim c.if-names.branch [
      | goal.then-names w ↦ subst then (sym w.waiting-is) (joining_more port ds all l.d-index no_decided l.waiting w.add.new.self l.invariant lt c.requires.port c.requires.stamped (sym c.names.ensures ∙ w.if-names.true) w.add.result w.add.ensures)
      | goal.else-names w ↦ subst then (sym w.waiting-is) (joining_other port ds all l.d-index no_decided l.waiting l.waiting l.invariant lt (sym c.names.ensures ∙ w.if-names.false))
    ]

pub returns : goal.returns
returns c = joining_all c.args.port c.args.notices.now _ c.loop-d.d-index (waiting_of c.loop-d.waiting) c.loop-d-test.false c.loop-d.invariant

use Rattle.std.proofs.Common.{◌≡◌, ◌<◌, true, false, length, get_or, take, sym, ap, ◌∙◌, arith}
use Rattle.std.proofs.lemmas.Fn.{says_at}
use Rattle.ordered.proofs.Retains.{goes, stays, all_rises, all_kept}
use Rattle.ordered.proofs.sorted.Sorted.retain.Goals as goal
use Rattle.ordered.proofs.sorted.Sorted.retain.Goals.{then-test, else-test}

pub loop-e-preserved : goal.loop-e-preserved
loop-e-preserved g c =
    let e = c.e-item.result in
    let all = c.as_slice-e-items.ensures.value in
    let lt : c.loop-e.e-index < length (take c.args.self.now.len c.args.self.now.places) = omega (arith, ap length all, c.loop-e-test.true) in
    let is : e ≡ get_or (take c.args.self.now.len c.args.self.now.places) c.loop-e.e-index e = c.e-item.is ∙ ap (λ xs. get_or xs c.loop-e.e-index e) all in
    elim c.if-test.branch [
      | then-test w ↦ rw (w.places-is, w.len-is) (stays c.loop-e.invariant e e lt is (λ p computes. sym (computes e true (says_at g.F.Fn c.test.ensures w.if-test.true))))
      | else-test w ↦ rw (w.places-is, w.len-is) (goes c.loop-e.invariant e e lt is (λ p computes. sym (computes e false (says_at g.F.Fn c.test.ensures w.if-test.false))))
    ]

pub invariant_of-self : goal.invariant_of-self
invariant_of-self g c =
    let inv = c.loop-e.invariant in
    record { within = omega (arith, inv.few, inv.same, inv.room); rises = all_rises inv (omega (arith, ap length c.as_slice-e-items.ensures.value)) }

pub returns : goal.returns
returns g c = all_kept c.loop-e.invariant (omega (arith, ap length c.as_slice-e-items.ensures.value))

use Rattle.std.proofs.Common.{◌≡◌, ◌+◌, true, length, sym, ap, subst, arith}
use Rattle.records.specs.Masks.{named}
use Rattle.wires.specs.Growths.{Grown, to_each}
use Rattle.wires.proofs.LineLaws.{put_since_space}
use Rattle.wires.proofs.Growths.{below, below_skip, below_put, below_same}
use Rattle.wires.proofs.sending.put_on_each.Goals as goal
use Rattle.wires.proofs.sending.put_on_each.Goals.{then-names, else-names}

pub loop-end-preserved : goal.loop-end-preserved
loop-end-preserved g c =
    let m = g.W.Wire in
    let old = m.line c.args.wire.now in
    let mid = m.line c.loop-end.wire in
    let a = c.args.from in
    let mask = c.args.to.bits in
    let x = c.args.record in
    let n = c.loop-end.end in
    let inv = c.loop-end.invariant in
    elim c.if-names.branch [
      | then-names w ↦
          let on : named mask n ≡ true = sym {b = named mask n} w.if-names.ensures in
          let e = ap (λ l. length l.held) (below_same a mask x old mid n inv) in
          let t = put_since_space m.depth mid (m.line w.put.new.self) a n x w.put.result w.put.ensures (omega (arith, e, c.requires n on)) in
          subst (λ v. Grown old (m.line v) (below (n + 1) (to_each a mask x))) (sym w.wire-is) (below_put a mask x old mid n inv m.depth (m.line w.put.new.self) on t)
      | else-names w ↦ subst (λ v. Grown old (m.line v) (below (n + 1) (to_each a mask x))) (sym w.wire-is) (below_skip a mask x old mid n inv (sym {b = named mask n} w.if-names.ensures))
    ]

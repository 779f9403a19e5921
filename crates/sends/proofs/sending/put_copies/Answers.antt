use Rattle.std.proofs.Common.{◌≡◌, ◌+◌, true, sym, subst, arith}
use Rattle.records.specs.declared.notice.Record.TheVariants.{Notice as Carries}
use Rattle.wires.specs.Growths.{Grown}
use Rattle.wires.proofs.Growths.{below}
use Rattle.wires.proofs.LineLaws.{ok_since_space, put_since_space}
use Rattle.sends.proofs.Copies.{copies, gets, first_all, first_skip, first_put, first_space}
use Rattle.sends.proofs.sending.put_copies.Goals as goal
use Rattle.sends.proofs.sending.put_copies.Goals.{then-is_copied, else-is_copied}

pub unwrap-requires : goal.unwrap-requires
unwrap-requires g c =
    let m = g.W.Wire in
    let mid = m.line c.loop-to.wire in
    let a = c.args.port in
    let d = c.args.notice in
    let n = c.loop-to.to in
    let on : gets a d n ≡ true = sym {b = gets a d n} c.if-is_copied.ensures in
    ok_since_space m.depth mid (m.line c.put.new.self) a n (Carries d) c.put.result c.put.ensures (first_space a d (m.line c.args.wire.now) mid n c.loop-to.invariant m.depth c.requires on (omega (arith, c.loop-to-test.true)))

pub loop-to-preserved : goal.loop-to-preserved
loop-to-preserved g c =
    let m = g.W.Wire in
    let old = m.line c.args.wire.now in
    let mid = m.line c.loop-to.wire in
    let a = c.args.port in
    let d = c.args.notice in
    let n = c.loop-to.to in
    let inv = c.loop-to.invariant in
    elim c.if-is_copied.branch [
      | then-is_copied w ↦
          let new = m.line w.put.new.self in
          let on : gets a d n ≡ true = sym {b = gets a d n} w.if-is_copied.ensures in
          let t = put_since_space m.depth mid new a n (Carries d) w.put.result w.put.ensures (first_space a d old mid n inv m.depth c.requires on (omega (arith, c.loop-to-test.true))) in
          subst (λ v. Grown old (m.line v) (below (n + 1) (copies a d))) (sym w.wire-is) (first_put a d old mid n inv m.depth new on t)
      | else-is_copied w ↦ subst (λ v. Grown old (m.line v) (below (n + 1) (copies a d))) (sym w.wire-is) (first_skip a d old mid n inv (sym {b = gets a d n} w.if-is_copied.ensures))
    ]

pub returns : goal.returns
returns g c =
    let m = g.W.Wire in
    let old = m.line c.args.wire.now in
    let new = m.line c.loop-to.wire in
    let a = c.args.port in
    let d = c.args.notice in
    let eight : c.loop-to.to ≡ 8 = omega arith in
    first_all a d old new (subst (λ n. Grown old new (below n (copies a d))) eight c.loop-to.invariant)

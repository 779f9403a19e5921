use Rattle.std.proofs.Common.{vec_items, sym, subst, arith, rules}
use Rattle.records.specs.declared.reach.Reach.{Reach}
use Rattle.events.specs.Streams.{FirstTable, SaysRest, ReadWhole}
use Rattle.records.specs.Tables.{masks_of}
use Rattle.events.proofs.StreamLaws.{read_whole, accepted_from}
use Rattle.streams.proofs.stream.read_stream.Goals as goal

pub returns : goal.returns
returns c =
    let s = c.args.stream.now in
    let o = c.in_ok-opened.opened in
    let masks = masks_of o.table in
    let es = vec_items c.in_ok-events.events in
    let first : FirstTable s masks o.behind = search rules in
    let rest = subst (λ x. SaysRest x o.behind es) c.events.ensures.stream (subst (λ k. SaysRest c.events.result.stream.now k es) c.events.ensures.place c.in_ok-events.ensures) in
    subst (λ (t : Reach). ReadWhole s (masks_of t) es) (sym c.table.ensures) (read_whole s masks es (λ i. omega (arith, c.type_inv.stream i)) (accepted_from s masks es o.behind first rest))

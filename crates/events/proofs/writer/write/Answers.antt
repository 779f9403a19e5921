use Rattle.std.proofs.Common.{◌≡◌, ◌+◌, ◌++◌, length, get_or, take, drop, sym, ap, ◌∙◌, subst, arith}
use Rattle.std.proofs.ByRecursion.{All-push}
use Rattle.std.proofs.lemmas.List.{take_all, take_more}
use Rattle.std.specs.List.{AllByRecursion}
use Rattle.records.proofs.ReachLaws.{sound_bytes}
use Rattle.records.specs.Tables.{masks_of}
use Rattle.events.specs.Writing.{event_bytes, stream_of, Fit}
use Rattle.events.proofs.Puts.{no_event, stream_more, stream_length_more, stream_part, stream_all, next_put}
use Rattle.events.proofs.StreamLaws.{written_accepted}
use Rattle.events.proofs.writer.write.Goals as goal

pub put-at-requires-in-loop-event : goal.put-at-requires-in-loop-event
put-at-requires-in-loop-event c =
    let masks = masks_of c.args.table.now in
    let es = c.args.events.now in
    let i = c.loop-event.event-index in
    let more = stream_length_more masks es i c.loop-event-test.true in
    let part = stream_part masks es (i + 1) in
    let all = rw c.in_ok-len.ensures.ok_part at c.stream_len.ensures in
    omega (arith, all.0, ap length (c.deref-in-loop-event.ensures.0 ∙ c.encode.ensures.bytes))

pub loop-event-preserved : goal.loop-event-preserved
loop-event-preserved c =
    let masks = masks_of c.args.table.now in
    let es = c.args.events.now in
    let i = c.loop-event.event-index in
    let lt = c.loop-event-test.true in
    let e = get_or es i no_event in
    let at = c.loop-event.at in
    let out = c.loop-event.out in
    let r = c.put-at-in-loop-event.result in
    let bytes = c.deref-in-loop-event.ensures.0 ∙ c.encode.ensures.bytes in
    let end : r ≡ at + length (event_bytes e) = c.put-at-in-loop-event.ensures.end ∙ ap (λ f. at + length f) bytes in
    let after = c.put-at-in-loop-event.ensures.after ∙ ap (λ f. take at out ++ (f ++ drop r out)) bytes in (
      end ∙ ap (λ k. k + length (event_bytes e)) c.loop-event.invariant.0 ∙ sym (stream_length_more masks es i lt),
      next_put c.args.out.now (stream_of masks (take i es)) (event_bytes e) out c.put-at-in-loop-event.new.out at r c.loop-event.invariant.0 c.loop-event.invariant.1 end after ∙ ap (λ w. w ++ drop r c.args.out.now) (sym (stream_more masks es i lt)),
      subst (AllByRecursion Fit) (sym (take_more es i no_event lt)) (All-push Fit (take i es) e c.loop-event.invariant.2 c.encode.ensures.fit),
    )

pub returns-clause-wrote : goal.returns-clause-wrote
returns-clause-wrote c =
    let t = c.args.table.now in
    let masks = masks_of t in
    let es = c.args.events.now in
    let all = stream_all masks es c.loop-event.event-index c.loop-event-test.false in
    let short = rw c.in_ok-len.ensures.ok_part at c.stream_len.ensures in
    let fit : AllByRecursion Fit es = subst (AllByRecursion Fit) (take_all c.loop-event.event-index es c.loop-event-test.false) c.loop-event.invariant.2 in
    record {
      count = c.loop-event.invariant.0 ∙ ap length all;
      bytes = c.loop-event.invariant.1 ∙ ap (λ w. w ++ drop c.loop-event.at c.args.out.now) all;
      reads = written_accepted masks es (sound_bytes t.ports t.masks t.places t.count.1 t.count.0 t.sound) fit (omega (arith, short.0));
    }

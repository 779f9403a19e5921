use Rattle.std.proofs.Common.{◌≡◌, sym, ap, ◌∙◌, rules}
use Rattle.std.proofs.lemmas.Result.{err_from_is_err_and}
use Rattle.records.proofs.ReachLaws.{holds_bytes, sound_bytes}
use Rattle.events.specs.Fields.{read_at, table}
use Rattle.streams.proofs.behind.open_stream.Goals as goal

pub returns-in_err-new : goal.returns-in_err-new
returns-in_err-new c =
    let p = err_from_is_err_and c.from_residual-in_err-new.result c.from_residual-in_err-new.ensures.1 in
    let found : read_at c.args.stream.now 0 ≡ table c.in-Some-Table.masks.now c.next.new.self.place = search rules in
    rw (p.1, p.2) (c.in-Some-Table.masks.now, c.next.new.self.place, found, c.in_err-new.ensures)

pub returns : goal.returns
returns c =
    let r = c.in_ok-new.field-0 in
    let found : read_at c.args.stream.now 0 ≡ table c.in-Some-Table.masks.now c.place.result = search rules in
    let held = holds_bytes r.ports r.masks r.places r.count.1 c.in-Some-Table.masks.now c.in_ok-new.ensures in
    record {
      first = found ∙ ap (λ m. table m c.place.result) (sym held);
      sound = sound_bytes r.ports r.masks r.places r.count.1 r.count.0 r.sound;
    }

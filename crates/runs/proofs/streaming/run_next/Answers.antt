use Rattle.std.proofs.Common.{◌≡◌, refl, rules}
use Rattle.std.proofs.lemmas.Result.{err_from_is_err_and}
use Rattle.events.specs.Fields.{read_at, event}
use Rattle.streams.specs.declared.part.StreamFault.TheVariants.{NoMemory}
use Rattle.runs.proofs.streaming.run_next.Goals as goal

pub returns-in_err-map_err-clause-turn : goal.returns-in_err-map_err-clause-turn
returns-in_err-map_err-clause-turn g c =
    let found : read_at c.args.events.now.stream.now c.place-at.result ≡ event c.in-Some.event c.next.new.self.place = search rules in
    let x = err_from_is_err_and c.from_residual-in_err-map_err.result c.from_residual-in_err-map_err.ensures.1 in
    let what : c.in_err-map_err.field-0.0 ≡ NoMemory c.place-at.result = search rules in
    rw (x.1, x.2, what) ((c.place-at.ensures, (c.in-Some.event, c.next.new.self.place, found)), c.reserve.ensures.items, refl)

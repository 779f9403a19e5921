use Rattle.std.proofs.Common.{◌∙◌, ap, sym, Some}
use Rattle.std.proofs.lemmas.Result.{err_from_is_err_and}
use Rattle.events.proofs.Readings.{unknown}
use Rattle.events.proofs.reader.tag_of.Goals as goal

pub returns-in_err-tag-clause-fault : goal.returns-in_err-tag-clause-fault
returns-in_err-tag-clause-fault c =
    let p = err_from_is_err_and c.from_residual.result c.from_residual.ensures.1 in
    let why = c.in_err-tag.ensures in
    rw (p.1, p.2) (ap Some why.0 ∙ sym (unknown c.args.first c.args.number c.args.len c.args.there why.1))

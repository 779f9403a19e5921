use Rattle.std.proofs.Common.{length, ap, ◌∙◌, arith}
use Rattle.ports.specs.Held.{undecided_of}
use Rattle.ports.proofs.Staying.{kept_is, kept_rises}
use Rattle.ports.proofs.undecided.Undecided.keep.Goals as goal

pub listed-self-requires-clause-rises : goal.listed-self-requires-clause-rises
listed-self-requires-clause-rises c =
    kept_rises c.args.cuts.now (undecided_of c.args.self.now) c.copy_from_slice.new.self _ _ c.keep_left-count.new.notices (length c.list-len.result.now) c.keep_left-count.result (c.copy_from_slice.ensures.after ∙ c.list.ensures.all) (ap length c.list-len.ensures.all) (omega (arith, c.keep_left-count.ensures.few, c.keep_left-count.auto.notices)) c.keep_left-count.ensures.kept c.args.self.now.notices.rises

pub returns : goal.returns
returns c =
    c.listed-self.ensures
    ∙ kept_is c.args.cuts.now (undecided_of c.args.self.now) c.copy_from_slice.new.self _ _ c.keep_left-count.new.notices (length c.list-len.result.now) c.keep_left-count.result (c.copy_from_slice.ensures.after ∙ c.list.ensures.all) (ap length c.list-len.ensures.all) (omega (arith, c.keep_left-count.ensures.few, c.keep_left-count.auto.notices)) c.keep_left-count.ensures.kept

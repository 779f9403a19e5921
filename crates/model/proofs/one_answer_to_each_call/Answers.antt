use Rattle.model.proofs.Answering.{one_answer}
use Rattle.model.proofs.one_answer_to_each_call.Goals as goal

pub returns : goal.returns
returns c = one_answer

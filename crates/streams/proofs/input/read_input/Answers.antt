use Rattle.std.proofs.Common.{◌≡◌, ◌++◌, take, IfSome, subst}
use Rattle.std.specs.Option.{option_map}
use Rattle.streams.proofs.Inputs.{up_to}
use Rattle.streams.proofs.input.read_input.Goals as goal

pub returns : goal.returns
returns g c =
    up_to (g.R.Read.remaining c.args.input) c.take.result.limit 32769 _ c.read_to_end.new.buf.items c.take.ensures.limit c.new-stream.ensures.items
    (subst (λ inner. IfSome (option_map (take c.take.result.limit) (g.R.Read.remaining inner)) (λ xs. c.read_to_end.new.buf.items ≡ c.new-stream.result.items ++ xs)) c.take.ensures.inner c.in_ok-read_to_end.ensures.bytes)

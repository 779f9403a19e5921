use Rattle.std.proofs.Common.{◌≤◌, ◌^◌, length, arith, rules}
use Rattle.std.proofs.lemmas.Iterator.{YieldsList-from_slice}
use Rattle.std.proofs.lemmas.Iterator.Adapters.{fits_from_length, at_most_from_yields_List}
use Rattle.batches.proofs.counting.copies.Goals as goal

-- at most eight for each notice, and a notice is longer than eight bytes
pub sum-requires-clause-fits : goal.sum-requires-clause-fits
sum-requires-clause-fits c =
    let few : length c.args.notices.now ≤ 2 ^ 60 = omega (arith, c.iter.ensures.bound) in
    fits_from_length _ _ (2 ^ 60) (2 ^ 64) (at_most_from_yields_List (YieldsList-from_slice c.args.notices.now (cc)) few) c.map.ensures.closure (omega arith) (λ x r q k. search rules)

use Rattle.std.proofs.Common.{◌≡◌, true, ◌||◌, length, nat_le, sym, ap, ◌∙◌, arith}
use Rattle.std.proofs.lemmas.Bool.{or_left, or_right, le-leb, eqb-true}
use Rattle.boards.specs.Rules.{listed}
use Rattle.boards.proofs.BerthLaws.{any_listed, clashes}
use Rattle.boards.proofs.queue.QueueBerth.take.Goals as goal
use Rattle.boards.proofs.queue.QueueBerth.take.Goals.{then-is_full-via-then-is_full, then-is_full-via-else-is_full+then-contains}

pub returns-then-is_full : goal.returns-then-is_full
returns-then-is_full c =
    let l = c.args.self.now.vessels.items in
    let v = c.args.vessel in
    let no : (listed v l || nat_le 4 (length l)) ≡ true = elim c.then-is_full.branch [ then-is_full-via-then-is_full w ↦ or_right (listed v l) (nat_le 4 (length l)) (le-leb 4 (length l) (omega (arith, eqb-true (length l) _ (sym c.is_full.ensures.value ∙ w.if-is_full.true)))) | then-is_full-via-else-is_full+then-contains w ↦ or_left (listed v l) (nat_le 4 (length l)) (sym (w.contains.ensures.value ∙ any_listed v w.deref.result.now ∙ ap (listed v) w.deref.ensures.0) ∙ w.if-contains.true) ] in
    let is = sym (clashes l v no) in
    record { list = ap (λ t. t.list) is; outcome = ap (λ t. t.outcome) is }

use Rattle.std.proofs.Common.{rules, ◌≡◌, true, sym, ap, ◌∙◌, subst}
use Rattle.arrayvec.proofs.ArrayVecLemmas.{filter-from_retain}
use Rattle.boards.specs.Rules.{listed, without}
use Rattle.boards.specs.Kinds.{at_most}
use Rattle.boards.specs.Shown.{Proper}
use Rattle.boards.proofs.BerthLaws.{any_listed, stays, gone, proper_without}
use Rattle.boards.proofs.queue.QueueBerth.leave.Goals as goal

pub returns-then-not-contains-clause-outcome : goal.returns-then-not-contains-clause-outcome
returns-then-not-contains-clause-outcome c =
    ap (λ t. t.outcome) (sym (stays c.args.self.now.vessels.items c.args.vessel (sym (c.contains.ensures.value ∙ any_listed c.args.vessel c.deref.result.now ∙ ap (listed c.args.vessel) c.deref.ensures.0) ∙ c.if-not-contains.true)))

kept : (c : goal.After-retain) → c.retain.new.self.items ≡ without c.args.vessel c.args.self.now.vessels.items
kept c = filter-from_retain _ _ _ (λ x b f' y called. search rules) _ _ c.retain.ensures.filtered

pub invariant_of-self : goal.invariant_of-self
invariant_of-self c = record { proper = subst (Proper (at_most 4)) (sym (kept c)) (proper_without 4 c.args.vessel c.args.self.now.vessels.items c.args.self.now.proper) }

there : (c : goal.After-self-1) → listed c.args.vessel c.args.self.now.vessels.items ≡ true
there c = sym (c.contains.ensures.value ∙ any_listed c.args.vessel c.deref.result.now ∙ ap (listed c.args.vessel) c.deref.ensures.0) ∙ c.if-not-contains.false

pub returns-clause-list : goal.returns-clause-list
returns-clause-list c = filter-from_retain _ _ _ (λ x b f' y called. search rules) _ _ c.retain.ensures.filtered ∙ ap (λ t. t.list) (sym (gone c.args.self.now.vessels.items c.args.vessel (there c)))

pub returns-clause-outcome : goal.returns-clause-outcome
returns-clause-outcome c = ap (λ t. t.outcome) (sym (gone c.args.self.now.vessels.items c.args.vessel (there c)))

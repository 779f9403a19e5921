use Rattle.std.proofs.Common.{◌≡◌, ℕ, List, [], ◌∷◌, map, get_or, sym, refl, ap, ◌∙◌}
use Rattle.batches.specs.Stampings.{batch_of}
use Rattle.model.specs.Batches.{batch, sent_to, count_from}
use Rattle.model.specs.Lists.{placed_all}
use Rattle.records.specs.Keys.{decided_before}
use Rattle.model.specs.Calls.{decision}
use Rattle.ports.specs.Held.{undecided_of, waiting_of}
use Rattle.ports.specs.Ports.{port_view, deciding}
use Rattle.ports.proofs.Deciding.{number_after, own_fit}
use Rattle.ports.proofs.Joining.{batch_stamped, batch_room, addressed_all}
use Rattle.ports.specs.declared.dispatcher.Dispatcher.{Dispatcher}
use Rattle.ports.proofs.Dispatchers.{numbers_kept, numbers_are}
use Rattle.ports.proofs.Views.{view_same}
use Rattle.ports.proofs.port.Port.decide.Goals as goal

pub join-requires : goal.join-requires
join-requires c =
    let p = c.args.self.now in
    let x = deciding p c.args.number c.args.cuts.now in
    let planned = c.in_ok-batch.ensures in
    let ds = c.list.result.now in
    let bs = batch_of c.in_ok-batch.batch in
    record {
      port = p.port;
      stamped = batch_stamped p.own ds bs (decision (port_view p) x) c.list.ensures planned.notices p.floor (batch c.args.cuts.now (undecided_of p.undecided)) refl;
      room = batch_room p.own ds bs (decision (port_view p) x) c.list.ensures planned.notices (count_from p.own (waiting_of p.waiting)) (own_fit (port_view p) x planned.accepted);
    }

pub invariant_of-self : goal.invariant_of-self
invariant_of-self c =
    let p = c.args.self.now in
    let x = deciding p c.args.number c.args.cuts.now in
    let none = c.in_ok-batch.ensures.accepted in
    let addressed = addressed_all p.own c.list.result.now (waiting_of p.waiting) (waiting_of c.join.new.waiting) c.join.ensures p.addressed in
    record { port = p.port; four = refl; sources = p.sources; addressed = addressed }

pub returns : goal.returns
returns c =
    let p = c.args.self.now in
    let ds = p.dispatchers in
    let cuts = c.args.cuts.now in
    let kept : (f : Dispatcher → ℕ) → f c.settling.result ≡ f (get_or ds 0 c.index-self-0.result) → f c.settling-2.result ≡ f (get_or ds 1 c.index-self-1.result) → f c.settling-3.result ≡ f (get_or ds 2 c.index-self-2.result) → f c.settling-4.result ≡ f (get_or ds 3 c.index-self-3.result) → map f (c.settling.result ∷ c.settling-2.result ∷ c.settling-3.result ∷ c.settling-4.result ∷ []) ≡ map f ds = λ f e0 e1 e2 e3. numbers_kept f ds p.four c.index-self-0.result c.index-self-1.result c.index-self-2.result c.index-self-3.result _ _ _ _ c.index-self-0.is c.index-self-1.is c.index-self-2.is c.index-self-3.is (e0 ∙ ap f (sym c.index-self-0.is)) (e1 ∙ ap f (sym c.index-self-1.is)) (e2 ∙ ap f (sym c.index-self-2.is)) (e3 ∙ ap f (sym c.index-self-3.is)) in
    let given = kept (λ x. x.given) c.settling.ensures.0 c.settling-2.ensures.0 c.settling-3.ensures.0 c.settling-4.ensures.0 in
    let clock = kept (λ x. x.clock) c.settling.ensures.2 c.settling-2.ensures.2 c.settling-3.ensures.2 c.settling-4.ensures.2 in
    let settled = numbers_are cuts c.told-cuts c.settling.result.settled c.settling-2.result.settled c.settling-3.result.settled c.settling-4.result.settled c.settling.ensures.1 c.settling-2.ensures.1 c.settling-3.ensures.1 c.settling-4.ensures.1 in
    let at : List ℕ → ℕ → ℕ = λ xs j. get_or xs j 0 in (
      c.in_ok-batch.ensures,
      record {
        own = refl;
        view = view_same _ _ c.keep.ensures (ap at given) (ap at settled) (ap at clock) (number_after (port_view p) (deciding p c.args.number cuts) c.in_ok-batch.ensures.accepted c.checked_add-self.result c.checked_add-self.ensures) (c.floor-self.ensures ∙ c.in_ok-batch.ensures.floor) refl (c.join.ensures ∙ ap (λ bs. placed_all decided_before (sent_to p.own bs) (waiting_of p.waiting)) (c.list.ensures ∙ c.in_ok-batch.ensures.notices));
      },
    )

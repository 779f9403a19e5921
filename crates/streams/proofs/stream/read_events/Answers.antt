use Rattle.std.proofs.Common.{◌≡◌, [], ◌∷◌, ◌++◌, vec_items, sym, refl, subst, rules}
use Rattle.std.proofs.lemmas.Result.{err_from_is_err_and}
use Rattle.events.specs.Fields.{read_at, event}
use Rattle.events.specs.Streams.{Says, none}
use Rattle.events.proofs.StreamLaws.{says_more}
use Rattle.streams.specs.declared.part.StreamFault.TheVariants.{NoMemory}
use Rattle.streams.proofs.stream.read_events.Goals as goal

pub fields-init : goal.fields-init
fields-init c = (refl, subst (λ es. Says c.args.reader.now.stream.now c.args.reader.now.place es c.args.reader.now.place) (sym c.new-events.ensures.items) (none c.args.reader.now.place))

pub returns-in_err-map_err : goal.returns-in_err-map_err
returns-in_err-map_err c =
    let s = c.args.reader.now.stream.now in
    let q = c.next.new.self.place in
    let e = c.in-Some.event in
    let here : c.fields.reader.place ≡ c.place-place.result = sym c.place-place.ensures in
    let found : read_at s c.place-place.result ≡ event e q = search rules in
    let x = err_from_is_err_and c.from_residual-in_err-map_err.result c.from_residual-in_err-map_err.ensures.1 in
    let what : c.in_err-map_err.field-0.0 ≡ NoMemory c.place-place.result = search rules in
    rw (x.1, x.2, what) record {
      events = vec_items c.fields.events;
      says = subst (λ k. Says s c.args.reader.now.place (vec_items c.fields.events) k) here c.fields.invariant.1;
      why = (e, q, found);
    }

pub fields-preserved : goal.fields-preserved
fields-preserved c =
    let s = c.args.reader.now.stream.now in
    let p = c.fields.reader.place in
    let q = c.next.new.self.place in
    let e = c.in-Some.event in
    let found : read_at s p ≡ event e q = search rules in
    let items : vec_items c.push.new.self ≡ vec_items c.fields.events ++ (e ∷ []) = search rules in
    let stream : c.next.new.self.stream.now ≡ s = search rules in
    (stream, subst (λ es. Says s c.args.reader.now.place es q) (sym items) (says_more s c.args.reader.now.place p q (vec_items c.fields.events) e c.fields.invariant.1 found))

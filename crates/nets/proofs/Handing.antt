-- When a hand in is refused, and when not, and what the port made of it. Assumes nothing.
use Rattle.std.proofs.Common.{◌≡◌, ℕ, ◌+◌, ◌<◌, Bool, true, false, not, ◌||◌, eqb, ltb, List, get_or, set, IfErr, Some, Ok, Err, Result, sym, refl, ap, ◌∙◌, subst, ⊎_elim, MatchResult}
use Rattle.std.proofs.lemmas.List.{set-get_or}
use Rattle.std.proofs.lemmas.Bool.{not-false, or_cases, or_parts, eqb-true}
use Rattle.records.specs.declared.fault.NetFault.{NetFault}
use Rattle.records.specs.declared.fault.NetFault.TheVariants.{NoSuchPort, NoSuchDispatcher, WrongContent, WrongDestinations}
use Rattle.records.specs.declared.notice.HandIn.{HandIn as Said}
use Rattle.wires.specs.Lines.{Lines}
use Rattle.boards.specs.Rules.{Rule, Vessels}
use Rattle.model.specs.Calls.{HandIn, hand_in, action_of}
use Rattle.model.specs.Histories.{handed, refused}
use Rattle.model.specs.Refusals.{hand_in_fault, in_reach}
use Rattle.model.specs.Steps.{after_hand_in}
use Rattle.model.specs.Views.{Table, View, outside}
use Rattle.ports.specs.declared.port.Port.{Port}
use Rattle.ports.specs.Ports.{action_number, handing_in, handing_fault, HandsIn}
use Rattle.nets.specs.declared.net.Net.{Net}
use Rattle.nets.specs.Handing.{hand_in_call, wrong_content}
use Rattle.nets.specs.Promises.{Kept}
use Rattle.nets.specs.Views.{table_of, ports_of, view, SameNet}
use Rattle.nets.proofs.Keeping.{stops, passes, kept, kept_refused}
use Rattle.nets.proofs.Ports.{port_is, only_port}

-- ---- what is handed in

-- an action of the rules has its number back
pub same_action : (n : ℕ) → (eqb n 1 || eqb n 2) ≡ true → action_number (action_of n) ≡ n
same_action n e =
    ⊎_elim
    (λ (one : eqb n 1 ≡ true). ap (λ k. action_number (action_of k)) (eqb-true n 1 one) ∙ sym (eqb-true n 1 one))
    (λ (two : eqb n 2 ≡ true). ap (λ k. action_number (action_of k)) (eqb-true n 2 two) ∙ sym (eqb-true n 2 two))
    (or_cases (eqb n 1) (eqb n 2) e)

fit_action : (t : Table) (home berth action vessel : ℕ) → wrong_content t home berth action vessel ≡ false → (eqb action 1 || eqb action 2) ≡ true
fit_action t home berth action vessel e =
    let low = (or_parts (outside t home) (ltb 15 berth || (not (eqb action 1 || eqb action 2) || eqb vessel 0)) e).1 in
    let rest = (or_parts (ltb 15 berth) (not (eqb action 1 || eqb action 2) || eqb vessel 0) low).1 in
    not-false (eqb action 1 || eqb action 2) (or_parts (not (eqb action 1 || eqb action 2)) (eqb vessel 0) rest).0

-- the call on the port is the call on the net
pub same_call : (t : Table) (p : Port) (x : Said) → p.own ≡ x.port → wrong_content t x.home x.berth x.action x.vessel ≡ false → handing_in p x.dispatcher x.reading (record { bits = x.mask }) x.home x.berth (action_of x.action) x.vessel ≡ hand_in_call x
same_call t p x own e =
    ap (λ o. let y : HandIn = record { port = o; dispatcher = x.dispatcher; reading = x.reading; to = x.mask; home = x.home; berth = x.berth; action = action_number (action_of x.action); vessel = x.vessel } in y) own
    ∙ ap (λ n. let y : HandIn = record { port = x.port; dispatcher = x.dispatcher; reading = x.reading; to = x.mask; home = x.home; berth = x.berth; action = n; vessel = x.vessel } in y) (same_action x.action (fit_action t x.home x.berth x.action x.vessel e))

-- ---- the faults

module _ (v : View) (x : HandIn) (there : outside v.table x.port ≡ false) where
  pub wrong_dispatcher : ltb 3 x.dispatcher ≡ true → hand_in_fault v x ≡ Some NoSuchDispatcher
  wrong_dispatcher e = passes NoSuchPort _ _ there ∙ stops NoSuchDispatcher (ltb 3 x.dispatcher) _ e

  module _ (known : ltb 3 x.dispatcher ≡ false) where
    abbrev content : Bool
    content = wrong_content v.table x.home x.berth x.action x.vessel

    abbrev astray : Bool
    astray = eqb x.to 0 || not (in_reach v.table x.port x.to)

    pub wrong_content_lem : content ≡ true → hand_in_fault v x ≡ Some WrongContent
    wrong_content_lem e = passes NoSuchPort _ _ there ∙ passes NoSuchDispatcher (ltb 3 x.dispatcher) _ known ∙ stops WrongContent content _ e

    module _ (fit : content ≡ false) where
      pub wrong_destinations : astray ≡ true → hand_in_fault v x ≡ Some WrongDestinations
      wrong_destinations e = passes NoSuchPort _ _ there ∙ passes NoSuchDispatcher (ltb 3 x.dispatcher) _ known ∙ passes WrongContent content _ fit ∙ stops WrongDestinations astray _ e

      -- the rest is the port's to refuse
      pub up_to_port : astray ≡ false → hand_in_fault v x ≡ handing_fault (v.port x.port) x.dispatcher
      up_to_port e =
          passes NoSuchPort _ _ there
          ∙ passes NoSuchDispatcher (ltb 3 x.dispatcher) _ known
          ∙ passes WrongContent content _ fit
          ∙ passes WrongDestinations astray _ e
          ∙ sym (passes NoSuchDispatcher (ltb 3 x.dispatcher) _ known)

-- ---- what the port made of it

-- the port is still the same one, whatever it answered
pub still_own : (old new : Port) (x : HandIn) (r : Result ℕ NetFault) → HandsIn old new x r → new.own ≡ old.own
still_own old new x (Ok count) h = h.2.own
still_own old new x (Err f) h = ap (λ p. p.own) h.1

module _ {W B : Type 0} (line : W → Lines) (shown : B → ℕ → ℕ → ℕ → Vessels) (n : Net W B) (x : HandIn) (lt : x.port < 8) (d new : Port) where
  abbrev v : View
  v = view line shown n

  -- the net with this for its ports
  abbrev with : List Port → View
  with ps = record { table = table_of n.reach; port = ports_of ps; line = line n.wire; shown = shown n.board }

  unchanged : new ≡ get_or n.ports x.port d → set n.ports x.port new ≡ n.ports
  unchanged e = ap (set n.ports x.port) e ∙ set-get_or n.ports x.port d

  pub hands_in : (depth : ℕ) (rule : Rule) (r : Result ℕ NetFault) → hand_in_fault v x ≡ handing_fault (v.port x.port) x.dispatcher → HandsIn (get_or n.ports x.port d) new x r → MatchResult r (λ count. Kept depth rule v (handed x count) (with (set n.ports x.port new))) (λ f. Kept depth rule v (refused (hand_in x) f) (with (set n.ports x.port new)))
  hands_in depth rule (Ok count) up h =
      let is = port_is n.ports x.port n.own lt d in
      kept record {
        accepted = up ∙ ap (λ o. handing_fault o x.dispatcher) is ∙ h.0;
        answer = h.1 ∙ ap (λ o. o.given x.dispatcher + 1) (sym is);
        table = refl;
        ports = only_port n.ports x.port n.own lt d new (after_hand_in x) h.2.view;
        lines = λ f t. refl;
        boards = λ q home berth. refl;
      }
  hands_in depth rule (Err f) up h =
      let is = port_is n.ports x.port n.own lt d in
      subst (λ ps. Kept depth rule v (refused (hand_in x) f) (with ps)) (sym (unchanged h.1)) (kept_refused v (hand_in x) f (up ∙ ap (λ o. handing_fault o x.dispatcher) is ∙ h.0))

  pub stays : (r : Result ℕ NetFault) → HandsIn (get_or n.ports x.port d) new x r → (m : Net W B) → m.reach ≡ n.reach → m.ports ≡ set n.ports x.port new → m.wire ≡ n.wire → m.board ≡ n.board → IfErr r (λ _. SameNet n m)
  stays (Ok count) h m reach ports wire board = tt
  stays (Err f) h m reach ports wire board = record { reach = reach; ports = ports ∙ unchanged h.1; wire = wire; board = board }

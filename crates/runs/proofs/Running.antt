-- How an event's promise follows from that of the call that it is. Assumes nothing.
use Rattle.std.proofs.Common.{◌≡◌, ℕ, IfErr, Err, Result, sym, refl, ap, subst}
use Rattle.records.specs.declared.fault.NetFault.{NetFault}
use Rattle.boards.specs.Rules.{Rule}
use Rattle.events.specs.declared.event.Event.{Event}
use Rattle.events.specs.declared.event.Event.TheVariants.{HandIn, Decide, Clear, Bring, Fetch, Release}
use Rattle.answers.specs.declared.answer.Answer.{Answer}
use Rattle.model.specs.Answers.{call_of}
use Rattle.model.specs.Histories.{Told, refused}
use Rattle.model.specs.Views.{View}
use Rattle.nets.specs.declared.net.Net.{Net}
use Rattle.nets.specs.Promises.{KeptAfter}
use Rattle.nets.specs.Views.{SameNet}
use Rattle.runs.specs.Asked.{call_by, answer_in, Keeps, Ran}

module _ {depth : ℕ} {rule : Rule} {v w : View} {event x : Event} where
  -- the net took the call
  pub ran_taken : (e : Told) → event ≡ x → call_of e ≡ call_by x → Keeps depth rule v x e w → Ran depth rule v event (answer_in e) w
  ran_taken e is asks k = subst (λ z. Ran depth rule v z (answer_in e) w) (sym is) (record { told = e; asks = asks; answers = refl; kept = k })

  -- the net refused it
  pub ran_refused : {r : Result Answer NetFault} {f : NetFault} → event ≡ x → r ≡ Err f → Keeps depth rule v x (refused (call_by x) f) w → Ran depth rule v event r w
  ran_refused {r} {f} is e k = subst (λ z. Ran depth rule v z r w) (sym is) (record { told = refused (call_by x) f; asks = refl; answers = sym e; kept = k })

-- in any case, after a history
pub keeps_after : (depth : ℕ) (rule : Rule) (v w : View) (event : Event) (e : Told) → Keeps depth rule v event e w → KeptAfter depth rule v e w
keeps_after depth rule v w (HandIn x) e k h l = (k.does, k.lives h l)
keeps_after depth rule v w (Decide port number cuts) e k h l = (k.does, k.lives h l)
keeps_after depth rule v w (Clear port reading) e k h l = (k.does, k.lives h l)
keeps_after depth rule v w (Bring from to) e k h l = (k.does, k.lives h l)
keeps_after depth rule v w (Fetch port source) e k h l = k h l
keeps_after depth rule v w (Release port) e k h l = (k.does, k.lives h l)

module _ {W B : Type 0} where
  pub all_same : {old new : Net W B} → new ≡ old → SameNet old new
  all_same e = record { reach = ap (λ n. n.reach) e; ports = ap (λ n. n.ports) e; wire = ap (λ n. n.wire) e; board = ap (λ n. n.board) e }

  pub same_at : {T : Type 0} {old new : Net W B} {r : Result T NetFault} {f : NetFault} → r ≡ Err f → SameNet old new → IfErr r (λ _. SameNet old new)
  same_at {T} {old} {new} e s = subst (λ x. IfErr x (λ _. SameNet old new)) (sym e) s

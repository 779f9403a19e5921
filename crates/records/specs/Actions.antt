-- The numbers of the actions. Assumes nothing.
use Rattle.std.specs.Prelude.{◌≡◌, ◌≢◌, ℕ, Ok, Err, Result}
use Rattle.records.specs.declared.notice.Action.{Action}
use Rattle.records.specs.declared.notice.Action.TheVariants.{Take, Leave}
use Rattle.records.specs.declared.notice.Content.{Content}
use Rattle.records.specs.declared.notice.HandIn.{HandIn}
use Rattle.records.specs.declared.notice.UnknownAction.{UnknownAction}

-- 1 take, 2 leave
abbrev pub action_number : Action → ℕ
action_number Take = 1
action_number Leave = 2

-- the number is the action's; or it is no action's, and is given back
abbrev pub Names : ℕ → Result Action UnknownAction → Type 0
Names n (Ok a) = n ≡ action_number a
Names n (Err e) = (n ≢ 1) × (n ≢ 2) × (e.0 ≡ n)

-- what is handed in says this; or its action is none
abbrev pub Says : HandIn → Result Content UnknownAction → Type 0
Says x (Ok c) = (x.action ≡ action_number c.action) × (c ≡ record { to = record { bits = x.mask }; home = x.home; berth = x.berth; action = c.action; vessel = x.vessel })
Says x (Err e) = Names x.action (Err e)

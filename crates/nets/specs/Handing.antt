-- What is handed in, as the call's eight numbers. Assumes nothing.
use Rattle.std.specs.Prelude.{ℕ, Bool, not, ◌||◌, ◌==◌, nat_lt}
use Rattle.records.specs.Masks.{named}
use Rattle.records.specs.declared.notice.Content.{Content}
use Rattle.records.specs.declared.notice.HandIn.{HandIn as Said}
use Rattle.model.specs.Calls.{HandIn, action_of}
use Rattle.model.specs.Views.{Table, outside, sends}

-- the call of the rules
abbrev pub hand_in_call : Said → HandIn
hand_in_call x = record { port = x.port; dispatcher = x.dispatcher; reading = x.reading; to = x.mask; home = x.home; berth = x.berth; action = x.action; vessel = x.vessel }

-- what the notice says
abbrev pub content_of : Said → Content
content_of x = record { to = record { bits = x.mask }; home = x.home; berth = x.berth; action = action_of x.action; vessel = x.vessel }

-- home outside the table, berth above 15, action neither 1 nor 2, or vessel 0
abbrev pub wrong_content : Table → ℕ → ℕ → ℕ → ℕ → Bool
wrong_content t home berth action vessel = outside t home || (nat_lt 15 berth || (not (action == 1 || action == 2) || vessel == 0))

-- the mask does not name q, or q is the port itself or in its reach
abbrev pub addressed : Table → ℕ → ℕ → ℕ → Bool
addressed t port bits q = not (named bits q) || (q == port || sends t port q)

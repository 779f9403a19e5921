-- A run of two ports with a late link. Assumes nothing.
use Rattle.std.specs.Prelude.{◌≡◌, ℕ, [], ◌∷◌}
use Rattle.records.specs.declared.fault.NetFault.TheVariants.{NothingArrived, Held}
use Rattle.records.specs.declared.notice.Decided.{Decided}
use Rattle.boards.specs.Rules.{Rule}
use Rattle.model.specs.Views.{View}
use Rattle.model.specs.Calls.{HandIn, Decide, fetch, release, notice_of}
use Rattle.model.specs.Steps.{turned}
use Rattle.model.specs.Histories.{handed, decided, brought, fetched, released, refused, History, common, book, Lived}
use Rattle.model.specs.Edges.{stamp}

-- ports 0 and 1, each sending to the other. Port 0 says at 100 that vessel 7 takes berth 4 of port 0, port 1 says at 90
-- that vessel 9 does; both notices are addressed to both ports
abbrev pub seven : HandIn
seven = record { port = 0; dispatcher = 0; reading = 100; to = 3; home = 0; berth = 4; action = 1; vessel = 7 }

abbrev pub nine : HandIn
nine = record { port = 1; dispatcher = 0; reading = 90; to = 3; home = 0; berth = 4; action = 1; vessel = 9 }

abbrev pub seven_decided : Decided
seven_decided = record { notice = notice_of seven 1; stamp = stamp 100 0 0 }

abbrev pub nine_decided : Decided
nine_decided = record { notice = notice_of nine 1; stamp = stamp 90 0 1 }

abbrev pub decide_one : ℕ → Decide
decide_one port = record { port = port; number = 0; cuts = 1 ∷ 0 ∷ 0 ∷ 0 ∷ []; places = 16 }

-- the newest first: port 1 has to wait for the link from port 0, though its own notice is the lower one
abbrev pub late_link : Rule → History
late_link rule =
    released 1 seven_decided (turned rule 1 seven_decided.notice (turned rule 1 nine_decided.notice []).list).outcome
    ∷ released 1 nine_decided (turned rule 1 nine_decided.notice []).outcome
    ∷ fetched 1 0
    ∷ brought 0 1
    ∷ refused (fetch 1 0) NothingArrived
    ∷ refused (release 1) (Held (record { bits = 1 }))
    ∷ decided (decide_one 1) (nine_decided ∷ []) 1 1
    ∷ decided (decide_one 0) (seven_decided ∷ []) 1 1
    ∷ handed nine 1
    ∷ handed seven 1
    ∷ []

-- the run can be had, over the least depth and boards of any rule
pub record LateLink (rule : Rule) : Type 0 where
  pub last : View
  pub lived : Lived 4 rule (late_link rule) last
  pub common_list : common (late_link rule) ≡ nine_decided ∷ seven_decided ∷ []
  pub book_1 : book 1 (late_link rule) ≡ nine_decided ∷ seven_decided ∷ []
  pub book_0 : book 0 (late_link rule) ≡ []

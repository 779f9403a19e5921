use Rattle.std.proofs.Common.{refl}
use Rattle.model.specs.Histories.{handed, decided, cleared, brought, fetched, released}
use Rattle.nets.specs.Handing.{hand_in_call}
use Rattle.nets.proofs.Keeping.{handed_on}
use Rattle.runs.proofs.Running.{ran_taken, ran_refused, all_same, same_at}
use Rattle.runs.proofs.stepping.run_event.Goals as goal

pub returns-in_err-hand_in-in-HandIn : goal.returns-in_err-hand_in-in-HandIn
returns-in_err-hand_in-in-HandIn g c =
    let e = handed_on c.from_residual.result c.from_residual.ensures.1 in
    let p = c.in_err-hand_in-in-HandIn.ensures in
    record { ran = ran_refused c.in-HandIn.is e p.kept; same = same_at e p.same }

pub returns-in_err-notices-in-Decide : goal.returns-in_err-notices-in-Decide
returns-in_err-notices-in-Decide g c =
    let e = handed_on c.from_residual-in_err-notices-in-Decide.result c.from_residual-in_err-notices-in-Decide.ensures.1 in
    let p = c.in_err-notices-in-Decide.ensures in
    record { ran = ran_refused c.in-Decide.is e p.kept; same = same_at e (all_same p.same.0) }

pub returns-in_err-clear-in-Clear : goal.returns-in_err-clear-in-Clear
returns-in_err-clear-in-Clear g c =
    let e = handed_on c.from_residual-in_err-clear-in-Clear.result c.from_residual-in_err-clear-in-Clear.ensures.1 in
    let p = c.in_err-clear-in-Clear.ensures in
    record { ran = ran_refused c.in-Clear.is e p.kept; same = same_at e p.same }

pub returns-in_err-bring-in-Bring : goal.returns-in_err-bring-in-Bring
returns-in_err-bring-in-Bring g c =
    let e = handed_on c.from_residual-in_err-bring-in-Bring.result c.from_residual-in_err-bring-in-Bring.ensures.1 in
    let p = c.in_err-bring-in-Bring.ensures in
    record { ran = ran_refused c.in-Bring.is e p.kept; same = same_at e (all_same p.same) }

pub returns-in_err-fetch-in-Fetch : goal.returns-in_err-fetch-in-Fetch
returns-in_err-fetch-in-Fetch g c =
    let e = handed_on c.from_residual-in_err-fetch-in-Fetch.result c.from_residual-in_err-fetch-in-Fetch.ensures.1 in
    let p = c.in_err-fetch-in-Fetch.ensures in
    record { ran = ran_refused c.in-Fetch.is e p.kept; same = same_at e (all_same p.same) }

pub returns-in_err-notice-in-Release : goal.returns-in_err-notice-in-Release
returns-in_err-notice-in-Release g c =
    let e = handed_on c.from_residual-in_err-notice-in-Release.result c.from_residual-in_err-notice-in-Release.ensures.1 in
    let p = c.in_err-notice-in-Release.ensures in
    record { ran = ran_refused c.in-Release.is e p.kept; same = same_at e (all_same p.same) }

pub returns-in_ok-hand_in-in-HandIn : goal.returns-in_ok-hand_in-in-HandIn
returns-in_ok-hand_in-in-HandIn g c =
    let x = c.in-HandIn.said in
    let k = c.in_ok-hand_in-in-HandIn in
    record { ran = ran_taken (handed (hand_in_call x) k.field-0) c.in-HandIn.is refl k.ensures.kept; same = tt }

pub returns-in_ok-notices-in-Decide : goal.returns-in_ok-notices-in-Decide
returns-in_ok-notices-in-Decide g c =
    let x = c.in-Decide in
    let k = c.in_ok-notices-in-Decide in
    let p = k.ensures.kept in
    record { ran = ran_taken (decided (record { port = x.port; number = x.number; cuts = x.cuts; places = 16 }) p.0 k.notices k.copies) x.is refl p.1; same = tt }

pub returns-in_ok-clear-in-Clear : goal.returns-in_ok-clear-in-Clear
returns-in_ok-clear-in-Clear g c =
    let x = c.in-Clear in
    let k = c.in_ok-clear-in-Clear in
    record { ran = ran_taken (cleared x.port x.reading k.field-0) x.is refl k.ensures.kept; same = tt }

pub returns-in_ok-bring-in-Bring : goal.returns-in_ok-bring-in-Bring
returns-in_ok-bring-in-Bring g c =
    let x = c.in-Bring in
    record { ran = ran_taken (brought x.from x.to) x.is refl c.in_ok-bring-in-Bring.ensures.kept; same = tt }

pub returns-in_ok-fetch-in-Fetch : goal.returns-in_ok-fetch-in-Fetch
returns-in_ok-fetch-in-Fetch g c =
    let x = c.in-Fetch in
    record { ran = ran_taken (fetched x.port x.source) x.is refl c.in_ok-fetch-in-Fetch.ensures.kept; same = tt }

pub returns-in_ok-notice-in-Release : goal.returns-in_ok-notice-in-Release
returns-in_ok-notice-in-Release g c =
    let x = c.in-Release in
    let k = c.in_ok-notice-in-Release in
    record { ran = ran_taken (released x.port k.notice k.outcome) x.is refl k.ensures.kept; same = tt }

-- The run of two ports with a late link.
use Rattle.std.proofs.Common.{◌≡◌, ℕ, ◌<◌, true, false, cond, eqb, [], ◌∷◌, refl, subst, inl, inr, arith, lit<, lit≤}
use lib.Count.{ones, ones_in}
use Rattle.std.proofs.lemmas.Bool.{cases_Bool, eqb-true, false≢true}
use Rattle.records.specs.declared.notice.Record.TheVariants.{Notice as Carries}
use Rattle.records.specs.declared.fault.NetFault.TheVariants.{NothingArrived, Held}
use Rattle.boards.specs.Rules.{Rule}
use Rattle.wires.specs.Lines.{empty_line}
use Rattle.model.specs.Views.{Table, View, Opened, sends, fresh}
use Rattle.model.specs.Calls.{fetch, release}
use Rattle.model.specs.Histories.{History, handed, decided, brought, fetched, released, refused, Lived, opened, called}
use Rattle.model.specs.Runs.{seven, nine, seven_decided, nine_decided, decide_one, late_link, LateLink}
use Rattle.model.proofs.Passing.{names_only}
use Rattle.model.proofs.Answering.{handed_in, can_hand_in, settled, can_decide, all_brought, can_bring, got_from, can_fetch, let_go, can_release}

-- masks 2 and 1
abbrev two : Table
two = record { ports = 2; mask = λ f. cond (eqb f 0) 2 (cond (eqb f 1) 1 0) }

to_other : (f p : ℕ) → sends two f p ≡ true → (f < 2) × (p < 2) × (p ≡ f → ⊥)
to_other f p e = elim (cases_Bool (eqb f 0)) [
  | inl z ↦
      let g = eqb-true f 0 z in
      let q = eqb-true p 1 (names_only 2 (λ q. eqb q 1) (lit< tt) refl p (subst (λ k. sends two k p ≡ true) g e)) in
      (omega (arith, g), omega (arith, q), λ s. omega (arith, g, q, s))
  | inr n ↦ elim (cases_Bool (eqb f 1)) [
    | inl z ↦
        let g = eqb-true f 1 z in
        let q = eqb-true p 0 (names_only 1 (λ q. eqb q 0) (lit< tt) refl p (subst (λ k. sends two k p ≡ true) g e)) in
        (omega (arith, g), omega (arith, q), λ s. omega (arith, g, q, s))
    | inr m ↦ absurd (false≢true (names_only 0 (λ _. false) (lit< tt) refl p (rw (n, m) at e)))
  ]
]

abbrev v0 : View
v0 = record { table = two; port = λ _. fresh; line = λ _ _. empty_line; shown = λ _ _ _. [] }

start : Opened v0
start = record { table = record { least = lit≤ tt; most = lit≤ tt; inside = to_other }; ports = λ _. refl; lines = λ _ _. refl; boards = λ _ _ _. refl }

module _ (rule : Rule) where
  abbrev v1 : View
  v1 = handed_in 4 rule v0 seven

  abbrev v2 : View
  v2 = handed_in 4 rule v1 nine

  abbrev v3 : View
  v3 = settled 4 rule v2 (decide_one 0)

  abbrev v4 : View
  v4 = settled 4 rule v3 (decide_one 1)

  abbrev v5 : View
  v5 = all_brought 4 rule v4 0 1

  abbrev v6 : View
  v6 = got_from 4 rule v5 1 0 (Carries seven_decided) []

  abbrev v7 : View
  v7 = let_go 4 rule v6 1 nine_decided

  abbrev v8 : View
  v8 = let_go 4 rule v7 1 seven_decided

  abbrev h2 : History
  h2 = handed nine 1 ∷ handed seven 1 ∷ []

  l2 : Lived 4 rule h2 v2
  l2 = called {e = handed nine 1} (called {e = handed seven 1} (opened start) (can_hand_in 4 rule v0 seven refl)) (can_hand_in 4 rule v1 nine refl)

  abbrev h4 : History
  h4 = decided (decide_one 1) (nine_decided ∷ []) 1 1 ∷ decided (decide_one 0) (seven_decided ∷ []) 1 1 ∷ h2

  l4 : Lived 4 rule h4 v4
  unfolding ones ones_in
  l4 = called {e = decided (decide_one 1) (nine_decided ∷ []) 1 1} (called {e = decided (decide_one 0) (seven_decided ∷ []) 1 1} l2 (can_decide 4 rule v2 (decide_one 0) refl)) (can_decide 4 rule v3 (decide_one 1) refl)

  abbrev h6 : History
  h6 = refused (fetch 1 0) NothingArrived ∷ refused (release 1) (Held (record { bits = 1 })) ∷ h4

  l6 : Lived 4 rule h6 v4
  l6 = called {e = refused (fetch 1 0) NothingArrived} (called {e = refused (release 1) (Held (record { bits = 1 }))} l4 (record { fault = refl; same = refl })) (record { fault = refl; same = refl })

  abbrev h8 : History
  h8 = fetched 1 0 ∷ brought 0 1 ∷ h6

  l8 : Lived 4 rule h8 v6
  l8 = called {e = fetched 1 0} (called {e = brought 0 1} l6 (can_bring 4 rule v4 0 1 refl)) (can_fetch 4 rule v5 1 0 (Carries seven_decided) [] refl refl refl)

  pub lived : Lived 4 rule (late_link rule) v8
  lived = called {e = released 1 seven_decided _} (called {e = released 1 nine_decided _} l8 (can_release 4 rule v6 1 nine_decided (seven_decided ∷ []) refl refl)) (can_release 4 rule v7 1 seven_decided [] refl refl)

pub late_link_lem : (rule : Rule) → LateLink rule
late_link_lem rule = record { last = v8 rule; lived = lived rule; common_list = refl; book_1 = refl; book_0 = refl }

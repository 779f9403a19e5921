-- Each call has an answer, and only one: it is refused, or there is a net that it leads to.
use Rattle.std.proofs.Common.{◌≡◌, ℕ, ◌+◌, ◌-◌, ◌≤◌, max, Bool, true, false, cond, not, ◌&&◌, ◌||◌, eqb, List, [], ◌∷◌, ◌++◌, length, Some, None, Option, sym, refl, ap, ◌∙◌, subst, inl, inr, append-nil, arith}
use Rattle.std.proofs.lemmas.Bool.{eqb-true, eqb-false, eq-eqb, cases_Bool, and_parts, and_from, cond-true, cond-false, true≢false}
use Rattle.records.specs.declared.fault.NetFault.{NetFault}
use Rattle.records.specs.declared.fault.NetFault.TheVariants.{NoSuchPort, OutOfReach, NothingArrived, NothingWaits}
use Rattle.records.specs.declared.notice.Decided.{Decided}
use Rattle.records.specs.declared.notice.Record.{Record}
use Rattle.wires.specs.Lines.{Line, Lines, SameBut}
use Rattle.wires.specs.Growths.{Extra, Grown}
use Rattle.boards.specs.Rules.{Rule}
use Rattle.boards.specs.declared.outcome.Outcome.{Outcome}
use Rattle.model.specs.Views.{PortView, View, sends, outside}
use Rattle.model.specs.Batches.{copies_on, copies_of}
use Rattle.model.specs.Calls.{HandIn, Decide, Call, hand_in, decide, clear, bring, fetch, release, decision}
use Rattle.model.specs.Refusals.{hand_in_fault, decide_fault, clear_fault, bring_fault, fetch_fault, release_fault, fault_of, oldest, oldest_of, is_none, clearance_on, clearance_stamp}
use Rattle.model.specs.Steps.{HandsIn, Decides, Clears, Brings, Fetches, Releases, after_hand_in, after_decide, after_clear, after_fetch, after_release, turned, shown_after}
use Rattle.model.specs.Histories.{Told, handed, decided, cleared, brought, fetched, released, refused, Step}
use Rattle.model.specs.Answers.{call_of, Alike, OneAnswer}
use Rattle.model.proofs.Lists.{cond_ap}
use Rattle.model.proofs.Lives.{held_by_lem}
use Rattle.model.proofs.Passing.{passes, some_none}

record Answered (depth : ℕ) (rule : Rule) (v : View) (c : Call) : Type 0 where
  told : Told
  next : View
  call : call_of told ≡ c
  step : Step depth rule v told next

abbrev with_port : View → ℕ → (PortView → PortView) → ℕ → PortView
with_port v p after q = cond (eqb q p) (after (v.port q)) (v.port q)

abbrev with_more : Lines → Extra → Lines
with_more l extra p q = record { held = (l p q).held ++ extra p q; arrived = (l p q).arrived }

more_grown : (l : Lines) (extra : Extra) → Grown l (with_more l extra) extra
more_grown l extra = record {
  held = λ _ _. refl;
  arrived = λ p q. omega arith;
  others = λ p q e. λ i. record { held = (ap (λ z. (l p q).held ++ z) e ∙ append-nil (l p q).held) i; arrived = (l p q).arrived };
}

abbrev with_line : Lines → ℕ → ℕ → Line → Lines
with_line l a b z p q = cond (eqb p a && eqb q b) z (l p q)

line_here : (l : Lines) (a b : ℕ) (z : Line) → with_line l a b z a b ≡ z
line_here l a b z = cond-true (eqb a a && eqb b b) z (l a b) (and_from (eqb a a) (eqb b b) (eq-eqb a a refl) (eq-eqb b b refl))

line_others : (l : Lines) (a b : ℕ) (z : Line) → SameBut l (with_line l a b z) a b
line_others l a b z p q n = elim (cases_Bool (eqb p a && eqb q b)) [
  | inl e ↦ let both = and_parts (eqb p a) (eqb q b) e in absurd (n (eqb-true p a both.0, eqb-true q b both.1))
  | inr e ↦ cond-false (eqb p a && eqb q b) z (l p q) e
]

some_same : (g f : NetFault) → Some g ≡ Some f → g ≡ f
some_same g f e = cc

cons_head : {X : Type 0} {x y : X} {xs ys : List X} → x ∷ xs ≡ y ∷ ys → x ≡ y
cons_head e = cc

cons_tail : {X : Type 0} {x y : X} {xs ys : List X} → x ∷ xs ≡ y ∷ ys → xs ≡ ys
cons_tail e = cc

module _ (depth : ℕ) (rule : Rule) (v : View) where
  abbrev pub handed_in : HandIn → View
  handed_in x = record { table = v.table; port = with_port v x.port (after_hand_in x); line = v.line; shown = v.shown }

  pub can_hand_in : (x : HandIn) → hand_in_fault v x ≡ None → HandsIn v x ((v.port x.port).given x.dispatcher + 1) (handed_in x)
  can_hand_in x e = record { accepted = e; answer = refl; table = refl; ports = λ _. refl; lines = λ _ _. refl; boards = λ _ _ _. refl }

  abbrev pub settled : Decide → View
  settled x = record { table = v.table; port = with_port v x.port (after_decide x); line = with_more v.line (copies_on x.port (decision (v.port x.port) x)); shown = v.shown }

  pub can_decide : (x : Decide) → decide_fault depth v x ≡ None → Decides depth v x (decision (v.port x.port) x) (length (decision (v.port x.port) x)) (copies_of x.port (decision (v.port x.port) x)) (settled x)
  can_decide x e = record { accepted = e; batch = refl; counted = refl; sent = refl; table = refl; ports = λ _. refl; lines = more_grown v.line _; boards = λ _ _ _. refl }

  abbrev pub clear_sent : ℕ → ℕ → View
  clear_sent port reading = record { table = v.table; port = with_port v port (after_clear (clearance_stamp v port reading).pair); line = with_more v.line (clearance_on v.table (clearance_stamp v port reading)); shown = v.shown }

  pub can_clear : (port reading : ℕ) → clear_fault depth v port reading ≡ None → Clears depth v port reading (clearance_stamp v port reading).pair (clear_sent port reading)
  can_clear port reading e = record { accepted = e; pair = refl; table = refl; ports = λ _. refl; lines = more_grown v.line _; boards = λ _ _ _. refl }

  -- all of the line arrives
  abbrev landed : Line → Line
  landed l = record { held = l.held; arrived = max l.arrived (length l.held) }

  abbrev pub all_brought : ℕ → ℕ → View
  all_brought a b = record { table = v.table; port = v.port; line = with_line v.line a b (landed (v.line a b)); shown = v.shown }

  pub can_bring : (a b : ℕ) → bring_fault v a b ≡ None → Brings v a b (all_brought a b)
  can_bring a b e = record {
    accepted = e;
    table = refl;
    ports = λ _. refl;
    lines = record {
      held = ap (λ l. l.held) (line_here v.line a b (landed (v.line a b)));
      arrived = subst (λ l. (v.line a b).arrived ≤ l.arrived) (sym (line_here v.line a b (landed (v.line a b)))) (omega arith);
      others = line_others v.line a b (landed (v.line a b));
    };
    boards = λ _ _ _. refl;
  }

  abbrev pub got_from : ℕ → ℕ → Record → List Record → View
  got_from port source x xs = record { table = v.table; port = with_port v port (after_fetch source x); line = with_line v.line source port (record { held = xs; arrived = (v.line source port).arrived - 1 }); shown = v.shown }

  pub can_fetch : (port source : ℕ) (x : Record) (xs : List Record) → fetch_fault v port source ≡ None → (v.line source port).held ≡ x ∷ xs → eqb (v.line source port).arrived 0 ≡ false → Fetches v port source (got_from port source x xs)
  can_fetch port source x xs e is some =
      let new : Line = record { held = xs; arrived = (v.line source port).arrived - 1 } in
      record {
        accepted = e;
        got = x;
        arrived = cond-false (eqb (v.line source port).arrived 0) None (oldest_of (v.line source port).held) some ∙ ap oldest_of is;
        table = refl;
        ports = λ _. refl;
        lines = record {
          held = is ∙ ap (λ l. x ∷ l.held) (sym (line_here v.line source port new));
          arrived = (let k = eqb-false (v.line source port).arrived 0 some in omega (arith, k)) ∙ ap (λ l. l.arrived + 1) (sym (line_here v.line source port new));
          others = line_others v.line source port new;
        };
        boards = λ _ _ _. refl;
      }

  abbrev pub let_go : ℕ → Decided → View
  let_go port n = record {
    table = v.table;
    port = with_port v port (after_release n);
    line = v.line;
    shown = shown_after rule port n.notice v;
  }

  pub can_release : (port : ℕ) (n : Decided) (others : List Decided) → release_fault v port ≡ None → (v.port port).waiting ≡ n ∷ others → Releases rule v port n (turned rule port n.notice (v.shown port n.notice.home n.notice.berth)).outcome (let_go port n)
  can_release port n others e is = record { accepted = e; lowest = (others, is); outcome = refl; table = refl; ports = λ _. refl; lines = λ _ _. refl; boards = λ _ _ _. refl }

  -- WHERE NOTHING REFUSES

  fetch_answer : (port source : ℕ) → fetch_fault v port source ≡ None → (l : List Record) → (v.line source port).held ≡ l → (b : Bool) → eqb (v.line source port).arrived 0 ≡ b → is_none (cond b None (oldest_of l)) ≡ false → Answered depth rule v (fetch port source)
  fetch_answer port source e l is true some n = absurd (true≢false n)
  fetch_answer port source e [] is false some n = absurd (true≢false n)
  fetch_answer port source e (x ∷ xs) is false some n = record { told = fetched port source; next = got_from port source x xs; call = refl; step = can_fetch port source x xs e is some }

  release_answer : (port : ℕ) → release_fault v port ≡ None → (l : List Decided) → (v.port port).waiting ≡ l → eqb (length l) 0 ≡ false → Answered depth rule v (release port)
  release_answer port e [] is n = absurd (true≢false n)
  release_answer port e (x ∷ xs) is n = record { told = released port x _; next = let_go port x; call = refl; step = can_release port x xs e is }

  accepted : (c : Call) → fault_of depth v c ≡ None → Answered depth rule v c
  accepted (hand_in x) e = record { told = handed x _; next = handed_in x; call = refl; step = can_hand_in x e }
  accepted (decide x) e = record { told = decided x _ _ _; next = settled x; call = refl; step = can_decide x e }
  accepted (clear port reading) e = record { told = cleared port reading _; next = clear_sent port reading; call = refl; step = can_clear port reading e }
  accepted (bring a b) e = record { told = brought a b; next = all_brought a b; call = refl; step = can_bring a b e }
  accepted (fetch port source) e =
      let a = passes (outside v.table port || outside v.table source) NoSuchPort _ e in
      let b = passes (not (sends v.table source port)) OutOfReach _ a.1 in
      let c = passes (is_none (oldest (v.line source port))) NothingArrived _ b.1 in
      fetch_answer port source e (v.line source port).held refl (eqb (v.line source port).arrived 0) refl c.0
  accepted (release port) e =
      let a = passes (outside v.table port) NoSuchPort _ e in
      let b = passes (eqb (length (v.port port).waiting) 0) NothingWaits _ a.1 in
      release_answer port e (v.port port).waiting refl b.0

  answer_by : (c : Call) (f : Option NetFault) → fault_of depth v c ≡ f → Answered depth rule v c
  answer_by c None e = accepted c e
  answer_by c (Some f) e = record { told = refused c f; next = v; call = refl; step = record { fault = e; same = refl } }

  answered : (c : Call) → Answered depth rule v c
  answered c = answer_by c (fault_of depth v c) refl

  -- AND NO OTHER ANSWER

  by_none : (c : Call) (P : Answered depth rule v c → Type 0) (f : Option NetFault) (e : fault_of depth v c ≡ f) → f ≡ None → ((z : fault_of depth v c ≡ None) → P (accepted c z)) → P (answer_by c f e)
  unfolding answer_by
  by_none c P None e is p = p e
  by_none c P (Some f) e is p = absurd (some_none f is)

  by_some : (c : Call) (g : NetFault) (f : Option NetFault) (e : fault_of depth v c ≡ f) → f ≡ Some g → (refused c g ≡ (answer_by c f e).told) × (v ≡ (answer_by c f e).next)
  unfolding answer_by
  by_some c g None e is = absurd (some_none g (sym is))
  by_some c g (Some f) e is = (ap (refused c) (some_same g f (sym is)), refl)

  abbrev Only : (c : Call) → Told → View → Answered depth rule v c → Type 0
  Only c e w a = (e ≡ a.told) × Alike w a.next

  only_fetch : (port source : ℕ) (w : View) → Fetches v port source w → (e : fetch_fault v port source ≡ None) (l : List Record) (is : (v.line source port).held ≡ l) (b : Bool) (some : eqb (v.line source port).arrived 0 ≡ b) (n : is_none (cond b None (oldest_of l)) ≡ false) → Only (fetch port source) (fetched port source) w (fetch_answer port source e l is b some n)
  unfolding fetch_answer
  only_fetch port source w r e l is true some n = absurd (true≢false n)
  only_fetch port source w r e [] is false some n = absurd (true≢false n)
  only_fetch port source w r e (x ∷ xs) is false some n =
      let cons : r.got ∷ (w.line source port).held ≡ x ∷ xs = sym r.lines.held ∙ is in
      let head : r.got ≡ x = cons_head cons in
      let tail : (w.line source port).held ≡ xs = cons_tail cons in (
        refl,
        record {
          table = r.table;
          ports = λ q. r.ports q ∙ ap (λ z. with_port v port (after_fetch source z) q) head;
          lines = λ g q. held_by_lem v.line w.line source port xs tail r.lines.others g q ∙ sym (cond_ap (λ l. l.held) (eqb g source && eqb q port) (record { held = xs; arrived = (v.line source port).arrived - 1 }) (v.line g q));
          boards = r.boards;
        },
      )

  only_release : (port : ℕ) (w : View) (m : Decided) (o : Outcome) → Releases rule v port m o w → (e : release_fault v port ≡ None) (l : List Decided) (is : (v.port port).waiting ≡ l) (n : eqb (length l) 0 ≡ false) → Only (release port) (released port m o) w (release_answer port e l is n)
  unfolding release_answer
  only_release port w m o r e [] is n = absurd (true≢false n)
  only_release port w m o r e (x ∷ xs) is n =
      let head : m ≡ x = cons_head (sym r.lowest.1 ∙ is) in (
        ap (released port m) r.outcome ∙ ap (λ y. released port y (turned rule port y.notice (v.shown port y.notice.home y.notice.berth)).outcome) head,
        record {
          table = r.table;
          ports = λ q. r.ports q ∙ ap (λ y. with_port v port (after_release y) q) head;
          lines = λ g q. ap (λ l. l.held) (r.lines g q);
          boards = λ p a b. r.boards p a b ∙ ap (λ y. (let_go port y).shown p a b) head;
        },
      )

  only_step : (e : Told) (w : View) → Step depth rule v e w → Only (call_of e) e w (answered (call_of e))
  unfolding answered accepted
  only_step (handed x n) w r = by_none (hand_in x) (Only (hand_in x) (handed x n) w) (hand_in_fault v x) refl r.accepted (λ z. (ap (handed x) r.answer, record { table = r.table; ports = r.ports; lines = λ g q. ap (λ l. l.held) (r.lines g q); boards = r.boards }))
  only_step (decided x ds n m) w r = by_none (decide x) (Only (decide x) (decided x ds n m) w) (decide_fault depth v x) refl r.accepted (λ z.
      (ap (λ k. decided x ds k m) r.counted ∙ ap (decided x ds (length ds)) r.sent ∙ ap (λ l. decided x l (length l) (copies_of x.port l)) r.batch, record { table = r.table; ports = r.ports; lines = λ g q. r.lines.held g q ∙ ap (λ l. (v.line g q).held ++ copies_on x.port l g q) r.batch; boards = r.boards }))
  only_step (cleared port reading p) w r = by_none (clear port reading) (Only (clear port reading) (cleared port reading p) w) (clear_fault depth v port reading) refl r.accepted (λ z.
      (ap (cleared port reading) r.pair, record { table = r.table; ports = λ q. r.ports q ∙ ap (λ y. with_port v port (after_clear y) q) r.pair; lines = λ g q. r.lines.held g q ∙ ap (λ y. (v.line g q).held ++ clearance_on v.table (record { pair = y; port = port }) g q) r.pair; boards = r.boards }))
  only_step (brought a b) w r = by_none (bring a b) (Only (bring a b) (brought a b) w) (bring_fault v a b) refl r.accepted (λ z.
      (refl, record { table = r.table; ports = r.ports; lines = λ g q. held_by_lem v.line w.line a b (v.line a b).held r.lines.held r.lines.others g q ∙ sym (cond_ap (λ l. l.held) (eqb g a && eqb q b) (landed (v.line a b)) (v.line g q)); boards = r.boards }))
  only_step (fetched port source) w r = by_none (fetch port source) (Only (fetch port source) (fetched port source) w) (fetch_fault v port source) refl r.accepted (λ z. only_fetch port source w r z (v.line source port).held refl (eqb (v.line source port).arrived 0) refl _)
  only_step (released port m o) w r = by_none (release port) (Only (release port) (released port m o) w) (release_fault v port) refl r.accepted (λ z. only_release port w m o r z (v.port port).waiting refl _)
  only_step (refused c f) w r = let a = by_some c f (fault_of depth v c) refl r.fault in (a.0, subst (λ z. Alike z (answered c).next) (sym (r.same ∙ a.1)) (record { table = refl; ports = λ _. refl; lines = λ _ _. refl; boards = λ _ _ _. refl }))

  pub one_answer : (c : Call) → OneAnswer depth rule v c
  one_answer c =
      let a = answered c in
      record { told = a.told; next = a.next; call = a.call; step = a.step; only = λ e w is s. subst (λ k. Only k e w (answered k)) is (only_step e w s) }

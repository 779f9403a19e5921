-- What holds of every net that calls have led to; a net just opened; calls that leave the order alone.
use Rattle.std.proofs.Common.{◌≡◌, ℕ, ◌<◌, Bool, true, false, cond, not, ◌&&◌, eqb, List, [], ◌∷◌, ◌++◌, map, None, fold, filter, sym, refl, ap, ◌∙◌, subst, inl, inr, append_assoc, append-nil, arith}
use mathlib.Core.List.{map-append}
use Rattle.std.proofs.lemmas.Bool.{eqb-true, eqb-false, cases_Bool, and_parts, or_parts, and_from, and_left, eq-eqb, ne_eqb, false≢true, leb-false, not-false, cond-true, cond-false}
use Rattle.records.specs.declared.notice.Notice.{Notice}
use Rattle.records.specs.Masks.{named}
use Rattle.records.specs.declared.notice.Handed.{Handed}
use Rattle.records.specs.declared.notice.Decided.{Decided}
use Rattle.records.specs.declared.notice.Record.{Record}
use Rattle.wires.specs.Lines.{Lines, SameBut}
use Rattle.boards.specs.Rules.{Rule, Vessels}
use Rattle.model.specs.Views.{Table, PortView, View, Reaches, Opened, sends, fresh}
use Rattle.model.specs.Calls.{HandIn, notice_of, handed_of}
use Rattle.model.specs.Refusals.{in_reach, hand_in_fault}
use Rattle.model.specs.Steps.{OnlyPort, HandsIn, Brings, pair_of, turned, after_hand_in}
use Rattle.model.specs.Histories.{History, handed, brought, common, book, is_from, handed_by}
use Rattle.model.specs.Law.{In, about_berth, said_by}
use Rattle.model.proofs.Lists.{by_cond, cond_ap, nothing}
use Rattle.model.proofs.Heights.{bound, AnySmall, Small}
use Rattle.model.proofs.Inv.{State, Inv}
use Rattle.model.proofs.Passing.{passes, up_to, in_reach_lem}
use Rattle.model.proofs.Desks.{of_him, Desk, his_last, desk_hand_in}

-- the net as its order sees it
abbrev pub state_of : View → State
state_of v = record {
  floor = λ q. bound (v.port q).floor;
  clear = λ q g. bound ((v.port q).clearance g);
  waiting = λ q. (v.port q).waiting;
  line = λ g q. (v.line g q).held;
}

-- what a dispatcher has handed in that is not decided
abbrev pub undecided_of : ℕ → ℕ → PortView → List Notice
undecided_of f d o = map (λ x. x.notice) (filter (of_him f d) o.undecided)

-- what these notices make of a berth at a port, one after the other
abbrev pub showing : Rule → ℕ → List Decided → Vessels
showing rule p xs = fold (λ l x. (turned rule p x.notice l).list) [] xs

pub record Whole (rule : Rule) (t : Table) (h : History) (v : View) : Type 0 where
  pub table : v.table ≡ t
  pub reaches : Reaches t
  pub order : Inv (sends t) (state_of v) (common h) (λ p. book p h)
  pub floors : (q : ℕ) → AnySmall (v.port q).floor
  pub clears : (q g : ℕ) → AnySmall ((v.port q).clearance g)
  pub lines : (g q : ℕ) (r : Record) → In r (v.line g q).held → Small (pair_of r)
  pub desks : (f : ℕ) → Desk (sends t) f (v.port f)
  pub said : (f d : ℕ) → handed_by f d h ≡ said_by f d (common h) ++ undecided_of f d (v.port f)
  pub shown : (p home berth : ℕ) → v.shown p home berth ≡ showing rule p (about_berth home berth (book p h))

pub cond_same : {A : Type 0} (b : Bool) (x : A) → cond b x x ≡ x
cond_same true x = refl
cond_same false x = refl

pub cond_when : {A : Type 0} (b : Bool) (x z y : A) → (b ≡ true → x ≡ z) → cond b x y ≡ cond b z y
cond_when true x z y e = e refl
cond_when false x z y e = refl

-- WHERE ONE PORT CHANGED

module _ (v w : View) (p : ℕ) (after : PortView → PortView) (only : OnlyPort v w p after) where
  pub port_field : {A : Type 0} (F : PortView → A) (q : ℕ) → F (w.port q) ≡ cond (eqb q p) (F (after (v.port q))) (F (v.port q))
  port_field F q = ap F (only q) ∙ cond_ap F (eqb q p) (after (v.port q)) (v.port q)

  pub port_same : {A : Type 0} (F : PortView → A) → ((o : PortView) → F (after o) ≡ F o) → (q : ℕ) → F (w.port q) ≡ F (v.port q)
  port_same F e q = port_field F q ∙ ap (λ x. cond (eqb q p) x (F (v.port q))) (e (v.port q)) ∙ cond_same (eqb q p) (F (v.port q))

  pub port_all : (P : ℕ → PortView → Type 0) → (P p (v.port p) → P p (after (v.port p))) → ((q : ℕ) → P q (v.port q)) → (q : ℕ) → P q (w.port q)
  port_all P new old q = by_cond (P q) _ _ _ _ (only q)
      (λ e. subst (λ z. P z (after (v.port z))) (sym (eqb-true q p e)) (new (old p)))
      (λ _. old q)

pub state_is : (s t : State) → ((q : ℕ) → t.floor q ≡ s.floor q) → ((q g : ℕ) → t.clear q g ≡ s.clear q g) → ((q : ℕ) → t.waiting q ≡ s.waiting q) → ((g q : ℕ) → t.line g q ≡ s.line g q) → t ≡ s
state_is s t a b c d = λ i. record { floor = λ q. a q i; clear = λ q g. b q g i; waiting = λ q. c q i; line = λ g q. d g q i }

-- all that a line holds, where one line alone may have changed
pub held_by_lem : (old new : Lines) (a b : ℕ) (l : List Record) → (new a b).held ≡ l → SameBut old new a b → (g q : ℕ) → (new g q).held ≡ cond (eqb g a && eqb q b) l (old g q).held
held_by_lem old new a b l here others g q = elim (cases_Bool (eqb g a && eqb q b)) [
  | inl e ↦
      let both = and_parts (eqb g a) (eqb q b) e in
      ap (λ n. (new n q).held) (eqb-true g a both.0) ∙ ap (λ n. (new a n).held) (eqb-true q b both.1) ∙ here ∙ sym (cond-true (eqb g a && eqb q b) l (old g q).held e)
  | inr e ↦ ap (λ z. z.held) (others g q (apart e)) ∙ sym (cond-false (eqb g a && eqb q b) l (old g q).held e)
]
  where
    apart : (eqb g a && eqb q b) ≡ false → (g ≡ a) × (q ≡ b) → ⊥
    apart e z = false≢true (sym e ∙ and_from (eqb g a) (eqb q b) (eq-eqb g a z.0) (eq-eqb q b z.1))

-- A NET JUST OPENED

desk_fresh : (to : ℕ → ℕ → Bool) (f : ℕ) → Desk to f fresh
desk_fresh to f = record { sorted = tt; each = λ x m. elim m [ ]; counted = λ d. tt }

pub whole_opened : (rule : Rule) (v : View) → Opened v → Whole rule v.table [] v
whole_opened rule v o = record {
  table = refl;
  reaches = o.table;
  order = record {
    sorted = tt;
    known = λ x d. elim d [ ];
    split = λ p. record { rest = []; is = refl; pending = λ x d. elim d [ ] };
    rising = λ p. rw (ap (λ z. z.waiting) (o.ports p)) tt;
    waits = λ p x d. absurd (nothing _ x (ap (λ z. z.waiting) (o.ports p)) d);
    chain = λ f p. rw (ap (λ z. bound (z.clearance f)) (o.ports p), ap (λ l. l.held) (o.lines f p)) (omega arith);
    rides = λ f p x d. absurd (nothing _ _ (ap (λ l. l.held) (o.lines f p)) d);
    passed = λ p b d. elim d [ ];
  };
  floors = λ q. subst (λ z. AnySmall z.floor) (sym (o.ports q)) tt;
  clears = λ q g. subst (λ z. AnySmall (z.clearance g)) (sym (o.ports q)) tt;
  lines = λ g q r d. absurd (nothing _ r (ap (λ l. l.held) (o.lines g q)) d);
  desks = λ f. subst (Desk (sends v.table) f) (sym (o.ports f)) (desk_fresh (sends v.table) f);
  said = λ f d. sym (ap (undecided_of f d) (o.ports f));
  shown = o.boards;
}

-- HAND IN

-- what hand in has passed
pub record Handable (t : Table) (v : View) (x : HandIn) : Type 0 where
  pub dispatcher : x.dispatcher < 4
  pub few : (v.port x.port).given x.dispatcher < 65535
  pub reach : (q : ℕ) → named x.to q ≡ true → (q ≡ x.port → ⊥) → sends t x.port q ≡ true

pub handable : (v : View) (x : HandIn) → hand_in_fault v x ≡ None → Handable v.table v x
handable v x none =
    let a = passes _ _ _ none in
    let b = passes _ _ _ a.1 in
    let c = passes _ _ _ b.1 in
    let d = passes _ _ _ c.1 in
    let e = passes _ _ _ d.1 in
    record {
      dispatcher = up_to x.dispatcher 3 b.0;
      few = leb-false 65535 ((v.port x.port).given x.dispatcher) e.0;
      reach = in_reach_lem v.table x.port x.to (not-false (in_reach v.table x.port x.to) (or_parts (eqb x.to 0) (not (in_reach v.table x.port x.to)) d.0).1);
    }

his_map : (b : Bool) (n : Handed) → map (λ x. x.notice) (cond b (n ∷ []) []) ≡ cond b (n.notice ∷ []) []
his_map true n = refl
his_map false n = refl

his_more : (b : Bool) (n : Notice) (l c u : List Notice) → l ≡ c ++ u → cond b (l ++ n ∷ []) l ≡ c ++ (u ++ cond b (n ∷ []) [])
his_more true n l c u e = ap (λ z. z ++ n ∷ []) e ∙ append_assoc c u (n ∷ [])
his_more false n l c u e = e ∙ ap (λ z. c ++ z) (sym (append-nil u))

pub whole_hand_in : (rule : Rule) (t : Table) (h : History) (v w : View) (x : HandIn) (n : ℕ) → Whole rule t h v → HandsIn v x n w → Whole rule t (handed x n ∷ h) w
whole_hand_in rule t h v w x n i r = record {
  table = r.table ∙ i.table;
  reaches = i.reaches;
  order = subst (λ s. Inv (sends t) s (common h) (λ p. book p h)) (sym same) i.order;
  floors = port_all v w x.port (after_hand_in x) r.ports (λ _ o. AnySmall o.floor) (λ a. a) i.floors;
  clears = λ q g. port_all v w x.port (after_hand_in x) r.ports (λ _ o. AnySmall (o.clearance g)) (λ a. a) (λ z. i.clears z g) q;
  lines = λ g q y d. i.lines g q y (subst (λ l. In y l.held) (r.lines g q) d);
  desks = port_all v w x.port (after_hand_in x) r.ports (Desk (sends t)) (λ k. desk_hand_in (sends t) x.port (v.port x.port) x k refl can.dispatcher can.few can.reach) i.desks;
  said = said;
  shown = λ p a b. r.boards p a b ∙ i.shown p a b;
}
  where
    can : Handable t v x
    can = subst (λ z. Handable z v x) i.table (handable v x r.accepted)

    same : state_of w ≡ state_of v
    same = state_is (state_of v) (state_of w)
        (port_same v w x.port (after_hand_in x) r.ports (λ o. bound o.floor) (λ _. refl))
        (λ q g. port_same v w x.port (after_hand_in x) r.ports (λ o. bound (o.clearance g)) (λ _. refl) q)
        (port_same v w x.port (after_hand_in x) r.ports (λ o. o.waiting) (λ _. refl))
        (λ g q. ap (λ l. l.held) (r.lines g q))

    new : Notice
    new = notice_of x n

    -- the count is the next one
    new_is : (handed_of (v.port x.port) x).notice ≡ new
    new_is = ap (notice_of x) (sym r.answer)

    -- his undecided notices at the port where he hands in
    here : (d : ℕ) → undecided_of x.port d (after_hand_in x (v.port x.port)) ≡ undecided_of x.port d (v.port x.port) ++ cond (is_from x.port d new) (new ∷ []) []
    here d =
        ap (map (λ y. y.notice)) (his_last (sends t) x.port (v.port x.port) x (i.desks x.port) refl can.dispatcher can.few can.reach d)
        ∙ map-append (λ y. y.notice) (filter (of_him x.port d) (v.port x.port).undecided) (filter (of_him x.port d) (handed_of (v.port x.port) x ∷ []))
        ∙ ap (λ l. undecided_of x.port d (v.port x.port) ++ l) (his_map (of_him x.port d (handed_of (v.port x.port) x)) (handed_of (v.port x.port) x) ∙ ap (λ m. cond (is_from x.port d m) (m ∷ []) []) new_is)

    -- elsewhere nobody gets a notice
    there : (f d : ℕ) → eqb f x.port ≡ false → undecided_of f d (w.port f) ≡ undecided_of f d (v.port f) ++ cond (is_from f d new) (new ∷ []) []
    there f d e =
        ap (undecided_of f d) (r.ports f ∙ cond-false (eqb f x.port) (after_hand_in x (v.port f)) (v.port f) e)
        ∙ sym (append-nil (undecided_of f d (v.port f)))
        ∙ ap (λ l. undecided_of f d (v.port f) ++ l) (sym (cond-false (is_from f d new) (new ∷ []) [] (and_left (eqb x.port f) (eqb x.dispatcher d) (ne_eqb x.port f (λ z. eqb-false f x.port e (sym z))))))

    grows : (f d : ℕ) → undecided_of f d (w.port f) ≡ undecided_of f d (v.port f) ++ cond (is_from f d new) (new ∷ []) []
    grows f d = elim (cases_Bool (eqb f x.port)) [
      | inl e ↦ subst (λ g. undecided_of g d (w.port g) ≡ undecided_of g d (v.port g) ++ cond (is_from g d new) (new ∷ []) []) (sym (eqb-true f x.port e))
          (ap (undecided_of x.port d) (r.ports x.port ∙ cond-true (eqb x.port x.port) (after_hand_in x (v.port x.port)) (v.port x.port) (eq-eqb x.port x.port refl)) ∙ here d)
      | inr e ↦ there f d e
    ]

    said : (f d : ℕ) → handed_by f d (handed x n ∷ h) ≡ said_by f d (common h) ++ undecided_of f d (w.port f)
    said f d = his_more (is_from f d new) new (handed_by f d h) (said_by f d (common h)) (undecided_of f d (v.port f)) (i.said f d) ∙ ap (λ l. said_by f d (common h) ++ l) (sym (grows f d))

-- BRING

pub whole_bring : (rule : Rule) (t : Table) (h : History) (v w : View) (a b : ℕ) → Whole rule t h v → Brings v a b w → Whole rule t (brought a b ∷ h) w
whole_bring rule t h v w a b i r = record {
  table = r.table ∙ i.table;
  reaches = i.reaches;
  order = subst (λ s. Inv (sends t) s (common h) (λ p. book p h)) (sym same) i.order;
  floors = λ q. subst (λ o. AnySmall o.floor) (sym (r.ports q)) (i.floors q);
  clears = λ q g. subst (λ o. AnySmall (o.clearance g)) (sym (r.ports q)) (i.clears q g);
  lines = λ g q y d. i.lines g q y (subst (λ l. In y l) (held g q) d);
  desks = λ f. subst (Desk (sends t) f) (sym (r.ports f)) (i.desks f);
  said = λ f d. i.said f d ∙ ap (λ o. said_by f d (common h) ++ undecided_of f d o) (sym (r.ports f));
  shown = λ p x y. r.boards p x y ∙ i.shown p x y;
}
  where
    held : (g q : ℕ) → (w.line g q).held ≡ (v.line g q).held
    held g q = held_by_lem v.line w.line a b (v.line a b).held r.lines.held r.lines.others g q ∙ by_cond (λ l. l ≡ (v.line g q).held) _ (eqb g a && eqb q b) (v.line a b).held (v.line g q).held refl
        (λ e. let both = and_parts (eqb g a) (eqb q b) e in sym (ap (λ n. (v.line n q).held) (eqb-true g a both.0) ∙ ap (λ n. (v.line a n).held) (eqb-true q b both.1)))
        (λ _. refl)

    same : state_of w ≡ state_of v
    same = state_is (state_of v) (state_of w) (λ q. ap (λ o. bound o.floor) (r.ports q)) (λ q g. ap (λ o. bound (o.clearance g)) (r.ports q)) (λ q. ap (λ o. o.waiting) (r.ports q)) held

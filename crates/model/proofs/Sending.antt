-- What decide and clear keep.
use Rattle.std.proofs.Common.{◌≡◌, ℕ, ◌+◌, ◌<◌, ◌≤◌, Bool, true, false, cond, not, ◌&&◌, ◌||◌, eqb, ltb, List, [], ◌∷◌, ◌++◌, map, Some, filter, Option, sym, refl, ap, ◌∙◌, subst, inl, inr, append_assoc, append-nil, arith}
use mathlib.Core.List.Memᴰ
use mathlib.Core.List.{map-append}
use Rattle.std.proofs.lemmas.Bool.{eqb-true, eqb-false, eq-eqb, ne_eqb, cases_Bool, and_parts, and_from, and_left, and_right, lt-ltb, not-false, not_from_false, cond-true, cond-false, true≢false}
use Rattle.records.specs.Keys.{decided_before}
use Rattle.records.specs.declared.fault.NetFault.TheVariants.{NoSuchPort, WorkingListShort, WrongNumber, WrongCut, StepUsedUp}
use Rattle.records.specs.declared.stamp.Pair.{Pair}
use Rattle.records.specs.declared.stamp.Stamp.{Stamp}
use Rattle.records.specs.declared.notice.Handed.{Handed}
use Rattle.records.specs.declared.notice.Decided.{Decided}
use Rattle.records.specs.declared.notice.Record.{Record}
use Rattle.records.specs.declared.notice.Record.TheVariants.{Notice as Carries, Empty}
use Rattle.wires.specs.Lines.{is_line}
use Rattle.boards.specs.Rules.{Rule}
use Rattle.model.specs.Lists.{placed_all}
use Rattle.model.specs.Views.{Table, PortView, View, sends, outside}
use Rattle.model.specs.Stamping.{next_pair, step_fits, stamped, floor_after, stampable}
use Rattle.model.specs.Batches.{within, batch, left, goes_to, sent_to, copies_on}
use Rattle.model.specs.Calls.{Decide, decision}
use Rattle.model.specs.Refusals.{cuts_fit, clearance_on, clearance_stamp}
use Rattle.model.specs.Steps.{Decides, Clears, pair_of, after_decide, after_clear}
use Rattle.model.specs.Histories.{History, decided, cleared, common, book, is_from}
use Rattle.model.specs.Law.{In, said_by}
use Rattle.model.proofs.Lists.{kept_mem, kept_none, kept_map}
use Rattle.model.proofs.Heights.{height, height_of, bound, AnySmall, Small, fits_small}
use Rattle.model.proofs.Rules.{next_above, clear_floor}
use Rattle.model.proofs.Inv.{State, AtMostOne, Inv}
use Rattle.model.proofs.Inv as Core
use Rattle.model.proofs.Clear.{kept_by_clear}
use Rattle.model.proofs.Batch.{insert_all, copies, last_of, Stampable, AllStampable, Good, kept_by_batch, batch_last, good_places, stampable_good}
use Rattle.model.proofs.Batch as Folded
use Rattle.model.proofs.Passing.{passes, inside_table}
use Rattle.model.proofs.Desks.{of_him, Entry, Desk, desk_decide, his_cut}
use Rattle.model.proofs.Lives.{state_of, undecided_of, Whole, cond_when, port_field, port_same, port_all}

-- THE BATCH IS STAMPED BY THE RULE

stampables : (to : ℕ → ℕ → Bool) (f : ℕ) (o : PortView) (ns : List Handed) (floor : Option Pair) → AnySmall floor → ((n : Handed) → In n ns → Entry to f o n) → stampable (stamped f floor ns) ≡ true → AllStampable to f (bound floor) (stamped f floor ns)
stampables to f o [] floor small k e = tt
stampables to f o (n ∷ ns) floor small k e =
    let both = and_parts (step_fits (next_pair floor n.clock)) (stampable (stamped f (Some (next_pair floor n.clock)) ns)) e in
    let s : Small (next_pair floor n.clock) = fits_small (next_pair floor n.clock) both.0 in
    let y = k n (Memᴰ.head refl) in
    (record { above = next_above floor n.clock small; source = refl; said = y.source; small = s; reach = y.reach }, stampables to f o ns (Some (next_pair floor n.clock)) s (λ m d. k m (Memᴰ.tail d)) both.1)

floor_last : (floor : Option Pair) (ds : List Decided) → bound (floor_after floor ds) ≡ last_of (bound floor) ds
floor_last floor [] = refl
floor_last floor (d ∷ ds) = floor_last (Some d.stamp.pair) ds

floor_small : (floor : Option Pair) (ds : List Decided) → AnySmall floor → ((d : Decided) → In d ds → Small d.stamp.pair) → AnySmall (floor_after floor ds)
floor_small floor [] s k = s
floor_small floor (d ∷ ds) s k = floor_small (Some d.stamp.pair) ds (k d (Memᴰ.head refl)) (λ x m. k x (Memᴰ.tail m))

-- a stamped notice says what it said
same_words : (f : ℕ) (floor : Option Pair) (ns : List Handed) → map (λ x. x.notice) (stamped f floor ns) ≡ map (λ x. x.notice) ns
same_words f floor [] = refl
same_words f floor (n ∷ ns) = ap (λ l. n.notice ∷ l) (same_words f (Some (next_pair floor n.clock)) ns)

map_mem : (x : Record) (ds : List Decided) → In x (map Carries ds) → (d : Decided) × (x ≡ Carries d) × In d ds
map_mem x [] m = elim m [ ]
map_mem x (d ∷ ds) (Memᴰ.head e) = (d, e, Memᴰ.head refl)
map_mem x (d ∷ ds) (Memᴰ.tail m) = let a = map_mem x ds m in (a.0, a.1, Memᴰ.tail a.2)

copy_mem : (b : Bool) (x : Record) (ds : List Decided) → In x (cond b (map Carries ds) []) → (d : Decided) × (x ≡ Carries d) × In d ds
copy_mem true x ds m = map_mem x ds m
copy_mem false x ds m = elim m [ ]

line_cases : (b : Bool) (l xs ys : List Record) → (b ≡ true → xs ≡ ys) → (b ≡ false → xs ≡ []) → l ++ xs ≡ cond b (l ++ ys) l
line_cases true l xs ys e n = ap (λ z. l ++ z) (e refl)
line_cases false l xs ys e n = ap (λ z. l ++ z) (n refl) ∙ append-nil l

-- DECIDE

module _ (rule : Rule) (t : Table) (h : History) (v w : View) (x : Decide) (ds : List Decided) (n m : ℕ) (depth : ℕ) (i : Whole rule t h v) (r : Decides depth v x ds n m w) where
  abbrev o : PortView
  o = v.port x.port

  abbrev und : List Handed
  und = batch x.cuts o.undecided

  port8 : x.port < 8
  port8 =
      let a = subst (λ z. x.port < z.ports) i.table (inside_table v.table x.port (passes _ _ _ r.accepted).0) in
      let b = i.reaches.most in
      omega (arith, a, b)

  fits : stampable (decision o x) ≡ true
  fits =
      let a = passes (outside v.table x.port) NoSuchPort _ r.accepted in
      let b = passes (ltb x.places 16) WorkingListShort _ a.1 in
      let c = passes (not (eqb x.number o.number) || ltb 65535 x.number) WrongNumber _ b.1 in
      let d = passes (not (cuts_fit o x.cuts)) WrongCut _ c.1 in
      let e = passes (not (stampable (decision o x))) StepUsedUp _ d.1 in
      not-false (stampable (decision o x)) e.0

  entries : (y : Handed) → In y und → Entry (sends t) x.port o y
  entries y d = (i.desks x.port).each y (kept_mem (within x.cuts) o.undecided d)

  each : AllStampable (sends t) x.port (bound o.floor) ds
  each = subst (AllStampable (sends t) x.port (bound o.floor)) (sym r.batch) (stampables (sends t) x.port o und o.floor (i.floors x.port) entries fits)

  good : (d : Decided) → In d ds → Good d
  good = stampable_good (sends t) x.port (bound o.floor) ds port8 each

  good_common : (y : Decided) → In y (common h) → Good y
  good_common y d = let k = i.order.known y d in record { small = k.small; port = k.port }

  -- to another port only where there is a line
  to_line : (lo : ℕ) (l : List Decided) → AllStampable (sends t) x.port lo l → (q : ℕ) → (q ≡ x.port → ⊥) → (d : Decided) → In d l → goes_to q d ≡ true → is_line x.port q ≡ true
  to_line lo [] k q far d a to = elim a [ ]
  to_line lo (y ∷ ys) k q far d (Memᴰ.head e) to =
      let s = i.reaches.inside x.port q (k.0.reach q (subst (λ z. goes_to q z ≡ true) e to) far) in
      let most = i.reaches.most in
      and_from (ltb x.port 8) (ltb q 8 && not (eqb x.port q)) (lt-ltb x.port 8 port8) (and_from (ltb q 8) (not (eqb x.port q)) (lt-ltb q 8 (let b = s.1 in omega (arith, b, most))) (not_from_false (eqb x.port q) (ne_eqb x.port q (λ z. s.2 (sym z)))))
  to_line lo (y ∷ ys) k q far d (Memᴰ.tail a) to = to_line (height_of y + 1) ys k.1 q far d a to

  no_line : (q : ℕ) → (q ≡ x.port → ⊥) → is_line x.port q ≡ false → sent_to q ds ≡ []
  no_line q far e = kept_none (goes_to q) ds (λ d a. elim (cases_Bool (goes_to q d)) [ inl to ↦ absurd (true≢false (sym (to_line (bound o.floor) ds each q far d a to) ∙ e)) | inr to ↦ to ])

  copies_are : (q : ℕ) → cond (is_line x.port q) (map Carries (sent_to q ds)) [] ≡ copies x.port ds q
  copies_are q = elim (cases_Bool (eqb q x.port)) [
    | inl e ↦
        cond-false (is_line x.port q) (map Carries (sent_to q ds)) [] (and_right (ltb x.port 8) (ltb q 8 && not (eqb x.port q)) (and_right (ltb q 8) (not (eqb x.port q)) (ap not (eq-eqb x.port q (sym (eqb-true q x.port e))))))
        ∙ sym (cond-true (eqb q x.port) [] (map Carries (sent_to q ds)) e)
    | inr e ↦ elim (cases_Bool (is_line x.port q)) [
      | inl z ↦ cond-true (is_line x.port q) (map Carries (sent_to q ds)) [] z ∙ sym (cond-false (eqb q x.port) [] (map Carries (sent_to q ds)) e)
      | inr z ↦
          cond-false (is_line x.port q) (map Carries (sent_to q ds)) [] z
          ∙ sym (ap (map Carries) (no_line q (eqb-false q x.port e) z))
          ∙ sym (cond-false (eqb q x.port) [] (map Carries (sent_to q ds)) e)
    ]
  ]

  line_is : (g q : ℕ) → (w.line g q).held ≡ cond (eqb g x.port) ((v.line g q).held ++ copies x.port ds q) (v.line g q).held
  line_is g q = r.lines.held g q ∙ line_cases (eqb g x.port) (v.line g q).held (copies_on x.port ds g q) (copies x.port ds q)
      (λ e. ap (λ b. cond b (map Carries (sent_to q ds)) []) (ap (λ b. b && is_line g q) e) ∙ ap (λ z. cond (is_line z q) (map Carries (sent_to q ds)) []) (eqb-true g x.port e) ∙ copies_are q)
      (λ e. ap (λ b. cond b (map Carries (sent_to q ds)) []) (and_left (eqb g x.port) (is_line g q) e))

  -- at the port itself the decision is the batch
  at_port : (q : ℕ) → eqb q x.port ≡ true → decision (v.port q) x ≡ ds
  at_port q e = ap (λ z. decision (v.port z) x) (eqb-true q x.port e) ∙ sym r.batch

  waiting_is : (q : ℕ) → (w.port q).waiting ≡ cond (eqb q x.port) (insert_all (sent_to q ds) (v.port q).waiting) (v.port q).waiting
  waiting_is q = port_field v w x.port (after_decide x) r.ports (λ z. z.waiting) q ∙ cond_when (eqb q x.port) _ _ _ (λ e.
      ap (λ z. placed_all decided_before (sent_to x.port z) (v.port q).waiting) (at_port q e)
      ∙ ap (λ p. placed_all decided_before (sent_to p ds) (v.port q).waiting) (sym (eqb-true q x.port e))
      ∙ good_places (sent_to q ds) (v.port q).waiting (λ d a. good d (kept_mem (goes_to q) ds a)) (λ y a. good_common y (i.order.waits q y a).common))

  decides : Folded.Decides (sends t) (state_of v) (state_of w) x.port ds
  decides = record {
    port = port8;
    each = each;
    floor = λ q. port_field v w x.port (after_decide x) r.ports (λ z. bound z.floor) q ∙ cond_when (eqb q x.port) _ _ _ (λ e. ap (λ z. bound (floor_after (v.port q).floor z)) (at_port q e) ∙ floor_last (v.port q).floor ds);
    clear = λ q g. port_same v w x.port (after_decide x) r.ports (λ z. bound (z.clearance g)) (λ _. refl) q;
    waiting = waiting_is;
    line = line_is;
  }

  common_is : placed_all decided_before ds (common h) ≡ insert_all ds (common h)
  common_is = good_places ds (common h) good good_common

  -- what he says in the batch
  his_batch : (g d : ℕ) → said_by g d ds ≡ map (λ y. y.notice) (filter (of_him g d) und)
  his_batch g d =
      sym (kept_map (λ y. y.notice) (is_from g d) ds)
      ∙ ap (filter (is_from g d)) (ap (map (λ y. y.notice)) r.batch ∙ same_words x.port o.floor und)
      ∙ kept_map (λ y. y.notice) (is_from g d) und

  said_more : (g d : ℕ) → said_by g d (placed_all decided_before ds (common h)) ≡ said_by g d (common h) ++ said_by g d ds
  said_more g d =
      ap (said_by g d) common_is
      ∙ ap (map (λ y. y.notice)) (batch_last (sends t) x.port (λ p. book p h) (state_of w) ds (state_of v) (common h) i.order decides g d)
      ∙ map-append (λ y. y.notice) (filter (λ y. is_from g d y.notice) (common h)) (filter (λ y. is_from g d y.notice) ds)

  -- his cut takes the first part of what he has undecided
  here : (d : ℕ) → said_by x.port d ds ++ undecided_of x.port d (after_decide x o) ≡ undecided_of x.port d o
  here d =
      ap (λ l. l ++ undecided_of x.port d (after_decide x o)) (his_batch x.port d)
      ∙ sym (map-append (λ y. y.notice) (filter (of_him x.port d) und) (filter (of_him x.port d) (left x.cuts o.undecided)))
      ∙ ap (map (λ y. y.notice)) (his_cut (sends t) x.port o x.cuts (i.desks x.port) d)

  -- nobody of another port has a part in it
  there : (g d : ℕ) → eqb g x.port ≡ false → said_by g d ds ≡ []
  there g d e = his_batch g d ∙ ap (map (λ y. y.notice)) (kept_none (of_him g d) und (λ y a. and_left (eqb y.notice.source g) (eqb y.notice.dispatcher d) (ne_eqb y.notice.source g (λ z. eqb-false g x.port e (sym z ∙ (entries y a).source)))))

  shrinks : (g d : ℕ) → said_by g d ds ++ undecided_of g d (w.port g) ≡ undecided_of g d (v.port g)
  shrinks g d = elim (cases_Bool (eqb g x.port)) [
    | inl e ↦ subst (λ z. said_by z d ds ++ undecided_of z d (w.port z) ≡ undecided_of z d (v.port z)) (sym (eqb-true g x.port e))
        (ap (λ z. said_by x.port d ds ++ undecided_of x.port d z) (r.ports x.port ∙ cond-true (eqb x.port x.port) (after_decide x o) o (eq-eqb x.port x.port refl)) ∙ here d)
    | inr e ↦ ap (λ l. l ++ undecided_of g d (w.port g)) (there g d e) ∙ ap (undecided_of g d) (r.ports g ∙ cond-false (eqb g x.port) (after_decide x (v.port g)) (v.port g) e)
  ]

  pub whole_decide : Whole rule t (decided x ds n m ∷ h) w
  whole_decide = record {
    table = r.table ∙ i.table;
    reaches = i.reaches;
    order = subst (λ c. Inv (sends t) (state_of w) c (λ p. book p h)) (sym common_is) (kept_by_batch (sends t) x.port (λ p. book p h) (state_of w) ds (state_of v) (common h) i.order decides);
    floors = port_all v w x.port (after_decide x) r.ports (λ _ z. AnySmall z.floor) (λ a. floor_small o.floor (decision o x) a (λ d b. (good d (subst (λ l. In d l) (sym r.batch) b)).small)) i.floors;
    clears = λ q g. port_all v w x.port (after_decide x) r.ports (λ _ z. AnySmall (z.clearance g)) (λ a. a) (λ z. i.clears z g) q;
    lines = λ g q y a. elim (Memᴰ.append_cases (v.line g q).held (subst (λ l. In y l) (r.lines.held g q) a)) [
      | inl b ↦ i.lines g q y b
      | inr b ↦ let z = copy_mem (eqb g x.port && is_line g q) y (sent_to q ds) b in subst (λ s. Small (pair_of s)) (sym z.1) (good z.0 (kept_mem (goes_to q) ds z.2)).small
    ];
    desks = port_all v w x.port (after_decide x) r.ports (Desk (sends t)) (desk_decide (sends t) x.port o x) i.desks;
    said = λ g d.
        i.said g d
        ∙ ap (λ l. said_by g d (common h) ++ l) (sym (shrinks g d))
        ∙ sym (append_assoc (said_by g d (common h)) (said_by g d ds) (undecided_of g d (w.port g)))
        ∙ ap (λ l. l ++ undecided_of g d (w.port g)) (sym (said_more g d));
    shown = λ p a b. r.boards p a b ∙ i.shown p a b;
  }

-- CLEAR

one_empty : (b : Bool) (s : Stamp) → AtMostOne (height s.pair) (cond b (Empty s ∷ []) [])
one_empty true s = inr (Empty s, refl, refl)
one_empty false s = inl refl

carries_empty : (y : Decided) (s : Stamp) → Carries y ≡ Empty s → ⊥
carries_empty y s e = let z : ◌≡◌ {A = ℕ} 0 1 = cc in omega arith

no_notice : (b : Bool) (s : Stamp) (y : Decided) → In (Carries y) (cond b (Empty s ∷ []) []) → ⊥
no_notice true s y m = carries_empty y s (Memᴰ.eq_of_singleton m)
no_notice false s y m = elim m [ ]

empty_small : (b : Bool) (s : Stamp) (y : Record) → Small s.pair → In y (cond b (Empty s ∷ []) []) → Small (pair_of y)
empty_small true s y k m = subst (λ z. Small (pair_of z)) (sym (Memᴰ.eq_of_singleton m)) k
empty_small false s y k m = elim m [ ]

module _ (rule : Rule) (t : Table) (h : History) (v w : View) (port reading : ℕ) (p : Pair) (depth : ℕ) (i : Whole rule t h v) (r : Clears depth v port reading p w) where
  small : Small p
  small =
      let a = passes _ _ _ r.accepted in
      let b = passes _ _ _ a.1 in
      subst Small (sym r.pair) (fits_small (clearance_stamp v port reading).pair (not-false (step_fits (clearance_stamp v port reading).pair) b.0))

  puts : ℕ → List Record
  puts q = cond (sends v.table port q) (Empty (record { pair = p; port = port }) ∷ []) []

  clears : Core.Clears (state_of v) (state_of w) port (height p) puts
  unfolding puts
  clears = record {
    marks = record {
      above = subst (λ z. bound (v.port port).floor ≤ height z) (sym r.pair) (next_above (v.port port).floor reading (i.floors port));
      single = λ q. one_empty (sends v.table port q) (record { pair = p; port = port });
      floor = λ q. port_field v w port (after_clear p) r.ports (λ z. bound z.floor) q ∙ ap (λ k. cond (eqb q port) k (bound (v.port q).floor)) (clear_floor p (v.port q));
      clear = λ q g. port_same v w port (after_clear p) r.ports (λ z. bound (z.clearance g)) (λ _. refl) q;
      line = λ g q. r.lines.held g q ∙ line_cases (eqb g port) (v.line g q).held (clearance_on v.table (record { pair = p; port = port }) g q) (puts q)
          (λ e. ap (λ b. cond (b && sends v.table port q) (Empty (record { pair = p; port = port }) ∷ []) []) e)
          (λ e. ap (λ b. cond (b && sends v.table port q) (Empty (record { pair = p; port = port }) ∷ []) []) e);
    };
    only = λ q y. no_notice (sends v.table port q) (record { pair = p; port = port }) y;
    waiting = port_same v w port (after_clear p) r.ports (λ z. z.waiting) (λ _. refl);
  }

  pub whole_clear : Whole rule t (cleared port reading p ∷ h) w
  whole_clear = record {
    table = r.table ∙ i.table;
    reaches = i.reaches;
    order = kept_by_clear (sends t) (state_of v) (state_of w) (common h) (λ q. book q h) port (height p) puts i.order clears;
    floors = port_all v w port (after_clear p) r.ports (λ _ z. AnySmall z.floor) (λ _. small) i.floors;
    clears = λ q g. port_all v w port (after_clear p) r.ports (λ _ z. AnySmall (z.clearance g)) (λ a. a) (λ z. i.clears z g) q;
    lines = λ g q y a. elim (Memᴰ.append_cases (v.line g q).held (subst (λ l. In y l) (r.lines.held g q) a)) [
      | inl b ↦ i.lines g q y b
      | inr b ↦ empty_small (eqb g port && sends v.table port q) (record { pair = p; port = port }) y small b
    ];
    desks = port_all v w port (after_clear p) r.ports (Desk (sends t)) (λ k. k) i.desks;
    said = λ g d. i.said g d ∙ ap (λ l. said_by g d (common h) ++ l) (sym (port_same v w port (after_clear p) r.ports (undecided_of g d) (λ _. refl) g));
    shown = λ q a b. r.boards q a b ∙ i.shown q a b;
  }

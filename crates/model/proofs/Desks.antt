-- What a port keeps undecided: in the order of clock, dispatcher, count each dispatcher's notices stand by count.
use Rattle.std.proofs.Common.{◌≡◌, ℕ, ◌+◌, ◌*◌, ◌<◌, ◌≤◌, max, Bool, true, not, eqb, ltb, leb, List, [], ◌∷◌, ◌++◌, get_or, filter, sym, refl, ap, ◌∙◌, subst, inl, inr, append-nil, arith}
use Rattle.ordered.specs.Orders.{placed}
use Rattle.std.proofs.lemmas.Bool.Decides.{nat_tests}
use Rattle.std.proofs.lemmas.Bool.{eqb-true, eq-eqb, cases_Bool, and_parts, cond-true, cond-false, cond_both}
use Rattle.records.specs.Keys.{handed_before}
use Rattle.records.specs.Masks.{named}
use Rattle.records.specs.declared.notice.Notice.{Notice}
use Rattle.records.specs.declared.notice.Handed.{Handed}
use Rattle.model.specs.Views.{PortView}
use Rattle.model.specs.Batches.{within, batch, left}
use Rattle.model.specs.Calls.{HandIn, Decide, handed_of}
use Rattle.model.specs.Steps.{after_hand_in, after_decide}
use Rattle.model.specs.Histories.{is_from}
use Rattle.model.specs.Law.{In}
use Rattle.model.proofs.Lists.{Sorted, insert, insert_cases, sorted_insert, sorted_kept, sorted_push, insert_last, kept_insert, kept_insert_not, kept_mem, kept_passes, kept_swap, kept_same, cut_front, placed_insert}

-- the place of an undecided notice, as one number
abbrev pub turn : Handed → ℕ
turn x = (x.clock * 4 + x.notice.dispatcher) * 65536 + x.notice.count

abbrev pub count_of : Handed → ℕ
count_of x = x.notice.count

abbrev pub of_him : ℕ → ℕ → Handed → Bool
of_him f d x = is_from f d x.notice

pub turn_before : (x y : Handed) → x.notice.dispatcher < 4 → y.notice.dispatcher < 4 → count_of x < 65536 → count_of y < 65536 → handed_before x y ≡ ltb (turn x) (turn y)
turn_before x y p q r s = grind (arith, nat_tests)

pub record EntryOf (sends : ℕ → ℕ → Bool) (f : ℕ) (given clocks : ℕ → ℕ) (x : Handed) : Type 0 where
  pub source : x.notice.source ≡ f
  pub dispatcher : x.notice.dispatcher < 4
  pub few : count_of x < 65536
  pub count : count_of x ≤ given x.notice.dispatcher
  pub clock : x.clock ≤ clocks x.notice.dispatcher
  pub reach : (q : ℕ) → named x.notice.to.bits q ≡ true → (q ≡ f → ⊥) → sends f q ≡ true

pub record DeskOf (sends : ℕ → ℕ → Bool) (f : ℕ) (undecided : List Handed) (given clocks : ℕ → ℕ) : Type 0 where
  pub sorted : Sorted turn undecided
  pub each : (x : Handed) → In x undecided → EntryOf sends f given clocks x
  pub counted : (d : ℕ) → Sorted count_of (filter (of_him f d) undecided)

abbrev pub Entry : (ℕ → ℕ → Bool) → ℕ → PortView → Handed → Type 0
Entry sends f o x = EntryOf sends f o.given o.clock x

abbrev pub Desk : (ℕ → ℕ → Bool) → ℕ → PortView → Type 0
Desk sends f o = DeskOf sends f o.undecided o.given o.clock

from_parts : (f d : ℕ) (n : Notice) → is_from f d n ≡ true → (n.source ≡ f) × (n.dispatcher ≡ d)
from_parts f d n e = let both = and_parts (eqb n.source f) (eqb n.dispatcher d) e in (eqb-true n.source f both.0, eqb-true n.dispatcher d both.1)

-- HAND IN

module _ (sends : ℕ → ℕ → Bool) (f : ℕ) (o : PortView) (x : HandIn) (k : Desk sends f o) (here : x.port ≡ f) (four : x.dispatcher < 4) (few : o.given x.dispatcher < 65535) (reach : (q : ℕ) → named x.to q ≡ true → (q ≡ f → ⊥) → sends f q ≡ true) where
  abbrev new : Handed
  new = handed_of o x

  pub placed_new : placed handed_before new o.undecided ≡ insert turn new o.undecided
  placed_new = placed_insert handed_before turn new o.undecided (λ y m. let e = k.each y m in turn_before new y four e.dispatcher (omega (arith, few)) e.few)

  apart : (y : Handed) → In y o.undecided → turn y ≡ turn new → ⊥
  apart y m same =
      let e = k.each y m in
      let d : y.notice.dispatcher ≡ x.dispatcher = omega (arith, same, e.dispatcher, e.few, four, few) in
      let c : count_of y ≤ o.given x.dispatcher = subst (λ n. count_of y ≤ o.given n) d e.count in
      omega (arith, same, e.dispatcher, e.few, four, few, c)

  -- it comes after all that he handed in before
  behind_his : (d : ℕ) → of_him f d new ≡ true → (y : Handed) → In y (filter (of_him f d) o.undecided) → (turn y < turn new) × (count_of y < count_of new)
  behind_his d mine y m =
      let e = k.each y (kept_mem (of_him f d) o.undecided m) in
      let his : y.notice.dispatcher ≡ x.dispatcher = (from_parts f d y.notice (kept_passes (of_him f d) o.undecided m)).1 ∙ sym (from_parts f d new.notice mine).1 in
      let c : count_of y ≤ o.given x.dispatcher = subst (λ n. count_of y ≤ o.given n) his e.count in
      let t : y.clock ≤ o.clock x.dispatcher = subst (λ n. y.clock ≤ o.clock n) his e.clock in
      (omega (arith, his, c, t), omega (arith, c))

  pub his_last : (d : ℕ) → filter (of_him f d) (placed handed_before new o.undecided) ≡ filter (of_him f d) o.undecided ++ filter (of_him f d) (new ∷ [])
  his_last d = ap (filter (of_him f d)) placed_new ∙ elim (cases_Bool (of_him f d new)) [
    | inl z ↦
        kept_insert turn (of_him f d) new o.undecided k.sorted z
        ∙ insert_last turn new (filter (of_him f d) o.undecided) (λ y m. (behind_his d z y m).0)
        ∙ ap (λ l. filter (of_him f d) o.undecided ++ l) (sym (cond-true (of_him f d new) (new ∷ []) [] z))
    | inr z ↦
        kept_insert_not turn (of_him f d) new o.undecided z
        ∙ sym (append-nil (filter (of_him f d) o.undecided))
        ∙ ap (λ l. filter (of_him f d) o.undecided ++ l) (sym (cond-false (of_him f d new) (new ∷ []) [] z))
  ]

  entry_new : Entry sends f (after_hand_in x o) new
  entry_new = record {
    source = here;
    dispatcher = four;
    few = omega (arith, few);
    count = rw (eq-eqb x.dispatcher x.dispatcher refl) (omega arith);
    clock = rw (eq-eqb x.dispatcher x.dispatcher refl) (omega arith);
    reach = reach;
  }

  entry_old : (y : Handed) → Entry sends f o y → Entry sends f (after_hand_in x o) y
  entry_old y e = record {
    source = e.source;
    dispatcher = e.dispatcher;
    few = e.few;
    count = cond_both (eqb y.notice.dispatcher x.dispatcher) (o.given x.dispatcher + 1) (o.given y.notice.dispatcher) (λ n. count_of y ≤ n)
        (λ z. let c : count_of y ≤ o.given x.dispatcher = subst (λ n. count_of y ≤ o.given n) (eqb-true y.notice.dispatcher x.dispatcher z) e.count in omega (arith, c))
        (λ _. e.count);
    clock = cond_both (eqb y.notice.dispatcher x.dispatcher) (max (o.clock x.dispatcher) x.reading) (o.clock y.notice.dispatcher) (λ n. y.clock ≤ n)
        (λ z. let c : y.clock ≤ o.clock x.dispatcher = subst (λ n. y.clock ≤ o.clock n) (eqb-true y.notice.dispatcher x.dispatcher z) e.clock in omega (arith, c))
        (λ _. e.clock);
    reach = e.reach;
  }

  pub desk_hand_in : Desk sends f (after_hand_in x o)
  desk_hand_in = record {
    sorted = subst (Sorted turn) (sym placed_new) (sorted_insert turn new o.undecided k.sorted apart);
    each = λ y m. elim (insert_cases turn new o.undecided (subst (λ l. In y l) placed_new m)) [
      | inl z ↦ subst (Entry sends f (after_hand_in x o)) (sym z) entry_new
      | inr a ↦ entry_old y (k.each y a)
    ];
    counted = λ d. subst (Sorted count_of) (sym (his_last d)) (cond_both (of_him f d new) (new ∷ []) [] (λ l. Sorted count_of (filter (of_him f d) o.undecided ++ l))
        (λ z. sorted_push count_of (filter (of_him f d) o.undecided) new (k.counted d) (λ y m. (behind_his d z y m).1))
        (λ _. subst (Sorted count_of) (sym (append-nil (filter (of_him f d) o.undecided))) (k.counted d)));
  }

-- DECIDE

pub desk_decide : (sends : ℕ → ℕ → Bool) (f : ℕ) (o : PortView) (x : Decide) → Desk sends f o → Desk sends f (after_decide x o)
desk_decide sends f o x k =
    let t : Handed → Bool = λ n. not (within x.cuts n) in
    record {
      sorted = sorted_kept turn t o.undecided k.sorted;
      each = λ y m. k.each y (kept_mem t o.undecided m);
      counted = λ d. subst (Sorted count_of) (sym (kept_swap (of_him f d) t o.undecided)) (sorted_kept count_of t (filter (of_him f d) o.undecided) (k.counted d));
    }

-- a cut takes the first of his undecided notices
pub his_cut : (sends : ℕ → ℕ → Bool) (f : ℕ) (o : PortView) (cuts : List ℕ) → Desk sends f o → (d : ℕ) → filter (of_him f d) (batch cuts o.undecided) ++ filter (of_him f d) (left cuts o.undecided) ≡ filter (of_him f d) o.undecided
his_cut sends f o cuts k d =
    let his : List Handed = filter (of_him f d) o.undecided in
    let c : ℕ = get_or cuts d 0 in
    let same : (x : Handed) → In x his → within cuts x ≡ leb (count_of x) c = λ x m. ap (λ e. leb (count_of x) (get_or cuts e 0)) (from_parts f d x.notice (kept_passes (of_him f d) o.undecided m)).1 in
    ap (λ l. l ++ filter (of_him f d) (left cuts o.undecided)) (kept_swap (of_him f d) (within cuts) o.undecided ∙ kept_same (within cuts) (λ x. leb (count_of x) c) his same)
    ∙ ap (λ l. filter (λ x. leb (count_of x) c) his ++ l) (kept_swap (of_him f d) (λ n. not (within cuts n)) o.undecided ∙ kept_same (λ n. not (within cuts n)) (λ x. not (leb (count_of x) c)) his (λ x m. ap not (same x m)))
    ∙ cut_front count_of c his (k.counted d)

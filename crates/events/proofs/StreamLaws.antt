-- A whole stream: what is written is accepted, and what is accepted was written, by one table and one list of events. Assumes nothing.
use Rattle.std.proofs.Common.{◌≡◌, ℕ, ◌+◌, ◌<◌, ◌≤◌, List, [], ◌∷◌, ◌++◌, length, take, drop, sym, refl, ap, ◌∙◌, subst, inr, ⊎_elim, arith}
use Rattle.std.proofs.lemmas.List.{take_at, drop_at, take-append-drop, length-take-le, length-drop, length-append, append_assoc, append-nil, get_or-drop, take_all}
use Rattle.std.proofs.lemmas.Bool.{cases_lt}
use Rattle.std.specs.List.{AllByRecursion}
use Rattle.records.specs.declared.fault.ReaderFault.TheVariants.{StreamTooLong}
use Rattle.records.specs.declared.fault.TableFault.TheVariants.{WrongCount}
use Rattle.events.specs.declared.event.Event.{Event}
use Rattle.events.specs.Fields.{Reading, table, event, end, refused, read_field, read_at, longest}
use Rattle.events.specs.Writing.{event_bytes, events_bytes, table_bytes, stream_of, Fit}
use Rattle.events.specs.Streams.{Says, none, more, IsTable, Accepted, FirstTable, SaysRest, ReadWhole}
use Rattle.events.proofs.Values.{Bytes}
use Rattle.events.proofs.Readings.{too_long, not_long, field_end}
use Rattle.events.proofs.FieldLaws.{Written, event_back, table_back, event_at, table_at, end_at, event_later, end_later, table_first}

-- ---- what is written is accepted

pub table_short : (masks : List ℕ) → IsTable masks → length masks ≤ 8
table_short masks ok = ⊎_elim (λ lt. absurd (ok WrongCount (inr lt))) (λ le. le) (cases_lt 8 (length masks))

ne_end : (p : ℕ) → 0 < p → read_field p [] ≡ end
ne_end p lt = field_end p [] refl lt

-- the events behind a front that is not empty are said from there on, up to the end
pub says_back : (front : List ℕ) (es : List Event) → 0 < length front → AllByRecursion Fit es → length (front ++ events_bytes es) ≤ longest → (r : ℕ) × Says (front ++ events_bytes es) (length front) es r × (read_at (front ++ events_bytes es) r ≡ end)
says_back front [] some fit short =
    let s = front ++ [] in
    let p = length front in
    let le : p ≤ p = omega arith in
    (p, none p, not_long s p short ∙ ap (read_field p) (drop_at front [] p refl) ∙ ne_end p some)
says_back front (e ∷ es) some fit short =
    let s = front ++ events_bytes (e ∷ es) in
    let p = length front in
    let q = p + length (event_bytes e) in
    let here : read_at s p ≡ event e q = not_long s p short ∙ ap (read_field p) (drop_at front (events_bytes (e ∷ es)) p refl) ∙ event_back p e (events_bytes es) (λ z. omega arith) fit.0 in
    let same : (front ++ event_bytes e) ++ events_bytes es ≡ s = append_assoc front (event_bytes e) (events_bytes es) in
    let len : length (front ++ event_bytes e) ≡ q = length-append front (event_bytes e) in
    let rest = says_back (front ++ event_bytes e) es (omega arith) fit.1 (subst (λ t. length t ≤ longest) (sym same) short) in
    let r = rest.0 in
    (r, more p q r e es here (subst (λ k. Says s k es r) len (subst (λ t. Says t (length (front ++ event_bytes e)) es r) same rest.1)), subst (λ t. read_at t r ≡ end) same rest.2)

pub written_accepted : (masks : List ℕ) (es : List Event) → IsTable masks → AllByRecursion Fit es → length (stream_of masks es) ≤ longest → Accepted (stream_of masks es) masks es
written_accepted masks es ok fit short =
    let few = table_short masks ok in
    let s = stream_of masks es in
    let rest = says_back (table_bytes masks) es (omega arith) fit short in
    record {
      behind = length (table_bytes masks);
      last = rest.0;
      first = not_long s 0 short ∙ table_back masks (events_bytes es) (omega arith);
      sound = ok;
      says = rest.1;
      ends = rest.2;
    }

-- one event more
pub says_more : (s : List ℕ) (p q r : ℕ) (es : List Event) (e : Event) → Says s p es q → read_at s q ≡ event e r → Says s p (es ++ (e ∷ [])) r
says_more s p q r [] e (none p') h = more p r r e [] h (none r)
says_more s p q r (x ∷ es) e (more p' k q' x' es' f rest) h = more p k r x (es ++ (e ∷ [])) f (says_more s k q r es e rest h)

-- ---- what is accepted was written

-- what is read is not too long
pub read_short : (s : List ℕ) (p : ℕ) (x : Reading) → read_at s p ≡ x → (x ≡ refused StreamTooLong → ⊥) → length s ≤ longest
read_short s p x h ne = ⊎_elim (λ lt. absurd (ne (sym h ∙ too_long s p lt))) (λ le. le) (cases_lt longest (length s))

-- what the first call and a later one can find
module _ (s : List ℕ) (p : ℕ) where
  pub first_no_event : (e : Event) (q : ℕ) → p ≡ 0 → read_at s p ≡ event e q → ⊥
  first_no_event e q z h =
      let short = read_short s p (event e q) h (λ bad. let y : ◌≡◌ {A = ℕ} 0 1 = cc in omega arith) in
      event_later (drop p s) e q (ap (λ k. read_field k (drop p s)) (sym z) ∙ sym (not_long s p short) ∙ h)

  pub first_no_end : p ≡ 0 → read_at s p ≡ end → ⊥
  first_no_end z h =
      let short = read_short s p end h (λ bad. let y : ◌≡◌ {A = ℕ} 0 1 = cc in omega arith) in
      end_later (drop p s) (ap (λ k. read_field k (drop p s)) (sym z) ∙ sym (not_long s p short) ∙ h)

  pub later_no_table : (masks : List ℕ) (q : ℕ) → 0 < p → read_at s p ≡ table masks q → ⊥
  later_no_table masks q lt h =
      let short = read_short s p (table masks q) h (λ bad. let y : ◌≡◌ {A = ℕ} 0 1 = cc in omega arith) in
      table_first p (drop p s) masks q (sym (not_long s p short) ∙ h) (λ z. omega arith)

bytes_drop : (p : ℕ) (s : List ℕ) → Bytes s → Bytes (drop p s)
bytes_drop p s b k = subst (λ x. x < 256) (sym (get_or-drop p s k 0)) (b (p + k))

-- one field more, behind what was read
front_more : (s field : List ℕ) (p q : ℕ) → p ≤ length s → Written p (drop p s) field q → (take q s ≡ take p s ++ field) × (q ≤ length s)
front_more s field p q le w =
    let own : length (take p s) ≡ p = length-take-le p s le in
    let len : length (take p s ++ field) ≡ q = length-append (take p s) field ∙ ap (λ k. k + length field) own ∙ sym w.behind in
    let all : s ≡ (take p s ++ field) ++ w.rest = sym (take-append-drop p s) ∙ ap (λ t. take p s ++ t) w.bytes ∙ sym (append_assoc (take p s) field w.rest) in
    (ap (take q) all ∙ take_at (take p s ++ field) w.rest q len, omega (arith, ap length all, length-append (take p s ++ field) w.rest))

module _ (s : List ℕ) (b : Bytes s) (short : length s ≤ longest) where
  pub event_front : (p q : ℕ) (e : Event) → p ≤ length s → read_at s p ≡ event e q → (take q s ≡ take p s ++ event_bytes e) × (q ≤ length s) × Fit e
  event_front p q e le h =
      let w = event_at p (drop p s) e q (bytes_drop p s b) (sym (not_long s p short) ∙ h) in
      let f = front_more s (event_bytes e) p q le w.0 in
      (f.0, f.1, w.1)

  pub table_front : (q : ℕ) (masks : List ℕ) → read_at s 0 ≡ table masks q → (take q s ≡ table_bytes masks) × (q ≤ length s)
  table_front q masks h = front_more s (table_bytes masks) 0 q (omega arith) (table_at 0 s masks q b (sym (not_long s 0 short) ∙ h))

  pub end_front : (p : ℕ) → read_at s p ≡ end → take p s ≡ s
  end_front p h = let e = ap length (end_at p (drop p s) (sym (not_long s p short) ∙ h)) in take_all p s (omega (arith, length-drop p s))

  pub says_front : (p r : ℕ) (es : List Event) → p ≤ length s → Says s p es r → (take r s ≡ take p s ++ events_bytes es) × (r ≤ length s) × AllByRecursion Fit es
  says_front p r [] le (none p') = (sym (append-nil (take p s)), le, tt)
  says_front p r (e ∷ es) le (more p' q r' e' es' h rest) =
      let one = event_front p q e le h in
      let others = says_front q r es one.1 rest in
      (others.0 ∙ ap (λ t. t ++ events_bytes es) one.0 ∙ append_assoc (take p s) (event_bytes e) (events_bytes es), others.1, (one.2, others.2))

pub accepted_written : (s masks : List ℕ) (es : List Event) → Bytes s → Accepted s masks es → (s ≡ stream_of masks es) × AllByRecursion Fit es
accepted_written s masks es b a =
    let short = read_short s 0 (table masks a.behind) a.first (λ bad. let z : ◌≡◌ {A = ℕ} 0 1 = cc in omega arith) in
    let t = table_front s b short a.behind masks a.first in
    let w = says_front s b short a.behind a.last es t.1 a.says in
    (sym (end_front s b short a.last a.ends) ∙ w.0 ∙ ap (λ f. f ++ events_bytes es) t.0, w.2)

-- ---- and by one alone

same_says : (s : List ℕ) (p r r' : ℕ) (es es' : List Event) → Says s p es r → read_at s r ≡ end → Says s p es' r' → read_at s r' ≡ end → es ≡ es'
same_says s p r r' [] [] (none p₁) h (none p₂) h' = refl
same_says s p r r' [] (e' ∷ es') (none p₁) h (more p₂ q' r₂ e₂ es₂ f' rest') h' = let bad = sym h ∙ f' in let z : ◌≡◌ {A = ℕ} 0 1 = cc in absurd (omega arith)
same_says s p r r' (e ∷ es) [] (more p₁ q r₁ e₁ es₁ f rest) h (none p₂) h' = let bad = sym h' ∙ f in let z : ◌≡◌ {A = ℕ} 0 1 = cc in absurd (omega arith)
same_says s p r r' (e ∷ es) (e' ∷ es') (more p₁ q r₁ e₁ es₁ f rest) h (more p₂ q' r₂ e₂ es₂ f' rest') h' =
    let both = sym f ∙ f' in
    let one : e ≡ e' = cc in
    let place : q ≡ q' = cc in
    let others = same_says s q r r' es es' rest h (subst (λ k. Says s k es' r') (sym place) rest') h' in
    cc

pub same_accepted : (s masks masks' : List ℕ) (es es' : List Event) → Accepted s masks es → Accepted s masks' es' → (masks ≡ masks') × (es ≡ es')
same_accepted s masks masks' es es' a a' =
    let both = sym a.first ∙ a'.first in
    let place : a.behind ≡ a'.behind = cc in
    (cc, same_says s a.behind a.last a'.last es es' a.says a.ends (subst (λ k. Says s k es' a'.last) (sym place) a'.says) a'.ends)

pub read_whole : (s masks : List ℕ) (es : List Event) → Bytes s → Accepted s masks es → ReadWhole s masks es
read_whole s masks es b a =
    let short = read_short s 0 (table masks a.behind) a.first (λ bad. let z : ◌≡◌ {A = ℕ} 0 1 = cc in omega arith) in
    record {
      accepted = a;
      written = (accepted_written s masks es b a).0;
      only = λ masks' es' ok fit e. same_accepted s masks' masks es' es (subst (λ t. Accepted t masks' es') e (written_accepted masks' es' ok fit (omega (arith, ap length e)))) a;
    }

-- a table, the events behind it and the end are an accepted stream
pub accepted_from : (s masks : List ℕ) (es : List Event) (behind : ℕ) → FirstTable s masks behind → SaysRest s behind es → Accepted s masks es
accepted_from s masks es behind t r = record { behind = behind; last = r.last; first = t.first; sound = t.sound; says = r.says; ends = r.ends }

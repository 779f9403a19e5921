-- One field: what is written is read back, and what is read was written. Assumes nothing.
use Rattle.std.proofs.Common.{◌≡◌, ℕ, suc, ◌+◌, ◌*◌, ◌^◌, ◌<◌, ◌≤◌, Bool, true, false, cond, not, ◌||◌, eqb, ltb, List, [], ◌∷◌, ◌++◌, length, take, drop, is_some, Some, None, Option, sym, refl, ap, ◌∙◌, subst, ⊎_elim, arith}
use Rattle.std.proofs.lemmas.List.{take_at, take-append-drop, length-take-le, length-append, get_or-take, get_or_past}
use Rattle.std.proofs.lemmas.Bool.{cond-true, cond-false, cases_Bool, eq-eqb, ne_eqb, le-ltb, ltb-false, both_ways, cases_lt, eqb-true, not-false}
use Rattle.records.specs.declared.fault.ReaderFault.{ReaderFault}
use Rattle.records.specs.declared.fault.ReaderFault.TheVariants.{LooseBytes, UnknownTag, MisplacedTag, WrongLength, MissingBytes}
use Rattle.events.specs.declared.event.Event.{Event}
use Rattle.events.specs.Fields.{table, event, end, refused, size_of, event_of, table_tag, wrong_for, field_fault, read_value, read_field}
use Rattle.events.specs.Writing.{be16, tag_of, value_of, field_of, event_bytes, table_bytes, Fit}
use Rattle.events.proofs.Values.{Bytes, from16, digits16, known, told}

-- ---- what is written is read back

no_fault : (first : Bool) (t n there : ℕ) → (is_some (size_of t) || eqb t table_tag) ≡ true → cond first (not (eqb t table_tag)) (eqb t table_tag) ≡ false → wrong_for (size_of t) n ≡ false → n ≤ there → field_fault first t n there ≡ None
no_fault first t n there k p w le =
    ap (λ b. cond (not b) (Some UnknownTag) (cond (cond first (not (eqb t table_tag)) (eqb t table_tag)) (Some MisplacedTag) (cond (wrong_for (size_of t) n) (Some WrongLength) (cond (ltb there n) (Some MissingBytes) None)))) k
    ∙ cond-false _ (Some MisplacedTag) _ p
    ∙ cond-false _ (Some WrongLength) _ w
    ∙ cond-false _ (Some MissingBytes) None (le-ltb there n le)

-- the head of a field is read back, whatever its tag and value
head_back : (p t : ℕ) (v rest : List ℕ) → length v < 2 ^ 16 → read_field p (field_of t v ++ rest) ≡ read_value (field_fault (eqb p 0) t (length v) (length (v ++ rest))) p t (length v) (v ++ rest)
head_back p t v rest short = ap (λ k. read_value (field_fault (eqb p 0) t k (length (v ++ rest))) p t k (v ++ rest)) (from16 (length v) short)

fits : (v rest : List ℕ) → length v ≤ length (v ++ rest)
fits v rest = omega (arith, length-append v rest)

right_length : (o : Option ℕ) (n : ℕ) → o ≡ Some n → wrong_for o n ≡ false
right_length o n e = ap (λ x. wrong_for x n) e ∙ ap not (eq-eqb n n refl)

pub event_back : (p : ℕ) (e : Event) (rest : List ℕ) → (p ≡ 0 → ⊥) → Fit e → read_field p (event_bytes e ++ rest) ≡ event e (p + length (event_bytes e))
event_back p e rest later f =
    let k = known e f in
    let t = tag_of e in
    let v = value_of e in
    let other : eqb t table_tag ≡ false = ne_eqb t table_tag (λ z. omega (arith, k.tag)) in
    let there : field_fault (eqb p 0) t (length v) (length (v ++ rest)) ≡ None =
    no_fault (eqb p 0) t (length v) (length (v ++ rest)) (ap (λ o. is_some o || eqb t table_tag) k.size) (ap (λ b. cond b (not (eqb t table_tag)) (eqb t table_tag)) (ne_eqb p 0 later) ∙ other) (right_length (size_of t) (length v) k.size) (fits v rest) in
    let len : 3 + length v ≡ length (event_bytes e) = omega arith in
    head_back p t v rest k.short
    ∙ ap (λ o. read_value o p t (length v) (v ++ rest)) there
    ∙ cond-false (eqb t table_tag) _ _ other
    ∙ ap (λ b. event (event_of t b) (p + (3 + length v))) (take_at v rest (length v) refl)
    ∙ ap (λ x. event x (p + (3 + length v))) k.event
    ∙ ap (λ n. event e (p + n)) len

pub table_back : (masks rest : List ℕ) → length masks < 2 ^ 16 → read_field 0 (table_bytes masks ++ rest) ≡ table masks (length (table_bytes masks))
table_back masks rest short =
    let len : 0 + (3 + length masks) ≡ length (table_bytes masks) = omega arith in
    head_back 0 table_tag masks rest short
    ∙ ap (λ o. read_value o 0 table_tag (length masks) (masks ++ rest)) (no_fault true table_tag (length masks) (length (masks ++ rest)) refl refl refl (fits masks rest))
    ∙ ap (λ b. table b (0 + (3 + length masks))) (take_at masks rest (length masks) refl)
    ∙ ap (table masks) len

-- ---- what is read was written

cond_none : {A : Type 0} (b : Bool) (x : A) (r : Option A) → cond b (Some x) r ≡ None → (b ≡ false) × (r ≡ None)
cond_none true x r e = let z : ◌≡◌ {A = ℕ} 0 1 = cc in absurd (omega arith)
cond_none false x r e = (refl, e)

record Passed (first : Bool) (t n there : ℕ) : Type 0 where
  known : (is_some (size_of t) || eqb t table_tag) ≡ true
  placed : cond first (not (eqb t table_tag)) (eqb t table_tag) ≡ false
  right : wrong_for (size_of t) n ≡ false
  room : n ≤ there

passed : (first : Bool) (t n there : ℕ) → field_fault first t n there ≡ None → Passed first t n there
passed first t n there e =
    let a = cond_none _ UnknownTag _ e in
    let b = cond_none _ MisplacedTag _ a.1 in
    let c = cond_none _ WrongLength _ b.1 in
    let d = cond_none _ MissingBytes _ c.1 in
    record { known = not-false _ a.0; placed = b.0; right = c.0; room = ltb-false there n d.0 }

sized : (o : Option ℕ) (n : ℕ) → is_some o ≡ true → wrong_for o n ≡ false → o ≡ Some n
sized None n s w = let z : ◌≡◌ {A = ℕ} 0 1 = cc in absurd (omega arith)
sized (Some k) n s w = ap Some (sym (eqb-true n k (not-false (eqb n k) w)))

record Valued (o : Option ReaderFault) (p t n : ℕ) (v : List ℕ) (e : Event) (q : ℕ) : Type 0 where
  clean : o ≡ None
  other : eqb t table_tag ≡ false
  says : event_of t (take n v) ≡ e
  behind : p + (3 + n) ≡ q

valued : (o : Option ReaderFault) (p t n : ℕ) (v : List ℕ) (e : Event) (q : ℕ) → read_value o p t n v ≡ event e q → Valued o p t n v e q
valued (Some f) p t n v e q h = let z : ◌≡◌ {A = ℕ} 0 1 = cc in absurd (omega arith)
valued None p t n v e q h =
    ⊎_elim
    (λ (y : eqb t table_tag ≡ true). let bad = sym (cond-true (eqb t table_tag) (table (take n v) (p + (3 + n))) (event (event_of t (take n v)) (p + (3 + n))) y) ∙ h in let z : ◌≡◌ {A = ℕ} 0 1 = cc in absurd (omega arith))
    (λ (y : eqb t table_tag ≡ false). let good = sym (cond-false (eqb t table_tag) (table (take n v) (p + (3 + n))) (event (event_of t (take n v)) (p + (3 + n))) y) ∙ h in record { clean = refl; other = y; says = cc; behind = cc })
    (cases_Bool (eqb t table_tag))

tabled : (o : Option ReaderFault) (p t n : ℕ) (v masks : List ℕ) (q : ℕ) → read_value o p t n v ≡ table masks q → (o ≡ None) × (t ≡ table_tag) × (take n v ≡ masks) × (p + (3 + n) ≡ q)
tabled (Some f) p t n v masks q h = let z : ◌≡◌ {A = ℕ} 0 1 = cc in absurd (omega arith)
tabled None p t n v masks q h =
    ⊎_elim
    (λ (y : eqb t table_tag ≡ true). let good = sym (cond-true (eqb t table_tag) (table (take n v) (p + (3 + n))) (event (event_of t (take n v)) (p + (3 + n))) y) ∙ h in (refl, eqb-true t table_tag y, (cc), (cc)))
    (λ (y : eqb t table_tag ≡ false). let bad = sym (cond-false (eqb t table_tag) (table (take n v) (p + (3 + n))) (event (event_of t (take n v)) (p + (3 + n))) y) ∙ h in let z : ◌≡◌ {A = ℕ} 0 1 = cc in absurd (omega arith))
    (cases_Bool (eqb t table_tag))

never_end : (o : Option ReaderFault) (p t n : ℕ) (v : List ℕ) → read_value o p t n v ≡ end → ⊥
never_end (Some f) p t n v h = let z : ◌≡◌ {A = ℕ} 0 1 = cc in omega arith
never_end None p t n v h =
    ⊎_elim
    (λ (y : eqb t table_tag ≡ true). let bad = sym (cond-true (eqb t table_tag) (table (take n v) (p + (3 + n))) (event (event_of t (take n v)) (p + (3 + n))) y) ∙ h in let z : ◌≡◌ {A = ℕ} 0 1 = cc in omega arith)
    (λ (y : eqb t table_tag ≡ false). let bad = sym (cond-false (eqb t table_tag) (table (take n v) (p + (3 + n))) (event (event_of t (take n v)) (p + (3 + n))) y) ∙ h in let z : ◌≡◌ {A = ℕ} 0 1 = cc in omega arith)
    (cases_Bool (eqb t table_tag))

or_false : (b : Bool) → (b || false) ≡ true → b ≡ true
or_false true e = refl
or_false false e = e

-- the field at a place is this one, and the next place is behind it
pub record Written (p : ℕ) (bs field : List ℕ) (q : ℕ) : Type 0 where
  pub rest : List ℕ
  pub bytes : bs ≡ field ++ rest
  pub behind : q ≡ p + length field

-- a head and its value are a field
written : (p t h l : ℕ) (v : List ℕ) → h < 256 → l < 256 → h * 256 + l ≤ length v → Written p (t ∷ h ∷ l ∷ v) (field_of t (take (h * 256 + l) v)) (p + (3 + (h * 256 + l)))
written p t h l v hb lb le =
    let n = h * 256 + l in
    let len : length (take n v) ≡ n = length-take-le n v le in
    let head : be16 (length (take n v)) ≡ h ∷ l ∷ [] = ap be16 len ∙ digits16 h l hb lb in
    record {
      rest = drop n v;
      bytes = ap (λ w. t ∷ h ∷ l ∷ w) (sym (take-append-drop n v)) ∙ ap (λ b. t ∷ (b ++ (take n v ++ drop n v))) (sym head);
      behind = omega arith;
    }

bytes_take : (n : ℕ) (v : List ℕ) → n ≤ length v → Bytes v → Bytes (take n v)
bytes_take n v room b k = ⊎_elim (λ lt. subst (λ x. x < 256) (sym (get_or-take n v k 0 lt)) (b k)) (λ le. subst (λ x. x < 256) (sym (get_or_past (take n v) k 0 (omega (arith, length-take-le n v room)))) (omega arith)) (cases_lt k n)

pub event_at : (p : ℕ) (bs : List ℕ) (e : Event) (q : ℕ) → Bytes bs → read_field p bs ≡ event e q → Written p bs (event_bytes e) q × Fit e
event_at p [] e q b h = ⊎_elim (λ y. let bad = sym (cond-true (eqb p 0) (refused LooseBytes) end y) ∙ h in let z : ◌≡◌ {A = ℕ} 0 1 = cc in absurd (omega arith)) (λ y. let bad = sym (cond-false (eqb p 0) (refused LooseBytes) end y) ∙ h in let z : ◌≡◌ {A = ℕ} 0 1 = cc in absurd (omega arith)) (cases_Bool (eqb p 0))
event_at p (t ∷ []) e q b h = let z : ◌≡◌ {A = ℕ} 0 1 = cc in absurd (omega arith)
event_at p (t ∷ u ∷ []) e q b h = let z : ◌≡◌ {A = ℕ} 0 1 = cc in absurd (omega arith)
event_at p (t ∷ u ∷ l ∷ v) e q b h =
    let n = u * 256 + l in
    let x = valued (field_fault (eqb p 0) t n (length v)) p t n v e q h in
    let c = passed (eqb p 0) t n (length v) x.clean in
    let some : is_some (size_of t) ≡ true = or_false (is_some (size_of t)) (ap (λ y. is_some (size_of t) || y) (sym x.other) ∙ c.known) in
    let size : size_of t ≡ Some (length (take n v)) = sized (size_of t) n some c.right ∙ ap Some (sym (length-take-le n v c.room)) in
    let w = told (take n v) (bytes_take n v c.room (λ j. b (suc (suc (suc j))))) t size in
    let same : field_of t (take n v) ≡ event_bytes e = ap (λ k. field_of k (take n v)) (sym w.tag) ∙ ap (field_of (tag_of (event_of t (take n v)))) (sym w.value) ∙ ap event_bytes x.says in
    let field = written p t u l v (b 1) (b 2) c.room in
    (subst (λ k. Written p (t ∷ u ∷ l ∷ v) (event_bytes e) k) x.behind (subst (λ f. Written p (t ∷ u ∷ l ∷ v) f (p + (3 + n))) same field), subst Fit x.says w.fit)

pub table_at : (p : ℕ) (bs masks : List ℕ) (q : ℕ) → Bytes bs → read_field p bs ≡ table masks q → Written p bs (table_bytes masks) q
table_at p [] masks q b h = ⊎_elim (λ y. let bad = sym (cond-true (eqb p 0) (refused LooseBytes) end y) ∙ h in let z : ◌≡◌ {A = ℕ} 0 1 = cc in absurd (omega arith)) (λ y. let bad = sym (cond-false (eqb p 0) (refused LooseBytes) end y) ∙ h in let z : ◌≡◌ {A = ℕ} 0 1 = cc in absurd (omega arith)) (cases_Bool (eqb p 0))
table_at p (t ∷ []) masks q b h = let z : ◌≡◌ {A = ℕ} 0 1 = cc in absurd (omega arith)
table_at p (t ∷ u ∷ []) masks q b h = let z : ◌≡◌ {A = ℕ} 0 1 = cc in absurd (omega arith)
table_at p (t ∷ u ∷ l ∷ v) masks q b h =
    let n = u * 256 + l in
    let x = tabled (field_fault (eqb p 0) t n (length v)) p t n v masks q h in
    let c = passed (eqb p 0) t n (length v) x.0 in
    let same : field_of t (take n v) ≡ table_bytes masks = ap (λ k. field_of k (take n v)) x.1 ∙ ap (field_of table_tag) x.2 in
    subst (λ k. Written p (t ∷ u ∷ l ∷ v) (table_bytes masks) k) x.3 (subst (λ f. Written p (t ∷ u ∷ l ∷ v) f (p + (3 + n))) same (written p t u l v (b 1) (b 2) c.room))

pub end_at : (p : ℕ) (bs : List ℕ) → read_field p bs ≡ end → bs ≡ []
end_at p [] h = refl
end_at p (t ∷ []) h = let z : ◌≡◌ {A = ℕ} 0 1 = cc in absurd (omega arith)
end_at p (t ∷ u ∷ []) h = let z : ◌≡◌ {A = ℕ} 0 1 = cc in absurd (omega arith)
end_at p (t ∷ u ∷ l ∷ v) h = absurd (never_end (field_fault (eqb p 0) t (u * 256 + l) (length v)) p t (u * 256 + l) v h)

-- ---- the first field alone is the table

pub event_later : (bs : List ℕ) (e : Event) (q : ℕ) → read_field 0 bs ≡ event e q → ⊥
event_later [] e q h = let z : ◌≡◌ {A = ℕ} 0 1 = cc in omega arith
event_later (t ∷ []) e q h = let z : ◌≡◌ {A = ℕ} 0 1 = cc in omega arith
event_later (t ∷ u ∷ []) e q h = let z : ◌≡◌ {A = ℕ} 0 1 = cc in omega arith
event_later (t ∷ u ∷ l ∷ v) e q h =
    let n = u * 256 + l in
    let x = valued (field_fault true t n (length v)) 0 t n v e q h in
    both_ways (eqb t table_tag) x.other (not-false (eqb t table_tag) (passed true t n (length v) x.clean).placed)

pub end_later : (bs : List ℕ) → read_field 0 bs ≡ end → ⊥
end_later [] h = let z : ◌≡◌ {A = ℕ} 0 1 = cc in omega arith
end_later (t ∷ []) h = let z : ◌≡◌ {A = ℕ} 0 1 = cc in omega arith
end_later (t ∷ u ∷ []) h = let z : ◌≡◌ {A = ℕ} 0 1 = cc in omega arith
end_later (t ∷ u ∷ l ∷ v) h = never_end (field_fault true t (u * 256 + l) (length v)) 0 t (u * 256 + l) v h

pub table_first : (p : ℕ) (bs masks : List ℕ) (q : ℕ) → read_field p bs ≡ table masks q → (p ≡ 0 → ⊥) → ⊥
table_first p [] masks q h ne = let bad = sym (cond-false (eqb p 0) (refused LooseBytes) end (ne_eqb p 0 ne)) ∙ h in let z : ◌≡◌ {A = ℕ} 0 1 = cc in omega arith
table_first p (t ∷ []) masks q h ne = let z : ◌≡◌ {A = ℕ} 0 1 = cc in omega arith
table_first p (t ∷ u ∷ []) masks q h ne = let z : ◌≡◌ {A = ℕ} 0 1 = cc in omega arith
table_first p (t ∷ u ∷ l ∷ v) masks q h ne =
    let n = u * 256 + l in
    let x = tabled (field_fault (eqb p 0) t n (length v)) p t n v masks q h in
    let c = passed (eqb p 0) t n (length v) x.0 in
    both_ways (eqb t table_tag) (ap (λ b. cond b (not (eqb t table_tag)) (eqb t table_tag)) (sym (ne_eqb p 0 ne)) ∙ c.placed) (eq-eqb t table_tag x.1)

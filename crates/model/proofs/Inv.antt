-- A net as its order sees it, the small steps, and what holds after each. A bound is 0 for none, and otherwise one more than a height.
use Rattle.std.proofs.Common.{◌≡◌, ℕ, ◌+◌, ◌<◌, ◌≤◌, max, Bool, true, cond, ◌&&◌, eqb, ◌⊎◌, List, [], ◌∷◌, ◌++◌}
use Rattle.records.specs.declared.notice.Decided.{Decided}
use Rattle.records.specs.declared.notice.Record.{Record}
use Rattle.records.specs.declared.notice.Record.TheVariants.{Notice as Carries, Empty}
use Rattle.model.specs.Batches.{goes_to, sent_to}
use Rattle.model.specs.Law.{In}
use Rattle.model.proofs.Lists.{Sorted, insert}
use Rattle.model.proofs.Heights.{height_of, key, level, Small}

pub record State : Type 0 where
  pub floor : ℕ → ℕ
  pub clear : ℕ → ℕ → ℕ
  pub waiting : ℕ → List Decided
  pub line : ℕ → ℕ → List Record

-- THE SMALL STEPS

-- no record, or one of this height
abbrev pub AtMostOne : ℕ → List Record → Type 0
AtMostOne n l = (l ≡ []) ⊎ ((r : Record) × (l ≡ r ∷ []) × (level r ≡ n))

-- the port f stamps the height n, and puts records of that stamp on some of its lines
pub record Marks (s t : State) (f n : ℕ) (puts : ℕ → List Record) : Type 0 where
  pub above : s.floor f ≤ n
  pub single : (q : ℕ) → AtMostOne n (puts q)
  pub floor : (q : ℕ) → t.floor q ≡ cond (eqb q f) (n + 1) (s.floor q)
  pub clear : (q g : ℕ) → t.clear q g ≡ s.clear q g
  pub line : (g q : ℕ) → t.line g q ≡ cond (eqb g f) (s.line g q ++ puts q) (s.line g q)

-- the port f stamps m: each other port to which it is addressed gets a copy, and no other
pub record Stamps (sends : ℕ → ℕ → Bool) (s t : State) (f : ℕ) (m : Decided) (puts : ℕ → List Record) : Type 0 where
  pub marks : Marks s t f (height_of m) puts
  pub port : f < 8
  pub source : m.stamp.port ≡ f
  pub said : m.notice.source ≡ f
  pub small : Small m.stamp.pair
  pub reach : (p : ℕ) → goes_to p m ≡ true → (p ≡ f → ⊥) → sends f p ≡ true
  pub copy : (q : ℕ) → goes_to q m ≡ true → (q ≡ f → ⊥) → In (Carries m) (puts q)
  pub only : (q : ℕ) (x : Decided) → In (Carries x) (puts q) → (x ≡ m) × (goes_to q m ≡ true) × (q ≡ f → ⊥)
  pub waiting : (q : ℕ) → t.waiting q ≡ cond (eqb q f && goes_to q m) (insert key m (s.waiting q)) (s.waiting q)

-- the port f stamps an empty notice
pub record Clears (s t : State) (f n : ℕ) (puts : ℕ → List Record) : Type 0 where
  pub marks : Marks s t f n puts
  pub only : (q : ℕ) (x : Decided) → In (Carries x) (puts q) → ⊥
  pub waiting : (q : ℕ) → t.waiting q ≡ s.waiting q

-- a record that is fetched goes to the waiting notices, if it is one
abbrev pub taken : Record → List Decided → List Decided
taken (Carries x) xs = insert key x xs
taken (Empty s) xs = xs

-- the port p fetches the oldest record of the line from f
pub record Fetches (s t : State) (f p : ℕ) : Type 0 where
  pub got : Record
  pub rest : List Record
  pub before : s.line f p ≡ got ∷ rest
  pub floor : (q : ℕ) → t.floor q ≡ s.floor q
  pub clear : (q g : ℕ) → t.clear q g ≡ cond (eqb g f && eqb q p) (level got + 1) (s.clear q g)
  pub waiting : (q : ℕ) → t.waiting q ≡ cond (eqb q p) (taken got (s.waiting q)) (s.waiting q)
  pub line : (g q : ℕ) → t.line g q ≡ cond (eqb g f && eqb q p) rest (s.line g q)

-- the port p releases its first waiting notice, m
pub record Releases (sends : ℕ → ℕ → Bool) (s t : State) (p : ℕ) (m : Decided) : Type 0 where
  pub others : List Decided
  pub before : s.waiting p ≡ m ∷ others
  pub free : (f : ℕ) → sends f p ≡ true → height_of m < s.clear p f
  pub floor : (q : ℕ) → t.floor q ≡ cond (eqb q p) (max (s.floor q) (height_of m + 1)) (s.floor q)
  pub clear : (q g : ℕ) → t.clear q g ≡ s.clear q g
  pub waiting : (q : ℕ) → t.waiting q ≡ cond (eqb q p) others (s.waiting q)
  pub line : (g q : ℕ) → t.line g q ≡ s.line g q

-- THE INVARIANT

-- from lo on, below hi, each above the one before
abbrev pub Chain : ℕ → List Record → ℕ → Type 0
Chain lo [] hi = lo ≤ hi
Chain lo (r ∷ rs) hi = (lo ≤ level r) × Chain (level r + 1) rs hi

abbrev pub Pending : State → ℕ → Decided → Type 0
Pending s p x = In x (s.waiting p) ⊎ In (Carries x) (s.line x.stamp.port p)

pub record Split (s : State) (c : List Decided) (book : List Decided) (p : ℕ) : Type 0 where
  pub rest : List Decided
  pub is : sent_to p c ≡ book ++ rest
  pub pending : (x : Decided) → In x rest → Pending s p x

pub record Known (s : State) (x : Decided) : Type 0 where
  pub port : x.stamp.port < 8
  pub said : x.notice.source ≡ x.stamp.port
  pub small : Small x.stamp.pair
  pub below : height_of x < s.floor x.stamp.port

pub record Waits (s : State) (c book : List Decided) (p : ℕ) (x : Decided) : Type 0 where
  pub common : In x c
  pub to : goes_to p x ≡ true
  pub after : (b : Decided) → In b book → key b < key x
  pub fetched : (x.stamp.port ≡ p → ⊥) → height_of x < s.clear p x.stamp.port

pub record Rides (sends : ℕ → ℕ → Bool) (c book : List Decided) (f p : ℕ) (x : Decided) : Type 0 where
  pub common : In x c
  pub to : goes_to p x ≡ true
  pub source : x.stamp.port ≡ f
  pub away : f ≡ p → ⊥
  pub sent : sends f p ≡ true
  pub after : (b : Decided) → In b book → key b < key x

pub record Passed (sends : ℕ → ℕ → Bool) (s : State) (p : ℕ) (b : Decided) : Type 0 where
  pub port : b.stamp.port < 8
  pub own : height_of b < s.floor p
  pub other : (f : ℕ) → sends f p ≡ true → height_of b < s.floor f

pub record Inv (sends : ℕ → ℕ → Bool) (s : State) (c : List Decided) (book : ℕ → List Decided) : Type 0 where
  pub sorted : Sorted key c
  pub known : (x : Decided) → In x c → Known s x
  pub split : (p : ℕ) → Split s c (book p) p
  pub rising : (p : ℕ) → Sorted key (s.waiting p)
  pub waits : (p : ℕ) (x : Decided) → In x (s.waiting p) → Waits s c (book p) p x
  pub chain : (f p : ℕ) → Chain (s.clear p f) (s.line f p) (s.floor f)
  pub rides : (f p : ℕ) (x : Decided) → In (Carries x) (s.line f p) → Rides sends c (book p) f p x
  pub passed : (p : ℕ) (b : Decided) → In b (book p) → Passed sends s p b

-- the books after p has released m
abbrev pub grown : ℕ → Decided → (ℕ → List Decided) → ℕ → List Decided
grown p m book q = cond (eqb q p) (book q ++ (m ∷ [])) (book q)

-- How the definition of reading opens, case by case. Assumes nothing.
use Rattle.std.proofs.Common.{◌≡◌, ◌≢◌, Bool, false, Some, ℕ, ◌<◌, ◌≤◌, eqb, ltb, List, [], ◌∷◌, length, drop, sym, refl, arith}
use Rattle.std.proofs.lemmas.Bool.{cond-true, cond-false, lt-ltb, le-ltb, ne_eqb}
use Rattle.records.specs.declared.fault.ReaderFault.TheVariants.{StreamTooLong, LooseBytes, UnknownTag}
use Rattle.events.specs.declared.tag.Tag.{Tag}
use Rattle.events.specs.declared.tag.Tag.TheVariants.{HandIn, Decide, Clear, Bring, Fetch, Release, Table}
use Rattle.events.specs.Tags.{number_of}
use Rattle.events.specs.Fields.{end, refused, field_fault, read_field, read_at, longest}

pub too_long : (s : List ℕ) (p : ℕ) → longest < length s → read_at s p ≡ refused StreamTooLong
too_long s p lt = cond-true (ltb longest (length s)) (refused StreamTooLong) (read_field p (drop p s)) (lt-ltb longest (length s) lt)

pub not_long : (s : List ℕ) (p : ℕ) → length s ≤ longest → read_at s p ≡ read_field p (drop p s)
not_long s p le = cond-false (ltb longest (length s)) (refused StreamTooLong) (read_field p (drop p s)) (le-ltb longest (length s) le)

pub field_end : (p : ℕ) (r : List ℕ) → length r ≡ 0 → 0 < p → read_field p r ≡ end
field_end p [] e lt = cond-false (eqb p 0) (refused LooseBytes) end (ne_eqb p 0 (λ z. omega arith))
field_end p (t ∷ v) e lt = absurd (omega arith)

-- a number that no tag has is refused first
pub unknown : (first : Bool) (t n there : ℕ) → ((tag : Tag) → number_of tag ≢ t) → field_fault first t n there ≡ Some UnknownTag
unknown first t n there none =
    let k : (tag : Tag) → eqb t (number_of tag) ≡ false = λ tag. ne_eqb t (number_of tag) (λ e. none tag (sym e)) in
    rw (k HandIn, k Decide, k Clear, k Bring, k Fetch, k Release, k Table) refl

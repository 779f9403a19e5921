-- What a text means that is put together piece by piece, and how it is printed. Assumes nothing.
use Rattle.std.specs.Prelude.{◌≡◌, ℕ, ◌+◌, ◌<◌, List, ◌++◌, length, drop}
use Rattle.records.specs.declared.fault.OutputFault.{OutputFault}
use Rattle.records.specs.declared.fault.OutputFault.TheVariants.{MemoryTooShort}
use Rattle.answers.specs.declared.text.Text.{Text}

-- its bytes
abbrev pub text_of : Text → List ℕ
text_of t = t.bytes.items

-- these bytes were added behind it
pub record Added (old new : Text) (more : List ℕ) : Type 0 where
  pub text : text_of new ≡ text_of old ++ more
  pub count : length (text_of new) ≡ length (text_of old) + length more

-- the text stands at the front of the memory, in n bytes, and the rest is as it was
pub record Printed (text old new : List ℕ) (n : ℕ) : Type 0 where
  pub count : n ≡ length text
  pub bytes : new ≡ text ++ drop n old

-- the memory is too short for the text, and stays as it was
pub record NoRoom (text old new : List ℕ) (fault : OutputFault) : Type 0 where
  pub why : fault ≡ MemoryTooShort
  pub short : length old < length text
  pub same : new ≡ old

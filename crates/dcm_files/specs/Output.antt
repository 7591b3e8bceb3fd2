-- What is done with a file that is written from its beginning.
use Rattle.std.specs.Prelude.{◌≡◌, ℕ, List, Bool, true, false, Result, Ok, Err}
use Rattle.std.specs.declared.io.Error.{Error}
use Rattle.dcm_files.specs.declared.output.OutputFile.{OutputFile}

-- what calls on a file may answer, and leave of it
pub record FileMayDo (F : Type 0) : Type 1 where
  pub holds : F → Result Bool Error → Type 0
  pub empties : F → Result (Unit {0}) Error → F → Type 0
  pub writes : F → List ℕ → Result ℕ Error → F → Type 0
  pub flushes : F → Result (Unit {0}) Error → F → Type 0

-- nothing is known of a file
abbrev pub anything : {F : Type 0} → FileMayDo F
anything = record {
  holds = λ file r. Unit {0};
  empties = λ file r later. Unit {0};
  writes = λ file bytes r later. Unit {0};
  flushes = λ file r later. Unit {0};
}

-- a file that holds bytes is emptied, once; an error is one that the file answered
pub data Begins {F : Type 0} (may : FileMayDo F) (before after : OutputFile F)
    (r : Result (Unit {0}) Error) : Type 0 where
  had_begun : before.is_begun ≡ true → after ≡ before → r ≡ Ok tt → Begins may before after r
  unknown : (e : Error) → before.is_begun ≡ false → may.holds before.file (Err e) → after ≡ before → r ≡ Err e
      → Begins may before after r
  holds_nothing : before.is_begun ≡ false → may.holds before.file (Ok false) → after.file ≡ before.file
      → after.is_begun ≡ true → r ≡ Ok tt → Begins may before after r
  emptied : before.is_begun ≡ false → may.holds before.file (Ok true) → may.empties before.file (Ok tt) after.file
      → after.is_begun ≡ true → r ≡ Ok tt → Begins may before after r
  not_emptied : (e : Error) → before.is_begun ≡ false → may.holds before.file (Ok true)
      → may.empties before.file (Err e) after.file → after.is_begun ≡ false → r ≡ Err e → Begins may before after r

-- the file is begun, and then takes the bytes; an error is one that the file answered
pub data Writes {F : Type 0} (may : FileMayDo F) (before after : OutputFile F) (bytes : List ℕ)
    (r : Result ℕ Error) : Type 0 where
  not_begun : (e : Error) → Begins may before after (Err e) → r ≡ Err e → Writes may before after bytes r
  begun : (mid : OutputFile F) → Begins may before mid (Ok tt) → may.writes mid.file bytes r after.file
      → after.is_begun ≡ true → Writes may before after bytes r

-- What going over names leaves over files in memory: lines, and what was opened.
use Rattle.std.proofs.Common.{◌≡◌, ◌∙◌, ap, sym, subst, ℕ, ◌+◌, ◌<◌, ◌≤◌, List, [], ◌∷◌, ◌++◌, length, length-append, arith, Bool, true, false, Option, Some, None, Ok, Err, inl, inr}
use Rattle.std.specs.Prelude.{if◌then◌else◌}
use Rattle.std.specs.Io.KnownBytes.{append_known}
use Rattle.dcm_lemmas.proofs.Options.{known_twice}
use Rattle.dcm_devices.specs.declared.memory.MemIn.{MemIn}
use Rattle.dcm_devices.specs.declared.memory.MemOut.{MemOut}
use Rattle.dcm_devices.specs.declared.memory.Measured.{Measured}
use Rattle.dcm_devices.specs.Device.{AppendsFront}
use Rattle.dcm_devices.specs.Memory.{written, size, room_of}
use Rattle.dcm_files.specs.declared.memory.MemSystem.{MemSystem}
use Rattle.dcm_files.specs.declared.opened.Opened.{Opened}
use Rattle.dcm_files.specs.Memory.{may_do}
use Rattle.dcm_cli.specs.Change.{Change}
use Rattle.dcm_cli.specs.ErrorLines.{Reports}
use Rattle.dcm_cli.specs.InMemory.{bytes_at}
use Rattle.dcm_cli.specs.Program.{Follows}
use Rattle.dcm_cli.proofs.Runs.InMemory.{memory_change, taken}
use Rattle.dcm_cli.proofs.Runs.OpenedMemory.{input_opened}
use Rattle.dcm_each.specs.Each.{OpensAt, not_tried, refused, opened_at}

-- ---- lines

-- all of the lines were written; or fewer bytes, and the writer has failed
pub data Told (c : Change) (lines : List ℕ) : Type 0 where
  told_all : c.after ≡ append_known c.before lines → c.failed_after ≡ c.failed_before → Told c lines
  told_less : (less : List ℕ) → c.after ≡ append_known c.before less → length less < length lines → c.failed_after ≡ true → Told c lines

-- a beginning that was not all
pub front_less : {old new : Option (List ℕ)} {bytes : List ℕ} → (a : AppendsFront old new bytes) → length a.front < length bytes
front_less {old} {new} {bytes} a = let h = ap length a.whole ∙ length-append a.front (a.next ∷ a.rest) in omega (arith, h)

pub told_of : (c : Change) (lines : List ℕ) → Reports c lines → Told c lines
told_of c lines (inl x) = told_all x.0 x.1
told_of c lines (inr x) = told_less x.0.front x.0.grown (front_less x.0) x.1

module _ (whole first second : Change) (follows : Follows whole first second) (ls ms : List ℕ) where
  grown_on : (xs ys : List ℕ) → first.after ≡ append_known first.before xs → second.after ≡ append_known second.before ys → whole.after ≡ append_known whole.before (xs ++ ys)
  grown_on xs ys a b =
      follows.ends.0 ∙ b ∙ ap (λ (k : Option (List ℕ)). append_known k ys) (follows.meets.0 ∙ a) ∙ known_twice first.before xs ys ∙ ap (λ (k : Option (List ℕ)). append_known k (xs ++ ys)) follows.begins.0

  fewer : (xs ys : List ℕ) → length xs ≤ length ls → length ys ≤ length ms → length xs + length ys < length ls + length ms → length (xs ++ ys) < length (ls ++ ms)
  fewer xs ys a b less = let x = length-append xs ys in let l = length-append ls ms in omega (arith, x, l, less)

  pub told_then : Told first ls → Told second ms → Told whole (ls ++ ms)
  told_then (told_all a fine) (told_all b fine') = told_all (grown_on ls ms a b) (follows.ends.1 ∙ fine' ∙ follows.meets.1 ∙ fine ∙ follows.begins.1)
  told_then (told_all a fine) (told_less less b small failed) =
      told_less (ls ++ less) (grown_on ls less a b) (fewer ls less (omega arith) (omega (arith, small)) (omega (arith, small))) (follows.ends.1 ∙ failed)
  told_then (told_less less a small failed) (told_all b fine) =
      told_less (less ++ ms) (grown_on less ms a b) (fewer less ms (omega (arith, small)) (omega arith) (omega (arith, small))) (follows.ends.1 ∙ fine ∙ follows.meets.1 ∙ failed)
  told_then (told_less less a small failed) (told_less more b small' failed') =
      told_less (less ++ more) (grown_on less more a b) (fewer less more (omega (arith, small)) (omega (arith, small')) (omega (arith, small, small'))) (follows.ends.1 ∙ failed')

-- ---- rooms

abbrev pub held : Measured → Option (List ℕ)
held m = Some (size m.out ∷ written m.out)

pub grew : (size now : ℕ) (before after bytes : List ℕ) → Some (now ∷ after) ≡ append_known (Some (size ∷ before)) bytes → after ≡ before ++ bytes
grew size now before after bytes e = cc

pub stays : (size now : ℕ) (before after bytes : List ℕ) → Some (now ∷ after) ≡ append_known (Some (size ∷ before)) bytes → now ≡ size
stays size now before after bytes e = cc

-- a writer fails only where it is full
pub no_less : (m n : MemOut) (less : List ℕ) (most : ℕ) → Some (size n ∷ written n) ≡ append_known (Some (size m ∷ written m)) less → n.failed ≡ true → length less < most → most ≤ room_of m → ⊥
no_less m n less most grown failed few room =
    let same = stays (size m) (size n) (written m) (written n) less grown in
    let all = ap length (grew (size m) (size n) (written m) (written n) less grown) ∙ length-append (written m) less in
    let had = taken m in
    let has = taken n ∙ n.full failed in
    omega (arith, same, all, had, has, few, room)

-- lines were written where there was room for them
pub told_left : (errors new_errors : MemOut) (lines : List ℕ) → Told (memory_change errors new_errors) lines → length lines ≤ room_of errors → written new_errors ≡ written errors ++ lines
told_left errors new_errors lines (told_all went fine) room = grew (size errors) (size new_errors) (written errors) (written new_errors) lines went
told_left errors new_errors lines (told_less less went few failed) room = absurd (no_less errors new_errors less (length lines) went failed few room)

-- ---- what is opened

-- what was opened holds the bytes at the path
abbrev pub IsOpened : Option (List ℕ) → Option (Opened MemIn) → Type 0
IsOpened bytes None = bytes ≡ None
IsOpened bytes (Some i) = bytes ≡ Some i.device.rest.now

chosen : (b c : Bool) (x : Option (List ℕ)) → b ≡ c → (if b then x else None) ≡ (if c then x else None)
chosen b c x e = ap (λ (t : Bool). if t then x else None) e

pub opened_is : (s : MemSystem) (b : Bool) (path : List ℕ) (o : Option (Opened MemIn)) (mid : MemSystem) → OpensAt may_do b path s o mid → IsOpened (if b then bytes_at s path else None) o × (mid ≡ s)
opened_is s b path o mid (not_tried shut none same) =
    (subst (IsOpened (if b then bytes_at s path else None)) (sym none) (chosen b false (bytes_at s path) shut), same)
opened_is s b path o mid (refused cause can tried none) =
    let f = input_opened s path (Err cause) mid tried in
    (subst (IsOpened (if b then bytes_at s path else None)) (sym none) (chosen b true (bytes_at s path) can ∙ f.0.0), f.1)
opened_is s b path o mid (opened_at i can tried some) =
    let f = input_opened s path (Ok i) mid tried in
    (subst (IsOpened (if b then bytes_at s path else None)) (sym some) (chosen b true (bytes_at s path) can ∙ f.0.0), f.1)

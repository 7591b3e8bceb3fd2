-- A value, whole or open, that the dump takes byte by byte.
use Rattle.std.proofs.Common.{◌≡◌, ℕ, ◌+◌, ◌≤◌, List, [], ◌∷◌, ◌++◌, length, map, ap, sym, ◌∙◌, refl, append_assoc, arith}
use Rattle.std.specs.Prelude.{fold}
use Rattle.dcm_base.specs.declared.vr.Vr.{Vr}
use Rattle.dcm_base.specs.declared.syntax.Syntax.{Syntax}
use Rattle.dcm_base.specs.declared.mode.Mode.{Mode}
use Rattle.dcm_base.specs.declared.mode.Mode.TheVariants.{Short, Full}
use Rattle.dcm_base.specs.declared.length.Length.{Length}
use Rattle.dcm_base.specs.Steps.Atoms.{Atom, value_byte, closes_leaf}
use Rattle.dcm_base.specs.Dump.Dump.{open_line}
use Rattle.dcm_base.specs.Steps.Steps.{outputs}
use Rattle.dcm_base.proofs.Writes.Runs.{outputs-append}
use Rattle.dcm_base.specs.declared.dictionary.Dictionary.{Dictionary}
use Rattle.dcm_value.specs.Display.{emit, at_once}
use Rattle.dcm_value.specs.Progress.{Progress, started, opening, opened, adds, step, writes, feeds, finishes}
use Rattle.dcm_sinks.specs.declared.dump.lines.Owner.{Owner}
use Rattle.dcm_sinks.specs.DumpSink.{DumpState, owner_start, owner_rest, late_start, begin, begin_writes, dump_step, dump_writes}
use Rattle.dcm_sinks.proofs.Dumps.ValueBytes.{between, within, takes_all, shows_all, size_fold}

abbrev pub dumps : DumpState → List Atom → List ℕ
dumps s atoms = outputs dump_step dump_writes s atoms

-- ---- what is written at once

at_once_none : (mode : Mode) → [] ≡ at_once mode []
at_once_none Short = refl
at_once_none Full = refl

at_once_both : (mode : Mode) (xs ys : List ℕ) → at_once mode xs ++ at_once mode ys ≡ at_once mode (xs ++ ys)
at_once_both Short xs ys = refl
at_once_both Full xs ys = refl

step_mode : (p : Progress) (b : ℕ) → (step p b).display.mode ≡ p.display.mode
unfolding step emit
step_mode p b = refl

writes_adds : (p : Progress) (b : ℕ) → writes p b ≡ at_once p.display.mode (adds p b)
unfolding writes
writes_adds p b = refl

-- of bytes of a value that is what they add
written_adds : (p : Progress) (bytes : List ℕ) → outputs step writes p bytes ≡ at_once p.display.mode (outputs step adds p bytes)
written_adds p [] = at_once_none p.display.mode
written_adds p (b ∷ bs) =
    ap (λ xs. xs ++ outputs step writes (step p b) bs) (writes_adds p b)
    ∙ ap (λ xs. at_once p.display.mode (adds p b) ++ xs) (written_adds (step p b) bs)
    ∙ ap (λ m. at_once p.display.mode (adds p b) ++ at_once m (outputs step adds (step p b) bs)) (step_mode p b)
    ∙ at_once_both p.display.mode (adds p b) (outputs step adds (step p b) bs)

-- ---- what is opened

opened_mode : (p : Progress) → (opened p).display.mode ≡ p.display.mode
unfolding opened emit
opened_mode p = refl

opened_size : (p : Progress) → (opened p).size ≡ p.size
unfolding opened
opened_size p = refl

opened_seen : (p : Progress) → (opened p).seen ≡ p.seen
unfolding opened
opened_seen p = refl

-- ---- lines

line_parts : (mode : Mode) (start x y end rest others : List ℕ)
    → open_line mode start (at_once mode x) ++ (at_once mode y ++ (((late_start mode start ++ end) ++ rest) ++ others)) ≡ start ++ (((at_once mode x ++ at_once mode y) ++ end) ++ (rest ++ others))
line_parts Short start x y end rest others = simp append_assoc
line_parts Full start x y end rest others = simp append_assoc

open_parts : (mode : Mode) (start x y : List ℕ) → open_line mode start (at_once mode x) ++ at_once mode y ≡ open_line mode start (at_once mode x ++ at_once mode y)
open_parts Short start x y = refl
open_parts Full start x y = append_assoc start x y

module _ (d : Dictionary) (mode : Mode) (lengths : List Length) (owner : Owner) (vr : Vr) (syntax : Syntax) (size : ℕ) (v : List ℕ) (fits : length v ≤ size) where
  abbrev fresh : Progress
  fresh = started vr syntax size mode

  abbrev first : Progress
  first = opened fresh

  abbrev last : Progress
  last = fold step first v

  abbrev start : List ℕ
  start = owner_start (length lengths) owner

  room : first.seen + length v ≤ first.size
  room = omega (arith, opened_seen fresh, opened_size fresh, fits)

  added : outputs step writes first v ≡ at_once mode (outputs step adds first v)
  added = written_adds first v ∙ ap (λ m. at_once m (outputs step adds first v)) (opened_mode fresh)

  pub keeps_size : (fold step (opened (started vr syntax size mode)) v).size ≡ size
  keeps_size = size_fold first v ∙ opened_size fresh

  -- bytes, and other atoms behind them
  goes : (others : List Atom) → dumps (within d mode lengths owner first) (map value_byte v ++ others) ≡ at_once mode (outputs step adds first v) ++ dumps (within d mode lengths owner last) others
  goes others =
      outputs-append dump_step dump_writes (within d mode lengths owner first) (map value_byte v) others
      ∙ ap (λ xs. xs ++ dumps (fold dump_step (within d mode lengths owner first) (map value_byte v)) others) (shows_all d mode lengths owner first v room ∙ added)
      ∙ ap (λ s. at_once mode (outputs step adds first v) ++ dumps s others) (takes_all d mode lengths owner first v room)

  -- a value that closes
  pub closes : (others : List Atom)
      → begin_writes (between d mode lengths) owner (started vr syntax size mode) ++ dumps (begin (between d mode lengths) owner (started vr syntax size mode)) (map value_byte v ++ closes_leaf ∷ others)
      ≡ owner_start (length lengths) owner
      ++ ((feeds (started vr syntax size mode) v ++ finishes (fold step (opened (started vr syntax size mode)) v))
      ++ (owner_rest d owner (fold step (opened (started vr syntax size mode)) v) ++ dumps (between d mode lengths) others))
  closes others =
      let behind : List ℕ = dumps (between d mode lengths) others in
      ap (λ xs. open_line mode start (at_once mode (opening fresh)) ++ xs) (goes (closes_leaf ∷ others))
      ∙ line_parts mode start (opening fresh) (outputs step adds first v) (finishes last) (owner_rest d owner last) behind
      ∙ ap (λ xs. start ++ (((at_once mode (opening fresh) ++ xs) ++ finishes last) ++ (owner_rest d owner last ++ behind))) (sym added)

  -- one that stays open
  pub stays : begin_writes (between d mode lengths) owner (started vr syntax size mode) ++ dumps (begin (between d mode lengths) owner (started vr syntax size mode)) (map value_byte v)
      ≡ open_line mode (owner_start (length lengths) owner) (feeds (started vr syntax size mode) v)
  stays =
      ap (λ xs. open_line mode start (at_once mode (opening fresh)) ++ xs) (shows_all d mode lengths owner first v room ∙ added)
      ∙ open_parts mode start (opening fresh) (outputs step adds first v)
      ∙ ap (λ xs. open_line mode start (at_once mode (opening fresh) ++ xs)) (sym added)

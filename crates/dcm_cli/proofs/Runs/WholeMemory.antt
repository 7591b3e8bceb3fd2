-- Identity taken out of a file, over files in memory.
use Rattle.std.proofs.Common.{◌≡◌, ◌≢◌, ◌∙◌, ap, sym, subst, refl, ◌⊎◌, inl, inr, ◌||◌, ◌&&◌, not, ◌==◌, ◌≤◌, ◌<◌, nat_le, ℕ, ℤ, List, [], ◌++◌, length, length-append, bytes_eq, if◌then◌else◌, Bool, true, false, Option, None, Some, Result, Ok, Err, arith}
use Rattle.std.specs.Option.{option_map, option_or, is_some}
use Rattle.std.specs.Str.{IsUtf8, is_utf8}
use Rattle.std.specs.IoError.{error_kind}
use Rattle.std.specs.Io.KnownBytes.{append_known}
use Rattle.std.specs.declared.io.Error.{Error}
use Rattle.std.specs.declared.io.ErrorKind.TheVariants as kinds
use Rattle.std.proofs.lemmas.Bool.Decides.{nat_tests}
use Rattle.std.proofs.lemmas.List.{append-nil}
use Rattle.std.proofs.lemmas.Slice.Eq.{bytes_eq-Decides}
use Rattle.std.proofs.lemmas.Str.{IsUtf8-from_is_utf8}
use Rattle.dcm_lemmas.proofs.Lists.{no_front}
use Rattle.dcm_lemmas.proofs.Options.{known_nothing}
use Rattle.dcm_lemmas.proofs.Choice.{if_true}
use Rattle.dcm_lemmas.proofs.Truth.{and_parts, is_false, or_before_false, or_second}
use Rattle.dcm_devices.specs.Device.{AppendsFront}
use Rattle.dcm_devices.specs.Memory.{written, room_of}
use Rattle.dcm_devices.specs.declared.memory.MemIn.{MemIn}
use Rattle.dcm_devices.specs.declared.memory.MemOut.{MemOut}
use Rattle.dcm_devices.specs.declared.memory.Measured.{Measured}
use Rattle.dcm_files.specs.declared.memory.MemFile.{MemFile}
use Rattle.dcm_files.specs.declared.memory.MemSystem.{MemSystem}
use Rattle.dcm_files.specs.declared.opened.FileKind.{FileKind}
use Rattle.dcm_files.specs.declared.opened.FileKind.TheVariants.{Regular, Other}
use Rattle.dcm_files.specs.declared.opened.Opened.{Opened}
use Rattle.dcm_files.specs.declared.opened.Unopened.{Unopened}
use Rattle.dcm_files.specs.declared.opened.Unopened.TheVariants.{Input, Output, Part}
use Rattle.dcm_files.specs.Devices.{was_read, standard}
use Rattle.dcm_files.specs.Memory.{file_named, kind_of, GivesRoom, MakesFile, may_do}
use Rattle.dcm_files.proofs.Parts.{part_is_text}
use Rattle.dcm_files.specs.Part as part
use Rattle.dcm_files.specs.Part.{part_of, is_short, read_earlier, unreplaced, BadPath, FindsNoPart, FindsPart, IsPartCause, MakesPart, OpensPart, OpensWhole, OpensWholeDevices, RemovesPart, MovesPart, EndsPart}
use Rattle.arrayvec.specs.ArrayVec.{ArrayVec}
use Rattle.dcm_deid.specs.declared.fate.Options.{Options}
use Rattle.dcm_words.specs.Words.{Job, Plan, deidentify, with_days}
use Rattle.dcm_cli.specs.declared.days.NoDays.{NoDays}
use Rattle.dcm_cli.specs.declared.days.NoDays.TheVariants as no_days
use Rattle.dcm_cli.specs.declared.first.FirstEnd.{FirstEnd}
use Rattle.dcm_cli.specs.declared.first.FirstEnd.TheVariants as ends
use Rattle.dcm_cli.specs.Days as taking
use Rattle.dcm_cli.specs.Days.{TakesDays, days_of, is_regular}
use Rattle.dcm_cli.specs.First.{Comes, FirstReads, TellsEnd}
use Rattle.dcm_cli.proofs.Runs.OneFirst.{one_first}
use Rattle.dcm_cli.specs.declared.key.KeyRead.{KeyRead}
use Rattle.dcm_cli.specs.declared.key.NoKey.{NoKey}
use Rattle.dcm_cli.specs.declared.key.NoKey.TheVariants as causes
use Rattle.dcm_cli.specs.Keys as keys
use Rattle.dcm_cli.specs.Keys.{KeyIs, TakesKey}
use Rattle.dcm_cli.specs.Answer.{Answer, Answers}
use Rattle.dcm_cli.specs.Calls.{Runs}
use Rattle.dcm_cli.specs.Change.{Change}
use Rattle.dcm_cli.specs.InputCalls.{How, to_end, Allows, TellsHow}
use Rattle.dcm_cli.specs.Remarks.{remark_lines}
use Rattle.dcm_cli.specs.Run.{Ran, as_answered, not_read, not_written, not_flushed}
use Rattle.dcm_cli.specs.ErrorLines.{Tries, Reports, unread_line, output_line}
use Rattle.dcm_cli.specs.Status.{DONE}
use Rattle.dcm_cli.specs.Program as program
use Rattle.dcm_cli.specs.Program.{EndsOutput, WorksWhole, Deidentifies, MovesByKey, unopened_line, unopened_status}
use Rattle.dcm_cli.specs.InMemory.{Outcome, bytes_at, number_at, is_one_file, of_input, of_key, stays, key_of, key_number, has_part, without_part, unwritten, without_key, without_days, not_opened, not_begun, ended, WholeComes, WholeAt, ByDays, DaysCome, FirstComes, KeyComes, DeidentifyComes, holds, removed, Fits, HasRoom, IsWritten, Leaves}
use Rattle.dcm_cli.proofs.Passes.Readers.{known}
use Rattle.dcm_cli.proofs.Runs.InMemory.{memory_reader, memory_writer, memory_change, ran_left}
use Rattle.dcm_cli.proofs.Runs.LeftMemory.{room_there, room_fits, LeftOf, leave_of}
use Rattle.dcm_cli.proofs.Runs.OpenedMemory.{no_both, is_other, other_chosen, IsInput, IsEarlier, number_of, no_one, input_opened, clash_at, why, why_stream, why_file, why_no_text, seen, IsMade, room_given, no_room, no_room_left, stream_made, NotOpened, by_input, by_output, DevicesAre}

-- ---- choices

or_nothing : (x : Option Unopened) → option_or x None ≡ x
or_nothing None = refl
or_nothing (Some u) = refl

second_none : (x y : Option Unopened) → option_or x y ≡ None → y ≡ None
second_none None y is = is
second_none (Some u) y is = absurd (let no : Some u ≡ None = is in cc)

-- there is no reason not to do what has this test
test_holds : (t : Bool) (x : Option Unopened) → (if t then x else Some Output) ≡ None → (t ≡ true) × (x ≡ None)
test_holds true x is = (refl, is)
test_holds false x is = absurd (let no : Some Output ≡ None = is in cc)

-- ---- one file

some_clash : (one : Bool) → is_some (of_input one) ≡ one
some_clash true = refl
some_clash false = refl

read_at : (b : Option ℕ) (earlier : Option FileKind) (m held : ℕ) → IsEarlier b earlier → was_read earlier (Regular 0 m held) ≡ is_one_file b (Some m)
read_at b None m held i = sym (ap (λ (x : Option ℕ). is_one_file x (Some m)) i)
read_at b (Some k) m held i = ap (λ (x : Option Unopened). is_some x) (clash_at b (Some m) k (Regular 0 m held) i (held, refl)) ∙ some_clash (is_one_file b (Some m))

-- why what is there is not replaced
module _ (a b : Option ℕ) (overwrites : Bool) (input : FileKind) (earlier : Option FileKind) (is_input : IsInput a input) (is_earlier : IsEarlier b earlier) where
  abbrev by_file : Option MemFile → Option Unopened
  by_file f = option_or (of_input (is_one_file a (number_of f))) (option_or (of_key (is_one_file b (number_of f))) (stays overwrites f))

  unreplaced_seen : (f : Option MemFile) → unreplaced overwrites (option_map kind_of f) input earlier ≡ by_file f
  unreplaced_seen None = sym (ap (λ x. option_or (of_input x) (option_or (of_key (is_one_file b None)) None)) (no_one a) ∙ ap (λ x. option_or (of_key x) None) (no_one b))
  unreplaced_seen (Some g) =
      ap (λ c. option_or c (option_or (read_earlier earlier (kind_of g)) (option_or (stays overwrites (Some g)) None))) (clash_at a (Some g.number) input (kind_of g) is_input (length g.bytes.now, refl))
      ∙ ap (λ t. option_or (of_input (is_one_file a (Some g.number))) (option_or (of_key t) (option_or (stays overwrites (Some g)) None))) (read_at b earlier g.number (length g.bytes.now) is_earlier)
      ∙ ap (λ x. option_or (of_input (is_one_file a (Some g.number))) (option_or (of_key (is_one_file b (Some g.number))) x)) (or_nothing (stays overwrites (Some g)))

-- ---- an output that has its name only once it is whole

same_error : (e x : Error) (r : Result (Opened Measured) Error) → r ≡ Err e → r ≡ Err x → e ≡ x
same_error e x r a b = let both : Err e ≡ Err x = sym a ∙ b in cc

same_output : (d x : Opened Measured) (r : Result (Opened Measured) Error) → r ≡ Ok d → r ≡ Ok x → d ≡ x
same_output d x r a b = let both : Ok d ≡ Ok x = sym a ∙ b in cc

module _ (s : MemSystem) (output : List ℕ) (overwrites : Bool) (a b : Option ℕ) (input : FileKind) (earlier : Option FileKind) (is_input : IsInput a input) (is_earlier : IsEarlier b earlier) where
  abbrev file : Option MemFile
  file = file_named s.files.now output

  abbrev by : (number : Option ℕ) → Option Unopened
  by number = option_or (option_or (of_input (is_one_file a number)) (option_or (of_key (is_one_file b number)) (stays overwrites file))) (without_part s output)

  abbrev because : Option Unopened
  because = why s output by

  -- the reason, by what was seen
  because_seen : (there : Option FileKind) (had : MemSystem) (x : Option Unopened) → output ≢ standard → IsUtf8 output → may_do.looks s output (Ok there) had → unreplaced overwrites there input earlier ≡ x
      → because ≡ option_or x (without_part s output)
  because_seen there had x other text looks is =
      why_file s output by other text
      ∙ ap (λ r. option_or r (without_part s output)) (sym (unreplaced_seen a b overwrites input earlier is_input is_earlier file) ∙ ap (λ (t : Option FileKind). unreplaced overwrites t input earlier) (sym (seen s output there had looks).0) ∙ is)

  abbrev WholeMade : MemSystem → Result (Opened Measured) Unopened → Type 0
  WholeMade after r = IsMade because s.room r × (after.written ≡ s.written)

  -- a part that is made where one may be
  made_by : (f : Option MemFile) (r : Result (Opened Measured) Unopened) (after : MemSystem) → file_named s.files.now (part_of output) ≡ f
      → (x : Result (Opened Measured) Error) → MakesFile s f x after → because ≡ (if has_part s output then Some Part else None)
      → ((d : Opened Measured) → x ≡ Ok d → r ≡ Ok d) → ((e : Error) → x ≡ Err e → (u : Unopened) × IsPartCause (error_kind e) u × (r ≡ Err u)) → WholeMade after r
  made_by None r after none (Ok d) makes is whole bad =
      subst (WholeMade after) (sym (whole d refl)) (
        room_given because s.room (Regular 1 0 0) d (is ∙ other_chosen (has_part s output) (Some Part) None (ap (λ (f : Option MemFile). is_some f) none)) makes.0,
        ap (λ (z : MemSystem). z.written) makes.1,
      )
  made_by None r after none (Err e) makes is whole bad =
      let u = bad e refl in
      let full = no_room s.room (Regular 1 0 0) e makes.0 in
      let cause = u.1.other (λ k. let no : kinds.StorageFull ≡ kinds.AlreadyExists = sym full.1 ∙ k in cc) in
      subst (WholeMade after) (sym u.2) (
        no_room_left because s.room (Regular 1 0 0) e u.0 (is ∙ other_chosen (has_part s output) (Some Part) None (ap (λ (f : Option MemFile). is_some f) none)) makes.0 cause,
        ap (λ (z : MemSystem). z.written) makes.1,
      )
  made_by (Some f) r after some (Ok d) makes is whole bad = absurd makes.0
  made_by (Some f) r after some (Err e) makes is whole bad =
      let u = bad e refl in
      subst (WholeMade after) (sym u.2) (
        inl (is ∙ if_true (has_part s output) (Some Part) None (ap (λ (f : Option MemFile). is_some f) some) ∙ ap Some (sym (u.1.there makes.0))),
        ap (λ (z : MemSystem). z.written) makes.1,
      )

  -- where one may be made, its being there is the one reason left
  may_be_made : (had : MemSystem) → output ≢ standard → FindsPart may_do output overwrites input earlier s had → because ≡ (if has_part s output then Some Part else None)
  may_be_made had other found =
      because_seen found.there had None other found.text found.looked found.replaces
      ∙ if_true (is_short output) (if has_part s output then Some Part else None) (Some Output) found.fits

  part_made : (r : Result (Opened Measured) Unopened) (had after : MemSystem) → output ≢ standard → FindsPart may_do output overwrites input earlier s had → MakesPart may_do (part_of output) had r after → WholeMade after r
  part_made r had after other found (part.no_part_text bad are same) = absurd (bad (part_is_text output found.text))
  part_made r had after other found (part.not_made e u text makes cause are) =
      made_by (file_named s.files.now (part_of output)) r after refl (Err e)
      (subst (λ (z : MemSystem). MakesFile z (file_named z.files.now (part_of output)) (Err e) after) (seen s output found.there had found.looked).1 makes)
      (may_be_made had other found)
      (λ d is. let no : Err e ≡ Ok d = is in cc) (λ x is. (u, subst (λ (y : Error). IsPartCause (error_kind y) u) (same_error e x (Err e) refl is) cause, are))
  part_made r had after other found (part.has_made d text makes are) =
      made_by (file_named s.files.now (part_of output)) r after refl (Ok d)
      (subst (λ (z : MemSystem). MakesFile z (file_named z.files.now (part_of output)) (Ok d) after) (seen s output found.there had found.looked).1 makes)
      (may_be_made had other found)
      (λ x is. are ∙ ap Ok (same_output d x (Ok d) refl is)) (λ x is. absurd (let no : Ok d ≡ Err x = is in cc))

  none_found : (u : Unopened) (after : MemSystem) → output ≢ standard → FindsNoPart may_do output overwrites input earlier s u after → (because ≡ Some u) × (after.written ≡ s.written)
  none_found u after other (part.no_output_text bad is same) = (why_no_text s output by other bad ∙ ap Some (sym is), ap (λ (z : MemSystem). z.written) same)
  none_found u after other (part.not_seen x text looks cause) = absurd (let no : Err x ≡ Ok (option_map kind_of file) = looks.0 in cc)
  none_found u after other (part.not_replaced there text looks is) = (because_seen there after (Some u) other text looks is, ap (λ (z : MemSystem). z.written) looks.1)
  none_found u after other (part.output_too_long there text looks is long are) = (
    because_seen there after None other text looks is ∙ other_chosen (is_short output) (if has_part s output then Some Part else None) (Some Output) long ∙ ap Some (sym are),
    ap (λ (z : MemSystem). z.written) looks.1,
  )

  part_opened : (r : Result (Opened Measured) Unopened) (after : MemSystem) → output ≢ standard → OpensPart may_do output overwrites input earlier s r after → WholeMade after r
  part_opened r after other (part.not_found u finds are) =
      let m = none_found u after other finds in
      subst (WholeMade after) (sym are) (inl m.0, m.1)
  part_opened r after other (part.found had finds makes) = part_made r had after other finds makes

  whole_made : (r : Result (Opened Measured) Unopened) (after : MemSystem) → OpensWhole may_do output overwrites input earlier s r after → WholeMade after r
  whole_made r after (part.stream is opens) = stream_made s because a b input earlier is_input is_earlier (why_stream s output by is) r after opens
  whole_made r after (part.part other opens) = part_opened r after other opens

-- one that can be written has a path, where it is no stream
path_of : (s : MemSystem) (output : List ℕ) (x : Option Unopened)
    → (if bytes_eq output standard then None else if is_utf8 output then option_or x (without_part s output) else Some Output) ≡ None → output ≢ standard
    → IsUtf8 output × (is_short output ≡ true)
path_of s output x is other =
    let t = test_holds (is_utf8 output) (option_or x (without_part s output)) (sym (other_chosen (bytes_eq output standard) None (if is_utf8 output then option_or x (without_part s output) else Some Output) (is_other output other)) ∙ is) in
    (IsUtf8-from_is_utf8 output t.0, (test_holds (is_short output) (if has_part s output then Some Part else None) (second_none x (without_part s output) t.1)).0)

-- ---- both devices

module _ (s : MemSystem) (p : Plan) (earlier : Option FileKind) (is_earlier : IsEarlier (key_number s p.key) earlier) where
  abbrev Devices : MemSystem → Result (Opened MemIn × Opened Measured) Unopened → Type 0
  Devices after r = DevicesAre (bytes_at s p.input) (unwritten s p) s.room s.written r after.written

  devices_are : (r : Result (Opened MemIn × Opened Measured) Unopened) (after : MemSystem) → OpensWholeDevices may_do p.input p.output p.overwrites earlier s r after → Devices after r
  devices_are r after (part.no_input x u opens cause are) =
      let i = input_opened s p.input (Err x) after opens in
      subst (Devices after) (sym are) (by_input i.0.0 (cause.other i.0.1) (ap (λ (z : MemSystem). z.written) i.1))
  devices_are r after (part.no_output d u had tried opens whole released are) =
      let i = input_opened s p.input (Ok d) had opens in
      let o = whole_made s p.output p.overwrites (number_at s p.input) (key_number s p.key) d.kind earlier i.0.1 is_earlier (Err u) tried (subst (λ (z : MemSystem). OpensWhole may_do p.output p.overwrites d.kind earlier z (Err u) tried) i.1 whole) in
      subst (Devices after) (sym are) (by_output d.device.rest.now i.0.0 o.0 (ap (λ (z : MemSystem). z.written) released ∙ o.1))
  devices_are r after (part.both d f had opens whole are) =
      let i = input_opened s p.input (Ok d) had opens in
      let o = whole_made s p.output p.overwrites (number_at s p.input) (key_number s p.key) d.kind earlier i.0.1 is_earlier (Ok f) after (subst (λ (z : MemSystem). OpensWhole may_do p.output p.overwrites d.kind earlier z (Ok f) after) i.1 whole) in
      subst (Devices after) (sym are) (record { bytes_are = i.0.0; can_is = o.0.0; room_is = o.0.1 })

-- ---- the end of an output

is_zero : (n : ℕ) → (n == 0) ≡ true → n ≡ 0
is_zero n e = grind (arith, nat_tests, e)

module _ (output : List ℕ) (had after : MemSystem) (path : output ≢ standard → IsUtf8 output × (is_short output ≡ true)) where
  not_bad : (x : Error) → output ≢ standard → BadPath output x → ⊥
  not_bad x other (part.no_text bad kind) = bad (path other).0
  not_bad x other (part.too_long long kind) = no_both (is_short output) long (path other).1

  part_moved : output ≢ standard → MovesPart may_do output had (Ok _) after → after.written ≡ had.written
  part_moved other (part.no_path x bad are same) = absurd (not_bad x other bad)
  part_moved other (part.not_kept x kept are) = let no : Ok _ ≡ Err x = are in cc
  part_moved other (part.moved has_mode kept m) = ap (λ (z : MemSystem). z.written) (m.1 ∙ kept.1)

  not_moved : (x : Error) (tried : MemSystem) → output ≢ standard → MovesPart may_do output had (Err x) tried → ⊥
  not_moved x tried other (part.no_path y bad are same) = not_bad y other bad
  not_moved x tried other (part.not_kept y kept are) = let no : Err y ≡ Ok _ = kept.0 in cc
  not_moved x tried other (part.moved has_mode kept m) = let no : Err x ≡ Ok _ = m.0 in cc

  part_removed : (r : Result (Unit {0}) Error) → output ≢ standard → RemovesPart may_do output had r after → after.written ≡ None
  part_removed r other (part.no_path x bad are same) = absurd (not_bad x other bad)
  part_removed r other (part.removed m) = ap (λ (z : MemSystem). z.written) m.1

  has_name : EndsPart may_do output true had (Ok _) after → after.written ≡ had.written
  has_name (part.stream is are same) = ap (λ (z : MemSystem). z.written) same
  has_name (part.removed other not_whole removes) = absurd (no_both true not_whole refl)
  has_name (part.moved other whole moves are) = part_moved other moves
  has_name (part.not_moved x removing tried other whole moves removes are) = absurd (not_moved x tried other moves)

  has_no_name : (x : Error) → EndsPart may_do output true had (Err x) after → ⊥
  has_no_name x (part.stream is are same) = let no : Err x ≡ Ok _ = are in cc
  has_no_name x (part.removed other not_whole removes) = no_both true not_whole refl
  has_no_name x (part.moved other whole moves are) = let no : Err x ≡ Ok _ = are in cc
  has_no_name x (part.not_moved y removing tried other whole moves removes are) = not_moved y tried other moves

  is_removed : (r : Result (Unit {0}) Error) → EndsPart may_do output false had r after → after.written ≡ (if bytes_eq output standard then had.written else None)
  is_removed r (part.stream is are same) = ap (λ (z : MemSystem). z.written) same ∙ sym (if_true (bytes_eq output standard) had.written None ((bytes_eq-Decides output standard).1 is))
  is_removed r (part.removed other not_whole removes) = part_removed r other removes ∙ sym (other_chosen (bytes_eq output standard) had.written None (is_other output other))
  is_removed r (part.moved other whole moves are) = absurd (no_both false refl whole)
  is_removed r (part.not_moved x removing tried other whole moves removes are) = absurd (no_both false refl whole)

  -- what was done with it by the status of the run
  record Ended (ran status : ℕ) (of_end : Change) : Type 0 where
    status_is : status ≡ ran
    nothing : Reports of_end []
    left : after.written ≡ (if bytes_eq output standard || ran == DONE then had.written else None)

  ended_so : (ran status : ℕ) (of_end : Change) → EndsOutput may_do output ran of_end had status after → Ended ran status of_end
  ended_so ran status of_end (program.named is ends line was) = record {
    status_is = was ∙ sym is;
    nothing = line;
    left = has_name ends ∙ sym (if_true (bytes_eq output standard || ran == DONE) had.written None (or_second (bytes_eq output standard) (ran == DONE) (ap (λ (n : ℕ). n == DONE) is)));
  }
  ended_so ran status of_end (program.not_named x is ends line was) = absurd (has_no_name x ends)
  ended_so ran status of_end (program.removed r not_done ends line was) = record {
    status_is = was;
    nothing = line;
    left = is_removed r ends
        ∙ ap (λ (b : Bool). if b then had.written else None) (sym (or_before_false (bytes_eq output standard) (ran == DONE) (is_false (ran == DONE) (λ e. not_done (is_zero ran e)))));
  }

-- ---- the lines

-- where nothing is reported, a writer stays
nothing_put : (c : Change) → Reports c [] → (c.after ≡ c.before) × (c.failed_after ≡ c.failed_before)
nothing_put c (inl x) = (x.0 ∙ known_nothing c.before, x.1)
nothing_put c (inr x) = absurd (no_front x.0.front x.0.next x.0.rest x.0.whole)

-- what a run reported of one change it reported of another with the same bytes
module _ (c d : Change) (begins : c.before ≡ d.before) (ends : c.after ≡ d.after) (failed_before : c.failed_before ≡ d.failed_before) (failed : c.failed_after ≡ d.failed_after) where
  reports_as : (lines : List ℕ) → Reports c lines → Reports d lines
  reports_as lines h =
      subst (λ (x : Option (List ℕ)). Tries x d.after d.failed_before d.failed_after lines) begins
      (subst (λ (x : Option (List ℕ)). Tries c.before x d.failed_before d.failed_after lines) ends
      (subst (λ (x : Bool). Tries c.before c.after x d.failed_after lines) failed_before
      (subst (λ (x : Bool). Tries c.before c.after c.failed_before x lines) failed h)))

  ran_as : (job : Job) (given : List ℕ) (how : How) (unread : Bool) (output : Change) (status : ℕ) → Ran job given how unread output c status → Ran job given how unread output d status
  ran_as job given how unread output status (as_answered a all read fine took lines was) = as_answered a all read fine took (reports_as a.lines lines) was
  ran_as job given how unread output status (not_read out remarks bad sure told took lines was) = not_read out remarks bad sure told took (reports_as (remark_lines remarks ++ unread_line (length given)) lines) was
  ran_as job given how unread output status (not_written each read bad lines was) = not_written each read bad (reports_as output_line lines) was
  ran_as job given how unread output status (not_flushed a all read bad none took lines was) = not_flushed a all read bad none took (reports_as output_line lines) was

  runs_as : (job : Job) (i input : MemIn) (o output : Measured) (status : ℕ) → Runs memory_reader memory_writer job c i input o output status → Runs memory_reader memory_writer job d i input o output status
  runs_as job i input o output status h = record {
    given = h.given;
    how = h.how;
    reads = h.reads;
    ran = λ readable writable. ran_as job h.given h.how _ _ status (h.ran readable writable);
    flushed = λ before after. h.flushed before after;
    within = h.within;
    failed = λ readable writable. h.failed readable writable;
  }

-- ---- the key

small : (n : ℕ) → n < 16 → nat_le 16 n ≡ true → ⊥
small n h e = grind (arith, nat_tests, h, e)

great : (n : ℕ) → 4096 < n → nat_le n 4096 ≡ true → ⊥
great n h e = grind (arith, nat_tests, h, e)

fits_least : (n : ℕ) → 16 ≤ n → nat_le 16 n ≡ true
fits_least n h = grind (arith, nat_tests, h)

fits_most : (n : ℕ) → n ≤ 4096 → nat_le n 4096 ≡ true
fits_most n h = grind (arith, nat_tests, h)

-- a file that is no key
wrong_size : (file : List ℕ) → (nat_le 16 (length file) && nat_le (length file) 4096) ≡ false → key_of (Some file) ≡ Err causes.Size
wrong_size file e = other_chosen (nat_le 16 (length file) && nat_le (length file) 4096) (Ok file) (Err causes.Size) e

all_given : (given rest file : List ℕ) → file ≡ given ++ rest → rest ≡ [] → file ≡ given
all_given given rest file is none = is ∙ ap (λ (x : List ℕ). given ++ x) none ∙ append-nil given

pub nothing_follows : (how : How) (rest : List ℕ) → how ≡ to_end → Allows how rest → rest ≡ []
nothing_follows how rest is ok = subst (λ (h : How). Allows h rest) is ok

module _ (how : How) (given rest file : List ℕ) (ok : Allows how rest) (is : file ≡ given ++ rest) where
  no_key_is : (cause : NoKey) → TellsHow false false how → KeyIs given how (Err cause) → key_of (Some file) ≡ Err cause
  no_key_is causes.Unopened tells h = absurd h
  no_key_is causes.Memory tells h = absurd h
  no_key_is causes.Unread tells h = absurd (let no : false ≡ true = subst (λ (x : How). TellsHow false false x) h tells in cc)
  no_key_is causes.Size tells (inl h) =
      let same = ap length (all_given given rest file is (nothing_follows how rest h.0 ok)) in
      wrong_size file (is_false (nat_le 16 (length file) && nat_le (length file) 4096) (λ e. small (length file) (omega (arith, same, h.1)) (and_parts (nat_le 16 (length file)) (nat_le (length file) 4096) e).0))
  no_key_is causes.Size tells (inr h) =
      let all = ap length is ∙ length-append given rest in
      wrong_size file (is_false (nat_le 16 (length file) && nat_le (length file) 4096) (λ e. great (length file) (omega (arith, all, h.1)) (and_parts (nat_le 16 (length file)) (nat_le (length file) 4096) e).1))

  key_is : (key : ArrayVec ℕ) → KeyIs given how (Ok key) → key_of (Some file) ≡ Ok key.items
  key_is key h =
      let same = all_given given rest file is (nothing_follows how rest h.0 ok) in
      let size = ap length same in
      if_true (nat_le 16 (length file) && nat_le (length file) 4096) (Ok file) (Err causes.Size)
      (rw (fits_least (length file) (omega (arith, size, h.2)), fits_most (length file) (omega (arith, size, h.3))) refl)
      ∙ ap Ok (same ∙ sym h.1)

module _ (s : MemSystem) (path : List ℕ) where
  abbrev KeyFound : Result KeyRead NoKey → Type 0
  KeyFound (Ok k) = (key_of (bytes_at s path) ≡ Ok k.bytes.items) × IsInput (number_at s path) k.kind
  KeyFound (Err cause) = key_of (bytes_at s path) ≡ Err cause

  key_taken : (r : Result KeyRead NoKey) (after : MemSystem) → TakesKey may_do memory_reader path s r after → KeyFound r × (after ≡ s)
  key_taken r after (keys.not_opened x cause opens why are) =
      let i = input_opened s path (Err x) after opens in
      (subst KeyFound (sym are) (ap key_of i.0.0 ∙ ap Err (sym (why.other i.0.1))), i.1)
  key_taken r after (keys.no_key i left had cause opens reads released are) =
      let b = input_opened s path (Ok i) had opens in
      let n = known _ _ _ _ reads.given reads.how reads.reads i.device.rest.now refl in
      (subst KeyFound (sym are) (ap key_of b.0.0 ∙ no_key_is reads.how reads.given n.0 i.device.rest.now n.1 n.2 cause reads.reads.failed reads.key_is), released ∙ b.1)
  key_taken r after (keys.key i left had k opens reads kind released are) =
      let b = input_opened s path (Ok i) had opens in
      let n = known _ _ _ _ reads.given reads.how reads.reads i.device.rest.now refl in (
        subst KeyFound (sym are) (ap key_of b.0.0 ∙ key_is reads.how reads.given n.0 i.device.rest.now n.1 n.2 k.bytes reads.key_is, subst (IsInput (number_at s path)) (sym kind) b.0.1),
        released ∙ b.1,
      )

-- ---- the days

none_regular : (number : Option ℕ) (kind : FileKind) → IsInput number kind → is_regular kind ≡ false → number ≡ None
none_regular None kind i not = refl
none_regular (Some n) kind i not = absurd (no_both true (sym (ap is_regular i.1) ∙ not) refl)

one_regular : (number : Option ℕ) (kind : FileKind) → IsInput number kind → is_regular kind ≡ true → (n : ℕ) × (number ≡ Some n)
one_regular None kind i is = absurd (no_both false refl (sym (ap is_regular i) ∙ is))
one_regular (Some n) kind i is = (n, refl)

module _ (s : MemSystem) (path key : List ℕ) where
  -- a file with these bytes whose first reading ends so
  abbrev FirstAt : FirstEnd → Type 0
  FirstAt end = (bs : List ℕ) × (n : ℕ) × (bytes_at s path ≡ Some bs) × (number_at s path ≡ Some n) × FirstReads key bs end

  abbrev DaysFound : Result ℤ NoDays → Type 0
  DaysFound (Ok days) = FirstAt (ends.Days days)
  DaysFound (Err no_days.Unopened) = bytes_at s path ≡ None
  DaysFound (Err no_days.Memory) = ⊥
  DaysFound (Err no_days.NotRegular) = (bs : List ℕ) × (bytes_at s path ≡ Some bs) × (number_at s path ≡ None)
  DaysFound (Err (no_days.Refused stop)) = FirstAt (ends.Refused stop)
  DaysFound (Err (no_days.Unread count)) = ⊥

  found_by : (file given rest : List ℕ) (how : How) (n : ℕ) → bytes_at s path ≡ Some file → number_at s path ≡ Some n → Allows how rest → file ≡ given ++ rest → (end : FirstEnd) → Comes key given how end → TellsEnd false false end → DaysFound (days_of end)
  found_by file given rest how n bytes number ok is (ends.Days days) comes tells = (file, n, bytes, number, subst (λ (bs : List ℕ). FirstReads key bs (ends.Days days)) (sym is) (comes rest ok))
  found_by file given rest how n bytes number ok is (ends.Refused stop) comes tells = (file, n, bytes, number, subst (λ (bs : List ℕ). FirstReads key bs (ends.Refused stop)) (sym is) (comes rest ok))
  found_by file given rest how n bytes number ok is (ends.Unread count) comes tells = absurd (no_both false refl tells)

  days_taken : (r : Result ℤ NoDays) (after : MemSystem) → TakesDays may_do memory_reader path key s r after → DaysFound r × (after ≡ s)
  days_taken r after (taking.not_opened x cause opens why are) =
      let i = input_opened s path (Err x) after opens in
      (subst DaysFound (sym are) (subst (λ (c : NoDays). DaysFound (Err c)) (sym (why.other i.0.1)) i.0.0), i.1)
  days_taken r after (taking.not_regular i had opens irregular released are) =
      let b = input_opened s path (Ok i) had opens in
      (subst DaysFound (sym are) (i.device.rest.now, b.0.0, none_regular (number_at s path) i.kind b.0.1 irregular), released ∙ b.1)
  days_taken r after (taking.was_read i left had end opens regular reads released are) =
      let b = input_opened s path (Ok i) had opens in
      let n = one_regular (number_at s path) i.kind b.0.1 regular in
      let k = known _ _ _ _ reads.given reads.how reads.reads i.device.rest.now refl in
      (subst DaysFound (sym are) (found_by i.device.rest.now reads.given k.0 reads.how n.0 b.0.0 n.1 k.1 k.2 end reads.comes reads.failed), released ∙ b.1)

-- ---- what is left

left_by : (b : Bool) (s : MemSystem) (output : Option MemOut) (before after : MemOut) (bytes : List ℕ) → s.room ≡ Some before → written after ≡ written before ++ bytes → output ≡ (if b then Some after else None)
    → IsWritten (if b then holds bytes else removed bytes) s output
left_by true s output before after bytes room all is = record { before = before; after = after; room_is = room; output_is = is; bytes_are = all }
left_by false s output before after bytes room all is = is

fits_by : (b : Bool) (bytes : List ℕ) (room : Option MemOut) → HasRoom (if b then holds bytes else removed bytes) room → Fits bytes room
fits_by true bytes room h = h
fits_by false bytes room h = h

module _ (s new : MemSystem) (errors new_errors : MemOut) (status : ℕ) (p : Plan) (o : Outcome) (room : HasRoom o.output s.room) where
  abbrev e : Change
  e = memory_change errors new_errors

  abbrev Left : Outcome → Type 0
  Left q = LeftOf s new errors new_errors status q

  left_as : (q : Outcome) → o ≡ q → Left q → Left o
  left_as q same l = subst Left (sym same) l

  module _ (job : Job) (comes : WholeAt s p job o) where
    comes_at : (bytes : Option (List ℕ)) (why : Option Unopened) → bytes_at s p.input ≡ bytes → unwritten s p ≡ why → WholeComes bytes why (bytes_eq p.output standard) job o
    comes_at bytes why a b =
        subst (λ (x : Option (List ℕ)). WholeComes x why (bytes_eq p.output standard) job o) a
        (subst (λ (x : Option Unopened). WholeComes (bytes_at s p.input) x (bytes_eq p.output standard) job o) b comes)

    -- an output that can be written is written in the room
    some_room : (bs : List ℕ) → WholeComes (Some bs) None (bytes_eq p.output standard) job o → s.room ≡ None → ⊥
    some_room bs c none =
        room_there c.0.output s.room (fits_by (bytes_eq p.output standard || c.0.status == DONE) c.0.output s.room (subst (λ (q : Outcome). HasRoom q.output s.room) c.2 room)) none

    refused_left : (u : Unopened) → NotOpened (bytes_at s p.input) (unwritten s p) s.room s.written u new.written → Reports e (unopened_line u) → status ≡ unopened_status u → Left o
    refused_left u (by_input none is after) line was =
        left_as (not_opened) (comes_at None (unwritten s p) none refl)
        (leave_of s new errors new_errors status (not_opened) after (subst (λ (v : Unopened). Reports e (unopened_line v)) is line) (was ∙ ap unopened_status is))
    refused_left u (by_output bs bytes (inl is) after) line was =
        left_as (not_begun u) (comes_at (Some bs) (Some u) bytes is) (leave_of s new errors new_errors status (not_begun u) after line was)
    refused_left u (by_output bs bytes (inr none) after) line was = absurd (some_room bs (comes_at (Some bs) None bytes none.0) none.1)

    pub whole_left : (earlier : Option FileKind) → IsEarlier (key_number s p.key) earlier → WorksWhole may_do memory_reader memory_writer p job earlier e s status new → Left o
    whole_left earlier is_earlier (program.none_opened u opens line was) = refused_left u (devices_are s p earlier is_earlier (Err u) new opens) line was
    whole_left earlier is_earlier (program.has_ended i d had has_run ran of_run of_end opens (program.closed_with_loss input output ending x f back told was) ends follows) = absurd (let no = back.closed.0 in cc)
    whole_left earlier is_earlier (program.has_ended i d had has_run ran of_run of_end opens (program.closed_well input output ran_so back) ends follows) =
        let x = devices_are s p earlier is_earlier (Ok (i, d)) had opens in
        let c = comes_at (Some i.device.rest.now) None x.bytes_are x.can_is in
        let a = c.0 in
        let fits = room_fits a.output s.room d.device.out x.room_is (fits_by (bytes_eq p.output standard || a.status == DONE) a.output s.room (subst (λ (q : Outcome). HasRoom q.output s.room) c.2 room)) in
        let end = ended_so p.output has_run new (path_of s p.output (option_or (of_input (is_one_file (number_at s p.input) (number_at s p.output))) (option_or (of_key (is_one_file (key_number s p.key) (number_at s p.output))) (stays p.overwrites (file_named s.files.now p.output)))) x.can_is) ran status of_end ends in
        let kept = nothing_put of_end end.nothing in
        let run = runs_as of_run e follows.begins.0 (sym (follows.ends.0 ∙ kept.0 ∙ follows.meets.0)) follows.begins.1 (sym (follows.ends.1 ∙ kept.1 ∙ follows.meets.1)) job i.device input d.device output ran ran_so in
        let l = ran_left job i.device d.device input output errors new_errors ran run fits.0 a c.1 fits.1 in
        let closed = ap (λ (z : MemSystem). z.written) (back.released ∙ back.closed.1) in
        left_as (ended (bytes_eq p.output standard) a) c.2
        (record {
          output_is = left_by (bytes_eq p.output standard || a.status == DONE) s new.written d.device.out output.out a.output x.room_is l.output
              (end.left ∙ ap (λ (n : ℕ). if bytes_eq p.output standard || n == DONE then has_run.written else None) l.status_is ∙ ap (λ (w : Option MemOut). if bytes_eq p.output standard || a.status == DONE then w else None) closed);
          lines_are = λ most. l.lines most;
          status_is = end.status_is ∙ l.status_is;
        })

  module _ (options : Options) (reports : Bool) (k : KeyRead) (c : FirstComes (bytes_at s p.input) (number_at s p.input) s p options reports k.bytes.items o) where
    moved_at : (bytes : Option (List ℕ)) (number : Option ℕ) → bytes_at s p.input ≡ bytes → number_at s p.input ≡ number → FirstComes bytes number s p options reports k.bytes.items o
    moved_at bytes number a b =
        subst (λ (x : Option (List ℕ)). FirstComes x number s p options reports k.bytes.items o) a
        (subst (λ (x : Option ℕ). FirstComes (bytes_at s p.input) x s p options reports k.bytes.items o) b c)

    first_at : (end : FirstEnd) → FirstAt s p.input k.bytes.items end → DaysCome end s p options reports k.bytes.items o
    first_at end (bs, n, bytes, number, reads) =
        let x = moved_at (Some bs) (Some n) bytes number in
        subst (λ (y : FirstEnd). DaysCome y s p options reports k.bytes.items o) (one_first k.bytes.items bs x.0 end x.1 reads) x.2

    without : (cause : NoDays) → DaysFound s p.input k.bytes.items (Err cause) → o ≡ without_days cause
    without no_days.Unopened none = moved_at None (number_at s p.input) none refl
    without no_days.Memory never = absurd never
    without no_days.NotRegular (bs, bytes, number) = moved_at (Some bs) None bytes number
    without (no_days.Refused stop) found = first_at (ends.Refused stop) found
    without (no_days.Unread count) never = absurd never

    moved_left : IsEarlier (key_number s p.key) (Some k.kind) → MovesByKey may_do memory_reader memory_writer p options reports k e s status new → Left o
    moved_left earlier (program.no_days cause takes line was) =
        let x = days_taken s p.input k.bytes.items (Err cause) new takes in
        left_as (without_days cause) (without cause x.0) (leave_of s new errors new_errors status (without_days cause) (ap (λ (z : MemSystem). z.written) x.1) line was)
    moved_left earlier (program.by_days days has_days takes works) =
        let x = days_taken s p.input k.bytes.items (Ok days) has_days takes in
        whole_left (deidentify (with_days options days) reports k.bytes.items) (first_at (ends.Days days) x.0) (Some k.kind) earlier
        (subst (λ (z : MemSystem). WorksWhole may_do memory_reader memory_writer p (deidentify (with_days options days) reports k.bytes.items) (Some k.kind) e z status new) x.1 works)

  pub deidentified_left : (options : Options) (reports : Bool) → DeidentifyComes p.key s p options reports o → Deidentifies may_do memory_reader memory_writer p options reports e s status new → Left o
  deidentified_left options reports comes (program.without_key none works) =
      whole_left p.job (subst (λ (k : Option (List ℕ)). DeidentifyComes k s p options reports o) none comes) None (ap (key_number s) none) works
  deidentified_left options reports comes (program.no_key path cause some takes line was) =
      let k = key_taken s path (Err cause) new takes in
      let missing = subst (λ x. KeyComes x s p options reports o) k.0 (subst (λ (k : Option (List ℕ)). DeidentifyComes k s p options reports o) some comes) in
      left_as (without_key cause) missing (leave_of s new errors new_errors status (without_key cause) (ap (λ (z : MemSystem). z.written) k.1) line was)
  deidentified_left options reports comes (program.with_days_of_key path k had some takes by_key moves) =
      let t = key_taken s path (Ok k) had takes in
      let c = subst (λ x. KeyComes x s p options reports o) t.0.0 (subst (λ (k : Option (List ℕ)). DeidentifyComes k s p options reports o) some comes) in
      moved_left options reports k (subst (λ (b : Bool). ByDays b s p options reports k.bytes.items o) by_key c) (subst (λ (n : Option ℕ). IsInput n k.kind) (sym (ap (key_number s) some)) t.0.1)
      (subst (λ (z : MemSystem). MovesByKey may_do memory_reader memory_writer p options reports k e z status new) t.1 moves)
  deidentified_left options reports comes (program.with_key path k had some takes no_days works) =
      let t = key_taken s path (Ok k) had takes in
      let c = subst (λ (b : Bool). ByDays b s p options reports k.bytes.items o) no_days (subst (λ x. KeyComes x s p options reports o) t.0.0 (subst (λ (k : Option (List ℕ)). DeidentifyComes k s p options reports o) some comes)) in
      whole_left (deidentify options reports k.bytes.items) c (Some k.kind) (subst (λ (n : Option ℕ). IsInput n k.kind) (sym (ap (key_number s) some)) t.0.1)
      (subst (λ (z : MemSystem). WorksWhole may_do memory_reader memory_writer p (deidentify options reports k.bytes.items) (Some k.kind) e z status new) t.1 works)

-- What obeying words that ask for dumps of several files leaves over files in memory.
use Rattle.std.proofs.Common.{◌≡◌, ◌∙◌, ap, sym, subst, refl, ℕ, ◌≤◌, List, [], ◌∷◌, ◌++◌, append-nil, length, Bool, true, false, Option, Some, None, Result, Ok, Err}
use Rattle.std.specs.Prelude.{IfSome}
use Rattle.std.specs.declared.io.Error.{Error}
use Rattle.dcm_lemmas.proofs.Options.{known_nothing}
use Rattle.dcm_devices.specs.declared.device.WriteFailed.{WriteFailed}
use Rattle.dcm_devices.specs.declared.memory.MemIn.{MemIn}
use Rattle.dcm_devices.specs.declared.memory.MemOut.{MemOut}
use Rattle.dcm_devices.specs.declared.memory.Measured.{Measured}
use Rattle.std.specs.Io.KnownBytes.{append_known}
use Rattle.dcm_devices.specs.Memory.{written, size, room_of}
use Rattle.dcm_files.specs.declared.memory.MemSystem.{MemSystem}
use Rattle.dcm_files.specs.declared.opened.FileKind.{FileKind}
use Rattle.dcm_files.specs.declared.opened.FileKind.TheVariants.{Other}
use Rattle.dcm_files.specs.declared.opened.Opened.{Opened}
use Rattle.dcm_files.specs.Memory.{GivesRoom, may_do}
use Rattle.dcm_names.specs.Names.{can_be_opened, names_of}
use Rattle.dcm_names.specs.NamedLines.{unopened_line}
use Rattle.dcm_names.specs.Reader.{READ_LIMIT}
use Rattle.dcm_table_words.specs.Table.{Name, file, list}
use Rattle.dcm_cli.specs.Change.{Change}
use Rattle.dcm_cli.specs.InMemory.{Fits, Took}
use Rattle.dcm_cli.specs.Status.{DEVICE}
use Rattle.dcm_cli.proofs.Runs.InMemory.{memory_reader, memory_writer, memory_change}
use Rattle.dcm_each.specs.Each.{Writing, DoesListed, listed_path, Listed, none_listed, and_name, DoesNames, all_done, not_read, not_written, DoesList, no_list, list_done, DoesName, DoneSoFar, none_done, and_done, DoesAll, all_names, failed_at}
use Rattle.dcm_each.specs.InMemory.{file_of, IsReadWhole, AreReadWhole}
use Rattle.dcm_each.proofs.InMemory.{Told, told_of, held, opened_is, grew, no_less, told_left}
use Rattle.dcm_each.proofs.ListGiven.{calls_left, given_on, name_within, listed_given, all_given, never_unread}
use Rattle.dcm_dumps.specs.declared.plan.DumpsUsage.{DumpsUsage}
use Rattle.dcm_dumps.specs.Words.{Dumps, meant_dumps, total_of}
use Rattle.dcm_dumps.specs.Dumps.{Shown, nothing_shown, dumps_into}
use Rattle.dcm_dumps.specs.DumpsProgram as program
use Rattle.dcm_dumps.specs.DumpsProgram.{ShowsMeant, PutsDumps, MakesDumps, ObeysDumps}
use Rattle.dcm_dumps.specs.DumpsInMemory as spec
use Rattle.dcm_dumps.specs.DumpsInMemory.{Texts, no_texts, Place, at_first, AllCome, Showing, unopened, ListedComes, ListComes, NameComes, DumpsOutcome, showing, TextsCome, DumpsCome, DumpsComeBy, HasRoomFor, IsDumped, LeavesDumps, ListsAreReadWhole}
use Rattle.dcm_dumps.proofs.TextsAlike.{split}
use Rattle.dcm_dumps.proofs.DumpsMemory.{place, All, Less, Left, manner, at_left, nothing_left, one_more, one_failed}

-- ---- the names of a list

module _ (s : MemSystem) (h : Showing) where
  abbrev DoesOne : List ℕ → Writing MemSystem (Shown Measured)
  DoesOne name errors from to before result after = DoesListed may_do (dumps_into memory_reader memory_writer (record { job = h.job; output = Other; total = h.total })) name errors from to before result after

  abbrev OneComes : Place → List ℕ → Texts → Place → Type 0
  OneComes p name t last = ListedComes s h p name t last

  one_left : (name : List ℕ) (t : Texts) (last : Place) (errors : Change) (from to : Shown Measured) (result : Result ℕ WriteFailed) (after : MemSystem) → DoesOne name errors from to s result after → OneComes (place from) name t last
      → Left t last errors from to result × (after ≡ s)
  one_left name t last errors from to result after does comes = at_left h name errors s (listed_path name) t last from to result after does comes

  listed_left : (from : Shown Measured) (input : MemIn) (errors : Change) (to : Shown Measured) (given : List ℕ) (left : MemIn) (is_over : Bool) (names : List (List ℕ)) (status : ℕ) (after : MemSystem) (t : Texts) (last : Place)
      → Listed memory_reader.gets DoesOne from input s errors to given left is_over names status after → AllCome OneComes (place from) names t last → All t last errors from to status × (after ≡ s)
  listed_left from input errors to given left is_over names status after t last (none_listed line out none same going no_names is was) come =
      let c = subst (λ (ns : List (List ℕ)). AllCome OneComes (place from) ns t last) no_names come in
      (nothing_left errors from to t last status line out c.0 c.1 is, was)
  listed_left from input errors to given left is_over names status after t last (and_name earlier more others name reached ended mid at between of_others of_name so_far calls does follows whole all is) come =
      let p = split OneComes (place from) others (name ∷ []) t last (subst (λ (ns : List (List ℕ)). AllCome OneComes (place from) ns t last) all come) in
      let first = listed_left from input of_others mid earlier at false others reached between p.first p.mid so_far p.of_first in
      one_more s DoesOne OneComes one_left (place from) others name t last p errors of_others of_name from mid to reached ended status between after first does follows is

  names_left : (path : List ℕ) (errors : Change) (from to : Shown Measured) (input left : MemIn) (result : Result ℕ WriteFailed) (after : MemSystem) (t : Texts) (last : Place)
      → length input.rest.now ≤ READ_LIMIT → DoesNames memory_reader DoesOne path errors from to input left s result after → AllCome OneComes (place from) (names_of input.rest.now true) t last → Left t last errors from to result × (after ≡ s)
  names_left path errors from to input left result after t last short (all_done given was_over names status at so_far ends is) come =
      let whole = all_given was_over input at left given names (listed_given DoesOne s from input errors to given at was_over names status after so_far) ends in
      let same : names ≡ names_of input.rest.now true = ends.all ∙ ap (λ (bs : List ℕ). names_of bs true) (sym whole) in
      let l = listed_left from input errors to given at was_over names status after t last so_far (subst (λ (ns : List (List ℕ)). AllCome OneComes (place from) ns t last) (sym same) come) in
      (subst (Left t last errors from to) (sym is) l.0, l.1)
  names_left path errors from to input left result after t last short (not_read given names status count at of_names of_line so_far unread failed line follows is) come =
      absurd (never_unread input at left given names count short (listed_given DoesOne s from input of_names to given at false names status after so_far) unread failed)
  names_left path errors from to input left result after t last short (not_written given more names others name is_over status mid at between of_names of_name failure so_far calls all does follows is) come =
      let whole = given_on is_over input at left given more (listed_given DoesOne s from input of_names mid given at false names status between so_far) (calls_left is_over at left more calls) in
      let w = name_within is_over input left (given ++ more) names others name whole all in
      let p = split OneComes (place from) names (name ∷ w.0) t last (subst (λ (ns : List (List ℕ)). AllCome OneComes (place from) ns t last) w.1 come) in
      let first = listed_left from input of_names mid given at false names status between p.first p.mid so_far p.of_first in
      let l = one_failed s DoesOne OneComes one_left (place from) names w.0 name t last p of_names of_name from mid to status failure between after first does in
      (subst (Left t last errors from to) (sym is) l.0, l.1)

  list_left : (path : List ℕ) (t : Texts) (last : Place) (errors : Change) (from to : Shown Measured) (result : Result ℕ WriteFailed) (after : MemSystem) → DoesList may_do memory_reader DoesOne path errors from to s result after
      → ListComes s h (place from) path (file_of s path path) t last → IfSome (file_of s path path) (λ bytes. length bytes ≤ READ_LIMIT) → Left t last errors from to result × (after ≡ s)
  list_left path t last errors from to result after (no_list opens line same is) comes short =
      let o = opened_is s (can_be_opened path) path None after opens in
      let c = subst (λ (f : Option (List ℕ)). ListComes s h (place from) path f t last) o.0 comes in (
        subst (Left t last errors from to) (sym is)
            (subst (λ (x : Texts). All x last errors from to DEVICE) (sym c.0)
            (record {
              grown = ap (λ (x : Shown Measured). held x.out) same ∙ sym (known_nothing (held from.out));
              fine = ap (λ (x : Shown Measured). x.out.out.failed) same;
              told = told_of errors (unopened_line path) line;
              status_is = refl;
              at = ap place same ∙ sym c.1;
            })),
        o.1,
      )
  list_left path t last errors from to result after (list_done i left has_list has_read opens does back) comes short =
      let o = opened_is s (can_be_opened path) path (Some i) has_list opens in
      let l = names_left path errors from to i.device left result has_read t last
      (subst (λ (f : Option (List ℕ)). IfSome f (λ bytes. length bytes ≤ READ_LIMIT)) o.0 short)
      (subst (λ (z : MemSystem). DoesNames memory_reader DoesOne path errors from to i.device left z result has_read) o.1 does)
      (subst (λ (f : Option (List ℕ)). ListComes s h (place from) path f t last) o.0 comes)
      in
      (l.0, back ∙ l.1)

  -- ---- all names

  abbrev Does : Name → Writing MemSystem (Shown Measured)
  Does name errors from to before result after = DoesName may_do memory_reader (dumps_into memory_reader memory_writer (record { job = h.job; output = Other; total = h.total })) name errors from to before result after

  -- what the name of a file comes to, or of a list that is read whole
  abbrev WholeNameComes : Place → Name → Texts → Place → Type 0
  WholeNameComes p name t last = NameComes s h p name t last × IsReadWhole s name

  of_whole : (p : Place) (names : List Name) (t : Texts) (last : Place) → AreReadWhole s names → AllCome (NameComes s h) p names t last → AllCome WholeNameComes p names t last
  of_whole p [] t last whole come = come
  of_whole p (name ∷ names) t last whole (mid, first, later, comes, rest, is) = (mid, first, later, (comes, whole.0), of_whole mid names later last whole.1 rest, is)

  name_left : (name : Name) (t : Texts) (last : Place) (errors : Change) (from to : Shown Measured) (result : Result ℕ WriteFailed) (after : MemSystem) → Does name errors from to s result after → WholeNameComes (place from) name t last
      → Left t last errors from to result × (after ≡ s)
  name_left (file path) t last errors from to result after does comes = at_left h path errors s path t last from to result after does comes.0
  name_left (list path) t last errors from to result after does comes = list_left path t last errors from to result after does comes.0 comes.1

  so_far_left : (from : Shown Measured) (errors : Change) (to : Shown Measured) (names : List Name) (status : ℕ) (after : MemSystem) (t : Texts) (last : Place) → DoneSoFar Does from s errors to names status after → AllCome WholeNameComes (place from) names t last
      → All t last errors from to status × (after ≡ s)
  so_far_left from errors to names status after t last (none_done line same none is was) come =
      let c = subst (λ (ns : List Name). AllCome WholeNameComes (place from) ns t last) none come in
      (nothing_left errors from to t last status line same c.0 c.1 is, was)
  so_far_left from errors to names status after t last (and_done others name reached ended mid between of_others of_name so_far does follows whole is) come =
      let p = split WholeNameComes (place from) others (name ∷ []) t last (subst (λ (ns : List Name). AllCome WholeNameComes (place from) ns t last) whole come) in
      let first = so_far_left from of_others mid others reached between p.first p.mid so_far p.of_first in
      one_more s Does WholeNameComes name_left (place from) others name t last p errors of_others of_name from mid to reached ended status between after first does follows is

  all_left : (names : List Name) (errors : Change) (from to : Shown Measured) (result : Result ℕ WriteFailed) (after : MemSystem) (t : Texts) (last : Place) → DoesAll Does names errors from to s result after → AllCome WholeNameComes (place from) names t last
      → Left t last errors from to result × (after ≡ s)
  all_left names errors from to result after t last (all_names status so_far is) come =
      let l = so_far_left from errors to names status after t last so_far come in
      (subst (Left t last errors from to) (sym is) l.0, l.1)
  all_left names errors from to result after t last (failed_at others later name status mid between of_others of_name failure so_far does follows whole is) come =
      let p = split WholeNameComes (place from) others (name ∷ later) t last (subst (λ (ns : List Name). AllCome WholeNameComes (place from) ns t last) whole come) in
      let first = so_far_left from of_others mid others status between p.first p.mid so_far p.of_first in
      let l = one_failed s Does WholeNameComes name_left (place from) others later name t last p of_others of_name from mid to status failure between after first does in
      (subst (Left t last errors from to) (sym is) l.0, l.1)

-- ---- an output with room

room_given : (room : Option MemOut) (kind : FileKind) (o : Opened Measured) → GivesRoom room kind (Ok o) → (room ≡ Some o.device.out) × (o.kind ≡ kind)
room_given (Some m) kind o gave = (ap Some (sym gave.0), gave.1)
room_given None kind o gave = absurd gave

room_refused : (text : List ℕ) (room : Option MemOut) (kind : FileKind) (cause : Error) → HasRoomFor (Some text) room → GivesRoom room kind (Err cause) → ⊥
room_refused text (Some m) kind cause has gave = gave
room_refused text None kind cause has gave = has

room_fits : (text : List ℕ) (room : Option MemOut) (m : MemOut) → room ≡ Some m → HasRoomFor (Some text) room → length text ≤ room_of m
room_fits text room m is has = (subst (HasRoomFor (Some text)) is has).1

-- ---- words

module _ (s : MemSystem) (d : Dumps) (lists : AreReadWhole s d.names) (t : Texts) (come : TextsCome s d t) where
  -- what was put to an output with room for it
  record Put (errors : Change) (from to : Measured) (status : ℕ) : Type 0 where
    grown : held to ≡ append_known (held from) t.text
    told : Told errors t.lines
    status_is : status ≡ t.status

  abbrev Writes : (errors : Change) (from to : Measured) (before : MemSystem) → Result ℕ WriteFailed → (after : MemSystem) → Type 0
  Writes errors from to before result after = ShowsMeant may_do memory_reader memory_writer d Other errors from to before result after

  puts_left : (errors : Change) (from to : Measured) (status : ℕ) (after : MemSystem) → length t.text ≤ room_of from.out → PutsDumps Writes errors from to s status after → Put errors from to status
  puts_left errors from to status after room (program.put shows) =
      let x = (all_left s (showing d) d.names errors (nothing_shown from) shows.0 (Ok status) after t come.0 shows.2 (of_whole s (showing d) at_first d.names t come.0 lists come.1)).0 in
      record {
        grown = ap held (sym shows.1) ∙ x.grown;
        told = x.told;
        status_is = x.status_is;
      }
  puts_left errors from to status after room (program.not_put failure of_dumps of_line shows line is follows) =
      let x = (all_left s (showing d) d.names of_dumps (nothing_shown from) shows.0 (Err failure) after t come.0 shows.2 (of_whole s (showing d) at_first d.names t come.0 lists come.1)).0 in
      absurd (no_less from.out shows.0.out.out x.less (length t.text) x.grown x.failed x.fewer room)

module _ (s new : MemSystem) (errors new_errors : MemOut) (status : ℕ) (words : List (List ℕ)) (o : DumpsOutcome) (comes : DumpsCome words s o) (room : HasRoomFor o.text s.room) (lists : ListsAreReadWhole words s) where
  abbrev Leaves : DumpsOutcome → Type 0
  Leaves x = LeavesDumps x s errors new.written new_errors status

  abbrev e : Change
  e = memory_change errors new_errors

  by : (meant : Result Dumps DumpsUsage) → meant_dumps words ≡ meant → DumpsComeBy s meant o
  by meant is = subst (λ (m : Result Dumps DumpsUsage). DumpsComeBy s m o) is comes

  leave : (x : DumpsOutcome) → IsDumped x.text s new.written → Told e x.lines → status ≡ x.status → Leaves x
  leave x is told was = record { output_is = is; lines_are = λ fits. told_left errors new_errors x.lines told fits; status_is = was }

  makes_left : (d : Dumps) → meant_dumps words ≡ Ok d → MakesDumps may_do memory_reader memory_writer d e s status new → Leaves o
  makes_left d means (program.no_stdout cause which gave why line is) =
      let c = by (Ok d) means in
      absurd (room_refused c.0.text s.room Other cause (subst (λ (q : DumpsOutcome). HasRoomFor q.text s.room) c.2 room) gave.0)
  makes_left d means (program.made out output has_output has_written gave puts closes) =
      let c = by (Ok d) means in
      let is = room_given s.room Other out gave.0 in
      let enough = room_fits c.0.text s.room out.device.out is.0 (subst (λ (q : DumpsOutcome). HasRoomFor q.text s.room) c.2 room) in
      let empty : MemSystem = record s { room = None } in
      let x = puts_left empty d (lists d means) c.0 c.1 e out.device output status has_written enough
      (subst (λ (k : FileKind). PutsDumps (ShowsMeant may_do memory_reader memory_writer d k) e out.device output empty status has_written) is.1
      (subst (λ (z : MemSystem). PutsDumps (ShowsMeant may_do memory_reader memory_writer d out.kind) e out.device output z status has_written) gave.1 puts))
      in
      let took : Took c.0.text s.room new.written = record {
        before = out.device.out;
        after = output.out;
        room_is = is.0;
        output_is = ap (λ (z : MemSystem). z.written) closes.call.1;
        bytes_are = grew (size out.device.out) (size output.out) (written out.device.out) (written output.out) c.0.text x.grown;
      } in
      subst Leaves (sym c.2) (leave (spec.dumped c.0) took x.told x.status_is)

  pub dumps_left : ObeysDumps may_do memory_reader memory_writer words e s status new → Leaves o
  dumps_left (program.refused u means line is same) = subst Leaves (sym (by (Err u) means)) (leave (spec.refused u) (ap (λ (z : MemSystem). z.written) same) (told_of e _ line) is)
  dumps_left (program.showed d means makes) = makes_left d means makes

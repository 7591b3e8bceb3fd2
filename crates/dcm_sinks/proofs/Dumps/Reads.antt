-- What the dump sink writes of what a machine shows.
use Rattle.std.proofs.Common.{◌≡◌, ◌∙◌, ap, refl, ℕ, ◌≤◌, List, [], ◌++◌, false, None, arith}
use Rattle.dcm_base.specs.declared.syntax.Syntax.{Syntax}
use Rattle.dcm_base.specs.declared.mode.Mode.{Mode}
use Rattle.dcm_base.specs.Tree.Front.{Front, front}
use Rattle.dcm_base.specs.Bytes.Spelling.{SpellsFront, after_trees}
use Rattle.dcm_base.specs.Reading.Stop.{Stop, HeadBar}
use Rattle.dcm_base.specs.Reading.Bars.{no_bar}
use Rattle.dcm_base.specs.Reading.Reads.{INPUT_LIMIT, Reads, ended}
use Rattle.dcm_base.specs.Steps.Atoms.{Atom, end_atoms, front_atoms, open_atoms, is_closed}
use Rattle.dcm_base.specs.Dump.Dump.{dump_front, dump_set}
use Rattle.dcm_base.specs.Steps.Steps.{outputs}
use Rattle.dcm_base.proofs.DataSets.Shown.{trees_shown, open_shown}
use Rattle.dcm_base.specs.declared.dictionary.Dictionary.{Dictionary}
use Rattle.dcm_stream.specs.Follows.{BarsAs}
use Rattle.dcm_stream.proofs.Heads.Stops.{NeverEarly}
use Rattle.dcm_sinks.specs.DumpSink.{dump_start, dump_step, dump_writes}
use Rattle.dcm_sinks.proofs.Dumps.ValueRuns.{dumps}
use Rattle.dcm_sinks.proofs.Dumps.DataSets.{trees_dump, open_dump}
use Rattle.dcm_sinks.proofs.Dumps.OpenLists.{stays_trees}
use Rattle.dcm_sinks.proofs.ReadBack.IsRead.{IsRead, whole_read, far_read}

-- ---- a machine that bars nothing

abbrev pub no_bars : List Atom → HeadBar
no_bars = λ atoms tag vr declared. None

pub bars_none : BarsAs no_bars no_bar
bars_none = record { agree = λ f atoms w tag vr declared. refl; never_early = λ f tag vr declared. refl }

pub bars_late : (atoms : List Atom) → NeverEarly (no_bars atoms)
bars_late atoms = λ tag vr declared. refl

-- ---- what is read, and its dump

read_dumps : (d : Dictionary) (mode : Mode) (s : Syntax) (f : Front) → IsRead s f → dumps (dump_start d mode) (front_atoms s f) ≡ dump_front d mode 0 f
unfolding SpellsFront front_atoms dump_front
read_dumps d mode s (front whole o reached closed) r =
    let w = r.spelled in
    let others : List Atom = open_atoms (after_trees s whole) o (end_atoms closed) in
    let shown = trees_shown s whole r.bytes w.0 others w.1 in
    trees_dump d mode 0 [] whole (front_atoms s (front whole o reached closed)) others (omega arith) r.shallow shown
    ∙ ap (λ z. dump_set d mode 0 whole ++ z)
    (open_dump d mode 0 [] o closed others (omega arith) (stays_trees 0 whole (front_atoms s (front whole o reached closed)) others shown r.shallow) (open_shown (after_trees s whole) o w.0 (end_atoms closed) w.2))

pub reads_whole : (d : Dictionary) (mode : Mode) (s : Syntax) (start : ℕ) (bytes : List ℕ) (f : Front) (stop : Stop) → start ≤ INPUT_LIMIT → Reads no_bar s start bytes f stop
    → outputs dump_step dump_writes (dump_start d mode) (front_atoms s f) ≡ dump_front d mode 0 f
reads_whole d mode s start bytes f stop le reads = read_dumps d mode s f (whole_read no_bars no_bar bars_none bars_late s start bytes le f stop reads)

pub reads_so_far : (d : Dictionary) (mode : Mode) (s : Syntax) (start : ℕ) (bytes : List ℕ) (f : Front) (stop : Stop) → start ≤ INPUT_LIMIT → is_closed f ≡ false → Reads no_bar s start bytes (ended stop f) stop
    → outputs dump_step dump_writes (dump_start d mode) (front_atoms s f) ≡ dump_front d mode 0 f
reads_so_far d mode s start bytes f stop le c reads = read_dumps d mode s f (far_read no_bars no_bar bars_none bars_late s start bytes le f stop c reads)

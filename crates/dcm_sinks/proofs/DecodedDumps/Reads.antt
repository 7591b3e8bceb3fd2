-- What the sink of texts writes of what a machine shows.
use Rattle.std.proofs.Common.{◌≡◌, ◌∙◌, ap, sym, refl, fold, ℕ, ◌≤◌, List, [], ◌++◌, false, arith}
use Rattle.dcm_base.specs.declared.syntax.Syntax.{Syntax}
use Rattle.dcm_base.specs.declared.mode.Mode.{Mode}
use Rattle.dcm_base.specs.Tree.Front.{Front, front}
use Rattle.dcm_base.specs.Bytes.Spelling.{SpellsFront, after_trees}
use Rattle.dcm_base.specs.Reading.Stop.{Stop, complete, refused}
use Rattle.dcm_base.specs.Reading.Bars.{no_bar}
use Rattle.dcm_base.specs.Reading.Reads.{INPUT_LIMIT, Reads, ended}
use Rattle.dcm_base.specs.Steps.Atoms.{Atom, end_atoms, front_atoms, open_atoms, is_closed}
use Rattle.dcm_base.specs.Steps.Steps.{outputs}
use Rattle.dcm_base.proofs.DataSets.Shown.{trees_shown, open_shown}
use Rattle.dcm_base.specs.declared.dictionary.Dictionary.{Dictionary}
use Rattle.dcm_sinks.specs.InForce.{EMPTY, sets_after}
use Rattle.dcm_sinks.specs.DecodedDump.{decoded_front, decoded_set}
use Rattle.dcm_sinks.specs.Unknown.{has_unknown}
use Rattle.dcm_sinks.specs.DecodedSink.{decoded_start, decoded_step, decoded_writes}
use Rattle.dcm_sinks.proofs.DecodedDumps.DataSets.{trees_decoded, open_decoded}
use Rattle.dcm_sinks.proofs.DecodedDumps.UnknownTold.{unknown_parts}
use Rattle.dcm_sinks.proofs.DecodedDumps.Pairs.{decoded_dumps}
use Rattle.dcm_sinks.proofs.Dumps.OpenLists.{stays_trees}
use Rattle.dcm_sinks.proofs.Dumps.Reads.{no_bars, bars_none, bars_late}
use Rattle.dcm_sinks.proofs.ReadBack.IsRead.{IsRead, whole_read, far_read}

read_dumps : (d : Dictionary) (mode : Mode) (s : Syntax) (f : Front) → IsRead s f → decoded_dumps (decoded_start d mode) (front_atoms s f) ≡ decoded_front d mode EMPTY 0 f
unfolding SpellsFront front_atoms decoded_front
read_dumps d mode s (front whole o reached closed) r =
    let w = r.spelled in
    let others : List Atom = open_atoms (after_trees s whole) o (end_atoms closed) in
    let shown = trees_shown s whole r.bytes w.0 others w.1 in
    trees_decoded d mode 0 [] [] EMPTY whole (front_atoms s (front whole o reached closed)) others (omega arith) (omega arith) r.shallow shown
    ∙ ap (λ (z : List ℕ). decoded_set d mode EMPTY 0 whole ++ z)
    (open_decoded d mode 0 [] [] (sets_after EMPTY whole) o closed others (omega arith) (omega arith) (stays_trees 0 whole (front_atoms s (front whole o reached closed)) others shown r.shallow) (open_shown (after_trees s whole) o w.0 (end_atoms closed) w.2))

pub reads_whole : (d : Dictionary) (mode : Mode) (s : Syntax) (start : ℕ) (bytes : List ℕ) (f : Front) (stop : Stop) → start ≤ INPUT_LIMIT → Reads no_bar s start bytes f stop
    → outputs decoded_step decoded_writes (decoded_start d mode) (front_atoms s f) ≡ decoded_front d mode EMPTY 0 f
reads_whole d mode s start bytes f stop le reads = read_dumps d mode s f (whole_read no_bars no_bar bars_none bars_late s start bytes le f stop reads)

pub reads_so_far : (d : Dictionary) (mode : Mode) (s : Syntax) (start : ℕ) (bytes : List ℕ) (f : Front) (stop : Stop) → start ≤ INPUT_LIMIT → is_closed f ≡ false → Reads no_bar s start bytes (ended stop f) stop
    → outputs decoded_step decoded_writes (decoded_start d mode) (front_atoms s f) ≡ decoded_front d mode EMPTY 0 f
reads_so_far d mode s start bytes f stop le c reads = read_dumps d mode s f (far_read no_bars no_bar bars_none bars_late s start bytes le f stop c reads)

-- ---- whether a value named what is not known

read_unknown : (d : Dictionary) (mode : Mode) (s : Syntax) (f : Front) → IsRead s f → (fold decoded_step (decoded_start d mode) (front_atoms s f)).force.unknown ≡ has_unknown f
unfolding SpellsFront front_atoms has_unknown
read_unknown d mode s (front whole o reached closed) r =
    let w = r.spelled in
    let others : List Atom = open_atoms (after_trees s whole) o (end_atoms closed) in
    unknown_parts d mode whole o closed (front_atoms s (front whole o reached closed)) others (trees_shown s whole r.bytes w.0 others w.1) (open_shown (after_trees s whole) o w.0 (end_atoms closed) w.2)

-- whether the data set has ended has no influence
pub unknown_ended : (stop : Stop) (f : Front) → has_unknown (ended stop f) ≡ has_unknown f
unfolding has_unknown
unknown_ended complete (front whole o reached closed) = refl
unknown_ended (refused fault offset) f = refl

pub unknown_whole : (d : Dictionary) (mode : Mode) (s : Syntax) (start : ℕ) (bytes : List ℕ) (f : Front) (stop : Stop) → start ≤ INPUT_LIMIT → Reads no_bar s start bytes f stop
    → (fold decoded_step (decoded_start d mode) (front_atoms s f)).force.unknown ≡ has_unknown f
unknown_whole d mode s start bytes f stop le reads = read_unknown d mode s f (whole_read no_bars no_bar bars_none bars_late s start bytes le f stop reads)

pub unknown_so_far : (d : Dictionary) (mode : Mode) (s : Syntax) (start : ℕ) (bytes : List ℕ) (f : Front) (stop : Stop) → start ≤ INPUT_LIMIT → is_closed f ≡ false → Reads no_bar s start bytes (ended stop f) stop
    → (fold decoded_step (decoded_start d mode) (front_atoms s f)).force.unknown ≡ has_unknown (ended stop f)
unknown_so_far d mode s start bytes f stop le c reads =
    read_unknown d mode s f (far_read no_bars no_bar bars_none bars_late s start bytes le f stop c reads) ∙ sym (unknown_ended stop f)

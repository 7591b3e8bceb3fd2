-- What the filter and its lines write of what a machine shows.
use Rattle.std.proofs.Common.{◌≡◌, ◌∙◌, ap, ℕ, ◌≤◌, Bool, List, [], ◌++◌, false, arith}
use Rattle.dcm_base.specs.declared.tag.Tag.{Tag}
use Rattle.dcm_base.specs.declared.syntax.Syntax.{Syntax}
use Rattle.dcm_base.specs.declared.mode.Mode.{Mode}
use Rattle.dcm_base.specs.declared.dictionary.Dictionary.{Dictionary}
use Rattle.dcm_base.specs.declared.length.Length.{Length}
use Rattle.dcm_base.specs.Tree.Front.{Front, front}
use Rattle.dcm_base.specs.Bytes.Spelling.{SpellsFront, after_trees}
use Rattle.dcm_base.specs.Reading.Stop.{Stop}
use Rattle.dcm_base.specs.Reading.Bars.{no_bar}
use Rattle.dcm_base.specs.Reading.Reads.{INPUT_LIMIT, Reads, ended}
use Rattle.dcm_base.specs.Steps.Atoms.{Atom, end_atoms, front_atoms, open_atoms, is_closed, Shows}
use Rattle.dcm_base.specs.Steps.Steps.{outputs}
use Rattle.dcm_base.proofs.DataSets.Shown.{trees_shown, open_shown}
use Rattle.dcm_text.specs.declared.sets.Sets.{Sets}
use Rattle.dcm_sinks.specs.DecodedSink.{decoded_start, decoded_writes}
use Rattle.dcm_sinks.specs.DumpSink.{dump_step, dump_writes, as_before}
use Rattle.dcm_sinks.specs.InForce.{EMPTY, sets_after}
use Rattle.dcm_sinks.specs.Laws.{StaysShallow}
use Rattle.dcm_sinks.proofs.Dumps.OpenLists.{stays_trees}
use Rattle.dcm_sinks.proofs.Dumps.Reads.{no_bars, bars_none, bars_late}
use Rattle.dcm_sinks.proofs.ReadBack.IsRead.{IsRead, whole_read, far_read}
use Rattle.dcm_named.specs.Filter.{place_start}
use Rattle.dcm_named.specs.Laws.{asked, written}
use Rattle.dcm_named.specs.Named.{Asked, Texts, by_bytes, by_characters, named_front, named_set}
use Rattle.dcm_named.specs.NamedSink.{named_step, named_writes}
use Rattle.dcm_named.proofs.Walks.{Meets}
use Rattle.dcm_named.proofs.NamedSets.{Writes, trees_named, open_named, front_named}
use Rattle.dcm_named.proofs.Plain as plain
use Rattle.dcm_named.proofs.Characters as characters
use Rattle.dcm_sinks.proofs.DecodedDumps.DataSets as decoded

module _ {T : Type 0} (step over : T → Atom → T) (writes : T → Atom → List ℕ) (at : List Length → List Sets → Sets → T) (q : Asked) (meets : Meets step over at) (wr : Writes step writes q (at [])) where
  read_by : (s : Syntax) (f : Front) → IsRead s f → outputs (named_step step over) (named_writes writes) (place_start q.tags q.ways q.mode, at [] [] EMPTY) (front_atoms s f) ≡ named_front q EMPTY [] f
  unfolding SpellsFront front_atoms named_front
  read_by s (front whole o reached closed) r =
      let w = r.spelled in
      let others : List Atom = open_atoms (after_trees s whole) o (end_atoms closed) in
      let shown = trees_shown s whole r.bytes w.0 others w.1 in
      trees_named step over writes at q meets wr whole 0 [] [] EMPTY (front_atoms s (front whole o reached closed)) others (omega arith) (omega arith) r.shallow shown
      ∙ ap (λ (z : List ℕ). named_set q EMPTY [] whole ++ z)
      (open_named step over writes at q meets wr o closed 0 [] [] (sets_after EMPTY whole) others (omega arith) (omega arith) (stays_trees 0 whole (front_atoms s (front whole o reached closed)) others shown r.shallow)
      (open_shown (after_trees s whole) o w.0 (end_atoms closed) w.2))

read_named : (texts : Texts) (tags : List Tag) (ways : Bool) (d : Dictionary) (mode : Mode) (s : Syntax) (f : Front) → IsRead s f → written texts tags ways d mode (front_atoms s f) ≡ named_front (asked texts tags ways d mode) EMPTY [] f
read_named by_bytes tags ways d mode s f r = read_by dump_step as_before dump_writes (plain.at d mode) (asked by_bytes tags ways d mode) (plain.meets d mode) (plain.writes d mode tags ways) s f r
read_named by_characters tags ways d mode s f r =
    characters.quietly (place_start tags ways mode) (decoded_start d mode) (front_atoms s f)
    ∙ read_by characters.quiet characters.quiet_over decoded_writes (decoded.at d mode) (asked by_characters tags ways d mode) (characters.meets d mode) (characters.writes d mode tags ways) s f r

pub shown_named : (texts : Texts) (tags : List Tag) (ways : Bool) (d : Dictionary) (mode : Mode) (f : Front) (atoms : List Atom) → StaysShallow 0 atoms → Shows f atoms
    → written texts tags ways d mode atoms ≡ named_front (asked texts tags ways d mode) EMPTY [] f
shown_named by_bytes tags ways d mode f atoms h w =
    front_named dump_step as_before dump_writes (plain.at d mode) (asked by_bytes tags ways d mode) (plain.meets d mode) (plain.writes d mode tags ways) f 0 [] [] EMPTY atoms (omega arith) (omega arith) h w
shown_named by_characters tags ways d mode f atoms h w =
    characters.quietly (place_start tags ways mode) (decoded_start d mode) atoms
    ∙ front_named characters.quiet characters.quiet_over decoded_writes (decoded.at d mode) (asked by_characters tags ways d mode) (characters.meets d mode) (characters.writes d mode tags ways) f 0 [] [] EMPTY atoms (omega arith) (omega arith) h w

pub reads_whole : (texts : Texts) (tags : List Tag) (ways : Bool) (d : Dictionary) (mode : Mode) (s : Syntax) (start : ℕ) (bytes : List ℕ) (f : Front) (stop : Stop) → start ≤ INPUT_LIMIT → Reads no_bar s start bytes f stop
    → written texts tags ways d mode (front_atoms s f) ≡ named_front (asked texts tags ways d mode) EMPTY [] f
reads_whole texts tags ways d mode s start bytes f stop le reads = read_named texts tags ways d mode s f (whole_read no_bars no_bar bars_none bars_late s start bytes le f stop reads)

pub reads_so_far : (texts : Texts) (tags : List Tag) (ways : Bool) (d : Dictionary) (mode : Mode) (s : Syntax) (start : ℕ) (bytes : List ℕ) (f : Front) (stop : Stop) → start ≤ INPUT_LIMIT → is_closed f ≡ false → Reads no_bar s start bytes (ended stop f) stop
    → written texts tags ways d mode (front_atoms s f) ≡ named_front (asked texts tags ways d mode) EMPTY [] f
reads_so_far texts tags ways d mode s start bytes f stop le c reads = read_named texts tags ways d mode s f (far_read no_bars no_bar bars_none bars_late s start bytes le f stop c reads)

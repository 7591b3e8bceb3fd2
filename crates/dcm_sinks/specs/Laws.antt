-- What the laws of the dump speak of.
use Rattle.dcm_base.specs.Steps.Atoms.{Atom, opens, value_byte, closes_leaf, opens_item, closes_item, closes_sequence}
use Rattle.dcm_base.specs.Steps.Atoms.{opens_fragment, ends, Shows, front_atoms, is_closed}
use Rattle.dcm_base.specs.declared.syntax.Coding.{Coding}
use Rattle.dcm_base.specs.Conversion.Recode.{recode}
use Rattle.dcm_base.specs.Tree.Front.{Front}
use Rattle.dcm_base.specs.Conversion.Normal.{normal_front}
use Rattle.dcm_base.specs.Steps.Steps.{outputs}
use Rattle.dcm_base.specs.File.MetaReads.{Meta}
use Rattle.dcm_sinks.specs.MetaAgain.{Names, ReadsRenewed, Renews}
use Rattle.dcm_base.specs.Reading.Reads.{INPUT_LIMIT, Reads, ended}
use Rattle.dcm_sinks.specs.EncodeSink.{encode_start, encode_step, encode_writes}
use Rattle.std.specs.Prelude.{◌≡◌, ℕ, zero, suc, ◌≤◌, if◌then◌else◌, List, ◌++◌, fold, false}
use Rattle.dcm_base.specs.declared.mode.Mode.{Mode}
use Rattle.dcm_base.specs.declared.syntax.Syntax.{Syntax}
use Rattle.dcm_base.specs.Reading.Stop.{opens_list, Stop, complete}
use Rattle.dcm_base.specs.Bytes.Spelling.{form, read_as}
use Rattle.dcm_base.specs.Dump.Dump.{dump_front}
use Rattle.dcm_sinks.specs.Conversion.{Converts}
use Rattle.dcm_base.specs.Reading.Bars.{no_bar, target_bar}
use Rattle.dcm_base.specs.declared.dictionary.Dictionary.{Dictionary}
use Rattle.dcm_sinks.specs.DumpSink.{dump_start, dump_step, dump_writes}

abbrev pub one_less : ℕ → ℕ
one_less zero = zero
one_less (suc n) = n

-- how many sequences and fragment lists are open after an atom, where so many were
abbrev pub lists_behind : ℕ → Atom → ℕ
lists_behind n (opens tag vr declared s) = if opens_list (form s (read_as s tag vr) declared) then suc n else n
lists_behind n (value_byte b) = n
lists_behind n closes_leaf = n
lists_behind n (opens_item declared) = n
lists_behind n closes_item = n
lists_behind n closes_sequence = one_less n
lists_behind n (opens_fragment size) = n
lists_behind n ends = n

-- no more than 64 are open after any of these atoms
abbrev pub StaysShallow : ℕ → List Atom → Type 0
StaysShallow n atoms = (first rest : List Atom) → atoms ≡ first ++ rest → fold lists_behind n first ≤ 64

-- what the dump sink writes of the atoms of a data set is its dump
abbrev pub DumpsShown : Type 0
DumpsShown =
    (d : Dictionary) (mode : Mode) (f : Front) (atoms : List Atom) → StaysShallow 0 atoms → Shows f atoms
    → outputs dump_step dump_writes (dump_start d mode) atoms ≡ dump_front d mode 0 f

-- what the dump sink writes of all that is read of an input is its dump
abbrev pub DumpsWhole : Type 0
DumpsWhole =
    (d : Dictionary) (mode : Mode) (s : Syntax) (start : ℕ) (bytes : List ℕ) (f : Front) (stop : Stop)
    → start ≤ INPUT_LIMIT
    → Reads no_bar s start bytes f stop
    → outputs dump_step dump_writes (dump_start d mode) (front_atoms s f) ≡ dump_front d mode 0 f

-- what it writes of what was read of an input so far is the dump of that
abbrev pub DumpsSoFar : Type 0
DumpsSoFar =
    (d : Dictionary) (mode : Mode) (s : Syntax) (start : ℕ) (bytes : List ℕ) (f : Front) (stop : Stop)
    → start ≤ INPUT_LIMIT
    → is_closed f ≡ false → Reads no_bar s start bytes (ended stop f) stop
    → outputs dump_step dump_writes (dump_start d mode) (front_atoms s f) ≡ dump_front d mode 0 f

-- what the encode sink writes of the atoms of a data set is that data set in the target syntax
abbrev pub EncodesShown : Type 0
EncodesShown =
    (target : Syntax) (f : Front) (atoms : List Atom) → StaysShallow 0 atoms → Shows f atoms
    → outputs encode_step encode_writes (encode_start target) atoms ≡ recode target f

-- what it writes of all that is read for a target syntax is that in the target syntax
abbrev pub EncodesWhole : Type 0
EncodesWhole =
    (target s : Syntax) (start : ℕ) (bytes : List ℕ) (f : Front) (stop : Stop) → start ≤ INPUT_LIMIT
    → Reads (target_bar target) s start bytes f stop
    → outputs encode_step encode_writes (encode_start target) (front_atoms s f) ≡ recode target f

-- what it writes of what was read so far is that in the target syntax
abbrev pub EncodesSoFar : Type 0
EncodesSoFar =
    (target s : Syntax) (start : ℕ) (bytes : List ℕ) (f : Front) (stop : Stop) → start ≤ INPUT_LIMIT
    → is_closed f ≡ false
    → Reads (target_bar target) s start bytes (ended stop f) stop
    → outputs encode_step encode_writes (encode_start target) (front_atoms s f) ≡ recode target f

-- what is converted without fault reads back in the target syntax as its normal form
abbrev pub ReadsBack : Type 0
ReadsBack =
    (target s : Syntax) (start at : ℕ) (bytes : List ℕ) (f : Front) → Converts target s start at bytes f
    → Reads (target_bar target) target at (recode target f) (normal_front target f) complete

-- to convert it again changes nothing
abbrev pub ChangesNothingAgain : Type 0
ChangesNothingAgain =
    (target s : Syntax) (start at : ℕ) (bytes : List ℕ) (f g : Front) (stop : Stop) → Converts target s start at bytes f
    → Reads (target_bar target) target at (recode target f) g stop → (stop ≡ complete)
    × (recode target g ≡ recode target f)

-- a meta group that is written anew, with a transfer syntax, reads back without fault
abbrev pub NewMetaReads : Type 0
NewMetaReads =
    (file uid set : List ℕ) (m : Meta) (was coding : Coding) → Renews file m was uid set → Names uid coding
    → ReadsRenewed m uid set coding

-- What the encode sink bars, and what it writes of what a machine shows.
use Rattle.std.proofs.Common.{◌≡◌, ◌∙◌, ap, refl, ℕ, zero, suc, ◌≤◌, List, [], ◌∷◌, ◌++◌, Bool, true, false, cond, Option, Some, None}
use Rattle.std.specs.Prelude.{fold, ◌==◌}
use Rattle.dcm_base.specs.declared.vr.Vr.{Vr}
use Rattle.dcm_base.specs.declared.syntax.Syntax.{Syntax}
use Rattle.dcm_base.specs.declared.syntax.Syntax.TheVariants.{Implicit as implicit_in, Little as little_in, Big as big_in}
use Rattle.dcm_base.specs.Tables.Syntax.{Little}
use Rattle.dcm_base.specs.declared.length.Length.{Length}
use Rattle.dcm_base.specs.declared.length.Length.TheVariants.{Known, Undefined}
use Rattle.dcm_base.specs.declared.form.Form.{Form}
use Rattle.dcm_base.specs.declared.form.Form.TheVariants.{Value as a_value, Sequence as a_sequence, FragmentList as a_fragment_list, Nothing as no_form}
use Rattle.dcm_base.specs.Tree.Front.{Front, front}
use Rattle.dcm_base.specs.Bytes.Spelling.{form, SpellsFront, read_as, after_trees}
use Rattle.dcm_base.specs.Reading.Stop.{Stop}
use Rattle.dcm_base.specs.Reading.Bars.{is_fragment_form, holds_fragments, target_bar}
use Rattle.dcm_base.specs.Reading.Reads.{INPUT_LIMIT, Reads, ended}
use Rattle.dcm_base.specs.Conversion.Recode.{recode, recode_set}
use Rattle.dcm_base.specs.Steps.Atoms.{Atom, opens, value_byte, closes_leaf, opens_item, closes_item, closes_sequence, opens_fragment, ends, end_atoms, front_atoms, open_atoms, is_closed}
use Rattle.dcm_base.proofs.DataSets.Shown.{trees_shown, open_shown}
use Rattle.dcm_head.specs.declared.head.Head.{Head}
use Rattle.dcm_stream.specs.declared.token.Bar.{Bar as SinkBar}
use Rattle.dcm_stream.specs.declared.token.Bar.TheVariants.{Fragments}
use Rattle.dcm_stream.specs.Follows.{BarsAs}
use Rattle.dcm_stream.specs.Driven.{bars_by}
use Rattle.dcm_stream.proofs.Runs.Inputs.{bars_none, bars_fragments}
use Rattle.dcm_stream.proofs.Heads.Stops.{NeverEarly}
use Rattle.dcm_stream.proofs.Heads.Waits.{sinks_never_early}
use Rattle.dcm_stream.specs.Skip.{opened}
use Rattle.dcm_sinks.specs.EncodeSink.{EncodeState, Copying, encode_opens, takes_byte, live_step, step_at, encode_start, encode_step, encode_writes, encode_bar}
use Rattle.dcm_sinks.proofs.Dumps.OpenLists.{stays_trees}
use Rattle.dcm_sinks.proofs.Conversions.Values.{encodes}
use Rattle.dcm_sinks.proofs.Conversions.DataSets.{trees_encode, open_encodes}
use Rattle.dcm_sinks.proofs.ReadBack.IsRead.{IsRead, whole_read, far_read}

-- ---- the target stays

opens_keeps : (f : Form) (s : EncodeState) (vr : Vr) (declared : Length) (syntax : Syntax) → (encode_opens f s vr declared syntax).target ≡ s.target
opens_keeps a_value s vr (Known size) syntax = refl
opens_keeps a_value s vr Undefined syntax = refl
opens_keeps a_sequence s vr declared syntax = refl
opens_keeps a_fragment_list s vr declared syntax = refl
opens_keeps no_form s vr declared syntax = refl

unless_dropped_keeps : (t : Bool) (f : Form) (s : EncodeState) (vr : Vr) (declared : Length) (syntax : Syntax) → (cond t (record s { dropped = opened s.dropped true }) (encode_opens f s vr declared syntax)).target ≡ s.target
unless_dropped_keeps true f s vr declared syntax = refl
unless_dropped_keeps false f s vr declared syntax = opens_keeps f s vr declared syntax

byte_keeps : (c : Option Copying) (s : EncodeState) (b : ℕ) → (takes_byte s c b).target ≡ s.target
byte_keeps None s b = refl
byte_keeps (Some c) s b = refl

live_keeps : (s : EncodeState) (a : Atom) → (live_step s a).target ≡ s.target
live_keeps s (opens tag vr declared syntax) = unless_dropped_keeps (tag.element == 0) (form syntax (read_as syntax tag vr) declared) s vr declared syntax
live_keeps s (value_byte b) = byte_keeps s.copying s b
live_keeps s closes_leaf = refl
live_keeps s (opens_item declared) = refl
live_keeps s closes_item = refl
live_keeps s closes_sequence = refl
live_keeps s (opens_fragment size) = refl
live_keeps s ends = refl

step_keeps : (d : ℕ) (s : EncodeState) (a : Atom) → (step_at d s a).target ≡ s.target
step_keeps zero s a = live_keeps s a
step_keeps (suc n) s a = refl

target_stays : (s : EncodeState) (atoms : List Atom) → (fold encode_step s atoms).target ≡ s.target
target_stays s [] = refl
target_stays s (a ∷ atoms) = target_stays (encode_step s a) atoms ∙ step_keeps s.dropped s a

-- ---- what is barred

barred_by : (target : Syntax) (atoms : List Atom) (head : Head)
    → encode_bar (fold encode_step (encode_start target) atoms) head ≡ cond (holds_fragments target) None (cond (is_fragment_form (form Little head.vr head.length)) (Some Fragments) None)
barred_by target atoms head = ap (λ (t : Syntax). cond {A = Option SinkBar} (holds_fragments t) None (cond (is_fragment_form (form Little head.vr head.length)) (Some Fragments) None)) (target_stays (encode_start target) atoms)

pub encode_bars : (target : Syntax) → BarsAs (bars_by encode_bar encode_step (encode_start target)) (target_bar target)
encode_bars (implicit_in d) = bars_fragments encode_bar encode_step encode_writes (encode_start (implicit_in d)) (barred_by (implicit_in d))
encode_bars (little_in d) = bars_none encode_bar encode_step encode_writes (encode_start (little_in d)) (barred_by (little_in d))
encode_bars (big_in d) = bars_fragments encode_bar encode_step encode_writes (encode_start (big_in d)) (barred_by (big_in d))

bars_late : (target : Syntax) (atoms : List Atom) → NeverEarly (bars_by encode_bar encode_step (encode_start target) atoms)
bars_late target atoms = sinks_never_early encode_bar (fold encode_step (encode_start target) atoms)

-- ---- what is read, in its target syntax

read_encodes : (target s : Syntax) (f : Front) → IsRead s f → encodes (encode_start target) (front_atoms s f) ≡ recode target f
unfolding SpellsFront front_atoms recode
read_encodes target s (front whole o reached closed) r =
    let w = r.spelled in
    let others : List Atom = open_atoms (after_trees s whole) o (end_atoms closed) in
    let shown = trees_shown s whole r.bytes w.0 others w.1 in
    trees_encode target 0 whole (front_atoms s (front whole o reached closed)) others r.shallow shown
    ∙ ap (λ z. recode_set target whole ++ z) (open_encodes target 0 o closed others (stays_trees 0 whole (front_atoms s (front whole o reached closed)) others shown r.shallow) (open_shown (after_trees s whole) o w.0 (end_atoms closed) w.2))

pub reads_whole : (target s : Syntax) (start : ℕ) (bytes : List ℕ) (f : Front) (stop : Stop) → start ≤ INPUT_LIMIT → Reads (target_bar target) s start bytes f stop
    → encodes (encode_start target) (front_atoms s f) ≡ recode target f
reads_whole target s start bytes f stop le reads =
    read_encodes target s f (whole_read (bars_by encode_bar encode_step (encode_start target)) (target_bar target) (encode_bars target) (bars_late target) s start bytes le f stop reads)

pub reads_so_far : (target s : Syntax) (start : ℕ) (bytes : List ℕ) (f : Front) (stop : Stop) → start ≤ INPUT_LIMIT → is_closed f ≡ false → Reads (target_bar target) s start bytes (ended stop f) stop
    → encodes (encode_start target) (front_atoms s f) ≡ recode target f
reads_so_far target s start bytes f stop le c reads =
    read_encodes target s f (far_read (bars_by encode_bar encode_step (encode_start target)) (target_bar target) (encode_bars target) (bars_late target) s start bytes le f stop c reads)

-- The values of the three unique identifiers, over the atoms of a data set.
use Rattle.std.specs.Prelude.{ℕ, zero, suc, length, List, [], ◌∷◌, ◌++◌, nat_lt, Bool, true, false, ◌&&◌, ◌||◌, not}
use Rattle.std.specs.Prelude.{if◌then◌else◌, Option, None, Result, fold}
use Rattle.dcm_base.specs.declared.tag.Tag.{Tag}
use Rattle.dcm_base.specs.declared.syntax.Syntax.{Syntax}
use Rattle.dcm_base.specs.declared.form.Form.{Form}
use Rattle.dcm_base.specs.declared.form.Form.TheVariants.{Value as a_value}
use Rattle.dcm_base.specs.Bytes.Spelling.{form, read_as}
use Rattle.dcm_base.specs.Steps.Atoms.{Atom, opens, value_byte, closes_leaf, opens_item, closes_item, closes_sequence}
use Rattle.dcm_base.specs.Steps.Atoms.{opens_fragment, ends, front_atoms}
use Rattle.dcm_base.specs.Tables.Tag.{same_tag}
use Rattle.dcm_base.specs.Tables.Transfer.{is_pad}
use Rattle.dcm_base.specs.Tree.Front.{Front}
use Rattle.dcm_head.specs.declared.head.Head.{Head}
use Rattle.dcm_stream.specs.declared.token.Bar.{Bar as SinkBar}
use Rattle.dcm_stream.specs.Skip.{opened, closed}
use Rattle.dcm_instance.specs.declared.names.InstanceUid.TheVariants.{Study, Series, Instance}
use Rattle.dcm_instance.specs.declared.names.NoInstance.{NoInstance}
use Rattle.dcm_instance.specs.declared.value.Progress.{Progress}
use Rattle.dcm_instance.specs.declared.value.Progress.TheVariants.{Missing, Open, Ended}
use Rattle.dcm_instance.specs.Uids.{MOST_OF_UID, Uids, fit, is_behind, named, uid_tag}

-- ---- one value

-- its first bytes, at most 64, and whether a byte that is no padding came behind them
pub record Held : Type 0 where
  pub bytes : List ℕ
  pub is_longer : Bool

abbrev pub nothing_held : Held
nothing_held = record { bytes = []; is_longer = false }

abbrev pub held_with : Held → ℕ → Held
held_with h byte = if nat_lt (length h.bytes) MOST_OF_UID
    then record { bytes = h.bytes ++ byte ∷ []; is_longer = h.is_longer }
    else record { bytes = h.bytes; is_longer = h.is_longer || not (is_pad byte) }

-- the unique identifier of a value of which this is held, if it is fit
abbrev pub held_uid : Held → Option (List ℕ)
held_uid h = if h.is_longer then None else fit h.bytes

-- how far the element has come, and its value
pub record Value : Type 0 where
  pub progress : Progress
  pub held : Held

abbrev pub no_value : Value
no_value = record { progress = Missing; held = nothing_held }

abbrev pub has_ended : Progress → Bool
has_ended Ended = true
has_ended _ = false

-- the first head of its own opens it
abbrev pub opened_by : Progress → (is_own : Bool) → Progress
opened_by Missing is_own = if is_own then Open else Missing
opened_by progress is_own = progress

abbrev pub after_head : Value → (is_own : Bool) → Value
after_head v is_own = record { progress = opened_by v.progress is_own; held = v.held }

abbrev pub held_where : Progress → Held → List ℕ → Held
held_where Open h bytes = fold held_with h bytes
held_where _ h bytes = h

abbrev pub after_bytes : Value → List ℕ → Value
after_bytes v bytes = record { progress = v.progress; held = held_where v.progress v.held bytes }

abbrev pub ended_by : Progress → Progress
ended_by Open = Ended
ended_by progress = progress

abbrev pub after_end : Value → Value
after_end v = record { progress = ended_by v.progress; held = v.held }

abbrev pub ended_uid : Progress → Held → Option (List ℕ)
ended_uid Ended h = held_uid h
ended_uid _ h = None

abbrev pub uid_of : Value → Option (List ℕ)
uid_of v = ended_uid v.progress v.held

-- ---- all three

-- how many elements, items and fragments are open, and whether an element came that belongs behind the three
pub record UidState : Type 0 where
  pub depth : ℕ
  pub is_past : Bool
  pub study : Value
  pub series : Value
  pub instance : Value

-- before the first atom
abbrev pub uids_begun : UidState
uids_begun = record { depth = 0; is_past = false; study = no_value; series = no_value; instance = no_value }

-- no atom changes what they are
abbrev pub is_decided : UidState → Bool
is_decided p = p.is_past || has_ended p.series.progress

abbrev pub is_value : Form → Bool
is_value a_value = true
is_value _ = false

-- an element of this tag, before a value
abbrev pub is_own : Tag → Tag → Form → Bool
is_own own tag form = same_tag tag own && is_value form

-- at a head of the outermost level
abbrev pub at_head : UidState → Tag → Form → UidState
at_head p tag form = record {
  depth = p.depth;
  is_past = is_behind tag;
  study = after_head p.study (is_own (uid_tag Study) tag form);
  series = after_head p.series (is_own (uid_tag Series) tag form);
  instance = after_head p.instance (is_own (uid_tag Instance) tag form);
}

abbrev pub at_depth : ℕ → UidState → UidState
at_depth n p = record { depth = n; is_past = p.is_past; study = p.study; series = p.series; instance = p.instance }

-- only those of the outermost level count
abbrev pub open_at : ℕ → UidState → Tag → Form → UidState
open_at zero p tag form = at_head p tag form
open_at (suc n) p tag form = p

abbrev pub with_bytes : UidState → List ℕ → UidState
with_bytes p bytes = record {
  depth = p.depth;
  is_past = p.is_past;
  study = after_bytes p.study bytes;
  series = after_bytes p.series bytes;
  instance = after_bytes p.instance bytes;
}

abbrev pub step : UidState → Atom → UidState
step p (opens tag vr declared s) =
    at_depth (opened p.depth true) (open_at p.depth p tag (form s (read_as s tag vr) declared))
step p (value_byte byte) = with_bytes p (byte ∷ [])
step p closes_leaf = record {
  depth = closed p.depth;
  is_past = p.is_past;
  study = after_end p.study;
  series = after_end p.series;
  instance = after_end p.instance;
}
step p (opens_item declared) = at_depth (opened p.depth true) p
step p closes_item = at_depth (closed p.depth) p
step p closes_sequence = at_depth (closed p.depth) p
step p (opens_fragment size) = at_depth (opened p.depth true) p
step p ends = p

abbrev pub uids_next : UidState → Atom → UidState
uids_next p a = if is_decided p then p else step p a

-- no head is barred
abbrev pub bars_none : UidState → Head → Option SinkBar
bars_none p head = None

-- nothing is written
abbrev pub writes_nothing : UidState → Atom → List ℕ
writes_nothing p a = []

-- the instance that is named so far
abbrev pub outcome : UidState → Result Uids NoInstance
outcome p = named (uid_of p.study) (uid_of p.series) (uid_of p.instance)

-- of all that was read of a data set
abbrev pub uids_at : Syntax → Front → UidState
uids_at s set = fold uids_next uids_begun (front_atoms s set)

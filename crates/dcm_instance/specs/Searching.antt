-- The search of a data set for the unique identifiers of its instance, by a machine.
use Rattle.std.specs.Prelude.{◌≡◌, ◌⊎◌, ℕ, List, [], ◌++◌, Bool, true, false, ◌||◌, is_some, if◌then◌else◌}
use Rattle.std.specs.Prelude.{Option, None, Some, Result, Ok, Err}
use Rattle.dcm_base.specs.declared.dictionary.Dictionary.TheVariants.{Standard}
use Rattle.dcm_base.specs.declared.syntax.Coding.{Coding}
use Rattle.dcm_base.specs.declared.syntax.Syntax.{Syntax}
use Rattle.dcm_base.specs.Reading.Stop.{Stop}
use Rattle.dcm_base.specs.Tables.Syntax.{coding_by}
use Rattle.dcm_cli.specs.declared.ending.HeadEnding.{HeadEnding}
use Rattle.dcm_cli.specs.declared.ending.HeadEnding.TheVariants as heads
use Rattle.dcm_cli.specs.declared.head.Beginning.{Beginning}
use Rattle.dcm_cli.specs.InputCalls.{Reader, How, in_part, to_end, with_failure, ReadsInput}
use Rattle.dcm_cli.specs.Pass.{HeadReads, set_bytes}
use Rattle.dcm_cli.specs.Searching as first
use Rattle.dcm_head.specs.declared.meta_read.MetaEnd.TheVariants as meta_ends
use Rattle.dcm_head.specs.MetaReading as meta
use Rattle.dcm_stream.specs.Driven.{driven}
use Rattle.dcm_stream.specs.Reading.{Reading}
use Rattle.dcm_instance.specs.declared.names.InstanceUid.TheVariants.{Study}
use Rattle.dcm_instance.specs.declared.names.NoInstance.{NoInstance}
use Rattle.dcm_instance.specs.declared.names.NoInstance.TheVariants.{Unfit, Unread}
use Rattle.dcm_instance.specs.declared.reading.Search.{Search}
use Rattle.dcm_instance.specs.UidSink.{UidState, bars_none, is_decided, outcome, uids_begun, uids_next}
use Rattle.dcm_instance.specs.Uids.{Uids}

-- where the machine and its sink stand after these bytes of a data set
abbrev pub driven_at : Syntax → (start : ℕ) → List ℕ → Reading × UidState
driven_at s start bytes = driven bars_none uids_next uids_begun s start bytes

-- the answer by where they stand, if that decides it: nothing more can change it, or the data set is at fault
abbrev pub so_far : Option Stop → UidState → Option (Result Uids NoInstance)
so_far halt p = if is_decided p || is_some (first.told halt) then Some (outcome p) else None

abbrev pub decided : Syntax → (start : ℕ) → List ℕ → Option (Result Uids NoInstance)
decided s start bytes = so_far (driven_at s start bytes).0.halt (driven_at s start bytes).1

-- and where the input ends with these bytes
abbrev pub ended : Syntax → (start : ℕ) → List ℕ → Result Uids NoInstance
ended s start bytes = outcome (driven_at s start bytes).1

-- the machine with its sink stands where these bytes lead
pub record Searched (s : Syntax) (start : ℕ) (bytes : List ℕ) (search : Search) : Type 0 where
  pub fine : search.machine.failed ≡ false
  pub stands : (search.machine.reading, search.sink) ≡ driven_at s start bytes
  pub stop : search.stop ≡ first.told (driven_at s start bytes).0.halt

-- ---- a data set that is read

-- it goes on after these bytes
abbrev pub SearchGoesOn : Syntax → (start : ℕ) → (is_over : Bool) → (beginning : List ℕ) → List ℕ → Type 0
SearchGoesOn s start is_over beginning bytes =
    (is_over ≡ false) × (decided s start (beginning ++ bytes) ≡ None)

-- these bytes of it were read
pub data SearchEnds (s : Syntax) (start : ℕ) (is_over : Bool) (bytes : List ℕ) (how : How)
    (answer : Result Uids NoInstance) : Type 0 where
  by_bytes : how ≡ in_part → decided s start bytes ≡ Some answer → SearchEnds s start is_over bytes how answer
  at_end : ((is_over ≡ true) × (how ≡ in_part)) ⊎ (how ≡ to_end) → answer ≡ ended s start bytes
      → SearchEnds s start is_over bytes how answer
  not_read : how ≡ with_failure → decided s start bytes ≡ None → answer ≡ Err Unread
      → SearchEnds s start is_over bytes how answer

pub record Searches {R : Type 0} (r : Reader R) (before after : R) (s : Syntax) (start : ℕ)
    (is_over : Bool) (beginning : List ℕ) (answer : Result Uids NoInstance) : Type 0 where
  pub more : List ℕ
  pub how : How
  pub reads : ReadsInput r (SearchGoesOn s start is_over beginning) before more how after
  pub ends : SearchEnds s start is_over (beginning ++ more) how answer
  pub over : is_over ≡ true → more ≡ []

-- ---- a file that is read

-- the answer where no data set is reached
abbrev pub end_of_head : HeadEnding → Result Uids NoInstance
end_of_head (heads.Refused stop) = Err (Unfit Study)
end_of_head (heads.Unread count) = Err Unread

-- its head was read, and then its data set was searched
pub data InstanceCalls {R : Type 0} (r : Reader R) (before after : R) (answer : Result Uids NoInstance) : Type 0 where
  no_head : (m : meta.Reading) (had held : List ℕ) (ending : HeadEnding)
      → HeadReads r before after m had held (Err ending) → answer ≡ end_of_head ending
      → InstanceCalls r before after answer
  set_searched : (m : meta.Reading) (had held : List ℕ) (b : Beginning) (mid : R) (named : Coding)
      → HeadReads r before mid m had held (Ok b) → m.end ≡ Some (meta_ends.Ended named)
      → Searches r mid after (coding_by Standard named).syntax m.place b.is_over (set_bytes b held) answer
      → InstanceCalls r before after answer

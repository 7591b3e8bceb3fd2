-- What the opening of a file that is written again leaves: its head was read, and was written with another transfer
-- syntax.
use Rattle.std.specs.Prelude.{◌≡◌, ℕ, List, ◌++◌, take, true, false, Option, Some, Result, Ok, Err}
use Rattle.std.specs.Io.KnownBytes.{append_known}
use Rattle.dcm_base.specs.declared.fault.Fault.TheVariants.{CannotChange}
use Rattle.dcm_base.specs.declared.syntax.Coding.{Coding}
use Rattle.dcm_base.specs.declared.syntax.Syntax.{Syntax}
use Rattle.dcm_devices.specs.Device.{AppendsFront}
use Rattle.dcm_base.specs.File.MetaReads.{Meta, PREFIX}
use Rattle.dcm_base.specs.Conversion.NewMeta.{new_meta, renewed}
use Rattle.dcm_deid.specs.declared.fate.Options.{Options}
use Rattle.dcm_deid.specs.Meta.{implementation, no_preamble, meta_renewing}
use Rattle.dcm_base.specs.Tree.Tree.{Trees}
use Rattle.dcm_base.specs.Tables.Syntax.{coding_by}
use Rattle.dcm_base.specs.declared.dictionary.Dictionary.{Dictionary}
use Rattle.dcm_words.specs.Words.{convert}
use Rattle.dcm_head.specs.declared.meta_read.MetaEnd.TheVariants.{Ended}
use Rattle.dcm_head.specs.MetaReading as meta
use Rattle.dcm_head.specs.Rewriting.{OfElements}
use Rattle.dcm_cli.specs.declared.ending.Ending.{Ending}
use Rattle.dcm_cli.specs.declared.ending.Ending.TheVariants.{Worked, Output}
use Rattle.dcm_cli.specs.declared.ending.HeadEnding.{HeadEnding}
use Rattle.dcm_cli.specs.declared.ending.Verdict.TheVariants.{Refused}
use Rattle.dcm_cli.specs.declared.head.Beginning.{Beginning}
use Rattle.dcm_cli.specs.declared.rewrite.NewHead.{NewHead}
use Rattle.dcm_cli.specs.declared.rewrite.NewHead.TheVariants.{AsItIs, WithoutIdentity}
use Rattle.dcm_cli.specs.declared.rewrite.Opened.{Opened}
use Rattle.dcm_cli.specs.Answer.{refuses_change, target_uid}
use Rattle.dcm_cli.specs.InputCalls.{How}
use Rattle.dcm_cli.specs.Pass.{Begins, FailsHead, ending_of_head}

-- the head of a file was read
pub record HeadRead (d : Dictionary) (read : List ℕ) (how : How) (buffer : List ℕ) (r : meta.Reading) (b : Beginning)
    (coding : Coding) (start : ℕ) : Type 0 where
  pub begins : Begins r b buffer how read
  pub named : Coding
  pub end_is : r.end ≡ Some (Ended named)
  pub coding_is : coding ≡ coding_by d named
  pub start_is : start ≡ r.place

-- the unique identifier of the target
abbrev pub TargetUid : Option Syntax → meta.Reading → List ℕ → Type 0
TargetUid target r uid = (m : Meta) → meta.uid_of r ≡ m.uid → uid ≡ target_uid target m

-- what becomes of the preamble and of the meta elements
pub record HeadChange : Type 0 where
  pub preamble : List ℕ → List ℕ
  pub elements : Trees → Trees

-- both stay as they are
abbrev pub unchanged : HeadChange
unchanged = record { preamble = λ p. p; elements = λ e. e }

-- identity goes
abbrev pub without_identity : Options → (key : List ℕ) → HeadChange
without_identity options key = record {
  preamble = λ p. no_preamble;
  elements = renewed (meta_renewing options key) implementation;
}

abbrev pub change_by : NewHead → HeadChange
change_by AsItIs = unchanged
change_by (WithoutIdentity what) = without_identity what.options what.key.bytes.now

-- what is written before the data set
abbrev pub head_text : HeadChange → meta.Reading → (uid : List ℕ) → Trees → List ℕ
head_text change r uid elements =
    change.preamble (take 128 r.bytes) ++ PREFIX ++ new_meta (change.elements elements) uid

-- it was written
pub record OpenedAs (d : Dictionary) (target : Option Syntax) (change : HeadChange) (read : List ℕ) (how : How)
    (before after : Option (List ℕ)) (buffer : List ℕ) (o : Opened) : Type 0 where
  pub reading : meta.Reading
  pub uid : List ℕ
  pub head : HeadRead d read how buffer reading o.beginning o.coding o.start
  pub keeps : refuses_change (convert d target) o.coding ≡ false
  pub uid_is : TargetUid target reading uid
  pub written : OfElements (meta.group_of reading) (λ elements. after
      ≡ append_known before (head_text change reading uid elements))

-- or the file has no such data set, or cannot be changed, or its head was not written whole
pub data NotOpened (d : Dictionary) (target : Option Syntax) (change : HeadChange) (read : List ℕ) (how : How)
    (before after : Option (List ℕ)) (ending : Ending) : Type 0 where
  no_set : (r : meta.Reading) (head : HeadEnding) → FailsHead r how read head → after ≡ before
      → ending ≡ ending_of_head head
      → NotOpened d target change read how before after ending
  no_change : (buffer : List ℕ) (r : meta.Reading) (b : Beginning) (coding : Coding) (start : ℕ)
      → HeadRead d read how buffer r b coding start → refuses_change (convert d target) coding ≡ true
      → after ≡ before → ending ≡ Worked (Refused (record { fault = CannotChange; at = start }))
      → NotOpened d target change read how before after ending
  no_head : (buffer : List ℕ) (r : meta.Reading) (b : Beginning) (coding : Coding) (start : ℕ) (uid : List ℕ)
      → HeadRead d read how buffer r b coding start → refuses_change (convert d target) coding ≡ false
      → TargetUid target r uid → OfElements (meta.group_of r)
      (λ elements. AppendsFront before after (head_text change r uid elements)) → ending ≡ Output
      → NotOpened d target change read how before after ending

-- one of both, by the answer; the output's writer has these bytes before and after
abbrev pub Opens : Dictionary → Option Syntax → HeadChange → (read : List ℕ) → How
    → (before after : Option (List ℕ)) → (buffer : List ℕ) → Result Opened Ending → Type 0
Opens d target change read how before after buffer (Ok o) = OpenedAs d target change read how before after buffer o
Opens d target change read how before after buffer (Err ending) =
    NotOpened d target change read how before after ending

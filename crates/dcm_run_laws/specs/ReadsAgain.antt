-- Files that dcmodify, dcmconv and dcmdeid wrote, read again.
use Rattle.std.specs.Prelude.{◌≡◌, ◌≤◌, ℕ, Bool, List, length, drop, Option, None, Some, Ok, true}
use Rattle.dcm_base.specs.declared.syntax.Coding.{Coding}
use Rattle.dcm_base.specs.declared.syntax.Syntax.{Syntax}
use Rattle.dcm_base.specs.Reading.Bars.{no_bar, target_bar}
use Rattle.dcm_base.specs.Tree.Front.{Front}
use Rattle.dcm_base.specs.File.MetaGroup.{META_LIMIT, group_place, the_end}
use Rattle.dcm_base.specs.File.MetaReads.{Meta}
use Rattle.dcm_base.specs.Conversion.NewMeta.{new_meta}
use Rattle.dcm_base.specs.Conversion.Normal.{FrontFits, normal_front, FrontStays}
use Rattle.dcm_base.specs.Tables.Number.{AreBytes}
use Rattle.dcm_base.specs.Reading.Reads.{INPUT_LIMIT, Reads}
use Rattle.dcm_base.specs.Conversion.Recode.{recode}
use Rattle.dcm_base.specs.Reading.Stop.{complete}
use Rattle.dcm_base.specs.Tables.Transfer.{native}
use Rattle.dcm_edits.specs.Edit.{Edit, edited}
use Rattle.dcm_sinks.specs.MetaAgain.{meta_again}
use Rattle.dcm_base.specs.declared.mode.Mode.TheVariants.{Full}
use Rattle.dcm_base.specs.Tables.Syntax.{coding_by, dictionary_of, read_by, is_big}
use Rattle.dcm_base.specs.declared.dictionary.Dictionary.{Dictionary}
use Rattle.dcm_deid.specs.MadeNew.{made_new}
use Rattle.dcm_deid.specs.declared.fate.Options.{Options}
use Rattle.dcm_deid.specs.Meta.{meta_without_identity}
use Rattle.dcm_deid.specs.Saying.{deidentified}
use Rattle.dcm_words.specs.Words.{convert, deidentify, dump, modify}
use Rattle.dcm_cli.specs.Answer.{Answer, HeadIs, FileReads, ReadAnswers, Source, alone, file, set_at, target_syntax}
use Rattle.dcm_cli.specs.Answer.{target_uid, unopened}
use Rattle.dcm_edits.specs.EditWords.{meant_edits_in}
use Rattle.dcm_base.specs.declared.syntax.Syntax.TheVariants.{Implicit as implicit_in}

-- a file is read without fault, by a dump as well as by a conversion to its own transfer syntax
pub record IsRead (d : Dictionary) (bytes : List ℕ) (m : Meta) (group : List ℕ) (coding : Coding)
    (set : Front) : Type 0 where
  pub head : HeadIs d bytes m group coding
  pub dumped : Reads no_bar coding.syntax (set_at group) (drop (set_at group) bytes) set complete
  pub converted : Reads (target_bar coding.syntax) coding.syntax (set_at group) (drop (set_at group) bytes) set complete

-- the new meta group is not too large, the data set does not go on the group, which it can in big endian order alone,
-- and the whole is not too long for an input
pub record HasRoom (output : List ℕ) (m : Meta) (uid : List ℕ) (s : Syntax) (set : Front) : Type 0 where
  pub group_within : length (new_meta m.elements uid) ≤ META_LIMIT
  pub group_ends : is_big s ≡ true → group_place (length (new_meta m.elements uid)) (recode s set) ≡ the_end
  pub within : length output ≤ INPUT_LIMIT

-- dcmodify answers a file that was read by a dictionary without fault; a value that becomes too long for its
-- representation, and is written as UN, is of no tag that the dictionary calls a sequence
pub record IsModified (d : Dictionary) (edits : List Edit) (input : List ℕ) (a : Answer) (m : Meta) (coding : Coding)
    (f : Front) : Type 0 where
  pub words : List (List ℕ)
  pub meant : meant_edits_in d words ≡ Ok edits
  pub are_bytes : AreBytes input
  pub answers : ReadAnswers (modify d edits) input a
  pub source_is : answers.source ≡ file m coding f complete
  pub stays : FrontStays coding.syntax f
  pub room : HasRoom a.output m m.uid coding.syntax (edited edits f)

-- its output is read with the coding of the input: the new meta group, and the normal form of the edited data set
abbrev pub ReadsModified : Dictionary → List Edit → Answer → Meta → Coding → Front → Type 0
ReadsModified d edits a m coding f = IsRead d a.output (meta_again m m.uid) (new_meta m.elements m.uid) coding
    (normal_front coding.syntax (edited edits f))

-- dcmconv answers a file that was read without fault, to implicit one whose elements the dictionary tells apart; so of
-- a value that becomes too long
pub record IsConverted (d : Dictionary) (target : Option Syntax) (input : List ℕ) (a : Answer) (m : Meta)
    (coding : Coding) (f : Front) : Type 0 where
  pub are_bytes : AreBytes input
  pub answers : ReadAnswers (convert d target) input a
  pub source_is : answers.source ≡ file m coding f complete
  pub tells : (e : Dictionary) → target ≡ Some (implicit_in e) → FrontFits (implicit_in d) f
  pub stays : FrontStays (target_syntax target coding) f
  pub room : HasRoom a.output m (target_uid target m) (target_syntax target coding) f

-- the coding that a conversion writes
abbrev pub target_coding : Option Syntax → Coding → Coding
target_coding None coding = coding
target_coding (Some s) coding = native (read_by (dictionary_of coding.syntax) s)

-- its output is read with the coding of the target: the new meta group, and the normal form of the data set
abbrev pub ReadsConverted : Dictionary → Option Syntax → Answer → Meta → Coding → Front → Type 0
ReadsConverted d target a m coding f =
    IsRead d a.output (meta_again m (target_uid target m)) (new_meta m.elements (target_uid target m))
    (target_coding target coding) (normal_front (target_syntax target coding) f)

-- a whole file was read, and so it is with its data set
abbrev pub OfWholeFile : (Syntax → Front → Type 0) → Source → Type 0
OfWholeFile P (unopened fault offset) = ⊥
OfWholeFile P (file m coding set stop) = (stop ≡ complete) × P coding.syntax set
OfWholeFile P (alone syntax set stop) = ⊥

-- however the output is read as a file by the dictionary, it is whole, and so it is with its data set
abbrev pub InOutput : Dictionary → (Syntax → Front → Type 0) → Answer → Type 0
InOutput d P a = (source : Source) → FileReads (dump d Full None) a.output source → OfWholeFile P source

-- however the output is read as a file by the dictionary, to its end, so it is with its data set
abbrev pub InWholeOutput : Dictionary → (Syntax → Front → Type 0) → Answer → Type 0
InWholeOutput d P a =
    (m : Meta) (coding : Coding) (set : Front) → FileReads (dump d Full None) a.output (file m coding set complete)
    → P coding.syntax set

-- dcmdeid answers a file that was read without fault
pub record IsTaken (options : Options) (reports : Bool) (key input : List ℕ) (a : Answer) (m : Meta) (coding : Coding)
    (f : Front) : Type 0 where
  pub are_bytes : AreBytes input
  pub answers : ReadAnswers (deidentify options reports key) input a
  pub source_is : answers.source ≡ file m coding f complete
  pub room : HasRoom a.output (meta_without_identity options key m) m.uid coding.syntax
      (deidentified options (made_new options key) f)

-- its output is read by a dictionary: the new meta group of the elements that stay, and the normal form of the data set
-- without identity
abbrev pub ReadsTaken : Dictionary → Options → (key : List ℕ) → Answer → Meta → Coding → Front → Type 0
ReadsTaken e options key a m coding f =
    IsRead e a.output (meta_again (meta_without_identity options key m) m.uid)
    (new_meta (meta_without_identity options key m).elements m.uid) (coding_by e coding)
    (normal_front (read_by e coding.syntax) (deidentified options (made_new options key) f))

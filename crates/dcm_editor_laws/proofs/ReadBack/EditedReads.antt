-- What is written of an edited data set reads back as its normal form.
use Rattle.std.proofs.Common.{◌≡◌, ℕ, ◌+◌, ◌≤◌, List, length, Ok, sym, refl, subst}
use Rattle.dcm_base.specs.declared.syntax.Syntax.{Syntax}
use Rattle.dcm_base.specs.declared.syntax.Syntax.TheVariants.{Implicit as implicit_in, Little as little_in, Big as big_in}
use Rattle.dcm_base.specs.Tables.Number.{AreBytes}
use Rattle.dcm_base.specs.Tree.Front.{Front, front, nothing_open, open_leaf, open_sequence, open_fragments}
use Rattle.dcm_base.specs.Reading.Stop.{Stop, Bar, complete}
use Rattle.dcm_base.specs.Reading.Bars.{ascending_bar, target_bar}
use Rattle.dcm_base.specs.Reading.Reads.{INPUT_LIMIT, Reads}
use Rattle.dcm_base.specs.Conversion.Recode.{recode}
use Rattle.dcm_base.specs.Conversion.Normal.{FrontFits, normal_front, FrontStays}
use Rattle.dcm_base_laws.proofs.DataSets.ImplicitLengths.{explicit_fits, implicit_fits}
use Rattle.dcm_base.proofs.DataSets.OwnSyntax.{own_reads}
use Rattle.dcm_base_laws.proofs.DataSets.InOrder.{unbarred_reads}
use Rattle.dcm_base.specs.Tables.Syntax.{dictionary_of}
use Rattle.dcm_sinks.proofs.ReadBack.RecodeReads.{IsReady, read_ready, ready_reads}
use Rattle.dcm_edits.specs.Edit.{Edit, edited}
use Rattle.dcm_edits.specs.EditWords.{meant_edits_in}
use Rattle.dcm_editor_laws.proofs.ReadBack.StaysReady.{FrontReady, edited_ready}
use Rattle.dcm_edits.proofs.Words.WordValues.{edits_fit}
use Rattle.dcm_editor_laws.proofs.Words.WordsReady.{edits_ready}
use Rattle.dcm_editor_laws.proofs.ReadBack.Plain.{plain, plain_fits, plain_read}

-- what is read of a syntax fits that syntax, where its values are read as they are written
own_fits : (s : Syntax) (bar : Bar) (start : ℕ) (bytes : List ℕ) (f : Front) (stop : Stop) → FrontStays s f → Reads bar s start bytes f stop → FrontFits s f
own_fits (implicit_in d) bar start bytes f stop stay h = implicit_fits d (implicit_in d) bar start bytes f stop refl h
own_fits (little_in d) bar start bytes f stop stay h = explicit_fits (little_in d) (little_in d) bar start bytes f stop refl refl stay h
own_fits (big_in d) bar start bytes f stop stay h = explicit_fits (big_in d) (big_in d) bar start bytes f stop refl refl stay h

pub front_reads : (s : Syntax) (at : ℕ) (f : Front) → FrontReady s f → at + length (recode s f) ≤ INPUT_LIMIT → Reads (target_bar s) s at (recode s f) (normal_front s f) complete
front_reads s at (front whole nothing_open reached closed) h limit = ready_reads s at whole reached closed limit h.0
front_reads s at (front whole (open_leaf tag vr size value) reached closed) h limit = absurd (let none = h.1 in cc)
front_reads s at (front whole (open_sequence tag vr declared items last) reached closed) h limit = absurd (let none = h.1 in cc)
front_reads s at (front whole (open_fragments tag vr values last) reached closed) h limit = absurd (let none = h.1 in cc)

own : (s : Syntax) (start : ℕ) (bytes : List ℕ) (f : Front) → Reads ascending_bar s start bytes f complete → Reads (target_bar s) s start bytes f complete
own s start bytes f reads = own_reads s start bytes f complete (unbarred_reads s start bytes f complete (λ offset e. cc) reads)

-- it is whole, and has room
pub front_whole : (s : Syntax) (start : ℕ) (bytes : List ℕ) (f : Front) → start ≤ INPUT_LIMIT → AreBytes bytes → Reads ascending_bar s start bytes f complete → IsReady (plain s) f
front_whole s start bytes f le are reads =
    let read : Reads (target_bar (plain s)) s start bytes f complete = plain_read s start bytes f complete (own s start bytes f reads) in
    read_ready (plain s) s start bytes f le are read (plain_fits s (target_bar (plain s)) start bytes f complete read)

pub room : (s : Syntax) (f : Front) → IsReady s f → FrontReady s f
room s f r = subst (FrontReady s) (sym r.is) (r.ready, refl)

pub front_ready : (s : Syntax) (start : ℕ) (bytes : List ℕ) (f : Front) → start ≤ INPUT_LIMIT → AreBytes bytes → Reads ascending_bar s start bytes f complete → FrontReady (plain s) f
front_ready s start bytes f le are reads = room (plain s) f (front_whole s start bytes f le are reads)

pub own_ready : (s : Syntax) (start : ℕ) (bytes : List ℕ) (f : Front) → start ≤ INPUT_LIMIT → AreBytes bytes → Reads ascending_bar s start bytes f complete → FrontStays s f → FrontReady s f
own_ready s start bytes f le are reads stay =
    let read = own s start bytes f reads in
    room s f (read_ready s s start bytes f le are read (own_fits s (target_bar s) start bytes f complete stay read))

-- the law
pub edited_reads : (s : Syntax) (words : List (List ℕ)) (edits : List Edit) → meant_edits_in (dictionary_of s) words ≡ Ok edits → (start : ℕ) (bytes : List ℕ) (f : Front) → start ≤ INPUT_LIMIT → AreBytes bytes → Reads ascending_bar s start bytes f complete
    → FrontStays s f → (at : ℕ) → at + length (recode s (edited edits f)) ≤ INPUT_LIMIT → Reads (target_bar s) s at (recode s (edited edits f)) (normal_front s (edited edits f)) complete
edited_reads s words edits mean start bytes f le are reads stay at limit =
    front_reads s at (edited edits f) (edited_ready s edits f (edits_fit (dictionary_of s) words edits mean).2 (edits_ready s words edits mean) (own_ready s start bytes f le are reads stay)) limit

-- What is read of an input, edited and written.
use Rattle.std.proofs.Common.{◌≡◌, ◌∙◌, ap, sym, refl, subst, ℕ, ◌≤◌, List, [], ◌∷◌, ◌++◌, false, arith}
use Rattle.std.specs.Prelude.{fold, map}
use Rattle.dcm_base.specs.declared.syntax.Syntax.{Syntax}
use Rattle.dcm_base.specs.Tree.Front.{Front, front, nothing_open, open_leaf, open_sequence, open_fragments}
use Rattle.dcm_base.specs.Lines.Ascending.{FrontAscends}
use Rattle.dcm_base.specs.Bytes.Spelling.{SpellsFront}
use Rattle.dcm_base.specs.Reading.Stop.{Bar, HeadBar, Stop, complete, refused}
use Rattle.dcm_base.specs.Reading.Reads.{INPUT_LIMIT, Reads, ended}
use Rattle.dcm_base.specs.Reading.Bars.{ascending_bar}
use Rattle.dcm_base.specs.Conversion.Recode.{recode}
use Rattle.dcm_base.specs.Steps.Steps.{outputs}
use Rattle.dcm_base.specs.Steps.Atoms.{Atom, ends, front_atoms, is_closed, Shows}
use Rattle.dcm_base.proofs.DataSets.Shown.{trees_shown, front_shown}
use Rattle.dcm_sinks.proofs.ReadBack.RecodeReads.{longer}
use Rattle.dcm_stream.specs.Ascending.{ascending}
use Rattle.dcm_stream.specs.Reading.{end_shows}
use Rattle.dcm_sinks.specs.EncodeSink.{encode_start, encode_step, encode_writes}
use Rattle.dcm_sinks.specs.Laws.{StaysShallow}
use Rattle.dcm_sinks.proofs.Conversions.DataSets.{encode_steps}
use Rattle.dcm_sinks.proofs.ReadBack.IsRead.{IsRead, unclosed, whole_read, far_read}
use Rattle.dcm_edits.specs.Edit.{Edit, edited, found}
use Rattle.dcm_edits.specs.Overlap.{AreApart, ArePublic}
use Rattle.dcm_base.specs.Steps.Anew.{reached_anew}
use Rattle.dcm_editor.specs.EditSink.{begun, next, passed}
use Rattle.dcm_edits.specs.Bounds.{HaveValues, HaveShortIndexes, AreWithin}
use Rattle.dcm_editor.proofs.EditSinks.Law.{edit_steps}
use Rattle.dcm_editor.proofs.ReadBack.RecodeAnew.{recode_anew}
use Rattle.dcm_edits.proofs.Trees.Depths.{edited_shallow}
use Rattle.dcm_editor.proofs.Trees.DepthAtoms.{front_shallow, front_stays, anew_shallow}
use Rattle.dcm_editor.proofs.ReadBack.Rises.{KeepsOrder, in_order}
use Rattle.dcm_editor.proofs.ReadBack.ReadsAscend.{ReadAtoms, read_atoms, ascends_by, ascends_so_far_by}

-- ---- edited and written

pub edit_encodes : (target : Syntax) (es : List Edit) (f : Front) (atoms : List Atom) → AreApart es → ArePublic es → HaveValues es → HaveShortIndexes es → AreWithin 64 es → FrontAscends f → StaysShallow 0 atoms → Shows f atoms
    → outputs encode_step encode_writes (encode_start target) (outputs next passed (begun es) atoms) ≡ recode target (edited es f)
edit_encodes target es f atoms p b v x w a h shown =
    let all = edit_steps es f atoms p b v x a h shown in
    let shallow : StaysShallow 0 (outputs next passed (begun es) atoms) =
    front_stays (reached_anew (edited es f)) 0 (outputs next passed (begun es) atoms) all.0 (omega arith) (anew_shallow 0 (edited es f) (edited_shallow es f w (front_shallow f 0 atoms shown h))) in
    encode_steps target (reached_anew (edited es f)) (outputs next passed (begun es) atoms) shallow all.0 ∙ recode_anew target (edited es f)

-- ---- what is read is shown

ended_shows : (s : Syntax) (stop : Stop) (g : Front) (read : List ℕ) (atoms : List Atom) → SpellsFront s g read → atoms ≡ front_atoms s g → atoms ++ end_shows stop ≡ front_atoms s (ended stop g) → Shows (ended stop g) (front_atoms s (ended stop g))
unfolding front_atoms Shows SpellsFront
ended_shows s (refused fault offset) g read atoms w e i = front_shown s g read w
ended_shows s complete (front whole nothing_open reached was) read atoms w e i = (ends ∷ [], trees_shown s whole read w.0 (ends ∷ []) w.1, refl, refl, w.3)
ended_shows s complete (front whole (open_leaf tag vr size value) reached was) read atoms w e i = absurd (longer atoms (i ∙ sym e))
ended_shows s complete (front whole (open_sequence tag vr declared items last) reached was) read atoms w e i = absurd (longer atoms (i ∙ sym e))
ended_shows s complete (front whole (open_fragments tag vr values last) reached was) read atoms w e i = absurd (longer atoms (i ∙ sym e))

unclosed_same : (f : Front) → is_closed f ≡ false → unclosed f ≡ f
unclosed_same (front whole o reached closed) c = ap (front whole o reached) (sym c)

-- what is read, whole or so far, is shown, ascends, and is no deeper than 64 sequences and fragment lists
pub record Shown (s : Syntax) (f : Front) : Type 0 where
  pub ascends : FrontAscends f
  pub shallow : StaysShallow 0 (front_atoms s f)
  pub shows : Shows f (front_atoms s f)

module _ (bars : List Atom → HeadBar) (bar : Bar) (k : KeepsOrder bars bar) (s : Syntax) (start : ℕ) (bytes : List ℕ) (f : Front) (stop : Stop) (le : start ≤ INPUT_LIMIT) where
  pub shown_whole : Reads bar s start bytes f stop → Shown s f
  shown_whole reads =
      let r : ReadAtoms bars bar k s start bytes f stop = read_atoms bars bar k s start bytes f stop le reads in
      record {
        ascends = ascends_by bars bar k s start bytes f stop le reads;
        shallow = (whole_read bars bar k.same k.late s start bytes le f stop reads).shallow;
        shows = subst (λ (x : Front). Shows x (front_atoms s x)) (sym r.is) (ended_shows s stop r.reached r.read _ r.spelled r.atoms_are r.ended_are);
      }

  pub shown_so_far : is_closed f ≡ false → Reads bar s start bytes (ended stop f) stop → Shown s f
  shown_so_far c reads =
      let r : IsRead s f = far_read bars bar k.same k.late s start bytes le f stop c reads in
      record {
        ascends = ascends_so_far_by bars bar k s start bytes f stop le c reads;
        shallow = r.shallow;
        shows = front_shown s f r.bytes (subst (λ (x : Front). SpellsFront s x r.bytes) (unclosed_same f c) r.spelled);
      }

-- ---- the law

module _ (target : Syntax) (es : List Edit) (p : AreApart es) (b : ArePublic es) (v : HaveValues es) (x : HaveShortIndexes es) (w : AreWithin 64 es) (s : Syntax) (start : ℕ) (bytes : List ℕ) (f : Front) (stop : Stop) (le : start ≤ INPUT_LIMIT) where
  edited_is : Shown s f
      → (outputs encode_step encode_writes (encode_start target) (outputs next passed (begun es) (front_atoms s f)) ≡ recode target (edited es f)) × ((fold next (begun es) (front_atoms s f)).found ≡ map (λ e. found e f) es)
  edited_is r = (edit_encodes target es f (front_atoms s f) p b v x w r.ascends r.shallow r.shows, (edit_steps es f (front_atoms s f) p b v x r.ascends r.shallow r.shows).1)

  pub edit_reads_whole : Reads ascending_bar s start bytes f stop
      → (outputs encode_step encode_writes (encode_start target) (outputs next passed (begun es) (front_atoms s f)) ≡ recode target (edited es f)) × ((fold next (begun es) (front_atoms s f)).found ≡ map (λ e. found e f) es)
  edit_reads_whole reads = edited_is (shown_whole ascending ascending_bar in_order s start bytes f stop le reads)

  pub edit_reads_so_far : is_closed f ≡ false → Reads ascending_bar s start bytes (ended stop f) stop
      → (outputs encode_step encode_writes (encode_start target) (outputs next passed (begun es) (front_atoms s f)) ≡ recode target (edited es f)) × ((fold next (begun es) (front_atoms s f)).found ≡ map (λ e. found e f) es)
  edit_reads_so_far c reads = edited_is (shown_so_far ascending ascending_bar in_order s start bytes f stop le c reads)

-- What is read under a bar on tags that do not ascend, ascends.
use Rattle.std.proofs.Common.{◌≡◌, ◌∙◌, ap, sym, subst, ℕ, ◌≤◌, List, [], ◌∷◌, ◌++◌, None, true, false}
use Rattle.dcm_base.specs.declared.syntax.Syntax.{Syntax}
use Rattle.dcm_base.specs.Tree.Front.{Front, front, nothing_open, open_leaf, open_sequence, open_fragments}
use Rattle.dcm_base.specs.Lines.Ascending.{FrontAscends}
use Rattle.dcm_base.specs.Bytes.Spelling.{SpellsFront}
use Rattle.dcm_base.specs.Reading.Stop.{Bar, HeadBar, Stop, complete, refused}
use Rattle.dcm_base.specs.Reading.Reads.{INPUT_LIMIT, Reads, ended}
use Rattle.dcm_base.specs.Reading.Bars.{ascending_bar}
use Rattle.dcm_base.specs.Steps.Atoms.{Atom, front_atoms, is_closed}
use Rattle.dcm_base.proofs.DataSets.OneAnswer.{reads_once}
use Rattle.dcm_base.proofs.DataSets.Shown.{front_shown}
use Rattle.dcm_sinks.proofs.ReadBack.RecodeReads.{longer}
use Rattle.dcm_stream.specs.Ascending.{ascending}
use Rattle.dcm_stream.specs.Reading.{read_all, finish, end_shows}
use Rattle.dcm_stream.proofs.Steps.Follows.{answers}
use Rattle.dcm_sinks.proofs.ReadBack.IsRead.{not_closed, far_atoms}
use Rattle.dcm_editor.proofs.ReadBack.Rises.{KeepsOrder, Rises, in_order, machine_rises}
use Rattle.dcm_editor.proofs.ReadBack.Ascends.{front_ascends}

-- ---- an end without fault comes where nothing is open

ended_ascends : (s : Syntax) (stop : Stop) (g : Front) (atoms : List Atom) → atoms ≡ front_atoms s g → atoms ++ end_shows stop ≡ front_atoms s (ended stop g) → FrontAscends g → FrontAscends (ended stop g)
unfolding front_atoms
ended_ascends s (refused fault offset) g atoms e i h = h
ended_ascends s complete (front whole nothing_open reached was) atoms e i h = (h.0, tt)
ended_ascends s complete (front whole (open_leaf tag vr size value) reached was) atoms e i h = absurd (longer atoms (i ∙ sym e))
ended_ascends s complete (front whole (open_sequence tag vr declared items last) reached was) atoms e i h = absurd (longer atoms (i ∙ sym e))
ended_ascends s complete (front whole (open_fragments tag vr values last) reached was) atoms e i h = absurd (longer atoms (i ∙ sym e))

before_end : (stop : Stop) (g : Front) → is_closed g ≡ false → FrontAscends (ended stop g) → FrontAscends g
before_end (refused fault offset) g c h = h
before_end complete (front whole nothing_open reached was) c h = (h.0, tt)
before_end complete (front whole (open_leaf tag vr size value) reached was) c h = absurd (let e : true ≡ false = h.1.unfinished in cc)
before_end complete (front whole (open_sequence tag vr declared items last) reached was) c h = absurd (let e : true ≡ false = h.1.0.unfinished in cc)
before_end complete (front whole (open_fragments tag vr values last) reached was) c h = absurd (let e : true ≡ false = h.1.unfinished in cc)

-- ---- the law

module _ (bars : List Atom → HeadBar) (bar : Bar) (k : KeepsOrder bars bar) (s : Syntax) (start : ℕ) (bytes : List ℕ) (f : Front) (stop : Stop) where
  -- what was read before its end, and its atoms, without the end and with it
  pub record ReadAtoms : Type 0 where
    pub reached : Front
    pub read : List ℕ
    pub spelled : SpellsFront s reached read
    pub is : f ≡ ended stop reached
    pub atoms_are : (read_all bars s start bytes).1 ≡ front_atoms s reached
    pub ended_are : (read_all bars s start bytes).1 ++ end_shows stop ≡ front_atoms s (ended stop reached)

  module _ (le : start ≤ INPUT_LIMIT) where
    pub read_atoms : Reads bar s start bytes f stop → ReadAtoms
    read_atoms (reached, why, first, said, is) =
        let reads : Reads bar s start bytes f stop = (reached, why, first, said, is) in
        let atoms : List Atom = (read_all bars s start bytes).1 in
        let a = answers bars bar k.same s start bytes le in
        let one = reads_once bar s start bytes a.f f (finish (read_all bars s start bytes).0) stop a.reads reads in
        record {
          reached = reached;
          read = first.read;
          spelled = first.spelled;
          is = is;
          atoms_are = far_atoms bars bar k.same k.late s start bytes le reached stop (not_closed s reached first.read first.spelled) (subst (λ (x : Front). Reads bar s start bytes x stop) is reads);
          ended_are = ap (λ (x : Stop). atoms ++ end_shows x) (sym one.1) ∙ a.shown ∙ ap (front_atoms s) (one.0 ∙ is);
        }

    pub ascends_by : Reads bar s start bytes f stop → FrontAscends f
    ascends_by reads =
        let r : ReadAtoms = read_atoms reads in
        subst FrontAscends (sym r.is)
        (ended_ascends s stop r.reached (read_all bars s start bytes).1 r.atoms_are r.ended_are
        (front_ascends r.reached (front_atoms s r.reached) [] (front_shown s r.reached r.read r.spelled) (subst (λ (x : List Atom). Rises (None ∷ []) x) r.atoms_are (machine_rises bars bar k s start bytes))))

pub ascends_so_far_by : (bars : List Atom → HeadBar) (bar : Bar) → KeepsOrder bars bar → (s : Syntax) (start : ℕ) (bytes : List ℕ) (f : Front) (stop : Stop) → start ≤ INPUT_LIMIT → is_closed f ≡ false
    → Reads bar s start bytes (ended stop f) stop → FrontAscends f
ascends_so_far_by bars bar k s start bytes f stop le c reads = before_end stop f c (ascends_by bars bar k s start bytes (ended stop f) stop le reads)

pub reads_ascend : (s : Syntax) (start : ℕ) (bytes : List ℕ) (f : Front) (stop : Stop) → start ≤ INPUT_LIMIT → Reads ascending_bar s start bytes f stop → FrontAscends f
reads_ascend = ascends_by ascending ascending_bar in_order

pub reads_ascend_so_far : (s : Syntax) (start : ℕ) (bytes : List ℕ) (f : Front) (stop : Stop) → start ≤ INPUT_LIMIT → is_closed f ≡ false → Reads ascending_bar s start bytes (ended stop f) stop → FrontAscends f
reads_ascend_so_far = ascends_so_far_by ascending ascending_bar in_order

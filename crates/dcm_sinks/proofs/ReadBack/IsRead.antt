-- What is read of an input is spelled but for its end, and never has more than 64 sequences and fragment lists open.
use Rattle.std.proofs.Common.{◌≡◌, ◌∙◌, ap, sym, refl, subst, ℕ, ◌≤◌, List, [], false, inl, inr}
use Rattle.std.proofs.lemmas.List.{append-nil}
use Rattle.dcm_base.specs.declared.syntax.Syntax.{Syntax}
use Rattle.dcm_base.specs.declared.fault.Fault.{Fault}
use Rattle.dcm_base.specs.Tree.Front.{Front, front}
use Rattle.dcm_base.specs.Bytes.Spelling.{SpellsFront}
use Rattle.dcm_base.specs.Reading.Stop.{Stop, complete, refused, HeadBar, Bar}
use Rattle.dcm_base.specs.Reading.Reads.{INPUT_LIMIT, Reads, ended}
use Rattle.dcm_base.specs.Steps.Atoms.{Atom, front_atoms, is_closed}
use Rattle.dcm_base.proofs.DataSets.OneAnswer.{reads_once}
use Rattle.dcm_stream.specs.Reading.{Reading, read_all, finish}
use Rattle.dcm_stream.specs.Follows.{BarsAs}
use Rattle.dcm_stream.proofs.Steps.Follows.{answers, follows}
use Rattle.dcm_stream.proofs.Heads.Stops.{NeverEarly}
use Rattle.dcm_sinks.specs.Laws.{StaysShallow}
use Rattle.dcm_sinks.proofs.ReadBack.Shallow.{machine_shallow, machine_shallow_ended}

-- without its end
abbrev pub unclosed : Front → Front
unclosed (front whole o reached closed) = front whole o reached false

pub record IsRead (s : Syntax) (f : Front) : Type 0 where
  pub bytes : List ℕ
  pub spelled : SpellsFront s (unclosed f) bytes
  pub shallow : StaysShallow 0 (front_atoms s f)

pub not_closed : (s : Syntax) (f : Front) (bytes : List ℕ) → SpellsFront s f bytes → is_closed f ≡ false
unfolding SpellsFront
not_closed s (front whole o reached closed) bytes w = w.4

unclosed_same : (f : Front) → is_closed f ≡ false → unclosed f ≡ f
unclosed_same (front whole o reached closed) c = ap (front whole o reached) (sym c)

unclosed_ended : (stop : Stop) (f : Front) → is_closed f ≡ false → unclosed (ended stop f) ≡ f
unclosed_ended complete (front whole o reached closed) c = unclosed_same (front whole o reached closed) c
unclosed_ended (refused fault offset) f c = unclosed_same f c

ended_same : (stop other : Stop) (f g : Front) → is_closed f ≡ false → is_closed g ≡ false → stop ≡ other → ended stop f ≡ ended other g → f ≡ g
ended_same stop other f g c d e h = sym (unclosed_ended stop f c) ∙ ap unclosed h ∙ unclosed_ended other g d

module _ (bars : List Atom → HeadBar) (bar : Bar) (same_bars : BarsAs bars bar) (never_early : (atoms : List Atom) → NeverEarly (bars atoms)) (s : Syntax) (start : ℕ) (bytes : List ℕ) (le : start ≤ INPUT_LIMIT) where
  whole_shallow : (f : Front) (stop : Stop) → Reads bar s start bytes f stop → StaysShallow 0 (front_atoms s f)
  whole_shallow f stop reads =
      let r : Reading = (read_all bars s start bytes).0 in
      let a = answers bars bar same_bars s start bytes le in
      subst (λ (x : Front). StaysShallow 0 (front_atoms s x)) (reads_once bar s start bytes a.f f (finish r) stop a.reads reads).0
      (subst (StaysShallow 0) a.shown (machine_shallow_ended bars never_early s start bytes (finish r)))

  pub whole_read : (f : Front) (stop : Stop) → Reads bar s start bytes f stop → IsRead s f
  whole_read f stop (reached, why, first, told, is) = record {
    bytes = first.read;
    spelled = subst (λ (x : Front). SpellsFront s x first.read) (sym (ap unclosed is ∙ unclosed_ended stop reached (not_closed s reached first.read first.spelled))) first.spelled;
    shallow = whole_shallow f stop (reached, why, first, told, is);
  }

  -- ---- what was read so far

  refused_open : (f : Front) (fault : Fault) (offset : ℕ) → Reads bar s start bytes f (refused fault offset) → is_closed f ≡ false
  refused_open f fault offset (reached, why, first, told, is) = ap is_closed is ∙ not_closed s reached first.read first.spelled

  -- the atoms of a machine over all bytes
  pub far_atoms : (f : Front) (stop : Stop) → is_closed f ≡ false → Reads bar s start bytes (ended stop f) stop → (read_all bars s start bytes).1 ≡ front_atoms s f
  far_atoms f stop c reads =
      let r : Reading = (read_all bars s start bytes).0 in
      elim (follows bars bar same_bars s start bytes le) [
        | inl h ↦
            let one = reads_once bar s start bytes (ended (finish r) h.f) (ended stop f) (finish r) stop h.reads reads in
            let same : h.f ≡ f = ended_same (finish r) stop h.f f (not_closed s h.f h.read h.spelled) c one.1 one.0 in
            h.atoms_are ∙ ap (front_atoms s) same
        | inr h ↦
            let here : Reads bar s start bytes h.f (refused h.fault h.offset) = subst (λ (x : List ℕ). Reads bar s start x h.f (refused h.fault h.offset)) (append-nil bytes) (h.reads []) in
            let one = reads_once bar s start bytes h.f (ended stop f) (refused h.fault h.offset) stop here reads in
            let same : h.f ≡ f = ended_same (refused h.fault h.offset) stop h.f f (refused_open h.f h.fault h.offset here) c one.1 one.0 in
            h.atoms_are ∙ ap (front_atoms s) same
      ]

  far_shallow : (f : Front) (stop : Stop) → is_closed f ≡ false → Reads bar s start bytes (ended stop f) stop → StaysShallow 0 (front_atoms s f)
  far_shallow f stop c reads = subst (StaysShallow 0) (far_atoms f stop c reads) (machine_shallow bars never_early s start bytes)

  pub far_read : (f : Front) (stop : Stop) → is_closed f ≡ false → Reads bar s start bytes (ended stop f) stop → IsRead s f
  far_read f stop c (reached, why, first, told, is) =
      let same : f ≡ reached = ended_same stop stop f reached c (not_closed s reached first.read first.spelled) refl is in
      record {
        bytes = first.read;
        spelled = subst (λ (x : Front). SpellsFront s x first.read) (sym (unclosed_same f c ∙ same)) first.spelled;
        shallow = far_shallow f stop c (reached, why, first, told, is);
      }

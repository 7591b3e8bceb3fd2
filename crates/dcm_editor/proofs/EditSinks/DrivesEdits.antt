-- A machine with a sink that bars what a bar does, tags that do not ascend among it, where no more than 64 sequences and fragment lists are open at a time.
use Rattle.std.proofs.Common.{◌≡◌, ◌∙◌, sym, ap, subst, refl, ℕ, ◌≤◌, List, [], ◌∷◌, ◌++◌, Option, Some, None, inl, inr}
use Rattle.std.specs.Prelude.{fold}
use Rattle.std.proofs.Math.Path.{fun_ext}
use Rattle.std.proofs.lemmas.List.Sums.{fold-append}
use Rattle.dcm_base.specs.declared.tag.Tag.{Tag}
use Rattle.dcm_base.specs.declared.vr.Vr.{Vr}
use Rattle.dcm_base.specs.declared.length.Length.{Length}
use Rattle.dcm_base.specs.declared.syntax.Syntax.{Syntax}
use Rattle.dcm_base.specs.declared.fault.Fault.{Fault}
use Rattle.dcm_base.specs.Tree.Front.{Front}
use Rattle.dcm_base.specs.Steps.Atoms.{Atom, Shows, front_atoms}
use Rattle.dcm_base.specs.Reading.Reads.{INPUT_LIMIT, Reads}
use Rattle.dcm_base.specs.Reading.Stop.{Bar, HeadBar, refused}
use Rattle.dcm_base.specs.Steps.Steps.{outputs}
use Rattle.dcm_base.proofs.DataSets.Shown.{front_shown}
use Rattle.dcm_head.specs.declared.head.Head.{Head}
use Rattle.dcm_stream.specs.declared.token.Bar.{Bar as SinkBar}
use Rattle.dcm_stream.specs.Reading.{Reading, read_byte, reads_byte, read_all}
use Rattle.dcm_stream.specs.Driven.{bars_by, driven, driven_output, EndsAs, RefusesAs, WaitsAs}
use Rattle.dcm_stream.proofs.Steps.Follows.{follows, answers}
use Rattle.dcm_stream.proofs.Runs.Inputs.{driven_is, output_is, ends_by, refuses_by, waits_by}
use Rattle.dcm_sinks.specs.Laws.{StaysShallow}
use Rattle.dcm_sinks.proofs.ReadBack.Shallow.{machine_shallow}
use Rattle.dcm_edits.specs.Edit.{Edit}
use Rattle.dcm_editor.specs.EditSink.{begun, next, edit_bar, BarsShallow}
use Rattle.dcm_edits.specs.Bounds.{HaveShortIndexes}
use Rattle.dcm_editor.proofs.EditSinks.Bars.{bar_steps}
use Rattle.dcm_editor.proofs.ReadBack.Rises.{KeepsOrder}

-- ---- two bars that agree on all that the machine shows

module _ (bars other : List Atom → HeadBar) (s : Syntax) (start : ℕ) (agree : (bytes : List ℕ) → bars (read_all other s start bytes).1 ≡ other (read_all other s start bytes).1) where
  alike_from : (before rest : List ℕ) → fold (reads_byte bars) (read_all other s start before) rest ≡ fold (reads_byte other) (read_all other s start before) rest
  alike_from before [] = refl
  alike_from before (b ∷ rest) =
      let p : Reading × List Atom = read_all other s start before in
      let one : reads_byte bars p b ≡ reads_byte other p b = ap (λ (h : HeadBar). ((read_byte h p.0 b).0, p.1 ++ (read_byte h p.0 b).1)) (agree before) in
      let more : reads_byte other p b ≡ read_all other s start (before ++ b ∷ []) = sym (fold-append (reads_byte other) _ before (b ∷ [])) in
      ap (λ (q : Reading × List Atom). fold (reads_byte bars) q rest) (one ∙ more)
      ∙ alike_from (before ++ b ∷ []) rest
      ∙ ap (λ (q : Reading × List Atom). fold (reads_byte other) q rest) (sym more)

  reads_alike : (bytes : List ℕ) → read_all bars s start bytes ≡ read_all other s start bytes
  reads_alike bytes = alike_from [] bytes

-- ---- a data set that the machine shows

record ShowsNow (atoms : List Atom) : Type 0 where
  pub f : Front
  pub shown : Shows f atoms

-- a sink bars what the bar does, after each data set that the machine shows
abbrev pub BarsShallowAs : {S : Type 0} → Bar → (S → Head → Option SinkBar) → (S → Atom → S) → S → Type 0
BarsShallowAs bar bars takes first = (f : Front) (atoms : List Atom) (tag : Tag) (vr : Vr) (declared : Length) → StaysShallow 0 atoms → Shows f atoms → bars_by bars takes first atoms tag vr declared ≡ bar f tag vr declared

module _ (told : List Atom → HeadBar) (bar : Bar) (k : KeepsOrder told bar) (s : Syntax) (start : ℕ) where
  shows_read : (bytes : List ℕ) (f : Front) (fault : Fault) (offset : ℕ) → Reads bar s start bytes f (refused fault offset) → Shows f (front_atoms s f)
  shows_read bytes f fault offset (reached, why, first, said, is) = subst (λ (x : Front). Shows x (front_atoms s x)) (sym is) (front_shown s reached first.read first.spelled)

  shows_now : (bytes : List ℕ) → start ≤ INPUT_LIMIT → ShowsNow (read_all told s start bytes).1
  shows_now bytes le =
      elim (follows told bar k.same s start bytes le) [
        | inl h ↦ record { f = h.f; shown = subst (λ (x : List Atom). Shows h.f x) (sym h.atoms_are) (front_shown s h.f h.read h.spelled) }
        | inr h ↦ record { f = h.f; shown = subst (λ (x : List Atom). Shows h.f x) (sym h.atoms_are) (shows_read (bytes ++ []) h.f h.fault h.offset (h.reads [])) }
      ]

  -- ---- a sink

  module _ {S : Type 0} (bars : S → Head → Option SinkBar) (step : S → Atom → S) (writes : S → Atom → List ℕ) (first : S) (shallow : BarsShallowAs bar bars step first) (bytes : List ℕ) (le : start ≤ INPUT_LIMIT) where
    agree_now : (read : List ℕ) → bars_by bars step first (read_all told s start read).1 ≡ told (read_all told s start read).1
    agree_now read =
        let now = shows_now read le in
        let atoms : List Atom = (read_all told s start read).1 in
        fun_ext (λ (tag : Tag). fun_ext (λ (vr : Vr). fun_ext (λ (declared : Length).
        shallow now.f atoms tag vr declared (machine_shallow told k.late s start read) now.shown ∙ sym (k.same.agree now.f atoms now.shown tag vr declared))))

    read_same : read_all (bars_by bars step first) s start bytes ≡ read_all told s start bytes
    read_same = reads_alike (bars_by bars step first) told s start agree_now bytes

    -- its machine reads what one with that bar reads, and the sink takes what that shows
    pub driven_same : driven bars step first s start bytes ≡ ((read_all told s start bytes).0, fold step first (read_all told s start bytes).1)
    driven_same = driven_is bars step writes first s start bytes ∙ ap (λ (q : Reading × List Atom). (q.0, fold step first q.1)) read_same

    pub output_same : driven_output bars step writes first s start bytes ≡ outputs step writes first (read_all told s start bytes).1
    output_same = output_is bars step writes first s start bytes ∙ ap (λ (q : Reading × List Atom). outputs step writes first q.1) read_same

    -- the input ends with the bytes
    pub shallow_ends : EndsAs bars step writes bar first s start bytes
    shallow_ends =
        let q = read_all told s start bytes in
        ends_by bars step writes bar first s start bytes q.0 q.1 driven_same output_same (answers told bar k.same s start bytes le)

    -- the machine is halted
    pub shallow_refuses : (fault : Fault) (offset : ℕ) → (driven bars step first s start bytes).0.halt ≡ Some (refused fault offset) → RefusesAs bars step writes bar first s start bytes fault offset
    shallow_refuses fault offset is =
        let q = read_all told s start bytes in
        refuses_by bars step writes bar first s start bytes q.0 q.1 fault offset driven_same output_same is (follows told bar k.same s start bytes le)

    -- it is not halted
    pub shallow_waits : (driven bars step first s start bytes).0.halt ≡ None → WaitsAs bars step writes bar first s start bytes
    shallow_waits is =
        let q = read_all told s start bytes in
        waits_by bars step writes bar first s start bytes q.0 q.1 driven_same output_same is (follows told bar k.same s start bytes le)

-- the edit sink bars so
pub edit_bars : (es : List Edit) → HaveShortIndexes es → BarsShallow edit_bar next (begun es)
edit_bars es x = λ f atoms tag vr declared h shown. bar_steps es f atoms tag vr declared x h shown

-- A machine and its sink over a whole input.
use Rattle.std.proofs.Common.{◌≡◌, ◌∙◌, sym, ap, subst, refl, ℕ, ◌≤◌, List, [], ◌∷◌, ◌++◌, Option, Some, None, Bool, true, false, cond, ◌⊎◌, inl, inr, append_assoc}
use Rattle.std.specs.Prelude.{fold, option_map}
use Rattle.std.proofs.lemmas.List.{append-nil}
use Rattle.std.proofs.lemmas.List.Sums.{fold-append}
use Rattle.dcm_base.specs.declared.syntax.Syntax.{Syntax}
use Rattle.dcm_base.specs.Tables.Syntax.{Little}
use Rattle.dcm_base.specs.declared.fault.Fault.{Fault}
use Rattle.dcm_base.specs.declared.fault.Fault.TheVariants.{FragmentsBarred}
use Rattle.dcm_base.specs.Steps.Atoms.{Atom, is_closed}
use Rattle.dcm_base.specs.Tree.Front.{Front, front}
use Rattle.dcm_base.specs.Reading.Bars.{is_fragment_form, no_bar, fragments_bar}
use Rattle.dcm_base.specs.Reading.Reads.{INPUT_LIMIT, Reads, ended}
use Rattle.dcm_base.specs.Bytes.Spelling.{form, SpellsFront}
use Rattle.dcm_base.specs.Steps.Steps.{outputs}
use Rattle.dcm_base.specs.Reading.Stop.{Stop, Bar, refused, is_early, is_early_bar, is_undecided}
use Rattle.dcm_base.proofs.Writes.Runs.{outputs-append}
use Rattle.dcm_head.specs.declared.head.Head.{Head}
use Rattle.dcm_stream.specs.declared.token.Bar.{Bar as SinkBar}
use Rattle.dcm_stream.specs.declared.token.Bar.TheVariants.{Fragments}
use Rattle.dcm_stream.specs.Reading.{Reading, start_of, read_byte, reads_byte, read_all, finish, end_shows}
use Rattle.dcm_stream.specs.Follows.{BarsAs, GoesOn, HaltsAt, Answered}
use Rattle.dcm_stream.specs.Judging.{fault_of, bars_head}
use Rattle.dcm_stream.specs.Machine.{steps, steps_write}
use Rattle.dcm_stream.specs.Driven.{bars_by, DrivesAs, driven, driven_output, EndsAs, RefusesAs, WaitsAs, BarsNone, BarsFragments}
use Rattle.dcm_stream.proofs.Steps.Follows.{drives, follows, answers}

module _ {S : Type 0} (bars : S → Head → Option SinkBar) (step : S → Atom → S) (writes : S → Atom → List ℕ) where
  written : (first : S) (bytes : List ℕ) (r : Reading) (atoms : List Atom)
      → outputs step writes first atoms ++ outputs (steps bars step) (steps_write bars step writes) (r, fold step first atoms) bytes ≡ outputs step writes first (fold (reads_byte (bars_by bars step first)) (r, atoms) bytes).1
  written first [] r atoms = append-nil (outputs step writes first atoms)
  written first (b ∷ bytes) r atoms =
      let q = read_byte (bars_by bars step first atoms) r b in
      let t : S = fold step first atoms in
      let rest = λ (x : S). outputs (steps bars step) (steps_write bars step writes) (q.0, x) bytes in
      sym (append_assoc (outputs step writes first atoms) (outputs step writes t q.1) (rest (fold step t q.1)))
      ∙ ap (λ (xs : List ℕ). xs ++ rest (fold step t q.1)) (sym (outputs-append step writes first atoms q.1))
      ∙ ap (λ (x : S). outputs step writes first (atoms ++ q.1) ++ rest x) (sym (fold-append step first atoms q.1))
      ∙ written first bytes q.0 (atoms ++ q.1)

  pub drives_as : DrivesAs bars step writes
  drives_as first s start bytes = (drives (bars_head bars) step first bytes (start_of s start) [], written first bytes (start_of s start) [])

  -- ---- what is read

  -- a machine with its sink, in the machine's own terms
  pub driven_is : (first : S) (s : Syntax) (start : ℕ) (bytes : List ℕ) → driven bars step first s start bytes ≡ ((read_all (bars_by bars step first) s start bytes).0, fold step first (read_all (bars_by bars step first) s start bytes).1)
  driven_is first s start bytes = (drives_as first s start bytes).0

  pub output_is : (first : S) (s : Syntax) (start : ℕ) (bytes : List ℕ) → driven_output bars step writes first s start bytes ≡ outputs step writes first (read_all (bars_by bars step first) s start bytes).1
  output_is first s start bytes = (drives_as first s start bytes).1

  -- the bytes that are shown, and then the end
  pub ends_by : (bar : Bar) (first : S) (s : Syntax) (start : ℕ) (bytes : List ℕ) (r : Reading) (atoms : List Atom) → driven bars step first s start bytes ≡ (r, fold step first atoms)
      → driven_output bars step writes first s start bytes ≡ outputs step writes first atoms → Answered bar s start bytes r atoms → EndsAs bars step writes bar first s start bytes
  ends_by bar first s start bytes r atoms d o a =
      let p = driven bars step first s start bytes in
      let end = end_shows (finish r) in
      let same : p.0 ≡ r = ap (λ (q : Reading × S). q.0) d in
      record {
        f = a.f;
        reads = subst (λ (x : Reading). Reads bar s start bytes a.f (finish x)) (sym same) a.reads;
        state = ap (λ (q : Reading × S). fold step q.1 (end_shows (finish q.0))) d ∙ sym (fold-append step first atoms end) ∙ ap (fold step first) a.shown;
        output =
            ap (λ (xs : List ℕ). xs ++ outputs step writes p.1 (end_shows (finish p.0))) o
            ∙ ap (λ (q : Reading × S). outputs step writes first atoms ++ outputs step writes q.1 (end_shows (finish q.0))) d
            ∙ sym (outputs-append step writes first atoms end)
            ∙ ap (outputs step writes first) a.shown;
      }

  pub ends_as : (bar : Bar) (first : S) → BarsAs (bars_by bars step first) bar → (s : Syntax) (start : ℕ) (bytes : List ℕ) → start ≤ INPUT_LIMIT → EndsAs bars step writes bar first s start bytes
  ends_as bar first h s start bytes le =
      let q = read_all (bars_by bars step first) s start bytes in
      ends_by bar first s start bytes q.0 q.1 (driven_is first s start bytes) (output_is first s start bytes) (answers (bars_by bars step first) bar h s start bytes le)

  pub refuses_by : (bar : Bar) (first : S) (s : Syntax) (start : ℕ) (bytes : List ℕ) (r : Reading) (atoms : List Atom) (fault : Fault) (offset : ℕ) → driven bars step first s start bytes ≡ (r, fold step first atoms)
      → driven_output bars step writes first s start bytes ≡ outputs step writes first atoms → (driven bars step first s start bytes).0.halt ≡ Some (refused fault offset)
      → GoesOn bar s start bytes r atoms ⊎ HaltsAt bar s start bytes r atoms → RefusesAs bars step writes bar first s start bytes fault offset
  refuses_by bar first s start bytes r atoms fault offset d o is (inl g) =
      let halt : r.halt ≡ Some (refused fault offset) = ap (λ (q : Reading × S). q.0.halt) (sym d) ∙ is in
      let going = g.going in
      absurd (cc)
  refuses_by bar first s start bytes r atoms fault offset d o is (inr g) =
      let halt : Some (refused g.fault g.offset) ≡ Some (refused fault offset) = sym g.halt_is ∙ ap (λ (q : Reading × S). q.0.halt) (sym d) ∙ is in
      let same : refused g.fault g.offset ≡ refused fault offset = cc in
      let same_fault : g.fault ≡ fault = cc in
      record {
        f = g.f;
        decided = ap is_early (sym same_fault) ∙ g.decided;
        reads = λ later. subst (λ (stop : Stop). Reads bar s start (bytes ++ later) g.f stop) same (g.reads later);
        state = ap (λ (q : Reading × S). q.1) d ∙ ap (fold step first) g.atoms_are;
        output = o ∙ ap (outputs step writes first) g.atoms_are;
      }

  pub refuses_as : (bar : Bar) (first : S) → BarsAs (bars_by bars step first) bar → (s : Syntax) (start : ℕ) (bytes : List ℕ) (fault : Fault) (offset : ℕ) → start ≤ INPUT_LIMIT
      → (driven bars step first s start bytes).0.halt ≡ Some (refused fault offset) → RefusesAs bars step writes bar first s start bytes fault offset
  refuses_as bar first h s start bytes fault offset le is =
      let q = read_all (bars_by bars step first) s start bytes in
      refuses_by bar first s start bytes q.0 q.1 fault offset (driven_is first s start bytes) (output_is first s start bytes) is (follows (bars_by bars step first) bar h s start bytes le)

  stays_open : (s : Syntax) (f : Front) (bytes : List ℕ) → SpellsFront s f bytes → is_closed f ≡ false
  unfolding SpellsFront
  stays_open s (front whole open_tree reached closed) bytes h = h.4

  pub waits_by : (bar : Bar) (first : S) (s : Syntax) (start : ℕ) (bytes : List ℕ) (r : Reading) (atoms : List Atom) → driven bars step first s start bytes ≡ (r, fold step first atoms)
      → driven_output bars step writes first s start bytes ≡ outputs step writes first atoms → (driven bars step first s start bytes).0.halt ≡ None
      → GoesOn bar s start bytes r atoms ⊎ HaltsAt bar s start bytes r atoms → WaitsAs bars step writes bar first s start bytes
  waits_by bar first s start bytes r atoms d o is (inl g) =
      let same : (driven bars step first s start bytes).0 ≡ r = ap (λ (q : Reading × S). q.0) d in
      record {
        f = g.f;
        not_closed = stays_open s g.f g.read g.spelled;
        undecided = ap (λ (x : Reading). is_undecided (Some (finish x))) same ∙ g.undecided;
        reads = subst (λ (x : Reading). Reads bar s start bytes (ended (finish x) g.f) (finish x)) (sym same) g.reads;
        state = ap (λ (q : Reading × S). q.1) d ∙ ap (fold step first) g.atoms_are;
        output = o ∙ ap (outputs step writes first) g.atoms_are;
      }
  waits_by bar first s start bytes r atoms d o is (inr g) =
      let halt : r.halt ≡ None = ap (λ (q : Reading × S). q.0.halt) (sym d) ∙ is in
      let halted = g.halt_is in
      absurd (cc)

  pub waits_as : (bar : Bar) (first : S) → BarsAs (bars_by bars step first) bar → (s : Syntax) (start : ℕ) (bytes : List ℕ) → start ≤ INPUT_LIMIT → (driven bars step first s start bytes).0.halt ≡ None → WaitsAs bars step writes bar first s start bytes
  waits_as bar first h s start bytes le is =
      let q = read_all (bars_by bars step first) s start bytes in
      waits_by bar first s start bytes q.0 q.1 (driven_is first s start bytes) (output_is first s start bytes) is (follows (bars_by bars step first) bar h s start bytes le)

  -- ---- what is barred

  pub bars_none : (first : S) → BarsNone bars step first → BarsAs (bars_by bars step first) no_bar
  bars_none first h = record {
    agree = λ f atoms shown tag vr declared. ap (option_map fault_of) (h atoms (record { tag = tag; vr = vr; length = declared }));
    never_early = λ f tag vr declared. refl;
  }

  fragments_told : (t : Bool) → option_map fault_of (cond t (Some Fragments) None) ≡ cond t (Some FragmentsBarred) None
  fragments_told true = refl
  fragments_told false = refl

  fragments_late : (t : Bool) → is_early_bar (cond t (Some FragmentsBarred) None) ≡ false
  fragments_late true = refl
  fragments_late false = refl

  pub bars_fragments : (first : S) → BarsFragments bars step first → BarsAs (bars_by bars step first) fragments_bar
  bars_fragments first h = record {
    agree = λ f atoms shown tag vr declared. ap (option_map fault_of) (h atoms (record { tag = tag; vr = vr; length = declared })) ∙ fragments_told (is_fragment_form (form Little vr declared));
    never_early = λ f tag vr declared. fragments_late (is_fragment_form (form Little vr declared));
  }

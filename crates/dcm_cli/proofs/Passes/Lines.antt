-- The building of a file from the lines of a dump, by what was fed.
use Rattle.std.proofs.Common.{◌≡◌, ◌∙◌, ap, sym, subst, ℕ, ◌≤◌, List, ◌++◌, append_assoc, length, Bool, true, false, Option, None, Some, refl, Err, inl, inr, ◌⊎◌}
use Rattle.std.specs.Prelude.{Result, Ok, fold, is_some, ◌||◌}
use Rattle.std.specs.Io.KnownBytes.{append_known}
use Rattle.dcm_lemmas.proofs.Options.{known_twice}
use Rattle.dcm_base.specs.Lines.Build as build
use Rattle.dcm_base.specs.declared.fault.LineStop.{LineStop}
use Rattle.dcm_devices.specs.Device.{AppendsFront}
use Rattle.dcm_base.specs.Steps.Steps.{outputs, Goes}
use Rattle.dcm_words.specs.Words.{build as building}
use Rattle.dcm_devices.proofs.Writes.Puts.{front_longer, puts_behind}
use Rattle.dcm_base.proofs.Writes.Runs.{outputs-append, goes_on}
use Rattle.dcm_stream.specs.Machine.{well, TellsFailed}
use Rattle.dcm_build.specs.Halts.{BuildHalt}
use Rattle.dcm_base.specs.declared.stopped.Stopped.TheVariants as halts
use Rattle.dcm_build.specs.Builder.{Progress, answer, is_halted}
use Rattle.dcm_build.specs.Building.{BuildState, build_start, build_step, build_writes, finishes, finish_writes}
use Rattle.dcm_build.proofs.Files.Runs.{whole, so_far, refused}
use Rattle.dcm_cli.specs.declared.ending.Ending.TheVariants as endings
use Rattle.dcm_cli.specs.declared.ending.Ending.TheVariants.{Unread, Output}
use Rattle.dcm_cli.specs.Answer.{LinesSure}
use Rattle.dcm_cli.specs.InputCalls.{in_part, IsUndecided}
use Rattle.dcm_cli.specs.Lines.{ending_of, EndsLines}
use Rattle.dcm_cli.specs.Run.{IsDecided, Worked, answered, could_not_read, could_not_write, verdict_of_line_stop}
use Rattle.dcm_cli.proofs.Passes.Decided.{decided_as, decided_output}

-- ---- the file

-- the state behind bytes, and what they wrote
module _ (limit : ℕ) where
  abbrev pub state : List ℕ → BuildState
  state bytes = fold build_step (build_start limit) bytes

  abbrev pub written : List ℕ → List ℕ
  written bytes = outputs build_step build_writes (build_start limit) bytes

  abbrev pub output : List ℕ → List ℕ
  output bytes = build.built_bytes (build.built limit bytes).built

  -- all of it
  all_written : (bytes : List ℕ) → written bytes ++ finish_writes (state bytes) ≡ output bytes
  all_written bytes = (whole limit bytes).file

  -- a beginning of it
  begins : (read rest : List ℕ) → written read ++ (outputs build_step build_writes (state read) rest ++ finish_writes (state (read ++ rest))) ≡ output (read ++ rest)
  begins read rest =
      sym (append_assoc (written read) (outputs build_step build_writes (state read) rest) (finish_writes (state (read ++ rest))))
      ∙ ap (λ (bs : List ℕ). bs ++ finish_writes (state (read ++ rest))) (sym (outputs-append build_step build_writes (build_start limit) read rest))
      ∙ all_written (read ++ rest)

  pub lines_sure : (read : List ℕ) → (state read).told ≡ None → LinesSure limit read (written read)
  lines_sure read none =
      let b = so_far limit read none in
      record {
        within = b.within;
        no_fault = b.no_fault;
        short = subst (λ (line : List ℕ). length line ≤ limit) b.line b.short;
        out_is = b.file;
      }

  -- more lines may follow
  pub lines_undecided : (read : List ℕ) (s : BuildState) → s ≡ state read → s.told ≡ None → IsUndecided (building limit) read
  lines_undecided read s at none = (written read, lines_sure read (ap (λ (z : BuildState). z.told) (sym at) ∙ none))

  -- what is sure stands at the front of the output
  pub lines_grow : (p later out : List ℕ) → (state p).told ≡ None → out ≡ written p → (rest : List ℕ) × (output (p ++ later) ≡ out ++ rest)
  lines_grow p later out none is =
      let rest = outputs build_step build_writes (state p) later ++ finish_writes (state (p ++ later)) in
      (rest, sym (begins p later) ∙ ap (λ (bs : List ℕ). bs ++ rest) (sym is))

-- ---- the work

-- which halt was answered
halt_is : (told : Option LineStop) (failed : Bool) (h : BuildHalt) → Err h ≡ answer told failed → ((failed ≡ true) × (h ≡ halts.Output)) ⊎ ((failed ≡ false) × (t : LineStop) × (told ≡ Some t) × (ending_of (Err h) ≡ endings.Worked (verdict_of_line_stop (Some t))))
halt_is told true h e = inl (refl, cc)
halt_is None false h e = cc
halt_is (Some t) false (halts.Refused stop) e = inr (refl, t, refl, cc)
halt_is (Some t) false halts.Output e = cc

-- none was
pub going_is : (told : Option LineStop) (failed : Bool) → failed || is_some told ≡ false → (failed ≡ false) × (told ≡ None)
going_is None false e = (refl, refl)
going_is (Some t) false e = cc
going_is told true e = cc

-- the output did not fail
pub not_unwritten : (failed old new : Bool) → failed ≡ false → TellsFailed old new failed → new ≡ old
not_unwritten true old new e h = cc
not_unwritten false old new e h = h

module _ (limit : ℕ) (held : Option (List ℕ)) (s : BuildState) (mid : Option (List ℕ)) (p : Progress) (holds : Option (List ℕ)) (front piece : List ℕ)
    (at : s ≡ state limit front) (out : mid ≡ append_known held (written limit front)) (goes : Goes build_step build_writes s mid p.state holds piece (well p.failed)) where
  went : Goes build_step build_writes (build_start limit) held p.state holds (front ++ piece) (well p.failed)
  went = goes_on build_step build_writes (build_start limit) held s mid p.state holds front piece (well p.failed) at out goes

  -- the builder goes on behind a piece
  pub built_on : is_halted p ≡ false → (p.state ≡ state limit (front ++ piece)) × (holds ≡ append_known held (written limit (front ++ piece)))
  built_on going = subst (λ (f : Bool). Goes build_step build_writes (build_start limit) held p.state holds (front ++ piece) (well f)) (going_is p.state.told p.failed going).0 went

  -- or halts at it
  pub built_halted : (file rest : List ℕ) (left : Option (List ℕ)) (h : BuildHalt) → file ≡ (front ++ piece) ++ rest → Err h ≡ answer p.state.told p.failed → Worked (building limit) file left held holds (ending_of (Err h))
  built_halted file rest left h is e = by_halt (halt_is p.state.told p.failed h e)
    where
      read : List ℕ
      read = front ++ piece

      there : output limit (read ++ rest) ≡ output limit file
      there = ap (output limit) (sym is)

      by_halt : ((p.failed ≡ true) × (h ≡ halts.Output)) ⊎ ((p.failed ≡ false) × (t : LineStop) × (p.state.told ≡ Some t) × (ending_of (Err h) ≡ endings.Worked (verdict_of_line_stop (Some t)))) → Worked (building limit) file left held holds (ending_of (Err h))
      by_halt (inl x) =
          let grown : AppendsFront held holds (written limit read) = subst (λ (f : Bool). Goes build_step build_writes (build_start limit) held p.state holds read (well f)) x.0 went in
          could_not_write (output limit file) (verdict_of_line_stop (build.built limit file).told) (record { out_is = refl; verdict_is = refl }) (ap (λ (z : BuildHalt). ending_of (Err z)) x.1)
          (subst (AppendsFront held holds) (begins limit read rest ∙ there) (front_longer (outputs build_step build_writes (state limit read) rest ++ finish_writes (state limit (read ++ rest))) grown))
      by_halt (inr x) =
          let w = subst (λ (f : Bool). Goes build_step build_writes (build_start limit) held p.state holds read (well f)) x.0 went in
          let stays = refused limit read rest x.1 (ap (λ (z : BuildState). z.told) (sym w.0) ∙ x.2) in
          answered (written limit read) (verdict_of_line_stop (Some x.1))
          (record {
            out_is = stays.file ∙ there;
            verdict_is = ap verdict_of_line_stop (sym stays.told_is ∙ ap (λ (bs : List ℕ). (build.built limit bs).told) (sym is));
          })
          x.3 w.1

  -- which is for all that may follow
  pub built_decided : (h : BuildHalt) → Err h ≡ answer p.state.told p.failed → IsDecided (building limit) (front ++ piece) in_part (ending_of (Err h))
  built_decided h e = by_halt (halt_is p.state.told p.failed h e)
    where
      by_halt : ((p.failed ≡ true) × (h ≡ halts.Output)) ⊎ ((p.failed ≡ false) × (t : LineStop) × (p.state.told ≡ Some t) × (ending_of (Err h) ≡ endings.Worked (verdict_of_line_stop (Some t)))) → IsDecided (building limit) (front ++ piece) in_part (ending_of (Err h))
      by_halt (inl x) = decided_output (building limit) (front ++ piece) in_part (ending_of (Err h)) (ap (λ (z : BuildHalt). ending_of (Err z)) x.1)
      by_halt (inr x) =
          let w = subst (λ (f : Bool). Goes build_step build_writes (build_start limit) held p.state holds (front ++ piece) (well f)) x.0 went in
          decided_as (building limit) (front ++ piece) in_part (ending_of (Err h)) (verdict_of_line_stop (Some x.1)) (written limit (front ++ piece)) x.3
          (λ rest ok. let stays = refused limit (front ++ piece) rest x.1 (ap (λ (z : BuildState). z.told) (sym w.0) ∙ x.2) in
          record { out_is = stays.file; verdict_is = ap verdict_of_line_stop (sym stays.told_is) })

module _ (limit : ℕ) (file read : List ℕ) (left held : Option (List ℕ)) (s : BuildState) (mid : Option (List ℕ)) (at : s ≡ state limit read) (out : mid ≡ append_known held (written limit read)) where
  -- reading fails
  pub built_unread : (rest : List ℕ) → s.told ≡ None → file ≡ read ++ rest → left ≡ Some rest → Worked (building limit) file left held mid (Unread (length read))
  built_unread rest none is left_is = could_not_read read rest (written limit read) is left_is (lines_sure limit read (ap (λ (z : BuildState). z.told) (sym at) ∙ none)) refl out

  -- the input ends
  module _ (is : file ≡ read) (holds : Option (List ℕ)) where
    there : written limit read ++ finish_writes s ≡ output limit file
    there =
        ap (λ (z : BuildState). written limit read ++ finish_writes z) at ∙ all_written limit read ∙ ap (output limit) (sym is)

    ends : (told : Option LineStop) → (finishes s).told ≡ told → holds ≡ append_known mid (finish_writes s) → Worked (building limit) file left held holds (endings.Worked (verdict_of_line_stop told))
    ends told e grown =
        answered (output limit file) (verdict_of_line_stop told)
        (record {
          out_is = refl;
          verdict_is = ap verdict_of_line_stop (sym e ∙ ap (λ (z : BuildState). (finishes z).told) at ∙ (whole limit read).told ∙ ap (λ (bs : List ℕ). (build.built limit bs).told) (sym is));
        })
        refl
        (grown ∙ ap (λ (known : Option (List ℕ)). append_known known (finish_writes s)) out ∙ known_twice held (written limit read) (finish_writes s) ∙ ap (append_known held) there)

    pub built_ended : (ended : Result (Unit {0}) BuildHalt) → EndsLines s mid holds ended → Worked (building limit) file left held holds (ending_of ended)
    built_ended (Ok x) e = ends None e.0 e.1
    built_ended (Err (halts.Refused stop)) e = ends (Some stop) e.0 e.1
    built_ended (Err halts.Output) e =
        could_not_write (output limit file) (verdict_of_line_stop (build.built limit file).told) (record { out_is = refl; verdict_is = refl }) refl
        (subst (AppendsFront held holds) there (puts_behind {T = Unit {0}} {E = Unit {0}} held mid holds (written limit read) (finish_writes s) (Err tt) out e))

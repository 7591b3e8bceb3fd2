-- What a machine and its sink leave of a whole input.
use Rattle.std.proofs.Common.{◌≡◌, ◌∙◌, sym, ap, subst, ℕ, ◌≤◌, List, ◌++◌, Option, Some, None, Ok, Err, Bool, true, false}
use Rattle.std.specs.Io.KnownBytes.{append_known}
use Rattle.dcm_base.specs.declared.syntax.Syntax.{Syntax}
use Rattle.dcm_base.specs.declared.fault.Fault.{Fault}
use Rattle.dcm_base.specs.Steps.Atoms.{Atom, front_atoms}
use Rattle.dcm_devices.specs.Device.{AppendsFront, Puts}
use Rattle.dcm_base.specs.Reading.Reads.{INPUT_LIMIT, Reads, ended}
use Rattle.dcm_base.specs.Steps.Steps.{outputs, Goes}
use Rattle.dcm_base.specs.Reading.Stop.{Bar, refused, is_undecided}
use Rattle.dcm_devices.proofs.Writes.Puts.{front_longer, puts_behind}
use Rattle.dcm_base.proofs.Writes.Runs.{outputs-append, goes_on}
use Rattle.dcm_head.specs.declared.head.Head.{Head}
use Rattle.dcm_stream.specs.declared.token.Bar.{Bar as SinkBar}
use Rattle.dcm_stream.specs.Reading.{Reading, start_of, finish, end_shows}
use Rattle.dcm_stream.specs.Follows.{BarsAs}
use Rattle.dcm_stream.specs.Machine.{steps, steps_write, Progress, well, GoesOver}
use Rattle.dcm_stream.specs.Driven.{bars_by, driven, driven_output, begun, Shown, ShownSoFar}
use Rattle.dcm_stream.proofs.Runs.Inputs.{ends_as, refuses_as, waits_as}

puts_of : {S : Type 0} (step : S → Atom → S) (writes : S → Atom → List ℕ) (m : S) (held : Option (List ℕ)) (t : S) (holds : Option (List ℕ)) (atoms : List Atom) (failed : Bool) → Goes step writes m held t holds atoms (well failed)
    → Puts held holds (outputs step writes m atoms) (well failed)
puts_of step writes m held t holds atoms true h = h
puts_of step writes m held t holds atoms false h = h.1

module _ {S : Type 0} (bars : S → Head → Option SinkBar) (step : S → Atom → S) (writes : S → Atom → List ℕ) where
  -- one piece and then another
  pub goes_over_more : (old : Progress) (s : S) (held : Option (List ℕ)) (mid : Progress) (m : S) (mid_held : Option (List ℕ)) (new : Progress) (t : S) (holds : Option (List ℕ)) (xs ys : List ℕ) → mid.failed ≡ false
      → GoesOver bars step writes old s held mid m mid_held xs → GoesOver bars step writes mid m mid_held new t holds ys → GoesOver bars step writes old s held new t holds (xs ++ ys)
  goes_over_more old s held mid m mid_held new t holds xs ys e a b =
      let first = subst (λ (failed : Bool). Goes (steps bars step) (steps_write bars step writes) (old.reading, s) held (mid.reading, m) mid_held xs (well failed)) e a in
      goes_on (steps bars step) (steps_write bars step writes) (old.reading, s) held (mid.reading, m) mid_held (new.reading, t) holds xs ys (well new.failed) first.0 first.1 b

  module _ (bar : Bar) (first : S) (bars_as : BarsAs (bars_by bars step first) bar) (s : Syntax) (start : ℕ) (le : start ≤ INPUT_LIMIT) (held : Option (List ℕ)) where
    -- where the output did not fail
    driven_to : (mid : Progress) (m : S) (mid_held : Option (List ℕ)) (bytes : List ℕ) → mid.failed ≡ false → GoesOver bars step writes (begun s start) first held mid m mid_held bytes
        → ((mid.reading, m) ≡ driven bars step first s start bytes) × (mid_held ≡ append_known held (driven_output bars step writes first s start bytes))
    driven_to mid m mid_held bytes e h = subst (λ (failed : Bool). Goes (steps bars step) (steps_write bars step writes) (start_of s start, first) held (mid.reading, m) mid_held bytes (well failed)) e h

    -- the input ends behind these bytes
    pub shown_at_end : (mid : Progress) (m : S) (mid_held : Option (List ℕ)) (t : S) (holds : Option (List ℕ)) (bytes : List ℕ) (failed : Bool) → mid.failed ≡ false → GoesOver bars step writes (begun s start) first held mid m mid_held bytes
        → Goes step writes m mid_held t holds (end_shows (finish mid.reading)) (well failed) → Shown step writes bar first s start bytes (finish mid.reading) held holds (well failed)
    shown_at_end mid m mid_held t holds bytes failed e h g =
        let d = driven_to mid m mid_held bytes e h in
        let ends = ends_as bars step writes bar first bars_as s start bytes le in
        let out = driven_output bars step writes first s start bytes in
        let last = outputs step writes m (end_shows (finish mid.reading)) in
        let whole : out ++ last ≡ outputs step writes first (front_atoms s ends.f) = ap (λ (q : Reading × S). out ++ outputs step writes q.1 (end_shows (finish q.0))) d.0 ∙ ends.output in
        record {
          f = ends.f;
          reads = subst (λ (q : Reading × S). Reads bar s start bytes ends.f (finish q.0)) (sym d.0) ends.reads;
          puts = subst (λ (bs : List ℕ). Puts held holds bs (well failed)) whole (puts_behind held mid_held holds out last (well failed) d.1 (puts_of step writes m mid_held t holds (end_shows (finish mid.reading)) failed g));
        }

    -- the machine is halted behind these bytes, whatever follows them
    pub shown_refused : (mid : Progress) (m : S) (holds : Option (List ℕ)) (bytes later : List ℕ) (fault : Fault) (offset : ℕ) → mid.failed ≡ false → mid.reading.halt ≡ Some (refused fault offset)
        → GoesOver bars step writes (begun s start) first held mid m holds bytes → Shown step writes bar first s start (bytes ++ later) (refused fault offset) held holds (Ok tt)
    shown_refused mid m holds bytes later fault offset e halt h =
        let d = driven_to mid m holds bytes e h in
        let refuses = refuses_as bars step writes bar first bars_as s start bytes fault offset le (ap (λ (q : Reading × S). q.0.halt) (sym d.0) ∙ halt) in
        record { f = refuses.f; reads = refuses.reads later; puts = d.1 ∙ ap (append_known held) refuses.output }

    -- the output failed within these bytes, whatever follows them
    pub shown_failed : (mid : Progress) (m : S) (holds : Option (List ℕ)) (bytes later : List ℕ) → mid.failed ≡ true → GoesOver bars step writes (begun s start) first held mid m holds bytes
        → Shown step writes bar first s start (bytes ++ later) (finish (driven bars step first s start (bytes ++ later)).0) held holds (Err tt)
    shown_failed mid m holds bytes later e h =
        let front : AppendsFront held holds (driven_output bars step writes first s start bytes) =
        subst (λ (failed : Bool). Goes (steps bars step) (steps_write bars step writes) (start_of s start, first) held (mid.reading, m) holds bytes (well failed)) e h in
        let ends = ends_as bars step writes bar first bars_as s start (bytes ++ later) le in
        let p = driven bars step first s start (bytes ++ later) in
        let more = outputs (steps bars step) (steps_write bars step writes) (driven bars step first s start bytes) later in
        let last = outputs step writes p.1 (end_shows (finish p.0)) in
        let all = ap (λ (bs : List ℕ). bs ++ last) (sym (outputs-append (steps bars step) (steps_write bars step writes) (start_of s start, first) bytes later)) ∙ ends.output in
        record { f = ends.f; reads = ends.reads; puts = subst (AppendsFront held holds) all (front_longer last (front_longer more front)) }

    -- the machine is not halted behind these bytes
    pub shown_so_far : (mid : Progress) (m : S) (holds : Option (List ℕ)) (bytes : List ℕ) → mid.failed ≡ false → mid.reading.halt ≡ None → GoesOver bars step writes (begun s start) first held mid m holds bytes
        → ShownSoFar step writes bar first s start bytes (finish mid.reading) held holds
    shown_so_far mid m holds bytes e halt h =
        let d = driven_to mid m holds bytes e h in
        let waits = waits_as bars step writes bar first bars_as s start bytes le (ap (λ (q : Reading × S). q.0.halt) (sym d.0) ∙ halt) in
        record {
          f = waits.f;
          not_closed = waits.not_closed;
          undecided = ap (λ (q : Reading × S). is_undecided (Some (finish q.0))) d.0 ∙ waits.undecided;
          reads = subst (λ (q : Reading × S). Reads bar s start bytes (ended (finish q.0) waits.f) (finish q.0)) (sym d.0) waits.reads;
          shown = d.1 ∙ ap (append_known held) waits.output;
        }

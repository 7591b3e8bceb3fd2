-- What the pass over a data set has read and made, in the words of the definitions.
use Rattle.std.proofs.Common.{◌≡◌, ◌∙◌, ap, sym, subst, ℕ, ◌+◌, ◌≤◌, List, [], ◌++◌, length, true, false, Option, None, Some, refl, arith}
use Rattle.std.specs.Prelude.{fold}
use Rattle.std.specs.Io.KnownBytes.{append_known, IsAtEnd}
use Rattle.std.proofs.lemmas.List.{append-nil}
use Rattle.dcm_base.specs.declared.syntax.Syntax.{Syntax}
use Rattle.dcm_base.specs.Steps.Atoms.{front_atoms, is_closed}
use Rattle.dcm_devices.specs.Device.{AppendsFront}
use Rattle.dcm_base.specs.Tree.Front.{Front, front}
use Rattle.dcm_base.specs.Reading.Reads.{INPUT_LIMIT, Reads, ended}
use Rattle.dcm_base.specs.Steps.Steps.{outputs}
use Rattle.dcm_base.specs.Reading.Stop.{Bar, Stop, complete, refused, is_undecided}
use Rattle.dcm_devices.proofs.Writes.Puts.{front_longer}
use Rattle.dcm_stream.specs.Reading.{start_of, finish, end_shows}
use Rattle.dcm_stream.specs.Machine.{next_offset}
use Rattle.dcm_cli.specs.declared.ending.Ending.{Ending}
use Rattle.dcm_cli.specs.declared.ending.Ending.TheVariants.{Worked, Unread, Output}
use Rattle.dcm_cli.specs.Pass.{Ends, at_end, at_fault, halted, unread, unwritten, end_unwritten}
use Rattle.dcm_base.specs.declared.dictionary.Dictionary.{Dictionary}
use Rattle.dcm_base.specs.declared.mode.Mode.{Mode}
use Rattle.dcm_words.specs.declared.job.Texts.{Texts}
use Rattle.dcm_words.specs.Words.{Job, dump, dump_decoded, dump_named, Named, convert}
use Rattle.dcm_cli.specs.declared.ending.Verdict.TheVariants.{Done}
use Rattle.dcm_cli.specs.Answer.{going_on}
use Rattle.dcm_cli.specs.Run.{verdict_of_stop, verdict_at, done_verdict, unplaced_mask}
use Rattle.dcm_cli.proofs.Passes.Makers.{Maker, made, made_output, last_output, more_made, ends_as, refuses_as, waits_as, made_behind}

-- where a data set may go on, the sink has gone over all that was read of it
pub record SoFar {S : Type 0} (Last : S → Front → Type 0) (t : S) (f : Front) (stop : Stop) : Type 0 where
  pub read : Front
  pub not_closed : is_closed read ≡ false
  pub is : f ≡ ended stop read
  pub last : Last t read

-- of a data set from start on, of which this was read: all of its text was written, and the sink has gone over all of it; or what is sure of a
-- beginning, or a beginning of the text
pub data SetMade {S : Type 0} (bar : Bar) (text : Front → List ℕ) (Last : S → Front → Type 0) (s : Syntax) (start : ℕ) (read rest : List ℕ) (held : Option (List ℕ)) (t : S) (holds : Option (List ℕ)) (ending : Ending) : Type 0 where
  set_read : (f : Front) (stop : Stop) → Reads bar s start (read ++ rest) f stop → Last t f → ending ≡ Worked (verdict_of_stop stop) → holds ≡ append_known held (text f) → SetMade bar text Last s start read rest held t holds ending
  set_unread : (f : Front) (stop : Stop) → Reads bar s start read f stop → is_undecided (Some stop) ≡ true → SoFar Last t f stop → ending ≡ Unread (start + length read)
      → holds ≡ append_known held (text (going_on f)) → SetMade bar text Last s start read rest held t holds ending
  set_unwritten : (f : Front) (stop : Stop) → Reads bar s start (read ++ rest) f stop → ending ≡ Output → AppendsFront held holds (text f) → SetMade bar text Last s start read rest held t holds ending

-- a job that has nothing to report where all was done
abbrev pub TellsNothing : Job → Type 0
TellsNothing job = (set : Front) → done_verdict job set ≡ Done 0

-- what the work comes to
pub told_nothing : (job : Job) → TellsNothing job → (set : Front) (stop : Stop) → verdict_of_stop stop ≡ verdict_at job set stop
told_nothing job none set complete = sym (none set)
told_nothing job none set (refused fault offset) = refl

pub dump_tells_nothing : (d : Dictionary) (mode : Mode) (bare : Option Syntax) → TellsNothing (dump d mode bare)
unfolding unplaced_mask
dump_tells_nothing d mode bare set = refl

pub decoded_tells_nothing : (d : Dictionary) (mode : Mode) (bare : Option Syntax) → TellsNothing (dump_decoded d mode bare)
unfolding unplaced_mask
decoded_tells_nothing d mode bare set = refl

pub named_tells_nothing : (texts : Texts) (d : Dictionary) (mode : Mode) (bare : Option Syntax) (n : Named) → TellsNothing (dump_named texts d mode bare n)
unfolding unplaced_mask
named_tells_nothing texts d mode bare n set = refl

pub convert_tells_nothing : (d : Dictionary) (target : Option Syntax) → TellsNothing (convert d target)
unfolding unplaced_mask
convert_tells_nothing d target set = refl

-- nothing is left
pub none_left : (left : Option (List ℕ)) (rest : List ℕ) → IsAtEnd left → left ≡ Some rest → rest ≡ []
none_left None rest h e = cc
none_left (Some xs) rest h e = cc

pub going_back : (stop : Stop) (f : Front) → is_closed f ≡ false → going_on (ended stop f) ≡ f
going_back complete (front whole open_tree reached closed) h = ap (front whole open_tree reached) (sym h)
going_back (refused fault offset) (front whole open_tree reached closed) h = ap (front whole open_tree reached) (sym h)

module _ {bar : Bar} {text : Front → List ℕ} (m : Maker bar text) (s : Syntax) (start : ℕ) (le : start ≤ INPUT_LIMIT) where
  -- the state in which all of a data set leaves the sink
  abbrev pub Last : m.State → Front → Type 0
  Last t f = t ≡ fold m.step m.first (front_atoms s f)

  -- the text of what is read of all the bytes
  pub all_read : (bytes : List ℕ) → (f : Front) × (stop : Stop) × Reads bar s start bytes f stop × (stop ≡ finish (made m s start bytes).0) × (made_output m s start bytes ++ last_output m s start bytes ≡ text f)
  all_read bytes =
      let e = ends_as m s start bytes le in
      (e.f, finish (made m s start bytes).0, e.reads, refl, e.output ∙ m.whole s start bytes e.f (finish (made m s start bytes).0) le e.reads)

  -- and the state
  last_state : (bytes : List ℕ) (t : m.State) (stop : Stop) → finish (made m s start bytes).0 ≡ stop → t ≡ fold m.step (made m s start bytes).1 (end_shows stop) → Last t (all_read bytes).0
  unfolding all_read
  last_state bytes t stop fin is =
      let e = ends_as m s start bytes le in
      is ∙ ap (λ (x : Stop). fold m.step (made m s start bytes).1 (end_shows x)) (sym fin) ∙ e.state

  module _ (held : Option (List ℕ)) (t : m.State) where
    -- a beginning of the output for a beginning of the bytes
    failed_within : (holds : Option (List ℕ)) (read rest : List ℕ) (ending : Ending) → ending ≡ Output → AppendsFront held holds (made_output m s start read) → SetMade bar text Last s start read rest held t holds ending
    failed_within holds read rest ending is beginning =
        let a = all_read (read ++ rest) in
        let last = last_output m s start (read ++ rest) in
        let whole = ap (λ (bs : List ℕ). bs ++ last) (sym (made_behind m s start read rest)) ∙ a.4 in
        set_unwritten a.0 a.1 a.2 is (subst (AppendsFront held holds) whole (front_longer last (front_longer (more_made m s start read rest) beginning)))

    -- where nothing is left, this is all of it
    all_of : (left : Option (List ℕ)) (read rest : List ℕ) → left ≡ Some rest → IsAtEnd left → read ++ rest ≡ read
    all_of left read rest some over = ap (λ (bs : List ℕ). read ++ bs) (none_left left rest over some) ∙ append-nil read

    -- the input has ended with this stop
    ended_there : (left : Option (List ℕ)) (read rest : List ℕ) (stop : Stop) → left ≡ Some rest → IsAtEnd left → finish (made m s start read).0 ≡ stop → Reads bar s start (read ++ rest) (all_read read).0 stop
    ended_there left read rest stop some over fin =
        let a = all_read read in
        subst (λ (bs : List ℕ). Reads bar s start bs a.0 stop) (sym (all_of left read rest some over)) (subst (λ (x : Stop). Reads bar s start read a.0 x) (a.3 ∙ fin) a.2)

    last_there : (read : List ℕ) (stop : Stop) → finish (made m s start read).0 ≡ stop → made_output m s start read ++ outputs m.step m.writes (made m s start read).1 (end_shows stop) ≡ text (all_read read).0
    last_there read stop fin = ap (λ (x : Stop). made_output m s start read ++ outputs m.step m.writes (made m s start read).1 (end_shows x)) (sym fin) ∙ (all_read read).4

    pub set_made : (left holds : Option (List ℕ)) (read rest : List ℕ) (ending : Ending) → left ≡ Some rest → Ends m.bars m.step m.writes (start_of s start) m.first held left t holds read ending
        → SetMade bar text Last s start read rest held t holds ending
    set_made left holds read rest ending some (at_end over none fin is last e) =
        set_read (all_read read).0 complete (ended_there left read rest complete some over fin) (last_state read t complete fin last) is (e ∙ ap (append_known held) (last_there read complete fin))
    set_made left holds read rest ending some (at_fault stop over none fin is state e) =
        set_read (all_read read).0 (refused stop.fault stop.at) (ended_there left read rest (refused stop.fault stop.at) some over fin) (last_state read t (refused stop.fault stop.at) fin state) is
        (e ∙ ap (append_known held) (sym (append-nil (made_output m s start read)) ∙ last_there read (refused stop.fault stop.at) fin))
    set_made left holds read rest ending some (halted stop halt is state e) =
        let r = refuses_as m s start read le stop.fault stop.at halt in
        let reads = r.reads rest in
        set_read r.f (refused stop.fault stop.at) reads (state ∙ r.state) is (e ∙ ap (append_known held) (r.output ∙ m.whole s start (read ++ rest) r.f (refused stop.fault stop.at) le reads))
    set_made left holds read rest ending some (unread none is state e) =
        let w = waits_as m s start read le none in
        let stop = finish (made m s start read).0 in
        set_unread (ended stop w.f) stop w.reads w.undecided (record { read = w.f; not_closed = w.not_closed; is = refl; last = state ∙ w.state }) (is ∙ ap (λ (n : ℕ). Unread (n + length read)) (starts_at start))
        (e ∙ ap (append_known held) (w.output ∙ m.so_far s start read w.f stop le w.not_closed w.reads ∙ ap text (sym (going_back stop w.f w.not_closed))))
      where
        starts_at : (n : ℕ) → next_offset (start_of s n) ≡ n
        starts_at n = omega arith
    set_made left holds read rest ending some (unwritten is e) = failed_within holds read rest ending is e
    set_made left holds read rest ending some (end_unwritten over none is e) =
        let a = all_read read in
        set_unwritten a.0 a.1 (subst (λ (bs : List ℕ). Reads bar s start bs a.0 a.1) (sym (all_of left read rest some over)) a.2) is (subst (AppendsFront held holds) a.4 e)

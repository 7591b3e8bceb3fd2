-- What obeying words over files in memory comes to.
use Rattle.std.proofs.Common.{◌≡◌, append-nil, ◌∙◌, ap, sym, subst, refl, ◌⊎◌, inl, inr, ◌≤◌, ℕ, List, [], length, bytes_eq, Bool, true, false, Option, None, Some, Result, Ok, Err}
use Rattle.dcm_devices.specs.Memory.{written, room_of}
use Rattle.dcm_devices.specs.declared.memory.MemIn.{MemIn}
use Rattle.dcm_devices.specs.declared.memory.MemOut.{MemOut}
use Rattle.dcm_devices.specs.declared.memory.Measured.{Measured}
use Rattle.dcm_files.specs.declared.memory.MemSystem.{MemSystem}
use Rattle.dcm_files.specs.declared.opened.FileKind.TheVariants.{Other}
use Rattle.dcm_files.specs.declared.opened.Opened.{Opened}
use Rattle.dcm_files.specs.declared.opened.Unopened.{Unopened}
use Rattle.dcm_files.specs.declared.opened.Unopened.TheVariants.{Input, Output, Same}
use Rattle.dcm_files.specs.Devices as devices
use Rattle.dcm_files.specs.Devices.{OpensDevices, OpensOutput, standard}
use Rattle.dcm_files.specs.Memory.{may_do}
use Rattle.dcm_deid.specs.declared.fate.Options.{Options}
use Rattle.dcm_words.specs.declared.topic.Topic.{Topic}
use Rattle.dcm_words.specs.Topics.{asked, text}
use Rattle.dcm_words.specs.declared.usage.Usage.{Usage}
use Rattle.dcm_words.specs.declared.usage.Usage.TheVariants.{Memory}
use Rattle.dcm_words.specs.Words.{Job, dump, dump_decoded, dump_named, convert, build, modify, deidentify, Plan, meant, with_days}
use Rattle.dcm_cli.specs.declared.days.NoDays.TheVariants as no_days
use Rattle.dcm_cli.specs.declared.first.FirstEnd.{FirstEnd}
use Rattle.dcm_cli.specs.declared.first.FirstEnd.TheVariants as ends
use Rattle.dcm_cli.proofs.Runs.OneFirst.{one_first, some_first}
use Rattle.dcm_words.specs.Plans.{takes_memory}
use Rattle.dcm_cli.specs.declared.key.NoKey.{NoKey}
use Rattle.dcm_cli.specs.Answer.{Answer, Answers}
use Rattle.dcm_cli.specs.Change.{Change}
use Rattle.dcm_cli.specs.ErrorLines.{Reports, usage_line, usage_status}
use Rattle.dcm_cli.specs.InMemory as spec
use Rattle.dcm_cli.specs.InMemory.{Outcome, bytes_at, number_at, unopened, shown, not_opened, answered, key_of, unwritten, not_begun, without_key, without_days, ByDays, DaysCome, FirstComes, ended, JobComes, WholeComes, KeyComes, DeidentifyComes, PlanComesAs, ComesBy, Comes, HasRoom, Took, IsWritten, LeavesAnswer}
use Rattle.dcm_cli.specs.Program as program
use Rattle.dcm_cli.specs.Program.{RunsOver, Works, WorksAs, Shows, Obeys, unopened_line, unopened_status}
use Rattle.dcm_cli.proofs.Runs.InMemory.{memory_reader, memory_writer, memory_change, ran_left, text_left}
use Rattle.dcm_cli.proofs.Runs.LeftMemory.{room_there, room_fits, LeftOf, leave_of}
use Rattle.dcm_cli.proofs.Runs.OneAnswer.{one_answer, some_answer}
use Rattle.dcm_cli.proofs.Runs.OpenedMemory.{input_opened, output_made, room_given, no_room, NotOpened, by_input, by_output, DevicesAre}
use Rattle.dcm_cli.proofs.Runs.WholeMemory.{deidentified_left}

-- ---- both devices

module _ (s : MemSystem) (p : Plan) where
  abbrev Devices : MemSystem → Result (Opened MemIn × Opened Measured) Unopened → Type 0
  Devices after r = DevicesAre (bytes_at s p.input) (unopened s p) s.room s.written r after.written

  devices_are : (r : Result (Opened MemIn × Opened Measured) Unopened) (after : MemSystem) → OpensDevices may_do p.input p.output p.overwrites s r after → Devices after r
  devices_are r after (devices.no_input x u opens cause are) =
      let i = input_opened s p.input (Err x) after opens in
      subst (Devices after) (sym are) (by_input i.0.0 (cause.other i.0.1) (ap (λ (z : MemSystem). z.written) i.1))
  devices_are r after (devices.no_output d u had tried opens out released are) =
      let i = input_opened s p.input (Ok d) had opens in
      let o = output_made s p.output p.overwrites (number_at s p.input) d.kind i.0.1 (Err u) tried (subst (λ (z : MemSystem). OpensOutput may_do p.output p.overwrites d.kind z (Err u) tried) i.1 out) in
      subst (Devices after) (sym are) (by_output d.device.rest.now i.0.0 o.0 (ap (λ (z : MemSystem). z.written) released ∙ o.1))
  devices_are r after (devices.both d f had opens out are) =
      let i = input_opened s p.input (Ok d) had opens in
      let o = output_made s p.output p.overwrites (number_at s p.input) d.kind i.0.1 (Ok f) after (subst (λ (z : MemSystem). OpensOutput may_do p.output p.overwrites d.kind z (Ok f) after) i.1 out) in
      subst (Devices after) (sym are) (record { bytes_are = i.0.0; can_is = o.0.0; room_is = o.0.1 })

-- ---- what is left

module _ (s new : MemSystem) (errors new_errors : MemOut) (status : ℕ) where
  abbrev Left : Outcome → Type 0
  Left o = LeftOf s new errors new_errors status o

  abbrev e : Change
  e = memory_change errors new_errors

  -- an outcome of which all is known
  leave : (o : Outcome) → IsWritten o.output s new.written → Reports e o.lines → status ≡ o.status → Left o
  leave o is line was = leave_of s new errors new_errors status o is line was

  -- a job was run
  run_left : (p : Plan) (i : Opened MemIn) (d : Opened Measured) (had : MemSystem) (a : Answer) → s.room ≡ Some d.device.out → (d.device.out.failed ≡ false) × (length a.output ≤ room_of d.device.out)
      → Answers p.job i.device.rest.now a → RunsOver may_do memory_reader memory_writer p.job e i.device d.device had status new → Left (answered a)
  run_left p i d had a room fits answers (program.closed_with_loss input output ending x f back told was) = absurd (let no = back.closed.0 in cc)
  run_left p i d had a room fits answers (program.closed_well input output run back) =
      let l = ran_left p.job i.device d.device input output errors new_errors status run fits.0 a answers fits.1 in
      record {
        output_is = record {
          before = d.device.out;
          after = output.out;
          room_is = room;
          output_is = ap (λ (z : MemSystem). z.written) (back.released ∙ back.closed.1);
          bytes_are = l.output;
        };
        lines_are = λ room. l.lines room;
        status_is = l.status_is;
      }

  module _ (p : Plan) (o : Outcome) (comes : JobComes (bytes_at s p.input) (unopened s p) p.job o) (room : HasRoom o.output s.room) where
    -- the outcome, by what is known of the devices
    comes_at : (bytes : Option (List ℕ)) (because : Option Unopened) → bytes_at s p.input ≡ bytes → unopened s p ≡ because → JobComes bytes because p.job o
    comes_at bytes because a b =
        subst (λ (x : Option (List ℕ)). JobComes x because p.job o) a
        (subst (λ (x : Option Unopened). JobComes (bytes_at s p.input) x p.job o) b comes)

    left_as : (q : Outcome) → o ≡ q → Left q → Left o
    left_as q same l = subst Left (sym same) l

    -- an output that can be written is written in the room
    some_room : (bs : List ℕ) → JobComes (Some bs) None p.job o → s.room ≡ None → ⊥
    some_room bs c none = room_there c.0.output s.room (subst (λ (q : Outcome). HasRoom q.output s.room) c.2 room) none

    refused_left : (u : Unopened) → NotOpened (bytes_at s p.input) (unopened s p) s.room s.written u new.written → Reports e (unopened_line u) → status ≡ unopened_status u → Left o
    refused_left u (by_input none is after) line was =
        left_as not_opened (comes_at None (unopened s p) none refl)
        (leave not_opened after (subst (λ (v : Unopened). Reports e (unopened_line v)) is line) (was ∙ ap unopened_status is))
    refused_left u (by_output bs bytes (inl is) after) line was = left_as (not_begun u) (comes_at (Some bs) (Some u) bytes is) (leave (not_begun u) after line was)
    refused_left u (by_output bs bytes (inr none) after) line was = absurd (some_room bs (comes_at (Some bs) None bytes none.0) none.1)

    job_left : Works may_do memory_reader memory_writer p e s status new → Left o
    job_left (program.not_opened u opens line was) = refused_left u (devices_are s p (Err u) new opens) line was
    job_left (program.has_run i d had opens runs) =
        let x = devices_are s p (Ok (i, d)) had opens in
        let c = comes_at (Some i.device.rest.now) None x.bytes_are x.can_is in
        left_as (answered c.0) c.2
        (run_left p i d had c.0 x.room_is (room_fits c.0.output s.room d.device.out x.room_is (subst (λ (q : Outcome). HasRoom q.output s.room) c.2 room)) c.1 runs)

  -- a plan was followed, by its job
  module _ (p : Plan) (o : Outcome) (room : HasRoom o.output s.room) where
    abbrev Job_comes : Job → Type 0
    Job_comes job = JobComes (bytes_at s p.input) (unopened s p) job o

    plan_left : (job : Job) → p.job ≡ job → PlanComesAs job s p o → WorksAs job may_do memory_reader memory_writer p e s status new → Left o
    plan_left (dump d m b) is comes works = job_left p o (subst Job_comes (sym is) comes) room works
    plan_left (dump_decoded d m b) is comes works = job_left p o (subst Job_comes (sym is) comes) room works
    plan_left (dump_named x d m b n) is comes works = job_left p o (subst Job_comes (sym is) comes) room works
    plan_left (convert d t) is comes works = job_left p o (subst Job_comes (sym is) comes) room works
    plan_left (build l) is comes works = job_left p o (subst Job_comes (sym is) comes) room works
    plan_left (modify d es) is comes works = job_left p o (subst Job_comes (sym is) comes) room works
    plan_left (deidentify options reports key) is comes works = deidentified_left s new errors new_errors status p o room options reports comes works

  -- a text was shown
  shows_left : (topic : Topic) → HasRoom (shown topic).output s.room → Shows may_do memory_writer (text topic) e s status new → Left (shown topic)
  shows_left topic room (program.no_stdout x u gave cause line was) = absurd (room_there (text topic) s.room room (no_room s.room Other x gave.0).0)
  shows_left topic room (program.shows d output had gave puts closes) =
      let is = (room_given None s.room Other d refl gave.0).1 in
      let t = text_left d.device.out output.out e (text topic) status puts (room_fits (text topic) s.room d.device.out is room).1 in
      leave (shown topic)
      (record { before = d.device.out; after = output.out; room_is = is; output_is = ap (λ (z : MemSystem). z.written) closes.call.1; bytes_are = t.0 }) t.1 t.2

  -- nothing was opened
  refuses_left : (u : Usage) → Reports e (usage_line u) → status ≡ usage_status u → new ≡ s → Left (spec.refused u)
  refuses_left u line was same = leave (spec.refused u) (ap (λ (z : MemSystem). z.written) same) line was

  module _ (words : List (List ℕ)) (o : Outcome) (comes : Comes words s o) (room : HasRoom o.output s.room) where
    by : (topic : Option Topic) (plan : Result Plan Usage) → asked words ≡ topic → meant words ≡ plan → ComesBy topic plan s o
    by topic plan a m = subst (λ (x : Option Topic). ComesBy x plan s o) a (subst (λ (x : Result Plan Usage). ComesBy (asked words) x s o) m comes)

    pub obeys_left : Obeys may_do memory_reader memory_writer words e s status new → Left o ⊎ ((takes_memory words ≡ true) × Left (spec.refused Memory))
    obeys_left (program.asks topic is was_shown) =
        let same = by (Some topic) (meant words) is refl in
        inl (subst Left (sym same) (shows_left topic (subst (λ (q : Outcome). HasRoom q.output s.room) same room) was_shown))
    obeys_left (program.refused u none is line was same) = inl (subst Left (sym (by None (Err u) none is)) (refuses_left u line was same))
    obeys_left (program.no_memory none takes line was same) = inr (takes, refuses_left Memory line was same)
    obeys_left (program.worked p none is works) = inl (plan_left p o room p.job refl (by None (Ok p) none is) works)

-- ---- one outcome, and always one

module _ (s : MemSystem) where
  one_job : (bytes : Option (List ℕ)) (because : Option Unopened) (job : Job) (o q : Outcome) → JobComes bytes because job o → JobComes bytes because job q → o ≡ q
  one_job None because job o q a b = a ∙ sym b
  one_job (Some bs) (Some u) job o q a b = a ∙ sym b
  one_job (Some bs) None job o q a b = a.2 ∙ ap answered (one_answer job bs a.0 b.0 a.1 b.1) ∙ sym b.2

  one_whole : (bytes : Option (List ℕ)) (why : Option Unopened) (is_stream : Bool) (job : Job) (o q : Outcome) → WholeComes bytes why is_stream job o → WholeComes bytes why is_stream job q → o ≡ q
  one_whole None why is_stream job o q a b = a ∙ sym b
  one_whole (Some bs) (Some u) is_stream job o q a b = a ∙ sym b
  one_whole (Some bs) None is_stream job o q a b = a.2 ∙ ap (ended is_stream) (one_answer job bs a.0 b.0 a.1 b.1) ∙ sym b.2

  one_days : (end : FirstEnd) (p : Plan) (options : Options) (reports : Bool) (key : List ℕ) (o q : Outcome) → DaysCome end s p options reports key o → DaysCome end s p options reports key q → o ≡ q
  one_days (ends.Days days) p options reports key o q a b = one_whole (bytes_at s p.input) (unwritten s p) (bytes_eq p.output standard) (deidentify (with_days options days) reports key) o q a b
  one_days (ends.Refused stop) p options reports key o q a b = a ∙ sym b
  one_days (ends.Unread count) p options reports key o q a b = a ∙ sym b

  one_moved : (bytes : Option (List ℕ)) (number : Option ℕ) (p : Plan) (options : Options) (reports : Bool) (key : List ℕ) (o q : Outcome) → FirstComes bytes number s p options reports key o → FirstComes bytes number s p options reports key q → o ≡ q
  one_moved None number p options reports key o q a b = a ∙ sym b
  one_moved (Some bs) None p options reports key o q a b = a ∙ sym b
  one_moved (Some bs) (Some n) p options reports key o q a b =
      one_days b.0 p options reports key o q (subst (λ (end : FirstEnd). DaysCome end s p options reports key o) (one_first key bs a.0 b.0 a.1 b.1) a.2) b.2

  one_by_days : (by_key : Bool) (p : Plan) (options : Options) (reports : Bool) (key : List ℕ) (o q : Outcome) → ByDays by_key s p options reports key o → ByDays by_key s p options reports key q → o ≡ q
  one_by_days true p options reports key o q a b = one_moved (bytes_at s p.input) (number_at s p.input) p options reports key o q a b
  one_by_days false p options reports key o q a b = one_whole (bytes_at s p.input) (unwritten s p) (bytes_eq p.output standard) (deidentify options reports key) o q a b

  one_key : (key : Result (List ℕ) NoKey) (p : Plan) (options : Options) (reports : Bool) (o q : Outcome) → KeyComes key s p options reports o → KeyComes key s p options reports q → o ≡ q
  one_key (Err cause) p options reports o q a b = a ∙ sym b
  one_key (Ok key) p options reports o q a b = one_by_days p.days_by_key p options reports key o q a b

  one_deidentified : (path : Option (List ℕ)) (p : Plan) (options : Options) (reports : Bool) (o q : Outcome) → DeidentifyComes path s p options reports o → DeidentifyComes path s p options reports q → o ≡ q
  one_deidentified None p options reports o q a b = one_whole (bytes_at s p.input) (unwritten s p) (bytes_eq p.output standard) p.job o q a b
  one_deidentified (Some path) p options reports o q a b = one_key (key_of (bytes_at s path)) p options reports o q a b

  one_plan : (job : Job) (p : Plan) (o q : Outcome) → PlanComesAs job s p o → PlanComesAs job s p q → o ≡ q
  one_plan (dump d m t) p o q a b = one_job (bytes_at s p.input) (unopened s p) (dump d m t) o q a b
  one_plan (dump_decoded d m t) p o q a b = one_job (bytes_at s p.input) (unopened s p) (dump_decoded d m t) o q a b
  one_plan (dump_named x d m t n) p o q a b = one_job (bytes_at s p.input) (unopened s p) (dump_named x d m t n) o q a b
  one_plan (convert d t) p o q a b = one_job (bytes_at s p.input) (unopened s p) (convert d t) o q a b
  one_plan (build l) p o q a b = one_job (bytes_at s p.input) (unopened s p) (build l) o q a b
  one_plan (modify d es) p o q a b = one_job (bytes_at s p.input) (unopened s p) (modify d es) o q a b
  one_plan (deidentify options reports key) p o q a b = one_deidentified p.key p options reports o q a b

  one_by : (topic : Option Topic) (plan : Result Plan Usage) (o q : Outcome) → ComesBy topic plan s o → ComesBy topic plan s q → o ≡ q
  one_by (Some topic) plan o q a b = a ∙ sym b
  one_by None (Err u) o q a b = a ∙ sym b
  one_by None (Ok p) o q a b = one_plan p.job p o q a b

  pub one_outcome : (words : List (List ℕ)) (o q : Outcome) → Comes words s o → Comes words s q → o ≡ q
  one_outcome words o q a b = one_by (asked words) (meant words) o q a b

  some_job : (bytes : Option (List ℕ)) (because : Option Unopened) (job : Job) → (o : Outcome) × JobComes bytes because job o
  some_job None because job = (not_opened, refl)
  some_job (Some bs) (Some u) job = (not_begun u, refl)
  some_job (Some bs) None job = let a = some_answer job bs in (answered a.0, (a.0, a.1, refl))

  some_whole : (bytes : Option (List ℕ)) (why : Option Unopened) (is_stream : Bool) (job : Job) → (o : Outcome) × WholeComes bytes why is_stream job o
  some_whole None why is_stream job = (not_opened, refl)
  some_whole (Some bs) (Some u) is_stream job = (not_begun u, refl)
  some_whole (Some bs) None is_stream job = let a = some_answer job bs in (ended is_stream a.0, (a.0, a.1, refl))

  some_days : (end : FirstEnd) (p : Plan) (options : Options) (reports : Bool) (key : List ℕ) → (o : Outcome) × DaysCome end s p options reports key o
  some_days (ends.Days days) p options reports key = some_whole (bytes_at s p.input) (unwritten s p) (bytes_eq p.output standard) (deidentify (with_days options days) reports key)
  some_days (ends.Refused stop) p options reports key = (without_days (no_days.Refused stop), refl)
  some_days (ends.Unread count) p options reports key = (without_days (no_days.Unread count), refl)

  some_moved : (bytes : Option (List ℕ)) (number : Option ℕ) (p : Plan) (options : Options) (reports : Bool) (key : List ℕ) → (o : Outcome) × FirstComes bytes number s p options reports key o
  some_moved None number p options reports key = (without_days no_days.Unopened, refl)
  some_moved (Some bs) None p options reports key = (without_days no_days.NotRegular, refl)
  some_moved (Some bs) (Some n) p options reports key =
      let first = some_first key bs in
      let o = some_days first.0 p options reports key in
      (o.0, (first.0, first.1, o.1))

  some_by_days : (by_key : Bool) (p : Plan) (options : Options) (reports : Bool) (key : List ℕ) → (o : Outcome) × ByDays by_key s p options reports key o
  some_by_days true p options reports key = some_moved (bytes_at s p.input) (number_at s p.input) p options reports key
  some_by_days false p options reports key = some_whole (bytes_at s p.input) (unwritten s p) (bytes_eq p.output standard) (deidentify options reports key)

  some_key : (key : Result (List ℕ) NoKey) (p : Plan) (options : Options) (reports : Bool) → (o : Outcome) × KeyComes key s p options reports o
  some_key (Err cause) p options reports = (without_key cause, refl)
  some_key (Ok key) p options reports = some_by_days p.days_by_key p options reports key

  some_deidentified : (path : Option (List ℕ)) (p : Plan) (options : Options) (reports : Bool) → (o : Outcome) × DeidentifyComes path s p options reports o
  some_deidentified None p options reports = some_whole (bytes_at s p.input) (unwritten s p) (bytes_eq p.output standard) p.job
  some_deidentified (Some path) p options reports = some_key (key_of (bytes_at s path)) p options reports

  some_plan : (job : Job) (p : Plan) → (o : Outcome) × PlanComesAs job s p o
  some_plan (dump d m t) p = some_job (bytes_at s p.input) (unopened s p) (dump d m t)
  some_plan (dump_decoded d m t) p = some_job (bytes_at s p.input) (unopened s p) (dump_decoded d m t)
  some_plan (dump_named x d m t n) p = some_job (bytes_at s p.input) (unopened s p) (dump_named x d m t n)
  some_plan (convert d t) p = some_job (bytes_at s p.input) (unopened s p) (convert d t)
  some_plan (build l) p = some_job (bytes_at s p.input) (unopened s p) (build l)
  some_plan (modify d es) p = some_job (bytes_at s p.input) (unopened s p) (modify d es)
  some_plan (deidentify options reports key) p = some_deidentified p.key p options reports

  some_by : (topic : Option Topic) (plan : Result Plan Usage) → (o : Outcome) × ComesBy topic plan s o
  some_by (Some topic) plan = (shown topic, refl)
  some_by None (Err u) = (spec.refused u, refl)
  some_by None (Ok p) = some_plan p.job p

  pub some_outcome : (words : List (List ℕ)) → (o : Outcome) × Comes words s o
  some_outcome words = some_by (asked words) (meant words)

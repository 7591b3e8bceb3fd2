-- What is sure of a beginning stands at the front of the output.
use Rattle.dcm_words.specs.Plans.{named_as}
use Rattle.dcm_cli.proofs.Passes.NamedJobs.{of_named}
use Rattle.std.proofs.Common.{◌≡◌, ◌∙◌, ap, sym, subst, ℕ, ◌+◌, ◌≤◌, ◌<◌, List, [], ◌++◌, append_assoc, length, drop, Bool, Option, None, Some, refl, arith, true, false, inl, inr}
use Rattle.std.specs.Prelude.{◌⊎◌, nat_eq}
use Rattle.std.proofs.lemmas.List.{append-nil, drop-append-le}
use Rattle.std.proofs.lemmas.Bool.Decides.{nat_tests}
use Rattle.dcm_base.specs.declared.mode.Mode.{Mode}
use Rattle.dcm_base.specs.Lines.Build.{built}
use Rattle.dcm_base.specs.declared.syntax.Syntax.{Syntax}
use Rattle.dcm_base.specs.declared.syntax.Coding.{Coding}
use Rattle.dcm_base.specs.Dump.Dump.{dump_front}
use Rattle.dcm_base.specs.Tree.Front.{Front}
use Rattle.dcm_base.specs.Dump.Header.{set_header}
use Rattle.dcm_base.specs.File.MetaReads.{Meta, MetaAnswer, MetaReads, begins, refused as meta_refused, is_undecided as meta_undecided}
use Rattle.dcm_base.specs.Reading.Reads.{INPUT_LIMIT, Reads, ended}
use Rattle.dcm_base.specs.Reading.Stop.{Bar, Stop, refused, is_undecided}
use Rattle.dcm_edits.specs.Edit.{Edit}
use Rattle.dcm_edits.specs.Meaning.{AreMeant}
use Rattle.dcm_deid.specs.declared.fate.Options.{Options}
use Rattle.dcm_words.specs.declared.job.Texts.{Texts}
use Rattle.dcm_words.specs.declared.job.Texts.TheVariants.{Bytes, Characters}
use Rattle.dcm_words.specs.Words.{Job, dump, dump_decoded, dump_named, Named, dump_as, convert, build as building, modify, deidentify}
use Rattle.dcm_base.proofs.DataSets.OneAnswer.{reads_once}
use Rattle.dcm_base.specs.Tables.Syntax.{read_by, coding_by}
use Rattle.dcm_base.specs.declared.dictionary.Dictionary.{Dictionary}
use Rattle.dcm_base.specs.declared.dictionary.Dictionary.TheVariants.{Extract}
use Rattle.dcm_head.specs.declared.meta_read.MetaEnd.{MetaEnd}
use Rattle.dcm_head.specs.MetaReading.{Reading, HasEnded, Says, meta_finished}
use Rattle.dcm_head.proofs.HeadReading.State.{described}
use Rattle.dcm_head.proofs.HeadReading.Answers.{told}
use Rattle.dcm_head.proofs.MetaGroups.OneMeta.{one_meta}
use Rattle.dcm_stream.specs.Reading.{finish}
use Rattle.dcm_words.specs.declared.job.Job.{Job as RunJob}
use Rattle.dcm_words.specs.declared.job.Job.TheVariants.{Dump, Convert, Build, Modify, Deidentify}
use Rattle.dcm_words.specs.Plans.{job_of}
use Rattle.dcm_cli.specs.Answer.{job_dictionary, Answer, Answers, Sure, ReadAnswers, Source, answer, going_on, job_bar, refuses_change, file_output, AloneReads, AloneSure, FileReads, FileSure, not_opened, not_changed, opened as was_opened, before_set, within_set}
use Rattle.dcm_head.specs.SyntaxUids.{uid_of_syntax}
use Rattle.dcm_cli.specs.Pass.{head_read}
use Rattle.dcm_cli.specs.Run.{IsMeant}
use Rattle.dcm_cli.proofs.Passes.Makers.{Maker, dumper, made, made_output, last_output, more_made, waits_as, made_behind}
use Rattle.dcm_cli.proofs.Passes.Sets.{all_read, going_back}
use Rattle.dcm_cli.proofs.Passes.MetaHeads.{opened, same_head, ended_stays, finished_same, group_spelled}
use Rattle.dcm_cli.proofs.Runs.LinesGrow.{sure_lines_grow, answer_output}
use Rattle.dcm_base.specs.Reading.Bars.{no_bar}
use Rattle.dcm_cli.proofs.Passes.Alone.{AloneMaker, alone_dumper, alone_decoder, alone_namer}
use Rattle.dcm_cli.proofs.Passes.Files.{FileMaker, file_dumper, file_decoder, file_namer, file_encoder}
use Rattle.dcm_cli.proofs.Passes.MakesEdits.{file_editor}
use Rattle.dcm_cli.proofs.Passes.MakesDeidentified.{file_deidentifier}

-- ---- a data set

module _ {bar : Bar} {text : Front → List ℕ} (m : Maker bar text) (s : Syntax) (start : ℕ) (le : start ≤ INPUT_LIMIT) where
  -- the machine goes on where more bytes may come to another end
  not_halted : (p : List ℕ) (f : Front) (stop : Stop) → Reads bar s start p f stop → is_undecided (Some stop) ≡ true → (made m s start p).0.halt ≡ None
  not_halted p f stop reads undecided =
      let d = m.drives s start p le in
      elim d.followed [
        | inl h ↦ ap (λ q. q.0.halt) d.driven_is ∙ h.going
        | inr h ↦
            let here : Reads bar s start p h.f (refused h.fault h.offset) = subst (λ (x : List ℕ). Reads bar s start x h.f (refused h.fault h.offset)) (append-nil p) (h.reads []) in
            let one = reads_once bar s start p h.f f (refused h.fault h.offset) stop here reads in
            let no : false ≡ true = sym h.decided ∙ ap (λ (x : Stop). is_undecided (Some x)) one.1 ∙ undecided in
            absurd (cc)
      ]

  pub set_grows : (p later : List ℕ) (f g : Front) (stop end : Stop) → Reads bar s start p f stop → is_undecided (Some stop) ≡ true → Reads bar s start (p ++ later) g end → (rest : List ℕ) × (text g ≡ text (going_on f) ++ rest)
  set_grows p later f g stop end reads undecided others =
      let w = waits_as m s start p le (not_halted p f stop reads undecided) in
      let at = finish (made m s start p).0 in
      let one = reads_once bar s start p (ended at w.f) f at stop w.reads reads in
      let same : going_on f ≡ w.f = ap going_on (sym one.0) ∙ going_back at w.f w.not_closed in
      let out : made_output m s start p ≡ text (going_on f) = w.output ∙ m.so_far s start p w.f at le w.not_closed w.reads ∙ ap text (sym same) in
      let a = all_read m s start le (p ++ later) in
      let two = reads_once bar s start (p ++ later) a.0 g a.1 end a.2 others in
      let more = more_made m s start p later in
      let last = last_output m s start (p ++ later) in (
        more ++ last,
        ap text (sym two.0) ∙ sym a.4
            ∙ ap (λ (bs : List ℕ). bs ++ last) (made_behind m s start p later)
            ∙ ap (λ (bs : List ℕ). (bs ++ more) ++ last) out ∙ append_assoc (text (going_on f)) more last,
      )

-- behind a header
behind : (header whole part rest : List ℕ) → whole ≡ part ++ rest → header ++ whole ≡ (header ++ part) ++ rest
behind header whole part rest e = ap (λ (bs : List ℕ). header ++ bs) e ∙ sym (append_assoc header part rest)

pub alone_grows : (job : Job) (s : Syntax) (k : AloneMaker job s) (p later out : List ℕ) (f g : Front) (stop end : Stop) (a : Answer) → Reads no_bar s 0 p f stop → is_undecided (Some stop) ≡ true → out ≡ k.header ++ k.text (going_on f)
    → Reads no_bar s 0 (p ++ later) g end → a.output ≡ k.header ++ k.text g → (rest : List ℕ) × (a.output ≡ out ++ rest)
alone_grows job s k p later out f g stop end a reads undecided out_is others is =
    let more = set_grows k.maker s 0 (omega arith) p later f g stop end reads undecided others in
    (more.0, is ∙ behind k.header (k.text g) (k.text (going_on f)) more.0 more.1 ∙ ap (λ (bs : List ℕ). bs ++ more.0) (sym out_is))

-- ---- a file

apart : (m n : ℕ) → m < n → nat_eq m n ≡ true → ⊥
apart m n less e = grind (arith, nat_tests, less, e)

pub beginnings_alike : (m n : Meta) (group others : List ℕ) (coding other : Coding) → begins m group coding ≡ begins n others other → (m ≡ n) × (group ≡ others) × (coding ≡ other)
beginnings_alike m n group others coding other e = (cc, cc, cc)

-- a head that two bytes have ended stays
module _ (p later : List ℕ) (m : Meta) (group : List ℕ) (named : Coding) (reads : MetaReads p (begins m group named)) (less : 132 + length group < length p) where
  stays_by : (answer : MetaAnswer) → answer ≡ begins m group named → Says (meta_finished (head_read p)) answer
      → ((meta_undecided (length p) answer ≡ true) × ((head_read p).end ≡ None)) ⊎ ((meta_undecided (length p) answer ≡ false) × (end : MetaEnd) × ((head_read p).end ≡ Some end)) → MetaReads (p ++ later) (begins m group named)
  stays_by answer is said (inl x) = absurd (apart (132 + length group) (length p) less (ap (meta_undecided (length p)) (sym is) ∙ x.0))
  stays_by answer is said (inr x) =
      let r : Reading = head_read p in
      let fin : meta_finished r ≡ r = finished_same r x.1 x.2 in
      let says : Says r (begins m group named) = subst (λ (y : Reading). Says y (begins m group named)) fin (subst (Says (meta_finished r)) is said) in
      let still : head_read (p ++ later) ≡ r = ended_stays r p later x.1 refl x.2 in
      same_head Extract r p (p ++ later) m group named reads says (opened Extract r (p ++ later) (ap meta_finished still ∙ fin) (subst HasEnded (sym says.0) tt))

  stays : MetaReads (p ++ later) (begins m group named)
  stays =
      let t = told (head_read p) p (described p) in
      stays_by t.answer (one_meta p t.answer (begins m group named) t.reads reads) t.said t.going

  module _ (job : Job) (coding : Coding) (coding_is : coding ≡ coding_by (job_dictionary job) named) (k : FileMaker job coding) where
    abbrev SetReads : List ℕ → Front → Stop → Type 0
    SetReads bytes f stop = Reads (job_bar job coding) coding.syntax (132 + length group) (drop (132 + length group) bytes) f stop

    set_within : (f g : Front) (stop end : Stop) → SetReads p f stop → is_undecided (Some stop) ≡ true → SetReads (p ++ later) g end → (rest : List ℕ) × (file_output job m coding g ≡ file_output job m coding (going_on f) ++ rest)
    set_within f g stop end reads_f undecided reads_g =
        let small = (group_spelled p m group named reads).2 in
        let split : drop (132 + length group) (p ++ later) ≡ drop (132 + length group) p ++ later = drop-append-le (132 + length group) p later (omega (arith, less)) in
        let more = set_grows k.maker coding.syntax (132 + length group) (omega (arith, small)) (drop (132 + length group) p) later f g stop end reads_f undecided
        (subst (λ (bs : List ℕ). Reads (job_bar job coding) coding.syntax (132 + length group) bs g end) split reads_g) in (
          more.0,
          k.output_is m g ∙ behind (k.header m) (k.text g) (k.text (going_on f)) more.0 more.1 ∙ ap (λ (bs : List ℕ). bs ++ more.0) (sym (k.output_is m (going_on f))),
        )

    file_within : (kept : refuses_change job coding ≡ false) (f : Front) (stop : Stop) → SetReads p f stop → is_undecided (Some stop) ≡ true → (source : Source) → FileReads job (p ++ later) source
        → (rest : List ℕ) × ((answer job source).output ≡ file_output job m coding (going_on f) ++ rest)
    file_within kept f stop reads_f undecided source (not_opened fault offset head said) =
        absurd (let no : meta_refused fault offset ≡ begins m group named = one_meta (p ++ later) (meta_refused fault offset) (begins m group named) head stays in cc)
    file_within kept f stop reads_f undecided source (not_changed m' group' coding' head changed said) =
        let one = beginnings_alike m' m group' group head.named named (one_meta (p ++ later) (begins m' group' head.named) (begins m group named) head.head stays) in
        let codings : coding' ≡ coding = head.coding_is ∙ ap (coding_by (job_dictionary job)) one.2 ∙ sym coding_is in
        absurd (let no : false ≡ true = sym kept ∙ ap (refuses_change job) (sym codings) ∙ changed in cc)
    file_within kept f stop reads_f undecided source (was_opened m' group' coding' g end head kept' reads_g said) =
        let one = beginnings_alike m' m group' group head.named named (one_meta (p ++ later) (begins m' group' head.named) (begins m group named) head.head stays) in
        let codings : coding' ≡ coding = head.coding_is ∙ ap (coding_by (job_dictionary job)) one.2 ∙ sym coding_is in
        let there : SetReads (p ++ later) g end = subst (λ (c : Coding). Reads (job_bar job c) c.syntax (132 + length group) (drop (132 + length group) (p ++ later)) g end) codings
        (subst (λ (bs : List ℕ). Reads (job_bar job coding') coding'.syntax (132 + length bs) (drop (132 + length bs) (p ++ later)) g end) one.1 reads_g) in
        let more = set_within f g stop end reads_f undecided there in (
          more.0,
          ap (λ (z : Source). (answer job z).output) said ∙ ap (λ (n : Meta). file_output job n coding' g) one.0 ∙ ap (λ (c : Coding). file_output job m c g) codings ∙ more.1,
        )

pub file_grows : (job : Job) → ((coding : Coding) → FileMaker job coding) → (p later out : List ℕ) (a : Answer) (source : Source) → FileSure job p out → a ≡ answer job source → FileReads job (p ++ later) source → (rest : List ℕ) × (a.output ≡ out ++ rest)
file_grows job k p later out a source (before_set said reads undecided none) is x = (a.output, ap (λ (bs : List ℕ). bs ++ a.output) (sym none))
file_grows job k p later out a source (within_set m group coding set stop head less kept reads undecided out_is) is x =
    let more = file_within p later m group head.named head.head less job coding head.coding_is (k coding) kept set stop reads undecided source x in
    (more.0, ap (λ (b : Answer). b.output) is ∙ more.1 ∙ ap (λ (bs : List ℕ). bs ++ more.0) (sym out_is))

-- ---- any input

dump_grows : (d : Dictionary) (mode : Mode) (bare : Option Syntax) (p later out : List ℕ) (a : Answer) → Sure (dump d mode bare) p out → Answers (dump d mode bare) (p ++ later) a → (rest : List ℕ) × (a.output ≡ out ++ rest)
dump_grows d mode None p later out a sure x = file_grows (dump d mode None) (file_dumper d mode) p later out a x.source sure x.answer_is x.reads
dump_grows d mode (Some bare) p later out a sure x =
    let s : Syntax = read_by d bare in
    let r : AloneReads s (p ++ later) x.source = x.reads in
    alone_grows (dump d mode (Some bare)) s (alone_dumper d mode bare) p later out sure.set r.set sure.stop r.stop a sure.reads sure.open_end sure.out_is r.reads
    (ap (λ (b : Answer). b.output) x.answer_is ∙ ap (λ (z : Source). (answer (dump d mode (Some bare)) z).output) r.source_is)

decoded_grows : (d : Dictionary) (mode : Mode) (bare : Option Syntax) (p later out : List ℕ) (a : Answer) → Sure (dump_decoded d mode bare) p out → Answers (dump_decoded d mode bare) (p ++ later) a → (rest : List ℕ) × (a.output ≡ out ++ rest)
decoded_grows d mode None p later out a sure x = file_grows (dump_decoded d mode None) (file_decoder d mode) p later out a x.source sure x.answer_is x.reads
decoded_grows d mode (Some bare) p later out a sure x =
    let s : Syntax = read_by d bare in
    let r : AloneReads s (p ++ later) x.source = x.reads in
    alone_grows (dump_decoded d mode (Some bare)) s (alone_decoder d mode bare) p later out sure.set r.set sure.stop r.stop a sure.reads sure.open_end sure.out_is r.reads
    (ap (λ (b : Answer). b.output) x.answer_is ∙ ap (λ (z : Source). (answer (dump_decoded d mode (Some bare)) z).output) r.source_is)

-- by how texts are shown
named_grows : (texts : Texts) (d : Dictionary) (mode : Mode) (bare : Option Syntax) (n : Named) (p later out : List ℕ) (a : Answer) → Sure (dump_named texts d mode bare n) p out → Answers (dump_named texts d mode bare n) (p ++ later) a → (rest : List ℕ) × (a.output ≡ out ++ rest)
named_grows texts d mode None n p later out a sure x = file_grows (dump_named texts d mode None n) (file_namer texts d mode n) p later out a x.source sure x.answer_is x.reads
named_grows texts d mode (Some bare) n p later out a sure x =
    let s : Syntax = read_by d bare in
    let r = x.reads in
    alone_grows (dump_named texts d mode (Some bare) n) s (alone_namer texts d mode n bare) p later out sure.set r.set sure.stop r.stop a sure.reads sure.open_end sure.out_is r.reads
    (ap (λ (b : Answer). b.output) x.answer_is ∙ ap (λ (z : Source). (answer (dump_named texts d mode (Some bare) n) z).output) r.source_is)

-- by how texts are shown
dumped_grows : (texts : Texts) (d : Dictionary) (mode : Mode) (bare : Option Syntax) (p later out : List ℕ) (a : Answer) → Sure (dump_as texts d mode bare) p out → Answers (dump_as texts d mode bare) (p ++ later) a → (rest : List ℕ) × (a.output ≡ out ++ rest)
dumped_grows Bytes d mode bare p later out a sure x = dump_grows d mode bare p later out a sure x
dumped_grows Characters d mode bare p later out a sure x = decoded_grows d mode bare p later out a sure x

-- lines that are built
build_grows : (limit : ℕ) (p later out : List ℕ) (a : Answer) → Sure (building limit) p out → Answers (building limit) (p ++ later) a → (rest : List ℕ) × (a.output ≡ out ++ rest)
build_grows limit p later out a sure x =
    let more = sure_lines_grow limit p later out sure in
    (more.0, ap (λ (b : Answer). b.output) x ∙ answer_output (built limit (p ++ later)) ∙ more.1)

-- a file that is edited
modify_grows : (d : Dictionary) (edits : List Edit) → AreMeant edits → (p later out : List ℕ) (a : Answer) → Sure (modify d edits) p out → Answers (modify d edits) (p ++ later) a → (rest : List ℕ) × (a.output ≡ out ++ rest)
modify_grows d edits meant p later out a sure x = file_grows (modify d edits) (file_editor d edits meant) p later out a x.source sure x.answer_is x.reads

-- a file without identity
deidentify_grows : (options : Options) (reports : Bool) (key : List ℕ) (p later out : List ℕ) (a : Answer) → Sure (deidentify options reports key) p out → Answers (deidentify options reports key) (p ++ later) a → (rest : List ℕ) × (a.output ≡ out ++ rest)
deidentify_grows options reports key p later out a sure x = file_grows (deidentify options reports key) (file_deidentifier options key reports) p later out a x.source sure x.answer_is x.reads

pub sure_grows : {A : Type 0} (job : RunJob A) (p later out : List ℕ) (a : Answer) → IsMeant (job_of job) → Sure (job_of job) p out → Answers (job_of job) (p ++ later) a → (rest : List ℕ) × (a.output ≡ out ++ rest)
sure_grows (Dump d) p later out a meant sure x =
    let n = named_as d.named in
    of_named (λ (j : Job). Sure j p out → Answers j (p ++ later) a → (rest : List ℕ) × (a.output ≡ out ++ rest)) n d.texts d.dictionary d.mode d.bare (dumped_grows d.texts d.dictionary d.mode d.bare p later out a) (named_grows d.texts d.dictionary d.mode d.bare n p later out a) sure x
sure_grows (Convert c) p later out a meant sure x = file_grows (convert c.dictionary c.target) (file_encoder c.dictionary c.target) p later out a x.source sure x.answer_is x.reads
sure_grows (Build b) p later out a meant sure x = build_grows b.limit p later out a sure x
sure_grows (Modify m) p later out a meant sure x = modify_grows m.dictionary m.edits meant p later out a sure x
sure_grows (Deidentify d) p later out a meant sure x = deidentify_grows d.options d.reports d.key.items p later out a sure x

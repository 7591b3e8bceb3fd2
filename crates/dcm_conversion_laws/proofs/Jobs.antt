-- What jobs answer to an explicit file that says of itself what it holds, by each dictionary.
use Rattle.std.proofs.Common.{◌≡◌, ◌∙◌, ap, sym, subst, refl, ℕ, ◌≤◌, List, [], ◌++◌, drop, Option, None, Some, true, arith, inl, inr, ◌⊎◌}
use Rattle.dcm_base.proofs.DataSets.After.{read_by_twice}
use Rattle.dcm_base.proofs.DataSets.Alike.{read_by_dictionary}
use Rattle.dcm_base.specs.declared.dictionary.Dictionary.{Dictionary}
use Rattle.dcm_base.specs.declared.dictionary.Dictionary.TheVariants.{Extract}
use Rattle.dcm_base.specs.declared.fault.Fault.{Fault}
use Rattle.dcm_base.specs.declared.fault.Fault.TheVariants.{CannotChange, NotAscending, TooDeep}
use Rattle.dcm_base.specs.declared.length.Length.TheVariants.{Undefined}
use Rattle.dcm_base.specs.declared.mode.Mode.{Mode}
use Rattle.dcm_base.specs.declared.syntax.Coding.{Coding}
use Rattle.dcm_base.specs.declared.syntax.Syntax.{Syntax}
use Rattle.dcm_base.specs.declared.syntax.Syntax.TheVariants.{Implicit as implicit_in, Little as little_in, Big as big_in}
use Rattle.dcm_base.specs.declared.tag.Tag.{Tag}
use Rattle.dcm_base.specs.declared.vr.Vr.TheVariants.{SQ}
use Rattle.dcm_base.specs.Conversion.NewMeta.{new_meta}
use Rattle.dcm_base.specs.Conversion.Recode.{head as head_bytes, is_explicit, item_head, recode, recode_open, recode_open_item, unless_dropped}
use Rattle.dcm_base.specs.File.MetaReads.{Meta, PREFIX}
use Rattle.dcm_base.specs.Dump.Dump.{dump_front}
use Rattle.dcm_base.specs.Dump.Header.{set_header}
use Rattle.dcm_base.specs.Reading.Bars.{target_bar}
use Rattle.dcm_base.specs.Reading.Reads.{INPUT_LIMIT, Reads}
use Rattle.dcm_base.specs.Reading.Stop.{Bar, Stop, complete, refused}
use Rattle.dcm_base.specs.Tables.Syntax.{Little, coding_by, read_by}
use Rattle.dcm_base.specs.Tree.Front.{Front, front, OpenItem, OpenTree, no_open_item, nothing_open, open_fragments, open_item, open_leaf, open_sequence}
use Rattle.dcm_base.proofs.Conversions.NormalForm.{items_by, recode_by}
use Rattle.dcm_conversion_laws.proofs.Kept.{explicit_by}
use Rattle.dcm_edits.specs.Edit.{Edit, edited}
use Rattle.dcm_sinks.proofs.DecodedDumps.PlainTexts.{both_lines}
use Rattle.dcm_words.specs.Words.{Job, convert, dump, modify}
use Rattle.dcm_cli.specs.Answer.{AloneReads, Answer, Answers, FileReads, HeadIs, InputReads, Source, alone, answer, file as a_file, job_bar, job_dictionary, not_changed, not_opened, opened, output_of, reading_line, refuses_change, set_at, stop_line, stop_status, target_syntax, target_uid, unopened}
use Rattle.dcm_head.specs.SyntaxUids.{uid_of_syntax}
use Rattle.dcm_cli.proofs.Runs.OneAnswer.{one_answer}
use Rattle.dcm_run_laws.proofs.ReadBack.ReadsAgain.{begins_within}
use Rattle.dcm_conversion_laws.specs.Agree.{FrontSays, LinesSo, SourceSays, StopsSo}
use Rattle.dcm_conversion_laws.proofs.Readings.{ascending_agree, readings_agree}

-- ---- what is written depends on no dictionary

opened_alike : (t : Tag) (before a b x y : List ℕ) → a ≡ b → x ≡ y → unless_dropped t (before ++ a ++ x) ≡ unless_dropped t (before ++ b ++ y)
opened_alike t before a b x y e f = cc

mutual
  unfolding recode

  front_by : (e : Dictionary) (s : Syntax) (f : Front) → recode (read_by e s) f ≡ recode s f
  front_by e s (front whole last reached closed) = both_lines _ _ _ _ (recode_by e s whole) (open_by e s last)

  open_by : (e : Dictionary) (s : Syntax) (o : OpenTree) → recode_open (read_by e s) o ≡ recode_open s o
  open_by e s nothing_open = refl
  open_by e (implicit_in d) (open_leaf t vr size v) = refl
  open_by e (little_in d) (open_leaf t vr size v) = refl
  open_by e (big_in d) (open_leaf t vr size v) = refl
  open_by e (implicit_in d) (open_sequence t vr size items last) = opened_alike t (head_bytes (implicit_in d) t SQ Undefined) _ _ _ _ (items_by e (implicit_in d) items) (open_item_by e (implicit_in d) last)
  open_by e (little_in d) (open_sequence t vr size items last) = opened_alike t (head_bytes (little_in d) t SQ Undefined) _ _ _ _ (items_by e (little_in d) items) (open_item_by e (little_in d) last)
  open_by e (big_in d) (open_sequence t vr size items last) = opened_alike t (head_bytes (big_in d) t SQ Undefined) _ _ _ _ (items_by e (big_in d) items) (open_item_by e (big_in d) last)
  open_by e (implicit_in d) (open_fragments t vr values None) = refl
  open_by e (little_in d) (open_fragments t vr values None) = refl
  open_by e (big_in d) (open_fragments t vr values None) = refl
  open_by e (implicit_in d) (open_fragments t vr values (Some v)) = refl
  open_by e (little_in d) (open_fragments t vr values (Some v)) = refl
  open_by e (big_in d) (open_fragments t vr values (Some v)) = refl

  open_item_by : (e : Dictionary) (s : Syntax) (o : OpenItem) → recode_open_item (read_by e s) o ≡ recode_open_item s o
  open_item_by e s no_open_item = refl
  open_item_by e (implicit_in d) (open_item size set) = ap (λ (x : List ℕ). item_head (implicit_in d) Undefined ++ x) (front_by e (implicit_in d) set)
  open_item_by e (little_in d) (open_item size set) = ap (λ (x : List ℕ). item_head (little_in d) Undefined ++ x) (front_by e (little_in d) set)
  open_item_by e (big_in d) (open_item size set) = ap (λ (x : List ℕ). item_head (big_in d) Undefined ++ x) (front_by e (big_in d) set)

written_by : (e : Dictionary) (s k : Syntax) (f : Front) → k ≡ read_by e s → recode k f ≡ recode s f
written_by e s k f to = ap (λ (x : Syntax). recode x f) to ∙ front_by e s f

to_by : (e : Dictionary) (target : Option Syntax) (named : Coding) → target_syntax target (coding_by e named) ≡ read_by e (target_syntax target (coding_by Extract named))
to_by e None named = sym (read_by_twice e Extract named.syntax)
to_by e (Some s) named =
    ap (λ (d : Dictionary). read_by d s) (read_by_dictionary e named.syntax) ∙ sym (read_by_twice e Extract s) ∙ ap (λ (d : Dictionary). read_by e (read_by d s)) (sym (read_by_dictionary Extract named.syntax))

-- ---- one file, read by both

-- an input is refused before its data set, or its data set is read alike
data ReadSo (Near : Stop → Stop → Type 0) (e : Dictionary) (x y : Source) : Type 0 where
  closed : (fault : Fault) (offset : ℕ) → x ≡ unopened fault offset → y ≡ unopened fault offset → ReadSo Near e x y
  in_file : (m : Meta) (named : Coding) (f : Front) (stop other : Stop) → Near stop other → x ≡ a_file m (coding_by Extract named) f stop → y ≡ a_file m (coding_by e named) f other → ReadSo Near e x y
  by_itself : (s : Syntax) (f : Front) (stop : Stop) → x ≡ alone (read_by Extract s) f stop → y ≡ alone (read_by e s) f stop → ReadSo Near e x y

-- a job that reads data sets alike by both dictionaries
record SetsSo (Near : Stop → Stop → Type 0) (e : Dictionary) (job : Dictionary → Job) : Type 0 where
  by : (d : Dictionary) → job_dictionary (job d) ≡ d
  refuses : (c : Coding) → refuses_change (job e) (coding_by e c) ≡ refuses_change (job Extract) (coding_by Extract c)
  sets : (c : Coding) (start : ℕ) (bytes : List ℕ) (f : Front) (stop : Stop) → start ≤ INPUT_LIMIT → is_explicit c.syntax ≡ true → Reads (job_bar (job Extract) (coding_by Extract c)) (read_by Extract c.syntax) start bytes f stop → FrontSays e f
      → (other : Stop) × Reads (job_bar (job e) (coding_by e c)) (read_by e c.syntax) start bytes f other × Near stop other

module _ (Near : Stop → Stop → Type 0) (e : Dictionary) (job : Dictionary → Job) (k : SetsSo Near e job) (input : List ℕ) (source : Source) where
  -- the head by the extract is one by the other dictionary
  named_by : (m : Meta) (group : List ℕ) (coding : Coding) (h : HeadIs (job_dictionary (job Extract)) input m group coding) → coding ≡ coding_by Extract h.named
  named_by m group coding h = h.coding_is ∙ ap (λ (d : Dictionary). coding_by d h.named) (k.by Extract)

  other_head : (m : Meta) (group : List ℕ) (coding : Coding) (h : HeadIs (job_dictionary (job Extract)) input m group coding) → HeadIs (job_dictionary (job e)) input m group (coding_by e h.named)
  other_head m group coding h = record { named = h.named; head = h.head; coding_is = ap (λ (d : Dictionary). coding_by d h.named) (sym (k.by e)) }

  other_refuses : (m : Meta) (group : List ℕ) (coding : Coding) (h : HeadIs (job_dictionary (job Extract)) input m group coding) → refuses_change (job e) (coding_by e h.named) ≡ refuses_change (job Extract) coding
  other_refuses m group coding h = k.refuses h.named ∙ ap (refuses_change (job Extract)) (sym (named_by m group coding h))

  read_so : FileReads (job Extract) input source → SourceSays e source → (other : Source) × FileReads (job e) input other × ReadSo Near e source other
  read_so (not_opened fault offset h is) says = (unopened fault offset, not_opened fault offset h refl, closed fault offset is refl)
  read_so (not_changed m group coding h refuses is) says =
      (unopened CannotChange (set_at group), not_changed m group (coding_by e h.named) (other_head m group coding h) (other_refuses m group coding h ∙ refuses) refl, closed CannotChange (set_at group) is refl)
  read_so (opened m group coding f stop h keeps reads is) says =
      let own : (is_explicit coding.syntax ≡ true) × FrontSays e f = subst (SourceSays e) is says in
      let named : Coding = h.named in
      let c : coding ≡ coding_by Extract named = named_by m group coding h in
      let bytes : List ℕ = drop (set_at group) input in
      let explicit : is_explicit named.syntax ≡ true = sym (explicit_by Extract named.syntax) ∙ sym (ap (λ (x : Coding). is_explicit x.syntax) c) ∙ own.0 in
      let first = subst (λ (x : Coding). Reads (job_bar (job Extract) x) x.syntax (set_at group) bytes f stop) c reads in
      let other = k.sets named (set_at group) bytes f stop (begins_within input m group named h.head) explicit first own.1 in (
        a_file m (coding_by e named) f other.0,
        opened m group (coding_by e named) f other.0 (other_head m group coding h) (other_refuses m group coding h ∙ keeps) other.1 refl,
        in_file m named f stop other.0 other.2 (is ∙ ap (λ (x : Coding). a_file m x f stop) c) refl,
      )

-- the same stop
abbrev SameStop : Stop → Stop → Type 0
SameStop stop other = other ≡ stop

through : {A : Type 0} (g h : Source → A) (x y p q : Source) → x ≡ p → y ≡ q → g q ≡ h p → g y ≡ h x
through g h x y p q e f same = ap g f ∙ same ∙ sym (ap h e)

-- ---- dcmconv

bar_by : (e : Dictionary) (s : Syntax) → target_bar (read_by e s) ≡ target_bar s
bar_by e (implicit_in d) = refl
bar_by e (little_in d) = refl
bar_by e (big_in d) = refl

module _ (e : Dictionary) (target : Option Syntax) where
  bars : (c : Coding) → target_bar (target_syntax target (coding_by Extract c)) ≡ target_bar (target_syntax target (coding_by e c))
  bars c = sym (ap target_bar (to_by e target c) ∙ bar_by e (target_syntax target (coding_by Extract c)))

  change_by : (target : Option Syntax) (c : Coding) → refuses_change (convert e target) (coding_by e c) ≡ refuses_change (convert Extract target) (coding_by Extract c)
  change_by None c = refl
  change_by (Some s) c = refl

  converts : SetsSo SameStop e (λ d. convert d target)
  converts = record {
    by = λ d. refl;
    refuses = change_by target;
    sets = λ c start bytes f stop le explicit reads says. (
      stop,
      subst (λ (bar : Bar). Reads bar (read_by e c.syntax) start bytes f stop) (bars c) (readings_agree e (target_syntax target (coding_by Extract c)) c.syntax start bytes f stop le explicit reads says),
      refl,
    );
  }

  line_by : (f : Front) (stop : Stop) → stop_line (convert e target) f stop ≡ stop_line (convert Extract target) f stop
  line_by f complete = refl
  line_by f (refused fault offset) = refl

  status_by : (f : Front) (stop : Stop) → stop_status (convert e target) f stop ≡ stop_status (convert Extract target) f stop
  status_by f complete = refl
  status_by f (refused fault offset) = refl

  abbrev answer_of : List ℕ → List ℕ → ℕ → Answer
  answer_of out lines status = record { output = out; lines = lines; status = status }

  file_so : (m : Meta) (named : Coding) (f : Front) (stop other : Stop) → other ≡ stop → answer (convert e target) (a_file m (coding_by e named) f other) ≡ answer (convert Extract target) (a_file m (coding_by Extract named) f stop)
  file_so m named f stop other is =
      let before : List ℕ → List ℕ = λ out. m.preamble ++ PREFIX ++ new_meta m.elements (target_uid target m) ++ out in
      let written = written_by e (target_syntax target (coding_by Extract named)) (target_syntax target (coding_by e named)) f (to_by e target named) in
      ap (λ (x : Stop). answer (convert e target) (a_file m (coding_by e named) f x)) is
      ∙ ap (λ (out : List ℕ). answer_of (before out) (stop_line (convert e target) f stop) (stop_status (convert e target) f stop)) written
      ∙ ap (λ (lines : List ℕ). answer_of (before (recode (target_syntax target (coding_by Extract named)) f)) lines (stop_status (convert e target) f stop)) (line_by f stop)
      ∙ ap (answer_of (before (recode (target_syntax target (coding_by Extract named)) f)) (stop_line (convert Extract target) f stop)) (status_by f stop)

  alone_so : (s : Syntax) (f : Front) (stop : Stop) → answer (convert e target) (alone (read_by e s) f stop) ≡ answer (convert Extract target) (alone (read_by Extract s) f stop)
  alone_so s f stop = ap (λ (lines : List ℕ). answer_of [] lines (stop_status (convert e target) f stop)) (line_by f stop) ∙ ap (answer_of [] (stop_line (convert Extract target) f stop)) (status_by f stop)

  converted_so : (x y : Source) → ReadSo SameStop e x y → answer (convert e target) y ≡ answer (convert Extract target) x
  converted_so x y (closed fault offset p q) = through (answer (convert e target)) (answer (convert Extract target)) x y (unopened fault offset) (unopened fault offset) p q refl
  converted_so x y (in_file m named f stop other near p q) =
      through (answer (convert e target)) (answer (convert Extract target)) x y (a_file m (coding_by Extract named) f stop) (a_file m (coding_by e named) f other) p q (file_so m named f stop other near)
  converted_so x y (by_itself s f stop p q) = through (answer (convert e target)) (answer (convert Extract target)) x y (alone (read_by Extract s) f stop) (alone (read_by e s) f stop) p q (alone_so s f stop)

pub converters_agree : (e : Dictionary) (target : Option Syntax) (input : List ℕ) (source : Source) (a b : Answer) → InputReads (convert Extract target) input source → SourceSays e source → Answers (convert Extract target) input a → Answers (convert e target) input b → b ≡ a
converters_agree e target input source a b reads says x y =
    let k = read_so SameStop e (λ d. convert d target) (converts e target) input source reads says in
    one_answer (convert e target) input b (answer (convert e target) k.0) y (record { source = k.0; reads = k.1; answer_is = refl })
    ∙ converted_so e target source k.0 k.2
    ∙ sym (one_answer (convert Extract target) input a (answer (convert Extract target) source) x (record { source = source; reads = reads; answer_is = refl }))

-- ---- dcmdump

module _ (e : Dictionary) (mode : Mode) (bare : Option Syntax) where
  abbrev by_extract : Source → Answer
  by_extract = answer (dump Extract mode bare)

  abbrev by_other : Source → Answer
  by_other = answer (dump e mode bare)

  dump_line : (f : Front) (stop : Stop) → stop_line (dump e mode bare) f stop ≡ stop_line (dump Extract mode bare) f stop
  dump_line f complete = refl
  dump_line f (refused fault offset) = refl

  dump_status : (f : Front) (stop : Stop) → stop_status (dump e mode bare) f stop ≡ stop_status (dump Extract mode bare) f stop
  dump_status f complete = refl
  dump_status f (refused fault offset) = refl

  uid_by : (s : Syntax) → uid_of_syntax (read_by e s) ≡ uid_of_syntax (read_by Extract s)
  uid_by (implicit_in d) = refl
  uid_by (little_in d) = refl
  uid_by (big_in d) = refl

  abbrev DumpedSo : Source → Source → Type 0
  DumpedSo x y = ((by_other y).lines ≡ (by_extract x).lines) × ((by_other y).status ≡ (by_extract x).status) × ((by_other y).output ≡ output_of (dump e mode bare) x)

  dumped_through : (x y p q : Source) → x ≡ p → y ≡ q → DumpedSo p q → DumpedSo x y
  dumped_through x y p q i j h = subst (λ (z : Source). DumpedSo z y) (sym i) (subst (DumpedSo p) (sym j) h)

  dumped_so : (x y : Source) → ReadSo SameStop e x y → DumpedSo x y
  dumped_so x y (closed fault offset p q) = dumped_through x y (unopened fault offset) (unopened fault offset) p q (refl, refl, refl)
  dumped_so x y (in_file m named f stop other near p q) =
      dumped_through x y (a_file m (coding_by Extract named) f stop) (a_file m (coding_by e named) f other) p q
      (ap (stop_line (dump e mode bare) f) near ∙ dump_line f stop, ap (stop_status (dump e mode bare) f) near ∙ dump_status f stop, refl)
  dumped_so x y (by_itself s f stop p q) =
      dumped_through x y (alone (read_by Extract s) f stop) (alone (read_by e s) f stop) p q
      (dump_line f stop, dump_status f stop, ap (λ (uid : List ℕ). set_header uid ++ dump_front e mode 0 f) (uid_by s))

dumps : (e : Dictionary) (mode : Mode) → SetsSo SameStop e (λ d. dump d mode None)
dumps e mode = record { by = λ d. refl; refuses = λ c. refl; sets = λ c start bytes f stop le explicit reads says. (stop, readings_agree e Little c.syntax start bytes f stop le explicit reads says, refl) }

dump_read : (e : Dictionary) (mode : Mode) (bare : Option Syntax) (input : List ℕ) (source : Source) → InputReads (dump Extract mode bare) input source → SourceSays e source → (other : Source) × InputReads (dump e mode bare) input other × ReadSo SameStop e source other
dump_read e mode None input source reads says = read_so SameStop e (λ d. dump d mode None) (dumps e mode) input source reads says
dump_read e mode (Some s) input source reads says =
    let r : AloneReads (read_by Extract s) input source = reads in
    let own : (is_explicit (read_by Extract s) ≡ true) × FrontSays e r.set = subst (SourceSays e) r.source_is says in
    let other = readings_agree e Little s 0 input r.set r.stop (omega arith) (sym (explicit_by Extract s) ∙ own.0) r.reads own.1 in
    (alone (read_by e s) r.set r.stop, record { set = r.set; stop = r.stop; reads = other; source_is = refl }, by_itself s r.set r.stop r.source_is refl)

dump_answer : (d : Dictionary) (mode : Mode) (bare : Option Syntax) (input : List ℕ) (source : Source) → InputReads (dump d mode bare) input source → Answers (dump d mode bare) input (answer (dump d mode bare) source)
dump_answer d mode bare input source reads = record { source = source; reads = reads; answer_is = refl }

pub dumps_agree : (e : Dictionary) (mode : Mode) (bare : Option Syntax) (input : List ℕ) (source : Source) (a b : Answer) → InputReads (dump Extract mode bare) input source → SourceSays e source
    → Answers (dump Extract mode bare) input a → Answers (dump e mode bare) input b → (b.lines ≡ a.lines) × (b.status ≡ a.status) × (b.output ≡ output_of (dump e mode bare) source)
dumps_agree e mode bare input source a b reads says x y =
    let k = dump_read e mode bare input source reads says in
    let so = dumped_so e mode bare source k.0 k.2 in
    let first = one_answer (dump Extract mode bare) input a (answer (dump Extract mode bare) source) x (dump_answer Extract mode bare input source reads) in
    let second = one_answer (dump e mode bare) input b (answer (dump e mode bare) k.0) y (dump_answer e mode bare input k.0 k.1) in (
      ap (λ (z : Answer). z.lines) second ∙ so.0 ∙ sym (ap (λ (z : Answer). z.lines) first),
      ap (λ (z : Answer). z.status) second ∙ so.1 ∙ sym (ap (λ (z : Answer). z.status) first),
      ap (λ (z : Answer). z.output) second ∙ so.2,
    )

-- ---- dcmodify

module _ (e : Dictionary) (edits : List Edit) where
  modifies : SetsSo StopsSo e (λ d. modify d edits)
  modifies = record { by = λ d. refl; refuses = λ c. refl; sets = λ c start bytes f stop le explicit reads says. ascending_agree e c.syntax start bytes f stop le explicit reads says }

  abbrev ModifiedSo : Answer → Answer → Type 0
  ModifiedSo a b = (b.output ≡ a.output) × (b.status ≡ a.status) × LinesSo a b

  edit_line : (f : Front) (stop : Stop) → stop_line (modify e edits) f stop ≡ stop_line (modify Extract edits) f stop
  edit_line f complete = refl
  edit_line f (refused fault offset) = refl

  edit_status : (f : Front) (stop : Stop) → stop_status (modify e edits) f stop ≡ stop_status (modify Extract edits) f stop
  edit_status f complete = refl
  edit_status f (refused fault offset) = refl

  stops_so : (f : Front) (stop other : Stop) → StopsSo stop other
      → (stop_status (modify e edits) f other ≡ stop_status (modify Extract edits) f stop) × ((stop_line (modify e edits) f other ≡ stop_line (modify Extract edits) f stop) ⊎ ((offset : ℕ) × (stop_line (modify Extract edits) f stop ≡ reading_line NotAscending offset) × (stop_line (modify e edits) f other ≡ reading_line TooDeep offset)))
  stops_so f stop other (inl is) = (ap (stop_status (modify e edits) f) is ∙ edit_status f stop, inl (ap (stop_line (modify e edits) f) is ∙ edit_line f stop))
  stops_so f stop other (inr (offset, p, q)) = (
    ap (stop_status (modify e edits) f) q ∙ sym (ap (stop_status (modify Extract edits) f) p),
    inr (offset, ap (stop_line (modify Extract edits) f) p, ap (stop_line (modify e edits) f) q),
  )

  edited_so : (m : Meta) (named : Coding) (f : Front) (stop other : Stop) → StopsSo stop other → ModifiedSo (answer (modify Extract edits) (a_file m (coding_by Extract named) f stop)) (answer (modify e edits) (a_file m (coding_by e named) f other))
  edited_so m named f stop other near =
      let so = stops_so f stop other near in
      (ap (λ (out : List ℕ). m.preamble ++ PREFIX ++ new_meta m.elements m.uid ++ out) (written_by e (read_by Extract named.syntax) (read_by e named.syntax) (edited edits f) (sym (read_by_twice e Extract named.syntax))), so.0, so.1)

  modified_through : (x y p q : Source) → x ≡ p → y ≡ q → ModifiedSo (answer (modify Extract edits) p) (answer (modify e edits) q) → ModifiedSo (answer (modify Extract edits) x) (answer (modify e edits) y)
  modified_through x y p q i j h =
      subst (λ (z : Source). ModifiedSo (answer (modify Extract edits) z) (answer (modify e edits) y)) (sym i) (subst (λ (z : Source). ModifiedSo (answer (modify Extract edits) p) (answer (modify e edits) z)) (sym j) h)

  modified_so : (x y : Source) → ReadSo StopsSo e x y → ModifiedSo (answer (modify Extract edits) x) (answer (modify e edits) y)
  modified_so x y (closed fault offset p q) = modified_through x y (unopened fault offset) (unopened fault offset) p q (refl, refl, inl refl)
  modified_so x y (in_file m named f stop other near p q) = modified_through x y (a_file m (coding_by Extract named) f stop) (a_file m (coding_by e named) f other) p q (edited_so m named f stop other near)
  modified_so x y (by_itself s f stop p q) = modified_through x y (alone (read_by Extract s) f stop) (alone (read_by e s) f stop) p q (refl, edit_status f stop, inl (edit_line f stop))

pub modifiers_agree : (e : Dictionary) (edits : List Edit) (input : List ℕ) (source : Source) (a b : Answer) → InputReads (modify Extract edits) input source → SourceSays e source → Answers (modify Extract edits) input a → Answers (modify e edits) input b
    → (b.output ≡ a.output) × (b.status ≡ a.status) × LinesSo a b
modifiers_agree e edits input source a b reads says x y =
    let k = read_so StopsSo e (λ d. modify d edits) (modifies e edits) input source reads says in
    let first = one_answer (modify Extract edits) input a (answer (modify Extract edits) source) x (record { source = source; reads = reads; answer_is = refl }) in
    let second = one_answer (modify e edits) input b (answer (modify e edits) k.0) y (record { source = k.0; reads = k.1; answer_is = refl }) in
    subst (λ (z : Answer). ModifiedSo e edits z b) (sym first) (subst (ModifiedSo e edits (answer (modify Extract edits) source)) (sym second) (modified_so e edits source k.0 k.2))

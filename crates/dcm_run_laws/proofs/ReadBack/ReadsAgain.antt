-- Files that dcmodify and dcmconv wrote are read again.
use Rattle.std.proofs.Common.{◌≡◌, true, false, Ok, ◌∙◌, ap, sym, subst, refl, ℕ, ◌+◌, ◌≤◌, List, ◌++◌, append_assoc, length, drop, Option, None, Some, arith, length-append}
use Rattle.std.proofs.lemmas.List.{append-nil, drop_at}
use Rattle.dcm_base.proofs.DataSets.After.{read_by_twice}
use Rattle.dcm_base.proofs.DataSets.Alike.{read_by_dictionary}
use Rattle.dcm_base.specs.declared.syntax.Coding.{Coding}
use Rattle.dcm_base.specs.declared.syntax.Syntax.{Syntax}
use Rattle.dcm_base.specs.declared.syntax.Syntax.TheVariants.{Implicit as implicit_in, Little as little_in, Big as big_in}
use Rattle.dcm_base.specs.Reading.Bars.{no_bar, target_bar}
use Rattle.dcm_base.specs.Tree.Front.{Front, front, nothing_open, open_leaf, open_sequence, open_fragments}
use Rattle.dcm_base.specs.File.MetaGroup.{group_place, the_end}
use Rattle.dcm_base.specs.File.MetaReads.{Meta, MetaReads, begins, PREFIX}
use Rattle.dcm_base.specs.Conversion.NewMeta.{new_meta}
use Rattle.dcm_base.specs.Conversion.Normal.{FrontFits, normal_front, FrontStays}
use Rattle.dcm_base.specs.Tables.Number.{AreBytes}
use Rattle.dcm_base.specs.Reading.Reads.{INPUT_LIMIT, Reads}
use Rattle.dcm_base.specs.Conversion.Recode.{recode}
use Rattle.dcm_base.specs.Reading.Stop.{Stop, Bar, complete}
use Rattle.dcm_base.specs.Tables.Transfer.{native, without_pads, coding_of}
use Rattle.dcm_base_laws.proofs.DataSets.ImplicitLengths.{explicit_fits, implicit_fits}
use Rattle.dcm_base.proofs.DataSets.OwnSyntax.{own_reads}
use Rattle.dcm_base.proofs.DataSets.OneAnswer.{reads_once}
use Rattle.dcm_base.specs.Tables.Syntax.{dictionary_of, read_by, coding_by, is_big}
use Rattle.dcm_base.specs.declared.dictionary.Dictionary.{Dictionary}
use Rattle.dcm_base.specs.declared.dictionary.Dictionary.TheVariants.{Extract}
use Rattle.dcm_stream.proofs.Steps.ReadsSome.{plain}
use Rattle.dcm_sinks.specs.MetaAgain.{meta_again, Renews, Names, ReadsRenewed}
use Rattle.dcm_sinks.proofs.ReadBack.GroupEnds.{set_ends}
use Rattle.dcm_sinks.proofs.ReadBack.NewMetaReads.{any, own}
use Rattle.dcm_sinks.proofs.ReadBack.RecodeReads.{read_ready, recode_reads}
use Rattle.dcm_build_laws.proofs.Rebuilds.FilesBuild.{headed}
use Rattle.dcm_edits.specs.Edit.{Edit, edited}
use Rattle.dcm_editor_laws.proofs.ReadBack.EditedReads.{own_ready, edited_reads, room as ready_front}
use Rattle.dcm_editor_laws.proofs.ReadBack.StaysReady.{FrontReady, edited_ready}
use Rattle.dcm_edits.proofs.Words.WordValues.{edits_fit}
use Rattle.dcm_editor_laws.proofs.Words.WordsReady.{edits_ready}
use Rattle.dcm_value.proofs.ReadBack.Units.{bytes_drop}
use Rattle.dcm_words.specs.Words.{Job, convert, modify}
use Rattle.dcm_cli.specs.Answer.{job_dictionary, HeadIs, Answer, Source, file as a_file, set_at, job_bar, answer, target_syntax, target_uid, written_file, FileReads, not_opened, not_changed, opened}
use Rattle.dcm_head.specs.SyntaxUids.{uid_of_syntax}
use Rattle.dcm_run_laws.specs.ReadsAgain.{IsRead, HasRoom, IsModified, ReadsModified, IsConverted, ReadsConverted}
use Rattle.dcm_edits.specs.EditWords.{meant_edits_in}

-- ---- what was read

pub record Read (job : Job) (input : List ℕ) (m : Meta) (coding : Coding) (f : Front) : Type 0 where
  pub group : List ℕ
  pub head : HeadIs (job_dictionary job) input m group coding
  pub set : Reads (job_bar job coding) coding.syntax (set_at group) (drop (set_at group) input) f complete

was_file : (job : Job) (input : List ℕ) (m n : Meta) (group : List ℕ) (c d : Coding) (f g : Front) (t : Stop) → a_file n d g t ≡ a_file m c f complete → HeadIs (job_dictionary job) input n group d
    → Reads (job_bar job d) d.syntax (set_at group) (drop (set_at group) input) g t → Read job input m c f
was_file job input m n group c d f g t e head reads =
    let ms : n ≡ m = cc in
    let cs : d ≡ c = cc in
    let fs : g ≡ f = cc in
    let ts : t ≡ complete = cc in
    let bytes : List ℕ = drop (set_at group) input in
    record {
      group = group;
      head = subst (λ (z : Meta). HeadIs (job_dictionary job) input z group c) ms (subst (λ (z : Coding). HeadIs (job_dictionary job) input n group z) cs head);
      set = subst (λ (z : Coding). Reads (job_bar job z) z.syntax (set_at group) bytes f complete) cs
          (subst (λ (z : Front). Reads (job_bar job d) d.syntax (set_at group) bytes z complete) fs (subst (Reads (job_bar job d) d.syntax (set_at group) bytes g) ts reads));
    }

pub read_of : (job : Job) (input : List ℕ) (m : Meta) (c : Coding) (f : Front) (source : Source) → source ≡ a_file m c f complete → FileReads job input source → Read job input m c f
read_of job input m c f source is (not_opened fault offset h e) = absurd (cc)
read_of job input m c f source is (not_changed n group d h r e) = absurd (cc)
read_of job input m c f source is (opened n group d g t h r reads e) = was_file job input m n group c d f g t (sym e ∙ is) h reads

module _ (input : List ℕ) (m : Meta) (group : List ℕ) (coding : Coding) (head : MetaReads input (begins m group coding)) where
  pub long : length m.preamble ≡ 128
  long = (headed input m group coding head).preamble_size

  pub begins_within : set_at group ≤ INPUT_LIMIT
  begins_within = let few = (headed input m group coding head).within in omega (arith, few)

-- ---- the data set that is written

front_ends : (s : Syntax) (n : ℕ) (f : Front) → is_big s ≡ false → FrontReady s f → group_place n (recode s f) ≡ the_end
unfolding recode
front_ends s n (front whole nothing_open reached closed) b h = ap (group_place n) (append-nil _) ∙ set_ends s n 0 whole b h.0
front_ends s n (front whole (open_leaf tag vr size value) reached closed) b h = absurd (let none = h.1 in cc)
front_ends s n (front whole (open_sequence tag vr declared items last) reached closed) b h = absurd (let none = h.1 in cc)
front_ends s n (front whole (open_fragments tag vr values last) reached closed) b h = absurd (let none = h.1 in cc)

pub ends_by : (s : Syntax) (n : ℕ) (f : Front) → (is_big s ≡ true → group_place n (recode s f) ≡ the_end) → FrontReady s f → group_place n (recode s f) ≡ the_end
ends_by (implicit_in d) n f h k = front_ends (implicit_in d) n f refl k
ends_by (little_in d) n f h k = front_ends (little_in d) n f refl k
ends_by (big_in d) n f h k = h refl

-- in its own syntax nothing is barred
pub no_bar_reads : (s : Syntax) (start : ℕ) (bytes : List ℕ) (f : Front) → start ≤ INPUT_LIMIT → Reads (target_bar s) s start bytes f complete → Reads no_bar s start bytes f complete
no_bar_reads s start bytes f le h =
    let some = plain s start bytes le in
    let one = reads_once (target_bar s) s start bytes some.0 f some.1 complete (own_reads s start bytes some.0 some.1 some.2) h in
    subst (λ (g : Front). Reads no_bar s start bytes g complete) one.0 (subst (Reads no_bar s start bytes some.0) one.1 some.2)

-- ---- the output

pub four_parts : (preamble prefix group set : List ℕ) → preamble ++ prefix ++ group ++ set ≡ preamble ++ (prefix ++ (group ++ set))
four_parts preamble prefix group set = append_assoc (preamble ++ prefix) group set ∙ append_assoc preamble prefix (group ++ set)

-- behind the group
pub behind_group : (preamble prefix group set : List ℕ) → length preamble ≡ 128 → length prefix ≡ 4 → drop (132 + length group) (preamble ++ prefix ++ group ++ set) ≡ set
behind_group preamble prefix group set a b =
    let one = length-append preamble prefix in
    let two = length-append (preamble ++ prefix) group in
    drop_at (preamble ++ prefix ++ group) set (132 + length group) (omega (arith, one, two))

pub all_size : (preamble prefix group set : List ℕ) → length preamble ≡ 128 → length prefix ≡ 4 → length (preamble ++ prefix ++ group ++ set) ≡ 132 + length group + length set
all_size preamble prefix group set a b =
    let one = length-append preamble prefix in
    let two = length-append (preamble ++ prefix) group in
    let three = length-append (preamble ++ prefix ++ group) set in
    omega (arith, one, two, three)

-- a file that was read is written with another data set and coding
module _ (input output : List ℕ) (m : Meta) (old uid : List ℕ) (was named : Coding) (d : Dictionary) (coding : Coding) (coding_is : coding ≡ coding_by d named) (set : Front) (head : MetaReads input (begins m old was)) (are : AreBytes input) where
  abbrev s : Syntax
  s = coding.syntax

  abbrev group : List ℕ
  group = new_meta m.elements uid

  abbrev written : List ℕ
  written = recode s set

  pub set_within : output ≡ written_file uid s m set → length output ≤ INPUT_LIMIT → set_at group + length written ≤ INPUT_LIMIT
  set_within is within =
      let size = all_size m.preamble PREFIX group written (long input m old was head) refl in
      let whole = ap length is in
      omega (arith, size, whole, within)

  written_head : HasRoom output m uid s set → FrontReady s set → (Renews input m was uid written → ReadsRenewed m uid written named) → MetaReads (written_file uid s m set) (begins (meta_again m uid) group named)
  written_head room ready again =
      subst (λ (x : List ℕ). MetaReads x (begins (meta_again m uid) group named)) (sym (four_parts m.preamble PREFIX group written))
      (again (record { group = old; are_bytes = are; reads = head; within = room.group_within; ends = ends_by s (length group) set room.group_ends ready }))

  written_set : (again : Front) → Reads (target_bar s) s (set_at group) written again complete → Reads (target_bar s) s (set_at group) (drop (set_at group) (written_file uid s m set)) again complete
  written_set again reads =
      subst (λ (x : List ℕ). Reads (target_bar s) s (set_at group) x again complete) (sym (behind_group m.preamble PREFIX group written (long input m old was head) refl)) reads

  pub written_reads : output ≡ written_file uid s m set → HasRoom output m uid s set → FrontReady s set → (Renews input m was uid written → ReadsRenewed m uid written named)
      → (set_at group + length written ≤ INPUT_LIMIT → Reads (target_bar s) s (set_at group) written (normal_front s set) complete)
      → IsRead d output (meta_again m uid) group coding (normal_front s set)
  written_reads is room ready again reads =
      let within = set_within is room.within in
      let le : set_at group ≤ INPUT_LIMIT = omega (arith, within) in
      let own = written_set (normal_front s set) (reads within) in
      subst (λ (x : List ℕ). IsRead d x (meta_again m uid) group coding (normal_front s set)) (sym is)
      (record { head = record { named = named; head = written_head room ready again; coding_is = coding_is }; dumped = no_bar_reads s (set_at group) (drop (set_at group) (written_file uid s m set)) (normal_front s set) le own; converted = own })

-- ---- the dictionary of a coding

pub of_head : (d : Dictionary) (input : List ℕ) (m : Meta) (group : List ℕ) (coding : Coding) → HeadIs d input m group coding → dictionary_of coding.syntax ≡ d
of_head d input m _ coding h = ap (λ (c : Coding). dictionary_of c.syntax) h.coding_is ∙ read_by_dictionary d h.named.syntax

-- ---- dcmodify

pub modified_reads : (d : Dictionary) (edits : List Edit) (input : List ℕ) (a : Answer) (m : Meta) (coding : Coding) (f : Front) → IsModified d edits input a m coding f → ReadsModified d edits a m coding f
modified_reads d edits input a m coding f h =
    let r = read_of (modify d edits) input m coding f h.answers.source h.source_is h.answers.reads in
    let rest : List ℕ = drop (set_at r.group) input in
    let le : set_at r.group ≤ INPUT_LIMIT = begins_within input m r.group r.head.named r.head.head in
    let are : AreBytes rest = bytes_drop (set_at r.group) input h.are_bytes in
    let mean = subst (λ (k : Dictionary). meant_edits_in k h.words ≡ Ok edits) (sym (of_head d input m r.group coding r.head)) h.meant in
    written_reads input a.output m r.group m.uid r.head.named r.head.named d coding r.head.coding_is (edited edits f) r.head.head h.are_bytes
    (ap (λ (x : Answer). x.output) h.answers.answer_is ∙ ap (λ (x : Source). (answer (modify d edits) x).output) h.source_is)
    h.room
    (edited_ready coding.syntax edits f (edits_fit (dictionary_of coding.syntax) h.words edits mean).2 (edits_ready coding.syntax h.words edits mean) (own_ready coding.syntax (set_at r.group) rest f le are r.set h.stays))
    (own input (recode coding.syntax (edited edits f)) m r.head.named)
    (edited_reads coding.syntax h.words edits mean (set_at r.group) rest f le are r.set h.stays (set_at (new_meta m.elements m.uid)))

-- ---- dcmconv

syntax_named : (s : Syntax) → Names (uid_of_syntax s) (native (read_by Extract s))
unfolding without_pads coding_of
syntax_named (implicit_in d) = record { some = λ e. cc; no_pad = refl; coding_is = refl }
syntax_named (little_in d) = record { some = λ e. cc; no_pad = refl; coding_is = refl }
syntax_named (big_in d) = record { some = λ e. cc; no_pad = refl; coding_is = refl }

-- what is read of a syntax fits that syntax, and each explicit one
own_fits : (s : Syntax) (bar : Bar) (start : ℕ) (bytes : List ℕ) (f : Front) → FrontStays s f → Reads bar s start bytes f complete → FrontFits s f
own_fits (implicit_in d) bar start bytes f stay h = implicit_fits d (implicit_in d) bar start bytes f complete refl h
own_fits (little_in d) bar start bytes f stay h = explicit_fits (little_in d) (little_in d) bar start bytes f complete refl refl stay h
own_fits (big_in d) bar start bytes f stay h = explicit_fits (big_in d) (big_in d) bar start bytes f complete refl refl stay h

target_fits : (d : Dictionary) (source s : Syntax) (bar : Bar) (start : ℕ) (bytes : List ℕ) (f : Front) → dictionary_of source ≡ d → ((e : Dictionary) → Option.Some s ≡ Some (implicit_in e) → FrontFits (implicit_in d) f)
    → FrontStays (read_by (dictionary_of source) s) f → Reads bar source start bytes f complete → FrontFits (read_by (dictionary_of source) s) f
target_fits d source (implicit_in e) bar start bytes f same h stay reads = subst (λ (x : Dictionary). FrontFits (implicit_in x) f) (sym same) (h e refl)
target_fits d source (little_in e) bar start bytes f same h stay reads = explicit_fits source (little_in (dictionary_of source)) bar start bytes f complete refl refl stay reads
target_fits d source (big_in e) bar start bytes f same h stay reads = explicit_fits source (big_in (dictionary_of source)) bar start bytes f complete refl refl stay reads

-- to a syntax that the data set fits, which a new group names so
converted_by : (d : Dictionary) (target : Option Syntax) (input : List ℕ) (a : Answer) (m : Meta) (was coding : Coding) (uid : List ℕ) (f : Front) (h : IsConverted d target input a m was f) → uid ≡ target_uid target m → coding.syntax ≡ target_syntax target was
    → ((group : List ℕ) → HeadIs d input m group was → Reads (target_bar coding.syntax) was.syntax (set_at group) (drop (set_at group) input) f complete → FrontFits coding.syntax f)
    → (renamed : Coding → Coding) → ((named : Coding) → was ≡ coding_by d named → coding ≡ coding_by d (renamed named))
    → ((named : Coding) (set : List ℕ) → Renews input m named uid set → ReadsRenewed m uid set (renamed named))
    → IsRead d a.output (meta_again m uid) (new_meta m.elements uid) coding (normal_front coding.syntax f)
converted_by d target input a m was coding uid f h uids syntaxes fits renamed renamed_is again =
    let s : Syntax = coding.syntax in
    let r = read_of (convert d target) input m was f h.answers.source h.source_is h.answers.reads in
    let rest : List ℕ = drop (set_at r.group) input in
    let le : set_at r.group ≤ INPUT_LIMIT = begins_within input m r.group r.head.named r.head.head in
    let are : AreBytes rest = bytes_drop (set_at r.group) input h.are_bytes in
    let reads : Reads (target_bar s) was.syntax (set_at r.group) rest f complete = subst (λ (x : Syntax). Reads (target_bar x) was.syntax (set_at r.group) rest f complete) (sym syntaxes) r.set in
    let fit : FrontFits s f = fits r.group r.head reads in
    let is : a.output ≡ written_file uid s m f =
    ap (λ (x : Answer). x.output) h.answers.answer_is ∙ ap (λ (x : Source). (answer (convert d target) x).output) h.source_is
    ∙ (λ i. written_file (sym uids i) (sym syntaxes i) m f) in
    let room : HasRoom a.output m uid s f = subst (λ (x : Syntax). HasRoom a.output m uid x f) (sym syntaxes) (subst (λ (u : List ℕ). HasRoom a.output m u (target_syntax target was) f) (sym uids) h.room) in
    written_reads input a.output m r.group uid r.head.named (renamed r.head.named) d coding (renamed_is r.head.named r.head.coding_is) f r.head.head h.are_bytes is room
    (ready_front s f (read_ready s was.syntax (set_at r.group) rest f le are reads fit)) (again r.head.named (recode s f))
    (λ within. recode_reads s was.syntax (set_at r.group) (set_at (new_meta m.elements uid)) rest f (record { begins = le; are_bytes = are; reads = reads; fits = fit; within = within }))

pub converted_reads : (d : Dictionary) (target : Option Syntax) (input : List ℕ) (a : Answer) (m : Meta) (coding : Coding) (f : Front) → IsConverted d target input a m coding f → ReadsConverted d target a m coding f
converted_reads d None input a m coding f h =
    converted_by d None input a m coding coding m.uid f h refl refl (λ group head reads. own_fits coding.syntax (target_bar coding.syntax) (set_at group) (drop (set_at group) input) f h.stays reads)
    (λ named. named) (λ named is. is) (λ named set. own input set m named)
converted_reads d (Some s) input a m coding f h =
    converted_by d (Some s) input a m coding (native (read_by (dictionary_of coding.syntax) s)) (uid_of_syntax s) f h refl refl
    (λ group head reads. let to : Syntax = read_by (dictionary_of coding.syntax) s in target_fits d coding.syntax s (target_bar to) (set_at group) (drop (set_at group) input) f (of_head d input m group coding head) h.tells h.stays reads)
    (λ named. native (read_by Extract s))
    (λ named is. ap (λ (x : Syntax). native x) (ap (λ (k : Dictionary). read_by k s) (ap (λ (c : Coding). dictionary_of c.syntax) is ∙ read_by_dictionary d named.syntax) ∙ sym (read_by_twice d Extract s)))
    (λ named set r. any input (uid_of_syntax s) set m named (native (read_by Extract s)) r (syntax_named s))

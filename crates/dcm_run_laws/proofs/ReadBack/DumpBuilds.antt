-- The full dump of a file, which is then built again.
use Rattle.std.proofs.Common.{◌≡◌, refl, ◌∙◌, ap, sym, subst, ℕ, ◌≤◌, List, [], ◌++◌, append_assoc, length, drop, replicate, Option, None, Some}
use Rattle.std.proofs.lemmas.List.{append-nil}
use Rattle.std.proofs.Math.Seq.{drop-append_seam}
use Rattle.dcm_editor_laws.proofs.Readers.Bytes.{item_more, sequence_more}
use Rattle.dcm_lemmas.proofs.Lists.{behind_alike}
use Rattle.dcm_base.specs.declared.mode.Mode.TheVariants.{Full}
use Rattle.dcm_base.specs.declared.syntax.Coding.{Coding}
use Rattle.dcm_base.specs.declared.syntax.Syntax.{Syntax}
use Rattle.dcm_base.specs.Reading.Bars.{no_bar}
use Rattle.dcm_base.specs.Lines.Build as build
use Rattle.dcm_base.specs.Lines.Build.{Progress, named_syntax}
use Rattle.dcm_base.specs.declared.fault.LineStop.{LineStop}
use Rattle.dcm_base.specs.Dump.Dump.{dump_set, dump_front}
use Rattle.dcm_base.specs.Tree.Front.{Front}
use Rattle.dcm_base.specs.Dump.Header.{meta_header, set_header}
use Rattle.dcm_base.specs.File.MetaReads.{Meta, MetaReads, begins, PREFIX}
use Rattle.dcm_base.specs.Conversion.NewMeta.{new_meta}
use Rattle.dcm_base.specs.Conversion.Normal.{whole_front}
use Rattle.dcm_base.specs.Tables.Number.{AreBytes}
use Rattle.dcm_base.specs.Reading.Reads.{Reads}
use Rattle.dcm_base.specs.Conversion.Recode.{recode, recode_set, recode_items, head as head_bytes, sequence_delimiter, item_head, item_delimiter}
use Rattle.dcm_base.specs.Reading.Stop.{Stop, complete}
use Rattle.dcm_base.specs.Tree.Tree.{Trees, no_tree, leaf, sequence, fragments, Items, no_item, item}
use Rattle.dcm_base.specs.Tables.Syntax.{read_by, coding_by}
use Rattle.dcm_base.specs.declared.dictionary.Dictionary.{Dictionary}
use Rattle.dcm_build_laws.specs.DumpBuilds.{full_dump, FileRead, FitsLines, BuildsFile}
use Rattle.dcm_build_laws.proofs.Rebuilds.FilesBuild.{Headed, headed, file_builds}
use Rattle.dcm_words.specs.Words.{GREATEST_LIMIT, dump, convert, build as building}
use Rattle.dcm_cli.specs.Answer.{Answer, Answers, Source, file as a_file, set_at, answer, built_answer, building_line, FileReads, not_opened, not_changed, opened, HeadIs}
use Rattle.dcm_run_laws.specs.DumpBuilds.{CanBeBuilt, BuildsWhatConverts}
use Rattle.dcm_cli.proofs.Runs.OneSource.{one_source, own_source}
use Rattle.dcm_base.specs.declared.syntax.Syntax.TheVariants.{Implicit as implicit_in, Little as little_in, Big as big_in}
use Rattle.dcm_base.specs.declared.vr.Vr.TheVariants.{SQ}
use Rattle.dcm_base.specs.declared.length.Length.TheVariants.{Undefined}

-- ---- what is read

files_alike : (m n : Meta) (c d : Coding) (x y : Front) (s t : Stop) → a_file m c x s ≡ a_file n d y t → (m ≡ n) × (c ≡ d) × (x ≡ y) × (s ≡ t)
files_alike m n c d x y s t e = (cc, cc, cc, cc)

read_as : (k : Dictionary) (file : List ℕ) (m n : Meta) (group : List ℕ) (c d : Coding) (set : Trees) (y : Front) (t : Stop) → AreBytes file → a_file m c (whole_front set) complete ≡ a_file n d y t → (head : HeadIs k file n group d)
    → Reads no_bar d.syntax (set_at group) (drop (set_at group) file) y t → (named : Coding) × (c ≡ coding_by k named) × FileRead k file m named set
read_as k file m n group c d set y t bytes e head reads =
    let same = files_alike m n c d (whole_front set) y complete t e in (
      head.named,
      same.1 ∙ head.coding_is,
      record {
        bytes = bytes;
        group = group;
        head = subst (λ (z : Meta). MetaReads file (begins z group head.named)) (sym same.0) head.head;
        reads = subst (λ (z : Coding). Reads no_bar z.syntax (set_at group) (drop (set_at group) file) (whole_front set) complete) head.coding_is
            (subst (λ (z : Front). Reads no_bar d.syntax (set_at group) (drop (set_at group) file) z complete) (sym same.2)
            (subst (Reads no_bar d.syntax (set_at group) (drop (set_at group) file) y) (sym same.3) reads));
      },
    )

file_read : (k : Dictionary) (file : List ℕ) (m : Meta) (c : Coding) (set : Trees) → AreBytes file → FileReads (dump k Full None) file (a_file m c (whole_front set) complete) → (named : Coding) × (c ≡ coding_by k named) × FileRead k file m named set
file_read k file m c set bytes (not_opened f n h e) = absurd (cc)
file_read k file m c set bytes (not_changed n group d h r e) = absurd (cc)
file_read k file m c set bytes (opened n group d y t h r reads e) = read_as k file m n group c d set y t bytes e h reads

-- ---- what is written

whole_dump : (d : Dictionary) (set : Trees) → dump_front d Full 0 (whole_front set) ≡ dump_set d Full 0 set
unfolding dump_front
whole_dump d set = append-nil (dump_set d Full 0 set)

whole_recode : (s : Syntax) (set : Trees) → recode s (whole_front set) ≡ recode_set s set
unfolding recode
whole_recode s set = append-nil (recode_set s set)

mutual
  unfolding recode_set

  set_alike : (d : Dictionary) (s : Syntax) (set : Trees) → recode_set (read_by d s) set ≡ recode_set s set
  set_alike d (implicit_in e) no_tree = refl
  set_alike d (little_in e) no_tree = refl
  set_alike d (big_in e) no_tree = refl
  set_alike d (implicit_in e) (leaf t vr v rest) = behind_alike _ _ _ (set_alike d (implicit_in e) rest)
  set_alike d (little_in e) (leaf t vr v rest) = behind_alike _ _ _ (set_alike d (little_in e) rest)
  set_alike d (big_in e) (leaf t vr v rest) = behind_alike _ _ _ (set_alike d (big_in e) rest)
  set_alike d (implicit_in e) (sequence t vr size items rest) = sequence_more t (head_bytes (implicit_in e) t SQ Undefined) (sequence_delimiter (implicit_in e)) _ _ _ _ (items_alike d (implicit_in e) items) (set_alike d (implicit_in e) rest)
  set_alike d (little_in e) (sequence t vr size items rest) = sequence_more t (head_bytes (little_in e) t SQ Undefined) (sequence_delimiter (little_in e)) _ _ _ _ (items_alike d (little_in e) items) (set_alike d (little_in e) rest)
  set_alike d (big_in e) (sequence t vr size items rest) = sequence_more t (head_bytes (big_in e) t SQ Undefined) (sequence_delimiter (big_in e)) _ _ _ _ (items_alike d (big_in e) items) (set_alike d (big_in e) rest)
  set_alike d (implicit_in e) (fragments t vr values rest) = behind_alike _ _ _ (set_alike d (implicit_in e) rest)
  set_alike d (little_in e) (fragments t vr values rest) = behind_alike _ _ _ (set_alike d (little_in e) rest)
  set_alike d (big_in e) (fragments t vr values rest) = behind_alike _ _ _ (set_alike d (big_in e) rest)

  items_alike : (d : Dictionary) (s : Syntax) (items : Items) → recode_items (read_by d s) items ≡ recode_items s items
  items_alike d (implicit_in e) no_item = refl
  items_alike d (little_in e) no_item = refl
  items_alike d (big_in e) no_item = refl
  items_alike d (implicit_in e) (item size set rest) = item_more (item_head (implicit_in e) Undefined) (item_delimiter (implicit_in e)) _ _ _ _ (set_alike d (implicit_in e) set) (items_alike d (implicit_in e) rest)
  items_alike d (little_in e) (item size set rest) = item_more (item_head (little_in e) Undefined) (item_delimiter (little_in e)) _ _ _ _ (set_alike d (little_in e) set) (items_alike d (little_in e) rest)
  items_alike d (big_in e) (item size set rest) = item_more (item_head (big_in e) Undefined) (item_delimiter (big_in e)) _ _ _ _ (set_alike d (big_in e) set) (items_alike d (big_in e) rest)

-- after the preamble
after_preamble : (preamble prefix group set : List ℕ) → length preamble ≡ 128 → drop 128 (preamble ++ prefix ++ group ++ set) ≡ prefix ++ group ++ set
after_preamble preamble prefix group set size =
    ap (λ (bs : List ℕ). drop 128 (bs ++ set)) (append_assoc preamble prefix group)
    ∙ ap (drop 128) (append_assoc preamble (prefix ++ group) set)
    ∙ ap (λ (n : ℕ). drop n (preamble ++ (prefix ++ group ++ set))) (sym size)
    ∙ drop-append_seam preamble (prefix ++ group ++ set)

in_front : (zeros prefix group set : List ℕ) → zeros ++ prefix ++ group ++ set ≡ zeros ++ (prefix ++ group ++ set)
in_front zeros prefix group set = ap (λ (bs : List ℕ). bs ++ set) (append_assoc zeros prefix group) ∙ append_assoc zeros (prefix ++ group) set

fine : (p : Progress) → p.told ≡ None → built_answer p ≡ record { output = build.built_bytes p.built; lines = []; status = 0 }
fine p e = ap (λ (o : Option LineStop). elim o as (λ x. Answer) [ None ↦ record { output = build.built_bytes p.built; lines = []; status = 0 } | Some t ↦ record { output = build.built_bytes p.built; lines = building_line t; status = 2 } ]) e

-- ---- both runs

module _ (d : Dictionary) (limit : ℕ) (file : List ℕ) (dumped built converted : Answer) (allowed : limit ≤ GREATEST_LIMIT) (h : CanBeBuilt d file) (dumps : Answers (dump d Full None) file dumped) (fits : FitsLines limit dumped.output) (builds : Answers (building limit) dumped.output built)
    (converts : Answers (convert d None) file converted) where
  abbrev source : Source
  source = a_file h.meta h.coding (whole_front h.set) complete

  found : (named : Coding) × (h.coding ≡ coding_by d named) × FileRead d file h.meta named h.set
  found = file_read d file h.meta h.coding h.set h.bytes h.reads

  -- the coding that the group names
  abbrev coding : Coding
  coding = found.0

  read : FileRead d file h.meta coding h.set
  read = found.2

  abbrev group_and_set : List ℕ
  group_and_set = PREFIX ++ new_meta h.meta.elements (named_syntax h.meta.elements) ++ recode_set coding.syntax h.set

  head : Headed file h.meta read.group coding
  head = headed file h.meta read.group coding read.head

  dumped_is : dumped.output ≡ full_dump d h.meta.elements h.set
  dumped_is =
      ap (λ (a : Answer). a.output) dumps.answer_is
      ∙ ap (λ (z : Source). (answer (dump d Full None) z).output) (one_source (dump d Full None) file dumps.source source dumps.reads h.reads)
      ∙ ap (λ (uid : List ℕ). meta_header d Full h.meta.elements ++ set_header uid ++ dump_front d Full 0 (whole_front h.set)) head.uid_is
      ∙ ap (λ (bs : List ℕ). meta_header d Full h.meta.elements ++ set_header (named_syntax h.meta.elements) ++ bs) (whole_dump d h.set)

  built_file : BuildsFile limit (full_dump d h.meta.elements h.set) h.meta.elements coding h.set
  built_file = file_builds d limit file h.meta coding h.set allowed read h.units_of_group h.units h.ascends (subst (FitsLines limit) dumped_is fits)

  built_is : built ≡ record { output = replicate 128 0 ++ group_and_set; lines = []; status = 0 }
  built_is =
      builds
      ∙ ap (λ (text : List ℕ). built_answer (build.built limit text)) dumped_is
      ∙ fine (build.built limit (full_dump d h.meta.elements h.set)) built_file.no_fault
      ∙ ap (λ (bs : List ℕ). record { output = bs; lines = []; status = 0 }) (built_file.file ∙ in_front (replicate 128 0) PREFIX (new_meta h.meta.elements (named_syntax h.meta.elements)) (recode_set coding.syntax h.set))

  converted_is : drop 128 converted.output ≡ group_and_set
  converted_is =
      ap (λ (a : Answer). drop 128 a.output) converts.answer_is
      ∙ ap (λ (z : Source). drop 128 (answer (convert d None) z).output) (one_source (convert d None) file converts.source source converts.reads (own_source d Full file source h.reads))
      ∙ after_preamble h.meta.preamble PREFIX (new_meta h.meta.elements h.meta.uid) (recode h.coding.syntax (whole_front h.set)) head.preamble_size
      ∙ ap (λ (uid : List ℕ). PREFIX ++ new_meta h.meta.elements uid ++ recode h.coding.syntax (whole_front h.set)) head.uid_is
      ∙ ap (λ (bs : List ℕ). PREFIX ++ new_meta h.meta.elements (named_syntax h.meta.elements) ++ bs) (whole_recode h.coding.syntax h.set)
      ∙ ap (λ (bs : List ℕ). PREFIX ++ new_meta h.meta.elements (named_syntax h.meta.elements) ++ bs) (ap (λ (c : Coding). recode_set c.syntax h.set) found.1 ∙ set_alike d coding.syntax h.set)

  pub dump_builds : BuildsWhatConverts built converted
  dump_builds = record {
    status = ap (λ (a : Answer). a.status) built_is;
    lines = ap (λ (a : Answer). a.lines) built_is;
    output = ap (λ (a : Answer). a.output) built_is ∙ ap (λ (bs : List ℕ). replicate 128 0 ++ bs) (sym converted_is);
  }

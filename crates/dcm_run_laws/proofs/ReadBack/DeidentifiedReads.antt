-- Files that dcmdeid wrote are read again.
use Rattle.std.proofs.Common.{◌≡◌, ◌∙◌, ap, sym, subst, refl, ℕ, ◌+◌, ◌≤◌, List, ◌++◌, Bool, length, drop, None, arith, false, Option, ◌⊎◌, inl, inr}
use Rattle.dcm_base.specs.declared.dictionary.Dictionary.{Dictionary}
use Rattle.dcm_base.specs.declared.dictionary.Dictionary.TheVariants.{Standard}
use Rattle.dcm_base.specs.declared.mode.Mode.TheVariants.{Full}
use Rattle.dcm_base.specs.declared.syntax.Coding.{Coding}
use Rattle.dcm_base.specs.declared.syntax.Syntax.{Syntax}
use Rattle.dcm_base.specs.declared.tag.Tag.{Tag}
use Rattle.dcm_base.specs.Bytes.Spelling.{last_tag}
use Rattle.dcm_base.specs.Conversion.NewMeta.{new_meta}
use Rattle.dcm_base.specs.Conversion.Normal.{normal_front}
use Rattle.dcm_base.specs.Conversion.Recode.{recode}
use Rattle.dcm_base.specs.File.MetaReads.{Meta, MetaReads, PREFIX, begins}
use Rattle.dcm_base.specs.Reading.Bars.{target_bar}
use Rattle.dcm_base.specs.Reading.Reads.{INPUT_LIMIT, Reads}
use Rattle.dcm_base.specs.Reading.Stop.{Stop, complete}
use Rattle.dcm_base.specs.Tables.Syntax.{coding_by, dictionary_of, is_big, read_by}
use Rattle.dcm_base.specs.Tree.Front.{Front}
use Rattle.dcm_base.specs.Tree.Tree.{Trees}
use Rattle.dcm_base.proofs.Conversions.NormalForm.{own_dictionary}
use Rattle.dcm_sinks.specs.MetaAgain.{meta_again}
use Rattle.dcm_sinks.proofs.ReadBack.NewMetaReads.{group_read, names_read, written_anew}
use Rattle.dcm_deid.specs.MadeNew.{made_new}
use Rattle.dcm_deid.specs.declared.fate.Options.{Options}
use Rattle.dcm_deid.specs.Meta.{meta_without_identity, no_preamble}
use Rattle.dcm_deid.specs.declared.fate.Depth.TheVariants.{Outermost}
use Rattle.dcm_deid.specs.Deidentify.{deidentified_set}
use Rattle.dcm_deid.specs.Saying.{deidentified, said, whole_of}
use Rattle.dcm_deid.specs.Uids.{instance_of_head, instance_of_set}
use Rattle.dcm_deid.proofs.Trees.Instances.{uids_agree}
use Rattle.dcm_deid.proofs.Trees.Said.{of_whole, set_with_all}
use Rattle.dcm_deid_laws.specs.Clean.{NothingIsLeft}
use Rattle.dcm_deid_laws.specs.Taken.{Takes}
use Rattle.dcm_deid_laws.proofs.Heads.{left_group}
use Rattle.dcm_deid_laws.proofs.Instance.{big_by, head_again, written_names}
use Rattle.dcm_deid_laws.proofs.ReadsAgain as laws
use Rattle.dcm_value.proofs.ReadBack.Units.{bytes_drop}
use Rattle.dcm_words.specs.Words.{deidentify, dump}
use Rattle.dcm_cli.specs.Answer.{Answer, FileReads, HeadIs, Source, answer, file, opened, set_at, written_file}
use Rattle.dcm_run_laws.specs.ReadsAgain.{InOutput, IsTaken, OfWholeFile, ReadsTaken}
use Rattle.dcm_cli.proofs.Runs.OneSource.{one_source}
use Rattle.dcm_run_laws.proofs.ReadBack.OtherReaders.{coding_twice}
use Rattle.dcm_run_laws.proofs.ReadBack.ReadsAgain.{Read, all_size, begins_within, behind_group, ends_by, four_parts, no_bar_reads, of_head, read_of}

module _ (options : Options) (reports : Bool) (key input : List ℕ) (a : Answer) (m : Meta) (coding : Coding) (f : Front) (h : IsTaken options reports key input a m coding f) where
  abbrev s : Syntax
  s = coding.syntax

  abbrev head : Meta
  head = meta_without_identity options key m

  abbrev group : List ℕ
  group = new_meta head.elements m.uid

  abbrev left : Front
  left = deidentified options (made_new options key) f

  pub was_read : Read (deidentify options reports key) input m coding f
  was_read = read_of (deidentify options reports key) input m coding f h.answers.source h.source_is h.answers.reads

  pub by_standard : dictionary_of s ≡ Standard
  by_standard = let r = was_read in of_head Standard input m r.group coding r.head

  pub output_is : a.output ≡ written_file m.uid s head left
  output_is = ap (λ (x : Answer). x.output) h.answers.answer_is ∙ ap (λ (x : Source). (answer (deidentify options reports key) x).output) h.source_is

  pub set_is : drop (set_at group) a.output ≡ recode s left
  set_is = ap (drop (set_at group)) output_is ∙ behind_group no_preamble PREFIX group (recode s left) refl refl

  set_within : set_at group + length (recode s left) ≤ INPUT_LIMIT
  set_within =
      let size = all_size no_preamble PREFIX group (recode s left) refl refl in
      let whole = ap length output_is in
      let within = h.room.within in
      omega (arith, size, whole, within)

  pub takes : Takes options key s (set_at group) f
  takes =
      let r = was_read in
      record {
        by_standard = by_standard;
        start = set_at r.group;
        begins = begins_within input m r.group r.head.named r.head.head;
        bytes = drop (set_at r.group) input;
        are_bytes = bytes_drop (set_at r.group) input h.are_bytes;
        reads = r.set;
        within = set_within;
      }

  -- the head
  head_written : MetaReads (no_preamble ++ (PREFIX ++ (group ++ recode s left))) (begins (meta_again head m.uid) group was_read.head.named)
  head_written =
      let r = was_read in
      written_anew no_preamble head.elements m.uid (recode s left) r.head.named refl (left_group options key m.elements (group_read input m r.group r.head.named h.are_bytes r.head.head)) h.room.group_within
      (ends_by s (length group) left h.room.group_ends (laws.is_ready options key s (set_at group) f takes)) (names_read input m r.group r.head.named r.head.head)

  pub head_is : (e : Dictionary) → HeadIs e a.output (meta_again head m.uid) group (coding_by e coding)
  head_is e =
      let r = was_read in
      record {
        named = r.head.named;
        head = subst (λ (x : List ℕ). MetaReads x (begins (meta_again head m.uid) group r.head.named)) (sym (four_parts no_preamble PREFIX group (recode s left)) ∙ sym output_is) head_written;
        coding_is = ap (coding_by e) r.head.coding_is ∙ coding_twice e Standard r.head.named;
      }

  -- and the data set
  pub deidentified_reads : (e : Dictionary) → ReadsTaken e options key a m coding f
  deidentified_reads e =
      let by : Syntax = read_by e s in
      let again : Front = normal_front by left in
      let le : set_at group ≤ INPUT_LIMIT = let within = set_within in omega (arith, within) in
      let own : Reads (target_bar by) by (set_at group) (drop (set_at group) a.output) again complete =
      subst (λ (x : List ℕ). Reads (target_bar by) by (set_at group) x again complete) (sym set_is) (laws.deidentified_reads options key s (set_at group) f takes e)
      in
      record { head = head_is e; dumped = no_bar_reads by (set_at group) (drop (set_at group) a.output) again le own; converted = own }

  -- it is read in one way
  pub output_is_clean : InOutput Standard (λ s set. NothingIsLeft options key set) a
  output_is_clean source there =
      let r = deidentified_reads Standard in
      let again : Front = normal_front (read_by Standard s) left in
      let own : read_by Standard s ≡ s = ap (λ (d : Dictionary). read_by d s) (sym by_standard) ∙ own_dictionary s in
      let clean : NothingIsLeft options key again = subst (λ (k : Syntax). NothingIsLeft options key (normal_front k left)) (sym own) (laws.left_is_clean options key s (set_at group) f takes) in
      let one = one_source (dump Standard Full None) a.output source (file (meta_again head m.uid) (coding_by Standard coding) again complete) there
      (opened (meta_again head m.uid) group (coding_by Standard coding) again complete r.head refl r.dumped refl)
      in
      subst (OfWholeFile (λ s set. NothingIsLeft options key set)) (sym one) (refl, clean)

  -- the instance that it names in its head and in its data set
  pub instance_agrees : (options.uids ≡ false) ⊎ (is_big s ≡ false) → instance_of_head m ≡ instance_of_set (whole_of f) → (n : Meta) (c : Coding) (set : Front) (stop : Stop) → FileReads (dump Standard Full None) a.output (file n c set stop)
      → instance_of_head n ≡ instance_of_set (whole_of set)
  instance_agrees either same n c set stop there =
      let r = deidentified_reads Standard in
      let w = laws.was_ready options key s (set_at group) f takes in
      let by : Syntax = read_by Standard s in
      let again : Front = normal_front by left in
      let one = one_source (dump Standard Full None) a.output (file n c set stop) (file (meta_again head m.uid) (coding_by Standard coding) again complete) there
      (opened (meta_again head m.uid) group (coding_by Standard coding) again complete r.head refl r.dumped refl)
      in
      let metas : n ≡ meta_again head m.uid = cc in
      let sets : set ≡ again = cc in
      let left_set : Trees = set_with_all (said options) (deidentified_set options (made_new options key) Outermost w.trees) in
      let reached : Option Tag = last_tag None w.trees in
      let in_head : instance_of_head head ≡ instance_of_set left_set =
      uids_agree options key m reached w.trees (same ∙ ap (λ (g : Front). instance_of_set (whole_of g)) w.is) ∙ ap (λ (g : Front). instance_of_set (whole_of g)) (of_whole options (made_new options key) reached w.trees)
      in
      ap instance_of_head metas ∙ head_again m.uid head.elements ∙ in_head
      ∙ sym (written_names options key by w.trees (in_target either))
      ∙ sym (ap (λ (g : Front). instance_of_set (whole_of (normal_front by g))) (laws.left_is options key s (set_at group) f takes w.trees w.is))
      ∙ sym (ap (λ (g : Front). instance_of_set (whole_of g)) sets)
    where
      in_target : (options.uids ≡ false) ⊎ (is_big s ≡ false) → (options.uids ≡ false) ⊎ (is_big (read_by Standard s) ≡ false)
      in_target (inl new) = inl new
      in_target (inr little) = inr (big_by Standard s ∙ little)

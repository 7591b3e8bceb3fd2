-- What dcmodify has done is so in its output for other readers too.
use Rattle.std.proofs.Common.{◌≡◌, true, ◌∙◌, ap, sym, subst, refl, ℕ, List, ◌++◌, length, None, drop}
use Rattle.dcm_base.proofs.DataSets.After.{read_by_twice}
use Rattle.dcm_base.specs.declared.dictionary.Dictionary.{Dictionary}
use Rattle.dcm_base.specs.declared.dictionary.Dictionary.TheVariants.{Standard, Extract}
use Rattle.dcm_base.specs.declared.mode.Mode.TheVariants.{Full}
use Rattle.dcm_base.specs.declared.syntax.Coding.{Coding}
use Rattle.dcm_base.specs.declared.syntax.Syntax.{Syntax}
use Rattle.dcm_base.specs.declared.syntax.Syntax.TheVariants.{Implicit as implicit_in, Little as little_in, Big as big_in}
use Rattle.dcm_base.specs.declared.tag.Tag.{Tag}
use Rattle.dcm_base.specs.declared.vr.Vr.{Vr}
use Rattle.dcm_base.specs.Reading.Bars.{no_bar}
use Rattle.dcm_base.specs.Tree.Front.{Front}
use Rattle.dcm_base.specs.File.MetaGroup.{group_place, the_end}
use Rattle.dcm_base.specs.File.MetaReads.{Meta, PREFIX, begins}
use Rattle.dcm_base.specs.Conversion.NewMeta.{new_meta}
use Rattle.dcm_base.specs.Conversion.Normal.{normal_front}
use Rattle.dcm_base.specs.Conversion.Recode.{is_explicit, recode}
use Rattle.dcm_base.specs.Reading.Reads.{Reads}
use Rattle.dcm_base.specs.Reading.Stop.{complete}
use Rattle.dcm_base.specs.Tables.Syntax.{coding_by, dictionary_of, is_big, read_by}
use Rattle.dcm_edits.specs.Edit.{Edit, edited, erase_all, erase_private, modify_all}
use Rattle.dcm_editor_laws.specs.Everywhere.{Among, EverywhereIn, IsOther, IsPublic, IsWrittenJust}
use Rattle.dcm_editor_laws.specs.Modification.{Modifies}
use Rattle.dcm_editor_laws.specs.Others.{any_changes, set_without, KeepsSign}
use Rattle.dcm_editor_laws.specs.Readers.{HidesNothing, OpensAlike, ReadsBy}
use Rattle.dcm_editor_laws.proofs.ReadBack.EditedReads.{front_reads}
use Rattle.dcm_editor_laws.proofs.ReadBack.StaysReady.{FrontReady}
use Rattle.dcm_editor_laws.proofs.Readers.Bytes.{front_alike}
use Rattle.dcm_editor_laws.proofs.Readers.Hidden.{alike_hides, no_private_is_seen, none_is_seen}
use Rattle.dcm_editor_laws.proofs.Readers.NormalForms.{normal_fits, normal_fits_back}
use Rattle.dcm_editor_laws.proofs.Readers.Opened.{explicit_opens, front_ready_by}
use Rattle.dcm_editor_laws.proofs.Readers.Others as others
use Rattle.dcm_editor_laws.proofs.Readers.Renamed.{renamed}
use Rattle.dcm_base.proofs.DataSets.OwnSyntax.{own_reads}
use Rattle.dcm_head.proofs.MetaGroups.OneMeta.{one_meta}
use Rattle.dcm_sinks.specs.MetaAgain.{meta_again}
use Rattle.dcm_sinks.proofs.ReadBack.NewMetaReads.{own}
use Rattle.dcm_words.specs.Words.{dump, modify}
use Rattle.dcm_cli.specs.Answer.{Answer, FileReads, Source, answer, file, opened, set_at, written_file}
use Rattle.dcm_run_laws.specs.ReadsAgain.{HasRoom, InOutput, InWholeOutput, IsModified, IsRead, OfWholeFile}
use Rattle.dcm_cli.proofs.Runs.OneSource.{one_source}
use Rattle.dcm_cli.proofs.Runs.Sure.{beginnings_alike}
use Rattle.dcm_run_laws.proofs.ReadBack.OutputEdited.{in_output, modifies, was_read}
use Rattle.dcm_run_laws.proofs.ReadBack.ReadsAgain.{behind_group, long, modified_reads, of_head, read_of, written_reads}
use Rattle.dcm_editor_laws.proofs.ReadBack.Plain.{plain}

pub coding_twice : (e d : Dictionary) (c : Coding) → coding_by e (coding_by d c) ≡ coding_by e c
coding_twice e d c = ap (λ (x : Syntax). record { syntax = x; encapsulated = c.encapsulated }) (read_by_twice e d c.syntax)

big_alike : (e : Dictionary) (s : Syntax) → is_big (read_by e s) ≡ true → is_big s ≡ true
big_alike e (implicit_in d) big = big
big_alike e (little_in d) big = big
big_alike e (big_in d) big = big

module _ (d : Dictionary) (edits : List Edit) (input : List ℕ) (a : Answer) (m : Meta) (coding : Coding) (f : Front) (h : IsModified d edits input a m coding f) where
  abbrev s : Syntax
  s = coding.syntax

  abbrev group : List ℕ
  group = new_meta m.elements m.uid

  abbrev at : ℕ
  at = set_at group

  abbrev set : Front
  set = edited edits f

  done : Modifies edits s at f
  done = modifies d edits input a m coding f h

  ready : FrontReady (plain s) set
  ready = others.is_ready edits s at f done

  output_is : a.output ≡ written_file m.uid s m set
  output_is = ap (λ (x : Answer). x.output) h.answers.answer_is ∙ ap (λ (x : Source). (answer (modify d edits) x).output) h.source_is

  -- what is so in the output is so of the normal form
  in_own : (P : Syntax → Front → Type 0) → InOutput d P a → P s (normal_front s set)
  in_own P there =
      let r = modified_reads d edits input a m coding f h in
      (there (file (meta_again m m.uid) coding (normal_front s set) complete) (opened (meta_again m m.uid) group coding (normal_front s set) complete r.head refl r.dumped refl)).1

  -- what the edits may not change is there as it was
  pub output_keeps_others : KeepsSign s edits → InOutput d (λ to again. set_without (any_changes edits) again ≡ set_without (any_changes edits) (normal_front to f)) a
  output_keeps_others keep =
      in_output d edits input a m coding f h (λ to again. set_without (any_changes edits) again ≡ set_without (any_changes edits) (normal_front to f)) (others.stays_in edits s at f done s keep)

  module _ (e : Dictionary) where
    abbrev by : Syntax
    by = read_by e s

    abbrev seen : Front
    seen = normal_front by set

    module _ (in_it : InOutput d (OpensAlike e) a) where
      opens : OpensAlike e s set
      opens = normal_fits_back e s set (in_own (OpensAlike e) in_it)

      same : recode by set ≡ recode s set
      same = front_alike e s (plain s) set ready

      ready_by : FrontReady by set
      ready_by = front_ready_by e s set opens ready

      output_by : a.output ≡ written_file m.uid by m set
      output_by = output_is ∙ ap (λ (bytes : List ℕ). m.preamble ++ PREFIX ++ group ++ bytes) (sym same)

      room_by : HasRoom a.output m m.uid by set
      room_by = record {
        group_within = h.room.group_within;
        group_ends = λ big. subst (λ (bytes : List ℕ). group_place (length group) bytes ≡ the_end) (sym same) (h.room.group_ends (big_alike e s big));
        within = h.room.within;
      }

      is_read : IsRead e a.output (meta_again m m.uid) group (coding_by e coding) seen
      is_read =
          let r = was_read d edits input a m coding f h in
          written_reads input a.output m r.group m.uid r.head.named r.head.named e (coding_by e coding) (ap (coding_by e) r.head.coding_is ∙ coding_twice e d r.head.named) set r.head.head h.are_bytes
          output_by room_by ready_by (own input (recode by set) m r.head.named) (λ within. front_reads by at set ready_by within)

      -- the output is read in one way by the dictionary
      seen_by : (P : Syntax → Front → Type 0) → P by seen → InOutput e P a
      seen_by P p source there =
          let one = one_source (dump e Full None) a.output source (file (meta_again m m.uid) (coding_by e coding) seen complete) there
          (opened (meta_again m m.uid) group (coding_by e coding) seen complete is_read.head refl is_read.dumped refl)
          in
          subst (OfWholeFile P) (sym one) (refl, p)

      pub output_without_by : (tag : Tag) → Among (erase_all tag) edits → InOutput e (λ to again. EverywhereIn (IsOther tag) again) a
      output_without_by tag among = seen_by (λ to again. EverywhereIn (IsOther tag) again) (others.without_it edits s at f done e opens tag among)

      pub output_public_by : Among erase_private edits → InOutput e (λ to again. EverywhereIn IsPublic again) a
      output_public_by among = seen_by (λ to again. EverywhereIn IsPublic again) (others.without_private edits s at f done e opens among)

      pub output_modified_by : (tag : Tag) (vr : Vr) (value : List ℕ) → Among (modify_all tag vr value) edits → InOutput e (λ to again. EverywhereIn (IsWrittenJust to tag vr value) again) a
      output_modified_by tag vr value among = seen_by (λ to again. EverywhereIn (IsWrittenJust to tag vr value) again) (others.with_value edits s at f done e opens tag vr value among)

      pub output_keeps_others_by : KeepsSign by edits → InOutput e (λ to again. set_without (any_changes edits) again ≡ set_without (any_changes edits) (normal_front to f)) a
      output_keeps_others_by keep = seen_by (λ to again. set_without (any_changes edits) again ≡ set_without (any_changes edits) (normal_front to f)) (others.stays_in edits s at f done by keep)

      -- it is the data set that its own dictionary reads, with other representations
      pub output_alike : InOutput d (λ to own_set. InOutput e (λ to again. again ≡ normal_front to own_set) a) a
      output_alike =
          in_output d edits input a m coding f h (λ to own_set. InOutput e (λ to again. again ≡ normal_front to own_set) a) (seen_by (λ to again. again ≡ normal_front to (normal_front s set)) (sym (renamed e s set)))

  -- ---- readers from which it hides nothing

  set_is : drop at a.output ≡ recode s set
  set_is = let r = was_read d edits input a m coding f h in ap (drop at) output_is ∙ behind_group m.preamble PREFIX group (recode s set) (long input m r.group r.head.named r.head.head) refl

  module _ (e : Dictionary) where
    -- the data set that a dictionary reads in it
    set_read : (n : Meta) (c : Coding) (again : Front) → FileReads (dump e Full None) a.output (file n c again complete) → (c.syntax ≡ read_by e s) × ReadsBy e edits s at f again complete
    set_read n c again there =
        let w = read_of (dump e Full None) a.output n c again (file n c again complete) refl there in
        let r = modified_reads d edits input a m coding f h in
        let one = one_meta a.output (begins n w.group w.head.named) (begins (meta_again m m.uid) group r.head.named) w.head.head r.head.head in
        let k = beginnings_alike n (meta_again m m.uid) w.group group w.head.named r.head.named one in
        let coding_is : c ≡ coding_by e coding = w.head.coding_is ∙ ap (coding_by e) k.2 ∙ sym (coding_twice e d r.head.named) ∙ ap (coding_by e) (sym r.head.coding_is) in
        let syntax_is : c.syntax ≡ read_by e s = ap (λ (x : Coding). x.syntax) coding_is in
        let in_it : Reads no_bar c.syntax at (drop at a.output) again complete = subst (λ (x : List ℕ). Reads no_bar c.syntax (set_at x) (drop (set_at x) a.output) again complete) k.1 w.set in
        let in_set : Reads no_bar (read_by e s) at (recode s set) again complete =
        subst (λ (x : List ℕ). Reads no_bar (read_by e s) at x again complete) set_is (subst (λ (x : Syntax). Reads no_bar x at (drop at a.output) again complete) syntax_is in_it) in
        (syntax_is, own_reads (read_by e s) at (recode s set) again complete in_set)

    pub output_unseen : InOutput d (HidesNothing e) a → (tag : Tag) → Among (erase_all tag) edits → InWholeOutput e (λ to again. EverywhereIn (IsOther tag) again) a
    output_unseen hides tag among = λ n c again there. none_is_seen edits s at f again e tag done (in_own (HidesNothing e) hides) among (set_read n c again there).1

    pub output_private_unseen : InOutput d (HidesNothing e) a → Among erase_private edits → InWholeOutput e (λ to again. EverywhereIn IsPublic again) a
    output_private_unseen hides among = λ n c again there. no_private_is_seen edits s at f again e done (in_own (HidesNothing e) hides) among (set_read n c again there).1

    pub alike_output_hides : InOutput d (OpensAlike e) a → InOutput d (HidesNothing e) a
    alike_output_hides opens = in_output d edits input a m coding f h (HidesNothing e) (alike_hides e s set (normal_fits_back e s set (in_own (OpensAlike e) opens)))

  -- ---- who opens it alike

  -- it is the normal form of what was edited
  opens_it : (e : Dictionary) → OpensAlike e s set → InOutput d (OpensAlike e) a
  opens_it e opens = in_output d edits input a m coding f h (OpensAlike e) (normal_fits e s set opens)

  read_with : dictionary_of s ≡ d
  read_with = let r = was_read d edits input a m coding f h in of_head d input m r.group coding r.head

  pub explicit_output_opens : is_explicit s ≡ true → InOutput d (OpensAlike Extract) a
  explicit_output_opens is = opens_it Extract (explicit_opens s set is)

  pub own_output_opens : InOutput d (OpensAlike d) a
  own_output_opens = opens_it d (subst (λ (k : Dictionary). OpensAlike k s set) read_with (others.own_opens_alike edits s at f done h.stays))

  pub standard_output_opens : (e : Dictionary) → d ≡ Standard → InOutput d (OpensAlike e) a
  standard_output_opens e is = opens_it e (others.standard_opens_alike edits s at f done h.stays e (read_with ∙ is))

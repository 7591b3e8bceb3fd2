-- Runs of dcmdeid that move dates, move them back, and move them again.
use Rattle.std.proofs.Common.{◌≡◌, ◌∙◌, ap, sym, subst, refl, ℕ, ℤ, ◌≤◌, List, [], ◌++◌, length, Bool, arith}
use Rattle.std.specs.Prelude.{◌⊎◌, neg_ℤ}
use Rattle.dcm_base.specs.declared.syntax.Coding.{Coding}
use Rattle.dcm_base.specs.declared.syntax.Syntax.{Syntax}
use Rattle.dcm_base.specs.Conversion.NewMeta.{new_meta}
use Rattle.dcm_base.specs.Conversion.Normal.{normal_front}
use Rattle.dcm_base.specs.Conversion.Recode.{recode}
use Rattle.dcm_base.specs.File.MetaGroup.{META_LIMIT, group_place, the_end}
use Rattle.dcm_base.specs.File.MetaReads.{Meta, PREFIX}
use Rattle.dcm_base.specs.Reading.Reads.{INPUT_LIMIT}
use Rattle.dcm_base.specs.Reading.Stop.{complete}
use Rattle.dcm_base.specs.Tables.Syntax.{Little}
use Rattle.dcm_base.specs.Tree.Front.{Front}
use Rattle.dcm_base.proofs.DumpsBack.Numbers.{Bytes-append}
use Rattle.dcm_base.proofs.DumpsBack.Texts.{Bytes, bytes_of}
use Rattle.dcm_sinks.specs.MetaAgain.{meta_again}
use Rattle.dcm_sinks.proofs.ReadBack.Sources.{a_byte}
use Rattle.dcm_build_laws.proofs.Rebuilds.FilesBuild.{headed}
use Rattle.dcm_editor.proofs.ReadBack.BytesRead.{HoldsBytes, trees_read}
use Rattle.dcm_deid.specs.Alike.{moving}
use Rattle.dcm_deid.specs.MadeNew.{made_new}
use Rattle.dcm_deid.specs.declared.fate.Options.{Options}
use Rattle.dcm_deid.specs.Meta.{meta_without_identity, no_preamble}
use Rattle.dcm_deid.specs.Saying.{deidentified}
use Rattle.dcm_deid_laws.specs.Laws.{MovesDatesAlone}
use Rattle.dcm_deid_laws.proofs.Back.Bytes.{group_bytes, no_preamble_bytes, prefix_bytes}
use Rattle.dcm_deid_laws.proofs.Back.Framed.{IsFramed, framed_ends}
use Rattle.dcm_deid_laws.proofs.ReadsAgain as laws
use Rattle.dcm_words.specs.Words.{Job, deidentify}
use Rattle.dcm_cli.specs.Answer.{Answer, Answers, Source, answer, done_lines, file, set_at, written_file}
use Rattle.dcm_run_laws.specs.Laws.{ThereAndBack}
use Rattle.dcm_run_laws.specs.ReadsAgain.{IsTaken}
use Rattle.dcm_cli.proofs.Runs.OneSource.{one_source}
use Rattle.dcm_run_laws.proofs.ReadBack.DeidentifiedReads.{output_is, takes, was_read}
use Rattle.dcm_run_laws.proofs.ReadBack.DeidentifiedTwice.{group_twice, read_again}
use Rattle.dcm_run_laws.proofs.ReadBack.ModifiedTwice.{zero_or_three}
use Rattle.dcm_run_laws.proofs.ReadBack.ReadsAgain.{all_size}

module _ (options : Options) (reports : Bool) (days : ℤ) (key input : List ℕ) (a b : Answer) (m : Meta) (coding : Coding) (f : Front) (given : MovesDatesAlone options) (h : IsTaken (moving options days) reports key input a m coding f) where
  abbrev s : Syntax
  s = coding.syntax

  abbrev there : Options
  there = moving options days

  abbrev away : Options
  away = moving options (neg_ℤ days)

  abbrev job : Job
  job = deidentify there reports key

  abbrev without : Options → Front → Front
  without by x = deidentified by (made_new by key) x

  -- what the second run reads
  abbrev again : Meta
  again = meta_again (meta_without_identity there key m) m.uid

  abbrev set_again : Front
  set_again = normal_front s (without there f)

  -- and the third one
  abbrev last : Meta
  last = meta_again (meta_without_identity away key again) m.uid

  abbrev last_set : Front
  last_set = normal_front s (without away set_again)

  abbrev group : List ℕ
  group = new_meta (meta_without_identity there key m).elements m.uid

  module _ (k : IsTaken away reports key a.output b again coding set_again) where
    answered : (c : Answer) → Answers job b.output c → c ≡ answer job (file last coding last_set complete)
    answered c y =
        y.answer_is ∙ ap (answer job) (one_source job b.output y.source (file last coding last_set complete) y.reads (read_again away reports key a.output b again coding set_again k there))

    groups : new_meta (meta_without_identity there key last).elements m.uid ≡ group
    groups = group_twice away reports key a.output b again coding set_again k given.0 ∙ group_twice there reports key input a m coding f h given.0

    same_output : (answer job (file last coding last_set complete)).output ≡ a.output
    same_output =
        ap (λ (bytes : List ℕ). no_preamble ++ PREFIX ++ bytes ++ recode s (without there last_set)) groups
        ∙ ap (λ (bytes : List ℕ). no_preamble ++ PREFIX ++ group ++ bytes) (laws.there_and_back options key days s (set_at group) f (takes there reports key input a m coding f h) given)
        ∙ sym (output_is there reports key input a m coding f h)

    pub third_answer : (c : Answer) → Answers job b.output c → (c.output ≡ a.output) × ((c.status ≡ 0) ⊎ (c.status ≡ 3))
    third_answer c y =
        let is = answered c y in
        (ap (λ (x : Answer). x.output) is ∙ same_output, zero_or_three c.status (done_lines job last_set) (ap (λ (x : Answer). x.status) is))

  -- ---- the second run is on a file without fault

  abbrev group_again : List ℕ
  group_again = new_meta (meta_without_identity away key again).elements m.uid

  same_group : group_again ≡ group
  same_group = group_twice there reports key input a m coding f h given.0

  framed : IsFramed (recode s (without away set_again)) (recode s (without there f))
  framed = laws.moved_back_framed options key days s (set_at group) f (takes there reports key input a m coding f h) given

  -- what the first one wrote is bytes
  output_bytes : Bytes a.output
  output_bytes =
      let r = was_read there reports key input a m coding f h in
      let head = headed input m r.group r.head.named r.head.head in
      let elements : HoldsBytes m.elements = (trees_read Little m.elements r.group [] head.spelled (head.bytes (bytes_of input h.are_bytes))).0 in
      let set : Bytes (recode s (without there f)) = laws.left_bytes options key days s (set_at group) f (takes there reports key input a m coding f h) given in
      subst Bytes (sym (output_is there reports key input a m coding f h))
      (Bytes-append (no_preamble ++ PREFIX ++ group) (recode s (without there f))
      (Bytes-append (no_preamble ++ PREFIX) group (Bytes-append no_preamble PREFIX no_preamble_bytes prefix_bytes) (group_bytes there key given.0 m.elements m.uid elements head.uid_is)) set)

  module _ (y : Answers (deidentify away reports key) a.output b) where
    second_source : y.source ≡ file again coding set_again complete
    second_source = one_source (deidentify away reports key) a.output y.source (file again coding set_again complete) y.reads (read_again there reports key input a m coding f h away)

    second_output : b.output ≡ written_file m.uid s (meta_without_identity away key again) (without away set_again)
    second_output = ap (λ (x : Answer). x.output) y.answer_is ∙ ap (λ (x : Source). (answer (deidentify away reports key) x).output) second_source

    within : length b.output ≤ INPUT_LIMIT
    within =
        let size = ap length second_output ∙ all_size no_preamble PREFIX group_again (recode s (without away set_again)) refl refl in
        let was = ap length (output_is there reports key input a m coding f h) ∙ all_size no_preamble PREFIX group (recode s (without there f)) refl refl in
        let groups = ap length same_group in
        let sets = framed.size in
        let few = h.room.within in
        omega (arith, size, was, groups, sets, few)

    pub second_taken : IsTaken away reports key a.output b again coding set_again
    second_taken = record {
      are_bytes = λ i. a_byte a.output i output_bytes;
      answers = y;
      source_is = second_source;
      room = record {
        group_within = subst (λ (x : List ℕ). length x ≤ META_LIMIT) (sym same_group) h.room.group_within;
        group_ends = λ e. framed_ends (length group_again) (recode s (without away set_again)) (recode s (without there f)) framed
            (subst (λ (x : List ℕ). group_place (length x) (recode s (without there f)) ≡ the_end) (sym same_group) (h.room.group_ends e));
        within = within;
      };
    }

pub there_and_back : ThereAndBack
there_and_back options reports days key input a b c m coding f h given y z =
    third_answer options reports days key input a b m coding f given h (second_taken options reports days key input a b m coding f given h y) c z

-- What dump2dcm answers to the full dump of a sound file.
use Rattle.std.proofs.Common.{◌≡◌, ◌∙◌, ap, sym, subst, ℕ, ◌≤◌, List, ◌++◌, drop, None, replicate}
use Rattle.std.proofs.lemmas.List.{drop_at}
use Rattle.dcm_base.specs.declared.dictionary.Dictionary.{Dictionary}
use Rattle.dcm_base.specs.declared.mode.Mode.TheVariants.{Full}
use Rattle.dcm_base.specs.declared.syntax.Coding.{Coding}
use Rattle.dcm_base.specs.Tree.Tree.{Trees}
use Rattle.dcm_base.specs.Lines.Ascending.{Ascend}
use Rattle.dcm_base.specs.Conversion.NewMeta.{new_meta}
use Rattle.dcm_base.specs.Conversion.Recode.{recode_set}
use Rattle.dcm_base.specs.File.MetaReads.{Meta, PREFIX}
use Rattle.dcm_base.specs.Tables.Number.{AreBytes}
use Rattle.dcm_build_laws.specs.DumpBuilds.{FitsLines, WholeUnits}
use Rattle.dcm_words.specs.Words.{GREATEST_LIMIT, build, convert, dump}
use Rattle.dcm_cli.specs.Answer.{Answer, Answers}
use Rattle.dcm_run_laws.proofs.ReadBack.DumpBuilds.{dump_builds}
use Rattle.dcm_run_laws.proofs.ReadBack.ReadsAgain.{four_parts}
use Rattle.dcm_cli.proofs.Runs.OneAnswer.{some_answer}
use Rattle.dcm_sound.specs.Laws.{all_done, file_dump, new_file}
use Rattle.dcm_sound.specs.Sound.{IsSound}
use Rattle.dcm_sound.proofs.Converted.{converts_sound}
use Rattle.dcm_sound.proofs.Dumped.{dump_reads, dumps_sound}

-- another preamble
renamed : (old new group set : List ℕ) (out : List ℕ) → out ≡ old ++ PREFIX ++ group ++ set → drop 128 (old ++ (PREFIX ++ (group ++ set))) ≡ PREFIX ++ (group ++ set) → new ++ drop 128 out ≡ new ++ PREFIX ++ group ++ set
renamed old new group set out is behind =
    ap (λ (x : List ℕ). new ++ drop 128 x) (is ∙ four_parts old PREFIX group set) ∙ ap (λ (x : List ℕ). new ++ x) behind ∙ sym (four_parts new PREFIX group set)

module _ (d : Dictionary) (bytes : List ℕ) (m : Meta) (coding : Coding) (set : Trees) (h : IsSound d bytes m coding set) where
  pub builds_sound : (limit : ℕ) (a : Answer) → AreBytes bytes → WholeUnits m.elements → WholeUnits set → Ascend None set → limit ≤ GREATEST_LIMIT → FitsLines limit (file_dump d Full m set) → Answers (build limit) (file_dump d Full m set) a
      → a ≡ all_done (new_file m.uid coding.syntax (record m { preamble = replicate 128 0 }) set)
  builds_sound limit a are group_units units ascends le fits y =
      let dumped = some_answer (dump d Full None) bytes in
      let converted = some_answer (convert d None) bytes in
      let dump_is : dumped.0.output ≡ file_dump d Full m set = ap (λ (x : Answer). x.output) (dumps_sound d bytes m coding set h Full dumped.0 dumped.1) in
      let out_is : converted.0.output ≡ new_file m.uid coding.syntax m set = ap (λ (x : Answer). x.output) (converts_sound d bytes m coding set h None converted.0 tt converted.1) in
      let b = dump_builds d limit bytes dumped.0 a converted.0 le
      (record { bytes = are; meta = m; coding = coding; set = set; reads = dump_reads d bytes m coding set h Full; units_of_group = group_units; units = units; ascends = ascends }) dumped.1
      (subst (FitsLines limit) (sym dump_is) fits) (subst (λ (x : List ℕ). Answers (build limit) x a) (sym dump_is) y) converted.1 in
      let group : List ℕ = new_meta m.elements m.uid in
      let contents : List ℕ = recode_set coding.syntax set in
      let output : a.output ≡ new_file m.uid coding.syntax (record m { preamble = replicate 128 0 }) set =
      b.output ∙ renamed m.preamble (replicate 128 0) group contents converted.0.output out_is (drop_at m.preamble (PREFIX ++ (group ++ contents)) 128 h.preamble_size) in
      λ i. record { output = output i; lines = b.lines i; status = b.status i }

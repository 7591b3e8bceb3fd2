-- A full dump builds its file again.
use Rattle.std.proofs.Common.{◌≡◌, ◌∙◌, ap, sym, refl, subst, ℕ, ◌≤◌, List, [], ◌∷◌, ◌++◌, length, take, replicate, codes, cond, Option, Some, None, Bool, true, false, ◌&&◌, not, arith}
use Rattle.std.specs.Prelude.{find, flat_map, bytes_eq, nat_le, is_none, is_some}
use Rattle.std.specs.List.{list_all}
use Rattle.std.specs.Option.{option_map_or}
use Rattle.std.proofs.lemmas.Bool.{le-ltb}
use Rattle.std.proofs.lemmas.List.{append-nil}
use Rattle.std.proofs.lemmas.List.Folds.{list_all-append}
use Rattle.dcm_lemmas.proofs.Options.{mapped}
use Rattle.dcm_lemmas.proofs.Truth.{or_second}
use Rattle.dcm_base.specs.declared.tag.Tag.{Tag}
use Rattle.dcm_base.specs.declared.syntax.Coding.{Coding}
use Rattle.dcm_base.specs.declared.fault.LineFault.{LineFault}
use Rattle.dcm_base.specs.declared.fault.LineFault.TheVariants.{NoTransferSyntax, EndsEarly}
use Rattle.dcm_base.specs.declared.mode.Mode.TheVariants.{Full}
use Rattle.dcm_base.specs.Dump.Dump.{dump_set}
use Rattle.dcm_base.specs.Tree.Front.{Front, front, nothing_open}
use Rattle.dcm_base.specs.Dump.Header.{identifier_byte, syntax_name, set_header, meta_header}
use Rattle.dcm_base.specs.File.MetaReads.{PREFIX}
use Rattle.dcm_base.specs.Conversion.NewMeta.{new_meta}
use Rattle.dcm_base.specs.Reading.Reads.{INPUT_LIMIT}
use Rattle.dcm_base.specs.Conversion.Recode.{recode, recode_set}
use Rattle.dcm_base.specs.Reading.Size.{trees_size}
use Rattle.dcm_base.specs.Bytes.Spelling.{last_tag}
use Rattle.dcm_base.specs.Tree.Tree.{Trees, no_tree}
use Rattle.dcm_base.specs.Tables.Uid.{Named, uids, uid_name}
use Rattle.dcm_base.specs.Lines.Build.{Built, Progress, Lines, lines, lines_of, built, built_cut, built_whole, built_bytes, nothing_built, usable, named_syntax, named_coding, coding_or_little, with_meaning, at_start, at_input_end, end_checks, first_fault, meta_has_ended, tell, is_the_top, innermost, open_levels, rebuilt}
use Rattle.dcm_base.specs.declared.fault.LineStop.{LineStop}
use Rattle.dcm_base_laws.proofs.DumpsBack.Fields.{all_printed}
use Rattle.dcm_base.proofs.DumpsBack.Texts.{Bytes, bytes_of}
use Rattle.dcm_base.proofs.DumpsBack.Values.{found}
use Rattle.dcm_base_laws.proofs.DumpsBack.Losses.{recodes_same}
use Rattle.dcm_base.specs.declared.dictionary.Dictionary.{Dictionary}
use Rattle.dcm_build_laws.specs.DumpBuilds.{full_dump, CanBuild, FitsLines, BuildsFile}
use Rattle.dcm_base.specs.Lines.Limits.{LINE_LIMIT}
use Rattle.dcm_build_laws.specs.DumpLines.{joined, set_steps, AllWithin}
use Rattle.dcm_build.proofs.Files.Lines.{run_lines}
use Rattle.dcm_build.proofs.Files.OpenContainers.{standing_in, all_alike}
use Rattle.dcm_build_laws.proofs.Rebuilds.DumpLines.{set_means}
use Rattle.dcm_build_laws.proofs.Rebuilds.LinesLead.{is_printed, TextLeads, text_leads, texts_lead, silent_line, lines_of_text, lines_run}
use Rattle.dcm_build_laws.proofs.Rebuilds.MetaBuilds.{group_built, group_leads, same_syntax, same_group}
use Rattle.dcm_build_laws.proofs.Rebuilds.StepsBuild.{all_built}
use Rattle.dcm_build_laws.proofs.Rebuilds.Unmarked.{used_is_silent, identifier_is_printed}

-- ---- the header

has_printed_name : Named → Bool
has_printed_name u = list_all (λ c. nat_le 32 c) u.1

all_names : list_all has_printed_name uids ≡ true
unfolding uids has_printed_name
all_names = refl

name_is_printed : (uid name : List ℕ) → uid_name uid ≡ Some name → is_printed name ≡ true
unfolding uid_name has_printed_name
name_is_printed uid name p =
    let m = mapped (λ (u : Named). u.1) (find (λ (u : Named). bytes_eq u.0 uid) uids) name p in
    let q = found (λ u. bytes_eq u.0 uid) has_printed_name uids m.0 all_names m.1 in
    subst (λ n. is_printed n ≡ true) m.2 q.0

syntax_is_printed : (uid : List ℕ) → Bytes uid → is_printed (syntax_name uid) ≡ true
syntax_is_printed uid h = by_name (uid_name uid) refl
  where
    by_name : (o : Option (List ℕ)) → uid_name uid ≡ o → is_printed (option_map_or (λ name. name) o (flat_map identifier_byte uid)) ≡ true
    by_name None e = all_printed (flat_map identifier_byte uid) (identifier_is_printed uid h)
    by_name (Some name) e = name_is_printed uid name e

abbrev dump_head : List ℕ
dump_head = joined (codes "# Dicom-File-Format" ∷ [] ∷ codes "# Dicom-Meta-Information-Header" ∷ codes "# Used TransferSyntax: LittleEndianExplicit" ∷ [])

head_leads : (b : Built) → TextLeads dump_head b b
head_leads b = record {
  its_lines = codes "# Dicom-File-Format" ∷ [] ∷ codes "# Dicom-Meta-Information-Header" ∷ codes "# Used TransferSyntax: LittleEndianExplicit" ∷ [];
  is = refl;
  printed = (refl, (refl, (refl, (refl, tt))));
  leads = λ w. (b, refl, (b, refl, (b, refl, (b, refl, refl))));
}

header_is : (d : Dictionary) (meta : Trees) → meta_header d Full meta ≡ (dump_head ++ dump_set d Full 0 meta) ++ 10 ∷ []
header_is d meta = refl

used_printed : (name : List ℕ) → is_printed name ≡ true → is_printed (codes "# Used TransferSyntax: " ++ name) ≡ true
used_printed name h = list_all-append (λ c. nat_le 32 c) (codes "# Used TransferSyntax: ") name ∙ h

set_header_leads : (uid : List ℕ) (b : Built) → Bytes uid → TextLeads (set_header uid) b b
set_header_leads uid b h = record {
  its_lines = codes "# Dicom-Data-Set" ∷ (codes "# Used TransferSyntax: " ++ syntax_name uid) ∷ [];
  is = refl;
  printed = (refl, (used_printed (syntax_name uid) (syntax_is_printed uid h), tt));
  leads = λ w. (b, refl, (b, ap (λ m. with_meaning m b) (used_is_silent uid h), refl));
}

-- ---- the end of the input

no_fault_at_end : (e n t : Bool) → n ≡ false → t ≡ true → first_fault ((not e && n, NoTransferSyntax) ∷ (not t, EndsEarly) ∷ []) ≡ None
no_fault_at_end true false true hn ht = refl
no_fault_at_end false false true hn ht = refl
no_fault_at_end e n t hn ht = absurd (cc)

top_is_open : (whole : Trees) (reached : Option Tag) → is_the_top (innermost (open_levels (front whole nothing_open reached false))) ≡ true
unfolding standing_in
top_is_open whole reached = ap is_the_top (sym (all_alike (front whole nothing_open reached false)).container)

within_more : (m n : ℕ) → m ≤ n → (ls : List (List ℕ)) → AllWithin m ls → AllWithin n ls
within_more m n h [] w = tt
within_more m n h (l ∷ ls) w = let k = w.0 in (omega (arith, h, k), within_more m n h ls w.1)

abbrev by_told : ℕ → Option LineStop → Option LineFault → Progress → Progress
by_told size told fault p = elim told as (λ x. Progress) [
  | Some t ↦ p
  | None ↦ elim fault as (λ x. Progress) [ Some f ↦ tell f size p.line (record p { built = meta_has_ended p.built }) | None ↦ record p { built = meta_has_ended p.built } ]
]

module _ (d : Dictionary) (meta : Trees) (coding : Coding) (set : Trees) (h : CanBuild meta coding set) where
  again : named_coding (rebuilt meta) ≡ Some coding
  again = ap usable (same_syntax meta) ∙ h.named

  -- what the lines build
  abbrev uid : List ℕ
  uid = named_syntax meta

  record All : Type 0 where
    last : Built
    meta_is : last.meta ≡ rebuilt meta
    set_is : last.set ≡ front (rebuilt set) nothing_open (last_tag None set) false
    leads : TextLeads (full_dump d meta set) nothing_built last

  all : All
  unfolding trees_size
  all =
      let mid : Built = group_built (rebuilt meta) in
      let size = h.size in
      let c = all_built coding set h.ascends h.stands mid again refl in
      let group : TextLeads (meta_header d Full meta) nothing_built mid =
      texts_lead (dump_head ++ dump_set d Full 0 meta) (10 ∷ []) nothing_built mid mid
      (texts_lead dump_head (dump_set d Full 0 meta) nothing_built nothing_built mid (head_leads nothing_built)
      (text_leads (dump_set d Full 0 meta) (set_steps meta) nothing_built mid (set_means d 0 meta h.group_reads) (group_leads no_tree meta h.group (omega (arith, size)))))
      (silent_line [] mid refl refl) in
      record {
        last = c.0;
        meta_is = c.2;
        set_is = c.3;
        leads = texts_lead (meta_header d Full meta ++ set_header uid) (dump_set d Full 0 set) nothing_built mid c.0
            (texts_lead (meta_header d Full meta) (set_header uid) nothing_built mid mid group (set_header_leads uid mid (bytes_of uid h.syntax)))
            (text_leads (dump_set d Full 0 set) (set_steps set) mid c.0 (set_means d 0 set h.reads) c.1);
      }

  file_by : (m : Trees) (f : Front) (e : Bool) → m ≡ rebuilt meta → f ≡ front (rebuilt set) nothing_open (last_tag None set) false
      → built_bytes (meta_has_ended (record { meta = m; meta_ended = e; set = f })) ≡ replicate 128 0 ++ PREFIX ++ new_meta meta uid ++ recode_set coding.syntax set
  unfolding recode
  file_by m f e is set_is =
      ap (λ (x : Trees). built_bytes (meta_has_ended (record { meta = x; meta_ended = e; set = f }))) is
      ∙ ap (λ (x : Front). built_bytes (meta_has_ended (record { meta = rebuilt meta; meta_ended = e; set = x }))) set_is
      ∙ ap (λ (t : Bool). cond t (replicate 128 0 ++ PREFIX ++ new_meta (rebuilt meta) (named_syntax (rebuilt meta)) ++ recode (coding_or_little (named_coding (rebuilt meta))) (front (rebuilt set) nothing_open (last_tag None set) false)) [])
      (or_second e (is_some (named_coding (rebuilt meta))) (ap is_some again))
      ∙ ap (λ (u : List ℕ). replicate 128 0 ++ PREFIX ++ new_meta (rebuilt meta) u ++ recode (coding_or_little (named_coding (rebuilt meta))) (front (rebuilt set) nothing_open (last_tag None set) false)) (same_syntax meta)
      ∙ ap (λ (g : List ℕ). replicate 128 0 ++ PREFIX ++ g ++ recode (coding_or_little (named_coding (rebuilt meta))) (front (rebuilt set) nothing_open (last_tag None set) false)) (same_group uid meta h.group)
      ∙ ap (λ (c : Option Coding). replicate 128 0 ++ PREFIX ++ new_meta meta uid ++ recode (coding_or_little c) (front (rebuilt set) nothing_open (last_tag None set) false)) again
      ∙ ap (λ (bs : List ℕ). replicate 128 0 ++ PREFIX ++ new_meta meta uid ++ bs) (append-nil (recode_set coding.syntax (rebuilt set)) ∙ recodes_same coding.syntax set)

  no_end_fault : (m : Trees) (f : Front) (e : Bool) → m ≡ rebuilt meta → f ≡ front (rebuilt set) nothing_open (last_tag None set) false → first_fault (end_checks (record { meta = m; meta_ended = e; set = f })) ≡ None
  no_end_fault m f e is set_is =
      no_fault_at_end e (is_none (named_coding m)) (is_the_top (innermost (open_levels f))) (ap (λ (x : Trees). is_none (named_coding x)) is ∙ ap is_none again)
      (ap (λ (x : Front). is_the_top (innermost (open_levels x))) set_is ∙ top_is_open (rebuilt set) (last_tag None set))

  module _ (limit : ℕ) (allowed : limit ≤ LINE_LIMIT) (fits : FitsLines limit (full_dump d meta set)) where
    abbrev text : List ℕ
    text = full_dump d meta set

    abbrev ran : Progress
    ran = run_lines limit at_start all.leads.its_lines

    split : lines_of text ≡ lines all.leads.its_lines []
    split = lines_of_text text all.leads.its_lines all.leads.is all.leads.printed

    within : AllWithin limit all.leads.its_lines
    within = subst (λ (l : Lines). AllWithin limit l.ended) split fits.lines

    runs : (ran.told ≡ None) × (ran.built ≡ all.last)
    runs = lines_run limit all.leads.its_lines at_start nothing_built all.last all.leads.printed within refl refl (all.leads.leads (within_more limit LINE_LIMIT allowed all.leads.its_lines within))

    whole : built limit text ≡ at_input_end (length text) ran
    unfolding built
    whole =
        ap (λ (t : Bool). elim t as (λ x. Progress) [ true ↦ built_cut limit (lines_of (take INPUT_LIMIT text)) | false ↦ built_whole limit (length text) (lines_of text) ]) (le-ltb INPUT_LIMIT (length text) fits.size)
        ∙ ap (built_whole limit (length text)) split

    ended : at_input_end (length text) ran ≡ record ran { built = meta_has_ended ran.built }
    ended =
        ap (λ (o : Option LineStop). by_told (length text) o (first_fault (end_checks ran.built)) ran) runs.0
        ∙ ap (λ (o : Option LineFault). by_told (length text) None o ran) (ap (λ (b : Built). first_fault (end_checks b)) runs.1 ∙ no_end_fault all.last.meta all.last.set all.last.meta_ended all.meta_is all.set_is)

    pub dump_builds_file : BuildsFile limit text meta coding set
    dump_builds_file = record {
      no_fault = ap (λ (p : Progress). p.told) (whole ∙ ended) ∙ runs.0;
      file = ap (λ (p : Progress). built_bytes p.built) (whole ∙ ended) ∙ ap (λ (b : Built). built_bytes (meta_has_ended b)) runs.1 ∙ file_by all.last.meta all.last.set all.last.meta_ended all.meta_is all.set_is;
    }

pub dump_builds : (d : Dictionary) (limit : ℕ) (meta : Trees) (coding : Coding) (set : Trees) → limit ≤ LINE_LIMIT → CanBuild meta coding set → FitsLines limit (full_dump d meta set) → BuildsFile limit (full_dump d meta set) meta coding set
dump_builds d limit meta coding set allowed h fits = dump_builds_file d meta coding set h limit allowed fits

-- A file of which dcmdump says that all was done is sound.
use Rattle.std.proofs.Common.{◌≡◌, ◌≢◌, ◌∙◌, ap, sym, refl, subst, ℕ, ◌+◌, ◌≤◌, List, [], ◌∷◌, ◌++◌, length, drop, None, Bool, true, false, cond, not, Result, Ok, Err, arith}
use Rattle.std.specs.Prelude.{◌==◌, nat_lt}
use Rattle.std.proofs.lemmas.Bool.{eqb-false, ltb-false}
use Rattle.dcm_base.specs.declared.dictionary.Dictionary.{Dictionary}
use Rattle.dcm_base.specs.declared.mode.Mode.{Mode}
use Rattle.dcm_base.specs.declared.fault.Fault.TheVariants.{BadMeta, MetaTooLarge}
use Rattle.dcm_base.specs.declared.tag.Tag.{Tag}
use Rattle.dcm_base.specs.declared.vr.Vr.{Vr}
use Rattle.dcm_base.specs.declared.syntax.Coding.{Coding}
use Rattle.dcm_base.specs.declared.syntax.Syntax.{Syntax}
use Rattle.dcm_base.specs.declared.transfer.Deflated.{Deflated as DeflatedSyntax}
use Rattle.dcm_base.specs.Tree.Tree.{Trees}
use Rattle.dcm_base.specs.Tree.Front.{Front}
use Rattle.dcm_base.specs.Tables.Number.{AreBytes, number}
use Rattle.dcm_base.specs.Tables.Syntax.{Little, coding_by}
use Rattle.dcm_base.specs.Tables.Transfer.{coding_of, without_pads}
use Rattle.dcm_base.specs.Bytes.Head.{vr_at}
use Rattle.dcm_base.specs.Bytes.Spelling.{TreesAt}
use Rattle.dcm_base.specs.File.MetaGroup.{GroupPlace, an_element, the_end, too_few, a_fault, group_place, group_place_of_vr}
use Rattle.dcm_base.specs.File.MetaReads.{Meta, MetaReads, PREFIX, answer_behind, begins, coded, named, no_prefix, syntax_value, too_short, with_group}
use Rattle.dcm_base.specs.Reading.Bars.{no_bar}
use Rattle.dcm_base.specs.Reading.Reads.{INPUT_LIMIT, Reads, at_the_cut}
use Rattle.dcm_base.specs.Reading.Stop.{Stop, complete, refused}
use Rattle.dcm_base.specs.Steps.Atoms.{ends}
use Rattle.dcm_editor_laws.proofs.Readers.WholeReads.{cut_never}
use Rattle.dcm_head.proofs.MetaGroups.Elements.{vr_not_end}
use Rattle.dcm_sinks.proofs.ReadBack.RecodeReads.{source_fine, source_whole}
use Rattle.dcm_sinks.proofs.ReadBack.WrittenRead.{target_heads}
use Rattle.dcm_value.proofs.ReadBack.Units.{bytes_drop}
use Rattle.dcm_words.specs.Words.{dump}
use Rattle.dcm_cli.specs.Answer.{Answer, Answers, FileReads, Source, answer, not_changed, not_opened, opened, set_at, stop_status}
use Rattle.dcm_cli.specs.Status.{DONE, FAULT}
use Rattle.dcm_run_laws.proofs.ReadBack.ReadsAgain.{all_size, behind_group, four_parts}
use Rattle.dcm_sound.specs.Sound.{IsSound}
use Rattle.dcm_sound.proofs.DoneSets.{are_data}

-- ---- the head

-- m and group are those of a head, which names this coding
record Same (m meta : Meta) (group there : List ℕ) (coding : Coding) : Type 0 where
  groups : group ≡ there
  some : meta.uid ≢ []
  names : coding_of meta.uid ≡ Ok coding

by_coding : (m meta : Meta) (g group : List ℕ) (c : Coding) (r : Result Coding DeflatedSyntax) → coding_of meta.uid ≡ r → begins m g c ≡ coded meta group r → (g ≡ group) × (coding_of meta.uid ≡ Ok c)
by_coding m meta g group c (Ok d) k e = (cc, k ∙ cc)
by_coding m meta g group c (Err x) k e = cc

by_uid : (m meta : Meta) (g group : List ℕ) (c : Coding) (uid : List ℕ) → meta.uid ≡ uid → begins m g c ≡ named meta group uid → Same m meta g group c
by_uid m meta g group c [] is e = cc
by_uid m meta g group c (x ∷ uid) is e =
    let k = by_coding m meta g group c (coding_of meta.uid) refl e in
    record { groups = k.0; some = λ none. (let no : x ∷ uid ≡ [] = sym is ∙ none in cc); names = k.1 }

-- and the group has ended
by_place : (m : Meta) (g : List ℕ) (c : Coding) (size : ℕ) (preamble : List ℕ) (elements : Trees) (group : List ℕ) (behind : GroupPlace) → begins m g c ≡ answer_behind size preamble elements group behind
    → (behind ≡ the_end) × Same m (record { preamble = preamble; elements = elements; uid = without_pads (syntax_value elements) }) g group c
by_place m g c size preamble elements group the_end e = (refl, by_uid m _ g group c (without_pads (syntax_value elements)) refl e)
by_place m g c size preamble elements group too_few e = cc
by_place m g c size preamble elements group (a_fault fault) e = cc
by_place m g c size preamble elements group (an_element tag vr head value) e = cc

-- another element or a fault is no end
by_tests : (a b c : Bool) (tag : Tag) (vr : Vr) (head size : ℕ) → cond a (a_fault BadMeta) (cond b (a_fault MetaTooLarge) (cond c too_few (an_element tag vr head size))) ≡ the_end → ⊥
by_tests true b c tag vr head size e = cc
by_tests false true c tag vr head size e = cc
by_tests false false true tag vr head size e = cc
by_tests false false false tag vr head size e = cc

either_goes_on : (t : Bool) (place : GroupPlace) → (place ≡ the_end → ⊥) → cond t too_few place ≡ the_end → ⊥
either_goes_on true place f e = cc
either_goes_on false place f e = f e

by_test : (t : Bool) (other : GroupPlace) → (other ≡ the_end → ⊥) → cond (not t) the_end other ≡ the_end → t ≡ false
by_test true other not_end e = absurd (not_end e)
by_test false other not_end e = refl

no_group : (taken : ℕ) (rest : List ℕ) → group_place taken rest ≡ the_end → number Little 2 rest ≢ 2
unfolding group_place
no_group taken [] e two = cc
no_group taken (b ∷ []) e two = cc
no_group taken (b ∷ c ∷ rest) e two =
    let all : List ℕ = b ∷ c ∷ rest in
    eqb-false (number Little 2 all) 2
    (by_test (number Little 2 all == 2) (cond (nat_lt (length all) 8) too_few (group_place_of_vr taken all (vr_at Little all)))
    (either_goes_on (nat_lt (length all) 8) (group_place_of_vr taken all (vr_at Little all)) (vr_not_end taken all (vr_at Little all))) e) two

-- ---- the limit

by_limit : (t : Bool) (why : Stop) → complete ≡ cond t (at_the_cut why) why → t ≡ false
by_limit true why e = absurd (cut_never why (sym e))
by_limit false why e = refl

reads_within : (s : Syntax) (start : ℕ) (bytes : List ℕ) (f : Front) → Reads no_bar s start bytes f complete → start + length bytes ≤ INPUT_LIMIT
reads_within s start bytes f (reached, why, first, told_is, f_is) = ltb-false INPUT_LIMIT (start + length bytes) (by_limit (nat_lt INPUT_LIMIT (start + length bytes)) why told_is)

-- ---- the file

sound_by : (d : Dictionary) (bytes : List ℕ) (m : Meta) (group : List ℕ) (named coding : Coding) (f : Front) → AreBytes bytes → MetaReads bytes (begins m group named) → coding ≡ coding_by d named
    → Reads no_bar coding.syntax (set_at group) (drop (set_at group) bytes) f complete → (n : Meta) × (set : Trees) × IsSound d bytes n coding set
sound_by d bytes m group named coding f are (too_short few e) coding_is reads = cc
sound_by d bytes m group named coding f are (no_prefix preamble prefix more parts long four not e) coding_is reads = cc
sound_by d bytes m group named coding f are (with_group preamble more there elements behind parts long g e) coding_is reads =
    let k = by_place m group named (length bytes) preamble elements there behind e in
    let s : Syntax = coding.syntax in
    let rest : List ℕ = drop (set_at group) bytes in
    let whole : bytes ≡ preamble ++ PREFIX ++ there ++ g.rest = parts ∙ ap (λ (x : List ℕ). preamble ++ (PREFIX ++ x)) g.parts ∙ sym (four_parts preamble PREFIX there g.rest) in
    let set_is : rest ≡ g.rest = ap (λ (x : List ℕ). drop (set_at x) bytes) k.1.groups ∙ ap (drop (set_at there)) whole ∙ behind_group preamble PREFIX there g.rest long refl in
    let within = reads_within s (set_at group) rest f reads in
    let le : set_at group ≤ INPUT_LIMIT = omega (arith, within) in
    let bytes_of_rest = bytes_drop (set_at group) bytes are in
    let w = source_whole Little s (set_at group) rest f le bytes_of_rest reads in
    let size = all_size preamble PREFIX there g.rest long refl in
    let all = ap length whole in
    let groups = ap length k.1.groups in
    let contents = ap length set_is in (
      record { preamble = preamble; elements = elements; uid = without_pads (syntax_value elements) },
      w.trees,
      record {
        group = there;
        contents = g.rest;
        parts = whole;
        preamble_size = long;
        within = omega (arith, within, size, all, groups, contents);
        group_spelled = g.spelled;
        are_meta = g.meta;
        group_within = g.within;
        group_ends = no_group (length there) g.rest (sym g.behind_is ∙ k.0);
        named = named;
        uid_is = refl;
        some_uid = k.1.some;
        names = k.1.names;
        coding_is = coding_is;
        set_spelled = subst (λ (x : List ℕ). TreesAt s w.trees x []) set_is w.spelled;
        is_set = (are_data (target_heads Little) s 0 w.trees rest [] (ends ∷ []) w.spelled (source_fine Little s (set_at group) rest f le bytes_of_rest reads)).0;
      },
    )

not_done : FAULT ≡ DONE → ⊥
not_done e = omega (arith, e)

is_complete : (d : Dictionary) (mode : Mode) (f : Front) (stop : Stop) → stop_status (dump d mode None) f stop ≡ DONE → stop ≡ complete
is_complete d mode f complete e = refl
is_complete d mode f (refused fault offset) e = absurd (not_done e)

by_source : (d : Dictionary) (mode : Mode) (bytes : List ℕ) (source : Source) → AreBytes bytes → FileReads (dump d mode None) bytes source → (answer (dump d mode None) source).status ≡ DONE
    → (m : Meta) × (coding : Coding) × (set : Trees) × IsSound d bytes m coding set
by_source d mode bytes source are (not_opened fault offset h e) status = absurd (not_done (sym (ap (λ (x : Source). (answer (dump d mode None) x).status) e) ∙ status))
by_source d mode bytes source are (not_changed m group coding h r e) status = absurd (cc)
by_source d mode bytes source are (opened m group coding f stop h r reads e) status =
    let end : stop ≡ complete = is_complete d mode f stop (sym (ap (λ (x : Source). (answer (dump d mode None) x).status) e) ∙ status) in
    let k = sound_by d bytes m group h.named coding f are h.head h.coding_is (subst (Reads no_bar coding.syntax (set_at group) (drop (set_at group) bytes) f) end reads) in
    (k.0, coding, k.1, k.2)

pub done_is_sound : (d : Dictionary) (mode : Mode) (bytes : List ℕ) (a : Answer) → AreBytes bytes → Answers (dump d mode None) bytes a → a.status ≡ DONE → (m : Meta) × (coding : Coding) × (set : Trees) × IsSound d bytes m coding set
done_is_sound d mode bytes a are y status = by_source d mode bytes y.source are y.reads (sym (ap (λ (x : Answer). x.status) y.answer_is) ∙ status)

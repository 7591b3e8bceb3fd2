-- A sound file is read as what it spells.
use Rattle.std.proofs.Common.{◌≡◌, ◌≢◌, ◌∙◌, ap, sym, refl, subst, ℕ, ◌+◌, ◌≤◌, List, [], ◌∷◌, ◌++◌, length, drop, Bool, cond, not, Ok, arith}
use Rattle.std.specs.Prelude.{nat_lt}
use Rattle.std.proofs.lemmas.Bool.{ne_eqb}
use Rattle.dcm_base.specs.declared.dictionary.Dictionary.{Dictionary}
use Rattle.dcm_base.specs.declared.syntax.Coding.{Coding}
use Rattle.dcm_base.specs.declared.syntax.Syntax.{Syntax}
use Rattle.dcm_base.specs.declared.tag.Tag.{Tag}
use Rattle.dcm_base.specs.declared.vr.Vr.{Vr}
use Rattle.dcm_base.specs.declared.length.Length.{Length}
use Rattle.dcm_base.specs.declared.length.Length.TheVariants.{Known, Undefined}
use Rattle.dcm_base.specs.Tree.Tree.{Trees, no_tree, leaf, sequence, fragments}
use Rattle.dcm_base.specs.Tables.Number.{number}
use Rattle.dcm_base.specs.Tables.Syntax.{Little}
use Rattle.dcm_base.specs.Tables.Transfer.{coding_of}
use Rattle.dcm_base.specs.Bytes.Head.{ElementHead, vr_at}
use Rattle.dcm_base.specs.Bytes.Spelling.{TreesAt}
use Rattle.dcm_base.specs.File.MetaGroup.{group_place, group_place_of_vr, the_end, too_few}
use Rattle.dcm_base.specs.File.MetaReads.{Meta, MetaReads, PREFIX, begins, coded, ended, named, with_group}
use Rattle.dcm_base.specs.Reading.Reads.{INPUT_LIMIT}
use Rattle.dcm_base.proofs.DataSets.Heads.{eight_le_head_size}
use Rattle.dcm_cli.specs.Answer.{HeadIs, set_at}
use Rattle.dcm_run_laws.proofs.ReadBack.ReadsAgain.{all_size, behind_group, four_parts}
use Rattle.dcm_sound.specs.Sound.{IsSound}

-- ---- the end of the meta group

long_head : (s : Syntax) (t : Tag) (vr : Vr) (l : Length) (b c : List ℕ) → ElementHead s t vr l b c → length b ≡ 1 → ⊥
long_head s t vr l b c head one = let eight = eight_le_head_size s vr in omega (arith, eight, head.whole, one)

no_single : (s : Syntax) (set : Trees) (b : List ℕ) → TreesAt s set b [] → length b ≡ 1 → ⊥
unfolding TreesAt
no_single s no_tree b at one = omega (arith, ap length at, one)
no_single s (leaf tag vr value rest) b (others, fo, head, more) one = long_head s tag vr (Known (length value)) b _ head one
no_single s (sequence tag vr declared items rest) b (contents, others, fo, head, inner, more) one = long_head s tag vr declared b contents head one
no_single s (fragments tag vr values rest) b (contents, others, fo, head, inner, more) one = long_head s tag vr Undefined b contents head one

group_over : (taken : ℕ) (contents : List ℕ) → number Little 2 contents ≢ 2 → (length contents ≡ 1 → ⊥) → group_place taken contents ≡ the_end
unfolding group_place
group_over taken [] other one = refl
group_over taken (b ∷ []) other one = absurd (one refl)
group_over taken (b ∷ c ∷ rest) other one = ap (λ (t : Bool). cond (not t) the_end (cond (nat_lt (length (b ∷ c ∷ rest)) 8) too_few (group_place_of_vr taken (b ∷ c ∷ rest) (vr_at Little (b ∷ c ∷ rest))))) (ne_eqb (number Little 2 (b ∷ c ∷ rest)) 2 other)

-- ---- the transfer syntax

begins_by : (m : Meta) (group uid : List ℕ) (coding : Coding) → uid ≢ [] → coding_of m.uid ≡ Ok coding → named m group uid ≡ begins m group coding
begins_by m group [] coding some names = absurd (some refl)
begins_by m group (b ∷ uid) coding some names = ap (coded m group) names

module _ (d : Dictionary) (bytes : List ℕ) (m : Meta) (coding : Coding) (set : Trees) (h : IsSound d bytes m coding set) where
  answer_is : begins m h.group h.named ≡ ended m.preamble m.elements h.group
  answer_is =
      sym (subst (λ (uid : List ℕ). named (record { preamble = m.preamble; elements = m.elements; uid = uid }) h.group uid ≡ begins m h.group h.named) h.uid_is (begins_by m h.group m.uid h.named h.some_uid h.names))

  meta_reads : MetaReads bytes (begins m h.group h.named)
  meta_reads =
      with_group m.preamble (h.group ++ h.contents) h.group m.elements the_end (h.parts ∙ four_parts m.preamble PREFIX h.group h.contents) h.preamble_size
      (record {
        rest = h.contents;
        parts = refl;
        spelled = h.group_spelled;
        meta = h.are_meta;
        within = h.group_within;
        behind_is = sym (group_over (length h.group) h.contents h.group_ends (no_single coding.syntax set h.contents h.set_spelled));
        no_element = refl;
      })
      answer_is

  pub head_is : HeadIs d bytes m h.group coding
  head_is = record { named = h.named; head = meta_reads; coding_is = h.coding_is }

  pub set_is : drop (set_at h.group) bytes ≡ h.contents
  set_is = ap (drop (set_at h.group)) h.parts ∙ behind_group m.preamble PREFIX h.group h.contents h.preamble_size refl

  pub set_within : set_at h.group + length h.contents ≤ INPUT_LIMIT
  set_within =
      let size = all_size m.preamble PREFIX h.group h.contents h.preamble_size refl in
      let whole = ap length h.parts in
      let within = h.within in
      omega (arith, size, whole, within)

-- What an edit asks of an open data set, as the program finds it out.
use Rattle.std.specs.Prelude.{ℕ, List, [], ◌∷◌, map, Option, Some, None, Bool, true, false, ◌||◌, ◌==◌, if◌then◌else◌}
use Rattle.std.specs.List.{list_all}
use Rattle.std.specs.Borrow.{Bor}
use Rattle.dcm_base.specs.declared.tag.Tag.{Tag}
use Rattle.dcm_base.specs.declared.vr.Vr.{Vr}
use Rattle.dcm_base.specs.Tables.Tag.{below, same_tag}
use Rattle.dcm_edits.specs.Edit.{Index, number, every, selects, PathEdit, step, insert, modify, erase, erase_item, Edit}
use Rattle.dcm_edits.specs.Edit.{on_path, modify_all, erase_all, erase_private, elsewhere, within, fate, acts, erases}
use Rattle.dcm_edits.specs.Edit.{NewElement, no_element, new_leaf, new_sequence, element_of}
use Rattle.dcm_edits.specs.Edit as spec
use Rattle.dcm_edits.specs.NewOnes.{above_last, is_between, passes_new}
use Rattle.dcm_editor.specs.EditSink.{has_place, makes}
use Rattle.dcm_edits.specs.Bounds.{steps, depth, AreWithin}
use Rattle.dcm_editor.specs.Masks.{is_set, at_depth, goes_along, asked}
use Rattle.dcm_edits.specs.Meaning.{index_of, edit_of}
use Rattle.dcm_editor.specs.declared.place.Asked.{Asked}
use Rattle.dcm_edits.specs.declared.edit.NewElement.{NewElement as Element}
use Rattle.dcm_edits.specs.declared.edit.Step.{Step}
use Rattle.dcm_editor.specs.declared.asked.Fate.{Fate}
use Rattle.dcm_editor.specs.declared.asked.Fate.TheVariants as fates
use Rattle.dcm_editor.specs.declared.asked.Gap.{Gap}
use Rattle.dcm_editor.specs.declared.asked.New.{New}
use Rattle.dcm_editor.specs.declared.asked.New.TheVariants as news
use Rattle.dcm_editor.specs.declared.asked.Question.{Question}
use Rattle.dcm_editor.specs.declared.asked.Question.TheVariants as questions

-- ---- one edit

abbrev pub is_first : Index → Bool
is_first (number n) = n == 0
is_first every = false

-- what becomes of an element, as the program says it
abbrev pub fate_of : {A : Type 0} → Fate A → spec.Fate
fate_of fates.Stays = spec.stays
fate_of (fates.Becomes e) = spec.becomes e.now.vr e.now.value.items
fate_of fates.Goes = spec.goes

-- an element of the same tag takes the value, and another one stays
abbrev pub becomes_if : {A : Type 0} → Element A → Tag → spec.Fate
becomes_if e tag = if same_tag e.tag tag then spec.becomes e.vr e.value.items else spec.stays

-- what is seen of a new element from outside: a value, or the tag of a sequence on the way to one
pub data Seen : Type 0 where
  nothing_new : Seen
  a_value : (tag : Tag) (vr : Vr) (value : List ℕ) → Seen
  a_sequence : (tag : Tag) → Seen

abbrev pub seen : NewElement → Seen
seen no_element = nothing_new
seen (new_leaf tag vr value) = a_value tag vr value
seen (new_sequence tag held) = a_sequence tag

abbrev pub seen_of : {A : Type 0} → Option (New A) → Seen
seen_of None = nothing_new
seen_of (Some (news.Leaf e)) = a_value e.now.tag e.now.vr e.now.value.items
seen_of (Some (news.Sequence tag)) = a_sequence tag

abbrev pub seen_value : {A : Type 0} → Option (Bor (Element A)) → Seen
seen_value None = nothing_new
seen_value (Some e) = a_value e.now.tag e.now.vr e.now.value.items

-- the tag of the first step, where each leads into the first item
abbrev pub sequence_on : List Step → Option Tag
sequence_on [] = None
sequence_on (s ∷ steps) = if list_all (λ x. is_first (index_of x.index)) (s ∷ steps) then Some s.tag else None

abbrev pub new_tag : {A : Type 0} → New A → Tag
new_tag (news.Leaf e) = e.now.tag
new_tag (news.Sequence tag) = tag

abbrev pub lies_in : Option Tag → Option Tag → Tag → Bool
lies_in last None tag = above_last last tag
lies_in last (Some next) tag = is_between last next tag

abbrev pub in_gap : Gap → Tag → Bool
in_gap gap tag = lies_in gap.last gap.next tag

abbrev pub is_on_path : Edit → Bool
is_on_path (on_path edit) = true
is_on_path (modify_all tag vr value) = false
is_on_path (erase_all tag) = false
is_on_path erase_private = false
is_on_path elsewhere = false

-- an edit that is asked in each data set
abbrev pub is_everywhere : Edit → Bool
is_everywhere (on_path edit) = false
is_everywhere (modify_all tag vr value) = true
is_everywhere (erase_all tag) = true
is_everywhere erase_private = true
is_everywhere elsewhere = false

-- the answers of an edit to the questions about a place of the input
abbrev pub answer_of : Question → Edit → Bool
answer_of (questions.AtHead tag last) e = acts (fate e tag) || makes (is_between last tag) (element_of e)
answer_of (questions.Meets tag last) e = acts (fate e tag) || passes_new (is_between last tag) (element_of e)
answer_of (questions.AtItem tag n) e = erases e tag n || has_place (element_of (within e tag n))
answer_of questions.AtTop e = has_place (element_of e)
answer_of (questions.AtEnd last) e = makes (above_last last) (element_of e)
answer_of (questions.GoesAlong tag n) e = goes_along e tag n
answer_of (questions.Erases tag n) e = erases e tag n
answer_of questions.IsEverywhere e = is_everywhere e

-- ---- the edits of a command line

-- what a mask means within so many items, for edit k and for the edits from number k on
abbrev pub asked_one : ℕ → ℕ → ℕ → Edit → Edit
asked_one depth mask k e = if is_set mask k then at_depth depth e else elsewhere

-- the edits that are asked, each as the data set sees it
abbrev pub edits_of : {A : Type 0} → Asked A → List Edit
edits_of a = asked a.depth a.mask 0 (map edit_of a.edits.now)

-- whether one of them answers yes
abbrev pub any_answer : Question → List Edit → Bool
any_answer q [] = false
any_answer q (e ∷ es) = answer_of q e || any_answer q es

-- ---- the new element with the least tag

abbrev pub seen_in : Gap → Seen → Seen
seen_in gap nothing_new = nothing_new
seen_in gap (a_value tag vr value) = if in_gap gap tag then a_value tag vr value else nothing_new
seen_in gap (a_sequence tag) = if in_gap gap tag then a_sequence tag else nothing_new

-- what an edit puts in a gap, if the mask has it
abbrev pub new_in : Gap → (depth mask k : ℕ) → Edit → Seen
new_in gap depth mask k e = seen_in gap (seen (element_of (asked_one depth mask k e)))

abbrev pub is_above_seen : Seen → Tag → Bool
is_above_seen nothing_new t = true
is_above_seen (a_value tag vr value) t = below t tag
is_above_seen (a_sequence tag) t = below t tag

-- of two with one tag the first
abbrev pub lesser : Seen → Seen → Seen
lesser first nothing_new = first
lesser first (a_value tag vr value) = if is_above_seen first tag then a_value tag vr value else first
lesser first (a_sequence tag) = if is_above_seen first tag then a_sequence tag else first

abbrev pub least_new : Gap → Seen → List Edit → Seen
least_new gap least [] = least
least_new gap least (e ∷ es) = least_new gap (lesser least (seen_in gap (seen (element_of e)))) es

-- no path has more than 64 steps
abbrev pub path_size : PathEdit → ℕ
path_size p = steps p

abbrev pub edit_size : Edit → ℕ
edit_size e = depth e

abbrev pub AreShort : List Edit → Type 0
AreShort es = AreWithin 64 es

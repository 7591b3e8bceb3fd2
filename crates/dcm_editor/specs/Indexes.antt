-- The masks of the edits by tags.
use Rattle.std.specs.Prelude.{◌≡◌, ℕ, ◌+◌, ◌%◌, suc, List, [], ◌∷◌, map, Bool, true, ◌&&◌, ◌==◌, if◌then◌else◌, slice_index}
use Rattle.std.specs.Int.Bits.{bit_and, bit_or}
use Rattle.dcm_base.specs.declared.tag.Tag.{Tag}
use Rattle.dcm_base.specs.Tables.Spread.{spread}
use Rattle.dcm_base.specs.Tables.Tag.{is_private, tag_number}
use Rattle.dcm_edits.specs.Edit.{Index, number, every, PathEdit, step, insert, modify, erase, erase_item}
use Rattle.dcm_edits.specs.Edit.{Edit, on_path, modify_all, erase_all, erase_private, elsewhere}
use Rattle.dcm_editor.specs.Masks.{is_set, bits}
use Rattle.dcm_edits.specs.Meaning.{index_of}
use Rattle.dcm_edits.specs.declared.edit.Step.{Step}
use Rattle.dcm_editor.specs.Asking.{is_everywhere}
use Rattle.dcm_editor.specs.declared.index.TagIndex.{TagIndex}
use Rattle.dcm_editor.specs.declared.index.TagMasks.{TagMasks}

-- the number of the mask, among 256, for a tag, and for an item of the sequence with this tag
abbrev pub bucket_of : Tag → ℕ
bucket_of tag = spread (tag_number tag) 8

abbrev pub bucket_of_item : Tag → ℕ → ℕ
bucket_of_item tag n = spread ((tag_number tag + n + 1) % 4294967296) 8

abbrev pub mask_at : TagMasks → Tag → ℕ
mask_at masks tag = slice_index masks.buckets (bucket_of tag)

-- the edits that name item n, and those that name each
abbrev pub item_mask_at : TagMasks → Tag → ℕ → ℕ
item_mask_at masks tag n = bit_or (slice_index masks.buckets (bucket_of tag)) (slice_index masks.buckets (bucket_of_item tag n))

-- edit k is in a mask
abbrev pub holds : TagMasks → ℕ → ℕ → Bool
holds masks k bucket = is_set (slice_index masks.buckets bucket) k

abbrev pub names : TagMasks → ℕ → Tag → Bool
names masks k tag = holds masks k (bucket_of tag)

abbrev pub names_step : TagMasks → ℕ → Tag → Index → Bool
names_step masks k tag (number n) = holds masks k (bucket_of_item tag n)
names_step masks k tag every = names masks k tag

-- it is in those for these steps
abbrev pub names_steps : TagMasks → ℕ → List Step → Bool
names_steps masks k [] = true
names_steps masks k (s ∷ steps) = names_step masks k s.tag (index_of s.index) && names_steps masks k steps

-- what some have, the others have too
abbrev pub MasksGrow : (old new : TagMasks) → Type 0
MasksGrow old new = (k bucket : ℕ) → holds old k bucket ≡ true → holds new k bucket ≡ true

-- an edit on a path is where its steps and its end say
abbrev pub has_path : TagIndex → ℕ → PathEdit → Bool
has_path index k (step tag i edit) = names_step index.steps k tag i && has_path index k edit
has_path index k (insert tag vr value) = is_set index.makers k
has_path index k (modify tag vr value) = names index.ends k tag
has_path index k (erase tag) = names index.ends k tag
has_path index k (erase_item tag i) = names_step index.steps k tag i

abbrev pub has_edit : TagIndex → ℕ → Edit → Bool
has_edit index k (on_path edit) = has_path index k edit
has_edit index k (modify_all tag vr value) = names index.ends k tag
has_edit index k (erase_all tag) = names index.ends k tag
has_edit index k erase_private = is_set index.private k
has_edit index k elsewhere = true

-- each edit from number k on
abbrev pub has_all : TagIndex → ℕ → List Edit → Bool
has_all index k [] = true
has_all index k (e ∷ es) = has_edit index k e && has_all index (suc k) es

-- what one has, the other has too
abbrev pub Grows : (old new : TagIndex) → Type 0
Grows old new = (k : ℕ) (e : Edit) → has_edit old k e ≡ true → has_edit new k e ≡ true

-- the edits that name a tag or put what is missing
abbrev pub named : TagIndex → Tag → ℕ
named index tag = bit_or (mask_at index.ends tag) index.makers

-- of the edits of a mask, those that may change an element with this tag, or put what is missing
abbrev pub candidates : TagIndex → ℕ → Tag → ℕ
candidates index mask tag = bit_and mask (if is_private tag then bit_or (named index tag) index.private else named index tag)

abbrev pub makes_nothing : TagIndex → ℕ → Bool
makes_nothing index mask = bit_and mask index.makers == 0

-- no edit of a mask names item n of the sequence with this tag
abbrev pub enters_nothing : TagIndex → ℕ → Tag → ℕ → Bool
enters_nothing index mask tag n = bit_and mask (item_mask_at index.steps tag n) == 0

-- it tells which edits are asked in each data set
abbrev pub tells_everywhere : TagIndex → List Edit → Type 0
tells_everywhere index edits = bits index.everywhere 0 edits ≡ map is_everywhere edits

-- The new elements of edits whose tags pass a test, put into a data set by tag order.
use Rattle.std.specs.Prelude.{List, [], ◌∷◌, Option, Some, None, Bool, false, ◌&&◌, ◌||◌, not, if◌then◌else◌}
use Rattle.dcm_base.specs.declared.tag.Tag.{Tag}
use Rattle.dcm_base.specs.Tables.Tag.{same_tag, below, is_above}
use Rattle.dcm_base.specs.Tree.Tree.{Trees}
use Rattle.dcm_edits.specs.Edit.{Edit, NewElement, no_element, new_leaf, new_sequence, element_of, has, put}
use Rattle.dcm_edits.specs.Together.{completed}

abbrev pub put_at : (Tag → Bool) → Tag → NewElement → Trees → Trees
put_at passes tag x set = if passes tag && not (has tag set) then put tag x set else set

abbrev pub put_new : (Tag → Bool) → NewElement → Trees → Trees
put_new passes no_element set = set
put_new passes (new_leaf tag vr value) set = put_at passes tag (new_leaf tag vr value) set
put_new passes (new_sequence tag held) set = put_at passes tag (new_sequence tag held) set

-- each new element as the later edits leave it
abbrev pub puts : (Tag → Bool) → List Edit → Trees → Trees
puts passes [] set = set
puts passes (e ∷ es) set = puts passes es (put_new passes (completed es (element_of e)) set)

-- the tags above the last one of a data set
abbrev pub above_last : Option Tag → Tag → Bool
above_last last tag = is_above tag last

-- the tags between the last one and the next one
abbrev pub is_between : Option Tag → Tag → Tag → Bool
is_between last next tag = is_above tag last && below tag next

-- ---- new elements one by one, the least tag first

-- whether there is a new element whose tag passes
abbrev pub passes_new : (Tag → Bool) → NewElement → Bool
passes_new passes no_element = false
passes_new passes (new_leaf tag vr value) = passes tag
passes_new passes (new_sequence tag held) = passes tag

abbrev pub any_new : (Tag → Bool) → List Edit → Bool
any_new passes [] = false
any_new passes (e ∷ es) = passes_new passes (element_of e) || any_new passes es

-- the tag of a new element, where it passes
abbrev pub passing : (Tag → Bool) → NewElement → Option Tag
passing passes no_element = None
passing passes (new_leaf tag vr value) = if passes tag then Some tag else None
passing passes (new_sequence tag held) = if passes tag then Some tag else None

abbrev pub lesser : Option Tag → Option Tag → Option Tag
lesser None b = b
lesser (Some a) None = Some a
lesser (Some a) (Some b) = if below b a then Some b else Some a

-- the least tag of a new element that passes
abbrev pub least_new : (Tag → Bool) → List Edit → Option Tag
least_new passes [] = None
least_new passes (e ∷ es) = lesser (passing passes (element_of e)) (least_new passes es)

-- the first new element of this tag, as the later edits leave it
abbrev pub first_new : Tag → List Edit → NewElement
first_new tag [] = no_element
first_new tag (e ∷ es) = if passes_new (same_tag tag) (element_of e) then completed es (element_of e)
    else first_new tag es

-- Edits that may be done in any order, and the order of tags that this takes.
use Rattle.std.specs.Prelude.{◌≡◌, ℕ, suc, List, [], ◌∷◌, Option, Some, None, Bool, true, false, ◌&&◌, ◌||◌, not, ◌==◌}
use Rattle.std.specs.Prelude.{if◌then◌else◌}
use Rattle.dcm_base.specs.declared.tag.Tag.{Tag}
use Rattle.dcm_base.specs.Tables.Tag.{same_tag, is_private}
use Rattle.dcm_edits.specs.Edit.{Index, number, every, PathEdit, step, insert, modify, erase, erase_item, Edit, on_path}
use Rattle.dcm_edits.specs.Edit.{modify_all, erase_all, erase_private, elsewhere}

-- a tag or an index of a path
pub data Mark : Type 0 where
  at_tag : (tag : Tag) → Mark
  at_index : (index : Index) → Mark

abbrev pub path : PathEdit → List Mark
path (step tag index edit) = at_tag tag ∷ at_index index ∷ path edit
path (insert tag vr value) = at_tag tag ∷ []
path (modify tag vr value) = at_tag tag ∷ []
path (erase tag) = at_tag tag ∷ []
path (erase_item tag index) = at_tag tag ∷ at_index index ∷ []

abbrev pub same_index : Index → Index → Bool
same_index (number m) (number n) = m == n
same_index (number m) every = false
same_index every (number n) = false
same_index every every = true

abbrev pub same_mark : Mark → Mark → Bool
same_mark (at_tag a) (at_tag b) = same_tag a b
same_mark (at_tag a) (at_index j) = false
same_mark (at_index i) (at_tag b) = false
same_mark (at_index i) (at_index j) = same_index i j

abbrev pub ends : List Mark → Bool
ends [] = true
ends (a ∷ p) = false

abbrev pub is_every : Index → Bool
is_every (number n) = false
is_every every = true

-- two marks that differ are indexes, and one is a star or ends its path
abbrev pub clash : Mark → List Mark → Mark → List Mark → Bool
clash (at_tag a) p (at_tag b) q = false
clash (at_tag a) p (at_index j) q = false
clash (at_index i) p (at_tag b) q = false
clash (at_index i) p (at_index j) q = is_every i || is_every j || ends p || ends q

-- one path is a beginning of the other, or their first difference clashes
abbrev pub meets : List Mark → List Mark → Bool
meets [] q = true
meets (a ∷ p) [] = true
meets (a ∷ p) (b ∷ q) = if same_mark a b then meets p q else clash a p b q

-- whether a path names the tag
abbrev pub is_on : Tag → List Mark → Bool
is_on t [] = false
is_on t (at_tag a ∷ p) = same_tag t a || is_on t p
is_on t (at_index i ∷ p) = is_on t p

abbrev pub is_named : Tag → Edit → Bool
is_named t (on_path edit) = is_on t (path edit)
is_named t (modify_all tag vr value) = same_tag t tag
is_named t (erase_all tag) = same_tag t tag
is_named t erase_private = false
is_named t elsewhere = false

abbrev pub overlaps : Edit → Edit → Bool
overlaps (on_path a) (on_path b) = meets (path a) (path b)
overlaps (on_path a) (modify_all tag vr value) = is_named tag (on_path a)
overlaps (on_path a) (erase_all tag) = is_named tag (on_path a)
overlaps (on_path a) _ = false
overlaps (modify_all tag vr value) b = is_named tag b
overlaps (erase_all tag) b = is_named tag b
overlaps erase_private b = false
overlaps elsewhere b = false

-- no later edit overlaps this one
abbrev pub ApartFrom : Edit → List Edit → Type 0
ApartFrom e [] = Unit {0}
ApartFrom e (later ∷ es) = (overlaps e later ≡ false) × ApartFrom e es

abbrev pub AreApart : List Edit → Type 0
AreApart [] = Unit {0}
AreApart (e ∷ es) = ApartFrom e es × AreApart es

-- no tag of the path is of an odd group
abbrev pub is_public_path : List Mark → Bool
is_public_path [] = true
is_public_path (at_tag a ∷ p) = not (is_private a) && is_public_path p
is_public_path (at_index i ∷ p) = is_public_path p

abbrev pub is_public : Edit → Bool
is_public (on_path edit) = is_public_path (path edit)
is_public (modify_all tag vr value) = not (is_private tag)
is_public (erase_all tag) = not (is_private tag)
is_public erase_private = true
is_public elsewhere = true

abbrev pub ArePublic : List Edit → Type 0
ArePublic [] = Unit {0}
ArePublic (e ∷ es) = (is_public e ≡ true) × ArePublic es

abbrev pub overlaps_one : List Edit → Edit → Bool
overlaps_one [] e = false
overlaps_one (earlier ∷ es) e = overlaps earlier e || overlaps_one es e

-- the least edit that overlaps an earlier one, counted from n
abbrev pub first_overlap : ℕ → List Edit → List Edit → Option ℕ
first_overlap n earlier [] = None
first_overlap n earlier (e ∷ es) = if overlaps_one earlier e then Some n else first_overlap (suc n) (e ∷ earlier) es

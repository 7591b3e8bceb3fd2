-- Worked rows: which edits overlap.
use Rattle.std.proofs.Common.{◌≡◌, ℕ, [], ◌∷◌, Some, None, true, false, refl}
use Rattle.dcm_base.specs.declared.tag.Tag.{Tag}
use Rattle.dcm_base.specs.declared.vr.Vr.TheVariants.{UI, LO}
use Rattle.dcm_edits.specs.Edit.{number, every, step, modify, erase, erase_item, on_path, modify_all, erase_all, erase_private}
use Rattle.dcm_edits.specs.Overlap.{overlaps, first_overlap}

abbrev tag : ℕ → ℕ → Tag
tag g e = record { group = g; element = e }

-- one path is the other
twice : overlaps (on_path (modify (tag 0x0010 0x0020) LO [])) (on_path (erase (tag 0x0010 0x0020))) ≡ true
twice = refl

other_tags : overlaps (on_path (modify (tag 0x0010 0x0020) LO [])) (on_path (erase (tag 0x0010 0x0010))) ≡ false
other_tags = refl

-- one path is a beginning of the other
one_begins : overlaps (on_path (erase (tag 0x0008 0x1140))) (on_path (step (tag 0x0008 0x1140) (number 0) (modify (tag 0x0008 0x1155) UI []))) ≡ true
one_begins = refl

item_begins : overlaps (on_path (erase_item (tag 0x0008 0x1140) (number 0))) (on_path (step (tag 0x0008 0x1140) (number 0) (modify (tag 0x0008 0x1155) UI []))) ≡ true
item_begins = refl

-- they part at an index
other_items : overlaps (on_path (step (tag 0x0008 0x1140) (number 0) (modify (tag 0x0008 0x1155) UI []))) (on_path (step (tag 0x0008 0x1140) (number 1) (modify (tag 0x0008 0x1155) UI []))) ≡ false
other_items = refl

star_and_item : overlaps (on_path (step (tag 0x0008 0x1140) every (modify (tag 0x0008 0x1155) UI []))) (on_path (step (tag 0x0008 0x1140) (number 1) (modify (tag 0x0008 0x1155) UI []))) ≡ true
star_and_item = refl

-- they part at a tag
star_and_star : overlaps (on_path (step (tag 0x0008 0x1140) every (modify (tag 0x0008 0x1155) UI []))) (on_path (step (tag 0x0008 0x1140) every (modify (tag 0x0008 0x1150) UI []))) ≡ false
star_and_star = refl

other_elements : overlaps (on_path (step (tag 0x0008 0x1140) (number 0) (modify (tag 0x0008 0x1155) UI []))) (on_path (step (tag 0x0008 0x1140) (number 0) (modify (tag 0x0008 0x1150) UI []))) ≡ false
other_elements = refl

-- an index that ends its path counts the items that the other one leaves
two_erased_items : overlaps (on_path (erase_item (tag 0x0008 0x1140) (number 0))) (on_path (erase_item (tag 0x0008 0x1140) (number 1))) ≡ true
two_erased_items = refl

erased_item_behind : overlaps (on_path (step (tag 0x0008 0x1140) (number 1) (modify (tag 0x0008 0x1155) UI []))) (on_path (erase_item (tag 0x0008 0x1140) (number 0))) ≡ true
erased_item_behind = refl

-- an edit at all depths overlaps each that names its tag
named_in_path : overlaps (modify_all (tag 0x0008 0x1155) UI []) (on_path (step (tag 0x0008 0x1140) (number 0) (modify (tag 0x0008 0x1155) UI []))) ≡ true
named_in_path = refl

named_on_the_way : overlaps (on_path (step (tag 0x0008 0x1140) (number 0) (modify (tag 0x0008 0x1155) UI []))) (erase_all (tag 0x0008 0x1140)) ≡ true
named_on_the_way = refl

named_nowhere : overlaps (erase_all (tag 0x0008 0x1150)) (on_path (step (tag 0x0008 0x1140) (number 0) (modify (tag 0x0008 0x1155) UI []))) ≡ false
named_nowhere = refl

both_everywhere : overlaps (erase_all (tag 0x0008 0x1150)) (modify_all (tag 0x0008 0x1150) UI []) ≡ true
both_everywhere = refl

-- the elements of odd groups may be erased twice
private_twice : overlaps (erase_private) (erase_private) ≡ false
private_twice = refl

private_and_path : overlaps (erase_private) (on_path (erase (tag 0x0010 0x0010))) ≡ false
private_and_path = refl

-- the least edit that overlaps an earlier one
least_overlap : first_overlap 1 [] (on_path (erase (tag 0x0010 0x0010)) ∷ on_path (erase (tag 0x0010 0x0020)) ∷ on_path (erase (tag 0x0010 0x0010)) ∷ on_path (erase (tag 0x0010 0x0020)) ∷ []) ≡ Some 3
least_overlap = refl

no_overlap : first_overlap 1 [] (on_path (erase (tag 0x0010 0x0010)) ∷ on_path (erase (tag 0x0010 0x0020)) ∷ []) ≡ None
no_overlap = refl

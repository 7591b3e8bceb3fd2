-- The tags reached are told by the atoms.
use Rattle.std.proofs.Common.{◌≡◌, ℕ, suc, ◌+◌, List, [], ◌∷◌, ◌++◌, length, Option, Some, None, Bool, true, false, cond, refl, sym, ap, ◌∙◌, arith}
use Rattle.std.specs.Prelude.{fold, map}
use Rattle.std.proofs.lemmas.List.{append-nil}
use Rattle.dcm_base.specs.declared.tag.Tag.{Tag}
use Rattle.dcm_base.specs.declared.fault.Fault.TheVariants.{NotAscending}
use Rattle.dcm_base.specs.declared.fault.Fault.{Fault}
use Rattle.dcm_base.specs.Tree.Tree.{Trees, no_tree, leaf, sequence, fragments, Items, no_item, item}
use Rattle.dcm_base.specs.Tree.Front.{Front, front, nothing_open, open_leaf, open_sequence, open_fragments, OpenItem, no_open_item, open_item}
use Rattle.dcm_base.specs.Tree.Value.{order}
use Rattle.dcm_base.specs.Bytes.Spelling.{last_tag}
use Rattle.dcm_base.specs.Steps.Atoms.{Atom, value_byte, closes_leaf, closes_item, closes_sequence, fragments_then, open_fragment_atoms, end_atoms, ShowTrees, ShowItems, Shows, ShowsOpenItem}
use Rattle.dcm_base.specs.Reading.Bars.{innermost_reached, reached_in_item, is_above, ascending_bar, items_open, items_open_at}
use Rattle.dcm_base.specs.Reading.Stop.{is_early_bar}
use Rattle.dcm_stream.specs.Follows.{BarsAs}
use Rattle.dcm_stream.specs.Ascending.{reached_after, innermost, ascending}

abbrev reach : List (Option Tag) → List Atom → List (Option Tag)
reach = fold reached_after

bytes_reach : (r : Option Tag) (st : List (Option Tag)) (v : List ℕ) (after : List Atom) → reach (r ∷ st) (map value_byte v ++ after) ≡ reach (r ∷ st) after
bytes_reach r st [] after = refl
bytes_reach r st (b ∷ v) after = bytes_reach r st v after

fragments_reach : (r : Option Tag) (st : List (Option Tag)) (values : List (List ℕ)) (after : List Atom) → reach (r ∷ st) (fragments_then values after) ≡ reach (r ∷ st) after
unfolding fragments_then
fragments_reach r st [] after = refl
fragments_reach r st (v ∷ vs) after = bytes_reach r st v (closes_leaf ∷ fragments_then vs after) ∙ fragments_reach r st vs after

mutual
  unfolding ShowTrees last_tag

  trees_reach : (x : Trees) (atoms after : List Atom) (r : Option Tag) (st : List (Option Tag)) → ShowTrees x atoms after → reach (r ∷ st) atoms ≡ reach (last_tag r x ∷ st) after
  trees_reach no_tree atoms after r st h = ap (reach (r ∷ st)) h
  trees_reach (leaf tag vr value rest) atoms after r st (s, others, fo, at, more) =
      ap (reach (r ∷ st)) at ∙ bytes_reach (Some tag) st (order s vr value) (closes_leaf ∷ others) ∙ trees_reach rest others after (Some tag) st more
  trees_reach (sequence tag vr declared items rest) atoms after r st (s, contents, others, fo, at, inner, more) =
      ap (reach (r ∷ st)) at ∙ items_reach items contents (closes_sequence ∷ others) (Some tag) st inner ∙ trees_reach rest others after (Some tag) st more
  trees_reach (fragments tag vr values rest) atoms after r st (s, others, fo, at, more) =
      ap (reach (r ∷ st)) at ∙ fragments_reach (Some tag) st values (closes_sequence ∷ others) ∙ trees_reach rest others after (Some tag) st more

  items_reach : (x : Items) (atoms after : List Atom) (r : Option Tag) (st : List (Option Tag)) → ShowItems x atoms after → reach (r ∷ st) atoms ≡ reach (r ∷ st) after
  items_reach no_item atoms after r st h = ap (reach (r ∷ st)) h
  items_reach (item declared set rest) atoms after r st (contents, others, at, inner, more) =
      ap (reach (r ∷ st)) at ∙ trees_reach set contents (closes_item ∷ others) None (r ∷ st) inner ∙ items_reach rest others after r st more

end_reach : (r : Option Tag) (st : List (Option Tag)) (closed : Bool) → reach (r ∷ st) (end_atoms closed) ≡ r ∷ st
end_reach r st true = refl
end_reach r st false = refl

fragment_reach : (r : Option Tag) (st : List (Option Tag)) (last : Option (ℕ × List ℕ)) → reach (r ∷ st) (open_fragment_atoms last) ≡ r ∷ st
fragment_reach r st None = refl
fragment_reach r st (Some (size, value)) = ap (reach (r ∷ st)) (sym (append-nil (map value_byte value))) ∙ bytes_reach r st value []

mutual
  unfolding Shows innermost_reached

  front_reach : (f : Front) (atoms : List Atom) (st : List (Option Tag)) → Shows f atoms → innermost (reach (None ∷ st) atoms) ≡ innermost_reached f
  front_reach (front whole nothing_open reached closed) atoms st (others, trees, op, may, re) =
      ap innermost (trees_reach whole atoms others None st trees ∙ ap (reach (last_tag None whole ∷ st)) op ∙ end_reach (last_tag None whole) st closed) ∙ sym re
  front_reach (front whole (open_leaf tag vr size value) reached closed) atoms st (others, trees, (s, fo, le, at), may, re) =
      ap innermost (trees_reach whole atoms others None st trees ∙ ap (reach (last_tag None whole ∷ st)) at ∙ ap (reach (Some tag ∷ st)) (sym (append-nil (map value_byte (order s vr value)))) ∙ bytes_reach (Some tag) st (order s vr value) []) ∙ sym re
  front_reach (front whole (open_sequence tag vr declared items last) reached closed) atoms st (others, trees, (s, contents, more, fo, at, inner, op), may, re) =
      ap innermost (trees_reach whole atoms others None st trees ∙ ap (reach (last_tag None whole ∷ st)) at ∙ items_reach items contents more (Some tag) st inner) ∙ item_reach last more tag reached st op re
  front_reach (front whole (open_fragments tag vr values last) reached closed) atoms st (others, trees, (s, fo, mi, at), may, re) =
      ap innermost (trees_reach whole atoms others None st trees ∙ ap (reach (last_tag None whole ∷ st)) at ∙ fragments_reach (Some tag) st values (open_fragment_atoms last) ∙ fragment_reach (Some tag) st last) ∙ sym re

  item_reach : (last : OpenItem) (atoms : List Atom) (tag : Tag) (reached : Option Tag) (st : List (Option Tag)) → ShowsOpenItem last atoms → reached ≡ Some tag → innermost (reach (Some tag ∷ st) atoms) ≡ reached_in_item reached last
  item_reach no_open_item atoms tag reached st h re = ap (λ (x : List Atom). innermost (reach (Some tag ∷ st) x)) h ∙ sym re
  item_reach (open_item declared set) atoms tag reached st (contents, at, open_set, shows) re = ap (λ (x : List Atom). innermost (reach (Some tag ∷ st) x)) at ∙ front_reach set contents (Some tag ∷ st) shows

-- so many items are open
none_more : (n : ℕ) → suc n ≡ suc (0 + n)
none_more n = omega arith

mutual
  unfolding Shows items_open

  pub front_items : (f : Front) (atoms : List Atom) (st : List (Option Tag)) → Shows f atoms → length (reach (None ∷ st) atoms) ≡ suc (items_open f + length st)
  front_items (front whole nothing_open reached closed) atoms st (others, trees, op, may, re) =
      ap length (trees_reach whole atoms others None st trees ∙ ap (reach (last_tag None whole ∷ st)) op ∙ end_reach (last_tag None whole) st closed) ∙ none_more (length st)
  front_items (front whole (open_leaf tag vr size value) reached closed) atoms st (others, trees, (s, fo, le, at), may, re) =
      ap length (trees_reach whole atoms others None st trees ∙ ap (reach (last_tag None whole ∷ st)) at ∙ ap (reach (Some tag ∷ st)) (sym (append-nil (map value_byte (order s vr value)))) ∙ bytes_reach (Some tag) st (order s vr value) []) ∙ none_more (length st)
  front_items (front whole (open_sequence tag vr declared items last) reached closed) atoms st (others, trees, (s, contents, more, fo, at, inner, op), may, re) =
      ap length (trees_reach whole atoms others None st trees ∙ ap (reach (last_tag None whole ∷ st)) at ∙ items_reach items contents more (Some tag) st inner) ∙ item_items last more tag st op
  front_items (front whole (open_fragments tag vr values last) reached closed) atoms st (others, trees, (s, fo, mi, at), may, re) =
      ap length (trees_reach whole atoms others None st trees ∙ ap (reach (last_tag None whole ∷ st)) at ∙ fragments_reach (Some tag) st values (open_fragment_atoms last) ∙ fragment_reach (Some tag) st last) ∙ none_more (length st)

  item_items : (last : OpenItem) (atoms : List Atom) (tag : Tag) (st : List (Option Tag)) → ShowsOpenItem last atoms → length (reach (Some tag ∷ st) atoms) ≡ suc (items_open_at last + length st)
  item_items no_open_item atoms tag st h = ap (λ (x : List Atom). length (reach (Some tag ∷ st) x)) h ∙ none_more (length st)
  item_items (open_item declared set) atoms tag st (contents, at, open_set, shows) =
      ap (λ (x : List Atom). length (reach (Some tag ∷ st) x)) at ∙ (let e = front_items set contents (Some tag ∷ st) shows in omega (arith, e))

pub never : (b : Bool) → is_early_bar (cond b None (Some NotAscending)) ≡ false
never true = refl
never false = refl

pub ascending_bars : BarsAs ascending ascending_bar
ascending_bars =
    record {
      agree = λ f atoms shows tag vr declared. ap (λ (x : Option Tag). cond {A = Option Fault} (is_above tag x) None (Some NotAscending)) (front_reach f atoms [] shows);
      never_early = λ f tag vr declared. never (is_above tag (innermost_reached f));
    }

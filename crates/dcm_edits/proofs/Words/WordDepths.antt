-- The paths that words name have at most 64 steps.
use Rattle.std.proofs.Common.{◌≡◌, ℕ, suc, ◌≤◌, List, [], ◌∷◌, Option, Some, None, Ok, Bool, true, ◌&&◌, refl, sym, ◌∙◌, ap, subst, arith}
use Rattle.std.specs.Prelude.{if◌then◌else◌, nat_le}
use Rattle.std.specs.Option.{is_some}
use Rattle.std.proofs.lemmas.Bool.{leb-true}
use Rattle.dcm_lemmas.proofs.Truth.{and_second}
use Rattle.dcm_base.specs.declared.dictionary.Dictionary.{Dictionary}
use Rattle.dcm_base.specs.declared.tag.Tag.{Tag}
use Rattle.dcm_edits.specs.Edit.{Index, PathEdit, insert, modify}
use Rattle.dcm_edits.specs.Bounds.{steps, depth}
use Rattle.dcm_edits.specs.EditWords.{◌>>=◌, PathPart, Known, known_part, known_parts, leads, ends_in_tag, has_index, index_count, has_form, is_indexed, DEPTH_LIMIT, Kind, inserts, modifies, erases, modifies_all, erases_all, on_steps, step_to, item_or_element, edit_on}
use Rattle.dcm_edits.proofs.Words.EditWordLemmas.{bind_ok, ok_is}
use Rattle.dcm_edits.proofs.Words.WordIndexes.{part_index}

abbrev counted : Bool → ℕ → ℕ
counted b n = if b then suc n else n

abbrev known_count : List Known → ℕ
known_count [] = 0
known_count (k ∷ ks) = counted (is_indexed k) (known_count ks)

count_same : (d : Dictionary) (ms : List PathPart) (ks : List Known) → known_parts d ms ≡ Ok ks → known_count ks ≡ index_count ms
count_same d [] ks p = ap (λ (l : List Known). known_count l) (sym (ok_is [] ks p))
count_same d (m ∷ ms) ks p =
    let first = bind_ok (known_part d m.name m.index) (λ k. known_parts d ms >>= λ more. Ok (k ∷ more)) ks p in
    let rest = bind_ok (known_parts d ms) (λ more. Ok (first.0 ∷ more)) ks first.2 in
    ap (λ (l : List Known). known_count l) (sym (ok_is _ _ rest.2))
    ∙ ap (λ (o : Option Index). counted (is_some o) (known_count rest.0)) (part_index d m.name m.index first.0 first.1)
    ∙ ap (λ (n : ℕ). counted (has_index m) n) (count_same d ms rest.0 rest.1)

step_few : (tag : Tag) (o : Option Index) (edit : PathEdit) (n : ℕ) → steps edit ≤ n → steps (step_to tag o edit) ≤ counted (is_some o) n
step_few tag None edit n h = h
step_few tag (Some index) edit n h = omega arith

steps_few : (at_end : Known → PathEdit) (k : Known) (ks : List Known) → ((x : Known) → steps (at_end x) ≡ 0) → steps (on_steps at_end k ks) ≤ known_count (k ∷ ks)
steps_few at_end k [] h = omega (arith, h k)
steps_few at_end k (l ∷ ks) h = step_few k.tag k.index (on_steps at_end l ks) (known_count (l ∷ ks)) (steps_few at_end l ks h)

end_few : (tag : Tag) (o : Option Index) → steps (item_or_element tag o) ≡ 0
end_few tag None = refl
end_few tag (Some index) = refl

few_parts : (d : Dictionary) (ms : List PathPart) (ks : List Known) → nat_le (index_count ms) DEPTH_LIMIT ≡ true → known_parts d ms ≡ Ok ks → known_count ks ≤ 64
few_parts d ms ks h p = subst (λ (n : ℕ). n ≤ 64) (sym (count_same d ms ks p)) (leb-true (index_count ms) DEPTH_LIMIT h)

less : (a b : ℕ) → a ≤ b → b ≤ 64 → a ≤ 64
less a b p q = omega arith

-- by the form of the path
pub edit_depth : (d : Dictionary) (kind : Kind) (ms : List PathPart) (k : Known) (ks : List Known) (value : List ℕ) → has_form kind ms ≡ true → known_parts d ms ≡ Ok (k ∷ ks) → depth (edit_on kind k ks value) ≤ 64
edit_depth d inserts ms k ks value f p =
    less _ _ (steps_few (λ x. insert x.tag x.vr value) k ks (λ x. refl)) (few_parts d ms (k ∷ ks) (and_second (leads ms && ends_in_tag ms) (nat_le (index_count ms) DEPTH_LIMIT) f) p)
edit_depth d modifies ms k ks value f p =
    less _ _ (steps_few (λ x. modify x.tag x.vr value) k ks (λ x. refl)) (few_parts d ms (k ∷ ks) (and_second (leads ms && ends_in_tag ms) (nat_le (index_count ms) DEPTH_LIMIT) f) p)
edit_depth d erases ms k ks value f p =
    less _ _ (steps_few (λ x. item_or_element x.tag x.index) k ks (λ x. end_few x.tag x.index)) (few_parts d ms (k ∷ ks) (and_second (leads ms) (nat_le (index_count ms) DEPTH_LIMIT) f) p)
edit_depth d modifies_all ms k ks value f p = omega arith
edit_depth d erases_all ms k ks value f p = omega arith

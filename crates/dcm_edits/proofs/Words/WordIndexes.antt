-- The indexes that words name are short.
use Rattle.std.proofs.Common.{◌≡◌, ℕ, ◌≤◌, List, [], ◌∷◌, length, Option, Some, None, Ok, Bool, true, false, ◌&&◌, refl, sym, ap, subst}
use Rattle.std.specs.Prelude.{if◌then◌else◌, ◌==◌, nat_le, option_map, bytes_eq, codes}
use Rattle.std.specs.Str.{byte}
use Rattle.std.proofs.lemmas.Bool.{leb-true}
use Rattle.dcm_lemmas.proofs.Options.{mapped, some_is}
use Rattle.dcm_lemmas.proofs.Truth.{and_second}
use Rattle.dcm_base.specs.declared.dictionary.Dictionary.{Dictionary}
use Rattle.dcm_base.specs.declared.tag.Tag.{Tag}
use Rattle.dcm_base.specs.declared.vr.Vr.{Vr}
use Rattle.dcm_base.specs.declared.fault.EditRefusal.TheVariants.{UnknownTag, MetaGroup}
use Rattle.dcm_base.specs.Tables.Dictionary.{element_in, tag_in}
use Rattle.dcm_base.specs.Lines.ReadValue.{number_in}
use Rattle.dcm_base.proofs.DumpsBack.DigitNumbers.{if_some}
use Rattle.dcm_edits.specs.Edit.{Index, number, every, PathEdit, insert, modify}
use Rattle.dcm_edits.specs.Bounds.{HasShortIndex, PathHasShortIndexes, HasShortIndexes}
use Rattle.dcm_edits.specs.EditWords.{◌>>=◌, or_refuse, PathPart, TagName, by_number, by_keyword, tag_name, cut, cut_at, index_of, with_index, part_of, part_of_cut, prepended, parts_of, Known, known_tag, known_part, known_parts, Kind, inserts, modifies, erases, modifies_all, erases_all, step_to, item_or_element, on_steps, edit_on}
use Rattle.dcm_edits.proofs.Words.EditWordLemmas.{bind_ok, ok_is, if_err}
use Rattle.dcm_edits.proofs.Words.IndexNumbers.{nine_digits}

-- ---- numbers of at most nine digits

digits_short : (text : List ℕ) (i : Index) → (if nat_le 1 (length text) && nat_le (length text) 9 then option_map number (number_in 10 0 text) else None) ≡ Some i → HasShortIndex i
digits_short text i p =
    let q = if_some (nat_le 1 (length text) && nat_le (length text) 9) (option_map number (number_in 10 0 text)) i p in
    let n = mapped number (number_in 10 0 text) i q.1 in
    let few : length text ≤ 9 = leb-true (length text) 9 (and_second (nat_le 1 (length text)) (nat_le (length text) 9) q.0) in
    subst HasShortIndex n.2 (nine_digits text n.0 few n.1)

index_short : (text : List ℕ) (i : Index) → index_of text ≡ Some i → HasShortIndex i
index_short text i p = by_test (bytes_eq text (codes "*")) (if nat_le 1 (length text) && nat_le (length text) 9 then option_map number (number_in 10 0 text) else None) p (digits_short text i)
  where
    by_test : (b : Bool) (o : Option Index) → (if b then Some every else o) ≡ Some i → (o ≡ Some i → HasShortIndex i) → HasShortIndex i
    by_test true o q h = subst HasShortIndex (some_is every i q) tt
    by_test false o q h = h q

-- ---- the indexes of a path

abbrev pub IfShort : Option Index → Type 0
IfShort None = Unit {0}
IfShort (Some i) = HasShortIndex i

abbrev named : TagName → Option Index → PathPart
named name index = record { name = name; index = index }

part_short : (name : TagName) (index : Option Index) (m : PathPart) → IfShort index → named name index ≡ m → IfShort m.index
part_short name index m h p = subst (λ (x : PathPart). IfShort x.index) p h

bracket_short : (name : TagName) (text : List ℕ) (b : Bool) (m : PathPart) → (if b then option_map (λ i. named name (Some i)) (index_of text) else None) ≡ Some m → IfShort m.index
bracket_short name text true m p =
    let q = mapped (λ i. named name (Some i)) (index_of text) m p in
    part_short name (Some q.0) m (index_short text q.0 q.1) q.2
bracket_short name text false m p = absurd cc

index_within : (o : Option TagName) (before : List ℕ) (after : Option (List ℕ)) (m : PathPart) → with_index o (cut before after) ≡ Some m → IfShort m.index
index_within None before after m p = absurd cc
index_within (Some s) before None m p = absurd cc
index_within (Some s) before (Some rest) m p = bracket_short s before (bytes_eq rest []) m p

cut_short : (before : List ℕ) (after : Option (List ℕ)) (m : PathPart) → part_of_cut (cut before after) ≡ Some m → IfShort m.index
cut_short before None m p = let q = mapped (λ s. named s None) (tag_name before) m p in part_short q.0 None m tt q.2
cut_short before (Some inside) m p = index_within (tag_name before) (cut_at (byte "]") inside).before (cut_at (byte "]") inside).after m p

abbrev pub AllShortParts : List PathPart → Type 0
AllShortParts [] = Unit {0}
AllShortParts (m ∷ ms) = IfShort m.index × AllShortParts ms

one_more : (o : Option PathPart) (r : Option (List PathPart)) (ps : List PathPart) → ((m : PathPart) → o ≡ Some m → IfShort m.index) → ((l : List PathPart) → r ≡ Some l → AllShortParts l)
    → (let s : Option (List PathPart) = elim o [ None ↦ None | Some m ↦ prepended m r ] in s ≡ Some ps) → AllShortParts ps
one_more None r ps h g p = absurd cc
one_more (Some m) r ps h g p =
    let q = mapped (λ l. m ∷ l) r ps p in
    subst (λ (l : List PathPart). AllShortParts l) q.2 (h m refl, g q.0 q.1)

pub parts_short : (texts : List (List ℕ)) (ps : List PathPart) → parts_of texts ≡ Some ps → AllShortParts ps
parts_short [] ps p = subst (λ (l : List PathPart). AllShortParts l) (some_is [] ps p) tt
parts_short (text ∷ texts) ps p =
    let k = cut_at (byte "[") text in
    one_more (part_of text) (parts_of texts) ps (cut_short k.before k.after) (parts_short texts) p

-- ---- known parts keep their indexes

record_index : (tag : Tag) (vr : Vr) (index : Option Index) (k : Known) → (let l : Known = record { tag = tag; vr = vr; index = index } in l ≡ k) → k.index ≡ index
record_index tag vr index k p = sym (ap (λ (x : Known). x.index) p)

tag_index : (d : Dictionary) (index : Option Index) (tag : Tag) (k : Known) → known_tag d index tag ≡ Ok k → k.index ≡ index
tag_index d index tag k p =
    let q = if_err (tag.group == 2) MetaGroup (or_refuse UnknownTag (element_in d tag) >>= λ e. Ok (record { tag = tag; vr = e.0; index = index })) k p in
    let r = bind_ok (or_refuse UnknownTag (element_in d tag)) (λ e. Ok (record { tag = tag; vr = e.0; index = index })) k q in
    record_index tag r.0.0 index k (ok_is _ _ r.2)

pub part_index : (d : Dictionary) (s : TagName) (index : Option Index) (k : Known) → known_part d s index ≡ Ok k → k.index ≡ index
part_index d (by_number tag) index k p = tag_index d index tag k p
part_index d (by_keyword word) index k p =
    let r = bind_ok (or_refuse UnknownTag (tag_in d word)) (known_tag d index) k p in
    tag_index d index r.0 k r.2

abbrev pub AllShortKnown : List Known → Type 0
AllShortKnown [] = Unit {0}
AllShortKnown (k ∷ ks) = IfShort k.index × AllShortKnown ks

pub known_short : (d : Dictionary) (ms : List PathPart) (ks : List Known) → AllShortParts ms → known_parts d ms ≡ Ok ks → AllShortKnown ks
known_short d [] ks h p = subst (λ (l : List Known). AllShortKnown l) (ok_is [] ks p) tt
known_short d (m ∷ ms) ks h p =
    let first = bind_ok (known_part d m.name m.index) (λ k. known_parts d ms >>= λ more. Ok (k ∷ more)) ks p in
    let rest = bind_ok (known_parts d ms) (λ more. Ok (first.0 ∷ more)) ks first.2 in
    subst (λ (l : List Known). AllShortKnown l) (ok_is _ _ rest.2) (subst IfShort (sym (part_index d m.name m.index first.0 first.1)) h.0, known_short d ms rest.0 h.1 rest.1)

-- ---- the edit

step_short : (tag : Tag) (o : Option Index) (edit : PathEdit) → IfShort o → PathHasShortIndexes edit → PathHasShortIndexes (step_to tag o edit)
step_short tag None edit h p = p
step_short tag (Some index) edit h p = (h, p)

steps_short : (at_end : Known → PathEdit) (k : Known) (ks : List Known) → ((x : Known) → IfShort x.index → PathHasShortIndexes (at_end x)) → AllShortKnown (k ∷ ks) → PathHasShortIndexes (on_steps at_end k ks)
steps_short at_end k [] h a = h k a.0
steps_short at_end k (l ∷ ks) h a = step_short k.tag k.index (on_steps at_end l ks) a.0 (steps_short at_end l ks h a.1)

end_short : (tag : Tag) (o : Option Index) → IfShort o → PathHasShortIndexes (item_or_element tag o)
end_short tag None h = tt
end_short tag (Some index) h = h

pub edit_short : (kind : Kind) (k : Known) (ks : List Known) (value : List ℕ) → AllShortKnown (k ∷ ks) → HasShortIndexes (edit_on kind k ks value)
edit_short inserts k ks value a = steps_short (λ x. insert x.tag x.vr value) k ks (λ x h. tt) a
edit_short modifies k ks value a = steps_short (λ x. modify x.tag x.vr value) k ks (λ x h. tt) a
edit_short erases k ks value a = steps_short (λ x. item_or_element x.tag x.index) k ks (λ x h. end_short x.tag x.index h) a
edit_short modifies_all k ks value a = tt
edit_short erases_all k ks value a = tt

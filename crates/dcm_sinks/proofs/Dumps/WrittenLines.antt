-- Lines that are written down whole, at level 16.
use Rattle.std.proofs.Common.{◌≡◌, ◌∙◌, ap, sym, refl, ℕ, zero, suc, Option, Some, None, ◌*◌, ◌-◌, ◌≤◌, List, [], ◌∷◌, ◌++◌, append_assoc, replicate, drop, length, decimal, codes, arith}
use Rattle.std.proofs.lemmas.Fmt.{decimal_digit}
use Rattle.std.proofs.lemmas.List.{drop-append-le, drop-replicate, length-replicate}
use Rattle.dcm_base.specs.declared.tag.Tag.{Tag}
use Rattle.dcm_base.specs.Tables.Tag.{item_tag, item_end_tag, sequence_end_tag}
use Rattle.dcm_base.specs.declared.length.Length.{Length}
use Rattle.dcm_base.specs.declared.length.Length.TheVariants.{Known, Undefined}
use Rattle.dcm_base.specs.declared.dictionary.Dictionary.{Dictionary}
use Rattle.dcm_base.specs.Dump.ValueText.{padded, tag_text}
use Rattle.dcm_base.specs.Dump.Dump.{line, line_start, length_text, item_line, item_opening, item_end_line, item_end, sequence_end_line, sequence_end}
use Rattle.dcm_base.specs.Tables.Dictionary.{keyword_in}
use Rattle.dcm_base.proofs.Dictionaries.Items.{item_called}
use Rattle.dcm_sinks.specs.Layout.{line_rest, item_text, item_end_text, sequence_end_text}
use Rattle.dcm_sinks.proofs.Dumps.LineParts.{line_in_parts, start_in_parts}

-- fewer spaces
spaces : (level : ℕ) (rest : List ℕ) → level ≤ 16 → drop (2 * (16 - level)) (replicate 32 32 ++ rest) ≡ replicate (2 * level) 32 ++ rest
spaces level rest h =
    let fewer : 32 - 2 * (16 - level) ≡ 2 * level = omega (arith, h) in
    let all : List ℕ = replicate 32 32 in
    let space : ℕ = 32 in
    let size : length all ≡ 32 = length-replicate 32 space in
    let within : 2 * (16 - level) ≤ length all = omega (arith, h, size) in
    drop-append-le (2 * (16 - level)) all rest within
    ∙ ap (λ (s : List ℕ). s ++ rest) (drop-replicate (2 * (16 - level)) 32 32 ∙ ap (λ (n : ℕ). replicate n 32) fewer)

-- a line is its spaces and what is the same at each level
line_behind : (d : Dictionary) (level : ℕ) (t : Tag) (letters display : List ℕ) (size : Length) (n : ℕ)
    → line d level t letters display size n
    ≡ replicate (2 * level) 32 ++ (((tag_text t.group t.element ++ 32 ∷ []) ++ (letters ++ 32 ∷ [])) ++ (padded display ++ line_rest d t size n))
line_behind d level t letters display size n =
    line_in_parts d level t letters display size n
    ∙ ap (λ (s : List ℕ). s ++ (padded display ++ line_rest d t size n)) (start_in_parts level t letters)
    ∙ append_assoc (replicate (2 * level) 32) ((tag_text t.group t.element ++ 32 ∷ []) ++ (letters ++ 32 ∷ [])) (padded display ++ line_rest d t size n)

-- so a line is that of level 16 with fewer spaces before it
shallower : (d : Dictionary) (level : ℕ) (t : Tag) (letters display : List ℕ) (size : Length) (n : ℕ) → level ≤ 16
    → drop (2 * (16 - level)) (line d 16 t letters display size n) ≡ line d level t letters display size n
shallower d level t letters display size n h =
    ap (drop (2 * (16 - level))) (line_behind d 16 t letters display size n)
    ∙ spaces level _ h
    ∙ sym (line_behind d level t letters display size n)

abbrev text_of : Option (List ℕ) → List ℕ
text_of None = []
text_of (Some text) = text

-- a line of this length field, count and keyword
abbrev filled : Tag → List ℕ → List ℕ → List ℕ → List ℕ → List ℕ
filled t display field count keyword =
    line_start 16 t (codes "na") ++ padded display ++ codes " # " ++ field ++ codes ", " ++ count ++ codes " " ++ keyword ++ 10 ∷ []

called : (d : Dictionary) (t : Tag) (display : List ℕ) (size : Length) (n : ℕ) (field count k : List ℕ)
    → length_text size ≡ field → decimal n ≡ count → keyword_in d t ≡ k → line d 16 t (codes "na") display size n ≡ filled t display field count k
called d t display size n field count k e f g =
    ap (λ (x : List ℕ). filled t display x (decimal n) (keyword_in d t)) e
    ∙ ap (λ (x : List ℕ). filled t display field x (keyword_in d t)) f
    ∙ ap (λ (x : List ℕ). filled t display field count x) g

one : decimal 1 ≡ 49 ∷ []
one = decimal_digit 1 (omega arith)

none : decimal 0 ≡ 48 ∷ []
none = decimal_digit 0 (omega arith)

no_length : length_text (Known 0) ≡ 32 ∷ 32 ∷ 48 ∷ []
no_length = ap (λ (x : List ℕ). replicate (3 - length x) 32 ++ x) none

-- of an item that begins
item_begins : (d : Dictionary) (declared : Length) (text : List ℕ) → item_text declared ≡ Some text → text ≡ item_line d 16 declared
item_begins d Undefined text e =
    sym (ap text_of e) ∙ sym (called d item_tag (item_opening Undefined) Undefined 1 _ _ _ refl one (item_called d item_tag refl (omega arith)))
item_begins d (Known zero) text e =
    sym (ap text_of e) ∙ sym (called d item_tag (item_opening (Known 0)) (Known 0) 1 _ _ _ no_length one (item_called d item_tag refl (omega arith)))
item_begins d (Known (suc n)) text e = absurd cc

-- and of the ends
item_ends : (d : Dictionary) (declared : Length) → item_end_text declared ≡ item_end_line d 16 declared
item_ends d (Known n) = sym (called d item_end_tag (item_end (Known n)) (Known 0) 0 _ _ _ no_length none (item_called d item_end_tag refl (omega arith)))
item_ends d Undefined = sym (called d item_end_tag (item_end Undefined) (Known 0) 0 _ _ _ no_length none (item_called d item_end_tag refl (omega arith)))

sequence_ends : (d : Dictionary) (declared : Length) → sequence_end_text declared ≡ sequence_end_line d 16 declared
sequence_ends d (Known n) =
    sym (called d sequence_end_tag (sequence_end (Known n)) (Known 0) 0 _ _ _ no_length none (item_called d sequence_end_tag refl (omega arith)))
sequence_ends d Undefined =
    sym (called d sequence_end_tag (sequence_end Undefined) (Known 0) 0 _ _ _ no_length none (item_called d sequence_end_tag refl (omega arith)))

-- so they are at each level up to that
pub item_written : (d : Dictionary) (level : ℕ) (declared : Length) (text : List ℕ) → item_text declared ≡ Some text → level ≤ 16
    → drop (2 * (16 - level)) text ≡ item_line d level declared
item_written d level declared text e h =
    ap (drop (2 * (16 - level))) (item_begins d declared text e) ∙ shallower d level item_tag (codes "na") (item_opening declared) declared 1 h

pub item_end_written : (d : Dictionary) (level : ℕ) (declared : Length) → level ≤ 16
    → drop (2 * (16 - level)) (item_end_text declared) ≡ item_end_line d level declared
item_end_written d level declared h =
    ap (drop (2 * (16 - level))) (item_ends d declared) ∙ shallower d level item_end_tag (codes "na") (item_end declared) (Known 0) 0 h

pub sequence_end_written : (d : Dictionary) (level : ℕ) (declared : Length) → level ≤ 16
    → drop (2 * (16 - level)) (sequence_end_text declared) ≡ sequence_end_line d level declared
sequence_end_written d level declared h =
    ap (drop (2 * (16 - level))) (sequence_ends d declared) ∙ shallower d level sequence_end_tag (codes "na") (sequence_end declared) (Known 0) 0 h

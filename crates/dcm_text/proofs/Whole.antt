-- Whole texts: no byte is lost, and ASCII is its bytes.
use Rattle.std.proofs.Common.{◌≡◌, ℕ, zero, suc, ◌≤◌, Bool, true, false, cond, List, [], ◌∷◌, ◌++◌, length, take, drop, map, Option, Some}
use Rattle.std.proofs.Common.{refl, sym, ap, ◌∙◌, arith, length-drop}
use Rattle.std.specs.Prelude.{flat_map, nat_lt, not}
use Rattle.std.specs.List.{list_all}
use Rattle.std.proofs.lemmas.List.{take-append-drop}
use Rattle.std.proofs.lemmas.Bool.{and_parts}
use Rattle.dcm_lemmas.proofs.Truth.{not_true}
use Rattle.dcm_text.specs.declared.set.Halves.{Halves}
use Rattle.dcm_text.specs.declared.set.TextKind.{TextKind}
use Rattle.dcm_text.specs.declared.sets.Sets.{Sets}
use Rattle.dcm_text.specs.declared.first.Found.{Found}
use Rattle.dcm_text.specs.declared.first.Meaning.TheVariants as meaning
use Rattle.dcm_text.specs.declared.form.Opening.{Opening}
use Rattle.dcm_text.specs.declared.form.Opening.TheVariants as opening
use Rattle.dcm_text.specs.First.{first_of, start_of, resets, behind, opening_of, opened, designated, designations, is_escape}
use Rattle.dcm_text.specs.Forms.{left_opening, right_opening}
use Rattle.dcm_text.specs.Decoding.{Piece, or_unknown, decoded_by, decoded_from, decoded}
use Rattle.dcm_text.specs.Laws.{is_plain, as_itself}
use Rattle.dcm_text.proofs.Pieces.{all_sized, one_piece}

bytes_by : (n : ℕ) (sets : Sets) (kind : TextKind) (halves : Halves) (text : List ℕ) → length text ≤ n
    → flat_map (λ p. p.0) (decoded_by n sets kind halves text) ≡ text
bytes_by zero sets kind halves [] l = refl
bytes_by zero sets kind halves (b ∷ rest) l = absurd (omega arith)
bytes_by (suc n) sets kind halves [] l = refl
bytes_by (suc n) sets kind halves (b ∷ rest) l =
    let f : Found = or_unknown halves (first_of sets kind halves (b ∷ rest)) in
    let s = all_sized true sets kind halves (b ∷ rest) in
    let d = length-drop f.size (b ∷ rest) in
    ap (λ (bs : List ℕ). take f.size (b ∷ rest) ++ bs) (bytes_by n sets kind f.halves (drop f.size (b ∷ rest)) (omega (arith, s.0, d)))
    ∙ take-append-drop f.size (b ∷ rest)

pub all_bytes : (sets : Sets) (kind : TextKind) (text : List ℕ) → flat_map (λ p. p.0) (decoded sets kind text) ≡ text
unfolding decoded decoded_from
all_bytes sets kind text = bytes_by (length text) sets kind (start_of sets) text (omega arith)

-- ---- ASCII

pub same_behind : (sets : Sets) (kind : TextKind) (b : ℕ) → behind sets kind (start_of sets) b ≡ start_of sets
same_behind sets kind b = of_test (resets kind b)
  where
    of_test : (t : Bool) → cond t (start_of sets) (start_of sets) ≡ start_of sets
    of_test true = refl
    of_test false = refl

plain_opening : (sets : Sets) (b : ℕ) → nat_lt b 0x80 ≡ true → opening_of (start_of sets) b ≡ opening.Byte (Some b)
plain_opening sets b e = ap (λ (t : Bool). cond t (left_opening (start_of sets).left b) (right_opening (start_of sets).right b)) e

abbrev pub plain_found : Sets → ℕ → Found
plain_found sets b = record { size = 1; meaning = meaning.Character b; halves = start_of sets }

pub plain_first : (sets : Sets) (kind : TextKind) (b : ℕ) (rest : List ℕ) → nat_lt b 0x80 ≡ true → is_escape sets b ≡ false
    → first_of sets kind (start_of sets) (b ∷ rest) ≡ Some (plain_found sets b)
unfolding first_of
plain_first sets kind b rest small none =
    ap (λ (t : Bool). cond t (designated sets designations (start_of sets) rest) (opened (opening_of (start_of sets) b) sets kind (start_of sets) (b ∷ rest))) none
    ∙ ap (λ (o : Opening). opened o sets kind (start_of sets) (b ∷ rest)) (plain_opening sets b small)
    ∙ ap (λ (h : Halves). let f : Found = record { size = 1; meaning = meaning.Character b; halves = h } in Some f) (same_behind sets kind b)

plain_from : (sets : Sets) (kind : TextKind) (text : List ℕ) → list_all (is_plain sets) text ≡ true
    → decoded_from sets kind (start_of sets) text ≡ map as_itself text
unfolding decoded_from
plain_from sets kind [] e = refl
plain_from sets kind (b ∷ rest) e =
    let both = and_parts (is_plain sets b) (list_all (is_plain sets) rest) e in
    let this = and_parts (nat_lt b 0x80) (not (is_escape sets b)) both.0 in
    one_piece sets kind (start_of sets) (b ∷ rest) (plain_found sets b)
    (ap (λ (o : Option Found). Some (or_unknown (start_of sets) o)) (plain_first sets kind b rest this.0 (not_true (is_escape sets b) this.1)))
    ∙ ap (λ (ps : List Piece). as_itself b ∷ ps) (plain_from sets kind rest both.1)

pub plain_decoded : (sets : Sets) (kind : TextKind) (text : List ℕ) → list_all (is_plain sets) text ≡ true
    → decoded sets kind text ≡ map as_itself text
unfolding decoded
plain_decoded sets kind text e = plain_from sets kind text e

-- in front of other bytes it stands for itself too
plain_ahead : (sets : Sets) (kind : TextKind) (front after : List ℕ) → list_all (is_plain sets) front ≡ true
    → decoded_from sets kind (start_of sets) (front ++ after) ≡ map as_itself front ++ decoded_from sets kind (start_of sets) after
plain_ahead sets kind [] after e = refl
plain_ahead sets kind (b ∷ front) after e =
    let both = and_parts (is_plain sets b) (list_all (is_plain sets) front) e in
    let this = and_parts (nat_lt b 0x80) (not (is_escape sets b)) both.0 in
    one_piece sets kind (start_of sets) (b ∷ (front ++ after)) (plain_found sets b)
    (ap (λ (o : Option Found). Some (or_unknown (start_of sets) o))
    (plain_first sets kind b (front ++ after) this.0 (not_true (is_escape sets b) this.1)))
    ∙ ap (λ (ps : List Piece). as_itself b ∷ ps) (plain_ahead sets kind front after both.1)

pub plain_passed : (sets : Sets) (kind : TextKind) (halves : Halves) (text front after : List ℕ) (size : ℕ) → halves ≡ start_of sets
    → list_all (is_plain sets) (take size text) ≡ true → front ≡ take size text → after ≡ drop size text
    → decoded_from sets kind halves text ≡ map as_itself front ++ decoded_from sets kind halves after
plain_passed sets kind halves text front after size is e f a =
    let start : Halves = start_of sets in
    let whole : front ++ after ≡ text =
    ap (λ (x : List ℕ). x ++ after) f ∙ ap (λ (x : List ℕ). take size text ++ x) a ∙ take-append-drop size text in
    ap (λ (h : Halves). decoded_from sets kind h text) is
    ∙ ap (decoded_from sets kind start) (sym whole)
    ∙ plain_ahead sets kind front after (ap (list_all (is_plain sets)) f ∙ e)
    ∙ ap (λ (h : Halves). map as_itself front ++ decoded_from sets kind h after) (sym is)

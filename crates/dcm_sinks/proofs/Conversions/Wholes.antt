-- An element with its whole value, as the encode sink takes it atom by atom.
use Rattle.std.proofs.Common.{◌≡◌, ◌<◌, ◌∙◌, ap, sym, refl, ℕ, zero, suc, ◌==◌, List, [], ◌∷◌, ◌++◌, length, map, Bool, true, false, cond, Some, None, append_assoc, arith, eq-eqb, ◌⊎◌, inl, inr, subst, Option, Result, Ok, Err}
use Rattle.std.specs.Prelude.{fold}
use Rattle.std.proofs.lemmas.Bool.{ne_eqb, false≢true}
use Rattle.std.proofs.lemmas.List.{append-nil}
use Rattle.dcm_base.specs.Bytes.Spelling.{form, read_as}
use Rattle.dcm_base.specs.Conversion.Recode.{leaf_head}
use Rattle.dcm_base.specs.Steps.Atoms.{Atom, opens, value_byte, closes_leaf}
use Rattle.dcm_base.specs.Steps.Steps.{outputs}
use Rattle.dcm_base.specs.declared.form.Form.{Form}
use Rattle.dcm_base.specs.declared.form.Form.TheVariants.{Value as a_value}
use Rattle.dcm_base.specs.declared.length.Length.{Length}
use Rattle.dcm_base.specs.declared.syntax.Syntax.{Syntax}
use Rattle.dcm_base.specs.declared.tag.Tag.{Tag}
use Rattle.dcm_base.specs.declared.vr.Vr.{Vr}
use Rattle.dcm_head.specs.declared.head.Head.{Head}
use Rattle.dcm_stream.specs.Skip.{is_open, opened, closed}
use Rattle.dcm_stream.specs.Tokens.{whole_atoms, IsLeaf}
use Rattle.std.specs.Io.KnownBytes.{append_known}
use Rattle.dcm_devices.specs.Device.{AppendsFront}
use Rattle.dcm_stream.specs.Telling.{PutsWhole}
use Rattle.dcm_stream.specs.declared.token.WholeFailed.{WholeFailed}
use Rattle.dcm_stream.specs.declared.token.WholeFailed.TheVariants.{AtHead, InValue}
use Rattle.dcm_sinks.specs.EncodeSink.{Copying, EncodeState, leaf_copy, copies, copy_writes, copy_ends, encode_opens, encode_opens_writes, step_at, writes_at, encode_step, encode_writes}
use Rattle.dcm_sinks.specs.Wholes.{PutsLeaf, copied_whole, without_value}
use Rattle.dcm_sinks.proofs.Conversions.Dropping.{live}

-- the bytes of a value and its end
abbrev rest_atoms : List ℕ → List Atom
rest_atoms bytes = map value_byte bytes ++ closes_leaf ∷ []

-- ---- an element that is written

copies_rest : (s : EncodeState) (c : Copying) (bytes : List ℕ)
    → (fold encode_step (live s (Some c)) (rest_atoms bytes) ≡ live s None) × (outputs encode_step encode_writes (live s (Some c)) (rest_atoms bytes) ≡ copied_whole c bytes)
copies_rest s c [] = (refl, append-nil (copy_ends c))
copies_rest s c (b ∷ bytes) =
    let more = copies_rest s (copies c b) bytes in
    (more.0, ap (λ z. copy_writes c b ++ z) more.1 ∙ sym (append_assoc (copy_writes c b) (outputs copies copy_writes (copies c b) bytes) (copy_ends (fold copies (copies c b) bytes))))

module _ (s : EncodeState) (head : Head) (syntax : Syntax) (value : List ℕ) (none : s.dropped ≡ 0) (other : head.tag.element ≡ 0 → ⊥) (leaf : IsLeaf head syntax value) where
  abbrev opening : Atom
  opening = opens head.tag head.vr head.length syntax

  abbrev copy : Copying
  copy = leaf_copy syntax s.target head.vr (length value)

  numbered : (head.tag.element == 0) ≡ false
  numbered = ne_eqb head.tag.element 0 other

  first_state : encode_step s opening ≡ live s (Some copy)
  first_state =
      ap (λ (d : ℕ). step_at d s opening) none
      ∙ ap (λ (t : Bool). cond t (let dropped : EncodeState = record s { dropped = opened s.dropped true } in dropped) (encode_opens (form syntax (read_as syntax head.tag head.vr) head.length) s head.vr head.length syntax)) numbered
      ∙ ap (λ (f : Form). encode_opens f s head.vr head.length syntax) leaf.form_is
      ∙ ap (λ (l : Length). encode_opens a_value s head.vr l syntax) leaf.length_is
      ∙ ap (λ (d : ℕ). let t : EncodeState = record s { dropped = d; copying = Some copy } in t) none

  first_bytes : encode_writes s opening ≡ leaf_head s.target head.tag head.vr (length value)
  first_bytes =
      ap (λ (d : ℕ). writes_at d s opening) none
      ∙ ap (λ (t : Bool). cond t [] (encode_opens_writes (form syntax (read_as syntax head.tag head.vr) head.length) s.target head.tag head.vr head.length)) numbered
      ∙ ap (λ (f : Form). encode_opens_writes f s.target head.tag head.vr head.length) leaf.form_is
      ∙ ap (λ (l : Length). encode_opens_writes a_value s.target head.tag head.vr l) leaf.length_is

  pub whole_state : without_value s ≡ fold encode_step s (whole_atoms head syntax value)
  whole_state =
      ap (λ (d : ℕ). let t : EncodeState = record s { dropped = d; copying = None } in t) none
      ∙ sym ((copies_rest s copy value).0)
      ∙ ap (λ (t : EncodeState). fold encode_step t (rest_atoms value)) (sym first_state)

  value_bytes : copied_whole copy value ≡ outputs encode_step encode_writes (encode_step s opening) (rest_atoms value)
  value_bytes = sym ((copies_rest s copy value).1) ∙ ap (λ (t : EncodeState). outputs encode_step encode_writes t (rest_atoms value)) (sym first_state)

  head_bytes : leaf_head s.target head.tag head.vr (length value) ≡ outputs encode_step encode_writes s (opening ∷ [])
  head_bytes = sym first_bytes ∙ sym (append-nil (encode_writes s opening))

  pub whole_bytes : leaf_head s.target head.tag head.vr (length value) ++ copied_whole copy value ≡ outputs encode_step encode_writes s (whole_atoms head syntax value)
  whole_bytes =
      ap (λ (z : List ℕ). z ++ copied_whole copy value) (sym first_bytes)
      ∙ ap (λ (z : List ℕ). encode_writes s opening ++ z) value_bytes

  -- and so for each part of it
  pub whole_puts : {T : Type 0} (held holds : Option (List ℕ)) (r : Result T WholeFailed) → PutsLeaf held holds (leaf_head s.target head.tag head.vr (length value)) (copied_whole copy value) r
      → PutsWhole encode_step encode_writes s held holds (opening ∷ []) (rest_atoms value) r
  whole_puts held holds (Ok x) h = h ∙ ap (append_known held) whole_bytes
  whole_puts held holds (Err AtHead) h = subst (AppendsFront held holds) head_bytes h
  whole_puts held holds (Err InValue) h =
      subst (λ (bs : List ℕ). AppendsFront (append_known held (outputs encode_step encode_writes s (opening ∷ []))) holds bs) value_bytes
      (subst (λ (bs : List ℕ). AppendsFront (append_known held bs) holds (copied_whole copy value)) head_bytes h)

-- ---- one that is not

drops_rest : (s : EncodeState) (n : ℕ) (bytes : List ℕ)
    → (fold encode_step (record s { dropped = suc n }) (rest_atoms bytes) ≡ record s { dropped = n }) × (outputs encode_step encode_writes (record s { dropped = suc n }) (rest_atoms bytes) ≡ [])
drops_rest s n [] = (refl, refl)
drops_rest s n (b ∷ bytes) = drops_rest s n bytes

closes_open : (s : EncodeState) (d : ℕ) (bytes : List ℕ) → is_open d ≡ true
    → (fold encode_step (record s { dropped = d }) (rest_atoms bytes) ≡ record s { dropped = closed d }) × (outputs encode_step encode_writes (record s { dropped = d }) (rest_atoms bytes) ≡ [])
closes_open s zero bytes e = absurd (cc)
closes_open s (suc n) bytes e = drops_rest s n bytes

opens_dropped : (s : EncodeState) (d : ℕ) (tag : Tag) (vr : Vr) (declared : Length) (syntax : Syntax) → (d ≡ 0 → tag.element ≡ 0)
    → (encode_step (record s { dropped = d }) (opens tag vr declared syntax) ≡ record s { dropped = opened d true }) × (encode_writes (record s { dropped = d }) (opens tag vr declared syntax) ≡ [])
opens_dropped s zero tag vr declared syntax e =
    let now : EncodeState = record s { dropped = 0 } in
    let read : Form = form syntax (read_as syntax tag vr) declared in
    let numbered : (tag.element == 0) ≡ true = eq-eqb tag.element 0 (e refl) in
    (ap (λ (t : Bool). cond t (let dropped : EncodeState = record s { dropped = 1 } in dropped) (encode_opens read now vr declared syntax)) numbered, ap (λ (t : Bool). cond t [] (encode_opens_writes read s.target tag vr declared)) numbered)
opens_dropped s (suc n) tag vr declared syntax e = (refl, refl)

some_open : (n : ℕ) → 0 < n → is_open n ≡ true
some_open zero h = absurd (omega (arith, h))
some_open (suc n) h = refl

opened_open : (d : ℕ) → is_open (opened d true) ≡ true
opened_open zero = refl
opened_open (suc n) = some_open (opened (suc n) true) (omega arith)

drops_whole : (s : EncodeState) (d : ℕ) (head : Head) (syntax : Syntax) (value : List ℕ) → (d ≡ 0 → head.tag.element ≡ 0)
    → (fold encode_step (record s { dropped = d }) (whole_atoms head syntax value) ≡ record s { dropped = closed (opened d true) }) × (outputs encode_step encode_writes (record s { dropped = d }) (whole_atoms head syntax value) ≡ [])
drops_whole s d head syntax value e =
    let first = opens_dropped s d head.tag head.vr head.length syntax e in
    let rest = closes_open s (opened d true) value (opened_open d) in (
      ap (λ (t : EncodeState). fold encode_step t (rest_atoms value)) first.0 ∙ rest.0,
      ap (λ (z : List ℕ). z ++ outputs encode_step encode_writes (encode_step (record s { dropped = d }) (opens head.tag head.vr head.length syntax)) (rest_atoms value)) first.1
          ∙ ap (λ (t : EncodeState). outputs encode_step encode_writes t (rest_atoms value)) first.0
          ∙ rest.1,
    )

pub dropped_whole : (s : EncodeState) (head : Head) (syntax : Syntax) (value : List ℕ) → (s.dropped ≡ 0 → head.tag.element ≡ 0)
    → (record s { dropped = closed (opened s.dropped true) } ≡ fold encode_step s (whole_atoms head syntax value)) × ([] ≡ outputs encode_step encode_writes s (whole_atoms head syntax value))
dropped_whole s head syntax value e = let all = drops_whole s s.dropped head syntax value e in (sym all.0, sym all.1)

-- the test of the code
pub unless_open : (o : Bool) (d n : ℕ) → o ≡ is_open d → (o ≡ true) ⊎ ((o ≡ false) × (n ≡ 0)) → d ≡ 0 → n ≡ 0
unless_open o d n is (inl e) z = absurd (false≢true (sym (is ∙ ap is_open z) ∙ e))
unless_open o d n is (inr e) z = e.1

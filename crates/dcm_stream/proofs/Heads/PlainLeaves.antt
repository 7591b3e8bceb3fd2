-- Elements with short heads whose values are whole, one after another.
use Rattle.std.proofs.Common.{◌≡◌, ◌∙◌, sym, ap, subst, refl, ℕ, ◌+◌, ◌-◌, ◌≤◌, List, [], ◌++◌, length, take, drop, Bool, true, false, cond, not, Option, Some, None, Result, Ok, Err, arith, length-drop, take-append-drop}
use Rattle.std.proofs.lemmas.List.{take-append-le}
use Rattle.std.specs.Prelude.{◌==◌, ◌&&◌, ◌||◌, fold, IsErrAnd, IfOk, option_map}
use Rattle.std.specs.Io.KnownBytes.{append_known}
use Rattle.dcm_base.specs.declared.tag.Tag.{Tag}
use Rattle.dcm_base.specs.declared.vr.Vr.{Vr}
use Rattle.dcm_base.specs.declared.vr.Vr.TheVariants.{OB, OD, OF, OL, OV, OW, SQ, SV, UC, UN, UR, UT, UV}
use Rattle.dcm_base.specs.declared.dictionary.Dictionary.{Dictionary}
use Rattle.dcm_base.specs.declared.dictionary.Dictionary.TheVariants.{Extract}
use Rattle.dcm_base.specs.declared.syntax.Syntax.{Syntax}
use Rattle.dcm_base.specs.declared.syntax.Syntax.TheVariants.{Little as little_in}
use Rattle.dcm_base.specs.declared.length.Length.{Length}
use Rattle.dcm_base.specs.declared.length.Length.TheVariants.{Known}
use Rattle.dcm_base.specs.declared.level.Level.{Level}
use Rattle.dcm_base.specs.declared.level.Container.{Container}
use Rattle.dcm_base.specs.declared.level.Container.TheVariants.{DataSet, Item, Sequence, FragmentList}
use Rattle.dcm_base.specs.Reading.Place.{is_undefined}
use Rattle.dcm_base.specs.Tables.Tag.{is_item_end}
use Rattle.dcm_base.specs.declared.fault.Fault.{Fault}
use Rattle.dcm_base.specs.declared.form.Form.{Form}
use Rattle.dcm_base.specs.declared.form.Form.TheVariants.{Value as a_value}
use Rattle.dcm_base.specs.Tables.Representation.{is_long}
use Rattle.dcm_base.specs.Bytes.Spelling.{form, read_as}
use Rattle.dcm_base.specs.Bytes.Head.{tag_at}
use Rattle.dcm_base.specs.Reading.Place.{room, passes, depth, is_data, is_allowed}
use Rattle.dcm_base.specs.Reading.Stop.{Stop, HeadBar}
use Rattle.dcm_base.specs.Reading.Reads.{INPUT_LIMIT}
use Rattle.dcm_base.specs.Steps.Atoms.{Atom}
use Rattle.dcm_base.specs.Steps.Steps.{outputs}
use Rattle.dcm_base.specs.declared.stopped.Stopped.TheVariants.{Output}
use Rattle.dcm_devices.specs.Device.{AppendsFront}
use Rattle.dcm_head.specs.declared.head.Head.{Head}
use Rattle.dcm_stream.specs.declared.token.Bar.{Bar}
use Rattle.dcm_stream.specs.declared.judge.Judged.TheVariants as judge
use Rattle.dcm_stream.specs.declared.judge.Opening.{Opening}
use Rattle.dcm_stream.specs.declared.judge.Opening.TheVariants as opening
use Rattle.dcm_stream.specs.declared.cursor.Cursor.{Cursor}
use Rattle.dcm_stream.specs.declared.whole_leaf.WholeLeaf.{WholeLeaf}
use Rattle.dcm_stream.specs.WholeLeaf.{IsPlain, IsWhole, HoldsLittle, holds_elements}
use Rattle.dcm_stream.specs.Halts.{Halt}
use Rattle.dcm_stream.specs.Places.{innermost}
use Rattle.dcm_stream.specs.Reading.{Reading, Opened, element_opens}
use Rattle.dcm_stream.specs.Judging.{bars_head, fault_of, head_form, shape_fault, or_fault, element_fault, head_fault, opens_with, OpensAs, Judges}
use Rattle.dcm_stream.specs.Machine.{reading, Comes, Feeds, bytes_read, held_sign}
use Rattle.dcm_stream.specs.Tokens.{whole_atoms}
use Rattle.dcm_stream.proofs.Runs.Parts.{feeds_on}
use Rattle.dcm_stream.proofs.Runs.StaysSmall.{feeds_first}
use Rattle.dcm_stream.proofs.Containers.Unfilled.{stays_settled}
use Rattle.dcm_stream.proofs.Heads.Elements.{MayCome, opens_judged, value_opens_as}
use Rattle.dcm_stream.proofs.Heads.WholeLeaves.{leaf_came, leaf_failed}
use Rattle.dcm_stream.proofs.Heads.PieceLeaves.{leaf_read}
use Rattle.dcm_base.specs.Tables.Tag.{is_item}
use Rattle.dcm_base.specs.declared.fault.Fault.TheVariants.{PassesEnd}
use Rattle.dcm_head.specs.HeadRead.{tag_read}
use Rattle.dcm_head.specs.declared.head.HeadRead.TheVariants.{Done}
use Rattle.dcm_stream.proofs.Containers.Room.{passes_later, passes_less}
use Rattle.dcm_stream.specs.Judging.{item_fault}
use Rattle.dcm_stream.specs.Reading.{closes, item_opens, size_of, without_value}
use Rattle.dcm_stream.specs.WholeLeaf.{reads_leaf}

-- ---- what is judged of one

-- its value follows
read_short : (d : Dictionary) (tag : Tag) (vr : Vr) → is_long vr ≡ false → read_as (little_in d) tag vr ≡ vr
read_short Extract tag vr e = refl
read_short d tag UN e = absurd (cc)
read_short d tag _ e = refl

plain_form : (d : Dictionary) (vr : Vr) (n : ℕ) → is_long vr ≡ false → form (little_in d) vr (Known n) ≡ a_value
unfolding form
plain_form d OB n e = absurd (cc)
plain_form d OD n e = absurd (cc)
plain_form d OF n e = absurd (cc)
plain_form d OL n e = absurd (cc)
plain_form d OV n e = absurd (cc)
plain_form d OW n e = absurd (cc)
plain_form d SQ n e = absurd (cc)
plain_form d SV n e = absurd (cc)
plain_form d UC n e = absurd (cc)
plain_form d UN n e = absurd (cc)
plain_form d UR n e = absurd (cc)
plain_form d UT n e = absurd (cc)
plain_form d UV n e = absurd (cc)
plain_form d _ n e = refl

pub no_item : (tag : Tag) → is_data tag ≡ true → (tag.group == 0xFFFE) ≡ false
no_item tag e = by_test (tag.group == 0xFFFE) e
  where
    by_test : (t : Bool) → (not t && not (tag.group == 0x0002)) ≡ true → t ≡ false
    by_test true h = cc
    by_test false h = refl

module _ (d : Dictionary) (bytes : List ℕ) (leaf : WholeLeaf) (plain : IsPlain (little_in d) bytes leaf) where
  abbrev size : ℕ
  size = length leaf.value.now

  pub form_is : head_form (little_in d) leaf.head ≡ a_value
  form_is =
      ap (λ (x : Vr). form (little_in d) x leaf.head.length) (read_short d leaf.head.tag leaf.head.vr plain.head.short) ∙ ap (form (little_in d) leaf.head.vr) plain.length_is
      ∙ plain_form d leaf.head.vr size plain.head.short

  abbrev as_leaf : Opening
  as_leaf = opening.Leaf leaf.head leaf.syntax size

  pub is_whole : IsWhole as_leaf leaf
  is_whole =
      record {
        opens = refl;
        is_leaf = record {
          length_is = plain.length_is;
          form_is = subst (λ (s : Syntax). head_form s leaf.head ≡ a_value) (sym plain.syntax_is) form_is;
        };
        no_sign = plain.no_sign;
      }

  -- nothing but a bar stops it
  no_shape_fault : (r : Option ℕ) (deep : ℕ) → passes 8 r ≡ false → passes (8 + size) r ≡ false → shape_fault a_value 8 (Known size) r deep ≡ None
  no_shape_fault r deep free fits =
      ap (λ (x : Bool). cond {A = Option Fault} x (Some PassesEnd) (cond (passes (8 + size) r) (Some PassesEnd) None)) free
      ∙ ap (λ (x : Bool). cond {A = Option Fault} x (Some PassesEnd) None) fits

  pub judged_plain : (bar : HeadBar) (inner : Level) (levels : List Level) (position : ℕ) → inner.syntax ≡ little_in d → innermost levels ≡ Some inner → is_allowed inner.container inner.declared leaf.head.tag ≡ true
      → passes 8 (room position levels) ≡ false → passes (8 + size) (room position levels) ≡ false → bar leaf.head.tag leaf.head.vr leaf.head.length ≡ None
      → Judges bar inner levels position bytes (judge.Opens as_leaf 8)
  judged_plain bar inner levels position s is may free fits bars =
      let around = room position levels in
      let deep = depth levels in
      let item = no_item leaf.head.tag plain.head.of_data in
      let same : inner.syntax ≡ leaf.syntax = s ∙ sym plain.syntax_is in
      let formed : head_form inner.syntax leaf.head ≡ a_value = ap (λ (x : Syntax). head_form x leaf.head) s ∙ form_is in
      let shape : shape_fault (head_form inner.syntax leaf.head) 8 leaf.head.length around deep ≡ None =
      ap (λ (x : Form). shape_fault x 8 leaf.head.length around deep) formed ∙ ap (λ (x : Length). shape_fault a_value 8 x around deep) plain.length_is ∙ no_shape_fault around deep free fits in
      let none : element_fault bar inner.syntax levels position leaf.head 8 ≡ None = ap (λ (x : Option Fault). or_fault x (bar leaf.head.tag leaf.head.vr leaf.head.length)) shape ∙ bars in
      let head_none : head_fault bar inner levels position leaf.head 8 ≡ None =
      ap (λ (x : Bool). cond {A = Option Fault} x (cond (is_item leaf.head.tag) (item_fault inner.container leaf.head.length around) None) (element_fault bar inner.syntax levels position leaf.head 8)) item ∙ none in
      let as_value : OpensAs (element_opens (head_form inner.syntax leaf.head) inner.syntax leaf.head.tag leaf.head.vr leaf.head.length) (opening.Leaf leaf.head inner.syntax size) =
      value_opens_as (head_form inner.syntax leaf.head) inner.syntax leaf.head size formed (ap size_of (sym plain.length_is)) in
      let opens : OpensAs (opens_with inner leaf.head) (opening.Leaf leaf.head inner.syntax size) = λ begin ls.
      ap (λ (x : Bool). cond {A = Opened} x (cond (is_item leaf.head.tag) (item_opens inner.container inner.syntax leaf.head.length begin ls) (without_value (drop 1 ls) (closes inner.container)))
      (element_opens (head_form inner.syntax leaf.head) inner.syntax leaf.head.tag leaf.head.vr leaf.head.length begin ls)) item ∙ as_value begin ls in
      let opens_leaf : OpensAs (opens_with inner leaf.head) as_leaf = subst (λ (x : Syntax). OpensAs (opens_with inner leaf.head) (opening.Leaf leaf.head x size)) same opens in
      let m : MayCome inner levels position bytes = record {
        room_for = free;
        eight = plain.eight;
        allowed = ap (is_allowed inner.container inner.declared) (ap (λ (x : Syntax). tag_at x bytes) s ∙ sym plain.head.tag_is) ∙ may;
      } in
      let read = subst (λ (x : Syntax). Done leaf.head 8 ≡ tag_read x bytes (tag_at x bytes)) (sym s) plain.head.read in
      opens_judged bar inner levels position bytes m leaf.head 8 (Ok as_leaf) as_leaf is read (head_none, opens_leaf) refl

-- elements may come in data sets and items
pub may_come : (c : Container) (declared : Length) (tag : Tag) → holds_elements c ≡ true → is_data tag ≡ true → is_allowed c declared tag ≡ true
unfolding is_allowed
may_come DataSet declared tag h e = e
may_come Item declared tag h e = ap (λ (x : Bool). x || (is_undefined declared && is_item_end tag)) e
may_come Sequence declared tag h e = absurd (cc)
may_come FragmentList declared tag h e = absurd (cc)

-- ---- one after another

module _ {S : Type 0} (bars : S → Head → Option Bar) (step : S → Atom → S) (writes : S → Atom → List ℕ) where
  -- behind the head of one
  abbrev behind_head : Cursor → Cursor
  behind_head p = record p { position = p.position + 8 }

  -- a place at which one may come
  pub record PlainPlace (p : Cursor) (d : Dictionary) (inner : Level) (s : S) (bytes : List ℕ) (leaf : WholeLeaf) : Type 0 where
    pub head : p.head.items ≡ []
    pub left : p.left ≡ 0
    pub within : p.position + length bytes ≤ INPUT_LIMIT
    pub inner_is : innermost p.levels ≡ Some inner
    pub syntax_is : inner.syntax ≡ little_in d
    pub may : is_allowed inner.container inner.declared leaf.head.tag ≡ true
    pub free : passes (length bytes + 8) (room p.position p.levels) ≡ false
    pub plain : IsPlain (little_in d) bytes leaf
    pub taken : bars s leaf.head ≡ None

  -- the place behind others
  pub place_of : (old p : Cursor) (d : Dictionary) (s : S) (rest : List ℕ) (leaf : WholeLeaf) → p ≡ record old { position = p.position } → (holds : HoldsLittle d old.levels) → old.left ≡ 0 → old.head.items ≡ [] → p.position + length rest ≤ INPUT_LIMIT
      → passes (length rest + 8) (room p.position old.levels) ≡ false → IsPlain (little_in d) rest leaf → bars s leaf.head ≡ None → PlainPlace p d holds.inner s rest leaf
  place_of old p d s rest leaf same holds left head within free plain taken =
      let levels : p.levels ≡ old.levels = ap (λ (x : Cursor). x.levels) same in
      record {
        head = ap (λ (x : Cursor). x.head.items) same ∙ head;
        left = ap (λ (x : Cursor). x.left) same ∙ left;
        within = within;
        inner_is = ap (λ (ls : List Level). innermost ls) levels ∙ holds.inner_is;
        syntax_is = holds.syntax_is;
        may = holds.may_come leaf.head.tag plain.head.of_data;
        free = ap (λ (ls : List Level). passes (length rest + 8) (room p.position ls)) levels ∙ free;
        plain = plain;
        taken = taken;
      }

  module _ (p : Cursor) (d : Dictionary) (inner : Level) (s : S) (bytes : List ℕ) (leaf : WholeLeaf) (at : PlainPlace p d inner s bytes leaf) where
    abbrev n : ℕ
    n = length leaf.value.now

    abbrev atoms : List Atom
    atoms = whole_atoms leaf.head leaf.syntax leaf.value.now

    pub leaf_within : 8 + n ≤ length bytes
    leaf_within = let k = at.plain.eight in let f : n ≤ length bytes - 8 = subst (λ (m : ℕ). n ≤ m) (length-drop 8 bytes) at.plain.front.fits in omega (arith, k, f)

    pub plain_read : {T : Type 0} (held : Option (List ℕ)) (t : S) (holds : Option (List ℕ)) (new : Option Stop → Reading) (r : Result T Halt)
        → Comes step writes s held t holds new (reads_leaf (behind_head p) leaf) r → Feeds bars step writes (reading p None) s held new t holds (take (8 + n) bytes) r
    plain_read held t holds new r c =
        let free8 = passes_less 8 (length bytes + 8) (room p.position p.levels) (omega arith) at.free in
        let room_for = passes_less (8 + n) (length bytes + 8) (room p.position p.levels) (omega (arith, leaf_within)) at.free in
        let barred : bars_head bars s leaf.head.tag leaf.head.vr leaf.head.length ≡ None = ap (option_map fault_of) at.taken in
        let j = judged_plain d bytes leaf at.plain (bars_head bars s) inner p.levels p.position at.syntax_is at.inner_is at.may free8 room_for barred in
        leaf_read bars step writes p inner s bytes at.head at.left at.within at.inner_is held t holds new (judge.Opens (opening.Leaf leaf.head leaf.syntax n) 8) (opening.Leaf leaf.head leaf.syntax n) leaf 8 (drop 8 bytes) r j refl
        (is_whole d bytes leaf at.plain) at.plain.front refl c

    -- it was taken
    pub plain_taken : (q : Cursor) (held : Option (List ℕ)) (t : S) (holds : Option (List ℕ)) → q ≡ record p { position = p.position + (8 + n) } → held_sign p ≡ None
        → t ≡ fold step s atoms → holds ≡ append_known held (outputs step writes s atoms) → Feeds {T = Unit {0}} bars step writes (reading p None) s held (reading q) t holds (take (8 + n) bytes) (Ok (tt {0}))
    plain_taken q held t holds same none a b =
        let levels : q.levels ≡ p.levels = ap (λ (x : Cursor). x.levels) same in
        let place : q.position ≡ p.position + (8 + n) = ap (λ (x : Cursor). x.position) same in
        let behind : q.position ≡ (p.position + 8) + n = omega arith in
        let later = passes_later (8 + n) 8 p.position p.levels (passes_less (8 + n + 8) (length bytes + 8) (room p.position p.levels) (omega (arith, leaf_within)) at.free) in
        let free : passes 8 (room q.position q.levels) ≡ false = ap (λ (k : ℕ). passes 8 (room k q.levels)) place ∙ ap (λ (ls : List Level). passes 8 (room (p.position + (8 + n)) ls)) levels ∙ later in
        let stays = stays_settled step writes {T = Unit {0}} q t holds (tt {0}) (ap (λ (x : Cursor). x.head.items) same ∙ at.head) (ap (λ (x : Cursor). x.left) same ∙ at.left) free in
        plain_read held t holds (reading q) (Ok (tt {0})) (leaf_came step writes (behind_head p) q leaf s held t holds t holds (reading q) (Ok (tt {0})) (ap held_sign same ∙ none) behind levels a b stays)

    -- the output failed at it
    pub plain_failed : (q : Cursor) (held : Option (List ℕ)) (t : S) (holds : Option (List ℕ)) → AppendsFront held holds (outputs step writes s atoms) → Feeds {T = Unit {0}} bars step writes (reading p None) s held (reading q) t holds (take (8 + n) bytes) (Err Output)
    plain_failed q held t holds h = plain_read {T = Unit {0}} held t holds (reading q) (Err Output) (leaf_failed step writes {T = Unit {0}} (behind_head p) leaf s held t holds (reading q) (Err Output) refl h)

  -- it failed behind others
  pub run_failed : (old : Reading) (s : S) (held : Option (List ℕ)) (mid : Cursor) (m : S) (mid_held : Option (List ℕ)) (new : Cursor) (t : S) (holds : Option (List ℕ)) (front rest run : List ℕ) (k : ℕ) (r : Result ℕ Halt)
      → IsErrAnd r (λ x. x ≡ Output) → run ≡ front ++ rest → Feeds {T = Unit {0}} bars step writes old s held (reading mid) m mid_held front (Ok (tt {0}))
      → Feeds {T = Unit {0}} bars step writes (reading mid None) m mid_held (reading new) t holds (take k rest) (Err Output) → Feeds bars step writes old s held (reading new) t holds (bytes_read r run) r
  run_failed old s held mid m mid_held new t holds front rest run k (Ok n) e whole g h = absurd e
  run_failed old s held mid m mid_held new t holds front rest run k (Err x) e whole g h =
      let first = feeds_first bars step writes ℕ (reading mid None) m mid_held new t holds k rest Output h in
      subst (λ (y : Halt). Feeds {T = ℕ} bars step writes old s held (reading new) t holds run (Err y)) (sym e)
      (subst (λ (xs : List ℕ). Feeds {T = ℕ} bars step writes old s held (reading new) t holds xs (Err Output)) (sym whole)
      (feeds_on bars step writes {T = ℕ} old s held (reading mid None) m mid_held (reading new) t holds front rest (Err Output) g.0 g.1 first))

  -- a run is the beginning of the bytes
  pub within_run : (p : Cursor) (s : S) (held : Option (List ℕ)) (t : S) (holds : Option (List ℕ)) (new : Cursor) (front piece : List ℕ) (n : ℕ) (r : Result ℕ Halt) → front ≡ take n piece → IfOk r (λ k. k ≤ length front)
      → Feeds bars step writes (reading p None) s held (reading new) t holds (bytes_read r front) r → Feeds bars step writes (reading p None) s held (reading new) t holds (bytes_read r piece) r
  within_run p s held t holds new front piece n (Ok k) e le h =
      let whole : front ++ drop n piece ≡ piece = ap (λ (xs : List ℕ). xs ++ drop n piece) e ∙ take-append-drop n piece in
      let same : take k front ≡ take k piece = sym (take-append-le k front (drop n piece) le) ∙ ap (take k) whole in
      subst (λ (xs : List ℕ). Feeds bars step writes (reading p None) s held (reading new) t holds xs (Ok k)) same h
  within_run p s held t holds new front piece n (Err halt) e le h =
      feeds_first bars step writes ℕ (reading p None) s held new t holds n piece halt (subst (λ (xs : List ℕ). Feeds {T = ℕ} bars step writes (reading p None) s held (reading new) t holds xs (Err halt)) e h)

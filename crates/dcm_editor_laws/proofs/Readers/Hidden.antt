-- What is erased is seen by no reader from which the values hide nothing.
use Rattle.std.proofs.Common.{◌≡◌, ◌∙◌, ap, sym, refl, subst, ℕ, List, [], length, map, None, Bool, true, false}
use Rattle.std.specs.Prelude.{if◌then◌else◌, ◌==◌}
use Rattle.dcm_base.specs.declared.length.Length.TheVariants.{Undefined}
use Rattle.dcm_base.specs.declared.dictionary.Dictionary.{Dictionary}
use Rattle.dcm_base.specs.declared.syntax.Syntax.{Syntax}
use Rattle.dcm_base.specs.declared.syntax.Syntax.TheVariants.{Implicit as implicit_in, Little as little_in, Big as big_in}
use Rattle.dcm_base.specs.declared.tag.Tag.{Tag}
use Rattle.dcm_base.specs.Reading.Bars.{target_bar}
use Rattle.dcm_base.specs.Tree.Front.{Front, front, nothing_open, open_leaf, open_sequence, open_fragments}
use Rattle.dcm_base.specs.Conversion.Normal.{FitsTarget, ItemsFit, TellsSequence, TellsValue, UnlessGroupLength, normal, normal_front, normal_items, normal_sequence_vr, normal_value, normal_vr}
use Rattle.dcm_base.specs.Reading.Reads.{Reads, ended}
use Rattle.dcm_base.specs.Conversion.Recode.{recode, is_explicit}
use Rattle.dcm_base.specs.Bytes.Spelling.{SpellsFront, TreesAt, last_tag, after, dictionary_after}
use Rattle.dcm_base.specs.Reading.Stop.{complete}
use Rattle.dcm_base.specs.Tables.Syntax.{read_by, dictionary_of}
use Rattle.dcm_base.specs.Tree.Tree.{Trees, no_tree, leaf, sequence, fragments, Items, no_item, item}
use Rattle.dcm_base.specs.Tree.Value.{evened}
use Rattle.dcm_base.proofs.DataSets.Fronts.{front_same}
use Rattle.dcm_sinks.proofs.ReadBack.Written.{trees_written}
use Rattle.dcm_edits.specs.Edit.{Edit, edited, erase_all, erase_private}
use Rattle.dcm_editor_laws.specs.Everywhere.{Among, Content, EverywhereIn, IsOther, IsPublic}
use Rattle.dcm_editor_laws.specs.Modification.{Modifies}
use Rattle.dcm_editor_laws.specs.Readers.{HidesNothing, HoldsNothing, IsSequence, NoItemHidden, NothingHidden, OpensAlike, ReadsBy}
use Rattle.dcm_editor_laws.proofs.ReadBack.StaysReady.{FrontReady}
use Rattle.dcm_editor_laws.proofs.Readers.Opened.{own_opens}
use Rattle.dcm_editor_laws.proofs.Readers.Others.{is_ready, no_private_is_left, none_is_left, without_it, without_private}
use Rattle.dcm_editor_laws.proofs.Readers.Respelled.{seen, seen_has, trees_by}
use Rattle.dcm_editor_laws.proofs.Readers.WholeReads.{whole_read}
use Rattle.dcm_base.proofs.DataSets.After.{read_by_twice}
use Rattle.dcm_base.specs.declared.vr.Vr.{Vr}

all_spelled : (s : Syntax) (x : Trees) (bytes : List ℕ) → TreesAt s x bytes [] → SpellsFront s (front x nothing_open (last_tag None x) false) bytes
unfolding SpellsFront
all_spelled s x bytes h = ([], h, refl, refl, refl)

module _ (d e : Dictionary) (P : Tag → Content → Type 0) (alike : (t : Tag) (c x : Content) → P t c → P t x) where
  -- a reader with the dictionary e sees what was written with d
  implicit_seen : (set : Front) (at : ℕ) (again : Front) → FrontReady (implicit_in d) set → HidesNothing e (implicit_in d) (normal_front (implicit_in d) set) → EverywhereIn P (normal_front (implicit_in d) set)
      → Reads (target_bar (implicit_in e)) (implicit_in e) at (recode (implicit_in d) set) again complete → EverywhereIn P again
  unfolding recode
  implicit_seen (front whole nothing_open reached closed) at again ready hides so reads =
      let x : Trees = normal (implicit_in d) whole in
      let y : Trees = seen e x in
      let bytes : List ℕ = recode (implicit_in d) (front whole nothing_open reached closed) in
      let spelled : TreesAt (implicit_in e) y bytes [] = trees_by d e x bytes [] hides (trees_written (implicit_in d) 0 whole [] ready.0) in
      let w = whole_read (target_bar (implicit_in e)) (implicit_in e) at bytes again reads in
      let same : w.0 ≡ front y nothing_open (last_tag None y) false = front_same (implicit_in e) w.0 _ bytes w.1 (all_spelled (implicit_in e) y bytes spelled) in
      let is : again ≡ front y nothing_open (last_tag None y) true = w.2 ∙ ap (ended complete) same in
      subst (EverywhereIn P) (sym is) (seen_has P alike e x so)
  implicit_seen (front whole (open_leaf tag vr size value) reached closed) at again ready hides so reads = absurd (let none = ready.1 in cc)
  implicit_seen (front whole (open_sequence tag vr declared items last) reached closed) at again ready hides so reads = absurd (let none = ready.1 in cc)
  implicit_seen (front whole (open_fragments tag vr values last) reached closed) at again ready hides so reads = absurd (let none = ready.1 in cc)

-- ---- what is opened alike hides nothing

value_holds : (e : Dictionary) (s : Syntax) (t : Tag) (vr : Vr) (n : ℕ) (v : List ℕ) → TellsValue (read_by e s) t vr n → HoldsNothing (read_by e s) t (normal_vr s t vr n) v
value_holds e (implicit_in d) t vr n v tells = λ is. absurd (tells is)
value_holds e (little_in d) t vr n v tells = tells
value_holds e (big_in d) t vr n v tells = tells

sequence_is : (s : Syntax) (t : Tag) → TellsSequence s t → IsSequence s t Undefined
sequence_is (implicit_in e) t tells = tells
sequence_is (little_in e) t tells = tt
sequence_is (big_in e) t tells = tt

one_hides : (to : Syntax) (t : Tag) (P : Type 0) (g : Bool) (tree : Trees → Trees) (r : Trees) → (t.element == 0) ≡ g → (P → NothingHidden to r → NothingHidden to (tree r)) → UnlessGroupLength t P → NothingHidden to r → NothingHidden to (if g then r else tree r)
one_hides to t P true tree r e join k h = h
one_hides to t P false tree r e join k h = join (k e) h

module _ (e : Dictionary) where
  -- after a leaf the dictionary is the same
  still : (s : Syntax) (t : Tag) (vr : Vr) (v : List ℕ) → read_by e (after s t vr v) ≡ read_by e s
  still s t vr v = read_by_twice e (dictionary_after (dictionary_of s) t vr v) s

  mutual
    unfolding normal FitsTarget

    set_hides : (s : Syntax) (x : Trees) → FitsTarget (read_by e s) x → NothingHidden (read_by e s) (normal s x)
    set_hides s no_tree h = tt
    set_hides s (leaf t vr v rest) h =
        let w : Vr = normal_vr s t vr (length v) in
        let y : List ℕ = normal_value s t vr v in
        let k : Syntax = after s t w y in
        one_hides (read_by e s) t (TellsValue (read_by e s) t vr (length v)) (t.element == 0) (leaf t w y) (normal k rest) refl (λ u r. (value_holds e s t vr (length v) y u, r)) h.0
        (subst (λ (to : Syntax). NothingHidden to (normal k rest)) (still s t w y) (set_hides k rest (subst (λ (to : Syntax). FitsTarget to rest) (sym (still s t w y)) h.1)))
    set_hides s (sequence t vr size items rest) h =
        one_hides (read_by e s) t (TellsSequence (read_by e s) t × ItemsFit (read_by e s) items) (t.element == 0) (sequence t (normal_sequence_vr s t) Undefined (normal_items s items)) (normal s rest) refl
        (λ k r. (sequence_is (read_by e s) t k.0, items_hide s items k.1, r)) h.0 (set_hides s rest h.1)
    set_hides s (fragments t vr values rest) h =
        one_hides (read_by e s) t (Unit {0}) (t.element == 0) (fragments t vr (map (evened 0) values)) (normal s rest) refl (λ k r. r) (λ k. tt) (set_hides s rest h)

    items_hide : (s : Syntax) (x : Items) → ItemsFit (read_by e s) x → NoItemHidden (read_by e s) (normal_items s x)
    items_hide s no_item h = tt
    items_hide s (item size set rest) h = (set_hides s set h.0, items_hide s rest h.1)

-- what an explicit normal form hides from no reader, that opens alike
told : (e : Dictionary) (s : Syntax) (t : Tag) (vr : Vr) (n : ℕ) (v : List ℕ) → is_explicit s ≡ true → HoldsNothing (read_by e s) t (normal_vr s t vr n) v → TellsValue (read_by e s) t vr n
told e (implicit_in d) t vr n v is h = absurd (cc)
told e (little_in d) t vr n v is h = h
told e (big_in d) t vr n v is h = h

told_sequence : (e : Dictionary) (s : Syntax) (t : Tag) → is_explicit s ≡ true → TellsSequence (read_by e s) t
told_sequence e (implicit_in d) t is = absurd (cc)
told_sequence e (little_in d) t is = tt
told_sequence e (big_in d) t is = tt

pub still_explicit : (d : Dictionary) (s : Syntax) → is_explicit s ≡ true → is_explicit (read_by d s) ≡ true
still_explicit d (implicit_in e) h = absurd (cc)
still_explicit d (little_in e) h = refl
still_explicit d (big_in e) h = refl

one_fits : (to : Syntax) (t : Tag) (P R : Type 0) (g : Bool) (tree : Trees → Trees) (r : Trees) → (t.element == 0) ≡ g → (NothingHidden to (tree r) → P × NothingHidden to r) → (NothingHidden to r → R) → NothingHidden to (if g then r else tree r) → UnlessGroupLength t P × R
one_fits to t P R true tree r e split more h = (λ k. absurd (cc), more h)
one_fits to t P R false tree r e split more h = let two = split h in (λ k. two.0, more two.1)

module _ (e : Dictionary) where
  mutual
    unfolding normal FitsTarget

    set_fits : (s : Syntax) (x : Trees) → is_explicit s ≡ true → NothingHidden (read_by e s) (normal s x) → FitsTarget (read_by e s) x
    set_fits s no_tree is h = tt
    set_fits s (leaf t vr v rest) is h =
        let w : Vr = normal_vr s t vr (length v) in
        let y : List ℕ = normal_value s t vr v in
        let d : Dictionary = dictionary_after (dictionary_of s) t w y in
        let k : Syntax = after s t w y in
        one_fits (read_by e s) t (TellsValue (read_by e s) t vr (length v)) (FitsTarget (read_by e s) rest) (t.element == 0) (leaf t w y) (normal k rest) refl (λ u. (told e s t vr (length v) y is u.0, u.1))
        (λ u. subst (λ (to : Syntax). FitsTarget to rest) (still e s t w y) (set_fits k rest (still_explicit d s is) (subst (λ (to : Syntax). NothingHidden to (normal k rest)) (sym (still e s t w y)) u))) h
    set_fits s (sequence t vr size items rest) is h =
        one_fits (read_by e s) t (TellsSequence (read_by e s) t × ItemsFit (read_by e s) items) (FitsTarget (read_by e s) rest) (t.element == 0) (sequence t (normal_sequence_vr s t) Undefined (normal_items s items)) (normal s rest) refl
        (λ u. ((told_sequence e s t is, items_fit s items is u.1), u.2)) (λ u. set_fits s rest is u) h
    set_fits s (fragments t vr values rest) is h =
        (one_fits (read_by e s) t (Unit {0}) (FitsTarget (read_by e s) rest) (t.element == 0) (fragments t vr (map (evened 0) values)) (normal s rest) refl (λ u. (tt, u)) (λ u. set_fits s rest is u) h).1

    items_fit : (s : Syntax) (x : Items) → is_explicit s ≡ true → NoItemHidden (read_by e s) (normal_items s x) → ItemsFit (read_by e s) x
    items_fit s no_item is h = tt
    items_fit s (item size set rest) is h = (set_fits s set is h.0, items_fit s rest is h.1)

  opens_explicit : (s : Syntax) (f : Front) → is_explicit s ≡ true → HidesNothing e s (normal_front s f) → OpensAlike e s f
  opens_explicit s (front whole o reached closed) is h = set_fits s whole is h

pub alike_hides : (e : Dictionary) (s : Syntax) (f : Front) → OpensAlike e s f → HidesNothing e s (normal_front s f)
alike_hides e s (front whole o reached closed) h = set_hides e s whole h

-- ---- the laws

pub none_is_seen : (edits : List Edit) (s : Syntax) (at : ℕ) (f again : Front) (e : Dictionary) (tag : Tag) → Modifies edits s at f → HidesNothing e s (normal_front s (edited edits f)) → Among (erase_all tag) edits
    → ReadsBy e edits s at f again complete → EverywhereIn (IsOther tag) again
none_is_seen edits (implicit_in d) at f again e tag h hides among reads =
    implicit_seen d e (IsOther tag) (λ t c x k. k) (edited edits f) at again (is_ready edits (implicit_in d) at f h) hides
    (without_it edits (implicit_in d) at f h d (own_opens (implicit_in d) (edited edits f) (is_ready edits (implicit_in d) at f h)) tag among) reads
none_is_seen edits (little_in d) at f again e tag h hides among reads = (none_is_left edits (little_in d) at f h e (opens_explicit e (little_in d) (edited edits f) refl hides) again complete tag among reads).1
none_is_seen edits (big_in d) at f again e tag h hides among reads = (none_is_left edits (big_in d) at f h e (opens_explicit e (big_in d) (edited edits f) refl hides) again complete tag among reads).1

pub no_private_is_seen : (edits : List Edit) (s : Syntax) (at : ℕ) (f again : Front) (e : Dictionary) → Modifies edits s at f → HidesNothing e s (normal_front s (edited edits f)) → Among erase_private edits
    → ReadsBy e edits s at f again complete → EverywhereIn IsPublic again
no_private_is_seen edits (implicit_in d) at f again e h hides among reads =
    implicit_seen d e IsPublic (λ t c x k. k) (edited edits f) at again (is_ready edits (implicit_in d) at f h) hides
    (without_private edits (implicit_in d) at f h d (own_opens (implicit_in d) (edited edits f) (is_ready edits (implicit_in d) at f h)) among) reads
no_private_is_seen edits (little_in d) at f again e h hides among reads = (no_private_is_left edits (little_in d) at f h e (opens_explicit e (little_in d) (edited edits f) refl hides) again complete among reads).1
no_private_is_seen edits (big_in d) at f again e h hides among reads = (no_private_is_left edits (big_in d) at f h e (opens_explicit e (big_in d) (edited edits f) refl hides) again complete among reads).1

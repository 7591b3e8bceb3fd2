-- What a dictionary opens of a data set that another one read.
use Rattle.std.proofs.Common.{◌≡◌, ◌≢◌, sym, refl, subst, ℕ, suc, ◌<◌, List, length, Bool, true, false, Option, Some, None, ◌&&◌, arith, ap, ◌∙◌}
use Rattle.std.specs.Prelude.{if◌then◌else◌, ◌==◌, ◌%◌, find}
use Rattle.std.specs.Option.{option_map_or}
use Rattle.std.proofs.lemmas.Bool.Decides.{nat_tests}
use Rattle.dcm_lemmas.proofs.Options.{mapped}
use Rattle.dcm_base.specs.declared.form.Form.TheVariants.{Value as a_value, Sequence as a_sequence, FragmentList as a_fragment_list}
use Rattle.dcm_base.specs.declared.length.Length.TheVariants.{Known, Undefined}
use Rattle.dcm_base.specs.declared.dictionary.Dictionary.{Dictionary}
use Rattle.dcm_base.specs.declared.dictionary.Dictionary.TheVariants.{Extract, Standard, Signed}
use Rattle.dcm_base.specs.declared.syntax.Syntax.{Syntax}
use Rattle.dcm_base.specs.declared.syntax.Syntax.TheVariants.{Implicit as implicit_in, Little as little_in, Big as big_in}
use Rattle.dcm_base.specs.declared.tag.Tag.{Tag}
use Rattle.dcm_base.specs.declared.vr.Vr.{Vr}
use Rattle.dcm_base.specs.declared.vr.Vr.TheVariants.{SQ, UN, UL, LO, OB, OW}
use Rattle.dcm_base.specs.Reading.Bars.{holds_fragments}
use Rattle.dcm_base.specs.Tables.Dictionary.{Element, elements_in, element_in, vr_in, is_group_length, is_private_creator, ambiguous, ambiguous_in, unlisted_vr}
use Rattle.dcm_base.specs.Tree.Front.{Front, front}
use Rattle.dcm_base.specs.Laws.{is_even}
use Rattle.dcm_base.specs.Conversion.Normal.{normal_vr, normal_sequence_vr, TellsValue, TellsSequence, FitsTarget, ItemsFit, FrontFits}
use Rattle.dcm_base.specs.Conversion.Recode.{is_explicit}
use Rattle.dcm_base.specs.Bytes.Spelling.{form, read_as, read_in}
use Rattle.dcm_base.specs.Tables.Syntax.{dictionary_of, read_by}
use Rattle.dcm_base.specs.Tables.Tag.{is_private, tag_number, tag_of_number}
use Rattle.dcm_base.specs.Tree.Tree.{Trees, no_tree, leaf, sequence, fragments, Items, no_item, item}
use Rattle.dcm_base_laws.proofs.DataSets.ImplicitLengths.{extract_fits}
use Rattle.dcm_base.proofs.Dictionaries.Parts.{extract_is_part, groups_are_even}
use Rattle.dcm_sinks.proofs.ReadBack.HasRoom.{Ready, ReadyItems}
use Rattle.dcm_edits.proofs.Words.EditWordLemmas.{found_passes, same_group}
use Rattle.dcm_editor_laws.specs.Readers.{OpensAlike}
use Rattle.dcm_editor_laws.proofs.ReadBack.StaysReady.{FrontReady}
use Rattle.dcm_editor_laws.proofs.ReadBack.Plain.{plain}
use Rattle.dcm_base.proofs.DataSets.Alike.{unsigned, signed_alike, unsigned_sequence, sequence_alike, read_alike}
use Rattle.dcm_base.specs.Tables.Representation.{is_sequence}
use Rattle.std.specs.List.{list_all}

-- ---- what has room in a syntax has room in it by another dictionary that opens it alike

value_alike : (s to : Syntax) (vr : Vr) (n : ℕ) → form s vr (Known n) ≡ a_value → form to vr (Known n) ≡ a_value
unfolding form
value_alike s to SQ n h = absurd (cc)
value_alike s to _ n h = refl

value_form : (s : Syntax) (vr : Vr) (n : ℕ) → vr ≢ SQ → form s vr (Known n) ≡ a_value
unfolding form
value_form s SQ n h = absurd (h refl)
value_form s _ n h = refl

value_plain : (s : Syntax) (vr : Vr) (n : ℕ) → form s vr (Known n) ≡ a_value → vr ≢ SQ
unfolding form
value_plain s SQ n h = absurd (cc)
value_plain s vr n h = λ k. cc

sequence_form : (s : Syntax) → form s SQ Undefined ≡ a_sequence
unfolding form
sequence_form s = refl

module _ (e : Dictionary) where
  leaf_by : (s : Syntax) (t : Tag) (vr : Vr) (size n : ℕ) → TellsValue (read_by e s) t vr size → form (plain s) (read_as (plain s) t (normal_vr (plain s) t vr size)) (Known n) ≡ a_value
      → form (read_by e s) (read_as (read_by e s) t (normal_vr (read_by e s) t vr size)) (Known n) ≡ a_value
  leaf_by (implicit_in d) t vr size n tells h = value_form (implicit_in e) (vr_in e t) n tells
  leaf_by (little_in d) t vr size n tells h = ap (λ (v : Vr). form (little_in e) v (Known n)) tells ∙ value_alike (little_in Extract) (little_in e) (normal_vr (little_in Extract) t vr size) n h
  leaf_by (big_in d) t vr size n tells h = ap (λ (v : Vr). form (big_in e) v (Known n)) tells ∙ value_alike (big_in Extract) (big_in e) (normal_vr (big_in Extract) t vr size) n h

  sequence_by : (s : Syntax) (t : Tag) → TellsSequence (read_by e s) t → form (read_by e s) (normal_sequence_vr (read_by e s) t) Undefined ≡ a_sequence
  sequence_by (implicit_in d) t tells = tells
  sequence_by (little_in d) t tells = sequence_form (little_in e)
  sequence_by (big_in d) t tells = sequence_form (big_in e)

  little_fragments : (d : Dictionary) (vr : Vr) → form (little_in d) vr Undefined ≡ a_fragment_list → form (little_in e) vr Undefined ≡ a_fragment_list
  unfolding form
  little_fragments d SQ h = absurd (cc)
  little_fragments d UN h = absurd (cc)
  little_fragments d OB h = refl
  little_fragments d OW h = refl
  little_fragments d vr h = absurd (cc)

  fragments_by : (s : Syntax) (vr : Vr) → holds_fragments (plain s) ≡ true → form (plain s) vr Undefined ≡ a_fragment_list → (holds_fragments (read_by e s) ≡ true) × (form (read_by e s) vr Undefined ≡ a_fragment_list)
  fragments_by (implicit_in d) vr holds h = absurd (cc)
  fragments_by (little_in d) vr holds h = (refl, little_fragments Extract vr h)
  fragments_by (big_in d) vr holds h = absurd (cc)

  mutual
    unfolding Ready FitsTarget

    ready_by : (s : Syntax) (n : ℕ) (x : Trees) → FitsTarget (read_by e s) x → Ready (plain s) n x → Ready (read_by e s) n x
    ready_by s n no_tree fits h = tt
    ready_by s n (leaf t vr v rest) fits h = (λ k. ((h.0 k).0, (h.0 k).1, leaf_by s t vr (length v) _ (fits.0 k) (h.0 k).2), ready_by s n rest fits.1 h.1)
    ready_by s n (sequence t vr size items rest) fits h =
        (λ k. ((h.0 k).0, (h.0 k).1, sequence_by s t (fits.0 k).0, items_ready_by s (suc n) items (fits.0 k).1 (h.0 k).3), ready_by s n rest fits.1 h.1)
    ready_by s n (fragments t vr values rest) fits h =
        (λ k. let two = fragments_by s vr (h.0 k).2 (h.0 k).3 in ((h.0 k).0, (h.0 k).1, two.0, two.1, (h.0 k).4), ready_by s n rest fits h.1)

    items_ready_by : (s : Syntax) (n : ℕ) (x : Items) → ItemsFit (read_by e s) x → ReadyItems (plain s) n x → ReadyItems (read_by e s) n x
    items_ready_by s n no_item fits h = tt
    items_ready_by s n (item size set rest) fits h = (ready_by s n set fits.0 h.0, items_ready_by s n rest fits.1 h.1)

  pub front_ready_by : (s : Syntax) (f : Front) → FrontFits (read_by e s) f → FrontReady (plain s) f → FrontReady (read_by e s) f
  front_ready_by s (front whole o reached closed) fits h = (ready_by s 0 whole fits h.0, h.1)

-- ---- what the extract says of tags that the standard opens

by_none : (a b : Bool) → (if a then UL else if b then LO else UN) ≢ SQ
by_none true b = λ k. cc
by_none false true = λ k. cc
by_none false false = λ k. cc

value_of_part : (o p : Option (Vr × List ℕ)) (w u : Vr) → ((x : Vr × List ℕ) → o ≡ Some x → p ≡ Some x) → w ≢ SQ → option_map_or (λ x. x.0) p u ≢ SQ → option_map_or (λ x. x.0) o w ≢ SQ
value_of_part None p w u part none h = none
value_of_part (Some x) p w u part none h = subst (λ (q : Option (Vr × List ℕ)). option_map_or (λ x. x.0) q u ≢ SQ) (part x refl) h

value_by_extract : (t : Tag) → vr_in Standard t ≢ SQ → vr_in Extract t ≢ SQ
unfolding vr_in
value_by_extract t h =
    value_of_part (element_in Extract t) (element_in Standard t) (unlisted_vr t) (option_map_or (λ x. x.0) (ambiguous_in Standard t) (unlisted_vr t)) (λ x is. extract_is_part t x is)
    (by_none (is_group_length t) (is_private_creator t)) h

value_by : (e : Dictionary) (t : Tag) → vr_in Standard t ≢ SQ → vr_in e t ≢ SQ
value_by Standard t h = h
value_by Signed t h = λ k. h (unsigned_sequence (vr_in Standard t) (sym (signed_alike t).0 ∙ ap unsigned k))
value_by Extract t h = value_by_extract t h

implicit_alike : (d e : Dictionary) (vr : Vr) → form (implicit_in d) vr Undefined ≡ a_sequence → form (implicit_in e) vr Undefined ≡ a_sequence
unfolding form
implicit_alike d e SQ h = refl
implicit_alike d e UN h = refl
implicit_alike d e vr h = absurd (cc)

unknown_form : (s : Syntax) → form s UN Undefined ≡ a_sequence
unfolding form
unknown_form s = refl

sequence_of_part : (s : Syntax) (o p a : Option (Vr × List ℕ)) (w : Vr) → ((x : Vr × List ℕ) → o ≡ Some x → p ≡ Some x) → ((x : Vr × List ℕ) → p ≡ Some x → w ≡ UN) → ((x : Vr × List ℕ) → a ≡ Some x → w ≡ UN)
    → form s (option_map_or (λ x. x.0) p (option_map_or (λ x. x.0) a w)) Undefined ≡ a_sequence → form s (option_map_or (λ x. x.0) o w) Undefined ≡ a_sequence
sequence_of_part s (Some x) p a w part other between h = subst (λ (q : Option (Vr × List ℕ)). form s (option_map_or (λ x. x.0) q (option_map_or (λ x. x.0) a w)) Undefined ≡ a_sequence) (part x refl) h
sequence_of_part s None None None w part other between h = h
sequence_of_part s None None (Some x) w part other between h = subst (λ (v : Vr). form s v Undefined ≡ a_sequence) (sym (between x refl)) (unknown_form s)
sequence_of_part s None (Some x) a w part other between h = subst (λ (v : Vr). form s v Undefined ≡ a_sequence) (sym (other x refl)) (unknown_form s)

even_group : (n : ℕ) → is_even n ≡ true → is_private (tag_of_number n) ≡ false
even_group n p = grind (arith, nat_tests)

-- no element of a dictionary is private
element_public : (d : Dictionary) (t : Tag) (x : Vr × List ℕ) → t.element < 65536 → element_in d t ≡ Some x → is_private t ≡ false
unfolding element_in
element_public d t x h p =
    let m = mapped (λ (e : Element). (e.1, e.2)) (find (λ (e : Element). e.0 == tag_number t) (elements_in d)) x p in
    let q = found_passes (λ e. e.0 == tag_number t) (λ e. is_even e.0) (elements_in d) m.0 (groups_are_even d) m.1 in
    subst (λ g. (g % 2 == 1) ≡ false) (same_group t m.0.0 h q.1) (even_group m.0.0 q.0)

ambiguous_even : list_all (λ (e : Element). is_even e.0) ambiguous ≡ true
unfolding ambiguous
ambiguous_even = refl

ambiguous_public : (t : Tag) (x : Vr × List ℕ) → t.element < 65536 → ambiguous_in Standard t ≡ Some x → is_private t ≡ false
ambiguous_public t x h p =
    let m = mapped (λ (e : Element). (e.1, e.2)) (find (λ (e : Element). e.0 == tag_number t) ambiguous) x p in
    let q = found_passes (λ e. e.0 == tag_number t) (λ e. is_even e.0) ambiguous m.0 ambiguous_even m.1 in
    subst (λ g. (g % 2 == 1) ≡ false) (same_group t m.0.0 h q.1) (even_group m.0.0 q.0)

unknown_by : (a b c : Bool) → a ≡ false → b ≡ false → (if a then UL else if b && c then LO else UN) ≡ UN
unknown_by true b c e f = absurd (cc)
unknown_by false true c e f = absurd (cc)
unknown_by false false c e f = refl

sequence_in_extract : (t : Tag) → t.element < 65536 → (t.element == 0) ≡ false → form (implicit_in Extract) (vr_in Standard t) Undefined ≡ a_sequence → form (implicit_in Extract) (vr_in Extract t) Undefined ≡ a_sequence
unfolding vr_in
sequence_in_extract t small none h =
    sequence_of_part (implicit_in Extract) (element_in Extract t) (element_in Standard t) (ambiguous_in Standard t) (unlisted_vr t) (λ x is. extract_is_part t x is)
    (λ x is. unknown_by (is_group_length t) (is_private t) _ none (element_public Standard t x small is))
    (λ x is. unknown_by (is_group_length t) (is_private t) _ none (ambiguous_public t x small is)) h

sequence_in : (e : Dictionary) (t : Tag) → t.element < 65536 → (t.element == 0) ≡ false → form (implicit_in Standard) (vr_in Standard t) Undefined ≡ a_sequence → form (implicit_in e) (vr_in e t) Undefined ≡ a_sequence
sequence_in Standard t small none h = h
sequence_in Signed t small none h = sequence_alike Standard Signed (vr_in Standard t) (vr_in Signed t) (sym (signed_alike t).0) h
sequence_in Extract t small none h = sequence_in_extract t small none (implicit_alike Standard Extract (vr_in Standard t) h)

-- ---- what one dictionary has read, another one opens alike

module _ (s to : Syntax) (values : (t : Tag) (vr : Vr) (n m : ℕ) → form s (read_as s t (normal_vr s t vr n)) (Known m) ≡ a_value → TellsValue to t vr n)
    (sequences : (t : Tag) → t.element < 65536 → (t.element == 0) ≡ false → form s (normal_sequence_vr s t) Undefined ≡ a_sequence → TellsSequence to t) where
  mutual
    unfolding Ready FitsTarget

    set_opens : (n : ℕ) (x : Trees) → Ready s n x → FitsTarget to x
    set_opens n no_tree h = tt
    set_opens n (leaf t vr v rest) h = (λ k. values t vr (length v) _ (h.0 k).2, set_opens n rest h.1)
    set_opens n (sequence t vr size items rest) h = (λ k. (sequences t (h.0 k).0.0.1 k (h.0 k).2, items_open (suc n) items (h.0 k).3), set_opens n rest h.1)
    set_opens n (fragments t vr values rest) h = set_opens n rest h.1

    items_open : (n : ℕ) (x : Items) → ReadyItems s n x → ItemsFit to x
    items_open n no_item h = tt
    items_open n (item size set rest) h = (set_opens n set h.0, items_open n rest h.1)

  front_opens : (f : Front) → FrontReady s f → FrontFits to f
  front_opens (front whole o reached closed) h = set_opens 0 whole h.0

-- what is read as a value is no sequence to the dictionary
plain_unknown : (s : Syntax) (b : Bool) (n : ℕ) → form s (if b then SQ else UN) (Known n) ≡ a_value → (if b then SQ else UN) ≡ UN
unfolding form
plain_unknown s true n h = absurd (cc)
plain_unknown s false n h = refl

read_value : (s : Syntax) (d : Dictionary) (t : Tag) (vr : Vr) (n : ℕ) → form s (read_in d t vr) (Known n) ≡ a_value → read_in d t vr ≡ vr
read_value s Extract t vr n h = refl
read_value s Standard t UN n h = plain_unknown s (is_sequence (vr_in Standard t)) n h
read_value s Standard t vr n h = refl
read_value s Signed t UN n h = plain_unknown s (is_sequence (vr_in Signed t)) n h
read_value s Signed t vr n h = refl

-- and what is none to the standard is none to the others
read_by_all : (e : Dictionary) (t : Tag) (vr : Vr) → read_in Standard t vr ≡ vr → read_in e t vr ≡ vr
read_by_all Extract t vr h = refl
read_by_all Standard t vr h = h
read_by_all Signed t vr h = read_alike Signed Standard t vr signed_alike ∙ h

implicit_opens : (d e : Dictionary) (f : Front) → ((t : Tag) → vr_in d t ≢ SQ → vr_in e t ≢ SQ)
    → ((t : Tag) → t.element < 65536 → (t.element == 0) ≡ false → form (implicit_in d) (vr_in d t) Undefined ≡ a_sequence → form (implicit_in e) (vr_in e t) Undefined ≡ a_sequence)
    → FrontReady (implicit_in d) f → FrontFits (implicit_in e) f
implicit_opens d e f values sequences h = front_opens (implicit_in d) (implicit_in e) (λ t vr n m k. values t (value_plain (implicit_in d) (vr_in d t) m k)) sequences f h

little_opens : (d e : Dictionary) (f : Front) → ((t : Tag) (vr : Vr) → read_in d t vr ≡ vr → read_in e t vr ≡ vr) → FrontReady (little_in d) f → FrontFits (little_in e) f
little_opens d e f turn h =
    front_opens (little_in d) (little_in e) (λ t vr n m k. let w : Vr = normal_vr (little_in d) t vr n in turn t w (read_value (little_in d) d t w m k)) (λ t small none k. tt) f h

big_opens : (d e : Dictionary) (f : Front) → ((t : Tag) (vr : Vr) → read_in d t vr ≡ vr → read_in e t vr ≡ vr) → FrontReady (big_in d) f → FrontFits (big_in e) f
big_opens d e f turn h =
    front_opens (big_in d) (big_in e) (λ t vr n m k. let w : Vr = normal_vr (big_in d) t vr n in turn t w (read_value (big_in d) d t w m k)) (λ t small none k. tt) f h

by_standard : (e d : Dictionary) → d ≡ Standard → (t : Tag) (vr : Vr) → read_in d t vr ≡ vr → read_in e t vr ≡ vr
by_standard e d is t vr h = read_by_all e t vr (subst (λ (k : Dictionary). read_in k t vr ≡ vr) is h)

standard_implicit : (d e : Dictionary) (f : Front) → d ≡ Standard → FrontReady (implicit_in d) f → FrontFits (implicit_in e) f
standard_implicit d e f is h = implicit_opens Standard e f (value_by e) (sequence_in e) (subst (λ (k : Dictionary). FrontReady (implicit_in k) f) is h)

-- each one what the standard has read
pub standard_opens : (e : Dictionary) (s : Syntax) (f : Front) → dictionary_of s ≡ Standard → FrontReady s f → OpensAlike e s f
standard_opens e (implicit_in d) f is h = standard_implicit d e f is h
standard_opens e (little_in d) f is h = little_opens d e f (by_standard e d is) h
standard_opens e (big_in d) f is h = big_opens d e f (by_standard e d is) h

-- and each one what it has read itself
pub own_opens : (s : Syntax) (f : Front) → FrontReady s f → OpensAlike (dictionary_of s) s f
own_opens (implicit_in d) f h = implicit_opens d d f (λ t k. k) (λ t small none k. k) h
own_opens (little_in d) f h = little_opens d d f (λ t vr k. k) h
own_opens (big_in d) f h = big_opens d d f (λ t vr k. k) h

-- in an explicit syntax the heads tell it, to the extract
pub explicit_opens : (s : Syntax) (f : Front) → is_explicit s ≡ true → OpensAlike Extract s f
explicit_opens (implicit_in d) f is = absurd (cc)
explicit_opens (little_in d) f is = extract_fits (little_in Extract) f refl refl
explicit_opens (big_in d) f is = extract_fits (big_in Extract) f refl refl

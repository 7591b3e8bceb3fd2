-- Where an implicit head tells a value from a sequence.
use Rattle.std.proofs.Common.{◌≡◌, ◌≢◌, ◌∙◌, ap, sym, refl, subst, ℕ, List, [], length, true, Bool, false, Option, Some, None, if◌then◌else◌, option_map}
use Rattle.dcm_lemmas.proofs.Options.{some_same}
use Rattle.dcm_base.specs.declared.tag.Tag.{Tag}
use Rattle.dcm_base.specs.declared.vr.Vr.{Vr}
use Rattle.dcm_base.specs.declared.vr.Vr.TheVariants.{SQ, UN, US, SS}
use Rattle.dcm_base.specs.declared.syntax.Syntax.{Syntax}
use Rattle.dcm_base.specs.declared.syntax.Syntax.TheVariants.{Implicit as implicit_in, Little as little_in, Big as big_in}
use Rattle.dcm_base.specs.Tables.Syntax.{dictionary_of, read_by}
use Rattle.dcm_base.specs.Tables.Representation.{is_sequence}
use Rattle.dcm_base.specs.declared.dictionary.Dictionary.{Dictionary}
use Rattle.dcm_base.specs.declared.length.Length.{Length}
use Rattle.dcm_base.specs.declared.length.Length.TheVariants.{Known, Undefined}
use Rattle.dcm_base.specs.Tree.Tree.{Trees, no_tree, leaf, sequence, fragments, Items, no_item, item}
use Rattle.dcm_base.specs.Tree.Front.{Front, front}
use Rattle.dcm_base.specs.Tables.Tag.{item_end_tag, sequence_end_tag, tag_number}
use Rattle.dcm_base.specs.Tables.Dictionary.{vr_in, signed_vr, if_signed, element_in, elements_in, ambiguous, numbered, unlisted_vr}
use Rattle.dcm_base.specs.Bytes.Head.{ElementHead, vr_at, tag_at}
use Rattle.dcm_base.specs.declared.form.Form.TheVariants.{Value as a_value, Sequence as a_sequence}
use Rattle.dcm_base.specs.Bytes.Spelling.{form, inside, Enclosed, TreesAt, ItemsAt, SpellsFront, says_sign, is_one, after, dictionary_after, sign_after, read_in, read_as}
use Rattle.dcm_base.specs.Reading.Stop.{Stop, complete, refused, Bar}
use Rattle.dcm_base.specs.Reading.Reads.{Reads, ended}
use Rattle.dcm_base.specs.Conversion.Recode.{is_explicit, too_long}
use Rattle.dcm_base.specs.declared.dictionary.Dictionary.TheVariants.{Extract, Standard, Signed}
use Rattle.std.specs.Option.{option_map_or}
use Rattle.dcm_base.specs.Conversion.Normal.{FitsTarget, ItemsFit, FrontFits, TellsValue, TellsSequence, StaysValue, StayValues, ItemsStay, FrontStays}
use Rattle.dcm_base.proofs.DataSets.Alike.{unsigned, Alike, alike_then, alike_behind, unsigned_sequence, sequence_alike, read_by_dictionary, inside_dictionary}

-- ---- an explicit target

tells_sequence : (s : Syntax) (t : Tag) → is_explicit s ≡ true → TellsSequence s t
tells_sequence (implicit_in d) t h = absurd (cc)
tells_sequence (little_in d) t h = tt
tells_sequence (big_in d) t h = tt

-- the extract knows no sequence in an unknown element
tells_value : (s : Syntax) (t : Tag) (vr : Vr) (n : ℕ) → is_explicit s ≡ true → dictionary_of s ≡ Extract → TellsValue s t vr n
tells_value (implicit_in d) t vr n h is = absurd (cc)
tells_value (little_in Extract) t vr n h is = refl
tells_value (little_in Standard) t vr n h is = absurd (cc)
tells_value (little_in Signed) t vr n h is = absurd (cc)
tells_value (big_in Extract) t vr n h is = refl
tells_value (big_in Standard) t vr n h is = absurd (cc)
tells_value (big_in Signed) t vr n h is = absurd (cc)

module _ (target : Syntax) (e : is_explicit target ≡ true) (is : dictionary_of target ≡ Extract) where
  mutual
    unfolding FitsTarget

    trees_told : (x : Trees) → FitsTarget target x
    trees_told no_tree = tt
    trees_told (leaf t vr v rest) = (λ k. tells_value target t vr _ e is, trees_told rest)
    trees_told (sequence t vr size items rest) = (λ k. (tells_sequence target t e, items_told items), trees_told rest)
    trees_told (fragments t vr values rest) = trees_told rest

    items_told : (x : Items) → ItemsFit target x
    items_told no_item = tt
    items_told (item size set rest) = (trees_told set, items_told rest)

pub extract_fits : (target : Syntax) (f : Front) → is_explicit target ≡ true → dictionary_of target ≡ Extract → FrontFits target f
extract_fits target (front whole open_tree reached closed) e is = trees_told target e is whole

-- ---- an implicit source

module _ (d : Dictionary) where
  told_by_dictionary : (t : Tag) (vr : Vr) (l : Length) (b c : List ℕ) → ElementHead (implicit_in d) t vr l b c → vr ≡ vr_in d t
  unfolding vr_at
  told_by_dictionary t vr l b c h = some_same vr (vr_in d (tag_at (implicit_in d) b)) h.vr_is ∙ ap (vr_in d) (sym h.tag_is)

  value_told : (vr : Vr) (n : ℕ) → form (implicit_in d) vr (Known n) ≡ a_value → vr ≢ SQ
  unfolding form
  value_told SQ n e = absurd (cc)
  value_told vr n e = λ k. cc

  sequence_told : (vr : Vr) (l : Length) → form (implicit_in d) vr l ≡ a_sequence → form (implicit_in d) vr Undefined ≡ a_sequence
  unfolding form
  sequence_told SQ l e = refl
  sequence_told UN l e = refl
  sequence_told vr (Known n) e = absurd (cc)
  sequence_told vr Undefined e = e

  still_implicit : (vr : Vr) → inside (implicit_in d) vr ≡ implicit_in d
  unfolding inside
  still_implicit UN = refl
  still_implicit vr = refl

  enclosed_told : (s : Syntax) (end_tag : Tag) (declared : Length) (R : List ℕ → List ℕ → Type 0) (c e : List ℕ) (P : Type 0) → ((b p : List ℕ) → R b p → P) → Enclosed s end_tag declared R c e → P
  enclosed_told s end_tag (Known size) R c e P told (i, ci, li, r) = told i [] r
  enclosed_told s end_tag Undefined R c e P told (d, r, x) = told c d r

module _ (d : Dictionary) where
  mutual
    unfolding TreesAt FitsTarget

    trees_fit : (e : Dictionary) (x : Trees) (b p : List ℕ) → Alike e d → TreesAt (implicit_in e) x b p → FitsTarget (implicit_in d) x
    trees_fit e no_tree b p same h = tt
    trees_fit e (leaf t vr v rest) b p same (others, fo, head, more) = (
      λ k. λ q. value_told e vr _ fo (told_by_dictionary e t vr _ b _ head ∙ unsigned_sequence (vr_in e t) ((same t).0 ∙ ap unsigned q)),
      trees_fit (dictionary_after e t vr v) rest others p (alike_behind e d t vr v same) more,
    )
    trees_fit e (sequence t vr declared items rest) b p same (contents, others, fo, head, inner, more) = (
      λ k. (
        sequence_alike e d (vr_in e t) (vr_in d t) (same t).0 (subst (λ (w : Vr). form (implicit_in e) w Undefined ≡ a_sequence) (told_by_dictionary e t vr declared b contents head) (sequence_told e vr declared fo)),
        enclosed_told e (inside (implicit_in e) vr) sequence_end_tag declared (ItemsAt (inside (implicit_in e) vr) items) contents others (ItemsFit (implicit_in d) items)
            (λ c q r. items_fit e items c q same (subst (λ (s : Syntax). ItemsAt s items c q) (still_implicit e vr) r)) inner,
      ),
      trees_fit e rest others p same more,
    )
    trees_fit e (fragments t vr values rest) b p same (contents, others, fo, head, inner, more) = trees_fit e rest others p same more

    items_fit : (e : Dictionary) (x : Items) (b p : List ℕ) → Alike e d → ItemsAt (implicit_in e) x b p → ItemsFit (implicit_in d) x
    items_fit e no_item b p same h = tt
    items_fit e (item declared set rest) b p same (contents, others, head, inner, more) =
        (enclosed_told e (implicit_in e) item_end_tag declared (TreesAt (implicit_in e) set) contents others (FitsTarget (implicit_in d) set) (λ c q r. trees_fit e set c q same r) inner, items_fit e rest others p same more)

  front_fits : (f : Front) (b : List ℕ) → SpellsFront (implicit_in d) f b → FrontFits (implicit_in d) f
  unfolding SpellsFront
  front_fits (front whole o reached closed) b (others, at, op, re, cl) = trees_fit d whole b others (λ t. (refl, refl)) at

  ended_fits : (target : Syntax) (stop : Stop) (f : Front) → FrontFits target f → FrontFits target (ended stop f)
  ended_fits target complete (front whole o reached closed) h = h
  ended_fits target (refused fault offset) f h = h

-- ---- an explicit target with the dictionary of the source

-- an unknown value is none that the dictionary calls a sequence
known_length_value : (s : Syntax) (n : ℕ) (vr : Vr) → form s vr (Known n) ≡ a_value → is_sequence vr ≡ false
unfolding form
known_length_value s n SQ h = absurd (cc)
known_length_value s n vr h = refl

un_value : (c : Bool) → is_sequence (if c then SQ else UN) ≡ false → (if c then SQ else UN) ≡ UN
un_value true h = absurd (cc)
un_value false h = refl

unknown_value : (d : Dictionary) (t : Tag) → is_sequence (read_in d t UN) ≡ false → read_in d t UN ≡ UN
unknown_value Extract t h = refl
unknown_value Standard t h = un_value (is_sequence (vr_in Standard t)) h
unknown_value Signed t h = un_value (is_sequence (vr_in Signed t)) h

unlisted : (d : Dictionary) (t : Tag) → UN ≡ vr_in d t → read_in d t UN ≡ UN
unlisted Extract t h = refl
unlisted Standard t h = ap (λ (v : Vr). if is_sequence v then SQ else UN) (sym h)
unlisted Signed t h = ap (λ (v : Vr). if is_sequence v then SQ else UN) (sym h)

source_unknown : (s : Syntax) (t : Tag) (n : ℕ) (l : Length) (b c : List ℕ) → form s (read_as s t UN) (Known n) ≡ a_value → ElementHead s t UN l b c → read_in (dictionary_of s) t UN ≡ UN
source_unknown (implicit_in d) t n l b c fo head = unlisted d t (told_by_dictionary d t UN l b c head)
source_unknown (little_in d) t n l b c fo head = unknown_value d t (known_length_value _ n _ fo)
source_unknown (big_in d) t n l b c fo head = unknown_value d t (known_length_value _ n _ fo)

known_in : (d : Dictionary) (t : Tag) (vr : Vr) → (vr ≡ UN → read_in d t UN ≡ UN) → read_in d t vr ≡ vr
known_in Extract t vr h = refl
known_in Standard t UN h = h refl
known_in Standard t vr h = refl
known_in Signed t UN h = h refl
known_in Signed t vr h = refl

short_or_unknown : (c : Bool) (d : Dictionary) (t : Tag) (vr : Vr) → (c ≡ true → read_in d t UN ≡ UN) → read_in d t vr ≡ vr → read_in d t (if c then UN else vr) ≡ (if c then UN else vr)
short_or_unknown true d t vr stays same = stays refl
short_or_unknown false d t vr stays same = same

-- so it is none in a target either, and what is not too long stays what it is
value_stays : (target : Syntax) (t : Tag) (vr : Vr) (n : ℕ) → is_explicit target ≡ true → (vr ≡ UN → read_in (dictionary_of target) t UN ≡ UN) → StaysValue target t vr n → TellsValue target t vr n
value_stays (implicit_in d) t vr n e h stays = absurd (cc)
value_stays (little_in d) t vr n e h stays = short_or_unknown (too_long (little_in d) vr n) d t vr stays (known_in d t vr h)
value_stays (big_in d) t vr n e h stays = short_or_unknown (too_long (big_in d) vr n) d t vr stays (known_in d t vr h)

leaf_unknown : (s : Syntax) (t : Tag) (vr : Vr) (n : ℕ) (b c : List ℕ) → vr ≡ UN → form s (read_as s t vr) (Known n) ≡ a_value → ElementHead s t vr (Known n) b c → read_in (dictionary_of s) t UN ≡ UN
leaf_unknown s t vr n b c is fo head =
    source_unknown s t n (Known n) b c (subst (λ (w : Vr). form s (read_as s t w) (Known n) ≡ a_value) is fo) (subst (λ (w : Vr). ElementHead s t w (Known n) b c) is head)

module _ (target : Syntax) (explicit : is_explicit target ≡ true) where
  abbrev Kept : Syntax → Type 0
  Kept s = Alike (dictionary_of s) (dictionary_of target)

  kept_after : (s : Syntax) (t : Tag) (vr : Vr) (v : List ℕ) → Kept s → Kept (after s t vr v)
  kept_after s t vr v same =
      subst (λ (d : Dictionary). Alike d (dictionary_of target)) (sym (read_by_dictionary (dictionary_after (dictionary_of s) t vr v) s)) (alike_behind (dictionary_of s) (dictionary_of target) t vr v same)

  kept_inside : (s : Syntax) (vr : Vr) → Kept s → Kept (inside s vr)
  kept_inside s vr same = subst (λ (d : Dictionary). Alike d (dictionary_of target)) (sym (inside_dictionary s vr)) same

  mutual
    unfolding TreesAt FitsTarget StayValues

    trees_stay : (s : Syntax) (x : Trees) (b p : List ℕ) → Kept s → TreesAt s x b p → StayValues target x → FitsTarget target x
    trees_stay s no_tree b p same h stay = tt
    trees_stay s (leaf t vr v rest) b p same (others, fo, head, more) stay = (
      λ k. value_stays target t vr _ explicit (λ is. sym (same t).1 ∙ leaf_unknown s t vr (length v) b _ is fo head) stay.0,
      trees_stay (after s t vr v) rest others p (kept_after s t vr v same) more stay.1,
    )
    trees_stay s (sequence t vr declared items rest) b p same (contents, others, fo, head, inner, more) stay = (
      λ k. (
        tells_sequence target t explicit,
        enclosed_told Extract (inside s vr) sequence_end_tag declared (ItemsAt (inside s vr) items) contents others (ItemsFit target items)
            (λ c q r. items_stay (inside s vr) items c q (kept_inside s vr same) r stay.0) inner,
      ),
      trees_stay s rest others p same more stay.1,
    )
    trees_stay s (fragments t vr values rest) b p same (contents, others, fo, head, inner, more) stay = trees_stay s rest others p same more stay

    items_stay : (s : Syntax) (x : Items) (b p : List ℕ) → Kept s → ItemsAt s x b p → ItemsStay target x → ItemsFit target x
    items_stay s no_item b p same h stay = tt
    items_stay s (item declared set rest) b p same (contents, others, head, inner, more) stay = (
      enclosed_told Extract s item_end_tag declared (TreesAt s set) contents others (FitsTarget target set) (λ c q r. trees_stay s set c q same r stay.0) inner,
      items_stay s rest others p same more stay.1,
    )

  ended_stays : (stop : Stop) (f : Front) → FrontStays target (ended stop f) → FrontStays target f
  ended_stays complete (front whole o reached closed) h = h
  ended_stays (refused fault offset) f h = h

  front_stays : (s : Syntax) (f : Front) (b : List ℕ) → Kept s → SpellsFront s f b → FrontStays target f → FrontFits target f
  unfolding SpellsFront
  front_stays s (front whole o reached closed) b same (others, at, op, re, cl) stay = trees_stay s whole b others same at stay

pub explicit_fits : (source target : Syntax) (bar : Bar) (start : ℕ) (bytes : List ℕ) (f : Front) (stop : Stop) → is_explicit target ≡ true
    → dictionary_of target ≡ dictionary_of source → FrontStays target f → Reads bar source start bytes f stop → FrontFits target f
explicit_fits source target bar start bytes f stop explicit same stay (reached, why, first, told, is) =
    let kept : Kept target explicit source = subst (λ (d : Dictionary). Alike (dictionary_of source) d) (sym same) (λ t. (refl, refl)) in
    subst (FrontFits target) (sym is) (ended_fits (dictionary_of target) target stop reached
    (front_stays target explicit source reached first.read kept first.spelled (ended_stays target explicit stop reached (subst (FrontStays target) is stay))))

-- ---- any target of an implicit source

pub is_no_sequence : (v : Vr) → v ≢ SQ → is_sequence v ≡ false
is_no_sequence SQ h = absurd (h refl)
is_no_sequence v h = refl

-- what is unknown and no sequence by an implicit head is none by an explicit one
plain_unknown : (d : Dictionary) (t : Tag) → vr_in d t ≢ SQ → read_in d t UN ≡ UN
plain_unknown Extract t h = refl
plain_unknown Standard t h = ap (λ (c : Bool). if c then SQ else UN) (is_no_sequence (vr_in Standard t) h)
plain_unknown Signed t h = ap (λ (c : Bool). if c then SQ else UN) (is_no_sequence (vr_in Signed t) h)

stays_unknown : (s : Syntax) (t : Tag) (vr : Vr) (n : ℕ) → read_in (dictionary_of s) t UN ≡ UN → StaysValue s t vr n
stays_unknown (implicit_in d) t vr n h long = refl
stays_unknown (little_in d) t vr n h long = h
stays_unknown (big_in d) t vr n h long = h

module _ (target : Syntax) where
  mutual
    unfolding TreesAt StayValues

    implicit_stays : (e : Dictionary) (x : Trees) (b p : List ℕ) → Alike e (dictionary_of target) → TreesAt (implicit_in e) x b p → StayValues target x
    implicit_stays e no_tree b p same h = tt
    implicit_stays e (leaf t vr v rest) b p same (others, fo, head, more) = (
      stays_unknown target t vr _ (sym (same t).1 ∙ plain_unknown e t (λ q. value_told e vr _ fo (told_by_dictionary e t vr _ b _ head ∙ q))),
      implicit_stays (dictionary_after e t vr v) rest others p (alike_behind e (dictionary_of target) t vr v same) more,
    )
    implicit_stays e (sequence t vr declared items rest) b p same (contents, others, fo, head, inner, more) = (
      enclosed_told e (inside (implicit_in e) vr) sequence_end_tag declared (ItemsAt (inside (implicit_in e) vr) items) contents others (ItemsStay target items)
          (λ c q r. implicit_items_stay e items c q same (subst (λ (s : Syntax). ItemsAt s items c q) (still_implicit e vr) r)) inner,
      implicit_stays e rest others p same more,
    )
    implicit_stays e (fragments t vr values rest) b p same (contents, others, fo, head, inner, more) = implicit_stays e rest others p same more

    implicit_items_stay : (e : Dictionary) (x : Items) (b p : List ℕ) → Alike e (dictionary_of target) → ItemsAt (implicit_in e) x b p → ItemsStay target x
    implicit_items_stay e no_item b p same h = tt
    implicit_items_stay e (item declared set rest) b p same (contents, others, head, inner, more) = (
      enclosed_told e (implicit_in e) item_end_tag declared (TreesAt (implicit_in e) set) contents others (StayValues target set) (λ c q r. implicit_stays e set c q same r) inner,
      implicit_items_stay e rest others p same more,
    )

  unknown_fits : (d : Dictionary) (f : Front) (b : List ℕ) → is_explicit target ≡ true → dictionary_of target ≡ d → SpellsFront (implicit_in d) f b → FrontFits target f
  unfolding SpellsFront
  unknown_fits d (front whole o reached closed) b explicit same (others, at, op, re, cl) =
      let kept : Alike d (dictionary_of target) = subst (λ (k : Dictionary). Alike d k) (sym same) (λ t. (refl, refl)) in
      trees_stay target explicit (implicit_in d) whole b others kept at (implicit_stays d whole b others kept at)

any_target : (d : Dictionary) (target : Syntax) (f : Front) (b : List ℕ) → dictionary_of target ≡ d → SpellsFront (implicit_in d) f b → FrontFits target f
any_target d (implicit_in e) f b same h = subst (λ (k : Dictionary). FrontFits (implicit_in k) f) (sym same) (front_fits d f b h)
any_target d (little_in e) f b same h = unknown_fits (little_in e) d f b refl same h
any_target d (big_in e) f b same h = unknown_fits (big_in e) d f b refl same h

pub implicit_fits : (d : Dictionary) (target : Syntax) (bar : Bar) (start : ℕ) (bytes : List ℕ) (f : Front) (stop : Stop) → dictionary_of target ≡ d
    → Reads bar (implicit_in d) start bytes f stop → FrontFits target f
implicit_fits d target bar start bytes f stop same (reached, why, first, told, is) =
    subst (FrontFits target) (sym is) (ended_fits d target stop reached (any_target d target reached first.read same first.spelled))

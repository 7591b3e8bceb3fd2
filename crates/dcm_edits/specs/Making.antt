-- What functions make of the words of edits.
use Rattle.std.specs.Prelude.{◌≡◌, ℕ, ◌<◌, List, [], ◌∷◌, map, length, option_map, drop, Result, MatchResult, Ok, Err}
use Rattle.std.specs.Prelude.{Bool, true, false}
use Rattle.std.specs.Borrow.{Bor}
use Rattle.dcm_base.specs.declared.dictionary.Dictionary.{Dictionary}
use Rattle.dcm_base.specs.declared.tag.Tag.{Tag}
use Rattle.dcm_base.specs.declared.vr.Vr.{Vr}
use Rattle.dcm_base.specs.declared.fault.EditRefusal.{EditRefusal}
use Rattle.dcm_base.specs.declared.fault.EditRefusal.TheVariants.{BadOption, ValueDoesNotFit}
use Rattle.dcm_base.specs.Lines.ReadValue.{value_of_word}
use Rattle.dcm_edits.specs.declared.fault.Failure.{Failure}
use Rattle.dcm_edits.specs.declared.fault.Failure.TheVariants as failure
use Rattle.dcm_edits.specs.declared.fault.EditFault.{EditFault}
use Rattle.dcm_edits.specs.declared.fault.EditFault.TheVariants as fault
use Rattle.dcm_edits.specs.declared.form.Kind.{Kind}
use Rattle.dcm_edits.specs.declared.form.Kind.TheVariants.{Inserts, Modifies, Erases, ModifiesAll, ErasesAll}
use Rattle.dcm_edits.specs.declared.known.Known.{Known}
use Rattle.dcm_edits.specs.declared.parse.OptionWord.{OptionWord}
use Rattle.dcm_edits.specs.declared.parse.OptionWord.TheVariants.{Takes, Private, Unknown}
use Rattle.dcm_edits.specs.Edit.{PathEdit, Edit, erase_private}
use Rattle.dcm_edits.specs.EditWords as words
use Rattle.dcm_edits.specs.EditWords.{◌>>=◌}
use Rattle.dcm_edits.specs.Meaning.{index_of}

abbrev pub kind_as : Kind → words.Kind
kind_as Inserts = words.inserts
kind_as Modifies = words.modifies
kind_as Erases = words.erases
kind_as ModifiesAll = words.modifies_all
kind_as ErasesAll = words.erases_all

abbrev pub known_as : Known → words.Known
known_as k = record { tag = k.tag; vr = k.vr; index = option_map index_of k.index }

abbrev pub option_as : OptionWord → words.OptionWord
option_as (Takes kind) = words.takes_word (kind_as kind)
option_as Private = words.private_word
option_as Unknown = words.unknown_word

-- a failure of the edit with a number
abbrev pub fault_of : Failure → ℕ → EditFault
fault_of (failure.Refused u) n = fault.Refused u n
fault_of failure.Memory n = fault.Memory

-- what is known of a path is what the words mean
abbrev pub IsKnown : {A B : Type 0} → (A → B) → Result A EditRefusal → Result B EditRefusal → Type 0
IsKnown view r meant = MatchResult r (λ x. meant ≡ Ok (view x)) (λ u. meant ≡ Err u)

-- what a function made is what the words mean; nothing is said where memory was refused
abbrev pub Makes : {A B : Type 0} → (A → B) → Result A Failure → Result B EditRefusal → Type 0
Makes view (Ok x) meant = meant ≡ Ok (view x)
Makes view (Err (failure.Refused u)) meant = meant ≡ Err u
Makes view (Err failure.Memory) meant = Unit {0}

-- the same of the edit with a number
abbrev pub MakesFrom : {A B : Type 0} → (A → B) → ℕ → Result A EditFault → Result B EditRefusal → Type 0
MakesFrom view n (Ok x) meant = meant ≡ Ok (view x)
MakesFrom view n (Err (fault.Refused u m)) meant = (meant ≡ Err u) × (m ≡ n)
MakesFrom view n (Err fault.Memory) meant = Unit {0}

-- the same of all edits
abbrev pub MakesAll : {A B : Type 0} → (A → B) → Result A EditFault → Result B words.InEdit → Type 0
MakesAll view (Ok x) meant = meant ≡ Ok (view x)
MakesAll view (Err (fault.Refused u n)) meant = meant ≡ Err (words.in_edit u n)
MakesAll view (Err fault.Memory) meant = Unit {0}

-- known parts before those to come
abbrev pub after_known : List words.Known → Result (List words.Known) EditRefusal
    → Result (List words.Known) EditRefusal
after_known [] r = r
after_known (k ∷ ks) r = after_known ks r >>= λ more. Ok (k ∷ more)

-- the steps that known parts lead by
abbrev pub steps_to : List words.Known → PathEdit → PathEdit
steps_to [] edit = edit
steps_to (k ∷ ks) edit = words.step_to k.tag k.index (steps_to ks edit)

-- what a word means in a representation
abbrev pub word_value : Vr → List ℕ → Result (List ℕ) EditRefusal
word_value vr word = words.or_refuse ValueDoesNotFit (value_of_word vr word)

-- the tag, the representation and the value of a new element
abbrev pub with_value : Tag → Vr → List ℕ → Result (Tag × Vr × List ℕ) EditRefusal
with_value tag vr word = word_value vr word >>= λ value. Ok (tag, vr, value)

-- whether an edit of this kind is of all elements of a tag
abbrev pub is_of_all : Kind → Bool
is_of_all Inserts = false
is_of_all Modifies = false
is_of_all Erases = false
is_of_all ModifiesAll = true
is_of_all ErasesAll = true

-- there are parts, and one alone where an edit is of all elements of a tag
pub record Fit (kind : Kind) (known : List Known) : Type 0 where
  pub some : 0 < length known
  pub alone : is_of_all kind ≡ true → length known ≡ 1

-- the texts of words
abbrev pub texts : List (Bor (List ℕ)) → List (List ℕ)
texts ws = map (λ w. w.now) ws

-- those from a place on
abbrev pub texts_from : ℕ → List (Bor (List ℕ)) → List (List ℕ)
texts_from place ws = texts (drop place ws)

-- the edit that an option begins, and the words that follow it
abbrev pub edit_after : Dictionary → words.OptionWord → List (List ℕ) → Result (Edit × List (List ℕ)) EditRefusal
edit_after d words.private_word after = Ok (erase_private, after)
edit_after d (words.takes_word kind) [] = Err BadOption
edit_after d (words.takes_word kind) (word ∷ after) = words.meant_word d kind word >>= λ e. Ok (e, after)
edit_after d words.unknown_word after = Err BadOption

abbrev pub first_edit : Dictionary → List (List ℕ) → Result (Edit × List (List ℕ)) EditRefusal
first_edit d [] = Err BadOption
first_edit d (w ∷ after) = edit_after d (words.option_word w) after

-- edits before those to come
abbrev pub after_edits : List Edit → Result (List Edit) words.InEdit → Result (List Edit) words.InEdit
after_edits [] r = r
after_edits (e ∷ es) r = words.and_then e (after_edits es r)

-- What a list in memory gave for its names.
use Rattle.std.proofs.Common.{◌≡◌, ◌∙◌, ap, sym, subst, refl, ℕ, ◌≤◌, List, [], ◌∷◌, ◌++◌, append_assoc, length, length-append, arith, Bool, true, false, inl, inr}
use Rattle.std.specs.Prelude.{filter}
use Rattle.std.proofs.lemmas.List.{append-nil}
use Rattle.std.proofs.lemmas.List.Elements.{filter-append}
use Rattle.dcm_devices.specs.declared.memory.MemIn.{MemIn}
use Rattle.dcm_devices.specs.Device.{Gave, no_calls, and_call}
use Rattle.dcm_names.specs.declared.list_reader.NextName.TheVariants.{Unread}
use Rattle.dcm_names.specs.Names.{has_bytes, open_line, ended_lines, names_of}
use Rattle.dcm_names.specs.Reader.{READ_LIMIT, Calls, AnswersEnd, AnswersUnread, TellsNext}
use Rattle.dcm_names.proofs.Lists.{lines_of_two}
use Rattle.dcm_cli.specs.Change.{Change}
use Rattle.dcm_cli.proofs.Runs.InMemory.{memory_reader}
use Rattle.dcm_each.specs.Each.{Writing, Listed, none_listed, and_name}

-- ---- what calls on a reader of memory gave

-- these bytes came first, and then those that are left; of one that is over they are all
abbrev pub IsGiven : (is_over : Bool) (before : MemIn) (given : List ℕ) (after : MemIn) → Type 0
IsGiven true before given after = before.rest.now ≡ given
IsGiven false before given after = before.rest.now ≡ given ++ after.rest.now

pub gave_left : (before after : MemIn) (given : List ℕ) → Gave memory_reader.gets before given after → before.rest.now ≡ given ++ after.rest.now
gave_left before after given (no_calls none same) = ap (λ (m : MemIn). m.rest.now) (sym same) ∙ ap (λ (bs : List ℕ). bs ++ after.rest.now) (sym none)
gave_left before after given (and_call front piece mid calls call some is) =
    gave_left before mid front calls
    ∙ ap (λ (bs : List ℕ). front ++ bs) call.0
    ∙ sym (append_assoc front piece after.rest.now)
    ∙ ap (λ (bs : List ℕ). bs ++ after.rest.now) (sym is)

pub calls_left : (is_over : Bool) (before after : MemIn) (given : List ℕ) → Calls memory_reader.gets is_over before given after → IsGiven is_over before given after
calls_left false before after given calls = gave_left before after given calls
calls_left true before after given (mid, gave, call) = gave_left before mid given gave ∙ ap (λ (bs : List ℕ). given ++ bs) (call.0 ∙ call.1 refl) ∙ append-nil given

-- and then more
pub given_on : (is_over : Bool) (input at left : MemIn) (earlier more : List ℕ) → IsGiven false input earlier at → IsGiven is_over at more left → IsGiven is_over input (earlier ++ more) left
given_on true input at left earlier more first second = first ∙ ap (λ (bs : List ℕ). earlier ++ bs) second
given_on false input at left earlier more first second = first ∙ ap (λ (bs : List ℕ). earlier ++ bs) second ∙ sym (append_assoc earlier more left.rest.now)

pub given_as : (is_over : Bool) (input left : MemIn) (given all : List ℕ) → all ≡ given → IsGiven is_over input given left → IsGiven is_over input all left
given_as is_over input left given all is = subst (λ (bs : List ℕ). IsGiven is_over input bs left) (sym is)

-- ---- the names in a beginning of a list

-- are the first ones of the list
pub names_begin : (front back : List ℕ) → (others : List (List ℕ)) × (names_of (front ++ back) true ≡ names_of front false ++ others)
names_begin front back =
    let ended : List (List ℕ) = ended_lines [] front in
    let later : List (List ℕ) = ended_lines (open_line [] front) back in
    let last : List (List ℕ) = open_line [] (front ++ back) ∷ [] in (
      filter has_bytes (later ++ last),
      ap (λ (ls : List (List ℕ)). filter has_bytes (ls ++ last)) (lines_of_two [] front back) ∙ ap (filter has_bytes) (append_assoc ended later last) ∙ filter-append has_bytes ended (later ++ last),
    )

-- a name in it is one of the list
pub name_within : (is_over : Bool) (input left : MemIn) (given : List ℕ) (names others : List (List ℕ)) (name : List ℕ) → IsGiven is_over input given left → names_of given is_over ≡ names ++ name ∷ others
    → (later : List (List ℕ)) × (names_of input.rest.now true ≡ names ++ name ∷ later)
name_within true input left given names others name is all = (others, ap (λ (bs : List ℕ). names_of bs true) is ∙ all)
name_within false input left given names others name is all =
    let b = names_begin given left.rest.now in (
      others ++ b.0,
      ap (λ (bs : List ℕ). names_of bs true) is ∙ b.1 ∙ ap (λ (ns : List (List ℕ)). ns ++ b.0) all ∙ append_assoc names (name ∷ others) b.0,
    )

-- ---- the names of a list, one after another

-- what the list gave for them
pub listed_given : {S X : Type 0} (Does : List ℕ → Writing S X) (s : S) (from : X) (input : MemIn) (errors : Change) (to : X) (given : List ℕ) (left : MemIn) (is_over : Bool) (names : List (List ℕ)) (status : ℕ) (after : S)
    → Listed memory_reader.gets Does from input s errors to given left is_over names status after → IsGiven is_over input given left
listed_given Does s from input errors to given left is_over names status after (none_listed line out none same going no_names is was) =
    subst (λ (b : Bool). IsGiven b input given left) (sym going) (gave_left input left given (no_calls none same))
listed_given Does s from input errors to given left is_over names status after (and_name earlier more others name reached ended mid at between of_others of_name so_far calls does follows whole all is) =
    given_as is_over input left (earlier ++ more) given whole
    (given_on is_over input at left earlier more (listed_given Does s from input of_others mid earlier at false others reached between so_far) (calls_left is_over at left more calls))

-- at the end of the list all of it was given
pub all_given : (was_over : Bool) (input at left : MemIn) (given : List ℕ) (names : List (List ℕ)) → IsGiven was_over input given at → (e : AnswersEnd memory_reader.gets was_over at left given names) → input.rest.now ≡ given ++ e.more
all_given was_over input at left given names is e = elim e.calls [
  | inl x ↦ given_on true input at left given e.more (subst (λ (b : Bool). IsGiven b input given at) x.0 is) (calls_left true at left e.more x.1)
  | inr x ↦ subst (λ (b : Bool). IsGiven b input given at) x.0 is ∙ sym (ap (λ (bs : List ℕ). given ++ bs) x.1 ∙ append-nil given)
]

-- reading a list that is not too long does not fail
pub never_unread : (input at left : MemIn) (given : List ℕ) (names : List (List ℕ)) (count : ℕ) → length input.rest.now ≤ READ_LIMIT → IsGiven false input given at → AnswersUnread memory_reader.gets false at left given names count
    → TellsNext false false (Unread count) → ⊥
never_unread input at left given names count short is unread (inl failed) = let no : false ≡ true = failed in cc
never_unread input at left given names count short is unread (inr long) =
    let all = ap length (given_on false input at unread.mid given unread.more is (gave_left at unread.mid unread.more unread.calls)) ∙ length-append (given ++ unread.more) unread.mid.rest.now in
    let few = long.0 in
    let size = unread.count in
    omega (arith, all, few, size, short)

-- Worked rows: the words of runs over trees.
use Rattle.std.proofs.Common.{◌≡◌, ℕ, List, [], ◌∷◌, Option, Some, None, true, false, Ok, Err, refl}
use Rattle.std.specs.Prelude.{codes}
use Rattle.dcm_base.specs.Tables.Syntax.{Little}
use Rattle.dcm_base.specs.declared.fault.EditRefusal.TheVariants.{BadOption, UnknownTag}
use Rattle.dcm_base.specs.declared.fault.WordFault.TheVariants.{UnknownTool, UnknownOption, BadOptionValue, WrongPaths, OptionsApart, SamePath, NoKey}
use Rattle.dcm_base.specs.declared.dictionary.Dictionary.TheVariants.{Extract, Standard}
use Rattle.dcm_base.specs.Tables.Dictionary.{elements, entries, keywords, elements_in, element_in, tag_in}
use Rattle.dcm_edits.specs.Edit.{erase_private}
use Rattle.dcm_words.specs.declared.usage.Usage.TheVariants.{AtWord, Whole, InEdit}
use Rattle.dcm_words.specs.Words.{Job, Plan, meant, no_options, convert, modify, deidentify}
use Rattle.dcm_words.specs.Places.{two_paths}
use Rattle.dcm_tree_words.specs.Parts.{whole, part_of}
use Rattle.dcm_tree_words.specs.Trees.{Options, folder, list, meant_tree, asks_tree, words_of_one}

-- all that a row computes with
unfoldable all : ℕ
unfolding meant two_paths meant_tree asks_tree words_of_one elements entries keywords elements_in element_in tag_in
all = 0

abbrev planned : (input output : List ℕ) → (key : Option (List ℕ)) → Job → Plan
planned input output key job = record { input = input; output = output; key = key; overwrites = false; days_by_key = false; job = job }

-- what is said of a run without a word
abbrev usual : Options
usual = record { continues = false; part = whole; has_header = true; counts = false; keeps_names = true }

-- ---- words that are refused

own_word_of_dcmdeid : meant_tree (codes "dcmconv" ∷ codes "+r" ∷ codes "+kn" ∷ codes "in" ∷ codes "out" ∷ []) ≡ Err (AtWord UnknownOption 3)
unfolding all
own_word_of_dcmdeid = refl

part_from_0 : meant_tree (codes "dcmconv" ∷ codes "in" ∷ codes "+r" ∷ codes "+part" ∷ codes "0/1" ∷ codes "out" ∷ []) ≡ Err (AtWord BadOptionValue 4)
unfolding all
part_from_0 = refl

part_before_unknown : meant_tree (codes "dcmdeid" ∷ codes "+part" ∷ codes "2/1" ∷ codes "+q" ∷ codes "in" ∷ codes "out" ∷ []) ≡ Err (AtWord BadOptionValue 2)
unfolding all
part_before_unknown = refl

unknown_before_part : meant_tree (codes "dcmdeid" ∷ codes "+q" ∷ codes "+part" ∷ codes "2/1" ∷ codes "in" ∷ codes "out" ∷ []) ≡ Err (AtWord UnknownOption 2)
unfolding all
unknown_before_part = refl

no_word_after_part : meant_tree (codes "dcmconv" ∷ codes "+r" ∷ codes "in" ∷ codes "out" ∷ codes "+part" ∷ []) ≡ Err (AtWord BadOptionValue 5)
unfolding all
no_word_after_part = refl

word_after_part : meant_tree (codes "dcmconv" ∷ codes "+part" ∷ codes "+r" ∷ codes "in" ∷ codes "out" ∷ []) ≡ Err (AtWord BadOptionValue 2)
unfolding all
word_after_part = refl

part_among_edits : meant_tree (codes "dcmodify" ∷ codes "-e" ∷ codes "Nothing" ∷ codes "+r" ∷ codes "+part" ∷ codes "1/10000" ∷ codes "in" ∷ codes "out" ∷ []) ≡ Err (AtWord BadOptionValue 5)
unfolding all
part_among_edits = refl

part_before_paths : meant_tree (codes "dcmodify" ∷ codes "+r" ∷ codes "+part" ∷ codes "in" ∷ codes "out" ∷ []) ≡ Err (AtWord BadOptionValue 3)
unfolding all
part_before_paths = refl

days_before_part : meant_tree (codes "dcmdeid" ∷ codes "+c" ∷ codes "+rm" ∷ codes "0" ∷ codes "+part" ∷ codes "0/0" ∷ codes "in" ∷ codes "out" ∷ []) ≡ Err (AtWord BadOptionValue 3)
unfolding all
days_before_part = refl

number_as_given : meant_tree (codes "dcmdeid" ∷ codes "+k" ∷ codes "k" ∷ codes "+v" ∷ codes "+r" ∷ codes "+part" ∷ codes "1/2" ∷ codes "+q" ∷ codes "@" ∷ codes "-" ∷ []) ≡ Err (AtWord UnknownOption 8)
unfolding all
number_as_given = refl

days_take_word : meant_tree (codes "dcmdeid" ∷ codes "+rm" ∷ codes "+r" ∷ codes "in" ∷ codes "out" ∷ []) ≡ Err (AtWord BadOptionValue 2)
unfolding all
days_take_word = refl

one_path : meant_tree (codes "dcmconv" ∷ codes "+r" ∷ codes "in" ∷ []) ≡ Err (Whole WrongPaths)
unfolding all
one_path = refl

nameless : meant_tree (codes "dcmconv" ∷ codes "+r" ∷ codes "@" ∷ codes "out" ∷ []) ≡ Err (Whole WrongPaths)
unfolding all
nameless = refl

nameless_twice : meant_tree (codes "dcmconv" ∷ codes "+r" ∷ codes "@" ∷ codes "@" ∷ []) ≡ Err (Whole WrongPaths)
unfolding all
nameless_twice = refl

nameless_before_key : meant_tree (codes "dcmdeid" ∷ codes "+r" ∷ codes "+pi" ∷ codes "@" ∷ codes "-" ∷ []) ≡ Err (Whole WrongPaths)
unfolding all
nameless_before_key = refl

nameless_before_edits : meant_tree (codes "dcmodify" ∷ codes "-e" ∷ codes "Nothing" ∷ codes "+part" ∷ codes "2/1" ∷ codes "+r" ∷ codes "@" ∷ codes "out" ∷ []) ≡ Err (Whole WrongPaths)
unfolding all
nameless_before_edits = refl

option_as_path : meant_tree (codes "dcmodify" ∷ codes "-ep" ∷ codes "+r" ∷ codes "in" ∷ codes "+r" ∷ []) ≡ Err (Whole WrongPaths)
unfolding all
option_as_path = refl

nameless_of_one_file : meant_tree (codes "dcmconv" ∷ codes "+c" ∷ codes "@" ∷ codes "out" ∷ []) ≡ Err (Whole OptionsApart)
unfolding all
nameless_of_one_file = refl

apart_before_same : meant_tree (codes "dcmconv" ∷ codes "+c" ∷ codes "in" ∷ codes "in" ∷ []) ≡ Err (Whole OptionsApart)
unfolding all
apart_before_same = refl

apart_after_edits : meant_tree (codes "dcmodify" ∷ codes "+v" ∷ codes "-ep" ∷ codes "in" ∷ codes "out" ∷ []) ≡ Err (Whole OptionsApart)
unfolding all
apart_after_edits = refl

stream : meant_tree (codes "dcmconv" ∷ codes "+r" ∷ codes "in" ∷ codes "-" ∷ []) ≡ Err (Whole OptionsApart)
unfolding all
stream = refl

stream_of_edits : meant_tree (codes "dcmodify" ∷ codes "+r" ∷ codes "-ep" ∷ codes "-" ∷ codes "out" ∷ []) ≡ Err (Whole OptionsApart)
unfolding all
stream_of_edits = refl

stream_before_key : meant_tree (codes "dcmdeid" ∷ codes "+r" ∷ codes "+k" ∷ codes "out" ∷ codes "-" ∷ codes "out" ∷ []) ≡ Err (Whole OptionsApart)
unfolding all
stream_before_key = refl

apart_before_key : meant_tree (codes "dcmdeid" ∷ codes "+c" ∷ codes "+pi" ∷ codes "in" ∷ codes "out" ∷ []) ≡ Err (Whole OptionsApart)
unfolding all
apart_before_key = refl

stream_before_missing_key : meant_tree (codes "dcmdeid" ∷ codes "+r" ∷ codes "+pi" ∷ codes "-" ∷ codes "out" ∷ []) ≡ Err (Whole OptionsApart)
unfolding all
stream_before_missing_key = refl

same : meant_tree (codes "dcmconv" ∷ codes "+r" ∷ codes "in" ∷ codes "in" ∷ []) ≡ Err (Whole SamePath)
unfolding all
same = refl

same_as_key : meant_tree (codes "dcmdeid" ∷ codes "+r" ∷ codes "+k" ∷ codes "out" ∷ codes "in" ∷ codes "out" ∷ []) ≡ Err (Whole SamePath)
unfolding all
same_as_key = refl

same_before_key : meant_tree (codes "dcmdeid" ∷ codes "+pi" ∷ codes "+r" ∷ codes "in" ∷ codes "in" ∷ []) ≡ Err (Whole SamePath)
unfolding all
same_before_key = refl

missing_key : meant_tree (codes "dcmdeid" ∷ codes "+r" ∷ codes "+rm" ∷ codes "7" ∷ codes "+pi" ∷ codes "gone" ∷ codes "out" ∷ []) ≡ Err (Whole NoKey)
unfolding all
missing_key = refl

same_of_edits : meant_tree (codes "dcmodify" ∷ codes "+r" ∷ codes "-ep" ∷ codes "in" ∷ codes "in" ∷ []) ≡ Err (Whole SamePath)
unfolding all
same_of_edits = refl

word_of_edit : meant_tree (codes "dcmodify" ∷ codes "+r" ∷ codes "-e" ∷ codes "+r" ∷ codes "-e" ∷ codes "PatientID" ∷ codes "in" ∷ codes "out" ∷ []) ≡ Err (InEdit UnknownTag 1)
unfolding all
word_of_edit = refl

no_word_of_edits : meant_tree (codes "dcmodify" ∷ codes "+r" ∷ codes "+kn" ∷ codes "in" ∷ codes "out" ∷ []) ≡ Err (InEdit BadOption 1)
unfolding all
no_word_of_edits = refl

edit_before_apart : meant_tree (codes "dcmodify" ∷ codes "+c" ∷ codes "-e" ∷ codes "Nothing" ∷ codes "in" ∷ codes "out" ∷ []) ≡ Err (InEdit UnknownTag 1)
unfolding all
edit_before_apart = refl

edit_without_path : meant_tree (codes "dcmodify" ∷ codes "+c" ∷ codes "-ep" ∷ codes "+r" ∷ codes "-e" ∷ codes "in" ∷ codes "in" ∷ []) ≡ Err (InEdit BadOption 2)
unfolding all
edit_without_path = refl

no_tool : meant_tree (codes "dcmdump" ∷ codes "+r" ∷ codes "in" ∷ []) ≡ Err (AtWord UnknownTool 1)
unfolding all
no_tool = refl

-- ---- whether a tree is asked for

asks : asks_tree (codes "dcmconv" ∷ codes "in" ∷ codes "out" ∷ codes "+r" ∷ []) ≡ true
unfolding all
asks = refl

asks_by_any : asks_tree (codes "dcmdeid" ∷ codes "+kn" ∷ codes "in" ∷ codes "out" ∷ []) ≡ true
unfolding all
asks_by_any = refl

asks_by_part : asks_tree (codes "dcmodify" ∷ codes "+part" ∷ codes "in" ∷ codes "out" ∷ []) ≡ true
unfolding all
asks_by_part = refl

names_of_others : asks_tree (codes "dcmconv" ∷ codes "+kn" ∷ codes "in" ∷ codes "out" ∷ []) ≡ false
unfolding all
names_of_others = refl

behind_edits : asks_tree (codes "dcmodify" ∷ codes "in" ∷ codes "out" ∷ codes "+r" ∷ []) ≡ false
unfolding all
behind_edits = refl

after_erase : asks_tree (codes "dcmodify" ∷ codes "-e" ∷ codes "+r" ∷ codes "-e" ∷ codes "PatientID" ∷ codes "in" ∷ codes "out" ∷ []) ≡ false
unfolding all
after_erase = refl

as_days : asks_tree (codes "dcmdeid" ∷ codes "+rm" ∷ codes "+r" ∷ codes "in" ∷ codes "out" ∷ []) ≡ false
unfolding all
as_days = refl

as_key : asks_tree (codes "dcmdeid" ∷ codes "+k" ∷ codes "+r" ∷ codes "in" ∷ codes "out" ∷ []) ≡ false
unfolding all
as_key = refl

of_dump : asks_tree (codes "dcmdump" ∷ codes "+r" ∷ codes "in" ∷ []) ≡ false
unfolding all
of_dump = refl

for_help : asks_tree (codes "dcmconv" ∷ codes "--help" ∷ []) ≡ false
unfolding all
for_help = refl

-- ---- what is left to the tool

left_options : words_of_one (codes "dcmconv" ∷ codes "in" ∷ codes "+dict" ∷ codes "+r" ∷ codes "out" ∷ codes "+te" ∷ codes "+nh" ∷ []) ≡ codes "dcmconv" ∷ codes "in" ∷ codes "+dict" ∷ codes "out" ∷ codes "+te" ∷ []
unfolding all
left_options = refl

left_edits : words_of_one (codes "dcmodify" ∷ codes "-m" ∷ codes "PatientID=7" ∷ codes "+r" ∷ codes "-ea" ∷ codes "+c" ∷ codes "+part" ∷ codes "1/1" ∷ codes "-m" ∷ codes "Rows=2" ∷ codes "in" ∷ codes "out" ∷ []) ≡ codes "dcmodify" ∷ codes "-m" ∷ codes "PatientID=7" ∷ codes "-ea" ∷ codes "+c" ∷ codes "-m" ∷ codes "Rows=2" ∷ codes "in" ∷ codes "out" ∷ []
unfolding all
left_edits = refl

left_values : words_of_one (codes "dcmdeid" ∷ codes "+k" ∷ codes "+r" ∷ codes "+kn" ∷ codes "+rm" ∷ codes "+c" ∷ codes "+r" ∷ codes "in" ∷ codes "+part" ∷ codes "out" ∷ codes "-" ∷ []) ≡ codes "dcmdeid" ∷ codes "+k" ∷ codes "+r" ∷ codes "+rm" ∷ codes "+c" ∷ codes "in" ∷ codes "-" ∷ []
unfolding all
left_values = refl

left_all : words_of_one (codes "dump2dcm" ∷ codes "+r" ∷ codes "in" ∷ codes "out" ∷ []) ≡ codes "dump2dcm" ∷ codes "+r" ∷ codes "in" ∷ codes "out" ∷ []
unfolding all
left_all = refl

-- ---- runs over trees

plain : meant_tree (codes "dcmconv" ∷ codes "+r" ∷ codes "in" ∷ codes "out" ∷ []) ≡ Ok (record { source = folder (codes "in"); options = usual; plan = planned (codes "in") (codes "out") None (convert Extract None) })
unfolding all
plain = refl

options : meant_tree (codes "dcmconv" ∷ codes "in" ∷ codes "+dict" ∷ codes "+r" ∷ codes "out/" ∷ codes "+te" ∷ codes "+nh" ∷ []) ≡ Ok (record { source = folder (codes "in"); options = record usual { has_header = false }; plan = planned (codes "in") (codes "out/") None (convert Standard (Some Little)) })
unfolding all
options = refl

listed : meant_tree (codes "dcmconv" ∷ codes "+r" ∷ codes "@list" ∷ codes "+v" ∷ codes "out" ∷ codes "+c" ∷ []) ≡ Ok (record { source = list (codes "list"); options = record usual { continues = true; counts = true }; plan = planned (codes "@list") (codes "out") None (convert Extract None) })
unfolding all
listed = refl

last_part : meant_tree (codes "dcmconv" ∷ codes "+part" ∷ codes "1/9" ∷ codes "+r" ∷ codes "+part" ∷ codes "03/5" ∷ codes "@-" ∷ codes "out" ∷ []) ≡ Ok (record { source = list (codes "-"); options = record usual { continues = true; part = record { number = 3; count = 5 } }; plan = planned (codes "@-") (codes "out") None (convert Extract None) })
unfolding all
last_part = refl

edits : meant_tree (codes "dcmodify" ∷ codes "-ep" ∷ codes "+part" ∷ codes "1/1" ∷ codes "+r" ∷ codes "+v" ∷ codes "in" ∷ codes "out" ∷ []) ≡ Ok (record { source = folder (codes "in"); options = record usual { continues = true; counts = true }; plan = planned (codes "in") (codes "out") None (modify Extract (erase_private ∷ [])) })
unfolding all
edits = refl

new_names : meant_tree (codes "dcmdeid" ∷ codes "+r" ∷ codes "in" ∷ codes "out" ∷ []) ≡ Ok (record { source = folder (codes "in"); options = record usual { keeps_names = false }; plan = planned (codes "in") (codes "out") None (deidentify no_options true []) })
unfolding all
new_names = refl

kept_names : meant_tree (codes "dcmdeid" ∷ codes "+kn" ∷ codes "+bi" ∷ codes "in" ∷ codes "out" ∷ codes "+r" ∷ []) ≡ Ok (record { source = folder (codes "in"); options = usual; plan = planned (codes "in") (codes "out") None (deidentify no_options false []) })
unfolding all
kept_names = refl

with_key : meant_tree (codes "dcmdeid" ∷ codes "+k" ∷ codes "key" ∷ codes "+r" ∷ codes "in" ∷ codes "out" ∷ []) ≡ Ok (record { source = folder (codes "in"); options = record usual { keeps_names = false }; plan = planned (codes "in") (codes "out") (Some (codes "key")) (deidentify no_options true []) })
unfolding all
with_key = refl

-- ---- parts

whole_part : part_of (codes "1/1") ≡ Some (record { number = 1; count = 1 })
unfolding all
whole_part = refl

most_parts : part_of (codes "9999/9999") ≡ Some (record { number = 9999; count = 9999 })
unfolding all
most_parts = refl

zeros : part_of (codes "0003/05") ≡ Some (record { number = 3; count = 5 })
unfolding all
zeros = refl

part_0 : part_of (codes "0/1") ≡ None
unfolding all
part_0 = refl

past_last : part_of (codes "3/2") ≡ None
unfolding all
past_last = refl

five_digits : part_of (codes "1/10000") ≡ None
unfolding all
five_digits = refl

five_zeros : part_of (codes "00001/1") ≡ None
unfolding all
five_zeros = refl

no_slash : part_of (codes "1") ≡ None
unfolding all
no_slash = refl

no_count : part_of (codes "1/") ≡ None
unfolding all
no_count = refl

no_number : part_of (codes "/1") ≡ None
unfolding all
no_number = refl

two_slashes : part_of (codes "1/1/1") ≡ None
unfolding all
two_slashes = refl

signed : part_of (codes "+1/1") ≡ None
unfolding all
signed = refl

empty : part_of (codes "") ≡ None
unfolding all
empty = refl

-- ---- an output that is there is overwritten by no run over a tree

over_a_tree : meant_tree (codes "dcmconv" ∷ codes "+ow" ∷ codes "+r" ∷ codes "in" ∷ codes "out" ∷ []) ≡ Err (Whole OptionsApart)
unfolding all
over_a_tree = refl

edits_over_a_tree : meant_tree (codes "dcmodify" ∷ codes "+r" ∷ codes "-ep" ∷ codes "+ow" ∷ codes "in" ∷ codes "out" ∷ []) ≡ Err (Whole OptionsApart)
unfolding all
edits_over_a_tree = refl

over_a_tree_of_one_path : meant_tree (codes "dcmdeid" ∷ codes "+r" ∷ codes "+ow" ∷ codes "in" ∷ codes "in" ∷ []) ≡ Err (Whole OptionsApart)
unfolding all
over_a_tree_of_one_path = refl

over_a_list_without_name : meant_tree (codes "dcmconv" ∷ codes "+ow" ∷ codes "+r" ∷ codes "@" ∷ codes "out" ∷ []) ≡ Err (Whole WrongPaths)
unfolding all
over_a_list_without_name = refl

over_alone : asks_tree (codes "dcmconv" ∷ codes "+ow" ∷ codes "in" ∷ codes "out" ∷ []) ≡ false
unfolding all
over_alone = refl

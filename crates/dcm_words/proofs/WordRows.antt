-- Worked rows: the words of a command line.
use Rattle.std.proofs.Common.{◌≡◌, ℕ, List, [], ◌∷◌, ◌++◌, pos, negsuc, length, flat_map, replicate, Option, Some, None, Bool, true, false, Result, Ok, Err, refl}
use Rattle.std.specs.Prelude.{codes}
use Rattle.dcm_base.specs.declared.tag.Tag.{Tag}
use Rattle.dcm_base.specs.declared.vr.Vr.TheVariants.{UI, PN, LO, US}
use Rattle.dcm_base.specs.declared.mode.Mode.TheVariants.{Short, Full}
use Rattle.dcm_base.specs.Tables.Syntax.{Implicit, Little, Big}
use Rattle.dcm_base.specs.declared.fault.EditRefusal.TheVariants.{BadOption, UnknownTag, ValueDoesNotFit, SequenceMisused, MetaGroup, Overlap, TooMany}
use Rattle.dcm_base.specs.declared.fault.WordFault.TheVariants.{UnknownTool, UnknownOption, BadOptionValue, WrongPaths, OptionsApart, SamePath, NoKey, ReadTwice}
use Rattle.dcm_words.specs.declared.usage.Usage.{Usage}
use Rattle.dcm_words.specs.declared.usage.Usage.TheVariants.{AtWord, Whole, InEdit}
use Rattle.dcm_base.specs.declared.dictionary.Dictionary.TheVariants.{Extract, Standard}
use Rattle.dcm_base.specs.Tables.Dictionary.{elements, entries, keywords, elements_in, element_in, tag_in}
use Rattle.dcm_edits.specs.Edit.{Edit, number, every, step, insert, modify, erase, erase_item, on_path, modify_all, erase_private}
use Rattle.dcm_edits.specs.EditWords.{meant_edits, in_edit, InEdit as EditFault}
use Rattle.dcm_deid.specs.declared.fate.Temporal.TheVariants.{Full as full_dates, Modified}
use Rattle.dcm_deid.specs.declared.fate.Options.{Options}
use Rattle.dcm_words.specs.Words.{meant, no_options, Plan, Job, dump, dump_decoded, convert, build, modify as modifies, deidentify}

-- all that a row computes with
unfoldable all : ℕ
unfolding meant elements entries keywords elements_in element_in tag_in
all = 0

abbrev tag : ℕ → ℕ → Tag
tag g e = record { group = g; element = e }

abbrev planned : List ℕ → List ℕ → Job → Result Plan Usage
planned input output job = Ok (record { input = input; output = output; key = None; overwrites = false; days_by_key = false; job = job })

-- of dcmdeid, from "in" to "out"
abbrev taken : Options → (reports : Bool) → (key : Option (List ℕ)) → Result Plan Usage
taken options reports key = Ok (record { input = codes "in"; output = codes "out"; key = key; overwrites = false; days_by_key = false; job = deidentify options reports [] })

abbrev length_of : Result (List Edit) EditFault → Result ℕ EditFault
length_of (Ok es) = Ok (length es)
length_of (Err f) = Err f

-- the tool
no_words : meant ([]) ≡ Err (AtWord UnknownTool 1)
unfolding all
no_words = refl

no_such_tool : meant (codes "dcmsort" ∷ codes "a" ∷ []) ≡ Err (AtWord UnknownTool 1)
unfolding all
no_such_tool = refl

-- dcmdump
plain_dump : meant (codes "dcmdump" ∷ codes "-" ∷ []) ≡ planned (codes "-") (codes "-") (dump Extract Short None)
unfolding all
plain_dump = refl

dump_full : meant (codes "dcmdump" ∷ codes "+L" ∷ codes "in" ∷ []) ≡ planned (codes "in") (codes "-") (dump Extract Full None)
unfolding all
dump_full = refl

last_mode_counts : meant (codes "dcmdump" ∷ codes "+L" ∷ codes "-L" ∷ codes "in" ∷ []) ≡ planned (codes "in") (codes "-") (dump Extract Short None)
unfolding all
last_mode_counts = refl

dump_of_characters : meant (codes "dcmdump" ∷ codes "+u8" ∷ codes "+L" ∷ codes "in" ∷ []) ≡ planned (codes "in") (codes "-") (dump_decoded Extract Full None)
unfolding all
dump_of_characters = refl

dump_of_set : meant (codes "dcmdump" ∷ codes "-f" ∷ codes "-te" ∷ codes "-" ∷ []) ≡ planned (codes "-") (codes "-") (dump Extract Short (Some Little))
unfolding all
dump_of_set = refl

set_without_syntax : meant (codes "dcmdump" ∷ codes "-f" ∷ codes "in" ∷ []) ≡ Err (Whole OptionsApart)
unfolding all
set_without_syntax = refl

file_with_syntax : meant (codes "dcmdump" ∷ codes "-f" ∷ codes "-te" ∷ codes "+fo" ∷ codes "in" ∷ []) ≡ Err (Whole OptionsApart)
unfolding all
file_with_syntax = refl

set_at_last : meant (codes "dcmdump" ∷ codes "+fo" ∷ codes "-ti" ∷ codes "-f" ∷ codes "in" ∷ []) ≡ planned (codes "in") (codes "-") (dump Extract Short (Some Implicit))
unfolding all
set_at_last = refl

unknown_option : meant (codes "dcmdump" ∷ codes "in" ∷ codes "-x" ∷ []) ≡ Err (AtWord UnknownOption 3)
unfolding all
unknown_option = refl

option_of_another_tool : meant (codes "dcmdump" ∷ codes "+te" ∷ codes "in" ∷ []) ≡ Err (AtWord UnknownOption 2)
unfolding all
option_of_another_tool = refl

-- options are judged before paths
option_before_paths : meant (codes "dcmdump" ∷ codes "-x" ∷ []) ≡ Err (AtWord UnknownOption 2)
unfolding all
option_before_paths = refl

no_path : meant (codes "dcmdump" ∷ []) ≡ Err (Whole WrongPaths)
unfolding all
no_path = refl

two_paths : meant (codes "dcmdump" ∷ codes "a" ∷ codes "b" ∷ []) ≡ Err (Whole WrongPaths)
unfolding all
two_paths = refl

empty_path : meant (codes "dcmdump" ∷ codes "" ∷ []) ≡ Err (Whole WrongPaths)
unfolding all
empty_path = refl

paths_before_options_apart : meant (codes "dcmdump" ∷ codes "-f" ∷ []) ≡ Err (Whole WrongPaths)
unfolding all
paths_before_options_apart = refl

-- the dictionary that is read with: the last one counts
dump_by_standard : meant (codes "dcmdump" ∷ codes "+dict" ∷ codes "in" ∷ []) ≡ planned (codes "in") (codes "-") (dump Standard Short None)
unfolding all
dump_by_standard = refl

last_dictionary_counts : meant (codes "dcmdump" ∷ codes "+dict" ∷ codes "-dict" ∷ codes "in" ∷ []) ≡ planned (codes "in") (codes "-") (dump Extract Short None)
unfolding all
last_dictionary_counts = refl

-- dcmconv
plain_convert : meant (codes "dcmconv" ∷ codes "in" ∷ codes "out" ∷ []) ≡ planned (codes "in") (codes "out") (convert Extract None)
unfolding all
plain_convert = refl

convert_to_big : meant (codes "dcmconv" ∷ codes "+te" ∷ codes "in" ∷ codes "+tb" ∷ codes "-e" ∷ codes "out" ∷ []) ≡ planned (codes "in") (codes "out") (convert Extract (Some Big))
unfolding all
convert_to_big = refl

convert_to_same : meant (codes "dcmconv" ∷ codes "+te" ∷ codes "+t=" ∷ codes "in" ∷ codes "out" ∷ []) ≡ planned (codes "in") (codes "out") (convert Extract None)
unfolding all
convert_to_same = refl

same_path : meant (codes "dcmconv" ∷ codes "a" ∷ codes "a" ∷ []) ≡ Err (Whole SamePath)
unfolding all
same_path = refl

standard_twice : meant (codes "dcmconv" ∷ codes "-" ∷ codes "-" ∷ []) ≡ planned (codes "-") (codes "-") (convert Extract None)
unfolding all
standard_twice = refl

one_path : meant (codes "dcmconv" ∷ codes "a" ∷ []) ≡ Err (Whole WrongPaths)
unfolding all
one_path = refl

convert_by_standard : meant (codes "dcmconv" ∷ codes "+dict" ∷ codes "+te" ∷ codes "in" ∷ codes "out" ∷ []) ≡ planned (codes "in") (codes "out") (convert Standard (Some Little))
unfolding all
convert_by_standard = refl

-- dump2dcm
plain_build : meant (codes "dump2dcm" ∷ codes "-e" ∷ codes "in" ∷ codes "out" ∷ []) ≡ planned (codes "in") (codes "out") (build 4096)
unfolding all
plain_build = refl

build_with_limit : meant (codes "dump2dcm" ∷ codes "+l" ∷ codes "0016384" ∷ codes "in" ∷ codes "out" ∷ []) ≡ planned (codes "in") (codes "out") (build 16384)
unfolding all
build_with_limit = refl

last_limit_counts : meant (codes "dump2dcm" ∷ codes "+l" ∷ codes "80" ∷ codes "+l" ∷ codes "81" ∷ codes "in" ∷ codes "out" ∷ []) ≡ planned (codes "in") (codes "out") (build 81)
unfolding all
last_limit_counts = refl

limit_too_small : meant (codes "dump2dcm" ∷ codes "+l" ∷ codes "79" ∷ codes "in" ∷ codes "out" ∷ []) ≡ Err (AtWord BadOptionValue 2)
unfolding all
limit_too_small = refl

limit_too_great : meant (codes "dump2dcm" ∷ codes "+l" ∷ codes "16385" ∷ codes "in" ∷ codes "out" ∷ []) ≡ Err (AtWord BadOptionValue 2)
unfolding all
limit_too_great = refl

-- a word for an option is taken whatever it is
limit_is_option : meant (codes "dump2dcm" ∷ codes "in" ∷ codes "+l" ∷ codes "-e" ∷ []) ≡ Err (AtWord BadOptionValue 3)
unfolding all
limit_is_option = refl

no_limit : meant (codes "dump2dcm" ∷ codes "in" ∷ codes "out" ∷ codes "+l" ∷ []) ≡ Err (AtWord BadOptionValue 4)
unfolding all
no_limit = refl

empty_limit : meant (codes "dump2dcm" ∷ codes "+l" ∷ codes "" ∷ codes "in" ∷ codes "out" ∷ []) ≡ Err (AtWord BadOptionValue 2)
unfolding all
empty_limit = refl

build_by_standard : meant (codes "dump2dcm" ∷ codes "+dict" ∷ codes "in" ∷ codes "out" ∷ []) ≡ Err (AtWord UnknownOption 2)
unfolding all
build_by_standard = refl

-- dcmdeid
plain_deidentify : meant (codes "dcmdeid" ∷ codes "in" ∷ codes "out" ∷ []) ≡ taken no_options true None
unfolding all
plain_deidentify = refl

retain_uids : meant (codes "dcmdeid" ∷ codes "+ru" ∷ codes "in" ∷ codes "out" ∷ []) ≡ taken (record no_options { uids = true }) true None
unfolding all
retain_uids = refl

retain_device : meant (codes "dcmdeid" ∷ codes "in" ∷ codes "+rd" ∷ codes "out" ∷ []) ≡ taken (record no_options { device = true }) true None
unfolding all
retain_device = refl

retain_institution : meant (codes "dcmdeid" ∷ codes "in" ∷ codes "out" ∷ codes "+ri" ∷ []) ≡ taken (record no_options { institution = true }) true None
unfolding all
retain_institution = refl

retain_patient : meant (codes "dcmdeid" ∷ codes "+rp" ∷ codes "+rp" ∷ codes "in" ∷ codes "out" ∷ []) ≡ taken (record no_options { patient = true }) true None
unfolding all
retain_patient = refl

retain_dates : meant (codes "dcmdeid" ∷ codes "+rl" ∷ codes "in" ∷ codes "out" ∷ []) ≡ taken (record no_options { dates = full_dates }) true None
unfolding all
retain_dates = refl

retain_all : meant (codes "dcmdeid" ∷ codes "+rl" ∷ codes "+rp" ∷ codes "+ri" ∷ codes "+rd" ∷ codes "+ru" ∷ codes "in" ∷ codes "out" ∷ []) ≡ taken (record { uids = true; device = true; institution = true; patient = true; dates = full_dates; pseudonyms = false }) true None
unfolding all
retain_all = refl

-- dates that are moved, and pseudonyms
move_dates : meant (codes "dcmdeid" ∷ codes "+rm" ∷ codes "30" ∷ codes "in" ∷ codes "out" ∷ []) ≡ taken (record no_options { dates = Modified (pos 30) }) true None
unfolding all
move_dates = refl

move_dates_back : meant (codes "dcmdeid" ∷ codes "in" ∷ codes "+rm" ∷ codes "-0036524" ∷ codes "out" ∷ []) ≡ taken (record no_options { dates = Modified (negsuc 36523) }) true None
unfolding all
move_dates_back = refl

move_after_retain : meant (codes "dcmdeid" ∷ codes "+rl" ∷ codes "+rm" ∷ codes "+1" ∷ codes "in" ∷ codes "out" ∷ []) ≡ taken (record no_options { dates = Modified (pos 1) }) true None
unfolding all
move_after_retain = refl

retain_after_move : meant (codes "dcmdeid" ∷ codes "+rm" ∷ codes "1" ∷ codes "+rl" ∷ codes "in" ∷ codes "out" ∷ []) ≡ taken (record no_options { dates = full_dates }) true None
unfolding all
retain_after_move = refl

no_days : meant (codes "dcmdeid" ∷ codes "in" ∷ codes "out" ∷ codes "+rm" ∷ []) ≡ Err (AtWord BadOptionValue 4)
unfolding all
no_days = refl

days_0 : meant (codes "dcmdeid" ∷ codes "+rm" ∷ codes "0" ∷ codes "in" ∷ codes "out" ∷ []) ≡ Err (AtWord BadOptionValue 2)
unfolding all
days_0 = refl

days_36525 : meant (codes "dcmdeid" ∷ codes "+rm" ∷ codes "-36525" ∷ codes "in" ∷ codes "out" ∷ []) ≡ Err (AtWord BadOptionValue 2)
unfolding all
days_36525 = refl

two_signs : meant (codes "dcmdeid" ∷ codes "+rm" ∷ codes "+-5" ∷ codes "in" ∷ codes "out" ∷ []) ≡ Err (AtWord BadOptionValue 2)
unfolding all
two_signs = refl

half_a_day : meant (codes "dcmdeid" ∷ codes "+rm" ∷ codes "1.5" ∷ codes "in" ∷ codes "out" ∷ []) ≡ Err (AtWord BadOptionValue 2)
unfolding all
half_a_day = refl

empty_days : meant (codes "dcmdeid" ∷ codes "+rm" ∷ codes "" ∷ codes "in" ∷ codes "out" ∷ []) ≡ Err (AtWord BadOptionValue 2)
unfolding all
empty_days = refl

pseudonyms : meant (codes "dcmdeid" ∷ codes "+pi" ∷ codes "+k" ∷ codes "key" ∷ codes "in" ∷ codes "out" ∷ []) ≡ taken (record no_options { pseudonyms = true }) true (Some (codes "key"))
unfolding all
pseudonyms = refl

pseudonyms_without_key : meant (codes "dcmdeid" ∷ codes "+pi" ∷ codes "in" ∷ codes "out" ∷ []) ≡ Err (Whole NoKey)
unfolding all
pseudonyms_without_key = refl

paths_before_key : meant (codes "dcmdeid" ∷ codes "+pi" ∷ codes "a" ∷ codes "a" ∷ []) ≡ Err (Whole SamePath)
unfolding all
paths_before_key = refl

-- days by the key
abbrev taken_by_key : Options → Result Plan Usage
taken_by_key options = Ok (record { input = codes "in"; output = codes "out"; key = Some (codes "site.key"); overwrites = false; days_by_key = true; job = deidentify options true [] })

days_by_key : meant (codes "dcmdeid" ∷ codes "+rm" ∷ codes "key" ∷ codes "+k" ∷ codes "site.key" ∷ codes "in" ∷ codes "out" ∷ []) ≡ taken_by_key no_options
unfolding all
days_by_key = refl

key_after_days : meant (codes "dcmdeid" ∷ codes "+k" ∷ codes "site.key" ∷ codes "+rl" ∷ codes "+rm" ∷ codes "key" ∷ codes "in" ∷ codes "out" ∷ []) ≡ taken_by_key (record no_options { dates = full_dates })
unfolding all
key_after_days = refl

days_after_key : meant (codes "dcmdeid" ∷ codes "+rm" ∷ codes "key" ∷ codes "+rm" ∷ codes "1" ∷ codes "in" ∷ codes "out" ∷ []) ≡ taken (record no_options { dates = Modified (pos 1) }) true None
unfolding all
days_after_key = refl

retain_after_key : meant (codes "dcmdeid" ∷ codes "+rm" ∷ codes "key" ∷ codes "+rl" ∷ codes "in" ∷ codes "out" ∷ []) ≡ taken (record no_options { dates = full_dates }) true None
unfolding all
retain_after_key = refl

another_after_key : meant (codes "dcmdeid" ∷ codes "+rm" ∷ codes "key" ∷ codes "+ru" ∷ codes "+k" ∷ codes "site.key" ∷ codes "in" ∷ codes "out" ∷ []) ≡ taken_by_key (record no_options { uids = true })
unfolding all
another_after_key = refl

days_without_key : meant (codes "dcmdeid" ∷ codes "+rm" ∷ codes "key" ∷ codes "-" ∷ codes "out" ∷ []) ≡ Err (Whole NoKey)
unfolding all
days_without_key = refl

stream_twice : meant (codes "dcmdeid" ∷ codes "+rm" ∷ codes "key" ∷ codes "+k" ∷ codes "site.key" ∷ codes "-" ∷ codes "-" ∷ []) ≡ Err (Whole ReadTwice)
unfolding all
stream_twice = refl

same_paths_before_twice : meant (codes "dcmdeid" ∷ codes "+rm" ∷ codes "key" ∷ codes "+k" ∷ codes "out" ∷ codes "-" ∷ codes "out" ∷ []) ≡ Err (Whole SamePath)
unfolding all
same_paths_before_twice = refl

no_such_days : meant (codes "dcmdeid" ∷ codes "+rm" ∷ codes "+key" ∷ codes "in" ∷ codes "out" ∷ []) ≡ Err (AtWord BadOptionValue 2)
unfolding all
no_such_days = refl

pixels_dealt : meant (codes "dcmdeid" ∷ codes "+bi" ∷ codes "in" ∷ codes "+ru" ∷ codes "out" ∷ []) ≡ taken (record no_options { uids = true }) false None
unfolding all
pixels_dealt = refl

with_key : meant (codes "dcmdeid" ∷ codes "in" ∷ codes "+k" ∷ codes "key" ∷ codes "out" ∷ []) ≡ taken no_options true (Some (codes "key"))
unfolding all
with_key = refl

last_key_counts : meant (codes "dcmdeid" ∷ codes "+k" ∷ codes "out" ∷ codes "+k" ∷ codes "key" ∷ codes "in" ∷ codes "out" ∷ []) ≡ taken no_options true (Some (codes "key"))
unfolding all
last_key_counts = refl

-- the word after +k is its path, whatever it is
key_is_option : meant (codes "dcmdeid" ∷ codes "+k" ∷ codes "+k" ∷ codes "in" ∷ codes "out" ∷ []) ≡ taken no_options true (Some (codes "+k"))
unfolding all
key_is_option = refl

key_is_input : meant (codes "dcmdeid" ∷ codes "+k" ∷ codes "in" ∷ codes "in" ∷ codes "out" ∷ []) ≡ taken no_options true (Some (codes "in"))
unfolding all
key_is_input = refl

no_key : meant (codes "dcmdeid" ∷ codes "in" ∷ codes "out" ∷ codes "+k" ∷ []) ≡ Err (AtWord BadOptionValue 4)
unfolding all
no_key = refl

empty_key : meant (codes "dcmdeid" ∷ codes "+k" ∷ codes "" ∷ codes "in" ∷ codes "out" ∷ []) ≡ Err (AtWord BadOptionValue 2)
unfolding all
empty_key = refl

stream_as_key : meant (codes "dcmdeid" ∷ codes "in" ∷ codes "+k" ∷ codes "-" ∷ codes "out" ∷ []) ≡ Err (AtWord BadOptionValue 3)
unfolding all
stream_as_key = refl

-- from left to right
option_before_key : meant (codes "dcmdeid" ∷ codes "-e" ∷ codes "+k" ∷ codes "-" ∷ codes "in" ∷ codes "out" ∷ []) ≡ Err (AtWord UnknownOption 2)
unfolding all
option_before_key = refl

key_before_option : meant (codes "dcmdeid" ∷ codes "+k" ∷ codes "-" ∷ codes "-e" ∷ codes "in" ∷ codes "out" ∷ []) ≡ Err (AtWord BadOptionValue 2)
unfolding all
key_before_option = refl

option_after_key : meant (codes "dcmdeid" ∷ codes "+k" ∷ codes "key" ∷ codes "+dict" ∷ codes "in" ∷ codes "out" ∷ []) ≡ Err (AtWord UnknownOption 4)
unfolding all
option_after_key = refl

deidentify_one_path : meant (codes "dcmdeid" ∷ codes "+ru" ∷ codes "in" ∷ []) ≡ Err (Whole WrongPaths)
unfolding all
deidentify_one_path = refl

deidentify_three_paths : meant (codes "dcmdeid" ∷ codes "a" ∷ codes "b" ∷ codes "c" ∷ []) ≡ Err (Whole WrongPaths)
unfolding all
deidentify_three_paths = refl

deidentify_empty_path : meant (codes "dcmdeid" ∷ codes "in" ∷ codes "" ∷ []) ≡ Err (Whole WrongPaths)
unfolding all
deidentify_empty_path = refl

deidentify_same_path : meant (codes "dcmdeid" ∷ codes "a" ∷ codes "a" ∷ []) ≡ Err (Whole SamePath)
unfolding all
deidentify_same_path = refl

key_is_output : meant (codes "dcmdeid" ∷ codes "+k" ∷ codes "out" ∷ codes "in" ∷ codes "out" ∷ []) ≡ Err (Whole SamePath)
unfolding all
key_is_output = refl

paths_before_same_key : meant (codes "dcmdeid" ∷ codes "+k" ∷ codes "a" ∷ codes "a" ∷ []) ≡ Err (Whole WrongPaths)
unfolding all
paths_before_same_key = refl

deidentify_streams : meant (codes "dcmdeid" ∷ codes "-" ∷ codes "-" ∷ []) ≡ Ok (record { input = codes "-"; output = codes "-"; key = None; overwrites = false; days_by_key = false; job = deidentify no_options true [] })
unfolding all
deidentify_streams = refl

-- dcmodify
no_edits : meant (codes "dcmodify" ∷ codes "in" ∷ codes "out" ∷ []) ≡ planned (codes "in") (codes "out") (modifies Extract [])
unfolding all
no_edits = refl

edits : meant (codes "dcmodify" ∷ codes "-i" ∷ codes "(0010,0020)=7" ∷ codes "-m" ∷ codes "PatientName=Q" ∷ codes "-" ∷ codes "out" ∷ []) ≡ planned (codes "-") (codes "out") (modifies Extract (on_path (insert (tag 0x0010 0x0020) LO (codes "7")) ∷ on_path (modify (tag 0x0010 0x0010) PN (codes "Q")) ∷ []))
unfolding all
edits = refl

one_word : meant (codes "dcmodify" ∷ codes "in" ∷ []) ≡ Err (Whole WrongPaths)
unfolding all
one_word = refl

-- the last two words are paths, and judged first
option_for_path : meant (codes "dcmodify" ∷ codes "-ep" ∷ codes "-e" ∷ codes "+x" ∷ []) ≡ Err (Whole WrongPaths)
unfolding all
option_for_path = refl

edit_before_same_path : meant (codes "dcmodify" ∷ codes "-x" ∷ codes "a" ∷ codes "a" ∷ []) ≡ Err (InEdit BadOption 1)
unfolding all
edit_before_same_path = refl

modify_same_path : meant (codes "dcmodify" ∷ codes "-ep" ∷ codes "a" ∷ codes "a" ∷ []) ≡ Err (Whole SamePath)
unfolding all
modify_same_path = refl

edit_takes_any_word : meant (codes "dcmodify" ∷ codes "-e" ∷ codes "-i" ∷ codes "X=1" ∷ codes "in" ∷ codes "out" ∷ []) ≡ Err (InEdit UnknownTag 1)
unfolding all
edit_takes_any_word = refl

-- the dictionary of all edits, also of those before its word
edits_by_standard : meant (codes "dcmodify" ∷ codes "-m" ∷ codes "PatientName=A" ∷ codes "+dict" ∷ codes "in" ∷ codes "out" ∷ []) ≡ planned (codes "in") (codes "out") (modifies Standard (on_path (modify (tag 0x0010 0x0010) PN (codes "A")) ∷ []))
unfolding all
edits_by_standard = refl

keyword_of_standard : meant (codes "dcmodify" ∷ codes "+dict" ∷ codes "-e" ∷ codes "InstanceCreatorUID" ∷ codes "in" ∷ codes "out" ∷ []) ≡ planned (codes "in") (codes "out") (modifies Standard (on_path (erase (tag 0x0008 0x0014)) ∷ []))
unfolding all
keyword_of_standard = refl

keyword_without_standard : meant (codes "dcmodify" ∷ codes "-e" ∷ codes "InstanceCreatorUID" ∷ codes "in" ∷ codes "out" ∷ []) ≡ Err (InEdit UnknownTag 1)
unfolding all
keyword_without_standard = refl

tag_of_standard : meant (codes "dcmodify" ∷ codes "-e" ∷ codes "(0040,A168)" ∷ codes "+dict" ∷ codes "in" ∷ codes "out" ∷ []) ≡ planned (codes "in") (codes "out") (modifies Standard (on_path (erase (tag 0x0040 0xA168)) ∷ []))
unfolding all
tag_of_standard = refl

sequence_without_standard : meant (codes "dcmodify" ∷ codes "-e" ∷ codes "ConceptCodeSequence" ∷ codes "in" ∷ codes "out" ∷ []) ≡ Err (InEdit UnknownTag 1)
unfolding all
sequence_without_standard = refl

tag_after_all : meant (codes "dcmodify" ∷ codes "+dict" ∷ codes "-e" ∷ codes "(0040,A168)" ∷ codes "-dict" ∷ codes "in" ∷ codes "out" ∷ []) ≡ Err (InEdit UnknownTag 1)
unfolding all
tag_after_all = refl

-- such a word is no edit, and behind an option that takes a word it is that word
dictionary_alone : meant (codes "dcmodify" ∷ codes "+dict" ∷ codes "in" ∷ codes "out" ∷ []) ≡ planned (codes "in") (codes "out") (modifies Standard [])
unfolding all
dictionary_alone = refl

dictionary_not_counted : meant (codes "dcmodify" ∷ codes "-ep" ∷ codes "-dict" ∷ codes "-x" ∷ codes "in" ∷ codes "out" ∷ []) ≡ Err (InEdit BadOption 2)
unfolding all
dictionary_not_counted = refl

dictionary_for_path : meant (codes "dcmodify" ∷ codes "-m" ∷ codes "+dict" ∷ codes "-e" ∷ codes "(0040,A168)" ∷ codes "in" ∷ codes "out" ∷ []) ≡ Err (InEdit UnknownTag 1)
unfolding all
dictionary_for_path = refl

-- edits
item : meant_edits (codes "-e" ∷ codes "ReferencedImageSequence[0]" ∷ []) ≡ Ok (on_path (erase_item (tag 0x0008 0x1140) (number 0)) ∷ [])
unfolding all
item = refl

all_elements : meant_edits (codes "-ma" ∷ codes "(0008,1155)=1.3" ∷ []) ≡ Ok (modify_all (tag 0x0008 0x1155) UI (codes "1.3") ∷ [])
unfolding all
all_elements = refl

private_elements : meant_edits (codes "-ep" ∷ []) ≡ Ok (erase_private ∷ [])
unfolding all
private_elements = refl

a_path : meant_edits (codes "-i" ∷ codes "ReferencedImageSequence[0].ReferencedSOPInstanceUID=1.2" ∷ []) ≡ Ok (on_path (step (tag 0x0008 0x1140) (number 0) (insert (tag 0x0008 0x1155) UI (codes "1.2"))) ∷ [])
unfolding all
a_path = refl

a_star : meant_edits (codes "-e" ∷ codes "(0008,1140)[*].(0008,1150)" ∷ []) ≡ Ok (on_path (step (tag 0x0008 0x1140) every (erase (tag 0x0008 0x1150))) ∷ [])
unfolding all
a_star = refl

-- without = the value is empty
no_equals_sign : meant_edits (codes "-i" ∷ codes "PatientName" ∷ []) ≡ Ok (on_path (insert (tag 0x0010 0x0010) PN []) ∷ [])
unfolding all
no_equals_sign = refl

second_equals_sign : meant_edits (codes "-m" ∷ codes "PatientID=a=b" ∷ []) ≡ Ok (on_path (modify (tag 0x0010 0x0020) LO (codes "a=b")) ∷ [])
unfolding all
second_equals_sign = refl

no_value_word : meant_edits (codes "-i" ∷ codes "Rows=(no value available)" ∷ []) ≡ Ok (on_path (insert (tag 0x0028 0x0010) US []) ∷ [])
unfolding all
no_value_word = refl

-- bad options and paths
no_option : meant_edits (codes "PatientID=7" ∷ []) ≡ Err (in_edit BadOption 1)
unfolding all
no_option = refl

no_word : meant_edits (codes "-ep" ∷ codes "-e" ∷ []) ≡ Err (in_edit BadOption 2)
unfolding all
no_word = refl

empty_word : meant_edits (codes "-e" ∷ codes "" ∷ []) ≡ Err (in_edit BadOption 1)
unfolding all
empty_word = refl

half_a_number : meant_edits (codes "-e" ∷ codes "(0010,001)" ∷ []) ≡ Err (in_edit BadOption 1)
unfolding all
half_a_number = refl

value_behind_item : meant_edits (codes "-m" ∷ codes "PatientName[0]=A" ∷ []) ≡ Err (in_edit BadOption 1)
unfolding all
value_behind_item = refl

index_behind_all : meant_edits (codes "-ea" ∷ codes "(0008,1140)[0]" ∷ []) ≡ Err (in_edit BadOption 1)
unfolding all
index_behind_all = refl

path_behind_all : meant_edits (codes "-ma" ∷ codes "(0008,1140)[0].(0008,1155)=1" ∷ []) ≡ Err (in_edit BadOption 1)
unfolding all
path_behind_all = refl

no_index : meant_edits (codes "-e" ∷ codes "ReferencedImageSequence.ReferencedSOPInstanceUID" ∷ []) ≡ Err (in_edit BadOption 1)
unfolding all
no_index = refl

ten_digits : meant_edits (codes "-e" ∷ codes "ReferencedImageSequence[0000000000]" ∷ []) ≡ Err (in_edit BadOption 1)
unfolding all
ten_digits = refl

bracket_in_keyword : meant_edits (codes "-e" ∷ codes "Rows]" ∷ []) ≡ Err (in_edit BadOption 1)
unfolding all
bracket_in_keyword = refl

behind_the_bracket : meant_edits (codes "-e" ∷ codes "Rows[0]x" ∷ []) ≡ Err (in_edit BadOption 1)
unfolding all
behind_the_bracket = refl

-- any other name has the form of a keyword
other_keywords : meant_edits (codes "-e" ∷ codes "Foo-Bar" ∷ []) ≡ Err (in_edit UnknownTag 1)
unfolding all
other_keywords = refl

keyword_with_equals_sign : meant_edits (codes "-e" ∷ codes "A=1" ∷ []) ≡ Err (in_edit UnknownTag 1)
unfolding all
keyword_with_equals_sign = refl

outside_the_extract : meant_edits (codes "-m" ∷ codes "(0009,0010)=A" ∷ []) ≡ Err (in_edit UnknownTag 1)
unfolding all
outside_the_extract = refl

group_length : meant_edits (codes "-e" ∷ codes "(0008,0000)" ∷ []) ≡ Err (in_edit UnknownTag 1)
unfolding all
group_length = refl

no_keyword_of_item : meant_edits (codes "-e" ∷ codes "Item" ∷ []) ≡ Err (in_edit UnknownTag 1)
unfolding all
no_keyword_of_item = refl

-- every tag is looked up before the use of sequences is judged
tags_before_sequences : meant_edits (codes "-m" ∷ codes "Rows[0].Foo=1" ∷ []) ≡ Err (in_edit UnknownTag 1)
unfolding all
tags_before_sequences = refl

meta_element : meant_edits (codes "-i" ∷ codes "(0002,0010)=1" ∷ []) ≡ Err (in_edit MetaGroup 1)
unfolding all
meta_element = refl

meta_keyword : meant_edits (codes "-e" ∷ codes "TransferSyntaxUID" ∷ []) ≡ Err (in_edit MetaGroup 1)
unfolding all
meta_keyword = refl

unknown_meta_element : meant_edits (codes "-e" ∷ codes "(0002,9999)" ∷ []) ≡ Err (in_edit MetaGroup 1)
unfolding all
unknown_meta_element = refl

item_of_number : meant_edits (codes "-e" ∷ codes "Rows" ∷ codes "-e" ∷ codes "Rows[0]" ∷ []) ≡ Err (in_edit SequenceMisused 2)
unfolding all
item_of_number = refl

value_of_sequence : meant_edits (codes "-ma" ∷ codes "ReferencedImageSequence=1" ∷ []) ≡ Err (in_edit SequenceMisused 1)
unfolding all
value_of_sequence = refl

value_too_great : meant_edits (codes "-i" ∷ codes "Rows=70000" ∷ []) ≡ Err (in_edit ValueDoesNotFit 1)
unfolding all
value_too_great = refl

-- overlaps are judged behind all others
same_edit : meant_edits (codes "-m" ∷ codes "PatientID=7" ∷ codes "-m" ∷ codes "PatientID=7" ∷ []) ≡ Err (in_edit Overlap 2)
unfolding all
same_edit = refl

two_items : meant_edits (codes "-e" ∷ codes "ReferencedImageSequence[0]" ∷ codes "-e" ∷ codes "ReferencedImageSequence[1]" ∷ []) ≡ Err (in_edit Overlap 2)
unfolding all
two_items = refl

bad_before_overlap : meant_edits (codes "-e" ∷ codes "Rows" ∷ codes "-e" ∷ codes "Rows" ∷ codes "-x" ∷ []) ≡ Err (in_edit BadOption 3)
unfolding all
bad_before_overlap = refl

-- 64 edits, and no more
sixty_four_edits : meant_edits (replicate 64 (codes "-ep")) ≡ Ok (replicate 64 erase_private)
unfolding all
sixty_four_edits = refl

too_many_edits : meant_edits (replicate 64 (codes "-ep") ++ codes "-x" ∷ []) ≡ Err (in_edit TooMany 65)
unfolding all
too_many_edits = refl

dictionary_behind_all : meant_edits (replicate 64 (codes "-ep") ++ codes "+dict" ∷ []) ≡ Ok (replicate 64 erase_private)
unfolding all
dictionary_behind_all = refl

-- 64 indexes, and no more
sixty_four_indexes : length_of (meant_edits (codes "-e" ∷ (flat_map {X = ℕ} (λ n. codes "(0008,1140)[0].") (replicate 63 0) ++ codes "(0008,1140)[0]") ∷ [])) ≡ Ok 1
unfolding all
sixty_four_indexes = refl

too_many_indexes : meant_edits (codes "-e" ∷ (flat_map {X = ℕ} (λ n. codes "(0008,1140)[0].") (replicate 64 0) ++ codes "(0008,1140)[0]") ∷ []) ≡ Err (in_edit BadOption 1)
unfolding all
too_many_indexes = refl

-- ---- an output that is there is overwritten

abbrev overwriting : Job → Result Plan Usage
overwriting job = Ok (record { input = codes "in"; output = codes "out"; key = None; overwrites = true; days_by_key = false; job = job })

convert_over : meant (codes "dcmconv" ∷ codes "in" ∷ codes "+te" ∷ codes "+ow" ∷ codes "out" ∷ codes "+ow" ∷ []) ≡ overwriting (convert Extract (Some Little))
unfolding all
convert_over = refl

build_over : meant (codes "dump2dcm" ∷ codes "+ow" ∷ codes "in" ∷ codes "out" ∷ []) ≡ overwriting (build 4096)
unfolding all
build_over = refl

deidentify_over : meant (codes "dcmdeid" ∷ codes "in" ∷ codes "out" ∷ codes "+ow" ∷ []) ≡ overwriting (deidentify no_options true [])
unfolding all
deidentify_over = refl

modify_over : meant (codes "dcmodify" ∷ codes "-ep" ∷ codes "+ow" ∷ codes "in" ∷ codes "out" ∷ []) ≡ overwriting (modifies Extract (erase_private ∷ []))
unfolding all
modify_over = refl

modify_over_alone : meant (codes "dcmodify" ∷ codes "+ow" ∷ codes "in" ∷ codes "out" ∷ []) ≡ overwriting (modifies Extract [])
unfolding all
modify_over_alone = refl

modify_over_by_the_standard : meant (codes "dcmodify" ∷ codes "+ow" ∷ codes "+dict" ∷ codes "-ep" ∷ codes "in" ∷ codes "out" ∷ []) ≡ overwriting (modifies Standard (erase_private ∷ []))
unfolding all
modify_over_by_the_standard = refl

path_of_an_edit : meant (codes "dcmodify" ∷ codes "-e" ∷ codes "+ow" ∷ codes "in" ∷ codes "out" ∷ []) ≡ Err (InEdit UnknownTag 1)
unfolding all
path_of_an_edit = refl

over_among_paths : meant (codes "dcmodify" ∷ codes "-ep" ∷ codes "in" ∷ codes "+ow" ∷ []) ≡ Err (Whole WrongPaths)
unfolding all
over_among_paths = refl

over_as_a_limit : meant (codes "dump2dcm" ∷ codes "+l" ∷ codes "+ow" ∷ codes "in" ∷ codes "out" ∷ []) ≡ Err (AtWord BadOptionValue 2)
unfolding all
over_as_a_limit = refl

dump_over : meant (codes "dcmdump" ∷ codes "+ow" ∷ codes "in" ∷ []) ≡ Err (AtWord UnknownOption 2)
unfolding all
dump_over = refl

over_itself : meant (codes "dcmconv" ∷ codes "+ow" ∷ codes "a" ∷ codes "a" ∷ []) ≡ Err (Whole SamePath)
unfolding all
over_itself = refl

-- Where the elements of a data set stand, whole or as far as it was read, and which of them have lines of their own.
use Rattle.std.specs.Prelude.{◌≡◌, ℕ, ◌+◌, ◌*◌, Bool, true, not, ◌&&◌, List, [], ◌∷◌, ◌++◌, length, flat_map, false, if◌then◌else◌, codes}
use Rattle.std.specs.List.{All, list_any}
use Rattle.dcm_base.specs.declared.tag.Tag.{Tag}
use Rattle.dcm_base.specs.declared.dictionary.Dictionary.{Dictionary}
use Rattle.dcm_base.specs.declared.mode.Mode.{Mode}
use Rattle.dcm_base.specs.Tree.Tree.{Trees, no_tree, leaf, sequence, fragments, Items, no_item, item}
use Rattle.dcm_base.specs.Tree.Front.{Front, front, OpenTree, nothing_open, open_leaf, open_sequence, open_fragments}
use Rattle.dcm_base.specs.Tree.Front.{OpenItem, no_open_item, open_item}
use Rattle.dcm_base.specs.Dump.Dump.{dump_set, dump_open, dump_front}
use Rattle.dcm_base.specs.Dump.Header.{meta_header, set_header}
use Rattle.dcm_text.specs.declared.sets.Sets.{Sets}
use Rattle.dcm_sinks.specs.DecodedDump.{decoded_set, decoded_open, decoded_front}
use Rattle.dcm_sinks.specs.DecodedHeader.{decoded_header, decoded_set_header}
use Rattle.dcm_sinks.specs.InForce.{EMPTY, set_by, sets_after}
use Rattle.dcm_named.specs.Named.{Asked, Texts, by_bytes, by_characters, is_named, lines_of, piece, open_piece}
use Rattle.dcm_named.specs.Named.{named_set, named_front}

-- an element, or what was read of one
pub data Element : Type 0 where
  read_whole : Trees → Element
  read_so_far : OpenTree → Element

-- an element where it stands: what is in force in front of it, the sequences around it, of which the innermost stands
-- first, its tag, and itself with all that lies in it
pub record Spot : Type 0 where
  pub sets : Sets
  pub way : List Tag
  pub tag : Tag
  pub element : Element

abbrev pub spot : Sets → List Tag → Tag → Trees → Spot
spot sets way tag x = record { sets = sets; way = way; tag = tag; element = read_whole x }

abbrev pub open_spot : Sets → List Tag → Tag → OpenTree → Spot
open_spot sets way tag x = record { sets = sets; way = way; tag = tag; element = read_so_far x }

-- all elements of a data set, at any depth, in their order
unfoldable mutual
  pub spots : Sets → List Tag → Trees → List Spot
  spots sets way no_tree = []
  spots sets way (leaf tag vr value rest) =
      spot sets way tag (leaf tag vr value no_tree) ∷ spots (set_by tag vr value sets) way rest
  spots sets way (sequence tag vr size items rest) =
      spot sets way tag (sequence tag vr size items no_tree) ∷ (spots_of_items sets (tag ∷ way) items ++ spots sets way rest)
  spots sets way (fragments tag vr values rest) =
      spot sets way tag (fragments tag vr values no_tree) ∷ spots sets way rest

  pub spots_of_items : Sets → List Tag → Items → List Spot
  spots_of_items sets way no_item = []
  spots_of_items sets way (item size set rest) = spots sets way set ++ spots_of_items sets way rest

-- and all of one as far as it was read
unfoldable mutual
  pub front_spots : Sets → List Tag → Front → List Spot
  front_spots sets way (front whole last reached closed) =
      spots sets way whole ++ open_spots (sets_after sets whole) way last

  pub open_spots : Sets → List Tag → OpenTree → List Spot
  open_spots sets way nothing_open = []
  open_spots sets way (open_leaf tag vr size value) = open_spot sets way tag (open_leaf tag vr size value) ∷ []
  open_spots sets way (open_sequence tag vr size items last) =
      open_spot sets way tag (open_sequence tag vr size items last)
      ∷ (spots_of_items sets (tag ∷ way) items ++ open_item_spots sets (tag ∷ way) last)
  open_spots sets way (open_fragments tag vr values last) =
      open_spot sets way tag (open_fragments tag vr values last) ∷ []

  pub open_item_spots : Sets → List Tag → OpenItem → List Spot
  open_item_spots sets way no_open_item = []
  open_item_spots sets way (open_item size set) = front_spots sets way set

-- an element that is named, in no sequence that is named
abbrev pub has_own_lines : List Tag → Spot → Bool
has_own_lines tags a = is_named tags a.tag && not (list_any (is_named tags) a.way)

-- the lines of an element that is named, after the way to it
abbrev pub own_piece : Asked → Sets → List Tag → Element → List ℕ
own_piece q sets way (read_whole x) = piece q sets way x
own_piece q sets way (read_so_far x) = open_piece q sets way x

abbrev pub own_lines : Asked → Spot → List ℕ
own_lines q a = if has_own_lines q.tags a then own_piece q a.sets a.way a.element else []

-- some bytes are a part of others
pub record IsPart (part whole : List ℕ) : Type 0 where
  pub front : List ℕ
  pub behind : List ℕ
  pub split : whole ≡ front ++ (part ++ behind)

-- the lines of elements at a level
abbrev pub lines_at_by : Texts → Dictionary → Mode → Sets → ℕ → Trees → List ℕ
lines_at_by by_bytes d mode sets level x = dump_set d mode level x
lines_at_by by_characters d mode sets level x = decoded_set d mode sets level x

abbrev pub open_lines_at_by : Texts → Dictionary → Mode → Sets → ℕ → OpenTree → List ℕ
open_lines_at_by by_bytes d mode sets level x = dump_open d mode level x
open_lines_at_by by_characters d mode sets level x = decoded_open d mode sets level x

abbrev pub front_lines_at_by : Texts → Dictionary → Mode → Sets → ℕ → Front → List ℕ
front_lines_at_by by_bytes d mode sets level f = dump_front d mode level f
front_lines_at_by by_characters d mode sets level f = decoded_front d mode sets level f

abbrev pub front_lines_at : Asked → Sets → ℕ → Front → List ℕ
front_lines_at q sets level f = front_lines_at_by q.texts q.dictionary q.mode sets level f

-- the lines of one element at a level
abbrev pub lines_at : Asked → Sets → ℕ → Element → List ℕ
lines_at q sets level (read_whole x) = lines_at_by q.texts q.dictionary q.mode sets level x
lines_at q sets level (read_so_far x) = open_lines_at_by q.texts q.dictionary q.mode sets level x

-- its lines, at some level, are a part of what is written
pub record IsFound (q : Asked) (a : Spot) (written : List ℕ) : Type 0 where
  pub level : ℕ
  pub lies : IsPart (lines_at q a.sets level a.element) written

-- its lines, two levels deeper for each sequence around, are a part of the dump of all
pub record IsDumped (q : Asked) (outside : List Tag) (level : ℕ) (a : Spot) (dump : List ℕ) : Type 0 where
  pub at : ℕ
  pub deeper : at + 2 * length outside ≡ level + 2 * length a.way
  pub lies : IsPart (lines_at q a.sets at a.element) dump

-- each element that is named is in a line
abbrev pub AllAreFound : Type 0
AllAreFound = (q : Asked) (sets : Sets) (f : Front)
    → All (λ a. is_named q.tags a.tag ≡ true → IsFound q a (named_front q sets [] f)) (front_spots sets [] f)

-- all that is written is, in their order, the lines of the elements that have lines of their own
abbrev pub NoOtherLine : Type 0
NoOtherLine = (q : Asked) (sets : Sets) (f : Front)
    → named_front q sets [] f ≡ flat_map (own_lines q) (front_spots sets [] f)

-- such lines, at another level, are lines of the dump of all
abbrev pub AsInTheDump : Type 0
AsInTheDump = (q : Asked) (sets : Sets) (level : ℕ) (f : Front)
    → All (λ a. IsDumped q [] level a (front_lines_at q sets level f)) (front_spots sets [] f)

-- all outermost elements are named
unfoldable pub all_named : List Tag → Trees → Bool
all_named tags no_tree = true
all_named tags (leaf tag vr value rest) = is_named tags tag && all_named tags rest
all_named tags (sequence tag vr size items rest) = is_named tags tag && all_named tags rest
all_named tags (fragments tag vr values rest) = is_named tags tag && all_named tags rest

abbrev pub open_named : List Tag → OpenTree → Bool
open_named tags nothing_open = true
open_named tags (open_leaf tag vr size value) = is_named tags tag
open_named tags (open_sequence tag vr size items last) = is_named tags tag
open_named tags (open_fragments tag vr values last) = is_named tags tag

abbrev pub front_named : List Tag → Front → Bool
front_named tags (front whole last reached closed) = all_named tags whole && open_named tags last

-- where they are, and no way is asked for, the dump is written
abbrev pub AllOfTheDump : Type 0
AllOfTheDump = (q : Asked) (sets : Sets) (f : Front) → q.ways ≡ false → front_named q.tags f ≡ true
    → named_front q sets [] f ≡ front_lines_at q sets 0 f

-- the dump of a file with these meta elements
abbrev pub file_dump : Texts → Dictionary → Mode → Trees → (uid : List ℕ) → Front → List ℕ
file_dump by_bytes d mode elements uid f = meta_header d mode elements ++ set_header uid ++ dump_front d mode 0 f
file_dump by_characters d mode elements uid f = decoded_header d mode elements uid ++ decoded_front d mode EMPTY 0 f

-- of that, what stands before the lines of the meta elements, and between them and the lines of the data set: lines that
-- begin with #, and empty ones
abbrev pub first_line : Texts → List ℕ
first_line by_bytes = codes "# Dicom-File-Format"
first_line by_characters = codes "# Dicom-File-Format (texts in UTF-8)"

abbrev pub header_before : Texts → List ℕ
header_before texts = first_line texts ++ 10 ∷ 10 ∷ [] ++ codes "# Dicom-Meta-Information-Header" ++ 10 ∷ []
    ++ codes "# Used TransferSyntax: LittleEndianExplicit" ++ 10 ∷ []

abbrev pub header_between : Texts → (uid : List ℕ) → List ℕ
header_between by_bytes uid = 10 ∷ set_header uid
header_between by_characters uid = 10 ∷ decoded_set_header uid

-- the dump of a file is its header around the lines of its elements, and these lines are written
pub record IsWithoutHeader (q : Asked) (elements : Trees) (uid : List ℕ) (f : Front) : Type 0 where
  pub dumped : file_dump q.texts q.dictionary q.mode elements uid f
      ≡ header_before q.texts ++ lines_of q EMPTY elements ++ header_between q.texts uid ++ front_lines_at q EMPTY 0 f
  pub written : named_set q EMPTY [] elements ++ named_front q EMPTY [] f
      ≡ lines_of q EMPTY elements ++ front_lines_at q EMPTY 0 f

-- where all outermost elements of a file are named, those of its meta group too, and no way is asked for
abbrev pub AllOfTheFile : Type 0
AllOfTheFile = (q : Asked) (elements : Trees) (uid : List ℕ) (f : Front) → q.ways ≡ false
    → all_named q.tags elements ≡ true → front_named q.tags f ≡ true → IsWithoutHeader q elements uid f

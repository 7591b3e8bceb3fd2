-- What stands before the lines of a data set is valid UTF-8.
use Rattle.std.proofs.Common.{◌≡◌, sym, refl, subst, ℕ, List, [], ◌∷◌, ◌++◌, length, Option, None, Some, Bool, true, false, Result, Ok, Err}
use Rattle.std.specs.Prelude.{IsUtf8, codes, if◌then◌else◌}
use Rattle.std.specs.List.{list_all}
use Rattle.std.specs.Option.{option_map_or}
use Rattle.dcm_base.specs.declared.dictionary.Dictionary.{Dictionary}
use Rattle.dcm_base.specs.declared.mode.Mode.{Mode}
use Rattle.dcm_base.specs.declared.syntax.Coding.{Coding}
use Rattle.dcm_base.specs.declared.syntax.Syntax.{Syntax}
use Rattle.dcm_base.specs.declared.syntax.Syntax.TheVariants.{Implicit as implicit_in, Little as little_in, Big as big_in}
use Rattle.dcm_base.specs.declared.transfer.Deflated.{Deflated as DeflatedSyntax}
use Rattle.dcm_base.specs.File.MetaGroup.{GroupPlace, an_element, the_end, too_few, a_fault}
use Rattle.dcm_base.specs.File.MetaReads.{Meta, MetaReads, PREFIX, answer_behind, begins, coded, named, no_prefix, syntax_value, too_short, with_group}
use Rattle.dcm_base.specs.Tables.Syntax.{Little}
use Rattle.dcm_base.specs.Tables.Tag.{is_tag}
use Rattle.dcm_base.specs.Tables.Transfer.{before_pads, coding_of, is_pad, without_pads}
use Rattle.dcm_base.specs.Tables.Uid.{uid_name, uids}
use Rattle.dcm_base.specs.Tree.Tree.{Trees, no_tree, leaf, sequence, fragments}
use Rattle.dcm_base.proofs.DumpsBack.Texts.{Bytes}
use Rattle.dcm_head.specs.SyntaxUids.{uid_of_syntax}
use Rattle.dcm_table.proofs.ValidRows.{listed}
use Rattle.dcm_text.specs.declared.set.TextKind.TheVariants.{OneValue}
use Rattle.dcm_text.specs.Shown.{dumped}
use Rattle.dcm_text.proofs.Sound.{dump_utf8}
use Rattle.dcm_value.proofs.Displays.DecodedAsBefore.{low, low_name}
use Rattle.dcm_sinks.specs.InForce.{EMPTY}
use Rattle.dcm_sinks.specs.DecodedHeader.{decoded_meta_header, decoded_set_header, decoded_alone_header, decoded_syntax_name, used_syntax}
use Rattle.dcm_sinks.proofs.ReadBack.Sources.{bytes_parts}
use Rattle.dcm_text_laws.proofs.Lines.{both}
use Rattle.dcm_text_laws.proofs.Fronts.{OfBytes, set_utf8}
use Rattle.dcm_text_laws.proofs.Read.{trees_read}
use Rattle.dcm_value.proofs.Displays.DecodedUtf8.{low_utf8}

-- ---- headers

name_utf8 : (uid : List ℕ) → Bytes uid → IsUtf8 (decoded_syntax_name uid)
name_utf8 uid h = go (uid_name uid) refl
  where
    go : (o : Option (List ℕ)) → uid_name uid ≡ o → IsUtf8 (option_map_or (λ name. name) o (dumped EMPTY OneValue uid))
    go None e = dump_utf8 EMPTY OneValue uid (listed uid h)
    go (Some name) e = low_utf8 name (low_name uid name e)

used_utf8 : (uid : List ℕ) → Bytes uid → IsUtf8 (used_syntax uid)
used_utf8 uid h = both (both (low_utf8 (codes "# Used TransferSyntax: ") refl) (name_utf8 uid h)) (low_utf8 (10 ∷ []) refl)

pub set_header_utf8 : (uid : List ℕ) → Bytes uid → IsUtf8 (decoded_set_header uid)
set_header_utf8 uid h = both (both (low_utf8 (codes "# Dicom-Data-Set") refl) (low_utf8 (10 ∷ []) refl)) (used_utf8 uid h)

pub meta_header_utf8 : (d : Dictionary) (mode : Mode) (elements : Trees) → OfBytes elements → IsUtf8 (decoded_meta_header d mode elements)
meta_header_utf8 d mode elements h =
    both (both (both (both (both (both (both (low_utf8 (codes "# Dicom-File-Format (texts in UTF-8)") refl) (low_utf8 (10 ∷ 10 ∷ []) refl)) (low_utf8 (codes "# Dicom-Meta-Information-Header") refl)) (low_utf8 (10 ∷ []) refl))
    (low_utf8 (codes "# Used TransferSyntax: LittleEndianExplicit") refl)) (low_utf8 (10 ∷ []) refl)) (set_utf8 d mode EMPTY 0 elements h)) (low_utf8 (10 ∷ []) refl)

-- of a data set alone: its transfer syntax has a name
alone_low : (s : Syntax) → list_all low (decoded_alone_header (uid_of_syntax s)) ≡ true
unfolding uid_name uids
alone_low (implicit_in d) = refl
alone_low (little_in d) = refl
alone_low (big_in d) = refl

pub alone_header_utf8 : (s : Syntax) → IsUtf8 (decoded_alone_header (uid_of_syntax s))
alone_header_utf8 s = low_utf8 (decoded_alone_header (uid_of_syntax s)) (alone_low s)

-- ---- the head of a file

pads_bytes : (t : Bool) (b : ℕ) → Bytes (b ∷ []) → Bytes (if t then [] else b ∷ [])
pads_bytes true b h = tt
pads_bytes false b h = h

before_bytes : (b : ℕ) (rest : List ℕ) → Bytes (b ∷ []) → Bytes rest → Bytes (before_pads b rest)
before_bytes b [] h k = pads_bytes (is_pad b) b h
before_bytes b (c ∷ rest) h k = (h.0, k)

kept_bytes : (v : List ℕ) → Bytes v → Bytes (without_pads v)
unfolding without_pads
kept_bytes [] h = tt
kept_bytes (b ∷ v) h = before_bytes b (without_pads v) (h.0, tt) (kept_bytes v h.1)

syntax_bytes : (x : Trees) → OfBytes x → Bytes (syntax_value x)
syntax_bytes no_tree h = tt
syntax_bytes (leaf t vr v rest) h = go (is_tag 2 0x10 t) (syntax_bytes rest h.2)
  where
    go : (b : Bool) → Bytes (syntax_value rest) → Bytes (if b then v else syntax_value rest)
    go true k = h.1
    go false k = k
syntax_bytes (sequence t vr declared items rest) h = syntax_bytes rest h.2
syntax_bytes (fragments t vr values rest) h = syntax_bytes rest h.2

by_coding : (m meta : Meta) (group others : List ℕ) (coding : Coding) (r : Result Coding DeflatedSyntax) → begins m group coding ≡ coded meta others r → m ≡ meta
by_coding m meta group others coding (Ok c) e = cc
by_coding m meta group others coding (Err x) e = cc

by_uid : (m meta : Meta) (group others uid : List ℕ) (coding : Coding) → begins m group coding ≡ named meta others uid → m ≡ meta
by_uid m meta group others [] coding e = cc
by_uid m meta group others (b ∷ uid) coding e = by_coding m meta group others coding (coding_of meta.uid) e

abbrev meta_of : List ℕ → Trees → Meta
meta_of preamble elements = record { preamble = preamble; elements = elements; uid = without_pads (syntax_value elements) }

by_place : (m : Meta) (group : List ℕ) (coding : Coding) (size : ℕ) (preamble : List ℕ) (elements : Trees) (others : List ℕ) (behind : GroupPlace) → begins m group coding ≡ answer_behind size preamble elements others behind
    → m ≡ meta_of preamble elements
by_place m group coding size preamble elements others the_end e = by_uid m (meta_of preamble elements) group others (without_pads (syntax_value elements)) coding e
by_place m group coding size preamble elements others too_few e = cc
by_place m group coding size preamble elements others (a_fault fault) e = cc
by_place m group coding size preamble elements others (an_element tag vr head value) e = cc

-- its meta elements and its transfer syntax are of bytes
pub MetaOfBytes : Meta → Type 0
MetaOfBytes m = OfBytes m.elements × Bytes m.uid

pub head_read : (file : List ℕ) (m : Meta) (group : List ℕ) (coding : Coding) → MetaReads file (begins m group coding) → Bytes file → MetaOfBytes m
unfolding MetaOfBytes
head_read file m group coding (too_short few e) h = cc
head_read file m group coding (no_prefix preamble prefix bytes parts long four not e) h = cc
head_read file m group coding (with_group preamble bytes others elements behind parts long reads e) h =
    let same : m ≡ meta_of preamble elements = by_place m group coding (length file) preamble elements others behind e in
    let all : Bytes bytes = (bytes_parts PREFIX bytes (bytes_parts preamble (PREFIX ++ bytes) (subst Bytes parts h)).1).1 in
    let held : OfBytes elements = (trees_read Little elements others [] reads.spelled (bytes_parts others reads.rest (subst Bytes reads.parts all)).0).0 in
    subst (λ (x : Meta). OfBytes x.elements × Bytes x.uid) (sym same) (held, kept_bytes (syntax_value elements) (syntax_bytes elements held))

pub file_header_utf8 : (d : Dictionary) (mode : Mode) (m : Meta) → MetaOfBytes m → IsUtf8 (decoded_meta_header d mode m.elements ++ decoded_set_header m.uid)
unfolding MetaOfBytes
file_header_utf8 d mode m h = both (meta_header_utf8 d mode m.elements h.0) (set_header_utf8 m.uid h.1)

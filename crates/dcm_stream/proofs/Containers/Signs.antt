-- PixelRepresentation changes the syntax of its data set where it ends.
use Rattle.std.proofs.Common.{◌≡◌, ℕ, List, [], ◌∷◌, ◌++◌, take, Bool, true, false, if◌then◌else◌, Option, Some, None, refl, sym, ap, ◌∙◌}
use Rattle.dcm_base.proofs.Conversions.NormalForm.{own_dictionary}
use Rattle.dcm_base.specs.declared.tag.Tag.{Tag}
use Rattle.dcm_base.specs.declared.vr.Vr.{Vr}
use Rattle.dcm_base.specs.declared.dictionary.Dictionary.{Dictionary}
use Rattle.dcm_base.specs.declared.dictionary.Dictionary.TheVariants.{Extract, Standard, Signed}
use Rattle.dcm_base.specs.declared.syntax.Syntax.{Syntax}
use Rattle.dcm_base.specs.declared.length.Length.{Length}
use Rattle.dcm_base.specs.declared.level.Container.{Container}
use Rattle.dcm_base.specs.declared.level.Level.{Level}
use Rattle.dcm_base.specs.Tree.Tree.{Trees, no_tree, leaf}
use Rattle.dcm_base.specs.Tree.Value.{order}
use Rattle.dcm_base.specs.Tables.Dictionary.{if_signed}
use Rattle.dcm_base.specs.Tables.Syntax.{read_by, dictionary_of}
use Rattle.dcm_base.specs.Bytes.Spelling.{says_sign, is_one, sign_after, dictionary_after, after, after_trees}
use Rattle.dcm_base.specs.Reading.Place.{level, end_of}
use Rattle.dcm_base.proofs.DataSets.Path.{then_trees, Path, syntax_of, behind, item_length, after_then}
use Rattle.dcm_base.proofs.DataSets.Levels.{container_of, begin_of, around}
use Rattle.dcm_base.proofs.DataSets.Stops.{set_level}
use Rattle.dcm_stream.specs.Reading.{Sign, sign_of, sign_reads, sign_ends}
use Rattle.dcm_stream.proofs.Containers.SignBytes.{one_told, kept_more}

-- the set after trees more
pub set_then : (s : Syntax) (start : ℕ) (path : Path) (whole more : Trees)
    → set_level s start path (then_trees whole more) ≡ level (container_of path) (after_trees (behind s path whole) more) (item_length path) (begin_of s start path)
set_then s start path whole more = ap (λ (k : Syntax). level (container_of path) k (item_length path) (begin_of s start path)) (after_then (syntax_of s path) whole more)

-- what is read of a value so far
abbrev pub sign_so_far : Tag → Vr → List ℕ → Option Sign
sign_so_far tag vr bytes = sign_reads bytes (sign_of tag vr)

-- the dictionary after a value that says the sign, or does not
told_dictionary : (d : Dictionary) (tag : Tag) (vr : Vr) (value : List ℕ) (says : Bool) → says_sign tag ≡ says → dictionary_after d tag vr value ≡ (if says then if_signed (is_one vr value) d else d)
unfolding sign_after
told_dictionary Extract tag vr value true e = refl
told_dictionary Extract tag vr value false e = refl
told_dictionary Standard tag vr value says e = ap (λ (c : Bool). if c then if_signed (is_one vr value) Standard else Standard) e
told_dictionary Signed tag vr value says e = ap (λ (c : Bool). if c then if_signed (is_one vr value) Signed else Signed) e

-- a container, wherever it ends
abbrev pub level_with : Container → Syntax → Length → Option ℕ → Level
level_with container s declared end = record { container = container; syntax = s; declared = declared; end_offset = end }

module _ (container : Container) (declared : Length) (end : Option ℕ) (s : Syntax) (outer : List Level) (tag : Tag) (vr : Vr) (value : List ℕ) where
  ends_by : (says : Bool) → says_sign tag ≡ says
      → sign_ends (sign_reads (order s vr value) (if says then Some (record { vr = vr; first = [] }) else None)) (level_with container s declared end ∷ outer) ≡ level_with container (after s tag vr value) declared end ∷ outer
  ends_by true e =
      let one : if_signed (is_one vr (order s vr (take 8 (order s vr value)))) (dictionary_of s) ≡ dictionary_after (dictionary_of s) tag vr value =
      ap (λ (c : Bool). if_signed c (dictionary_of s)) (one_told s vr value) ∙ sym (told_dictionary (dictionary_of s) tag vr value true e) in
      ap (λ (d : Dictionary). level_with container (read_by d s) declared end ∷ outer) one
  ends_by false e = ap (λ (k : Syntax). level_with container k declared end ∷ outer) (sym (ap (λ (d : Dictionary). read_by d s) (told_dictionary (dictionary_of s) tag vr value false e) ∙ own_dictionary s))

  pub sign_told : sign_ends (sign_so_far tag vr (order s vr value)) (level_with container s declared end ∷ outer) ≡ level_with container (after s tag vr value) declared end ∷ outer
  sign_told = ends_by (says_sign tag) refl

-- a value that is read to its end
pub set_signed : (s : Syntax) (start : ℕ) (path : Path) (whole : Trees) (tag : Tag) (vr : Vr) (value : List ℕ)
    → sign_ends (sign_so_far tag vr (order (behind s path whole) vr value)) (set_level s start path whole ∷ around s start path)
    ≡ set_level s start path (then_trees whole (leaf tag vr value no_tree)) ∷ around s start path
set_signed s start path whole tag vr value =
    sign_told (container_of path) (item_length path) (end_of (item_length path) (begin_of s start path)) (behind s path whole) (around s start path) tag vr value
    ∙ ap (λ (x : Level). x ∷ around s start path) (sym (set_then s start path whole (leaf tag vr value no_tree)))

-- bytes come after bytes
pub reads_more : (xs ys : List ℕ) (sign : Option Sign) → sign_reads ys (sign_reads xs sign) ≡ sign_reads (xs ++ ys) sign
reads_more xs ys None = refl
reads_more xs ys (Some sign) = ap (λ (bytes : List ℕ). let o : Option Sign = Some (record { vr = sign.vr; first = bytes }) in o) (kept_more 8 sign.first xs ys)

nothing_reads_by : (says : Bool) (vr : Vr) → sign_reads [] (if says then Some (record { vr = vr; first = [] }) else None) ≡ (if says then Some (record { vr = vr; first = [] }) else None)
nothing_reads_by true vr = refl
nothing_reads_by false vr = refl

-- none came yet
pub none_read : (tag : Tag) (vr : Vr) → sign_so_far tag vr [] ≡ sign_of tag vr
none_read tag vr = nothing_reads_by (says_sign tag) vr

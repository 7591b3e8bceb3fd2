-- What the edit sink passes on of a token.
use Rattle.std.proofs.Common.{◌≡◌, ℕ, zero, suc, ◌<◌, List, [], ◌∷◌, ◌++◌, map, reverse, fold, Option, Some, None, Bool, false, refl, sym, ◌∙◌, ap, arith, inl, inr, ◌⊎◌}
use Rattle.std.specs.Prelude.{if◌then◌else◌}
use Rattle.std.specs.Borrow.{Bor}
use Rattle.std.specs.Io.KnownBytes.{append_known}
use Rattle.std.proofs.lemmas.List.{length-map}
use Rattle.dcm_lemmas.proofs.Options.{known_nothing}
use Rattle.dcm_base.specs.declared.tag.Tag.{Tag}
use Rattle.dcm_base.specs.declared.vr.Vr.{Vr}
use Rattle.dcm_base.specs.declared.length.Length.{Length}
use Rattle.dcm_base.specs.declared.syntax.Syntax.{Syntax}
use Rattle.dcm_base.specs.Tables.Syntax.{Little}
use Rattle.dcm_base.specs.Steps.Atoms.{Atom, opens, value_byte, closes_leaf, opens_item, closes_item, closes_sequence, opens_fragment, ends, trees_then}
use Rattle.dcm_base.specs.Steps.Steps.{outputs}
use Rattle.dcm_base.specs.Tree.Tree.{Trees}
use Rattle.dcm_base.proofs.DataSets.Row.{trees_then-append}
use Rattle.dcm_stream.specs.declared.sink.Sink.{Ghosts}
use Rattle.dcm_stream.specs.declared.token.Token.{Token}
use Rattle.dcm_stream.specs.declared.token.Token.TheVariants as tokens
use Rattle.dcm_stream.specs.Skip.{depth, opened, closed}
use Rattle.dcm_stream.specs.Tokens.{atoms_of}
use Rattle.dcm_edits.specs.Edit.{Edit}
use Rattle.dcm_edits.specs.Together.{first_fate}
use Rattle.dcm_edits.specs.NewOnes.{above_last, is_between}
use Rattle.dcm_editor.specs.EditSink.{State, next, passed, unless_dropped, new_ones, head_by, item_head_by}
use Rattle.dcm_editor.specs.Editing.{level_of, meant, asked_here, missing, erases_next, IsEnd}
use Rattle.dcm_editor.specs.Masks as masks
use Rattle.dcm_edits.specs.Meaning.{edit_of}
use Rattle.dcm_edits.specs.declared.edit.Edit.{Edit as AnEdit}
use Rattle.dcm_editor.specs.declared.editor.Editor.{Editor}
use Rattle.dcm_editor.proofs.Masks.Answering.{bytes_stay}

-- ---- where nothing is dropped

kept : (d : ℕ) (atoms : List Atom) → d ≡ 0 → unless_dropped d atoms ≡ atoms
kept d atoms e = ap (λ (n : ℕ). unless_dropped n atoms) e

-- the edits that are asked, by the number of levels
pub same_asked : {A : Type 0} (edits : List (AnEdit A)) (e : Editor) → (meant edits e).level.edits ≡ asked_here edits e
same_asked edits e = ap (λ (n : ℕ). masks.asked n e.level.mask 0 (map edit_of edits)) (length-map (reverse e.outermost_first.items) level_of)

new_then : (x : Trees) (atoms : List Atom) → trees_then Little x atoms ≡ trees_then Little x [] ++ atoms
new_then x atoms = trees_then-append Little x [] atoms

abbrev row_of : Trees → List Atom
row_of x = trees_then Little x []

pub head_passed : {A : Type 0} (edits : List (AnEdit A)) (e : Editor) (tag : Tag) (vr : Vr) (declared : Length) (syntax : Syntax) → depth e.skip ≡ 0
    → row_of (missing edits e (Some tag)) ++ head_by (first_fate (asked_here edits e) tag) tag (opens tag vr declared syntax) ≡ passed (meant edits e) (opens tag vr declared syntax)
head_passed edits e tag vr declared syntax none =
    let of = λ (es : List Edit). new_ones (is_between e.level.last tag) es (head_by (first_fate es tag) tag (opens tag vr declared syntax)) in
    sym (kept (depth e.skip) (of (meant edits e).level.edits) none ∙ ap of (same_asked edits e) ∙ new_then (missing edits e (Some tag)) (head_by (first_fate (asked_here edits e) tag) tag (opens tag vr declared syntax)))

pub item_passed : {A : Type 0} (edits : List (AnEdit A)) (e : Editor) (declared : Length) (b : Bool) → depth e.skip ≡ 0 → b ≡ erases_next edits e e.level.last → passed (meant edits e) (opens_item declared) ≡ (if b then [] else opens_item declared ∷ [])
item_passed edits e declared b none is =
    let of = λ (es : List Edit). item_head_by es e.level.last e.level.items (opens_item declared) in
    kept (depth e.skip) (of (meant edits e).level.edits) none ∙ ap of (same_asked edits e) ∙ by_last e.level.last is
  where
    by_last : (l : Option Tag) → b ≡ erases_next edits e l → item_head_by (asked_here edits e) l e.level.items (opens_item declared) ≡ (if b then [] else opens_item declared ∷ [])
    by_last None q = ap (λ (x : Bool). if x then [] else opens_item declared ∷ []) (sym q)
    by_last (Some tag) q = ap (λ (x : Bool). if x then [] else opens_item declared ∷ []) (sym q)

with_none : (a : Atom) (xs : List Atom) → xs ++ a ∷ [] ≡ (xs ++ a ∷ []) ++ []
with_none a [] = refl
with_none a (x ∷ xs) = ap (λ (ys : List Atom). x ∷ ys) (with_none a xs)

ending : {A : Type 0} (edits : List (AnEdit A)) (e : Editor) (a : Atom) → depth e.skip ≡ 0
    → row_of (missing edits e None) ++ a ∷ [] ≡ unless_dropped (depth e.skip) (new_ones (above_last e.level.last) (meant edits e).level.edits (a ∷ [])) ++ []
ending edits e a none =
    let of = λ (es : List Edit). new_ones (above_last e.level.last) es (a ∷ []) in
    with_none a (row_of (missing edits e None))
    ∙ ap (λ (xs : List Atom). xs ++ []) (sym (kept (depth e.skip) (of (meant edits e).level.edits) none ∙ ap of (same_asked edits e) ∙ new_then (missing edits e None) (a ∷ [])))

pub end_passed : {A : Type 0} (edits : List (AnEdit A)) (e : Editor) (atoms : List Atom) → depth e.skip ≡ 0 → IsEnd atoms → row_of (missing edits e None) ++ atoms ≡ outputs next passed (meant edits e) atoms
end_passed edits e atoms none (inl is) =
    ap (λ (xs : List Atom). row_of (missing edits e None) ++ xs) is ∙ ending edits e closes_item none ∙ ap (outputs next passed (meant edits e)) (sym is)
end_passed edits e atoms none (inr is) =
    ap (λ (xs : List Atom). row_of (missing edits e None) ++ xs) is ∙ ending edits e ends none ∙ ap (outputs next passed (meant edits e)) (sym is)

byte_then : (s : State) (b : ℕ) (xs ys : List Atom) → s.dropped ≡ 0 → xs ≡ ys → unless_dropped s.dropped (value_byte b ∷ []) ++ xs ≡ value_byte b ∷ ys
byte_then s b xs ys none e = ap (λ (as_is : List Atom). as_is ++ xs) (kept s.dropped (value_byte b ∷ []) none) ∙ ap (λ (zs : List Atom). value_byte b ∷ zs) e

pub bytes_passed : (s : State) (bytes : List ℕ) → s.dropped ≡ 0 → outputs next passed s (map value_byte bytes) ≡ map value_byte bytes
bytes_passed s [] none = refl
bytes_passed s (b ∷ bytes) none = byte_then s b _ _ none (bytes_passed s bytes none)

pub one_kept : (s : State) (a : Atom) → s.dropped ≡ 0 → unless_dropped s.dropped (a ∷ []) ++ [] ≡ a ∷ []
one_kept s a none = ap (λ (xs : List Atom). xs ++ []) (kept s.dropped (a ∷ []) none)

-- tokens of which edits ask nothing
abbrev pub IsUnasked : Token → Type 0
IsUnasked t = ((x : Bor (List ℕ)) × (t ≡ tokens.Bytes x)) ⊎ ((t ≡ tokens.CloseLeaf) ⊎ ((t ≡ tokens.CloseSeq) ⊎ ((n : ℕ) × (t ≡ tokens.OpenFragment n))))

pub as_they_are : (s : State) (t : Token) → s.dropped ≡ 0 → IsUnasked t → outputs next passed s (atoms_of t) ≡ atoms_of t
as_they_are s t none (inl h) =
    ap (λ (u : Token). outputs next passed s (atoms_of u)) h.1 ∙ bytes_passed s h.0.now none ∙ ap atoms_of (sym h.1)
as_they_are s t none (inr (inl h)) = ap (λ (u : Token). outputs next passed s (atoms_of u)) h ∙ one_kept s closes_leaf none ∙ ap atoms_of (sym h)
as_they_are s t none (inr (inr (inl h))) = ap (λ (u : Token). outputs next passed s (atoms_of u)) h ∙ one_kept s closes_sequence none ∙ ap atoms_of (sym h)
as_they_are s t none (inr (inr (inr h))) = ap (λ (u : Token). outputs next passed s (atoms_of u)) h.1 ∙ one_kept s (opens_fragment h.0) none ∙ ap atoms_of (sym h.1)

-- and the state stays as it is
abbrev pub dropped_as : State → ℕ → State
dropped_as s n = record { level = s.level; outer = s.outer; dropped = n; found = s.found }

abbrev after_token : State → Token → State
after_token s t = fold next s (atoms_of t)

pub nothing_changes : (s : State) (t : Token) → s.dropped ≡ 0 → IsUnasked t → s ≡ fold next s (atoms_of t)
nothing_changes s t none (inl h) = bytes_stay s h.0.now ∙ ap (after_token s) (sym h.1)
nothing_changes s t none (inr (inl h)) = ap (dropped_as s) (none ∙ ap closed (sym none)) ∙ ap (after_token s) (sym h)
nothing_changes s t none (inr (inr (inl h))) = ap (dropped_as s) (none ∙ ap closed (sym none)) ∙ ap (after_token s) (sym h)
nothing_changes s t none (inr (inr (inr h))) = ap (dropped_as s) (none ∙ ap (λ (n : ℕ). opened n false) (sym none)) ∙ ap (after_token s) (sym h.1)

-- ---- where something is

gone : (d : ℕ) (atoms more : List Atom) → 0 < d → more ≡ [] → unless_dropped d atoms ++ more ≡ []
gone zero atoms more l e = absurd (omega (arith, l))
gone (suc n) atoms more l e = e

bytes_gone : (s : State) (bytes : List ℕ) → 0 < s.dropped → outputs next passed s (map value_byte bytes) ≡ []
bytes_gone s [] l = refl
bytes_gone s (b ∷ bytes) l = gone s.dropped (value_byte b ∷ []) _ l (bytes_gone s bytes l)

pub nothing_passed : (s : State) (t : Token) → 0 < s.dropped → outputs next passed s (atoms_of t) ≡ []
nothing_passed s (tokens.Open head syntax) l = gone s.dropped _ [] l refl
nothing_passed s (tokens.Bytes bytes) l = bytes_gone s bytes.now l
nothing_passed s tokens.CloseLeaf l = gone s.dropped _ [] l refl
nothing_passed s (tokens.OpenItem declared) l = gone s.dropped _ [] l refl
nothing_passed s tokens.CloseItem l = gone s.dropped _ [] l refl
nothing_passed s tokens.CloseSeq l = gone s.dropped _ [] l refl
nothing_passed s (tokens.OpenFragment size) l = gone s.dropped _ [] l refl
nothing_passed s tokens.End l = gone s.dropped _ [] l refl

pub takes_nothing : {X : Type 0} (sink : Ghosts X) (old : X) (atoms : List Atom) → atoms ≡ []
    → (sink.state old ≡ fold sink.step (sink.state old) atoms) × (sink.contents old ≡ append_known (sink.contents old) (outputs sink.step sink.writes (sink.state old) atoms))
takes_nothing sink old atoms e =
    (ap (λ (xs : List Atom). fold sink.step (sink.state old) xs) (sym e), sym (known_nothing (sink.contents old)) ∙ ap (λ (xs : List Atom). append_known (sink.contents old) (outputs sink.step sink.writes (sink.state old) xs)) (sym e))

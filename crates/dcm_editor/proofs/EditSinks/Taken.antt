-- What a sink takes in parts.
use Rattle.std.proofs.Common.{◌≡◌, ℕ, List, [], ◌∷◌, ◌++◌, map, length, Result, Ok, ◌∙◌, ap, subst}
use Rattle.std.specs.Prelude.{fold, OnOk, IsErr}
use Rattle.std.proofs.lemmas.List.{append-nil}
use Rattle.std.specs.Io.KnownBytes.{append_known}
use Rattle.dcm_base.specs.declared.tag.Tag.{Tag}
use Rattle.dcm_base.specs.declared.vr.Vr.{Vr}
use Rattle.dcm_base.specs.declared.length.Length.TheVariants.{Known}
use Rattle.dcm_base.specs.Tables.Syntax.{Little}
use Rattle.dcm_base.specs.Steps.Atoms.{Atom, opens, value_byte, closes_leaf, trees_then}
use Rattle.dcm_devices.specs.Device.{Puts, AppendsFront}
use Rattle.dcm_base.specs.Steps.Steps.{outputs}
use Rattle.dcm_base.specs.Tree.Tree.{no_tree, leaf}
use Rattle.dcm_base.proofs.Writes.Runs.{goes_of, goes_on, goes_failed}
use Rattle.dcm_stream.specs.declared.sink.Sink.{Ghosts}
use Rattle.dcm_stream.specs.Sinks.{Takes}

module _ {X : Type 0} (sink : Ghosts X) where
  -- what goes out over a row of atoms
  abbrev pub writes_of : X → List Atom → List ℕ
  writes_of old atoms = outputs sink.step sink.writes (sink.state old) atoms

  -- a token, by its two clauses
  pub token_taken : {T E : Type 0} (old new : X) (atoms : List Atom) (r : Result T E) → OnOk r (sink.state new ≡ fold sink.step (sink.state old) atoms) → Puts (sink.contents old) (sink.contents new) (writes_of old atoms) r → Takes sink old new atoms r
  token_taken old new atoms r a b = goes_of sink.step sink.writes (sink.state old) (sink.contents old) (sink.state new) (sink.contents new) atoms r a b

  -- it took these atoms
  abbrev pub Took : X → X → List Atom → Type 0
  Took old new atoms = (sink.state new ≡ fold sink.step (sink.state old) atoms) × (sink.contents new ≡ append_known (sink.contents old) (writes_of old atoms))

  -- one part and then another
  pub then_taken : {T E : Type 0} (old mid new : X) (first rest : List Atom) (r : Result T E) → Took old mid first → Takes sink mid new rest r → Takes sink old new (first ++ rest) r
  then_taken old mid new first rest r a b =
      goes_on sink.step sink.writes (sink.state old) (sink.contents old) (sink.state mid) (sink.contents mid) (sink.state new) (sink.contents new) first rest r a.0 a.1 b

  pub both_taken : (old mid new : X) (first rest : List Atom) → Took old mid first → Took mid new rest → Took old new (first ++ rest)
  both_taken old mid new first rest a b = then_taken {T = Unit {0}} {E = Unit {0}} old mid new first rest (Ok tt) a b

  -- a failure in the first part
  pub failed_taken : {T E : Type 0} (old new : X) (first rest : List Atom) (r : Result T E) → IsErr r → AppendsFront (sink.contents old) (sink.contents new) (writes_of old first) → Takes sink old new (first ++ rest) r
  failed_taken old new first rest r e h = goes_failed sink.step sink.writes (sink.state old) (sink.contents old) (sink.state new) (sink.contents new) first rest r e h

  pub all_failed : {T E : Type 0} (old new : X) (atoms : List Atom) (r : Result T E) → IsErr r → AppendsFront (sink.contents old) (sink.contents new) (writes_of old atoms) → Takes sink old new atoms r
  all_failed {T} {E} old new atoms r e h = subst (λ (xs : List Atom). Takes sink old new xs r) (append-nil atoms) (failed_taken {T = T} {E = E} old new atoms [] r e h)

-- ---- the atoms of a value

abbrev pub leaf_row : Tag → Vr → ℕ → List ℕ → List Atom
leaf_row tag vr size value = opens tag vr (Known size) Little ∷ (map value_byte value ++ closes_leaf ∷ [])

pub leaf_atoms : (tag : Tag) (vr : Vr) (size : ℕ) (bytes value : List ℕ) → size ≡ length value → bytes ≡ value → leaf_row tag vr size bytes ≡ trees_then Little (leaf tag vr value no_tree) []
unfolding trees_then
leaf_atoms tag vr size bytes value e f = ap (λ (n : ℕ). leaf_row tag vr n bytes) e ∙ ap (λ (xs : List ℕ). leaf_row tag vr (length value) xs) f

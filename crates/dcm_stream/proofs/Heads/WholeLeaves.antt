-- An element whose value is whole in a piece.
use Rattle.std.proofs.Common.{◌≡◌, ◌∙◌, ap, subst, ℕ, ◌+◌, List, [], length, Bool, Option, Some, None, Result, cond}
use Rattle.std.specs.Prelude.{fold, IsErrAnd}
use Rattle.std.specs.Io.KnownBytes.{append_known}
use Rattle.std.proofs.lemmas.List.{append-nil}
use Rattle.dcm_base.specs.Steps.Atoms.{Atom}
use Rattle.dcm_base.specs.Steps.Steps.{outputs}
use Rattle.dcm_devices.specs.Device.{AppendsFront}
use Rattle.dcm_base.specs.Reading.Stop.{Stop}
use Rattle.dcm_base.specs.declared.stopped.Stopped.TheVariants.{Output}
use Rattle.dcm_stream.specs.declared.cursor.Cursor.{Cursor}
use Rattle.dcm_stream.specs.declared.whole_leaf.WholeLeaf.{WholeLeaf}
use Rattle.dcm_stream.specs.declared.judge.Opening.{Opening}
use Rattle.dcm_stream.specs.Halts.{Halt}
use Rattle.dcm_stream.specs.Judging.{opened_sign}
use Rattle.dcm_stream.specs.Machine.{Comes, settles, held_sign}
use Rattle.dcm_stream.specs.Reading.{Reading, Sign, settled}
use Rattle.dcm_stream.specs.Tokens.{whole_atoms}
use Rattle.dcm_stream.specs.WholeLeaf.{IsWhole, reads_leaf}
use Rattle.dcm_stream.proofs.Runs.Parts.{opened, comes_behind, fails_behind}

-- it opens no sign
pub no_sign_opened : (o : Opening) (leaf : WholeLeaf) → IsWhole o leaf → opened_sign o ≡ None
no_sign_opened o leaf w =
    ap opened_sign w.opens
    ∙ ap (λ (t : Bool). cond {A = Option Sign} t (Some (record { vr = leaf.head.vr; first = [] })) None) w.no_sign

module _ {S : Type 0} (step : S → Atom → S) (writes : S → Atom → List ℕ) where
  abbrev atoms_in : WholeLeaf → List Atom
  atoms_in leaf = whole_atoms leaf.head leaf.syntax leaf.value.now

  -- the output failed in it
  pub leaf_failed : {T : Type 0} (p : Cursor) (leaf : WholeLeaf) (s : S) (held : Option (List ℕ)) (t : S) (holds : Option (List ℕ)) (new : Option Stop → Reading) (r : Result T Halt)
      → IsErrAnd r (λ h. h ≡ Output) → AppendsFront held holds (outputs step writes s (atoms_in leaf)) → Comes step writes s held t holds new (reads_leaf p leaf) r
  leaf_failed p leaf s held t holds new r e h =
      let at : ℕ = p.position + length leaf.value.now in
      subst (λ (atoms : List Atom). Comes step writes s held t holds new (settled at (opened p.levels 0 None atoms) 0) r) (append-nil (atoms_in leaf))
      (fails_behind step writes at 0 p.levels None s held t holds new (atoms_in leaf) [] r e h)

  -- it was taken, and the place behind it settles
  pub leaf_came : {T : Type 0} (p behind : Cursor) (leaf : WholeLeaf) (s : S) (held : Option (List ℕ)) (m : S) (mid : Option (List ℕ)) (t : S) (holds : Option (List ℕ)) (new : Option Stop → Reading) (r : Result T Halt)
      → held_sign behind ≡ None → behind.position ≡ p.position + length leaf.value.now → behind.levels ≡ p.levels
      → m ≡ fold step s (atoms_in leaf) → mid ≡ append_known held (outputs step writes s (atoms_in leaf)) → Comes step writes m mid t holds new (settles behind) r
      → Comes step writes s held t holds new (reads_leaf p leaf) r
  leaf_came p behind leaf s held m mid t holds new r none place levels a b h =
      let at : ℕ = p.position + length leaf.value.now in
      let same : settles behind ≡ settled at (opened p.levels 0 None []) 0 =
      ap (λ (n : ℕ). settled n (opened behind.levels 0 (held_sign behind) []) 0) place
      ∙ ap (λ ls. settled at (opened ls 0 (held_sign behind) []) 0) levels
      ∙ ap (λ (x : Option Sign). settled at (opened p.levels 0 x []) 0) none in
      subst (λ (atoms : List Atom). Comes step writes s held t holds new (settled at (opened p.levels 0 None atoms) 0) r) (append-nil (atoms_in leaf))
      (comes_behind step writes at 0 p.levels None s held m mid t holds new (atoms_in leaf) [] r a b (subst (λ z. Comes step writes m mid t holds new z r) same h))

-- What is judged of an element that lies whole in a piece.
use Rattle.std.proofs.Common.{◌≡◌, ◌∙◌, sym, ap, subst, refl, ℕ, ◌+◌, ◌-◌, ◌≤◌, ◌<◌, List, [], ◌∷◌, ◌++◌, length, take, drop, Bool, false, cond, Option, Some, None, Result, Ok, arith, length-drop}
use Rattle.std.specs.Prelude.{fold}
use Rattle.std.proofs.lemmas.List.{append-nil}
use Rattle.std.proofs.lemmas.List.Sums.{fold-append}
use Rattle.std.proofs.Math.Seq.{take-add}
use Rattle.dcm_lemmas.proofs.Options.{some_same}
use Rattle.dcm_base.specs.declared.syntax.Syntax.{Syntax}
use Rattle.dcm_base.specs.declared.level.Level.{Level}
use Rattle.dcm_base.specs.Bytes.Spelling.{says_sign}
use Rattle.dcm_base.specs.Steps.Atoms.{Atom, opens}
use Rattle.dcm_base.specs.Steps.Steps.{outputs}
use Rattle.dcm_base.specs.Reading.Stop.{Stop}
use Rattle.dcm_base.specs.Reading.Reads.{INPUT_LIMIT}
use Rattle.dcm_base.proofs.Writes.Runs.{outputs-append}
use Rattle.dcm_head.specs.declared.head.Head.{Head}
use Rattle.dcm_stream.specs.declared.token.Bar.{Bar}
use Rattle.dcm_stream.specs.declared.judge.Judged.{Judged}
use Rattle.dcm_stream.specs.declared.judge.Judged.TheVariants as judge
use Rattle.dcm_stream.specs.declared.judge.Opening.{Opening}
use Rattle.dcm_stream.specs.declared.judge.Opening.TheVariants as opening
use Rattle.dcm_stream.specs.declared.cursor.Cursor.{Cursor}
use Rattle.dcm_stream.specs.declared.whole_leaf.WholeLeaf.{WholeLeaf}
use Rattle.dcm_stream.specs.WholeLeaf.{IsFront, IsWhole}
use Rattle.dcm_stream.specs.Halts.{Halt}
use Rattle.dcm_stream.specs.Places.{innermost}
use Rattle.dcm_stream.specs.Reading.{Reading, Sign, sign_of, sign_ends, settled}
use Rattle.dcm_stream.specs.Judging.{bars_head, Judges}
use Rattle.dcm_stream.specs.Machine.{reading, Comes, Feeds, steps, steps_write, value_read}
use Rattle.dcm_stream.specs.Tokens.{whole_atoms}
use Rattle.dcm_stream.proofs.Runs.Parts.{opened, in_value, feeds_value, feeds_bytes}
use Rattle.dcm_stream.proofs.Heads.PieceHeads.{piece_opens, piece_fits}

module _ {S : Type 0} (bars : S → Head → Option Bar) (step : S → Atom → S) (writes : S → Atom → List ℕ) (p : Cursor) (inner : Level) (s : S) (bytes : List ℕ)
    (head : p.head.items ≡ []) (left : p.left ≡ 0) (within : p.position + length bytes ≤ INPUT_LIMIT) (is : innermost p.levels ≡ Some inner) where
  abbrev whole_read : Head → Syntax → ℕ → List ℕ → Reading × List Atom
  whole_read h syntax at value = settled (at + length value) (opened p.levels 0 None (whole_atoms h syntax value)) 0

  no_sign : (h : Head) → says_sign h.tag ≡ false → sign_of h.tag h.vr ≡ None
  no_sign h e = ap (λ (t : Bool). cond {A = Option Sign} t (Some (record { vr = h.vr; first = [] })) None) e

  -- its head and its bytes, in the value's cases
  leaf_by : {T : Type 0} (held : Option (List ℕ)) (t : S) (holds : Option (List ℕ)) (new : Option Stop → Reading) (judged : Judged) (h : Head) (syntax : Syntax) (value : List ℕ) (size : ℕ) (r : Result T Halt)
      → Judges (bars_head bars s) inner p.levels p.position bytes judged → judged ≡ judge.Opens (opening.Leaf h syntax (length value)) size → says_sign h.tag ≡ false → size + length value ≤ length bytes
      → Comes step writes s held t holds new (whole_read h syntax (p.position + size) value) r → Feeds bars step writes (reading p None) s held new t holds (take size bytes ++ value) r
  leaf_by held t holds new judged h syntax [] size r j e unsigned fits c =
      let at : ℕ = p.position + size in
      let place : at + 0 ≡ at = omega arith in
      let here = subst (λ (n : ℕ). Comes step writes s held t holds new (settled n (opened p.levels 0 None (whole_atoms h syntax [])) 0) r) place c in
      let signed = subst (λ (x : Option Sign). Comes step writes s held t holds new (settled at (opened (sign_ends x p.levels) 0 None (whole_atoms h syntax [])) 0) r) (sym (no_sign h unsigned)) here in
      subst (λ (bs : List ℕ). Feeds bars step writes (reading p None) s held new t holds bs r) (sym (append-nil (take size bytes)))
      (piece_opens bars step writes p inner s bytes head left within is held t holds new judged (opening.Leaf h syntax 0) size r j e signed)
  leaf_by held t holds new judged h syntax (b ∷ bs) size r j e unsigned fits c =
      let at : ℕ = p.position + size in
      let v : List ℕ = b ∷ bs in
      let n : ℕ = length v in
      let atom : Atom = opens h.tag h.vr h.length syntax in
      let m : S = step s atom in
      let mid : Reading = in_value bars step writes at n None p.levels in
      let opens_value : mid ≡ in_value bars step writes at n (sign_of h.tag h.vr) p.levels = ap (λ (x : Option Sign). in_value bars step writes at n x p.levels) (sym (no_sign h unsigned)) in
      let first : Feeds {T = Unit {0}} bars step writes (reading p None) s (Some []) (λ _. mid) m (Some (writes s atom ++ [])) (take size bytes) (Ok tt) =
      piece_opens bars step writes p inner s bytes head left within is {T = Unit {0}} (Some []) m (Some (writes s atom ++ [])) (λ _. mid) judged (opening.Leaf h syntax n) size (Ok tt) j e (opens_value, refl, refl) in
      let q : Reading × List Atom = value_read mid (n - n) v in
      let then : Feeds {T = Unit {0}} bars step writes mid m (Some []) (λ _. q.0) (fold step m q.1) (Some (outputs step writes m q.1)) v (Ok tt) =
      feeds_value bars step writes {T = Unit {0}} at n None p.levels m (Some []) (fold step m q.1) (Some (outputs step writes m q.1)) (λ _. q.0) v (Ok tt) (omega arith) (omega arith) (omega (arith, within, fits)) (refl, refl, refl) in
      let none : n - n ≡ 0 = omega arith in
      let none_left : q ≡ value_read mid 0 v = ap (λ (k : ℕ). value_read mid k v) none in
      let all : Reading × List Atom = whole_read h syntax at v in
      let folds : fold (steps bars step) (reading p None, s) (take size bytes ++ v) ≡ (all.0, fold step s all.1) =
      fold-append (steps bars step) (reading p None, s) (take size bytes) v
      ∙ ap (λ (z : Reading × S). fold (steps bars step) z v) (sym first.0)
      ∙ sym then.0
      ∙ ap (λ (z : Reading × List Atom). (z.0, fold step m z.1)) none_left in
      let outs : outputs (steps bars step) (steps_write bars step writes) (reading p None, s) (take size bytes ++ v) ≡ outputs step writes s all.1 =
      outputs-append (steps bars step) (steps_write bars step writes) (reading p None, s) (take size bytes) v
      ∙ ap (λ (z : Reading × S). outputs (steps bars step) (steps_write bars step writes) (reading p None, s) (take size bytes) ++ outputs (steps bars step) (steps_write bars step writes) z v) (sym first.0)
      ∙ ap (λ (zs : List ℕ). zs ++ outputs (steps bars step) (steps_write bars step writes) (mid, m) v) (sym (some_same (writes s atom ++ []) (outputs (steps bars step) (steps_write bars step writes) (reading p None, s) (take size bytes)) first.1) ∙ append-nil (writes s atom))
      ∙ ap (λ (zs : List ℕ). writes s atom ++ zs) (sym (some_same (outputs step writes m q.1) (outputs (steps bars step) (steps_write bars step writes) (mid, m) v) then.1))
      ∙ ap (λ (z : Reading × List Atom). writes s atom ++ outputs step writes m z.1) none_left in
      feeds_bytes bars step writes (reading p None) s held t holds new (take size bytes ++ v) all r folds outs c

  -- the same, as a part of the bytes
  piece_leaf : {T : Type 0} (held : Option (List ℕ)) (t : S) (holds : Option (List ℕ)) (new : Option Stop → Reading) (judged : Judged) (h : Head) (syntax : Syntax) (value : List ℕ) (size : ℕ) (r : Result T Halt)
      → Judges (bars_head bars s) inner p.levels p.position bytes judged → judged ≡ judge.Opens (opening.Leaf h syntax (length value)) size → says_sign h.tag ≡ false
      → length value ≤ length (drop size bytes) → take (length value) (drop size bytes) ≡ value
      → Comes step writes s held t holds new (whole_read h syntax (p.position + size) value) r → Feeds bars step writes (reading p None) s held new t holds (take (size + length value) bytes) r
  piece_leaf held t holds new judged h syntax value size r j e unsigned fits front c =
      let head_fits = piece_fits bars step writes p inner s bytes head left within is judged (opening.Leaf h syntax (length value)) size j e in
      let long : length (drop size bytes) ≡ length bytes - size = length-drop size bytes in
      let same : take (size + length value) bytes ≡ take size bytes ++ value = take-add size (length value) bytes ∙ ap (λ (zs : List ℕ). take size bytes ++ zs) front in
      subst (λ (bs : List ℕ). Feeds bars step writes (reading p None) s held new t holds bs r) (sym same)
      (leaf_by held t holds new judged h syntax value size r j e unsigned (omega (arith, head_fits.1, long, fits)) c)

  -- a leaf that was found in them
  pub leaf_fits : (judged : Judged) (o : Opening) (leaf : WholeLeaf) (size : ℕ) (rest : List ℕ) → Judges (bars_head bars s) inner p.levels p.position bytes judged → judged ≡ judge.Opens o size
      → IsFront leaf.value.now rest → rest ≡ drop size bytes → (0 < size + length leaf.value.now) × (size + length leaf.value.now ≤ length bytes)
  leaf_fits judged o leaf size rest j e front back =
      let head_fits = piece_fits bars step writes p inner s bytes head left within is judged o size j e in
      let long : length rest ≡ length bytes - size = ap length back ∙ length-drop size bytes in
      (omega (arith, head_fits.0), omega (arith, head_fits.1, long, front.fits))

  pub leaf_read : {T : Type 0} (held : Option (List ℕ)) (t : S) (holds : Option (List ℕ)) (new : Option Stop → Reading) (judged : Judged) (o : Opening) (leaf : WholeLeaf) (size : ℕ) (rest : List ℕ) (r : Result T Halt)
      → Judges (bars_head bars s) inner p.levels p.position bytes judged → judged ≡ judge.Opens o size → IsWhole o leaf → IsFront leaf.value.now rest → rest ≡ drop size bytes
      → Comes step writes s held t holds new (whole_read leaf.head leaf.syntax (p.position + size) leaf.value.now) r → Feeds bars step writes (reading p None) s held new t holds (take (size + length leaf.value.now) bytes) r
  leaf_read held t holds new judged o leaf size rest r j e whole front back c =
      let fits : length leaf.value.now ≤ length (drop size bytes) = subst (λ (zs : List ℕ). length leaf.value.now ≤ length zs) back front.fits in
      let same : take (length leaf.value.now) (drop size bytes) ≡ leaf.value.now = ap (take (length leaf.value.now)) (sym back) ∙ front.front in
      piece_leaf held t holds new judged leaf.head leaf.syntax leaf.value.now size r j (e ∙ ap (λ (x : Opening). judge.Opens x size) whole.opens) whole.no_sign fits same c

-- What a head opens or closes is entered.
use Rattle.std.proofs.Common.{None, ◌≡◌, ◌∙◌, sym, ap, subst, refl, ℕ, List, [], ◌∷◌, drop, ◌⊎◌, inl, inr, Option, Result}
use Rattle.std.specs.Prelude.{fold, IsErrAnd}
use Rattle.std.specs.Io.KnownBytes.{append_known}
use Rattle.dcm_base.specs.declared.syntax.Syntax.{Syntax}
use Rattle.dcm_base.specs.declared.level.Level.{Level}
use Rattle.dcm_base.specs.declared.length.Length.TheVariants.{Undefined}
use Rattle.dcm_base.specs.declared.level.Container.TheVariants.{Item as an_item, Sequence as a_sequence, FragmentList as a_fragment_list}
use Rattle.dcm_base.specs.Reading.Place.{level}
use Rattle.dcm_base.specs.Bytes.Spelling.{inside}
use Rattle.dcm_base.specs.Steps.Atoms.{Atom}
use Rattle.dcm_devices.specs.Device.{AppendsFront}
use Rattle.dcm_base.specs.Steps.Steps.{outputs}
use Rattle.dcm_base.specs.Reading.Stop.{Stop}
use Rattle.dcm_head.specs.declared.head.Head.{Head}
use Rattle.dcm_stream.specs.declared.judge.Opening.{Opening}
use Rattle.dcm_stream.specs.declared.judge.Opening.TheVariants as opening
use Rattle.dcm_stream.specs.declared.cursor.Cursor.{Cursor}
use Rattle.dcm_stream.specs.Halts.{Halt}
use Rattle.dcm_base.specs.declared.stopped.Stopped.TheVariants.{Output}
use Rattle.dcm_stream.specs.Reading.{Reading, Opened, closing, settled, Sign, sign_of, left_levels, left_sign, value_left, without_value}
use Rattle.dcm_stream.specs.Judging.{opening_atom, opened_by, opened_sign, OpensValue, LeadsTo}
use Rattle.dcm_stream.specs.Machine.{Comes, settles, entered, held_sign}
use Rattle.dcm_stream.proofs.Runs.Parts.{comes_behind, fails_behind}

-- a value that is opened
pub value_opened : (o : Opening) (size : ℕ) → OpensValue o size → ((head : Head) × (syntax : Syntax) × (o ≡ opening.Leaf head syntax size)) ⊎ (o ≡ opening.Fragment size)
value_opened (opening.Leaf head s n) size e = inl (head, s, ap (opening.Leaf head s) e)
value_opened (opening.Fragment n) size e = inr (ap opening.Fragment e)
value_opened (opening.Sequence head s) size e = absurd e
value_opened (opening.FragmentList head s) size e = absurd e
value_opened (opening.Item s declared) size e = absurd e
value_opened (opening.End container) size e = absurd e

-- what is open after the head or the end of a container
pub led_to : (begin : ℕ) (levels : List Level) (o : Opening) (behind : List Level) → LeadsTo begin levels o behind → opened_by begin levels o ≡ without_value behind (opening_atom o)
led_to begin levels (opening.Leaf head s size) behind e = absurd e
led_to begin levels (opening.Sequence head s) behind e = e
led_to begin levels (opening.FragmentList head s) behind e = e
led_to begin levels (opening.Item s declared) behind e = e
led_to begin levels (opening.Fragment size) behind e = absurd e
led_to begin levels (opening.End container) behind e = e

-- it opens no sign
pub no_sign_led : (begin : ℕ) (levels : List Level) (o : Opening) (behind : List Level) → LeadsTo begin levels o behind → opened_sign o ≡ None
no_sign_led begin levels (opening.Leaf head s size) behind e = absurd e
no_sign_led begin levels (opening.Sequence head s) behind e = refl
no_sign_led begin levels (opening.FragmentList head s) behind e = refl
no_sign_led begin levels (opening.Item s declared) behind e = refl
no_sign_led begin levels (opening.Fragment size) behind e = absurd e
no_sign_led begin levels (opening.End container) behind e = refl

module _ {S : Type 0} (step : S → Atom → S) (writes : S → Atom → List ℕ) where
  -- the output failed at the head
  pub fails_enter : {T : Type 0} (position : ℕ) (levels : List Level) (o : Opening) (s : S) (held : Option (List ℕ)) (t : S) (holds : Option (List ℕ)) (new : Option Stop → Reading) (token : List Atom) (r : Result T Halt)
      → token ≡ opening_atom o ∷ [] → IsErrAnd r (λ h. h ≡ Output) → AppendsFront held holds (outputs step writes s token) → Comes step writes s held t holds new (entered position (opened_by position levels o)) r
  fails_enter position levels (opening.Leaf head syntax size) s held t holds new token r e f h =
      fails_behind step writes position size (left_levels size (sign_of head.tag head.vr) levels) (left_sign size (sign_of head.tag head.vr)) s held t holds new (opening_atom (opening.Leaf head syntax size) ∷ []) (closing size) r f (subst (λ (xs : List Atom). AppendsFront held holds (outputs step writes s xs)) e h)
  fails_enter position levels (opening.Sequence head syntax) s held t holds new token r e f h =
      fails_behind step writes position 0 (level a_sequence (inside syntax head.vr) head.length position ∷ levels) None s held t holds new (opening_atom (opening.Sequence head syntax) ∷ []) [] r f (subst (λ (xs : List Atom). AppendsFront held holds (outputs step writes s xs)) e h)
  fails_enter position levels (opening.FragmentList head syntax) s held t holds new token r e f h =
      fails_behind step writes position 0 (level a_fragment_list syntax Undefined position ∷ levels) None s held t holds new (opening_atom (opening.FragmentList head syntax) ∷ []) [] r f (subst (λ (xs : List Atom). AppendsFront held holds (outputs step writes s xs)) e h)
  fails_enter position levels (opening.Item syntax declared) s held t holds new token r e f h =
      fails_behind step writes position 0 (level an_item syntax declared position ∷ levels) None s held t holds new (opening_atom (opening.Item syntax declared) ∷ []) [] r f (subst (λ (xs : List Atom). AppendsFront held holds (outputs step writes s xs)) e h)
  fails_enter position levels (opening.Fragment size) s held t holds new token r e f h =
      fails_behind step writes position size (left_levels size None levels) (left_sign size None) s held t holds new (opening_atom (opening.Fragment size) ∷ []) (closing size) r f (subst (λ (xs : List Atom). AppendsFront held holds (outputs step writes s xs)) e h)
  fails_enter position levels (opening.End container) s held t holds new token r e f h =
      fails_behind step writes position 0 (drop 1 levels) None s held t holds new (opening_atom (opening.End container) ∷ []) [] r f (subst (λ (xs : List Atom). AppendsFront held holds (outputs step writes s xs)) e h)

  -- a value is to come
  pub enters_value : {T : Type 0} (position : ℕ) (levels : List Level) (o : Opening) (size : ℕ) (s : S) (held : Option (List ℕ)) (m : S) (mid : Option (List ℕ)) (t : S) (holds : Option (List ℕ)) (new : Option Stop → Reading) (token : List Atom) (sign : Option Sign) (r : Result T Halt)
      → ((head : Head) × (syntax : Syntax) × (o ≡ opening.Leaf head syntax size)) ⊎ (o ≡ opening.Fragment size) → token ≡ opening_atom o ∷ []
      → m ≡ fold step s token → mid ≡ append_known held (outputs step writes s token) → sign ≡ opened_sign o → Comes step writes m mid t holds new (settled position (value_left size sign levels []) size) r
      → Comes step writes s held t holds new (entered position (opened_by position levels o)) r
  enters_value position levels o size s held m mid t holds new token sign r (inl (head, syntax, e)) f a b k h =
      let atom : List Atom = opening_atom (opening.Leaf head syntax size) ∷ [] in
      let same : token ≡ atom = f ∙ ap (λ (x : Opening). opening_atom x ∷ []) e in
      subst (λ (x : Opening). Comes step writes s held t holds new (entered position (opened_by position levels x)) r) (sym e)
      (comes_behind step writes position size (left_levels size (sign_of head.tag head.vr) levels) (left_sign size (sign_of head.tag head.vr)) s held m mid t holds new atom (closing size) r (a ∙ ap (fold step s) same) (b ∙ ap (λ (xs : List Atom). append_known held (outputs step writes s xs)) same)
      (subst (λ (x : Option Sign). Comes step writes m mid t holds new (settled position (value_left size x levels []) size) r) (k ∙ ap opened_sign e) h))
  enters_value position levels o size s held m mid t holds new token sign r (inr e) f a b k h =
      let atom : List Atom = opening_atom (opening.Fragment size) ∷ [] in
      let same : token ≡ atom = f ∙ ap (λ (x : Opening). opening_atom x ∷ []) e in
      subst (λ (x : Opening). Comes step writes s held t holds new (entered position (opened_by position levels x)) r) (sym e)
      (comes_behind step writes position size (left_levels size None levels) (left_sign size None) s held m mid t holds new atom (closing size) r (a ∙ ap (fold step s) same) (b ∙ ap (λ (xs : List Atom). append_known held (outputs step writes s xs)) same)
      (subst (λ (x : Option Sign). Comes step writes m mid t holds new (settled position (value_left size x levels []) size) r) (k ∙ ap opened_sign e) h))

  -- a container begins or ends
  pub enters_container : {T : Type 0} (position : ℕ) (levels : List Level) (o : Opening) (p : Cursor) (s : S) (held : Option (List ℕ)) (m : S) (mid : Option (List ℕ)) (t : S) (holds : Option (List ℕ)) (new : Option Stop → Reading) (token : List Atom) (r : Result T Halt)
      → LeadsTo position levels o p.levels → held_sign p ≡ None → p.position ≡ position → token ≡ opening_atom o ∷ []
      → m ≡ fold step s token → mid ≡ append_known held (outputs step writes s token) → Comes step writes m mid t holds new (settles p) r
      → Comes step writes s held t holds new (entered position (opened_by position levels o)) r
  enters_container position levels o p s held m mid t holds new token r leads none at f a b h =
      subst (λ (x : Opened). Comes step writes s held t holds new (entered position x) r) (sym (led_to position levels o p.levels leads))
      (subst (λ (n : ℕ). Comes step writes s held t holds new (settled n (without_value p.levels (opening_atom o)) 0) r) at
      (comes_behind step writes p.position 0 p.levels None s held m mid t holds new (opening_atom o ∷ []) [] r (a ∙ ap (fold step s) f) (b ∙ ap (λ (xs : List Atom). append_known held (outputs step writes s xs)) f)
      (subst (λ (x : Option Sign). Comes step writes m mid t holds new (settled p.position (record { levels = p.levels; left = 0; sign = x; atoms = [] }) 0) r) none h)))

-- What a filter and its sink do with tokens.
use Rattle.std.proofs.Common.{◌≡◌, ◌∙◌, refl, ap, sym, subst, ℕ, zero, suc, ◌≤◌, List, [], ◌∷◌, ◌++◌, map, Bool, true, false, append_assoc, Option, Result, Ok, Err, arith}
use Rattle.std.specs.Prelude.{fold, if◌then◌else◌, ◌&&◌, ◌||◌, not, OnOk, IsErr}
use Rattle.std.proofs.lemmas.List.{append-nil}
use Rattle.std.proofs.lemmas.List.Sums.{fold-append}
use Rattle.dcm_base.proofs.Writes.Runs.{outputs-append}
use Rattle.std.specs.Io.KnownBytes.{append_known}
use Rattle.dcm_lemmas.proofs.Options.{known_nothing, known_twice}
use Rattle.dcm_base.specs.declared.tag.Tag.{Tag}
use Rattle.dcm_base.specs.declared.mode.Mode.{Mode}
use Rattle.dcm_base.specs.declared.form.Form.{Form}
use Rattle.dcm_base.specs.declared.form.Form.TheVariants.{Value as a_value}
use Rattle.dcm_base.specs.declared.syntax.Syntax.{Syntax}
use Rattle.dcm_base.specs.Bytes.Spelling.{form, read_as}
use Rattle.dcm_base.specs.Steps.Atoms.{Atom, opens, value_byte, closes_leaf, opens_item, closes_item, closes_sequence, opens_fragment, ends}
use Rattle.dcm_base.specs.Steps.Steps.{outputs, Goes}
use Rattle.dcm_devices.specs.Device.{Puts, AppendsFront}
use Rattle.dcm_devices.proofs.Writes.Puts.{front_longer, puts_behind}
use Rattle.dcm_head.specs.declared.head.Head.{Head}
use Rattle.dcm_stream.specs.Skip.{is_open, opened, closed}
use Rattle.dcm_stream.specs.Tokens.{atoms_of}
use Rattle.dcm_stream.specs.declared.token.Token.{Token}
use Rattle.dcm_stream.specs.declared.token.Token.TheVariants.{Open, Bytes, CloseLeaf, OpenItem, CloseItem, CloseSeq, OpenFragment, End}
use Rattle.dcm_named.specs.Named.{is_named}
use Rattle.dcm_named.specs.Filter.{Place, shows, next, before, begins, way_if, is_one, head_place, begins_at_end}
use Rattle.dcm_named.specs.NamedSink.{named_step, named_writes}
use Rattle.dcm_named.specs.Naming.{token_shows, token_before}

pub place_bytes : (p : Place) (v : List ℕ) → fold next p (map value_byte v) ≡ p
place_bytes p [] = refl
place_bytes p (b ∷ v) = place_bytes p v

module _ {T : Type 0} (step over : T → Atom → T) (writes : T → Atom → List ℕ) where
  abbrev pair : Place → T → Place × T
  pair p t = (p, t)

  abbrev goes_to : Place × T → List Atom → Place × T
  goes_to s atoms = fold (named_step step over) s atoms

  abbrev puts : Place × T → List Atom → List ℕ
  puts s atoms = outputs (named_step step over) (named_writes writes) s atoms

  -- ---- one atom

  pub one_shown : (p : Place) (t : T) (a : Atom) → shows p a ≡ true → named_step step over (p, t) a ≡ pair (next p a) (step t a)
  one_shown p t a e = ap (λ (b : Bool). pair (next p a) (if b then step t a else over t a)) e

  pub one_put : (p : Place) (t : T) (a : Atom) → shows p a ≡ true → named_writes writes (p, t) a ≡ before p a ++ writes t a
  one_put p t a e = ap (λ (b : Bool). if b then before p a ++ writes t a else []) e

  pub one_over : (p : Place) (t : T) (a : Atom) → shows p a ≡ false → named_step step over (p, t) a ≡ pair (next p a) (over t a)
  one_over p t a e = ap (λ (b : Bool). pair (next p a) (if b then step t a else over t a)) e

  pub one_none : (p : Place) (t : T) (a : Atom) → shows p a ≡ false → named_writes writes (p, t) a ≡ []
  one_none p t a e = ap (λ (b : Bool). if b then before p a ++ writes t a else []) e

  -- ---- an atom and then others

  pub then_shown : (p : Place) (t : T) (a : Atom) (atoms : List Atom) → shows p a ≡ true → puts (p, t) (a ∷ atoms) ≡ (before p a ++ writes t a) ++ puts (next p a, step t a) atoms
  then_shown p t a atoms e =
      ap (λ (z : List ℕ). z ++ puts (named_step step over (p, t) a) atoms) (one_put p t a e)
      ∙ ap (λ (s : Place × T). (before p a ++ writes t a) ++ puts s atoms) (one_shown p t a e)

  pub then_over : (p : Place) (t : T) (a : Atom) (atoms : List Atom) → shows p a ≡ false → puts (p, t) (a ∷ atoms) ≡ puts (next p a, over t a) atoms
  then_over p t a atoms e =
      ap (λ (z : List ℕ). z ++ puts (named_step step over (p, t) a) atoms) (one_none p t a e)
      ∙ ap (λ (s : Place × T). puts s atoms) (one_over p t a e)

  pub on_shown : (p : Place) (t : T) (a : Atom) (atoms : List Atom) → shows p a ≡ true → goes_to (p, t) (a ∷ atoms) ≡ goes_to (next p a, step t a) atoms
  on_shown p t a atoms e = ap (λ (s : Place × T). goes_to s atoms) (one_shown p t a e)

  pub on_over : (p : Place) (t : T) (a : Atom) (atoms : List Atom) → shows p a ≡ false → goes_to (p, t) (a ∷ atoms) ≡ goes_to (next p a, over t a) atoms
  on_over p t a atoms e = ap (λ (s : Place × T). goes_to s atoms) (one_over p t a e)

  -- ---- bytes

  pub bytes_shown : (p : Place) (t : T) (v : List ℕ) (atoms : List Atom) → is_open p.shown ≡ true → goes_to (p, t) (map value_byte v ++ atoms) ≡ goes_to (p, fold step t (map value_byte v)) atoms
  bytes_shown p t [] atoms e = refl
  bytes_shown p t (b ∷ v) atoms e = on_shown p t (value_byte b) (map value_byte v ++ atoms) e ∙ bytes_shown p (step t (value_byte b)) v atoms e

  pub bytes_put : (p : Place) (t : T) (v : List ℕ) (atoms : List Atom) → is_open p.shown ≡ true
      → puts (p, t) (map value_byte v ++ atoms) ≡ outputs step writes t (map value_byte v) ++ puts (p, fold step t (map value_byte v)) atoms
  bytes_put p t [] atoms e = refl
  bytes_put p t (b ∷ v) atoms e =
      then_shown p t (value_byte b) (map value_byte v ++ atoms) e
      ∙ ap (λ (z : List ℕ). writes t (value_byte b) ++ z) (bytes_put p (step t (value_byte b)) v atoms e)
      ∙ sym (append_assoc (writes t (value_byte b)) _ _)

  pub bytes_over : (p : Place) (t : T) (v : List ℕ) (atoms : List Atom) → is_open p.shown ≡ false → goes_to (p, t) (map value_byte v ++ atoms) ≡ goes_to (p, fold over t (map value_byte v)) atoms
  bytes_over p t [] atoms e = refl
  bytes_over p t (b ∷ v) atoms e = on_over p t (value_byte b) (map value_byte v ++ atoms) e ∙ bytes_over p (over t (value_byte b)) v atoms e

  pub bytes_none : (p : Place) (t : T) (v : List ℕ) (atoms : List Atom) → is_open p.shown ≡ false → puts (p, t) (map value_byte v ++ atoms) ≡ puts (p, fold over t (map value_byte v)) atoms
  bytes_none p t [] atoms e = refl
  bytes_none p t (b ∷ v) atoms e = then_over p t (value_byte b) (map value_byte v ++ atoms) e ∙ bytes_none p (over t (value_byte b)) v atoms e

  -- ---- tokens

  pub token_shown : (p : Place) (t : T) (token : Token) → token_shows p token ≡ true → goes_to (p, t) (atoms_of token) ≡ pair (fold next p (atoms_of token)) (fold step t (atoms_of token))
  token_shown p t (Bytes bytes) e =
      ap (goes_to (p, t)) (sym (append-nil (map value_byte bytes.now)))
      ∙ bytes_shown p t bytes.now [] e
      ∙ ap (λ (q : Place). pair q (fold step t (map value_byte bytes.now))) (sym (place_bytes p bytes.now))
  token_shown p t (Open head syntax) e = one_shown p t (opens head.tag head.vr head.length syntax) e
  token_shown p t CloseLeaf e = one_shown p t closes_leaf e
  token_shown p t (OpenItem declared) e = one_shown p t (opens_item declared) e
  token_shown p t CloseItem e = one_shown p t closes_item e
  token_shown p t CloseSeq e = one_shown p t closes_sequence e
  token_shown p t (OpenFragment size) e = one_shown p t (opens_fragment size) e
  token_shown p t End e = one_shown p t ends e

  pub token_put : (p : Place) (t : T) (token : Token) → token_shows p token ≡ true → puts (p, t) (atoms_of token) ≡ token_before p token ++ outputs step writes t (atoms_of token)
  token_put p t (Bytes bytes) e =
      ap (puts (p, t)) (sym (append-nil (map value_byte bytes.now)))
      ∙ bytes_put p t bytes.now [] e
      ∙ append-nil (outputs step writes t (map value_byte bytes.now))
  token_put p t (Open head syntax) e = then_shown p t (opens head.tag head.vr head.length syntax) [] e ∙ append_assoc (before p (opens head.tag head.vr head.length syntax)) (writes t (opens head.tag head.vr head.length syntax)) []
  token_put p t CloseLeaf e = then_shown p t closes_leaf [] e ∙ append_assoc (before p closes_leaf) (writes t closes_leaf) []
  token_put p t (OpenItem declared) e = then_shown p t (opens_item declared) [] e ∙ append_assoc (before p (opens_item declared)) (writes t (opens_item declared)) []
  token_put p t CloseItem e = then_shown p t closes_item [] e ∙ append_assoc (before p closes_item) (writes t closes_item) []
  token_put p t CloseSeq e = then_shown p t closes_sequence [] e ∙ append_assoc (before p closes_sequence) (writes t closes_sequence) []
  token_put p t (OpenFragment size) e = then_shown p t (opens_fragment size) [] e ∙ append_assoc (before p (opens_fragment size)) (writes t (opens_fragment size)) []
  token_put p t End e = then_shown p t ends [] e ∙ append_assoc (before p ends) (writes t ends) []

  pub token_over : (p : Place) (t : T) (token : Token) → token_shows p token ≡ false → goes_to (p, t) (atoms_of token) ≡ pair (fold next p (atoms_of token)) (fold over t (atoms_of token))
  token_over p t (Bytes bytes) e =
      ap (goes_to (p, t)) (sym (append-nil (map value_byte bytes.now)))
      ∙ bytes_over p t bytes.now [] e
      ∙ ap (λ (q : Place). pair q (fold over t (map value_byte bytes.now))) (sym (place_bytes p bytes.now))
  token_over p t (Open head syntax) e = one_over p t (opens head.tag head.vr head.length syntax) e
  token_over p t CloseLeaf e = one_over p t closes_leaf e
  token_over p t (OpenItem declared) e = one_over p t (opens_item declared) e
  token_over p t CloseItem e = one_over p t closes_item e
  token_over p t CloseSeq e = one_over p t closes_sequence e
  token_over p t (OpenFragment size) e = one_over p t (opens_fragment size) e
  token_over p t End e = one_over p t ends e

  pub token_none : (p : Place) (t : T) (token : Token) → token_shows p token ≡ false → puts (p, t) (atoms_of token) ≡ []
  token_none p t (Bytes bytes) e = ap (puts (p, t)) (sym (append-nil (map value_byte bytes.now))) ∙ bytes_none p t bytes.now [] e
  token_none p t (Open head syntax) e = then_over p t (opens head.tag head.vr head.length syntax) [] e
  token_none p t CloseLeaf e = then_over p t closes_leaf [] e
  token_none p t (OpenItem declared) e = then_over p t (opens_item declared) [] e
  token_none p t CloseItem e = then_over p t closes_item [] e
  token_none p t CloseSeq e = then_over p t closes_sequence [] e
  token_none p t (OpenFragment size) e = then_over p t (opens_fragment size) [] e
  token_none p t End e = then_over p t ends [] e

  -- ---- what a call does

  abbrev Going : {A E : Type 0} → Place → (old : T) → (held : Option (List ℕ)) → Place → (new : T) → (holds : Option (List ℕ)) → List Atom → Result A E → Type 0
  Going p old held q new holds atoms r = Goes (named_step step over) (named_writes writes) (p, old) held (q, new) holds atoms r

  pub same_pair : (p q : Place) (t u : T) → p ≡ q → t ≡ u → pair p t ≡ pair q u
  same_pair p q t u e f = cc

  -- what is shown goes on after a text
  pub shown_goes : {A : Type 0} (E : Type 0) (p q : Place) (old mid new : T) (held between holds : Option (List ℕ)) (way : List ℕ) (atoms : List Atom) (at : Place) (x : A)
      → goes_to (p, old) atoms ≡ pair at (fold step old atoms) → puts (p, old) atoms ≡ way ++ outputs step writes old atoms
      → mid ≡ old → between ≡ append_known held way → q ≡ at → new ≡ fold step mid atoms → holds ≡ append_known between (outputs step writes mid atoms)
      → Going {A = A} {E = E} p old held q new holds atoms (Ok x)
  shown_goes E p q old mid new held between holds way atoms at x states texts same went place state one = (
    same_pair q at new (fold step old atoms) place (state ∙ ap (λ (t : T). fold step t atoms) same) ∙ sym states,
    one ∙ ap (λ (known : Option (List ℕ)). append_known known (outputs step writes mid atoms)) went ∙ known_twice held way (outputs step writes mid atoms)
        ∙ ap (λ (t : T). append_known held (way ++ outputs step writes t atoms)) same ∙ ap (append_known held) (sym texts),
  )

  -- what is shown fails after a text
  pub shown_fails : {A E : Type 0} (p q : Place) (old mid new : T) (held between holds : Option (List ℕ)) (way : List ℕ) (atoms : List Atom) (r : Result A E)
      → IsErr r → puts (p, old) atoms ≡ way ++ outputs step writes old atoms → mid ≡ old → between ≡ append_known held way → AppendsFront between holds (outputs step writes mid atoms)
      → Going p old held q new holds atoms r
  shown_fails p q old mid new held between holds way atoms (Ok x) is texts same went front = cc
  shown_fails p q old mid new held between holds way atoms (Err x) is texts same went front =
      subst (AppendsFront held holds) (ap (λ (t : T). way ++ outputs step writes t atoms) same ∙ sym texts)
      (puts_behind {T = ℕ} {E = ℕ} held between holds way (outputs step writes mid atoms) (Err 0) went front)

  -- the text fails
  pub text_fails : {A E : Type 0} (p q : Place) (old new : T) (held holds : Option (List ℕ)) (way : List ℕ) (atoms : List Atom) (r : Result A E)
      → IsErr r → puts (p, old) atoms ≡ way ++ outputs step writes old atoms → AppendsFront held holds way → Going p old held q new holds atoms r
  text_fails p q old new held holds way atoms (Ok x) is texts front = cc
  text_fails p q old new held holds way atoms (Err x) is texts front = subst (AppendsFront held holds) (sym texts) (front_longer (outputs step writes old atoms) front)

  -- what is passed over goes on
  pub over_goes : {A : Type 0} (E : Type 0) (p q : Place) (old new : T) (held holds : Option (List ℕ)) (atoms : List Atom) (at : Place) (x : A)
      → goes_to (p, old) atoms ≡ pair at (fold over old atoms) → puts (p, old) atoms ≡ []
      → q ≡ at → new ≡ fold over old atoms → holds ≡ held → Going {A = A} {E = E} p old held q new holds atoms (Ok x)
  over_goes E p q old new held holds atoms at x states none place state same =
      (same_pair q at new (fold over old atoms) place state ∙ sym states, same ∙ sym (known_nothing held) ∙ ap (append_known held) (sym none))

-- ---- what a call of a sink says of itself

pub state_of : {S A E : Type 0} (step : S → Atom → S) (writes : S → Atom → List ℕ) (s t : S) (held holds : Option (List ℕ)) (atoms : List Atom) (r : Result A E) → Goes step writes s held t holds atoms r → OnOk r (t ≡ fold step s atoms)
state_of step writes s t held holds atoms (Ok x) went = went.0
state_of step writes s t held holds atoms (Err x) went = tt

pub bytes_of : {S A E : Type 0} (step : S → Atom → S) (writes : S → Atom → List ℕ) (s t : S) (held holds : Option (List ℕ)) (atoms : List Atom) (r : Result A E) → Goes step writes s held t holds atoms r → Puts held holds (outputs step writes s atoms) r
bytes_of step writes s t held holds atoms (Ok x) went = went.1
bytes_of step writes s t held holds atoms (Err x) went = went

-- ---- an element with its whole value

no_way : (due ways : Bool) (way : List Tag) → ways ≡ false → way_if (due && ways) way ≡ []
no_way true true way e = cc
no_way true false way e = refl
no_way false ways way e = refl

open_of : (m : ℕ) → 2 ≤ m → is_open m ≡ true
open_of zero h = absurd (omega (arith, h))
open_of (suc m) h = refl

not_one : (m : ℕ) → 2 ≤ m → is_one m ≡ false
not_one zero h = refl
not_one (suc zero) h = absurd (omega (arith, h))
not_one (suc (suc m)) h = refl

two_open : (k : ℕ) (b : Bool) → 2 ≤ opened (suc k) b
two_open k b = omega arith

module _ {T : Type 0} (step over : T → Atom → T) (writes : T → Atom → List ℕ) (tags : List Tag) (ways : Bool) (mode : Mode) (way : List Tag) (head : Head) (syntax : Syntax) (v : List ℕ) where
  abbrev pl : ℕ → Place
  pl n = record { tags = tags; ways = ways; mode = mode; way = way; shown = n }

  abbrev first : Atom
  first = opens head.tag head.vr head.length syntax

  abbrev whole : List Atom
  whole = first ∷ (map value_byte v ++ closes_leaf ∷ [])

  abbrev to : Place → T → List Atom → Place × T
  to p t atoms = goes_to step over writes (p, t) atoms

  abbrev out : Place → T → List Atom → List ℕ
  out p t atoms = puts step over writes (p, t) atoms

  abbrev both : Place → T → Place × T
  both p t = (p, t)

  -- its head, at which it is known whether it is named
  head_at : (n : ℕ) (named : Bool) (f : Form) → is_named tags head.tag ≡ named → form syntax (read_as syntax head.tag head.vr) head.length ≡ f → next (pl n) first ≡ head_place named f (pl n) head.tag
  head_at n named f e g = ap (λ (b : Bool). head_place b (form syntax (read_as syntax head.tag head.vr) head.length) (pl n) head.tag) e ∙ ap (λ (x : Form). head_place named x (pl n) head.tag) g

  behind_value : (m : ℕ) (t : T) → is_open m ≡ true → to (pl m) t (map value_byte v ++ closes_leaf ∷ []) ≡ both (pl (closed m)) (fold step t (map value_byte v ++ closes_leaf ∷ []))
  behind_value m t e =
      bytes_shown step over writes (pl m) t v (closes_leaf ∷ []) e
      ∙ one_shown step over writes (pl m) (fold step t (map value_byte v)) closes_leaf e
      ∙ ap (λ (u : T). both (pl (closed m)) u) (sym (fold-append step t (map value_byte v) (closes_leaf ∷ [])))

  value_out : (m : ℕ) (t : T) → is_open m ≡ true → before (pl m) closes_leaf ≡ [] → out (pl m) t (map value_byte v ++ closes_leaf ∷ []) ≡ outputs step writes t (map value_byte v ++ closes_leaf ∷ [])
  value_out m t e none =
      let u : T = fold step t (map value_byte v) in
      bytes_put step over writes (pl m) t v (closes_leaf ∷ []) e
      ∙ ap (λ (z : List ℕ). outputs step writes t (map value_byte v) ++ z) (then_shown step over writes (pl m) u closes_leaf [] e ∙ ap (λ (z : List ℕ). (z ++ writes u closes_leaf) ++ []) none)
      ∙ sym (outputs-append step writes t (map value_byte v) (closes_leaf ∷ []))

  -- one that is shown
  pub whole_on : (n : ℕ) (named : Bool) (t : T) → is_named tags head.tag ≡ named → (is_open n || named) ≡ true → to (pl n) t whole ≡ both (pl (closed (opened n true))) (fold step t whole)
  whole_on zero true t e is =
      on_shown step over writes (pl 0) t first (map value_byte v ++ closes_leaf ∷ []) e
      ∙ ap (λ (p : Place). to p (step t first) (map value_byte v ++ closes_leaf ∷ [])) (ap (λ (b : Bool). head_place b (form syntax (read_as syntax head.tag head.vr) head.length) (pl 0) head.tag) e)
      ∙ behind_value 1 (step t first) refl
  whole_on zero false t e is = absurd (cc)
  whole_on (suc k) named t e is =
      on_shown step over writes (pl (suc k)) t first (map value_byte v ++ closes_leaf ∷ []) refl
      ∙ behind_value (opened (suc k) true) (step t first) (open_of (opened (suc k) true) (two_open k true))

  pub whole_put : (n : ℕ) (named : Bool) (t : T) → is_named tags head.tag ≡ named → (is_open n || named) ≡ true → (ways && not (is_open n)) ≡ false → out (pl n) t whole ≡ outputs step writes t whole
  whole_put zero true t e is none =
      let unasked : ways ≡ false = and_true ways none in
      then_shown step over writes (pl 0) t first (map value_byte v ++ closes_leaf ∷ []) e
      ∙ ap (λ (z : List ℕ). (z ++ writes t first) ++ out (next (pl 0) first) (step t first) (map value_byte v ++ closes_leaf ∷ [])) (no_way (begins (pl 0) first) ways way unasked)
      ∙ ap (λ (p : Place). writes t first ++ out p (step t first) (map value_byte v ++ closes_leaf ∷ [])) (ap (λ (b : Bool). head_place b (form syntax (read_as syntax head.tag head.vr) head.length) (pl 0) head.tag) e)
      ∙ ap (λ (z : List ℕ). writes t first ++ z) (value_out 1 (step t first) refl (no_way (begins (pl 1) closes_leaf) ways way unasked))
    where
      and_true : (b : Bool) → (b && true) ≡ false → b ≡ false
      and_true true h = h
      and_true false h = h
  whole_put zero false t e is none = absurd (cc)
  whole_put (suc k) named t e is none =
      let m : ℕ = opened (suc k) true in
      then_shown step over writes (pl (suc k)) t first (map value_byte v ++ closes_leaf ∷ []) refl
      ∙ ap (λ (z : List ℕ). writes t first ++ z)
      (value_out m (step t first) (open_of m (two_open k true)) (ap (λ (b : Bool). way_if ((b && begins_at_end mode) && ways) way) (not_one m (two_open k true))))

  -- one that is passed over
  pub whole_over : (n : ℕ) (t : T) → form syntax (read_as syntax head.tag head.vr) head.length ≡ a_value → (is_open n || is_named tags head.tag) ≡ false → to (pl n) t whole ≡ both (pl n) (fold over t whole)
  whole_over zero t g e =
      let u : T = over t first in
      on_over step over writes (pl 0) t first (map value_byte v ++ closes_leaf ∷ []) e
      ∙ ap (λ (p : Place). to p u (map value_byte v ++ closes_leaf ∷ [])) (head_at 0 false a_value e g)
      ∙ bytes_over step over writes (pl 0) u v (closes_leaf ∷ []) refl
      ∙ one_over step over writes (pl 0) (fold over u (map value_byte v)) closes_leaf refl
      ∙ ap (λ (x : T). both (pl 0) x) (sym (fold-append over u (map value_byte v) (closes_leaf ∷ [])))
  whole_over (suc k) t g e = absurd (cc)

  pub whole_none : (n : ℕ) (t : T) → form syntax (read_as syntax head.tag head.vr) head.length ≡ a_value → (is_open n || is_named tags head.tag) ≡ false → out (pl n) t whole ≡ []
  whole_none zero t g e =
      let u : T = over t first in
      then_over step over writes (pl 0) t first (map value_byte v ++ closes_leaf ∷ []) e
      ∙ ap (λ (p : Place). out p u (map value_byte v ++ closes_leaf ∷ [])) (head_at 0 false a_value e g)
      ∙ bytes_none step over writes (pl 0) u v (closes_leaf ∷ []) refl
      ∙ then_over step over writes (pl 0) (fold over u (map value_byte v)) closes_leaf [] refl
  whole_none (suc k) t g e = absurd (cc)

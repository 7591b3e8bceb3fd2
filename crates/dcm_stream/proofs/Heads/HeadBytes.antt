-- A byte that may end a head.
use Rattle.std.proofs.Common.{◌≡◌, ◌∙◌, sym, ap, subst, refl, ℕ, ◌+◌, ◌≤◌, ◌<◌, List, [], ◌∷◌, ◌++◌, length, Bool, true, false, cond, Option, Some, None, Result, Ok, Err}
use Rattle.std.specs.Prelude.{nat_lt}
use Rattle.std.proofs.lemmas.Bool.{lt-ltb}
use Rattle.dcm_lemmas.proofs.Options.{known_nothing}
use Rattle.dcm_base.specs.declared.level.Level.{Level}
use Rattle.dcm_base.specs.declared.fault.Fault.{Fault}
use Rattle.dcm_base.specs.declared.fault.Fault.TheVariants.{EndsEarly}
use Rattle.dcm_base.specs.Steps.Atoms.{Atom}
use Rattle.dcm_base.specs.Reading.Stop.{Stop, refused, HeadBar, innermost_stop, place_stop, is_early}
use Rattle.dcm_base.specs.Reading.Reads.{INPUT_LIMIT}
use Rattle.dcm_head.specs.declared.head.Head.{Head}
use Rattle.dcm_stream.specs.declared.token.Bar.{Bar}
use Rattle.dcm_stream.specs.declared.judge.Opening.{Opening}
use Rattle.dcm_stream.specs.declared.judge.Judged.{Judged}
use Rattle.dcm_stream.specs.declared.judge.Judged.TheVariants as judge
use Rattle.dcm_stream.specs.declared.cursor.Cursor.{Cursor}
use Rattle.dcm_stream.specs.Halts.{Halt}
use Rattle.dcm_base.specs.declared.stopped.Stopped.TheVariants.{Refused}
use Rattle.dcm_stream.specs.Bounds.{are_nested}
use Rattle.dcm_stream.specs.Places.{innermost}
use Rattle.dcm_stream.specs.Reading.{Reading, halted, Opened, head_opens, head_read, byte_read, read_byte, Sign}
use Rattle.dcm_stream.specs.Judging.{bars_head, opened_by, Judges}
use Rattle.dcm_stream.specs.Machine.{reading, Stands, Comes, entered, Feeds, held_sign}
use Rattle.dcm_stream.proofs.Runs.Bounds.{few, Small, levels_accept}
use Rattle.dcm_stream.proofs.Runs.Parts.{feeds_byte}

-- ---- the innermost container

no_container : (ls : List Level) → None ≡ innermost ls → are_nested ls ≡ true → ⊥
unfolding are_nested
no_container [] e h = cc
no_container (inner ∷ outer) e h = cc

pub some_container : (p : Cursor) → Stands (reading p None) → None ≡ innermost p.levels → ⊥
some_container p h e = no_container p.levels e h.small.nested

pub innermost_is : (bar : HeadBar) (ls : List Level) (inner : Level) (position : ℕ) (z : List ℕ) → innermost ls ≡ Some inner → innermost_stop bar ls position z ≡ place_stop bar inner ls position z
innermost_is bar [] inner position z e = absurd (cc)
innermost_is bar (x ∷ outer) inner position z e = let same : x ≡ inner = cc in ap (λ (y : Level). place_stop bar y (x ∷ outer) position z) same

-- ---- what is judged

by_judged : (bar : HeadBar) (p : Cursor) (inner : Level) (b : ℕ) → p.left ≡ 0 → p.position + length p.head.items < INPUT_LIMIT → innermost p.levels ≡ Some inner
    → let z = p.head.items ++ b ∷ [] in
    read_byte bar (reading p None) b ≡ head_read (reading p None) z (place_stop bar inner p.levels p.position z)
unfolding read_byte
by_judged bar p inner b left lt is =
    let z = p.head.items ++ b ∷ [] in
    ap (λ (n : ℕ). byte_read bar (reading p None) b None (nat_lt (p.position + length p.head.items) INPUT_LIMIT) n) left
    ∙ ap (λ (t : Bool). byte_read bar (reading p None) b None t 0) (lt-ltb (p.position + length p.head.items) INPUT_LIMIT lt)
    ∙ ap (λ (o : Option Stop). head_read (reading p None) z o) (innermost_is bar p.levels inner p.position z is)

stopped : (r : Reading) (z : List ℕ) (fault : Fault) (at : ℕ) (early : Bool) → is_early fault ≡ early → head_read r z (Some (refused fault at)) ≡ cond {A = Reading × List Atom} early (record r { head = z }, []) (halted r (refused fault at), [])
stopped r z fault at early e = ap (λ (t : Bool). cond {A = Reading × List Atom} t (record r { head = z }, []) (halted r (refused fault at), [])) e

module _ {S : Type 0} (bars : S → Head → Option Bar) (step : S → Atom → S) (writes : S → Atom → List ℕ) (p : Cursor) (inner : Level) (s : S) (b : ℕ)
    (left : p.left ≡ 0) (lt : p.position + length p.head.items < INPUT_LIMIT) (is : innermost p.levels ≡ Some inner) where
  abbrev bar : HeadBar
  bar = bars_head bars s

  abbrev around : List Level
  around = p.levels

  abbrev bytes : List ℕ
  bytes = p.head.items ++ b ∷ []

  -- the head is refused
  pub feeds_refused : (T : Type 0) (held : Option (List ℕ)) (new : Cursor) (judged : Judged) (fault : Fault) (halt : Halt) → Judges bar inner around p.position bytes judged → judged ≡ judge.Refused fault
      → halt ≡ Refused (record { fault = fault; at = p.position }) → new.position ≡ p.position → new.head.items ≡ [] → new.left ≡ p.left → new.levels ≡ p.levels → held_sign new ≡ held_sign p
      → Feeds {T = T} bars step writes (reading p None) s held (reading new) s held (b ∷ []) (Err halt)
  feeds_refused T held new judged fault halt h e is_halt at1 at2 at3 at4 at5 =
      let j : Judges bar inner around p.position bytes (judge.Refused fault) = subst (Judges bar inner around p.position bytes) e h in
      let at : read_byte bar (reading p None) b ≡ (halted (reading p None) (refused fault p.position), []) =
      by_judged bar p inner b left lt is ∙ ap (λ (o : Option Stop). head_read (reading p None) bytes o) j.0 ∙ stopped (reading p None) bytes fault p.position false j.1 in
      let same : reading new (Some (refused fault p.position)) ≡ halted (reading p None) (refused fault p.position) =
      ap (λ (n : ℕ). record { position = n; head = new.head.items; left = new.left; sign = held_sign new; levels = new.levels; halt = Some (refused fault p.position) }) at1
      ∙ ap (λ (z : List ℕ). record { position = p.position; head = z; left = new.left; sign = held_sign new; levels = new.levels; halt = Some (refused fault p.position) }) at2
      ∙ ap (λ (n : ℕ). record { position = p.position; head = []; left = n; sign = held_sign new; levels = new.levels; halt = Some (refused fault p.position) }) at3
      ∙ ap (λ (ls : List Level). record { position = p.position; head = []; left = p.left; sign = held_sign new; levels = ls; halt = Some (refused fault p.position) }) at4
      ∙ ap (λ (sign : Option Sign). record { position = p.position; head = []; left = p.left; sign = sign; levels = p.levels; halt = Some (refused fault p.position) }) at5 in
      subst (λ (x : Halt). Feeds {T = T} bars step writes (reading p None) s held (reading new) s held (b ∷ []) (Err x)) (sym is_halt)
      (feeds_byte bars step writes {T = T} (reading p None) s held s held (reading new) b _ (Err (Refused (record { fault = fault; at = p.position }))) at (same, refl, sym (known_nothing held)))

  -- more bytes are wanted
  pub feeds_waiting : {T : Type 0} (held : Option (List ℕ)) (new : Cursor) (judged : Judged) (x : T) → Judges bar inner around p.position bytes judged → judged ≡ judge.More
      → new.position ≡ p.position → new.head.items ≡ bytes → new.left ≡ p.left → new.levels ≡ p.levels → held_sign new ≡ held_sign p
      → Feeds bars step writes (reading p None) s held (reading new) s held (b ∷ []) (Ok x)
  feeds_waiting held new judged x h e at1 at2 at3 at4 at5 =
      let j : Judges bar inner around p.position bytes judge.More = subst (Judges bar inner around p.position bytes) e h in
      let at : read_byte bar (reading p None) b ≡ (record (reading p None) { head = bytes }, []) =
      by_judged bar p inner b left lt is ∙ ap (λ (z : Option Stop). head_read (reading p None) bytes z) j ∙ stopped (reading p None) bytes EndsEarly (p.position + length bytes) true refl in
      let same : reading new None ≡ record (reading p None) { head = bytes } =
      ap (λ (n : ℕ). record { position = n; head = new.head.items; left = new.left; sign = held_sign new; levels = new.levels; halt = None }) at1
      ∙ ap (λ (z : List ℕ). record { position = p.position; head = z; left = new.left; sign = held_sign new; levels = new.levels; halt = None }) at2
      ∙ ap (λ (n : ℕ). record { position = p.position; head = bytes; left = n; sign = held_sign new; levels = new.levels; halt = None }) at3
      ∙ ap (λ (ls : List Level). record { position = p.position; head = bytes; left = p.left; sign = held_sign new; levels = ls; halt = None }) at4
      ∙ ap (λ (sign : Option Sign). record { position = p.position; head = bytes; left = p.left; sign = sign; levels = p.levels; halt = None }) at5 in
      feeds_byte bars step writes (reading p None) s held s held (reading new) b _ (Ok x) at (same, refl, sym (known_nothing held))

  -- something opens or ends
  pub opens_few : (judged : Judged) (opening : Opening) (size begin : ℕ) → Stands (reading p None) → Judges bar inner around p.position bytes judged → judged ≡ judge.Opens opening size → begin ≡ p.position + length bytes → length (opened_by begin around opening).levels ≤ 129
  opens_few judged opening size begin stands h e place =
      let j : Judges bar inner around p.position bytes (judge.Opens opening size) = subst (Judges bar inner around p.position bytes) e h in
      let small : Small (head_opens begin bytes around).levels =
      levels_accept bar begin around p.position bytes (record { nested = stands.small.nested; shallow = stands.small.shallow }) (innermost_is bar around inner p.position bytes is ∙ j.0) in
      let same = subst (λ (z : Opened). Small z.levels) (j.1 begin) small in
      few (opened_by begin around opening).levels same.nested same.shallow

  pub feeds_opening : {T : Type 0} (held : Option (List ℕ)) (t : S) (holds : Option (List ℕ)) (new : Option Stop → Reading) (judged : Judged) (opening : Opening) (size begin : ℕ) (r : Result T Halt)
      → Judges bar inner around p.position bytes judged → judged ≡ judge.Opens opening size → begin ≡ p.position + length bytes
      → Comes step writes s held t holds new (entered begin (opened_by begin around opening)) r → Feeds bars step writes (reading p None) s held new t holds (b ∷ []) r
  feeds_opening held t holds new judged opening size begin r h e place comes =
      let j : Judges bar inner around p.position bytes (judge.Opens opening size) = subst (Judges bar inner around p.position bytes) e h in
      let at : read_byte bar (reading p None) b ≡ entered begin (opened_by begin around opening) =
      by_judged bar p inner b left lt is
      ∙ ap (λ (z : Option Stop). head_read (reading p None) bytes z) j.0
      ∙ ap (λ (n : ℕ). entered n (head_opens n bytes around)) (sym place)
      ∙ ap (entered begin) (j.1 begin) in
      feeds_byte bars step writes (reading p None) s held t holds new b _ r at comes

-- ---- what was judged of slices is judged of the place

pub judged_at : (bar : HeadBar) (inner : Level) (position : ℕ) (levels : List Level) (zs all : List ℕ) (r : Judged) → zs ≡ all → Judges bar inner levels position zs r → Judges bar inner levels position all r
judged_at bar inner position levels zs all r f h = subst (λ (z : List ℕ). Judges bar inner levels position z r) f h

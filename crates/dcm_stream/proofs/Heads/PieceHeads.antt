-- What is judged of a head that lies whole in a piece.
use Rattle.std.proofs.Common.{◌≡◌, ◌∙◌, sym, ap, subst, refl, ℕ, ◌+◌, ◌-◌, ◌≤◌, ◌<◌, List, [], ◌∷◌, ◌++◌, length, take, drop, get_or, Bool, true, false, cond, inl, inr, Option, Some, None, Result, Ok, Err, arith, take-append-drop}
use Rattle.std.specs.Prelude.{◌==◌}
use Rattle.std.proofs.lemmas.Bool.{cases_Bool, ne_eqb}
use Rattle.std.proofs.lemmas.List.{take_more, take_all, length-take-le}
use Rattle.dcm_lemmas.proofs.Options.{some_same}
use Rattle.dcm_base.specs.declared.tag.Tag.{Tag}
use Rattle.dcm_base.specs.declared.vr.Vr.{Vr}
use Rattle.dcm_base.specs.declared.length.Length.{Length}
use Rattle.dcm_base.specs.declared.level.Level.{Level}
use Rattle.dcm_base.specs.declared.fault.Fault.{Fault}
use Rattle.dcm_base.specs.Tables.Tag.{is_item}
use Rattle.dcm_base.specs.Bytes.Head.{tag_at, vr_at, length_at, head_size, long_length}
use Rattle.dcm_base.specs.Bytes.Spelling.{form, read_as}
use Rattle.dcm_base.specs.Steps.Atoms.{Atom}
use Rattle.dcm_base.specs.Reading.Stop.{Stop, refused, HeadBar, innermost_stop, place_stop, is_undecided}
use Rattle.dcm_base.specs.Reading.Reads.{INPUT_LIMIT}
use Rattle.dcm_base.proofs.DataSets.Between.{WholeHead}
use Rattle.dcm_base.proofs.DataSets.Extend.{tag_at_extends, vr_at_extends, length_at_extends, number_behind_extends}
use Rattle.dcm_base.proofs.DataSets.Heads.{eight_le_head_size}
use Rattle.dcm_head.specs.declared.head.Head.{Head}
use Rattle.dcm_stream.specs.declared.token.Bar.{Bar}
use Rattle.dcm_stream.specs.declared.judge.Opening.{Opening}
use Rattle.dcm_stream.specs.declared.judge.Judged.{Judged}
use Rattle.dcm_stream.specs.declared.judge.Judged.TheVariants as judge
use Rattle.dcm_stream.specs.declared.cursor.Cursor.{Cursor}
use Rattle.dcm_stream.specs.Halts.{Halt}
use Rattle.dcm_base.specs.declared.stopped.Stopped.TheVariants.{Refused}
use Rattle.dcm_stream.specs.Places.{innermost}
use Rattle.dcm_stream.specs.Reading.{Reading, Opened, halted, closes, element_opens, item_opens, head_opens, without_value}
use Rattle.dcm_stream.specs.Judging.{bars_head, opened_by, Judges}
use Rattle.dcm_stream.specs.Machine.{reading, Stands, Comes, entered, Feeds, held_sign}
use Rattle.dcm_stream.proofs.Runs.Bounds.{few, Small, levels_accept}
use Rattle.dcm_stream.proofs.Runs.Parts.{in_head}
use Rattle.dcm_stream.proofs.Heads.Elements.{MayCome, SizeIs, size_of_special, size_of_element, whole_head}
use Rattle.dcm_stream.proofs.Steps.StopsStay.{place_extends}
use Rattle.dcm_stream.proofs.Heads.HeadBytes.{innermost_is}
use Rattle.dcm_stream.proofs.Heads.Stops.{NeverEarly, Fits, FitsHead, fits_element, fits_item, fits_delimiter, place_none, place_short}
use Rattle.dcm_stream.proofs.Heads.Opening.{opens_element, opens_other}
use Rattle.dcm_stream.proofs.Runs.Pieces.{head_in}
use Rattle.dcm_stream.proofs.Heads.Waits.{sinks_never_early, judged_short}
use Rattle.dcm_stream.proofs.Heads.WholeHeads.{feeds_held, feeds_fault, feeds_whole}

-- ---- a head opens the same where more bytes come

opens_by_kind : (begin : ℕ) (z w : List ℕ) (inner : Level) (outer : List Level) (g : Bool) → 8 ≤ length z → ((tag_at inner.syntax z).group == 0xFFFE) ≡ g
    → (g ≡ false → (vr : Vr) × (vr_at inner.syntax z ≡ Some vr) × (head_size inner.syntax vr ≤ length z)) → head_opens begin (z ++ w) (inner ∷ outer) ≡ head_opens begin z (inner ∷ outer)
opens_by_kind begin z w inner outer true eight g f =
    let s = inner.syntax in
    let same = tag_at_extends s z w (omega arith) in
    let i = is_item (tag_at s z) in
    opens_other begin (z ++ w) inner outer i (ap (λ (t : Tag). t.group == 0xFFFE) same ∙ g) (ap is_item same)
    ∙ ap (λ (n : ℕ). cond {A = Opened} i (item_opens inner.container s (long_length n) begin (inner ∷ outer)) (without_value outer (closes inner.container))) (number_behind_extends s 4 4 z w (omega arith))
    ∙ sym (opens_other begin z inner outer i g refl)
opens_by_kind begin z w inner outer false eight g f =
    let s = inner.syntax in
    let k = f refl in
    let vr = k.0 in
    let same = tag_at_extends s z w (omega arith) in
    opens_element begin (z ++ w) inner outer vr (ap (λ (t : Tag). t.group == 0xFFFE) same ∙ g) (vr_at_extends s z w eight ∙ k.1)
    ∙ ap (λ (l : Length). element_opens (form s (read_as s (tag_at s (z ++ w)) vr) l) s (tag_at s (z ++ w)) vr l begin (inner ∷ outer)) (length_at_extends s vr z w k.2)
    ∙ ap (λ (t : Tag). element_opens (form s (read_as s t vr) (length_at s vr z)) s t vr (length_at s vr z) begin (inner ∷ outer)) same
    ∙ sym (opens_element begin z inner outer vr g k.1)

-- ---- the bytes of a head, and none before its end

module _ (bar : HeadBar) (inner : Level) (around : List Level) (position : ℕ) (bytes : List ℕ) (m : MayCome inner around position bytes) (none : place_stop bar inner around position bytes ≡ None) where
  -- a beginning of the bytes
  same_tag : (z w : List ℕ) → bytes ≡ z ++ w → 4 ≤ length z → tag_at inner.syntax bytes ≡ tag_at inner.syntax z
  same_tag z w e le = ap (tag_at inner.syntax) e ∙ tag_at_extends inner.syntax z w le

  same_vr : (z w : List ℕ) → bytes ≡ z ++ w → 8 ≤ length z → vr_at inner.syntax bytes ≡ vr_at inner.syntax z
  same_vr z w e le = ap (vr_at inner.syntax) e ∙ vr_at_extends inner.syntax z w le

  -- what is decided of a beginning is decided of them all
  none_of : (z w : List ℕ) → bytes ≡ z ++ w → is_undecided (place_stop bar inner around position z) ≡ false → place_stop bar inner around position z ≡ None
  none_of z w e u = sym (place_extends bar inner around position z w u) ∙ ap (place_stop bar inner around position) (sym e) ∙ none

  eight_of : (size : ℕ) → SizeIs bar inner around position bytes m size → 8 ≤ size
  eight_of size (size_of_special g e) = omega arith
  eight_of size (size_of_element vr g v e le) = omega (arith, eight_le_head_size inner.syntax vr)

  fits_of : (size : ℕ) → SizeIs bar inner around position bytes m size → size ≤ length bytes
  fits_of size (size_of_special g e) = omega (arith, m.eight)
  fits_of size (size_of_element vr g v e le) = le

  element_of : (size : ℕ) (z w : List ℕ) → SizeIs bar inner around position bytes m size → bytes ≡ z ++ w → length z ≡ size → ((tag_at inner.syntax z).group == 0xFFFE) ≡ false
      → (vr : Vr) × (vr_at inner.syntax z ≡ Some vr) × (head_size inner.syntax vr ≤ length z)
  element_of size z w (size_of_special g e) b n f = let k = ap (λ (t : Tag). t.group == 0xFFFE) (same_tag z w b (omega arith)) in absurd (cc)
  element_of size z w (size_of_element vr g v e le) b n f =
      let least = eight_le_head_size inner.syntax vr in
      (vr, sym (same_vr z w b (omega (arith, least))) ∙ v, omega arith)

  whole_of : (size : ℕ) (z w : List ℕ) → SizeIs bar inner around position bytes m size → bytes ≡ z ++ w → length z ≡ size → WholeHead inner.syntax z
  whole_of size z w i b n = record {
    eight = let least = eight_of size i in omega arith;
    twelve = λ f. let k = element_of size z w i b n (ne_eqb _ _ f) in (k.0, sym k.1, k.2);
  }

  no_kind : (size : ℕ) (vr : Vr) (z w : List ℕ) → ((tag_at inner.syntax bytes).group == 0xFFFE) ≡ false → vr_at inner.syntax bytes ≡ Some vr → size ≡ head_size inner.syntax vr → bytes ≡ z ++ w → length z < size → 8 ≤ length z
      → FitsHead inner around position z → ((tag_at inner.syntax bytes).group == 0xFFFE) ≡ ((tag_at inner.syntax z).group == 0xFFFE) → ⊥
  no_kind size vr z w g v e b lt eight (fits_element x h f) tags =
      let same : x ≡ vr = some_same x vr (sym f.vr_is ∙ sym (same_vr z w b eight) ∙ v) in
      let whole : head_size inner.syntax vr ≤ length z = subst (λ (y : Vr). head_size inner.syntax y ≤ length z) same f.whole in
      omega (arith, whole, e, lt)
  no_kind size vr z w g v e b lt eight (fits_item h i u f) tags = cc
  no_kind size vr z w g v e b lt eight (fits_delimiter h i) tags = cc

  -- a shorter beginning is no whole head
  shorter : (size : ℕ) (z w : List ℕ) → SizeIs bar inner around position bytes m size → bytes ≡ z ++ w → length z < size → Fits inner around position z → ⊥
  shorter size z w (size_of_special g e) b lt fits = omega (arith, fits.eight)
  shorter size z w (size_of_element vr g v e le) b lt fits =
      let tags = ap (λ (t : Tag). t.group == 0xFFFE) (same_tag z w b (omega (arith, fits.eight))) in
      no_kind size vr z w g v e b lt fits.eight fits.head tags

  -- the bytes before the last leave its end undecided
  before_undecided : (size : ℕ) (z w : List ℕ) → SizeIs bar inner around position bytes m size → bytes ≡ z ++ w → length z < size → is_undecided (place_stop bar inner around position z) ≡ true
  before_undecided size z w i b lt = elim (cases_Bool (is_undecided (place_stop bar inner around position z))) [
    | inl u ↦ u
    | inr u ↦ absurd (shorter size z w i b lt (place_none bar inner around position z (none_of z w b u)))
  ]

  module _ (never : NeverEarly bar) where
    whole_none : (size : ℕ) (z w : List ℕ) → SizeIs bar inner around position bytes m size → bytes ≡ z ++ w → length z ≡ size → place_stop bar inner around position z ≡ None
    whole_none size z w i b n = elim (cases_Bool (is_undecided (place_stop bar inner around position z))) [
      | inl u ↦ absurd ((place_short bar inner around position z never u).not_whole (whole_of size z w i b n))
      | inr u ↦ none_of z w b u
    ]

-- ---- a place before the head

last_apart : (size : ℕ) (bytes : List ℕ) → 0 < size → size ≤ length bytes → take size bytes ≡ take (size - 1) bytes ++ get_or bytes (size - 1) 0 ∷ []
last_apart size bytes some fits =
    let next : size - 1 + 1 ≡ size = omega arith in
    ap (λ (n : ℕ). take n bytes) (sym next) ∙ take_more bytes (size - 1) 0 (omega arith)

opens_at : (begin : ℕ) (z w : List ℕ) (inner : Level) (ls : List Level) → innermost ls ≡ Some inner → 8 ≤ length z
    → (((tag_at inner.syntax z).group == 0xFFFE) ≡ false → (vr : Vr) × (vr_at inner.syntax z ≡ Some vr) × (head_size inner.syntax vr ≤ length z)) → head_opens begin (z ++ w) ls ≡ head_opens begin z ls
opens_at begin z w inner [] is eight f = absurd (cc)
opens_at begin z w inner (x ∷ outer) is eight f =
    let same : inner ≡ x = cc in
    subst (λ (y : Level). head_opens begin (z ++ w) (y ∷ outer) ≡ head_opens begin z (y ∷ outer)) same (opens_by_kind begin z w inner outer ((tag_at inner.syntax z).group == 0xFFFE) eight refl f)

module _ {S : Type 0} (bars : S → Head → Option Bar) (step : S → Atom → S) (writes : S → Atom → List ℕ) (p : Cursor) (inner : Level) (s : S) (bytes : List ℕ)
    (head : p.head.items ≡ []) (left : p.left ≡ 0) (within : p.position + length bytes ≤ INPUT_LIMIT) (is : innermost p.levels ≡ Some inner) where
  abbrev at_bar : HeadBar
  at_bar = bars_head bars s

  stop_at : (z : List ℕ) → innermost_stop at_bar p.levels p.position z ≡ place_stop at_bar inner p.levels p.position z
  stop_at z = innermost_is at_bar p.levels inner p.position z is

  from_place : {T : Type 0} (held : Option (List ℕ)) (t : S) (holds : Option (List ℕ)) (new : Option Stop → Reading) (bs : List ℕ) (r : Result T Halt)
      → Feeds bars step writes (in_head bars step writes p.position [] (held_sign p) p.levels) s held new t holds bs r → Feeds bars step writes (reading p None) s held new t holds bs r
  from_place held t holds new bs r h = subst (λ (x : Reading). Feeds bars step writes x s held new t holds bs r) (sym (head_in bars step writes p head left)) h

  -- more bytes are wanted
  pub piece_short : (judged : Judged) → judged ≡ judge.More → Judges at_bar inner p.levels p.position bytes judged → length p.head.items + length bytes ≤ 12
  piece_short judged e j =
      let none : length p.head.items ≡ 0 = ap length head in
      let short : length bytes < 12 = judged_short bars s inner p.levels p.position bytes judged e j in
      omega arith

  pub piece_waits : {T : Type 0} (held : Option (List ℕ)) (new : Cursor) (judged : Judged) (x : T) → Judges at_bar inner p.levels p.position bytes judged → judged ≡ judge.More → reading new None ≡ record (reading p None) { head = p.head.items ++ bytes }
      → Feeds bars step writes (reading p None) s held (reading new) s held (take (length bytes) bytes) (Ok x)
  piece_waits held new judged x j e n =
      let k : Judges at_bar inner p.levels p.position bytes judge.More = subst (Judges at_bar inner p.levels p.position bytes) e j in
      let same : reading new None ≡ in_head bars step writes p.position bytes (held_sign p) p.levels =
      n
      ∙ ap (λ (z : List ℕ). record { position = p.position; head = z ++ bytes; left = p.left; sign = held_sign p; levels = p.levels; halt = None }) head
      ∙ ap (λ (m : ℕ). record { position = p.position; head = bytes; left = m; sign = held_sign p; levels = p.levels; halt = None }) left in
      subst (λ (bs : List ℕ). Feeds bars step writes (reading p None) s held (reading new) s held bs (Ok x)) (sym (take_all (length bytes) bytes (omega arith)))
      (from_place held s held (reading new) bytes (Ok x) (feeds_held bars step writes p.position (held_sign p) p.levels s held (reading new) bytes x within (ap is_undecided (stop_at bytes ∙ k)) same))

  -- the head is refused
  pub piece_refused : (T : Type 0) (held : Option (List ℕ)) (judged : Judged) (fault : Fault) (halt : Halt) → 0 < length bytes → Judges at_bar inner p.levels p.position bytes judged → judged ≡ judge.Refused fault
      → halt ≡ Refused (record { fault = fault; at = p.position }) → Feeds {T = T} bars step writes (reading p None) s held (reading p) s held bytes (Err halt)
  piece_refused T held judged fault halt some j e n =
      let k : Judges at_bar inner p.levels p.position bytes (judge.Refused fault) = subst (Judges at_bar inner p.levels p.position bytes) e j in
      let stop : Stop = refused fault p.position in
      let same : reading p (Some stop) ≡ halted (in_head bars step writes p.position [] (held_sign p) p.levels) stop =
      ap (λ (z : List ℕ). record { position = p.position; head = z; left = p.left; sign = held_sign p; levels = p.levels; halt = Some stop }) head
      ∙ ap (λ (m : ℕ). record { position = p.position; head = []; left = m; sign = held_sign p; levels = p.levels; halt = Some stop }) left in
      from_place {T = T} held s held (reading p) bytes (Err halt) (feeds_fault bars step writes p.position (held_sign p) p.levels s T held (reading p) bytes fault halt some within k.1 (stop_at bytes ∙ k.0) n same)

  -- something opens or ends
  record Opened_at (o : Opening) (size : ℕ) : Type 0 where
    none : place_stop at_bar inner p.levels p.position bytes ≡ None
    opens : (begin : ℕ) → head_opens begin bytes p.levels ≡ opened_by begin p.levels o
    come : MayCome inner p.levels p.position bytes
    size_is : SizeIs at_bar inner p.levels p.position bytes come size

  opened_at : (judged : Judged) (o : Opening) (size : ℕ) → Judges at_bar inner p.levels p.position bytes judged → judged ≡ judge.Opens o size → Opened_at o size
  opened_at judged o size j e =
      let k : Judges at_bar inner p.levels p.position bytes (judge.Opens o size) = subst (Judges at_bar inner p.levels p.position bytes) e j in
      let f = place_none at_bar inner p.levels p.position bytes k.0 in
      let m : MayCome inner p.levels p.position bytes = record { room_for = f.room_for; eight = f.eight; allowed = f.allowed } in
      record { none = k.0; opens = k.1; come = m; size_is = (whole_head at_bar inner p.levels p.position bytes m k.2.0 size (sym k.2.1)).size_is }

  pub piece_fits : (judged : Judged) (o : Opening) (size : ℕ) → Judges at_bar inner p.levels p.position bytes judged → judged ≡ judge.Opens o size → (0 < size) × (size ≤ length bytes)
  piece_fits judged o size j e =
      let a = opened_at judged o size j e in
      let eight : 8 ≤ size = eight_of at_bar inner p.levels p.position bytes a.come a.none size a.size_is in
      (omega arith, fits_of at_bar inner p.levels p.position bytes a.come a.none size a.size_is)

  pub piece_few : (judged : Judged) (o : Opening) (size begin : ℕ) → Stands (reading p None) → Judges at_bar inner p.levels p.position bytes judged → judged ≡ judge.Opens o size → length (opened_by begin p.levels o).levels ≤ 129
  piece_few judged o size begin stands j e =
      let a = opened_at judged o size j e in
      let small : Small (head_opens begin bytes p.levels).levels =
      levels_accept at_bar begin p.levels p.position bytes (record { nested = stands.small.nested; shallow = stands.small.shallow }) (stop_at bytes ∙ a.none) in
      let same = subst (λ (z : Opened). Small z.levels) (a.opens begin) small in
      few (opened_by begin p.levels o).levels same.nested same.shallow

  pub piece_opens : {T : Type 0} (held : Option (List ℕ)) (t : S) (holds : Option (List ℕ)) (new : Option Stop → Reading) (judged : Judged) (o : Opening) (size : ℕ) (r : Result T Halt) → Judges at_bar inner p.levels p.position bytes judged → judged ≡ judge.Opens o size
      → Comes step writes s held t holds new (entered (p.position + size) (opened_by (p.position + size) p.levels o)) r → Feeds bars step writes (reading p None) s held new t holds (take size bytes) r
  piece_opens held t holds new judged o size r j e h =
      let a = opened_at judged o size j e in
      let fits = piece_fits judged o size j e in
      let z = take size bytes in
      let w = drop size bytes in
      let front = take (size - 1) bytes in
      let b : ℕ = get_or bytes (size - 1) 0 in
      let whole : bytes ≡ z ++ w = sym (take-append-drop size bytes) in
      let long : length z ≡ size = length-take-le size bytes fits.1 in
      let before : length front ≡ size - 1 = length-take-le (size - 1) bytes (omega (arith, fits.1)) in
      let last : z ≡ front ++ b ∷ [] = last_apart size bytes fits.0 fits.1 in
      let rest : bytes ≡ front ++ drop (size - 1) bytes = sym (take-append-drop (size - 1) bytes) in
      let none = whole_none at_bar inner p.levels p.position bytes a.come a.none (sinks_never_early bars s) size z w a.size_is whole long in
      let begin : ℕ = p.position + length (front ++ b ∷ []) in
      let place : p.position + size ≡ begin = ap (λ (n : ℕ). p.position + n) (sym long ∙ ap length last) in
      let same : opened_by (p.position + size) p.levels o ≡ head_opens begin (front ++ b ∷ []) p.levels =
      sym (a.opens (p.position + size))
      ∙ ap (λ (x : List ℕ). head_opens (p.position + size) x p.levels) whole
      ∙ opens_at (p.position + size) z w inner p.levels is (let eight = eight_of at_bar inner p.levels p.position bytes a.come a.none size a.size_is in omega (arith, long, eight))
      (element_of at_bar inner p.levels p.position bytes a.come a.none size z w a.size_is whole long)
      ∙ ap (λ (n : ℕ). head_opens n z p.levels) place
      ∙ ap (λ (x : List ℕ). head_opens begin x p.levels) last in
      let come : Comes step writes s held t holds new (entered begin (head_opens begin (front ++ b ∷ []) p.levels)) r =
      subst (λ (x : Opened). Comes step writes s held t holds new (entered begin x) r) same (subst (λ (n : ℕ). Comes step writes s held t holds new (entered n (opened_by (p.position + size) p.levels o)) r) place h) in
      subst (λ (x : List ℕ). Feeds bars step writes (reading p None) s held new t holds x r) (sym last)
      (from_place held t holds new (front ++ b ∷ []) r
      (feeds_whole bars step writes p.position (held_sign p) p.levels s held t holds new front b r (omega (arith, before, fits.0, fits.1, within))
      (ap is_undecided (stop_at front) ∙ before_undecided at_bar inner p.levels p.position bytes a.come a.none size front (drop (size - 1) bytes) a.size_is rest (omega (arith, before, fits.0)))
      (stop_at (front ++ b ∷ []) ∙ ap (place_stop at_bar inner p.levels p.position) (sym last) ∙ none) come))

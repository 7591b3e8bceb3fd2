-- What many bytes lead to.
use Rattle.std.proofs.Common.{◌≡◌, ◌<◌, ℕ, zero, suc, ◌+◌, ◌*◌, ◌%◌, ◌==◌, ◌&&◌, List, [], ◌∷◌, ◌++◌, length, take, drop, codes, ap, sym, ◌∙◌, arith, refl, append_assoc, cond, false, Bool, fold, eq-eqb, ne_eqb, subst, suc-mul, get_or}
use Rattle.std.specs.Prelude.{count_by, Option, Result, Ok, Err, OnOk, IsErr}
use Rattle.std.specs.Io.KnownBytes.{append_known}
use Rattle.dcm_lemmas.proofs.Options.{known_nothing}
use Rattle.dcm_devices.specs.Device.{Puts, AppendsFront}
use Rattle.std.proofs.lemmas.List.{length-append, append-nil, take-append-drop, length-take, length-drop}
use Rattle.std.proofs.lemmas.List.Sums.{fold-append, sum_by-cons}
use Rattle.dcm_base.specs.Tables.Representation.{pad}
use Rattle.dcm_base.specs.Steps.Steps.{outputs, Goes}
use Rattle.dcm_base.specs.Tree.Value.{pieces}
use Rattle.dcm_base.specs.Dump.ValueText.{shown_unit, escape, escaped}
use Rattle.dcm_devices.proofs.Writes.Puts.{puts_behind, puts_err, front_longer}
use Rattle.dcm_base.proofs.Writes.Runs.{outputs-append}
use Rattle.std.proofs.Math.Seq.{take-length}
use Rattle.std.proofs.lemmas.List.{take_more}
use Rattle.dcm_value.specs.declared.way.Way.{Way}
use Rattle.dcm_value.specs.declared.way.Way.TheVariants.{InBrackets, ByName, InUnits}
use Rattle.dcm_value.specs.Display.{Display, emit, at_once}
use Rattle.dcm_value.specs.Units.{one_text, separated}
use Rattle.dcm_value.specs.Progress.{Progress, way, further, waits, step, writes, adds, adds_as, held_as, counts_as, is_whole, is_pad_byte, separator, opening, opening_writes, opened, feeds}
use Rattle.dcm_value.proofs.Displays.Emits.{IsSettled, emit_twice, emit_settled, emit_mode, once_none, once_append}

-- bytes that lead from one progress to another, and show this
pub record Leads (p : Progress) (v : List ℕ) (q : Progress) (t : List ℕ) : Type 0 where
  pub state : fold step p v ≡ q
  pub bytes : outputs step writes p v ≡ at_once p.display.mode t

pub leads_nowhere : (p : Progress) → Leads p [] p []
leads_nowhere p = record { state = refl; bytes = sym (once_none p.display.mode) }

pub leads_to : {p q r : Progress} {v t : List ℕ} → Leads p v q t → q ≡ r → Leads p v r t
leads_to {p} {q} {r} {v} {t} l e = record { state = l.state ∙ e; bytes = l.bytes }

pub leads_on : {p q r : Progress} {v w t u : List ℕ} → Leads p v q t → Leads q w r u → q.display.mode ≡ p.display.mode → Leads p (v ++ w) r (t ++ u)
leads_on {p} {q} {r} {v} {w} {t} {u} a b m = record {
  state = fold-append step p v w ∙ ap (λ x. fold step x w) a.state ∙ b.state;
  bytes =
      outputs-append step writes p v w
      ∙ ap (λ x. outputs step writes p v ++ outputs step writes x w) a.state
      ∙ ap (λ xs. xs ++ outputs step writes q w) a.bytes
      ∙ ap (λ xs. at_once p.display.mode t ++ xs) (b.bytes ∙ ap (λ x. at_once x u) m)
      ∙ sym (once_append p.display.mode t u);
}

-- one byte
leads_one : (p : Progress) (b : ℕ) (w : Way) → way p ≡ w → Leads p (b ∷ []) (further p 1 (held_as w p b) (counts_as w p b) (adds_as w p b)) (adds_as w p b)
unfolding step writes
leads_one p b w e = record {
  state = ap (λ x. further p 1 (held_as x p b) (counts_as x p b) (adds_as x p b)) e;
  bytes = append-nil (at_once p.display.mode (adds p b)) ∙ ap (λ x. at_once p.display.mode (adds_as x p b)) e;
}

-- records of progress, from their parts
pub same_progress : (p : Progress) (m n : ℕ) (g h : List ℕ) (a b : ℕ) (d e : Display) → m ≡ n → g ≡ h → a ≡ b → d ≡ e → (let q : Progress = record p { seen = m; held = g; values = a; display = d } in q) ≡ record p { seen = n; held = h; values = b; display = e }
same_progress p m n g h a b d e s t u v = λ i. record p { seen = s i; held = t i; values = u i; display = v i }

pub further_twice : (p : Progress) (m n : ℕ) (g h : List ℕ) (a b : ℕ) (t u : List ℕ) → further (further p m g a t) n h b u ≡ further p (m + n) h (a + b) (t ++ u)
further_twice p m n g h a b t u = same_progress p _ _ _ _ _ _ _ _ (omega arith) refl (omega arith) (emit_twice p.display t u)

-- where nothing is shown
pub waits_as : (p : Progress) (n : ℕ) (held bytes : List ℕ) → IsSettled p.display → n ≡ length bytes → held ≡ p.held ++ bytes → further p n held 0 [] ≡ waits p bytes
waits_as p n held bytes settled e h = same_progress p _ _ _ _ _ _ _ _ (omega arith) h (omega arith) settled

pub waits_none : (p : Progress) → waits p [] ≡ p
waits_none p = same_progress p _ _ _ _ _ _ _ _ (omega arith) (append-nil p.held) refl refl

waits_twice : (p : Progress) (v w : List ℕ) → waits (waits p v) w ≡ waits p (v ++ w)
waits_twice p v w = same_progress p _ _ _ _ _ _ _ _ (omega (arith, length-append v w)) (append_assoc p.held v w) refl refl

-- bytes that wait for all
pub leads_name : (p : Progress) (v : List ℕ) → way p ≡ ByName → IsSettled p.display → Leads p v (waits p v) []
leads_name p [] e settled = leads_to (leads_nowhere p) (sym (waits_none p))
leads_name p (b ∷ bs) e settled =
    let one : Leads p (b ∷ []) (waits p (b ∷ [])) [] = leads_to (leads_one p b ByName e) (waits_as p 1 _ (b ∷ []) settled refl refl) in
    leads_to (leads_on one (leads_name (waits p (b ∷ [])) bs e settled) refl) (waits_twice p (b ∷ []) bs)

-- bytes of a unit that stays short
pub leads_part : (p : Progress) (v : List ℕ) → way p ≡ InUnits → IsSettled p.display → length p.held + length v < shown_unit p.vr → Leads p v (waits p v) []
leads_part p [] e settled l = leads_to (leads_nowhere p) (sym (waits_none p))
leads_part p (b ∷ bs) e settled l =
    let u : List ℕ = p.held ++ b ∷ [] in
    let long : length u ≡ length p.held + 1 = length-append p.held (b ∷ []) in
    let short : is_whole p b ≡ false = ne_eqb (length u) (shown_unit p.vr) (λ x. omega (arith, x)) in
    let one : Leads p (b ∷ []) (waits p (b ∷ [])) [] = part_of short in
    leads_to (leads_on one (leads_part (waits p (b ∷ [])) bs e settled (omega arith)) refl) (waits_twice p (b ∷ []) bs)
  where
    part_of : is_whole p b ≡ false → Leads p (b ∷ []) (waits p (b ∷ [])) []
    part_of short =
        let whole : Bool → List ℕ = λ t. cond t (separator p.values ++ one_text p.vr p.syntax (p.held ++ b ∷ [])) [] in
        let to : Bool → Progress = λ t. further p 1 (cond t [] (p.held ++ b ∷ [])) (cond t 1 0) (whole t) in
        let l : Leads p (b ∷ []) (to (is_whole p b)) (whole (is_whole p b)) = leads_one p b InUnits e in
        let P : Bool → Type 0 = λ t. Leads p (b ∷ []) (to t) (whole t) in
        leads_to (subst P short l) (waits_as p 1 (p.held ++ b ∷ []) (b ∷ []) settled refl refl)

-- bytes that make a unit whole
leads_whole : (p : Progress) (b : ℕ) → way p ≡ InUnits → length (p.held ++ b ∷ []) ≡ shown_unit p.vr → Leads p (b ∷ []) (further p 1 [] 1 (separator p.values ++ one_text p.vr p.syntax (p.held ++ b ∷ []))) (separator p.values ++ one_text p.vr p.syntax (p.held ++ b ∷ []))
leads_whole p b e size =
    let whole : Bool → List ℕ = λ t. cond t (separator p.values ++ one_text p.vr p.syntax (p.held ++ b ∷ [])) [] in
    let to : Bool → Progress = λ t. further p 1 (cond t [] (p.held ++ b ∷ [])) (cond t 1 0) (whole t) in
    let l : Leads p (b ∷ []) (to (is_whole p b)) (whole (is_whole p b)) = leads_one p b InUnits e in
    let P : Bool → Type 0 = λ t. Leads p (b ∷ []) (to t) (whole t) in
    subst P (eq-eqb (length (p.held ++ b ∷ [])) (shown_unit p.vr) size) l

pub leads_unit : (p : Progress) (v : List ℕ) → way p ≡ InUnits → IsSettled p.display → 0 < length v → length p.held + length v ≡ shown_unit p.vr → Leads p v (further p (length v) [] 1 (separator p.values ++ one_text p.vr p.syntax (p.held ++ v))) (separator p.values ++ one_text p.vr p.syntax (p.held ++ v))
leads_unit p [] e settled some size = absurd (omega arith)
leads_unit p (b ∷ []) e settled some size = leads_whole p b e (length-append p.held (b ∷ []) ∙ size)
leads_unit p (b ∷ c ∷ cs) e settled some size =
    let one : Leads p (b ∷ []) (waits p (b ∷ [])) [] = leads_part p (b ∷ []) e settled (omega arith) in
    let q : Progress = waits p (b ∷ []) in
    let long : length q.held ≡ length p.held + 1 = length-append p.held (b ∷ []) in
    let rest = leads_unit q (c ∷ cs) e settled (omega arith) (omega arith) in
    let joined : q.held ++ c ∷ cs ≡ p.held ++ b ∷ c ∷ cs = append_assoc p.held (b ∷ []) (c ∷ cs) in
    let shown : List ℕ → List ℕ = λ u. separator p.values ++ one_text p.vr p.syntax u in
    let P : List ℕ → Type 0 = λ u. Leads p (b ∷ c ∷ cs) (further p (length (b ∷ c ∷ cs)) [] 1 (shown u)) (shown u) in
    subst P joined
    (leads_to (leads_on one rest refl) (same_progress p _ _ _ _ _ _ _ _ (omega arith) refl refl refl))

-- units that are not the first
pub leads_units : (n : ℕ) (p : Progress) (v : List ℕ) → way p ≡ InUnits → IsSettled p.display → p.held ≡ [] → 0 < p.values → length v ≡ n * shown_unit p.vr → 0 < shown_unit p.vr
    → Leads p v (further p (length v) [] n (separated (one_text p.vr p.syntax) (pieces n (shown_unit p.vr) v))) (separated (one_text p.vr p.syntax) (pieces n (shown_unit p.vr) v))
leads_units zero p [] e settled none some size k = leads_to (leads_nowhere p) (sym (same_progress p _ _ _ _ _ _ _ _ (omega arith) (sym none) (omega arith) settled))
leads_units zero p (b ∷ bs) e settled none some size k = absurd (omega arith)
leads_units (suc n) p v e settled none some size k =
    let unit : ℕ = shown_unit p.vr in
    let u : List ℕ = take unit v in
    let w : List ℕ = drop unit v in
    let one : List ℕ → List ℕ = one_text p.vr p.syntax in
    let is_unit : length u ≡ unit = omega (arith, length-take unit v, suc-mul n unit) in
    let rest : length w ≡ n * unit = omega (arith, length-drop unit v, suc-mul n unit) in
    let empty : length p.held ≡ 0 = ap length none in
    let first = leads_unit p u e settled (omega arith) (omega arith) in
    let text : separator p.values ++ one (p.held ++ u) ≡ 92 ∷ one u = ap (λ t. cond t [] (codes "\\") ++ one (p.held ++ u)) (ne_eqb p.values 0 (λ x. omega (arith, x))) ∙ ap (λ h. 92 ∷ one (h ++ u)) none in
    let Q : List ℕ → Type 0 = λ t. Leads p u (further p (length u) [] 1 t) t in
    let first_shown : Leads p u (further p (length u) [] 1 (92 ∷ one u)) (92 ∷ one u) = subst Q text first in
    let q : Progress = further p (length u) [] 1 (92 ∷ one u) in
    let others = leads_units n q w e (emit_settled p.display (92 ∷ one u)) refl (omega arith) rest k in
    let shown : List ℕ = separated one (pieces n unit w) in
    let P : List ℕ → Type 0 = λ x. Leads p x (further p (length v) [] (suc n) ((92 ∷ one u) ++ shown)) ((92 ∷ one u) ++ shown) in
    subst P (take-append-drop unit v)
    (leads_to (leads_on first_shown others (emit_mode p.display (92 ∷ one u)))
    (further_twice p (length u) (length w) [] [] 1 n (92 ∷ one u) shown ∙ same_progress p _ _ _ _ _ _ _ _ (omega (arith, suc-mul n unit)) refl (omega arith) refl))

-- bytes of a text that are not the last
pub leads_text : (p : Progress) (v : List ℕ) → way p ≡ InBrackets → IsSettled p.display → p.seen + length v < p.size → Leads p v (further p (length v) p.held (count_by (λ b. b == 92) v) (escaped v)) (escaped v)
leads_text p [] e settled l = leads_to (leads_nowhere p) (sym (same_progress p _ _ _ _ _ _ _ _ (omega arith) refl (omega arith) settled))
leads_text p (b ∷ bs) e settled l =
    let inner : is_pad_byte p b ≡ false = ap (λ t. t && (p.size % 2 == 0 && b == pad p.vr)) (ne_eqb (p.seen + 1) p.size (λ x. omega (arith, x))) in
    let text : Bool → List ℕ = λ t. cond t [] (escape b) in
    let P : Bool → Type 0 = λ t. Leads p (b ∷ []) (further p 1 p.held (cond (b == 92) 1 0) (text t)) (text t) in
    let one : Leads p (b ∷ []) (further p 1 p.held (cond (b == 92) 1 0) (escape b)) (escape b) = subst P inner (leads_one p b InBrackets e) in
    let q : Progress = further p 1 p.held (cond (b == 92) 1 0) (escape b) in
    leads_to (leads_on one (leads_text q bs e (emit_settled p.display (escape b)) (omega arith)) (emit_mode p.display (escape b)))
    (further_twice p 1 (length bs) p.held p.held (cond (b == 92) 1 0) (count_by (λ x. x == 92) bs) (escape b) (escaped bs)
    ∙ same_progress p _ _ _ _ _ _ _ _ (omega arith) refl (ap (λ k. p.values + k) (sym (sum_by-cons (λ x. cond (x == 92) 1 0) b bs))) refl)

-- the last byte of a text
pub leads_last : (p : Progress) (b : ℕ) → way p ≡ InBrackets → p.seen + 1 ≡ p.size → (let t : List ℕ = cond (p.size % 2 == 0 && b == pad p.vr) [] (escape b) in Leads p (b ∷ []) (further p 1 p.held (cond (b == 92) 1 0) t) t)
leads_last p b e last =
    let text : Bool → List ℕ = λ t. cond (t && (p.size % 2 == 0 && b == pad p.vr)) [] (escape b) in
    let P : Bool → Type 0 = λ t. Leads p (b ∷ []) (further p 1 p.held (cond (b == 92) 1 0) (text t)) (text t) in
    subst P (eq-eqb (p.seen + 1) p.size last) (leads_one p b InBrackets e)

-- a call that leads on
pub leads_goes : {T E : Type 0} (p q : Progress) (held : Option (List ℕ)) (now : Progress) (holds : Option (List ℕ)) (v t : List ℕ) (r : Result T E) → Leads p v q t → OnOk r (now ≡ q) → Puts held holds (at_once p.display.mode t) r → Goes step writes p held now holds v r
leads_goes {T} {E} p q held now holds v t (Ok x) l state bytes = (state ∙ sym l.state, bytes ∙ ap (append_known held) (sym l.bytes))
leads_goes {T} {E} p q held now holds v t (Err x) l state bytes = subst (AppendsFront held holds) (sym l.bytes) bytes

-- one that shows a text
pub shown_goes : {T E : Type 0} (p : Progress) (held : Option (List ℕ)) (now : Progress) (holds : Option (List ℕ)) (v : List ℕ) (n : ℕ) (h : List ℕ) (k : ℕ) (t : List ℕ) (r : Result T E) → Leads p v (further p n h k t) t → now ≡ record (further p n h k t) { display = now.display } → OnOk r (now.display ≡ emit p.display t) → Puts held holds (at_once p.display.mode t) r → Goes step writes p held now holds v r
shown_goes {T} {E} p held now holds v n h k t (Ok x) l same state bytes = leads_goes {T = T} {E = E} p (further p n h k t) held now holds v t (Ok x) l (same ∙ ap (λ d. record (further p n h k t) { display = d }) state) bytes
shown_goes {T} {E} p held now holds v n h k t (Err x) l same state bytes = leads_goes {T = T} {E = E} p (further p n h k t) held now holds v t (Err x) l tt bytes

pub shown_further : {T E : Type 0} (p now : Progress) (n : ℕ) (h : List ℕ) (k : ℕ) (t : List ℕ) (r : Result T E) → now ≡ record (further p n h k t) { display = now.display } → OnOk r (now.display ≡ emit p.display t) → OnOk r (now ≡ further p n h k t)
shown_further p now n h k t (Ok x) same state = same ∙ ap (λ d. record (further p n h k t) { display = d }) state
shown_further p now n h k t (Err x) same state = tt

-- one that shows nothing
pub waits_goes : (p : Progress) (held : Option (List ℕ)) (now : Progress) (v : List ℕ) → Leads p v (waits p v) [] → now ≡ waits p v → (now ≡ fold step p v) × (held ≡ append_known held (outputs step writes p v))
waits_goes p held now v l state = (state ∙ sym l.state, sym (ap (append_known held) (l.bytes ∙ once_none p.display.mode) ∙ known_nothing held))

-- the bytes before the last, and the last
pub last_apart : (xs : List ℕ) (n : ℕ) → n + 1 ≡ length xs → xs ≡ take n xs ++ get_or xs n 0 ∷ []
last_apart xs n e = sym (ap (λ k. take k xs) e ∙ take-length xs) ∙ take_more xs n 0 (omega arith)

-- what an opening makes of it
pub opened_as : (p : Progress) (d : Display) → d ≡ emit p.display (opening p) → (let q : Progress = record p { display = d } in q) ≡ opened p
unfolding opened
opened_as p d e = ap (λ x. record p { display = x }) e

-- bytes behind the opening
pub feeds_on : {T E : Type 0} (p q : Progress) (old mid : Option (List ℕ)) (t : Progress) (new : Option (List ℕ)) (xs : List ℕ) (r : Result T E) → q ≡ opened p → mid ≡ append_known old (opening_writes p) → Goes step writes q mid t new xs r → Puts old new (feeds p xs) r
feeds_on {T} {E} p q old mid t new xs r is went goes =
    subst (λ x. Puts {T = T} {E = E} old new (opening_writes p ++ outputs step writes x xs) r) is (puts_behind old mid new (opening_writes p) (outputs step writes q xs) r went (puts_of r goes))
  where
    puts_of : (r : Result T E) → Goes step writes q mid t new xs r → Puts mid new (outputs step writes q xs) r
    puts_of (Ok x) h = h.1
    puts_of (Err x) h = h

pub opening_failed : {T E : Type 0} (old new : Option (List ℕ)) (p : Progress) (xs : List ℕ) (r : Result T E) → IsErr r → AppendsFront old new (opening_writes p) → Puts old new (feeds p xs) r
opening_failed old new p xs r failed h = puts_err old new (feeds p xs) r failed (front_longer (outputs step writes (opened p) xs) h)

-- where nothing more is shown
pub opening_waits : (p q : Progress) (old mid : Option (List ℕ)) (v : List ℕ) → q ≡ opened p → mid ≡ append_known old (opening_writes p) → Leads q v (waits q v) [] → mid ≡ append_known old (feeds p v)
opening_waits p q old mid v is went l =
    let none : outputs step writes (opened p) v ≡ [] = ap (λ x. outputs step writes x v) (sym is) ∙ l.bytes ∙ once_none q.display.mode in
    went ∙ ap (append_known old) (sym (ap (λ xs. opening_writes p ++ xs) none ∙ append-nil (opening_writes p)))

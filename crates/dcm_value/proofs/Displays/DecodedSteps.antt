-- What many bytes of a text by Specific Character Set lead to.
use Rattle.std.proofs.Common.{◌≡◌, ◌<◌, ◌≤◌, ℕ, ◌+◌, ◌-◌, ◌%◌, ◌==◌, ◌&&◌, ◌||◌, List, [], ◌∷◌, ◌++◌, length, take, get_or, slice_index, codes, ap, sym, ◌∙◌, arith, refl, append_assoc, cond, true, false, Bool, fold, eq-eqb, ne_eqb, subst}
use Rattle.std.specs.Prelude.{Option, Result, Ok, Err, OnOk, IsErr}
use Rattle.std.specs.Io.KnownBytes.{append_known}
use Rattle.std.proofs.lemmas.List.{length-append, length-take, append-nil}
use Rattle.std.proofs.lemmas.List.Sums.{fold-append}
use Rattle.std.proofs.lemmas.Bool.{cases_lt}
use mathlib.Core.Logic.{⊎_elim}
use Rattle.dcm_lemmas.proofs.Options.{known_nothing}
use Rattle.dcm_devices.specs.Device.{Puts, AppendsFront}
use Rattle.dcm_base.specs.declared.vr.Vr.{Vr}
use Rattle.dcm_base.specs.Tables.Representation.{pad}
use Rattle.dcm_base.specs.Dump.ValueText.{unpadded}
use Rattle.dcm_base.specs.Steps.Steps.{outputs, Goes}
use Rattle.dcm_base.proofs.Writes.Runs.{outputs-append}
use Rattle.dcm_devices.proofs.Writes.Puts.{puts_behind, puts_err, front_longer}
use Rattle.dcm_text.specs.Runs.{State, Run, run, joined}
use Rattle.dcm_value.specs.Decoded.{backslashes}
use Rattle.dcm_value.specs.Display.{Display, emit, at_once}
use Rattle.dcm_value.specs.Way.{without_pad}
use Rattle.dcm_value.specs.DecodedProgress.{DecodedProgress, is_named, is_pad_byte, next_run, name_after, shown_pieces, further, step, writes, opening, opening_writes, opened, feeds, last_run, closing, closed, decoded_identified}
use Rattle.dcm_value.proofs.Displays.Emits.{IsSettled, emit_twice, emit_settled, emit_mode, once_none, once_append}
use Rattle.dcm_value.proofs.Displays.Steps.{last_apart}
use Rattle.dcm_value.proofs.Displays.TextEnds.{without_last, without_none}
use Rattle.dcm_value.proofs.Displays.DecodedRuns.{decided, decided_more, shown_joined, backslashes_joined, run_nothing}

-- bytes that lead from one progress to another, and show this
pub record Leads (p : DecodedProgress) (v : List ℕ) (q : DecodedProgress) (t : List ℕ) : Type 0 where
  pub state : fold step p v ≡ q
  pub bytes : outputs step writes p v ≡ at_once p.display.mode t

pub leads_nowhere : (p : DecodedProgress) → Leads p [] p []
leads_nowhere p = record { state = refl; bytes = sym (once_none p.display.mode) }

pub leads_to : {p q r : DecodedProgress} {v t u : List ℕ} → Leads p v q t → q ≡ r → t ≡ u → Leads p v r u
leads_to {p} {q} {r} {v} {t} {u} l e f = record { state = l.state ∙ e; bytes = l.bytes ∙ ap (at_once p.display.mode) f }

pub leads_on : {p q r : DecodedProgress} {v w t u : List ℕ} → Leads p v q t → Leads q w r u → q.display.mode ≡ p.display.mode → Leads p (v ++ w) r (t ++ u)
leads_on {p} {q} {r} {v} {w} {t} {u} a b m = record {
  state = fold-append step p v w ∙ ap (λ x. fold step x w) a.state ∙ b.state;
  bytes =
      outputs-append step writes p v w
      ∙ ap (λ x. outputs step writes p v ++ outputs step writes x w) a.state
      ∙ ap (λ xs. xs ++ outputs step writes q w) a.bytes
      ∙ ap (λ xs. at_once p.display.mode t ++ xs) (b.bytes ∙ ap (λ x. at_once x u) m)
      ∙ sym (once_append p.display.mode t u);
}

-- ---- one byte

pub leads_by : (p : DecodedProgress) (b : ℕ) (name : List ℕ) (r : Run) → name_after p (b ∷ []) ≡ name → next_run p b ≡ r
    → Leads p (b ∷ []) (further p 1 name r) (shown_pieces r)
unfolding step writes
leads_by p b name r same is = record {
  state = ap (λ n. further p 1 n (next_run p b)) same ∙ ap (further p 1 name) is;
  bytes = append-nil (at_once p.display.mode (shown_pieces (next_run p b))) ∙ ap (λ x. at_once p.display.mode (shown_pieces x)) is;
}

-- ---- records of progress, from their parts

pub same_progress : (p : DecodedProgress) (m n : ℕ) (g h : List ℕ) (s t : State) (a b : ℕ) (d e : Display) → m ≡ n → g ≡ h → s ≡ t → a ≡ b → d ≡ e
    → (let q : DecodedProgress = record p { seen = m; name = g; state = s; values = a; display = d } in q) ≡ record p { seen = n; name = h; state = t; values = b; display = e }
same_progress p m n g h s t a b d e x y z u v = λ i. record p { seen = x i; name = y i; state = z i; values = u i; display = v i }

pub further_as : (p : DecodedProgress) (m n : ℕ) (g h : List ℕ) (r q : Run) → m ≡ n → g ≡ h → r ≡ q → further p m g r ≡ further p n h q
further_as p m n g h r q e f k = λ i. further p (e i) (f i) (k i)

pub further_twice : (p : DecodedProgress) (m n : ℕ) (g h : List ℕ) (r q : Run) → further (further p m g r) n h q ≡ further p (m + n) h (joined r q)
further_twice p m n g h r q =
    same_progress p _ _ _ _ _ _ _ _ _ _ (omega arith) refl refl (omega (arith, backslashes_joined r q))
    (emit_twice p.display (shown_pieces r) (shown_pieces q) ∙ ap (emit p.display) (sym (shown_joined r q)))

-- where nothing comes
pub further_none : (p : DecodedProgress) → IsSettled p.display → further p 0 p.name ([], p.state) ≡ p
further_none p settled = same_progress p _ _ _ _ _ _ _ _ _ _ (omega arith) refl refl (omega arith) settled

-- ---- bytes that wait for all

pub leads_name : (p : DecodedProgress) (v : List ℕ) → is_named p.vr p.size ≡ true → IsSettled p.display
    → Leads p v (further p (length v) (p.name ++ v) ([], p.state)) []
leads_name p [] e settled =
    leads_to (leads_nowhere p) (sym (further_as p 0 0 (p.name ++ []) p.name ([], p.state) ([], p.state) refl (append-nil p.name) refl ∙ further_none p settled)) refl
leads_name p (b ∷ bs) e settled =
    let name : name_after p (b ∷ []) ≡ p.name ++ b ∷ [] = ap (λ t. cond t (p.name ++ b ∷ []) p.name) e in
    let none : next_run p b ≡ ([], p.state) = ap (λ t. cond (t || is_pad_byte p b) ([], p.state) (run false p.state (b ∷ []))) e in
    let q : DecodedProgress = further p 1 (p.name ++ b ∷ []) ([], p.state) in
    let one : Leads p (b ∷ []) q [] = leads_by p b (p.name ++ b ∷ []) ([], p.state) name none in
    leads_to (leads_on one (leads_name q bs e (emit_settled p.display [])) (emit_mode p.display []))
    (further_twice p 1 (length bs) (p.name ++ b ∷ []) (q.name ++ bs) ([], p.state) ([], p.state)
    ∙ further_as p (1 + length bs) (length (b ∷ bs)) (q.name ++ bs) (p.name ++ b ∷ bs) ([], p.state) ([], p.state) (omega arith) (append_assoc p.name (b ∷ []) bs) refl)
    refl

-- ---- bytes of a text

-- a byte that is no pad byte
next_of : (p : DecodedProgress) (b : ℕ) (t : Bool) → is_named p.vr p.size ≡ false → is_pad_byte p b ≡ t → next_run p b ≡ decided p.state (cond t [] (b ∷ []))
next_of p b t e f =
    ap (λ x. cond (x || is_pad_byte p b) ([], p.state) (run false p.state (b ∷ []))) e
    ∙ ap (λ x. cond x ([], p.state) (run false p.state (b ∷ []))) f
    ∙ go t
  where
    go : (t : Bool) → cond t ([], p.state) (run false p.state (b ∷ [])) ≡ decided p.state (cond t [] (b ∷ []))
    go true = refl
    go false = refl

-- a byte, of which this is shown
leads_byte : (p : DecodedProgress) (b : ℕ) (t : Bool) → is_named p.vr p.size ≡ false → is_pad_byte p b ≡ t
    → (let r : Run = decided p.state (cond t [] (b ∷ [])) in Leads p (b ∷ []) (further p 1 p.name r) (shown_pieces r))
leads_byte p b t e f =
    leads_by p b p.name (decided p.state (cond t [] (b ∷ []))) (ap (λ x. cond x (p.name ++ b ∷ []) p.name) e) (next_of p b t e f)

-- bytes that show what they are without the pad byte
abbrev pub Shows : DecodedProgress → List ℕ → List ℕ → Type 0
Shows p v t = Leads p v (further p (length v) p.name (decided p.state t)) (shown_pieces (decided p.state t))

-- one part and another
shows_on : (p : DecodedProgress) (v w t u : List ℕ) → Shows p v t
    → Shows (further p (length v) p.name (decided p.state t)) w u → Shows p (v ++ w) (t ++ u)
shows_on p v w t u a b =
    let r : Run = decided p.state t in
    let q : Run = decided r.1 u in
    leads_to (leads_on a b (emit_mode p.display (shown_pieces r)))
    (further_twice p (length v) (length w) p.name p.name r q
    ∙ further_as p (length v + length w) (length (v ++ w)) p.name p.name (joined r q) (decided p.state (t ++ u)) (sym (length-append v w)) refl (sym (decided_more p.state t u)))
    (sym (shown_joined r q) ∙ ap shown_pieces (sym (decided_more p.state t u)))

-- not the last
pub leads_text : (p : DecodedProgress) (v : List ℕ) → is_named p.vr p.size ≡ false → IsSettled p.display → p.seen + length v < p.size → Shows p v v
leads_text p [] e settled l = leads_to (leads_nowhere p) (sym (further_none p settled)) refl
leads_text p (b ∷ bs) e settled l =
    let inner : is_pad_byte p b ≡ false = ap (λ t. t && (p.size % 2 == 0 && b == pad p.vr)) (ne_eqb (p.seen + 1) p.size (λ x. omega (arith, x))) in
    let r : Run = decided p.state (b ∷ []) in
    shows_on p (b ∷ []) bs (b ∷ []) bs (leads_byte p b false e inner)
    (leads_text (further p 1 p.name r) bs e (emit_settled p.display (shown_pieces r)) (omega arith))

-- the last
leads_last : (p : DecodedProgress) (b : ℕ) → is_named p.vr p.size ≡ false → p.seen + 1 ≡ p.size
    → Shows p (b ∷ []) (cond (p.size % 2 == 0 && b == pad p.vr) [] (b ∷ []))
leads_last p b e last =
    leads_byte p b (p.size % 2 == 0 && b == pad p.vr) e (ap (λ t. t && (p.size % 2 == 0 && b == pad p.vr)) (eq-eqb (p.seen + 1) p.size last))

init_last : (t : Bool) (init : List ℕ) (b : ℕ) → init ++ cond t [] (b ∷ []) ≡ cond t init (init ++ b ∷ [])
init_last true init b = append-nil init
init_last false init b = refl

ends_in : (p : DecodedProgress) (init : List ℕ) (b : ℕ) → is_named p.vr p.size ≡ false → IsSettled p.display → p.seen + (length init + 1) ≡ p.size
    → Shows p (init ++ b ∷ []) (without_pad p.vr (p.size % 2 == 0) (init ++ b ∷ []))
ends_in p init b e settled last =
    let t : Bool = p.size % 2 == 0 && b == pad p.vr in
    let r : Run = decided p.state init in
    subst (Shows p (init ++ b ∷ [])) (init_last t init b ∙ sym (without_last p.vr (p.size % 2 == 0) init b))
    (shows_on p init (b ∷ []) init (cond t [] (b ∷ [])) (leads_text p init e settled (omega arith))
    (leads_last (further p (length init) p.name r) b e (omega arith)))

pub leads_end : (p : DecodedProgress) (v : List ℕ) → is_named p.vr p.size ≡ false → IsSettled p.display → p.seen + length v ≡ p.size
    → Shows p v (without_pad p.vr (p.size % 2 == 0) v)
leads_end p [] e settled last =
    let none : [] ≡ without_pad p.vr (p.size % 2 == 0) [] = sym (without_none (p.size % 2 == 0 && slice_index [] 0 == pad p.vr) [] refl) in
    let nothing : Shows p [] [] = leads_to (leads_nowhere p) (sym (further_none p settled)) refl in
    subst (Shows p []) none nothing
leads_end p (b ∷ bs) e settled last =
    let v : List ℕ = b ∷ bs in
    let n : ℕ = length bs in
    let apart : v ≡ take n v ++ get_or v n 0 ∷ [] = last_apart v n (omega arith) in
    let long : length v ≡ length (take n v) + 1 = ap length apart ∙ length-append (take n v) (get_or v n 0 ∷ []) in
    subst (λ w. Shows p w (without_pad p.vr (p.size % 2 == 0) w)) (sym apart) (ends_in p (take n v) (get_or v n 0) e settled (omega arith))

-- bytes of a text, which may be its last
pub leads_some : (p : DecodedProgress) (v : List ℕ) → is_named p.vr p.size ≡ false → IsSettled p.display → p.seen + length v ≤ p.size
    → Shows p v (without_pad p.vr (p.seen + length v == p.size && p.size % 2 == 0) v)
leads_some p v e settled within =
    let P : Bool → Type 0 = λ t. Shows p v (without_pad p.vr (t && p.size % 2 == 0) v) in
    ⊎_elim
    (λ l. subst P (sym (ne_eqb (p.seen + length v) p.size (λ x. omega (arith, x)))) (leads_text p v e settled l))
    (λ l. let last : p.seen + length v ≡ p.size = omega arith in subst P (sym (eq-eqb (p.seen + length v) p.size last)) (leads_end p v e settled last))
    (cases_lt (p.seen + length v) p.size)

-- ---- calls

-- one that leads on
pub leads_goes : {T E : Type 0} (p q : DecodedProgress) (held : Option (List ℕ)) (now : DecodedProgress) (holds : Option (List ℕ)) (v t : List ℕ) (r : Result T E)
    → Leads p v q t → OnOk r (now ≡ q) → Puts held holds (at_once p.display.mode t) r → Goes step writes p held now holds v r
leads_goes {T} {E} p q held now holds v t (Ok x) l state bytes = (state ∙ sym l.state, bytes ∙ ap (append_known held) (sym l.bytes))
leads_goes {T} {E} p q held now holds v t (Err x) l state bytes = subst (AppendsFront held holds) (sym l.bytes) bytes

-- what an opening makes of it
pub opened_as : (p : DecodedProgress) (d : Display) → d ≡ emit p.display (opening p) → (let q : DecodedProgress = record p { display = d } in q) ≡ opened p
unfolding opened
opened_as p d e = ap (λ x. record p { display = x }) e

-- bytes behind the opening
pub feeds_on : {T E : Type 0} (p q : DecodedProgress) (old mid : Option (List ℕ)) (t : DecodedProgress) (new : Option (List ℕ)) (xs : List ℕ) (r : Result T E)
    → q ≡ opened p → mid ≡ append_known old (opening_writes p) → Goes step writes q mid t new xs r → Puts old new (feeds p xs) r
feeds_on {T} {E} p q old mid t new xs r is went goes =
    subst (λ x. Puts {T = T} {E = E} old new (opening_writes p ++ outputs step writes x xs) r) is (puts_behind old mid new (opening_writes p) (outputs step writes q xs) r went (puts_of r goes))
  where
    puts_of : (r : Result T E) → Goes step writes q mid t new xs r → Puts mid new (outputs step writes q xs) r
    puts_of (Ok x) h = h.1
    puts_of (Err x) h = h

pub opening_failed : {T E : Type 0} (old new : Option (List ℕ)) (p : DecodedProgress) (xs : List ℕ) (r : Result T E) → IsErr r
    → AppendsFront old new (opening_writes p) → Puts old new (feeds p xs) r
opening_failed old new p xs r failed h = puts_err old new (feeds p xs) r failed (front_longer (outputs step writes (opened p) xs) h)

-- where nothing more is shown
pub opening_waits : (p q r : DecodedProgress) (old mid : Option (List ℕ)) (v : List ℕ) → q ≡ opened p → mid ≡ append_known old (opening_writes p)
    → Leads q v r [] → mid ≡ append_known old (feeds p v)
opening_waits p q r old mid v is went l =
    let none : outputs step writes (opened p) v ≡ [] = ap (λ x. outputs step writes x v) (sym is) ∙ l.bytes ∙ once_none q.display.mode in
    went ∙ ap (append_known old) (sym (ap (λ xs. opening_writes p ++ xs) none ∙ append-nil (opening_writes p)))

-- one that decides this
pub shown_further : {T E : Type 0} (p now : DecodedProgress) (n : ℕ) (r : Run) (res : Result T E)
    → now ≡ record (further p n p.name r) { state = now.state; values = now.values; display = now.display }
    → OnOk res (now.state ≡ r.1) → OnOk res (now.values ≡ p.values + backslashes r.0) → OnOk res (now.display ≡ emit p.display (shown_pieces r))
    → OnOk res (now ≡ further p n p.name r)
shown_further p now n r (Ok x) same state values display =
    same ∙ same_progress (further p n p.name r) _ _ _ _ _ _ _ _ _ _ refl refl state values display
shown_further p now n r (Err x) same state values display = tt

-- what is left without the pad byte is not longer
pub without_within : (vr : Vr) (t : Bool) (v : List ℕ) → length (without_pad vr t v) ≤ length v
without_within vr t v = of_test (t && slice_index v (length v - 1) == pad vr)
  where
    of_test : (t : Bool) → length (cond t (take (length v - 1) v) v) ≤ length v
    of_test true = omega (arith, length-take (length v - 1) v)
    of_test false = omega arith

-- a text without bytes decides nothing
pub leads_empty : (p : DecodedProgress) (v t : List ℕ) → t ≡ [] → Shows p v t → Leads p v (further p (length v) p.name ([], p.state)) []
leads_empty p v t e l = subst (Shows p v) e l

pub waits_goes : (p : DecodedProgress) {q : DecodedProgress} (held : Option (List ℕ)) (now : DecodedProgress) (v : List ℕ) → Leads p v q [] → now ≡ q
    → (now ≡ fold step p v) × (held ≡ append_known held (outputs step writes p v))
waits_goes p {q} held now v l state = (state ∙ sym l.state, sym (ap (append_known held) (l.bytes ∙ once_none p.display.mode) ∙ known_nothing held))

-- ---- the end

pub closes_text : (p : DecodedProgress) → (p.size == 0) ≡ false → is_named p.vr p.size ≡ false → closing p ≡ shown_pieces (run true p.state []) ++ codes "]"
closes_text p some text =
    ap (λ t. cond t (codes "(no value available)") (cond (is_named p.vr p.size) (decoded_identified (unpadded p.vr p.name)) (shown_pieces (last_run p) ++ codes "]"))) some
    ∙ ap (λ t. cond t (decoded_identified (unpadded p.vr p.name)) (shown_pieces (cond t ([], p.state) (run true p.state [])) ++ codes "]")) text

pub closes_name : (p : DecodedProgress) → (p.size == 0) ≡ false → is_named p.vr p.size ≡ true → closing p ≡ decoded_identified (unpadded p.vr p.name)
closes_name p some name =
    ap (λ t. cond t (codes "(no value available)") (cond (is_named p.vr p.size) (decoded_identified (unpadded p.vr p.name)) (shown_pieces (last_run p) ++ codes "]"))) some
    ∙ ap (λ t. cond t (decoded_identified (unpadded p.vr p.name)) (shown_pieces (last_run p) ++ codes "]")) name

-- the end decides this
pub last_text : (p : DecodedProgress) → is_named p.vr p.size ≡ false → last_run p ≡ run true p.state []
last_text p text = ap (λ t. cond t ([], p.state) (run true p.state [])) text

pub last_name : (p : DecodedProgress) → is_named p.vr p.size ≡ true → last_run p ≡ ([], p.state)
last_name p name = ap (λ t. cond t ([], p.state) (run true p.state [])) name

pub last_none : (p : DecodedProgress) → length p.state.held ≡ 0 → last_run p ≡ ([], p.state)
last_none p none = of_test (is_named p.vr p.size)
  where
    of_test : (t : Bool) → cond t ([], p.state) (run true p.state []) ≡ ([], p.state)
    of_test true = refl
    of_test false = run_nothing true p.state none

pub closed_on : {T E : Type 0} (p now : DecodedProgress) (r : Run) (res : Result T E) → last_run p ≡ r
    → now ≡ record p { state = now.state; values = now.values; display = now.display }
    → now.state ≡ r.1 → now.values ≡ p.values + backslashes r.0 → OnOk res (now.display ≡ emit p.display (closing p)) → OnOk res (now ≡ closed p)
closed_on p now r (Ok x) last same state values display =
    same ∙ same_progress p _ _ _ _ _ _ _ _ _ _ refl refl (state ∙ ap (λ (q : Run). q.1) (sym last)) (values ∙ ap (λ (q : Run). p.values + backslashes q.0) (sym last)) display
closed_on p now r (Err x) last same state values display = tt

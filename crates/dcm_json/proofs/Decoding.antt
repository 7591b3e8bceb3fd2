-- Parts of a text, as they are decoded.
use Rattle.std.proofs.Common.{◌≡◌, ◌∙◌, ℕ, zero, suc, ◌+◌, ◌-◌, ◌≤◌, ◌<◌, ◌&&◌, Bool, true, false, not, cond, List, [], ◌∷◌, ◌++◌, length, map, refl, sym, ap, ap₂, arith, append_assoc, Option, Some, None}
use Rattle.std.specs.Prelude.{fold, if◌then◌else◌, take, filter, ◌==◌}
use Rattle.std.specs.List.{AllByRecursion, concat, list_all}
use Rattle.std.proofs.lemmas.List.{length-append, length-drop}
use Rattle.dcm_lemmas.proofs.Lists.{fold_append}
use Rattle.dcm_lemmas.proofs.Numbers.{equal_numbers}
use Rattle.dcm_text.proofs.Runs.{two_pieces, whole_run}
use Rattle.dcm_base.specs.Steps.Steps.{outputs}
use Rattle.dcm_text.specs.declared.decoder.Decoder.{Decoder}
use Rattle.dcm_base.specs.declared.vr.Vr.{Vr}
use Rattle.dcm_text.specs.declared.sets.Sets.{Sets}
use Rattle.dcm_text.specs.Decoding.{Piece, decoded}
use Rattle.dcm_value.specs.DecodedProgress.{kind_of, sets_for}
use Rattle.json.specs.Print.{print_from}
use Rattle.dcm_text.specs.Runs.{Run, State, begun, behind_found, bytes_left, found_in, onto, run, run_by, state_of, with_bytes}
use Rattle.dcm_text.specs.declared.first.Found.{Found}
use Rattle.dcm_text.specs.Shown.{cell_piece}
use Rattle.dcm_json.specs.declared.shape.Group.{Group}
use Rattle.dcm_json.specs.Shape.{is_cut, is_names, next_group, shape_of}
use Rattle.dcm_json.specs.TextState.{TextState, ends_in_nul, fed, feeds, finishes, finishes_from, parts_in, started, state_by, waited}
use Rattle.dcm_json.specs.Texts.{text_tokens, without_nul}
use Rattle.dcm_json.specs.Values as values
use Rattle.dcm_json.specs.Values.{Values, is_empty}
use Rattle.dcm_json.proofs.PartsAreValues.{parts_are_values}

-- ---- bytes that are left

pub few_bytes : (d : Decoder) (rest : List ℕ) → bytes_left d rest ≡ length d.held.items + length rest
unfolding bytes_left
few_bytes d rest = length-append d.held.items rest

-- a part is at most one space
at_most : (f : Values → ℕ) (t : Bool) (x y : Values) (n : ℕ) → f x ≤ n → f y ≤ n → f (if t then x else y) ≤ n
at_most f true x y n p q = p
at_most f false x y n p q = q

pub few_spaces : (v : Values) (x : List ℕ) → (values.step v x).spaces ≤ v.spaces + 1
few_spaces v x = at_most (λ (u : Values). u.spaces) (values.is_one 92 x && is_cut v.shape) (values.ended v) (values.step_by (values.group_behind v x) v x) (v.spaces + 1) (omega arith) (by_group (values.group_behind v x))
  where
    by_group : (g : Option Group) → (values.step_by g v x).spaces ≤ v.spaces + 1
    by_group (Some group) = omega arith
    by_group None =
        at_most (λ (u : Values). u.spaces) (values.is_one 32 x) (values.spaced v 1) (if values.is_empty x then v else values.shown v x) (v.spaces + 1)
        (at_most (λ (u : Values). u.spaces) (values.counts_spaces v) (record v { spaces = v.spaces + 1 }) v (v.spaces + 1) (omega arith) (omega arith))
        (at_most (λ (u : Values). u.spaces) (values.is_empty x) v (values.shown v x) (v.spaces + 1) (omega arith)
        (at_most (λ (u : Values). u.spaces) v.is_open (record v { spaces = 0 }) (if values.may_be_number v x then record v { digits = v.digits ++ x } else values.opened v) (v.spaces + 1) (omega arith)
        (at_most (λ (u : Values). u.spaces) (values.may_be_number v x) (record v { digits = v.digits ++ x }) (values.opened v) (v.spaces + 1) (omega arith) (omega arith))))

-- ---- the first part of a run

pub part_first : (v : Values) (r q : Run) (p : Piece) (x : List ℕ) → r ≡ onto p q → x ≡ cell_piece p
    → outputs values.step values.writes v (parts_in r) ≡ values.writes v x ++ outputs values.step values.writes (values.step v x) (parts_in q)
part_first v r q p x e h =
    ap (λ (s : Run). outputs values.step values.writes v (parts_in s)) e
    ∙ sym (ap (λ (y : List ℕ). values.writes v y ++ outputs values.step values.writes (values.step v y) (parts_in q)) h)

pub part_state : (v : Values) (r q : Run) (p : Piece) (x : List ℕ) → r ≡ onto p q → x ≡ cell_piece p
    → fold values.step (values.step v x) (parts_in q) ≡ fold values.step v (parts_in r)
part_state v r q p x e h =
    ap (λ (y : List ℕ). fold values.step (values.step v y) (parts_in q)) h
    ∙ sym (ap (λ (s : Run). fold values.step v (parts_in s)) e)

pub left_is : (r q : Run) (p : Piece) → r ≡ onto p q → q.1 ≡ r.1
left_is r q p e = sym (ap (λ (s : Run). s.1) e)

-- ---- what waits is no more than what came

run_waits : (n : ℕ) (at_end : Bool) (s : State) → length (run_by n at_end s).1.held ≤ length s.held
run_waits zero at_end s = omega arith
run_waits (suc n) at_end s = by_found (found_in at_end s) (λ f. run_waits n at_end (behind_found s f))
  where
    by_found : (o : Option Found) → ((f : Found) → length (run_by n at_end (behind_found s f)).1.held ≤ length (behind_found s f).held)
        → (let r : Run = elim o [ None ↦ ([], s) | Some f ↦ onto (take f.size s.held, f.meaning) (run_by n at_end (behind_found s f)) ] in length r.1.held ≤ length s.held)
    by_found None rec = omega arith
    by_found (Some f) rec = omega (arith, rec f, length-drop f.size s.held)

pub no_more_waits : (at_end : Bool) (s : State) (bytes : List ℕ) → length (run at_end s bytes).1.held ≤ length s.held + length bytes
unfolding run
no_more_waits at_end s bytes = omega (arith, run_waits (length (s.held ++ bytes)) at_end (with_bytes s bytes), length-append s.held bytes)

-- ---- a byte 00 at the end

pub nul_at_end : (front : List ℕ) (last : ℕ) → ends_in_nul (front ++ last ∷ []) ≡ (last == 0)
nul_at_end [] last = refl
nul_at_end (b ∷ []) last = refl
nul_at_end (b ∷ c ∷ front) last = nul_at_end (c ∷ front) last

pub nul_before : (front : List ℕ) (last : ℕ) → without_nul (front ++ last ∷ []) ≡ (if last == 0 then front else front ++ last ∷ [])
nul_before [] last = refl
nul_before (b ∷ []) last = chosen (last == 0)
  where
    chosen : (t : Bool) → b ∷ (if t then [] else last ∷ []) ≡ (if t then b ∷ [] else b ∷ last ∷ [])
    chosen true = refl
    chosen false = refl
nul_before (b ∷ c ∷ front) last = ap (λ (x : List ℕ). b ∷ x) (nul_before (c ∷ front) last) ∙ chosen (last == 0)
  where
    chosen : (t : Bool) → b ∷ (if t then c ∷ front else c ∷ (front ++ last ∷ [])) ≡ (if t then b ∷ c ∷ front else b ∷ c ∷ (front ++ last ∷ []))
    chosen true = refl
    chosen false = refl

-- ---- one run and then another

pub shown-append : (a b : List Piece) → map cell_piece (a ++ b) ≡ map cell_piece a ++ map cell_piece b
shown-append [] b = refl
shown-append (p ∷ a) b = ap (λ (x : List (List ℕ)). cell_piece p ∷ x) (shown-append a b)

pub outputs-append : (v : Values) (a b : List (List ℕ)) → outputs values.step values.writes v (a ++ b)
    ≡ outputs values.step values.writes v a ++ outputs values.step values.writes (fold values.step v a) b
outputs-append v [] b = refl
outputs-append v (x ∷ a) b =
    ap (λ (o : List ℕ). values.writes v x ++ o) (outputs-append (values.step v x) a b)
    ∙ sym (append_assoc (values.writes v x) (outputs values.step values.writes (values.step v x) a) (outputs values.step values.writes (fold values.step (values.step v x) a) b))

pub parts_both : (at_end : Bool) (s : State) (a b : List ℕ) → parts_in (run at_end s (a ++ b)) ≡ parts_in (run false s a) ++ parts_in (run at_end (run false s a).1 b)
parts_both at_end s a b = ap parts_in (two_pieces at_end s a b) ∙ shown-append (run false s a).0 (run at_end (run false s a).1 b).0

pub outputs_both : (v : Values) (at_end : Bool) (s : State) (a b : List ℕ) → outputs values.step values.writes v (parts_in (run at_end s (a ++ b)))
    ≡ outputs values.step values.writes v (parts_in (run false s a)) ++ outputs values.step values.writes (fold values.step v (parts_in (run false s a))) (parts_in (run at_end (run false s a).1 b))
outputs_both v at_end s a b = ap (outputs values.step values.writes v) (parts_both at_end s a b) ∙ outputs-append v (parts_in (run false s a)) (parts_in (run at_end (run false s a).1 b))

pub values_both : (v : Values) (at_end : Bool) (s : State) (a b : List ℕ) → fold values.step v (parts_in (run at_end s (a ++ b)))
    ≡ fold values.step (fold values.step v (parts_in (run false s a))) (parts_in (run at_end (run false s a).1 b))
values_both v at_end s a b = ap (fold values.step v) (parts_both at_end s a b) ∙ fold_append values.step v (parts_in (run false s a)) (parts_in (run at_end (run false s a).1 b))

pub state_both : (at_end : Bool) (s : State) (a b : List ℕ) → (run at_end s (a ++ b)).1 ≡ (run at_end (run false s a).1 b).1
state_both at_end s a b = ap (λ (r : Run). r.1) (two_pieces at_end s a b)

-- ---- a text that is fed

pub fed_is : (left : ℕ) (waits : Bool) (d e : Decoder) (v u : Values) (bytes front : List ℕ) (w : Bool) (before : List ℕ) → front ≡ without_nul bytes → w ≡ ends_in_nul bytes → before ≡ waited waits
    → state_of e ≡ (run false (state_of d) (before ++ front)).1 → u ≡ fold values.step v (parts_in (run false (state_of d) (before ++ front)))
    → state_by (left - length bytes) w e u ≡ fed (state_by left waits d v) bytes
unfolding fed
fed_is left waits d e v u bytes front w before f n b s p =
    let together : before ++ front ≡ waited waits ++ without_nul bytes = ap₂ (λ (x y : List ℕ). x ++ y) b f in
    let same : Bool → State → Values → TextState = λ x y z. record { left = left - length bytes; waits = x; state = y; values = z } in
    ap (λ (x : Bool). same x (state_of e) u) n
    ∙ ap (λ (x : State). same (ends_in_nul bytes) x u) (s ∙ ap (λ (x : List ℕ). (run false (state_of d) x).1) together)
    ∙ ap (λ (x : Values). same (ends_in_nul bytes) (run false (state_of d) (waited waits ++ without_nul bytes)).1 x) (p ∙ ap (λ (x : List ℕ). fold values.step v (parts_in (run false (state_of d) x))) together)

pub feeds_is : (left : ℕ) (waits : Bool) (d : Decoder) (v : Values) (bytes front before : List ℕ) → front ≡ without_nul bytes → before ≡ waited waits
    → outputs values.step values.writes v (parts_in (run false (state_of d) (before ++ front))) ≡ feeds (state_by left waits d v) bytes
unfolding feeds
feeds_is left waits d v bytes front before f b =
    ap (λ (x : List ℕ). outputs values.step values.writes v (parts_in (run false (state_of d) x))) (ap₂ (λ (x y : List ℕ). x ++ y) b f)

pub finishes_is : (left : ℕ) (waits : Bool) (d : Decoder) (v : Values) → finishes_from (state_of d) v ≡ finishes (state_by left waits d v)
unfolding finishes
finishes_is left waits d v = refl

-- ---- texts in pieces

waited_nul : (b : Bool) → without_nul (waited b ++ []) ≡ []
waited_nul true = refl
waited_nul false = refl

-- a byte 00 at the end of a piece is the last one only where nothing follows
pub nul_pieces : (p v : List ℕ) → 0 < length p → without_nul (p ++ v) ≡ without_nul p ++ without_nul (waited (ends_in_nul p) ++ v)
nul_pieces [] v h = absurd (omega (arith, h))
nul_pieces (b ∷ []) v h = by_nul (b == 0) refl v
  where
    by_nul : (t : Bool) → (b == 0) ≡ t → (v : List ℕ) → without_nul (b ∷ v) ≡ (if b == 0 then [] else b ∷ []) ++ without_nul (waited (b == 0) ++ v)
    by_nul true e [] = rw e refl
    by_nul true e (c ∷ v) = rw (e, equal_numbers b 0 e) refl
    by_nul false e [] = rw e refl
    by_nul false e (c ∷ v) = rw e refl
nul_pieces (b ∷ c ∷ p) v h = ap (λ (x : List ℕ). b ∷ x) (nul_pieces (c ∷ p) v (omega arith))

-- the whole of what is left of a text
abbrev whole : TextState → List ℕ → List ℕ
whole t v =
    let bytes : List ℕ = without_nul (waited t.waits ++ v) in
    outputs values.step values.writes t.values (parts_in (run true t.state bytes)) ++ values.finishes (fold values.step t.values (parts_in (run true t.state bytes)))

abbrev fed_all : TextState → List (List ℕ) → TextState
fed_all t pieces = fold fed t pieces

whole_end : (t : TextState) → finishes t ≡ whole t []
unfolding finishes
whole_end t = ap (λ (x : List ℕ). outputs values.step values.writes t.values (parts_in (run true t.state x)) ++ values.finishes (fold values.step t.values (parts_in (run true t.state x)))) (sym (waited_nul t.waits))

front_of : (b : Bool) (p v : List ℕ) → 0 < length p → without_nul (waited b ++ (p ++ v)) ≡ (waited b ++ without_nul p) ++ without_nul (waited (ends_in_nul p) ++ v)
front_of false p v h = nul_pieces p v h
front_of true [] v h = absurd (omega (arith, h))
front_of true (c ∷ p) v h = ap (λ (x : List ℕ). 0 ∷ x) (nul_pieces (c ∷ p) v h)

whole_more : (t : TextState) (p v : List ℕ) → 0 < length p → feeds t p ++ whole (fed t p) v ≡ whole t (p ++ v)
unfolding fed feeds
whole_more t p v h =
    let a : List ℕ = waited t.waits ++ without_nul p in
    let b : List ℕ = without_nul (waited (ends_in_nul p) ++ v) in
    let s : State = (run false t.state a).1 in
    let u : Values = fold values.step t.values (parts_in (run false t.state a)) in
    let last : List ℕ = values.finishes (fold values.step u (parts_in (run true s b))) in
    sym (append_assoc (outputs values.step values.writes t.values (parts_in (run false t.state a))) (outputs values.step values.writes u (parts_in (run true s b))) last)
    ∙ ap₂ (λ (x : List ℕ) (y : Values). x ++ values.finishes y) (sym (outputs_both t.values true t.state a b)) (sym (values_both t.values true t.state a b))
    ∙ sym (ap (λ (x : List ℕ). outputs values.step values.writes t.values (parts_in (run true t.state x)) ++ values.finishes (fold values.step t.values (parts_in (run true t.state x)))) (front_of t.waits p v h))

pub pieces_whole : (t : TextState) (pieces : List (List ℕ)) → AllByRecursion (λ (p : List ℕ). 0 < length p) pieces
    → outputs fed feeds t pieces ++ finishes (fed_all t pieces) ≡ whole t (concat pieces)
pieces_whole t [] h = whole_end t
pieces_whole t (p ∷ pieces) h =
    append_assoc (feeds t p) (outputs fed feeds (fed t p) pieces) (finishes (fed_all (fed t p) pieces))
    ∙ ap (λ (x : List ℕ). feeds t p ++ x) (pieces_whole (fed t p) pieces h.1)
    ∙ whole_more t p (concat pieces) h.0

-- parts that show nothing change nothing
nothing_shown : (v : Values) (x : List ℕ) → is_empty x ≡ true → (values.step v x ≡ v) × (values.writes v x ≡ [])
nothing_shown v [] e = (rw_names (is_names v.shape), rw_writes (is_names v.shape))
  where
    rw_names : (t : Bool) → values.step_by (if t && false then next_group v.group else None) v [] ≡ v
    rw_names true = refl
    rw_names false = refl

    rw_writes : (t : Bool) → values.writes_by (if t && false then next_group v.group else None) v [] ≡ []
    rw_writes true = refl
    rw_writes false = refl
nothing_shown v (b ∷ x) e = absurd (cc)

abbrev shows : List ℕ → Bool
shows x = not (is_empty x)

only_shown : (v : Values) (parts : List (List ℕ))
    → (outputs values.step values.writes v parts ≡ outputs values.step values.writes v (filter shows parts)) × (fold values.step v parts ≡ fold values.step v (filter shows parts))
only_shown v [] = (refl, refl)
only_shown v (x ∷ parts) = by_test (is_empty x) refl (λ u. only_shown u parts)
  where
    by_test : (t : Bool) → is_empty x ≡ t
        → ((u : Values) → (outputs values.step values.writes u parts ≡ outputs values.step values.writes u (filter shows parts)) × (fold values.step u parts ≡ fold values.step u (filter shows parts)))
        → (values.writes v x ++ outputs values.step values.writes (values.step v x) parts ≡ outputs values.step values.writes v (cond (not (is_empty x)) (x ∷ filter shows parts) (filter shows parts)))
        × (fold values.step (values.step v x) parts ≡ fold values.step v (cond (not (is_empty x)) (x ∷ filter shows parts) (filter shows parts)))
    by_test true e rec =
        let none = nothing_shown v x e in (
          ap₂ (λ (a : List ℕ) (u : Values). a ++ outputs values.step values.writes u parts) none.1 none.0 ∙ (rec v).0
              ∙ sym (ap (λ (t : Bool). outputs values.step values.writes v (cond (not t) (x ∷ filter shows parts) (filter shows parts))) e),
          ap (λ (u : Values). fold values.step u parts) none.0 ∙ (rec v).1
              ∙ sym (ap (λ (t : Bool). fold values.step v (cond (not t) (x ∷ filter shows parts) (filter shows parts))) e),
        )
    by_test false e rec = (
      ap (λ (a : List ℕ). values.writes v x ++ a) (rec (values.step v x)).0
          ∙ sym (ap (λ (t : Bool). outputs values.step values.writes v (cond (not t) (x ∷ filter shows parts) (filter shows parts))) e),
      (rec (values.step v x)).1
          ∙ sym (ap (λ (t : Bool). fold values.step v (cond (not t) (x ∷ filter shows parts) (filter shows parts))) e),
    )

all_shown : (parts : List (List ℕ)) → list_all shows (filter shows parts) ≡ true
all_shown [] = refl
all_shown (x ∷ parts) = by_test (is_empty x) refl (all_shown parts)
  where
    by_test : (t : Bool) → is_empty x ≡ t → list_all shows (filter shows parts) ≡ true → list_all shows (cond (not (is_empty x)) (x ∷ filter shows parts) (filter shows parts)) ≡ true
    by_test true e rec = ap (λ (t : Bool). list_all shows (cond (not t) (x ∷ filter shows parts) (filter shows parts))) e ∙ rec
    by_test false e rec = ap (λ (t : Bool). list_all shows (cond (not t) (x ∷ filter shows parts) (filter shows parts))) e ∙ ap (λ (t : Bool). not t && list_all shows (filter shows parts)) e ∙ rec

pub texts_whole : (sets : Sets) (vr : Vr) (size : ℕ) (value : List ℕ) → whole (started vr sets size) value ≡ print_from true (text_tokens sets vr value)
texts_whole sets vr size value =
    let s : State = begun (sets_for vr sets) (kind_of vr) in
    let v : Values = values.blank (shape_of vr) false in
    let all : List (List ℕ) = map cell_piece (decoded (sets_for vr sets) (kind_of vr) (without_nul value)) in
    let same : parts_in (run true s (without_nul value)) ≡ all = ap (map cell_piece) (whole_run (sets_for vr sets) (kind_of vr) (without_nul value)) in
    ap (λ (x : List (List ℕ)). outputs values.step values.writes v x ++ values.finishes (fold values.step v x)) same
    ∙ ap₂ (λ (x : List ℕ) (y : Values). x ++ values.finishes y) (only_shown v all).0 (only_shown v all).1
    ∙ parts_are_values (shape_of vr) (filter shows all) (all_shown all)

pub text_pieces : (sets : Sets) (vr : Vr) (size : ℕ) (pieces : List (List ℕ)) → AllByRecursion (λ (p : List ℕ). 0 < length p) pieces
    → outputs fed feeds (started vr sets size) pieces ++ finishes (fold fed (started vr sets size) pieces) ≡ print_from true (text_tokens sets vr (concat pieces))
text_pieces sets vr size pieces h = pieces_whole (started vr sets size) pieces h ∙ texts_whole sets vr size (concat pieces)

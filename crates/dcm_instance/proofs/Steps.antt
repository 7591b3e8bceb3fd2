-- The steps of the sink.
use Rattle.std.proofs.Common.{◌≡◌, ◌∙◌, ap, sym, refl, ℕ, List, [], ◌∷◌, map, fold, Bool, true, false}
use Rattle.std.specs.Prelude.{if◌then◌else◌}
use Rattle.dcm_lemmas.proofs.Choice.{if_false, if_true}
use Rattle.dcm_base.specs.Steps.Atoms.{Atom, opens, value_byte, closes_leaf, opens_item, closes_item, closes_sequence, opens_fragment, ends}
use Rattle.dcm_base.specs.Reading.Stop.{Stop, complete, refused}
use Rattle.dcm_stream.specs.declared.token.Token.{Token}
use Rattle.dcm_stream.specs.declared.token.Token.TheVariants.{Open as open_token, Bytes, CloseLeaf, OpenItem, CloseItem, CloseSeq, OpenFragment, End}
use Rattle.dcm_stream.specs.Reading.{end_shows}
use Rattle.dcm_stream.specs.Tokens.{atoms_of}
use Rattle.dcm_instance.specs.declared.value.Progress.{Progress}
use Rattle.dcm_instance.specs.declared.value.Progress.TheVariants.{Missing, Open, Ended}
use Rattle.dcm_instance.specs.UidSink.{Held, UidState, Value, after_bytes, held_where, is_decided, step, uids_next, with_bytes}

-- ---- bytes of a value

none_more : (g : Progress) (h : Held) → held_where g h [] ≡ h
none_more Missing h = refl
none_more Open h = refl
none_more Ended h = refl

one_by_one : (g : Progress) (h : Held) (b : ℕ) (bytes : List ℕ) → held_where g (held_where g h (b ∷ [])) bytes ≡ held_where g h (b ∷ bytes)
one_by_one Missing h b bytes = refl
one_by_one Open h b bytes = refl
one_by_one Ended h b bytes = refl

value_of : Progress → Held → Value
value_of g h = record { progress = g; held = h }

value_none : (v : Value) → after_bytes v [] ≡ v
unfolding value_of
value_none v = ap (value_of v.progress) (none_more v.progress v.held)

value_more : (v : Value) (b : ℕ) (bytes : List ℕ) → after_bytes (after_bytes v (b ∷ [])) bytes ≡ after_bytes v (b ∷ bytes)
unfolding value_of
value_more v b bytes = ap (value_of v.progress) (one_by_one v.progress v.held b bytes)

state_of : ℕ → Bool → Value → Value → Value → UidState
state_of d past a b c = record { depth = d; is_past = past; study = a; series = b; instance = c }

alike : (d : ℕ) (past : Bool) (a b c x y z : Value) → a ≡ x → b ≡ y → c ≡ z → state_of d past a b c ≡ state_of d past x y z
alike d past a b c x y z e f g =
    ap (λ (v : Value). state_of d past v b c) e
    ∙ ap (λ (v : Value). state_of d past x v c) f
    ∙ ap (λ (v : Value). state_of d past x y v) g

pub bytes_step : (bytes : List ℕ) (p : UidState) → fold step p (map value_byte bytes) ≡ with_bytes p bytes
unfolding state_of
bytes_step [] p = sym (alike p.depth p.is_past _ _ _ _ _ _ (value_none p.study) (value_none p.series) (value_none p.instance))
bytes_step (b ∷ bytes) p =
    bytes_step bytes (with_bytes p (b ∷ []))
    ∙ alike p.depth p.is_past _ _ _ _ _ _ (value_more p.study b bytes) (value_more p.series b bytes) (value_more p.instance b bytes)

-- ---- while it is undecided, and from then on

undecided_atom : (p : UidState) (a : Atom) → is_decided p ≡ false → uids_next p a ≡ step p a
undecided_atom p a e = if_false (is_decided p) p (step p a) e

pub undecided_bytes : (bytes : List ℕ) (p : UidState) → is_decided p ≡ false → fold uids_next p (map value_byte bytes) ≡ fold step p (map value_byte bytes)
undecided_bytes [] p e = refl
undecided_bytes (b ∷ bytes) p e =
    ap (λ (q : UidState). fold uids_next q (map value_byte bytes)) (undecided_atom p (value_byte b) e)
    ∙ undecided_bytes bytes (with_bytes p (b ∷ [])) e

pub undecided_token : (t : Token) (p : UidState) → is_decided p ≡ false → fold uids_next p (atoms_of t) ≡ fold step p (atoms_of t)
undecided_token (open_token head syntax) p e = undecided_atom p (opens head.tag head.vr head.length syntax) e
undecided_token (Bytes bytes) p e = undecided_bytes bytes.now p e
undecided_token CloseLeaf p e = undecided_atom p closes_leaf e
undecided_token (OpenItem declared) p e = undecided_atom p (opens_item declared) e
undecided_token CloseItem p e = undecided_atom p closes_item e
undecided_token CloseSeq p e = undecided_atom p closes_sequence e
undecided_token (OpenFragment size) p e = undecided_atom p (opens_fragment size) e
undecided_token End p e = undecided_atom p ends e

pub decided_atoms : (atoms : List Atom) (p : UidState) → is_decided p ≡ true → fold uids_next p atoms ≡ p
decided_atoms [] p e = refl
decided_atoms (a ∷ atoms) p e =
    ap (λ (q : UidState). fold uids_next q atoms) (if_true (is_decided p) p (step p a) e) ∙ decided_atoms atoms p e

-- ---- the input's end

either : (t : Bool) (p : UidState) → (if t then p else p) ≡ p
either true p = refl
either false p = refl

pub end_stays : (p : UidState) (stop : Stop) → fold uids_next p (end_shows stop) ≡ p
end_stays p complete = either (is_decided p) p
end_stays p (refused fault offset) = refl

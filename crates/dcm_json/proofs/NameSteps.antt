-- Names that are written part by part: what is left to write of one, from any place within it.
use Rattle.std.proofs.Common.{◌≡◌, ◌∙◌, ℕ, ◌&&◌, Bool, true, false, not, List, [], ◌∷◌, ◌++◌, replicate, refl, sym, subst, ap, ap₂, append_assoc, append-nil, Some, None}
use Rattle.std.specs.Prelude.{if◌then◌else◌, flat_map, codes}
use Rattle.std.specs.List.{before_first, after_first}
use Rattle.dcm_lemmas.proofs.Truth.{and_false, and_first, and_second, false_true}
use Rattle.dcm_lemmas.proofs.Choice.{if_false}
use Rattle.json.specs.Print.{escape}
use Rattle.dcm_json.specs.declared.shape.TextShape.{TextShape}
use Rattle.dcm_json.specs.declared.shape.TextShape.TheVariants.{Names}
use Rattle.dcm_json.specs.declared.shape.Group.{Group}
use Rattle.dcm_json.specs.declared.shape.Group.TheVariants.{Alphabetic, Ideographic, Phonetic}
use Rattle.dcm_json.specs.Shape.{next_group}
use Rattle.dcm_json.specs.Values.{Values, before, group_behind, group_opening, is_blank, is_empty, is_one, shown, shown_writes, step, string_end, value_end, writes}
use Rattle.dcm_json.specs.Texts.{Parts, is_backslash, is_equals, is_space, text_of}
use Rattle.dcm_json.proofs.PartLists.{waiting, one_is, one_more_waits, text_behind, no_text, not_empty, escaped_behind, before_more, behind_more, before_with_spaces, behind_with_spaces}

-- ---- the members of a name, as they are written

abbrev pub member_text : Group → List ℕ → List (List ℕ)
member_text group text = if is_empty text then [] else (group_opening group ++ (escape text ++ codes "\"")) ∷ []

-- the parts of a group, where it begins here
abbrev pub own_parts : Group → Parts → Parts
own_parts Alphabetic w = before_first is_equals w
own_parts Ideographic w = before_first is_equals w
own_parts Phonetic w = w

abbrev pub phonetic_texts : Parts → List (List ℕ)
phonetic_texts w = member_text Phonetic (text_of w)

abbrev pub ideographic_texts : Parts → List (List ℕ)
ideographic_texts w = member_text Ideographic (text_of (before_first is_equals w)) ++ phonetic_texts (after_first is_equals w)

-- those of the groups behind it
abbrev pub texts_behind : Group → Parts → List (List ℕ)
texts_behind Alphabetic w = ideographic_texts (after_first is_equals w)
texts_behind Ideographic w = phonetic_texts (after_first is_equals w)
texts_behind Phonetic w = []

abbrev pub texts_from : Group → Parts → List (List ℕ)
texts_from group w = member_text group (text_of (own_parts group w)) ++ texts_behind group w

abbrev pub commas : List (List ℕ) → List ℕ
commas texts = flat_map (λ (t : List ℕ). 44 ∷ t) texts

abbrev pub enclosed : List (List ℕ) → List ℕ
enclosed [] = codes "null"
enclosed (t ∷ texts) = codes "{" ++ (t ++ (commas texts ++ codes "}"))

-- ---- a name on its way

abbrev pub name_on_way : (begun : Bool) → Group → (has_members is_open : Bool) → (spaces : ℕ) → Values
name_on_way begun group has_members is_open spaces = record {
  shape = Names;
  begun = begun;
  group = group;
  has_members = has_members;
  digits = [];
  is_open = is_open;
  spaces = spaces;
}

-- what is left to write of it
abbrev pub left_closed : (has_members : Bool) → (begun : Bool) → List (List ℕ) → List ℕ
left_closed true begun texts = commas texts ++ codes "}"
left_closed false begun texts = before begun ++ enclosed texts

abbrev pub left_open : Group → Parts → List ℕ
left_open group w = escape (text_of (own_parts group w)) ++ (codes "\"" ++ (commas (texts_behind group w) ++ codes "}"))

abbrev pub name_left : (begun : Bool) → Group → (has_members is_open : Bool) → (spaces : ℕ) → Parts → List ℕ
name_left begun group has_members true n w = left_open group (waiting n ++ w)
name_left begun group has_members false n w = left_closed has_members begun (texts_from group (waiting n ++ w))

-- ---- parts of a group

-- a `=` behind which another group begins
abbrev pub ends_group : Group → List ℕ → Bool
ends_group Alphabetic x = is_equals x
ends_group Ideographic x = is_equals x
ends_group Phonetic x = false

own_more : (group : Group) (n : ℕ) (x : List ℕ) (w : Parts) → ends_group group x ≡ false → own_parts group (waiting n ++ (x ∷ w)) ≡ waiting n ++ (x ∷ own_parts group w)
own_more Alphabetic n x w e = before_with_spaces n (x ∷ w) ∙ ap (λ (p : Parts). waiting n ++ p) (before_more x w e)
own_more Ideographic n x w e = before_with_spaces n (x ∷ w) ∙ ap (λ (p : Parts). waiting n ++ p) (before_more x w e)
own_more Phonetic n x w e = refl

behind_same : (group : Group) (n : ℕ) (x : List ℕ) (w : Parts) → ends_group group x ≡ false → texts_behind group (waiting n ++ (x ∷ w)) ≡ texts_behind group w
behind_same Alphabetic n x w e = ap ideographic_texts (behind_with_spaces n (x ∷ w) ∙ behind_more x w e)
behind_same Ideographic n x w e = ap phonetic_texts (behind_with_spaces n (x ∷ w) ∙ behind_more x w e)
behind_same Phonetic n x w e = refl

own_text : (group : Group) (n : ℕ) (x : List ℕ) (w : Parts) → ends_group group x ≡ false → is_space x ≡ false
    → text_of (own_parts group (waiting n ++ (x ∷ w))) ≡ replicate n 32 ++ (x ++ text_of (own_parts group w))
own_text group n x w e s = ap text_of (own_more group n x w e) ∙ text_behind n x (own_parts group w) s

-- a part that shows something makes a member
pub texts_shown : (group : Group) (n : ℕ) (x : List ℕ) (w : Parts) → ends_group group x ≡ false → is_space x ≡ false → is_empty x ≡ false
    → texts_from group (waiting n ++ (x ∷ w))
    ≡ (group_opening group ++ ((replicate n 32 ++ (escape x ++ escape (text_of (own_parts group w)))) ++ codes "\"")) ∷ texts_behind group w
texts_shown group n x w e s h =
    let t : List ℕ = text_of (own_parts group w) in
    let full : List ℕ = replicate n 32 ++ (x ++ t) in
    ap₂ (λ (a b : List (List ℕ)). a ++ b) (ap (member_text group) (own_text group n x w e s)) (behind_same group n x w e)
    ∙ ap (λ (a : List (List ℕ)). a ++ texts_behind group w) (if_false (is_empty full) [] ((group_opening group ++ (escape full ++ codes "\"")) ∷ []) (not_empty n x t h))
    ∙ ap (λ (a : List ℕ). (group_opening group ++ (a ++ codes "\"")) ∷ texts_behind group w) (escaped_behind n x t)

-- a `=` ends a group of which nothing more came
no_own : (group next : Group) (n : ℕ) (w : Parts) → next_group group ≡ Some next → text_of (own_parts group (waiting n ++ ((61 ∷ []) ∷ w))) ≡ []
no_own Alphabetic next n w e = ap text_of (before_with_spaces n ((61 ∷ []) ∷ w) ∙ append-nil (waiting n)) ∙ no_text n
no_own Ideographic next n w e = ap text_of (before_with_spaces n ((61 ∷ []) ∷ w) ∙ append-nil (waiting n)) ∙ no_text n
no_own Phonetic next n w e = absurd (cc)

pub behind_it : (group next : Group) (n : ℕ) (w : Parts) → next_group group ≡ Some next → texts_behind group (waiting n ++ ((61 ∷ []) ∷ w)) ≡ texts_from next w
behind_it Alphabetic Alphabetic n w e = absurd (cc)
behind_it Alphabetic Ideographic n w e = ap ideographic_texts (behind_with_spaces n ((61 ∷ []) ∷ w))
behind_it Alphabetic Phonetic n w e = absurd (cc)
behind_it Ideographic Alphabetic n w e = absurd (cc)
behind_it Ideographic Ideographic n w e = absurd (cc)
behind_it Ideographic Phonetic n w e = ap phonetic_texts (behind_with_spaces n ((61 ∷ []) ∷ w)) ∙ sym (append-nil (phonetic_texts w))
behind_it Phonetic next n w e = absurd (cc)

pub texts_ended : (group next : Group) (n : ℕ) (w : Parts) → next_group group ≡ Some next → texts_from group (waiting n ++ ((61 ∷ []) ∷ w)) ≡ texts_from next w
texts_ended group next n w e =
    ap₂ (λ (a : List ℕ) (b : List (List ℕ)). member_text group a ++ b) (no_own group next n w e) (behind_it group next n w e)

pub open_ended : (group next : Group) (n : ℕ) (w : Parts) → next_group group ≡ Some next
    → left_open group (waiting n ++ ((61 ∷ []) ∷ w)) ≡ codes "\"" ++ (commas (texts_from next w) ++ codes "}")
open_ended group next n w e =
    ap₂ (λ (a : List ℕ) (b : List (List ℕ)). escape a ++ (codes "\"" ++ (commas b ++ codes "}"))) (no_own group next n w e) (behind_it group next n w e)

pub open_shown : (group : Group) (n : ℕ) (x : List ℕ) (w : Parts) → ends_group group x ≡ false → is_space x ≡ false
    → left_open group (waiting n ++ (x ∷ w)) ≡ (replicate n 32 ++ (escape x ++ escape (text_of (own_parts group w)))) ++ (codes "\"" ++ (commas (texts_behind group w) ++ codes "}"))
open_shown group n x w e s =
    ap₂ (λ (a : List ℕ) (b : List (List ℕ)). escape a ++ (codes "\"" ++ (commas b ++ codes "}"))) (own_text group n x w e s) (behind_same group n x w e)
    ∙ ap (λ (a : List ℕ). a ++ (codes "\"" ++ (commas (texts_behind group w) ++ codes "}"))) (escaped_behind n x (text_of (own_parts group w)))

-- ---- steps

pub step_other : (v : Values) (x : List ℕ) → is_backslash x ≡ false → group_behind v x ≡ None → is_space x ≡ false → is_empty x ≡ false → step v x ≡ shown v x
step_other v x a b c d = rw (a, b, c, d) refl

pub writes_other : (v : Values) (x : List ℕ) → is_backslash x ≡ false → group_behind v x ≡ None → is_space x ≡ false → is_empty x ≡ false → writes v x ≡ shown_writes v x
writes_other v x a b c d = rw (a, b, c, d) refl

abbrev pub left_of_name : Values → Parts → List ℕ
left_of_name v w = name_left v.begun v.group v.has_members v.is_open v.spaces w

open_first : (b go r x t q c : List ℕ) → (b ++ (123 ∷ (go ++ ((r ++ (x ++ t)) ++ q) ++ (c ++ 125 ∷ [])))) ≡ (((b ++ (123 ∷ go)) ++ []) ++ (r ++ x)) ++ (t ++ (q ++ (c ++ 125 ∷ [])))
open_first b go r x t q c = simp (append_assoc, append-nil)

open_next : (go r x t q c : List ℕ) → (44 ∷ (go ++ ((r ++ (x ++ t)) ++ q))) ++ c ≡ (((44 ∷ go) ++ []) ++ (r ++ x)) ++ (t ++ (q ++ c))
open_next go r x t q c = plain go r x t q c ∙ sym (ap (λ (g : List ℕ). ((44 ∷ g) ++ (r ++ x)) ++ (t ++ (q ++ c))) (append-nil go))
  where
    plain : (go r x t q c : List ℕ) → (44 ∷ (go ++ ((r ++ (x ++ t)) ++ q))) ++ c ≡ ((44 ∷ go) ++ (r ++ x)) ++ (t ++ (q ++ c))
    plain go r x t q c = simp append_assoc

goes_on : (r x t c : List ℕ) → (r ++ (x ++ t)) ++ c ≡ (r ++ x) ++ (t ++ c)
goes_on r x t c = simp append_assoc

name_space : (begun : Bool) (group : Group) (m o : Bool) (n : ℕ) (w : Parts)
    → name_left begun group m o n ((32 ∷ []) ∷ w) ≡ writes (name_on_way begun group m o n) (32 ∷ []) ++ left_of_name (step (name_on_way begun group m o n) (32 ∷ [])) w
name_space begun group m true n w = ap (left_open group) (one_more_waits n w)
name_space begun group m false n w = ap (λ (p : Parts). left_closed m begun (texts_from group p)) (one_more_waits n w)

name_equals : (begun : Bool) (group next : Group) (m o : Bool) (n : ℕ) (w : Parts) → (o ≡ true → m ≡ true) → next_group group ≡ Some next
    → name_left begun group m o n ((61 ∷ []) ∷ w) ≡ string_end o ++ name_left begun next m false 0 w
name_equals begun group next true true n w i e = open_ended group next n w e
name_equals begun group next false true n w i e = absurd (false_true (i refl))
name_equals begun group next m false n w i e = ap (left_closed m begun) (texts_ended group next n w e)

name_shown : (begun : Bool) (group : Group) (m o : Bool) (n : ℕ) (x : List ℕ) (w : Parts) → (o ≡ true → m ≡ true)
    → ends_group group x ≡ false → is_space x ≡ false → is_empty x ≡ false
    → name_left begun group m o n (x ∷ w) ≡ shown_writes (name_on_way begun group m o n) x ++ left_of_name (shown (name_on_way begun group m o n) x) w
name_shown begun group true true n x w i e s h =
    open_shown group n x w e s
    ∙ goes_on (replicate n 32) (escape x) (escape (text_of (own_parts group w))) (codes "\"" ++ (commas (texts_behind group w) ++ codes "}"))
name_shown begun group false true n x w i e s h = absurd (false_true (i refl))
name_shown begun group true false n x w i e s h =
    ap (left_closed true begun) (texts_shown group n x w e s h)
    ∙ append_assoc (44 ∷ (group_opening group ++ ((replicate n 32 ++ (escape x ++ escape (text_of (own_parts group w)))) ++ codes "\""))) (commas (texts_behind group w)) (codes "}")
    ∙ open_next (group_opening group) (replicate n 32) (escape x) (escape (text_of (own_parts group w))) (codes "\"") (commas (texts_behind group w) ++ codes "}")
name_shown begun group false false n x w i e s h =
    ap (left_closed false begun) (texts_shown group n x w e s h)
    ∙ open_first (before begun) (group_opening group) (replicate n 32) (escape x) (escape (text_of (own_parts group w))) (codes "\"") (commas (texts_behind group w))

-- ---- the state of a name

-- an open string stands in an object
pub record IsName (v : Values) : Type 0 where
  pub shape : v.shape ≡ Names
  pub digits : v.digits ≡ []
  pub inside : v.is_open ≡ true → v.has_members ≡ true

pub name_is : (v : Values) → IsName v → v ≡ name_on_way v.begun v.group v.has_members v.is_open v.spaces
name_is v i = ap₂ (λ (s : TextShape) (d : List ℕ). let u : Values = record v { shape = s; digits = d } in u) i.shape i.digits

-- whether nothing of it is a member
abbrev pub no_texts : List (List ℕ) → Bool
no_texts [] = true
no_texts (t ∷ texts) = false

abbrev pub is_no_name : Values → Parts → Bool
is_no_name v w = is_blank v && no_texts (texts_from v.group (waiting v.spaces ++ w))

-- what a part does to a name
pub record NameStep (v : Values) (x : List ℕ) (w : Parts) : Type 0 where
  pub left : left_of_name v (x ∷ w) ≡ writes v x ++ left_of_name (step v x) w
  pub stays : IsName (step v x)
  pub nothing : is_no_name v (x ∷ w) ≡ is_no_name (step v x) w

by_space : (begun : Bool) (group : Group) (m o : Bool) (n : ℕ) (w : Parts) → (o ≡ true → m ≡ true) → NameStep (name_on_way begun group m o n) (32 ∷ []) w
by_space begun group m true n w i = record { left = name_space begun group m true n w; stays = record { shape = refl; digits = refl; inside = i }; nothing = refl }
by_space begun group m false n w i = record {
  left = name_space begun group m false n w;
  stays = record { shape = refl; digits = refl; inside = i };
  nothing = ap (λ (p : Parts). (not m && true) && no_texts (texts_from group p)) (one_more_waits n w);
}

nothing_behind : (begun : Bool) (group next : Group) (m o : Bool) (n : ℕ) (w : Parts) → (o ≡ true → m ≡ true) → next_group group ≡ Some next
    → is_no_name (name_on_way begun group m o n) ((61 ∷ []) ∷ w) ≡ is_no_name (name_on_way begun next m false 0) w
nothing_behind begun group next true true n w i e = refl
nothing_behind begun group next false true n w i e = absurd (false_true (i refl))
nothing_behind begun group next m false n w i e = ap (λ (texts : List (List ℕ)). (not m && true) && no_texts texts) (texts_ended group next n w e)

by_equals : (begun : Bool) (group : Group) (m o : Bool) (n : ℕ) (w : Parts) → (o ≡ true → m ≡ true) → ends_group group (61 ∷ []) ≡ true → NameStep (name_on_way begun group m o n) (61 ∷ []) w
by_equals begun Alphabetic m o n w i e = record {
  left = name_equals begun Alphabetic Ideographic m o n w i refl;
  stays = record { shape = refl; digits = refl; inside = λ e. absurd (false_true e) };
  nothing = nothing_behind begun Alphabetic Ideographic m o n w i refl;
}
by_equals begun Ideographic m o n w i e = record {
  left = name_equals begun Ideographic Phonetic m o n w i refl;
  stays = record { shape = refl; digits = refl; inside = λ e. absurd (false_true e) };
  nothing = nothing_behind begun Ideographic Phonetic m o n w i refl;
}
by_equals begun Phonetic m o n w i e = absurd (false_true e)

stays_shown : (begun : Bool) (group : Group) (m o : Bool) (n : ℕ) (x : List ℕ) → (o ≡ true → m ≡ true) → IsName (shown (name_on_way begun group m o n) x)
stays_shown begun group m true n x i = record { shape = refl; digits = refl; inside = i }
stays_shown begun group m false n x i = record { shape = refl; digits = refl; inside = λ e. refl }

nothing_shown : (begun : Bool) (group : Group) (m o : Bool) (n : ℕ) (x : List ℕ) (w : Parts) → ends_group group x ≡ false → is_space x ≡ false → is_empty x ≡ false
    → is_no_name (name_on_way begun group m o n) (x ∷ w) ≡ is_no_name (shown (name_on_way begun group m o n) x) w
nothing_shown begun group m true n x w e s h = refl
nothing_shown begun group m false n x w e s h =
    ap (λ (texts : List (List ℕ)). (not m && true) && no_texts texts) (texts_shown group n x w e s h) ∙ and_false (not m && true)

goes_by : (begun : Bool) (group : Group) (m o : Bool) (n : ℕ) (x : List ℕ) → ends_group group x ≡ false → group_behind (name_on_way begun group m o n) x ≡ None
goes_by begun Alphabetic m o n x e = ap (λ (t : Bool). if t then Some Ideographic else None) e
goes_by begun Ideographic m o n x e = ap (λ (t : Bool). if t then Some Phonetic else None) e
goes_by begun Phonetic m o n x e = none_either (is_one 61 x)
  where
    none_either : (t : Bool) → (if t then next_group Phonetic else None) ≡ None
    none_either true = refl
    none_either false = refl

by_shown : (begun : Bool) (group : Group) (m o : Bool) (n : ℕ) (x : List ℕ) (w : Parts) → (o ≡ true → m ≡ true)
    → is_backslash x ≡ false → ends_group group x ≡ false → is_space x ≡ false → is_empty x ≡ false → NameStep (name_on_way begun group m o n) x w
by_shown begun group m o n x w i b e s h =
    let v : Values = name_on_way begun group m o n in
    let same : step v x ≡ shown v x = step_other v x b (goes_by begun group m o n x e) s h in
    let wrote : writes v x ≡ shown_writes v x = writes_other v x b (goes_by begun group m o n x e) s h in
    record {
      left = name_shown begun group m o n x w i e s h ∙ sym (ap₂ (λ (a : List ℕ) (u : Values). a ++ left_of_name u w) wrote same);
      stays = subst IsName (sym same) (stays_shown begun group m o n x i);
      nothing = nothing_shown begun group m o n x w e s h ∙ sym (ap (λ (u : Values). is_no_name u w) same);
    }

by_test : (begun : Bool) (group : Group) (m o : Bool) (n : ℕ) (x : List ℕ) (w : Parts) (s e : Bool) → is_space x ≡ s → ends_group group x ≡ e → (o ≡ true → m ≡ true)
    → is_backslash x ≡ false → is_empty x ≡ false → NameStep (name_on_way begun group m o n) x w
by_test begun group m o n x w true e si ei i b h = subst (λ (y : List ℕ). NameStep (name_on_way begun group m o n) y w) (sym (one_is 32 x si)) (by_space begun group m o n w i)
by_test begun group m o n x w false true si ei i b h =
    let same : x ≡ 61 ∷ [] = equals_is group x ei in
    subst (λ (y : List ℕ). NameStep (name_on_way begun group m o n) y w) (sym same) (by_equals begun group m o n w i (subst (λ (y : List ℕ). ends_group group y ≡ true) same ei))
  where
    equals_is : (group : Group) (x : List ℕ) → ends_group group x ≡ true → x ≡ 61 ∷ []
    equals_is Alphabetic x e = one_is 61 x e
    equals_is Ideographic x e = one_is 61 x e
    equals_is Phonetic x e = absurd (false_true e)
by_test begun group m o n x w false false si ei i b h = by_shown begun group m o n x w i b ei si h

pub name_step : (v : Values) (x : List ℕ) (w : Parts) → IsName v → is_backslash x ≡ false → is_empty x ≡ false → NameStep v x w
name_step v x w i b h =
    subst (λ (u : Values). NameStep u x w) (sym (name_is v i))
    (by_test v.begun v.group v.has_members v.is_open v.spaces x w (is_space x) (ends_group v.group x) refl refl i.inside b h)

-- ---- its end

no_parts_own : (group : Group) (n : ℕ) → text_of (own_parts group (waiting n ++ [])) ≡ []
no_parts_own Alphabetic n = ap text_of (before_with_spaces n [] ∙ append-nil (waiting n)) ∙ no_text n
no_parts_own Ideographic n = ap text_of (before_with_spaces n [] ∙ append-nil (waiting n)) ∙ no_text n
no_parts_own Phonetic n = ap text_of (append-nil (waiting n)) ∙ no_text n

no_parts_behind : (group : Group) (n : ℕ) → texts_behind group (waiting n ++ []) ≡ []
no_parts_behind Alphabetic n = ap ideographic_texts (behind_with_spaces n [])
no_parts_behind Ideographic n = ap phonetic_texts (behind_with_spaces n [])
no_parts_behind Phonetic n = refl

no_parts : (group : Group) (n : ℕ) → texts_from group (waiting n ++ []) ≡ []
no_parts group n = ap₂ (λ (a : List ℕ) (b : List (List ℕ)). member_text group a ++ b) (no_parts_own group n) (no_parts_behind group n)

pub record NameEnd (v : Values) : Type 0 where
  pub left : left_of_name v [] ≡ value_end v
  pub nothing : is_no_name v [] ≡ is_blank v

end_of : (begun : Bool) (group : Group) (m o : Bool) (n : ℕ) → (o ≡ true → m ≡ true) → NameEnd (name_on_way begun group m o n)
end_of begun group true true n i = record {
  left = ap₂ (λ (a : List ℕ) (b : List (List ℕ)). escape a ++ (codes "\"" ++ (commas b ++ codes "}"))) (no_parts_own group n) (no_parts_behind group n);
  nothing = refl;
}
end_of begun group false true n i = absurd (false_true (i refl))
end_of begun group true false n i = record { left = ap (left_closed true begun) (no_parts group n); nothing = refl }
end_of begun group false false n i = record { left = ap (left_closed false begun) (no_parts group n); nothing = ap no_texts (no_parts group n) }

pub name_end : (v : Values) → IsName v → NameEnd v
name_end v i = subst NameEnd (sym (name_is v i)) (end_of v.begun v.group v.has_members v.is_open v.spaces i.inside)

-- where no group of it shows anything
pub name_nothing : (v : Values) (w : Parts) → IsName v → is_no_name v w ≡ true → left_of_name v w ≡ before v.begun ++ codes "null"
name_nothing v w i e = by_open v.has_members v.is_open (texts_from v.group (waiting v.spaces ++ w)) refl (and_first (is_blank v) _ e) (and_second (is_blank v) _ e)
  where
    by_open : (m o : Bool) (texts : List (List ℕ)) → texts_from v.group (waiting v.spaces ++ w) ≡ texts → (not o && (not m && is_empty v.digits)) ≡ true → no_texts (texts_from v.group (waiting v.spaces ++ w)) ≡ true
        → name_left v.begun v.group m o v.spaces w ≡ before v.begun ++ codes "null"
    by_open m true texts t d n = absurd (cc)
    by_open true false texts t d n = absurd (cc)
    by_open false false [] t d n = ap (λ (x : List (List ℕ)). before v.begun ++ enclosed x) t
    by_open false false (x ∷ texts) t d n = let e : no_texts (x ∷ texts) ≡ true = sym (ap no_texts t) ∙ n in absurd (false_true e)

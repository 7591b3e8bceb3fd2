-- The elements of a group, written anew one after another.
use Rattle.std.proofs.Common.{◌≡◌, ◌∙◌, List, [], ◌++◌, length, ℕ, Bool, true, false, cond, Option, Some, None, Result, Err, refl, ap, sym, subst, append_assoc}
use Rattle.std.proofs.lemmas.List.{append-nil}
use Rattle.std.specs.Prelude.{◌||◌, IsErr}
use Rattle.std.specs.Io.KnownBytes.{append_known}
use Rattle.dcm_base.specs.declared.tag.Tag.{Tag}
use Rattle.dcm_base.specs.declared.vr.Vr.{Vr}
use Rattle.dcm_base.specs.declared.vr.Vr.TheVariants.{UI}
use Rattle.dcm_base.specs.Tables.Syntax.{Little}
use Rattle.dcm_base.specs.Tables.Tag.{is_tag}
use Rattle.dcm_base.specs.Tree.Tree.{Trees, no_tree, leaf, sequence, fragments}
use Rattle.dcm_base.specs.Bytes.Spelling.{Spells}
use Rattle.dcm_base.specs.File.MetaGroup.{AreMeta}
use Rattle.dcm_base.specs.Conversion.Recode.{recode_set, recoded_leaf, unless_dropped}
use Rattle.dcm_base.specs.Conversion.NewMeta.{with_syntax, without_syntax, new_elements, new_meta, group_length, Renewing, renewed, leaf_if, NamesNoSyntax}
use Rattle.dcm_devices.specs.Device.{Puts, AppendsFront}
use Rattle.dcm_devices.proofs.Writes.Puts.{front_longer, puts_behind, puts_err}
use Rattle.dcm_head.specs.Rewriting.{left, written_element, written_renewed, named_after, all_stays, AreOwn, FirstIs, NoneIs}

step_at : (named is : Bool) (uid : List ℕ) (tag : Tag) (vr : Vr) (value : List ℕ) (rest : Trees)
    → recode_set Little (cond named (cond is (without_syntax rest) (leaf tag vr value (without_syntax rest))) (cond is (leaf tag UI uid (without_syntax rest)) (leaf tag vr value (with_syntax uid rest))))
    ≡ cond is (cond named [] (unless_dropped tag (recoded_leaf Little tag UI uid))) (unless_dropped tag (recoded_leaf Little tag vr value)) ++ recode_set Little (left (named || is) uid rest)
unfolding recode_set
step_at true true uid tag vr value rest = refl
step_at true false uid tag vr value rest = refl
step_at false true uid tag vr value rest = refl
step_at false false uid tag vr value rest = refl

pub written_step : (named : Bool) (uid : List ℕ) (tag : Tag) (vr : Vr) (value : List ℕ) (rest : Trees)
    → recode_set Little (left named uid (leaf tag vr value rest)) ≡ written_element named uid tag vr value ++ recode_set Little (left (named || is_tag 2 0x10 tag) uid rest)
written_step named uid tag vr value rest = step_at named (is_tag 2 0x10 tag) uid tag vr value rest

nothing_at : (named : Bool) (uid : List ℕ) → recode_set Little (left named uid no_tree) ≡ []
unfolding recode_set
nothing_at true uid = refl
nothing_at false uid = refl

-- of an element that may go or have another value
renewed_step : (now : Option (List ℕ)) (named : Bool) (uid : List ℕ) (tag : Tag) (vr : Vr) (rest : Trees)
    → recode_set Little (left named uid (leaf_if now tag vr rest)) ≡ written_renewed now named uid tag vr ++ recode_set Little (left (named_after now named tag) uid rest)
renewed_step None named uid tag vr rest = refl
renewed_step (Some value) named uid tag vr rest = written_step named uid tag vr value rest

-- these bytes are left of the spelling of all elements, and what is written of those before them is gone
pub record Left (new : Renewing) (rest uid : List ℕ) (named : Bool) (all : Trees) : Type 0 where
  pub elements : Trees
  pub spelled : Spells Little elements rest
  pub meta : AreMeta elements
  pub gone : List ℕ
  pub whole : gone ++ recode_set Little (left named uid (renewed new no_tree elements)) ≡ new_elements (renewed new no_tree all) uid

abbrev pub left_all : (new : Renewing) (group uid : List ℕ) (all : Trees) → Spells Little all group → AreMeta all → Left new group uid false all
left_all new group uid all s m = record { elements = all; spelled = s; meta = m; gone = []; whole = refl }

-- the first one, by what becomes of it, and the rest
pub first_step : (new : Renewing) (uid : List ℕ) (named : Bool) (tag : Tag) (vr : Vr) (value : List ℕ) (now : Option (List ℕ)) (elements rest : Trees) → elements ≡ leaf tag vr value rest → now ≡ new tag vr value
    → recode_set Little (left named uid (renewed new no_tree elements)) ≡ written_renewed now named uid tag vr ++ recode_set Little (left (named_after now named tag) uid (renewed new no_tree rest))
first_step new uid named tag vr value now elements rest whole is =
    ap (λ (x : Trees). recode_set Little (left named uid (renewed new no_tree x))) whole
    ∙ ap (λ (x : Option (List ℕ)). recode_set Little (left named uid (leaf_if x tag vr (renewed new no_tree rest)))) (sym is)
    ∙ renewed_step now named uid tag vr (renewed new no_tree rest)

-- one element more is gone
abbrev pub left_more : (new : Renewing) (rest uid : List ℕ) (named : Bool) (all : Trees) (tag : Tag) (vr : Vr) (value after : List ℕ) (now : Option (List ℕ)) (then_named : Bool) → now ≡ new tag vr value
    → Left new rest uid named all → FirstIs rest tag vr value after → then_named ≡ named_after now named tag → Left new after uid then_named all
left_more new rest uid named all tag vr value after now then_named is l first t =
    let one = first.2 l.elements l.spelled l.meta in
    record {
      elements = one.0;
      spelled = one.2;
      meta = one.3;
      gone = l.gone ++ written_renewed now named uid tag vr;
      whole =
          append_assoc l.gone (written_renewed now named uid tag vr) (recode_set Little (left then_named uid (renewed new no_tree one.0)))
          ∙ ap (λ (b : Bool). l.gone ++ (written_renewed now named uid tag vr ++ recode_set Little (left b uid (renewed new no_tree one.0)))) t
          ∙ ap (λ (x : List ℕ). l.gone ++ x) (sym (first_step new uid named tag vr value now l.elements one.0 one.1 is)) ∙ l.whole;
    }

-- all are gone
pub left_none : (new : Renewing) (rest uid : List ℕ) (named : Bool) (all : Trees) → (l : Left new rest uid named all) → NoneIs rest → l.gone ≡ new_elements (renewed new no_tree all) uid
left_none new rest uid named all l none =
    let empty = none l.elements l.spelled l.meta in
    sym (append-nil l.gone) ∙ ap (λ (x : List ℕ). l.gone ++ x) (sym (nothing_at named uid)) ∙ ap (λ (x : Trees). l.gone ++ recode_set Little (left named uid (renewed new no_tree x))) (sym empty) ∙ l.whole

-- the first one is a beginning of what is left
pub left_first : (new : Renewing) (rest uid : List ℕ) (named : Bool) (all : Trees) (tag : Tag) (vr : Vr) (value after : List ℕ) (now : Option (List ℕ)) → now ≡ new tag vr value → (l : Left new rest uid named all)
    → FirstIs rest tag vr value after → (more : List ℕ) × (new_elements (renewed new no_tree all) uid ≡ l.gone ++ (written_renewed now named uid tag vr ++ more))
left_first new rest uid named all tag vr value after now is l first =
    let one = first.2 l.elements l.spelled l.meta in (
      recode_set Little (left (named_after now named tag) uid (renewed new no_tree one.0)),
      sym l.whole ∙ ap (λ (x : List ℕ). l.gone ++ x) (first_step new uid named tag vr value now l.elements one.0 one.1 is),
    )

-- what went out before a failure is a beginning of all
pub failed_at : {T E : Type 0} (old mid end : Option (List ℕ)) (new : Renewing) (rest uid : List ℕ) (named : Bool) (all : Trees) (tag : Tag) (vr : Vr) (value after : List ℕ) (now : Option (List ℕ)) (r : Result T E)
    → now ≡ new tag vr value → (l : Left new rest uid named all) → FirstIs rest tag vr value after → mid ≡ append_known old l.gone → AppendsFront mid end (written_renewed now named uid tag vr) → IsErr r
    → Puts old end (new_elements (renewed new no_tree all) uid) r
failed_at {T} {E} old mid end new rest uid named all tag vr value after now r is l first went front failed =
    let more = left_first new rest uid named all tag vr value after now is l first in
    puts_err old end (new_elements (renewed new no_tree all) uid) r failed
    (subst (AppendsFront old end) (sym more.1) (puts_behind {T = ℕ} {E = ℕ} old mid end l.gone (written_renewed now named uid tag vr ++ more.0) (Err 0) went (front_longer more.0 front)))

-- where all stays, it is as it was
pub all_stay : (t : Trees) → renewed all_stays no_tree t ≡ t
all_stay no_tree = refl
all_stay (leaf tag vr value rest) = ap (leaf tag vr value) (all_stay rest)
all_stay (sequence tag vr declared items rest) = ap (sequence tag vr declared items) (all_stay rest)
all_stay (fragments tag vr values rest) = ap (fragments tag vr values) (all_stay rest)

pub stays_put : {T E : Type 0} (old end : Option (List ℕ)) (uid : List ℕ) (all : Trees) (r : Result T E) → Puts old end (new_meta (renewed all_stays no_tree all) uid) r → Puts old end (new_meta all uid) r
stays_put {T} {E} old end uid all r h = subst (λ (x : Trees). Puts {T = T} {E = E} old end (new_meta x uid) r) (all_stay all) h

-- elements of its own, which name no transfer syntax, stand behind those that stay
own_left : (named : Bool) (uid : List ℕ) (own : Trees) → NamesNoSyntax own → left named uid own ≡ own
own_left true uid own n = n.without
own_left false uid own n = n.with_it uid

own_step : (new : Renewing) (own : Trees) (uid : List ℕ) (named : Bool) (now : Option (List ℕ)) (tag : Tag) (vr : Vr) (rest : Trees)
    → recode_set Little (left (named_after now named tag) uid (renewed new own rest)) ≡ recode_set Little (left (named_after now named tag) uid (renewed new no_tree rest)) ++ recode_set Little own
    → recode_set Little (left named uid (leaf_if now tag vr (renewed new own rest))) ≡ recode_set Little (left named uid (leaf_if now tag vr (renewed new no_tree rest))) ++ recode_set Little own
own_step new own uid named now tag vr rest h =
    let written = written_renewed now named uid tag vr in
    renewed_step now named uid tag vr (renewed new own rest) ∙ ap (λ (bytes : List ℕ). written ++ bytes) h
    ∙ sym (append_assoc written (recode_set Little (left (named_after now named tag) uid (renewed new no_tree rest))) (recode_set Little own))
    ∙ ap (λ (bytes : List ℕ). bytes ++ recode_set Little own) (sym (renewed_step now named uid tag vr (renewed new no_tree rest)))

own_behind : (new : Renewing) (own : Trees) (uid : List ℕ) (named : Bool) (elements : Trees) → NamesNoSyntax own → AreMeta elements
    → recode_set Little (left named uid (renewed new own elements)) ≡ recode_set Little (left named uid (renewed new no_tree elements)) ++ recode_set Little own
unfolding AreMeta
own_behind new own uid named no_tree n meta =
    ap (λ (x : Trees). recode_set Little x) (own_left named uid own n) ∙ ap (λ (bytes : List ℕ). bytes ++ recode_set Little own) (sym (nothing_at named uid))
own_behind new own uid named (leaf tag vr value rest) n meta =
    let now = new tag vr value in
    own_step new own uid named now tag vr rest (own_behind new own uid (named_after now named tag) rest n meta.1)
own_behind new own uid named (sequence tag vr declared items rest) n meta = absurd meta
own_behind new own uid named (fragments tag vr values rest) n meta = absurd meta

pub elements_and_own : (new : Renewing) (own : Trees) (uid bytes : List ℕ) (elements : Trees) → AreOwn own bytes → AreMeta elements
    → new_elements (renewed new own elements) uid ≡ new_elements (renewed new no_tree elements) uid ++ bytes
elements_and_own new own uid bytes elements o meta =
    own_behind new own uid false elements o.no_syntax meta ∙ ap (λ (x : List ℕ). new_elements (renewed new no_tree elements) uid ++ x) (sym o.bytes_are)

-- what stays, and then its own
pub own_puts : {T E : Type 0} (old mid end : Option (List ℕ)) (stay own all : List ℕ) (r : Result T E) → all ≡ stay ++ own → mid ≡ append_known old stay → Puts mid end own r → Puts old end all r
own_puts {T} {E} old mid end stay own all r is went h = subst (λ (x : List ℕ). Puts {T = T} {E = E} old end x r) (sym is) (puts_behind old mid end stay own r went h)

pub own_failed : {T E : Type 0} (old end : Option (List ℕ)) (stay own all : List ℕ) (r : Result T E) → all ≡ stay ++ own → AppendsFront old end stay → IsErr r → Puts old end all r
own_failed {T} {E} old end stay own all r is front failed = puts_err old end all r failed (subst (AppendsFront old end) (sym is) (front_longer own front))

-- the length of the group, and its elements
pub meta_puts : {T E : Type 0} (old mid new : Option (List ℕ)) (size elements : List ℕ) (r : Result T E) → mid ≡ append_known old size → size ≡ group_length (length elements) → Puts mid new elements r
    → Puts old new (group_length (length elements) ++ elements) r
meta_puts {T} {E} old mid new size elements r went is h =
    subst (λ (x : List ℕ). Puts {T = T} {E = E} old new (x ++ elements) r) is (puts_behind old mid new size elements r went h)

pub meta_failed : {T E : Type 0} (old new : Option (List ℕ)) (size elements : List ℕ) (r : Result T E) → AppendsFront old new size → size ≡ group_length (length elements) → IsErr r
    → Puts old new (group_length (length elements) ++ elements) r
meta_failed old new size elements r front is failed =
    puts_err old new (group_length (length elements) ++ elements) r failed (subst (λ (x : List ℕ). AppendsFront old new (x ++ elements)) is (front_longer elements front))

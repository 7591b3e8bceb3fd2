-- The words that name elements, one after another.
use Rattle.std.proofs.Common.{◌≡◌, ◌∙◌, ap, sym, refl, ℕ, suc, ◌+◌, ◌<◌, ◌≤◌, List, [], ◌∷◌, ◌++◌, length, take, Option, Some, None, Result, Ok, Err, Bool, true, false, arith, inl, inr, ◌⊎◌, length-append, slice_set, subst}
use Rattle.std.specs.Prelude.{nat_le, if◌then◌else◌}
use Rattle.std.specs.Option.{is_some}
use Rattle.std.proofs.lemmas.Bool.Decides.{nat_tests}
use Rattle.std.proofs.lemmas.Bool.{cases_lt}
use Rattle.std.proofs.lemmas.List.{take_all, take-append-le, length-take, take_more_set}
use Rattle.dcm_base.specs.declared.tag.Tag.{Tag}
use Rattle.dcm_base.specs.declared.fault.EditRefusal.{EditRefusal}
use Rattle.dcm_edits.specs.TagWords.{tag_named}
use Rattle.dcm_words.specs.declared.naming.NamingRefusal.{NamingRefusal}
use Rattle.dcm_words.specs.declared.usage.Usage.{Usage}
use Rattle.dcm_words.specs.declared.usage.Usage.TheVariants.{InElement, TooManyElements}
use Rattle.dcm_words.specs.Words.{tags_after, elements_meant}
use Rattle.dcm_words.specs.Naming.{KeptAs}

-- ---- at most 64 tags

pub grown : (tags : List Tag) (n : ℕ) (tag : Tag) → n < 64 → length tags ≡ 64 → take (n + 1) (slice_set tags n tag) ≡ take 64 (take n tags ++ tag ∷ [])
grown tags n tag h size =
    let kept = length-take n tags in
    let more = length-append (take n tags) (tag ∷ []) in
    take_more_set tags n tag (omega (arith, h, size)) ∙ sym (take_all 64 (take n tags ++ tag ∷ []) (omega (arith, h, size, kept, more)))

pub full : (tags : List Tag) (n : ℕ) (tag : Tag) → 64 ≤ n → n ≤ 64 → length tags ≡ 64 → take n tags ≡ take 64 (take n tags ++ tag ∷ [])
full tags n tag most within size =
    let kept = length-take n tags in
    sym (take-append-le 64 (take n tags) (tag ∷ []) (omega (arith, most, within, size, kept)) ∙ take_all 64 (take n tags) (omega (arith, most, within, size, kept)))

taken_then : (limit : ℕ) (xs ys : List Tag) → take limit (take limit xs ++ ys) ≡ take limit (xs ++ ys)
taken_then limit xs ys = by_length (cases_lt (length xs) limit)
  where
    by_length : (length xs < limit) ⊎ (limit ≤ length xs) → take limit (take limit xs ++ ys) ≡ take limit (xs ++ ys)
    by_length (inl less) = ap (λ zs. take limit (zs ++ ys)) (take_all limit xs (omega (arith, less)))
    by_length (inr most) =
        let kept = length-take limit xs in
        take-append-le limit (take limit xs) ys (omega (arith, most, kept))
        ∙ take_all limit (take limit xs) (omega (arith, most, kept))
        ∙ sym (take-append-le limit xs ys most)

-- ---- one word more

-- a tag, and those behind it
abbrev onto : Tag → Result (List Tag) Usage → Result (List Tag) Usage
onto tag (Ok tags) = Ok (tag ∷ tags)
onto tag (Err u) = Err u

-- a word, and those behind it
abbrev begins : ℕ → Result Tag EditRefusal → Result (List Tag) Usage → Result (List Tag) Usage
begins n (Err refusal) more = Err (InElement refusal (n + 1))
begins n (Ok tag) more = onto tag more

-- so many words, and one behind them
abbrev pub and_by : ℕ → Result Tag EditRefusal → Result (List Tag) Usage → Result (List Tag) Usage
and_by k r (Err u) = Err u
and_by k (Err refusal) (Ok tags) = Err (InElement refusal (k + 1))
and_by k (Ok tag) (Ok tags) = Ok (tags ++ tag ∷ [])

first : (n : ℕ) (w : List ℕ) (words : List (List ℕ)) (r : Result Tag EditRefusal) → tag_named w ≡ r → tags_after n (w ∷ words) ≡ begins n r (tags_after (n + 1) words)
first n w words (Err refusal) e = rw (e, tags_after) refl
first n w words (Ok tag) e = by_more (tags_after (n + 1) words) refl
  where
    by_more : (more : Result (List Tag) Usage) → tags_after (n + 1) words ≡ more → tags_after n (w ∷ words) ≡ onto tag (tags_after (n + 1) words)
    by_more (Ok tags) m = rw (e, m, tags_after) refl
    by_more (Err u) m = rw (e, m, tags_after) refl

alone : (n : ℕ) (r : Result Tag EditRefusal) → begins n r (Ok []) ≡ and_by (n + 0) r (Ok [])
alone n (Err refusal) = ap (λ k. Err (InElement refusal k)) (omega arith)
alone n (Ok tag) = refl

commutes : (k : ℕ) (r : Result Tag EditRefusal) (tag : Tag) (more : Result (List Tag) Usage) → onto tag (and_by k r more) ≡ and_by k r (onto tag more)
commutes k r tag (Err u) = refl
commutes k (Err refusal) tag (Ok tags) = refl
commutes k (Ok last) tag (Ok tags) = refl

inner : (n k : ℕ) (first last : Result Tag EditRefusal) (more : Result (List Tag) Usage) → begins n first (and_by k last more) ≡ and_by k last (begins n first more)
inner n k (Err refusal) last more = refl
inner n k (Ok tag) last more = commutes k last tag more

pub one_more : (n : ℕ) (words : List (List ℕ)) (w : List ℕ) → tags_after n (words ++ w ∷ []) ≡ and_by (n + length words) (tag_named w) (tags_after n words)
one_more n [] w = first n w [] (tag_named w) refl ∙ alone n (tag_named w)
one_more n (v ∷ words) w =
    let k : n + 1 + length words ≡ n + length (v ∷ words) = omega arith in
    first n v (words ++ w ∷ []) (tag_named v) refl
    ∙ ap (begins n (tag_named v)) (one_more (n + 1) words w)
    ∙ inner n (n + 1 + length words) (tag_named v) (tag_named w) (tags_after (n + 1) words)
    ∙ ap (λ j. and_by j (tag_named w) (begins n (tag_named v) (tags_after (n + 1) words))) k
    ∙ ap (and_by (n + length (v ∷ words)) (tag_named w)) (sym (first n v words (tag_named v) refl))

-- ---- what is kept

-- what was refused stays
stays_refused : (r : NamingRefusal) (tags : List Tag) (k : ℕ) (last : Result Tag EditRefusal) (x : Result (List Tag) Usage) → KeptAs (Some r) tags x → KeptAs (Some r) tags (and_by k last x)
stays_refused r tags k last (Ok all) h = absurd h
stays_refused r tags k last (Err u) h = h

pub stays : (o : Option NamingRefusal) (tags : List Tag) (words : List (List ℕ)) (w : List ℕ) → is_some o ≡ true → KeptAs o tags (tags_after 0 words) → KeptAs o tags (tags_after 0 (words ++ w ∷ []))
stays None tags words w some h = absurd (let no : false ≡ true = some in cc)
stays (Some r) tags words w some h = subst (λ (x : Result (List Tag) Usage). KeptAs (Some r) tags x) (sym (one_more 0 words w)) (stays_refused r tags (0 + length words) (tag_named w) (tags_after 0 words) h)

-- a tag more
keeps_tag : (tags new : List Tag) (k : ℕ) (tag : Tag) (x : Result (List Tag) Usage) → KeptAs None tags x → new ≡ take 64 (tags ++ tag ∷ []) → KeptAs None new (and_by k (Ok tag) x)
keeps_tag tags new k tag (Ok all) h is = is ∙ ap (λ ts. take 64 (ts ++ tag ∷ [])) h ∙ taken_then 64 all (tag ∷ [])
keeps_tag tags new k tag (Err u) h is = absurd h

pub adds : (o : Option NamingRefusal) (tags new : List Tag) (tag : Tag) (words : List (List ℕ)) (w : List ℕ) → is_some o ≡ false → tag_named w ≡ Ok tag → new ≡ take 64 (tags ++ tag ∷ []) → KeptAs o tags (tags_after 0 words)
    → KeptAs o new (tags_after 0 (words ++ w ∷ []))
adds (Some r) tags new tag words w none means is h = absurd (let no : true ≡ false = none in cc)
adds None tags new tag words w none means is h = subst (λ (x : Result (List Tag) Usage). KeptAs None new x) (ap (λ r. and_by (0 + length words) r (tags_after 0 words)) (sym means) ∙ sym (one_more 0 words w)) (keeps_tag tags new (0 + length words) tag (tags_after 0 words) h is)

-- the first refusal
is_refused : (tags : List Tag) (k number : ℕ) (refusal : EditRefusal) (x : Result (List Tag) Usage) → number ≡ k + 1 → KeptAs None tags x → KeptAs (Some (record { refusal = refusal; number = number })) tags (and_by k (Err refusal) x)
is_refused tags k number refusal (Ok all) e h = ap (InElement refusal) (sym e)
is_refused tags k number refusal (Err u) e h = absurd h

pub refuses : (o : Option NamingRefusal) (tags : List Tag) (number : ℕ) (refusal : EditRefusal) (words : List (List ℕ)) (w : List ℕ) → is_some o ≡ false → tag_named w ≡ Err refusal → number ≡ length words + 1
    → KeptAs o tags (tags_after 0 words) → KeptAs (Some (record { refusal = refusal; number = number })) tags (tags_after 0 (words ++ w ∷ []))
refuses (Some r) tags number refusal words w none means e h = absurd (let no : true ≡ false = none in cc)
refuses None tags number refusal words w none means e h = subst (λ (x : Result (List Tag) Usage). KeptAs (Some (record { refusal = refusal; number = number })) tags x) (ap (λ r. and_by (0 + length words) r (tags_after 0 words)) (sym means) ∙ sym (one_more 0 words w)) (is_refused tags (0 + length words) number refusal (tags_after 0 words) (omega (arith, e)) h)

pub counts : (number : ℕ) (words : List (List ℕ)) (w : List ℕ) → number ≡ length words → number + 1 ≡ length (words ++ w ∷ [])
counts number words w e = let more = length-append words (w ∷ []) in omega (arith, e, more)

-- ---- all of them

abbrev sized : ℕ → Result (List Tag) Usage → Type 0
sized n (Ok all) = length all ≡ n
sized n (Err u) = Unit {0}

onto_sized : (n : ℕ) (r : Result Tag EditRefusal) (k : ℕ) (more : Result (List Tag) Usage) → sized n more → sized (suc n) (begins k r more)
onto_sized n (Err refusal) k more h = tt
onto_sized n (Ok tag) k (Err u) h = tt
onto_sized n (Ok tag) k (Ok tags) h = ap suc h

all_sized : (n : ℕ) (words : List (List ℕ)) → sized (length words) (tags_after n words)
all_sized n [] = refl
all_sized n (w ∷ words) = subst (sized (suc (length words))) (sym (first n w words (tag_named w) refl)) (onto_sized (length words) (tag_named w) n (tags_after (n + 1) words) (all_sized (n + 1) words))

size : (words : List (List ℕ)) (all : List Tag) → tags_after 0 words ≡ Ok all → length all ≡ length words
size words all e = subst (sized (length words)) e (all_sized 0 words)

abbrev limited : Result (List Tag) Usage → Result (List Tag) Usage
limited (Err u) = Err u
limited (Ok tags) = if nat_le (length tags) 64 then Ok tags else Err TooManyElements

meant : (words : List (List ℕ)) (x : Result (List Tag) Usage) → tags_after 0 words ≡ x → elements_meant words ≡ limited x
meant words (Err u) e = rw (e, elements_meant) refl
meant words (Ok tags) e = rw (e, elements_meant) refl

limit : (b : Bool) (tags : List Tag) → b ≡ true → (if b then Ok tags else Err TooManyElements) ≡ Ok tags
limit b tags e = rw (e) refl

no_limit : (b : Bool) (tags : List Tag) → b ≡ false → (if b then Ok tags else Err TooManyElements) ≡ Err TooManyElements
no_limit b tags e = rw (e) refl

pub refused_meant : (words : List (List ℕ)) (r : NamingRefusal) (tags : List Tag) → KeptAs (Some r) tags (tags_after 0 words) → elements_meant words ≡ Err (InElement r.refusal r.number)
refused_meant words r tags h = by_tags (tags_after 0 words) refl h
  where
    by_tags : (x : Result (List Tag) Usage) → tags_after 0 words ≡ x → KeptAs (Some r) tags x → elements_meant words ≡ Err (InElement r.refusal r.number)
    by_tags (Ok all) e k = absurd k
    by_tags (Err u) e k = meant words (Err u) e ∙ ap Err k

pub many_meant : (words : List (List ℕ)) (tags : List Tag) → KeptAs None tags (tags_after 0 words) → 64 < length words → elements_meant words ≡ Err TooManyElements
many_meant words tags h many = by_tags (tags_after 0 words) refl h
  where
    by_tags : (x : Result (List Tag) Usage) → tags_after 0 words ≡ x → KeptAs None tags x → elements_meant words ≡ Err TooManyElements
    by_tags (Err u) e k = absurd k
    by_tags (Ok all) e k =
        let same = size words all e in
        let more : 64 < length all = omega (arith, many, same) in
        meant words (Ok all) e ∙ no_limit (nat_le (length all) 64) all (grind (arith, nat_tests, more))

pub few_meant : (words : List (List ℕ)) (tags : List Tag) → KeptAs None tags (tags_after 0 words) → length words ≤ 64 → elements_meant words ≡ Ok tags
few_meant words tags h few = by_tags (tags_after 0 words) refl h
  where
    by_tags : (x : Result (List Tag) Usage) → tags_after 0 words ≡ x → KeptAs None tags x → elements_meant words ≡ Ok tags
    by_tags (Err u) e k = absurd k
    by_tags (Ok all) e k =
        let same = size words all e in
        let less : length all ≤ 64 = omega (arith, few, same) in
        meant words (Ok all) e ∙ limit (nat_le (length all) 64) all (grind (arith, nat_tests, less)) ∙ ap Ok (sym (k ∙ take_all 64 all less))

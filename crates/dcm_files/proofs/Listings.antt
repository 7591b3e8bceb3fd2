-- What is pending of a folder that is listed, and the next name of it.
use Rattle.std.proofs.Common.{◌≡◌, ◌∙◌, sym, ap, subst, ℕ, ◌+◌, ◌-◌, ◌^◌, ◌≤◌, List, [], ◌++◌, length, take, drop, arith, refl, min}
use Rattle.std.proofs.Common.{Option, None, Some, Result, Ok, Err}
use Rattle.std.specs.Prelude.{Bool, true, false, position, IsOk, OnOk, ◌<◌}
use Rattle.std.specs.Option.{unwrap_or}
use Rattle.std.specs.List.{position_or_len}
use Rattle.std.specs.declared.io.Error.{Error}
use Rattle.std.specs.Io.KnownBytes.{Keeps}
use Rattle.std.proofs.lemmas.List.{drop-drop, drop_all, drop_min, length-drop, length-take}
use Rattle.std.proofs.lemmas.List.Sums.{prefix_len-le-length}
use Rattle.dcm_files.specs.Folders.{name_given}
use Rattle.dcm_files.specs.HostFolder.{Listing, MayRead, Next, gives, ends, fails, goes_on, Passes, and_name, Refills, Takes, name_size, is_dots}

-- the place of the first that passes, or the end
pub position_is : {X : Type 0} (p : X → Bool) (xs : List X) → unwrap_or (position p xs) (length xs) ≡ position_or_len p xs
position_is p xs = grind (arith, prefix_len-le-length)

-- what was added to nothing
pub added : {T E : Type 0} (r : Result T E) (had new more : List ℕ) → IsOk r → OnOk r (new ≡ had ++ more) → had ≡ [] → new ≡ more
added (Ok x) had new more ok e none = e ∙ ap (λ (b : List ℕ). b ++ more) none
added (Err x) had new more ok e none = cc

-- the first name was taken, of what is held from a place up to the end of what was read
pub taken : {D : Type 0} (names : D) (held : List ℕ) (at filled size end : ℕ) (old : Listing D) (name : List ℕ) → record { names = names; pending = drop at (take filled held) } ≡ old
    → filled ≤ length held → size ≡ name_size (drop at (take filled held)) → end ≡ min (at + size + 1) filled → name ≡ take size (drop at (take filled held))
    → Takes old (record { names = names; pending = drop end (take filled held) }) name
taken {D} names held at filled size end old name is within size_is end_is name_is_it =
    let xs : List ℕ = take filled held in
    let all : length xs ≡ filled = length-take filled held ∙ omega arith in
    let place : end ≡ min (at + (size + 1)) (length xs) = omega arith in
    let rest : drop end xs ≡ drop (size + 1) (drop at xs) = ap (λ n. drop n xs) place ∙ drop_min (at + (size + 1)) xs ∙ sym (drop-drop (size + 1) at xs) in
    subst (λ (l : Listing D). Takes l (record { names = names; pending = drop end xs }) name) is (record {
      name_is = name_is_it ∙ ap (λ n. take n (drop at xs)) size_is;
      left = rest ∙ ap (λ n. drop (n + 1) (drop at xs)) size_is;
      names = refl;
    })

module _ {D : Type 0} (remaining : D → Option (List ℕ)) (may_read : MayRead D) where
  -- names are pending still
  pub refill_needless : (names : D) (held : List ℕ) (at filled : ℕ) (old : Listing D) → record { names = names; pending = drop at (take filled held) } ≡ old
      → at < filled → filled ≤ length held → Refills remaining may_read old old (Ok true)
  refill_needless names held at filled old is more within =
      let xs : List ℕ = take filled held in
      let all : length xs ≡ filled = length-take filled held ∙ omega arith in
      let left : length old.pending ≡ length xs - at = ap (λ (l : Listing D). length l.pending) (sym is) ∙ length-drop at xs in
      record { held = λ _. (refl, refl); read = λ none. let size : length old.pending ≡ 0 = ap length none in absurd (omega (arith, more, all, left, size)) }

  -- a call failed, where no name was pending
  pub refill_failed : (names later : D) (held read : List ℕ) (at filled : ℕ) (old : Listing D) (r : Result Bool Error) (e : Error)
      → record { names = names; pending = drop at (take filled held) } ≡ old → filled ≤ at → filled ≤ length held → filled ≤ length read → r ≡ Err e
      → Keeps (remaining names) (remaining later) → may_read names (Err e) read later
      → Refills remaining may_read old (record { names = later; pending = drop at (take filled read) }) r
  refill_failed names later held read at filled old r e is done within room failed keeps answer =
      let nothing : (xs : List ℕ) → filled ≤ length xs → drop at (take filled xs) ≡ [] =
      λ xs fits. drop_all at (take filled xs) (let all : length (take filled xs) ≡ filled = length-take filled xs ∙ omega (arith, fits) in omega (arith, all, done)) in
      let new : Listing D = record { names = later; pending = drop at (take filled read) } in
      let none : old.pending ≡ [] = ap (λ (l : Listing D). l.pending) (sym is) ∙ nothing held within in
      let same : names ≡ old.names = ap (λ (l : Listing D). l.names) is in
      subst (λ (q : Result Bool Error). Refills remaining may_read old new q) (sym failed) (record {
        held = λ some. let size : length old.pending ≡ 0 = ap length none in absurd (omega (arith, some, size));
        read = λ _. (subst (λ (d : D). Keeps (remaining d) (remaining later)) same keeps, nothing read room, read, subst (λ (d : D). may_read d (Err e) read later) same answer);
      })

  -- reading failed
  pub next_failed : (old mid new : Listing D) (n : ℕ) (name : List ℕ) (r : Result Bool Error) (e : Error) → r ≡ Err e → Passes remaining may_read old n mid
      → Refills remaining may_read mid new (Err e) → Next remaining may_read old (name_given name r) new
  next_failed old mid new n name r e is passes refills =
      subst (λ (q : Result Bool Error). Next remaining may_read old (name_given name q) new) (sym is) (fails n mid e passes refills)

  -- nothing is left
  pub next_ended : (old mid new : Listing D) (n : ℕ) (some : Bool) → some ≡ false → Passes remaining may_read old n mid → Refills remaining may_read mid new (Ok some)
      → Next remaining may_read old (Ok None) new
  next_ended old mid new n some is passes refills = ends n mid passes (subst (λ (b : Bool). Refills remaining may_read mid new (Ok b)) is refills)

  -- a name that is none of the two
  pub next_given : (old mid filled new : Listing D) (n : ℕ) (some : Bool) (name : List ℕ) → some ≡ true → is_dots name ≡ false → Passes remaining may_read old n mid
      → Refills remaining may_read mid filled (Ok some) → Takes filled new name → Next remaining may_read old (Ok (Some name)) new
  next_given old mid filled new n some name is dots passes refills takes =
      gives n mid filled name passes (subst (λ (b : Bool). Refills remaining may_read mid filled (Ok b)) is refills) takes dots

  -- one more of the two
  pub one_more_passed : (old mid filled new : Listing D) (n : ℕ) (some : Bool) (name : List ℕ) → some ≡ true → is_dots name ≡ true → Passes remaining may_read old n mid
      → Refills remaining may_read mid filled (Ok some) → Takes filled new name → Passes remaining may_read old (n + 1) new
  one_more_passed old mid filled new n some name is dots passes refills takes =
      and_name mid filled name passes (subst (λ (b : Bool). Refills remaining may_read mid filled (Ok b)) is refills) takes dots

  -- more of them than a folder has
  pub next_endless : (old new : Listing D) (n : ℕ) (e : Error) → n ≡ 2 ^ 64 - 1 → Passes remaining may_read old n new → Next remaining may_read old (Err e) new
  next_endless old new n e is passes = goes_on e (subst (λ (m : ℕ). Passes remaining may_read old m new) is passes)

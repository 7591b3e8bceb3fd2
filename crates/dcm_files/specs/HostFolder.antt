-- The names in a folder, as the system that the program runs on lists them. Each is ended by a byte 00.
use Rattle.std.specs.Prelude.{◌≡◌, ℕ, ◌+◌, ◌-◌, ◌^◌, ◌<◌, ◌==◌, ◌||◌, Bool, true, false, nat_lt, List, [], ◌∷◌, length}
use Rattle.std.specs.Prelude.{take, drop, bytes_eq, Option, None, Some, Result, Ok, Err, MatchResult}
use Rattle.std.specs.Io.KnownBytes.{Consumes, Keeps, IsAtEnd}
use Rattle.std.specs.List.{position_or_len}
use Rattle.std.specs.declared.io.Error.{Error}

-- a folder that is listed: what gives its names, and what it gave and nobody took so far
pub record Listing (D : Type 0) : Type 0 where
  pub names : D
  pub pending : List ℕ

-- how long the first name is: up to the first byte 00, and else all
abbrev pub name_size : List ℕ → ℕ
name_size bytes = position_or_len (λ b. b == 0) bytes

abbrev pub first_name : List ℕ → List ℕ
first_name bytes = take (name_size bytes) bytes

-- what follows it and its byte 00
abbrev pub after_name : List ℕ → List ℕ
after_name bytes = drop (name_size bytes + 1) bytes

-- it is that of the folder itself, or of the one that it is in
abbrev pub is_dots : List ℕ → Bool
is_dots name = bytes_eq name (46 ∷ []) || bytes_eq name (46 ∷ 46 ∷ [])

-- what one call on what gives the names may answer, and leave in its buffer and of it
abbrev pub MayRead : Type 0 → Type 1
MayRead D = D → Result ℕ Error → List ℕ → D → Type 0

-- more is read by one call, and what that gave is pending then. Nothing comes only at the end. An error is that of the
-- call.
abbrev pub Reads : {D : Type 0} → (remaining : D → Option (List ℕ)) → MayRead D → (old new : Listing D)
    → Result Bool Error → Type 0
Reads remaining may_read old new r = MatchResult r
    (λ some. Consumes (remaining old.names) (remaining new.names) new.pending
    × (some ≡ nat_lt 0 (length new.pending)) × (some ≡ false → IsAtEnd (remaining new.names))
    × (n : ℕ) × (buffer : List ℕ) × may_read old.names (Ok n) buffer new.names × (new.pending ≡ take n buffer))
    (λ e. Keeps (remaining old.names) (remaining new.names) × (new.pending ≡ [])
    × (buffer : List ℕ) × may_read old.names (Err e) buffer new.names)

-- names are pending, or more is read; and whether any are pending now
pub record Refills {D : Type 0} (remaining : D → Option (List ℕ)) (may_read : MayRead D) (old new : Listing D)
    (r : Result Bool Error) : Type 0 where
  pub held : 0 < length old.pending → (new ≡ old) × (r ≡ Ok true)
  pub read : old.pending ≡ [] → Reads remaining may_read old new r

-- the first name that is pending is taken
pub record Takes {D : Type 0} (old new : Listing D) (name : List ℕ) : Type 0 where
  pub name_is : name ≡ first_name old.pending
  pub left : new.pending ≡ after_name old.pending
  pub names : new.names ≡ old.names

-- so many names were taken, each of them `.` or `..`
pub data Passes {D : Type 0} (remaining : D → Option (List ℕ)) (may_read : MayRead D) (old : Listing D)
    : ℕ → Listing D → Type 0 where
  no_name : {new : Listing D} → new ≡ old → Passes remaining may_read old 0 new
  and_name : {n : ℕ} {new : Listing D} (mid filled : Listing D) (name : List ℕ) → Passes remaining may_read old n mid
      → Refills remaining may_read mid filled (Ok true) → Takes filled new name → is_dots name ≡ true
      → Passes remaining may_read old (n + 1) new

-- the next name but these, or none where nothing is pending and the reader is at its end. An error is one that a call
-- answered, or there were more of them than a folder has
pub data Next {D : Type 0} (remaining : D → Option (List ℕ)) (may_read : MayRead D) (old : Listing D)
    : Result (Option (List ℕ)) Error → Listing D → Type 0 where
  gives : {new : Listing D} (n : ℕ) (mid filled : Listing D) (name : List ℕ) → Passes remaining may_read old n mid
      → Refills remaining may_read mid filled (Ok true) → Takes filled new name → is_dots name ≡ false
      → Next remaining may_read old (Ok (Some name)) new
  ends : {new : Listing D} (n : ℕ) (mid : Listing D) → Passes remaining may_read old n mid
      → Refills remaining may_read mid new (Ok false) → Next remaining may_read old (Ok None) new
  fails : {new : Listing D} (n : ℕ) (mid : Listing D) (e : Error) → Passes remaining may_read old n mid
      → Refills remaining may_read mid new (Err e) → Next remaining may_read old (Err e) new
  goes_on : {new : Listing D} (e : Error) → Passes remaining may_read old (2 ^ 64 - 1) new
      → Next remaining may_read old (Err e) new

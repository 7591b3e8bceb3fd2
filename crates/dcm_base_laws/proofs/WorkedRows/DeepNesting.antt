-- Worked rows: data sets nested as deep as they may be, and reading up to the greatest offset.
use Rattle.std.proofs.Common.{◌≡◌, ℕ, zero, suc, List, [], ◌∷◌, ◌++◌, Some, None, false, refl, arith}
use Rattle.dcm_base.specs.declared.tag.Tag.{Tag}
use Rattle.dcm_base.specs.declared.vr.Vr.TheVariants.{SQ}
use Rattle.dcm_base.specs.Tables.Syntax.{Little}
use Rattle.dcm_base.specs.declared.fault.Fault.TheVariants.{TooDeep, EndsEarly, TooLong}
use Rattle.dcm_base.specs.declared.length.Length.TheVariants.{Undefined}
use Rattle.dcm_base.specs.Tree.Tree.{Trees, no_tree, sequence, no_item, item}
use Rattle.dcm_base.specs.Tree.Front.{Front, front, nothing_open, open_sequence, open_item}
use Rattle.dcm_base.specs.Bytes.Spelling.{TreesAt, SpellsFront}
use Rattle.dcm_base.specs.Reading.Stop.{complete, refused, stop_at}
use Rattle.dcm_base.specs.Reading.Bars.{no_bar}
use Rattle.dcm_base.specs.Reading.Reads.{Reads}
use Rattle.dcm_base_laws.proofs.WorkedRows.Readings.{all}

abbrev images : Tag
images = record { group = 0x0008; element = 0x1140 }

-- a head of an open sequence, and of an open item in it
abbrev opened : List ℕ → List ℕ
opened rest = (0x08 ∷ 0x00 ∷ 0x40 ∷ 0x11 ∷ 0x53 ∷ 0x51 ∷ 0x00 ∷ 0x00 ∷ 0xFF ∷ 0xFF ∷ 0xFF ∷ 0xFF ∷ []) ++ (0xFE ∷ 0xFF ∷ 0x00 ∷ 0xE0 ∷ 0xFF ∷ 0xFF ∷ 0xFF ∷ 0xFF ∷ []) ++ rest

abbrev closed : List ℕ → List ℕ
closed rest = (0xFE ∷ 0xFF ∷ 0x0D ∷ 0xE0 ∷ 0x00 ∷ 0x00 ∷ 0x00 ∷ 0x00 ∷ []) ++ (0xFE ∷ 0xFF ∷ 0xDD ∷ 0xE0 ∷ 0x00 ∷ 0x00 ∷ 0x00 ∷ 0x00 ∷ []) ++ rest

-- so many sequences in one another, all open
deep : ℕ → Front
deep zero = front no_tree nothing_open None false
deep (suc n) = front no_tree (open_sequence images SQ Undefined no_item (open_item Undefined (deep n))) (Some images) false

deep_bytes : ℕ → List ℕ
deep_bytes zero = []
deep_bytes (suc n) = opened (deep_bytes n)

deep_spelled : (n : ℕ) → SpellsFront Little (deep n) (deep_bytes n)
unfolding all deep deep_bytes
deep_spelled zero = ([], refl, refl, refl, refl)
deep_spelled (suc n) = (
  _,
  refl,
  (
    (0xFE ∷ 0xFF ∷ 0x00 ∷ 0xE0 ∷ 0xFF ∷ 0xFF ∷ 0xFF ∷ 0xFF ∷ []) ++ deep_bytes n,
    _,
    refl,
    record { no_item = λ e. omega (arith, e); head = record { tag_is = refl; vr_is = refl; whole = omega arith; length_is = refl; after_is = refl } },
    tt,
    refl,
    (deep_bytes n, record { tag_is = refl; whole = omega arith; length_is = refl; after_is = refl }, tt, deep_spelled n),
  ),
  refl,
  refl,
)

-- and all closed
whole : ℕ → Trees
whole zero = no_tree
whole (suc n) = sequence images SQ Undefined (item Undefined (whole n) no_item) no_tree

whole_bytes : ℕ → List ℕ → List ℕ
whole_bytes zero rest = rest
whole_bytes (suc n) rest = opened (whole_bytes n (closed rest))

whole_spelled : (n : ℕ) (rest : List ℕ) → TreesAt Little (whole n) (whole_bytes n rest) rest
unfolding all whole whole_bytes
whole_spelled zero rest = refl
whole_spelled (suc n) rest = (
  (0xFE ∷ 0xFF ∷ 0x00 ∷ 0xE0 ∷ 0xFF ∷ 0xFF ∷ 0xFF ∷ 0xFF ∷ []) ++ whole_bytes n (closed rest),
  rest,
  refl,
  record { no_item = λ e. omega (arith, e); head = record { tag_is = refl; vr_is = refl; whole = omega arith; length_is = refl; after_is = refl } },
  (
    (0xFE ∷ 0xFF ∷ 0xDD ∷ 0xE0 ∷ 0x00 ∷ 0x00 ∷ 0x00 ∷ 0x00 ∷ []) ++ rest,
    (
      whole_bytes n (closed rest),
      (0xFE ∷ 0xFF ∷ 0xDD ∷ 0xE0 ∷ 0x00 ∷ 0x00 ∷ 0x00 ∷ 0x00 ∷ []) ++ rest,
      record { tag_is = refl; whole = omega arith; length_is = refl; after_is = refl },
      (closed rest, whole_spelled n (closed rest), record { tag_is = refl; whole = omega arith; after_is = refl }),
      refl,
    ),
    record { tag_is = refl; whole = omega arith; after_is = refl },
  ),
  refl,
)

deepest_spelled : SpellsFront Little (front (whole 64) nothing_open (Some images) false) (whole_bytes 64 [])
unfolding all whole
deepest_spelled = ([], whole_spelled 64 [], refl, refl, refl)

deepest_stop : stop_at no_bar Little 172 (front (whole 64) nothing_open (Some images) false) 2476 [] ≡ Some complete
unfolding all whole
deepest_stop = refl

-- one sequence more, or a fragment list
too_deep : stop_at no_bar Little 172 (deep 64) 1452 (opened []) ≡ Some (refused TooDeep 1452)
unfolding all deep
too_deep = refl

fragments_too_deep : stop_at no_bar Little 172 (deep 64) 1452 (0xE0 ∷ 0x7F ∷ 0x10 ∷ 0x00 ∷ 0x4F ∷ 0x42 ∷ 0x00 ∷ 0x00 ∷ 0xFF ∷ 0xFF ∷ 0xFF ∷ 0xFF ∷ []) ≡ Some (refused TooDeep 1452)
unfolding all deep
fragments_too_deep = refl

-- ---- the greatest offset

-- a head that ends behind it is cut
cut_at_the_limit : Reads no_bar Little 4611686018427387900 (0x10 ∷ 0x00 ∷ 0x10 ∷ 0x00 ∷ 0x50 ∷ 0x4E ∷ 0x02 ∷ 0x00 ∷ []) (deep 0) (refused TooLong 4611686018427387904)
unfolding all deep deep_bytes
cut_at_the_limit = (
  deep 0,
  refused EndsEarly 4611686018427387904,
  record {
    read = [];
    rest = 0x10 ∷ 0x00 ∷ 0x10 ∷ 0x00 ∷ [];
    parts = refl;
    spelled = deep_spelled 0;
    stops = refl;
    first = λ earlier later g e h. absurd (omega (arith, h));
  },
  refl,
  refl,
)

-- and an input that ends there is not
ends_at_the_limit : Reads no_bar Little 4611686018427387900 (0x10 ∷ 0x00 ∷ 0x10 ∷ 0x00 ∷ []) (deep 0) (refused EndsEarly 4611686018427387904)
unfolding all deep deep_bytes
ends_at_the_limit = (
  deep 0,
  refused EndsEarly 4611686018427387904,
  record {
    read = [];
    rest = 0x10 ∷ 0x00 ∷ 0x10 ∷ 0x00 ∷ [];
    parts = refl;
    spelled = deep_spelled 0;
    stops = refl;
    first = λ earlier later g e h. absurd (omega (arith, h));
  },
  refl,
  refl,
)

-- Words that ask for runs over trees ask for no text.
use Rattle.std.proofs.Common.{◌≡◌, sym, refl, subst, ℕ, List, [], ◌∷◌, Option, Some, None, Bool, true, false, ◌||◌}
use Rattle.std.specs.Prelude.{codes, bytes_eq, if◌then◌else◌}
use Rattle.std.specs.List.{list_any}
use Rattle.std.proofs.lemmas.Slice.Eq.{bytes_eq-Decides}
use Rattle.dcm_words.specs.declared.topic.Topic.{Topic}
use Rattle.dcm_words.specs.declared.topic.Topic.TheVariants.{Version}
use Rattle.dcm_words.specs.Topics.{is_help, is_version, use_of, use_of_only, asked_of_tool, asked_after, asked}
use Rattle.dcm_tree_words.specs.declared.word.TreeTool.{TreeTool}
use Rattle.dcm_tree_words.specs.declared.word.TreeTool.TheVariants.{Convert, Modify, Deidentify}
use Rattle.dcm_tree_words.specs.TreeWords.{tree_tool, is_of_tree, pieces_among}
use Rattle.dcm_tree_words.specs.Trees.{asks_tree}
use Rattle.dcm_tree_words.specs.Laws.{TreesAskForNoText}

abbrev asks : Option TreeTool → List (List ℕ) → Bool
asks o others = elim o [ Some t ↦ list_any is_of_tree (pieces_among t others) | None ↦ false ]

-- one of two words
one_of : (w x y : List ℕ) (P : List ℕ → Type 0) → P x → P y → bytes_eq w x || bytes_eq w y ≡ true → P w
one_of w x y P p q h = by (bytes_eq w x) (bytes_eq w y) refl refl h
  where
    by : (a b : Bool) → bytes_eq w x ≡ a → bytes_eq w y ≡ b → a || b ≡ true → P w
    by true b e f h = subst P (sym ((bytes_eq-Decides w x).0 e)) p
    by false true e f h = subst P (sym ((bytes_eq-Decides w y).0 f)) q
    by false false e f h = absurd cc

-- one of three
one_of_three : (w x y z : List ℕ) (P : List ℕ → Type 0) → P x → P y → P z → bytes_eq w x || bytes_eq w y || bytes_eq w z ≡ true → P w
one_of_three w x y z P p q r h = by (bytes_eq w x) (bytes_eq w y) (bytes_eq w z) refl refl refl h
  where
    by : (a b c : Bool) → bytes_eq w x ≡ a → bytes_eq w y ≡ b → bytes_eq w z ≡ c → a || b || c ≡ true → P w
    by true b c e f g h = subst P (sym ((bytes_eq-Decides w x).0 e)) p
    by false true c e f g h = subst P (sym ((bytes_eq-Decides w y).0 f)) q
    by false false true e f g h = subst P (sym ((bytes_eq-Decides w z).0 g)) r
    by false false false e f g h = absurd cc

-- a first word that asks for a text names no tool, and an only word that does so is none of a tree
abbrev NoTree : List (List ℕ) → List ℕ → Type 0
NoTree others w = asks (tree_tool w) others ≡ false

abbrev OnlyOwn : TreeTool → List ℕ → Type 0
OnlyOwn t w = asks (Some t) (w ∷ []) ≡ false

help_names_none : (w : List ℕ) (others : List (List ℕ)) → is_help w ≡ true → NoTree others w
help_names_none w others h = one_of_three w (codes "help") (codes "--help") (codes "-h") (NoTree others) refl refl refl h

version_names_none : (w : List ℕ) (others : List (List ℕ)) → is_version w ≡ true → NoTree others w
version_names_none w others h = one_of w (codes "version") (codes "--version") (NoTree others) refl refl h

help_is_own : (t : TreeTool) (w : List ℕ) → is_help w ≡ true → OnlyOwn t w
help_is_own Convert w h = one_of_three w (codes "help") (codes "--help") (codes "-h") (OnlyOwn Convert) refl refl refl h
help_is_own Modify w h = one_of_three w (codes "help") (codes "--help") (codes "-h") (OnlyOwn Modify) refl refl refl h
help_is_own Deidentify w h = one_of_three w (codes "help") (codes "--help") (codes "-h") (OnlyOwn Deidentify) refl refl refl h

version_is_own : (t : TreeTool) (w : List ℕ) → is_version w ≡ true → OnlyOwn t w
version_is_own Convert w h = one_of w (codes "version") (codes "--version") (OnlyOwn Convert) refl refl h
version_is_own Modify w h = one_of w (codes "version") (codes "--version") (OnlyOwn Modify) refl refl h
version_is_own Deidentify w h = one_of w (codes "version") (codes "--version") (OnlyOwn Deidentify) refl refl h

-- so where a tree is asked for, each test is false
never : (b : Bool) (a : Bool) → (b ≡ true → a ≡ false) → a ≡ true → b ≡ false
never true a f h = absurd (let p : a ≡ false = f refl in cc)
never false a f h = refl

abbrev told : Bool → Bool → Topic → Option Topic
told help version tool = if help then Some tool else if version then Some Version else None

no_help : (help version : Bool) (tool : Topic) → help ≡ false → version ≡ false → told help version tool ≡ None
no_help help version tool p q = rw (p, q) refl

of_tool : (o : Option TreeTool) (u : Option Topic) (w : List ℕ) → asks o (w ∷ []) ≡ true
    → (let r : Option Topic = elim u [ Some tool ↦ asked_of_tool tool w | None ↦ None ] in r ≡ None)
of_tool None u w h = absurd cc
of_tool (Some t) None w h = refl
of_tool (Some t) (Some tool) w h =
    no_help (is_help w) (is_version w) tool
    (never (is_help w) (asks (Some t) (w ∷ [])) (help_is_own t w) h)
    (never (is_version w) (asks (Some t) (w ∷ [])) (version_is_own t w) h)

after : (first : List ℕ) (others : List (List ℕ)) → asks (tree_tool first) others ≡ true → asked_after first others ≡ None
after first [] h = refl
after first (w ∷ []) h = of_tool (tree_tool first) (use_of first) w h
after first (w ∷ v ∷ others) h = refl

first_two : (help version : Bool) (x y : Option Topic) → help ≡ false → version ≡ false → y ≡ None → (if help then x else if version then Some Version else y) ≡ None
first_two help version x y p q r = rw (p, q) r

pub no_text : TreesAskForNoText
unfolding asks_tree asked
no_text [] h = refl
no_text (first ∷ others) h =
    first_two (is_help first) (is_version first) (use_of_only others) (asked_after first others)
    (never (is_help first) (asks (tree_tool first) others) (help_names_none first others) h)
    (never (is_version first) (asks (tree_tool first) others) (version_names_none first others) h)
    (after first others h)

-- The text of a plain forest is that of its tree, and a plain forest is of the form that can be written.
-- Assumes nothing.
use mathlib.Core.Path.{◌≡◌, refl, ◌∙◌, ap}
use mathlib.Core.Bool.{Bool, true, false}
use mathlib.Core.List.{List, [], ◌∷◌, ◌++◌, append_assoc}
use Prim.Native.Nat.{ℕ}
use Rattle.data.specs.Bytes.{space, equals, brace_open, brace_close}
use Rattle.tape.specs.declared.token.Token.{Token}
use Rattle.tape.specs.declared.token.ContainerKind.TheVariants.{Array, Object}
use Rattle.tape.specs.Token.{container_of, scalar_named}
use Rattle.tape.specs.Shape.{shape_of}
use Rattle.writer.specs.declared.dues.Due.{Due}
use Rattle.writer.specs.declared.dues.Due.TheVariants.{Entry, Key, AfterKey}
use Rattle.writer.specs.Forest.{Forest, no_more, leaf, box}
use Rattle.put.specs.Parts.{view_of}
use Rattle.writer.specs.Pieces.{quote_if, piece_of, own_bytes}
use Rattle.writer.specs.Dues.{after_scalar, due_after}
use Rattle.writer.specs.Text.{lead, piece_text, braced, body_text, sheet_text}
use Rattle.writer.specs.Form.{takes, has_form}
use Rattle.writer.proofs.Forms.{both}
use Rattle.way_back.specs.Plain.{InTurn}
use Rattle.way_back.proofs.Tree.{Entries, no_entries, more, Pairs, no_pairs, pair, write_word, write, write_entries, write-pairs, write_tree}
use Rattle.way_back.proofs.Parts.{PlainToken, plain_unquoted, plain_quoted, NotEmpty, Parts}
use Rattle.way_back.proofs.Shaped.{word_of, array_of, object_of, root_of, to-entries, to-pairs}

-- further entries and pairs with what stands before the first
abbrev entries_after : List ℕ → Entries → List ℕ
entries_after gap no_entries = []
entries_after gap (more e es) = gap ++ (write e ++ write_entries es)

abbrev pairs_after : List ℕ → Pairs → List ℕ
pairs_after gap no_pairs = []
pairs_after gap (pair k e ps) = gap ++ (write_word k ++ (equals ∷ (write e ++ write-pairs ps)))

entries_spaced : (es : Entries) → entries_after (space ∷ []) es ≡ write_entries es
entries_spaced no_entries = refl
entries_spaced (more e es) = refl

pairs-spaced : (ps : Pairs) → pairs_after (space ∷ []) ps ≡ write-pairs ps
pairs-spaced no_pairs = refl
pairs-spaced (pair k e ps) = refl

array-braced : (es : Entries) → braced (entries_after [] es) ≡ write (array_of es)
array-braced no_entries = refl
array-braced (more e es) = ap (λ (l : List ℕ). brace_open ∷ l) (append_assoc (write e) (write_entries es) (brace_close ∷ []))

object-braced : (f : Forest) (src : List ℕ) → NotEmpty f → InTurn f Object
    → braced (pairs_after [] (to-pairs f src)) ≡ write (object_of (to-pairs f src))
object-braced no_more src h t = absurd h
object-braced (leaf k no_more) src h t = absurd t
object-braced (leaf k (leaf x rest)) src h t = simp append_assoc
object-braced (leaf k (box Array flag inner rest)) src h t = simp append_assoc
object-braced (leaf k (box Object flag inner rest)) src h t = simp append_assoc
object-braced (box kind flag inner rest) src h t = absurd t

-- a plain scalar is a word
leaf-written : (src : List ℕ) (x : Token) → PlainToken src x → (rest : Forest) (first : Bool) (due : Due)
    → body_text (leaf x rest) src first due ≡ lead first due false ++ (write_word (word_of src x) ++ body_text rest src false (after_scalar due))
unfolding body_text piece_text own_bytes due_after piece_of shape_of container_of scalar_named
leaf-written src x (plain_unquoted a n p w l e) rest first due =
    rw p (append_assoc (lead first due false) (view_of src a n) (body_text rest src false (after_scalar due)))
leaf-written src x (plain_quoted a n p w e) rest first due =
    rw p (append_assoc (lead first due false) (quote_if true (view_of src a n)) (body_text rest src false (after_scalar due)))

join : (pre : List ℕ) {a a' b b' : List ℕ} → a ≡ a' → b ≡ b' → pre ++ (a ++ b) ≡ pre ++ (a' ++ b')
join pre p q = cc

follow : (pre a : List ℕ) {b b' : List ℕ} → b ≡ b' → pre ++ (a ++ b) ≡ pre ++ (a ++ b')
follow pre a p = cc

module _ (src : List ℕ) where
  -- a row of entries and a turn of pairs, with or without something before it
  abbrev Row : Forest → Bool → Type 0
  Row f first = body_text f src first Entry ≡ entries_after (lead first Entry false) (to-entries f src)

  abbrev Turn : Forest → Bool → Type 0
  Turn f first = body_text f src first Key ≡ pairs_after (lead first Key false) (to-pairs f src)

  -- behind another, and in braces
  row-behind : (f : Forest) → Row f false → body_text f src false Entry ≡ write_entries (to-entries f src)
  row-behind f h = h ∙ entries_spaced (to-entries f src)

  turn-behind : (f : Forest) → Turn f false → body_text f src false Key ≡ write-pairs (to-pairs f src)
  turn-behind f h = h ∙ pairs-spaced (to-pairs f src)

  array_written : (f : Forest) → Row f true → braced (body_text f src true Entry) ≡ write (array_of (to-entries f src))
  array_written f h = ap braced h ∙ array-braced (to-entries f src)

  object-written : (f : Forest) → NotEmpty f → InTurn f Object → Turn f true
      → braced (body_text f src true Key) ≡ write (object_of (to-pairs f src))
  object-written f h t g = ap braced g ∙ object-braced f src h t

  mutual
    unfolding body_text

    row_written : (f : Forest) → InTurn f Array → Parts f src → (first : Bool) → Row f first
    row_written no_more t p first = refl
    row_written (leaf x rest) t p first =
        leaf-written src x p.0 rest first Entry
        ∙ follow (lead first Entry false) (write_word (word_of src x)) (row-behind rest (row_written rest t p.1 false))
    row_written (box Array flag inner rest) t p first =
        join (lead first Entry false) (array_written inner (row_written inner t.0 p.2 true)) (row-behind rest (row_written rest t.1 p.3 false))
    row_written (box Object flag inner rest) t p first =
        join (lead first Entry false) (object-written inner p.1 t.0 (turn_written inner t.0 p.2 true))
        (row-behind rest (row_written rest t.1 p.3 false))

    turn_written : (f : Forest) → InTurn f Object → Parts f src → (first : Bool) → Turn f first
    turn_written no_more t p first = refl
    turn_written (leaf k no_more) t p first = absurd t
    turn_written (leaf k (leaf x rest)) t p first =
        leaf-written src k p.0 (leaf x rest) first Key
        ∙ follow (lead first Key false) (write_word (word_of src k))
        (leaf-written src x p.1.0 rest false AfterKey
        ∙ follow (equals ∷ []) (write_word (word_of src x)) (turn-behind rest (turn_written rest t p.1.1 false)))
    turn_written (leaf k (box Array flag inner rest)) t p first =
        leaf-written src k p.0 (box Array flag inner rest) first Key
        ∙ follow (lead first Key false) (write_word (word_of src k))
        (join (equals ∷ []) (array_written inner (row_written inner t.0 p.1.2 true)) (turn-behind rest (turn_written rest t.1 p.1.3 false)))
    turn_written (leaf k (box Object flag inner rest)) t p first =
        leaf-written src k p.0 (box Object flag inner rest) first Key
        ∙ follow (lead first Key false) (write_word (word_of src k))
        (join (equals ∷ []) (object-written inner p.1.1 t.0 (turn_written inner t.0 p.1.2 true))
        (turn-behind rest (turn_written rest t.1 p.1.3 false)))
    turn_written (box kind flag inner rest) t p first = absurd t

  pub root_written : (f : Forest) → InTurn f Object → Parts f src → sheet_text f src ≡ write_tree (root_of (to-pairs f src))
  root_written f t p = turn_written f t p true ∙ whole (to-pairs f src)
    where
      whole : (ps : Pairs) → pairs_after [] ps ≡ write_tree (root_of ps)
      whole no_pairs = refl
      whole (pair k e ps) = refl

  -- ---- the form
  leaf-formed : (x : Token) → PlainToken src x → (rest : Forest) (due : Due) → has_form (leaf x rest) due ≡ has_form rest (after_scalar due)
  unfolding has_form takes due_after piece_of shape_of container_of scalar_named
  leaf-formed x (plain_unquoted a n p w l e) rest due = rw p
  leaf-formed x (plain_quoted a n p w e) rest due = rw p

  mutual
    unfolding has_form

    row_formed : (f : Forest) → InTurn f Array → Parts f src → has_form f Entry ≡ true
    row_formed no_more t p = refl
    row_formed (leaf x rest) t p = leaf-formed x p.0 rest Entry ∙ row_formed rest t p.1
    row_formed (box Array flag inner rest) t p = both (row_formed inner t.0 p.2) (row_formed rest t.1 p.3)
    row_formed (box Object flag inner rest) t p = both (turn_formed inner t.0 p.2) (row_formed rest t.1 p.3)

    pub turn_formed : (f : Forest) → InTurn f Object → Parts f src → has_form f Key ≡ true
    turn_formed no_more t p = refl
    turn_formed (leaf k no_more) t p = absurd t
    turn_formed (leaf k (leaf x rest)) t p =
        leaf-formed k p.0 (leaf x rest) Key ∙ leaf-formed x p.1.0 rest AfterKey ∙ turn_formed rest t p.1.1
    turn_formed (leaf k (box Array flag inner rest)) t p =
        leaf-formed k p.0 (box Array flag inner rest) Key ∙ both (row_formed inner t.0 p.1.2) (turn_formed rest t.1 p.1.3)
    turn_formed (leaf k (box Object flag inner rest)) t p =
        leaf-formed k p.0 (box Object flag inner rest) Key ∙ both (turn_formed inner t.0 p.1.2) (turn_formed rest t.1 p.1.3)
    turn_formed (box kind flag inner rest) t p = absurd t

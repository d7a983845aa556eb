-- The names of a world are written one after the other.
use Rattle.std.proofs.Common.{add-one, ◌≡◌, ℕ, zero, suc, ◌+◌, ◌≤◌, List, [], ◌∷◌, ◌++◌, Option, Some, length, take, drop, refl, sym, ap, subst, ◌∙◌}
use Rattle.std.proofs.Common.{append_assoc, append-nil, slice_get}
use Rattle.std.proofs.lemmas.List.{take-append-drop, take_all}
use Rattle.std.specs.Option.{unwrap_or}
use Rattle.std.specs.Io.KnownBytes.{Appends}
use Rattle.janus_meaning.specs.Syntax.{Name}
use Rattle.janus_meaning.specs.Store.{Val, Store, Bare, Slot}
use Rattle.janus_meaning.specs.World.{size_of, listed}
use Rattle.cells_program.specs.Lines.{ended_line}
use Rattle.exact_write.specs.Sent.{SentSome}
use Rattle.kernel_text.specs.ValueTexts.{value_text}
use Rattle.cells_program.specs.Shown.{position_line, value_lines, show_text}
use Rattle.exact_write.proofs.SendLemmas.{appends_join, sent_then, sent_first}

pub Some_inj : {A : Type 0} {x y : A} → Some x ≡ Some y → x ≡ y
Some_inj {x = x} h = ap (λ o. unwrap_or o x) h

length_more : {A : Type 0} (xs : List A) (x : A) → length (xs ++ x ∷ []) ≡ suc (length xs)
length_more [] x = refl
length_more (y ∷ xs) x = ap suc (length_more xs x)

pub length_listed : (s : Store) → length (listed s) ≡ size_of s
length_listed Bare = refl
length_listed (Slot x v r) = length_more (listed r) (x, v) ∙ ap suc (length_listed r)

-- the lines of one more name
pub lines_next : (es : List (Name × Val)) (i : ℕ) (e : Name × Val) → slice_get es i ≡ Some e →
    value_lines (take (suc i) es) ≡ value_lines (take i es) ++ ended_line (value_text e)
lines_next [] i e h = absurd (cc h)
lines_next (d ∷ es) zero e h = ap (λ x. ended_line (value_text x) ++ []) (Some_inj h) ∙ append-nil (ended_line (value_text e))
lines_next (d ∷ es) (suc i) e h = ap (λ t. ended_line (value_text d) ++ t) (lines_next es i e h)
    ∙ sym (append_assoc (ended_line (value_text d)) (value_lines (take i es)) (ended_line (value_text e)))

pub lines_split : (xs ys : List (Name × Val)) → value_lines (xs ++ ys) ≡ value_lines xs ++ value_lines ys
lines_split [] ys = refl
lines_split (x ∷ xs) ys = ap (λ t. ended_line (value_text x) ++ t) (lines_split xs ys)
    ∙ sym (append_assoc (ended_line (value_text x)) (value_lines xs) (value_lines ys))

-- the text of the first i names
abbrev pub first_text : ℕ → List (Name × Val) → ℕ → List ℕ
first_text position es i = ended_line (position_line position) ++ value_lines (take i es)

pub first_next : (position : ℕ) (es : List (Name × Val)) (i : ℕ) (e : Name × Val) → slice_get es i ≡ Some e →
    first_text position es (suc i) ≡ first_text position es i ++ ended_line (value_text e)
first_next position es i e h = ap (λ t. ended_line (position_line position) ++ t) (lines_next es i e h)
    ∙ sym (append_assoc (ended_line (position_line position)) (value_lines (take i es)) (ended_line (value_text e)))

pub first_rest : (position : ℕ) (es : List (Name × Val)) (i : ℕ) → show_text position es ≡ first_text position es i ++ value_lines (drop i es)
first_rest position es i =
    ap (λ l. ended_line (position_line position) ++ value_lines l) (sym (take-append-drop i es))
    ∙ ap (λ t. ended_line (position_line position) ++ t) (lines_split (take i es) (drop i es))
    ∙ sym (append_assoc (ended_line (position_line position)) (value_lines (take i es)) (value_lines (drop i es)))

pub entry_then : (a b c : Option (List ℕ)) (position : ℕ) (es : List (Name × Val)) (i : ℕ) (e : Name × Val) → slice_get es i ≡ Some e →
    Appends a b (first_text position es i) → Appends b c (ended_line (value_text e)) → Appends a c (first_text position es (i + 1))
entry_then a b c position es i e h p q =
    subst (Appends a c) (sym (first_next position es i e h) ∙ ap (first_text position es) (sym (add-one i))) (appends_join a b c _ _ p q)

pub entry_failed : (a b c : Option (List ℕ)) (position : ℕ) (es : List (Name × Val)) (i : ℕ) (e : Name × Val) → slice_get es i ≡ Some e →
    Appends a b (first_text position es i) → SentSome b c (ended_line (value_text e)) → SentSome a c (show_text position es)
entry_failed a b c position es i e h p q =
    subst (SentSome a c) (sym (first_rest position es (suc i)))
    (sent_first a c (first_text position es (suc i)) (value_lines (drop (suc i) es))
    (subst (SentSome a c) (sym (first_next position es i e h)) (sent_then a b c _ _ p q)))

pub first_all : (position : ℕ) (s : Store) (i : ℕ) → size_of s ≤ i → first_text position (listed s) i ≡ show_text position (listed s)
first_all position s i h = ap (λ l. ended_line (position_line position) ++ value_lines l) (take_all i (listed s) (subst (λ n. n ≤ i) (sym (length_listed s)) h))

-- Pieces that are printed in a row.
use Rattle.std.proofs.Common.{◌≡◌, ℕ, suc, ◌+◌, ◌<◌, ◌≤◌, List, [], ◌∷◌, ◌++◌, length, drop, get_or, refl, ap, sym, subst, ◌∙◌, add-one, false, Result, IfOk}
use Rattle.std.proofs.Common.{string_bytes, Global}
use Rattle.std.proofs.Math.Seq.{drop-cons}
use Rattle.std.proofs.lemmas.List.{drop_all}
use Rattle.std.proofs.lemmas.Result.{IfOk-weaker}
use Rattle.std.specs.declared.string.String.{String}
use Rattle.janus_syntax.specs.declared.printer.Line as code
use Rattle.janus_syntax.specs.Printed.{line_view, Adds}
use Rattle.janus_syntax.specs.Printing.{Piece, Printed, with_piece, with_pieces, no_text}

pieces_more : (ps qs : List Piece) (line : Printed) → with_pieces line (ps ++ qs) ≡ with_pieces (with_pieces line ps) qs
pieces_more [] qs line = refl
pieces_more (p ∷ ps) qs line = pieces_more ps qs (with_piece line p)

behind : (a b : List Piece) (l0 l1 l2 : Printed) → l1 ≡ with_pieces l0 a → l2 ≡ with_pieces l1 b → l2 ≡ with_pieces l0 (a ++ b)
behind a b l0 l1 l2 e f = f ∙ ap (λ l. with_pieces l b) e ∙ sym (pieces_more a b l0)

both_add : (l0 l1 l2 : code.Line) (a b : List Piece) → Adds l0 l1 a → Adds l1 l2 b → Adds l0 l2 (a ++ b)
both_add l0 l1 l2 a b f g =
    record {
      adds = λ kept. let late = g.adds kept in let soon = f.adds late.0 in
          (soon.0, behind a b (line_view l0) (line_view l1) (line_view l2) soon.1 late.1);
    }

-- pieces, and then others
pub both : {l0 l1 l2 : code.Line} {a b : List Piece} → Adds l0 l1 a → Adds l1 l2 b → Adds l0 l2 (a ++ b)
both f g = both_add _ _ _ _ _ f g

none : (l : code.Line) → Adds l l []
none l = record { adds = λ kept. (kept, refl) }

-- Where the items from i on make of a line what all make of `start`, so do those from i + 1 on of the line with the item i ..
pub next_item : {X : Type 0} (all : List X → List Piece) (xs : List X) (i : ℕ) (x : X) (one : List Piece) (start l0 l1 : code.Line) → i < length xs →
    x ≡ get_or xs i x → ((ys : List X) → all (x ∷ ys) ≡ one ++ all ys) →
    ((end : code.Line) → Adds l0 end (all (drop i xs)) → Adds start end (all xs)) → Adds l0 l1 one → (end : code.Line) → Adds l1 end (all (drop (i + 1) xs)) →
    Adds start end (all xs)
next_item all xs i x one start l0 l1 within is split before new end rest =
    let next : all (drop i xs) ≡ one ++ all (drop (i + 1) xs) =
    ap all (drop-cons xs i x within) ∙ ap (λ y. all (y ∷ drop (suc i) xs)) (sym is) ∙ split (drop (suc i) xs)
    ∙ ap (λ n. one ++ all (drop n xs)) (sym (add-one i)) in
    before end (subst (λ ps. Adds l0 end ps) (sym next) (both_add l0 l1 end one (all (drop (i + 1) xs)) new rest))

-- .. and in the end the line is what all make of `start`.
pub last_item : {X : Type 0} (all : List X → List Piece) (xs : List X) (i : ℕ) (start l0 : code.Line) → length xs ≤ i → all [] ≡ [] →
    ((end : code.Line) → Adds l0 end (all (drop i xs)) → Adds start end (all xs)) → Adds start l0 (all xs)
last_item all xs i start l0 past nothing before = before l0 (subst (λ ps. Adds l0 l0 ps) (sym (ap all (drop_all i xs past) ∙ nothing)) (none l0))

-- The text of a line that began empty, where memory was not refused.
pub told : {E : Type 0} (ps : List Piece) (l0 l1 : code.Line) (r : Result (String Global) E) → line_view l0 ≡ no_text → Adds l0 l1 ps →
    IfOk r (λ text. (l1.refused ≡ false) × (string_bytes text ≡ string_bytes l1.text)) →
    IfOk r (λ text. string_bytes text ≡ (with_pieces no_text ps).text)
told ps l0 l1 r fresh all end = IfOk-weaker r _ _ (λ text p. p.1 ∙ ap (λ (l : Printed). l.text) ((all.adds p.0).1 ∙ ap (λ l. with_pieces l ps) fresh)) end

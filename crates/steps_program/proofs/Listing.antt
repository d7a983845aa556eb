-- Lines that are listed one after the other.
use Rattle.std.proofs.Common.{◌≡◌, ◌∙◌, ℕ, List, [], ◌∷◌, ◌++◌, ap, sym, subst, append_assoc, append-nil}
use Rattle.std.specs.Prelude.{Option, Result, Ok, Err, OnOk}
use Rattle.std.specs.Io.KnownBytes.{Appends}
use Rattle.exact_write.proofs.SendLemmas.{appends_join}
use Rattle.steps_program.specs.declared.output.CentreLine.{CentreLine}
use Rattle.steps_program.specs.Places.{next, lines_of}
use Rattle.steps_program.specs.Told.{line_listed, lines_listed}

module _ (here : CentreLine) (all : List ℕ) (number : ℕ) (rest : List ℕ) where
  -- what is written, and what is left
  abbrev pub Left : Option (List ℕ) → Option (List ℕ) → ℕ → List ℕ → Type 0
  Left a b n xs = (out : List ℕ) × Appends a b out × (all ≡ out ++ lines_listed here n (lines_of xs))

  module _ (a b : Option (List ℕ)) (left : Left a b number rest) where
    -- a line is listed that has more behind it
    pub one_more : (c : Option (List ℕ)) (line more : List ℕ) (n : ℕ) → lines_of rest ≡ line ∷ lines_of more → n ≡ next number →
        Appends b c (line_listed number here line) → Left a c n more
    one_more c line more n cut e p = (
      left.0 ++ line_listed number here line,
      appends_join a b c left.0 (line_listed number here line) left.1 p,
      left.2
          ∙ ap (λ ls. left.0 ++ lines_listed here number ls) cut
          ∙ ap (λ k. left.0 ++ (line_listed number here line ++ lines_listed here k (lines_of more))) (sym e)
          ∙ sym (append_assoc left.0 (line_listed number here line) (lines_listed here n (lines_of more))),
    )

    -- and the last one
    pub last_one : {E : Type 0} (c : Option (List ℕ)) (r : Result (Unit {0}) E) → lines_of rest ≡ rest ∷ [] →
        OnOk r (Appends b c (line_listed number here rest)) → OnOk r (Appends a c all)
    last_one c (Ok u) cut p =
        let ends : all ≡ left.0 ++ line_listed number here rest =
        left.2
        ∙ ap (λ (ls : List (List ℕ)). left.0 ++ lines_listed here number ls) cut
        ∙ ap (λ (t : List ℕ). left.0 ++ t) (append-nil (line_listed number here rest)) in
        subst (Appends a c) (sym ends) (appends_join a b c left.0 (line_listed number here rest) left.1 p)
    last_one c (Err e) cut p = tt

-- The parser's constructs, from the keyword that begins each.
use Rattle.std.proofs.Common.{◌≡◌, ℕ, ◌+◌, ◌<◌, List, ◌∷◌, true, Result, Ok, Err, refl}
use Rattle.janus_syntax.specs.declared.token.Span.{Span}
use Rattle.janus_syntax.specs.declared.token.Keyword.{Keyword}
use Rattle.janus_syntax.specs.declared.token.Keyword.TheVariants as keyword
use Rattle.janus_syntax.specs.declared.problem.Problem.{Problem}
use Rattle.janus_syntax.specs.Tokens.{Token, Keyword_of}
use Rattle.janus_syntax.specs.Tree.{Stm}
use Rattle.janus_syntax.specs.Forms.{Local}
use Rattle.janus_syntax.specs.Grammar.{depth_limit}
use Rattle.janus_syntax.specs.Reading.{Reads, IsPart, FailsPart}
use Rattle.janus_syntax.specs.Statements.{opens_construct, IsStm, FailsStm, IsIf, FailsIf, IsLoop, FailsLoop}
use Rattle.janus_syntax.proofs.Steps.{passes_on}
use Rattle.janus_syntax.proofs.Assignments.{if_begins, if_stops, from_begins, from_stops}
use Rattle.janus_syntax.proofs.Locals.{local_begins, local_stops}

module _ {X : Type 0} (place : Span) (d : ℕ) (room : d < depth_limit) (from : List Token) (stm : X → Stm) (rest : X → List Token) where
  pub if_result : (r : Result X Problem) → Reads (λ x. IsIf (d + 1) (stm x) from (rest x)) (FailsIf (d + 1) from) r →
      Reads (λ x. IsStm d (stm x) (Keyword_of keyword.If place ∷ from) (rest x)) (FailsStm d (Keyword_of keyword.If place ∷ from)) r
  if_result (Ok x) h = if_begins place room h
  if_result (Err e) h = passes_on (FailsIf (d + 1) from) (FailsStm d (Keyword_of keyword.If place ∷ from)) e h (λ out f. if_stops place d from out room f)

  pub from_result : (r : Result X Problem) → Reads (λ x. IsLoop (d + 1) (stm x) from (rest x)) (FailsLoop (d + 1) from) r →
      Reads (λ x. IsStm d (stm x) (Keyword_of keyword.From place ∷ from) (rest x)) (FailsStm d (Keyword_of keyword.From place ∷ from)) r
  from_result (Ok x) h = from_begins place room h
  from_result (Err e) h =
      passes_on (FailsLoop (d + 1) from) (FailsStm d (Keyword_of keyword.From place ∷ from)) e h (λ out f. from_stops place d from out room f)

  pub local_result : (r : Result X Problem) → Reads (λ x. IsPart Local (d + 1) (stm x) from (rest x)) (FailsPart Local (d + 1) from) r →
      Reads (λ x. IsStm d (stm x) (Keyword_of keyword.Local place ∷ from) (rest x)) (FailsStm d (Keyword_of keyword.Local place ∷ from)) r
  local_result (Ok x) h = local_begins place room h
  local_result (Err e) h =
      passes_on (FailsPart Local (d + 1) from) (FailsStm d (Keyword_of keyword.Local place ∷ from)) e h (λ out f. local_stops place d from out room f)

-- a keyword that begins a construct, and is neither of these
pub is_local : (w : Keyword) → opens_construct w ≡ true → (w ≡ keyword.If → ⊥) → (w ≡ keyword.From → ⊥) → w ≡ keyword.Local
is_local keyword.If o f g = absurd (f refl)
is_local keyword.From o f g = absurd (g refl)
is_local keyword.Local o f g = refl
is_local _ o f g = absurd cc

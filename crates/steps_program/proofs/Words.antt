-- The words of a line.
use Rattle.std.proofs.Common.{◌≡◌, ◌∙◌, ℕ, ◌<◌, nat_lt, List, length, if◌then◌else◌, sym, ap, ap₂, arith, false}
use Rattle.std.specs.List.{position_or_len, before_first, after_first}
use Rattle.std.specs.Str.{trim}
use Rattle.std.proofs.lemmas.Bool.{lt-ltb}
use Rattle.steps_program.specs.Commands.{asked_by, asked_with, asked_alone, is_space}

-- a space parts them
pub parted : (line first word : List ℕ) → position_or_len is_space line < length line → first ≡ before_first is_space line →
    word ≡ trim (after_first is_space line) → asked_with first word ≡ asked_by line
parted line first word l e f =
    ap₂ asked_with e f
    ∙ sym (ap (λ b. if b then asked_with (before_first is_space line) (trim (after_first is_space line)) else asked_alone line)
    (lt-ltb (position_or_len is_space line) (length line) l))

pub whole : (line : List ℕ) → position_or_len is_space line ≡ length line → asked_alone line ≡ asked_by line
whole line e =
    sym (ap (λ b. if b then asked_with (before_first is_space line) (trim (after_first is_space line)) else asked_alone line) past)
  where
    past : nat_lt (position_or_len is_space line) (length line) ≡ false
    past = ap (λ n. nat_lt n (length line)) e ∙ same (length line)
      where
        same : (n : ℕ) → nat_lt n n ≡ false
        same n = grind arith

-- The names that a step reads, one after the other.
use Rattle.std.proofs.Common.{◌≡◌, ◌∙◌, ℕ, suc, ◌+◌, ◌-◌, ◌<◌, ◌≤◌, Bool, true, false, ◌&&◌, List, [], ◌∷◌, ◌++◌, length, drop}
use Rattle.std.proofs.Common.{get_or, codes, refl, ap, sym, arith}
use Rattle.std.specs.Prelude.{Option, Some, Err, nat_eq, slice_get, if◌then◌else◌}
use Rattle.std.specs.Option.{option_eq}
use Rattle.janus_meaning.specs.Syntax.{Name}
use Rattle.janus_meaning.specs.Store.{Store, same_name}
use Rattle.janus_meaning.specs.World.{listed}
use Rattle.janus_syntax.specs.declared.fault.SyntaxFault.{SyntaxFault}
use Rattle.janus_syntax.specs.declared.fault.SyntaxFault.TheVariants as syntax
use Rattle.janus_syntax.specs.declared.token.Token.{Token}
use Rattle.janus_places.specs.Table.{slot_of}
use Rattle.kernel_text.specs.ValueTexts.{value_text}
use Rattle.cells_program.specs.Lines.{ended_line}
use Rattle.steps_walk.specs.Slots.{slot, slot_in}
use Rattle.steps_walk.specs.Values.{value_or_lent}
use Rattle.steps_walk.proofs.Lists.{drop_at, drop_none, length_drop}
use Rattle.steps_walk.proofs.Sights.{is_slot}
use Rattle.steps_program.specs.Told.{TellsTokens, read_line, reads_text, stands_among}

module _ (s : Store) (ts : List Token) (all : List Name) where
  module _ (x : Name) (k : ℕ) (r : Option ℕ) (found : slot_of r ≡ slot_in all x) where
    abbrev line : List ℕ
    line = codes "  " ++ ended_line (value_text (x, value_or_lent (slice_get (listed s) k)))

    newest : (b : Bool) → option_eq nat_eq r (Some k) ≡ b → same_name (slot_in all x) (slot k) ≡ b
    newest b e = ap (λ n. same_name n (slot k)) (sym found) ∙ sym (is_slot r k) ∙ e

    pub hidden : option_eq nat_eq r (Some k) ≡ false → [] ≡ read_line s ts all x k
    hidden e = sym (ap (λ b. if b && stands_among ts x then line else []) (newest false e))

    pub not_there : stands_among ts x ≡ false → option_eq nat_eq r (Some k) ≡ true → [] ≡ read_line s ts all x k
    not_there f e =
        sym (ap (λ b. if b && stands_among ts x then line else []) (newest true e) ∙ ap (λ b. if b then line else []) f)

    pub there : stands_among ts x ≡ true → option_eq nat_eq r (Some k) ≡ true →
        codes "  " ++ ended_line (value_text (x, value_or_lent (slice_get (listed s) k))) ≡ read_line s ts all x k
    there f e = sym (ap (λ b. if b && stands_among ts x then line else []) (newest true e) ∙ ap (λ b. if b then line else []) f)

  module _ (g : List Name) (k : ℕ) where
    pub none_told : [] ≡ reads_text s ts all (drop (length g - 0) g)
    none_told = sym (ap (reads_text s ts all) (drop_none g (length g - 0) (omega arith)))

    pub all_told : length g ≤ k → reads_text s ts all (drop (length g - k) g) ≡ reads_text s ts all g
    all_told past = let z : length g - k ≡ 0 = omega (arith, past) in ap (λ n. reads_text s ts all (drop n g)) z

    pub next_told : (x : Name) → k < length g → x ≡ get_or g (length g - 1 - k) x →
        reads_text s ts all (drop (length g - (k + 1)) g) ≡ reads_text s ts all (drop (length g - k) g) ++ read_line s ts all x k
    next_told x within is =
        let i : length g - (k + 1) ≡ length g - 1 - k = omega arith in
        let z : suc (length g - 1 - k) ≡ length g - k = omega (arith, within) in
        let low : length g - 1 - k < length g = omega (arith, within) in
        let size : length (drop (length g - k) g) ≡ k = omega (arith, length_drop g (length g - k), within) in
        ap (λ n. reads_text s ts all (drop n g)) i
        ∙ ap (reads_text s ts all) (drop_at g (length g - 1 - k) x low (sym is))
        ∙ ap (λ n. reads_text s ts all (x ∷ drop n g)) z
        ∙ ap (λ n. reads_text s ts all (drop (length g - k) g) ++ read_line s ts all x n) size

-- a text that has no tokens reads nothing
pub quiet : (s : Store) (g : List Name) (fault : SyntaxFault) → (fault ≡ syntax.Memory → ⊥) → TellsTokens s g (Err fault) []
quiet s g (syntax.BadToken at) other = refl
quiet s g (syntax.Expected what at) other = refl
quiet s g (syntax.NumberTooLarge at) other = refl
quiet s g (syntax.TooNested at) other = refl
quiet s g (syntax.DelocalName at) other = refl
quiet s g syntax.Memory other = absurd (other refl)

-- Three numbers compared one after the other.
use Rattle.std.proofs.Common.{◌≡◌, ℕ, true, false, arith}
use Rattle.std.proofs.lemmas.Bool.Decides.{nat_tests}
use Rattle.janus_check.specs.Fault.{is_earlier}

pub earlier-self : (a b c : ℕ) → is_earlier a b c a b c ≡ false
earlier-self a b c = grind (arith, nat_tests)

pub earlier-other : (a b c x y z : ℕ) → is_earlier a b c x y z ≡ true → is_earlier x y z a b c ≡ false
earlier-other a b c x y z h = grind (arith, nat_tests)

pub earlier-through : (a b c x y z p q r : ℕ) → is_earlier x y z a b c ≡ false → is_earlier p q r x y z ≡ false → is_earlier p q r a b c ≡ false
earlier-through a b c x y z p q r h k = grind (arith, nat_tests)

pub same-first : (a b c x y z : ℕ) → is_earlier a b c x y z ≡ false → is_earlier x y z a b c ≡ false → a ≡ x
same-first a b c x y z h k = grind (arith, nat_tests)

pub same-second : (a b c x y z : ℕ) → is_earlier a b c x y z ≡ false → is_earlier x y z a b c ≡ false → b ≡ y
same-second a b c x y z h k = grind (arith, nat_tests)

pub same-third : (a b c x y z : ℕ) → is_earlier a b c x y z ≡ false → is_earlier x y z a b c ≡ false → c ≡ z
same-third a b c x y z h k = grind (arith, nat_tests)

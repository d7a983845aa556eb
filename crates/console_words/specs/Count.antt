-- Numbers of cells and of nodes, as words.
use Rattle.std.specs.Prelude.{ℕ, Bool, ◌&&◌, nat_le, nat_lt, List, length}
use Rattle.std.specs.List.{list_all}
use Rattle.std.specs.Char.{is_ascii_digit}
use Rattle.std.specs.Str.Parse.{digits_value}

-- 1 to 10 digits
abbrev pub is_short_number : List ℕ → Bool
is_short_number ds = nat_le 1 (length ds) && (nat_le (length ds) 10 && list_all is_ascii_digit ds)

-- 1 to 10 digits that write at most 4294967295
abbrev pub is_count : List ℕ → Bool
is_count ds = is_short_number ds && nat_lt (digits_value 10 ds) 4294967296

-- The answers of an office in columns.
use Rattle.std.specs.Prelude.{ℕ, ◌%◌, ◌&&◌, [], ◌==◌, nat_le, nat_lt}
use Rattle.offices.specs.Model.{OfficeModel}

abbrev pub columns_model : ℕ → OfficeModel
columns_model n = record {
  roles = n;
  over = λ a b. nat_lt a n && (nat_lt b n && (a % 8 == b % 8 && nat_le b a));
  shared = λ a. nat_lt a n && (a % 2 == 0);
  sets = [];
}
